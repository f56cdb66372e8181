use Rattle.std.proofs.Common.{◌∙◌}
use Rattle.records.proofs.Writing.{field_put}
use Rattle.records.proofs.write.put_field.Goals as goal

pub returns : goal.returns
returns c =
    field_put c.args.out.now c.args.tag c.args.contents.now c.copy_from_slice.new.self c.copy_from_slice-2.new.self c.requires.room (c.copy_from_slice.ensures.after ∙ c.field_head.ensures) c.copy_from_slice-2.ensures.after
