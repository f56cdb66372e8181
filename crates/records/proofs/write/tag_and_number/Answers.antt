use Rattle.std.proofs.Common.{sym}
use Rattle.records.proofs.Writing.{letter_here, letter_parts}
use Rattle.records.proofs.write.tag_and_number.Goals as goal

pub returns : goal.returns
returns c =
    let (_, tag, number) = letter_parts c.args.code _ (letter_here c.args.code c.requires) in
    record { tag = sym tag; number = sym number }
