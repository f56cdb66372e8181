use Rattle.std.proofs.Common.{map, vec_items, ap, ◌∙◌}
use Rattle.name_list.specs.Names.{number_of}
use Rattle.name_list.proofs.Held.{number_by_position}
use Rattle.name_list.proofs.list.NameList.find.Goals as goal

pub returns : goal.returns
returns c =
    let n = c.args.name.now in
    number_by_position n _ _ c.find_in.ensures ∙ ap (λ vs. number_of (map vec_items vs) n) c.deref.ensures.value ∙ ap (λ l. number_of l.names n) c.self.view_is
