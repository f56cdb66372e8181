use Rattle.std.proofs.Common.{map, vec_items, ap}
use Rattle.name_list.specs.Names.{listable, listable_behind}
use Rattle.name_list.proofs.list.NameList.new.Goals as goal

pub invariant_of-result : goal.invariant_of-result
unfolding listable_behind
invariant_of-result c = (ap (λ ns. listable (map vec_items ns)) c.new.ensures.items, tt)
