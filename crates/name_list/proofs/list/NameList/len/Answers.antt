use Rattle.std.proofs.Common.{arith}
use Rattle.name_list.specs.Names.{names_of}
use Rattle.name_list.proofs.Held.{names_length}
use Rattle.name_list.proofs.Loading.{few_listable}
use Rattle.name_list.proofs.list.NameList.len.Goals as goal

pub returns-clause-few : goal.returns-clause-few
returns-clause-few c =
    let v = c.self.inside.names in
    let few = few_listable (names_of v) c.self.inside.in_order in
    let long = names_length v in
    let len = c.len.ensures in
    omega arith
