use Rattle.std.proofs.Common.{ap, mod-eq_of_lt, arith, rules}
use Rattle.search.specs.Model.{by_internal}
use Rattle.search.proofs.Candidates.{internal_of, is_at, of_names}
use Rattle.search.proofs.Worklists.{enters_as}
use Rattle.search.proofs.worklist.Worklist.by_internal.Goals as goal

pub returns : goal.returns
returns g c =
    let A = g.M.Machine.meaning c.args.self.now.question.now in
    let made = internal_of A c.args.number c.index-self-number.result in
    enters_as c.args.self.now c.enter_each.new.self (λ A eq items. of_names A made) (λ A eq items. by_internal A eq items c.args.number)
    (c.enter_each.ensures made (λ name x lt post. let same = mod-eq_of_lt lt in search rules))
    (ap (λ x. of_names A (internal_of A c.args.number x)) (is_at A c.args.self.now.items.now c.args.number c.index-self-number.result (omega arith) c.index-self-number.is))
