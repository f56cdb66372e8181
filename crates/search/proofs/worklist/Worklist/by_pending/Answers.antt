use Rattle.std.proofs.Common.{◌≡◌, true, false, mod-eq_of_lt, arith, rules}
use Rattle.search.specs.Model.{by_pending, is_base}
use Rattle.search.proofs.Candidates.{is_at, of_names, pending_base, pending_inner, pending_of}
use Rattle.search.proofs.Worklists.{enters_as, enters_none}
use Rattle.search.proofs.worklist.Worklist.by_pending.Goals as goal

pub returns-then-ne : goal.returns-then-ne
returns-then-ne g c =
    let A = g.M.Machine.meaning c.args.self.now.question.now in
    let eq = g.M.Machine.equal c.args.self.now.question.now in
    let items = c.args.self.now.items.now in
    let from = c.index-self-number.result in
    let inner : is_base from.level ≡ false = search rules in
    enters_none c.args.self.now (λ A eq items. by_pending A eq items c.args.number)
    (pending_inner A eq items c.args.number from (is_at A items c.args.number from (omega arith) c.index-self-number.is) inner)

pub returns : goal.returns
returns g c =
    let A = g.M.Machine.meaning c.args.self.now.question.now in
    let eq = g.M.Machine.equal c.args.self.now.question.now in
    let items = c.args.self.now.items.now in
    let from = c.index-self-number.result in
    let made = pending_of A c.args.number from in
    let base : is_base from.level ≡ true = search rules in
    enters_as c.args.self.now c.enter_each.new.self (λ A eq items. of_names A made) (λ A eq items. by_pending A eq items c.args.number)
    (c.enter_each.ensures made (λ name x lt post. let same = mod-eq_of_lt lt in search rules))
    (pending_base A eq items c.args.number from (is_at A items c.args.number from (omega arith) c.index-self-number.is) base)
