use Rattle.std.proofs.Common.{◌≡◌, true, false, mod-eq_of_lt, arith, rules}
use Rattle.search.specs.Model.{by_return}
use Rattle.search.proofs.Candidates.{is_at, of_names, return_inside, return_of, return_outside}
use Rattle.search.proofs.Worklists.{enters_as, enters_none}
use Rattle.search.proofs.worklist.Worklist.by_return.Goals as goal

pub returns-then-not-same : goal.returns-then-not-same
returns-then-not-same g c =
    let A = g.M.Machine.meaning c.args.self.now.question.now in
    let eq = g.M.Machine.equal c.args.self.now.question.now in
    let items = c.args.self.now.items.now in
    let before = c.index-self-first.result in
    let inside = c.index-self-second.result in
    let named = mod-eq_of_lt c.requires.name in
    let outside : eq (A.call before.present c.args.opened) inside.entry ≡ false = search rules in
    enters_none c.args.self.now (λ A eq items. by_return A eq items c.args.first c.args.second c.args.opened)
    (return_outside A eq items c.args.first c.args.second before inside (is_at A items c.args.first before (omega arith) c.index-self-first.is) (is_at A items c.args.second inside (omega arith) c.index-self-second.is) c.args.opened outside)

pub returns : goal.returns
returns g c =
    let A = g.M.Machine.meaning c.args.self.now.question.now in
    let eq = g.M.Machine.equal c.args.self.now.question.now in
    let items = c.args.self.now.items.now in
    let before = c.index-self-first.result in
    let inside = c.index-self-second.result in
    let named = mod-eq_of_lt c.requires.name in
    let within : eq (A.call before.present c.args.opened) inside.entry ≡ true = search rules in
    let made = return_of A c.args.first c.args.second before inside c.args.opened in
    enters_as c.args.self.now c.enter_each.new.self (λ A eq items. of_names A made) (λ A eq items. by_return A eq items c.args.first c.args.second c.args.opened)
    (c.enter_each.ensures made (λ name x lt post. let same = mod-eq_of_lt lt in search rules))
    (return_inside A eq items c.args.first c.args.second before inside (is_at A items c.args.first before (omega arith) c.index-self-first.is) (is_at A items c.args.second inside (omega arith) c.index-self-second.is) c.args.opened within)
