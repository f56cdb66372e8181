use Rattle.std.proofs.Common.{◌≡◌, true, false, sym, ◌∙◌, arith, rules}
use Rattle.search.specs.Model.{by_match, by_return, is_base}
use Rattle.search.specs.Worklists.{board_of}
use Rattle.search.proofs.Candidates.{is_at, match_base, match_inner, return_later}
use Rattle.search.proofs.Worklists.{enters_as, enters_later, enters_none, gone_all, gone_by, gone_not}
use Rattle.search.proofs.worklist.Worklist.by_match.Goals as goal

pub returns-then-eq : goal.returns-then-eq
returns-then-eq g c =
    let A = g.M.Machine.meaning c.args.self.now.question.now in
    let eq = g.M.Machine.equal c.args.self.now.question.now in
    let items = c.args.self.now.items.now in
    let inside = c.index-self-second.result in
    let base : is_base inside.level ≡ true = search rules in
    enters_none c.args.self.now (λ A eq items. by_match A eq items c.args.first c.args.second)
    (match_base A eq items c.args.first c.args.second inside (is_at A items c.args.second inside (omega arith) c.index-self-second.is) base)

pub loop-opened-init : goal.loop-opened-init
loop-opened-init g c = gone_not c.args.self.now (λ A eq items. by_return A eq items c.args.first c.args.second)

pub returns-then-is_final : goal.returns-then-is_final
returns-then-is_final g c =
    let A = g.M.Machine.meaning c.args.self.now.question.now in
    let eq = g.M.Machine.equal c.args.self.now.question.now in
    let items = c.args.self.now.items.now in
    let inside = c.index-self-second.result in
    let loop = c.loop-opened in
    let inner : is_base inside.level ≡ false = search rules in
    enters_as c.args.self.now loop.self _ (λ A eq items. by_match A eq items c.args.first c.args.second)
    (gone_all c.args.self.now (λ A eq items. by_return A eq items c.args.first c.args.second) loop.self loop.opened loop.invariant 16 (omega arith) (sym c.is_final.ensures ∙ c.if-is_final.true))
    (match_inner A eq items c.args.first c.args.second inside (is_at A items c.args.second inside (omega arith) c.index-self-second.is) inner)

pub by_return-requires : goal.by_return-requires
by_return-requires g c =
    let loop = c.loop-opened in
    let eq = g.M.Machine.equal c.args.self.now.question.now in
    let later = enters_later c.args.self.now loop.self _ loop.invariant in
    let grown = later.grown in
    record { first = omega arith; second = omega arith; name = c.loop-opened-test.true }

pub loop-opened-preserved : goal.loop-opened-preserved
loop-opened-preserved g c =
    let A = g.M.Machine.meaning c.args.self.now.question.now in
    let eq = g.M.Machine.equal c.args.self.now.question.now in
    let loop = c.loop-opened in
    let later = enters_later c.args.self.now loop.self _ loop.invariant in
    gone_by c.args.self.now (λ A eq items. by_return A eq items c.args.first c.args.second) loop.self loop.opened loop.invariant c.by_return.new.self (λ A eq items. by_return A eq items c.args.first c.args.second loop.opened) c.by_return.ensures
    (return_later A eq (board_of c.args.self.now) (board_of loop.self) later c.args.first c.args.second c.requires.first c.requires.second loop.opened)
