use Rattle.std.proofs.Common.{ℕ, sym, ap, ◌∙◌, arith}
use Rattle.search.specs.Model.{by_match}
use Rattle.search.specs.Worklists.{board_of}
use Rattle.search.proofs.Boards.{later_more, later_not}
use Rattle.search.proofs.Candidates.{match_later}
use Rattle.search.proofs.Worklists.{enters_later, gone_all, gone_by, gone_not, gone_to}
use Rattle.search.proofs.worklist.Worklist.match_each.Goals as goal

pub loop-k-init : goal.loop-k-init
loop-k-init g c = (
  later_not (board_of c.args.self.now) c.args.self.now.fitting,
  λ pairs computes. gone_not c.args.self.now (λ A eq items k. by_match A eq items (pairs k).0 (pairs k).1),
)

pub returns-then-is_final : goal.returns-then-is_final
returns-then-is_final g c pairs computes =
    let loop = c.loop-k in
    gone_all c.args.self.now (λ A eq items k. by_match A eq items (pairs k).0 (pairs k).1) loop.self loop.k (loop.invariant.1 pairs computes) c.args.count (omega arith) (sym c.is_final.ensures ∙ c.if-is_final.true)

pub loop-k-preserved : goal.loop-k-preserved
loop-k-preserved g c =
    let A = g.M.Machine.meaning c.args.self.now.question.now in
    let eq = g.M.Machine.equal c.args.self.now.question.now in
    let start = c.args.self.now in
    let loop = c.loop-k in
    let next = c.by_match.new.self in
    let pair = c.pair-first.result in
    let (later, gone) = loop.invariant in
    let (first, second) = c.requires.there loop.k pair c.loop-k-test.true c.pair-first.ensures in
    let step = c.by_match.ensures in (
      later_more (board_of start) (board_of loop.self) (board_of next) later (enters_later loop.self next (λ A eq items. by_match A eq items pair.0 pair.1) step),
      λ pairs computes. gone_by start (λ A eq items k. by_match A eq items (pairs k).0 (pairs k).1) loop.self loop.k (gone pairs computes) next (λ A eq items. by_match A eq items pair.0 pair.1) step
          (match_later A eq (board_of start) (board_of loop.self) later pair.0 pair.1 first second ∙ ap (λ (p : ℕ × ℕ). by_match A eq start.items.now p.0 p.1) (computes loop.k pair c.loop-k-test.true c.pair-first.ensures)),
    )

pub returns : goal.returns
returns g c pairs computes =
    let loop = c.loop-k in
    gone_to c.args.self.now (λ A eq items k. by_match A eq items (pairs k).0 (pairs k).1) loop.self loop.k c.args.count (loop.invariant.1 pairs computes) (omega arith)
