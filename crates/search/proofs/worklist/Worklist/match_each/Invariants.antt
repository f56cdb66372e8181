use Rattle.std.proofs.Common.{ℕ}
use Rattle.search.specs.Model.{by_match}
use Rattle.search.specs.Worklists.{Computes, board_of}
use Rattle.search.proofs.Boards.{Later}
use Rattle.search.proofs.Worklists.{Gone}
use Rattle.search.proofs.worklist.Worklist.match_each.Given as goal

abbrev pub invariant-loop-k : goal.invariant-loop-k
invariant-loop-k g l =
    Later (board_of l.initial.self) (board_of l.self)
    × ((pairs : ℕ → ℕ × ℕ) → Computes l.count (goal.F-post g l.pair) pairs → Gone l.initial.self (λ A eq items k. by_match A eq items (pairs k).0 (pairs k).1) l.self l.k)
