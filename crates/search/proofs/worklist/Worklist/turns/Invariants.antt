use Rattle.search.specs.Worklists.{SameLoan, board_of}
use Rattle.search.proofs.Loops.{Turned}
use Rattle.search.proofs.worklist.Worklist.turns.Given as goal

abbrev pub invariant-loop-done : goal.invariant-loop-done
invariant-loop-done g l =
    SameLoan l.initial.self l.self
    × Turned (g.M.Machine.meaning l.initial.self.question.now) (g.M.Machine.equal l.initial.self.question.now) (board_of l.initial.self) l.n l.done (board_of l.self)
