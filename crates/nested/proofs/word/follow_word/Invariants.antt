use Rattle.std.proofs.Common.{◌≡◌}
use Rattle.nested.proofs.Words.{Followed}
use Rattle.nested.proofs.word.follow_word.Given as goal

abbrev pub invariant-loop-letter : goal.invariant-loop-letter
invariant-loop-letter g l = (l.follower.machine.now ≡ l.machine) × Followed (g.M.Machine.meaning l.machine) l.codes l.initial.marks l.letter-counter l.follower.at l.marks
