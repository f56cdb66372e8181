use Rattle.std.proofs.Common.{ℕ, [], ◌∷◌}
use Rattle.search.specs.Worklists.{Computes}
use Rattle.search.specs.declared.worklist.Candidate.{Candidate}
use Rattle.search.proofs.Worklists.{Gone}
use Rattle.search.proofs.worklist.Worklist.enter_each.Given as goal

abbrev pub invariant-loop-name : goal.invariant-loop-name
invariant-loop-name g l = (made : ℕ → Candidate g.row.M-State.Denot) → Computes 16 (goal.F-post g l.make) made → Gone l.initial.self (λ A eq items name. made name ∷ []) l.self l.name
