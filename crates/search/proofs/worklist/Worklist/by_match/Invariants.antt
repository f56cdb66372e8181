use Rattle.search.specs.Model.{by_return}
use Rattle.search.proofs.Worklists.{Gone}
use Rattle.search.proofs.worklist.Worklist.by_match.Given as goal

abbrev pub invariant-loop-opened : goal.invariant-loop-opened
invariant-loop-opened g l = Gone l.initial.self (λ A eq items. by_return A eq items l.first l.second) l.self l.opened
