use Rattle.search.proofs.Promising.{says_truly}
use Rattle.search.proofs.search.Search.verdict.Goals as goal

pub returns-clause-promise : goal.returns-clause-promise
returns-clause-promise g c = says_truly _ c.args.self.now.at
