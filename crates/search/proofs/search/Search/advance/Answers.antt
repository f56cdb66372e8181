use Rattle.std.proofs.Common.{rules}
use Rattle.search.specs.Boards.{board}
use Rattle.search.proofs.Promising.{advances_on}
use Rattle.search.proofs.search.Search.advance.Goals as goal

pub returns-clause-carries : goal.returns-clause-carries
returns-clause-carries g c = advances_on (g.M.Machine.meaning c.args.question.now) (g.M.Machine.equal c.args.question.now) (board c.args.self.now.at c.args.items.now c.args.makings.now) _ c.args.n (search rules)
