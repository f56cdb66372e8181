use Rattle.std.proofs.Common.{rules}
use Rattle.search.specs.Worklists.{board_of}
use Rattle.search.proofs.Opening.{begun_few, begun_left}
use Rattle.search.proofs.Promising.{opens_on}
use Rattle.search.proofs.search.Search.open.Goals as goal

pub invariant_of-self : goal.invariant_of-self
invariant_of-self g c =
    let A = g.M.Machine.meaning c.args.question.now in
    let eq = g.M.Machine.equal c.args.question.now in
    let b = board_of c.enter.new.self in record {
      few = begun_few A eq c.args.items.now c.args.makings.now b c.start-start.result c.start-start.ensures c.enter.ensures.board;
      unhandled = begun_left A eq c.args.items.now c.args.makings.now b c.start-start.result c.start-start.ensures c.enter.ensures.board;
    }

pub returns-clause-carries : goal.returns-clause-carries
returns-clause-carries g c = opens_on (g.M.Machine.meaning c.args.question.now) (g.M.Machine.equal c.args.question.now) c.args.self.now.at c.args.items.now c.args.makings.now _ (search rules)
