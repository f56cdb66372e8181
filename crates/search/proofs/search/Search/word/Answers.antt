use Rattle.std.proofs.Common.{Ok, rules}
use Rattle.search.specs.Boards.{board}
use Rattle.search.proofs.Promising.{hands_truly}
use Rattle.search.proofs.search.Search.word.Goals as goal

pub returns-in_err-write_word-clause-promise : goal.returns-in_err-write_word-clause-promise
returns-in_err-write_word-clause-promise g c = hands_truly (board c.args.self.now.at c.args.items.now c.args.makings.now) c.args.out.now c.write_word.new.out c.from_residual.result (search rules)

pub returns-clause-promise : goal.returns-clause-promise
returns-clause-promise g c = hands_truly (board c.args.self.now.at c.args.items.now c.args.makings.now) c.args.out.now c.write_word.new.out (Ok c.in_ok-write_word.field-0) (search rules)
