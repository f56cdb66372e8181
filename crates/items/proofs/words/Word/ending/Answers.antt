use Rattle.std.proofs.Common.{rules}
use Rattle.std.proofs.lemmas.Option.{gets}
use Rattle.items.proofs.Endings.{ends}
use Rattle.items.proofs.words.Word.ending.Goals as goal

pub returns : goal.returns
returns c = ends c.args.makings.now c.args.self.part c.args.self.number c.map_or.result c.ending_by.result (search (rules, gets)) c.ending_by.ensures
