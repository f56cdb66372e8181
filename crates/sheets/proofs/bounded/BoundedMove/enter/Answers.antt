use Rattle.std.proofs.Common.{◌%◌, rules}
use Rattle.sheets.proofs.Visits.{enter_else, enter_hit, enter_miss}
use Rattle.sheets.proofs.bounded.BoundedMove.enter.Goals as goal

pub returns-then-name-opened : goal.returns-then-name-opened
returns-then-name-opened c = enter_hit c.args.before c.args.state.pairs (c.args.opened % 16) c.args.self.of c.args.row.now c.in-Call.from c.in-Call.name c.in-Call.to c.in-Call.mark c.in-Call.is (search rules) c.from.result _ c.spread.result _ c.if-name-opened.true c.from.ensures (search rules) c.spread.ensures c.bitor_assign.ensures.after

pub returns-else-name-opened : goal.returns-else-name-opened
returns-else-name-opened c = enter_miss c.args.before c.args.state.pairs (c.args.opened % 16) c.args.self.of c.args.row.now c.in-Call.from c.in-Call.name c.in-Call.to c.in-Call.mark c.in-Call.is (search rules) c.if-name-opened.false

pub returns-in_default : goal.returns-in_default
returns-in_default c = enter_else c.args.before c.args.state.pairs (c.args.opened % 16) c.args.self.of c.args.row.now c.in_default.not-Call
