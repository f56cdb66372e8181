use Rattle.std.proofs.Common.{◌%◌, rules}
use Rattle.sheets.proofs.Visits.{leave_none, leave_return, not_return}
use Rattle.sheets.proofs.bounded.BoundedMove.leave.Goals as goal
use Rattle.sheets.proofs.bounded.BoundedMove.leave.Goals.{in_default-via-in-Return+else-read-name, in_default-via-in_default}

pub returns-in-Return : goal.returns-in-Return
returns-in-Return c = leave_return c.args.row.now (c.args.name % 16) c.args.self.of _ c.in-Return.from c.in-Return.read c.in-Return.mark c.in-Return.to c.from.result _ c.in-Return.is (search rules) (search rules) c.from.ensures (search rules) c.if-read-name.true c.moved.ensures

pub returns-in_default : goal.returns-in_default
returns-in_default c = leave_none c.args.row.now (c.args.name % 16) c.args.self.of _ c.args.self.in_range
    (elim c.in_default.branch [
      | in_default-via-in-Return+else-read-name w ↦ rw w.in-Return.is w.if-read-name.false
      | in_default-via-in_default w ↦ not_return c.args.self.of _ w.in_default.not-Return
    ]) (search rules)
