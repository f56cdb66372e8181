use Rattle.std.proofs.Common.{rules}
use Rattle.sheets.proofs.Masks.{sets_meet}
use Rattle.sheets.proofs.machine.SheetMachine.accepts.Goals as goal

pub returns : goal.returns
returns c = sets_meet c.args.state.states c.args.self.now.accepting (search rules) (search rules)
