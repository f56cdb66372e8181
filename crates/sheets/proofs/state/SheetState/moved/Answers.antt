use Rattle.sheets.proofs.Onward.{moved_sets}
use Rattle.sheets.proofs.state.SheetState.moved.Goals as goal

pub returns : goal.returns
returns c = moved_sets c.args.self c.args.from c.requires.from_bound c.args.to c.requires.to_bound
