use Rattle.sheets.proofs.Masks.{identity_mask}
use Rattle.sheets.proofs.sheet.Sheet.identity.Goals as goal

pub returns : goal.returns
returns c = identity_mask c.args.self.now.states c.args.self.now.few_states
