use Rattle.std.proofs.Common.{rules}
use Rattle.sheets.specs.Steps.{by_letter}
use Rattle.sheets.proofs.Loops.{additive_letter}
use Rattle.sheets.proofs.sheet.Sheet.read.Goals as goal

pub returns : goal.returns
returns c = c.along.ensures c.args.state (λ ms. by_letter ms c.args.letter) (additive_letter c.args.letter) (λ m x adds. search rules)
