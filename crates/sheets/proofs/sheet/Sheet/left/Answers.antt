use Rattle.std.proofs.Common.{◌%◌, rules}
use Rattle.sheets.specs.Steps.{by_return}
use Rattle.sheets.proofs.Loops.{additive_return}
use Rattle.sheets.proofs.sheet.Sheet.left.Goals as goal

pub returns : goal.returns
returns c s t holds = c.along.ensures s (λ ms. by_return ms t (c.args.name % 16)) (additive_return t (c.args.name % 16)) (λ m x adds. search rules)
