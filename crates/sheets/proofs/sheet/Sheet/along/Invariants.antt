use Rattle.std.proofs.Common.{take, vec_items}
use Rattle.sheets.specs.Loops.{AddsUp}
use Rattle.sheets.proofs.sheet.Sheet.along.Given as goal

abbrev pub invariant-loop-one : goal.invariant-loop-one
invariant-loop-one g l = AddsUp (goal.F-post g l.adds) (take l.«one-index» (vec_items l.self.moves)) l.reached
