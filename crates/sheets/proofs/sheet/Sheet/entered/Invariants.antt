use Rattle.std.proofs.Common.{◌≡◌, ℕ, ◌%◌, ◌<◌, get_or, take, vec_items}
use Rattle.sheets.specs.Steps.{by_inner, nowhere, onward}
use Rattle.sheets.proofs.sheet.Sheet.entered.Given as goal

abbrev pub invariant-loop-one : goal.invariant-loop-one
invariant-loop-one l = (m : ℕ) → m < 16 → get_or l.row m nowhere ≡ onward l.before (by_inner (take l.«one-index» (vec_items l.self.moves)) l.state.pairs (l.opened % 16) m)
