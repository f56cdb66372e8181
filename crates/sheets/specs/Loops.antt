-- Steps by the moves of a list, one after the other.
use Rattle.std.specs.Prelude.{◌≡◌, ℕ, Bool, false, ◌||◌, List, [], ◌∷◌, ◌++◌}
use Rattle.sheets.specs.Steps.{Relation, onward}
use Rattle.sheets.specs.declared.bounded.BoundedMove.{BoundedMove}
use Rattle.sheets.specs.declared.moves.Move.{Move}
use Rattle.sheets.specs.declared.state.SheetState.{SheetState}

-- A test of a list of moves that one of them passes: no list of none, and a list and one move more where one of the two does.
pub record Additive (f : List Move → Bool) : Type 0 where
  pub none : f [] ≡ false
  pub more : (ms : List Move) (m : Move) → f (ms ++ m ∷ []) ≡ f ms || f (m ∷ [])

-- Where each move adds the step from s by its part of an additive relation t, the moves add up to the step from s by t.
abbrev pub AddsUp : (BoundedMove → SheetState → Type 0) → List Move → SheetState → Type 0
AddsUp adds ms r =
    (s : SheetState) (t : List Move → Relation) → ((q q' : ℕ) → Additive (λ ns. t ns q q')) → ((m : BoundedMove) (x : SheetState) → adds m x → x ≡ onward s (t (m.of ∷ []))) → r ≡ onward s (t ms)
