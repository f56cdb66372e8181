-- What performing a call comes to.
use Rattle.std.specs.Prelude.{◌≡◌, ℕ, Bool, cond, List, vec_items, Option, Result}
use Rattle.nested.specs.Automata.{Automaton}
use Rattle.nested.specs.declared.refusal.Refusal.{Refusal}
use Rattle.search.specs.Boards.{board}
use Rattle.search.specs.Calls.{Advances, GivesWord, reported}
use Rattle.search.specs.Law.{IfAdvanced, IfHanded, IfOpened, RowsRefused, TurnsRefused, have}
use Rattle.search.specs.Model.{Board, opened, places}
use Rattle.search.specs.declared.call.Answer.{Answer}
use Rattle.search.specs.declared.call.Answer.TheVariants.{Said}
use Rattle.search.specs.declared.call.Call.{Call}
use Rattle.search.specs.declared.call.Call.TheVariants as call
use Rattle.search.specs.declared.call.Rows.{Rows}
use Rattle.search.specs.declared.perform.Kept.{Kept}
use Rattle.search.specs.declared.unwritten.Unwritten.{Unwritten}

module _ {S : Type 0} where
  -- a search, and the rows that are kept for it
  abbrev pub kept_board : Kept S → Board S
  kept_board k = board k.search.at (vec_items k.rows.items) (vec_items k.rows.makings)

  module _ (b : Board S) where
    -- a call has rows of the lengths at opening
    abbrev pub brings : Option (Rows S) → Bool
    brings = have b.at.item_row b.at.making_row

    -- With rows of the lengths at opening: as with the kept ones. Else: refused, and all is as it was.
    abbrev pub AdvancesWith : Automaton S → (S → S → Bool) → ℕ → Option (Rows S) → Board S → Result ℕ Refusal → Type 0
    AdvancesWith A eq n other after r = cond (brings other) (Advances b A eq n after r) ((after ≡ b) × TurnsRefused r)

    abbrev pub GivesWordWith : Option (Rows S) → List ℕ → List ℕ → Result ℕ Unwritten → Type 0
    GivesWordWith other was now r = cond (brings other) (GivesWord b was now r) (RowsRefused was r now)

    -- what a call answers, and what it leaves behind
    abbrev pub Answered : Automaton S → (S → S → Bool) → Call S → Answer → Board S → Type 0
    Answered A eq (call.Open rows) a after = (after ≡ opened A eq (vec_items rows.items) (vec_items rows.makings)) × IfOpened (λ p. p ≡ places after.at) a
    Answered A eq (call.Advance n other) a after = IfAdvanced (AdvancesWith A eq n other after) a
    Answered A eq call.Verdict a after = (after ≡ b) × (a ≡ Said (reported b.at))
    Answered A eq (call.Word buffer other) a after = (after ≡ b) × IfHanded (λ r now. GivesWordWith other (vec_items buffer) now r) a
