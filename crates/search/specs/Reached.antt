-- What lists of calls lead to, and how many items can be derived.
use Rattle.std.specs.Prelude.{◌≡◌, ℕ, ◌+◌, ◌<◌, Bool, true, List, [], length, take, ◌≢◌, slice_index_or}
use Rattle.std.specs.List.{AllByRecursion}
use Rattle.nested.specs.Automata.{Automaton}
use Rattle.items.specs.Items.{IsDerivable}
use Rattle.items.specs.declared.item.Item.{Item}
use Rattle.items.specs.declared.making.Making.{Making}
use Rattle.search.specs.Model.{Board, opened, places, turns_done, unopened}

-- a test of equal states that says yes exactly for equal ones
pub record Lawful {S : Type 0} (eq : S → S → Bool) : Type 0 where
  pub only : (s u : S) → eq s u ≡ true → s ≡ u
  pub itself : (s : S) → eq s s ≡ true

-- The caller brings rows of the lengths at opening, whose places are as the search left them; what lies beyond the places is free.
pub record AsLeft {S : Type 0} (b brought : Board S) : Type 0 where
  pub search : brought.at ≡ b.at
  pub item_length : length brought.items ≡ b.at.item_row
  pub making_length : length brought.makings ≡ b.at.making_row
  pub items : take (places b.at) brought.items ≡ take (places b.at) b.items
  pub makings : take (places b.at) brought.makings ≡ take (places b.at) b.makings

module _ {S : Type 0} (A : Automaton S) where
  -- More than n items can be derived: here are so many, no two of them one.
  pub record MoreDerivable (n : ℕ) : Type 0 where
    pub some : List (Item S)
    pub derivable : AllByRecursion (IsDerivable A) some
    pub distinct : (j k : ℕ) (d : Item S) → j < k → k < length some → slice_index_or some j d ≢ slice_index_or some k d
    pub more : n < length some

  -- The searches, with the rows as they left them, that a list of calls with this one question leads to, and the turns requested since
  -- the latest opening. Verdict, word and refused calls alter nothing.
  pub data Reached (eq : S → S → Bool) : Board S → ℕ → Type 0 where
    new : Reached eq (record { at = unopened; items = []; makings = [] }) 0
    open_again : (b : Board S) (requested : ℕ) (items : List (Item S)) (makings : List Making) → Reached eq b requested → Reached eq (opened A eq items makings) 0
    advance : (b brought : Board S) (requested n : ℕ) → Reached eq b requested → AsLeft b brought → Reached eq (turns_done A eq n brought) (requested + n)
