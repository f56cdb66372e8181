-- Boards that a search goes on from.
use Rattle.std.specs.Prelude.{◌≡◌, ◌≤◌, Bool, ◌||◌, List, length, nat_lt}
use Rattle.items.specs.declared.item.Item.{Item}
use Rattle.items.specs.declared.making.Making.{Making}
use Rattle.search.specs.Model.{Board, is_final, places}
use Rattle.search.specs.declared.progress.Progress.{Progress}

-- the verdict is final, or some item is not handled yet
abbrev pub can_go_on : Progress → Bool
can_go_on p = is_final p.verdict || nat_lt p.turns p.entered

module _ {S : Type 0} where
  abbrev pub board : Progress → List (Item S) → List Making → Board S
  board at items makings = record { at = at; items = items; makings = makings }

  -- The rows are as long as at opening, and every item that was entered has a place.
  pub record Fitting (b : Board S) : Type 0 where
    pub item_length : length b.items ≡ b.at.item_row
    pub making_length : length b.makings ≡ b.at.making_row
    pub few : b.at.entered ≤ places b.at
