-- A word followed with a sheet.
use Rattle.std.specs.Prelude.{◌≡◌, ℕ, List, length, Decides}
use Rattle.nested.specs.Following.{Unrefused}
use Rattle.nested.specs.Letters.{letters}
use Rattle.nested.specs.Reading.{unclosed_calls}
use Rattle.nested.specs.declared.standing.Standing.{Standing}
use Rattle.sheets.specs.Moves.{Description}
use Rattle.sheets.specs.Runs.{AcceptingRun}

-- The standing after the whole list of codes, over a row of `row` mark places: every code was read; the standing accepts exactly if
-- some run of the automaton on the word ends in an accepting state; the open calls are the calls of the word that are never closed.
pub record ReadByRuns (d : Description) (row : ℕ) (codes : List ℕ) (r : Standing) : Type 0 where
  pub unrefused : Unrefused row codes (length codes)
  pub accepts : Decides r.accepts (AcceptingRun d (letters codes))
  pub unclosed : r.«open» ≡ unclosed_calls (letters codes)
