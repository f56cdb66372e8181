-- Sheets as the library holds them.
use Rattle.std.specs.Prelude.{vec_items}
use Rattle.sheets.specs.Moves.{Description}
use Rattle.sheets.specs.declared.sheet.Sheet.{Sheet}

-- the automaton that a sheet describes
abbrev pub described : Sheet → Description
described s = record { states = s.states; start = s.start; accepting = s.accepting; moves = vec_items s.moves }
