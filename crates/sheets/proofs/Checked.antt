-- Words followed with a sheet.
use Rattle.std.proofs.Common.{ℕ, ◌≤◌, List, Ok, Err, Result, subst, MatchResult}
use Rattle.nested.specs.Following.{ReadWhole, Stopped}
use Rattle.nested.specs.Letters.{letters}
use Rattle.nested.specs.declared.standing.Standing.{Standing}
use Rattle.nested.specs.declared.standing.Stop.{Stop}
use Rattle.sheets.specs.Following.{ReadByRuns}
use Rattle.sheets.specs.Moves.{InRange}
use Rattle.sheets.specs.Sheets.{described}
use Rattle.sheets.specs.Steps.{sheet_automaton}
use Rattle.sheets.specs.declared.sheet.Sheet.{Sheet}
use Rattle.sheets.proofs.Masks.{has_above, masks_are_sets}
use Rattle.sheets.proofs.RunWords.{accepts_by_runs}

-- what a sheet carries with it
pub sheet_in_range : (s : Sheet) → InRange (described s)
sheet_in_range s = record {
  some_states = s.some_states;
  few_states = s.few_states;
  start_in = s.start_in;
  accepting_in = s.accepting_in;
  few_moves = subst (λ n. n ≤ 256) s.moves.ok.0 s.few_moves;
  moves_in = s.moves_in;
}

pub read_by_runs : (s : Sheet) (row : ℕ) (codes : List ℕ) (r : Standing) → ReadWhole (sheet_automaton (described s)) row codes r → ReadByRuns (described s) row codes r
read_by_runs s row codes r h =
    let by_runs = accepts_by_runs masks_are_sets has_above (described s) (sheet_in_range s) (letters codes) in
    record {
      unrefused = h.unrefused;
      accepts = ((λ e. by_runs.0 (h.accepts.0 e)), (λ run. h.accepts.1 (by_runs.1 run)));
      unclosed = h.unclosed;
    }

pub followed_by_runs : (s : Sheet) (row : ℕ) (codes : List ℕ) (r : Result Standing Stop) → MatchResult r (ReadWhole (sheet_automaton (described s)) row codes) (Stopped row codes) → MatchResult r (ReadByRuns (described s) row codes) (Stopped row codes)
followed_by_runs s row codes (Ok standing) h = read_by_runs s row codes standing h
followed_by_runs s row codes (Err stop) h = h
