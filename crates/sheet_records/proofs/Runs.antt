-- Records followed with a sheet.
use Rattle.std.proofs.Common.{ℕ, List, length, Ok, Err, Result}
use Rattle.name_list.specs.Names.{Name}
use Rattle.nested.specs.declared.mark.Mark.{Mark}
use Rattle.nested.specs.declared.standing.Standing.{Standing}
use Rattle.nested.specs.declared.standing.Stop.{Stop}
use Rattle.records.specs.Checking.{Checks, Followed}
use Rattle.records.specs.declared.check.Unchecked.{Unchecked}
use Rattle.records.specs.declared.check.Unchecked.TheVariants.{Faulty, Refused}
use Rattle.sheets.proofs.Checked.{followed_by_runs}
use Rattle.sheets.specs.Sheets.{described}
use Rattle.sheets.specs.Steps.{sheet_automaton}
use Rattle.sheets.specs.declared.sheet.Sheet.{Sheet}
use Rattle.sheets.specs.declared.state.SheetState.{SheetState}
use Rattle.sheet_records.specs.Checking.{ChecksByRuns, FollowedByRuns}

module _ (s : Sheet) (names : List Name) (bytes was now : List ℕ) (row row' : List (Mark SheetState)) where
  by_runs : (r : Result Standing Stop) → Followed (sheet_automaton (described s)) names bytes was now row row' r → FollowedByRuns (described s) names bytes was now row row' r
  by_runs r h = record {
    codes = h.codes;
    spells = h.spells;
    buffer = h.buffer;
    answer = followed_by_runs s (length row) h.codes r h.answer;
    marks = h.marks;
  }

  pub checks_by_runs : (r : Result Standing Unchecked) → Checks (sheet_automaton (described s)) names bytes was now row row' r → ChecksByRuns (described s) names bytes was now row row' r
  checks_by_runs (Ok standing) h = by_runs (Ok standing) h
  checks_by_runs (Err (Refused stop)) h = by_runs (Err stop) h
  checks_by_runs (Err (Faulty e)) h = h
