-- A record, read with a name list and followed with a machine.
use Rattle.std.specs.Prelude.{◌≡◌, ℕ, List, ◌++◌, length, take, drop, Ok, Err, Result, MatchResult}
use Rattle.name_list.specs.Names.{Name}
use Rattle.nested.specs.Automata.{Automaton}
use Rattle.nested.specs.Following.{ReadWhole, Stopped, letters_read, marks_written}
use Rattle.nested.specs.Letters.{letters}
use Rattle.nested.specs.Reading.{begun}
use Rattle.nested.specs.declared.mark.Mark.{Mark}
use Rattle.nested.specs.declared.standing.Standing.{Standing}
use Rattle.nested.specs.declared.standing.Stop.{Stop}
use Rattle.records.specs.Records.{RecordRead, spelled}
use Rattle.records.specs.declared.check.Unchecked.{Unchecked}
use Rattle.records.specs.declared.check.Unchecked.TheVariants.{Faulty, Refused}

module _ {S : Type 0} (A : Automaton S) (names : List Name) (bytes was now : List ℕ) (row row' : List (Mark S)) where
  -- The bytes spell a word: the codes of its letters, which stand at the buffer's front. Following them over the row came to r.
  pub record Followed (r : Result Standing Stop) : Type 0 where
    pub codes : List ℕ
    pub spells : bytes ≡ spelled names codes
    pub buffer : now ≡ codes ++ drop (length codes) was
    pub answer : MatchResult r (ReadWhole A (length row) codes) (Stopped (length row) codes)
    pub marks : row' ≡ marks_written A (begun A) (letters (take (letters_read codes r) codes)) row

  -- What checking comes to: the standing of the word that the bytes spell, the refusal of one of its letters, or the record's fault.
  abbrev pub Checks : Result Standing Unchecked → Type 0
  Checks (Ok standing) = Followed (Ok standing)
  Checks (Err (Refused stop)) = Followed (Err stop)
  Checks (Err (Faulty e)) = RecordRead names bytes was now (Err e) × (row' ≡ row)
