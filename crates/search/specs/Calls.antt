-- What the calls of a search come to, for every search and all rows.
use Rattle.std.specs.Prelude.{◌≡◌, ℕ, ◌+◌, ◌-◌, min, Bool, true, false, cond, ◌&&◌, List, [], ◌∷◌, length, Some, None, Ok, Err, Option, Result, ◌==◌, nat_lt}
use Rattle.nested.specs.Automata.{Automaton}
use Rattle.nested.specs.Following.{number}
use Rattle.nested.specs.declared.refusal.Refusal.{Refusal}
use Rattle.items.specs.Words.{word_of}
use Rattle.items.specs.Writing.{Written}
use Rattle.search.specs.Model.{Board, turns_done}
use Rattle.search.specs.declared.progress.Progress.{Progress}
use Rattle.search.specs.declared.unwritten.Unwritten.{Unwritten}
use Rattle.search.specs.declared.unwritten.Unwritten.TheVariants.{RowLength, NotFound, TooLong}
use Rattle.search.specs.declared.verdict.Report.{Report}
use Rattle.search.specs.declared.verdict.Verdict.{Verdict}
use Rattle.search.specs.declared.verdict.Verdict.TheVariants as verdict

abbrev pub is_found : Verdict → Bool
is_found verdict.None = false
is_found verdict.Found = true
is_found verdict.Full = false
is_found verdict.Running = false

-- rows of these lengths are as long as those at opening
abbrev pub rows_fit : Progress → ℕ → ℕ → Bool
rows_fit p items makings = items == p.item_row && makings == p.making_row

abbrev pub reported : Progress → Report
reported p = record { verdict = p.verdict; turns = p.turns; items = p.entered }

-- the number of each case, and behind 5 the word's length
abbrev pub told : Unwritten → List ℕ
told RowLength = 3 ∷ []
told NotFound = 4 ∷ []
told (TooLong e) = 5 ∷ (e.length ∷ [])

module _ {S : Type 0} (b : Board S) where
  abbrev same_rows : Bool
  same_rows = rows_fit b.at (length b.items) (length b.makings)

  -- Advancing is refused by 3 where a row is not as long as the one at opening.
  abbrev pub advance_refusal : Option ℕ
  advance_refusal = cond same_rows None (Some 3)

  -- the number of the item whose word is asked for, the one entered last
  abbrev pub last_item : ℕ
  last_item = b.at.entered - 1

  abbrev word_length : ℕ
  word_length = length (word_of b.makings last_item)

  -- The first that holds of: 3, a row is not as long as the one at opening; 4, the verdict is not found; 5, the word is longer than
  -- 1,024 letters or than the buffer, and then its length is told, as 1,025 where it is longer than 1,024.
  abbrev pub word_refusal : ℕ → Option (List ℕ)
  word_refusal room = cond same_rows (cond (is_found b.at.verdict) (cond (nat_lt (min room 1024) word_length) (Some (5 ∷ (min word_length 1025 ∷ []))) None) (Some (4 ∷ []))) (Some (3 ∷ []))

  -- the turns are done, until there were n or the verdict is final, and `done` is how many there were
  pub record Advanced (A : Automaton S) (eq : S → S → Bool) (n : ℕ) (after : Board S) (done : ℕ) : Type 0 where
    pub rows : advance_refusal ≡ None
    pub turned : after ≡ turns_done A eq n b
    pub count : after.at.turns ≡ b.at.turns + done

  -- What advancing by n turns comes to. Where it is refused, all is as it was.
  abbrev pub Advances : Automaton S → (S → S → Bool) → ℕ → Board S → Result ℕ Refusal → Type 0
  Advances A eq n after (Ok done) = Advanced A eq n after done
  Advances A eq n after (Err e) = (advance_refusal ≡ Some (number e)) × (after ≡ b)

  -- What asking for the word comes to. Where it is refused, the buffer is as it was.
  abbrev pub GivesWord : List ℕ → List ℕ → Result ℕ Unwritten → Type 0
  GivesWord was now (Ok n) = (word_refusal (length was) ≡ None) × Written b.makings last_item was now n
  GivesWord was now (Err e) = (word_refusal (length was) ≡ Some (told e)) × (now ≡ was)
