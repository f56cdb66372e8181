-- Following a record letter by letter, with the marks kept in a row of places lent by the caller.
use Rattle.std.specs.Prelude.{◌≡◌, ℕ, ◌<◌, min, cond, ◌&&◌, List, [], ◌∷◌, reverse, length, take, Some, None, Ok, Err, Decides, Option, Result, ◌==◌, nat_le, nat_lt, slice_index, slice_set}
use Rattle.nested.specs.Automata.{Automaton}
use Rattle.nested.specs.Letters.{letters}
use Rattle.nested.specs.Reading.{Config, read_letter, Satisfies, unclosed_calls}
use Rattle.nested.specs.declared.follower.Position.{Position}
use Rattle.nested.specs.declared.letter.Letter.{Letter}
use Rattle.nested.specs.declared.letter.Letter.TheVariants.{Call, Return, Internal}
use Rattle.nested.specs.declared.mark.Mark.{Mark}
use Rattle.nested.specs.declared.refusal.Refusal.{Refusal}
use Rattle.nested.specs.declared.refusal.Refusal.TheVariants.{NotALetter, MarksFull, RowLength}
use Rattle.nested.specs.declared.standing.Standing.{Standing}
use Rattle.nested.specs.declared.standing.Stop.{Stop}

-- the number of each refusal
abbrev pub number : Refusal → ℕ
number NotALetter = 1
number MarksFull = 2
number RowLength = 3

-- how many places of a row of marks count
abbrev pub places : ℕ → ℕ
places row = min row 4096

-- Why a code is refused, if it is, by the number of places and of open calls: 1, it is above 47; 2, it is a call and every mark
-- place is taken.
abbrev pub letter_refusal : ℕ → ℕ → ℕ → Option ℕ
letter_refusal room taken code = cond (nat_lt 47 code) (Some 1) (cond (nat_lt code 16 && nat_le room taken) (Some 2) None)

-- a call is refused exactly where a number is given, and by that number
abbrev pub RefusedBy : {X : Type 0} → Result X Refusal → Option ℕ → Type 0
RefusedBy (Ok x) n = n ≡ None
RefusedBy (Err e) n = n ≡ Some (number e)

module _ {S : Type 0} where
  -- The first that holds of: 3, the row's length is not that of the row at begin; then what refuses the letter.
  abbrev pub follow_refusal : Position S → ℕ → ℕ → Option ℕ
  follow_refusal p row_length code = cond (row_length == p.row) (letter_refusal (places p.row) p.taken code) (Some 3)

  -- Where the reading of a follower stands: its state, and the marks in the places that are taken, the last place first.
  abbrev pub stands : Position S → List (Mark S) → Config S
  stands p row = record { state = p.state; marks = reverse (take p.taken row) }

  -- The row after a letter: a call writes its mark into the place whose number is how many calls are open; nothing else is written,
  -- so a mark taken back stays until a later call takes its place.
  abbrev pub mark_written : Config S → Letter → List (Mark S) → List (Mark S)
  mark_written c (Call a) row = slice_set row (length c.marks) (record { state = c.state; name = a })
  mark_written c (Return b) row = row
  mark_written c (Internal a) row = row

  module _ (A : Automaton S) where
    -- before the first letter, over a row of this length
    abbrev pub begun_at : ℕ → Position S
    begun_at row = record { state = A.start; taken = 0; row = row }

    -- A follower at p over `row` has read the letter l, and is at q over `row'`.
    pub record Reads (l : Letter) (p : Position S) (row : List (Mark S)) (q : Position S) (row' : List (Mark S)) : Type 0 where
      pub stood : stands q row' ≡ read_letter A (stands p row) l
      pub taking : q.taken ≡ length (read_letter A (stands p row) l).marks
      pub lent : q.row ≡ p.row
      pub written : row' ≡ mark_written (stands p row) l row

    -- the row after a word
    unfoldable pub marks_written : Config S → List Letter → List (Mark S) → List (Mark S)
    marks_written c [] row = row
    marks_written c (l ∷ w) row = marks_written (read_letter A c l) w (mark_written c l row)

-- Following a whole list of codes from begin, over a row of `row` mark places.

-- why the code number k is refused, if the ones before it are read
abbrev pub refusal_at : ℕ → List ℕ → ℕ → Option ℕ
refusal_at row codes k = letter_refusal (places row) (unclosed_calls (letters (take k codes))) (slice_index codes k)

-- none of the first n codes is refused
abbrev pub Unrefused : ℕ → List ℕ → ℕ → Type 0
Unrefused row codes n = (k : ℕ) → k < n → refusal_at row codes k ≡ None

-- The standing after the whole list: every code was read; the state accepts exactly if the word satisfies the automaton; the open
-- calls are the calls of the word that are never closed.
pub record ReadWhole {S : Type 0} (A : Automaton S) (row : ℕ) (codes : List ℕ) (r : Standing) : Type 0 where
  pub unrefused : Unrefused row codes (length codes)
  pub accepts : Decides r.accepts (Satisfies A (letters codes))
  pub unclosed : r.«open» ≡ unclosed_calls (letters codes)

-- The first refusal: the codes before it are read, and it is refused by the number given.
pub record Stopped (row : ℕ) (codes : List ℕ) (r : Stop) : Type 0 where
  pub within : r.letter < length codes
  pub before : Unrefused row codes r.letter
  pub refused : refusal_at row codes r.letter ≡ Some (number r.refusal)

-- how many letters were read
abbrev pub letters_read : List ℕ → Result Standing Stop → ℕ
letters_read codes (Ok s) = length codes
letters_read codes (Err e) = e.letter
