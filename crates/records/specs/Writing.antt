-- One letter of a record, written behind the bytes of those before it.
use Rattle.std.specs.Prelude.{◌≡◌, ℕ, ◌+◌, ◌/◌, ◌%◌, true, List, [], ◌∷◌, ◌++◌, length, take, drop, is_some, None, Result, MatchResult}
use Rattle.fields.specs.Faults.{told}
use Rattle.fields.specs.Fields.{Piece, written}
use Rattle.fields.specs.declared.fault.Fault.{Fault}
use Rattle.name_list.specs.Names.{Name}
use Rattle.nested.specs.declared.letter.Letter.{Letter}
use Rattle.nested.specs.declared.letter.Letter.TheVariants.{Call, Return, Internal}
use Rattle.records.specs.Records.{field_in, letter_fault, record_fault}

-- the bytes of a field in front of n bytes of contents
abbrev pub head_bytes : ℕ → ℕ → List ℕ
head_bytes t n = t ∷ (n / 256 ∷ (n % 256 ∷ []))

abbrev pub piece : ℕ → List ℕ → Piece
piece t bytes = record { tag = t; contents = bytes }

-- the tag of a letter's field
abbrev pub tag_in : Letter → ℕ
tag_in (Call a) = 1
tag_in (Return b) = 2
tag_in (Internal a) = 3

-- a buffer with a field's bytes behind the first `used` ones
abbrev pub with_field : List ℕ → ℕ → Piece → List ℕ
with_field was used f = take used was ++ (written f ++ drop (used + length (written f)) was)

-- What writing the letter number k behind `used` bytes comes to: its field's bytes stand there, and the answer is where they end; or
-- else the answer is its fault, and the buffer is as it was.
abbrev pub LetterWritten : List Name → ℕ → ℕ → ℕ → List ℕ → List ℕ → Result ℕ Fault → Type 0
LetterWritten names k code used was now r = MatchResult r
    (λ n. (letter_fault names (length was) used code ≡ None) × (n ≡ used + length (written (field_in names code))) × (now ≡ with_field was used (field_in names code)))
    (λ e. (is_some (letter_fault names (length was) used code) ≡ true) × (told e ≡ record_fault k (letter_fault names (length was) used code)) × (now ≡ was))
