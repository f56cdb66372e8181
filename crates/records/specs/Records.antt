-- Records: which bytes spell which letters, and what reading and writing come to.
use Rattle.std.specs.Prelude.{◌≡◌, ℕ, ◌+◌, ◌-◌, ◌*◌, ◌/◌, ◌%◌, ◌<◌, ◌≤◌, min, true, not, ◌||◌, List, [], ◌∷◌, ◌++◌, map, length, take, drop, is_some, Some, None, Ok, MatchBool, Option, Result, MatchResult, ◌==◌, nat_le, nat_lt, slice_index, slice_index_or}
use Rattle.std.specs.Option.{unwrap_or}
use Rattle.fields.specs.Faults.{fault_in, told}
use Rattle.fields.specs.declared.fault.Told.{Told}
use Rattle.fields.specs.Fields.{Piece, file_of, written}
use Rattle.fields.specs.Outcomes.{Fits, Format, Outcome, first_fault}
use Rattle.fields.specs.declared.fault.Fault.{Fault}
use Rattle.fields.specs.declared.fault.File.TheVariants.{Record}
use Rattle.name_list.specs.Names.{Name, name_bytes, name_long, number_of}

-- the field that spells a letter: tag 1 for a call, 2 for a return, 3 for an internal letter, and the letter's name
abbrev pub field_in : List Name → ℕ → Piece
field_in names code = record { tag = 1 + code / 16; contents = slice_index_or names (code % 16) [] }

-- the bytes that spell letters
abbrev pub spelled : List Name → List ℕ → List ℕ
spelled names codes = file_of (map (field_in names) codes)

-- the code of the letter that a field spells
abbrev pub code_in : List Name → Piece → ℕ
code_in names f = (f.tag - 1) * 16 + unwrap_or (number_of names f.contents) 0

abbrev pub codes_in : List Name → List Piece → List ℕ
codes_in names fs = map (code_in names) fs

-- A record that is read into a buffer with room for so many letters.
-- 11, a tag that is not 1, 2 or 3; 12, a name of 0 or of more than 32 bytes; 13, a byte that no name has; 19, a name that is not listed;
-- 21, no room in the buffer.
unfoldable pub record_format : List Name → ℕ → Format
record_format names room us f = first_fault
    (record { fires = not (f.tag == 1 || (f.tag == 2 || f.tag == 3)); number = 11 }
    ∷ (record { fires = not (name_long f.contents); number = 12 }
    ∷ (record { fires = not (name_bytes f.contents); number = 13 }
    ∷ (record { fires = not (is_some (number_of names f.contents)); number = 19 }
    ∷ (record { fires = nat_le room (length us); number = 21 }
    ∷ [])))))

-- a fault of a record, and its place
abbrev pub record_fault : ℕ → Option ℕ → Option Told
record_fault = fault_in Record

-- What reading comes to: the letters of the fields before the first fault stand at the buffer's front, the rest of it is as it was, and
-- the answer is how many letters these are, or else the fault at its field.
pub record Reads (names : List Name) (bytes was now : List ℕ) (r : Result ℕ Fault) : Type 0 where
  pub outcome : Outcome
  pub fits : Fits (record_format names (length was)) bytes outcome
  pub buffer : now ≡ codes_in names outcome.fields ++ drop (length outcome.fields) was
  pub answer : MatchResult r (λ n. (outcome.fault ≡ None) × (n ≡ length outcome.fields)) (λ e. (is_some outcome.fault ≡ true) × (told e ≡ record_fault (length (file_of outcome.fields)) outcome.fault))

-- A record of more than 65,535 bytes is refused before anything is read: 20, at place 0.
abbrev pub RecordRead : List Name → List ℕ → List ℕ → List ℕ → Result ℕ Fault → Type 0
RecordRead names bytes was now r =
    MatchBool (nat_lt 65535 (length bytes)) (MatchResult r (λ _. ⊥) (λ e. told e ≡ record_fault 0 (Some 20)) × (now ≡ was)) (Reads names bytes was now r)

-- Why a letter is not written behind `used` bytes, into a buffer with room for so many: 1, its code is above 47; 19, no name has its
-- number; 21, its field does not fit in the buffer, or the record would have more than 65,535 bytes.
unfoldable pub letter_fault : List Name → ℕ → ℕ → ℕ → Option ℕ
letter_fault names room used code = first_fault
    (record { fires = nat_lt 47 code; number = 1 }
    ∷ (record { fires = nat_le (length names) (code % 16); number = 19 }
    ∷ (record { fires = nat_lt (min room 65535) (used + length (written (field_in names code))); number = 21 }
    ∷ [])))

-- the same of the letter number k of a list
abbrev pub fault_at : List Name → ℕ → List ℕ → ℕ → Option ℕ
fault_at names room codes k = letter_fault names room (length (spelled names (take k codes))) (slice_index codes k)

-- What writing comes to: the bytes of the letters before the first fault stand at the buffer's front, the rest of it is as it was, and
-- the answer is how many bytes these are, or else the fault at its letter's number.
pub record Writes (names : List Name) (codes was now : List ℕ) (r : Result ℕ Fault) : Type 0 where
  pub count : ℕ
  pub before : (k : ℕ) → k < count → fault_at names (length was) codes k ≡ None
  pub buffer : now ≡ spelled names (take count codes) ++ drop (length (spelled names (take count codes))) was
  pub answer : MatchResult r (λ n. (count ≡ length codes) × (n ≡ length (spelled names codes))) (λ e. (count < length codes) × (is_some (fault_at names (length was) codes count) ≡ true) × (told e ≡ record_fault count (fault_at names (length was) codes count)))

-- The round trip from letters: whatever reading these letters' bytes comes to, in a buffer that is large enough, it is these letters.
abbrev pub ReadsBack : List Name → List ℕ → Type 0
ReadsBack names codes = (was now : List ℕ) (r : Result ℕ Fault) → length codes ≤ length was → RecordRead names (spelled names codes) was now r → (r ≡ Ok (length codes)) × (now ≡ codes ++ drop (length codes) was)

-- The round trip from bytes: whatever writing these letters comes to, in a buffer that is large enough, it is these bytes.
abbrev pub WritesBack : List Name → List ℕ → List ℕ → Type 0
WritesBack names bytes codes = (was now : List ℕ) (r : Result ℕ Fault) → length bytes ≤ length was → Writes names codes was now r → (r ≡ Ok (length bytes)) × (now ≡ bytes ++ drop (length bytes) was)
