-- What the reader's parts answer of one field.
use Rattle.std.specs.Prelude.{◌≡◌, ℕ, ◌<◌, Bool, true, not, ◌||◌, List, [], ◌∷◌, is_some, Some, None, Ok, Err, Option, Result, ◌==◌}
use Rattle.fields.specs.Faults.{told}
use Rattle.fields.specs.Fields.{Piece}
use Rattle.fields.specs.Outcomes.{Check, first_fault}
use Rattle.fields.specs.declared.fault.Fault.{Fault}
use Rattle.name_list.specs.Names.{Name, name_bytes, name_long, number_of}
use Rattle.records.specs.Records.{code_in, record_fault}

-- the tags of letters
abbrev pub letter_tag : ℕ → Bool
letter_tag t = t == 1 || (t == 2 || t == 3)

-- the checks of the contents of a letter's field, room aside
abbrev pub contents_checks : List Name → List ℕ → List Check
contents_checks names contents =
    record { fires = not (name_long contents); number = 12 }
    ∷ (record { fires = not (name_bytes contents); number = 13 }
    ∷ (record { fires = not (is_some (number_of names contents)); number = 19 }
    ∷ []))

-- the fault of the contents of a letter's field, room aside
unfoldable pub contents_fault : List Name → List ℕ → Option ℕ
contents_fault names contents = first_fault (contents_checks names contents)

-- the number of the name that a letter's field holds, or the fault of its contents, told at its place
abbrev pub Named : List Name → List ℕ → ℕ → Result ℕ Fault → Type 0
Named names contents place (Ok number) = (contents_fault names contents ≡ None) × (number_of names contents ≡ Some number) × (number < 16)
Named names contents place (Err e) = (is_some (contents_fault names contents) ≡ true) × (told e ≡ record_fault place (contents_fault names contents))

-- the fault of a field that spells no letter, room aside
unfoldable pub spelling_fault : List Name → Piece → Option ℕ
spelling_fault names f = first_fault (record { fires = not (letter_tag f.tag); number = 11 } ∷ contents_checks names f.contents)

-- the code of the letter that a field spells, or its fault, told at its place
abbrev pub Spells : List Name → Piece → ℕ → Result ℕ Fault → Type 0
Spells names f place (Ok code) = (spelling_fault names f ≡ None) × (code ≡ code_in names f)
Spells names f place (Err e) = (is_some (spelling_fault names f) ≡ true) × (told e ≡ record_fault place (spelling_fault names f))
