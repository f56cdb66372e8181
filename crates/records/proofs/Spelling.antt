-- How a field of a record is judged.
use Rattle.std.proofs.Common.{◌≡◌, ℕ, ◌+◌, ◌-◌, ◌*◌, ◌<◌, ◌≤◌, Bool, true, false, cond, not, leb, List, length, is_some, Some, None, Ok, Err, Option, unwrap_or, refl, ap, subst, ◌∙◌, arith}
use Rattle.std.proofs.lemmas.Bool.{cond-false, cond-true}
use Rattle.std.proofs.lemmas.Bool.Decides.{nat_tests}
use Rattle.fields.specs.Faults.{told_at}
use Rattle.fields.specs.declared.fault.At.{At}
use Rattle.fields.specs.declared.fault.Fault.{Fault}
use Rattle.fields.specs.declared.fault.Fault.TheVariants.{Tag}
use Rattle.fields.proofs.Telling.{number_told}
use Rattle.fields.specs.Fields.{Piece}
use Rattle.fields.specs.Parts.{part_of, piece_of, tag_of}
use Rattle.fields.specs.declared.field.Field.{Field}
use Rattle.fields.specs.declared.field.Part.{Part}
use Rattle.fields.specs.declared.fault.File.TheVariants.{Record}
use Rattle.name_list.proofs.Loading.{few_listable}
use Rattle.name_list.proofs.Numbers.{number_within}
use Rattle.name_list.specs.Names.{Name, listable, name_bytes, name_long, number_of}
use Rattle.records.specs.Reading.{Named, Spells, contents_fault, letter_tag, spelling_fault}
use Rattle.records.specs.Records.{record_fault, record_format}

-- four checks, and what comes behind them
abbrev behind : Bool → Bool → Bool → Bool → Option ℕ → Option ℕ
behind a b c d o = cond a (Some 11) (cond b (Some 12) (cond c (Some 13) (cond d (Some 19) o)))

behind_fault : (a b c d : Bool) (o : Option ℕ) (n : ℕ) → behind a b c d None ≡ Some n → behind a b c d o ≡ Some n
behind_fault true b c d o n e = e
behind_fault false true c d o n e = e
behind_fault false false true d o n e = e
behind_fault false false false true o n e = e
behind_fault false false false false o n e = cc

behind_none : (a b c d : Bool) (o : Option ℕ) → behind a b c d None ≡ None → behind a b c d o ≡ o
behind_none true b c d o e = cc
behind_none false true c d o e = cc
behind_none false false true d o e = cc
behind_none false false false true o e = cc
behind_none false false false false o e = refl

module _ (names : List Name) (contents : List ℕ) where
  pub length_fault : name_long contents ≡ false → contents_fault names contents ≡ Some 12
  unfolding contents_fault
  length_fault e = cond-true _ _ _ (ap not e)

  module _ (long : name_long contents ≡ true) where
    pub byte_fault : name_bytes contents ≡ false → contents_fault names contents ≡ Some 13
    unfolding contents_fault
    byte_fault e = cond-false _ _ _ (ap not long) ∙ cond-true _ _ _ (ap not e)

    module _ (bytes : name_bytes contents ≡ true) where
      pub unlisted_fault : number_of names contents ≡ None → contents_fault names contents ≡ Some 19
      unfolding contents_fault
      unlisted_fault e = cond-false _ _ _ (ap not long) ∙ cond-false _ _ _ (ap not bytes) ∙ cond-true _ _ _ (ap (λ o. not (is_some o)) e)

      pub named : (number : ℕ) → listable names ≡ true → number_of names contents ≡ Some number → (contents_fault names contents ≡ None) × (number_of names contents ≡ Some number) × (number < 16)
      unfolding contents_fault
      named number list e =
          let within = number_within names contents number e in
          let few = few_listable names list in (
            cond-false _ _ _ (ap not long) ∙ cond-false _ _ _ (ap not bytes) ∙ cond-false _ _ _ (ap (λ o. not (is_some o)) e),
            e,
            omega arith,
          )

  -- a fault, told at its place
  pub fault_told : (place k : ℕ) (at : At) → at ≡ record { file = Record; place = place } → contents_fault names contents ≡ Some k → (is_some (contents_fault names contents) ≡ true) × (Some (told_at k at) ≡ record_fault place (contents_fault names contents))
  fault_told place k at is fault = number_told Record place k _ _ fault (ap (λ a. Some (told_at k a)) is)

module _ (names : List Name) (f : Piece) where
  pub tag_fault : letter_tag f.tag ≡ false → spelling_fault names f ≡ Some 11
  unfolding spelling_fault
  tag_fault e = cond-true _ _ _ (ap not e)

  contents_behind : letter_tag f.tag ≡ true → spelling_fault names f ≡ contents_fault names f.contents
  unfolding spelling_fault contents_fault
  contents_behind e = cond-false _ _ _ (ap not e)

  -- a field without the tag of a letter
  pub spells_none : (place : ℕ) (at : At) → letter_tag f.tag ≡ false → at ≡ record { file = Record; place = place } → Spells names f place (Err (Tag at))
  spells_none place at other is = number_told Record place 11 _ _ (tag_fault other) (ap (λ a. Some (told_at 11 a)) is)

  -- a field with the tag of a letter, by its contents
  module _ (tag : letter_tag f.tag ≡ true) where
    pub spells_letter : (place number code : ℕ) → Named names f.contents place (Ok number) → code ≡ (f.tag - 1) * 16 + number → Spells names f place (Ok code)
    spells_letter place number code h is = (contents_behind tag ∙ h.0, let k = ap (λ o. unwrap_or o 0) h.1 in omega arith)

    pub spells_fault : (place : ℕ) (e : Fault) → Named names f.contents place (Err e) → Spells names f place (Err e)
    spells_fault place e h = rw (contents_behind tag) h

  -- the record's format judges first the spelling, and then the room
  pub spelling_first : (room : ℕ) (us : List Piece) (n : ℕ) → spelling_fault names f ≡ Some n → record_format names room us f ≡ Some n
  unfolding spelling_fault record_format
  spelling_first room us n e = behind_fault (not (letter_tag f.tag)) (not (name_long f.contents)) (not (name_bytes f.contents)) (not (is_some (number_of names f.contents))) (cond (leb room (length us)) (Some 21) None) n e

  pub room_last : (room : ℕ) (us : List Piece) → spelling_fault names f ≡ None → record_format names room us f ≡ cond (leb room (length us)) (Some 21) None
  unfolding spelling_fault record_format
  room_last room us e = behind_none (not (letter_tag f.tag)) (not (name_long f.contents)) (not (name_bytes f.contents)) (not (is_some (number_of names f.contents))) (cond (leb room (length us)) (Some 21) None) e

-- the number of a name is added to a multiple of 16 that is at most 32
pub low_tag : (t : ℕ) → letter_tag t ≡ true → t ≤ 3
low_tag t e = grind (arith, nat_tests)

-- What a field spells, by its tag and its part.
module _ (names : List Name) (field : Field) (p : Part) (is : p ≡ part_of field) where
  pub spells_no_letter : (at : At) → letter_tag (tag_of field) ≡ false → at ≡ record { file = Record; place = p.place } → Spells names (piece_of field) (part_of field).place (Err (Tag at))
  spells_no_letter at other placed = spells_none names (piece_of field) (part_of field).place at other (placed ∙ ap (λ q. record { file = Record; place = q.place }) is)

  module _ (tag : letter_tag (tag_of field) ≡ true) where
    pub spells_named : (number code : ℕ) → Named names p.contents.now p.place (Ok number) → code ≡ (tag_of field - 1) * 16 + number → Spells names (piece_of field) (part_of field).place (Ok code)
    spells_named number code named coded = spells_letter names (piece_of field) tag (part_of field).place number code (subst (λ s. Named names s.contents.now s.place (Ok number)) is named) coded

    pub spells_faulty : (e : Fault) → Named names p.contents.now p.place (Err e) → Spells names (piece_of field) (part_of field).place (Err e)
    spells_faulty e named = spells_fault names (piece_of field) tag (part_of field).place e (subst (λ s. Named names s.contents.now s.place (Err e)) is named)
