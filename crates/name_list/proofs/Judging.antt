-- How a field behind some names is judged.
use Rattle.std.proofs.Common.{◌≡◌, ℕ, ◌<◌, ◌≤◌, true, false, not, List, map, length, is_some, Some, None, Option, sym, ap, ◌∙◌, subst}
use Rattle.std.proofs.lemmas.List.{length-map}
use Rattle.std.proofs.lemmas.Bool.{cond-false, cond-true, le-leb, lt-leb, ne_eqb}
use Rattle.fields.specs.Faults.{told_at}
use Rattle.fields.specs.declared.fault.At.{At}
use Rattle.fields.specs.declared.fault.Told.{Told}
use Rattle.fields.proofs.Telling.{number_told}
use Rattle.fields.specs.Fields.{Piece}
use Rattle.fields.specs.Parts.{field_of, part_of, piece_of, tag_of}
use Rattle.fields.specs.declared.fault.File.TheVariants.{Names}
use Rattle.fields.specs.declared.field.Field.{Field}
use Rattle.fields.specs.declared.field.Field.TheVariants as case
use Rattle.fields.specs.declared.field.Part.{Part}
use Rattle.name_list.proofs.Numbers.{names_in_fields}
use Rattle.name_list.specs.Names.{Name, name_bytes, name_field, name_long, names_format, names_in, number_of, names_fault}

module _ (ns : List Name) where
  pub tag_fault : (f : Piece) → (f.tag ≡ 16 → ⊥) → names_format (map name_field ns) f ≡ Some 11
  unfolding names_format
  tag_fault f other = cond-true _ _ _ (ap not (ne_eqb f.tag 16 other))

  -- a field with the right tag
  module _ (n : Name) where
    pub length_fault : name_long n ≡ false → names_format (map name_field ns) (name_field n) ≡ Some 12
    unfolding names_format
    length_fault e = cond-true _ _ _ (ap not e)

    pub many_fault : name_long n ≡ true → 16 ≤ length ns → names_format (map name_field ns) (name_field n) ≡ Some 18
    unfolding names_format
    many_fault e h = cond-false _ _ _ (ap not e) ∙ cond-true _ _ _ (le-leb 16 _ (subst (λ k. 16 ≤ k) (sym (length-map ns name_field)) h))

    module _ (long : name_long n ≡ true) (few : length ns < 16) where
      few_fields : length (map name_field ns) < 16
      few_fields = subst (λ k. k < 16) (sym (length-map ns name_field)) few

      pub byte_fault : name_bytes n ≡ false → names_format (map name_field ns) (name_field n) ≡ Some 13
      unfolding names_format
      byte_fault e = cond-false _ _ _ (ap not long) ∙ cond-false _ _ _ (lt-leb 16 _ few_fields) ∙ cond-true _ _ _ (ap not e)

      module _ (bytes : name_bytes n ≡ true) where
        listed : is_some (number_of (names_in (map name_field ns)) n) ≡ is_some (number_of ns n)
        listed = ap (λ ms. is_some (number_of ms n)) (names_in_fields ns)

        pub twice_fault : is_some (number_of ns n) ≡ true → names_format (map name_field ns) (name_field n) ≡ Some 17
        unfolding names_format
        twice_fault e = cond-false _ _ _ (ap not long) ∙ cond-false _ _ _ (lt-leb 16 _ few_fields) ∙ cond-false _ _ _ (ap not bytes) ∙ cond-true _ _ _ (listed ∙ e)

        pub no_fault : is_some (number_of ns n) ≡ false → names_format (map name_field ns) (name_field n) ≡ None
        unfolding names_format
        no_fault e = cond-false _ _ _ (ap not long) ∙ cond-false _ _ _ (lt-leb 16 _ few_fields) ∙ cond-false _ _ _ (ap not bytes) ∙ cond-false _ _ _ (listed ∙ e)

  -- t tells the fault of the field at this place
  abbrev Tells : Piece → ℕ → Option Told → Type 0
  Tells f place t = (is_some (names_format (map name_field ns) f) ≡ true) × (t ≡ names_fault place (names_format (map name_field ns) f))

  pub fault_told : (field : Field) (q : Part) (at : At) (k : ℕ) → q ≡ part_of field → at ≡ record { file = Names; place = q.place } → names_format (map name_field ns) (piece_of field) ≡ Some k → Tells (piece_of field) (part_of field).place (Some (told_at k at))
  fault_told field q at k part is fault = number_told Names (part_of field).place k _ _ fault (ap (λ a. Some (told_at k a)) (is ∙ ap (λ p. record { file = Names; place = p.place }) part))

  -- the same of a field in its case
  pub name_fault_told : (field : Field) (q : Part) (at : At) (k : ℕ) → q ≡ part_of field → at ≡ record { file = Names; place = q.place } → (p : Part) → field ≡ case.Name p → names_format (map name_field ns) (name_field p.contents.now) ≡ Some k → Tells (piece_of field) (part_of field).place (Some (told_at k at))
  name_fault_told field q at k part is p named fault = fault_told field q at k part is (ap (λ x. names_format (map name_field ns) (piece_of x)) named ∙ fault)

-- a field whose case is not that of a name has another tag
pub other_tag : (field : Field) → field ≡ field_of (tag_of field) (part_of field) → ((p : Part) → field ≡ case.Name p → ⊥) → tag_of field ≡ 16 → ⊥
other_tag field is other tag = other (part_of field) (is ∙ ap (λ t. field_of t (part_of field)) tag)
