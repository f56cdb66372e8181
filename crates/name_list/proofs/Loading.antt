-- Reading a name list field by field.
use Rattle.std.proofs.Common.{◌≡◌, ℕ, ◌+◌, ◌<◌, ◌≤◌, true, not, ltb, List, [], ◌∷◌, ◌++◌, map, length, drop, is_some, Some, None, sym, refl, ap, ◌∙◌, subst, arith}
use Rattle.std.proofs.lemmas.List.{append_assoc, length-map, length_push, map-append}
use Rattle.std.proofs.lemmas.Bool.{and_from, cases_Bool, cond-false, cond-true, le-ltb, lt-ltb}
use Rattle.std.proofs.lemmas.Bool.Decides.{nat_tests}
use Rattle.fields.proofs.Fronts.{Front, front_cut, front_ends, front_more, front_none, front_stops}
use Rattle.fields.proofs.Telling.{some_number}
use Rattle.fields.specs.Faults.{told}
use Rattle.fields.specs.Fields.{Cut, Piece, file_of}
use Rattle.fields.specs.Outcomes.{InOrder}
use Rattle.fields.specs.Parts.{Stands, part_of, piece_of}
use Rattle.fields.specs.declared.fault.Fault.{Fault}
use Rattle.fields.specs.declared.field.Field.{Field}
use Rattle.name_list.specs.Names.{Lists, ListsNone, Name, listable, listable_behind, name_bytes, name_field, names_format, names_in, number_of, names_fault}
use Rattle.name_list.proofs.Numbers.{first_listable, names_in_fields}

-- the names stand in order in front of the file, up to `place`
abbrev pub ReadSoFar : List ℕ → ℕ → List Name → Type 0
ReadSoFar bytes place ns = Front names_format bytes place (map name_field ns) × (length ns ≤ 16)

-- a field in order has the tag of a name, and comes behind at most 15 names
in_order_name : (ns : List Name) (f : Piece) → names_format (map name_field ns) f ≡ None → (f ≡ name_field f.contents) × (length ns < 16)
unfolding names_format
in_order_name ns f free =
    let bytes = cases_Bool (name_bytes f.contents) in
    let new = cases_Bool (is_some (number_of (names_in (map name_field ns)) f.contents)) in
    let many = length-map ns name_field in
    let tag : f.tag ≡ 16 = grind (arith, nat_tests) in
    ((λ i. record { tag = tag i; contents = f.contents }), grind (arith, nat_tests))

few_behind : (us ns : List Name) → length us ≤ 16 → listable_behind us ns ≡ true → length us + length ns ≤ 16
few_behind us [] few h = omega arith
few_behind us (n ∷ ns) few h =
    let first = first_listable us n ns h in
    let long = length_push us n in
    let room = (in_order_name us (name_field n) first.0).1 in
    let more = few_behind (us ++ n ∷ []) ns (omega arith) first.1 in
    omega arith

-- no list has more than 16 names
pub few_listable : (ns : List Name) → listable ns ≡ true → length ns ≤ 16
few_listable ns h = let few = few_behind [] ns (omega arith) h in omega arith

-- names in order can stand in a list
listable_in_order : (us ns : List Name) → InOrder names_format (map name_field (us ++ ns)) → listable_behind us ns ≡ true
unfolding listable_behind
listable_in_order us [] h = refl
listable_in_order us (n ∷ ns) h =
    let here = h (map name_field us) (name_field n) (map name_field ns) (map-append name_field us (n ∷ ns)) in
    let more = listable_in_order (us ++ n ∷ []) ns (subst (λ ms. InOrder names_format (map name_field ms)) (sym (append_assoc us (n ∷ []) ns)) h) in
    and_from _ _ (ap (λ o. not (is_some o)) here) more

module _ (bytes : List ℕ) where
  pub so_far_none : ReadSoFar bytes 0 []
  so_far_none = (front_none names_format bytes, omega arith)

  module _ (place : ℕ) (ns : List Name) (so_far : ReadSoFar bytes place ns) where
    fields_reached : place ≡ length (file_of (map name_field ns))
    fields_reached = so_far.0.reached

    pub so_far_more : (field : Field) (next : ℕ) (n : Name) → Stands bytes place field next → names_format (map name_field ns) (piece_of field) ≡ None → n ≡ (piece_of field).contents → ReadSoFar bytes next (ns ++ n ∷ [])
    so_far_more field next n stands free is =
        let f = piece_of field in
        let named = in_order_name ns f free in
        let fields : map name_field ns ++ f ∷ [] ≡ map name_field (ns ++ n ∷ []) = ap (λ g. map name_field ns ++ g ∷ []) (named.0 ∙ ap name_field (sym is)) ∙ sym (map-append name_field ns (n ∷ [])) in
        let long = length_push ns n in
        let few = named.1 in
        (subst (Front names_format bytes next) fields (front_more so_far.0 f next stands.behind stands.here free), omega arith)

    pub none_cut : (e : Fault) → Cut (drop place bytes) → told e ≡ names_fault place (Some 10) → ListsNone bytes e
    none_cut e cut says = record {
      outcome = record { fields = map name_field ns; fault = Some 10 };
      fits = front_cut so_far.0 cut;
      faulty = refl;
      says = says ∙ ap (λ p. names_fault p (Some 10)) fields_reached;
    }

    pub none_fault : (field : Field) (next : ℕ) (e : Fault) → Stands bytes place field next → is_some (names_format (map name_field ns) (piece_of field)) ≡ true → told e ≡ names_fault (part_of field).place (names_format (map name_field ns) (piece_of field)) → ListsNone bytes e
    none_fault field next e stands faulty says =
        let (n, is) = some_number (names_format (map name_field ns) (piece_of field)) faulty in
        record {
          outcome = record { fields = map name_field ns; fault = Some n };
          fits = front_stops so_far.0 (piece_of field) (drop next bytes) n stands.here is;
          faulty = refl;
          says = says ∙ ap (names_fault (part_of field).place) is ∙ ap (λ p. names_fault p (Some n)) (stands.placed ∙ fields_reached);
        }

    module _ (end : drop place bytes ≡ []) where
      pub none_missing : (e : Fault) → length ns ≡ 0 → told e ≡ names_fault (length bytes) (Some 16) → ListsNone bytes e
      none_missing e none says =
          let no_fields : length (map name_field ns) ≡ 0 = length-map ns name_field ∙ none in
          let missing = cond-false (ltb 0 (length (map name_field ns))) None (names_fault (length bytes) (Some 16)) (le-ltb 0 (length (map name_field ns)) (omega arith)) in
          record {
            outcome = record { fields = map name_field ns; fault = None };
            fits = front_ends so_far.0 end;
            faulty = ap is_some missing;
            says = says ∙ sym missing;
          }

      pub lists_all : 0 < length ns → Lists bytes ns × (listable ns ≡ true)
      lists_all some =
          let long = length-map ns name_field in (
            record {
              outcome = record { fields = map name_field ns; fault = None };
              fits = front_ends so_far.0 end;
              faultless = cond-true (ltb 0 (length (map name_field ns))) None (names_fault (length bytes) (Some 16)) (lt-ltb 0 (length (map name_field ns)) (omega arith));
              read = sym (names_in_fields ns);
            },
            listable_in_order [] ns so_far.0.in_order,
          )
