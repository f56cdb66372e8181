-- Reading a record field by field.
use Rattle.std.proofs.Common.{◌≡◌, ℕ, ◌+◌, ◌<◌, ◌≤◌, true, leb, List, [], ◌∷◌, ◌++◌, length, get_or, take, drop, set, is_some, IfOk, Some, None, Ok, Err, Result, sym, refl, ap, ◌∙◌, subst, ap₂, subst₂, arith}
use Rattle.std.proofs.lemmas.List.{append_assoc, drop_more, length-map, length_push, map-append, set_at, take_at}
use Rattle.std.proofs.lemmas.Bool.{cond-false, cond-true, le-leb, lt-leb}
use Rattle.fields.proofs.Fronts.{Front, front_cut, front_ends, front_more, front_none, front_stops}
use Rattle.fields.proofs.Telling.{some_number}
use Rattle.fields.specs.Faults.{told}
use Rattle.fields.specs.Fields.{Cut, Piece, file_of}
use Rattle.fields.specs.Outcomes.{Ends, Fits, Format, Outcome}
use Rattle.fields.specs.Parts.{Stands, part_of, piece_of}
use Rattle.fields.specs.declared.fault.Fault.{Fault}
use Rattle.fields.specs.declared.field.Field.{Field}
use Rattle.name_list.proofs.Loading.{few_listable}
use Rattle.name_list.specs.Names.{Name, listable}
use Rattle.records.proofs.RoundTrips.{spelled_in, writes_back}
use Rattle.records.proofs.Spelling.{room_last, spelling_first}
use Rattle.records.specs.Reading.{spelling_fault}
use Rattle.records.specs.Records.{Reads, WritesBack, code_in, codes_in, record_fault, record_format, spelled}

module _ (names : List Name) (bytes was : List ℕ) where
  -- The fields up to `place` are read, and their letters, `count` of them, stand in the buffer `now`.
  pub record ReadSoFar (place count : ℕ) (now : List ℕ) : Type 0 where
    pub fields : List Piece
    pub front : Front (record_format names (length was)) bytes place fields
    pub counted : count ≡ length fields
    pub buffer : now ≡ codes_in names fields ++ drop count was

  pub so_far_none : ReadSoFar 0 0 was
  so_far_none = record { fields = []; front = front_none (record_format names (length was)) bytes; counted = refl; buffer = refl }

  module _ (place count : ℕ) (now : List ℕ) (so_far : ReadSoFar place count now) where
    letters_stand : now ≡ codes_in names so_far.fields ++ drop (length so_far.fields) was
    letters_stand = so_far.buffer ∙ ap (λ n. codes_in names so_far.fields ++ drop n was) so_far.counted

    at_field : (field : Field) (next : ℕ) → Stands bytes place field next → (part_of field).place ≡ length (file_of so_far.fields)
    at_field field next stands = stands.placed ∙ so_far.front.reached

    pub so_far_more : (field : Field) (next code : ℕ) → Stands bytes place field next → spelling_fault names (piece_of field) ≡ None → code ≡ code_in names (piece_of field) → count < length was → ReadSoFar next (count + 1) (set now count code)
    so_far_more field next code stands free is room =
        let fs = so_far.fields in
        let f = piece_of field in
        let fits : record_format names (length was) fs f ≡ None = room_last names f (length was) fs free ∙ cond-false (leb (length was) (length fs)) (Some 21) None (lt-leb (length was) (length fs) (let n = so_far.counted in omega arith)) in
        let push = length_push fs f in
        let long : length (codes_in names fs) ≡ count = length-map fs (code_in names) ∙ sym so_far.counted in
        let cons : drop count was ≡ get_or was count 0 ∷ drop (count + 1) was = drop_more was count 0 room in
        let put : set now count code ≡ codes_in names fs ++ code ∷ drop (count + 1) was = ap (λ xs. set xs count code) (so_far.buffer ∙ ap (λ ys. codes_in names fs ++ ys) cons) ∙ set_at (codes_in names fs) (get_or was count 0) (drop (count + 1) was) code count long in
        record {
          fields = fs ++ f ∷ [];
          front = front_more so_far.front f next stands.behind stands.here fits;
          counted = (let n = so_far.counted in omega arith);
          buffer = put ∙ ap (λ c. codes_in names fs ++ c ∷ drop (count + 1) was) is ∙ sym (append_assoc (codes_in names fs) (code_in names f ∷ []) (drop (count + 1) was)) ∙ ap (λ xs. xs ++ drop (count + 1) was) (sym (map-append (code_in names) fs (f ∷ [])));
        }

    pub reads_cut : (e : Fault) → Cut (drop place bytes) → told e ≡ record_fault place (Some 10) → Reads names bytes was now (Err e)
    reads_cut e cut says = record {
      outcome = record { fields = so_far.fields; fault = Some 10 };
      fits = front_cut so_far.front cut;
      buffer = letters_stand;
      answer = (refl, says ∙ ap (λ p. record_fault p (Some 10)) so_far.front.reached);
    }

    stops : (field : Field) (next n : ℕ) (e : Fault) → Stands bytes place field next → record_format names (length was) so_far.fields (piece_of field) ≡ Some n → told e ≡ record_fault (part_of field).place (Some n) → Reads names bytes was now (Err e)
    stops field next n e stands fault says = record {
      outcome = record { fields = so_far.fields; fault = Some n };
      fits = front_stops so_far.front (piece_of field) (drop next bytes) n stands.here fault;
      buffer = letters_stand;
      answer = (refl, says ∙ ap (λ p. record_fault p (Some n)) (at_field field next stands));
    }

    pub reads_fault : (field : Field) (next : ℕ) (e : Fault) → Stands bytes place field next → is_some (spelling_fault names (piece_of field)) ≡ true → told e ≡ record_fault (part_of field).place (spelling_fault names (piece_of field)) → Reads names bytes was now (Err e)
    reads_fault field next e stands faulty says =
        let (n, is) = some_number (spelling_fault names (piece_of field)) faulty in
        stops field next n e stands (spelling_first names (piece_of field) (length was) so_far.fields n is) (says ∙ ap (record_fault (part_of field).place) is)

    pub reads_full : (field : Field) (next : ℕ) (e : Fault) → Stands bytes place field next → spelling_fault names (piece_of field) ≡ None → length was ≤ count → told e ≡ record_fault (part_of field).place (Some 21) → Reads names bytes was now (Err e)
    reads_full field next e stands free full says =
        let fs = so_far.fields in
        let n = so_far.counted in
        stops field next 21 e stands (room_last names (piece_of field) (length was) fs free ∙ cond-true (leb (length was) (length fs)) (Some 21) None (le-leb (length was) (length fs) (omega arith))) says

    pub reads_all : drop place bytes ≡ [] → Reads names bytes was now (Ok count)
    reads_all end = record {
      outcome = record { fields = so_far.fields; fault = None };
      fits = front_ends so_far.front end;
      buffer = letters_stand;
      answer = (refl, so_far.counted);
    }

-- the fields of an outcome without fault are the whole file
whole : (judge : Format) (bytes : List ℕ) (o : Outcome) → Fits judge bytes o → o.fault ≡ None → bytes ≡ file_of o.fields
whole judge bytes o fits e = subst (Ends judge o.fields bytes) e fits.ends

-- the letters that were read, and that they spell the file
read_codes : (names : List Name) (bytes was now : List ℕ) (n : ℕ) → (r : Reads names bytes was now (Ok n)) → take n now ≡ codes_in names r.outcome.fields
read_codes names bytes was now n r =
    let fs = r.outcome.fields in
    ap₂ take r.answer.1 r.buffer ∙ take_at (codes_in names fs) (drop (length fs) was) (length fs) (length-map fs (code_in names))

module _ (names : List Name) (list : listable names ≡ true) (bytes was now : List ℕ) where
  pub read_spells : (r : Result ℕ Fault) → Reads names bytes was now r → IfOk r (λ n. bytes ≡ spelled names (take n now))
  read_spells (Ok n) r =
      let fs = r.outcome.fields in
      let spelling : file_of fs ≡ spelled names (codes_in names fs) = ap file_of (sym (spelled_in names (length was) fs (few_listable names list) r.fits.in_order)) in
      whole (record_format names (length was)) bytes r.outcome r.fits r.answer.0 ∙ spelling ∙ ap (spelled names) (sym (read_codes names bytes was now n r))
  read_spells (Err e) r = tt

  -- the letters that were read, written again
  pub read_writes_back : (r : Result ℕ Fault) → length bytes ≤ 65535 → Reads names bytes was now r → IfOk r (λ n. WritesBack names bytes (take n now))
  read_writes_back (Ok n) short r =
      let fs = r.outcome.fields in
      let all : bytes ≡ file_of fs = whole (record_format names (length was)) bytes r.outcome r.fits r.answer.0 in
      subst₂ (λ b c. WritesBack names b c) (sym all) (sym (read_codes names bytes was now n r)) (writes_back names (length was) fs (few_listable names list) r.fits.in_order (subst (λ b. length b ≤ 65535) all short))
  read_writes_back (Err e) short r = tt
