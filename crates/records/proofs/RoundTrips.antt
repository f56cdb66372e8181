-- Letters that are written and read back, and bytes that are read and written back, are the same.
use Rattle.std.proofs.Common.{◌≡◌, ℕ, suc, ◌+◌, ◌/◌, ◌%◌, ◌<◌, ◌≤◌, min, true, List, [], ◌∷◌, ◌++◌, map, length, get_or, take, drop, is_some, Some, None, Ok, Err, Option, Result, unwrap_or, refl, ap, ◌∙◌, subst, ap₂, arith}
use Rattle.std.proofs.lemmas.List.{get_or-map, length-append, length-map, length-take, map-append, take_all}
use Rattle.std.proofs.lemmas.Bool.{both_ways, cases_Bool, le-ltb}
use Rattle.std.proofs.lemmas.Bool.Decides.{nat_tests, when_false}
use Rattle.fields.proofs.Orders.{file_of_append, in_order_at, in_order_each, split_at}
use Rattle.fields.proofs.Unique.{one_outcome}
use Rattle.fields.specs.Fields.{Piece, file_of, written}
use Rattle.fields.specs.Outcomes.{InOrder}
use Rattle.fields.specs.declared.fault.Fault.{Fault}
use Rattle.name_list.proofs.Numbers.{listable_name, number_reads, number_within}
use Rattle.name_list.specs.Names.{Name, listable, name_bytes, number_of}
use Rattle.records.specs.Records.{Reads, ReadsBack, WritesBack, code_in, codes_in, fault_at, field_in, letter_fault, record_format, spelled}

-- each element of a row comes back from `f` by `g`
map_back : {X Y : Type 0} (g : Y → X) (f : X → Y) (d : X) (xs : List X) → ((k : ℕ) → k < length xs → g (f (get_or xs k d)) ≡ get_or xs k d) → map g (map f xs) ≡ xs
map_back g f d [] h = refl
map_back g f d (x ∷ xs) h = ap₂ ◌∷◌ (h 0 (omega arith)) (map_back g f d xs (λ k within. h (suc k) (omega arith)))

some : (o : Option ℕ) → is_some o ≡ true → o ≡ Some (unwrap_or o 0)
some None h = cc
some (Some k) h = refl

module _ (names : List Name) where
  -- the code is a letter's, and its name is listed
  abbrev LetterCode : ℕ → Type 0
  LetterCode c = (c ≤ 47) × (c % 16 < length names)

  -- a field without fault has a letter's tag and a listed name
  field_letter : (room : ℕ) (us : List Piece) (f : Piece) → record_format names room us f ≡ None → (1 ≤ f.tag) × (f.tag ≤ 3) × (is_some (number_of names f.contents) ≡ true)
  unfolding record_format
  field_letter room us f free =
      let bytes = cases_Bool (name_bytes f.contents) in
      let listed = cases_Bool (is_some (number_of names f.contents)) in
      (grind (arith, nat_tests), grind (arith, nat_tests), grind (arith, nat_tests))

  -- a field without fault spells the letter of its code
  field_back : (room : ℕ) (us : List Piece) (f : Piece) → length names ≤ 16 → record_format names room us f ≡ None → LetterCode (code_in names f) × (field_in names (code_in names f) ≡ f)
  field_back room us f few free =
      let k = unwrap_or (number_of names f.contents) 0 in
      let letter = field_letter room us f free in
      let numbered = some (number_of names f.contents) letter.2 in
      let within = number_within names f.contents k numbered in
      let kind : 1 + code_in names f / 16 ≡ f.tag = omega arith in
      let number : code_in names f % 16 ≡ k = omega arith in
      let name = number_reads names f.contents k numbered in
      ((omega arith, omega arith), ap₂ (λ t c. record { tag = t; contents = c }) kind (ap (λ j. get_or names j []) number ∙ name))

  module _ (list : listable names ≡ true) (c : ℕ) (letter : LetterCode c) where
    -- the field of a letter is without fault where there is room
    field_free : (room : ℕ) (us : List Piece) → length us < room → record_format names room us (field_in names c) ≡ None
    unfolding record_format
    field_free room us fits =
        let name = listable_name names list (c % 16) letter.1 in
        let listed : is_some (number_of names (get_or names (c % 16) [])) ≡ true = ap is_some name.2 in
        grind (arith, nat_tests)

    code_back : code_in names (field_in names c) ≡ c
    code_back =
        let number = ap (λ o. unwrap_or o 0) (listable_name names list (c % 16) letter.1).2 in
        omega arith

  -- the bytes up to and with a letter are a front of those of all letters
  spelled_front : (codes : List ℕ) (k : ℕ) → k < length codes → length (spelled names (take k codes)) + length (written (field_in names (get_or codes k 0))) ≤ length (spelled names codes)
  spelled_front codes k within =
      let us = map (field_in names) (take k codes) in
      let vs = map (field_in names) (drop (k + 1) codes) in
      let f = field_in names (get_or codes k 0) in
      let split : map (field_in names) codes ≡ us ++ f ∷ vs = ap (map (field_in names)) (split_at codes k 0 within) ∙ map-append (field_in names) (take k codes) (get_or codes k 0 ∷ drop (k + 1) codes) in
      let bytes : spelled names codes ≡ file_of us ++ (written f ++ file_of vs) = ap file_of split ∙ file_of_append us (f ∷ vs) in
      let long = ap length bytes ∙ length-append (file_of us) (written f ++ file_of vs) in
      let front = length-append (written f) (file_of vs) in
      omega arith

  -- a letter has no fault where all letters fit
  letter_free : (room : ℕ) (codes : List ℕ) (k : ℕ) → k < length codes → LetterCode (get_or codes k 0) → length (spelled names codes) ≤ min room 65535 → fault_at names room codes k ≡ None
  unfolding letter_fault
  letter_free room codes k within letter fits = let front = spelled_front codes k within in grind (arith, nat_tests)

  -- letters that all fit are all written
  writes_all : (codes : List ℕ) → ((k : ℕ) → k < length codes → LetterCode (get_or codes k 0)) → length (spelled names codes) ≤ 65535 → WritesBack names (spelled names codes) codes
  writes_all codes letters short was now (Ok n) fits w =
      let whole = take_all w.count codes (omega arith) in
      (ap Ok w.answer.1, rw whole at w.buffer)
  writes_all codes letters short was now (Err e) fits w =
      let within = w.answer.0 in
      let free = letter_free (length was) codes w.count within (letters w.count within) (omega arith) in
      absurd (both_ways _ (ap is_some free) w.answer.1)

  module _ (room : ℕ) (fs : List Piece) (few : length names ≤ 16) (ordered : InOrder (record_format names room) fs) where
    abbrev nth : ℕ → Piece
    nth k = get_or fs k (field_in names 0)

    nth_back : (k : ℕ) → k < length fs → LetterCode (code_in names (nth k)) × (field_in names (code_in names (nth k)) ≡ nth k)
    nth_back k within = field_back room (take k fs) (nth k) few (in_order_at (record_format names room) fs (field_in names 0) ordered k within)

    -- for fields in order the letters' bytes are the fields' bytes
    pub spelled_in : map (field_in names) (codes_in names fs) ≡ fs
    spelled_in = map_back (field_in names) (code_in names) (field_in names 0) fs (λ k within. (nth_back k within).1)

    code_at : (k : ℕ) → k < length (codes_in names fs) → LetterCode (get_or (codes_in names fs) k 0)
    code_at k h =
        let within : k < length fs = rw (length-map fs (code_in names)) at h in
        rw (get_or-map (code_in names) fs k (field_in names 0) 0 within) (nth_back k within).0

    pub writes_back : length (file_of fs) ≤ 65535 → WritesBack names (file_of fs) (codes_in names fs)
    writes_back = subst (λ gs. length (file_of gs) ≤ 65535 → WritesBack names (file_of gs) (codes_in names fs)) spelled_in (writes_all (codes_in names fs) code_at)

  -- where there is no fault the answer is the number of letters
  answered : (bytes was now : List ℕ) (r : Result ℕ Fault) (read : Reads names bytes was now r) → read.outcome.fault ≡ None → r ≡ Ok (length read.outcome.fields)
  answered bytes was now (Ok n) read free = ap Ok read.answer.1
  answered bytes was now (Err e) read free = absurd (both_ways _ (ap is_some free) read.answer.0)

  module _ (codes : List ℕ) (list : listable names ≡ true) (letters : (k : ℕ) → k < length codes → LetterCode (get_or codes k 0)) where
    codes_back : codes_in names (map (field_in names) codes) ≡ codes
    codes_back = map_back (code_in names) (field_in names) 0 codes (λ k within. code_back list (get_or codes k 0) (letters k within))

    letters_in_order : (room : ℕ) → length codes ≤ room → InOrder (record_format names room) (map (field_in names) codes)
    letters_in_order room fits = in_order_each (record_format names room) (map (field_in names) codes) (field_in names 0) (λ k h.
        let within : k < length codes = rw (length-map codes (field_in names)) at h in
        let long = length-take k (map (field_in names) codes) in
        rw (get_or-map (field_in names) codes k 0 (field_in names 0) within) (field_free list (get_or codes k 0) (letters k within) room _ (omega arith)))

    pub reads_back : length (spelled names codes) ≤ 65535 → ReadsBack names codes
    reads_back short was now r fits h =
        let read : Reads names (spelled names codes) was now r = when_false _ _ (le-ltb 65535 (length (spelled names codes)) short) h in
        let same : read.outcome ≡ record { fields = map (field_in names) codes; fault = None } = one_outcome _ _ _ _ read.fits (record { in_order = letters_in_order (length was) fits; ends = refl }) in
        let long = ap (λ o. length o.fields) same ∙ length-map codes (field_in names) in
        let spells = ap (λ o. codes_in names o.fields) same ∙ codes_back in
        (answered _ was now r read (ap (λ o. o.fault) same) ∙ ap Ok long, read.buffer ∙ ap₂ (λ cs n. cs ++ drop n was) spells long)
