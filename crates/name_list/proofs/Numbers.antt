-- The numbers of listed names.
use Rattle.std.proofs.Common.{◌≡◌, ℕ, zero, suc, ◌+◌, ◌<◌, Bool, true, false, cond, not, List, [], ◌∷◌, ◌++◌, map, length, get_or, is_some, Some, None, Option, refl, ap, ◌∙◌, arith}
use Rattle.std.proofs.lemmas.Slice.Eq.{bytes_eq-Decides}
use Rattle.std.proofs.lemmas.List.{append_assoc, length_push}
use Rattle.std.proofs.lemmas.Bool.{and_parts, cases_Bool, cond-false, cond-true}
use Rattle.std.proofs.lemmas.Bool.Decides.{nat_tests}
use Rattle.std.specs.Option.{option_map}
use Rattle.name_list.specs.Names.{Name, listable, listable_behind, name_bytes, name_field, name_long, names_format, names_in, number_of, same_name}

-- What a number tells, where b says whether the name is the first of a list, and o is its number in the rest.
count_zero : (b : Bool) (o : Option ℕ) → cond b (Some 0) (option_map suc o) ≡ Some 0 → b ≡ true
count_zero true o e = refl
count_zero false None e = cc
count_zero false (Some j) e = cc

count_suc : (b : Bool) (o : Option ℕ) (k : ℕ) → cond b (Some 0) (option_map suc o) ≡ Some (suc k) → o ≡ Some k
count_suc true o k e = cc
count_suc false None k e = cc
count_suc false (Some j) k e = cc

count_none : (b : Bool) (o : Option ℕ) → is_some (cond b (Some 0) (option_map suc o)) ≡ false → (b ≡ false) × (is_some o ≡ false)
count_none true o e = (cc, cc)
count_none false None e = (refl, refl)
count_none false (Some j) e = (refl, e)

-- a name that has a number stands in the list at that place
numbered : (ns : List Name) (n : Name) (k : ℕ) → number_of ns n ≡ Some k → (k < length ns) × (get_or ns k [] ≡ n)
unfolding number_of
numbered [] n k e = let z : ◌≡◌ {A = ℕ} 0 1 = cc in absurd (omega arith)
numbered (m ∷ ms) n zero e = (omega arith, (bytes_eq-Decides m n).0 (count_zero (same_name m n) (number_of ms n) e))
numbered (m ∷ ms) n (suc k) e = let past = numbered ms n k (count_suc (same_name m n) (number_of ms n) k e) in (omega arith, past.1)

pub number_within : (ns : List Name) (n : Name) (k : ℕ) → number_of ns n ≡ Some k → k < length ns
number_within ns n k e = (numbered ns n k e).0

pub number_reads : (ns : List Name) (n : Name) (k : ℕ) → number_of ns n ≡ Some k → get_or ns k [] ≡ n
number_reads ns n k e = (numbered ns n k e).1

-- a name that is not listed before gets the next number
number_next : (us : List Name) (n : Name) (ns : List Name) → is_some (number_of us n) ≡ false → number_of (us ++ n ∷ ns) n ≡ Some (length us)
unfolding number_of
number_next [] n ns h = cond-true (same_name n n) (Some 0) (option_map suc (number_of ns n)) ((bytes_eq-Decides n n).1 refl)
number_next (u ∷ us) n ns h =
    let past = count_none (same_name u n) (number_of us n) h in
    cond-false (same_name u n) (Some 0) (option_map suc (number_of (us ++ n ∷ ns) n)) past.0 ∙ ap (option_map suc) (number_next us n ns past.1)

pub names_in_fields : (us : List Name) → names_in (map name_field us) ≡ us
names_in_fields [] = refl
names_in_fields (u ∷ us) = ap (λ ns. u ∷ ns) (names_in_fields us)

none : {A : Type 0} (o : Option A) → not (is_some o) ≡ true → o ≡ None
none None h = refl
none (Some x) h = cc

-- a field of a name list is a name, and a new one
new_name : (us : List Name) (n : Name) → names_format (map name_field us) (name_field n) ≡ None → (name_long n ≡ true) × (name_bytes n ≡ true) × (is_some (number_of us n) ≡ false)
unfolding names_format
new_name us n free =
    let same = names_in_fields us in
    let bytes = cases_Bool (name_bytes n) in
    let listed = cases_Bool (is_some (number_of us n)) in
    (grind (arith, nat_tests), grind (arith, nat_tests), grind (arith, nat_tests))

pub first_listable : (us : List Name) (n : Name) (ns : List Name) → listable_behind us (n ∷ ns) ≡ true → (names_format (map name_field us) (name_field n) ≡ None) × (listable_behind (us ++ n ∷ []) ns ≡ true)
unfolding listable_behind
first_listable us n ns h = let parts = and_parts _ _ h in (none _ parts.0, parts.1)

-- names that can stand behind `us` are numbered from there on
listed : (us ns : List Name) → listable_behind us ns ≡ true → (k : ℕ) → k < length ns → (name_long (get_or ns k []) ≡ true) × (name_bytes (get_or ns k []) ≡ true) × (number_of (us ++ ns) (get_or ns k []) ≡ Some (length us + k))
listed us [] h k within = absurd (omega arith)
listed us (n ∷ ns) h zero within =
    let new = new_name us n (first_listable us n ns h).0 in
    (new.0, new.1, number_next us n ns new.2 ∙ ap Some (omega arith))
listed us (n ∷ ns) h (suc k) within =
    let more = listed (us ++ n ∷ []) ns (first_listable us n ns h).1 k (omega arith) in
    let long = length_push us n in
    (more.0, more.1, (rw append_assoc at more.2) ∙ ap Some (omega arith))

pub listable_name : (ns : List Name) → listable ns ≡ true → (k : ℕ) → k < length ns → (name_long (get_or ns k []) ≡ true) × (name_bytes (get_or ns k []) ≡ true) × (number_of ns (get_or ns k []) ≡ Some k)
listable_name ns h k within = let l = listed [] ns h k within in (l.0, l.1, l.2 ∙ ap Some (omega arith))
