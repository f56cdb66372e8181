-- Reading any bytes comes to an outcome.
use Rattle.std.proofs.Common.{◌≡◌, ℕ, zero, suc, ◌+◌, ◌-◌, ◌*◌, ◌<◌, ◌≤◌, ◌⊎◌, List, [], ◌∷◌, ◌++◌, length, get_or, take, drop, Some, None, Option, sym, refl, ap, ◌∙◌, inl, inr, ⊎_elim, arith}
use Rattle.std.proofs.lemmas.List.{drop_all, drop_at, drop-drop, length-append, length-drop}
use Rattle.std.proofs.lemmas.Bool.{cases_lt}
use Rattle.fields.specs.Fields.{Cut, Piece, written}
use Rattle.fields.specs.Outcomes.{Fits, Format, Outcome}
use Rattle.fields.proofs.Fronts.{Front, front_cut, front_ends, front_more, front_none, front_stops}
use Rattle.fields.proofs.Here.{cut_unless, field_front}

-- a field stands at the front
abbrev StandsFirst : List ℕ → Type 0
StandsFirst xs = (f : Piece) × (more : List ℕ) × (xs ≡ written f ++ more)

first_field : (xs : List ℕ) → 3 ≤ length xs → get_or xs 2 0 < 256 → get_or xs 1 0 * 256 + get_or xs 2 0 ≤ length xs - 3 → StandsFirst xs
first_field xs some low enough =
    let n = get_or xs 1 0 * 256 + get_or xs 2 0 in
    let f : Piece = record { tag = get_or xs 0 0; contents = take n (drop 3 xs) } in
    (f, drop (3 + n) xs, (field_front xs n f some low refl enough refl refl).0)

field_or_cut : (xs : List ℕ) → 0 < length xs → Cut xs ⊎ StandsFirst xs
field_or_cut xs some = ⊎_elim
    (λ few. inl (cut_unless xs some (λ long _ _. omega arith)))
    (λ long. ⊎_elim
    (λ low. ⊎_elim
    (λ short. inl (cut_unless xs some (λ _ _ enough. omega arith)))
    (λ enough. inr (first_field xs long low enough))
    (cases_lt (length xs - 3) (get_or xs 1 0 * 256 + get_or xs 2 0)))
    (λ high. inl (cut_unless xs some (λ _ low _. omega arith)))
    (cases_lt (get_or xs 2 0) 256))
    (cases_lt (length xs) 3)

none_or_some : (o : Option ℕ) → (o ≡ None) ⊎ ((n : ℕ) × (o ≡ Some n))
none_or_some None = inl refl
none_or_some (Some n) = inr (n, refl)

module _ (judge : Format) (bytes : List ℕ) where
  -- the bytes behind a field that stands at a place
  left_behind : (place : ℕ) (f : Piece) (more : List ℕ) → drop place bytes ≡ written f ++ more → drop (place + length (written f)) bytes ≡ more
  left_behind place f more e = sym (drop-drop (length (written f)) place bytes) ∙ ap (drop (length (written f))) e ∙ drop_at (written f) more (length (written f)) refl

  -- behind fields in order, with at most `fuel` bytes left
  outcome_from : (fuel place : ℕ) (fs : List Piece) → Front judge bytes place fs → length (drop place bytes) ≤ fuel → (o : Outcome) × Fits judge bytes o
  outcome_from zero place fs p few = (record { fields = fs; fault = None }, front_ends p (drop_all place bytes (let n = length-drop place bytes in omega arith)))
  outcome_from (suc fuel) place fs p few = ⊎_elim
      (λ some. ⊎_elim
      (λ cut. (record { fields = fs; fault = Some 10 }, front_cut p cut))
      (λ (f, more, stands). ⊎_elim
      (λ free.
      let past = left_behind place f more stands in
      let long = ap length stands ∙ length-append (written f) more in
      let left = ap length past in
      outcome_from fuel (place + length (written f)) (fs ++ f ∷ []) (front_more p f (place + length (written f)) refl (stands ∙ ap (λ xs. written f ++ xs) (sym past)) free) (omega arith))
      (λ (n, faulty). (record { fields = fs; fault = Some n }, front_stops p f more n stands faulty))
      (none_or_some (judge fs f)))
      (field_or_cut (drop place bytes) some))
      (λ none. (record { fields = fs; fault = None }, front_ends p (drop_all place bytes (let n = length-drop place bytes in omega arith))))
      (cases_lt 0 (length (drop place bytes)))

  pub some_outcome : (o : Outcome) × Fits judge bytes o
  some_outcome = outcome_from (length bytes) 0 [] (front_none judge bytes) (omega arith)
