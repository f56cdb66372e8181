-- Rows with one place more.
use Rattle.std.proofs.Common.{◌≡◌, ℕ, ◌+◌, ◌<◌, ◌≤◌, List, [], ◌∷◌, ◌++◌, length, get_or, take, set, sym, ap, ◌∙◌, ⊎_elim, arith}
use Rattle.std.proofs.lemmas.List.{get_or_append_left, get_or_push, get_or-set_other, get_or-set_same, get_or-take, length-take-le}
use Rattle.std.proofs.lemmas.Bool.{cases_eq}

module _ {X : Type 0} (d : X) where
  -- ys has y at place n, and below it what xs has
  pub record OneMore (xs ys : List X) (n : ℕ) (y : X) : Type 0 where
    pub same : (k : ℕ) → k < n → get_or ys k d ≡ get_or xs k d
    pub last : get_or ys n d ≡ y

  pub set_more : (xs : List X) (n : ℕ) (y : X) → n < length xs → OneMore xs (set xs n y) n y
  set_more xs n y lt = record {
    same = λ k below. get_or-set_other xs n k y d (omega arith);
    last = get_or-set_same xs n y d lt;
  }

  pub push_more : (xs : List X) (n : ℕ) (y : X) → n ≤ length xs → OneMore xs (take n xs ++ y ∷ []) n y
  push_more xs n y le = let long = length-take-le n xs le in record {
    same = λ k below. get_or_append_left (take n xs) (y ∷ []) d k (omega arith) ∙ get_or-take n xs k d below;
    last = get_or_push (take n xs) y d n long;
  }

  -- no two of the first n are one
  abbrev pub Distinct : List X → ℕ → Type 0
  Distinct xs n = (j k : ℕ) → j < k → k < n → get_or xs j d ≡ get_or xs k d → ⊥

  pub distinct_along : (xs ys : List X) (n : ℕ) → ((k : ℕ) → k < n → get_or ys k d ≡ get_or xs k d) → Distinct xs n → Distinct ys n
  distinct_along xs ys n same distinct j k less lt e = distinct j k less lt (sym (same j (omega arith)) ∙ e ∙ same k lt)

  pub distinct_more : (xs ys : List X) (n : ℕ) (y : X) → OneMore xs ys n y → ((k : ℕ) → k < n → get_or xs k d ≡ y → ⊥) → Distinct xs n → Distinct ys (n + 1)
  distinct_more xs ys n y more other distinct j k less lt e = ⊎_elim
      (λ (is : k ≡ n). other j (omega arith) (sym (more.same j (omega arith)) ∙ e ∙ ap (λ m. get_or ys m d) is ∙ more.last))
      (λ (below : k ≡ n → ⊥). distinct_along xs ys n more.same distinct j k less (omega arith) e)
      (cases_eq k n)

  -- rows that begin alike
  pub same_front : (xs ys : List X) (n k : ℕ) → take n xs ≡ take n ys → k < n → get_or xs k d ≡ get_or ys k d
  same_front xs ys n k e lt = sym (get_or-take n xs k d lt) ∙ ap (λ l. get_or l k d) e ∙ get_or-take n ys k d lt
