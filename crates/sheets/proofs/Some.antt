-- "Some number below k passes f".
use Rattle.std.proofs.Common.{◌≡◌, ℕ, zero, suc, ◌<◌, Bool, true, false, ◌&&◌, ◌||◌, eqb, sym, refl, ap, ◌∙◌, ⊎_elim, arith}
use Rattle.std.proofs.lemmas.Bool.{and_from, and_parts, cases_eq, eq-eqb, eqb-true, or_cases, or_left, or_right}
use Rattle.sheets.specs.Masks.{some_below}

-- two tests are one where each implies the other
pub same_test : (a b : Bool) → (a ≡ true → b ≡ true) → (b ≡ true → a ≡ true) → a ≡ b
same_test a b f g = grind (arith, f, g)

pub some_from : (k : ℕ) (f : ℕ → Bool) → some_below k f ≡ true → (i : ℕ) × (i < k) × (f i ≡ true)
unfolding some_below
some_from zero f h = absurd (let e : ◌≡◌ {A = ℕ} 0 1 = cc in omega arith)
some_from (suc k) f h = ⊎_elim
    (λ e. let (i, lt, is) = some_from k f e in (i, omega arith, is))
    (λ e. (k, omega arith, e))
    (or_cases (some_below k f) (f k) h)

pub some_at : (k : ℕ) (f : ℕ → Bool) (i : ℕ) → i < k → f i ≡ true → some_below k f ≡ true
unfolding some_below
some_at zero f i lt h = absurd (omega arith)
some_at (suc k) f i lt h = ⊎_elim
    (λ e. or_right (some_below k f) (f k) (ap f (sym e) ∙ h))
    (λ n. or_left (some_below k f) (f k) (some_at k f i (omega arith) h))
    (cases_eq i k)

module _ (k : ℕ) where
  pub some_same : (f g : ℕ → Bool) → ((i : ℕ) → i < k → f i ≡ g i) → some_below k f ≡ some_below k g
  some_same f g h = same_test (some_below k f) (some_below k g)
      (λ e. let (i, lt, is) = some_from k f e in some_at k g i lt (sym (h i lt) ∙ is))
      (λ e. let (i, lt, is) = some_from k g e in some_at k f i lt (h i lt ∙ is))

  pub some_or : (f g : ℕ → Bool) → some_below k (λ i. f i || g i) ≡ some_below k f || some_below k g
  some_or f g = same_test (some_below k (λ i. f i || g i)) (some_below k f || some_below k g)
      (λ e. let (i, lt, is) = some_from k (λ i. f i || g i) e in ⊎_elim
      (λ l. or_left (some_below k f) (some_below k g) (some_at k f i lt l))
      (λ r. or_right (some_below k f) (some_below k g) (some_at k g i lt r))
      (or_cases (f i) (g i) is))
      (λ e. ⊎_elim
      (λ l. let (i, lt, is) = some_from k f l in some_at k (λ i. f i || g i) i lt (or_left (f i) (g i) is))
      (λ r. let (i, lt, is) = some_from k g r in some_at k (λ i. f i || g i) i lt (or_right (f i) (g i) is))
      (or_cases (some_below k f) (some_below k g) e))

  pub some_none : some_below k (λ i. false) ≡ false
  some_none = same_test (some_below k (λ i. false)) false (λ e. (some_from k (λ i. false) e).2) (λ e. absurd (let n : ◌≡◌ {A = ℕ} 0 1 = cc in omega arith))

  -- a number that is named
  pub some_point : (x : ℕ) (f : ℕ → Bool) → x < k → some_below k (λ i. eqb i x && f i) ≡ f x
  some_point x f lt = same_test (some_below k (λ i. eqb i x && f i)) (f x)
      (λ e. let (i, _, is) = some_from k (λ i. eqb i x && f i) e in ap f (sym (eqb-true i x (and_parts (eqb i x) (f i) is).0)) ∙ (and_parts (eqb i x) (f i) is).1)
      (λ e. some_at k (λ i. eqb i x && f i) x lt (and_from (eqb x x) (f x) (eq-eqb x x refl) e))
