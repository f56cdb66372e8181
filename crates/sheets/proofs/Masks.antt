-- Sets of states, and of pairs of states, as masks.
use Rattle.std.proofs.Common.{◌≡◌, ℕ, zero, suc, ◌+◌, ◌-◌, ◌*◌, ◌/◌, ◌%◌, ◌^◌, ◌<◌, ◌≤◌, Bool, true, false, cond, not, ◌&&◌, ◌||◌, eqb, ltb, sym, refl, ap, ◌∙◌, ap₂, ⊎_elim, add-zero, mod-eq_of_lt, add_comm, pow-suc, arith}
use lib.Bits.{bit_and, bit_or}
use Rattle.std.proofs.lemmas.Nat.{and_le_r, and_mask, or_lt, pow_below, pow_pos}
use Rattle.std.proofs.Math.Bool.{not-not}
use Rattle.std.proofs.lemmas.Bool.{cases_Bool, cases_eq, eqb-true, not-false, true≢false}
use Rattle.sheets.specs.Masks.{MasksAreSets, has, mask_of, pair_in, pairs_where, some_below, some_state, state_in, states_where}
use Rattle.sheets.proofs.Bits.{bit_below, bit_times, block_high, block_low, column_below, has_column, has_mod, has_power}
pub use Rattle.sheets.proofs.Bits.{has_above, has_and, has_or, has_shr, one_mask}
use Rattle.sheets.proofs.Some.{some_at}

-- the mask of one more number
mask_more : (k : ℕ) (f : ℕ → Bool) → mask_of (suc k) f ≡ cond (f k) 1 0 * 2 ^ k + mask_of k f
unfolding mask_of
mask_more k f = one (f k) (2 ^ k) (mask_of k f)
  where
    one : (t : Bool) (w x : ℕ) → x + cond t w 0 ≡ cond t 1 0 * w + x
    one true w x = omega arith
    one false w x = omega arith

pub mask_of_below : (k : ℕ) (f : ℕ → Bool) → mask_of k f < 2 ^ k
unfolding mask_of
mask_of_below zero f = omega arith
mask_of_below (suc k) f = one (f k) (2 ^ k) (2 ^ suc k) (mask_of k f) (pow-suc 2 k) (mask_of_below k f)
  where
    one : (t : Bool) (w v x : ℕ) → v ≡ w * 2 → x < w → x + cond t w 0 < v
    one true w v x e h = omega arith
    one false w v x e h = omega arith

has_cond : (t : Bool) → has (cond t 1 0) 0 ≡ t
unfolding has
has_cond true = refl
has_cond false = refl

pub has_mask_of : (k : ℕ) (f : ℕ → Bool) (i : ℕ) → i < k → has (mask_of k f) i ≡ f i
has_mask_of zero f i lt = absurd (omega arith)
has_mask_of (suc k) f i lt = ap (λ x. has x i) (mask_more k f) ∙ ⊎_elim
    (λ e. ap (has (cond (f k) 1 0 * 2 ^ k + mask_of k f)) (e ∙ sym (add-zero k))
    ∙ block_high (cond (f k) 1 0) k (mask_of k f) (mask_of_below k f) 0 ∙ has_cond (f k) ∙ ap f (sym e))
    (λ n. block_low (cond (f k) 1 0) k (mask_of k f) (mask_of_below k f) i (omega arith) ∙ has_mask_of k f i (omega arith))
    (cases_eq i k)

-- a number with the bits of a set is the mask of the set
pub mask_from : (k x : ℕ) (f : ℕ → Bool) → x < 2 ^ k → ((i : ℕ) → i < k → has x i ≡ f i) → x ≡ mask_of k f
mask_from k x f h same = one_mask k x (mask_of k f) h (mask_of_below k f) (λ i lt. same i lt ∙ sym (has_mask_of k f i lt))

mask_same : (k : ℕ) (f g : ℕ → Bool) → ((i : ℕ) → i < k → f i ≡ g i) → mask_of k f ≡ mask_of k g
mask_same k f g same = mask_from k (mask_of k f) g (mask_of_below k f) (λ i lt. has_mask_of k f i lt ∙ same i lt)

mask_or : (k : ℕ) (f g : ℕ → Bool) → bit_or (mask_of k f) (mask_of k g) ≡ mask_of k (λ i. f i || g i)
mask_or k f g = mask_from k (bit_or (mask_of k f) (mask_of k g)) (λ i. f i || g i)
    (or_lt k (mask_of k f) (mask_of k g) (mask_of_below k f) (mask_of_below k g))
    (λ i lt. has_or (mask_of k f) (mask_of k g) i ∙ ap₂ ◌||◌ (has_mask_of k f i lt) (has_mask_of k g i lt))

-- a number below 64 is the pair of its row and its column
pair_of : (i : ℕ) → 8 * (i / 8) + i % 8 ≡ i
pair_of i = omega arith

has_pairs : (f : ℕ → ℕ → Bool) (p q : ℕ) → p < 8 → q < 8 → has (pairs_where f) (8 * p + q) ≡ f p q
has_pairs f p q hp hq =
    let e : (8 * p + q) / 8 ≡ p = omega arith in
    let e' : (8 * p + q) % 8 ≡ q = omega arith in
    has_mask_of 64 (λ i. f (i / 8) (i % 8)) (8 * p + q) (omega arith) ∙ ap₂ f e e'

pub pairs_from : (x : ℕ) (f : ℕ → ℕ → Bool) → x < 2 ^ 64 → ((p q : ℕ) → p < 8 → q < 8 → has x (8 * p + q) ≡ f p q) → x ≡ pairs_where f
pairs_from x f h same = mask_from 64 x (λ i. f (i / 8) (i % 8)) h
    (λ i lt. ap (has x) (sym (pair_of i)) ∙ same (i / 8) (i % 8) (omega arith) (omega arith))

pub masks_are_sets : MasksAreSets
masks_are_sets = record {
  states = has_mask_of 8;
  pairs = has_pairs;
  one_state_mask = one_mask 8;
  one_pair_mask = λ m n p q same. pairs_from m (λ i j. has n (8 * i + j)) p same ∙ sym (pairs_from n (λ i j. has n (8 * i + j)) q (λ i j hi hj. refl));
}

pub states_same : (f g : ℕ → Bool) → ((q : ℕ) → q < 8 → f q ≡ g q) → states_where f ≡ states_where g
states_same = mask_same 8

pub pairs_same : (f g : ℕ → ℕ → Bool) → ((p q : ℕ) → p < 8 → q < 8 → f p q ≡ g p q) → pairs_where f ≡ pairs_where g
pairs_same f g same = mask_same 64 (λ i. f (i / 8) (i % 8)) (λ i. g (i / 8) (i % 8)) (λ i lt. same (i / 8) (i % 8) (omega arith) (omega arith))

pub states_or : (f g : ℕ → Bool) → bit_or (states_where f) (states_where g) ≡ states_where (λ q. f q || g q)
states_or = mask_or 8

pub pairs_or : (f g : ℕ → ℕ → Bool) → bit_or (pairs_where f) (pairs_where g) ≡ pairs_where (λ p q. f p q || g p q)
pairs_or f g = mask_or 64 (λ i. f (i / 8) (i % 8)) (λ i. g (i / 8) (i % 8))

-- a bit of a set of states, moved to the states of a row
pub bit_row : (m from row : ℕ) → row < 2 ^ 8 → bit_and (m / 2 ^ from) 1 * row ≡ states_where (λ q. state_in m from && has row q)
bit_row m from row h = mask_from 8 (bit_and (m / 2 ^ from) 1 * row) (λ q. state_in m from && has row q) (bit_below (m / 2 ^ from) row h)
    (λ q _. bit_times (m / 2 ^ from) row q ∙ ap (λ t. t && has row q) (has_shr m from 0 ∙ ap (has m) (add-zero from)))

pub bit_moved : (m from to : ℕ) → to < 8 → (bit_and (m / 2 ^ from) 1 * 2 ^ to) % 2 ^ 8 ≡ states_where (λ q. state_in m from && eqb q to)
bit_moved m from to lt =
    mod-eq_of_lt (bit_below (m / 2 ^ from) (2 ^ to) (pow_below to 8 lt)) ∙ bit_row m from (2 ^ to) (pow_below to 8 lt)
    ∙ states_same (λ q. state_in m from && has (2 ^ to) q) (λ q. state_in m from && eqb q to) (λ q _. ap (λ t. state_in m from && t) (has_power to q))

-- the column `from` of a pair set, moved to the columns of a row of states
pub column_rows : (m from row : ℕ) → row < 2 ^ 8
    → bit_and (m / 2 ^ from) 72340172838076673 * row ≡ pairs_where (λ p q. pair_in m p from && has row q)
column_rows m from row h = pairs_from (bit_and (m / 2 ^ from) 72340172838076673 * row) (λ p q. pair_in m p from && has row q) (column_below (m / 2 ^ from) row h)
    (λ p q hp hq.
    has_column (m / 2 ^ from) row p q h hp hq ∙ ap (λ t. t && has row q) (has_shr m from (8 * p) ∙ ap (has m) (add_comm from (8 * p))))

-- the same where the row is one state
pub column_moved : (m from to : ℕ) → to < 8
    → (bit_and (m / 2 ^ from) 72340172838076673 * 2 ^ to) % 2 ^ 64 ≡ pairs_where (λ p q. pair_in m p from && eqb q to)
column_moved m from to lt =
    mod-eq_of_lt (column_below (m / 2 ^ from) (2 ^ to) (pow_below to 8 lt)) ∙ column_rows m from (2 ^ to) (pow_below to 8 lt)
    ∙ pairs_same (λ p q. pair_in m p from && has (2 ^ to) q) (λ p q. pair_in m p from && eqb q to) (λ p q _ _. ap (λ t. pair_in m p from && t) (has_power to q))

-- the row p of a pair set
pub row_of : (m p : ℕ) → bit_and (m / 2 ^ (8 * p)) 255 ≡ states_where (λ q. pair_in m p q)
row_of m p = and_mask (m / 2 ^ (8 * p)) 8 ∙ mask_from 8 (m / 2 ^ (8 * p) % 2 ^ 8) (λ q. pair_in m p q) (omega arith)
    (λ q hq. has_mod (m / 2 ^ (8 * p)) 8 q hq ∙ has_shr m (8 * p) q)

none_at : (k : ℕ) (f : ℕ → Bool) (i : ℕ) → i < k → some_below k f ≡ false → f i ≡ false
none_at k f i lt h = ⊎_elim (λ e. absurd (true≢false (sym (some_at k f i lt e) ∙ h))) (λ e. e) (cases_Bool (f i))

-- the identity on the states below n, for each n by computing: the mask 0x8040201008040201 has bit 9 p for each p below 8
identity_differs : ℕ → Bool
identity_differs n = not (eqb (bit_and 9241421688590303745 (18446744073709551615 / 2 ^ (64 - 8 * n))) (pairs_where (λ p q. ltb p n && eqb p q)))

identity_never : some_below 9 identity_differs ≡ false
unfolding some_below mask_of identity_differs
identity_never = refl

pub identity_mask : (n : ℕ) → n ≤ 8 → bit_and 9241421688590303745 (18446744073709551615 / 2 ^ (64 - 8 * n)) ≡ pairs_where (λ p q. ltb p n && eqb p q)
unfolding identity_differs
identity_mask n le = eqb-true (bit_and 9241421688590303745 (18446744073709551615 / 2 ^ (64 - 8 * n))) (pairs_where (λ p q. ltb p n && eqb p q))
    (not-false _ (none_at 9 identity_differs n (omega arith) identity_never))

-- a mask of nothing
mask_none : (k : ℕ) (f : ℕ → Bool) → eqb (mask_of k f) 0 ≡ not (some_below k f)
unfolding mask_of some_below
mask_none zero f = refl
mask_none (suc k) f = one (f k) (some_below k f) (2 ^ k) (mask_of k f) (pow_pos k) (mask_none k f)
  where
    one : (t s : Bool) (w x : ℕ) → 0 < w → eqb x 0 ≡ not s → eqb (x + cond t w 0) 0 ≡ not (s || t)
    one t s w x h e = grind (arith, e)

-- two sets of states meet
pub sets_meet : (m n : ℕ) → m < 2 ^ 8 → n < 2 ^ 8 → not (eqb (bit_and m n) 0) ≡ some_state (λ q. state_in m q && state_in n q)
sets_meet m n p q =
    ap (λ x. not (eqb x 0)) (mask_from 8 (bit_and m n) (λ i. has m i && has n i) (omega (arith, and_le_r m n)) (λ i _. has_and m n i))
    ∙ ap not (mask_none 8 (λ i. has m i && has n i)) ∙ not-not (some_state (λ i. has m i && has n i))
