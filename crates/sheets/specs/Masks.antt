-- Sets of states, and sets of pairs of states, as masks.
use Rattle.std.specs.Prelude.{◌≡◌, ℕ, zero, suc, ◌+◌, ◌*◌, ◌/◌, ◌%◌, ◌^◌, ◌<◌, Bool, false, cond, ◌||◌, ◌==◌}

-- bit i of a number
unfoldable pub has : ℕ → ℕ → Bool
has n i = n / 2 ^ i % 2 == 1

-- the mask of the numbers below k that pass f: it has bit i exactly for these i
unfoldable pub mask_of : ℕ → (ℕ → Bool) → ℕ
mask_of zero f = 0
mask_of (suc k) f = mask_of k f + cond (f k) (2 ^ k) 0

-- some number below k passes f
unfoldable pub some_below : ℕ → (ℕ → Bool) → Bool
some_below zero f = false
some_below (suc k) f = some_below k f || f k

-- A set of states is a byte: bit q for the state q.
abbrev pub state_in : ℕ → ℕ → Bool
state_in m q = has m q

abbrev pub states_where : (ℕ → Bool) → ℕ
states_where f = mask_of 8 f

-- A set of pairs of states is a number of 64 bits: bit 8 p + q for the pair (p, q).
abbrev pub pair_in : ℕ → ℕ → ℕ → Bool
pair_in m p q = has m (8 * p + q)

abbrev pub pairs_where : (ℕ → ℕ → Bool) → ℕ
pairs_where f = mask_of 64 (λ i. f (i / 8) (i % 8))

abbrev pub some_state : (ℕ → Bool) → Bool
some_state = some_below 8

abbrev pub some_mark : (ℕ → Bool) → Bool
some_mark = some_below 16

-- Masks are sets: the mask of a set has exactly its members, and two masks with the same members are one mask.
pub record MasksAreSets : Type 0 where
  pub states : (f : ℕ → Bool) (q : ℕ) → q < 8 → state_in (states_where f) q ≡ f q
  pub pairs : (f : ℕ → ℕ → Bool) (p q : ℕ) → p < 8 → q < 8 → pair_in (pairs_where f) p q ≡ f p q
  pub one_state_mask : (m n : ℕ) → m < 2 ^ 8 → n < 2 ^ 8 → ((q : ℕ) → q < 8 → state_in m q ≡ state_in n q) → m ≡ n
  pub one_pair_mask : (m n : ℕ) → m < 2 ^ 64 → n < 2 ^ 64 → ((p q : ℕ) → p < 8 → q < 8 → pair_in m p q ≡ pair_in n p q) → m ≡ n
