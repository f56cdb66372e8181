-- The bits of a number.
use Rattle.std.proofs.Common.{◌≡◌, ℕ, zero, suc, ◌+◌, ◌-◌, ◌*◌, ◌/◌, ◌%◌, ◌^◌, ◌<◌, ◌≤◌, false, ◌&&◌, ◌||◌, Bool, eqb, sym, ap, ◌∙◌, ap₂, ⊎_elim, div-one, arith}
use lib.Bits.{and_block, bit_and, bit_or}
use Rattle.std.proofs.lemmas.Nat.{and_le_r, and_mask, mul-le, shr-shr, shr_split}
use Rattle.std.proofs.lemmas.Nat.Bits.{bit_at-lt, bit_at-pow_other, bit_at-pow_same, bit_at-zero, bit_at_above, bit_at_and, bit_at_cat_high, bit_at_cat_low, bit_at_or, same_from_bits_below}
use Rattle.std.proofs.lemmas.Bool.{cases_eq, eq-eqb, ne_eqb}
use Rattle.std.proofs.lemmas.Bool.Decides.{nat_tests}
use Rattle.std.specs.Int.{bit_at}
use Rattle.sheets.specs.Masks.{has}

-- the test of a digit
abbrev one : ℕ → Bool
one x = eqb x 1

pub has_shr : (m k i : ℕ) → has (m / 2 ^ k) i ≡ has m (k + i)
unfolding has
has_shr m k i = ap (λ x. one (x % 2)) (shr-shr m k i)

pub has_above : (k m i : ℕ) → m < 2 ^ k → k ≤ i → has m i ≡ false
unfolding has
has_above k m i h le = ap one (bit_at_above m k i h le)

pub has_first : (m : ℕ) → has m 0 ≡ one (m % 2)
unfolding has
has_first m = ap (λ x. one (x % 2)) (div-one m)

-- a number as a high part and k low digits
module _ (a k r : ℕ) (h : r < 2 ^ k) where
  pub block_low : (i : ℕ) → i < k → has (a * 2 ^ k + r) i ≡ has r i
  unfolding has
  block_low i lt = ap one (bit_at_cat_low a k r i lt)

  pub block_high : (i : ℕ) → has (a * 2 ^ k + r) (k + i) ≡ has a i
  unfolding has
  block_high i = let e : k + i - k ≡ i = omega arith in ap one (bit_at_cat_high a k r (k + i) h (omega arith) ∙ ap (bit_at a) e)

-- the k low digits
pub has_mod : (m k i : ℕ) → i < k → has (m % 2 ^ k) i ≡ has m i
unfolding has
has_mod m k i lt = ap one (sym (bit_at_cat_low (m / 2 ^ k) k (m % 2 ^ k) i lt) ∙ ap (λ x. bit_at x i) (shr_split m k))

pub has_or : (m n i : ℕ) → has (bit_or m n) i ≡ has m i || has n i
unfolding has
has_or m n i = let p = bit_at-lt m i in let q = bit_at-lt n i in ap one (bit_at_or m n i) ∙ grind (arith, nat_tests)

pub has_and : (m n i : ℕ) → has (bit_and m n) i ≡ has m i && has n i
unfolding has
has_and m n i = let p = bit_at-lt m i in let q = bit_at-lt n i in ap one (bit_at_and m n i) ∙ grind (arith, nat_tests)

digit_same : (x y : ℕ) → x < 2 → y < 2 → one x ≡ one y → x ≡ y
digit_same x y p q e = grind (arith, e)

-- a number is its bits
pub one_mask : (k m n : ℕ) → m < 2 ^ k → n < 2 ^ k → ((i : ℕ) → i < k → has m i ≡ has n i) → m ≡ n
unfolding has
one_mask k m n p q same = same_from_bits_below k m n p q (λ i lt. digit_same (bit_at m i) (bit_at n i) (bit_at-lt m i) (bit_at-lt n i) (same i lt))

has_zero : (i : ℕ) → has 0 i ≡ false
unfolding has
has_zero i = ap one (bit_at-zero i)

-- a power of two has one bit
pub has_power : (k i : ℕ) → has (2 ^ k) i ≡ eqb i k
unfolding has
has_power k i = ⊎_elim
    (λ e. ap (λ x. one (bit_at (2 ^ k) x)) e ∙ ap one (bit_at-pow_same k) ∙ sym (eq-eqb i k e))
    (λ n. ap one (bit_at-pow_other k i n) ∙ sym (ne_eqb i k n))
    (cases_eq i k)

-- a bit times a row
digit_times : (x row i : ℕ) → x < 2 → has (x * row) i ≡ eqb x 1 && has row i
digit_times zero row i h = let e : 0 * row ≡ 0 = omega arith in ap (λ x. has x i) e ∙ has_zero i
digit_times (suc zero) row i h = let e : 1 * row ≡ row = omega arith in ap (λ x. has x i) e
digit_times (suc (suc x)) row i h = absurd (omega arith)

pub bit_times : (m row i : ℕ) → has (bit_and m 1 * row) i ≡ has m 0 && has row i
bit_times m row i =
    ap (λ x. has (x * row) i) (and_mask m 1) ∙ digit_times (m % 2) row i (omega arith) ∙ ap (λ t. t && has row i) (sym (has_first m))

pub bit_below : (m row : ℕ) → row < 2 ^ 8 → bit_and m 1 * row < 2 ^ 8
bit_below m row h = let le = mul-le (bit_and m 1) row 1 row (and_le_r m 1) (omega arith) in omega arith

-- bit 8 p for each p below n
firsts : ℕ → ℕ
firsts zero = 0
firsts (suc n) = firsts n * 2 ^ 8 + 1

-- these bits of m times a row: the rows above the first, and the first
times_parts : (n m row : ℕ) → bit_and m (firsts (suc n)) * row ≡ bit_and (m / 2 ^ 8) (firsts n) * row * 2 ^ 8 + bit_and (m % 2 ^ 8) 1 * row
unfolding firsts
times_parts n m row =
    let e = ap (λ x. bit_and x (firsts (suc n))) (sym (shr_split m 8)) ∙ and_block 8 (m / 2 ^ 8) (firsts n) (m % 2 ^ 8) 1 (omega arith) (omega arith) in
    ap (λ x. x * row) e ∙ omega arith

has_times : (n m row p q : ℕ) → row < 2 ^ 8 → p < n → q < 8 → has (bit_and m (firsts n) * row) (8 * p + q) ≡ has m (8 * p) && has row q
has_times zero m row p q h lt hq = absurd (omega arith)
has_times (suc n) m row zero q h lt hq =
    let e : 8 * 0 + q ≡ q = omega arith in
    ap₂ has (times_parts n m row) e
    ∙ block_low (bit_and (m / 2 ^ 8) (firsts n) * row) 8 (bit_and (m % 2 ^ 8) 1 * row) (bit_below (m % 2 ^ 8) row h) q hq
    ∙ bit_times (m % 2 ^ 8) row q ∙ ap (λ t. t && has row q) (has_mod m 8 0 (omega arith))
has_times (suc n) m row (suc p) q h lt hq =
    let e : 8 * suc p + q ≡ 8 + (8 * p + q) = omega arith in
    let e' : 8 + 8 * p ≡ 8 * suc p = omega arith in
    ap₂ has (times_parts n m row) e
    ∙ block_high (bit_and (m / 2 ^ 8) (firsts n) * row) 8 (bit_and (m % 2 ^ 8) 1 * row) (bit_below (m % 2 ^ 8) row h) (8 * p + q)
    ∙ has_times n (m / 2 ^ 8) row p q h (omega arith) hq
    ∙ ap (λ t. t && has row q) (has_shr m 8 (8 * p) ∙ ap (has m) e')

-- the mask 0x0101010101010101 keeps bit 8 p for each p below 8
pub has_column : (m row p q : ℕ) → row < 2 ^ 8 → p < 8 → q < 8 → has (bit_and m 72340172838076673 * row) (8 * p + q) ≡ has m (8 * p) && has row q
unfolding firsts
has_column = has_times 8

pub column_below : (m row : ℕ) → row < 2 ^ 8 → bit_and m 72340172838076673 * row < 2 ^ 64
column_below m row h = let le = mul-le (bit_and m 72340172838076673) row 72340172838076673 255 (and_le_r m 72340172838076673) (omega arith) in omega arith

pub byte_below : (m : ℕ) → bit_and m 255 < 2 ^ 8
byte_below m = omega (arith, and_le_r m 255)
