-- Steps by relations of states.
use Rattle.std.proofs.Common.{◌≡◌, ℕ, ◌*◌, ◌/◌, ◌%◌, ◌^◌, ◌<◌, Bool, false, ◌&&◌, ◌||◌, eqb, sym, refl, ap, ◌∙◌, arith}
use lib.Bits.{bit_and}
use Rattle.std.proofs.Math.Bool.{and-false, and-or_distrib_left}
use Rattle.std.proofs.lemmas.Bool.{and_from, and_parts}
use Rattle.sheets.specs.Masks.{has, mask_of, pair_in, some_state, state_in}
use Rattle.sheets.specs.Steps.{Relation, at_sets, joined, nowhere, onward}
use Rattle.sheets.specs.declared.state.SheetState.{SheetState}
use Rattle.sheets.proofs.Bits.{byte_below}
use Rattle.sheets.proofs.Masks.{bit_moved, bit_row, column_moved, column_rows, masks_are_sets, pairs_or, pairs_same, row_of, states_or, states_same}
use Rattle.sheets.proofs.Some.{same_test, some_at, some_from, some_none, some_or, some_point, some_same}

-- equal parts make one state
pub same_sets : (s u : SheetState) → s.pairs ≡ u.pairs → s.states ≡ u.states → s ≡ u
same_sets s u p r = λ i. record { pairs = p i; states = r i }

-- sets with the same members are one
pub sets_same : (s s' : Relation) (r r' : ℕ → Bool) → ((p q : ℕ) → p < 8 → q < 8 → s p q ≡ s' p q) → ((q : ℕ) → q < 8 → r q ≡ r' q) → at_sets s r ≡ at_sets s' r'
sets_same s s' r r' pairs states = same_sets (at_sets s r) (at_sets s' r') (pairs_same s s' pairs) (states_same r r' states)

-- The members of a set, the states from which a step is taken.
module _ (has_it : ℕ → Bool) where
  abbrev pub reached : Relation → ℕ → Bool
  reached t q' = some_state (λ q. has_it q && t q q')

  pub reached_same : (t u : Relation) (q' : ℕ) → ((q : ℕ) → q < 8 → t q q' ≡ u q q') → reached t q' ≡ reached u q'
  reached_same t u q' h = some_same 8 (λ q. has_it q && t q q') (λ q. has_it q && u q q') (λ q lt. ap (λ x. has_it q && x) (h q lt))

  pub reached_or : (t u : Relation) (q' : ℕ) → reached (λ q r. t q r || u q r) q' ≡ reached t q' || reached u q'
  reached_or t u q' =
      some_same 8 (λ q. has_it q && (t q q' || u q q')) (λ q. (has_it q && t q q') || (has_it q && u q q')) (λ q lt. and-or_distrib_left (has_it q) (t q q') (u q q'))
      ∙ some_or 8 (λ q. has_it q && t q q') (λ q. has_it q && u q q')

  pub reached_none : (q' : ℕ) → reached (λ q r. false) q' ≡ false
  reached_none q' = some_same 8 (λ q. has_it q && false) (λ q. false) (λ q lt. and-false (has_it q)) ∙ some_none 8

  -- from one state
  pub reached_from : (from : ℕ) (f : ℕ → Bool) (q' : ℕ) → from < 8 → reached (λ q r. eqb q from && f r) q' ≡ has_it from && f q'
  reached_from from f q' lt =
      some_same 8 (λ q. has_it q && (eqb q from && f q')) (λ q. eqb q from && (has_it q && f q')) (λ q _. grind arith)
      ∙ some_point 8 from (λ q. has_it q && f q') lt

-- two steps, one behind the other, are one
pub reached_twice : (has_it has_next : ℕ → Bool) (t u : Relation) (q' : ℕ) → ((q : ℕ) → q < 8 → has_next q ≡ reached has_it t q) → reached has_next u q' ≡ reached has_it (λ q r. some_state (λ x. t q x && u x r)) q'
reached_twice has_it has_next t u q' next = same_test (reached has_next u q') (reached has_it (λ q r. some_state (λ x. t q x && u x r)) q')
    (λ e.
    let (x, ltx, isx) = some_from 8 (λ x. has_next x && u x q') e in
    let two = and_parts (has_next x) (u x q') isx in
    let (q, ltq, isq) = some_from 8 (λ q. has_it q && t q x) (sym (next x ltx) ∙ two.0) in
    let one = and_parts (has_it q) (t q x) isq in
    some_at 8 (λ q. has_it q && some_state (λ x. t q x && u x q')) q ltq (and_from (has_it q) _ one.0 (some_at 8 (λ x. t q x && u x q') x ltx (and_from (t q x) (u x q') one.1 two.1))))
    (λ e.
    let (q, ltq, isq) = some_from 8 (λ q. has_it q && some_state (λ x. t q x && u x q')) e in
    let one = and_parts (has_it q) (some_state (λ x. t q x && u x q')) isq in
    let (x, ltx, isx) = some_from 8 (λ x. t q x && u x q') one.1 in
    let two = and_parts (t q x) (u x q') isx in
    some_at 8 (λ x. has_next x && u x q') x ltx (and_from (has_next x) (u x q') (next x ltx ∙ some_at 8 (λ q. has_it q && t q x) q ltq (and_from (has_it q) (t q x) one.0 two.0)) two.1))

no_mask : mask_of 64 (λ i. false) ≡ 0
unfolding mask_of
no_mask = refl

no_byte : mask_of 8 (λ i. false) ≡ 0
unfolding mask_of
no_byte = refl

module _ (s : SheetState) where
  abbrev pairs_of : ℕ → ℕ → Bool
  pairs_of p q = pair_in s.pairs p q

  abbrev states_of : ℕ → Bool
  states_of q = state_in s.states q

  pub onward_same : (t u : Relation) → ((q q' : ℕ) → q < 8 → q' < 8 → t q q' ≡ u q q') → onward s t ≡ onward s u
  onward_same t u h = sets_same
      (λ p q'. reached (pairs_of p) t q') (λ p q'. reached (pairs_of p) u q') (reached states_of t) (reached states_of u)
      (λ p q' _ lt'. reached_same (pairs_of p) t u q' (λ q lt. h q q' lt lt'))
      (λ q' lt'. reached_same states_of t u q' (λ q lt. h q q' lt lt'))

  pub onward_none : onward s (λ q q'. false) ≡ nowhere
  onward_none =
      sets_same (λ p q'. reached (pairs_of p) (λ q q'. false) q') (λ p q'. false) (reached states_of (λ q q'. false)) (λ q'. false)
      (λ p q' _ _. reached_none (pairs_of p) q') (λ q' _. reached_none states_of q')
      ∙ same_sets (at_sets (λ p q. false) (λ q. false)) nowhere no_mask no_byte

  pub onward_or : (t u : Relation) → joined (onward s t) (onward s u) ≡ onward s (λ q q'. t q q' || u q q')
  onward_or t u =
      same_sets (joined (onward s t) (onward s u)) (at_sets (λ p q'. reached (pairs_of p) t q' || reached (pairs_of p) u q') (λ q'. reached states_of t q' || reached states_of u q'))
      (pairs_or (λ p q'. reached (pairs_of p) t q') (λ p q'. reached (pairs_of p) u q'))
      (states_or (reached states_of t) (reached states_of u))
      ∙ sets_same
      (λ p q'. reached (pairs_of p) t q' || reached (pairs_of p) u q') (λ p q'. reached (pairs_of p) (λ q r. t q r || u q r) q')
      (λ q'. reached states_of t q' || reached states_of u q') (reached states_of (λ q r. t q r || u q r))
      (λ p q' _ _. sym (reached_or (pairs_of p) t u q'))
      (λ q' _. sym (reached_or states_of t u q'))

  -- from one state to those that pass f
  pub onward_from : (from : ℕ) (f : ℕ → Bool) → from < 8 → at_sets (λ p q. pairs_of p from && f q) (λ q. states_of from && f q) ≡ onward s (λ q q'. eqb q from && f q')
  onward_from from f lt = sets_same
      (λ p q. pairs_of p from && f q) (λ p q'. reached (pairs_of p) (λ q r. eqb q from && f r) q')
      (λ q. states_of from && f q) (reached states_of (λ q r. eqb q from && f r))
      (λ p q' _ _. sym (reached_from (pairs_of p) from f q' lt))
      (λ q' _. sym (reached_from states_of from f q' lt))

  -- two steps, one behind the other, are one
  pub onward_twice : (t u : Relation) → onward (onward s t) u ≡ onward s (λ q q'. some_state (λ x. t q x && u x q'))
  onward_twice t u = sets_same
      (λ p q'. reached (λ q. pair_in (onward s t).pairs p q) u q') (λ p q'. reached (pairs_of p) (λ q r. some_state (λ x. t q x && u x r)) q')
      (reached (λ q. state_in (onward s t).states q) u) (reached states_of (λ q r. some_state (λ x. t q x && u x r)))
      (λ p q' ltp _. reached_twice (pairs_of p) (λ q. pair_in (onward s t).pairs p q) t u q' (λ q lt. masks_are_sets.pairs (λ p q'. reached (pairs_of p) t q') p q ltp lt))
      (λ q' _. reached_twice states_of (λ q. state_in (onward s t).states q) t u q' (λ q lt. masks_are_sets.states (reached states_of t) q lt))

  -- by shifts and masks
  module _ (from : ℕ) (lt : from < 8) where
    pub moved_sets : (to : ℕ) → to < 8 → ◌≡◌ {A = SheetState} (record { pairs = (bit_and (s.pairs / 2 ^ from) 72340172838076673 * 2 ^ to) % 2 ^ 64; states = (bit_and (s.states / 2 ^ from) 1 * 2 ^ to) % 2 ^ 8 }) (onward s (λ q q'. eqb q from && eqb q' to))
    moved_sets to lt' =
        same_sets _ (at_sets (λ p q. pairs_of p from && eqb q to) (λ q. states_of from && eqb q to)) (column_moved s.pairs from to lt') (bit_moved s.states from to lt')
        ∙ onward_from from (λ q. eqb q to) lt

    pub spread_sets : (inner to : ℕ) → ◌≡◌ {A = SheetState} (record { pairs = bit_and (s.pairs / 2 ^ from) 72340172838076673 * bit_and (inner / 2 ^ (8 * to)) 255; states = bit_and (s.states / 2 ^ from) 1 * bit_and (inner / 2 ^ (8 * to)) 255 }) (onward s (λ q q'. eqb q from && pair_in inner to q'))
    spread_sets inner to =
        let row = bit_and (inner / 2 ^ (8 * to)) 255 in
        let byte = byte_below (inner / 2 ^ (8 * to)) in
        same_sets _ (at_sets (λ p q. pairs_of p from && has row q) (λ q. states_of from && has row q)) (column_rows s.pairs from row byte) (bit_row s.states from row byte)
        ∙ onward_from from (has row) lt
        ∙ onward_same (λ q q'. eqb q from && has row q') (λ q q'. eqb q from && pair_in inner to q') (λ q q' _ lt'. ap (λ t. eqb q from && t) (ap (λ x. has x q') (row_of inner to) ∙ masks_are_sets.states (λ r. pair_in inner to r) q' lt'))
