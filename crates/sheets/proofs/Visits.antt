-- What one move adds to a step by a call, the letters behind it, and its return.
use Rattle.std.proofs.Common.{◌≡◌, ℕ, ◌<◌, true, false, ◌&&◌, ◌||◌, eqb, List, [], ◌∷◌, length, get_or, set, sym, refl, ap, ◌∙◌, ap₂, ⊎_elim, arith}
use lib.Bits.{or_zero_r}
use Rattle.std.proofs.lemmas.List.{get_or_default, get_or-set_other, get_or-set_same}
use Rattle.std.proofs.Math.Bool.{and-false}
use Rattle.std.proofs.lemmas.Bool.Decides.{nat_tests}
use Rattle.std.proofs.lemmas.Bool.{cases_eq, eq-eqb, ne_eqb}
use Rattle.sheets.specs.Masks.{pair_in, some_mark, some_state}
use Rattle.sheets.specs.Moves.{among, in_range}
use Rattle.sheets.specs.Steps.{Relation, StepsOn, by_inner, by_return, joined, nowhere, onward}
use Rattle.sheets.specs.declared.moves.Move.{Move}
use Rattle.sheets.specs.declared.moves.Move.TheVariants.{Internal, Call, Return, Pending}
use Rattle.sheets.specs.declared.state.SheetState.{SheetState}
use Rattle.sheets.proofs.Among.{return_below}
use Rattle.sheets.proofs.Onward.{onward_none, onward_same, onward_twice, same_sets}
use Rattle.sheets.proofs.Some.{some_none, some_point, some_same}

pub joined_nowhere : (s : SheetState) → joined s nowhere ≡ s
joined_nowhere s = same_sets (joined s nowhere) s (or_zero_r s.pairs) (or_zero_r s.states)

-- By a call move.
by_one_inner : (from name to mark s a m q1 q3 : ℕ) → to < 8 → by_inner (Call from name to mark ∷ []) s a m q1 q3 ≡ eqb mark m && (eqb name a && (eqb q1 from && pair_in s to q3))
unfolding among
by_one_inner from name to mark s a m q1 q3 lt =
    some_same 8
    (λ q2. ((eqb from q1 && (eqb name a && (eqb to q2 && (eqb mark m && true)))) || false) && pair_in s q2 q3)
    (λ q2. eqb q2 to && (eqb mark m && (eqb name a && (eqb q1 from && pair_in s q2 q3))))
    (λ q2 _. grind (arith, nat_tests))
    ∙ some_point 8 to (λ q2. eqb mark m && (eqb name a && (eqb q1 from && pair_in s q2 q3))) lt

-- a move that is no call
pub by_no_inner : (x : Move) (s a m q1 q3 : ℕ) → ((from name to mark : ℕ) → x ≡ Call from name to mark → ⊥) → by_inner (x ∷ []) s a m q1 q3 ≡ false
unfolding among
by_no_inner (Internal q b q') s a m q1 q3 other = some_none 8
by_no_inner (Call q b q' k) s a m q1 q3 other = absurd (other q b q' k refl)
by_no_inner (Return q b k q') s a m q1 q3 other = some_none 8
by_no_inner (Pending q b q') s a m q1 q3 other = some_none 8

-- The row before and after a move: each place joined with what the move adds for its mark.
module _ (before : SheetState) (s a : ℕ) (x : Move) (row : List SheetState) where
  abbrev Entered : List SheetState → Type 0
  Entered row' = (m : ℕ) → m < 16 → get_or row' m nowhere ≡ joined (get_or row m nowhere) (onward before (by_inner (x ∷ []) s a m))

  unchanged : (m : ℕ) → ((q1 q3 : ℕ) → by_inner (x ∷ []) s a m q1 q3 ≡ false) → get_or row m nowhere ≡ joined (get_or row m nowhere) (onward before (by_inner (x ∷ []) s a m))
  unchanged m none = sym (ap (joined (get_or row m nowhere)) (onward_same before (by_inner (x ∷ []) s a m) (λ q q'. false) (λ q q' _ _. none q q') ∙ onward_none before) ∙ joined_nowhere (get_or row m nowhere))

  pub enter_else : ((from name to mark : ℕ) → x ≡ Call from name to mark → ⊥) → Entered row
  enter_else other m lt = unchanged m (λ q1 q3. by_no_inner x s a m q1 q3 other)

  module _ (from name to mark : ℕ) (is : x ≡ Call from name to mark) (lt_to : to < 8) where
    by_this : (m q1 q3 : ℕ) → by_inner (x ∷ []) s a m q1 q3 ≡ eqb mark m && (eqb name a && (eqb q1 from && pair_in s to q3))
    by_this m q1 q3 = ap (λ y. by_inner (y ∷ []) s a m q1 q3) is ∙ by_one_inner from name to mark s a m q1 q3 lt_to

    pub enter_miss : (name ≡ a → ⊥) → Entered row
    enter_miss other m lt = unchanged m (λ q1 q3. by_this m q1 q3 ∙ (let e = ne_eqb name a other in grind arith))

    -- the place of the mark
    pub enter_hit : (place : ℕ) (d add v : SheetState) → name ≡ a → place ≡ mark → place < length row → add ≡ onward before (λ q q'. eqb q from && pair_in s to q') → v ≡ joined (get_or row place d) add → Entered (set row place v)
    enter_hit place d add v same at lt adds joins m ltm = ⊎_elim
        (λ e.
        let by_mark : (q q' : ℕ) → q < 8 → q' < 8 → eqb q from && pair_in s to q' ≡ by_inner (x ∷ []) s a m q q' = λ q q' _ _.
        sym (by_this m q q' ∙ ap₂ (λ t u. t && (u && (eqb q from && pair_in s to q'))) (eq-eqb mark m (sym at ∙ sym e)) (eq-eqb name a same)) in
        ap (λ y. get_or (set row place v) y nowhere) e ∙ get_or-set_same row place v nowhere lt ∙ joins
        ∙ ap₂ joined (get_or_default row place d nowhere lt ∙ ap (λ y. get_or row y nowhere) (sym e)) (adds ∙ onward_same before (λ q q'. eqb q from && pair_in s to q') (by_inner (x ∷ []) s a m) by_mark))
        (λ n. get_or-set_other row place m v nowhere n ∙ unchanged m (λ q1 q3. by_this m q1 q3 ∙ ap (λ t. t && (eqb name a && (eqb q1 from && pair_in s to q3))) (ne_eqb mark m (λ e. n (sym e ∙ sym at)))))
        (cases_eq m place)

-- By a return move.
-- the move is a return that reads the name
abbrev pub Returns : Move → ℕ → Type 0
Returns (Return from name mark to) b = name ≡ b
Returns x b = ⊥

pub not_return : (x : Move) (b : ℕ) → ((from name mark to : ℕ) → x ≡ Return from name mark to → ⊥) → Returns x b → ⊥
not_return (Internal from name to) b other returns = returns
not_return (Call from name to mark) b other returns = returns
not_return (Return from name mark to) b other returns = other from name mark to refl
not_return (Pending from name to) b other returns = returns

none_returns : (t : ℕ → Relation) (q1 : ℕ) → some_mark (λ m. some_state (λ q3. t m q1 q3 && false)) ≡ false
none_returns t q1 = some_same 16 (λ m. some_state (λ q3. t m q1 q3 && false)) (λ m. false) (λ m _. some_same 8 (λ q3. t m q1 q3 && false) (λ q3. false) (λ q3 _. and-false (t m q1 q3)) ∙ some_none 8) ∙ some_none 16

module _ (t : ℕ → Relation) (b q1 q' : ℕ) where
  by_one_return : (from name mark to : ℕ) → from < 8 → mark < 16 → by_return (Return from name mark to ∷ []) t b q1 q' ≡ eqb name b && (t mark q1 from && eqb q' to)
  unfolding among
  by_one_return from name mark to lt ltm =
      some_same 16
      (λ m. some_state (λ q3. t m q1 q3 && ((eqb from q3 && (eqb name b && (eqb mark m && (eqb to q' && true)))) || false)))
      (λ m. eqb m mark && (eqb name b && (t m q1 from && eqb q' to)))
      (λ m _.
      some_same 8
      (λ q3. t m q1 q3 && ((eqb from q3 && (eqb name b && (eqb mark m && (eqb to q' && true)))) || false))
      (λ q3. eqb q3 from && (eqb m mark && (eqb name b && (t m q1 q3 && eqb q' to))))
      (λ q3 _. grind (arith, nat_tests))
      ∙ some_point 8 from (λ q3. eqb m mark && (eqb name b && (t m q1 q3 && eqb q' to))) lt)
      ∙ some_point 16 mark (λ m. eqb name b && (t m q1 from && eqb q' to)) ltm

  no_return : (x : Move) → in_range 8 x ≡ true → (Returns x b → ⊥) → by_return (x ∷ []) t b q1 q' ≡ false
  unfolding among
  no_return (Internal from name to) range none = none_returns t q1
  no_return (Call from name to mark) range none = none_returns t q1
  no_return (Return from name mark to) range none =
      let (lt, ltm) = return_below from name mark to range in by_one_return from name mark to lt ltm ∙ ap (λ y. y && (t mark q1 from && eqb q' to)) (ne_eqb name b none)
  no_return (Pending from name to) range none = none_returns t q1

-- As the code finds them: the move x, the row of what the marks lead to, and the answer r.
module _ (row : List SheetState) (b : ℕ) (x : Move) (r : SheetState) where
  abbrev Left : Type 0
  Left = StepsOn row r (λ t. by_return (x ∷ []) t b)

  pub leave_none : in_range 8 x ≡ true → (Returns x b → ⊥) → r ≡ nowhere → Left
  leave_none range none is s t holds = is ∙ sym (onward_same s (by_return (x ∷ []) t b) (λ q q'. false) (λ q q' _ _. no_return t b q q' x range none) ∙ onward_none s)

  pub leave_return : (from name mark to place : ℕ) (d : SheetState) → x ≡ Return from name mark to → from < 8 → mark < 16 → place ≡ mark → place < length row → name ≡ b → r ≡ onward (get_or row place d) (λ q q'. eqb q from && eqb q' to) → Left
  leave_return from name mark to place d move lt ltm at within same is s t holds =
      is
      ∙ ap₂ (λ u y. onward u (λ q q'. y && (eqb q from && eqb q' to))) (get_or_default row place d nowhere within ∙ ap (λ y. get_or row y nowhere) at ∙ holds mark ltm) (sym (eq-eqb name b same))
      ∙ onward_twice s (t mark) (λ q q'. eqb name b && (eqb q from && eqb q' to))
      ∙ onward_same s (λ q q'. some_state (λ y. t mark q y && (eqb name b && (eqb y from && eqb q' to)))) (by_return (x ∷ []) t b) (λ q q' _ _.
      some_same 8 (λ y. t mark q y && (eqb name b && (eqb y from && eqb q' to))) (λ y. eqb y from && (eqb name b && (t mark q y && eqb q' to))) (λ y _. grind arith)
      ∙ some_point 8 from (λ y. eqb name b && (t mark q y && eqb q' to)) lt
      ∙ sym (ap (λ y. by_return (y ∷ []) t b q q') move ∙ by_one_return t b q q' from name mark to lt ltm))
