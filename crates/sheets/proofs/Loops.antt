-- Steps by the moves of a list, one after the other.
use Rattle.std.proofs.Common.{◌≡◌, ℕ, ◌+◌, ◌%◌, ◌<◌, ◌≤◌, Bool, true, false, ◌&&◌, ◌||◌, List, [], ◌∷◌, ◌++◌, length, get_or, take, vec_items, sym, refl, ap, ◌∙◌, subst, ap₂, arith}
use Rattle.std.proofs.ByRecursion.{has_get_or}
use Rattle.std.proofs.lemmas.List.{take_all, take_more}
use Rattle.std.proofs.Math.Bool.{and-false, and-or_distrib_left, and-or_distrib_right}
use Rattle.std.proofs.lemmas.Bool.Decides.{nat_tests}
use Rattle.nested.specs.declared.letter.Letter.{Letter}
use Rattle.nested.specs.declared.letter.Letter.TheVariants as letter
use Rattle.sheets.specs.Loops.{Additive}
use Rattle.sheets.specs.Masks.{pair_in, some_below}
use Rattle.sheets.specs.Moves.{all_in_range, among, in_range}
use Rattle.sheets.specs.Steps.{Relation, by_inner, by_letter, by_return, joined, nowhere, onward}
use Rattle.sheets.specs.declared.moves.Move.{Move}
use Rattle.sheets.specs.declared.moves.Move.TheVariants.{Internal, Call, Return, Pending}
use Rattle.sheets.specs.declared.sheet.Sheet.{Sheet}
use Rattle.sheets.specs.declared.state.SheetState.{SheetState}
use Rattle.sheets.proofs.Among.{among_append, has_in_range}
use Rattle.sheets.proofs.Onward.{onward_none, onward_or, onward_same}
use Rattle.sheets.proofs.Some.{some_none, some_or, some_same}

additive_among : (x : Move) → Additive (λ ms. among ms x)
unfolding among
additive_among x = record { none = refl; more = λ ms m. among_append ms (m ∷ []) x }

additive_some : (k : ℕ) (f : ℕ → List Move → Bool) → ((i : ℕ) → Additive (f i)) → Additive (λ ms. some_below k (λ i. f i ms))
additive_some k f h = record {
  none = some_same k (λ i. f i []) (λ i. false) (λ i _. (h i).none) ∙ some_none k;
  more = λ ms m. some_same k (λ i. f i (ms ++ m ∷ [])) (λ i. f i ms || f i (m ∷ [])) (λ i _. (h i).more ms m) ∙ some_or k (λ i. f i ms) (λ i. f i (m ∷ []));
}

additive_behind : (a : Bool) (f : List Move → Bool) → Additive f → Additive (λ ms. a && f ms)
additive_behind a f h = record {
  none = ap (λ t. a && t) h.none ∙ and-false a;
  more = λ ms m. ap (λ t. a && t) (h.more ms m) ∙ and-or_distrib_left a (f ms) (f (m ∷ []));
}

additive_before : (a : Bool) (f : List Move → Bool) → Additive f → Additive (λ ms. f ms && a)
additive_before a f h = record {
  none = ap (λ t. t && a) h.none;
  more = λ ms m. ap (λ t. t && a) (h.more ms m) ∙ and-or_distrib_right (f ms) (f (m ∷ [])) a;
}

-- the relations by which a sheet steps
pub additive_letter : (l : Letter) (q q' : ℕ) → Additive (λ ms. by_letter ms l q q')
additive_letter (letter.Internal a) q q' = additive_among (Internal q (a % 16) q')
additive_letter (letter.Call a) q q' = additive_some 16 (λ m ms. among ms (Call q (a % 16) q' m)) (λ m. additive_among (Call q (a % 16) q' m))
additive_letter (letter.Return b) q q' = additive_among (Pending q (b % 16) q')

pub additive_inner : (s a m q1 q3 : ℕ) → Additive (λ ms. by_inner ms s a m q1 q3)
additive_inner s a m q1 q3 = additive_some 8 (λ q2 ms. among ms (Call q1 a q2 m) && pair_in s q2 q3) (λ q2. additive_before (pair_in s q2 q3) (λ ms. among ms (Call q1 a q2 m)) (additive_among (Call q1 a q2 m)))

pub additive_return : (t : ℕ → Relation) (b q1 q' : ℕ) → Additive (λ ms. by_return ms t b q1 q')
additive_return t b q1 q' = additive_some 16 (λ m ms. some_below 8 (λ q3. t m q1 q3 && among ms (Return q3 b m q'))) (λ m.
    additive_some 8 (λ q3 ms. t m q1 q3 && among ms (Return q3 b m q')) (λ q3. additive_behind (t m q1 q3) (λ ms. among ms (Return q3 b m q')) (additive_among (Return q3 b m q'))))

-- each move of a sheet is in range, with 8 states at most
range_wider : (n : ℕ) (m : Move) → n ≤ 8 → in_range n m ≡ true → in_range 8 m ≡ true
range_wider n (Internal q a q') le h = grind (arith, nat_tests)
range_wider n (Call q a q' m) le h = grind (arith, nat_tests)
range_wider n (Return q b m q') le h = grind (arith, nat_tests)
range_wider n (Pending q b q') le h = grind (arith, nat_tests)

pub move_in_range : (s : Sheet) (items : List Move) (i : ℕ) (d : Move) → items ≡ vec_items s.moves → i < length items → in_range 8 (get_or items i d) ≡ true
move_in_range s items i d is lt =
    let m = get_or items i d in range_wider s.states m s.few_states (has_in_range s.states items m (ap (all_in_range s.states) is ∙ s.moves_in) (has_get_or items i d lt))

-- the first moves of a list, one move more, and all of them
module _ (t : List Move → Relation) (adds : (q q' : ℕ) → Additive (λ ms. t ms q q')) (s : SheetState) where
  pub gone_none : onward s (t []) ≡ nowhere
  gone_none = onward_same s (t []) (λ q q'. false) (λ q q' _ _. (adds q q').none) ∙ onward_none s

  gone_one : (ms : List Move) (m : Move) → joined (onward s (t ms)) (onward s (t (m ∷ []))) ≡ onward s (t (ms ++ m ∷ []))
  gone_one ms m = onward_or s (t ms) (t (m ∷ [])) ∙ onward_same s (λ q q'. t ms q q' || t (m ∷ []) q q') (t (ms ++ m ∷ [])) (λ q q' _ _. sym ((adds q q').more ms m))

  module _ (ms items : List Move) (is : items ≡ ms) (i : ℕ) where
    pub gone_more : (d : Move) (r x r' : SheetState) → i < length items → r ≡ onward s (t (take i ms)) → x ≡ onward s (t (get_or items i d ∷ [])) → r' ≡ joined r x → r' ≡ onward s (t (take (i + 1) ms))
    gone_more d r x r' lt before one joins =
        joins ∙ ap₂ joined before (one ∙ ap (λ l. onward s (t (get_or l i d ∷ []))) is)
        ∙ gone_one (take i ms) (get_or ms i d)
        ∙ ap (λ l. onward s (t l)) (sym (take_more ms i d (subst (λ l. i < length l) is lt)))

    pub gone_all : (r : SheetState) → length items ≤ i → r ≡ onward s (t (take i ms)) → r ≡ onward s (t ms)
    gone_all r past so_far = so_far ∙ ap (λ l. onward s (t l)) (take_all i ms (subst (λ l. length l ≤ i) is past))
