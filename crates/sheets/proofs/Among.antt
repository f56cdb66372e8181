-- The moves of a list.
use Rattle.std.proofs.Common.{◌≡◌, ℕ, zero, suc, ◌<◌, true, cond, ◌&&◌, ◌||◌, eqb, ltb, List, [], ◌∷◌, ◌++◌, length, get_or, sym, refl, ap, ◌∙◌, subst, ap₂, ⊎_elim, arith}
use mathlib.Core.Bool.{and_assoc, or_assoc}
use Rattle.std.specs.List.{ContainsAt as Has, AllByRecursion}
use Rattle.std.proofs.ByRecursion.{all-has}
use Rattle.std.proofs.lemmas.Slice.Eq.{bytes_eq-Decides}
use Rattle.std.proofs.lemmas.Bool.{and_from, and_parts, eq-eqb, eqb-true, ltb-true, or_cases, or_left, or_right}
use Rattle.std.specs.Str.{bytes_eq}
use Rattle.sheets.specs.Moves.{all_in_range, among, in_range, kind, parts, same_move}
use Rattle.sheets.specs.declared.moves.Move.{Move}
use Rattle.sheets.specs.declared.moves.Move.TheVariants.{Internal, Call, Return, Pending}

-- the move of a kind with these numbers
abbrev made : ℕ → List ℕ → Move
made k ns =
    let n : ℕ → ℕ = λ i. get_or ns i 0 in
    cond (eqb k 35) (Internal (n 0) (n 1) (n 2)) (cond (eqb k 36) (Call (n 0) (n 1) (n 2) (n 3)) (cond (eqb k 37) (Return (n 0) (n 1) (n 2) (n 3)) (Pending (n 0) (n 1) (n 2))))

made_parts : (m : Move) → made (kind m) (parts m) ≡ m
made_parts (Internal q a q') = refl
made_parts (Call q a q' m) = refl
made_parts (Return q b m q') = refl
made_parts (Pending q b q') = refl

pub same_move_only : (m n : Move) → same_move m n ≡ true → m ≡ n
same_move_only m n h =
    let (k, p) = and_parts (eqb (kind m) (kind n)) (bytes_eq (parts m) (parts n)) h in
    sym (made_parts m) ∙ ap₂ made (eqb-true (kind m) (kind n) k) ((bytes_eq-Decides (parts m) (parts n)).0 p) ∙ made_parts n

pub same_move_itself : (m : Move) → same_move m m ≡ true
same_move_itself m = and_from (eqb (kind m) (kind m)) (bytes_eq (parts m) (parts m)) (eq-eqb (kind m) (kind m) refl) ((bytes_eq-Decides (parts m) (parts m)).1 refl)

pub among_has : (ms : List Move) (m : Move) → among ms m ≡ true → Has ms m
unfolding among
among_has [] m h = absurd (let e : ◌≡◌ {A = ℕ} 0 1 = cc in omega arith)
among_has (n ∷ ns) m h = ⊎_elim
    (λ e. (0, omega arith, λ d. same_move_only n m e))
    (λ e. let (k, lt, at) = among_has ns m e in (suc k, omega arith, at))
    (or_cases (same_move n m) (among ns m) h)

among_getD : (ms : List Move) (k : ℕ) (m : Move) → k < length ms → among ms (get_or ms k m) ≡ true
unfolding among
among_getD [] k m lt = absurd (omega arith)
among_getD (n ∷ ns) zero m lt = or_left (same_move n n) (among ns n) (same_move_itself n)
among_getD (n ∷ ns) (suc k) m lt = or_right (same_move n (get_or ns k m)) (among ns (get_or ns k m)) (among_getD ns k m (omega arith))

pub has_among : (ms : List Move) (m : Move) → Has ms m → among ms m ≡ true
has_among ms m h = subst (λ n. among ms n ≡ true) (h.2 m) (among_getD ms h.0 m h.1)

each_in_range : (n : ℕ) (ms : List Move) → all_in_range n ms ≡ true → AllByRecursion (λ m. in_range n m ≡ true) ms
unfolding all_in_range
each_in_range n [] h = tt
each_in_range n (m ∷ ms) h = let (one, more) = and_parts (in_range n m) (all_in_range n ms) h in (one, each_in_range n ms more)

pub has_in_range : (n : ℕ) (ms : List Move) (m : Move) → all_in_range n ms ≡ true → Has ms m → in_range n m ≡ true
has_in_range n ms m h at = all-has (λ m. in_range n m ≡ true) ms m (each_in_range n ms h) at

pub among_append : (ms ns : List Move) (m : Move) → among (ms ++ ns) m ≡ among ms m || among ns m
unfolding among
among_append [] ns m = refl
among_append (x ∷ ms) ns m = ap (λ t. same_move x m || t) (among_append ms ns m) ∙ sym (or_assoc (same_move x m) (among ms m) (among ns m))

pub in_range_append : (n : ℕ) (ms ns : List Move) → all_in_range n (ms ++ ns) ≡ all_in_range n ms && all_in_range n ns
unfolding all_in_range
in_range_append n [] ns = refl
in_range_append n (m ∷ ms) ns = ap (λ t. in_range n m && t) (in_range_append n ms ns) ∙ sym (and_assoc (in_range n m) (all_in_range n ms) (all_in_range n ns))

pub mark_below : (n q a q' m : ℕ) → in_range n (Call q a q' m) ≡ true → m < 16
mark_below n q a q' m h = ltb-true m 16 (and_parts (ltb q' n) _ (and_parts (ltb a 16) _ (and_parts (ltb q n) _ h).1).1).1

pub return_below : (from name mark to : ℕ) → in_range 8 (Return from name mark to) ≡ true → (from < 8) × (mark < 16)
return_below from name mark to h =
    let (starts, more) = and_parts (ltb from 8) _ h in (ltb-true from 8 starts, ltb-true mark 16 (and_parts (ltb mark 16) _ (and_parts (ltb name 16) _ more).1).0)
