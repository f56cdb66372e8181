-- What one move adds to a step.
use Rattle.std.proofs.Common.{◌≡◌, ℕ, ◌%◌, ◌<◌, true, false, ◌&&◌, ◌||◌, eqb, [], ◌∷◌, sym, refl, ap, ◌∙◌, ap₂, arith}
use Rattle.std.proofs.lemmas.Bool.{eq-eqb, ne_eqb}
use Rattle.std.proofs.lemmas.Bool.Decides.{nat_tests}
use Rattle.nested.specs.declared.letter.Letter.{Letter}
use Rattle.nested.specs.declared.letter.Letter.TheVariants as letter
use Rattle.sheets.specs.Moves.{among, in_range}
use Rattle.sheets.specs.Steps.{Relation, by_call, by_letter, nowhere, onward}
use Rattle.sheets.specs.declared.moves.Move.{Move}
use Rattle.sheets.specs.declared.moves.Move.TheVariants.{Internal, Call, Return, Pending}
use Rattle.sheets.specs.declared.state.SheetState.{SheetState}
use Rattle.sheets.proofs.Among.{mark_below}
use Rattle.sheets.proofs.Onward.{onward_none, onward_same}
use Rattle.sheets.proofs.Some.{some_none, some_point, some_same}

-- from one state to another
abbrev edge : ℕ → ℕ → Relation
edge from to q q' = eqb q from && eqb q' to

-- the states of a move
abbrev pub from_of : Move → ℕ
from_of (Internal from name to) = from
from_of (Call from name to mark) = from
from_of (Return from name mark to) = from
from_of (Pending from name to) = from

abbrev pub to_of : Move → ℕ
to_of (Internal from name to) = to
to_of (Call from name to mark) = to
to_of (Return from name mark to) = to
to_of (Pending from name to) = to

-- the move reads the letter, where a return has no open call
abbrev pub Reads : Move → Letter → Type 0
Reads (Internal from name to) (letter.Internal a) = name ≡ a % 16
Reads (Call from name to mark) (letter.Call a) = name ≡ a % 16
Reads (Pending from name to) (letter.Return b) = name ≡ b % 16
Reads x l = ⊥

pub not_internal : (x : Move) (a : ℕ) → ((from name to : ℕ) → x ≡ Internal from name to → ⊥) → Reads x (letter.Internal a) → ⊥
not_internal (Internal from name to) a other reads = other from name to refl
not_internal (Call from name to mark) a other reads = reads
not_internal (Return from name mark to) a other reads = reads
not_internal (Pending from name to) a other reads = reads

pub not_call : (x : Move) (a : ℕ) → ((from name to mark : ℕ) → x ≡ Call from name to mark → ⊥) → Reads x (letter.Call a) → ⊥
not_call (Internal from name to) a other reads = reads
not_call (Call from name to mark) a other reads = other from name to mark refl
not_call (Return from name mark to) a other reads = reads
not_call (Pending from name to) a other reads = reads

pub not_pending : (x : Move) (b : ℕ) → ((from name to : ℕ) → x ≡ Pending from name to → ⊥) → Reads x (letter.Return b) → ⊥
not_pending (Internal from name to) b other reads = reads
not_pending (Call from name to mark) b other reads = reads
not_pending (Return from name mark to) b other reads = reads
not_pending (Pending from name to) b other reads = other from name to refl

-- the tests of a move's parts, in the order of the code
in_order : (from name to a q q' : ℕ) → (eqb from q && (eqb name a && (eqb to q' && true))) || false ≡ eqb name a && edge from to q q'
in_order from name to a q q' = grind (arith, nat_tests)

one_call : (from name to mark a q q' : ℕ) → mark < 16 → by_call (Call from name to mark ∷ []) a q q' ≡ eqb name a && edge from to q q'
unfolding among
one_call from name to mark a q q' lt =
    some_same 16
    (λ m. (eqb from q && (eqb name a && (eqb to q' && (eqb mark m && true)))) || false)
    (λ m. eqb m mark && (eqb name a && edge from to q q'))
    (λ m _. grind (arith, nat_tests))
    ∙ some_point 16 mark (λ _. eqb name a && edge from to q q') lt

-- what a move adds: its edge where it reads the letter, and nothing else
one_edge : (x : Move) (l : Letter) → in_range 8 x ≡ true → Reads x l → (q q' : ℕ) → by_letter (x ∷ []) l q q' ≡ edge (from_of x) (to_of x) q q'
unfolding among
one_edge (Internal from name to) (letter.Internal a) range e q q' = in_order from name to (a % 16) q q' ∙ ap (λ t. t && edge from to q q') (eq-eqb name (a % 16) e)
one_edge (Call from name to mark) (letter.Call a) range e q q' = one_call from name to mark (a % 16) q q' (mark_below 8 from name to mark range) ∙ ap (λ t. t && edge from to q q') (eq-eqb name (a % 16) e)
one_edge (Pending from name to) (letter.Return b) range e q q' = in_order from name to (b % 16) q q' ∙ ap (λ t. t && edge from to q q') (eq-eqb name (b % 16) e)
one_edge x l range e q q' = absurd e

no_edge : (x : Move) (l : Letter) → in_range 8 x ≡ true → (Reads x l → ⊥) → (q q' : ℕ) → by_letter (x ∷ []) l q q' ≡ false
unfolding among
no_edge (Internal from name to) (letter.Internal a) range none q q' = in_order from name to (a % 16) q q' ∙ ap (λ t. t && edge from to q q') (ne_eqb name (a % 16) none)
no_edge (Call from name to mark) (letter.Call a) range none q q' = one_call from name to mark (a % 16) q q' (mark_below 8 from name to mark range) ∙ ap (λ t. t && edge from to q q') (ne_eqb name (a % 16) none)
no_edge (Pending from name to) (letter.Return b) range none q q' = in_order from name to (b % 16) q q' ∙ ap (λ t. t && edge from to q q') (ne_eqb name (b % 16) none)
no_edge (Internal from name to) (letter.Call a) range none q q' = some_none 16
no_edge (Return from name mark to) (letter.Call a) range none q q' = some_none 16
no_edge (Pending from name to) (letter.Call a) range none q q' = some_none 16
no_edge x l range none q q' = refl

module _ (s r : SheetState) (x : Move) (l : Letter) (range : in_range 8 x ≡ true) where
  pub led : (from to : ℕ) → r ≡ onward s (edge from to) → Reads x l → from_of x ≡ from → to_of x ≡ to → r ≡ onward s (by_letter (x ∷ []) l)
  led from to is reads starts ends = is ∙ onward_same s (edge from to) (by_letter (x ∷ []) l) (λ q q' _ _. sym (one_edge x l range reads q q' ∙ ap₂ (λ y z. edge y z q q') starts ends))

  pub unled : (Reads x l → ⊥) → r ≡ nowhere → r ≡ onward s (by_letter (x ∷ []) l)
  unled none is = is ∙ sym (onward_none s) ∙ onward_same s (λ q q'. false) (by_letter (x ∷ []) l) (λ q q' _ _. sym (no_edge x l range none q q'))
