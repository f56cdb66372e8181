-- What a turn tries: candidates that follow from items of the row, and all that follow from the item of the turn and those before it.
use Rattle.std.proofs.Common.{◌≡◌, ℕ, zero, suc, ◌+◌, ◌%◌, ◌<◌, ◌≤◌, Bool, true, false, cond, List, [], ◌∷◌, ◌++◌, sym, refl, ap, ◌∙◌, subst, ap₂, ⊎_elim, mod-eq_of_lt, arith}
use Rattle.std.specs.List.{AllByRecursion}
use Rattle.std.proofs.lemmas.Bool.{cases_eq, cond_both}
use Rattle.nested.specs.Automata.{Automaton}
use Rattle.nested.specs.declared.letter.Letter.TheVariants as letter
use Rattle.items.specs.Makings.{MadeBy, at}
use Rattle.items.specs.declared.item.Item.{Item}
use Rattle.items.specs.declared.item.Level.{Level}
use Rattle.items.specs.declared.item.Level.TheVariants.{Base, Inner}
use Rattle.items.specs.declared.making.How.{How}
use Rattle.items.specs.declared.making.How.TheVariants.{Begun, Stepped, Entered, Matched}
use Rattle.items.proofs.Deriving.{name_below}
use Rattle.search.specs.Model.{by_call, by_internal, by_match, by_pending, by_return, candidate, candidates, each, is_base}
use Rattle.search.specs.declared.worklist.Candidate.{Candidate}
use Rattle.search.specs.Reached.{Lawful}
use Rattle.search.proofs.Making.{call_item, internal_item, pending_item, return_item}

module _ {X : Type 0} (P : X → Type 0) where
  append_all : (xs ys : List X) → AllByRecursion P xs → AllByRecursion P ys → AllByRecursion P (xs ++ ys)
  append_all [] ys h k = k
  append_all (x ∷ xs) ys h k = (h.0, append_all xs ys h.1 k)

  each_from : (from count : ℕ) (f : ℕ → List X) → ((k : ℕ) → k < from + count → AllByRecursion P (f k)) → AllByRecursion P (each from count f)
  unfolding each
  each_from from zero f h = tt
  each_from from (suc count) f h = append_all (f from) (each (suc from) count f) (h from (omega arith)) (each_from (suc from) count f (λ k lt. h k (omega arith)))

  append_parts : (xs ys : List X) → AllByRecursion P (xs ++ ys) → AllByRecursion P xs × AllByRecursion P ys
  append_parts [] ys h = (tt, h)
  append_parts (x ∷ xs) ys h = let (l, r) = append_parts xs ys h.1 in ((h.0, l), r)

  each_at : (from count : ℕ) (f : ℕ → List X) (k : ℕ) → from ≤ k → k < from + count → AllByRecursion P (each from count f) → AllByRecursion P (f k)
  unfolding each
  each_at from zero f k le lt h = absurd (omega arith)
  each_at from (suc count) f k le lt h =
      let (here, there) = append_parts (f from) (each (suc from) count f) h in ⊎_elim
      (λ (e : k ≡ from). subst (λ m. AllByRecursion P (f m)) (sym e) here)
      (λ (n : k ≡ from → ⊥). each_at (suc from) count f k (omega arith) (omega arith) there)
      (cases_eq k from)

base_from : (l : Level) → is_base l ≡ true → l ≡ Base
base_from Base e = refl
base_from Inner e = (cc)

inner_from : (l : Level) → is_base l ≡ false → l ≡ Inner
inner_from Base e = (cc)
inner_from Inner e = refl

module _ {S : Type 0} (A : Automaton S) (eq : S → S → Bool) (law : Lawful eq) (items : List (Item S)) where
  abbrev in_row : ℕ → Item S
  in_row = at A items

  -- the candidates of one name
  abbrev internals : ℕ → ℕ → List (Candidate S)
  internals i a = candidate (internal_item A (in_row i) a) (Stepped i (letter.Internal a)) ∷ []

  abbrev pendings : ℕ → ℕ → List (Candidate S)
  pendings i b = candidate (pending_item A (in_row i) b) (Stepped i (letter.Return b)) ∷ []

  abbrev calls : ℕ → ℕ → List (Candidate S)
  calls i a = candidate (call_item A (in_row i) a) (Entered i a) ∷ []

  abbrev returns : ℕ → ℕ → ℕ → ℕ → List (Candidate S)
  returns i j a b = candidate (return_item A (in_row i) (in_row j) a b) (Matched i j a b) ∷ []

  abbrev matches : ℕ → ℕ → List (Candidate S)
  matches = by_match A eq items

  -- rule 5 with item i second, and with item i first
  abbrev second_matches : ℕ → List (Candidate S)
  second_matches i = each 0 i (λ j. matches j i)

  abbrev first_matches : ℕ → List (Candidate S)
  first_matches i = each 0 (suc i) (matches i)

  module _ (n : ℕ) where
    -- the candidate follows from items below n
    abbrev From : Candidate S → Type 0
    From c = MadeBy A items n c.made.how c.new

    matches_follow : (i j : ℕ) → i < n → j < n → AllByRecursion From (matches i j)
    matches_follow i j first second = cond_both (is_base (in_row j).level) _ _ (AllByRecursion From) (λ _. tt) (λ inner.
        each_from From 0 16 (by_return A eq items i j) (λ a lt.
        cond_both (eq (A.call (in_row i).present a) (in_row j).entry) _ _ (AllByRecursion From)
        (λ same. each_from From 0 16 (returns i j a) (λ b less. (
          (
            first,
            second,
            inner_from (in_row j).level inner,
            sym (law.only _ _ same) ∙ ap (A.call (in_row i).present) (sym (mod-eq_of_lt lt)),
            ap₂ (return_item A (in_row i) (in_row j)) (sym (mod-eq_of_lt lt)) (sym (mod-eq_of_lt less)),
          ),
          tt,
        )))
        (λ _. tt)))

    pub candidates_follow : (i : ℕ) → i < n → AllByRecursion From (candidates A eq items i)
    candidates_follow i lt =
        append_all From (by_internal A eq items i) _ (each_from From 0 16 (internals i) (λ a less. ((lt, ap (internal_item A (in_row i)) (sym (mod-eq_of_lt less))), tt)))
        (append_all From (by_pending A eq items i) _
        (cond_both (is_base (in_row i).level) _ _ (AllByRecursion From)
        (λ base. each_from From 0 16 (pendings i) (λ b less. ((lt, base_from (in_row i).level base, ap (pending_item A (in_row i)) (sym (mod-eq_of_lt less))), tt)))
        (λ _. tt))
        (append_all From (by_call A eq items i) _ (each_from From 0 16 (calls i) (λ a less. ((lt, ap (call_item A (in_row i)) (sym (mod-eq_of_lt less))), tt)))
        (append_all From (second_matches i) _
        (each_from From 0 i (λ j. matches j i) (λ j less. matches_follow j i (omega arith) lt))
        (each_from From 0 (suc i) (matches i) (λ j less. matches_follow i j lt (omega arith))))))

  module _ (Q : Item S → Type 0) where
    abbrev New : Candidate S → Type 0
    New c = Q c.new

    -- a name counts as its remainder
    named : (f : ℕ → List (Candidate S)) (a : ℕ) → AllByRecursion New (each 0 16 f) → AllByRecursion New (f (a % 16))
    named f a = each_at New 0 16 f (a % 16) (omega arith) (name_below a)

    match_in : (j k a b : ℕ) → (in_row k).level ≡ Inner → (in_row k).entry ≡ A.call (in_row j).present (a % 16) → AllByRecursion New (matches j k) → Q (return_item A (in_row j) (in_row k) (a % 16) (b % 16))
    match_in j k a b inner entry all =
        let s = A.call (in_row j).present (a % 16) in
        let by_names : AllByRecursion New (each 0 16 (by_return A eq items j k)) = subst (λ l. AllByRecursion New (cond (is_base l) [] (each 0 16 (by_return A eq items j k)))) inner all in
        let same : eq s (in_row k).entry ≡ true = subst (λ u. eq s u ≡ true) (sym entry) (law.itself s) in
        (named (returns j k (a % 16)) b (subst (λ t. AllByRecursion New (cond t (each 0 16 (returns j k (a % 16))) [])) same (named (by_return A eq items j k) a by_names))).0

    -- what turn i tries
    record Tried (i : ℕ) : Type 0 where
      internal : AllByRecursion New (by_internal A eq items i)
      pending : AllByRecursion New (by_pending A eq items i)
      call : AllByRecursion New (by_call A eq items i)
      second : AllByRecursion New (second_matches i)
      first : AllByRecursion New (first_matches i)

    tried_from : (i : ℕ) → AllByRecursion New (candidates A eq items i) → Tried i
    tried_from i all =
        let behind₃ = second_matches i ++ first_matches i in
        let behind₂ = by_call A eq items i ++ behind₃ in
        let (internal, rest₁) = append_parts New (by_internal A eq items i) (by_pending A eq items i ++ behind₂) all in
        let (pending, rest₂) = append_parts New (by_pending A eq items i) behind₂ rest₁ in
        let (call, rest₃) = append_parts New (by_call A eq items i) behind₃ rest₂ in
        let (second, first) = append_parts New (second_matches i) (first_matches i) rest₃ in
        record { internal = internal; pending = pending; call = call; second = second; first = first }

    tried_all : (i : ℕ) → Tried i → (how : How) (y : Item S) → (MadeBy A items i how y → Q y) → MadeBy A items (i + 1) how y → Q y
    tried_all i t Begun y below made = below made
    tried_all i t (Stepped k (letter.Internal a)) y below (lt, is) = ⊎_elim
        (λ (e : k ≡ i). subst Q (sym (is ∙ ap (λ m. internal_item A (in_row m) (a % 16)) e)) (named (internals i) a t.internal).0)
        (λ (n : k ≡ i → ⊥). below (omega arith, is))
        (cases_eq k i)
    tried_all i t (Stepped k (letter.Return b)) y below (lt, base, is) = ⊎_elim
        (λ (e : k ≡ i).
        let all : AllByRecursion New (each 0 16 (pendings i)) = subst (λ l. AllByRecursion New (cond (is_base l) (each 0 16 (pendings i)) [])) (ap (λ m. (in_row m).level) (sym e) ∙ base) t.pending in
        subst Q (sym (is ∙ ap (λ m. pending_item A (in_row m) (b % 16)) e)) (named (pendings i) b all).0)
        (λ (n : k ≡ i → ⊥). below (omega arith, base, is))
        (cases_eq k i)
    tried_all i t (Stepped k (letter.Call a)) y below made = absurd made
    tried_all i t (Entered k a) y below (lt, is) = ⊎_elim
        (λ (e : k ≡ i). subst Q (sym (is ∙ ap (λ m. call_item A (in_row m) (a % 16)) e)) (named (calls i) a t.call).0)
        (λ (n : k ≡ i → ⊥). below (omega arith, is))
        (cases_eq k i)
    tried_all i t (Matched j k a b) y below (first, second, inner, entry, is) = ⊎_elim
        (λ (e : j ≡ i). subst Q (sym is) (match_in j k a b inner entry (subst (λ m. AllByRecursion New (matches m k)) (sym e) (each_at New 0 (suc i) (matches i) k (omega arith) (omega arith) t.first))))
        (λ (n : j ≡ i → ⊥). ⊎_elim
        (λ (e : k ≡ i). subst Q (sym is) (match_in j k a b inner entry (subst (λ m. AllByRecursion New (matches j m)) (sym e) (each_at New 0 i (λ m. matches m i) j (omega arith) (omega arith) t.second))))
        (λ (m : k ≡ i → ⊥). below (omega arith, omega arith, inner, entry, is))
        (cases_eq k i))
        (cases_eq j i)

    -- What follows from the items up to i, and not from those below i alone, is tried in turn i.
    pub candidates_all : (i : ℕ) → AllByRecursion New (candidates A eq items i) → (how : How) (y : Item S) → (MadeBy A items i how y → Q y) → MadeBy A items (i + 1) how y → Q y
    candidates_all i all = tried_all i (tried_from i all)
