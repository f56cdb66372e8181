-- Makings in rows that agree, and the items that right makings derive.
use Rattle.std.proofs.Common.{◌≡◌, ℕ, ◌+◌, ◌%◌, ◌<◌, ◌≤◌, List, length, get_or, take, sym, ap, ◌∙◌, subst, ap₂, ⊎_elim, arith}
use Rattle.std.proofs.lemmas.List.Elements.{All-from_get_or, recursion_from_All}
use Rattle.std.proofs.lemmas.List.{get_or_default, get_or-take, length-take-le}
use Rattle.std.proofs.lemmas.Bool.{cases_eq}
use Rattle.nested.specs.Automata.{Automaton}
use Rattle.nested.specs.declared.letter.Letter.TheVariants as letter
use Rattle.items.specs.Items.{IsDerivable, item}
use Rattle.items.specs.Makings.{MadeBy, RightMakings, at, first_item}
use Rattle.items.specs.Words.{begun_making, how_at}
use Rattle.items.specs.declared.item.Item.{Item}
use Rattle.items.specs.declared.item.Level.TheVariants.{Base, Inner}
use Rattle.items.specs.declared.making.How.{How}
use Rattle.items.specs.declared.making.How.TheVariants.{Begun, Stepped, Entered, Matched}
use Rattle.items.specs.declared.making.Making.{Making}
use Rattle.items.proofs.Leading.{made_derivable}
use Rattle.search.specs.Reached.{MoreDerivable}
use Rattle.search.proofs.Rows.{Distinct, OneMore}

module _ {S : Type 0} (A : Automaton S) where
  -- what the rules make of an item, and the last of two, for names
  abbrev pub internal_item : Item S → ℕ → Item S
  internal_item x a = item x.level x.entry (A.internal x.present a)

  abbrev pub pending_item : Item S → ℕ → Item S
  pending_item x b = item Base x.entry (A.pending x.present b)

  abbrev pub call_item : Item S → ℕ → Item S
  call_item x a = item Inner (A.call x.present a) (A.call x.present a)

  abbrev pub return_item : Item S → Item S → ℕ → ℕ → Item S
  return_item x y a b = item x.level x.entry (A.ret y.present x.present a b)

  -- the rows have the same items below n
  abbrev pub SameItems : List (Item S) → List (Item S) → ℕ → Type 0
  SameItems xs ys n = (k : ℕ) → k < n → at A ys k ≡ at A xs k

  -- A making counts only items below its number.
  pub made_along : (xs ys : List (Item S)) (n m : ℕ) (how : How) (x : Item S) → n ≤ m → SameItems xs ys n → MadeBy A xs n how x → MadeBy A ys m how x
  made_along xs ys n m Begun x le same made = made
  made_along xs ys n m (Stepped i (letter.Internal a)) x le same (lt, is) = (omega arith, is ∙ ap (λ y. internal_item y (a % 16)) (sym (same i lt)))
  made_along xs ys n m (Stepped i (letter.Return b)) x le same (lt, base, is) = (omega arith, ap (λ y. y.level) (same i lt) ∙ base, is ∙ ap (λ y. pending_item y (b % 16)) (sym (same i lt)))
  made_along xs ys n m (Stepped i (letter.Call a)) x le same made = made
  made_along xs ys n m (Entered i a) x le same (lt, is) = (omega arith, is ∙ ap (λ y. call_item y (a % 16)) (sym (same i lt)))
  made_along xs ys n m (Matched i j a b) x le same (first, second, inner, entry, is) = (
    omega arith,
    omega arith,
    ap (λ y. y.level) (same j second) ∙ inner,
    ap (λ y. y.entry) (same j second) ∙ entry ∙ ap (λ y. A.call y.present (a % 16)) (sym (same i first)),
    is ∙ ap₂ (λ y z. return_item y z (a % 16) (b % 16)) (sym (same i first)) (sym (same j second)),
  )

  module _ (xs ys : List (Item S)) (ms ns : List Making) (n : ℕ) (right : RightMakings A xs ms n) where
    pub right_along : SameItems xs ys n → ((k : ℕ) → k < n → get_or ns k begun_making ≡ get_or ms k begun_making) → RightMakings A ys ns n
    right_along same alike k lt =
        subst (λ how. MadeBy A ys k how (at A ys k)) (sym (ap (λ m. m.how) (alike k lt)))
        (subst (MadeBy A ys k (how_at ms k)) (sym (same k lt))
        (made_along xs ys k k (how_at ms k) (at A xs k) (omega arith) (λ i less. same i (omega arith)) (right k lt)))

    pub right_more : (x : Item S) (m : Making) → OneMore (first_item A xs) xs ys n x → OneMore begun_making ms ns n m → MadeBy A xs n m.how x → RightMakings A ys ns (n + 1)
    right_more x m items makings made k lt = ⊎_elim
        (λ (is : k ≡ n).
        subst (λ i. MadeBy A ys i (how_at ns i) (at A ys i)) (sym is)
        (subst (λ how. MadeBy A ys n how (at A ys n)) (sym (ap (λ z. z.how) makings.last))
        (subst (MadeBy A ys n m.how) (sym items.last)
        (made_along xs ys n n m.how x (omega arith) items.same made))))
        (λ (below : k ≡ n → ⊥). right_along items.same makings.same k (omega arith))
        (cases_eq k n)

  -- Different items with right makings are as many derivable ones.
  pub more_of : (items : List (Item S)) (makings : List Making) (n m : ℕ) → n ≤ length items → RightMakings A items makings n → Distinct (first_item A items) items n → m < n → MoreDerivable A m
  more_of items makings n m le right distinct less =
      let d = first_item A items in
      let long = length-take-le n items le in
      let read : (k : ℕ) (e : Item S) → k < n → get_or (take n items) k e ≡ get_or items k d = λ k e lt. get_or-take n items k e lt ∙ get_or_default items k e d (omega arith) in
      record {
        some = take n items;
        derivable = recursion_from_All (IsDerivable A) (take n items) (All-from_get_or (IsDerivable A) (take n items) d (λ k lt. subst (IsDerivable A) (sym (read k d (omega arith))) (made_derivable A items makings n right k (omega arith))));
        distinct = λ j k e below within same. distinct j k below (omega arith) (sym (read j e (omega arith)) ∙ same ∙ read k e (omega arith));
        more = omega arith;
      }
