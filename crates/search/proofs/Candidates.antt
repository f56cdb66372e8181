-- What the rules make of items.
use Rattle.std.proofs.Common.{◌≡◌, ℕ, ◌<◌, Bool, true, false, cond, List, [], ◌∷◌, length, get_or, sym, ap, ◌∙◌, ap₂}
use Rattle.std.proofs.lemmas.List.{get_or_read}
use Rattle.std.proofs.lemmas.Bool.{cond-false, cond-true}
use Rattle.nested.specs.Automata.{Automaton}
use Rattle.nested.specs.declared.letter.Letter.TheVariants as letter
use Rattle.items.specs.Items.{item}
use Rattle.items.specs.Makings.{at, first_item}
use Rattle.items.specs.declared.item.Item.{Item}
use Rattle.items.specs.declared.item.Level.TheVariants.{Base, Inner}
use Rattle.items.specs.declared.making.How.TheVariants.{Stepped, Entered, Matched}
use Rattle.search.specs.Model.{Board, by_call, by_match, by_pending, by_return, candidate, each, is_base}
use Rattle.search.specs.declared.worklist.Candidate.{Candidate}
use Rattle.search.proofs.Boards.{Later}

module _ {S : Type 0} (A : Automaton S) where
  -- what one letter makes of item i, which is x, and a call and a return make of it and of item j, which is y
  abbrev pub internal_of : ℕ → Item S → ℕ → Candidate S
  internal_of i x a = candidate (item x.level x.entry (A.internal x.present a)) (Stepped i (letter.Internal a))

  abbrev pub pending_of : ℕ → Item S → ℕ → Candidate S
  pending_of i x b = candidate (item Base x.entry (A.pending x.present b)) (Stepped i (letter.Return b))

  abbrev pub call_of : ℕ → Item S → ℕ → Candidate S
  call_of i x a = candidate (item Inner (A.call x.present a) (A.call x.present a)) (Entered i a)

  abbrev pub return_of : ℕ → ℕ → Item S → Item S → ℕ → ℕ → Candidate S
  return_of i j x y a b = candidate (item x.level x.entry (A.ret y.present x.present a b)) (Matched i j a b)

  -- the candidates of each name, and what the rules make of the items themselves
  abbrev pub of_names : (ℕ → Candidate S) → List (Candidate S)
  of_names make = each 0 16 (λ a. make a ∷ [])

  abbrev pub pendings : ℕ → Item S → List (Candidate S)
  pendings i x = cond (is_base x.level) (of_names (pending_of i x)) []

  abbrev pub returned : (S → S → Bool) → ℕ → ℕ → Item S → Item S → ℕ → List (Candidate S)
  returned eq i j x y a = cond (eq (A.call x.present a) y.entry) (of_names (return_of i j x y a)) []

  abbrev pub matches : (S → S → Bool) → ℕ → ℕ → Item S → Item S → List (Candidate S)
  matches eq i j x y = cond (is_base y.level) [] (each 0 16 (returned eq i j x y))

  -- the item that is read from a row
  pub is_at : (items : List (Item S)) (i : ℕ) (x : Item S) → i < length items → x ≡ get_or items i x → x ≡ at A items i
  is_at items i x within read = get_or_read items i x within read (first_item A items)

  -- what a pending return makes of an item, by its level
  module _ (eq : S → S → Bool) (items : List (Item S)) (i : ℕ) (x : Item S) (is : x ≡ at A items i) where
    pub pending_base : is_base x.level ≡ true → of_names (pending_of i x) ≡ by_pending A eq items i
    pending_base base = sym (cond-true (is_base x.level) _ _ base) ∙ ap (pendings i) is

    pub pending_inner : is_base x.level ≡ false → [] ≡ by_pending A eq items i
    pending_inner inner = sym (cond-false (is_base x.level) _ _ inner) ∙ ap (pendings i) is

  -- what a call and its return make of two items, by whether the second is inside the first, and for all names by the level of the second
  module _ (eq : S → S → Bool) (items : List (Item S)) (i j : ℕ) (x y : Item S) (first : x ≡ at A items i) (second : y ≡ at A items j) where
    pub return_inside : (a : ℕ) → eq (A.call x.present a) y.entry ≡ true → of_names (return_of i j x y a) ≡ by_return A eq items i j a
    return_inside a inside = sym (cond-true (eq (A.call x.present a) y.entry) _ _ inside) ∙ ap₂ (λ x y. returned eq i j x y a) first second

    pub return_outside : (a : ℕ) → eq (A.call x.present a) y.entry ≡ false → [] ≡ by_return A eq items i j a
    return_outside a outside = sym (cond-false (eq (A.call x.present a) y.entry) _ _ outside) ∙ ap₂ (λ x y. returned eq i j x y a) first second

  module _ (eq : S → S → Bool) (items : List (Item S)) (i j : ℕ) (y : Item S) (second : y ≡ at A items j) where
    pub match_base : is_base y.level ≡ true → [] ≡ by_match A eq items i j
    match_base base = sym (cond-true (is_base y.level) _ _ base) ∙ ap (matches eq i j (at A items i)) second

    pub match_inner : is_base y.level ≡ false → each 0 16 (by_return A eq items i j) ≡ by_match A eq items i j
    match_inner inner = sym (cond-false (is_base (at A items j).level) _ _ (ap (λ z. is_base z.level) (sym second) ∙ inner))

-- What the rules make is the same while a search goes on, since the items entered before stay.
module _ {S : Type 0} (A : Automaton S) (eq : S → S → Bool) (start b : Board S) (later : Later start b) where
  same_at_later : (i : ℕ) → i < start.at.entered → at A b.items i ≡ at A start.items i
  same_at_later i there = later.below i (first_item A start.items) there

  pub pending_later : (i : ℕ) → i < start.at.entered → by_pending A eq b.items i ≡ by_pending A eq start.items i
  pending_later i there = ap (pendings A i) (same_at_later i there)

  pub call_later : (i : ℕ) → i < start.at.entered → by_call A eq b.items i ≡ by_call A eq start.items i
  call_later i there = ap (λ x. of_names A (call_of A i x)) (same_at_later i there)

  module _ (i j : ℕ) (first : i < start.at.entered) (second : j < start.at.entered) where
    pub return_later : (a : ℕ) → by_return A eq b.items i j a ≡ by_return A eq start.items i j a
    return_later a = ap₂ (λ x y. returned A eq i j x y a) (same_at_later i first) (same_at_later j second)

    pub match_later : by_match A eq b.items i j ≡ by_match A eq start.items i j
    match_later = ap₂ (matches A eq i j) (same_at_later i first) (same_at_later j second)
