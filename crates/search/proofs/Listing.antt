-- What `listed` says, where the test of equal states is lawful.
use Rattle.std.proofs.Common.{◌≡◌, ℕ, ◌<◌, ◌≤◌, Bool, true, false, ◌||◌, List, [], ◌∷◌, length, get_or, take, sym, refl, ap, ap₂, ◌∙◌, arith}
use Rattle.std.specs.List.{list_any}
use Rattle.std.proofs.lemmas.List.{get_or_default, get_or-take, length-take-le}
use Rattle.std.proofs.lemmas.List.Folds.{Any-from_list_any, list_any_at}
use Rattle.std.proofs.lemmas.Bool.{and_from, and_parts}
use Rattle.nested.specs.Automata.{Automaton}
use Rattle.items.specs.Items.{item}
use Rattle.items.specs.declared.item.Item.{Item}
use Rattle.items.specs.declared.item.Level.{Level}
use Rattle.items.specs.declared.item.Level.TheVariants.{Base, Inner}
use Rattle.search.specs.Model.{listed, same_item, same_level}
use Rattle.search.specs.Reached.{Lawful}

level_only : (l m : Level) → same_level l m ≡ true → l ≡ m
level_only Base Base e = refl
level_only Base Inner e = (cc)
level_only Inner Base e = (cc)
level_only Inner Inner e = refl

level_itself : (l : Level) → same_level l l ≡ true
level_itself Base = refl
level_itself Inner = refl

module _ {S : Type 0} (A : Automaton S) (eq : S → S → Bool) where
  -- the items of a list, tested one by one
  pub listed_any : (xs : List (Item S)) (x : Item S) (same : Item S → Bool) → ((y : Item S) → same y ≡ same_item A eq y x) → listed A eq xs x ≡ list_any same xs
  unfolding listed
  listed_any [] x same is = refl
  listed_any (y ∷ ys) x same is = ap₂ ◌||◌ (sym (is y)) (listed_any ys x same is)

module _ {S : Type 0} (A : Automaton S) (eq : S → S → Bool) (law : Lawful eq) where
  item_only : (x y : Item S) → same_item A eq x y ≡ true → x ≡ y
  item_only x y e =
      let (l, r) = and_parts (same_level x.level y.level) _ e in
      let (p, q) = and_parts (eq x.entry y.entry) (eq x.present y.present) r in
      λ i. item (level_only x.level y.level l i) (law.only x.entry y.entry p i) (law.only x.present y.present q i)

  item_itself : (x : Item S) → same_item A eq x x ≡ true
  item_itself x = and_from (same_level x.level x.level) _ (level_itself x.level)
      (and_from (eq x.entry x.entry) _ (law.itself x.entry) (law.itself x.present))

  -- among the first n
  module _ (xs : List (Item S)) (n : ℕ) (x d : Item S) (le : n ≤ length xs) where
    tested : listed A eq (take n xs) x ≡ list_any (λ y. same_item A eq y x) (take n xs)
    tested = listed_any A eq (take n xs) x (λ y. same_item A eq y x) (λ y. refl)

    pub listed_is : listed A eq (take n xs) x ≡ true → (k : ℕ) × (k < n) × (get_or xs k d ≡ x)
    listed_is e =
        let long = length-take-le n xs le in
        let (k, y, lt, is, same) = Any-from_list_any (λ y. same_item A eq y x) (take n xs) (sym tested ∙ e) in
        let below : k < n = omega arith in
        (k, below, get_or_default xs k d y (omega arith) ∙ sym (get_or-take n xs k y below) ∙ is ∙ item_only y x same)

    pub unlisted_is : listed A eq (take n xs) x ≡ false → (k : ℕ) → k < n → get_or xs k d ≡ x → ⊥
    unlisted_is e k lt is =
        let long = length-take-le n xs le in
        let found = list_any_at (λ y. same_item A eq y x) (take n xs) k d (omega arith) (ap (λ y. same_item A eq y x) (get_or-take n xs k d lt ∙ is) ∙ item_itself x) in
        let none = sym tested ∙ e in
        (cc)
