-- Makings that are right.
use Rattle.std.specs.Prelude.{◌≡◌, ℕ, ◌%◌, ◌<◌, List, slice_index_or}
use Rattle.nested.specs.Automata.{Automaton}
use Rattle.nested.specs.declared.letter.Letter.TheVariants as letter
use Rattle.items.specs.Items.{item}
use Rattle.items.specs.Words.{how_at}
use Rattle.items.specs.declared.item.Item.{Item}
use Rattle.items.specs.declared.item.Level.TheVariants.{Base, Inner}
use Rattle.items.specs.declared.making.How.{How}
use Rattle.items.specs.declared.making.How.TheVariants.{Begun, Stepped, Entered, Matched}
use Rattle.items.specs.declared.making.Making.{Making}

module _ {S : Type 0} (A : Automaton S) (items : List (Item S)) where
  -- rule 1's item, which stands for a place that the row does not have
  abbrev pub first_item : Item S
  first_item = item Base A.start A.start

  abbrev pub at : ℕ → Item S
  at n = slice_index_or items n first_item

  -- The item x, as number n, follows from items below n by the rule that its making names.
  abbrev pub MadeBy : ℕ → How → Item S → Type 0
  MadeBy n Begun x = x ≡ first_item
  MadeBy n (Stepped i (letter.Internal a)) x = (i < n) × (x ≡ item (at i).level (at i).entry (A.internal (at i).present (a % 16)))
  MadeBy n (Stepped i (letter.Return b)) x = (i < n) × ((at i).level ≡ Base) × (x ≡ item Base (at i).entry (A.pending (at i).present (b % 16)))
  MadeBy n (Stepped i (letter.Call a)) x = ⊥
  MadeBy n (Entered i a) x = (i < n) × (x ≡ item Inner (A.call (at i).present (a % 16)) (A.call (at i).present (a % 16)))
  MadeBy n (Matched i j a b) x = (i < n) × (j < n) × ((at j).level ≡ Inner) × ((at j).entry ≡ A.call (at i).present (a % 16)) × (x ≡ item (at i).level (at i).entry (A.ret (at j).present (at i).present (a % 16) (b % 16)))

  -- each of the first n items follows by its making
  abbrev pub RightMakings : List Making → ℕ → Type 0
  RightMakings makings n = (k : ℕ) → k < n → MadeBy k (how_at makings k) (at k)
