-- Which items can be derived.
use Rattle.std.specs.Prelude.{ℕ, ◌<◌}
use Rattle.nested.specs.Automata.{Automaton}
use Rattle.items.specs.declared.item.Item.{Item}
use Rattle.items.specs.declared.item.Level.{Level}
use Rattle.items.specs.declared.item.Level.TheVariants.{Base, Inner}

module _ {S : Type 0} where
  -- the item (level, entry state, present state)
  abbrev pub item : Level → S → S → Item S
  item l p q = record { level = l; entry = p; present = q }

module _ {S : Type 0} (A : Automaton S) where
  -- An item is derivable if finitely many uses of these five rules reach it:
  -- the start; an internal letter; a pending return, at the base level only; a call, into which an inner item begins; a call, what an
  -- inner item says of the letters behind it, and its return.
  pub data Derivable : Level → S → S → Type 0 where
    begun : Derivable Base A.start A.start
    internal : (l : Level) (p q : S) (a : ℕ) → a < 16 → Derivable l p q → Derivable l p (A.internal q a)
    pending : (p q : S) (b : ℕ) → b < 16 → Derivable Base p q → Derivable Base p (A.pending q b)
    call : (l : Level) (p q : S) (a : ℕ) → a < 16 → Derivable l p q → Derivable Inner (A.call q a) (A.call q a)
    ret : (l : Level) (p q s : S) (a b : ℕ) → a < 16 → b < 16 → Derivable l p q → Derivable Inner (A.call q a) s → Derivable l p (A.ret s q a b)

  abbrev pub IsDerivable : Item S → Type 0
  IsDerivable i = Derivable i.level i.entry i.present
