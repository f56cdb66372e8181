-- What is derivable: every state that a word leads to, and nothing beyond a set that the rules keep within.
use Rattle.std.proofs.Common.{ℕ, ◌%◌, ◌<◌, List, [], ◌∷◌, arith}
use Rattle.nested.specs.Automata.{Automaton}
use Rattle.nested.specs.Reading.{Config, begun, read, read_from, read_letter}
use Rattle.nested.specs.declared.letter.Letter.{Letter}
use Rattle.nested.specs.declared.letter.Letter.TheVariants.{Call, Return, Internal}
use Rattle.nested.specs.declared.mark.Mark.{Mark}
use Rattle.items.specs.Items.{Derivable}
use Rattle.items.specs.declared.item.Level.{Level}
use Rattle.items.specs.declared.item.Level.TheVariants.{Base, Inner}

pub name_below : (a : ℕ) → a % 16 < 16
name_below a = omega arith

module _ {S : Type 0} (A : Automaton S) where
  -- the level and the entry state of the items that tell of a reading with these marks
  abbrev level_under : List (Mark S) → Level
  level_under [] = Base
  level_under (k ∷ ks) = Inner

  abbrev entry_under : List (Mark S) → S
  entry_under [] = A.start
  entry_under (k ∷ ks) = A.call k.state (k.name % 16)

  abbrev Derives : S → List (Mark S) → Type 0
  Derives q ks = Derivable A (level_under ks) (entry_under ks) q

  -- the states before the open calls are derived too
  abbrev MarksDerived : List (Mark S) → Type 0
  MarksDerived [] = Unit {0}
  MarksDerived (k ∷ ks) = Derives k.state ks × MarksDerived ks

  -- where a reading can stand
  record Derived (c : Config S) : Type 0 where
    state : Derives c.state c.marks
    marks : MarksDerived c.marks

  letter_derived : (q : S) (ks : List (Mark S)) (l : Letter) → Derived (record { state = q; marks = ks }) → Derived (read_letter A (record { state = q; marks = ks }) l)
  letter_derived q ks (Call a) d = record {
    state = Derivable.call (level_under ks) (entry_under ks) q (a % 16) (name_below a) d.state;
    marks = (d.state, d.marks);
  }
  letter_derived q [] (Return b) d = record { state = Derivable.pending A.start q (b % 16) (name_below b) d.state; marks = tt }
  letter_derived q (k ∷ ks) (Return b) d = record {
    state = Derivable.ret (level_under ks) (entry_under ks) k.state q (k.name % 16) (b % 16) (name_below k.name) (name_below b) d.marks.0 d.state;
    marks = d.marks.1;
  }
  letter_derived q ks (Internal a) d = record { state = Derivable.internal (level_under ks) (entry_under ks) q (a % 16) (name_below a) d.state; marks = d.marks }

  word_derived : (c : Config S) (w : List Letter) → Derived c → Derived (read_from A c w)
  unfolding read_from
  word_derived c [] d = d
  word_derived c (l ∷ w) d = word_derived (read_letter A c l) w (letter_derived c.state c.marks l d)

  -- Every state that a word leads to is the present state of a derivable item.
  pub reachable_derivable : (w : List Letter) → (l : Level) × (p : S) × Derivable A l p (read A w).state
  reachable_derivable w = let d = word_derived (begun A) w (record { state = Derivable.begun; marks = tt }) in (_, _, d.state)

  -- A set of items that has the start and is closed under the rules has every derivable item.
  module _ (P : Level → S → S → Type 0)
      (start : P Base A.start A.start)
      (internal : (l : Level) (p q : S) (a : ℕ) → a < 16 → P l p q → P l p (A.internal q a))
      (pending : (p q : S) (b : ℕ) → b < 16 → P Base p q → P Base p (A.pending q b))
      (call : (l : Level) (p q : S) (a : ℕ) → a < 16 → P l p q → P Inner (A.call q a) (A.call q a))
      (ret : (l : Level) (p q s : S) (a b : ℕ) → a < 16 → b < 16 → P l p q → P Inner (A.call q a) s → P l p (A.ret s q a b)) where
    pub derivable_within : (l : Level) (p q : S) → Derivable A l p q → P l p q
    derivable_within l p q Derivable.begun = start
    derivable_within l p q (Derivable.internal _ _ r a lt d) = internal l p r a lt (derivable_within l p r d)
    derivable_within l p q (Derivable.pending _ r b lt d) = pending p r b lt (derivable_within Base p r d)
    derivable_within l p q (Derivable.call m e r a lt d) = call m e r a lt (derivable_within m e r d)
    derivable_within l p q (Derivable.ret _ _ r s a b below under d inner) = ret l p r s a b below under (derivable_within l p r d) (derivable_within Inner (A.call r a) s inner)
