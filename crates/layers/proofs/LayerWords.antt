-- Which words the layers accept.
use mathlib.Core.Path.{refl, ap, ap₂}
use mathlib.Core.Bool.{Bool, not}
use Rattle.nested.proofs.Simulations.{Simulates, seen_word}
use Rattle.nested.specs.Automata.{Automaton}
use Rattle.nested.specs.Reading.{begun}
use Rattle.layers.specs.Layers.{AcceptsJoined, AcceptsOthers, not_automaton, side_by_side}

module _ {S : Type 0} where
  not_steps : (A : Automaton S) → Simulates (not_automaton A) A (λ s. s)
  not_steps A = record { internal = λ s a. refl; call = λ s a. refl; ret = λ s t a b. refl; pending = λ s b. refl }

  pub accepts_others : (A : Automaton S) → AcceptsOthers A
  accepts_others A w = ap (λ c. not (A.accepts c.state)) (seen_word (not_steps A) (begun (not_automaton A)) w)

module _ {S U : Type 0} (join : Bool → Bool → Bool) (A : Automaton S) (B : Automaton U) where
  first_steps : Simulates (side_by_side join A B) A (λ s. s.0)
  first_steps = record { internal = λ s a. refl; call = λ s a. refl; ret = λ s t a b. refl; pending = λ s b. refl }

  second_steps : Simulates (side_by_side join A B) B (λ s. s.1)
  second_steps = record { internal = λ s a. refl; call = λ s a. refl; ret = λ s t a b. refl; pending = λ s b. refl }

  pub accepts_joined : AcceptsJoined join A B
  accepts_joined w =
      ap₂ (λ c d. join (A.accepts c.state) (B.accepts d.state))
      (seen_word first_steps (begun (side_by_side join A B)) w)
      (seen_word second_steps (begun (side_by_side join A B)) w)
