-- One automaton reads as another does, through a function between their states.
use Rattle.std.proofs.Common.{◌≡◌, ℕ, ◌%◌, List, [], ◌∷◌, map, refl, ap, ◌∙◌}
use Rattle.nested.specs.Automata.{Automaton}
use Rattle.nested.specs.Reading.{Config, read_from, read_letter, read_return}
use Rattle.nested.specs.declared.letter.Letter.{Letter}
use Rattle.nested.specs.declared.letter.Letter.TheVariants.{Call, Return, Internal}
use Rattle.nested.specs.declared.mark.Mark.{Mark}

module _ {S U : Type 0} where
  -- every step of A, seen through h, is B's
  pub record Simulates (A : Automaton S) (B : Automaton U) (h : S → U) : Type 0 where
    pub internal : (s : S) (a : ℕ) → h (A.internal s a) ≡ B.internal (h s) a
    pub call : (s : S) (a : ℕ) → h (A.call s a) ≡ B.call (h s) a
    pub ret : (s t : S) (a b : ℕ) → h (A.ret s t a b) ≡ B.ret (h s) (h t) a b
    pub pending : (s : S) (b : ℕ) → h (A.pending s b) ≡ B.pending (h s) b

  abbrev pub seen : (S → U) → Config S → Config U
  seen h c = record { state = h c.state; marks = map (λ m. record { state = h m.state; name = m.name }) c.marks }

  module _ {A : Automaton S} {B : Automaton U} {h : S → U} (sim : Simulates A B h) where
    seen_return : (s : S) (ms : List (Mark S)) (b : ℕ) → seen h (read_return A s ms b) ≡ read_return B (h s) (seen h (record { state = s; marks = ms })).marks b
    seen_return s [] b = λ i. record { state = sim.pending s b i; marks = [] }
    seen_return s (m ∷ ms) b = λ i. record { state = sim.ret s m.state (m.name % 16) b i; marks = (seen h (record { state = s; marks = ms })).marks }

    seen_letter : (c : Config S) (l : Letter) → seen h (read_letter A c l) ≡ read_letter B (seen h c) l
    seen_letter c (Call a) = λ i. record { state = sim.call c.state (a % 16) i; marks = record { state = h c.state; name = a } ∷ (seen h c).marks }
    seen_letter c (Return b) = seen_return c.state c.marks (b % 16)
    seen_letter c (Internal a) = λ i. record { state = sim.internal c.state (a % 16) i; marks = (seen h c).marks }

    pub seen_word : (c : Config S) (w : List Letter) → seen h (read_from A c w) ≡ read_from B (seen h c) w
    unfolding read_from
    seen_word c [] = refl
    seen_word c (l ∷ w) = seen_word (read_letter A c l) w ∙ ap (λ d. read_from B d w) (seen_letter c l)
