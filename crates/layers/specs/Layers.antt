-- Automata made of automata.
use Rattle.std.specs.Prelude.{◌≡◌, Bool, not, ◌&&◌, List}
use Rattle.nested.specs.Automata.{Automaton}
use Rattle.nested.specs.Reading.{accepted}
use Rattle.nested.specs.declared.letter.Letter.{Letter}

module _ {S : Type 0} where
  -- steps as the automaton below, and accepts exactly where that does not
  abbrev pub not_automaton : Automaton S → Automaton S
  not_automaton A = record {
    start = A.start;
    internal = A.internal;
    call = A.call;
    ret = A.ret;
    pending = A.pending;
    accepts = λ s. not (A.accepts s);
  }

  -- the complement: it accepts exactly the words that the automaton below does not
  abbrev pub AcceptsOthers : Automaton S → Type 0
  AcceptsOthers A = (w : List Letter) → accepted (not_automaton A) w ≡ not (accepted A w)

module _ {S U : Type 0} where
  -- two automata side by side, with pairs as states; where it accepts is told by where the two do
  abbrev pub side_by_side : (Bool → Bool → Bool) → Automaton S → Automaton U → Automaton (S × U)
  side_by_side join A B = record {
    start = (A.start, B.start);
    internal = λ s a. (A.internal s.0 a, B.internal s.1 a);
    call = λ s a. (A.call s.0 a, B.call s.1 a);
    ret = λ s t a b. (A.ret s.0 t.0 a b, B.ret s.1 t.1 a b);
    pending = λ s b. (A.pending s.0 b, B.pending s.1 b);
    accepts = λ s. join (A.accepts s.0) (B.accepts s.1);
  }

  abbrev pub same_pair : (S → S → Bool) → (U → U → Bool) → S × U → S × U → Bool
  same_pair e f s u = e s.0 u.0 && f s.1 u.1

  -- whether a pair accepts a word is told by whether the two automata do
  abbrev pub AcceptsJoined : (Bool → Bool → Bool) → Automaton S → Automaton U → Type 0
  AcceptsJoined join A B = (w : List Letter) → accepted (side_by_side join A B) w ≡ join (accepted A w) (accepted B w)
