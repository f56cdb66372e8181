-- The runs of an automaton that may choose, and the words that it accepts.
use Rattle.std.specs.Prelude.{◌≡◌, ℕ, ◌%◌, true, List, [], ◌∷◌, Decides}
use Rattle.std.specs.List.{ContainsAt as Has}
use Rattle.nested.specs.Reading.{accepted}
use Rattle.nested.specs.declared.letter.Letter.{Letter}
use Rattle.nested.specs.declared.letter.Letter.TheVariants as letter
use Rattle.sheets.specs.Masks.{state_in}
use Rattle.sheets.specs.Moves.{Description}
use Rattle.sheets.specs.Steps.{sheet_automaton}
use Rattle.sheets.specs.declared.moves.Move.{Move}
use Rattle.sheets.specs.declared.moves.Move.TheVariants.{Internal, Call, Return, Pending}

module _ (ms : List Move) where
  -- One letter, from a state and a stack of marks, the top first, to a state and a stack: an internal move changes the state; a call
  -- move pushes its mark; a return move pops the mark on top; a return on the empty stack takes a pending move.
  pub data Step : Letter → ℕ → List ℕ → ℕ → List ℕ → Type 0 where
    internal : (a q q' : ℕ) (stack : List ℕ) → Has ms (Internal q (a % 16) q') → Step (letter.Internal a) q stack q' stack
    call : (a q q' m : ℕ) (stack : List ℕ) → Has ms (Call q (a % 16) q' m) → Step (letter.Call a) q stack q' (m ∷ stack)
    ret : (b q m q' : ℕ) (stack : List ℕ) → Has ms (Return q (b % 16) m q') → Step (letter.Return b) q (m ∷ stack) q' stack
    pending : (b q q' : ℕ) → Has ms (Pending q (b % 16) q') → Step (letter.Return b) q [] q' []

  -- A run on a word, letter by letter.
  pub data Run : List Letter → ℕ → List ℕ → ℕ → List ℕ → Type 0 where
    stay : (q : ℕ) (stack : List ℕ) → Run [] q stack q stack
    go : (l : Letter) (w : List Letter) (q r q' : ℕ) (stack between stack' : List ℕ) → Step l q stack r between → Run w r between q' stack' → Run (l ∷ w) q stack q' stack'

-- A run that accepts the word: it begins in a start state with an empty stack, and ends in an accepting state with any stack.
pub record AcceptingRun (d : Description) (w : List Letter) : Type 0 where
  pub first : ℕ
  pub last : ℕ
  pub stack : List ℕ
  pub starts : state_in d.start first ≡ true
  pub run : Run d.moves w first [] last stack
  pub accepts : state_in d.accepting last ≡ true

-- the machine accepts a word exactly if some run of its automaton does
abbrev pub AcceptsByRuns : Description → Type 0
AcceptsByRuns d = (w : List Letter) → Decides (accepted (sheet_automaton d) w) (AcceptingRun d w)
