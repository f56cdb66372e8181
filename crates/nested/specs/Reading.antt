-- Reading a nested word with an automaton, and which words satisfy it.
use Rattle.std.specs.Prelude.{◌≡◌, ℕ, ◌+◌, ◌-◌, ◌%◌, Bool, true, cond, List, [], ◌∷◌, ◌==◌}
use Rattle.nested.specs.Automata.{Automaton}
use Rattle.nested.specs.declared.letter.Letter.{Letter}
use Rattle.nested.specs.declared.letter.Letter.TheVariants.{Call, Return, Internal}
use Rattle.nested.specs.declared.mark.Mark.{Mark}

-- Where the reading of a word stands: the present state, and the marks of the calls that are open, the latest first.
pub record Config (S : Type 0) : Type 0 where
  pub state : S
  pub marks : List (Mark S)

module _ {S : Type 0} (A : Automaton S) where
  -- a return takes back the latest mark, and is pending where no call is open
  abbrev pub read_return : S → List (Mark S) → ℕ → Config S
  read_return s [] b = record { state = A.pending s b; marks = [] }
  read_return s (m ∷ ms) b = record { state = A.ret s m.state (m.name % 16) b; marks = ms }

  -- one letter: a call saves the mark (present state, name)
  abbrev pub read_letter : Config S → Letter → Config S
  read_letter c (Call a) = record { state = A.call c.state (a % 16); marks = record { state = c.state; name = a } ∷ c.marks }
  read_letter c (Return b) = read_return c.state c.marks (b % 16)
  read_letter c (Internal a) = record { state = A.internal c.state (a % 16); marks = c.marks }

  -- a whole word, letter by letter
  unfoldable pub read_from : Config S → List Letter → Config S
  read_from c [] = c
  read_from c (l ∷ w) = read_from (read_letter c l) w

  -- before the first letter: the start state, no marks
  abbrev pub begun : Config S
  begun = record { state = A.start; marks = [] }

  abbrev pub read : List Letter → Config S
  read w = read_from begun w

  -- A word is accepted if the state after it accepts, whether marks remain or not.
  abbrev pub accepted : List Letter → Bool
  accepted w = A.accepts (read w).state

  abbrev pub Satisfies : List Letter → Type 0
  Satisfies w = accepted w ≡ true

-- How many returns of a word are pending: each closes a call, if the word is put behind one that has as many open.
unfoldable pub pending_returns : List Letter → ℕ
pending_returns [] = 0
pending_returns (Call a ∷ w) = pending_returns w - 1
pending_returns (Return b ∷ w) = pending_returns w + 1
pending_returns (Internal a ∷ w) = pending_returns w

-- How many calls of a word are never closed: those behind which no return is pending.
unfoldable pub unclosed_calls : List Letter → ℕ
unclosed_calls [] = 0
unclosed_calls (Call a ∷ w) = cond (pending_returns w == 0) 1 0 + unclosed_calls w
unclosed_calls (Return b ∷ w) = unclosed_calls w
unclosed_calls (Internal a ∷ w) = unclosed_calls w

-- every call of the word is closed in it, and every return of it closes a call of it
abbrev pub WellMatched : List Letter → Type 0
WellMatched w = (pending_returns w ≡ 0) × (unclosed_calls w ≡ 0)
