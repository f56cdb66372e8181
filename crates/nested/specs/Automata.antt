-- What a machine on nested words means.
use Rattle.std.specs.Prelude.{ℕ, Bool}

-- A deterministic automaton on nested words over the states S. Names are numbers from 0 to 15.
pub record Automaton (S : Type 0) : Type 0 where
  -- the state before the first letter
  pub start : S
  -- after an internal letter: state, name
  pub internal : S → ℕ → S
  -- after a call: state, name
  pub call : S → ℕ → S
  -- after a return that has a partner: state, the state just before the partner call, the call's name, the return's name
  pub ret : S → S → ℕ → ℕ → S
  -- after a return with no open call: state, name
  pub pending : S → ℕ → S
  -- whether a word that ends in this state is accepted
  pub accepts : S → Bool
