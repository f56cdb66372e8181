-- The depth machine.
use Rattle.std.specs.Prelude.{ℕ, ◌+◌, ◌≤◌, min, max, Bool, ◌&&◌, List, take, Decides, ◌==◌, nat_le}
use Rattle.nested.specs.Automata.{Automaton}
use Rattle.nested.specs.Reading.{accepted, unclosed_calls}
use Rattle.nested.specs.declared.letter.Letter.{Letter}
use Rattle.machines.specs.declared.depth.DepthState.{DepthState}

abbrev pub at_depth : ℕ → ℕ → DepthState
at_depth d m = record { depth = d; most = m }

abbrev pub same_state : DepthState → DepthState → Bool
same_state s u = s.depth == u.depth && s.most == u.most

-- Depth k. A call makes the depth one more, held at k + 1, and the most the larger of itself and the new depth; a return sets the
-- depth to what it was before its call; internal letters and pending returns leave the state. It accepts if the most is at most k.
abbrev pub depth_automaton : ℕ → Automaton DepthState
depth_automaton k = record {
  start = at_depth 0 0;
  internal = λ s a. s;
  call = λ s a. at_depth (min (s.depth + 1) (k + 1)) (max s.most (min (s.depth + 1) (k + 1)));
  ret = λ s t a b. at_depth t.depth s.most;
  pending = λ s b. s;
  accepts = λ s. nat_le s.most k;
}

-- after no part of the word from its start are more than k calls open
abbrev pub OpenAtMost : ℕ → List Letter → Type 0
OpenAtMost k w = (i : ℕ) → unclosed_calls (take i w) ≤ k

-- what the depth machine accepts
abbrev pub AcceptsWithin : ℕ → Type 0
AcceptsWithin k = (w : List Letter) → Decides (accepted (depth_automaton k) w) (OpenAtMost k w)
