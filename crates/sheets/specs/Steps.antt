-- A sheet as a machine: it follows the sets of states that the runs of its automaton can be in.
use Rattle.std.specs.Prelude.{◌≡◌, ℕ, ◌%◌, ◌<◌, Bool, ◌&&◌, List, ◌==◌, bit_or, nat_lt, slice_index_or}
use Rattle.nested.specs.Automata.{Automaton}
use Rattle.nested.specs.declared.letter.Letter.{Letter}
use Rattle.nested.specs.declared.letter.Letter.TheVariants as letter
use Rattle.sheets.specs.Masks.{pair_in, pairs_where, some_mark, some_state, state_in, states_where}
use Rattle.sheets.specs.Moves.{Description, among}
use Rattle.sheets.specs.declared.moves.Move.{Move}
use Rattle.sheets.specs.declared.moves.Move.TheVariants.{Internal, Call, Return, Pending}
use Rattle.sheets.specs.declared.state.SheetState.{SheetState}

-- A relation of states.
abbrev pub Relation : Type 0
Relation = ℕ → ℕ → Bool

-- The state (S, R) of the machine. R is the set of the states that a run can be in now. S is the set of the pairs (p, q) such that a
-- run that is in p behind the latest open call, or at the start of the word where none is open, can be in q now.
abbrev pub at_sets : Relation → (ℕ → Bool) → SheetState
at_sets s r = record { pairs = pairs_where s; states = states_where r }

-- no run can be anywhere
abbrev pub nowhere : SheetState
nowhere = record { pairs = 0; states = 0 }

-- what is in one of the two, or in both
abbrev pub joined : SheetState → SheetState → SheetState
joined s u = record { pairs = bit_or s.pairs u.pairs; states = bit_or s.states u.states }

-- One step by the relation t: all (p, q') with (p, q) in S and (q, q') in t, and all q' with q in R and (q, q') in t.
abbrev pub onward : SheetState → Relation → SheetState
onward s t = at_sets
    (λ p q'. some_state (λ q. pair_in s.pairs p q && t q q'))
    (λ q'. some_state (λ q. state_in s.states q && t q q'))

module _ (ms : List Move) where
  abbrev pub by_internal : ℕ → Relation
  by_internal a q q' = among ms (Internal q a q')

  abbrev pub by_pending : ℕ → Relation
  by_pending b q q' = among ms (Pending q b q')

  abbrev pub by_call : ℕ → Relation
  by_call a q q' = some_mark (λ m. among ms (Call q a q' m))

  -- By a letter; a return is one with no open call.
  abbrev pub by_letter : Letter → Relation
  by_letter (letter.Internal a) = by_internal (a % 16)
  by_letter (letter.Call a) = by_call (a % 16)
  by_letter (letter.Return b) = by_pending (b % 16)

  -- All (q1, q3) for which a call move (q1, a, q2, m) and a pair (q2, q3) in S exist.
  abbrev pub by_inner : ℕ → ℕ → ℕ → Relation
  by_inner s a m q1 q3 = some_state (λ q2. among ms (Call q1 a q2 m) && pair_in s q2 q3)

  -- All (q1, q') for which, for some mark m, (q1, q3) is in the relation of m and a return move (q3, b, m, q') exists.
  abbrev pub by_return : (ℕ → Relation) → ℕ → Relation
  by_return t b q1 q' = some_mark (λ m. some_state (λ q3. t m q1 q3 && among ms (Return q3 b m q')))

  -- All (q1, q') for which a call move (q1, a, q2, m), a pair (q2, q3) in S and a return move (q3, b, m, q') exist.
  abbrev pub by_visit : ℕ → ℕ → ℕ → Relation
  by_visit s a b = by_return (by_inner s a) b

-- Where place m of the row is the step from s by t m, the answer r is the step from s by u t.
abbrev pub StepsOn : List SheetState → SheetState → ((ℕ → Relation) → Relation) → Type 0
StepsOn row r u = (s : SheetState) (t : ℕ → Relation) → ((m : ℕ) → m < 16 → slice_index_or row m nowhere ≡ onward s (t m)) → r ≡ onward s (u t)

-- the identity on the states below n
abbrev pub identity : ℕ → Relation
identity n p q = nat_lt p n && p == q

-- Start: the identity and the start states. Internal letters and pending returns go on by their moves. A call keeps of S only the
-- identity, and its moves lead from R. A return goes on, from the state before its call, by the call, what S says of the letters
-- between, and the return. It accepts if an accepting state is in R.
abbrev pub sheet_automaton : Description → Automaton SheetState
sheet_automaton d = record {
  start = record { pairs = pairs_where (identity d.states); states = d.start };
  internal = λ s a. onward s (by_internal d.moves a);
  call = λ s a. record { pairs = pairs_where (identity d.states); states = (onward s (by_call d.moves a)).states };
  ret = λ s t a b. onward t (by_visit d.moves s.pairs a b);
  pending = λ s b. onward s (by_pending d.moves b);
  accepts = λ s. some_state (λ q. state_in s.states q && state_in d.accepting q);
}

abbrev pub same_state : SheetState → SheetState → Bool
same_state s u = s.pairs == u.pairs && s.states == u.states
