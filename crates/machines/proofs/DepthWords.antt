-- Which words the depth machine accepts.
use Rattle.std.proofs.Common.{◌≡◌, ℕ, zero, suc, ◌+◌, ◌%◌, ◌≤◌, min, ◌↔◌, List, [], ◌∷◌, length, take, refl, arith}
use Rattle.nested.proofs.Counts.{opens, opens_call, opens_return, opens_pending, opens_internal}
use Rattle.std.proofs.lemmas.Bool.{leb-true, le-leb}
use Rattle.nested.specs.Reading.{pending_returns, read, read_from, read_letter, unclosed_calls}
use Rattle.nested.specs.declared.letter.Letter.{Letter}
use Rattle.nested.specs.declared.letter.Letter.TheVariants.{Call, Return, Internal}
use Rattle.nested.specs.declared.mark.Mark.{Mark}
use Rattle.machines.specs.Depth.{AcceptsWithin, at_depth, depth_automaton}
use Rattle.machines.specs.declared.depth.DepthState.{DepthState}

module _ (k : ℕ) where
  -- each mark holds the depth at its call
  abbrev Depths : List (Mark DepthState) → Type 0
  Depths [] = Unit {0}
  Depths (m ∷ ms) = (m.state.depth ≡ min (length ms) (k + 1)) × Depths ms

  -- Where the machine can stand: its depth is the number of open calls, held at k + 1, and no more than the most.
  record Fair (s : DepthState) (ms : List (Mark DepthState)) : Type 0 where
    pub depth : s.depth ≡ min (length ms) (k + 1)
    pub most : s.depth ≤ s.most
    pub marks : Depths ms

  -- at most k calls are open, after each front of the word, where n are open before it
  abbrev AtMost : ℕ → List Letter → Type 0
  AtMost n w = (i : ℕ) → opens n (take i w) ≤ k

  -- nothing is read yet
  at_most_none : (n : ℕ) → opens n [] ≡ n
  unfolding pending_returns unclosed_calls
  at_most_none n = omega arith

  -- the first letter takes n open calls to m
  at_most_more : (n m : ℕ) (l : Letter) (w : List Letter) → ((v : List Letter) → opens n (l ∷ v) ≡ opens m v) → AtMost n (l ∷ w) ↔ ((n ≤ k) × AtMost m w)
  at_most_more n m l w step = (
    λ h. (rw at_most_none at (h 0), λ i. rw step at (h (suc i))),
    λ h. elim [ zero ↦ rw at_most_none h.0 | suc i ↦ rw step (h.1 i) ],
  )

  fair_open : (s : DepthState) (ms : List (Mark DepthState)) → Fair s ms → s.most ≤ k → length ms ≤ k
  fair_open s ms fair h = omega arith

  abbrev Stays : DepthState → List (Mark DepthState) → List Letter → Type 0
  Stays s ms w = ((read_from (depth_automaton k) (record { state = s; marks = ms }) w).state.most ≤ k) ↔ ((s.most ≤ k) × AtMost (length ms) w)

  -- one letter that leads from s with ms to t with ns
  stays_more : (s t : DepthState) (ms ns : List (Mark DepthState)) (l : Letter) (w : List Letter) → Fair s ms → (t.most ≤ k) ↔ ((s.most ≤ k) × (length ns ≤ k)) → ((v : List Letter) → opens (length ms) (l ∷ v) ≡ opens (length ns) v) → read_letter (depth_automaton k) (record { state = s; marks = ms }) l ≡ record { state = t; marks = ns } → Stays t ns w → Stays s ms (l ∷ w)
  unfolding read_from
  stays_more s t ms ns l w fair most step leads later =
      let first = at_most_more (length ms) (length ns) l w step in
      rw (leads, read_from) (
        λ h. let (now, ahead) = later.0 h in let (below, _) = most.0 now in (below, first.1 (fair_open s ms fair below, ahead)),
        λ h. let ahead = (first.0 h.1).1 in later.1 (most.1 (h.0, rw at_most_none at (ahead 0)), ahead),
      )

  stays : (s : DepthState) (ms : List (Mark DepthState)) → Fair s ms → (w : List Letter) → Stays s ms w
  unfolding read_from
  stays s ms fair [] = (λ h. let n = fair_open s ms fair h in (h, elim [ zero ↦ rw at_most_none n | suc i ↦ rw at_most_none n ]), λ h. h.0)
  stays s ms fair (Call a ∷ w) =
      let t = (depth_automaton k).call s (a % 16) in
      stays_more s t ms (record { state = s; name = a } ∷ ms) (Call a) w fair
      (λ h. (omega arith, omega arith), λ h. omega arith)
      (opens_call (length ms) a) refl
      (stays t _ (record { depth = omega arith; most = omega arith; marks = (fair.depth, fair.marks) }) w)
  stays s [] fair (Return b ∷ w) =
      stays_more s s [] [] (Return b) w fair
      (λ h. (h, omega arith), λ h. h.0)
      (opens_pending b) refl
      (stays s [] fair w)
  stays s (m ∷ ms) fair (Return b ∷ w) =
      let (before, under) = fair.marks in
      let t = at_depth m.state.depth s.most in
      stays_more s t (m ∷ ms) ms (Return b) w fair
      (λ h. (h, omega arith), λ h. h.0)
      (opens_return (length ms) b) refl
      (stays t ms (record { depth = before; most = omega arith; marks = under }) w)
  stays s ms fair (Internal a ∷ w) =
      stays_more s s ms ms (Internal a) w fair
      (λ h. (h, omega arith), λ h. h.0)
      (opens_internal (length ms) a) refl
      (stays s ms fair w)

  pub accepts_within : AcceptsWithin k
  accepts_within w =
      let s = at_depth 0 0 in
      let all = stays s [] (record { depth = omega arith; most = omega arith; marks = tt }) w in (
        λ h i. let n = (all.0 (leb-true (read (depth_automaton k) w).state.most k h)).1 i in omega arith,
        λ h. le-leb (read (depth_automaton k) w).state.most k (all.1 (omega arith, λ i. let n = h i in omega arith)),
      )
