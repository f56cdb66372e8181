-- A sheet's machine accepts a word exactly if some run of its automaton does.
use Rattle.std.proofs.Common.{◌≡◌, ℕ, ◌%◌, ◌^◌, ◌<◌, ◌≤◌, true, false, List, [], ◌∷◌, refl, subst, ⊎_elim, arith}
use Rattle.std.proofs.lemmas.Bool.{cases_lt}
use Rattle.nested.specs.Automata.{Automaton}
use Rattle.nested.specs.Reading.{Config, begun, read, read_from, read_letter}
use Rattle.nested.specs.declared.letter.Letter.{Letter}
use Rattle.nested.specs.declared.letter.Letter.TheVariants.{Call, Return, Internal}
use Rattle.nested.specs.declared.mark.Mark.{Mark}
use Rattle.sheets.specs.Masks.{MasksAreSets, has, state_in}
use Rattle.sheets.specs.Moves.{Description, InRange}
use Rattle.sheets.specs.Runs.{AcceptsByRuns, Run}
use Rattle.sheets.specs.Steps.{by_internal, by_pending, by_visit, sheet_automaton}
use Rattle.sheets.specs.declared.state.SheetState.{SheetState}
use Rattle.sheets.proofs.Leads.{Leads, call_honest, call_leads, internal_leads, pending_leads, return_leads}
use Rattle.sheets.proofs.Tracks.{Called, Honest, Tracked, both_at, both_from, fresh_back, fresh_into, onward_honest}

module _ (sets : MasksAreSets) (above : (k m i : ℕ) → m < 2 ^ k → k ≤ i → has m i ≡ false) (d : Description) (ok : InRange d) where
  abbrev A : Automaton SheetState
  A = sheet_automaton d

  -- where a run can be behind the latest open call, or at the start of the word where none is open
  abbrev Entered : List (Mark SheetState) → ℕ → List ℕ → Type 0
  Entered [] q stack = (state_in d.start q ≡ true) × (stack ≡ [])
  Entered (k ∷ ks) q stack = Called d.moves (Tracked (Entered ks) k.state) (k.name % 16) q stack

  abbrev Tracks : Config SheetState → ℕ → List ℕ → Type 0
  Tracks c = Tracked (Entered c.marks) c.state

  letter_leads : (s : SheetState) (ks : List (Mark SheetState)) (l : Letter) → Leads d.moves (Tracks (record { state = s; marks = ks })) l (Tracks (read_letter A (record { state = s; marks = ks }) l))
  letter_leads s ks (Call a) = call_leads sets d ok (Entered ks) s a
  letter_leads s [] (Return b) = pending_leads sets d ok (Entered []) s b (λ p stack e. e.1)
  letter_leads s (k ∷ ks) (Return b) = return_leads sets d ok (Entered ks) s k.state (k.name % 16) b
  letter_leads s ks (Internal a) = internal_leads sets d ok (Entered ks) s a

  -- the states of the machine before the open calls are honest too
  abbrev HonestMarks : List (Mark SheetState) → Type 0
  HonestMarks [] = Unit {0}
  HonestMarks (k ∷ ks) = Honest (Entered ks) k.state × HonestMarks ks

  -- where the machine can stand
  record Fair (c : Config SheetState) : Type 0 where
    state : Honest (Entered c.marks) c.state
    marks : HonestMarks c.marks

  letter_fair : (s : SheetState) (ks : List (Mark SheetState)) (l : Letter) → Fair (record { state = s; marks = ks }) → Fair (read_letter A (record { state = s; marks = ks }) l)
  letter_fair s ks (Call a) fair = record { state = call_honest sets d ok (Entered ks) s (a % 16) fair.state; marks = (fair.state, fair.marks) }
  letter_fair s [] (Return b) fair = record { state = onward_honest sets (Entered []) s (by_pending d.moves (b % 16)) fair.state; marks = tt }
  letter_fair s (k ∷ ks) (Return b) fair = record { state = onward_honest sets (Entered ks) k.state (by_visit d.moves s.pairs (k.name % 16) (b % 16)) fair.marks.0; marks = fair.marks.1 }
  letter_fair s ks (Internal a) fair = record { state = onward_honest sets (Entered ks) s (by_internal d.moves (a % 16)) fair.state; marks = fair.marks }

  word_fair : (c : Config SheetState) (w : List Letter) → Fair c → Fair (read_from A c w)
  unfolding read_from
  word_fair c [] fair = fair
  word_fair c (l ∷ w) fair = word_fair (read_letter A c l) w (letter_fair c.state c.marks l fair)

  word_into : (c : Config SheetState) (w : List Letter) (q : ℕ) (stack : List ℕ) (q' : ℕ) (stack' : List ℕ) → Run d.moves w q stack q' stack' → Tracks c q stack → Tracks (read_from A c w) q' stack'
  unfolding read_from
  word_into c w q stack q' stack' (Run.stay _ _) h = h
  word_into c w q stack q' stack' (Run.go l v _ r _ _ between _ step run) h = word_into (read_letter A c l) v r between q' stack' run ((letter_leads c.state c.marks l).into q stack r between h step)

  word_back : (c : Config SheetState) (w : List Letter) (q' : ℕ) (stack' : List ℕ) → Tracks (read_from A c w) q' stack' → (q : ℕ) × (stack : List ℕ) × Tracks c q stack × Run d.moves w q stack q' stack'
  unfolding read_from
  word_back c [] q' stack' h = (q', stack', h, Run.stay q' stack')
  word_back c (l ∷ w) q' stack' h =
      let (r, between, tracked, run) = word_back (read_letter A c l) w q' stack' h in
      let (q, stack, before, step) = (letter_leads c.state c.marks l).back r between tracked in
      (q, stack, before, Run.go l w q r q' stack between stack' step run)

  -- a start state is one of the states
  start_below : (q : ℕ) → state_in d.start q ≡ true → q < d.states
  start_below q h = ⊎_elim
      (λ lt. lt)
      (λ le. let no = above d.states d.start q ok.start_in le in absurd (let e : ◌≡◌ {A = ℕ} 0 1 = cc in omega arith))
      (cases_lt q d.states)

  start_into : (q : ℕ) → state_in d.start q ≡ true → Tracks (begun A) q []
  start_into q h = fresh_into sets (Entered []) d.states d.start ok.few_states q [] (start_below q h) (h, refl)

  start_back : (q : ℕ) (stack : List ℕ) → Tracks (begun A) q stack → Entered [] q stack
  start_back = fresh_back sets (Entered []) d.states d.start ok.few_states

  read_fair : (w : List Letter) → Fair (read A w)
  read_fair w = word_fair (begun A) w (record { state = λ q lt. (λ h. ([], start_into q h), λ h. (start_back q h.0 h.1).0); marks = tt })

  pub accepts_by_runs : AcceptsByRuns d
  accepts_by_runs w =
      let reached = state_in (read A w).state.states in (
        λ h.
            let (q, small, is, accepts) = both_from 8 reached (state_in d.accepting) h in
            let (stack, tracked) = ((read_fair w).state q small).0 is in
            let (first, below, start, run) = word_back (begun A) w q stack tracked in
            let (starts, none) = start_back first below start in
            record { first = first; last = q; stack = stack; starts = starts; run = subst (λ st. Run d.moves w first st q stack) none run; accepts = accepts },
        λ r.
            let tracked = word_into (begun A) w r.first [] r.last r.stack r.run (start_into r.first r.starts) in
            both_at 8 reached (state_in d.accepting) r.last tracked.small (((read_fair w).state r.last tracked.small).1 (r.stack, tracked)) r.accepts,
      )
