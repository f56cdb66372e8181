-- One letter: the steps of runs on it lead from what the machine stands for before it to what it stands for behind it.
use Rattle.std.proofs.Common.{◌≡◌, ℕ, ◌%◌, ◌<◌, true, ◌&&◌, ltb, ◌⊎◌, List, [], ◌∷◌, sym, refl, subst, inl, inr, ⊎_elim, arith}
use Rattle.std.specs.List.{ContainsAt as Has}
use Rattle.std.proofs.lemmas.Bool.{and_parts, ltb-true}
use Rattle.nested.specs.Automata.{Automaton}
use Rattle.nested.specs.declared.letter.Letter.{Letter}
use Rattle.nested.specs.declared.letter.Letter.TheVariants as letter
use Rattle.sheets.specs.Masks.{MasksAreSets, pair_in, some_state}
use Rattle.sheets.specs.Moves.{Description, InRange, among, in_range}
use Rattle.sheets.specs.Runs.{Step}
use Rattle.sheets.specs.Steps.{Relation, by_call, by_inner, by_internal, by_pending, by_visit, onward, sheet_automaton}
use Rattle.sheets.specs.declared.moves.Move.{Move}
use Rattle.sheets.specs.declared.moves.Move.TheVariants.{Internal, Call, Return, Pending}
use Rattle.sheets.specs.declared.state.SheetState.{SheetState}
use Rattle.sheets.proofs.Among.{among_has, has_among, has_in_range, mark_below}
use Rattle.sheets.proofs.Some.{some_at, some_from}
use Rattle.sheets.proofs.Tracks.{Called, Configs, Honest, Tracked, both_at, both_from, fresh_back, fresh_into, onward_back, onward_honest, onward_into}

-- the state that a move leads to
abbrev to : Move → ℕ
to (Internal q a q') = q'
to (Call q a q' m) = q'
to (Return q b m q') = q'
to (Pending q b q') = q'

to_below : (n : ℕ) (m : Move) → in_range n m ≡ true → to m < n
to_below n (Internal q a q') h = ltb-true q' n (and_parts (ltb a 16) _ (and_parts (ltb q n) _ h).1).1
to_below n (Call q a q' m) h = ltb-true q' n (and_parts (ltb q' n) _ (and_parts (ltb a 16) _ (and_parts (ltb q n) _ h).1).1).0
to_below n (Return q b m q') h = ltb-true q' n (and_parts (ltb m 16) _ (and_parts (ltb b 16) _ (and_parts (ltb q n) _ h).1).1).1
to_below n (Pending q b q') h = ltb-true q' n (and_parts (ltb b 16) _ (and_parts (ltb q n) _ h).1).1

module _ (ms : List Move) where
  internal_step : (a q : ℕ) (stack : List ℕ) (q' : ℕ) (stack' : List ℕ) → Step ms (letter.Internal a) q stack q' stack' → (stack ≡ stack') × Has ms (Internal q (a % 16) q')
  internal_step a q stack q' stack' (Step.internal _ _ _ _ h) = (refl, h)

  call_step : (a q : ℕ) (stack : List ℕ) (q' : ℕ) (stack' : List ℕ) → Step ms (letter.Call a) q stack q' stack' → (m : ℕ) × (stack' ≡ m ∷ stack) × Has ms (Call q (a % 16) q' m)
  call_step a q stack q' stack' (Step.call _ _ _ m _ h) = (m, refl, h)

  return_step : (b q : ℕ) (stack : List ℕ) (q' : ℕ) (stack' : List ℕ) → Step ms (letter.Return b) q stack q' stack' → ((m : ℕ) × (stack ≡ m ∷ stack') × Has ms (Return q (b % 16) m q')) ⊎ ((stack ≡ stack') × (stack' ≡ []) × Has ms (Pending q (b % 16) q'))
  return_step b q stack q' stack' (Step.ret _ _ m _ _ h) = inl (m, refl, h)
  return_step b q stack q' stack' (Step.pending _ _ _ h) = inr (refl, refl, h)

  -- what `by_visit` says of q1 and q': the states behind the call and before the return, the mark, and the moves
  record Visit (pairs a b q1 q' : ℕ) : Type 0 where
    inside : ℕ
    last : ℕ
    mark : ℕ
    inside_small : inside < 8
    last_small : last < 8
    mark_small : mark < 16
    call : Has ms (Call q1 a inside mark)
    pair : pair_in pairs inside last ≡ true
    return : Has ms (Return last b mark q')

  visit_true : (pairs a b q1 q' : ℕ) → Visit pairs a b q1 q' → by_visit ms pairs a b q1 q' ≡ true
  visit_true pairs a b q1 q' v =
      let inner = both_at 8 (λ q2. among ms (Call q1 a q2 v.mark)) (λ q2. pair_in pairs q2 v.last) v.inside v.inside_small (has_among ms (Call q1 a v.inside v.mark) v.call) v.pair in
      let return = has_among ms (Return v.last b v.mark q') v.return in
      let some = both_at 8 (λ q3. by_inner ms pairs a v.mark q1 q3) (λ q3. among ms (Return q3 b v.mark q')) v.last v.last_small inner return in
      some_at 16 (λ m. some_state (λ q3. by_inner ms pairs a m q1 q3 && among ms (Return q3 b m q'))) v.mark v.mark_small some

  true_visit : (pairs a b q1 q' : ℕ) → by_visit ms pairs a b q1 q' ≡ true → Visit pairs a b q1 q'
  true_visit pairs a b q1 q' h =
      let (m, marks, some) = some_from 16 (λ m. some_state (λ q3. by_inner ms pairs a m q1 q3 && among ms (Return q3 b m q'))) h in
      let (q3, last, inner, return) = both_from 8 (λ q3. by_inner ms pairs a m q1 q3) (λ q3. among ms (Return q3 b m q')) some in
      let (q2, inside, call, pair) = both_from 8 (λ q2. among ms (Call q1 a q2 m)) (λ q2. pair_in pairs q2 q3) inner in
      record {
        inside = q2;
        last = q3;
        mark = m;
        inside_small = inside;
        last_small = last;
        mark_small = marks;
        call = among_has ms (Call q1 a q2 m) call;
        pair = pair;
        return = among_has ms (Return q3 b m q') return;
      }

  -- the steps on l lead from T to T', and all of T' is reached so
  pub record Leads (T : Configs) (l : Letter) (T' : Configs) : Type 0 where
    pub into : (q : ℕ) (stack : List ℕ) (q' : ℕ) (stack' : List ℕ) → T q stack → Step ms l q stack q' stack' → T' q' stack'
    pub back : (q' : ℕ) (stack' : List ℕ) → T' q' stack' → (q : ℕ) × (stack : List ℕ) × T q stack × Step ms l q stack q' stack'

module _ (sets : MasksAreSets) (d : Description) (ok : InRange d) where
  abbrev ms : List Move
  ms = d.moves

  abbrev A : Automaton SheetState
  A = sheet_automaton d

  below : (m : Move) → Has ms m → to m < d.states
  below m h = to_below d.states m (has_in_range d.states ms m ok.moves_in h)

  small : (m : Move) → Has ms m → to m < 8
  small m h = let few = ok.few_states in let lt = below m h in omega arith

  mark_small : (q a q' m : ℕ) → Has ms (Call q a q' m) → m < 16
  mark_small q a q' m h = mark_below d.states q a q' m (has_in_range d.states ms (Call q a q' m) ok.moves_in h)

  module _ (E : Configs) (s : SheetState) where
    -- a letter that leaves the stack and goes on by the relation t
    onward_leads : (t : Relation) (l : Letter)
        → ((p q : ℕ) (stack : List ℕ) (q' : ℕ) (stack' : List ℕ) → E p stack → Step ms l q stack q' stack' → (stack ≡ stack') × (q' < 8) × (t q q' ≡ true))
        → ((p q q' : ℕ) (stack : List ℕ) → E p stack → t q q' ≡ true → Step ms l q stack q' stack)
        → Leads ms (Tracked E s) l (Tracked E (onward s t))
    onward_leads t l ahead behind = record {
      into = λ q stack q' stack' h step.
          let (same, lt, is) = ahead h.entry q stack q' stack' h.entered step in
          onward_into sets E s t q q' stack' lt (subst (Tracked E s q) same h) is;
      back = λ q' stack h.
          let (q, tracked, is) = onward_back sets E s t q' stack h in
          (q, stack, tracked, behind tracked.entry q q' stack tracked.entered is);
    }

    pub internal_leads : (a : ℕ) → Leads ms (Tracked E s) (letter.Internal a) (Tracked E (A.internal s (a % 16)))
    internal_leads a = onward_leads (by_internal ms (a % 16)) (letter.Internal a)
        (λ p q stack q' stack' e step. let (same, h) = internal_step ms a q stack q' stack' step in (same, small (Internal q (a % 16) q') h, has_among ms (Internal q (a % 16) q') h))
        (λ p q q' stack e is. Step.internal a q q' stack (among_has ms (Internal q (a % 16) q') is))

    pub pending_leads : (b : ℕ) → ((p : ℕ) (stack : List ℕ) → E p stack → stack ≡ []) → Leads ms (Tracked E s) (letter.Return b) (Tracked E (A.pending s (b % 16)))
    pending_leads b empty = onward_leads (by_pending ms (b % 16)) (letter.Return b)
        (λ p q stack q' stack' e step. ⊎_elim
        (λ pop. let none = empty p stack e in let is = pop.1 in absurd (let no : ◌≡◌ {A = ℕ} 0 1 = cc in omega arith))
        (λ pend. (pend.0, small (Pending q (b % 16) q') pend.2, has_among ms (Pending q (b % 16) q') pend.2))
        (return_step ms b q stack q' stack' step))
        (λ p q q' stack e is. subst (λ st. Step ms (letter.Return b) q st q' st) (sym (empty p stack e)) (Step.pending b q q' (among_has ms (Pending q (b % 16) q') is)))

    -- A call with the name a.
    module _ (a : ℕ) where
      abbrev Inner : Configs
      Inner = Called ms (Tracked E s) a

      called_into : (q : ℕ) (stack : List ℕ) → Inner q stack → Tracked Inner (A.call s a) q stack
      called_into q stack c = fresh_into sets Inner d.states (A.call s a).states ok.few_states q stack (below (Call c.before a q c.mark) c.moves) c

      called_back : (q : ℕ) (stack : List ℕ) → Tracked Inner (A.call s a) q stack → Inner q stack
      called_back = fresh_back sets Inner d.states (A.call s a).states ok.few_states

      pub call_honest : Honest E s → Honest Inner (A.call s a)
      call_honest honest q' lt =
          let t = by_call ms a in
          let step = onward_honest sets E s t honest q' lt in (
            λ h.
                let (stack, after) = step.0 h in
                let (q, tracked, is) = onward_back sets E s t q' stack after in
                let (m, _, move) = some_from 16 (λ m. among ms (Call q a q' m)) is in
                (m ∷ stack, called_into q' (m ∷ stack) (record { before = q; mark = m; rest = stack; pushed = refl; tracked = tracked; moves = among_has ms (Call q a q' m) move })),
            λ h.
                let c = called_back q' h.0 h.1 in
                let is = some_at 16 (λ m. among ms (Call c.before a q' m)) c.mark (mark_small c.before a q' c.mark c.moves) (has_among ms (Call c.before a q' c.mark) c.moves) in
                step.1 (c.rest, onward_into sets E s t c.before q' c.rest lt c.tracked is),
          )

    pub call_leads : (a : ℕ) → Leads ms (Tracked E s) (letter.Call a) (Tracked (Inner (a % 16)) (A.call s (a % 16)))
    call_leads a = record {
      into = λ q stack q' stack' h step.
          let (m, pushed, move) = call_step ms a q stack q' stack' step in
          called_into (a % 16) q' stack' (record { before = q; mark = m; rest = stack; pushed = pushed; tracked = h; moves = move });
      back = λ q' stack' h.
          let c = called_back (a % 16) q' stack' h in
          (c.before, c.rest, c.tracked, subst (Step ms (letter.Call a) c.before c.rest q') (sym c.pushed) (Step.call a c.before q' c.mark c.rest c.moves));
    }

    -- a return move to the state u, which a call with the name a left
    return_into : (u : SheetState) (a b q q' m : ℕ) (stack : List ℕ) → Tracked (Called ms (Tracked E u) a) s q (m ∷ stack) → Has ms (Return q b m q') → Tracked E (A.ret s u a b) q' stack
    return_into u a b q q' m stack h move =
        let c = h.entered in
        let pushed = c.pushed in
        let same : c.rest ≡ stack = cc in
        let mark : m ≡ c.mark = cc in
        onward_into sets E u (by_visit ms s.pairs a b) c.before q' stack (small (Return q b m q') move)
        (subst (Tracked E u c.before) same c.tracked)
        (visit_true ms s.pairs a b c.before q' (record {
          inside = h.entry;
          last = q;
          mark = c.mark;
          inside_small = h.entry_small;
          last_small = h.small;
          mark_small = mark_small c.before a h.entry c.mark c.moves;
          call = c.moves;
          pair = h.pair;
          return = subst (λ k. Has ms (Return q b k q')) mark move;
        }))

    pub return_leads : (u : SheetState) (a b : ℕ) → Leads ms (Tracked (Called ms (Tracked E u) a) s) (letter.Return b) (Tracked E (A.ret s u a (b % 16)))
    return_leads u a b = record {
      into = λ q stack q' stack' h step. ⊎_elim
          (λ pop. return_into u a (b % 16) q q' pop.0 stack' (subst (Tracked (Called ms (Tracked E u) a) s q) pop.1 h) pop.2)
          (λ pend. let pushed = h.entered.pushed in let (same, none, _) = pend in absurd (let no : ◌≡◌ {A = ℕ} 0 1 = cc in omega arith))
          (return_step ms b q stack q' stack' step);
      back = λ q' stack' h.
          let (q1, tracked, is) = onward_back sets E u (by_visit ms s.pairs a (b % 16)) q' stack' h in
          let v = true_visit ms s.pairs a (b % 16) q1 q' is in
          let c : Called ms (Tracked E u) a v.inside (v.mark ∷ stack') = record { before = q1; mark = v.mark; rest = stack'; pushed = refl; tracked = tracked; moves = v.call } in
          (v.last, v.mark ∷ stack', record { entry = v.inside; entered = c; pair = v.pair; entry_small = v.inside_small; small = v.last_small }, Step.ret b v.last v.mark q' stack' v.return);
    }
