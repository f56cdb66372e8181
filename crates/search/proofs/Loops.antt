-- Turns, one after the other.
use Rattle.std.proofs.Common.{◌≡◌, ℕ, suc, ◌+◌, ◌-◌, ◌<◌, ◌≤◌, Bool, true, false, cond, eqb, ltb, ◌≢◌, sym, refl, ap, ◌∙◌, subst, ap₂, ⊎_elim, arith}
use Rattle.std.proofs.lemmas.Bool.{both_ways, cases_Bool, cond-false, cond-true, eqb-false, lt-ltb, ltb-true, or_cases, or_left, or_right}
use Rattle.nested.specs.Automata.{Automaton}
use Rattle.search.specs.Boards.{Fitting, board, can_go_on}
use Rattle.search.specs.Model.{Board, after_turn, candidates, enter_all, is_final, moved_to, turn, turn_counted, turns_done}
use Rattle.search.specs.declared.progress.Progress.{Progress}
use Rattle.search.specs.declared.verdict.Verdict.{Verdict}
use Rattle.search.specs.declared.verdict.Verdict.TheVariants as verdict
use Rattle.search.proofs.Turns.{final_stays, turns_done_first}
use Rattle.search.proofs.Boards.{Later, after_all}

-- while the verdict is not final, some item is left
left_running : (p : Progress) → can_go_on p ≡ true → is_final p.verdict ≡ false → p.turns < p.entered
left_running p can running = ⊎_elim
    (λ final. absurd (both_ways (is_final p.verdict) running final))
    (λ lt. ltb-true p.turns p.entered lt)
    (or_cases (is_final p.verdict) (ltb p.turns p.entered) can)

-- a turn that leaves no item has a final verdict
module _ (p : Progress) (left : p.turns < p.entered) where
  abbrev after : Progress
  after = moved_to (after_turn p) (p.turns + 1) p.entered p

  abbrev none_or_running : Verdict
  none_or_running = cond (eqb (p.turns + 1) p.entered) verdict.None verdict.Running

  final_after : is_final (after_turn p) ≡ true → can_go_on after ≡ true
  final_after = or_left (is_final (after_turn p)) (ltb (p.turns + 1) p.entered)

  running_after : is_final p.verdict ≡ false → can_go_on after ≡ true
  running_after running = ⊎_elim
      (λ last. final_after (ap is_final (cond-false (is_final p.verdict) p.verdict none_or_running running ∙ cond-true (eqb (p.turns + 1) p.entered) verdict.None verdict.Running last)))
      (λ more. or_right (is_final (after_turn p)) (ltb (p.turns + 1) p.entered) (lt-ltb (p.turns + 1) p.entered (let other : p.turns + 1 ≢ p.entered = eqb-false (p.turns + 1) p.entered more in omega arith)))
      (cases_Bool (eqb (p.turns + 1) p.entered))

  left_after : can_go_on after ≡ true
  left_after = ⊎_elim
      (λ final. final_after (ap is_final (cond-true (is_final p.verdict) p.verdict none_or_running final) ∙ final))
      running_after
      (cases_Bool (is_final p.verdict))

module _ {S : Type 0} (A : Automaton S) (eq : S → S → Bool) where
  -- turns, from a board that a search can go on from
  module _ (b : Board S) (fit : Fitting b) where
    handled : Later b (enter_all A eq b (candidates A eq b.items b.at.turns))
    handled = after_all A eq b _ (candidates A eq b.items b.at.turns) fit refl

    turn_fits : Fitting (turn A eq b)
    unfolding turn
    turn_fits = record { item_length = handled.fitting.item_length; making_length = handled.fitting.making_length; few = handled.fitting.few }

    turn_count : (turn A eq b).at.turns ≡ b.at.turns + 1
    unfolding turn
    turn_count = ap (λ n. n + 1) handled.turns

    turn_left : b.at.turns < b.at.entered → can_go_on (turn A eq b).at ≡ true
    unfolding turn
    turn_left lt = left_after (enter_all A eq b (candidates A eq b.items b.at.turns)).at (let t = handled.turns in let g = handled.grown in omega arith)

    module _ (h : Board S) (is : h ≡ enter_all A eq b (candidates A eq b.items b.at.turns)) where
      later_handled : Later b h
      later_handled = after_all A eq b h (candidates A eq b.items b.at.turns) fit is

      pub left_handled : b.at.turns < b.at.entered → h.at.turns < h.at.entered
      left_handled lt = let t = later_handled.turns in let g = later_handled.grown in omega arith

      pub turn_made : (v : Verdict) → v ≡ after_turn h.at → board (moved_to v (b.at.turns + 1) h.at.entered h.at) h.items h.makings ≡ turn A eq b
      unfolding turn
      turn_made v says = ap₂ (λ w n. board (moved_to w (n + 1) h.at.entered h.at) h.items h.makings) says (sym later_handled.turns) ∙ ap turn_counted is

  -- After some of n turns: what is left of them leads where all of them do.
  pub record Turned (start : Board S) (n done : ℕ) (b : Board S) : Type 0 where
    pub leads : turns_done A eq n start ≡ turns_done A eq (n - done) b
    pub fitting : Fitting b
    pub left : can_go_on b.at ≡ true
    pub count : b.at.turns ≡ start.at.turns + done

  module _ (start : Board S) (n : ℕ) where
    module _ (done : ℕ) (b : Board S) (t : Turned start n done b) where
      pub turned_more : (b' : Board S) → done < n → is_final b.at.verdict ≡ false → b' ≡ turn A eq b → Turned start n (done + 1) b'
      turned_more b' lt running is = subst (Turned start n (done + 1)) (sym is) (record {
        leads = t.leads ∙ ap (λ k. turns_done A eq k b) (let e : n - done ≡ suc (n - (done + 1)) = omega arith in e) ∙ turns_done_first A eq (n - (done + 1)) b running;
        fitting = turn_fits b t.fitting;
        left = turn_left b t.fitting (left_running b.at t.left running);
        count = turn_count b t.fitting ∙ (let c = t.count in omega arith);
      })

      pub turned_final : is_final b.at.verdict ≡ true → b ≡ turns_done A eq n start
      turned_final final = sym (t.leads ∙ final_stays A eq (n - done) b final)

      pub turned_all : n ≤ done → b ≡ turns_done A eq n start
      unfolding turns_done
      turned_all le = sym (t.leads ∙ ap (λ k. turns_done A eq k b) (let e : n - done ≡ 0 = omega arith in e))
