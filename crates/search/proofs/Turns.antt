-- One turn after another, and the verdict behind a turn.
use Rattle.std.proofs.Common.{◌≡◌, ℕ, zero, suc, ◌+◌, Bool, true, false, cond, eqb, sym, refl, ap, ◌∙◌, subst}
use Rattle.std.proofs.lemmas.Bool.{both_ways, cond_both, cond-false, cond-true, eqb-false, eqb-true}
use Rattle.nested.specs.Automata.{Automaton}
use Rattle.search.specs.Model.{Board, is_final, turn, turns_done}
use Rattle.search.specs.declared.verdict.Verdict.{Verdict}
use Rattle.search.specs.declared.verdict.Verdict.TheVariants as verdict
use Rattle.search.proofs.Entering.{Going, running_from}

module _ {S : Type 0} (A : Automaton S) (eq : S → S → Bool) where
  pub final_stays : (n : ℕ) (b : Board S) → is_final b.at.verdict ≡ true → turns_done A eq n b ≡ b
  unfolding turns_done
  final_stays zero b final = refl
  final_stays (suc n) b final = cond-true (is_final b.at.verdict) b (turns_done A eq n (turn A eq b)) final

  pub turns_done_first : (n : ℕ) (b : Board S) → is_final b.at.verdict ≡ false → turns_done A eq (suc n) b ≡ turns_done A eq n (turn A eq b)
  unfolding turns_done
  turns_done_first n b running = cond-false (is_final b.at.verdict) b (turns_done A eq n (turn A eq b)) running

-- The verdict behind a turn, from the verdict before it is counted.
abbrev pub after : Verdict → ℕ → ℕ → Verdict
after v turns entered = cond (is_final v) v (cond (eqb (turns + 1) entered) verdict.None verdict.Running)

module _ (v : Verdict) (turns entered : ℕ) where
  after_ways : (P : Verdict → Type 0) → (is_final v ≡ true → P v) → (v ≡ verdict.Running → turns + 1 ≡ entered → P verdict.None)
      → (v ≡ verdict.Running → (turns + 1 ≡ entered → ⊥) → P verdict.Running) → P (after v turns entered)
  after_ways P final none on = cond_both (is_final v) _ _ P final (λ e.
      cond_both (eqb (turns + 1) entered) _ _ P
      (λ t. none (running_from v e) (eqb-true (turns + 1) entered t))
      (λ t. on (running_from v e) (eqb-false (turns + 1) entered t)))

  pub after_found : after v turns entered ≡ verdict.Found → v ≡ verdict.Found
  after_found = after_ways (λ w. w ≡ verdict.Found → v ≡ verdict.Found) (λ _ e. e) (λ r _ e. (cc)) (λ r _ e. (cc))

  pub after_full : after v turns entered ≡ verdict.Full → v ≡ verdict.Full
  after_full = after_ways (λ w. w ≡ verdict.Full → v ≡ verdict.Full) (λ _ e. e) (λ r _ e. (cc)) (λ r _ e. (cc))

  pub after_running : after v turns entered ≡ verdict.Running → (v ≡ verdict.Running) × (turns + 1 ≡ entered → ⊥)
  after_running = after_ways (λ w. w ≡ verdict.Running → (v ≡ verdict.Running) × (turns + 1 ≡ entered → ⊥))
      (λ final e. absurd (both_ways true (sym final ∙ ap is_final e) refl)) (λ r _ e. (cc)) (λ r not e. (r, not))

  pub after_none : after v turns entered ≡ verdict.None → (v ≡ verdict.Running) → turns + 1 ≡ entered
  after_none = after_ways (λ w. w ≡ verdict.None → (v ≡ verdict.Running) → turns + 1 ≡ entered)
      (λ _ e r. (cc)) (λ r is e _. is) (λ r _ e _. (cc))

  pub after_going : Going (after v turns entered) → Going v
  after_going = after_ways (λ w. Going w → Going v) (λ _ g. g) (λ r _ g. subst Going (sym r) g) (λ r _ g. subst Going (sym r) g)
