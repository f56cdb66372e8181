-- Opening: a search that can go on.
use Rattle.std.proofs.Common.{◌≡◌, ◌≤◌, Bool, true, cond, ltb, List, sym, refl, ap, ◌∙◌, subst, arith}
use Rattle.std.proofs.lemmas.Bool.{cond_both, or_right}
use Rattle.nested.specs.Automata.{Automaton}
use Rattle.items.specs.Items.{item}
use Rattle.items.specs.Makings.{first_item}
use Rattle.items.specs.Words.{begun_making}
use Rattle.items.specs.declared.item.Item.{Item}
use Rattle.items.specs.declared.item.Level.TheVariants.{Base}
use Rattle.items.specs.declared.making.How.TheVariants.{Begun}
use Rattle.items.specs.declared.making.Making.{Making}
use Rattle.search.specs.Boards.{Fitting, can_go_on}
use Rattle.search.specs.Model.{Board, candidate, cleared, enter, is_final, listed, opened, places}
use Rattle.search.specs.declared.worklist.Candidate.{Candidate}
use Rattle.search.specs.declared.verdict.Verdict.TheVariants as verdict
use Rattle.search.proofs.Boards.{enter_later}
use Rattle.search.proofs.Entering.{filled, placed}

module _ {S : Type 0} (A : Automaton S) (eq : S → S → Bool) (items : List (Item S)) (makings : List Making) where
  cleared_fits : Fitting (cleared items makings)
  cleared_fits = record { item_length = refl; making_length = refl; few = omega arith }

  opened_few : (opened A eq items makings).at.entered ≤ places (opened A eq items makings).at
  opened_few = (enter_later A eq (cleared items makings) (record { new = first_item A items; made = begun_making }) cleared_fits).fitting.few

  opened_left : can_go_on (opened A eq items makings).at ≡ true
  unfolding enter listed
  opened_left =
      let b = cleared items makings in
      let c : Candidate S = record { new = first_item A items; made = begun_making } in
      cond_both (ltb 0 (places b.at)) (placed A b c) (filled A b) (λ d. can_go_on d.at ≡ true) (λ _. or_right (is_final (cond (A.accepts A.start) verdict.Found verdict.Running)) true refl) (λ _. refl)

  -- once the item of the start state is entered
  module _ (b : Board S) (s : S) (starts : s ≡ A.start) (is : b ≡ enter A eq (cleared items makings) (candidate (item Base s s) Begun)) where
    pub begun : b ≡ opened A eq items makings
    begun = is ∙ ap (λ u. enter A eq (cleared items makings) (candidate (item Base u u) Begun)) starts

    pub begun_few : b.at.entered ≤ places b.at
    begun_few = subst (λ d. d.at.entered ≤ places d.at) (sym begun) opened_few

    pub begun_left : can_go_on b.at ≡ true
    begun_left = subst (λ d. can_go_on d.at ≡ true) (sym begun) opened_left
