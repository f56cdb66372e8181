-- What the calls of a search promise.
use Rattle.std.proofs.Common.{◌≡◌, ℕ, ◌+◌, Bool, true, List, length, Result, sym, refl, ap, ◌∙◌, subst, ⊎_elim}
use Rattle.std.proofs.lemmas.Bool.{and_from, cases_Bool, eq-eqb}
use Rattle.nested.specs.Automata.{Automaton}
use Rattle.items.specs.Words.{word_of}
use Rattle.items.specs.declared.item.Item.{Item}
use Rattle.items.specs.declared.making.Making.{Making}
use Rattle.search.specs.Boards.{board}
use Rattle.search.specs.Calls.{GivesWord, is_found, last_item, rows_fit}
use Rattle.search.specs.Model.{Board, opened, turns_done}
use Rattle.search.specs.Promise.{FoundWord, GoesOn, HandsOut, HandsTruly, SaysTruly, TrueWord}
use Rattle.search.specs.Reached.{AsLeft, Lawful, Reached}
use Rattle.search.specs.declared.progress.Progress.{Progress}
use Rattle.search.specs.declared.unwritten.Unwritten.{Unwritten}
use Rattle.search.specs.declared.verdict.Verdict.TheVariants as verdict
use Rattle.search.proofs.Answering.{found_from, hands_none, hands_out, true_word}
use Rattle.search.proofs.Going.{holds}

pub says_truly : (S : Type 0) (p : Progress) → SaysTruly S p p.verdict
says_truly S p A eq law items makings requested reached = holds A eq law (board p items makings) requested reached p.verdict refl

module _ {S : Type 0} (brought : Board S) (was now : List ℕ) (A : Automaton S) (eq : S → S → Bool) (law : Lawful eq) (b : Board S) (requested : ℕ) (reached : Reached A eq b requested) (left : AsLeft b brought) where
  fit : rows_fit brought.at (length brought.items) (length brought.makings) ≡ true
  fit = and_from _ _
      (eq-eqb (length brought.items) brought.at.item_row (left.item_length ∙ ap (λ p. p.item_row) (sym left.search)))
      (eq-eqb (length brought.makings) brought.at.making_row (left.making_length ∙ ap (λ p. p.making_row) (sym left.search)))

  found : is_found brought.at.verdict ≡ true → FoundWord A eq b
  found e = holds A eq law b requested reached verdict.Found (ap (λ p. p.verdict) (sym left.search) ∙ found_from brought.at.verdict e)

  the_word : (e : is_found brought.at.verdict ≡ true) → word_of brought.makings (last_item brought) ≡ (found e).word
  the_word e = (found e).handed b brought (GoesOn.here b) left

  truly : (r : Result ℕ Unwritten) → GivesWord brought was now r → TrueWord A was now r
  truly r given = ⊎_elim
      (λ e. true_word A (found e).word (found e).satisfies was now r (subst (λ w. HandsOut w was now r) (the_word e) (hands_out brought was fit e now r given)))
      (λ e. hands_none brought was fit A e now r given)
      (cases_Bool (is_found brought.at.verdict))

pub hands_truly : {S : Type 0} (brought : Board S) (was now : List ℕ) (r : Result ℕ Unwritten) → GivesWord brought was now r → HandsTruly brought was now r
hands_truly brought was now r given A eq law b requested reached left = truly brought was now A eq law b requested reached left r given

module _ {S : Type 0} (A : Automaton S) (eq : S → S → Bool) where
  pub opens_on : (before : Progress) (items : List (Item S)) (makings : List Making) (after : Board S) → after ≡ opened A eq items makings → (was : List (Item S)) (were : List Making) (requested : ℕ) → Reached A eq (board before was were) requested → Reached A eq after 0
  opens_on before items makings after is was were requested reached = subst (λ d. Reached A eq d 0) (sym is) (Reached.open_again (board before was were) requested items makings reached)

  pub advances_on : (brought after : Board S) (n : ℕ) → after ≡ turns_done A eq n brought → (b : Board S) (requested : ℕ) → Reached A eq b requested → AsLeft b brought → Reached A eq after (requested + n)
  advances_on brought after n is b requested reached left = subst (λ d. Reached A eq d (requested + n)) (sym is) (Reached.advance b brought requested n reached left)
