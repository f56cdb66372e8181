-- What one call answers, with rows of the lengths at opening.
use Rattle.std.proofs.Common.{◌≡◌, ℕ, zero, suc, ◌+◌, ◌-◌, ◌<◌, ◌≤◌, min, Bool, true, false, cond, ltb, ◌⊎◌, List, [], ◌∷◌, length, Some, None, Ok, Err, vec_items, Option, Result, sym, refl, ap, ◌∙◌, subst, inl, inr, ⊎_elim, arith}
use Rattle.std.proofs.lemmas.Bool.{cases_Bool, cases_lt, cond_both, cond-false, cond-true, ltb-true}
use Rattle.nested.specs.Automata.{Automaton}
use Rattle.nested.specs.Reading.{Satisfies}
use Rattle.nested.specs.declared.letter.Letter.{Letter}
use Rattle.nested.specs.declared.refusal.Refusal.{Refusal}
use Rattle.items.specs.Words.{word_of}
use Rattle.search.specs.Calls.{Advances, GivesWord, is_found, rows_fit, told, word_refusal}
use Rattle.search.specs.Law.{IfAdvanced, IfHanded, IfOpened, RowsRefused, TurnsDone}
use Rattle.search.specs.Model.{Board, candidates, is_final, turn, turns_done}
use Rattle.search.specs.Performing.{GivesWordWith, brings}
use Rattle.search.specs.Promise.{HandsOut, TrueWord}
use Rattle.search.specs.declared.call.Answer.{Answer}
use Rattle.search.specs.declared.call.Answer.TheVariants.{Opened, Advanced, Said, Handed}
use Rattle.search.specs.declared.call.Rows.{Rows}
use Rattle.search.specs.declared.unwritten.Unwritten.{Unwritten}
use Rattle.search.specs.declared.unwritten.Unwritten.TheVariants.{RowLength, NotFound, TooLong}
use Rattle.search.specs.declared.verdict.Verdict.{Verdict}
use Rattle.search.specs.declared.verdict.Verdict.TheVariants as verdict
use Rattle.search.proofs.Entering.{enter_all_grows}

-- what follows from an answer's kind, and from what it says
module _ (P : Result ℕ Refusal → Type 0) where
  pub if_advanced : {X : Type 0} → ((r : Result ℕ Refusal) → P r → X) → (a : Answer) → IfAdvanced P a → X
  if_advanced f (Opened p) is = absurd is
  if_advanced f (Advanced r) is = f r is
  if_advanced f (Said report) is = absurd is
  if_advanced f (Handed r out) is = absurd is

  pub also_advanced : (Q : Result ℕ Refusal → Type 0) → ((r : Result ℕ Refusal) → P r → Q r) → (a : Answer) → IfAdvanced P a → IfAdvanced Q a
  also_advanced Q f (Opened p) is = is
  also_advanced Q f (Advanced r) is = f r is
  also_advanced Q f (Said report) is = is
  also_advanced Q f (Handed r out) is = is

pub also_opened : (P Q : ℕ → Type 0) → ((p : ℕ) → P p → Q p) → (a : Answer) → IfOpened P a → IfOpened Q a
also_opened P Q f (Opened p) is = f p is
also_opened P Q f (Advanced r) is = is
also_opened P Q f (Said report) is = is
also_opened P Q f (Handed r out) is = is

also_handed : (P Q : Result ℕ Unwritten → List ℕ → Type 0) → ((r : Result ℕ Unwritten) (now : List ℕ) → P r now → Q r now) → (a : Answer) → IfHanded P a → IfHanded Q a
also_handed P Q f (Opened p) is = is
also_handed P Q f (Advanced r) is = is
also_handed P Q f (Said report) is = is
also_handed P Q f (Handed r out) is = f r (vec_items out) is

-- what follows either way of a test
module _ (t : Bool) (P Q : Type 0) where
  pub either_way : {X : Type 0} → (t ≡ true → P → X) → (t ≡ false → Q → X) → cond t P Q → X
  either_way f h is = ⊎_elim (λ e. f e (subst (λ u. cond u P Q) e is)) (λ e. h e (subst (λ u. cond u P Q) e is)) (cases_Bool t)

  pub along : (V W : Type 0) → (P → V) → (Q → W) → cond t P Q → cond t V W
  along V W f h = either_way (λ e is. subst (λ u. cond u V W) (sym e) (f is)) (λ e is. subst (λ u. cond u V W) (sym e) (h is))

pub found_from : (v : Verdict) → is_found v ≡ true → v ≡ verdict.Found
found_from verdict.None e = (cc)
found_from verdict.Found e = refl
found_from verdict.Full e = (cc)
found_from verdict.Running e = (cc)

module _ {S : Type 0} where
  -- the rows have the lengths at opening
  abbrev pub OwnRows : Board S → Type 0
  OwnRows b = rows_fit b.at (length b.items) (length b.makings) ≡ true

  -- the word of the item entered last
  abbrev pub own_word : Board S → List Letter
  own_word b = word_of b.makings (b.at.entered - 1)

  -- asking for the word
  module _ (b : Board S) (was : List ℕ) where
    abbrev long : Bool
    long = ltb (min (length was) 1024) (length (own_word b))

    abbrev too_long : List ℕ
    too_long = 5 ∷ (min (length (own_word b)) 1025 ∷ [])

    too_far : long ≡ true → (1024 < length (own_word b)) ⊎ (length was < length (own_word b))
    too_far so = let lt = ltb-true (min (length was) 1024) (length (own_word b)) so in
        ⊎_elim (λ (far : 1024 < length (own_word b)). inl far) (λ (near : length (own_word b) ≤ 1024). inr (omega arith)) (cases_lt 1024 (length (own_word b)))

    module _ (own : OwnRows b) where
      -- where a word was found, it is handed out
      module _ (found : is_found b.at.verdict ≡ true) where
        told_long : (e : List ℕ) → word_refusal b (length was) ≡ Some e → (long ≡ true) × (too_long ≡ e)
        told_long e is = cond_both long (Some too_long) None (λ o. o ≡ Some e → (long ≡ true) × (too_long ≡ e))
            (λ so same. (so, (cc))) (λ _ same. (cc)) (sym (cond-true _ _ _ own ∙ cond-true _ _ _ found) ∙ is)

        pub hands_out : (now : List ℕ) (r : Result ℕ Unwritten) → GivesWord b was now r → HandsOut (own_word b) was now r
        hands_out now (Ok n) (_, written) = (written.count, written.short, written.room, written.buffer)
        hands_out now (Err RowLength) (is, _) = let (_, e) = told_long (told RowLength) is in (cc)
        hands_out now (Err NotFound) (is, _) = let (_, e) = told_long (told NotFound) is in (cc)
        hands_out now (Err (TooLong e)) (is, same) = let (so, tells) = told_long (told (TooLong e)) is in ((cc), too_far so, same)

      -- where none was found, the buffer is as it was
      module _ (A : Automaton S) (none : is_found b.at.verdict ≡ false) where
        told_none : word_refusal b (length was) ≡ Some (told NotFound)
        told_none = cond-true _ _ _ own ∙ cond-false _ _ _ none

        pub hands_none : (now : List ℕ) (r : Result ℕ Unwritten) → GivesWord b was now r → TrueWord A was now r
        hands_none now (Ok n) (is, _) = let e = sym told_none ∙ is in (cc)
        hands_none now (Err RowLength) (is, _) = let e = sym told_none ∙ is in (cc)
        hands_none now (Err NotFound) (is, same) = same
        hands_none now (Err (TooLong long)) (is, _) = let e = sym told_none ∙ is in (cc)

    -- what follows from an answer
    module _ (Q : List ℕ → Result ℕ Unwritten → Type 0) (so : (now : List ℕ) (r : Result ℕ Unwritten) → GivesWord b was now r → Q now r) where
      pub also_word : (other : Option (Rows S)) (a : Answer) → IfHanded (λ r now. GivesWordWith b other was now r) a → IfHanded (λ r now. cond (brings b other) (Q now r) (RowsRefused was r now)) a
      also_word other = also_handed (λ r now. GivesWordWith b other was now r) (λ r now. cond (brings b other) (Q now r) (RowsRefused was r now))
          (λ r now. along (brings b other) (GivesWord b was now r) (RowsRefused was r now) (Q now r) (RowsRefused was r now) (so now r) (λ refused. refused))

  module _ (A : Automaton S) where
    pub true_word : (w : List Letter) → Satisfies A w → (was now : List ℕ) (r : Result ℕ Unwritten) → HandsOut w was now r → TrueWord A was now r
    true_word w satisfies was now (Ok n) is = (w, satisfies, is)
    true_word w satisfies was now (Err RowLength) is = is
    true_word w satisfies was now (Err NotFound) is = absurd is
    true_word w satisfies was now (Err (TooLong e)) is = (w, satisfies, is)

    -- what turns keep, and how many there are at most
    module _ (eq : S → S → Bool) where
      pub record TurnedOn (b c : Board S) (n : ℕ) : Type 0 where
        pub item_row : c.at.item_row ≡ b.at.item_row
        pub making_row : c.at.making_row ≡ b.at.making_row
        pub turns : c.at.turns ≤ b.at.turns + n

      pub turned_on : (n : ℕ) (b : Board S) → TurnedOn b (turns_done A eq n b) n
      unfolding turn turns_done
      turned_on zero b = record { item_row = refl; making_row = refl; turns = omega arith }
      turned_on (suc n) b = cond_both (is_final b.at.verdict) b (turns_done A eq n (turn A eq b)) (λ c. TurnedOn b c (suc n))
          (λ _. record { item_row = refl; making_row = refl; turns = omega arith })
          (λ _.
          let first = enter_all_grows A eq b (candidates A eq b.items b.at.turns) in
          let on = turned_on n (turn A eq b) in
          let same = first.turns in
          let most = on.turns in
          record { item_row = on.item_row ∙ first.item_row; making_row = on.making_row ∙ first.making_row; turns = omega arith })

      pub advances : (b : Board S) → OwnRows b → (n : ℕ) (after : Board S) (r : Result ℕ Refusal) → Advances b A eq n after r → (after ≡ turns_done A eq n b) × TurnsDone n r
      advances b own n after (Ok done) is =
          let most = (turned_on n b).turns in
          let all = ap (λ c. c.at.turns) is.turned in
          let count = is.count in
          (is.turned, omega arith)
      advances b own n after (Err e) (is, _) = let never = sym (cond-true _ _ _ own) ∙ is in (cc)
