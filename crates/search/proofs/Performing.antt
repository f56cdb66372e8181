-- Lists of calls, performed one after the other: what they answer is true.
use Rattle.std.proofs.Common.{◌≡◌, ℕ, ◌+◌, Bool, cond, List, [], ◌∷◌, ◌++◌, vec_items, Option, Result, sym, refl, ap, ◌∙◌, subst, ap₂, ⊎_elim}
use Rattle.std.proofs.lemmas.List.{append_assoc, append-nil}
use Rattle.std.proofs.lemmas.Bool.{and_from, cases_Bool, cond-false, cond-true, eq-eqb}
use Rattle.nested.specs.Automata.{Automaton}
use Rattle.nested.specs.declared.refusal.Refusal.{Refusal}
use Rattle.items.specs.Makings.{first_item}
use Rattle.items.specs.Words.{begun_making}
use Rattle.search.specs.Calls.{Advances, GivesWord, is_found}
use Rattle.search.specs.Law.{IfSaid, Law, Since, Stays, TrueAnswer, TrueVerdict, TurnsDone, TurnsRefused, at_first, behind, room}
use Rattle.search.specs.Model.{Board, cleared, is_final, opened, places, unopened}
use Rattle.search.specs.Performing.{AdvancesWith, Answered, brings}
use Rattle.search.specs.Promise.{HandsOut, TrueWord}
use Rattle.search.specs.Reached.{AsLeft, Lawful, Reached}
use Rattle.search.specs.declared.call.Answer.{Answer}
use Rattle.search.specs.declared.call.Call.{Call}
use Rattle.search.specs.declared.call.Call.TheVariants as call
use Rattle.search.specs.declared.call.Rows.{Rows}
use Rattle.search.specs.declared.unwritten.Unwritten.{Unwritten}
use Rattle.search.specs.declared.verdict.Verdict.{Verdict}
use Rattle.search.specs.declared.verdict.Verdict.TheVariants as verdict
use Rattle.search.proofs.Answering.{OwnRows, advances, along, also_advanced, also_opened, also_word, either_way, found_from, hands_none, hands_out, if_advanced, own_word, true_word, turned_on}
use Rattle.search.proofs.Entering.{enter_grows}
use Rattle.search.proofs.Said.{ready, said_found, said_full, said_none, said_running}
use Rattle.search.proofs.Turns.{final_stays}

module _ {S : Type 0} (A : Automaton S) (eq : S → S → Bool) where
  -- Each call has its answer, and each goes on from what the one before it left.
  unfoldable pub Performed : Board S → List (Call S) → List Answer → Type 0
  Performed b [] [] = Unit {0}
  Performed b [] (a ∷ rs) = ⊥
  Performed b (c ∷ cs) [] = ⊥
  Performed b (c ∷ cs) (a ∷ rs) = (after : Board S) × Answered b A eq c a after × Performed after cs rs

  performed_from : (b after : Board S) (cs : List (Call S)) (rs : List Answer) → after ≡ b → Performed after cs rs → Performed b cs rs
  performed_from b after cs rs = subst (λ d. Performed d cs rs)

  -- a new search, with empty rows
  abbrev at_start : Board S
  at_start = record { at = unopened; items = []; makings = [] }

  -- what came since the latest opening of a search
  abbrev pub since : Board S → ℕ → Since
  since b r = record { items = b.at.item_row; makings = b.at.making_row; requested = r }

  opened_since : (s : Since) (rows : Rows S) → since (opened A eq (vec_items rows.items) (vec_items rows.makings)) 0 ≡ behind s (call.Open rows)
  opened_since s rows =
      let items = vec_items rows.items in
      let makings = vec_items rows.makings in
      let grows = enter_grows A eq (cleared items makings) (record { new = first_item A items; made = begun_making }) in
      ap₂ (λ n m. record { items = n; makings = m; requested = 0 }) (grows.item_row ∙ sym rows.items.ok.0) (grows.making_row ∙ sym rows.makings.ok.0)

  -- up to the next opening a search with the verdict found stays as it is
  module _ (b : Board S) (own : OwnRows b) (found : b.at.verdict ≡ verdict.Found) where
    unmoved : (n : ℕ) (after : Board S) (r : Result ℕ Refusal) → Advances b A eq n after r → after ≡ b
    unmoved n after r is = let (turned, _) = advances A eq b own n after r is in turned ∙ final_stays A eq n b (ap is_final found)

    unmoved_with : (n : ℕ) (other : Option (Rows S)) (after : Board S) (r : Result ℕ Refusal) → AdvancesWith b A eq n other after r → after ≡ b
    unmoved_with n other after r = either_way (brings b other) (Advances b A eq n after r) ((after ≡ b) × TurnsRefused r) (λ _ is. unmoved n after r is) (λ _ (same, _). same)

    hands : (was now : List ℕ) (r : Result ℕ Unwritten) → GivesWord b was now r → HandsOut (own_word b) was now r
    hands was = hands_out b was own (ap is_found found)

    stays : (r : ℕ) (cs : List (Call S)) (rs : List Answer) → Performed b cs rs → Stays (own_word b) (since b r) cs rs
    unfolding Performed Stays
    stays r [] rs all = tt
    stays r (c ∷ cs) [] all = tt
    stays r (call.Open rows ∷ cs) (a ∷ rs) all = tt
    stays r (call.Advance n other ∷ cs) (a ∷ rs) (after, is, on) =
        stays r cs rs (performed_from b after cs rs (if_advanced (AdvancesWith b A eq n other after) (unmoved_with n other after) a is) on)
    stays r (call.Verdict ∷ cs) (a ∷ rs) (after, (same, is), on) =
        (subst (IfSaid (λ v. v ≡ verdict.Found)) (sym is) found, stays r cs rs (performed_from b after cs rs same on))
    stays r (call.Word buffer other ∷ cs) (a ∷ rs) (after, (same, is), on) =
        let was = vec_items buffer in
        (also_word b was (HandsOut (own_word b) was) (hands was) other a is, stays r cs rs (performed_from b after cs rs same on))

  -- calls lead to this search, with what came since the latest opening
  record SinceReached (after : Board S) (s : Since) : Type 0 where
    requested : ℕ
    reached : Reached A eq after requested
    is : since after requested ≡ s

  -- one call of a search that calls lead to
  module _ (law : Lawful eq) (b : Board S) (r : ℕ) (reached : Reached A eq b r) where
    own_rows : OwnRows b
    own_rows = let rows = ready A eq law b r reached in and_from _ _ (eq-eqb _ _ rows.item_length) (eq-eqb _ _ rows.making_length)

    own_left : AsLeft b b
    own_left = let rows = ready A eq law b r reached in record { search = refl; item_length = rows.item_length; making_length = rows.making_length; items = refl; makings = refl }

    -- its answer is true
    says_word : (was now : List ℕ) (answer : Result ℕ Unwritten) → GivesWord b was now answer → TrueWord A was now answer
    says_word was now answer is = ⊎_elim
        (λ found. let (_, satisfies) = said_found A eq law b r reached (found_from b.at.verdict found) in true_word A (own_word b) satisfies was now answer (hands_out b was own_rows found now answer is))
        (λ none. hands_none b was own_rows A none now answer is)
        (cases_Bool (is_found b.at.verdict))

    says_verdict : (cs : List (Call S)) (rs : List Answer) → Performed b cs rs → (v : Verdict) → b.at.verdict ≡ v → TrueVerdict A (since b r) cs rs v
    says_verdict cs rs on verdict.None is = said_none A eq law b r reached is
    says_verdict cs rs on verdict.Found is = let (_, satisfies) = said_found A eq law b r reached is in (own_word b, satisfies, stays b own_rows is r cs rs on)
    says_verdict cs rs on verdict.Full is = said_full A eq law b r reached is
    says_verdict cs rs on verdict.Running is = said_running A eq law b r reached is

    says_turns : (n : ℕ) (after : Board S) (answer : Result ℕ Refusal) → Advances b A eq n after answer → TurnsDone n answer
    says_turns n after answer is = let (_, most) = advances A eq b own_rows n after answer is in most

    true_answer : (cs : List (Call S)) (rs : List Answer) (c : Call S) (a : Answer) (after : Board S) → Answered b A eq c a after → Performed after cs rs → TrueAnswer A (since b r) cs rs c a
    true_answer cs rs (call.Open rows) a after (is, says) on =
        let s = since b r in
        also_opened (λ p. p ≡ places after.at) (λ p. p ≡ room (behind s (call.Open rows))) (λ p e. e ∙ ap (λ d. places d.at) is ∙ ap room (opened_since s rows)) a says
    true_answer cs rs (call.Advance n other) a after is on =
        let t = brings b other in
        also_advanced (AdvancesWith b A eq n other after) (λ answer. cond t (TurnsDone n answer) (TurnsRefused answer))
        (λ answer. along t (Advances b A eq n after answer) ((after ≡ b) × TurnsRefused answer) (TurnsDone n answer) (TurnsRefused answer) (says_turns n after answer) (λ (_, refused). refused)) a is
    true_answer cs rs call.Verdict a after (same, is) on =
        subst (IfSaid (TrueVerdict A (since b r) cs rs)) (sym is) (says_verdict cs rs (performed_from b after cs rs same on) b.at.verdict refl)
    true_answer cs rs (call.Word buffer other) a after (same, is) on = let was = vec_items buffer in also_word b was (TrueWord A was) (says_word was) other a is

    -- calls lead to what it leaves behind
    reached_same : (after : Board S) → after ≡ b → SinceReached after (since b r)
    reached_same after same = record { requested = r; reached = subst (λ d. Reached A eq d r) (sym same) reached; is = ap (λ d. since d r) same }

    reached_turns : (n : ℕ) (after : Board S) (answer : Result ℕ Refusal) → Advances b A eq n after answer → SinceReached after (since b (r + n))
    reached_turns n after answer is =
        let (turned, _) = advances A eq b own_rows n after answer is in
        let kept = turned_on A eq n b in
        record {
          requested = r + n;
          reached = subst (λ d. Reached A eq d (r + n)) (sym turned) (Reached.advance b b r n reached own_left);
          is = ap (λ d. since d (r + n)) turned ∙ ap₂ (λ items makings. record { items = items; makings = makings; requested = r + n }) kept.item_row kept.making_row;
        }

    reached_behind : (c : Call S) (a : Answer) (after : Board S) → Answered b A eq c a after → SinceReached after (behind (since b r) c)
    reached_behind (call.Open rows) a after (is, _) = record {
      requested = 0;
      reached = subst (λ d. Reached A eq d 0) (sym is) (Reached.open_again b r (vec_items rows.items) (vec_items rows.makings) reached);
      is = ap (λ d. since d 0) is ∙ opened_since (since b r) rows;
    }
    reached_behind (call.Advance n other) a after is =
        if_advanced (AdvancesWith b A eq n other after) (λ answer. either_way (brings b other) (Advances b A eq n after answer) ((after ≡ b) × TurnsRefused answer)
        (λ e given. subst (SinceReached after) (sym (cond-true (brings b other) _ _ e)) (reached_turns n after answer given))
        (λ e (same, _). subst (SinceReached after) (sym (cond-false (brings b other) _ _ e)) (reached_same after same))) a is
    reached_behind call.Verdict a after (same, _) = reached_same after same
    reached_behind (call.Word buffer other) a after (same, _) = reached_same after same

  module _ (law : Lawful eq) where
    -- the law, from any search that calls lead to
    pub performed_law : (cs : List (Call S)) (rs : List Answer) (b : Board S) (r : ℕ) → Reached A eq b r → Performed b cs rs → Law A (since b r) cs rs
    unfolding Law Performed
    performed_law [] [] b r reached all = tt
    performed_law [] (a ∷ rs) b r reached all = all
    performed_law (c ∷ cs) [] b r reached all = all
    performed_law (c ∷ cs) (a ∷ rs) b r reached (after, is, on) =
        let next = reached_behind law b r reached c a after is in
        (true_answer law b r reached cs rs c a after is on, subst (λ s. Law A s cs rs) next.is (performed_law cs rs after next.requested next.reached on))

  -- Whatever answers the calls that are left, from this search on, with the answers so far it answers all calls from a new search.
  abbrev pub Leads : List (Call S) → List Answer → Board S → List (Call S) → Type 0
  Leads all so_far b left = (rs : List Answer) → Performed b left rs → Performed at_start all (so_far ++ rs)

  module _ (all : List (Call S)) (so_far : List Answer) (b : Board S) (left : List (Call S)) (leads : Leads all so_far b left) where
    pub leads_more : (c : Call S) (rest : List (Call S)) → left ≡ c ∷ rest → (a : Answer) (after : Board S) → Answered b A eq c a after → (more : List Answer) → more ≡ so_far ++ a ∷ [] → Leads all more after rest
    unfolding Performed
    leads_more c rest next a after is more pushed rs on =
        let joined = ap (λ xs. xs ++ rs) pushed ∙ append_assoc so_far (a ∷ []) rs in
        subst (Performed at_start all) (sym joined) (leads (a ∷ rs) (subst (λ cs. Performed b cs (a ∷ rs)) (sym next) (after, is, on)))

    pub leads_law : Lawful eq → left ≡ [] → Law A at_first all so_far
    unfolding Performed
    leads_law law none =
        let performed = subst (Performed at_start all) (append-nil so_far) (leads [] (subst (λ cs. Performed b cs []) (sym none) tt)) in
        performed_law law all so_far at_start 0 Reached.new performed
