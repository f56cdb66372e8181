-- What holds of every search that calls lead to.
use Rattle.std.proofs.Common.{◌≡◌, ℕ, zero, suc, ◌+◌, ◌-◌, ◌<◌, ◌≤◌, Bool, true, List, [], ◌∷◌, length, get_or, sym, refl, ap, ◌∙◌, subst, arith}
use Rattle.std.proofs.lemmas.Bool.{both_ways, cond_both}
use Rattle.nested.specs.Automata.{Automaton}
use Rattle.nested.specs.declared.letter.Letter.TheVariants as letter
use Rattle.items.specs.Items.{Derivable}
use Rattle.items.specs.Makings.{MadeBy, first_item}
use Rattle.items.specs.Words.{begun_making}
use Rattle.items.specs.declared.item.Item.{Item}
use Rattle.items.specs.declared.making.How.{How}
use Rattle.items.specs.declared.making.How.TheVariants.{Begun, Stepped, Entered, Matched}
use Rattle.items.specs.declared.making.Making.{Making}
use Rattle.search.specs.Model.{Board, candidates, cleared, enter_all, is_final, opened, places, turn, turn_counted, turns_done, unopened}
use Rattle.search.specs.declared.worklist.Candidate.{Candidate}
use Rattle.search.specs.Reached.{AsLeft, Lawful, MoreDerivable, Reached}
use Rattle.search.specs.declared.verdict.Verdict.{Verdict}
use Rattle.search.specs.declared.verdict.Verdict.TheVariants as verdict
use Rattle.search.proofs.Entering.{Going, enter_all_grows, enter_grows, running_from}
use Rattle.search.proofs.Making.{SameItems, made_along, right_along}
use Rattle.search.proofs.Rows.{distinct_along, same_front}
use Rattle.search.proofs.Sound.{Present, Sound, accepting, enter_all_does, enter_does, present_grows}
use Rattle.search.proofs.Trying.{candidates_all, candidates_follow}
use Rattle.search.proofs.Turns.{after, after_found, after_full, after_going, after_none, after_running}

-- Between calls, with the turns requested: unless found or full, every item that follows from items handled is entered.
pub record Kept {S : Type 0} (A : Automaton S) (b : Board S) (requested : ℕ) : Type 0 where
  pub sound : Sound A b
  pub closed : Going b.at.verdict → (how : How) (x : Item S) → MadeBy A b.items b.at.turns how x → Present A b x
  pub behind : b.at.verdict ≡ verdict.Running → b.at.turns < b.at.entered
  pub ended : b.at.verdict ≡ verdict.None → b.at.turns ≡ b.at.entered
  pub counted : b.at.verdict ≡ verdict.Running → b.at.turns ≡ requested

-- no more items are handled than entered
handled : (v : Verdict) (turns entered : ℕ) → (v ≡ verdict.Running → turns < entered) → (v ≡ verdict.None → turns ≡ entered) → Going v → turns ≤ entered
handled verdict.None turns entered behind ended going = let e = ended refl in omega arith
handled verdict.Found turns entered behind ended going = absurd going
handled verdict.Full turns entered behind ended going = absurd going
handled verdict.Running turns entered behind ended going = let lt = behind refl in omega arith

module _ {S : Type 0} (A : Automaton S) where
  kept_final : (b : Board S) (r q : ℕ) → is_final b.at.verdict ≡ true → Kept A b r → Kept A b q
  kept_final b r q final kept = record {
    sound = kept.sound;
    closed = kept.closed;
    behind = kept.behind;
    ended = kept.ended;
    counted = λ e. absurd (both_ways true (sym final ∙ ap is_final e) refl);
  }

  -- nothing is entered
  none_sound : (b : Board S) → b.at.entered ≡ 0 → length b.items ≡ b.at.item_row → length b.makings ≡ b.at.making_row
      → (b.at.verdict ≡ verdict.Found → ⊥) → (b.at.verdict ≡ verdict.Full → MoreDerivable A (places b.at)) → Sound A b
  none_sound b none item_length making_length unfound full = record {
    fits = omega arith;
    item_length = item_length;
    making_length = making_length;
    right = λ k lt. absurd (omega arith);
    distinct = λ j k less lt. absurd (omega arith);
    refuses = λ k lt. absurd (omega arith);
    found = λ e. absurd (unfound e);
    full = full;
  }

  new_kept : Kept A (record { at = unopened; items = []; makings = [] }) 0
  new_kept = record {
    sound = none_sound (record { at = unopened; items = []; makings = [] }) refl refl refl
        (λ e. (cc))
        (λ e. record { some = first_item A [] ∷ []; derivable = (Derivable.begun, tt); distinct = λ j k d less lt. absurd (omega arith); more = omega arith });
    closed = λ going. absurd going;
    behind = λ e. (cc);
    ended = λ e. refl;
    counted = λ e. refl;
  }

  -- only rule 1 makes an item from none
  made_of_none : (items : List (Item S)) (n : ℕ) (how : How) (x : Item S) → n ≡ 0 → MadeBy A items n how x → x ≡ first_item A items
  made_of_none items n Begun x e made = made
  made_of_none items n (Stepped i (letter.Internal a)) x e (lt, _) = absurd (omega arith)
  made_of_none items n (Stepped i (letter.Return b)) x e (lt, _, _) = absurd (omega arith)
  made_of_none items n (Stepped i (letter.Call a)) x e made = absurd made
  made_of_none items n (Entered i a) x e (lt, _) = absurd (omega arith)
  made_of_none items n (Matched i j a b) x e (lt, _, _, _, _) = absurd (omega arith)

  -- rows that have the same below the items entered
  module _ (b : Board S) (r : ℕ) (items : List (Item S)) (makings : List Making)
      (item_length : length items ≡ b.at.item_row) (making_length : length makings ≡ b.at.making_row)
      (same : SameItems A b.items items b.at.entered)
      (alike : (k : ℕ) → k < b.at.entered → get_or makings k begun_making ≡ get_or b.makings k begun_making) where
    other_rows_kept : Kept A b r → Kept A (record { at = b.at; items = items; makings = makings }) r
    other_rows_kept kept =
        let sound = kept.sound in
        record {
          sound = record {
            fits = sound.fits;
            item_length = item_length;
            making_length = making_length;
            right = right_along A b.items items b.makings makings b.at.entered sound.right same alike;
            distinct = distinct_along (first_item A items) b.items items b.at.entered same sound.distinct;
            refuses = λ k lt good. sound.refuses k lt (ap (accepting A) (sym (same k lt)) ∙ good);
            found = λ e. let (some, good) = sound.found e in (some, ap (accepting A) (same (b.at.entered - 1) (omega arith)) ∙ good);
            full = sound.full;
          };
          closed = λ going how x made.
              let le = handled b.at.verdict b.at.turns b.at.entered kept.behind kept.ended going in
              let (k, lt, is) = kept.closed going how x (made_along A items b.items b.at.turns b.at.turns how x (omega arith) (λ i less. sym (same i (omega arith))) made) in
              (k, lt, same k lt ∙ is);
          behind = kept.behind;
          ended = kept.ended;
          counted = kept.counted;
        }

  as_left_kept : (b brought : Board S) (r : ℕ) → AsLeft b brought → Kept A b r → Kept A brought r
  as_left_kept b brought r left kept =
      let fits = kept.sound.fits in
      subst (λ p. Kept A (record { at = p; items = brought.items; makings = brought.makings }) r) (sym left.search)
      (other_rows_kept b r brought.items brought.makings left.item_length left.making_length
      (λ k lt. same_front (first_item A []) brought.items b.items (places b.at) k left.items (omega arith))
      (λ k lt. same_front begun_making brought.makings b.makings (places b.at) k left.makings (omega arith))
      kept)

  counted_sound : (c : Board S) → Sound A c → Sound A (turn_counted c)
  counted_sound c sound =
      let v = c.at.verdict in
      let t = c.at.turns in
      let e = c.at.entered in
      record {
        fits = sound.fits;
        item_length = sound.item_length;
        making_length = sound.making_length;
        right = sound.right;
        distinct = sound.distinct;
        refuses = λ k lt good. ap (λ w. after w t e) (sound.refuses k lt good);
        found = λ is. sound.found (after_found v t e is);
        full = λ is. sound.full (after_full v t e is);
      }

  module _ (eq : S → S → Bool) (law : Lawful eq) where
    opened_kept : (items : List (Item S)) (makings : List Making) → Kept A (opened A eq items makings) 0
    opened_kept items makings =
        let b = cleared items makings in
        let c : Candidate S = record { new = first_item A items; made = begun_making } in
        let grows = enter_grows A eq b c in
        let o = opened A eq items makings in
        let before : Sound A b = none_sound b refl refl refl (λ e. (cc)) (λ e. (cc)) in
        let (sound, present) = enter_does A eq law b c before refl in
        record {
          sound = sound;
          closed = λ going how x made. subst (Present A o) (sym (made_of_none o.items o.at.turns how x grows.turns made)) (present (grows.still going));
          behind = λ e. let (k, lt, _) = present e in let none = grows.turns in omega arith;
          ended = λ e. let is = grows.still (subst Going (sym e) tt) in (cc);
          counted = λ e. grows.turns;
        }

    turn_kept : (b : Board S) (r : ℕ) → b.at.verdict ≡ verdict.Running → Kept A b r → Kept A (turn A eq b) (r + 1)
    unfolding turn
    turn_kept b r running kept =
        let t = b.at.turns in
        let cs = candidates A eq b.items t in
        let c = enter_all A eq b cs in
        let lt = kept.behind running in
        let counted = kept.counted running in
        let grows = enter_all_grows A eq b cs in
        let more = grows.entered in
        let turns = grows.turns in
        let (sound, present) = enter_all_does A eq law b cs kept.sound (candidates_follow A eq law b.items b.at.entered t lt) in
        let v = c.at.verdict in
        let still : Going v → v ≡ verdict.Running = λ going. grows.still going ∙ running in
        record {
          sound = counted_sound c sound;
          closed = λ going how x made.
              let entered = present (still (after_going v c.at.turns c.at.entered going)) in
              let from_start : MadeBy A b.items (t + 1) how x = made_along A c.items b.items (c.at.turns + 1) (t + 1) how x (omega arith) (λ k below. sym (grows.same k (omega arith))) made in
              candidates_all A eq law b.items (Present A c) t entered how x (λ old. present_grows A b c x grows (kept.closed (subst Going (sym running) tt) how x old)) from_start;
          behind = λ e. let (_, not) = after_running v c.at.turns c.at.entered e in omega arith;
          ended = λ e. after_none v c.at.turns c.at.entered e (still (after_going v c.at.turns c.at.entered (subst Going (sym e) tt)));
          counted = λ e. omega arith;
        }

    turns_kept : (n : ℕ) (b : Board S) (r : ℕ) → Kept A b r → Kept A (turns_done A eq n b) (r + n)
    unfolding turns_done
    turns_kept zero b r kept = subst (Kept A b) (let e : r ≡ r + 0 = omega arith in e) kept
    turns_kept (suc n) b r kept = cond_both (is_final b.at.verdict) b (turns_done A eq n (turn A eq b)) (λ c. Kept A c (r + suc n))
        (λ final. kept_final b r (r + suc n) final kept)
        (λ e. subst (Kept A (turns_done A eq n (turn A eq b))) (let e : r + 1 + n ≡ r + suc n = omega arith in e) (turns_kept n (turn A eq b) (r + 1) (turn_kept b r (running_from b.at.verdict e) kept)))

    pub reached_kept : (b : Board S) (r : ℕ) → Reached A eq b r → Kept A b r
    reached_kept b r Reached.new = new_kept
    reached_kept b r (Reached.open_again _ _ items makings _) = opened_kept items makings
    reached_kept b r (Reached.advance from brought requested n reached left) =
        turns_kept n brought requested (as_left_kept from brought requested left (reached_kept from requested reached))
