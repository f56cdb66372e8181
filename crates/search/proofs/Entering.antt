-- Entering candidates: what it leaves as it was.
use Rattle.std.proofs.Common.{◌≡◌, ◌+◌, ◌<◌, ◌≤◌, Bool, true, false, cond, ltb, List, [], ◌∷◌, ◌++◌, length, take, set, sym, refl, ap, ◌∙◌, subst, arith}
use Rattle.std.proofs.lemmas.List.{get_or-set_other, length-set}
use Rattle.std.proofs.lemmas.Bool.{cond_both, cond-true, ltb-false, ltb-true}
use Rattle.nested.specs.Automata.{Automaton}
use Rattle.items.specs.Makings.{first_item}
use Rattle.search.specs.Model.{Board, enter, enter_all, is_final, listed, moved_to, places}
use Rattle.search.specs.declared.worklist.Candidate.{Candidate}
use Rattle.search.specs.declared.verdict.Verdict.{Verdict}
use Rattle.search.specs.declared.verdict.Verdict.TheVariants as verdict
use Rattle.search.proofs.Making.{SameItems}

pub running_from : (v : Verdict) → is_final v ≡ false → v ≡ verdict.Running
running_from verdict.None e = (cc)
running_from verdict.Found e = (cc)
running_from verdict.Full e = (cc)
running_from verdict.Running e = refl

-- not found, and not full
abbrev pub Going : Verdict → Type 0
Going verdict.None = Unit {0}
Going verdict.Found = ⊥
Going verdict.Full = ⊥
Going verdict.Running = Unit {0}

found_or_running : (t : Bool) → Going (cond t verdict.Found verdict.Running) → cond t verdict.Found verdict.Running ≡ verdict.Running
found_or_running true going = absurd going
found_or_running false going = refl

-- c is b behind the entering of some candidates
pub record Grows {S : Type 0} (A : Automaton S) (b c : Board S) : Type 0 where
  pub turns : c.at.turns ≡ b.at.turns
  pub item_row : c.at.item_row ≡ b.at.item_row
  pub making_row : c.at.making_row ≡ b.at.making_row
  pub item_length : length c.items ≡ length b.items
  pub making_length : length c.makings ≡ length b.makings
  pub entered : b.at.entered ≤ c.at.entered
  pub fits : b.at.entered ≤ places b.at → c.at.entered ≤ places c.at
  pub same : SameItems A b.items c.items b.at.entered
  pub still : Going c.at.verdict → c.at.verdict ≡ b.at.verdict

module _ {S : Type 0} (A : Automaton S) where
  grows_not : (b : Board S) → Grows A b b
  grows_not b = record {
    turns = refl;
    item_row = refl;
    making_row = refl;
    item_length = refl;
    making_length = refl;
    entered = omega arith;
    fits = λ le. le;
    same = λ k lt. refl;
    still = λ going. refl;
  }

  grows_on : (b c d : Board S) → Grows A b c → Grows A c d → Grows A b d
  grows_on b c d g h = let le = g.entered in let more = h.entered in record {
    turns = h.turns ∙ g.turns;
    item_row = h.item_row ∙ g.item_row;
    making_row = h.making_row ∙ g.making_row;
    item_length = h.item_length ∙ g.item_length;
    making_length = h.making_length ∙ g.making_length;
    entered = omega arith;
    fits = λ le. h.fits (g.fits le);
    same = λ k lt. h.same k (omega arith) ∙ g.same k lt;
    still = λ going. h.still going ∙ g.still (subst Going (h.still going) going);
  }

  -- the item of a candidate at the next place, and the verdict where there is none
  abbrev pub placed : Board S → Candidate S → Board S
  placed b c = record {
    at = moved_to (cond (A.accepts c.new.present) verdict.Found verdict.Running) b.at.turns (b.at.entered + 1) b.at;
    items = set b.items b.at.entered c.new;
    makings = set b.makings b.at.entered c.made;
  }

  abbrev pub filled : Board S → Board S
  filled b = record { at = moved_to verdict.Full b.at.turns b.at.entered b.at; items = b.items; makings = b.makings }

  pub grows_placed : (b : Board S) (c : Candidate S) → b.at.verdict ≡ verdict.Running → b.at.entered < places b.at → Grows A b (placed b c)
  grows_placed b c running lt = record {
    turns = refl;
    item_row = refl;
    making_row = refl;
    item_length = length-set b.items b.at.entered c.new;
    making_length = length-set b.makings b.at.entered c.made;
    entered = omega arith;
    fits = λ le. let room : b.at.entered < places b.at = lt in omega arith;
    same = λ k below. get_or-set_other b.items b.at.entered k c.new (first_item A b.items) (omega arith);
    still = λ going. found_or_running (A.accepts c.new.present) going ∙ sym running;
  }

  grows_filled : (b : Board S) → Grows A b (filled b)
  grows_filled b = record {
    turns = refl;
    item_row = refl;
    making_row = refl;
    item_length = refl;
    making_length = refl;
    entered = omega arith;
    fits = λ le. le;
    same = λ k lt. refl;
    still = λ going. absurd going;
  }

  -- The ways of entering one candidate.
  module _ (eq : S → S → Bool) where
    pub enter_ways : (b : Board S) (c : Candidate S) (P : Board S → Type 0)
        → (is_final b.at.verdict ≡ true → P b)
        → (b.at.verdict ≡ verdict.Running → listed A eq (take b.at.entered b.items) c.new ≡ true → P b)
        → (b.at.verdict ≡ verdict.Running → listed A eq (take b.at.entered b.items) c.new ≡ false → b.at.entered < places b.at → P (placed b c))
        → (b.at.verdict ≡ verdict.Running → listed A eq (take b.at.entered b.items) c.new ≡ false → places b.at ≤ b.at.entered → P (filled b))
        → P (enter A eq b c)
    unfolding enter
    enter_ways b c P final known new full = cond_both (is_final b.at.verdict) _ _ P final (λ e.
        let running = running_from b.at.verdict e in
        cond_both (listed A eq (take b.at.entered b.items) c.new) _ _ P (known running) (λ unlisted.
        cond_both (ltb b.at.entered (places b.at)) _ _ P
        (λ t. new running unlisted (ltb-true b.at.entered (places b.at) t))
        (λ t. full running unlisted (ltb-false b.at.entered (places b.at) t))))

    pub enter_grows : (b : Board S) (c : Candidate S) → Grows A b (enter A eq b c)
    enter_grows b c = enter_ways b c (Grows A b) (λ e. grows_not b) (λ e t. grows_not b) (λ e t lt. grows_placed b c e lt) (λ e t le. grows_filled b)

    pub enter_all_grows : (b : Board S) (cs : List (Candidate S)) → Grows A b (enter_all A eq b cs)
    unfolding enter_all
    enter_all_grows b [] = grows_not b
    enter_all_grows b (c ∷ cs) = grows_on b (enter A eq b c) (enter_all A eq (enter A eq b c) cs) (enter_grows b c) (enter_all_grows (enter A eq b c) cs)

    pub enter_all_append : (b : Board S) (xs ys : List (Candidate S)) → enter_all A eq b (xs ++ ys) ≡ enter_all A eq (enter_all A eq b xs) ys
    unfolding enter_all
    enter_all_append b [] ys = refl
    enter_all_append b (x ∷ xs) ys = enter_all_append (enter A eq b x) xs ys

    pub enter_final : (b : Board S) (c : Candidate S) → is_final b.at.verdict ≡ true → enter A eq b c ≡ b
    unfolding enter
    enter_final b c final = cond-true (is_final b.at.verdict) _ _ final

    pub enter_all_final : (b : Board S) (cs : List (Candidate S)) → is_final b.at.verdict ≡ true → enter_all A eq b cs ≡ b
    unfolding enter_all
    enter_all_final b [] final = refl
    enter_all_final b (c ∷ cs) final = ap (λ d. enter_all A eq d cs) (enter_final b c final) ∙ enter_all_final b cs final
