-- What entering keeps true of a board, while every candidate follows from the items entered before it.
use Rattle.std.proofs.Common.{◌≡◌, ℕ, ◌+◌, ◌-◌, ◌<◌, ◌≤◌, Bool, true, false, cond, List, [], ◌∷◌, ◌++◌, length, take, set, sym, refl, ap, ◌∙◌, subst, ⊎_elim, arith}
use Rattle.std.specs.List.{AllByRecursion}
use Rattle.std.proofs.lemmas.List.Elements.{All-from_recursion, All-weaker, recursion_from_All}
use Rattle.std.proofs.lemmas.List.{length_push, length-take-le}
use Rattle.std.proofs.lemmas.Bool.{cases_eq, cond-true}
use Rattle.nested.specs.Automata.{Automaton}
use Rattle.items.specs.Makings.{MadeBy, RightMakings, at, first_item}
use Rattle.items.specs.Words.{begun_making}
use Rattle.items.specs.declared.item.Item.{Item}
use Rattle.search.specs.Model.{Board, enter, enter_all, places}
use Rattle.search.specs.declared.worklist.Candidate.{Candidate}
use Rattle.search.specs.Reached.{Lawful, MoreDerivable}
use Rattle.search.specs.declared.verdict.Verdict.TheVariants as verdict
use Rattle.search.proofs.Entering.{Going, Grows, enter_all_grows, enter_grows, enter_ways, filled, grows_placed, placed}
use Rattle.search.proofs.Listing.{listed_is, unlisted_is}
use Rattle.search.proofs.Making.{made_along, more_of, right_more}
use Rattle.search.proofs.Rows.{Distinct, OneMore, distinct_more, push_more, set_more}

-- the present state accepts
abbrev pub accepting : {S : Type 0} → Automaton S → Item S → Bool
accepting A x = A.accepts x.present

-- The entered items stand in the rows, different from each other, with right makings. Only found has one that accepts, the last. Full
-- has more derivable items than places.
pub record Sound {S : Type 0} (A : Automaton S) (b : Board S) : Type 0 where
  pub fits : b.at.entered ≤ places b.at
  pub item_length : length b.items ≡ b.at.item_row
  pub making_length : length b.makings ≡ b.at.making_row
  pub right : RightMakings A b.items b.makings b.at.entered
  pub distinct : Distinct (first_item A b.items) b.items b.at.entered
  pub refuses : (k : ℕ) → k < b.at.entered → accepting A (at A b.items k) ≡ true → b.at.verdict ≡ verdict.Found
  pub found : b.at.verdict ≡ verdict.Found → (0 < b.at.entered) × (accepting A (at A b.items (b.at.entered - 1)) ≡ true)
  pub full : b.at.verdict ≡ verdict.Full → MoreDerivable A (places b.at)

found_accepts : (t : Bool) → cond t verdict.Found verdict.Running ≡ verdict.Found → t ≡ true
found_accepts true e = refl
found_accepts false e = (cc)

never_full : (t : Bool) → cond t verdict.Found verdict.Running ≡ verdict.Full → ⊥
never_full true e = (cc)
never_full false e = (cc)

module _ {S : Type 0} (A : Automaton S) where
  -- x is among the items entered
  abbrev pub Present : Board S → Item S → Type 0
  Present b x = (k : ℕ) × (k < b.at.entered) × (at A b.items k ≡ x)

  pub present_grows : (b c : Board S) (x : Item S) → Grows A b c → Present b x → Present c x
  present_grows b c x g (k, lt, is) = let le = g.entered in (k, omega arith, g.same k lt ∙ is)

  -- the item of a candidate follows from items that are entered
  abbrev pub Follows : Board S → Candidate S → Type 0
  Follows b c = MadeBy A b.items b.at.entered c.made.how c.new

  follows_grows : (b c : Board S) (x : Candidate S) → Grows A b c → Follows b x → Follows c x
  follows_grows b c x g = made_along A b.items c.items b.at.entered c.at.entered x.made.how x.new g.entered g.same

  -- what entering a candidate comes to
  abbrev pub Does : Candidate S → Board S → Type 0
  Does c b = Sound A b × (b.at.verdict ≡ verdict.Running → Present b c.new)

  module _ (b : Board S) (c : Candidate S) (sound : Sound A b) (follows : Follows b c)
      (running : b.at.verdict ≡ verdict.Running)
      (other : (k : ℕ) → k < b.at.entered → at A b.items k ≡ c.new → ⊥) where
    abbrev n : ℕ
    n = b.at.entered

    abbrev first : Item S
    first = first_item A b.items

    unfound : (k : ℕ) → k < n → accepting A (at A b.items k) ≡ true → ⊥
    unfound k lt good = let found = sound.refuses k lt good in (cc)

    placed_does : n < places b.at → Does c (placed A b c)
    placed_does lt =
        let items = set b.items n c.new in
        let more : OneMore first b.items items n c.new = set_more first b.items n c.new (omega arith) in
        let making : OneMore begun_making b.makings (set b.makings n c.made) n c.made = set_more begun_making b.makings n c.made (omega arith) in
        let grows : Grows A b (placed A b c) = grows_placed A b c running lt in (
          record {
            fits = grows.fits sound.fits;
            item_length = grows.item_length ∙ sound.item_length;
            making_length = grows.making_length ∙ sound.making_length;
            right = right_more A b.items items b.makings _ n sound.right c.new c.made more making follows;
            distinct = distinct_more first b.items items n c.new more other sound.distinct;
            refuses = λ k below good. ⊎_elim
                (λ (is : k ≡ n). cond-true (accepting A c.new) verdict.Found verdict.Running (ap (accepting A) (sym (ap (at A items) is ∙ more.last)) ∙ good))
                (λ (less : k ≡ n → ⊥). absurd (unfound k (omega arith) (ap (accepting A) (sym (more.same k (omega arith))) ∙ good)))
                (cases_eq k n);
            found = λ e. let last : n + 1 - 1 ≡ n = omega arith in (omega arith, ap (accepting A) (ap (at A items) last ∙ more.last) ∙ found_accepts (accepting A c.new) e);
            full = λ e. absurd (never_full (accepting A c.new) e);
          },
          λ _. (n, omega arith, more.last),
        )

    filled_does : places b.at ≤ n → Does c (filled A b)
    filled_does le =
        let items = take n b.items ++ c.new ∷ [] in
        let within : n ≤ length b.items = omega arith in
        let more : OneMore first b.items items n c.new = push_more first b.items n c.new within in
        let making : OneMore begun_making b.makings (take n b.makings ++ c.made ∷ []) n c.made = push_more begun_making b.makings n c.made (omega arith) in
        let size = length_push (take n b.items) c.new in
        let taken = length-take-le n b.items within in (
          record {
            fits = sound.fits;
            item_length = sound.item_length;
            making_length = sound.making_length;
            right = sound.right;
            distinct = sound.distinct;
            refuses = λ k below good. absurd (unfound k below good);
            found = λ e. (cc);
            full = λ e. more_of A items _ (n + 1) (places b.at) (omega arith)
                (right_more A b.items items b.makings _ n sound.right c.new c.made more making follows)
                (distinct_more first b.items items n c.new more other sound.distinct)
                (omega arith);
          },
          λ e. (cc),
        )

  module _ (eq : S → S → Bool) (law : Lawful eq) where
    pub enter_does : (b : Board S) (c : Candidate S) → Sound A b → Follows b c → Does c (enter A eq b c)
    enter_does b c sound follows =
        let within : b.at.entered ≤ length b.items = omega arith in
        let d = first_item A b.items in
        enter_ways A eq b c (Does c)
        (λ final. (sound, λ e. (cc)))
        (λ running t. (sound, λ e. listed_is A eq law b.items b.at.entered c.new d within t))
        (λ running t lt. placed_does b c sound follows running (unlisted_is A eq law b.items b.at.entered c.new d within t) lt)
        (λ running t le. filled_does b c sound follows running (unlisted_is A eq law b.items b.at.entered c.new d within t) le)

    -- each of a list of candidates
    pub enter_all_does : (b : Board S) (cs : List (Candidate S)) → Sound A b → AllByRecursion (Follows b) cs
        → Sound A (enter_all A eq b cs) × ((enter_all A eq b cs).at.verdict ≡ verdict.Running → AllByRecursion (λ c. Present (enter_all A eq b cs) c.new) cs)
    unfolding enter_all
    enter_all_does b [] sound follows = (sound, λ e. tt)
    enter_all_does b (c ∷ cs) sound follows =
        let b₁ = enter A eq b c in
        let b₂ = enter_all A eq b₁ cs in
        let (sound₁, in₁) = enter_does b c sound follows.0 in
        let (sound₂, in₂) = enter_all_does b₁ cs sound₁ (recursion_from_All (Follows b₁) cs (All-weaker (Follows b) (Follows b₁) (λ x. follows_grows b b₁ x (enter_grows A eq b c)) cs (All-from_recursion (Follows b) cs follows.1))) in
        let grows = enter_all_grows A eq b₁ cs in
        (sound₂, λ e. (present_grows b₁ b₂ c.new grows (in₁ (sym (grows.still (subst Going (sym e) tt)) ∙ e)), in₂ e))
