-- What entering items does to a board.
use Rattle.std.proofs.Common.{◌≡◌, ℕ, zero, suc, ◌+◌, ◌-◌, ◌<◌, ◌≤◌, Bool, true, false, cond, ltb, List, [], ◌∷◌, ◌++◌, length, get_or, take, set, sym, refl, ap, ◌∙◌, subst, add-zero, suc-add, zero-add, arith}
use Rattle.std.proofs.lemmas.List.{append_assoc, append-nil, get_or_default}
use Rattle.std.proofs.lemmas.Bool.{cond-false, cond-true, le-ltb, lt-ltb}
use Rattle.nested.specs.Automata.{Automaton}
use Rattle.items.specs.Makings.{first_item}
use Rattle.items.specs.declared.item.Item.{Item}
use Rattle.search.specs.Boards.{Fitting}
use Rattle.search.specs.Model.{Board, each, enter, enter_all, is_final, listed, moved_to, places}
use Rattle.search.specs.declared.worklist.Candidate.{Candidate}
use Rattle.search.specs.declared.verdict.Verdict.{Verdict}
use Rattle.search.specs.declared.verdict.Verdict.TheVariants as verdict
use Rattle.search.proofs.Entering.{Grows, enter_all_append, enter_all_final, enter_all_grows, enter_grows, filled, placed}

-- lists joined, the first of them and the rest
module _ {X : Type 0} (f : ℕ → List X) where
  each_split : (from k m : ℕ) → each from (k + m) f ≡ each from k f ++ each (from + k) m f
  unfolding each
  each_split from zero m = ap (λ n. each from n f) (zero-add m) ∙ ap (λ n. each n m f) (sym (add-zero from))
  each_split from (suc k) m =
      let next : suc from + k ≡ from + suc k = omega arith in
      ap (λ n. each from n f) (suc-add k m)
      ∙ ap (λ xs. f from ++ xs) (each_split (suc from) k m ∙ ap (λ n. each (suc from) k f ++ each n m f) next)
      ∙ sym (append_assoc (f from) (each (suc from) k f) (each (from + suc k) m f))

  each_more : (k : ℕ) → each 0 (k + 1) f ≡ each 0 k f ++ f k
  unfolding each
  each_more k = each_split 0 k 1 ∙ ap (λ n. each 0 k f ++ (f n ++ [])) (zero-add k) ∙ ap (λ xs. each 0 k f ++ xs) (append-nil (f k))

  each_rest : (k n : ℕ) → k ≤ n → each 0 n f ≡ each 0 k f ++ each k (n - k) f
  each_rest k n le =
      let sum : n ≡ k + (n - k) = omega arith in
      ap (λ m. each 0 m f) sum ∙ each_split 0 k (n - k) ∙ ap (λ m. each 0 k f ++ each m (n - k) f) (zero-add k)

-- What entering keeps: the turns, the lengths of the rows, and the items entered before.
pub record Later {S : Type 0} (b b' : Board S) : Type 0 where
  pub fitting : Fitting b'
  pub turns : b'.at.turns ≡ b.at.turns
  pub grown : b.at.entered ≤ b'.at.entered
  pub below : (k : ℕ) (d : Item S) → k < b.at.entered → get_or b'.items k d ≡ get_or b.items k d

module _ {S : Type 0} where
  pub later_not : (b : Board S) → Fitting b → Later b b
  later_not b fit = record { fitting = fit; turns = refl; grown = omega arith; below = λ k d lt. refl }

  pub later_more : (a b c : Board S) → Later a b → Later b c → Later a c
  later_more a b c first second = record {
    fitting = second.fitting;
    turns = second.turns ∙ first.turns;
    grown = let f = first.grown in let s = second.grown in omega arith;
    below = λ k d lt. second.below k d (let f = first.grown in omega arith) ∙ first.below k d lt;
  }

  later_grows : (A : Automaton S) (b c : Board S) → Grows A b c → Fitting b → Later b c
  later_grows A b c g fit =
      let room : length b.items ≡ b.at.item_row = fit.item_length in
      let few = fit.few in
      let long = g.item_length in
      record {
        fitting = record {
          item_length = g.item_length ∙ fit.item_length ∙ sym g.item_row;
          making_length = g.making_length ∙ fit.making_length ∙ sym g.making_row;
          few = g.fits fit.few;
        };
        turns = g.turns;
        grown = g.entered;
        below = λ k d lt.
            get_or_default c.items k d (first_item A b.items) (omega arith) ∙ g.same k lt ∙ get_or_default b.items k (first_item A b.items) d (omega arith);
      }

-- the board after an item took the next place, with this verdict
abbrev put_with : {S : Type 0} → Verdict → Board S → Candidate S → Board S
put_with v b c = record {
  at = moved_to v b.at.turns (b.at.entered + 1) b.at;
  items = set b.items b.at.entered c.new;
  makings = set b.makings b.at.entered c.made;
}

module _ {S : Type 0} (A : Automaton S) (eq : S → S → Bool) where
  -- entering one item, by cases
  module _ (b : Board S) (c : Candidate S) where
    abbrev known : Bool
    known = listed A eq (take b.at.entered b.items) c.new

    module _ (running : is_final b.at.verdict ≡ false) where
      enter_running : enter A eq b c ≡ cond known b (cond (ltb b.at.entered (places b.at)) (placed A b c) (filled A b))
      unfolding enter
      enter_running = cond-false (is_final b.at.verdict) b _ running

      pub enter_listed : known ≡ true → enter A eq b c ≡ b
      enter_listed yes_known = enter_running ∙ cond-true known b _ yes_known

      module _ (fresh : known ≡ false) where
        enter_fresh : enter A eq b c ≡ cond (ltb b.at.entered (places b.at)) (placed A b c) (filled A b)
        enter_fresh = enter_running ∙ cond-false known b _ fresh

        pub enter_full : places b.at ≤ b.at.entered → enter A eq b c ≡ filled A b
        enter_full le = enter_fresh ∙ cond-false (ltb b.at.entered (places b.at)) (placed A b c) (filled A b) (le-ltb b.at.entered (places b.at) le)

        pub enter_put : b.at.entered < places b.at → (v : Verdict) → v ≡ cond (A.accepts c.new.present) verdict.Found verdict.Running → put_with v b c ≡ enter A eq b c
        enter_put lt v is = ap (λ w. put_with w b c) is ∙ sym (enter_fresh ∙ cond-true (ltb b.at.entered (places b.at)) (placed A b c) (filled A b) (lt-ltb b.at.entered (places b.at) lt))

    pub enter_later : Fitting b → Later b (enter A eq b c)
    enter_later = later_grows A b (enter A eq b c) (enter_grows A eq b c)

  -- entering several, one after the other
  pub after_all : (start b : Board S) (cs : List (Candidate S)) → Fitting start → b ≡ enter_all A eq start cs → Later start b
  after_all start b cs fit is = subst (Later start) (sym is) (later_grows A start (enter_all A eq start cs) (enter_all_grows A eq start cs) fit)

  pub all_none : (b : Board S) → b ≡ enter_all A eq b []
  unfolding enter_all
  all_none b = refl

  all_one : (b : Board S) (c : Candidate S) → enter A eq b c ≡ enter_all A eq b (c ∷ [])
  unfolding enter_all
  all_one b c = refl

  -- a loop that enters the candidates of each number
  module _ (start b : Board S) (f : ℕ → List (Candidate S)) where
    pub gone_none : start ≡ enter_all A eq start (each 0 0 f)
    unfolding each enter_all
    gone_none = refl

    module _ (i : ℕ) (so_far : b ≡ enter_all A eq start (each 0 i f)) where
      pub gone_more : (b' : Board S) (cs : List (Candidate S)) → b' ≡ enter_all A eq b cs → cs ≡ f i → b' ≡ enter_all A eq start (each 0 (i + 1) f)
      gone_more b' cs after are =
          after ∙ ap (enter_all A eq b) are ∙ ap (λ d. enter_all A eq d (f i)) so_far ∙ sym (enter_all_append A eq start (each 0 i f) (f i)) ∙ ap (enter_all A eq start) (sym (each_more f i))

      pub gone_one : (b' : Board S) (c : Candidate S) → b' ≡ enter A eq b c → c ∷ [] ≡ f i → b' ≡ enter_all A eq start (each 0 (i + 1) f)
      gone_one b' c after is = gone_more b' (c ∷ []) (after ∙ all_one b c) is

      pub gone_final : (n : ℕ) → i ≤ n → is_final b.at.verdict ≡ true → b ≡ enter_all A eq start (each 0 n f)
      gone_final n le final =
          sym (enter_all_final A eq b (each i (n - i) f) final) ∙ ap (λ d. enter_all A eq d (each i (n - i) f)) so_far ∙ sym (enter_all_append A eq start (each 0 i f) (each i (n - i) f)) ∙ ap (enter_all A eq start) (sym (each_rest f i n le))
