-- What the verdicts say.
use Rattle.std.proofs.Common.{◌≡◌, ℕ, zero, suc, ◌-◌, ◌<◌, ◌≤◌, Bool, List, [], ◌∷◌, ◌++◌, length, get_or, take, sym, refl, ap, ◌∙◌, subst, ap₂, mod-eq_of_lt, arith}
use Rattle.nested.specs.Automata.{Automaton}
use Rattle.nested.specs.Reading.{Satisfies, read}
use Rattle.nested.specs.declared.letter.Letter.{Letter}
use Rattle.nested.specs.declared.letter.Letter.TheVariants as letter
use Rattle.items.specs.Items.{Derivable, item}
use Rattle.items.specs.Makings.{MadeBy}
use Rattle.items.specs.Words.{begun_making, no_parts, parts_by, whole, word_of, words}
use Rattle.items.specs.declared.item.Item.{Item}
use Rattle.items.specs.declared.item.Level.{Level}
use Rattle.items.specs.declared.making.How.{How}
use Rattle.items.specs.declared.making.How.TheVariants.{Begun, Stepped, Entered, Matched}
use Rattle.items.specs.declared.making.Making.{Making}
use Rattle.items.proofs.Deriving.{derivable_within, reachable_derivable}
use Rattle.items.proofs.Leading.{word_leads}
use Rattle.search.specs.Model.{Board, places}
use Rattle.search.specs.Reached.{Lawful, MoreDerivable, Reached}
use Rattle.search.specs.declared.verdict.Verdict.TheVariants as verdict
use Rattle.search.proofs.Entering.{Going}
use Rattle.search.proofs.Kept.{Kept, reached_kept}
use Rattle.search.proofs.Making.{call_item, internal_item, more_of, pending_item, return_item}
use Rattle.search.proofs.Rows.{same_front}
use Rattle.search.proofs.Sound.{Present, accepting}

-- what the code of a call may rely on
pub record Ready {S : Type 0} (b : Board S) : Type 0 where
  pub fits : b.at.entered ≤ places b.at
  pub item_length : length b.items ≡ b.at.item_row
  pub making_length : length b.makings ≡ b.at.making_row
  pub behind : b.at.verdict ≡ verdict.Running → b.at.turns < b.at.entered

module _ {S : Type 0} (A : Automaton S) where
  -- Where every item that follows from the entered ones is entered, every derivable one is.
  module _ (b : Board S) (closed : (how : How) (x : Item S) → MadeBy A b.items b.at.entered how x → Present A b x) where
    all_present : (l : Level) (p q : S) → Derivable A l p q → Present A b (item l p q)
    all_present = derivable_within A (λ l p q. Present A b (item l p q))
        (closed Begun _ refl)
        (λ l p q a lt (k, less, is). closed (Stepped k (letter.Internal a)) _ (less, ap₂ (internal_item A) (sym is) (sym (mod-eq_of_lt lt))))
        (λ p q c lt (k, less, is). closed (Stepped k (letter.Return c)) _ (less, ap (λ x. x.level) is, ap₂ (pending_item A) (sym is) (sym (mod-eq_of_lt lt))))
        (λ l p q a lt (k, less, is). closed (Entered k a) _ (less, ap₂ (call_item A) (sym is) (sym (mod-eq_of_lt lt))))
        (λ l p q s a c lt under (j, first, outer) (k, second, inner). closed (Matched j k a c) _ (
          first,
          second,
          ap (λ x. x.level) inner,
          ap (λ x. x.entry) inner ∙ ap₂ (λ x. A.call x.present) (sym outer) (sym (mod-eq_of_lt lt)),
          λ i. return_item A (sym outer i) (sym inner i) (sym (mod-eq_of_lt lt) i) (sym (mod-eq_of_lt under) i),
        ))

  module _ (eq : S → S → Bool) (law : Lawful eq) (b : Board S) (r : ℕ) (reached : Reached A eq b r) where
    kept : Kept A b r
    kept = reached_kept A eq law b r reached

    pub ready : Ready b
    ready = let sound = kept.sound in record { fits = sound.fits; item_length = sound.item_length; making_length = sound.making_length; behind = kept.behind }

    pub said_none : b.at.verdict ≡ verdict.None → (w : List Letter) → Satisfies A w → ⊥
    said_none none w satisfies =
        let closed : (how : How) (x : Item S) → MadeBy A b.items b.at.entered how x → Present A b x = λ how x made.
        kept.closed (subst Going (sym none) tt) how x (subst (λ n. MadeBy A b.items n how x) (sym (kept.ended none)) made) in
        let (l, p, derivable) = reachable_derivable A w in
        let (k, lt, is) = all_present b closed l p (read A w).state derivable in
        let found = kept.sound.refuses k lt (ap (accepting A) is ∙ satisfies) in
        (cc)

    pub said_found : b.at.verdict ≡ verdict.Found → (0 < b.at.entered) × Satisfies A (word_of b.makings (b.at.entered - 1))
    said_found found =
        let (some, good) = kept.sound.found found in
        (some, ap A.accepts (word_leads A b.items b.makings b.at.entered kept.sound.right (b.at.entered - 1) (omega arith)) ∙ good)

    pub said_full : b.at.verdict ≡ verdict.Full → MoreDerivable A (places b.at)
    said_full = kept.sound.full

    pub said_running : b.at.verdict ≡ verdict.Running → MoreDerivable A r
    said_running running =
        let sound = kept.sound in
        let lt = kept.behind running in
        let e = kept.counted running in
        more_of A b.items b.makings b.at.entered r (omega arith) sound.right sound.distinct (omega arith)

-- A word depends only on the makings up to its number.
words_same : (ms ns : List Making) (n : ℕ) → ((k : ℕ) → k < n → get_or ms k begun_making ≡ get_or ns k begun_making) → words ms n ≡ words ns n
unfolding words
words_same ms ns zero same = refl
words_same ms ns (suc n) same =
    ap₂ (λ ws how. ws ++ parts_by (λ i. get_or ws i no_parts) n how ∷ []) (words_same ms ns n (λ k lt. same k (omega arith))) (ap (λ m. m.how) (same n (omega arith)))

-- rows of makings whose first k places are alike
pub word_alike : (ms ns : List Making) (k n : ℕ) → take k ms ≡ take k ns → n < k → word_of ms n ≡ word_of ns n
word_alike ms ns k n alike lt = ap (λ ws. whole (get_or ws n no_parts)) (words_same ms ns (suc n) (λ i less. same_front begun_making ms ns k i alike (omega arith)))
