-- What right makings make: items that are derivable, with words that lead to their present states.
use Rattle.std.proofs.Common.{◌≡◌, ℕ, zero, suc, ◌%◌, ◌<◌, ◌&&◌, ltb, List, [], ◌∷◌, ◌++◌, sym, refl, ap, ◌∙◌, subst, arith}
use Rattle.std.proofs.lemmas.Bool.{and_from, cond-true, lt-ltb}
use Rattle.nested.specs.Automata.{Automaton}
use Rattle.nested.specs.Reading.{Config, begun, read, read_from, read_letter}
use Rattle.nested.specs.declared.letter.Letter.{Letter}
use Rattle.nested.specs.declared.letter.Letter.TheVariants.{Call, Return, Internal}
use Rattle.nested.specs.declared.mark.Mark.{Mark}
use Rattle.nested.proofs.Matching.{read_append}
use Rattle.items.specs.Items.{Derivable, IsDerivable}
use Rattle.items.specs.Makings.{MadeBy, RightMakings, at}
use Rattle.items.specs.Words.{Parts, how_at, no_parts, parts_by, whole, word_of, word_parts}
use Rattle.items.specs.declared.item.Item.{Item}
use Rattle.items.specs.declared.item.Level.{Level}
use Rattle.items.specs.declared.item.Level.TheVariants.{Base, Inner}
use Rattle.items.specs.declared.making.How.{How}
use Rattle.items.specs.declared.making.How.TheVariants.{Begun, Stepped, Entered, Matched}
use Rattle.items.specs.declared.making.Making.{Making}
use Rattle.items.proofs.Deriving.{name_below}
use Rattle.items.proofs.Unwinding.{entered, matched, stepped, word_parts_law}

module _ {S : Type 0} (A : Automaton S) where
  -- what holds of the start with no word, and stays true under each rule, of items with their words
  record Kept (P : Level → S → S → Parts → Type 0) : Type 0 where
    start : P Base A.start A.start no_parts
    internal : (l : Level) (p q : S) (w : Parts) (a : ℕ) → P l p q w → P l p (A.internal q (a % 16)) (stepped w (Internal a))
    pending : (p q : S) (w : Parts) (b : ℕ) → P Base p q w → P Base p (A.pending q (b % 16)) (stepped w (Return b))
    call : (l : Level) (p q : S) (w : Parts) (a : ℕ) → P l p q w → P Inner (A.call q (a % 16)) (A.call q (a % 16)) (entered w a)
    ret : (l : Level) (p q s : S) (v w : Parts) (a b : ℕ) → P l p q v → P Inner (A.call q (a % 16)) s w → P l p (A.ret s q (a % 16) (b % 16)) (matched v w a b)

  module _ (items : List (Item S)) (P : Level → S → S → Parts → Type 0) (kept : Kept P) where
    abbrev Of : Item S → Parts → Type 0
    Of x w = P x.level x.entry x.present w

    -- an item that is made from items below n, each with its word
    made_keeps : (of : ℕ → Parts) (n : ℕ) (how : How) (x : Item S) → ((i : ℕ) → i < n → Of (at A items i) (of i)) → MadeBy A items n how x → Of x (parts_by of n how)
    made_keeps of n Begun x below made = subst (λ y. Of y no_parts) (sym made) kept.start
    made_keeps of n (Stepped i (Internal a)) x below made =
        let w = stepped (of i) (Internal a) in
        let y = at A items i in
        rw (cond-true (ltb i n) w no_parts (lt-ltb i n made.0))
        (subst (λ z. Of z w) (sym made.1) (kept.internal y.level y.entry y.present (of i) a (below i made.0)))
    made_keeps of n (Stepped i (Return b)) x below made =
        let w = stepped (of i) (Return b) in
        let y = at A items i in
        let base : P Base y.entry y.present (of i) = subst (λ l. P l y.entry y.present (of i)) made.1 (below i made.0) in
        rw (cond-true (ltb i n) w no_parts (lt-ltb i n made.0))
        (subst (λ z. Of z w) (sym made.2) (kept.pending y.entry y.present (of i) b base))
    made_keeps of n (Stepped i (Call a)) x below made = absurd made
    made_keeps of n (Entered i a) x below made =
        let w = entered (of i) a in
        let y = at A items i in
        rw (cond-true (ltb i n) w no_parts (lt-ltb i n made.0))
        (subst (λ z. Of z w) (sym made.1) (kept.call y.level y.entry y.present (of i) a (below i made.0)))
    made_keeps of n (Matched i j a b) x below made =
        let (first, second, level, entry, is) = made in
        let w = matched (of i) (of j) a b in
        let y = at A items i in
        let z = at A items j in
        let leveled : P Inner z.entry z.present (of j) = subst (λ l. P l z.entry z.present (of j)) level (below j second) in
        let inner : P Inner (A.call y.present (a % 16)) z.present (of j) = subst (λ e. P Inner e z.present (of j)) entry leveled in
        rw (cond-true (ltb i n && ltb j n) w no_parts (and_from (ltb i n) (ltb j n) (lt-ltb i n first) (lt-ltb j n second)))
        (subst (λ u. Of u w) (sym is) (kept.ret y.level y.entry y.present z.present (of i) (of j) a b (below i first) inner))

    module _ (makings : List Making) (N : ℕ) (right : RightMakings A items makings N) where
      all_keep : (k n : ℕ) → n < k → n < N → Of (at A items n) (word_parts makings n)
      all_keep zero n lt within = absurd (omega arith)
      all_keep (suc k) n lt within =
          subst (Of (at A items n)) (sym (word_parts_law makings n))
          (made_keeps (word_parts makings) n (how_at makings n) (at A items n) (λ i less. all_keep k i (omega arith) (omega arith)) (right n within))

  -- over which marks the local words of a level are good: a base item's may have pending returns
  abbrev Over : Level → List (Mark S) → Type 0
  Over Base ms = ms ≡ []
  Over Inner ms = Unit {0}

  abbrev stands : S → List (Mark S) → Config S
  stands q ms = record { state = q; marks = ms }

  -- The part before leads to the entry state, and the local word from there to the present state, with the marks as they were.
  record Leads (l : Level) (p q : S) (w : Parts) : Type 0 where
    marks : List (Mark S)
    over : Over l marks
    before : read A w.before ≡ stands p marks
    local : (ms : List (Mark S)) → Over l ms → read_from A (stands p ms) w.local ≡ stands q ms

  -- one letter more
  read_on : (c d : Config S) (u : List Letter) (l : Letter) → read_from A c u ≡ d → read_from A c (u ++ l ∷ []) ≡ read_letter A d l
  unfolding read_from
  read_on c d u l e = read_append A c u (l ∷ []) ∙ ap (λ x. read_letter A x l) e

  whole_leads : (l : Level) (p q : S) (w : Parts) (h : Leads l p q w) → read A (whole w) ≡ stands q h.marks
  whole_leads l p q w h = read_append A (begun A) w.before w.local ∙ ap (λ c. read_from A c w.local) h.before ∙ h.local h.marks h.over

  -- a call, the local word of an inner item, and the return that takes back the call's mark
  read_visit : (q s : S) (v w : List Letter) (c : Config S) (ms : List (Mark S)) (a b : ℕ) → read_from A c v ≡ stands q ms
      → ((ns : List (Mark S)) → read_from A (stands (A.call q (a % 16)) ns) w ≡ stands s ns)
      → read_from A c (v ++ Call a ∷ (w ++ Return b ∷ [])) ≡ stands (A.ret s q (a % 16) (b % 16)) ms
  unfolding read_from
  read_visit q s v w c ms a b e inner =
      read_append A c v (Call a ∷ (w ++ Return b ∷ [])) ∙ ap (λ d. read_from A (read_letter A d (Call a)) (w ++ Return b ∷ [])) e
      ∙ read_on _ (stands s (record { state = q; name = a } ∷ ms)) w (Return b) (inner (record { state = q; name = a } ∷ ms))

  leads_kept : Kept Leads
  unfolding read_from
  leads_kept = record {
    start = record { marks = []; over = refl; before = refl; local = λ ms none. refl };
    internal = λ l p q w a h. record {
      marks = h.marks;
      over = h.over;
      before = h.before;
      local = λ ms over. read_on (stands p ms) (stands q ms) w.local (Internal a) (h.local ms over);
    };
    pending = λ p q w b h. record {
      marks = h.marks;
      over = h.over;
      before = h.before;
      local = λ ms none. subst (λ ns. read_from A (stands p ns) (w.local ++ Return b ∷ []) ≡ stands (A.pending q (b % 16)) ns) (sym none)
          (read_on (stands p []) (stands q []) w.local (Return b) (h.local [] refl));
    };
    call = λ l p q w a h. record {
      marks = record { state = q; name = a } ∷ h.marks;
      over = tt;
      before = read_on (begun A) (stands q h.marks) (whole w) (Call a) (whole_leads l p q w h);
      local = λ ms _. refl;
    };
    ret = λ l p q s v w a b h inner. record {
      marks = h.marks;
      over = h.over;
      before = h.before;
      local = λ ms over. read_visit q s v.local w.local (stands p ms) ms a b (h.local ms over) (λ ns. inner.local ns tt);
    };
  }

  derivable_kept : Kept (λ l p q w. Derivable A l p q)
  derivable_kept = record {
    start = Derivable.begun;
    internal = λ l p q w a d. Derivable.internal l p q (a % 16) (name_below a) d;
    pending = λ p q w b d. Derivable.pending p q (b % 16) (name_below b) d;
    call = λ l p q w a d. Derivable.call l p q (a % 16) (name_below a) d;
    ret = λ l p q s v w a b d inner. Derivable.ret l p q s (a % 16) (b % 16) (name_below a) (name_below b) d inner;
  }

  module _ (items : List (Item S)) (makings : List Making) (N : ℕ) (right : RightMakings A items makings N) where
    pub made_derivable : (n : ℕ) → n < N → IsDerivable A (at A items n)
    made_derivable n within = all_keep items (λ l p q w. Derivable A l p q) derivable_kept makings N right (suc n) n (omega arith) within

    -- the word of an item leads to its present state
    pub word_leads : (n : ℕ) → n < N → (read A (word_of makings n)).state ≡ (at A items n).present
    word_leads n within =
        let x = at A items n in
        ap (λ c. c.state) (whole_leads x.level x.entry x.present (word_parts makings n) (all_keep items Leads leads_kept makings N right (suc n) n (omega arith) within))
