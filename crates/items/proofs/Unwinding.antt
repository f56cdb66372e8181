-- The words of items, by one law.
use Rattle.std.proofs.Common.{◌≡◌, ℕ, zero, suc, ◌<◌, Bool, true, false, cond, ◌&&◌, ltb, List, [], ◌∷◌, ◌++◌, length, get_or, refl, ap, ◌∙◌, ap₂, ⊎_elim, arith}
use Rattle.std.proofs.lemmas.List.{get_or_append_left, get_or_push, length_push}
use Rattle.std.proofs.lemmas.Bool.{and_parts, cases_lt, ltb-true}
use Rattle.nested.specs.declared.letter.Letter.{Letter}
use Rattle.nested.specs.declared.letter.Letter.TheVariants.{Call, Return}
use Rattle.items.specs.Words.{Parts, how_at, no_parts, parts_by, whole, word_parts, words}
use Rattle.items.specs.declared.making.How.{How}
use Rattle.items.specs.declared.making.How.TheVariants.{Begun, Stepped, Entered, Matched}
use Rattle.items.specs.declared.making.Making.{Making}

-- the parts that each rule makes
abbrev pub stepped : Parts → Letter → Parts
stepped w l = record { before = w.before; local = w.local ++ l ∷ [] }

abbrev pub entered : Parts → ℕ → Parts
entered w a = record { before = whole w ++ Call a ∷ []; local = [] }

abbrev pub matched : Parts → Parts → ℕ → ℕ → Parts
matched v w a b = record { before = v.before; local = v.local ++ Call a ∷ (w.local ++ Return b ∷ []) }

-- what stands behind a test need agree only where the test holds
cond_under : {X : Type 0} (t : Bool) (x y d : X) → (t ≡ true → x ≡ y) → cond t x d ≡ cond t y d
cond_under true x y d h = h refl
cond_under false x y d h = refl

-- only the words of the items below n count
parts_below : (f g : ℕ → Parts) (n : ℕ) (how : How) → ((i : ℕ) → i < n → f i ≡ g i) → parts_by f n how ≡ parts_by g n how
parts_below f g n Begun same = refl
parts_below f g n (Stepped i l) same = cond_under (ltb i n) _ _ no_parts
    (λ t. ap (λ w. stepped w l) (same i (ltb-true i n t)))
parts_below f g n (Entered i a) same = cond_under (ltb i n) _ _ no_parts
    (λ t. ap (λ w. entered w a) (same i (ltb-true i n t)))
parts_below f g n (Matched i j a b) same = cond_under (ltb i n && ltb j n) _ _ no_parts
    (λ t. let (first, second) = and_parts (ltb i n) (ltb j n) t in ap₂ (λ v w. matched v w a b) (same i (ltb-true i n first)) (same j (ltb-true j n second)))

module _ (makings : List Making) where
  length_words : (m : ℕ) → length (words makings m) ≡ m
  unfolding words
  length_words zero = refl
  length_words (suc m) = let before = length_words m in let more = length_push (words makings m) (parts_by (λ i. get_or (words makings m) i no_parts) m (how_at makings m)) in omega arith

  -- a word stays as it was made
  words_kept : (m i : ℕ) → i < m → get_or (words makings m) i no_parts ≡ word_parts makings i
  unfolding words
  words_kept zero i lt = absurd (omega arith)
  words_kept (suc m) i lt = ⊎_elim
      (λ below. let long = length_words m in get_or_append_left (words makings m) _ no_parts i (omega arith) ∙ words_kept m i below)
      (λ above. let last : m ≡ i = omega arith in ap (λ n. get_or (words makings (suc n)) i no_parts) last)
      (cases_lt i m)

  -- the word of an item, from those of the items below it
  pub word_parts_law : (n : ℕ) → word_parts makings n ≡ parts_by (word_parts makings) n (how_at makings n)
  unfolding words
  word_parts_law n =
      get_or_push (words makings n) _ no_parts n (length_words n) ∙ parts_below (λ i. get_or (words makings n) i no_parts) (word_parts makings) n (how_at makings n) (words_kept n)
