-- The words that items stand for, read from their makings.
use Rattle.std.specs.Prelude.{ℕ, zero, suc, cond, ◌&&◌, List, [], ◌∷◌, ◌++◌, map, get_or, nat_lt, slice_index_or}
use Rattle.nested.specs.Letters.{code_of}
use Rattle.nested.specs.declared.letter.Letter.{Letter}
use Rattle.nested.specs.declared.letter.Letter.TheVariants.{Call, Return}
use Rattle.items.specs.declared.making.How.{How}
use Rattle.items.specs.declared.making.How.TheVariants.{Begun, Stepped, Entered, Matched}
use Rattle.items.specs.declared.making.Making.{Making}

-- The word of an item in two parts: what comes up to the latest call that is open, and the local word, what comes behind it.
pub record Parts : Type 0 where
  pub before : List Letter
  pub local : List Letter

abbrev pub no_parts : Parts
no_parts = record { before = []; local = [] }

-- the whole word
abbrev pub whole : Parts → List Letter
whole w = w.before ++ w.local

abbrev pub begun_making : Making
begun_making = record { how = Begun }

-- The word of item n, from those of the items below it. Begun: nothing. Stepped: the letter behind the first item's local word.
-- Entered: the whole word of the item entered from, and the call; the local word is empty. Matched: the first item's local word, the
-- call, the second's local word and the return. A making from an item that is not below n counts as begun.
abbrev pub parts_by : (ℕ → Parts) → ℕ → How → Parts
parts_by of n Begun = no_parts
parts_by of n (Stepped i l) = cond (nat_lt i n) (record { before = (of i).before; local = (of i).local ++ l ∷ [] }) no_parts
parts_by of n (Entered i a) = cond (nat_lt i n) (record { before = whole (of i) ++ Call a ∷ []; local = [] }) no_parts
parts_by of n (Matched i j a b) = cond (nat_lt i n && nat_lt j n) (record { before = (of i).before; local = (of i).local ++ Call a ∷ ((of j).local ++ Return b ∷ []) }) no_parts

module _ (makings : List Making) where
  abbrev pub how_at : ℕ → How
  how_at n = (get_or makings n begun_making).how

  -- the words of the first n items
  unfoldable pub words : ℕ → List Parts
  words zero = []
  words (suc n) = words n ++ parts_by (λ i. get_or (words n) i no_parts) n (how_at n) ∷ []

  abbrev pub word_parts : ℕ → Parts
  word_parts n = slice_index_or (words (suc n)) n no_parts

  -- the whole word of item n
  abbrev pub word_of : ℕ → List Letter
  word_of n = whole (word_parts n)

  -- its letters' codes
  abbrev pub codes_of : ℕ → List ℕ
  codes_of n = map code_of (word_of n)
