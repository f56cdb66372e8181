-- How the words of items end.
use Rattle.std.specs.Prelude.{◌≡◌, ℕ, ◌+◌, ◌<◌, cond, ◌&&◌, List, [], ◌∷◌, ◌++◌, length, nat_lt, Option, Some, None}
use Rattle.nested.specs.declared.letter.Letter.{Letter}
use Rattle.nested.specs.declared.letter.Letter.TheVariants.{Call, Return}
use Rattle.items.specs.Words.{Parts, whole, word_parts}
use Rattle.items.specs.declared.making.How.{How}
use Rattle.items.specs.declared.making.How.TheVariants.{Begun, Stepped, Entered, Matched}
use Rattle.items.specs.declared.making.Making.{Making}
use Rattle.items.specs.declared.words.Ending.{Ending}
use Rattle.items.specs.declared.words.Ending.TheVariants.{One, Pair}
use Rattle.items.specs.declared.words.Part.{Part}
use Rattle.items.specs.declared.words.Part.TheVariants.{Whole, Local}

abbrev pub part_of : Part → Parts → List Letter
part_of Whole w = whole w
part_of Local w = w.local

-- this part of item n's word
abbrev pub letters_of : List Making → Part → ℕ → List Letter
letters_of makings p n = part_of p (word_parts makings n)

-- how this part of item n's word ends, by its making; none where it is empty
abbrev pub ending : Part → ℕ → How → Option Ending
ending p n Begun = None
ending p n (Stepped i l) = cond (nat_lt i n) (Some (One i l)) None
ending Whole n (Entered i a) = cond (nat_lt i n) (Some (One i (Call a))) None
ending Local n (Entered i a) = None
ending p n (Matched i j a b) = cond (nat_lt i n && nat_lt j n) (Some (Pair i j a b)) None

module _ (of : ℕ → Parts) (p : Part) (n : ℕ) where
  abbrev word : ℕ → List Letter
  word i = part_of p (of i)

  -- this part of item n's word ends so, from items below n, and is as long as that says
  abbrev pub Ends : Option Ending → Type 0
  Ends None = word n ≡ []
  Ends (Some (One i l)) = (i < n) × (word n ≡ word i ++ l ∷ []) × (length (word n) ≡ length (word i) + 1)
  Ends (Some (Pair i j a b)) = (i < n) × (j < n) × (word n ≡ word i ++ Call a ∷ ((of j).local ++ Return b ∷ [])) × (length (word n) ≡ length (word i) + length (of j).local + 2)
