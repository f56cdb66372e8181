-- Writing the word of an item to a buffer.
use Rattle.std.specs.Prelude.{◌≡◌, ℕ, ◌<◌, ◌≤◌, min, ◌⊎◌, List, ◌++◌, map, length, drop, Ok, Err, Result}
use Rattle.nested.specs.Letters.{code_of}
use Rattle.nested.specs.declared.letter.Letter.{Letter}
use Rattle.items.specs.Words.{codes_of, word_of}
use Rattle.items.specs.declared.making.Making.{Making}
use Rattle.items.specs.declared.words.TooLong.{TooLong}

module _ (makings : List Making) (number : ℕ) where
  -- the whole word fits, its n codes stand at the front of the buffer, and the rest of the buffer is as it was
  pub record Written (was now : List ℕ) (n : ℕ) : Type 0 where
    pub count : n ≡ length (word_of makings number)
    pub short : n ≤ 1024
    pub room : n ≤ length was
    pub buffer : now ≡ codes_of makings number ++ drop n was

  -- the whole word is longer than 1,024 letters or than the buffer, which is as it was
  pub record Refused (was now : List ℕ) (e : TooLong) : Type 0 where
    pub count : e.length ≡ min (length (word_of makings number)) 1025
    pub long : (1024 < length (word_of makings number)) ⊎ (length was < length (word_of makings number))
    pub buffer : now ≡ was

  -- what writing the word comes to
  abbrev pub Writes : List ℕ → List ℕ → Result ℕ TooLong → Type 0
  Writes was now (Ok n) = Written was now n
  Writes was now (Err e) = Refused was now e

-- the n codes of a word stand at the front of the buffer, and the rest is as it was
pub record Stands (was : List ℕ) (w : List Letter) (now : List ℕ) (n : ℕ) : Type 0 where
  pub count : n ≡ length w
  pub buffer : now ≡ map code_of w ++ drop n was
