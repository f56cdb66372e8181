-- Letters and their codes.
use Rattle.std.specs.Prelude.{◌≡◌, ℕ, ◌+◌, ◌-◌, ◌%◌, ◌<◌, ◌≤◌, cond, List, map, Some, None, Option, Result, MatchResult, nat_lt, ok_or}
use Rattle.nested.specs.declared.letter.Letter.{Letter}
use Rattle.nested.specs.declared.letter.Letter.TheVariants.{Call, Return, Internal}
use Rattle.nested.specs.declared.letter.NotALetter.{NotALetter}

-- the number of a letter's name, as it stands in the letter
abbrev pub name_of : Letter → ℕ
name_of (Call a) = a
name_of (Return b) = b
name_of (Internal a) = a

-- a letter's code: the name for a call, 16 plus the name for a return, 32 plus the name for an internal letter;
-- a name above 15 counts as its remainder by 16
abbrev pub code_of : Letter → ℕ
code_of (Call a) = a % 16
code_of (Return b) = 16 + b % 16
code_of (Internal a) = 32 + a % 16

-- the letter that a code from 0 to 47 stands for
abbrev pub letter_of : ℕ → Letter
letter_of n = cond (nat_lt n 16) (Call n) (cond (nat_lt n 32) (Return (n - 16)) (Internal (n - 32)))

-- the letter of any code: one above 47 is no letter
abbrev pub letter_at : ℕ → Option Letter
letter_at n = cond (nat_lt n 48) (Some (letter_of n)) None

-- What reading a code as a letter gives: the letter, whose code is this one; or an error that holds the code, one above 47.
pub record ReadsCode (code : ℕ) (r : Result Letter NotALetter) : Type 0 where
  pub value : r ≡ ok_or (letter_at code) (record { 0 = code })
  pub undone : MatchResult r (λ l. code_of l ≡ code) (λ e. (e.0 ≡ code) × (47 < code))

-- n is the code of the letter l, and read back it is l again, if the name of l is one from 0 to 15
pub record IsCodeOf (l : Letter) (n : ℕ) : Type 0 where
  pub value : n ≡ code_of l
  pub letter : n ≤ 47
  pub undone : name_of l < 16 → letter_at n ≡ Some l

-- the word that a list of codes from 0 to 47 spells
abbrev pub letters : List ℕ → List Letter
letters = map letter_of
