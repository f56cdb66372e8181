-- What is printed of a word that is too long.
use Rattle.std.specs.Prelude.{ℕ, cond, List, ◌++◌, codes, decimal, nat_lt}
use Rattle.items.specs.declared.words.TooLong.{TooLong}

abbrev pub too_long_text : TooLong → List ℕ
too_long_text e = cond (nat_lt 1024 e.length)
    (codes "the word has more than " ++ (decimal 1024 ++ codes " letters"))
    (codes "the buffer is too short for " ++ (decimal e.length ++ codes " letters"))
