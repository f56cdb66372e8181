-- What is printed of refusals, standings, and codes that are no letter.
use Rattle.std.specs.Prelude.{ℕ, cond, List, [], ◌++◌, codes, decimal}
use Rattle.nested.specs.Following.{number}
use Rattle.nested.specs.declared.letter.NotALetter as letter
use Rattle.nested.specs.declared.refusal.Refusal.{Refusal}
use Rattle.nested.specs.declared.refusal.Refusal.TheVariants.{NotALetter, MarksFull, RowLength}
use Rattle.nested.specs.declared.standing.Standing.{Standing}
use Rattle.nested.specs.declared.standing.Stop.{Stop}

abbrev pub not_a_letter_text : letter.NotALetter → List ℕ
not_a_letter_text e = codes "no letter has the code " ++ decimal e.0

abbrev pub refusal_text : Refusal → List ℕ
refusal_text NotALetter = codes "the code is above 47"
refusal_text MarksFull = codes "every mark place is taken"
refusal_text RowLength = codes "the row of mark places is not as long as at begin"

abbrev pub standing_text : Standing → List ℕ
standing_text s = cond s.accepts [] (codes "not ") ++ (codes "accepted, " ++ (decimal s.«open» ++ codes " open"))

abbrev pub stop_text : Stop → List ℕ
stop_text s = codes "refused " ++ (decimal (number s.refusal) ++ (codes " at letter " ++ decimal s.letter))
