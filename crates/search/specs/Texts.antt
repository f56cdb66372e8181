-- What is printed of verdicts, and of why no word was written.
use Rattle.std.specs.Prelude.{ℕ, List, codes}
use Rattle.items.specs.Texts.{too_long_text}
use Rattle.search.specs.declared.unwritten.Unwritten.{Unwritten}
use Rattle.search.specs.declared.unwritten.Unwritten.TheVariants.{RowLength, NotFound, TooLong}
use Rattle.search.specs.declared.verdict.Verdict.{Verdict}
use Rattle.search.specs.declared.verdict.Verdict.TheVariants as verdict

abbrev pub verdict_text : Verdict → List ℕ
verdict_text verdict.None = codes "none"
verdict_text verdict.Found = codes "found"
verdict_text verdict.Full = codes "full"
verdict_text verdict.Running = codes "running"

abbrev pub unwritten_text : Unwritten → List ℕ
unwritten_text RowLength = codes "a row is not as long as at opening"
unwritten_text NotFound = codes "no word was found"
unwritten_text (TooLong e) = too_long_text e
