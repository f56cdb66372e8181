-- What asking a whole question comes to.
use Rattle.std.specs.Prelude.{◌≡◌, ℕ, List, Err, Result}
use Rattle.nested.specs.Automata.{Automaton}
use Rattle.nested.specs.Reading.{Satisfies}
use Rattle.nested.specs.declared.letter.Letter.{Letter}
use Rattle.search.specs.Promise.{HandsOut}
use Rattle.search.specs.Reached.{MoreDerivable}
use Rattle.search.specs.declared.unwritten.Unwritten.{Unwritten}
use Rattle.search.specs.declared.unwritten.Unwritten.TheVariants.{NotFound}
use Rattle.search.specs.declared.verdict.Verdict.{Verdict}
use Rattle.search.specs.declared.verdict.Verdict.TheVariants as verdict

module _ {S : Type 0} (A : Automaton S) (places turns : ℕ) (was now : List ℕ) (word : Result ℕ Unwritten) where
  -- no word is handed out, and the buffer is as it was
  abbrev pub NoWord : Type 0
  NoWord = (word ≡ Err NotFound) × (now ≡ was)

  -- None: no word satisfies the question. Found: some word does, and it is handed out. Full: more items can be derived than there are
  -- places. Running: more than turns were allowed.
  abbrev pub AskedTruly : Verdict → Type 0
  AskedTruly verdict.None = ((w : List Letter) → Satisfies A w → ⊥) × NoWord
  AskedTruly verdict.Found = (w : List Letter) × Satisfies A w × HandsOut w was now word
  AskedTruly verdict.Full = MoreDerivable A places × NoWord
  AskedTruly verdict.Running = MoreDerivable A turns × NoWord
