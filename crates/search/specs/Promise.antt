-- What a search promises.
use Rattle.std.specs.Prelude.{◌≡◌, ℕ, ◌+◌, ◌-◌, ◌<◌, ◌≤◌, min, Bool, ◌⊎◌, List, ◌++◌, map, length, drop, Ok, Err, Result}
use Rattle.nested.specs.Automata.{Automaton}
use Rattle.nested.specs.Letters.{code_of}
use Rattle.nested.specs.Reading.{Satisfies}
use Rattle.nested.specs.declared.letter.Letter.{Letter}
use Rattle.nested.specs.declared.refusal.Refusal.{Refusal}
use Rattle.items.specs.Words.{word_of}
use Rattle.items.specs.declared.item.Item.{Item}
use Rattle.items.specs.declared.making.Making.{Making}
use Rattle.search.specs.Boards.{board}
use Rattle.search.specs.Model.{Board, places, turns_done}
use Rattle.search.specs.Reached.{AsLeft, Lawful, MoreDerivable, Reached}
use Rattle.search.specs.declared.progress.Progress.{Progress}
use Rattle.search.specs.declared.unwritten.Unwritten.{Unwritten}
use Rattle.search.specs.declared.unwritten.Unwritten.TheVariants.{RowLength, NotFound, TooLong}
use Rattle.search.specs.declared.verdict.Verdict.{Verdict}
use Rattle.search.specs.declared.verdict.Verdict.TheVariants as verdict

module _ {S : Type 0} (A : Automaton S) (eq : S → S → Bool) where
  -- A list of calls without an opening leads from one search, with its rows as it left them, to another.
  pub data GoesOn : Board S → Board S → Type 0 where
    here : (b : Board S) → GoesOn b b
    advanced : (b brought c : Board S) (n : ℕ) → AsLeft b brought → GoesOn (turns_done A eq n brought) c → GoesOn b c

  -- Found: this word satisfies the question, and as long as the search is not opened again it says found, and this is the word that it hands out.
  pub record FoundWord (b : Board S) : Type 0 where
    pub word : List Letter
    pub satisfies : Satisfies A word
    pub said : (c : Board S) → GoesOn b c → c.at.verdict ≡ verdict.Found
    pub handed : (c brought : Board S) → GoesOn b c → AsLeft c brought → word_of brought.makings (brought.at.entered - 1) ≡ word

  -- What is true where a search says this verdict, with so many turns requested since the latest opening: none, no word satisfies the
  -- question; found, some word does; full, more items can be derived than there are places; running, more than turns were requested.
  abbrev pub Holds : Board S → ℕ → Verdict → Type 0
  Holds b requested verdict.None = (w : List Letter) → Satisfies A w → ⊥
  Holds b requested verdict.Found = FoundWord b
  Holds b requested verdict.Full = MoreDerivable A (places b.at)
  Holds b requested verdict.Running = MoreDerivable A requested

-- Of every question with a lawful test of equal states: whatever list of calls with that one question leads to a search with this
-- progress, what its verdict says is true.
abbrev pub SaysTruly : (S : Type 0) → Progress → Verdict → Type 0
SaysTruly S p v = (A : Automaton S) (eq : S → S → Bool) → Lawful eq → (items : List (Item S)) (makings : List Making) (requested : ℕ) → Reached A eq (board p items makings) requested → Holds A eq (board p items makings) requested v

-- The word is handed out: its codes stand at the front of the buffer, and the rest is as it was. Or it has more than 1,024 letters, or
-- more than the buffer has room for: then its length is told, and the buffer is as it was.
abbrev pub HandsOut : List Letter → List ℕ → List ℕ → Result ℕ Unwritten → Type 0
HandsOut w was now (Ok n) = (n ≡ length w) × (n ≤ 1024) × (n ≤ length was) × (now ≡ map code_of w ++ drop n was)
HandsOut w was now (Err (TooLong e)) = (e.length ≡ min (length w) 1025) × ((1024 < length w) ⊎ (length was < length w)) × (now ≡ was)
HandsOut w was now (Err NotFound) = ⊥
HandsOut w was now (Err RowLength) = ⊥

module _ {S : Type 0} (A : Automaton S) where
  -- What asking for a word answers is true: a word that satisfies the question is handed out; or none was found, and the buffer is as it
  -- was. The rows fit.
  abbrev pub TrueWord : List ℕ → List ℕ → Result ℕ Unwritten → Type 0
  TrueWord was now (Ok n) = (w : List Letter) × Satisfies A w × HandsOut w was now (Ok n)
  TrueWord was now (Err RowLength) = ⊥
  TrueWord was now (Err NotFound) = now ≡ was
  TrueWord was now (Err (TooLong e)) = (w : List Letter) × Satisfies A w × HandsOut w was now (Err (TooLong e))

-- Of every question with a lawful test of equal states: whatever list of calls with that one question leads to a search with this
-- progress, and to places like those of these rows, the answer to a call for the word is true.
abbrev pub HandsTruly : {S : Type 0} → Board S → List ℕ → List ℕ → Result ℕ Unwritten → Type 0
HandsTruly {S} brought was now r = (A : Automaton S) (eq : S → S → Bool) → Lawful eq → (b : Board S) (requested : ℕ) → Reached A eq b requested → AsLeft b brought → TrueWord A was now r

module _ {S : Type 0} (A : Automaton S) (eq : S → S → Bool) where
  -- Opening carries on every list of calls that led to the search before.
  abbrev pub OpensOn : Progress → Board S → Type 0
  OpensOn before after = (items : List (Item S)) (makings : List Making) (requested : ℕ) → Reached A eq (board before items makings) requested → Reached A eq after 0

  -- Advancing by n carries on every list of calls that led to the search, and to places like those of the rows that it was given; where
  -- it is refused, search and rows are as they were.
  abbrev pub AdvancesOn : Board S → ℕ → Board S → Result ℕ Refusal → Type 0
  AdvancesOn brought n after (Ok done) = (b : Board S) (requested : ℕ) → Reached A eq b requested → AsLeft b brought → Reached A eq after (requested + n)
  AdvancesOn brought n after (Err e) = after ≡ brought
