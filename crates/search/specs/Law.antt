-- The law over a list of calls and their answers.
use Rattle.std.specs.Prelude.{◌≡◌, ℕ, ◌+◌, ◌≤◌, min, Bool, true, cond, ◌&&◌, List, [], ◌∷◌, Some, None, Ok, Err, vec_items, vec_len, Option, Result, ◌==◌}
use Rattle.nested.specs.Automata.{Automaton}
use Rattle.nested.specs.Following.{number}
use Rattle.nested.specs.Reading.{Satisfies}
use Rattle.nested.specs.declared.letter.Letter.{Letter}
use Rattle.nested.specs.declared.refusal.Refusal.{Refusal}
use Rattle.search.specs.Promise.{HandsOut, TrueWord}
use Rattle.search.specs.Reached.{MoreDerivable}
use Rattle.search.specs.declared.call.Answer.{Answer}
use Rattle.search.specs.declared.call.Answer.TheVariants.{Opened, Advanced, Said, Handed}
use Rattle.search.specs.declared.call.Call.{Call}
use Rattle.search.specs.declared.call.Call.TheVariants as call
use Rattle.search.specs.declared.call.Rows.{Rows}
use Rattle.search.specs.declared.unwritten.Unwritten.{Unwritten}
use Rattle.search.specs.declared.unwritten.Unwritten.TheVariants.{RowLength}
use Rattle.search.specs.declared.verdict.Verdict.{Verdict}
use Rattle.search.specs.declared.verdict.Verdict.TheVariants as verdict

-- What came since the latest opening: the lengths of its rows, and the turns requested.
pub record Since : Type 0 where
  pub items : ℕ
  pub makings : ℕ
  pub requested : ℕ

-- before any opening: empty rows
abbrev pub at_first : Since
at_first = record { items = 0; makings = 0; requested = 0 }

-- the number of places: the smaller row's length, at most 4,096
abbrev pub room : Since → ℕ
room s = min (min s.items s.makings) 4096

-- so many turns more
abbrev requests : ℕ → Since → Since
requests n s = record { items = s.items; makings = s.makings; requested = s.requested + n }

module _ {S : Type 0} where
  -- where a call brings rows, they have these lengths
  abbrev pub have : ℕ → ℕ → Option (Rows S) → Bool
  have items makings None = true
  have items makings (Some rows) = vec_len rows.items == items && vec_len rows.makings == makings

  -- a call has rows of the lengths at opening
  abbrev pub fits : Since → Option (Rows S) → Bool
  fits s = have s.items s.makings

  -- behind a call; one that is refused requests nothing
  abbrev pub behind : Since → Call S → Since
  behind s (call.Open rows) = record { items = vec_len rows.items; makings = vec_len rows.makings; requested = 0 }
  behind s (call.Advance n rows) = cond (fits s rows) (requests n s) s
  behind s call.Verdict = s
  behind s (call.Word buffer rows) = s

-- The answer is one of this kind, and this holds of what it says.
abbrev pub IfOpened : (ℕ → Type 0) → Answer → Type 0
IfOpened P (Opened p) = P p
IfOpened P (Advanced r) = ⊥
IfOpened P (Said report) = ⊥
IfOpened P (Handed r out) = ⊥

abbrev pub IfAdvanced : (Result ℕ Refusal → Type 0) → Answer → Type 0
IfAdvanced P (Opened p) = ⊥
IfAdvanced P (Advanced r) = P r
IfAdvanced P (Said report) = ⊥
IfAdvanced P (Handed r out) = ⊥

abbrev pub IfSaid : (Verdict → Type 0) → Answer → Type 0
IfSaid P (Opened p) = ⊥
IfSaid P (Advanced r) = ⊥
IfSaid P (Said report) = P report.verdict
IfSaid P (Handed r out) = ⊥

abbrev pub IfHanded : (Result ℕ Unwritten → List ℕ → Type 0) → Answer → Type 0
IfHanded P (Opened p) = ⊥
IfHanded P (Advanced r) = ⊥
IfHanded P (Said report) = ⊥
IfHanded P (Handed r out) = P r (vec_items out)

-- at most as many turns are done as requested
abbrev pub TurnsDone : ℕ → Result ℕ Refusal → Type 0
TurnsDone n (Ok done) = done ≤ n
TurnsDone n (Err e) = ⊥

-- refused by 3
abbrev pub TurnsRefused : Result ℕ Refusal → Type 0
TurnsRefused (Ok done) = ⊥
TurnsRefused (Err e) = number e ≡ 3

-- the rows were refused, and the buffer is as it was
abbrev pub RowsRefused : List ℕ → Result ℕ Unwritten → List ℕ → Type 0
RowsRefused was r now = (r ≡ Err RowLength) × (now ≡ was)

module _ {S : Type 0} where
  -- Up to the next opening every verdict is found, and the word that is handed out is this one.
  unfoldable pub Stays : List Letter → Since → List (Call S) → List Answer → Type 0
  Stays w s [] rs = Unit {0}
  Stays w s (c ∷ cs) [] = Unit {0}
  Stays w s (call.Open rows ∷ cs) (a ∷ rs) = Unit {0}
  Stays w s (call.Advance n rows ∷ cs) (a ∷ rs) = Stays w s cs rs
  Stays w s (call.Verdict ∷ cs) (a ∷ rs) = IfSaid (λ v. v ≡ verdict.Found) a × Stays w s cs rs
  Stays w s (call.Word buffer rows ∷ cs) (a ∷ rs) = IfHanded (λ r now. cond (fits s rows) (HandsOut w (vec_items buffer) now r) (RowsRefused (vec_items buffer) r now)) a × Stays w s cs rs

module _ {S : Type 0} (A : Automaton S) where
  -- What a verdict says is true: none, no word satisfies the question; found, this word does, and up to the next opening it is the one;
  -- full, more items can be derived than there are places; running, more than turns were requested.
  abbrev pub TrueVerdict : Since → List (Call S) → List Answer → Verdict → Type 0
  TrueVerdict s cs rs verdict.None = (w : List Letter) → Satisfies A w → ⊥
  TrueVerdict s cs rs verdict.Found = (w : List Letter) × Satisfies A w × Stays w s cs rs
  TrueVerdict s cs rs verdict.Full = MoreDerivable A (room s)
  TrueVerdict s cs rs verdict.Running = MoreDerivable A s.requested

  -- what holds of the answer to a call, with the calls and answers behind it
  abbrev pub TrueAnswer : Since → List (Call S) → List Answer → Call S → Answer → Type 0
  TrueAnswer s cs rs (call.Open rows) = IfOpened (λ p. p ≡ room (behind s (call.Open rows)))
  TrueAnswer s cs rs (call.Advance n rows) = IfAdvanced (λ r. cond (fits s rows) (TurnsDone n r) (TurnsRefused r))
  TrueAnswer s cs rs call.Verdict = IfSaid (TrueVerdict s cs rs)
  TrueAnswer s cs rs (call.Word buffer rows) = IfHanded (λ r now. cond (fits s rows) (TrueWord A (vec_items buffer) now r) (RowsRefused (vec_items buffer) r now))

  -- The law: each call has an answer, and each answer is true.
  unfoldable pub Law : Since → List (Call S) → List Answer → Type 0
  Law s [] [] = Unit {0}
  Law s [] (a ∷ rs) = ⊥
  Law s (c ∷ cs) [] = ⊥
  Law s (c ∷ cs) (a ∷ rs) = TrueAnswer s cs rs c a × Law (behind s c) cs rs
