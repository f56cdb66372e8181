-- The search on lists: what a turn tries, in order, and what the calls come to for every search and all rows.
use Rattle.std.specs.Prelude.{ℕ, zero, suc, ◌+◌, min, Bool, true, false, cond, ◌&&◌, ◌||◌, List, [], ◌∷◌, ◌++◌, length, take, ◌==◌, nat_lt, slice_set}
use Rattle.nested.specs.Automata.{Automaton}
use Rattle.nested.specs.declared.letter.Letter.TheVariants as letter
use Rattle.items.specs.Items.{item}
use Rattle.items.specs.Makings.{at, first_item}
use Rattle.items.specs.Words.{begun_making}
use Rattle.items.specs.declared.item.Item.{Item}
use Rattle.items.specs.declared.item.Level.{Level}
use Rattle.items.specs.declared.item.Level.TheVariants.{Base, Inner}
use Rattle.items.specs.declared.making.How.{How}
use Rattle.items.specs.declared.making.How.TheVariants.{Stepped, Entered, Matched}
use Rattle.items.specs.declared.making.Making.{Making}
use Rattle.search.specs.declared.progress.Progress.{Progress}
use Rattle.search.specs.declared.verdict.Verdict.{Verdict}
use Rattle.search.specs.declared.verdict.Verdict.TheVariants as verdict
use Rattle.search.specs.declared.worklist.Candidate.{Candidate}

-- every verdict but running is final
abbrev pub is_final : Verdict → Bool
is_final verdict.None = true
is_final verdict.Found = true
is_final verdict.Full = true
is_final verdict.Running = false

-- the number of places: the smaller row's length, at most 4,096
abbrev pub places : Progress → ℕ
places p = min (min p.item_row p.making_row) 4096

-- a search over rows of the same lengths
abbrev pub moved_to : Verdict → ℕ → ℕ → Progress → Progress
moved_to v turns entered p = record { verdict = v; turns = turns; entered = entered; item_row = p.item_row; making_row = p.making_row }

-- a search that was never opened is as one opened with empty rows
abbrev pub unopened : Progress
unopened = record { verdict = verdict.Full; turns = 0; entered = 0; item_row = 0; making_row = 0 }

-- lists joined, one for each number from `from` on, `count` of them
unfoldable pub each : {X : Type 0} → ℕ → ℕ → (ℕ → List X) → List X
each from zero f = []
each from (suc count) f = f from ++ each (suc from) count f

abbrev pub candidate : {S : Type 0} → Item S → How → Candidate S
candidate x how = record { new = x; made = record { how = how } }

-- a search, and the rows that the caller lends it
pub record Board (S : Type 0) : Type 0 where
  pub at : Progress
  pub items : List (Item S)
  pub makings : List Making

abbrev pub is_base : Level → Bool
is_base Base = true
is_base Inner = false

abbrev pub same_level : Level → Level → Bool
same_level Base Base = true
same_level Base Inner = false
same_level Inner Base = false
same_level Inner Inner = true

-- Where a turn leaves no item unhandled, and the verdict is not final, the verdict is none.
abbrev pub after_turn : Progress → Verdict
after_turn p = cond (is_final p.verdict) p.verdict (cond (p.turns + 1 == p.entered) verdict.None verdict.Running)

abbrev pub turn_counted : {S : Type 0} → Board S → Board S
turn_counted b = record { at = moved_to (after_turn b.at) (b.at.turns + 1) b.at.entered b.at; items = b.items; makings = b.makings }

-- the rows before rule 1's item is entered
abbrev pub cleared : {S : Type 0} → List (Item S) → List Making → Board S
cleared items makings = record { at = record { verdict = verdict.Running; turns = 0; entered = 0; item_row = length items; making_row = length makings }; items = items; makings = makings }

module _ {S : Type 0} (A : Automaton S) (eq : S → S → Bool) where
  -- Two items are one if level, entry and present state are.
  abbrev pub same_item : Item S → Item S → Bool
  same_item x y = same_level x.level y.level && (eq x.entry y.entry && eq x.present y.present)

  unfoldable pub listed : List (Item S) → Item S → Bool
  listed [] x = false
  listed (y ∷ ys) x = same_item y x || listed ys x

  -- What turn i tries, from the items of the row.
  module _ (items : List (Item S)) where
    abbrev item_at : ℕ → Item S
    item_at = at A items

    -- rule 2
    abbrev pub by_internal : ℕ → List (Candidate S)
    by_internal i = each 0 16 (λ a. candidate (item (item_at i).level (item_at i).entry (A.internal (item_at i).present a)) (Stepped i (letter.Internal a)) ∷ [])

    -- rule 3, for items of the base level
    abbrev pub by_pending : ℕ → List (Candidate S)
    by_pending i = cond (is_base (item_at i).level) (each 0 16 (λ b. candidate (item Base (item_at i).entry (A.pending (item_at i).present b)) (Stepped i (letter.Return b)) ∷ [])) []

    -- rule 4
    abbrev pub by_call : ℕ → List (Candidate S)
    by_call i = each 0 16 (λ a. candidate (item Inner (A.call (item_at i).present a) (A.call (item_at i).present a)) (Entered i a) ∷ [])

    -- rule 5 with item i first and item j second, for one call name
    abbrev pub by_return : ℕ → ℕ → ℕ → List (Candidate S)
    by_return i j a = cond (eq (A.call (item_at i).present a) (item_at j).entry) (each 0 16 (λ b. candidate (item (item_at i).level (item_at i).entry (A.ret (item_at j).present (item_at i).present a b)) (Matched i j a b) ∷ [])) []

    abbrev pub by_match : ℕ → ℕ → List (Candidate S)
    by_match i j = cond (is_base (item_at j).level) [] (each 0 16 (by_return i j))

    -- all, in order; rule 5 first with item i second and those below it first, then with item i first and those up to it second
    abbrev pub candidates : ℕ → List (Candidate S)
    candidates i = by_internal i ++ (by_pending i ++ (by_call i ++ (each 0 i (λ j. by_match j i) ++ each 0 (suc i) (λ j. by_match i j))))

  -- A candidate is entered: nothing where the verdict is final or the item is present already; else it takes the next place, and the
  -- verdict is found if its present state accepts; where there is no place, the verdict is full.
  unfoldable pub enter : Board S → Candidate S → Board S
  enter b c =
      cond (is_final b.at.verdict) b
      (cond (listed (take b.at.entered b.items) c.new) b
      (cond (nat_lt b.at.entered (places b.at))
      (record {
        at = moved_to (cond (A.accepts c.new.present) verdict.Found verdict.Running) b.at.turns (b.at.entered + 1) b.at;
        items = slice_set b.items b.at.entered c.new;
        makings = slice_set b.makings b.at.entered c.made;
      })
      (record { at = moved_to verdict.Full b.at.turns b.at.entered b.at; items = b.items; makings = b.makings })))

  unfoldable pub enter_all : Board S → List (Candidate S) → Board S
  enter_all b [] = b
  enter_all b (c ∷ cs) = enter_all (enter b c) cs

  -- A turn handles the item whose number is the turns done. It counts as done though it ends early.
  unfoldable pub turn : Board S → Board S
  turn b = turn_counted (enter_all b (candidates b.items b.at.turns))

  -- turns until there were n or the verdict is final
  unfoldable pub turns_done : ℕ → Board S → Board S
  turns_done zero b = b
  turns_done (suc n) b = cond (is_final b.at.verdict) b (turns_done n (turn b))

  -- Opening: no turns, and rule 1's item is entered.
  abbrev pub opened : List (Item S) → List Making → Board S
  opened items makings = enter (cleared items makings) (record { new = first_item A items; made = begun_making })
