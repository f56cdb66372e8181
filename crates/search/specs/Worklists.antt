-- What a search at work does to its worklist.
use Rattle.std.specs.Prelude.{◌≡◌, ℕ, ◌<◌, Bool, List}
use Rattle.nested.specs.Automata.{Automaton}
use Rattle.nested.specs.declared.machine.Machine as Machine
use Rattle.items.specs.declared.item.Item.{Item}
use Rattle.search.specs.Boards.{board}
use Rattle.search.specs.Model.{Board, enter_all}
use Rattle.search.specs.declared.worklist.Candidate.{Candidate}
use Rattle.search.specs.declared.worklist.Worklist.{Worklist}

-- a closure computes this function, below a bound
abbrev pub Computes : {X : Type 0} → ℕ → (ℕ → X → Type 0) → (ℕ → X) → Type 0
Computes {X} count post f = (k : ℕ) (x : X) → k < count → post k x → x ≡ f k

module _ {M S : Type 0} {machine : Machine.Ghosts M S} where
  -- the search of a worklist, and its rows
  abbrev pub board_of : Worklist M S machine → Board S
  board_of w = board w.at w.items.now w.makings.now

  -- the same question, and the same rows lent
  pub record SameLoan (before after : Worklist M S machine) : Type 0 where
    pub question : after.question ≡ before.question
    pub items : after.items.ghost_name ≡ before.items.ghost_name
    pub makings : after.makings.ghost_name ≡ before.makings.ghost_name

  -- with the same question and rows, the board becomes this one
  pub record Leads (before after : Worklist M S machine) (next : Automaton S → (S → S → Bool) → Board S → Board S) : Type 0 where
    pub loan : SameLoan before after
    pub board : board_of after ≡ next (machine.meaning before.question.now) (machine.equal before.question.now) (board_of before)

  -- the candidates that are tried of the items of the row are entered
  abbrev pub Enters : Worklist M S machine → Worklist M S machine → (Automaton S → (S → S → Bool) → List (Item S) → List (Candidate S)) → Type 0
  Enters before after tried = Leads before after (λ A eq b. enter_all A eq b (tried A eq b.items))
