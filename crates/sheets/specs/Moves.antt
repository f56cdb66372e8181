-- The automaton that a sheet describes.
use Rattle.std.specs.Prelude.{◌≡◌, ℕ, ◌^◌, ◌<◌, ◌≤◌, Bool, true, false, ◌&&◌, ◌||◌, List, [], ◌∷◌, length, ◌==◌, nat_lt}
use Rattle.std.specs.Str.{bytes_eq}
use Rattle.sheets.specs.declared.moves.Move.{Move}
use Rattle.sheets.specs.declared.moves.Move.TheVariants.{Internal, Call, Return, Pending}

-- A nondeterministic automaton on nested words: the states 0 to states - 1, the start and the accepting states as masks, and the moves.
pub record Description : Type 0 where
  pub states : ℕ
  pub start : ℕ
  pub accepting : ℕ
  pub moves : List Move

-- the states of a move are below n, its name and its mark below 16
abbrev pub in_range : ℕ → Move → Bool
in_range n (Internal q a q') = nat_lt q n && (nat_lt a 16 && nat_lt q' n)
in_range n (Call q a q' m) = nat_lt q n && (nat_lt a 16 && (nat_lt q' n && nat_lt m 16))
in_range n (Return q b m q') = nat_lt q n && (nat_lt b 16 && (nat_lt m 16 && nat_lt q' n))
in_range n (Pending q b q') = nat_lt q n && (nat_lt b 16 && nat_lt q' n)

-- each of the moves is in range
unfoldable pub all_in_range : ℕ → List Move → Bool
all_in_range n [] = true
all_in_range n (m ∷ ms) = in_range n m && all_in_range n ms

-- what holds of every sheet
pub record InRange (d : Description) : Type 0 where
  pub some_states : 1 ≤ d.states
  pub few_states : d.states ≤ 8
  pub start_in : d.start < 2 ^ d.states
  pub accepting_in : d.accepting < 2 ^ d.states
  pub few_moves : length d.moves ≤ 256
  pub moves_in : all_in_range d.states d.moves ≡ true

-- the kind of a move, as the tag that it has in a sheet file
abbrev pub kind : Move → ℕ
kind (Internal q a q') = 35
kind (Call q a q' m) = 36
kind (Return q b m q') = 37
kind (Pending q b q') = 38

-- the numbers in a move, in the order in which they stand in a sheet file
abbrev pub parts : Move → List ℕ
parts (Internal q a q') = q ∷ (a ∷ (q' ∷ []))
parts (Call q a q' m) = q ∷ (a ∷ (q' ∷ (m ∷ [])))
parts (Return q b m q') = q ∷ (b ∷ (m ∷ (q' ∷ [])))
parts (Pending q b q') = q ∷ (b ∷ (q' ∷ []))

abbrev pub same_move : Move → Move → Bool
same_move m n = kind m == kind n && bytes_eq (parts m) (parts n)

-- the move is one of the list
unfoldable pub among : List Move → Move → Bool
among [] m = false
among (n ∷ ns) m = same_move n m || among ns m
