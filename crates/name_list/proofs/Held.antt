-- The names that a vector of vectors holds, and the number of one of them.
use Rattle.std.proofs.Common.{◌≡◌, ℕ, suc, ◌+◌, Bool, true, false, cond, List, [], ◌∷◌, map, length, Some, None, vec_items, vec_len, Option, Vec, sym, refl, ap, ◌∙◌, arith}
use Rattle.std.proofs.lemmas.Iterator.Adapters.{position_from-zero}
use Rattle.std.proofs.lemmas.List.{length-map}
use Rattle.std.specs.List.{position, position_from}
use Rattle.std.specs.Option.{option_map}
use Rattle.std.specs.declared.alloc.Global.{Global}
use Rattle.name_list.specs.Names.{Name, names_of, number_of, same_name}

pub names_length : (v : Vec (Vec ℕ Global) Global) → length (names_of v) ≡ vec_len v
names_length v = length-map (vec_items v) vec_items ∙ sym v.ok.0

-- a number counted from i on
abbrev pub from : ℕ → Option ℕ → Option ℕ
from i o = option_map (λ k. i + k) o

pub from_zero : (o : Option ℕ) → from 0 o ≡ o
from_zero None = refl
from_zero (Some k) = ap Some (omega arith)

count_from : (b : Bool) (i : ℕ) (o : Option ℕ) → cond b (Some i) (from (i + 1) o) ≡ from i (cond b (Some 0) (option_map suc o))
count_from true i o = ap Some (omega arith)
count_from false i None = refl
count_from false i (Some k) = ap Some (omega arith)

module _ (n : Name) where
  abbrev is_name : Vec ℕ Global → Bool
  is_name v = same_name (vec_items v) n

  position_counts : (i : ℕ) (vs : List (Vec ℕ Global)) → position_from is_name i vs ≡ from i (number_of (map vec_items vs) n)
  unfolding number_of
  position_counts i [] = refl
  position_counts i (v ∷ vs) = ap (cond (is_name v) (Some i)) (position_counts (i + 1) vs) ∙ count_from (is_name v) i (number_of (map vec_items vs) n)

  -- the number of a name is the place of the first vector that holds it
  pub number_by_position : (vs : List (Vec ℕ Global)) (r : Option ℕ) → r ≡ position is_name vs → r ≡ number_of (map vec_items vs) n
  number_by_position vs r is = is ∙ position_from-zero is_name vs ∙ position_counts 0 vs ∙ from_zero _
