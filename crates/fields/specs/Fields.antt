-- A file is a row of fields: a one-byte tag, a two-byte length with the high byte first, the contents.
use Rattle.std.specs.Prelude.{◌≡◌, ℕ, ◌/◌, ◌%◌, List, [], ◌∷◌, ◌++◌, length, ◌≢◌}
use Rattle.std.specs.List.{flat_map}

-- what a field says: its tag and its contents
pub record Piece : Type 0 where
  pub tag : ℕ
  pub contents : List ℕ

-- the bytes of a field
abbrev pub written : Piece → List ℕ
written f = f.tag ∷ (length f.contents / 256 ∷ (length f.contents % 256 ∷ f.contents))

-- the bytes of a row of fields
abbrev pub file_of : List Piece → List ℕ
file_of = flat_map written

-- The bytes are cut: some are there, and no field stands at their front.
pub record Cut (bytes : List ℕ) : Type 0 where
  pub some : bytes ≡ [] → ⊥
  pub none : (f : Piece) (more : List ℕ) → bytes ≢ written f ++ more
