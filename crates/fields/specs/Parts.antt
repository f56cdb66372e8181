-- Fields as a reader hands them out: an enum by tag, whose cases borrow the contents.
use Rattle.std.specs.Prelude.{◌≡◌, ℕ, ◌+◌, cond, List, ◌++◌, length, drop, ◌==◌}
use Rattle.fields.specs.Fields.{Piece, written}
use Rattle.fields.specs.declared.field.Field.{Field}
use Rattle.fields.specs.declared.field.Field.TheVariants.{Call, Return, Internal, Name, Other}
use Rattle.fields.specs.declared.field.Part.{Part}

-- the case that holds the fields with this tag
abbrev pub field_of : ℕ → Part → Field
field_of t p = cond (t == 1) (Call p) (cond (t == 2) (Return p) (cond (t == 3) (Internal p) (cond (t == 16) (Name p) (Other t p))))

abbrev pub tag_of : Field → ℕ
tag_of (Call p) = 1
tag_of (Return p) = 2
tag_of (Internal p) = 3
tag_of (Name p) = 16
tag_of (Other t p) = t

abbrev pub part_of : Field → Part
part_of (Call p) = p
part_of (Return p) = p
part_of (Internal p) = p
part_of (Name p) = p
part_of (Other t p) = p

-- what a field says
abbrev pub piece_of : Field → Piece
piece_of f = record { tag = tag_of f; contents = (part_of f).contents.now }

-- The field stands at the front of the bytes, at this place of the file, and takes `used` of them.
pub record InFront (bytes : List ℕ) (place : ℕ) (f : Field) (used : ℕ) : Type 0 where
  pub case : f ≡ field_of (tag_of f) (part_of f)
  pub placed : (part_of f).place ≡ place
  pub here : bytes ≡ written (piece_of f) ++ drop used bytes
  pub takes : used ≡ length (written (piece_of f))

-- The field stands in the file at this place, and what comes behind it at `next`.
pub record Stands (bytes : List ℕ) (place : ℕ) (f : Field) (next : ℕ) : Type 0 where
  pub case : f ≡ field_of (tag_of f) (part_of f)
  pub placed : (part_of f).place ≡ place
  pub here : drop place bytes ≡ written (piece_of f) ++ drop next bytes
  pub behind : next ≡ place + length (written (piece_of f))
