-- What reading a file field by field comes to: the fields before the first fault, and that fault.
use Rattle.std.specs.Prelude.{◌≡◌, ℕ, Bool, cond, ◌⊎◌, List, [], ◌∷◌, ◌++◌, Some, None, Option}
use Rattle.fields.specs.Fields.{Cut, Piece, file_of, written}

-- a check of a field, with the number of the fault that it finds
pub record Check : Type 0 where
  pub fires : Bool
  pub number : ℕ

-- the number of the first check that fires, in the order of the list
abbrev pub first_fault : List Check → Option ℕ
first_fault [] = None
first_fault (c ∷ cs) = cond c.fires (Some c.number) (first_fault cs)

-- A format judges a field by itself and by the fields before it: the number of its first fault, if it has one.
abbrev pub Format : Type 0
Format = List Piece → Piece → Option ℕ

-- each field of the row is without fault behind those before it
abbrev pub InOrder : Format → List Piece → Type 0
InOrder judge fs = (us : List Piece) (f : Piece) (vs : List Piece) → fs ≡ us ++ f ∷ vs → judge us f ≡ None

-- Behind the fields fs a reader stops at the front of `rest`, with the fault n: 10, what is left is cut; or else the fault of the field
-- that stands there.
abbrev pub Stops : Format → List Piece → List ℕ → ℕ → Type 0
Stops judge fs rest n = ((n ≡ 10) × Cut rest) ⊎ ((f : Piece) × (more : List ℕ) × (rest ≡ written f ++ more) × (judge fs f ≡ Some n))

-- the fields before the first fault, and its number; none where the file is without fault
pub record Outcome : Type 0 where
  pub fields : List Piece
  pub fault : Option ℕ

-- where the bytes end behind the fields fs
abbrev pub Ends : Format → List Piece → List ℕ → Option ℕ → Type 0
Ends judge fs bytes None = bytes ≡ file_of fs
Ends judge fs bytes (Some n) = (rest : List ℕ) × (bytes ≡ file_of fs ++ rest) × Stops judge fs rest n

-- this is what reading the bytes comes to
pub record Fits (judge : Format) (bytes : List ℕ) (o : Outcome) : Type 0 where
  pub in_order : InOrder judge o.fields
  pub ends : Ends judge o.fields bytes o.fault

-- bytes admit only one outcome
abbrev pub OneOutcome : Format → List ℕ → Type 0
OneOutcome judge bytes = (o q : Outcome) → Fits judge bytes o → Fits judge bytes q → o ≡ q
