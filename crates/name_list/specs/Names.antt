-- Name lists: which bytes a name has, which file is a name list, and the number of a name.
use Rattle.std.specs.Prelude.{◌≡◌, ℕ, suc, Bool, true, cond, not, ◌&&◌, ◌||◌, ◌⊎◌, List, [], ◌∷◌, ◌++◌, map, length, is_some, Some, None, Ok, Err, vec_items, Option, Result, Vec, ◌==◌, nat_le, nat_lt}
use Rattle.std.specs.List.{list_all}
use Rattle.std.specs.Option.{option_map}
use Rattle.std.specs.Str.{bytes_eq}
use Rattle.std.specs.declared.alloc.Global.{Global}
use Rattle.fields.specs.Faults.{fault_in, told}
use Rattle.fields.specs.declared.fault.Told.{Told}
use Rattle.fields.specs.Fields.{Piece, file_of}
use Rattle.fields.specs.Outcomes.{Fits, Format, Outcome, first_fault}
use Rattle.fields.specs.declared.fault.Fault.{Fault}
use Rattle.fields.specs.declared.fault.Fault.TheVariants.{Memory}
use Rattle.fields.specs.declared.fault.File.TheVariants.{Names}

-- a name's bytes
abbrev pub Name : Type 0
Name = List ℕ

-- the names that a vector of vectors holds
abbrev pub names_of : Vec (Vec ℕ Global) Global → List Name
names_of v = map vec_items (vec_items v)

abbrev between : ℕ → ℕ → ℕ → Bool
between low high b = nat_le low b && nat_le b high

-- the bytes that a name may have: a to z, A to Z, 0 to 9, "_", "-" and "."
abbrev pub name_byte : ℕ → Bool
name_byte b = between 97 122 b || (between 65 90 b || (between 48 57 b || (b == 95 || (b == 45 || b == 46))))

abbrev pub name_bytes : Name → Bool
name_bytes = list_all name_byte

-- a name has 1 to 32 bytes
abbrev pub name_long : Name → Bool
name_long n = nat_lt 0 (length n) && nat_le (length n) 32

-- two names are one
abbrev pub same_name : Name → Name → Bool
same_name = bytes_eq

-- the number of a name: names are numbered from 0 in the order of the list
unfoldable pub number_of : List Name → Name → Option ℕ
number_of [] n = None
number_of (m ∷ ms) n = cond (same_name m n) (Some 0) (option_map suc (number_of ms n))

abbrev pub names_in : List Piece → List Name
names_in = map (λ f. f.contents)

-- A name list has fields with tag 16, 1 to 16 of them, whose contents are names, no two of them one.
-- 11, another tag; 12, a name of 0 or of more than 32 bytes; 18, a 17th name; 13, a byte that no name has; 17, a name listed before.
unfoldable pub names_format : Format
names_format us f = first_fault
    (record { fires = not (f.tag == 16); number = 11 }
    ∷ (record { fires = not (name_long f.contents); number = 12 }
    ∷ (record { fires = nat_le 16 (length us); number = 18 }
    ∷ (record { fires = not (name_bytes f.contents); number = 13 }
    ∷ (record { fires = is_some (number_of (names_in us) f.contents); number = 17 }
    ∷ [])))))

-- the field that lists a name
abbrev pub name_field : Name → Piece
name_field n = record { tag = 16; contents = n }

-- the names can stand in a list behind those before
unfoldable pub listable_behind : List Name → List Name → Bool
listable_behind us [] = true
listable_behind us (n ∷ ns) = not (is_some (names_format (map name_field us) (name_field n))) && listable_behind (us ++ n ∷ []) ns

-- the names can stand in a list, in this order
abbrev pub listable : List Name → Bool
listable ns = listable_behind [] ns

-- what a name list holds: names that can stand in a list
pub record Listed : Type 0 where
  pub names : List Name
  pub in_order : listable names ≡ true

-- a fault of a name list, and its place
abbrev pub names_fault : ℕ → Option ℕ → Option Told
names_fault = fault_in Names

-- A field behind the names ns is judged: it is in order, and these are its contents, or else it has the fault that is told.
abbrev pub Judged : List Name → Piece → ℕ → Result Name Fault → Type 0
Judged ns f place (Ok n) = (names_format (map name_field ns) f ≡ None) × (n ≡ f.contents)
Judged ns f place (Err e) = (is_some (names_format (map name_field ns) f) ≡ true) × (told e ≡ names_fault place (names_format (map name_field ns) f))

-- what the outcome of reading a name list tells of a fault: 16, no name came, at the file's end
abbrev pub list_fault : List ℕ → Outcome → Option Told
list_fault bytes o = cond (is_some o.fault) (names_fault (length (file_of o.fields)) o.fault) (cond (nat_lt 0 (length o.fields)) None (Some (record { number = 16; file = Names; place = length bytes })))

-- the file is a name list, and these are its names
pub record Lists (bytes : List ℕ) (names : List Name) : Type 0 where
  pub outcome : Outcome
  pub fits : Fits names_format bytes outcome
  pub faultless : list_fault bytes outcome ≡ None
  pub read : names ≡ names_in outcome.fields

-- the file is no name list, for the fault that is told
pub record ListsNone (bytes : List ℕ) (e : Fault) : Type 0 where
  pub outcome : Outcome
  pub fits : Fits names_format bytes outcome
  pub faulty : is_some (list_fault bytes outcome) ≡ true
  pub says : told e ≡ list_fault bytes outcome

-- Loading a file into a list of names: the names of the file; or else its fault, or want of memory, and the list as it was.
abbrev pub Loads : List ℕ → List Name → List Name → Result Unit Fault → Type 0
Loads bytes was now (Ok u) = Lists bytes now
Loads bytes was now (Err e) = ((e ≡ Memory) ⊎ ListsNone bytes e) × (now ≡ was)
