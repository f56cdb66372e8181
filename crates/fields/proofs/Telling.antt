-- A fault's number, told with its file and place.
use Rattle.std.proofs.Common.{◌≡◌, ℕ, true, is_some, Some, None, Option, sym, refl, ap, ◌∙◌}
use Rattle.fields.specs.Faults.{fault_in}
use Rattle.fields.specs.declared.fault.File.{File}
use Rattle.fields.specs.declared.fault.Told.{Told}

pub some_number : (o : Option ℕ) → is_some o ≡ true → (n : ℕ) × (o ≡ Some n)
some_number None e = (0, cc)
some_number (Some n) e = (n, refl)

pub number_told : (file : File) (place n : ℕ) (o : Option ℕ) (t : Option Told) → o ≡ Some n → t ≡ fault_in file place (Some n) → (is_some o ≡ true) × (t ≡ fault_in file place o)
number_told file place n o t fault says = (ap is_some fault, says ∙ ap (fault_in file place) (sym fault))
