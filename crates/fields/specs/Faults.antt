-- The faults of files, each with its number, its file and its place.
use Rattle.std.specs.Prelude.{ℕ, Some, None, Option}
use Rattle.std.specs.Option.{option_map}
use Rattle.fields.specs.declared.fault.At.{At}
use Rattle.fields.specs.declared.fault.Fault.{Fault}
use Rattle.fields.specs.declared.fault.Fault.TheVariants.{NotALetter, Cut, Tag, Length, Byte, Missing, Repeated, TooMany, Unlisted, TooLong, NoRoom, Memory}
use Rattle.fields.specs.declared.fault.File.{File}
use Rattle.fields.specs.declared.fault.Told.{Told}

abbrev pub told_at : ℕ → At → Told
told_at n w = record { number = n; file = w.file; place = w.place }

-- want of memory has no number and no place
abbrev pub told : Fault → Option Told
told (NotALetter w) = Some (told_at 1 w)
told (Cut w) = Some (told_at 10 w)
told (Tag w) = Some (told_at 11 w)
told (Length w) = Some (told_at 12 w)
told (Byte w) = Some (told_at 13 w)
told (Missing w) = Some (told_at 16 w)
told (Repeated w) = Some (told_at 17 w)
told (TooMany w) = Some (told_at 18 w)
told (Unlisted w) = Some (told_at 19 w)
told (TooLong w) = Some (told_at 20 w)
told (NoRoom w) = Some (told_at 21 w)
told Memory = None

-- what is told of a fault with this number, if there is one, at this place of this file
abbrev pub fault_in : File → ℕ → Option ℕ → Option Told
fault_in file place fault = option_map (λ n. record { number = n; file = file; place = place }) fault
