-- What is printed of files and of their faults.
use Rattle.std.specs.Prelude.{ℕ, List, ◌++◌, Some, None, Option, codes, decimal}
use Rattle.fields.specs.Faults.{told}
use Rattle.fields.specs.declared.fault.Fault.{Fault}
use Rattle.fields.specs.declared.fault.Fault.TheVariants.{NotALetter, Cut, Tag, Length, Byte, Missing, Repeated, TooMany, Unlisted, TooLong, NoRoom, Memory}
use Rattle.fields.specs.declared.fault.File.{File}
use Rattle.fields.specs.declared.fault.File.TheVariants.{Names, Record}
use Rattle.fields.specs.declared.fault.Told.{Told}

abbrev pub file_text : File → List ℕ
file_text Names = codes "names"
file_text Record = codes "record"

-- what is wrong, in words
abbrev pub fault_text : Fault → List ℕ
fault_text (NotALetter w) = codes "the letter code is above 47"
fault_text (Cut w) = codes "the field is cut by the file's end"
fault_text (Tag w) = codes "the tag is not allowed here"
fault_text (Length w) = codes "the length is wrong for the tag"
fault_text (Byte w) = codes "a byte is not allowed in a name"
fault_text (Missing w) = codes "the file ends with a needed field missing"
fault_text (Repeated w) = codes "the name is listed twice"
fault_text (TooMany w) = codes "there is a 17th name"
fault_text (Unlisted w) = codes "the name is not listed, or there is no name for the number"
fault_text (TooLong w) = codes "the file is too long"
fault_text (NoRoom w) = codes "the buffer is too short, or the record would be too long"
fault_text Memory = codes "there is no memory"

-- the line of what is told of a fault, or of want of memory, with these words
abbrev pub line_of : Option Told → List ℕ → List ℕ
line_of (Some t) text = codes "refused " ++ (decimal t.number ++ (codes ", " ++ (file_text t.file ++ (codes " at " ++ (decimal t.place ++ (codes ": " ++ text))))))
line_of None text = codes "error: " ++ text

abbrev pub fault_line : Fault → List ℕ
fault_line e = line_of (told e) (fault_text e)
