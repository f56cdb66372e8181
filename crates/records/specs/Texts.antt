-- What is printed where a record was not checked.
use Rattle.std.specs.Prelude.{ℕ, List}
use Rattle.fields.specs.Texts.{fault_line}
use Rattle.nested.specs.Texts.{stop_text}
use Rattle.records.specs.declared.check.Unchecked.{Unchecked}
use Rattle.records.specs.declared.check.Unchecked.TheVariants.{Faulty, Refused}

abbrev pub unchecked_text : Unchecked → List ℕ
unchecked_text (Faulty e) = fault_line e
unchecked_text (Refused s) = stop_text s
