use Rattle.std.proofs.Common.{◌≡◌, ◌-◌, length}
use Rattle.fields.specs.declared.fault.File.TheVariants.{Names}
use Rattle.name_list.specs.Names.{names_of}
use Rattle.name_list.proofs.Loading.{ReadSoFar}
use Rattle.name_list.proofs.list.read_names.Given as goal

abbrev pub invariant-loop-names : goal.invariant-loop-names
invariant-loop-names l = (l.fields.file ≡ Names) × (l.fields.bytes.now ≡ l.bytes) × ReadSoFar l.bytes l.fields.place (names_of l.names)

abbrev pub decreases-loop-names : goal.decreases-loop-names
decreases-loop-names l = length l.bytes - l.fields.place
