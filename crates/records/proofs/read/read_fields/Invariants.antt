use Rattle.std.proofs.Common.{◌≡◌, ◌-◌, length}
use Rattle.fields.specs.declared.fault.File.TheVariants.{Record}
use Rattle.records.proofs.Reading.{ReadSoFar}
use Rattle.records.proofs.read.read_fields.Given as goal

abbrev pub invariant-loop-field : goal.invariant-loop-field
invariant-loop-field l = (l.fields.file ≡ Record) × (l.fields.bytes.now ≡ l.bytes) × ReadSoFar l.names.names l.bytes l.initial.codes l.fields.place l.count l.codes

abbrev pub decreases-loop-field : goal.decreases-loop-field
decreases-loop-field l = length l.bytes - l.fields.place
