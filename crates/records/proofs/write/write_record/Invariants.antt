use Rattle.records.proofs.Writing.{WrittenSoFar}
use Rattle.records.proofs.write.write_record.Given as goal

abbrev pub invariant-loop-index : goal.invariant-loop-index
invariant-loop-index l = WrittenSoFar l.names.names l.codes l.initial.out l.index l.used l.out
