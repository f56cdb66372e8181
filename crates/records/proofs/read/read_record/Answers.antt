use Rattle.std.proofs.Common.{length}
use Rattle.fields.proofs.Unique.{one_outcome}
use Rattle.records.specs.Records.{record_format}
use Rattle.records.proofs.Reading.{read_spells, read_writes_back}
use Rattle.records.proofs.read.read_record.Goals as goal

pub returns-then-bytes-gt-LONGEST_RECORD-clause-only : goal.returns-then-bytes-gt-LONGEST_RECORD-clause-only
returns-then-bytes-gt-LONGEST_RECORD-clause-only c = one_outcome (record_format c.args.names.now.names (length c.args.codes.now)) c.args.bytes.now

pub returns-clause-only : goal.returns-clause-only
returns-clause-only c = one_outcome (record_format c.args.names.now.names (length c.args.codes.now)) c.args.bytes.now

pub returns-clause-spells : goal.returns-clause-spells
returns-clause-spells c =
    read_spells c.args.names.now.names c.args.names.now.in_order c.args.bytes.now c.args.codes.now c.read_fields.new.codes c.read_fields.result c.read_fields.ensures

pub returns-clause-writes_back : goal.returns-clause-writes_back
returns-clause-writes_back c =
    read_writes_back c.args.names.now.names c.args.names.now.in_order c.args.bytes.now c.args.codes.now c.read_fields.new.codes c.read_fields.result c.if-bytes-gt-LONGEST_RECORD.false c.read_fields.ensures
