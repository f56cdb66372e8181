use Rattle.fields.proofs.Unique.{one_outcome}
use Rattle.name_list.specs.Names.{names_format}
use Rattle.name_list.proofs.list.NameList.load.Goals as goal

pub returns-in_err-names-clause-only : goal.returns-in_err-names-clause-only
returns-in_err-names-clause-only c = one_outcome names_format c.args.bytes.now

pub returns-clause-only : goal.returns-clause-only
returns-clause-only c = one_outcome names_format c.args.bytes.now
