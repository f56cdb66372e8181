use Rattle.std.proofs.Common.{◌∙◌, arith, rules}
use Rattle.std.proofs.lemmas.Result.{err_from_is_err_and}
use Rattle.std.proofs.lemmas.Option.{MatchOption-at_none, MatchOption-at_some}
use Rattle.fields.specs.Parts.{tag_of}
use Rattle.records.proofs.Spelling.{low_tag, spells_faulty, spells_named, spells_no_letter}
use Rattle.records.proofs.read.letter_code.Goals as goal

pub returns-in_err-first : goal.returns-in_err-first
returns-in_err-first c =
    let no_kind = MatchOption-at_none _ _ c.in_err-first.ensures.ok_part c.kind.ensures in
    let spells = spells_no_letter c.args.names.now.names c.args.field c.part-part.result c.part-part.ensures _ no_kind c.at.ensures in
    search rules

pub returns-in_err-number : goal.returns-in_err-number
returns-in_err-number c =
    let p = err_from_is_err_and c.from_residual-in_err-number.result c.from_residual-in_err-number.ensures.1 in
    let kind = MatchOption-at_some _ _ c.in_ok-first.first c.in_ok-first.ensures.ok_part c.kind.ensures in
    rw (p.1, p.2) (spells_faulty c.args.names.now.names c.args.field c.part-part.result c.part-part.ensures kind.0 c.in_err-number.field-0.0 c.in_err-number.ensures)

pub overflow_add-result : goal.overflow_add-result
overflow_add-result c =
    let kind = MatchOption-at_some _ _ c.in_ok-first.first c.in_ok-first.ensures.ok_part c.kind.ensures in
    let low = low_tag (tag_of c.args.field) kind.0 in
    let first = c.from.ensures.value ∙ kind.1 in
    let small = c.in_ok-number.ensures.2 in
    omega arith

pub returns : goal.returns
returns c =
    let kind = MatchOption-at_some _ _ c.in_ok-first.first c.in_ok-first.ensures.ok_part c.kind.ensures in
    let first = c.from.ensures.value ∙ kind.1 in
    spells_named c.args.names.now.names c.args.field c.part-part.result c.part-part.ensures kind.0 c.in_ok-number.number _ c.in_ok-number.ensures (omega arith)
