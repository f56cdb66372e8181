use Rattle.std.proofs.Common.{◌≡◌, [], drop, Some, sym, ap, ◌∙◌, subst, arith}
use Rattle.std.proofs.lemmas.Option.{MatchOption-at_none, MatchOption-at_some}
use Rattle.std.proofs.lemmas.Result.{err_from_is_err_and}
use Rattle.fields.specs.Faults.{told_at}
use Rattle.fields.specs.Fields.{Cut}
use Rattle.fields.specs.Parts.{Stands}
use Rattle.fields.specs.declared.fault.File.TheVariants.{Record}
use Rattle.records.proofs.Reading.{ReadSoFar, reads_all, reads_cut, reads_fault, reads_full, so_far_more, so_far_none}
use Rattle.records.proofs.read.read_fields.Goals as goal

pub loop-field-init : goal.loop-field-init
loop-field-init c =
    let names = c.args.names.now.names in (
      c.new-fields.ensures.file,
      c.new-fields.ensures.bytes,
      subst (λ p. ReadSoFar names c.args.bytes.now c.args.codes.now p 0 c.args.codes.now) (sym c.new-fields.ensures.place) (so_far_none names c.args.bytes.now c.args.codes.now),
    )

pub returns-in_err-field : goal.returns-in_err-field
returns-in_err-field c =
    let p = err_from_is_err_and c.from_residual.result c.from_residual.ensures.1 in
    let h = c.in_err-field.ensures.field in
    let cut = subst (λ b. Cut (drop c.loop-field.fields.place b)) c.loop-field.invariant.1 h.1 in
    let says = h.0 ∙ ap (λ f. Some (record { number = 10; file = f; place = c.loop-field.fields.place })) c.loop-field.invariant.0 in
    rw (p.1, p.2) (reads_cut c.args.names.now.names c.args.bytes.now c.args.codes.now c.loop-field.fields.place c.loop-field.count c.loop-field.codes c.loop-field.invariant.2 c.in_err-field.field-0.0 cut says)

pub returns-in_err-code : goal.returns-in_err-code
returns-in_err-code c =
    let p = err_from_is_err_and c.from_residual-in_err-code.result c.from_residual-in_err-code.ensures.1 in
    let h = c.in_err-code.ensures in
    let stands = subst (λ b. Stands b c.loop-field.fields.place c.in-Some.field c.next.new.self.place) c.loop-field.invariant.1 (MatchOption-at_some _ _ c.in-Some.field c.in-Some.is c.in_ok-field.ensures.field) in
    rw (p.1, p.2) (reads_fault c.args.names.now.names c.args.bytes.now c.args.codes.now c.loop-field.fields.place c.loop-field.count c.loop-field.codes c.loop-field.invariant.2 c.in-Some.field c.next.new.self.place c.in_err-code.field-0.0 stands h.0 h.1)

pub returns-then-count-codes : goal.returns-then-count-codes
returns-then-count-codes c =
    let h = c.in_ok-code.ensures in
    let stands = subst (λ b. Stands b c.loop-field.fields.place c.in-Some.field c.next.new.self.place) c.loop-field.invariant.1 (MatchOption-at_some _ _ c.in-Some.field c.in-Some.is c.in_ok-field.ensures.field) in
    let long = c.loop-field.auto.codes in
    reads_full c.args.names.now.names c.args.bytes.now c.args.codes.now c.loop-field.fields.place c.loop-field.count c.loop-field.codes c.loop-field.invariant.2 c.in-Some.field c.next.new.self.place _ stands h.0 (omega arith) (ap (λ a. Some (told_at 21 a)) (c.at.ensures ∙ ap (λ q. record { file = Record; place = q.place }) c.part.ensures))

pub loop-field-preserved : goal.loop-field-preserved
loop-field-preserved c =
    let h = c.in_ok-code.ensures in
    let stands = subst (λ b. Stands b c.loop-field.fields.place c.in-Some.field c.next.new.self.place) c.loop-field.invariant.1 (MatchOption-at_some _ _ c.in-Some.field c.in-Some.is c.in_ok-field.ensures.field) in
    let long = c.loop-field.auto.codes in (
      c.next.ensures.file ∙ c.loop-field.invariant.0,
      c.next.ensures.bytes ∙ c.loop-field.invariant.1,
      so_far_more c.args.names.now.names c.args.bytes.now c.args.codes.now c.loop-field.fields.place c.loop-field.count c.loop-field.codes c.loop-field.invariant.2 c.in-Some.field c.next.new.self.place c.in_ok-code.code stands h.0 h.1 (omega arith),
    )

pub returns : goal.returns
returns c =
    let end = MatchOption-at_none _ _ c.in_default.is c.in_ok-field.ensures.field in
    let at_end = subst (λ b. drop c.loop-field.fields.place b ≡ []) c.loop-field.invariant.1 end.0 in
    reads_all c.args.names.now.names c.args.bytes.now c.args.codes.now c.loop-field.fields.place c.loop-field.count c.loop-field.codes c.loop-field.invariant.2 at_end
