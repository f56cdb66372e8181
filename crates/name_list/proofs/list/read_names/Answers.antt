use Rattle.std.proofs.Common.{◌≡◌, [], drop, Some, sym, ap, ◌∙◌, subst, inr, arith}
use Rattle.std.proofs.lemmas.Option.{MatchOption-at_none, MatchOption-at_some}
use Rattle.std.proofs.lemmas.Result.{err_from_is_err_and}
use Rattle.std.proofs.lemmas.Bool.{eqb-true, eqb-false}
use Rattle.fields.specs.Faults.{told_at}
use Rattle.fields.specs.Fields.{Cut}
use Rattle.fields.specs.Parts.{Stands}
use Rattle.name_list.specs.Names.{names_of}
use Rattle.name_list.proofs.Held.{names_length}
use Rattle.name_list.proofs.Loading.{ReadSoFar, lists_all, none_cut, none_fault, none_missing, so_far_more}
use Rattle.name_list.proofs.list.read_names.Goals as goal

pub returns-in_err-field : goal.returns-in_err-field
returns-in_err-field c =
    let p = err_from_is_err_and c.from_residual.result c.from_residual.ensures.1 in
    let h = c.in_err-field.ensures.field in
    let cut = subst (λ b. Cut (drop c.loop-names.fields.place b)) c.loop-names.invariant.1 h.1 in
    let says = h.0 ∙ ap (λ f. Some (record { number = 10; file = f; place = c.loop-names.fields.place })) c.loop-names.invariant.0 in
    rw (p.1, p.2) (inr (none_cut c.args.bytes.now c.loop-names.fields.place (names_of c.loop-names.names) c.loop-names.invariant.2 c.in_err-field.field-0.0 cut says))

pub returns-in_err-name : goal.returns-in_err-name
returns-in_err-name c =
    let p = err_from_is_err_and c.from_residual-in_err-name.result c.from_residual-in_err-name.ensures.1 in
    let h = rw c.deref.ensures.value at c.in_err-name.ensures in
    let stands = subst (λ b. Stands b c.loop-names.fields.place c.in-Some.field c.next.new.self.place) c.loop-names.invariant.1 (MatchOption-at_some _ _ c.in-Some.field c.in-Some.is c.in_ok-field.ensures.field) in
    rw (p.1, p.2) (inr (none_fault c.args.bytes.now c.loop-names.fields.place (names_of c.loop-names.names) c.loop-names.invariant.2 c.in-Some.field c.next.new.self.place c.in_err-name.field-0.0 stands h.0 h.1))

pub loop-names-preserved : goal.loop-names-preserved
loop-names-preserved c =
    let n = rw c.deref.ensures.value at c.in_ok-name.ensures in
    let stands = subst (λ b. Stands b c.loop-names.fields.place c.in-Some.field c.next.new.self.place) c.loop-names.invariant.1 (MatchOption-at_some _ _ c.in-Some.field c.in-Some.is c.in_ok-field.ensures.field) in
    let more = so_far_more c.args.bytes.now c.loop-names.fields.place (names_of c.loop-names.names) c.loop-names.invariant.2 c.in-Some.field c.next.new.self.place c.in_ok-name.name.now stands n.0 n.1 in (
      c.next.ensures.file ∙ c.loop-names.invariant.0,
      c.next.ensures.bytes ∙ c.loop-names.invariant.1,
      subst (ReadSoFar c.args.bytes.now c.next.new.self.place) (sym c.in_ok-keep_name.ensures) more,
    )

pub returns-then-is_empty : goal.returns-then-is_empty
returns-then-is_empty c =
    let end = MatchOption-at_none _ _ c.in_default.is c.in_ok-field.ensures.field in
    let at_end = subst (λ b. drop c.loop-names.fields.place b ≡ []) c.loop-names.invariant.1 end.0 in
    let none = names_length c.loop-names.names ∙ eqb-true _ 0 (sym c.if-is_empty.ensures) in
    inr (none_missing c.args.bytes.now c.loop-names.fields.place (names_of c.loop-names.names) c.loop-names.invariant.2 at_end _ none (ap (λ a. Some (told_at 16 a)) c.at.ensures))

pub returns : goal.returns
returns c =
    let end = MatchOption-at_none _ _ c.in_default.is c.in_ok-field.ensures.field in
    let at_end = subst (λ b. drop c.loop-names.fields.place b ≡ []) c.loop-names.invariant.1 end.0 in
    let long = names_length c.loop-names.names in
    let some = eqb-false _ 0 (sym c.if-is_empty.ensures) in
    let all = lists_all c.args.bytes.now c.loop-names.fields.place (names_of c.loop-names.names) c.loop-names.invariant.2 at_end (omega arith) in
    all
