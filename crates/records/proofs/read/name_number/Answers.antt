use Rattle.std.proofs.Common.{sym, ◌∙◌, arith, rules}
use Rattle.name_list.proofs.Loading.{few_listable}
use Rattle.name_list.proofs.Numbers.{number_within}
use Rattle.records.proofs.Spelling.{byte_fault, fault_told, length_fault, named, unlisted_fault}
use Rattle.records.proofs.read.name_number.Goals as goal

pub returns-then-not-has_name_length : goal.returns-then-not-has_name_length
returns-then-not-has_name_length c =
    fault_told c.args.names.now.names _ c.args.part.place 12 _ c.at-at.ensures (length_fault c.args.names.now.names _ (sym c.if-not-has_name_length.ensures))

pub returns-then-not-has_name_bytes : goal.returns-then-not-has_name_bytes
returns-then-not-has_name_bytes c =
    fault_told c.args.names.now.names _ c.args.part.place 13 _ c.at-at.ensures (byte_fault c.args.names.now.names _ (sym c.if-not-has_name_length.ensures) (sym c.if-not-has_name_bytes.ensures))

pub overflow_cast-result : goal.overflow_cast-result
overflow_cast-result c =
    let within = number_within c.args.names.now.names _ c.in_ok-number.number (sym c.find.ensures ∙ c.in_ok-number.ensures.ok_part) in
    let few = few_listable c.args.names.now.names c.args.names.now.in_order in
    omega arith

pub returns : goal.returns
returns c =
    named c.args.names.now.names _ (sym c.if-not-has_name_length.ensures) (sym c.if-not-has_name_bytes.ensures) c.in_ok-number.number c.args.names.now.in_order (sym c.find.ensures ∙ c.in_ok-number.ensures.ok_part)

pub returns-in_err-number : goal.returns-in_err-number
returns-in_err-number c =
    let told = fault_told c.args.names.now.names _ c.args.part.place 19 _ c.at-at.ensures (unlisted_fault c.args.names.now.names _ (sym c.if-not-has_name_length.ensures) (sym c.if-not-has_name_bytes.ensures) (sym c.find.ensures ∙ c.in_err-number.ensures.ok_part)) in
    search rules
