use Rattle.std.proofs.Common.{map, vec_items, is_some, sym, ap, ◌∙◌, arith}
use Rattle.std.proofs.lemmas.List.{length-map}
use Rattle.fields.specs.Parts.{part_of, piece_of}
use Rattle.name_list.specs.Names.{name_field, names_format}
use Rattle.name_list.proofs.Held.{number_by_position}
use Rattle.name_list.proofs.Judging.{byte_fault, fault_told, length_fault, many_fault, name_fault_told, no_fault, other_tag, tag_fault, twice_fault}
use Rattle.name_list.proofs.list.judge.Goals as goal

pub returns-in_default : goal.returns-in_default
returns-in_default c =
    let ns = map vec_items c.args.names.now in
    fault_told ns c.args.field _ _ 11 c.part.ensures c.at-at.ensures (tag_fault ns (piece_of c.args.field) (other_tag c.args.field c.requires c.in_default.not-Name))

pub returns-then-not-has_name_length : goal.returns-then-not-has_name_length
returns-then-not-has_name_length c =
    let ns = map vec_items c.args.names.now in
    name_fault_told ns c.args.field _ _ 12 c.part.ensures c.at-at.ensures c.in-Name.part c.in-Name.is (length_fault ns _ (sym c.if-not-has_name_length.ensures))

pub returns-then-names-ge-MOST_NAMES : goal.returns-then-names-ge-MOST_NAMES
returns-then-names-ge-MOST_NAMES c =
    let ns = map vec_items c.args.names.now in
    let long = length-map c.args.names.now vec_items in
    name_fault_told ns c.args.field _ _ 18 c.part.ensures c.at-at.ensures c.in-Name.part c.in-Name.is (many_fault ns _ (sym c.if-not-has_name_length.ensures) (omega arith))

pub returns-then-not-has_name_bytes : goal.returns-then-not-has_name_bytes
returns-then-not-has_name_bytes c =
    let ns = map vec_items c.args.names.now in
    let long = length-map c.args.names.now vec_items in
    name_fault_told ns c.args.field _ _ 13 c.part.ensures c.at-at.ensures c.in-Name.part c.in-Name.is (byte_fault ns _ (sym c.if-not-has_name_length.ensures) (omega arith) (sym c.if-not-has_name_bytes.ensures))

pub returns-then-is_some : goal.returns-then-is_some
returns-then-is_some c =
    let ns = map vec_items c.args.names.now in
    let long = length-map c.args.names.now vec_items in
    let found = ap is_some (sym (number_by_position _ _ _ c.find_in.ensures)) ∙ sym c.if-is_some.ensures in
    name_fault_told ns c.args.field _ _ 17 c.part.ensures c.at-at.ensures c.in-Name.part c.in-Name.is (twice_fault ns _ (sym c.if-not-has_name_length.ensures) (omega arith) (sym c.if-not-has_name_bytes.ensures) found)

pub returns : goal.returns
returns c =
    let ns = map vec_items c.args.names.now in
    let long = length-map c.args.names.now vec_items in
    let missing = ap is_some (sym (number_by_position _ _ _ c.find_in.ensures)) ∙ sym c.if-is_some.ensures in
    let fault = no_fault ns _ (sym c.if-not-has_name_length.ensures) (omega arith) (sym c.if-not-has_name_bytes.ensures) missing in
    (ap (λ x. names_format (map name_field ns) (piece_of x)) c.in-Name.is ∙ fault, ap (λ x. (part_of x).contents.now) (sym c.in-Name.is))
