use Rattle.std.proofs.Common.{◌≡◌, None, ◌∙◌, arith, rules}
use Rattle.std.proofs.lemmas.Option.{MatchOption-at_none, MatchOption-at_some}
use Rattle.nested.specs.Letters.{letter_at, letter_of}
use Rattle.records.proofs.Writing.{letter_here, letter_parts, letter_put, letter_read, no_room, not_a_letter, unlisted}
use Rattle.records.proofs.write.put_letter.Goals as goal

pub returns-in_err-map_err : goal.returns-in_err-map_err
returns-in_err-map_err c =
    let none : letter_at c.args.code ≡ None = grind (arith, c.try_from.ensures, c.in_err-map_err.ensures) in
    let told = not_a_letter c.args.names.now.names c.args.index c.args.code c.args.left.now _ c.at-at.ensures none in
    search rules

pub tag_and_number-tag-requires : goal.tag_and_number-tag-requires
tag_and_number-tag-requires c =
    (letter_parts c.args.code _ (letter_read c.args.code _ c.in_ok-map_err.field-0 c.try_from.ensures.value (search rules))).0

pub returns-in_err-name : goal.returns-in_err-name
returns-in_err-name c =
    let read = letter_read c.args.code _ c.in_ok-map_err.field-0 c.try_from.ensures.value (search rules) in
    let letter = letter_here c.args.code (letter_parts c.args.code _ read).0 in
    let number = c.from.ensures ∙ c.tag_and_number-tag.ensures.number in
    let past = MatchOption-at_none _ _ c.in_err-name.ensures.ok_part c.name.ensures in
    let told = unlisted c.args.names.now.names c.args.index c.args.code c.args.left.now _ c.at-at.ensures (letter_of c.args.code) letter (omega arith) in
    search rules

pub returns-then-length-left : goal.returns-then-length-left
returns-then-length-left c =
    let read = letter_read c.args.code _ c.in_ok-map_err.field-0 c.try_from.ensures.value (search rules) in
    let letter = letter_here c.args.code (letter_parts c.args.code _ read).0 in
    let number = c.from.ensures ∙ c.tag_and_number-tag.ensures.number in
    let named = MatchOption-at_some _ _ c.in_ok-name.name c.in_ok-name.ensures.ok_part c.name.ensures in
    no_room c.args.names.now.names c.args.index c.args.code c.args.left.now _ c.at-at.ensures (letter_of c.args.code) letter c.in_ok-name.name.now (rw number at named) (omega arith)

pub returns : goal.returns
returns c =
    let read = letter_read c.args.code _ c.in_ok-map_err.field-0 c.try_from.ensures.value (search rules) in
    let letter = letter_here c.args.code (letter_parts c.args.code _ read).0 in
    let number = c.from.ensures ∙ c.tag_and_number-tag.ensures.number in
    let named = MatchOption-at_some _ _ c.in_ok-name.name c.in_ok-name.ensures.ok_part c.name.ensures in
    letter_put c.args.names.now.names c.args.index c.args.code c.args.left.now (letter_of c.args.code) letter c.in_ok-name.name.now (rw number at named) c.put_field.new.out (omega arith) (rw c.tag_and_number-tag.ensures.tag at c.put_field.ensures)
