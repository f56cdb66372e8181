use Rattle.std.proofs.Common.{◌<◌, ◌≤◌, ◌+◌, ◌-◌, length, set, append_assoc, rules}
use borrow.Rule.Slice.PartMut.{mid_of, put_mid}
use Rattle.nested.specs.declared.letter.Letter.TheVariants.{Call, Return}
use Rattle.items.proofs.Writing.{put_behind, put_letter}
use Rattle.items.proofs.words.Word.+put.Goals as goal

pub returns-in-One : goal.returns-in-One
returns-in-One t c =
    let ends = rw c.in-One.is at c.in-Some.ensures in
    let before = rw c.of.ensures at c.put-last.ensures in
    let room : c.put-last.result < length c.put-last.new.out = search rules in
    rw ends.1 (put_letter _ _ _ _ before c.in-One.letter c.from.result room c.from.ensures.value)

pub returns-in-Pair : goal.returns-in-Pair
returns-in-Pair t c =
    let ends = rw c.in-Pair.is at c.in-Some.ensures in
    let n = c.put-call.result in
    let first = rw c.of-in-Pair.ensures at c.put-call.ensures in
    let room : n < length c.put-call.new.out = search rules in
    let opened = put_letter _ _ _ _ first (Call c.in-Pair.opened) c.from-in-Pair.result room c.from-in-Pair.ensures.value in
    let inner = rw c.local.ensures at c.put-inner.ensures in
    let now = set c.put-call.new.out n c.from-in-Pair.result in
    let k = length now - (n + 1) in
    let fits : c.put-inner.result ≤ length (mid_of (n + 1) k now) = search rules in
    let behind = put_behind _ _ _ _ opened k _ _ _ inner fits in
    let last : n + 1 + c.put-inner.result < length (put_mid (n + 1) k now c.put-inner.new.out) = search rules in
    rw ends.2 (simp append_assoc at (put_letter c.args.out.now _ _ _ behind (Return c.in-Pair.name) c.from-in-Pair-2.result last c.from-in-Pair-2.ensures.value))
