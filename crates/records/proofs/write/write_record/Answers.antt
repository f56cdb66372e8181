use Rattle.std.proofs.Common.{◌+◌, arith}
use Rattle.std.proofs.lemmas.Result.{err_from_is_err_and}
use Rattle.records.proofs.Writing.{letter_behind, none_behind, reads_whole, so_far_more, stops_here}
use Rattle.records.proofs.write.write_record.Goals as goal

pub returns-in_err-used-clause-writes : goal.returns-in_err-used-clause-writes
returns-in_err-used-clause-writes c =
    let names = c.args.names.now.names in
    let now = c.loop-index.out in
    let long = c.loop-index.auto.out in
    let most = c.min-room.ensures in
    let short = c.loop-index.invariant.short in
    let p = err_from_is_err_and c.from_residual.result c.from_residual.ensures.1 in
    let written = none_behind names c.loop-index.index _ c.loop-index.used c.min-room.result now c.put_letter.new.left (omega arith) (omega arith) c.in_err-used.field-0.0 c.in_err-used.ensures in
    rw (p.1, p.2) (stops_here names c.args.codes.now c.args.out.now c.loop-index.index c.loop-index.used now c.loop-index.invariant c.in_err-used.field-0.0 _ c.loop-index-test.true long written)

pub loop-index-preserved : goal.loop-index-preserved
loop-index-preserved c =
    let names = c.args.names.now.names in
    let now = c.loop-index.out in
    let long = c.loop-index.auto.out in
    let most = c.min-room.ensures in
    let short = c.loop-index.invariant.short in
    let written = letter_behind names c.loop-index.index _ c.loop-index.used c.min-room.result now c.put_letter.new.left (omega arith) (omega arith) c.in_ok-used.field-0 c.in_ok-used.ensures in
    so_far_more names c.args.codes.now c.args.out.now c.loop-index.index c.loop-index.used now c.loop-index.invariant (c.loop-index.used + c.in_ok-used.field-0) _ c.loop-index-test.true long written

pub returns-clause-reads_back : goal.returns-clause-reads_back
returns-clause-reads_back c =
    reads_whole c.args.names.now.names c.args.codes.now c.args.out.now c.loop-index.index c.loop-index.used c.loop-index.out c.loop-index.invariant (omega arith) c.args.names.now.in_order
