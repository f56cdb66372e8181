use Rattle.std.proofs.Common.{vec_items, sym, ◌∙◌}
use Rattle.sheets.proofs.Loops.{gone_all, gone_more, gone_none, move_in_range}
use Rattle.sheets.proofs.Onward.{same_sets}
use Rattle.sheets.specs.Steps.{nowhere}
use Rattle.sheets.proofs.sheet.Sheet.along.Goals as goal

pub loop-one-init : goal.loop-one-init
loop-one-init g c s t adds one = same_sets c.default-reached.result nowhere c.default-reached.ensures.0 c.default-reached.ensures.1 ∙ sym (gone_none t adds s)

pub invariant_of-adds : goal.invariant_of-adds
invariant_of-adds g c = record { in_range = move_in_range c.args.self.now c.deref-one-items.result.now c.loop-one.one-index _ c.deref-one-items.ensures.value c.loop-one-test.true }

pub loop-one-preserved : goal.loop-one-preserved
loop-one-preserved g c s t adds one =
    gone_more t adds s (vec_items c.args.self.now.moves) c.deref-one-items.result.now c.deref-one-items.ensures.value c.loop-one.one-index _ c.loop-one.reached c.adds.result _ c.loop-one-test.true (c.loop-one.invariant s t adds one) (one _ _ c.adds.ensures) c.bitor_assign.ensures.after

pub returns : goal.returns
returns g c s t adds one = gone_all t adds s (vec_items c.args.self.now.moves) c.deref-one-items.result.now c.deref-one-items.ensures.value c.loop-one.one-index c.loop-one.reached c.loop-one-test.false (c.loop-one.invariant s t adds one)
