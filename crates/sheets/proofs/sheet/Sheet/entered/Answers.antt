use Rattle.std.proofs.Common.{◌%◌, get_or, replicate, vec_items, sym, refl, ap, ◌∙◌}
use Rattle.std.proofs.lemmas.List.{get_or-replicate}
use Rattle.sheets.specs.Steps.{by_inner, nowhere}
use Rattle.sheets.proofs.Loops.{additive_inner, gone_all, gone_more, gone_none, move_in_range}
use Rattle.sheets.proofs.Onward.{same_sets}
use Rattle.sheets.proofs.sheet.Sheet.entered.Goals as goal

pub loop-one-init : goal.loop-one-init
loop-one-init c m lt =
    ap (λ x. get_or (replicate 16 x) m nowhere) (same_sets c.default-row.result nowhere c.default-row.ensures.0 c.default-row.ensures.1) ∙ get_or-replicate 16 m nowhere nowhere lt
    ∙ sym (gone_none (λ ms. by_inner ms c.args.state.pairs (c.args.opened % 16) m) (additive_inner c.args.state.pairs (c.args.opened % 16) m) c.args.before)

pub invariant_of-enter : goal.invariant_of-enter
invariant_of-enter c = record { in_range = move_in_range c.args.self.now c.deref-one-items.result.now c.loop-one.one-index _ c.deref-one-items.ensures.value c.loop-one-test.true }

pub loop-one-preserved : goal.loop-one-preserved
loop-one-preserved c m lt =
    gone_more (λ ms. by_inner ms c.args.state.pairs (c.args.opened % 16) m) (additive_inner c.args.state.pairs (c.args.opened % 16) m) c.args.before (vec_items c.args.self.now.moves) c.deref-one-items.result.now c.deref-one-items.ensures.value c.loop-one.one-index _ (get_or c.loop-one.row m nowhere) _ (get_or c.enter.new.row m nowhere) c.loop-one-test.true (c.loop-one.invariant m lt) refl (c.enter.ensures m lt)

pub returns : goal.returns
returns c m lt = gone_all (λ ms. by_inner ms c.args.state.pairs (c.args.opened % 16) m) (additive_inner c.args.state.pairs (c.args.opened % 16) m) c.args.before (vec_items c.args.self.now.moves) c.deref-one-items.result.now c.deref-one-items.ensures.value c.loop-one.one-index (get_or c.loop-one.row m nowhere) c.loop-one-test.false (c.loop-one.invariant m lt)
