use Rattle.std.proofs.Common.{ap, arith, rules}
use Rattle.sheets.specs.Moves.{all_in_range}
use Rattle.sheets.proofs.Masks.{has_above, masks_are_sets}
use Rattle.sheets.proofs.RunWords.{accepts_by_runs}
use Rattle.sheets.proofs.sheet.Sheet.new.Goals as goal

pub invariant_of-result : goal.invariant_of-result
unfolding all_in_range
invariant_of-result c = record {
  some_states = search rules;
  few_states = search rules;
  start_in = omega arith;
  accepting_in = omega arith;
  few_moves = search rules;
  moves_in = ap (all_in_range 1) c.new.ensures.items;
}

pub returns : goal.returns
returns c = record {
  parts = λ i. record { states = 1; start = 0; accepting = 0; moves = c.new.ensures.items i };
  sets = masks_are_sets;
  runs = accepts_by_runs masks_are_sets has_above;
}
