use Rattle.std.proofs.Common.{◌*◌, ◌/◌, ◌^◌, rules}
use Rattle.sheets.proofs.Bits.{byte_below, column_below}
use Rattle.sheets.proofs.Onward.{spread_sets}
use Rattle.sheets.proofs.state.SheetState.spread.Goals as goal

pub overflow_mul-result : goal.overflow_mul-result
overflow_mul-result c = let fits = column_below (c.args.self.pairs / 2 ^ c.args.from) _ (byte_below (c.args.inner.pairs / 2 ^ (8 * c.args.to))) in search rules

pub returns : goal.returns
returns c = spread_sets c.args.self c.args.from c.requires.from_bound c.args.inner.pairs c.args.to
