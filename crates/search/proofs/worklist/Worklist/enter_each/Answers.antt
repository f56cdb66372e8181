use Rattle.std.proofs.Common.{[], ◌∷◌, ap, sym, ◌∙◌, arith}
use Rattle.search.proofs.Worklists.{gone_all, gone_not, gone_on, gone_to}
use Rattle.search.proofs.worklist.Worklist.enter_each.Goals as goal

pub loop-name-init : goal.loop-name-init
loop-name-init g c made computes = gone_not c.args.self.now (λ A eq items name. made name ∷ [])

pub returns-then-is_final : goal.returns-then-is_final
returns-then-is_final g c made computes =
    let loop = c.loop-name in
    gone_all c.args.self.now (λ A eq items name. made name ∷ []) loop.self loop.name (loop.invariant made computes) 16 (omega arith) (sym c.is_final.ensures ∙ c.if-is_final.true)

pub loop-name-preserved : goal.loop-name-preserved
loop-name-preserved g c made computes =
    let loop = c.loop-name in
    gone_on c.args.self.now (λ A eq items name. made name ∷ []) loop.self loop.name (loop.invariant made computes) c.enter.new.self c.make.result c.enter.ensures
    (ap (λ x. x ∷ []) (computes loop.name c.make.result c.loop-name-test.true c.make.ensures))

pub returns : goal.returns
returns g c made computes =
    let loop = c.loop-name in
    gone_to c.args.self.now (λ A eq items name. made name ∷ []) loop.self loop.name 16 (loop.invariant made computes) (omega arith)
