use Rattle.std.proofs.Common.{◌≡◌, ℕ, ◌<◌, sym, subst, arith, rules}
use Rattle.search.proofs.Worklists.{all_tried, later_four, later_one, later_three, later_two}
use Rattle.search.proofs.worklist.Worklist.handle.Goals as goal

pub by_pending-requires : goal.by_pending-requires
by_pending-requires g c =
    let later = later_one c.args.self.now c.args.number c.requires.there c.by_internal.new.self c.by_internal.ensures in
    let grown = later.grown in record { there = omega arith }

pub by_call-requires : goal.by_call-requires
by_call-requires g c =
    let later = later_two c.args.self.now c.args.number c.requires.there c.by_internal.new.self c.by_internal.ensures c.by_pending.new.self c.by_pending.ensures in
    let grown = later.grown in record { there = omega arith }

pub match_each-requires-clause-there : goal.match_each-requires-clause-there
match_each-requires-clause-there g c k p lt post =
    let grown = (later_three c.args.self.now c.args.number c.requires.there c.by_internal.new.self c.by_internal.ensures c.by_pending.new.self c.by_pending.ensures c.by_call.new.self c.by_call.ensures).grown in
    let is : p ≡ (k, c.args.number) = search rules in
    let end = c.by_call.new.self.at.entered in
    subst (λ (q : ℕ × ℕ). (q.0 < end) × (q.1 < end)) (sym is) (omega arith, omega arith)

pub match_each-requires-2-clause-there : goal.match_each-requires-2-clause-there
match_each-requires-2-clause-there g c k p lt post =
    let grown = (later_four c.args.self.now c.args.number c.requires.there c.by_internal.new.self c.by_internal.ensures c.by_pending.new.self c.by_pending.ensures c.by_call.new.self c.by_call.ensures c.match_each.new.self (c.match_each.ensures (λ k. (k, c.args.number)) (λ k p lt post. search rules))).grown in
    let is : p ≡ (c.args.number, k) = search rules in
    let end = c.match_each.new.self.at.entered in
    subst (λ (q : ℕ × ℕ). (q.0 < end) × (q.1 < end)) (sym is) (omega arith, omega arith)

pub returns : goal.returns
returns g c =
    all_tried c.args.self.now c.args.number c.requires.there c.by_internal.new.self c.by_internal.ensures c.by_pending.new.self c.by_pending.ensures c.by_call.new.self c.by_call.ensures
    c.match_each.new.self (c.match_each.ensures (λ k. (k, c.args.number)) (λ k p lt post. search rules)) c.match_each-2.new.self (c.match_each-2.ensures (λ k. (c.args.number, k)) (λ k p lt post. search rules))
