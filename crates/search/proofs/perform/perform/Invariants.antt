use Rattle.std.proofs.Common.{◌+◌, ◌≤◌, vec_items, vec_len, vec_capacity}
use Rattle.std.specs.Vec.Iter.{into_iter_items, into_iter_len}
use Rattle.search.specs.Performing.{kept_board}
use Rattle.search.proofs.Performing.{Leads}
use Rattle.search.proofs.perform.perform.Given as goal

-- there is room for the answers to come
abbrev pub invariant-loop-call : goal.invariant-loop-call
invariant-loop-call g l =
    (goal.iterator-loop-call g).can_next l.call-iterator ×
    (goal.iterator-loop-call g).is_finite l.call-iterator ×
    (vec_len l.answers + into_iter_len l.call-iterator ≤ vec_capacity l.answers) ×
    Leads (g.M.Machine.meaning l.question) (g.M.Machine.equal l.question) (into_iter_items l.initial.call-iterator) (vec_items l.answers) (kept_board l.kept) (into_iter_items l.call-iterator)
