use Rattle.std.proofs.Common.{ap, rules}
use Rattle.sheets.proofs.Edges.{from_of, led, not_call, not_internal, not_pending, to_of, unled}
use Rattle.sheets.proofs.bounded.BoundedMove.read.Goals as goal
use Rattle.sheets.proofs.bounded.BoundedMove.read.Goals.{in-Internal-Internal, in-Internal-Internal-2, in-Internal-Internal-3, in_default-via-in-Internal+in_default, in_default-via-in-Call+in_default, in_default-via-in-Return+in_default, in_default-via-in-Internal-Internal+else-name-read}

pub returns-in-Internal-Internal : goal.returns-in-Internal-Internal
returns-in-Internal-Internal c =
    let by = led c.args.state c.moved.result c.args.self.of c.args.letter c.args.self.in_range _ _ c.moved.ensures in
    elim c.in-Internal-Internal-1.branch [
      | in-Internal-Internal w ↦ by (rw (w.in-Internal-Internal.is-1, w.in-Internal-Internal.is-0) (cc)) (let e = ap from_of w.in-Internal-Internal.is-1 in cc) (let e = ap to_of w.in-Internal-Internal.is-1 in cc)
      | in-Internal-Internal-2 w ↦ by (rw (w.in-Internal-Internal.is-1, w.in-Internal-Internal.is-0) (cc)) (let e = ap from_of w.in-Internal-Internal.is-1 in cc) (let e = ap to_of w.in-Internal-Internal.is-1 in cc)
      | in-Internal-Internal-3 w ↦ by (rw (w.in-Internal-Internal.is-1, w.in-Internal-Internal.is-0) (cc)) (let e = ap from_of w.in-Internal-Internal.is-1 in cc) (let e = ap to_of w.in-Internal-Internal.is-1 in cc)
    ]

pub returns-in_default : goal.returns-in_default
returns-in_default c = unled c.args.state _ c.args.self.of c.args.letter c.args.self.in_range
    (elim c.in_default.branch [
      | in_default-via-in-Internal+in_default w ↦ rw w.in_default.is-0 (not_internal c.args.self.of _ w.in_default.not-Internal-1)
      | in_default-via-in-Call+in_default w ↦ rw w.in_default.is-0 (not_call c.args.self.of _ w.in_default.not-Call-1)
      | in_default-via-in-Return+in_default w ↦ rw w.in_default.is-0 (not_pending c.args.self.of _ w.in_default.not-Pending-1)
      | in_default-via-in-Internal-Internal+else-name-read w ↦ elim w.in-Internal-Internal-1.branch [
        | in-Internal-Internal v ↦ rw (v.in-Internal-Internal.is-1, v.in-Internal-Internal.is-0) (λ e. w.if-name-read.false (cc))
        | in-Internal-Internal-2 v ↦ rw (v.in-Internal-Internal.is-1, v.in-Internal-Internal.is-0) (λ e. w.if-name-read.false (cc))
        | in-Internal-Internal-3 v ↦ rw (v.in-Internal-Internal.is-1, v.in-Internal-Internal.is-0) (λ e. w.if-name-read.false (cc))
      ]
    ]) (search rules)
