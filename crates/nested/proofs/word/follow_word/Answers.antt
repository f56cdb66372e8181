use Rattle.std.proofs.Common.{◌≡◌, Ok, rules, ◌∙◌}
use Rattle.nested.proofs.Words.{followed_none, followed_more, read_whole}
use Rattle.nested.proofs.word.follow_word.Goals as goal

pub loop-letter-init : goal.loop-letter-init
loop-letter-init g c = (c.begin-follower.ensures.machine, followed_none _ _ _ _ c.begin-follower.ensures.at)

pub loop-letter-preserved : goal.loop-letter-preserved
loop-letter-preserved g c =
    let (same, f) = c.loop-letter.invariant in
    let read : c.follow.result ≡ Ok tt = search rules in
    (c.follow.ensures.machine ∙ same, followed_more _ _ _ _ _ _ f _ _ c.loop-letter-test.true c.loop-letter.auto.marks (rw read at c.follow.ensures.answer) (rw (read, same) at c.follow.ensures.reads))

pub returns-clause-answer : goal.returns-clause-answer
returns-clause-answer g c =
    let (same, f) = c.loop-letter.invariant in
    read_whole _ _ _ _ _ _ f _ c.loop-letter-test.false (rw same at c.standing.ensures.accepts) c.standing.ensures.taken
