use Rattle.std.proofs.Common.{vec_items, sym, ◌∙◌, subst, arith}
use Rattle.std.specs.Vec.Iter.{into_iter_items}
use Rattle.std.proofs.lemmas.List.{nil_from_length}
use Rattle.search.specs.Law.{Law, at_first}
use Rattle.search.specs.Performing.{kept_board}
use Rattle.search.specs.Reached.{Lawful}
use Rattle.search.proofs.Performing.{leads_law, leads_more}
use Rattle.search.proofs.perform.perform.Goals as goal

pub loop-call-preserved : goal.loop-call-preserved
loop-call-preserved g c =
    let A = g.M.Machine.meaning c.args.question.now in
    let eq = g.M.Machine.equal c.args.question.now in
    let all = into_iter_items c.into_iter-call-iterator.result in
    let loop = c.loop-call in
    let (_, _, room, leads) = loop.invariant in
    let (next, fewer) = c.in-Some.ensures.steps in (
      tt,
      tt,
      omega arith,
      leads_more A eq all (vec_items loop.answers) (kept_board loop.kept) (into_iter_items loop.call-iterator) leads
          c.in-Some.call (into_iter_items c.next.new.self) next c.answer.result (kept_board c.answer.new.self) c.answer.ensures (vec_items c.push_reserved.new.self) c.push_reserved.ensures.items,
    )

pub returns : goal.returns
returns g c =
    let question = c.args.question.now in
    let A = g.M.Machine.meaning question in
    let eq = g.M.Machine.equal c.args.question.now in
    let law : Lawful eq = record { only = g.met.M.Machine.equal_only question; itself = g.met.M.Machine.equal_itself question } in
    let all = into_iter_items c.into_iter-call-iterator.result in
    let loop = c.loop-call in
    let left = into_iter_items loop.call-iterator in
    let (_, _, _, leads) = loop.invariant in
    let (none, _) = c.in-None.ensures.steps in
    subst (λ calls. Law A at_first calls (vec_items loop.answers)) c.into_iter-call-iterator.ensures.into_iter_gives.0
    (leads_law A eq all (vec_items loop.answers) (kept_board loop.kept) left leads law (nil_from_length left (sym loop.call-iterator.rest.ok.0 ∙ none)))
