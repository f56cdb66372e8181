use Rattle.std.proofs.Common.{sym, ◌∙◌}
use Rattle.search.specs.Model.{turn}
use Rattle.search.specs.Worklists.{board_of}
use Rattle.search.proofs.Loops.{turned_all, turned_final, turned_more}
use Rattle.search.proofs.Worklists.{loan_on, stepped}
use Rattle.search.proofs.worklist.Worklist.turns.Goals as goal

pub returns-then-is_final-clause-done : goal.returns-then-is_final-clause-done
returns-then-is_final-clause-done g c =
    let (loan, turned) = c.loop-done.invariant in
    let board = turned_final (g.M.Machine.meaning c.args.self.now.question.now) (g.M.Machine.equal c.args.self.now.question.now) (board_of c.args.self.now) c.args.n c.loop-done.done (board_of c.loop-done.self) turned (sym c.is_final.ensures ∙ c.if-is_final.true) in
    record { loan = loan; board = board }

pub loop-done-preserved : goal.loop-done-preserved
loop-done-preserved g c =
    let eq = g.M.Machine.equal c.args.self.now.question.now in
    let start = c.args.self.now in
    let loop = c.loop-done in
    let next = c.turn.new.self in
    let (loan, turned) = loop.invariant in
    let step = c.turn.ensures in (
      loan_on start loop.self next loan step.loan,
      turned_more (g.M.Machine.meaning start.question.now) eq (board_of start) c.args.n loop.done (board_of loop.self) turned (board_of next) c.loop-done-test.true (sym c.is_final.ensures ∙ c.if-is_final.false)
          (stepped start loop.self next (λ A eq b. turn A eq b) loan step),
    )

pub returns-clause-done : goal.returns-clause-done
returns-clause-done g c =
    let (loan, turned) = c.loop-done.invariant in
    let board = turned_all (g.M.Machine.meaning c.args.self.now.question.now) (g.M.Machine.equal c.args.self.now.question.now) (board_of c.args.self.now) c.args.n c.loop-done.done (board_of c.loop-done.self) turned c.loop-done-test.false in
    record { loan = loan; board = board }
