use Rattle.std.proofs.Common.{◌≡◌, cond, refl, sym, ◌∙◌, rules, arith}
use Rattle.search.specs.Model.{enter}
use Rattle.search.specs.Worklists.{board_of}
use Rattle.search.specs.declared.verdict.Verdict.TheVariants.{Found, Running}
use Rattle.search.proofs.Boards.{enter_full, enter_listed, enter_put}
use Rattle.search.proofs.Entering.{enter_final, running_from}
use Rattle.search.proofs.Worklists.{same_loan}
use Rattle.search.proofs.worklist.Worklist.enter.Goals as goal
use Rattle.search.proofs.worklist.Worklist.enter.Goals.{then-is_final-via-then-is_final, then-is_final-via-else-is_final+then-is_listed}

pub returns-then-is_final : goal.returns-then-is_final
returns-then-is_final g c =
    let A = g.M.Machine.meaning c.args.self.now.question.now in
    let eq = g.M.Machine.equal c.args.self.now.question.now in
    let b = board_of c.args.self.now in
    let same : enter A eq b c.args.candidate ≡ b = elim c.then-is_final.branch [
      | then-is_final-via-then-is_final w ↦ enter_final A eq b c.args.candidate (sym c.is_final.ensures ∙ w.if-is_final.true)
      | then-is_final-via-else-is_final+then-is_listed w ↦ enter_listed A eq b c.args.candidate (sym c.is_final.ensures ∙ w.if-is_final.false) (sym w.is_listed.ensures ∙ w.if-is_listed.true)
    ] in
    record { loan = same_loan c.args.self.now; board = sym same }

pub returns-then-entered-places : goal.returns-then-entered-places
returns-then-entered-places g c =
    let board = enter_full (g.M.Machine.meaning c.args.self.now.question.now) (g.M.Machine.equal c.args.self.now.question.now) (board_of c.args.self.now) c.args.candidate (sym c.is_final.ensures ∙ c.if-is_final.false) (sym c.is_listed.ensures ∙ c.if-is_listed.false) (omega arith) in
    record { loan = record { question = refl; items = refl; makings = refl }; board = sym board }

pub returns-then-accepts : goal.returns-then-accepts
returns-then-accepts g c =
    let A = g.M.Machine.meaning c.args.self.now.question.now in
    let says : Found ≡ cond (A.accepts c.args.candidate.new.present) Found Running = search rules in
    let board = enter_put A (g.M.Machine.equal c.args.self.now.question.now) (board_of c.args.self.now) c.args.candidate (sym c.is_final.ensures ∙ c.if-is_final.false) (sym c.is_listed.ensures ∙ c.if-is_listed.false) (omega arith) Found says in
    record { loan = record { question = refl; items = refl; makings = refl }; board = board }

pub returns-else-accepts : goal.returns-else-accepts
returns-else-accepts g c =
    let A = g.M.Machine.meaning c.args.self.now.question.now in
    let verdict = c.args.self.now.at.verdict in
    let going = sym c.is_final.ensures ∙ c.if-is_final.false in
    let stays : Running ≡ cond (A.accepts c.args.candidate.new.present) Found Running = search rules in
    let board = enter_put A (g.M.Machine.equal c.args.self.now.question.now) (board_of c.args.self.now) c.args.candidate going (sym c.is_listed.ensures ∙ c.if-is_listed.false) (omega arith) verdict (running_from verdict going ∙ stays) in
    record { loan = record { question = refl; items = refl; makings = refl }; board = board }
