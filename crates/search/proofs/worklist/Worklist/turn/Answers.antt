use Rattle.search.specs.Worklists.{board_of}
use Rattle.search.proofs.Loops.{left_handled, turn_made}
use Rattle.search.proofs.worklist.Worklist.turn.Goals as goal

pub after_turn-self-requires : goal.after_turn-self-requires
after_turn-self-requires g c =
    left_handled (g.M.Machine.meaning c.args.self.now.question.now) (g.M.Machine.equal c.args.self.now.question.now) (board_of c.args.self.now) c.args.self.now.fitting (board_of c.handle.new.self) c.handle.ensures.board c.requires.left

pub returns : goal.returns
returns g c =
    let loan = c.handle.ensures.loan in
    record {
      loan = record { question = loan.question; items = loan.items; makings = loan.makings };
      board = turn_made (g.M.Machine.meaning c.args.self.now.question.now) (g.M.Machine.equal c.args.self.now.question.now) (board_of c.args.self.now) c.args.self.now.fitting (board_of c.handle.new.self) c.handle.ensures.board c.after_turn-self.result c.after_turn-self.ensures;
    }
