use Rattle.std.proofs.Common.{length}
use Rattle.sheets.proofs.Checked.{followed_by_runs}
use Rattle.sheets.proofs.word.follow_sheet.Goals as goal

pub returns : goal.returns
returns c = record {
  answer = followed_by_runs c.args.sheet.now (length c.args.marks.now) c.args.codes.now c.follow_word.result c.follow_word.ensures.answer;
  marks = c.follow_word.ensures.marks;
}
