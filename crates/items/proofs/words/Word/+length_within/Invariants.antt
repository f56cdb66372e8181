use Rattle.items.proofs.words.Word.+length_within.Given as goal

abbrev pub decreases-length_within : goal.decreases-length_within
decreases-length_within l = l.self.number
