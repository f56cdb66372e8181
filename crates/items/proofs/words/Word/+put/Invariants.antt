use Rattle.items.proofs.words.Word.+put.Given as goal

abbrev pub decreases-put : goal.decreases-put
decreases-put l = l.self.number
