use Rattle.seek_words.proofs.length.+lengths_in.Given as goal

abbrev pub decreases-lengths_in : goal.decreases-lengths_in
decreases-lengths_in l = l.most
