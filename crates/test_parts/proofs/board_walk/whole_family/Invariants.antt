use Rattle.test_parts.proofs.board_walk.whole_family.Given as goal

-- nothing is assumed of the family
abbrev pub ghost-read_all : goal.ghost-read_all
ghost-read_all a = tt
