use Rattle.turn_hall.proofs.hall.Hall.split.Given as goal

abbrev pub ghosts-split_chosen : goal.ghosts-split_chosen
ghosts-split_chosen g a = record { number = a.number }
