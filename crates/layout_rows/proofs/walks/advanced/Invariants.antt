use Rattle.layout_rows.proofs.walks.advanced.Given as goal

abbrev pub ghosts-steps_of : goal.ghosts-steps_of
ghosts-steps_of g a = record { name = a.blank.name; parts = a.blank.parts }
