use Rattle.dv_link.proofs.link.Link.new.Given as goal

abbrev pub ghosts-ends : goal.ghosts-ends
ghosts-ends g a = record { link = a.link }
