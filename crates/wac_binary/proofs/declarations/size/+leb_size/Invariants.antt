use Rattle.wac_binary.proofs.declarations.size.+leb_size.Given as goal

abbrev pub decreases-leb_size : goal.decreases-leb_size
decreases-leb_size l = l.n
