use Rattle.wac_reader_parts.proofs.bytes.+leb_of.Given as goal

abbrev pub decreases-leb_of : goal.decreases-leb_of
decreases-leb_of l = l.k
