use Rattle.std.proofs.Common.{ap, sym, subst, ◌∙◌}
use Rattle.wac_binary.specs.Views.{names_of}
use Rattle.wac_graph_reader.specs.private.writing.Sizes.{AreShortNames}
use Rattle.wac_graph_reader.proofs.lemmas.reading.NamesLemmas.{joined}
use Rattle.wac_graph_reader.proofs.lemmas.writing.NameSizes.{short_joined}
use Rattle.wac_graph_reader.proofs.reading.reader.GraphReader.add_names.Goals as goal

pub returns-clause-names : goal.returns-clause-names
returns-clause-names c = (names_of c.in_ok-more.more.items, c.in_ok-more.ensures.names, ap names_of c.in_ok-append.ensures.items ∙ joined c.args.names.now.items c.in_ok-more.more.items)

pub returns-clause-short : goal.returns-clause-short
returns-clause-short c = λ short. subst AreShortNames (sym (ap names_of c.in_ok-append.ensures.items ∙ joined c.args.names.now.items c.in_ok-more.more.items))
    (short_joined (names_of c.args.names.now.items) (names_of c.in_ok-more.more.items) short c.in_ok-more.ensures.short)
