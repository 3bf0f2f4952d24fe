use Rattle.std.proofs.Common.{ap, sym, subst}
use Rattle.wac_graph_model.specs.private.meaning.Encoding.{index_in}
use Rattle.wac_binary.specs.Views.{names_of}
use Rattle.wac_graph_reader.specs.private.writing.Sizes.{AreShortNames}
use Rattle.wac_graph_reader.proofs.lemmas.writing.NamingLemmas.{all_names}
use Rattle.wac_graph_reader.proofs.lemmas.reading.NamesLemmas.{six}
use Rattle.wac_graph_reader.proofs.reading.reader.GraphReader.index_names.Goals as goal

pub returns-clause-names : goal.returns-clause-names
returns-clause-names c =
    let a = c.in_ok-add_names.ensures.names in
    let b = c.in_ok-add_names-2.ensures.names in
    let d = c.in_ok-add_names-3.ensures.names in
    let e = c.in_ok-add_names-4.ensures.names in
    let f = c.in_ok-add_names-5.ensures.names in
    let h = c.in_ok-add_names-6.ensures.names in
    all_names c.args.self.now (index_in c.args.indexes.now) a.0 b.0 d.0 e.0 f.0 h.0 a.1 b.1 d.1 e.1 f.1 h.1 (names_of c.add_names-6.new.names.items)
    (six (names_of c.new-names.result.items) _ _ _ _ _ _ a.0 b.0 d.0 e.0 f.0 h.0 (ap names_of c.new-names.ensures.items) a.2 b.2 d.2 e.2 f.2 h.2)

pub returns-clause-short : goal.returns-clause-short
returns-clause-short c =
    let none : AreShortNames (names_of c.new-names.result.items) = subst (λ items. AreShortNames (names_of items)) (sym c.new-names.ensures.items) tt in
    c.in_ok-add_names-6.ensures.short (c.in_ok-add_names-5.ensures.short (c.in_ok-add_names-4.ensures.short (c.in_ok-add_names-3.ensures.short (c.in_ok-add_names-2.ensures.short (c.in_ok-add_names.ensures.short none)))))
