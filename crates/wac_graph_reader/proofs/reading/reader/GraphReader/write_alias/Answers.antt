use Rattle.std.proofs.Common.{◌<◌, ◌+◌, ◌*◌, ◌∙◌, [], ◌∷◌, ◌++◌, refl, ap, sym, subst, arith, IfSome, Ok}
use Rattle.wac_binary.specs.Indexes.{space, indexes}
use Rattle.wac_binary.specs.Items.{alias_item, export_alias}
use Rattle.wac_encode_scopes.specs.Lending.{with_items}
use Rattle.wac_encode_scopes.specs.Roots.{items_of}
use Rattle.wac_graph_model.specs.meaning.Means.{sort_of_kind}
use Rattle.wac_graph_model.specs.private.meaning.Encoding.{index_in}
use Rattle.wac_graph_model.specs.private.meaning.Writing.{WritesNode}
use Rattle.wac_graph_model.specs.nodes.Graph.{alias, node_at, IsSourceOf}
use Rattle.wac_graph_model.specs.weight.GraphWeight.{kind_weight}
use Rattle.wac_graph_fields.proofs.AliasLemmas.{interface_there}
use Rattle.wac_edges.specs.Edge.{alias_edge}
use Rattle.wac_graph_reader.proofs.lemmas.writing.WriteArgumentsLemmas.{source_noted, index_is}
use Rattle.wac_graph_reader.proofs.lemmas.writing.WriteAliasLemmas.{alias_sourced, source_there, source_is_instance, position_there, alias_there, alias_added, alias_of}
use Rattle.wac_graph_reader.proofs.lemmas.writing.AliasSizes.{alias_weighs}
use Rattle.wac_graph_reader.proofs.lemmas.writing.ItemSizes.{added_size, alias_size, exit_added, if_each}
use Rattle.wac_graph_reader.specs.private.writing.Sizes.{AddsWithin}
use Rattle.wac_graph_reader.specs.private.reading.Inside.{fields_of}
use Rattle.wac_graph_reader.proofs.reading.reader.GraphReader.write_alias.Goals as goal

pub unreachable-requires : goal.unreachable-requires
unreachable-requires c = alias_sourced (fields_of c.self.inside) c.self.invariant c.args.n.0 (rw (← c.self.view_is) at c.requires.alias) c.in_default.ensures.none

pub index-requires : goal.index-requires
index-requires c = source_there (fields_of c.self.inside) c.self.invariant c.args.n.0 (rw (← c.self.view_is) at c.requires.alias) c.in-Some.source.0 c.in-Some.position c.in-Some.ensures.some

pub unreachable-requires-in_default-item_kind : goal.unreachable-requires-in_default-item_kind
unreachable-requires-in_default-item_kind c =
    source_is_instance (fields_of c.self.inside) c.self.invariant c.args.n.0 (rw (← c.self.view_is) at c.requires.alias) c.in-Some.source.0 c.in-Some.position c.in-Some.ensures.some c.index.result.now c.index.ensures (λ i is. c.in_default-item_kind.not-Instance i (c.item_kind.ensures ∙ is))

pub index-requires-2 : goal.index-requires-2
index-requires-2 c = interface_there (fields_of c.self.inside) c.self.invariant c.in-Some.source c.index.result.now c.in-Instance.interface c.index.ensures (sym c.item_kind.ensures ∙ c.in-Instance.is)

pub name_at-name-requires : goal.name_at-name-requires
name_at-name-requires c =
    position_there (fields_of c.self.inside) c.self.invariant c.args.n.0 (rw (← c.self.view_is) at c.requires.alias) c.in-Some.source.0 c.in-Some.position c.in-Some.ensures.some c.index.result.now c.in-Instance.interface c.index-2.result.now c.index.ensures (sym c.item_kind.ensures ∙ c.in-Instance.is) c.index-2.ensures

pub index-requires-3 : goal.index-requires-3
index-requires-3 c =
    alias_there (fields_of c.self.inside) c.self.invariant c.args.n.0 (rw (← c.self.view_is) at c.requires.alias) c.in-Some.source.0 c.in-Some.position c.in-Some.ensures.some c.index.result.now c.in-Instance.interface c.index-2.result.now c.index.ensures (sym c.item_kind.ensures ∙ c.in-Instance.is) c.index-2.ensures

pub returns-clause-written : goal.returns-clause-written
returns-clause-written c o m places =
    let state = c.args.encoder.now.state in
    let grown = c.in_ok-index.ensures.appended ∙ ap (λ xs. xs ++ alias_item (export_alias c.sort_of-sort.result c.index-instance.result.now c.name_at-name.result.now) ∷ []) c.builder.ensures.value in
    subst (λ g. IfSome (node_at g c.args.n) (λ node. WritesNode g o m places c.args.n node (index_in c.args.encoder.now.indexes.items) c.args.encoder.now.components c.args.encoder.now.components (items_of state.here.content) c.alias_export.new.self c.in_ok-index.index)) c.self.view_is
    (alias_added (fields_of c.self.inside) c.self.invariant c.args.n.0 (rw (← c.self.view_is) at c.requires.alias) c.in-Some.source.0 c.in-Some.position c.in-Some.ensures.some c.index.result.now c.in-Instance.interface c.index-2.result.now c.index.ensures (sym c.item_kind.ensures ∙ c.in-Instance.is) c.index-2.ensures
    o m places c.index-3.result.now c.index-3.ensures c.name_at-name.result.now c.name_at-name.ensures c.sort_of-sort.result (c.sort_of-sort.ensures ∙ ap sort_of_kind c.item_kind-2.ensures)
    (index_in c.args.encoder.now.indexes.items) c.index-instance.result.now (index_is c.args.encoder.now.indexes.items c.in-Some.source.0 c.index-instance.result.now (source_noted (fields_of c.self.inside) c.self.invariant c.args.self.now c.self.view_is c.args.encoder.now.indexes.items c.requires.room (alias_edge c.in-Some.source c.args.n c.in-Some.position) c.in-Some.ensures.some) c.index-instance.ensures)
    c.args.encoder.now.components c.args.encoder.now.components refl
    (items_of state.here.content) c.alias_export.new.self grown c.in_ok-index.index (c.in_ok-index.ensures.index ∙ ap (indexes (space c.sort_of-sort.result)) c.builder.ensures.value))

pub returns-clause-appended : goal.returns-clause-appended
returns-clause-appended c =
    let added = alias_item (export_alias c.sort_of-sort.result c.index-instance.result.now c.name_at-name.result.now) ∷ [] in
    (added, ap (with_items c.args.encoder.now.state) (c.in_ok-index.ensures.appended ∙ ap (λ xs. xs ++ added) c.builder.ensures.value))

pub index-instance-requires : goal.index-instance-requires
index-instance-requires c = subst (λ k. c.in-Some.source.0 < k) (sym c.args.encoder.now.indexes.ok.0)
    (source_noted (fields_of c.self.inside) c.self.invariant c.args.self.now c.self.view_is c.args.encoder.now.indexes.items c.requires.room (alias_edge c.in-Some.source c.args.n c.in-Some.position) c.in-Some.ensures.some)

pub returns-clause-cost : goal.returns-clause-cost
returns-clause-cost c =
    let old = items_of c.args.encoder.now.state.here.content in
    let x = alias_item (export_alias c.sort_of-sort.result c.index-instance.result.now c.name_at-name.result.now) in
    let source = subst (λ g. IsSourceOf g c.args.n c.in-Some.source c.name_at-name.result.now) c.self.view_is
    (alias_of (fields_of c.self.inside) c.self.invariant c.args.n.0 (rw (← c.self.view_is) at c.requires.alias) c.in-Some.source.0 c.in-Some.position c.in-Some.ensures.some c.index.result.now c.in-Instance.interface c.index-2.result.now c.index.ensures (sym c.item_kind.ensures ∙ c.in-Instance.is) c.index-2.ensures
    c.name_at-name.result.now c.name_at-name.ensures) in
    let grown = c.in_ok-index.ensures.appended ∙ ap (λ xs. xs ++ x ∷ []) c.builder.ensures.value in
    let size = alias_size c.sort_of-sort.result c.index-instance.result.now c.name_at-name.result.now c.index_law.ensures in
    if_each (λ node. AddsWithin (20 + 2 * kind_weight c.args.self.now c.args.n.0 node alias) old c.alias_export.new.self (Ok c.in_ok-index.index)) (node_at c.args.self.now c.args.n)
    (λ node. let less = alias_weighs c.args.self.now c.args.n c.in-Some.source c.name_at-name.result.now source node in added_size old c.alias_export.new.self x (20 + 2 * kind_weight c.args.self.now c.args.n.0 node alias) grown (omega (arith, size, less)))

pub returns-in_err-index-clause-cost : goal.returns-in_err-index-clause-cost
returns-in_err-index-clause-cost c =
    let old = items_of c.args.encoder.now.state.here.content in
    let x = alias_item (export_alias c.sort_of-sort.result c.index-instance.result.now c.name_at-name.result.now) in
    let source = subst (λ g. IsSourceOf g c.args.n c.in-Some.source c.name_at-name.result.now) c.self.view_is
    (alias_of (fields_of c.self.inside) c.self.invariant c.args.n.0 (rw (← c.self.view_is) at c.requires.alias) c.in-Some.source.0 c.in-Some.position c.in-Some.ensures.some c.index.result.now c.in-Instance.interface c.index-2.result.now c.index.ensures (sym c.item_kind.ensures ∙ c.in-Instance.is) c.index-2.ensures
    c.name_at-name.result.now c.name_at-name.ensures) in
    let size = alias_size c.sort_of-sort.result c.index-instance.result.now c.name_at-name.result.now c.index_law.ensures in
    if_each (λ node. AddsWithin (20 + 2 * kind_weight c.args.self.now c.args.n.0 node alias) old c.alias_export.new.self c.from_residual.result) (node_at c.args.self.now c.args.n)
    (λ node. let less = alias_weighs c.args.self.now c.args.n c.in-Some.source c.name_at-name.result.now source node in
    exit_added c.size_law.ensures.fits c.builder.result.now old c.alias_export.new.self x (20 + 2 * kind_weight c.args.self.now c.args.n.0 node alias) (c.in_err-index.field-0).0 c.from_residual.result c.from_residual.ensures.1 c.builder.ensures.value (omega (arith, size, less)) c.in_err-index.ensures.too_large)
