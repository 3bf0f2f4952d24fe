use Rattle.std.proofs.Common.{refl, ◌∙◌, ap, [], ◌∷◌, ◌++◌}
use Rattle.wac_binary.specs.declared.sorts.Sort.TheVariants as sort
use Rattle.wac_binary.specs.Indexes.{space, indexes}
use Rattle.wac_binary.specs.Items.{instantiate}
use Rattle.wac_binary.specs.Views.{arguments_of}
use Rattle.wac_encode_scopes.specs.Lending.{with_items}
use Rattle.wac_encode_scopes.specs.Roots.{items_of}
use Rattle.wac_graph_reader.proofs.lemmas.writing.WriteArgumentsLemmas.{added_instantiation}
use Rattle.wac_graph_encode.proofs.lemmas.encoding.RootLemmas.{keeps-more}
use Rattle.wac_graph_encode.proofs.lemmas.encoding.PackageLemmas.{package-ready}
use Rattle.wac_graph_encode.proofs.lemmas.encoding.RootCosts.{instantiation-cost, instantiation-refused, packages-exit, packages-memory, instantiation-part}
use Rattle.wac_graph_encode.proofs.encoding.writer.GraphWriter.write_instantiation.Goals as goal

pub component-requires-clause-ready : goal.component-requires-clause-ready
component-requires-clause-ready c = package-ready c.args.self.now c.args.n c.package_of.result.0 c.package_of.result.1.now c.args.encoder.now.state c.law.ensures c.requires.instantiation c.package_of.ensures.owner c.package_of.ensures.registered c.requires.ready

pub builder-requires : goal.builder-requires
builder-requires c = c.in_ok-component.ensures.bottom

pub returns-clause-written : goal.returns-clause-written
returns-clause-written c = λ o same m open_root.
    let w = c.args.self.now in
    let s = c.args.encoder.now.state in
    let mid = c.component.new.encoder in
    added_instantiation w.reader.now o m w.imports.now.places.items c.args.n.0 c.package_of.result.0 c.args.encoder.now.indexes.items c.deref.result.now c.in_ok-arguments.arguments.items c.deref-2.result.now c.in_ok-component.component
    c.args.encoder.now.components mid.components (items_of s.here.content) (items_of mid.state.here.content) c.instantiate.new.self c.in_ok-index.index
    c.requires.instantiation c.package_of.ensures.owner c.deref.ensures.value c.deref-2.ensures.value c.in_ok-arguments.ensures.items (c.in_ok-component.ensures.there o same m open_root)
    (c.in_ok-index.ensures.appended ∙ ap (λ xs. xs ++ instantiate c.in_ok-component.component (arguments_of c.deref-2.result.now) ∷ []) c.builder.ensures.value)
    (c.in_ok-index.ensures.index ∙ ap (indexes (space sort.Instance)) c.builder.ensures.value)

pub returns-clause-root : goal.returns-clause-root
returns-clause-root c =
    let mid = c.component.new.encoder in
    let x = instantiate c.in_ok-component.component (arguments_of c.deref-2.result.now) in
    keeps-more c.growth_law.ensures c.args.self.now.reader.now c.args.encoder.now.state mid.state (with_items mid.state c.instantiate.new.self) x
    (ap (with_items mid.state) (c.in_ok-index.ensures.appended ∙ ap (λ xs. xs ++ x ∷ []) c.builder.ensures.value)) c.in_ok-component.ensures.root

pub returns-clause-cost : goal.returns-clause-cost
returns-clause-cost c = λ o same.
    instantiation-cost c.args.self.now.reader.now o c.args.self.now.imports.now.places.items c.args.encoder.now.indexes.items c.args.n c.args.encoder.now c.component.new.encoder (with_items c.component.new.encoder.state c.instantiate.new.self) c.package_of.result.0 c.package_of.result.1.now c.in_ok-component.component c.in_ok-arguments.arguments.items
    c.requires.instantiation c.package_of.ensures.owner c.package_of.ensures.registered c.in_ok-component.ensures.bottom c.index_law.ensures c.in_ok-arguments.ensures.items c.in_ok-arguments.ensures.short c.deref.ensures.value (c.in_ok-component.ensures.cost o same)
    c.instantiate.new.self refl (c.in_ok-index.ensures.appended ∙ ap (λ xs. xs ++ instantiate c.in_ok-component.component (arguments_of c.deref-2.result.now) ∷ []) c.builder.ensures.value) c.deref-2.result.now c.deref-2.ensures.value

pub returns-in_err-arguments-clause-cost : goal.returns-in_err-arguments-clause-cost
returns-in_err-arguments-clause-cost c = λ o same. packages-memory c.args.self.now.reader.now o _ c.args.encoder.now c.args.encoder.now c.from_residual.result c.from_residual.ensures.1

pub returns-in_err-component-clause-cost : goal.returns-in_err-component-clause-cost
returns-in_err-component-clause-cost c = λ o same. packages-exit c.args.self.now.reader.now o _ _ c.args.encoder.now c.component.new.encoder c.component.new.encoder (c.in_err-component.field-0).0 c.from_residual-in_err-component.result c.from_residual-in_err-component.ensures.1
    (instantiation-part c.args.self.now.reader.now o c.args.n c.package_of.result.0 c.package_of.result.1.now c.requires.instantiation c.package_of.ensures.owner c.package_of.ensures.registered) (c.in_err-component.ensures.cost o same)

pub returns-in_err-index-clause-cost : goal.returns-in_err-index-clause-cost
returns-in_err-index-clause-cost c = λ o same.
    instantiation-refused c.size_law.ensures.fits c.order_law.ensures.components c.args.self.now.reader.now o c.args.self.now.imports.now.places.items c.args.encoder.now.indexes.items c.args.n c.args.encoder.now c.component.new.encoder c.package_of.result.0 c.package_of.result.1.now c.in_ok-component.component c.in_ok-arguments.arguments.items
    c.requires.instantiation c.package_of.ensures.owner c.package_of.ensures.registered c.in_ok-component.ensures.bottom c.index_law.ensures c.in_ok-arguments.ensures.items c.in_ok-arguments.ensures.short c.deref.ensures.value (c.in_ok-component.ensures.cost o same)
    (c.in_err-index.field-0).0 c.from_residual-in_err-index.result c.from_residual-in_err-index.ensures.1 c.builder.result.now c.builder.ensures.value c.deref-2.result.now c.deref-2.ensures.value c.in_err-index.ensures.too_large (record c.component.new.encoder { state = with_items c.component.new.encoder.state c.instantiate.new.self })
