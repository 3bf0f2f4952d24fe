use Rattle.std.proofs.Common.{ap, subst, ◌∙◌, [], ◌∷◌, ◌++◌, Bool, false}
use Rattle.wac_types_collection.specs.collection.Collection.{Collection}
use Rattle.wac_binary.specs.declared.sorts.Sort.TheVariants as sort
use Rattle.wac_binary.specs.Indexes.{space, indexes}
use Rattle.wac_binary.specs.Items.{export_item}
use Rattle.wac_encode_scopes.specs.Lending.{with_items}
use Rattle.wac_encode_scopes.specs.Roots.{items_of}
use Rattle.wac_encode_scopes.specs.States.{Goes}
use Rattle.wac_encode_interfaces.specs.private.Definitions.{IsDefinable, IsDefinitionAt}
use Rattle.wac_encode_interfaces.specs.private.Worlds.{written_in}
use Rattle.wac_graph_model.specs.private.meaning.Encoding.{index_in}
use Rattle.wac_graph_encode.specs.private.encoding.Root.{RecordsName}
use Rattle.wac_graph_encode.proofs.lemmas.encoding.NodeLemmas.{own-types, graph-types}
use Rattle.wac_graph_encode.proofs.lemmas.encoding.RootLemmas.{goes-open, writes-definition}
use Rattle.wac_graph_encode.proofs.lemmas.encoding.ExportLemmas.{definition-keeps, faultless-type, no-resource}
use Rattle.wac_graph_encode.proofs.lemmas.encoding.DefinitionLemmas.{definable, written}
use Rattle.std.proofs.Common.{◌+◌, ◌*◌, List, length, arith, Ok}
use Rattle.wac_graph_model.specs.private.weight.Written.{item_cost}
use Rattle.wac_types_collection.specs.collection.Collection.{IsWellFormed}
use Rattle.wac_types_shapes.specs.declared.shapes.component.«Type».{«Type» as AnyType}
use Rattle.wac_types_weight.specs.Weight.{near_all}
use Rattle.wac_types_weight.specs.private.Laws.{Covers}
use Rattle.wac_encode_scopes.specs.private.Paid.{PaidFor, IsFaultPaid, IsPriced}
use Rattle.wac_encode_scopes.specs.Contents.{content_of}
use Rattle.wac_encode_imports.proofs.Costing.{single-priced}
use Rattle.wac_encode_interfaces.specs.private.Paid.{definition_cost}
use Rattle.wac_graph_reader.proofs.lemmas.writing.ItemSizes.{export_size}
use Rattle.wac_graph_encode.proofs.lemmas.encoding.RootCosts.{open-alone, definition-covers, definition-weighs, definition-item, root-content, paid-total, exit-costs, item-within, export-refused, name-refused}
use Rattle.wac_graph_encode.proofs.encoding.writer.GraphWriter.write_definition.Goals as goal

pub definition-requires-clause-writer : goal.definition-requires-clause-writer
definition-requires-clause-writer c = c.requires.writer.writer

pub definition-requires-clause-ready : goal.definition-requires-clause-ready
definition-requires-clause-ready c =
    let w = c.args.self.now in
    own-types w c.requires.writer (λ (t : Collection) (b : Bool). IsDefinable t b (written_in w.types.now.worlds.now) c.args.encoder.now.state c.definition-ty.result.1)
    (definable w.reader.now c.args.n c.definition-ty.result.1 c.definition-ty.result.0.now c.requires.definition c.definition-ty.ensures.defined w.define_components (written_in w.types.now.worlds.now) c.args.encoder.now.state c.definition-ty.ensures.held c.requires.ready)

pub builder-requires : goal.builder-requires
builder-requires c =
    let w = c.args.self.now in
    (goes-open w.reader.now c.requires.ready.bindings c.args.encoder.now.state c.definition.new.state
    (graph-types w c.requires.writer (λ (t : Collection) (b : Bool). Goes t b c.args.encoder.now.state c.definition.new.state) c.in_ok-index.ensures.goes) c.requires.ready.open_root).root

pub returns-clause-written : goal.returns-clause-written
returns-clause-written c = λ o same m open_root.
    let w = c.args.self.now in
    let g = w.reader.now in
    let s = c.args.encoder.now.state in
    let t = c.definition-ty.result.1 in
    let name = c.definition-ty.result.0.now in
    let mid = c.definition.new.state in
    let k = c.in_ok-index.index in
    let goes = graph-types w c.requires.writer (λ (x : Collection) (b : Bool). Goes x b s mid) c.in_ok-index.ensures.goes in
    let is = graph-types w c.requires.writer (λ (x : Collection) (b : Bool). IsDefinitionAt x b mid t k) c.in_ok-index.ensures.is in
    written g c.args.n t name c.requires.definition c.definition-ty.ensures.defined o m w.imports.now.places.items (index_in c.args.encoder.now.indexes.items) c.args.encoder.now.components
    (items_of s.here.content) (items_of mid.here.content) (items_of c.name_definition.new.state.here.content) k c.in_ok-export.export
    (writes-definition g m t s mid k (no-resource g c.law.ensures c.args.n t name c.requires.definition c.definition-ty.ensures.defined) open_root goes is)
    (ap items_of c.in_ok-name_definition.ensures.records.content ∙ (c.in_ok-export.ensures.appended ∙ ap (λ xs. xs ++ export_item name sort.«Type» k ∷ []) c.builder.ensures.value))
    (c.in_ok-export.ensures.index ∙ ap (indexes (space sort.«Type»)) c.builder.ensures.value)

pub returns-clause-root : goal.returns-clause-root
returns-clause-root c =
    let w = c.args.self.now in
    let g = w.reader.now in
    let s = c.args.encoder.now.state in
    let t = c.definition-ty.result.1 in
    let name = c.definition-ty.result.0.now in
    let mid = c.definition.new.state in
    let out = with_items mid c.export.new.self in
    let k = c.in_ok-index.index in
    let new = c.name_definition.new.state in
    let m = c.requires.ready.bindings in
    let goes = graph-types w c.requires.writer (λ (x : Collection) (b : Bool). Goes x b s mid) c.in_ok-index.ensures.goes in
    let is = graph-types w c.requires.writer (λ (x : Collection) (b : Bool). IsDefinitionAt x b mid t k) c.in_ok-index.ensures.is in
    let clean = faultless-type g w.define_components m c.args.n t name c.requires.definition c.definition-ty.ensures.defined c.requires.ready.faultless in
    definition-keeps c.growth_law.ensures g m t name k s mid out new c.requires.ready.open_root clean goes is
    (ap (with_items mid) (c.in_ok-export.ensures.appended ∙ ap (λ xs. xs ++ export_item name sort.«Type» k ∷ []) c.builder.ensures.value))
    (subst (λ i. RecordsName g t i out new) (c.in_ok-export.ensures.index ∙ ap (indexes (space sort.«Type»)) c.builder.ensures.value) c.in_ok-name_definition.ensures.records)

-- what a definition costs with its types
definition-total : goal.returns-clause-cost
definition-total c = λ o.
    let w = c.args.self.now in
    let g = w.reader.now in
    let s = c.args.encoder.now.state in
    let t = c.definition-ty.result.1 in
    let name = c.definition-ty.result.0.now in
    let mid = c.definition.new.state in
    let out = with_items mid c.export.new.self in
    let wf = subst IsWellFormed c.types.ensures c.law-2.ensures in
    let is = c.requires.ready.open_root.root in
    let none = open-alone g c.requires.ready.bindings s c.requires.ready.open_root in
    let open_mid = goes-open g c.requires.ready.bindings s mid (graph-types w c.requires.writer (λ (x : Collection) (b : Bool). Goes x b s mid) c.in_ok-index.ensures.goes) c.requires.ready.open_root in
    let paid = graph-types w c.requires.writer (λ (x : Collection) (b : Bool). PaidFor x b t (definition_cost x (content_of s.here.content) t) s mid (Ok c.in_ok-index.index)) c.in_ok-index.ensures.paid (near_all g.types (t ∷ [])) (definition-covers g.types wf t) (single-priced false s none) in
    let defined = paid-total g.types (near_all g.types (t ∷ [])) (definition_cost g.types (content_of s.here.content) t) s mid is paid in
    let content = ap (λ x. definition_cost g.types x t) (root-content s is) in
    let weighs = definition-weighs g.types wf t (items_of s.here.content) c.definition-ty.ensures.held in
    let whole = definition-item g o c.args.n t name c.requires.definition c.definition-ty.ensures.defined in
    let size = export_size name sort.«Type» c.in_ok-index.index c.index_law.ensures in
    let exported = item-within g.types (21 + 2 * length name) mid c.export.new.self (export_item name sort.«Type» c.in_ok-index.index) open_mid.root (c.in_ok-export.ensures.appended ∙ ap (λ xs. xs ++ export_item name sort.«Type» c.in_ok-index.index ∷ []) c.builder.ensures.value) size in
    let named = (c.in_ok-name_definition.ensures.paid (open-alone g c.requires.ready.bindings mid open_mid)).pays in
    omega (arith, defined, content, weighs, whole, exported, named)

pub returns-clause-cost : goal.returns-clause-cost
returns-clause-cost c = definition-total c

pub returns-in_err-index-clause-cost : goal.returns-in_err-index-clause-cost
returns-in_err-index-clause-cost c = λ o.
    let w = c.args.self.now in
    let g = w.reader.now in
    let s = c.args.encoder.now.state in
    let t = c.definition-ty.result.1 in
    let name = c.definition-ty.result.0.now in
    let mid = c.definition.new.state in
    let wf = subst IsWellFormed c.types.ensures c.law-2.ensures in
    let is = c.requires.ready.open_root.root in
    let none = open-alone g c.requires.ready.bindings s c.requires.ready.open_root in
    let paid = graph-types w c.requires.writer (λ (x : Collection) (b : Bool). (ts : List AnyType) → Covers x ts t → IsPriced b s → IsFaultPaid x b ts (definition_cost x (content_of s.here.content) t) s (c.in_err-index.field-0).0) c.in_err-index.ensures.paid (near_all g.types (t ∷ [])) (definition-covers g.types wf t) (single-priced false s none) in
    let content = ap (λ x. definition_cost g.types x t) (root-content s is) in
    let weighs = definition-weighs g.types wf t (items_of s.here.content) c.definition-ty.ensures.held in
    let whole = definition-item g o c.args.n t name c.requires.definition c.definition-ty.ensures.defined in
    exit-costs g.types (near_all g.types (t ∷ [])) (definition_cost g.types (content_of s.here.content) t) (item_cost g o c.args.n) s mid mid (c.in_err-index.field-0).0 c.from_residual.result c.from_residual.ensures.1 is none (omega (arith, content, weighs, whole)) paid

pub returns-in_err-export-clause-cost : goal.returns-in_err-export-clause-cost
returns-in_err-export-clause-cost c = λ o.
    let w = c.args.self.now in
    let g = w.reader.now in
    let s = c.args.encoder.now.state in
    let t = c.definition-ty.result.1 in
    let name = c.definition-ty.result.0.now in
    let mid = c.definition.new.state in
    let wf = subst IsWellFormed c.types.ensures c.law-2.ensures in
    let is = c.requires.ready.open_root.root in
    let none = open-alone g c.requires.ready.bindings s c.requires.ready.open_root in
    let open_mid = goes-open g c.requires.ready.bindings s mid (graph-types w c.requires.writer (λ (x : Collection) (b : Bool). Goes x b s mid) c.in_ok-index.ensures.goes) c.requires.ready.open_root in
    let paid = graph-types w c.requires.writer (λ (x : Collection) (b : Bool). PaidFor x b t (definition_cost x (content_of s.here.content) t) s mid (Ok c.in_ok-index.index)) c.in_ok-index.ensures.paid (near_all g.types (t ∷ [])) (definition-covers g.types wf t) (single-priced false s none) in
    let defined = paid-total g.types (near_all g.types (t ∷ [])) (definition_cost g.types (content_of s.here.content) t) s mid is paid in
    let content = ap (λ x. definition_cost g.types x t) (root-content s is) in
    let weighs = definition-weighs g.types wf t (items_of s.here.content) c.definition-ty.ensures.held in
    let whole = definition-item g o c.args.n t name c.requires.definition c.definition-ty.ensures.defined in
    let size = export_size name sort.«Type» c.in_ok-index.index c.index_law.ensures in
    export-refused c.size_law.ensures.fits g.types (item_cost g o c.args.n) s mid (with_items mid c.export.new.self) c.builder.result.now (export_item name sort.«Type» c.in_ok-index.index) (21 + 2 * length name) (c.in_err-export.field-0).0 c.from_residual-in_err-export.result c.from_residual-in_err-export.ensures.1 open_mid.root c.builder.ensures.value size
    (omega (arith, defined, content, weighs, whole)) c.in_err-export.ensures.too_large

pub returns-in_err-name_definition-clause-cost : goal.returns-in_err-name_definition-clause-cost
returns-in_err-name_definition-clause-cost c = λ o.
    let w = c.args.self.now in
    let g = w.reader.now in
    let s = c.args.encoder.now.state in
    let t = c.definition-ty.result.1 in
    let name = c.definition-ty.result.0.now in
    let mid = c.definition.new.state in
    let out = with_items mid c.export.new.self in
    let wf = subst IsWellFormed c.types.ensures c.law-2.ensures in
    let is = c.requires.ready.open_root.root in
    let none = open-alone g c.requires.ready.bindings s c.requires.ready.open_root in
    let open_mid = goes-open g c.requires.ready.bindings s mid (graph-types w c.requires.writer (λ (x : Collection) (b : Bool). Goes x b s mid) c.in_ok-index.ensures.goes) c.requires.ready.open_root in
    let alone = open-alone g c.requires.ready.bindings mid open_mid in
    let paid = graph-types w c.requires.writer (λ (x : Collection) (b : Bool). PaidFor x b t (definition_cost x (content_of s.here.content) t) s mid (Ok c.in_ok-index.index)) c.in_ok-index.ensures.paid (near_all g.types (t ∷ [])) (definition-covers g.types wf t) (single-priced false s none) in
    let defined = paid-total g.types (near_all g.types (t ∷ [])) (definition_cost g.types (content_of s.here.content) t) s mid is paid in
    let content = ap (λ x. definition_cost g.types x t) (root-content s is) in
    let weighs = definition-weighs g.types wf t (items_of s.here.content) c.definition-ty.ensures.held in
    let whole = definition-item g o c.args.n t name c.requires.definition c.definition-ty.ensures.defined in
    let size = export_size name sort.«Type» c.in_ok-index.index c.index_law.ensures in
    let exported = item-within g.types (21 + 2 * length name) mid c.export.new.self (export_item name sort.«Type» c.in_ok-index.index) open_mid.root (c.in_ok-export.ensures.appended ∙ ap (λ xs. xs ++ export_item name sort.«Type» c.in_ok-index.index ∷ []) c.builder.ensures.value) size in
    name-refused g.types (item_cost g o c.args.n) s out c.name_definition.new.state (c.in_err-name_definition.field-0).0 c.from_residual-in_err-name_definition.result c.from_residual-in_err-name_definition.ensures.1 alone (omega (arith, defined, content, weighs, whole, exported)) (c.in_err-name_definition.ensures.paid alone)
