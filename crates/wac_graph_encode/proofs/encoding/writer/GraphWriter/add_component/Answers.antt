use Rattle.std.proofs.Common.{ap, sym, subst, ◌∙◌, [], ◌∷◌, ◌++◌, Bool, false}
use Rattle.wac_types_collection.specs.collection.Collection.{Collection, IsWellFormed}
use Rattle.wac_types_shapes.specs.declared.shapes.component.ItemKind.TheVariants as kind
use Rattle.wac_types_shapes.specs.declared.shapes.component.WorldId.{WorldId}
use Rattle.wac_binary.specs.Items.{nested}
use Rattle.wac_encode_scopes.specs.Lending.{with_items}
use Rattle.wac_encode_interfaces.specs.private.Imports.{ImportsBeside, ImportsOf, IsImportReady}
use Rattle.wac_encode_interfaces.specs.private.Worlds.{written_in}
use Rattle.wac_graph_encode.proofs.lemmas.encoding.NodeLemmas.{own-types, graph-types}
use Rattle.wac_graph_encode.proofs.lemmas.encoding.RootLemmas.{appended-open}
use Rattle.wac_graph_encode.proofs.lemmas.encoding.PackageLemmas.{beside-root, imports-component, imports-open, world-import-ready}
use Rattle.std.proofs.Common.{◌≤◌, ◌+◌, ◌*◌, List, length, arith, Ok}
use Rattle.wac_types_shapes.specs.declared.shapes.component.«Type».{«Type» as AnyType}
use Rattle.wac_types_shapes.specs.declared.shapes.component.«Type».TheVariants as ty
use Rattle.wac_encode_stacks.specs.private.Sizes.{item_size}
use Rattle.wac_types_weight.specs.private.Laws.{Covers}
use Rattle.wac_encode_scopes.specs.private.Paid.{PaidFor, IsFaultPaid, IsPriced, world_cost}
use Rattle.wac_encode_imports.proofs.Costing.{single-priced}
use Rattle.wac_graph_model.specs.private.weight.Costs.{package_cost}
use Rattle.wac_graph_encode.specs.private.encoding.Costs.{world_part}
use Rattle.wac_graph_encode.proofs.lemmas.encoding.RootCosts.{open-alone, world-covered, import-cost, nested-cost, paid-total, exit-costs, item-within, nested-refused, memory-costs}
use Rattle.wac_graph_encode.proofs.encoding.writer.GraphWriter.add_component.Goals as goal

pub builder-requires : goal.builder-requires
builder-requires c = c.requires.ready.open_root.root

pub returns-then-self-clause-root : goal.returns-then-self-clause-root
returns-then-self-clause-root c =
    let s = c.args.state.now in
    appended-open c.growth_law.ensures.lent c.args.self.now.reader.now s (with_items s c.component.new.self)
    (nested c.bytes.result.now ∷ [], ap (with_items s) (c.in_ok-nested.ensures.appended ∙ ap (λ xs. xs ++ nested c.bytes.result.now ∷ []) c.builder.ensures.value))

pub import_item-requires-clause-writer : goal.import_item-requires-clause-writer
import_item-requires-clause-writer c = c.requires.writer.writer

pub import_item-requires-clause-root : goal.import_item-requires-clause-root
import_item-requires-clause-root c = c.requires.ready.open_root.root

pub import_item-requires-clause-ready : goal.import_item-requires-clause-ready
import_item-requires-clause-ready c =
    let w = c.args.self.now in
    let ready = c.requires.ready in
    own-types w c.requires.writer (λ (t : Collection) (b : Bool). IsImportReady t b (written_in w.types.now.worlds.now) c.args.state.now (kind.Component c.ty.result))
    (subst (λ (v : WorldId). IsImportReady w.reader.now.types false (written_in w.types.now.worlds.now) c.args.state.now (kind.Component v)) (sym c.ty.ensures)
    (world-import-ready c.growth_law.ensures.free w.reader.now ready.bindings (written_in w.types.now.worlds.now) c.args.state.now c.args.«package».now.world ready.open_root ready.held (ready.clean c.if-self.false) (ready.worlds c.if-self.false)))

pub returns-clause-adds : goal.returns-clause-adds
returns-clause-adds c = λ o id same at m open_root.
    let w = c.args.self.now in
    let s = c.args.state.now in
    let new = c.import_item.new.state in
    let n = c.as_str.result.now in
    let i = c.in_ok-index.index in
    let imports = graph-types w c.requires.writer (λ (t : Collection) (b : Bool). ImportsOf t b n (kind.Component c.ty.result) s new i) c.in_ok-index.ensures.imports in
    let beside = graph-types w c.requires.writer (λ (t : Collection) (b : Bool). ImportsBeside b n (kind.Component c.ty.result) i s new) c.in_ok-index.ensures.beside in
    imports-component c.growth_law.ensures.sides w.reader.now (subst IsWellFormed c.types.ensures c.law.ensures) o id c.args.«package».now n s new i m (same ∙ c.if-self.false) at c.requires.ready.held (c.as_str.ensures.value ∙ c.in_ok-name.ensures) open_root
    (subst (λ (v : WorldId). ImportsOf w.reader.now.types false n (kind.Component v) s new i) c.ty.ensures imports) (subst (λ (v : WorldId). ImportsBeside false n (kind.Component v) i s new) c.ty.ensures beside)

pub returns-clause-root : goal.returns-clause-root
returns-clause-root c = λ m open_root means.
    let w = c.args.self.now in
    let s = c.args.state.now in
    let new = c.import_item.new.state in
    let n = c.as_str.result.now in
    let i = c.in_ok-index.index in
    let imports = graph-types w c.requires.writer (λ (t : Collection) (b : Bool). ImportsOf t b n (kind.Component c.ty.result) s new i) c.in_ok-index.ensures.imports in
    let beside = graph-types w c.requires.writer (λ (t : Collection) (b : Bool). ImportsBeside b n (kind.Component c.ty.result) i s new) c.in_ok-index.ensures.beside in
    imports-open w.reader.now n c.ty.result s new i (beside-root n c.ty.result i s new beside) imports m open_root

pub returns-then-self-clause-cost : goal.returns-then-self-clause-cost
returns-then-self-clause-cost c = λ o same.
    let g = c.args.self.now.reader.now in
    let s = c.args.state.now in
    let p = c.args.«package».now in
    let size = subst (λ b. item_size (nested b) ≤ package_cost o.define_components p + world_part g o p) (sym c.bytes.ensures) (nested-cost g o p (same ∙ c.if-self.true)) in
    item-within g.types (package_cost o.define_components p + world_part g o p) s c.component.new.self (nested c.bytes.result.now) c.requires.ready.open_root.root (c.in_ok-nested.ensures.appended ∙ ap (λ xs. xs ++ nested c.bytes.result.now ∷ []) c.builder.ensures.value) size

pub returns-in_err-nested-clause-cost : goal.returns-in_err-nested-clause-cost
returns-in_err-nested-clause-cost c = λ o same.
    let g = c.args.self.now.reader.now in
    let s = c.args.state.now in
    let p = c.args.«package».now in
    let size = subst (λ b. item_size (nested b) ≤ package_cost o.define_components p + world_part g o p) (sym c.bytes.ensures) (nested-cost g o p (same ∙ c.if-self.true)) in
    nested-refused c.size_law.ensures.fits g.types (package_cost o.define_components p + world_part g o p) s (with_items s c.component.new.self) c.builder.result.now (nested c.bytes.result.now) (c.in_err-nested.field-0).0 c.from_residual.result c.from_residual.ensures.1 c.requires.ready.open_root.root c.builder.ensures.value size c.in_err-nested.ensures.too_large

pub returns-in_err-name-clause-cost : goal.returns-in_err-name-clause-cost
returns-in_err-name-clause-cost c = λ o same. memory-costs c.args.self.now.reader.now.types (package_cost o.define_components c.args.«package».now + world_part c.args.self.now.reader.now o c.args.«package».now) c.args.state.now c.args.state.now c.from_residual-in_err-name.result c.from_residual-in_err-name.ensures.1

pub returns-clause-cost : goal.returns-clause-cost
returns-clause-cost c = λ o same.
    let w = c.args.self.now in
    let g = w.reader.now in
    let s = c.args.state.now in
    let p = c.args.«package».now in
    let n = c.as_str.result.now in
    let new = c.import_item.new.state in
    let none = open-alone g c.requires.ready.bindings s c.requires.ready.open_root in
    let all = graph-types w c.requires.writer (λ (x : Collection) (b : Bool). PaidFor x b (ty.World c.ty.result) (20 + 2 * length n + world_cost x c.ty.result) s new (Ok c.in_ok-index.index)) (c.in_ok-index.ensures.paid tt) in
    let paid = subst (λ (v : WorldId). PaidFor g.types false (ty.World v) (20 + 2 * length n + world_cost g.types v) s new (Ok c.in_ok-index.index)) c.ty.ensures all [] (world-covered g.types p.world) (single-priced false s none) in
    let costs = paid-total g.types [] (20 + 2 * length n + world_cost g.types p.world) s new c.requires.ready.open_root.root paid in
    let less = import-cost g o p n (same ∙ c.if-self.false) (c.as_str.ensures.value ∙ c.in_ok-name.ensures) in
    omega (arith, costs, less)

pub returns-in_err-index-clause-cost : goal.returns-in_err-index-clause-cost
returns-in_err-index-clause-cost c = λ o same.
    let w = c.args.self.now in
    let g = w.reader.now in
    let s = c.args.state.now in
    let p = c.args.«package».now in
    let n = c.as_str.result.now in
    let new = c.import_item.new.state in
    let none = open-alone g c.requires.ready.bindings s c.requires.ready.open_root in
    let all = graph-types w c.requires.writer (λ (x : Collection) (b : Bool). (ts : List AnyType) → Covers x ts (ty.World c.ty.result) → IsPriced b s → IsFaultPaid x b ts (20 + 2 * length n + world_cost x c.ty.result) s (c.in_err-index.field-0).0) (c.in_err-index.ensures.paid tt) in
    let paid = subst (λ (v : WorldId). (ts : List AnyType) → Covers g.types ts (ty.World v) → IsPriced false s → IsFaultPaid g.types false ts (20 + 2 * length n + world_cost g.types v) s (c.in_err-index.field-0).0) c.ty.ensures all [] (world-covered g.types p.world) (single-priced false s none) in
    exit-costs g.types [] (20 + 2 * length n + world_cost g.types p.world) (package_cost o.define_components p + world_part g o p) s new new (c.in_err-index.field-0).0 c.from_residual-in_err-index.result c.from_residual-in_err-index.ensures.1 c.requires.ready.open_root.root none (import-cost g o p n (same ∙ c.if-self.false) (c.as_str.ensures.value ∙ c.in_ok-name.ensures)) paid
