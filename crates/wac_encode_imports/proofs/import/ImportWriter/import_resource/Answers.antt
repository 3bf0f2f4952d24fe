use Rattle.std.proofs.Common.{◌≡◌, true, sym, ◌∙◌}
use Rattle.wac_types_shapes.specs.declared.shapes.component.ItemKind.TheVariants as kind
use Rattle.wac_types_shapes.specs.declared.shapes.component.«Type».TheVariants as ty
use Rattle.wac_binary.specs.declared.sorts.Description.TheVariants as e
use Rattle.wac_binary.specs.Indexes.{space, described_sort}
use Rattle.wac_encode_scopes.specs.Contents.{count_of}
use Rattle.wac_encode_scopes.specs.Roots.{ImportsResource, and_import}
use Rattle.wac_encode_imports.specs.private.Written.{WritesImport}
use Rattle.wac_encode_imports.proofs.Writing.{if-three, alias-other, made-here, writes-fresh}
use Rattle.wac_encode_imports.proofs.ImportPaying.{fresh-paid}
use Rattle.wac_encode_imports.proofs.import.ImportWriter.import_resource.Goals as goal

pub import_fresh-requires : goal.import_fresh-requires
import_fresh-requires c = c.requires.3.written.root

-- The class of this number is the first to bind the resource.
pub returns-then-is_first-clause-written : goal.returns-then-is_first-clause-written
returns-then-is_first-clause-written c =
    if-three (ImportsResource true c.resolve_resource-end.result c.args.state.now c.import_fresh.new.self) (λ i. i ≡ count_of (space (described_sort e.Fresh)) c.args.state.now.here.content)
    (WritesImport c.args.self.now c.args.position c.args.name.now (kind.TypeItem (ty.Resource c.args.resource)) c.args.state.now c.import_fresh.new.self) (c.import_fresh.new.self.here.content ≡ and_import c.args.name.now e.Fresh c.args.state.now.here.content) c.import_fresh.result
    (λ i imports index content. writes-fresh c.args.self.now c.args.position c.args.name.now c.args.resource c.resolve_resource-end.result c.args.state.now c.import_fresh.new.self i c.root_law.ensures.lists_import
    (made-here c.args.self.now c.args.position c.args.resource c.resolve_resource-end.result c.resolve_resource-end.ensures.end (sym c.is_first.ensures ∙ c.if-is_first.true)) imports content index)
    c.import_fresh.ensures.imports c.import_fresh.ensures.index c.import_fresh.ensures.content

pub import_other-requires-clause-other : goal.import_other-requires-clause-other
import_other-requires-clause-other c = alias-other c.args.self.now c.args.position c.args.resource c.resolve_resource-end.result c.resolve_resource-end.ensures.end (sym c.is_first.ensures ∙ c.if-is_first.false)

pub returns-then-is_first-clause-paid : goal.returns-then-is_first-clause-paid
returns-then-is_first-clause-paid c = fresh-paid c.args.self.now c.args.position c.args.name.now c.args.state.now c.import_fresh.new.self c.import_fresh.result c.args.resource c.resolve_resource-end.result c.import_fresh.ensures.paid

pub returns-clause-paid : goal.returns-clause-paid
returns-clause-paid c = c.import_other.ensures.paid
