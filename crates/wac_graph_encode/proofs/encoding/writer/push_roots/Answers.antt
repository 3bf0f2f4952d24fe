use Rattle.std.proofs.Common.{Contains, ◌≤◌, ◌≡◌, ◌∙◌, ◌∷◌, ◌++◌, [], false, ap, subst}
use Rattle.wac_types_shapes.specs.declared.shapes.component.WorldId.{WorldId}
use Rattle.wac_types_shapes.specs.declared.shapes.component.«Type».TheVariants as ty
use Rattle.wac_types_shapes.specs.declared.shapes.component.«Type».{«Type» as AnyType}
use Rattle.wac_types_collection.specs.collection.Collection.{Collection, IsWellFormed}
use Rattle.wac_types_weight.specs.Weight.{weight}
use Rattle.wac_types_weight.specs.Text.{scope_weight}
use Rattle.wac_encode_interfaces.specs.private.Definitions.{AreDefinitionRoots}
use Rattle.wac_graph_model.specs.meaning.Means.{is_import}
use Rattle.wac_graph_model.specs.nodes.Graph.{definition, instantiation}
use Rattle.wac_graph_model.specs.nodes.Nodes.{kind_of}
use Rattle.wac_graph_reader.proofs.lemmas.writing.WriteArgumentsLemmas.{is_there_of}
use Rattle.wac_graph_encode.proofs.lemmas.encoding.NodeLemmas.{of_kind}
use Rattle.wac_graph_encode.proofs.lemmas.encoding.NeededLemmas.{definition-roots, package-roots, defined-package, other-roots, typed-of, when-appended}
use Rattle.wac_graph_encode.proofs.encoding.writer.push_roots.Goals as goal

pub kind-requires : goal.kind-requires
kind-requires c = is_there_of c.args.reader.now c.args.n (λ node. is_import node.kind ≡ false) c.requires.there

pub package_of-requires : goal.package_of-requires
package_of-requires c = of_kind c.args.reader.now c.args.n c.kind.result.now c.requires.there c.kind.ensures instantiation (ap kind_of c.in-Instantiation.is)

pub returns-in_ok-roots-in-Definition : goal.returns-in_ok-roots-in-Definition
returns-in_ok-roots-in-Definition c = when-appended c.append.result c.args.found.now.items c.in_ok-roots-in-Definition.roots.items c.append.new.self.items c.append.ensures.items
    (λ grown. definition-roots c.args.reader.now c.args.n c.args.define_components c.definition-ty.result.1 c.args.found.now.items c.append.new.self.items c.in_ok-roots-in-Definition.roots.items
    (of_kind c.args.reader.now c.args.n c.kind.result.now c.requires.there c.kind.ensures definition (ap kind_of c.in-Definition.is)) (typed-of c.args.reader.now c.args.n c.definition-ty.result.1 c.definition-ty.result.0.now c.definition-ty.ensures.defined)
    (subst (λ (t : Collection). AreDefinitionRoots t c.definition-ty.result.1 c.in_ok-roots-in-Definition.roots.items) c.types-in-Definition.ensures c.in_ok-roots-in-Definition.ensures.roots) c.order_law.ensures.part
    (subst (λ (t : Collection). (u : AnyType) → Contains c.in_ok-roots-in-Definition.roots.items u → scope_weight t u ≤ weight t c.definition-ty.result.1) c.types-in-Definition.ensures c.in_ok-roots-in-Definition.ensures.light) c.requires.faultless grown)

pub returns-then-define_components : goal.returns-then-define_components
returns-then-define_components c = defined-package c.args.reader.now c.args.n c.args.define_components c.args.found.now.items
    (of_kind c.args.reader.now c.args.n c.kind.result.now c.requires.there c.kind.ensures instantiation (ap kind_of c.in-Instantiation.is)) c.if-define_components.true

pub returns-in_ok-push-in-Instantiation : goal.returns-in_ok-push-in-Instantiation
returns-in_ok-push-in-Instantiation c = package-roots c.args.reader.now c.law.ensures c.args.n c.args.define_components c.package_of.result.0 c.package_of.result.1.now c.args.found.now.items c.push.new.self.items c.if-define_components.false
    (of_kind c.args.reader.now c.args.n c.kind.result.now c.requires.there c.kind.ensures instantiation (ap kind_of c.in-Instantiation.is)) c.package_of.ensures.owner c.package_of.ensures.registered (subst IsWellFormed c.types.ensures c.law-2.ensures) c.order_law.ensures.part c.requires.faultless
    (c.in_ok-push-in-Instantiation.ensures.items ∙ ap (λ (w : WorldId). c.args.found.now.items ++ ty.World w ∷ []) c.ty.ensures)

pub returns-in_default : goal.returns-in_default
returns-in_default c = other-roots c.args.reader.now c.args.n c.kind.result.now c.args.define_components c.args.found.now.items c.requires.there c.kind.ensures c.in_default.not-Definition (λ s is. c.in_default.not-Instantiation s is)
