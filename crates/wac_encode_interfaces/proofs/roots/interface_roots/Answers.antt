use Rattle.std.proofs.Common.{sym, ◌∙◌, subst}
use Rattle.std.proofs.lemmas.Result.{IfOk-weaker}
use Rattle.wac_types_collection.specs.wide.Wide.{AreThere}
use Rattle.wac_encode_faults.specs.private.Ids.{HaveIds}
use Rattle.wac_encode_faults.specs.Sides.{Sides, id_or_empty, interface_sides}
use Rattle.wac_encode_interfaces.specs.private.Defined.{AreSideRoots}
use Rattle.wac_types_shapes.specs.declared.shapes.component.«Type».TheVariants as ty
use Rattle.wac_encode_interfaces.specs.private.Paid.{AreLight}
use Rattle.wac_encode_interfaces.proofs.RootWeights.{interface-light}
use Rattle.wac_encode_interfaces.proofs.DefinedSides.{none-items, one-items, interface-sides, one-sides}
use Rattle.wac_encode_interfaces.proofs.roots.interface_roots.Goals as goal

pub component_roots-requires-clause-held : goal.component_roots-requires-clause-held
component_roots-requires-clause-held c =
    let types = c.args.types.now in
    record {
      imports = none-items types c.new-imports.result c.new-imports.ensures;
      exports = one-items types c.args.interface (id_or_empty types c.args.interface) c.in_ok-exports.exports c.requires c.in_ok-exports.ensures;
      additional = subst (AreThere types) (sym c.as_slice.ensures.keys) c.in_ok-additional.ensures.there;
    }

pub component_roots-requires-clause-named : goal.component_roots-requires-clause-named
component_roots-requires-clause-named c = subst (HaveIds c.args.types.now) (sym c.as_slice.ensures.keys) c.in_ok-additional.ensures.named

pub returns-clause-roots : goal.returns-clause-roots
returns-clause-roots c =
    let types = c.args.types.now in
    let same = interface-sides types c.args.interface c.new-imports.result c.as_slice.result.now c.in_ok-exports.exports c.new-uses.result c.in_ok-additional.additional.keys c.new-imports.ensures c.new-uses.ensures c.in_ok-exports.ensures c.as_slice.ensures.keys c.in_ok-additional.ensures.interfaces in
    IfOk-weaker c.component_roots.result _ _
    (λ v h s is. subst (λ (z : Sides). AreSideRoots types z v.items) (same ∙ one-sides (interface_sides types c.args.interface) s is) h) c.component_roots.ensures.roots

pub returns-clause-light : goal.returns-clause-light
returns-clause-light c =
    let types = c.args.types.now in
    let law = c.weight_law.ensures in
    IfOk-weaker c.component_roots.result _ _
    (λ v are. subst (AreLight types (ty.Interface c.args.interface)) (sym are)
    (interface-light law.scope_weighs_its_parts law.own_has_items law.text_is_less law.nests_less law.uses_are_less types c.law.ensures c.args.interface c.requires c.new-imports.result c.in_ok-exports.exports c.as_slice.result.now c.new-imports.ensures (id_or_empty types c.args.interface) c.in_ok-exports.ensures
    (c.as_slice.ensures.keys ∙ c.in_ok-additional.ensures.interfaces) (subst (AreThere types) (sym c.as_slice.ensures.keys) c.in_ok-additional.ensures.there))) c.component_roots.ensures.are
