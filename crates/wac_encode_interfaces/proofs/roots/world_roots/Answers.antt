use Rattle.std.proofs.Common.{sym, ◌∙◌, subst}
use Rattle.std.proofs.lemmas.Result.{IfOk-weaker}
use Rattle.wac_types_collection.specs.wide.Wide.{AreThere}
use Rattle.wac_types_collection.proofs.lemmas.wide.Members.{in_left, in_right}
use Rattle.wac_encode_faults.specs.private.Ids.{HaveIds}
use Rattle.wac_encode_faults.specs.Sides.{Sides, completed_sides}
use Rattle.wac_encode_interfaces.specs.private.Defined.{AreSideRoots}
use Rattle.wac_types_shapes.specs.declared.shapes.component.«Type».TheVariants as ty
use Rattle.wac_encode_interfaces.specs.private.Paid.{AreLight}
use Rattle.wac_encode_interfaces.proofs.RootWeights.{world-light}
use Rattle.wac_encode_interfaces.proofs.DefinedSides.{world-sides, world-defined, one-sides}
use Rattle.wac_encode_interfaces.proofs.WorldsAhead.{world-held-items}
use Rattle.wac_encode_interfaces.proofs.roots.world_roots.Goals as goal

pub component_roots-requires-clause-held : goal.component_roots-requires-clause-held
component_roots-requires-clause-held c =
    let types = c.args.types.now in
    let x = c.index-item.result.now in
    record {
      imports = λ e h. world-held-items types c.law.ensures c.args.world x c.index-item.ensures e (in_left x.imports x.exports e h);
      exports = λ e h. world-held-items types c.law.ensures c.args.world x c.index-item.ensures e (in_right x.imports x.exports e h);
      additional = subst (AreThere types) (sym c.as_slice.ensures.keys) c.in_ok-additional.ensures.there;
    }

pub component_roots-requires-clause-named : goal.component_roots-requires-clause-named
component_roots-requires-clause-named c = subst (HaveIds c.args.types.now) (sym c.as_slice.ensures.keys) c.in_ok-additional.ensures.named

pub returns-clause-roots : goal.returns-clause-roots
returns-clause-roots c =
    let types = c.args.types.now in
    let x = c.index-item.result.now in
    let same = world-sides types x c.as_slice.result.now c.in_ok-additional.additional.keys c.as_slice.ensures.keys (c.in_ok-additional.ensures.interfaces x c.index-item.ensures) in
    IfOk-weaker c.component_roots.result _ _
    (λ v h s is. subst (λ (z : Sides). AreSideRoots types z v.items) (same ∙ one-sides (completed_sides types x) s (sym (world-defined types c.args.world x c.index-item.ensures) ∙ is)) h) c.component_roots.ensures.roots

pub returns-clause-light : goal.returns-clause-light
returns-clause-light c =
    let types = c.args.types.now in
    let law = c.weight_law.ensures in
    let x = c.index-item.result.now in
    IfOk-weaker c.component_roots.result _ _
    (λ v are. subst (AreLight types (ty.World c.args.world)) (sym are)
    (world-light law.scope_weighs_its_parts law.own_has_items law.text_is_less law.nests_less law.world_uses_are_less types c.law.ensures c.args.world c.requires x c.index-item.ensures c.as_slice.result.now
    (c.as_slice.ensures.keys ∙ c.in_ok-additional.ensures.interfaces x c.index-item.ensures) (subst (AreThere types) (sym c.as_slice.ensures.keys) c.in_ok-additional.ensures.there))) c.component_roots.ensures.are
