use Rattle.std.proofs.Common.{◌≡◌, ◌||◌, Option, ap, ◌∙◌, arith}
use Rattle.std.specs.List.{list_any}
use Rattle.std.proofs.lemmas.List.{take_all}
use Rattle.wac_types_shapes.specs.declared.shapes.component.ResourceId.{ResourceId}
use Rattle.wac_encode_scopes.specs.private.Telling.{is_one_of, is_that}
use Rattle.wac_encode_interfaces.specs.private.Parts.{is_owned}
use Rattle.wac_encode_interfaces.proofs.OwnTests.{owned-next}
use Rattle.wac_encode_interfaces.proofs.instance.owned_among.Goals as goal

pub loop-i-preserved : goal.loop-i-preserved
loop-i-preserved c =
    owned-next c.args.owners.now.entries c.args.number c.args.items.now c.loop-i.i c.entry_at.result.0.now c.entry_at.result.1.now c.loop-i.owned.keys c.add_resource.new.set.keys c.entry_at.ensures c.loop-i.invariant
    (λ r. c.in_ok-add_resource.ensures r ∙ ap (λ (o : Option ResourceId). is_one_of c.loop-i.owned.keys r || is_that o r) c.owned_resource-resource.ensures)

pub returns : goal.returns
returns c =
    let past = c.loop-i-test.false in
    let counted = c.len-i-end.ensures in
    λ r. c.loop-i.invariant r ∙ ap (list_any (is_owned c.args.owners.now.entries c.args.number r)) (take_all c.loop-i.i c.args.items.now (omega (arith, past, counted)))
