use Rattle.std.proofs.Common.{subst, sym}
use Rattle.std.proofs.lemmas.List.Elements.{All-push}
use Rattle.wac_types_collection.specs.reach.Reach.{IsIn}
use Rattle.wac_types_shapes.specs.declared.shapes.component.«Type».{«Type» as AnyType}
use Rattle.wac_types_shapes.specs.declared.shapes.component.«Type».TheVariants as ty
use Rattle.wac_merge_agreement.specs.private.agreement.Worlds.{AreAmong}
use Rattle.wac_merge_agreement.proofs.agreement.worlds.put_world.Goals as goal

pub returns-in_ok-push-in-World : goal.returns-in_ok-push-in-World
returns-in_ok-push-in-World c = λ ts there among.
    subst (AreAmong ts) (sym c.in_ok-push-in-World.ensures.items)
    (All-push (λ w. IsIn (ty.World w) ts) c.args.worlds.now.items c.in-World.id among (subst (λ (t : AnyType). IsIn t ts) c.in-World.is there))
