use Rattle.std.proofs.Common.{◌⊎◌, ◌↔◌, Contains, sym, subst}
use Rattle.std.proofs.lemmas.Result.{on_ok_weaker}
use Rattle.wac_encode_faults.specs.private.Binding.{Binds}
use Rattle.wac_encode_faults.proofs.Binding.{bound_other}
use Rattle.wac_encode_faults.proofs.bound.add_bound_by.Goals as goal

pub returns-in-Instance : goal.returns-in-Instance
returns-in-Instance c =
    on_ok_weaker c.add_bound_by_instance.result (λ added side r.
    subst (λ k. Contains c.add_bound_by_instance.new.found.keys r ↔ (Contains c.args.found.now.keys r ⊎ Binds c.args.types.now c.args.uses.now side (c.args.name.now, k) r)) (sym c.in-Instance.is) (added side r)) c.add_bound_by_instance.ensures

pub returns-in_default : goal.returns-in_default
returns-in_default c =
    on_ok_weaker c.add_one.result (λ added side.
    bound_other c.args.types.now c.args.uses.now side c.args.name.now c.args.item c.own_resource.result c.args.found.now.keys c.add_one.new.found.keys (λ i is. c.in_default.not-Instance i is) c.own_resource.ensures added) c.add_one.ensures
