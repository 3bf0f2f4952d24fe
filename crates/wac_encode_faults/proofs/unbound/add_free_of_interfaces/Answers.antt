use Rattle.std.proofs.lemmas.Result.{on_ok_weaker}
use Rattle.wac_encode_faults.proofs.Binding.{sets_free}
use Rattle.wac_encode_faults.proofs.unbound.add_free_of_interfaces.Goals as goal

pub returns : goal.returns
returns c =
    on_ok_weaker c.copy_sets.result (λ added. sets_free c.args.types.now c.in_ok-sets.sets.entries c.args.interfaces.now.keys c.args.found.now.keys c.copy_sets.new.found.keys c.in_ok-sets.ensures added)
    c.copy_sets.ensures
