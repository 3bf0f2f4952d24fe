use Rattle.wac_encode_scopes.proofs.Stepped.{all-none}
use Rattle.wac_encode.specs.declared.state.State.{State}
use Rattle.wac_encode.proofs.Results.{on-both}
use Rattle.wac_encode.proofs.ToldItems.{tells-instance}
use Rattle.wac_encode.proofs.state.State.bind_instance.Goals as goal

pub returns-in_err-closed-clause-types : goal.returns-in_err-closed-clause-types
returns-in_err-closed-clause-types c = all-none c.args.self.now.scopes

pub returns-in_err-unbound-clause-types : goal.returns-in_err-unbound-clause-types
returns-in_err-unbound-clause-types c = all-none c.args.self.now.scopes

pub returns-clause-tells : goal.returns-clause-tells
returns-clause-tells c =
    let old = c.args.self.now in
    let new : State = record { scopes = c.tell_instance.new.self } in
    on-both c.tell_instance.result (λ tells records. tells-instance c.bringing_law.ensures.good_once c.args.types.now c.law.ensures c.args.merged c.args.interface c.args.index c.in_ok-unbound.unbound.keys
    old new c.requires.held c.in_ok-unbound.ensures c.requires.stands tells records) c.tell_instance.ensures.tells c.tell_instance.ensures.recorded
