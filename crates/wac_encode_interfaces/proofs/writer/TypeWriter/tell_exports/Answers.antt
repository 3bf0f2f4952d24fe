use Rattle.wac_encode_scopes.proofs.Stepped.{all-none, goes-none}
use Rattle.wac_encode_interfaces.proofs.Told.{told-ok, instance-held, empty-keys}
use Rattle.wac_encode_interfaces.proofs.Answered.{interface-there, none-unrecorded, pays-any, told-answer}
use Rattle.std.specs.Prelude.{[]}
use Rattle.wac_encode_interfaces.specs.private.Paid.{told_cost}
use Rattle.wac_encode_interfaces.proofs.writer.TypeWriter.tell_exports.Goals as goal

pub tell_instance-requires-clause-held : goal.tell_instance-requires-clause-held
tell_instance-requires-clause-held c = instance-held c.args.self.now.types.now c.args.item c.in-Instance.id c.in-Instance.is c.requires.held

pub tell_instance-requires-clause-closed : goal.tell_instance-requires-clause-closed
tell_instance-requires-clause-closed c = c.requires.writer.closed

pub returns-in_default : goal.returns-in_default
returns-in_default c = record {
  goes = goes-none c.still_law.ensures c.args.self.now.merged c.args.state.now c.args.self.now.types.now;
  types = all-none c.args.state.now;
  paid = λ is_open priced. pays-any c.args.self.now.types.now c.args.self.now.merged [] (told_cost c.args.self.now.types.now c.args.item) c.args.state.now;
}

pub returns : goal.returns
returns c =
    let t = c.args.self.now.types.now in
    record {
      goes = told-ok c.instance_law.ensures.shows_whole t c.law.ensures c.args.self.now.merged c.args.state.now c.tell_instance.new.self c.args.item c.in-Instance.id c.args.index c.new-own.result.keys
          (empty-keys c.new-own.result.keys c.new-own.ensures.len) c.in-Instance.is
          (instance-held t c.args.item c.in-Instance.id c.in-Instance.is c.requires.held) c.requires.there c.tell_instance.result c.tell_instance.ensures.recorded
          c.tell_instance.ensures.tells c.tell_instance.ensures.types;
      types = c.tell_instance.ensures.types;
      paid = λ is_open priced.
          (let it = interface-there t c.in-Instance.id (instance-held t c.args.item c.in-Instance.id c.in-Instance.is c.requires.held) in
          let none = none-unrecorded c.args.self.now.merged c.args.state.now c.new-own.result.keys (empty-keys c.new-own.result.keys c.new-own.ensures.len) in
          told-answer t c.args.self.now.merged c.args.item c.in-Instance.id it.0 c.args.state.now c.tell_instance.new.self c.tell_instance.result c.in-Instance.is it.1 is_open (c.tell_instance.ensures.paid it.0 it.1 none priced));
    }
