use Rattle.wac_component.specs.CoreViews.{core_instance_of}
use Rattle.wac_reader_parts.proofs.CoreInstances.{gives_exports}
use Rattle.wac_reader_parts.proofs.cores.core_instance.Goals as goal

pub returns-in-1 : goal.returns-in-1
returns-in-1 c = gives_exports (λ x. (core_instance_of x.0, x.1.now)) c.core_exports.result c.args.bytes.now c.in_ok-first.first c.in_ok-first.rest.now c.in_ok-first.ensures c.in-1.is c.core_exports.ensures
