use Rattle.wac_demo.proofs.Taking.{imports-it}
use Rattle.wac_demo.proofs.compositions.resource.Goals as goal

pub import-requires : goal.import-requires
import-requires c = c.in_ok-id.ensures.there

pub returns : goal.returns
returns c =
    let means = c.in_ok-encode.ensures.means in (
      means.0,
      c.default.result,
      c.import.new.self,
      means.1,
      c.default.ensures,
      means.4,
      imports-it c.new-graph.result c.add_resource.new.self c.add_func_type.new.self c.add_interface.new.self c.import.new.self c.in_ok-r.r c.in_ok-plain.plain c.in_ok-f.f c.in_ok-taker.taker c.in_ok-id.id c.in_ok-interface.interface c.in_ok-import.field-0
          c.in_ok-r.ensures.added c.in_ok-f.ensures.added c.in_ok-id.ensures.added c.in_ok-import.ensures.step c.in_ok-plain.ensures c.in_ok-taker.ensures.built c.in_ok-interface.ensures.built,
    )
