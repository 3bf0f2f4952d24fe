use Rattle.wac_demo.proofs.Using.{defines-it}
use Rattle.wac_demo.proofs.compositions.dependency.Goals as goal

pub define_type-requires : goal.define_type-requires
define_type-requires c = c.in_ok-id.ensures.there

pub returns : goal.returns
returns c =
    let means = c.in_ok-encode.ensures.means in (
      means.0,
      c.default.result,
      c.define_type.new.self,
      means.1,
      c.default.ensures,
      means.4,
      defines-it c.function.new.graph c.add_defined_type.new.self c.add_interface.new.self c.add_interface-2.new.self c.define_type.new.self c.in_ok-g.g c.in_ok-defined.defined c.in_ok-cases.cases c.in_ok-used.used c.in_ok-exporter.exporter c.in_ok-id.id c.in_ok-user.user c.in_ok-define_type.field-0
          c.in_ok-g.ensures.plain c.in_ok-defined.ensures.added c.in_ok-used.ensures.added c.in_ok-id.ensures.added c.in_ok-define_type.ensures.step c.in_ok-cases.ensures.built c.in_ok-exporter.ensures.built c.in_ok-user.ensures.built,
    )
