use Rattle.std.specs.Prelude.{codes}
use Rattle.wac_demo.proofs.Passing.{plain-held, import-there, export-there, passes-it}
use Rattle.wac_demo.proofs.compositions.passed.Goals as goal

pub import-requires : goal.import-requires
import-requires c = plain-held c.function.new.graph.types c.in_ok-function.function c.in_ok-function.ensures.plain

pub export-requires : goal.export-requires
export-requires c =
    import-there c.function.new.graph c.import.new.self c.in_ok-function.function c.in_ok-node.node (codes "x")
    c.in_ok-function.ensures.plain c.in_ok-node.ensures.step

pub set_node_name-requires : goal.set_node_name-requires
set_node_name-requires c =
    export-there c.function.new.graph c.import.new.self c.in_ok-function.function c.in_ok-node.node (codes "x")
    c.in_ok-function.ensures.plain c.in_ok-node.ensures.step c.export.new.self (codes "y") c.in_ok-export.ensures.step

pub returns : goal.returns
returns c =
    let means = c.in_ok-encode.ensures.means in (
      means.0,
      c.default.result,
      c.set_node_name.new.self,
      means.1,
      c.default.ensures,
      means.4,
      passes-it c.function.new.graph c.import.new.self c.in_ok-function.function c.in_ok-node.node (codes "x")
          c.in_ok-function.ensures.plain c.in_ok-node.ensures.step c.export.new.self (codes "y") c.in_ok-export.ensures.step c.set_node_name.new.self (codes "n") c.in_ok-set_node_name.ensures.step,
    )
