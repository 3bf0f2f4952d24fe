use Rattle.std.proofs.Common.{subst, sym}
use Rattle.wac_script.specs.labels.Things.{things_of}
use Rattle.wac_script.specs.Refusals.{Changes}
use Rattle.wac_script.proofs.changes.change.Goals as goal

pub returns-in-Set : goal.returns-in-Set
returns-in-Set c = subst (λ k. Changes (things_of c.args.labels.now) c.args.graph.now k c.set.result c.set.new.graph) (sym c.in-Set.is) c.set.ensures

pub returns-in-Export : goal.returns-in-Export
returns-in-Export c = subst (λ k. Changes (things_of c.args.labels.now) c.args.graph.now k c.export.result c.export.new.graph) (sym c.in-Export.is) c.export.ensures

pub returns-in-Name : goal.returns-in-Name
returns-in-Name c = subst (λ k. Changes (things_of c.args.labels.now) c.args.graph.now k c.name_node.result c.name_node.new.graph) (sym c.in-Name.is) c.name_node.ensures

pub returns-in-Plug : goal.returns-in-Plug
returns-in-Plug c = subst (λ k. Changes (things_of c.args.labels.now) c.args.graph.now k c.plug_in.result c.plug_in.new.graph) (sym c.in-Plug.is) c.plug_in.ensures
