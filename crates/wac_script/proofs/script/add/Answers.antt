use Rattle.std.proofs.Common.{subst, sym}
use Rattle.wac_script.specs.declared.lines.calls.Call.TheVariants as said
use Rattle.wac_script.specs.labels.Things.{things_of, cores_of}
use Rattle.wac_script.specs.Refusals.{Answers}
use Rattle.wac_script.proofs.RefuseLemmas.{without-file}
use Rattle.wac_script.proofs.script.add.Goals as goal

pub returns-in-Shape : goal.returns-in-Shape
returns-in-Shape c = subst (λ k. Answers (things_of c.args.labels.now) (cores_of c.args.labels.now) c.args.bytes.items c.args.graph.now k c.add_shape.result c.add_shape.new.graph) (sym c.in-Shape.is) (without-file (things_of c.args.labels.now) (cores_of c.args.labels.now) c.args.bytes.items c.args.graph.now c.add_shape.new.graph (said.Shape c.in-Shape.shape) c.add_shape.result (λ t h. h) (λ e h. h) c.add_shape.ensures)

pub returns-in-Resource : goal.returns-in-Resource
returns-in-Resource c = subst (λ k. Answers (things_of c.args.labels.now) (cores_of c.args.labels.now) c.args.bytes.items c.args.graph.now k c.add_resource.result c.add_resource.new.graph) (sym c.in-Resource.is) (without-file (things_of c.args.labels.now) (cores_of c.args.labels.now) c.args.bytes.items c.args.graph.now c.add_resource.new.graph (said.Resource c.in-Resource.name) c.add_resource.result (λ t h. h) (λ e h. h) c.add_resource.ensures)

pub returns-in-ResourceAlias : goal.returns-in-ResourceAlias
returns-in-ResourceAlias c = subst (λ k. Answers (things_of c.args.labels.now) (cores_of c.args.labels.now) c.args.bytes.items c.args.graph.now k c.add_alias.result c.add_alias.new.graph) (sym c.in-ResourceAlias.is) (without-file (things_of c.args.labels.now) (cores_of c.args.labels.now) c.args.bytes.items c.args.graph.now c.add_alias.new.graph (said.ResourceAlias c.in-ResourceAlias.name c.in-ResourceAlias.source) c.add_alias.result (λ t h. h) (λ e h. h) c.add_alias.ensures)

pub returns-in-OwnedAlias : goal.returns-in-OwnedAlias
returns-in-OwnedAlias c = subst (λ k. Answers (things_of c.args.labels.now) (cores_of c.args.labels.now) c.args.bytes.items c.args.graph.now k c.add_owned_alias.result c.add_owned_alias.new.graph) (sym c.in-OwnedAlias.is) (without-file (things_of c.args.labels.now) (cores_of c.args.labels.now) c.args.bytes.items c.args.graph.now c.add_owned_alias.new.graph (said.OwnedAlias c.in-OwnedAlias.name c.in-OwnedAlias.source c.in-OwnedAlias.owner) c.add_owned_alias.result (λ t h. h) (λ e h. h) c.add_owned_alias.ensures)

pub returns-in-Func : goal.returns-in-Func
returns-in-Func c = subst (λ k. Answers (things_of c.args.labels.now) (cores_of c.args.labels.now) c.args.bytes.items c.args.graph.now k c.add_func.result c.add_func.new.graph) (sym c.in-Func.is) (without-file (things_of c.args.labels.now) (cores_of c.args.labels.now) c.args.bytes.items c.args.graph.now c.add_func.new.graph (said.Func c.in-Func.params c.in-Func.results) c.add_func.result (λ t h. h) (λ e h. h) c.add_func.ensures)

pub returns-in-AsyncFunc : goal.returns-in-AsyncFunc
returns-in-AsyncFunc c = subst (λ k. Answers (things_of c.args.labels.now) (cores_of c.args.labels.now) c.args.bytes.items c.args.graph.now k c.add_async_func.result c.add_async_func.new.graph) (sym c.in-AsyncFunc.is) (without-file (things_of c.args.labels.now) (cores_of c.args.labels.now) c.args.bytes.items c.args.graph.now c.add_async_func.new.graph (said.AsyncFunc c.in-AsyncFunc.params c.in-AsyncFunc.results) c.add_async_func.result (λ t h. h) (λ e h. h) c.add_async_func.ensures)

pub returns-in-Interface : goal.returns-in-Interface
returns-in-Interface c = subst (λ k. Answers (things_of c.args.labels.now) (cores_of c.args.labels.now) c.args.bytes.items c.args.graph.now k c.add_interface.result c.add_interface.new.graph) (sym c.in-Interface.is) (without-file (things_of c.args.labels.now) (cores_of c.args.labels.now) c.args.bytes.items c.args.graph.now c.add_interface.new.graph (said.Interface c.in-Interface.id c.in-Interface.items) c.add_interface.result (λ t h. h) (λ e h. h) c.add_interface.ensures)

pub returns-in-World : goal.returns-in-World
returns-in-World c = subst (λ k. Answers (things_of c.args.labels.now) (cores_of c.args.labels.now) c.args.bytes.items c.args.graph.now k c.add_world.result c.add_world.new.graph) (sym c.in-World.is) (without-file (things_of c.args.labels.now) (cores_of c.args.labels.now) c.args.bytes.items c.args.graph.now c.add_world.new.graph (said.World c.in-World.imports c.in-World.exports) c.add_world.result (λ t h. h) (λ e h. h) c.add_world.ensures)

pub returns-in-Module : goal.returns-in-Module
returns-in-Module c = subst (λ k. Answers (things_of c.args.labels.now) (cores_of c.args.labels.now) c.args.bytes.items c.args.graph.now k c.add_module.result c.add_module.new.graph) (sym c.in-Module.is) (without-file (things_of c.args.labels.now) (cores_of c.args.labels.now) c.args.bytes.items c.args.graph.now c.add_module.new.graph (said.Module c.in-Module.imports c.in-Module.exports) c.add_module.result (λ t h. h) (λ e h. h) c.add_module.ensures)

pub returns-in-New : goal.returns-in-New
returns-in-New c = subst (λ k. Answers (things_of c.args.labels.now) (cores_of c.args.labels.now) c.args.bytes.items c.args.graph.now k c.instantiate.result c.instantiate.new.graph) (sym c.in-New.is) (without-file (things_of c.args.labels.now) (cores_of c.args.labels.now) c.args.bytes.items c.args.graph.now c.instantiate.new.graph (said.New c.in-New.label) c.instantiate.result (λ t h. h) (λ e h. h) c.instantiate.ensures)

pub returns-in-Alias : goal.returns-in-Alias
returns-in-Alias c = subst (λ k. Answers (things_of c.args.labels.now) (cores_of c.args.labels.now) c.args.bytes.items c.args.graph.now k c.alias.result c.alias.new.graph) (sym c.in-Alias.is) (without-file (things_of c.args.labels.now) (cores_of c.args.labels.now) c.args.bytes.items c.args.graph.now c.alias.new.graph (said.Alias c.in-Alias.node c.in-Alias.export) c.alias.result (λ t h. h) (λ e h. h) c.alias.ensures)

pub returns-in-Import : goal.returns-in-Import
returns-in-Import c = subst (λ k. Answers (things_of c.args.labels.now) (cores_of c.args.labels.now) c.args.bytes.items c.args.graph.now k c.import.result c.import.new.graph) (sym c.in-Import.is) (without-file (things_of c.args.labels.now) (cores_of c.args.labels.now) c.args.bytes.items c.args.graph.now c.import.new.graph (said.Import c.in-Import.name c.in-Import.item) c.import.result (λ t h. h) (λ e h. h) c.import.ensures)

pub returns-in-Define : goal.returns-in-Define
returns-in-Define c = subst (λ k. Answers (things_of c.args.labels.now) (cores_of c.args.labels.now) c.args.bytes.items c.args.graph.now k c.define.result c.define.new.graph) (sym c.in-Define.is) (without-file (things_of c.args.labels.now) (cores_of c.args.labels.now) c.args.bytes.items c.args.graph.now c.define.new.graph (said.Define c.in-Define.name c.in-Define.item) c.define.result (λ t h. h) (λ e h. h) c.define.ensures)

pub returns-in-Package : goal.returns-in-Package
returns-in-Package c = subst (λ k. Answers (things_of c.args.labels.now) (cores_of c.args.labels.now) c.args.bytes.items c.args.graph.now k c.register.result c.register.new.graph) (sym c.in-Package.is) c.register.ensures
