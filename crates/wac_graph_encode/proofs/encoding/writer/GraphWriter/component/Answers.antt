use Rattle.std.proofs.Common.{inl, inr, refl}
use Rattle.std.proofs.Common.{arith}
use Rattle.wac_graph_encode.proofs.lemmas.encoding.RootCosts.{component-written, component-refused, packages-memory}
use Rattle.wac_graph_encode.proofs.encoding.writer.GraphWriter.component.Goals as goal

pub returns-in-Some-clause-there : goal.returns-in-Some-clause-there
returns-in-Some-clause-there c = λ o same m open_root. let (k, at) = c.in-Some.ensures.there in inl (k, at, refl, refl)

pub returns-in-Some-clause-root : goal.returns-in-Some-clause-root
returns-in-Some-clause-root c = λ m open_root means. open_root

pub returns-in-Some-clause-bottom : goal.returns-in-Some-clause-bottom
returns-in-Some-clause-bottom c = c.requires.ready.open_root.root

pub returns-clause-there : goal.returns-clause-there
returns-clause-there c = λ o same m open_root. inr (c.in_default.ensures.absent, c.in_ok-insert.ensures.pushed, c.in_ok-index.ensures.adds o c.args.id same c.requires.«package» m open_root)

pub returns-in-Some-clause-cost : goal.returns-in-Some-clause-cost
returns-in-Some-clause-cost c = λ o same. omega arith

pub returns-clause-cost : goal.returns-clause-cost
returns-clause-cost c = λ o same. component-written c.order_law.ensures.component c.args.self.now.reader.now o c.args.encoder.now (record c.args.encoder.now { state = c.add_component.new.state; components = c.insert.new.self }) c.args.id c.in_ok-index.index c.args.«package».now c.requires.«package» c.in_default.ensures.absent c.in_ok-insert.ensures.pushed (c.in_ok-index.ensures.cost o same)

pub returns-in_err-index-clause-cost : goal.returns-in_err-index-clause-cost
returns-in_err-index-clause-cost c = λ o same. component-refused c.order_law.ensures.component c.order_law.ensures.components c.args.self.now.reader.now o c.args.encoder.now (record c.args.encoder.now { state = c.add_component.new.state }) c.add_component.new.state c.args.id c.args.«package».now (c.in_err-index.field-0).0 c.from_residual.result c.from_residual.ensures.1 c.requires.«package» c.in_default.ensures.absent (c.in_err-index.ensures.cost o same)

pub returns-in_err-insert-clause-cost : goal.returns-in_err-insert-clause-cost
returns-in_err-insert-clause-cost c = λ o same. packages-memory c.args.self.now.reader.now o _ c.args.encoder.now (record c.args.encoder.now { state = c.add_component.new.state; components = c.insert.new.self }) c.from_residual-in_err-insert.result c.from_residual-in_err-insert.ensures.1
