use Rattle.wac_binary.specs.declared.sorts.Description.TheVariants as e
use Rattle.wac_encode_tests.proofs.OpenScopes.{plain-types, plain-item, plain-side, plain-instance, plain-imports, nonempty-around, closed-again, on-ok-is}
use Rattle.wac_encode_tests.proofs.stacks.write_inner.Goals as goal

pub list-listed-requires : goal.list-listed-requires
list-listed-requires g c = plain-side c.write_outer-index.new.state.here.content (plain-types c.open.new.state.here.content c.write_outer-index.new.state.here.content c.write_outer-index.ensures.0 c.open.ensures.plain)

pub close-requires-clause-around : goal.close-requires-clause-around
close-requires-clause-around g c = nonempty-around c.args.state.now c.open.new.state c.write_outer-index.new.state c.list-listed.new.self c.open.ensures.around c.write_outer-index.ensures (on-ok-is c.list-listed.result c.expect.result c.expect.ensures c.list-listed.ensures.records).0

pub close-requires-clause-instance : goal.close-requires-clause-instance
close-requires-clause-instance g c = plain-instance c.list-listed.new.self.here.content (plain-item c.write_outer-index.new.state.here.content c.list-listed.new.self.here.content _ (e.Instance c.write_outer-index.result) (on-ok-is c.list-listed.result c.expect.result c.expect.ensures c.list-listed.ensures.content) (plain-types c.open.new.state.here.content c.write_outer-index.new.state.here.content c.write_outer-index.ensures.0 c.open.ensures.plain))

pub close-requires-clause-imports : goal.close-requires-clause-imports
close-requires-clause-imports g c = plain-imports c.list-listed.new.self.here.content (plain-item c.write_outer-index.new.state.here.content c.list-listed.new.self.here.content _ (e.Instance c.write_outer-index.result) (on-ok-is c.list-listed.result c.expect.result c.expect.ensures c.list-listed.ensures.content) (plain-types c.open.new.state.here.content c.write_outer-index.new.state.here.content c.write_outer-index.ensures.0 c.open.ensures.plain))

pub returns : goal.returns
returns g c = closed-again c.args.state.now c.open.new.state c.write_outer-index.new.state c.list-listed.new.self c.open.ensures.around c.write_outer-index.ensures (on-ok-is c.list-listed.result c.expect.result c.expect.ensures c.list-listed.ensures.records).0 c.close.new.self (on-ok-is c.close.result c.expect-2.result c.expect-2.ensures c.close.ensures.written)
