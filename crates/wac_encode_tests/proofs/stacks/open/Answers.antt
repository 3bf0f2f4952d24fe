use Rattle.std.proofs.Common.{sym, ◌∙◌, rules}
use Rattle.wac_encode_tests.proofs.OpenScopes.{interface-there, interface-at, good-open, plain-fresh, on-ok-is}
use Rattle.wac_encode_scopes.specs.private.Interfaces.{own_items}
use Rattle.wac_encode_tests.proofs.stacks.open.Goals as goal

pub open_interface-requires : goal.open_interface-requires
open_interface-requires g c = interface-there c.args.types.now c.args.id (sym c.contains.ensures ∙ search rules)

pub returns-clause-good : goal.returns-clause-good
returns-clause-good g c =
    let it = interface-at c.args.types.now c.args.id (interface-there c.args.types.now c.args.id (sym c.contains.ensures ∙ search rules)) in
    good-open c.args.types.now it.0 c.args.state.now c.open_interface.new.self (on-ok-is c.open_interface.result c.expect.result c.expect.ensures c.open_interface.ensures.begins it.0 it.1) c.requires

pub returns-clause-plain : goal.returns-clause-plain
returns-clause-plain g c =
    let it = interface-at c.args.types.now c.args.id (interface-there c.args.types.now c.args.id (sym c.contains.ensures ∙ search rules)) in
    plain-fresh c.open_interface.new.self.here.content (own_items c.args.types.now it.0.uses it.0.exports) (on-ok-is c.open_interface.result c.expect.result c.expect.ensures c.open_interface.ensures.begins it.0 it.1).content

pub returns-clause-around : goal.returns-clause-around
returns-clause-around g c =
    let it = interface-at c.args.types.now c.args.id (interface-there c.args.types.now c.args.id (sym c.contains.ensures ∙ search rules)) in
    (on-ok-is c.open_interface.result c.expect.result c.expect.ensures c.open_interface.ensures.begins it.0 it.1).around
