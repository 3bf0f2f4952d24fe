use Rattle.wac_encode_scopes.specs.private.Telling.{is_one_of}
use Rattle.wac_encode_scopes.proofs.ApartBits.{apart-items, closed-items, none-of-these}
use Rattle.wac_encode_scopes.proofs.Stepped.{if-ok}
use Rattle.wac_encode_scopes.proofs.instances.apart_items.Goals as goal

pub returns-then-is_empty : goal.returns-then-is_empty
returns-then-is_empty c = none-of-these c.args.types.now c.args.interface.now.exports c.args.these.now.keys (c.is_empty.ensures.0 c.if-is_empty.true) c.all.result c.all.ensures

pub returns-then-are_items_of : goal.returns-then-are_items_of
returns-then-are_items_of c =
    closed-items c.args.types.now c.law.ensures c.args.interface.now.exports c.requires.held (is_one_of c.args.these.now.keys) c.args.closed.now c.all-then-are_items_of.result c.requires.closed (c.are_items_of.ensures c.if-are_items_of.true) c.all-then-are_items_of.ensures

pub returns : goal.returns
returns c =
    if-ok c.apart_from.result (λ x are. apart-items c.args.types.now c.law.ensures c.args.interface.now.exports c.requires.held (is_one_of c.args.these.now.keys) x are) c.apart_from.ensures
