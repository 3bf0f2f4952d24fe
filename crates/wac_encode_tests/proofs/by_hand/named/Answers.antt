use Rattle.std.proofs.Common.{◌∙◌, sym, rules}
use Rattle.wac_types_shapes.specs.declared.shapes.component.ItemKind.TheVariants as kind
use Rattle.wac_types_shapes.specs.declared.shapes.component.«Type».TheVariants as ty
use Rattle.wac_encode.specs.Told.{TellsItem}
use Rattle.wac_encode_tests.proofs.RootItems.{on-ok-is}
use Rattle.wac_encode_tests.proofs.HandWritten.{held-as, ready-as, told-ready, value-named, writes-after}
use Rattle.wac_encode_tests.proofs.by_hand.named.Goals as goal

pub value_type-written-requires-clause-held : goal.value_type-written-requires-clause-held
value_type-written-requires-clause-held g c = held-as c.args.items.now.types c.new-encoder.result.types.now (ty.Value c.value-value.result) c.new-encoder.ensures.types (sym c.contains.ensures ∙ search rules)

pub value_type-written-requires-clause-state : goal.value_type-written-requires-clause-state
value_type-written-requires-clause-state g c = ready-as c.args.items.now.types c.new-encoder.result.types.now c.args.merged c.new-encoder.result.merged c.args.state.now c.new-encoder.ensures.types c.new-encoder.ensures.merged c.requires

pub bind-told-requires-clause-held : goal.bind-told-requires-clause-held
bind-told-requires-clause-held g c = sym c.contains.ensures ∙ search rules

pub bind-told-requires-clause-stands : goal.bind-told-requires-clause-stands
bind-told-requires-clause-stands g c =
    value-named c.args.items.now.types c.new-encoder.result.types.now c.args.merged c.new-encoder.result.merged c.args.state.now c.value_type-written.new.state c.value-value.result c.value_type-written.result
    c.expect-in_use.result c.in-Index.index c.new-encoder.ensures.types c.new-encoder.ensures.merged c.expect-in_use.ensures c.in-Index.is c.value_type-written.ensures.writes c.value_type-written.ensures.means
    c.value_type-written.ensures.fault c.requires

pub returns : goal.returns
returns g c =
    let t = c.args.items.now.types in
    let b = c.args.merged in
    let item = kind.TypeItem (ty.Value c.value-value.result) in
    let i = c.in-Index.index in
    let s = c.value_type-written.new.state in
    let tells : TellsItem t b item i s c.bind-told.new.self = on-ok-is c.bind-told.result c.expect.result c.expect.ensures c.bind-told.ensures.tells in
    told-ready t b item i s c.bind-told.new.self tells
    (writes-after t c.new-encoder.result.types.now b c.new-encoder.result.merged c.args.state.now s c.value_type-written.result c.expect-in_use.result
    c.new-encoder.ensures.types c.new-encoder.ensures.merged c.expect-in_use.ensures c.value_type-written.ensures.writes c.requires)
