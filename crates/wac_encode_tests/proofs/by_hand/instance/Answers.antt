use Rattle.std.proofs.Common.{◌≡◌, ◌∙◌, sym, rules}
use Rattle.wac_types_shapes.specs.declared.shapes.component.ItemKind.TheVariants as kind
use Rattle.wac_types_shapes.specs.declared.shapes.component.«Type».TheVariants as ty
use Rattle.wac_binary.specs.Indexes.{space, indexes}
use Rattle.wac_binary.specs.declared.sorts.Sort.TheVariants as sort
use Rattle.wac_encode.specs.Lending.{with_component}
use Rattle.wac_encode.specs.Told.{TellsItem}
use Rattle.wac_encode_tests.proofs.RootItems.{if-ok-is, on-ok-is}
use Rattle.wac_encode_tests.proofs.HandWritten.{held-as, instance-stands, ready-as, told-ready, writes-after}
use Rattle.wac_encode_tests.proofs.by_hand.instance.Goals as goal

pub ty-written-requires-clause-held : goal.ty-written-requires-clause-held
ty-written-requires-clause-held g c = held-as c.args.items.now.types c.new-encoder.result.types.now (ty.Interface c.interface-id.result) c.new-encoder.ensures.types (sym c.contains.ensures ∙ search rules)

pub ty-written-requires-clause-state : goal.ty-written-requires-clause-state
ty-written-requires-clause-state g c = ready-as c.args.items.now.types c.new-encoder.result.types.now c.args.merged c.new-encoder.result.merged c.args.state.now c.new-encoder.ensures.types c.new-encoder.ensures.merged c.requires

pub builder-requires : goal.builder-requires
builder-requires g c =
    let t = c.args.items.now.types in
    let ready = writes-after t c.new-encoder.result.types.now c.args.merged c.new-encoder.result.merged c.args.state.now c.ty-written.new.state c.ty-written.result c.expect-type_index.result
    c.new-encoder.ensures.types c.new-encoder.ensures.merged c.expect-type_index.ensures c.ty-written.ensures.writes c.requires in
    ready.1.root

pub bind-told-requires-clause-held : goal.bind-told-requires-clause-held
bind-told-requires-clause-held g c = sym c.contains.ensures ∙ search rules

pub bind-told-requires-clause-stands : goal.bind-told-requires-clause-stands
bind-told-requires-clause-stands g c =
    instance-stands c.lending_law.ensures c.root_law.ensures.imports_instance c.instance_law.ensures.shows_whole c.args.items.now.types c.new-encoder.result.types.now c.law.ensures c.args.merged c.new-encoder.result.merged c.args.state.now c.ty-written.new.state
    c.interface-id.result c.args.name.now c.ty-written.result c.expect-type_index.result c.expect-index.result c.builder.result.now c.import-imported.new.self c.new-encoder.ensures.types c.new-encoder.ensures.merged
    c.expect-type_index.ensures c.builder.ensures.value (on-ok-is c.import-imported.result c.expect-index.result c.expect-index.ensures c.import-imported.ensures.appended)
    (if-ok-is (λ i. i ≡ indexes (space sort.Instance) c.builder.result.now) c.import-imported.result c.expect-index.result c.expect-index.ensures c.import-imported.ensures.index)
    (sym c.contains.ensures ∙ search rules) c.ty-written.ensures.writes c.ty-written.ensures.index c.ty-written.ensures.fault c.requires

pub returns : goal.returns
returns g c =
    let t = c.args.items.now.types in
    let b = c.args.merged in
    let item = kind.Instance c.interface-id.result in
    let j = c.expect-index.result in
    let s = with_component c.ty-written.new.state c.import-imported.new.self in
    let tells : TellsItem t b item j s c.bind-told.new.self = on-ok-is c.bind-told.result c.expect.result c.expect.ensures c.bind-told.ensures.tells in
    let stands =
    instance-stands c.lending_law.ensures c.root_law.ensures.imports_instance c.instance_law.ensures.shows_whole c.args.items.now.types c.new-encoder.result.types.now c.law.ensures c.args.merged c.new-encoder.result.merged c.args.state.now c.ty-written.new.state
    c.interface-id.result c.args.name.now c.ty-written.result c.expect-type_index.result c.expect-index.result c.builder.result.now c.import-imported.new.self c.new-encoder.ensures.types c.new-encoder.ensures.merged
    c.expect-type_index.ensures c.builder.ensures.value (on-ok-is c.import-imported.result c.expect-index.result c.expect-index.ensures c.import-imported.ensures.appended)
    (if-ok-is (λ i. i ≡ indexes (space sort.Instance) c.builder.result.now) c.import-imported.result c.expect-index.result c.expect-index.ensures c.import-imported.ensures.index)
    (sym c.contains.ensures ∙ search rules) c.ty-written.ensures.writes c.ty-written.ensures.index c.ty-written.ensures.fault c.requires in
    told-ready t b item j s c.bind-told.new.self tells (stands.0, stands.1)
