use Rattle.std.proofs.Common.{◌≡◌, false, refl, sym, ◌∙◌, rules}
use Rattle.wac_binary.specs.declared.sorts.Description.TheVariants as desc
use Rattle.wac_encode_scopes.specs.private.Interfaces.{own_items}
use Rattle.wac_encode_scopes.specs.private.Listing.{Closes}
use Rattle.wac_encode_scopes.specs.Roots.{ImportsItem}
use Rattle.wac_encode_scopes.specs.private.Telling.{is_one_of}
use Rattle.wac_encode_scopes.proofs.Stepped.{all-none}
use Rattle.wac_encode_tests.proofs.OpenScopes.{interface-there, plain-fresh, plain-instance, plain-imports, nonempty-around, closed-again, root-types, owner-good, right-import, on-ok-is, if-ok-is, if-some-is}
use Rattle.wac_encode_tests.specs.private.Stacks.{HasOnly}
use Rattle.wac_encode_tests.proofs.stacks.import_owner.Goals as goal

pub open_interface-opened-requires : goal.open_interface-opened-requires
open_interface-opened-requires g c = interface-there c.args.types.now c.args.id (sym c.contains.ensures ∙ search rules)

pub close-requires-clause-around : goal.close-requires-clause-around
close-requires-clause-around g c =
    let b = on-ok-is c.open_interface-opened.result c.expect-2.result c.expect-2.ensures c.open_interface-opened.ensures.begins c.index.result.now c.index.ensures in
    let t = c.open_interface-opened.new.self in
    nonempty-around c.args.state.now t t t b.around (all-none t) refl

pub close-requires-clause-instance : goal.close-requires-clause-instance
close-requires-clause-instance g c =
    let it = c.index.result.now in
    let b = on-ok-is c.open_interface-opened.result c.expect-2.result c.expect-2.ensures c.open_interface-opened.ensures.begins it c.index.ensures in
    plain-instance c.open_interface-opened.new.self.here.content (plain-fresh c.open_interface-opened.new.self.here.content (own_items c.args.types.now it.uses it.exports) b.content)

pub close-requires-clause-imports : goal.close-requires-clause-imports
close-requires-clause-imports g c =
    let it = c.index.result.now in
    let b = on-ok-is c.open_interface-opened.result c.expect-2.result c.expect-2.ensures c.open_interface-opened.ensures.begins it c.index.ensures in
    plain-imports c.open_interface-opened.new.self.here.content (plain-fresh c.open_interface-opened.new.self.here.content (own_items c.args.types.now it.uses it.exports) b.content)

pub import-imported-requires : goal.import-imported-requires
import-imported-requires g c =
    let it = c.index.result.now in
    let s = c.args.state.now in
    let t = c.open_interface-opened.new.self in
    let u = c.close.new.self in
    let b = on-ok-is c.open_interface-opened.result c.expect-2.result c.expect-2.ensures c.open_interface-opened.ensures.begins it c.index.ensures in
    let adds = closed-again s t t t b.around (all-none t) refl u (on-ok-is c.close.result c.expect-index.result c.expect-index.ensures c.close.ensures.written) in
    root-types s.here.content u.here.content adds.0 c.requires.right.root

pub tell_instance-requires-clause-closed : goal.tell_instance-requires-clause-closed
tell_instance-requires-clause-closed g c = c.requires.closed

pub tell_instance-requires-clause-held : goal.tell_instance-requires-clause-held
tell_instance-requires-clause-held g c = interface-there c.args.types.now c.args.id (sym c.contains.ensures ∙ search rules)

pub returns : goal.returns
returns g c =
    let a = c.args.types.now in
    let it = c.index.result.now in
    let s = c.args.state.now in
    let t = c.open_interface-opened.new.self in
    let u = c.close.new.self in
    let v = c.import-imported.new.self in
    let w = c.tell_instance.new.self in
    let k = c.expect-index.result in
    let j = c.expect-imported.result in
    let b = on-ok-is c.open_interface-opened.result c.expect-2.result c.expect-2.ensures c.open_interface-opened.ensures.begins it c.index.ensures in
    let only = if-some-is (HasOnly a it) c.only_resource.result c.expect-resource.result c.expect-resource.ensures c.only_resource.ensures in
    let closes = if-ok-is (Closes t u) c.close.result k c.expect-index.ensures c.close.ensures.closes in
    let adds = closed-again s t t t b.around (all-none t) refl u (on-ok-is c.close.result k c.expect-index.ensures c.close.ensures.written) in
    let imports = if-ok-is (ImportsItem (desc.Instance k) u v) c.import-imported.result j c.expect-imported.ensures c.import-imported.ensures.imports in
    let tells = on-ok-is c.tell_instance.result c.expect-3.result c.expect-3.ensures c.tell_instance.ensures.tells it c.index.ensures in
    let unbound : c.is_bound.result ≡ false = search rules in
    let good = owner-good a it c.expect-resource.result (is_one_of c.insert.new.self.keys) s t u v w k j c.requires.right.good.0 only c.requires.right.bottom (c.is_bound.ensures.unbound unbound) b closes imports tells c.requires.right.good.1 in
    right-import a s u v w c.args.name.now (desc.Instance k) c.requires.right.bottom adds (on-ok-is c.import-imported.result j c.expect-imported.ensures c.import-imported.ensures.content) (on-ok-is c.import-imported.result j c.expect-imported.ensures c.import-imported.ensures.records).0 c.tell_instance.ensures.types good
