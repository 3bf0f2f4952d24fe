use Rattle.std.proofs.Common.{◌≡◌, true, length, subst}
use Rattle.wac_types_shapes.specs.shapes.Kinds.{kind_type}
use Rattle.wac_types_shapes.specs.declared.shapes.component.ItemKind.{ItemKind}
use Rattle.wac_types_shapes.specs.declared.shapes.component.ItemKind.TheVariants as kind
use Rattle.wac_types_collection.specs.collection.Collection.{holds_type}
use Rattle.wac_types_collection.proofs.lemmas.collection.Steady.{within}
use Rattle.wac_encode_scopes.proofs.Stepped.{all-none}
use Rattle.wac_encode.proofs.Results.{on-ok}
use Rattle.wac_encode.proofs.ToldItems.{stands-as, tells-as, tells-other}
use Rattle.wac_encode.proofs.state.State.bind_item.Goals as goal

pub bind_instance-requires-clause-held : goal.bind_instance-requires-clause-held
bind_instance-requires-clause-held c = within c.in-Instance.id.0 (length c.args.types.now.interfaces) (subst (λ (k : ItemKind). holds_type c.args.types.now (kind_type k) ≡ true) c.in-Instance.is c.requires.held)

pub bind_instance-requires-clause-stands : goal.bind_instance-requires-clause-stands
bind_instance-requires-clause-stands c = stands-as c.args.types.now c.args.merged c.args.item (kind.Instance c.in-Instance.id) c.args.index c.args.self.now c.in-Instance.is c.requires.stands

pub returns-in-Instance-clause-tells : goal.returns-in-Instance-clause-tells
returns-in-Instance-clause-tells c = on-ok c.bind_instance.result (tells-as c.args.types.now c.args.merged c.args.item (kind.Instance c.in-Instance.id) c.args.index c.args.self.now c.bind_instance.new.self c.in-Instance.is) c.bind_instance.ensures.tells

pub bind_type-requires-clause-held : goal.bind_type-requires-clause-held
bind_type-requires-clause-held c = subst (λ (k : ItemKind). holds_type c.args.types.now (kind_type k) ≡ true) c.in-TypeItem.is c.requires.held

pub bind_type-requires-clause-stands : goal.bind_type-requires-clause-stands
bind_type-requires-clause-stands c = stands-as c.args.types.now c.args.merged c.args.item (kind.TypeItem c.in-TypeItem.ty) c.args.index c.args.self.now c.in-TypeItem.is c.requires.stands

pub returns-in-TypeItem-clause-tells : goal.returns-in-TypeItem-clause-tells
returns-in-TypeItem-clause-tells c = on-ok c.bind_type.result (tells-as c.args.types.now c.args.merged c.args.item (kind.TypeItem c.in-TypeItem.ty) c.args.index c.args.self.now c.bind_type.new.self c.in-TypeItem.is) c.bind_type.ensures.tells

pub returns-in_default-clause-tells : goal.returns-in_default-clause-tells
returns-in_default-clause-tells c = tells-other c.args.types.now c.args.merged c.args.item c.args.index c.args.self.now c.in_default.not-Instance c.in_default.not-TypeItem

pub returns-in_default-clause-types : goal.returns-in_default-clause-types
returns-in_default-clause-types c = all-none c.args.self.now.scopes
