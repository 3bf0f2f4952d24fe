use Rattle.std.proofs.Common.{◌≡◌, true, subst}
use Rattle.wac_types_shapes.specs.declared.shapes.component.«Type».{«Type» as AnyType}
use Rattle.wac_types_shapes.specs.declared.shapes.component.«Type».TheVariants as ty
use Rattle.wac_types_shapes.specs.declared.shapes.component.ItemKind.TheVariants as kind
use Rattle.wac_types_collection.specs.collection.Collection.{holds_type}
use Rattle.wac_encode_scopes.proofs.Stepped.{all-none}
use Rattle.wac_encode.proofs.Results.{on-ok}
use Rattle.wac_encode.proofs.ToldItems.{kind-as, recordable, stands-as, tells-as, tells-module}
use Rattle.wac_encode.proofs.state.State.bind_type.Goals as goal

pub bind_resource-requires-clause-held : goal.bind_resource-requires-clause-held
bind_resource-requires-clause-held c = subst (λ (a : AnyType). holds_type c.args.types.now a ≡ true) c.in-Resource.is c.requires.held

pub bind_resource-requires-clause-stands : goal.bind_resource-requires-clause-stands
bind_resource-requires-clause-stands c = stands-as c.args.types.now c.args.merged (kind.TypeItem c.args.ty) (kind.TypeItem (ty.Resource c.in-Resource.id)) c.args.index c.args.self.now (kind-as c.args.ty (ty.Resource c.in-Resource.id) c.in-Resource.is) c.requires.stands

pub returns-in-Resource-clause-tells : goal.returns-in-Resource-clause-tells
returns-in-Resource-clause-tells c = on-ok c.bind_resource.result (tells-as c.args.types.now c.args.merged (kind.TypeItem c.args.ty) (kind.TypeItem (ty.Resource c.in-Resource.id)) c.args.index c.args.self.now c.bind_resource.new.self (kind-as c.args.ty (ty.Resource c.in-Resource.id) c.in-Resource.is)) c.bind_resource.ensures.tells

pub returns-in-Module-clause-tells : goal.returns-in-Module-clause-tells
returns-in-Module-clause-tells c = tells-module c.args.types.now c.args.merged c.args.ty c.in-Module.field-0 c.args.index c.args.self.now c.in-Module.is

pub returns-in-Module-clause-types : goal.returns-in-Module-clause-types
returns-in-Module-clause-types c = all-none c.args.self.now.scopes

pub record_type-requires-clause-recordable : goal.record_type-requires-clause-recordable
record_type-requires-clause-recordable c = recordable c.args.ty c.in_default.not-Resource c.in_default.not-Module
