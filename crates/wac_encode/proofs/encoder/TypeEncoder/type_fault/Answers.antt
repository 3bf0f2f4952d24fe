use Rattle.std.proofs.Common.{◌≡◌, true, sym, subst}
use Rattle.wac_types_shapes.specs.shapes.Kinds.{kind_type}
use Rattle.wac_types_shapes.specs.declared.shapes.component.ItemKind.{ItemKind}
use Rattle.wac_types_shapes.specs.declared.shapes.component.«Type».{«Type» as AnyType}
use Rattle.wac_types_collection.specs.collection.Collection.{holds_type}
use Rattle.wac_encode_faults.specs.declared.faults.Role.TheVariants as role
use Rattle.wac_encode_faults.specs.Faults.{HasFault, IsLowest}
use Rattle.wac_encode.proofs.Results.{if-ok}
use Rattle.wac_encode.proofs.Faultless.{lowest-type, type-of-item}
use Rattle.wac_encode.proofs.encoder.TypeEncoder.type_fault.Goals as goal

pub find_fault-requires : goal.find_fault-requires
find_fault-requires c = subst (λ (k : ItemKind). holds_type c.args.self.now.types.now (kind_type k) ≡ true) (sym c.item_of_type-item.ensures) (subst (λ (a : AnyType). holds_type c.args.self.now.types.now a ≡ true) (sym (type-of-item c.args.ty)) c.requires)

pub returns : goal.returns
returns c = if-ok _ _ c.find_fault.result (λ o h m is. lowest-type c.args.self.now.types.now m c.args.ty o (subst (λ (k : ItemKind). IsLowest (HasFault c.args.self.now.types.now m role.Imported k) o) c.item_of_type-item.ensures (h m is))) c.find_fault.ensures
