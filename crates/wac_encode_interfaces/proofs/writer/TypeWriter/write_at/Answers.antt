use Rattle.std.specs.Prelude.{OnOk, List}
use Rattle.std.proofs.Common.{◌≡◌, Some, slice_get, sym, subst}
use Rattle.wac_types_shapes.specs.primitives.Name.{Name}
use Rattle.wac_types_shapes.specs.declared.shapes.component.ItemKind.{ItemKind}
use Rattle.wac_encode_scopes.specs.declared.side.Side.{Side as TheSide}
use Rattle.wac_encode_scopes.specs.Contents.{side_of}
use Rattle.wac_encode_interfaces.specs.private.Parts.{WritesItem}
use Rattle.wac_encode_interfaces.specs.private.Ordered.{side_list}
use Rattle.wac_types_shapes.specs.shapes.Kinds.{kind_type}
use Rattle.wac_types_shapes.specs.declared.shapes.component.«Type».{«Type» as AnyType}
use Rattle.wac_types_weight.specs.private.Laws.{Covers}
use Rattle.wac_encode_scopes.specs.private.Paid.{PaidBy}
use Rattle.wac_encode_interfaces.specs.private.Paid.{part_cost}
use Rattle.wac_encode_interfaces.proofs.writer.TypeWriter.write_at.Goals as goal

pub returns-in-Import : goal.returns-in-Import
returns-in-Import c = record {
  writes =
      subst (λ (s : TheSide). OnOk c.write_import.result ((n : Name) (k : ItemKind) → slice_get (side_list c.args.parts.now (side_of s)) c.args.position ≡ Some (n, k) → WritesItem c.args.self.now.types.now c.args.self.now.merged c.args.parts.now (side_of s) n c.args.state.now c.write_import.new.state))
      (sym c.in-Import.is) c.write_import.ensures.writes;
  paid =
      subst (λ (s : TheSide). (n : Name) (k : ItemKind) (ts : List AnyType) → slice_get (side_list c.args.parts.now (side_of s)) c.args.position ≡ Some (n, k) → Covers c.args.self.now.types.now ts (kind_type k) → PaidBy c.args.self.now.types.now c.args.self.now.merged ts (part_cost c.args.self.now.types.now c.args.parts.now (side_of s) c.args.position n k) c.args.state.now c.write_import.new.state c.write_import.result)
      (sym c.in-Import.is) c.write_import.ensures.paid;
}

pub returns-in-Export : goal.returns-in-Export
returns-in-Export c = record {
  writes =
      subst (λ (s : TheSide). OnOk c.write_export.result ((n : Name) (k : ItemKind) → slice_get (side_list c.args.parts.now (side_of s)) c.args.position ≡ Some (n, k) → WritesItem c.args.self.now.types.now c.args.self.now.merged c.args.parts.now (side_of s) n c.args.state.now c.write_export.new.state))
      (sym c.in-Export.is) c.write_export.ensures.writes;
  paid =
      subst (λ (s : TheSide). (n : Name) (k : ItemKind) (ts : List AnyType) → slice_get (side_list c.args.parts.now (side_of s)) c.args.position ≡ Some (n, k) → Covers c.args.self.now.types.now ts (kind_type k) → PaidBy c.args.self.now.types.now c.args.self.now.merged ts (part_cost c.args.self.now.types.now c.args.parts.now (side_of s) c.args.position n k) c.args.state.now c.write_export.new.state c.write_export.result)
      (sym c.in-Export.is) c.write_export.ensures.paid;
}
