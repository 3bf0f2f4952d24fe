use Rattle.std.proofs.Common.{ℕ, ◌≡◌, ◌+◌, nat_le, Some, ap, sym, ◌∙◌, subst, arith, slice_get}
use Rattle.wac_types_shapes.specs.primitives.Name.{Name}
use Rattle.wac_types_shapes.specs.primitives.Tree.{imported, exported}
use Rattle.wac_types_shapes.specs.declared.shapes.component.ItemKind.{ItemKind}
use Rattle.wac_encode_faults.specs.Cycle.{numbered_items}
use Rattle.wac_encode_interfaces.specs.private.Worlds.{written_in}
use Rattle.wac_encode_interfaces.specs.private.Written.{side_item}
use Rattle.wac_encode_interfaces.specs.private.Parts.{sides_in, WritesItem}
use Rattle.wac_encode_interfaces.proofs.Bound.{one-some}
use Rattle.wac_encode_interfaces.proofs.Written.{on-ok}
use Rattle.wac_encode_interfaces.proofs.Sided.{import-item, export-item, number-of}
use Rattle.wac_types_shapes.specs.shapes.Kinds.{kind_type}
use Rattle.wac_types_weight.specs.private.Laws.{Covers}
use Rattle.wac_encode_scopes.specs.private.Paid.{IsAnswerPaid}
use Rattle.wac_encode_interfaces.specs.private.Paid.{part_cost}
use Rattle.wac_encode_interfaces.proofs.writer.TypeWriter.write_export.Goals as goal

pub write_item-requires-clause-item : goal.write_item-requires-clause-item
write_item-requires-clause-item c =
    export-item c.args.self.now.types.now c.args.self.now.merged (written_in c.args.self.now.worlds.now) c.args.parts.now c.requires.planned c.args.position c.entry_at.result.0.now c.entry_at.result.1.now c.entry_at.ensures

pub write_item-requires-clause-number : goal.write_item-requires-clause-number
write_item-requires-clause-number c =
    subst (λ (m : ℕ). slice_get (numbered_items (sides_in c.args.parts.now)) (m + c.args.position) ≡ Some (side_item exported c.entry_at.result.0.now)) (sym c.len.ensures)
    (number-of c.args.self.now.types.now c.args.self.now.merged (written_in c.args.self.now.worlds.now) c.args.parts.now c.requires.planned exported c.args.position c.entry_at.result.0.now c.entry_at.result.1.now c.entry_at.ensures)

pub write_item-requires-clause-next : goal.write_item-requires-clause-next
write_item-requires-clause-next c = c.requires.next c.entry_at.result.0.now c.entry_at.result.1.now c.entry_at.ensures

pub returns-clause-writes : goal.returns-clause-writes
returns-clause-writes c =
    on-ok c.write_item.result (λ h n k at.
    let same = one-some {A = Name × ItemKind} (c.entry_at.result.0.now, c.entry_at.result.1.now) (n, k) (sym c.entry_at.ensures ∙ at) in
    subst (λ (e : Name × ItemKind). WritesItem c.args.self.now.types.now c.args.self.now.merged c.args.parts.now exported e.0 c.args.state.now c.write_item.new.state) same h)
    c.write_item.ensures.writes

pub returns-clause-paid : goal.returns-clause-paid
returns-clause-paid c n k ts at covers priced =
    let same = one-some {A = Name × ItemKind} (c.entry_at.result.0.now, c.entry_at.result.1.now) (n, k) (sym c.entry_at.ensures ∙ at) in
    subst (λ (e : Name × ItemKind). IsAnswerPaid c.args.self.now.types.now c.args.self.now.merged ts (part_cost c.args.self.now.types.now c.args.parts.now exported c.args.position e.0 e.1) c.args.state.now c.write_item.new.state c.write_item.result) same
    (c.write_item.ensures.paid ts (subst (λ (e : Name × ItemKind). Covers c.args.self.now.types.now ts (kind_type e.1)) (sym same) covers) priced)
