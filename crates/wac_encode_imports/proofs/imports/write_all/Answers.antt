use Rattle.std.proofs.Common.{ℕ, ◌≡◌, ◌+◌, length, true, List, [], ◌∷◌, ◌++◌, ap, ◌∙◌, sym, subst, arith, add-one}
use Rattle.std.proofs.lemmas.List.{length-map}
use Rattle.wac_types_shapes.specs.primitives.Name.{Name}
use Rattle.wac_types_shapes.specs.declared.shapes.component.ItemKind.{ItemKind}
use Rattle.wac_binary.specs.declared.sorts.Sort.{Sort}
use Rattle.wac_merge_classes.specs.entries.Classes.{Entry}
use Rattle.wac_encode_interfaces.specs.private.Imports.{import_sort}
use Rattle.wac_encode_imports.specs.private.Modules.{module_index}
use Rattle.wac_encode_imports.specs.private.Written.{merge_of, AreWritten}
use Rattle.wac_encode_imports.proofs.ModuleTypes.{none-known}
use Rattle.wac_encode_imports.proofs.Steps.{all-written, begun, entry-there, written-next}
use Rattle.wac_encode_imports.proofs.Costing.{within-end}
use Rattle.wac_encode_imports.proofs.ImportPaying.{within-begun, within-further, imports-refused, imports-memory}
use Rattle.wac_encode_imports.proofs.imports.write_all.Goals as goal

pub loop-i-init : goal.loop-i-init
loop-i-init c =
    let m = merge_of c.args.writer.now c.args.imports.now in (
      subst (λ (ps : List (Sort × ℕ)). AreWritten m 0 ps c.root-state.result) (sym c.new-places.ensures.items) (begun m c.root-state.result c.root-state.ensures.content c.root-state.ensures.good),
      none-known c.args.writer.now c.root-state.result (module_index c.new-modules.result) c.new-modules.ensures,
      within-begun m (module_index c.new-modules.result) c.root-state.result (c.root-state.ensures.uncharged m.types true).0,
    )

pub import-requires-clause-known : goal.import-requires-clause-known
import-requires-clause-known c = c.loop-i.invariant.1

pub import-requires-clause-next : goal.import-requires-clause-next
import-requires-clause-next c = (
  merge_of c.args.writer.now c.args.imports.now,
  c.loop-i.places.items,
  c.requires,
  record { there = entry-there c.args.imports.now c.loop-i.i (c.entry_at.result.0.now, c.entry_at.result.1.now) c.entry_at.ensures; written = c.loop-i.invariant.0 },
)

pub loop-i-preserved : goal.loop-i-preserved
loop-i-preserved c =
    let m = merge_of c.args.writer.now c.args.imports.now in
    let e : Entry = record { name = c.entry_at.result.0.now; kind = c.entry_at.result.1.now } in
    let there = entry-there c.args.imports.now c.loop-i.i (c.entry_at.result.0.now, c.entry_at.result.1.now) c.entry_at.ensures in (
      subst (λ (ps : List (Sort × ℕ)). AreWritten m (c.loop-i.i + 1) ps c.import.new.state) (sym (c.in_ok-push.ensures.items ∙ ap (λ (s : Sort). c.loop-i.places.items ++ (s, c.in_ok-index.index) ∷ []) c.sort_of.ensures))
          (subst (λ n. AreWritten m n (c.loop-i.places.items ++ (import_sort e.kind, c.in_ok-index.index) ∷ []) c.import.new.state) (sym (add-one c.loop-i.i))
          (written-next c.root_law.ensures.lists_import c.part_law.ensures.held_under_more c.beside_law.ensures.goes_on_beside m c.loop-i.i e there c.loop-i.places.items c.loop-i.state c.import.new.state c.in_ok-index.index c.loop-i.invariant.0
          (c.in_ok-index.ensures.written m c.requires c.loop-i.places.items (record { there = there; written = c.loop-i.invariant.0 })))),
      c.in_ok-index.ensures.known,
      within-further m c.args.writer.now c.requires c.loop-i.i e c.loop-i.places.items (module_index c.loop-i.modules) (module_index c.import.new.modules) c.loop-i.state c.import.new.state c.in_ok-index.index (record { there = there; written = c.loop-i.invariant.0 }) c.loop-i.invariant.2 c.in_ok-index.ensures.paid,
    )

pub returns-clause-small : goal.returns-clause-small
returns-clause-small c = within-end (merge_of c.args.writer.now c.args.imports.now) c.loop-i.i (module_index c.loop-i.modules) c.loop-i.state c.loop-i.invariant.0.root c.loop-i.invariant.2

pub returns-in_err-index-clause-small : goal.returns-in_err-index-clause-small
returns-in_err-index-clause-small c =
    let m = merge_of c.args.writer.now c.args.imports.now in
    let e : Entry = record { name = c.entry_at.result.0.now; kind = c.entry_at.result.1.now } in
    let there = entry-there c.args.imports.now c.loop-i.i (c.entry_at.result.0.now, c.entry_at.result.1.now) c.entry_at.ensures in
    imports-refused m c.args.writer.now c.requires c.loop-i.i e c.loop-i.places.items (module_index c.loop-i.modules) (module_index c.import.new.modules) c.loop-i.state c.import.new.state (c.in_err-index.field-0).0 c.from_residual.result c.from_residual.ensures.1 (record { there = there; written = c.loop-i.invariant.0 }) c.loop-i.invariant.2 c.in_err-index.ensures.paid

pub returns-in_err-push-clause-small : goal.returns-in_err-push-clause-small
returns-in_err-push-clause-small c = imports-memory (merge_of c.args.writer.now c.args.imports.now) c.from_residual-in_err-push.result c.from_residual-in_err-push.ensures.1

pub returns-clause-imported : goal.returns-clause-imported
returns-clause-imported c =
    let m = merge_of c.args.writer.now c.args.imports.now in
    let all : length m.imports ≡ length c.args.imports.now = length-map c.args.imports.now (λ (e : Name × ItemKind). record { name = e.0; kind = e.1 }) in
    let past = c.loop-i-test.false in
    let within = c.loop-i.auto.i-end in
    let counted = c.len-i-end.ensures in
    all-written m c.requires.writable.distinct c.loop-i.i c.loop-i.places.items c.loop-i.state (omega (arith, all, past, within, counted)) c.loop-i.invariant.0
