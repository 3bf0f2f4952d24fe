use Rattle.std.proofs.Common.{List, subst, arith, add-one}
use Rattle.std.proofs.lemmas.List.{take_all}
use Rattle.wac_types_shapes.specs.primitives.Name.{Name}
use Rattle.wac_types_shapes.specs.declared.shapes.component.ItemKind.{ItemKind}
use Rattle.wac_merge_imports.specs.private.unions.BoundNames.{AddsNames}
use Rattle.wac_merge_imports.proofs.lemmas.unions.BoundNames.{names-first, names-more}
use Rattle.wac_merge_imports.proofs.unions.bound.put_names.Goals as goal

pub loop-i-init : goal.loop-i-init
loop-i-init c = names-first c.args.bindings.now c.args.number c.args.names.now

pub loop-i-preserved : goal.loop-i-preserved
loop-i-preserved c =
    rw add-one (names-more c.args.bindings.now c.args.number c.args.items.now c.loop-i.i (c.entry_at.result.0.now, c.entry_at.result.1.now) c.args.names.now c.loop-i.names c.put_name.new.names
    c.entry_at.ensures c.loop-i.invariant c.in_ok-put_name.ensures)

pub returns : goal.returns
returns c =
    let past = c.loop-i-test.false in
    let counted = c.len-i-end.ensures in
    subst (λ (l : List (Name × ItemKind)). AddsNames c.args.bindings.now c.args.number l c.args.names.now c.loop-i.names) (take_all c.loop-i.i c.args.items.now (omega (arith, past, counted))) c.loop-i.invariant
