use Rattle.std.proofs.Common.{ap, sym, ◌∙◌, ◌++◌, ◌+◌, drop, arith}
use Rattle.std.proofs.lemmas.List.{append-nil, drop_all}
use Rattle.wac_types_shapes.specs.primitives.Name.{Name}
use Rattle.wac_types_shapes.specs.declared.shapes.component.ItemKind.{ItemKind}
use Rattle.wac_types_collection.proofs.lemmas.reach.Lists.{drop_second}
use Rattle.wac_encode_interfaces.specs.private.Roots.{type_item_root, type_item_roots}
use Rattle.wac_encode_interfaces.proofs.RootTypes.{grown-by}
use Rattle.wac_encode_interfaces.proofs.roots.push_type_items.Goals as goal

pub loop-i-preserved : goal.loop-i-preserved
loop-i-preserved c =
    let (n, parts) = drop_second c.args.items.now c.loop-i.i c.value_at.result.now c.value_at.ensures in
    grown-by (λ (e : Name × ItemKind). type_item_root e.1) (n, c.value_at.result.now) (drop c.loop-i.i c.args.items.now) (drop (c.loop-i.i + 1) c.args.items.now) c.loop-i.found.items c.push_type_item.new.found.items _ parts
    c.in_ok-push_type_item.ensures c.loop-i.invariant

pub returns : goal.returns
returns c =
    let past = c.loop-i-test.false in
    let counted = c.len-i-end.ensures in
    sym (append-nil c.loop-i.found.items) ∙ ap (λ is. c.loop-i.found.items ++ type_item_roots is) (sym (drop_all c.loop-i.i c.args.items.now (omega (arith, past, counted)))) ∙ c.loop-i.invariant
