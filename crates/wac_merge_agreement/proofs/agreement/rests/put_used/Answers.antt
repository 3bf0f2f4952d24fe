use Rattle.std.proofs.Common.{◌+◌, List, [], ℕ, Option, drop, sym, ap, ◌∙◌, add-one, arith}
use Rattle.std.proofs.lemmas.List.{drop_all}
use Rattle.wac_types_shapes.specs.declared.shapes.component.InterfaceId.{InterfaceId}
use Rattle.wac_merge_tables.specs.private.tables.Nodes.{and_optional}
use Rattle.wac_edges.specs.private.Arranging.{with_all}
use Rattle.wac_merge_agreement.specs.private.agreement.Resting.{used_classes}
use Rattle.wac_merge_agreement.proofs.lemmas.agreement.RestSets.{used_at, used_next}
use Rattle.wac_merge_agreement.proofs.agreement.rests.put_used.Goals as goal

pub interface_at-id-requires : goal.interface_at-id-requires
interface_at-id-requires c = let l = c.len-i-end.ensures.len in let t = c.loop-i-test.true in omega (arith, l, t)

pub interface_class-requires : goal.interface_class-requires
interface_class-requires c = used_at c.args.types.now c.args.used.now.keys c.requires c.loop-i.i c.interface_at-id.result c.interface_at-id.ensures

pub loop-i-preserved : goal.loop-i-preserved
loop-i-preserved c =
    let rest : List ℕ = used_classes c.args.types.now c.args.classes.now.names (drop (c.loop-i.i + 1) c.args.used.now.keys) in
    ap (λ (ks : List ℕ). with_all ks rest) c.in_ok-put_optional.ensures
    ∙ ap (λ (o : Option ℕ). with_all (with_all c.loop-i.numbers.keys (and_optional o [])) rest) c.interface_class.ensures
    ∙ (rw add-one (sym (used_next c.args.types.now c.args.classes.now.names c.args.used.now.keys c.loop-i.i c.interface_at-id.result c.loop-i.numbers.keys c.interface_at-id.ensures)))
    ∙ c.loop-i.invariant

pub returns : goal.returns
returns c =
    let past = c.loop-i-test.false in
    let counted = c.len-i-end.ensures.len in
    sym (ap (λ (is : List InterfaceId). with_all c.loop-i.numbers.keys (used_classes c.args.types.now c.args.classes.now.names is)) (drop_all c.loop-i.i c.args.used.now.keys (omega (arith, past, counted)))) ∙ c.loop-i.invariant
