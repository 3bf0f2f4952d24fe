use Rattle.std.proofs.Common.{Some, nat_eq, sym, ap, ◌∙◌}
use Rattle.std.specs.Cmp.Lexicographic.{pointwise}
use Rattle.wac_types_shapes.proofs.lemmas.shapes.Names.{same_name-bytes_eq}
use Rattle.wac_types_shapes.proofs.lemmas.shapes.Under.{on_ok}
use Rattle.wac_types_collection.specs.subtyping.CalledViews.{side_view}
use Rattle.wac_merge_classes.specs.entries.Places.{bound_by_instance, own_at}
use Rattle.wac_merge_classes.proofs.lemmas.entries.Places.{adds-nothing, adds-same, exports_held, instance-other, instance-under}
use Rattle.wac_merge_classes.proofs.entries.bound.Bound.put_instance.Goals as goal

pub put_own-requires : goal.put_own-requires
put_own-requires c = exports_held c.args.types.now c.law.ensures c.in-Instance.id c.index-it.result.now c.index-it.ensures

pub returns-in-Some : goal.returns-in-Some
returns-in-Some c =
    let it = c.index-it.result.now in
    let n = c.args.name.now in
    on_ok c.put_own.result
    (adds-same c.args.self.now c.put_own.new.self (own_at c.args.types.now it.uses (side_view c.args.side) (Some n) it.exports) (bound_by_instance c.args.types.now (side_view c.args.side) (n, c.args.kind))
    (instance-under c.args.types.now (side_view c.args.side) n c.args.kind c.in-Instance.id it c.in-Some.text c.in-Instance.is c.index-it.ensures c.in-Some.is
    (sym (same_name-bytes_eq c.in-Some.text n) ∙ ap (λ t. pointwise nat_eq t n) (sym c.as_str.ensures) ∙ sym c.eq.ensures ∙ c.if-eq.true)))
    c.put_own.ensures

pub returns-in_default-id : goal.returns-in_default-id
returns-in_default-id c =
    let it = c.index-it.result.now in
    let n = c.args.name.now in
    adds-nothing c.args.self.now (bound_by_instance c.args.types.now (side_view c.args.side) (n, c.args.kind))
    (instance-other c.args.types.now (side_view c.args.side) n c.args.kind c.in-Instance.id it c.in-Some.text c.in-Instance.is c.index-it.ensures c.in-Some.is
    (sym (same_name-bytes_eq c.in-Some.text n) ∙ ap (λ t. pointwise nat_eq t n) (sym c.as_str.ensures) ∙ sym c.eq.ensures ∙ c.if-eq.false))
