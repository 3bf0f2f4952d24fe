use Rattle.std.proofs.Common.{not, ap, ◌∙◌, None, subst}
use Rattle.wac_names.specs.Track.{HasTrack}
use Rattle.wac_names.specs.Views.{track_view}
use Rattle.wac_types_shapes.specs.primitives.Name.{Name}
use Rattle.wac_types_shapes.specs.primitives.Tree.{imported}
use Rattle.wac_types_shapes.specs.declared.shapes.component.ItemKind.TheVariants as kind
use Rattle.wac_types_shapes.proofs.lemmas.shapes.Under.{on_ok}
use Rattle.wac_merge_classes.specs.entries.Bindings.{member_leaves}
use Rattle.wac_merge_classes.specs.entries.Places.{own_at}
use Rattle.wac_merge_classes.proofs.lemmas.entries.ClassPaths.{off-track, on-track, track-test}
use Rattle.wac_merge_classes.proofs.lemmas.entries.Places.{adds-nothing, adds-same, exports_held}
use Rattle.wac_merge_classes.proofs.entries.bindings.put_instance.Goals as goal

pub put_own-requires : goal.put_own-requires
put_own-requires c = exports_held c.args.types.now c.law.ensures c.args.id c.index-it.result.now c.index-it.ensures

pub returns-then-ne : goal.returns-then-ne
returns-then-ne c class on =
    let it = c.index-it.result.now in
    adds-nothing c.args.bound.now (member_leaves c.args.types.now class (kind.Instance c.args.id))
    (off-track c.args.types.now class c.args.id it c.in-Some.text c.index-it.ensures c.in-Some.is
    (track-test c.in_ok-new.field-0 c.args.track.now c.in-Some.text class c.ne.result (subst (λ (n : Name). HasTrack n (track_view c.in_ok-new.field-0)) c.as_str.ensures c.in_ok-new.ensures.value) on c.ne.ensures ∙ ap not c.if-ne.true))

pub returns : goal.returns
returns c =
    let it = c.index-it.result.now in
    on_ok c.put_own.result
    (λ adds class on. adds-same c.args.bound.now c.put_own.new.self (own_at c.args.types.now it.uses imported None it.exports) (member_leaves c.args.types.now class (kind.Instance c.args.id))
    (on-track c.args.types.now class c.args.id it c.in-Some.text c.index-it.ensures c.in-Some.is
    (track-test c.in_ok-new.field-0 c.args.track.now c.in-Some.text class c.ne.result (subst (λ (n : Name). HasTrack n (track_view c.in_ok-new.field-0)) c.as_str.ensures c.in_ok-new.ensures.value) on c.ne.ensures ∙ ap not c.if-ne.false)) adds)
    c.put_own.ensures
