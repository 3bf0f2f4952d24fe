use Rattle.std.proofs.Common.{◌≡◌, ℕ, List, Some, slice_get, get_or, length, refl, sym, ap, ◌∙◌, subst, arith, add-one}
use Rattle.std.proofs.Math.ListN.{length-set}
use Rattle.std.proofs.lemmas.List.{take_all}
use Rattle.std.proofs.lemmas.Option.{slice_get_read, slice_get_within, slice_get-get_or}
use Rattle.wac_names.specs.Reading.{read_track}
use Rattle.wac_names.specs.Views.{track_view}
use Rattle.wac_names.specs.declared.tracks.Track.{Track}
use Rattle.wac_types_shapes.specs.primitives.Name.{Name}
use Rattle.wac_types_shapes.specs.primitives.Tree.{Leaf}
use Rattle.wac_types_shapes.specs.declared.shapes.component.ResourceId.{ResourceId}
use Rattle.wac_types_shapes.specs.declared.shapes.component.ItemKind.{ItemKind}
use Rattle.wac_merge_classes.specs.entries.Bindings.{HaveBound, member_leaves}
use Rattle.wac_merge_classes.specs.entries.Classes.{Entry, by_names, class_names}
use Rattle.wac_merge_classes.specs.entries.Places.{Adds}
use Rattle.wac_merge_classes.proofs.lemmas.entries.ClassPaths.{bound-more}
use Rattle.wac_merge_classes.proofs.entries.bindings.class_bindings.Goals as goal

pub loop-i-preserved : goal.loop-i-preserved
loop-i-preserved c =
    let es = c.args.entries.now in
    let i : ℕ = c.loop-i.i in
    let numbers : List ℕ = c.args.classes.now.numbers.items in
    let k : ℕ = get_or c.numbers-numbers.result.now i 0 in
    let tracks : List Track = c.in_ok-tracks.tracks.items in
    let classes : List (List (ResourceId × Leaf)) = c.loop-i.bound.items in
    let e : Entry = c.index-entries-i.result in
    let t : Track = c.index.result.now in
    let m : List (ResourceId × Leaf) = c.index_mut.result.now in
    let new : List (ResourceId × Leaf) = c.put_member.new.bound in
    let at : slice_get es i ≡ Some e = slice_get_read es (length es) i e refl c.loop-i-test.true c.index-entries-i.is in
    let number : slice_get numbers i ≡ Some k =
    ap (λ l. slice_get l i) (sym c.numbers-numbers.ensures) ∙ slice_get-get_or c.numbers-numbers.result.now i 0 (omega (arith, ap length c.numbers-numbers.ensures, c.requires.classes.counted)) in
    let w = c.requires.classes.numbered i k e at number in
    let within = slice_get_within (class_names by_names es) k w.0 w.1 in
    let track : slice_get tracks k ≡ Some t = slice_get_read tracks (length tracks) k t refl (omega (arith, within, c.in_ok-tracks.ensures.counted)) c.index.ensures in
    let known : slice_get classes k ≡ Some m = slice_get_read classes (length classes) k m refl (omega (arith, within, c.loop-i.invariant.counted)) c.index_mut.ensures.value in
    let adds = subst (λ (q : ItemKind). (class : Name) → track_view t ≡ read_track class → Adds m (member_leaves c.args.types.now class q) new) c.kind-kind.ensures c.in_ok-put_member.ensures in
    record {
      counted = length-set classes k new ∙ c.loop-i.invariant.counted;
      bound = rw add-one (bound-more es c.args.types.now i k e t tracks classes m new at w c.in_ok-tracks.ensures.tracks track known adds c.loop-i.invariant.bound);
    }

pub returns-clause-bound : goal.returns-clause-bound
returns-clause-bound c =
    let es = c.args.entries.now in
    subst (λ (l : List Entry). HaveBound c.args.types.now es l c.loop-i.bound.items) (take_all c.loop-i.i es (omega arith)) c.loop-i.invariant.bound
