use Rattle.std.proofs.Common.{◌≡◌, ℕ, ◌+◌, ◌<◌, List, [], ◌∷◌, ◌++◌, Some, slice_get, get_or, length, refl, sym, ap, ◌∙◌, subst, arith}
use Rattle.std.proofs.lemmas.List.{length-append}
use Rattle.std.proofs.lemmas.Option.{slice_get_read, slice_get_within, slice_get-get_or}
use Rattle.wac_names.specs.Track.{HasTrack}
use Rattle.wac_names.specs.Views.{track_view}
use Rattle.wac_names.specs.declared.tracks.Track.{Track}
use Rattle.wac_types_shapes.specs.primitives.Name.{Name}
use Rattle.wac_merge_classes.specs.entries.Bindings.{HaveTracks}
use Rattle.wac_merge_classes.specs.entries.Classes.{Entry}
use Rattle.wac_merge_classes.proofs.lemmas.entries.ClassPaths.{position-at, tracks-push}
use Rattle.wac_merge_classes.proofs.entries.bindings.class_tracks.Goals as goal

pub bounds-entries-positions : goal.bounds-entries-positions
bounds-entries-positions c =
    let es = c.args.entries.now in
    let positions : List ℕ = c.positions-positions.result.now in
    let k : ℕ = c.loop-k.k in
    let at = ap (λ l. slice_get l k) (sym c.positions-positions.ensures) ∙ slice_get-get_or positions k 0 c.loop-k-test.true in
    let w = position-at es c.args.classes.now.numbers.items c.args.classes.now.positions.items c.args.classes.now.names c.requires k (get_or positions k 0) at in
    slice_get_within es (get_or positions k 0) w.entry w.there

pub loop-k-preserved : goal.loop-k-preserved
loop-k-preserved c =
    let es = c.args.entries.now in
    let positions : List ℕ = c.positions-positions.result.now in
    let k : ℕ = c.loop-k.k in
    let p : ℕ = get_or positions k 0 in
    let tracks : List Track = c.loop-k.tracks.items in
    let t : Track = c.in_ok-new.field-0 in
    let e : Entry = c.index-entries-positions.result in
    let v = c.loop-k.invariant in
    let at = ap (λ l. slice_get l k) (sym c.positions-positions.ensures) ∙ slice_get-get_or positions k 0 c.loop-k-test.true in
    let w = position-at es c.args.classes.now.numbers.items c.args.classes.now.positions.items c.args.classes.now.names c.requires k p at in
    let there : slice_get es p ≡ Some e = slice_get_read es (length es) p e refl (slice_get_within es p w.entry w.there) c.index-entries-positions.is in
    let has : HasTrack e.name (track_view t) = subst (λ (n : Name). HasTrack n (track_view t)) c.name.ensures c.in_ok-new.ensures.value in
    let items : c.push.new.self.items ≡ tracks ++ t ∷ [] = c.in_ok-push.ensures.items in
    record {
      counted = ap length items ∙ (length-append tracks (t ∷ []) ∙ ap (λ n. n + 1) v.counted);
      tracks = subst (λ (l : List Track). HaveTracks es l) (sym items) (tracks-push es tracks k p e t v.counted v.tracks w there has);
    }

pub offset_bounds-entries-positions : goal.offset_bounds-entries-positions
offset_bounds-entries-positions c =
    let es = c.args.entries.now in
    let positions : List ℕ = c.positions-positions.result.now in
    let k : ℕ = c.loop-k.k in
    let at = ap (λ l. slice_get l k) (sym c.positions-positions.ensures) ∙ slice_get-get_or positions k 0 c.loop-k-test.true in
    let w = position-at es c.args.classes.now.numbers.items c.args.classes.now.positions.items c.args.classes.now.names c.requires k (get_or positions k 0) at in
    let within : get_or positions k 0 < length es = slice_get_within es (get_or positions k 0) w.entry w.there in
    omega arith
