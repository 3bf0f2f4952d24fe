-- New resources and ends stay what they are as a collection grows.
use Rattle.std.proofs.Common.{◌≡◌, length, slice_get, sym, ap, ◌∙◌, List}
use Rattle.std.proofs.lemmas.Option.{slice_get_within}
use Rattle.wac_types_shapes.specs.primitives.Name.{Name}
use Rattle.wac_types_collection.specs.collection.Collection.{Collection, HasResource, IsWellFormed, IsKeptBy}
use Rattle.wac_types_collection.specs.collection.Held.{resolved, source_of}
use Rattle.wac_types_shapes.specs.declared.shapes.component.ResourceId.{ResourceId}
use Rattle.wac_types_collection.specs.subtyping.Subtype.{held_name, resource_names}
use Rattle.wac_merge_classes.specs.declared.terms.fresh.Fresh.{Fresh}
use Rattle.wac_merge_classes.specs.declared.terms.parts.Union.{Union}
use Rattle.wac_merge_classes.specs.terms.Became.{AreFresh, IsNew}
use Rattle.wac_merge_classes.specs.entries.Bindings.{ClassBindings}
use Rattle.wac_merge_classes.specs.terms.Renaming.{AreEnds}
use Rattle.wac_merge_imports.proofs.lemmas.fitting.BecameEnds.{no-source}
use Rattle.wac_merge_imports.proofs.lemmas.fitting.FittingOwn.{itself-no-alias, no-value}
use Rattle.wac_merge_classes.proofs.lemmas.entries.Lists.{some-at}

module _ (m d : Collection) (wf : IsWellFormed m) (kept : IsKeptBy m d) where
  -- a held resource stands where it stood
  same-resource : (q : ResourceId) → HasResource m q → slice_get d.resources q.0 ≡ slice_get m.resources q.0
  same-resource q held = let w = some-at m.resources q.0 held in kept.resources q.0 w.0 w.1 ∙ sym w.1

  still-held : (q : ResourceId) → HasResource m q → HasResource d q
  still-held q held = let w = some-at m.resources q.0 held in slice_get_within d.resources q.0 w.0 (kept.resources q.0 w.0 w.1)

  -- one that is no alias stays so
  still-itself : (q : ResourceId) → HasResource m q → resolved m q ≡ q → resolved d q ≡ q
  still-itself q held itself =
      no-source d (length d.resources) q (ap source_of (same-resource q held) ∙ no-value (source_of (slice_get m.resources q.0)) (itself-no-alias m wf q held itself))

  still-named : (q : ResourceId) → HasResource m q → resource_names d q ≡ resource_names m q
  still-named q held = ap held_name (same-resource q held)

  module _ (c : Collection) where
    new-kept : (q : ResourceId) (n : Name) → IsNew c m q n → IsNew c d q n
    new-kept q n new = record {
      added = new.added;
      there = still-held q new.there;
      itself = still-itself q new.there new.itself;
      named = still-named q new.there ∙ new.named;
    }

    -- new resources stay new
    pub fresh-kept : (us : List Union) (bs : ClassBindings) (f : Fresh) → AreFresh c us bs f m → AreFresh c us bs f d
    fresh-kept us bs f fresh = record {
      listed = fresh.listed;
      own = λ u n q is. new-kept q n (fresh.own u n q is);
      bound = fresh.bound;
      whole = λ k q is. let w = fresh.whole k q is in (w.0, w.1, new-kept q _ w.2);
      once = fresh.once;
      once_whole = fresh.once_whole;
      apart = fresh.apart;
    }

    -- and ends stay ends
    pub ends-kept : (g : ResourceId → ResourceId) → AreEnds c m g → AreEnds c d g
    ends-kept g ends r held =
        let w = ends r held in
        (still-held (g (resolved c r)) w.0, still-itself (g (resolved c r)) w.0 w.1, still-named (g (resolved c r)) w.0 ∙ w.2)
