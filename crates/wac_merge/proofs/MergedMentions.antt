-- The imports of a finished merge mention what stands before them.
use Rattle.std.proofs.Common.{List, subst, arith}
use Rattle.std.proofs.lemmas.Option.{slice_get_within}
use Rattle.wac_types_shapes.specs.primitives.Tree.{Leaf, Tree}
use Rattle.wac_types_collection.specs.collection.Collection.{Collection}
use Rattle.wac_merge_classes.specs.entries.Classes.{Entry, by_names, class_names}
use Rattle.wac_merge_classes.proofs.lemmas.entries.Lists.{some-at}
use Rattle.wac_merge_classes.specs.terms.ClassOrder.{Mentions, begins_at}
use Rattle.wac_merge_classes.specs.terms.Merge.{IsMerge, Merged}
use Rattle.wac_merge_classes.specs.terms.NoDisagreement.{HasNoDisagreement}
use Rattle.wac_merge_agreement.proofs.lemmas.agreement.OrderLaws.{order_each}
use Rattle.wac_merge_classes.specs.terms.Faults.{HasNoCircle}
use Rattle.wac_merge.specs.MergedPlaces.{MentionsBefore}
use Rattle.wac_merge.proofs.OrderMentions.{merged_mentions}
use Rattle.wac_merge_agreement.proofs.lemmas.agreement.RestLinks.{contains_at}

pub imports_mention : (c : Collection) (es : List Entry) (m : Merged) → HasNoDisagreement by_names c es → HasNoCircle by_names c es → IsMerge by_names c es m → MentionsBefore by_names m
imports_mention c es m agree ends is p j e at h =
    let count = is.count in
    let less = slice_get_within m.imports p e at in
    let k = some-at is.order p (omega (arith, less, count)) in
    let class = some-at (class_names by_names es) k.0 ((order_each by_names es c is.order is.written k.0).0 (contains_at is.order p k.0 k.1)) in
    merged_mentions c es agree ends is.order is.written p k.0 class.0 k.1 class.1 j
    (subst (λ (t : Tree). Mentions (λ (l : Leaf). begins_at j l.path) t) (is.items p k.0 class.0 e k.1 class.1 at) h)
