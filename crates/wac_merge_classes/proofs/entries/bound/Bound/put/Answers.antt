use Rattle.std.proofs.Common.{cond, nat_eq, Some, ◌∙◌}
use Rattle.wac_types_collection.specs.subtyping.CalledViews.{side_view}
use Rattle.wac_merge_classes.specs.entries.Places.{find_resource, given_path, leaf_at, leaves, place_view}
use Rattle.wac_merge_classes.proofs.lemmas.entries.Places.{find-put, find-some, only-new, only-there}
use Rattle.wac_merge_classes.proofs.entries.bound.Bound.put.Goals as goal

pub returns-then-contains_key : goal.returns-then-contains_key
returns-then-contains_key c =
    only-there c.args.self.now c.args.resource (leaf_at (side_view c.args.side) (given_path c.args.path.now))
    (find-some place_view c.self.inside.places.entries c.args.self.now c.args.resource c.contains_key.result c.self.view_is c.contains_key.ensures ∙ c.if-contains_key.true)

pub returns-in-Ok : goal.returns-in-Ok
returns-in-Ok c =
    let entries = c.self.inside.places.entries in
    let old = c.args.self.now in
    let q = c.args.resource in
    let place = leaf_at (side_view c.args.side) (given_path c.args.path.now) in
    only-new old (leaves c.insert.new.self.entries) q place
    (find-some place_view entries old q c.contains_key.result c.self.view_is c.contains_key.ensures ∙ c.if-contains_key.false)
    (λ r. find-put place_view entries c.insert.new.self.entries q _ c.in-Ok.ensures.updates.0 r
    ∙ (λ j. cond (nat_eq q.0 r.0) (Some (leaf_at (side_view c.args.side) (c.in_ok-path.ensures j))) (find_resource (c.self.view_is j) r)))
