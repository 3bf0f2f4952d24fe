use Rattle.std.proofs.Common.{cond, nat_eq, Some, sym, ◌∙◌}
use Rattle.std.specs.Option.{option_copied}
use Rattle.wac_merge_classes.specs.private.terms.ValueBindings.{find_value}
use Rattle.wac_merge_resources.specs.private.values.Listings.{found, listing_view, listings_view, path_of}
use Rattle.wac_merge_resources.proofs.lemmas.values.Tables.{find-put, put-before, put-behind, stays-anywhere}
use Rattle.wac_merge_resources.proofs.values.table.Table.put.Goals as goal

pub returns-then-stays : goal.returns-then-stays
returns-then-stays c =
    let old = c.args.self.now in
    let q = c.args.value in
    let f = found c.args.is_used c.args.class (path_of (option_copied c.args.name)) in
    put-behind old q f (stays-anywhere (find_value old q) f ∙ sym c.stays.ensures ∙ c.if-stays.true)

pub returns-in-Ok : goal.returns-in-Ok
returns-in-Ok c =
    let old = c.args.self.now in
    let entries = c.self.inside.listings.entries in
    let q = c.args.value in
    let f = found c.args.is_used c.args.class (path_of (option_copied c.args.name)) in
    put-before old (listings_view c.insert.new.self.entries) q f (stays-anywhere (find_value old q) f ∙ sym c.stays.ensures ∙ c.if-stays.false)
    (λ d. find-put listing_view entries c.insert.new.self.entries q _ c.in-Ok.ensures.updates.0 d
    ∙ (λ j. cond (nat_eq q.0 d.0) (Some (found c.args.is_used c.args.class (path_of (c.in_ok-name.ensures j)))) (find_value (c.self.view_is j) d)))
