use Rattle.std.proofs.Common.{◌≡◌, slice_get, Some, sym, ap, ◌∙◌}
use Rattle.wac_merge_trees.specs.declared.coding.calls.Calls.{Calls}
use Rattle.wac_merge_trees.specs.declared.coding.coder.Source.{Source}
use Rattle.wac_merge_classes.specs.declared.entries.scopes.Scope.{Scope}
use Rattle.wac_merge_trees.specs.private.coding.Listings.{at_scope}
use Rattle.wac_merge_trees.proofs.lemmas.coding.OpenedItems.{known-with}
use Rattle.wac_merge_trees.proofs.lemmas.coding.Opened.{listed-all, listed-opens, listed-behind}
use Rattle.wac_merge_trees.proofs.coding.listings.listing_at.Goals as goal

pub listed_kinds-kinds-requires : goal.listed_kinds-kinds-requires
listed_kinds-kinds-requires c =
    let s = c.args.source.now in
    let t : Scope = c.scope.result in
    let at : slice_get s.calls.now.scopes.now c.args.position ≡ Some t = sym (ap (λ (x : Calls). slice_get x.scopes.now c.args.position) c.at-calls.ensures) ∙ c.scope.ensures in
    c.requires.named.scopes.held c.args.position t at

pub listed_items-requires-clause-held : goal.listed_items-requires-clause-held
listed_items-requires-clause-held c =
    let s = c.args.source.now in
    let t : Scope = c.scope.result in
    let at : slice_get s.calls.now.scopes.now c.args.position ≡ Some t = sym (ap (λ (x : Calls). slice_get x.scopes.now c.args.position) c.at-calls.ensures) ∙ c.scope.ensures in
    listed-all s.types.now c.law.ensures s.calls.now c.args.position t c.with-inside.result.types.now c.listed_kinds-kinds.result.now c.requires.named at (ap (λ (x : Source). x.types.now) c.with-inside.ensures) (sym c.listed_kinds-kinds.ensures)

pub listed_items-requires-clause-opened : goal.listed_items-requires-clause-opened
listed_items-requires-clause-opened c =
    let s = c.args.source.now in
    let t : Scope = c.scope.result in
    let at : slice_get s.calls.now.scopes.now c.args.position ≡ Some t = sym (ap (λ (x : Calls). slice_get x.scopes.now c.args.position) c.at-calls.ensures) ∙ c.scope.ensures in
    listed-opens s.types.now s.calls.now c.args.position t c.with-inside.result.calls.now c.listed_kinds-kinds.result.now c.requires.named at (ap (λ (x : Source). x.calls.now) c.with-inside.ensures ∙ c.at-calls.ensures) (sym c.listed_kinds-kinds.ensures)

pub listed_items-requires-clause-known : goal.listed_items-requires-clause-known
listed_items-requires-clause-known c =
    let s = c.args.source.now in
    let calls = ap (λ (x : Source). x.calls.now) c.with-inside.ensures ∙ c.at-calls.ensures in
    known-with c.args.nodes.now s.types.now c.with-inside.result.types.now (at_scope s.calls.now c.args.position) c.with-inside.result.calls.now (ap (λ (x : Source). x.types.now) c.with-inside.ensures) calls c.requires.known

pub listed_items-requires-clause-listings : goal.listed_items-requires-clause-listings
listed_items-requires-clause-listings c =
    let s = c.args.source.now in
    let calls = ap (λ (x : Source). x.calls.now) c.with-inside.ensures ∙ c.at-calls.ensures in
    listed-behind c.args.nodes.now s.types.now s.calls.now c.args.position c.with-inside.result.types.now c.with-inside.result.calls.now c.args.listings.now c.requires.named (ap (λ (x : Source). x.types.now) c.with-inside.ensures) calls c.requires.listings
