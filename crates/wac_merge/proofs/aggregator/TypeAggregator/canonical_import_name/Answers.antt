use Rattle.std.proofs.Common.{IfSome, sym, ◌∙◌, subst}
use Rattle.wac_merge_imports.specs.private.unions.BoundNames.{AreBoundNames}
use Rattle.wac_merge.specs.Aggregate.{AreKnown}
use Rattle.wac_merge.specs.declared.aggregator.Finished.{Finished}
use Rattle.wac_merge_classes.proofs.lemmas.entries.Canonical.{imported-there, imported-other}
use Rattle.wac_merge.proofs.aggregator.TypeAggregator.canonical_import_name.Goals as goal

pub returns-in-Some-position : goal.returns-in-Some-position
returns-in-Some-position c =
    let es = c.self.inside.entries.items in
    let k = c.in-Some.finished.classes in
    let known : AreKnown c.in-Some.finished.merged es k.numbers.items k.positions.items k.names c.in-Some.finished.bindings =
    (subst (λ o. IfSome o (λ (x : Finished). AreKnown x.merged es x.classes.numbers.items x.classes.positions.items x.classes.names x.bindings × AreBoundNames x.merged.types es x.names)) c.in-Some.is c.self.invariant).0 in
    let are = known.classes in
    rw (← c.self.view_is)
    (c.name.ensures ∙ imported-there es k.numbers.items k.positions.items k.names are c.args.name.now c.in-Some-position.position c.index.result.now (sym c.position.ensures ∙ c.in-Some-position.is) c.index.ensures)

pub returns-in-None : goal.returns-in-None
returns-in-None c =
    let es = c.self.inside.entries.items in
    let k = c.in-Some.finished.classes in
    let known : AreKnown c.in-Some.finished.merged es k.numbers.items k.positions.items k.names c.in-Some.finished.bindings =
    (subst (λ o. IfSome o (λ (x : Finished). AreKnown x.merged es x.classes.numbers.items x.classes.positions.items x.classes.names x.bindings × AreBoundNames x.merged.types es x.names)) c.in-Some.is c.self.invariant).0 in
    let are = known.classes in
    rw (← c.self.view_is) (imported-other es k.numbers.items k.positions.items k.names are c.args.name.now (sym c.position.ensures ∙ c.in-None.is))
