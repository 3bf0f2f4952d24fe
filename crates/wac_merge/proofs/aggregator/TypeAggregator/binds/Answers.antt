use Rattle.std.proofs.Common.{◌≡◌, ℕ, IfSome, List, true, false, ap, subst, sym, ◌∙◌}
use Rattle.std.specs.Prelude.{◌↔◌}
use Rattle.wac_types_shapes.specs.primitives.Name.{option_case}
use Rattle.wac_merge_classes.specs.entries.Classes.{Entry, by_names}
use Rattle.wac_merge_classes.specs.terms.Merge.{Merged}
use Rattle.wac_merge_imports.specs.private.unions.BoundNames.{AreBoundNames, is_bound_name}
use Rattle.wac_merge_imports.specs.unions.MergedScope.{BindsUnder}
use Rattle.wac_merge_imports.proofs.lemmas.unions.BoundNames.{number-binds, unknown-binds}
use Rattle.wac_merge.specs.Aggregate.{Aggregate, AreKnown, nothing}
use Rattle.wac_merge.specs.declared.aggregator.Finished.{Finished}
use Rattle.wac_merge.proofs.aggregator.TypeAggregator.binds.Goals as goal

pub returns-in-Some-number : goal.returns-in-Some-number
returns-in-Some-number c =
    let es = c.self.inside.entries.items in
    let f = c.in-Some.finished in
    let k = f.classes in
    let id = c.args.id.now in
    let n = c.args.name.now in
    let a : Aggregate = c.args.self.now in
    let known : AreKnown f.merged es k.numbers.items k.positions.items k.names f.bindings × AreBoundNames f.merged.types es f.names =
    subst (λ o. IfSome o (λ (x : Finished). AreKnown x.merged es x.classes.numbers.items x.classes.positions.items x.classes.names x.bindings × AreBoundNames x.merged.types es x.names)) c.in-Some.is c.self.invariant in
    let entries_is : es ≡ a.entries = ap (λ (x : Aggregate). x.entries) c.self.view_is in
    let merge_is : f.merged ≡ a.merge = sym (ap (λ o. option_case o nothing (λ (x : Finished). x.merged)) c.in-Some.is) ∙ ap (λ (x : Aggregate). x.merge) c.self.view_is in
    let number : ℕ = c.in-Some-number.number in
    let told : c.contains.result ≡ is_bound_name f.names number n = c.contains.ensures in
    subst (λ (m : Merged). (c.contains.result ≡ true) ↔ BindsUnder by_names m.types a.entries id n) merge_is
    (subst (λ (xs : List Entry). (c.contains.result ≡ true) ↔ BindsUnder by_names f.merged.types xs id n) entries_is
    (number-binds f.merged.types es k.numbers.items k.positions.items k.names known.0.classes id n number f.names c.contains.result (sym c.number.ensures ∙ c.in-Some-number.is) known.1 told))

pub returns-in-None : goal.returns-in-None
returns-in-None c =
    let es = c.self.inside.entries.items in
    let f = c.in-Some.finished in
    let k = f.classes in
    let id = c.args.id.now in
    let n = c.args.name.now in
    let a : Aggregate = c.args.self.now in
    let known : AreKnown f.merged es k.numbers.items k.positions.items k.names f.bindings × AreBoundNames f.merged.types es f.names =
    subst (λ o. IfSome o (λ (x : Finished). AreKnown x.merged es x.classes.numbers.items x.classes.positions.items x.classes.names x.bindings × AreBoundNames x.merged.types es x.names)) c.in-Some.is c.self.invariant in
    let entries_is : es ≡ a.entries = ap (λ (x : Aggregate). x.entries) c.self.view_is in
    let merge_is : f.merged ≡ a.merge = sym (ap (λ o. option_case o nothing (λ (x : Finished). x.merged)) c.in-Some.is) ∙ ap (λ (x : Aggregate). x.merge) c.self.view_is in
    subst (λ (m : Merged). (false ≡ true) ↔ BindsUnder by_names m.types a.entries id n) merge_is
    (subst (λ (xs : List Entry). (false ≡ true) ↔ BindsUnder by_names f.merged.types xs id n) entries_is
    (unknown-binds f.merged.types es k.numbers.items k.positions.items k.names known.0.classes id n (sym c.number.ensures ∙ c.in-None.is)))
