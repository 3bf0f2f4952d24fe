use Rattle.std.proofs.Common.{◌≡◌, ◌<◌, ℕ, IfSome, List, Some, length, slice_get, get_or, refl, sym, ap, ◌∙◌, subst, arith}
use Rattle.std.proofs.lemmas.Option.{slice_get_read, slice_get-get_or}
use Rattle.wac_types_collection.specs.subtyping.CalledViews.{path_view}
use Rattle.wac_types_shapes.specs.primitives.Name.{Name, option_case}
use Rattle.wac_merge_classes.specs.entries.Classes.{Entry, by_names}
use Rattle.wac_merge_classes.specs.terms.Merge.{Merged, import_entries}
use Rattle.wac_merge_imports.specs.private.unions.BoundNames.{AreBoundNames}
use Rattle.wac_merge.specs.Aggregate.{Aggregate, AreKnown, nothing}
use Rattle.wac_merge.specs.MergedPlaces.{IsRootPlace}
use Rattle.wac_merge.specs.declared.aggregator.Finished.{Finished}
use Rattle.wac_merge.proofs.RootPlaces.{Finds, Tells, class-low, entry-low, first-found, import-found, import-missed, root-imported, root-place}
use Rattle.wac_merge.proofs.aggregator.TypeAggregator.root_binding.Goals as goal

pub bounds-positions-class : goal.bounds-positions-class
bounds-positions-class c =
    let es = c.self.inside.entries.items in
    let f = c.in-Some.finished in
    let k = f.classes in
    let number : ℕ = c.in_ok-class.class in
    let known : AreKnown f.merged es k.numbers.items k.positions.items k.names f.bindings =
    (subst (λ o. IfSome o (λ (x : Finished). AreKnown x.merged es x.classes.numbers.items x.classes.positions.items x.classes.names x.bindings × AreBoundNames x.merged.types es x.names)) c.in-Some.is c.self.invariant).0 in
    let told : Tells c.first.result f.bindings c.args.resource = subst (λ (x : Finished). Tells c.first.result x.bindings c.args.resource) c.finished.view_is c.first.ensures in
    let found = first-found c.first.result f.bindings c.args.resource number c.in_ok-class.path told c.in_ok-class.was in
    let same : c.positions.result.now ≡ k.positions.items = subst (λ (x : Finished). c.positions.result.now ≡ x.classes.positions.items) c.finished.view_is c.positions.ensures in
    let low : number < length k.positions.items = class-low f.merged es k.numbers.items k.positions.items k.names f.bindings known c.args.resource number (path_view c.in_ok-class.path.now) found in
    let within : number < length c.positions.result.now = subst (λ (xs : List ℕ). number < length xs) (sym same) low in
    within

pub offset_bounds-positions-class : goal.offset_bounds-positions-class
offset_bounds-positions-class c =
    let es = c.self.inside.entries.items in
    let f = c.in-Some.finished in
    let k = f.classes in
    let number : ℕ = c.in_ok-class.class in
    let known : AreKnown f.merged es k.numbers.items k.positions.items k.names f.bindings =
    (subst (λ o. IfSome o (λ (x : Finished). AreKnown x.merged es x.classes.numbers.items x.classes.positions.items x.classes.names x.bindings × AreBoundNames x.merged.types es x.names)) c.in-Some.is c.self.invariant).0 in
    let told : Tells c.first.result f.bindings c.args.resource = subst (λ (x : Finished). Tells c.first.result x.bindings c.args.resource) c.finished.view_is c.first.ensures in
    let found = first-found c.first.result f.bindings c.args.resource number c.in_ok-class.path told c.in_ok-class.was in
    let same : c.positions.result.now ≡ k.positions.items = subst (λ (x : Finished). c.positions.result.now ≡ x.classes.positions.items) c.finished.view_is c.positions.ensures in
    let low : number < length k.positions.items = class-low f.merged es k.numbers.items k.positions.items k.names f.bindings known c.args.resource number (path_view c.in_ok-class.path.now) found in
    let within : number < length c.positions.result.now = subst (λ (xs : List ℕ). number < length xs) (sym same) low in
    omega arith

pub index-requires : goal.index-requires
index-requires c =
    let es = c.self.inside.entries.items in
    let f = c.in-Some.finished in
    let k = f.classes in
    let number : ℕ = c.in_ok-class.class in
    let known : AreKnown f.merged es k.numbers.items k.positions.items k.names f.bindings =
    (subst (λ o. IfSome o (λ (x : Finished). AreKnown x.merged es x.classes.numbers.items x.classes.positions.items x.classes.names x.bindings × AreBoundNames x.merged.types es x.names)) c.in-Some.is c.self.invariant).0 in
    let told : Tells c.first.result f.bindings c.args.resource = subst (λ (x : Finished). Tells c.first.result x.bindings c.args.resource) c.finished.view_is c.first.ensures in
    let found = first-found c.first.result f.bindings c.args.resource number c.in_ok-class.path told c.in_ok-class.was in
    let same : c.positions.result.now ≡ k.positions.items = subst (λ (x : Finished). c.positions.result.now ≡ x.classes.positions.items) c.finished.view_is c.positions.ensures in
    let low : number < length k.positions.items = class-low f.merged es k.numbers.items k.positions.items k.names f.bindings known c.args.resource number (path_view c.in_ok-class.path.now) found in
    let within : number < length c.positions.result.now = subst (λ (xs : List ℕ). number < length xs) (sym same) low in
    let q : ℕ = get_or c.positions.result.now number 0 in
    let at : slice_get k.positions.items number ≡ Some q = ap (λ (xs : List ℕ). slice_get xs number) (sym same) ∙ slice_get-get_or c.positions.result.now number 0 within in
    let entry_within : q < length es = entry-low f.merged es k.numbers.items k.positions.items k.names f.bindings known c.args.resource number (path_view c.in_ok-class.path.now) found q at in
    subst (λ (n : ℕ). q < n) (sym c.self.inside.entries.ok.0) entry_within

pub unreachable-requires-in-None : goal.unreachable-requires-in-None
unreachable-requires-in-None c =
    let es = c.self.inside.entries.items in
    let f = c.in-Some.finished in
    let k = f.classes in
    let number : ℕ = c.in_ok-class.class in
    let known : AreKnown f.merged es k.numbers.items k.positions.items k.names f.bindings =
    (subst (λ o. IfSome o (λ (x : Finished). AreKnown x.merged es x.classes.numbers.items x.classes.positions.items x.classes.names x.bindings × AreBoundNames x.merged.types es x.names)) c.in-Some.is c.self.invariant).0 in
    let told : Tells c.first.result f.bindings c.args.resource = subst (λ (x : Finished). Tells c.first.result x.bindings c.args.resource) c.finished.view_is c.first.ensures in
    let found = first-found c.first.result f.bindings c.args.resource number c.in_ok-class.path told c.in_ok-class.was in
    let same : c.positions.result.now ≡ k.positions.items = subst (λ (x : Finished). c.positions.result.now ≡ x.classes.positions.items) c.finished.view_is c.positions.ensures in
    let low : number < length k.positions.items = class-low f.merged es k.numbers.items k.positions.items k.names f.bindings known c.args.resource number (path_view c.in_ok-class.path.now) found in
    let within : number < length c.positions.result.now = subst (λ (xs : List ℕ). number < length xs) (sym same) low in
    let q : ℕ = get_or c.positions.result.now number 0 in
    let at : slice_get k.positions.items number ≡ Some q = ap (λ (xs : List ℕ). slice_get xs number) (sym same) ∙ slice_get-get_or c.positions.result.now number 0 within in
    let entry_within : q < length es = entry-low f.merged es k.numbers.items k.positions.items k.names f.bindings known c.args.resource number (path_view c.in_ok-class.path.now) found q at in
    let e : Entry = c.index.result.now in
    let there : slice_get es q ≡ Some e = slice_get_read es (length es) q e refl entry_within c.index.ensures in
    let is = c.finished.inside.0.1.1.0.imports in
    let same_imports : import_entries is ≡ f.merged.imports = ap (λ (x : Finished). x.merged.imports) c.finished.view_is in
    let finds : Finds c.get_full.result e.name is = subst (λ (n : Name). Finds c.get_full.result n is) c.name-name.ensures c.get_full.ensures in
    root-imported f.merged es k.numbers.items k.positions.items k.names f.bindings known c.args.resource number (path_view c.in_ok-class.path.now) found q e at there is same_imports
    (import-missed c.get_full.result e.name is finds c.in-None.is)

pub returns : goal.returns
returns c =
    let es = c.self.inside.entries.items in
    let f = c.in-Some.finished in
    let k = f.classes in
    let number : ℕ = c.in_ok-class.class in
    let known : AreKnown f.merged es k.numbers.items k.positions.items k.names f.bindings =
    (subst (λ o. IfSome o (λ (x : Finished). AreKnown x.merged es x.classes.numbers.items x.classes.positions.items x.classes.names x.bindings × AreBoundNames x.merged.types es x.names)) c.in-Some.is c.self.invariant).0 in
    let told : Tells c.first.result f.bindings c.args.resource = subst (λ (x : Finished). Tells c.first.result x.bindings c.args.resource) c.finished.view_is c.first.ensures in
    let found = first-found c.first.result f.bindings c.args.resource number c.in_ok-class.path told c.in_ok-class.was in
    let same : c.positions.result.now ≡ k.positions.items = subst (λ (x : Finished). c.positions.result.now ≡ x.classes.positions.items) c.finished.view_is c.positions.ensures in
    let low : number < length k.positions.items = class-low f.merged es k.numbers.items k.positions.items k.names f.bindings known c.args.resource number (path_view c.in_ok-class.path.now) found in
    let within : number < length c.positions.result.now = subst (λ (xs : List ℕ). number < length xs) (sym same) low in
    let q : ℕ = get_or c.positions.result.now number 0 in
    let at : slice_get k.positions.items number ≡ Some q = ap (λ (xs : List ℕ). slice_get xs number) (sym same) ∙ slice_get-get_or c.positions.result.now number 0 within in
    let entry_within : q < length es = entry-low f.merged es k.numbers.items k.positions.items k.names f.bindings known c.args.resource number (path_view c.in_ok-class.path.now) found q at in
    let e : Entry = c.index.result.now in
    let there : slice_get es q ≡ Some e = slice_get_read es (length es) q e refl entry_within c.index.ensures in
    let is = c.finished.inside.0.1.1.0.imports in
    let same_imports : import_entries is ≡ f.merged.imports = ap (λ (x : Finished). x.merged.imports) c.finished.view_is in
    let finds : Finds c.get_full.result e.name is = subst (λ (n : Name). Finds c.get_full.result n is) c.name-name.ensures c.get_full.ensures in
    let a : Aggregate = c.args.self.now in
    let place : IsRootPlace by_names es f.merged c.args.resource c.in-Some-get_full.position (path_view c.in_ok-class.path.now) =
    root-place f.merged es k.numbers.items k.positions.items k.names f.bindings known c.args.resource number (path_view c.in_ok-class.path.now) found q e at there is same_imports
    c.in-Some-get_full.position c.in-Some-get_full.field-0-1.now (import-found c.get_full.result e.name is c.in-Some-get_full.position c.in-Some-get_full.field-0-1 finds c.in-Some-get_full.is) in
    let merge_is : f.merged ≡ a.merge = sym (ap (λ o. option_case o nothing (λ (x : Finished). x.merged)) c.in-Some.is) ∙ ap (λ (x : Aggregate). x.merge) c.self.view_is in
    subst (λ (m : Merged). IsRootPlace by_names a.entries m c.args.resource c.in-Some-get_full.position (path_view c.in_ok-class.path.now)) merge_is
    (subst (λ (xs : List Entry). IsRootPlace by_names xs f.merged c.args.resource c.in-Some-get_full.position (path_view c.in_ok-class.path.now)) (ap (λ (x : Aggregate). x.entries) c.self.view_is) place)
