-- The merged imports weigh no more than the entries.
use Rattle.std.proofs.Common.{ℕ, ◌≤◌, false, if◌then◌else◌, List, length, take, ◌≡◌, ap, sym, ◌∙◌, subst, arith}
use Rattle.std.specs.List.{sum_by}
use Rattle.wac_types_shapes.specs.primitives.Name.{Name}
use Rattle.wac_types_shapes.specs.shapes.Kinds.{kind_type}
use Rattle.wac_types_shapes.specs.declared.shapes.component.InterfaceId.{InterfaceId}
use Rattle.wac_types_shapes.specs.declared.shapes.component.«Type».{«Type» as AnyType}
use Rattle.wac_types_collection.specs.collection.Collection.{Collection}
use Rattle.wac_types_collection.specs.reach.Reach.{IsIn}
use Rattle.wac_types_collection.proofs.lemmas.wide.Members.{at_in, in_at, in_map, map_in}
use Rattle.wac_types_weight.specs.Weight.{is_scope}
use Rattle.wac_types_weight.specs.Text.{bare_weight, entry_weight}
use Rattle.wac_types_weight.proofs.Near.{from_contains, to_contains}
use Rattle.wac_types_weight.proofs.Sums.{sum_mapped}
use Rattle.wac_merge_classes.specs.declared.terms.fresh.Fresh.{Fresh}
use Rattle.wac_merge_classes.specs.declared.terms.parts.Part.{Part}
use Rattle.wac_merge_classes.specs.declared.terms.parts.Union.{Union}
use Rattle.wac_merge_classes.specs.entries.Bindings.{ClassBindings}
use Rattle.wac_merge_classes.specs.entries.Classes.{AreClasses, Entry, by_names, is_instance, members}
use Rattle.wac_merge_classes.proofs.lemmas.entries.Lists.{some-at}
use Rattle.wac_merge_resources.specs.declared.values.named.NamedTypes.{NamedTypes}
use Rattle.wac_merge_unions.specs.uses.KeptUses.{instances}
use Rattle.wac_merge_unions.specs.uses.Using.{AreUsing, uses_among}
use Rattle.wac_merge_imports.specs.unions.Lighter.{IsLighter, name_weight, types_of}
use Rattle.wac_merge_imports.specs.unions.OneId.{AreMadeOnce}
use Rattle.wac_merge_imports.proofs.lemmas.unions.Assembled.{AreAssembled}
use Rattle.wac_merge_imports.proofs.lemmas.weight.ClassWeights.{bare_inside, bare_items, bare_names, bare_near}
use Rattle.wac_merge_imports.proofs.lemmas.weight.CountedSums.{sum_beside}
use Rattle.wac_merge_imports.proofs.lemmas.weight.UsingWeights.{kind_inside, kind_items, kind_named, kind_same, near_among}

module _ (c m : Collection) (es : List Entry) (roots : List (List InterfaceId)) (us : List Union) (ps : List Part) (bs : ClassBindings) (f : Fresh) (t : NamedTypes) (numbers positions order : List ℕ) (names : List (Name × ℕ)) (bare imports : List Entry)
    (classes : AreClasses by_names es numbers positions names) (made : AreMadeOnce c m es us ps bs f t positions order bare) (all : AreAssembled c m es roots us ps bs f made.written.ids made.written.ws order bare) (using : AreUsing by_names c es m bare imports) where
  -- what an import unites
  abbrev of_class : Entry → List InterfaceId
  of_class a = instances (members by_names es a.name)

  names_less : sum_by name_weight imports ≤ sum_by name_weight bare
  names_less = sum_beside name_weight name_weight imports bare using.counted (λ p x a at_x at_a.
      let length_same : length x.name ≡ length a.name = ap length (using.names p a x at_a at_x) in
      let kind_is : ◌≡◌ {A = ℕ} (if is_instance x.kind then 0 else 1) (if is_instance a.kind then 0 else 1) = ap (λ b. if b then 0 else 1) (kind_named c m all.merged.target (uses_among by_names c es m (take p imports)) (of_class a) a.kind x.kind (using.kinds p a x at_a at_x)) in
      omega (arith, length_same, kind_is))

  items_less : sum_by (entry_weight m) (types_of imports) ≤ sum_by (entry_weight m) (types_of bare)
  items_less =
      let less = sum_beside (λ (e : Entry). entry_weight m (kind_type e.kind)) (λ (e : Entry). entry_weight m (kind_type e.kind)) imports bare using.counted (λ p x a at_x at_a. kind_items c m all.merged.target (uses_among by_names c es m (take p imports)) (of_class a) a.kind x.kind (using.kinds p a x at_a at_x)) in
      let here : sum_by (entry_weight m) (types_of imports) ≡ sum_by (λ (e : Entry). entry_weight m (kind_type e.kind)) imports = sum_mapped (entry_weight m) (λ (e : Entry). kind_type e.kind) imports in
      let there : sum_by (entry_weight m) (types_of bare) ≡ sum_by (λ (e : Entry). entry_weight m (kind_type e.kind)) bare = sum_mapped (entry_weight m) (λ (e : Entry). kind_type e.kind) bare in
      omega (arith, less, here, there)

  inside_less : sum_by (bare_weight m) (types_of imports) ≤ sum_by (bare_weight m) (types_of bare)
  inside_less =
      let less = sum_beside (λ (e : Entry). bare_weight m (kind_type e.kind)) (λ (e : Entry). bare_weight m (kind_type e.kind)) imports bare using.counted (λ p x a at_x at_a. kind_inside c m all.merged.target (uses_among by_names c es m (take p imports)) (of_class a) a.kind x.kind (using.kinds p a x at_a at_x)) in
      let here : sum_by (bare_weight m) (types_of imports) ≡ sum_by (λ (e : Entry). bare_weight m (kind_type e.kind)) imports = sum_mapped (bare_weight m) (λ (e : Entry). kind_type e.kind) imports in
      let there : sum_by (bare_weight m) (types_of bare) ≡ sum_by (λ (e : Entry). bare_weight m (kind_type e.kind)) bare = sum_mapped (bare_weight m) (λ (e : Entry). kind_type e.kind) bare in
      omega (arith, less, here, there)

  among : (a : AnyType) → IsIn a (types_of imports) → is_scope a ≡ false → IsIn a (types_of bare)
  among a h plain =
      let (x, there, is) = map_in (λ (e : Entry). kind_type e.kind) imports a (to_contains a (types_of imports) h) in
      let (p, low, at) = in_at imports x there in
      let count = using.counted in
      let b = some-at bare p (omega (arith, low, count)) in
      let same = kind_same c m all.merged.target (uses_among by_names c es m (take p imports)) (of_class b.0) (b.0).kind x.kind (using.kinds p b.0 x b.1 at) (ap is_scope (sym is) ∙ plain) in
      subst (λ z. IsIn z (types_of bare)) (sym (is ∙ ap kind_type same)) (from_contains (kind_type (b.0).kind) (types_of bare) (in_map (λ (e : Entry). kind_type e.kind) bare b.0 (at_in bare p b.0 b.1)))

  -- the merged imports are lighter than the entries
  pub lighter : IsLighter c es (record { types = m; imports = imports })
  lighter =
      let near = near_among m all.merged.target (types_of imports) (types_of bare) among in
      let names_too = bare_names c m es roots us ps bs f t numbers positions order names bare classes made all in
      let items_too = bare_items c m es roots us ps bs f t numbers positions order names bare classes made all in
      let inside_too = bare_inside c m es roots us ps bs f t numbers positions order names bare classes made all in
      let near_too = bare_near c m es roots us ps bs f t numbers positions order names bare classes made all in
      let one = names_less in
      let two = items_less in
      let three = inside_less in
      record {
        names = omega (arith, one, names_too);
        items = omega (arith, two, items_too);
        inside = omega (arith, three, inside_too);
        near = omega (arith, near, near_too);
      }
