-- Where the entries are imported, and where their resources are bound at the root.
use Rattle.std.proofs.Common.{ℕ, zero, suc, ◌≡◌, Bool, true, false, if◌then◌else◌, not, List, [], ◌∷◌, Option, Some, None, slice_get, refl, ap, sym, ◌∙◌, arith}
use Rattle.std.proofs.lemmas.Option.{slice_get_within}
use Rattle.wac_types_shapes.specs.primitives.Name.{Name, same_name, option_case}
use Rattle.wac_types_shapes.specs.primitives.Tree.{imported, Place, position}
use Rattle.wac_types_shapes.proofs.lemmas.shapes.Names.{same_name-refl}
use Rattle.wac_types_shapes.specs.declared.shapes.component.ResourceId.{ResourceId}
use Rattle.wac_types_collection.specs.collection.Collection.{Collection}
use Rattle.wac_types_collection.proofs.lemmas.wide.Members.{in_at}
use Rattle.wac_merge.specs.MergedPlaces.{IsRootPlace}
use Rattle.wac_merge_classes.specs.entries.Binding.{binding_class, binding_from, class_binds}
use Rattle.wac_merge_classes.specs.entries.Classes.{Entry, by_names, canonical, class_names, imported_as, is_asked, members, names_of_classes, same_class}
use Rattle.wac_merge_classes.specs.terms.Faults.{HasNoCircle}
use Rattle.wac_merge_classes.specs.terms.Merge.{IsMerge, Merged, position_in}
use Rattle.wac_merge_classes.proofs.lemmas.entries.Canonical.{canonical-alike, class_name-asked}
use Rattle.wac_merge_classes.proofs.lemmas.entries.ClassFacts.{class-of_same, class-sym, class-trans, one-position}
use Rattle.wac_merge_classes.proofs.lemmas.entries.Lists.{any-at, some-at}
use Rattle.wac_merge_classes.proofs.lemmas.terms.Found.{at-filter, no_some, some_same}
use Rattle.wac_merge_agreement.proofs.lemmas.agreement.OrderLaws.{order_each, order_once}
use Rattle.wac_merge_imports.specs.unions.MergedScope.{BindsAsClasses}
use Rattle.wac_merge_imports.proofs.lemmas.fitting.MergedBindingsClasses.{filter-has, position-is}
use Rattle.wac_encode_imports.specs.private.ToldGraph.{entry_bindings}
use Rattle.wac_encode_imports.proofs.Distinct.{canonical-class, import-at, name-is}

-- Classes bind the same in both collections, so a resource has the same first class.

pub binding-same : (c d : Collection) (es : List Entry) (r : ResourceId) → ((class : Name) → class_binds by_names d es class r ≡ class_binds by_names c es class r) → (k : ℕ) (ns : List Name) → binding_from by_names d es k ns r ≡ binding_from by_names c es k ns r
binding-same c d es r same k [] = refl
binding-same c d es r same k (n ∷ ns) = let rest = binding-same c d es r same (suc k) ns in let here = same n in (λ j. option_case (here j) (rest j) (λ path. Some (k, path)))

-- Each entry has a class.
pub entry-class : (es xs : List Entry) (j : ℕ) (e : Entry) → slice_get xs j ≡ Some e → (k : ℕ) × (n : Name) × (slice_get (names_of_classes by_names es xs) k ≡ Some n) × (same_class by_names es n e.name ≡ true)
entry-class es [] j e at = absurd (no_some e at)
entry-class es (x ∷ xs) zero e at = (0, x.name, refl, class-of_same by_names es x.name e.name (ap (λ (y : Entry). y.name) (some_same x e at)))
entry-class es (x ∷ xs) (suc j) e at = later (entry-class es xs j e at)
  where
    later : (k : ℕ) × (n : Name) × (slice_get (names_of_classes by_names es xs) k ≡ Some n) × (same_class by_names es n e.name ≡ true)
        → (k : ℕ) × (n : Name) × (slice_get (names_of_classes by_names es (x ∷ xs)) k ≡ Some n) × (same_class by_names es n e.name ≡ true)
    later w = by (same_class by_names es x.name w.1) refl
      where
        by : (b : Bool) → same_class by_names es x.name w.1 ≡ b → (k : ℕ) × (n : Name) × (slice_get (names_of_classes by_names es (x ∷ xs)) k ≡ Some n) × (same_class by_names es n e.name ≡ true)
        by true one = (0, x.name, refl, class-trans by_names es x.name w.1 e.name one w.3)
        by false other =
            let there = filter-has (λ (n : Name). not (same_class by_names es x.name n)) (names_of_classes by_names es xs) w.0 w.1 w.2 (ap not other) in
            (suc there.0, w.1, there.1, w.3)

module _ (c : Collection) (es : List Entry) (m : Merged) (merge : IsMerge by_names c es m) (ordered : HasNoCircle by_names c es) where
  asked : (j : ℕ) (e : Entry) → slice_get es j ≡ Some e → is_asked es e.name ≡ true
  asked j e at = any-at (λ (x : Entry). same_name x.name e.name) es j e at (same_name-refl e.name)

  -- Each entry is imported with its class.
  pub entry-import : (j : ℕ) (e : Entry) → slice_get es j ≡ Some e → (p : ℕ) × (x : Entry) × (slice_get m.imports p ≡ Some x) × (x.name ≡ imported_as by_names es e.name)
  entry-import j e at =
      let w = entry-class es es j e at in
      let p = in_at merge.order w.0 ((order_each by_names es c merge.order merge.written w.0).1 (slice_get_within (class_names by_names es) w.0 w.1 w.2)) in
      let count = merge.count in
      let low = p.1 in
      let x = some-at m.imports p.0 (omega (arith, low, count)) in
      let first : is_asked es w.1 ≡ true = class_name-asked es es w.1 (any-at (λ (n : Name). same_name n w.1) (class_names by_names es) w.0 w.1 w.2 (same_name-refl w.1)) in (
        p.0,
        x.0,
        x.1,
        merge.names p.0 w.0 w.1 x.0 p.2 w.2 x.1
            ∙ canonical-alike es w.1 e.name w.3 first (asked j e at)
            ∙ sym (ap (λ b. if b then canonical by_names es e.name else e.name) (asked j e at)),
      )

  -- It is one of the class of that import.
  pub entry-member : (j : ℕ) (e : Entry) → slice_get es j ≡ Some e → (p : ℕ) (x : Entry) (there : slice_get m.imports p ≡ Some x) → x.name ≡ imported_as by_names es e.name
      → (k : ℕ) × (slice_get (members by_names es (import-at c es m merge ordered p x there).class) k ≡ Some e)
  entry-member j e at p x there named =
      let i = import-at c es m merge ordered p x there in
      let as_named : canonical by_names es i.class ≡ canonical by_names es e.name =
      sym (name-is c es m merge ordered p x there i) ∙ named ∙ ap (λ b. if b then canonical by_names es e.name else e.name) (asked j e at) in
      let first : same_class by_names es i.class (canonical by_names es e.name) ≡ true = ap (same_class by_names es i.class) (sym as_named) ∙ canonical-class c es m merge ordered i.class in
      let last = class-sym by_names es e.name (canonical by_names es e.name) (canonical-class c es m merge ordered e.name) in
      filter-has (λ (y : Entry). same_class by_names es i.class y.name) es j e at (class-trans by_names es i.class (canonical by_names es e.name) e.name first last)

  -- Each of that class is imported there.
  pub member-import : (p : ℕ) (x : Entry) (there : slice_get m.imports p ≡ Some x) (j : ℕ) (y : Entry) → slice_get (members by_names es (import-at c es m merge ordered p x there).class) j ≡ Some y
      → (k : ℕ) × (slice_get es k ≡ Some y) × (x.name ≡ imported_as by_names es y.name)
  member-import p x there j y at =
      let i = import-at c es m merge ordered p x there in
      let f = at-filter (λ (z : Entry). same_class by_names es i.class z.name) es j y at in
      let first : is_asked es i.class ≡ true = class_name-asked es es i.class (any-at (λ (n : Name). same_name n i.class) (class_names by_names es) i.number i.class i.known (same_name-refl i.class)) in (
        f.0,
        f.1,
        name-is c es m merge ordered p x there i
            ∙ canonical-alike es i.class y.name f.2 first (asked f.0 y f.1)
            ∙ sym (ap (λ b. if b then canonical by_names es y.name else y.name) (asked f.0 y f.1)),
      )

  -- The position of an import is that of its class.
  pub position-of : (p : ℕ) (x : Entry) (there : slice_get m.imports p ≡ Some x) → position_in merge.order (import-at c es m merge ordered p x there).number ≡ p
  position-of p x there =
      let i = import-at c es m merge ordered p x there in
      position-is merge.order p i.number i.placed (λ a b at_a at_b. order_once by_names es c merge.order merge.written ordered a b i.number at_a at_b)

  -- The first class that binds a resource is that of the import that binds it.
  pub same-number : (p number : ℕ) (class : Name) (e : Entry) (there : slice_get m.imports p ≡ Some e) → slice_get (class_names by_names es) number ≡ Some class → e.name ≡ canonical by_names es class
      → (import-at c es m merge ordered p e there).number ≡ number
  same-number p number class e there known named =
      let i = import-at c es m merge ordered p e there in
      let mine : same_class by_names es i.class e.name ≡ true = ap (same_class by_names es i.class) (name-is c es m merge ordered p e there i) ∙ canonical-class c es m merge ordered i.class in
      let given : same_class by_names es e.name class ≡ true = class-sym by_names es class e.name (ap (same_class by_names es class) named ∙ canonical-class c es m merge ordered class) in
      one-position by_names es es i.number number i.class class i.known known (class-trans by_names es i.class e.name class mine given)

  -- What is bound to an import is bound at its position.
  pub bound-place : BindsAsClasses by_names c es m → (r : ResourceId) (p : ℕ) (path : List Place) (h : IsRootPlace by_names es m r p path)
      → (binding_class by_names c es r ≡ Some (h.number, path)) × (entry_bindings c es merge.order r ≡ Some (record { out = 0; side = imported; path = position p ∷ path }))
  bound-place bound r p path h =
      let first : binding_class by_names c es r ≡ Some (h.number, path) = sym (binding-same c m.types es r (λ class. bound.same class r) 0 (class_names by_names es)) ∙ h.first in
      let i = import-at c es m merge ordered p h.entry h.there in
      let place : position_in merge.order h.number ≡ p = ap (position_in merge.order) (sym (same-number p h.number h.class h.entry h.there h.numbered h.named)) ∙ position-of p h.entry h.there in (
        first,
        ap (λ (o : Option (ℕ × List Place)). option_case o None (λ b. Some (record { out = 0; side = imported; path = position (position_in merge.order b.0) ∷ b.1 }))) first
            ∙ ap (λ q. Some (record { out = 0; side = imported; path = position q ∷ path })) place,
      )

  -- What no class binds is not bound.
  pub unbound-place : BindsAsClasses by_names c es m → (r : ResourceId) → binding_class by_names m.types es r ≡ None → entry_bindings c es merge.order r ≡ None
  unbound-place bound r none =
      ap (λ (o : Option (ℕ × List Place)). option_case o None (λ b. Some (record { out = 0; side = imported; path = position (position_in merge.order b.0) ∷ b.1 })))
      (sym (binding-same c m.types es r (λ class. bound.same class r) 0 (class_names by_names es)) ∙ none)
