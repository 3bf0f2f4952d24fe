-- Where resources are bound at the root, as it is looked up.
use Rattle.std.proofs.Common.{◌≡◌, ℕ, zero, suc, ◌+◌, ◌<◌, Bool, true, false, cond, List, [], ◌∷◌, length, Option, Some, None, IsSome, slice_get, refl, sym, ap, ◌∙◌, subst, arith}
use Rattle.std.proofs.lemmas.Option.{slice_get_within}
use Rattle.std.specs.Borrow.{Bor}
use Rattle.std.specs.Global.{Global}
use Rattle.std.specs.Option.{option_map}
use Rattle.std.specs.declared.string.String.{String}
use Rattle.wac_types_shapes.specs.primitives.Name.{Name, same_name}
use Rattle.wac_types_shapes.specs.shapes.Named.{named_at}
use Rattle.wac_types_shapes.specs.declared.shapes.component.ItemKind.{ItemKind}
use Rattle.wac_types_shapes.specs.declared.shapes.component.ResourceId.{ResourceId}
use Rattle.wac_types_shapes.proofs.lemmas.shapes.Names.{same_name-from, same_name-true}
use Rattle.wac_types_collection.specs.collection.Collection.{Collection}
use Rattle.wac_types_shapes.specs.primitives.Tree.{Place}
use Rattle.wac_merge_classes.specs.entries.Binding.{binding_class}
use Rattle.wac_merge_classes.specs.entries.Bindings.{ClassBindings, first_in}
use Rattle.wac_types_collection.specs.subtyping.CalledViews.{path_view}
use Rattle.wac_merge_classes.specs.entries.Classes.{Entry, by_names, canonical, class_names}
use Rattle.wac_merge_classes.proofs.lemmas.entries.Lists.{some-at}
use Rattle.wac_merge_classes.specs.terms.Merge.{IsMerge, Merged, import_entries, import_under}
use Rattle.wac_merge_classes.proofs.lemmas.terms.Found.{no_some, some_same}
use Rattle.wac_merge_agreement.proofs.lemmas.agreement.OrderLaws.{order_each}
use Rattle.wac_merge_agreement.proofs.lemmas.agreement.RestCircles.{number_low}
use Rattle.wac_merge_agreement.proofs.lemmas.agreement.RestLinks.{at_contains}
use Rattle.wac_merge.specs.Aggregate.{AreKnown}
use Rattle.wac_merge.specs.MergedPlaces.{IsRootPlace}

-- ---- imports, as they are found under names
abbrev entry : Name × ItemKind → Entry
entry e = record { name = e.0; kind = e.1 }

entry-there : (is : List (Name × ItemKind)) (j : ℕ) (e : Name × ItemKind) → slice_get is j ≡ Some e → slice_get (import_entries is) j ≡ Some (entry e)
entry-there [] j e at = absurd (no_some e at)
entry-there (x ∷ is) zero e at = ap (λ (y : Name × ItemKind). Some (entry y)) (some_same x e at)
entry-there (x ∷ is) (suc j) e at = entry-there is j e at

-- what is found under a name stands at the position that is told
named-there : (es : List (Name × ItemKind)) (i : ℕ) (n : Name) (p : ℕ) (v : ItemKind) → named_at i n es ≡ Some (p, v) → (j : ℕ) × (p ≡ i + j) × (slice_get es j ≡ Some (n, v))
named-there [] i n p v is = absurd (no_some (p, v) is)
named-there (e ∷ es) i n p v is = by (same_name n e.0) refl is (λ h. named-there es (suc i) n p v h) where
  by : (b : Bool) → same_name n e.0 ≡ b → cond b (Some (i, e.1)) (named_at (suc i) n es) ≡ Some (p, v) → (named_at (suc i) n es ≡ Some (p, v) → (j : ℕ) × (p ≡ suc i + j) × (slice_get es j ≡ Some (n, v)))
      → (j : ℕ) × (p ≡ i + j) × (slice_get (e ∷ es) j ≡ Some (n, v))
  by true same h more =
      let pair = some_same (i, e.1) (p, v) h in
      let first : i ≡ p = ap (λ (x : ℕ × ItemKind). x.0) pair in
      (0, omega (arith, first), λ k. Some (sym (same_name-true n e.0 same) k, (pair k).1))
  by false other h more = let w = more h in (suc w.0, omega (arith, w.1), w.2)

none-there : (es : List (Name × ItemKind)) (i : ℕ) (n : Name) → named_at i n es ≡ None → import_under (import_entries es) n ≡ None
none-there [] i n is = refl
none-there (e ∷ es) i n is = by (same_name n e.0) is (λ h. none-there es (suc i) n h) where
  by : (b : Bool) → cond b (Some (i, e.1)) (named_at (suc i) n es) ≡ None → (named_at (suc i) n es ≡ None → import_under (import_entries es) n ≡ None) → cond b (Some e.1) (import_under (import_entries es) n) ≡ None
  by true is more = absurd (no_some (i, e.1) (sym is))
  by false is more = more is

import-there : (xs : List Entry) (p : ℕ) (e : Entry) → slice_get xs p ≡ Some e → IsSome (import_under xs e.name)
import-there [] p e at = absurd (no_some e at)
import-there (x ∷ xs) zero e at = subst (λ b. IsSome (cond b (Some x.kind) (import_under xs e.name))) (sym (same_name-from e.name x.name (ap (λ (y : Entry). y.name) (sym (some_same x e at))))) refl
import-there (x ∷ xs) (suc p) e at = by (same_name e.name x.name) (import-there xs p e at) where
  by : (b : Bool) → IsSome (import_under xs e.name) → IsSome (cond b (Some x.kind) (import_under xs e.name))
  by true h = refl
  by false h = h

-- each class is imported
pub each-imported : (c : Collection) (es : List Entry) (m : Merged) → IsMerge by_names c es m → (k : ℕ) (class : Name) → slice_get (class_names by_names es) k ≡ Some class → IsSome (import_under m.imports (canonical by_names es class))
each-imported c es m is k class known =
    let p = at_contains is.order k ((order_each by_names es c is.order is.written k).1 (slice_get_within (class_names by_names es) k class known)) in
    let count = is.count in
    let less = slice_get_within is.order p.0 k p.1 in
    let e = some-at m.imports p.0 (omega (arith, less, count)) in
    subst (λ (n : Name). IsSome (import_under m.imports n)) (is.names p.0 k class e.0 p.1 known e.1) (import-there m.imports p.0 e.0 e.1)

-- ---- the look-up
-- what is told of a first class is what is known of it
abbrev pub Tells : Option (ℕ × Bor (List (String Global))) → ClassBindings → ResourceId → Type 0
Tells o b r = option_map (λ x. (x.0, path_view x.1.now)) o ≡ first_in b r

pub first-found : (o : Option (ℕ × Bor (List (String Global)))) (b : ClassBindings) (r : ResourceId) (k : ℕ) (p : Bor (List (String Global))) → Tells o b r → o ≡ Some (k, p) → first_in b r ≡ Some (k, path_view p.now)
first-found o b r k p told is = sym told ∙ ap (option_map (λ x. (x.0, path_view x.1.now))) is

-- so of what is found under a name
abbrev pub Finds : Option (ℕ × Bor ItemKind) → Name → List (Name × ItemKind) → Type 0
Finds o n is = option_map (λ x. (x.0, x.1.now)) o ≡ named_at 0 n is

pub import-found : (o : Option (ℕ × Bor ItemKind)) (n : Name) (is : List (Name × ItemKind)) (p : ℕ) (v : Bor ItemKind) → Finds o n is → o ≡ Some (p, v) → named_at 0 n is ≡ Some (p, v.now)
import-found o n is p v told at = sym told ∙ ap (option_map (λ x. (x.0, x.1.now))) at

pub import-missed : (o : Option (ℕ × Bor ItemKind)) (n : Name) (is : List (Name × ItemKind)) → Finds o n is → o ≡ None → named_at 0 n is ≡ None
import-missed o n is told none = sym told ∙ ap (option_map (λ x. (x.0, x.1.now))) none

module _ (m : Merged) (es : List Entry) (ns ps : List ℕ) (names : List (Name × ℕ)) (b : ClassBindings) (known : AreKnown m es ns ps names b) where
  -- where no class binds it
  pub root-none : (r : ResourceId) → first_in b r ≡ None → binding_class by_names m.types es r ≡ None
  root-none r is = sym (known.bindings.firsts r) ∙ is

  module _ (r : ResourceId) (k : ℕ) (path : List Place) (is : first_in b r ≡ Some (k, path)) where
    bound : binding_class by_names m.types es r ≡ Some (k, path)
    bound = sym (known.bindings.firsts r) ∙ is

    pub class-low : k < length ps
    class-low = let low : k < 0 + length (class_names by_names es) = number_low m.types es (class_names by_names es) 0 r k path bound in let counted = known.classes.positioned in omega (arith, low, counted)

    class-there : (class : Name) × (slice_get (class_names by_names es) k ≡ Some class)
    class-there = let low = class-low in let counted = known.classes.positioned in some-at (class_names by_names es) k (omega (arith, low, counted))

    -- the entry with the class's canonical name
    entry-of : (q : ℕ) → slice_get ps k ≡ Some q → (e : Entry) × (slice_get es q ≡ Some e) × (e.name ≡ canonical by_names es class-there.0)
    entry-of q at = known.classes.greatest k q class-there.0 class-there.1 at

    pub entry-low : (q : ℕ) → slice_get ps k ≡ Some q → q < length es
    entry-low q at = let w = entry-of q at in slice_get_within es q w.0 w.1

    module _ (q : ℕ) (e : Entry) (at : slice_get ps k ≡ Some q) (there : slice_get es q ≡ Some e) (is_imports : List (Name × ItemKind)) (same : import_entries is_imports ≡ m.imports) where
      named : e.name ≡ canonical by_names es class-there.0
      named = let w = entry-of q at in ap (λ (x : Entry). x.name) (some_same e w.0 (sym there ∙ w.1)) ∙ w.2

      pub root-imported : named_at 0 e.name is_imports ≡ None → ⊥
      root-imported none =
          let imported = known.imported k class-there.0 class-there.1 in
          let nothing : import_under m.imports (canonical by_names es class-there.0) ≡ None = subst (λ (n : Name). import_under m.imports n ≡ None) named (ap (λ (xs : List Entry). import_under xs e.name) (sym same) ∙ none-there is_imports 0 e.name none) in
          cc (imported, nothing)

      pub root-place : (p : ℕ) (v : ItemKind) → named_at 0 e.name is_imports ≡ Some (p, v) → IsRootPlace by_names es m r p path
      root-place p v found =
          let w = named-there is_imports 0 e.name p v found in
          let at_p : w.0 ≡ p = let e = w.1 in omega (arith, e) in
          record {
            number = k;
            class = class-there.0;
            entry = entry (e.name, v);
            first = bound;
            numbered = class-there.1;
            there = ap (λ (xs : List Entry). slice_get xs p) (sym same) ∙ ap (slice_get (import_entries is_imports)) (sym at_p) ∙ entry-there is_imports w.0 (e.name, v) w.2;
            named = named;
          }
