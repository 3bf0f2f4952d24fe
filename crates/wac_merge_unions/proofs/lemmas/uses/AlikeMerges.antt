-- What holds of a merge whose imports use none of each other holds of it with what they use.
use Rattle.std.proofs.Common.{◌≡◌, ℕ, suc, Bool, true, false, ◌&&◌, ◌||◌, not, cond, List, [], ◌∷◌, filter, length, take, Some, None, slice_get, refl, sym, ap, ◌∙◌, subst, arith}
use Rattle.std.proofs.Math.Path.{fun_ext}
use Rattle.std.specs.List.{AllByRecursion, AllZip, list_any}
use Rattle.std.proofs.lemmas.Option.{slice_get_within}
use Rattle.wac_types_shapes.specs.primitives.Name.{Name, first_some, option_case, same_name}
use Rattle.wac_types_shapes.specs.declared.shapes.component.Interface.{Interface}
use Rattle.wac_types_shapes.specs.declared.shapes.component.InterfaceId.{InterfaceId}
use Rattle.wac_types_shapes.specs.declared.shapes.component.ResourceId.{ResourceId}
use Rattle.wac_types_shapes.specs.declared.shapes.component.UsedType.{UsedType}
use Rattle.wac_types_shapes.specs.declared.shapes.component.ItemKind.{ItemKind}
use Rattle.wac_types_shapes.specs.declared.shapes.component.ItemKind.TheVariants as kind
use Rattle.wac_types_shapes.specs.primitives.Tree.{imported, position}
use Rattle.wac_types_collection.specs.collection.Collection.{Collection, item_at}
use Rattle.wac_types_collection.specs.collection.Bound.{held_item}
use Rattle.wac_types_collection.specs.subtyping.Subtype.{Sub, kind_tree}
use Rattle.wac_merge_classes.specs.entries.Binding.{binding_from, first_binds, kind_binds, root_bindings}
use Rattle.wac_merge_classes.specs.entries.Bindings.{AreHeld}
use Rattle.wac_merge_classes.specs.entries.Classes.{Entry, by_names, class_names, is_instance, members, names_of_classes, same_class, same_track}
use Rattle.wac_merge_classes.proofs.lemmas.entries.Lists.{some-at}
use Rattle.wac_merge_classes.specs.terms.Merge.{IsListed, IsMerge, bound_resource, import_under, own_resource}
use Rattle.wac_merge_classes.proofs.lemmas.terms.Found.{one_some}
use Rattle.wac_merge_unions.specs.uses.KeptUses.{KeepsUses, instances}
use Rattle.wac_merge_unions.specs.uses.Using.{AreUsing, IsKindUsing, IsUsing, uses_among}
use Rattle.wac_merge_unions.proofs.lemmas.uses.Alike.{alike-binds, alike-cases, alike-instance, alike-named, alike-placed, alike-resource}
use Rattle.wac_merge_unions.proofs.lemmas.uses.NestedBinds.{exports-named, using-instance, using-there}
use Rattle.wac_merge_unions.proofs.lemmas.uses.NestedKept.{each-keeps}
use Rattle.wac_merge_unions.proofs.lemmas.uses.ImportsUsing.{using-held}

-- entries of the same names, each an item and the same with uses
abbrev Alike : Collection → Collection → Entry → Entry → Type 0
Alike c m a b = (b.name ≡ a.name) × (f : List InterfaceId → List (Name × ItemKind) → List (Name × UsedType)) × (is : List InterfaceId) × IsKindUsing c m f is a.kind b.kind

zip-each : {A B : Type 0} (R : A → B → Type 0) (xs : List A) (ys : List B) → length ys ≡ length xs → ((p : ℕ) (x : A) (y : B) → slice_get xs p ≡ Some x → slice_get ys p ≡ Some y → R x y) → AllZip R xs ys
zip-each R [] [] count each = tt
zip-each R [] (y ∷ ys) count each = absurd (omega (arith, count))
zip-each R (x ∷ xs) [] count each = absurd (omega (arith, count))
zip-each R (x ∷ xs) (y ∷ ys) count each = (each 0 x y refl refl, zip-each R xs ys (omega (arith, count)) (λ p a b here there. each (suc p) a b here there))

module _ (c m : Collection) (bare imports : List Entry) (zip : AllZip (Alike c m) bare imports) where
  -- ---- their classes
  instances-same : (n : Name) (xs ys : List Entry) → AllZip (Alike c m) xs ys → list_any (λ e. same_name e.name n && is_instance e.kind) ys ≡ list_any (λ e. same_name e.name n && is_instance e.kind) xs
  instances-same n [] [] z = refl
  instances-same n [] (y ∷ ys) z = absurd z
  instances-same n (x ∷ xs) [] z = absurd z
  instances-same n (x ∷ xs) (y ∷ ys) z =
      let name = (z.0).0 in
      let is = alike-instance c m (z.0).1 (z.0).2 x.kind y.kind (z.0).3 in
      let rest = instances-same n xs ys z.1 in
      (λ j. (same_name (name j) n && is j) || rest j)

  class-same : (a b : Name) → same_class by_names imports a b ≡ same_class by_names bare a b
  class-same a b =
      let one = instances-same a bare imports zip in
      let other = instances-same b bare imports zip in
      (λ j. same_name a b || (same_track (by_names.track a) (by_names.track b) && (one j && other j)))

  names-same : (xs ys : List Entry) → AllZip (Alike c m) xs ys → names_of_classes by_names imports ys ≡ names_of_classes by_names bare xs
  names-same [] [] z = refl
  names-same [] (y ∷ ys) z = absurd z
  names-same (x ∷ xs) [] z = absurd z
  names-same (x ∷ xs) (y ∷ ys) z =
      let name = (z.0).0 in
      let rest = names-same xs ys z.1 in
      (λ j. name j ∷ filter (λ n. not (same_class by_names imports (name j) n)) (rest j))
      ∙ (λ j. x.name ∷ filter (λ n. not (class-same x.name n j)) (names_of_classes by_names bare xs))

  members-bind : (class : Name) (r : ResourceId) (xs ys : List Entry) → AllZip (Alike c m) xs ys
      → first_binds by_names m class (filter (λ e. same_class by_names imports class e.name) ys) r ≡ first_binds by_names m class (filter (λ e. same_class by_names bare class e.name) xs) r
  members-bind class r [] [] z = refl
  members-bind class r [] (y ∷ ys) z = absurd z
  members-bind class r (x ∷ xs) [] z = absurd z
  members-bind class r (x ∷ xs) (y ∷ ys) z =
      ap (λ b. first_binds by_names m class (cond b (y ∷ filter (λ e. same_class by_names imports class e.name) ys) (filter (λ e. same_class by_names imports class e.name) ys)) r)
      (ap (same_class by_names imports class) (z.0).0 ∙ class-same class x.name)
      ∙ by (same_class by_names bare class x.name) (alike-binds c m (z.0).1 (z.0).2 x.kind y.kind (z.0).3 class r) (members-bind class r xs ys z.1) where
        by : (b : Bool) → kind_binds by_names m class y.kind r ≡ kind_binds by_names m class x.kind r
            → first_binds by_names m class (filter (λ e. same_class by_names imports class e.name) ys) r ≡ first_binds by_names m class (filter (λ e. same_class by_names bare class e.name) xs) r
            → first_binds by_names m class (cond b (y ∷ filter (λ e. same_class by_names imports class e.name) ys) (filter (λ e. same_class by_names imports class e.name) ys)) r
            ≡ first_binds by_names m class (cond b (x ∷ filter (λ e. same_class by_names bare class e.name) xs) (filter (λ e. same_class by_names bare class e.name) xs)) r
        by true here rest = (λ j. first_some (here j) (rest j))
        by false here rest = rest

  from-same : (k : ℕ) (ns : List Name) (r : ResourceId) → binding_from by_names m imports k ns r ≡ binding_from by_names m bare k ns r
  from-same k [] r = refl
  from-same k (class ∷ ns) r =
      let here = members-bind class r bare imports zip in
      let rest = from-same (suc k) ns r in
      (λ j. option_case (here j) (rest j) (λ path. Some (k, path)))

  roots-same : (at : ℕ → ℕ) → root_bindings by_names m imports at ≡ root_bindings by_names m bare at
  roots-same at = fun_ext (λ r. ap (λ o. option_case o None (λ b. Some (record { out = 0; side = imported; path = position (at b.0) ∷ b.1 })))
      (ap (λ ns. binding_from by_names m imports 0 ns r) (names-same bare imports zip) ∙ from-same 0 (class_names by_names bare) r))

  -- what is bound under a name
  bound-under : (id n : Name) (xs ys : List Entry) → AllZip (Alike c m) xs ys → option_case (import_under ys id) None (own_resource m id n) ≡ option_case (import_under xs id) None (own_resource m id n)
  bound-under id n [] [] z = refl
  bound-under id n [] (y ∷ ys) z = absurd z
  bound-under id n (x ∷ xs) [] z = absurd z
  bound-under id n (x ∷ xs) (y ∷ ys) z =
      ap (λ b. option_case (cond b (Some y.kind) (import_under ys id)) None (own_resource m id n)) (ap (same_name id) (z.0).0)
      ∙ by (same_name id x.name) (alike-resource c m (z.0).1 (z.0).2 x.kind y.kind (z.0).3 id n) (bound-under id n xs ys z.1) where
        by : (b : Bool) → own_resource m id n y.kind ≡ own_resource m id n x.kind → option_case (import_under ys id) None (own_resource m id n) ≡ option_case (import_under xs id) None (own_resource m id n)
            → option_case (cond b (Some y.kind) (import_under ys id)) None (own_resource m id n) ≡ option_case (cond b (Some x.kind) (import_under xs id)) None (own_resource m id n)
        by true here rest = here
        by false here rest = rest

module _ (c : Collection) (es : List Entry) (m : Collection) (bare imports : List Entry) (are : AreUsing by_names c es m bare imports) where
  abbrev uses-at : ℕ → List InterfaceId → List (Name × ItemKind) → List (Name × UsedType)
  uses-at p = uses_among by_names c es m (take p imports)

  abbrev users-of : Entry → List InterfaceId
  users-of a = instances (members by_names es a.name)

  all-alike : AllZip (Alike c m) bare imports
  all-alike = zip-each (Alike c m) bare imports are.counted (λ p a b here there. (are.names p a b here there, uses-at p, users-of a, are.kinds p a b here there))

  -- the import that it was
  bare-at : (p : ℕ) (e : Entry) → slice_get imports p ≡ Some e → (a : Entry) × (slice_get bare p ≡ Some a)
  bare-at p e at = let low = slice_get_within imports p e at in let count = are.counted in some-at bare p (omega (arith, low, count))

  pub using-bound : (id n : Name) → bound_resource (record { types = m; imports = imports }) id n ≡ bound_resource (record { types = m; imports = bare }) id n
  using-bound id n = bound-under c m bare imports all-alike id n bare imports all-alike

  -- what they bind at the root
  pub using-roots : (at : ℕ → ℕ) → root_bindings by_names m imports at ≡ root_bindings by_names m bare at
  using-roots = roots-same c m bare imports all-alike

  pub using-held-all : AreHeld m bare → AreHeld m imports
  using-held-all held p e at = let a = bare-at p e at in using-held c m (uses-at p) (users-of a.0) (a.0).kind e.kind (held p a.0 a.1) (are.kinds p a.0 e a.1 at)

  listed-same : (class : Name) (f : List InterfaceId → List (Name × ItemKind) → List (Name × UsedType)) (is : List InterfaceId) (k l : ItemKind) → IsKindUsing c m f is k l → IsListed by_names c es class m k → IsListed by_names c es class m l
  listed-same class f is = alike-cases c m f is (λ a b. IsListed by_names c es class m a → IsListed by_names c es class m b) one (λ a other was. was) where
    one : (i w : InterfaceId) → IsUsing c m f i w is → IsListed by_names c es class m (kind.Instance i) → IsListed by_names c es class m (kind.Instance w)
    one i w h (names, (it, at, id)) =
        let x = using-there c m f i w is h in
        let same : it ≡ x.0 = one_some (item_at m.interfaces i.0) it x.0 at x.2 in
        (exports-named c m f i w is h ∙ names, (record { id = (x.0).id; uses = f is x.1; exports = x.1 }, x.3, ap (λ (y : Interface). y.id) (sym same) ∙ id))

  pub using-merge : IsMerge by_names c es (record { types = m; imports = bare }) → IsMerge by_names c es (record { types = m; imports = imports })
  using-merge g = record {
    order = g.order;
    written = g.written;
    count = are.counted ∙ g.count;
    names = λ p k class e in_order known at. let a = bare-at p e at in are.names p a.0 e a.1 at ∙ g.names p k class a.0 in_order known a.1;
    items = λ p k class e in_order known at.
        let a = bare-at p e at in
        alike-placed c m (uses-at p) (users-of a.0) (a.0).kind e.kind (are.kinds p a.0 e a.1 at) (root_bindings by_names m imports (λ i. i)) imported (position p ∷ [])
        ∙ (ap (λ b. held_item m b imported (position p ∷ []) (a.0).kind) (roots-same c m bare imports all-alike (λ i. i)) ∙ g.items p k class a.0 in_order known a.1);
    listed = λ p k class e in_order known at. let a = bare-at p e at in listed-same class (uses-at p) (users-of a.0) (a.0).kind e.kind (are.kinds p a.0 e a.1 at) (g.listed p k class a.0 in_order known a.1);
    subtypes = λ p k class e in_order known at.
        let a = bare-at p e at in
        subst (λ t. AllByRecursion (λ member. Sub t (kind_tree c member.kind)) (members by_names es class)) (sym (alike-named c m (uses-at p) (users-of a.0) (a.0).kind e.kind (are.kinds p a.0 e a.1 at)))
        (g.subtypes p k class a.0 in_order known a.1);
    equal = λ p k class e in_order known at apart.
        let a = bare-at p e at in
        subst (λ t. AllByRecursion (λ member. t ≡ kind_tree c member.kind) (members by_names es class)) (sym (alike-named c m (uses-at p) (users-of a.0) (a.0).kind e.kind (are.kinds p a.0 e a.1 at)))
        (g.equal p k class a.0 in_order known a.1 (sym (alike-instance c m (uses-at p) (users-of a.0) (a.0).kind e.kind (are.kinds p a.0 e a.1 at)) ∙ apart));
  }

  pub using-keeps : KeepsUses by_names c es (record { types = m; imports = imports })
  using-keeps = each-keeps by_names c es (record { types = m; imports = imports }) one where
    one : (p : ℕ) (e : Entry) (w : InterfaceId) → slice_get imports p ≡ Some e → e.kind ≡ kind.Instance w → (i : InterfaceId) × IsUsing c m (uses-at p) i w (instances (members by_names es e.name))
    one p e w at is-kind =
        let a = bare-at p e at in
        let name = are.names p a.0 e a.1 at in
        let k = using-instance c m (uses-at p) (instances (members by_names es e.name)) (a.0).kind w
        (subst (IsKindUsing c m (uses-at p) (instances (members by_names es e.name)) (a.0).kind) is-kind
        (subst (λ (n : Name). IsKindUsing c m (uses-at p) (instances (members by_names es n)) (a.0).kind e.kind) (sym name) (are.kinds p a.0 e a.1 at))) in
        (k.0, k.2)
