-- What is looked up of the imports that bind resources.
use Rattle.std.specs.Prelude.{◌==◌, ◌&&◌, ◌||◌, not, is_none}
use Rattle.std.specs.List.{list_any}
use Rattle.std.proofs.Common.{ℕ, suc, ◌+◌, eq-eqb, ◌≡◌, Bool, true, false, if◌then◌else◌, List, [], ◌∷◌, Option, Some, None, slice_get, take, refl, ap, sym, ◌∙◌, arith}
use Rattle.std.specs.Option.{option_map}
use Rattle.std.proofs.lemmas.Bool.{eqb-true}
use Rattle.std.proofs.lemmas.List.Folds.{list_any-append}
use Rattle.wac_types_shapes.specs.primitives.Name.{Name, find_name, option_case}
use Rattle.wac_types_shapes.proofs.lemmas.shapes.Names.{take_at}
use Rattle.wac_types_shapes.specs.primitives.Tree.{imported, Place, position}
use Rattle.wac_types_shapes.specs.declared.shapes.component.ItemKind.{ItemKind}
use Rattle.wac_types_shapes.specs.declared.shapes.component.ItemKind.TheVariants as kind
use Rattle.wac_types_shapes.specs.declared.shapes.component.ResourceId.{ResourceId}
use Rattle.wac_types_shapes.specs.declared.shapes.component.UsedType.{UsedType}
use Rattle.wac_types_shapes.specs.declared.shapes.component.«Type».TheVariants as ty
use Rattle.wac_types_collection.specs.collection.Collection.{Collection}
use Rattle.wac_types_collection.specs.collection.Bound.{is_alias, lists_own, own_name}
use Rattle.wac_merge_classes.specs.entries.Binding.{binding_class}
use Rattle.wac_merge_classes.specs.entries.Bindings.{AreBindings, ClassBindings, first_in}
use Rattle.wac_merge_classes.specs.entries.Classes.{by_names}
use Rattle.wac_merge_classes.specs.terms.Merge.{Merged}
use Rattle.wac_encode_scopes.specs.private.Telling.{is_one_of}
use Rattle.wac_encode_imports.specs.private.Imports.{merged_bindings}
use Rattle.wac_encode_imports.specs.private.Classes.{first_of, is_class, is_first_of, is_that}
use Rattle.wac_encode_imports.specs.private.Written.{is_bound_at}
use Rattle.wac_encode_imports.proofs.Bound.{true-false, bool-of, no-some}

both-true : (a b : Bool) → (a && b) ≡ true → (a ≡ true) × (b ≡ true)
both-true true b h = (refl, h)
both-true false b h = true-false false h refl

either : (a b : Bool) → b ≡ true → (a || b) ≡ true
either true b h = refl
either false b h = h

id-is : (q r : ResourceId) → (q.0 == r.0) ≡ true → q ≡ r
id-is q r h = ap (λ k. record { 0 = k }) (eqb-true q.0 r.0 h)

-- The class that is the first to bind has the position of the leaf.
class-leaf : (p : ℕ) (o : Option (ℕ × List Place)) → is_class p o ≡ is_bound_at p (option_case o None (λ b. Some (record { out = 0; side = imported; path = position b.0 ∷ b.1 })))
class-leaf p None = refl
class-leaf p (Some b) = refl

pub first-is : (m : Merged) (b : ClassBindings) → AreBindings m.types m.imports b → (p : ℕ) (r : ResourceId) → is_class p (first_in b r) ≡ is_bound_at p (merged_bindings m r)
first-is m b are p r = ap (is_class p) (are.firsts r) ∙ class-leaf p (binding_class by_names m.types m.imports r)

module _ (b : ClassBindings) (p : ℕ) where
  -- an item is one of those whose resource is looked up
  pub first-that : (k : ItemKind) (n : Name) (r : ResourceId) → is_that (first_of b p k) r ≡ is_first_of b p r (n, k)
  first-that (kind.TypeItem (ty.Resource q)) n r = by (is_class p (first_in b q))
    where
      and-true : (x : Bool) → x ≡ (x && true)
      and-true true = refl
      and-true false = refl

      and-false : (x : Bool) → false ≡ (x && false)
      and-false true = refl
      and-false false = refl

      by : (x : Bool) → is_that (if x then Some q else None) r ≡ ((r.0 == q.0) && x)
      by true = and-true (r.0 == q.0)
      by false = and-false (r.0 == q.0)
  first-that (kind.TypeItem (ty.Value v)) n r = refl
  first-that (kind.TypeItem (ty.Func f)) n r = refl
  first-that (kind.TypeItem (ty.Interface i)) n r = refl
  first-that (kind.TypeItem (ty.World w)) n r = refl
  first-that (kind.TypeItem (ty.Module x)) n r = refl
  first-that (kind.Func f) n r = refl
  first-that (kind.Instance i) n r = refl
  first-that (kind.Component w) n r = refl
  first-that (kind.Module x) n r = refl
  first-that (kind.Value v) n r = refl

  -- one of the items is found only for a resource that the class binds
  pub found-binds : (es : List (Name × ItemKind)) (r : ResourceId) → list_any (is_first_of b p r) es ≡ true → is_class p (first_in b r) ≡ true
  found-binds [] r h = true-false false h refl
  found-binds ((n, kind.TypeItem (ty.Resource q)) ∷ es) r h = by ((r.0 == q.0) && is_class p (first_in b q)) refl h (λ more. found-binds es r more)
    where
      by : (x : Bool) → ((r.0 == q.0) && is_class p (first_in b q)) ≡ x → (x || list_any (is_first_of b p r) es) ≡ true → (list_any (is_first_of b p r) es ≡ true → is_class p (first_in b r) ≡ true) → is_class p (first_in b r) ≡ true
      by true is h later = let (same, binds) = both-true (r.0 == q.0) (is_class p (first_in b q)) is in ap (λ (z : ResourceId). is_class p (first_in b z)) (id-is r q same) ∙ binds
      by false is h later = later h
  found-binds ((n, kind.TypeItem (ty.Value v)) ∷ es) r h = found-binds es r h
  found-binds ((n, kind.TypeItem (ty.Func f)) ∷ es) r h = found-binds es r h
  found-binds ((n, kind.TypeItem (ty.Interface i)) ∷ es) r h = found-binds es r h
  found-binds ((n, kind.TypeItem (ty.World w)) ∷ es) r h = found-binds es r h
  found-binds ((n, kind.TypeItem (ty.Module x)) ∷ es) r h = found-binds es r h
  found-binds ((n, kind.Func f) ∷ es) r h = found-binds es r h
  found-binds ((n, kind.Instance i) ∷ es) r h = found-binds es r h
  found-binds ((n, kind.Component w) ∷ es) r h = found-binds es r h
  found-binds ((n, kind.Module x) ∷ es) r h = found-binds es r h
  found-binds ((n, kind.Value v) ∷ es) r h = found-binds es r h

  -- an own resource that the class binds is found
  own-found : (c : Collection) (uses : List (Name × UsedType)) (es : List (Name × ItemKind)) (r : ResourceId) (w : Name) → own_name c uses es r ≡ Some w → is_class p (first_in b r) ≡ true → list_any (is_first_of b p r) es ≡ true
  own-found c uses [] r w own h = no-some w own
  own-found c uses ((n, kind.TypeItem (ty.Resource q)) ∷ es) r w own h = by (lists_own c uses r (n, kind.TypeItem (ty.Resource q))) refl own (λ more. own-found c uses es r w more h)
    where
      by : (x : Bool) → lists_own c uses r (n, kind.TypeItem (ty.Resource q)) ≡ x → (if x then Some n else own_name c uses es r) ≡ Some w → (own_name c uses es r ≡ Some w → list_any (is_first_of b p r) es ≡ true)
          → (((r.0 == q.0) && is_class p (first_in b q)) || list_any (is_first_of b p r) es) ≡ true
      by true is e later =
          let (same, rest) = both-true (q.0 == r.0) (not (is_alias c q) && is_none (find_name uses n)) is in
          let one = id-is q r same in
          ap (λ (z : ResourceId). ((r.0 == z.0) && is_class p (first_in b z)) || list_any (is_first_of b p r) es) one
          ∙ ap (λ x. (x && is_class p (first_in b r)) || list_any (is_first_of b p r) es) (eq-eqb r.0 r.0 refl)
          ∙ ap (λ x. x || list_any (is_first_of b p r) es) h
      by false is e later = either ((r.0 == q.0) && is_class p (first_in b q)) (list_any (is_first_of b p r) es) (later e)
  own-found c uses ((n, kind.TypeItem (ty.Value v)) ∷ es) r w own h = own-found c uses es r w own h
  own-found c uses ((n, kind.TypeItem (ty.Func f)) ∷ es) r w own h = own-found c uses es r w own h
  own-found c uses ((n, kind.TypeItem (ty.Interface i)) ∷ es) r w own h = own-found c uses es r w own h
  own-found c uses ((n, kind.TypeItem (ty.World x)) ∷ es) r w own h = own-found c uses es r w own h
  own-found c uses ((n, kind.TypeItem (ty.Module x)) ∷ es) r w own h = own-found c uses es r w own h
  own-found c uses ((n, kind.Func f) ∷ es) r w own h = own-found c uses es r w own h
  own-found c uses ((n, kind.Instance i) ∷ es) r w own h = own-found c uses es r w own h
  own-found c uses ((n, kind.Component x) ∷ es) r w own h = own-found c uses es r w own h
  own-found c uses ((n, kind.Module x) ∷ es) r w own h = own-found c uses es r w own h
  own-found c uses ((n, kind.Value v) ∷ es) r w own h = own-found c uses es r w own h

  -- So of an own resource of an interface it is found whether the class is the first to bind it.
  pub any-first : (c : Collection) (uses : List (Name × UsedType)) (es : List (Name × ItemKind)) (r : ResourceId) (w : Name) → own_name c uses es r ≡ Some w → list_any (is_first_of b p r) es ≡ is_class p (first_in b r)
  any-first c uses es r w own = by (is_class p (first_in b r)) refl
    where
      by : (x : Bool) → is_class p (first_in b r) ≡ x → list_any (is_first_of b p r) es ≡ x
      by true is = own-found c uses es r w own is
      by false is = bool-of (list_any (is_first_of b p r) es) (λ h. true-false (is_class p (first_in b r)) (found-binds es r h) is)

  -- one item more is looked at
  pub first-next : (es : List (Name × ItemKind)) (i : ℕ) (n : Name) (k : ItemKind) (old new : List ResourceId) → slice_get es i ≡ Some (n, k) → ((r : ResourceId) → is_one_of old r ≡ list_any (is_first_of b p r) (take i es))
      → ((r : ResourceId) → is_one_of new r ≡ (is_one_of old r || is_that (first_of b p k) r)) → (r : ResourceId) → is_one_of new r ≡ list_any (is_first_of b p r) (take (i + 1) es)
  first-next es i n k old new at was step r =
      let more : suc i ≡ i + 1 = omega arith in
      step r
      ∙ (λ j. was r j || first-that k n r j)
      ∙ (λ j. list_any (is_first_of b p r) (take i es) || sym (or-none (is_first_of b p r (n, k))) j)
      ∙ sym (list_any-append (is_first_of b p r) (take i es) ((n, k) ∷ []))
      ∙ ap (list_any (is_first_of b p r)) (sym (take_at es i (n, k) at) ∙ ap (λ (m : ℕ). take m es) more)
    where
      or-none : (x : Bool) → (x || false) ≡ x
      or-none true = refl
      or-none false = refl

-- what is told of the first class, as the code finds it
pub class-of : {A : Type 0} (p : ℕ) (o : Option (ℕ × A)) (b : ℕ × A) (path : A → List Place) → o ≡ Some b → (b.0 == p) ≡ is_class p (option_map (λ x. (x.0, path x.1)) o)
class-of p o b path is = sym (ap (λ z. is_class p (option_map (λ x. (x.0, path x.1)) z)) is)
