-- Trees of value types, and what is asked of them.
use Rattle.std.proofs.Common.{ℕ, zero, suc, Bool, ◌<◌, ◌⊎◌, inl, inr, List, [], ◌∷◌, ◌≡◌, ◌↔◌, ap, sym, ◌∙◌, Option, Some, None, slice_get}
use Rattle.std.specs.List.{AllByRecursion}
use Rattle.wac_types_shapes.specs.primitives.Name.{Name}
use Rattle.wac_types.specs.declared.comparison.questions.Asked.{Asked}
use Rattle.wac_types_collection.specs.declared.collection.collection.Held.{Held}
use Rattle.wac_types_shapes.specs.declared.primitives.component.PrimitiveType.{PrimitiveType}
use Rattle.wac_types_shapes.specs.declared.shapes.component.ValueType.{ValueType}
use Rattle.wac_types_shapes.specs.declared.shapes.component.ValueType.TheVariants as val
use Rattle.wac_types_shapes.specs.declared.shapes.component.DefinedType.{DefinedType}
use Rattle.wac_types_shapes.specs.declared.shapes.component.DefinedType.TheVariants as def
use Rattle.wac_types_shapes.specs.declared.shapes.component.«Type».{«Type» as AnyType}
use Rattle.wac_types_shapes.specs.declared.shapes.component.«Type».TheVariants as ty
use Rattle.wac_types_collection.specs.collection.Collection.{Collection, size}
use Rattle.wac_types_shapes.specs.primitives.Tree.{TypeTree, absent, primitive, own, borrow, list_of, fixed_list_of, option_of, result_of, stream_of, future_of, function_item, value_item}
use Rattle.wac_types_collection.specs.collection.Held.{defined_tree, of_held, resolved, unfolded_to}
use Rattle.wac_types_collection.specs.subtyping.Subtype.{Sub, IsPlain, by_name, resource_names, type_tree}
use Rattle.wac_types.specs.private.comparison.Compare.{value_in}
use Rattle.wac_types.specs.private.comparison.Questions.{AreBelow}
use Rattle.wac_types.specs.private.comparison.Weights.{type_weight}
use Rattle.wac_types.specs.private.comparison.Settling.{Asks}
use Rattle.wac_types.proofs.lemmas.comparison.Opens.{in_case, primitive_in}
use Rattle.wac_types_collection.proofs.lemmas.subtyping.Relation.{plain_sub, plain_same}
use Rattle.wac_types.proofs.lemmas.comparison.Asking.{settles_now, settles_then, settles_iff}

module _ {L : Type 0} where
  -- what a tree of one or two others has in it
  abbrev pub inner : TypeTree L → TypeTree L
  inner (list_of t) = t
  inner (fixed_list_of n t) = t
  inner (option_of t) = t
  inner (result_of t u) = t
  inner (stream_of t) = t
  inner (future_of t) = t
  inner (function_item t) = t
  inner (value_item t) = t
  inner _ = absent

  primitive_inj : (p q : PrimitiveType) → (let tree : PrimitiveType → TypeTree L = primitive in tree p ≡ tree q) → p ≡ q
  primitive_inj p q e = cc

  pub plain_held : {A : Type 0} (t : A → TypeTree L) → ((a : A) → IsPlain (t a)) → (o : Option (Held A)) → IsPlain (of_held t o)
  plain_held t f None = tt
  plain_held t f (Some h) = f h.item

  plain_defined : (t : ValueType → TypeTree L) → ((v : ValueType) → IsPlain (t v)) → (d : DefinedType) → IsPlain (defined_tree t d)
  plain_defined t f (def.Alias v) = f v
  plain_defined t f _ = tt

pub primitives_same : (c d : Collection) (p q : PrimitiveType) → p ≡ q → value_in c (val.Primitive p) ≡ value_in d (val.Primitive q)
primitives_same c d p q e = primitive_in c p ∙ ap primitive e ∙ sym (primitive_in d q)

pub primitives_inj : (c d : Collection) (p q : PrimitiveType) → value_in c (val.Primitive p) ≡ value_in d (val.Primitive q) → p ≡ q
primitives_inj c d p q e = primitive_inj p q (sym (primitive_in c p) ∙ e ∙ primitive_in d q)

-- trees of value types are plain
plain_to : (c : Collection) (k : ℕ) (v : ValueType) → IsPlain (unfolded_to by_name c k (resource_names c) (ty.Value v))
plain_to c zero v = tt
plain_to c (suc k) (val.Primitive p) = tt
plain_to c (suc k) (val.Own r) = in_case IsPlain (resource_names c (resolved c r)) absent own tt (λ n. tt)
plain_to c (suc k) (val.Borrow r) = in_case IsPlain (resource_names c (resolved c r)) absent borrow tt (λ n. tt)
plain_to c (suc k) (val.Defined d) =
    let t : ValueType → TypeTree Name = λ v. unfolded_to by_name c k (resource_names c) (ty.Value v) in
    plain_held (defined_tree t) (plain_defined t (plain_to c k)) (slice_get c.defined d.0)

pub value_plain : (c : Collection) (v : ValueType) → IsPlain (value_in c v)
unfolding type_tree
value_plain c v = plain_to c (suc (size c)) v

pub values_are : (x y : Collection) (v w : ValueType) → (value_in x v ≡ value_in y w) ↔ Sub (value_in x v) (value_in y w)
values_are x y v w = (plain_same (value_in x v) (value_in y w) (value_plain x v), plain_sub (value_in x v) (value_in y w) (value_plain x v))

pub sub_to : {L : Type 0} (a b u v : TypeTree L) → a ≡ u → b ≡ v → Sub u v → Sub a b
sub_to a b u v e f s = rw (e, f) s

module _ {t : Bool} {x y : Collection} where
  pub asks_now : {E : Type 0} {ps qs : List AnyType} {o : Asked} → E → Asks t x y ps qs o o E
  asks_now e = record { settles = λ n b. settles_now _ _ _ e }

  pub asks_iff : {E F : Type 0} {ps qs : List AnyType} {o k : Asked} → (E → F) → (F → E) → Asks t x y ps qs o k E → Asks t x y ps qs o k F
  asks_iff f g s = record { settles = λ n b. settles_iff _ _ _ _ f g (s.settles n b) }

  -- of parts of what is mentioned
  pub asks_of : {E : Type 0} {ps0 qs0 : List AnyType} (ps qs : List AnyType) {o k : Asked} → ((P : AnyType → Type 0) → AllByRecursion P ps → AllByRecursion P ps0) → ((P : AnyType → Type 0) → AllByRecursion P qs → AllByRecursion P qs0)
      → Asks t x y ps0 qs0 o k E → Asks t x y ps qs o k E
  asks_of {ps0 = ps0} {qs0 = qs0} ps qs f g s = record { settles = λ n b. s.settles n (by n b) }
    where
      by : (n : ℕ) → AreBelow x n ps ⊎ AreBelow y n qs → AreBelow x n ps0 ⊎ AreBelow y n qs0
      by n (inl h) = inl (f (λ a. type_weight x a < n) h)
      by n (inr h) = inr (g (λ a. type_weight y a < n) h)

  -- two in turn
  pub asks_then : {E F : Type 0} {ps qs : List AnyType} {o l k : Asked} → Asks t x y ps qs o l E → Asks t x y ps qs l k F → Asks t x y ps qs o k (E × F)
  asks_then s r = record { settles = λ n b. settles_then _ _ _ _ _ (s.settles n b) (r.settles n b) }

  pub asks_values : (v w : ValueType) {o k : Asked} → Asks t x y (ty.Value v ∷ []) (ty.Value w ∷ []) o k (Sub (value_in x v) (value_in y w)) → Asks t x y (ty.Value v ∷ []) (ty.Value w ∷ []) o k (value_in x v ≡ value_in y w)
  asks_values v w s = let iff = values_are x y v w in asks_iff iff.1 iff.0 s
