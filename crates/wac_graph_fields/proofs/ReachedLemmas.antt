-- No defined value type reaches itself.
use Rattle.std.proofs.Common.{◌≡◌, ℕ, ◌<◌, List, [], ◌∷◌, Option, Some, None, refl, sym, subst, arith, inl, inr}
use Rattle.std.specs.Prelude.{slice_get}
use Rattle.std.specs.List.{AllByRecursion}
use Rattle.wac_types_shapes.specs.primitives.Name.{option_case}
use Rattle.wac_types_shapes.specs.declared.shapes.component.DefinedTypeId.{DefinedTypeId}
use Rattle.wac_types_shapes.specs.declared.shapes.component.ValueType.TheVariants as val
use Rattle.wac_types_shapes.specs.declared.shapes.component.«Type».{«Type» as AnyType}
use Rattle.wac_types_shapes.specs.declared.shapes.component.«Type».TheVariants as ty
use Rattle.wac_types_collection.specs.declared.collection.collection.Held.{Held}
use Rattle.wac_types_collection.specs.collection.Collection.{Collection, IsWellFormed, Each, AddedBefore, AreBefore, IsBefore, item_of, size, resource_mentions, func_mentions, defined_mentions, interface_mentions, world_mentions}
use Rattle.wac_types_collection.specs.reach.Reach.{IsIn, mentions, Reaches, at_once, further}
use Rattle.wac_graph_model.specs.nodes.Definitions.{IsDefinedValue}

-- ---- what is added before an item was added before a later one
added_more : {A : Type 0} (m n : ℕ) (o : Option (Held A)) → m < n → AddedBefore m o → AddedBefore n o
added_more m n None less b = absurd b
added_more m n (Some h) less b = omega (arith, b, less)

before_more : (c : Collection) (m n : ℕ) (t : AnyType) → m < n → IsBefore c m t → IsBefore c n t
before_more c m n (ty.Resource r) less b = added_more m n (slice_get c.resources r.0) less b
before_more c m n (ty.Func r) less b = added_more m n (slice_get c.funcs r.0) less b
before_more c m n (ty.Value (val.Primitive p)) less b = tt
before_more c m n (ty.Value (val.Borrow r)) less b = added_more m n (slice_get c.resources r.0) less b
before_more c m n (ty.Value (val.Own r)) less b = added_more m n (slice_get c.resources r.0) less b
before_more c m n (ty.Value (val.Defined d)) less b = added_more m n (slice_get c.defined d.0) less b
before_more c m n (ty.Interface r) less b = added_more m n (slice_get c.interfaces r.0) less b
before_more c m n (ty.World r) less b = added_more m n (slice_get c.worlds r.0) less b
before_more c m n (ty.Module r) less b = added_more m n (slice_get c.modules r.0) less b

in_all : (P : AnyType → Type 0) (ts : List AnyType) (t : AnyType) → AllByRecursion P ts → IsIn t ts → P t
in_all P [] t h w = absurd w
in_all P (x ∷ ts) t h (inl e) = subst P (sym e) h.0
in_all P (x ∷ ts) t h (inr w) = in_all P ts t h.1 w

-- what an item that was added before the n-th mentions was added before the n-th
item_before : {A : Type 0} (c : Collection) (f : A → List AnyType) (xs : List (Held A)) (i n : ℕ) → Each xs (λ h. (h.before < size c) × AreBefore c h.before (f h.item)) → AddedBefore n (slice_get xs i) → (t : AnyType)
    → IsIn t (option_case (item_of (slice_get xs i)) [] f) → IsBefore c n t
item_before c f xs i n each before t = by (slice_get xs i) refl before where
  by : (o : Option (Held _)) → slice_get xs i ≡ o → AddedBefore n o → IsIn t (option_case (item_of o) [] f) → IsBefore c n t
  by None is b w = absurd w
  by (Some h) is b w = before_more c h.before n t b (in_all (IsBefore c h.before) (f h.item) t (each i h is).1 w)

mentioned_before : (c : Collection) → IsWellFormed c → (n : ℕ) (u t : AnyType) → IsBefore c n u → IsIn t (mentions c u) → IsBefore c n t
mentioned_before c wf n (ty.Resource r) t b w = item_before c resource_mentions c.resources r.0 n wf.resources b t w
mentioned_before c wf n (ty.Func r) t b w = item_before c func_mentions c.funcs r.0 n wf.funcs b t w
mentioned_before c wf n (ty.Value (val.Primitive p)) t b w = absurd w
mentioned_before c wf n (ty.Value (val.Own r)) t b (inl e) = subst (IsBefore c n) (sym e) b
mentioned_before c wf n (ty.Value (val.Own r)) t b (inr w) = absurd w
mentioned_before c wf n (ty.Value (val.Borrow r)) t b (inl e) = subst (IsBefore c n) (sym e) b
mentioned_before c wf n (ty.Value (val.Borrow r)) t b (inr w) = absurd w
mentioned_before c wf n (ty.Value (val.Defined d)) t b w = item_before c defined_mentions c.defined d.0 n wf.defined b t w
mentioned_before c wf n (ty.Interface r) t b w = item_before c interface_mentions c.interfaces r.0 n wf.interfaces b t w
mentioned_before c wf n (ty.World r) t b w = item_before c world_mentions c.worlds r.0 n wf.worlds b t w
mentioned_before c wf n (ty.Module r) t b w = absurd w

reached_before : (c : Collection) → IsWellFormed c → (n : ℕ) (u t : AnyType) → ((a : AnyType) → IsIn a (mentions c u) → IsBefore c n a) → Reaches c u t → IsBefore c n t
reached_before c wf n u t all (at_once _ _ w) = all t w
reached_before c wf n u t all (further _ b _ w r) = reached_before c wf n b t (λ a. mentioned_before c wf n b a (all b w)) r

-- ---- a defined value type was added after all that it reaches
defined_apart : (c : Collection) → IsWellFormed c → (d : DefinedTypeId) → Reaches c (ty.Value (val.Defined d)) (ty.Value (val.Defined d)) → ⊥
defined_apart c wf d r = by (slice_get c.defined d.0) refl where
  self : AnyType
  self = ty.Value (val.Defined d)

  nothing : slice_get c.defined d.0 ≡ None → (a : AnyType) → IsIn a (mentions c self) → ⊥
  nothing is a w = subst (λ o. IsIn a (option_case (item_of o) [] defined_mentions)) is w

  first : Reaches c self self → (a : AnyType) × IsIn a (mentions c self)
  first (at_once _ b w) = (b, w)
  first (further _ b _ w _) = (b, w)

  by : (o : Option (Held _)) → slice_get c.defined d.0 ≡ o → ⊥
  by None is = let (a, w) = first r in nothing is a w
  by (Some h) is =
      let least : IsBefore c h.before self =
      reached_before c wf h.before self self (λ a w. in_all (IsBefore c h.before) (defined_mentions h.item) a (wf.defined d.0 h is).1 (subst (λ o. IsIn a (option_case (item_of o) [] defined_mentions)) is w)) r in
      let less : AddedBefore h.before (Some h) = subst (AddedBefore h.before) is least in
      omega (arith, less)

reaches_on : (c : Collection) (a b t : AnyType) → Reaches c a b → Reaches c b t → Reaches c a t
reaches_on c a b t (at_once _ _ w) r = further a b t w r
reaches_on c a b t (further _ d _ w s) r = further a d t w (reaches_on c d b t s r)

-- of two types, the first of which is a defined value type, not each reaches the other
pub one_way : (c : Collection) → IsWellFormed c → (t u : AnyType) → IsDefinedValue t → Reaches c t u → Reaches c u t → ⊥
one_way c wf (ty.Value (val.Defined d)) u defined there back = defined_apart c wf d (reaches_on c (ty.Value (val.Defined d)) u (ty.Value (val.Defined d)) there back)
one_way c wf (ty.Value (val.Primitive p)) u defined there back = absurd defined
one_way c wf (ty.Value (val.Own r)) u defined there back = absurd defined
one_way c wf (ty.Value (val.Borrow r)) u defined there back = absurd defined
one_way c wf (ty.Resource r) u defined there back = absurd defined
one_way c wf (ty.Func r) u defined there back = absurd defined
one_way c wf (ty.Interface r) u defined there back = absurd defined
one_way c wf (ty.World r) u defined there back = absurd defined
one_way c wf (ty.Module r) u defined there back = absurd defined
