-- A type is higher than the types of which it is made.
use Rattle.std.specs.Prelude.{slice_get}
use Rattle.std.specs.List.{AllByRecursion}
use Rattle.std.proofs.Common.{ℕ, zero, suc, ◌+◌, ◌<◌, ◌≤◌, ◌≡◌, inl, inr, List, [], ◌∷◌, Option, Some, None, length, refl, sym, subst, arith}
use Rattle.std.proofs.lemmas.Option.{slice_get_within}
use Rattle.wac_types_shapes.specs.primitives.Name.{option_case}
use Rattle.wac_types_shapes.specs.declared.shapes.component.DefinedType.{DefinedType}
use Rattle.wac_types_shapes.specs.declared.shapes.component.DefinedType.TheVariants as def
use Rattle.wac_types_shapes.specs.declared.shapes.component.DefinedTypeId.{DefinedTypeId}
use Rattle.wac_types_shapes.specs.declared.shapes.component.FuncType.{FuncType}
use Rattle.wac_types_shapes.specs.declared.shapes.component.Interface.{Interface}
use Rattle.wac_types_shapes.specs.declared.shapes.component.ValueType.{ValueType}
use Rattle.wac_types_shapes.specs.declared.shapes.component.ValueType.TheVariants as val
use Rattle.wac_types_shapes.specs.declared.shapes.component.«Type».{«Type» as AnyType}
use Rattle.wac_types_shapes.specs.declared.shapes.component.«Type».TheVariants as ty
use Rattle.wac_types_collection.specs.declared.collection.collection.Held.{Held}
use Rattle.wac_types_collection.specs.collection.Collection.{Collection, IsWellFormed, IsPartBelow, IsBefore, AreBefore, AddedBefore, defined_values, value_types, func_mentions, defined_mentions, interface_mentions, used_types, kind_types, item_of, size}
use Rattle.wac_types_collection.specs.collection.Aliases.{aliased, value_resolved, value_resolved_in, handle_resolved, type_resolved}
use Rattle.wac_types_collection.specs.subtyping.Ranks.{rank_of_held}
use Rattle.wac_types_collection.specs.reach.Reach.{IsIn}
use Rattle.wac_types_collection.proofs.lemmas.reach.Lists.{in_right}
use Rattle.wac_types_collection.proofs.lemmas.subtyping.Unfolding.{before_rank}
use Rattle.wac_encode_order.specs.private.TypeItems.{made_of}

-- The height of a type.
abbrev pub height : Collection → AnyType → ℕ
height c (ty.Value (val.Primitive p)) = 0
height c (ty.Value (val.Own r)) = 1
height c (ty.Value (val.Borrow r)) = 1
height c (ty.Value (val.Defined d)) = 2 + d.0
height c (ty.Func f) = 2 + length c.defined
height c (ty.Interface i) = 3 + length c.defined + rank_of_held (slice_get c.interfaces i.0)
height c (ty.Resource r) = 0
height c (ty.World w) = 0
height c (ty.Module m) = 0

-- ---- the end of aliases is no later definition
further-below : (i j : ℕ) (v : ValueType) → i < j → IsPartBelow i v → IsPartBelow j v
further-below i j (val.Defined d) l b = omega (arith, l, b)
further-below i j (val.Primitive p) l b = tt
further-below i j (val.Own r) l b = tt
further-below i j (val.Borrow r) l b = tt

by-item : (n : ℕ) (c : Collection) (i : ℕ) (d : DefinedTypeId) → d.0 < i → ((v : ValueType) → IsPartBelow i v → IsPartBelow i (value_resolved_in n c v)) → (x : DefinedType) → AllByRecursion (IsPartBelow d.0) (defined_values x) → IsPartBelow i (option_case (aliased x) (val.Defined d) (λ t. value_resolved_in n c t))
by-item n c i d b below (def.Alias v) a = below v (further-below d.0 i v b a.0)
by-item n c i d b below x a = b

by-held : (n : ℕ) (c : Collection) → IsWellFormed c → (i : ℕ) (d : DefinedTypeId) → d.0 < i → ((v : ValueType) → IsPartBelow i v → IsPartBelow i (value_resolved_in n c v)) → (o : Option (Held DefinedType)) → slice_get c.defined d.0 ≡ o → IsPartBelow i (option_case (option_case (item_of o) None aliased) (val.Defined d) (λ t. value_resolved_in n c t))
by-held n c wf i d b below None e = b
by-held n c wf i d b below (Some h) e = by-item n c i d b below h.item (wf.parts d.0 h e)

end-below : (n : ℕ) (c : Collection) → IsWellFormed c → (i : ℕ) (v : ValueType) → IsPartBelow i v → IsPartBelow i (value_resolved_in n c v)
end-below zero c wf i v b = b
end-below (suc n) c wf i (val.Primitive p) b = tt
end-below (suc n) c wf i (val.Own r) b = tt
end-below (suc n) c wf i (val.Borrow r) b = tt
end-below (suc n) c wf i (val.Defined d) b = by-held n c wf i d b (λ v. end-below n c wf i v) (slice_get c.defined d.0) refl

handle-low : (c : Collection) (n : ℕ) (v : ValueType) → IsPartBelow n v → height c (ty.Value (handle_resolved c v)) < 2 + n
handle-low c n (val.Defined d) b = omega (arith, b)
handle-low c n (val.Primitive p) b = omega arith
handle-low c n (val.Own r) b = omega arith
handle-low c n (val.Borrow r) b = omega arith

module _ (c : Collection) (wf : IsWellFormed c) where
  value-low : (n : ℕ) (v : ValueType) → IsPartBelow n v → height c (type_resolved c (ty.Value v)) < 2 + n
  value-low n v b = handle-low c n (value_resolved c v) (end-below (size c) c wf n v b)

  -- ---- parts of a definition
  part-low : (n : ℕ) (u : AnyType) (vs : List ValueType) → AllByRecursion (IsPartBelow n) vs → IsIn u (value_types vs) → height c (type_resolved c u) < 2 + n
  part-low n u [] a h = absurd h
  part-low n u (v ∷ vs) a (inl same) = subst (λ (t : AnyType). height c (type_resolved c t) < 2 + n) (sym same) (value-low n v a.0)
  part-low n u (v ∷ vs) a (inr h) = part-low n u vs a.1 h

  -- ---- what was added before something
  placed : {A : Type 0} (n : ℕ) (xs : List (Held A)) (i : ℕ) → AddedBefore n (slice_get xs i) → i < length xs
  placed n xs i b = by_held (slice_get xs i) refl b
    where
      by_held : (o : Option (Held _)) → slice_get xs i ≡ o → AddedBefore n o → i < length xs
      by_held None at b_ = absurd b_
      by_held (Some h) at b_ = slice_get_within xs i h at

  before-value : (n : ℕ) (v : ValueType) → IsBefore c n (ty.Value v) → IsPartBelow (length c.defined) v
  before-value n (val.Defined d) b = placed n c.defined d.0 b
  before-value n (val.Primitive p) b = tt
  before-value n (val.Own r) b = tt
  before-value n (val.Borrow r) b = tt

  before-low : (n : ℕ) (u : AnyType) → IsBefore c n u → height c (type_resolved c u) < 3 + length c.defined + suc n
  before-low n (ty.Value v) b = let low = value-low (length c.defined) v (before-value n v b) in omega (arith, low)
  before-low n (ty.Func f) b = omega arith
  before-low n (ty.Interface i) b = let rank : rank_of_held (slice_get c.interfaces i.0) ≤ n = before_rank c n (ty.Interface i) b in omega (arith, rank)
  before-low n (ty.Resource r) b = omega arith
  before-low n (ty.World w) b = omega arith
  before-low n (ty.Module m) b = omega arith

  before-in : (n : ℕ) (ts : List AnyType) (u : AnyType) → AreBefore c n ts → IsIn u ts → IsBefore c n u
  before-in n [] u a h = absurd h
  before-in n (t ∷ ts) u a (inl same) = subst (IsBefore c n) (sym same) a.0
  before-in n (t ∷ ts) u a (inr h) = before-in n ts u a.1 h

  values-before : (n : ℕ) (vs : List ValueType) → AreBefore c n (value_types vs) → AllByRecursion (IsPartBelow (length c.defined)) vs
  values-before n [] a = tt
  values-before n (v ∷ vs) a = (before-value n v a.0, values-before n vs a.1)

  -- ---- the parts of each type
  func-low : (o : Option (Held FuncType)) (f : ℕ) → slice_get c.funcs f ≡ o → (u : AnyType) → IsIn u (option_case (item_of o) [] func_mentions) → height c (type_resolved c u) < 2 + length c.defined
  func-low None f at u h = absurd h
  func-low (Some x) f at u h = part-low (length c.defined) u _ (values-before x.before _ (wf.funcs f x at).1) h

  defined-low : (o : Option (Held DefinedType)) (d : ℕ) → slice_get c.defined d ≡ o → (u : AnyType) → IsIn u (option_case (item_of o) [] defined_mentions) → height c (type_resolved c u) < 2 + d
  defined-low None d at u h = absurd h
  defined-low (Some x) d at u h = part-low d u (defined_values x.item) (wf.parts d x at) h

  interface-low : (o : Option (Held Interface)) (i : ℕ) → slice_get c.interfaces i ≡ o → (u : AnyType) → IsIn u (kind_types (option_case (item_of o) [] (λ x. x.exports))) → height c (type_resolved c u) < 3 + length c.defined + rank_of_held o
  interface-low None i at u h = absurd h
  interface-low (Some x) i at u h = before-low x.before u (before-in x.before (interface_mentions x.item) u (wf.interfaces i x at).1 (in_right u (used_types x.item.uses) (kind_types x.item.exports) h))

  pub part-lower : (t u : AnyType) → IsIn u (made_of c t) → height c (type_resolved c u) < height c t
  part-lower (ty.Func f) u h = func-low (slice_get c.funcs f.0) f.0 refl u h
  part-lower (ty.Value (val.Defined d)) u h = defined-low (slice_get c.defined d.0) d.0 refl u h
  part-lower (ty.Value (val.Primitive p)) u h = absurd h
  part-lower (ty.Value (val.Own r)) u (inl same) = subst (λ (t : AnyType). height c (type_resolved c t) < 1) (sym same) (omega arith)
  part-lower (ty.Value (val.Own r)) u (inr h) = absurd h
  part-lower (ty.Value (val.Borrow r)) u (inl same) = subst (λ (t : AnyType). height c (type_resolved c t) < 1) (sym same) (omega arith)
  part-lower (ty.Value (val.Borrow r)) u (inr h) = absurd h
  part-lower (ty.Interface i) u h = interface-low (slice_get c.interfaces i.0) i.0 refl u h
  part-lower (ty.Resource r) u h = absurd h
  part-lower (ty.World w) u h = absurd h
  part-lower (ty.Module m) u h = absurd h
