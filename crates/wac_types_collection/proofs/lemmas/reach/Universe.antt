-- All types of a collection, and that no more are found.
use Rattle.std.proofs.Common.{ℕ, zero, suc, true, List, [], ◌∷◌, ◌++◌, ◌≡◌, ◌≤◌, length, map, refl, ap, arith, nat_lt, ◌⊎◌, inl, inr}
use Rattle.std.specs.List.{IsDistinct}
use Rattle.std.proofs.lemmas.Map.Made.{length-le_from_is_member}
use Rattle.wac_types_shapes.specs.contracts.shapes.component.TypePartialEq.TheImpl as TypeEq
use Rattle.wac_types_shapes.specs.declared.primitives.component.PrimitiveType.{PrimitiveType}
use Rattle.wac_types_shapes.specs.declared.primitives.component.PrimitiveType.TheVariants as prim
use Rattle.wac_types_shapes.specs.declared.shapes.component.ValueType.TheVariants as val
use Rattle.wac_types_shapes.specs.declared.shapes.component.«Type».{«Type» as AnyType}
use Rattle.wac_types_shapes.specs.declared.shapes.component.«Type».TheVariants as ty
use Rattle.wac_types_collection.specs.collection.Collection.{Collection, holds_type}
use Rattle.wac_types_collection.specs.reach.Reach.{IsIn}
use Rattle.wac_types_collection.proofs.lemmas.reach.TypeKeys.{type_laws}
use Rattle.wac_types_collection.proofs.lemmas.reach.Lists.{in_left, in_right, tested, test_in}

-- the types of a sort, by position
positions : (ℕ → AnyType) → ℕ → List AnyType
positions f zero = []
positions f (suc n) = f n ∷ positions f n

in_positions : (f : ℕ → AnyType) (i n : ℕ) → nat_lt i n ≡ true → IsIn (f i) (positions f n)
unfolding positions
in_positions f i zero h = absurd (grind arith)
in_positions f i (suc n) h = elim (last i n h) [ inl e ↦ inl (ap f e) | inr l ↦ inr (in_positions f i n l) ]
  where
    last : (i n : ℕ) → nat_lt i (suc n) ≡ true → (i ≡ n) ⊎ (nat_lt i n ≡ true)
    last zero zero h = inl refl
    last zero (suc n) h = inr (grind arith)
    last (suc i) zero h = absurd (grind arith)
    last (suc i) (suc n) h = elim (last i n (grind arith)) [ inl e ↦ inl (ap suc e) | inr l ↦ inr (grind arith) ]

primitives : List AnyType
primitives = map (λ p. ty.Value (val.Primitive p)) (prim.Bool ∷ prim.S8 ∷ prim.U8 ∷ prim.S16 ∷ prim.U16 ∷ prim.S32 ∷ prim.U32 ∷ prim.S64 ∷ prim.U64 ∷ prim.F32 ∷ prim.F64 ∷ prim.Char ∷ prim.String ∷ prim.ErrorContext ∷ [])

in_primitives : (p : PrimitiveType) → IsIn (ty.Value (val.Primitive p)) primitives
unfolding primitives
in_primitives prim.Bool = inl refl
in_primitives prim.S8 = inr (inl refl)
in_primitives prim.U8 = inr (inr (inl refl))
in_primitives prim.S16 = inr (inr (inr (inl refl)))
in_primitives prim.U16 = inr (inr (inr (inr (inl refl))))
in_primitives prim.S32 = inr (inr (inr (inr (inr (inl refl)))))
in_primitives prim.U32 = inr (inr (inr (inr (inr (inr (inl refl))))))
in_primitives prim.S64 = inr (inr (inr (inr (inr (inr (inr (inl refl)))))))
in_primitives prim.U64 = inr (inr (inr (inr (inr (inr (inr (inr (inl refl))))))))
in_primitives prim.F32 = inr (inr (inr (inr (inr (inr (inr (inr (inr (inl refl)))))))))
in_primitives prim.F64 = inr (inr (inr (inr (inr (inr (inr (inr (inr (inr (inl refl))))))))))
in_primitives prim.Char = inr (inr (inr (inr (inr (inr (inr (inr (inr (inr (inr (inl refl)))))))))))
in_primitives prim.String = inr (inr (inr (inr (inr (inr (inr (inr (inr (inr (inr (inr (inl refl))))))))))))
in_primitives prim.ErrorContext = inr (inr (inr (inr (inr (inr (inr (inr (inr (inr (inr (inr (inr (inl refl)))))))))))))

module _ (c : Collection) where
  resources : List AnyType
  resources = positions (λ i. ty.Resource (record { 0 = i })) (length c.resources)

  owned : List AnyType
  owned = positions (λ i. ty.Value (val.Own (record { 0 = i }))) (length c.resources)

  lent : List AnyType
  lent = positions (λ i. ty.Value (val.Borrow (record { 0 = i }))) (length c.resources)

  funcs : List AnyType
  funcs = positions (λ i. ty.Func (record { 0 = i })) (length c.funcs)

  defined : List AnyType
  defined = positions (λ i. ty.Value (val.Defined (record { 0 = i }))) (length c.defined)

  interfaces : List AnyType
  interfaces = positions (λ i. ty.Interface (record { 0 = i })) (length c.interfaces)

  worlds : List AnyType
  worlds = positions (λ i. ty.World (record { 0 = i })) (length c.worlds)

  modules : List AnyType
  modules = positions (λ i. ty.Module (record { 0 = i })) (length c.modules)

  -- all that a type can be
  pub types_of : List AnyType
  types_of = primitives ++ (resources ++ (owned ++ (lent ++ (funcs ++ (defined ++ (interfaces ++ (worlds ++ modules)))))))

  -- what is held is among them
  in_types : (t : AnyType) → holds_type c t ≡ true → IsIn t types_of
  unfolding types_of resources owned lent funcs defined interfaces worlds modules
  in_types (ty.Value (val.Primitive p)) h = in_left _ primitives _ (in_primitives p)
  in_types (ty.Resource r) h = in_right _ primitives _ (in_left _ resources _ (in_positions (λ i. ty.Resource (record { 0 = i })) r.0 _ h))
  in_types (ty.Value (val.Own r)) h = in_right _ primitives _ (in_right _ resources _ (in_left _ owned _ (in_positions (λ i. ty.Value (val.Own (record { 0 = i }))) r.0 _ h)))
  in_types (ty.Value (val.Borrow r)) h = in_right _ primitives _ (in_right _ resources _ (in_right _ owned _ (in_left _ lent _ (in_positions (λ i. ty.Value (val.Borrow (record { 0 = i }))) r.0 _ h))))
  in_types (ty.Func r) h = in_right _ primitives _ (in_right _ resources _ (in_right _ owned _ (in_right _ lent _ (in_left _ funcs _ (in_positions (λ i. ty.Func (record { 0 = i })) r.0 _ h)))))
  in_types (ty.Value (val.Defined r)) h = in_right _ primitives _ (in_right _ resources _ (in_right _ owned _ (in_right _ lent _ (in_right _ funcs _ (in_left _ defined _ (in_positions (λ i. ty.Value (val.Defined (record { 0 = i }))) r.0 _ h))))))
  in_types (ty.Interface r) h = in_right _ primitives _ (in_right _ resources _ (in_right _ owned _ (in_right _ lent _ (in_right _ funcs _ (in_right _ defined _ (in_left _ interfaces _ (in_positions (λ i. ty.Interface (record { 0 = i })) r.0 _ h)))))))
  in_types (ty.World r) h = in_right _ primitives _ (in_right _ resources _ (in_right _ owned _ (in_right _ lent _ (in_right _ funcs _ (in_right _ defined _ (in_right _ interfaces _ (in_left _ worlds _ (in_positions (λ i. ty.World (record { 0 = i })) r.0 _ h))))))))
  in_types (ty.Module r) h = in_right _ primitives _ (in_right _ resources _ (in_right _ owned _ (in_right _ lent _ (in_right _ funcs _ (in_right _ defined _ (in_right _ interfaces _ (in_right _ worlds _ (in_positions (λ i. ty.Module (record { 0 = i })) r.0 _ h))))))))

-- no more are found
pub found_few : (c : Collection) (ts : List AnyType) → IsDistinct (TypeEq.ghosts).eq ts → ((t : AnyType) → IsIn t ts → holds_type c t ≡ true) → length ts ≤ length (types_of c)
found_few c ts d held = length-le_from_is_member type_laws ts (types_of c) d (λ t m. test_in t (types_of c) (in_types c t (held t (tested t ts m))))
