-- The parts of a definition by their positions are the value types in it, and their ends are before it.
use Rattle.std.specs.Prelude.{ℕ, zero, suc, ◌<◌, ◌≡◌, List, [], ◌∷◌, map, Option, Some, None, slice_get}
use Rattle.std.specs.List.{AllByRecursion}
use Rattle.std.proofs.Common.{refl, ap, sym, subst, arith}
use Rattle.wac_types_shapes.specs.primitives.Name.{Name, option_case}
use Rattle.wac_types_shapes.specs.declared.shapes.component.DefinedType.{DefinedType}
use Rattle.wac_types_shapes.specs.declared.shapes.component.DefinedType.TheVariants as def
use Rattle.wac_types_shapes.specs.declared.shapes.component.DefinedTypeId.{DefinedTypeId}
use Rattle.wac_types_shapes.specs.declared.shapes.component.ValueType.{ValueType}
use Rattle.wac_types_shapes.specs.declared.shapes.component.ValueType.TheVariants as val
use Rattle.wac_types_collection.specs.declared.collection.collection.Held.{Held}
use Rattle.wac_types_collection.specs.collection.Collection.{Collection, IsWellFormed, IsPartBelow, and_maybe, case_values, seconds, defined_values, item_at, item_of, size}
use Rattle.wac_types_collection.specs.collection.Aliases.{aliased, value_resolved, value_resolved_in}
use Rattle.wac_encode_scopes.specs.private.Parts.{parts, some_of, second_of, some_second_of}

-- the parts that there are
abbrev pub somes : List (Option ValueType) → List ValueType
somes [] = []
somes (o ∷ os) = and_maybe o (somes os)

somes-values : (vs : List ValueType) → vs ≡ somes (map some_of vs)
somes-values [] = refl
somes-values (v ∷ vs) = ap (λ (ws : List ValueType). v ∷ ws) (somes-values vs)

somes-cases : (es : List (Name × Option ValueType)) → case_values es ≡ somes (map second_of es)
somes-cases [] = refl
somes-cases (e ∷ es) = ap (and_maybe e.1) (somes-cases es)

somes-fields : (es : List (Name × ValueType)) → seconds es ≡ somes (map some_second_of es)
somes-fields [] = refl
somes-fields (e ∷ es) = ap (λ (ws : List ValueType). e.1 ∷ ws) (somes-fields es)

pub somes-parts : (x : DefinedType) → defined_values x ≡ somes (parts x)
somes-parts (def.Tuple vs) = somes-values vs
somes-parts (def.Variant v) = somes-cases v.cases
somes-parts (def.Record r) = somes-fields r.fields
somes-parts (def.List v) = refl
somes-parts (def.FixedSizeList v n) = refl
somes-parts (def.Option v) = refl
somes-parts (def.Result ok err) = refl
somes-parts (def.Flags names) = refl
somes-parts (def.Enum names) = refl
somes-parts (def.Alias v) = refl
somes-parts (def.Stream v) = refl
somes-parts (def.Future v) = refl

all-somes : (P : ValueType → Type 0) (os : List (Option ValueType)) (k : ℕ) (w : ValueType) → AllByRecursion P (somes os) → slice_get os k ≡ Some (Some w) → P w
all-somes P [] k w a e = let no_some : None ≡ Some (Some w) = e in cc
all-somes P (None ∷ os) zero w a e = let no_some : None ≡ Some w = cc in cc
all-somes P (None ∷ os) (suc k) w a e = all-somes P os k w a e
all-somes P (Some v ∷ os) zero w a e = let is : v ≡ w = cc in subst P is a.0
all-somes P (Some v ∷ os) (suc k) w a e = all-somes P os k w a.1 e

-- what holds of all value types in a definition holds of each part, and the other way round
pub part-in : (P : ValueType → Type 0) (x : DefinedType) (k : ℕ) (w : ValueType) → AllByRecursion P (defined_values x) → slice_get (parts x) k ≡ Some (Some w) → P w
part-in P x k w a e = all-somes P (parts x) k w (subst (λ (vs : List ValueType). AllByRecursion P vs) (somes-parts x) a) e

somes-all : (P : ValueType → Type 0) (os : List (Option ValueType)) → ((k : ℕ) (w : ValueType) → slice_get os k ≡ Some (Some w) → P w) → AllByRecursion P (somes os)
somes-all P [] h = tt
somes-all P (None ∷ os) h = somes-all P os (λ k w e. h (suc k) w e)
somes-all P (Some v ∷ os) h = (h zero v refl, somes-all P os (λ k w e. h (suc k) w e))

pub in-parts : (P : ValueType → Type 0) (x : DefinedType) → ((k : ℕ) (w : ValueType) → slice_get (parts x) k ≡ Some (Some w) → P w) → AllByRecursion P (defined_values x)
in-parts P x h = subst (λ (vs : List ValueType). AllByRecursion P vs) (sym (somes-parts x)) (somes-all P (parts x) h)

further-below : (i j : ℕ) (v : ValueType) → i < j → IsPartBelow i v → IsPartBelow j v
further-below i j (val.Defined d) l b = omega (arith, l, b)
further-below i j (val.Primitive p) l b = tt
further-below i j (val.Own r) l b = tt
further-below i j (val.Borrow r) l b = tt

by-item : (n : ℕ) (c : Collection) (i : ℕ) (d : DefinedTypeId) → d.0 < i → ((v : ValueType) → IsPartBelow i v → IsPartBelow i (value_resolved_in n c v)) → (x : DefinedType) → AllByRecursion (IsPartBelow d.0) (defined_values x) → IsPartBelow i (option_case (aliased x) (val.Defined d) (λ t. value_resolved_in n c t))
by-item n c i d b below (def.Alias v) a = below v (further-below d.0 i v b a.0)
by-item n c i d b below x a = b

by-held : (n : ℕ) (c : Collection) → IsWellFormed c → (i : ℕ) (d : DefinedTypeId) → d.0 < i → ((v : ValueType) → IsPartBelow i v → IsPartBelow i (value_resolved_in n c v)) → (o : Option (Held DefinedType)) → slice_get c.defined d.0 ≡ o → IsPartBelow i (option_case (option_case (item_of o) None aliased) (val.Defined d) (λ t. value_resolved_in n c t))
by-held n c wf i d b below None e = b
by-held n c wf i d b below (Some h) e = by-item n c i d b below h.item (wf.parts d.0 h e)

end-below : (n : ℕ) (c : Collection) → IsWellFormed c → (i : ℕ) (v : ValueType) → IsPartBelow i v → IsPartBelow i (value_resolved_in n c v)
end-below zero c wf i v b = b
end-below (suc n) c wf i (val.Primitive p) b = tt
end-below (suc n) c wf i (val.Own r) b = tt
end-below (suc n) c wf i (val.Borrow r) b = tt
end-below (suc n) c wf i (val.Defined d) b = by-held n c wf i d b (λ v. end-below n c wf i v) (slice_get c.defined d.0) refl

held-item : (o : Option (Held DefinedType)) (x : DefinedType) → item_of o ≡ Some x → (h : Held DefinedType) × (o ≡ Some h) × (h.item ≡ x)
held-item None x e = let no_some : None ≡ Some x = e in cc
held-item (Some h) x e = (h, refl, (let is : h.item ≡ x = cc in is))

-- the parts of a definition are before it
pub parts-below : (c : Collection) → IsWellFormed c → (d : DefinedTypeId) (x : DefinedType) → item_at c.defined d.0 ≡ Some x → AllByRecursion (IsPartBelow d.0) (defined_values x)
parts-below c wf d x found =
    let h = held-item (slice_get c.defined d.0) x found in
    subst (λ (y : DefinedType). AllByRecursion (IsPartBelow d.0) (defined_values y)) h.2 (wf.parts d.0 h.0 h.1)

pub part-below : (c : Collection) → IsWellFormed c → (d : DefinedTypeId) (x : DefinedType) (k : ℕ) (v : ValueType) → item_at c.defined d.0 ≡ Some x → slice_get (parts x) k ≡ Some (Some v) → IsPartBelow d.0 v
part-below c wf d x k v found at = part-in (IsPartBelow d.0) x k v (parts-below c wf d x found) at

-- and so are the definitions at the ends of their aliases
pub part-end-below : (c : Collection) → IsWellFormed c → (d : DefinedTypeId) (x : DefinedType) (k : ℕ) (v : ValueType) (e : DefinedTypeId) → item_at c.defined d.0 ≡ Some x → slice_get (parts x) k ≡ Some (Some v) → value_resolved c v ≡ val.Defined e → e.0 < d.0
part-end-below c wf d x k v e found at is = subst (IsPartBelow d.0) is (end-below (size c) c wf d.0 v (part-below c wf d x k v found at))
