-- None of some resources is free in a definition if that holds for its parts, and one is if that holds for a part.
use Rattle.std.specs.Prelude.{ℕ, zero, suc, ◌+◌, ◌<◌, ◌≤◌, ◌≡◌, ◌⊎◌, Bool, true, false, not, List, [], ◌∷◌, ◌++◌, length, nat_eq, nat_lt, Option, Some, None, slice_get, Contains}
use Rattle.std.specs.List.{AllByRecursion, list_all}
use Rattle.std.proofs.Common.{refl, ap, ◌∙◌, sym, subst, arith, inl, inr}
use Rattle.wac_types_shapes.specs.primitives.Name.{Name, option_case}
use Rattle.wac_types_shapes.specs.declared.shapes.component.DefinedType.{DefinedType}
use Rattle.wac_types_shapes.specs.declared.shapes.component.DefinedTypeId.{DefinedTypeId}
use Rattle.wac_types_shapes.specs.declared.shapes.component.InterfaceId.{InterfaceId}
use Rattle.wac_types_shapes.specs.declared.shapes.component.ItemKind.{ItemKind}
use Rattle.wac_types_shapes.specs.declared.shapes.component.ResourceId.{ResourceId}
use Rattle.wac_types_shapes.specs.declared.shapes.component.ValueType.{ValueType}
use Rattle.wac_types_shapes.specs.declared.shapes.component.ValueType.TheVariants as val
use Rattle.wac_types_shapes.specs.declared.shapes.component.«Type».{«Type» as AnyType}
use Rattle.wac_types_shapes.specs.declared.shapes.component.«Type».TheVariants as ty
use Rattle.wac_types_collection.specs.collection.Collection.{Collection, HasDefined, IsWellFormed, IsPartBelow, holds_type, item_at, kind_types, defined_values, defined_mentions, value_types}
use Rattle.wac_types_collection.specs.collection.Bound.{Bindings}
use Rattle.wac_types_collection.specs.collection.Held.{resolved}
use Rattle.wac_types_collection.proofs.lemmas.wide.Members.{in_at, in_first, in_none, in_one, in_parts, in_rest}
use Rattle.wac_encode_faults.specs.Free as free
use Rattle.wac_encode_faults.specs.Free.{IsFree}
use Rattle.wac_encode_stacks.specs.Good.{Holds, IsClosed, nothing_bound}
use Rattle.wac_encode_stacks.specs.Instances.{IsApart}
use Rattle.wac_encode_stacks.proofs.HeldParts.{handles-are-bound, holds-parts}
use Rattle.wac_encode_scopes.specs.declared.closed.ClosedTypes.{ClosedTypes}
use Rattle.wac_encode_scopes.specs.private.Parts.{parts}
use Rattle.wac_encode_scopes.specs.private.Closed.{AllAreOf, AreApartItems, AreApartTypes, AreClosedTypes, SaysApart, SaysClosed, bit_at, is_closed_in}
use Rattle.wac_encode_scopes.specs.private.Bits.{SaysApartParts, apart_part_bit, apart_value_bit}
use Rattle.wac_encode_scopes.specs.private.Telling.{definition_in, is_one_of}
use Rattle.wac_encode_scopes.proofs.ClosedBits.{bit-before, bit-last, one-longer}
use Rattle.wac_encode_scopes.proofs.FreeAgreeing.{held-agree}
use Rattle.wac_encode_scopes.proofs.ItemDefinitions.{definition-has}
use Rattle.wac_encode_scopes.proofs.PartLists.{in-parts, part-below, somes, somes-parts}

-- what is free in a type is the type itself, or is free in a part

abbrev IsEnd : Collection → AnyType → ResourceId → Type 0
IsEnd c t r = (q : ResourceId) × (t ≡ ty.Resource q) × (r ≡ resolved c q)

abbrev IsInPart : Collection → AnyType → ResourceId → Type 0
IsInPart c t r = (u : AnyType) × Contains (free.parts c t) u × IsFree c u r

inverted : (c : Collection) (t : AnyType) (r : ResourceId) → ((i : InterfaceId) → t ≡ ty.Interface i → ⊥) → IsFree c t r → IsEnd c t r ⊎ IsInPart c t r
inverted c _ _ other (free.itself q) = inl (q, refl, refl)
inverted c t r other (free.in_part _ u _ there f) = inr (u, there, f)
inverted c _ r other (free.in_export i it n k _ at there own f) = absurd (other i refl)

free-resource : (c : Collection) (q r : ResourceId) → IsFree c (ty.Resource q) r → r ≡ resolved c q
free-resource c q r f = elim (inverted c (ty.Resource q) r (λ i is. let no : ty.Resource q ≡ ty.Interface i = is in cc) f) [
  | inl w ↦ w.2 ∙ ap (resolved c) (same w.0 w.1)
  | inr w ↦ absurd (in_none w.0 w.1)
]
  where
    same : (p : ResourceId) → ty.Resource q ≡ ty.Resource p → p ≡ q
    same p is = cc

free-value : (c : Collection) (v : ValueType) (r : ResourceId) → IsFree c (ty.Value v) r → IsInPart c (ty.Value v) r
free-value c v r f = elim (inverted c (ty.Value v) r (λ i is. let no : ty.Value v ≡ ty.Interface i = is in cc) f) [
  | inl w ↦ absurd (wrong w.0 w.1)
  | inr w ↦ w
]
  where
    wrong : (q : ResourceId) → ty.Value v ≡ ty.Resource q → ⊥
    wrong q is = cc

free-handle : (c : Collection) (v : ValueType) (q r : ResourceId) → free.parts c (ty.Value v) ≡ ty.Resource q ∷ [] → IsFree c (ty.Value v) r → r ≡ resolved c q
free-handle c v q r is f =
    let w = free-value c v r f in
    free-resource c q r (subst (λ (u : AnyType). IsFree c u r) (in_one (ty.Resource q) w.0 (subst (λ (us : List AnyType). Contains us w.0) is w.1)) w.2)

-- the parts of a definition

values-apart : (c : Collection) (these : ResourceId → Bool) (vs : List ValueType) → AllByRecursion (λ v. (r : ResourceId) → IsFree c (ty.Value v) r → these r ≡ false) vs → (u : AnyType) → Contains (value_types vs) u → (r : ResourceId) → IsFree c u r → these r ≡ false
values-apart c these [] h u there r f = absurd (in_none u there)
values-apart c these (v ∷ vs) h u there r f = elim (in_parts (ty.Value v) u (value_types vs) there) [
  | inl is ↦ h.0 r (subst (λ (z : AnyType). IsFree c z r) is f)
  | inr more ↦ values-apart c these vs h.1 u more r f
]

definition-apart : (c : Collection) (these : ResourceId → Bool) (d : DefinedTypeId) (x : DefinedType) → item_at c.defined d.0 ≡ Some x → AllByRecursion (λ v. (r : ResourceId) → IsFree c (ty.Value v) r → these r ≡ false) (defined_values x) → SaysApart c these d true
definition-apart c these d x at h r f =
    let w = free-value c (val.Defined d) r f in
    values-apart c these (defined_values x) h w.0 (subst (λ (o : Option DefinedType). Contains (option_case o [] defined_mentions) w.0) at w.1) r w.2

value-there : (os : List (Option ValueType)) (k : ℕ) (v : ValueType) → slice_get os k ≡ Some (Some v) → Contains (value_types (somes os)) (ty.Value v)
value-there [] k v e = let no_some : None ≡ Some (Some v) = e in cc
value-there (None ∷ os) zero v e = let no_some : None ≡ Some v = cc in cc
value-there (None ∷ os) (suc k) v e = value-there os k v e
value-there (Some w ∷ os) zero v e = let is : w ≡ v = cc in subst (λ (z : ValueType). Contains (value_types (z ∷ somes os)) (ty.Value v)) (sym is) (in_first (ty.Value v) (value_types (somes os)))
value-there (Some w ∷ os) (suc k) v e = in_rest (ty.Value w) (ty.Value v) (value_types (somes os)) (value-there os k v e)

part-there : (c : Collection) (d : DefinedTypeId) (x : DefinedType) (k : ℕ) (v : ValueType) → item_at c.defined d.0 ≡ Some x → slice_get (parts x) k ≡ Some (Some v) → Contains (free.parts c (ty.Value (val.Defined d))) (ty.Value v)
part-there c d x k v at part =
    subst (λ (o : Option DefinedType). Contains (option_case o [] defined_mentions) (ty.Value v)) (sym at)
    (subst (λ (vs : List ValueType). Contains (value_types vs) (ty.Value v)) (sym (somes-parts x)) (value-there (parts x) k v part))

-- what the bits before a definition say

abbrev pub BitsSayApart : Collection → (ResourceId → Bool) → List Bool → Type 0
BitsSayApart c these bits = (i : ℕ) → i < length bits → SaysApart c these (record { 0 = i }) (bit_at (slice_get bits i))

not-true : (b : Bool) → not b ≡ true → b ≡ false
not-true false h = refl
not-true true h = let both : false ≡ true = h in cc

not-false : (b : Bool) → not b ≡ false → b ≡ true
not-false true h = refl
not-false false h = let both : true ≡ false = h in cc

part-apart : (c : Collection) (these : ResourceId → Bool) (bits : List Bool) → BitsSayApart c these bits → (v : ValueType) → IsPartBelow (length bits) v → apart_value_bit c these bits v ≡ true → (r : ResourceId) → IsFree c (ty.Value v) r → these r ≡ false
part-apart c these bits say (val.Primitive p) b is r f = let w = free-value c (val.Primitive p) r f in absurd (in_none w.0 w.1)
part-apart c these bits say (val.Own q) b is r f = ap these (free-handle c (val.Own q) q r refl f) ∙ not-true (these (resolved c q)) is
part-apart c these bits say (val.Borrow q) b is r f = ap these (free-handle c (val.Borrow q) q r refl f) ∙ not-true (these (resolved c q)) is
part-apart c these bits say (val.Defined d) b is r f = subst (SaysApart c these d) is (say d.0 b) r f

abbrev HasFreeOne : Collection → (ResourceId → Bool) → AnyType → Type 0
HasFreeOne c these t = (r : ResourceId) × IsFree c t r × (these r ≡ true)

part-open : (c : Collection) (these : ResourceId → Bool) (bits : List Bool) → BitsSayApart c these bits → (v : ValueType) → IsPartBelow (length bits) v → apart_value_bit c these bits v ≡ false → HasFreeOne c these (ty.Value v)
part-open c these bits say (val.Primitive p) b is = let both : true ≡ false = is in cc
part-open c these bits say (val.Own q) b is = (resolved c q, free.in_part (ty.Value (val.Own q)) (ty.Resource q) (resolved c q) (in_first (ty.Resource q) []) (free.itself q), not-false (these (resolved c q)) is)
part-open c these bits say (val.Borrow q) b is = (resolved c q, free.in_part (ty.Value (val.Borrow q)) (ty.Resource q) (resolved c q) (in_first (ty.Resource q) []) (free.itself q), not-false (these (resolved c q)) is)
part-open c these bits say (val.Defined d) b is = subst (SaysApart c these d) is (say d.0 b)

says-one : (c : Collection) → IsWellFormed c → (these : ResourceId → Bool) (bits : List Bool) (x : DefinedType) (b : Bool) → BitsSayApart c these bits → item_at c.defined (length bits) ≡ Some x → SaysApartParts c these bits x b → SaysApart c these (record { 0 = length bits }) b
says-one c wf these bits x true say at h =
    definition-apart c these (record { 0 = length bits }) x at
    (in-parts (λ v. (r : ResourceId) → IsFree c (ty.Value v) r → these r ≡ false) x (λ k v part. part-apart c these bits say v (part-below c wf (record { 0 = length bits }) x k v at part) (h k v part)))
says-one c wf these bits x false say at h =
    let w = part-open c these bits say h.1 (part-below c wf (record { 0 = length bits }) x h.0 h.1 at h.2) h.3 in
    (w.0, free.in_part (ty.Value (val.Defined (record { 0 = length bits }))) (ty.Value h.1) w.0 (part-there c (record { 0 = length bits }) x h.0 h.1 at h.2) w.1, w.2)

pub apart-more : (c : Collection) → IsWellFormed c → (these : ResourceId → Bool) (bits more : List Bool) (x : DefinedType) (b : Bool) → more ≡ bits ++ b ∷ [] → BitsSayApart c these bits → item_at c.defined (length bits) ≡ Some x → SaysApartParts c these bits x b → BitsSayApart c these more
apart-more c wf these bits more x b is say at h = subst (BitsSayApart c these) (sym is) (λ i lt. by_place i lt (nat_eq i (length bits)) refl)
  where
    by_place : (i : ℕ) → i < length (bits ++ b ∷ []) → (t : Bool) → nat_eq i (length bits) ≡ t → SaysApart c these (record { 0 = i }) (bit_at (slice_get (bits ++ b ∷ []) i))
    by_place i lt true same =
        let here : length bits ≡ i = grind arith in
        subst (λ (n : ℕ). SaysApart c these (record { 0 = n }) (bit_at (slice_get (bits ++ b ∷ []) n))) here (subst (λ (o : Option Bool). SaysApart c these (record { 0 = length bits }) (bit_at o)) (sym (bit-last bits b)) (says-one c wf these bits x b say at h))
    by_place i lt false other =
        let n = one-longer bits b in
        let ne : (i ≡ length bits) → ⊥ = grind arith in
        let below : i < length bits = grind (arith, lt, n, other) in
        subst (λ (o : Option Bool). SaysApart c these (record { 0 = i }) (bit_at o)) (sym (bit-before bits b i below)) (say i below)

pub none-apart : (c : Collection) (these : ResourceId → Bool) (bits : List Bool) → bits ≡ [] → BitsSayApart c these bits
none-apart c these bits is i lt = let low = subst (λ (bs : List Bool). i < length bs) is lt in absurd (omega (arith, low))

pub all-apart : (c : Collection) (these : ResourceId → Bool) (bits : List Bool) → nat_lt (length bits) (length c.defined) ≡ false → BitsSayApart c these bits → (d : DefinedTypeId) → HasDefined c d → SaysApart c these d (bit_at (slice_get bits d.0))
all-apart c these bits h say d held = let lt : d.0 < length bits = grind (arith, h, held) in say d.0 lt

-- parts by positions

pub more-apart : (c : Collection) (these : ResourceId → Bool) (bits : List Bool) (x : DefinedType) (p : Option ValueType) (n : ℕ) → slice_get (parts x) n ≡ Some p → apart_part_bit c these bits p ≡ true → ((k : ℕ) (v : ValueType) → k < n → slice_get (parts x) k ≡ Some (Some v) → apart_value_bit c these bits v ≡ true)
    → (k : ℕ) (v : ValueType) → k < n + 1 → slice_get (parts x) k ≡ Some (Some v) → apart_value_bit c these bits v ≡ true
more-apart c these bits x p n at is before k v lt part = by_place (nat_eq k n) refl
  where
    by_place : (t : Bool) → nat_eq k n ≡ t → apart_value_bit c these bits v ≡ true
    by_place true same = let here : n ≡ k = grind arith in let both : Some p ≡ Some (Some v) = sym at ∙ ap (slice_get (parts x)) here ∙ part in let one : p ≡ Some v = cc in subst (λ (o : Option ValueType). apart_part_bit c these bits o ≡ true) one is
    by_place false other = let below : k < n = grind (arith, lt, other) in before k v below part

pub says-apart-open : (c : Collection) (these : ResourceId → Bool) (bits : List Bool) (x : DefinedType) (p : Option ValueType) (n : ℕ) → slice_get (parts x) n ≡ Some p → apart_part_bit c these bits p ≡ false → SaysApartParts c these bits x false
says-apart-open c these bits x None n at is = let both : true ≡ false = is in cc
says-apart-open c these bits x (Some v) n at is = (n, v, at, is)

-- nothing is free in a definition that mentions no resource

pick : (c : Collection) (m : Bindings) (vs : List ValueType) → AllByRecursion (λ v. Holds c m (ty.Value v)) vs → (u : AnyType) → Contains (value_types vs) u → (v : ValueType) × (u ≡ ty.Value v) × Holds c m (ty.Value v)
pick c m [] h u there = absurd (in_none u there)
pick c m (v ∷ vs) h u there = elim (in_parts (ty.Value v) u (value_types vs) there) [
  | inl is ↦ (v, is, h.0)
  | inr more ↦ pick c m vs h.1 u more
]

held-part : (c : Collection) → IsWellFormed c → (m : Bindings) (d : DefinedTypeId) → Holds c m (ty.Value (val.Defined d)) → (u : AnyType) → Contains (free.parts c (ty.Value (val.Defined d))) u → (v : ValueType) × (u ≡ ty.Value v) × Holds c m (ty.Value v)
held-part c wf m d h u there = by (item_at c.defined d.0) refl there
  where
    by : (o : Option DefinedType) → item_at c.defined d.0 ≡ o → Contains (option_case o [] defined_mentions) u → (v : ValueType) × (u ≡ ty.Value v) × Holds c m (ty.Value v)
    by None at w = absurd (in_none u w)
    by (Some x) at w = pick c m (defined_values x) (holds-parts c wf m d x at h) u w

closed-free : (c : Collection) → IsWellFormed c → (t : AnyType) (r : ResourceId) → IsFree c t r → (v : ValueType) → t ≡ ty.Value v → IsClosed c (ty.Value v) → ⊥
closed-free c wf _ _ (free.itself q) v is h = let no : ty.Resource q ≡ ty.Value v = is in cc
closed-free c wf _ r (free.in_export i it n k _ at there own f) v is h = let no : ty.Interface i ≡ ty.Value v = is in cc
closed-free c wf t r (free.in_part _ u _ there f) (val.Primitive p) is h = in_none u (subst (λ (z : AnyType). Contains (free.parts c z) u) is there)
closed-free c wf t r (free.in_part _ u _ there f) (val.Own q) is h = let b = (handles-are-bound c nothing_bound q).0 h in let no_some : None ≡ Some b.0 = b.1 in cc
closed-free c wf t r (free.in_part _ u _ there f) (val.Borrow q) is h = let b = (handles-are-bound c nothing_bound q).1 h in let no_some : None ≡ Some b.0 = b.1 in cc
closed-free c wf t r (free.in_part _ u _ there f) (val.Defined d) is h =
    let w = held-part c wf nothing_bound d h u (subst (λ (z : AnyType). Contains (free.parts c z) u) is there) in
    closed-free c wf u r f w.0 w.1 w.2

pub closed-apart : (c : Collection) → IsWellFormed c → (these : ResourceId → Bool) (d : DefinedTypeId) → SaysClosed c d true → SaysApart c these d true
closed-apart c wf these d closed r f = absurd (closed-free c wf (ty.Value (val.Defined d)) r f (val.Defined d) refl closed)

-- what is apart from these resources does not depend on them
pub does-not-depend : (c : Collection) (these : ResourceId → Bool) (d : DefinedTypeId) → SaysApart c these d true → IsApart c these (ty.Value (val.Defined d))
does-not-depend c these d says m n same = held-agree c m n (ty.Value (val.Defined d)) (λ r f. same r (says r f))

-- the definitions of items

pub none-of-these : (c : Collection) (es : List (Name × ItemKind)) (rs : List ResourceId) → length rs ≡ 0 → (x : ClosedTypes) → ((d : DefinedTypeId) → is_closed_in x d ≡ true) → AreApartItems c es (is_one_of rs) (is_closed_in x)
none-of-these c es [] none x all e d there is = subst (SaysApart c (is_one_of []) d) (sym (all d)) (λ r f. refl)
none-of-these c es (r ∷ rs) none x all e d there is = let long : suc (length rs) ≡ zero = none in absurd (omega (arith, long))

pub closed-items : (c : Collection) → IsWellFormed c → (es : List (Name × ItemKind)) → list_all (holds_type c) (kind_types es) ≡ true → (these : ResourceId → Bool) (closed x : ClosedTypes) → AreClosedTypes c closed → AllAreOf c es (is_closed_in closed) → ((d : DefinedTypeId) → is_closed_in x d ≡ true) → AreApartItems c es these (is_closed_in x)
closed-items c wf es held these closed x are among all e d there is =
    subst (SaysApart c these d) (sym (all d)) (closed-apart c wf these d (subst (SaysClosed c d) (among e d there is) (are d (definition-has c wf es held e d there is))))

pub apart-items : (c : Collection) → IsWellFormed c → (es : List (Name × ItemKind)) → list_all (holds_type c) (kind_types es) ≡ true → (these : ResourceId → Bool) (x : ClosedTypes) → AreApartTypes c these x → AreApartItems c es these (is_closed_in x)
apart-items c wf es held these x are e d there is = are d (definition-has c wf es held e d there is)

-- one more item

pub among-next : (c : Collection) (es : List (Name × ItemKind)) (test : DefinedTypeId → Bool) (i k : ℕ) (x : Name × ItemKind) → k ≡ suc i → slice_get es i ≡ Some x → option_case (definition_in c x) true test ≡ true
    → ((j : ℕ) (e : Name × ItemKind) (d : DefinedTypeId) → j < i → slice_get es j ≡ Some e → definition_in c e ≡ Some d → test d ≡ true)
    → (j : ℕ) (e : Name × ItemKind) (d : DefinedTypeId) → j < k → slice_get es j ≡ Some e → definition_in c e ≡ Some d → test d ≡ true
among-next c es test i k x one at passes before j e d low there is = by_place (nat_eq j i) refl
  where
    by_place : (t : Bool) → nat_eq j i ≡ t → test d ≡ true
    by_place true same =
        let here : i ≡ j = grind arith in
        let both : Some x ≡ Some e = sym at ∙ ap (slice_get es) here ∙ there in
        let item : x ≡ e = cc in
        sym (ap (λ (o : Option DefinedTypeId). option_case o true test) (ap (definition_in c) item ∙ is)) ∙ passes
    by_place false other = let below : j < i = grind (arith, low, other, one) in before j e d below there is

pub all-among : (c : Collection) (es : List (Name × ItemKind)) (test : DefinedTypeId → Bool) (i : ℕ) → length es ≤ i → ((j : ℕ) (e : Name × ItemKind) (d : DefinedTypeId) → j < i → slice_get es j ≡ Some e → definition_in c e ≡ Some d → test d ≡ true) → AllAreOf c es test
all-among c es test i past each e d there is = let (j, low, at) = in_at es e there in each j e d (omega (arith, low, past)) at is
