-- A definition is closed if all its parts are, and reaches a resource if one of them does.
use Rattle.std.specs.Prelude.{ℕ, zero, suc, ◌<◌, ◌+◌, ◌-◌, ◌≡◌, ◌==◌, Bool, true, false, List, [], ◌∷◌, ◌++◌, length, nat_eq, nat_lt, Option, Some, None, slice_get}
use Rattle.std.specs.List.{AllByRecursion}
use Rattle.std.proofs.Common.{refl, ap, ◌∙◌, sym, subst, arith, inl, inr}
use Rattle.std.proofs.lemmas.Bool.{eqb-true, lt-ltb}
use Rattle.wac_types_shapes.specs.primitives.Name.{option_case}
use Rattle.wac_types_shapes.specs.primitives.Tree.{Leaf, moved}
use Rattle.wac_types_shapes.specs.declared.shapes.component.DefinedType.{DefinedType}
use Rattle.wac_types_shapes.specs.declared.shapes.component.DefinedTypeId.{DefinedTypeId}
use Rattle.wac_types_shapes.specs.declared.shapes.component.ResourceId.{ResourceId}
use Rattle.wac_types_shapes.specs.declared.shapes.component.ValueType.{ValueType}
use Rattle.wac_types_shapes.specs.declared.shapes.component.ValueType.TheVariants as val
use Rattle.wac_types_shapes.specs.declared.shapes.component.«Type».{«Type» as AnyType}
use Rattle.wac_types_shapes.specs.declared.shapes.component.«Type».TheVariants as ty
use Rattle.wac_types_shapes.specs.primitives.Tree.{primitive}
use Rattle.wac_types_collection.specs.declared.collection.collection.Held.{Held}
use Rattle.wac_types_collection.specs.collection.Collection.{Collection, HasDefined, IsWellFormed, IsPartBelow, item_at, defined_values, defined_mentions, holds_type, value_types}
use Rattle.wac_types_collection.specs.collection.Bound.{Bindings}
use Rattle.wac_types_collection.specs.reach.Reach.{IsIn, Reaches, at_once, further, mentions}
use Rattle.wac_types_collection.proofs.lemmas.reach.Reaching.{mentioned_held}
use Rattle.wac_encode_stacks.specs.Good.{IsClosed, nothing_bound}
use Rattle.wac_encode_stacks.proofs.Moved.{held-here, moved-defined}
use Rattle.wac_encode_stacks.proofs.Unfolded.{defined_same}
use Rattle.wac_encode_stacks.proofs.Values.{held_value, defined-step, primitive-held}
use Rattle.wac_encode_scopes.specs.private.Parts.{parts}
use Rattle.wac_encode_scopes.specs.private.Closed.{bit_at, bit_or_default, SaysClosed}
use Rattle.wac_encode_scopes.specs.private.Bits.{value_bit, part_bit, SaysParts}
use Rattle.wac_encode_scopes.proofs.PartLists.{in-parts, part-below, somes-parts, somes}

-- parts that are closed have the same tree under all bindings, but for the leaves, of which they have none
parts-moved : (c : Collection) (f : Leaf → Leaf) (m' : Bindings) (vs : List ValueType) → AllByRecursion (λ v. IsClosed c (ty.Value v)) vs → AllByRecursion (λ v. held_value c m' v ≡ moved f (held_value c nothing_bound v)) vs
parts-moved c f m' [] h = tt
parts-moved c f m' (v ∷ vs) h = (
  h.0.1 f m' (λ r l e. let no_some : None ≡ Some l = e in cc) ∙ ap (moved f) (sym (held-here c nothing_bound (ty.Value v) h.0.0 h.0.1)),
  parts-moved c f m' vs h.1,
)

closed-whole : (c : Collection) → IsWellFormed c → (d : DefinedTypeId) (x : DefinedType) → item_at c.defined d.0 ≡ Some x → AllByRecursion (λ v. IsClosed c (ty.Value v)) (defined_values x) → IsClosed c (ty.Value (val.Defined d))
closed-whole c wf d x at h = (
  held_value c nothing_bound (val.Defined d),
  λ f m' k.
      defined-step c wf d x at m'
      ∙ defined_same (held_value c m') (λ v. moved f (held_value c nothing_bound v)) x (parts-moved c f m' (defined_values x) h)
      ∙ sym (moved-defined f (held_value c nothing_bound) (λ v. moved f (held_value c nothing_bound v)) x (λ v. refl))
      ∙ ap (moved f) (sym (defined-step c wf d x at nothing_bound)),
)

-- what the bits before a definition say
abbrev pub BitsSay : Collection → List Bool → Type 0
BitsSay c bits = (i : ℕ) → i < length bits → SaysClosed c (record { 0 = i }) (bit_at (slice_get bits i))

part-closed : (c : Collection) (bits : List Bool) → BitsSay c bits → (v : ValueType) → IsPartBelow (length bits) v → value_bit bits v ≡ true → IsClosed c (ty.Value v)
part-closed c bits say (val.Primitive p) b is = (primitive p, primitive-held c nothing_bound p)
part-closed c bits say (val.Own r) b is = let both : false ≡ true = is in cc
part-closed c bits say (val.Borrow r) b is = let both : false ≡ true = is in cc
part-closed c bits say (val.Defined d) b is = subst (SaysClosed c d) is (say d.0 b)

value-in : (vs : List ValueType) (os : List (Option ValueType)) (k : ℕ) (v : ValueType) → vs ≡ somes os → slice_get os k ≡ Some (Some v) → IsIn (ty.Value v) (value_types vs)
value-in vs os k v is at = subst (λ (ws : List ValueType). IsIn (ty.Value v) (value_types ws)) (sym is) (among os k at)
  where
    among : (os : List (Option ValueType)) (k : ℕ) → slice_get os k ≡ Some (Some v) → IsIn (ty.Value v) (value_types (somes os))
    among [] k e = let no_some : None ≡ Some (Some v) = e in cc
    among (None ∷ os) zero e = let no_some : None ≡ Some v = cc in cc
    among (None ∷ os) (suc k) e = among os k e
    among (Some w ∷ os) zero e = let is : v ≡ w = cc in inl (ap ty.Value is)
    among (Some w ∷ os) (suc k) e = inr (among os k e)

part-mentioned : (c : Collection) (d : DefinedTypeId) (x : DefinedType) (k : ℕ) (v : ValueType) → item_at c.defined d.0 ≡ Some x → slice_get (parts x) k ≡ Some (Some v) → IsIn (ty.Value v) (mentions c (ty.Value (val.Defined d)))
part-mentioned c d x k v at part = subst (λ (o : Option DefinedType). IsIn (ty.Value v) (option_case o [] defined_mentions)) (sym at) (value-in (defined_values x) (parts x) k v (somes-parts x) part)

reaches-by : (c : Collection) (bits : List Bool) → BitsSay c bits → (a : AnyType) (v : ValueType) → IsPartBelow (length bits) v → value_bit bits v ≡ false → IsIn (ty.Value v) (mentions c a) → (r : ResourceId) × Reaches c a (ty.Resource r)
reaches-by c bits say a (val.Primitive p) b is here = let both : true ≡ false = is in cc
reaches-by c bits say a (val.Own r) b is here = (r, further a (ty.Value (val.Own r)) (ty.Resource r) here (at_once (ty.Value (val.Own r)) (ty.Resource r) (inl refl)))
reaches-by c bits say a (val.Borrow r) b is here = (r, further a (ty.Value (val.Borrow r)) (ty.Resource r) here (at_once (ty.Value (val.Borrow r)) (ty.Resource r) (inl refl)))
reaches-by c bits say a (val.Defined d) b is here = let far = subst (SaysClosed c d) is (say d.0 b) in (far.0, further a (ty.Value (val.Defined d)) (ty.Resource far.0) here far.1)

says-one : (c : Collection) → IsWellFormed c → (bits : List Bool) (x : DefinedType) (b : Bool) → BitsSay c bits → item_at c.defined (length bits) ≡ Some x → SaysParts bits x b → SaysClosed c (record { 0 = length bits }) b
says-one c wf bits x true say at h = closed-whole c wf (record { 0 = length bits }) x at (in-parts (λ v. IsClosed c (ty.Value v)) x (λ k v part. part-closed c bits say v (part-below c wf (record { 0 = length bits }) x k v at part) (h k v part)))
says-one c wf bits x false say at h = reaches-by c bits say (ty.Value (val.Defined (record { 0 = length bits }))) h.1 (part-below c wf (record { 0 = length bits }) x h.0 h.1 at h.2) h.3 (part-mentioned c (record { 0 = length bits }) x h.0 h.1 at h.2)

-- one more bit

pub bit-before : (bits : List Bool) (b : Bool) (i : ℕ) → i < length bits → slice_get (bits ++ b ∷ []) i ≡ slice_get bits i
bit-before [] b i lt = absurd (omega (arith, lt))
bit-before (x ∷ bits) b zero lt = refl
bit-before (x ∷ bits) b (suc i) lt = bit-before bits b i (omega (arith, lt))

pub bit-last : (bits : List Bool) (b : Bool) → slice_get (bits ++ b ∷ []) (length bits) ≡ Some b
bit-last [] b = refl
bit-last (x ∷ bits) b = bit-last bits b

pub one-longer : (bits : List Bool) (b : Bool) → length (bits ++ b ∷ []) ≡ suc (length bits)
one-longer [] b = refl
one-longer (x ∷ bits) b = ap suc (one-longer bits b)

pub says-more : (c : Collection) → IsWellFormed c → (bits more : List Bool) (x : DefinedType) (b : Bool) → more ≡ bits ++ b ∷ [] → BitsSay c bits → item_at c.defined (length bits) ≡ Some x → SaysParts bits x b → BitsSay c more
says-more c wf bits more x b is say at h = subst (BitsSay c) (sym is) (λ i lt. by_place i lt (nat_eq i (length bits)) refl)
  where
    by_place : (i : ℕ) → i < length (bits ++ b ∷ []) → (t : Bool) → nat_eq i (length bits) ≡ t → SaysClosed c (record { 0 = i }) (bit_at (slice_get (bits ++ b ∷ []) i))
    by_place i lt true same =
        let here : length bits ≡ i = grind arith in
        subst (λ (n : ℕ). SaysClosed c (record { 0 = n }) (bit_at (slice_get (bits ++ b ∷ []) n))) here (subst (λ (o : Option Bool). SaysClosed c (record { 0 = length bits }) (bit_at o)) (sym (bit-last bits b)) (says-one c wf bits x b say at h))
    by_place i lt false other =
        let n = one-longer bits b in
        let ne : (i ≡ length bits) → ⊥ = grind arith in
        let below : i < length bits = grind (arith, lt, n, other) in
        subst (λ (o : Option Bool). SaysClosed c (record { 0 = i }) (bit_at o)) (sym (bit-before bits b i below)) (say i below)

pub none-said : (c : Collection) (bits : List Bool) → bits ≡ [] → BitsSay c bits
none-said c bits is i lt = let low = subst (λ (bs : List Bool). i < length bs) is lt in absurd (omega (arith, low))

pub fewer-left : (n : ℕ) (bits more : List Bool) (b : Bool) → more ≡ bits ++ b ∷ [] → nat_lt (length bits) n ≡ true → n - length more < n - length bits
fewer-left n bits more b is h =
    let long = ap (λ (bs : List Bool). length bs) is ∙ one-longer bits b in
    let lt : length bits < n = grind (arith, h) in
    omega (arith, long, lt)

pub all-said : (c : Collection) (bits : List Bool) → nat_lt (length bits) (length c.defined) ≡ false → BitsSay c bits → (d : DefinedTypeId) → HasDefined c d → SaysClosed c d (bit_at (slice_get bits d.0))
all-said c bits h say d held = let lt : d.0 < length bits = grind (arith, h, held) in say d.0 lt

-- without resources each definition is closed

no-resource : (c : Collection) (r : ResourceId) → length c.resources ≡ 0 → nat_lt r.0 (length c.resources) ≡ true → ⊥
no-resource c r none held = let low : r.0 < length c.resources = grind (arith, held) in omega (arith, low, none)

closed-value : (c : Collection) → length c.resources ≡ 0 → (n : ℕ) → ((d : DefinedTypeId) → d.0 < n → HasDefined c d → IsClosed c (ty.Value (val.Defined d))) → (v : ValueType) → IsPartBelow n v → holds_type c (ty.Value v) ≡ true → IsClosed c (ty.Value v)
closed-value c none n before (val.Primitive p) b held = (primitive p, primitive-held c nothing_bound p)
closed-value c none n before (val.Own r) b held = absurd (no-resource c r none held)
closed-value c none n before (val.Borrow r) b held = absurd (no-resource c r none held)
closed-value c none n before (val.Defined d) b held = let has : d.0 < length c.defined = grind (arith, held) in before d b has

item-there : (xs : List (Held DefinedType)) (i : ℕ) → i < length xs → (x : DefinedType) × (item_at xs i ≡ Some x)
item-there [] i low = absurd (omega (arith, low))
item-there (h ∷ xs) zero low = (h.item, refl)
item-there (h ∷ xs) (suc i) low = item-there xs i (omega (arith, low))

closed-before : (c : Collection) → IsWellFormed c → length c.resources ≡ 0 → (n : ℕ) (d : DefinedTypeId) → d.0 < n → HasDefined c d → IsClosed c (ty.Value (val.Defined d))
closed-before c wf none zero d low has = absurd (omega (arith, low))
closed-before c wf none (suc n) d low has =
    let (x, at) = item-there c.defined d.0 has in
    let held = lt-ltb d.0 (length c.defined) has in
    closed-whole c wf d x at (in-parts (λ v. IsClosed c (ty.Value v)) x (λ k v part.
    closed-value c none d.0 (λ e lt h. closed-before c wf none n e (omega (arith, lt, low)) h) v (part-below c wf d x k v at part)
    (mentioned_held c wf (ty.Value (val.Defined d)) (ty.Value v) held (part-mentioned c d x k v at part))))

pub none-open : (c : Collection) → IsWellFormed c → (length c.resources == 0) ≡ true → (bits : List Bool) → bits ≡ [] → (d : DefinedTypeId) → HasDefined c d → SaysClosed c d (bit_or_default true (slice_get bits d.0))
none-open c wf none bits is d has = subst (λ (bs : List Bool). SaysClosed c d (bit_or_default true (slice_get bs d.0))) (sym is) (closed-before c wf (eqb-true (length c.resources) 0 none) (suc d.0) d (omega arith) has)

-- parts by positions

pub before-none : {A : Type 0} (xs : List A) (n k : ℕ) (x : A) → slice_get xs n ≡ None → slice_get xs k ≡ Some x → k < n
before-none [] n k x none at = let no_some : None ≡ Some x = at in cc
before-none (y ∷ xs) zero k x none at = let no_some : Some y ≡ None = none in cc
before-none (y ∷ xs) (suc n) zero x none at = omega arith
before-none (y ∷ xs) (suc n) (suc k) x none at = let below = before-none xs n k x none at in omega (arith, below)

-- the parts so far and the next one
pub more-closed : (bits : List Bool) (x : DefinedType) (p : Option ValueType) (n : ℕ) → slice_get (parts x) n ≡ Some p → part_bit bits p ≡ true → ((k : ℕ) (v : ValueType) → k < n → slice_get (parts x) k ≡ Some (Some v) → value_bit bits v ≡ true)
    → (k : ℕ) (v : ValueType) → k < n + 1 → slice_get (parts x) k ≡ Some (Some v) → value_bit bits v ≡ true
more-closed bits x p n at is before k v lt part = by_place (nat_eq k n) refl
  where
    by_place : (t : Bool) → nat_eq k n ≡ t → value_bit bits v ≡ true
    by_place true same = let here : n ≡ k = grind arith in let both : Some p ≡ Some (Some v) = sym at ∙ ap (slice_get (parts x)) here ∙ part in let one : p ≡ Some v = cc in subst (λ (o : Option ValueType). part_bit bits o ≡ true) one is
    by_place false other = let below : k < n = grind (arith, lt, other) in before k v below part

pub says-open : (bits : List Bool) (x : DefinedType) (p : Option ValueType) (n : ℕ) → slice_get (parts x) n ≡ Some p → part_bit bits p ≡ false → SaysParts bits x false
says-open bits x None n at is = let both : true ≡ false = is in cc
says-open bits x (Some v) n at is = (n, v, at, is)
