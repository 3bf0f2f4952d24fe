-- Types are heavier than what they mention.
use Rattle.std.proofs.Common.{ℕ, zero, suc, true, List, [], ◌∷◌, map, ◌≡◌, ◌<◌, ◌≤◌, ◌+◌, length, refl, ap, ◌∙◌, Option, Some, None, arith, nat_lt}
use Rattle.std.specs.List.{AllByRecursion}
use Rattle.wac_types_shapes.specs.primitives.Name.{Name, option_case}
use Rattle.wac_types_shapes.specs.declared.shapes.component.FuncType.{FuncType}
use Rattle.wac_types_shapes.specs.declared.shapes.component.FuncTypeId.{FuncTypeId}
use Rattle.wac_types_shapes.specs.declared.shapes.component.DefinedType.{DefinedType}
use Rattle.wac_types_shapes.specs.declared.shapes.component.DefinedType.TheVariants as def
use Rattle.wac_types_shapes.specs.declared.shapes.component.DefinedTypeId.{DefinedTypeId}
use Rattle.wac_types_shapes.specs.declared.shapes.component.ResourceId.{ResourceId}
use Rattle.wac_types_shapes.specs.declared.shapes.component.ValueType.{ValueType}
use Rattle.wac_types_shapes.specs.declared.shapes.component.ValueType.TheVariants as val
use Rattle.wac_types_shapes.specs.declared.shapes.component.«Type».{«Type» as AnyType}
use Rattle.wac_types_shapes.specs.declared.shapes.component.«Type».TheVariants as ty
use Rattle.wac_types_collection.specs.collection.Aliases.{aliased}
use Rattle.wac_types_collection.specs.collection.Collection.{Collection, seconds, and_maybe, case_values, defined_values, func_values, value_types, func_mentions, defined_mentions, IsWellFormed, IsBefore, item_at}
use Rattle.wac_types_shapes.specs.primitives.Tree.{TypeTree, absent, own, borrow, resource}
use Rattle.wac_types_collection.specs.collection.Held.{part_at, option_tree, func_tree, defined_tree, resolved}
use Rattle.wac_types_collection.specs.subtyping.Subtype.{resource_names, type_tree}
use Rattle.wac_types.specs.private.comparison.Compare.{value_in, func_in, defined_in}
use Rattle.wac_types_collection.specs.subtyping.Ranks.{type_rank}
use Rattle.wac_types.specs.private.comparison.Weights.{total, weight, heaviest, type_weight}
use Rattle.wac_types.specs.private.comparison.Questions.{AreBelow}
use Rattle.wac_types_collection.proofs.lemmas.collection.Growth.{map_all, type_within}
use Rattle.wac_types_collection.proofs.lemmas.subtyping.Unfolding.{before_rank}
use Rattle.wac_types.proofs.lemmas.comparison.Opens.{Opens, in_case, opens_func, opens_defined, primitive_in}

pub own_in : (c : Collection) (r : ResourceId) → value_in c (val.Own r) ≡ option_case (resource_names c (resolved c r)) absent own
unfolding type_tree
own_in c r = refl

pub borrow_in : (c : Collection) (r : ResourceId) → value_in c (val.Borrow r) ≡ option_case (resource_names c (resolved c r)) absent borrow
unfolding type_tree
borrow_in c r = refl

pub resource_in : (c : Collection) (r : ResourceId) → type_tree c (ty.Resource r) ≡ option_case (resource_names c (resolved c r)) absent resource
unfolding type_tree
resource_in c r = refl

-- each is at most the sum
total_at : (n i : ℕ) (f : ℕ → ℕ) → nat_lt i n ≡ true → f i ≤ total n f
total_at zero i f h = absurd (grind arith)
total_at (suc n) zero f h = omega arith
total_at (suc n) (suc i) f h = let r = total_at n i (λ j. f (suc j)) (grind arith) in omega (arith, r)

module _ {L : Type 0} (t : ValueType → TypeTree L) (n : ℕ) where
  abbrev Light : ValueType → Type 0
  Light v = weight (t v) < n

  light_values : (vs : List ValueType) → total (length vs) (λ i. weight (part_at (map t vs) i)) < n → AllByRecursion Light vs
  light_values [] h = tt
  light_values (v ∷ vs) h = (omega (arith, h), light_values vs (omega (arith, h)))

  light_seconds : (es : List (Name × ValueType)) → total (length (map (λ e. e.0) es)) (λ i. weight (part_at (map (λ e. t e.1) es) i)) < n → AllByRecursion Light (seconds es)
  light_seconds [] h = tt
  light_seconds (e ∷ es) h = (omega (arith, h), light_seconds es (omega (arith, h)))

  light_optional : (o : Option ValueType) (vs : List ValueType) → weight (option_tree t o) < n → AllByRecursion Light vs → AllByRecursion Light (and_maybe o vs)
  light_optional None vs h r = r
  light_optional (Some v) vs h r = (h, r)

  light_cases : (es : List (Name × Option ValueType)) → total (length (map (λ e. e.0) es)) (λ i. weight (part_at (map (λ e. option_tree t e.1) es) i)) < n → AllByRecursion Light (case_values es)
  light_cases [] h = tt
  light_cases (e ∷ es) h = light_optional e.1 (case_values es) (omega (arith, h)) (light_cases es (omega (arith, h)))

  light_func : (f : FuncType) → weight (func_tree t f) ≤ n → AllByRecursion Light (func_values f)
  light_func f h = light_optional f.result (seconds f.params) (omega (arith, h)) (light_seconds f.params (omega (arith, h)))

  light_defined : (d : DefinedType) → aliased d ≡ None → weight (defined_tree t d) ≤ n → AllByRecursion Light (defined_values d)
  light_defined (def.Tuple vs) e h = light_values vs (omega (arith, h))
  light_defined (def.List v) e h = (omega (arith, h), tt)
  light_defined (def.FixedSizeList v m) e h = (omega (arith, h), tt)
  light_defined (def.Option v) e h = (omega (arith, h), tt)
  light_defined (def.Result ok err) e h = light_optional ok _ (omega (arith, h)) (light_optional err [] (omega (arith, h)) tt)
  light_defined (def.Variant v) e h = light_cases v.cases (omega (arith, h))
  light_defined (def.Record r) e h = light_seconds r.fields (omega (arith, h))
  light_defined (def.Alias v) e h = cc
  light_defined (def.Stream v) e h = light_optional v [] (omega (arith, h)) tt
  light_defined (def.Future v) e h = light_optional v [] (omega (arith, h)) tt
  light_defined _ e h = tt

light_types : (c : Collection) (n : ℕ) (vs : List ValueType) → AllByRecursion (λ v. weight (value_in c v) < n) vs → AreBelow c n (value_types vs)
light_types c n [] h = tt
light_types c n (v ∷ vs) h = (h.0, light_types c n vs h.1)

-- how heavy what is held may be
bounded : (c : Collection) (m : ℕ) (t : AnyType) → IsBefore c m t → type_weight c t ≤ suc (heaviest c + m)
bounded c m (ty.Resource r) h = let e = ap weight (resource_in c r) ∙ in_case (λ t. weight t ≡ 0) (resource_names c (resolved c r)) absent resource refl (λ n. refl) in omega (arith, e)
bounded c m (ty.Func f) h = let l = total_at (length c.funcs) f.0 (λ i. weight (type_tree c (ty.Func (record { 0 = i })))) (type_within c m (ty.Func f) h) in omega (arith, l)
bounded c m (ty.Value (val.Primitive p)) h = let e = ap weight (primitive_in c p) in omega (arith, e)
bounded c m (ty.Value (val.Own r)) h = let e = ap weight (own_in c r) ∙ in_case (λ t. weight t ≡ 0) (resource_names c (resolved c r)) absent own refl (λ n. refl) in omega (arith, e)
bounded c m (ty.Value (val.Borrow r)) h = let e = ap weight (borrow_in c r) ∙ in_case (λ t. weight t ≡ 0) (resource_names c (resolved c r)) absent borrow refl (λ n. refl) in omega (arith, e)
bounded c m (ty.Value (val.Defined d)) h = let l = total_at (length c.defined) d.0 (λ i. weight (type_tree c (ty.Value (val.Defined (record { 0 = i }))))) (type_within c m (ty.Value (val.Defined d)) h) in omega (arith, l)
bounded c m (ty.Interface i) h = let r = before_rank c m (ty.Interface i) h in omega (arith, r)
bounded c m (ty.World i) h = let r = before_rank c m (ty.World i) h in omega (arith, r)
bounded c m (ty.Module i) h = let r = before_rank c m (ty.Module i) h in omega (arith, r)

-- a type, and what it mentions, which is lighter
pub record Lowers (c : Collection) (a : AnyType) (parts : List AnyType) (tree : TypeTree Name) : Type 0 where
  pub lower : AreBelow c (type_weight c a) parts
  pub is : type_tree c a ≡ tree

pub lowers_func : (c : Collection) → IsWellFormed c → (f : FuncTypeId) (x : FuncType) → item_at c.funcs f.0 ≡ Some x → Lowers c (ty.Func f) (func_mentions x) (func_in c x)
lowers_func c wf f x at =
    let o = opens_func c wf f x at in
    let w : weight (func_in c x) ≤ weight (type_tree c (ty.Func f)) = let e = ap weight o.is in omega (arith, e) in
    record { lower = light_types c _ (func_values x) (light_func (value_in c) _ x w); is = o.is }

pub lowers_defined : (c : Collection) → IsWellFormed c → (d : DefinedTypeId) (x : DefinedType) → item_at c.defined d.0 ≡ Some x → aliased x ≡ None → Lowers c (ty.Value (val.Defined d)) (defined_mentions x) (defined_in c x)
lowers_defined c wf d x at plain =
    let o = opens_defined c wf d x at in
    let w : weight (defined_in c x) ≤ weight (value_in c (val.Defined d)) = let e = ap weight o.is in omega (arith, e) in
    record { lower = light_types c _ (defined_values x) (light_defined (value_in c) _ x plain w); is = o.is }

-- what is no value type and no function is heavier than all that are
pub lowers : (c : Collection) (a : AnyType) (parts : List AnyType) (tree : TypeTree Name) → type_weight c a ≡ suc (heaviest c + type_rank c a) → Opens c a parts tree → Lowers c a parts tree
lowers c a parts tree w o =
    let r = o.rank in
    record {
      lower = map_all (IsBefore c o.before) (λ t. type_weight c t < type_weight c a) (λ t h. let b = bounded c o.before t h in omega (arith, b, w, r)) parts o.held;
      is = o.is;
    }
