-- What has a meaning keeps it where scopes only grow, and so does its tree; one more item or declaration.
use Rattle.std.proofs.Common.{◌≡◌, ℕ, zero, suc, ◌<◌, Bool, List, [], ◌∷◌, ◌++◌, length, map, refl, ap, sym, ◌∙◌, subst, arith, Option, Some, None}
use Rattle.std.specs.List.{AllByRecursion}
use Rattle.wac_types_shapes.specs.primitives.Name.{Name}
use Rattle.wac_types_shapes.specs.primitives.Tree.{Tree, absent, function, instance, component, record_of, variant_of, list_of, fixed_list_of, tuple_of, option_of, result_of, stream_of, future_of, own_of, borrow_of, items_in}
use Rattle.wac_binary.specs.declared.types.ComponentValType.{ComponentValType}
use Rattle.wac_binary.specs.declared.types.ComponentValType.TheVariants.{Primitive, Index}
use Rattle.wac_binary.specs.declared.sorts.Sort.{Sort}
use Rattle.wac_binary.specs.declared.sorts.Sort.TheVariants as s
use Rattle.wac_binary.specs.declared.sorts.Description.{Description}
use Rattle.wac_binary.specs.declared.sorts.Description.TheVariants as e
use Rattle.wac_binary.specs.Items.{ValueDef, primitive_def, record_def, variant_def, list_def, fixed_list_def, tuple_def, flags_def, enum_def, option_def, result_def, own_def, borrow_def, stream_def, future_def, export_alias, outer_alias, TypeDef, value_def, func_def, component_def, instance_def, Decls, end, next, decls, Decl, core_type_decl, type_decl, alias_decl, import_decl, export_decl, Item}
use Rattle.wac_binary.specs.Unfold.{Scope, Bound, empty, type_at, bound_at, scope_at, val, option_val, value_tree, tree_of, after, with_decl}
use Rattle.wac_binary.specs.Growth.{Grows, AllGrow, IsThere, TypeReaches, Reach, Reaches}
use Rattle.wac_binary.specs.Meaning.{Root, start, read, read_all, meaning}
use Rattle.wac_binary.specs.HasMeaning.{IsValue, IsResource, IsFunction, IsInstance, IsComponent, IsModule, IsType, IsOfSort, ValHasMeaning, OptionHasMeaning, ValueHasMeaning, DescriptionHasMeaning, OuterHasMeaning, ImportNothing, TypeHasMeaning, DeclsHaveMeaning, DeclHasMeaning, ItemHasMeaning, AllHaveMeaning, HasMeaning}
use Rattle.wac_binary.proofs.ScopeLaws.{same_scope, scopes_grow, after_kept, decl_kept}

-- one more item

all_one_more : (r : Root) (items : List Item) (x : Item) → AllHaveMeaning r items → ItemHasMeaning (read_all r items) x → AllHaveMeaning r (items ++ x ∷ [])
all_one_more r [] x h g = (g, tt)
all_one_more r (y ∷ items) x h g = (h.0, all_one_more (read r y) items x h.1 g)

pub one_more : (items : List Item) (x : Item) → HasMeaning items → ItemHasMeaning (meaning items) x → HasMeaning (items ++ x ∷ [])
one_more items x h g = all_one_more start items x h g

all_before : (r : Root) (items : List Item) (x : Item) → AllHaveMeaning r (items ++ x ∷ []) → AllHaveMeaning r items × ItemHasMeaning (read_all r items) x
all_before r [] x h = (tt, h.0)
all_before r (y ∷ items) x h = let (a, b) = all_before (read r y) items x h.1 in ((h.0, a), b)

pub before : (items : List Item) (x : Item) → HasMeaning (items ++ x ∷ []) → HasMeaning items × ItemHasMeaning (meaning items) x
before items x h = all_before start items x h

-- one more declaration

decls_one_more : (ds : List Decl) (d : Decl) (c : Scope) (out : List Scope) → DeclsHaveMeaning (decls ds) c out → DeclHasMeaning d (after (decls ds) c out) out → DeclsHaveMeaning (decls (ds ++ d ∷ [])) c out
decls_one_more [] d c out h g = (g, tt)
decls_one_more (x ∷ ds) d c out h g = (h.0, decls_one_more ds d (with_decl x c out) out h.1 g)

pub declared_one_more : (ds : List Decl) (d : Decl) (out : List Scope) → DeclsHaveMeaning (decls ds) empty out → DeclHasMeaning d (after (decls ds) empty out) out → DeclsHaveMeaning (decls (ds ++ d ∷ [])) empty out
declared_one_more ds d out h g = decls_one_more ds d empty out h g

decls_before : (ds : List Decl) (d : Decl) (c : Scope) (out : List Scope) → DeclsHaveMeaning (decls (ds ++ d ∷ [])) c out → DeclsHaveMeaning (decls ds) c out × DeclHasMeaning d (after (decls ds) c out) out
decls_before [] d c out h = (tt, h.0)
decls_before (x ∷ ds) d c out h = let (a, b) = decls_before ds d (with_decl x c out) out h.1 in ((h.0, a), b)

pub declared_before : (ds : List Decl) (d : Decl) (out : List Scope) → DeclsHaveMeaning (decls (ds ++ d ∷ [])) empty out → DeclsHaveMeaning (decls ds) empty out × DeclHasMeaning d (after (decls ds) empty out) out
declared_before ds d out h = decls_before ds d empty out h

pub import_nothing_more : (ds : List Decl) (d : Decl) → ImportNothing (decls ds) → ImportNothing (next d end) → ImportNothing (decls (ds ++ d ∷ []))
import_nothing_more [] d h g = g
import_nothing_more (core_type_decl m ∷ ds) d h g = import_nothing_more ds d h g
import_nothing_more (type_decl t ∷ ds) d h g = import_nothing_more ds d h g
import_nothing_more (alias_decl a ∷ ds) d h g = import_nothing_more ds d h g
import_nothing_more (import_decl n x ∷ ds) d h g = absurd h
import_nothing_more (export_decl n x ∷ ds) d h g = import_nothing_more ds d h g

-- an index that stands for something

-- what is there keeps its tree where the list is longer
longer_at : (P : Tree → Type 0) → (P absent → ⊥) → (xs more : List Tree) (i : ℕ) → P (type_at xs i) → type_at (xs ++ more) i ≡ type_at xs i
longer_at P none [] more i h = absurd (none h)
longer_at P none (x ∷ xs) more zero h = refl
longer_at P none (x ∷ xs) more (suc i) h = longer_at P none xs more i h

there_at : (P : Tree → Type 0) → (P absent → ⊥) → (xs : List Tree) (i : ℕ) → P (type_at xs i) → i < length xs
there_at P none [] i h = absurd (none h)
there_at P none (x ∷ xs) zero h = omega arith
there_at P none (x ∷ xs) (suc i) h = omega (arith, there_at P none xs i h)

module _ (c d : Scope) (g : Grows c d) (P : Tree → Type 0) (none : P absent → ⊥) where
  type_stays : (i : ℕ) → P (type_at c.types i) → type_at d.types i ≡ type_at c.types i
  type_stays i h = ap (λ xs. type_at xs i) g.types_are ∙ longer_at P none c.types g.types i h

  core_type_stays : (i : ℕ) → P (type_at c.core_types i) → type_at d.core_types i ≡ type_at c.core_types i
  core_type_stays i h = ap (λ xs. type_at xs i) g.core_types_are ∙ longer_at P none c.core_types g.core_types i h

  still : (i : ℕ) → P (type_at c.types i) → P (type_at d.types i)
  still i h = subst P (sym (type_stays i h)) h

  still_core : (i : ℕ) → P (type_at c.core_types i) → P (type_at d.core_types i)
  still_core i h = subst P (sym (core_type_stays i h)) h

bound_longer : (t : Sort) (n : Name) (xs more : List Bound) (i : ℕ) → IsOfSort t (items_in (bound_at xs i).type n) → bound_at (xs ++ more) i ≡ bound_at xs i
bound_longer s.CoreModule n [] more i h = absurd h
bound_longer _ n [] more i h = absurd h
bound_longer t n (x ∷ xs) more zero h = refl
bound_longer t n (x ∷ xs) more (suc i) h = bound_longer t n xs more i h

-- types keep their meaning and their trees

module _ (c d : Scope) (g : Grows c d) where
  val_kept : (v : ComponentValType) → ValHasMeaning c v → (val d v ≡ val c v) × ValHasMeaning d v
  val_kept (Primitive p) h = (refl, tt)
  val_kept (Index i) h = (type_stays c d g IsValue (λ x. x) i h, still c d g IsValue (λ x. x) i h)

  option_kept : (v : Option ComponentValType) → OptionHasMeaning c v → (option_val d v ≡ option_val c v) × OptionHasMeaning d v
  option_kept None h = (refl, tt)
  option_kept (Some v) h = val_kept v h

  fields_kept : (fs : List (Name × ComponentValType)) → AllByRecursion (λ f. ValHasMeaning c f.1) fs → (map (λ f. val d f.1) fs ≡ map (λ f. val c f.1) fs) × AllByRecursion (λ f. ValHasMeaning d f.1) fs
  fields_kept [] h = (refl, h)
  fields_kept (f ∷ fs) h =
      let a = val_kept f.1 h.0 in let b = fields_kept fs h.1 in ((λ i. a.0 i ∷ b.0 i), (a.1, b.1))

  cases_kept : (fs : List (Name × Option ComponentValType)) → AllByRecursion (λ f. OptionHasMeaning c f.1) fs → (map (λ f. option_val d f.1) fs ≡ map (λ f. option_val c f.1) fs) × AllByRecursion (λ f. OptionHasMeaning d f.1) fs
  cases_kept [] h = (refl, h)
  cases_kept (f ∷ fs) h =
      let a = option_kept f.1 h.0 in let b = cases_kept fs h.1 in ((λ i. a.0 i ∷ b.0 i), (a.1, b.1))

  parts_kept : (vs : List ComponentValType) → AllByRecursion (ValHasMeaning c) vs → (map (λ v. val d v) vs ≡ map (λ v. val c v) vs) × AllByRecursion (ValHasMeaning d) vs
  parts_kept [] h = (refl, h)
  parts_kept (v ∷ vs) h =
      let a = val_kept v h.0 in let b = parts_kept vs h.1 in ((λ i. a.0 i ∷ b.0 i), (a.1, b.1))

  value_kept : (t : ValueDef) → ValueHasMeaning t c → (value_tree t d ≡ value_tree t c) × ValueHasMeaning t d
  value_kept (primitive_def p) h = (refl, tt)
  value_kept (record_def fs) h = let a = fields_kept fs h in (ap (λ ts. record_of (map (λ f. f.0) fs) (λ i. type_at ts i)) a.0, a.1)
  value_kept (variant_def cs) h = let a = cases_kept cs h in (ap (λ ts. variant_of (map (λ f. f.0) cs) (λ i. type_at ts i)) a.0, a.1)
  value_kept (list_def v) h = let a = val_kept v h in (ap list_of a.0, a.1)
  value_kept (fixed_list_def v n) h = let a = val_kept v h in (ap (fixed_list_of n) a.0, a.1)
  value_kept (tuple_def vs) h = let a = parts_kept vs h in (ap (λ ts. tuple_of (length vs) (λ i. type_at ts i)) a.0, a.1)
  value_kept (flags_def names) h = (refl, tt)
  value_kept (enum_def names) h = (refl, tt)
  value_kept (option_def v) h = let a = val_kept v h in (ap option_of a.0, a.1)
  value_kept (result_def ok err) h = let a = option_kept ok h.0 in let b = option_kept err h.1 in ((λ i. result_of (a.0 i) (b.0 i)), (a.1, b.1))
  value_kept (own_def i) h = (ap own_of (type_stays c d g IsResource (λ x. x) i h), still c d g IsResource (λ x. x) i h)
  value_kept (borrow_def i) h = (ap borrow_of (type_stays c d g IsResource (λ x. x) i h), still c d g IsResource (λ x. x) i h)
  value_kept (stream_def v) h = let a = option_kept v h in (ap stream_of a.0, a.1)
  value_kept (future_def v) h = let a = option_kept v h in (ap future_of a.0, a.1)

  description_kept : (x : Description) → DescriptionHasMeaning c x → DescriptionHasMeaning d x
  description_kept (e.CoreModule i) h = still_core c d g IsModule (λ x. x) i h
  description_kept (e.Func i) h = still c d g IsFunction (λ x. x) i h
  description_kept (e.Equal i) h = still c d g IsType (λ x. x) i h
  description_kept e.Fresh h = tt
  description_kept (e.Component i) h = still c d g IsComponent (λ x. x) i h
  description_kept (e.Instance i) h = still c d g IsInstance (λ x. x) i h

  outer_meant : (t : Sort) (i : ℕ) → OuterHasMeaning t i c → OuterHasMeaning t i d
  outer_meant s.CoreModule i h = let k = g.modules_stay in omega arith
  outer_meant s.Type i h = still c d g IsType (λ x. x) i h
  outer_meant s.Component i h = let k = g.components_stay in omega arith
  outer_meant s.Func i h = absurd h
  outer_meant s.Value i h = absurd h
  outer_meant s.Instance i h = absurd h

-- where each index is there, outer aliases lead to indexes that are there

outer_there : (t : Sort) (i : ℕ) (c : Scope) → OuterHasMeaning t i c → IsThere t i c
outer_there s.Type i c h = there_at IsType (λ x. x) c.types i h
outer_there s.CoreModule i c h = tt
outer_there s.Component i c h = tt
outer_there s.Func i c h = absurd h
outer_there s.Value i c h = absurd h
outer_there s.Instance i c h = absurd h

mutual
  type_reaches : (t : TypeDef) (c : Scope) (out : List Scope) → TypeHasMeaning t c out → TypeReaches t c out
  type_reaches (value_def t) c out h = tt
  type_reaches (func_def a ps r) c out h = tt
  type_reaches (component_def ds) c out h = reaches ds empty (c ∷ out) h
  type_reaches (instance_def ds) c out h = reaches ds empty (c ∷ out) h.0

  pub reaches : (ds : Decls) (c : Scope) (out : List Scope) → DeclsHaveMeaning ds c out → Reach ds c out
  reaches end c out h = tt
  reaches (next d ds) c out h = (decl_reaches d c out h.0, reaches ds (with_decl d c out) out h.1)

  decl_reaches : (d : Decl) (c : Scope) (out : List Scope) → DeclHasMeaning d c out → Reaches d c out
  decl_reaches (core_type_decl m) c out h = tt
  decl_reaches (type_decl t) c out h = type_reaches t c out h
  decl_reaches (alias_decl (export_alias t i n)) c out h = tt
  decl_reaches (alias_decl (outer_alias t k i)) c out h = outer_there t i (scope_at (c ∷ out) k) h
  decl_reaches (import_decl n x) c out h = tt
  decl_reaches (export_decl n x) c out h = tt

pub from_meaning : (ds : Decls) (out : List Scope) → DeclsHaveMeaning ds empty out → Reach ds empty out
from_meaning ds out h = reaches ds empty out h

-- where the scopes around only grew

mutual
  pub type_meant : (t : TypeDef) (c d : Scope) (out new : List Scope) → Grows c d → AllGrow out new → TypeHasMeaning t c out → TypeHasMeaning t d new
  type_meant (value_def t) c d out new g all h = (value_kept c d g t h).1
  type_meant (func_def a ps r) c d out new g all h = ((fields_kept c d g ps h.0).1, (option_kept c d g r h.1).1)
  type_meant (component_def ds) c d out new g all h = decls_meant ds empty (c ∷ out) (d ∷ new) (g, all) h
  type_meant (instance_def ds) c d out new g all h = (decls_meant ds empty (c ∷ out) (d ∷ new) (g, all) h.0, h.1)

  pub decls_meant : (ds : Decls) (c : Scope) (out new : List Scope) → AllGrow out new → DeclsHaveMeaning ds c out → DeclsHaveMeaning ds c new
  decls_meant end c out new g h = tt
  decls_meant (next d ds) c out new g h =
      (decl_meant d c out new g h.0, subst (λ (w : Scope). DeclsHaveMeaning ds w new) (sym (decl_kept d c out new g (decl_reaches d c out h.0))) (decls_meant ds (with_decl d c out) out new g h.1))

  decl_meant : (d : Decl) (c : Scope) (out new : List Scope) → AllGrow out new → DeclHasMeaning d c out → DeclHasMeaning d c new
  decl_meant (core_type_decl m) c out new g h = h
  decl_meant (type_decl t) c out new g h = type_meant t c c out new (same_scope c) g h
  decl_meant (alias_decl (export_alias t i n)) c out new g h = h
  decl_meant (alias_decl (outer_alias t k i)) c out new g h = outer_meant (scope_at (c ∷ out) k) (scope_at (c ∷ new) k) (scopes_grow (c ∷ out) (c ∷ new) k (same_scope c, g)) t i h
  decl_meant (import_decl n x) c out new g h = h
  decl_meant (export_decl n x) c out new g h = h

pub still_meant : (ds : Decls) (out new : List Scope) → AllGrow out new → DeclsHaveMeaning ds empty out → DeclsHaveMeaning ds empty new
still_meant ds out new g h = decls_meant ds empty out new g h

pub tree_kept : (t : TypeDef) (c d : Scope) (out new : List Scope) → Grows c d → AllGrow out new → TypeHasMeaning t c out → tree_of t d new ≡ tree_of t c out
tree_kept (value_def t) c d out new g all h = (value_kept c d g t h).0
tree_kept (func_def a ps r) c d out new g all h =
    let p = (fields_kept c d g ps h.0).0 in let q = (option_kept c d g r h.1).0 in
    λ j. function a (map (λ f. f.0) ps) (λ i. type_at (p j) i) (q j)
tree_kept (component_def ds) c d out new g all h = ap (λ w. component w.imports w.exports) (after_kept ds empty (c ∷ out) (d ∷ new) (g, all) (reaches ds empty (c ∷ out) h))
tree_kept (instance_def ds) c d out new g all h = ap (λ w. instance w.exports) (after_kept ds empty (c ∷ out) (d ∷ new) (g, all) (reaches ds empty (c ∷ out) h.0))

-- a result is told from none

abbrev result_in : Tree → Tree
result_in (function is_async names params result) = result
result_in _ = absent

val_there : (c : Scope) (v : ComponentValType) → ValHasMeaning c v → val c v ≡ absent → ⊥
val_there c (Primitive p) h is = cc
val_there c (Index i) h is = subst IsValue is h

pub outcomes : (a b : Bool) (ps qs : List (Name × ComponentValType)) (v : ComponentValType) (c d : Scope) (out new : List Scope) → TypeHasMeaning (func_def a ps (Some v)) c out
    → tree_of (func_def a ps (Some v)) c out ≡ tree_of (func_def b qs None) d new → ⊥
outcomes a b ps qs v c d out new h is = val_there c v h.1 (ap result_in is)
