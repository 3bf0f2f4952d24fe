-- Look-ups in scopes, what a scope that grew keeps, and types that look at nothing around them.
use Rattle.std.proofs.Common.{◌≡◌, ℕ, zero, suc, ◌<◌, List, [], ◌∷◌, ◌++◌, length, refl, ap, ◌∙◌, arith}
use Rattle.std.specs.Prelude.{Some, slice_get}
use Rattle.wac_types_shapes.specs.primitives.Tree.{Tree, component, instance}
use Rattle.wac_binary.specs.Items.{TypeDef, value_def, func_def, component_def, instance_def, export_alias, outer_alias, Decls, end, next, decls, Decl, core_type_decl, type_decl, alias_decl, import_decl, export_decl}
use Rattle.wac_binary.specs.Unfold.{Scope, Bound, empty, type_at, bound_at, scope_at, with_outer, tree_of, after, with_decl}
use Rattle.wac_binary.specs.Growth.{Grows, TypeStaysWithin, StayWithin, StaysWithin}

-- look-ups

pub type_found : (ts : List Tree) (i : ℕ) (t : Tree) → slice_get ts i ≡ Some t → type_at ts i ≡ t
type_found [] i t h = cc
type_found (x ∷ ts) zero t h = cc
type_found (x ∷ ts) (suc i) t h = type_found ts i t h

pub instance_found : (bs : List Bound) (i : ℕ) (b : Bound) → slice_get bs i ≡ Some b → bound_at bs i ≡ b
instance_found [] i b h = cc
instance_found (x ∷ bs) zero b h = cc
instance_found (x ∷ bs) (suc i) b h = instance_found bs i b h

pub scope_found : (cs : List Scope) (k : ℕ) (c : Scope) → slice_get cs k ≡ Some c → scope_at cs k ≡ c
scope_found [] k c h = cc
scope_found (x ∷ cs) zero c h = cc
scope_found (x ∷ cs) (suc k) c h = scope_found cs k c h

pub type_there : (ts : List Tree) (i : ℕ) → i < length ts → slice_get ts i ≡ Some (type_at ts i)
type_there [] i h = absurd (omega arith)
type_there (x ∷ ts) zero h = refl
type_there (x ∷ ts) (suc i) h = type_there ts i (omega arith)

pub instance_there : (bs : List Bound) (i : ℕ) → i < length bs → slice_get bs i ≡ Some (bound_at bs i)
instance_there [] i h = absurd (omega arith)
instance_there (x ∷ bs) zero h = refl
instance_there (x ∷ bs) (suc i) h = instance_there bs i (omega arith)

-- a longer list

longer : {A : Type 0} (xs ys : List A) (i : ℕ) (x : A) → slice_get xs i ≡ Some x → slice_get (xs ++ ys) i ≡ Some x
longer [] ys i x h = cc
longer (y ∷ xs) ys zero x h = h
longer (y ∷ xs) ys (suc i) x h = longer xs ys i x h

pub types_stay : (c d : Scope) (i : ℕ) (t : Tree) → Grows c d → slice_get c.types i ≡ Some t → slice_get d.types i ≡ Some t
types_stay c d i t g h = ap (λ ts. slice_get ts i) g.types_are ∙ longer c.types g.types i t h

pub instances_stay : (c d : Scope) (i : ℕ) (b : Bound) → Grows c d → slice_get c.instances i ≡ Some b → slice_get d.instances i ≡ Some b
instances_stay c d i b g h = ap (λ bs. slice_get bs i) g.instances_are ∙ longer c.instances g.instances i b h

pub core_types_stay : (c d : Scope) (i : ℕ) (t : Tree) → Grows c d → slice_get c.core_types i ≡ Some t → slice_get d.core_types i ≡ Some t
core_types_stay c d i t g h = ap (λ ts. slice_get ts i) g.core_types_are ∙ longer c.core_types g.core_types i t h

pub modules_stay : (c d : Scope) (i : ℕ) → Grows c d → i < c.modules → i < d.modules
modules_stay c d i g h = let k = g.modules_stay in omega arith

pub components_stay : (c d : Scope) (i : ℕ) → Grows c d → i < c.components → i < d.components
components_stay c d i g h = let k = g.components_stay in omega arith

-- types that look at nothing around them

-- of scopes in a row the first do not depend on the others
scope_within : (own out new : List Scope) (k : ℕ) → k < length own → scope_at (own ++ new) k ≡ scope_at (own ++ out) k
scope_within [] out new k h = absurd (omega arith)
scope_within (c ∷ own) out new zero h = refl
scope_within (c ∷ own) out new (suc k) h = scope_within own out new k (omega arith)

mutual
  tree_within : (t : TypeDef) (c : Scope) (own out new : List Scope) → TypeStaysWithin t (suc (length own)) → tree_of t c (own ++ new) ≡ tree_of t c (own ++ out)
  tree_within (value_def t) c own out new h = refl
  tree_within (func_def a ps r) c own out new h = refl
  tree_within (component_def ds) c own out new h = ap (λ w. component w.imports w.exports) (after_within ds empty (c ∷ own) out new h)
  tree_within (instance_def ds) c own out new h = ap (λ w. instance w.exports) (after_within ds empty (c ∷ own) out new h)

  -- the scope of declarations, where it and those given are the first
  after_within : (ds : Decls) (c : Scope) (own out new : List Scope) → StayWithin ds (suc (length own)) → after ds c (own ++ new) ≡ after ds c (own ++ out)
  after_within end c own out new h = refl
  after_within (next d ds) c own out new h = ap (λ w. after ds w (own ++ new)) (decl_within d c own out new h.0) ∙ after_within ds (with_decl d c (own ++ out)) own out new h.1

  decl_within : (d : Decl) (c : Scope) (own out new : List Scope) → StaysWithin d (suc (length own)) → with_decl d c (own ++ new) ≡ with_decl d c (own ++ out)
  decl_within (core_type_decl m) c own out new h = refl
  decl_within (type_decl t) c own out new h = ap (λ x. record c { types = c.types ++ x ∷ [] }) (tree_within t c own out new h)
  decl_within (alias_decl (export_alias t i n)) c own out new h = refl
  decl_within (alias_decl (outer_alias t k i)) c own out new h = ap (λ o. with_outer c t k o i) (scope_within (c ∷ own) out new k h)
  decl_within (import_decl n d) c own out new h = refl
  decl_within (export_decl n d) c own out new h = refl

pub within : (t : TypeDef) (c : Scope) (own out new : List Scope) → TypeStaysWithin t (suc (length own)) → tree_of t c (own ++ new) ≡ tree_of t c (own ++ out)
within t c own out new h = tree_within t c own out new h

pub declared_within : (ds : Decls) (own out new : List Scope) → StayWithin ds (suc (length own)) → after ds empty (own ++ new) ≡ after ds empty (own ++ out)
declared_within ds own out new h = after_within ds empty own out new h

pub alone : (t : TypeDef) (c d : Scope) (out new : List Scope) → TypeStaysWithin t 0 → tree_of t d new ≡ tree_of t c out
alone (value_def t) c d out new h = absurd (omega arith)
alone (func_def a ps r) c d out new h = absurd (omega arith)
alone (component_def ds) c d out new h = ap (λ w. component w.imports w.exports) (after_within ds empty [] (c ∷ out) (d ∷ new) h)
alone (instance_def ds) c d out new h = ap (λ w. instance w.exports) (after_within ds empty [] (c ∷ out) (d ∷ new) h)

pub stay_one_more : (ds : List Decl) (d : Decl) (n : ℕ) → StayWithin (decls ds) n → StaysWithin d n → StayWithin (decls (ds ++ d ∷ [])) n
stay_one_more [] d n h g = (g, tt)
stay_one_more (x ∷ ds) d n h g = (h.0, stay_one_more ds d n h.1 g)
