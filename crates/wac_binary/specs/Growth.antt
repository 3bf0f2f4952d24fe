-- Growth of scopes, and the types and declarations that it does not change.
use Rattle.std.specs.Prelude.{◌≡◌, ℕ, suc, ◌<◌, ◌≤◌, List, [], ◌∷◌, ◌++◌, length}
use Rattle.wac_types_shapes.specs.primitives.Tree.{Tree}
use Rattle.wac_binary.specs.declared.sorts.Sort.{Sort}
use Rattle.wac_binary.specs.declared.sorts.Sort.TheVariants as s
use Rattle.wac_binary.specs.Items.{export_alias, outer_alias, TypeDef, value_def, func_def, component_def, instance_def, Decls, end, next, Decl, core_type_decl, type_decl, alias_decl, import_decl, export_decl}
use Rattle.wac_binary.specs.Unfold.{Scope, Bound, empty, scope_at, with_decl}

-- The new scope keeps the indexes of the old scope and may add further ones.
pub record Grows (old new : Scope) : Type 0 where
  pub core_types : List Tree
  pub types : List Tree
  pub instances : List Bound
  pub core_types_are : new.core_types ≡ old.core_types ++ core_types
  pub types_are : new.types ≡ old.types ++ types
  pub instances_are : new.instances ≡ old.instances ++ instances
  pub modules_stay : old.modules ≤ new.modules
  pub components_stay : old.components ≤ new.components

-- Each scope of the first list grows to its counterpart in the second, which may have further enclosing scopes.
abbrev pub AllGrow : List Scope → List Scope → Type 0
AllGrow [] ds = Unit
AllGrow (c ∷ cs) [] = ⊥
AllGrow (c ∷ cs) (d ∷ ds) = Grows c d × AllGrow cs ds

-- Index i of this sort exists in the scope, which is asked of types and instances only.
abbrev pub IsThere : Sort → ℕ → Scope → Type 0
IsThere s.Type i c = i < length c.types
IsThere s.Instance i c = i < length c.instances
IsThere _ i c = Unit

abbrev mutual
  -- Each outer alias in a type refers to an index that exists.
  pub TypeReaches : TypeDef → Scope → List Scope → Type 0
  TypeReaches (value_def t) c out = Unit
  TypeReaches (func_def is_async params result) c out = Unit
  TypeReaches (component_def ds) c out = Reach ds empty (c ∷ out)
  TypeReaches (instance_def ds) c out = Reach ds empty (c ∷ out)

  -- Each outer alias in declarations refers to an index that exists.
  pub Reach : Decls → Scope → List Scope → Type 0
  Reach end c out = Unit
  Reach (next d ds) c out = Reaches d c out × Reach ds (with_decl d c out) out

  pub Reaches : Decl → Scope → List Scope → Type 0
  Reaches (core_type_decl m) c out = Unit
  Reaches (type_decl t) c out = TypeReaches t c out
  Reaches (alias_decl (export_alias t i n)) c out = Unit
  Reaches (alias_decl (outer_alias t k i)) c out = IsThere t i (scope_at (c ∷ out) k)
  Reaches (import_decl n d) c out = Unit
  Reaches (export_decl n d) c out = Unit

abbrev mutual
  -- A type refers to the n innermost scopes only, of which the first is the scope that contains it.
  pub TypeStaysWithin : TypeDef → ℕ → Type 0
  TypeStaysWithin (value_def t) n = 0 < n
  TypeStaysWithin (func_def is_async params result) n = 0 < n
  TypeStaysWithin (component_def ds) n = StayWithin ds (suc n)
  TypeStaysWithin (instance_def ds) n = StayWithin ds (suc n)

  -- Declarations refer to the n innermost scopes only, of which the first is their own.
  pub StayWithin : Decls → ℕ → Type 0
  StayWithin end n = Unit
  StayWithin (next d ds) n = StaysWithin d n × StayWithin ds n

  pub StaysWithin : Decl → ℕ → Type 0
  StaysWithin (core_type_decl m) n = Unit
  StaysWithin (type_decl t) n = TypeStaysWithin t n
  StaysWithin (alias_decl (export_alias t i name)) n = Unit
  StaysWithin (alias_decl (outer_alias t k i)) n = k < n
  StaysWithin (import_decl name d) n = Unit
  StaysWithin (export_decl name d) n = Unit
