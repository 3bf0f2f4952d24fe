-- What the index of one more alias, import or export stands for.
use Rattle.std.proofs.Common.{◌≡◌, ℕ, zero, suc, List, [], ◌∷◌, ◌++◌, length, refl, ap, sym, ◌∙◌, arith}
use Rattle.wac_types_shapes.specs.primitives.Name.{Name}
use Rattle.wac_types_shapes.specs.primitives.Tree.{imported, exported, position, named, Tree, resource, seen_from}
use Rattle.wac_binary.specs.declared.sorts.Sort.{Sort}
use Rattle.wac_binary.specs.declared.sorts.Sort.TheVariants as s
use Rattle.wac_binary.specs.declared.sorts.Description.TheVariants as e
use Rattle.wac_binary.specs.Items.{export_alias, outer_alias, Item, instantiate, alias_item, import_item, export_item, Decl, decls, alias_decl, import_decl, export_decl}
use Rattle.wac_binary.specs.Indexes.{space, indexes, declared}
use Rattle.wac_binary.specs.Unfold.{Scope, Bound, empty, unbound, type_at, bound_at, scope_at, aliased_type, aliased_instance, after, with_decl}
use Rattle.wac_binary.specs.Meaning.{root_scope, read, meaning}
use Rattle.wac_binary.specs.Added.{type_added, instance_added, type_declared, instance_declared}
use Rattle.wac_binary.proofs.MeaningLaws.{one_more, types_counted, instances_counted, type_new}
use Rattle.wac_binary.proofs.ScopeLaws.{one_more as one_more_declared, declared_types_counted, declared_instances_counted}

bound_new : (xs : List Bound) (x : Bound) (i : ℕ) → i ≡ length xs → bound_at (xs ++ x ∷ []) i ≡ x
bound_new [] x zero e = refl
bound_new [] x (suc i) e = absurd (omega arith)
bound_new (y ∷ ys) x zero e = absurd (omega arith)
bound_new (y ∷ ys) x (suc i) e = bound_new ys x i (omega arith)

type_is : (items : List Item) (x : Item) (t : Tree) → (read (meaning items) x).scope.types ≡ (meaning items).scope.types ++ t ∷ [] → type_added items x ≡ t
type_is items x t is =
    ap (λ r. type_at r.scope.types (indexes (space s.Type) items)) (one_more items x) ∙ ap (λ ts. type_at ts (indexes (space s.Type) items)) is ∙ type_new (meaning items).scope.types t _ (sym (types_counted items))

instance_is : (items : List Item) (x : Item) (b : Bound) → (read (meaning items) x).scope.instances ≡ (meaning items).scope.instances ++ b ∷ [] → instance_added items x ≡ b
instance_is items x b is =
    ap (λ r. bound_at r.scope.instances (indexes (space s.Instance) items)) (one_more items x) ∙ ap (λ bs. bound_at bs (indexes (space s.Instance) items)) is ∙ bound_new (meaning items).scope.instances b _ (sym (instances_counted items))

pub alias_type : (items : List Item) (i : ℕ) (n : Name) → type_added items (alias_item (export_alias s.Type i n)) ≡ aliased_type (bound_at (meaning items).scope.instances i) n
alias_type items i n = type_is items _ _ refl

pub alias_instance : (items : List Item) (i : ℕ) (n : Name) → instance_added items (alias_item (export_alias s.Instance i n)) ≡ aliased_instance (bound_at (meaning items).scope.instances i) n
alias_instance items i n = instance_is items _ _ refl

pub outer_type : (items : List Item) (k i : ℕ) → type_added items (alias_item (outer_alias s.Type k i)) ≡ seen_from k (type_at (root_scope (meaning items) k).types i)
outer_type items k i = type_is items _ _ refl

pub import_equal : (items : List Item) (n : Name) (i : ℕ) → type_added items (import_item n (e.Equal i)) ≡ type_at (meaning items).scope.types i
import_equal items n i = type_is items _ _ refl

pub import_fresh : (items : List Item) (n : Name) → type_added items (import_item n e.Fresh) ≡ resource (record { out = 0; side = imported; path = position (length (meaning items).imports) ∷ [] })
import_fresh items n = type_is items _ _ refl

pub import_instance : (items : List Item) (n : Name) (i : ℕ)
    → instance_added items (import_item n (e.Instance i)) ≡ record { type = type_at (meaning items).scope.types i; side = imported; path = position (length (meaning items).imports) ∷ [] }
import_instance items n i = instance_is items _ _ refl

pub export_type : (items : List Item) (n : Name) (i : ℕ) → type_added items (export_item n s.Type i) ≡ type_at (meaning items).scope.types i
export_type items n i = type_is items _ _ refl

pub export_instance : (items : List Item) (n : Name) (i : ℕ) → instance_added items (export_item n s.Instance i) ≡ bound_at (meaning items).scope.instances i
export_instance items n i = instance_is items _ _ refl

pub instantiation : (items : List Item) (i : ℕ) (args : List (Name × Sort × ℕ)) → instance_added items (instantiate i args) ≡ unbound
instantiation items i args = instance_is items _ _ refl

-- declarations

type_declared_is : (ds : List Decl) (d : Decl) (out : List Scope) (t : Tree) → (with_decl d (after (decls ds) empty out) out).types ≡ (after (decls ds) empty out).types ++ t ∷ [] → type_declared ds d out ≡ t
type_declared_is ds d out t is =
    ap (λ c. type_at c.types (declared (space s.Type) ds)) (one_more_declared ds d out) ∙ ap (λ ts. type_at ts (declared (space s.Type) ds)) is
    ∙ type_new (after (decls ds) empty out).types t _ (sym (declared_types_counted ds out))

instance_declared_is : (ds : List Decl) (d : Decl) (out : List Scope) (b : Bound) → (with_decl d (after (decls ds) empty out) out).instances ≡ (after (decls ds) empty out).instances ++ b ∷ [] → instance_declared ds d out ≡ b
instance_declared_is ds d out b is =
    ap (λ c. bound_at c.instances (declared (space s.Instance) ds)) (one_more_declared ds d out) ∙ ap (λ bs. bound_at bs (declared (space s.Instance) ds)) is
    ∙ bound_new (after (decls ds) empty out).instances b _ (sym (declared_instances_counted ds out))

pub declared_alias_type : (ds : List Decl) (i : ℕ) (n : Name) (out : List Scope) → type_declared ds (alias_decl (export_alias s.Type i n)) out ≡ aliased_type (bound_at (after (decls ds) empty out).instances i) n
declared_alias_type ds i n out = type_declared_is ds _ out _ refl

pub declared_alias_instance : (ds : List Decl) (i : ℕ) (n : Name) (out : List Scope) → instance_declared ds (alias_decl (export_alias s.Instance i n)) out ≡ aliased_instance (bound_at (after (decls ds) empty out).instances i) n
declared_alias_instance ds i n out = instance_declared_is ds _ out _ refl

pub declared_outer_type : (ds : List Decl) (k i : ℕ) (out : List Scope) → type_declared ds (alias_decl (outer_alias s.Type k i)) out ≡ seen_from k (type_at (scope_at (after (decls ds) empty out ∷ out) k).types i)
declared_outer_type ds k i out = type_declared_is ds _ out _ refl

pub declared_import_equal : (ds : List Decl) (n : Name) (i : ℕ) (out : List Scope) → type_declared ds (import_decl n (e.Equal i)) out ≡ type_at (after (decls ds) empty out).types i
declared_import_equal ds n i out = type_declared_is ds _ out _ refl

pub declared_import_fresh : (ds : List Decl) (n : Name) (out : List Scope) → type_declared ds (import_decl n e.Fresh) out ≡ resource (record { out = 0; side = imported; path = named n ∷ [] })
declared_import_fresh ds n out = type_declared_is ds _ out _ refl

pub declared_import_instance : (ds : List Decl) (n : Name) (i : ℕ) (out : List Scope)
    → instance_declared ds (import_decl n (e.Instance i)) out ≡ record { type = type_at (after (decls ds) empty out).types i; side = imported; path = named n ∷ [] }
declared_import_instance ds n i out = instance_declared_is ds _ out _ refl

pub declared_export_equal : (ds : List Decl) (n : Name) (i : ℕ) (out : List Scope) → type_declared ds (export_decl n (e.Equal i)) out ≡ type_at (after (decls ds) empty out).types i
declared_export_equal ds n i out = type_declared_is ds _ out _ refl

pub declared_export_fresh : (ds : List Decl) (n : Name) (out : List Scope) → type_declared ds (export_decl n e.Fresh) out ≡ resource (record { out = 0; side = exported; path = named n ∷ [] })
declared_export_fresh ds n out = type_declared_is ds _ out _ refl

pub declared_export_instance : (ds : List Decl) (n : Name) (i : ℕ) (out : List Scope)
    → instance_declared ds (export_decl n (e.Instance i)) out ≡ record { type = type_at (after (decls ds) empty out).types i; side = exported; path = named n ∷ [] }
declared_export_instance ds n i out = instance_declared_is ds _ out _ refl
