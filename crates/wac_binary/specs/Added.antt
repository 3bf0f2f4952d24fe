-- What the index of a new item or declaration refers to, and the imports and exports after it.
use Rattle.std.specs.Prelude.{List, [], ◌∷◌, ◌++◌}
use Rattle.wac_types_shapes.specs.primitives.Name.{Name}
use Rattle.wac_types_shapes.specs.primitives.Tree.{Tree}
use Rattle.wac_binary.specs.declared.sorts.Sort.TheVariants as s
use Rattle.wac_binary.specs.Items.{Item, import_item, export_item, Decl, decls, import_decl, export_decl}
use Rattle.wac_binary.specs.Indexes.{space, indexes, declared}
use Rattle.wac_binary.specs.Unfold.{Scope, Bound, empty, type_at, bound_at, with_item, described_item, after}
use Rattle.wac_binary.specs.Meaning.{Export, Root, stands_for, exported_tree, meaning}

-- The type at the type index that a new item adds.
abbrev pub type_added : List Item → Item → Tree
type_added items x = type_at (meaning (items ++ x ∷ [])).scope.types (indexes (space s.Type) items)

-- The instance at the instance index that a new item adds.
abbrev pub instance_added : List Item → Item → Bound
instance_added items x = bound_at (meaning (items ++ x ∷ [])).scope.instances (indexes (space s.Instance) items)

-- The type at the type index that a new declaration adds, within these enclosing scopes.
abbrev pub type_declared : List Decl → Decl → List Scope → Tree
type_declared ds d out = type_at (after (decls (ds ++ d ∷ [])) empty out).types (declared (space s.Type) ds)

-- The instance at the instance index that a new declaration adds, within these enclosing scopes.
abbrev pub instance_declared : List Decl → Decl → List Scope → Bound
instance_declared ds d out = bound_at (after (decls (ds ++ d ∷ [])) empty out).instances (declared (space s.Instance) ds)

-- The import that a new item adds, if it is an import.
abbrev pub imports_added : Root → Item → List (Name × Tree)
imports_added r (import_item n d) = (n, described_item r.scope d) ∷ []
imports_added r _ = []

-- The export that a new item adds, if it is an export.
abbrev pub exports_added : Root → Item → List Export
exports_added r (export_item n t i) = record { name = n; sort = t; thing = stands_for r t i; tree = exported_tree r.scope t i } ∷ []
exports_added r _ = []

-- The imports of a scope after a new declaration.
abbrev pub imports_declared : Scope → Decl → Name → Tree
imports_declared c (import_decl n d) = with_item c.imports n (described_item c d)
imports_declared c _ = c.imports

-- The exports of a scope after a new declaration.
abbrev pub exports_declared : Scope → Decl → Name → Tree
exports_declared c (export_decl n d) = with_item c.exports n (described_item c d)
exports_declared c _ = c.exports
