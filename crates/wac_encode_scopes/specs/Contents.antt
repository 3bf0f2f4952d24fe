-- What is written in a scope: the items of the root, or the declarations of an open type.
use Rattle.std.specs.Prelude.{◌≡◌, List, [], ◌∷◌, ◌++◌, ℕ}
use Rattle.std.specs.List.{AllByRecursion}
use Rattle.wac_binary.specs.declared.sorts.Sort.TheVariants as s
use Rattle.wac_binary.specs.Items.{TypeDef, Alias, core_type_decl, type_decl, export_alias, outer_alias, alias_decl, Decl, Item, core_type, type_item, alias_item}
use Rattle.wac_encode_scopes.specs.declared.encodable.Encodable.{Encodable}
use Rattle.wac_encode_scopes.specs.declared.encodable.Encodable.TheVariants.{Builder, Instance, Component}
use Rattle.wac_encode_stacks.specs.Scopes.{Content, declarations, root}
use Rattle.wac_types_shapes.specs.primitives.Name.{Name}
use Rattle.wac_types_shapes.specs.primitives.Tree.{Side, imported, exported}
use Rattle.wac_binary.specs.declared.sorts.Description.{Description}
use Rattle.wac_encode_scopes.specs.declared.side.Side.{Side as TheSide}
use Rattle.wac_encode_scopes.specs.declared.side.Side.TheVariants.{Import, Export}
use Rattle.wac_encode_stacks.specs.Listed.{side_decl}
use Rattle.wac_binary.specs.Indexes.{indexes, declared}

-- The content of an open scope.
abbrev pub content_of : Encodable → Content
content_of (Builder items) = root items
content_of (Instance ds) = declarations ds
content_of (Component ds) = declarations ds

-- The content with a type definition appended.
abbrev pub and_type : TypeDef → Encodable → Encodable
and_type t (Builder items) = Builder (items ++ type_item t ∷ [])
and_type t (Instance ds) = Instance (ds ++ type_decl t ∷ [])
and_type t (Component ds) = Component (ds ++ type_decl t ∷ [])

-- The content with an alias appended.
abbrev pub and_alias_of : Alias → Encodable → Encodable
and_alias_of a (Builder items) = Builder (items ++ alias_item a ∷ [])
and_alias_of a (Instance ds) = Instance (ds ++ alias_decl a ∷ [])
and_alias_of a (Component ds) = Component (ds ++ alias_decl a ∷ [])

-- An alias of a type; then a declaration or an item that is a type or an alias of one.
abbrev pub IsTypeAlias : Alias → Type 0
IsTypeAlias (export_alias s.Type j n) = Unit {0}
IsTypeAlias (outer_alias s.Type k i) = Unit {0}
IsTypeAlias _ = ⊥

abbrev pub IsTypeDecl : Decl → Type 0
IsTypeDecl (core_type_decl t) = Unit {0}
IsTypeDecl (type_decl t) = Unit {0}
IsTypeDecl (alias_decl a) = IsTypeAlias a
IsTypeDecl _ = ⊥

abbrev pub IsTypeItem : Item → Type 0
IsTypeItem (core_type t) = Unit {0}
IsTypeItem (type_item t) = Unit {0}
IsTypeItem (alias_item a) = IsTypeAlias a
IsTypeItem _ = ⊥

-- Only types, core types and aliases of types are appended to the content.
abbrev pub AddsTypes : Encodable → Encodable → Type 0
AddsTypes (Builder xs) (Builder ys) = (more : List Item) × (ys ≡ xs ++ more) × AllByRecursion IsTypeItem more
AddsTypes (Instance ds) (Instance es) = (more : List Decl) × (es ≡ ds ++ more) × AllByRecursion IsTypeDecl more
AddsTypes (Component ds) (Component es) = (more : List Decl) × (es ≡ ds ++ more) × AllByRecursion IsTypeDecl more
AddsTypes _ _ = ⊥

abbrev pub side_of : TheSide → Side
side_of Import = imported
side_of Export = exported

-- An open type that has this side: an instance type has no imports.
abbrev pub HasSide : Side → Encodable → Type 0
HasSide side (Component ds) = Unit {0}
HasSide exported (Instance ds) = Unit {0}
HasSide _ _ = ⊥

-- The open type with an item appended to one side.
abbrev pub and_item : Side → Name → Description → Encodable → Encodable
and_item side n d (Builder items) = Builder items
and_item side n d (Instance ds) = Instance (ds ++ side_decl side n d ∷ [])
and_item side n d (Component ds) = Component (ds ++ side_decl side n d ∷ [])

-- The number of indexes in an index space.
abbrev pub count_of : ℕ → Encodable → ℕ
count_of k (Builder items) = indexes k items
count_of k (Instance ds) = declared k ds
count_of k (Component ds) = declared k ds

abbrev pub IsInstanceType : Encodable → Type 0
IsInstanceType (Instance ds) = Unit {0}
IsInstanceType _ = ⊥

abbrev pub declarations_of : Encodable → List Decl
declarations_of (Instance ds) = ds
declarations_of (Component ds) = ds
declarations_of _ = []
