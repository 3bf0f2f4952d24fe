-- The scopes that a type encoder has open, the innermost first, and what is recorded in each.
use Rattle.std.specs.Prelude.{ℕ, ◌==◌, Bool, if◌then◌else◌, List, [], ◌∷◌, ◌++◌, Option, Some, None}
use Rattle.wac_types_shapes.specs.primitives.Name.{Name}
use Rattle.wac_types_shapes.specs.declared.shapes.component.ResourceId.{ResourceId}
use Rattle.wac_types_shapes.specs.declared.shapes.component.DefinedTypeId.{DefinedTypeId}
use Rattle.wac_types_shapes.specs.declared.shapes.component.«Type».{«Type» as AnyType}
use Rattle.wac_types_collection.specs.collection.Uses.{same_type}
use Rattle.wac_binary.specs.declared.sorts.Sort.TheVariants as s
use Rattle.wac_binary.specs.Items.{TypeDef, Alias, Decl, decls, type_decl, alias_decl, Item, type_item, alias_item}
use Rattle.wac_binary.specs.Indexes.{space, declared, indexes}
use Rattle.wac_binary.specs.Unfold.{Scope, empty, after}
use Rattle.wac_binary.specs.Meaning.{meaning}
use Rattle.wac_binary.specs.HasMeaning.{HasMeaning, DeclsHaveMeaning}

-- What is written in a scope: the declarations of an instance type or a component type, or the items of the root.
pub data Content : Type 0 where
  declarations : List Decl → Content
  root : List Item → Content

-- The place of a type in a scope: a type index, or an export of an instance that is not aliased yet.
pub data Where : Type 0 where
  at_type : ℕ → Where
  at_export : (instance : ℕ) → Name → Where

-- What gave a type its type index: its definition, an outer alias, or a type import or type export.
pub data How : Type 0 where
  defined : How
  brought : How
  listed : How

-- The type index of a type, and what gave it.
pub record Indexed : Type 0 where
  pub index : ℕ
  pub how : How

-- An open scope: its content and what is recorded in it. In a scope that passes, each resource that is bound outside is
-- bound to the same resource.
pub record Open : Type 0 where
  pub content : Content
  pub passes : Bool
  -- The place of a resource.
  pub binds : ResourceId → Option Where
  -- The type index of a type.
  pub types : AnyType → Option Indexed
  -- The place of a value type that an instance of this scope exports.
  pub exports : DefinedTypeId → Option Where

abbrev pub Stack : Type 0
Stack = List Open

-- What the indexes of a scope refer to, and its imports and exports.
abbrev pub scope_of : Content → List Scope → Scope
scope_of (declarations ds) out = after (decls ds) empty out
scope_of (root items) out = (meaning items).scope

-- The content has a meaning: each index that it uses exists, and no name is declared twice.
abbrev pub ContentHasMeaning : Content → List Scope → Type 0
ContentHasMeaning (declarations ds) out = DeclsHaveMeaning (decls ds) empty out
ContentHasMeaning (root items) out = HasMeaning items

abbrev pub env : Open → List Scope → Scope
env o out = scope_of o.content out

-- What the indexes of each scope of a stack refer to.
abbrev pub envs : Stack → List Scope
envs [] = []
envs (o ∷ os) = env o (envs os) ∷ envs os

-- The number of type indexes, which is the next type index; then the same for instance indexes.
abbrev pub type_count : Content → ℕ
type_count (declarations ds) = declared (space s.Type) ds
type_count (root items) = indexes (space s.Type) items

abbrev pub instance_count : Content → ℕ
instance_count (declarations ds) = declared (space s.Instance) ds
instance_count (root items) = indexes (space s.Instance) items

abbrev pub next_type : Open → ℕ
next_type o = type_count o.content

abbrev pub next_instance : Open → ℕ
next_instance o = instance_count o.content

-- The content with a type definition appended; then with an alias appended.
abbrev pub and_def : TypeDef → Content → Content
and_def t (declarations ds) = declarations (ds ++ type_decl t ∷ [])
and_def t (root items) = root (items ++ type_item t ∷ [])

abbrev pub and_alias : Alias → Content → Content
and_alias a (declarations ds) = declarations (ds ++ alias_decl a ∷ [])
and_alias a (root items) = root (items ++ alias_item a ∷ [])

abbrev pub with_def : TypeDef → Open → Open
with_def t o = record o { content = and_def t o.content }

abbrev pub with_alias_of : Alias → Open → Open
with_alias_of a o = record o { content = and_alias a o.content }

-- The open type with a declaration appended.
abbrev pub with_declared : List Decl → Decl → Open → Open
with_declared ds d o = record o { content = declarations (ds ++ d ∷ []) }

-- The scope with one more record: a resource's place, a type's index, or the place of an exported value type.
abbrev pub bind_at : ResourceId → Where → Open → Open
bind_at r w o = record o { binds = λ q. if q.0 == r.0 then Some w else o.binds q }

abbrev pub index_at : AnyType → How → ℕ → Open → Open
index_at a how i o = record o { types = λ b. if same_type b a then Some (record { index = i; how = how }) else o.types b }

abbrev pub export_at : DefinedTypeId → Where → Open → Open
export_at d w o = record o { exports = λ e. if e.0 == d.0 then Some w else o.exports e }

-- An open type without declarations, in which nothing is recorded.
abbrev pub opening : Bool → Open
opening passes = record { content = declarations []; passes = passes; binds = λ r. None; types = λ a. None; exports = λ d. None }
