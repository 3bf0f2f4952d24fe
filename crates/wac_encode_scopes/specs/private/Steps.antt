-- What a call does to one scope, or to the scope k scopes out. Only contracts of private functions use this.
use Rattle.std.specs.Prelude.{ℕ, ◌≡◌, Bool, true, false, not, Option, Some, None, if◌then◌else◌, List, ◌++◌, ◌∷◌, []}
use Rattle.wac_types_shapes.specs.declared.shapes.component.ResourceId.{ResourceId}
use Rattle.wac_binary.specs.declared.sorts.Sort.TheVariants as s
use Rattle.wac_binary.specs.declared.sorts.Description.TheVariants as e
use Rattle.wac_binary.specs.Items.{export_alias, import_item, core_type, core_type_decl, ModuleDecl}
use Rattle.wac_encode_scopes.specs.declared.encodable.Encodable.{Encodable}
use Rattle.wac_encode_scopes.specs.declared.book.Book.{Book}
use Rattle.wac_encode_scopes.specs.declared.scope.Scope.{Scope}
use Rattle.wac_encode_scopes.specs.declared.state.State.{State}
use Rattle.wac_encode_scopes.specs.declared.encodable.Encodable.TheVariants.{Builder, Instance, Component}
use Rattle.wac_encode_scopes.specs.Contents.{and_alias_of, and_item}
use Rattle.wac_encode_scopes.specs.private.Interfaces.{own_in}
use Rattle.wac_encode_scopes.specs.Books.{recorded, opened}
use Rattle.wac_encode_scopes.specs.States.{stack, named_in}
use Rattle.wac_encode_stacks.specs.Scopes.{Content, Where, How, defined, brought, listed, at_type, at_export, Open, opening, declarations, root, next_type, bind_at, export_at}
use Rattle.wac_encode_stacks.specs.private.Beside.{written_as, all_written_as}
use Rattle.wac_encode_stacks.specs.private.Inside.{changed_at, aliased_there}
use Rattle.wac_types_shapes.specs.declared.shapes.component.DefinedTypeId.{DefinedTypeId}
use Rattle.wac_encode_stacks.specs.private.Brought.{aliased_value}
use Rattle.wac_types_shapes.specs.primitives.Name.{Name, option_case}
use Rattle.wac_types_shapes.specs.primitives.Tree.{Side, exported, Leaf}
use Rattle.wac_types_shapes.specs.declared.shapes.component.UsedType.{UsedType}
use Rattle.wac_types_shapes.specs.declared.shapes.component.ItemKind.{ItemKind}
use Rattle.wac_types_collection.specs.collection.Collection.{Collection}
use Rattle.wac_types_collection.specs.collection.Bound.{Bindings}
use Rattle.wac_encode_stacks.specs.Good.{Good, top}
use Rattle.wac_encode_stacks.specs.Listed.{side_decl}

-- The records of a book change by f, whatever the content is.
abbrev pub Records : (Open → Open) → Book → Book → Type 0
Records f old new = (x : Content) → recorded new x ≡ f (recorded old x)

-- A scope changes by f for the types of one collection. For those of the other, only its content changes.
abbrev pub ScopeChanges : Bool → (Open → Open) → Scope → Scope → Type 0
ScopeChanges b f old new = (opened b new ≡ f (opened b old)) × (opened (not b) new ≡ written_as (opened b new) (opened (not b) old))

-- The scope k scopes out changes by f. For the types of the other collection, only its content changes.
abbrev pub StateChanges : Bool → ℕ → (Open → Open) → State → State → Type 0
StateChanges b k f old new = (stack b new ≡ changed_at k f (stack b old)) × (stack (not b) new ≡ all_written_as (stack b new) (stack (not b) old))

-- A type index and true, or the index of an instance and false.
abbrev pub export_of : Option Where → Option (ℕ × Bool)
export_of None = None
export_of (Some (at_type i)) = Some (i, true)
export_of (Some (at_export j n)) = Some (j, false)

-- The record is that of an instance's export which is not aliased yet.
abbrev pub IsExported : Option Where → Type 0
IsExported (Some (at_export j n)) = Unit {0}
IsExported _ = ⊥

abbrev pub aliased_from : Option Where → Encodable → Encodable
aliased_from (Some (at_export j n)) e = and_alias_of (export_alias s.Type j n) e
aliased_from _ e = e

-- The scope after a resource that is recorded as an instance's export is aliased, and recorded at the alias.
abbrev pub settled_from : ResourceId → Option Where → Open → Open
settled_from r (Some (at_export j n)) o = aliased_there r j n o
settled_from r _ o = o

abbrev pub settled : ResourceId → Open → Open
settled r o = settled_from r (o.binds r) o

-- A scope with this content, in which nothing is recorded.
abbrev pub empty_scope : Content → Bool → Open
empty_scope x passes = record (opening passes) { content = x }

-- The value for the merged collection, or for the graph's own.
abbrev pub either : Bool → Bool → Bool → Bool
either true merged graph = merged
either false merged graph = graph

-- The scope after a value type that is recorded as an instance's export is aliased, and recorded at the alias.
abbrev pub settled_value_from : DefinedTypeId → Option Where → Open → Open
settled_value_from d (Some (at_export j n)) o = aliased_value d j n o
settled_value_from d _ o = o

abbrev pub settled_value : DefinedTypeId → Open → Open
settled_value d o = settled_value_from d (o.exports d) o

-- The content with a fresh resource appended; then the scope in which that resource is also recorded.
abbrev pub and_fresh : Side → Name → Content → Content
and_fresh side n (declarations ds) = declarations (ds ++ side_decl side n e.Fresh ∷ [])
and_fresh side n (root items) = root items

abbrev pub with_fresh : Side → Name → ResourceId → Open → Open
with_fresh side n r o = bind_at r (at_type (next_type o)) (record o { content = and_fresh side n o.content })

-- The scope after an own resource is exported fresh and recorded, if there is one; then after those of all items, in order.
abbrev pub with_own_in : Option ResourceId → Name → Open → Open
with_own_in None n o = o
with_own_in (Some r) n o = with_fresh exported n r o

abbrev pub with_own : Collection → List (Name × UsedType) → List (Name × ItemKind) → Open → Open
with_own c uses [] o = o
with_own c uses (x ∷ es) o = with_own c uses es (with_own_in (own_in c uses x) x.0 o)

-- The declarations, with a fresh resource exported if there is one.
abbrev pub exporting : Option ResourceId → Name → Encodable → Encodable
exporting None n x = x
exporting (Some r) n x = and_item exported n e.Fresh x

-- Whether the own resource of an item is bound in the innermost scope.
abbrev pub OwnIsBound : Collection → Bool → State → Option ResourceId → Bool → Type 0
OwnIsBound c b s None is_bound = is_bound ≡ false
OwnIsBound c b s (Some r) true = (ms : List Bindings) → Good c ms (stack b s) → (l : Leaf) × (top ms r ≡ Some l)
OwnIsBound c b s (Some r) false = (ms : List Bindings) → Good c ms (stack b s) → top ms r ≡ None

-- The root with a fresh import appended; then the scope in which that resource is also recorded.
abbrev pub and_fresh_import : Name → Content → Content
and_fresh_import n (root items) = root (items ++ import_item n e.Fresh ∷ [])
and_fresh_import n (declarations ds) = declarations ds

abbrev pub with_fresh_import : Name → ResourceId → Open → Open
with_fresh_import n r o = bind_at r (at_type (next_type o)) (record o { content = and_fresh_import n o.content })

-- The content with a core module type appended.
abbrev pub and_core_type : List ModuleDecl → Encodable → Encodable
and_core_type t (Builder items) = Builder (items ++ core_type t ∷ [])
and_core_type t (Instance ds) = Instance (ds ++ core_type_decl t ∷ [])
and_core_type t (Component ds) = Component (ds ++ core_type_decl t ∷ [])

-- The id, if it passes the test.
abbrev pub that_passes : {A : Type 0} → (A → Bool) → Option A → Option A
that_passes test None = None
that_passes test (Some x) = if test x then Some x else None

-- The scope with a resource bound to an export of an instance, if there is one.
abbrev pub bound_to : Option ResourceId → ℕ → Name → Open → Open
bound_to None j n o = o
bound_to (Some r) j n o = bind_at r (at_export j n) o

-- The scope with a value type recorded as an export of an instance, if there is one without a name in the scope.
abbrev pub told_to : Option DefinedTypeId → ℕ → Name → Open → Open
told_to None j n o = o
told_to (Some d) j n o = option_case (named_in d o) (export_at d (at_export j n) o) (λ w. o)

-- A type import or type export gave the index.
abbrev pub is_listed : How → Bool
is_listed defined = false
is_listed brought = false
is_listed listed = true
