-- Instance types of interfaces. An instance type begins with the own resources of its interface.
use Rattle.std.specs.Prelude.{ℕ, ◌≡◌, ◌&&◌, Bool, true, false, not, List, [], ◌∷◌, ◌++◌, map, Option, Some, None, is_none, if◌then◌else◌}
use Rattle.std.specs.List.{flat_map}
use Rattle.wac_types_shapes.specs.primitives.Name.{Name, find_name, option_case}
use Rattle.wac_types_shapes.specs.primitives.Tree.{exported, Leaf}
use Rattle.wac_types_shapes.specs.declared.shapes.component.ResourceId.{ResourceId}
use Rattle.wac_types_shapes.specs.declared.shapes.component.UsedType.{UsedType}
use Rattle.wac_types_shapes.specs.declared.shapes.component.Interface.{Interface}
use Rattle.wac_types_shapes.specs.declared.shapes.component.«Type».TheVariants as ty
use Rattle.wac_types_shapes.specs.declared.shapes.component.ItemKind.{ItemKind}
use Rattle.wac_types_shapes.specs.declared.shapes.component.ItemKind.TheVariants as kind
use Rattle.wac_types_collection.specs.collection.Collection.{Collection}
use Rattle.wac_types_collection.specs.collection.Bound.{Bindings, is_alias, own_name, inside_interface}
use Rattle.wac_binary.specs.declared.sorts.Description.TheVariants as d
use Rattle.wac_binary.specs.Items.{Decl, export_decl}
use Rattle.wac_encode_scopes.specs.declared.encodable.Encodable.TheVariants.{Instance}
use Rattle.wac_encode_scopes.specs.declared.state.State.{State}
use Rattle.wac_encode_scopes.specs.Books.{opened}
use Rattle.wac_encode_scopes.specs.States.{stack}
use Rattle.wac_encode_stacks.specs.Scopes.{at_type, Open, opening}
use Rattle.wac_encode_stacks.specs.private.Beside.{written_as}
use Rattle.wac_encode_stacks.specs.Good.{Good, top, innermost}
use Rattle.wac_encode_stacks.specs.Listed.{AreListed, RecordsNoType}

-- The own resource of an item: the resource of a type item that is neither an alias nor a used type.
abbrev pub own_in : Collection → List (Name × UsedType) → Name × ItemKind → Option ResourceId
own_in c uses (n, kind.TypeItem (ty.Resource r)) = if not (is_alias c r) && is_none (find_name uses n) then Some r else None
own_in c uses _ = None

-- The item, if it has an own resource; then all such items, in order.
abbrev pub own_item : Collection → List (Name × UsedType) → Name × ItemKind → List (Name × ItemKind)
own_item c uses e = option_case (own_in c uses e) [] (λ r. e ∷ [])

abbrev pub own_items : Collection → List (Name × UsedType) → List (Name × ItemKind) → List (Name × ItemKind)
own_items c uses es = flat_map (own_item c uses) es

-- Exports of fresh resources under the names of these items.
abbrev pub fresh_exports : List (Name × ItemKind) → List Decl
fresh_exports es = map (λ e. export_decl e.0 d.Fresh) es

-- No own resource of the interface is bound in the innermost scope; then: one of them is bound there.
abbrev pub BindsNone : Collection → Bool → Interface → State → Type 0
BindsNone c b it s = (r : ResourceId) (n : Name) → own_name c it.uses it.exports r ≡ Some n → (ms : List Bindings) → Good c ms (stack b s) → top ms r ≡ None

abbrev pub BindsOne : Collection → Bool → Interface → State → Type 0
BindsOne c b it s = (r : ResourceId) × (n : Name) × (own_name c it.uses it.exports r ≡ Some n) × ((ms : List Bindings) → Good c ms (stack b s) → (l : Leaf) × (top ms r ≡ Some l))

-- The scope records the own resources of the interface at type indexes, and nothing else.
pub record RecordsOwn (c : Collection) (it : Interface) (o : Open) : Type 0 where
  pub none : RecordsNoType o
  pub own : (r : ResourceId) (n : Name) → own_name c it.uses it.exports r ≡ Some n → (i : ℕ) × (o.binds r ≡ Some (at_type i))
  pub others : (r : ResourceId) → own_name c it.uses it.exports r ≡ None → o.binds r ≡ None

-- An instance type is opened. It exports the own resources of the interface, fresh and in order, and nothing else.
pub record BeginsInterface (c : Collection) (b : Bool) (it : Interface) (old new : State) : Type 0 where
  pub around : new.around.items ≡ old.around.items ++ old.here ∷ []
  pub content : new.here.content ≡ Instance (fresh_exports (own_items c it.uses it.exports))
  pub good : (ms : List Bindings) → Good c ms (stack b old) → Good c (inside_interface c it (top ms) ∷ ms) (stack b new)
  pub exports : (ms : List Bindings) → Good c ms (stack b old) → AreListed c (inside_interface c it (top ms)) exported (own_items c it.uses it.exports) ((innermost (stack b new)).exports)
  pub recorded : RecordsOwn c it (opened b new.here)
  -- It passes if and only if none of the own resources is bound outside.
  pub passes : (opened b new.here).passes ≡ true → BindsNone c b it old
  pub stays : (opened b new.here).passes ≡ false → BindsOne c b it old
  -- For the other collection it passes, and nothing is recorded.
  pub beside : opened (not b) new.here ≡ written_as (opened b new.here) (opening true)
