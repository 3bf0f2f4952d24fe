-- The root while nodes are written into it: what keeps it open, and the types that are written there.
use Rattle.std.proofs.Common.{◌≡◌, ℕ, Bool, false, List, [], ◌∷◌, ◌++◌, refl, sym, subst}
use Rattle.std.specs.List.{AllByRecursion}
use Rattle.wac_types_shapes.specs.primitives.Tree.{Tree, absent, resource}
use Rattle.wac_types_shapes.specs.declared.shapes.component.ResourceId.{ResourceId}
use Rattle.wac_types_shapes.specs.declared.shapes.component.«Type».{«Type» as AnyType}
use Rattle.wac_types_shapes.specs.declared.shapes.component.«Type».TheVariants as ty
use Rattle.wac_types_collection.specs.collection.Bound.{Bindings}
use Rattle.wac_binary.specs.declared.sorts.Sort.TheVariants as sort
use Rattle.wac_binary.specs.Items.{Alias, Item, export_alias, outer_alias, core_type, type_item, alias_item}
use Rattle.wac_binary.specs.Indexes.{alias_sort}
use Rattle.wac_binary.specs.Meaning.{meaning}
use Rattle.wac_binary.specs.HasMeaning.{HasMeaning, IsComponent, IsFunction, IsValue, IsResource}
use Rattle.wac_binary.specs.Unfold.{Scope}
use Rattle.wac_encode_stacks.specs.Scopes.{ContentHasMeaning, envs, scope_of}
use Rattle.wac_encode_stacks.specs.Good.{At, Good, innermost}
use Rattle.wac_encode_stacks.proofs.Grow.{at-type_at}
use Rattle.wac_encode_scopes.specs.declared.encodable.Encodable.{Encodable}
use Rattle.wac_encode_scopes.specs.declared.encodable.Encodable.TheVariants.{Builder, Instance, Component}
use Rattle.wac_encode_scopes.specs.declared.state.State.{State}
use Rattle.wac_encode_scopes.specs.Contents.{AddsTypes, IsTypeAlias, IsTypeItem, content_of}
use Rattle.wac_encode_scopes.specs.Lending.{GoesOnLent, with_items}
use Rattle.wac_encode_scopes.specs.Roots.{IsRoot, items_of}
use Rattle.wac_encode_scopes.specs.States.{outward, stack, Goes}
use Rattle.wac_encode_faults.specs.Trees.{definition_tree}
use Rattle.wac_encode_interfaces.specs.private.Definitions.{IsDefinitionAt, IsOfDefinition}
use Rattle.wac_graph_model.specs.nodes.Graph.{Graph}
use Rattle.wac_graph_model.specs.private.meaning.Encoding.{IsTypeAlone}
use Rattle.wac_graph_model.specs.private.meaning.Writing.{WritesTypeWith}
use Rattle.wac_graph_reader.specs.private.reading.Appended.{AppendsItems}
use Rattle.wac_graph_encode.specs.private.encoding.Laws.{GrowthLaws}
use Rattle.wac_graph_encode.specs.private.encoding.Root.{IsOpenRoot, KeepsRoot}

pub root-is : (x : Encodable) → IsRoot x → x ≡ Builder (items_of x)
root-is (Builder items) h = refl
root-is (Instance ds) h = absurd h
root-is (Component ds) h = absurd h

-- ---- items that are appended

pub appended-open : GoesOnLent → (g : Graph) (old new : State) → AppendsItems old new → KeepsRoot g old new
appended-open law g old new appended m open_root means =
    let (more, is) = appended in
    let lent = law old (items_of old.here.content) more (root-is old.here.content open_root.root) (subst (λ (s : State). HasMeaning (items_of s.here.content)) is means) g.types false m [] open_root.good in
    record {
      root = subst (λ (s : State). IsRoot s.here.content) (sym is) tt;
      good = subst (λ (s : State). Good g.types (m ∷ []) (stack false s)) (sym is) lent.0;
    }

-- One item more.
pub keeps-more : GrowthLaws → (g : Graph) (old mid new : State) (x : Item) → new ≡ with_items mid (items_of mid.here.content ++ x ∷ []) → KeepsRoot g old mid → KeepsRoot g old new
keeps-more laws g old mid new x is keeps m open_root means =
    let before = laws.before (items_of mid.here.content) x (subst (λ (s : State). HasMeaning (items_of s.here.content)) is means) in
    appended-open laws.lent g mid new (x ∷ [], is) m (keeps m open_root before.0) means

-- ---- types that are appended

pub root-more : (x y : Encodable) → IsRoot x → AddsTypes x y → IsRoot y
root-more (Builder xs) (Builder ys) is h = tt
root-more (Builder xs) (Instance ds) is h = absurd h
root-more (Builder xs) (Component ds) is h = absurd h
root-more (Instance ds) y is h = absurd is
root-more (Component ds) y is h = absurd is

pub goes-open : (g : Graph) (m : Bindings) (old new : State) → Goes g.types false old new → IsOpenRoot g m old → IsOpenRoot g m new
goes-open g m old new goes open_root = record {
  root = root-more old.here.content new.here.content open_root.root goes.types.0;
  good = (goes.onward (m ∷ []) open_root.good).0;
}

type-alias : (a : Alias) → IsTypeAlias a → alias_sort a ≡ sort.«Type»
type-alias (export_alias sort.«Type» j n) h = refl
type-alias (export_alias sort.CoreModule j n) h = absurd h
type-alias (export_alias sort.Func j n) h = absurd h
type-alias (export_alias sort.Value j n) h = absurd h
type-alias (export_alias sort.Component j n) h = absurd h
type-alias (export_alias sort.Instance j n) h = absurd h
type-alias (outer_alias sort.«Type» k i) h = refl
type-alias (outer_alias sort.CoreModule k i) h = absurd h
type-alias (outer_alias sort.Func k i) h = absurd h
type-alias (outer_alias sort.Value k i) h = absurd h
type-alias (outer_alias sort.Component k i) h = absurd h
type-alias (outer_alias sort.Instance k i) h = absurd h

type-alone : (x : Item) → IsTypeItem x → IsTypeAlone x
type-alone (core_type t) h = tt
type-alone (type_item t) h = tt
type-alone (alias_item a) h = type-alias a h
type-alone x h = absurd h

all-alone : (xs : List Item) → AllByRecursion IsTypeItem xs → AllByRecursion IsTypeAlone xs
all-alone [] h = tt
all-alone (x ∷ xs) h = (type-alone x h.0, all-alone xs h.1)

-- The items are the old ones and types.
pub record TypesAdded (items items' : List Item) : Type 0 where
  pub types : List Item
  pub alone : AllByRecursion IsTypeAlone types
  pub added : items' ≡ items ++ types

pub types-added : (x y : Encodable) → IsRoot x → AddsTypes x y → TypesAdded (items_of x) (items_of y)
types-added (Builder xs) (Builder ys) is h = record { types = h.0; alone = all-alone h.0 h.2; added = h.1 }
types-added (Builder xs) (Instance ds) is h = absurd h
types-added (Builder xs) (Component ds) is h = absurd h
types-added (Instance ds) y is h = absurd is
types-added (Component ds) y is h = absurd is

-- ---- an open root has a meaning

content-means : (x : Encodable) (out : List Scope) → IsRoot x → ContentHasMeaning (content_of x) out → HasMeaning (items_of x)
content-means (Builder items) out is h = h
content-means (Instance ds) out is h = absurd is
content-means (Component ds) out is h = absurd is

pub open-means : (g : Graph) (m : Bindings) (s : State) → IsOpenRoot g m s → HasMeaning (items_of s.here.content)
open-means g m s h = content-means s.here.content (envs (outward false s.around.items)) h.root (h.good.0).meaning

content-scope : (x : Encodable) (out : List Scope) → IsRoot x → scope_of (content_of x) out ≡ (meaning (items_of x)).scope
content-scope (Builder items) out is = refl
content-scope (Instance ds) out is = absurd is
content-scope (Component ds) out is = absurd is

pub open-scope : (b : Bool) (s : State) → IsRoot s.here.content → innermost (stack b s) ≡ (meaning (items_of s.here.content)).scope
open-scope b s is = content-scope s.here.content (envs (outward b s.around.items)) is

-- ---- the type of a definition

value-there : (t : Tree) → IsValue t → t ≡ absent → ⊥
value-there t h is = subst IsValue is h

function-there : (t : Tree) → IsFunction t → t ≡ absent → ⊥
function-there t h is = subst IsFunction is h

component-there : (t : Tree) → IsComponent t → t ≡ absent → ⊥
component-there t h is = subst IsComponent is h

value-no-resource : (t : Tree) → IsValue t → IsResource t → ⊥
value-no-resource (resource l) h refuted = h
value-no-resource t h refuted = refuted

function-no-resource : (t : Tree) → IsFunction t → IsResource t → ⊥
function-no-resource (resource l) h refuted = h
function-no-resource t h refuted = refuted

component-no-resource : (t : Tree) → IsComponent t → IsResource t → ⊥
component-no-resource (resource l) h refuted = h
component-no-resource t h refuted = refuted

definition-there : (a : AnyType) (t : Tree) → ((r : ResourceId) → a ≡ ty.Resource r → ⊥) → IsOfDefinition a t → t ≡ absent → ⊥
definition-there (ty.Interface i) t refuted h = component-there t h
definition-there (ty.World w) t refuted h = component-there t h
definition-there (ty.Value v) t refuted h = value-there t h
definition-there (ty.Func f) t refuted h = function-there t h
definition-there (ty.Module m) t refuted h = absurd h
definition-there (ty.Resource r) t refuted h = absurd (refuted r refl)

definition-no-resource : (a : AnyType) (t : Tree) → ((r : ResourceId) → a ≡ ty.Resource r → ⊥) → IsOfDefinition a t → IsResource t → ⊥
definition-no-resource (ty.Interface i) t refuted h = component-no-resource t h
definition-no-resource (ty.World w) t refuted h = component-no-resource t h
definition-no-resource (ty.Value v) t refuted h = value-no-resource t h
definition-no-resource (ty.Func f) t refuted h = function-no-resource t h
definition-no-resource (ty.Module m) t refuted h = absurd h
definition-no-resource (ty.Resource r) t refuted h = absurd (refuted r refl)

-- The definition of a type is written.
pub writes-definition : (g : Graph) (m : Bindings) (a : AnyType) (old new : State) (k : ℕ) → ((r : ResourceId) → a ≡ ty.Resource r → ⊥) → IsOpenRoot g m old → Goes g.types false old new → IsDefinitionAt g.types false new a k
    → WritesTypeWith (definition_tree g.types m a) (items_of old.here.content) (items_of new.here.content) k
writes-definition g m a old new k refuted open_root goes is =
    let now = goes-open g m old new goes open_root in
    let (sort_is, at) = is (m ∷ []) now.good in
    let more = types-added old.here.content new.here.content open_root.root goes.types.0 in
    record {
      types = more.types;
      alone = more.alone;
      added = more.added;
      there = definition-there a (definition_tree g.types m a) refuted sort_is;
      no_resource = definition-no-resource a (definition_tree g.types m a) refuted sort_is;
      meant = λ means. (
        open-means g m new now,
        at-type_at (meaning (items_of new.here.content)).scope.types k (definition_tree g.types m a) (subst (λ (w : Scope). At w.types k (definition_tree g.types m a)) (open-scope false new now.root) at),
      );
    }
