-- An item that is added after its type.
use Rattle.std.proofs.Common.{ℕ, ◌≡◌, Bool, false, List, [], ◌∷◌, ap, sym, ◌∙◌, subst, arith}
use Rattle.wac_types_shapes.specs.primitives.Name.{Name}
use Rattle.wac_types_shapes.specs.primitives.Tree.{Side, imported, exported, named, Tree, type_equal, function_item, instance_item, function, instance, component}
use Rattle.wac_types_shapes.specs.declared.shapes.component.ItemKind.{ItemKind}
use Rattle.wac_types_shapes.specs.declared.shapes.component.ItemKind.TheVariants as kind
use Rattle.wac_types_shapes.specs.declared.shapes.component.«Type».{«Type» as AnyType}
use Rattle.wac_types_shapes.specs.declared.shapes.component.«Type».TheVariants as ty
use Rattle.wac_types_collection.specs.collection.Collection.{Collection}
use Rattle.wac_types_collection.specs.collection.Bound.{Bindings, binds_here}
use Rattle.wac_binary.specs.declared.sorts.Description.{Description}
use Rattle.wac_binary.specs.HasMeaning.{IsFree, IsType, IsFunction, IsInstance, IsComponent}
use Rattle.wac_binary.specs.Unfold.{Scope, with_item}
use Rattle.wac_encode_stacks.specs.Scopes.{env, envs}
use Rattle.wac_encode_stacks.specs.Good.{At, Good, Grown, IsHeld, Keeps, Kept, innermost, top}
use Rattle.wac_encode_stacks.specs.Listed.{IsItem, on_side, other}
use Rattle.wac_encode_stacks.specs.private.Brought.{GoodOnce}
use Rattle.wac_encode_stacks.proofs.Meant.{value-type}
use Rattle.wac_encode_scopes.specs.declared.scope.Scope.{Scope as OpenScope}
use Rattle.wac_encode_scopes.specs.declared.state.State.{State}
use Rattle.wac_encode_scopes.specs.Books.{opened}
use Rattle.wac_encode_scopes.specs.States.{outward, stack, Goes, KeepsRecords}
use Rattle.wac_encode_scopes.specs.private.Listing.{Describes, RefersTo, ListsItem}
use Rattle.wac_encode_interfaces.specs.private.Items.{IsTypeOf, DescribesItem, AddsItem, RefersToItem}
use Rattle.wac_encode_interfaces.specs.private.Names.{NamesType}

-- scopes that grow

pub keeps-on : (a b d : Scope) → Keeps a b → Keeps b d → Keeps a d
keeps-on a b d g h = record {
  core_types = λ i t at. h.core_types i t (g.core_types i t at);
  types = λ i t at. h.types i t (g.types i t at);
  instances = λ i t at. h.instances i t (g.instances i t at);
  modules = (let one = g.modules in let two = h.modules in omega (arith, one, two));
  components = (let one = g.components in let two = h.components in omega (arith, one, two));
}

pub kept-on : (a b d : Scope) → Kept a b → Kept b d → Kept a d
kept-on a b d g h = record { keeps = keeps-on a b d g.keeps h.keeps; imports = h.imports ∙ g.imports; exports = h.exports ∙ g.exports }

pub grown-on : (a b d : List Scope) → Grown a b → Grown b d → Grown a d
grown-on [] [] [] g h = tt
grown-on (x ∷ xs) (y ∷ ys) (z ∷ zs) g h = (kept-on x y z g.0 h.0, grown-on xs ys zs g.1 h.1)
grown-on [] (y ∷ ys) d g h = absurd g
grown-on (x ∷ xs) [] d g h = absurd g
grown-on [] [] (z ∷ zs) g h = absurd h
grown-on (x ∷ xs) (y ∷ ys) [] g h = absurd h

pub side-kept : (side : Side) (e f : Scope) → Kept e f → on_side side f ≡ on_side side e
side-kept imported e f h = h.imports
side-kept exported e f h = h.exports

-- what an item's description says

function-type : (t : Tree) → IsFunction t → IsType t
function-type (function is_async names params result) h = tt
function-type t h = absurd h

instance-type : (t : Tree) → IsInstance t → IsType t
instance-type (instance items) h = tt
instance-type t h = absurd h

component-type : (t : Tree) → IsComponent t → IsType t
component-type (component xs ys) h = tt
component-type t h = absurd h

pub of-item : (a : AnyType) (t : Tree) → IsTypeOf a t → IsType t
of-item (ty.Resource r) t h = h
of-item (ty.Value v) t h = value-type t h
of-item (ty.Func f) t h = function-type t h
of-item (ty.Interface i) t h = instance-type t h
of-item (ty.World w) t h = component-type t h
of-item (ty.Module m) t h = absurd h

abbrev HasTree : Collection → Bool → State → ItemKind → Description → List Bindings → Type 0
HasTree c b s k d ms = (t : Tree) × Describes (innermost (stack b s)) d t × ((side : Side) (n : Name) → binds_here c (top ms) side (named n ∷ []) k ≡ false → IsItem c (top ms) side n k t)

has-tree : (c : Collection) (b : Bool) (s : State) (k : ItemKind) (d : Description) → DescribesItem c b s k d → (ms : List Bindings) → Good c ms (stack b s) → HasTree c b s k d ms
has-tree c b s (kind.TypeItem a) d h ms good =
    let at = h.2 ms good in
    (type_equal at.0, subst (λ (x : Description). Describes (innermost (stack b s)) x (type_equal at.0)) (sym h.1) (of-item a at.0 at.2, at.3), λ side n not_here. (not_here, at.1))
has-tree c b s (kind.Func f) d h ms good =
    let at = h.2 ms good in
    (function_item at.0, subst (λ (x : Description). Describes (innermost (stack b s)) x (function_item at.0)) (sym h.1) (at.2, at.3), λ side n not_here. at.1)
has-tree c b s (kind.Instance i) d h ms good =
    let at = h.2 ms good in
    (instance_item at.0, subst (λ (x : Description). Describes (innermost (stack b s)) x (instance_item at.0)) (sym h.1) (at.2, at.3), λ side n not_here. at.1)
has-tree c b s (kind.Component w) d h ms good = absurd h
has-tree c b s (kind.Module m) d h ms good = absurd h
has-tree c b s (kind.Value v) d h ms good = absurd h

-- the index of a type item that was added refers to its type

names-type : GoodOnce → (c : Collection) (b : Bool) (s t : State) (side : Side) (n : Name) (k : ItemKind) (d : Description) (i : ℕ) (ms : List Bindings) (h : DescribesItem c b s k d) (good : Good c ms (stack b s)) → Good c ms (stack b t) → RefersTo (innermost (stack b t)) side n d i (has-tree c b s k d h ms good).0 → NamesType c b t k i
unfolding has-tree
names-type once c b s t side n (kind.TypeItem a) d i ms h good after refers = λ ns there.
    let at = h.2 ms good in
    let same : ms ≡ ns = once c ms ns (stack b t) after there in
    let is : At ((innermost (stack b t)).types) i at.0 = subst (λ (x : Description). RefersTo (innermost (stack b t)) side n x i (type_equal at.0)) h.1 refers in
    (at.0, subst (λ (xs : List Bindings). IsHeld c (top xs) a at.0) same at.1, at.2, is)
names-type once c b s t side n (kind.Func f) d i ms h good after refers = tt
names-type once c b s t side n (kind.Instance j) d i ms h good after refers = tt
names-type once c b s t side n (kind.Component w) d i ms h good after refers = tt
names-type once c b s t side n (kind.Module m) d i ms h good after refers = tt
names-type once c b s t side n (kind.Value v) d i ms h good after refers = tt

-- the index of an instance that was added

refers-item : (c : Collection) (b : Bool) (s : State) (e : Scope) (side : Side) (n : Name) (k : ItemKind) (d : Description) (i : ℕ) (ms : List Bindings) (h : DescribesItem c b s k d) (good : Good c ms (stack b s)) → RefersTo e side n d i (has-tree c b s k d h ms good).0 → RefersToItem e side n k i (has-tree c b s k d h ms good).0
unfolding has-tree
refers-item c b s e side n (kind.TypeItem a) d i ms h good refers = tt
refers-item c b s e side n (kind.Func f) d i ms h good refers = tt
refers-item c b s e side n (kind.Instance j) d i ms h good refers = subst (λ (x : Description). RefersTo e side n x i (instance_item (h.2 ms good).0)) h.1 refers
refers-item c b s e side n (kind.Component w) d i ms h good refers = absurd h
refers-item c b s e side n (kind.Module m) d i ms h good refers = absurd h
refers-item c b s e side n (kind.Value v) d i ms h good refers = absurd h

refers-on : (e f : Scope) → Keeps e f → (side : Side) (n : Name) (k : ItemKind) (i : ℕ) (t : Tree) → RefersToItem e side n k i t → RefersToItem f side n k i t
refers-on e f keeps side n (kind.Instance j) i (instance_item t) h = keeps.instances i (record { type = t; side = side; path = named n ∷ [] }) h
refers-on e f keeps side n k i t h = tt

-- the item

same-items : (s t : State) → s.around ≡ t.around → s.around.items ≡ t.around.items
same-items s t h = cc

pub added : GoodOnce → (c : Collection) (b : Bool) (side : Side) (n : Name) (k : ItemKind) (old described listed new : State) (d : Description) (i : ℕ)
    → Goes c b old described → DescribesItem c b described k d → ListsItem side n d described listed i → KeepsRecords described listed → (NamesType c b listed k i → Goes c b listed new) → AddsItem c b side n k old new i
added once c b side n k old described listed new d i goes says lists keeps records m ms good name not_here =
    let on = goes.onward (m ∷ ms) good in
    let free = subst (λ (items : Name → Tree). IsFree (items n)) (sym (side-kept side (innermost (stack b old)) (innermost (stack b described)) on.1.0)) name in
    let tree = has-tree c b described k d says (m ∷ ms) on.0 in
    let step = lists c b m ms tree.0 on.0 free tree.1 in
    let around = same-items listed described keeps.0 in
    let after : Good c (m ∷ ms) (stack b listed) = subst (λ (ss : List OpenScope). Good c (m ∷ ms) (opened b listed.here ∷ outward b ss)) (sym around) step.0.good in
    let keeps : Keeps (innermost (stack b described)) (innermost (stack b listed)) = subst (λ (ss : List OpenScope). Keeps (innermost (stack b described)) (env (opened b listed.here) (envs (outward b ss)))) (sym around) step.0.keeps in
    let this : on_side side (innermost (stack b listed)) ≡ with_item (on_side side (innermost (stack b described))) n tree.0 = subst (λ (ss : List OpenScope). on_side side (env (opened b listed.here) (envs (outward b ss))) ≡ with_item (on_side side (innermost (stack b described))) n tree.0) (sym around) step.0.this in
    let that : on_side (other side) (innermost (stack b listed)) ≡ on_side (other side) (innermost (stack b described)) = subst (λ (ss : List OpenScope). on_side (other side) (env (opened b listed.here) (envs (outward b ss))) ≡ on_side (other side) (innermost (stack b described))) (sym around) step.0.that in
    let last = (records (names-type once c b described listed side n k d i (m ∷ ms) says on.0 after step.1)).onward (m ∷ ms) after in (
      tree.0,
      tree.2 side n not_here,
      record {
        good = last.0;
        keeps = keeps-on (innermost (stack b old)) (innermost (stack b described)) (innermost (stack b new)) on.1.0.keeps (keeps-on (innermost (stack b described)) (innermost (stack b listed)) (innermost (stack b new)) keeps last.1.0.keeps);
        around = grown-on (envs (outward b old.around.items)) (envs (outward b described.around.items)) (envs (outward b new.around.items)) on.1.1 (subst (λ (ss : List OpenScope). Grown (envs (outward b ss)) (envs (outward b new.around.items))) around last.1.1);
        this = side-kept side (innermost (stack b listed)) (innermost (stack b new)) last.1.0 ∙ this ∙ ap (λ (items : Name → Tree). with_item items n tree.0) (side-kept side (innermost (stack b old)) (innermost (stack b described)) on.1.0);
        that = side-kept (other side) (innermost (stack b listed)) (innermost (stack b new)) last.1.0 ∙ that ∙ side-kept (other side) (innermost (stack b old)) (innermost (stack b described)) on.1.0;
        refers = refers-on (innermost (stack b listed)) (innermost (stack b new)) last.1.0.keeps side n k i tree.0 (refers-item c b described (innermost (stack b listed)) side n k d i (m ∷ ms) says on.0 step.1);
      },
    )
