-- An item that the root imports after its type.
use Rattle.std.proofs.Common.{ℕ, ◌≡◌, Bool, true, false, not, if◌then◌else◌, List, [], ◌∷◌, ◌++◌, Some, None, refl, ap, sym, ◌∙◌, subst}
use Rattle.std.specs.Prelude.{length}
use Rattle.std.specs.List.{AllByRecursion}
use Rattle.wac_types_shapes.specs.primitives.Name.{Name}
use Rattle.wac_types_shapes.specs.primitives.Tree.{imported, Place, position, Tree, fresh, type_equal, function_item, instance_item, component_item, module_item}
use Rattle.wac_types_shapes.specs.shapes.Kinds.{kind_type}
use Rattle.wac_types_shapes.specs.declared.shapes.component.ItemKind.{ItemKind}
use Rattle.wac_types_shapes.specs.declared.shapes.component.ItemKind.TheVariants as kind
use Rattle.wac_types_shapes.specs.declared.shapes.component.InterfaceId.{InterfaceId}
use Rattle.wac_types_shapes.specs.declared.shapes.component.ModuleTypeId.{ModuleTypeId}
use Rattle.wac_types_shapes.specs.declared.shapes.component.WorldId.{WorldId}
use Rattle.wac_types_shapes.specs.declared.shapes.component.«Type».{«Type» as AnyType}
use Rattle.wac_types_shapes.specs.declared.shapes.component.«Type».TheVariants as ty
use Rattle.wac_types_shapes.specs.declared.shapes.core_types.ModuleType.{ModuleType}
use Rattle.wac_types_collection.specs.collection.Collection.{Collection, item_at}
use Rattle.wac_types_collection.specs.collection.Held.{module_tree as held_module_tree}
use Rattle.wac_types_collection.specs.collection.Bound.{Bindings, binds_here, held_tree, held_item}
use Rattle.wac_binary.specs.declared.sorts.Description.{Description}
use Rattle.wac_binary.specs.declared.sorts.Description.TheVariants as e
use Rattle.wac_binary.specs.declared.sorts.Sort.TheVariants as sort
use Rattle.wac_binary.specs.Indexes.{space, described_sort}
use Rattle.wac_binary.specs.Items.{Item, ModuleDecl, core_type, type_item, alias_item, export_alias, outer_alias}
use Rattle.wac_binary.specs.Meaning.{Root, start, read, read_all, meaning}
use Rattle.wac_binary.specs.Unfold.{Scope, module_tree, described_item}
use Rattle.wac_modules.specs.private.Declarations.{MeansModule}
use Rattle.wac_encode_stacks.specs.Scopes.{Open, envs, scope_of}
use Rattle.wac_encode_stacks.specs.private.Beside.{all_written_as}
use Rattle.wac_encode_stacks.specs.private.Brought.{GoodOnce}
use Rattle.wac_encode_stacks.specs.Good.{At, Good, IsHeld, Keeps, innermost, top}
use Rattle.wac_encode_stacks.specs.Instances.{ListsImport}
use Rattle.wac_encode_stacks.specs.private.Laws.{Follows, IsItsTree}
use Rattle.wac_encode_stacks.specs.private.Modules.{HoldsModule}
use Rattle.wac_encode_stacks.proofs.Grow.{at-type_at}
use Rattle.wac_encode_scopes.specs.declared.encodable.Encodable.{Encodable}
use Rattle.wac_encode_scopes.specs.declared.encodable.Encodable.TheVariants.{Builder, Instance, Component}
use Rattle.wac_encode_scopes.specs.declared.scope.Scope.{Scope as OpenScope}
use Rattle.wac_encode_scopes.specs.declared.state.State.{State}
use Rattle.wac_encode_scopes.specs.private.Components.{DefinesModuleType}
use Rattle.wac_encode_scopes.specs.Contents.{AddsTypes, IsTypeItem, content_of, count_of}
use Rattle.wac_encode_scopes.specs.private.Listing.{Describes}
use Rattle.wac_encode_scopes.specs.Roots.{IsRoot, items_of, and_import, ImportRefersTo, ImportsItem}
use Rattle.wac_encode_scopes.specs.States.{outward, stack, Goes, IsTypeAt, KeepsRecords, RecordsHere}
use Rattle.wac_encode_values.specs.private.Values.{IsReady}
use Rattle.wac_encode_faults.specs.Faults.{import_fault, listed_fault}
use Rattle.wac_encode_faults.specs.declared.fault.WriteFault.TheVariants as fault
use Rattle.wac_encode_interfaces.specs.private.Imports.{DescribesImport, ImportsBeside, ImportsOf, IsImportReady, IsModuleAt, RefersToImport, import_sort, module_type_of, next_place}
use Rattle.wac_encode_interfaces.specs.private.Items.{DescribesItem, HasInterfaceOf, IsItemReady}
use Rattle.wac_encode_interfaces.specs.private.Ready.{IsClean, IsInterfaceReady}
use Rattle.wac_encode_interfaces.specs.private.Worlds.{Worlds}
use Rattle.wac_encode_interfaces.specs.private.Names.{NamesType}
use Rattle.wac_encode_interfaces.specs.private.Sorts.{component_world}
use Rattle.wac_encode_interfaces.proofs.Adding.{of-item}
use Rattle.wac_encode_interfaces.proofs.Besides.{Long, same-items, listed-other, as-twice, long-same, long-outward}

-- core modules

pub module-goes : (c : Collection) (b : Bool) (x : ModuleType) (ds : List ModuleDecl) (old new : State) (k : ℕ) → MeansModule x ds → DefinesModuleType ds old new k → Goes c b old new
module-goes c b x ds old new k means defines = (defines means.meaning c b).0

module-there : (c : Collection) (b : Bool) (x : ModuleType) (ds : List ModuleDecl) (old new : State) (k : ℕ) (ms : List Bindings) → Good c ms (stack b old) → MeansModule x ds → DefinesModuleType ds old new k → At ((innermost (stack b new)).core_types) k (module_tree ds)
module-there c b x ds old new k [] good means defines = absurd good
module-there c b x ds old new k (m ∷ ms) good means defines = (defines means.meaning c b).1 m ms good

pub module-at : HoldsModule → (c : Collection) (b : Bool) (i : ModuleTypeId) (x : ModuleType) (ds : List ModuleDecl) (old new : State) (k : ℕ) → item_at c.modules i.0 ≡ Some x → IsReady c b old (ty.Module i) → MeansModule x ds → DefinesModuleType ds old new k → IsModuleAt c b new i k
module-at holds c b i x ds old new k at ready means defines = (
  held_module_tree x,
  λ m. holds c m i x at,
  tt,
  subst (λ (t : Tree). At ((innermost (stack b new)).core_types) k t) means.tree (module-there c b x ds old new k ready.0 ready.1 means defines),
)

-- what an import needs

pub interface-ready : (c : Collection) (b : Bool) (ws : Worlds) (s : State) (k : ItemKind) (i : InterfaceId) → kind_type k ≡ ty.Interface i → IsImportReady c b ws s k → IsInterfaceReady c b s false i
interface-ready c b ws s k i is h = record {
  bindings = h.ready.0;
  good = h.ready.1;
  tree = h.ready.2.0;
  held = subst (λ (a : AnyType). IsHeld c (top h.ready.0) a h.ready.2.0) is h.ready.2.1;
  clean = subst (IsClean c) is h.clean;
}

listed-as-import : (k : ItemKind) → component_world k ≡ None → module_type_of k ≡ None → import_fault k ≡ None → listed_fault k ≡ None
listed-as-import (kind.TypeItem (ty.Resource r)) other plain h = refl
listed-as-import (kind.TypeItem (ty.Value v)) other plain h = refl
listed-as-import (kind.TypeItem (ty.Func f)) other plain h = refl
listed-as-import (kind.TypeItem (ty.Interface i)) other plain h = refl
listed-as-import (kind.TypeItem (ty.World w)) other plain h = refl
listed-as-import (kind.TypeItem (ty.Module m)) other plain h = h
listed-as-import (kind.Func f) other plain h = refl
listed-as-import (kind.Instance i) other plain h = refl
listed-as-import (kind.Component w) other plain h = let wrong : Some w ≡ None = other in cc
listed-as-import (kind.Module m) other plain h = let wrong : Some m ≡ None = plain in cc
listed-as-import (kind.Value v) other plain h = let wrong : Some fault.ValueItem ≡ None = h in cc

-- After the interface of an item is written, the item can be added.
pub item-after : (c : Collection) (b : Bool) (ws : Worlds) (old new : State) (k : ItemKind) → component_world k ≡ None → module_type_of k ≡ None → IsImportReady c b ws old k → Goes c b old new → HasInterfaceOf b new k → IsItemReady c b ws new k
item-after c b ws old new k other plain h goes has = record {
  held = h.held;
  ready = (h.ready.0, (goes.onward h.ready.0 h.ready.1).0, h.ready.2);
  writable = listed-as-import k other plain h.writable;
  worlds = h.worlds;
  interface = has;
}

pub described-item : (c : Collection) (b : Bool) (s : State) (k : ItemKind) (d : Description) → component_world k ≡ None → module_type_of k ≡ None → DescribesItem c b s k d → DescribesImport c b s k d
described-item c b s (kind.TypeItem a) d other plain h = h
described-item c b s (kind.Func f) d other plain h = h
described-item c b s (kind.Instance i) d other plain h = h
described-item c b s (kind.Component w) d other plain h = absurd h
described-item c b s (kind.Module m) d other plain h = absurd h
described-item c b s (kind.Value v) d other plain h = absurd h

pub described-component : (c : Collection) (b : Bool) (s : State) (k : ItemKind) (w : WorldId) (i : ℕ) → component_world k ≡ Some w → IsTypeAt c b s (ty.World w) i → DescribesImport c b s k (e.Component i)
described-component c b s (kind.Component v) w i is h = let same : v ≡ w = cc in (i, refl, subst (λ (x : WorldId). IsTypeAt c b s (ty.World x) i) (sym same) h)
described-component c b s (kind.TypeItem a) w i is h = let wrong : None ≡ Some w = is in cc
described-component c b s (kind.Func f) w i is h = let wrong : None ≡ Some w = is in cc
described-component c b s (kind.Instance j) w i is h = let wrong : None ≡ Some w = is in cc
described-component c b s (kind.Module m) w i is h = let wrong : None ≡ Some w = is in cc
described-component c b s (kind.Value v) w i is h = let wrong : None ≡ Some w = is in cc

pub component-is : (k : ItemKind) (w : WorldId) → component_world k ≡ Some w → k ≡ kind.Component w
component-is (kind.Component v) w is = let same : v ≡ w = cc in ap kind.Component same
component-is (kind.TypeItem a) w is = let wrong : None ≡ Some w = is in cc
component-is (kind.Func f) w is = let wrong : None ≡ Some w = is in cc
component-is (kind.Instance j) w is = let wrong : None ≡ Some w = is in cc
component-is (kind.Module m) w is = let wrong : None ≡ Some w = is in cc
component-is (kind.Value v) w is = let wrong : None ≡ Some w = is in cc

-- the tree that a description says

record IsDescribed (c : Collection) (b : Bool) (s : State) (k : ItemKind) (d : Description) (p : List Place) (ms : List Bindings) : Type 0 where
  says : Describes (innermost (stack b s)) d (held_item c (top ms) imported p k)
  sorted : described_sort d ≡ import_sort k

is-equal : IsItsTree → (c : Collection) (m : Bindings) (a : AnyType) (t : Tree) (is_fresh : Bool) → is_fresh ≡ false → IsHeld c m a t → type_equal t ≡ (if is_fresh then fresh else type_equal (held_tree c m a))
is-equal tree c m a t true wrong held = cc
is-equal tree c m a t false here held = ap type_equal (sym (tree c m a t held))

describes-import : IsItsTree → (c : Collection) (b : Bool) (s : State) (k : ItemKind) (d : Description) (p : List Place) → DescribesImport c b s k d → (ms : List Bindings) → Good c ms (stack b s) → binds_here c (top ms) imported p k ≡ false → IsDescribed c b s k d p ms
describes-import tree c b s (kind.TypeItem a) d p h ms good not_here =
    let at = h.2 ms good in
    record {
      says = subst (λ (x : Description). Describes (innermost (stack b s)) x (held_item c (top ms) imported p (kind.TypeItem a))) (sym h.1)
          (subst (λ (t : Tree). Describes (innermost (stack b s)) (e.Equal h.0) t) (is-equal tree c (top ms) a at.0 (binds_here c (top ms) imported p (kind.TypeItem a)) not_here at.1) (of-item a at.0 at.2, at.3));
      sorted = ap described_sort h.1;
    }
describes-import tree c b s (kind.Func f) d p h ms good not_here =
    let at = h.2 ms good in
    record {
      says = subst (λ (x : Description). Describes (innermost (stack b s)) x (function_item (held_tree c (top ms) (ty.Func f)))) (sym h.1)
          (subst (λ (t : Tree). Describes (innermost (stack b s)) (e.Func h.0) (function_item t)) (sym (tree c (top ms) (ty.Func f) at.0 at.1)) (at.2, at.3));
      sorted = ap described_sort h.1;
    }
describes-import tree c b s (kind.Instance i) d p h ms good not_here =
    let at = h.2 ms good in
    record {
      says = subst (λ (x : Description). Describes (innermost (stack b s)) x (instance_item (held_tree c (top ms) (ty.Interface i)))) (sym h.1)
          (subst (λ (t : Tree). Describes (innermost (stack b s)) (e.Instance h.0) (instance_item t)) (sym (tree c (top ms) (ty.Interface i) at.0 at.1)) (at.2, at.3));
      sorted = ap described_sort h.1;
    }
describes-import tree c b s (kind.Component w) d p h ms good not_here =
    let at = h.2 ms good in
    record {
      says = subst (λ (x : Description). Describes (innermost (stack b s)) x (component_item (held_tree c (top ms) (ty.World w)))) (sym h.1)
          (subst (λ (t : Tree). Describes (innermost (stack b s)) (e.Component h.0) (component_item t)) (sym (tree c (top ms) (ty.World w) at.0 at.1)) (at.2, at.3));
      sorted = ap described_sort h.1;
    }
describes-import tree c b s (kind.Module k) d p h ms good not_here =
    let at = h.2 in
    record {
      says = subst (λ (x : Description). Describes (innermost (stack b s)) x (module_item (held_tree c (top ms) (ty.Module k)))) (sym h.1)
          (subst (λ (t : Tree). Describes (innermost (stack b s)) (e.CoreModule h.0) (module_item t)) (sym (tree c (top ms) (ty.Module k) at.0 (at.1 (top ms)))) (at.2, at.3));
      sorted = ap described_sort h.1;
    }
describes-import tree c b s (kind.Value v) d p h ms good not_here = absurd h

-- What is described in scope is the described item.
in-scope : (w : Scope) (d : Description) (t : Tree) → Describes w d t → described_item w d ≡ t
in-scope w (e.Equal i) (type_equal t) h = ap type_equal (at-type_at w.types i t h.1)
in-scope w (e.Func i) (function_item t) h = ap function_item (at-type_at w.types i t h.1)
in-scope w (e.Instance i) (instance_item t) h = ap instance_item (at-type_at w.types i t h.1)
in-scope w (e.Component i) (component_item t) h = ap component_item (at-type_at w.types i t h.1)
in-scope w (e.CoreModule i) (module_item t) h = ap module_item (at-type_at w.core_types i t h.1)
in-scope w d t h = absurd h

-- types and aliases of types import nothing

quiet-read : (r : Root) (x : Item) → IsTypeItem x → (read r x).imports ≡ r.imports
quiet-read r (core_type t) h = refl
quiet-read r (type_item t) h = refl
quiet-read r (alias_item (export_alias sort.«Type» j n)) h = refl
quiet-read r (alias_item (outer_alias sort.«Type» k i)) h = refl
quiet-read r x h = absurd h

quiet-all : (r : Root) (more : List Item) → AllByRecursion IsTypeItem more → (read_all r more).imports ≡ r.imports
quiet-all r [] h = refl
quiet-all r (x ∷ more) h = quiet-all (read r x) more h.1 ∙ quiet-read r x h.0

read-on : (r : Root) (xs more : List Item) → read_all r (xs ++ more) ≡ read_all (read_all r xs) more
read-on r [] more = refl
read-on r (x ∷ xs) more = read-on (read r x) xs more

pub types-import : (x y : Encodable) → IsRoot x → AddsTypes x y → (meaning (items_of y)).imports ≡ (meaning (items_of x)).imports
types-import (Builder xs) (Builder ys) is h =
    ap (λ (zs : List Item). (meaning zs).imports) h.1
    ∙ ap (λ (r : Root). r.imports) (read-on start xs h.0)
    ∙ quiet-all (meaning xs) h.0 h.2
types-import (Builder xs) (Instance ds) is h = absurd h
types-import (Builder xs) (Component ds) is h = absurd h
types-import (Instance ds) y is h = absurd is
types-import (Component ds) y is h = absurd is

pub root-more : (x y : Encodable) → IsRoot x → AddsTypes x y → IsRoot y
root-more (Builder xs) (Builder ys) is h = tt
root-more (Builder xs) (Instance ds) is h = absurd h
root-more (Builder xs) (Component ds) is h = absurd h
root-more (Instance ds) y is h = absurd is
root-more (Component ds) y is h = absurd is

root-scope : (b : Bool) (s : State) → IsRoot s.here.content → innermost (stack b s) ≡ (meaning (items_of s.here.content)).scope
root-scope b s is = by s.here.content is refl
  where
    by : (x : Encodable) → IsRoot x → s.here.content ≡ x → innermost (stack b s) ≡ (meaning (items_of s.here.content)).scope
    by (Builder items) h same =
        ap (λ (x : Encodable). scope_of (content_of x) (envs (outward b s.around.items))) same
        ∙ sym (ap (λ (x : Encodable). (meaning (items_of x)).scope) same)
    by (Instance ds) h same = absurd h
    by (Component ds) h same = absurd h

-- what the index refers to

names-import : GoodOnce → (c : Collection) (b : Bool) (s t : State) (p : Place) (k : ItemKind) (d : Description) (i : ℕ) (m : Bindings) → DescribesImport c b s k d → Good c (m ∷ []) (stack b s) → Good c (m ∷ []) (stack b t)
    → ImportRefersTo (innermost (stack b t)) p d i (held_item c m imported (p ∷ []) k) → binds_here c m imported (p ∷ []) k ≡ false → IsItsTree → NamesType c b t k i
names-import once c b s t p (kind.TypeItem a) d i m h good after refers not_here tree = λ ns there.
    let at = h.2 (m ∷ []) good in
    let one : (m ∷ []) ≡ ns = once c (m ∷ []) ns (stack b t) after there in
    let is : At ((innermost (stack b t)).types) i at.0 =
    subst (λ (x : Description). ImportRefersTo (innermost (stack b t)) p x i (type_equal at.0)) h.1
    (subst (λ (z : Tree). ImportRefersTo (innermost (stack b t)) p d i z) (sym (is-equal tree c m a at.0 (binds_here c m imported (p ∷ []) (kind.TypeItem a)) not_here at.1)) refers) in
    (at.0, subst (λ (xs : List Bindings). IsHeld c (top xs) a at.0) one at.1, at.2, is)
names-import once c b s t p (kind.Func f) d i m h good after refers not_here tree = tt
names-import once c b s t p (kind.Instance j) d i m h good after refers not_here tree = tt
names-import once c b s t p (kind.Component w) d i m h good after refers not_here tree = tt
names-import once c b s t p (kind.Module k) d i m h good after refers not_here tree = tt
names-import once c b s t p (kind.Value v) d i m h good after refers not_here tree = tt

refers-import : IsItsTree → (c : Collection) (b : Bool) (s : State) (w f : Scope) (p : Place) (k : ItemKind) (d : Description) (i : ℕ) (m : Bindings) → DescribesImport c b s k d → Good c (m ∷ []) (stack b s) → Keeps w f
    → ImportRefersTo w p d i (held_item c m imported (p ∷ []) k) → binds_here c m imported (p ∷ []) k ≡ false → RefersToImport c m f p k i
refers-import tree c b s w f p (kind.TypeItem a) d i m h good keeps refers not_here =
    let at = h.2 (m ∷ []) good in
    let is : At w.types i at.0 =
    subst (λ (x : Description). ImportRefersTo w p x i (type_equal at.0)) h.1
    (subst (λ (z : Tree). ImportRefersTo w p d i z) (sym (is-equal tree c m a at.0 (binds_here c m imported (p ∷ []) (kind.TypeItem a)) not_here at.1)) refers) in
    (at.0, at.1, keeps.types i at.0 is)
refers-import tree c b s w f p (kind.Instance j) d i m h good keeps refers not_here =
    let at = h.2 (m ∷ []) good in
    let is : At w.instances i (record { type = at.0; side = imported; path = p ∷ [] }) =
    subst (λ (x : Description). ImportRefersTo w p x i (instance_item at.0)) h.1
    (subst (λ (z : Tree). ImportRefersTo w p d i (instance_item z)) (tree c m (ty.Interface j) at.0 at.1) refers) in
    (at.0, at.1, keeps.instances i (record { type = at.0; side = imported; path = p ∷ [] }) is)
refers-import tree c b s w f p (kind.Func g) d i m h good keeps refers not_here = tt
refers-import tree c b s w f p (kind.Component v) d i m h good keeps refers not_here = tt
refers-import tree c b s w f p (kind.Module k) d i m h good keeps refers not_here = tt
refers-import tree c b s w f p (kind.Value v) d i m h good keeps refers not_here = tt

-- the import

pub imported-item : GoodOnce → IsItsTree → Follows → ListsImport → (c : Collection) (b : Bool) (n : Name) (k : ItemKind) (g : Open → Open) (old described listed new : State) (d : Description) (i : ℕ) → IsRoot old.here.content
    → Goes c b old described → DescribesImport c b described k d → ImportsItem d described listed i → listed.here.content ≡ and_import n d described.here.content
    → (NamesType c b listed k i → Goes c b listed new) → RecordsHere b g listed new → ImportsOf c b n k old new i
imported-item once tree follows lists c b n k g old described listed new d i is goes says imports content records kept m good not_here =
    let p = next_place old in
    let on = goes.onward (m ∷ []) good in
    let more = types-import old.here.content described.here.content is goes.types.0 in
    let place : p ≡ next_place described = ap (λ (xs : List (Name × Tree)). position (length xs)) (sym more) in
    let root = root-more old.here.content described.here.content is goes.types.0 in
    let t = held_item c m imported (p ∷ []) k in
    let told = describes-import tree c b described k d (p ∷ []) says (m ∷ []) on.0 not_here in
    let step = imports c b m [] t on.0 told.says in
    let refers : ImportRefersTo (innermost (stack b listed)) p d i t = subst (λ (q : Place). ImportRefersTo (innermost (stack b listed)) q d i t) (sym place) step.1 in
    let last = (records (names-import once c b described listed p k d i m says on.0 step.0.0 refers not_here tree)).onward (m ∷ []) step.0.0 in
    let item : described_item (meaning (items_of described.here.content)).scope d ≡ t = ap (λ (w : Scope). described_item w d) (sym (root-scope b described root)) ∙ in-scope (innermost (stack b described)) d t told.says in
    record {
      onward = follows c (m ∷ []) (stack b old) (stack b described) (stack b new) on (follows c (m ∷ []) (stack b described) (stack b listed) (stack b new) step.0 last);
      imports =
          ap (λ (x : Encodable). (meaning (items_of x)).imports) (kept.content ∙ content)
          ∙ (lists (items_of described.here.content) n d).0
          ∙ ap (λ (x : Tree). (meaning (items_of described.here.content)).imports ++ (n, x) ∷ []) item
          ∙ ap (λ (xs : List (Name × Tree)). xs ++ (n, t) ∷ []) more;
      refers = refers-import tree c b described (innermost (stack b listed)) (innermost (stack b new)) p k d i m says on.0 last.1.0.keeps refers not_here;
    }

sort-of : (c : Collection) (b : Bool) (s : State) (k : ItemKind) (d : Description) → DescribesImport c b s k d → described_sort d ≡ import_sort k
sort-of c b s (kind.TypeItem a) d h = ap described_sort h.1
sort-of c b s (kind.Func f) d h = ap described_sort h.1
sort-of c b s (kind.Instance i) d h = ap described_sort h.1
sort-of c b s (kind.Component w) d h = ap described_sort h.1
sort-of c b s (kind.Module m) d h = ap described_sort h.1
sort-of c b s (kind.Value v) d h = absurd h

pub imported-beside : (c : Collection) (b : Bool) (n : Name) (k : ItemKind) (f : Open → Open) (old described listed new : State) (d : Description) (i : ℕ) → Goes c b old described → DescribesImport c b described k d
    → KeepsRecords described listed → listed.here.content ≡ and_import n d described.here.content → i ≡ count_of (space (described_sort d)) described.here.content → RecordsHere b f listed new → ImportsBeside b n k i old new
imported-beside c b n k f old described listed new d i goes says keeps content index records =
    let around : new.around.items ≡ described.around.items = same-items new listed records.around ∙ same-items listed described keeps.0 in
    record {
      other =
          listed-other b f described listed new keeps records
          ∙ ap (all_written_as (stack b new)) goes.other
          ∙ as-twice (stack b described) (stack b new) (stack (not b) old)
          (subst (λ (ss : List OpenScope). Long (outward b described.around.items) (outward b ss)) (sym around) (long-same (outward b described.around.items)))
          (long-outward b (not b) old.around.items described.around.items goes.types.1);
      between = described.here.content;
      types = goes.types.0;
      description = d;
      content = records.content ∙ content;
      sorted = sort-of c b described k d says;
      index = index;
    }

-- a core module

-- The core type index keeps its meaning where the scopes have only grown.
module-kept : (c : Collection) (b : Bool) (old new : State) (k : ModuleTypeId) (i : ℕ) → Keeps (innermost (stack b old)) (innermost (stack b new)) → IsModuleAt c b old k i → IsModuleAt c b new k i
module-kept c b old new k i keeps h = (h.0, h.1, h.2, keeps.core_types i h.0 h.3)

-- It has it after the import too.
pub module-after : (c : Collection) (b : Bool) (old described listed : State) (k : ModuleTypeId) (i j : ℕ) → IsReady c b old (ty.Module k) → Goes c b old described → IsModuleAt c b described k i → ImportsItem (e.CoreModule i) described listed j
    → IsModuleAt c b listed k i
module-after c b old described listed k i j ready goes h imports = by ready.0 ready.1
  where
    by : (ms : List Bindings) → Good c ms (stack b old) → IsModuleAt c b listed k i
    by [] good = absurd good
    by (m ∷ ms) good =
        let on = goes.onward (m ∷ ms) good in
        let step = imports c b m ms (module_item h.0) on.0 (h.2, h.3) in
        module-kept c b described listed k i (step.0).1.0.keeps h
