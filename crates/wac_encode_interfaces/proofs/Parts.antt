-- Levels whose items can be written: down from an interface that can be written.
use Rattle.std.specs.Prelude.{Contains}
use Rattle.std.specs.List.{AllByRecursion}
use Rattle.std.proofs.Common.{ℕ, ◌≡◌, inl, inr, Bool, true, false, List, [], ◌∷◌, length, slice_get, Option, Some, None, refl, ap, sym, ◌∙◌, subst}
use Rattle.wac_types_shapes.specs.primitives.Name.{Name, option_case, find_name}
use Rattle.wac_types_shapes.specs.primitives.Tree.{Tree}
use Rattle.wac_types_shapes.specs.shapes.Kinds.{kind_type}
use Rattle.wac_types_shapes.specs.declared.shapes.component.InterfaceId.{InterfaceId}
use Rattle.wac_types_shapes.specs.declared.shapes.component.Interface.{Interface}
use Rattle.wac_types_shapes.specs.declared.shapes.component.ItemKind.{ItemKind}
use Rattle.wac_types_shapes.specs.declared.shapes.component.ItemKind.TheVariants as kind
use Rattle.wac_types_shapes.specs.declared.shapes.component.«Type».{«Type» as AnyType}
use Rattle.wac_types_shapes.specs.declared.shapes.component.«Type».TheVariants as ty
use Rattle.wac_types_collection.specs.declared.collection.collection.Held.{Held}
use Rattle.wac_types_collection.specs.collection.Collection.{Collection, IsWellFormed, HasInterface, item_at, interface_exports, holds_type, kind_types, used_types, IsBefore}
use Rattle.wac_types_collection.specs.collection.Bound.{Bindings, inside_interface, lists_type}
use Rattle.wac_types_collection.proofs.lemmas.collection.Growth.{type_within}
use Rattle.wac_types_collection.proofs.lemmas.collection.Steady.{found_before, within}
use Rattle.wac_encode_stacks.specs.Scopes.{How, Stack, env, envs}
use Rattle.wac_encode_stacks.specs.Good.{Good, Holds, top}
use Rattle.wac_encode_stacks.specs.private.HeldParts.{HoldsItems}
use Rattle.wac_encode_stacks.specs.Listed.{FreshInInterface}
use Rattle.wac_encode_stacks.proofs.Unfolded.{held_item, all_right}
use Rattle.wac_encode_scopes.specs.declared.state.State.{State}
use Rattle.wac_encode_scopes.specs.States.{stack, IsRecordedAt}
use Rattle.wac_encode_faults.specs.declared.fault.WriteFault.{WriteFault}
use Rattle.wac_encode_faults.specs.Faults.{IsListed, itself, in_item, listed_fault, of_listed}
use Rattle.wac_encode_interfaces.specs.private.Trees.{IsInterfaceHeld}
use Rattle.wac_encode_interfaces.specs.private.Worlds.{Worlds, HaveWorlds, HaveInterfaceWorlds}
use Rattle.wac_encode_interfaces.specs.private.Ready.{IsClean, IsInterfaceClean}
use Rattle.wac_encode_interfaces.specs.private.Items.{HasInterfaceOf, IsItemReady}
use Rattle.wac_encode_interfaces.specs.declared.level.Level.{Level}
use Rattle.wac_encode_interfaces.specs.private.Nests.{IsLevel, IsNextItem, IsInsideLevel, HasListed, interface_of, WaitsFor, IsNest, IsUnderWay, KeepsLevels, HasNext, StaysReady}
use Rattle.wac_encode_interfaces.proofs.Shown.{Items, In, in-contains, in-name, some-is, next-there, next-found, next-type, unbound-here}
use Rattle.wac_encode_interfaces.proofs.TypesTree.{part-held}

-- ---- items without a fault

abbrev pub Fine : Collection → Worlds → ItemKind → Type 0
Fine c ws k = (listed_fault k ≡ None) × IsClean c (kind_type k) × HaveWorlds c ws (kind_type k)

no-fault : (o : Option WriteFault) → ((f : WriteFault) → o ≡ Some f → ⊥) → o ≡ None
no-fault None h = refl
no-fault (Some f) h = absurd (h f refl)

whole-fine : (c : Collection) (ws : Worlds) (i : InterfaceId) (k : ItemKind) → IsListed k (interface_exports c i) → IsClean c (ty.Interface i) → HaveWorlds c ws (ty.Interface i) → Fine c ws k
whole-fine c ws i k listed clean worlds = (
  no-fault (listed_fault k) (λ f is. clean f (ty.Interface i, itself (ty.Interface i) (ty.Interface i) refl, of_listed (ty.Interface i) f (k, listed, is))),
  (λ f x. clean f (x.0, in_item x.0 (ty.Interface i) k listed x.1, x.2)),
  (λ w inside. worlds w (in_item (ty.World w) (ty.Interface i) k listed inside)),
)

types-fine : (c : Collection) (ws : Worlds) (i : InterfaceId) (a : AnyType) → IsListed (kind.TypeItem a) (interface_exports c i) → IsInterfaceClean c true i → HaveInterfaceWorlds c ws true i → Fine c ws (kind.TypeItem a)
types-fine c ws i a listed clean worlds = (
  no-fault (listed_fault (kind.TypeItem a)) (λ f is. clean f (a, listed, inl is)),
  (λ f x. clean f (a, listed, inr x)),
  worlds a listed,
)

item-fine : (c : Collection) (ws : Worlds) (i : InterfaceId) (b : Bool) (n : Name) (k : ItemKind) → Contains (interface_exports c i) (n, k) → (b ≡ true → lists_type (n, k) ≡ true) → IsInterfaceClean c b i → HaveInterfaceWorlds c ws b i → Fine c ws k
item-fine c ws i false n k there type clean worlds = whole-fine c ws i k (n, there) clean worlds
item-fine c ws i true n (kind.TypeItem a) there type clean worlds = types-fine c ws i a (n, there) clean worlds
item-fine c ws i true n (kind.Func f) there type clean worlds = let none : false ≡ true = type refl in cc
item-fine c ws i true n (kind.Instance j) there type clean worlds = let none : false ≡ true = type refl in cc
item-fine c ws i true n (kind.Component w) there type clean worlds = let none : false ≡ true = type refl in cc
item-fine c ws i true n (kind.Module m) there type clean worlds = let none : false ≡ true = type refl in cc
item-fine c ws i true n (kind.Value v) there type clean worlds = let none : false ≡ true = type refl in cc

abbrev exports-in : Option Interface → Items
exports-in o = option_case o [] (λ (x : Interface). x.exports)

exports-contain : (c : Collection) (i : InterfaceId) (it : Interface) (n : Name) (k : ItemKind) → item_at c.interfaces i.0 ≡ Some it → In it.exports (n, k) → Contains (interface_exports c i) (n, k)
exports-contain c i it n k at h = subst (λ (o : Option Interface). Contains (exports-in o) (n, k)) (sym at) (in-contains it.exports (n, k) h)

-- ---- the next item of a level whose interface is held

abbrev pub HeldAs : Collection → Worlds → Bool → InterfaceId → Bindings → Type 0
HeldAs c ws b i mo = (t : Tree) × IsInterfaceHeld c b mo i t × IsInterfaceClean c b i × HaveInterfaceWorlds c ws b i

abbrev pub IsHeldLevel : Collection → Worlds → Level → Bindings → Type 0
IsHeldLevel c ws l mo = HeldAs c ws l.types_only l.interface mo

next-part : HoldsItems → FreshInInterface → (c : Collection) → IsWellFormed c → (ws : Worlds) (l : Level) (h : IsLevel c l) (mo : Bindings) → IsHeldLevel c ws l mo → (n : Name) (k : ItemKind) → IsNextItem c l n k → Holds c (inside_interface c h.it mo) (kind_type k) × Fine c ws k
next-part law fresh c wf ws l h mo g n k x = (
  part-held law c wf l.interface h.it l.types_only mo g.0 n k h.interface (next-found c l h n k x) (next-type c l h n k x) (unbound-here c l h n k x fresh) g.1,
  item-fine c ws l.interface l.types_only n k (exports-contain c l.interface h.it n k h.interface (next-there c l h n k x)) (next-type c l h n k x) g.2 g.3,
)

listed-before : (c : Collection) → IsWellFormed c → (i : InterfaceId) (it : Interface) (n : Name) (k : ItemKind) → item_at c.interfaces i.0 ≡ Some it → find_name it.exports n ≡ Some k → (h : Held Interface) × (slice_get c.interfaces i.0 ≡ Some h) × IsBefore c h.before (kind_type k)
listed-before c wf i it n k at found =
    let h = held_item (slice_get c.interfaces i.0) it at in
    let all = all_right (IsBefore c h.0.before) (used_types h.0.item.uses) (kind_types h.0.item.exports) (wf.interfaces i.0 h.0 h.1).1 in
    (h.0, h.1, found_before c h.0.before h.0.item.exports n k all (ap (λ (x : Interface). find_name x.exports n) h.2 ∙ found))

pub next-before : (c : Collection) → IsWellFormed c → (l : Level) (h : IsLevel c l) (n : Name) (k : ItemKind) → IsNextItem c l n k → (g : Held Interface) × (slice_get c.interfaces l.interface.0 ≡ Some g) × IsBefore c g.before (kind_type k)
next-before c wf l h n k x = listed-before c wf l.interface h.it n k h.interface (in-name h.it.exports (n, k) h.names (next-there c l h n k x))

pub next-type-held : (c : Collection) → IsWellFormed c → (l : Level) → IsLevel c l → (n : Name) (k : ItemKind) → IsNextItem c l n k → holds_type c (kind_type k) ≡ true
next-type-held c wf l h n k x = let b = next-before c wf l h n k x in type_within c b.0.before (kind_type k) b.2

-- ---- the interface of an item

pub interface-type : (k : ItemKind) (i : InterfaceId) → interface_of k ≡ Some i → kind_type k ≡ ty.Interface i
interface-type (kind.Instance j) i h = ap ty.Interface (some-is j i h)
interface-type (kind.TypeItem (ty.Interface j)) i h = ap ty.Interface (some-is j i h)
interface-type (kind.TypeItem (ty.Resource r)) i h = let no : None ≡ Some i = h in cc
interface-type (kind.TypeItem (ty.Func f)) i h = let no : None ≡ Some i = h in cc
interface-type (kind.TypeItem (ty.Value v)) i h = let no : None ≡ Some i = h in cc
interface-type (kind.TypeItem (ty.World w)) i h = let no : None ≡ Some i = h in cc
interface-type (kind.TypeItem (ty.Module m)) i h = let no : None ≡ Some i = h in cc
interface-type (kind.Func f) i h = let no : None ≡ Some i = h in cc
interface-type (kind.Component w) i h = let no : None ≡ Some i = h in cc
interface-type (kind.Module m) i h = let no : None ≡ Some i = h in cc
interface-type (kind.Value v) i h = let no : None ≡ Some i = h in cc

pub no-interface : (b : Bool) (s : State) (k : ItemKind) → interface_of k ≡ None → HasInterfaceOf b s k
no-interface b s (kind.Instance j) h = let no : Some j ≡ None = h in cc
no-interface b s (kind.TypeItem (ty.Interface j)) h = let no : Some j ≡ None = h in cc
no-interface b s (kind.TypeItem (ty.Resource r)) h = tt
no-interface b s (kind.TypeItem (ty.Func f)) h = tt
no-interface b s (kind.TypeItem (ty.Value v)) h = tt
no-interface b s (kind.TypeItem (ty.World w)) h = tt
no-interface b s (kind.TypeItem (ty.Module m)) h = tt
no-interface b s (kind.Func f) h = tt
no-interface b s (kind.Component w) h = tt
no-interface b s (kind.Module m) h = tt
no-interface b s (kind.Value v) h = tt

abbrev Recorded : Bool → State → InterfaceId → Type 0
Recorded b s i = (how : How) × (k : ℕ) × IsRecordedAt b s (ty.Interface i) how k

pub has-interface : (b : Bool) (s : State) (k : ItemKind) (i : InterfaceId) → interface_of k ≡ Some i → Recorded b s i → HasInterfaceOf b s k
has-interface b s (kind.Instance j) i h g = subst (λ (x : InterfaceId). Recorded b s x) (sym (some-is j i h)) g
has-interface b s (kind.TypeItem (ty.Interface j)) i h g = subst (λ (x : InterfaceId). Recorded b s x) (sym (some-is j i h)) g
has-interface b s (kind.TypeItem (ty.Resource r)) i h g = tt
has-interface b s (kind.TypeItem (ty.Func f)) i h g = tt
has-interface b s (kind.TypeItem (ty.Value v)) i h g = tt
has-interface b s (kind.TypeItem (ty.World w)) i h g = tt
has-interface b s (kind.TypeItem (ty.Module m)) i h g = tt
has-interface b s (kind.Func f) i h g = tt
has-interface b s (kind.Component w) i h g = tt
has-interface b s (kind.Module m) i h g = tt
has-interface b s (kind.Value v) i h g = tt

-- A level has one next item.
pub next-once : (c : Collection) (l : Level) (n m : Name) (k d : ItemKind) → IsNextItem c l n k → IsNextItem c l m d → k ≡ d
next-once c l n m k d x y =
    let it : x.it ≡ y.it = some-is x.it y.it (sym x.interface ∙ y.interface) in
    let position : x.position ≡ y.position = some-is x.position y.position (sym x.next ∙ y.next) in
    let both : Some (n, k) ≡ Some (m, d) = sym x.item ∙ ap (λ (u : Interface). slice_get u.exports x.position) it ∙ ap (slice_get y.it.exports) position ∙ y.item in
    ap (λ (e : Name × ItemKind). e.1) (some-is (n, k) (m, d) both)

-- The interface that a level waits for was recorded.
pub waits-no-more : (c : Collection) (b : Bool) (s : State) (l : Level) (i : InterfaceId) → WaitsFor c l i → Recorded b s i → HasNext c b s l
waits-no-more c b s l i w g n k x = has-interface b s k i (ap interface_of (next-once c l n w.0 k w.1 x w.2) ∙ w.3) g

pub waited-held : (c : Collection) → IsWellFormed c → (l : Level) → IsLevel c l → (i : InterfaceId) → WaitsFor c l i → HasInterface c i
waited-held c wf l h i w =
    let held : holds_type c (ty.Interface i) ≡ true = subst (λ (a : AnyType). holds_type c a ≡ true) (interface-type w.1 i w.3) (next-type-held c wf l h w.0 w.1 w.2) in
    within i.0 (length c.interfaces) held

-- ---- down the levels

pub nest-inside : (c : Collection) (i : InterfaceId) (cut : Bool) (ms0 : List Bindings) (st0 : Stack) (l : Level) (ks : List Level) (m : Bindings) (ms : List Bindings) (st : Stack) → IsNest c i cut ms0 st0 l ks (m ∷ ms) st → IsInsideLevel c m (top ms) l
nest-inside c i cut ms0 st0 l [] m ms (o ∷ os) h = h.3
nest-inside c i cut ms0 st0 l (k ∷ ks) m ms (o ∷ os) h = h.1
nest-inside c i cut ms0 st0 l [] m ms [] h = absurd h
nest-inside c i cut ms0 st0 l (k ∷ ks) m ms [] h = absurd h

abbrev pub ListedIn : Collection → Bindings → Level → Stack → Type 0
ListedIn c m l [] = ⊥
ListedIn c m l (o ∷ os) = HasListed c m (env o (envs os)) l

pub nest-listed : (c : Collection) (i : InterfaceId) (cut : Bool) (ms0 : List Bindings) (st0 : Stack) (l : Level) (ks : List Level) (m : Bindings) (ms : List Bindings) (st : Stack) → IsNest c i cut ms0 st0 l ks (m ∷ ms) st → ListedIn c m l st
nest-listed c i cut ms0 st0 l [] m ms (o ∷ os) h = h.4
nest-listed c i cut ms0 st0 l (k ∷ ks) m ms (o ∷ os) h = h.2
nest-listed c i cut ms0 st0 l [] m ms [] h = absurd h
nest-listed c i cut ms0 st0 l (k ∷ ks) m ms [] h = absurd h

inner-held : HoldsItems → FreshInInterface → (c : Collection) → IsWellFormed c → (ws : Worlds) (k l : Level) → IsLevel c k → (m mo : Bindings) → IsInsideLevel c m mo k → IsHeldLevel c ws k mo → WaitsFor c k l.interface → l.types_only ≡ false → IsHeldLevel c ws l m
inner-held law fresh c wf ws k l h m mo inside held w whole =
    let part = next-part law fresh c wf ws k h mo held w.0 w.1 w.2 in
    let type = interface-type w.1 l.interface w.3 in
    let here : Holds c m (ty.Interface l.interface) = subst (λ (y : Bindings). Holds c y (ty.Interface l.interface)) (sym (inside h.it h.interface)) (subst (λ (a : AnyType). Holds c (inside_interface c h.it mo) a) type part.0) in
    subst (λ (b : Bool). HeldAs c ws b l.interface m) (sym whole)
    (here.0, here.1, subst (IsClean c) type part.1.1, subst (HaveWorlds c ws) type part.1.2)

abbrev HeldBelow : Collection → Worlds → Level → List Bindings → Type 0
HeldBelow c ws l [] = ⊥
HeldBelow c ws l (m ∷ ms) = IsHeldLevel c ws l (top ms)

below : HoldsItems → FreshInInterface → (c : Collection) → IsWellFormed c → (ws : Worlds) (i : InterfaceId) (cut : Bool) (ms0 : List Bindings) (st0 : Stack) → HeldAs c ws cut i (top ms0) → (l : Level) (ks : List Level) (ms : List Bindings) (st : Stack) → AllByRecursion (IsLevel c) (l ∷ ks) → IsNest c i cut ms0 st0 l ks ms st → HeldBelow c ws l ms
below law fresh c wf ws i cut ms0 st0 first l [] (m ∷ ms) (o ∷ os) are h =
    subst (λ (j : InterfaceId). HeldAs c ws l.types_only j (top ms)) (sym h.0)
    (subst (λ (b : Bool). HeldAs c ws b i (top ms)) (sym h.1)
    (subst (λ (ns : List Bindings). HeldAs c ws cut i (top ns)) (sym h.2) first))
below law fresh c wf ws i cut ms0 st0 first l (k ∷ ks) (m ∷ n ∷ ms) (o ∷ os) are h =
    inner-held law fresh c wf ws k l are.1.0 n (top ms) (nest-inside c i cut ms0 st0 k ks n ms os h.4) (below law fresh c wf ws i cut ms0 st0 first k ks (n ∷ ms) os are.1 h.4) h.3 h.0
below law fresh c wf ws i cut ms0 st0 first l (k ∷ []) (m ∷ []) (o ∷ os) are h = absurd h.4
below law fresh c wf ws i cut ms0 st0 first l (k ∷ j ∷ ks) (m ∷ []) (o ∷ os) are h = absurd h.4
below law fresh c wf ws i cut ms0 st0 first l [] [] st are h = absurd h
below law fresh c wf ws i cut ms0 st0 first l (k ∷ ks) [] st are h = absurd h
below law fresh c wf ws i cut ms0 st0 first l [] (m ∷ ms) [] are h = absurd h
below law fresh c wf ws i cut ms0 st0 first l (k ∷ ks) (m ∷ ms) [] are h = absurd h

-- ---- the next item can be written

pub stays-ready : HoldsItems → FreshInInterface → (c : Collection) → IsWellFormed c → (b : Bool) (ws : Worlds) (s : State) (l : Level) (ks : List Level) → IsUnderWay c b ws s l ks → StaysReady c b ws s l
stays-ready law fresh c wf b ws s l ks u n k x =
    let at = u.3.1 u.4.bindings u.4.good in
    by at.0 at.1 at.2
  where
    by : (ms : List Bindings) → Good c ms (stack b s) → IsNest c u.0 u.1 u.4.bindings (stack b u.2) l ks ms (stack b s)
        → (holds_type c (kind_type k) ≡ true) × ((ns : List Bindings) × Good c ns (stack b s) × Holds c (top ns) (kind_type k)) × (listed_fault k ≡ None) × HaveWorlds c ws (kind_type k)
    by [] good nest = absurd good
    by (m ∷ ms) good nest =
        let h : IsLevel c l = u.3.2.0 in
        let held = below law fresh c wf ws u.0 u.1 u.4.bindings (stack b u.2) (u.4.tree, u.4.held, u.4.clean, u.5) l ks (m ∷ ms) (stack b s) u.3.2 nest in
        let part = next-part law fresh c wf ws l h (top ms) held n k x in
        let inside = nest-inside c u.0 u.1 u.4.bindings (stack b u.2) l ks m ms (stack b s) nest in
        (next-type-held c wf l h n k x, (m ∷ ms, good, subst (λ (y : Bindings). Holds c y (kind_type k)) (sym (inside h.it h.interface)) part.0), part.1.0, part.1.2)

pub item-ready : (c : Collection) (b : Bool) (ws : Worlds) (s : State) (l : Level) (n : Name) (k : ItemKind) → IsNextItem c l n k → StaysReady c b ws s l → HasNext c b s l → IsItemReady c b ws s k
item-ready c b ws s l n k x ready known = let r = ready n k x in record { held = r.0; ready = r.1; writable = r.2; worlds = r.3; interface = known n k x }

pub under-way-on : (c : Collection) (b : Bool) (ws : Worlds) (s t : State) (l l' : Level) (ks : List Level) → IsUnderWay c b ws s l ks → KeepsLevels c b s l t l' → IsUnderWay c b ws t l' ks
under-way-on c b ws s t l l' ks u keeps = (u.0, u.1, u.2, keeps u.0 u.1 u.2 ks u.3, u.4, u.5)
