-- Types with an index in the innermost scope.
use Rattle.std.proofs.Common.{ℕ, ◌≡◌, Bool, List, [], ◌∷◌, Option, Some, None, Result, Ok, Err, IfOk, OnOk, IfSome, refl, ap, sym, ◌∙◌, subst}
use Rattle.wac_types_shapes.specs.primitives.Tree.{Side, imported, exported, Tree, primitive, resource}
use Rattle.wac_types_shapes.specs.declared.primitives.component.PrimitiveType.{PrimitiveType}
use Rattle.wac_types_shapes.specs.declared.shapes.component.ResourceId.{ResourceId}
use Rattle.wac_types_shapes.specs.declared.shapes.component.WorldId.{WorldId}
use Rattle.wac_types_shapes.specs.declared.shapes.component.FuncTypeId.{FuncTypeId}
use Rattle.wac_types_shapes.specs.declared.shapes.component.InterfaceId.{InterfaceId}
use Rattle.wac_types_shapes.specs.declared.shapes.component.ModuleTypeId.{ModuleTypeId}
use Rattle.wac_types_shapes.specs.declared.shapes.component.ValueType.{ValueType}
use Rattle.wac_types_shapes.specs.declared.shapes.component.ValueType.TheVariants as val
use Rattle.wac_types_shapes.specs.declared.shapes.component.ItemKind.{ItemKind}
use Rattle.wac_types_shapes.specs.declared.shapes.component.ItemKind.TheVariants as kind
use Rattle.wac_types_shapes.specs.shapes.Kinds.{kind_type}
use Rattle.wac_types_shapes.specs.declared.shapes.component.«Type».{«Type» as AnyType}
use Rattle.wac_types_shapes.specs.declared.shapes.component.«Type».TheVariants as ty
use Rattle.wac_types_collection.specs.collection.Collection.{Collection, IsWellFormed}
use Rattle.wac_types_collection.specs.collection.Aliases.{value_resolved}
use Rattle.wac_types_collection.specs.collection.Held.{resolved}
use Rattle.wac_types_collection.specs.collection.Bound.{Bindings}
use Rattle.wac_binary.specs.declared.sorts.Description.TheVariants as e
use Rattle.wac_binary.specs.Items.{Decl, Item}
use Rattle.wac_binary.specs.declared.types.ComponentValType.{ComponentValType}
use Rattle.wac_binary.specs.declared.types.ComponentValType.TheVariants.{Primitive, Index}
use Rattle.wac_encode_stacks.specs.Scopes.{How, Indexed}
use Rattle.wac_encode_stacks.specs.Good.{Good, At, IsHeld, top, innermost}
use Rattle.wac_encode_stacks.specs.private.Laws.{StandsRecorded, IsItsTree}
use Rattle.wac_encode_stacks.specs.private.Brought.{GoodOnce}
use Rattle.wac_encode_stacks.specs.private.HeldParts.{ResourceIsBound}
use Rattle.wac_encode_stacks.proofs.Aliases.{end-held}
use Rattle.wac_encode_stacks.proofs.Values.{primitive-held, resource-held}
use Rattle.wac_encode_scopes.specs.declared.state.State.{State}
use Rattle.wac_encode_scopes.specs.declared.closed.ClosedTypes.{ClosedTypes}
use Rattle.wac_encode_scopes.specs.declared.encodable.Encodable.{Encodable}
use Rattle.wac_encode_scopes.specs.declared.encodable.Encodable.TheVariants.{Builder, Instance, Component}
use Rattle.wac_encode_scopes.specs.Contents.{AddsTypes, HasSide}
use Rattle.wac_encode_scopes.specs.Books.{opened}
use Rattle.wac_encode_scopes.specs.private.Closed.{AreClosedTypes}
use Rattle.wac_encode_scopes.specs.States.{stack, outward, Goes, IsBound, IsRecordedAt, IsResourceAt, IsTypeAt}
use Rattle.wac_encode_scopes.specs.private.Components.{component_tree, DefinesComponent, DefinesPrimitiveType}
use Rattle.wac_encode_values.specs.private.Values.{IsReady, IsWrittenAs}
use Rattle.wac_encode_faults.specs.Faults.{itself, listed_fault}
use Rattle.wac_encode_faults.specs.declared.fault.WriteFault.TheVariants as fault
use Rattle.wac_encode_interfaces.specs.private.Worlds.{Worlds, AreWorldTypes, HaveWorlds}
use Rattle.wac_encode_interfaces.specs.private.Items.{IsItemReady, IsTypeIndex, DescribesItem}
use Rattle.wac_encode_interfaces.specs.private.Names.{NamesType, recorded_type}

-- results of calls

pub on-ok : {A E P Q : Type 0} → (r : Result A E) → (P → Q) → OnOk r P → OnOk r Q
on-ok (Ok x) f h = f h
on-ok (Err e) f h = tt

pub if-ok : {A E : Type 0} → (P Q : A → Type 0) (r : Result A E) → ((x : A) → P x → Q x) → IfOk r P → IfOk r Q
if-ok P Q (Ok x) f h = f x h
if-ok P Q (Err e) f h = tt

pub ok-of : {A E : Type 0} → (P : A → Type 0) (Q : Type 0) (r : Result A E) → ((x : A) → P x → Q) → IfOk r P → OnOk r Q
ok-of P Q (Ok x) f h = f x h
ok-of P Q (Err e) f h = tt

pub if-both : {A E : Type 0} → (G : Type 0) (P Q : A → Type 0) (r : Result A E) → ((x : A) → G → P x → Q x) → OnOk r G → IfOk r P → IfOk r Q
if-both G P Q (Ok x) f g h = f x g h
if-both G P Q (Err e) f g h = tt

-- a writer of values of the same collection

pub goes-as : (c d : Collection) (b a : Bool) (s t : State) → d ≡ c → a ≡ b → Goes d a s t → Goes c b s t
goes-as c d b a s t is same h = subst (λ (x : Collection). Goes x b s t) is (subst (λ (x : Bool). Goes d x s t) same h)

pub type-as : (c d : Collection) (b a : Bool) (s : State) (t : AnyType) (k : ℕ) → d ≡ c → a ≡ b → IsTypeAt d a s t k → IsTypeAt c b s t k
type-as c d b a s t k is same h = subst (λ (x : Collection). IsTypeAt x b s t k) is (subst (λ (x : Bool). IsTypeAt d x s t k) same h)

pub written-as : (c d : Collection) (b a : Bool) (s : State) (v : ValueType) (w : ComponentValType) → d ≡ c → a ≡ b → IsWrittenAs d a s v w → IsWrittenAs c b s v w
written-as c d b a s v w is same h = subst (λ (x : Collection). IsWrittenAs x b s v w) is (subst (λ (x : Bool). IsWrittenAs d x s v w) same h)

pub ready-as : (c d : Collection) (b a : Bool) (s : State) (t : AnyType) → d ≡ c → a ≡ b → IsReady c b s t → IsReady d a s t
ready-as c d b a s t is same h = subst (λ (x : Collection). IsReady x a s t) (sym is) (subst (λ (x : Bool). IsReady c x s t) (sym same) h)

pub closed-as : (c d : Collection) (x y : ClosedTypes) → d ≡ c → y ≡ x → AreClosedTypes c x → AreClosedTypes d y
closed-as c d x y is same h = subst (λ (z : Collection). AreClosedTypes z y) (sym is) (subst (AreClosedTypes c) (sym same) h)

-- what is recorded

pub type-at : StandsRecorded → (c : Collection) (b : Bool) (s : State) (a : AnyType) (how : How) (i : ℕ) → IsRecordedAt b s a how i → IsTypeAt c b s a i
type-at law c b s a how i at [] good = absurd good
type-at law c b s a how i at (m ∷ ms) good = law c m ms (opened b s.here) (outward b s.around.items) a (record { index = i; how = how }) good at

pub indexed-at : StandsRecorded → (c : Collection) (b : Bool) (s : State) (a : AnyType) (o : Option ℕ) (i : ℕ) → o ≡ Some i → IfSome o (λ k. (how : How) × IsRecordedAt b s a how k) → IsTypeAt c b s a i
indexed-at law c b s a o i is h = let at = subst (λ (x : Option ℕ). IfSome x (λ k. (how : How) × IsRecordedAt b s a how k)) is h in type-at law c b s a at.0 i at.1

no-some : {A : Type 0} → (x : A) → None ≡ Some x → ⊥
no-some x is = cc

-- worlds

world-is : (w x : WorldId) → Some w ≡ Some x → w ≡ x
world-is w x is = cc

pub world-goes : (c : Collection) (b : Bool) (ws : Worlds) (w : WorldId) (ds : List Decl) (old new : State) (k : ℕ) → AreWorldTypes c ws → ws w ≡ Some ds → DefinesComponent b (Some w) ds old new k → Goes c b old new
world-goes c b ws w ds old new k are at defines = (defines c (are w ds at).0 (λ i is m. subst (λ (x : WorldId). IsHeld c m (ty.World x) (component_tree ds)) (world-is w i is) ((are w ds at).1 m))).0

pub has-world : (c : Collection) (ws : Worlds) (w : WorldId) → ws w ≡ None → HaveWorlds c ws (ty.World w) → ⊥
has-world c ws w none has =
    let there = has w (itself (ty.World w) (ty.World w) refl) in
    no-some there.0 (sym none ∙ there.1)

-- primitive types

pub primitive-goes : (c : Collection) (b : Bool) (p : PrimitiveType) (old new : State) (k : ℕ) → DefinesPrimitiveType p old new k → Goes c b old new
primitive-goes c b p old new k defines = (defines c b).0

primitive-there : (c : Collection) (b : Bool) (p : PrimitiveType) (old new : State) (k : ℕ) (ms : List Bindings) → Good c ms (stack b old) → DefinesPrimitiveType p old new k → At ((innermost (stack b new)).types) k (primitive p)
primitive-there c b p old new k [] good defines = absurd good
primitive-there c b p old new k (m ∷ ms) good defines = (defines c b).1 m ms good

pub primitive-at : (c : Collection) (b : Bool) (p : PrimitiveType) (a : AnyType) (old new : State) (k : ℕ) → IsReady c b old a → DefinesPrimitiveType p old new k → IsTypeAt c b new (ty.Value (val.Primitive p)) k
primitive-at c b p a old new k ready defines ns good = (primitive p, primitive-held c (top ns) p, tt, primitive-there c b p old new k ready.0 ready.1 defines)

pub primitive-ready : (c : Collection) (b : Bool) (s t : State) (a : AnyType) (p : PrimitiveType) → Goes c b s t → IsReady c b s a → IsReady c b t (ty.Value (val.Primitive p))
primitive-ready c b s t a p goes ready = (ready.0, (goes.onward ready.0 ready.1).0, (primitive p, primitive-held c (top ready.0) p))

-- value types

pub index-at : (c : Collection) (b : Bool) (s : State) (v : ValueType) (i : ℕ) → IsWrittenAs c b s v (Index i) → IsTypeAt c b s (ty.Value v) i
index-at c b s v i h ms good = let is = h ms good in (is.0, is.1, is.2.1, is.2.0)

pub primitive-value : GoodOnce → IsItsTree → (c : Collection) (b : Bool) (s t : State) (a : AnyType) (v : ValueType) (p : PrimitiveType) (k : ℕ) → IsReady c b s a → Goes c b s t → IsWrittenAs c b s v (Primitive p) → IsTypeAt c b t (ty.Value (val.Primitive p)) k → IsTypeAt c b t (ty.Value v) k
primitive-value once tree c b s t a v p k ready goes written at ns good =
    let there = goes.onward ready.0 ready.1 in
    let same : ready.0 ≡ ns = once c ready.0 ns (stack b t) there.0 good in
    let is = written ready.0 ready.1 in
    let here = at ns good in
    let one : is.0 ≡ here.0 = is.2 ∙ sym (tree c (top ns) (ty.Value (val.Primitive p)) (primitive p) (primitive-held c (top ns) p)) ∙ tree c (top ns) (ty.Value (val.Primitive p)) here.0 here.1 in
    (here.0, subst (λ (x : Tree). IsHeld c (top ns) (ty.Value v) x) one (subst (λ (ms : List Bindings). IsHeld c (top ms) (ty.Value v) is.0) same is.1), here.2, here.3)

-- resources

pub resource-bound : ResourceIsBound → (c : Collection) (b : Bool) (s : State) (r e : ResourceId) → e ≡ resolved c r → IsReady c b s (ty.Resource r) → IsBound b s e
resource-bound law c b s r e is h = let l = law c (top h.0) r h.2 in (c, h.0, l.0, h.1, subst (λ (q : ResourceId). top h.0 q ≡ Some l.0) (sym is) l.1)

pub resource-index : (c : Collection) (b : Bool) (s : State) (r e : ResourceId) (i : ℕ) → e ≡ resolved c r → IsResourceAt b s e i → IsTypeIndex c b s (ty.Resource r) i
resource-index c b s r e i is h ms good =
    let at = h c ms good in
    (resource at.0, resource-held c (top ms) r at.0 (subst (λ (q : ResourceId). top ms q ≡ Some at.0) is at.1), tt, at.2)

-- interfaces that are recorded

pub has-index : (b : Bool) (s : State) (a : AnyType) → (opened b s.here).types a ≡ None → ((how : How) × (k : ℕ) × IsRecordedAt b s a how k) → ⊥
has-index b s a none h =
    no-some {A = Indexed} (record { index = h.1; how = h.0 }) (sym none ∙ h.2)

-- items of types

pub type-ready : (c : Collection) (b : Bool) (ws : Worlds) (s : State) (k : ItemKind) → IsItemReady c b ws s k → IsItemReady c b ws s (kind.TypeItem (kind_type k))
type-ready c b ws s (kind.TypeItem a) h = h
type-ready c b ws s (kind.Func f) h = record { held = h.held; ready = h.ready; writable = refl; worlds = h.worlds; interface = tt }
type-ready c b ws s (kind.Instance i) h = record { held = h.held; ready = h.ready; writable = refl; worlds = h.worlds; interface = h.interface }
type-ready c b ws s (kind.Component w) h = let no : Some fault.NestedItem ≡ None = h.writable in cc
type-ready c b ws s (kind.Module m) h = let no : Some fault.NestedItem ≡ None = h.writable in cc
type-ready c b ws s (kind.Value v) h = let no : Some fault.NestedItem ≡ None = h.writable in cc

pub no-component : (k : ItemKind) (w : WorldId) → k ≡ kind.Component w → listed_fault k ≡ None → ⊥
no-component k w is h = let no : listed_fault (kind.Component w) ≡ None = subst (λ (x : ItemKind). listed_fault x ≡ None) is h in cc

pub no-core : (k : ItemKind) (m : ModuleTypeId) → k ≡ kind.Module m → listed_fault k ≡ None → ⊥
no-core k m is h = let no : listed_fault (kind.Module m) ≡ None = subst (λ (x : ItemKind). listed_fault x ≡ None) is h in cc

pub no-value : (k : ItemKind) (v : ValueType) → k ≡ kind.Value v → listed_fault k ≡ None → ⊥
no-value k v is h = let no : listed_fault (kind.Value v) ≡ None = subst (λ (x : ItemKind). listed_fault x ≡ None) is h in cc

pub no-module : (a : AnyType) (m : ModuleTypeId) → a ≡ ty.Module m → listed_fault (kind.TypeItem a) ≡ None → ⊥
no-module a m is h = let no : listed_fault (kind.TypeItem (ty.Module m)) ≡ None = subst (λ (x : AnyType). listed_fault (kind.TypeItem x) ≡ None) is h in cc

pub describes-type : (c : Collection) (b : Bool) (s : State) (k : ItemKind) (r a : AnyType) (i : ℕ) → k ≡ kind.TypeItem a → r ≡ kind_type k → IsTypeIndex c b s r i → DescribesItem c b s k (e.Equal i)
describes-type c b s k r a i is of at = subst (λ (x : ItemKind). DescribesItem c b s x (e.Equal i)) (sym is) (i, refl, subst (λ (x : AnyType). IsTypeIndex c b s x i) (of ∙ ap kind_type is) at)

pub describes-func : (c : Collection) (b : Bool) (s : State) (k : ItemKind) (r : AnyType) (f : FuncTypeId) (i : ℕ) → k ≡ kind.Func f → r ≡ kind_type k → IsTypeIndex c b s r i → DescribesItem c b s k (e.Func i)
describes-func c b s k r f i is of at = subst (λ (x : ItemKind). DescribesItem c b s x (e.Func i)) (sym is) (i, refl, subst (λ (x : AnyType). IsTypeIndex c b s x i) (of ∙ ap kind_type is) at)

pub describes-instance : (c : Collection) (b : Bool) (s : State) (k : ItemKind) (r : AnyType) (j : InterfaceId) (i : ℕ) → k ≡ kind.Instance j → r ≡ kind_type k → IsTypeIndex c b s r i → DescribesItem c b s k (e.Instance i)
describes-instance c b s k r j i is of at = subst (λ (x : ItemKind). DescribesItem c b s x (e.Instance i)) (sym is) (i, refl, subst (λ (x : AnyType). IsTypeIndex c b s x i) (of ∙ ap kind_type is) at)

end-index : (c : Collection) → IsWellFormed c → (b : Bool) (s : State) (v : ValueType) (i : ℕ) → IsTypeIndex c b s (ty.Value v) i → IsTypeAt c b s (ty.Value (value_resolved c v)) i
end-index c wf b s v i h ms good = let at = h ms good in (at.0, end-held c wf (top ms) v at.0 at.1, at.2, at.3)

some-type : (a b : AnyType) → Some a ≡ Some b → a ≡ b
some-type a b is = cc

pub named-at : (c : Collection) → IsWellFormed c → (b : Bool) (s : State) (k : ItemKind) (a : AnyType) (i : ℕ) → recorded_type c k ≡ Some a → NamesType c b s k i → IsTypeAt c b s a i
named-at c wf b s (kind.TypeItem (ty.Value v)) a i is h = subst (λ (x : AnyType). IsTypeAt c b s x i) (some-type (ty.Value (value_resolved c v)) a is) (end-index c wf b s v i h)
named-at c wf b s (kind.TypeItem (ty.Func f)) a i is h = subst (λ (x : AnyType). IsTypeAt c b s x i) (some-type (ty.Func f) a is) h
named-at c wf b s (kind.TypeItem (ty.Interface j)) a i is h = subst (λ (x : AnyType). IsTypeAt c b s x i) (some-type (ty.Interface j) a is) h
named-at c wf b s (kind.TypeItem (ty.World w)) a i is h = subst (λ (x : AnyType). IsTypeAt c b s x i) (some-type (ty.World w) a is) h
named-at c wf b s (kind.TypeItem (ty.Resource r)) a i is h = let no : None ≡ Some a = is in cc
named-at c wf b s (kind.TypeItem (ty.Module m)) a i is h = let no : None ≡ Some a = is in cc
named-at c wf b s (kind.Func f) a i is h = let no : None ≡ Some a = is in cc
named-at c wf b s (kind.Instance j) a i is h = let no : None ≡ Some a = is in cc
named-at c wf b s (kind.Component w) a i is h = let no : None ≡ Some a = is in cc
named-at c wf b s (kind.Module m) a i is h = let no : None ≡ Some a = is in cc
named-at c wf b s (kind.Value v) a i is h = let no : None ≡ Some a = is in cc

-- a side of an open type

pub side-on : (side : Side) (x y : Encodable) → AddsTypes x y → HasSide side x → HasSide side y
side-on side (Component ds) (Component es) h g = tt
side-on exported (Instance ds) (Instance es) h g = tt
side-on imported (Instance ds) y h g = absurd g
side-on side (Builder is) y h g = absurd (no-root side is g)
  where
    no-root : (side : Side) (is : List Item) → HasSide side (Builder is) → ⊥
    no-root imported is g = g
    no-root exported is g = g
side-on side (Component ds) (Builder is) h g = absurd h
side-on side (Component ds) (Instance es) h g = absurd h
side-on exported (Instance ds) (Builder is) h g = absurd h
side-on exported (Instance ds) (Component es) h g = absurd h
