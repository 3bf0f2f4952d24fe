-- What the writers of items promise.
use Rattle.std.proofs.Common.{ℕ, zero, suc, ◌≡◌, ◌<◌, Bool, true, false, nat_lt, List, [], ◌∷◌, ◌++◌, length, Option, Some, None, Contains, refl, ap, sym, ◌∙◌, subst, inl, inr, slice_get, arith}
use Rattle.std.specs.List.{list_any}
use Rattle.std.specs.Prelude.{Result, IfOk, OnOk, IfSome}
use Rattle.wac_types_shapes.specs.primitives.Name.{Name}
use Rattle.wac_types_shapes.specs.primitives.Tree.{Side, imported, exported, Leaf}
use Rattle.wac_types_shapes.specs.shapes.Kinds.{kind_type}
use Rattle.wac_types_shapes.specs.declared.shapes.component.ResourceId.{ResourceId}
use Rattle.wac_types_shapes.specs.declared.shapes.component.InterfaceId.{InterfaceId}
use Rattle.wac_types_shapes.specs.declared.shapes.component.Interface.{Interface}
use Rattle.wac_types_shapes.specs.declared.shapes.component.ItemKind.{ItemKind}
use Rattle.wac_types_shapes.specs.declared.shapes.component.ItemKind.TheVariants as kind
use Rattle.wac_types_shapes.specs.declared.shapes.component.«Type».{«Type» as AnyType}
use Rattle.wac_types_shapes.specs.declared.shapes.component.«Type».TheVariants as ty
use Rattle.wac_types_collection.specs.declared.collection.collection.Held.{Held}
use Rattle.wac_types_collection.specs.collection.Collection.{Collection, IsWellFormed, HasInterface, item_at, holds_type}
use Rattle.wac_types_collection.specs.collection.Held.{resolved}
use Rattle.wac_types_collection.proofs.lemmas.wide.Members.{in_left, in_right}
use Rattle.wac_binary.specs.declared.sorts.Description.TheVariants as e
use Rattle.wac_encode_stacks.specs.Instances.{ShowsWhole}
use Rattle.wac_encode_scopes.specs.declared.encodable.Encodable.{Encodable}
use Rattle.wac_encode_scopes.specs.declared.encodable.Encodable.TheVariants.{Builder, Instance, Component}
use Rattle.wac_encode_scopes.specs.declared.state.State.{State}
use Rattle.wac_encode_scopes.specs.private.Components.{IsComponentType}
use Rattle.wac_encode_scopes.specs.Contents.{HasSide, and_item}
use Rattle.wac_encode_scopes.specs.private.Listing.{ListsResource}
use Rattle.wac_encode_scopes.specs.States.{AllAddTypes, Goes, IsRecordedAt}
use Rattle.wac_encode_scopes.specs.private.Paid.{AreUnrecorded}
use Rattle.wac_encode_scopes.specs.private.Telling.{is_one_of, TellsInstance}
use Rattle.wac_encode_stacks.specs.Scopes.{How}
use Rattle.wac_encode_faults.specs.Faults.{of_items, IsFaultInside}
use Rattle.wac_encode_faults.specs.Sides.{Sides, export_bindings}
use Rattle.wac_encode_faults.specs.Free.{SideItem, IsFree}
use Rattle.wac_encode_faults.specs.Cycle.{numbered_items, owner_of}
use Rattle.wac_encode_interfaces.specs.declared.sides.Parts.{Parts}
use Rattle.wac_encode_interfaces.specs.private.Items.{IsItemReady, HasInterfaceOf, AddsItem, AddsBeside}
use Rattle.wac_encode_interfaces.specs.private.Ready.{IsClean, IsInterfaceReady}
use Rattle.wac_encode_interfaces.specs.private.Trees.{interface_tree}
use Rattle.wac_encode_interfaces.specs.private.Worlds.{Worlds, HaveWorlds, HaveInterfaceWorlds}
use Rattle.wac_encode_interfaces.specs.private.Written.{side_item, is_bound_at, bound_so_far, IsWritten, IsNext, IsItemOf, AreWritable}
use Rattle.wac_encode_interfaces.specs.private.Parts.{sides_in, ArePlanned, MayFollow, WritesItem, ListsInterface, is_number, is_owned, interface_of, resource_of, type_interface}
use Rattle.wac_encode_interfaces.proofs.Written.{if-both}
use Rattle.wac_encode_interfaces.proofs.Bound.{no-some, one-some}
use Rattle.wac_encode_interfaces.proofs.Agreeing.{interface-free}
use Rattle.wac_encode_interfaces.proofs.Items.{component-more, goes-written, instance-ready, instance-unrecorded, instance-written}
use Rattle.wac_encode_interfaces.proofs.Numbers.{owner-test}
use Rattle.wac_encode_interfaces.proofs.OwnTests.{any-owned, owned-number}
use Rattle.wac_encode_interfaces.proofs.Others.{fresh-written, other-bound, other-ready, other-written, nothing-bound, aliased-bound, resource-is}

pub has-side : (side : Side) (x : Encodable) → IsComponentType x → HasSide side x
has-side side (Component ds) is = tt
has-side side (Builder ds) is = absurd is
has-side side (Instance ds) is = absurd is

pub still-component : (c : Collection) (b : Bool) (old new : State) → Goes c b old new → IsComponentType old.here.content → IsComponentType new.here.content
still-component c b old new goes is = component-more old.here.content new.here.content goes.types.0 is

pub item-held : {A : Type 0} (xs : List (Held A)) (i : ℕ) → nat_lt i (length xs) ≡ true → (x : A) × (item_at xs i ≡ Some x)
item-held [] i h = absurd (grind arith)
item-held (x ∷ xs) zero h = (x.item, refl)
item-held (x ∷ xs) (suc i) h = item-held xs i (grind arith)

module _ (c : Collection) (wf : IsWellFormed c) (b : Bool) (ws : Worlds) (x : Parts) (planned : ArePlanned c ws x) (side : Side) (n : Name) where
  abbrev can : AreWritable c ws (sides_in x)
  can = planned.writable

  -- an instance

  pub instance-held : (i : InterfaceId) (a : Bool) → IsItemOf (sides_in x) side n (kind.Instance i) a → holds_type c (ty.Interface i) ≡ true
  instance-held i a item = can.held side n (kind.Instance i) a item

  pub instance-worlds : (i : InterfaceId) (a : Bool) → IsItemOf (sides_in x) side n (kind.Instance i) a → HaveInterfaceWorlds c ws a i
  instance-worlds i a item = by side a item
    where
      by : (y : Side) (a : Bool) → IsItemOf (sides_in x) y n (kind.Instance i) a → HaveInterfaceWorlds c ws a i
      by y false item = can.worlds y n (kind.Instance i) item
      by imported true item = can.types_worlds n i item
      by exported true item = absurd item

  pub instance-may : (i : InterfaceId) (a : Bool) (st : State) → MayFollow c b x side n st → IsItemOf (sides_in x) side n (kind.Instance i) a → IsInterfaceReady c b st a i
  instance-may i a st may item = instance-ready c wf ws (sides_in x) can side n b may.0 st may.1 i a item

  pub instance-writes : ShowsWhole → (i : InterfaceId) (a : Bool) (p : ℕ) (keys : List ResourceId) (old mid new : State) (k : ℕ) → IsItemOf (sides_in x) side n (kind.Instance i) a → slice_get (numbered_items (sides_in x)) p ≡ Some (side_item side n)
      → ListsInterface c b side n a i old mid k → ((it : Interface) → item_at c.interfaces i.0 ≡ Some it → (r : ResourceId) → is_one_of keys r ≡ list_any (is_owned x.owners.now.entries p r) it.exports)
      → ((it : Interface) → item_at c.interfaces i.0 ≡ Some it → TellsInstance c b it (is_one_of keys) k mid new) → AllAddTypes mid new → WritesItem c b x side n old new
  instance-writes whole i a p keys old mid new k item number lists own tells types xs next =
      let (it, at) = item-held c.interfaces i.0 (instance-held i a item) in
      instance-written c wf ws (sides_in x) can side n b xs old next whole i a it (is_one_of keys) mid new k at item lists
      (λ r q named_so. own it at r ∙ any-owned x.owners.now.entries p c it.uses it.exports r q named_so ∙ owner-test (sides_in x) c can.imports_once can.exports_once x.owners.now.entries planned.owners p (side_item side n) number r)
      (tells it at) types

  -- What the instance owns is not recorded where it is listed.
  pub instance-unrecorded-yet : (i : InterfaceId) (a : Bool) (p : ℕ) (keys : List ResourceId) (old mid : State) (k : ℕ) → MayFollow c b x side n old → IsItemOf (sides_in x) side n (kind.Instance i) a → slice_get (numbered_items (sides_in x)) p ≡ Some (side_item side n)
      → ListsInterface c b side n a i old mid k → ((it : Interface) → item_at c.interfaces i.0 ≡ Some it → (r : ResourceId) → is_one_of keys r ≡ list_any (is_owned x.owners.now.entries p r) it.exports) → AreUnrecorded b mid keys
  instance-unrecorded-yet i a p keys old mid k may item number lists own r one =
      let (it, at) = item-held c.interfaces i.0 (instance-held i a item) in
      instance-unrecorded c wf ws (sides_in x) can side n b may.0 old may.1 i a (is_one_of keys) mid k lists
      (λ q h. sym (owner-test (sides_in x) c can.imports_once can.exports_once x.owners.now.entries planned.owners p (side_item side n) number q) ∙ owned-number x.owners.now.entries p it.exports q (sym (own it at q) ∙ h)) r one

  -- a fresh resource

  pub fresh-writes : (r : ResourceId) (old new : State) (k : ℕ) → IsItemOf (sides_in x) side n (kind.TypeItem (ty.Resource r)) false → is_bound_at (export_bindings c (sides_in x) (resolved c r)) (side_item side n) ≡ true
      → ListsResource b side n r old new k → new.here.content ≡ and_item side n e.Fresh old.here.content → WritesItem c b x side n old new
  fresh-writes r old new k item made lists content xs next = fresh-written c wf ws (sides_in x) can side n b xs old next r new k item made lists content

  -- another item

  abbrev pub BindsNothing : Type 0
  BindsNothing = (r : ResourceId) → is_bound_at (export_bindings c (sides_in x) r) (side_item side n) ≡ false

  pub other-may : (k : ItemKind) (i : InterfaceId) (st : State) → MayFollow c b x side n st → IsItemOf (sides_in x) side n k false → BindsNothing → kind_type k ≡ ty.Interface i → IsInterfaceReady c b st false i
  other-may k i st may item nothing is = record {
    bindings = bound_so_far c (sides_in x) may.0 ∷ [];
    good = may.1.written.good;
    tree = interface_tree c false (bound_so_far c (sides_in x) may.0) i;
    held = interface-free c false (bound_so_far c (sides_in x) may.0) i (λ r f.
        let (l, now, end) = other-bound c wf ws (sides_in x) can side n b may.0 st may.1 k item nothing r (subst (λ (t : AnyType). IsFree c t r) (sym is) f) in (l, now));
    clean = λ f h. can.clean f (of_items f (inr (k, (n, both side k item), subst (λ (t : AnyType). IsFaultInside c t f) (sym is) h)));
  }
    where
      both : (y : Side) (k : ItemKind) → IsItemOf (sides_in x) y n k false → Contains ((sides_in x).imports ++ (sides_in x).exports) (n, k)
      both imported k item = in_left (sides_in x).imports (sides_in x).exports (n, k) item
      both exported k item = in_right (sides_in x).imports (sides_in x).exports (n, k) item

  pub other-holds : (k : ItemKind) (i : InterfaceId) → IsItemOf (sides_in x) side n k false → kind_type k ≡ ty.Interface i → holds_type c (ty.Interface i) ≡ true
  other-holds k i item is = subst (λ (t : AnyType). holds_type c t ≡ true) is (can.held side n k false item)

  pub other-worlds : (k : ItemKind) (i : InterfaceId) → IsItemOf (sides_in x) side n k false → kind_type k ≡ ty.Interface i → HaveInterfaceWorlds c ws false i
  other-worlds k i item is = subst (λ (t : AnyType). HaveWorlds c ws t) is (can.worlds side n k item)

  pub other-item-ready : (k : ItemKind) (old mid : State) → MayFollow c b x side n old → IsItemOf (sides_in x) side n k false → BindsNothing → Goes c b old mid → HasInterfaceOf b mid k → IsItemReady c b ws mid k
  other-item-ready k old mid may item nothing goes has =
      let was = goes-written c b (sides_in x) may.0 old mid goes may.1.written in
      other-ready c wf ws (sides_in x) can side n b may.0 old may.1 k mid was.good item nothing has

  pub other-writes : (k : ItemKind) (old mid new : State) (p : ℕ) → IsItemOf (sides_in x) side n k false → BindsNothing → Goes c b old mid → AddsItem c b side n k mid new p → AddsBeside b side n mid new → WritesItem c b x side n old new
  other-writes k old mid new p item nothing goes adds beside xs next =
      let was = goes-written c b (sides_in x) xs old mid goes next.written in
      other-written c wf ws (sides_in x) can side n b xs old next k mid new p item nothing was.good was adds beside

  -- which of them

  pub number-made : (p : ℕ) (r : ResourceId) → slice_get (numbered_items (sides_in x)) p ≡ Some (side_item side n) → is_number p (owner_of x.owners.now.entries r) ≡ is_bound_at (export_bindings c (sides_in x) r) (side_item side n)
  number-made p r number = owner-test (sides_in x) c can.imports_once can.exports_once x.owners.now.entries planned.owners p (side_item side n) number r

  pub plain-nothing : (k : ItemKind) → interface_of k ≡ None → resource_of k ≡ None → IsItemOf (sides_in x) side n k false → BindsNothing
  plain-nothing k no_instance no_resource item = nothing-bound c ws (sides_in x) can side n k no_instance no_resource item

  pub alias-nothing : (p : ℕ) (k : ItemKind) (r : ResourceId) → slice_get (numbered_items (sides_in x)) p ≡ Some (side_item side n) → resource_of k ≡ Some r → IsItemOf (sides_in x) side n k false → is_number p (owner_of x.owners.now.entries (resolved c r)) ≡ false → BindsNothing
  alias-nothing p k r number is item other =
      aliased-bound c ws (sides_in x) can side n r (subst (λ (j : ItemKind). IsItemOf (sides_in x) side n j false) (resource-is k r is) item) (sym (number-made p (resolved c r) number) ∙ other)

-- the interface of an item

pub interface-is : (t : AnyType) (i : InterfaceId) → type_interface t ≡ Some i → t ≡ ty.Interface i
interface-is (ty.Interface j) i h = ap (λ (z : InterfaceId). ty.Interface z) (one-some j i h)
interface-is (ty.Resource j) i h = absurd (no-some i h)
interface-is (ty.Func j) i h = absurd (no-some i h)
interface-is (ty.Value j) i h = absurd (no-some i h)
interface-is (ty.World j) i h = absurd (no-some i h)
interface-is (ty.Module j) i h = absurd (no-some i h)

-- If the interface of an item is recorded, the item has it.
pub has-recorded : (b : Bool) (st : State) (k : ItemKind) (i : InterfaceId) → type_interface (kind_type k) ≡ Some i → (how : How) × (j : ℕ) × IsRecordedAt b st (ty.Interface i) how j → HasInterfaceOf b st k
has-recorded b st (kind.Instance j) i is there = subst (λ (z : InterfaceId). (how : How) × (p : ℕ) × IsRecordedAt b st (ty.Interface z) how p) (sym (one-some j i is)) there
has-recorded b st (kind.TypeItem (ty.Interface j)) i is there = subst (λ (z : InterfaceId). (how : How) × (p : ℕ) × IsRecordedAt b st (ty.Interface z) how p) (sym (one-some j i is)) there
has-recorded b st (kind.TypeItem (ty.Resource j)) i is there = tt
has-recorded b st (kind.TypeItem (ty.Func j)) i is there = tt
has-recorded b st (kind.TypeItem (ty.Value j)) i is there = tt
has-recorded b st (kind.TypeItem (ty.World j)) i is there = tt
has-recorded b st (kind.TypeItem (ty.Module j)) i is there = tt
has-recorded b st (kind.Func j) i is there = tt
has-recorded b st (kind.Component j) i is there = tt
has-recorded b st (kind.Module j) i is there = tt
has-recorded b st (kind.Value j) i is there = tt

-- An item whose type is no interface has none to be recorded.
pub has-none : (b : Bool) (st : State) (k : ItemKind) → type_interface (kind_type k) ≡ None → HasInterfaceOf b st k
has-none b st (kind.Instance j) is = absurd (no-some j (sym is))
has-none b st (kind.TypeItem (ty.Interface j)) is = absurd (no-some j (sym is))
has-none b st (kind.TypeItem (ty.Resource j)) is = tt
has-none b st (kind.TypeItem (ty.Func j)) is = tt
has-none b st (kind.TypeItem (ty.Value j)) is = tt
has-none b st (kind.TypeItem (ty.World j)) is = tt
has-none b st (kind.TypeItem (ty.Module j)) is = tt
has-none b st (kind.Func j) is = tt
has-none b st (kind.Component j) is = tt
has-none b st (kind.Module j) is = tt
has-none b st (kind.Value j) is = tt

-- results

pub ok-of-three : {A E : Type 0} (C R : Type 0) (L Q : A → Type 0) (r : Result A E) → ((x : A) → C → R → L x → Q x) → OnOk r C → OnOk r R → IfOk r L → IfOk r Q
ok-of-three C R L Q r f content records lists =
    if-both C (λ x. R × L x) Q r (λ x con both. f x con both.0 both.1) content (if-both R L (λ x. R × L x) r (λ x rec l. (rec, l)) records lists)

pub indexed-record : (b : Bool) (st : State) (t : AnyType) (o : Option ℕ) (i : ℕ) → o ≡ Some i → IfSome o (λ k. (how : How) × IsRecordedAt b st t how k) → (how : How) × IsRecordedAt b st t how i
indexed-record b st t None i is h = absurd (no-some i is)
indexed-record b st t (Some j) i is h = subst (λ (k : ℕ). (how : How) × IsRecordedAt b st t how k) (one-some j i is) h
