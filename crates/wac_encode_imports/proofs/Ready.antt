-- The next import can be written.
use Rattle.std.proofs.Common.{ℕ, zero, suc, ◌≡◌, ◌≤◌, Bool, true, false, if◌then◌else◌, List, [], ◌∷◌, Option, Some, None, slice_get, refl, ap, sym, ◌∙◌, subst}
use Rattle.std.specs.Prelude.{◌==◌, ◌&&◌, is_some, length}
use Rattle.wac_types_shapes.specs.primitives.Name.{Name, option_case}
use Rattle.wac_types_shapes.specs.primitives.Tree.{imported, Place, position, named, Leaf, Tree, further_out}
use Rattle.wac_types_shapes.specs.shapes.Kinds.{kind_type}
use Rattle.wac_types_shapes.specs.declared.shapes.component.Interface.{Interface}
use Rattle.wac_types_shapes.specs.declared.shapes.component.InterfaceId.{InterfaceId}
use Rattle.wac_types_shapes.specs.declared.shapes.component.ItemKind.{ItemKind}
use Rattle.wac_types_shapes.specs.declared.shapes.component.ItemKind.TheVariants as kind
use Rattle.wac_types_shapes.specs.declared.shapes.component.ResourceId.{ResourceId}
use Rattle.wac_types_shapes.specs.declared.shapes.component.«Type».{«Type» as AnyType}
use Rattle.wac_types_shapes.specs.declared.shapes.component.«Type».TheVariants as ty
use Rattle.wac_types_collection.specs.collection.Collection.{Collection, item_at, holds_type}
use Rattle.wac_types_collection.specs.collection.Held.{resolved, resolved_in, source_of, item_tree}
use Rattle.wac_types_collection.specs.collection.Bound.{Bindings, own_name, is_alias, same_path, same_side, binds_here, is_here, held_tree, held_item}
use Rattle.wac_merge_classes.specs.entries.Binding.{kind_binds}
use Rattle.wac_merge_classes.specs.entries.Classes.{Entry, by_names}
use Rattle.wac_merge_classes.specs.terms.ClassOrder.{Mentions, begins_at}
use Rattle.wac_merge_classes.specs.terms.Merge.{Merged}
use Rattle.wac_encode_stacks.specs.Good.{Good, IsHeld}
use Rattle.wac_encode_stacks.proofs.Unfolded.{item_same}
use Rattle.wac_encode_scopes.specs.declared.state.State.{State}
use Rattle.wac_encode_scopes.specs.States.{stack}
use Rattle.wac_encode_faults.specs.Faults.{IsImportFault, import_fault}
use Rattle.wac_encode_faults.specs.Faults as faults
use Rattle.wac_encode_faults.specs.Free.{IsFree}
use Rattle.wac_encode_faults.specs.Free as free
use Rattle.wac_encode_faults.specs.declared.fault.WriteFault.{WriteFault}
use Rattle.wac_encode_faults.specs.declared.fault.WriteFault.TheVariants as fault
use Rattle.wac_encode_interfaces.specs.private.FreeTrees.{TreesByFree}
use Rattle.wac_encode_interfaces.specs.private.Imports.{IsImportReady}
use Rattle.wac_encode_interfaces.specs.private.Worlds.{Worlds}
use Rattle.wac_encode_interfaces.proofs.Items.{free-not-own}
use Rattle.wac_encode_imports.specs.private.Imports.{merged_bindings}
use Rattle.wac_encode_imports.specs.private.Written.{begins_at as begins_with, begins_below, is_bound_at, is_bound_below, bound_before, AreWritten, AreWritable}
use Rattle.wac_encode_imports.specs.private.Classes.{interface_of, resource_of}
use Rattle.wac_encode_imports.proofs.Bound.{true-false, bool-of, no-some, one-some, earlier}
use Rattle.wac_encode_imports.proofs.Bound as bound
use Rattle.wac_encode_imports.proofs.Binders.{IsBinder, binder, binder-here, instance-binds, resource-binds}
use Rattle.wac_encode_imports.proofs.Mentioned.{mentions-free, mentions-item}

no-fault : (o : Option WriteFault) → ((f : WriteFault) → o ≡ Some f → ⊥) → o ≡ None
no-fault None h = refl
no-fault (Some f) h = absurd (h f refl)

module _ (m : Merged) (ws : Worlds) (can : AreWritable m ws) (p : ℕ) (e : Entry) (there : slice_get m.imports p ≡ Some e) where
  abbrev c : Collection
  c = m.types

  abbrev far : Bindings
  far = merged_bindings m

  abbrev now : Bindings
  now = bound_before m p

  held : holds_type c (kind_type e.kind) ≡ true
  held = can.held p e there

  -- Each free resource of the import is bound in the end.
  pub bound-there : (r : ResourceId) → IsFree c (kind_type e.kind) r → (l : Leaf) × (far r ≡ Some l)
  bound-there r f = by (far r) refl
    where
      by : (o : Option Leaf) → far r ≡ o → (l : Leaf) × (o ≡ Some l)
      by None is = absurd (can.clean p e fault.UnboundResource there (faults.unbound (r, f, is)))
      by (Some l) is = (l, refl)

  -- The import binds no free resource, unless it is a resource of which it is the binder.
  abbrev pub BindsNoFree : Type 0
  BindsNoFree = (r : ResourceId) → IsFree c (kind_type e.kind) r → is_bound_at p (far r) ≡ false

  module _ (other : BindsNoFree) where
    -- Then it mentions only what earlier imports bind.
    not-fresh-here : (k : ItemKind) → ((r : ResourceId) → IsFree c (kind_type k) r → is_bound_at p (far r) ≡ false) → binds_here c far imported (position p ∷ []) k ≡ false
    not-fresh-here (kind.TypeItem (ty.Resource q)) h = by (far (resolved c q)) (h (resolved c q) (free.itself q))
      where
        at-position : (path : List Place) → begins_with p path ≡ false → same_path path (position p ∷ []) ≡ false
        at-position (position j ∷ rest) h = ap (λ b. if b then same_path rest [] else false) h
        at-position (named n ∷ rest) h = refl
        at-position [] h = refl

        not-both : (x y z : Bool) → z ≡ false → (x && (y && z)) ≡ false
        not-both true true z h = h
        not-both true false z h = refl
        not-both false y z h = refl

        by : (o : Option Leaf) → is_bound_at p o ≡ false → is_here imported (position p ∷ []) o ≡ false
        by None h = refl
        by (Some l) h = not-both (l.out == 0) (same_side l.side imported) (same_path l.path (position p ∷ [])) (at-position l.path h)
    not-fresh-here (kind.TypeItem (ty.Value v)) h = refl
    not-fresh-here (kind.TypeItem (ty.Func f)) h = refl
    not-fresh-here (kind.TypeItem (ty.Interface i)) h = refl
    not-fresh-here (kind.TypeItem (ty.World w)) h = refl
    not-fresh-here (kind.TypeItem (ty.Module x)) h = refl
    not-fresh-here (kind.Func f) h = refl
    not-fresh-here (kind.Instance i) h = refl
    not-fresh-here (kind.Component w) h = refl
    not-fresh-here (kind.Module x) h = refl
    not-fresh-here (kind.Value v) h = refl

    pub equal-here : binds_here c far imported (position p ∷ []) e.kind ≡ false
    equal-here = not-fresh-here e.kind other

    low-position : (r : ResourceId) (l : Leaf) → IsFree c (kind_type e.kind) r → (b : IsBinder m r l) → far r ≡ Some l → b.at ≤ p
    low-position r l f b is =
        can.before p b.at e there
        (mentions-item (λ (x : Leaf). begins_at b.at x.path) (held_tree c far) (binds_here c far imported (position p ∷ []) e.kind) e.kind equal-here
        (mentions-free c can.ordered can.once (λ (x : Leaf). begins_at b.at x.path) (λ x at. at) (kind_type e.kind) r held f far l is (subst (λ (x : Leaf). begins_at b.at x.path) (sym b.leaf) refl)))

    -- Each free resource is bound already, as in the end.
    pub bound-now : (r : ResourceId) → IsFree c (kind_type e.kind) r → now r ≡ far r
    bound-now r f =
        let w = bound-there r f in
        let b = binder m can.distinct r w.0 w.1 in
        let not_here : begins_with p (position b.at ∷ b.path) ≡ false = ap (λ (x : Leaf). is_bound_at p (Some x)) (sym b.leaf) ∙ ap (is_bound_at p) (sym w.1) ∙ other r f in
        let low : begins_below p (w.0).path ≡ true = ap (λ (x : Leaf). begins_below p x.path) b.leaf ∙ earlier p b.at b.path (low-position r w.0 f b w.1) not_here in
        bound.bound-before m p r (ap (is_bound_below p) w.1 ∙ low)

    pub has-bound : (r : ResourceId) → IsFree c (kind_type e.kind) r → (l : Leaf) × (now r ≡ Some l)
    has-bound r f = let w = bound-there r f in (w.0, bound-now r f ∙ w.1)

    -- The import is ready, and its tree is the final one.
    pub ready : TreesByFree → (s : State) → Good c (now ∷ []) (stack true s) → IsImportReady c true ws s e.kind
    ready trees s good = record {
      held = held;
      ready = (now ∷ [], good, (held_tree c now (kind_type e.kind), trees.held c now (kind_type e.kind) has-bound));
      writable = no-fault (import_fault e.kind) (λ f is. can.clean p e f there (faults.own f is));
      clean = λ f h. can.clean p e f there (faults.inside f h);
      worlds = can.worlds p e there;
    }

    same-here : (k : ItemKind) → ((r : ResourceId) → IsFree c (kind_type k) r → now r ≡ far r) → binds_here c now imported (position p ∷ []) k ≡ binds_here c far imported (position p ∷ []) k
    same-here (kind.TypeItem (ty.Resource q)) h = ap (is_here imported (position p ∷ [])) (h (resolved c q) (free.itself q))
    same-here (kind.TypeItem (ty.Value v)) h = refl
    same-here (kind.TypeItem (ty.Func f)) h = refl
    same-here (kind.TypeItem (ty.Interface i)) h = refl
    same-here (kind.TypeItem (ty.World w)) h = refl
    same-here (kind.TypeItem (ty.Module x)) h = refl
    same-here (kind.Func f) h = refl
    same-here (kind.Instance i) h = refl
    same-here (kind.Component w) h = refl
    same-here (kind.Module x) h = refl
    same-here (kind.Value v) h = refl

    pub final : TreesByFree → held_item c now imported (position p ∷ []) e.kind ≡ held_item c far imported (position p ∷ []) e.kind
    final trees =
        ap (λ b. item_tree (held_tree c now) b e.kind) (same-here e.kind bound-now)
        ∙ item_same (held_tree c now) (held_tree c far) (binds_here c far imported (position p ∷ []) e.kind) e.kind (trees.agree c now far (kind_type e.kind) bound-now)

    pub not-bound-here : binds_here c now imported (position p ∷ []) e.kind ≡ false
    not-bound-here = same-here e.kind bound-now ∙ equal-here

-- which imports bind no free resource

pub instance-other : (m : Merged) (ws : Worlds) (can : AreWritable m ws) (p : ℕ) (n : Name) (i : InterfaceId) (there : slice_get m.imports p ≡ Some (record { name = n; kind = kind.Instance i })) → BindsNoFree m ws can p (record { name = n; kind = kind.Instance i }) there
instance-other m ws can p n i there r f = bool-of (is_bound_at p (merged_bindings m r)) (λ h.
    let b = binder-here m can.distinct p (record { name = n; kind = kind.Instance i }) r there h in
    let w = instance-binds m.types n i r b.0 b.1 in
    no-some w.2 (sym (free-not-own m.types (ty.Interface i) i w.0 r refl w.1 f) ∙ w.3))

resolved-self : (c : Collection) (k : ℕ) (r : ResourceId) → is_alias c r ≡ false → resolved_in k c r ≡ r
resolved-self c zero r h = refl
resolved-self c (suc k) r h = by (source_of (slice_get c.resources r.0)) h
  where
    by : (o : Option ResourceId) → is_some o ≡ false → option_case o r (λ source. resolved_in k c source) ≡ r
    by None h = refl
    by (Some x) h = true-false true refl h

plain-binds : (m : Merged) (p : ℕ) (n : Name) (k : ItemKind) (r : ResourceId) (path : List Place) → interface_of k ≡ None → ((q : ResourceId) → resource_of k ≡ Some q → is_bound_at p (merged_bindings m (resolved m.types q)) ≡ false)
    → kind_binds by_names m.types n k r ≡ Some path → is_bound_at p (merged_bindings m r) ≡ true → ⊥
plain-binds m p n (kind.TypeItem (ty.Resource q)) r path bare other binds h =
    let w = resource-binds m.types n q r path binds in
    let end : resolved m.types q ≡ r = resolved-self m.types (length m.types.resources) q w.1 ∙ w.0 in
    true-false (is_bound_at p (merged_bindings m r)) h (ap (λ (x : ResourceId). is_bound_at p (merged_bindings m x)) (sym end) ∙ other q refl)
plain-binds m p n (kind.TypeItem (ty.Value v)) r path bare other binds h = no-some path binds
plain-binds m p n (kind.TypeItem (ty.Func f)) r path bare other binds h = no-some path binds
plain-binds m p n (kind.TypeItem (ty.Interface i)) r path bare other binds h = no-some path binds
plain-binds m p n (kind.TypeItem (ty.World w)) r path bare other binds h = no-some path binds
plain-binds m p n (kind.TypeItem (ty.Module x)) r path bare other binds h = no-some path binds
plain-binds m p n (kind.Func f) r path bare other binds h = no-some path binds
plain-binds m p n (kind.Instance i) r path bare other binds h = no-some i (sym bare)
plain-binds m p n (kind.Component w) r path bare other binds h = no-some path binds
plain-binds m p n (kind.Module x) r path bare other binds h = no-some path binds
plain-binds m p n (kind.Value v) r path bare other binds h = no-some path binds

-- An import that is no instance, and no resource of which it is the binder, binds nothing.
pub plain-other : (m : Merged) (ws : Worlds) (can : AreWritable m ws) (p : ℕ) (n : Name) (k : ItemKind) (there : slice_get m.imports p ≡ Some (record { name = n; kind = k })) → interface_of k ≡ None
    → ((q : ResourceId) → resource_of k ≡ Some q → is_bound_at p (merged_bindings m (resolved m.types q)) ≡ false) → (r : ResourceId) → is_bound_at p (merged_bindings m r) ≡ false
plain-other m ws can p n k there bare other r = bool-of (is_bound_at p (merged_bindings m r)) (λ h.
    let b = binder-here m can.distinct p (record { name = n; kind = k }) r there h in
    plain-binds m p n k r b.0 bare other b.1 h)
