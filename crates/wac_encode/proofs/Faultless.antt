-- Types without a fault can be written.
use Rattle.std.proofs.Common.{◌≡◌, Bool, true, false, Option, Some, None, inl, inr, refl, sym, ◌∙◌, subst, [], ◌∷◌}
use Rattle.wac_types_shapes.specs.primitives.Tree.{Leaf}
use Rattle.wac_types_shapes.specs.shapes.Kinds.{kind_type}
use Rattle.wac_types_shapes.specs.declared.shapes.component.InterfaceId.{InterfaceId}
use Rattle.wac_types_shapes.specs.declared.shapes.component.WorldId.{WorldId}
use Rattle.wac_types_shapes.specs.declared.shapes.component.ModuleTypeId.{ModuleTypeId}
use Rattle.wac_types_shapes.specs.declared.shapes.component.ResourceId.{ResourceId}
use Rattle.wac_types_shapes.specs.declared.shapes.component.ItemKind.TheVariants as kind
use Rattle.wac_types_shapes.specs.declared.shapes.component.«Type».{«Type» as AnyType}
use Rattle.wac_types_shapes.specs.declared.shapes.component.«Type».TheVariants as ty
use Rattle.wac_types_collection.specs.collection.Collection.{Collection, holds_type}
use Rattle.wac_types_collection.specs.collection.Bound.{Bindings, held_tree}
use Rattle.wac_encode_faults.specs.declared.fault.WriteFault.{WriteFault}
use Rattle.wac_encode_faults.specs.declared.fault.WriteFault.TheVariants as fault
use Rattle.wac_encode_faults.specs.declared.faults.Role.TheVariants as role
use Rattle.wac_encode_faults.specs.Faults.{HasFault, IsFaultInside, IsImportFault, IsDefinitionFault, IsLowest, import_fault, own, unbound, inside}
use Rattle.wac_encode_faults.specs.Free.{IsFree, IsUnbound}
use Rattle.wac_encode_faults.proofs.Lowest.{lowest_same}
use Rattle.wac_encode_stacks.specs.Good.{IsHeld}
use Rattle.wac_encode_interfaces.specs.private.Definitions.{HaveDefinedWorlds, IsDefinable}
use Rattle.wac_encode_interfaces.specs.private.FreeTrees.{TreesByFree}
use Rattle.wac_encode_interfaces.specs.private.Ready.{IsClean, IsInterfaceReady}
use Rattle.wac_encode_interfaces.specs.private.Worlds.{Worlds}
use Rattle.wac_encode_values.specs.private.Values.{IsReady}
use Rattle.wac_encode.specs.declared.state.State.{State}
use Rattle.wac_encode.specs.Errors.{HasTypeFault}
use Rattle.wac_encode.specs.Root.{IsStateFor}
use Rattle.wac_encode.specs.private.Ready.{IsWritable, MayDefine, item_of_type}

-- the faults of a type as those of an import

pub type-of-item : (a : AnyType) → kind_type (item_of_type a) ≡ a
type-of-item (ty.Resource r) = refl
type-of-item (ty.Func f) = refl
type-of-item (ty.Value v) = refl
type-of-item (ty.Interface i) = refl
type-of-item (ty.World w) = refl
type-of-item (ty.Module m) = refl

pub item-plain : (a : AnyType) → ((x : ModuleTypeId) → a ≡ ty.Module x → ⊥) → kind.TypeItem a ≡ item_of_type a
item-plain (ty.Module x) other = absurd (other x refl)
item-plain (ty.Resource r) other = refl
item-plain (ty.Func f) other = refl
item-plain (ty.Value v) other = refl
item-plain (ty.Interface i) other = refl
item-plain (ty.World w) other = refl

no-own-fault : (a : AnyType) → import_fault (item_of_type a) ≡ None
no-own-fault (ty.Resource r) = refl
no-own-fault (ty.Func f) = refl
no-own-fault (ty.Value v) = refl
no-own-fault (ty.Interface i) = refl
no-own-fault (ty.World w) = refl
no-own-fault (ty.Module m) = refl

no-some : {A : Type 0} → (x : A) → None ≡ Some x → ⊥
no-some x is = cc

module _ (c : Collection) (m : Bindings) (a : AnyType) where
  to-type : (f : WriteFault) → IsImportFault c m (item_of_type a) f → HasTypeFault c m a f
  to-type _ (own f is) = absurd (no-some f (sym (no-own-fault a) ∙ is))
  to-type _ (unbound h) = inl (subst (IsUnbound c m) (type-of-item a) h, refl)
  to-type _ (inside f h) = inr (subst (λ (t : AnyType). IsFaultInside c t f) (type-of-item a) h)

  from-type : (f : WriteFault) → HasTypeFault c m a f → IsImportFault c m (item_of_type a) f
  from-type f (inl (h, is)) = subst (IsImportFault c m (item_of_type a)) (sym is) (unbound (subst (IsUnbound c m) (sym (type-of-item a)) h))
  from-type f (inr h) = inside f (subst (λ (t : AnyType). IsFaultInside c t f) (sym (type-of-item a)) h)

  pub lowest-type : (o : Option WriteFault) → IsLowest (HasFault c m role.Imported (item_of_type a)) o → IsLowest (HasTypeFault c m a) o
  lowest-type o low = lowest_same (IsImportFault c m (item_of_type a)) (HasTypeFault c m a) o (λ f. (to-type f, from-type f)) low

-- what holds of a type without a fault

pub clean-of : (c : Collection) (b : Bool) (s : State) (a : AnyType) → IsWritable c b s a → IsClean c a
clean-of c b s a h f is = h.clean f (inr is)

pub bound-free : (c : Collection) (b : Bool) (s : State) (a : AnyType) (h : IsWritable c b s a) (r : ResourceId) → IsFree c a r → (l : Leaf) × (h.bindings r ≡ Some l)
bound-free c b s a h r free = by (h.bindings r) refl
  where
    by : (o : Option Leaf) → h.bindings r ≡ o → (l : Leaf) × (o ≡ Some l)
    by None none = absurd (h.clean fault.UnboundResource (inl ((r, free, none), refl)))
    by (Some l) is = (l, refl)

held-of : TreesByFree → (c : Collection) (b : Bool) (s : State) (a : AnyType) (h : IsWritable c b s a) → IsHeld c h.bindings a (held_tree c h.bindings a)
held-of law c b s a h = law.held c h.bindings a (bound-free c b s a h)

pub ready-of : TreesByFree → (c : Collection) (b : Bool) (s : State) (a : AnyType) → IsWritable c b s a → IsReady c b s.scopes a
ready-of law c b s a h = (h.bindings ∷ [], h.state.good, (held_tree c h.bindings a, held-of law c b s a h))

pub interface-ready : TreesByFree → (c : Collection) (b : Bool) (s : State) (i : InterfaceId) → IsWritable c b s (ty.Interface i) → IsInterfaceReady c b s.scopes false i
interface-ready law c b s i h = record {
  bindings = h.bindings ∷ [];
  good = h.state.good;
  tree = held_tree c h.bindings (ty.Interface i);
  held = held-of law c b s (ty.Interface i) h;
  clean = clean-of c b s (ty.Interface i) h;
}

pub definable-of : (c : Collection) (b : Bool) (s : State) (a : AnyType) (ws : Worlds) → MayDefine c b s a → HaveDefinedWorlds c ws a → IsDefinable c b ws s.scopes a
definable-of c b s a ws h worlds = record { held = h.held; bindings = h.bindings ∷ []; good = h.state.good; clean = h.clean; worlds = worlds }

-- a type that is no component type as a definition

faultless-plain : (c : Collection) (b : Bool) (s : State) (a : AnyType) (h : IsWritable c b s a) → ((i : InterfaceId) → a ≡ ty.Interface i → ⊥) → ((w : WorldId) → a ≡ ty.World w → ⊥) → ((x : ModuleTypeId) → a ≡ ty.Module x → ⊥)
    → (f : WriteFault) → IsDefinitionFault c h.bindings a f → ⊥
faultless-plain c b s (ty.Interface i) h one two three f is = one i refl
faultless-plain c b s (ty.World w) h one two three f is = two w refl
faultless-plain c b s (ty.Module x) h one two three f is = three x refl
faultless-plain c b s (ty.Resource r) h one two three f (inl is) = no-some f is
faultless-plain c b s (ty.Resource r) h one two three f (inr is) = h.clean f (inl is)
faultless-plain c b s (ty.Func g) h one two three f (inl is) = no-some f is
faultless-plain c b s (ty.Func g) h one two three f (inr is) = h.clean f (inl is)
faultless-plain c b s (ty.Value v) h one two three f (inl is) = no-some f is
faultless-plain c b s (ty.Value v) h one two three f (inr is) = h.clean f (inl is)

pub may-define : (c : Collection) (b : Bool) (s : State) (a : AnyType) → IsWritable c b s a → ((i : InterfaceId) → a ≡ ty.Interface i → ⊥) → ((w : WorldId) → a ≡ ty.World w → ⊥) → ((x : ModuleTypeId) → a ≡ ty.Module x → ⊥)
    → MayDefine c b s a
may-define c b s a h one two three = record { held = h.held; bindings = h.bindings; state = h.state; clean = faultless-plain c b s a h one two three }

pub writable-as : (c : Collection) (b : Bool) (s : State) (a t : AnyType) → a ≡ t → IsWritable c b s a → IsWritable c b s t
writable-as c b s a t is h = subst (IsWritable c b s) is h

-- what is asked for has no fault

pub writable : (c : Collection) (b : Bool) (s : State) (a : AnyType) → holds_type c a ≡ true → (m : Bindings) × IsStateFor c b m s → ((m : Bindings) → IsStateFor c b m s → IsLowest (HasTypeFault c m a) None) → IsWritable c b s a
writable c b s a held (m, state) none = record { held = held; bindings = m; state = state; clean = none m state }

pub definable : (c : Collection) (b : Bool) (s : State) (a : AnyType) → holds_type c a ≡ true → (m : Bindings) × IsStateFor c b m s → ((m : Bindings) → IsStateFor c b m s → IsLowest (IsDefinitionFault c m a) None) → MayDefine c b s a
definable c b s a held (m, state) none = record { held = held; bindings = m; state = state; clean = none m state }
