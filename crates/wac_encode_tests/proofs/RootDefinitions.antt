-- Types that are defined in the root.
use Rattle.std.specs.Prelude.{◌≡◌, ◌↔◌, Bool, true, List, Option, Some, None, Result, Ok, IfOk, IsSome, Contains, Vec}
use Rattle.std.proofs.Common.{sym, subst, inl, inr}
use Rattle.wac_types_shapes.specs.shapes.Kinds.{kind_type}
use Rattle.wac_types_shapes.specs.declared.shapes.component.ItemKind.{ItemKind}
use Rattle.wac_types_shapes.specs.declared.shapes.component.ResourceId.{ResourceId}
use Rattle.wac_types_shapes.specs.declared.shapes.component.«Type».{«Type» as AnyType}
use Rattle.wac_types_collection.specs.collection.Collection.{Collection, holds_type}
use Rattle.wac_types_collection.specs.collection.Bound.{Bindings}
use Rattle.wac_encode_stacks.specs.Good.{top}
use Rattle.wac_encode_scopes.specs.declared.state.State.{State}
use Rattle.wac_encode_scopes.specs.States.{Goes}
use Rattle.wac_encode_faults.specs.declared.fault.WriteFault.{WriteFault}
use Rattle.wac_encode_faults.specs.declared.faults.Role.TheVariants as role
use Rattle.wac_encode_faults.specs.Faults.{IsLowest, HasFault, IsDefinedFault, IsDefinitionFault}
use Rattle.wac_encode_faults.specs.Sides.{Sides, defined_sides}
use Rattle.wac_encode_interfaces.specs.private.Definitions.{AreDefinitionRoots, IsDefinable}
use Rattle.wac_encode_interfaces.specs.private.Worlds.{HaveWorlds, written_in}
use Rattle.wac_encode_interfaces.specs.declared.worlds.WorldTypes.{WorldTypes}
use Rattle.wac_encode_tests.specs.private.Opened.{BindsAll, CanDefine, IsRootOf}
use Rattle.wac_encode_tests.proofs.RootItems.{bindings-of, bottom-types, if-ok-is, in-bindings, root-types, unbound-less}

-- a type without a fault

-- The lowest fault of the item's type as a definition, in a root that binds these resources.
abbrev IsFaultOfDefinition : Collection → List ResourceId → ItemKind → Option WriteFault → Type 0
IsFaultOfDefinition c rs k o = (root : Bindings) → ((r : ResourceId) → Contains rs r ↔ IsSome (root r)) → IsLowest (HasFault c root role.Defined k) o

-- If fewer resources are bound, a definition still has the fault.
unbound-more : (c : Collection) (t : AnyType) (m n : Bindings) (f : WriteFault) → ((r : ResourceId) → m r ≡ None → n r ≡ None) → IsDefinitionFault c m t f → IsDefinitionFault c n t f
unbound-more c t m n f less (inl own) = inl own
unbound-more c t m n f less (inr part) = inr (by (defined_sides c t) part)
  where
    by : (o : Option Sides) → IsDefinedFault c m t o f → IsDefinedFault c n t o f
    by (Some s) h = h
    by None h = ((h.0.0, h.0.1, less h.0.0 h.0.2), h.1)

pub can-define : {E : Type 0} → (c : Collection) (b : Bool) (s : State) (k : ItemKind) (rs : List ResourceId) → BindsAll b s rs → (res : Result (Option WriteFault) E) (x : Option WriteFault) → res ≡ Ok x
    → IfOk res (IsFaultOfDefinition c rs k) → x ≡ None → CanDefine c b s (kind_type k)
can-define {E} c b s k rs bound res x is all none ms g f h =
    let low : IsLowest (HasFault c (bindings-of rs) role.Defined k) None =
    subst (λ (o : Option WriteFault). IsFaultOfDefinition c rs k o) none (if-ok-is (IsFaultOfDefinition c rs k) res x is all) (bindings-of rs) (in-bindings rs) in
    low f (unbound-more c (kind_type k) (top ms) (bindings-of rs) f (unbound-less b s rs bound c ms g) h)

-- the types inside which worlds are written first

pub roots-are : {E S : Type 0} (c : Collection) (a : AnyType) (res : Result (Vec AnyType S) E) (x : Vec AnyType S) → res ≡ Ok x → IfOk res (λ v. AreDefinitionRoots c a v.items) → AreDefinitionRoots c a x.items
roots-are {E} {S} c a res x is h = if-ok-is (λ (v : Vec AnyType S). AreDefinitionRoots c a v.items) res x is h

-- the premise of the writer, and the root after it

pub define-ready : (c u : Collection) (b d : Bool) (ws vs : WorldTypes) (s : State) (a : AnyType) (roots : List AnyType) → u ≡ c → d ≡ b → vs ≡ ws → holds_type c a ≡ true → IsRootOf c b s → CanDefine c b s a → AreDefinitionRoots c a roots
    → ((t : AnyType) → Contains roots t → HaveWorlds c (written_in ws) t) → IsDefinable u d (written_in vs) s a
define-ready c u b d ws vs s a roots p q w held r can are there =
    subst (λ (x : Collection). IsDefinable x d (written_in vs) s a) (sym p)
    (subst (λ (e : Bool). IsDefinable c e (written_in vs) s a) (sym q)
    (subst (λ (z : WorldTypes). IsDefinable c b (written_in z) s a) (sym w) (record {
      held = held;
      bindings = r.bindings;
      good = r.good;
      clean = can r.bindings r.good;
      worlds = are.enough (written_in ws) there;
    })))

pub root-goes : (c u : Collection) (b d : Bool) (s t : State) → u ≡ c → d ≡ b → IsRootOf c b s → Goes u d s t → IsRootOf c b t
root-goes c u b d s t p q r goes =
    let step : Goes c b s t = subst (λ (x : Collection). Goes x b s t) p (subst (λ (e : Bool). Goes u e s t) q goes) in
    record {
      bindings = r.bindings;
      good = (step.onward r.bindings r.good).0;
      root = root-types s.here.content t.here.content step.types.0 r.root;
      bottom = bottom-types s t step.types r.bottom;
    }
