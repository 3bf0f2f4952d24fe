-- Worlds whose component types are written ahead.
use Rattle.std.proofs.Common.{ℕ, zero, suc, ◌+◌, ◌≤◌, true, false, Bool, eq-eqb, List, [], ◌∷◌, ◌++◌, take, length, Contains, Option, Some, None, ◌≡◌, inl, inr, refl, ap, sym, ◌∙◌, subst, arith, slice_get, flat_map}
use Rattle.std.specs.Prelude.{cond}
use Rattle.std.proofs.lemmas.Bool.{eqb-true}
use Rattle.std.proofs.lemmas.List.{take_all}
use Rattle.wac_types_shapes.specs.primitives.Name.{Name, option_case}
use Rattle.wac_types_shapes.specs.shapes.Kinds.{kind_type}
use Rattle.wac_types_shapes.specs.contracts.shapes.component.WorldIdPartialEq.TheImpl as IdEq
use Rattle.wac_types_shapes.specs.declared.shapes.component.World.{World}
use Rattle.wac_types_shapes.specs.declared.shapes.component.WorldId.{WorldId}
use Rattle.wac_types_shapes.specs.declared.shapes.component.ItemKind.{ItemKind}
use Rattle.wac_types_shapes.specs.declared.shapes.component.ItemKind.TheVariants as kind
use Rattle.wac_types_shapes.specs.declared.shapes.component.«Type».{«Type» as AnyType}
use Rattle.wac_types_shapes.specs.declared.shapes.component.«Type».TheVariants as ty
use Rattle.wac_types_collection.specs.collection.Collection.{Collection, IsWellFormed, holds_type, item_at}
use Rattle.wac_types_collection.proofs.lemmas.wide.Members.{in_none, in_first, in_one, in_either, in_flat}
use Rattle.wac_binary.specs.Items.{Decl}
use Rattle.wac_encode_stacks.specs.Good.{IsHeld}
use Rattle.wac_encode_scopes.specs.private.Components.{ComponentHasMeaning, component_tree}
use Rattle.wac_encode_faults.specs.Sides.{Sides, world_sides}
use Rattle.wac_encode_faults.specs.Faults as faults
use Rattle.wac_encode_faults.specs.Faults.{listed_items, IsListed, IsInside, IsFaultInside, IsFaultOfListed, IsFaultOfItems, IsSidesFault, HasNameTwice}
use Rattle.wac_encode_faults.specs.declared.fault.WriteFault.{WriteFault}
use Rattle.wac_encode_faults.specs.declared.fault.WriteFault.TheVariants as fault
use Rattle.wac_encode_interfaces.specs.declared.sides.Sides.{Sides as GivenSides}
use Rattle.wac_encode_interfaces.specs.declared.worlds.WorldTypes.{WorldTypes}
use Rattle.wac_encode_interfaces.specs.private.Given.{AreHeldSides, HaveSidesWorlds}
use Rattle.wac_encode_faults.specs.Trees.{sides_tree}
use Rattle.wac_encode_interfaces.specs.private.Worlds.{Worlds, AreWorldTypes, HaveWorlds, written_in}
use Rattle.wac_encode_interfaces.specs.private.Ready.{IsClean, AreSidesClean}
use Rattle.wac_encode_interfaces.specs.private.InnerTypes.{interface_or_world, IsInnerFirst, IsWorldType, HaveInner, KeepsWorlds}
use Rattle.wac_encode_interfaces.proofs.InnerTypes.{listed-held, listed-inner}
use Rattle.wac_encode_interfaces.proofs.WorldSides.{world-held}

-- ---- a world without a fault
pub world-lists : (c : Collection) (w : WorldId) (x : World) → item_at c.worlds w.0 ≡ Some x → listed_items c (ty.World w) ≡ x.imports ++ x.exports
world-lists c w x at = ap (λ (o : Option World). option_case o [] (λ y. y.imports) ++ option_case o [] (λ y. y.exports)) at

none-twice : (s : Sides) → s.additional ≡ [] → HasNameTwice s → ⊥
none-twice s none (HasNameTwice.of_import n k i there more) = in_none (n, kind.Instance i) (subst (λ es. Contains es (n, kind.Instance i)) none more)
none-twice s none (HasNameTwice.of_additional n i j there more differ) = in_none (n, kind.Instance i) (subst (λ es. Contains es (n, kind.Instance i)) none there)

-- a fault of a world's sides is a fault of the world
sides-fault : (c : Collection) (w : WorldId) (x : World) → item_at c.worlds w.0 ≡ Some x → (f : WriteFault) → IsSidesFault c (world_sides x) f → IsFaultInside c (ty.World w) f
sides-fault c w x at f (IsSidesFault.unbound h) = (ty.World w, faults.itself (ty.World w) (ty.World w) refl, faults.of_world w fault.UnboundResource (faults.unbound x at h))
sides-fault c w x at f (IsSidesFault.of_items g h) = by h
  where
    by : IsFaultOfItems c (x.imports ++ x.exports) g → IsFaultInside c (ty.World w) g
    by (inl l) = (ty.World w, faults.itself (ty.World w) (ty.World w) refl, faults.of_listed (ty.World w) g (subst (λ es. IsFaultOfListed es g) (sym (world-lists c w x at)) l))
    by (inr (k, l, (s, within, has))) = (s, faults.in_item s (ty.World w) k (subst (IsListed k) (sym (world-lists c w x at)) l) within, has)
sides-fault c w x at f (IsSidesFault.of_additional n i g there h) = absurd (in_none (n, kind.Instance i) there)
sides-fault c w x at f (IsSidesFault.twice h) = absurd (none-twice (world_sides x) refl h)
sides-fault c w x at f (IsSidesFault.cycle h) = (ty.World w, faults.itself (ty.World w) (ty.World w) refl, faults.of_world w fault.TypesUseEachOther (faults.cycle x at h))

pub clean-sides : (c : Collection) (w : WorldId) (x : World) → item_at c.worlds w.0 ≡ Some x → IsClean c (ty.World w) → AreSidesClean c (world_sides x)
clean-sides c w x at clean f h = clean f (sides-fault c w x at f h)

pub world-held-items : (c : Collection) → IsWellFormed c → (w : WorldId) (x : World) → item_at c.worlds w.0 ≡ Some x → (e : Name × ItemKind) → Contains (x.imports ++ x.exports) e → holds_type c (kind_type e.1) ≡ true
world-held-items c wf w x at e h = listed-held c wf (ty.World w) e (subst (λ es. Contains es e) (sym (world-lists c w x at)) h)

pub world-inner : (c : Collection) (ws : Worlds) (w : WorldId) (x : World) → item_at c.worlds w.0 ≡ Some x → HaveInner c ws (ty.World w) → (e : Name × ItemKind) → Contains (x.imports ++ x.exports) e → HaveWorlds c ws (kind_type e.1)
world-inner c ws w x at inner e h = inner e.1 (e.0, subst (λ es. Contains es e) (sym (world-lists c w x at)) h)

-- ---- worlds that are written
pub inner-worlds : (c : Collection) (ws : Worlds) (t : AnyType) → ((w : WorldId) → t ≡ ty.World w → (ds : List Decl) × (ws w ≡ Some ds)) → HaveInner c ws t → HaveWorlds c ws t
inner-worlds c ws t here inner w (faults.itself _ _ e) = here w (sym e)
inner-worlds c ws t here inner w (faults.in_item _ _ k l within) = inner k l w within

pub no-scope : (c : Collection) (ws : Worlds) (t : AnyType) → listed_items c t ≡ [] → ((w : WorldId) → t ≡ ty.World w → ⊥) → HaveWorlds c ws t
no-scope c ws t none differs = inner-worlds c ws t (λ w e. absurd (differs w e)) (λ k l. absurd (in_none (l.0, k) (subst (λ es. Contains es (l.0, k)) none l.1)))

scope-worlds : (c : Collection) (ws : Worlds) (t : AnyType) → ((u : AnyType) → Contains (interface_or_world t) u → HaveWorlds c ws u) → HaveWorlds c ws t
scope-worlds c ws (ty.Interface i) h = h (ty.Interface i) (in_first (ty.Interface i) [])
scope-worlds c ws (ty.World v) h = h (ty.World v) (in_first (ty.World v) [])
scope-worlds c ws (ty.Resource r) h = no-scope c ws (ty.Resource r) refl (λ w e. cc)
scope-worlds c ws (ty.Func g) h = no-scope c ws (ty.Func g) refl (λ w e. cc)
scope-worlds c ws (ty.Value v) h = no-scope c ws (ty.Value v) refl (λ w e. cc)
scope-worlds c ws (ty.Module m) h = no-scope c ws (ty.Module m) refl (λ w e. cc)

-- Each world inside the first types is written.
abbrev pub HaveFirst : Collection → Worlds → List AnyType → ℕ → Type 0
HaveFirst c ws ts n = (t : AnyType) → Contains (take n ts) t → HaveWorlds c ws t

pub first-inner : (c : Collection) (ws : Worlds) (ts : List AnyType) (n : ℕ) (t : AnyType) → IsInnerFirst c ts → slice_get ts n ≡ Some t → HaveFirst c ws ts n → HaveInner c ws t
first-inner c ws ts n t sorted at before k l = scope-worlds c ws (kind_type k) (λ u w. before u (sorted n t u at (listed-inner c t u k l w)))

pub first-none : (c : Collection) (ws : Worlds) (ts : List AnyType) → HaveFirst c ws ts 0
first-none c ws ts t h = absurd (in_none t h)

take-one : (ts : List AnyType) (n : ℕ) (t : AnyType) → slice_get ts n ≡ Some t → take (suc n) ts ≡ take n ts ++ t ∷ []
take-one [] n t h = cc
take-one (x ∷ ts) zero t h = ap (λ z. z ∷ []) (first h)
  where
    first : Some x ≡ Some t → x ≡ t
    first h = cc
take-one (x ∷ ts) (suc n) t h = ap (λ l. x ∷ l) (take-one ts n t h)

kept-worlds : (c : Collection) (old new : Worlds) (t : AnyType) → KeepsWorlds old new → HaveWorlds c old t → HaveWorlds c new t
kept-worlds c old new t kept h w within = let (ds, at) = h w within in kept w ds at

pub first-next : (c : Collection) (old new : Worlds) (ts : List AnyType) (n : ℕ) (t : AnyType) → slice_get ts n ≡ Some t → KeepsWorlds old new → HaveWorlds c new t → HaveFirst c old ts n → HaveFirst c new ts (n + 1)
first-next c old new ts n t at kept here first u h =
    let more : suc n ≡ n + 1 = omega arith in
    elim (in_either (take n ts) (t ∷ []) u (subst (λ l. Contains l u) (ap (λ (m : ℕ). take m ts) (sym more) ∙ take-one ts n t at) h)) [
      | inl before ↦ kept-worlds c old new u kept (first u before)
      | inr one ↦ subst (HaveWorlds c new) (sym (in_one t u one)) here
    ]

pub first-all : (c : Collection) (ws : Worlds) (ts : List AnyType) (n : ℕ) → length ts ≤ n → HaveFirst c ws ts n → (t : AnyType) → Contains ts t → HaveWorlds c ws t
first-all c ws ts n past first t h = first t (subst (λ l. Contains l t) (sym (take_all n ts past)) h)

pub given-worlds : (c : Collection) (ws : Worlds) (ts given : List AnyType) → ((t : AnyType) → Contains ts t → HaveWorlds c ws t) → ((t : AnyType) → Contains (flat_map interface_or_world given) t → Contains ts t)
    → (t : AnyType) → Contains given t → HaveWorlds c ws t
given-worlds c ws ts given have there t h = scope-worlds c ws t (λ u w. have u (there u (in_flat interface_or_world given t u h w)))

-- ---- one more world
-- The world has the declarations, and each other world has those that it had.
abbrev pub PutsWorld : Worlds → WorldId → List Decl → Worlds → Type 0
PutsWorld old w ds new = (v : WorldId) → new v ≡ cond ((IdEq.ghosts).eq w v) (Some ds) (old v)

pub same-world : (v w : WorldId) → (IdEq.ghosts).eq v w ≡ true → v ≡ w
same-world v w e = ap (λ n. record { 0 = n }) (eqb-true v.0 w.0 e)

pub put-kept : (old new : Worlds) (w : WorldId) (ds : List Decl) → PutsWorld old w ds new → KeepsWorlds old new
put-kept old new w ds put v es at = by ((IdEq.ghosts).eq w v) refl
  where
    by : (b : Bool) → (IdEq.ghosts).eq w v ≡ b → (fs : List Decl) × (new v ≡ Some fs)
    by true e = (ds, put v ∙ ap (λ b. cond b (Some ds) (old v)) e)
    by false e = (es, put v ∙ ap (λ b. cond b (Some ds) (old v)) e ∙ at)

pub put-types : (c : Collection) (old new : Worlds) (w : WorldId) (ds : List Decl) → PutsWorld old w ds new → IsWorldType c w ds → AreWorldTypes c old → AreWorldTypes c new
put-types c old new w ds put is are v es at = by ((IdEq.ghosts).eq w v) refl
  where
    one : Some ds ≡ Some es → ds ≡ es
    one h = cc

    by : (b : Bool) → (IdEq.ghosts).eq w v ≡ b → IsWorldType c v es
    by true e = subst (λ z. IsWorldType c z es) (same-world w v e) (subst (IsWorldType c w) (one (sym (put v ∙ ap (λ b. cond b (Some ds) (old v)) e) ∙ at)) is)
    by false e = are v es (sym (put v ∙ ap (λ b. cond b (Some ds) (old v)) e) ∙ at)

pub put-there : (c : Collection) (old new : Worlds) (w : WorldId) (ds : List Decl) (t : AnyType) → t ≡ ty.World w → PutsWorld old w ds new → HaveInner c old t → HaveWorlds c new t
put-there c old new w ds t is put inner =
    inner-worlds c new t (λ v e. (ds, put v ∙ ap (λ b. cond b (Some ds) (old v)) (by v (one v (sym is ∙ e))))) (λ k l. kept-worlds c old new (kind_type k) (put-kept old new w ds put) (inner k l))
  where
    one : (v : WorldId) → ty.World w ≡ ty.World v → w ≡ v
    one v e = cc

    by : (v : WorldId) → w ≡ v → (IdEq.ghosts).eq w v ≡ true
    by v e = subst (λ z. (IdEq.ghosts).eq w z ≡ true) e (eq-eqb w.0 w.0 refl)

-- ---- a type that is no world
pub other-there : (c : Collection) (ws : Worlds) (t : AnyType) → ((w : WorldId) → t ≡ ty.World w → ⊥) → HaveInner c ws t → HaveWorlds c ws t
other-there c ws t differs inner = inner-worlds c ws t (λ w e. absurd (differs w e)) inner

pub same-kept : (ws : Worlds) → KeepsWorlds ws ws
same-kept ws w ds at = (ds, at)

-- ---- what a component type with the sides of a world is
pub is-world-type : (c : Collection) → IsWellFormed c → (w : WorldId) (x : World) → item_at c.worlds w.0 ≡ Some x → (ds : List Decl) → ComponentHasMeaning ds → component_tree ds ≡ sides_tree c (world_sides x) → IsWorldType c w ds
is-world-type c wf w x at ds meaning is = (meaning, λ m. subst (IsHeld c m (ty.World w)) (sym is) (world-held c wf w x at m))

-- ---- no world is written
pub none-written : (c : Collection) (ws : Worlds) → ((w : WorldId) → ws w ≡ None) → AreWorldTypes c ws
none-written c ws none w ds at = let no : None ≡ Some ds = sym (none w) ∙ at in cc

-- ---- a writer of the same collection
pub held-as : {x : GivenSides} (c d : Collection) → d ≡ c → AreHeldSides c x → AreHeldSides d x
held-as {x} c d same h = subst (λ z. AreHeldSides z x) (sym same) h

pub worlds-as : {x : GivenSides} (c d : Collection) (ws vs : WorldTypes) → d ≡ c → vs ≡ ws → HaveSidesWorlds c (written_in ws) x → HaveSidesWorlds d (written_in vs) x
worlds-as {x} c d ws vs same is h = subst (λ z. HaveSidesWorlds z (written_in vs) x) (sym same) (subst (λ z. HaveSidesWorlds c (written_in z) x) (sym is) h)
