-- What a collection has stays in one that begins with it.
use Rattle.std.proofs.Common.{◌≡◌, ℕ, zero, suc, ◌<◌, List, [], ◌∷◌, ◌++◌, length, Option, Some, None, true, nat_lt, refl, ap, sym, ◌∙◌, subst, arith}
use Rattle.std.specs.Prelude.{slice_get}
use Rattle.wac_types_shapes.specs.primitives.Name.{option_case}
use Rattle.wac_types_collection.specs.collection.Collection.{Collection, HasResource, HasFunc, HasDefined, HasInterface, HasWorld, HasModule, IsSourceBelow, IsWellFormed, holds_type, holds_value, interface_exports, item_at, item_of, size, with_resource, with_func, with_defined, with_interface, IsKeptBy}
use Rattle.wac_types_collection.specs.collection.Held.{resolved, resolved_in, source_of}
use Rattle.wac_types_collection.specs.declared.collection.collection.Held.{Held}
use Rattle.wac_types_shapes.specs.declared.shapes.component.Resource.{Resource}
use Rattle.wac_types_shapes.specs.declared.shapes.component.ResourceId.{ResourceId}
use Rattle.wac_types_shapes.specs.declared.shapes.component.ResourceAlias.{ResourceAlias}
use Rattle.wac_types_shapes.specs.declared.shapes.component.FuncType.{FuncType}
use Rattle.wac_types_shapes.specs.declared.shapes.component.FuncTypeId.{FuncTypeId}
use Rattle.wac_types_shapes.specs.declared.shapes.component.DefinedType.{DefinedType}
use Rattle.wac_types_shapes.specs.declared.shapes.component.DefinedTypeId.{DefinedTypeId}
use Rattle.wac_types_shapes.specs.declared.shapes.component.Interface.{Interface}
use Rattle.wac_types_shapes.specs.declared.shapes.component.InterfaceId.{InterfaceId}
use Rattle.wac_types_shapes.specs.declared.shapes.component.ValueType.{ValueType}
use Rattle.wac_types_shapes.specs.declared.shapes.component.ValueType.TheVariants as val
use Rattle.wac_types_shapes.specs.declared.shapes.component.WorldId.{WorldId}
use Rattle.wac_types_shapes.specs.declared.shapes.component.ModuleTypeId.{ModuleTypeId}
use Rattle.wac_types_shapes.specs.declared.shapes.component.«Type».{«Type» as AnyType}
use Rattle.wac_types_shapes.specs.declared.shapes.component.«Type».TheVariants as ty
use Rattle.wac_types_collection.specs.subtyping.Subtype.{held_name, resource_names}
use Rattle.wac_types_collection.specs.subtyping.TreeLaws.{GrowthKeepsTrees}
use Rattle.wac_types_collection.specs.private.subtyping.Extended.{IsExtended}
use Rattle.wac_merge_tables.specs.made.Made.{AreThere, IsOfForm}
use Rattle.wac_merge_tables.specs.made.Shapes.{shape_view}
use Rattle.wac_merge_tables.specs.declared.made.made.FuncForm.{FuncForm}
use Rattle.wac_merge_tables.specs.declared.made.made.Made.{Made}

-- ---- lists of which the one keeps what the other has
abbrev pub Keeps : {A : Type 0} → List A → List A → Type 0
Keeps xs ys = (i : ℕ) (h : _) → slice_get xs i ≡ Some h → slice_get ys i ≡ Some h

pub got : {A : Type 0} (xs : List A) (i : ℕ) → i < length xs → (h : A) × (slice_get xs i ≡ Some h)
got [] i low = absurd (omega (arith, low))
got (x ∷ xs) zero low = (x, refl)
got (x ∷ xs) (suc i) low = got xs i (omega (arith, low))

pub within : {A : Type 0} (xs : List A) (i : ℕ) (h : A) → slice_get xs i ≡ Some h → i < length xs
within [] i h is = cc
within (x ∷ xs) zero h is = omega arith
within (x ∷ xs) (suc i) h is = let r = within xs i h is in omega (arith, r)

pub within_held : {A : Type 0} (xs : List (Held A)) (i : ℕ) (x : A) → item_at xs i ≡ Some x → i < length xs
within_held [] i x e = cc
within_held (h ∷ xs) zero x e = omega arith
within_held (h ∷ xs) (suc i) x e = let low = within_held xs i x e in omega (arith, low)

pub kept_low : {A : Type 0} (xs ys : List A) → Keeps xs ys → (i : ℕ) → i < length xs → i < length ys
kept_low xs ys k i low = let g = got xs i low in within ys i g.0 (k i g.0 g.1)

pub kept_get : {A : Type 0} (xs ys : List A) → Keeps xs ys → (i : ℕ) → i < length xs → slice_get ys i ≡ slice_get xs i
kept_get xs ys k i low = let g = got xs i low in k i g.0 g.1 ∙ sym g.1

kept_tested : {A : Type 0} (xs ys : List A) → Keeps xs ys → (i : ℕ) → nat_lt i (length xs) ≡ true → nat_lt i (length ys) ≡ true
kept_tested xs ys k i h =
    let low : i < length xs = grind (arith, h) in
    let r : i < length ys = kept_low xs ys k i low in
    grind (arith, r)

kept_behind : {A : Type 0} (xs : List A) (y : A) → Keeps xs (xs ++ y ∷ [])
kept_behind [] y i h is = cc
kept_behind (x ∷ xs) y zero h is = is
kept_behind (x ∷ xs) y (suc i) h is = kept_behind xs y i h is

kept_whole : {A : Type 0} (xs : List A) → Keeps xs xs
kept_whole xs i h is = is

pub kept_item : {A : Type 0} (xs ys : List (Held A)) → Keeps xs ys → (i : ℕ) (x : A) → item_at xs i ≡ Some x → item_at ys i ≡ Some x
kept_item xs ys k i x is = by (slice_get xs i) refl is where
  by : (o : Option (Held _)) → slice_get xs i ≡ o → item_of o ≡ Some x → item_at ys i ≡ Some x
  by None at e = cc
  by (Some h) at e = ap item_of (k i h at) ∙ e

-- ---- a collection that keeps another's items
whole : (c : Collection) → IsKeptBy c c
whole c = record {
  resources = kept_whole c.resources;
  funcs = kept_whole c.funcs;
  defined = kept_whole c.defined;
  interfaces = kept_whole c.interfaces;
  worlds = kept_whole c.worlds;
  modules = kept_whole c.modules;
}

kept_twice : (a b c : Collection) → IsKeptBy a b → IsKeptBy b c → IsKeptBy a c
kept_twice a b c g h = record {
  resources = λ i x is. h.resources i x (g.resources i x is);
  funcs = λ i x is. h.funcs i x (g.funcs i x is);
  defined = λ i x is. h.defined i x (g.defined i x is);
  interfaces = λ i x is. h.interfaces i x (g.interfaces i x is);
  worlds = λ i x is. h.worlds i x (g.worlds i x is);
  modules = λ i x is. h.modules i x (g.modules i x is);
}

value_kept : (c m : Collection) → IsKeptBy c m → (v : ValueType) → holds_value c v ≡ true → holds_value m v ≡ true
value_kept c m k (val.Primitive p) h = h
value_kept c m k (val.Borrow r) h = kept_tested c.resources m.resources k.resources r.0 h
value_kept c m k (val.Own r) h = kept_tested c.resources m.resources k.resources r.0 h
value_kept c m k (val.Defined d) h = kept_tested c.defined m.defined k.defined d.0 h

type_kept : (c m : Collection) → IsKeptBy c m → (t : AnyType) → holds_type c t ≡ true → holds_type m t ≡ true
type_kept c m k (ty.Resource r) h = kept_tested c.resources m.resources k.resources r.0 h
type_kept c m k (ty.Func f) h = kept_tested c.funcs m.funcs k.funcs f.0 h
type_kept c m k (ty.Value v) h = value_kept c m k v h
type_kept c m k (ty.Interface i) h = kept_tested c.interfaces m.interfaces k.interfaces i.0 h
type_kept c m k (ty.World w) h = kept_tested c.worlds m.worlds k.worlds w.0 h
type_kept c m k (ty.Module w) h = kept_tested c.modules m.modules k.modules w.0 h

-- ---- a collection that begins with another
pub extended_none : (c : Collection) → IsExtended c c
extended_none c = record { kept = whole c; trees = ((λ t h. refl), (λ m t h. refl)) }

pub extended_twice : (a b c : Collection) → IsExtended a b → IsExtended b c → IsExtended a c
extended_twice a b c g h = record {
  kept = kept_twice a b c g.kept h.kept;
  trees = (
    (λ t held. h.trees.0 t (type_kept a b g.kept t held) ∙ g.trees.0 t held),
    (λ m t held. h.trees.1 m t (type_kept a b g.kept t held) ∙ g.trees.1 m t held),
  );
}

pub extended_resource : (c : Collection) → GrowthKeepsTrees c → (x : Resource) → IsExtended c (with_resource c x)
extended_resource c g x = record {
  kept = record {
    resources = kept_behind c.resources (record { item = x; before = size c });
    funcs = kept_whole c.funcs;
    defined = kept_whole c.defined;
    interfaces = kept_whole c.interfaces;
    worlds = kept_whole c.worlds;
    modules = kept_whole c.modules;
  };
  trees = g.resource x;
}

pub extended_func : (c : Collection) → GrowthKeepsTrees c → (x : FuncType) → IsExtended c (with_func c x)
extended_func c g x = record {
  kept = record {
    resources = kept_whole c.resources;
    funcs = kept_behind c.funcs (record { item = x; before = size c });
    defined = kept_whole c.defined;
    interfaces = kept_whole c.interfaces;
    worlds = kept_whole c.worlds;
    modules = kept_whole c.modules;
  };
  trees = g.func x;
}

pub extended_defined : (c : Collection) → GrowthKeepsTrees c → (x : DefinedType) → IsExtended c (with_defined c x)
extended_defined c g x = record {
  kept = record {
    resources = kept_whole c.resources;
    funcs = kept_whole c.funcs;
    defined = kept_behind c.defined (record { item = x; before = size c });
    interfaces = kept_whole c.interfaces;
    worlds = kept_whole c.worlds;
    modules = kept_whole c.modules;
  };
  trees = g.defined x;
}

pub extended_interface : (c : Collection) → GrowthKeepsTrees c → (x : Interface) → IsExtended c (with_interface c x)
extended_interface c g x = record {
  kept = record {
    resources = kept_whole c.resources;
    funcs = kept_whole c.funcs;
    defined = kept_whole c.defined;
    interfaces = kept_behind c.interfaces (record { item = x; before = size c });
    worlds = kept_whole c.worlds;
    modules = kept_whole c.modules;
  };
  trees = g.interface x;
}

-- ---- what is held stays held, and what it is
module _ (c m : Collection) (x : IsExtended c m) where
  pub still_holds : (t : AnyType) → holds_type c t ≡ true → holds_type m t ≡ true
  still_holds t h = type_kept c m x.kept t h

  pub still_holds_value : (v : ValueType) → holds_value c v ≡ true → holds_value m v ≡ true
  still_holds_value v h = value_kept c m x.kept v h

  pub still_resource : (r : ResourceId) → HasResource c r → HasResource m r
  still_resource r h = kept_low c.resources m.resources x.kept.resources r.0 h

  pub still_func : (f : FuncTypeId) → HasFunc c f → HasFunc m f
  still_func f h = kept_low c.funcs m.funcs x.kept.funcs f.0 h

  pub still_defined : (d : DefinedTypeId) → HasDefined c d → HasDefined m d
  still_defined d h = kept_low c.defined m.defined x.kept.defined d.0 h

  pub still_interface : (i : InterfaceId) → HasInterface c i → HasInterface m i
  still_interface i h = kept_low c.interfaces m.interfaces x.kept.interfaces i.0 h

  pub still_world : (w : WorldId) → HasWorld c w → HasWorld m w
  still_world w h = kept_low c.worlds m.worlds x.kept.worlds w.0 h

  pub still_module : (k : ModuleTypeId) → HasModule c k → HasModule m k
  still_module k h = kept_low c.modules m.modules x.kept.modules k.0 h

  pub same_interface : (i : InterfaceId) → HasInterface c i → item_at m.interfaces i.0 ≡ item_at c.interfaces i.0
  same_interface i h = ap item_of (kept_get c.interfaces m.interfaces x.kept.interfaces i.0 h)

  pub same_resource : (r : ResourceId) → HasResource c r → item_at m.resources r.0 ≡ item_at c.resources r.0
  same_resource r h = ap item_of (kept_get c.resources m.resources x.kept.resources r.0 h)

  pub same_exports : (i : InterfaceId) → HasInterface c i → interface_exports m i ≡ interface_exports c i
  same_exports i h = ap (λ o. option_case o [] (λ it. it.exports)) (same_interface i h)

  pub same_name_of : (r : ResourceId) → HasResource c r → resource_names m r ≡ resource_names c r
  same_name_of r h = ap held_name (kept_get c.resources m.resources x.kept.resources r.0 h)

-- ---- the ends of aliases
module _ (c : Collection) (wf : IsWellFormed c) where
  -- the source of an alias is held, and below it
  source_low : (r s : ResourceId) → source_of (slice_get c.resources r.0) ≡ Some s → s.0 < r.0
  source_low r s is = at (slice_get c.resources r.0) refl is where
    under : (h : Held Resource) → slice_get c.resources r.0 ≡ Some h → (o : Option ResourceAlias) → h.item.alias ≡ o → option_case o None (λ a. Some a.source) ≡ Some s → s.0 < r.0
    under h there None so e = cc
    under h there (Some a) so e =
        let below : a.source.0 < r.0 = subst (λ o. IsSourceBelow r.0 o) so (wf.sources r.0 h there) in
        let same : a.source ≡ s = cc in
        subst (λ (q : ResourceId). q.0 < r.0) same below

    at : (o : Option (Held Resource)) → slice_get c.resources r.0 ≡ o → source_of o ≡ Some s → s.0 < r.0
    at None there e = cc
    at (Some h) there e = under h there h.item.alias refl e

  end_held : (n : ℕ) (r : ResourceId) → HasResource c r → HasResource c (resolved_in n c r)
  end_held zero r h = h
  end_held (suc n) r h = at (source_of (slice_get c.resources r.0)) refl (end_held n) where
    at : (o : Option ResourceId) → source_of (slice_get c.resources r.0) ≡ o → ((s : ResourceId) → HasResource c s → HasResource c (resolved_in n c s)) → HasResource c (option_case o r (λ s. resolved_in n c s))
    at None is further = h
    at (Some s) is further = let low = source_low r s is in further s (omega (arith, low, h))

  end_ends : (n : ℕ) (r : ResourceId) → r.0 < n → source_of (slice_get c.resources (resolved_in n c r).0) ≡ None
  end_ends zero r low = absurd (omega (arith, low))
  end_ends (suc n) r low = at (source_of (slice_get c.resources r.0)) refl (end_ends n) where
    at : (o : Option ResourceId) → source_of (slice_get c.resources r.0) ≡ o → ((s : ResourceId) → s.0 < n → source_of (slice_get c.resources (resolved_in n c s).0) ≡ None)
        → source_of (slice_get c.resources (option_case o r (λ s. resolved_in n c s)).0) ≡ None
    at None is further = is
    at (Some s) is further = let less = source_low r s is in further s (omega (arith, less, low))

  itself_in : (n : ℕ) (r : ResourceId) → source_of (slice_get c.resources r.0) ≡ None → resolved_in n c r ≡ r
  itself_in zero r none = refl
  itself_in (suc n) r none = ap (λ o. option_case o r (λ s. resolved_in n c s)) none

  -- the end of a resource's aliases is held, and is its own end
  pub resolved_held : (r : ResourceId) → HasResource c r → HasResource c (resolved c r)
  resolved_held r h = end_held (length c.resources) r h

  pub resolved_twice : (r : ResourceId) → HasResource c r → resolved c (resolved c r) ≡ resolved c r
  resolved_twice r h = itself_in (length c.resources) (resolved c r) (end_ends (length c.resources) r h)

  module _ (m : Collection) (x : IsExtended c m) where
    end_kept : (n k : ℕ) (r : ResourceId) → HasResource c r → r.0 < n → r.0 < k → resolved_in k m r ≡ resolved_in n c r
    end_kept zero k r h low high = absurd (omega (arith, low))
    end_kept (suc n) zero r h low high = absurd (omega (arith, high))
    end_kept (suc n) (suc k) r h low high =
        ap (λ o. option_case (source_of o) r (λ s. resolved_in k m s)) (kept_get c.resources m.resources x.kept.resources r.0 h)
        ∙ at (source_of (slice_get c.resources r.0)) refl (end_kept n k)
      where
        at : (o : Option ResourceId) → source_of (slice_get c.resources r.0) ≡ o → ((s : ResourceId) → HasResource c s → s.0 < n → s.0 < k → resolved_in k m s ≡ resolved_in n c s)
            → option_case o r (λ s. resolved_in k m s) ≡ option_case o r (λ s. resolved_in n c s)
        at None is further = refl
        at (Some s) is further = let less = source_low r s is in further s (omega (arith, less, h)) (omega (arith, less, low)) (omega (arith, less, high))

    -- the end of a held resource's aliases stays
    pub same_end : (r : ResourceId) → HasResource c r → resolved m r ≡ resolved c r
    same_end r h = end_kept (length c.resources) (length m.resources) r h h (still_resource c m x r h)

-- ---- what was made in a collection, in one that begins with it
module _ (m more : Collection) (x : IsExtended m more) where
  -- a function type that is another than one there still is
  pub still_changed : (f : FuncTypeId) (b y : FuncType) → item_at m.funcs f.0 ≡ Some b → (item_at m.funcs f.0 ≡ Some y → ⊥) → item_at more.funcs f.0 ≡ Some y → ⊥
  still_changed f b y at changed is =
      let kept = kept_item m.funcs more.funcs x.kept.funcs f.0 b at in
      changed (at ∙ sym kept ∙ is)

  pub still_there : (made : Made) → AreThere m made → AreThere more made
  still_there made are = record {
    defined = λ f e is. kept_item m.defined more.defined x.kept.defined e.0 (shape_view f.shape) (are.defined f e is);
    funcs = λ k g is. still_of_form k g (are.funcs k g is);
  } where
    still_of_form : (k : FuncForm) (g : FuncTypeId) → IsOfForm m k g → IsOfForm more k g
    still_of_form k g of =
        let (b, at, alike) = of.alike in
        record {
          after = of.after;
          is = kept_item m.funcs more.funcs x.kept.funcs g.0 of.after of.is;
          alike = (b, kept_item m.funcs more.funcs x.kept.funcs k.func.0 b at, alike);
          changed = still_changed k.func b of.after at of.changed;
          params = of.params;
          result = of.result;
        }
