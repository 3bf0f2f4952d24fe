-- What may be used stays so as the collection grows.
use Rattle.std.proofs.Common.{◌≡◌, ℕ, suc, Bool, ◌==◌, ◌&&◌, true, false, not, cond, is_some, is_none, List, [], ◌∷◌, ◌++◌, fold, length, slice_get, Option, Some, None, refl, sym, ap, ◌∙◌, subst}
use Rattle.std.proofs.lemmas.Bool.{and_parts}
use Rattle.std.proofs.lemmas.Option.{slice_get_within}
use Rattle.wac_types_shapes.specs.primitives.Name.{Name, find_name, option_case, same_name}
use Rattle.wac_types_shapes.specs.shapes.Kinds.{kind_type}
use Rattle.wac_types_shapes.specs.declared.shapes.component.Interface.{Interface}
use Rattle.wac_types_shapes.specs.declared.shapes.component.InterfaceId.{InterfaceId}
use Rattle.wac_types_shapes.specs.declared.shapes.component.ResourceId.{ResourceId}
use Rattle.wac_types_shapes.specs.declared.shapes.component.UsedType.{UsedType}
use Rattle.wac_types_shapes.specs.declared.shapes.component.«Type».{«Type» as AnyType}
use Rattle.wac_types_shapes.specs.declared.shapes.component.«Type».TheVariants as ty
use Rattle.wac_types_shapes.specs.declared.shapes.component.ItemKind.{ItemKind}
use Rattle.wac_types_shapes.specs.declared.shapes.component.ItemKind.TheVariants as kind
use Rattle.wac_types_collection.specs.declared.collection.collection.Held.{Held}
use Rattle.wac_types_collection.specs.collection.Collection.{Collection, HasInterface, HasResource, IsWellFormed, holds_all, holds_type, interface_exports, item_at, item_of, kind_types, size, with_interface, IsKeptBy}
use Rattle.wac_types_collection.specs.collection.Held.{source_of}
use Rattle.wac_types_collection.specs.collection.Bound.{is_alias, lists_own, own_name}
use Rattle.wac_types_collection.specs.collection.Uses.{is_listed_as_used, is_there, is_type_item, is_used_by_id, name_there, same_type_item, used_item}
use Rattle.wac_types_collection.proofs.lemmas.collection.Growth.{before_kept, keeps_interface, type_before, type_within}
use Rattle.wac_types_collection.proofs.lemmas.collection.Steady.{item_same}
use Rattle.wac_types_collection.specs.subtyping.TreeLaws.{GrowthKeepsTrees}
use Rattle.wac_merge_classes.specs.entries.Bindings.{AreHeld}
use Rattle.wac_merge_classes.specs.entries.Classes.{Entry, NameRules, imported_as}
use Rattle.wac_merge_classes.proofs.lemmas.entries.Lists.{at-end, some-at}
use Rattle.wac_merge_classes.proofs.lemmas.entries.Opening.{below}
use Rattle.wac_merge_classes.proofs.lemmas.entries.Places.{exports_held, held_at}
use Rattle.wac_merge_classes.specs.terms.Merge.{import_under, listed_resource}
use Rattle.wac_types_collection.specs.private.subtyping.Extended.{IsExtended}
use Rattle.wac_merge_classes.proofs.lemmas.terms.Found.{find_at, no_some, some_same}
use Rattle.wac_merge_unions.specs.uses.KeptUses.{imported_interface, instance_of, lists_resource}
use Rattle.wac_merge_unions.specs.uses.Using.{IsWithUses, MayHave, kept_use, kept_uses, may_use, with_use}

-- what is found in a held list is held
pub found-held : (c : Collection) (listed : List (Name × ItemKind)) (n : Name) (k : ItemKind) → holds_all c (kind_types listed) ≡ true → find_name listed n ≡ Some k → holds_type c (kind_type k) ≡ true
found-held c listed n k held found = let w = find_at listed n k found in held_at c listed w.0 (n, k) held w.1

-- the interface of a held one
pub interface-there : (c : Collection) (i : InterfaceId) → HasInterface c i → (it : Interface) × (item_at c.interfaces i.0 ≡ Some it)
interface-there c i held = let h = some-at c.interfaces i.0 held in (h.0.item, ap item_of h.1)

-- what is imported under a name is held
import-held : (c : Collection) (imports : List Entry) (n : Name) (k : ItemKind) → AreHeld c imports → import_under imports n ≡ Some k → holds_type c (kind_type k) ≡ true
import-held c [] n k held found = absurd (no_some k found)
import-held c (e ∷ es) n k held found = by (same_name n e.name) found (λ h. import-held c es n k (λ p y at. held (suc p) y at) h) where
  by : (b : Bool) → cond b (Some e.kind) (import_under es n) ≡ Some k → (import_under es n ≡ Some k → holds_type c (kind_type k) ≡ true) → holds_type c (kind_type k) ≡ true
  by true h rest = subst (λ (y : ItemKind). holds_type c (kind_type y) ≡ true) (some_same e.kind k h) (held 0 e refl)
  by false h rest = rest h

pub imported-held : (rules : NameRules) (d c : Collection) (es imports : List Entry) (i : InterfaceId) → AreHeld c imports → (j : InterfaceId) → imported_interface rules d es imports i ≡ Some j → HasInterface c j
imported-held rules d c es imports i held j is = of_item (item_at d.interfaces i.0) is where
  of_kind : (o : Option ItemKind) → ((k : ItemKind) → o ≡ Some k → holds_type c (kind_type k) ≡ true) → instance_of o ≡ Some j → HasInterface c j
  of_kind None has h = absurd (no_some j h)
  of_kind (Some (kind.Instance w)) has h = subst (HasInterface c) (some_same w j h) (below w.0 (length c.interfaces) (has (kind.Instance w) refl))
  of_kind (Some (kind.TypeItem t)) has h = absurd (no_some j h)
  of_kind (Some (kind.Func f)) has h = absurd (no_some j h)
  of_kind (Some (kind.Component w)) has h = absurd (no_some j h)
  of_kind (Some (kind.Module y)) has h = absurd (no_some j h)
  of_kind (Some (kind.Value v)) has h = absurd (no_some j h)

  of_id : (o : Option Name) → option_case o None (λ id. instance_of (import_under imports (imported_as rules es id))) ≡ Some j → HasInterface c j
  of_id None h = absurd (no_some j h)
  of_id (Some id) h = of_kind (import_under imports (imported_as rules es id)) (λ k at. import-held c imports (imported_as rules es id) k held at) h

  of_item : (o : Option Interface) → option_case o None (λ it. option_case it.id None (λ id. instance_of (import_under imports (imported_as rules es id)))) ≡ Some j → HasInterface c j
  of_item None h = absurd (no_some j h)
  of_item (Some it) h = of_id it.id h

module _ (c m : Collection) (wf : IsWellFormed c) (x : IsKeptBy c m) where
  pub holds-kept : (t : AnyType) → holds_type c t ≡ true → holds_type m t ≡ true
  holds-kept t held = type_within m (size c) t (before_kept c m x (size c) t (type_before c wf t held))

  pub interface-held : (i : InterfaceId) → HasInterface c i → HasInterface m i
  interface-held i held = let h = some-at c.interfaces i.0 held in slice_get_within m.interfaces i.0 h.0 (x.interfaces i.0 h.0 h.1)

  interface-same : (i : InterfaceId) → HasInterface c i → item_at m.interfaces i.0 ≡ item_at c.interfaces i.0
  interface-same i held = let h = some-at c.interfaces i.0 held in ap item_of (x.interfaces i.0 h.0 h.1 ∙ sym h.1)

  pub item-kept : (i : InterfaceId) (it : Interface) → item_at c.interfaces i.0 ≡ Some it → item_at m.interfaces i.0 ≡ Some it
  item-kept i it at = by (slice_get c.interfaces i.0) refl at where
    by : (o : Option (Held Interface)) → slice_get c.interfaces i.0 ≡ o → item_of o ≡ Some it → item_at m.interfaces i.0 ≡ Some it
    by None is e = absurd (no_some it e)
    by (Some h) is e = ap item_of (x.interfaces i.0 h is) ∙ e

  alias-same : (q : ResourceId) → HasResource c q → is_alias m q ≡ is_alias c q
  alias-same q held = let h = some-at c.resources q.0 held in ap (λ o. is_some (source_of o)) (x.resources q.0 h.0 h.1 ∙ sym h.1)

  -- own resources are listed under the names under which they were
  lists-same : (uses : List (Name × UsedType)) (r : ResourceId) (n : Name) (k : ItemKind) → holds_type c (kind_type k) ≡ true → lists_own m uses r (n, k) ≡ lists_own c uses r (n, k)
  lists-same uses r n (kind.TypeItem (ty.Resource q)) held = ap (λ b. (q.0 == r.0) && (not b && is_none (find_name uses n))) (alias-same q (below q.0 (length c.resources) held))
  lists-same uses r n (kind.TypeItem (ty.Func f)) held = refl
  lists-same uses r n (kind.TypeItem (ty.Value v)) held = refl
  lists-same uses r n (kind.TypeItem (ty.Interface i)) held = refl
  lists-same uses r n (kind.TypeItem (ty.World w)) held = refl
  lists-same uses r n (kind.TypeItem (ty.Module y)) held = refl
  lists-same uses r n (kind.Func f) held = refl
  lists-same uses r n (kind.Instance i) held = refl
  lists-same uses r n (kind.Component w) held = refl
  lists-same uses r n (kind.Module y) held = refl
  lists-same uses r n (kind.Value v) held = refl

  pub own-still : (uses : List (Name × UsedType)) (es : List (Name × ItemKind)) (r : ResourceId) → holds_all c (kind_types es) ≡ true → own_name m uses es r ≡ own_name c uses es r
  own-still uses [] r held = refl
  own-still uses (e ∷ es) r held =
      let p = and_parts (holds_type c (kind_type e.1)) (holds_all c (kind_types es)) held in
      let here = lists-same uses r e.0 e.1 p.0 in
      let rest = own-still uses es r p.1 in
      (λ i. cond (here i) (Some e.0) (rest i))

module _ (c m : Collection) (wf : IsWellFormed c) (more : IsWellFormed m) (x : IsKeptBy c m) where
  -- items are of one type where they were
  item-still : (a b : ItemKind) → holds_type c (kind_type a) ≡ true → holds_type c (kind_type b) ≡ true → same_type_item m a b ≡ same_type_item c a b
  item-still a b ha hb = item_same c m wf x a b ha hb

  own-same : (k : ItemKind) → holds_type c (kind_type k) ≡ true → listed_resource m k ≡ listed_resource c k
  own-same (kind.TypeItem (ty.Resource q)) held = ap (λ b. cond b None (Some q)) (alias-same c m wf x q (below q.0 (length c.resources) held))
  own-same (kind.TypeItem (ty.Func f)) held = refl
  own-same (kind.TypeItem (ty.Value v)) held = refl
  own-same (kind.TypeItem (ty.Interface i)) held = refl
  own-same (kind.TypeItem (ty.World w)) held = refl
  own-same (kind.TypeItem (ty.Module y)) held = refl
  own-same (kind.Func f) held = refl
  own-same (kind.Instance i) held = refl
  own-same (kind.Component w) held = refl
  own-same (kind.Module y) held = refl
  own-same (kind.Value v) held = refl

  pub exports-same : (i : InterfaceId) → HasInterface c i → interface_exports m i ≡ interface_exports c i
  exports-same i held = ap (λ o. option_case o [] (λ (y : Interface). y.exports)) (interface-same c m wf x i held)

  used-same : (n : Name) (u : UsedType) → HasInterface c u.interface → used_item m n u ≡ used_item c n u
  used-same n u held = ap (λ es. find_name es (name_there n u)) (exports-same u.interface held)

  used-held : (n : Name) (u : UsedType) (k : ItemKind) → HasInterface c u.interface → used_item c n u ≡ Some k → holds_type c (kind_type k) ≡ true
  used-held n u k held found =
      let it = interface-there c u.interface held in
      found-held c (it.0).exports (name_there n u) k (exports_held c wf u.interface it.0 it.1)
      (ap (λ o. find_name (option_case o [] (λ (y : Interface). y.exports)) (name_there n u)) (sym it.1) ∙ found)

  module _ (listed : List (Name × ItemKind)) (held : holds_all c (kind_types listed) ≡ true) where
    resource-same : (n : Name) → lists_resource m listed n ≡ lists_resource c listed n
    resource-same n = by (find_name listed n) refl where
      by : (o : Option ItemKind) → find_name listed n ≡ o → option_case o false (λ k. is_some (listed_resource m k)) ≡ option_case o false (λ k. is_some (listed_resource c k))
      by None is = refl
      by (Some k) is = ap is_some (own-same k (found-held c listed n k held is))

    listed-same : (n : Name) (u : UsedType) → HasInterface c u.interface → is_listed_as_used m listed (n, u) ≡ is_listed_as_used c listed (n, u)
    listed-same n u has = by (find_name listed n) refl where
      used : (k : ItemKind) → holds_type c (kind_type k) ≡ true → (o : Option ItemKind) → used_item c n u ≡ o → option_case o false (λ y. same_type_item m k y) ≡ option_case o false (λ y. same_type_item c k y)
      used k here None is = refl
      used k here (Some y) is = item-still k y here (used-held n u y has is)

      by : (o : Option ItemKind) → find_name listed n ≡ o
          → option_case o true (λ k. option_case (used_item m n u) false (λ y. same_type_item m k y)) ≡ option_case o true (λ k. option_case (used_item c n u) false (λ y. same_type_item c k y))
      by None is = refl
      by (Some k) is = ap (λ o. option_case o false (λ y. same_type_item m k y)) (used-same n u has) ∙ used k (found-held c listed n k held is) (used_item c n u) refl

    pub may-still : (n : Name) (u : UsedType) → HasInterface c u.interface → may_use m listed (n, u) ≡ may_use c listed (n, u)
    may-still n u has =
        let own = resource-same n in
        let id : is_used_by_id m u ≡ is_used_by_id c u = ap (λ o. option_case o false (λ (y : Interface). is_some y.id)) (interface-same c m wf x u.interface has) in
        let is : is_there m (n, u) ≡ is_there c (n, u) = ap (λ o. option_case o false is_type_item) (used-same n u has) in
        let as_used = listed-same n u has in
        (λ i. not (own i) && (id i && (is i && as_used i)))

    module _ (rules : NameRules) (d : Collection) (es imports : List Entry) (there : AreHeld c imports) where
      pub use-still : (e : Name × UsedType) → kept_use rules d es m imports listed e ≡ kept_use rules d es c imports listed e
      use-still e = by (imported_interface rules d es imports e.1.interface) (imported-held rules d c es imports e.1.interface there) where
        used_as : InterfaceId → UsedType
        used_as i = record { interface = i; name = e.1.name }

        by : (o : Option InterfaceId) → ((i : InterfaceId) → o ≡ Some i → HasInterface c i)
            → option_case o None (λ i. cond (may_use m listed (e.0, used_as i)) (Some (used_as i)) None) ≡ option_case o None (λ i. cond (may_use c listed (e.0, used_as i)) (Some (used_as i)) None)
        by None has = refl
        by (Some i) has = ap (λ b. cond b (Some (used_as i)) None) (may-still e.0 (used_as i) (has i refl))

      pub uses-still : (us : List (Name × UsedType)) → kept_uses rules d es m imports listed us ≡ kept_uses rules d es c imports listed us
      uses-still us = (λ i. fold (λ kept e. with_use kept e.0 (use-still e i)) [] us)

-- ---- one interface more

pub extended-interface : (c : Collection) → GrowthKeepsTrees c → (it : Interface) → IsExtended c (with_interface c it)
extended-interface c g it = record { kept = keeps_interface c it; trees = g.interface it }

pub interface-added : (c m : Collection) (it : Interface) (w : InterfaceId) → w.0 ≡ length c.interfaces → m ≡ with_interface c it → item_at m.interfaces w.0 ≡ Some it
interface-added c m it w at is =
    ap (λ (d : Collection). item_at d.interfaces w.0) is
    ∙ ap (λ j. item_at (c.interfaces ++ record { item = it; before = size c } ∷ []) j) at
    ∙ ap item_of (at-end c.interfaces (record { item = it; before = size c }))

-- an interface that was added with uses and items that it may have
pub with-uses : (c m : Collection) → IsWellFormed c → IsKeptBy c m → (i w : InterfaceId) (it : Interface) (exports : List (Name × ItemKind)) (us : List (Name × UsedType)) → item_at c.interfaces i.0 ≡ Some it → holds_all c (kind_types exports) ≡ true
    → item_at m.interfaces w.0 ≡ Some (record { id = it.id; uses = us; exports = exports }) → MayHave c i exports us → IsWithUses m i w exports us
with-uses c m wf x i w it exports us at held there may = record {
  interface = it;
  before = item-kept c m wf x i it at;
  there = there;
  own = λ r. own-still c m wf x us exports r held ∙ (may.own it r at ∙ sym (own-still c m wf x it.uses it.exports r (exports_held c wf i it at)));
}

pub extended-none : (c : Collection) → IsExtended c c
extended-none c = record {
  kept = record { resources = λ i h at. at; funcs = λ i h at. at; defined = λ i h at. at; interfaces = λ i h at. at; worlds = λ i h at. at; modules = λ i h at. at };
  trees = (λ t held. refl, λ m t held. refl);
}

pub extended-twice : (a b c : Collection) → IsWellFormed a → IsExtended a b → IsExtended b c → IsExtended a c
extended-twice a b c wf x y = record {
  kept = record {
    resources = λ i h at. y.kept.resources i h (x.kept.resources i h at);
    funcs = λ i h at. y.kept.funcs i h (x.kept.funcs i h at);
    defined = λ i h at. y.kept.defined i h (x.kept.defined i h at);
    interfaces = λ i h at. y.kept.interfaces i h (x.kept.interfaces i h at);
    worlds = λ i h at. y.kept.worlds i h (x.kept.worlds i h at);
    modules = λ i h at. y.kept.modules i h (x.kept.modules i h at);
  };
  trees = (λ t held. (y.trees).0 t (holds-kept a b wf x.kept t held) ∙ (x.trees).0 t held, λ m t held. (y.trees).1 m t (holds-kept a b wf x.kept t held) ∙ (x.trees).1 m t held);
}
