-- Items that agree by binding, and what they became, by name.
use Rattle.std.proofs.Common.{◌≡◌, ℕ, zero, suc, ◌<◌, ◌≤◌, Bool, true, false, ◌||◌, if◌then◌else◌, List, ◌⊎◌, inl, inr, length, map, Option, Some, None, slice_get, is_some, refl, sym, ap, ◌∙◌, arith}
use Rattle.std.proofs.lemmas.Bool.{false≢true}
use Rattle.wac_types_shapes.proofs.lemmas.shapes.Names.{same_name-true}
use Rattle.wac_types_shapes.specs.primitives.Name.{Name, find_name, first_some, option_case, same_name}
use Rattle.wac_types_shapes.specs.primitives.Tree.{TypeTree, absent, instance, component_item, function_item, module_item, resource, type_equal, value_item}
use Rattle.wac_types_collection.specs.collection.Collection.{Collection, HasResource, IsSourceBelow, IsWellFormed, holds_type, interface_mentions, item_at, item_of}
use Rattle.wac_types_shapes.specs.shapes.Kinds.{kind_type}
use Rattle.wac_types_collection.specs.collection.Held.{item_tree, items_under, resolved, resolved_in, source_of}
use Rattle.wac_types_collection.specs.collection.Uses.{IsSound, has_name, is_named_right, mention_fault, named_right, unless, uses_fault}
use Rattle.wac_types_collection.specs.declared.collection.collection.AddTypeError.{AddTypeError}
use Rattle.wac_types_collection.specs.declared.collection.collection.AddTypeError.TheVariants as fault
use Rattle.wac_types_collection.specs.declared.collection.collection.Held.{Held}
use Rattle.wac_types_shapes.specs.declared.shapes.component.Interface.{Interface}
use Rattle.wac_types_shapes.specs.declared.shapes.component.InterfaceId.{InterfaceId}
use Rattle.wac_types_shapes.specs.declared.shapes.component.ItemKind.{ItemKind}
use Rattle.wac_types_shapes.specs.declared.shapes.component.ItemKind.TheVariants as kind
use Rattle.wac_types_shapes.specs.declared.shapes.component.Resource.{Resource}
use Rattle.wac_types_shapes.specs.declared.shapes.component.ResourceAlias.{ResourceAlias}
use Rattle.wac_types_shapes.specs.declared.shapes.component.ResourceId.{ResourceId}
use Rattle.wac_types_shapes.specs.declared.shapes.component.«Type».{«Type» as AnyType}
use Rattle.wac_types_shapes.specs.declared.shapes.component.«Type».TheVariants as ty
use Rattle.wac_types_shapes.specs.declared.shapes.component.UsedType.{UsedType}
use Rattle.wac_types_collection.specs.subtyping.Called.{Called}
use Rattle.wac_types_collection.specs.subtyping.Subtype.{held_name, kind_tree, resource_names, type_tree}
use Rattle.wac_merge_classes.specs.entries.Agreement.{Agree}
use Rattle.wac_merge_classes.specs.terms.Became.{IsNew}
use Rattle.wac_merge_classes.specs.entries.Places.{own_resource}
use Rattle.wac_merge_classes.specs.terms.Renaming.{AreEnds}
use Rattle.wac_types_collection.specs.private.subtyping.Extended.{IsExtended}
use Rattle.wac_merge_classes.specs.terms.Writing.{IsAliasOf, IsWrittenAs}
use Rattle.wac_merge_classes.proofs.lemmas.terms.Alike.{agree_at}
use Rattle.wac_merge_classes.proofs.lemmas.terms.Found.{no_some, some_same}
use Rattle.wac_merge_trees.proofs.lemmas.trees.MergedSubtypesNames.{tested_low}
use Rattle.wac_merge_tables.proofs.lemmas.tables.SortedMaps.{found_are, items_are}

-- ---- items that agree

abbrev pub IsInstance : ItemKind → Type 0
IsInstance (kind.Instance i) = Unit {0}
IsInstance k = ⊥

pub instance_or_not : (k : ItemKind) → ((i : InterfaceId) × (k ≡ kind.Instance i)) ⊎ (IsInstance k → ⊥)
instance_or_not (kind.Instance i) = inl (i, refl)
instance_or_not (kind.TypeItem t) = inr (λ h. h)
instance_or_not (kind.Func x) = inr (λ h. h)
instance_or_not (kind.Component w) = inr (λ h. h)
instance_or_not (kind.Module w) = inr (λ h. h)
instance_or_not (kind.Value v) = inr (λ h. h)

module _ (t s : AnyType → TypeTree Called) where
  item_stands : (r : AnyType → TypeTree Called) (k : ItemKind) → item_tree r false k ≡ absent → ⊥
  item_stands r (kind.TypeItem a) e = cc
  item_stands r (kind.Func a) e = cc
  item_stands r (kind.Instance a) e = cc
  item_stands r (kind.Component a) e = cc
  item_stands r (kind.Module a) e = cc
  item_stands r (kind.Value a) e = cc

  listed_is : (r : AnyType → TypeTree Called) (es : List (Name × ItemKind)) (n : Name) (k : ItemKind) → find_name es n ≡ Some k → items_under (map (λ e. (e.0, item_tree r false e.1)) es) n ≡ item_tree r false k
  listed_is r es n k found = items_are (item_tree r false) es n ∙ sym (found_are absent (item_tree r false) es n) ∙ ap (λ o. option_case o absent (item_tree r false)) found

  -- what stands in both of two instances that agree agrees
  pub agree_under : (es fs : List (Name × ItemKind)) (n : Name) (k l : ItemKind) → find_name es n ≡ Some k → find_name fs n ≡ Some l
      → Agree (instance (items_under (map (λ e. (e.0, item_tree t false e.1)) es))) (instance (items_under (map (λ e. (e.0, item_tree s false e.1)) fs))) → Agree (item_tree t false k) (item_tree s false l)
  agree_under es fs n k l found also agree = at (agree n) where
    first : items_under (map (λ e. (e.0, item_tree t false e.1)) es) n ≡ item_tree t false k
    first = listed_is t es n k found

    second : items_under (map (λ e. (e.0, item_tree s false e.1)) fs) n ≡ item_tree s false l
    second = listed_is s fs n l also

    at : (items_under (map (λ e. (e.0, item_tree t false e.1)) es) n ≡ absent)
        ⊎ ((items_under (map (λ e. (e.0, item_tree s false e.1)) fs) n ≡ absent) ⊎ Agree (items_under (map (λ e. (e.0, item_tree t false e.1)) es) n) (items_under (map (λ e. (e.0, item_tree s false e.1)) fs) n))
        → Agree (item_tree t false k) (item_tree s false l)
    at (inl gone) = absurd (item_stands t k (sym first ∙ gone))
    at (inr (inl gone)) = absurd (item_stands s l (sym second ∙ gone))
    at (inr (inr h)) = agree_at (item_tree t false k) (item_tree s false l) _ _ (sym first) (sym second) h

  -- items of which the first is no instance agree only where they are equal
  pub agree_equal : (k l : ItemKind) → (IsInstance k → ⊥) → Agree (item_tree t false k) (item_tree s false l) → item_tree t false k ≡ item_tree s false l
  agree_equal (kind.Instance i) l never h = absurd (never tt)
  agree_equal (kind.TypeItem a) l never h = h
  agree_equal (kind.Func x) l never h = h
  agree_equal (kind.Component w) l never h = h
  agree_equal (kind.Module w) l never h = h
  agree_equal (kind.Value v) l never h = h

  -- what agrees with an instance is one
  pub agree_instance : (i : InterfaceId) (l : ItemKind) → Agree (item_tree t false (kind.Instance i)) (item_tree s false l) → (j : InterfaceId) × (l ≡ kind.Instance j)
  agree_instance i (kind.Instance j) h = (j, refl)
  agree_instance i (kind.TypeItem a) h = cc h
  agree_instance i (kind.Func x) h = cc h
  agree_instance i (kind.Component w) h = cc h
  agree_instance i (kind.Module w) h = cc h
  agree_instance i (kind.Value v) h = cc h

-- ---- own resources

resource_is : (c : Collection) (r : ResourceId) → type_tree c (ty.Resource r) ≡ option_case (resource_names c (resolved c r)) absent resource
unfolding type_tree
resource_is c r = refl

-- a resource that is no alias is its own end
own_end : (n : ℕ) (c : Collection) (r : ResourceId) → source_of (slice_get c.resources r.0) ≡ None → resolved_in n c r ≡ r
own_end zero c r none = refl
own_end (suc n) c r none = ap (λ o. option_case o r (λ s. resolved_in n c s)) none

-- the tree of a resource
pub resource_tree : (c : Collection) (r : ResourceId) (n : Name) → resource_names c (resolved c r) ≡ Some n → kind_tree c (kind.TypeItem (ty.Resource r)) ≡ type_equal (resource n)
resource_tree c r n name = ap type_equal (resource_is c r ∙ ap (λ o. option_case o absent resource) name)

-- that of a new one
pub new_tree : (c m : Collection) (q : ResourceId) (n : Name) → IsNew c m q n → kind_tree m (kind.TypeItem (ty.Resource q)) ≡ type_equal (resource n)
new_tree c m q n new = resource_tree m q n (ap (resource_names m) new.itself ∙ new.named)

no_either : (b : Bool) → is_some (let o : Option ResourceId = if b then None else None in o) ≡ true → ⊥
no_either true e = false≢true e
no_either false e = false≢true e

right_name : (o : Option (Held Resource)) (n : Name) → option_case (item_of o) false (λ q. same_name q.name n) ≡ true → held_name o ≡ Some n
right_name None n e = absurd (false≢true e)
right_name (Some h) n e = ap Some (same_name-true h.item.name n e)

-- that of an own resource which is named right
pub own_tree : (c : Collection) (uses : List (Name × UsedType)) (n : Name) (k : ItemKind) → is_some (own_resource c uses (n, k)) ≡ true → is_named_right c uses (n, k) ≡ true → kind_tree c k ≡ type_equal (resource n)
own_tree c uses n (kind.TypeItem (ty.Resource r)) own right = by (is_some (find_name uses n)) (source_of (slice_get c.resources r.0)) refl own right where
  by : (used : Bool) (source : Option ResourceId) → source_of (slice_get c.resources r.0) ≡ source → is_some (let o : Option ResourceId = if used then None else (if is_some source then None else Some r) in o) ≡ true
      → (is_some source || (used || has_name c r.0 n)) ≡ true → kind_tree c (kind.TypeItem (ty.Resource r)) ≡ type_equal (resource n)
  by true source is own right = absurd (false≢true own)
  by false (Some q) is own right = absurd (false≢true own)
  by false None is own right =
      let end : resolved c r ≡ r = own_end (length c.resources) c r is in
      resource_tree c r n (ap (resource_names c) end ∙ right_name (slice_get c.resources r.0) n right)
own_tree c uses n (kind.TypeItem (ty.Func x)) own right = absurd (no_either (is_some (find_name uses n)) own)
own_tree c uses n (kind.TypeItem (ty.Value x)) own right = absurd (no_either (is_some (find_name uses n)) own)
own_tree c uses n (kind.TypeItem (ty.Interface x)) own right = absurd (no_either (is_some (find_name uses n)) own)
own_tree c uses n (kind.TypeItem (ty.World x)) own right = absurd (no_either (is_some (find_name uses n)) own)
own_tree c uses n (kind.TypeItem (ty.Module x)) own right = absurd (no_either (is_some (find_name uses n)) own)
own_tree c uses n (kind.Func x) own right = absurd (no_either (is_some (find_name uses n)) own)
own_tree c uses n (kind.Instance x) own right = absurd (no_either (is_some (find_name uses n)) own)
own_tree c uses n (kind.Component x) own right = absurd (no_either (is_some (find_name uses n)) own)
own_tree c uses n (kind.Module x) own right = absurd (no_either (is_some (find_name uses n)) own)
own_tree c uses n (kind.Value x) own right = absurd (no_either (is_some (find_name uses n)) own)

-- what the interfaces of a sound collection list is named right
pub sound_named : (c : Collection) → IsSound c → (i : InterfaceId) (it : Interface) → item_at c.interfaces i.0 ≡ Some it → named_right c it.uses it.exports ≡ true
sound_named c sound i it at = by (slice_get c.interfaces i.0) refl at where
  passed : (b : Bool) (e : AddTypeError) → unless b e ≡ None → b ≡ true
  passed true e h = refl
  passed false e h = cc

  later : (o p : Option AddTypeError) → first_some o p ≡ None → p ≡ None
  later None p h = h
  later (Some e) p h = cc

  by : (o : Option (Held Interface)) → slice_get c.interfaces i.0 ≡ o → item_of o ≡ Some it → named_right c it.uses it.exports ≡ true
  by None is e = absurd (no_some it e)
  by (Some h) is e =
      let none = sound.interfaces i.0 h is in
      let rest = later (mention_fault c (interface_mentions h.item)) (first_some (uses_fault c h.item.uses h.item.exports) (unless (named_right c h.item.uses h.item.exports) fault.ResourceMisnamed)) none in
      let last = later (uses_fault c h.item.uses h.item.exports) (unless (named_right c h.item.uses h.item.exports) fault.ResourceMisnamed) rest in
      ap (λ (x : Interface). named_right c x.uses x.exports) (sym (some_same h.item it e)) ∙ passed (named_right c h.item.uses h.item.exports) fault.ResourceMisnamed last

-- an item with the tree of a type item is no instance
pub type_no_instance : (c : Collection) (k : ItemKind) (t : TypeTree Name) → kind_tree c k ≡ type_equal t → IsInstance k → ⊥
type_no_instance c (kind.Instance i) t e h = cc
type_no_instance c (kind.TypeItem a) t e h = h
type_no_instance c (kind.Func x) t e h = h
type_no_instance c (kind.Component w) t e h = h
type_no_instance c (kind.Module w) t e h = h
type_no_instance c (kind.Value v) t e h = h

-- ---- the ends of aliases

module _ (c : Collection) (wf : IsWellFormed c) where
  end_low : (n : ℕ) (r : ResourceId) → (resolved_in n c r).0 ≤ r.0
  end_low zero r = omega arith
  end_low (suc n) r = by (λ s. end_low n s) (slice_get c.resources r.0) refl where
    from : ((s : ResourceId) → (resolved_in n c s).0 ≤ s.0) → (a : Option ResourceAlias) → IsSourceBelow r.0 a → (option_case (option_case a None (λ x. Some x.source)) r (λ s. resolved_in n c s)).0 ≤ r.0
    from low None below = omega arith
    from low (Some a) below = let h = low a.source in omega (arith, h, below)

    by : ((s : ResourceId) → (resolved_in n c s).0 ≤ s.0) → (o : Option (Held Resource)) → slice_get c.resources r.0 ≡ o → (option_case (source_of o) r (λ s. resolved_in n c s)).0 ≤ r.0
    by low None at = omega arith
    by low (Some h) at = from low h.item.alias (wf.sources r.0 h at)

  -- what is its own end is no alias
  no_source : (n : ℕ) (r : ResourceId) → resolved_in (suc n) c r ≡ r → source_of (slice_get c.resources r.0) ≡ None
  no_source n r end = by (slice_get c.resources r.0) refl end where
    from : (a : Option ResourceAlias) → IsSourceBelow r.0 a → option_case (option_case a None (λ x. Some x.source)) r (λ s. resolved_in n c s) ≡ r → option_case a None (λ x. Some x.source) ≡ None
    from None below end = refl
    from (Some a) below end =
        let low : (resolved_in n c a.source).0 ≤ a.source.0 = end_low n a.source in
        let same : (resolved_in n c a.source).0 ≡ r.0 = ap (λ (q : ResourceId). q.0) end in
        absurd (omega (arith, low, below, same))

    by : (o : Option (Held Resource)) → slice_get c.resources r.0 ≡ o → option_case (source_of o) r (λ s. resolved_in n c s) ≡ r → source_of o ≡ None
    by None at end = refl
    by (Some h) at end = from h.item.alias (wf.sources r.0 h at) end

  -- an alias of an end has that end
  alias_end : (n : ℕ) (a s : ResourceId) → 0 < n → source_of (slice_get c.resources a.0) ≡ Some s → resolved_in n c s ≡ s → resolved_in n c a ≡ s
  alias_end zero a s some is end = absurd (omega (arith, some))
  alias_end (suc n) a s some is end = ap (λ o. option_case o a (λ z. resolved_in n c z)) is ∙ own_end n c s (no_source n s end)

source_is : (o : Option (Held Resource)) (x : Resource) → item_of o ≡ Some x → source_of o ≡ option_case x.alias None (λ a. Some a.source)
source_is None x e = absurd (no_some x e)
source_is (Some h) x e = ap (λ (y : Resource). option_case y.alias None (λ a. Some a.source)) (some_same h.item x e)

-- an item of an alias has the tree of what it names
alias_tree : (c m : Collection) → IsWellFormed m → (g : ResourceId → ResourceId) → AreEnds c m g → (n : Name) (q a : ResourceId) → HasResource c q → IsAliasOf m n (g (resolved c q)) a
    → kind_tree m (kind.TypeItem (ty.Resource a)) ≡ kind_tree c (kind.TypeItem (ty.Resource q))
alias_tree c m wf g ends n q a held alias =
    let low : a.0 < length m.resources = alias.there in
    let source = source_is (slice_get m.resources a.0) _ alias.is in
    let end : resolved m a ≡ g (resolved c q) = alias_end m wf (length m.resources) a (g (resolved c q)) (omega (arith, low)) source (ends q held).1 in
    let names : resource_names m (resolved m a) ≡ resource_names c (resolved c q) = ap (resource_names m) end ∙ (ends q held).2 in
    ap type_equal (resource_is m a ∙ ap (λ o. option_case o absent resource) names ∙ sym (resource_is c q))

-- ---- what items became

-- what an item that is no instance became has its tree, where what an interface became has that of the interface
pub written_tree : (c m : Collection) → IsWellFormed m → IsExtended c m → (g : ResourceId → ResourceId) → AreEnds c m g → (inner : Option InterfaceId) (n : Name) (k l : ItemKind) → holds_type c (kind_type k) ≡ true
    → ((i j : InterfaceId) → k ≡ kind.TypeItem (ty.Interface i) → inner ≡ Some j → type_tree m (ty.Interface j) ≡ type_tree c (ty.Interface i)) → (IsInstance k → ⊥) → IsWrittenAs c m g inner n k l → kind_tree m l ≡ kind_tree c k
written_tree c m wf ext g ends inner n (kind.Instance i) l held lies never w = absurd (never tt)
written_tree c m wf ext g ends inner n (kind.TypeItem (ty.Resource q)) (kind.TypeItem (ty.Resource a)) held lies never w = alias_tree c m wf g ends n q a (tested_low q.0 (length c.resources) held) w
written_tree c m wf ext g ends inner n (kind.TypeItem (ty.Interface i)) (kind.TypeItem (ty.Interface j)) held lies never w = ap type_equal (lies i j refl w)
written_tree c m wf ext g ends inner n (kind.TypeItem (ty.Func x)) (kind.TypeItem (ty.Func y)) held lies never w = ap type_equal w.named
written_tree c m wf ext g ends inner n (kind.TypeItem (ty.Value x)) (kind.TypeItem (ty.Value y)) held lies never w = ap type_equal w.named
written_tree c m wf ext g ends inner n (kind.TypeItem (ty.World x)) (kind.TypeItem (ty.World y)) held lies never w = ap (λ z. type_equal (type_tree m (ty.World z))) (sym w) ∙ ap type_equal (ext.trees.0 (ty.World x) held)
written_tree c m wf ext g ends inner n (kind.TypeItem (ty.Module x)) (kind.TypeItem (ty.Module y)) held lies never w = ap (λ z. type_equal (type_tree m (ty.Module z))) (sym w) ∙ ap type_equal (ext.trees.0 (ty.Module x) held)
written_tree c m wf ext g ends inner n (kind.Func x) (kind.Func y) held lies never w = ap function_item w.named
written_tree c m wf ext g ends inner n (kind.Component x) (kind.Component y) held lies never w = ap (λ z. component_item (type_tree m (ty.World z))) (sym w) ∙ ap component_item (ext.trees.0 (ty.World x) held)
written_tree c m wf ext g ends inner n (kind.Module x) (kind.Module y) held lies never w = ap (λ z. module_item (type_tree m (ty.Module z))) (sym w) ∙ ap module_item (ext.trees.0 (ty.Module x) held)
written_tree c m wf ext g ends inner n (kind.Value x) (kind.Value y) held lies never w = ap value_item w.named
written_tree c m wf ext g ends inner n k l held lies never w = absurd w

-- what an instance became is the interface that is given
pub written_instance : (c m : Collection) (g : ResourceId → ResourceId) (inner : Option InterfaceId) (n : Name) (i : InterfaceId) (l : ItemKind) → IsWrittenAs c m g inner n (kind.Instance i) l → (j : InterfaceId) × (l ≡ kind.Instance j) × (inner ≡ Some j)
written_instance c m g inner n i (kind.Instance j) w = (j, refl, w)
written_instance c m g inner n i (kind.TypeItem t) w = absurd w
written_instance c m g inner n i (kind.Func t) w = absurd w
written_instance c m g inner n i (kind.Component t) w = absurd w
written_instance c m g inner n i (kind.Module t) w = absurd w
written_instance c m g inner n i (kind.Value t) w = absurd w
