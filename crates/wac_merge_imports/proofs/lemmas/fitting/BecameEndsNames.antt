-- The names of resources that interfaces list as their own, and of those that classes bind.
use Rattle.std.proofs.Common.{◌≡◌, ℕ, zero, suc, ◌<◌, Bool, true, false, not, cond, ◌&&◌, ◌||◌, ◌==◌, List, [], ◌∷◌, length, slice_get, Option, Some, None, is_some, refl, sym, ap, ◌∙◌, subst, inl, inr, ◌⊎◌, arith}
use Rattle.std.specs.List.{list_all}
use Rattle.std.proofs.lemmas.Bool.{and_parts, false≢true}
use Rattle.wac_types_shapes.specs.primitives.Name.{Name, same_name, find_name, option_case, first_some}
use Rattle.wac_types_shapes.specs.primitives.Tree.{Place, named}
use Rattle.wac_types_collection.specs.collection.Collection.{Collection, HasResource, interface_mentions, item_at, item_of}
use Rattle.wac_types_collection.specs.collection.Bound.{is_alias, own_name}
use Rattle.wac_types_collection.specs.collection.Uses.{IsSound, has_name, interface_fault, is_named_right, mention_fault, named_right, unless, uses_fault}
use Rattle.wac_types_collection.specs.declared.collection.collection.AddTypeError.{AddTypeError}
use Rattle.wac_types_collection.specs.declared.collection.collection.AddTypeError.TheVariants as fault
use Rattle.wac_types_collection.specs.declared.collection.collection.Held.{Held}
use Rattle.wac_types_shapes.specs.declared.shapes.component.Interface.{Interface}
use Rattle.wac_types_shapes.specs.declared.shapes.component.Resource.{Resource}
use Rattle.wac_types_shapes.specs.declared.shapes.component.ResourceId.{ResourceId}
use Rattle.wac_types_shapes.specs.declared.shapes.component.UsedType.{UsedType}
use Rattle.wac_types_shapes.specs.declared.shapes.component.«Type».TheVariants as ty
use Rattle.wac_types_shapes.specs.declared.shapes.component.ItemKind.{ItemKind}
use Rattle.wac_types_shapes.specs.declared.shapes.component.ItemKind.TheVariants as kind
use Rattle.wac_types_shapes.proofs.lemmas.shapes.Names.{same_name-true}
use Rattle.wac_types_collection.specs.subtyping.Called.{resource_name}
use Rattle.wac_types_collection.specs.subtyping.Subtype.{held_name, resource_names}
use Rattle.wac_merge_classes.specs.entries.Binding.{class_binds, kind_binds}
use Rattle.wac_merge_classes.specs.entries.Classes.{Entry, NameRules, members}
use Rattle.wac_merge_classes.proofs.lemmas.terms.Found.{no_some, some_same}
use Rattle.wac_merge_imports.proofs.lemmas.fitting.FittingClasses.{first-binding, instance-binds}
use Rattle.wac_merge_imports.proofs.lemmas.fitting.FittingOwn.{IsOwn, own-found}

-- ---- nothing stands against what is held

first-right : {A : Type 0} (a b : Option A) → first_some a b ≡ None → b ≡ None
first-right None b e = e
first-right (Some x) b e = absurd (no_some x (sym e))

unless-true : (b : Bool) (e : AddTypeError) → unless b e ≡ None → b ≡ true
unless-true true e h = refl
unless-true false e h = absurd (no_some e (sym h))

all-at : {A : Type 0} (f : A → Bool) (xs : List A) (i : ℕ) (x : A) → list_all f xs ≡ true → slice_get xs i ≡ Some x → f x ≡ true
all-at f [] i x t at = absurd (no_some x at)
all-at f (y ∷ xs) zero x t at = ap f (sym (some_same y x at)) ∙ (and_parts (f y) (list_all f xs) t).0
all-at f (y ∷ xs) (suc i) x t at = all-at f xs i x (and_parts (f y) (list_all f xs) t).1 at

module _ (c : Collection) where
  -- a held resource has a name
  pub held-name : (r : ResourceId) → HasResource c r → resource_names c r ≡ Some (resource_name c r)
  held-name r lt = go c.resources r.0 lt where
    go : (xs : List (Held Resource)) (i : ℕ) → i < length xs → held_name (slice_get xs i) ≡ Some (option_case (item_of (slice_get xs i)) [] (λ it. it.name))
    go [] i lt = absurd (omega (arith, lt))
    go (x ∷ xs) zero lt = refl
    go (x ∷ xs) (suc i) lt = go xs i (omega (arith, lt))

  -- the test of a resource's name
  name-tested : (o : Option (Held Resource)) (n : Name) → option_case (item_of o) false (λ q. same_name q.name n) ≡ true → held_name o ≡ Some n
  name-tested None n t = absurd (false≢true t)
  name-tested (Some h) n t = ap Some (same_name-true h.item.name n t)

  module _ (uses : List (Name × UsedType)) (r : ResourceId) where
    right-name : (n : Name) → is_alias c r ≡ false → find_name uses n ≡ None → is_named_right c uses (n, kind.TypeItem (ty.Resource r)) ≡ true → resource_names c r ≡ Some n
    right-name n plain unused t = name-tested (slice_get c.resources r.0) n
        (sym (ap (λ b. b || (is_some (find_name uses n) || has_name c r.0 n)) plain ∙ ap (λ (o : Option UsedType). is_some o || has_name c r.0 n) unused) ∙ t)

    -- an own resource that is named right is listed under its name
    listed-right : (n : Name) (k : ItemKind) → IsOwn c uses r (n, k) → is_named_right c uses (n, k) ≡ true → resource_names c r ≡ Some n
    listed-right n k o t = right-name n o.plain o.unused (subst (λ (x : ItemKind). is_named_right c uses (n, x) ≡ true) o.is t)

    pub named-own : (es : List (Name × ItemKind)) → named_right c uses es ≡ true → (n : Name) → own_name c uses es r ≡ Some n → resource_names c r ≡ Some n
    named-own es right n own =
        let w = own-found c uses es r n own in
        listed-right n w.1 w.3 (all-at (λ e. is_named_right c uses e) es w.0 (n, w.1) right w.2)

  -- a class binds a resource itself, or under its name
  abbrev pub IsPathOf : ResourceId → List Place → Type 0
  IsPathOf r path = (path ≡ []) ⊎ ((n : Name) × (path ≡ named n ∷ []) × (resource_names c r ≡ Some n))

  module _ (sound : IsSound c) where
    faultless : (it : Interface) → interface_fault c it ≡ None → named_right c it.uses it.exports ≡ true
    faultless it e = unless-true (named_right c it.uses it.exports) fault.ResourceMisnamed
        (first-right (uses_fault c it.uses it.exports) (unless (named_right c it.uses it.exports) fault.ResourceMisnamed)
        (first-right (mention_fault c (interface_mentions it)) (first_some (uses_fault c it.uses it.exports) (unless (named_right c it.uses it.exports) fault.ResourceMisnamed)) e))

    -- a held interface lists an own resource under its name
    pub interface-names : (i : ℕ) (it : Interface) → item_at c.interfaces i ≡ Some it → (r : ResourceId) (n : Name) → own_name c it.uses it.exports r ≡ Some n → resource_names c r ≡ Some n
    interface-names i it at r n own = go (slice_get c.interfaces i) refl at where
      go : (o : Option (Held Interface)) → slice_get c.interfaces i ≡ o → item_of o ≡ Some it → resource_names c r ≡ Some n
      go None here e = absurd (no_some it e)
      go (Some h) here e =
          let right = subst (λ (x : Interface). named_right c x.uses x.exports ≡ true) (some_same h.item it e) (faultless h.item (sound.interfaces i h here)) in
          named-own it.uses r it.exports right n own

    bare : (b : Bool) (path : List Place) → cond b (Some []) None ≡ Some path → path ≡ []
    bare true path e = sym (some_same [] path e)
    bare false path e = absurd (no_some path e)

    kind-bound : (rules : NameRules) (class : Name) (k : ItemKind) (r : ResourceId) (path : List Place) → kind_binds rules c class k r ≡ Some path → IsPathOf r path
    kind-bound rules class (kind.Instance i) r path e =
        let t = instance-binds rules c class r i path e in
        inr (t.name, t.is, interface-names i.0 t.interface t.there r t.name t.own)
    kind-bound rules class (kind.TypeItem (ty.Resource q)) r path e = inl (bare ((q.0 == r.0) && not (is_alias c q)) path e)
    kind-bound rules class (kind.TypeItem (ty.Func q)) r path e = absurd (no_some path e)
    kind-bound rules class (kind.TypeItem (ty.Value q)) r path e = absurd (no_some path e)
    kind-bound rules class (kind.TypeItem (ty.Interface q)) r path e = absurd (no_some path e)
    kind-bound rules class (kind.TypeItem (ty.World q)) r path e = absurd (no_some path e)
    kind-bound rules class (kind.TypeItem (ty.Module q)) r path e = absurd (no_some path e)
    kind-bound rules class (kind.Func q) r path e = absurd (no_some path e)
    kind-bound rules class (kind.Component q) r path e = absurd (no_some path e)
    kind-bound rules class (kind.Module q) r path e = absurd (no_some path e)
    kind-bound rules class (kind.Value q) r path e = absurd (no_some path e)

    pub class-bound : (rules : NameRules) (es : List Entry) (class : Name) (r : ResourceId) (path : List Place) → class_binds rules c es class r ≡ Some path → IsPathOf r path
    class-bound rules es class r path e =
        let w = first-binding rules c class (members rules es class) r path e in
        kind-bound rules class (w.1).kind r path w.3
