-- Without resources a class rests on others by uses alone.
use Rattle.std.proofs.Common.{◌≡◌, ◌≢◌, ℕ, suc, Bool, true, false, if◌then◌else◌, List, [], ◌∷◌, length, map, Option, Some, None, refl, ap, sym, ◌∙◌, subst, inl, inr, ◌⊎◌, arith}
use Rattle.std.specs.Prelude.{◌↔◌, slice_get}
use Rattle.std.specs.List.{AllByRecursion, Contains}
use Rattle.std.proofs.lemmas.Bool.{and_parts}
use Rattle.std.proofs.lemmas.Option.{slice_get_within}
use Rattle.wac_types_shapes.specs.primitives.Name.{Name, option_case, first_some}
use Rattle.wac_types_shapes.specs.primitives.Tree.{imported, Place, position, named, absent}
use Rattle.wac_types_shapes.specs.shapes.Kinds.{kind_type}
use Rattle.wac_types_shapes.specs.declared.shapes.component.ResourceId.{ResourceId}
use Rattle.wac_types_shapes.specs.declared.shapes.component.UsedType.{UsedType}
use Rattle.wac_types_shapes.specs.declared.shapes.component.InterfaceId.{InterfaceId}
use Rattle.wac_types_shapes.specs.declared.shapes.component.Interface.{Interface}
use Rattle.wac_types_shapes.specs.declared.shapes.component.ItemKind.{ItemKind}
use Rattle.wac_types_shapes.specs.declared.shapes.component.ItemKind.TheVariants as kind
use Rattle.wac_types_shapes.specs.declared.shapes.component.«Type».TheVariants as ty
use Rattle.wac_types_collection.specs.collection.Collection.{Collection, IsWellFormed, holds_all, holds_type, item_at, kind_types}
use Rattle.wac_types_collection.specs.collection.Bound.{lists_own, own_name}
use Rattle.wac_types_collection.specs.wide.Wide.{each_once, wide_uses}
use Rattle.wac_types_collection.proofs.lemmas.collection.Steady.{within}
use Rattle.wac_merge_classes.specs.entries.Binding.{binding_from, class_binds, first_binds, kind_binds, root_bindings}
use Rattle.wac_merge_classes.specs.entries.Bindings.{AreHeld, ClassBindings}
use Rattle.wac_merge_classes.specs.entries.Classes.{AreClasses, Entry, by_names, class_names, members, same_class, same_track}
use Rattle.wac_merge_classes.specs.terms.ClassOrder.{RestsOn, by_resource, by_use}
use Rattle.wac_merge_classes.proofs.lemmas.entries.Places.{exports_held}
use Rattle.wac_merge_classes.proofs.lemmas.terms.Found.{get_map}
use Rattle.wac_edges.specs.private.cycles.Numbers.{Has}
use Rattle.wac_edges.specs.private.Arranging.{with_all}
use Rattle.wac_edges.proofs.KeySets.{has_in}
use Rattle.wac_merge_tables.specs.private.tables.Nodes.{Item, a_type}
use Rattle.wac_merge_agreement.specs.private.agreement.Reach.{IsOfClass}
use Rattle.wac_merge_agreement.specs.private.agreement.Resting.{EntryLeads, ItemLeads, KindUses, classes_used, used_classes}
use Rattle.wac_merge_agreement.proofs.lemmas.agreement.Reaching.{inside}
use Rattle.wac_merge_agreement.proofs.lemmas.agreement.Resting.{No, Nothing, no_none}
use Rattle.wac_merge_agreement.proofs.lemmas.agreement.RestCircles.{quiet_member}
use Rattle.wac_merge_agreement.proofs.lemmas.agreement.RestKinds.{all-filtered, filter-at}
use Rattle.wac_merge_agreement.proofs.lemmas.agreement.RestLinks.{contains_at, is_member, use_rests, used_class}
use Rattle.wac_merge_agreement.proofs.lemmas.agreement.RestSets.{instance_has}

-- ---- what an item uses
module _ (c : Collection) (names : List (Name × ℕ)) where
  unused : (k : ItemKind) → ((i : InterfaceId) → k ≡ kind.Instance i → ⊥) → (b : ℕ) → KindUses c names k b → ⊥
  unused (kind.Instance i) other b h = other i refl
  unused (kind.TypeItem t) other b h = h
  unused (kind.Func f) other b h = h
  unused (kind.Component w) other b h = h
  unused (kind.Module m) other b h = h
  unused (kind.Value v) other b h = h

  pub no_use : (k : ItemKind) → ((i : InterfaceId) → k ≡ kind.Instance i → ⊥) → (ks : List ℕ) → ks ≡ [] → (b : ℕ) → Has ks b ↔ KindUses c names k b
  no_use k other ks empty b = (λ h. absurd (has_in [] b (subst (λ (l : List ℕ). Has l b) empty h)), λ h. absurd (unused k other b h))

  pub one_use : (k : ItemKind) (i : InterfaceId) → k ≡ kind.Instance i → (used : List InterfaceId) (old new : List ℕ) → used ≡ each_once (wide_uses c i) → old ≡ [] → new ≡ with_all old (used_classes c names used) → (b : ℕ)
      → Has new b ↔ KindUses c names k b
  one_use k i is used old new all empty more b = subst (λ (x : ItemKind). Has new b ↔ KindUses c names x b) (sym is) (λ h. to (both.0 h), λ h. both.1 (inr h)) where
    nothing : (d : ℕ) → Has old d ↔ ⊥
    nothing d = (λ h. has_in [] d (subst (λ (l : List ℕ). Has l d) empty h), λ h. absurd h)

    both : Has new b ↔ (⊥ ⊎ Has (classes_used c names i) b)
    both = instance_has c names i used (λ d. ⊥) old new all nothing more b

    to : ⊥ ⊎ Has (classes_used c names i) b → Has (classes_used c names i) b
    to (inl none) = absurd none
    to (inr h) = h

-- ---- in a table without nodes no item mentions a resource, so entries lead on by uses alone
abbrev pub no_item : Entry → Item
no_item e = a_type 0

abbrev pub no_bindings : ClassBindings
no_bindings = record { classes = []; firsts = [] }

abbrev pub UsesLead : Collection → List Entry → List ℕ → List (Name × ℕ) → ℕ → ℕ → ℕ → Type 0
UsesLead c es numbers names = EntryLeads [] c es (map no_item es) numbers names no_bindings

module _ (c : Collection) (names : List (Name × ℕ)) (b : ℕ) where
  led : (k : ItemKind) → KindUses c names k b → ItemLeads [] c names no_bindings k (a_type 0) b
  led (kind.Instance i) h = inr h
  led (kind.TypeItem t) h = absurd h
  led (kind.Func f) h = absurd h
  led (kind.Component w) h = absurd h
  led (kind.Module m) h = absurd h
  led (kind.Value v) h = absurd h

  leading : (k : ItemKind) (x : Item) → ItemLeads [] c names no_bindings k x b → KindUses c names k b
  leading (kind.Instance i) x (inl h) = absurd (inside (IsOfClass b) absent h)
  leading (kind.Instance i) x (inr h) = h
  leading (kind.TypeItem (ty.Resource q)) x h = let no_some : None ≡ Some b = h in cc
  leading (kind.TypeItem (ty.Func f)) x h = inside (IsOfClass b) absent h
  leading (kind.TypeItem (ty.Value v)) x h = inside (IsOfClass b) absent h
  leading (kind.TypeItem (ty.Interface i)) x h = inside (IsOfClass b) absent h
  leading (kind.TypeItem (ty.World w)) x h = inside (IsOfClass b) absent h
  leading (kind.TypeItem (ty.Module m)) x h = inside (IsOfClass b) absent h
  leading (kind.Func f) x h = inside (IsOfClass b) absent h
  leading (kind.Component w) x h = inside (IsOfClass b) absent h
  leading (kind.Module m) x h = inside (IsOfClass b) absent h
  leading (kind.Value v) x h = inside (IsOfClass b) absent h

pub kind_leads : (c : Collection) (names : List (Name × ℕ)) (k : ItemKind) (more : List ℕ) → ((b : ℕ) → Has more b ↔ KindUses c names k b) → (b : ℕ) → Has more b ↔ ItemLeads [] c names no_bindings k (a_type 0) b
kind_leads c names k more uses b = (λ h. led c names b k ((uses b).0 h), λ h. (uses b).1 (leading c names b k (a_type 0) h))

-- ---- no class binds a resource
module _ (c : Collection) (wf : IsWellFormed c) (none : length c.resources ≡ 0) where
  none_held : (q : ResourceId) → holds_type c (ty.Resource q) ≡ true → ⊥
  none_held q held = let low = within q.0 (length c.resources) held in absurd (omega (arith, low, none))

  unlisted : (uses : List (Name × UsedType)) (r : ResourceId) (e : Name × ItemKind) → holds_type c (kind_type e.1) ≡ true → lists_own c uses r e ≡ false
  unlisted uses r (n, kind.TypeItem (ty.Resource q)) held = absurd (none_held q held)
  unlisted uses r (n, kind.TypeItem (ty.Func f)) held = refl
  unlisted uses r (n, kind.TypeItem (ty.Value v)) held = refl
  unlisted uses r (n, kind.TypeItem (ty.Interface i)) held = refl
  unlisted uses r (n, kind.TypeItem (ty.World w)) held = refl
  unlisted uses r (n, kind.TypeItem (ty.Module m)) held = refl
  unlisted uses r (n, kind.Func f) held = refl
  unlisted uses r (n, kind.Instance i) held = refl
  unlisted uses r (n, kind.Component w) held = refl
  unlisted uses r (n, kind.Module m) held = refl
  unlisted uses r (n, kind.Value v) held = refl

  own_none : (uses : List (Name × UsedType)) (es : List (Name × ItemKind)) → holds_all c (kind_types es) ≡ true → (r : ResourceId) → own_name c uses es r ≡ None
  own_none uses [] held r = refl
  own_none uses (e ∷ es) held r =
      let p = and_parts (holds_type c (kind_type e.1)) (holds_all c (kind_types es)) held in
      ap (λ (b : Bool). if b then Some e.0 else own_name c uses es r) (unlisted uses r e p.0) ∙ own_none uses es p.1 r

  abbrev Unbound : Option (List Place) → Type 0
  Unbound o = o ≡ None

  kind_none : (class : Name) (k : ItemKind) (r : ResourceId) → holds_type c (kind_type k) ≡ true → Unbound (kind_binds by_names c class k r)
  kind_none class (kind.Instance i) r held = at (item_at c.interfaces i.0) refl where
    here : (it : Interface) → own_name c it.uses it.exports r ≡ None → (z : Bool) → Unbound (if z then option_case (own_name c it.uses it.exports r) None (λ n. Some (named n ∷ [])) else None)
    here it own true = subst (λ (o : Option Name). Unbound (option_case o None (λ n. Some (named n ∷ [])))) (sym own) refl
    here it own false = refl

    known : (it : Interface) → own_name c it.uses it.exports r ≡ None → (z : Option Name)
        → Unbound (option_case z None (λ id. if same_track (by_names.track id) (by_names.track class) then option_case (own_name c it.uses it.exports r) None (λ n. Some (named n ∷ [])) else None))
    known it own None = refl
    known it own (Some id) = here it own (same_track (by_names.track id) (by_names.track class))

    at : (z : Option Interface) → item_at c.interfaces i.0 ≡ z
        → Unbound (option_case z None (λ it. option_case it.id None (λ id. if same_track (by_names.track id) (by_names.track class) then option_case (own_name c it.uses it.exports r) None (λ n. Some (named n ∷ [])) else None)))
    at None is = refl
    at (Some it) is = known it (own_none it.uses it.exports (exports_held c wf i it is) r) it.id
  kind_none class (kind.TypeItem (ty.Resource q)) r held = absurd (none_held q held)
  kind_none class (kind.TypeItem (ty.Func f)) r held = refl
  kind_none class (kind.TypeItem (ty.Value v)) r held = refl
  kind_none class (kind.TypeItem (ty.Interface i)) r held = refl
  kind_none class (kind.TypeItem (ty.World w)) r held = refl
  kind_none class (kind.TypeItem (ty.Module m)) r held = refl
  kind_none class (kind.Func f) r held = refl
  kind_none class (kind.Component w) r held = refl
  kind_none class (kind.Module m) r held = refl
  kind_none class (kind.Value v) r held = refl

  members_none : (class : Name) (es : List Entry) → AllByRecursion (λ e. holds_type c (kind_type e.kind) ≡ true) es → (r : ResourceId) → Unbound (first_binds by_names c class es r)
  members_none class [] held r = refl
  members_none class (e ∷ es) held r = ap (λ (o : Option (List Place)). first_some o (first_binds by_names c class es r)) (kind_none class e.kind r held.0) ∙ members_none class es held.1 r

  module _ (es : List Entry) (held : AreHeld c es) where
    class_none : (class : Name) (r : ResourceId) → Unbound (class_binds by_names c es class r)
    class_none class r =
        members_none class (members by_names es class) (all-filtered (λ e. same_class by_names es class e.name) (λ e. holds_type c (kind_type e.kind) ≡ true) es (λ j e at of. held j e at)) r

    binding_none : (ns : List Name) (k : ℕ) (r : ResourceId) → binding_from by_names c es k ns r ≡ None
    binding_none [] k r = refl
    binding_none (n ∷ ns) k r =
        ap (λ (o : Option (List Place)). option_case o (binding_from by_names c es (suc k) ns r) (λ path. Some (k, path))) (class_none n r)
        ∙ binding_none ns (suc k) r

    root_none : (b : ℕ) → Nothing b (root_bindings by_names c es (λ k. k))
    root_none b r =
        subst (λ (o : Option (ℕ × List Place)). No b (option_case o None (λ x. Some (record { out = 0; side = imported; path = position x.0 ∷ x.1 }))))
        (sym (binding_none (class_names by_names es) 0 r)) (no_none b)

-- ---- so what entries lead to by uses is what their classes rest on
module _ (c : Collection) (es : List Entry) (numbers positions : List ℕ) (names : List (Name × ℕ)) (classes : AreClasses by_names es numbers positions names) (wf : IsWellFormed c)
    (held : AreHeld c es) (none : length c.resources ≡ 0) where
  abbrev Uses : ℕ → ℕ → Type 0
  Uses = UsesLead c es numbers names (length es)

  uses_one : (a b : ℕ) (class : Name) (e : Entry) → a ≢ b → slice_get (class_names by_names es) a ≡ Some class → Contains (members by_names es class) e → (k : ItemKind) → e.kind ≡ k → KindUses c names k b → RestsOn by_names c es a b
  uses_one a b class e other is_class member (kind.Instance j) is h = use_rests c es numbers positions names classes wf a b class e other is_class member j is h
  uses_one a b class e other is_class member (kind.TypeItem t) is h = absurd h
  uses_one a b class e other is_class member (kind.Func f) is h = absurd h
  uses_one a b class e other is_class member (kind.Component w) is h = absurd h
  uses_one a b class e other is_class member (kind.Module m) is h = absurd h
  uses_one a b class e other is_class member (kind.Value v) is h = absurd h

  uses_rest : (a b : ℕ) → Uses a b → RestsOn by_names c es a b
  uses_rest a b l =
      let d = classes.numbered l.at a l.entry l.is_entry l.is_class in
      let w = filter-at (λ y. same_class by_names es d.0 y.name) es l.at l.entry l.is_entry d.2 in
      let member = contains_at (members by_names es d.0) w.0 l.entry w.1 in
      uses_one a b d.0 l.entry l.other d.1 member l.entry.kind refl (leading c names b l.entry.kind l.item l.leads)

  rests_use : (a b : ℕ) → RestsOn by_names c es a b → Uses a b
  rests_use a b (by_use _ _ class name_of id e i j used other is_class is_other member is widely is_used has_id one) =
      let m = is_member c es numbers positions names classes wf a class e is_class member in
      let all = used_class c es numbers positions names classes wf b name_of id i j used is_other widely is_used has_id one in
      record {
        at = m.at;
        entry = e;
        item = a_type 0;
        below = slice_get_within es m.at e m.is_entry;
        is_entry = m.is_entry;
        is_item = get_map no_item es m.at e m.is_entry;
        is_class = m.is_number;
        other = other;
        leads = subst (λ (k : ItemKind). ItemLeads [] c names no_bindings k (a_type 0) b) (sym is) (inr all);
      }
  rests_use a b (by_resource _ _ class e other is_class member h) = absurd (quiet_member c es (λ k. k) b (root_none c wf none es held b) class a e.kind h)

  pub rest_by_uses : (a b : ℕ) → Uses a b ↔ RestsOn by_names c es a b
  rest_by_uses a b = (uses_rest a b, rests_use a b)
