-- Classes bind the same resources in a collection that begins with that of their entries.
use Rattle.std.proofs.Common.{◌≡◌, ◌==◌, ◌&&◌, true, not, cond, is_none, is_some, List, [], ◌∷◌, length, Option, Some, None, refl, ap, ◌∙◌}
use Rattle.std.specs.List.{AllByRecursion}
use Rattle.std.proofs.lemmas.Bool.{and_parts}
use Rattle.wac_types_shapes.specs.primitives.Name.{Name, find_name, first_some, option_case}
use Rattle.wac_types_shapes.specs.shapes.Kinds.{kind_type}
use Rattle.wac_types_shapes.specs.primitives.Tree.{Place, named}
use Rattle.wac_types_collection.specs.collection.Collection.{Collection, HasResource, IsWellFormed, holds_all, holds_type, item_at, item_of, kind_types, IsKeptBy}
use Rattle.wac_types_collection.specs.collection.Held.{source_of}
use Rattle.wac_types_collection.specs.collection.Bound.{is_alias, lists_own, own_name}
use Rattle.wac_types_shapes.specs.declared.shapes.component.Interface.{Interface}
use Rattle.wac_types_shapes.specs.declared.shapes.component.InterfaceId.{InterfaceId}
use Rattle.wac_types_shapes.specs.declared.shapes.component.ResourceId.{ResourceId}
use Rattle.wac_types_shapes.specs.declared.shapes.component.UsedType.{UsedType}
use Rattle.wac_types_shapes.specs.declared.shapes.component.«Type».TheVariants as ty
use Rattle.wac_types_shapes.specs.declared.shapes.component.ItemKind.{ItemKind}
use Rattle.wac_types_shapes.specs.declared.shapes.component.ItemKind.TheVariants as kind
use Rattle.wac_merge_classes.specs.entries.Binding.{class_binds, first_binds, kind_binds}
use Rattle.wac_merge_classes.specs.entries.Bindings.{AreHeld}
use Rattle.wac_merge_classes.specs.entries.Classes.{Entry, by_names, members, same_class, same_track}
use Rattle.wac_merge_classes.proofs.lemmas.entries.Opening.{below}
use Rattle.wac_merge_classes.proofs.lemmas.entries.Places.{exports_held}
use Rattle.wac_merge_tables.proofs.lemmas.made.Extending.{kept_get}
use Rattle.wac_merge_imports.proofs.lemmas.fitting.MergedBindingsClasses.{filter-at}
use Rattle.wac_merge_unions.proofs.lemmas.uniting.UnionLists.{all_from}

module _ (c m : Collection) (wf : IsWellFormed c) (kept : IsKeptBy c m) where
  alias-kept : (q : ResourceId) → HasResource c q → is_alias m q ≡ is_alias c q
  alias-kept q held = ap (λ o. is_some (source_of o)) (kept_get c.resources m.resources kept.resources q.0 held)

  lists-kept : (uses : List (Name × UsedType)) (r : ResourceId) (n : Name) (k : ItemKind) → holds_type c (kind_type k) ≡ true → lists_own m uses r (n, k) ≡ lists_own c uses r (n, k)
  lists-kept uses r n (kind.TypeItem (ty.Resource q)) held = ap (λ b. (q.0 == r.0) && (not b && is_none (find_name uses n))) (alias-kept q (below q.0 (length c.resources) held))
  lists-kept uses r n k held = refl

  own-kept : (uses : List (Name × UsedType)) (es : List (Name × ItemKind)) (r : ResourceId) → holds_all c (kind_types es) ≡ true → own_name m uses es r ≡ own_name c uses es r
  own-kept uses [] r held = refl
  own-kept uses (e ∷ es) r held =
      let p = and_parts (holds_type c (kind_type e.1)) (holds_all c (kind_types es)) held in
      let here = lists-kept uses r e.0 e.1 p.0 in
      let rest = own-kept uses es r p.1 in
      (λ i. cond (here i) (Some e.0) (rest i))

  -- what an interface binds for a class
  abbrev of_interface : Collection → Name → ResourceId → Interface → Option (List Place)
  of_interface d class r it = option_case it.id None (λ id. cond (same_track (by_names.track id) (by_names.track class)) (option_case (own_name d it.uses it.exports r) None (λ n. Some (named n ∷ []))) None)

  interface-kept : (class : Name) (r : ResourceId) (i : InterfaceId) (o : Option Interface) → item_at c.interfaces i.0 ≡ o → option_case o None (of_interface m class r) ≡ option_case o None (of_interface c class r)
  interface-kept class r i None at = refl
  interface-kept class r i (Some it) at =
      ap (λ (o : Option Name). option_case it.id None (λ id. cond (same_track (by_names.track id) (by_names.track class)) (option_case o None (λ n. Some (named n ∷ []))) None))
      (own-kept it.uses it.exports r (exports_held c wf i it at))

  kind-kept : (class : Name) (k : ItemKind) (r : ResourceId) → holds_type c (kind_type k) ≡ true → kind_binds by_names m class k r ≡ kind_binds by_names c class k r
  kind-kept class (kind.Instance i) r held =
      ap (λ o. option_case (item_of o) None (of_interface m class r)) (kept_get c.interfaces m.interfaces kept.interfaces i.0 (below i.0 (length c.interfaces) held))
      ∙ interface-kept class r i (item_at c.interfaces i.0) refl
  kind-kept class (kind.TypeItem (ty.Resource q)) r held = ap (λ b. cond ((q.0 == r.0) && not b) (Some []) None) (alias-kept q (below q.0 (length c.resources) held))
  kind-kept class k r held = refl

  first-kept : (class : Name) (es : List Entry) (r : ResourceId) → AllByRecursion (λ e. holds_type c (kind_type e.kind) ≡ true) es → first_binds by_names m class es r ≡ first_binds by_names c class es r
  first-kept class [] r held = refl
  first-kept class (e ∷ es) r held =
      let here = kind-kept class e.kind r held.0 in
      let rest = first-kept class es r held.1 in
      (λ i. first_some (here i) (rest i))

  pub binds-kept : (es : List Entry) → AreHeld c es → (class : Name) (r : ResourceId) → class_binds by_names m es class r ≡ class_binds by_names c es class r
  binds-kept es held class r =
      first-kept class (members by_names es class) r
      (all_from (λ (e : Entry). holds_type c (kind_type e.kind) ≡ true) (members by_names es class) (λ j e at.
      let w = filter-at (λ (e : Entry). same_class by_names es class e.name) es j e at in
      held w.1 e w.2))
