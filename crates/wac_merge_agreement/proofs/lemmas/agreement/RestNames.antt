-- Names of one class are interchangeable in what the class binds and in how its entries are compared.
use Rattle.std.proofs.Common.{◌≡◌, true, false, if◌then◌else◌, List, [], ◌∷◌, map, Option, Some, None, refl, ap, ◌∙◌, inl, inr, ◌⊎◌}
use Rattle.wac_names.specs.Track.{Track}
use Rattle.wac_names.specs.Reading.{read_track}
use Rattle.wac_types_shapes.specs.primitives.Name.{Name, option_case, first_some}
use Rattle.wac_types_shapes.specs.primitives.Tree.{exported, Place, named, TypeTree, absent, instance, instance_item}
use Rattle.wac_types_collection.specs.collection.Collection.{Collection, item_at}
use Rattle.wac_types_collection.specs.collection.Held.{Names, unfolded, item_tree, items_under}
use Rattle.wac_types_collection.specs.collection.Bound.{own_name}
use Rattle.wac_types_collection.specs.subtyping.Called.{Called, called_at, own_leaf, by_binding}
use Rattle.wac_types_shapes.specs.declared.shapes.component.ResourceId.{ResourceId}
use Rattle.wac_types_shapes.specs.declared.shapes.component.InterfaceId.{InterfaceId}
use Rattle.wac_types_shapes.specs.declared.shapes.component.Interface.{Interface}
use Rattle.wac_types_shapes.specs.declared.shapes.component.ItemKind.{ItemKind}
use Rattle.wac_types_shapes.specs.declared.shapes.component.ItemKind.TheVariants as kind
use Rattle.wac_types_shapes.specs.declared.shapes.component.«Type».TheVariants as ty
use Rattle.wac_merge_classes.specs.entries.Classes.{Entry, by_names, same_class, same_track, members}
use Rattle.wac_merge_classes.specs.entries.Binding.{kind_binds, first_binds, class_binds}
use Rattle.wac_merge_classes.specs.entries.Agreement.{called_outside, compared}
use Rattle.wac_merge_classes.proofs.lemmas.entries.Canonical.{members-alike}
use Rattle.wac_merge_classes.proofs.lemmas.entries.ClassFacts.{class-parts, IsOneTrack}

module _ (c : Collection) (es : List Entry) (a b : Name) (one : same_class by_names es a b ≡ true) where
  abbrev on : InterfaceId → ResourceId → Track → Option (List Place)
  on i r t =
      option_case (item_at c.interfaces i.0) None (λ it.
      option_case it.id None (λ id. if same_track (read_track id) t then option_case (own_name c it.uses it.exports r) None (λ n. Some (named n ∷ [])) else None))

  kind-alike : (k : ItemKind) (r : ResourceId) → kind_binds by_names c a k r ≡ kind_binds by_names c b k r
  kind-alike (kind.Instance i) r = split (class-parts by_names es a b one) where
    split : (a ≡ b) ⊎ IsOneTrack by_names es a b → kind_binds by_names c a (kind.Instance i) r ≡ kind_binds by_names c b (kind.Instance i) r
    split (inl e) = ap (λ n. kind_binds by_names c n (kind.Instance i) r) e
    split (inr o) = ap (on i r) o.track
  kind-alike (kind.TypeItem (ty.Resource q)) r = refl
  kind-alike (kind.TypeItem (ty.Func f)) r = refl
  kind-alike (kind.TypeItem (ty.Value v)) r = refl
  kind-alike (kind.TypeItem (ty.Interface i)) r = refl
  kind-alike (kind.TypeItem (ty.World w)) r = refl
  kind-alike (kind.TypeItem (ty.Module x)) r = refl
  kind-alike (kind.Func f) r = refl
  kind-alike (kind.Component w) r = refl
  kind-alike (kind.Module x) r = refl
  kind-alike (kind.Value v) r = refl

  first-alike : (xs : List Entry) (r : ResourceId) → first_binds by_names c a xs r ≡ first_binds by_names c b xs r
  first-alike [] r = refl
  first-alike (e ∷ xs) r = λ i. first_some (kind-alike e.kind r i) (first-alike xs r i)

  -- what the class binds
  pub class-alike : (r : ResourceId) → class_binds by_names c es a r ≡ class_binds by_names c es b r
  class-alike r = first-alike (members by_names es a) r ∙ ap (λ l. first_binds by_names c b l r) (members-alike es a b es one)

  abbrev in_instance : Names (List Place) → Interface → Names Called
  in_instance f it r =
      first_some (option_case (own_leaf c it r) None (λ l. Some (called_at c r l)))
      (first_some (option_case (f r) None (λ path. Some (called_at c r (record { out = 0; side = exported; path = path })))) (called_outside by_names c es r))

  abbrev of_instance : InterfaceId → Names (List Place) → TypeTree Called
  of_instance i f =
      option_case (item_at c.interfaces i.0) absent (λ it. instance_item (instance (items_under (map (λ e. (e.0, item_tree (unfolded (by_binding c) c (in_instance f it)) false e.1)) it.exports))))

  same : class_binds by_names c es a ≡ class_binds by_names c es b
  same = λ i r. class-alike r i

  -- how an entry is compared
  pub compared-same : (k : ItemKind) → compared by_names c es a k ≡ compared by_names c es b k
  compared-same (kind.Instance i) = ap (of_instance i) same
  compared-same (kind.TypeItem t) = refl
  compared-same (kind.Func f) = refl
  compared-same (kind.Component w) = refl
  compared-same (kind.Module x) = refl
  compared-same (kind.Value v) = refl
