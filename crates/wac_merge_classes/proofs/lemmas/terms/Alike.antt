-- What entries are compared as: under each name of their class the same.
use Rattle.std.proofs.Common.{◌≡◌, Bool, true, false, if◌then◌else◌, List, [], ◌∷◌, filter, map, Some, None, refl, subst, sym, ap, ◌∙◌, inl, inr}
use Rattle.std.proofs.Math.Path.{fun_ext}
use Rattle.std.proofs.lemmas.Bool.{cases_Bool, false≢true, false_from_ne_true}
use Rattle.wac_names.specs.Reading.{read_track}
use Rattle.wac_types_shapes.specs.primitives.Name.{Name, option_case, first_some}
use Rattle.wac_types_shapes.specs.primitives.Tree.{TypeTree, exported, absent, named, instance, instance_item}
use Rattle.wac_types_collection.specs.collection.Bound.{own_name}
use Rattle.wac_types_collection.specs.subtyping.Called.{Called, called_at, own_leaf, by_binding}
use Rattle.wac_types_collection.specs.collection.Collection.{Collection, item_at}
use Rattle.wac_types_collection.specs.collection.Held.{Names, unfolded, item_tree, items_under}
use Rattle.wac_types_shapes.specs.declared.shapes.component.Interface.{Interface}
use Rattle.wac_types_shapes.specs.declared.shapes.component.ResourceId.{ResourceId}
use Rattle.wac_types_shapes.specs.declared.shapes.component.ItemKind.{ItemKind}
use Rattle.wac_types_shapes.specs.declared.shapes.component.ItemKind.TheVariants as kind
use Rattle.wac_types_shapes.specs.declared.shapes.component.«Type».TheVariants as ty
use Rattle.wac_merge_classes.specs.entries.Agreement.{Agree, called_outside, called_inside, compared}
use Rattle.wac_merge_classes.specs.entries.Binding.{kind_binds, first_binds, class_binds}
use Rattle.wac_merge_classes.specs.entries.Classes.{Entry, by_names, same_class, same_track, members}
use Rattle.wac_merge_classes.proofs.lemmas.entries.ClassFacts.{class-parts, class-sym, class-trans}

-- ---- names of one class are interchangeable

filter_alike : {A : Type 0} (p q : A → Bool) (xs : List A) → ((x : A) → p x ≡ q x) → filter p xs ≡ filter q xs
filter_alike p q xs same = ap (λ f. filter f xs) (fun_ext same)

module _ (c : Collection) (es : List Entry) (a b : Name) (one : same_class by_names es a b ≡ true) where
  row_alike : (n : Name) → same_class by_names es a n ≡ same_class by_names es b n
  row_alike n = elim (cases_Bool (same_class by_names es b n)) [
    | inl t ↦ class-trans by_names es a b n one t ∙ sym t
    | inr f ↦ false_from_ne_true _ (λ h. false≢true (sym f ∙ class-trans by_names es b a n (class-sym by_names es a b one) h)) ∙ sym f
  ]

  pub members_alike : members by_names es a ≡ members by_names es b
  members_alike = filter_alike _ _ es (λ e. row_alike e.name)

  track_alike : read_track a ≡ read_track b
  track_alike = elim (class-parts by_names es a b one) [
    | inl same ↦ ap read_track same
    | inr o ↦ o.track
  ]

  kind_alike : (k : ItemKind) (r : ResourceId) → kind_binds by_names c a k r ≡ kind_binds by_names c b k r
  kind_alike (kind.Instance i) r =
      ap (λ t. option_case (item_at c.interfaces i.0) None (λ it. option_case it.id None (λ id.
      if same_track (read_track id) t then option_case (own_name c it.uses it.exports r) None (λ n. Some (named n ∷ [])) else None))) track_alike
  kind_alike (kind.TypeItem (ty.Resource q)) r = refl
  kind_alike _ r = refl

  first_alike : (xs : List Entry) (r : ResourceId) → first_binds by_names c a xs r ≡ first_binds by_names c b xs r
  first_alike [] r = refl
  first_alike (x ∷ xs) r = λ i. first_some (kind_alike x.kind r i) (first_alike xs r i)

  -- they bind the same
  pub binds_alike : (r : ResourceId) → class_binds by_names c es a r ≡ class_binds by_names c es b r
  binds_alike r = first_alike (members by_names es a) r ∙ ap (λ xs. first_binds by_names c b xs r) members_alike

  inside_alike : (it : Interface) → called_inside by_names c es a it ≡ called_inside by_names c es b it
  inside_alike it = fun_ext (λ r. ap (λ o.
      first_some (option_case (own_leaf c it r) None (λ l. Some (called_at c r l)))
      (first_some (option_case o None (λ path. Some (called_at c r (record { out = 0; side = exported; path = path })))) (called_outside by_names c es r))) (binds_alike r))

  -- so entries are compared as the same under each
  pub compared_alike : (k : ItemKind) → compared by_names c es a k ≡ compared by_names c es b k
  compared_alike (kind.Instance i) =
      ap (λ (f : Interface → Names Called). option_case (item_at c.interfaces i.0) absent (λ it.
      instance_item (instance (items_under (map (λ e. (e.0, item_tree (unfolded (by_binding c) c (f it)) false e.1)) it.exports))))) (fun_ext inside_alike)
  compared_alike (kind.TypeItem t) = refl
  compared_alike (kind.Func f) = refl
  compared_alike (kind.Component w) = refl
  compared_alike (kind.Module m) = refl
  compared_alike (kind.Value v) = refl

-- ---- agreement

-- an item agrees with itself
pub agree_itself : (t : TypeTree Called) → Agree t t
agree_itself (instance items) = λ n. inr (inr (agree_itself (items n)))
agree_itself (instance_item t) = agree_itself t
agree_itself _ = refl

pub agree_at : (t u a b : TypeTree Called) → t ≡ a → u ≡ b → Agree a b → Agree t u
agree_at t u a b e f h = subst (λ x. Agree x u) (sym e) (subst (λ x. Agree a x) (sym f) h)
