-- An interface and the same with what it and the instances inside use have the same trees.
use Rattle.std.proofs.Common.{◌≡◌, ℕ, zero, suc, true, List, [], ◌∷◌, length, map, Option, Some, None, slice_get, refl, sym, ap, ◌∙◌, arith}
use Rattle.std.proofs.Math.Path.{fun_ext}
use Rattle.std.proofs.lemmas.Bool.{cases_Bool, false≢true}
use Rattle.std.proofs.Common.{inl, inr}
use Rattle.wac_types_shapes.specs.primitives.Name.{Name, option_case}
use Rattle.wac_types_shapes.specs.declared.shapes.component.Interface.{Interface}
use Rattle.wac_types_shapes.specs.declared.shapes.component.InterfaceId.{InterfaceId}
use Rattle.wac_types_shapes.specs.declared.shapes.component.ResourceId.{ResourceId}
use Rattle.wac_types_shapes.specs.declared.shapes.component.UsedType.{UsedType}
use Rattle.wac_types_shapes.specs.declared.shapes.component.«Type».TheVariants as ty
use Rattle.wac_types_shapes.specs.declared.shapes.component.ItemKind.{ItemKind}
use Rattle.wac_types_shapes.specs.declared.shapes.component.ItemKind.TheVariants as kind
use Rattle.wac_types_collection.specs.declared.collection.collection.Held.{Held}
use Rattle.wac_types_shapes.specs.primitives.Tree.{TypeTree, exported, further_out, instance, instance_item, named}
use Rattle.wac_types_collection.specs.collection.Collection.{Collection, item_of, size}
use Rattle.wac_types_collection.specs.collection.Held.{Names, Naming, interface_tree, item_tree, items_under, listed_tree, of_held, unfolded_to}
use Rattle.wac_types_collection.specs.collection.Bound.{Bindings, by_place, held_tree, inside_interface, own_name}
use Rattle.wac_types_collection.specs.subtyping.Subtype.{by_name, resource_names, type_tree}
use Rattle.wac_merge_classes.specs.entries.Classes.{is_instance}
use Rattle.wac_merge_classes.proofs.lemmas.terms.Found.{no_some, some_same}
use Rattle.wac_merge_unions.specs.uses.United.{instances_of, listed_by}
use Rattle.wac_merge_unions.specs.uses.Using.{IsUsing, with}

pub the-instance : (k : ItemKind) → is_instance k ≡ true → (i : InterfaceId) × (k ≡ kind.Instance i)
the-instance (kind.Instance i) t = (i, refl)
the-instance k t = absurd (false≢true t)

held-is : {L : Type 0} (t : Interface → TypeTree L) (o : Option (Held Interface)) (x : Interface) → item_of o ≡ Some x → of_held t o ≡ t x
held-is t None x e = absurd (no_some x e)
held-is t (Some h) x e = ap t (some_same h.item x e)

pub maps-same : {A B : Type 0} (f : A → B) (xs ys : List A) → length ys ≡ length xs → ((j : ℕ) (a b : A) → slice_get xs j ≡ Some a → slice_get ys j ≡ Some b → f b ≡ f a) → map f ys ≡ map f xs
maps-same f [] [] count each = refl
maps-same f [] (y ∷ ys) count each = absurd (omega (arith, count))
maps-same f (x ∷ xs) [] count each = absurd (omega (arith, count))
maps-same f (x ∷ xs) (y ∷ ys) count each = λ i. each 0 x y refl refl i ∷ maps-same f xs ys (omega (arith, count)) (λ j a b here there. each (suc j) a b here there) i

module _ {L : Type 0} (naming : Naming L) (c m : Collection) (uses : List InterfaceId → List (Name × ItemKind) → List (Name × UsedType))
    (inside : (it using : Interface) → ((r : ResourceId) → own_name m using.uses using.exports r ≡ own_name m it.uses it.exports r) → (b : Names L) → naming.in_instance using b ≡ naming.in_instance it b) where
  abbrev Same : ℕ → Type 0
  Same n = (i w : InterfaceId) (is : List InterfaceId) → IsUsing c m uses i w is → (b : Names L) → unfolded_to naming m n b (ty.Interface w) ≡ unfolded_to naming m n b (ty.Interface i)

  abbrev item-in : ℕ → Names L → Name × ItemKind → Name × TypeTree L
  item-in n b e = (e.0, item_tree (unfolded_to naming m n b) (naming.is_fresh b exported e) e.1)

  one-item : (n : ℕ) → Same n → (b : Names L) (is : List InterfaceId) (x y : Name × ItemKind)
      → ((k l : InterfaceId) → x.1 ≡ kind.Instance k → y.1 ≡ kind.Instance l → IsUsing c m uses k l is) → is_instance x.1 ≡ true → y.0 ≡ x.0 → is_instance y.1 ≡ true → item-in n b y ≡ item-in n b x
  one-item n rest b is x y inner x-is name y-is =
      let k = the-instance x.1 x-is in
      let l = the-instance y.1 y-is in
      let left : item-in n b y ≡ (x.0, instance_item (unfolded_to naming m n b (ty.Interface l.0))) = λ i. (name i, item_tree (unfolded_to naming m n b) (naming.is_fresh b exported y) (l.1 i)) in
      let right : item-in n b x ≡ (x.0, instance_item (unfolded_to naming m n b (ty.Interface k.0))) = λ i. (x.0, item_tree (unfolded_to naming m n b) (naming.is_fresh b exported x) (k.1 i)) in
      left ∙ (ap (λ t. (x.0, instance_item t)) (rest k.0 l.0 is (inner k.0 l.0 k.1 l.1) b) ∙ sym right)

  next-same : (n : ℕ) → Same n → Same (suc n)
  next-same n rest i w is (with _ _ _ it exports at there own counted others instances inner) b =
      let using : Interface = record { id = it.id; uses = uses is exports; exports = exports } in
      let t = interface_tree naming m (unfolded_to naming m n) b in
      let b-in = naming.in_instance it b in
      let items : map (item-in n b-in) exports ≡ map (item-in n b-in) it.exports = maps-same (item-in n b-in) it.exports exports counted (λ j x y x-at y-at. elim (cases_Bool (is_instance x.1)) [
        | inl is-instance ↦
            let two = instances j x y x-at y-at is-instance in
            one-item n rest b-in (instances_of (listed_by c is x.0)) x y (λ k l k-is l-is.
            inner j x.0 k l (x-at ∙ ap (λ z. Some (x.0, z)) k-is) (y-at ∙ (λ z. Some (two.0 z, l-is z)))) is-instance two.0 two.1
        | inr plain ↦ ap (item-in n b-in) (others j x y x-at y-at plain)
      ]) in
      held-is t (slice_get m.interfaces w.0) using there
      ∙ (ap (λ names. instance (listed_tree naming m (unfolded_to naming m n) names exported exports)) (inside it using own b)
      ∙ (ap (λ es. instance (items_under es)) items
      ∙ sym (held-is t (slice_get m.interfaces i.0) it at)))

  pub trees-same : (n : ℕ) → Same n
  trees-same zero i w is h b = refl
  trees-same (suc n) i w is h b = next-same n (trees-same n) i w is h b

module _ (c m : Collection) (uses : List InterfaceId → List (Name × ItemKind) → List (Name × UsedType)) (i w : InterfaceId) (is : List InterfaceId) (h : IsUsing c m uses i w is) where
  pub placed-same : (b : Bindings) → held_tree m b (ty.Interface w) ≡ held_tree m b (ty.Interface i)
  unfolding held_tree
  placed-same b = trees-same (by_place m) c m uses inside-same (suc (size m)) i w is h b where
    inside-same : (it using : Interface) → ((r : ResourceId) → own_name m using.uses using.exports r ≡ own_name m it.uses it.exports r) → (b : Bindings) → inside_interface m using b ≡ inside_interface m it b
    inside-same it using own b = fun_ext (λ r. ap (λ o. option_case o (option_case (b r) None (λ l. Some (further_out l))) (λ n. Some (record { out = 0; side = exported; path = named n ∷ [] }))) (own r))

  pub named-same : type_tree m (ty.Interface w) ≡ type_tree m (ty.Interface i)
  unfolding type_tree
  named-same = trees-same by_name c m uses (λ it using own b. refl) (suc (size m)) i w is h (resource_names m)
