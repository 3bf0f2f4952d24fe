-- An instance that is a subtype of another lists a type where that one does.
use Rattle.std.proofs.Common.{◌≡◌, ◌≢◌, Bool, true, false, Option, Some, None, refl, sym, ap, ◌∙◌, subst}
use Rattle.std.proofs.lemmas.Bool.{false≢true}
use Rattle.wac_types_shapes.specs.primitives.Name.{Name, find_name}
use Rattle.wac_types_shapes.specs.declared.shapes.component.Interface.{Interface}
use Rattle.wac_types_shapes.specs.declared.shapes.component.InterfaceId.{InterfaceId}
use Rattle.wac_types_shapes.specs.declared.shapes.component.ItemKind.{ItemKind}
use Rattle.wac_types_shapes.specs.declared.shapes.component.ItemKind.TheVariants as kind
use Rattle.wac_types_shapes.specs.declared.shapes.component.«Type».{«Type» as AnyType}
use Rattle.wac_types_shapes.specs.declared.shapes.component.«Type».TheVariants as ty
use Rattle.wac_types_collection.specs.collection.Collection.{Collection, item_at}
use Rattle.wac_types_shapes.specs.primitives.Tree.{TypeTree, absent, instance, instance_item, type_equal}
use Rattle.wac_types_collection.specs.subtyping.Subtype.{IsPlain, Sub, by_name, kind_tree, listed_in, type_tree}
use Rattle.wac_types_collection.specs.subtyping.TreeLaws.{IsDeepEnough}
use Rattle.wac_merge_trees.proofs.lemmas.trees.MergedSubtypesTrees.{interface_of, listed_none, listed_some}

-- what a subtype says of items that are instances, and of instances
abbrev InItems : TypeTree Name → TypeTree Name → Type 0
InItems (instance_item s) (instance_item t) = Sub s t
InItems _ _ = Unit {0}

abbrev InInstances : Name → TypeTree Name → TypeTree Name → Type 0
InInstances n (instance xs) (instance ys) = ys n ≢ absent → Sub (xs n) (ys n)
InInstances n _ _ = Unit {0}

plain-items : (a : TypeTree Name) → IsPlain a → InItems a a
plain-items (instance_item t) p = absurd p
plain-items t p = tt

in-items : (a b : TypeTree Name) → Sub a b → InItems a b
in-items a b (Sub.same _ p) = plain-items a p
in-items a b (Sub.instances _ _ f) = tt
in-items a b (Sub.components _ _ _ _ f g) = tt
in-items a b (Sub.modules _ _ _ _ f g) = tt
in-items a b (Sub.type_items _ _ s t) = tt
in-items a b (Sub.instance_items _ _ s) = s
in-items a b (Sub.component_items _ _ s) = tt
in-items a b (Sub.module_items _ _ s) = tt

plain-instances : (n : Name) (a : TypeTree Name) → IsPlain a → InInstances n a a
plain-instances n (instance es) p = absurd p
plain-instances n t p = tt

in-instances : (n : Name) (a b : TypeTree Name) → Sub a b → InInstances n a b
in-instances n a b (Sub.same _ p) = plain-instances n a p
in-instances n a b (Sub.instances _ _ f) = f n
in-instances n a b (Sub.components _ _ _ _ f g) = tt
in-instances n a b (Sub.modules _ _ _ _ f g) = tt
in-instances n a b (Sub.type_items _ _ s t) = tt
in-instances n a b (Sub.instance_items _ _ s) = tt
in-instances n a b (Sub.component_items _ _ s) = tt
in-instances n a b (Sub.module_items _ _ s) = tt

abbrev is_type : TypeTree Name → Bool
is_type (type_equal t) = true
is_type t = false

sub-type : (a b : TypeTree Name) → Sub a b → is_type b ≡ true → is_type a ≡ true
sub-type a b (Sub.same _ q) h = h
sub-type a b (Sub.instances _ _ f) h = absurd (false≢true h)
sub-type a b (Sub.components _ _ _ _ f g) h = absurd (false≢true h)
sub-type a b (Sub.modules _ _ _ _ f g) h = absurd (false≢true h)
sub-type a b (Sub.type_items _ _ s t) h = refl
sub-type a b (Sub.instance_items _ _ s) h = absurd (false≢true h)
sub-type a b (Sub.component_items _ _ s) h = absurd (false≢true h)
sub-type a b (Sub.module_items _ _ s) h = absurd (false≢true h)

type-by-tree : (m : Collection) (k : ItemKind) → is_type (kind_tree m k) ≡ true → (s : AnyType) × (k ≡ kind.TypeItem s)
type-by-tree m (kind.TypeItem t) h = (t, refl)
type-by-tree m (kind.Instance i) h = absurd (false≢true h)
type-by-tree m (kind.Func f) h = absurd (false≢true h)
type-by-tree m (kind.Component w) h = absurd (false≢true h)
type-by-tree m (kind.Module x) h = absurd (false≢true h)
type-by-tree m (kind.Value v) h = absurd (false≢true h)

module _ (c m : Collection) (deep : IsDeepEnough by_name c) (merged_deep : IsDeepEnough by_name m) (x j : InterfaceId) (own it : Interface) (own-at : item_at c.interfaces x.0 ≡ Some own) (it-at : item_at m.interfaces j.0 ≡ Some it) where
  pub listed-type : (n : Name) (t : AnyType) → Sub (kind_tree m (kind.Instance j)) (kind_tree c (kind.Instance x)) → find_name own.exports n ≡ Some (kind.TypeItem t) → (s : AnyType) × (find_name it.exports n ≡ Some (kind.TypeItem s))
  listed-type n t sub found =
      let inner : Sub (type_tree m (ty.Interface j)) (type_tree c (ty.Interface x)) = in-items (kind_tree m (kind.Instance j)) (kind_tree c (kind.Instance x)) sub in
      let left : Sub (instance (listed_in m it.exports)) (type_tree c (ty.Interface x)) = subst (λ z. Sub z (type_tree c (ty.Interface x))) (interface_of m merged_deep j it it-at) inner in
      let both : Sub (instance (listed_in m it.exports)) (instance (listed_in c own.exports)) = subst (λ z. Sub (instance (listed_in m it.exports)) z) (interface_of c deep x own own-at) left in
      let right : listed_in c own.exports n ≡ kind_tree c (kind.TypeItem t) = listed_some c own.exports n (kind.TypeItem t) found in
      let is-there : listed_in c own.exports n ≢ absent = λ none. false≢true (ap is_type (sym none ∙ right)) in
      let at : Sub (listed_in m it.exports n) (listed_in c own.exports n) = in-instances n (instance (listed_in m it.exports)) (instance (listed_in c own.exports)) both is-there in
      let is : is_type (listed_in m it.exports n) ≡ true = sub-type (listed_in m it.exports n) (listed_in c own.exports n) at (ap is_type right) in
      by (find_name it.exports n) refl is where
        by : (o : Option ItemKind) → find_name it.exports n ≡ o → is_type (listed_in m it.exports n) ≡ true → (s : AnyType) × (find_name it.exports n ≡ Some (kind.TypeItem s))
        by None at is = absurd (false≢true (sym (ap is_type (listed_none m it.exports n at)) ∙ is))
        by (Some k) at is =
            let w = type-by-tree m k (sym (ap is_type (listed_some m it.exports n k at)) ∙ is) in
            (w.0, at ∙ ap Some w.1)
