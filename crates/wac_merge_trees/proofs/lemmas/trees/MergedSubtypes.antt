-- Each written interface is a subtype of each part's interface.
use Rattle.std.proofs.Common.{◌≡◌, ◌≢◌, ℕ, zero, suc, ◌+◌, ◌<◌, ◌≤◌, Bool, true, false, List, [], ◌∷◌, inl, inr, length, map, Option, Some, None, slice_get, is_some, refl, sym, ap, ◌∙◌, subst, arith}
use Rattle.std.proofs.Math.Path.{fun_ext}
use Rattle.std.proofs.lemmas.Option.{slice_get_within}
use Rattle.std.specs.List.{AllZip, Contains}
use Rattle.std.specs.Option.{MatchOption}
use Rattle.wac_types_shapes.specs.primitives.Name.{Name, find_name, option_case}
use Rattle.wac_types_shapes.specs.primitives.Tree.{absent, instance, instance_item, resource, type_equal}
use Rattle.wac_types_collection.specs.collection.Collection.{Collection, IsWellFormed, holds_type, interface_exports, item_at, item_of}
use Rattle.wac_types_shapes.specs.shapes.Kinds.{kind_type}
use Rattle.wac_types_collection.specs.collection.Held.{Names, item_tree, items_under, unfolded}
use Rattle.wac_types_collection.specs.collection.Uses.{IsSound, is_named_right}
use Rattle.wac_types_shapes.specs.declared.shapes.component.Interface.{Interface}
use Rattle.wac_types_shapes.specs.declared.shapes.component.InterfaceId.{InterfaceId}
use Rattle.wac_types_shapes.specs.declared.shapes.component.ItemKind.{ItemKind}
use Rattle.wac_types_shapes.specs.declared.shapes.component.ItemKind.TheVariants as kind
use Rattle.wac_types_shapes.specs.declared.shapes.component.ResourceId.{ResourceId}
use Rattle.wac_types_shapes.specs.declared.shapes.component.«Type».TheVariants as ty
use Rattle.wac_types_collection.specs.subtyping.Called.{Called, by_binding}
use Rattle.wac_types_collection.specs.subtyping.Subtype.{listed_in}
use Rattle.wac_types_collection.specs.subtyping.Subtype.{Sub, by_name, kind_tree, type_tree}
use Rattle.wac_types_collection.specs.subtyping.TreeLaws.{IsDeepEnough}
use Rattle.wac_types_collection.proofs.lemmas.subtyping.Relation.{sub_refl}
use Rattle.wac_merge_classes.specs.entries.Agreement.{Agree}
use Rattle.wac_merge_classes.specs.terms.Became.{AreFresh, became, own_in}
use Rattle.wac_merge_classes.specs.entries.Bindings.{ClassBindings}
use Rattle.wac_merge_classes.specs.entries.Places.{own_resource}
use Rattle.wac_merge_classes.specs.terms.Renaming.{AreEnds}
use Rattle.wac_types_collection.specs.private.subtyping.Extended.{IsExtended}
use Rattle.wac_merge_classes.specs.terms.Unions.{AreUnions, IsExport, IsInner, instances_in, is_own_of, listed_under, part, part_lists, united}
use Rattle.wac_merge_classes.specs.terms.Writing.{AreWritten, IsWrittenAs, IsWrittenExport, written_at}
use Rattle.wac_merge_classes.specs.declared.terms.fresh.Fresh.{Fresh}
use Rattle.wac_merge_classes.specs.declared.terms.parts.Export.{Export}
use Rattle.wac_merge_classes.specs.declared.terms.parts.Part.{Part}
use Rattle.wac_merge_classes.specs.declared.terms.parts.Union.{Union}
use Rattle.wac_merge_classes.proofs.lemmas.terms.Alike.{agree_at}
use Rattle.wac_merge_classes.proofs.lemmas.terms.Found.{find_at, no_some, one_some}
use Rattle.wac_merge_classes.proofs.lemmas.entries.Lists.{some-at}
use Rattle.wac_merge_trees.proofs.lemmas.trees.MergedSubtypesKinds.{IsInstance, agree_equal, agree_instance, agree_under, instance_or_not, new_tree, own_tree, sound_named, type_no_instance, written_instance, written_tree}
use Rattle.wac_merge_classes.proofs.lemmas.terms.Alike.{agree_itself}
use Rattle.wac_merge_trees.proofs.lemmas.trees.MergedSubtypesLists.{IsIn, all_in, all_not_not, any_in, contains_in, in_contains, instances_from, instances_to, listed_from, listed_one, listed_to, only_in, zip_found, zip_left, zip_missing, zip_one, zip_right}
use Rattle.wac_merge_trees.proofs.lemmas.trees.MergedSubtypesLists as lists
use Rattle.wac_merge_trees.proofs.lemmas.trees.MergedSubtypesTrees.{found_held, instance_of, interface_of, listed_none, listed_some, sub_to}
use Rattle.wac_merge_classes.proofs.lemmas.entries.Places.{exports_held}
use Rattle.wac_merge_trees.proofs.lemmas.trees.MergedSubtypesNames.{KeepsNames, instance_keeps, same_by_name}
use Rattle.wac_merge_trees.proofs.lemmas.trees.UnionTrees.{part_called}

-- unions that were written into a collection, and what resources are called in their parts
pub record AreSubtyped (c m : Collection) (roots : List (List InterfaceId)) (us : List Union) (ps : List Part) (bs : ClassBindings) (f : Fresh) (ids : List (Option Name)) (ws : List InterfaceId) (called : ℕ → Names Called) : Type 0 where
  pub unions : AreUnions c roots us ps
  pub fresh : AreFresh c us bs f m
  pub written : AreWritten c m us ps bs f ids ws
  pub extended : IsExtended c m
  pub ordered : IsWellFormed c
  pub merged : IsWellFormed m
  pub sound : IsSound c
  pub named_deep : IsDeepEnough by_name c
  pub merged_deep : IsDeepEnough by_name m
  pub bound_deep : IsDeepEnough (by_binding c) c
  pub ends : (p : ℕ) → p < length ps → AreEnds c m (became c ps bs f (Some p))
  -- a part inside another: what its interface binds, else what is around
  pub inside : (p o : ℕ) (x : Part) (it : Interface) → slice_get ps p ≡ Some x → x.outer ≡ Some o → item_at c.interfaces x.interface.0 ≡ Some it → called p ≡ (by_binding c).in_instance it (called o)
  -- in the outermost parts each resource is called something, with its own name
  pub outermost : (p : ℕ) (x : Part) → slice_get ps p ≡ Some x → x.outer ≡ None → KeepsNames c (called p)

no_more : {A : Type 0} (a b : A) (xs : List A) → a ∷ xs ≡ b ∷ [] → xs ≡ []
no_more a b [] e = refl
no_more a b (x ∷ xs) e = cc e

module _ (c m : Collection) (roots : List (List InterfaceId)) (us : List Union) (ps : List Part) (bs : ClassBindings) (f : Fresh) (ids : List (Option Name)) (ws : List InterfaceId) (called : ℕ → Names Called)
    (all : AreSubtyped c m roots us ps bs f ids ws called) where
  -- ---- parts

  interface_there : (p : ℕ) (x : Part) → slice_get ps p ≡ Some x → (it : Interface) × (item_at c.interfaces x.interface.0 ≡ Some it)
  interface_there p x at = let h = some-at c.interfaces x.interface.0 (all.unions.held p x at) in (h.0.item, ap item_of h.1)

  lists_are : (p : ℕ) (x : Part) (it : Interface) → slice_get ps p ≡ Some x → item_at c.interfaces x.interface.0 ≡ Some it → part_lists c ps p ≡ it.exports
  lists_are p x it at item = ap (λ o. option_case o [] (λ (z : Part). interface_exports c z.interface)) at ∙ ap (λ o. option_case o [] (λ (i : Interface). i.exports)) item

  keeps_to : (d p : ℕ) (x : Part) → p < d → slice_get ps p ≡ Some x → KeepsNames c (called p)
  keeps_to zero p x low at = absurd (omega (arith, low))
  keeps_to (suc d) p x low at = by (λ o y less there. keeps_to d o y less there) x.outer refl where
    by : ((o : ℕ) (y : Part) → o < d → slice_get ps o ≡ Some y → KeepsNames c (called o)) → (outer : Option ℕ) → x.outer ≡ outer → KeepsNames c (called p)
    by before None is = all.outermost p x at is
    by before (Some o) is =
        let earlier : o < p = all.unions.around p o x at is in
        let there : p < length ps = slice_get_within ps p x at in
        let outer = some-at ps o (omega (arith, earlier, there)) in
        let it = interface_there p x at in
        subst (λ z. KeepsNames c z) (sym (all.inside p o x it.0 at is it.1)) (instance_keeps c it.0 (called o) (before o outer.0 (omega (arith, low, earlier)) outer.1))

  -- in each part resources keep their names
  pub keeps : (p : ℕ) (x : Part) → slice_get ps p ≡ Some x → KeepsNames c (called p)
  keeps p x at = keeps_to (suc p) p x (omega arith) at

  item_held : (p : ℕ) (x : Part) (n : Name) (k : ItemKind) → slice_get ps p ≡ Some x → find_name (part_lists c ps p) n ≡ Some k → holds_type c (kind_type k) ≡ true
  item_held p x n k at found =
      let it = interface_there p x at in
      found_held c it.0.exports n k (exports_held c all.ordered x.interface it.0 it.1) (ap (λ z. find_name z n) (sym (lists_are p x it.0 at it.1)) ∙ found)

  -- what two parts list under a name, where they agree
  same_kinds : (p q : ℕ) (x y : Part) (n : Name) (k l : ItemKind) → slice_get ps p ≡ Some x → slice_get ps q ≡ Some y → find_name (part_lists c ps p) n ≡ Some k → find_name (part_lists c ps q) n ≡ Some l → (IsInstance k → ⊥)
      → Agree (part_called c ps called p) (part_called c ps called q) → kind_tree c k ≡ kind_tree c l
  same_kinds p q x y n k l at there found also never agree =
      same_by_name c all.ordered (called p) (called q) k l (keeps p x at) (keeps q y there) (item_held p x n k at found) (item_held q y n l there also)
      (agree_equal (unfolded (by_binding c) c (called p)) (unfolded (by_binding c) c (called q)) k l never
      (agree_under (unfolded (by_binding c) c (called p)) (unfolded (by_binding c) c (called q)) (part_lists c ps p) (part_lists c ps q) n k l found also agree))

  -- an own resource has the tree of its name
  own_listed : (n : Name) (p : ℕ) (k : ItemKind) (x : Part) → slice_get ps p ≡ Some x → find_name (part_lists c ps p) n ≡ Some k → is_own_of c ps n (p, k) ≡ true → kind_tree c k ≡ type_equal (resource n)
  own_listed n p k x at found own =
      let it = interface_there p x at in
      let read : is_own_of c ps n (p, k) ≡ is_some (own_resource c it.0.uses (n, k)) =
      ap (λ o. option_case o false (λ (z : Part). option_case (item_at c.interfaces z.interface.0) false (λ (i : Interface). is_some (own_resource c i.uses (n, k))))) at
      ∙ ap (λ o. option_case o false (λ (i : Interface). is_some (own_resource c i.uses (n, k)))) it.1 in
      let stands = find_at it.0.exports n k (ap (λ z. find_name z n) (sym (lists_are p x it.0 at it.1)) ∙ found) in
      let right = all_in (λ e. is_named_right c it.0.uses e) it.0.exports stands.0 (n, k) (sound_named c all.sound x.interface it.0 it.1) stands.1 in
      own_tree c it.0.uses n k (sym read ∙ own) right

  -- what lies in another part is that part's instance
  part_is : (p o : ℕ) (i : InterfaceId) (v : ℕ) → slice_get ps p ≡ Some (part i (Some o) v) → part_called c ps called p ≡ unfolded (by_binding c) c (called o) (ty.Interface i)
  part_is p o i v at =
      let h = some-at c.interfaces i.0 (all.unions.held p (part i (Some o) v) at) in
      let item : item_at c.interfaces i.0 ≡ Some h.0.item = ap item_of h.1 in
      let names : called p ≡ (by_binding c).in_instance h.0.item (called o) = all.inside p o (part i (Some o) v) h.0.item at refl item in
      let listed : part_lists c ps p ≡ h.0.item.exports = lists_are p (part i (Some o) v) h.0.item at item in
      (λ d. instance (items_under (map (λ e. (e.0, item_tree (unfolded (by_binding c) c (names d)) false e.1)) (listed d))))
      ∙ sym (instance_of c all.bound_deep (called o) i h.0.item item)

  -- ---- what is shown of each union

  abbrev AllAgree : List ℕ → Type 0
  AllAgree parts = (p q : ℕ) → IsIn parts p → IsIn parts q → Agree (part_called c ps called p) (part_called c ps called q)

  -- a subtype of the interface of a part, and equal to that of one alone
  abbrev Outcome : List ℕ → InterfaceId → ℕ → InterfaceId → Type 0
  Outcome parts w p i = Sub (type_tree m (ty.Interface w)) (type_tree c (ty.Interface i)) × (parts ≡ p ∷ [] → type_tree m (ty.Interface w) ≡ type_tree c (ty.Interface i))

  abbrev Claim : ℕ → Type 0
  Claim u = (x : Union) (w : InterfaceId) → slice_get us u ≡ Some x → slice_get ws u ≡ Some w → AllAgree x.parts.items → (p : ℕ) (y : Part) → IsIn x.parts.items p → slice_get ps p ≡ Some y
      → Outcome x.parts.items w p y.interface

  one_agrees : (qs : List ℕ) (q : ℕ) → qs ≡ q ∷ [] → AllAgree qs
  one_agrees qs q only a b in_a in_b =
      let first : q ≡ a = only_in q a (in_a.0, ap (λ z. slice_get z in_a.0) (sym only) ∙ in_a.1) in
      let second : q ≡ b = only_in q b (in_b.0, ap (λ z. slice_get z in_b.0) (sym only) ∙ in_b.1) in
      subst (λ z. Agree (part_called c ps called a) (part_called c ps called z)) (sym first ∙ second) (agree_itself (part_called c ps called a))

  -- ---- what stands under a name in a union

  module _ (u : ℕ) (x : Union) (at : slice_get us u ≡ Some x) (agree : AllAgree x.parts.items) (later : (v : ℕ) → u < v → Claim v) (n : Name) where
    abbrev Item : ℕ → ItemKind → ItemKind → Type 0
    Item p k l = Sub (kind_tree m l) (kind_tree c k) × (x.parts.items ≡ p ∷ [] → kind_tree m l ≡ kind_tree c k)

    abbrev IsThis : Export → Type 0
    IsThis e = IsExport c us ps u n (listed_under c ps x.parts.items n) e

    part_there : (p : ℕ) → IsIn x.parts.items p → (y : Part) × (slice_get ps p ≡ Some y)
    part_there p there = let h = all.unions.placed u p x at (in_contains x.parts.items p there) in (h.0, h.1)

    item_equal : (p : ℕ) (k l : ItemKind) → kind_tree m l ≡ kind_tree c k → Item p k l
    item_equal p k l e = (sub_to (kind_tree m l) (kind_tree c k) (kind_tree c k) (kind_tree c k) e refl (sub_refl (kind_tree c k)), λ alone. e)

    -- the union's own resource
    item_own : (e : Export) → IsThis e → e.is_own ≡ true → (q : ResourceId) → own_in f u n ≡ Some q → (p : ℕ) (k l : ItemKind) → IsIn x.parts.items p → find_name (part_lists c ps p) n ≡ Some k → l ≡ kind.TypeItem (ty.Resource q) → Item p k l
    item_own e this is q new p k l there found same =
        let own = any_in (is_own_of c ps n) (listed_under c ps x.parts.items n) (sym this.own ∙ is) in
        let from = listed_from c ps x.parts.items n own.1 own.0 own.2 in
        let y = part_there own.1.0 (from.0, from.1) in
        let z = part_there p there in
        let tree : kind_tree c own.1.1 ≡ type_equal (resource n) = own_listed n own.1.0 own.1.1 y.0 y.1 from.2 own.3 in
        let equal : kind_tree c own.1.1 ≡ kind_tree c k =
        same_kinds own.1.0 p y.0 z.0 n own.1.1 k y.1 z.1 from.2 found (type_no_instance c own.1.1 (resource n) tree) (agree own.1.0 p (from.0, from.1) there) in
        item_equal p k l (ap (kind_tree m) same ∙ new_tree c m q n (all.fresh.own u n q new) ∙ sym tree ∙ equal)

    instance_from : (is : List (ℕ × ItemKind)) → listed_under c ps x.parts.items n ≡ is → (e : ℕ × InterfaceId) (j : ℕ) → slice_get (instances_in is) j ≡ Some e
        → IsIn x.parts.items e.0 × (find_name (part_lists c ps e.0) n ≡ Some (kind.Instance e.1))
    instance_from is same e j there =
        let h = instances_from is e j there in
        let k = listed_from c ps x.parts.items n (e.0, kind.Instance e.1) h.0 (ap (λ z. slice_get z h.0) same ∙ h.1) in
        ((k.0, k.1), k.2)

    -- the parts of the union of the instances agree
    inner_agree : (v : ℕ) (is : List (ℕ × ItemKind)) (qs : List ℕ) → listed_under c ps x.parts.items n ≡ is → AllZip (λ (i : ℕ × InterfaceId) r. slice_get ps r ≡ Some (part i.1 (Some i.0) v)) (instances_in is) qs → AllAgree qs
    inner_agree v is qs same parts p q in_p in_q =
        let a = zip_right (λ (i : ℕ × InterfaceId) r. slice_get ps r ≡ Some (part i.1 (Some i.0) v)) (instances_in is) qs parts in_p.0 p in_p.1 in
        let b = zip_right (λ (i : ℕ × InterfaceId) r. slice_get ps r ≡ Some (part i.1 (Some i.0) v)) (instances_in is) qs parts in_q.0 q in_q.1 in
        let first = instance_from is same a.0 in_p.0 a.1 in
        let second = instance_from is same b.0 in_q.0 b.1 in
        agree_at (part_called c ps called p) (part_called c ps called q) (unfolded (by_binding c) c (called a.0.0) (ty.Interface a.0.1)) (unfolded (by_binding c) c (called b.0.0) (ty.Interface b.0.1))
        (part_is p a.0.0 a.0.1 v a.2) (part_is q b.0.0 b.0.1 v b.2)
        (agree_under (unfolded (by_binding c) c (called a.0.0)) (unfolded (by_binding c) c (called b.0.0)) (part_lists c ps a.0.0) (part_lists c ps b.0.0) n (kind.Instance a.0.1) (kind.Instance b.0.1) first.1 second.1
        (agree a.0.0 b.0.0 first.0 second.0))

    -- the union of the instances has one part where this has
    inner_alone : (v : ℕ) (o : ℕ) (i : InterfaceId) (more : List (ℕ × ItemKind)) (qs : List ℕ) → listed_under c ps x.parts.items n ≡ (o, kind.Instance i) ∷ more
        → AllZip (λ (i : ℕ × InterfaceId) r. slice_get ps r ≡ Some (part i.1 (Some i.0) v)) ((o, i) ∷ instances_in more) qs
        → (q : ℕ) → IsIn qs q → (p : ℕ) (k : ItemKind) → find_name (part_lists c ps p) n ≡ Some k → x.parts.items ≡ p ∷ [] → qs ≡ q ∷ []
    inner_alone v o i more qs same parts q there p k found alone =
        let one : listed_under c ps x.parts.items n ≡ (p, k) ∷ [] = ap (λ z. listed_under c ps z n) alone ∙ listed_one c ps p n k found in
        let none : more ≡ [] = no_more (o, kind.Instance i) (p, k) more (sym same ∙ one) in
        let z = zip_one (λ (i : ℕ × InterfaceId) r. slice_get ps r ≡ Some (part i.1 (Some i.0) v)) (o, i) qs
        (subst (λ es. AllZip (λ (i : ℕ × InterfaceId) r. slice_get ps r ≡ Some (part i.1 (Some i.0) v)) ((o, i) ∷ instances_in es) qs) none parts) in
        z.1 ∙ ap (λ r. r ∷ []) (only_in z.0 q (there.0, ap (λ y. slice_get y there.0) (sym z.1) ∙ there.1))

    both_instances : (p : ℕ) (k l : ItemKind) (i j : InterfaceId) → k ≡ kind.Instance i → l ≡ kind.Instance j → Sub (type_tree m (ty.Interface j)) (type_tree c (ty.Interface i))
        → (x.parts.items ≡ p ∷ [] → type_tree m (ty.Interface j) ≡ type_tree c (ty.Interface i)) → Item p k l
    both_instances p k l i j first second sub equal =
        let above : kind_tree m l ≡ instance_item (type_tree m (ty.Interface j)) = ap (kind_tree m) second in
        let below : kind_tree c k ≡ instance_item (type_tree c (ty.Interface i)) = ap (kind_tree c) first in (
          sub_to (kind_tree m l) (kind_tree c k) (instance_item (type_tree m (ty.Interface j))) (instance_item (type_tree c (ty.Interface i))) above below (Sub.instance_items (type_tree m (ty.Interface j)) (type_tree c (ty.Interface i)) sub),
          λ alone. above ∙ ap instance_item (equal alone) ∙ sym below,
        )

    -- what stands in the union of the instances for one of them
    inner_item : (o : ℕ) (i : InterfaceId) (more : List (ℕ × ItemKind)) → listed_under c ps x.parts.items n ≡ (o, kind.Instance i) ∷ more → (v : ℕ) (inner : Union) → u < v → slice_get us v ≡ Some inner
        → AllZip (λ (i : ℕ × InterfaceId) r. slice_get ps r ≡ Some (part i.1 (Some i.0) v)) ((o, i) ∷ instances_in more) inner.parts.items → (w : InterfaceId) → slice_get ws v ≡ Some w
        → (p : ℕ) (k : ItemKind) (j : InterfaceId) → IsIn x.parts.items p → find_name (part_lists c ps p) n ≡ Some k → k ≡ kind.Instance j → Outcome x.parts.items w p j
    inner_item o i more same v inner behind at_v parts w at_w p k j there found is =
        let among = listed_to c ps x.parts.items n p (kind.Instance j) there.0 there.1 (found ∙ ap Some is) in
        let position = instances_to ((o, kind.Instance i) ∷ more) p j among.0 (ap (λ z. slice_get z among.0) (sym same) ∙ among.1) in
        let lies = zip_left (λ (i : ℕ × InterfaceId) r. slice_get ps r ≡ Some (part i.1 (Some i.0) v)) ((o, i) ∷ instances_in more) inner.parts.items parts position.0 (p, j) position.1 in
        let claim = later v behind inner w at_v at_w (inner_agree v ((o, kind.Instance i) ∷ more) inner.parts.items same parts) lies.0 (part j (Some p) v) (position.0, lies.1) lies.2 in
        (claim.0, λ alone. claim.1 (inner_alone v o i more inner.parts.items same parts lies.0 (position.0, lies.1) p k found alone))

    written_inner : (o : Option ℕ) (v : ℕ) (j : InterfaceId) → o ≡ Some v → written_at ws o ≡ Some j → slice_get ws v ≡ Some j
    written_inner o v j is turns = ap (written_at ws) (sym is) ∙ turns

    instance_too : (o p : ℕ) (i : InterfaceId) (k : ItemKind) → IsIn x.parts.items o → IsIn x.parts.items p → find_name (part_lists c ps o) n ≡ Some (kind.Instance i) → find_name (part_lists c ps p) n ≡ Some k
        → (j : InterfaceId) × (k ≡ kind.Instance j)
    instance_too o p i k in_o in_p first found =
        agree_instance (unfolded (by_binding c) c (called o)) (unfolded (by_binding c) c (called p)) i k
        (agree_under (unfolded (by_binding c) c (called o)) (unfolded (by_binding c) c (called p)) (part_lists c ps o) (part_lists c ps p) n (kind.Instance i) k first found (agree o p in_o in_p))

    item_instance : (e : Export) → IsThis e → (i : InterfaceId) → e.kind ≡ kind.Instance i → (p : ℕ) (k l : ItemKind) → IsIn x.parts.items p → find_name (part_lists c ps p) n ≡ Some k
        → IsWrittenAs c m (became c ps bs f (Some e.part)) (written_at ws e.inner) n (kind.Instance i) l → Item p k l
    item_instance e this i is p k l there found turns =
        let same : listed_under c ps x.parts.items n ≡ (e.part, kind.Instance i) ∷ this.more = this.first ∙ ap (λ z. (e.part, z) ∷ this.more) is in
        let inner : IsInner us ps u ((e.part, i) ∷ instances_in this.more) e.inner = subst (λ z. IsInner us ps u (united z) e.inner) same this.inner in
        let first = listed_from c ps x.parts.items n (e.part, kind.Instance i) zero (ap (λ z. slice_get z zero) same) in
        let one = instance_too e.part p i k (first.0, first.1) there first.2 found in
        let turned = written_instance c m (became c ps bs f (Some e.part)) (written_at ws e.inner) n i l turns in
        let claim = inner_item e.part i this.more same inner.0 inner.1 inner.3 inner.4 inner.5 turned.0 (written_inner e.inner inner.0 turned.0 inner.2 turned.2) p k one.0 there found one.1 in
        both_instances p k l one.0 turned.0 one.1 turned.1 claim.0 claim.1

    -- a type item of an interface: its union has that one part
    item_interface : (e : Export) → IsThis e → (i j : InterfaceId) → e.kind ≡ kind.TypeItem (ty.Interface i) → written_at ws e.inner ≡ Some j → type_tree m (ty.Interface j) ≡ type_tree c (ty.Interface i)
    item_interface e this i j is becomes =
        let same : listed_under c ps x.parts.items n ≡ (e.part, kind.TypeItem (ty.Interface i)) ∷ this.more = this.first ∙ ap (λ z. (e.part, z) ∷ this.more) is in
        let inner : IsInner us ps u ((e.part, i) ∷ []) e.inner = subst (λ z. IsInner us ps u (united z) e.inner) same this.inner in
        let z = zip_one (λ (i : ℕ × InterfaceId) r. slice_get ps r ≡ Some (part i.1 (Some i.0) inner.0)) (e.part, i) inner.1.parts.items inner.5 in
        let there : IsIn inner.1.parts.items z.0 = (zero, ap (λ y. slice_get y zero) z.1) in
        (later inner.0 inner.3 inner.1 j inner.4 (written_inner e.inner inner.0 j inner.2 becomes) (one_agrees inner.1.parts.items z.0 z.1) z.0 (part i (Some e.part) inner.0) there z.2).1 z.1

    -- what the first part lists
    item_first : (e : Export) → IsThis e → (p : ℕ) (k l : ItemKind) → IsIn x.parts.items p → find_name (part_lists c ps p) n ≡ Some k
        → IsWrittenAs c m (became c ps bs f (Some e.part)) (written_at ws e.inner) n e.kind l → Item p k l
    item_first e this p k l there found turns = elim (instance_or_not e.kind) [
      | inl one ↦ item_instance e this one.0 one.1 p k l there found (subst (λ z. IsWrittenAs c m (became c ps bs f (Some e.part)) (written_at ws e.inner) n z l) one.1 turns)
      | inr never ↦
          let first = listed_from c ps x.parts.items n (e.part, e.kind) zero (ap (λ z. slice_get z zero) this.first) in
          let y = part_there e.part (first.0, first.1) in
          let z = part_there p there in
          let tree : kind_tree m l ≡ kind_tree c e.kind =
          written_tree c m all.merged all.extended (became c ps bs f (Some e.part)) (all.ends e.part (slice_get_within ps e.part y.0 y.1)) (written_at ws e.inner) n e.kind l (item_held e.part y.0 n e.kind y.1 first.2)
          (λ i j is becomes. item_interface e this i j is becomes) never turns in
          item_equal p k l (tree ∙ same_kinds e.part p y.0 z.0 n e.kind k y.1 z.1 first.2 found never (agree e.part p (first.0, first.1) there))
    ]

    item_is : (e : Export) → IsThis e → (p : ℕ) (k l : ItemKind) → IsIn x.parts.items p → find_name (part_lists c ps p) n ≡ Some k → IsWrittenExport c m ps bs f ws u (n, e) (n, l) → Item p k l
    item_is e this p k l there found written = by e.is_own refl written where
      by : (b : Bool) → e.is_own ≡ b → IsWrittenExport c m ps bs f ws u (n, record e { is_own = b }) (n, l) → Item p k l
      by true is w = item_own e this is w.1.0 w.1.1 p k l there found w.1.2
      by false is w = item_first e this p k l there found w.1

    -- what a part lists is written
    item_there : (it : Interface) → AllZip (IsWrittenExport c m ps bs f ws u) x.exports it.exports → (p : ℕ) (k : ItemKind) → IsIn x.parts.items p → find_name (part_lists c ps p) n ≡ Some k
        → (l : ItemKind) × (find_name it.exports n ≡ Some l) × Item p k l
    item_there it zip p k there found = by (find_name x.exports n) refl (all.unions.exported u x n at) where
      by : (o : Option Export) → find_name x.exports n ≡ o → MatchOption o (listed_under c ps x.parts.items n ≡ []) (λ e. IsThis e) → (l : ItemKind) × (find_name it.exports n ≡ Some l) × Item p k l
      by None is none = let among = listed_to c ps x.parts.items n p k there.0 there.1 found in absurd (no_some (p, k) (ap (λ z. slice_get z among.0) (sym none) ∙ among.1))
      by (Some e) is this = let z = zip_found c m ps bs f ws u x.exports it.exports zip n e is in (z.0, z.1, item_is e this p k z.0 there found z.2)

    -- what no part lists is not
    item_missing : (it : Interface) → AllZip (IsWrittenExport c m ps bs f ws u) x.exports it.exports → (p : ℕ) → x.parts.items ≡ p ∷ [] → find_name (part_lists c ps p) n ≡ None → find_name it.exports n ≡ None
    item_missing it zip p alone missing = by (find_name x.exports n) refl (all.unions.exported u x n at) where
      by : (o : Option Export) → find_name x.exports n ≡ o → MatchOption o (listed_under c ps x.parts.items n ≡ []) (λ e. IsThis e) → find_name it.exports n ≡ None
      by None is none = zip_missing c m ps bs f ws u x.exports it.exports zip n is
      by (Some e) is this =
          let none : listed_under c ps x.parts.items n ≡ [] = ap (λ z. listed_under c ps z n) alone ∙ lists.listed_none c ps p n missing in
          absurd (no_some (e.part, e.kind) (ap (λ z. slice_get z zero) (sym none ∙ this.first)))

  -- ---- from the last union to the first

  one_union : (u : ℕ) → ((v : ℕ) → u < v → Claim v) → Claim u
  one_union u later x w at at_w agree p y there part_at =
      let to = all.written.written u x at in
      let id : to.0 ≡ w = one_some (slice_get ws u) to.0 w to.2 at_w in
      let item : item_at m.interfaces w.0 ≡ Some to.1 = ap (λ (z : InterfaceId). item_at m.interfaces z.0) (sym id) ∙ to.3 in
      let it = interface_there p y part_at in
      let listed : part_lists c ps p ≡ it.0.exports = lists_are p y it.0 part_at it.1 in
      let first : type_tree m (ty.Interface w) ≡ instance (listed_in m to.1.exports) = interface_of m all.merged_deep w to.1 item in
      let second : type_tree c (ty.Interface y.interface) ≡ instance (listed_in c it.0.exports) = interface_of c all.named_deep y.interface it.0 it.1 in (
        sub_to (type_tree m (ty.Interface w)) (type_tree c (ty.Interface y.interface)) (instance (listed_in m to.1.exports)) (instance (listed_in c it.0.exports)) first second
            (Sub.instances (listed_in m to.1.exports) (listed_in c it.0.exports) (λ n some. sub_at to.1 it.0 to.6 listed n (find_name it.0.exports n) refl some)),
        λ alone. first ∙ ap instance (fun_ext (λ n. equal_at to.1 it.0 to.6 listed alone n (find_name it.0.exports n) refl)) ∙ sym second,
      ) where
        sub_at : (to it : Interface) → AllZip (IsWrittenExport c m ps bs f ws u) x.exports to.exports → part_lists c ps p ≡ it.exports → (n : Name) (o : Option ItemKind) → find_name it.exports n ≡ o → listed_in c it.exports n ≢ absent
            → Sub (listed_in m to.exports n) (listed_in c it.exports n)
        sub_at to it zip listed n None is some = absurd (some (listed_none c it.exports n is))
        sub_at to it zip listed n (Some k) is some =
            let a = item_there u x at agree later n to zip p k there (ap (λ z. find_name z n) listed ∙ is) in
            sub_to (listed_in m to.exports n) (listed_in c it.exports n) (kind_tree m a.0) (kind_tree c k) (listed_some m to.exports n a.0 a.1) (listed_some c it.exports n k is) a.2.0

        equal_at : (to it : Interface) → AllZip (IsWrittenExport c m ps bs f ws u) x.exports to.exports → part_lists c ps p ≡ it.exports → x.parts.items ≡ p ∷ [] → (n : Name) (o : Option ItemKind) → find_name it.exports n ≡ o
            → listed_in m to.exports n ≡ listed_in c it.exports n
        equal_at to it zip listed alone n None is =
            listed_none m to.exports n (item_missing u x at agree later n to zip p alone (ap (λ z. find_name z n) listed ∙ is)) ∙ sym (listed_none c it.exports n is)
        equal_at to it zip listed alone n (Some k) is =
            let a = item_there u x at agree later n to zip p k there (ap (λ z. find_name z n) listed ∙ is) in
            listed_some m to.exports n a.0 a.1 ∙ a.2.1 alone ∙ sym (listed_some c it.exports n k is)

  from_last : (d u : ℕ) → length us ≤ u + d → Claim u
  from_last zero u far = λ x w at at_w agree p y there part_at. let low : u < length us = slice_get_within us u x at in absurd (omega (arith, far, low))
  from_last (suc d) u far = one_union u (λ v less. from_last d v (omega (arith, far, less)))

  -- the written interface of a union of one part has the tree of that part's
  pub merged_equal : (u : ℕ) (x : Union) (w : InterfaceId) → slice_get us u ≡ Some x → slice_get ws u ≡ Some w → (p : ℕ) (y : Part) → x.parts.items ≡ p ∷ [] → slice_get ps p ≡ Some y
      → type_tree m (ty.Interface w) ≡ type_tree c (ty.Interface y.interface)
  merged_equal u x w at at_w p y only part_at =
      (from_last (length us) u (omega arith) x w at at_w (one_agrees x.parts.items p only) p y (zero, ap (λ z. slice_get z zero) only) part_at).1 only

  -- each written interface is a subtype of each part's, where the parts agree
  pub merged_subtype : (u : ℕ) (x : Union) (w : InterfaceId) → slice_get us u ≡ Some x → slice_get ws u ≡ Some w
      → ((p q : ℕ) → Contains x.parts.items p → Contains x.parts.items q → Agree (part_called c ps called p) (part_called c ps called q))
      → (p : ℕ) (y : Part) → Contains x.parts.items p → slice_get ps p ≡ Some y → Sub (type_tree m (ty.Interface w)) (type_tree c (ty.Interface y.interface))
  merged_subtype u x w at at_w agree p y there part_at =
      (from_last (length us) u (omega arith) x w at at_w (λ a b in_a in_b. agree a b (in_contains x.parts.items a in_a) (in_contains x.parts.items b in_b)) p y (contains_in x.parts.items p there) part_at).0

  -- so it is not denied where it is not denied that they agree
  pub merged_subtype_not_not : (u : ℕ) (x : Union) (w : InterfaceId) → slice_get us u ≡ Some x → slice_get ws u ≡ Some w
      → ((p q : ℕ) → Contains x.parts.items p → Contains x.parts.items q → (Agree (part_called c ps called p) (part_called c ps called q) → ⊥) → ⊥)
      → (p : ℕ) (y : Part) → Contains x.parts.items p → slice_get ps p ≡ Some y → (Sub (type_tree m (ty.Interface w)) (type_tree c (ty.Interface y.interface)) → ⊥) → ⊥
  merged_subtype_not_not u x w at at_w agree p y there part_at never =
      all_not_not (λ a. (b : ℕ) → IsIn x.parts.items b → Agree (part_called c ps called a) (part_called c ps called b)) x.parts.items
      (λ a in_a. all_not_not (λ b. Agree (part_called c ps called a) (part_called c ps called b)) x.parts.items (λ b in_b. agree a b (in_contains x.parts.items a in_a) (in_contains x.parts.items b in_b)))
      (λ agreed. never (merged_subtype u x w at at_w (λ a b in_a in_b. agreed a (contains_in x.parts.items a in_a) b (contains_in x.parts.items b in_b)) p y there part_at))
