-- The item that a class is whose members are no instances.
use Rattle.std.proofs.Common.{◌≡◌, ℕ, zero, suc, ◌<◌, nat_lt, Bool, true, false, not, cond, ◌==◌, ◌&&◌, List, [], ◌∷◌, map, length, Option, Some, None, slice_get, refl, sym, ap, ◌∙◌, subst, arith}
use Rattle.std.proofs.lemmas.Bool.{and_parts, eq-eqb, eqb-true, false≢true}
use Rattle.std.specs.List.{AllByRecursion}
use Rattle.wac_names.specs.Reading.{read_track}
use Rattle.wac_types_shapes.specs.primitives.Name.{Name, first_some, option_case}
use Rattle.wac_types_shapes.specs.primitives.Tree.{TypeTree, Tree, Leaf, Place, absent, fresh, imported, instance_item, named, position, type_equal}
use Rattle.wac_types_collection.specs.collection.Collection.{Collection, HasResource, IsWellFormed, holds_type, item_at}
use Rattle.wac_types_shapes.specs.shapes.Kinds.{kind_type}
use Rattle.wac_types_collection.specs.collection.Held.{item_tree, resolved}
use Rattle.wac_types_collection.specs.collection.Bound.{Bindings, binds_here, held_item, held_tree, is_alias, is_here, own_name, same_path}
use Rattle.wac_types_shapes.specs.declared.shapes.component.Interface.{Interface}
use Rattle.wac_types_shapes.specs.declared.shapes.component.InterfaceId.{InterfaceId}
use Rattle.wac_types_shapes.specs.declared.shapes.component.ResourceId.{ResourceId}
use Rattle.wac_types_shapes.specs.declared.shapes.component.«Type».TheVariants as ty
use Rattle.wac_types_shapes.specs.declared.shapes.component.ItemKind.{ItemKind}
use Rattle.wac_types_shapes.specs.declared.shapes.component.ItemKind.TheVariants as kind
use Rattle.wac_types_collection.specs.subtyping.Called.{Called}
use Rattle.wac_merge_classes.specs.entries.Agreement.{compared}
use Rattle.wac_merge_classes.specs.entries.Binding.{binding_class, class_binds, first_binds, kind_binds, root_bindings}
use Rattle.wac_merge_classes.specs.entries.Bindings.{AreBindings, AreHeld, ClassBindings, first_in, path_in}
use Rattle.wac_merge_classes.specs.terms.Became.{AreFresh, became, new_at, or_itself, whole_in}
use Rattle.wac_merge_classes.specs.entries.Classes.{Entry, by_names, class_names, members, same_class, same_track}
use Rattle.wac_merge_classes.specs.terms.NoDisagreement.{HasNoDisagreement}
use Rattle.wac_merge_classes.specs.terms.Merge.{position_in}
use Rattle.wac_merge_classes.specs.entries.Places.{find_resource}
use Rattle.wac_merge_classes.specs.terms.Renaming.{Fits}
use Rattle.wac_types_collection.specs.private.subtyping.Extended.{IsExtended}
use Rattle.wac_merge_classes.specs.terms.Union.{member_tree, merged, union, union_all}
use Rattle.wac_merge_classes.specs.terms.Writing.{IsAliasOf, IsWrittenAs}
use Rattle.wac_merge_classes.specs.declared.terms.fresh.Fresh.{Fresh}
use Rattle.wac_merge_classes.specs.declared.terms.parts.Part.{Part}
use Rattle.wac_merge_classes.specs.declared.terms.parts.Union.{Union}
use Rattle.wac_merge_classes.proofs.lemmas.entries.Lists.{any-at}
use Rattle.wac_merge_classes.proofs.lemmas.terms.Found.{at-filter}
use Rattle.wac_merge_trees.proofs.lemmas.trees.UnionTreesBecame.{became_end_outside}
use Rattle.wac_merge_trees.proofs.lemmas.trees.UnionTreesClasses.{members_agree}
use Rattle.wac_merge_trees.proofs.lemmas.trees.UnionTreesKinds.{MustAgree, is_instance_item, is_type, union_item, written_same}
use Rattle.wac_merge_trees.proofs.lemmas.trees.UnionTreesNames.{all_stale, is_fresh}
use Rattle.wac_merge_trees.proofs.lemmas.trees.UnionTreesOwn.{alias_end, alias_resolved}
use Rattle.wac_merge_trees.proofs.lemmas.trees.UnionTreesParts.{all_each, all_fresh, is_type_tree}

some_same : {A : Type 0} (x y : A) → Some x ≡ Some y → x ≡ y
some_same x y e = cc

low : (i n : ℕ) → nat_lt i n ≡ true → i < n
low i n h = grind arith

fresh_is : (t : Tree) → is_fresh t ≡ true → t ≡ fresh
fresh_is fresh h = refl
fresh_is t h = absurd (false≢true h)

-- ---- where an import is bound

-- at the root, the leaf of an import at a position
abbrev pub import_place : ℕ → Leaf
import_place i = record { out = 0; side = imported; path = position i ∷ [] }

here_import : (i : ℕ) → is_here imported (position i ∷ []) (Some (import_place i)) ≡ true
here_import i = ap (λ b. cond b true false) (eq-eqb i i refl)

-- what is bound there is bound by the class at that position, as a whole
only_import : (i j : ℕ) (path : List Place) → is_here imported (position i ∷ []) (Some (record { out = 0; side = imported; path = position j ∷ path })) ≡ true → (j ≡ i) × (path ≡ [])
only_import i j path h = by (j == i) refl h where
  whole : (p : List Place) → same_path p [] ≡ true → p ≡ []
  whole [] e = refl
  whole (x ∷ p) e = absurd (false≢true e)

  by : (b : Bool) → (j == i) ≡ b → cond b (same_path path []) false ≡ true → (j ≡ i) × (path ≡ [])
  by true is e = (eqb-true j i is, whole path e)
  by false is e = absurd (false≢true e)

resource_bound : (c : Collection) (m : Bindings) (i : ℕ) (r : ResourceId) → m (resolved c r) ≡ Some (import_place i) → held_item c m imported (position i ∷ []) (kind.TypeItem (ty.Resource r)) ≡ fresh
resource_bound c m i r at = ap (λ b. cond b fresh (type_equal (held_tree c m (ty.Resource r)))) (ap (is_here imported (position i ∷ [])) at ∙ here_import i)

-- ---- members

module _ (c : Collection) (es : List Entry) (class : Name) (root : Bindings) (i : ℕ) where
  plain_member : (k : ItemKind) → is_instance_item k ≡ false → member_tree by_names c es class i root k ≡ held_item c root imported (position i ∷ []) k
  plain_member (kind.Instance j) h = absurd (false≢true (sym h))
  plain_member k h = refl

  stale_member : (k : ItemKind) → binds_here c root imported (position i ∷ []) k ≡ false → is_fresh (member_tree by_names c es class i root k) ≡ false
  stale_member (kind.TypeItem t) h = ap (λ b. is_fresh (cond b fresh (type_equal (held_tree c root t)))) h
  stale_member (kind.Instance j) h = by (item_at c.interfaces j.0) (λ x. _) where
    by : (o : Option Interface) (t : Interface → Tree) → is_fresh (option_case o absent (λ x. instance_item (t x))) ≡ false
    by None t = refl
    by (Some x) t = refl
  stale_member k h = refl

  type_member : (k : ItemKind) → is_type k ≡ true → is_type_tree (member_tree by_names c es class i root k) ≡ true
  type_member (kind.TypeItem t) h = by (binds_here c root imported (position i ∷ []) (kind.TypeItem t)) where
    by : (b : Bool) → is_type_tree (cond b fresh (type_equal (held_tree c root t))) ≡ true
    by true = refl
    by false = refl
  type_member k h = absurd (false≢true h)

-- what agrees with a type item is one
compared_types : (c : Collection) (es : List Entry) (class : Name) (k l : ItemKind) → MustAgree (compared by_names c es class k) (compared by_names c es class l) → is_type k ≡ true → is_type l ≡ true
compared_types c es class (kind.TypeItem a) (kind.TypeItem b) h e = refl
compared_types c es class (kind.TypeItem a) (kind.Instance i) h e = absurd (h (λ x. by (item_at c.interfaces i.0) (λ y. _) x)) where
  by : {t : TypeTree Called} (o : Option Interface) (f : Interface → TypeTree Called) → type_equal t ≡ option_case o absent (λ y. instance_item (f y)) → ⊥
  by None f x = cc
  by (Some y) f x = cc
compared_types c es class (kind.TypeItem a) l h e = absurd (h (λ x. cc))
compared_types c es class k l h e = absurd (false≢true e)

-- a member that binds a resource as a whole is that resource
record IsWhole (c : Collection) (k : ItemKind) (r : ResourceId) : Type 0 where
  is : k ≡ kind.TypeItem (ty.Resource r)
  no_alias : is_alias c r ≡ false

kind_whole : (c : Collection) (class : Name) (k : ItemKind) (r : ResourceId) → kind_binds by_names c class k r ≡ Some [] → IsWhole c k r
kind_whole c class (kind.TypeItem (ty.Resource q)) r h = by ((q.0 == r.0) && not (is_alias c q)) refl h where
  plain : (b : Bool) → not b ≡ true → b ≡ false
  plain true e = absurd (false≢true e)
  plain false e = refl

  same_id : (q r : ResourceId) → (q.0 == r.0) ≡ true → q ≡ r
  same_id q r e = rw (eqb-true q.0 r.0 e) refl

  by : (b : Bool) → ((q.0 == r.0) && not (is_alias c q)) ≡ b → ◌≡◌ {A = Option (List Place)} (cond b (Some []) None) (Some []) → IsWhole c (kind.TypeItem (ty.Resource q)) r
  by true is e =
      let both = and_parts (q.0 == r.0) (not (is_alias c q)) is in
      let same = same_id q r both.0 in
      record { is = ap (λ (x : ResourceId). kind.TypeItem (ty.Resource x)) same; no_alias = ap (is_alias c) (sym same) ∙ plain (is_alias c q) both.1 }
  by false is e = cc
kind_whole c class (kind.Instance i) r h = absurd (by (item_at c.interfaces i.0) h) where
  last : (b : Bool) (o : Option Name) → cond b (option_case o None (λ n. Some (named n ∷ []))) None ≡ Some [] → ⊥
  last true None e = cc
  last true (Some n) e = cc
  last false o e = cc

  with_id : (o p : Option Name) → option_case o None (λ id. cond (same_track (read_track id) (read_track class)) (option_case p None (λ n. Some (named n ∷ []))) None) ≡ Some [] → ⊥
  with_id None p e = cc
  with_id (Some id) p e = last (same_track (read_track id) (read_track class)) p e

  by : (o : Option Interface) → option_case o None (λ it. option_case it.id None (λ id. cond (same_track (read_track id) (read_track class)) (option_case (own_name c it.uses it.exports r) None (λ n. Some (named n ∷ []))) None)) ≡ Some [] → ⊥
  by None e = cc
  by (Some it) e = with_id it.id (own_name c it.uses it.exports r) e
kind_whole c class k r h = cc

-- one of some entries binds it so
first_whole : (c : Collection) (class : Name) (xs : List Entry) (r : ResourceId) → first_binds by_names c class xs r ≡ Some [] → (i : ℕ) × (e : Entry) × (slice_get xs i ≡ Some e) × IsWhole c e.kind r
first_whole c class [] r h = cc
first_whole c class (x ∷ xs) r h = by (kind_binds by_names c class x.kind r) refl h (λ rest. first_whole c class xs r rest) where
  by : (o : Option (List Place)) → kind_binds by_names c class x.kind r ≡ o → first_some o (first_binds by_names c class xs r) ≡ Some []
      → (first_binds by_names c class xs r ≡ Some [] → (i : ℕ) × (e : Entry) × (slice_get xs i ≡ Some e) × IsWhole c e.kind r) → (i : ℕ) × (e : Entry) × (slice_get (x ∷ xs) i ≡ Some e) × IsWhole c e.kind r
  by None is rest more = let w = more rest in (suc w.0, w.1, w.2, w.3)
  by (Some p) is rest more = (0, x, refl, kind_whole c class x.kind r (is ∙ rest))

-- what a class is the first to bind, it binds
first_path : (bs : ClassBindings) (r : ResourceId) (k : ℕ) (path : List Place) → first_in bs r ≡ Some (k, path) → path_in bs k r ≡ Some path
first_path bs r k path h = by (find_resource bs.firsts r) h where
  found : (j : ℕ) (o : Option (List Place)) → path_in bs j r ≡ o → option_case {B = Option (ℕ × List Place)} o None (λ p. Some (j, p)) ≡ Some (k, path) → path_in bs k r ≡ Some path
  found j None is e = cc
  found j (Some p) is e =
      let same : (j, p) ≡ (k, path) = some_same (j, p) (k, path) e in
      ap (λ (x : ℕ × List Place). path_in bs x.0 r) (sym same) ∙ (is ∙ ap (λ (x : ℕ × List Place). Some x.1) same)

  by : (o : Option ℕ) → option_case {B = Option (ℕ × List Place)} o None (λ j. option_case (path_in bs j r) None (λ p. Some (j, p))) ≡ Some (k, path) → path_in bs k r ≡ Some path
  by None e = cc
  by (Some j) e = found j (path_in bs j r) refl e

-- a position is that of one number
pub same_position : (order : List ℕ) (i j k : ℕ) → slice_get order i ≡ Some k → position_in order j ≡ position_in order k → j ≡ k
same_position [] i j k at e = cc
same_position (x ∷ order) i j k at e = by (x == j) (x == k) refl refl e (λ l on same. same_position order l j k on same) i at where
  by : (a b : Bool) → (x == j) ≡ a → (x == k) ≡ b → ◌≡◌ {A = ℕ} (cond a 0 (suc (position_in order j))) (cond b 0 (suc (position_in order k)))
      → ((l : ℕ) → slice_get order l ≡ Some k → position_in order j ≡ position_in order k → j ≡ k) → (i : ℕ) → slice_get (x ∷ order) i ≡ Some k → j ≡ k
  by true true is has same more i at = sym (eqb-true x j is) ∙ eqb-true x k has
  by true false is has same more i at = absurd (omega (arith, same))
  by false true is has same more i at = absurd (omega (arith, same))
  by false false is has same more zero at = let first : x ≡ k = cc in absurd (false≢true (sym has ∙ eq-eqb x k first))
  by false false is has same more (suc i) at = more i at (omega (arith, same))

-- ---- classes

module _ (c m : Collection) (us : List Union) (ps : List Part) (bs : ClassBindings) (f : Fresh) (fresh_in : AreFresh c us bs f m) (extended : IsExtended c m) (wf : IsWellFormed c) (wfm : IsWellFormed m)
    (es : List Entry) (bindings : AreBindings c es bs) (held : AreHeld c es) (order : ℕ → ℕ) (k : ℕ) (class : Name) (numbered : slice_get (class_names by_names es) k ≡ Some class) (around : Bindings)
    (fits : Fits c (root_bindings by_names c es order) around (became c ps bs f None)) where
  member_held : (i : ℕ) (e : Entry) → slice_get (members by_names es class) i ≡ Some e → holds_type c (kind_type e.kind) ≡ true
  member_held i e at = let x = at-filter (λ (y : Entry). same_class by_names es class y.name) es i e at in held x.0 e x.1

  -- where the class is no new resource, no member of it is fresh
  not_here : whole_in f k ≡ None → ((j : ℕ) (r : ResourceId) (path : List Place) → binding_class by_names c es r ≡ Some (j, path) → order j ≡ order k → j ≡ k) → (l : ItemKind) → binds_here c (root_bindings by_names c es order) imported (position (order k) ∷ []) l ≡ false
  not_here none apart (kind.TypeItem (ty.Resource r)) = by (binding_class by_names c es (resolved c r)) refl where
    bound : (j : ℕ) (path : List Place) (b : Bool) → binding_class by_names c es (resolved c r) ≡ Some (j, path) → is_here imported (position (order k) ∷ []) (Some (record { out = 0; side = imported; path = position (order j) ∷ path })) ≡ b → b ≡ false
    bound j path false is here = refl
    bound j path true is here =
        let only = only_import (order k) (order j) path here in
        let same : j ≡ k = apart j (resolved c r) path is only.0 in
        let first : first_in bs (resolved c r) ≡ Some (k, []) = bindings.firsts (resolved c r) ∙ (is ∙ (λ d. Some (same d, only.1 d))) in
        let new = fresh_in.bound k (resolved c r) first in
        let both : None ≡ Some new.0 = sym none ∙ new.1 in
        cc

    by : (o : Option (ℕ × List Place)) → binding_class by_names c es (resolved c r) ≡ o → is_here imported (position (order k) ∷ []) (root_bindings by_names c es order (resolved c r)) ≡ false
    by None is = ap (λ (o : Option (ℕ × List Place)). is_here imported (position (order k) ∷ []) (option_case o None (λ b. Some (record { out = 0; side = imported; path = position (order b.0) ∷ b.1 })))) is
    by (Some b) is =
        ap (λ (o : Option (ℕ × List Place)). is_here imported (position (order k) ∷ []) (option_case o None (λ b. Some (record { out = 0; side = imported; path = position (order b.0) ∷ b.1 })))) is
        ∙ bound b.0 b.1 (is_here imported (position (order k) ∷ []) (Some (record { out = 0; side = imported; path = position (order b.0) ∷ b.1 }))) is refl
  not_here none apart l = refl

  -- The item that such a class is: what its first member became.
  pub class_plain : (e : Entry) (more : List Entry) → members by_names es class ≡ e ∷ more → is_instance_item e.kind ≡ false → whole_in f k ≡ None
      → ((j : ℕ) (r : ResourceId) (path : List Place) → binding_class by_names c es r ≡ Some (j, path) → order j ≡ order k → j ≡ k)
      → (n : Name) (inner : Option InterfaceId) (l : ItemKind) → IsWrittenAs c m (became c ps bs f None) inner n e.kind l
      → ((i j : InterfaceId) → e.kind ≡ kind.TypeItem (ty.Interface i) → inner ≡ Some j → held_tree m around (ty.Interface j) ≡ held_tree c (root_bindings by_names c es order) (ty.Interface i))
      → held_item m around imported (position (order k) ∷ []) l ≡ merged by_names c es (root_bindings by_names c es order) (order k) class
  class_plain e more are plain none apart n inner l w below =
      let root = root_bindings by_names c es order in
      let tree : Entry → Tree = λ x. member_tree by_names c es class (order k) root x.kind in
      let known = member_held 0 e (ap (λ xs. slice_get xs 0) are) in
      let alias : (q a : ResourceId) → e.kind ≡ kind.TypeItem (ty.Resource q) → IsAliasOf m n (became c ps bs f None (resolved c q)) a → (resolved m a ≡ became c ps bs f None (resolved c q)) × HasResource c q = λ q a is h.
      let low_q : HasResource c q = low q.0 (length c.resources) (subst (λ y. holds_type c (kind_type y) ≡ true) is known) in
      (alias_resolved m a (became c ps bs f None (resolved c q)) _ h.there h.is refl (became_end_outside c m us ps bs f fresh_in extended wf wfm q low_q), low_q) in
      let stale : (x : Entry) → is_fresh (tree x) ≡ false = λ x. stale_member c es class root (order k) x.kind (not_here none apart x.kind) in
      let rest : is_fresh (union_all (map tree more)) ≡ false = all_stale tree more (all_each (λ x. is_fresh (tree x) ≡ false) more (λ i x at. stale x)) in
      let first : tree e ≡ item_tree (held_tree c root) false e.kind = plain_member c es class root (order k) e.kind plain ∙ ap (λ b. item_tree (held_tree c root) b e.kind) (not_here none apart e.kind) in
      written_same c m extended (became c ps bs f None) n inner imported (position (order k) ∷ []) root around fits e.kind l plain known w alias below
      ∙ (sym (plain_member c es class root (order k) e.kind plain)
      ∙ (first
      ∙ (sym (union_item (held_tree c root) e.kind (union_all (map tree more)) plain rest)
      ∙ (ap (λ t. union t (union_all (map tree more))) (sym first)
      ∙ ap (λ xs. union_all (map tree xs)) (sym are)))))

  -- The item that a class is that is a new resource: that resource, fresh.
  pub class_whole : HasNoDisagreement by_names c es → (q : ResourceId) → whole_in f k ≡ Some q
      → held_item m around imported (position (order k) ∷ []) (kind.TypeItem (ty.Resource q)) ≡ merged by_names c es (root_bindings by_names c es order) (order k) class
  class_whole agree q is =
      let root = root_bindings by_names c es order in
      let tree : Entry → Tree = λ x. member_tree by_names c es class (order k) root x.kind in
      let new = fresh_in.whole k q is in
      let r = new.0 in
      let path : class_binds by_names c es class r ≡ Some [] = sym (bindings.paths k class r numbered) ∙ first_path bs r k [] new.1 in
      let one = first_whole c class (members by_names es class) r path in
      let known : HasResource c r = low r.0 (length c.resources) (subst (λ y. holds_type c (kind_type y) ≡ true) one.3.is (member_held one.0 one.1 one.2)) in
      let end : resolved c r ≡ r = alias_end c r one.3.no_alias in
      let now : became c ps bs f None r ≡ q = ap (λ o. option_case o r (λ b. or_itself r (new_at f b.0 b.1))) new.1 ∙ ap (or_itself r) is in
      let outside : root r ≡ Some (import_place (order k)) = ap (λ (o : Option (ℕ × List Place)). option_case o None (λ b. Some (record { out = 0; side = imported; path = position (order b.0) ∷ b.1 }))) (sym (bindings.firsts r) ∙ new.1) in
      let inside : around (resolved m q) ≡ Some (import_place (order k)) = ap around (new.2.itself ∙ (sym now ∙ ap (became c ps bs f None) (sym end))) ∙ (fits r known ∙ (ap root end ∙ outside)) in
      let member : is_fresh (tree one.1) ≡ true = ap (λ y. is_fresh (member_tree by_names c es class (order k) root y)) one.3.is ∙ ap is_fresh (resource_bound c root (order k) r (ap root end ∙ outside)) in
      let types : (i : ℕ) (x : Entry) → slice_get (members by_names es class) i ≡ Some x → is_type x.kind ≡ true = λ i x at.
      compared_types c es class one.1.kind x.kind (members_agree c es agree class one.0 i one.1 x one.2 at) (ap is_type one.3.is) in
      let each : AllByRecursion (λ x. (is_type_tree (tree x) ≡ true) × (is_fresh (tree x) ≡ true → tree x ≡ fresh)) (members by_names es class) =
      all_each (λ x. (is_type_tree (tree x) ≡ true) × (is_fresh (tree x) ≡ true → tree x ≡ fresh)) (members by_names es class)
      (λ i x at. (type_member c es class root (order k) x.kind (types i x at), fresh_is (tree x))) in
      resource_bound m around (order k) q inside
      ∙ sym (all_fresh tree (λ x. is_fresh (tree x)) (members by_names es class) each (any-at (λ x. is_fresh (tree x)) (members by_names es class) one.0 one.1 one.2 member))
