-- Entries disagree where their items do.
use Rattle.std.proofs.Common.{◌≡◌, ℕ, ◌<◌, true, List, length, map, slice_get, slice_index_or, Some, refl, ap, sym, ◌∙◌, subst}
use Rattle.std.specs.List.{AllByRecursion}
use Rattle.std.proofs.lemmas.Option.{slice_get_within, slice_get-get_or}
use Rattle.wac_types_shapes.specs.primitives.Name.{Name}
use Rattle.wac_types_collection.specs.collection.Collection.{Collection, IsWellFormed}
use Rattle.wac_types_shapes.specs.declared.shapes.component.ItemKind.{ItemKind}
use Rattle.wac_merge_classes.specs.entries.Agreement.{compared, IsDisagreement, IsFirstDisagreement, LeadsApart, joined}
use Rattle.wac_merge_agreement.specs.private.agreeing.Apart.{ItemsAgree, AreApart, AllAgree, IsFirstApart}
use Rattle.wac_merge_classes.specs.entries.Bindings.{AreHeld}
use Rattle.wac_merge_classes.specs.entries.Classes.{Entry, by_names, same_class, AreClasses}
use Rattle.wac_merge_agreement.specs.private.agreement.Compared.{AreCompared}
use Rattle.wac_merge_classes.specs.terms.Faults.{Disagrees}
use Rattle.wac_merge_classes.specs.terms.NoDisagreement.{HasNoDisagreement}
use Rattle.wac_merge_tables.specs.private.tables.Nodes.{Node, Item, type_of, item_tree, tree_at}
use Rattle.wac_merge_agreement.specs.private.agreement.Shapes.{IsOfKind, IsShaped}
use Rattle.wac_merge_classes.proofs.lemmas.terms.Alike.{compared_alike}
use Rattle.wac_merge_classes.proofs.lemmas.entries.ClassFacts.{class-sym}
use Rattle.wac_merge_classes.proofs.lemmas.terms.Alike.{agree_at}
use Rattle.wac_merge_classes.proofs.lemmas.terms.Found.{one_some}
use Rattle.wac_merge_agreement.proofs.lemmas.agreement.Kinded.{compared_of_kind}
use Rattle.wac_merge_agreement.proofs.lemmas.agreement.Leading.{of_kind_shaped}
use Rattle.wac_merge_agreement.proofs.lemmas.agreeing.Comparing.{all_from}
use Rattle.wac_merge_classes.proofs.lemmas.entries.Lists.{some-at}
use Rattle.wac_merge_classes.proofs.lemmas.terms.Found.{get_map, mapped_length}

module _ (c : Collection) (ns : List Node) (es : List Entry) (items : List Item) (counted : length items ≡ length es) (are : AreCompared ns c es items) where
  -- the entry of an item
  entry_of : (i : ℕ) (x : Item) → slice_get items i ≡ Some x → (e : Entry) × (slice_get es i ≡ Some e)
  entry_of i x at = some-at es i (subst (λ (n : ℕ). i < n) counted (slice_get_within items i x at))

  item_of : (i : ℕ) (e : Entry) → slice_get es i ≡ Some e → (x : Item) × (slice_get items i ≡ Some x)
  item_of i e at = some-at items i (subst (λ (n : ℕ). i < n) (sym counted) (slice_get_within es i e at))

  pub all_low : AllByRecursion (λ x. type_of x < length ns) items
  all_low = all_from (λ x. type_of x < length ns) items (λ k x at. let (e, also) = entry_of k x at in (are k e x also at).there)

  pub low_at : (i : ℕ) (x : Item) → slice_get items i ≡ Some x → type_of x < length ns
  low_at i x at = let (e, also) = entry_of i x at in (are i e x also at).there

  -- an item is of its entry's kind
  pub of_kind_at : IsWellFormed c → AreHeld c es → (i : ℕ) (e : Entry) (x : Item) → slice_get es i ≡ Some e → slice_get items i ≡ Some x → IsOfKind c (item_tree (tree_at ns) x) e.kind
  of_kind_at wf held i e x there at = subst (λ t. IsOfKind c t e.kind) (sym (are i e x there at).is) (compared_of_kind c wf es e.name e.kind (held i e there))

  pub shaped_at : IsWellFormed c → AreHeld c es → (i : ℕ) (x : Item) → slice_get items i ≡ Some x → IsShaped (item_tree (tree_at ns) x)
  shaped_at wf held i x at = let (e, there) = entry_of i x at in of_kind_shaped c (item_tree (tree_at ns) x) e.kind (of_kind_at wf held i e x there at)

  -- what an item of the same class is compared as, under the earlier's name
  later_is : (j : ℕ) (e f : Entry) (y : Item) → slice_get es j ≡ Some f → slice_get items j ≡ Some y → same_class by_names es e.name f.name ≡ true → item_tree (tree_at ns) y ≡ compared by_names c es e.name f.kind
  later_is j e f y there at one = (are j f y there at).is ∙ compared_alike c es f.name e.name (class-sym by_names es e.name f.name one) f.kind

  module _ (numbers positions : List ℕ) (names : List (Name × ℕ)) (classes : AreClasses by_names es numbers positions names) where
    -- items that are apart are of entries that disagree
    disagreement_of : (i j : ℕ) → AreApart ns items numbers i j → IsDisagreement by_names c es i j
    disagreement_of i j h =
        let (e, at_first) = entry_of i h.earlier h.at_first in
        let (f, at_second) = entry_of j h.later h.at_second in
        let one : same_class by_names es e.name f.name ≡ true = (classes.told_apart i j h.class h.class e f at_first at_second h.class_of_first h.class_of_second).0 refl in
        record {
          earlier = e;
          later = f;
          at_first = at_first;
          at_second = at_second;
          before = h.before;
          one_class = one;
          apart = λ agree. h.apart (agree_at (item_tree (tree_at ns) h.earlier) (item_tree (tree_at ns) h.later) (compared by_names c es e.name e.kind) (compared by_names c es e.name f.kind) (are i e h.earlier at_first h.at_first).is (later_is j e f h.later at_second h.at_second one) agree);
        }

    -- and only those
    apart_of : (i j : ℕ) → IsDisagreement by_names c es i j → AreApart ns items numbers i j
    apart_of i j d =
        let (x, at_first) = item_of i d.earlier d.at_first in
        let (y, at_second) = item_of j d.later d.at_second in
        let (k, number_of_first) = some-at numbers i (subst (λ (n : ℕ). i < n) (sym classes.counted) (slice_get_within es i d.earlier d.at_first)) in
        let (l, number_of_second) = some-at numbers j (subst (λ (n : ℕ). j < n) (sym classes.counted) (slice_get_within es j d.later d.at_second)) in
        let same : k ≡ l = (classes.told_apart i j k l d.earlier d.later d.at_first d.at_second number_of_first number_of_second).1 d.one_class in
        record {
          earlier = x;
          later = y;
          class = k;
          at_first = at_first;
          at_second = at_second;
          class_of_first = number_of_first;
          class_of_second = number_of_second ∙ ap (λ (n : ℕ). Some n) (sym same);
          before = d.before;
          apart = λ agree. d.apart (agree_at (compared by_names c es d.earlier.name d.earlier.kind) (compared by_names c es d.earlier.name d.later.kind) (item_tree (tree_at ns) x) (item_tree (tree_at ns) y) (sym (are i d.earlier x d.at_first at_first).is) (sym (later_is j d.earlier d.later y d.at_second at_second d.one_class)) agree);
        }

    pub none_disagrees : AllAgree ns items numbers → HasNoDisagreement by_names c es
    none_disagrees all i j d =
        let h = apart_of i j d in
        h.apart (all i j h.class h.earlier h.later h.before (slice_get_within items j h.later h.at_second) h.at_first h.at_second h.class_of_first h.class_of_second)

    first_of : (i j : ℕ) → IsFirstApart ns items numbers i j → IsFirstDisagreement by_names c es i j
    first_of i j h = record {
      disagree = disagreement_of i j h.apart;
      earliest = λ k l d. h.earliest k l (apart_of k l d);
      with_earliest = λ k d. h.with_earliest k (apart_of k j d);
    }

    -- the first two that disagree, with the way to where they do
    pub first_disagrees : (i j : ℕ) (x y : Item) (f : Entry) (l : ItemKind) (way : List Name) (export : Name) → IsFirstApart ns items numbers i j → slice_get items i ≡ Some x → slice_get items j ≡ Some y → slice_get es j ≡ Some f → l ≡ f.kind
        → LeadsApart c (item_tree (tree_at ns) x) (item_tree (tree_at ns) y) l way → export ≡ joined way → Disagrees by_names c es i j export
    first_disagrees i j x y f l way export h at_first at_second there kind leads path =
        let first = first_of i j h in
        let d = first.disagree in
        let earlier : item_tree (tree_at ns) x ≡ compared by_names c es d.earlier.name d.earlier.kind = (are i d.earlier x d.at_first at_first).is in
        let later : item_tree (tree_at ns) y ≡ compared by_names c es d.earlier.name d.later.kind = later_is j d.earlier d.later y d.at_second at_second d.one_class in
        let same : l ≡ d.later.kind = kind ∙ ap (λ (e : Entry). e.kind) (one_some (slice_get es j) f d.later there d.at_second) in
        record {
          is_first = first;
          names = way;
          leads = subst (λ t. LeadsApart c t (compared by_names c es d.earlier.name d.later.kind) d.later.kind way) earlier
              (subst (λ u. LeadsApart c (item_tree (tree_at ns) x) u d.later.kind way) later (subst (λ (k : ItemKind). LeadsApart c (item_tree (tree_at ns) x) (item_tree (tree_at ns) y) k way) same leads));
          path = path;
        }

-- both stand among the items
pub first_within : (ns : List Node) (items : List Item) (numbers : List ℕ) (i j : ℕ) → IsFirstApart ns items numbers i j → i < length items
first_within ns items numbers i j h = slice_get_within items i h.apart.earlier h.apart.at_first

pub second_within : (ns : List Node) (items : List Item) (numbers : List ℕ) (i j : ℕ) → IsFirstApart ns items numbers i j → j < length items
second_within ns items numbers i j h = slice_get_within items j h.apart.later h.apart.at_second

-- what stands there is apart
pub apart_at : (ns : List Node) (items : List Item) (numbers : List ℕ) (i j : ℕ) (x y : Item) → IsFirstApart ns items numbers i j → slice_get items i ≡ Some x → slice_get items j ≡ Some y → ItemsAgree ns x y → ⊥
apart_at ns items numbers i j x y h at also agree =
    h.apart.apart (subst (λ z. ItemsAgree ns z h.apart.later) (one_some (slice_get items i) x h.apart.earlier at h.apart.at_first) (subst (λ z. ItemsAgree ns x z) (one_some (slice_get items j) y h.apart.later also h.apart.at_second) agree))

-- what is read of a list that is mapped
pub read_map : {A B : Type 0} (f : A → B) (xs : List A) (i : ℕ) (d : A) → i < length (map f xs) → slice_get (map f xs) i ≡ Some (f (slice_index_or xs i d))
read_map f xs i d within = get_map f xs i (slice_index_or xs i d) (slice_get-get_or xs i d (subst (λ (n : ℕ). i < n) (mapped_length f xs) within))
