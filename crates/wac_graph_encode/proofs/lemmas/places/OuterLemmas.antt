-- The imports of a graph are one list; where a name fell; and what is not written yet.
use Rattle.std.proofs.Common.{◌≡◌, ℕ, zero, suc, ◌<◌, Bool, true, List, [], ◌∷◌, length, refl, ap, ◌∙◌, sym, subst, arith, Some}
use Rattle.std.specs.Prelude.{slice_get, Contains}
use Rattle.std.specs.List.{AllByRecursion, filter}
use Rattle.std.proofs.lemmas.Option.{slice_get_within, get_or_from_slice_get}
use Rattle.wac_types_shapes.specs.primitives.Name.{Name}
use Rattle.wac_types_shapes.specs.primitives.Tree.{Tree, TypeTree, function_item, instance_item, component_item, module_item, value_item}
use Rattle.wac_types_collection.specs.collection.Collection.{Collection}
use Rattle.wac_types_shapes.specs.declared.shapes.component.ItemKind.{ItemKind}
use Rattle.wac_types_shapes.specs.declared.shapes.component.ItemKind.TheVariants as kind
use Rattle.wac_types_collection.specs.subtyping.Subtype.{Sub, kind_tree, IsSubtype}
use Rattle.wac_merge_classes.specs.entries.Classes.{Entry, by_names, same_class, canonical, class_names, imported_as, ClassLaws}
use Rattle.wac_merge.specs.Aggregate.{Aggregate}
use Rattle.wac_binary.specs.declared.sorts.Sort.{Sort}
use Rattle.wac_binary.specs.declared.sorts.Sort.TheVariants as sort
use Rattle.wac_graph_model.specs.nodes.Graph.{Graph}
use Rattle.wac_graph_model.specs.nodes.OuterImports.{outer_entries, AreOuterImports, outer_import}
use Rattle.wac_graph_model.specs.meaning.Means.{sort_of_kind}
use Rattle.wac_graph_model.specs.private.meaning.Beginning.{Places}
use Rattle.wac_graph_model.specs.private.meaning.MergedImports.{IsFoundAt}
use Rattle.wac_graph_model.proofs.lemmas.meaning.AskedMembers.{IsIn, in_filter}
use Rattle.wac_graph_model.proofs.lemmas.meaning.MergeLemmas.{OrderHasClasses, found_name, imported_canonical, place_of_name}
use Rattle.wac_graph_model.proofs.lemmas.meaning.OuterOrder.{one_order}
use Rattle.wac_graph_encode.specs.private.places.Places.{IsImportedName, IsPlaceOf, IsMergedFor}

the_entry : {A : Type 0} (xs : List A) (p : ℕ) → p < length xs → (x : A) × (slice_get xs p ≡ Some x)
the_entry [] p h = absurd (omega (arith, h))
the_entry (x ∷ xs) zero h = (x, refl)
the_entry (x ∷ xs) (suc p) h = the_entry xs p (omega (arith, h))

same_list : {A : Type 0} (xs ys : List A) → length xs ≡ length ys → ((p : ℕ) (x y : A) → slice_get xs p ≡ Some x → slice_get ys p ≡ Some y → x ≡ y) → xs ≡ ys
same_list [] [] long each = refl
same_list [] (y ∷ ys) long each = cc
same_list (x ∷ xs) [] long each = cc
same_list (x ∷ xs) (y ∷ ys) long each = (λ i. each 0 x y refl refl i ∷ same_list xs ys (let e : length xs ≡ length ys = omega (arith, long) in e) (λ p. each (suc p)) i)

module _ (laws : ClassLaws) (has_classes : OrderHasClasses) (g : Graph) where
  -- the imports of a graph are one list
  pub one_outer : (xs ys : List (Name × Tree)) → AreOuterImports g xs → AreOuterImports g ys → xs ≡ ys
  one_outer xs ys a b =
      let same = one_order g a.order b.order a.written b.written in
      same_list xs ys (a.count ∙ ap length same ∙ sym b.count) (λ p x y at_x at_y.
      let (k, placed) = the_entry a.order p (subst (λ n. p < n) a.count (slice_get_within xs p x at_x)) in
      let within : Contains a.order k = (p, slice_get_within a.order p k placed, get_or_from_slice_get a.order p k k placed) in
      let (class, of_class) = the_entry (class_names by_names (outer_entries g)) k ((has_classes g.types (outer_entries g) a.order a.written k).0 within) in
      a.each p k class x placed of_class at_x ∙ ap (λ order. outer_import g order p class) same ∙ sym (b.each p k class y (ap (λ order. slice_get order p) (sym same) ∙ placed) of_class at_y))

  module _ (a : Aggregate) (merged : IsMergedFor g a) where
    -- what is asked for is imported
    pub asked_imported : (x : Entry) → IsIn (outer_entries g) x → IsImportedName a x.name
    asked_imported x within =
        let (p, e, at, named) = found_name g a.merge (merged.whole).merge laws has_classes x within in
        record { p = p; entry = e; there = at; named = named ∙ sym (imported_canonical (outer_entries g) x within) ∙ ap (λ es. imported_as by_names es x.name) (sym merged.entries) }

    -- where it stands it is found
    pub found_at : (x : Entry) → IsIn (outer_entries g) x → (places : Places) (place : Sort × ℕ) → IsPlaceOf a places x.name place → IsFoundAt g a.merge places x.name place.0 place.1
    found_at x within places place at = record {
      p = at.p;
      entry = at.entry;
      there = at.there;
      named = at.named ∙ ap (λ es. imported_as by_names es x.name) merged.entries ∙ imported_canonical (outer_entries g) x within;
      placed = at.placed;
    }

-- ---- a subtype is of one sort
abbrev sort_in : {L : Type 0} → TypeTree L → Sort
sort_in (function_item t) = sort.Func
sort_in (instance_item t) = sort.Instance
sort_in (component_item t) = sort.Component
sort_in (module_item t) = sort.CoreModule
sort_in (value_item t) = sort.Value
sort_in _ = sort.«Type»

sub_sort : {L : Type 0} (a b : TypeTree L) → Sub a b → sort_in a ≡ sort_in b
sub_sort a b (Sub.same _ p) = refl
sub_sort a b (Sub.instances _ _ f) = refl
sub_sort a b (Sub.components _ _ _ _ f g) = refl
sub_sort a b (Sub.modules _ _ _ _ f g) = refl
sub_sort a b (Sub.type_items _ _ s t) = refl
sub_sort a b (Sub.instance_items _ _ s) = refl
sub_sort a b (Sub.component_items _ _ s) = refl
sub_sort a b (Sub.module_items _ _ s) = refl

kind_sort : (c : Collection) (k : ItemKind) → sort_in (kind_tree c k) ≡ sort_of_kind k
kind_sort c (kind.TypeItem t) = refl
kind_sort c (kind.Func f) = refl
kind_sort c (kind.Instance i) = refl
kind_sort c (kind.Component w) = refl
kind_sort c (kind.Module m) = refl
kind_sort c (kind.Value v) = refl

pub subtype_sort : (c d : Collection) (k j : ItemKind) → IsSubtype c k d j → sort_of_kind k ≡ sort_of_kind j
subtype_sort c d k j sub = sym (kind_sort c k) ∙ sub_sort (kind_tree c k) (kind_tree d j) sub ∙ kind_sort d j

passed : (test : Entry → Bool) (P : Entry → Type 0) (es : List Entry) (e : Entry) → AllByRecursion P (filter test es) → IsIn es e → test e ≡ true → P e
passed test P es e all within passes = let (i, at) = in_filter test es e within passes in each (filter test es) i all at where
  each : (xs : List Entry) (i : ℕ) → AllByRecursion P xs → slice_get xs i ≡ Some e → P e
  each [] i all at = cc
  each (x ∷ xs) zero all at = let same : x ≡ e = cc in subst P same all.0
  each (x ∷ xs) (suc i) all at = each xs i all.1 at

-- an import is of the sort of what is asked for
pub asked_sort : ClassLaws → OrderHasClasses → (g : Graph) (a : Aggregate) → IsMergedFor g a → (x : Entry) → IsIn (outer_entries g) x → (p : ℕ) (e : Entry) → slice_get (a.merge).imports p ≡ Some e → e.name ≡ canonical by_names (outer_entries g) x.name
    → sort_of_kind e.kind ≡ sort_of_kind x.kind
asked_sort laws has_classes g a merged x within p e at named =
    let merge = (merged.whole).merge in
    let (k, class, placed, of_class, same) = place_of_name g a.merge merge laws has_classes p e at x.name named in
    subtype_sort (a.merge).types g.types e.kind x.kind
    (passed (λ y. same_class by_names (outer_entries g) class y.name) (λ member. IsSubtype (a.merge).types e.kind g.types member.kind) (outer_entries g) x (merge.subtypes p k class e placed of_class at) within same)
