-- No two imports of a merge are of one class.
use Rattle.std.proofs.Common.{ℕ, zero, suc, ◌≡◌, ◌<◌, ◌⊎◌, inl, inr, Bool, true, false, ◌&&◌, List, [], ◌∷◌, length, Some, slice_get, refl, ap, sym, ◌∙◌, subst, arith}
use Rattle.std.specs.List.{AllByRecursion}
use Rattle.std.proofs.lemmas.Bool.{and_from, and_parts}
use Rattle.std.proofs.lemmas.Option.{slice_get_within}
use Rattle.wac_types_shapes.specs.primitives.Name.{Name, same_name}
use Rattle.wac_types_shapes.specs.primitives.Tree.{TypeTree, instance_item}
use Rattle.wac_types_shapes.proofs.lemmas.shapes.Names.{same_name-refl, same_name-true}
use Rattle.wac_types_shapes.specs.declared.shapes.component.ItemKind.{ItemKind}
use Rattle.wac_types_shapes.specs.declared.shapes.component.ItemKind.TheVariants as kind
use Rattle.wac_types_collection.specs.collection.Collection.{Collection}
use Rattle.wac_types_collection.specs.subtyping.Subtype.{IsSubtype, Sub, instances, components, modules, type_items, instance_items, component_items, module_items, kind_tree}
use Rattle.wac_types_collection.specs.subtyping.Subtype as subtype
use Rattle.wac_merge_classes.specs.entries.Classes.{Entry, by_names, canonical, class_names, is_instance, members, names_instance, same_class}
use Rattle.wac_merge_classes.specs.terms.Faults.{HasNoCircle}
use Rattle.wac_merge_classes.specs.terms.Merge.{IsMerge, Merged}
use Rattle.wac_merge_classes.proofs.lemmas.entries.Canonical.{class_name-asked}
use Rattle.wac_merge_classes.proofs.lemmas.entries.ClassFacts.{class-from, class-of_same, class-parts, class-refl, class-sym, class-trans, one-position}
use Rattle.wac_merge_classes.proofs.lemmas.entries.Lists.{any-at, any-found, some-at}
use Rattle.wac_merge_classes.proofs.lemmas.terms.Found.{one_some}
use Rattle.wac_merge_agreement.proofs.lemmas.agreement.OrderLaws.{order_each, order_once}
use Rattle.wac_types_collection.proofs.lemmas.wide.Members.{at_in}
use Rattle.wac_merge_imports.proofs.lemmas.fitting.MergedBindingsClasses.{filter-at, filter-has, newest-has}
use Rattle.wac_encode_imports.specs.private.Distinct.{DistinctClassesLaw}
use Rattle.wac_encode_imports.specs.private.Imports.{HasDistinctClasses}

-- what is no instance is a subtype of no instance

abbrev is_item : {L : Type 0} → TypeTree L → Bool
is_item (instance_item t) = true
is_item t = false

sub-item : {L : Type 0} (a b : TypeTree L) → Sub a b → is_item a ≡ true → is_item b ≡ true
sub-item _ _ (subtype.same a plain) h = h
sub-item _ _ (instances xs ys each) h = h
sub-item _ _ (components xi xe yi ye f g) h = h
sub-item _ _ (modules xi yi xe ye f g) h = h
sub-item _ _ (type_items a b f g) h = h
sub-item _ _ (instance_items a b f) h = h
sub-item _ _ (component_items a b f) h = h
sub-item _ _ (module_items a b f) h = h

item-of : (c : Collection) (k : ItemKind) → is_instance k ≡ true → is_item (kind_tree c k) ≡ true
item-of c (kind.Instance i) h = refl
item-of c (kind.TypeItem t) h = let wrong : false ≡ true = h in cc
item-of c (kind.Func f) h = let wrong : false ≡ true = h in cc
item-of c (kind.Component w) h = let wrong : false ≡ true = h in cc
item-of c (kind.Module m) h = let wrong : false ≡ true = h in cc
item-of c (kind.Value v) h = let wrong : false ≡ true = h in cc

of-item : (c : Collection) (k : ItemKind) → is_item (kind_tree c k) ≡ true → is_instance k ≡ true
of-item c (kind.Instance i) h = refl
of-item c (kind.TypeItem t) h = h
of-item c (kind.Func f) h = h
of-item c (kind.Component w) h = h
of-item c (kind.Module m) h = h
of-item c (kind.Value v) h = h

member-at : (P : Entry → Type 0) (xs : List Entry) (j : ℕ) (e : Entry) → AllByRecursion P xs → slice_get xs j ≡ Some e → P e
member-at P (x ∷ xs) zero e all at = let same : x ≡ e = cc in subst P same all.0
member-at P (x ∷ xs) (suc j) e all at = member-at P xs j e all.1 at
member-at P [] j e all at = cc

module _ (c : Collection) (es : List Entry) (m : Merged) (merge : IsMerge by_names c es m) (ordered : HasNoCircle by_names c es) where
  -- the class of an import
  pub record IsImport (p : ℕ) (e : Entry) : Type 0 where
    pub number : ℕ
    pub class : Name
    pub placed : slice_get merge.order p ≡ Some number
    pub known : slice_get (class_names by_names es) number ≡ Some class

  pub import-at : (p : ℕ) (e : Entry) → slice_get m.imports p ≡ Some e → IsImport p e
  import-at p e at =
      let within = slice_get_within m.imports p e at in
      let count = merge.count in
      let k = some-at merge.order p (omega (arith, within, count)) in
      let low = (order_each by_names es c merge.order merge.written k.0).0 (at_in merge.order p k.0 k.1) in
      let class = some-at (class_names by_names es) k.0 low in
      record { number = k.0; class = class.0; placed = k.1; known = class.1 }

  -- the canonical name is of the class
  pub canonical-class : (class : Name) → same_class by_names es class (canonical by_names es class) ≡ true
  canonical-class class = newest-has (λ (n : Name). same_class by_names es class n ≡ true) class (members by_names es class) (class-refl by_names es class)
      (λ j e at. (filter-at (λ (x : Entry). same_class by_names es class x.name) es j e at).0)

  pub name-is : (p : ℕ) (e : Entry) → slice_get m.imports p ≡ Some e → (i : IsImport p e) → e.name ≡ canonical by_names es i.class
  name-is p e at i = merge.names p i.number i.class e i.placed i.known at

  one-import : (p q : ℕ) (a b : Entry) → slice_get m.imports p ≡ Some a → slice_get m.imports q ≡ Some b → same_class by_names es a.name b.name ≡ true → p ≡ q
  one-import p q a b at there one =
      let i = import-at p a at in
      let j = import-at q b there in
      let first : same_class by_names es i.class a.name ≡ true = ap (same_class by_names es i.class) (name-is p a at i) ∙ canonical-class i.class in
      let last : same_class by_names es b.name j.class ≡ true = class-sym by_names es j.class b.name (ap (same_class by_names es j.class) (name-is q b there j) ∙ canonical-class j.class) in
      let classes = class-trans by_names es i.class a.name j.class first (class-trans by_names es a.name b.name j.class one last) in
      let same = one-position by_names es es i.number j.number i.class j.class i.known j.known classes in
      order_once by_names es c merge.order merge.written ordered p q i.number i.placed (j.placed ∙ ap Some (sym same))

  -- an import that is an instance has a name that an instance has
  member-instance : (p : ℕ) (e : Entry) → slice_get m.imports p ≡ Some e → (i : IsImport p e) → is_instance e.kind ≡ true → (j : ℕ) (x : Entry) → slice_get (members by_names es i.class) j ≡ Some x → is_instance x.kind ≡ true
  member-instance p e at i t j x there =
      of-item c x.kind (sub-item (kind_tree m.types e.kind) (kind_tree c x.kind)
      (member-at (λ (y : Entry). IsSubtype m.types e.kind c y.kind) (members by_names es i.class) j x (merge.subtypes p i.number i.class e i.placed i.known at) there)
      (item-of m.types e.kind t))

  names-one : (i : ℕ) (e : Entry) → slice_get es i ≡ Some e → is_instance e.kind ≡ true → names_instance es e.name ≡ true
  names-one i e at t = any-at (λ (x : Entry). same_name x.name e.name && is_instance x.kind) es i e at (and_from (same_name e.name e.name) (is_instance e.kind) (same_name-refl e.name) t)

  instance-asked : (p : ℕ) (e : Entry) → slice_get m.imports p ≡ Some e → is_instance e.kind ≡ true → names_instance es e.name ≡ true
  instance-asked p e at t =
      let i = import-at p e at in
      ap (names_instance es) (name-is p e at i) ∙ newest-has (λ (n : Name). names_instance es n ≡ true) i.class (members by_names es i.class) (first i) (each i)
    where
      each : (i : IsImport p e) (j : ℕ) (x : Entry) → slice_get (members by_names es i.class) j ≡ Some x → names_instance es x.name ≡ true
      each i j x there =
          let w = filter-at (λ (y : Entry). same_class by_names es i.class y.name) es j x there in
          names-one w.1 x w.2 (member-instance p e at i t j x there)

      first : (i : IsImport p e) → names_instance es i.class ≡ true
      first i =
          let asked = class_name-asked es es i.class (any-at (λ (n : Name). same_name n i.class) (class_names by_names es) i.number i.class i.known (same_name-refl i.class)) in
          let w = any-found (λ (x : Entry). same_name x.name i.class) es asked in
          let name : (w.1).name ≡ i.class = same_name-true (w.1).name i.class w.3 in
          let j = filter-has (λ (x : Entry). same_class by_names es i.class x.name) es w.0 w.1 w.2 (class-of_same by_names es i.class (w.1).name (sym name)) in
          ap (names_instance es) (sym name) ∙ each i j.0 w.1 j.1

  instance-import : (p : ℕ) (e : Entry) → slice_get m.imports p ≡ Some e → names_instance m.imports e.name ≡ true → is_instance e.kind ≡ true
  instance-import p e at t =
      let w = any-found (λ (x : Entry). same_name x.name e.name && is_instance x.kind) m.imports t in
      let b = and_parts (same_name (w.1).name e.name) (is_instance (w.1).kind) w.3 in
      let there : w.0 ≡ p = one-import w.0 p w.1 e w.2 at (class-of_same by_names es (w.1).name e.name (same_name-true (w.1).name e.name b.0)) in
      let same : w.1 ≡ e = one_some (slice_get m.imports p) w.1 e (ap (slice_get m.imports) (sym there) ∙ w.2) at in
      ap (λ (x : Entry). is_instance x.kind) (sym same) ∙ b.1

  distinct : HasDistinctClasses m
  distinct p q a b at there one = elim (class-parts by_names m.imports a.name b.name one) [
    | inl same ↦ one-import p q a b at there (class-of_same by_names es a.name b.name same)
    | inr o ↦ one-import p q a b at there (class-from by_names es a.name b.name (record {
      track = o.track;
      first = instance-asked p a at (instance-import p a at o.first);
      second = instance-asked q b there (instance-import q b there o.second);
    }))
  ]

pub distinct_classes_law : DistinctClassesLaw
distinct_classes_law c es m merge ordered = distinct c es m merge ordered
