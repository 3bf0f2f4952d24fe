-- Where all of a merge is made, the imports stand under canonical names, and each instance exports what the members of its class export, and has its id.
use Rattle.std.proofs.Common.{◌≡◌, ℕ, false, List, [], ◌∷◌, map, length, Option, Some, None, slice_get, refl, sym, ap, ◌∙◌, inl, inr}
use Rattle.std.specs.List.{AllZip, list_any}
use Rattle.std.proofs.lemmas.Bool.{cases_Bool, false≢true}
use Rattle.wac_types_shapes.specs.primitives.Name.{Name, option_case}
use Rattle.wac_types_collection.specs.collection.Collection.{Collection, interface_exports, item_at}
use Rattle.wac_types_shapes.specs.declared.shapes.component.Interface.{Interface}
use Rattle.wac_types_shapes.specs.declared.shapes.component.InterfaceId.{InterfaceId}
use Rattle.wac_types_shapes.specs.declared.shapes.component.ItemKind.{ItemKind}
use Rattle.wac_types_shapes.specs.declared.shapes.component.ItemKind.TheVariants as kind
use Rattle.wac_merge_classes.specs.entries.Bindings.{ClassBindings}
use Rattle.wac_merge_classes.specs.entries.Classes.{Entry, by_names, canonical, class_names, is_instance, members}
use Rattle.wac_merge_classes.specs.terms.Merge.{IsIdentified, IsListed, class_id, export_list, export_lists, first_entry_id, instance_id, is_on_track, names_behind}
use Rattle.wac_merge_imports.specs.unions.MergedClasses.{IsClassId, first_id}
use Rattle.wac_merge_classes.specs.private.terms.MergedKinds.{AreInstancesOf, AreMergedKinds, IsMergedKind, as_instance, as_other, as_resource}
use Rattle.wac_merge_classes.specs.terms.Unions.{part, part_lists}
use Rattle.wac_merge_classes.specs.terms.Writing.{IsWrittenExport}
use Rattle.wac_merge_classes.specs.declared.terms.fresh.Fresh.{Fresh}
use Rattle.wac_merge_classes.specs.declared.terms.parts.Part.{Part}
use Rattle.wac_merge_classes.specs.declared.terms.parts.Union.{Union}
use Rattle.wac_merge_imports.proofs.lemmas.unions.Assembled.{AreAssembled}
use Rattle.wac_merge_imports.proofs.lemmas.unions.AssembledKinds.{merged-kinds}
use Rattle.wac_merge_classes.proofs.lemmas.terms.Found.{one_some}
use Rattle.wac_merge_trees.proofs.lemmas.trees.UnionTreesParts.{zip_map}

-- what instances of these interfaces export
pub instances-export : (c : Collection) (xs : List Entry) (is : List InterfaceId) → AreInstancesOf xs is → export_lists c xs ≡ map (interface_exports c) is
instances-export c [] [] z = refl
instances-export c [] (i ∷ is) z = absurd z
instances-export c (x ∷ xs) [] z = absurd z
instances-export c (x ∷ xs) (i ∷ is) z =
    ap (λ k. export_list c k (export_lists c xs)) z.0
    ∙ ap (λ l. interface_exports c i ∷ l) (instances-export c xs is z.1)

-- where they are united, the first part has the id that the first instance has
first-ids : (c : Collection) (ps : List Part) (k : ℕ) (xs : List Entry) (is : List InterfaceId) (qs : List ℕ) → AreInstancesOf xs is → AllZip (λ i q. slice_get ps q ≡ Some (part i None k)) is qs → first_id c ps qs ≡ first_entry_id c xs
first-ids c ps k [] [] [] z parts = refl
first-ids c ps k [] [] (q ∷ qs) z parts = absurd parts
first-ids c ps k [] (i ∷ is) qs z parts = absurd z
first-ids c ps k (x ∷ xs) [] qs z parts = absurd z
first-ids c ps k (x ∷ xs) (i ∷ is) [] z parts = absurd parts
first-ids c ps k (x ∷ xs) (i ∷ is) (q ∷ qs) z parts =
    ap (λ (o : Option Part). option_case o None (λ y. instance_id c (kind.Instance y.interface))) parts.0
    ∙ sym (ap (instance_id c) z.0)

-- what is no instance lists nothing
pub unlisted : (c m : Collection) (es : List Entry) (class : Name) (k : ItemKind) → is_instance k ≡ false → IsListed by_names c es class m k
unlisted c m es class (kind.Instance i) plain = absurd (false≢true (sym plain))
unlisted c m es class k plain = tt

module _ (c m : Collection) (es : List Entry) (roots : List (List InterfaceId)) (us : List Union) (ps : List Part) (bs : ClassBindings) (f : Fresh) (ids : List (Option Name)) (ws : List InterfaceId) (order : List ℕ) (imports : List Entry)
    (all : AreAssembled c m es roots us ps bs f ids ws order imports) where
  kinds : AreMergedKinds c es roots f m ids ws order imports
  kinds = merged-kinds c m es roots us ps bs f ids ws order imports all

  -- each class is imported
  pub count : length imports ≡ length order
  count = kinds.count

  -- under its canonical name
  pub names : (p k : ℕ) (class : Name) (e : Entry) → slice_get order p ≡ Some k → slice_get (class_names by_names es) k ≡ Some class → slice_get imports p ≡ Some e → e.name ≡ canonical by_names es class
  names = kinds.names

  module _ (k : ℕ) (class : Name) (at : slice_get (class_names by_names es) k ≡ Some class) (w : InterfaceId) (is : List InterfaceId) (rooted : slice_get roots k ≡ Some is) (given : slice_get ws k ≡ Some w) where
    -- the union of a class, and the interface that it became
    record IsWrittenUnion : Type 0 where
      pub union : Union
      pub of_class : slice_get us k ≡ Some union
      pub interface : Interface
      pub there : item_at m.interfaces w.0 ≡ Some interface
      pub identified : slice_get ids k ≡ Some interface.id
      pub exported : map (λ e. e.0) union.exports ≡ map (λ e. e.0) interface.exports
      pub parts : AllZip (λ i q. slice_get ps q ≡ Some (part i None k)) is union.parts.items

    written-union : IsWrittenUnion
    written-union =
        let u = all.merged.unions.rooted k is rooted in
        let x = all.merged.written.written k u.0 u.1 in
        let same : x.0 ≡ w = one_some (slice_get ws k) x.0 w x.2 given in
        record {
          union = u.0;
          of_class = u.1;
          interface = x.1;
          there = ap (λ (i : InterfaceId). item_at m.interfaces i.0) (sym same) ∙ x.3;
          identified = x.5;
          exported = zip_map (IsWrittenExport c m ps bs f ws k) (λ e. e.0) (λ e. e.0) (λ a b h. h.0) u.0.exports x.1.exports x.6;
          parts = u.2;
        }

    -- exports what the members of the class export
    pub exported-names : AreInstancesOf (members by_names es class) is → map (λ e. e.0) (interface_exports m w) ≡ names_behind [] (export_lists c (members by_names es class))
    exported-names instances =
        let u = written-union in
        let lists = zip_map (λ i q. slice_get ps q ≡ Some (part i None k)) (interface_exports c) (part_lists c ps) (λ i q on. sym (ap (λ (o : Option Part). option_case o [] (λ y. interface_exports c y.interface)) on)) is u.union.parts.items u.parts in
        ap (λ (o : Option Interface). map (λ e. e.0) (option_case o [] (λ it. it.exports))) u.there
        ∙ sym u.exported
        ∙ all.merged.unions.ordered k u.union u.of_class
        ∙ ap (names_behind []) (sym lists ∙ sym (instances-export c (members by_names es class) is instances))

    -- and has the id of the class
    pub identified : AreInstancesOf (members by_names es class) is → IsIdentified by_names c es class m w
    identified instances =
        let u = written-union in
        let id : IsClassId c es ps class u.union.parts.items u.interface.id = all.identified.classes k class u.union u.interface.id at u.of_class u.identified in
        let of_class : u.interface.id ≡ class_id by_names c es class =
        elim (cases_Bool (list_any (λ e. is_on_track by_names c class e.kind) (members by_names es class))) [
          | inl t ↦ rw t (id.0 t)
          | inr f ↦ rw f (id.1 f ∙ first-ids c ps k (members by_names es class) is u.union.parts.items instances u.parts)
        ] in
        (u.interface, u.there, of_class)

  -- an instance exports what its members export, in order of first appearance, and has the id of its class
  pub listed : (p k : ℕ) (class : Name) (e : Entry) → slice_get order p ≡ Some k → slice_get (class_names by_names es) k ≡ Some class → slice_get imports p ≡ Some e → IsListed by_names c es class m e.kind
  listed p k class e ordered at there = by e.kind (kinds.kinds p k class e ordered at there) where
    by : (x : ItemKind) → IsMergedKind es roots f m ws k class x → IsListed by_names c es class m x
    by x (as_instance w is rooted instances given) = (exported-names k class at w is rooted given instances, identified k class at w is rooted given instances)
    by x (as_resource q none is) = tt
    by x (as_other y none is plain itself) = unlisted c m es class y plain
