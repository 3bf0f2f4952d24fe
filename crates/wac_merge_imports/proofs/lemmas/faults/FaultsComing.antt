-- A fault inside an import stands inside an entry of its class.
use Rattle.std.proofs.Common.{◌≡◌, ℕ, Bool, true, false, List, [], slice_get, Contains, Option, Some, None, refl, sym, ap, ◌∙◌, subst}
use Rattle.std.proofs.lemmas.Option.{MatchOption-at_none}
use Rattle.wac_types_shapes.specs.primitives.Name.{Name, find_name, option_case}
use Rattle.wac_types_shapes.specs.shapes.Kinds.{kind_type}
use Rattle.wac_types_shapes.specs.declared.shapes.component.Interface.{Interface}
use Rattle.wac_types_shapes.specs.declared.shapes.component.InterfaceId.{InterfaceId}
use Rattle.wac_types_shapes.specs.declared.shapes.component.ItemKind.{ItemKind}
use Rattle.wac_types_shapes.specs.declared.shapes.component.ItemKind.TheVariants as kind
use Rattle.wac_types_shapes.specs.declared.shapes.component.ResourceId.{ResourceId}
use Rattle.wac_types_shapes.specs.declared.shapes.component.WorldId.{WorldId}
use Rattle.wac_types_shapes.specs.declared.shapes.component.«Type».{«Type» as AnyType}
use Rattle.wac_types_shapes.specs.declared.shapes.component.«Type».TheVariants as ty
use Rattle.wac_types_collection.specs.collection.Collection.{Collection, holds_type, interface_exports, item_at}
use Rattle.wac_types_collection.proofs.lemmas.wide.Members.{at_in, in_at, in_first, in_none}
use Rattle.wac_encode_faults.specs.declared.fault.WriteFault.{WriteFault}
use Rattle.wac_encode_faults.specs.Faults.{IsFaultInside, IsFaultOfListed, IsInside, IsListed, IsTypeFault, import_fault, in_item, listed_fault, listed_items}
use Rattle.wac_encode_faults.specs.Faults as faults
use Rattle.wac_merge_classes.specs.declared.terms.fresh.Fresh.{Fresh}
use Rattle.wac_merge_classes.specs.declared.terms.parts.Export.{Export}
use Rattle.wac_merge_classes.specs.declared.terms.parts.Part.{Part}
use Rattle.wac_merge_classes.specs.declared.terms.parts.Union.{Union}
use Rattle.wac_merge_classes.specs.entries.Bindings.{ClassBindings}
use Rattle.wac_merge_classes.specs.entries.Classes.{Entry, by_names, class_names, members, same_class}
use Rattle.wac_merge_classes.specs.terms.Became.{became}
use Rattle.wac_merge_classes.specs.terms.Renaming.{AreEnds}
use Rattle.wac_merge_classes.specs.terms.Unions.{IsExport, listed_under}
use Rattle.wac_merge_classes.specs.terms.Writing.{IsWrittenAs, IsWrittenExport, written_at}
use Rattle.wac_merge_classes.specs.private.terms.MergedKinds.{AreMergedKinds, IsMergedKind, as_instance, as_other, as_resource}
use Rattle.wac_merge_classes.proofs.lemmas.terms.Found.{find_at, no_some, one_some}
use Rattle.wac_merge_trees.proofs.lemmas.trees.UnionTreesWritten.{written_other, written_own}
use Rattle.wac_merge_imports.proofs.lemmas.fitting.MergedBindingsClasses.{filter-at, filter-has}
use Rattle.wac_merge_imports.proofs.lemmas.unions.Assembled.{AreAssembled}
use Rattle.wac_merge_imports.proofs.lemmas.faults.Kept.{fault_kept}
use Rattle.wac_merge_imports.proofs.lemmas.faults.Coming.{export_of, inner_union, item_held, listed_part, outer_item}
use Rattle.wac_merge_imports.proofs.lemmas.faults.FromEntries.{root_member, root_union}

-- ---- types without items

module _ (c : Collection) where
  -- nothing lies inside a type that lists nothing, and it has no fault
  plain_fault : (s t : AnyType) (g : WriteFault) → IsInside c s t → listed_items c t ≡ [] → ((w : WorldId) → t ≡ ty.World w → ⊥) → IsTypeFault c s g → ⊥
  plain_fault s t g (faults.itself _ _ same) none other h = no_fault s h same where
    no_fault : (s : AnyType) → IsTypeFault c s g → s ≡ t → ⊥
    no_fault s (faults.of_listed _ _ w) e = in_none ((w.1).0, w.0) (subst (λ l. Contains l ((w.1).0, w.0)) (ap (listed_items c) e ∙ none) (w.1).1)
    no_fault _ (faults.of_world w _ _) e = other w (sym e)
  plain_fault s t g (in_item _ _ k listed more) none other h = in_none (listed.0, k) (subst (λ l. Contains l (listed.0, k)) none listed.1)

  -- the fault of an interface is one of what it lists
  pub of_interface : (s : AnyType) (g : WriteFault) → IsTypeFault c s g → (w : InterfaceId) → s ≡ ty.Interface w → IsFaultOfListed (interface_exports c w) g
  of_interface s g (faults.of_listed _ _ h) w e = subst (λ t. IsFaultOfListed (listed_items c t) g) e h
  of_interface _ g (faults.of_world v _ h) w e = cc

module _ (c m : Collection) (es : List Entry) (roots : List (List InterfaceId)) (us : List Union) (ps : List Part) (bs : ClassBindings) (f : Fresh) (ids : List (Option Name)) (ws : List InterfaceId) (order : List ℕ) (imports : List Entry)
    (all : AreAssembled c m es roots us ps bs f ids ws order imports) (are : AreMergedKinds c es roots f m ids ws order imports) (ends : (o : Option ℕ) → AreEnds c m (became c ps bs f o)) where
  -- A part of the union has the fault inside its interface.
  pub record HasFaultyPart (u : ℕ) (g : WriteFault) : Type 0 where
    pub place : ℕ
    pub part_there : Part
    pub at : slice_get ps place ≡ Some part_there
    pub of_union : part_there.union ≡ u
    pub is_faulty : IsFaultInside c (ty.Interface part_there.interface) g

  -- what was written has the fault of what it was made of
  same_fault : (r : ResourceId → ResourceId) (o : Option InterfaceId) (n : Name) (a k : ItemKind) (g : WriteFault) → IsWrittenAs c m r o n a k → listed_fault k ≡ Some g → listed_fault a ≡ Some g
  same_fault r o n (kind.TypeItem (ty.Resource a)) (kind.TypeItem (ty.Resource b)) g w h = absurd (no_some g h)
  same_fault r o n (kind.TypeItem (ty.Interface a)) (kind.TypeItem (ty.Interface b)) g w h = absurd (no_some g h)
  same_fault r o n (kind.TypeItem (ty.Func a)) (kind.TypeItem (ty.Func b)) g w h = absurd (no_some g h)
  same_fault r o n (kind.TypeItem (ty.Value a)) (kind.TypeItem (ty.Value b)) g w h = absurd (no_some g h)
  same_fault r o n (kind.TypeItem (ty.World a)) (kind.TypeItem (ty.World b)) g w h = absurd (no_some g h)
  same_fault r o n (kind.TypeItem (ty.Module a)) (kind.TypeItem (ty.Module b)) g w h = h
  same_fault r o n (kind.Func a) (kind.Func b) g w h = absurd (no_some g h)
  same_fault r o n (kind.Instance a) (kind.Instance b) g w h = absurd (no_some g h)
  same_fault r o n (kind.Component a) (kind.Component b) g w h = h
  same_fault r o n (kind.Module a) (kind.Module b) g w h = h
  same_fault r o n (kind.Value a) (kind.Value b) g w h = h
  same_fault r o n a k g w h = absurd w

  -- so as an import of the root
  same_own_fault : (r : ResourceId → ResourceId) (o : Option InterfaceId) (n : Name) (a k : ItemKind) (g : WriteFault) → IsWrittenAs c m r o n a k → import_fault k ≡ Some g → import_fault a ≡ Some g
  same_own_fault r o n (kind.TypeItem (ty.Resource a)) (kind.TypeItem (ty.Resource b)) g w h = absurd (no_some g h)
  same_own_fault r o n (kind.TypeItem (ty.Interface a)) (kind.TypeItem (ty.Interface b)) g w h = absurd (no_some g h)
  same_own_fault r o n (kind.TypeItem (ty.Func a)) (kind.TypeItem (ty.Func b)) g w h = absurd (no_some g h)
  same_own_fault r o n (kind.TypeItem (ty.Value a)) (kind.TypeItem (ty.Value b)) g w h = absurd (no_some g h)
  same_own_fault r o n (kind.TypeItem (ty.World a)) (kind.TypeItem (ty.World b)) g w h = absurd (no_some g h)
  same_own_fault r o n (kind.TypeItem (ty.Module a)) (kind.TypeItem (ty.Module b)) g w h = h
  same_own_fault r o n (kind.Func a) (kind.Func b) g w h = absurd (no_some g h)
  same_own_fault r o n (kind.Instance a) (kind.Instance b) g w h = absurd (no_some g h)
  same_own_fault r o n (kind.Component a) (kind.Component b) g w h = absurd (no_some g h)
  same_own_fault r o n (kind.Module a) (kind.Module b) g w h = absurd (no_some g h)
  same_own_fault r o n (kind.Value a) (kind.Value b) g w h = h
  same_own_fault r o n a k g w h = absurd w

  -- ---- in a union

  module _ (u : ℕ) (x : Union) (at : slice_get us u ≡ Some x) (g : WriteFault) where
    -- what a part lists
    listed_by : (n : Name) (e : ℕ × ItemKind) → Contains (listed_under c ps x.parts.items n) e
        → (y : Part) × (slice_get ps e.0 ≡ Some y) × (y.union ≡ u) × IsListed e.1 (listed_items c (ty.Interface y.interface)) × (holds_type c (kind_type e.1) ≡ true)
    listed_by n e h =
        let p = listed_part c m es roots us ps bs f ids ws all.merged ends u x at n e h in
        let there : find_name (interface_exports c (p.0).interface) n ≡ Some e.1 = sym (ap (λ (z : Option Part). find_name (option_case z [] (λ y. interface_exports c y.interface)) n) p.1) ∙ p.3 in
        let place = find_at (interface_exports c (p.0).interface) n e.1 there in
        (p.0, p.1, p.2, (n, at_in (interface_exports c (p.0).interface) place.0 (n, e.1) place.1), item_held c m es roots us ps bs f ids ws all.merged ends e.0 p.0 p.1 n e.1 p.3)

    -- an item with the fault
    faulty_item : (n : Name) (e : ℕ × ItemKind) → Contains (listed_under c ps x.parts.items n) e → listed_fault e.1 ≡ Some g → HasFaultyPart u g
    faulty_item n e h is =
        let y = listed_by n e h in
        record {
          place = e.0;
          part_there = y.0;
          at = y.1;
          of_union = y.2;
          is_faulty = (ty.Interface (y.0).interface, faults.itself _ _ refl, faults.of_listed (ty.Interface (y.0).interface) g (e.1, y.3, is));
        }

    -- an item with the fault inside its type
    faulty_inside : (n : Name) (e : ℕ × ItemKind) → Contains (listed_under c ps x.parts.items n) e → IsFaultInside c (kind_type e.1) g → HasFaultyPart u g
    faulty_inside n e h w =
        let y = listed_by n e h in
        record {
          place = e.0;
          part_there = y.0;
          at = y.1;
          of_union = y.2;
          is_faulty = (w.0, in_item w.0 (ty.Interface (y.0).interface) e.1 y.3 w.1, w.2);
        }

    module _ (n : Name) (e : Export) (export : IsExport c us ps u n (listed_under c ps x.parts.items n) e) where
      first_item : Contains (listed_under c ps x.parts.items n) (e.part, e.kind)
      first_item = subst (λ l. Contains l (e.part, e.kind)) (sym export.first) (in_first (e.part, e.kind) export.more)

      from_inner : (j : InterfaceId) → written_at ws e.inner ≡ Some j → ((v : ℕ) (z : Union) → slice_get us v ≡ Some z → slice_get ws v ≡ Some j → HasFaultyPart v g) → HasFaultyPart u g
      from_inner j given deeper =
          let v = inner_union c m es roots us ps bs f ids ws all.merged ends u x at n e export j given in
          let p = deeper v.0 v.1 v.2 v.3 in
          let from = outer_item c m es roots us ps bs f ids ws all.merged ends u x at n e export v.0 v.1 v.2 v.4 p.place p.part_there p.at p.of_union in
          faulty_inside n (from.0, from.1) from.2 (subst (λ t. IsFaultInside c t g) (sym from.3) p.is_faulty)

      -- a world is the same one
      from_world : (a : ItemKind) (v w : WorldId) → e.kind ≡ a → kind_type a ≡ ty.World v → v ≡ w → IsFaultInside m (ty.World w) g → HasFaultyPart u g
      from_world a v w is of same h =
          let held = (listed_by n (e.part, e.kind) first_item).4 in
          let here = subst (λ t. IsFaultInside m t g) (ap ty.World (sym same) ∙ sym (ap kind_type is ∙ of)) h in
          faulty_inside n (e.part, e.kind) first_item (fault_kept c m all.merged.source all.extended.kept (kind_type e.kind) g here held)

      abbrev Deeper : ItemKind → Type 0
      Deeper k = (j : InterfaceId) → kind_type k ≡ ty.Interface j → (v : ℕ) (z : Union) → slice_get us v ≡ Some z → slice_get ws v ≡ Some j → HasFaultyPart v g

      from_written : (r : ResourceId → ResourceId) (a k : ItemKind) → e.kind ≡ a → IsWrittenAs c m r (written_at ws e.inner) n a k → IsFaultInside m (kind_type k) g → Deeper k → HasFaultyPart u g
      from_written r (kind.TypeItem (ty.Resource i)) (kind.TypeItem (ty.Resource j)) is w h deeper = absurd (plain_fault m h.0 (ty.Resource j) g h.1 refl (λ v e. cc) h.2)
      from_written r (kind.TypeItem (ty.Interface i)) (kind.TypeItem (ty.Interface j)) is w h deeper = from_inner j w (deeper j refl)
      from_written r (kind.TypeItem (ty.Func i)) (kind.TypeItem (ty.Func j)) is w h deeper = absurd (plain_fault m h.0 (ty.Func j) g h.1 refl (λ v e. cc) h.2)
      from_written r (kind.TypeItem (ty.Value i)) (kind.TypeItem (ty.Value j)) is w h deeper = absurd (plain_fault m h.0 (ty.Value j) g h.1 refl (λ v e. cc) h.2)
      from_written r (kind.TypeItem (ty.World i)) (kind.TypeItem (ty.World j)) is w h deeper = from_world (kind.TypeItem (ty.World i)) i j is refl w h
      from_written r (kind.TypeItem (ty.Module i)) (kind.TypeItem (ty.Module j)) is w h deeper = absurd (plain_fault m h.0 (ty.Module j) g h.1 refl (λ v e. cc) h.2)
      from_written r (kind.Func i) (kind.Func j) is w h deeper = absurd (plain_fault m h.0 (ty.Func j) g h.1 refl (λ v e. cc) h.2)
      from_written r (kind.Instance i) (kind.Instance j) is w h deeper = from_inner j w (deeper j refl)
      from_written r (kind.Component i) (kind.Component j) is w h deeper = from_world (kind.Component i) i j is refl w h
      from_written r (kind.Module i) (kind.Module j) is w h deeper = absurd (plain_fault m h.0 (ty.Module j) g h.1 refl (λ v e. cc) h.2)
      from_written r (kind.Value i) (kind.Value j) is w h deeper = absurd (plain_fault m h.0 (ty.Value j) g h.1 refl (λ v e. cc) h.2)
      from_written r a k is w h deeper = absurd w

  -- the interface that a union became
  its_interface : (u : ℕ) (x : Union) → slice_get us u ≡ Some x → (w : InterfaceId) → slice_get ws u ≡ Some w → (it : Interface) × (item_at m.interfaces w.0 ≡ Some it)
  its_interface u x at w given =
      let made = all.merged.written.written u x at in
      let same : made.0 ≡ w = one_some (slice_get ws u) made.0 w made.2 given in
      (made.1, ap (λ (z : InterfaceId). item_at m.interfaces z.0) (sym same) ∙ made.3)

  exported_by : (w : InterfaceId) (it : Interface) → item_at m.interfaces w.0 ≡ Some it → interface_exports m w ≡ it.exports
  exported_by w it here = ap (λ (o : Option Interface). option_case o [] (λ x. x.exports)) here

  -- A fault inside the interface that a union became.
  pub faulty_part : (s t : AnyType) (g : WriteFault) → IsInside m s t → IsTypeFault m s g → (w : InterfaceId) → t ≡ ty.Interface w → (u : ℕ) (x : Union) → slice_get us u ≡ Some x → slice_get ws u ≡ Some w → HasFaultyPart u g
  faulty_part s t g (faults.itself _ _ same) h w e u x at given =
      let listed = of_interface m s g h w (same ∙ e) in
      let it = its_interface u x at w given in
      let from = export_of c m es roots us ps bs f ids ws all.merged ends u x at w given it.0 it.1 (listed.1).0 listed.0 (subst (λ l. Contains l ((listed.1).0, listed.0)) (exported_by w it.0 it.1) (listed.1).1) in
      by (listed.1).0 listed.0 listed.2 from.0 from.1 from.2 from.3 (from.1).is_own refl
    where
      by : (n : Name) (k : ItemKind) → listed_fault k ≡ Some g → (o : Name) (y : Export) → IsExport c us ps u o (listed_under c ps x.parts.items o) y → IsWrittenExport c m ps bs f ws u (o, y) (n, k) → (b : Bool) → y.is_own ≡ b → HasFaultyPart u g
      by n k fault o y export written true is =
          let z = written_own c m us ps bs f ws u o n y k written is in
          absurd (no_some g (sym (ap listed_fault z.2) ∙ fault))
      by n k fault o y export written false is =
          faulty_item u x at g o (y.part, y.kind) (first_item u x at g o y export)
          (same_fault (became c ps bs f (Some y.part)) (written_at ws y.inner) o y.kind k g (written_other c m us ps bs f ws u o n y k written is) fault)
  faulty_part s t g (in_item _ _ k listed more) h w e u x at given =
      let it = its_interface u x at w given in
      let here : Contains (it.0).exports (listed.0, k) = subst (λ l. Contains l (listed.0, k)) (ap (listed_items m) e ∙ exported_by w it.0 it.1) listed.1 in
      let from = export_of c m es roots us ps bs f ids ws all.merged ends u x at w given it.0 it.1 listed.0 k here in
      by (λ j same v z at_v given_v. faulty_part s (kind_type k) g more h j same v z at_v given_v) listed.0 from.0 from.1 from.2 from.3 (from.1).is_own refl
    where
      by : ((j : InterfaceId) → kind_type k ≡ ty.Interface j → (v : ℕ) (z : Union) → slice_get us v ≡ Some z → slice_get ws v ≡ Some j → HasFaultyPart v g)
          → (n o : Name) (y : Export) → IsExport c us ps u o (listed_under c ps x.parts.items o) y → IsWrittenExport c m ps bs f ws u (o, y) (n, k) → (b : Bool) → y.is_own ≡ b → HasFaultyPart u g
      by deeper n o y export written true is =
          let z = written_own c m us ps bs f ws u o n y k written is in
          absurd (plain_fault m s (kind_type k) g more (ap (λ y. listed_items m (kind_type y)) z.2) (λ v same. no_world z.0 v (sym (ap kind_type z.2) ∙ same)) h)
        where
          no_world : (q : ResourceId) (v : WorldId) → ty.Resource q ≡ ty.World v → ⊥
          no_world q v e = cc
      by deeper n o y export written false is =
          from_written u x at g o y export (became c ps bs f (Some y.part)) y.kind k refl (written_other c m us ps bs f ws u o n y k written is) (s, more, h) deeper

  -- ---- imports

  -- An entry of the class has the fault inside its type.
  abbrev pub HasFaultyEntry : Name → WriteFault → Type 0
  HasFaultyEntry class g = (e : Entry) × Contains (members by_names es class) e × IsFaultInside c (kind_type e.kind) g

  module _ (k : ℕ) (class : Name) (numbered : slice_get (class_names by_names es) k ≡ Some class) (g : WriteFault) where
    of_union : (w : InterfaceId) → slice_get ws k ≡ Some w → IsFaultInside m (ty.Interface w) g → HasFaultyEntry class g
    of_union w given h =
        let u = root_union c m es roots us ps bs f ids ws order imports all are ends k class numbered in
        let p = faulty_part h.0 (ty.Interface w) g h.1 h.2 w refl k u.0 u.1 given in
        let e = root_member c m es roots us ps bs f ids ws order imports all are ends k class numbered p.place p.part_there p.at p.of_union in
        ((e.0).0, (e.0).1, subst (λ t. IsFaultInside c t g) (sym (e.0).2) p.is_faulty)

    module _ (e : Entry) (member : Contains (members by_names es class) e) where
      is_held : holds_type c (kind_type e.kind) ≡ true
      is_held =
          let j = in_at (members by_names es class) e member in
          let x = filter-at (λ (y : Entry). same_class by_names es class y.name) es j.0 e j.2 in
          all.held x.1 e x.2

      of_world : (a : ItemKind) (v w : WorldId) → e.kind ≡ a → kind_type a ≡ ty.World v → v ≡ w → IsFaultInside m (ty.World w) g → HasFaultyEntry class g
      of_world a v w is of same h =
          (e, member, fault_kept c m all.merged.source all.extended.kept (kind_type e.kind) g (subst (λ t. IsFaultInside m t g) (ap ty.World (sym same) ∙ sym (ap kind_type is ∙ of)) h) is_held)

      of_written : (r : ResourceId → ResourceId) (a l : ItemKind) → e.kind ≡ a → IsWrittenAs c m r (slice_get ws k) e.name a l → IsFaultInside m (kind_type l) g → HasFaultyEntry class g
      of_written r (kind.TypeItem (ty.Resource i)) (kind.TypeItem (ty.Resource j)) is w h = absurd (plain_fault m h.0 (ty.Resource j) g h.1 refl (λ v e. cc) h.2)
      of_written r (kind.TypeItem (ty.Interface i)) (kind.TypeItem (ty.Interface j)) is w h = of_union j w h
      of_written r (kind.TypeItem (ty.Func i)) (kind.TypeItem (ty.Func j)) is w h = absurd (plain_fault m h.0 (ty.Func j) g h.1 refl (λ v e. cc) h.2)
      of_written r (kind.TypeItem (ty.Value i)) (kind.TypeItem (ty.Value j)) is w h = absurd (plain_fault m h.0 (ty.Value j) g h.1 refl (λ v e. cc) h.2)
      of_written r (kind.TypeItem (ty.World i)) (kind.TypeItem (ty.World j)) is w h = of_world (kind.TypeItem (ty.World i)) i j is refl w h
      of_written r (kind.TypeItem (ty.Module i)) (kind.TypeItem (ty.Module j)) is w h = absurd (plain_fault m h.0 (ty.Module j) g h.1 refl (λ v e. cc) h.2)
      of_written r (kind.Func i) (kind.Func j) is w h = absurd (plain_fault m h.0 (ty.Func j) g h.1 refl (λ v e. cc) h.2)
      of_written r (kind.Instance i) (kind.Instance j) is w h = of_union j w h
      of_written r (kind.Component i) (kind.Component j) is w h = of_world (kind.Component i) i j is refl w h
      of_written r (kind.Module i) (kind.Module j) is w h = absurd (plain_fault m h.0 (ty.Module j) g h.1 refl (λ v e. cc) h.2)
      of_written r (kind.Value i) (kind.Value j) is w h = absurd (plain_fault m h.0 (ty.Value j) g h.1 refl (λ v e. cc) h.2)
      of_written r a l is w h = absurd w

  -- A fault inside an import.
  pub fault_from : (p k : ℕ) (class : Name) (x : Entry) → slice_get order p ≡ Some k → slice_get (class_names by_names es) k ≡ Some class → slice_get imports p ≡ Some x → (g : WriteFault) → IsFaultInside m (kind_type x.kind) g → HasFaultyEntry class g
  fault_from p k class x ordered numbered there g h = by x.kind refl (are.kinds p k class x ordered numbered there) where
    by : (y : ItemKind) → x.kind ≡ y → IsMergedKind es roots f m ws k class y → HasFaultyEntry class g
    by y same (as_instance w js rooted instances given) = of_union k class numbered g w given (subst (λ z. IsFaultInside m (kind_type z) g) same h)
    by y same (as_resource r none whole) = let w = subst (λ z. IsFaultInside m (kind_type z) g) same h in absurd (plain_fault m w.0 (ty.Resource r) g w.1 refl (λ v e. cc) w.2)
    by y same (as_other l none whole plain itself) =
        let w = all.imported.each p k class x ordered numbered there in
        let j = filter-has (λ (y : Entry). same_class by_names es class y.name) es w.0 w.1 w.2 w.3 in
        let made : IsWrittenAs c m (became c ps bs f None) (slice_get ws k) (w.1).name (w.1).kind x.kind = MatchOption-at_none _ _ whole w.6 in
        of_written k class numbered g w.1 (at_in (members by_names es class) j.0 w.1 j.1) (became c ps bs f None) (w.1).kind x.kind refl made h

  -- The own fault of an import.
  pub own_fault_from : (p k : ℕ) (class : Name) (x : Entry) → slice_get order p ≡ Some k → slice_get (class_names by_names es) k ≡ Some class → slice_get imports p ≡ Some x → (g : WriteFault) → import_fault x.kind ≡ Some g
      → (e : Entry) × Contains (members by_names es class) e × (import_fault e.kind ≡ Some g)
  own_fault_from p k class x ordered numbered there g h = by x.kind refl (are.kinds p k class x ordered numbered there) where
    by : (y : ItemKind) → x.kind ≡ y → IsMergedKind es roots f m ws k class y → (e : Entry) × Contains (members by_names es class) e × (import_fault e.kind ≡ Some g)
    by y same (as_instance w js rooted instances given) = absurd (no_some g (sym (ap import_fault same) ∙ h))
    by y same (as_resource r none whole) = absurd (no_some g (sym (ap import_fault same) ∙ h))
    by y same (as_other l none whole plain itself) =
        let w = all.imported.each p k class x ordered numbered there in
        let j = filter-has (λ (y : Entry). same_class by_names es class y.name) es w.0 w.1 w.2 w.3 in
        let made : IsWrittenAs c m (became c ps bs f None) (slice_get ws k) (w.1).name (w.1).kind x.kind = MatchOption-at_none _ _ whole w.6 in
        (w.1, at_in (members by_names es class) j.0 w.1 j.1, same_own_fault (became c ps bs f None) (slice_get ws k) (w.1).name (w.1).kind x.kind g made h)
