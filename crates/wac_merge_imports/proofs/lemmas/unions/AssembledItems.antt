-- The item of each import of a finished merge is that of its class.
use Rattle.std.proofs.Common.{◌≡◌, ℕ, zero, suc, ◌<◌, ◌&&◌, true, false, List, [], ◌∷◌, fold, length, map, nat_lt, slice_get, Option, Some, None, refl, sym, ap, ◌∙◌, subst, arith}
use Rattle.std.proofs.lemmas.Bool.{and_from, and_parts, false≢true, false_from_ne_true}
use Rattle.std.proofs.lemmas.Option.{slice_get_within}
use Rattle.std.specs.List.{Contains}
use Rattle.std.specs.Option.{MatchOption}
use Rattle.wac_types_shapes.specs.primitives.Name.{Name, same_name, option_case}
use Rattle.wac_types_shapes.specs.primitives.Tree.{TypeTree, absent, imported, instance, position, resource, type_equal}
use Rattle.wac_types_collection.specs.collection.Collection.{Collection, HasInterface, holds_type, item_at}
use Rattle.wac_types_shapes.specs.shapes.Kinds.{kind_type}
use Rattle.wac_types_collection.specs.collection.Held.{resolved, unfolded}
use Rattle.wac_types_collection.specs.collection.Bound.{Bindings, held_item, held_tree}
use Rattle.wac_types_shapes.specs.declared.shapes.component.Interface.{Interface}
use Rattle.wac_types_shapes.specs.declared.shapes.component.InterfaceId.{InterfaceId}
use Rattle.wac_types_shapes.specs.declared.shapes.component.ResourceId.{ResourceId}
use Rattle.wac_types_shapes.specs.declared.shapes.component.«Type».TheVariants as ty
use Rattle.wac_types_shapes.specs.declared.shapes.component.ItemKind.{ItemKind}
use Rattle.wac_types_shapes.specs.declared.shapes.component.ItemKind.TheVariants as kind
use Rattle.wac_types_shapes.proofs.lemmas.shapes.Names.{same_name-refl, same_name-true}
use Rattle.wac_types_collection.specs.subtyping.Called.{Called, by_binding}
use Rattle.wac_merge_classes.specs.entries.Agreement.{called_outside, compared}
use Rattle.wac_merge_classes.specs.terms.Became.{became, whole_in}
use Rattle.wac_merge_classes.specs.entries.Binding.{root_bindings}
use Rattle.wac_merge_classes.specs.entries.Bindings.{ClassBindings, path_in}
use Rattle.wac_merge_classes.specs.entries.Classes.{Entry, by_names, class_names, is_instance, members, names_instance, same_class}
use Rattle.wac_merge_classes.specs.terms.NoDisagreement.{HasNoDisagreement}
use Rattle.wac_merge_classes.specs.terms.Merge.{position_in}
use Rattle.wac_merge_imports.specs.unions.MergedClasses.{IsClassKind, class_roots, with_root}
use Rattle.wac_merge_classes.specs.private.terms.MergedKinds.{AreInstancesOf, AreMergedKinds, AreNoInstances, IsMergedKind, as_instance, as_other, as_resource}
use Rattle.wac_merge_classes.specs.entries.Places.{resource_itself}
use Rattle.wac_merge_classes.specs.terms.Renaming.{Fits}
use Rattle.wac_merge_classes.specs.terms.Union.{merged}
use Rattle.wac_merge_classes.specs.terms.Writing.{IsWrittenAs}
use Rattle.wac_merge_classes.specs.declared.terms.fresh.Fresh.{Fresh}
use Rattle.wac_merge_classes.specs.declared.terms.parts.Part.{Part}
use Rattle.wac_merge_classes.specs.declared.terms.parts.Union.{Union}
use Rattle.wac_merge_imports.proofs.lemmas.unions.Assembled.{AreAssembled, AreDeep}
use Rattle.wac_merge_classes.proofs.lemmas.entries.Canonical.{class_name-asked}
use Rattle.wac_merge_classes.proofs.lemmas.entries.ClassFacts.{class-of_same}
use Rattle.wac_merge_classes.proofs.lemmas.terms.Found.{some_same}
use Rattle.wac_merge_imports.proofs.lemmas.fitting.Fitting.{fits-at-root, fits-at-root-bare, fits-inside}
use Rattle.wac_merge_imports.proofs.lemmas.fitting.FittingClasses.{bare-class, contains-at}
use Rattle.wac_merge_classes.proofs.lemmas.entries.Lists.{any-at, any-found, some-at}
use Rattle.wac_merge_imports.proofs.lemmas.fitting.MergedBindings.{merged-bindings}
use Rattle.wac_merge_imports.proofs.lemmas.fitting.MergedBindingsClasses.{filter-at, filter-has, position-is}
use Rattle.wac_merge_trees.proofs.lemmas.trees.UnionTreesClasses.{members_agree}
use Rattle.wac_merge_trees.proofs.lemmas.trees.UnionTreesHeld.{called_interface, interface_there}
use Rattle.wac_merge_trees.proofs.lemmas.trees.UnionTreesKinds.{MustAgree, is_instance_item}
use Rattle.wac_merge_trees.proofs.lemmas.trees.UnionTreesMerged.{instances_merged, type_merged}
use Rattle.wac_merge_trees.proofs.lemmas.trees.UnionTreesNext.{AllFitInside}
use Rattle.wac_merge_trees.proofs.lemmas.trees.UnionTreesParts.{at_contains as contained-at, zip_map}
use Rattle.wac_merge_trees.proofs.lemmas.trees.UnionTreesPlain.{class_plain, class_whole, same_position}

-- ---- classes

nowhere : {A : Type 0} (j : ℕ) (e : Entry) → slice_get [] j ≡ Some e → A
nowhere j e at = cc

module _ (es : List Entry) (k : ℕ) (class : Name) (numbered : slice_get (class_names by_names es) k ≡ Some class) where
  -- the entry with the class's first name
  namer : (i : ℕ) × (e : Entry) × (slice_get es i ≡ Some e) × (e.name ≡ class)
  namer =
      let asked = class_name-asked es es class (any-at (λ (n : Name). same_name n class) (class_names by_names es) k class numbered (same_name-refl class)) in
      let w = any-found (λ (e : Entry). same_name e.name class) es asked in
      (w.0, w.1, w.2, same_name-true (w.1).name class w.3)

  member-of : (i : ℕ) (e : Entry) → slice_get es i ≡ Some e → e.name ≡ class → (j : ℕ) × (slice_get (members by_names es class) j ≡ Some e)
  member-of i e at name = filter-has (λ (x : Entry). same_class by_names es class x.name) es i e at (class-of_same by_names es class e.name (sym name))

  -- each class has a member
  some-member : (e : Entry) × (more : List Entry) × (members by_names es class ≡ e ∷ more)
  some-member = let n = namer in let j = member-of n.0 n.1 n.2 n.3 in by (members by_names es class) refl j.0 n.1 j.1 where
    by : (xs : List Entry) → members by_names es class ≡ xs → (j : ℕ) (e : Entry) → slice_get (members by_names es class) j ≡ Some e → (e : Entry) × (more : List Entry) × (members by_names es class ≡ e ∷ more)
    by [] is j e at = nowhere j e (ap (λ xs. slice_get xs j) (sym is) ∙ at)
    by (x ∷ xs) is j e at = (x, xs, is)

  -- one of instances has the name of an instance
  of-instances : ((i : ℕ) (e : Entry) → slice_get (members by_names es class) i ≡ Some e → is_instance e.kind ≡ true) → names_instance es class ≡ true
  of-instances all =
      let n = namer in
      let j = member-of n.0 n.1 n.2 n.3 in
      any-at (λ (e : Entry). same_name e.name class && is_instance e.kind) es n.0 n.1 n.2
      (and_from (same_name (n.1).name class) (is_instance (n.1).kind) (ap (λ x. same_name x class) n.3 ∙ same_name-refl class) (all j.0 n.1 j.1))

  -- and one of none has not
  of-none : AreNoInstances (members by_names es class) → names_instance es class ≡ false
  of-none none = false_from_ne_true (names_instance es class) (λ t.
      let w = any-found (λ (e : Entry). same_name e.name class && is_instance e.kind) es t in
      let b = and_parts (same_name (w.1).name class) (is_instance (w.1).kind) w.3 in
      let j = member-of w.0 w.1 w.2 (same_name-true (w.1).name class b.0) in
      false≢true (sym (none w.1 (contains-at (members by_names es class) j.0 w.1 j.1)) ∙ b.1))

instances-all : (xs : List Entry) (is : List InterfaceId) → AreInstancesOf xs is → (i : ℕ) (e : Entry) → slice_get xs i ≡ Some e → is_instance e.kind ≡ true
instances-all [] is z i e at = cc
instances-all (x ∷ xs) [] z i e at = absurd z
instances-all (x ∷ xs) (y ∷ is) z zero e at = ap (λ (w : Entry). is_instance w.kind) (sym (some_same x e at)) ∙ ap is_instance z.0
instances-all (x ∷ xs) (y ∷ is) z (suc i) e at = instances-all xs is z.1 i e at

-- ---- no instances

no-item : (k : ItemKind) → is_instance k ≡ false → is_instance_item k ≡ false
no-item (kind.Instance i) e = absurd (false≢true (sym e))
no-item (kind.TypeItem t) e = refl
no-item (kind.Func t) e = refl
no-item (kind.Component t) e = refl
no-item (kind.Module t) e = refl
no-item (kind.Value t) e = refl

-- the interface that the first is stays alone
one-root : (i : InterfaceId) (k : ItemKind) → is_instance k ≡ false → with_root (i ∷ []) k ≡ i ∷ []
one-root i (kind.Instance j) e = absurd (false≢true (sym e))
one-root i (kind.TypeItem (ty.Resource t)) e = refl
one-root i (kind.TypeItem (ty.Func t)) e = refl
one-root i (kind.TypeItem (ty.Value t)) e = refl
one-root i (kind.TypeItem (ty.Interface t)) e = refl
one-root i (kind.TypeItem (ty.World t)) e = refl
one-root i (kind.TypeItem (ty.Module t)) e = refl
one-root i (kind.Func t) e = refl
one-root i (kind.Component t) e = refl
one-root i (kind.Module t) e = refl
one-root i (kind.Value t) e = refl

stays-alone : (i : InterfaceId) (xs : List Entry) → ((j : ℕ) (e : Entry) → slice_get xs j ≡ Some e → is_instance e.kind ≡ false) → fold with_root (i ∷ []) (map (λ e. e.kind) xs) ≡ i ∷ []
stays-alone i [] none = refl
stays-alone i (x ∷ xs) none = ap (λ is. fold with_root is (map (λ e. e.kind) xs)) (one-root i x.kind (none 0 x refl)) ∙ stays-alone i xs (λ j e at. none (suc j) e at)

low : (i n : ℕ) → nat_lt i n ≡ true → i < n
low i n h = grind arith

-- an interface is compared as no resource is
kinds-apart : (t : TypeTree Called) (g : Name → TypeTree Called) (o : Option Called) → t ≡ instance g → type_equal t ≡ type_equal (option_case o absent resource) → ⊥
kinds-apart t g None is e = let same : t ≡ absent = cc in cc
kinds-apart t g (Some l) is e = let same : t ≡ resource l = cc in cc

-- ---- the items

module _ (c m : Collection) (es : List Entry) (roots : List (List InterfaceId)) (us : List Union) (ps : List Part) (bs : ClassBindings) (f : Fresh) (ids : List (Option Name)) (ws : List InterfaceId) (order : List ℕ) (imports : List Entry)
    (all : AreAssembled c m es roots us ps bs f ids ws order imports) (deep : AreDeep c m) (are : AreMergedKinds c es roots f m ids ws order imports) where
  abbrev root : Bindings
  root = root_bindings by_names c es (position_in order)

  abbrev around : Bindings
  around = root_bindings by_names m imports (λ i. i)

  fits : Fits c root around (became c ps bs f None)
  fits = merged-bindings c m es roots us ps bs f ids ws all.merged order imports are

  none-disagrees : HasNoDisagreement by_names c es
  none-disagrees i j d = d.apart (all.agreed i j d.earlier d.later d.before d.at_first d.at_second d.one_class)

  fit : AllFitInside c m ps bs f ws
  fit q o y it w jt at outer is at_w at_jt n outside h = fits-inside c m es roots us ps bs f ids ws all.merged q y it jt w at is at_w at_jt o outer n outside h

  -- the interface that a union became
  written-at : (k : ℕ) (x : Union) (w : InterfaceId) → slice_get us k ≡ Some x → slice_get ws k ≡ Some w → (it : Interface) × (item_at m.interfaces w.0 ≡ Some it)
  written-at k x w at at_w =
      let r = all.merged.written.written k x at in
      let same : r.0 ≡ w = some_same r.0 w (sym r.2 ∙ at_w) in
      (r.1, ap (λ (i : InterfaceId). item_at m.interfaces i.0) (sym same) ∙ r.3)

  module _ (k : ℕ) (class : Name) (numbered : slice_get (class_names by_names es) k ≡ Some class) where
    -- a class of instances
    module _ (w : InterfaceId) (at_w : slice_get ws k ≡ Some w) where
      instances-item : (at : ℕ) (is : List InterfaceId) → slice_get roots k ≡ Some is → AreInstancesOf (members by_names es class) is → held_item m around imported (position at ∷ []) (kind.Instance w) ≡ merged by_names c es root at class
      instances-item at is rooted given = by is rooted given (some-member es k class numbered) where
        by : (is : List InterfaceId) → slice_get roots k ≡ Some is → AreInstancesOf (members by_names es class) is → (e : Entry) × (more : List Entry) × (members by_names es class ≡ e ∷ more)
            → held_item m around imported (position at ∷ []) (kind.Instance w) ≡ merged by_names c es root at class
        by [] rooted given some = absurd (subst (λ (xs : List Entry). AreInstancesOf xs []) some.2 given)
        by (first ∷ more) rooted given some =
            let u = all.merged.unions.rooted k (first ∷ more) rooted in
            let it = written-at k u.0 w u.1 at_w in
            instances_merged c m roots us ps bs f ids ws all.merged.unions all.merged.fresh all.merged.written all.extended all.merged.source all.sound all.merged.target deep.placed deep.merged_placed deep.bound fit
            es root k class numbered u.0 w it.0 u.1 at_w it.1 around
            (of-instances es k class numbered (instances-all (members by_names es class) (first ∷ more) given)) none-disagrees at first more
            (zip_map (λ e i. e.kind ≡ kind.Instance i) (λ e. e.kind) kind.Instance (λ e i h. h) (members by_names es class) (first ∷ more) given) rooted
            (λ p y j on outer of_k here.
            fits-at-root c m es roots us ps bs f ids ws all.merged p y j it.0 w on here (ap (slice_get ws) of_k ∙ at_w) it.1 outer root around fits class (first ∷ more)
            (ap (slice_get (class_names by_names es)) of_k ∙ numbered) (ap (slice_get roots) of_k ∙ rooted) given)

    -- a class of no instances that is no new resource
    module _ (none : AreNoInstances (members by_names es class)) (e : Entry) (more : List Entry) (first : members by_names es class ≡ e ∷ more) where
      no-instance : (j : ℕ) (x : Entry) → slice_get (members by_names es class) j ≡ Some x → is_instance x.kind ≡ false
      no-instance j x at = none x (contains-at (members by_names es class) j x at)

      first-at : slice_get (members by_names es class) 0 ≡ Some e
      first-at = ap (λ xs. slice_get xs 0) first

      -- where the first is an interface, it alone is united
      module _ (i : InterfaceId) (is : e.kind ≡ kind.TypeItem (ty.Interface i)) where
        alone : class_roots es class ≡ i ∷ []
        alone =
            ap (λ xs. fold with_root [] (map (λ y. y.kind) xs)) first
            ∙ ap (λ y. fold with_root (with_root [] y) (map (λ y. y.kind) more)) is
            ∙ stays-alone i more (λ j x at. no-instance (suc j) x (ap (λ xs. slice_get xs (suc j)) first ∙ at))

        rooted-alone : slice_get roots k ≡ Some (i ∷ [])
        rooted-alone =
            let lt = slice_get_within (class_names by_names es) k class numbered in
            let counted = all.rooted.counted in
            let r = some-at roots k (omega (arith, lt, counted)) in
            r.1 ∙ ap Some (all.rooted.each k class r.0 numbered r.1 ∙ alone)

        -- so the class binds nothing
        held : HasInterface c i
        held =
            let x = filter-at (λ (y : Entry). same_class by_names es class y.name) es 0 e first-at in
            low i.0 (length c.interfaces) (subst (λ y. holds_type c (kind_type y) ≡ true) is (all.held x.1 e x.2))

        no-resource : (j : ℕ) (x : Entry) → slice_get (members by_names es class) j ≡ Some x → resource_itself c x.kind ≡ None
        no-resource j x at = by x.kind refl where
          apart : (r : ResourceId) → x.kind ≡ kind.TypeItem (ty.Resource r) → ⊥
          apart r same =
              let it = interface_there c i held in
              let tree = called_interface c deep.bound (called_outside by_names c es) i it.0 it.1 in
              let agree : MustAgree (compared by_names c es class (kind.TypeItem (ty.Interface i))) (compared by_names c es class (kind.TypeItem (ty.Resource r))) =
              subst (λ y. MustAgree (compared by_names c es class (kind.TypeItem (ty.Interface i))) (compared by_names c es class y)) same
              (subst (λ y. MustAgree (compared by_names c es class y) (compared by_names c es class x.kind)) is (members_agree c es none-disagrees class 0 j e x first-at at)) in
              agree (λ h. kinds-apart (unfolded (by_binding c) c (called_outside by_names c es) (ty.Interface i)) _ (called_outside by_names c es (resolved c r)) tree h)

          by : (y : ItemKind) → x.kind ≡ y → resource_itself c x.kind ≡ None
          by (kind.TypeItem (ty.Resource r)) same = absurd (apart r same)
          by (kind.TypeItem (ty.Func g)) same = ap (resource_itself c) same
          by (kind.TypeItem (ty.Value g)) same = ap (resource_itself c) same
          by (kind.TypeItem (ty.Interface g)) same = ap (resource_itself c) same
          by (kind.TypeItem (ty.World g)) same = ap (resource_itself c) same
          by (kind.TypeItem (ty.Module g)) same = ap (resource_itself c) same
          by (kind.Instance g) same = ap (resource_itself c) same
          by (kind.Func g) same = ap (resource_itself c) same
          by (kind.Component g) same = ap (resource_itself c) same
          by (kind.Module g) same = ap (resource_itself c) same
          by (kind.Value g) same = ap (resource_itself c) same

        bare : (r : ResourceId) → path_in bs k r ≡ None
        bare r = all.merged.bindings.paths k class r numbered ∙ bare-class c es class members-bare r where
          members-bare : (x : Entry) → Contains (members by_names es class) x → (is_instance x.kind ≡ false) × (resource_itself c x.kind ≡ None)
          members-bare x within = let a = contained-at (members by_names es class) x within in (none x within, no-resource a.0 x a.1)

        -- and the interface that its union became has the tree of that interface
        interface-item : (w : InterfaceId) → slice_get ws k ≡ Some w → held_tree m around (ty.Interface w) ≡ held_tree c root (ty.Interface i)
        interface-item w at_w =
            let u = all.merged.unions.rooted k (i ∷ []) rooted-alone in
            let it = written-at k u.0 w u.1 at_w in
            type_merged c m roots us ps bs f ids ws all.merged.unions all.merged.fresh all.merged.written all.extended all.merged.source all.sound all.merged.target deep.placed deep.merged_placed deep.bound fit
            es root k class numbered u.0 w it.0 u.1 at_w it.1 around (of-none es k class numbered none) i rooted-alone
            (λ p y j on outer of_k here.
            fits-at-root-bare c m es roots us ps bs f ids ws all.merged p y j it.0 w on here (ap (slice_get ws) of_k ∙ at_w) it.1 outer root around fits (λ r. ap (λ l. path_in bs l r) of_k ∙ bare r))

      other-item : (p : ℕ) → slice_get order p ≡ Some k → whole_in f k ≡ None → (l : ItemKind) → IsClassKind c m ps bs f ws k e l → held_item m around imported (position (position_in order k) ∷ []) l ≡ merged by_names c es root (position_in order k) class
      other-item p ordered whole l became_so =
          class_plain c m us ps bs f all.merged.fresh all.extended all.merged.source all.merged.target es all.merged.bindings all.held (position_in order) k class numbered around fits
          e more first (no-item e.kind (no-instance 0 e first-at)) whole (λ j r path binds same. same_position order p j k ordered same) e.name (slice_get ws k) l
          (subst (λ (o : Option ResourceId). MatchOption o (IsWrittenAs c m (became c ps bs f None) (slice_get ws k) e.name e.kind l) (λ q. l ≡ kind.TypeItem (ty.Resource q))) whole became_so)
          (λ i j is at_w. interface-item i is j at_w)

  -- Each import is the item of its class.
  pub imports-are : (p k : ℕ) (class : Name) (e : Entry) → slice_get order p ≡ Some k → slice_get (class_names by_names es) k ≡ Some class → slice_get imports p ≡ Some e
      → held_item m around imported (position p ∷ []) e.kind ≡ merged by_names c es root p class
  imports-are p k class e ordered numbered at = by e.kind refl (are.kinds p k class e ordered numbered at) where
    place : position_in order k ≡ p
    place = position-is order p k ordered (λ i j a b. are.once i j k a b)

    at-place : (l : ItemKind) → held_item m around imported (position (position_in order k) ∷ []) l ≡ merged by_names c es root (position_in order k) class → held_item m around imported (position p ∷ []) l ≡ merged by_names c es root p class
    at-place l h = subst (λ (x : ℕ). held_item m around imported (position x ∷ []) l ≡ merged by_names c es root x class) place h

    by : (y : ItemKind) → e.kind ≡ y → IsMergedKind es roots f m ws k class y → held_item m around imported (position p ∷ []) e.kind ≡ merged by_names c es root p class
    by y same (as_instance w is rooted given at_w) = ap (held_item m around imported (position p ∷ [])) same ∙ instances-item k class numbered w at_w p is rooted given
    by y same (as_resource q none whole) =
        ap (held_item m around imported (position p ∷ [])) same
        ∙ at-place (kind.TypeItem (ty.Resource q))
        (class_whole c m us ps bs f all.merged.fresh all.extended all.merged.source all.merged.target es all.merged.bindings all.held (position_in order) k class numbered around fits none-disagrees q whole)
    by y same (as_other l none whole plain itself) =
        let d = some-member es k class numbered in
        at-place e.kind (other-item k class numbered none d.0 d.1 d.2 p ordered whole e.kind (all.imported.firsts p k class e d.0 d.1 ordered numbered at (of-none es k class numbered none) d.2))
