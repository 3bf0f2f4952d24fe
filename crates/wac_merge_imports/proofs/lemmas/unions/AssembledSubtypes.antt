-- Where all of a merge is made, each class is imported as a subtype of its members.
use Rattle.std.proofs.Common.{◌≡◌, ℕ, zero, suc, ◌⊎◌, true, false, List, [], ◌∷◌, fold, length, map, Option, Some, None, slice_get, refl, sym, ap, ◌∙◌, subst, inl, inr, arith}
use Rattle.std.specs.List.{AllByRecursion, AllZip, Contains}
use Rattle.std.proofs.lemmas.Bool.{false≢true}
use Rattle.std.proofs.lemmas.Option.{MatchOption-at_none, slice_get_within}
use Rattle.wac_types_shapes.specs.primitives.Name.{Name, option_case}
use Rattle.wac_types_shapes.specs.primitives.Tree.{TypeTree, type_equal}
use Rattle.wac_types_collection.specs.collection.Collection.{Collection, HasResource, holds_type, item_at}
use Rattle.wac_types_shapes.specs.shapes.Kinds.{kind_type}
use Rattle.wac_types_collection.specs.collection.Held.{resolved, source_of}
use Rattle.wac_types_shapes.specs.declared.shapes.component.Interface.{Interface}
use Rattle.wac_types_shapes.specs.declared.shapes.component.InterfaceId.{InterfaceId}
use Rattle.wac_types_shapes.specs.declared.shapes.component.ItemKind.{ItemKind}
use Rattle.wac_types_shapes.specs.declared.shapes.component.ItemKind.TheVariants as kind
use Rattle.wac_types_shapes.specs.declared.shapes.component.ResourceId.{ResourceId}
use Rattle.wac_types_shapes.specs.declared.shapes.component.«Type».TheVariants as ty
use Rattle.wac_types_collection.specs.subtyping.Called.{by_binding}
use Rattle.wac_types_collection.specs.subtyping.Subtype.{IsSubtype, kind_tree, type_tree}
use Rattle.wac_merge_classes.specs.entries.Agreement.{AllMembersAgree, called_inside}
use Rattle.wac_merge_classes.specs.terms.Became.{became, whole_in}
use Rattle.wac_merge_classes.specs.entries.Binding.{class_binds}
use Rattle.wac_merge_classes.specs.entries.Bindings.{ClassBindings}
use Rattle.wac_merge_classes.specs.entries.Classes.{Entry, by_names, canonical, class_names, is_instance, members, same_class}
use Rattle.wac_merge_classes.specs.terms.NoDisagreement.{HasNoDisagreement}
use Rattle.wac_merge_imports.specs.unions.MergedClasses.{IsClassKind, with_root}
use Rattle.wac_merge_classes.specs.private.terms.MergedKinds.{AreInstancesOf, AreNoInstances, IsMergedKind, as_instance, as_other, as_resource}
use Rattle.wac_merge_classes.specs.terms.Renaming.{AreEnds}
use Rattle.wac_merge_classes.specs.terms.Unions.{part}
use Rattle.wac_merge_classes.specs.terms.Writing.{IsWrittenAs}
use Rattle.wac_merge_classes.specs.declared.terms.fresh.Fresh.{Fresh}
use Rattle.wac_merge_classes.specs.declared.terms.parts.Part.{Part}
use Rattle.wac_merge_classes.specs.declared.terms.parts.Union.{Union}
use Rattle.wac_merge_imports.proofs.lemmas.unions.Assembled.{AreAssembled, AreDeep}
use Rattle.wac_merge_imports.proofs.lemmas.unions.AssembledKinds.{merged-kinds, none-disagrees}
use Rattle.wac_merge_imports.proofs.lemmas.fitting.BecameEnds.{became-ends, no-source}
use Rattle.wac_merge_classes.proofs.lemmas.terms.Found.{no_some, some_same}
use Rattle.wac_merge_imports.proofs.lemmas.fitting.FittingOwn.{no-value}
use Rattle.wac_merge_imports.proofs.lemmas.fitting.FittingSteps.{first-class}
use Rattle.wac_merge_classes.proofs.lemmas.entries.Lists.{some-at}
use Rattle.wac_merge_imports.proofs.lemmas.fitting.MergedBindingsAgreed.{names-agree, whole-entry}
use Rattle.wac_merge_imports.proofs.lemmas.fitting.MergedBindingsClasses.{filter-at, filter-has}
use Rattle.wac_merge_trees.proofs.lemmas.trees.MergedSubtypes.{AreSubtyped, merged_equal}
use Rattle.wac_merge_trees.proofs.lemmas.trees.MergedSubtypesClasses.{IsOfMember, inside_keeps, instance_subtype, member_subtype, members_equal, whole_tree}
use Rattle.wac_merge_trees.proofs.lemmas.trees.MergedSubtypesKinds.{IsInstance, written_tree}
use Rattle.wac_merge_trees.proofs.lemmas.trees.MergedSubtypesLists.{contains_in, in_contains, zip_left, zip_one, zip_right}
use Rattle.wac_merge_trees.proofs.lemmas.trees.MergedSubtypesNames.{KeepsNames, tested_low}
use Rattle.wac_merge_trees.proofs.lemmas.trees.UnionTreesHeld.{interface_there}
use Rattle.wac_merge_trees.proofs.lemmas.trees.UnionTreesMerged.{at_part, merged_calls}
use Rattle.wac_merge_trees.proofs.lemmas.trees.UnionTreesParts.{all_each, contains_at}
use Rattle.wac_merge_trees.proofs.lemmas.trees.UnionTreesPlaces.{inner_names, outermost_names}

-- ---- the interface to be united of a class that is a type item of one

not-instance : (k : ItemKind) → is_instance k ≡ false → IsInstance k → ⊥
not-instance (kind.Instance i) plain h = false≢true (sym plain)
not-instance k plain h = h

-- what is no instance is a type item of an interface, or adds none
root-or-none : (k : ItemKind) → is_instance k ≡ false → ((i : InterfaceId) × (k ≡ kind.TypeItem (ty.Interface i))) ⊎ ((with_root [] k ≡ []) × ((i : InterfaceId) → k ≡ kind.TypeItem (ty.Interface i) → ⊥))
root-or-none (kind.Instance i) plain = absurd (false≢true (sym plain))
root-or-none (kind.TypeItem (ty.Interface i)) plain = inl (i, refl)
root-or-none (kind.TypeItem (ty.Resource r)) plain = inr (refl, λ i e. cc)
root-or-none (kind.TypeItem (ty.Func r)) plain = inr (refl, λ i e. cc)
root-or-none (kind.TypeItem (ty.Value r)) plain = inr (refl, λ i e. cc)
root-or-none (kind.TypeItem (ty.World r)) plain = inr (refl, λ i e. cc)
root-or-none (kind.TypeItem (ty.Module r)) plain = inr (refl, λ i e. cc)
root-or-none (kind.Func r) plain = inr (refl, λ i e. cc)
root-or-none (kind.Component r) plain = inr (refl, λ i e. cc)
root-or-none (kind.Module r) plain = inr (refl, λ i e. cc)
root-or-none (kind.Value r) plain = inr (refl, λ i e. cc)

-- it adds none to one
one-kept : (o : InterfaceId) (k : ItemKind) → is_instance k ≡ false → with_root (o ∷ []) k ≡ o ∷ []
one-kept o (kind.Instance i) plain = absurd (false≢true (sym plain))
one-kept o k plain = refl

-- each of these is no instance
abbrev ArePlain : List Entry → Type 0
ArePlain xs = (j : ℕ) (e : Entry) → slice_get xs j ≡ Some e → is_instance e.kind ≡ false

one-root : (o : InterfaceId) (xs : List Entry) → ArePlain xs → fold with_root (o ∷ []) (map (λ e. e.kind) xs) ≡ o ∷ []
one-root o [] plain = refl
one-root o (x ∷ xs) plain = ap (λ is. fold with_root is (map (λ e. e.kind) xs)) (one-kept o x.kind (plain 0 x refl)) ∙ one-root o xs (λ j e at. plain (suc j) e at)

-- one of the entries is a type item of an interface, which alone is to be united
record IsFirstRoot (xs : List Entry) : Type 0 where
  pub interface : InterfaceId
  pub position : ℕ
  pub entry : Entry
  pub at : slice_get xs position ≡ Some entry
  pub is : entry.kind ≡ kind.TypeItem (ty.Interface interface)
  pub alone : fold with_root [] (map (λ e. e.kind) xs) ≡ interface ∷ []

first-root : (xs : List Entry) → ArePlain xs → (j : ℕ) (e : Entry) (i : InterfaceId) → slice_get xs j ≡ Some e → e.kind ≡ kind.TypeItem (ty.Interface i) → IsFirstRoot xs
first-root [] plain j e i at is = absurd (no_some e at)
first-root (x ∷ xs) plain j e i at is = elim (root-or-none x.kind (plain 0 x refl)) [
  | inl one ↦ record {
    interface = one.0;
    position = 0;
    entry = x;
    at = refl;
    is = one.1;
    alone = ap (λ k. fold with_root (with_root [] k) (map (λ e. e.kind) xs)) one.1 ∙ one-root one.0 xs (λ l a on. plain (suc l) a on);
  }
  | inr other ↦ later j at other.0 other.1 (λ l on. first-root xs (λ l a on. plain (suc l) a on) l e i on is)
]
  where
    later : (j : ℕ) → slice_get (x ∷ xs) j ≡ Some e → with_root [] x.kind ≡ [] → ((i : InterfaceId) → x.kind ≡ kind.TypeItem (ty.Interface i) → ⊥) → ((l : ℕ) → slice_get xs l ≡ Some e → IsFirstRoot xs) → IsFirstRoot (x ∷ xs)
    later zero at none never rest = absurd (never i (ap (λ (y : Entry). y.kind) (some_same x e at) ∙ is))
    later (suc l) at none never rest =
        let r = rest l at in
        record {
          interface = r.interface;
          position = suc r.position;
          entry = r.entry;
          at = r.at;
          is = r.is;
          alone = ap (λ is. fold with_root is (map (λ e. e.kind) xs)) none ∙ r.alone;
        }

equal-within : (t u : TypeTree Name) → type_equal t ≡ type_equal u → t ≡ u
equal-within t u e = cc

module _ (c m : Collection) (es : List Entry) (roots : List (List InterfaceId)) (us : List Union) (ps : List Part) (bs : ClassBindings) (f : Fresh) (ids : List (Option Name)) (ws : List InterfaceId) (order : List ℕ) (imports : List Entry)
    (all : AreAssembled c m es roots us ps bs f ids ws order imports) (deep : AreDeep c m) (agreed : AllMembersAgree by_names c es) where
  -- ---- what resources are called in the parts

  none : HasNoDisagreement by_names c es
  none = none-disagrees c es all.agreed

  ends : (p : Option ℕ) → AreEnds c m (became c ps bs f p)
  ends =
      let merged = all.merged in
      became-ends c m es roots us ps bs f merged.source all.sound all.extended merged.bindings merged.counted merged.unions merged.fresh (names-agree c es none)

  -- in an outermost part, as inside a member of its class
  called-member : (p : ℕ) (x : Part) (class : Name) (it : Interface) → slice_get ps p ≡ Some x → x.outer ≡ None → slice_get (class_names by_names es) x.union ≡ Some class → item_at c.interfaces x.interface.0 ≡ Some it
      → merged_calls c es ps p ≡ called_inside by_names c es class it
  called-member p x class it at outer numbered item =
      outermost_names c ps (λ i n. (by_binding c).in_instance i n) (at_part c es (λ r. None) (λ class it. called_inside by_names c es class it)) p x at outer
      ∙ ap (λ o. option_case o (λ r. None) (λ n. option_case (item_at c.interfaces x.interface.0) (λ r. None) (λ i. called_inside by_names c es n i))) numbered
      ∙ ap (λ o. option_case o (λ r. None) (λ i. called_inside by_names c es class i)) item

  outermost-keeps : (p : ℕ) (x : Part) → slice_get ps p ≡ Some x → x.outer ≡ None → KeepsNames c (merged_calls c es ps p)
  outermost-keeps p x at outer =
      let low = all.merged.unions.outermost p x at outer in
      let counted = all.merged.counted in
      let class = some-at (class_names by_names es) x.union (omega (arith, low, counted)) in
      let it = interface_there c x.interface (all.merged.unions.held p x at) in
      subst (λ n. KeepsNames c n) (sym (called-member p x class.0 it.0 at outer class.1 it.1)) (inside_keeps by_names c es class.0 it.0)

  subtyped : AreSubtyped c m roots us ps bs f ids ws (merged_calls c es ps)
  subtyped = record {
    unions = all.merged.unions;
    fresh = all.merged.fresh;
    written = all.merged.written;
    extended = all.extended;
    ordered = all.merged.source;
    merged = all.merged.target;
    sound = all.sound;
    named_deep = deep.named;
    merged_deep = deep.merged_named;
    bound_deep = deep.bound;
    ends = λ p low. ends (Some p);
    inside = inner_names c ps (λ i n. (by_binding c).in_instance i n) (at_part c es (λ r. None) (λ class it. called_inside by_names c es class it)) all.merged.unions.around;
    outermost = outermost-keeps;
  }

  module _ (k : ℕ) (class : Name) (numbered : slice_get (class_names by_names es) k ≡ Some class) where
    abbrev AllBelow : ItemKind → Type 0
    AllBelow x = AllByRecursion (λ member. IsSubtype m x c member.kind) (members by_names es class)

    -- what a member is among the entries
    among : (j : ℕ) (e : Entry) → slice_get (members by_names es class) j ≡ Some e → (same_class by_names es class e.name ≡ true) × (i : ℕ) × (slice_get es i ≡ Some e)
    among = filter-at (λ (e : Entry). same_class by_names es class e.name) es

    -- ---- a class of instances

    of-member : (q : ℕ) (i : InterfaceId) (j : ℕ) (e : Entry) → slice_get ps q ≡ Some (part i None k) → slice_get (members by_names es class) j ≡ Some e → e.kind ≡ kind.Instance i
        → (o : IsOfMember c es ps (merged_calls c es ps) class q) × (o.entry ≡ e)
    of-member q i j e at there is =
        let it = interface_there c i (all.merged.unions.held q (part i None k) at) in
        let x = among j e there in (
          record {
            part = part i None k;
            interface = it.0;
            position = x.1;
            entry = e;
            at = at;
            item = it.1;
            calls = called-member q (part i None k) class it.0 at refl numbered it.1;
            there = x.2;
            is = is;
            member = x.0;
          },
          refl,
        )

    instance-below : (w : InterfaceId) (is : List InterfaceId) → slice_get roots k ≡ Some is → AreInstancesOf (members by_names es class) is → slice_get ws k ≡ Some w → AllBelow (kind.Instance w)
    instance-below w is rooted instances given =
        let u = all.merged.unions.rooted k is rooted in
        all_each (λ member. IsSubtype m (kind.Instance w) c member.kind) (members by_names es class) (λ j e there. below u.0 u.1 u.2 j e there)
      where
        each : (x : Union) → AllZip (λ i q. slice_get ps q ≡ Some (part i None k)) is x.parts.items → (p : ℕ) → Contains x.parts.items p → IsOfMember c es ps (merged_calls c es ps) class p
        each x parts p within =
            let a = contains_in x.parts.items p within in
            let i = zip_right (λ i q. slice_get ps q ≡ Some (part i None k)) is x.parts.items parts a.0 p a.1 in
            let e = zip_right (λ (y : Entry) i. y.kind ≡ kind.Instance i) (members by_names es class) is instances a.0 i.0 i.1 in
            (of-member p i.0 a.0 e.0 i.2 e.1 e.2).0

        below : (x : Union) → slice_get us k ≡ Some x → AllZip (λ i q. slice_get ps q ≡ Some (part i None k)) is x.parts.items → (j : ℕ) (e : Entry) → slice_get (members by_names es class) j ≡ Some e → IsSubtype m (kind.Instance w) c e.kind
        below x at parts j e there =
            let i = zip_left (λ (y : Entry) i. y.kind ≡ kind.Instance i) (members by_names es class) is instances j e there in
            let q = zip_left (λ i q. slice_get ps q ≡ Some (part i None k)) is x.parts.items parts j i.0 i.1 in
            let o = of-member q.0 i.0 j e q.2 there i.2 in
            subst (λ (y : Entry). IsSubtype m (kind.Instance w) c y.kind) o.1
            (instance_subtype c es agreed m roots us ps bs f ids ws (merged_calls c es ps) subtyped k x w class at given (each x parts) q.0 (in_contains x.parts.items q.0 (j, q.1)) o.0)

    -- ---- a class of other items

    -- a member that is no instance has the tree of the item
    abbrev IsLikeOne : ItemKind → Type 0
    IsLikeOne x = (i : ℕ) × (e : Entry) × (slice_get es i ≡ Some e) × (same_class by_names es class e.name ≡ true) × (is_instance e.kind ≡ false) × (kind_tree m x ≡ kind_tree c e.kind)

    -- so it is a subtype of each, and has the tree of each
    plain-below : (x : ItemKind) → IsLikeOne x → AllBelow x
    plain-below x o = all_each (λ member. IsSubtype m x c member.kind) (members by_names es class) (λ j y there.
        let z = among j y there in
        member_subtype c es agreed all.merged.source m x class o.0 z.1 o.1 y o.2 z.2 o.3 z.0 (not-instance (o.1).kind o.4) (all.held o.0 o.1 o.2) (all.held z.1 y z.2) o.5)

    plain-equal : (x : ItemKind) → IsLikeOne x → AllByRecursion (λ member. kind_tree m x ≡ kind_tree c member.kind) (members by_names es class)
    plain-equal x o = all_each (λ member. kind_tree m x ≡ kind_tree c member.kind) (members by_names es class) (λ j y there.
        let z = among j y there in
        o.5 ∙ members_equal by_names c all.merged.source es class (o.1).kind y.kind (not-instance (o.1).kind o.4) (all.held o.0 o.1 o.2) (all.held z.1 y z.2)
        (agreed class o.0 z.1 o.1 y o.2 z.2 o.3 z.0))

    -- the new resource that a class is
    whole-like : (q : ResourceId) → whole_in f k ≡ Some q → IsLikeOne (kind.TypeItem (ty.Resource q))
    whole-like q is =
        let new = all.merged.fresh.whole k q is in
        let r = new.0 in
        let b = first-class c es bs all.merged.bindings r k [] new.1 in
        let same : b.class ≡ class = some_same b.class class (sym b.at ∙ numbered) in
        let binds = ap (λ n. class_binds by_names c es n r) (sym same) ∙ b.binds in
        let w = whole-entry c es none class r binds in
        let low : HasResource c r = tested_low r.0 (length c.resources) (ap (λ (k : ItemKind). holds_type c (kind_type k)) (sym (w.3).is) ∙ all.held w.0 w.1 w.2) in
        let end : resolved c r ≡ r = no-source c (length c.resources) r (no-value (source_of (slice_get c.resources r.0)) (w.3).plain) in
        (w.0, w.1, w.2, (w.3).inside, ap is_instance (w.3).is, whole_tree c m q r low end new.2 ∙ ap (kind_tree c) (sym (w.3).is))

    -- what became of a type item of an interface has its tree
    interface-equal : ArePlain (members by_names es class) → (j : ℕ) (e : Entry) → slice_get (members by_names es class) j ≡ Some e → (i w : InterfaceId) → e.kind ≡ kind.TypeItem (ty.Interface i) → slice_get ws k ≡ Some w
        → type_tree m (ty.Interface w) ≡ type_tree c (ty.Interface i)
    interface-equal plain j e there i w is given =
        let one = first-root (members by_names es class) plain j e i there is in
        let low = slice_get_within (class_names by_names es) k class numbered in
        let counted = all.rooted.counted in
        let r = some-at roots k (omega (arith, low, counted)) in
        let u = all.merged.unions.rooted k (one.interface ∷ []) (r.1 ∙ ap Some (all.rooted.each k class r.0 numbered r.1 ∙ one.alone)) in
        let z = zip_one (λ i q. slice_get ps q ≡ Some (part i None k)) one.interface u.0.parts.items u.2 in
        let x = among one.position one.entry one.at in
        let y = among j e there in
        let same = members_equal by_names c all.merged.source es class one.entry.kind e.kind (not-instance one.entry.kind (plain one.position one.entry one.at)) (all.held x.1 one.entry x.2) (all.held y.1 e y.2)
        (agreed class x.1 y.1 one.entry e x.2 y.2 x.0 y.0) in
        merged_equal c m roots us ps bs f ids ws (merged_calls c es ps) subtyped k u.0 w u.1 given z.0 (part one.interface None k) z.1 z.2
        ∙ equal-within (type_tree c (ty.Interface one.interface)) (type_tree c (ty.Interface i)) (sym (ap (kind_tree c) one.is) ∙ same ∙ ap (kind_tree c) is)

    -- another item
    other-like : (x : ItemKind) → AreNoInstances (members by_names es class) → whole_in f k ≡ None → (i : ℕ) (e : Entry) → slice_get es i ≡ Some e → same_class by_names es class e.name ≡ true → IsClassKind c m ps bs f ws k e x → IsLikeOne x
    other-like x no-instances is i e at inside h =
        let j = filter-has (λ (y : Entry). same_class by_names es class y.name) es i e at inside in
        let plain : ArePlain (members by_names es class) = λ l a on. no-instances a (contains_at (members by_names es class) l a on) in
        let w : IsWrittenAs c m (became c ps bs f None) (slice_get ws k) e.name e.kind x = MatchOption-at_none _ _ is h in (
          i,
          e,
          at,
          inside,
          plain j.0 e j.1,
          written_tree c m all.merged.target all.extended (became c ps bs f None) (ends None) (slice_get ws k) e.name e.kind x (all.held i e at)
              (λ i w one given. interface-equal plain j.0 e j.1 i w one given) (not-instance e.kind (plain j.0 e j.1)) w,
        )

  -- the entry of a class of which its import is made
  made-of : (p k : ℕ) (class : Name) (e : Entry) → slice_get order p ≡ Some k → slice_get (class_names by_names es) k ≡ Some class → slice_get imports p ≡ Some e
      → (i : ℕ) × (a : Entry) × (slice_get es i ≡ Some a) × (same_class by_names es class a.name ≡ true) × (a.name ≡ canonical by_names es class) × (e.name ≡ a.name) × IsClassKind c m ps bs f ws k a e.kind
  made-of p k class e ordered at there = all.imported.each p k class e ordered at there

  -- what a class is imported as is a subtype of each member
  pub subtypes : (p k : ℕ) (class : Name) (e : Entry) → slice_get order p ≡ Some k → slice_get (class_names by_names es) k ≡ Some class → slice_get imports p ≡ Some e
      → AllByRecursion (λ member. IsSubtype m e.kind c member.kind) (members by_names es class)
  subtypes p k class e ordered at there = by e.kind ((merged-kinds c m es roots us ps bs f ids ws order imports all).kinds p k class e ordered at there) (made-of p k class e ordered at there).6 where
    w : (i : ℕ) × (a : Entry) × (slice_get es i ≡ Some a) × (same_class by_names es class a.name ≡ true) × (a.name ≡ canonical by_names es class) × (e.name ≡ a.name) × IsClassKind c m ps bs f ws k a e.kind
    w = made-of p k class e ordered at there

    by : (x : ItemKind) → IsMergedKind es roots f m ws k class x → IsClassKind c m ps bs f ws k w.1 x → AllByRecursion (λ member. IsSubtype m x c member.kind) (members by_names es class)
    by x (as_instance i is rooted instances given) h = instance-below k class at i is rooted instances given
    by x (as_resource q plain is) h = plain-below k class at (kind.TypeItem (ty.Resource q)) (whole-like k class at q is)
    by x (as_other y plain is other itself) h = plain-below k class at y (other-like k class at y plain is w.0 w.1 w.2 w.3 h)

  -- and has the tree of each where it is no instance
  pub equal : (p k : ℕ) (class : Name) (e : Entry) → slice_get order p ≡ Some k → slice_get (class_names by_names es) k ≡ Some class → slice_get imports p ≡ Some e → is_instance e.kind ≡ false
      → AllByRecursion (λ member. kind_tree m e.kind ≡ kind_tree c member.kind) (members by_names es class)
  equal p k class e ordered at there = by e.kind ((merged-kinds c m es roots us ps bs f ids ws order imports all).kinds p k class e ordered at there) (made-of p k class e ordered at there).6 where
    w : (i : ℕ) × (a : Entry) × (slice_get es i ≡ Some a) × (same_class by_names es class a.name ≡ true) × (a.name ≡ canonical by_names es class) × (e.name ≡ a.name) × IsClassKind c m ps bs f ws k a e.kind
    w = made-of p k class e ordered at there

    by : (x : ItemKind) → IsMergedKind es roots f m ws k class x → IsClassKind c m ps bs f ws k w.1 x → is_instance x ≡ false → AllByRecursion (λ member. kind_tree m x ≡ kind_tree c member.kind) (members by_names es class)
    by x (as_instance i is rooted instances given) h apart = absurd (false≢true (sym apart))
    by x (as_resource q plain is) h apart = plain-equal k class at (kind.TypeItem (ty.Resource q)) (whole-like k class at q is)
    by x (as_other y plain is other itself) h apart = plain-equal k class at y (other-like k class at y plain is w.0 w.1 w.2 w.3 h)
