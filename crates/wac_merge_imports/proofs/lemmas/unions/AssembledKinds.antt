-- Where all of a merge is made, none of the entries disagrees, and each class is imported as what it became.
use Rattle.std.proofs.Common.{◌≡◌, ℕ, suc, true, false, cond, List, [], ◌∷◌, ◌++◌, fold, map, Option, Some, None, is_some, slice_get, refl, sym, ap, ◌∙◌, subst, inl, inr, arith}
use Rattle.std.specs.List.{list_any}
use Rattle.std.proofs.lemmas.Bool.{cases_Bool, false≢true}
use Rattle.std.proofs.lemmas.List.{append_assoc, append-nil}
use Rattle.std.proofs.lemmas.Option.{MatchOption-at_none, MatchOption-at_some, slice_get_within}
use Rattle.wac_types_shapes.specs.primitives.Name.{Name, option_case}
use Rattle.wac_types_collection.specs.collection.Collection.{Collection, item_of}
use Rattle.wac_types_collection.specs.collection.Held.{source_of}
use Rattle.wac_types_collection.specs.declared.collection.collection.Held.{Held}
use Rattle.wac_types_shapes.specs.declared.shapes.component.InterfaceId.{InterfaceId}
use Rattle.wac_types_shapes.specs.declared.shapes.component.Resource.{Resource}
use Rattle.wac_types_shapes.specs.declared.shapes.component.ResourceAlias.{ResourceAlias}
use Rattle.wac_types_shapes.specs.declared.shapes.component.ResourceId.{ResourceId}
use Rattle.wac_types_shapes.specs.declared.shapes.component.«Type».TheVariants as ty
use Rattle.wac_types_shapes.specs.declared.shapes.component.ItemKind.{ItemKind}
use Rattle.wac_types_shapes.specs.declared.shapes.component.ItemKind.TheVariants as kind
use Rattle.wac_merge_classes.specs.terms.Became.{became, whole_in}
use Rattle.wac_merge_classes.specs.entries.Binding.{class_binds}
use Rattle.wac_merge_classes.specs.entries.Bindings.{ClassBindings}
use Rattle.wac_merge_classes.specs.entries.Classes.{Entry, by_names, canonical, class_names, is_instance, members, same_class}
use Rattle.wac_merge_classes.specs.terms.NoDisagreement.{HasNoDisagreement}
use Rattle.wac_merge_classes.specs.terms.Merge.{is_on_track}
use Rattle.wac_merge_imports.specs.unions.MergedClasses.{AreAgreed, IsClassKind, class_roots, with_root}
use Rattle.wac_merge_classes.specs.private.terms.MergedKinds.{AreInstancesOf, AreMergedKinds, AreNoInstances, IsMergedKind, as_instance, as_other, as_resource}
use Rattle.wac_merge_classes.specs.entries.Places.{resource_itself}
use Rattle.wac_merge_classes.specs.terms.Writing.{IsWrittenAs}
use Rattle.wac_merge_classes.specs.declared.terms.fresh.Fresh.{Fresh}
use Rattle.wac_merge_classes.specs.declared.terms.parts.Part.{Part}
use Rattle.wac_merge_classes.specs.declared.terms.parts.Union.{Union}
use Rattle.wac_merge_imports.proofs.lemmas.unions.Assembled.{AreAssembled}
use Rattle.wac_merge_classes.proofs.lemmas.terms.Found.{some_same}
use Rattle.wac_merge_imports.proofs.lemmas.fitting.FittingSteps.{first-class}
use Rattle.wac_merge_classes.proofs.lemmas.entries.Lists.{some-at}
use Rattle.wac_merge_imports.proofs.lemmas.fitting.MergedBindingsAgreed.{members-agree, whole-no-instances}
use Rattle.wac_merge_imports.proofs.lemmas.fitting.MergedBindingsClasses.{filter-has}
use Rattle.wac_merge_trees.proofs.lemmas.trees.UnionTreesParts.{at_contains, contains_at}

-- entries of which each two agree have no disagreement
pub none-disagrees : (c : Collection) (es : List Entry) → AreAgreed c es → HasNoDisagreement by_names c es
none-disagrees c es agreed i j d = d.apart (agreed i j d.earlier d.later d.before d.at_first d.at_second d.one_class)

-- ---- instances and their interfaces

pub the-instance : (k : ItemKind) → is_instance k ≡ true → (i : InterfaceId) × (k ≡ kind.Instance i)
the-instance (kind.Instance i) t = (i, refl)
the-instance k t = absurd (false≢true t)

-- entries that are instances are those of their interfaces, which are united
pub all-instances : (xs : List Entry) → ((j : ℕ) (e : Entry) → slice_get xs j ≡ Some e → is_instance e.kind ≡ true)
    → (is : List InterfaceId) × AreInstancesOf xs is × ((before : List InterfaceId) → fold with_root before (map (λ e. e.kind) xs) ≡ before ++ is)
all-instances [] each = ([], tt, λ before. sym (append-nil before))
all-instances (x ∷ xs) each =
    let i = the-instance x.kind (each 0 x refl) in
    let w = all-instances xs (λ j e at. each (suc j) e at) in (
      i.0 ∷ w.0,
      (i.1, w.1),
      λ before.
          ap (λ k. fold with_root (with_root before k) (map (λ e. e.kind) xs)) i.1
          ∙ w.2 (before ++ i.0 ∷ [])
          ∙ append_assoc before (i.0 ∷ []) w.0,
    )

-- ---- what is no instance

alias-source : (o : Option (Held Resource)) (x : Resource) (a : ResourceAlias) → item_of o ≡ Some x → x.alias ≡ Some a → is_some (source_of o) ≡ true
alias-source None x a e h = cc
alias-source (Some y) x a e h =
    let same : y.item ≡ x = some_same y.item x e in
    ap (λ (o : Option ResourceAlias). is_some (option_case o None (λ b. Some b.source))) (ap (λ (z : Resource). z.alias) same ∙ h)

-- what is no instance became no instance, and no resource that is no alias
pub written-plain : (c m : Collection) (g : ResourceId → ResourceId) (o : Option InterfaceId) (n : Name) (k l : ItemKind) → is_instance k ≡ false → IsWrittenAs c m g o n k l
    → (is_instance l ≡ false) × (resource_itself m l ≡ None)
written-plain c m g o n (kind.Instance i) l plain w = absurd (false≢true (sym plain))
written-plain c m g o n (kind.TypeItem (ty.Resource r)) (kind.TypeItem (ty.Resource a)) plain w =
    (refl, ap (λ b. cond b None (Some a)) (alias-source (slice_get m.resources a.0) _ _ w.is refl))
written-plain c m g o n k (kind.Instance j) plain w = absurd w
written-plain c m g o n k (kind.TypeItem (ty.Resource a)) plain w = absurd w
written-plain c m g o n k l plain w = (refl, refl)

module _ (c m : Collection) (es : List Entry) (roots : List (List InterfaceId)) (us : List Union) (ps : List Part) (bs : ClassBindings) (f : Fresh) (ids : List (Option Name)) (ws : List InterfaceId) (order : List ℕ) (imports : List Entry)
    (all : AreAssembled c m es roots us ps bs f ids ws order imports) where
  none : HasNoDisagreement by_names c es
  none = none-disagrees c es all.agreed

  -- the members of a class are instances where one is
  like-member : (class : Name) (j : ℕ) (e : Entry) → slice_get (members by_names es class) j ≡ Some e → (l : ℕ) (a : Entry) → slice_get (members by_names es class) l ≡ Some a → is_instance a.kind ≡ is_instance e.kind
  like-member class j e at l a there = members-agree c es none all.held class l j a e there at

  -- a class with an instance is no resource
  no-whole : (k : ℕ) (class : Name) → slice_get (class_names by_names es) k ≡ Some class → (j : ℕ) (e : Entry) → slice_get (members by_names es class) j ≡ Some e → is_instance e.kind ≡ true → whole_in f k ≡ None
  no-whole k class at j e there is = by (whole_in f k) refl where
    by : (o : Option ResourceId) → whole_in f k ≡ o → o ≡ None
    by None h = refl
    by (Some q) h =
        let new = all.merged.fresh.whole k q h in
        let b = first-class c es bs all.merged.bindings new.0 k [] new.1 in
        let same : b.class ≡ class = some_same b.class class (sym b.at ∙ at) in
        let binds = ap (λ n. class_binds by_names c es n new.0) (sym same) ∙ b.binds in
        let plain = whole-no-instances c es none all.held class new.0 binds e (contains_at (members by_names es class) j e there) in
        absurd (false≢true (sym plain ∙ is))

  -- a class of instances is imported as one
  as-union : (k : ℕ) (class : Name) → slice_get (class_names by_names es) k ≡ Some class → (j : ℕ) (e : Entry) → slice_get (members by_names es class) j ≡ Some e → is_instance e.kind ≡ true
      → (x : ItemKind) → IsClassKind c m ps bs f ws k e x → IsMergedKind es roots f m ws k class x
  as-union k class at j e there is x h =
      let w : IsWrittenAs c m (became c ps bs f None) (slice_get ws k) e.name e.kind x = MatchOption-at_none _ _ (no-whole k class at j e there is) h in
      let i = the-instance e.kind is in
      by i.0 x (subst (λ (y : ItemKind). IsWrittenAs c m (became c ps bs f None) (slice_get ws k) e.name y x) i.1 w)
    where
      rooted : (is : List InterfaceId) → class_roots es class ≡ is → slice_get roots k ≡ Some is
      rooted is e =
          let lt = slice_get_within (class_names by_names es) k class at in
          let counted = all.rooted.counted in
          let r = some-at roots k (omega (arith, lt, counted)) in
          r.1 ∙ ap Some (all.rooted.each k class r.0 at r.1 ∙ e)

      by : (i : InterfaceId) (y : ItemKind) → IsWrittenAs c m (became c ps bs f None) (slice_get ws k) e.name (kind.Instance i) y → IsMergedKind es roots f m ws k class y
      by i (kind.Instance w) given =
          let are = all-instances (members by_names es class) (λ l a on. like-member class j e there l a on ∙ is) in
          as_instance w are.0 (rooted are.0 (are.2 [])) are.1 given
      by i y given = absurd given

  -- another is imported as the resource that it is, or as what became of a member
  as-plain : (k : ℕ) (class : Name) (j : ℕ) (e : Entry) → slice_get (members by_names es class) j ≡ Some e → is_instance e.kind ≡ false
      → (x : ItemKind) → IsClassKind c m ps bs f ws k e x → IsMergedKind es roots f m ws k class x
  as-plain k class j e there plain x h = by (whole_in f k) refl where
    no-instances : AreNoInstances (members by_names es class)
    no-instances a within = let l = at_contains (members by_names es class) a within in like-member class j e there l.0 a l.1 ∙ plain

    by : (o : Option ResourceId) → whole_in f k ≡ o → IsMergedKind es roots f m ws k class x
    by None is =
        let w : IsWrittenAs c m (became c ps bs f None) (slice_get ws k) e.name e.kind x = MatchOption-at_none _ _ is h in
        let p = written-plain c m (became c ps bs f None) (slice_get ws k) e.name e.kind x plain w in
        as_other x no-instances is p.0 p.1
    by (Some q) is =
        let same : x ≡ kind.TypeItem (ty.Resource q) = MatchOption-at_some _ (λ q. x ≡ kind.TypeItem (ty.Resource q)) q is h in
        subst (IsMergedKind es roots f m ws k class) (sym same) (as_resource q no-instances is)

  merged-kind : (p k : ℕ) (class : Name) (x : Entry) → slice_get order p ≡ Some k → slice_get (class_names by_names es) k ≡ Some class → slice_get imports p ≡ Some x → IsMergedKind es roots f m ws k class x.kind
  merged-kind p k class x ordered at there =
      let w = all.imported.each p k class x ordered at there in
      let j = filter-has (λ (y : Entry). same_class by_names es class y.name) es w.0 w.1 w.2 w.3 in
      elim (cases_Bool (is_instance w.1.kind)) [
        | inl t ↦ as-union k class at j.0 w.1 j.1 t x.kind w.6
        | inr f ↦ as-plain k class j.0 w.1 j.1 f x.kind w.6
      ]

  -- the id of the union of a class on whose track a member's id is
  tracked-id : (k : ℕ) (class : Name) → slice_get (class_names by_names es) k ≡ Some class → list_any (λ e. is_on_track by_names c class e.kind) (members by_names es class) ≡ true → slice_get ids k ≡ Some (Some (canonical by_names es class))
  tracked-id k class at t =
      let lt = slice_get_within (class_names by_names es) k class at in
      let counted = all.rooted.counted in
      let r = some-at roots k (omega (arith, lt, counted)) in
      let u = all.merged.unions.rooted k r.0 r.1 in
      let less = slice_get_within us k u.0 u.1 in
      let as_many = all.identified.counted in
      let o = some-at ids k (omega (arith, less, as_many)) in
      o.1 ∙ ap Some ((all.identified.classes k class u.0 o.0 at u.1 o.1).0 t)

  -- what the classes are imported as
  pub merged-kinds : AreMergedKinds c es roots f m ids ws order imports
  merged-kinds = record {
    each = λ k lt. at_contains order k ((all.each k).1 lt);
    classes = λ p k at. (all.each k).0 (contains_at order p k at);
    once = λ p q k first last. all.once p q k first last;
    count = all.imported.counted;
    names = λ p k class e ordered at there. let w = all.imported.each p k class e ordered at there in w.5 ∙ w.4;
    kinds = merged-kind;
    tracked = tracked-id;
  }
