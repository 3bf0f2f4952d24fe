-- Imports weigh no more than the entries of their classes, before they have uses.
use Rattle.std.proofs.Common.{ℕ, ◌+◌, ◌<◌, ◌≤◌, Bool, true, false, if◌then◌else◌, List, [], ◌∷◌, ◌++◌, fold, map, length, Contains, Option, Some, None, slice_get, ◌≡◌, inl, inr, refl, ap, sym, ◌∙◌, subst, arith}
use Rattle.std.specs.List.{sum_by}
use Rattle.std.specs.Option.{MatchOption}
use Rattle.std.proofs.lemmas.Option.{slice_get_within}
use Rattle.std.proofs.lemmas.List.Sums.{sum_by-cons, sum_by_push}
use Rattle.wac_types_shapes.specs.primitives.Name.{Name, option_case}
use Rattle.wac_types_shapes.specs.primitives.Tree.{Place}
use Rattle.wac_types_shapes.specs.shapes.Kinds.{kind_type}
use Rattle.wac_types_shapes.specs.declared.shapes.component.FuncTypeId.{FuncTypeId}
use Rattle.wac_types_shapes.specs.declared.shapes.component.InterfaceId.{InterfaceId}
use Rattle.wac_types_shapes.specs.declared.shapes.component.ItemKind.{ItemKind}
use Rattle.wac_types_shapes.specs.declared.shapes.component.ItemKind.TheVariants as kind
use Rattle.wac_types_shapes.specs.declared.shapes.component.ModuleTypeId.{ModuleTypeId}
use Rattle.wac_types_shapes.specs.declared.shapes.component.ResourceId.{ResourceId}
use Rattle.wac_types_shapes.specs.declared.shapes.component.ValueType.{ValueType}
use Rattle.wac_types_shapes.specs.declared.shapes.component.«Type».{«Type» as AnyType}
use Rattle.wac_types_shapes.specs.declared.shapes.component.«Type».TheVariants as ty
use Rattle.wac_types_collection.specs.collection.Collection.{Collection, holds_type, interface_exports, kind_types}
use Rattle.wac_types_collection.specs.collection.Held.{resolved}
use Rattle.wac_types_collection.specs.reach.Reach.{IsIn}
use Rattle.wac_types_collection.proofs.lemmas.wide.Members.{at_in, in_at, in_none, in_parts, in_map, map_in}
use Rattle.wac_types_weight.specs.Weight.{is_scope, named_parts, near_all}
use Rattle.wac_types_weight.specs.Text.{bare_weight, entry_weight, inner_weight, own_texts, scope_weight}
use Rattle.wac_types_weight.proofs.Near.{from_contains, near_closed, near_there, to_contains}
use Rattle.wac_types_weight.proofs.Sums.{in_filter, sum_mapped, term_less}
use Rattle.wac_merge_classes.specs.declared.terms.fresh.Fresh.{Fresh}
use Rattle.wac_merge_classes.specs.declared.terms.parts.Part.{Part}
use Rattle.wac_merge_classes.specs.declared.terms.parts.Union.{Union}
use Rattle.wac_merge_classes.specs.entries.Bindings.{ClassBindings}
use Rattle.wac_merge_classes.specs.entries.Classes.{AreClasses, Entry, by_names, class_names, is_instance, members, same_class}
use Rattle.wac_merge_classes.specs.private.terms.MergedKinds.{IsMergedKind, as_instance, as_other, as_resource}
use Rattle.wac_merge_classes.specs.terms.Became.{became, or_itself, new_at, whole_in}
use Rattle.wac_merge_classes.specs.terms.Renaming.{AreEnds}
use Rattle.wac_merge_classes.specs.terms.Unions.{part}
use Rattle.wac_merge_classes.specs.terms.Writing.{IsWrittenAs}
use Rattle.wac_merge_classes.proofs.lemmas.entries.ClassFacts.{class-sym, class-trans, one-position}
use Rattle.wac_merge_classes.proofs.lemmas.entries.Lists.{some-at}
use Rattle.wac_merge_resources.specs.declared.values.named.NamedTypes.{NamedTypes}
use Rattle.wac_merge_resources.specs.renaming.MadeOf.{IsKindMadeOf}
use Rattle.wac_merge_imports.specs.unions.Lighter.{name_weight, types_of}
use Rattle.wac_merge_imports.specs.unions.MergedClasses.{IsClassKind, class_roots, with_root}
use Rattle.wac_merge_imports.specs.unions.OneId.{AreMadeOnce}
use Rattle.wac_merge_imports.proofs.lemmas.fitting.BecameEnds.{became-ends}
use Rattle.wac_merge_imports.proofs.lemmas.fitting.FittingSteps.{first-class}
use Rattle.wac_merge_imports.proofs.lemmas.fitting.MergedBindingsAgreed.{names-agree, whole-entry}
use Rattle.wac_merge_imports.proofs.lemmas.unions.Assembled.{AreAssembled}
use Rattle.wac_merge_imports.proofs.lemmas.unions.AssembledKinds.{merged-kinds, none-disagrees}
use Rattle.wac_merge_imports.proofs.lemmas.weight.CountedSums.{sum_beside, sum_parts, sum_whole, sum_zero, sum_zipped, zip_length}
use Rattle.wac_merge_imports.proofs.lemmas.weight.Images.{IsImage, IsSource, end_in, images_less}
use Rattle.wac_merge_imports.proofs.lemmas.weight.StillWeights.{inner_kept, near_held, same_items}
use Rattle.wac_merge_imports.proofs.lemmas.weight.UnionWeights.{all_weigh, entries_in, inside_in, not_scope}

-- ---- the interfaces that a class unites are those of its entries

module _ (g : AnyType → ℕ) where
  with_root_less : (before : List InterfaceId) (k : ItemKind) → sum_by (λ i. g (ty.Interface i)) (with_root before k) ≤ sum_by (λ i. g (ty.Interface i)) before + g (kind_type k)
  with_root_less before (kind.Instance i) = let push = sum_by_push (λ j. g (ty.Interface j)) before i in omega (arith, push)
  with_root_less [] (kind.TypeItem (ty.Interface i)) =
      let cons = sum_by-cons (λ j. g (ty.Interface j)) i [] in
      let none : sum_by (λ j. g (ty.Interface j)) [] ≡ 0 = refl in
      omega (arith, cons, none)
  with_root_less (x ∷ xs) (kind.TypeItem (ty.Interface i)) = omega arith
  with_root_less [] k = omega arith
  with_root_less (x ∷ xs) k = omega arith

  roots_less : (es : List Entry) (before : List InterfaceId) → sum_by (λ i. g (ty.Interface i)) (fold with_root before (map (λ e. e.kind) es)) ≤ sum_by (λ i. g (ty.Interface i)) before + sum_by (λ e. g (kind_type e.kind)) es
  roots_less [] before = omega arith
  roots_less (e ∷ es) before =
      let rest = roots_less es (with_root before e.kind) in
      let here = with_root_less before e.kind in
      omega (arith, rest, here, sum_by-cons (λ (x : Entry). g (kind_type x.kind)) e es)

  roots_all : (es : List Entry) → sum_by (λ i. g (ty.Interface i)) (fold with_root [] (map (λ e. e.kind) es)) ≤ sum_by (λ e. g (kind_type e.kind)) es
  roots_all es =
      let less = roots_less es [] in
      let none : sum_by (λ i. g (ty.Interface i)) [] ≡ 0 = refl in
      omega (arith, less, none)

abbrev IsSomeList : List InterfaceId → Type 0
IsSomeList is = is ≡ [] → ⊥

no_list : (i : InterfaceId) (is : List InterfaceId) → IsSomeList (i ∷ is)
no_list i is e = cc

root_kept : (before : List InterfaceId) (k : ItemKind) → IsSomeList before → IsSomeList (with_root before k)
root_kept [] k some = absurd (some refl)
root_kept (x ∷ xs) (kind.Instance i) some = no_list x (xs ++ i ∷ [])
root_kept (x ∷ xs) (kind.TypeItem (ty.Interface i)) some = some
root_kept (x ∷ xs) k some = some

root_new : (before : List InterfaceId) (k : ItemKind) (i : InterfaceId) → kind_type k ≡ ty.Interface i → IsSomeList (with_root before k)
root_new [] (kind.Instance j) i is = no_list j []
root_new (x ∷ xs) (kind.Instance j) i is = no_list x (xs ++ j ∷ [])
root_new [] (kind.TypeItem (ty.Interface j)) i is = no_list j []
root_new (x ∷ xs) (kind.TypeItem (ty.Interface j)) i is = no_list x xs
root_new before k i is = cc is

roots_kept : (es : List Entry) (before : List InterfaceId) → IsSomeList before → IsSomeList (fold with_root before (map (λ e. e.kind) es))
roots_kept [] before some = some
roots_kept (e ∷ es) before some = roots_kept es (with_root before e.kind) (root_kept before e.kind some)

roots_some : (es : List Entry) (before : List InterfaceId) (e : Entry) (i : InterfaceId) → Contains es e → kind_type e.kind ≡ ty.Interface i → IsSomeList (fold with_root before (map (λ e. e.kind) es))
roots_some [] before e i h is = absurd (in_none e h)
roots_some (x ∷ es) before e i h is = elim (in_parts x e es h) [
  | inl same ↦ roots_kept es (with_root before x.kind) (root_new before x.kind i (ap (λ (z : Entry). kind_type z.kind) (sym same) ∙ is))
  | inr more ↦ roots_some es (with_root before x.kind) e i more is
]

-- ---- an interface unites what its class does

-- the name of a class
abbrev class_at : List Entry → ℕ → Name
class_at es k = option_case (slice_get (class_names by_names es) k) [] (λ n. n)

module _ (c m : Collection) (es : List Entry) (roots : List (List InterfaceId)) (us : List Union) (ps : List Part) (bs : ClassBindings) (f : Fresh) (t : NamedTypes) (numbers positions order : List ℕ) (names : List (Name × ℕ)) (bare : List Entry)
    (classes : AreClasses by_names es numbers positions names) (made : AreMadeOnce c m es us ps bs f t positions order bare) (all : AreAssembled c m es roots us ps bs f made.written.ids made.written.ws order bare) where
  abbrev ids : List (Option Name)
  ids = made.written.ids

  abbrev ws : List InterfaceId
  ws = made.written.ws

  ends : (o : Option ℕ) → AreEnds c m (became c ps bs f o)
  ends = became-ends c m es roots us ps bs f all.merged.source all.sound all.extended all.merged.bindings all.merged.counted all.merged.unions all.merged.fresh (names-agree c es (none-disagrees c es all.agreed))

  abbrev outside : ResourceId → ResourceId
  outside = became c ps bs f None

  -- the types of entries
  type_in : (xs : List Entry) (e : Entry) → Contains xs e → IsIn (kind_type e.kind) (types_of xs)
  type_in xs e h = from_contains (kind_type e.kind) (types_of xs) (in_map (λ (z : Entry). kind_type z.kind) xs e h)

  type_from : (xs : List Entry) (a : AnyType) → IsIn a (types_of xs) → (e : Entry) × Contains xs e × (a ≡ kind_type e.kind)
  type_from xs a h = map_in (λ (z : Entry). kind_type z.kind) xs a (to_contains a (types_of xs) h)

  entries_held : (a : AnyType) → IsIn a (types_of es) → holds_type c a ≡ true
  entries_held a h =
      let (e, there, is) = type_from es a h in
      let (i, low, at) = in_at es e there in
      subst (λ z. holds_type c z ≡ true) (sym is) (all.held i e at)

  abbrev near_entries : List AnyType
  near_entries = near_all c (types_of es)

  source : IsSource c m all.merged.source all.merged.target all.extended t made.made made.are.there outside near_entries
  source = record { closed = near_closed c all.merged.source (types_of es); held = near_held c all.merged.source (types_of es) entries_held; ends = ends None }

  -- What an entry became.
  abbrev IsOfEntry : AnyType → Type 0
  IsOfEntry a = IsImage c m all.merged.source all.merged.target all.extended t made.made made.are.there outside near_entries a

  entry_near : (e : Entry) → Contains es e → is_scope (kind_type e.kind) ≡ false → IsIn (kind_type e.kind) near_entries
  entry_near e h plain = near_there c (types_of es) (kind_type e.kind) (type_in es e h) plain

  module _ (p k : ℕ) (class : Name) (x : Entry) (ordered : slice_get order p ≡ Some k) (known : slice_get (class_names by_names es) k ≡ Some class) (at : slice_get bare p ≡ Some x) where
    abbrev mine : List Entry
    mine = members by_names es class

    -- The entry that the import was made of.
    record IsOrigin : Type 0 where
      entry : Entry
      there : Contains es entry
      member : Contains mine entry
      named : x.name ≡ entry.name
      written : IsClassKind c m ps bs f ws k entry x.kind

    origin : IsOrigin
    origin =
        let w = all.imported.each p k class x ordered known at in
        let there = at_in es w.0 w.1 w.2 in
        record { entry = w.1; there = there; member = in_filter (λ (e : Entry). same_class by_names es class e.name) es w.1 there w.3; named = w.5; written = w.6 }

    -- ---- names

    name_less : name_weight x ≤ sum_by name_weight mine
    name_less =
        let o = origin in
        let one = term_less name_weight mine o.entry o.member in
        let here = by x.kind ((merged-kinds c m es roots us ps bs f ids ws order bare all).kinds p k class x ordered known at) in
        let same : length x.name ≡ length o.entry.name = ap length o.named in
        omega (arith, one, here, same)
      where
        other : (e : Entry) → is_instance e.kind ≡ false → ◌≡◌ {A = ℕ} (if is_instance e.kind then 0 else 1) 1
        other e plain = ap (λ b. if b then 0 else 1) plain

        most : (b : Bool) → (if b then 0 else 1) ≤ 1
        most true = omega arith
        most false = omega arith

        by : (l : ItemKind) → IsMergedKind es roots f m ws k class l → (if is_instance l then 0 else 1) ≤ (if is_instance (origin.entry).kind then 0 else 1)
        by l (as_instance w is rooted of given) = omega arith
        by l (as_resource q plain is) = let one = other origin.entry (plain origin.entry origin.member) in omega (arith, one)
        by l (as_other y plain none other_kind itself) = let one = other origin.entry (plain origin.entry origin.member) in let less = most (is_instance y) in omega (arith, one, less)

    -- ---- items, and what is inside

    -- These weigh no more than those of the class.
    abbrev IsLess : AnyType → Type 0
    IsLess a = (entry_weight m a ≤ sum_by (λ (e : Entry). entry_weight c (kind_type e.kind)) mine) × (bare_weight m a ≤ sum_by (λ (e : Entry). bare_weight c (kind_type e.kind)) mine)

    union_less : (e : Entry) (i : InterfaceId) → Contains mine e → kind_type e.kind ≡ ty.Interface i → (w : InterfaceId) → slice_get ws k ≡ Some w → IsLess (ty.Interface w)
    union_less e i member is w given =
        let low = slice_get_within (class_names by_names es) k class known in
        let count = all.rooted.counted in
        let js = some-at roots k (omega (arith, low, count)) in
        let root : js.0 ≡ class_roots es class = all.rooted.each k class js.0 known js.1 in
        let u = all.merged.unions.rooted k js.0 js.1 in
        let zip = u.2 in
        let weighs = all_weigh c m es roots us ps bs f ids ws all.merged ends all.extended all.sound t made.made made.are.there made.unions k u.0 w u.1 given in
        let qs = u.0.parts.items in
        let R = λ (j : InterfaceId) (q : ℕ). slice_get ps q ≡ Some (part j None k) in
        let some : qs ≡ [] → ⊥ =
        λ none. roots_some mine [] e i member is (sym root ∙ empty js.0 (sym (zip_length R js.0 qs zip) ∙ ap length none)) in
        let entries = sum_zipped R (λ j. entry_weight c (ty.Interface j)) (entries_in c ps) (λ j q at_q. entries_of j q at_q) js.0 qs zip in
        let bares = sum_zipped R (λ j. bare_weight c (ty.Interface j)) (λ q. 1 + inside_in c ps q) (λ j q at_q. bare_of j q at_q) js.0 qs zip in
        let whole = sum_whole (λ (q : ℕ). 0) (inside_in c ps) (λ q. 1 + inside_in c ps q) qs (λ q h. omega arith) some in
        let of_entries : sum_by (λ j. entry_weight c (ty.Interface j)) (class_roots es class) ≤ sum_by (λ (e : Entry). entry_weight c (kind_type e.kind)) mine = roots_all (entry_weight c) mine in
        let of_bares : sum_by (λ j. bare_weight c (ty.Interface j)) (class_roots es class) ≤ sum_by (λ (e : Entry). bare_weight c (kind_type e.kind)) mine = roots_all (bare_weight c) mine in
        let here : bare_weight m (ty.Interface w) ≡ 1 + inner_weight m (ty.Interface w) = refl in
        let entries_same : sum_by (λ j. entry_weight c (ty.Interface j)) js.0 ≡ sum_by (λ j. entry_weight c (ty.Interface j)) (class_roots es class) = ap (sum_by (λ j. entry_weight c (ty.Interface j))) root in
        let bares_same : sum_by (λ j. bare_weight c (ty.Interface j)) js.0 ≡ sum_by (λ j. bare_weight c (ty.Interface j)) (class_roots es class) = ap (sum_by (λ j. bare_weight c (ty.Interface j))) root in
        let zero_sum = sum_zero qs in
        let items = weighs.0 in
        let inside = weighs.1 in
        (omega (arith, items, entries, entries_same, of_entries), omega (arith, inside, whole, bares, bares_same, of_bares, here, zero_sum))
      where
        empty : (xs : List InterfaceId) → length xs ≡ 0 → xs ≡ []
        empty [] h = refl
        empty (y ∷ ys) h = absurd (omega (arith, h))

        lists : (j : InterfaceId) (q : ℕ) → slice_get ps q ≡ Some (part j None k) → option_case (slice_get ps q) [] (λ (y : Part). interface_exports c y.interface) ≡ interface_exports c j
        lists j q at_q = ap (λ o. option_case o [] (λ (y : Part). interface_exports c y.interface)) at_q

        entries_of : (j : InterfaceId) (q : ℕ) → slice_get ps q ≡ Some (part j None k) → entries_in c ps q ≤ entry_weight c (ty.Interface j)
        entries_of j q at_q = let same : entries_in c ps q ≡ entry_weight c (ty.Interface j) = ap (λ (l : List (Name × ItemKind)). named_parts l) (lists j q at_q) in omega (arith, same)

        bare_of : (j : InterfaceId) (q : ℕ) → slice_get ps q ≡ Some (part j None k) → 1 + inside_in c ps q ≤ bare_weight c (ty.Interface j)
        bare_of j q at_q =
            let same : inside_in c ps q ≡ inner_weight c (ty.Interface j) =
            ap (λ (l : List (Name × ItemKind)). own_texts c (near_all c (kind_types l)) + sum_by (scope_weight c) (kind_types l)) (lists j q at_q) in
            let here : bare_weight c (ty.Interface j) ≡ 1 + inner_weight c (ty.Interface j) = refl in
            omega (arith, same, here)

    world_less : (e : Entry) (a : AnyType) → Contains es e → Contains mine e → a ≡ kind_type e.kind → is_scope a ≡ true → IsLess a
    world_less e a there member same scope =
        let held = entries_held (kind_type e.kind) (type_in es e there) in
        let one = term_less (λ (z : Entry). entry_weight c (kind_type z.kind)) mine e member in
        let two = term_less (λ (z : Entry). bare_weight c (kind_type z.kind)) mine e member in
        let items : entry_weight m (kind_type e.kind) ≡ entry_weight c (kind_type e.kind) = ap (λ (l : List (Name × ItemKind)). named_parts l) (same_items c m all.merged.source all.merged.target all.extended (kind_type e.kind) held) in
        let inside = inner_kept c m all.merged.source all.merged.target all.extended (kind_type e.kind) held in
        let is : is_scope (kind_type e.kind) ≡ true = ap is_scope (sym same) ∙ scope in
        let here : bare_weight m (kind_type e.kind) ≡ 1 + inner_weight m (kind_type e.kind) = ap (λ b. if b then 1 + inner_weight m (kind_type e.kind) else 0) is in
        let there_too : bare_weight c (kind_type e.kind) ≡ 1 + inner_weight c (kind_type e.kind) = ap (λ b. if b then 1 + inner_weight c (kind_type e.kind) else 0) is in
        subst IsLess (sym same) (omega (arith, one, items), omega (arith, two, inside, here, there_too))

    written_less : (e : Entry) (a l : ItemKind) → e.kind ≡ a → Contains es e → Contains mine e → IsWrittenAs c m outside (slice_get ws k) e.name a l → IsLess (kind_type l)
    written_less e (kind.TypeItem (ty.Resource r)) (kind.TypeItem (ty.Resource q)) is there member w = (omega arith, omega arith)
    written_less e (kind.TypeItem (ty.Interface i)) (kind.TypeItem (ty.Interface j)) is there member w = union_less e i member (ap kind_type is) j w
    written_less e (kind.TypeItem (ty.Func g)) (kind.TypeItem (ty.Func h)) is there member w = (omega arith, omega arith)
    written_less e (kind.TypeItem (ty.Value g)) (kind.TypeItem (ty.Value h)) is there member w = (omega arith, omega arith)
    written_less e (kind.TypeItem (ty.World g)) (kind.TypeItem (ty.World h)) is there member w = world_less e (ty.World h) there member (ap ty.World (sym w) ∙ ap kind_type (sym is)) refl
    written_less e (kind.TypeItem (ty.Module g)) (kind.TypeItem (ty.Module h)) is there member w = (omega arith, omega arith)
    written_less e (kind.Func g) (kind.Func h) is there member w = (omega arith, omega arith)
    written_less e (kind.Instance i) (kind.Instance j) is there member w = union_less e i member (ap kind_type is) j w
    written_less e (kind.Component g) (kind.Component h) is there member w = world_less e (ty.World h) there member (ap ty.World (sym w) ∙ ap kind_type (sym is)) refl
    written_less e (kind.Module g) (kind.Module h) is there member w = (omega arith, omega arith)
    written_less e (kind.Value g) (kind.Value h) is there member w = (omega arith, omega arith)
    written_less e a l is there member w = absurd w

    import_less : IsLess (kind_type x.kind)
    import_less = let o = origin in by o.entry o.there o.member (whole_in f k) o.written
      where
        by : (e : Entry) → Contains es e → Contains mine e → (w : Option ResourceId) → MatchOption w (IsWrittenAs c m outside (slice_get ws k) e.name e.kind x.kind) (λ q. x.kind ≡ kind.TypeItem (ty.Resource q)) → IsLess (kind_type x.kind)
        by e there member None h = written_less e e.kind x.kind refl there member h
        by e there member (Some q) h = subst (λ (l : ItemKind). IsLess (kind_type l)) (sym h) (omega arith, omega arith)

    -- ---- what is near

    -- the resource that a class is
    whole_image : (q : ResourceId) → whole_in f k ≡ Some q → IsOfEntry (ty.Resource q)
    whole_image q is =
        let new = all.merged.fresh.whole k q is in
        let r = new.0 in
        let b = first-class c es bs all.merged.bindings r k [] new.1 in
        let (i, e, at_e, whole) = whole-entry c es (none-disagrees c es all.agreed) b.class r b.binds in
        let now : outside r ≡ q = ap (λ o. option_case o r (λ (z : ℕ × List Place). or_itself r (new_at f z.0 z.1))) new.1 ∙ ap (or_itself r) is in
        let near = entry_near e (at_in es i e at_e) (ap (λ (l : ItemKind). is_scope (kind_type l)) whole.is) in
        (r, subst (λ z. IsIn z near_entries) (ap kind_type whole.is) near, whole.plain, inl (sym now))

    -- the type of an entry is near all entries
    near_of : (e : Entry) (l : ItemKind) → e.kind ≡ l → Contains es e → is_scope (kind_type l) ≡ false → IsIn (kind_type l) near_entries
    near_of e l is there plain = subst (λ (z : ItemKind). IsIn (kind_type z) near_entries) is (entry_near e there (ap (λ (z : ItemKind). is_scope (kind_type z)) is ∙ plain))

    -- An item was written for the class as this.
    abbrev IsWritten : Entry → ItemKind → ItemKind → Type 0
    IsWritten e a l = IsWrittenAs c m outside (slice_get ws k) e.name a l

    resource_image : (e : Entry) (a : ItemKind) (q : ResourceId) → e.kind ≡ a → Contains es e → IsWritten e a (kind.TypeItem (ty.Resource q)) → IsOfEntry (ty.Resource q)
    resource_image e (kind.TypeItem (ty.Resource r)) q is there w =
        let near = near_of e (kind.TypeItem (ty.Resource r)) is there refl in
        let end = end_in c m all.merged.source all.merged.target all.extended t made.made made.are.there outside near_entries source r near in
        (resolved c r, end.0, end.1, inr (e.name, w))
    resource_image e a q is there w = absurd w

    type_module_image : (e : Entry) (a : ItemKind) (n : ModuleTypeId) → e.kind ≡ a → Contains es e → IsWritten e a (kind.TypeItem (ty.Module n)) → IsOfEntry (ty.Module n)
    type_module_image e (kind.TypeItem (ty.Module g)) n is there w = subst (λ (z : ModuleTypeId). IsIn (ty.Module z) near_entries) w (near_of e (kind.TypeItem (ty.Module g)) is there refl)
    type_module_image e a n is there w = absurd w

    module_image : (e : Entry) (a : ItemKind) (n : ModuleTypeId) → e.kind ≡ a → Contains es e → IsWritten e a (kind.Module n) → IsOfEntry (ty.Module n)
    module_image e (kind.TypeItem (ty.Module g)) n is there w = absurd w
    module_image e (kind.Module g) n is there w = subst (λ (z : ModuleTypeId). IsIn (ty.Module z) near_entries) w (near_of e (kind.Module g) is there refl)
    module_image e a n is there w = absurd w

    -- An item was rewritten as this.
    abbrev IsRewritten : ItemKind → ItemKind → Type 0
    IsRewritten b l = IsKindMadeOf c m outside t made.made b l

    type_func_image : (d : Entry) (b : ItemKind) (n : FuncTypeId) → d.kind ≡ b → Contains es d → IsRewritten b (kind.TypeItem (ty.Func n)) → IsOfEntry (ty.Func n)
    type_func_image d (kind.TypeItem (ty.Func g)) n is there h = (g, near_of d (kind.TypeItem (ty.Func g)) is there refl, h)
    type_func_image d b n is there h = absurd h

    func_image : (d : Entry) (b : ItemKind) (n : FuncTypeId) → d.kind ≡ b → Contains es d → IsRewritten b (kind.Func n) → IsOfEntry (ty.Func n)
    func_image d (kind.TypeItem (ty.Func g)) n is there h = absurd h
    func_image d (kind.Func g) n is there h = (g, near_of d (kind.Func g) is there refl, h)
    func_image d b n is there h = absurd h

    type_value_image : (d : Entry) (b : ItemKind) (n : ValueType) → d.kind ≡ b → Contains es d → IsRewritten b (kind.TypeItem (ty.Value n)) → IsOfEntry (ty.Value n)
    type_value_image d (kind.TypeItem (ty.Value g)) n is there h = (g, near_of d (kind.TypeItem (ty.Value g)) is there refl, h)
    type_value_image d b n is there h = absurd h

    value_image : (d : Entry) (b : ItemKind) (n : ValueType) → d.kind ≡ b → Contains es d → IsRewritten b (kind.Value n) → IsOfEntry (ty.Value n)
    value_image d (kind.TypeItem (ty.Value g)) n is there h = absurd h
    value_image d (kind.Value g) n is there h = (g, near_of d (kind.Value g) is there refl, h)
    value_image d b n is there h = absurd h

    -- the import was written for one entry, and its types were made of another
    written_image : (e d : Entry) (l : ItemKind) → Contains es e → Contains es d → IsWritten e e.kind l → IsRewritten d.kind l → is_scope (kind_type l) ≡ false → IsOfEntry (kind_type l)
    written_image e d (kind.TypeItem (ty.Resource n)) there too w h plain = resource_image e e.kind n refl there w
    written_image e d (kind.TypeItem (ty.Module n)) there too w h plain = type_module_image e e.kind n refl there w
    written_image e d (kind.Module n) there too w h plain = module_image e e.kind n refl there w
    written_image e d (kind.TypeItem (ty.Func n)) there too w h plain = type_func_image d d.kind n refl too h
    written_image e d (kind.Func n) there too w h plain = func_image d d.kind n refl too h
    written_image e d (kind.TypeItem (ty.Value n)) there too w h plain = type_value_image d d.kind n refl too h
    written_image e d (kind.Value n) there too w h plain = value_image d d.kind n refl too h
    written_image e d (kind.TypeItem (ty.Interface n)) there too w h plain = absurd (not_scope true refl plain)
    written_image e d (kind.TypeItem (ty.World n)) there too w h plain = absurd (not_scope true refl plain)
    written_image e d (kind.Instance n) there too w h plain = absurd (not_scope true refl plain)
    written_image e d (kind.Component n) there too w h plain = absurd (not_scope true refl plain)

    import_image : is_scope (kind_type x.kind) ≡ false → IsOfEntry (kind_type x.kind)
    import_image plain =
        let o = origin in
        let low = slice_get_within (class_names by_names es) k class known in
        let count = classes.positioned in
        let q = some-at positions k (omega (arith, low, count)) in
        let (d, at_d, named) = classes.greatest k q.0 class known q.1 in
        let of = made.imported p k q.0 d x ordered q.1 at_d at in
        by o.entry d o.there (at_in es q.0 d at_d) of (whole_in f k) refl o.written
      where
        by : (e d : Entry) → Contains es e → Contains es d → IsKindMadeOf c m outside t made.made d.kind x.kind → (w : Option ResourceId) → whole_in f k ≡ w → MatchOption w (IsWrittenAs c m outside (slice_get ws k) e.name e.kind x.kind) (λ q. x.kind ≡ kind.TypeItem (ty.Resource q))
            → IsOfEntry (kind_type x.kind)
        by e d there too of None is h = written_image e d x.kind there too h of plain
        by e d there too of (Some q) is h = subst (λ (l : ItemKind). IsOfEntry (kind_type l)) (sym h) (whole_image q is)

  -- ---- all imports

  class_of : (k : ℕ) → k < length (class_names by_names es) → (class : Name) × (slice_get (class_names by_names es) k ≡ Some class)
  class_of k low = some-at (class_names by_names es) k low

  numbered : (p k : ℕ) → slice_get order p ≡ Some k → k < length (class_names by_names es)
  numbered p k ordered = (all.each k).0 (at_in order p k ordered)

  -- no entry is in two classes
  apart : (e : Entry) → Contains es e → (i j a b : ℕ) → slice_get order i ≡ Some a → slice_get order j ≡ Some b → same_class by_names es (class_at es a) e.name ≡ true → same_class by_names es (class_at es b) e.name ≡ true → i ≡ j
  apart e h i j a b at also in_a in_b =
      let (n, at_a) = class_of a (numbered i a at) in
      let (o, at_b) = class_of b (numbered j b also) in
      let is_n : class_at es a ≡ n = ap (λ z. option_case z [] (λ y. y)) at_a in
      let is_o : class_at es b ≡ o = ap (λ z. option_case z [] (λ y. y)) at_b in
      let one = subst (λ z. same_class by_names es z e.name ≡ true) is_n in_a in
      let two = subst (λ z. same_class by_names es z e.name ≡ true) is_o in_b in
      let same : a ≡ b = one-position by_names es es a b n o at_a at_b (class-trans by_names es n e.name o one (class-sym by_names es o e.name two)) in
      all.once i j b (at ∙ ap Some same) also

  classes_less : (g h : Entry → ℕ) → ((p k : ℕ) (class : Name) (x : Entry) → slice_get order p ≡ Some k → slice_get (class_names by_names es) k ≡ Some class → slice_get bare p ≡ Some x → g x ≤ sum_by h (members by_names es class)) → sum_by g bare ≤ sum_by h es
  classes_less g h each =
      let parts : sum_by (λ k. sum_by h (members by_names es (class_at es k))) order ≤ sum_by h es =
      sum_parts (λ (k : ℕ) (e : Entry). same_class by_names es (class_at es k) e.name) h order es (λ e there i j a b at also p q. apart e there i j a b at also p q) in
      let beside = sum_beside g (λ k. sum_by h (members by_names es (class_at es k))) bare order all.imported.counted (λ p x k at ordered. by p x k at ordered) in
      omega (arith, parts, beside)
    where
      by : (p : ℕ) (x : Entry) (k : ℕ) → slice_get bare p ≡ Some x → slice_get order p ≡ Some k → g x ≤ sum_by h (members by_names es (class_at es k))
      by p x k at ordered =
          let (class, known) = class_of k (numbered p k ordered) in
          let is : class_at es k ≡ class = ap (λ z. option_case z [] (λ y. y)) known in
          subst (λ z. g x ≤ sum_by h (members by_names es z)) (sym is) (each p k class x ordered known at)

  pub bare_names : sum_by name_weight bare ≤ sum_by name_weight es
  bare_names = classes_less name_weight name_weight name_less

  pub bare_items : sum_by (entry_weight m) (types_of bare) ≤ sum_by (entry_weight c) (types_of es)
  bare_items =
      let less = classes_less (λ (e : Entry). entry_weight m (kind_type e.kind)) (λ (e : Entry). entry_weight c (kind_type e.kind)) (λ p k class x ordered known at. (import_less p k class x ordered known at).0) in
      let here : sum_by (entry_weight m) (types_of bare) ≡ sum_by (λ (e : Entry). entry_weight m (kind_type e.kind)) bare = sum_mapped (entry_weight m) (λ (e : Entry). kind_type e.kind) bare in
      let there : sum_by (entry_weight c) (types_of es) ≡ sum_by (λ (e : Entry). entry_weight c (kind_type e.kind)) es = sum_mapped (entry_weight c) (λ (e : Entry). kind_type e.kind) es in
      omega (arith, less, here, there)

  pub bare_inside : sum_by (bare_weight m) (types_of bare) ≤ sum_by (bare_weight c) (types_of es)
  bare_inside =
      let less = classes_less (λ (e : Entry). bare_weight m (kind_type e.kind)) (λ (e : Entry). bare_weight c (kind_type e.kind)) (λ p k class x ordered known at. (import_less p k class x ordered known at).1) in
      let here : sum_by (bare_weight m) (types_of bare) ≡ sum_by (λ (e : Entry). bare_weight m (kind_type e.kind)) bare = sum_mapped (bare_weight m) (λ (e : Entry). kind_type e.kind) bare in
      let there : sum_by (bare_weight c) (types_of es) ≡ sum_by (λ (e : Entry). bare_weight c (kind_type e.kind)) es = sum_mapped (bare_weight c) (λ (e : Entry). kind_type e.kind) es in
      omega (arith, less, here, there)

  pub bare_near : own_texts m (near_all m (types_of bare)) ≤ own_texts c near_entries
  bare_near =
      let less = images_less c m all.merged.source all.merged.target all.extended t made.made made.are.there (λ (p : ℕ). outside) (λ (p : ℕ). near_entries) (0 ∷ []) (λ p h. source) (types_of bare) of_one in
      let one = sum_by-cons (λ (p : ℕ). own_texts c near_entries) 0 [] in
      let none : sum_by (λ (p : ℕ). own_texts c near_entries) [] ≡ 0 = refl in
      omega (arith, less, one, none)
    where
      of_one : (a : AnyType) → IsIn a (types_of bare) → is_scope a ≡ false → (p : ℕ) × Contains (0 ∷ []) p × IsOfEntry a
      of_one a h plain =
          let (x, there, is) = type_from bare a h in
          let (p, low, at) = in_at bare x there in
          let count = all.imported.counted in
          let k = some-at order p (omega (arith, low, count)) in
          let (class, known) = class_of k.0 (numbered p k.0 k.1) in
          (0, at_in (0 ∷ []) 0 0 refl, subst IsOfEntry (sym is) (import_image p k.0 class x k.1 known at (ap is_scope (sym is) ∙ plain)))
