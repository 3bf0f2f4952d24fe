-- The interface that a union became weighs no more than the interfaces of its parts.
use Rattle.std.proofs.Common.{ℕ, zero, suc, ◌+◌, ◌<◌, ◌≤◌, Bool, true, false, List, [], ◌∷◌, map, length, Contains, Option, Some, None, slice_get, ◌≡◌, inl, inr, refl, ap, sym, ◌∙◌, subst, arith, nat_lt}
use Rattle.std.specs.List.{AllZip, sum_by}
use Rattle.std.proofs.lemmas.Option.{MatchOption-at_some, slice_get_within}
use Rattle.std.proofs.lemmas.List.Sums.{sum_by-cons}
use Rattle.wac_types_shapes.specs.primitives.Name.{Name, find_name, option_case}
use Rattle.wac_types_shapes.specs.shapes.Kinds.{kind_type}
use Rattle.wac_types_shapes.specs.declared.shapes.component.Interface.{Interface}
use Rattle.wac_types_shapes.specs.declared.shapes.component.InterfaceId.{InterfaceId}
use Rattle.wac_types_shapes.specs.declared.shapes.component.ItemKind.{ItemKind}
use Rattle.wac_types_shapes.specs.declared.shapes.component.ItemKind.TheVariants as kind
use Rattle.wac_types_shapes.specs.declared.shapes.component.ResourceId.{ResourceId}
use Rattle.wac_types_shapes.specs.declared.shapes.component.«Type».{«Type» as AnyType}
use Rattle.wac_types_shapes.specs.declared.shapes.component.«Type».TheVariants as ty
use Rattle.wac_types_collection.specs.collection.Collection.{Collection, holds_type, interface_exports, kind_types}
use Rattle.wac_types_collection.specs.collection.Held.{resolved}
use Rattle.wac_types_collection.specs.collection.Uses.{IsSound}
use Rattle.wac_types_collection.specs.reach.Reach.{IsIn}
use Rattle.wac_types_collection.specs.private.subtyping.Extended.{IsExtended}
use Rattle.wac_types_collection.proofs.lemmas.wide.Members.{at_in}
use Rattle.wac_types_weight.specs.Weight.{is_scope, label, named_parts, near_all}
use Rattle.wac_types_weight.specs.Text.{entry_weight, inner_weight, own_texts, scope_weight}
use Rattle.wac_types_weight.proofs.Near.{near_closed, near_there}
use Rattle.wac_types_weight.proofs.Scopes.{item_held, plain-has-none, scope-weighs-its-parts}
use Rattle.wac_types_weight.proofs.Sums.{Differ, sum_both, sum_in, sum_mapped, term_less}
use Rattle.wac_types_weight.proofs.Uses.{kind_in, sum_kinds}
use Rattle.wac_merge_classes.specs.declared.terms.fresh.Fresh.{Fresh}
use Rattle.wac_merge_classes.specs.declared.terms.parts.Export.{Export}
use Rattle.wac_merge_classes.specs.declared.terms.parts.Part.{Part}
use Rattle.wac_merge_classes.specs.declared.terms.parts.Union.{Union}
use Rattle.wac_merge_classes.specs.entries.Bindings.{ClassBindings}
use Rattle.wac_merge_classes.specs.entries.Classes.{Entry}
use Rattle.wac_merge_classes.specs.terms.Became.{became, own_in}
use Rattle.wac_merge_classes.specs.terms.Merge.{names_behind}
use Rattle.wac_merge_classes.specs.terms.Renaming.{AreEnds}
use Rattle.wac_merge_classes.specs.terms.Unions.{AreParts, IsExport, IsInner, instances_in, is_own_of, listed_under, part, part_lists, united}
use Rattle.wac_merge_classes.specs.terms.Writing.{IsWrittenAs, IsWrittenExport, written_at}
use Rattle.wac_merge_classes.proofs.lemmas.entries.Lists.{any-found}
use Rattle.wac_merge_classes.proofs.lemmas.terms.Found.{find_at, no_some, one_some}
use Rattle.wac_merge_trees.proofs.lemmas.trees.UnionTreesBecame.{became_own, own_listing}
use Rattle.wac_merge_trees.proofs.lemmas.trees.UnionTreesOwn.{own_listed}
use Rattle.wac_merge_trees.proofs.lemmas.trees.UnionTreesWritten.{written_other, written_own}
use Rattle.wac_merge_tables.specs.made.Made.{AreThere}
use Rattle.wac_merge_tables.specs.declared.made.made.Made.{Made}
use Rattle.wac_merge_tables.proofs.lemmas.made.Extending.{within_held}
use Rattle.wac_merge_resources.specs.declared.values.named.NamedTypes.{NamedTypes}
use Rattle.wac_merge_resources.specs.renaming.MadeOf.{IsKindMadeOf}
use Rattle.wac_merge_imports.specs.unions.WritingSteps.{AreItemsMadeOf, AreUnionsMadeOf}
use Rattle.wac_merge_imports.proofs.lemmas.fitting.Fitting.{AreMerged}
use Rattle.wac_merge_imports.proofs.lemmas.fitting.FittingOwn.{zip-right}
use Rattle.wac_merge_imports.proofs.lemmas.faults.Coming.{exports_are, first_listed, listed_from, listed_part, part_interface}
use Rattle.wac_merge_imports.proofs.lemmas.faults.ListedOnce.{AreOnce, export_found, once_behind}
use Rattle.wac_merge_imports.proofs.lemmas.unions.OneIds.{items-at}
use Rattle.wac_merge_imports.proofs.lemmas.weight.CountedSums.{behind_weight, once_differ, sum_beside, sum_found, sum_swap, sum_whole, sum_zipped, zip_length}
use Rattle.wac_merge_imports.proofs.lemmas.weight.Images.{IsImage, IsSource, end_in, images_less}
use Rattle.wac_merge_imports.proofs.lemmas.weight.StillWeights.{near_held, scope_kept}

pub low_test : (i n : ℕ) → i < n → nat_lt i n ≡ true
low_test i n h = grind arith

pub not_scope : (b : Bool) → b ≡ true → b ≡ false → ⊥
not_scope b t f = let no : true ≡ false = sym t ∙ f in cc

-- a type of items is that of an item at a position
pub record IsKindAt (es : List (Name × ItemKind)) (a : AnyType) : Type 0 where
  pub index : ℕ
  pub item : Name × ItemKind
  pub at : slice_get es index ≡ Some item
  pub is : a ≡ kind_type item.1

pub kind_at : (es : List (Name × ItemKind)) (a : AnyType) → IsIn a (kind_types es) → IsKindAt es a
kind_at [] a h = absurd h
kind_at (e ∷ es) a (inl is) = record { index = zero; item = e; at = refl; is = is }
kind_at (e ∷ es) a (inr h) = let w = kind_at es a h in record { index = suc w.index; item = w.item; at = w.at; is = w.is }

-- the names of exports that were written are those of the union's
zip_names : {A B : Type 0} (R : Name × A → Name × B → Type 0) → ((x : Name × A) (y : Name × B) → R x y → x.0 ≡ y.0) → (xs : List (Name × A)) (ys : List (Name × B)) → AllZip R xs ys → map (λ y. y.0) ys ≡ map (λ x. x.0) xs
zip_names R same [] [] z = refl
zip_names R same [] (y ∷ ys) z = absurd z
zip_names R same (x ∷ xs) [] z = absurd z
zip_names R same (x ∷ xs) (y ∷ ys) z = let a = same x y z.0 in let b = zip_names R same xs ys z.1 in (λ i. sym a i ∷ b i)

module _ (c : Collection) where
  abbrev listed_weight : ℕ × ItemKind → ℕ
  listed_weight l = scope_weight c (kind_type l.1)

  abbrev united_weight : ℕ × InterfaceId → ℕ
  united_weight i = scope_weight c (ty.Interface i.1)

  -- interfaces that are united are among what is listed
  instances_less : (ls : List (ℕ × ItemKind)) → sum_by united_weight (instances_in ls) ≤ sum_by listed_weight ls
  instances_less [] = omega arith
  instances_less ((p, kind.Instance i) ∷ ls) =
      let rest = instances_less ls in
      omega (arith, rest, sum_by-cons united_weight (p, i) (instances_in ls), sum_by-cons listed_weight (p, kind.Instance i) ls)
  instances_less ((p, kind.TypeItem k) ∷ ls) = let rest = instances_less ls in omega (arith, rest, sum_by-cons listed_weight (p, kind.TypeItem k) ls)
  instances_less ((p, kind.Func k) ∷ ls) = let rest = instances_less ls in omega (arith, rest, sum_by-cons listed_weight (p, kind.Func k) ls)
  instances_less ((p, kind.Component k) ∷ ls) = let rest = instances_less ls in omega (arith, rest, sum_by-cons listed_weight (p, kind.Component k) ls)
  instances_less ((p, kind.Module k) ∷ ls) = let rest = instances_less ls in omega (arith, rest, sum_by-cons listed_weight (p, kind.Module k) ls)
  instances_less ((p, kind.Value k) ∷ ls) = let rest = instances_less ls in omega (arith, rest, sum_by-cons listed_weight (p, kind.Value k) ls)

  united_less : (ls : List (ℕ × ItemKind)) → sum_by united_weight (united ls) ≤ sum_by listed_weight ls
  united_less [] = omega arith
  united_less ((p, kind.Instance i) ∷ ls) = instances_less ((p, kind.Instance i) ∷ ls)
  united_less ((p, kind.TypeItem (ty.Interface i)) ∷ ls) =
      let none : sum_by united_weight [] ≡ 0 = refl in
      omega (arith, none, sum_by-cons united_weight (p, i) [], sum_by-cons listed_weight (p, kind.TypeItem (ty.Interface i)) ls)
  united_less ((p, kind.TypeItem (ty.Resource k)) ∷ ls) = omega arith
  united_less ((p, kind.TypeItem (ty.Func k)) ∷ ls) = omega arith
  united_less ((p, kind.TypeItem (ty.Value k)) ∷ ls) = omega arith
  united_less ((p, kind.TypeItem (ty.World k)) ∷ ls) = omega arith
  united_less ((p, kind.TypeItem (ty.Module k)) ∷ ls) = omega arith
  united_less ((p, kind.Func k) ∷ ls) = omega arith
  united_less ((p, kind.Component k) ∷ ls) = omega arith
  united_less ((p, kind.Module k) ∷ ls) = omega arith
  united_less ((p, kind.Value k) ∷ ls) = omega arith

  module _ (ps : List Part) where
    -- The items of a part, their types, and what these weigh.
    abbrev pub types_in : ℕ → List AnyType
    types_in p = kind_types (part_lists c ps p)

    abbrev pub near_in : ℕ → List AnyType
    near_in p = near_all c (types_in p)

    abbrev pub entries_in : ℕ → ℕ
    entries_in p = named_parts (part_lists c ps p)

    abbrev pub inside_in : ℕ → ℕ
    inside_in p = own_texts c (near_in p) + sum_by (scope_weight c) (types_in p)

    abbrev pub scope_in : ℕ → ℕ
    scope_in p = option_case (slice_get ps p) 0 (λ y. scope_weight c (ty.Interface y.interface))

    -- What a part exports under a name weighs.
    abbrev found_in : Name → ℕ → ℕ
    found_in n p = option_case (find_name (part_lists c ps p) n) 0 (λ k. scope_weight c (kind_type k))

    listed_less : (n : Name) (qs : List ℕ) → sum_by listed_weight (listed_under c ps qs n) ≤ sum_by (found_in n) qs
    listed_less n [] = omega arith
    listed_less n (p ∷ qs) =
        let rest = listed_less n qs in
        let here = by (find_name (part_lists c ps p) n) in
        omega (arith, rest, here, sum_by-cons (found_in n) p qs)
      where
        by : (o : Option ItemKind) → sum_by listed_weight (option_case o (listed_under c ps qs n) (λ k. (p, k) ∷ listed_under c ps qs n)) ≤ option_case o 0 (λ k. scope_weight c (kind_type k)) + sum_by listed_weight (listed_under c ps qs n)
        by None = omega arith
        by (Some k) = let cons = sum_by-cons listed_weight (p, k) (listed_under c ps qs n) in omega (arith, cons)

    -- the parts of an inner union
    parts_less : (v : ℕ) (is : List (ℕ × InterfaceId)) (qs : List ℕ) → AreParts ps v is qs → sum_by scope_in qs ≤ sum_by united_weight is
    parts_less v is qs are =
        sum_zipped (λ (i : ℕ × InterfaceId) (q : ℕ). slice_get ps q ≡ Some (part i.1 (Some i.0) v)) united_weight scope_in
        (λ i q at. let same : scope_in q ≡ united_weight i = ap (λ o. option_case o 0 (λ (y : Part). scope_weight c (ty.Interface y.interface))) at in omega (arith, same)) is qs are

module _ (c m : Collection) (es : List Entry) (roots : List (List InterfaceId)) (us : List Union) (ps : List Part) (bs : ClassBindings) (f : Fresh) (ids : List (Option Name)) (ws : List InterfaceId)
    (merged : AreMerged c m es roots us ps bs f ids ws) (ends : (o : Option ℕ) → AreEnds c m (became c ps bs f o)) (extended : IsExtended c m) (sound : IsSound c)
    (t : NamedTypes) (made : Made) (there : AreThere m made) (unions : AreUnionsMadeOf c m (λ p. became c ps bs f (Some p)) t made us ws) where
  abbrev in_part : ℕ → ResourceId → ResourceId
  in_part p = became c ps bs f (Some p)

  -- A type became this in one of these parts.
  abbrev IsOfPart : List ℕ → AnyType → Type 0
  IsOfPart qs a = (p : ℕ) × Contains qs p × IsImage c m merged.source merged.target extended t made there (in_part p) (near_in c ps p) a

  lists_are : (p : ℕ) (y : Part) → slice_get ps p ≡ Some y → part_lists c ps p ≡ interface_exports c y.interface
  lists_are p y at = ap (λ o. option_case o [] (λ (z : Part). interface_exports c z.interface)) at

  part_held : (p : ℕ) (y : Part) → slice_get ps p ≡ Some y → holds_type c (ty.Interface y.interface) ≡ true
  part_held p y at = low_test y.interface.0 (length c.interfaces) (merged.unions.held p y at)

  pub part_source : (p : ℕ) (y : Part) → slice_get ps p ≡ Some y → IsSource c m merged.source merged.target extended t made there (in_part p) (near_in c ps p)
  part_source p y at = record {
    closed = near_closed c merged.source (types_in c ps p);
    held = near_held c merged.source (types_in c ps p) (λ a h. item_held c merged.source (ty.Interface y.interface) a (part_held p y at) (subst (λ l. IsIn a (kind_types l)) (lists_are p y at) h));
    ends = ends (Some p);
  }

  -- a type that a part exports is near its items
  listed_near : (p : ℕ) (n : Name) (k : ItemKind) → find_name (part_lists c ps p) n ≡ Some k → is_scope (kind_type k) ≡ false → IsIn (kind_type k) (near_in c ps p)
  listed_near p n k found plain =
      let w = find_at (part_lists c ps p) n k found in
      near_there c (types_in c ps p) (kind_type k) (kind_in (part_lists c ps p) (n, k) (at_in (part_lists c ps p) w.0 (n, k) w.1)) plain

  -- The interface of a union weighs no more than its parts: its items, and what is inside.
  abbrev pub Weighs : ℕ → Type 0
  Weighs u = (x : Union) (w : InterfaceId) → slice_get us u ≡ Some x → slice_get ws u ≡ Some w
      → (entry_weight m (ty.Interface w) ≤ sum_by (entries_in c ps) x.parts.items) × (inner_weight m (ty.Interface w) ≤ sum_by (inside_in c ps) x.parts.items)

  -- what a part is
  pub scope_is : (u : ℕ) (x : Union) → slice_get us u ≡ Some x → (q : ℕ) → Contains x.parts.items q → scope_in c ps q ≡ 1 + entries_in c ps q + inside_in c ps q
  scope_is u x at q h =
      let (y, at_y, of) = merged.unions.placed u q x at h in
      let here : scope_in c ps q ≡ scope_weight c (ty.Interface y.interface) = ap (λ o. option_case o 0 (λ (z : Part). scope_weight c (ty.Interface z.interface))) at_y in
      let parts = scope-weighs-its-parts c (ty.Interface y.interface) merged.source (part_held q y at_y) refl in
      let items : entries_in c ps q ≡ entry_weight c (ty.Interface y.interface) = ap (λ (l : List (Name × ItemKind)). named_parts l) (lists_are q y at_y) in
      let inside : inside_in c ps q ≡ inner_weight c (ty.Interface y.interface) =
      ap (λ (l : List (Name × ItemKind)). own_texts c (near_all c (kind_types l)) + sum_by (scope_weight c) (kind_types l)) (lists_are q y at_y) in
      omega (arith, here, parts, items, inside)

  -- the whole of an interface that is written
  pub whole_less : (u : ℕ) (x : Union) → slice_get us u ≡ Some x → (w : InterfaceId) → slice_get ws u ≡ Some w → Weighs u → (x.parts.items ≡ [] → ⊥) → scope_weight m (ty.Interface w) ≤ sum_by (scope_in c ps) x.parts.items
  whole_less u x at w given weighs some =
      let made_w = merged.written.written u x at in
      let same : made_w.0 ≡ w = one_some (slice_get ws u) made_w.0 w made_w.2 given in
      let held : holds_type m (ty.Interface w) ≡ true = subst (λ z. holds_type m (ty.Interface z) ≡ true) same (low_test (made_w.0).0 (length m.interfaces) (within_held m.interfaces (made_w.0).0 made_w.1 made_w.3)) in
      let parts = scope-weighs-its-parts m (ty.Interface w) merged.target held refl in
      let (items, inside) = weighs x w at given in
      let sums = sum_whole (entries_in c ps) (inside_in c ps) (scope_in c ps) x.parts.items (scope_is u x at) some in
      omega (arith, parts, items, inside, sums)

  module _ (u : ℕ) (x : Union) (at : slice_get us u ≡ Some x) where
    abbrev qs : List ℕ
    qs = x.parts.items

    module _ (below : (v : ℕ) → u < v → Weighs v) (o : Name) (e : Export) (export : IsExport c us ps u o (listed_under c ps qs o) e) where
      abbrev ls : List (ℕ × ItemKind)
      ls = listed_under c ps qs o

      first_in : Contains ls (e.part, e.kind)
      first_in = first_listed c m es roots us ps bs f ids ws merged ends u x at o e export

      -- ---- what an export weighs as an interface or a world

      inner_weighs : (j : InterfaceId) → written_at ws e.inner ≡ Some j → scope_weight m (ty.Interface j) ≤ sum_by (listed_weight c) ls
      inner_weighs j given = go (united ls) refl export.inner where
        go : (is : List (ℕ × InterfaceId)) → united ls ≡ is → IsInner us ps u is e.inner → scope_weight m (ty.Interface j) ≤ sum_by (listed_weight c) ls
        go [] same none = absurd (no_some j (sym (ap (written_at ws) none) ∙ given))
        go (i ∷ is) same w =
            let some : (w.1).parts.items ≡ [] → ⊥ = λ none. subst (AreParts ps w.0 (i ∷ is)) none w.5 in
            let whole = whole_less w.0 w.1 w.4 j (sym (ap (written_at ws) w.2) ∙ given) (below w.0 w.3) some in
            let parts = parts_less c ps w.0 (i ∷ is) (w.1).parts.items w.5 in
            let all = united_less c ls in
            let these : sum_by (united_weight c) (united ls) ≡ sum_by (united_weight c) (i ∷ is) = ap (sum_by (united_weight c)) same in
            omega (arith, whole, parts, all, these)

      first_held : holds_type c (kind_type e.kind) ≡ true
      first_held =
          let (y, at_y, of, found) = listed_part c m es roots us ps bs f ids ws merged ends u x at o (e.part, e.kind) first_in in
          let w = find_at (part_lists c ps e.part) o e.kind found in
          item_held c merged.source (ty.Interface y.interface) (kind_type e.kind) (part_held e.part y at_y)
          (subst (λ l. IsIn (kind_type e.kind) (kind_types l)) (lists_are e.part y at_y) (kind_in (part_lists c ps e.part) (o, e.kind) (at_in (part_lists c ps e.part) w.0 (o, e.kind) w.1)))

      world_weighs : (k : ItemKind) → kind_type k ≡ kind_type e.kind → scope_weight m (kind_type k) ≤ sum_by (listed_weight c) ls
      world_weighs k same =
          let kept = scope_kept c m merged.source merged.target extended (kind_type e.kind) first_held in
          let one = term_less (listed_weight c) ls (e.part, e.kind) first_in in
          let here : scope_weight m (kind_type k) ≡ scope_weight m (kind_type e.kind) = ap (scope_weight m) same in
          omega (arith, kept, one, here)

      plain_weighs : (k : ItemKind) → is_scope (kind_type k) ≡ false → scope_weight m (kind_type k) ≤ sum_by (listed_weight c) ls
      plain_weighs k plain = let none = plain-has-none m (kind_type k) plain in omega (arith, none)

      written_weighs : (a k : ItemKind) → e.kind ≡ a → IsWrittenAs c m (in_part e.part) (written_at ws e.inner) o a k → scope_weight m (kind_type k) ≤ sum_by (listed_weight c) ls
      written_weighs (kind.TypeItem (ty.Resource r)) (kind.TypeItem (ty.Resource a)) is w = plain_weighs (kind.TypeItem (ty.Resource a)) refl
      written_weighs (kind.TypeItem (ty.Interface i)) (kind.TypeItem (ty.Interface j)) is w = inner_weighs j w
      written_weighs (kind.TypeItem (ty.Func g)) (kind.TypeItem (ty.Func h)) is w = plain_weighs (kind.TypeItem (ty.Func h)) refl
      written_weighs (kind.TypeItem (ty.Value g)) (kind.TypeItem (ty.Value h)) is w = plain_weighs (kind.TypeItem (ty.Value h)) refl
      written_weighs (kind.TypeItem (ty.World g)) (kind.TypeItem (ty.World h)) is w = world_weighs (kind.TypeItem (ty.World h)) (ap ty.World (sym w) ∙ ap kind_type (sym is))
      written_weighs (kind.TypeItem (ty.Module g)) (kind.TypeItem (ty.Module h)) is w = plain_weighs (kind.TypeItem (ty.Module h)) refl
      written_weighs (kind.Func g) (kind.Func h) is w = plain_weighs (kind.Func h) refl
      written_weighs (kind.Instance i) (kind.Instance j) is w = inner_weighs j w
      written_weighs (kind.Component g) (kind.Component h) is w = world_weighs (kind.Component h) (ap ty.World (sym w) ∙ ap kind_type (sym is))
      written_weighs (kind.Module g) (kind.Module h) is w = plain_weighs (kind.Module h) refl
      written_weighs (kind.Value g) (kind.Value h) is w = plain_weighs (kind.Value h) refl
      written_weighs a k is w = absurd w

      export_weighs : (n : Name) (k : ItemKind) → IsWrittenExport c m ps bs f ws u (o, e) (n, k) → scope_weight m (kind_type k) ≤ sum_by (found_in c ps o) qs
      export_weighs n k written =
          let listed = by e.is_own refl in
          let less = listed_less c ps o qs in
          omega (arith, listed, less)
        where
          by : (b : Bool) → e.is_own ≡ b → scope_weight m (kind_type k) ≤ sum_by (listed_weight c) ls
          by true own =
              let w = written_own c m us ps bs f ws u o n e k written own in
              plain_weighs k (ap (λ (l : ItemKind). is_scope (kind_type l)) w.2)
          by false other = written_weighs e.kind k refl (written_other c m us ps bs f ws u o n e k written other)

      -- ---- what an export became of

      own_image : (q : ResourceId) → own_in f u o ≡ Some q → e.is_own ≡ true → IsOfPart qs (ty.Resource q)
      own_image q new own =
          let any = any-found (is_own_of c ps o) ls (sym export.own ∙ own) in
          let l = any.1 in
          let in_ls = at_in ls any.0 l any.2 in
          let from = listed_from c ps qs o l in_ls in
          let (y, at_y, of, found) = listed_part c m es roots us ps bs f ids ws merged ends u x at o l in_ls in
          let it = part_interface c m es roots us ps bs f ids ws merged ends l.0 y at_y in
          let exports : part_lists c ps l.0 ≡ (it.0).exports = exports_are c m es roots us ps bs f ids ws merged ends l.0 y it.0 at_y it.1 in
          let there_too : find_name (it.0).exports o ≡ Some l.1 = subst (λ (ks : List (Name × ItemKind)). find_name ks o ≡ Some l.1) exports found in
          let listing = own_listing c sound ps l.0 y it.0 o l.1 at_y it.1 there_too any.3 in
          let r = listing.resource in
          let listed = own_listed c listing.uses r o l.1 listing.lists in
          let now : in_part l.0 r ≡ q = became_own c ps bs f l.0 y r o q at_y listing.finds (ap (λ z. own_in f z o) of ∙ new) in
          let near : IsIn (kind_type l.1) (near_in c ps l.0) = listed_near l.0 o l.1 found (ap (λ (k : ItemKind). is_scope (kind_type k)) listed.item) in
          (l.0, from.0, (r, subst (λ z. IsIn z (near_in c ps l.0)) (ap kind_type listed.item) near, listed.no_alias, inl (sym now)))

      first_near : is_scope (kind_type e.kind) ≡ false → IsIn (kind_type e.kind) (near_in c ps e.part)
      first_near plain =
          let (y, at_y, of, found) = listed_part c m es roots us ps bs f ids ws merged ends u x at o (e.part, e.kind) first_in in
          listed_near e.part o e.kind found plain

      of_first : (a : AnyType) → IsImage c m merged.source merged.target extended t made there (in_part e.part) (near_in c ps e.part) a → IsOfPart qs a
      of_first a image = let from = listed_from c ps qs o (e.part, e.kind) first_in in (e.part, from.0, image)

      first_source : IsSource c m merged.source merged.target extended t made there (in_part e.part) (near_in c ps e.part)
      first_source =
          let (y, at_y, of, found) = listed_part c m es roots us ps bs f ids ws merged ends u x at o (e.part, e.kind) first_in in
          part_source e.part y at_y

      written_image : (a k : ItemKind) → e.kind ≡ a → IsWrittenAs c m (in_part e.part) (written_at ws e.inner) o a k → IsKindMadeOf c m (in_part e.part) t made a k → is_scope (kind_type k) ≡ false → IsOfPart qs (kind_type k)
      written_image (kind.TypeItem (ty.Resource r)) (kind.TypeItem (ty.Resource a)) is w h plain =
          let near = subst (λ z. IsIn z (near_in c ps e.part)) (ap kind_type is) (first_near (ap (λ (k : ItemKind). is_scope (kind_type k)) is)) in
          let end = end_in c m merged.source merged.target extended t made there (in_part e.part) (near_in c ps e.part) first_source r near in
          of_first (ty.Resource a) (resolved c r, end.0, end.1, inr (o, w))
      written_image (kind.TypeItem (ty.Func g)) (kind.TypeItem (ty.Func b)) is w h plain =
          of_first (ty.Func b) (g, subst (λ z. IsIn z (near_in c ps e.part)) (ap kind_type is) (first_near (ap (λ (k : ItemKind). is_scope (kind_type k)) is)), h)
      written_image (kind.TypeItem (ty.Value g)) (kind.TypeItem (ty.Value b)) is w h plain =
          of_first (ty.Value b) (g, subst (λ z. IsIn z (near_in c ps e.part)) (ap kind_type is) (first_near (ap (λ (k : ItemKind). is_scope (kind_type k)) is)), h)
      written_image (kind.TypeItem (ty.Module g)) (kind.TypeItem (ty.Module b)) is w h plain =
          of_first (ty.Module b) (subst (λ z. IsIn z (near_in c ps e.part)) (ap kind_type is ∙ ap ty.Module w) (first_near (ap (λ (k : ItemKind). is_scope (kind_type k)) is)))
      written_image (kind.Func g) (kind.Func b) is w h plain =
          of_first (ty.Func b) (g, subst (λ z. IsIn z (near_in c ps e.part)) (ap kind_type is) (first_near (ap (λ (k : ItemKind). is_scope (kind_type k)) is)), h)
      written_image (kind.Module g) (kind.Module b) is w h plain =
          of_first (ty.Module b) (subst (λ z. IsIn z (near_in c ps e.part)) (ap kind_type is ∙ ap ty.Module w) (first_near (ap (λ (k : ItemKind). is_scope (kind_type k)) is)))
      written_image (kind.Value g) (kind.Value b) is w h plain =
          of_first (ty.Value b) (g, subst (λ z. IsIn z (near_in c ps e.part)) (ap kind_type is) (first_near (ap (λ (k : ItemKind). is_scope (kind_type k)) is)), h)
      written_image (kind.TypeItem (ty.Interface i)) (kind.TypeItem (ty.Interface j)) is w h plain = absurd (not_scope true refl plain)
      written_image (kind.TypeItem (ty.World g)) (kind.TypeItem (ty.World b)) is w h plain = absurd (not_scope true refl plain)
      written_image (kind.Instance i) (kind.Instance j) is w h plain = absurd (not_scope true refl plain)
      written_image (kind.Component g) (kind.Component b) is w h plain = absurd (not_scope true refl plain)
      written_image a k is w h plain = absurd w

      export_image : (n : Name) (k : ItemKind) → IsWrittenExport c m ps bs f ws u (o, e) (n, k) → IsKindMadeOf c m (in_part e.part) t made e.kind k → is_scope (kind_type k) ≡ false → IsOfPart qs (kind_type k)
      export_image n k written h plain = by e.is_own refl
        where
          by : (b : Bool) → e.is_own ≡ b → IsOfPart qs (kind_type k)
          by true own =
              let w = written_own c m us ps bs f ws u o n e k written own in
              subst (λ (l : ItemKind). IsOfPart qs (kind_type l)) (sym w.2) (own_image w.0 w.1 own)
          by false other = written_image e.kind k refl (written_other c m us ps bs f ws u o n e k written other) h plain

    -- ---- all exports

    module _ (below : (v : ℕ) → u < v → Weighs v) (w : InterfaceId) (given : slice_get ws u ≡ Some w) where
      abbrev Written : Name × Export → Name × ItemKind → Type 0
      Written = IsWrittenExport c m ps bs f ws u

      abbrev its : List (Name × ItemKind)
      its = interface_exports m w

      zip : AllZip Written x.exports its
      zip =
          let made_w = merged.written.written u x at in
          let same : made_w.0 ≡ w = one_some (slice_get ws u) made_w.0 w made_w.2 given in
          let here : interface_exports m w ≡ made_w.1.exports = ap (interface_exports m) (sym same) ∙ ap (λ o. option_case o [] (λ (z : Interface). z.exports)) made_w.3 in
          subst (AllZip Written x.exports) (sym here) made_w.6

      made_items : AreItemsMadeOf c m in_part t made x.exports its
      made_items =
          let h = unions u x w at given in
          subst (AreItemsMadeOf c m in_part t made x.exports) (sym (ap (λ o. option_case o [] (λ (z : Interface). z.exports)) h.there)) h.items

      names : map (λ (k : Name × ItemKind). k.0) its ≡ names_behind [] (map (part_lists c ps) qs)
      names = zip_names Written (λ a b r. r.0) x.exports its zip ∙ merged.unions.ordered u x at

      is_export : (i : ℕ) (o : Name) (e : Export) → slice_get x.exports i ≡ Some (o, e) → IsExport c us ps u o (listed_under c ps qs o) e
      is_export i o e here = MatchOption-at_some (listed_under c ps qs o ≡ []) (λ y. IsExport c us ps u o (listed_under c ps qs o) y) e (export_found c roots us ps merged.unions u x at i o e here) (merged.unions.exported u x o at)

      items_less : named_parts its ≤ sum_by (entries_in c ps) qs
      items_less =
          let here : sum_by label (map (λ (k : Name × ItemKind). k.0) its) ≡ named_parts its = sum_mapped label (λ (k : Name × ItemKind). k.0) its in
          let behind = behind_weight [] (map (part_lists c ps) qs) in
          let same : sum_by label (map (λ (k : Name × ItemKind). k.0) its) ≡ sum_by label (names_behind [] (map (part_lists c ps) qs)) = ap (sum_by label) names in
          let lists : sum_by named_parts (map (part_lists c ps) qs) ≡ sum_by (entries_in c ps) qs = sum_mapped named_parts (part_lists c ps) qs in
          let none : sum_by label [] ≡ 0 = refl in
          omega (arith, here, behind, same, lists, none)

      near_less : own_texts m (near_all m (kind_types its)) ≤ sum_by (λ p. own_texts c (near_in c ps p)) qs
      near_less = images_less c m merged.source merged.target extended t made there in_part (near_in c ps) qs sources (kind_types its) all
        where
          sources : (p : ℕ) → Contains qs p → IsSource c m merged.source merged.target extended t made there (in_part p) (near_in c ps p)
          sources p h = let y = merged.unions.placed u p x at h in part_source p y.0 y.1

          all : (a : AnyType) → IsIn a (kind_types its) → is_scope a ≡ false → IsOfPart qs a
          all a h plain =
              let k = kind_at its a h in
              let from = zip-right Written x.exports its k.index k.item zip k.at in
              let o = (from.0).0 in
              let e = (from.0).1 in
              let of = items-at c m in_part t made x.exports its k.index from.0 k.item made_items from.1 k.at in
              subst (IsOfPart qs) (sym k.is) (export_image below o e (is_export k.index o e from.1) k.item.0 k.item.1 from.2 of (ap is_scope (sym k.is) ∙ plain))

      found_less : (ns : List Name) → Differ ns → (p : ℕ) → sum_by (λ n. found_in c ps n p) ns ≤ sum_by (scope_weight c) (types_in c ps p)
      found_less ns once p =
          let less : sum_by (λ n. found_in c ps n p) ns ≤ sum_by (λ (e : Name × ItemKind). scope_weight c (kind_type e.1)) (part_lists c ps p) = sum_found (λ (k : ItemKind). scope_weight c (kind_type k)) ns once (part_lists c ps p) in
          let kinds = sum_kinds (scope_weight c) (part_lists c ps p) in
          omega (arith, less, kinds)

      scopes_less : sum_by (scope_weight m) (kind_types its) ≤ sum_by (λ p. sum_by (scope_weight c) (types_in c ps p)) qs
      scopes_less =
          let here = sum_kinds (scope_weight m) its in
          let count = zip_length Written x.exports its zip in
          let each = sum_beside (λ (k : Name × ItemKind). scope_weight m (kind_type k.1)) (λ (e : Name × Export). sum_by (found_in c ps e.0) qs) its x.exports count
          (λ i k e at_k at_e. let from = zip-right Written x.exports its i k zip at_k in
          let same : from.0 ≡ e = one_some (slice_get x.exports i) from.0 e from.1 at_e in
          export_weighs below e.0 e.1 (is_export i e.0 e.1 at_e) k.0 k.1 (subst (λ z. Written z k) same from.2)) in
          let ns = map (λ (e : Name × Export). e.0) x.exports in
          let named : sum_by (λ n. sum_by (found_in c ps n) qs) ns ≡ sum_by (λ (e : Name × Export). sum_by (found_in c ps e.0) qs) x.exports = sum_mapped (λ n. sum_by (found_in c ps n) qs) (λ (e : Name × Export). e.0) x.exports in
          let swap = sum_swap (found_in c ps) ns qs in
          let once = once_differ ns (subst AreOnce (sym (merged.unions.ordered u x at)) (once_behind [] (map (part_lists c ps) qs) tt)) in
          let found = sum_in (λ p. sum_by (λ n. found_in c ps n p) ns) (λ p. sum_by (scope_weight c) (types_in c ps p)) qs (λ p h. found_less ns once p) in
          omega (arith, here, each, named, swap, found)

      union_weighs : (entry_weight m (ty.Interface w) ≤ sum_by (entries_in c ps) qs) × (inner_weight m (ty.Interface w) ≤ sum_by (inside_in c ps) qs)
      union_weighs =
          let near = near_less in
          let scopes = scopes_less in
          let both : sum_by (inside_in c ps) qs ≡ sum_by (λ p. own_texts c (near_in c ps p)) qs + sum_by (λ p. sum_by (scope_weight c) (types_in c ps p)) qs =
          sum_both (λ p. own_texts c (near_in c ps p)) (λ p. sum_by (scope_weight c) (types_in c ps p)) qs in
          let inner : inner_weight m (ty.Interface w) ≡ own_texts m (near_all m (kind_types its)) + sum_by (scope_weight m) (kind_types its) = refl in
          (items_less, omega (arith, near, scopes, both, inner))

  weigh_to : (n u : ℕ) → length us ≤ u + n → Weighs u
  weigh_to zero u high x w at given = let low = slice_get_within us u x at in absurd (omega (arith, low, high))
  weigh_to (suc n) u high x w at given = union_weighs u x at (λ v low. weigh_to n v (omega (arith, low, high))) w given

  pub all_weigh : (u : ℕ) → Weighs u
  all_weigh u = weigh_to (length us) u (omega arith)
