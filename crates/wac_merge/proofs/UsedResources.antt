-- A used resource is what is listed under its name, where the used class is the first that binds it.
use Rattle.std.proofs.Common.{◌≡◌, ℕ, zero, suc, Bool, true, false, cond, List, [], ◌∷◌, map, slice_get, Option, Some, None, refl, sym, ap, ◌∙◌, subst, arith}
use Rattle.std.proofs.lemmas.Bool.{eq-eqb, false≢true}
use Rattle.std.proofs.lemmas.Option.{MatchOption-at_some, slice_get_within}
use Rattle.wac_types_shapes.specs.primitives.Name.{Name, find_name, first_some, option_case}
use Rattle.wac_types_shapes.specs.declared.shapes.component.Interface.{Interface}
use Rattle.wac_types_shapes.specs.declared.shapes.component.InterfaceId.{InterfaceId}
use Rattle.wac_types_shapes.specs.declared.shapes.component.ItemKind.{ItemKind}
use Rattle.wac_types_shapes.specs.declared.shapes.component.ItemKind.TheVariants as kind
use Rattle.wac_types_shapes.specs.declared.shapes.component.ResourceId.{ResourceId}
use Rattle.wac_types_shapes.specs.declared.shapes.component.UsedType.{UsedType}
use Rattle.wac_types_shapes.specs.declared.shapes.component.«Type».TheVariants as ty
use Rattle.wac_types_collection.specs.collection.Bound.{is_alias, own_name}
use Rattle.wac_types_collection.specs.collection.Collection.{Collection, IsWellFormed, interface_exports, item_at}
use Rattle.wac_types_collection.specs.collection.Held.{resolved}
use Rattle.wac_types_shapes.specs.primitives.Tree.{Place, named}
use Rattle.wac_types_collection.specs.collection.Uses.{is_listed_as_used, name_there, same_type_item, used_item}
use Rattle.wac_merge_classes.specs.entries.Binding.{first_binds, kind_binds}
use Rattle.wac_merge_classes.specs.entries.Bindings.{first_in, path_in}
use Rattle.wac_merge_classes.specs.entries.Classes.{Entry, by_names, class_names, is_instance, members, same_class, same_track}
use Rattle.wac_merge_classes.proofs.lemmas.entries.ClassFacts.{class-sym, class-trans, one-position}
use Rattle.wac_merge_classes.proofs.lemmas.entries.Lists.{some-at}
use Rattle.wac_merge_classes.specs.terms.Became.{became, became_in_class, became_outside, became_to, new_at, or_itself, own_in, own_of_part}
use Rattle.wac_merge_classes.specs.terms.Merge.{IsMerge, Merged}
use Rattle.wac_merge_classes.specs.terms.Unions.{IsExport, listed_under, part, part_lists}
use Rattle.wac_merge_classes.specs.terms.Writing.{IsAliasOf, IsWrittenAs, IsWrittenExport, written_at}
use Rattle.wac_merge_classes.specs.declared.terms.parts.Export.{Export}
use Rattle.wac_merge_classes.specs.declared.terms.parts.Part.{Part}
use Rattle.wac_merge_classes.proofs.lemmas.terms.Found.{get_map, no_some, one_some, some_same}
use Rattle.wac_merge_imports.proofs.lemmas.fitting.FittingParts.{written-alias}
use Rattle.wac_merge_trees.proofs.lemmas.trees.UnionTreesOwn.{alias_resolved, end_alias, end_source, zip_at}
use Rattle.wac_merge_trees.proofs.lemmas.trees.UnionTreesParts.{contains_at}
use Rattle.wac_merge_trees.proofs.lemmas.trees.UnionTreesWritten.{written_name, written_other, written_own}
use Rattle.wac_merge_unions.specs.uses.KeptUses.{of_interface}
use Rattle.wac_merge_unions.specs.uses.United.{instances_of}
use Rattle.wac_merge_unions.proofs.lemmas.uses.ClassFolds.{mapped_at}
use Rattle.wac_merge_imports.specs.unions.OneId.{HasOneIdEach}
use Rattle.wac_merge_imports.proofs.lemmas.unions.AssembledKinds.{the-instance}
use Rattle.wac_merge.specs.Listed.{united_interfaces}
use Rattle.wac_merge.specs.UsedResources.{BindsResource, ListsResource}
use Rattle.wac_merge.proofs.ListedInOrder.{AreAll, IsPartOf, IsUnionOf, as-instance, bare-exports, exports-are, first-instances, first-is, members-like, of-class, type-listed, zip-back}
use Rattle.wac_merge.proofs.UsedBefore.{canonical-class}
use Rattle.wac_merge.proofs.UsedValues.{held-interface}

-- ---- lists

-- each united interface is that of an instance
all-instances-from : (ks : List ItemKind) → AreAll true ks → (j : ℕ) (i : InterfaceId) → slice_get (instances_of ks) j ≡ Some i → slice_get ks j ≡ Some (kind.Instance i)
all-instances-from [] each j i at = absurd (no_some i at)
all-instances-from (kind.Instance k ∷ ks) each zero i at = ap (λ z. Some (kind.Instance z)) (some_same k i at)
all-instances-from (kind.Instance k ∷ ks) each (suc j) i at = all-instances-from ks (λ l x x-at. each (suc l) x x-at) j i at
all-instances-from (k ∷ ks) each j i at = absurd (false≢true (each 0 k refl))

-- the first part that lists a name is one of the parts
first-part : (c : Collection) (ps : List Part) (n : Name) (qs : List ℕ) (l : ℕ × ItemKind) → slice_get (listed_under c ps qs n) 0 ≡ Some l → (j : ℕ) × (slice_get qs j ≡ Some l.0)
first-part c ps n [] l at = absurd (no_some l at)
first-part c ps n (q ∷ qs) l at = by (find_name (part_lists c ps q) n) (first-part c ps n qs l) at where
  by : (o : Option ItemKind) → (slice_get (listed_under c ps qs n) 0 ≡ Some l → (j : ℕ) × (slice_get qs j ≡ Some l.0)) → slice_get (option_case o (listed_under c ps qs n) (λ k. (q, k) ∷ listed_under c ps qs n)) 0 ≡ Some l
      → (j : ℕ) × (slice_get (q ∷ qs) j ≡ Some l.0)
  by None rest at = let w = rest at in (suc w.0, w.1)
  by (Some k) rest at = (0, ap (λ (x : ℕ × ItemKind). Some x.0) (some_same (q, k) l at))

-- ---- what was written

-- as a resource
module _ (c m : Collection) (g : ResourceId → ResourceId) (o : Option InterfaceId) (n : Name) (a : ResourceId) where
  from-resource : (k : ItemKind) (s : ResourceId) → k ≡ kind.TypeItem (ty.Resource s) → IsWrittenAs c m g o n k (kind.TypeItem (ty.Resource a)) → IsAliasOf m n (g (resolved c s)) a
  from-resource k s is h = subst (λ z. IsWrittenAs c m g o n z (kind.TypeItem (ty.Resource a))) is h

-- ---- what no member has as its own is bound by none

module _ (c : Collection) (class : Name) (r : ResourceId) where
  kind-free : (i : InterfaceId) → ((it : Interface) → item_at c.interfaces i.0 ≡ Some it → own_name c it.uses it.exports r ≡ None) → kind_binds by_names c class (kind.Instance i) r ≡ None
  kind-free i free = by (item_at c.interfaces i.0) free where
    tracked : (b : Bool) (o : Option Name) → o ≡ None → cond b (option_case o None (λ n. Some (named n ∷ []))) None ≡ None
    tracked true o is = ap (λ z. option_case z None (λ n. Some (named n ∷ []))) is
    tracked false o is = refl

    identified : (d : Option Name) (o : Option Name) → o ≡ None → option_case d None (λ id. cond (same_track (by_names.track id) (by_names.track class)) (option_case o None (λ n. Some (named n ∷ []))) None) ≡ None
    identified None o is = refl
    identified (Some id) o is = tracked (same_track (by_names.track id) (by_names.track class)) o is

    by : (x : Option Interface) → ((it : Interface) → x ≡ Some it → own_name c it.uses it.exports r ≡ None)
        → option_case x None (λ it. option_case it.id None (λ id. cond (same_track (by_names.track id) (by_names.track class)) (option_case (own_name c it.uses it.exports r) None (λ n. Some (named n ∷ []))) None)) ≡ None
    by None free = refl
    by (Some it) free = identified it.id (own_name c it.uses it.exports r) (free it refl)

  all-free : (xs : List Entry) → ((j : ℕ) (e : Entry) → slice_get xs j ≡ Some e → kind_binds by_names c class e.kind r ≡ None) → first_binds by_names c class xs r ≡ None
  all-free [] each = refl
  all-free (x ∷ xs) each = ap (λ o. first_some o (first_binds by_names c class xs r)) (each 0 x refl) ∙ all-free xs (λ j e at. each (suc j) e at)

module _ (c : Collection) (es : List Entry) (m : Merged) (well : IsWellFormed m.types) (g : IsMerge by_names c es m) (h : HasOneIdEach c es m) where
  -- ---- the class that binds it

  module _ (p : ℕ) (n : Name) (r b : ResourceId) (l : BindsResource c es m p n r b) where
    abbrev bound-kinds : List ItemKind
    bound-kinds = map (λ (y : Entry). y.kind) (members by_names es l.entry.name)

    -- the union of the class has it as the new resource of the name
    module _ (u : IsUnionOf c es m g h l.interface (united_interfaces bound-kinds)) (it : Interface) (it-at : item_at m.types.interfaces l.interface.0 ≡ Some it) (it-lists : find_name it.exports n ≡ Some (kind.TypeItem (ty.Resource b))) where
      abbrev BoundAs : Name × Export → Name × ItemKind → Type 0
      BoundAs = IsWrittenExport c m.types h.ps h.bs h.f h.written.ws u.number

      own-is : own_in h.f u.number n ≡ Some b
      own-is =
          let z = zip-back BoundAs (written_name c m.types h.us h.ps h.bs h.f h.written.ws u.number) u.union.exports (bare-exports c es m g h l.interface (united_interfaces bound-kinds) u it it-at) (exports-are c es m g h l.interface (united_interfaces bound-kinds) u it it-at) n (kind.TypeItem (ty.Resource b)) (type-listed c es m g h l.interface (united_interfaces bound-kinds) u it it-at n (ty.Resource b) it-lists) in
          by z.0 z.2 (z.0).is_own refl
        where
          resource-of : ResourceId → ItemKind → ResourceId
          resource-of d (kind.TypeItem (ty.Resource q)) = q
          resource-of d k = d

          by : (e : Export) → BoundAs (n, e) (n, kind.TypeItem (ty.Resource b)) → (own : Bool) → e.is_own ≡ own → own_in h.f u.number n ≡ Some b
          by e w true own =
              let o = written_own c m.types h.us h.ps h.bs h.f h.written.ws u.number n n e (kind.TypeItem (ty.Resource b)) w own in
              let same : b ≡ o.0 = ap (resource-of b) o.2 in
              o.1 ∙ ap Some (sym same)
          by e w false own =
              let o = written_other c m.types h.us h.ps h.bs h.f h.written.ws u.number n n e (kind.TypeItem (ty.Resource b)) w own in
              absurd (false≢true (sym l.own ∙ written-alias m.types c (became c h.ps h.bs h.f (Some e.part)) (written_at h.written.ws e.inner) n e.kind b o))

    new-is : own_in h.f l.number n ≡ Some b
    new-is =
        let o = of-class c es m g h p l.entry l.at in
        let u = as-instance c es m g h p l.entry l.at o l.interface l.is in
        let it = held-interface m.types l.interface n (kind.TypeItem (ty.Resource b)) l.listed in
        let first : same_class by_names es o.class l.entry.name ≡ true = subst (λ z. same_class by_names es o.class z ≡ true) (sym o.named) (canonical-class es o.class) in
        let second : same_class by_names es l.class l.entry.name ≡ true = subst (λ z. same_class by_names es l.class z ≡ true) (sym l.name) (canonical-class es l.class) in
        let one : o.number ≡ l.number = one-position by_names es es o.number l.number o.class l.class o.known l.known (class-trans by_names es o.class l.entry.name l.class first (class-sym by_names es l.class l.entry.name second)) in
        ap (λ k. own_in h.f k n) (sym (u.1 ∙ one)) ∙ own-is u.0 it.0 it.1 it.2

  -- ---- the class that uses it

  module _ (p : ℕ) (n : Name) (r a : ResourceId) (l : ListsResource c es m p n r a) where
    abbrev kinds : List ItemKind
    kinds = map (λ (y : Entry). y.kind) (members by_names es l.entry.name)

    all-instances : AreAll true kinds
    all-instances =
        let o = of-class c es m g h p l.entry l.at in
        subst (λ (ys : List Entry). AreAll true (map (λ (y : Entry). y.kind) ys)) o.alike (members-like c es m g h p l.entry l.at o true (ap is_instance l.is))

    -- no member binds it
    member-free : (class : Name) (j : ℕ) (e : Entry) → slice_get (members by_names es l.entry.name) j ≡ Some e → kind_binds by_names c class e.kind r ≡ None
    member-free class j e at =
        let i = the-instance e.kind (all-instances j e.kind (get-kind j e at)) in
        ap (λ k. kind_binds by_names c class k r) i.1 ∙ kind-free c class r i.0 (λ it it-at. l.free e i.0 it (contains_at (members by_names es l.entry.name) j e at) i.1 it-at)
      where
        get-kind : (j : ℕ) (e : Entry) → slice_get (members by_names es l.entry.name) j ≡ Some e → slice_get kinds j ≡ Some e.kind
        get-kind j e at = get_map (λ (y : Entry). y.kind) (members by_names es l.entry.name) j e at

    -- what becomes of it in a part of the class is what the first class has that binds it
    module _ (b : ResourceId) (k : ℕ) (o : Name) (bound : first_in h.bs r ≡ Some (k, named o ∷ [])) (new : own_in h.f k o ≡ Some b) where
      outside-is : became_outside h.bs h.f r ≡ b
      outside-is =
          ap (λ z. option_case z r (λ (x : ℕ × List Place). or_itself r (new_at h.f x.0 x.1))) bound
          ∙ ap (or_itself r) new

      in-class-is : (number : ℕ) (class : Name) → slice_get (class_names by_names es) number ≡ Some class → members by_names es class ≡ members by_names es l.entry.name → became_in_class h.bs h.f number r ≡ b
      in-class-is number class known alike =
          let none : path_in h.bs number r ≡ None = h.bindings.paths number class r known ∙ (ap (λ (xs : List Entry). first_binds by_names c class xs r) alike ∙ all-free c class r (members by_names es l.entry.name) (member-free class)) in
          ap (λ z. option_case z (became_outside h.bs h.f r) (λ path. or_itself r (new_at h.f number path))) none ∙ outside-is

      -- a part of the union of the class is of a member, and lies in no other
      module _ (number : ℕ) (class : Name) (known : slice_get (class_names by_names es) number ≡ Some class) (alike : members by_names es class ≡ members by_names es l.entry.name)
          (u : IsUnionOf c es m g h l.interface (united_interfaces kinds)) (placed : u.number ≡ number) (j q : ℕ) (at : slice_get u.union.parts.items j ≡ Some q) where
        part-is : (i : InterfaceId) × (slice_get (united_interfaces kinds) j ≡ Some i) × IsPartOf h.ps i q
        part-is = zip_at (IsPartOf h.ps) (united_interfaces kinds) u.union.parts.items u.parts j q at

        own-none : (i : InterfaceId) → slice_get (united_interfaces kinds) j ≡ Some i → (x : Part) → x.interface ≡ i → own_of_part c x r ≡ None
        own-none i i-at x is =
            let from = all-instances-from kinds all-instances j i (ap (λ (is : List InterfaceId). slice_get is j) (first-instances kinds all-instances) ∙ i-at) in
            let e = mapped_at (λ (y : Entry). y.kind) (members by_names es l.entry.name) j (kind.Instance i) from in
            ap (λ (z : InterfaceId). option_case (item_at c.interfaces z.0) None (λ (it : Interface). own_name c it.uses it.exports r)) is
            ∙ by (item_at c.interfaces i.0) (λ it it-at. l.free e.0 i it (contains_at (members by_names es l.entry.name) j e.0 e.1) e.2 it-at) where
              by : (z : Option Interface) → ((it : Interface) → z ≡ Some it → own_name c it.uses it.exports r ≡ None) → option_case z None (λ (it : Interface). own_name c it.uses it.exports r) ≡ None
              by None free = refl
              by (Some it) free = free it refl

        outer-none : (x : Part) → slice_get h.ps q ≡ Some x → x.union ≡ number → (w : Option ℕ) → x.outer ≡ w → x.outer ≡ None
        outer-none x x-at in-union None is = is
        outer-none x x-at in-union (Some w) is =
            let before = h.unions.unions.around q w x x-at is in
            let low = slice_get_within h.ps q x x-at in
            let y = some-at h.ps w (omega (arith, before, low)) in
            let behind = (h.unions.unions.inner q w x y.0 x-at is y.1).0 in
            let few = slice_get_within (class_names by_names es) number class known in
            let counted = h.unions.rooted.counted in
            absurd (omega (arith, behind, few, counted, in-union))

        became-is : became c h.ps h.bs h.f (Some q) r ≡ b
        became-is =
            let i = part-is in
            let x = part i.0 (i.2).0 (i.2).1 in
            let y = h.unions.unions.placed u.number q u.union u.there (contains_at u.union.parts.items j q at) in
            let in-union : x.union ≡ number = ap (λ (z : Part). z.union) (one_some (slice_get h.ps q) x y.0 (i.2).2 y.1) ∙ (y.2 ∙ placed) in
            let outer : x.outer ≡ None = outer-none x (i.2).2 in-union x.outer refl in
            ap (λ (z : Option Part). option_case z r (λ (x : Part). option_case (own_of_part c x r) (option_case x.outer (became_in_class h.bs h.f x.union r) (λ o. became_to q c h.ps h.bs h.f o r)) (λ n. or_itself r (own_in h.f x.union n)))) (i.2).2
            ∙ (ap (λ (z : Option Name). option_case z (option_case x.outer (became_in_class h.bs h.f x.union r) (λ o. became_to q c h.ps h.bs h.f o r)) (λ n. or_itself r (own_in h.f x.union n))) (own-none i.0 i.1 x refl)
            ∙ (ap (λ (z : Option ℕ). option_case z (became_in_class h.bs h.f x.union r) (λ o. became_to q c h.ps h.bs h.f o r)) outer
            ∙ (ap (λ (z : ℕ). became_in_class h.bs h.f z r) in-union ∙ in-class-is number class known alike)))

      -- what is listed is an alias of it
      end-is : resolved m.types a ≡ b
      end-is =
          let o = of-class c es m g h p l.entry l.at in
          let u = as-instance c es m g h p l.entry l.at o l.interface l.is in
          let it = held-interface m.types l.interface n (kind.TypeItem (ty.Resource a)) l.merged in
          by o.number o.class o.known o.alike u.0 u.1 it.0 it.1 it.2
        where
          by : (number : ℕ) (class : Name) → slice_get (class_names by_names es) number ≡ Some class → members by_names es class ≡ members by_names es l.entry.name
              → (u : IsUnionOf c es m g h l.interface (united_interfaces kinds)) → u.number ≡ number → (it : Interface) → item_at m.types.interfaces l.interface.0 ≡ Some it → find_name it.exports n ≡ Some (kind.TypeItem (ty.Resource a)) → resolved m.types a ≡ b
          by number class known alike u placed it it-at it-lists =
              let z = zip-back (IsWrittenExport c m.types h.ps h.bs h.f h.written.ws u.number) (written_name c m.types h.us h.ps h.bs h.f h.written.ws u.number) u.union.exports (bare-exports c es m g h l.interface (united_interfaces kinds) u it it-at) (exports-are c es m g h l.interface (united_interfaces kinds) u it it-at) n (kind.TypeItem (ty.Resource a)) (type-listed c es m g h l.interface (united_interfaces kinds) u it it-at n (ty.Resource a) it-lists) in
              let x = MatchOption-at_some _ (λ (y : Export). IsExport c h.us h.ps u.number n (listed_under c h.ps u.union.parts.items n) y) z.0 z.1 (h.unions.unions.exported u.number u.union n u.there) in
              let first = first-is c es m g h l.interface (united_interfaces kinds) u it it-at n z.0 (kind.TypeItem (ty.Resource a)) x in
              let is : (z.0).kind ≡ kind.TypeItem (ty.Resource l.first) = some_same (z.0).kind (kind.TypeItem (ty.Resource l.first)) (ap (λ (ks : List ItemKind). slice_get ks 0) (sym first ∙ l.listed)) in
              let j = first-part c h.ps n u.union.parts.items ((z.0).part, (z.0).kind) (ap (λ (ls : List (ℕ × ItemKind)). slice_get ls 0) x.first) in
              from z.0 z.2 is (became-is number class known alike u placed j.0 (z.0).part j.1) (z.0).is_own refl where
                resource-of : ResourceId → ItemKind → ResourceId
                resource-of d (kind.TypeItem (ty.Resource q)) = q
                resource-of d x = d

                from : (e : Export) → IsWrittenExport c m.types h.ps h.bs h.f h.written.ws u.number (n, e) (n, kind.TypeItem (ty.Resource a)) → e.kind ≡ kind.TypeItem (ty.Resource l.first) → became c h.ps h.bs h.f (Some e.part) r ≡ b → (own : Bool) → e.is_own ≡ own → resolved m.types a ≡ b
                from e w is became-b true own =
                    let v = written_own c m.types h.us h.ps h.bs h.f h.written.ws u.number n n e (kind.TypeItem (ty.Resource a)) w own in
                    let same : a ≡ v.0 = ap (resource-of a) v.2 in
                    let fresh = h.fresh.own u.number n v.0 v.1 in
                    absurd (false≢true (sym (end_alias m.types well v.0 fresh.there fresh.itself) ∙ (ap (is_alias m.types) (sym same) ∙ l.alias)))
                from e w is became-b false own =
                    let v = written_other c m.types h.us h.ps h.bs h.f h.written.ws u.number n n e (kind.TypeItem (ty.Resource a)) w own in
                    let x = from-resource c m.types (became c h.ps h.bs h.f (Some e.part)) (written_at h.written.ws e.inner) n a e.kind l.first is v in
                    let source : became c h.ps h.bs h.f (Some e.part) (resolved c l.first) ≡ b = ap (became c h.ps h.bs h.f (Some e.part)) l.end ∙ became-b in
                    let alias : IsAliasOf m.types n b a = subst (λ s. IsAliasOf m.types n s a) source x in
                    let fresh = h.fresh.own k o b new in
                    alias_resolved m.types a b _ alias.there alias.is refl (end_source m.types well b fresh.there fresh.itself)

  pub used-resource : (p q : ℕ) (n : Name) (u : UsedType) (r a b : ResourceId) (lists : ListsResource c es m p n r a) (binds : BindsResource c es m q (name_there n u) r b)
      → is_listed_as_used m.types (interface_exports m.types lists.interface) (n, of_interface binds.interface u) ≡ true
  used-resource p q n u r a b lists binds =
      let new = new-is q (name_there n u) r b binds in
      let end = end-is p n r a lists b binds.number (name_there n u) (h.bindings.firsts r ∙ binds.first) new in
      let itself : resolved m.types b ≡ b = (h.fresh.own binds.number (name_there n u) b new).itself in
      ap (λ o. option_case o true (λ k. option_case (used_item m.types n (of_interface binds.interface u)) false (λ used. same_type_item m.types k used))) lists.merged
      ∙ (ap (λ o. option_case o false (λ used. same_type_item m.types (kind.TypeItem (ty.Resource a)) used)) binds.listed
      ∙ eq-eqb (resolved m.types a).0 (resolved m.types b).0 (ap (λ (z : ResourceId). z.0) (end ∙ sym itself)))
