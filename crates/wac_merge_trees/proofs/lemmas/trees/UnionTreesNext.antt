-- The tree of a written union, where those inside it have the trees that they should.
use Rattle.std.proofs.Common.{◌≡◌, ℕ, ◌<◌, nat_lt, Bool, true, false, cond, List, [], ◌∷◌, map, length, Option, Some, None, is_some, slice_get, refl, sym, ap, ◌∙◌, subst, arith}
use Rattle.std.proofs.Math.Path.{fun_ext}
use Rattle.std.proofs.lemmas.Bool.{false≢true}
use Rattle.std.specs.List.{AllByRecursion, AllZip, Contains, list_any}
use Rattle.std.specs.Option.{MatchOption}
use Rattle.wac_types_shapes.specs.primitives.Name.{Name, find_name, option_case}
use Rattle.wac_types_shapes.specs.primitives.Tree.{TypeTree, Tree, absent, exported, fresh, instance, instance_item, named, type_equal}
use Rattle.wac_types_collection.specs.collection.Collection.{Collection, HasResource, IsWellFormed, holds_type, item_at}
use Rattle.wac_types_shapes.specs.shapes.Kinds.{kind_type}
use Rattle.wac_types_collection.specs.collection.Held.{Names, item_tree, resolved, unfolded}
use Rattle.wac_types_collection.specs.collection.Bound.{Bindings, binds_here, by_place, held_item, held_tree, inside_interface, is_here}
use Rattle.wac_types_collection.specs.collection.Uses.{IsSound}
use Rattle.wac_types_shapes.specs.declared.shapes.component.Interface.{Interface}
use Rattle.wac_types_shapes.specs.declared.shapes.component.InterfaceId.{InterfaceId}
use Rattle.wac_types_shapes.specs.declared.shapes.component.ResourceId.{ResourceId}
use Rattle.wac_types_shapes.specs.declared.shapes.component.«Type».TheVariants as ty
use Rattle.wac_types_shapes.specs.declared.shapes.component.ItemKind.{ItemKind}
use Rattle.wac_types_shapes.specs.declared.shapes.component.ItemKind.TheVariants as kind
use Rattle.wac_types_collection.specs.subtyping.Called.{Called, by_binding}
use Rattle.wac_types_collection.specs.subtyping.TreeLaws.{IsDeepEnough}
use Rattle.wac_merge_classes.specs.entries.Bindings.{ClassBindings}
use Rattle.wac_merge_classes.specs.terms.Became.{AreFresh, became, own_in}
use Rattle.wac_merge_classes.specs.terms.Renaming.{Fits}
use Rattle.wac_types_collection.specs.private.subtyping.Extended.{IsExtended}
use Rattle.wac_merge_classes.specs.terms.Union.{union_all}
use Rattle.wac_merge_classes.specs.terms.Unions.{AreUnions, IsExport, IsInner, instances_in, is_own_of, listed_under, part, part_lists, united}
use Rattle.wac_merge_classes.specs.terms.Writing.{AreWritten, IsAliasOf, IsWrittenAs, IsWrittenExport, written_at}
use Rattle.wac_merge_classes.specs.declared.terms.fresh.Fresh.{Fresh}
use Rattle.wac_merge_classes.specs.declared.terms.parts.Export.{Export}
use Rattle.wac_merge_classes.specs.declared.terms.parts.Part.{Part}
use Rattle.wac_merge_classes.specs.declared.terms.parts.Union.{Union}
use Rattle.wac_merge_classes.proofs.lemmas.entries.Lists.{any-found}
use Rattle.wac_merge_trees.proofs.lemmas.trees.UnionTreesBecame.{became_end, became_own, own_listing}
use Rattle.wac_merge_trees.proofs.lemmas.trees.UnionTreesHeld.{interface_there, listed_held, placed_at}
use Rattle.wac_merge_trees.proofs.lemmas.trees.UnionTreesKinds.{MustAgree, instances_agree, is_instance_item, is_type, stale_item, types_agree, union_item, written_instance, written_same}
use Rattle.wac_merge_trees.proofs.lemmas.trees.UnionTreesNames.{all_stale, is_fresh, union_absent, union_instance_items, union_instances, union_listed}
use Rattle.wac_merge_trees.proofs.lemmas.trees.UnionTreesOwn.{alias_end, alias_resolved, own_listed, zip_at, zip_none, zip_some}
use Rattle.wac_merge_trees.proofs.lemmas.trees.UnionTreesParts.{AreInstances, AreNested, IsListed, agree_under, all_at, all_each, all_fresh, all_listed, all_map, at_contains, called_part, contains_at, inner_called, inner_placed, instances_all, instances_map, is_type_tree, map_same, part_exports, placed_part, zip_map}
use Rattle.wac_merge_classes.proofs.lemmas.terms.Alike.{agree_itself}
use Rattle.wac_merge_trees.proofs.lemmas.trees.UnionTreesWritten.{here_named, inside_other, inside_own, own_of_union, own_place, union_own, written_name, written_other, written_own}

-- what fits outside of an inner part fits inside it
abbrev pub FitInside : Collection → Collection → List Part → ClassBindings → Fresh → List InterfaceId → (ℕ → Bindings) → Type 0
FitInside c m ps bs f ws place = (q o : ℕ) (y : Part) (w : InterfaceId) (jt : Interface) → slice_get ps q ≡ Some y → y.outer ≡ Some o → slice_get ws y.union ≡ Some w → item_at m.interfaces w.0 ≡ Some jt
    → (outside : Bindings) → Fits c (place o) outside (became c ps bs f (Some o)) → Fits c (place q) (inside_interface m jt outside) (became c ps bs f (Some q))

-- the same wherever the resources of the outer part are bound
abbrev pub AllFitInside : Collection → Collection → List Part → ClassBindings → Fresh → List InterfaceId → Type 0
AllFitInside c m ps bs f ws = (q o : ℕ) (y : Part) (it : Interface) (w : InterfaceId) (jt : Interface) → slice_get ps q ≡ Some y → y.outer ≡ Some o → item_at c.interfaces y.interface.0 ≡ Some it → slice_get ws y.union ≡ Some w → item_at m.interfaces w.0 ≡ Some jt
    → (n outside : Bindings) → Fits c n outside (became c ps bs f (Some o)) → Fits c (inside_interface c it n) (inside_interface m jt outside) (became c ps bs f (Some q))

pub fit_inside : (c m : Collection) (roots : List (List InterfaceId)) (us : List Union) (ps : List Part) (bs : ClassBindings) (f : Fresh) (ws : List InterfaceId) (place : ℕ → Bindings) (called : ℕ → Names Called)
    → AreUnions c roots us ps → AreNested c ps place called → AllFitInside c m ps bs f ws → FitInside c m ps bs f ws place
fit_inside c m roots us ps bs f ws place called unions nested fit q o y w jt at outer at_w at_jt outside fits =
    let it = interface_there c y.interface (unions.held q y at) in
    subst (λ (n : Bindings). Fits c n (inside_interface m jt outside) (became c ps bs f (Some q))) (sym (nested q o y it.0 at outer it.1).0) (fit q o y it.0 w jt at outer it.1 at_w at_jt (place o) outside fits)

-- the tree of the interface of a union is, name by name, the union of its parts' trees
abbrev pub HoldsAt : Collection → Collection → List Union → List Part → ClassBindings → Fresh → List InterfaceId → (ℕ → Bindings) → (ℕ → Names Called) → ℕ → Type 0
HoldsAt c m us ps bs f ws place called u = (x : Union) (w : InterfaceId) (it : Interface) → slice_get us u ≡ Some x → slice_get ws u ≡ Some w → item_at m.interfaces w.0 ≡ Some it → (around : Bindings)
    → ((p : ℕ) → Contains x.parts.items p → Fits c (place p) (inside_interface m it around) (became c ps bs f (Some p)))
    → ((p q : ℕ) → Contains x.parts.items p → Contains x.parts.items q → MustAgree (instance (called_part c ps called p)) (instance (called_part c ps called q)))
    → held_tree m around (ty.Interface w) ≡ instance (λ n. union_all (map (λ p. placed_part c ps place p n) x.parts.items))

some_same : {A : Type 0} (x y : A) → Some x ≡ Some y → x ≡ y
some_same x y e = cc

low : (i n : ℕ) → nat_lt i n ≡ true → i < n
low i n h = grind arith

must_at : (t u a b : TypeTree Called) → t ≡ a → u ≡ b → MustAgree t u → MustAgree a b
must_at t u a b e g h = subst (λ x. MustAgree x b) e (subst (λ x. MustAgree t x) g h)

must_itself : (t u : TypeTree Called) → t ≡ u → MustAgree t u
must_itself t u e apart = subst (λ x. MustAgree t x) e (λ h. h (agree_itself t)) apart

type_item : (c : Collection) (m : Bindings) (n : Name) (k : ItemKind) → is_type k ≡ true → is_type_tree (held_item c m exported (named n ∷ []) k) ≡ true
type_item c m n (kind.TypeItem a) h = by (binds_here c m exported (named n ∷ []) (kind.TypeItem a)) where
  by : (b : Bool) → is_type_tree (cond b fresh (type_equal (held_tree c m a))) ≡ true
  by true = refl
  by false = refl
type_item c m n k h = absurd (false≢true h)

resource_fresh : (c : Collection) (m : Bindings) (n : Name) (r : ResourceId) → m (resolved c r) ≡ Some (own_place n) → held_item c m exported (named n ∷ []) (kind.TypeItem (ty.Resource r)) ≡ fresh
resource_fresh c m n r at = ap (λ b. cond b fresh (type_equal (held_tree c m (ty.Resource r)))) (ap (is_here exported (named n ∷ [])) at ∙ here_named n)

-- what unions became, and what is known of the collections and of the parts
pub record AreMergedUnions (c m : Collection) (roots : List (List InterfaceId)) (us : List Union) (ps : List Part) (bs : ClassBindings) (f : Fresh) (ids : List (Option Name)) (ws : List InterfaceId) (place : ℕ → Bindings) (called : ℕ → Names Called) : Type 0 where
  pub unions : AreUnions c roots us ps
  pub fresh : AreFresh c us bs f m
  pub written : AreWritten c m us ps bs f ids ws
  pub extended : IsExtended c m
  pub ordered : IsWellFormed c
  pub sound : IsSound c
  pub merged : IsWellFormed m
  pub deep : IsDeepEnough (by_place c) c
  pub merged_deep : IsDeepEnough (by_place m) m
  pub named_deep : IsDeepEnough (by_binding c) c
  pub nested : AreNested c ps place called
  pub inside : FitInside c m ps bs f ws place

module _ (c m : Collection) (roots : List (List InterfaceId)) (us : List Union) (ps : List Part) (bs : ClassBindings) (f : Fresh) (ids : List (Option Name)) (ws : List InterfaceId) (place : ℕ → Bindings) (called : ℕ → Names Called)
    (all : AreMergedUnions c m roots us ps bs f ids ws place called)
    (u : ℕ) (x : Union) (it : Interface) (around : Bindings) (at : slice_get us u ≡ Some x) (used : it.uses ≡ []) (zip : AllZip (IsWrittenExport c m ps bs f ws u) x.exports it.exports)
    (fits : (p : ℕ) → Contains x.parts.items p → Fits c (place p) (inside_interface m it around) (became c ps bs f (Some p)))
    (agree : (p q : ℕ) → Contains x.parts.items p → Contains x.parts.items q → MustAgree (instance (called_part c ps called p)) (instance (called_part c ps called q)))
    (below : (v : ℕ) → u < v → HoldsAt c m us ps bs f ws place called v) where
  -- a part of the union, and its interface
  record IsPartHere (p : ℕ) : Type 0 where
    this : Part
    its : Interface
    there : slice_get ps p ≡ Some this
    union : this.union ≡ u
    interface : item_at c.interfaces this.interface.0 ≡ Some its
    lists : part_lists c ps p ≡ its.exports

  part_here : (p : ℕ) → Contains x.parts.items p → IsPartHere p
  part_here p within =
      let y = all.unions.placed u p x at within in
      let j = interface_there c y.0.interface (all.unions.held p y.0 y.1) in
      record { this = y.0; its = j.0; there = y.1; union = y.2; interface = j.1; lists = part_exports c ps p y.0 j.0 y.1 j.1 }

  abbrev Listed : Name → ℕ × ItemKind → Type 0
  Listed n l = IsListed c ps (Contains x.parts.items) n l

  abbrev item : Name → ℕ × ItemKind → Tree
  item n l = held_item c (place l.0) exported (named n ∷ []) l.1

  listed_is_held : (n : Name) (l : ℕ × ItemKind) → Listed n l → holds_type c (kind_type l.1) ≡ true
  listed_is_held n l is =
      let p = part_here l.0 is.0 in
      listed_held c all.ordered p.this.interface p.its n l.1 p.interface (ap (λ es. find_name es n) (sym p.lists) ∙ is.1)

  listed_agree : (n : Name) (l k : ℕ × ItemKind) → Listed n l → Listed n k → MustAgree (item_tree (unfolded (by_binding c) c (called l.0)) false l.1) (item_tree (unfolded (by_binding c) c (called k.0)) false k.1)
  listed_agree n l k is other = agree_under c (called l.0) (called k.0) (part_lists c ps l.0) (part_lists c ps k.0) n l.1 k.1 is.1 other.1 (agree l.0 k.0 is.0 other.0)

  -- ---- own resources

  record IsOwnHere (n : Name) (l : ℕ × ItemKind) : Type 0 where
    item_is_type : is_type l.1 ≡ true
    item_is_fresh : (e : Export) (q : ResourceId) → find_name x.exports n ≡ Some e → e.is_own ≡ true → own_in f u n ≡ Some q → held_item c (place l.0) exported (named n ∷ []) l.1 ≡ fresh

  own_here : (n : Name) (l : ℕ × ItemKind) → Listed n l → is_own_of c ps n l ≡ true → IsOwnHere n l
  own_here n l is own =
      let p = part_here l.0 is.0 in
      let found : find_name p.its.exports n ≡ Some l.1 = ap (λ es. find_name es n) (sym p.lists) ∙ is.1 in
      let listing = own_listing c all.sound ps l.0 p.this p.its n l.1 p.there p.interface found own in
      let r = listing.resource in
      let listed = own_listed c listing.uses r n l.1 listing.lists in
      let held : HasResource c r = low r.0 (length c.resources) (subst (λ k. holds_type c (kind_type k) ≡ true) listed.item (listed_is_held n l is)) in
      let end : resolved c r ≡ r = alias_end c r listed.no_alias in
      record {
        item_is_type = ap is_type listed.item;
        item_is_fresh = λ e q at_e own_e is_q.
            let now : became c ps bs f (Some l.0) r ≡ q = became_own c ps bs f l.0 p.this r n q p.there listing.finds (ap (λ k. own_in f k n) p.union ∙ is_q) in
            let bound : place l.0 (resolved c r) ≡ Some (own_place n) =
            sym (fits l.0 is.0 r held) ∙ (ap (λ z. inside_interface m it around (became c ps bs f (Some l.0) z)) end ∙ (ap (inside_interface m it around) now
            ∙ inside_own m it around used q n (union_own c m us ps bs f ws u x.exports it.exports zip all.fresh all.merged n e q at_e own_e is_q))) in
            ap (λ k. held_item c (place l.0) exported (named n ∷ []) k) listed.item ∙ resource_fresh c (place l.0) n r bound;
      }

  listed_type : (n : Name) (l k : ℕ × ItemKind) → Listed n l → Listed n k → is_own_of c ps n l ≡ true → is_type k.1 ≡ true
  listed_type n l k is other own =
      types_agree (unfolded (by_binding c) c (called l.0)) (unfolded (by_binding c) c (called k.0)) l.1 k.1 (listed_agree n l k is other) (own_here n l is own).item_is_type

  own_item : (n : Name) (e : Export) (k : ItemKind) (ls : List (ℕ × ItemKind)) → find_name x.exports n ≡ Some e → e.is_own ≡ true → IsWrittenExport c m ps bs f ws u (n, e) (n, k) → AllByRecursion (Listed n) ls → list_any (is_own_of c ps n) ls ≡ true
      → held_item m (inside_interface m it around) exported (named n ∷ []) k ≡ union_all (map (item n) ls)
  own_item n e k ls at_e own w listed any =
      let is = written_own c m us ps bs f ws u n n e k w own in
      let one = any-found (is_own_of c ps n) ls any in
      let first : Listed n one.1 = all_at (Listed n) ls one.0 one.1 listed one.2 in
      let new = all.fresh.own u n is.0 is.1 in
      let bound = inside_own m it around used is.0 n (union_own c m us ps bs f ws u x.exports it.exports zip all.fresh all.merged n e is.0 at_e own is.1) in
      let each : AllByRecursion (λ l. (is_type_tree (item n l) ≡ true) × (is_own_of c ps n l ≡ true → item n l ≡ fresh)) ls =
      all_map (Listed n) (λ l. (is_type_tree (item n l) ≡ true) × (is_own_of c ps n l ≡ true → item n l ≡ fresh)) ls
      (λ l h. (type_item c (place l.0) n l.1 (listed_type n one.1 l first h one.3), λ t. (own_here n l h t).item_is_fresh e is.0 at_e own is.1)) listed in
      ap (λ y. held_item m (inside_interface m it around) exported (named n ∷ []) y) is.2
      ∙ (resource_fresh m (inside_interface m it around) n is.0 (ap (inside_interface m it around) new.itself ∙ bound)
      ∙ sym (all_fresh (item n) (is_own_of c ps n) ls each any))

  -- ---- the others

  stale_here : (n : Name) → own_in f u n ≡ None → (l : ℕ × ItemKind) → Listed n l → binds_here c (place l.0) exported (named n ∷ []) l.1 ≡ false
  stale_here n none l is = by l.1 (listed_is_held n l is) where
    by : (k : ItemKind) → holds_type c (kind_type k) ≡ true → binds_here c (place l.0) exported (named n ∷ []) k ≡ false
    by (kind.TypeItem (ty.Resource r)) held =
        let q = became c ps bs f (Some l.0) (resolved c r) in
        ap (is_here exported (named n ∷ [])) (sym (fits l.0 is.0 r (low r.0 (length c.resources) held)))
        ∙ inside_other m it around used (λ o. own_in f u o ≡ Some q) q n (λ o own. own_of_union c m us ps bs f ws u x.exports it.exports zip q o own) (λ some. let both : None ≡ Some q = sym none ∙ some in cc)
    by k held = refl

  abbrev plain_item : ℕ × ItemKind → Tree
  plain_item l = item_tree (held_tree c (place l.0)) false l.1

  plain_here : (n : Name) → own_in f u n ≡ None → (l : ℕ × ItemKind) → Listed n l → item n l ≡ plain_item l
  plain_here n none l is = ap (λ b. item_tree (held_tree c (place l.0)) b l.1) (stale_here n none l is)

  -- the interface of what lies inside
  inner_union : (P : ℕ × InterfaceId → Type 0) → ((i : ℕ × InterfaceId) → P i → Contains x.parts.items i.0)
      → ((i j : ℕ × InterfaceId) → P i → P j → MustAgree (unfolded (by_binding c) c (called i.0) (ty.Interface i.1)) (unfolded (by_binding c) c (called j.0) (ty.Interface j.1)))
      → (i : ℕ × InterfaceId) (rest : List (ℕ × InterfaceId)) (o : Option ℕ) (j : InterfaceId) → AllByRecursion P (i ∷ rest) → IsInner us ps u (i ∷ rest) o → written_at ws o ≡ Some j
      → held_tree m (inside_interface m it around) (ty.Interface j) ≡ union_all (map (λ i. held_tree c (place i.0) (ty.Interface i.1)) (i ∷ rest))
  inner_union P within alike i rest o j each (v, inner, o_is, lt, at_v, parts) j_is =
      let R : ℕ × InterfaceId → ℕ → Type 0 = λ i q. slice_get ps q ≡ Some (part i.1 (Some i.0) v) in
      let w = all.written.written v inner at_v in
      let at_j : slice_get ws v ≡ Some j = sym (ap (written_at ws) o_is) ∙ j_is in
      let same : w.0 ≡ j = some_same w.0 j (sym w.2 ∙ at_j) in
      let at_it : item_at m.interfaces j.0 ≡ Some w.1 = ap (λ (y : InterfaceId). item_at m.interfaces y.0) (sym same) ∙ w.3 in
      let its : (i : ℕ × InterfaceId) (q : ℕ) → R i q → (jt : Interface) × (item_at c.interfaces i.1.0 ≡ Some jt) = λ i q at. interface_there c i.1 (all.unions.held q (part i.1 (Some i.0) v) at) in
      let back : (q : ℕ) → Contains inner.parts.items q → (i : ℕ × InterfaceId) × P i × R i q = λ q cont.
      let k = at_contains inner.parts.items q cont in
      let z = zip_at R (i ∷ rest) inner.parts.items parts k.0 q k.1 in
      (z.0, all_at P (i ∷ rest) k.0 z.0 each z.1, z.2) in
      let names : (i : ℕ × InterfaceId) (q : ℕ) → R i q → unfolded (by_binding c) c (called i.0) (ty.Interface i.1) ≡ instance (called_part c ps called q) = λ i q at.
      let jt = its i q at in inner_called c ps place called all.nested all.named_deep i.0 q v i.1 jt.0 at jt.1 in
      let places : (i : ℕ × InterfaceId) (q : ℕ) → R i q → held_tree c (place i.0) (ty.Interface i.1) ≡ instance (placed_part c ps place q) = λ i q at.
      let jt = its i q at in inner_placed c ps place called all.nested all.deep i.0 q v i.1 jt.0 at jt.1 in
      below v lt inner j w.1 at_v at_j at_it (inside_interface m it around)
      (λ q cont. let b = back q cont in all.inside q b.0.0 (part b.0.1 (Some b.0.0) v) j w.1 b.2 refl at_j at_it (inside_interface m it around) (fits b.0.0 (within b.0 b.1)))
      (λ p q cp cq.
      let b = back p cp in
      let d = back q cq in
      must_at (unfolded (by_binding c) c (called b.0.0) (ty.Interface b.0.1)) (unfolded (by_binding c) c (called d.0.0) (ty.Interface d.0.1)) (instance (called_part c ps called p)) (instance (called_part c ps called q)) (names b.0 p b.2) (names d.0 q d.2) (alike b.0 d.0 b.1 d.1))
      ∙ whole inner.parts.items R places parts
    where
      whole : (qs : List ℕ) (R : ℕ × InterfaceId → ℕ → Type 0) → ((i : ℕ × InterfaceId) (q : ℕ) → R i q → held_tree c (place i.0) (ty.Interface i.1) ≡ instance (placed_part c ps place q)) → AllZip R (i ∷ rest) qs
          → instance (λ n. union_all (map (λ p. placed_part c ps place p n) qs)) ≡ union_all (map (λ i. held_tree c (place i.0) (ty.Interface i.1)) (i ∷ rest))
      whole [] R same z = absurd z
      whole (q ∷ qs) R same z =
          sym (union_instances (placed_part c ps place) q qs)
          ∙ ap union_all (sym (zip_map R (λ i. held_tree c (place i.0) (ty.Interface i.1)) (λ q. instance (placed_part c ps place q)) same (i ∷ rest) (q ∷ qs) z))

  -- an instance
  instance_here : (n : Name) (p : ℕ) (i : InterfaceId) (more : List (ℕ × ItemKind)) (o : Option ℕ) (k : ItemKind) → AllByRecursion (Listed n) ((p, kind.Instance i) ∷ more) → IsInner us ps u (united ((p, kind.Instance i) ∷ more)) o
      → IsWrittenAs c m (became c ps bs f (Some p)) (written_at ws o) n (kind.Instance i) k → held_item m (inside_interface m it around) exported (named n ∷ []) k ≡ union_all (map (item n) ((p, kind.Instance i) ∷ more))
  instance_here n p i more o k listed inner w =
      let to = written_instance c m all.extended (became c ps bs f (Some p)) n (written_at ws o) exported (named n ∷ []) (place p) (inside_interface m it around) (fits p listed.0.0) i k w in
      let instances : AreInstances ((p, kind.Instance i) ∷ more) = all_map (Listed n) (λ l. is_instance_item l.1 ≡ true) ((p, kind.Instance i) ∷ more)
      (λ l h. instances_agree (unfolded (by_binding c) c (called p)) (unfolded (by_binding c) c (called l.0)) (kind.Instance i) l.1 (listed_agree n (p, kind.Instance i) l listed.0 h) refl) listed in
      let tree : ℕ × InterfaceId → Tree = λ i. held_tree c (place i.0) (ty.Interface i.1) in
      let inside = inner_union (λ i. Listed n (i.0, kind.Instance i.1)) (λ i h. h.0) (λ i j h g. listed_agree n (i.0, kind.Instance i.1) (j.0, kind.Instance j.1) h g) (p, i) (instances_in more) o to.0 (instances_all (Listed n) ((p, kind.Instance i) ∷ more) listed) inner to.2 in
      ap (λ y. held_item m (inside_interface m it around) exported (named n ∷ []) y) to.1
      ∙ (ap instance_item inside
      ∙ (sym (union_instance_items tree (p, i) (instances_in more))
      ∙ ap union_all (sym (instances_map (item n) ((p, kind.Instance i) ∷ more) instances))))

  -- any other item that is no own resource
  plain_union : (n : Name) (p : ℕ) (l : ItemKind) (more : List (ℕ × ItemKind)) (o : Option ℕ) (k : ItemKind) → is_instance_item l ≡ false → own_in f u n ≡ None → AllByRecursion (Listed n) ((p, l) ∷ more) → IsInner us ps u (united ((p, l) ∷ more)) o
      → IsWrittenAs c m (became c ps bs f (Some p)) (written_at ws o) n l k → held_item m (inside_interface m it around) exported (named n ∷ []) k ≡ union_all (map (item n) ((p, l) ∷ more))
  plain_union n p l more o k plain none listed inner w =
      let held = listed_is_held n (p, l) listed.0 in
      let alias : (q a : ResourceId) → l ≡ kind.TypeItem (ty.Resource q) → IsAliasOf m n (became c ps bs f (Some p) (resolved c q)) a → (resolved m a ≡ became c ps bs f (Some p) (resolved c q)) × HasResource c q = λ q a is h.
      let low_q : HasResource c q = low q.0 (length c.resources) (subst (λ y. holds_type c (kind_type y) ≡ true) is held) in
      (alias_resolved m a (became c ps bs f (Some p) (resolved c q)) _ h.there h.is refl (became_end c m us ps bs f all.fresh all.extended all.ordered all.merged p q low_q), low_q) in
      let under : (i j : InterfaceId) → l ≡ kind.TypeItem (ty.Interface i) → written_at ws o ≡ Some j → held_tree m (inside_interface m it around) (ty.Interface j) ≡ held_tree c (place p) (ty.Interface i) = λ i j is at_j.
      inner_union (λ y. y ≡ (p, i)) (λ y h. subst (λ (z : ℕ × InterfaceId). Contains x.parts.items z.0) (sym h) listed.0.0)
      (λ y z h g. must_itself (unfolded (by_binding c) c (called y.0) (ty.Interface y.1)) (unfolded (by_binding c) c (called z.0) (ty.Interface z.1)) (ap (λ (d : ℕ × InterfaceId). unfolded (by_binding c) c (called d.0) (ty.Interface d.1)) (h ∙ sym g)))
      (p, i) [] o j (refl, tt) (subst (λ y. IsInner us ps u (united ((p, y) ∷ more)) o) is inner) at_j
      ∙ union_absent (held_tree c (place p) (ty.Interface i)) in
      let others : map (item n) ((p, l) ∷ more) ≡ map plain_item ((p, l) ∷ more) = map_same (item n) plain_item ((p, l) ∷ more) (all_map (Listed n) (λ y. item n y ≡ plain_item y) ((p, l) ∷ more) (λ y h. plain_here n none y h) listed) in
      let stale : is_fresh (union_all (map plain_item more)) ≡ false = all_stale plain_item more (all_map (Listed n) (λ y. is_fresh (plain_item y) ≡ false) more (λ y h. stale_item (held_tree c (place y.0)) y.1) listed.1) in
      written_same c m all.extended (became c ps bs f (Some p)) n (written_at ws o) exported (named n ∷ []) (place p) (inside_interface m it around) (fits p listed.0.0) l k plain held w alias under
      ∙ (plain_here n none (p, l) listed.0
      ∙ (sym (union_item (held_tree c (place p)) l (union_all (map plain_item more)) plain stale)
      ∙ ap union_all (sym others)))

  other_item : (n : Name) (p : ℕ) (l : ItemKind) (more : List (ℕ × ItemKind)) (o : Option ℕ) (k : ItemKind) → own_in f u n ≡ None → AllByRecursion (Listed n) ((p, l) ∷ more) → IsInner us ps u (united ((p, l) ∷ more)) o
      → IsWrittenAs c m (became c ps bs f (Some p)) (written_at ws o) n l k → held_item m (inside_interface m it around) exported (named n ∷ []) k ≡ union_all (map (item n) ((p, l) ∷ more))
  other_item n p (kind.Instance i) more o k none listed inner w = instance_here n p i more o k listed inner w
  other_item n p (kind.TypeItem a) more o k none listed inner w = plain_union n p (kind.TypeItem a) more o k refl none listed inner w
  other_item n p (kind.Func a) more o k none listed inner w = plain_union n p (kind.Func a) more o k refl none listed inner w
  other_item n p (kind.Component a) more o k none listed inner w = plain_union n p (kind.Component a) more o k refl none listed inner w
  other_item n p (kind.Module a) more o k none listed inner w = plain_union n p (kind.Module a) more o k refl none listed inner w
  other_item n p (kind.Value a) more o k none listed inner w = plain_union n p (kind.Value a) more o k refl none listed inner w

  -- ---- under each name

  not_own : (n : Name) (e : Export) → find_name x.exports n ≡ Some e → e.is_own ≡ false → own_in f u n ≡ None
  not_own n e at_e own = by (own_in f u n) refl where
    by : (o : Option ResourceId) → own_in f u n ≡ o → o ≡ None
    by None is = refl
    by (Some q) is =
        let w = (all.fresh.listed u x n at).0 (ap is_some is) in
        let same : e ≡ w.0 = some_same e w.0 (sym at_e ∙ w.1) in
        absurd (false≢true (sym own ∙ (ap (λ (y : Export). y.is_own) same ∙ w.2)))

  listed_here : (n : Name) → AllByRecursion (Listed n) (listed_under c ps x.parts.items n)
  listed_here n = all_listed c ps (Contains x.parts.items) n x.parts.items (all_each (Contains x.parts.items) x.parts.items (λ i p is. contains_at x.parts.items i p is))

  export_is : (n : Name) (e : Export) → find_name x.exports n ≡ Some e → IsExport c us ps u n (listed_under c ps x.parts.items n) e
      → placed_at m (inside_interface m it around) it.exports n ≡ union_all (map (item n) (listed_under c ps x.parts.items n))
  export_is n e at_e is =
      let to = zip_some (IsWrittenExport c m ps bs f ws u) (written_name c m us ps bs f ws u) x.exports it.exports zip n e at_e in
      ap (λ o. option_case o absent (λ k. held_item m (inside_interface m it around) exported (named n ∷ []) k)) to.1 ∙ by e.is_own refl to.0 to.2
    where
      by : (b : Bool) → e.is_own ≡ b → (k : ItemKind) → IsWrittenExport c m ps bs f ws u (n, e) (n, k) → held_item m (inside_interface m it around) exported (named n ∷ []) k ≡ union_all (map (item n) (listed_under c ps x.parts.items n))
      by true own k w = own_item n e k (listed_under c ps x.parts.items n) at_e own w (listed_here n) (sym is.own ∙ own)
      by false own k w =
          let first : AllByRecursion (Listed n) ((e.part, e.kind) ∷ is.more) = subst (AllByRecursion (Listed n)) is.first (listed_here n) in
          let inner : IsInner us ps u (united ((e.part, e.kind) ∷ is.more)) e.inner = subst (λ ls. IsInner us ps u (united ls) e.inner) is.first is.inner in
          other_item n e.part e.kind is.more e.inner k (not_own n e at_e own) first inner (written_other c m us ps bs f ws u n n e k w own)
          ∙ ap (λ ls. union_all (map (item n) ls)) (sym is.first)

  name_is : (n : Name) → placed_at m (inside_interface m it around) it.exports n ≡ union_all (map (λ p. placed_part c ps place p n) x.parts.items)
  name_is n =
      by (find_name x.exports n) refl (all.unions.exported u x n at)
      ∙ sym (union_listed c ps n (λ p k. held_item c (place p) exported (named n ∷ []) k) x.parts.items)
    where
      by : (o : Option Export) → find_name x.exports n ≡ o → MatchOption o (listed_under c ps x.parts.items n ≡ []) (λ e. IsExport c us ps u n (listed_under c ps x.parts.items n) e)
          → placed_at m (inside_interface m it around) it.exports n ≡ union_all (map (item n) (listed_under c ps x.parts.items n))
      by None is none =
          ap (λ o. option_case o absent (λ k. held_item m (inside_interface m it around) exported (named n ∷ []) k)) (zip_none (IsWrittenExport c m ps bs f ws u) (written_name c m us ps bs f ws u) x.exports it.exports zip n is)
          ∙ ap (λ ls. union_all (map (item n) ls)) (sym none)
      by (Some e) is h = export_is n e is h

  -- what the interface lists is by name the union of what its parts list
  pub names_are : instance (placed_at m (inside_interface m it around) it.exports) ≡ instance (λ n. union_all (map (λ p. placed_part c ps place p n) x.parts.items))
  names_are = ap instance (fun_ext name_is)
