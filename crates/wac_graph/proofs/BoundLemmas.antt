-- The resources that classes bind: each is listed by an import, and they are the same over the merged types.
use Rattle.std.proofs.Common.{◌≡◌, ◌↔◌, ◌⊎◌, inl, inr, ℕ, zero, suc, ◌+◌, ◌<◌, ◌≤◌, nat_lt, true, false, List, [], ◌∷◌, length, Option, Some, None, IsSome, is_some, refl, sym, ap, ◌∙◌, subst, arith}
use Rattle.std.specs.Prelude.{Contains, slice_get}
use Rattle.std.proofs.lemmas.Bool.{false≢true}
use Rattle.std.proofs.lemmas.Bool.Decides.{nat_tests}
use Rattle.std.proofs.lemmas.Option.{slice_get_within}
use Rattle.indexmap.specs.IndexSet.{insert_key}
use Rattle.wac_types_shapes.specs.primitives.Name.{Name, option_case}
use Rattle.wac_types_shapes.specs.primitives.Tree.{Leaf, Place, imported, position}
use Rattle.wac_types_shapes.specs.contracts.shapes.component.ResourceIdPartialEq.TheImpl as IdEq
use Rattle.wac_types_shapes.specs.declared.shapes.component.Interface.{Interface}
use Rattle.wac_types_shapes.specs.declared.shapes.component.InterfaceId.{InterfaceId}
use Rattle.wac_types_shapes.specs.declared.shapes.component.ItemKind.{ItemKind}
use Rattle.wac_types_shapes.specs.declared.shapes.component.ItemKind.TheVariants as kind
use Rattle.wac_types_shapes.specs.declared.shapes.component.ResourceId.{ResourceId}
use Rattle.wac_types_shapes.specs.declared.shapes.component.«Type».TheVariants as ty
use Rattle.wac_types_collection.specs.collection.Collection.{Collection, interface_exports, item_at}
use Rattle.wac_merge_classes.specs.entries.Binding.{binding_class, binding_from, class_binds, kind_binds}
use Rattle.wac_merge_classes.specs.entries.Classes.{Entry, by_names, class_names, members, same_class}
use Rattle.wac_merge_classes.proofs.lemmas.terms.Found.{no_some, some_same}
use Rattle.wac_merge_imports.proofs.lemmas.fitting.FittingClasses.{first-binding, instance-binds, whole-binds}
use Rattle.wac_merge_imports.proofs.lemmas.fitting.FittingOwn.{own-found}
use Rattle.wac_merge_imports.proofs.lemmas.fitting.FittingSteps.{binding-at}
use Rattle.wac_merge_imports.proofs.lemmas.fitting.MergedBindingsClasses.{filter-at}
use Rattle.wac_merge_imports.specs.unions.MergedScope.{BindsAsClasses}
use Rattle.wac_merge.specs.Aggregate.{Aggregate}
use Rattle.wac_encode_faults.proofs.FreeParts.{inserted_law}
use Rattle.wac_graph_model.specs.nodes.Graph.{Graph}
use Rattle.wac_graph_model.specs.nodes.OuterImports.{outer_entries}
use Rattle.wac_graph_model.specs.causes.TypeFaults.{class_bindings}
use Rattle.wac_graph.specs.private.Bound.{AddsResources, AreBound, IsBoundIn, IsListedBefore, IsListedBy, IsResourceUnder, ListsResource, item_resource}

-- ---- one resource
pub one_bound : (a : Aggregate) (old now : List ResourceId) (q : ResourceId) → now ≡ insert_key (IdEq.ghosts).eq old q → IsBoundIn a q → AddsResources (λ r. (q ≡ r) × IsBoundIn a r) old now
one_bound a old now q is bound r = (
  λ h. elim ((inserted_law old now q is r).0 h) [ inl w ↦ inl w | inr w ↦ inr (sym w, subst (IsBoundIn a) (sym w) bound) ],
  λ h. (inserted_law old now q is r).1 (elim h [ inl w ↦ inl w | inr w ↦ inr (sym w.0) ]),
)

is_none : (o : Option (ℕ × List Place)) → o ≡ None → IsSome o → ⊥
is_none o none some = false≢true (subst (λ x. is_some x ≡ true) none some)

pub none_bound : (a : Aggregate) (old : List ResourceId) (q : ResourceId) → binding_class by_names (a.merge).types a.entries q ≡ None → AddsResources (λ r. (q ≡ r) × IsBoundIn a r) old old
none_bound a old q none r = (
  λ h. inl h,
  λ h. elim h [ inl w ↦ w | inr w ↦ absurd (is_none (binding_class by_names (a.merge).types a.entries q) none (subst (IsBoundIn a) (sym w.0) w.1)) ],
)

-- ---- an item
one_some : {A : Type 0} (a b : A) → Some a ≡ Some b → a ≡ b
one_some a b e = cc

pub item_some : (a : Aggregate) (old now : List ResourceId) (o : Option ResourceId) (q : ResourceId) → o ≡ Some q → AddsResources (λ r. (q ≡ r) × IsBoundIn a r) old now → AddsResources (λ r. (o ≡ Some r) × IsBoundIn a r) old now
item_some a old now o q is added r = (
  λ h. elim ((added r).0 h) [ inl w ↦ inl w | inr w ↦ inr (is ∙ ap Some w.0, w.1) ],
  λ h. (added r).1 (elim h [ inl w ↦ inl w | inr w ↦ inr (one_some q r (sym is ∙ w.0), w.1) ]),
)

pub item_none : (a : Aggregate) (old : List ResourceId) (o : Option ResourceId) → o ≡ None → AddsResources (λ r. (o ≡ Some r) × IsBoundIn a r) old old
item_none a old o none r = (
  λ h. inl h,
  λ h. elim h [ inl w ↦ w | inr w ↦ absurd (no_some r (sym none ∙ w.0)) ],
)

-- ---- a list, element by element
module _ {X : Type 0} (Lists : X → ResourceId → Type 0) (Bound : ResourceId → Type 0) (xs : List X) (old : List ResourceId) where
  abbrev pub AddsBefore : ℕ → List ResourceId → Type 0
  AddsBefore n now = AddsResources (λ r. IsListedBefore Lists xs n r × Bound r) old now

  pub adds_first : AddsBefore 0 old
  adds_first r = (λ h. inl h, λ h. elim h [ inl w ↦ w | inr w ↦ (let low = w.0.2 in absurd (omega (arith, low))) ])

  by_order : {P : Type 0} (m n : ℕ) → m < n + 1 → (m < n → P) → (m ≡ n → P) → P
  by_order {P} m n low less same = elim (nat_lt m n) as (λ b. nat_lt m n ≡ b → P) [ true ↦ λ e. less (grind (arith, nat_tests)) | false ↦ λ e. same (let up : n ≤ m = grind (arith, nat_tests) in omega (arith, up, low)) ] refl

  module _ (n : ℕ) (x : X) (now next : List ResourceId) (at : slice_get xs n ≡ Some x) (before : AddsBefore n now) (here : AddsResources (λ r. Lists x r × Bound r) now next) (r : ResourceId) where
    more : IsListedBefore Lists xs n r → IsListedBefore Lists xs (n + 1) r
    more f = let low = f.2 in (f.0, f.1, omega (arith, low), f.3, f.4)

    into : Contains next r → Contains old r ⊎ (IsListedBefore Lists xs (n + 1) r × Bound r)
    into h = elim ((here r).0 h) [
      | inl w ↦ elim ((before r).0 w) [ inl o ↦ inl o | inr f ↦ inr (more f.0, f.1) ]
      | inr f ↦ inr ((n, x, omega arith, at, f.0), f.1)
    ]

    listed : IsListedBefore Lists xs (n + 1) r → Bound r → Contains next r
    listed f bound =
        by_order f.0 n f.2 (λ less. (here r).1 (inl ((before r).1 (inr ((f.0, f.1, less, f.3, f.4), bound)))))
        (λ same.
        let one : f.1 ≡ x = one_some f.1 x (sym f.3 ∙ ap (slice_get xs) same ∙ at) in
        (here r).1 (inr (subst (λ (z : X). Lists z r) one f.4, bound)))

    pub adds_one_more : Contains next r ↔ (Contains old r ⊎ (IsListedBefore Lists xs (n + 1) r × Bound r))
    adds_one_more = (into, λ h. elim h [ inl o ↦ (here r).1 (inl ((before r).1 (inl o))) | inr f ↦ listed f.0 f.1 ])

  pub adds_next : (n : ℕ) (x : X) (now next : List ResourceId) → slice_get xs n ≡ Some x → AddsBefore n now → AddsResources (λ r. Lists x r × Bound r) now next → AddsBefore (n + 1) next
  adds_next n x now next at before here r = adds_one_more n x now next at before here r

  pub adds_all : (n : ℕ) (now : List ResourceId) → length xs ≤ n → AddsBefore n now → AddsResources (λ r. IsListedBy Lists xs r × Bound r) old now
  adds_all n now past h r = (
    λ c. elim ((h r).0 c) [ inl o ↦ inl o | inr f ↦ inr ((f.0.0, f.0.1, f.0.3, f.0.4), f.1) ],
    λ c. (h r).1 (elim c [ inl o ↦ inl o | inr f ↦ inr (whole f.0, f.1) ]),
  ) where
    whole : IsListedBy Lists xs r → IsListedBefore Lists xs n r
    whole f = let low = slice_get_within xs f.0 f.1 f.2 in (f.0, f.1, omega (arith, low, past), f.2, f.3)

-- ---- an import
pub instance_adds : (c : Collection) (a : Aggregate) (old now : List ResourceId) (k : ItemKind) (i : InterfaceId) (it : Interface) → k ≡ kind.Instance i → item_at c.interfaces i.0 ≡ Some it
    → AddsResources (λ r. IsListedBy IsResourceUnder it.exports r × IsBoundIn a r) old now → AddsResources (λ r. ListsResource c k r × IsBoundIn a r) old now
instance_adds c a old now k i it is at added =
    subst (λ (x : ItemKind). AddsResources (λ r. ListsResource c x r × IsBoundIn a r) old now) (sym is)
    (subst (λ (es : List (Name × ItemKind)). AddsResources (λ r. IsListedBy IsResourceUnder es r × IsBoundIn a r) old now) (sym (ap (λ (o : Option Interface). option_case o [] (λ x. x.exports)) at)) added)

pub other_adds : (c : Collection) (a : Aggregate) (old now : List ResourceId) (k : ItemKind) → ((i : InterfaceId) → k ≡ kind.Instance i → ⊥) → AddsResources (λ r. (item_resource k ≡ Some r) × IsBoundIn a r) old now
    → AddsResources (λ r. ListsResource c k r × IsBoundIn a r) old now
other_adds c a old now (kind.Instance i) other added = absurd (other i refl)
other_adds c a old now (kind.TypeItem t) other added = added
other_adds c a old now (kind.Func f) other added = added
other_adds c a old now (kind.Component w) other added = added
other_adds c a old now (kind.Module m) other added = added
other_adds c a old now (kind.Value v) other added = added

-- ---- what a class binds an import lists
module _ (c : Collection) (class : Name) (r : ResourceId) where
  instance_lists : (i : InterfaceId) (path : List Place) → kind_binds by_names c class (kind.Instance i) r ≡ Some path → ListsResource c (kind.Instance i) r
  instance_lists i path binds =
      let t = instance-binds by_names c class r i path binds in
      let f = own-found c (t.interface).uses (t.interface).exports r t.name t.own in
      subst (λ (es : List (Name × ItemKind)). IsListedBy IsResourceUnder es r) (sym (ap (λ (o : Option Interface). option_case o [] (λ x. x.exports)) t.there)) (f.0, (t.name, f.1), f.2, ap item_resource (f.3).is)

  kind_lists : (k : ItemKind) (path : List Place) → kind_binds by_names c class k r ≡ Some path → ListsResource c k r
  kind_lists (kind.Instance i) path binds = instance_lists i path binds
  kind_lists (kind.TypeItem (ty.Resource q)) path binds = ap Some (whole-binds c class q r path binds).0
  kind_lists (kind.TypeItem (ty.Func q)) path binds = absurd (no_some path binds)
  kind_lists (kind.TypeItem (ty.Value q)) path binds = absurd (no_some path binds)
  kind_lists (kind.TypeItem (ty.Interface q)) path binds = absurd (no_some path binds)
  kind_lists (kind.TypeItem (ty.World q)) path binds = absurd (no_some path binds)
  kind_lists (kind.TypeItem (ty.Module q)) path binds = absurd (no_some path binds)
  kind_lists (kind.Func q) path binds = absurd (no_some path binds)
  kind_lists (kind.Component q) path binds = absurd (no_some path binds)
  kind_lists (kind.Module q) path binds = absurd (no_some path binds)
  kind_lists (kind.Value q) path binds = absurd (no_some path binds)

abbrev pub ImportLists : Collection → Entry → ResourceId → Type 0
ImportLists c e r = ListsResource c e.kind r

pub bound_is_listed : (c : Collection) (es : List Entry) (r : ResourceId) → IsSome (binding_class by_names c es r) → IsListedBy (ImportLists c) es r
bound_is_listed c es r some = by (binding_class by_names c es r) refl some where
  by : (o : Option (ℕ × List Place)) → binding_class by_names c es r ≡ o → IsSome o → IsListedBy (ImportLists c) es r
  by None is some = absurd (is_none None refl some)
  by (Some b) is some =
      let w = (binding-at by_names c es 0 (class_names by_names es) r b.0 b.1 is).2 in
      let f = first-binding by_names c w.class (members by_names es w.class) r b.1 w.binds in
      let p = filter-at (λ (e : Entry). same_class by_names es w.class e.name) es f.0 f.1 f.2 in
      (p.1, f.1, p.2, kind_lists c w.class r (f.1).kind b.1 f.3)

-- ---- over the merged types the classes bind the same
binding_alike : (c m : Collection) (es : List Entry) → ((class : Name) (r : ResourceId) → class_binds by_names m es class r ≡ class_binds by_names c es class r) → (r : ResourceId) → binding_class by_names m es r ≡ binding_class by_names c es r
binding_alike c m es same r = from 0 (class_names by_names es) where
  from : (k : ℕ) (classes : List Name) → binding_from by_names m es k classes r ≡ binding_from by_names c es k classes r
  from k [] = refl
  from k (class ∷ rest) =
      let here = same class r in
      let more = from (suc k) rest in
      λ i. option_case (here i) (more i) (λ path. Some (k, path))

-- ---- so these are the ones that the root binds
abbrev leaf_of : ℕ × List Place → Leaf
leaf_of b = record { out = 0; side = imported; path = position b.0 ∷ b.1 }

rooted : (o : Option (ℕ × List Place)) → IsSome o ↔ IsSome (option_case o None (λ b. Some (leaf_of b)))
rooted None = (λ h. h, λ h. h)
rooted (Some b) = (λ h. refl, λ h. refl)

pub all_bound : (g : Graph) (a : Aggregate) (es : List Entry) (empty now : List ResourceId) → BindsAsClasses by_names g.types (outer_entries g) a.merge → es ≡ a.entries → a.entries ≡ outer_entries g → empty ≡ []
    → AddsResources (λ r. IsListedBy (ImportLists g.types) es r × IsBoundIn a r) empty now → AreBound g now
all_bound g a es empty now binds same are none added r =
    let alike : binding_class by_names (a.merge).types a.entries r ≡ binding_class by_names g.types (outer_entries g) r =
    ap (λ (xs : List Entry). binding_class by_names (a.merge).types xs r) are ∙ binding_alike g.types (a.merge).types (outer_entries g) binds.same r in
    let class = binding_class by_names g.types (outer_entries g) r in
    let root = rooted class in (
      λ h. root.0 (elim ((added r).0 h) [ inl w ↦ absurd (in_nothing (subst (λ l. Contains l r) none w)) | inr w ↦ subst IsSome alike w.1 ]),
      λ h.
          let some : IsSome class = root.1 h in
          (added r).1 (inr (subst (λ (xs : List Entry). IsListedBy (ImportLists g.types) xs r) (sym (same ∙ are)) (bound_is_listed g.types (outer_entries g) r some), subst IsSome (sym alike) some)),
    )
  where
    in_nothing : Contains [] r → ⊥
    in_nothing h = let low : h.0 < 0 = h.1 in omega (arith, low)
