-- What is held unfolds to its parts unfolded.
use Rattle.std.proofs.Common.{ℕ, zero, suc, Bool, true, false, List, [], ◌∷◌, ◌++◌, map, ◌≡◌, ◌<◌, ◌≤◌, length, refl, ap, sym, ◌∙◌, Option, Some, None, arith, nat_lt, slice_get}
use Rattle.std.specs.List.{AllByRecursion}
use Rattle.wac_types_shapes.specs.primitives.Name.{Name, option_case}
use Rattle.wac_types_shapes.specs.primitives.Tree.{Side, imported, exported, TypeTree, absent, resource, own, borrow, record_of, variant_of, list_of, fixed_list_of, tuple_of, option_of, result_of, stream_of, future_of, function, instance, component, type_equal, function_item, instance_item, component_item, module_item, value_item}
use Rattle.wac_types_shapes.specs.declared.shapes.component.ResourceId.{ResourceId}
use Rattle.wac_types_shapes.specs.declared.shapes.component.FuncType.{FuncType}
use Rattle.wac_types_shapes.specs.declared.shapes.component.DefinedType.{DefinedType}
use Rattle.wac_types_shapes.specs.declared.shapes.component.DefinedType.TheVariants as def
use Rattle.wac_types_shapes.specs.declared.shapes.component.Interface.{Interface}
use Rattle.wac_types_shapes.specs.declared.shapes.component.World.{World}
use Rattle.wac_types_shapes.specs.declared.shapes.component.ValueType.{ValueType}
use Rattle.wac_types_shapes.specs.declared.shapes.component.ValueType.TheVariants as val
use Rattle.wac_types_shapes.specs.declared.shapes.component.«Type».{«Type» as AnyType}
use Rattle.wac_types_shapes.specs.declared.shapes.component.«Type».TheVariants as ty
use Rattle.wac_types_shapes.specs.declared.shapes.component.ItemKind.{ItemKind}
use Rattle.wac_types_shapes.specs.declared.shapes.component.ItemKind.TheVariants as kind
use Rattle.wac_types_shapes.specs.shapes.Kinds.{kind_type}
use Rattle.wac_types_collection.specs.declared.collection.collection.Held.{Held}
use Rattle.wac_types_collection.specs.collection.Collection.{Collection, size, seconds, and_maybe, case_values, func_values, defined_values, value_types, used_types, kind_types, interface_mentions, world_mentions, IsWellFormed, IsBefore, IsValueBefore, AreBefore, AddedBefore, IsKeptBy, holds_type, item_of}
use Rattle.wac_types_collection.specs.collection.Held.{Naming, Names, Unfolding, part_at, items_under, option_tree, func_tree, defined_tree, item_tree, of_held, step, resolved, unfolded_to, unfolded}
use Rattle.wac_types_collection.proofs.lemmas.collection.Growth.{type_before, before_more, kept_size}
use Rattle.wac_types_collection.proofs.lemmas.collection.Steady.{all_left, all_right}
use Rattle.wac_types_collection.specs.subtyping.Subtype.{by_name, resource_names, type_tree}
use Rattle.wac_types_collection.specs.subtyping.Ranks.{rank_of_held, type_rank}

pub all_both : {A : Type 0} (P : A → Type 0) (xs ys : List A) → AllByRecursion P xs → AllByRecursion P ys → AllByRecursion P (xs ++ ys)
all_both P [] ys h k = k
all_both P (x ∷ xs) ys h k = (h.0, all_both P xs ys h.1 k)

added_rank : {A : Type 0} (n : ℕ) (o : Option (Held A)) → AddedBefore n o → rank_of_held o ≤ n
added_rank n None h = absurd h
added_rank n (Some x) h = omega (arith, h)

-- what was added before something has no higher rank
pub before_rank : (c : Collection) (n : ℕ) (t : AnyType) → IsBefore c n t → type_rank c t ≤ n
before_rank c n (ty.Value (val.Primitive p)) h = omega arith
before_rank c n _ h = added_rank n _ h

module _ {L : Type 0} where
  module _ (t u : ValueType → TypeTree L) where
    values_same : (vs : List ValueType) → AllByRecursion (λ v. t v ≡ u v) vs → map t vs ≡ map u vs
    values_same [] h = refl
    values_same (v ∷ vs) h = rw (h.0, values_same vs h.1) refl

    seconds_same : (es : List (Name × ValueType)) → AllByRecursion (λ v. t v ≡ u v) (seconds es) → map (λ p. t p.1) es ≡ map (λ p. u p.1) es
    seconds_same [] h = refl
    seconds_same (e ∷ es) h = rw (h.0, seconds_same es h.1) refl

    optional_same : (o : Option ValueType) (vs : List ValueType) → AllByRecursion (λ v. t v ≡ u v) (and_maybe o vs) → (option_tree t o ≡ option_tree u o) × AllByRecursion (λ v. t v ≡ u v) vs
    optional_same None vs h = (refl, h)
    optional_same (Some v) vs h = (h.0, h.1)

    cases_same : (es : List (Name × Option ValueType)) → AllByRecursion (λ v. t v ≡ u v) (case_values es) → map (λ e. option_tree t e.1) es ≡ map (λ e. option_tree u e.1) es
    cases_same [] h = refl
    cases_same (e ∷ es) h = let o = optional_same e.1 (case_values es) h in rw (o.0, cases_same es o.1) refl

    pub func_same : (f : FuncType) → AllByRecursion (λ v. t v ≡ u v) (func_values f) → func_tree t f ≡ func_tree u f
    func_same f h =
        let o = optional_same f.result (seconds f.params) h in
        let p = seconds_same f.params o.1 in
        (λ i. function f.is_async (map (λ p. p.0) f.params) (part_at (p i)) (o.0 i))

    pub defined_same : (d : DefinedType) → AllByRecursion (λ v. t v ≡ u v) (defined_values d) → defined_tree t d ≡ defined_tree u d
    defined_same (def.Tuple vs) h = let e = values_same vs h in (λ i. tuple_of (length vs) (part_at (e i)))
    defined_same (def.List v) h = ap list_of h.0
    defined_same (def.FixedSizeList v n) h = ap (fixed_list_of n) h.0
    defined_same (def.Option v) h = ap option_of h.0
    defined_same (def.Result ok err) h = let o = optional_same ok _ h in let p = optional_same err _ o.1 in (λ i. result_of (o.0 i) (p.0 i))
    defined_same (def.Variant v) h = let e = cases_same v.cases h in (λ i. variant_of (map (λ e. e.0) v.cases) (part_at (e i)))
    defined_same (def.Record r) h = let e = seconds_same r.fields h in (λ i. record_of (map (λ e. e.0) r.fields) (part_at (e i)))
    defined_same (def.Flags names) h = refl
    defined_same (def.Enum names) h = refl
    defined_same (def.Alias v) h = h.0
    defined_same (def.Stream v) h = ap stream_of (optional_same v _ h).0
    defined_same (def.Future v) h = ap future_of (optional_same v _ h).0

  -- trees of items agree where those of their types do
  pub item_same : (t u : AnyType → TypeTree L) (b : Bool) (k : ItemKind) → t (kind_type k) ≡ u (kind_type k) → item_tree t b k ≡ item_tree u b k
  item_same t u true (kind.TypeItem a) h = refl
  item_same t u false (kind.TypeItem a) h = ap type_equal h
  item_same t u b (kind.Func f) h = ap function_item h
  item_same t u b (kind.Instance i) h = ap instance_item h
  item_same t u b (kind.Component w) h = ap component_item h
  item_same t u b (kind.Module w) h = ap module_item h
  item_same t u b (kind.Value w) h = ap value_item h

  -- trees of what is held agree where those of the item do
  held_kept : {A : Type 0} (t u : A → TypeTree L) (j k : ℕ) (o p : Option (Held A)) → ((h : Held A) → o ≡ Some h → p ≡ Some h) → AddedBefore j o → AddedBefore k o
      → ((h : Held A) → o ≡ Some h → h.before < j → h.before < k → t h.item ≡ u h.item) → of_held t o ≡ of_held u p
  held_kept t u j k None p e hj hk s = absurd hj
  held_kept t u j k (Some h) p e hj hk s = s h refl hj hk ∙ sym (ap (of_held u) (e h refl))

pub values_all : (c : Collection) (P : ValueType → Type 0) (n : ℕ) → ((v : ValueType) → IsValueBefore c n v → P v) → (vs : List ValueType) → AreBefore c n (value_types vs) → AllByRecursion P vs
values_all c P n f [] h = tt
values_all c P n f (v ∷ vs) h = (f v h.0, values_all c P n f vs h.1)

pub imports_of : (c : Collection) (n : ℕ) (w : World) → AreBefore c n (world_mentions w) → AreBefore c n (kind_types w.imports)
imports_of c n w b = all_left (IsBefore c n) (kind_types w.imports) (kind_types w.exports) (all_right (IsBefore c n) (used_types w.uses) _ b)

pub exports_of : (c : Collection) (n : ℕ) (w : World) → AreBefore c n (world_mentions w) → AreBefore c n (kind_types w.exports)
exports_of c n w b = all_right (IsBefore c n) (kind_types w.imports) (kind_types w.exports) (all_right (IsBefore c n) (used_types w.uses) _ b)

-- two namings, the second over a collection that has what the first one's holds: by both a resource that is held has one name, where the names around are related by R; and inside they are related again
pub record NamingsAgree {L : Type 0} (c d : Collection) (p q : Naming L) (R : Names L → Names L → Type 0) : Type 0 where
  pub name : (n : ℕ) (r : ResourceId) (m l : Names L) → R m l → IsBefore c n (ty.Resource r) → m (resolved c r) ≡ l (resolved d r)
  pub in_instance : (n : ℕ) (i : Interface) → AreBefore c n (interface_mentions i) → (m l : Names L) → R m l → R (p.in_instance i m) (q.in_instance i l)
  pub in_imports : (n : ℕ) (w : World) → AreBefore c n (world_mentions w) → (m l : Names L) → R m l → R (p.in_imports w m) (q.in_imports w l)
  pub in_exports : (n : ℕ) (w : World) → AreBefore c n (world_mentions w) → (m l : Names L) → R m l → R (p.in_exports w m) (q.in_exports w l)
  pub is_fresh : (n : ℕ) (m l : Names L) → R m l → (s : Side) (e : Name × ItemKind) → IsBefore c n (kind_type e.1) → p.is_fresh m s e ≡ q.is_fresh l s e

module _ {L : Type 0} (c d : Collection) (wf : IsWellFormed c) (g : IsKeptBy c d) (p q : Naming L) (R : Names L → Names L → Type 0) (na : NamingsAgree c d p q R) where
  -- one step of two unfoldings that agree on what was added before both depths
  module _ (t u : Unfolding L) (j k : ℕ) (ih : (s : ℕ) (m l : Names L) (a : AnyType) → R m l → s < j → s < k → IsBefore c s a → t m a ≡ u l a) where
    entries_kept : (n : ℕ) (m l : Names L) → R m l → n < j → n < k → (s : Side) (es : List (Name × ItemKind)) → AreBefore c n (kind_types es)
        → map {B = Name × TypeTree L} (λ e. (e.0, item_tree (t m) (p.is_fresh m s e) e.1)) es ≡ map (λ e. (e.0, item_tree (u l) (q.is_fresh l s e) e.1)) es
    entries_kept n m l ag lj lk s [] b = refl
    entries_kept n m l ag lj lk s (e ∷ es) b =
        let x = ap (λ f. item_tree (t m) f e.1) (na.is_fresh n m l ag s e b.0) ∙ item_same (t m) (u l) (q.is_fresh l s e) e.1 (ih n m l (kind_type e.1) ag lj lk b.0) in
        let r = entries_kept n m l ag lj lk s es b.1 in
        (λ i. (e.0, x i) ∷ r i)

    values_kept : (n : ℕ) (m l : Names L) → R m l → n < j → n < k → (vs : List ValueType) → AreBefore c n (value_types vs) → AllByRecursion (λ v. t m (ty.Value v) ≡ u l (ty.Value v)) vs
    values_kept n m l ag lj lk = values_all c (λ v. t m (ty.Value v) ≡ u l (ty.Value v)) n (λ v b. ih n m l (ty.Value v) ag lj lk b)

    step_kept : (m l : Names L) (a : AnyType) → R m l → IsBefore c j a → IsBefore c k a → step p c t m a ≡ step q d u l a
    step_kept m l (ty.Resource r) ag hj hk = ap (λ o. option_case o absent resource) (na.name j r m l ag hj)
    step_kept m l (ty.Value (val.Primitive x)) ag hj hk = refl
    step_kept m l (ty.Value (val.Own r)) ag hj hk = ap (λ o. option_case o absent own) (na.name j r m l ag hj)
    step_kept m l (ty.Value (val.Borrow r)) ag hj hk = ap (λ o. option_case o absent borrow) (na.name j r m l ag hj)
    step_kept m l (ty.Value (val.Defined x)) ag hj hk = held_kept _ _ j k _ _ (g.defined x.0) hj hk
        (λ h is lj lk. defined_same (λ v. t m (ty.Value v)) (λ v. u l (ty.Value v)) h.item (values_kept h.before m l ag lj lk (defined_values h.item) (wf.defined x.0 h is).1))
    step_kept m l (ty.Func x) ag hj hk = held_kept _ _ j k _ _ (g.funcs x.0) hj hk
        (λ h is lj lk. func_same (λ v. t m (ty.Value v)) (λ v. u l (ty.Value v)) h.item (values_kept h.before m l ag lj lk (func_values h.item) (wf.funcs x.0 h is).1))
    step_kept m l (ty.Interface x) ag hj hk = held_kept _ _ j k _ _ (g.interfaces x.0) hj hk
        (λ h is lj lk.
        let w = (wf.interfaces x.0 h is).1 in
        let e = entries_kept h.before _ _ (na.in_instance h.before h.item w m l ag) lj lk exported h.item.exports (all_right (IsBefore c h.before) (used_types h.item.uses) _ w) in
        (λ i. instance (items_under (e i))))
    step_kept m l (ty.World x) ag hj hk = held_kept _ _ j k _ _ (g.worlds x.0) hj hk
        (λ h is lj lk.
        let w = (wf.worlds x.0 h is).1 in
        let y = entries_kept h.before _ _ (na.in_imports h.before h.item w m l ag) lj lk imported h.item.imports (imports_of c h.before h.item w) in
        let z = entries_kept h.before _ _ (na.in_exports h.before h.item w m l ag) lj lk exported h.item.exports (exports_of c h.before h.item w) in
        (λ i. component (items_under (y i)) (items_under (z i))))
    step_kept m l (ty.Module x) ag hj hk = held_kept _ _ j k _ _ (g.modules x.0) hj hk (λ h is lj lk. refl)

  -- to any two depths that are enough
  pub unfold_kept : (j k : ℕ) (m l : Names L) (a : AnyType) → R m l → IsBefore c j a → IsBefore c k a → unfolded_to p c (suc j) m a ≡ unfolded_to q d (suc k) l a
  unfold_kept j k m l a ag hj hk = step_kept (unfolded_to p c j) (unfolded_to q d k) j k (below j k) m l a ag hj hk
    where
      below : (j k s : ℕ) (m l : Names L) (a : AnyType) → R m l → s < j → s < k → IsBefore c s a → unfolded_to p c j m a ≡ unfolded_to q d k l a
      below zero k s m l a ag lj lk b = absurd (omega (arith, lj))
      below (suc j) zero s m l a ag lj lk b = absurd (omega (arith, lk))
      below (suc j) (suc k) s m l a ag lj lk b = step_kept (unfolded_to p c j) (unfolded_to q d k) j k (below j k) m l a ag (before_more c s j a (omega (arith, lj)) b) (before_more c s k a (omega (arith, lk)) b)

  pub unfolded_kept : (m l : Names L) → R m l → (a : AnyType) → holds_type c a ≡ true → unfolded p c m a ≡ unfolded q d l a
  unfolded_kept m l ag a h =
      let at = type_before c wf a h in
      unfold_kept (size c) (size d) m l a ag at (before_more c (size c) (size d) a (kept_size c d g) at)

module _ {L : Type 0} (naming : Naming L) (c : Collection) (wf : IsWellFormed c) where
  -- in one collection, under the same names
  same_names : NamingsAgree c c naming naming (λ m l. m ≡ l)
  same_names = record {
    name = λ n r m l e b. ap (λ x. x (resolved c r)) e;
    in_instance = λ n i b m l e. ap (naming.in_instance i) e;
    in_imports = λ n w b m l e. ap (naming.in_imports w) e;
    in_exports = λ n w b m l e. ap (naming.in_exports w) e;
    is_fresh = λ n m l e s x b. ap (λ y. naming.is_fresh y s x) e;
  }

  pub unfold_same : (j k : ℕ) (m : Names L) (a : AnyType) → IsBefore c j a → IsBefore c k a → unfolded_to naming c (suc j) m a ≡ unfolded_to naming c (suc k) m a
  unfold_same j k m a hj hk =
      let kept : IsKeptBy c c = record { resources = λ _ _ e. e; funcs = λ _ _ e. e; defined = λ _ _ e. e; interfaces = λ _ _ e. e; worlds = λ _ _ e. e; modules = λ _ _ e. e } in
      unfold_kept c c wf kept naming naming (λ m l. m ≡ l) same_names j k m m a refl hj hk

  -- what is held unfolds to its parts unfolded
  pub unfolded_step : (m : Names L) (a : AnyType) → holds_type c a ≡ true → unfolded naming c m a ≡ step naming c (unfolded naming c) m a
  unfolded_step m a h =
      let at = type_before c wf a h in
      unfold_same (size c) (suc (size c)) m a at (before_more c (size c) (suc (size c)) a (omega arith) at)

-- the same of the tree of a type
pub type_step : (c : Collection) → IsWellFormed c → (a : AnyType) → holds_type c a ≡ true → type_tree c a ≡ step by_name c (λ m. unfolded by_name c m) (resource_names c) a
unfolding type_tree
type_step c wf a h = unfolded_step by_name c wf (resource_names c) a h

pub unfolded_is : (c : Collection) (a : AnyType) → unfolded by_name c (resource_names c) a ≡ type_tree c a
unfolding type_tree
unfolded_is c a = refl

pub held_item : {A : Type 0} (o : Option (Held A)) (x : A) → item_of o ≡ Some x → (h : Held A) × (o ≡ Some h) × (h.item ≡ x)
held_item None x e = cc
held_item (Some h) x e = let same : h.item ≡ x = cc in (h, refl, same)

pub within : {A : Type 0} (xs : List A) (i : ℕ) (x : A) → slice_get xs i ≡ Some x → nat_lt i (length xs) ≡ true
within [] i x e = cc
within (y ∷ xs) zero x e = grind arith
within (y ∷ xs) (suc i) x e = let h = within xs i x e in grind arith
