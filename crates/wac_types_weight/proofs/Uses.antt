-- The weight of an interface or a world pays for each interface to which uses lead from it.
use Rattle.std.proofs.Common.{ℕ, zero, suc, ◌+◌, ◌<◌, ◌≤◌, Bool, true, false, if◌then◌else◌, List, [], ◌∷◌, ◌++◌, length, flat_map, Contains, ◌≡◌, ◌⊎◌, inl, inr, refl, ap, sym, ◌∙◌, subst, arith, nat_lt}
use Rattle.std.specs.List.{sum_by}
use Rattle.std.proofs.lemmas.List.Sums.{sum_by-cons, sum_by-append}
use Rattle.wac_types_shapes.specs.primitives.Name.{Name}
use Rattle.wac_types_shapes.specs.shapes.Kinds.{kind_type}
use Rattle.wac_types_shapes.specs.declared.shapes.component.InterfaceId.{InterfaceId}
use Rattle.wac_types_shapes.specs.declared.shapes.component.ItemKind.{ItemKind}
use Rattle.wac_types_shapes.specs.declared.shapes.component.ItemKind.TheVariants as kind
use Rattle.wac_types_shapes.specs.declared.shapes.component.UsedType.{UsedType}
use Rattle.wac_types_shapes.specs.declared.shapes.component.WorldId.{WorldId}
use Rattle.wac_types_shapes.specs.declared.shapes.component.«Type».{«Type» as AnyType}
use Rattle.wac_types_shapes.specs.declared.shapes.component.«Type».TheVariants as ty
use Rattle.wac_types_collection.specs.collection.Collection.{Collection, IsWellFormed, size, holds_type, used_types, kind_types, world_imports, world_exports}
use Rattle.wac_types_collection.specs.reach.Reach.{IsIn}
use Rattle.wac_types_collection.specs.subtyping.Ranks.{type_rank}
use Rattle.wac_types_collection.specs.wide.Wide.{UsesWidely, by_itself, by_instance, world_uses, instance_of}
use Rattle.wac_types_collection.proofs.lemmas.reach.Lists.{in_left as is_in_left}
use Rattle.wac_types_collection.proofs.lemmas.reach.Reaching.{mentioned_held}
use Rattle.wac_types_collection.proofs.lemmas.wide.Members.{in_none, in_first, in_rest, in_parts, in_left, in_right, in_flat, map_in}
use Rattle.wac_types_collection.proofs.lemmas.wide.Wide.{instance_listed}
use Rattle.wac_types_weight.specs.Weight.{own, is_scope, weight_to, weight}
use Rattle.wac_types_weight.specs.Text.{items_of, item_types, scope_weight, inner_weight, types_weight}
use Rattle.wac_types_weight.specs.private.Laws.{LeadsTo, at_once, further, WorldLeadsTo, used, listed, onward, UsesAreLess, WorldUsesAreLess}
use Rattle.wac_types_weight.proofs.Sums.{sum_in, sum_both, sum_flat, sum_less, Differ}
use Rattle.wac_types_weight.proofs.Heights.{rank_most, scope_lower, scope_ranked}
use Rattle.wac_types_weight.proofs.Scopes.{uses_of, mentions_are, item_rank, item_held, scope_at, scope-weighs-its-parts, plain-has-none, own-has-items, scoped, mentions_less, near_items_less, scope_less}

-- ---- what is in lists of uses and items
used_in : (us : List (Name × UsedType)) (u : Name × UsedType) → Contains us u → IsIn (ty.Interface u.1.interface) (used_types us)
used_in [] u h = absurd (in_none u h)
used_in (x ∷ us) u h = elim (in_parts x u us h) [ inl e ↦ inl (ap (λ (z : Name × UsedType). ty.Interface z.1.interface) e) | inr w ↦ inr (used_in us u w) ]

pub kind_in : (es : List (Name × ItemKind)) (e : Name × ItemKind) → Contains es e → IsIn (kind_type e.1) (kind_types es)
kind_in [] e h = absurd (in_none e h)
kind_in (x ∷ es) e h = elim (in_parts x e es h) [ inl s ↦ inl (ap (λ (z : Name × ItemKind). kind_type z.1) s) | inr w ↦ inr (kind_in es e w) ]

sum_used : (f : AnyType → ℕ) (us : List (Name × UsedType)) → sum_by f (used_types us) ≡ sum_by (λ u. f (ty.Interface u.1.interface)) us
sum_used f [] = refl
sum_used f (u ∷ us) =
    let rest = sum_used f us in
    omega (arith, rest, sum_by-cons f (ty.Interface u.1.interface) (used_types us), sum_by-cons (λ (x : Name × UsedType). f (ty.Interface x.1.interface)) u us)

pub sum_kinds : (f : AnyType → ℕ) (es : List (Name × ItemKind)) → sum_by f (kind_types es) ≡ sum_by (λ e. f (kind_type e.1)) es
sum_kinds f [] = refl
sum_kinds f (e ∷ es) =
    let rest = sum_kinds f es in
    omega (arith, rest, sum_by-cons f (kind_type e.1) (kind_types es), sum_by-cons (λ (x : Name × ItemKind). f (kind_type x.1)) e es)

-- ---- the interfaces to which uses lead, once for each way
leads : ℕ → Collection → AnyType → List InterfaceId
leads zero c t = []
leads (suc n) c t = flat_map (λ u. u.1.interface ∷ leads n c (ty.Interface u.1.interface)) (uses_of c t) ++ flat_map (λ e. flat_map (λ i. leads n c (ty.Interface i)) (instance_of e.1)) (items_of c t)

-- those of a use, and those of an item
of_use : ℕ → Collection → Name × UsedType → List InterfaceId
of_use n c u = u.1.interface ∷ leads n c (ty.Interface u.1.interface)

of_item : ℕ → Collection → Name × ItemKind → List InterfaceId
of_item n c e = flat_map (λ i. leads n c (ty.Interface i)) (instance_of e.1)

leads_are : (n : ℕ) (c : Collection) (t : AnyType) → leads (suc n) c t ≡ flat_map (of_use n c) (uses_of c t) ++ flat_map (of_item n c) (items_of c t)
unfolding leads of_use of_item
leads_are n c t = refl

-- The interface or world pays for what is written of it and for all of these.
Pays : ℕ → Collection → AnyType → Type 0
Pays n c t = own c t + inner_weight c t + sum_by (types_weight c) (leads n c t) ≤ weight_to n c t

module _ (c : Collection) (wf : IsWellFormed c) where
  -- All interfaces and worlds of so low a rank pay.
  AllPay : ℕ → Type 0
  AllPay n = (t : AnyType) → holds_type c t ≡ true → is_scope t ≡ true → type_rank c t ≤ n → Pays n c t

  module _ (n : ℕ) (pay : AllPay n) where
    use_pays : (u : Name × UsedType) → holds_type c (ty.Interface u.1.interface) ≡ true → type_rank c (ty.Interface u.1.interface) ≤ n → sum_by (types_weight c) (of_use n c u) ≤ weight_to n c (ty.Interface u.1.interface)
    unfolding of_use AllPay Pays
    use_pays u held low =
        let all = pay (ty.Interface u.1.interface) held refl low in
        let first = sum_by-cons (types_weight c) u.1.interface (leads n c (ty.Interface u.1.interface)) in
        omega (arith, all, first)

    use_scoped : (u : Name × UsedType) → holds_type c (ty.Interface u.1.interface) ≡ true → type_rank c (ty.Interface u.1.interface) ≤ n → sum_by (types_weight c) (of_use n c u) ≤ scoped (weight_to n c) (ty.Interface u.1.interface)
    unfolding scoped
    use_scoped u held low = use_pays u held low

    -- an item that is an interface or a world pays for its own
    scope_pays : (t : AnyType) → holds_type c t ≡ true → type_rank c t ≤ n → scope_weight c t ≤ scoped (weight_to n c) t
    unfolding scoped
    scope_pays t held low = by (is_scope t) refl
      where
        by : (b : Bool) → is_scope t ≡ b → scope_weight c t ≤ (if b then weight_to n c t else 0)
        by true is = let less = scope_less n c wf t held in let same = scope_at c wf n t held low in omega (arith, less, same)
        by false is = let none = plain-has-none c t is in omega (arith, none)

    instance_pays : (i : InterfaceId) → holds_type c (ty.Interface i) ≡ true → type_rank c (ty.Interface i) ≤ n → scope_weight c (ty.Interface i) + sum_by (types_weight c) (leads n c (ty.Interface i) ++ []) ≤ weight_to n c (ty.Interface i)
    unfolding AllPay Pays
    instance_pays i held low =
        let all = pay (ty.Interface i) held refl low in
        let whole = scope-weighs-its-parts c (ty.Interface i) wf held refl in
        let items = own-has-items c (ty.Interface i) held refl in
        let both = sum_by-append (types_weight c) (leads n c (ty.Interface i)) [] in
        omega (arith, all, whole, items, both)

    item_pays : (m : Name) (k : ItemKind) → holds_type c (kind_type k) ≡ true → type_rank c (kind_type k) ≤ n → scope_weight c (kind_type k) + sum_by (types_weight c) (of_item n c (m, k)) ≤ scoped (weight_to n c) (kind_type k)
    unfolding of_item scoped
    item_pays m (kind.Instance i) held low = instance_pays i held low
    item_pays m (kind.TypeItem t) held low = let less = scope_pays t held low in omega (arith, less)
    item_pays m (kind.Component w) held low = let less = scope_pays (ty.World w) held low in omega (arith, less)
    item_pays m (kind.Func f) held low = let less = scope_pays (ty.Func f) held low in omega (arith, less)
    item_pays m (kind.Module f) held low = let less = scope_pays (ty.Module f) held low in omega (arith, less)
    item_pays m (kind.Value v) held low = let less = scope_pays (ty.Value v) held low in omega (arith, less)

    next_pays : (t : AnyType) → holds_type c t ≡ true → is_scope t ≡ true → type_rank c t ≤ suc n → Pays (suc n) c t
    unfolding Pays
    next_pays t held is low =
        let parts = ap (sum_by (types_weight c)) (leads_are n c t) in
        let both = sum_by-append (types_weight c) (flat_map (of_use n c) (uses_of c t)) (flat_map (of_item n c) (items_of c t)) in
        let flat_uses = sum_flat (types_weight c) (of_use n c) (uses_of c t) in
        let flat_items = sum_flat (types_weight c) (of_item n c) (items_of c t) in
        let uses = sum_in (λ u. sum_by (types_weight c) (of_use n c u)) (λ u. scoped (weight_to n c) (ty.Interface u.1.interface)) (uses_of c t) each_use in
        let items = sum_in (λ e. scope_weight c (kind_type e.1) + sum_by (types_weight c) (of_item n c e)) (λ e. scoped (weight_to n c) (kind_type e.1)) (items_of c t) each_item in
        let apart = sum_both (λ e. scope_weight c (kind_type e.1)) (λ e. sum_by (types_weight c) (of_item n c e)) (items_of c t) in
        let used_part = sum_used (scoped (weight_to n c)) (uses_of c t) in
        let kinds = sum_kinds (scoped (weight_to n c)) (items_of c t) in
        let inside = sum_kinds (scope_weight c) (items_of c t) in
        let nearby = near_items_less c wf t in
        let all = mentions_less c (weight_to n c) t is in
        omega (arith, parts, both, flat_uses, flat_items, uses, items, apart, used_part, kinds, inside, nearby, all)
      where
        each_use : (u : Name × UsedType) → Contains (uses_of c t) u → sum_by (types_weight c) (of_use n c u) ≤ scoped (weight_to n c) (ty.Interface u.1.interface)
        each_use u h =
            let there = subst (λ l. IsIn (ty.Interface u.1.interface) l) (sym (mentions_are c t is)) (is_in_left (ty.Interface u.1.interface) (used_types (uses_of c t)) (item_types c t) (used_in (uses_of c t) u h)) in
            let lower = scope_lower c wf t (ty.Interface u.1.interface) there (inl refl) in
            use_scoped u (mentioned_held c wf t (ty.Interface u.1.interface) held there) (omega (arith, lower, low))

        each_item : (e : Name × ItemKind) → Contains (items_of c t) e → scope_weight c (kind_type e.1) + sum_by (types_weight c) (of_item n c e) ≤ scoped (weight_to n c) (kind_type e.1)
        each_item e h =
            let there = kind_in (items_of c t) e h in
            let lower = item_rank c wf t (kind_type e.1) there in
            item_pays e.0 e.1 (item_held c wf t (kind_type e.1) held there) (omega (arith, lower, low))

  all_pay : (n : ℕ) → AllPay n
  unfolding AllPay
  all_pay zero t held is low = let some = scope_ranked c wf t held is in absurd (omega (arith, some, low))
  all_pay (suc n) t held is low = next_pays n (all_pay n) t held is low

  -- ---- all to which uses lead is there
  use_lower : (t : AnyType) (u : Name × UsedType) → is_scope t ≡ true → Contains (uses_of c t) u → type_rank c (ty.Interface u.1.interface) < type_rank c t
  use_lower t u is h =
      let there = subst (λ l. IsIn (ty.Interface u.1.interface) l) (sym (mentions_are c t is)) (is_in_left (ty.Interface u.1.interface) (used_types (uses_of c t)) (item_types c t) (used_in (uses_of c t) u h)) in
      scope_lower c wf t (ty.Interface u.1.interface) there (inl refl)

  -- The interface is k, or uses lead from it to k.
  Finds : InterfaceId → InterfaceId → Type 0
  Finds k j = (m : ℕ) → type_rank c (ty.Interface j) ≤ m → (k ≡ j) ⊎ Contains (leads m c (ty.Interface j)) k

  by_use : (t : AnyType) → is_scope t ≡ true → (u : Name × UsedType) → Contains (uses_of c t) u → (k : InterfaceId) → Finds k u.1.interface → (n : ℕ) → type_rank c t ≤ n → Contains (leads n c t) k
  unfolding Finds of_use
  by_use t is u h k found zero low = let lower = use_lower t u is h in absurd (omega (arith, lower, low))
  by_use t is u h k found (suc n) low =
      let lower = use_lower t u is h in
      subst (λ l. Contains l k) (sym (leads_are n c t))
      (in_left (flat_map (of_use n c) (uses_of c t)) (flat_map (of_item n c) (items_of c t)) k
      (in_flat (of_use n c) (uses_of c t) u k h (here (found n (omega (arith, lower, low))))))
    where
      here : (k ≡ u.1.interface) ⊎ Contains (leads n c (ty.Interface u.1.interface)) k → Contains (u.1.interface ∷ leads n c (ty.Interface u.1.interface)) k
      here (inl e) = subst (λ z. Contains (z ∷ leads n c (ty.Interface u.1.interface)) k) e (in_first k (leads n c (ty.Interface u.1.interface)))
      here (inr w) = in_rest u.1.interface k (leads n c (ty.Interface u.1.interface)) w

  by_item : (t : AnyType) (m : Name) (j : InterfaceId) → Contains (items_of c t) (m, kind.Instance j) → (k : InterfaceId) → ((n : ℕ) → type_rank c (ty.Interface j) ≤ n → Contains (leads n c (ty.Interface j)) k) → (n : ℕ) → type_rank c t ≤ n
      → Contains (leads n c t) k
  unfolding of_item
  by_item t m j h k found zero low = let lower = item_rank c wf t (ty.Interface j) (kind_in (items_of c t) (m, kind.Instance j) h) in absurd (omega (arith, lower, low))
  by_item t m j h k found (suc n) low =
      let lower = item_rank c wf t (ty.Interface j) (kind_in (items_of c t) (m, kind.Instance j) h) in
      subst (λ l. Contains l k) (sym (leads_are n c t))
      (in_right (flat_map (of_use n c) (uses_of c t)) (flat_map (of_item n c) (items_of c t)) k
      (in_flat (of_item n c) (items_of c t) (m, kind.Instance j) k h (in_left (leads n c (ty.Interface j)) [] k (found n (omega (arith, lower, low))))))

  wide_leads : (i j : InterfaceId) → UsesWidely c i j → (k : InterfaceId) → Finds k j → (n : ℕ) → type_rank c (ty.Interface i) ≤ n → Contains (leads n c (ty.Interface i)) k
  unfolding uses_of
  wide_leads i _ (by_itself _ m u h) k found n low = by_use (ty.Interface i) refl (m, u) h k found n low
  wide_leads i _ (by_instance _ j l m h w) k found n low = by_item (ty.Interface i) m j h k (wide_leads j l w k found) n low

  leads_to : (i k : InterfaceId) → LeadsTo c i k → (n : ℕ) → type_rank c (ty.Interface i) ≤ n → Contains (leads n c (ty.Interface i)) k
  unfolding Finds
  leads_to i k (at_once _ _ w) n low = wide_leads i k w k (λ m l. inl refl) n low
  leads_to i k (further _ j _ w l) n low = wide_leads i j w k (λ m less. inr (leads_to j k l m less)) n low

  leads_on : (i j k : InterfaceId) → LeadsTo c i j → LeadsTo c j k → LeadsTo c i k
  leads_on i j k (at_once _ _ w) l = further i j k w l
  leads_on i j k (further _ h _ w m) l = further i h k w (leads_on h j k m l)

  world_leads : (w : WorldId) (i : InterfaceId) → WorldLeadsTo c w i → (k : InterfaceId) → (k ≡ i) ⊎ LeadsTo c i k → (n : ℕ) → type_rank c (ty.World w) ≤ n → Contains (leads n c (ty.World w)) k
  unfolding uses_of Finds
  world_leads w i (used _ h) k on n low =
      let (u, there, is) = map_in (λ (x : Name × UsedType). x.1.interface) (world_uses c w) i h in
      by_use (ty.World w) refl u there k (λ m less. elim on [
        | inl e ↦ inl (e ∙ is)
        | inr l ↦ inr (subst (λ z. Contains (leads m c (ty.Interface z)) k) is (leads_to i k l m (subst (λ z. type_rank c (ty.Interface z) ≤ m) (sym is) less)))
      ]) n low
  world_leads w j (listed i _ h l) k on n low =
      let (m, there) = instance_listed (world_imports c w ++ world_exports c w) i h in
      by_item (ty.World w) m i there k (leads_to i k (elim on [ inl e ↦ subst (LeadsTo c i) (sym e) l | inr r ↦ leads_on i j k l r ])) n low
  world_leads w j (onward i _ before l) k on n low =
      world_leads w i before k (inr (elim on [ inl e ↦ subst (LeadsTo c i) (sym e) l | inr r ↦ leads_on i j k l r ])) n low

is_less : (i n : ℕ) → i < n → nat_lt i n ≡ true
is_less i n h = grind arith

pub uses-are-less : UsesAreLess
unfolding Pays Differ weight AllPay
uses-are-less c i is wf held apart there =
    let low = rank_most c wf (ty.Interface i) in
    let deep : type_rank c (ty.Interface i) ≤ suc (size c) = omega (arith, low) in
    let all = all_pay c wf (suc (size c)) (ty.Interface i) (is_less i.0 (length c.interfaces) held) refl deep in
    let less = sum_less (types_weight c) is (leads (suc (size c)) c (ty.Interface i)) apart (λ j h. leads_to c wf i j (there j h) (suc (size c)) deep) in
    omega (arith, all, less)

pub world-uses-are-less : WorldUsesAreLess
unfolding Pays Differ weight AllPay
world-uses-are-less c w is wf held apart there =
    let low = rank_most c wf (ty.World w) in
    let deep : type_rank c (ty.World w) ≤ suc (size c) = omega (arith, low) in
    let all = all_pay c wf (suc (size c)) (ty.World w) (is_less w.0 (length c.worlds) held) refl deep in
    let less = sum_less (types_weight c) is (leads (suc (size c)) c (ty.World w)) apart (λ j h. world_leads c wf w j (there j h) j (inl refl) (suc (size c)) deep) in
    omega (arith, all, less)
