-- An interface with uses weighs no more than the one without, where it is written.
use Rattle.std.proofs.Common.{ℕ, ◌+◌, ◌≤◌, Bool, true, false, List, [], length, Some, slice_get, ◌≡◌, refl, ap, sym, ◌∙◌, subst, arith}
use Rattle.std.specs.List.{sum_by}
use Rattle.std.proofs.lemmas.Option.{slice_get_within}
use Rattle.wac_types_shapes.specs.primitives.Name.{Name, option_case}
use Rattle.wac_types_shapes.specs.shapes.Kinds.{kind_type}
use Rattle.wac_types_shapes.specs.declared.shapes.component.Interface.{Interface}
use Rattle.wac_types_shapes.specs.declared.shapes.component.InterfaceId.{InterfaceId}
use Rattle.wac_types_shapes.specs.declared.shapes.component.ItemKind.{ItemKind}
use Rattle.wac_types_shapes.specs.declared.shapes.component.ItemKind.TheVariants as kind
use Rattle.wac_types_shapes.specs.declared.shapes.component.UsedType.{UsedType}
use Rattle.wac_types_shapes.specs.declared.shapes.component.«Type».{«Type» as AnyType}
use Rattle.wac_types_shapes.specs.declared.shapes.component.«Type».TheVariants as ty
use Rattle.wac_types_collection.specs.collection.Collection.{Collection, IsWellFormed, holds_type, interface_exports, item_at, kind_types}
use Rattle.wac_types_collection.specs.reach.Reach.{IsIn}
use Rattle.wac_types_collection.proofs.lemmas.wide.Members.{at_in}
use Rattle.wac_types_weight.specs.Weight.{is_scope, label, named_part, named_parts, near_all}
use Rattle.wac_types_weight.specs.Text.{bare_weight, entry_weight, inner_weight, own_texts, scope_weight}
use Rattle.wac_types_weight.proofs.Near.{near-is-least, near_closed, near_there}
use Rattle.wac_types_weight.proofs.Scopes.{scope-weighs-its-parts}
use Rattle.wac_types_weight.proofs.Uses.{kind_in, sum_kinds}
use Rattle.wac_merge_classes.specs.entries.Classes.{is_instance}
use Rattle.wac_merge_classes.proofs.lemmas.entries.Lists.{some-at}
use Rattle.wac_merge_tables.proofs.lemmas.made.Extending.{within_held}
use Rattle.wac_merge_unions.specs.uses.United.{instances_of, listed_by}
use Rattle.wac_merge_unions.specs.uses.Using.{IsKindUsing, IsUsing, with}
use Rattle.wac_merge_imports.proofs.lemmas.unions.AssembledKinds.{the-instance}
use Rattle.wac_merge_imports.proofs.lemmas.weight.CountedSums.{sum_beside}
use Rattle.wac_merge_imports.proofs.lemmas.weight.UnionWeights.{kind_at, low_test, not_scope}

-- types that are among others, interfaces and worlds aside, have no more near them
pub near_among : (m : Collection) → IsWellFormed m → (ts us : List AnyType) → ((a : AnyType) → IsIn a ts → is_scope a ≡ false → IsIn a us) → own_texts m (near_all m ts) ≤ own_texts m (near_all m us)
near_among m wf ts us among = near-is-least m ts (near_all m us) (λ a h. record { closed = near_closed m wf us; there = λ plain. near_there m us a (among a h plain) plain })

instance_scope : (k : ItemKind) → is_instance k ≡ true → is_scope (kind_type k) ≡ true
instance_scope k h = let i = the-instance k h in ap (λ (l : ItemKind). is_scope (kind_type l)) i.1

module _ (c m : Collection) (wf : IsWellFormed m) (uses : List InterfaceId → List (Name × ItemKind) → List (Name × UsedType)) where
  -- An interface weighs no more than another: its items, and what is inside.
  pub record IsNoMore (i w : InterfaceId) : Type 0 where
    pub before : holds_type m (ty.Interface i) ≡ true
    pub after : holds_type m (ty.Interface w) ≡ true
    pub items : entry_weight m (ty.Interface w) ≤ entry_weight m (ty.Interface i)
    pub inside : inner_weight m (ty.Interface w) ≤ inner_weight m (ty.Interface i)

  scope_less : (i w : InterfaceId) → IsNoMore i w → scope_weight m (ty.Interface w) ≤ scope_weight m (ty.Interface i)
  scope_less i w h =
      let one = scope-weighs-its-parts m (ty.Interface w) wf h.after refl in
      let two = scope-weighs-its-parts m (ty.Interface i) wf h.before refl in
      let items = h.items in
      let inside = h.inside in
      omega (arith, one, two, items, inside)

  -- An item weighs no more than another of its name, and is the same if it is no interface or world.
  record IsItemNoMore (a b : Name × ItemKind) : Type 0 where
    named : b.0 ≡ a.0
    scope : scope_weight m (kind_type b.1) ≤ scope_weight m (kind_type a.1)
    same : is_scope (kind_type b.1) ≡ false → b ≡ a

  -- lists of such items
  lists_less : (xs ys : List (Name × ItemKind)) → length ys ≡ length xs → ((j : ℕ) (a b : Name × ItemKind) → slice_get xs j ≡ Some a → slice_get ys j ≡ Some b → IsItemNoMore a b)
      → (named_parts ys ≤ named_parts xs) × (own_texts m (near_all m (kind_types ys)) + sum_by (scope_weight m) (kind_types ys) ≤ own_texts m (near_all m (kind_types xs)) + sum_by (scope_weight m) (kind_types xs))
  lists_less xs ys count each =
      let items = sum_beside (named_part {A = ItemKind}) (named_part {A = ItemKind}) ys xs count (λ j b a at_b at_a. let same : label b.0 ≡ label a.0 = ap label (each j a b at_a at_b).named in omega (arith, same)) in
      let scopes = sum_beside (λ (e : Name × ItemKind). scope_weight m (kind_type e.1)) (λ (e : Name × ItemKind). scope_weight m (kind_type e.1)) ys xs count (λ j b a at_b at_a. (each j a b at_a at_b).scope) in
      let one = sum_kinds (scope_weight m) ys in
      let two = sum_kinds (scope_weight m) xs in
      let near = near_among m wf (kind_types ys) (kind_types xs) among in
      (items, omega (arith, scopes, one, two, near))
    where
      among : (t : AnyType) → IsIn t (kind_types ys) → is_scope t ≡ false → IsIn t (kind_types xs)
      among t h plain =
          let k = kind_at ys t h in
          let low = slice_get_within ys k.index k.item k.at in
          let a = some-at xs k.index (omega (arith, low, count)) in
          let same = (each k.index a.0 k.item a.1 k.at).same (ap is_scope (sym k.is) ∙ plain) in
          subst (λ z. IsIn z (kind_types xs)) (sym (k.is ∙ ap (λ (e : Name × ItemKind). kind_type e.1) same)) (kind_in xs a.0 (at_in xs k.index a.0 a.1))

  of_lists : (i w : InterfaceId) (x y : Interface) → item_at m.interfaces i.0 ≡ Some x → item_at m.interfaces w.0 ≡ Some y → length y.exports ≡ length x.exports
      → ((j : ℕ) (a b : Name × ItemKind) → slice_get x.exports j ≡ Some a → slice_get y.exports j ≡ Some b → IsItemNoMore a b) → IsNoMore i w
  of_lists i w x y there here count each =
      let (items, inside) = lists_less x.exports y.exports count each in
      let old : interface_exports m i ≡ x.exports = ap (λ o. option_case o [] (λ (z : Interface). z.exports)) there in
      let new : interface_exports m w ≡ y.exports = ap (λ o. option_case o [] (λ (z : Interface). z.exports)) here in
      let weigh = λ (l : List (Name × ItemKind)). own_texts m (near_all m (kind_types l)) + sum_by (scope_weight m) (kind_types l) in
      record {
        before = low_test i.0 (length m.interfaces) (within_held m.interfaces i.0 x there);
        after = low_test w.0 (length m.interfaces) (within_held m.interfaces w.0 y here);
        items = subst (λ l. named_parts l ≤ named_parts (interface_exports m i)) (sym new) (subst (λ l. named_parts y.exports ≤ named_parts l) (sym old) items);
        inside = subst (λ l. weigh l ≤ weigh (interface_exports m i)) (sym new) (subst (λ l. weigh y.exports ≤ weigh l) (sym old) inside);
      }

  same_item : (a b : Name × ItemKind) → b ≡ a → IsItemNoMore a b
  same_item a b is =
      let scopes : scope_weight m (kind_type b.1) ≡ scope_weight m (kind_type a.1) = ap (λ (e : Name × ItemKind). scope_weight m (kind_type e.1)) is in
      record { named = ap (λ (e : Name × ItemKind). e.0) is; scope = omega (arith, scopes); same = λ plain. is }

  -- an instance that got an interface that weighs no more
  other_item : (a b : Name × ItemKind) → b.0 ≡ a.0 → is_instance a.1 ≡ true → is_instance b.1 ≡ true → ((k l : InterfaceId) → a ≡ (a.0, kind.Instance k) → b ≡ (a.0, kind.Instance l) → IsNoMore k l) → IsItemNoMore a b
  other_item a b named old new less =
      let k = the-instance a.1 old in
      let l = the-instance b.1 new in
      let one : a ≡ (a.0, kind.Instance k.0) = λ d. (a.0, k.1 d) in
      let two : b ≡ (a.0, kind.Instance l.0) = λ d. (named d, l.1 d) in
      let scopes = scope_less k.0 l.0 (less k.0 l.0 one two) in
      let here : scope_weight m (kind_type b.1) ≡ scope_weight m (ty.Interface l.0) = ap (λ (x : ItemKind). scope_weight m (kind_type x)) l.1 in
      let there : scope_weight m (kind_type a.1) ≡ scope_weight m (ty.Interface k.0) = ap (λ (x : ItemKind). scope_weight m (kind_type x)) k.1 in
      record { named = named; scope = omega (arith, scopes, here, there); same = λ plain. absurd (not_scope (is_scope (kind_type b.1)) (instance_scope b.1 new) plain) }

  pub using_less : (i w : InterfaceId) (is : List InterfaceId) → IsUsing c m uses i w is → IsNoMore i w
  using_less i w is (with _ _ _ it exports there here own counted others instances inner) =
      of_lists i w it (record { id = it.id; uses = uses is exports; exports = exports }) there here counted (λ j a b at_a at_b.
      by j a b at_a at_b (λ n k l at_k at_l. using_less k l (instances_of (listed_by c is n)) (inner j n k l at_k at_l)) (is_instance a.1) refl)
    where
      by : (j : ℕ) (a b : Name × ItemKind) → slice_get it.exports j ≡ Some a → slice_get exports j ≡ Some b
          → ((n : Name) (k l : InterfaceId) → slice_get it.exports j ≡ Some (n, kind.Instance k) → slice_get exports j ≡ Some (n, kind.Instance l) → IsNoMore k l) → (t : Bool) → is_instance a.1 ≡ t → IsItemNoMore a b
      by j a b at_a at_b deeper false plain = same_item a b (others j a b at_a at_b plain)
      by j a b at_a at_b deeper true is_one =
          let names = instances j a b at_a at_b is_one in
          other_item a b names.0 is_one names.1 (λ k l one two. deeper a.0 k l (at_a ∙ ap Some one) (at_b ∙ ap Some two))

  -- ---- imports

  pub kind_items : (is : List InterfaceId) (a b : ItemKind) → IsKindUsing c m uses is a b → entry_weight m (kind_type b) ≤ entry_weight m (kind_type a)
  kind_items is (kind.Instance i) (kind.Instance w) using = (using_less i w is using).items
  kind_items is a b using = let same : entry_weight m (kind_type b) ≡ entry_weight m (kind_type a) = ap (λ (k : ItemKind). entry_weight m (kind_type k)) using in omega (arith, same)

  pub kind_inside : (is : List InterfaceId) (a b : ItemKind) → IsKindUsing c m uses is a b → bare_weight m (kind_type b) ≤ bare_weight m (kind_type a)
  kind_inside is (kind.Instance i) (kind.Instance w) using = let less = (using_less i w is using).inside in omega (arith, less)
  kind_inside is a b using = let same : bare_weight m (kind_type b) ≡ bare_weight m (kind_type a) = ap (λ (k : ItemKind). bare_weight m (kind_type k)) using in omega (arith, same)

  pub kind_named : (is : List InterfaceId) (a b : ItemKind) → IsKindUsing c m uses is a b → is_instance b ≡ is_instance a
  kind_named is (kind.Instance i) (kind.Instance w) using = refl
  kind_named is a b using = ap is_instance using

  pub kind_same : (is : List InterfaceId) (a b : ItemKind) → IsKindUsing c m uses is a b → is_scope (kind_type b) ≡ false → b ≡ a
  kind_same is (kind.Instance i) (kind.Instance w) using plain = absurd (not_scope true refl plain)
  kind_same is a b using plain = using
