-- What the definitions of interfaces and worlds cost, by their weights.
use Rattle.std.specs.Prelude.{ℕ, zero, suc, ◌≡◌, ◌≤◌, ◌+◌, ◌*◌, ◌^◌, ◌⊎◌, Bool, true, false, not, List, [], ◌∷◌, ◌++◌, length, filter, Option, Some, None, Result, Ok, Err, IsErrAnd, Contains, slice_get, cond, IfErr}
use Rattle.std.specs.List.{AllByRecursion, IsDistinct, flat_map, sum_by}
use Rattle.std.proofs.Common.{refl, ap, ◌∙◌, sym, subst, arith, inl, inr, le_refl, ⊎_elim}
use Rattle.std.proofs.lemmas.List.{append_assoc}
use Rattle.std.proofs.lemmas.List.Sums.{sum_by-cons, sum_by-append}
use Rattle.wac_types_shapes.specs.primitives.Name.{Name, option_case}
use Rattle.wac_types_shapes.specs.primitives.Tree.{Side}
use Rattle.wac_types_shapes.specs.contracts.shapes.component.InterfaceIdPartialEq.TheImpl as IdEq
use Rattle.wac_types_shapes.specs.contracts.shapes.component.WorldIdPartialEq.TheImpl as IdEq2
use Rattle.wac_types_shapes.specs.declared.shapes.component.Interface.{Interface}
use Rattle.wac_types_shapes.specs.declared.shapes.component.InterfaceId.{InterfaceId}
use Rattle.wac_types_shapes.specs.declared.shapes.component.World.{World}
use Rattle.wac_types_shapes.specs.declared.shapes.component.WorldId.{WorldId}
use Rattle.wac_types_shapes.specs.declared.shapes.component.UsedType.{UsedType}
use Rattle.wac_types_shapes.specs.declared.shapes.component.ItemKind.{ItemKind}
use Rattle.wac_types_shapes.specs.declared.shapes.component.ItemKind.TheVariants as kind
use Rattle.wac_types_shapes.specs.declared.shapes.component.«Type».{«Type» as AnyType}
use Rattle.wac_types_shapes.specs.declared.shapes.component.«Type».TheVariants as ty
use Rattle.wac_types_collection.specs.collection.Collection.{Collection, IsWellFormed, HasInterface, HasWorld, holds_type, item_at, kind_types, world_imports, world_exports, size}
use Rattle.wac_types_collection.specs.reach.Reach.{IsIn}
use Rattle.wac_types_collection.specs.wide.Wide.{UsesWidely, by_itself, each_once, instance_of, instances_of, interface_uses, used_interfaces, wide_uses, wide_uses_of_items, world_uses}
use Rattle.wac_types_collection.proofs.lemmas.wide.Members.{in_none, in_one, in_parts, in_first, in_either, in_left, in_right, map_in, flat_in}
use Rattle.wac_types_collection.proofs.lemmas.wide.Once.{each_only, id_itself}
use Rattle.wac_types_collection.proofs.lemmas.wide.Wide.{wide_law}
use Rattle.wac_types_weight.specs.Weight.{interface_parts, is_scope, named_part, named_parts, near_all, optional_text, own, used_parts, weight, world_parts}
use Rattle.wac_types_weight.specs.Text.{entry_weight, inner_weight, own_texts, scope_weight, types_weight}
use Rattle.wac_types_weight.specs.private.Laws.{AreDifferent, Covers, LeadsTo, NearIsLeast, ScopeWeighsItsParts, UsesAreLess, WorldLeadsTo, WorldUsesAreLess, at_once, further, listed, onward, used}
use Rattle.wac_binary.specs.Items.{Decl}
use Rattle.wac_binary.specs.Bytes.{decl_bytes}
use Rattle.wac_binary.specs.declared.fault.BinaryFault.{BinaryFault}
use Rattle.wac_binary.specs.declared.fault.BinaryFault.TheVariants.{TooLarge, OutOfMemory}
use Rattle.wac_binary.specs.declared.sorts.Description.{Description}
use Rattle.wac_encode_stacks.specs.Scopes.{Content}
use Rattle.wac_encode_scopes.specs.declared.encodable.Encodable.TheVariants.{Component}
use Rattle.wac_encode_scopes.specs.declared.state.State.{State}
use Rattle.wac_encode_scopes.specs.Contents.{AddsTypes, and_item}
use Rattle.wac_encode_scopes.specs.private.Components.{IsComponentType}
use Rattle.wac_encode_scopes.specs.private.Limits.{IsTooLarge}
use Rattle.wac_encode_scopes.specs.private.Paid.{item_cost, type_cost, world_cost}
use Rattle.wac_encode_faults.specs.Sides.{completed_sides, id_or_empty, interface_sides, listed_interfaces, needed_by_exports, needed_by_imports, reached, reached_to, under_id, unlisted, without}
use Rattle.wac_encode_interfaces.specs.private.Paid.{AreSmallWorlds, IsComponentWithin, SizedWithin, additional_cost, around_world, definition_cost, id_length, listed_cost, side_cost, sides_cost}
use Rattle.wac_encode_interfaces.specs.private.Defined.{IsPlainType, IsScopeType}
use Rattle.wac_encode_interfaces.specs.private.Worlds.{Worlds}
use Rattle.wac_encode_interfaces.proofs.Costs.{items-cost, listed-both, world-room}
use Rattle.wac_encode_interfaces.proofs.Items.{component-item, component-more}
use Rattle.wac_encode_interfaces.proofs.WorldsAhead.{PutsWorld, same-world}

-- ---- additional imports

add-sum : (d e n u x : ℕ) → x ≡ 1 + (d + u + e) → 10 + 2 * d + (17 + 12 * e + 27 * n) + 10 * e ≤ 64 * (x + n)
add-sum d e n u x h = omega (arith, h)

-- An additional import is paid by the weight of the interface with its types.
one-additional : (c : Collection) (i : InterfaceId) → additional_cost c (under_id c i) ≤ 64 * types_weight c i
one-additional c i = by_item (item_at c.interfaces i.0) refl
  where
    none-less : (n : ℕ) → 0 ≤ n
    none-less n = omega arith

    plus : (n : ℕ) → n + 0 ≡ n
    plus n = omega arith

    by_id : (it : Interface) (d : Option Name) → item_at c.interfaces i.0 ≡ Some it → it.id ≡ d → additional_cost c (option_case d [] (λ id. (id, kind.Instance i) ∷ [])) ≤ 64 * types_weight c i
    by_id it None at is = none-less (64 * types_weight c i)
    by_id it (Some id) at is =
        let owned : own c (ty.Interface i) ≡ 1 + (length id + used_parts it.uses + named_parts it.exports) =
        ap (λ (o : Option Interface). option_case o 0 (λ x. 1 + interface_parts x)) at ∙ ap (λ (d : Option Name). 1 + (optional_text d + used_parts it.uses + named_parts it.exports)) is in
        let entries : named_parts it.exports ≡ entry_weight c (ty.Interface i) = sym (ap (λ (o : Option Interface). named_parts (option_case o [] (λ x. x.exports))) at) in
        let owned_by : own c (ty.Interface i) ≡ 1 + (length id + used_parts it.uses + entry_weight c (ty.Interface i)) = owned ∙ ap (λ (n : ℕ). 1 + (length id + used_parts it.uses + n)) entries in
        subst (λ (n : ℕ). n ≤ 64 * types_weight c i) (sym (sum_by-cons (λ (e : Name × ItemKind). side_cost c e.0 e.1 true) (id, kind.Instance i) [] ∙ plus (side_cost c id (kind.Instance i) true)))
        (add-sum (length id) (entry_weight c (ty.Interface i)) (inner_weight c (ty.Interface i)) (used_parts it.uses) (own c (ty.Interface i)) owned_by)

    by_item : (o : Option Interface) → item_at c.interfaces i.0 ≡ o → additional_cost c (option_case o [] (λ it. option_case it.id [] (λ id. (id, kind.Instance i) ∷ []))) ≤ 64 * types_weight c i
    by_item None at = none-less (64 * types_weight c i)
    by_item (Some it) at = by_id it it.id at refl

all-additional : (c : Collection) (is : List InterfaceId) → additional_cost c (flat_map (under_id c) is) ≤ 64 * sum_by (types_weight c) is
all-additional c [] = le_refl 0
all-additional c (i ∷ is) =
    let first = one-additional c i in
    let rest = all-additional c is in
    let split = sum_by-append (λ (e : Name × ItemKind). side_cost c e.0 e.1 true) (under_id c i) (flat_map (under_id c) is) in
    let sum = sum_by-cons (types_weight c) i is in
    both (additional_cost c (under_id c i)) (additional_cost c (flat_map (under_id c) is)) (additional_cost c (flat_map (under_id c) (i ∷ is))) (types_weight c i) (sum_by (types_weight c) is) (sum_by (types_weight c) (i ∷ is)) split sum first rest
  where
    both : (a b z x y w : ℕ) → z ≡ a + b → w ≡ x + y → a ≤ 64 * x → b ≤ 64 * y → z ≤ 64 * w
    both a b z x y w e f g h = omega (arith, e, f, g, h)

-- ---- which interfaces are additional

-- What is reached is one of the first, or uses lead to it from one of them.
abbrev FoundFrom : Collection → List InterfaceId → InterfaceId → Type 0
FoundFrom c is j = (x : InterfaceId) × Contains is x × ((x ≡ j) ⊎ LeadsTo c x j)

reached-from : (d : ℕ) (c : Collection) (is : List InterfaceId) (j : InterfaceId) → Contains (reached_to d c is) j → FoundFrom c is j
reached-from zero c is j h = absurd (in_none j h)
reached-from (suc d) c is j h =
    let (x, among, there) = flat_in (λ (i : InterfaceId). reached_to d c (used_interfaces (interface_uses c i)) ++ i ∷ []) is j h in
    (x, among, by_place x (λ g. reached-from d c (used_interfaces (interface_uses c x)) j g) (in_either (reached_to d c (used_interfaces (interface_uses c x))) (x ∷ []) j there))
  where
    onward-from : (x y : InterfaceId) → UsesWidely c x y → (y ≡ j) ⊎ LeadsTo c y j → LeadsTo c x j
    onward-from x y step (inl same) = at_once x j (subst (UsesWidely c x) same step)
    onward-from x y step (inr leads) = further x y j step leads

    by_place : (x : InterfaceId) → (Contains (reached_to d c (used_interfaces (interface_uses c x))) j → FoundFrom c (used_interfaces (interface_uses c x)) j) → Contains (reached_to d c (used_interfaces (interface_uses c x))) j ⊎ Contains (x ∷ []) j → (x ≡ j) ⊎ LeadsTo c x j
    by_place x deeper (inl w) =
        let (y, uses, leads) = deeper w in
        let (u, there, is) = map_in (λ (u : Name × UsedType). u.1.interface) (interface_uses c x) y uses in
        let step : UsesWidely c x y = subst (UsesWidely c x) (sym is) (by_itself x u.0 u.1 there) in
        inr (onward-from x y step leads)
    by_place x deeper (inr w) = inl (sym (in_one x j w))

leads-then : (c : Collection) (i x j : InterfaceId) → UsesWidely c i x → (x ≡ j) ⊎ LeadsTo c x j → LeadsTo c i j
leads-then c i x j step (inl same) = at_once i j (subst (UsesWidely c i) same step)
leads-then c i x j step (inr leads) = further i x j step leads

once-in : (is : List InterfaceId) (j : InterfaceId) → Contains (each_once is) j → Contains is j
once-in is j h = ⊎_elim (λ none. absurd (in_none j none)) (λ there. there) (each_only [] is j h)

-- Uses lead from an interface to those that its definition imports.
pub interface-leads : (c : Collection) → IsWellFormed c → (i j : InterfaceId) → Contains (each_once (reached c (wide_uses c i))) j → LeadsTo c i j
interface-leads c wf i j h =
    let (x, among, leads) = reached-from (size c) c (wide_uses c i) j (once-in (reached c (wide_uses c i)) j h) in
    leads-then c i x j ((wide_law c wf i x).1 among) leads

kept-in : (p : InterfaceId → Bool) (is : List InterfaceId) (j : InterfaceId) → Contains (filter p is) j → Contains is j
kept-in p [] j h = absurd (in_none j h)
kept-in p (i ∷ is) j h = by_test (p i) h (λ g. kept-in p is j g)
  where
    rest : Contains is j → Contains (i ∷ is) j
    rest g = in_right (i ∷ []) is j g

    by_test : (b : Bool) → Contains (cond b (i ∷ filter p is) (filter p is)) j → (Contains (filter p is) j → Contains is j) → Contains (i ∷ is) j
    by_test true g deeper = ⊎_elim (λ (e : j ≡ i). subst (Contains (i ∷ is)) (sym e) (in_first i is)) (λ w. rest (deeper w)) (in_parts i j (filter p is) g)
    by_test false g deeper = rest (deeper g)

module _ (c : Collection) (wf : IsWellFormed c) (w : WorldId) (x : World) (at : item_at c.worlds w.0 ≡ Some x) where
  uses-are : world_uses c w ≡ x.uses
  uses-are = ap (λ (o : Option World). option_case o [] (λ y. y.uses)) at

  items-are : world_imports c w ++ world_exports c w ≡ x.imports ++ x.exports
  items-are = ap (λ (o : Option World). option_case o [] (λ y. y.imports) ++ option_case o [] (λ y. y.exports)) at

  instance-leads : (i y : InterfaceId) → Contains (instances_of (x.imports ++ x.exports)) i → UsesWidely c i y → WorldLeadsTo c w y
  instance-leads i y among step = listed i y (subst (λ (es : List (Name × ItemKind)). Contains (instances_of es) i) (sym items-are) among) (at_once i y step)

  items-lead : (es : List (Name × ItemKind)) → ((i : InterfaceId) → Contains (instances_of es) i → Contains (instances_of (x.imports ++ x.exports)) i) → (y : InterfaceId) → Contains (wide_uses_of_items c es) y → WorldLeadsTo c w y
  items-lead es more y h =
      let (i, among, there) = flat_in (wide_uses c) (instances_of es) y h in
      instance-leads i y (more i among) ((wide_law c wf i y).1 there)

  instances-split : (es fs : List (Name × ItemKind)) → instances_of (es ++ fs) ≡ instances_of es ++ instances_of fs
  instances-split [] fs = refl
  instances-split (e ∷ es) fs = ap (λ (is : List InterfaceId). instance_of e.1 ++ is) (instances-split es fs) ∙ sym (append_assoc (instance_of e.1) (instances_of es) (instances_of fs))

  imports-in : (i : InterfaceId) → Contains (instances_of x.imports) i → Contains (instances_of (x.imports ++ x.exports)) i
  imports-in i h = subst (λ (is : List InterfaceId). Contains is i) (sym (instances-split x.imports x.exports)) (in_left (instances_of x.imports) (instances_of x.exports) i h)

  exports-in : (i : InterfaceId) → Contains (instances_of x.exports) i → Contains (instances_of (x.imports ++ x.exports)) i
  exports-in i h = subst (λ (is : List InterfaceId). Contains is i) (sym (instances-split x.imports x.exports)) (in_right (instances_of x.imports) (instances_of x.exports) i h)

  needed-leads : (y : InterfaceId) → Contains (needed_by_imports c x ++ needed_by_exports c x) y → WorldLeadsTo c w y
  needed-leads y h = ⊎_elim by_imports by_exports (in_either (needed_by_imports c x) (needed_by_exports c x) y h)
    where
      by_imports : Contains (needed_by_imports c x) y → WorldLeadsTo c w y
      by_imports g =
          ⊎_elim (λ itself. used y (subst (λ (us : List (Name × UsedType)). Contains (used_interfaces us) y) (sym uses-are) itself)) (λ among. items-lead x.imports imports-in y among)
          (in_either (used_interfaces x.uses) (wide_uses_of_items c x.imports) y (kept-in _ (used_interfaces x.uses ++ wide_uses_of_items c x.imports) y g))

      by_exports : Contains (needed_by_exports c x) y → WorldLeadsTo c w y
      by_exports g = items-lead x.exports exports-in y (kept-in _ (wide_uses_of_items c x.exports) y g)

  -- Uses lead from a world to those that its definition imports in addition.
  pub world-leads : (j : InterfaceId) → Contains (unlisted c x) j → WorldLeadsTo c w j
  world-leads j h =
      let inside = kept-in _ (reached c (needed_by_imports c x ++ needed_by_exports c x)) j (once-in (without (listed_interfaces c x.imports) (reached c (needed_by_imports c x ++ needed_by_exports c x))) j h) in
      let (y, among, leads) = reached-from (size c) c (needed_by_imports c x ++ needed_by_exports c x) j inside in
      ⊎_elim (λ (same : y ≡ j). subst (WorldLeadsTo c w) same (needed-leads y among)) (λ further_on. onward y j (needed-leads y among) further_on) leads

-- Interfaces without repetition are different.
pub different : (is : List InterfaceId) → IsDistinct (IdEq.ghosts).eq is → AreDifferent is
unfolding IsDistinct
different [] h i j x at also = let no : None ≡ Some x = at in cc
different (y ∷ is) h zero zero x at also = refl
different (y ∷ is) h zero (suc j) x at also = absurd (never j (subst (λ (z : InterfaceId). slice_get is j ≡ Some z) (sym (one y x at)) also))
  where
    one : (a b : InterfaceId) → Some a ≡ Some b → a ≡ b
    one a b e = cc

    apart : (zs : List InterfaceId) → AllByRecursion (λ z. (IdEq.ghosts).eq y z ≡ false) zs → (k : ℕ) → slice_get zs k ≡ Some y → ⊥
    apart [] all k found = let no : None ≡ Some y = found in cc
    apart (z ∷ zs) all zero found = let same : z ≡ y = one z y found in (let both : true ≡ false = sym (id_itself y) ∙ ap (λ (a : InterfaceId). (IdEq.ghosts).eq y a) (sym same) ∙ all.0 in cc)
    apart (z ∷ zs) all (suc k) found = apart zs all.1 k found

    never : (k : ℕ) → slice_get is k ≡ Some y → ⊥
    never k found = apart is h.0 k found
different (y ∷ is) h (suc i) zero x at also = absurd (never i (subst (λ (z : InterfaceId). slice_get is i ≡ Some z) (sym (one y x also)) at))
  where
    one : (a b : InterfaceId) → Some a ≡ Some b → a ≡ b
    one a b e = cc

    apart : (zs : List InterfaceId) → AllByRecursion (λ z. (IdEq.ghosts).eq y z ≡ false) zs → (k : ℕ) → slice_get zs k ≡ Some y → ⊥
    apart [] all k found = let no : None ≡ Some y = found in cc
    apart (z ∷ zs) all zero found = let same : z ≡ y = one z y found in (let both : true ≡ false = sym (id_itself y) ∙ ap (λ (a : InterfaceId). (IdEq.ghosts).eq y a) (sym same) ∙ all.0 in cc)
    apart (z ∷ zs) all (suc k) found = apart zs all.1 k found

    never : (k : ℕ) → slice_get is k ≡ Some y → ⊥
    never k found = apart is h.0 k found
different (y ∷ is) h (suc i) (suc j) x at also = ap suc (different is h.1 i j x at also)

-- ---- the definition of an interface

-- An interface is near nothing.
near-scope : NearIsLeast → (c : Collection) (i : InterfaceId) → own_texts c (near_all c (ty.Interface i ∷ [])) ≤ 0
near-scope least c i = least c (ty.Interface i ∷ []) [] none
  where
    none : (t : AnyType) → IsIn t (ty.Interface i ∷ []) → Covers c [] t
    none t (inl same) = subst (Covers c []) (sym same) (record { closed = λ u v h. absurd h; there = λ plain. (let no : true ≡ false = plain in cc) })
    none t (inr h) = absurd h

id-text : (c : Collection) (i : InterfaceId) (it : Interface) → item_at c.interfaces i.0 ≡ Some it → length (id_or_empty c i) ≡ optional_text it.id
id-text c i it at = ap (λ (o : Option Interface). length (option_case o [] (λ x. option_case x.id [] (λ id. id)))) at ∙ by_id it.id
  where
    by_id : (d : Option Name) → length (option_case d [] (λ id. id)) ≡ optional_text d
    by_id None = refl
    by_id (Some id) = refl

-- The definition of an interface costs no more than its weight.
pub interface-definition-less : ScopeWeighsItsParts → NearIsLeast → UsesAreLess → (c : Collection) → IsWellFormed c → (i : InterfaceId) → HasInterface c i → holds_type c (ty.Interface i) ≡ true → (it : Interface) → item_at c.interfaces i.0 ≡ Some it → (is : List InterfaceId) → is ≡ each_once (reached c (wide_uses c i)) → IsDistinct (IdEq.ghosts).eq is
    → 17 + sides_cost c (interface_sides c i) ≤ 64 * weight c (ty.Interface i)
interface-definition-less scopes least uses c wf i has held it at is are distinct =
    let js = each_once (reached c (wide_uses c i)) in
    let apart = subst AreDifferent are (different is distinct) in
    let all = uses c i js wf has apart (λ j h. interface-leads c wf i j h) in
    let more = all-additional c js in
    let near = near-scope least c i in
    let scope = scopes c (ty.Interface i) wf held refl in
    let owned : own c (ty.Interface i) ≡ 1 + (optional_text it.id + used_parts it.uses + named_parts it.exports) = ap (λ (o : Option Interface). option_case o 0 (λ x. 1 + interface_parts x)) at in
    let entries : entry_weight c (ty.Interface i) ≡ named_parts it.exports = ap (λ (o : Option Interface). named_parts (option_case o [] (λ x. x.exports))) at in
    let one = sum_by-cons (item_cost c) (id_or_empty c i, kind.Instance i) [] in
    all-sum (additional_cost c (flat_map (under_id c) js)) (listed_cost c ((id_or_empty c i, kind.Instance i) ∷ [])) (own_texts c (near_all c (ty.Interface i ∷ []))) (length (id_or_empty c i)) (optional_text it.id) (used_parts it.uses) (entry_weight c (ty.Interface i)) (named_parts it.exports) (inner_weight c (ty.Interface i)) (own c (ty.Interface i)) (scope_weight c (ty.Interface i)) (sum_by (types_weight c) js) (weight c (ty.Interface i))
    one (id-text c i it at) entries owned scope near more all
  where
    all-sum : (a l r d t u e f n o s z w : ℕ) → l ≡ (12 * (1 + d) + 27 * s) + 0 → d ≡ t → e ≡ f → o ≡ 1 + (t + u + f) → s ≡ 1 + e + n → r ≤ 0 → a ≤ 64 * z → (o + n) + z ≤ w → 17 + (0 + a + l + 27 * r) ≤ 64 * w
    all-sum a l r d t u e f n o s z w h1 h2 h3 h4 h5 h6 h7 h8 = omega (arith, h1, h2, h3, h4, h5, h6, h7, h8)

-- ---- the definition of a world

-- The component type that the definition of a world exports, with what is around it.
pub world-definition-less : WorldUsesAreLess → (c : Collection) → IsWellFormed c → (w : WorldId) → HasWorld c w → (x : World) → item_at c.worlds w.0 ≡ Some x → (is : List InterfaceId) → is ≡ unlisted c x → IsDistinct (IdEq.ghosts).eq is
    → around_world c w + sides_cost c (completed_sides c x) ≤ 64 * weight c (ty.World w)
world-definition-less uses c wf w has x at is are distinct =
    let js = unlisted c x in
    let apart = subst AreDifferent are (different is distinct) in
    let all = uses c w js wf has apart (λ j h. world-leads c wf w x at j h) in
    let more = all-additional c js in
    let es = x.imports ++ x.exports in
    let both = listed-both c x.imports x.exports in
    let cost = items-cost c es in
    let lists : world_imports c w ++ world_exports c w ≡ es = ap (λ (o : Option World). option_case o [] (λ y. y.imports) ++ option_case o [] (λ y. y.exports)) at in
    let inner : inner_weight c (ty.World w) ≡ own_texts c (near_all c (kind_types es)) + sum_by (scope_weight c) (kind_types es) = ap (λ (fs : List (Name × ItemKind)). own_texts c (near_all c (kind_types fs)) + sum_by (scope_weight c) (kind_types fs)) lists in
    let owned : own c (ty.World w) ≡ 1 + (optional_text x.id + used_parts x.uses + named_parts x.imports + named_parts x.exports) = ap (λ (o : Option World). option_case o 0 (λ y. 1 + world_parts y)) at in
    let named = sum_by-append named_part x.imports x.exports in
    let id : id_length c w ≡ optional_text x.id = ap (λ (o : Option World). option_case o 0 (λ y. optional_text y.id)) at in
    all-sum (listed_cost c x.imports) (listed_cost c x.exports) (listed_cost c es) (additional_cost c (flat_map (under_id c) js)) (own_texts c (near_all c (kind_types es))) (sum_by (scope_weight c) (kind_types es)) (named_parts es) (named_parts x.imports) (named_parts x.exports) (used_parts x.uses) (optional_text x.id) (id_length c w) (own c (ty.World w)) (inner_weight c (ty.World w)) (sum_by (types_weight c) js) (weight c (ty.World w))
    both cost named owned inner id more all
  where
    all-sum : (l m k a r s p q v u t d o n z w : ℕ) → k ≡ l + m → k ≡ 12 * p + 27 * s → p ≡ q + v → o ≡ 1 + (t + u + q + v) → n ≡ r + s → d ≡ t → a ≤ 64 * z → o + n + z ≤ w → (44 + 2 * d) + (l + a + m + 27 * r) ≤ 64 * w
    all-sum l m k a r s p q v u t d o n z w h1 h2 h3 h4 h5 h6 h7 h8 = omega (arith, h1, h2, h3, h4, h5, h6, h7, h8)

-- The component type of a world that does not fit is heavy.
pub world-heavy : ScopeWeighsItsParts → (c : Collection) → IsWellFormed c → (w : WorldId) → holds_type c (ty.World w) ≡ true → 2 ^ 32 ≤ world_cost c w → 2 ^ 32 ≤ 27 * scope_weight c (ty.World w)
world-heavy scopes c wf w held h = heavy (2 ^ 32) (world_cost c w) (entry_weight c (ty.World w)) (scope_weight c (ty.World w)) h (world-room scopes c wf w held)
  where
    heavy : (m x e s : ℕ) → m ≤ x → x + (10 + 15 * e) ≤ 27 * s → m ≤ 27 * s
    heavy m x e s f g = omega (arith, f, g)

-- ---- answers with bytes

pub sized-more : (h n m : ℕ) (r : Result (List Decl) BinaryFault) → h + n ≤ m → SizedWithin 0 n r → SizedWithin h m r
sized-more h n m (Ok ds) le s = more (length (flat_map decl_bytes ds)) s
  where
    more : (b : ℕ) → 0 + b ≤ n → h + b ≤ m
    more b g = let room = le in omega (arith, g, room)
sized-more h n m (Err TooLarge) le s = more (2 ^ 32) s
  where
    more : (b : ℕ) → b ≤ n → b ≤ m
    more b g = let room = le in omega (arith, g, room)
sized-more h n m (Err OutOfMemory) le s = tt

pub sized-through : (h n m : ℕ) (r : Result (List Decl) BinaryFault) → n ≤ m → SizedWithin h n r → SizedWithin h m r
sized-through h n m (Ok ds) le s = more (h + length (flat_map decl_bytes ds)) s
  where
    more : (b : ℕ) → b ≤ n → b ≤ m
    more b g = let room = le in omega (arith, g, room)
sized-through h n m (Err TooLarge) le s = more (2 ^ 32) s
  where
    more : (b : ℕ) → b ≤ n → b ≤ m
    more b g = let room = le in omega (arith, g, room)
sized-through h n m (Err OutOfMemory) le s = tt

pub sized-large : (h n : ℕ) (e : BinaryFault) → e ≡ TooLarge → SizedWithin h n (Err e) → 2 ^ 32 ≤ n
sized-large h n e is s = subst (λ (y : BinaryFault). SizedWithin h n (Err y)) is s

-- ---- a component type that exports a component

pub exporting-room : (b n k : ℕ) → k ≤ 27 + 2 * n + b → 2 ^ 32 ≤ k + 27 * 0 → 2 ^ 32 ≤ 44 + 2 * n + b
exporting-room b n k less h = room (2 ^ 32) b n k less h
  where
    room : (m b n k : ℕ) → k ≤ 27 + 2 * n + b → m ≤ k + 27 * 0 → m ≤ 44 + 2 * n + b
    room m b n k f g = omega (arith, f, g)

pub exporting-sized : (l b n : ℕ) → 0 + l ≤ ((17 + b) + (10 + 2 * n)) + 27 * 0 → 17 + l ≤ 44 + 2 * n + b
exporting-sized l b n h = omega (arith, h)

pub component-listed : (side : Side) (n : Name) (d : Description) (s t u : State) → s.here.content ≡ Component [] → AddsTypes s.here.content t.here.content → u.here.content ≡ and_item side n d t.here.content → IsComponentType u.here.content
component-listed side n d s t u begun types listed_item = subst IsComponentType (sym listed_item) (component-item side n d t.here.content (component-more s.here.content t.here.content types (subst IsComponentType (sym begun) tt)))

pub around-named : (c : Collection) (w : WorldId) (x : World) (name : Name) (b m : ℕ) → item_at c.worlds w.0 ≡ Some x → x.id ≡ Some name → around_world c w + b ≤ m → 44 + 2 * length name + b ≤ m
around-named c w x name b m at is h =
    let named : id_length c w ≡ length name = ap (λ (o : Option World). option_case o 0 (λ y. optional_text y.id)) at ∙ ap optional_text is in
    around (id_length c w) (length name) b m named h
  where
    around : (d n b m : ℕ) → d ≡ n → (44 + 2 * d) + b ≤ m → 44 + 2 * n + b ≤ m
    around d n b m e g = omega (arith, e, g)

-- ---- definitions

pub exit-component : (n : ℕ) (e : BinaryFault) (r : Result (Option (List Decl)) BinaryFault) → IsErrAnd r (λ y. y ≡ e) → (e ≡ TooLarge → 2 ^ 32 ≤ n) → IsComponentWithin n r
exit-component n e (Ok o) g f = absurd g
exit-component n e (Err TooLarge) g f = f (sym g)
exit-component n e (Err OutOfMemory) g f = tt

pub scope-cost : (c : Collection) (x : Content) (t : AnyType) → is_scope t ≡ true → (e : BinaryFault) → e ≡ TooLarge → IsComponentWithin (64 * weight c t) (Err e) → 2 ^ 32 ≤ definition_cost c x t
scope-cost c x (ty.Interface i) h e is s = subst (λ (y : BinaryFault). IsComponentWithin (64 * weight c (ty.Interface i)) (Err y)) is s
scope-cost c x (ty.World w) h e is s = subst (λ (y : BinaryFault). IsComponentWithin (64 * weight c (ty.World w)) (Err y)) is s
scope-cost c x (ty.Resource r) h e is s = let no : false ≡ true = h in cc
scope-cost c x (ty.Func f) h e is s = let no : false ≡ true = h in cc
scope-cost c x (ty.Value v) h e is s = let no : false ≡ true = h in cc
scope-cost c x (ty.Module m) h e is s = let no : false ≡ true = h in cc

pub component-cost : (c : Collection) (x : Content) (t : AnyType) (o : Option (List Decl)) (ds : List Decl) → o ≡ Some ds → IsScopeType t → IsComponentWithin (64 * weight c t) (Ok o) → 17 + length (flat_map decl_bytes ds) ≤ definition_cost c x t
component-cost c x (ty.Interface i) o ds is scope h = subst (λ (z : Option (List Decl)). IsComponentWithin (64 * weight c (ty.Interface i)) (Ok z)) is h
component-cost c x (ty.World w) o ds is scope h = subst (λ (z : Option (List Decl)). IsComponentWithin (64 * weight c (ty.World w)) (Ok z)) is h
component-cost c x (ty.Resource r) o ds is scope h = absurd scope
component-cost c x (ty.Func f) o ds is scope h = absurd scope
component-cost c x (ty.Value v) o ds is scope h = absurd scope
component-cost c x (ty.Module m) o ds is scope h = absurd scope

pub plain-cost : (c : Collection) (x : Content) (t : AnyType) → IsPlainType t → type_cost c x t ≡ definition_cost c x t
plain-cost c x (ty.Interface i) h = absurd h
plain-cost c x (ty.World w) h = absurd h
plain-cost c x (ty.Resource r) h = refl
plain-cost c x (ty.Func f) h = refl
plain-cost c x (ty.Value v) h = refl
plain-cost c x (ty.Module m) h = refl

-- ---- worlds that are written ahead

pub memory-not-large : {U : Type 0} (r : Result U BinaryFault) → IfErr r (λ e. e ≡ OutOfMemory) → IsTooLarge r → ⊥
memory-not-large (Ok x) h g = absurd g
memory-not-large (Err TooLarge) h g = let both : TooLarge ≡ OutOfMemory = h in cc
memory-not-large (Err OutOfMemory) h g = absurd g

pub none-sizes : (c : Collection) (ws : Worlds) → ((w : WorldId) → ws w ≡ None) → AreSmallWorlds c ws
none-sizes c ws none w ds at = let no : None ≡ Some ds = sym (none w) ∙ at in cc

pub put-sizes : (c : Collection) (old new : Worlds) (w : WorldId) (ds : List Decl) → PutsWorld old w ds new → 17 + length (flat_map decl_bytes ds) ≤ world_cost c w → AreSmallWorlds c old → AreSmallWorlds c new
put-sizes c old new w ds put small are v es at = by_test ((IdEq2.ghosts).eq w v) refl
  where
    one : Some ds ≡ Some es → ds ≡ es
    one h = cc

    by_test : (b : Bool) → (IdEq2.ghosts).eq w v ≡ b → 17 + length (flat_map decl_bytes es) ≤ world_cost c v
    by_test true e =
        subst (λ (z : WorldId). 17 + length (flat_map decl_bytes es) ≤ world_cost c z) (same-world w v e)
        (subst (λ (xs : List Decl). 17 + length (flat_map decl_bytes xs) ≤ world_cost c w) (one (sym (put v ∙ ap (λ (b : Bool). cond b (Some ds) (old v)) e) ∙ at)) small)
    by_test false e = are v es (sym (put v ∙ ap (λ (b : Bool). cond b (Some ds) (old v)) e) ∙ at)
