-- The types inside which worlds are written before a definition weigh no more than what is defined.
use Rattle.std.specs.Prelude.{ℕ, zero, suc, ◌≡◌, ◌≤◌, ◌+◌, true, length, List, [], ◌∷◌, ◌++◌, Some, None, Contains, slice_get}
use Rattle.std.specs.List.{flat_map, sum_by}
use Rattle.std.proofs.Common.{refl, ap, ◌∙◌, sym, subst, arith, inl, inr}
use Rattle.std.proofs.lemmas.List.Sums.{sum_by-cons}
use Rattle.wac_types_shapes.specs.primitives.Name.{Name}
use Rattle.wac_types_shapes.specs.shapes.Kinds.{kind_type}
use Rattle.wac_types_shapes.specs.declared.shapes.component.InterfaceId.{InterfaceId}
use Rattle.wac_types_shapes.specs.declared.shapes.component.WorldId.{WorldId}
use Rattle.wac_types_shapes.specs.declared.shapes.component.World.{World}
use Rattle.wac_types_shapes.specs.declared.shapes.component.ItemKind.{ItemKind}
use Rattle.wac_types_shapes.specs.declared.shapes.component.ItemKind.TheVariants as kind
use Rattle.wac_types_shapes.specs.declared.shapes.component.«Type».{«Type» as AnyType}
use Rattle.wac_types_shapes.specs.declared.shapes.component.«Type».TheVariants as ty
use Rattle.wac_types_collection.specs.collection.Collection.{Collection, IsWellFormed, HasInterface, HasWorld, holds_type, item_at, interface_exports, world_imports, world_exports}
use Rattle.wac_types_collection.specs.wide.Wide.{AreThere, each_once, wide_uses}
use Rattle.wac_types_collection.proofs.lemmas.collection.Steady.{within}
use Rattle.wac_types_collection.proofs.lemmas.wide.Members.{in_none, in_one, in_left, in_right}
use Rattle.wac_types_weight.specs.Weight.{own, weight}
use Rattle.wac_types_weight.specs.Text.{entry_weight, inner_weight, scope_weight, types_weight}
use Rattle.wac_types_weight.specs.private.Laws.{AreDifferent, LeadsTo, NestsLess, OwnHasItems, ScopeWeighsItsParts, TextIsLess, UsesAreLess, WorldLeadsTo, WorldUsesAreLess}
use Rattle.wac_encode_faults.specs.Sides.{reached, unlisted}
use Rattle.wac_encode_interfaces.specs.private.Paid.{AreLight}
use Rattle.wac_encode_interfaces.specs.private.Roots.{additional_roots, item_root}
use Rattle.wac_encode_interfaces.proofs.Answered.{interface-holds}
use Rattle.wac_encode_interfaces.proofs.Costs.{world-lists}
use Rattle.wac_encode_interfaces.proofs.DefinitionCosts.{interface-leads, world-leads}
use Rattle.wac_encode_interfaces.proofs.RootTypes.{IsRootAmong, root-among}
use Rattle.wac_encode_interfaces.proofs.SideCosts.{contained-in}

pub none-light : (c : Collection) (a : AnyType) (ts : List AnyType) → ts ≡ [] → AreLight c a ts
none-light c a ts none t h = absurd (in_none t (subst (λ (us : List AnyType). Contains us t) none h))

one-different : (j : InterfaceId) → AreDifferent (j ∷ [])
one-different j zero zero x g h = refl
one-different j zero (suc n) x g h = let no : None ≡ Some x = h in cc
one-different j (suc m) n x g h = let no : None ≡ Some x = g in cc

one-leads : (P : InterfaceId → Type 0) (j : InterfaceId) → P j → (k : InterfaceId) → Contains (j ∷ []) k → P k
one-leads P j h k g = subst P (sym (in_one j k g)) h

-- A type item of an interface weighs no more than the interface with its types.
module _ (scopes : ScopeWeighsItsParts) (owns : OwnHasItems) (nests : NestsLess) (c : Collection) (wf : IsWellFormed c) where
  item-light : (j : InterfaceId) → HasInterface c j → (n : Name) (t : AnyType) → Contains (interface_exports c j) (n, kind.TypeItem t) → scope_weight c t ≤ types_weight c j
  item-light j has n t h =
      let held = interface-holds c j has in
      let less = nests c (ty.Interface j) t wf held refl (contained-in (interface_exports c j) n (kind.TypeItem t) h) in
      let whole = scopes c (ty.Interface j) wf held refl in
      let owned = owns c (ty.Interface j) held refl in
      light (scope_weight c t) (scope_weight c (ty.Interface j)) (entry_weight c (ty.Interface j)) (inner_weight c (ty.Interface j)) (own c (ty.Interface j)) less whole owned
    where
      light : (x s e n o : ℕ) → 1 + x ≤ s → s ≡ 1 + e + n → 1 + e ≤ o → x ≤ o + n
      light x s e n o f g h = omega (arith, f, g, h)

  used-light : (j : InterfaceId) (o : ℕ) (w : ℕ) → o + sum_by (types_weight c) (j ∷ []) ≤ w → (x : ℕ) → x ≤ types_weight c j → x ≤ w
  used-light j o w h x le = let sum = sum_by-cons (types_weight c) j [] in used (types_weight c j) (sum_by (types_weight c) (j ∷ [])) o w x sum h le
    where
      used : (y s o w x : ℕ) → s ≡ y + 0 → o + s ≤ w → x ≤ y → x ≤ w
      used y s o w x e f g = omega (arith, e, f, g)

pub interface-light : ScopeWeighsItsParts → OwnHasItems → TextIsLess → NestsLess → UsesAreLess → (c : Collection) → IsWellFormed c → (i : InterfaceId) → HasInterface c i → (imports exports : List (Name × ItemKind)) (additional : List InterfaceId) → imports ≡ [] → (n : Name) → exports ≡ (n, kind.Instance i) ∷ [] → additional ≡ each_once (reached c (wide_uses c i))
    → AreThere c additional → AreLight c (ty.Interface i) ((flat_map item_root imports ++ flat_map item_root exports) ++ flat_map (additional_roots c) additional)
interface-light scopes owns text nests uses c wf i has imports exports additional none n one are there t h = by_root (root-among c imports exports additional t h)
  where
    by_root : IsRootAmong c imports exports additional t → scope_weight c t ≤ weight c (ty.Interface i)
    by_root (inl (e, inl l, is)) = absurd (in_none e (subst (λ (es : List (Name × ItemKind)). Contains es e) none l))
    by_root (inl (e, inr r, is)) =
        let same : e ≡ (n, kind.Instance i) = in_one (n, kind.Instance i) e (subst (λ (es : List (Name × ItemKind)). Contains es e) one r) in
        let type_is : t ≡ ty.Interface i = sym is ∙ ap (λ (a : Name × ItemKind). kind_type a.1) same in
        subst (λ (z : AnyType). scope_weight c z ≤ weight c (ty.Interface i)) (sym type_is) (text c (ty.Interface i) wf (interface-holds c i has))
    by_root (inr (j, among, (m, listed))) =
        let leads : LeadsTo c i j = interface-leads c wf i j (subst (λ (js : List InterfaceId). Contains js j) are among) in
        let all = uses c i (j ∷ []) wf has (one-different j) (one-leads (LeadsTo c i) j leads) in
        used-light scopes owns nests c wf j (types_weight c i) (weight c (ty.Interface i)) all (scope_weight c t) (item-light scopes owns nests c wf j (there j among) m t listed)

pub world-light : ScopeWeighsItsParts → OwnHasItems → TextIsLess → NestsLess → WorldUsesAreLess → (c : Collection) → IsWellFormed c → (w : WorldId) → holds_type c (ty.World w) ≡ true → (y : World) → item_at c.worlds w.0 ≡ Some y → (additional : List InterfaceId) → additional ≡ unlisted c y
    → AreThere c additional → AreLight c (ty.World w) ((flat_map item_root y.imports ++ flat_map item_root y.exports) ++ flat_map (additional_roots c) additional)
world-light scopes owns text nests uses c wf w held y at additional are there t h = by_root (root-among c y.imports y.exports additional t h)
  where
    lists : world_imports c w ++ world_exports c w ≡ y.imports ++ y.exports
    lists = world-lists c w y at

    listed-light : (e : Name × ItemKind) → Contains (y.imports ++ y.exports) e → kind_type e.1 ≡ t → scope_weight c t ≤ weight c (ty.World w)
    listed-light e among is =
        let inside = subst (λ (es : List (Name × ItemKind)). Contains es e) (sym lists) among in
        let less = nests c (ty.World w) (kind_type e.1) wf held refl (contained-in (world_imports c w ++ world_exports c w) e.0 e.1 inside) in
        let whole = text c (ty.World w) wf held in
        subst (λ (z : AnyType). scope_weight c z ≤ weight c (ty.World w)) is (light (scope_weight c (kind_type e.1)) (scope_weight c (ty.World w)) (weight c (ty.World w)) less whole)
      where
        light : (a s v : ℕ) → 1 + a ≤ s → s ≤ v → a ≤ v
        light a s v f g = omega (arith, f, g)

    by_root : IsRootAmong c y.imports y.exports additional t → scope_weight c t ≤ weight c (ty.World w)
    by_root (inl (e, inl l, is)) = listed-light e (in_left y.imports y.exports e l) is
    by_root (inl (e, inr r, is)) = listed-light e (in_right y.imports y.exports e r) is
    by_root (inr (j, among, (m, listed))) =
        let leads : WorldLeadsTo c w j = world-leads c wf w y at j (subst (λ (js : List InterfaceId). Contains js j) are among) in
        let all = uses c w (j ∷ []) wf (within w.0 (length c.worlds) held) (one-different j) (one-leads (WorldLeadsTo c w) j leads) in
        used-light scopes owns nests c wf j (own c (ty.World w) + inner_weight c (ty.World w)) (weight c (ty.World w)) all (scope_weight c t) (item-light scopes owns nests c wf j (there j among) m t listed)
