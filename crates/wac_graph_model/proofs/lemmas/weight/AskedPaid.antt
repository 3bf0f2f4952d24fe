-- The imports of a graph weigh no more than its nodes pay for them.
use Rattle.std.proofs.Common.{ℕ, suc, ◌+◌, ◌≤◌, Bool, true, false, if◌then◌else◌, List, [], ◌∷◌, ◌++◌, map, length, flat_map, Contains, Option, Some, None, ◌≡◌, inl, inr, refl, ap, sym, ◌∙◌, subst, arith, append_assoc}
use Rattle.std.specs.FinMap as finite
use Rattle.std.specs.List.{sum_by}
use Rattle.std.specs.Option.{option_and_then}
use Rattle.std.proofs.lemmas.Grind.{flat_map-append}
use Rattle.std.proofs.lemmas.List.Sums.{sum_by-cons, sum_by-append}
use Rattle.wac_types_shapes.specs.primitives.Name.{Name, option_case}
use Rattle.wac_types_shapes.specs.shapes.Kinds.{kind_type}
use Rattle.wac_types_shapes.specs.declared.shapes.component.InterfaceId.{InterfaceId}
use Rattle.wac_types_shapes.specs.declared.shapes.component.ItemKind.{ItemKind}
use Rattle.wac_types_shapes.specs.declared.shapes.component.ItemKind.TheVariants as kind
use Rattle.wac_types_shapes.specs.declared.shapes.component.WorldId.{WorldId}
use Rattle.wac_types_shapes.specs.declared.shapes.component.«Type».{«Type» as AnyType}
use Rattle.wac_types_shapes.specs.declared.shapes.component.«Type».TheVariants as ty
use Rattle.wac_types_collection.specs.collection.Collection.{Collection, IsWellFormed, holds_type, world_imports, world_exports}
use Rattle.wac_types_collection.specs.reach.Reach.{mentions, IsIn}
use Rattle.wac_types_collection.proofs.lemmas.collection.Steady.{within}
use Rattle.wac_types_collection.proofs.lemmas.wide.Members.{in_none, in_first, in_rest, in_parts, in_one, in_left, in_either, in_map, map_in, flat_in}
use Rattle.wac_types_collection.proofs.lemmas.wide.Wide.{listed_instance}
use Rattle.wac_types_weight.specs.Weight.{named_part, named_parts, interface_parts, own, is_scope, near, near_all, weight}
use Rattle.wac_types_weight.specs.Text.{item_types, entry_weight, own_text, own_texts, scope_weight, inner_weight, bare_weight, types_weight}
use Rattle.wac_types_weight.specs.private.Laws.{Covers, AreDifferent, LeadsTo, WorldLeadsTo, listed}
use Rattle.wac_types_weight.proofs.Sums.{sum_in, sum_both, Differ, sum_mapped}
use Rattle.wac_types_weight.proofs.Near.{to_contains, near_closed, near_there, near-is-least, near-together}
use Rattle.wac_types_weight.proofs.Scopes.{scope-weighs-its-parts, own-has-items, own_text_less, text-is-less, weighs-its-parts, item_held}
use Rattle.wac_types_weight.proofs.Uses.{kind_in, sum_kinds, uses-are-less, world-uses-are-less}
use Rattle.wac_edges.specs.Edge.{node_number}
use Rattle.wac_merge_classes.specs.entries.Classes as merge
use Rattle.wac_graph_model.specs.nodes.Graph.{Graph, GraphNode, Kind, definition, import, instantiation, alias, node_at, package_at, package_of}
use Rattle.wac_graph_model.specs.nodes.Asked.{Entry, is_satisfied, unsatisfied, asked_by, imported_by, asked}
use Rattle.wac_graph_model.specs.nodes.Entries.{used_by, with_used, once, to_merge}
use Rattle.wac_graph_model.specs.nodes.OuterImports.{outer_entries}
use Rattle.wac_graph_model.specs.nodes.Sound.{IsInstance, IsSound}
use Rattle.wac_graph_model.specs.private.weight.AskedWeight.{name_weight, types_of, entries_weight, asks_weight, node_asks, AskedIsPaid}
use Rattle.wac_graph_model.proofs.lemmas.nodes.JoinLemmas.{imports_of_package}
use Rattle.wac_graph_model.proofs.lemmas.weight.AskedOnce.{once_insert, once_both, once_flat, flat_flat, once_asks, once_in, IsUsed, by_node, under_used, used_to_leads, id_of, ids_of, ids_differ}

-- ---- what an import weighs by itself
pub type_part : Collection → AnyType → ℕ
type_part c t = entry_weight c t + bare_weight c t

part : Collection → Entry → ℕ
part c e = (if merge.is_instance e.kind then 0 else 1) + length e.name + type_part c (kind_type e.kind)

used_part : (c : Collection) (x : Entry) (j : InterfaceId) → IsUsed c x j → part c x ≤ types_weight c (id_of x.kind)
unfolding part type_part id_of
used_part c x j used = subst (λ k. (if merge.is_instance k then 0 else 1) + length x.name + (entry_weight c (kind_type k) + bare_weight c (kind_type k)) ≤ types_weight c (id_of k)) (sym used.is) here
  where
    here : 0 + length x.name + (entry_weight c (ty.Interface j) + (1 + inner_weight c (ty.Interface j))) ≤ types_weight c j
    here =
        let a : own c (ty.Interface j) ≡ 1 + interface_parts used.it = ap (λ o. option_case o 0 (λ y. 1 + interface_parts y)) used.there in
        let b : entry_weight c (ty.Interface j) ≡ named_parts used.it.exports = ap (λ o. named_parts (option_case o [] (λ y. y.exports))) used.there in
        let n : option_case used.it.id 0 length ≡ length x.name = ap (λ o. option_case o 0 length) used.id in
        omega (arith, a, b, n)

-- ---- what nodes pay
module _ (c : Collection) (wf : IsWellFormed c) where
  used_sum : (us : List Entry) → ((x : Entry) → Contains us x → (j : InterfaceId) × IsUsed c x j) → sum_by (part c) (once us) ≤ sum_by (types_weight c) (ids_of (once us))
  unfolding ids_of
  used_sum us all =
      let less = sum_in (part c) (λ (x : Entry). types_weight c (id_of x.kind)) (once us) (λ x h. let (j, used) = all x (once_in us x h) in used_part c x j used) in
      let mapped = sum_mapped (types_weight c) (λ (x : Entry). id_of x.kind) (once us) in
      omega (arith, less, mapped)

  scope_part : (t : AnyType) → holds_type c t ≡ true → is_scope t ≡ true → type_part c t ≤ scope_weight c t
  unfolding type_part
  scope_part t held is =
      let whole = scope-weighs-its-parts c t wf held is in
      let bare : bare_weight c t ≡ 1 + inner_weight c t = ap (λ b. if b then 1 + inner_weight c t else 0) is in
      omega (arith, whole, bare)

  plain_part : (t : AnyType) → is_scope t ≡ false → type_part c t ≡ 0
  unfolding type_part
  plain_part (ty.Interface i) is = let no : true ≡ false = is in cc
  plain_part (ty.World w) is = let no : true ≡ false = is in cc
  plain_part (ty.Resource r) is = refl
  plain_part (ty.Func f) is = refl
  plain_part (ty.Value v) is = refl
  plain_part (ty.Module m) is = refl

  type_part_less : (t : AnyType) → holds_type c t ≡ true → type_part c t ≤ scope_weight c t
  type_part_less t held = by (is_scope t) refl
    where
      by : (b : Bool) → is_scope t ≡ b → type_part c t ≤ scope_weight c t
      by true is = scope_part t held is
      by false is = let none = plain_part t is in omega (arith, none)

  pub nothing_near : (ts : List AnyType) → ((t : AnyType) → IsIn t ts → is_scope t ≡ true) → own_texts c (near_all c ts) ≤ 0
  nothing_near ts all = near-is-least c ts [] (λ t h. record { closed = λ s u w. absurd w; there = λ is. let no : true ≡ false = sym (all t h) ∙ is in cc })

  -- an item that is imported: it weighs no more than its type
  pub item_less : (t : AnyType) → holds_type c t ≡ true → type_part c t + own_texts c (near_all c (t ∷ [])) ≤ weight c t
  item_less t held = by (is_scope t) refl
    where
      scope_in : is_scope t ≡ true → (u : AnyType) → IsIn u (t ∷ []) → is_scope u ≡ true
      scope_in is u (inl e) = ap is_scope e ∙ is
      scope_in is u (inr n) = absurd n

      closed : (s u : AnyType) → IsIn s (t ∷ near c t) → IsIn u (mentions c s) → is_scope u ≡ false → IsIn u (t ∷ near c t)
      closed s u (inl e) w is = inr (near_there c (mentions c t) u (subst (λ z. IsIn u (mentions c z)) e w) is)
      closed s u (inr h) w is = inr (near_closed c wf (mentions c t) s u h w is)

      covered : (u : AnyType) → IsIn u (t ∷ []) → Covers c (t ∷ near c t) u
      covered u (inl e) = record { closed = closed; there = λ is. inl e }
      covered u (inr n) = absurd n

      by : (b : Bool) → is_scope t ≡ b → type_part c t + own_texts c (near_all c (t ∷ [])) ≤ weight c t
      by true is =
          let a = scope_part t held is in
          let less = text-is-less c t wf held in
          let none = nothing_near (t ∷ []) (scope_in is) in
          omega (arith, a, less, none)
      by false is =
          let none = plain_part t is in
          let least = near-is-least c (t ∷ []) (t ∷ near c t) covered in
          let whole = weighs-its-parts c t wf held in
          let more = sum_in (own_text c) (own c) (near c t) (λ u h. own_text_less c u) in
          let first = own_text_less c t in
          omega (arith, none, least, whole, more, first, sum_by-cons (own_text c) t (near c t))

  -- ---- an import and the interfaces that it uses
  uses_of_entry : Entry → List Entry
  uses_of_entry e = map (by_node e) (used_by c e.kind)

  with_used_is : (e : Entry) → with_used c e ≡ uses_of_entry e ++ e ∷ []
  unfolding uses_of_entry by_node
  with_used_is e = refl

  once_parts : (before es : List Entry) → sum_by (part c) (once (before ++ flat_map (with_used c) es)) ≤ sum_by (part c) es + sum_by (part c) (once (before ++ flat_map uses_of_entry es))
  once_parts before [] = omega arith
  once_parts before (e ∷ es) =
      let long : before ++ (with_used c e ++ flat_map (with_used c) es) ≡ (before ++ uses_of_entry e) ++ e ∷ flat_map (with_used c) es =
      ap (λ l. before ++ (l ++ flat_map (with_used c) es)) (with_used_is e) ∙ ap (λ l. before ++ l) (append_assoc (uses_of_entry e) (e ∷ []) (flat_map (with_used c) es)) ∙ sym (append_assoc before (uses_of_entry e) (e ∷ flat_map (with_used c) es)) in
      let short : before ++ (uses_of_entry e ++ flat_map uses_of_entry es) ≡ (before ++ uses_of_entry e) ++ flat_map uses_of_entry es = sym (append_assoc before (uses_of_entry e) (flat_map uses_of_entry es)) in
      let a = ap (λ l. sum_by (part c) (once l)) long in
      let b = ap (λ l. sum_by (part c) (once l)) short in
      let one = once_insert (part c) (before ++ uses_of_entry e) e (flat_map (with_used c) es) in
      let rest = once_parts (before ++ uses_of_entry e) es in
      omega (arith, a, b, one, rest, sum_by-cons (part c) e es)

  -- the interfaces to which uses lead from an import
  entry_used : (e x : Entry) → Contains (uses_of_entry e) x → (i : InterfaceId) × (e.kind ≡ kind.Instance i) × ((j : InterfaceId) × LeadsTo c i j × IsUsed c x j)
  unfolding uses_of_entry
  entry_used e x h =
      let (u, there, same) = map_in (by_node e) (used_by c e.kind) x h in
      by e.kind refl u there same
    where
      by : (k : ItemKind) → e.kind ≡ k → (u : Name × ItemKind) → Contains (used_by c k) u → x ≡ by_node e u → (i : InterfaceId) × (e.kind ≡ kind.Instance i) × ((j : InterfaceId) × LeadsTo c i j × IsUsed c x j)
      by (kind.Instance i) is u there same =
          let (j, leads, under) = used_to_leads c wf (length c.interfaces) i u there in
          (i, is, (j, leads, subst (λ z. IsUsed c z j) (sym same) (under_used c e j u under)))
      by (kind.TypeItem t) is u there same = absurd (in_none u there)
      by (kind.Func f) is u there same = absurd (in_none u there)
      by (kind.Component w) is u there same = absurd (in_none u there)
      by (kind.Module m) is u there same = absurd (in_none u there)
      by (kind.Value v) is u there same = absurd (in_none u there)

  all_used : (es : List Entry) (x : Entry) → Contains (flat_map uses_of_entry es) x → (e : Entry) × Contains es e × (i : InterfaceId) × (e.kind ≡ kind.Instance i) × ((j : InterfaceId) × LeadsTo c i j × IsUsed c x j)
  all_used es x h =
      let (e, there, among) = flat_in uses_of_entry es x h in
      let (i, is, leads) = entry_used e x among in
      (e, there, i, is, leads)

  are_used : (es : List Entry) (x : Entry) → Contains (flat_map uses_of_entry es) x → (j : InterfaceId) × IsUsed c x j
  are_used es x h = let (e, there, i, is, leads) = all_used es x h in (leads.0, leads.2)

  -- each of the ids is one to which uses lead
  id_leads : (es : List Entry) (j : InterfaceId) → Contains (ids_of (once (flat_map uses_of_entry es))) j → (e : Entry) × Contains es e × (i : InterfaceId) × (e.kind ≡ kind.Instance i) × LeadsTo c i j
  unfolding ids_of id_of
  id_leads es j h =
      let (x, there, same) = map_in (λ (x : Entry). id_of x.kind) (once (flat_map uses_of_entry es)) j h in
      let (e, among, i, is, leads) = all_used es x (once_in (flat_map uses_of_entry es) x there) in
      let here : leads.0 ≡ j = sym (ap id_of leads.2.is) ∙ sym same in
      (e, among, i, is, subst (LeadsTo c i) here leads.1)

  ids_apart : (es : List Entry) → AreDifferent (ids_of (once (flat_map uses_of_entry es)))
  unfolding Differ
  ids_apart es = ids_differ c (once (flat_map uses_of_entry es)) (λ x h. are_used es x (once_in (flat_map uses_of_entry es) x h)) (once_asks (flat_map uses_of_entry es))

  -- what the imports of a node come to: their own parts, and the interfaces that they use
  node_sum : (es : List Entry) → sum_by (part c) (once (flat_map (with_used c) es)) ≤ sum_by (part c) es + sum_by (types_weight c) (ids_of (once (flat_map uses_of_entry es)))
  node_sum es =
      let parts = once_parts [] es in
      let used = used_sum (flat_map uses_of_entry es) (are_used es) in
      omega (arith, parts, used)

  -- ---- an import node
  name_part : (b : Bool) → (if b then 0 else 1) ≤ 1
  name_part true = omega arith
  name_part false = omega arith

  -- an item that uses nothing
  other_sum : (name : Name) (k : ItemKind) (n : ℕ) → holds_type c (kind_type k) ≡ true → used_by c k ≡ []
      → sum_by (part c) (once (flat_map (with_used c) (record { name = name; kind = k; node = n } ∷ []))) + own_texts c (near_all c (kind_type k ∷ [])) ≤ 1 + (length name + weight c (kind_type k))
  unfolding part ids_of uses_of_entry
  other_sum name k n held none =
      let e : Entry = record { name = name; kind = k; node = n } in
      let us : flat_map uses_of_entry (e ∷ []) ≡ [] = ap (λ (l : List (Name × ItemKind)). map (by_node e) l ++ []) none in
      let ids : sum_by (types_weight c) (ids_of (once (flat_map uses_of_entry (e ∷ [])))) ≡ 0 = ap (λ l. sum_by (types_weight c) (ids_of (once l))) us in
      let whole = node_sum (e ∷ []) in
      let one = sum_by-cons (part c) e [] in
      let first = name_part (merge.is_instance k) in
      let item = item_less (kind_type k) held in
      omega (arith, ids, whole, one, first, item)

  import_sum : (name : Name) (k : ItemKind) (n : ℕ) → holds_type c (kind_type k) ≡ true
      → sum_by (part c) (once (flat_map (with_used c) (record { name = name; kind = k; node = n } ∷ []))) + own_texts c (near_all c (kind_type k ∷ [])) ≤ 1 + (length name + weight c (kind_type k))
  unfolding part ids_of id_of
  import_sum name (kind.Instance i) n held =
      let e : Entry = record { name = name; kind = kind.Instance i; node = n } in
      let whole = node_sum (e ∷ []) in
      let one = sum_by-cons (part c) e [] in
      let less = uses-are-less c i (ids_of (once (flat_map uses_of_entry (e ∷ [])))) wf (within i.0 (length c.interfaces) held) (ids_apart (e ∷ [])) leads in
      let a = scope_part (ty.Interface i) held refl in
      let b = scope-weighs-its-parts c (ty.Interface i) wf held refl in
      let o = own-has-items c (ty.Interface i) held refl in
      let none = nothing_near (ty.Interface i ∷ []) scope_in in
      omega (arith, whole, one, less, a, b, o, none)
    where
      scope_in : (u : AnyType) → IsIn u (ty.Interface i ∷ []) → is_scope u ≡ true
      scope_in u (inl e) = ap is_scope e
      scope_in u (inr h) = absurd h

      leads : (j : InterfaceId) → Contains (ids_of (once (flat_map uses_of_entry (record { name = name; kind = kind.Instance i; node = n } ∷ [])))) j → LeadsTo c i j
      leads j h =
          let (e, there, l, is, on) = id_leads (record { name = name; kind = kind.Instance i; node = n } ∷ []) j h in
          let same = in_one (record { name = name; kind = kind.Instance i; node = n }) e there in
          let kinds : kind.Instance l ≡ kind.Instance i = sym is ∙ ap (λ (z : Entry). z.kind) same in
          subst (λ z. LeadsTo c z j) (ap id_of kinds) on
  import_sum name (kind.TypeItem t) n held = other_sum name (kind.TypeItem t) n held refl
  import_sum name (kind.Func f) n held = other_sum name (kind.Func f) n held refl
  import_sum name (kind.Component w) n held = other_sum name (kind.Component w) n held refl
  import_sum name (kind.Module m) n held = other_sum name (kind.Module m) n held refl
  import_sum name (kind.Value v) n held = other_sum name (kind.Value v) n held refl

-- ---- an instantiation
module _ (g : Graph) (n : ℕ) where
  unset_sum : (f : Entry → ℕ) (h : Name × ItemKind → ℕ) (i : ℕ) (es : List (Name × ItemKind)) → ((e : Name × ItemKind) → Contains es e → f (record { name = e.0; kind = e.1; node = n }) ≤ h e) → sum_by f (unsatisfied g n i es) ≤ sum_by h es
  unset_sum f h i [] less = omega arith
  unset_sum f h i (e ∷ es) less = by (is_satisfied g n i) (unset_sum f h (suc i) es (λ x w. less x (in_rest e x es w)))
    where
      by : (b : Bool) → sum_by f (unsatisfied g n (suc i) es) ≤ sum_by h es → sum_by f (if b then unsatisfied g n (suc i) es else record { name = e.0; kind = e.1; node = n } ∷ unsatisfied g n (suc i) es) ≤ sum_by h (e ∷ es)
      by true rest = omega (arith, rest, sum_by-cons h e es)
      by false rest =
          let first = less e (in_first e es) in
          omega (arith, rest, first, sum_by-cons h e es, sum_by-cons f (record { name = e.0; kind = e.1; node = n }) (unsatisfied g n (suc i) es))

  unset_in : (i : ℕ) (es : List (Name × ItemKind)) (x : Entry) → Contains (unsatisfied g n i es) x → Contains es (x.name, x.kind)
  unset_in i [] x h = absurd (in_none x h)
  unset_in i (e ∷ es) x h = by (is_satisfied g n i) h (unset_in (suc i) es x)
    where
      by : (b : Bool) → Contains (if b then unsatisfied g n (suc i) es else record { name = e.0; kind = e.1; node = n } ∷ unsatisfied g n (suc i) es) x → (Contains (unsatisfied g n (suc i) es) x → Contains es (x.name, x.kind)) → Contains (e ∷ es) (x.name, x.kind)
      by true h rest = in_rest e (x.name, x.kind) es (rest h)
      by false h rest = elim (in_parts (record { name = e.0; kind = e.1; node = n }) x (unsatisfied g n (suc i) es) h) [
        | inl same ↦ subst (λ (z : Entry). Contains (e ∷ es) (z.name, z.kind)) (sym same) (in_first e es)
        | inr w ↦ in_rest e (x.name, x.kind) es (rest w)
      ]

  module _ (wf : IsWellFormed g.types) (w : WorldId) (held : holds_type g.types (ty.World w) ≡ true) where
    world_item_held : (e : Name × ItemKind) → Contains (world_imports g.types w) e → holds_type g.types (kind_type e.1) ≡ true
    world_item_held e h = item_held g.types wf (ty.World w) (kind_type e.1) held (kind_in (world_imports g.types w ++ world_exports g.types w) e (in_left (world_imports g.types w) (world_exports g.types w) e h))

    each : Name × ItemKind → ℕ
    each e = named_part e + scope_weight g.types (kind_type e.1)

    each_less : (e : Name × ItemKind) → Contains (world_imports g.types w) e → part g.types (record { name = e.0; kind = e.1; node = n }) ≤ each e
    unfolding part each
    each_less e h =
        let first = name_part g.types wf (merge.is_instance e.1) in
        let typed = type_part_less g.types wf (kind_type e.1) (world_item_held e h) in
        omega (arith, first, typed)

    instance_sum : sum_by (part g.types) (once (flat_map (with_used g.types) (unsatisfied g n 0 (world_imports g.types w)))) + own_texts g.types (near_all g.types (item_types g.types (ty.World w))) ≤ weight g.types (ty.World w)
    unfolding each
    instance_sum =
        let es = unsatisfied g n 0 (world_imports g.types w) in
        let ids = ids_of (once (flat_map (uses_of_entry g.types wf) es)) in
        let whole = node_sum g.types wf es in
        let unset = unset_sum (part g.types) each 0 (world_imports g.types w) each_less in
        let apart = sum_both (λ e. named_part e) (λ e. scope_weight g.types (kind_type e.1)) (world_imports g.types w) in
        let names = sum_by-append named_part (world_imports g.types w) (world_exports g.types w) in
        let kinds = sum_kinds (scope_weight g.types) (world_imports g.types w ++ world_exports g.types w) in
        let scopes = sum_by-append (λ (e : Name × ItemKind). scope_weight g.types (kind_type e.1)) (world_imports g.types w) (world_exports g.types w) in
        let less = world-uses-are-less g.types w ids wf (within w.0 (length g.types.worlds) held) (ids_apart g.types wf es) leads in
        let items = own-has-items g.types (ty.World w) held refl in
        omega (arith, whole, unset, apart, names, kinds, scopes, less, items)
      where
        leads : (j : InterfaceId) → Contains (ids_of (once (flat_map (uses_of_entry g.types wf) (unsatisfied g n 0 (world_imports g.types w))))) j → WorldLeadsTo g.types w j
        leads j h =
            let (e, there, i, is, on) = id_leads g.types wf (unsatisfied g n 0 (world_imports g.types w)) j h in
            let listed_there = subst (λ k. Contains (world_imports g.types w) (e.name, k)) is (unset_in 0 (world_imports g.types w) e there) in
            listed i j (listed_instance (world_imports g.types w ++ world_exports g.types w) e.name i (in_left (world_imports g.types w) (world_exports g.types w) (e.name, kind.Instance i) listed_there)) on

-- ---- what each node pays
asks_types : Graph → GraphNode → Kind → List AnyType
asks_types g node definition = []
asks_types g node (import name) = kind_type node.item_kind ∷ []
asks_types g node instantiation = option_case (package_of g node) [] (λ p. item_types g.types (ty.World p.world))
asks_types g node alias = []

node_types : Graph → ℕ → List AnyType
node_types g n = option_case (node_at g (node_number n)) [] (λ node. asks_types g node node.kind)

module _ (g : Graph) (wf : IsWellFormed g.types) (sound : IsSound g) where
  asked_at : ℕ → List Entry
  asked_at n = asked_by g n (node_at g (node_number n))

  imported_at : ℕ → List Entry
  imported_at n = imported_by n (node_at g (node_number n))

  sum_once : List Entry → ℕ
  sum_once es = sum_by (part g.types) (once es)

  package_there : (node : GraphNode) (i : IsInstance g node) → package_of g node ≡ Some i.parts
  package_there node i = ap (option_and_then (package_at g)) i.owned ∙ i.registered

  none_near : own_texts g.types (near_all g.types []) ≤ 0
  none_near = nothing_near g.types wf [] (λ t h. absurd h)

  node_paid : (n : ℕ) → sum_once (flat_map (with_used g.types) (asked_at n)) + sum_once (flat_map (with_used g.types) (imported_at n)) + own_texts g.types (near_all g.types (node_types g n)) ≤ node_asks g n
  unfolding asked_at imported_at sum_once node_types asks_types
  node_paid n = by (node_at g (node_number n)) refl
    where
      of_kind : (node : GraphNode) → node_at g (node_number n) ≡ Some node → (k : Kind) → node.kind ≡ k
          → sum_by (part g.types) (once (flat_map (with_used g.types) (asked_by g n (Some (record node { kind = k }))))) + sum_by (part g.types) (once (flat_map (with_used g.types) (imported_by n (Some (record node { kind = k })))))
          + own_texts g.types (near_all g.types (asks_types g node k)) ≤ asks_weight g n node k
      of_kind node there definition is = let none = none_near in omega (arith, none)
      of_kind node there (import name) is = let paid = import_sum g.types wf name node.item_kind n (sound.held (node_number n) node there) in omega (arith, paid)
      of_kind node there instantiation is =
          let i = sound.instances (node_number n) node there is in
          let pkg = package_there node i in
          let paid = instance_sum g n wf i.parts.world (sound.packages i.id i.parts i.registered).0 in
          let imports = ap (λ (es : List (Name × ItemKind)). sum_by (part g.types) (once (flat_map (with_used g.types) (unsatisfied g n 0 es)))) (imports_of_package g (record node { kind = instantiation }) i.parts pkg) in
          let types = ap (λ o. own_texts g.types (near_all g.types (option_case o [] (λ p. item_types g.types (ty.World p.world))))) pkg in
          let pays = ap (λ o. option_case o 0 (λ p. weight g.types (ty.World p.world))) pkg in
          omega (arith, paid, imports, types, pays)
      of_kind node there alias is = let none = none_near in omega (arith, none)

      by : (o : Option GraphNode) → node_at g (node_number n) ≡ o
          → sum_by (part g.types) (once (flat_map (with_used g.types) (asked_by g n o))) + sum_by (part g.types) (once (flat_map (with_used g.types) (imported_by n o))) + own_texts g.types (near_all g.types (option_case o [] (λ node. asks_types g node node.kind)))
          ≤ option_case o 0 (λ node. asks_weight g n node node.kind)
      by None is = let none = none_near in omega (arith, none)
      by (Some node) is = of_kind node is node.kind refl

  -- ---- the type of an import is among those of its node
  asked_type : (n : ℕ) (x : Entry) → Contains (asked_at n) x → IsIn (kind_type x.kind) (node_types g n)
  unfolding asked_at node_types asks_types
  asked_type n x h = by (node_at g (node_number n)) refl h
    where
      of_kind : (node : GraphNode) → node_at g (node_number n) ≡ Some node → (k : Kind) → node.kind ≡ k → Contains (asked_by g n (Some (record node { kind = k }))) x → IsIn (kind_type x.kind) (asks_types g node k)
      of_kind node there definition is h = absurd (in_none x h)
      of_kind node there (import name) is h = absurd (in_none x h)
      of_kind node there alias is h = absurd (in_none x h)
      of_kind node there instantiation is h =
          let i = sound.instances (node_number n) node there is in
          let pkg = package_there node i in
          let here = subst (λ (es : List (Name × ItemKind)). Contains (unsatisfied g n 0 es) x) (imports_of_package g (record node { kind = instantiation }) i.parts pkg) h in
          let listed_there = unset_in g n 0 (world_imports g.types i.parts.world) x here in
          let among = kind_in (world_imports g.types i.parts.world ++ world_exports g.types i.parts.world) (x.name, x.kind) (in_left (world_imports g.types i.parts.world) (world_exports g.types i.parts.world) (x.name, x.kind) listed_there) in
          subst (λ o. IsIn (kind_type x.kind) (option_case o [] (λ p. item_types g.types (ty.World p.world)))) (sym pkg) among

      by : (o : Option GraphNode) → node_at g (node_number n) ≡ o → Contains (asked_by g n o) x → IsIn (kind_type x.kind) (option_case o [] (λ node. asks_types g node node.kind))
      by None is h = absurd (in_none x h)
      by (Some node) is h = of_kind node is node.kind refl h

  imported_type : (n : ℕ) (x : Entry) → Contains (imported_at n) x → IsIn (kind_type x.kind) (node_types g n)
  unfolding imported_at node_types asks_types
  imported_type n x h = by (node_at g (node_number n)) h
    where
      of_kind : (node : GraphNode) (k : Kind) → Contains (imported_by n (Some (record node { kind = k }))) x → IsIn (kind_type x.kind) (asks_types g node k)
      of_kind node definition h = absurd (in_none x h)
      of_kind node (import name) h = inl (ap (λ (z : Entry). kind_type z.kind) (in_one (record { name = name; kind = node.item_kind; node = n }) x h))
      of_kind node instantiation h = absurd (in_none x h)
      of_kind node alias h = absurd (in_none x h)

      by : (o : Option GraphNode) → Contains (imported_by n o) x → IsIn (kind_type x.kind) (option_case o [] (λ node. asks_types g node node.kind))
      by None h = absurd (in_none x h)
      by (Some node) h = of_kind node node.kind h

  -- ---- together
  joined_types : (x : Entry) → Contains (asked g) x → (n : ℕ) × Contains (finite.keys g.nodes) n × IsIn (kind_type x.kind) (node_types g n)
  unfolding asked_at imported_at
  joined_types x h = elim (in_either (flat_map asked_at (finite.keys g.nodes)) (flat_map imported_at (finite.keys g.nodes)) x h) [
    | inl w ↦ let (n, there, among) = flat_in asked_at (finite.keys g.nodes) x w in (n, there, asked_type n x among)
    | inr w ↦ let (n, there, among) = flat_in imported_at (finite.keys g.nodes) x w in (n, there, imported_type n x among)
  ]

  plain_type : (x e : Entry) → Contains (with_used g.types x) e → is_scope (kind_type e.kind) ≡ false → e ≡ x
  plain_type x e h plainly = elim (in_either (uses_of_entry g.types wf x) (x ∷ []) e (subst (λ l. Contains l e) (with_used_is g.types wf x) h)) [
    | inl w ↦
        let (i, is, leads) = entry_used g.types wf x e w in
        let scope : is_scope (kind_type e.kind) ≡ true = ap (λ k. is_scope (kind_type k)) leads.2.is in
        let no : true ≡ false = sym scope ∙ plainly in
        cc
    | inr w ↦ in_one x e w
  ]

  among : (t : AnyType) → IsIn t (types_of (outer_entries g)) → is_scope t ≡ false → (us : List AnyType) × Contains (map (node_types g) (finite.keys g.nodes)) us × IsIn t us
  among t h plainly =
      let (m, there, same) = map_in (λ (e : merge.Entry). kind_type e.kind) (outer_entries g) t (to_contains t (types_of (outer_entries g)) h) in
      let (e, inside, is) = map_in (λ (e : Entry). entry_of e) (once (flat_map (with_used g.types) (asked g))) m there in
      let (x, asked_there, used) = flat_in (with_used g.types) (asked g) e (once_in (flat_map (with_used g.types) (asked g)) e inside) in
      let typed : t ≡ kind_type e.kind = same ∙ ap (λ (z : merge.Entry). kind_type z.kind) is in
      let itself = plain_type x e used (ap is_scope (sym typed) ∙ plainly) in
      let (n, number, types) = joined_types x asked_there in
      (node_types g n, in_map (node_types g) (finite.keys g.nodes) n number, subst (λ z. IsIn z (node_types g n)) (sym (typed ∙ ap (λ (z : Entry). kind_type z.kind) itself)) types)
    where
      entry_of : Entry → merge.Entry
      entry_of e = record { name = e.name; kind = e.kind }

  parts_sum : (es : List Entry) → sum_by name_weight (to_merge es) + sum_by (entry_weight g.types) (types_of (to_merge es)) + sum_by (bare_weight g.types) (types_of (to_merge es)) ≡ sum_by (part g.types) es
  unfolding part type_part
  parts_sum es =
      let names = sum_mapped name_weight entry_of es in
      let entries = sum_mapped (entry_weight g.types) (λ (e : merge.Entry). kind_type e.kind) (map entry_of es) in
      let entries_too = sum_mapped (λ (e : merge.Entry). entry_weight g.types (kind_type e.kind)) entry_of es in
      let bares = sum_mapped (bare_weight g.types) (λ (e : merge.Entry). kind_type e.kind) (map entry_of es) in
      let bares_too = sum_mapped (λ (e : merge.Entry). bare_weight g.types (kind_type e.kind)) entry_of es in
      let two = sum_both (λ (e : Entry). entry_weight g.types (kind_type e.kind)) (λ e. bare_weight g.types (kind_type e.kind)) es in
      let three = sum_both (λ (e : Entry). name_weight (entry_of e)) (λ e. entry_weight g.types (kind_type e.kind) + bare_weight g.types (kind_type e.kind)) es in
      omega (arith, names, entries, entries_too, bares, bares_too, two, three)
    where
      entry_of : Entry → merge.Entry
      entry_of e = record { name = e.name; kind = e.kind }

  once_sum : sum_once (flat_map (with_used g.types) (asked g))
      ≤ sum_by (λ n. sum_once (flat_map (with_used g.types) (asked_at n))) (finite.keys g.nodes) + sum_by (λ n. sum_once (flat_map (with_used g.types) (imported_at n))) (finite.keys g.nodes)
  unfolding sum_once asked_at imported_at
  once_sum =
      let split : flat_map (with_used g.types) (asked g) ≡ flat_map (λ n. flat_map (with_used g.types) (asked_at n)) (finite.keys g.nodes) ++ flat_map (λ n. flat_map (with_used g.types) (imported_at n)) (finite.keys g.nodes) =
      flat_map-append (with_used g.types) (flat_map asked_at (finite.keys g.nodes)) (flat_map imported_at (finite.keys g.nodes))
      ∙ ap (λ l. l ++ flat_map (with_used g.types) (flat_map imported_at (finite.keys g.nodes))) (flat_flat (with_used g.types) asked_at (finite.keys g.nodes))
      ∙ ap (λ l. flat_map (λ n. flat_map (with_used g.types) (asked_at n)) (finite.keys g.nodes) ++ l) (flat_flat (with_used g.types) imported_at (finite.keys g.nodes)) in
      let whole = ap (λ l. sum_by (part g.types) (once l)) split in
      let both = once_both (part g.types) (flat_map (λ n. flat_map (with_used g.types) (asked_at n)) (finite.keys g.nodes)) (flat_map (λ n. flat_map (with_used g.types) (imported_at n)) (finite.keys g.nodes)) in
      let first = once_flat (part g.types) (λ n. flat_map (with_used g.types) (asked_at n)) (finite.keys g.nodes) in
      let second = once_flat (part g.types) (λ n. flat_map (with_used g.types) (imported_at n)) (finite.keys g.nodes) in
      omega (arith, whole, both, first, second)

  all_paid : entries_weight g.types (outer_entries g) ≤ sum_by (node_asks g) (finite.keys g.nodes)
  unfolding sum_once
  all_paid =
      let parts = parts_sum (once (flat_map (with_used g.types) (asked g))) in
      let once_less = once_sum in
      let near = near-together g.types (map (node_types g) (finite.keys g.nodes)) (types_of (outer_entries g)) wf among in
      let mapped = sum_mapped (λ us. own_texts g.types (near_all g.types us)) (node_types g) (finite.keys g.nodes) in
      let each = sum_in (λ n. sum_once (flat_map (with_used g.types) (asked_at n)) + sum_once (flat_map (with_used g.types) (imported_at n)) + own_texts g.types (near_all g.types (node_types g n))) (node_asks g) (finite.keys g.nodes) (λ n h. node_paid n) in
      let two = sum_both (λ n. sum_once (flat_map (with_used g.types) (asked_at n))) (λ n. sum_once (flat_map (with_used g.types) (imported_at n))) (finite.keys g.nodes) in
      let three = sum_both (λ n. sum_once (flat_map (with_used g.types) (asked_at n)) + sum_once (flat_map (with_used g.types) (imported_at n))) (λ n. own_texts g.types (near_all g.types (node_types g n))) (finite.keys g.nodes) in
      omega (arith, parts, once_less, near, mapped, each, two, three)

pub asked-is-paid : AskedIsPaid
asked-is-paid g wf sound = all_paid g wf sound
