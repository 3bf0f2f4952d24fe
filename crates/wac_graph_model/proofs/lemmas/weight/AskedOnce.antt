-- Imports without repetition, and the interfaces that they use.
use Rattle.std.proofs.Common.{ℕ, zero, suc, ◌+◌, ◌≤◌, Bool, true, false, not, if◌then◌else◌, List, [], ◌∷◌, ◌++◌, map, filter, flat_map, Contains, Option, Some, None, ◌≡◌, inl, inr, refl, ap, sym, ◌∙◌, subst, arith, eq-eqb}
use Rattle.std.specs.List.{sum_by}
use Rattle.std.proofs.lemmas.Grind.{flat_map-append}
use Rattle.std.proofs.lemmas.List.Sums.{sum_by-cons}
use Rattle.wac_types_shapes.specs.primitives.Name.{Name, same_name, option_case}
use Rattle.wac_types_shapes.proofs.lemmas.shapes.Names.{same_name-refl}
use Rattle.wac_types_shapes.specs.declared.shapes.component.Interface.{Interface}
use Rattle.wac_types_shapes.specs.declared.shapes.component.InterfaceId.{InterfaceId}
use Rattle.wac_types_shapes.specs.declared.shapes.component.ItemKind.{ItemKind}
use Rattle.wac_types_shapes.specs.declared.shapes.component.ItemKind.TheVariants as kind
use Rattle.wac_types_collection.specs.collection.Collection.{Collection, IsWellFormed, item_at}
use Rattle.wac_types_collection.specs.wide.Wide.{wide_uses}
use Rattle.wac_types_collection.proofs.lemmas.wide.Members.{in_none, in_first, in_rest, in_parts, in_one, in_either, map_in, flat_in}
use Rattle.wac_types_collection.proofs.lemmas.wide.Wide.{wide_law}
use Rattle.wac_types_weight.specs.private.Laws.{LeadsTo, at_once, further}
use Rattle.wac_types_weight.proofs.Sums.{sum_in, sum_filter, filter_in, Differ, differ_more}
use Rattle.wac_graph_model.specs.nodes.Asked.{Entry}
use Rattle.wac_graph_model.specs.nodes.Entries.{under_id, used_to, same_instance, asks_again, once}

-- ---- imports without repetition
-- what those that e does not ask for again come to
left_of : (Entry → ℕ) → Entry → Entry → ℕ
left_of f e x = if not (asks_again e x) then f x else 0

left_less : (f : Entry → ℕ) (e x : Entry) → left_of f e x ≤ f x
unfolding left_of
left_less f e x = by (not (asks_again e x))
  where
    by : (b : Bool) → (if b then f x else 0) ≤ f x
    by true = omega arith
    by false = omega arith

once_first : (f : Entry → ℕ) (e : Entry) (es : List Entry) → sum_by f (once (e ∷ es)) ≡ f e + sum_by (left_of f e) (once es)
unfolding left_of
once_first f e es =
    let kept = sum_filter (λ x. not (asks_again e x)) f (once es) in
    omega (arith, kept, sum_by-cons f e (filter (λ x. not (asks_again e x)) (once es)))

pub once_insert : (f : Entry → ℕ) (before : List Entry) (e : Entry) (rest : List Entry) → sum_by f (once (before ++ e ∷ rest)) ≤ f e + sum_by f (once (before ++ rest))
once_insert f [] e rest =
    let first = once_first f e rest in
    let less = sum_in (left_of f e) f (once rest) (λ x h. left_less f e x) in
    omega (arith, first, less)
once_insert f (a ∷ before) e rest =
    let deeper = once_insert (left_of f a) before e rest in
    let less = left_less f a e in
    let long = once_first f a (before ++ e ∷ rest) in
    let short = once_first f a (before ++ rest) in
    omega (arith, deeper, less, long, short)

pub once_both : (f : Entry → ℕ) (xs ys : List Entry) → sum_by f (once (xs ++ ys)) ≤ sum_by f (once xs) + sum_by f (once ys)
once_both f [] ys = omega arith
once_both f (x ∷ xs) ys =
    let deeper = once_both (left_of f x) xs ys in
    let less = sum_in (left_of f x) f (once ys) (λ y h. left_less f x y) in
    let long = once_first f x (xs ++ ys) in
    let short = once_first f x xs in
    omega (arith, deeper, less, long, short)

pub once_flat : (f : Entry → ℕ) (h : ℕ → List Entry) (ns : List ℕ) → sum_by f (once (flat_map h ns)) ≤ sum_by (λ n. sum_by f (once (h n))) ns
once_flat f h [] = omega arith
once_flat f h (n ∷ ns) =
    let deeper = once_flat f h ns in
    let both = once_both f (h n) (flat_map h ns) in
    omega (arith, deeper, both, sum_by-cons (λ m. sum_by f (once (h m))) n ns)

pub flat_flat : (h : Entry → List Entry) (k : ℕ → List Entry) (ns : List ℕ) → flat_map h (flat_map k ns) ≡ flat_map (λ n. flat_map h (k n)) ns
flat_flat h k [] = refl
flat_flat h k (n ∷ ns) = flat_map-append h (k n) (flat_map k ns) ∙ ap (λ l. flat_map h (k n) ++ l) (flat_flat h k ns)

-- No import asks again for an earlier one.
unfoldable pub AskOnce : List Entry → Type 0
AskOnce [] = Unit {0}
AskOnce (e ∷ es) = ((x : Entry) → Contains es x → asks_again e x ≡ false) × AskOnce es

not_true : (b : Bool) → not b ≡ true → b ≡ false
not_true true is = let no : false ≡ true = is in cc
not_true false is = refl

kept_ask : (p : Entry → Bool) (es : List Entry) → AskOnce es → AskOnce (filter p es)
unfolding AskOnce
kept_ask p [] all = tt
kept_ask p (e ∷ es) all = by (p e) (kept_ask p es all.1)
  where
    by : (b : Bool) → AskOnce (filter p es) → AskOnce (if b then e ∷ filter p es else filter p es)
    by true rest = (λ x h. all.0 x (filter_in p es x h).0, rest)
    by false rest = rest

pub once_asks : (es : List Entry) → AskOnce (once es)
unfolding AskOnce
once_asks [] = tt
once_asks (e ∷ es) = (λ x h. not_true (asks_again e x) (filter_in (λ y. not (asks_again e y)) (once es) x h).1, kept_ask (λ y. not (asks_again e y)) (once es) (once_asks es))

pub once_in : (es : List Entry) (x : Entry) → Contains (once es) x → Contains es x
once_in [] x h = h
once_in (e ∷ es) x h = elim (in_parts e x (filter (λ y. not (asks_again e y)) (once es)) h) [
  | inl s ↦ subst (λ z. Contains (z ∷ es) x) s (in_first x es)
  | inr w ↦ in_rest e x es (once_in es x (filter_in (λ y. not (asks_again e y)) (once es) x w).0)
]

-- ---- used interfaces
-- The import is the interface under its id.
pub record IsUsed (c : Collection) (x : Entry) (j : InterfaceId) : Type 0 where
  pub it : Interface
  pub there : item_at c.interfaces j.0 ≡ Some it
  pub id : it.id ≡ Some x.name
  pub is : x.kind ≡ kind.Instance j

unfoldable pub by_node : Entry → Name × ItemKind → Entry
by_node e u = record { name = u.0; kind = u.1; node = e.node }

pub under_used : (c : Collection) (e : Entry) (j : InterfaceId) (u : Name × ItemKind) → Contains (under_id c j) u → IsUsed c (by_node e u) j
unfolding by_node
under_used c e j u h = by (item_at c.interfaces j.0) refl h
  where
    named : (it : Interface) → item_at c.interfaces j.0 ≡ Some it → (o : Option Name) → it.id ≡ o → Contains (option_case o [] (λ id. (id, kind.Instance j) ∷ [])) u → IsUsed c (by_node e u) j
    named it at None is h = absurd (in_none u h)
    named it at (Some id) is h =
        let same = in_one (id, kind.Instance j) u h in
        record { it = it; there = at; id = is ∙ ap (λ (z : Name × ItemKind). Some z.0) (sym same); is = ap (λ (z : Name × ItemKind). z.1) same }

    by : (o : Option Interface) → item_at c.interfaces j.0 ≡ o → Contains (option_case o [] (λ it. option_case it.id [] (λ id. (id, kind.Instance j) ∷ []))) u → IsUsed c (by_node e u) j
    by None at h = absurd (in_none u h)
    by (Some it) at h = named it at it.id refl h

pub used_to_leads : (c : Collection) → IsWellFormed c → (n : ℕ) (i : InterfaceId) (u : Name × ItemKind) → Contains (used_to n c i) u → (j : InterfaceId) × LeadsTo c i j × Contains (under_id c j) u
used_to_leads c wf zero i u h = absurd (in_none u h)
used_to_leads c wf (suc n) i u h =
    let (j, among, w) = flat_in (λ k. used_to n c k ++ under_id c k) (wide_uses c i) u h in
    let wide = (wide_law c wf i j).1 among in
    elim (in_either (used_to n c j) (under_id c j) u w) [
      | inl deeper ↦ let (k, leads, there) = used_to_leads c wf n j u deeper in (k, further i j k wide leads, there)
      | inr there ↦ (j, at_once i j wide, there)
    ]

-- the interface of an instance; of another item the first
unfoldable pub id_of : ItemKind → InterfaceId
id_of (kind.Instance i) = i
id_of k = record { 0 = 0 }

unfoldable pub ids_of : List Entry → List InterfaceId
ids_of es = map (λ (x : Entry). id_of x.kind) es

same_id : (x y : Name) → x ≡ y → same_name x y ≡ true
same_id x y e = subst (λ z. same_name x z ≡ true) e (same_name-refl x)

some_same : {A : Type 0} (x y : A) → Some x ≡ Some y → x ≡ y
some_same x y e = cc

no_ids : Differ {A = InterfaceId} []
unfolding Differ
no_ids i j x at also = let no : None ≡ Some x = at in cc

module _ (c : Collection) where
  -- two that are used for one interface ask for one
  used_again : (x y : Entry) (i j : InterfaceId) → IsUsed c x i → IsUsed c y j → id_of x.kind ≡ id_of y.kind → asks_again x y ≡ true
  unfolding id_of
  used_again x y i j a b same =
      let ids : i ≡ j = ap id_of (sym a.is) ∙ same ∙ ap id_of b.is in
      let its : a.it ≡ b.it = some_same a.it b.it (sym a.there ∙ ap (λ (k : InterfaceId). item_at c.interfaces k.0) ids ∙ b.there) in
      let names : x.name ≡ y.name = some_same x.name y.name (sym a.id ∙ ap (λ (it : Interface). it.id) its ∙ b.id) in
      let instances : same_instance x.kind y.kind ≡ true = subst (λ k. same_instance x.kind k ≡ true) (sym b.is) (subst (λ k. same_instance k (kind.Instance j) ≡ true) (sym a.is) (eq-eqb i.0 j.0 (ap (λ (k : InterfaceId). k.0) ids))) in
      rw (same_id x.name y.name names) instances

  pub ids_differ : (es : List Entry) → ((x : Entry) → Contains es x → (j : InterfaceId) × IsUsed c x j) → AskOnce es → Differ (ids_of es)
  unfolding ids_of AskOnce
  ids_differ [] all ask = no_ids
  ids_differ (e ∷ es) all ask = differ_more (id_of e.kind) (map (λ (x : Entry). id_of x.kind) es) new (ids_differ es (λ x h. all x (in_rest e x es h)) ask.1)
    where
      new : Contains (map (λ (x : Entry). id_of x.kind) es) (id_of e.kind) → ⊥
      new h =
          let (x, there, same) = map_in (λ (x : Entry). id_of x.kind) es (id_of e.kind) h in
          let (i, a) = all e (in_first e es) in
          let (j, b) = all x (in_rest e x es there) in
          let yes = used_again e x i j a b same in
          let no : true ≡ false = sym yes ∙ ask.0 x there in
          cc
