-- Types that are joined are the same, where the answers to the questions are yes.
use Rattle.std.proofs.Common.{ℕ, zero, suc, Bool, true, false, List, [], ◌∷◌, ◌++◌, ◌≡◌, ◌<◌, ◌⊎◌, inl, inr, length, refl, ap, sym, ◌∙◌, subst, option_map, Option, Some, None, arith, slice_get}
use Rattle.std.proofs.lemmas.List.{append-nil, length-map, map-append}
use Rattle.std.proofs.lemmas.List.Elements.{Contains-push}
use Rattle.std.proofs.lemmas.Map.Made.{lookup_key_passes}
use Rattle.std.proofs.lemmas.Option.{same_Some}
use Rattle.std.specs.Map.{lookup_key}
use Rattle.std.specs.List.{AllByRecursion, Contains}
use Rattle.indexmap.specs.IndexMap.{set_value_at}
use Rattle.wac_types_shapes.specs.primitives.Name.{Name}
use Rattle.wac_types_shapes.specs.declared.shapes.component.«Type».{«Type» as AnyType}
use Rattle.wac_types_shapes.specs.declared.shapes.component.«Type».TheVariants as ty
use Rattle.wac_types.specs.declared.comparison.classes.Node.{Node}
use Rattle.wac_types.specs.declared.comparison.classes.Link.{Link}
use Rattle.wac_types.specs.declared.comparison.questions.Question.{Question}
use Rattle.wac_types.specs.declared.comparison.questions.Asked.{Asked}
use Rattle.wac_types_collection.specs.collection.Collection.{Collection}
use Rattle.wac_types_collection.proofs.lemmas.collection.Growth.{get_grown, get_where, get_new}
use Rattle.wac_types_shapes.specs.primitives.Tree.{TypeTree}
use Rattle.wac_types_collection.specs.subtyping.Subtype.{Sub, IsPlain, type_tree}
use Rattle.wac_types.specs.private.comparison.Weights.{weight, type_weight}
use Rattle.wac_types.specs.private.comparison.Questions.{in_order, first_of_pair, second_of_pair, IsPlainType, IsAskable, IsAskableQuestion, IsYes, IsYesBelow, AreBelow}
use Rattle.wac_types.specs.private.comparison.Classes.{nodes, AreSame, AreLinked, LeadsTo, HasLink, AddsNode, PutsBelow, Joins}
use Rattle.wac_types.specs.private.comparison.Settling.{Settles, Asks, HasEnd, first_node, second_node, PutsPlain}
use Rattle.wac_types.proofs.lemmas.comparison.Asking.{all_at, all_only, asked_more, swapped, ordered, linked_more, settles_iff}
use Rattle.wac_types_collection.proofs.lemmas.subtyping.Relation.{plain_sub, plain_same}
use Rattle.wac_types.proofs.lemmas.comparison.Values.{value_plain, sub_to}
use Rattle.wac_types.proofs.lemmas.comparison.Agreeing.{get_map}
use Rattle.wac_types.proofs.lemmas.comparison.Subtyping.{func_plain}
use Rattle.wac_types.proofs.lemmas.comparison.Typing.{resource_plain}

plain_weight : (c : Collection) (a : AnyType) → IsPlainType a → type_weight c a ≡ weight (type_tree c a)
plain_weight c (ty.Interface i) h = absurd h
plain_weight c (ty.World w) h = absurd h
plain_weight c (ty.Module m) h = absurd h
plain_weight c _ h = refl

plain_tree : (c : Collection) (a : AnyType) → IsPlainType a → IsPlain (type_tree c a)
plain_tree c (ty.Resource r) h = resource_plain c r
plain_tree c (ty.Func f) h = func_plain c f
plain_tree c (ty.Value v) h = value_plain c v
plain_tree c _ h = absurd h

-- being the same is an equivalence
module _ (p : Collection × Collection) (qs : List Question) where
  same_itself : (u : Node) → AreSame p qs u u
  same_itself u n h b = refl

  same_back : (u v : Node) → AreSame p qs u v → AreSame p qs v u
  same_back u v s n h b = sym (s n h (swapped b))

  same_then : (u v w : Node) → AreSame p qs u v → AreSame p qs v w → AreSame p qs u w
  same_then u v w s r n h (inl b) =
      let e = s n h (inl b) in
      let P : TypeTree Name → Type 0 = λ t. weight t < n in
      e ∙ r n h (inl (subst P e b))
  same_then u v w s r n h (inr b) =
      let e = r n h (inr b) in
      let P : TypeTree Name → Type 0 = λ t. weight t < n in
      s n h (inr (subst P (sym e) b)) ∙ e

-- two types of which it is asked whether they are the same
yes_same : (p : Collection × Collection) (qs : List Question) (q : Question) → IsPlainType q.first → IsPlainType q.second → Contains qs q → AreSame p qs (first_node q) (second_node q)
yes_same p qs q ha hb there n h below =
    plain_sub _ _ (plain_tree (first_of_pair q.turned p) q.first ha) (all_at (IsYesBelow p n) qs q h there (rw (plain_weight (first_of_pair q.turned p) q.first ha, plain_weight (second_of_pair q.turned p) q.second hb) below))

-- a question that follows from what was asked before
pub plain_follows : (o k : Asked) (q : Question) → k.questions.items ≡ o.questions.items → k.others ≡ o.others → Joins o.classes.links.entries k.classes.links.entries (first_node q) (second_node q) false → PutsPlain o k q
plain_follows o k q same others j =
    record {
      added = [];
      grown = same ∙ sym (append-nil o.questions.items);
      only = tt;
      joined = λ p ha hb l.
          let Q : List Question → Type 0 = λ x. AreLinked p x k.classes.links.entries in
          (subst Q (sym same) (j.kept p o.questions.items l.0 (λ e. absurd (cc e))), rw (same, others) l.1);
      same = λ p ha hb l.
          let Q : List Question → Type 0 = λ x. AreSame p x (first_node q) (second_node q) in
          subst Q (sym same) (j.found p o.questions.items l.0 refl);
    }

-- a question that was put
pub plain_put : (o k m : Asked) (q : Question) → Joins o.classes.links.entries m.classes.links.entries (first_node q) (second_node q) true → k.classes ≡ m.classes → k.others ≡ o.others → k.questions.items ≡ o.questions.items ++ q ∷ [] → PutsPlain o k q
plain_put o k m q j same others grown = record {
  added = q ∷ [];
  grown = grown;
  only = (refl, tt);
  joined = λ p ha hb l.
      let P : List Question → Type 0 = λ x. AreLinked p x o.classes.links.entries in
      let Q : _ → Type 0 = λ x. AreLinked p k.questions.items x.links.entries in
      let R : List Question → Type 0 = λ x. AllByRecursion (Contains x) o.others.keys in
      let S : _ → Type 0 = λ x. AllByRecursion (Contains k.questions.items) x.keys in (
        subst Q (sym same) (j.kept p k.questions.items (subst P (sym grown) (linked_more p o.questions.items (q ∷ []) o.classes.links.entries l.0)) (λ _. yes_same p k.questions.items q ha hb there)),
        subst S (sym others) (subst R (sym grown) (asked_more o.questions.items (q ∷ []) o.others.keys l.1)),
      );
  same = λ p ha hb l. yes_same p k.questions.items q ha hb there;
}
  where
    there : Contains k.questions.items q
    there = let C : List Question → Type 0 = λ x. Contains x q in subst C (sym grown) (Contains-push o.questions.items q)

-- and what it settles
settles_plain : (p : Collection × Collection) (n : ℕ) (o k : Asked) (q : Question) → IsPlainType q.first → IsPlainType q.second → PutsPlain o k q → IsAskableQuestion p q
    → (type_weight (first_of_pair q.turned p) q.first < n) ⊎ (type_weight (second_of_pair q.turned p) q.second < n) → Settles p n o k (IsYes p q)
settles_plain p n o k q ha hb s held below = record {
  added = s.added;
  grown = s.grown;
  asked = all_only (IsAskableQuestion p) q s.added s.only held;
  joined = s.joined p ha hb;
  complete = λ y. all_only (IsYes p) q s.added s.only y;
  sound = λ j h.
      plain_same _ _ (plain_tree (first_of_pair q.turned p) q.first ha) (s.same p ha hb j n h (rw (plain_weight (first_of_pair q.turned p) q.first ha, plain_weight (second_of_pair q.turned p) q.second hb) at below));
}

pub asks_plain : (t : Bool) (x y : Collection) (a b : AnyType) (o k : Asked) → IsPlainType a → IsPlainType b → PutsPlain o k (ordered t a b)
    → (n : ℕ) → IsAskable x a → IsAskable y b → (type_weight x a < n) ⊎ (type_weight y b < n) → Settles (in_order t x y) n o k (Sub (type_tree x a) (type_tree y b))
asks_plain false x y a b o k pa pb s n ha hb below = settles_plain (x, y) n o k _ pa pb s (ha, hb) below
asks_plain true x y a b o k pa pb s n ha hb below = settles_plain (y, x) n o k _ pa pb s (ha, hb) below

-- what is asked of the ends of aliases is asked of them
module _ (x y : Collection) (a b e f : AnyType) (oe : HasEnd x a e) (of : HasEnd y b f) where
  lighter : (n : ℕ) → AreBelow x n (a ∷ []) ⊎ AreBelow y n (b ∷ []) → (type_weight x e < n) ⊎ (type_weight y f < n)
  lighter n (inl h) = let s = oe.weight in let l = h.0 in inl (omega (arith, s, l))
  lighter n (inr h) = let s = of.weight in let l = h.0 in inr (omega (arith, s, l))

  pub asks_ends : (t : Bool) (o k : Asked) → ((n : ℕ) → IsAskable x e → IsAskable y f → (type_weight x e < n) ⊎ (type_weight y f < n) → Settles (in_order t x y) n o k (Sub (type_tree x e) (type_tree y f)))
      → Asks t x y (a ∷ []) (b ∷ []) o k (Sub (type_tree x a) (type_tree y b))
  asks_ends t o k settled = record {
    settles = λ n below. settles_iff _ n o k (sub_to _ _ _ _ oe.is of.is) (sub_to _ _ _ _ (sym oe.is) (sym of.is)) (settled n (oe.held, oe.end) (of.held, of.end) (lighter n below));
  }

-- positions in lists of nodes
nodes_set : (es : List (Node × Link)) (i : ℕ) (l : Link) → nodes (set_value_at es i l) ≡ nodes es
nodes_set [] i l = refl
nodes_set (e ∷ es) zero l = refl
nodes_set (e ∷ es) (suc i) l = ap (λ r. e.0 ∷ r) (nodes_set es i l)

node_at : (es : List (Node × Link)) (i : ℕ) (u : Node) (l : Link) → slice_get es i ≡ Some (u, l) → slice_get (nodes es) i ≡ Some u
node_at es i u l at = get_map (λ e. e.0) es i (u, l) at

set_there : (es : List (Node × Link)) (i : ℕ) (l : Link) (j : ℕ) (u : Node) (k : Link) → slice_get (set_value_at es i l) j ≡ Some (u, k) → ((j ≡ i) × (k ≡ l)) ⊎ (slice_get es j ≡ Some (u, k))
set_there [] i l j u k e = cc
set_there (x ∷ es) zero l zero u k e = let s : l ≡ k = ap (λ y. y.1) (same_Some (x.0, l) (u, k) e) in inl (refl, sym s)
set_there (x ∷ es) zero l (suc j) u k e = inr e
set_there (x ∷ es) (suc i) l zero u k e = inr e
set_there (x ∷ es) (suc i) l (suc j) u k e = elim (set_there es i l j u k e) [ inl h ↦ inl (ap suc h.0, h.1) | inr h ↦ inr h ]

-- a node in a class of its own
abbrev alone : List (Node × Link) → Node → Node × Link
alone es u = (u, record { above = length es; size = 1 })

nodes_pushed : (es : List (Node × Link)) (u : Node) (i : ℕ) → slice_get (nodes (es ++ alone es u ∷ [])) i ≡ slice_get (nodes es ++ u ∷ []) i
nodes_pushed es u i = ap (λ ns. slice_get ns i) (map-append (λ e. e.0) es (alone es u ∷ []))

last_pushed : (es : List (Node × Link)) (u : Node) (i : ℕ) → i ≡ length es → slice_get (nodes (es ++ alone es u ∷ [])) i ≡ Some u
last_pushed es u i is = nodes_pushed es u i ∙ ap (slice_get (nodes es ++ u ∷ [])) (is ∙ sym (length-map es (λ e. e.0))) ∙ get_new (nodes es) u

-- the node above one that was added is itself
pushed : (p : Collection × Collection) (qs : List Question) (old : List (Node × Link)) (u : Node) → AreLinked p qs old → AreLinked p qs (old ++ alone old u ∷ [])
pushed p qs old u h j v l at = elim (get_where old _ j _ at) [
  | inl before ↦ let k = h j v l before in (k.0, nodes_pushed old u l.above ∙ get_grown (nodes old) u l.above k.0 k.1, k.2)
  | inr last ↦
      let is : u ≡ v = ap (λ e. e.0) last.1 in
      let above : length old ≡ l.above = ap (λ e. e.1.above) last.1 in
      (u, last_pushed old u l.above (sym above), subst (λ w. AreSame p qs w u) is (same_itself p qs u))
]

module _ (old new : List (Node × Link)) (u : Node) (i : ℕ) (s : AddsNode old new u i) where
  adds_linked : (p : Collection × Collection) (qs : List Question) → AreLinked p qs old → AreLinked p qs new
  adds_linked p qs h = elim s.grown [ inl e ↦ subst (AreLinked p qs) (sym e) h | inr e ↦ subst (AreLinked p qs) (sym e) (pushed p qs old u h) ]

  adds_keeps : (j : ℕ) (v : Node) → slice_get (nodes old) j ≡ Some v → slice_get (nodes new) j ≡ Some v
  adds_keeps j v at = elim s.grown [
    | inl e ↦ ap (λ es. slice_get (nodes es) j) e ∙ at
    | inr e ↦ ap (λ es. slice_get (nodes es) j) e ∙ nodes_pushed old u j ∙ get_grown (nodes old) u j v at
  ]

-- the link at a position is that of a node
has_link : (o : Option (Node × Link)) (l : Link) → option_map (λ e. e.1) o ≡ Some l → (u : Node) × (o ≡ Some (u, l))
has_link None l e = cc
has_link (Some x) l e = let s : x.1 ≡ l = same_Some x.1 l e in (x.0, (λ i. Some (x.0, s i)))

-- a node that was found by its key
pub node_found : (eq : Node → Node → Bool) → ((a b : Node) → eq a b ≡ true → a ≡ b) → (es : List (Node × Link)) (u k : Node) (l : Link) (i : ℕ) → lookup_key (eq u) es ≡ Some k → slice_get es i ≡ Some (k, l) → AddsNode es es u i
node_found eq tells es u k l i found at = record { grown = inl refl; there = node_at es i k l at ∙ ap Some (sym (tells u k (lookup_key_passes (eq u) es k found))) }

pub node_new : (es fs : List (Node × Link)) (u : Node) (i : ℕ) → i ≡ length es → fs ≡ es ++ (u, record { above = i; size = 1 }) ∷ [] → AddsNode es fs u i
node_new es fs u i is new =
    let all : fs ≡ es ++ alone es u ∷ [] = new ∙ ap (λ n. es ++ (u, record { above = n; size = 1 }) ∷ []) is in
    record { grown = inr all; there = ap (λ x. slice_get (nodes x) i) all ∙ last_pushed es u i is }

pub leads_above : (es : List (Node × Link)) (i j : ℕ) (l : Link) → LeadsTo es i j → HasLink es j l → LeadsTo es i l.above
leads_above es i j l s has p qs h u at =
    let k = has_link (slice_get es j) l has in
    let v = s p qs h u at in
    let is : v.0 ≡ k.0 = same_Some v.0 k.0 (sym v.1 ∙ node_at es j k.0 l k.1) in
    let w = h j k.0 l k.1 in
    (w.0, w.1, same_then p qs u k.0 w.0 (subst (AreSame p qs u) is v.2) w.2)

-- a node below another that is the same, or itself
set_linked : (p : Collection × Collection) (qs : List Question) (es : List (Node × Link)) (i k m : ℕ) (u v : Node) → slice_get (nodes es) i ≡ Some u → slice_get (nodes es) k ≡ Some v → AreSame p qs u v
    → AreLinked p qs es → AreLinked p qs (set_value_at es i (record { above = k; size = m }))
set_linked p qs es i k m u v a b s h j w l at =
    let ns = nodes_set es i (record { above = k; size = m }) in
    elim (set_there es i _ j w l at) [
      | inl own ↦
          let is : u ≡ w = same_Some u w (sym a ∙ ap (slice_get (nodes es)) (sym own.0) ∙ ap (λ x. slice_get x j) (sym ns) ∙ node_at _ j w l at) in
          (v, ap (λ x. slice_get x l.above) ns ∙ ap (λ x. slice_get (nodes es) x.above) own.1 ∙ b, subst (λ x. AreSame p qs x v) is s)
      | inr before ↦ let r = h j w l before in (r.0, ap (λ x. slice_get x l.above) ns ∙ r.1, r.2)
    ]

pub puts_below : (es fs gs : List (Node × Link)) (low high : ℕ) (m k : ℕ) → fs ≡ set_value_at es low (record { above = high; size = m }) → gs ≡ set_value_at fs high (record { above = high; size = k }) → PutsBelow es gs low high
puts_below es fs gs low high m k e f p qs u v a b s h =
    let one : AreLinked p qs fs = subst (AreLinked p qs) (sym e) (set_linked p qs es low high m u v a b s h) in
    let at : slice_get (nodes fs) high ≡ Some v = ap (λ x. slice_get (nodes x) high) e ∙ ap (λ x. slice_get x high) (nodes_set es low _) ∙ b in
    subst (AreLinked p qs) (sym f) (set_linked p qs fs high high k v v at at (same_itself p qs v) one)

-- joining two nodes of which each leads to another
module _ (old mid new : List (Node × Link)) (u v : Node) (i j m n : ℕ) (a : AddsNode old mid u i) (b : AddsNode mid new v j) (c : LeadsTo new i m) (d : LeadsTo new j n) where
  linked : (p : Collection × Collection) (qs : List Question) → AreLinked p qs old → AreLinked p qs new
  linked p qs h = adds_linked mid new v j b p qs (adds_linked old mid u i a p qs h)

  pub one_class : m ≡ n → Joins old new u v false
  one_class is = record {
    found = λ p qs h _.
        let l = linked p qs h in
        let x = c p qs l u (adds_keeps mid new v j b i u a.there) in
        let y = d p qs l v b.there in
        let one : x.0 ≡ y.0 = same_Some x.0 y.0 (sym x.1 ∙ ap (slice_get (nodes new)) is ∙ y.1) in
        same_then p qs u y.0 v (subst (AreSame p qs u) one x.2) (same_back p qs v y.0 y.2);
    kept = λ p qs h _. linked p qs h;
  }

  pub two_classes : (last : List (Node × Link)) → PutsBelow new last m n ⊎ PutsBelow new last n m → Joins old last u v true
  two_classes last put = record {
    found = λ p qs h e. absurd (cc e);
    kept = λ p qs h s.
        let l = linked p qs h in
        let x = c p qs l u (adds_keeps mid new v j b i u a.there) in
        let y = d p qs l v b.there in
        let same = same_then p qs x.0 u y.0 (same_back p qs u x.0 x.2) (same_then p qs u v y.0 (s refl) y.2) in
        elim put [
          | inl below ↦ below p qs x.0 y.0 x.1 y.1 same l
          | inr below ↦ below p qs y.0 x.0 y.1 x.1 (same_back p qs x.0 y.0 same) l
        ];
  }
