use Rattle.std.proofs.Common.{◌≡◌, ℕ, zero, suc, ◌+◌, ◌<◌, Bool, true, false, cond, List, [], ◌∷◌, map, refl, ap, ◌∙◌, sym, arith, Option, Some, None, get_or, eqb, is_some, IsTrue, IsSome, ◌&&◌, String, Global, string_bytes, ◌++◌, ◌⊎◌, inl, inr}
use Rattle.wac_edges.specs.declared.node.NodeId.{NodeId}
use Rattle.std.specs.Borrow.{Bor}
use Rattle.std.specs.Map.{lookup}
use Rattle.std.specs.Str.{bytes_eq}
use Rattle.std.specs.String.{string_eq}
use Rattle.indexmap.specs.IndexMap.{insert_entry}
use Rattle.std.specs.Option.{option_map}
use Rattle.std.specs.Ordering.{nat_cmp, eq_by_cmp}
use Rattle.std.specs.Cmp.{nat_cmp_total}
use Rattle.std.proofs.lemmas.Bool.{eqb-true}
use Rattle.std.proofs.lemmas.Bool.Decides.{nat_tests}
use Rattle.std.specs.FinMap as finite
use Rattle.std.specs.FinMap.{find, nat_cmp-IsAntisymmetric}
use Rattle.slab.specs.Slab.{Slab, entries_from, get, Updates}
use Rattle.wac_graph_model.specs.declared.nodes.node.Node.{Node}
use Rattle.wac_types_shapes.specs.primitives.Name.{Name, same_name, find_name}
use Rattle.wac_graph_model.specs.nodes.Nodes.{nodes_of, node_of}
use Rattle.wac_graph_model.proofs.lemmas.nodes.Added.{by_eq}

module _ {X Y : Type 0} (f : X → Y) where
  abbrev listed : ℕ → List (Option X) → List (ℕ × Y)
  listed j slots = map (λ e. (e.0, f e.1)) (entries_from j slots)

  -- no entry is below the first number
  none_below : (slots : List (Option X)) (j k : ℕ) → k < j → find nat_cmp k (listed j slots) ≡ None
  none_below [] j k h = refl
  none_below (None ∷ slots) j k h = none_below slots (j + 1) k (omega arith)
  none_below (Some x ∷ slots) j k h = grind (arith, nat_tests, none_below slots (j + 1) k (omega arith))

  pub find_from : (slots : List (Option X)) (j k : ℕ) → find nat_cmp (j + k) (listed j slots) ≡ option_map f (get_or slots k None)
  find_from [] j k = refl
  find_from (None ∷ slots) j zero = none_below slots (j + 1) (j + 0) (omega arith)
  find_from (None ∷ slots) j (suc k) = let e : j + suc k ≡ (j + 1) + k = omega arith in rw e (find_from slots (j + 1) k)
  find_from (Some x ∷ slots) j zero = let e : eq_by_cmp nat_cmp (j + 0) j ≡ true = grind (arith, nat_tests) in rw e refl
  find_from (Some x ∷ slots) j (suc k) =
      let e : eq_by_cmp nat_cmp (j + suc k) j ≡ false = grind (arith, nat_tests) in
      let n : j + suc k ≡ (j + 1) + k = omega arith in
      rw e (ap (λ q. find nat_cmp q (listed (j + 1) slots)) n ∙ find_from slots (j + 1) k)

-- the node of a number
pub get-nodes_of : (slots : List (Option Node)) (k : ℕ) → finite.get (nodes_of slots) k ≡ option_map node_of (get_or slots k None)
get-nodes_of slots k = finite.get-from_entries nat_cmp_total (listed node_of 0 slots) k ∙ (let e : 0 + k ≡ k = omega arith in rw e at (find_from node_of slots 0 k))

-- one node more
pub nodes_of-insert : (old new : Slab Node) (key : ℕ) (node : Node) → Updates old new key (Some node) → nodes_of new.slots ≡ finite.insert (nodes_of old.slots) key (node_of node)
nodes_of-insert old new key node u = finite.same_map nat_cmp_total nat_cmp-IsAntisymmetric _ _ (λ q.
    get-nodes_of new.slots q
    ∙ at q
    ∙ ap (λ o. cond (eq_by_cmp nat_cmp q key) (Some (node_of node)) o) (sym (get-nodes_of old.slots q))
    ∙ sym (finite.get-insert nat_cmp_total (nodes_of old.slots) key (node_of node) q)) where
      at : (q : ℕ) → option_map node_of (get new q) ≡ cond (eq_by_cmp nat_cmp q key) (Some (node_of node)) (option_map node_of (get old q))
      at q = by_eq q key
          (λ same. let e : eq_by_cmp nat_cmp q key ≡ true = grind (arith, nat_tests) in rw (e, same, u.changed) refl)
          (λ other. let e : eq_by_cmp nat_cmp q key ≡ false = grind (arith, nat_tests) in rw e (ap (option_map node_of) (u.others q other)))

-- the same nodes
pub nodes_of-same : (old new : List (Option Node)) → ((q : ℕ) → option_map node_of (get_or new q None) ≡ option_map node_of (get_or old q None)) → nodes_of new ≡ nodes_of old
nodes_of-same old new h = finite.same_map nat_cmp_total nat_cmp-IsAntisymmetric _ _ (λ q. get-nodes_of new q ∙ h q ∙ sym (get-nodes_of old q))

pub is_some-node_of : (o : Option Node) → is_some (option_map node_of o) ≡ is_some o
is_some-node_of None = refl
is_some-node_of (Some x) = refl

-- a text is read where there is one
pub text_read : (text : Option (Bor Name)) (o : Option Name) → option_map (λ s. s.now) text ≡ o → is_some text ≡ is_some o
text_read None o is = ap is_some is
text_read (Some t) o is = ap is_some is

pub decided : (b : Bool) (o : Option Node) → (IsTrue b → IsSome o) × (IsSome o → IsTrue b) → b ≡ is_some o
decided true None h = sym (h.0 refl)
decided true (Some x) h = refl
decided false None h = refl
decided false (Some x) h = h.1 refl

-- names as bytes
pub same_name-bytes_eq : (a b : Name) → same_name a b ≡ bytes_eq a b
same_name-bytes_eq [] [] = refl
same_name-bytes_eq [] (y ∷ ys) = refl
same_name-bytes_eq (x ∷ xs) [] = refl
same_name-bytes_eq (x ∷ xs) (y ∷ ys) = split (eqb x y) (same_name-bytes_eq xs ys) where
  split : (b : Bool) → same_name xs ys ≡ bytes_eq xs ys → cond b (same_name xs ys) false ≡ (b && bytes_eq xs ys)
  split true h = h
  split false h = refl

-- a text's entry
pub lookup_text : (es : List (String Global × NodeId)) (name : List ℕ) → find_name (map (λ e. (string_bytes e.0, e.1)) es) name ≡ lookup (λ k. bytes_eq name (string_bytes k)) es
lookup_text [] name = refl
lookup_text (e ∷ es) name = ap (λ b. cond b (Some e.1) (find_name (map (λ x. (string_bytes x.0, x.1)) es) name)) (same_name-bytes_eq name (string_bytes e.0)) ∙ ap (λ o. cond (bytes_eq name (string_bytes e.0)) (Some e.1) o) (lookup_text es name)

abbrev pub text_pair : String Global × NodeId → List ℕ × NodeId
text_pair e = (string_bytes e.0, e.1)

-- a new text goes last
pub text_last : (es : List (String Global × NodeId)) (key : String Global) (id : NodeId) → lookup (λ k. bytes_eq (string_bytes key) (string_bytes k)) es ≡ None → map (λ e. text_pair e) (insert_entry string_eq es key id) ≡ map (λ e. text_pair e) es ++ (string_bytes key, id) ∷ []
text_last [] key id h = refl
text_last (e ∷ es) key id h =
    elim (bytes_eq (string_bytes key) (string_bytes e.0)) as (λ b. cond b (Some e.1) (lookup (λ k. bytes_eq (string_bytes key) (string_bytes k)) es) ≡ None → map (λ x. text_pair x) (cond b ((e.0, id) ∷ es) (e ∷ insert_entry string_eq es key id)) ≡ text_pair e ∷ (map (λ x. text_pair x) es ++ (string_bytes key, id) ∷ [])) [
      | true ↦ λ some. cc
      | false ↦ λ none. ap (λ ps. text_pair e ∷ ps) (text_last es key id none)
    ] h

-- the node of a number is there
pub there : (slots : List (Option Node)) (k : ℕ) → IsSome (finite.get (nodes_of slots) k) → IsSome (get_or slots k None)
there slots k h = sym (is_some-node_of (get_or slots k None)) ∙ ap is_some (sym (get-nodes_of slots k)) ∙ h

-- names that pass the test are equal, and the other way round
same_name-itself : (a : Name) → same_name a a ≡ true
same_name-itself [] = refl
same_name-itself (x ∷ xs) = let e : eqb x x ≡ true = grind (arith, nat_tests) in ap (λ b. cond b (same_name xs xs) false) e ∙ same_name-itself xs

same_name-is : (a b : Name) → same_name a b ≡ true → a ≡ b
same_name-is [] [] h = refl
same_name-is [] (y ∷ ys) h = cc
same_name-is (x ∷ xs) [] h = cc
same_name-is (x ∷ xs) (y ∷ ys) h = split (eqb x y) refl h (same_name-is xs ys) where
  split : (b : Bool) → eqb x y ≡ b → cond b (same_name xs ys) false ≡ true → (same_name xs ys ≡ true → xs ≡ ys) → x ∷ xs ≡ y ∷ ys
  split true is rest more = λ i. eqb-true x y is i ∷ more rest i
  split false is rest more = cc

-- what is found among names with one more at the end
pub find_kept : (es : List (Name × NodeId)) (e : Name × NodeId) (q : Name) (x : NodeId) → find_name es q ≡ Some x → find_name (es ++ e ∷ []) q ≡ Some x
find_kept [] e q x h = cc
find_kept (y ∷ ys) e q x h = split (same_name q y.0) h (find_kept ys e q x) where
  split : (b : Bool) → cond b (Some y.1) (find_name ys q) ≡ Some x → (find_name ys q ≡ Some x → find_name (ys ++ e ∷ []) q ≡ Some x) → cond b (Some y.1) (find_name (ys ++ e ∷ []) q) ≡ Some x
  split true at _ = at
  split false at more = more at

pub find_new : (es : List (Name × NodeId)) (name : Name) (id : NodeId) → find_name es name ≡ None → find_name (es ++ (name, id) ∷ []) name ≡ Some id
find_new [] name id h = ap (λ b. cond b (Some id) None) (same_name-itself name)
find_new (y ∷ ys) name id h = split (same_name name y.0) h (find_new ys name id) where
  split : (b : Bool) → cond b (Some y.1) (find_name ys name) ≡ None → (find_name ys name ≡ None → find_name (ys ++ (name, id) ∷ []) name ≡ Some id) → cond b (Some y.1) (find_name (ys ++ (name, id) ∷ []) name) ≡ Some id
  split true at _ = cc
  split false at more = more at

pub find_either : (es : List (Name × NodeId)) (name q : Name) (id x : NodeId) → find_name (es ++ (name, id) ∷ []) q ≡ Some x → (find_name es q ≡ Some x) ⊎ ((q ≡ name) × (id ≡ x))
find_either [] name q id x h = split (same_name q name) refl h where
  split : (b : Bool) → same_name q name ≡ b → cond b (Some id) None ≡ Some x → (None ≡ Some x) ⊎ ((q ≡ name) × (id ≡ x))
  split true is at = inr (same_name-is q name is, cc)
  split false is at = inl at
find_either (y ∷ ys) name q id x h = split (same_name q y.0) h (find_either ys name q id x) where
  split : (b : Bool) → cond b (Some y.1) (find_name (ys ++ (name, id) ∷ []) q) ≡ Some x → (find_name (ys ++ (name, id) ∷ []) q ≡ Some x → (find_name ys q ≡ Some x) ⊎ ((q ≡ name) × (id ≡ x))) → (cond b (Some y.1) (find_name ys q) ≡ Some x) ⊎ ((q ≡ name) × (id ≡ x))
  split true at _ = inl at
  split false at more = more at
