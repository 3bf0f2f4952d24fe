use Rattle.std.proofs.Common.{◌≡◌, ℕ, Bool, true, false, List, [], ◌∷◌, refl, ap, ◌∙◌, sym, arith, eqb, ◌&&◌, not, ◌||◌, cond}
use Rattle.std.proofs.lemmas.Bool.Decides.{nat_tests}
use Rattle.std.specs.List.{list_any, filter}
use Rattle.std.proofs.lemmas.List.Folds.{list_any_at}
use Rattle.std.proofs.lemmas.Map.Views.{tells_apart, Contains-from_any}
use Rattle.std.specs.List.{Contains}
use Rattle.std.proofs.Common.{IfSome, IfNone, Option, Some, None}
use Rattle.std.specs.Ordering.{nat_cmp, eq_by_cmp, is_eq}
use Rattle.std.proofs.Math.Bool.{and-false}
use Rattle.std.specs.Cmp.{IsTotalOrder, tied_itself}
use Rattle.std.specs.Cmp.Lexicographic.{slice_cmp, nat_list_cmp_total}
use Rattle.std.proofs.lemmas.Cmp.{on_total}
use Rattle.std.specs.FinSet.{contains, from_list, contains-from_list, remove, contains-remove, same_set, IsAntisymmetric, slice_cmp-IsAntisymmetric, nat_cmp-IsAntisymmetric}
use Rattle.wac_edges.specs.Edge.{edge_cmp, edge_key, edge_of, edge_of-edge_key, label_key, label_of, label_of-label_key}
use Rattle.wac_edges.specs.contracts.edges.LabelPartialEq.TheImpl as LabelEq
use Rattle.wac_edges.specs.contracts.edges.EdgePartialEq.TheImpl as EdgeEq
use Rattle.wac_edges.specs.declared.edges.Label.{Label}
use Rattle.wac_edges.specs.declared.edges.Label.TheVariants.{Alias, Argument, Dependency}
use Rattle.wac_edges.specs.declared.edges.Edge.{Edge}
use Rattle.wac_edges.specs.declared.node.NodeId.{NodeId}

-- two nodes of one number are one node
pub same_node : (m n : NodeId) → m.0 ≡ n.0 → m ≡ n
same_node m n e = ap (λ (k : ℕ). let it : NodeId = record { 0 = k } in it) e

pub edge_cmp_total : IsTotalOrder edge_cmp
edge_cmp_total = on_total edge_key nat_list_cmp_total

pub edge_cmp-IsAntisymmetric : IsAntisymmetric edge_cmp
edge_cmp-IsAntisymmetric x y e =
    sym (edge_of-edge_key x) ∙ ap edge_of (slice_cmp-IsAntisymmetric nat_cmp-IsAntisymmetric (edge_key x) (edge_key y) e) ∙ edge_of-edge_key y

-- one number more of two keys
same_more : (x y : ℕ) (xs ys : List ℕ) → eq_by_cmp (slice_cmp nat_cmp) (x ∷ xs) (y ∷ ys) ≡ (eqb y x && eq_by_cmp (slice_cmp nat_cmp) xs ys)
same_more x y xs ys = grind (arith, nat_tests)

-- the derived `==` is that of the order
same_label : (l m : Label) → (LabelEq.ghosts).eq l m ≡ eq_by_cmp (slice_cmp nat_cmp) (label_key m) (label_key l)
same_label (Alias i) (Alias j) = grind (arith, nat_tests)
same_label (Alias i) (Argument j) = refl
same_label (Alias i) Dependency = refl
same_label (Argument i) (Alias j) = refl
same_label (Argument i) (Argument j) = grind (arith, nat_tests)
same_label (Argument i) Dependency = refl
same_label Dependency (Alias j) = refl
same_label Dependency (Argument j) = refl
same_label Dependency Dependency = refl

pub same_edge : (e f : Edge) → (EdgeEq.ghosts).eq e f ≡ eq_by_cmp edge_cmp f e
same_edge e f =
    ap (λ b. eqb e.source.0 f.source.0 && (eqb e.target.0 f.target.0 && b)) (same_label e.label f.label)
    ∙ sym (same_more f.source.0 e.source.0 (f.target.0 ∷ label_key f.label) (e.target.0 ∷ label_key e.label) ∙ ap (λ b. eqb e.source.0 f.source.0 && b) (same_more f.target.0 e.target.0 (label_key f.label) (label_key e.label)))

any_same : (es : List Edge) (e : Edge) → list_any (λ y. (EdgeEq.ghosts).eq y e) es ≡ list_any (eq_by_cmp edge_cmp e) es
any_same [] e = refl
any_same (x ∷ es) e = rw (same_edge x e, any_same es e)

pub contains_by_eq : (es : List Edge) (e : Edge) → list_any (λ y. (EdgeEq.ghosts).eq y e) es ≡ contains (from_list {R = edge_cmp} es) e
contains_by_eq es e = any_same es e ∙ sym (contains-from_list edge_cmp_total es e)

-- the edges of the list that are not e
pub exact_edges : (e f : Edge) → eq_by_cmp edge_cmp e f ≡ true → e ≡ f
exact_edges = tells_apart edge_cmp-IsAntisymmetric

-- the derived `==` of labels and of edges
pub label_exact : (l m : Label) → (LabelEq.ghosts).eq l m ≡ true → l ≡ m
label_exact l m h = sym (label_of-label_key l) ∙ ap label_of (sym (tells_apart (slice_cmp-IsAntisymmetric nat_cmp-IsAntisymmetric) (label_key m) (label_key l) (sym (same_label l m) ∙ h))) ∙ label_of-label_key m

pub label_tied : (l m : Label) → l ≡ m → (LabelEq.ghosts).eq l m ≡ true
label_tied l m e = ap (λ (v : Label). (LabelEq.ghosts).eq l v) (sym e) ∙ same_label l l ∙ ap is_eq (tied_itself nat_list_cmp_total (label_key l))

pub edge_exact : (e f : Edge) → (EdgeEq.ghosts).eq e f ≡ true → e ≡ f
edge_exact e f h = sym (exact_edges f e (sym (same_edge e f) ∙ h))

pub edge_tied : (e f : Edge) → e ≡ f → (EdgeEq.ghosts).eq e f ≡ true
edge_tied e f is = ap (λ (v : Edge). (EdgeEq.ghosts).eq e v) (sym is) ∙ same_edge e e ∙ ap is_eq (tied_itself edge_cmp_total e)

absorbed : (n a : Bool) → (not n && a) ≡ (not n && (n || a))
absorbed true a = refl
absorbed false a = refl

passed : (n a b : Bool) → (n ≡ true → b ≡ false) → (b || (not n && a)) ≡ (not n && (b || a))
passed true a b h = ap (λ x. x || false) (h refl)
passed false a b h = refl

module _ (t : Edge → Bool) (e : Edge) (is : (x : Edge) → t x ≡ eq_by_cmp edge_cmp e x) (q : Edge) where
  kept : (es : List Edge) → list_any (eq_by_cmp edge_cmp q) (filter (λ y. not (t y)) es) ≡ (not (eq_by_cmp edge_cmp q e) && list_any (eq_by_cmp edge_cmp q) es)
  kept [] = sym (and-false (not (eq_by_cmp edge_cmp q e)))
  kept (x ∷ es) =
      elim (t x) as (λ b. t x ≡ b → list_any (eq_by_cmp edge_cmp q) (cond (not b) (x ∷ filter (λ y. not (t y)) es) (filter (λ y. not (t y)) es)) ≡ (not (eq_by_cmp edge_cmp q e) && (eq_by_cmp edge_cmp q x || list_any (eq_by_cmp edge_cmp q) es))) [
        | true ↦ λ h.
            let same : e ≡ x = exact_edges e x (sym (is x) ∙ h) in
            kept es ∙ absorbed (eq_by_cmp edge_cmp q e) (list_any (eq_by_cmp edge_cmp q) es) ∙ ap (λ (y : Edge). not (eq_by_cmp edge_cmp q e) && (eq_by_cmp edge_cmp q y || list_any (eq_by_cmp edge_cmp q) es)) same
        | false ↦ λ h. ap (λ b. eq_by_cmp edge_cmp q x || b) (kept es)
            ∙ passed (eq_by_cmp edge_cmp q e) (list_any (eq_by_cmp edge_cmp q) es) (eq_by_cmp edge_cmp q x) (λ same. ap (λ (y : Edge). eq_by_cmp edge_cmp y x) (exact_edges q e same) ∙ sym (is x) ∙ h)
      ] refl

pub remove_by_filter : (es : List Edge) (e : Edge) → from_list {R = edge_cmp} (filter (λ y. not ((EdgeEq.ghosts).eq y e)) es) ≡ remove (from_list es) e
remove_by_filter es e = same_set edge_cmp_total edge_cmp-IsAntisymmetric _ _ (λ q.
    contains-from_list edge_cmp_total (filter (λ y. not ((EdgeEq.ghosts).eq y e)) es) q
    ∙ kept (λ y. (EdgeEq.ghosts).eq y e) e (λ x. same_edge x e) q es
    ∙ ap (λ b. not (eq_by_cmp edge_cmp q e) && b) (sym (contains-from_list edge_cmp_total es q))
    ∙ sym (contains-remove edge_cmp_total (from_list es) e q))

-- an edge of the list is in the set
pub in_set : (es : List Edge) (e : Edge) → Contains es e → contains (from_list {R = edge_cmp} es) e ≡ true
in_set es e h = contains-from_list edge_cmp_total es e ∙ list_any_at (eq_by_cmp edge_cmp e) es h.0 e h.1 (ap (λ (x : Edge). eq_by_cmp edge_cmp e x) h.2 ∙ ap is_eq (tied_itself edge_cmp_total e))

pub IfSome-map : {X : Type 0} (P Q : X → Type 0) (o : Option X) → ((x : X) → P x → Q x) → IfSome o P → IfSome o Q
IfSome-map P Q None f h = h
IfSome-map P Q (Some x) f h = f x h

pub IfNone-map : {X : Type 0} (P Q : Type 0) (o : Option X) → (P → Q) → IfNone o P → IfNone o Q
IfNone-map P Q None f h = f h
IfNone-map P Q (Some x) f h = h

-- what is in the set is in the list
pub from_set : (es : List Edge) (e : Edge) → contains (from_list {R = edge_cmp} es) e ≡ true → Contains es e
from_set es e h = Contains-from_any exact_edges e es (sym (contains-from_list edge_cmp_total es e) ∙ h)
