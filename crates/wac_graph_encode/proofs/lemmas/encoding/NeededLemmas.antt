-- The types inside which worlds are written before the nodes.
use Rattle.std.proofs.Common.{◌≡◌, ℕ, zero, suc, ◌+◌, ◌*◌, ◌<◌, ◌≤◌, ◌⊎◌, inl, inr, Bool, true, false, List, [], ◌∷◌, ◌++◌, length, refl, ap, sym, ◌∙◌, subst, arith, Contains, Option, Some, None, IfSome, IsSomeAnd, slice_get, Result, Ok, Err, OnOk, is_ok, if◌then◌else◌}
use Rattle.std.proofs.lemmas.List.{append-nil}
use Rattle.std.specs.Option.{option_and_then}
use Rattle.wac_types_shapes.specs.primitives.Name.{Name, option_case}
use Rattle.wac_types_shapes.specs.declared.shapes.component.ItemKind.TheVariants.{TypeItem}
use Rattle.wac_types_shapes.specs.declared.shapes.component.«Type».{«Type» as AnyType}
use Rattle.wac_types_shapes.specs.declared.shapes.component.«Type».TheVariants as ty
use Rattle.wac_types_collection.specs.collection.Bound.{Bindings}
use Rattle.wac_types_collection.specs.collection.Collection.{IsWellFormed, holds_type}
use Rattle.wac_types_weight.specs.Weight.{weight, item_weight}
use Rattle.wac_types_weight.specs.Text.{scope_weight}
use Rattle.wac_types_weight.proofs.Scopes.{text-is-less}
use Rattle.wac_types_collection.specs.collection.Package.{PackageParts}
use Rattle.wac_types_collection.proofs.lemmas.wide.Members.{in_none, in_one, in_left, in_right, in_either, in_at, in_first}
use Rattle.wac_edges.specs.declared.node.NodeId.{NodeId}
use Rattle.wac_encode_interfaces.specs.private.Definitions.{AreDefinitionRoots, HaveDefinedWorlds}
use Rattle.wac_encode_interfaces.specs.private.Ready.{IsClean}
use Rattle.wac_encode_interfaces.specs.private.Worlds.{Worlds, HaveWorlds}
use Rattle.wac_graph_model.specs.declared.nodes.packages.PackageId.{PackageId}
use Rattle.wac_graph_model.specs.nodes.Graph as graph
use Rattle.wac_graph_model.specs.nodes.Graph.{Graph, GraphNode, Kind, node_at, package_at, package_of}
use Rattle.wac_graph_model.specs.declared.nodes.options.EncodeOptions.{EncodeOptions}
use Rattle.wac_graph_model.specs.weight.GraphWeight.{kind_weight, bound}
use Rattle.wac_graph_model.specs.private.weight.Written.{NodeIsPart}
use Rattle.wac_graph_model.specs.declared.nodes.node.NodeKind.{NodeKind}
use Rattle.wac_graph_model.specs.declared.nodes.node.NodeKind.TheVariants as code
use Rattle.wac_graph_model.specs.meaning.Means.{is_import}
use Rattle.wac_graph_model.specs.nodes.Nodes.{kind_of, Positions}
use Rattle.wac_graph_model.specs.nodes.Sound.{IsSound}
use Rattle.wac_graph_encode.specs.private.encoding.Root.{AddsRoots, HasNodeWorlds, IsFaultlessNode}
use Rattle.wac_graph_encode.proofs.lemmas.encoding.NodeLemmas.{of_kind}

module _ (g : Graph) (n : NodeId) (k : Kind) (is : IsSomeAnd (node_at g n) (λ node. node.kind ≡ k)) where
  of-node : (node : GraphNode) → node_at g n ≡ Some node → node.kind ≡ k
  of-node node at = subst (λ (o : Option GraphNode). IsSomeAnd o (λ node. node.kind ≡ k)) at is

  -- neither a definition, nor an instantiation of a package that is imported
  pub no-roots : (define : Bool) (xs : List AnyType) → (k ≡ graph.definition → ⊥) → (k ≡ graph.instantiation → define ≡ false → ⊥) → AddsRoots g define n xs xs
  no-roots define xs not_defined not_imported = record {
    roots = [];
    added = sym (append-nil xs);
    held = λ t h. absurd (in_none t h);
    clean = λ t h. absurd (in_none t h);
    enough = λ ws all. record {
      defined = λ node t at defined typed. absurd (not_defined (sym (of-node node at) ∙ defined));
      imported = λ node id at instance owner not_here. absurd (not_imported (sym (of-node node at) ∙ instance) not_here);
    };
    light = λ o t h. absurd (in_none t h);
  }

instance-no-definition : graph.instantiation ≡ graph.definition → ⊥
instance-no-definition h = cc

true-no-false : (b : Bool) → b ≡ true → b ≡ false → ⊥
true-no-false b h i = let wrong : true ≡ false = sym h ∙ i in cc

-- an instantiation of a package that is defined
pub defined-package : (g : Graph) (n : NodeId) (define : Bool) (xs : List AnyType) → IsSomeAnd (node_at g n) (λ node. node.kind ≡ graph.instantiation) → define ≡ true → AddsRoots g define n xs xs
defined-package g n define xs is defines = no-roots g n graph.instantiation is define xs instance-no-definition (λ same not_defined. true-no-false define defines not_defined)

no-definition : (k : NodeKind) → (k ≡ code.Definition → ⊥) → kind_of k ≡ graph.definition → ⊥
no-definition code.Definition other h = other refl
no-definition (code.Import name) other h = cc
no-definition (code.Instantiation s) other h = cc
no-definition code.Alias other h = cc

no-instantiation : (k : NodeKind) → ((s : Positions) → k ≡ code.Instantiation s → ⊥) → kind_of k ≡ graph.instantiation → ⊥
no-instantiation code.Definition other h = cc
no-instantiation (code.Import name) other h = cc
no-instantiation (code.Instantiation s) other h = other s refl
no-instantiation code.Alias other h = cc

-- an alias or an import
pub other-roots : (g : Graph) (n : NodeId) (k : NodeKind) (define : Bool) (xs : List AnyType) → IsSomeAnd (node_at g n) (λ node. is_import node.kind ≡ false) → IfSome (node_at g n) (λ node. node.kind ≡ kind_of k)
    → (k ≡ code.Definition → ⊥) → ((s : Positions) → k ≡ code.Instantiation s → ⊥) → AddsRoots g define n xs xs
other-roots g n k define xs there is not_definition not_instantiation = no-roots g n (kind_of k) (of_kind g n k there is (kind_of k) refl) define xs (no-definition k not_definition) (λ instance not_defined. no-instantiation k not_instantiation instance)

same-type : (a b : AnyType) → TypeItem a ≡ TypeItem b → a ≡ b
same-type a b h = cc

some-same : {A : Type 0} (x y : A) → Some x ≡ Some y → x ≡ y
some-same x y h = cc

-- a definition
pub definition-roots : (g : Graph) (n : NodeId) (define : Bool) (t : AnyType) (xs ys roots : List AnyType) → IsSomeAnd (node_at g n) (λ node. node.kind ≡ graph.definition) → IfSome (node_at g n) (λ node. node.item_kind ≡ TypeItem t)
    → AreDefinitionRoots g.types t roots → NodeIsPart → ((u : AnyType) → Contains roots u → scope_weight g.types u ≤ weight g.types t) → (m : Bindings) × IsFaultlessNode g define m n → ys ≡ xs ++ roots → AddsRoots g define n xs ys
definition-roots g n define t xs ys roots is typed are part light faultless grown = by (node_at g n) refl is typed
  where
    by : (o : Option GraphNode) → node_at g n ≡ o → IsSomeAnd o (λ node. node.kind ≡ graph.definition) → IfSome o (λ node. node.item_kind ≡ TypeItem t) → AddsRoots g define n xs ys
    by None at h typed = absurd h
    by (Some node) at h typed = record {
      roots = roots;
      added = grown;
      held = are.held;
      clean = are.clean faultless.0 ((faultless.1).defined node t at h typed);
      enough = λ ws all. record {
        defined = λ other u there defined of. subst (HaveDefinedWorlds g.types ws) (same-type t u (sym typed ∙ ap (λ (x : GraphNode). x.item_kind) (some-same node other (sym at ∙ there)) ∙ of)) (are.enough ws all);
        imported = λ other id there instance owner not_here. absurd (let wrong : graph.definition ≡ graph.instantiation = sym h ∙ ap (λ (x : GraphNode). x.kind) (some-same node other (sym at ∙ there)) ∙ instance in cc);
      };
      light = λ o u among.
          let whole = part g o n node at in
          let own : kind_weight g n.0 node node.kind ≡ item_weight g.types node.item_kind = ap (kind_weight g n.0 node) h in
          let weighs : item_weight g.types node.item_kind ≡ weight g.types t = ap (item_weight g.types) typed in
          let less = light u among in
          omega (arith, whole, own, weighs, less);
    }

-- an instantiation of a package that is imported
pub package-roots : (g : Graph) → IsSound g → (n : NodeId) (define : Bool) (id : PackageId) (p : PackageParts) (xs ys : List AnyType) → define ≡ false → IsSomeAnd (node_at g n) (λ node. node.kind ≡ graph.instantiation)
    → IfSome (node_at g n) (λ node. node.owner ≡ Some id) → package_at g id ≡ Some p → IsWellFormed g.types → NodeIsPart → (m : Bindings) × IsFaultlessNode g define m n → ys ≡ xs ++ ty.World p.world ∷ [] → AddsRoots g define n xs ys
package-roots g sound n define id p xs ys not_defined is owned registered wf part faultless grown = by (node_at g n) refl is owned
  where
    root : AnyType
    root = ty.World p.world

    by : (o : Option GraphNode) → node_at g n ≡ o → IsSomeAnd o (λ node. node.kind ≡ graph.instantiation) → IfSome o (λ node. node.owner ≡ Some id) → AddsRoots g define n xs ys
    by None at h owned = absurd h
    by (Some node) at h owned = record {
      roots = root ∷ [];
      added = grown;
      held = λ t has. subst (λ (x : AnyType). holds_type g.types x ≡ true) (sym (in_one root t has)) (sound.packages id p registered).0;
      clean = λ t has. subst (IsClean g.types) (sym (in_one root t has)) (subst (λ (o : Option PackageParts). IfSome o (λ q. IsClean g.types (ty.World q.world))) registered ((faultless.1).imported node id at h owned not_defined));
      enough = λ ws all. record {
        defined = λ other u there defined of. absurd (let wrong : graph.instantiation ≡ graph.definition = sym h ∙ ap (λ (x : GraphNode). x.kind) (some-same node other (sym at ∙ there)) ∙ defined in cc);
        imported = λ other id' there instance owner still.
            let same : id ≡ id' = some-same id id' (sym owned ∙ ap (λ (x : GraphNode). x.owner) (some-same node other (sym at ∙ there)) ∙ owner) in
            subst (λ (x : PackageId). IfSome (package_at g x) (λ q. HaveWorlds g.types ws (ty.World q.world))) same
            (subst (λ (o : Option PackageParts). IfSome o (λ q. HaveWorlds g.types ws (ty.World q.world))) (sym registered) (all root (in_first root [])));
      };
      light = λ o u among.
          let whole = part g o n node at in
          let own : kind_weight g n.0 node node.kind ≡ option_case (package_of g node) 0 (λ q. weight g.types (ty.World q.world)) = ap (kind_weight g n.0 node) h in
          let parts : package_of g node ≡ Some p = ap (option_and_then (package_at g)) owned ∙ registered in
          let weighs = ap (λ x. option_case x 0 (λ (q : PackageParts). weight g.types (ty.World q.world))) parts in
          let less = text-is-less g.types root wf (sound.packages id p registered).0 in
          let same = ap (scope_weight g.types) (in_one root u among) in
          omega (arith, whole, own, weighs, less, same);
    }

-- ---- the roots of the first nodes

-- Of the first i nodes of the order, the worlds that they need are inside these types, which are of the collection and have no fault inside.
pub record RootsSoFar (g : Graph) (define : Bool) (order : List NodeId) (i : ℕ) (found : List AnyType) : Type 0 where
  pub held : (t : AnyType) → Contains found t → holds_type g.types t ≡ true
  pub clean : (t : AnyType) → Contains found t → IsClean g.types t
  pub enough : (ws : Worlds) → ((t : AnyType) → Contains found t → HaveWorlds g.types ws t) → (k : ℕ) (n : NodeId) → k < i → slice_get order k ≡ Some n → HasNodeWorlds g define ws n
  pub light : (o : EncodeOptions) (t : AnyType) → Contains found t → 64 * scope_weight g.types t ≤ bound g o

pub no-roots-yet : (g : Graph) (define : Bool) (order : List NodeId) → RootsSoFar g define order 0 []
no-roots-yet g define order = record {
  held = λ t h. absurd (in_none t h);
  clean = λ t h. absurd (in_none t h);
  enough = λ ws all k n low at. absurd (omega (arith, low));
  light = λ o t h. absurd (in_none t h);
}

last-or : (k i : ℕ) → k < i + 1 → (k < i) ⊎ (k ≡ i)
last-or zero zero low = inr refl
last-or zero (suc i) low = inl (omega arith)
last-or (suc k) zero low = absurd (omega (arith, low))
last-or (suc k) (suc i) low = elim (last-or k i (omega (arith, low))) [ inl l ↦ inl (omega (arith, l)) | inr e ↦ inr (ap suc e) ]

pub roots-more : (g : Graph) (define : Bool) (order : List NodeId) (i : ℕ) (n : NodeId) (found found' : List AnyType) → slice_get order i ≡ Some n → AddsRoots g define n found found' → RootsSoFar g define order i found → RootsSoFar g define order (i + 1) found'
roots-more g define order i n found found' at adds was = record {
  held = λ t h. elim (in_either found adds.roots t (subst (λ (xs : List AnyType). Contains xs t) adds.added h)) [ inl l ↦ was.held t l | inr r ↦ adds.held t r ];
  clean = λ t h. elim (in_either found adds.roots t (subst (λ (xs : List AnyType). Contains xs t) adds.added h)) [ inl l ↦ was.clean t l | inr r ↦ adds.clean t r ];
  enough = λ ws all k x low there. elim (last-or k i low) [
    | inl l ↦ was.enough ws (λ t h. all t (subst (λ (xs : List AnyType). Contains xs t) (sym adds.added) (in_left found adds.roots t h))) k x l there
    | inr e ↦ subst (HasNodeWorlds g define ws) (some-same n x (sym at ∙ ap (slice_get order) (sym e) ∙ there))
        (adds.enough ws (λ t h. all t (subst (λ (xs : List AnyType). Contains xs t) (sym adds.added) (in_right found adds.roots t h))))
  ];
  light = λ o t h. elim (in_either found adds.roots t (subst (λ (xs : List AnyType). Contains xs t) adds.added h)) [ inl l ↦ was.light o t l | inr r ↦ adds.light o t r ];
}

pub roots-all : (g : Graph) (define : Bool) (order : List NodeId) (i : ℕ) (found : List AnyType) (ws : Worlds) → length order ≤ i → RootsSoFar g define order i found → ((t : AnyType) → Contains found t → HaveWorlds g.types ws t) → (n : NodeId) → Contains order n → HasNodeWorlds g define ws n
roots-all g define order i found ws end was all n h = let (k, low, at) = in_at order n h in was.enough ws all k n (omega (arith, low, end)) at

pub when-appended : {A E P : Type 0} → (r : Result (Unit {0}) E) (xs ys new : List A) → new ≡ (if is_ok r then xs ++ ys else xs) → (new ≡ xs ++ ys → P) → OnOk r P
when-appended (Ok x) xs ys new is f = f is
when-appended (Err e) xs ys new is f = tt

pub typed-of : (g : Graph) (n : NodeId) (t : AnyType) (name : Name) → IfSome (node_at g n) (λ node. (node.item_kind ≡ TypeItem t) × (node.first_name ≡ Some name)) → IfSome (node_at g n) (λ node. node.item_kind ≡ TypeItem t)
typed-of g n t name = by (node_at g n)
  where
    by : (o : Option GraphNode) → IfSome o (λ node. (node.item_kind ≡ TypeItem t) × (node.first_name ≡ Some name)) → IfSome o (λ node. node.item_kind ≡ TypeItem t)
    by None h = tt
    by (Some node) h = h.0
