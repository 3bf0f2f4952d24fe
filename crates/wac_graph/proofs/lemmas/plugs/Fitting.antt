-- A match fits: its export is a subtype of its import, at the nodes that are wired.
use Rattle.std.proofs.Common.{◌≡◌, ℕ, zero, suc, List, [], ◌∷◌, slice_get, true, refl, ap, ◌∙◌, sym, subst, Option, Some, None, Ok, IfSome, IsSome, is_some, inl, inr, arith}
use Rattle.std.specs.Prelude.{IsSomeAnd}
use Rattle.std.specs.Option.{option_and_then}
use Rattle.std.specs.FinSet as set
use Rattle.wac_types_shapes.specs.primitives.Name.{Name, option_case}
use Rattle.wac_types_shapes.specs.shapes.Named.{named_at, NoNameTwice}
use Rattle.wac_types_shapes.specs.declared.shapes.component.InterfaceId.{InterfaceId}
use Rattle.wac_types_shapes.specs.declared.shapes.component.ItemKind.{ItemKind}
use Rattle.wac_types_collection.specs.collection.Collection.{Collection, interface_exports, world_imports}
use Rattle.wac_types_collection.specs.collection.Package.{PackageParts}
use Rattle.wac_types_collection.specs.subtyping.Subtype.{IsSubtype}
use Rattle.wac_edges.specs.Edge.{alias_edge}
use Rattle.wac_edges.specs.declared.edges.Label.TheVariants.{Alias}
use Rattle.wac_edges.specs.declared.node.NodeId.{NodeId}
use Rattle.wac_graph_model.specs.declared.nodes.packages.PackageId.{PackageId}
use Rattle.wac_graph_model.specs.nodes.Graph.{Graph, GraphNode, node_at, package_at, package_in, package_of, interface_of, exports_of, imports_of}
use Rattle.wac_graph_model.specs.nodes.Sound.{IsSound, Joins}
use Rattle.wac_graph_model.specs.nodes.Steps.{AddsNode, Instantiates, instance_node, Aliases, AliasesOf, GivesAlias, export_named, import_named}
use Rattle.wac_graph_model.proofs.lemmas.nodes.JoinLemmas.{imports_of_package as listed-imports}
use Rattle.wac_graph.specs.private.plugs.Positions.{FitsImport, HasNamed, IsInstancePosition, instance_exports}
use Rattle.wac_graph.specs.plugs.Matching.{Match, imports_of_package, exports_of_package}
use Rattle.wac_graph.specs.plugs.Plugging.{Keeps}
use Rattle.wac_graph.specs.private.plugs.Fitting.{Fits, FitsNodes, AllFit, IsNodeOf, IsPair, node_imports}
use Rattle.wac_graph.specs.private.plugs.Ready.{FitAll}
use Rattle.wac_graph.specs.private.plugs.Pairs.{match_at, matches_at, AreWithin}
use Rattle.wac_graph.specs.declared.plugs.matching.Pair.{Pair}
use Rattle.wac_graph.proofs.lemmas.plugs.Pairs.{entry-there, name-there, named-there, match-there}
use Rattle.wac_graph.proofs.lemmas.plugs.Steps.{some-of, instance-keeps, keeps-trans}
use Rattle.wac_graph.proofs.lemmas.plugs.Each.{imports-of, imports-kept, exports-kept}
use Rattle.wac_graph.proofs.lemmas.plugs.Wired.{insert-same, new-edge}
use Rattle.wac_graph.proofs.lemmas.plugs.Deciding.{IsWirable, AreWirable, named-entry}
use Rattle.wac_graph.proofs.lemmas.plugs.Alike.{AreAlike, fits-alike, exports-alike, instance-exports}

-- what nodes list is that of nodes with the same item and package, in graphs with the same types and packages
imports-none : (g : Graph) (n : GraphNode) → package_of g n ≡ None → imports_of g n ≡ []
imports-none g n h = rw h refl

exports-none : (g : Graph) (n : GraphNode) → interface_of n.item_kind ≡ None → exports_of g n ≡ []
exports-none g n h = rw h refl

exports-some : (g : Graph) (n : GraphNode) (i : InterfaceId) → interface_of n.item_kind ≡ Some i → exports_of g n ≡ interface_exports g.types i
exports-some g n i h = rw h refl

imports-same : (old now : Graph) (x y : GraphNode) → now.types ≡ old.types → now.slots ≡ old.slots → y.owner ≡ x.owner → imports_of now y ≡ imports_of old x
imports-same old now x y types slots owner = by (package_of old x) refl where
  same : package_of now y ≡ package_of old x
  same = λ i. option_and_then (λ id. package_in (slice_get (slots i) id.slot) id) (owner i)

  by : (o : Option PackageParts) → package_of old x ≡ o → imports_of now y ≡ imports_of old x
  by None is = imports-none now y (same ∙ is) ∙ sym (imports-none old x is)
  by (Some p) is = listed-imports now y p (same ∙ is) ∙ ap (λ (c : Collection). world_imports c p.world) types ∙ sym (listed-imports old x p is)

exports-same : (old now : Graph) (x y : GraphNode) → now.types ≡ old.types → y.item_kind ≡ x.item_kind → exports_of now y ≡ exports_of old x
exports-same old now x y types item = by (interface_of x.item_kind) refl where
  by : (o : Option InterfaceId) → interface_of x.item_kind ≡ o → exports_of now y ≡ exports_of old x
  by None is = exports-none now y (ap interface_of item ∙ is) ∙ sym (exports-none old x is)
  by (Some i) is = exports-some now y i (ap interface_of item ∙ is) ∙ ap (λ (c : Collection). interface_exports c i) types ∙ sym (exports-some old x i is)

imports-of-node : (g : Graph) (n : GraphNode) (socket : PackageId) → IsSome (package_at g socket) → n.owner ≡ Some socket → imports_of g n ≡ imports_of_package g socket
imports-of-node g n socket there owned =
    let p = some-of (package_at g socket) there in
    listed-imports g n p.0 (ap (option_and_then (package_at g)) owned ∙ p.1) ∙ sym (imports-of g socket p.0 p.1)

-- what is said of something that is there
some-and : {A : Type 0} (o : Option A) (P : A → Type 0) → IsSomeAnd o P → (a : A) × (o ≡ Some a) × P a
some-and None P h = absurd h
some-and (Some a) P h = (a, refl, h)

-- one of matches that can be wired
wirable-at : (types : Collection) (exports imports : List (Name × ItemKind)) (ms : List Match) → AreWirable types exports imports ms → (i : ℕ) (m : Match) → slice_get ms i ≡ Some m → IsWirable types exports imports m
wirable-at types exports imports [] can i m at = cc
wirable-at types exports imports (x ∷ ms) can zero m at = let same : x ≡ m = cc in subst (IsWirable types exports imports) same can.0
wirable-at types exports imports (x ∷ ms) can (suc i) m at = wirable-at types exports imports ms can.2 i m at

fits-of : (types : Collection) (exports imports : List (Name × ItemKind)) (m : Match) → IsWirable types exports imports m → Fits types exports imports m
fits-of types exports imports m w =
    subst (λ o. IfSome o (λ e. IfSome (named_at 0 m.import imports) (λ i. IsSubtype types e.1 types i.1))) (sym w.exported)
    (subst (λ o. IfSome o (λ i. IsSubtype types (w.given).1 types i.1)) (sym w.imported) w.fits)

-- matches that can be wired fit
pub all-fit : (types : Collection) (exports imports : List (Name × ItemKind)) (ms : List Match) → AreWirable types exports imports ms → FitAll types exports imports ms
all-fit types exports imports ms can i m at = fits-of types exports imports m (wirable-at types exports imports ms can i m at)

-- what the node of a socket imports
pub node-imports : (g : Graph) (socket : PackageId) (node : NodeId) → IsSome (package_at g socket) → IsNodeOf g node socket → node_imports g node ≡ imports_of_package g socket
node-imports g socket node there of =
    let n = some-and (node_at g node) (λ n. n.owner ≡ Some socket) of in
    ap (λ o. option_case o [] (λ k. imports_of g k)) n.1 ∙ imports-of-node g n.0 socket there n.2

-- matches that fit the packages fit the node of the socket, in a graph with the same types and packages
pub fit-node : (old now : Graph) (plug socket : PackageId) (node : NodeId) (ms : List Match) → Keeps old now → IsSome (package_at old socket) → IsNodeOf now node socket
    → FitAll old.types (exports_of_package old plug) (imports_of_package old socket) ms → AllFit now plug node ms
fit-node old now plug socket node ms kept there of fit i m at = split (node_at now node) of where
  there_now : IsSome (package_at now socket)
  there_now = ap (λ l. is_some (package_at (record now { slots = l }) socket)) kept.slots ∙ there

  split : (o : Option GraphNode) → IsSomeAnd o (λ n. n.owner ≡ Some socket) → IfSome o (λ s. Fits now.types (exports_of_package now plug) (imports_of now s) m)
  split None none = absurd none
  split (Some s) owned =
      let imports : imports_of_package old socket ≡ imports_of now s = sym (imports-of-node now s socket there_now owned ∙ imports-kept old now socket kept) in
      subst (λ l. Fits now.types l (imports_of now s) m) (sym (exports-kept old now plug kept))
      (subst (λ l. Fits now.types (exports_of_package old plug) l m) imports (subst (λ c. Fits c (exports_of_package old plug) (imports_of_package old socket) m) (sym kept.types) (fit i m at)))

-- what a plug's node lists
module _ (old mid : Graph) (plug : PackageId) (node : NodeId) (sound : IsSound old) (there : IsSome (package_at old plug)) (made : Instantiates old plug (Ok node) mid) where
  p : (parts : PackageParts) × (package_at old plug ≡ Some parts)
  p = some-of (package_at old plug) there

  node-is : node_at mid node ≡ Some (instance_node plug p.0)
  node-is =
      let step : AddsNode old node (instance_node plug p.0) mid = subst (λ o. IfSome o (λ p. AddsNode old node (instance_node plug p) mid)) p.1 made in
      ap (λ (k : Graph). node_at k node) step.2 ∙ insert-same old.nodes node.0 (instance_node plug p.0)

  exports-now : (now : Graph) (n : GraphNode) → now.types ≡ old.types → n.item_kind ≡ (instance_node plug p.0).item_kind → exports_of now n ≡ interface_exports old.types (p.0).instance_type
  exports-now now n types item = exports-some now n (p.0).instance_type (ap interface_of item) ∙ ap (λ (c : Collection). interface_exports c (p.0).instance_type) types

  alike-now : (now : Graph) (n : GraphNode) → now.types ≡ old.types → n.item_kind ≡ (instance_node plug p.0).item_kind → AreAlike (exports_of_package old plug) (exports_of now n)
  alike-now now n types item = subst (AreAlike (exports_of_package old plug)) (sym (exports-now now n types item)) (exports-alike old plug p.0 sound p.1)

  pub fits-nodes : (now : Graph) (socket : NodeId) (ms : List Match) (i : ℕ) (m : Match) → IsSome (node_at old socket) → Keeps mid now → AllFit old plug socket ms → slice_get ms i ≡ Some m → FitsNodes now node socket m
  fits-nodes now socket ms i m socket_there kept fit at =
      let first = instance-keeps old mid plug node there made in
      let all = keeps-trans old mid now first.0 kept in
      let s = some-of (node_at old socket) socket_there in
      let t = some-of (node_at now socket) (all.nodes socket socket_there) in
      let n = some-of (node_at now node) (kept.nodes node first.1) in
      let old_fit : Fits old.types (exports_of_package old plug) (imports_of old s.0) m = subst (λ o. IfSome o (λ s. Fits old.types (exports_of_package old plug) (imports_of old s) m)) s.1 (fit i m at) in
      let typed : Fits now.types (exports_of_package old plug) (imports_of old s.0) m = subst (λ c. Fits c (exports_of_package old plug) (imports_of old s.0) m) (sym all.types) old_fit in
      let given : Fits now.types (exports_of now n.0) (imports_of old s.0) m =
      fits-alike now.types (exports_of_package old plug) (exports_of now n.0) (imports_of old s.0) m (alike-now now n.0 all.types (kept.same node (instance_node plug p.0) n.0 node-is n.1).0) typed in
      let taken : Fits now.types (exports_of now n.0) (imports_of now t.0) m =
      subst (λ l. Fits now.types (exports_of now n.0) l m) (sym (imports-same old now s.0 t.0 all.types all.slots (all.same socket s.0 t.0 s.1 t.1).1)) given in
      subst (λ o. IfSome o (λ q. IfSome (node_at now socket) (λ s. Fits now.types (exports_of now q) (imports_of now s) m))) (sym n.1)
      (subst (λ o. IfSome o (λ s. Fits now.types (exports_of now n.0) (imports_of now s) m)) (sym t.1) taken)

  -- a package is one of the graph with as many nodes more
  plug-now : (now : Graph) → Keeps mid now → package_at now plug ≡ Some p.0
  plug-now now kept =
      let all = keeps-trans old mid now (instance-keeps old mid plug node there made).0 kept in
      ap (λ l. package_at (record now { slots = l }) plug) all.slots ∙ p.1

  -- the match at a pair of positions stands there at the nodes, where the plug's node exports it at its own position
  pub pair-at : (now : Graph) (socket : NodeId) (ps : List Pair) (i : ℕ) (p : Pair) (position : ℕ) → IsInstancePosition now plug p.export position → IsSome (node_at old socket) → Keeps mid now → NoNameTwice (node_imports old socket)
      → AreWithin (exports_of_package old plug) (node_imports old socket) ps → AllFit old plug socket (matches_at (exports_of_package old plug) (node_imports old socket) ps) → slice_get ps i ≡ Some p
      → IsPair now node socket (record { export = position; import = p.import }) (match_at (exports_of_package old plug) (node_imports old socket) p)
  pair-at now socket ps i q position placed socket_there kept asked within fit at =
      let exports = exports_of_package old plug in
      let imports = node_imports old socket in
      let m = match_at exports imports q in
      let first = instance-keeps old mid plug node there made in
      let all = keeps-trans old mid now first.0 kept in
      let s = some-of (node_at old socket) socket_there in
      let t = some-of (node_at now socket) (all.nodes socket socket_there) in
      let n = some-of (node_at now node) (kept.nodes node first.1) in
      let item = (kept.same node (instance_node plug p.0) n.0 node-is n.1).0 in
      let e = entry-there exports q.export (within i q at).0 in
      let f = entry-there imports q.import (within i q at).1 in
      let listed : imports_of now t.0 ≡ imports = imports-same old now s.0 t.0 all.types all.slots (all.same socket s.0 t.0 s.1 t.1).1 ∙ ap (λ o. option_case o [] (λ k. imports_of old k)) (sym s.1) in
      let here : slice_get (exports_of_package now plug) q.export ≡ Some e.0 = ap (λ l. slice_get l q.export) (exports-kept old now plug all) ∙ e.1 in
      let instance : exports_of now n.0 ≡ instance_exports now plug = exports-now now n.0 all.types item ∙ ap (λ (c : Collection). interface_exports c (p.0).instance_type) (sym all.types) ∙ sym (instance-exports now plug p.0 (plug-now now kept)) in
      let exported : export_named now n.0 m.export ≡ Some (position, e.0.1) = ap (named_at 0 m.export) instance ∙ ap (λ (k : Name). named_at 0 k (instance_exports now plug)) (name-there exports q.export e.0 e.1) ∙ placed e.0 here in
      let imported : import_named now t.0 m.import ≡ Some (q.import, f.0.1) = ap (named_at 0 m.import) listed ∙ named-there imports q.import f.0 asked f.1 in
      record {
        given = e.0.1;
        taken = f.0.1;
        exported = subst (λ o. IfSome o (λ k. IsSome (interface_of k.item_kind) × (export_named now k m.export ≡ Some (position, e.0.1)))) (sym n.1) (ap (λ k. is_some (interface_of k)) item, exported);
        imported = subst (λ o. IfSome o (λ k. import_named now k m.import ≡ Some (q.import, f.0.1))) (sym t.1) imported;
        fits = fits-nodes now socket (matches_at exports imports ps) i m socket_there kept fit (match-there exports imports ps i q at);
      }

-- an import stands where it stood
pub named-kept : (old now : Graph) (socket : NodeId) (name : Name) (position : ℕ) (kind : ItemKind) → IsSome (node_at old socket) → Keeps old now → HasNamed old socket name position kind → HasNamed now socket name position kind
named-kept old now socket name position kind there kept has =
    let s = some-of (node_at old socket) there in
    let t = some-of (node_at now socket) (kept.nodes socket there) in
    let was : import_named old s.0 name ≡ Some (position, kind) = subst (λ o. IfSome o (λ k. import_named old k name ≡ Some (position, kind))) s.1 has in
    let is : import_named now t.0 name ≡ Some (position, kind) = ap (named_at 0 name) (imports-same old now s.0 t.0 kept.types kept.slots (kept.same socket s.0 t.0 s.1 t.1).1) ∙ was in
    subst (λ o. IfSome o (λ k. import_named now k name ≡ Some (position, kind))) (sym t.1) is

alias-edge : (old mid : Graph) (plug alias : NodeId) (n : GraphNode) (position : ℕ) (kind : ItemKind) → GivesAlias old plug n position kind alias mid → set.contains mid.edges (alias_edge plug alias position) ≡ true
alias-edge old mid plug alias n position kind (inl h) = ap (λ (g : Graph). set.contains g.edges (alias_edge plug alias position)) h.1 ∙ h.0
alias-edge old mid plug alias n position kind (inr h) = ap (λ (g : Graph). set.contains g.edges (alias_edge plug alias position)) h.3 ∙ new-edge old.edges (alias_edge plug alias position)

-- the alias of a match's export fits the import
pub fits-import : (old mid : Graph) (plug socket alias : NodeId) (m : Match) (given taken : Name) → given ≡ m.export → taken ≡ m.import → IsSome (node_at old plug) → IsSome (node_at old socket) → IsSome (node_at mid alias)
    → Aliases old plug given (Ok alias) mid → Keeps old mid → IsSound mid → FitsNodes old plug socket m → FitsImport mid socket taken alias
fits-import old mid plug socket alias m given taken is_given is_taken plug_there socket_there alias_there aliased kept sound fits =
    let n = some-of (node_at old plug) plug_there in
    let s = some-of (node_at old socket) socket_there in
    let a = some-of (node_at mid alias) alias_there in
    let n_mid = some-of (node_at mid plug) (kept.nodes plug plug_there) in
    let s_mid = some-of (node_at mid socket) (kept.nodes socket socket_there) in
    let step : AliasesOf old plug n.0 given (Ok alias) mid = subst (λ o. IfSome o (λ n. AliasesOf old plug n given (Ok alias) mid)) n.1 aliased in
    let e = some-and (export_named old n.0 given) (λ e. GivesAlias old plug n.0 e.0 e.1 alias mid) step.1 in
    let joins : Joins mid (Alias (e.0).0) n_mid.0 a.0 = sound.joins (alias_edge plug alias (e.0).0) n_mid.0 a.0 (alias-edge old mid plug alias n.0 (e.0).0 (e.0).1 e.2) n_mid.1 a.1 in
    let place = named-entry (exports_of old n.0) 0 given e.0 e.1 in
    let position : (e.0).0 ≡ place.0 = omega (arith, place.1) in
    let listed : slice_get (exports_of mid n_mid.0) (e.0).0 ≡ Some (given, (e.0).1) =
    ap (λ l. slice_get l (e.0).0) (exports-same old mid n.0 n_mid.0 kept.types (kept.same plug n.0 n_mid.0 n.1 n_mid.1).0) ∙ ap (slice_get (exports_of old n.0)) position ∙ place.2 in
    let item : (a.0).item_kind ≡ (e.0).1 = subst (λ o. IsSomeAnd o (λ x. (a.0).item_kind ≡ x.1)) listed joins.1 in
    let nodes : Fits old.types (exports_of old n.0) (imports_of old s.0) m =
    subst (λ o. IfSome o (λ s. Fits old.types (exports_of old n.0) (imports_of old s) m)) s.1 (subst (λ o. IfSome o (λ p. IfSome (node_at old socket) (λ s. Fits old.types (exports_of old p) (imports_of old s) m))) n.1 fits) in
    let exported : named_at 0 m.export (exports_of old n.0) ≡ Some e.0 = ap (λ k. named_at 0 k (exports_of old n.0)) (sym is_given) ∙ e.1 in
    let import_fits : IfSome (named_at 0 m.import (imports_of old s.0)) (λ i. IsSubtype old.types (e.0).1 old.types i.1) =
    subst (λ o. IfSome o (λ x. IfSome (named_at 0 m.import (imports_of old s.0)) (λ i. IsSubtype old.types x.1 old.types i.1))) exported nodes in
    let by_kind : IfSome (named_at 0 m.import (imports_of old s.0)) (λ i. IsSubtype old.types (a.0).item_kind old.types i.1) =
    subst (λ k. IfSome (named_at 0 m.import (imports_of old s.0)) (λ i. IsSubtype old.types k old.types i.1)) (sym item) import_fits in
    let by_name : IfSome (named_at 0 taken (imports_of old s.0)) (λ i. IsSubtype old.types (a.0).item_kind old.types i.1) =
    subst (λ k. IfSome (named_at 0 k (imports_of old s.0)) (λ i. IsSubtype old.types (a.0).item_kind old.types i.1)) (sym is_taken) by_kind in
    let by_list : IfSome (import_named mid s_mid.0 taken) (λ i. IsSubtype old.types (a.0).item_kind old.types i.1) =
    subst (λ l. IfSome (named_at 0 taken l) (λ i. IsSubtype old.types (a.0).item_kind old.types i.1)) (sym (imports-same old mid s.0 s_mid.0 kept.types kept.slots (kept.same socket s.0 s_mid.0 s.1 s_mid.1).1)) by_name in
    let by_types : IfSome (import_named mid s_mid.0 taken) (λ i. IsSubtype mid.types (a.0).item_kind mid.types i.1) =
    subst (λ c. IfSome (import_named mid s_mid.0 taken) (λ i. IsSubtype c (a.0).item_kind c i.1)) (sym kept.types) by_list in
    subst (λ o. IfSome o (λ n. IfSome (node_at mid alias) (λ given. IfSome (import_named mid n taken) (λ e. IsSubtype mid.types given.item_kind mid.types e.1)))) (sym s_mid.1)
    (subst (λ o. IfSome o (λ given. IfSome (import_named mid s_mid.0 taken) (λ e. IsSubtype mid.types given.item_kind mid.types e.1))) (sym a.1) by_types)

-- the node of a socket keeps its package
pub node-kept : (old new : Graph) (node : NodeId) (socket : PackageId) → Keeps old new → IsNodeOf old node socket → IsNodeOf new node socket
node-kept old new node socket kept of =
    let n = some-and (node_at old node) (λ n. n.owner ≡ Some socket) of in
    let t = some-of (node_at new node) (kept.nodes node (ap is_some n.1)) in
    subst (λ o. IsSomeAnd o (λ n. n.owner ≡ Some socket)) (sym t.1) ((kept.same node n.0 t.0 n.1 t.1).1 ∙ n.2)

pub node-there : (g : Graph) (node : NodeId) (socket : PackageId) → IsNodeOf g node socket → IsSome (node_at g node)
node-there g node socket of = let n = some-and (node_at g node) (λ n. n.owner ≡ Some socket) of in ap is_some n.1

-- a new instance is of its package
pub node-made : (old new : Graph) (id : PackageId) (n : NodeId) → IsSome (package_at old id) → Instantiates old id (Ok n) new → IsNodeOf new n id
node-made old new id n there made =
    let p = some-of (package_at old id) there in
    let step : AddsNode old n (instance_node id p.0) new = subst (λ o. IfSome o (λ p. AddsNode old n (instance_node id p) new)) p.1 made in
    let is : node_at new n ≡ Some (instance_node id p.0) = ap (λ (k : Graph). node_at k n) step.2 ∙ insert-same old.nodes n.0 (instance_node id p.0) in
    subst (λ o. IsSomeAnd o (λ n. n.owner ≡ Some id)) (sym is) refl
