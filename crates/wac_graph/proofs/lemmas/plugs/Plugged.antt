-- What the plugs answer whose matches win: want of memory, or that all were plugged in.
use Rattle.std.proofs.Common.{◌≡◌, ℕ, suc, List, [], ◌∷◌, length, slice_get, true, refl, ap, ◌∙◌, sym, subst, Some, Ok, Err, IsErr, IsSome, IfSome, is_some, ◌⊎◌, inl, inr, arith}
use Rattle.std.specs.FinMap as map
use Rattle.std.specs.FinSet as set
use Rattle.std.proofs.lemmas.Bool.{false≢true}
use Rattle.wac_types_shapes.specs.primitives.Name.{Name}
use Rattle.wac_types_shapes.specs.shapes.Named.{named_at, NoNameTwice}
use Rattle.wac_types_shapes.specs.declared.shapes.component.ItemKind.{ItemKind}
use Rattle.wac_types_collection.specs.collection.Collection.{Collection, interface_exports, world_imports}
use Rattle.wac_types_collection.specs.collection.Package.{PackageParts}
use Rattle.wac_edges.specs.declared.edges.Edge.{Edge}
use Rattle.wac_edges.specs.Edge.{alias_edge, argument_edge}
use Rattle.wac_edges.specs.declared.node.NodeId.{NodeId}
use Rattle.wac_graph_model.specs.declared.nodes.packages.PackageId.{PackageId}
use Rattle.wac_graph_model.specs.nodes.Graph.{Graph, node_at, package_at}
use Rattle.wac_graph_model.specs.nodes.Sound.{IsSound}
use Rattle.wac_graph_model.specs.nodes.Steps.{AddsNode, Instantiates, instance_node}
use Rattle.wac_graph.specs.declared.plugs.errors.PlugError.TheVariants.{OutOfMemory}
use Rattle.wac_graph.specs.plugs.Matching.{Match, PlugMatches, IsMatch, AreMatches, AreAllMatches, imports_of_package, exports_of_package}
use Rattle.wac_graph.specs.plugs.Plugging.{Answer, InOrder, PlugsIn}
use Rattle.wac_graph.specs.plugs.Precedence.{taken_after, winning, with_any, wired}
use Rattle.wac_graph.specs.private.plugs.Ready.{AreNamed}
use Rattle.wac_graph.proofs.lemmas.plugs.Targets.{one-target}
use Rattle.wac_graph.proofs.lemmas.plugs.Steps.{some-of}
use Rattle.wac_graph.proofs.lemmas.plugs.Each.{imports-of}
use Rattle.wac_graph.proofs.lemmas.plugs.Wired.{SourcesThere, fresh, insert-same, vacant-keeps, insert-there}
use Rattle.wac_graph.proofs.lemmas.plugs.Deciding.{IsWiring, AreWirable, AreUnaliased, wires-decide}
use Rattle.wac_graph.proofs.lemmas.plugs.Alike.{exports-alike, wirable-alike}
use Rattle.wac_graph.proofs.lemmas.plugs.Winning.{AreFresh, given_then, are-fresh, given-after}
use Rattle.wac_graph.proofs.lemmas.plugs.Wirable.{wirable, wirable-winning}

ok-is-no-refusal : (r : Answer) → r ≡ Ok tt → IsErr r → ⊥
ok-is-no-refusal (Ok a) is err = false≢true err
ok-is-no-refusal (Err e) is err = cc

memory-is-no-ok : (r : Answer) → r ≡ Err OutOfMemory → r ≡ Ok tt → ⊥
memory-is-no-ok r a b = let h : Err OutOfMemory ≡ Ok tt = sym a ∙ b in cc

-- an export matches one import at most, so exports have one list of matches
one-match : (types : Collection) (imports : List (Name × ItemKind)) (e : Name × ItemKind) (m n : Match) → IsMatch types imports e m → IsMatch types imports e n → m ≡ n
one-match types imports e m n a b =
    let target = one-target imports e.0 (m.import, a.1.0) (n.import, b.1.0) a.1.1 b.1.1 in
    λ i. record { export = (a.0 ∙ sym b.0) i; import = (ap (λ (t : Name × ItemKind). t.0) target) i }

pub one-matches : (types : Collection) (imports es : List (Name × ItemKind)) (ms ns : List Match) → AreMatches types imports es ms → AreMatches types imports es ns → ms ≡ ns
one-matches types imports [] ms ns a b = a ∙ sym b
one-matches types imports (e ∷ es) ms ns (inl a) (inl b) = one-matches types imports es ms ns a.1 b.1
one-matches types imports (e ∷ es) ms ns (inl a) (inr b) = absurd (a.0 b.0 b.3)
one-matches types imports (e ∷ es) ms ns (inr a) (inl b) = absurd (b.0 a.0 a.3)
one-matches types imports (e ∷ es) ms ns (inr a) (inr b) =
    let first = one-match types imports e a.0 b.0 a.3 b.3 in
    let rest = one-matches types imports es a.1 b.1 a.4 b.4 in
    a.2 ∙ (λ i. first i ∷ rest i) ∙ sym b.2

pub the-node : (old new : Graph) (id : PackageId) (p : PackageParts) (n : NodeId) → package_at old id ≡ Some p → Instantiates old id (Ok n) new → AddsNode old n (instance_node id p) new
the-node old new id p n at h = subst (λ o. IfSome o (λ p. AddsNode old n (instance_node id p) new)) at h

module _ (old new : Graph) (id : PackageId) (p : PackageParts) (n : NodeId) (step : AddsNode old n (instance_node id p) new) where
  edges-are : (e : Edge) → set.contains new.edges e ≡ true → set.contains old.edges e ≡ true
  edges-are e h = sym (ap (λ (k : Graph). set.contains k.edges e) step.2) ∙ h

  instance-there : node_at new n ≡ Some (instance_node id p)
  instance-there = ap (λ (k : Graph). node_at k n) step.2 ∙ insert-same old.nodes n.0 (instance_node id p)

  sources-on : SourcesThere old → SourcesThere new
  sources-on h e has = ap (λ (k : Graph). is_some (map.get k.nodes e.source.0)) step.2 ∙ insert-there old.nodes n.0 (instance_node id p) e.source.0 (h e (edges-are e has))

  unaliased : SourcesThere old → (exports : List (Name × ItemKind)) (ms : List Match) → AreUnaliased new n exports ms
  unaliased h exports [] = tt
  unaliased h exports (m ∷ ms) = ((λ x a at al. fresh old n h step.1 (alias_edge n a x.0) refl (edges-are (alias_edge n a x.0) al)), unaliased h exports ms)

  -- the socket's arguments are as they were
  wiring-on : (s : NodeId) (socket : PackageId) (q : PackageParts) (given : List Name) → IsWiring old s socket q given → IsWiring new s socket q given
  wiring-on s socket q given w = record {
    sources = sources-on w.sources;
    there = ap (λ (k : Graph). node_at k s) step.2 ∙ vacant-keeps old.nodes n.0 s.0 (instance_node id p) (instance_node socket q) step.1 w.there;
    registered = ap (λ (k : Graph). package_at k socket) step.2 ∙ w.registered;
    only = λ name y at sat. w.only name y (sym (ap (λ (k : Graph). named_at 0 name (world_imports k.types q.world)) step.2) ∙ at) (sat.0, edges-are (argument_edge sat.0 s y.0) sat.1);
  }

-- a new instance of the socket has no argument
pub begins : (old made : Graph) (socket : PackageId) (q : PackageParts) (s : NodeId) → IsSound old → package_at old socket ≡ Some q → Instantiates old socket (Ok s) made → IsWiring made s socket q []
begins old made socket q s sound at h = record {
  sources = sources-on old made socket q s step (λ e has. (sound.ends e has).0);
  there = instance-there old made socket q s step;
  registered = ap (λ (k : Graph). package_at k socket) step.2 ∙ at;
  only = λ name y listed sat. absurd (false≢true (sym (ap is_some step.1) ∙ (sound.ends (argument_edge sat.0 s y.0) (edges-are old made socket q s step (argument_edge sat.0 s y.0) sat.1)).1));
}
  where
    step : AddsNode old s (instance_node socket q) made
    step = the-node old made socket q s at h

-- plugs have one list of all matches
pub one-all-matches : (g : Graph) (socket : PackageId) (plugs : List PackageId) (all other : List PlugMatches) → AreAllMatches g socket plugs all → AreAllMatches g socket plugs other → all ≡ other
one-all-matches g socket [] all other a b = a ∙ sym b
one-all-matches g socket (plug ∷ plugs) all other a b =
    let own = one-matches g.types (imports_of_package g socket) (exports_of_package g plug) a.0 b.0 a.3 b.3 in
    let rest = one-all-matches g socket plugs a.1 b.1 a.4 b.4 in
    a.2 ∙ (λ i. record { plug = plug; matches = own i } ∷ rest i) ∙ sym b.2

-- plugs that are packages, whose matches can be wired, and none has an import that is taken
abbrev pub ArePluggable : Graph → PackageParts → List Name → List PlugMatches → Type 0
ArePluggable g q given [] = Unit {0}
ArePluggable g q given (p ∷ ps) =
    ((parts : PackageParts) × (package_at g p.plug ≡ Some parts) × AreWirable g.types (interface_exports g.types parts.instance_type) (world_imports g.types q.world) p.matches × AreFresh given p.matches)
    × ArePluggable g q (given_then given p.matches) ps

with-any : (g : Graph) (q : PackageParts) (given : List Name) (plug : PackageId) (parts : PackageParts) (ms : List Match) (others : List PlugMatches) → package_at g plug ≡ Some parts
    → AreWirable g.types (interface_exports g.types parts.instance_type) (world_imports g.types q.world) ms → AreFresh given ms → ArePluggable g q (given_then given ms) others → ArePluggable g q given (with_any plug ms others)
with-any g q given plug parts [] others at can fresh rest = rest
with-any g q given plug parts (m ∷ ms) others at can fresh rest = ((parts, at, can, fresh), rest)

-- the matches that win are so
module _ (g : Graph) (socket : PackageId) (q : PackageParts) (sound : IsSound g) (registered : package_at g socket ≡ Some q) (once : NoNameTwice (imports_of_package g socket)) where
  pub pluggable : (plugs : List PackageId) (all : List PlugMatches) (taken : List Name) → ((i : ℕ) (id : PackageId) → slice_get plugs i ≡ Some id → IsSome (package_at g id)) → AreNamed g plugs (length plugs)
      → AreAllMatches g socket plugs all → ArePluggable g q taken (wired taken all)
  pluggable [] all taken there named h = subst (λ l. ArePluggable g q taken (wired taken l)) (sym h) tt
  pluggable (plug ∷ plugs) all taken there named h = subst (λ l. ArePluggable g q taken (wired taken l)) (sym h.2) (with-any g q taken plug p.0 (winning taken h.0) (wired (taken_after taken h.0) h.1) p.1 can (are-fresh taken h.0)
      (subst (λ t. ArePluggable g q t (wired (taken_after taken h.0) h.1)) (sym (given-after taken h.0))
      (pluggable plugs h.1 (taken_after taken h.0) (λ i id at. there (suc i) id at) (λ i id below at. named (suc i) id (omega (arith, below)) at) h.4)))
    where
      p : (p : PackageParts) × (package_at g plug ≡ Some p)
      p = some-of (package_at g plug) (there 0 plug refl)

      asked : imports_of_package g socket ≡ world_imports g.types q.world
      asked = imports-of g socket q registered

      can : AreWirable g.types (interface_exports g.types (p.0).instance_type) (world_imports g.types q.world) (winning taken h.0)
      can = wirable-alike g.types (exports_of_package g plug) (interface_exports g.types (p.0).instance_type) (world_imports g.types q.world) (winning taken h.0) (exports-alike g plug p.0 sound p.1)
          (subst (λ is. AreWirable g.types (exports_of_package g plug) is (winning taken h.0)) asked
          (wirable-winning g.types (imports_of_package g socket) (exports_of_package g plug) taken h.0 (wirable g.types (imports_of_package g socket) (exports_of_package g plug) once (named 0 plug (omega arith) refl) h.0 h.3)))

module _ (s : NodeId) (socket : PackageId) (q : PackageParts) where
  -- what one plug answers
  abbrev Outcome : Graph → PlugMatches → List Name → Answer → Graph → Type 0
  Outcome now p given answer new =
      (answer ≡ Err OutOfMemory) ⊎ ((answer ≡ Ok tt) × IsWiring new s socket q (given_then given p.matches) × (new.types ≡ now.types) × (new.slots ≡ now.slots) × (new.exports ≡ now.exports))

  plug-decides : (now new : Graph) (p : PlugMatches) (parts : PackageParts) (given : List Name) (answer : Answer) → IsWiring now s socket q given → package_at now p.plug ≡ Some parts
      → AreWirable now.types (interface_exports now.types parts.instance_type) (world_imports now.types q.world) p.matches → AreFresh given p.matches → PlugsIn s now p answer new → Outcome now p given answer new
  plug-decides now new p parts given answer w at can fresh (inl h) = inl h.0
  plug-decides now new p parts given answer w at can fresh (inr h) =
      elim (wires-decide s socket q p.plug parts h.0 p.matches h.1 given answer new
      (subst (λ (c : Collection). AreWirable c (interface_exports c parts.instance_type) (world_imports c q.world) p.matches) (sym types) can)
      fresh
      (unaliased now h.1 p.plug parts h.0 step w.sources (interface_exports (h.1).types parts.instance_type) p.matches)
      (instance-there now h.1 p.plug parts h.0 step)
      (wiring-on now h.1 p.plug parts h.0 step s socket q given w)
      h.3) [
        | inl memory ↦ inl memory
        | inr done ↦ inr (done.0, done.1.wiring, done.1.types ∙ types, done.1.slots ∙ ap (λ (k : Graph). k.slots) step.2, done.1.exports ∙ ap (λ (k : Graph). k.exports) step.2)
      ]
    where
      step : AddsNode now h.0 (instance_node p.plug parts) h.1
      step = the-node now h.1 p.plug parts h.0 at h.2

      types : (h.1).types ≡ now.types
      types = ap (λ (k : Graph). k.types) step.2

  module _ (old : Graph) where
    decides-in : (p : PlugMatches) (now : Graph) (given : List Name) → now.types ≡ old.types → now.slots ≡ old.slots
        → ((parts : PackageParts) × (package_at old p.plug ≡ Some parts) × AreWirable old.types (interface_exports old.types parts.instance_type) (world_imports old.types q.world) p.matches × AreFresh given p.matches)
        → IsWiring now s socket q given → (r : Answer) (k : Graph) → PlugsIn s now p r k → Outcome now p given r k
    decides-in p now given types slots can w r k one =
        plug-decides now k p can.0 given r w (ap (λ l. package_at (record now { slots = l }) p.plug) slots ∙ can.1)
        (subst (λ (c : Collection). AreWirable c (interface_exports c can.0.instance_type) (world_imports c q.world) p.matches) (sym types) can.2) can.3 one

    -- what the plugs answer
    pub plugs-say : (ps : List PlugMatches) (now new : Graph) (given : List Name) (answer : Answer) → now.types ≡ old.types → now.slots ≡ old.slots → ArePluggable old q given ps → IsWiring now s socket q given → InOrder (PlugsIn s) now ps answer new
        → (answer ≡ Err OutOfMemory) ⊎ ((answer ≡ Ok tt) × ((all : List Name) × IsWiring new s socket q all × (new.types ≡ old.types) × (new.exports ≡ now.exports)))
    plugs-say [] now new given answer types slots can w h = inr (h.0, (given, subst (λ (k : Graph). IsWiring k s socket q given) (sym h.1) w, ap (λ (k : Graph). k.types) h.1 ∙ types, ap (λ (k : Graph). k.exports) h.1))
    plugs-say (p ∷ ps) now new given answer types slots can w (inl h) = elim (decides-in p now given types slots can.0 w answer new h.1) [
      | inl memory ↦ inl memory
      | inr done ↦ absurd (ok-is-no-refusal answer done.0 h.0)
    ]
    plugs-say (p ∷ ps) now new given answer types slots can w (inr h) = elim (decides-in p now given types slots can.0 w (Ok tt) h.0 h.1) [
      | inl memory ↦ absurd (memory-is-no-ok (Ok tt) memory refl)
      | inr done ↦ elim (plugs-say ps h.0 new (given_then given p.matches) answer (done.2 ∙ types) (done.3 ∙ slots) can.1 done.1 h.2) [
        | inl memory ↦ inl memory
        | inr all ↦ inr (all.0, (all.1.0, all.1.1, all.1.2, all.1.3 ∙ done.4))
      ]
    ]
