-- What `plug` answers, by the matches that it found.
use Rattle.std.proofs.Common.{◌≡◌, ℕ, List, [], length, slice_get, refl, ap, ◌∙◌, sym, subst, Some, Result, Ok, Err, IsSome, is_some, ◌⊎◌, inl, inr}
use Rattle.wac_types_shapes.specs.primitives.Name.{Name}
use Rattle.wac_types_shapes.specs.shapes.Named.{names_of, NoNameTwice}
use Rattle.wac_types_collection.specs.collection.Package.{PackageParts}
use Rattle.wac_graph_model.specs.declared.nodes.errors.ExportError.{ExportError}
use Rattle.wac_graph_model.specs.declared.nodes.packages.PackageId.{PackageId}
use Rattle.wac_graph_model.specs.nodes.ExternName.{IsExportDecided}
use Rattle.wac_graph_model.specs.nodes.Graph.{Graph, package_at}
use Rattle.wac_graph_model.specs.nodes.Sound.{IsSound}
use Rattle.wac_graph_model.specs.nodes.Steps.{Instantiates}
use Rattle.wac_edges.specs.declared.node.NodeId.{NodeId}
use Rattle.wac_graph.specs.declared.plugs.precedence.PlugPairs.{PlugPairs}
use Rattle.wac_graph.specs.declared.plugs.errors.PlugError.{PlugError}
use Rattle.wac_graph.specs.declared.plugs.errors.PlugError.TheVariants.{GraphError, NoPlugHappened, OutOfMemory}
use Rattle.wac_graph.specs.declared.plugs.errors.PlugFault.{PlugFault}
use Rattle.wac_graph.specs.declared.plugs.errors.PlugFault.TheVariants.{Alias, Argument, Export}
use Rattle.wac_graph.specs.plugs.Matching.{PlugMatches, AreAllMatches, NothingMatches, imports_of_package, exports_of_package}
use Rattle.wac_graph.specs.plugs.Outcome.{IsFirstRefused, IsFirstFault, IsExportRefused}
use Rattle.wac_graph.specs.plugs.Plugging.{Answer, answer_of, Plugs, PlugsAndExports, PlugsAll, Keeps}
use Rattle.wac_graph.specs.plugs.Precedence.{PlugMatch, wired, passed_over}
use Rattle.wac_graph.specs.private.plugs.Ready.{plugs_at, AreNamed}
use Rattle.wac_graph.proofs.lemmas.plugs.Steps.{instance-keeps}
use Rattle.wac_graph.proofs.lemmas.plugs.Readied.{plugs-kept, all-matches-kept, names-kept, plugs-from}
use Rattle.wac_graph.proofs.lemmas.plugs.Exporting.{fault-of, fault-said, says-refused}
use Rattle.wac_graph.proofs.lemmas.plugs.Nothing.{wired-none, none-wired, says-nothing, nothing-said}
use Rattle.wac_graph.proofs.lemmas.plugs.Plugged.{ArePluggable, pluggable, one-all-matches}

abbrev pub names : Graph → PackageId → List Name
names g socket = names_of (exports_of_package g socket)

-- what is said of the answer without its matches holds of the answer
error-is : {A E : Type 0} (x y : E) → ◌≡◌ {A = Result A E} (Err x) (Err y) → x ≡ y
error-is x y h = cc

is-refused : {A : Type 0} (r : Result A PlugError) → IsExportRefused (answer_of r) ⊎ (answer_of r ≡ Err OutOfMemory) → IsExportRefused r ⊎ (r ≡ Err OutOfMemory)
is-refused (Ok a) (inl h) = absurd h
is-refused (Ok a) (inr h) = cc
is-refused (Err (GraphError (Export f))) (inl h) = inl tt
is-refused (Err (GraphError (Alias f))) (inl h) = absurd h
is-refused (Err (GraphError (Argument f))) (inl h) = absurd h
is-refused (Err NoPlugHappened) (inl h) = absurd h
is-refused (Err OutOfMemory) (inl h) = absurd h
is-refused (Err e) (inr h) = inr (ap Err (error-is e OutOfMemory h))

is-nothing : {A : Type 0} (r : Result A PlugError) → (answer_of r ≡ Err NoPlugHappened) ⊎ (answer_of r ≡ Err OutOfMemory) → (r ≡ Err NoPlugHappened) ⊎ (r ≡ Err OutOfMemory)
is-nothing (Ok a) (inl h) = cc
is-nothing (Ok a) (inr h) = cc
is-nothing (Err e) (inl h) = inl (ap Err (error-is e NoPlugHappened h))
is-nothing (Err e) (inr h) = inr (ap Err (error-is e OutOfMemory h))

module _ (old made new : Graph) (plugs : List PackageId) (socket : PackageId) (q : PackageParts) (sound : IsSound old) (registered : package_at old socket ≡ Some q) (imports : NoNameTwice (imports_of_package old socket))
    (exports : NoNameTwice (exports_of_package old socket)) (there : (i : ℕ) (id : PackageId) → slice_get plugs i ≡ Some id → IsSome (package_at old id)) (decided : (text : Name) → IsExportDecided text)
    (node : NodeId) (instance : Instantiates old socket (Ok node) made) (named_made : AreNamed made plugs (length plugs)) (all : List PlugMatches) (are_made : AreAllMatches made socket plugs all) (ws : List PlugPairs)
    (is_made : plugs_at made socket ws ≡ wired [] all) where
  kept : Keeps old made
  kept = (instance-keeps old made socket node (ap is_some registered) instance).0

  named : AreNamed old plugs (length plugs)
  named = names-kept old made socket kept plugs (length plugs) named_made

  are : AreAllMatches old socket plugs all
  are = all-matches-kept old made socket kept plugs all are_made

  abbrev ps : List PlugMatches
  ps = plugs_at old socket ws

  is : ps ≡ wired [] all
  is = sym (plugs-kept old made socket kept ws) ∙ is_made

  can : ArePluggable old q [] ps
  can = subst (ArePluggable old q []) (sym is) (pluggable old socket q sound registered imports plugs all [] there named are)

  pub over : (passed : List PlugMatch) → passed ≡ passed_over [] all → (other : List PlugMatches) → AreAllMatches old socket plugs other → passed ≡ passed_over [] other
  over passed are_passed other h = are_passed ∙ ap (passed_over []) (one-all-matches old socket plugs all other are h)

  refused : (r : Answer) → Plugs old socket ps r new → (e : ExportError) → IsFirstRefused old (names old socket) e → (NothingMatches old socket plugs → ⊥) → IsExportRefused r ⊎ (r ≡ Err OutOfMemory)
  refused r h e first some = says-refused old socket q sound registered exports new ps r can decided h e first (λ none. some (none-wired old socket plugs all are (sym is ∙ none)))

  only-refused : (f : PlugFault) → Plugs old socket ps (fault-of f) new → IsFirstFault old (names old socket) f × (NothingMatches old socket plugs → ⊥)
  only-refused f h =
      let said = fault-said old socket q sound registered exports new ps f can h in
      (said.0, λ none. said.1 (is ∙ wired-none old socket plugs all [] none are))

  nothing : (r : Answer) → Plugs old socket ps r new → NothingMatches old socket plugs → (r ≡ Err NoPlugHappened) ⊎ (r ≡ Err OutOfMemory)
  nothing r h none = says-nothing old new socket r (subst (λ l. Plugs old socket l r new) (is ∙ wired-none old socket plugs all [] none are) h)

  only-nothing : Plugs old socket ps (Err NoPlugHappened) new → NothingMatches old socket plugs
  only-nothing h = none-wired old socket plugs all are (sym is ∙ nothing-said old new socket ps h)

  module _ {A : Type 0} (r : Result A PlugError) (done : PlugsAndExports node (names made socket) made (plugs_at made socket ws) (answer_of r) new) where
    h : Plugs old socket ps (answer_of r) new
    h = plugs-from old made socket kept ws node instance (answer_of r) new done

    pub steps : PlugsAll old plugs socket (answer_of r) new
    steps = inr (all, are, subst (λ l. Plugs old socket l (answer_of r) new) is h)

    pub is-refused-so : (e : ExportError) → IsFirstRefused old (names old socket) e → (NothingMatches old socket plugs → ⊥) → IsExportRefused r ⊎ (r ≡ Err OutOfMemory)
    is-refused-so e first some = is-refused r (refused (answer_of r) h e first some)

    pub only-refused-so : (f : PlugFault) → r ≡ Err (GraphError f) → IsFirstFault old (names old socket) f × (NothingMatches old socket plugs → ⊥)
    only-refused-so f err = only-refused f (subst (λ a. Plugs old socket ps (answer_of a) new) err h)

    pub nothing-so : NothingMatches old socket plugs → (r ≡ Err NoPlugHappened) ⊎ (r ≡ Err OutOfMemory)
    nothing-so none = is-nothing r (nothing (answer_of r) h none)

    pub only-nothing-so : r ≡ Err NoPlugHappened → NothingMatches old socket plugs
    only-nothing-so err = only-nothing (subst (λ a. Plugs old socket ps (answer_of a) new) err h)
