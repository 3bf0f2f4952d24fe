-- Nothing matches exactly where that is the answer, want of memory aside.
use Rattle.std.proofs.Common.{◌≡◌, List, [], ◌∷◌, refl, ap, ◌∙◌, sym, Ok, Err, Result, IsErr, ◌⊎◌, inl, inr}
use Rattle.std.proofs.lemmas.Bool.{false≢true}
use Rattle.wac_types_shapes.specs.primitives.Name.{Name}
use Rattle.wac_types_shapes.specs.shapes.Named.{names_of}
use Rattle.wac_types_shapes.specs.declared.shapes.component.ItemKind.{ItemKind}
use Rattle.wac_types_collection.specs.collection.Collection.{Collection}
use Rattle.wac_graph_model.specs.declared.nodes.errors.AliasError.{AliasError}
use Rattle.wac_graph_model.specs.declared.nodes.errors.AliasError.TheVariants as alias_error
use Rattle.wac_graph_model.specs.declared.nodes.errors.ExportError.{ExportError}
use Rattle.wac_graph_model.specs.declared.nodes.errors.ExportError.TheVariants as export_error
use Rattle.wac_graph_model.specs.declared.nodes.errors.InstantiationArgumentError.{InstantiationArgumentError}
use Rattle.wac_graph_model.specs.declared.nodes.errors.InstantiationArgumentError.TheVariants as argument_error
use Rattle.wac_edges.specs.declared.node.NodeId.{NodeId}
use Rattle.wac_graph_model.specs.declared.nodes.packages.PackageId.{PackageId}
use Rattle.wac_graph_model.specs.nodes.Graph.{Graph}
use Rattle.wac_graph.specs.declared.plugs.errors.PlugError.{PlugError}
use Rattle.wac_graph.specs.declared.plugs.errors.PlugError.TheVariants.{NoPlugHappened, OutOfMemory}
use Rattle.wac_graph.specs.plugs.Refusals.{of_alias, of_argument, of_export}
use Rattle.wac_graph.specs.plugs.Matching.{Match, PlugMatches, AreMatches, AreAllMatches, NothingMatches, imports_of_package, exports_of_package}
use Rattle.wac_graph.specs.plugs.Precedence.{taken_after, winning, with_any, wired}
use Rattle.wac_graph.specs.plugs.Plugging.{Answer, answered, InOrder, Wires, PassesOn, PlugsIn, Plugs, Ends}

more-is-some : {A : Type 0} (x : A) (xs : List A) → [] ≡ x ∷ xs → ⊥
more-is-some x xs h = cc

ok-is-no-refusal : (r : Answer) → r ≡ Ok tt → IsErr r → ⊥
ok-is-no-refusal (Ok a) is err = false≢true err
ok-is-no-refusal (Err e) is err = cc

-- where nothing matches no other matches are there
none-only : (types : Collection) (imports es : List (Name × ItemKind)) (ms : List Match) → AreMatches types imports es [] → AreMatches types imports es ms → ms ≡ []
none-only types imports [] ms none h = h
none-only types imports (e ∷ es) ms (inl none) (inl h) = none-only types imports es ms none.1 h.1
none-only types imports (e ∷ es) ms (inl none) (inr h) = absurd (none.0 h.0 h.3)
none-only types imports (e ∷ es) ms (inr none) h = absurd (more-is-some none.0 none.1 none.2)

-- where nothing matches nothing is wired
pub wired-none : (g : Graph) (socket : PackageId) (plugs : List PackageId) (all : List PlugMatches) (taken : List Name) → NothingMatches g socket plugs → AreAllMatches g socket plugs all → wired taken all ≡ []
wired-none g socket [] all taken none h = ap (wired taken) h
wired-none g socket (plug ∷ plugs) all taken none h =
    let own : h.0 ≡ [] = none-only _ _ _ h.0 none.0 h.3 in
    ap (wired taken) h.2 ∙ ap (λ ms. with_any plug (winning taken ms) (wired (taken_after taken ms) h.1)) own ∙ wired-none g socket plugs h.1 taken none.1 h.4

-- and where nothing is wired nothing matches
pub none-wired : (g : Graph) (socket : PackageId) (plugs : List PackageId) (all : List PlugMatches) → AreAllMatches g socket plugs all → wired [] all ≡ [] → NothingMatches g socket plugs
none-wired g socket [] all h none = tt
none-wired g socket (plug ∷ plugs) all h none = by h.0 h.3 (λ is. none-wired g socket plugs h.1 h.4 is) (ap (wired []) (sym h.2) ∙ none) where
  by : (ms : List Match) → AreMatches g.types (imports_of_package g socket) (exports_of_package g plug) ms → (wired [] h.1 ≡ [] → NothingMatches g socket plugs) → wired [] (record { plug = plug; matches = ms } ∷ h.1) ≡ []
      → NothingMatches g socket (plug ∷ plugs)
  by [] are later is = (are, later is)
  by (m ∷ ms) are later is = cc

pub says-nothing : (old new : Graph) (socket : PackageId) (r : Answer) → Plugs old socket [] r new → (r ≡ Err NoPlugHappened) ⊎ (r ≡ Err OutOfMemory)
says-nothing old new socket r (inl h) = inr h.0
says-nothing old new socket r (inr h) = by h.3 where
  by : (IsErr r × InOrder (PlugsIn h.0) h.1 [] r new) ⊎ ((mid : Graph) × InOrder (PlugsIn h.0) h.1 [] (Ok tt) mid × Ends h.0 (names_of (exports_of_package old socket)) mid [] r new)
      → (r ≡ Err NoPlugHappened) ⊎ (r ≡ Err OutOfMemory)
  by (inl refused) = absurd (ok-is-no-refusal r refused.1.0 refused.0)
  by (inr w) = inl w.2.0

abbrev error_of : PlugError → Answer
error_of e = Err e

-- no call on the graph answers that nothing matches
alias-none : (e : AliasError) → of_alias e ≡ NoPlugHappened → ⊥
alias-none (alias_error.NodeIsNotAnInstance node kind) h = cc
alias-none (alias_error.InstanceMissingExport node text) h = cc
alias-none alias_error.OutOfMemory h = cc

argument-none : (e : InstantiationArgumentError) → of_argument e ≡ NoPlugHappened → ⊥
argument-none (argument_error.NodeIsNotAnInstantiation node) h = cc
argument-none (argument_error.InvalidArgumentName node text of_package) h = cc
argument-none (argument_error.ArgumentAlreadyPassed node text) h = cc
argument-none (argument_error.ArgumentTypeMismatch text source) h = cc
argument-none argument_error.OutOfMemory h = cc

export-none : (e : ExportError) → of_export e ≡ NoPlugHappened → ⊥
export-none (export_error.ExportAlreadyExists text node) h = cc
export-none (export_error.InvalidExportName text source) h = cc
export-none export_error.OutOfMemory h = cc

same-error : (e f : PlugError) → error_of e ≡ error_of f → e ≡ f
same-error e f h = cc

not-ok : error_of NoPlugHappened ≡ Ok tt → ⊥
not-ok h = cc

not-memory : error_of NoPlugHappened ≡ error_of OutOfMemory → ⊥
not-memory h = cc

wires-none : (plug socket : NodeId) (old new : Graph) (m : Match) → Wires plug socket old m (Err NoPlugHappened) new → ⊥
wires-none plug socket old new m (inl h) = alias-none h.0 (sym (same-error NoPlugHappened (of_alias h.0) h.2))
wires-none plug socket old new m (inr h) = by h.3.0 h.3.2 where
  by : (r : Result (Unit {0}) InstantiationArgumentError) → Err NoPlugHappened ≡ answered of_argument r → ⊥
  by (Ok a) is = cc
  by (Err e) is = argument-none e (sym (same-error NoPlugHappened (of_argument e) is))

passes-none-of : (socket : NodeId) (old new : Graph) (name : Name) → PassesOn socket old name (Err NoPlugHappened) new → ⊥
passes-none-of socket old new name (inl h) = alias-none h.0 (sym (same-error NoPlugHappened (of_alias h.0) h.2))
passes-none-of socket old new name (inr h) = by h.3.0 h.3.2 where
  by : (r : Result (Unit {0}) ExportError) → Err NoPlugHappened ≡ answered of_export r → ⊥
  by (Ok a) is = cc
  by (Err e) is = export-none e (sym (same-error NoPlugHappened (of_export e) is))

in-order-none : {A : Type 0} (Step : Graph → A → Answer → Graph → Type 0) → ((old new : Graph) (a : A) → Step old a (Err NoPlugHappened) new → ⊥) → (xs : List A) (old new : Graph) → InOrder Step old xs (Err NoPlugHappened) new → ⊥
in-order-none Step never [] old new h = not-ok h.0
in-order-none Step never (x ∷ xs) old new (inl h) = never old new x h.1
in-order-none Step never (x ∷ xs) old new (inr h) = in-order-none Step never xs h.0 new h.2

plugs-in-none : (socket : NodeId) (old new : Graph) (p : PlugMatches) → PlugsIn socket old p (Err NoPlugHappened) new → ⊥
plugs-in-none socket old new p (inl h) = not-memory h.0
plugs-in-none socket old new p (inr h) = in-order-none (Wires h.0 socket) (λ a b x w. wires-none h.0 socket a b x w) p.matches h.1 new h.3

pub nothing-said : (old new : Graph) (socket : PackageId) (ps : List PlugMatches) → Plugs old socket ps (Err NoPlugHappened) new → ps ≡ []
nothing-said old new socket ps (inl h) = absurd (not-memory h.0)
nothing-said old new socket ps (inr h) = by h.3 where
  by : (IsErr (error_of NoPlugHappened) × InOrder (PlugsIn h.0) h.1 ps (Err NoPlugHappened) new)
      ⊎ ((mid : Graph) × InOrder (PlugsIn h.0) h.1 ps (Ok tt) mid × Ends h.0 (names_of (exports_of_package old socket)) mid ps (Err NoPlugHappened) new)
      → ps ≡ []
  by (inl refused) = absurd (in-order-none (PlugsIn h.0) (λ a b x w. plugs-in-none h.0 a b x w) ps h.1 new refused.1)
  by (inr w) = ended ps w.2 where
    ended : (ps : List PlugMatches) → Ends h.0 (names_of (exports_of_package old socket)) w.0 ps (Err NoPlugHappened) new → ps ≡ []
    ended [] end = refl
    ended (p ∷ ps) end = absurd (in-order-none (PassesOn h.0) (λ a b x v. passes-none-of h.0 a b x v) (names_of (exports_of_package old socket)) w.0 new end)
