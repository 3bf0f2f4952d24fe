-- Why calls are refused.
use Rattle.std.proofs.Common.{◌≡◌, ◌∙◌, ◌⊎◌, ◌∷◌, [], ap, sym, subst, refl, inl, inr, ℕ, List, Option, Some, None, Result, Ok, Err, slice_get, zero, suc}
use Rattle.std.specs.Prelude.{IsSome, IfSome, MatchResult}
use Rattle.std.specs.Result.{IsErrAnd}
use Rattle.std.specs.Borrow.{Bor}
use Rattle.std.specs.List.{AllZip}
use Rattle.std.proofs.lemmas.Bool.{false≢true}
use Rattle.wac_types_shapes.specs.primitives.Name.{Name}
use Rattle.wac_types_shapes.specs.shapes.Kinds.{kind_type}
use Rattle.wac_types_shapes.specs.keys.Key.{VersionParts}
use Rattle.wac_types_shapes.specs.declared.shapes.component.ItemKind.{ItemKind}
use Rattle.wac_types_shapes.specs.declared.shapes.component.Resource.{Resource}
use Rattle.wac_types_shapes.specs.declared.shapes.component.WorldId.{WorldId}
use Rattle.wac_types_shapes.specs.declared.shapes.core_types.CoreExtern.{CoreExtern}
use Rattle.wac_types_collection.specs.collection.Uses.{AnswersBy, mention_fault}
use Rattle.wac_types_collection.specs.collection.Collection.{with_resource, resource_mentions}
use Rattle.wac_types_collection.specs.declared.collection.collection.AddTypeError.{AddTypeError}
use Rattle.wac_types_collection.specs.declared.collection.collection.AddTypeError.TheVariants as add_type_error
use Rattle.wac_edges.specs.declared.node.NodeId.{NodeId}
use Rattle.wac_graph_model.specs.declared.nodes.packages.PackageId.{PackageId}
use Rattle.wac_graph_model.specs.nodes.Graph.{Graph, node_at, package_at}
use Rattle.wac_script.specs.declared.labels.faults.WordError.{WordError}
use Rattle.wac_script.specs.declared.labels.faults.WordError.TheVariants as word_error
use Rattle.wac_script.specs.declared.labels.things.Thing.{Thing}
use Rattle.wac_script.specs.declared.labels.things.Thing.TheVariants as thing
use Rattle.wac_script.specs.declared.lines.calls.Call.{Call}
use Rattle.wac_script.specs.declared.lines.calls.Call.TheVariants as said
use Rattle.wac_script.specs.declared.lines.calls.Change.{Change}
use Rattle.wac_script.specs.declared.lines.calls.PackageWords.{PackageWords}
use Rattle.wac_script.specs.declared.refusal.Refusal.{Refusal}
use Rattle.wac_script.specs.declared.refusal.Refusal.TheVariants as refusal
use Rattle.wac_script.specs.lines.Words.{Word, spelled}
use Rattle.wac_script.specs.labels.Things.{Labelling, IsThing, IsWordMemory, SayNone}
use Rattle.wac_script.specs.labels.There.{IsNode, IsPackage, ArePackages}
use Rattle.wac_script.specs.labels.Shapes.{IsAliasOf, IsOwnedAliasOf}
use Rattle.wac_script.specs.private.Unread.{IsUnread}
use Rattle.wac_script.specs.private.Resources.{PutsResource}
use Rattle.wac_script.specs.Steps.{Adds, Makes, with_types, ArePackageWords}
use Rattle.wac_script.specs.Refusals.{refused_by, IsErrorFor, SaysNothing, RefusesPlain, RefusesPackage, RefusesChange, ChangesNothing, AnswersPlain, Answers, Changes}
use Rattle.wac_script.proofs.LabelLemmas.{one-thing}

-- The words of a call that has a label, but no package, are refused.
pub plain-words : (labels : Labelling) (cores : List CoreExtern) (g : Graph) (call : Call) {N : Type 0} (r : Result Thing Refusal) (e : WordError)
    → IsErrAnd r (λ x. x ≡ refused_by e) → IsUnread N e → (N → SaysNothing labels cores g call) → AnswersPlain labels cores g call r g
plain-words labels cores g call (Ok t) e h reason f = absurd h
plain-words labels cores g call (Err x) word_error.OutOfMemory h reason f = subst (λ y. RefusesPlain labels cores g call y g) (sym h) refl
plain-words labels cores g call (Err x) (word_error.Word fault word) h reason f =
    subst (λ y. RefusesPlain labels cores g call y g) (sym h) (elim reason [ inl m ↦ absurd m | inr n ↦ (f n, refl) ])
plain-words labels cores g call (Err x) (word_error.Shape source) h reason f =
    subst (λ y. RefusesPlain labels cores g call y g) (sym h) (elim reason [ inl m ↦ absurd m | inr n ↦ (f n, refl) ])

-- Memory runs out for it.
pub plain-memory : (labels : Labelling) (cores : List CoreExtern) (old new : Graph) (call : Call) (r : Result Thing Refusal)
    → IsErrAnd r (λ x. x ≡ refusal.OutOfMemory) → new ≡ old → AnswersPlain labels cores old call r new
plain-memory labels cores old new call (Ok t) h same = absurd h
plain-memory labels cores old new call (Err x) h same = subst (λ y. RefusesPlain labels cores old call y new) (sym h) same

-- The words of a package are refused.
pub package-words : (labels : Labelling) (cores : List CoreExtern) (of_file : List ℕ) (g : Graph) (p : PackageWords) {N : Type 0} (r : Result Thing Refusal) (e : WordError)
    → IsErrAnd r (λ x. x ≡ refused_by e) → IsUnread N e → (N → (v : Option VersionParts) (bytes : List ℕ) (w : WorldId) → ArePackageWords labels of_file g p v bytes w → ⊥)
    → Answers labels cores of_file g (said.Package p) r g
package-words labels cores of_file g p (Ok t) e h reason f = absurd h
package-words labels cores of_file g p (Err x) word_error.OutOfMemory h reason f = subst (λ y. RefusesPackage labels of_file g p y g) (sym h) refl
package-words labels cores of_file g p (Err x) (word_error.Word fault word) h reason f =
    subst (λ y. RefusesPackage labels of_file g p y g) (sym h) (elim reason [ inl m ↦ absurd m | inr n ↦ (f n, refl) ])
package-words labels cores of_file g p (Err x) (word_error.Shape source) h reason f =
    subst (λ y. RefusesPackage labels of_file g p y g) (sym h) (elim reason [ inl m ↦ absurd m | inr n ↦ (f n, refl) ])

-- The words of a call that has no label are refused.
pub change-words : (labels : Labelling) (g : Graph) (c : Change) {N : Type 0} (r : Result (Unit {0}) Refusal) (e : WordError)
    → IsErrAnd r (λ x. x ≡ refused_by e) → IsUnread N e → (N → ChangesNothing labels g c) → Changes labels g c r g
change-words labels g c (Ok t) e h reason f = absurd h
change-words labels g c (Err x) word_error.OutOfMemory h reason f = subst (λ y. RefusesChange labels g c y g) (sym h) refl
change-words labels g c (Err x) (word_error.Word fault word) h reason f =
    subst (λ y. RefusesChange labels g c y g) (sym h) (elim reason [ inl m ↦ absurd m | inr n ↦ (f n, refl) ])
change-words labels g c (Err x) (word_error.Shape source) h reason f =
    subst (λ y. RefusesChange labels g c y g) (sym h) (elim reason [ inl m ↦ absurd m | inr n ↦ (f n, refl) ])

pub change-memory : (labels : Labelling) (old new : Graph) (c : Change) (r : Result (Unit {0}) Refusal)
    → IsErrAnd r (λ x. x ≡ refusal.OutOfMemory) → new ≡ old → Changes labels old c r new
change-memory labels old new c (Ok t) h same = absurd h
change-memory labels old new c (Err x) h same = subst (λ y. RefusesChange labels old c y new) (sym h) same

-- The collection's error.
pub error-for : (Id : Type 0) (fault : Option AddTypeError) (e : AddTypeError) → AnswersBy {Id = Id} fault (Err e) → IsErrorFor fault e
error-for Id fault add_type_error.OutOfMemory h = h
error-for Id fault add_type_error.NotHeld h = h
error-for Id fault add_type_error.UsedInterfaceUnnamed h = h
error-for Id fault add_type_error.UsedTypeMissing h = h
error-for Id fault add_type_error.UsedTypeDiffers h = h
error-for Id fault add_type_error.ResourceMisnamed h = h

-- The error of a package's instance type is handed on.
pub package-type : (labels : Labelling) (cores : List CoreExtern) (of_file : List ℕ) (old new : Graph) (p : PackageWords) (r : Result Thing Refusal) (e : AddTypeError)
    → IsErrAnd r (λ x. x ≡ refusal.Type e) → RefusesPackage labels of_file old p (refusal.Type e) new → Answers labels cores of_file old (said.Package p) r new
package-type labels cores of_file old new p (Ok t) e h refused = absurd h
package-type labels cores of_file old new p (Err x) e h refused = subst (λ y. RefusesPackage labels of_file old p y new) (sym h) refused

-- A resource that is put is what the call makes.
pub resource-made : (labels : Labelling) (cores : List CoreExtern) (old new : Graph) (name : Bor (List ℕ)) (r : Resource) (result : Result Thing Refusal)
    → r ≡ record { name = name.now; alias = None } → PutsResource r old result new → AnswersPlain labels cores old (said.Resource name) result new
resource-made labels cores old new name r (Ok (thing.Resource id)) is h = (h.0, h.1 ∙ ap (λ x. with_types old (with_resource old.types x)) is)
resource-made labels cores old new name r (Ok (thing.Value _)) is h = absurd h
resource-made labels cores old new name r (Ok (thing.Func _)) is h = absurd h
resource-made labels cores old new name r (Ok (thing.Interface _)) is h = absurd h
resource-made labels cores old new name r (Ok (thing.World _)) is h = absurd h
resource-made labels cores old new name r (Ok (thing.Core _)) is h = absurd h
resource-made labels cores old new name r (Ok (thing.Module _)) is h = absurd h
resource-made labels cores old new name r (Ok (thing.Package _)) is h = absurd h
resource-made labels cores old new name r (Ok (thing.Node _)) is h = absurd h
resource-made labels cores old new name r (Err (refusal.Type e)) is h = (subst (λ x. IsErrorFor (mention_fault old.types (resource_mentions x)) e) is h.0, h.1)
resource-made labels cores old new name r (Err (refusal.Words _)) is h = absurd h
resource-made labels cores old new name r (Err (refusal.Register _)) is h = absurd h
resource-made labels cores old new name r (Err (refusal.Import _)) is h = absurd h
resource-made labels cores old new name r (Err (refusal.Define _)) is h = absurd h
resource-made labels cores old new name r (Err (refusal.Alias _)) is h = absurd h
resource-made labels cores old new name r (Err (refusal.Argument _)) is h = absurd h
resource-made labels cores old new name r (Err (refusal.Export _)) is h = absurd h
resource-made labels cores old new name r (Err (refusal.Plug _)) is h = absurd h
resource-made labels cores old new name r (Err refusal.OutOfMemory) is h = absurd h

-- The same of an alias.
pub alias-made : (labels : Labelling) (cores : List CoreExtern) (old new : Graph) (name source : Bor (List ℕ)) (r : Resource) (result : Result Thing Refusal)
    → IsAliasOf labels name.now source.now r → PutsResource r old result new → AnswersPlain labels cores old (said.ResourceAlias name source) result new
alias-made labels cores old new name source r (Ok (thing.Resource id)) is h = (r, is, h.0, h.1)
alias-made labels cores old new name source r (Ok (thing.Value _)) is h = absurd h
alias-made labels cores old new name source r (Ok (thing.Func _)) is h = absurd h
alias-made labels cores old new name source r (Ok (thing.Interface _)) is h = absurd h
alias-made labels cores old new name source r (Ok (thing.World _)) is h = absurd h
alias-made labels cores old new name source r (Ok (thing.Core _)) is h = absurd h
alias-made labels cores old new name source r (Ok (thing.Module _)) is h = absurd h
alias-made labels cores old new name source r (Ok (thing.Package _)) is h = absurd h
alias-made labels cores old new name source r (Ok (thing.Node _)) is h = absurd h
alias-made labels cores old new name source r (Err (refusal.Type e)) is h = ((r, is, h.0), h.1)
alias-made labels cores old new name source r (Err (refusal.Words _)) is h = absurd h
alias-made labels cores old new name source r (Err (refusal.Register _)) is h = absurd h
alias-made labels cores old new name source r (Err (refusal.Import _)) is h = absurd h
alias-made labels cores old new name source r (Err (refusal.Define _)) is h = absurd h
alias-made labels cores old new name source r (Err (refusal.Alias _)) is h = absurd h
alias-made labels cores old new name source r (Err (refusal.Argument _)) is h = absurd h
alias-made labels cores old new name source r (Err (refusal.Export _)) is h = absurd h
alias-made labels cores old new name source r (Err (refusal.Plug _)) is h = absurd h
alias-made labels cores old new name source r (Err refusal.OutOfMemory) is h = absurd h

-- The same of an alias of a resource that an interface owns.
pub owned-made : (labels : Labelling) (cores : List CoreExtern) (old new : Graph) (name source owner : Bor (List ℕ)) (r : Resource) (result : Result Thing Refusal)
    → IsOwnedAliasOf labels name.now source.now owner.now r → PutsResource r old result new → AnswersPlain labels cores old (said.OwnedAlias name source owner) result new
owned-made labels cores old new name source owner r (Ok (thing.Resource id)) is h = (r, is, h.0, h.1)
owned-made labels cores old new name source owner r (Ok (thing.Value _)) is h = absurd h
owned-made labels cores old new name source owner r (Ok (thing.Func _)) is h = absurd h
owned-made labels cores old new name source owner r (Ok (thing.Interface _)) is h = absurd h
owned-made labels cores old new name source owner r (Ok (thing.World _)) is h = absurd h
owned-made labels cores old new name source owner r (Ok (thing.Core _)) is h = absurd h
owned-made labels cores old new name source owner r (Ok (thing.Module _)) is h = absurd h
owned-made labels cores old new name source owner r (Ok (thing.Package _)) is h = absurd h
owned-made labels cores old new name source owner r (Ok (thing.Node _)) is h = absurd h
owned-made labels cores old new name source owner r (Err (refusal.Type e)) is h = ((r, is, h.0), h.1)
owned-made labels cores old new name source owner r (Err (refusal.Words _)) is h = absurd h
owned-made labels cores old new name source owner r (Err (refusal.Register _)) is h = absurd h
owned-made labels cores old new name source owner r (Err (refusal.Import _)) is h = absurd h
owned-made labels cores old new name source owner r (Err (refusal.Define _)) is h = absurd h
owned-made labels cores old new name source owner r (Err (refusal.Alias _)) is h = absurd h
owned-made labels cores old new name source owner r (Err (refusal.Argument _)) is h = absurd h
owned-made labels cores old new name source owner r (Err (refusal.Export _)) is h = absurd h
owned-made labels cores old new name source owner r (Err (refusal.Plug _)) is h = absurd h
owned-made labels cores old new name source owner r (Err refusal.OutOfMemory) is h = absurd h

-- A call that is no package reads no file.
pub without-file : (labels : Labelling) (cores : List CoreExtern) (of_file : List ℕ) (old new : Graph) (call : Call) (r : Result Thing Refusal)
    → ((t : Thing) → Adds labels cores old call t new → Makes labels cores of_file old call t new)
    → ((e : Refusal) → RefusesPlain labels cores old call e new → Answers labels cores of_file old call (Err e) new)
    → AnswersPlain labels cores old call r new → Answers labels cores of_file old call r new
without-file labels cores of_file old new call (Ok t) plain refused h = plain t h
without-file labels cores of_file old new call (Err e) plain refused h = refused e h

-- A label of a node that is not there is that of no node.
one-node : (labels : Labelling) (label : Name) (n m : NodeId) → IsThing labels label (thing.Node n) → IsThing labels label (thing.Node m) → n ≡ m
one-node labels label n m h k = let same : thing.Node n ≡ thing.Node m = one-thing labels label (thing.Node n) (thing.Node m) h k in cc

pub node-missing : (labels : Labelling) (label : Name) (g : Graph) (n : NodeId) → IsThing labels label (thing.Node n) → node_at g n ≡ None → SayNone (IsNode labels g label)
node-missing labels label g n is none m h =
    false≢true (subst (λ o. IsSome o) (ap (node_at g) (one-node labels label m n h.0 is) ∙ none) h.1)

-- The same of packages.
one-package : (labels : Labelling) (label : Name) (p q : PackageId) → IsThing labels label (thing.Package p) → IsThing labels label (thing.Package q) → p ≡ q
one-package labels label p q h k = let same : thing.Package p ≡ thing.Package q = one-thing labels label (thing.Package p) (thing.Package q) h k in cc

pub package-missing : (labels : Labelling) (label : Name) (g : Graph) (p : PackageId) → IsThing labels label (thing.Package p) → package_at g p ≡ None → SayNone (IsPackage labels g label)
package-missing labels label g p is none q h =
    false≢true (subst (λ o. IsSome o) (ap (package_at g) (one-package labels label q p h.0 is) ∙ none) h.1)

-- The same of worlds.
pub one-world : (labels : Labelling) (label : Name) (v w : WorldId) → IsThing labels label (thing.World v) → IsThing labels label (thing.World w) → v ≡ w
one-world labels label v w h k = let same : thing.World v ≡ thing.World w = one-thing labels label (thing.World v) (thing.World w) h k in cc

-- Each of the packages is there.
pub packages-there : (labels : Labelling) (g : Graph) (words : List Word) (ids : List PackageId) → ArePackages labels g words ids
    → (i : ℕ) (id : PackageId) → slice_get ids i ≡ Some id → IsSome (package_at g id)
packages-there labels g [] [] are i id at = absurd (none i id at)
  where
    none : (i : ℕ) (id : PackageId) → slice_get [] i ≡ Some id → ⊥
    none i id e = cc
packages-there labels g [] (p ∷ ids) are i id at = absurd are
packages-there labels g (w ∷ words) [] are i id at = absurd are
packages-there labels g (w ∷ words) (p ∷ ids) are zero id at = subst (λ x. IsSome (package_at g x)) (first p id at) are.0.1
  where
    first : (p id : PackageId) → Some p ≡ Some id → p ≡ id
    first p id e = cc
packages-there labels g (w ∷ words) (p ∷ ids) are (suc i) id at = packages-there labels g words ids are.1 i id at
