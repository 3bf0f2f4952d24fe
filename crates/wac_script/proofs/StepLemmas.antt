-- What calls make of a graph.
use Rattle.std.proofs.Common.{◌≡◌, ◌≢◌, ◌∙◌, ◌⊎◌, ◌++◌, ap, sym, subst, inl, inr, ℕ, List, Option, Some, None, Result, Ok, Err, codes}
use Rattle.std.proofs.lemmas.List.{append_cancel_left}
use Rattle.std.specs.Option.{option_copied, option_map}
use Rattle.std.specs.Borrow.{Bor}
use Rattle.hex.specs.Hex.{decode_of}
use Rattle.hex.specs.declared.error.FromHexError.{FromHexError}
use Rattle.hex.specs.declared.error.FromHexError.TheVariants.{OutOfMemory}
use Rattle.semver.specs.Identifiers.{parts_of}
use Rattle.semver.specs.Parse.{version_parts, memory_error}
use Rattle.semver.specs.declared.Version.{Version}
use Rattle.semver.specs.declared.error.Error.{Error}
use Rattle.wac_graph_model.specs.declared.nodes.packages.PackageId.{PackageId}
use Rattle.wac_graph_model.specs.declared.nodes.errors.RegisterPackageError.{RegisterPackageError}
use Rattle.wac_types_collection.specs.collection.Collection.{Collection}
use Rattle.wac_types_collection.specs.collection.Package.{PackageParts}
use Rattle.wac_graph_model.specs.nodes.Graph.{Graph}
use Rattle.wac_graph_model.specs.nodes.Steps.{Registers}
use Rattle.wac_script.specs.lines.Words.{Word}
use Rattle.wac_script.specs.labels.Things.{SayNone}
use Rattle.wac_script.specs.Steps.{with_types, AreBytes, IsVersion}

-- A graph whose collection has grown.
pub grown : (old new : Graph) (types : Collection) → new.types ≡ types → new ≡ record old { types = new.types } → new ≡ with_types old types
grown old new types is kept = kept ∙ ap (with_types old) is

-- The parts of a borrowed version.
pub parts-of-ref : (r : Option (Bor Version)) (o : Option Version) → option_copied r ≡ o → option_map (λ v. parts_of v.now) r ≡ option_map parts_of o
parts-of-ref None o e = ap (option_map parts_of) e
parts-of-ref (Some v) o e = ap (option_map parts_of) e

-- A package that is registered, by other words for the graph and the package.
pub registered-as : (mid other new : Graph) (p q : PackageParts) (r : Result PackageId RegisterPackageError) → mid ≡ other → p ≡ q → Registers mid p r new → Registers other q r new
registered-as mid other new p q r is same h = subst (λ g. Registers g q r new) is (subst (λ x. Registers mid x r new) same h)

-- A word that is no version.
pub no-version : (word text : Word) (e : Error) → text ≡ word → word ≢ codes "_" → (e ≡ memory_error) ⊎ (version_parts text ≡ Err e) → e ≢ memory_error → SayNone (IsVersion word)
no-version word text e same plain reason not None h = plain h
no-version word text e same plain reason not (Some v) h =
    elim reason [ inl m ↦ not m | inr bad ↦ (let clash : Err e ≡ Ok v = sym bad ∙ ap version_parts same ∙ h.1 in cc) ]

-- A word whose digits are no bytes.
pub no-bytes : (word digits : Word) (of_file : List ℕ) (e : FromHexError) → word ≡ codes "hex:" ++ digits → (e ≡ OutOfMemory) ⊎ (decode_of digits ≡ Err e) → e ≢ OutOfMemory
    → SayNone (AreBytes word of_file)
no-bytes word digits of_file e is reason not bytes h =
    elim reason [
      | inl m ↦ not m
      | inr bad ↦ elim h [
        | inl k ↦ (let clash : Err e ≡ Ok bytes = sym bad ∙ ap decode_of (append_cancel_left (codes "hex:") digits k.0 (sym is ∙ k.1)) ∙ k.2 in cc)
        | inr k ↦ k.0 digits is
      ]
    ]
