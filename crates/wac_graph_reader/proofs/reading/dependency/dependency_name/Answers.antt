use Rattle.std.proofs.Common.{◌≡◌, List, ℕ, Option, Some, Result, Ok, Err, IfOk, string_bytes, ap, sym, subst, ◌∙◌, arith}
use Rattle.std.proofs.lemmas.Grind.{common_steps}
use Rattle.std.specs.Option.{option_map}
use Rattle.semver.specs.Identifiers.{parts_of}
use Rattle.wac_types_shapes.specs.keys.Key.{VersionParts}
use Rattle.wac_graph_model.specs.meaning.Means.{dependency_name as dependency_name_of}
use Rattle.wac_graph_reader.proofs.reading.dependency.dependency_name.Goals as goal

told : {S E : Type 0} → (r : Result S E) (read : S → List ℕ) (bs want : List ℕ) → IfOk r (λ s. read s ≡ bs) → bs ≡ want → IfOk r (λ s. read s ≡ want)
told (Ok s) read bs want is same = is ∙ same
told (Err e) read bs want is same = tt

pub returns-in-Some : goal.returns-in-Some
returns-in-Some c =
    subst (λ (n : List ℕ). IfOk c.format-in-Some.result (λ text. string_bytes text ≡ dependency_name_of (n, c.args.«package».now.version))) c.name-name.ensures
    (subst (λ (v : Option VersionParts). IfOk c.format-in-Some.result (λ text. string_bytes text ≡ dependency_name_of (c.name-name.result.now, v))) (ap (option_map (λ v. parts_of v.now)) (sym c.in-Some.is) ∙ c.version.ensures)
    (told c.format-in-Some.result string_bytes _ (dependency_name_of (c.name-name.result.now, Some (parts_of c.in-Some.version.now))) c.format-in-Some.ensures.ok (grind (arith, common_steps))))
