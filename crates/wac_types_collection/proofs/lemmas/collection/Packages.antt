-- What stands against the interface of a package's instances.
use Rattle.std.proofs.Common.{true, [], ◌++◌, ◌≡◌, refl, ap, sym, ◌∙◌, subst, Option, Some, None, Result, Ok, Err, slice_get}
use Rattle.std.specs.Result.{IsErrAnd}
use Rattle.wac_types_shapes.specs.primitives.Name.{option_case, first_some}
use Rattle.wac_types_collection.specs.declared.collection.collection.Held.{Held}
use Rattle.wac_types_collection.specs.declared.collection.collection.AddTypeError.{AddTypeError}
use Rattle.wac_types_collection.specs.declared.collection.collection.AddTypeError.TheVariants as fault
use Rattle.wac_types_shapes.specs.declared.shapes.component.Interface.{Interface}
use Rattle.wac_types_shapes.specs.declared.shapes.component.World.{World}
use Rattle.wac_types_shapes.specs.declared.shapes.component.WorldId.{WorldId}
use Rattle.wac_types_collection.specs.collection.Collection.{Collection, IsWellFormed, IsBefore, holds_all, kind_types, used_types, item_of, world_exports}
use Rattle.wac_types_collection.specs.collection.Uses.{AnswersBy, unless, interface_fault}
use Rattle.wac_types_collection.specs.collection.Package.{instance_with, package_fault}
use Rattle.wac_types_collection.proofs.lemmas.collection.Growth.{all_within}
use Rattle.wac_types_collection.proofs.lemmas.collection.Steady.{all_right}

-- the same error answers for whatever was to be made
same_error : (I P : Type 0) (stands : Option AddTypeError) (e : AddTypeError) → AnswersBy {Id = I} stands (Err e) → AnswersBy {Id = P} stands (Err e)
same_error I P stands fault.OutOfMemory h = h
same_error I P stands _ h = h

-- the error that a `?` hands on
pub handed_on : (I P : Type 0) (stands : Option AddTypeError) (r : Result P AddTypeError) (e : AddTypeError) → IsErrAnd r (λ y. y ≡ e) → AnswersBy {Id = I} stands (Err e) → AnswersBy {Id = P} stands r
handed_on I P stands (Ok p) e same h = absurd same
handed_on I P stands (Err y) e same h =
    let R : AddTypeError → Type 0 = λ x. AnswersBy {Id = P} stands (Err x) in
    subst R (sym same) (same_error I P stands e h)

-- what a held world exports is held
exports_held : (c : Collection) → IsWellFormed c → (w : WorldId) (o : Option (Held World)) → slice_get c.worlds w.0 ≡ o → holds_all c (kind_types (option_case (item_of o) [] (λ x. x.exports))) ≡ true
exports_held c wf w None at = refl
exports_held c wf w (Some h) at =
    let listed = all_right (IsBefore c h.before) (used_types h.item.uses) (kind_types h.item.imports ++ kind_types h.item.exports) (wf.worlds w.0 h at).1 in
    all_within c h.before (kind_types h.item.exports) (all_right (IsBefore c h.before) (kind_types h.item.imports) (kind_types h.item.exports) listed)

-- what stands against a package is what stands against its interface, whose mentions are held
pub package_refused : (I : Type 0) (c : Collection) → IsWellFormed c → (w : WorldId) (i : Interface) (e : AddTypeError) → i ≡ instance_with (world_exports c w) → AnswersBy {Id = I} (interface_fault c i) (Err e) → AnswersBy {Id = I} (package_fault c w) (Err e)
package_refused I c wf w i e is answer =
    let opened : interface_fault c i ≡ first_some (unless (holds_all c (kind_types (world_exports c w))) fault.NotHeld) (package_fault c w) = ap (λ x. interface_fault c x) is in
    let same : interface_fault c i ≡ package_fault c w = opened ∙ ap (λ b. first_some (unless b fault.NotHeld) (package_fault c w)) (exports_held c wf w (slice_get c.worlds w.0) refl) in
    subst (λ (o : Option AddTypeError). AnswersBy {Id = I} o (Err e)) same answer
