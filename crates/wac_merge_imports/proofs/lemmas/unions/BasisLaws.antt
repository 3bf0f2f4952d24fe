-- What follows from what a merge is written from.
use Rattle.std.proofs.Common.{ℕ, List, subst}
use Rattle.wac_types_collection.specs.collection.Collection.{Collection, IsWellFormed}
use Rattle.wac_types_collection.specs.collection.Uses.{IsSound}
use Rattle.wac_merge_classes.specs.entries.Agreement.{AllMembersAgree}
use Rattle.wac_merge_classes.specs.entries.Bindings.{AreBindings, AreHeld, ClassBindings}
use Rattle.wac_merge_classes.specs.entries.Classes.{Entry, by_names}
use Rattle.wac_merge_classes.specs.declared.terms.fresh.Fresh.{Fresh}
use Rattle.wac_merge_classes.specs.declared.terms.parts.Part.{Part}
use Rattle.wac_merge_resources.specs.declared.values.named.NamedTypes.{NamedTypes}
use Rattle.wac_merge_resources.specs.private.renaming.RenamedTypes.{CanRenameAll}
use Rattle.wac_merge_resources.specs.declared.renaming.became.Became.{Became}
use Rattle.wac_merge_imports.specs.private.unions.Basis.{IsBasis, IsBecame}
use Rattle.wac_merge_imports.specs.declared.unions.merged.Basis.{Basis}
use Rattle.wac_merge_imports.proofs.lemmas.unions.AssembledMerge.{can-rename-all}

-- resources can become what they do by it
pub basis-known : (c m : Collection) (es : List Entry) (numbers positions : List ℕ) (bs : ClassBindings) (b : Basis) (became : Became) → IsBasis c m es numbers positions bs b → IsBecame b bs became
    → IsWellFormed c → IsSound c → AreBindings c es bs → AreHeld c es → AllMembersAgree by_names c es → CanRenameAll m c became
basis-known c m es numbers positions bs b became basis is wf sound bindings held agreed =
    let u = basis.unions in
    can-rename-all c m es u.roots b.unions.unions.items became wf sound basis.extended (rw is.bindings bindings) u.rooted.counted (rw is.parts u.unions) (rw (is.bindings, is.fresh) basis.fresh) held agreed
    (rw (is.parts, is.bound) basis.bound) (rw (is.parts, is.bound, is.outward) basis.outward)

-- what holds of what it was made of
pub by-basis : (P : List Part → ClassBindings → Fresh → NamedTypes → Type 0) (b : Basis) (bs : ClassBindings) (became : Became) → IsBecame b bs became → P became.parts.now became.bindings.now became.fresh.now became.named.now
    → P b.unions.parts.items bs b.fresh b.named
by-basis P b bs became is h =
    subst (λ (n : NamedTypes). P b.unions.parts.items bs b.fresh n) is.named
    (subst (λ (f : Fresh). P b.unions.parts.items bs f became.named.now) is.fresh
    (subst (λ (x : ClassBindings). P b.unions.parts.items x became.fresh.now became.named.now) is.bindings
    (subst (λ (ps : List Part). P ps became.bindings.now became.fresh.now became.named.now) is.parts h)))
