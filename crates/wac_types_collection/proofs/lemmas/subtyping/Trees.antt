-- Trees at greater depths, and trees of aliases; the resource at the end of the aliases of a held one is held.
use Rattle.std.proofs.Common.{zero, suc, true, ◌≡◌, ap, ◌∙◌, Option, Some, None, arith, slice_get}
use Rattle.wac_types_shapes.specs.primitives.Name.{option_case}
use Rattle.wac_types_shapes.specs.primitives.Tree.{TypeTree}
use Rattle.wac_types_shapes.specs.declared.shapes.component.ResourceId.{ResourceId}
use Rattle.wac_types_shapes.specs.declared.shapes.component.DefinedType.{DefinedType}
use Rattle.wac_types_shapes.specs.declared.shapes.component.DefinedType.TheVariants as def
use Rattle.wac_types_shapes.specs.declared.shapes.component.ValueType.{ValueType}
use Rattle.wac_types_shapes.specs.declared.shapes.component.ValueType.TheVariants as val
use Rattle.wac_types_shapes.specs.declared.shapes.component.«Type».TheVariants as ty
use Rattle.wac_types_collection.specs.collection.Collection.{Collection, size, IsWellFormed, item_at, holds_type}
use Rattle.wac_types_collection.specs.collection.Held.{Naming, Names, of_held, defined_tree, resolved, unfolded}
use Rattle.wac_types_collection.specs.collection.Bound.{by_place, held_tree}
use Rattle.wac_types_collection.specs.subtyping.Called.{by_binding}
use Rattle.wac_types_collection.specs.subtyping.Subtype.{by_name, resource_names, type_tree}
use Rattle.wac_types_collection.specs.collection.Aliases.{aliased, target_of}
use Rattle.wac_types_collection.specs.subtyping.TreeLaws.{IsDeepEnough, AliasesAgree}
use Rattle.wac_types_collection.proofs.lemmas.collection.Growth.{type_before, before_more}
use Rattle.wac_types_collection.proofs.lemmas.collection.Chains.{alias_is}
use Rattle.wac_types_collection.proofs.lemmas.collection.Ends.{resource_end_is_held}
use Rattle.wac_types_collection.proofs.lemmas.subtyping.Unfolding.{unfold_same, unfolded_step, held_item, within}

pub resolved_held : (c : Collection) → IsWellFormed c → (r : ResourceId) → holds_type c (ty.Resource r) ≡ true → holds_type c (ty.Resource (resolved c r)) ≡ true
resolved_held c wf r h = resource_end_is_held c wf r true h ∙ h

pub deep_enough : {L : Type 0} (naming : Naming L) (c : Collection) → IsWellFormed c → IsDeepEnough naming c
deep_enough naming c wf zero lt m t h = absurd (omega (arith, lt))
deep_enough naming c wf (suc n) lt m t h =
    let at = type_before c wf t h in
    unfold_same naming c wf n (size c) m t (before_more c (size c) n t (omega (arith, lt)) at) at

alias_unfolded : {L : Type 0} (naming : Naming L) (c : Collection) → IsWellFormed c → (m : Names L) (v w : ValueType) → target_of c v ≡ Some w → unfolded naming c m (ty.Value v) ≡ unfolded naming c m (ty.Value w)
alias_unfolded naming c wf m (val.Defined d) w e =
    let x = by (item_at c.defined d.0) e in
    let h = held_item (slice_get c.defined d.0) (def.Alias w) x in
    let t : ValueType → TypeTree _ = λ u. unfolded naming c m (ty.Value u) in
    unfolded_step naming c wf m (ty.Value (val.Defined d)) (within c.defined d.0 h.0 h.1) ∙ ap (of_held (defined_tree t)) h.1 ∙ ap (defined_tree t) h.2
  where
    by : (o : Option DefinedType) → option_case o None aliased ≡ Some w → o ≡ Some (def.Alias w)
    by None h = cc
    by (Some x) h = ap Some (alias_is x w h)
alias_unfolded naming c wf m _ w e = cc

pub aliases_agree : (c : Collection) → IsWellFormed c → AliasesAgree c
unfolding type_tree held_tree
aliases_agree c wf v w e = (alias_unfolded by_name c wf (resource_names c) v w e, (λ m. alias_unfolded (by_place c) c wf m v w e), (λ m. alias_unfolded (by_binding c) c wf m v w e))
