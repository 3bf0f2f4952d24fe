use Rattle.std.proofs.Common.{◌≡◌, List, length, Some, sym, ◌∙◌, subst, slice_get}
use Rattle.std.proofs.lemmas.Bool.{eqb-true}
use Rattle.wac_types_shapes.specs.declared.shapes.component.«Type».{«Type» as AnyType}
use Rattle.wac_types_shapes.specs.declared.shapes.component.«Type».TheVariants as ty
use Rattle.wac_encode_faults.specs.private.BoundTypes.{AreBoundWithParts}
use Rattle.wac_encode_faults.proofs.Bounding.{none_bound, start_held, start_before, more_bound, free_bound}
use Rattle.wac_encode_faults.proofs.NoResources.{none_free}
use Rattle.wac_encode_faults.proofs.bound_types.BoundTypes.add.Goals as goal

pub returns-then-holds_no_resource-clause-types : goal.returns-then-holds_no_resource-clause-types
returns-then-holds_no_resource-clause-types c = c.requires.types

pub returns-then-holds_no_resource-clause-bound : goal.returns-then-holds_no_resource-clause-bound
returns-then-holds_no_resource-clause-bound c = λ _ r free. absurd
    (none_free c.args.types.now c.law.ensures (eqb-true (length c.args.types.now.resources) 0 (sym c.holds_no_resource.ensures ∙ c.if-holds_no_resource.true)) c.args.ty r c.requires.held free)

pub add_all_parts-requires-clause-held : goal.add_all_parts-requires-clause-held
add_all_parts-requires-clause-held c = start_held c.args.types.now c.args.bound.now.keys c.args.self.now.types.keys c.requires.types c.args.ty c.insert.new.self.keys c.in_ok-insert.ensures.keys c.requires.held

pub add_all_parts-requires-clause-before : goal.add_all_parts-requires-clause-before
add_all_parts-requires-clause-before c = λ p u t l at h.
    start_before c.args.types.now c.args.bound.now.keys c.args.self.now.types.keys c.requires.types c.args.ty c.insert.new.self.keys c.in_ok-insert.ensures.keys c.len-from.result p u t c.len-from.ensures.len l at h

pub returns-then-are_bound-clause-types : goal.returns-then-are_bound-clause-types
returns-then-are_bound-clause-types c =
    let found = c.add_all_parts.new.found.keys in
    more_bound c.args.types.now c.args.bound.now.keys c.args.self.now.types.keys c.requires.types c.args.ty c.insert.new.self.keys c.in_ok-insert.ensures.keys found c.in_ok-add_all_parts.ensures.parts c.in_ok-add_all_parts.ensures.grown
    c.len-from.result c.len-from.ensures.len c.in_ok-add_all_parts.ensures.held
    (λ i r l at. c.are_bound.ensures c.if-are_bound.true i r l (subst (λ (ts : List AnyType). slice_get ts i ≡ Some (ty.Resource r)) (sym c.as_slice.ensures.keys) at))

pub returns-then-are_bound-clause-bound : goal.returns-then-are_bound-clause-bound
returns-then-are_bound-clause-bound c = λ is_true.
    let found = c.add_all_parts.new.found.keys in
    let now : AreBoundWithParts c.args.types.now c.args.bound.now.keys found =
    more_bound c.args.types.now c.args.bound.now.keys c.args.self.now.types.keys c.requires.types c.args.ty c.insert.new.self.keys c.in_ok-insert.ensures.keys found c.in_ok-add_all_parts.ensures.parts c.in_ok-add_all_parts.ensures.grown
    c.len-from.result c.len-from.ensures.len c.in_ok-add_all_parts.ensures.held
    (λ i r l at. c.are_bound.ensures c.if-are_bound.true i r l (subst (λ (ts : List AnyType). slice_get ts i ≡ Some (ty.Resource r)) (sym c.as_slice.ensures.keys) at)) in
    free_bound c.args.types.now c.args.bound.now.keys c.args.self.now.types.keys c.requires.types c.args.ty c.insert.new.self.keys c.in_ok-insert.ensures.keys found c.in_ok-add_all_parts.ensures.parts c.in_ok-add_all_parts.ensures.grown c.requires.other now

pub returns-clause-types : goal.returns-clause-types
returns-clause-types c = none_bound c.args.types.now c.args.bound.now.keys c.clear.new.self.keys c.clear.ensures.empty
