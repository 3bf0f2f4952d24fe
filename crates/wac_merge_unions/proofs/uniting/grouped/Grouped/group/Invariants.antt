use Rattle.std.proofs.Common.{◌≡◌, [], take}
use Rattle.std.specs.List.{AllByRecursion}
use Rattle.wac_types_shapes.specs.shapes.Named.{NoNameTwice}
use Rattle.wac_merge_classes.specs.terms.Unions.{part_lists}
use Rattle.wac_merge_unions.specs.private.uniting.UnionSteps.{grouped}
use Rattle.wac_merge_unions.proofs.uniting.grouped.Grouped.group.Given as goal

abbrev pub invariant-loop-index : goal.invariant-loop-index
invariant-loop-index l =
    let seen = take l.index l.members in
    (l.self ≡ grouped l.fn.types l.fn.parts [] seen) × AllByRecursion (λ p. NoNameTwice (part_lists l.fn.types l.fn.parts p)) seen
