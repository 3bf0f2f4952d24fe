use Rattle.std.proofs.Common.{[], ◌∷◌, Some, IsSome, refl, sym, ap, ◌∙◌, subst}
use Rattle.wac_types_shapes.specs.primitives.Name.{option_case}
use Rattle.wac_types_collection.specs.collection.Collection.{defined_values}
use Rattle.wac_types_shapes.specs.declared.shapes.component.DefinedType.TheVariants as def
use Rattle.wac_types_shapes.specs.declared.shapes.component.ValueType.{ValueType}
use Rattle.wac_types_shapes.specs.declared.shapes.component.ValueType.TheVariants as val
use Rattle.wac_merge_resources.specs.values.NamedTypes.{named_type}
use Rattle.wac_merge_resources.specs.private.renaming.RenamedTypes.{becomes}
use Rattle.wac_merge_tables.specs.made.Made.{IsMadeFor}
use Rattle.wac_merge_resources.specs.renaming.MadeOf.{IsMadeOf, alias}
use Rattle.wac_merge_resources.specs.private.renaming.RenamingSteps.{AreReady, HaveOneShape, IsBecome, IsRenamedIn, IsRenamedValue}
use Rattle.wac_merge_resources.specs.declared.renaming.renamer.Renamed.{Renamed}
use Rattle.wac_merge_tables.proofs.lemmas.tables.TaskLemmas.{defined_values_hold}
use Rattle.wac_merge_tables.proofs.lemmas.made.Extending.{extended_none, kept_item}
use Rattle.wac_merge_resources.proofs.lemmas.renaming.RenamingMemo.{closed, defined_put, more_put}
use Rattle.wac_merge_resources.proofs.lemmas.renaming.RenamingShapes.{shape_more}
use Rattle.wac_merge_resources.proofs.lemmas.renaming.RenamingTrees.{alias_renamed, shape_held}
use Rattle.wac_merge_resources.proofs.lemmas.renaming.Staying.{become_renamed, shape_stays}
use Rattle.wac_merge_resources.proofs.renaming.renamer.Renamed.close.Goals as goal

pub definition-requires-clause-held : goal.definition-requires-clause-held
definition-requires-clause-held c = defined_values_hold c.args.renaming.now.types.now c.law.ensures c.args.id c.index-definition.result.now c.index-definition.ensures

pub definition_stays-requires-clause-held : goal.definition_stays-requires-clause-held
definition_stays-requires-clause-held c = defined_values_hold c.args.renaming.now.types.now c.law.ensures c.args.id c.index-definition.result.now c.index-definition.ensures

pub make-requires-clause-held : goal.make-requires-clause-held
make-requires-clause-held c =
    let s = c.args.renaming.now in
    let m = c.args.merged.now in
    let memo = c.args.self.now in
    shape_held s.types.now m (becomes s) c.index-definition.result.now c.in_ok-definition.definition
    (shape_more (IsBecome s memo) (IsRenamedValue s.types.now m (becomes s)) (λ v w r. (become_renamed s m memo c.requires.known c.requires.right v w r).0) c.index-definition.result.now c.in_ok-definition.definition c.in_ok-definition.ensures)

pub make-requires-clause-made : goal.make-requires-clause-made
make-requires-clause-made c = c.requires.right.made.there

pub returns-clause-right : goal.returns-clause-right
returns-clause-right c =
    let s = c.args.renaming.now in
    let old = c.args.merged.now in
    let new = c.make.new.merged in
    let memo = c.args.self.now in
    let made = c.in_ok-became.ensures in
    let x = c.index-definition.result.now in
    let y = c.in_ok-definition.definition in
    let R = IsRenamedIn s old memo.made in
    let shape : HaveOneShape R x y = shape_more (IsBecome s memo) R (become_renamed s old memo c.requires.known c.requires.right) x y c.in_ok-definition.ensures in
    closed s old new (record { named = c.trees_are_whole.ensures.named; placed = c.trees_are_whole.ensures.placed }) (record { named = c.trees_are_whole-2.ensures.named; placed = c.trees_are_whole-2.ensures.placed }) memo c.make.new.self c.put_defined-2.new.self
    c.args.id c.in_ok-became.became x y c.index-definition.ensures (sym c.alias_end.ensures.named ∙ c.in_default.is) made.added
    (subst (λ n. IsMadeFor c.make.new.self n y c.in_ok-became.became) c.of-named.ensures made.named) made.stay made.made (made.apart s.types.now (named_type s.became.now.named.now) c.requires.known.extended c.requires.right.made.apart) shape c.requires.right
    c.put_defined-2.result c.put_defined-2.ensures

pub keep-requires-clause-there : goal.keep-requires-clause-there
keep-requires-clause-there c = kept_item c.args.renaming.now.types.now.defined c.args.merged.now.defined c.requires.known.extended.kept.defined c.args.id.0 c.index-definition.result.now c.index-definition.ensures

pub keep-requires-clause-made : goal.keep-requires-clause-made
keep-requires-clause-made c = c.requires.right.made.there

pub returns-then-definition_stays-clause-right : goal.returns-then-definition_stays-clause-right
returns-then-definition_stays-clause-right c =
    let s = c.args.renaming.now in
    let m = c.args.merged.now in
    let memo = c.args.self.now in
    let made = c.in_ok-kept.ensures in
    let x = c.index-definition.result.now in
    let R = IsRenamedIn s m memo.made in
    let held = defined_values_hold s.types.now c.law.ensures c.args.id x c.index-definition.ensures in
    let stay = c.definition_stays.ensures.0 c.if-definition_stays.true in
    let shape : HaveOneShape R x x = shape_more (IsBecome s memo) R (become_renamed s m memo c.requires.known c.requires.right) x x (shape_stays s memo x held stay) in
    closed s m m (record { named = c.trees_are_whole.ensures.named; placed = c.trees_are_whole.ensures.placed }) (record { named = c.trees_are_whole-then-definition_stays.ensures.named; placed = c.trees_are_whole-then-definition_stays.ensures.placed }) memo c.keep.new.self c.put_defined-then-definition_stays.new.self
    c.args.id c.in_ok-kept.kept x x c.index-definition.ensures (sym c.alias_end.ensures.named ∙ c.in_default.is) (record { extended = extended_none m; there = made.there })
    (subst (λ n. IsMadeFor c.keep.new.self n x c.in_ok-kept.kept) c.of-named.ensures made.named) made.stay made.made (made.apart s.types.now (named_type s.became.now.named.now) c.requires.held c.of-named.ensures c.requires.right.made.apart) shape c.requires.right
    c.put_defined-then-definition_stays.result c.put_defined-then-definition_stays.ensures

pub unwrap-became-requires : goal.unwrap-became-requires
unwrap-became-requires c =
    let memo = c.args.self.now in
    let ready : AreReady memo (val.Defined c.in-Some.end ∷ []) = subst (λ o. AreReady memo (option_case o [] defined_values)) (c.index-definition.ensures ∙ ap Some c.in-Some.ensures.alias) c.requires.ready in
    subst IsSome (sym c.defined.ensures) ready.0

pub returns-in-Some-clause-right : goal.returns-in-Some-clause-right
returns-in-Some-clause-right c =
    let s = c.args.renaming.now in
    let m = c.args.merged.now in
    let w : ValueType = val.Defined c.unwrap-became.result in
    let is = sym c.defined.ensures ∙ c.unwrap-became.ensures in
    let end = c.requires.right.defined c.in-Some.end c.unwrap-became.result is in
    let once : IsMadeOf s.types.now (becomes s) s.became.now.named.now c.args.self.now.made (val.Defined c.args.id) w =
    alias (val.Defined c.args.id) w c.args.id c.in-Some.end (def.Alias (val.Defined c.in-Some.end)) refl (c.index-definition.ensures ∙ ap Some c.in-Some.ensures.alias) refl (c.requires.right.once c.in-Some.end c.unwrap-became.result is) in
    defined_put s m c.args.self.now c.put_defined.new.self c.args.id c.unwrap-became.result c.put_defined.result c.put_defined.ensures c.requires.right
    (alias_renamed s.types.now m (becomes s) (record { named = c.trees_are_whole.ensures.named; placed = c.trees_are_whole.ensures.placed }) c.args.id (val.Defined c.in-Some.end) w (c.index-definition.ensures ∙ ap Some c.in-Some.ensures.alias) end, once)

pub returns-clause-more : goal.returns-clause-more
returns-clause-more c =
    let mid : Renamed = record { defined = c.args.self.now.defined; funcs = c.args.self.now.funcs; made = c.make.new.self; tasks = c.args.self.now.tasks } in
    more_put c.args.self.now mid c.put_defined-2.new.self c.args.id c.in_ok-became.became refl c.in_ok-became.ensures.stay c.put_defined-2.result c.put_defined-2.ensures

pub returns-then-definition_stays-clause-more : goal.returns-then-definition_stays-clause-more
returns-then-definition_stays-clause-more c =
    let mid : Renamed = record { defined = c.args.self.now.defined; funcs = c.args.self.now.funcs; made = c.keep.new.self; tasks = c.args.self.now.tasks } in
    more_put c.args.self.now mid c.put_defined-then-definition_stays.new.self c.args.id c.in_ok-kept.kept refl c.in_ok-kept.ensures.stay c.put_defined-then-definition_stays.result c.put_defined-then-definition_stays.ensures

pub returns-in-Some-clause-more : goal.returns-in-Some-clause-more
returns-in-Some-clause-more c = more_put c.args.self.now c.args.self.now c.put_defined.new.self c.args.id c.unwrap-became.result refl (λ f e is. is) c.put_defined.result c.put_defined.ensures
