use Rattle.std.proofs.Common.{◌≡◌, sym, ◌∙◌, subst}
use Rattle.wac_types_shapes.specs.declared.shapes.component.ValueType.{ValueType}
use Rattle.wac_types_shapes.specs.declared.shapes.component.ValueType.TheVariants as val
use Rattle.wac_merge_resources.specs.renaming.MadeOf.{IsMadeOf}
use Rattle.wac_merge_resources.specs.private.renaming.RenamedTypes.{becomes}
use Rattle.wac_merge_resources.specs.private.renaming.RenamingSteps.{IsBecome, IsRenamedIn, IsRenamedValue}
use Rattle.wac_merge_tables.proofs.lemmas.made.Extending.{extended_none}
use Rattle.wac_merge_resources.proofs.lemmas.renaming.StillRenamed.{still_can}
use Rattle.wac_merge_resources.proofs.lemmas.renaming.RenamingMemo.{same_first, same_right}
use Rattle.wac_merge_resources.proofs.lemmas.renaming.Staying.{become_renamed}
use Rattle.wac_merge_resources.proofs.renaming.renamer.Renamed.value.Goals as goal
use Rattle.wac_merge_resources.proofs.renaming.renamer.Renamed.value.Goals.{in-Defined+in_default-defined, in_default}

pub returns-in-Some-clause-extended : goal.returns-in-Some-clause-extended
returns-in-Some-clause-extended c = extended_none c.args.merged.now

pub returns-in-Some-clause-value : goal.returns-in-Some-clause-value
returns-in-Some-clause-value c =
    let s = c.args.renaming.now in
    let m = c.args.merged.now in
    subst (λ (v : ValueType). IsRenamedValue s.types.now m (becomes s) v (val.Defined c.in-Some.became)) (sym c.in-Defined.is) (c.requires.right.defined c.in-Defined.id c.in-Some.became (sym c.defined.ensures ∙ c.in-Some.is))

pub returns-in_err-open_value-clause-extended : goal.returns-in_err-open_value-clause-extended
returns-in_err-open_value-clause-extended c = extended_none c.args.merged.now

pub part-requires-clause-known : goal.part-requires-clause-known
part-requires-clause-known c = still_can c.args.merged.now c.finish.new.merged c.finish.ensures.extended c.law.ensures c.args.renaming.now c.requires.known

pub returns-in-Some-clause-once : goal.returns-in-Some-clause-once
returns-in-Some-clause-once c =
    let s = c.args.renaming.now in
    subst (λ (v : ValueType). IsMadeOf s.types.now (becomes s) s.became.now.named.now c.args.self.now.made v (val.Defined c.in-Some.became)) (sym c.in-Defined.is) (c.requires.right.once c.in-Defined.id c.in-Some.became (sym c.defined.ensures ∙ c.in-Some.is))

-- what the value became is renamed
abbrev renamed-value : goal.After-part → Type 0
renamed-value c = IsRenamedIn c.args.renaming.now c.finish.new.merged c.finish.new.self.made c.args.value c.part.result

is-renamed : (c : goal.After-part) → renamed-value c
is-renamed c =
    let s = c.args.renaming.now in
    let m = c.finish.new.merged in
    let same : c.match-value.value ≡ c.args.value =
    elim c.match-value.branch [
      | in-Defined+in_default-defined w ↦ w.value-is ∙ sym w.in-Defined.is
      | in_default w ↦ w.value-is
    ] in
    become_renamed s m c.finish.new.self (still_can c.args.merged.now m c.finish.ensures.extended c.law.ensures s c.requires.known) c.in_ok-finish.ensures.right c.args.value c.part.result
    (subst (λ (v : ValueType). IsBecome s c.finish.new.self v c.part.result) same c.part.ensures)

pub returns-clause-value : goal.returns-clause-value
returns-clause-value c = (is-renamed c).0

pub returns-clause-once : goal.returns-clause-once
returns-clause-once c = (is-renamed c).1

pub finish-requires-clause-right : goal.finish-requires-clause-right
finish-requires-clause-right c = same_right c.args.self.now c.take_tasks-tasks.new.self c.take_tasks-tasks.ensures.same c.args.merged.now c.args.renaming.now c.requires.right

pub returns-clause-stay : goal.returns-clause-stay
returns-clause-stay c = same_first c.args.self.now c.take_tasks-tasks.new.self c.take_tasks-tasks.ensures.same c.finish.new.self.made c.in_ok-finish.ensures.stay
