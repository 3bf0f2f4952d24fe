use Rattle.std.proofs.Common.{ap, sym, ◌∙◌, subst}
use Rattle.wac_types_shapes.specs.declared.shapes.component.DefinedType.{DefinedType}
use Rattle.wac_types_shapes.specs.declared.shapes.component.DefinedType.TheVariants as def
use Rattle.wac_merge_resources.specs.private.renaming.RenamingSteps.{HaveOneShape, IsBecome, aliases, enums, fixed_lists, flags, futures, lists, options, records, results, streams, variants}
use Rattle.wac_merge_resources.proofs.renaming.renamer.Renamed.definition.Goals as goal
use Rattle.wac_merge_resources.proofs.renaming.renamer.Renamed.definition.Goals.{in-Tuple+in_ok-renamed-in-Tuple, in-List, in-FixedSizeList, in-Option, in-Result, in-Variant+in_ok-cases-in-Variant, in-Record+in_ok-fields-in-Record, in-Flags+in_ok-copied-in-Flags, in-Enum+in_ok-copied-in-Enum, in-Alias, in-Stream, in-Future}

pub returns : goal.returns
returns c =
    let R = IsBecome c.args.renaming.now c.args.self.now in
    elim c.match-definition.branch [
      | in-Tuple+in_ok-renamed-in-Tuple w ↦
          subst (λ (e : DefinedType). HaveOneShape R c.args.definition.now e) (sym w.renamed-is)
          (subst (λ (d : DefinedType). HaveOneShape R d w.in_ok-renamed-in-Tuple.renamed) (ap def.Tuple w.as_slice.ensures ∙ sym w.in-Tuple.is) w.in_ok-renamed-in-Tuple.ensures)
      | in-List w ↦ lists w.in-List.value w.part.result w.in-List.is w.renamed-is w.part.ensures
      | in-FixedSizeList w ↦ fixed_lists w.in-FixedSizeList.value w.part-in-FixedSizeList.result w.in-FixedSizeList.length w.in-FixedSizeList.is w.renamed-is w.part-in-FixedSizeList.ensures
      | in-Option w ↦ options w.in-Option.value w.part-in-Option.result w.in-Option.is w.renamed-is w.part-in-Option.ensures
      | in-Result w ↦ results w.in-Result.ok w.optional-ok.result w.in-Result.err w.optional-err.result w.in-Result.is w.renamed-is w.optional-ok.ensures w.optional-err.ensures
      | in-Variant+in_ok-cases-in-Variant w ↦ variants w.in-Variant.variant _ w.in-Variant.is w.renamed-is w.in_ok-cases-in-Variant.ensures
      | in-Record+in_ok-fields-in-Record w ↦ records w.in-Record.record _ w.in-Record.is w.renamed-is w.in_ok-fields-in-Record.ensures
      | in-Flags+in_ok-copied-in-Flags w ↦ flags w.in-Flags.flags _ w.in-Flags.is w.renamed-is w.in_ok-copied-in-Flags.ensures
      | in-Enum+in_ok-copied-in-Enum w ↦ enums w.in-Enum.cases _ w.in-Enum.is w.renamed-is w.in_ok-copied-in-Enum.ensures
      | in-Alias w ↦ aliases w.in-Alias.value w.part-in-Alias.result w.in-Alias.is w.renamed-is w.part-in-Alias.ensures
      | in-Stream w ↦ streams w.in-Stream.of w.optional.result w.in-Stream.is w.renamed-is w.optional.ensures
      | in-Future w ↦ futures w.in-Future.of w.optional-in-Future.result w.in-Future.is w.renamed-is w.optional-in-Future.ensures
    ]
