use Rattle.std.proofs.Common.{List, map, sym, subst}
use Rattle.wac_types_shapes.specs.declared.shapes.component.DefinedType.{DefinedType}
use Rattle.wac_types_shapes.specs.declared.shapes.component.ValueType.{ValueType}
use Rattle.wac_merge_tables.specs.private.tables.Nodes.{Node}
use Rattle.wac_types_collection.proofs.lemmas.subtyping.Telling.{bytes}
use Rattle.wac_merge_trees.specs.private.coding.Coding.{source_tree, values_of, IsGrown, AreParts}
use Rattle.wac_merge_trees.proofs.lemmas.coding.CodingGrowth.{grown_none}
use Rattle.wac_merge_trees.proofs.lemmas.coding.CodingShapes.{fits_tuple, fits_list, fits_fixed, fits_option, fits_stream, fits_future, fits_record, fits_variant, fits_flags, fits_enum, fits_by}
use Rattle.wac_merge_trees.proofs.coding.memo.Memo.meaning.Goals as goal
use Rattle.wac_merge_trees.proofs.coding.memo.Memo.meaning.Goals.{in-Tuple+in_ok-parts-in-Tuple, in-List+in_ok-part-in-List, in-FixedSizeList+in_ok-part-in-FixedSizeList, in-Option+in_ok-part-in-Option, in-Result+in_ok-node-in-Result, in-Variant+in_ok-cases-in-Variant, in-Record+in_ok-fields-in-Record, in-Flags+in_ok-names-in-Flags, in-Enum+in_ok-names-in-Enum, in-Stream+in_ok-optional-in-Stream, in-Future+in_ok-optional-in-Future}

pub returns-clause-grown : goal.returns-clause-grown
returns-clause-grown c =
    let old = c.args.nodes.now in
    let new : List Node = c.match-definition.nodes in
    elim c.match-definition.branch [
      | in-Tuple+in_ok-parts-in-Tuple w ↦ subst (λ (ns : List Node). IsGrown old ns) (sym w.nodes-is) w.parts.ensures.grown
      | in-List+in_ok-part-in-List w ↦ subst (λ (ns : List Node). IsGrown old ns) (sym w.nodes-is) w.part.ensures.grown
      | in-FixedSizeList+in_ok-part-in-FixedSizeList w ↦ subst (λ (ns : List Node). IsGrown old ns) (sym w.nodes-is) w.part-in-FixedSizeList.ensures.grown
      | in-Option+in_ok-part-in-Option w ↦ subst (λ (ns : List Node). IsGrown old ns) (sym w.nodes-is) w.part-in-Option.ensures.grown
      | in-Result+in_ok-node-in-Result w ↦ subst (λ (ns : List Node). IsGrown old ns) (sym w.nodes-is) w.outcome.ensures.grown
      | in-Variant+in_ok-cases-in-Variant w ↦ subst (λ (ns : List Node). IsGrown old ns) (sym w.nodes-is) w.cases.ensures.grown
      | in-Record+in_ok-fields-in-Record w ↦ subst (λ (ns : List Node). IsGrown old ns) (sym w.nodes-is) w.fields.ensures.grown
      | in-Flags+in_ok-names-in-Flags w ↦ grown_none old new w.nodes-is
      | in-Enum+in_ok-names-in-Enum w ↦ grown_none old new w.nodes-is
      | in-Stream+in_ok-optional-in-Stream w ↦ subst (λ (ns : List Node). IsGrown old ns) (sym w.nodes-is) w.optional.ensures.grown
      | in-Future+in_ok-optional-in-Future w ↦ subst (λ (ns : List Node). IsGrown old ns) (sym w.nodes-is) w.optional-in-Future.ensures.grown
    ]

pub returns-clause-meaning : goal.returns-clause-meaning
returns-clause-meaning c =
    let t = values_of (source_tree c.args.source.now) in
    let d : DefinedType = c.args.definition.now in
    let new : List Node = c.match-definition.nodes in
    let x = c.match-definition.node in
    elim c.match-definition.branch [
      | in-Tuple+in_ok-parts-in-Tuple w ↦ let k = w.in_ok-parts-in-Tuple in let ns : List Node = w.parts.new.nodes in fits_by t new ns d _ x _ w.nodes-is w.in-Tuple.is w.node-is (fits_tuple t ns w.in-Tuple.parts k.field-0.items (subst (λ (vs : List ValueType). AreParts ns t vs k.field-0.items) w.as_slice.ensures k.ensures.numbers))
      | in-List+in_ok-part-in-List w ↦ let k = w.in_ok-part-in-List in let ns : List Node = w.part.new.nodes in fits_by t new ns d _ x _ w.nodes-is w.in-List.is w.node-is (fits_list t ns w.in-List.value k.field-0 k.ensures.number)
      | in-FixedSizeList+in_ok-part-in-FixedSizeList w ↦ let k = w.in_ok-part-in-FixedSizeList in let ns : List Node = w.part-in-FixedSizeList.new.nodes in fits_by t new ns d _ x _ w.nodes-is w.in-FixedSizeList.is w.node-is (fits_fixed t ns w.in-FixedSizeList.value w.in-FixedSizeList.length k.field-0 k.ensures.number)
      | in-Option+in_ok-part-in-Option w ↦ let k = w.in_ok-part-in-Option in let ns : List Node = w.part-in-Option.new.nodes in fits_by t new ns d _ x _ w.nodes-is w.in-Option.is w.node-is (fits_option t ns w.in-Option.value k.field-0 k.ensures.number)
      | in-Result+in_ok-node-in-Result w ↦ let k = w.in_ok-node-in-Result in let ns : List Node = w.outcome.new.nodes in fits_by t new ns d _ x _ w.nodes-is w.in-Result.is w.node-is k.ensures.fits
      | in-Variant+in_ok-cases-in-Variant w ↦ let k = w.in_ok-cases-in-Variant in let ns : List Node = w.cases.new.nodes in fits_by t new ns d _ x _ w.nodes-is w.in-Variant.is w.node-is (fits_variant t ns w.in-Variant.variant.cases k.field-0.items k.ensures.numbers)
      | in-Record+in_ok-fields-in-Record w ↦ let k = w.in_ok-fields-in-Record in let ns : List Node = w.fields.new.nodes in fits_by t new ns d _ x _ w.nodes-is w.in-Record.is w.node-is (fits_record t ns w.in-Record.record.fields k.field-0.items k.ensures.numbers)
      | in-Flags+in_ok-names-in-Flags w ↦ let k = w.in_ok-names-in-Flags in let ns : List Node = c.args.nodes.now in fits_by t new ns d _ x _ w.nodes-is w.in-Flags.is w.node-is (fits_flags t ns (map bytes k.field-0.items) w.in-Flags.flags.0 k.ensures)
      | in-Enum+in_ok-names-in-Enum w ↦ let k = w.in_ok-names-in-Enum in let ns : List Node = c.args.nodes.now in fits_by t new ns d _ x _ w.nodes-is w.in-Enum.is w.node-is (fits_enum t ns (map bytes k.field-0.items) w.in-Enum.cases.0 k.ensures)
      | in-Stream+in_ok-optional-in-Stream w ↦ let k = w.in_ok-optional-in-Stream in let ns : List Node = w.optional.new.nodes in fits_by t new ns d _ x _ w.nodes-is w.in-Stream.is w.node-is (fits_stream t ns w.in-Stream.value k.field-0 k.ensures.number)
      | in-Future+in_ok-optional-in-Future w ↦ let k = w.in_ok-optional-in-Future in let ns : List Node = w.optional-in-Future.new.nodes in fits_by t new ns d _ x _ w.nodes-is w.in-Future.is w.node-is (fits_future t ns w.in-Future.value k.field-0 k.ensures.number)
    ]
