use Rattle.wac_binary.specs.Views.{defined_of, named, texts_of}
use Rattle.wac_binary.specs.Items.{tuple_def, variant_def, record_def, flags_def, enum_def}
use Rattle.wac_encode_scopes.proofs.Stepped.{all-none}
use Rattle.wac_encode_values.proofs.Made.{made-written, made-tuple, made-variant, made-record, made-flags, made-enum, tuple-present, record-present, record-long, variant-long, is-plain, unnamed}
use Rattle.std.proofs.Common.{refl}
use Rattle.wac_binary.specs.declared.fault.BinaryFault.TheVariants.{OutOfMemory}
use Rattle.wac_encode_scopes.proofs.Paying.{memory-answer}
use Rattle.wac_encode_values.proofs.Sized.{tuple-sized, record-sized, variant-sized, flags-sized, enum-sized, plain-sized}
use Rattle.wac_encode_values.proofs.encoder.ValueEncoder.define.Goals as goal

pub values_of-requires : goal.values_of-requires
values_of-requires c = tuple-present c.args.self.now.types.now c.args.self.now.merged c.args.state.now c.args.id c.index-held.result.now c.in-Tuple.field-0 c.args.parts.now c.index-held.ensures c.in-Tuple.is c.requires.parts

pub put-requires : goal.put-requires
put-requires c = made-written c.args.self.now.types.now c.args.self.now.merged c.args.state.now c.args.id c.index-held.result.now c.args.parts.now (tuple_def c.as_slice.result.now) c.index-held.ensures c.requires.parts (made-tuple c.index-held.result.now c.in-Tuple.field-0 c.args.parts.now c.in_ok-values-in-Tuple.values.items c.as_slice.result.now c.in-Tuple.is c.as_slice.ensures.value c.in_ok-values-in-Tuple.ensures.values)

pub cases_of-requires : goal.cases_of-requires
cases_of-requires c = variant-long c.args.self.now.types.now c.args.self.now.merged c.args.state.now c.args.id c.index-held.result.now c.in-Variant.variant c.args.parts.now c.index-held.ensures c.in-Variant.is c.requires.parts

pub put-requires-in-Variant : goal.put-requires-in-Variant
put-requires-in-Variant c = made-written c.args.self.now.types.now c.args.self.now.merged c.args.state.now c.args.id c.index-held.result.now c.args.parts.now (variant_def (named c.as_slice-in-Variant.result.now)) c.index-held.ensures c.requires.parts (made-variant c.index-held.result.now c.in-Variant.variant c.args.parts.now c.in_ok-cases-in-Variant.cases.items c.as_slice-in-Variant.result.now c.in-Variant.is c.as_slice-in-Variant.ensures.value c.in_ok-cases-in-Variant.ensures.names c.in_ok-cases-in-Variant.ensures.values)

pub fields_of-requires-clause-present : goal.fields_of-requires-clause-present
fields_of-requires-clause-present c = record-present c.args.self.now.types.now c.args.self.now.merged c.args.state.now c.args.id c.index-held.result.now c.in-Record.record c.args.parts.now c.index-held.ensures c.in-Record.is c.requires.parts

pub fields_of-requires-clause-length : goal.fields_of-requires-clause-length
fields_of-requires-clause-length c = record-long c.args.self.now.types.now c.args.self.now.merged c.args.state.now c.args.id c.index-held.result.now c.in-Record.record c.args.parts.now c.index-held.ensures c.in-Record.is c.requires.parts

pub put-requires-in-Record : goal.put-requires-in-Record
put-requires-in-Record c = made-written c.args.self.now.types.now c.args.self.now.merged c.args.state.now c.args.id c.index-held.result.now c.args.parts.now (record_def (named c.as_slice-in-Record.result.now)) c.index-held.ensures c.requires.parts (made-record c.index-held.result.now c.in-Record.record c.args.parts.now c.in_ok-fields-in-Record.fields.items c.as_slice-in-Record.result.now c.in-Record.is c.as_slice-in-Record.ensures.value c.in_ok-fields-in-Record.ensures.names c.in_ok-fields-in-Record.ensures.values)

pub put-requires-in-Flags : goal.put-requires-in-Flags
put-requires-in-Flags c = made-written c.args.self.now.types.now c.args.self.now.merged c.args.state.now c.args.id c.index-held.result.now c.args.parts.now (flags_def (texts_of c.as_slice-in-Flags.result.now)) c.index-held.ensures c.requires.parts (made-flags c.index-held.result.now c.in-Flags.flags c.args.parts.now c.in_ok-names-in-Flags.names.items c.as_slice-in-Flags.result.now c.in-Flags.is c.as_slice-in-Flags.ensures.value c.in_ok-names-in-Flags.ensures)

pub put-requires-in-Enum : goal.put-requires-in-Enum
put-requires-in-Enum c = made-written c.args.self.now.types.now c.args.self.now.merged c.args.state.now c.args.id c.index-held.result.now c.args.parts.now (enum_def (texts_of c.as_slice-in-Enum.result.now)) c.index-held.ensures c.requires.parts (made-enum c.index-held.result.now c.in-Enum.cases c.args.parts.now c.in_ok-names-in-Enum.names.items c.as_slice-in-Enum.result.now c.in-Enum.is c.as_slice-in-Enum.ensures.value c.in_ok-names-in-Enum.ensures)

pub returns-in_err-values-in-Tuple-clause-types : goal.returns-in_err-values-in-Tuple-clause-types
returns-in_err-values-in-Tuple-clause-types c = all-none c.args.state.now

pub returns-in_err-cases-in-Variant-clause-types : goal.returns-in_err-cases-in-Variant-clause-types
returns-in_err-cases-in-Variant-clause-types c = all-none c.args.state.now

pub returns-in_err-fields-in-Record-clause-types : goal.returns-in_err-fields-in-Record-clause-types
returns-in_err-fields-in-Record-clause-types c = all-none c.args.state.now

pub returns-in_err-names-in-Flags-clause-types : goal.returns-in_err-names-in-Flags-clause-types
returns-in_err-names-in-Flags-clause-types c = all-none c.args.state.now

pub returns-in_err-names-in-Enum-clause-types : goal.returns-in_err-names-in-Enum-clause-types
returns-in_err-names-in-Enum-clause-types c = all-none c.args.state.now

pub plain_definition-requires : goal.plain_definition-requires
plain_definition-requires c = is-plain c.args.self.now.types.now c.args.self.now.merged c.args.state.now c.index-held.result.now c.args.parts.now (unnamed c.index-held.result.now c.in_default.not-Tuple c.in_default.not-Variant c.in_default.not-Record c.in_default.not-Flags c.in_default.not-Enum c.in_default.not-Alias) (c.requires.parts c.index-held.result.now c.index-held.ensures)

pub put-requires-in_default : goal.put-requires-in_default
put-requires-in_default c = made-written c.args.self.now.types.now c.args.self.now.merged c.args.state.now c.args.id c.index-held.result.now c.args.parts.now (defined_of c.plain_definition.result) c.index-held.ensures c.requires.parts c.plain_definition.ensures.made

pub returns-in_err-values-in-Tuple-clause-paid : goal.returns-in_err-values-in-Tuple-clause-paid
returns-in_err-values-in-Tuple-clause-paid c ts covers priced = memory-answer c.args.self.now.types.now c.args.self.now.merged ts 0 c.args.state.now _ OutOfMemory c.from_residual.result c.from_residual.ensures.1 refl

pub returns-in_ok-values-in-Tuple-clause-paid : goal.returns-in_ok-values-in-Tuple-clause-paid
returns-in_ok-values-in-Tuple-clause-paid c ts covers priced = c.put.ensures.paid c.index-held.result.now c.index-held.ensures (tuple-sized c.index-held.result.now c.in-Tuple.field-0 c.args.parts.now c.in_ok-values-in-Tuple.values.items c.as_slice.result.now c.args.self.now.types.now c.args.self.now.merged c.args.state.now c.in-Tuple.is c.as_slice.ensures.value (c.requires.parts c.index-held.result.now c.index-held.ensures) c.in_ok-values-in-Tuple.ensures.values c.in_ok-values-in-Tuple.ensures.short) ts covers priced

pub returns-in_err-cases-in-Variant-clause-paid : goal.returns-in_err-cases-in-Variant-clause-paid
returns-in_err-cases-in-Variant-clause-paid c ts covers priced = memory-answer c.args.self.now.types.now c.args.self.now.merged ts 0 c.args.state.now _ OutOfMemory c.from_residual-in_err-cases-in-Variant.result c.from_residual-in_err-cases-in-Variant.ensures.1 refl

pub returns-in_ok-cases-in-Variant-clause-paid : goal.returns-in_ok-cases-in-Variant-clause-paid
returns-in_ok-cases-in-Variant-clause-paid c ts covers priced = c.put-in-Variant.ensures.paid c.index-held.result.now c.index-held.ensures (variant-sized c.index-held.result.now c.in-Variant.variant c.in_ok-cases-in-Variant.cases.items c.as_slice-in-Variant.result.now c.in-Variant.is c.as_slice-in-Variant.ensures.value c.in_ok-cases-in-Variant.ensures.names c.in_ok-cases-in-Variant.ensures.short) ts covers priced

pub returns-in_err-fields-in-Record-clause-paid : goal.returns-in_err-fields-in-Record-clause-paid
returns-in_err-fields-in-Record-clause-paid c ts covers priced = memory-answer c.args.self.now.types.now c.args.self.now.merged ts 0 c.args.state.now _ OutOfMemory c.from_residual-in_err-fields-in-Record.result c.from_residual-in_err-fields-in-Record.ensures.1 refl

pub returns-in_ok-fields-in-Record-clause-paid : goal.returns-in_ok-fields-in-Record-clause-paid
returns-in_ok-fields-in-Record-clause-paid c ts covers priced = c.put-in-Record.ensures.paid c.index-held.result.now c.index-held.ensures (record-sized c.index-held.result.now c.in-Record.record c.in_ok-fields-in-Record.fields.items c.as_slice-in-Record.result.now c.in-Record.is c.as_slice-in-Record.ensures.value c.in_ok-fields-in-Record.ensures.names c.in_ok-fields-in-Record.ensures.short) ts covers priced

pub returns-in_err-names-in-Flags-clause-paid : goal.returns-in_err-names-in-Flags-clause-paid
returns-in_err-names-in-Flags-clause-paid c ts covers priced = memory-answer c.args.self.now.types.now c.args.self.now.merged ts 0 c.args.state.now _ OutOfMemory c.from_residual-in_err-names-in-Flags.result c.from_residual-in_err-names-in-Flags.ensures.1 refl

pub returns-in_ok-names-in-Flags-clause-paid : goal.returns-in_ok-names-in-Flags-clause-paid
returns-in_ok-names-in-Flags-clause-paid c ts covers priced = c.put-in-Flags.ensures.paid c.index-held.result.now c.index-held.ensures (flags-sized c.index-held.result.now c.in-Flags.flags c.in_ok-names-in-Flags.names.items c.as_slice-in-Flags.result.now c.in-Flags.is c.as_slice-in-Flags.ensures.value c.in_ok-names-in-Flags.ensures) ts covers priced

pub returns-in_err-names-in-Enum-clause-paid : goal.returns-in_err-names-in-Enum-clause-paid
returns-in_err-names-in-Enum-clause-paid c ts covers priced = memory-answer c.args.self.now.types.now c.args.self.now.merged ts 0 c.args.state.now _ OutOfMemory c.from_residual-in_err-names-in-Enum.result c.from_residual-in_err-names-in-Enum.ensures.1 refl

pub returns-in_ok-names-in-Enum-clause-paid : goal.returns-in_ok-names-in-Enum-clause-paid
returns-in_ok-names-in-Enum-clause-paid c ts covers priced = c.put-in-Enum.ensures.paid c.index-held.result.now c.index-held.ensures (enum-sized c.index-held.result.now c.in-Enum.cases c.in_ok-names-in-Enum.names.items c.as_slice-in-Enum.result.now c.in-Enum.is c.as_slice-in-Enum.ensures.value c.in_ok-names-in-Enum.ensures) ts covers priced

pub returns-in_default-clause-paid : goal.returns-in_default-clause-paid
returns-in_default-clause-paid c ts covers priced = c.put-in_default.ensures.paid c.index-held.result.now c.index-held.ensures (plain-sized c.index-held.result.now (defined_of c.plain_definition.result) c.plain_definition.ensures.short) ts covers priced
