use Rattle.std.proofs.Common.{Some, Err, ap, inl, inr, refl, subst, sym, ◌∙◌}
use Rattle.wac_types_shapes.specs.declared.shapes.component.DefinedType.TheVariants as defined
use Rattle.wac_types_shapes.specs.shapes.Named.{named_pairs, NoNameTwice, labelled, given_names}
use Rattle.wac_script.specs.lines.Words.{spelled}
use Rattle.wac_script.specs.declared.lines.shapes.Shape.TheVariants as said
use Rattle.wac_script.specs.labels.Things.{things_of}
use Rattle.wac_script.specs.labels.Shapes.{IsShape, HasFieldsOnce}
use Rattle.wac_script.specs.private.Unread.{ReadsSuch}
use Rattle.wac_script.proofs.ReadLemmas.{exit, exit-shape, exit-memory}
use Rattle.wac_script.proofs.labels.things.Things.shape.Goals as goal

pub returns-in-Record : goal.returns-in-Record
returns-in-Record c = subst (λ s. ReadsSuch (IsShape (things_of c.args.self.now) s) HasFieldsOnce c.record.result) (sym c.in-Record.is) c.record.ensures

pub returns-in-Variant : goal.returns-in-Variant
returns-in-Variant c = subst (λ s. ReadsSuch (IsShape (things_of c.args.self.now) s) HasFieldsOnce c.variant.result) (sym c.in-Variant.is) c.variant.ensures

pub returns-in-Enum : goal.returns-in-Enum
returns-in-Enum c = subst (λ s. ReadsSuch (IsShape (things_of c.args.self.now) s) HasFieldsOnce c.enumeration.result) (sym c.in-Enum.is) c.enumeration.ensures

pub returns-in-Flags : goal.returns-in-Flags
returns-in-Flags c = subst (λ s. ReadsSuch (IsShape (things_of c.args.self.now) s) HasFieldsOnce c.flags.result) (sym c.in-Flags.is) c.flags.ensures

pub returns-in-Tuple : goal.returns-in-Tuple
returns-in-Tuple c = subst (λ s. ReadsSuch (IsShape (things_of c.args.self.now) s) HasFieldsOnce c.tuple.result) (sym c.in-Tuple.is) c.tuple.ensures

pub returns-in-FixedSizeList : goal.returns-in-FixedSizeList
returns-in-FixedSizeList c = subst (λ s. ReadsSuch (IsShape (things_of c.args.self.now) s) HasFieldsOnce c.fixed_size_list.result) (sym c.in-FixedSizeList.is) c.fixed_size_list.ensures

pub returns-in-Result : goal.returns-in-Result
returns-in-Result c = subst (λ s. ReadsSuch (IsShape (things_of c.args.self.now) s) HasFieldsOnce c.result.result) (sym c.in-Result.is) c.result.ensures

pub returns-in_ok-value-in-List : goal.returns-in_ok-value-in-List
returns-in_ok-value-in-List c = subst (λ s. IsShape (things_of c.args.self.now) s (defined.List c.in_ok-value-in-List.field-0)) (sym c.in-List.is) (c.in_ok-value-in-List.field-0, c.in_ok-value-in-List.ensures, refl)

pub returns-in_err-value-in-List : goal.returns-in_err-value-in-List
returns-in_err-value-in-List c = subst (λ s. ReadsSuch (IsShape (things_of c.args.self.now) s) HasFieldsOnce c.from_residual.result) (sym c.in-List.is) (exit _ _ c.from_residual.result (c.in_err-value-in-List.field-0).0 c.from_residual.ensures.1 c.in_err-value-in-List.ensures (λ none. inl (λ d h. none h.0 h.1)))

pub returns-in_ok-value-in-Option : goal.returns-in_ok-value-in-Option
returns-in_ok-value-in-Option c = subst (λ s. IsShape (things_of c.args.self.now) s (defined.Option c.in_ok-value-in-Option.field-0)) (sym c.in-Option.is) (c.in_ok-value-in-Option.field-0, c.in_ok-value-in-Option.ensures, refl)

pub returns-in_err-value-in-Option : goal.returns-in_err-value-in-Option
returns-in_err-value-in-Option c = subst (λ s. ReadsSuch (IsShape (things_of c.args.self.now) s) HasFieldsOnce c.from_residual-in_err-value-in-Option.result) (sym c.in-Option.is) (exit _ _ c.from_residual-in_err-value-in-Option.result (c.in_err-value-in-Option.field-0).0 c.from_residual-in_err-value-in-Option.ensures.1 c.in_err-value-in-Option.ensures (λ none. inl (λ d h. none h.0 h.1)))

pub returns-in_ok-value-in-Alias : goal.returns-in_ok-value-in-Alias
returns-in_ok-value-in-Alias c = subst (λ s. IsShape (things_of c.args.self.now) s (defined.Alias c.in_ok-value-in-Alias.field-0)) (sym c.in-Alias.is) (c.in_ok-value-in-Alias.field-0, c.in_ok-value-in-Alias.ensures, refl)

pub returns-in_err-value-in-Alias : goal.returns-in_err-value-in-Alias
returns-in_err-value-in-Alias c = subst (λ s. ReadsSuch (IsShape (things_of c.args.self.now) s) HasFieldsOnce c.from_residual-in_err-value-in-Alias.result) (sym c.in-Alias.is) (exit _ _ c.from_residual-in_err-value-in-Alias.result (c.in_err-value-in-Alias.field-0).0 c.from_residual-in_err-value-in-Alias.ensures.1 c.in_err-value-in-Alias.ensures (λ none. inl (λ d h. none h.0 h.1)))

pub returns-in_ok-payload-in-Stream : goal.returns-in_ok-payload-in-Stream
returns-in_ok-payload-in-Stream c = subst (λ s. IsShape (things_of c.args.self.now) s (defined.Stream c.in_ok-payload-in-Stream.field-0)) (sym c.in-Stream.is) (c.in_ok-payload-in-Stream.field-0, c.in_ok-payload-in-Stream.ensures, refl)

pub returns-in_err-payload-in-Stream : goal.returns-in_err-payload-in-Stream
returns-in_err-payload-in-Stream c = subst (λ s. ReadsSuch (IsShape (things_of c.args.self.now) s) HasFieldsOnce c.from_residual-in_err-payload-in-Stream.result) (sym c.in-Stream.is) (exit _ _ c.from_residual-in_err-payload-in-Stream.result (c.in_err-payload-in-Stream.field-0).0 c.from_residual-in_err-payload-in-Stream.ensures.1 c.in_err-payload-in-Stream.ensures (λ none. inl (λ d h. none h.0 h.1)))

pub returns-in_ok-payload-in-Future : goal.returns-in_ok-payload-in-Future
returns-in_ok-payload-in-Future c = subst (λ s. IsShape (things_of c.args.self.now) s (defined.Future c.in_ok-payload-in-Future.field-0)) (sym c.in-Future.is) (c.in_ok-payload-in-Future.field-0, c.in_ok-payload-in-Future.ensures, refl)

pub returns-in_err-payload-in-Future : goal.returns-in_err-payload-in-Future
returns-in_err-payload-in-Future c = subst (λ s. ReadsSuch (IsShape (things_of c.args.self.now) s) HasFieldsOnce c.from_residual-in_err-payload-in-Future.result) (sym c.in-Future.is) (exit _ _ c.from_residual-in_err-payload-in-Future.result (c.in_err-payload-in-Future.field-0).0 c.from_residual-in_err-payload-in-Future.ensures.1 c.in_err-payload-in-Future.ensures (λ none. inl (λ d h. none h.0 h.1)))
