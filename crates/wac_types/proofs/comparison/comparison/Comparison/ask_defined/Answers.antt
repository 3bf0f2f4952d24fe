use Rattle.std.proofs.Common.{ap, []}
use Rattle.std.proofs.lemmas.Bool.{iff_false}
use Rattle.std.proofs.lemmas.Result.{IfOk-weaker}
use Rattle.wac_types_shapes.specs.primitives.Tree.{record_of, variant_of, list_of, fixed_list_of, option_of, result_of, flags_of, enum_of, stream_of, future_of}
use Rattle.wac_types_collection.specs.collection.Collection.{and_maybe}
use Rattle.wac_types.specs.private.comparison.Compare.{value_in, optional_in}
use Rattle.wac_types.proofs.lemmas.comparison.Equal.{labels_told}
use Rattle.wac_types.proofs.lemmas.comparison.Values.{inner, asks_now, asks_iff}
use Rattle.wac_types.proofs.lemmas.comparison.Definitions.{names_in, parts_in, last_in, tuples_from, tuples_back, entries_from, entries_back, records_back, asks_both}
use Rattle.wac_types.proofs.comparison.comparison.Comparison.ask_defined.Goals as goal

pub returns-in-Tuple-Tuple-clause-asked : goal.returns-in-Tuple-Tuple-clause-asked
returns-in-Tuple-Tuple-clause-asked c =
    let x = value_in c.args.self.first.now in
    let y = value_in c.args.self.second.now in
    rw (c.in-Tuple-Tuple.is-0, c.in-Tuple-Tuple.is-1) (IfOk-weaker c.ask_values.result _ _ (λ _ s. asks_iff (tuples_from x y _ _) (tuples_back x y _ _) s)
    (rw (c.as_slice.ensures, c.as_slice-in-Tuple-Tuple.ensures) at c.ask_values.ensures.asked))

pub returns-in-Tuple-Tuple-clause-mismatch : goal.returns-in-Tuple-Tuple-clause-mismatch
returns-in-Tuple-Tuple-clause-mismatch c = λ is. rw (c.in-Tuple-Tuple.is-0, c.in-Tuple-Tuple.is-1) (λ h.
    (rw (c.as_slice.ensures, c.as_slice-in-Tuple-Tuple.ensures) at c.ask_values.ensures.mismatch) is (tuples_back (value_in c.args.self.first.now) (value_in c.args.self.second.now) _ _ h))

pub returns-in-List-List-clause-asked : goal.returns-in-List-List-clause-asked
returns-in-List-List-clause-asked c = rw (c.in-List-List.is-0, c.in-List-List.is-1) (IfOk-weaker c.ask_value.result _ _ (λ _ s. asks_iff (ap list_of) (ap inner) s) c.ask_value.ensures.asked)

pub returns-in-FixedSizeList-FixedSizeList-clause-asked : goal.returns-in-FixedSizeList-FixedSizeList-clause-asked
returns-in-FixedSizeList-FixedSizeList-clause-asked c = rw (c.in-FixedSizeList-FixedSizeList.is-0, c.in-FixedSizeList-FixedSizeList.is-1, c.if-m-n.true)
    (IfOk-weaker c.ask_value-in-FixedSizeList-FixedSizeList.result _ _ (λ _ s. asks_iff (ap (fixed_list_of c.in-FixedSizeList-FixedSizeList.n)) (ap inner) s) c.ask_value-in-FixedSizeList-FixedSizeList.ensures.asked)

pub returns-in-Option-Option-clause-asked : goal.returns-in-Option-Option-clause-asked
returns-in-Option-Option-clause-asked c = rw (c.in-Option-Option.is-0, c.in-Option-Option.is-1) (IfOk-weaker c.ask_value-in-Option-Option.result _ _ (λ _ s. asks_iff (ap option_of) (ap inner) s) c.ask_value-in-Option-Option.ensures.asked)

pub returns-in_ok-ask_optional-in-Result-Result-clause-asked : goal.returns-in_ok-ask_optional-in-Result-Result-clause-asked
returns-in_ok-ask_optional-in-Result-Result-clause-asked c = rw (c.in-Result-Result.is-0, c.in-Result-Result.is-1) (IfOk-weaker c.ask_optional-in-Result-Result.result _ _
    (λ _ s. asks_iff (λ h i. result_of (h.0 i) (h.1 i)) (λ h. (ap inner h, ap last_in h))
    (asks_both c.in-Result-Result.v c.in-Result-Result.w (and_maybe c.in-Result-Result.f []) (and_maybe c.in-Result-Result.g []) c.in_ok-ask_optional-in-Result-Result.ensures.asked s)) c.ask_optional-in-Result-Result.ensures.asked)

pub returns-in-Variant-Variant-clause-asked : goal.returns-in-Variant-Variant-clause-asked
returns-in-Variant-Variant-clause-asked c =
    let x = optional_in c.args.self.first.now in
    let y = optional_in c.args.self.second.now in
    rw (c.in-Variant-Variant.is-0, c.in-Variant-Variant.is-1)
    (IfOk-weaker c.ask_cases.result _ _ (λ _ s. asks_iff (entries_from x y variant_of _ _) (λ h. entries_back x y _ _ (ap names_in h) (ap parts_in h)) s) c.ask_cases.ensures.asked)

pub returns-in-Variant-Variant-clause-mismatch : goal.returns-in-Variant-Variant-clause-mismatch
returns-in-Variant-Variant-clause-mismatch c = λ is. rw (c.in-Variant-Variant.is-0, c.in-Variant-Variant.is-1) (λ h.
    c.ask_cases.ensures.mismatch is (entries_back (optional_in c.args.self.first.now) (optional_in c.args.self.second.now) _ _ (ap names_in h) (ap parts_in h)))

pub returns-in-Record-Record-clause-asked : goal.returns-in-Record-Record-clause-asked
returns-in-Record-Record-clause-asked c =
    let x = c.args.self.first.now in
    let y = c.args.self.second.now in
    rw (c.in-Record-Record.is-0, c.in-Record-Record.is-1) (IfOk-weaker c.ask_named.result _ _ (λ _ s. asks_iff (entries_from (value_in x) (value_in y) record_of _ _) (records_back x y _ _) s) c.ask_named.ensures.asked)

pub returns-in-Record-Record-clause-mismatch : goal.returns-in-Record-Record-clause-mismatch
returns-in-Record-Record-clause-mismatch c = λ is. rw (c.in-Record-Record.is-0, c.in-Record-Record.is-1) (λ h. c.ask_named.ensures.mismatch is (records_back c.args.self.first.now c.args.self.second.now _ _ h))

pub returns-in-Flags-Flags-clause-asked : goal.returns-in-Flags-Flags-clause-asked
returns-in-Flags-Flags-clause-asked c = rw (c.in-Flags-Flags.is-0, c.in-Flags-Flags.is-1) (IfOk-weaker c.told.result _ _ (λ _ e. asks_now (ap flags_of ((labels_told _ _ _ c.eq.ensures).0 e))) c.told.ensures.yes)

pub returns-in-Flags-Flags-clause-mismatch : goal.returns-in-Flags-Flags-clause-mismatch
returns-in-Flags-Flags-clause-mismatch c = λ is. rw (c.in-Flags-Flags.is-0, c.in-Flags-Flags.is-1) (λ h. iff_false (labels_told _ _ _ c.eq.ensures) (c.told.ensures.no is) (ap names_in h))

pub returns-in-Enum-Enum-clause-asked : goal.returns-in-Enum-Enum-clause-asked
returns-in-Enum-Enum-clause-asked c = rw (c.in-Enum-Enum.is-0, c.in-Enum-Enum.is-1) (IfOk-weaker c.told-in-Enum-Enum.result _ _ (λ _ e. asks_now (ap enum_of ((labels_told _ _ _ c.eq-in-Enum-Enum.ensures).0 e))) c.told-in-Enum-Enum.ensures.yes)

pub returns-in-Enum-Enum-clause-mismatch : goal.returns-in-Enum-Enum-clause-mismatch
returns-in-Enum-Enum-clause-mismatch c = λ is. rw (c.in-Enum-Enum.is-0, c.in-Enum-Enum.is-1) (λ h. iff_false (labels_told _ _ _ c.eq-in-Enum-Enum.ensures) (c.told-in-Enum-Enum.ensures.no is) (ap names_in h))

pub returns-in-Stream-Stream-clause-asked : goal.returns-in-Stream-Stream-clause-asked
returns-in-Stream-Stream-clause-asked c = rw (c.in-Stream-Stream.is-0, c.in-Stream-Stream.is-1)
    (IfOk-weaker c.ask_optional-in-Stream-Stream.result _ _ (λ _ s. asks_iff (ap stream_of) (ap inner) s) c.ask_optional-in-Stream-Stream.ensures.asked)

pub returns-in-Future-Future-clause-asked : goal.returns-in-Future-Future-clause-asked
returns-in-Future-Future-clause-asked c = rw (c.in-Future-Future.is-0, c.in-Future-Future.is-1)
    (IfOk-weaker c.ask_optional-in-Future-Future.result _ _ (λ _ s. asks_iff (ap future_of) (ap inner) s) c.ask_optional-in-Future-Future.ensures.asked)
