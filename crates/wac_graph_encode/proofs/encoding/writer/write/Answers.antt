use Rattle.std.proofs.Common.{◌++◌, refl, ap, ◌∙◌, sym, subst}
use Rattle.std.specs.List.{flat_map}
use Rattle.wac_encode_scopes.specs.Roots.{items_of}
use Rattle.wac_graph_model.specs.meaning.Means.{export_item_of, further_exports, AreNames}
use Rattle.wac_graph_model.specs.private.meaning.Encoding.{HasRoom, index_in}
use Rattle.wac_graph_model.proofs.lemmas.meaning.MergeLemmas.{merged_means}
use Rattle.wac_graph_reader.specs.private.reading.EncoderView.{progress}
use Rattle.std.proofs.Common.{◌+◌, inl, inr, length, arith}
use Rattle.wac_graph_reader.specs.private.writing.Sizes.{items_size}
use Rattle.wac_graph_reader.proofs.lemmas.writing.CauseLemmas.{exit_cause}
use Rattle.wac_graph_encode.proofs.lemmas.encoding.RootCosts.{size-total, memory-fault-exit}
use Rattle.wac_graph_encode.proofs.encoding.writer.write.Goals as goal

pub finish-component-requires : goal.finish-component-requires
finish-component-requires c = c.in_ok-encoder.ensures.root

pub write_exports-requires : goal.write_exports-requires
write_exports-requires c = subst (HasRoom c.args.reader.now) (sym (c.deref.ensures.value ∙ ap (λ v. v.items) c.finish-component.ensures.indexes)) c.in_ok-encoder.ensures.room

pub write_names-requires-clause-room : goal.write_names-requires-clause-room
write_names-requires-clause-room c = subst (HasRoom c.args.reader.now) (sym (c.deref-2.ensures.value ∙ ap (λ v. v.items) c.finish-component.ensures.indexes)) c.in_ok-encoder.ensures.room

pub returns-clause-means : goal.returns-clause-means
returns-clause-means c =
    let noted = ap (λ v. v.items) c.finish-component.ensures.indexes in
    let whole = (c.requires.placed.merged).whole in (
      c.write_processor.new.component,
      c.in_ok-into_bytes.ensures.bytes,
      c.in_ok-into_bytes.ensures.fits,
      c.in_ok-into_bytes.ensures.in_format,
      merged_means (record { counted = c.law.ensures.counted; earlier = c.law.ensures.earlier; bounds_counted = c.law.ensures.instances_counted; bounds_earlier = c.law.ensures.instances_earlier; types_counted = c.law.ensures.types_counted; types_earlier = c.law.ensures.types_earlier }) c.args.reader.now c.law-2.ensures
          c.args.imports.now.merge.merge whole c.args.options c.args.imports.now.places.items c.args.order.now (progress c.in_ok-encoder.encoder)
          (c.in_ok-encoder.ensures.written c.args.options refl (whole.merge).order (whole.merge).written)
          c.in_ok-write_names.ensures.written.0
          (subst (λ xs. AreNames c.args.reader.now (index_in xs) c.in_ok-write_names.ensures.written.0) (c.deref-2.ensures.value ∙ noted) c.in_ok-write_names.ensures.written.1)
          c.write_exports.new.component c.write_names.new.component c.write_processor.new.component
          (c.in_ok-write_exports.ensures.written
          ∙ ap (λ xs. xs ++ flat_map (export_item_of c.args.reader.now (index_in c.deref.result.now)) (further_exports c.args.reader.now)) c.finish-component.ensures.items
          ∙ ap (λ xs. items_of c.in_ok-encoder.encoder.state.here.content ++ flat_map (export_item_of c.args.reader.now (index_in xs)) (further_exports c.args.reader.now)) (c.deref.ensures.value ∙ noted))
          c.in_ok-write_names.ensures.written.2 c.in_ok-write_processor.ensures.written,
    )

pub returns-clause-short : goal.returns-clause-short
returns-clause-short c = λ x b.
    let g = c.args.reader.now in
    let state = c.in_ok-encoder.encoder.state in
    let told = c.in_ok-tell_imports.ensures.cost x b in
    let nodes = c.in_ok-encoder.ensures.cost c.args.options refl in
    let size = size-total g.types state c.in_ok-encoder.ensures.root in
    let begins = ap items_size c.finish-component.ensures.items in
    let bytes = c.size_law.ensures.bytes c.write_processor.new.component c.in_ok-into_bytes.ensures.fits in
    let same = ap length c.in_ok-into_bytes.ensures.bytes in
    omega (arith, told, nodes, size, begins, c.in_ok-write_exports.ensures.cost, c.in_ok-write_names.ensures.cost, c.in_ok-write_processor.ensures.cost, bytes, same)

pub returns-in_err-tell_imports-clause-too_large : goal.returns-in_err-tell_imports-clause-too_large
returns-in_err-tell_imports-clause-too_large c = memory-fault-exit _ (c.in_err-tell_imports.field-0).0 c.from_residual.result c.from_residual.ensures.1 c.in_err-tell_imports.ensures.memory

pub returns-in_err-encoder-clause-too_large : goal.returns-in_err-encoder-clause-too_large
returns-in_err-encoder-clause-too_large c = exit_cause _ c.from_residual-in_err-encoder.result (c.in_err-encoder.field-0).0 c.from_residual-in_err-encoder.ensures.1
    (λ large x b.
    let told = c.in_ok-tell_imports.ensures.cost x b in
    elim (c.in_err-encoder.ensures.too_large large c.args.options refl) [ inl many ↦ inl (omega (arith, told, many)) | inr heavy ↦ inr heavy ])

pub returns-in_err-write_exports-clause-too_large : goal.returns-in_err-write_exports-clause-too_large
returns-in_err-write_exports-clause-too_large c = exit_cause _ c.from_residual-in_err-write_exports.result (c.in_err-write_exports.field-0).0 c.from_residual-in_err-write_exports.ensures.1
    (λ large x b.
    let told = c.in_ok-tell_imports.ensures.cost x b in
    let nodes = c.in_ok-encoder.ensures.cost c.args.options refl in
    let size = size-total c.args.reader.now.types c.in_ok-encoder.encoder.state c.in_ok-encoder.ensures.root in
    let begins = ap items_size c.finish-component.ensures.items in
    inl (omega (arith, told, nodes, size, begins, c.in_err-write_exports.ensures.cost large)))

pub returns-in_err-write_names-clause-too_large : goal.returns-in_err-write_names-clause-too_large
returns-in_err-write_names-clause-too_large c = exit_cause _ c.from_residual-in_err-write_names.result (c.in_err-write_names.field-0).0 c.from_residual-in_err-write_names.ensures.1
    (λ large x b.
    let told = c.in_ok-tell_imports.ensures.cost x b in
    let nodes = c.in_ok-encoder.ensures.cost c.args.options refl in
    let size = size-total c.args.reader.now.types c.in_ok-encoder.encoder.state c.in_ok-encoder.ensures.root in
    let begins = ap items_size c.finish-component.ensures.items in
    inl (omega (arith, told, nodes, size, begins, c.in_ok-write_exports.ensures.cost, c.in_err-write_names.ensures.cost large)))

pub returns-in_err-write_processor-clause-too_large : goal.returns-in_err-write_processor-clause-too_large
returns-in_err-write_processor-clause-too_large c = exit_cause _ c.from_residual-in_err-write_processor.result (c.in_err-write_processor.field-0).0 c.from_residual-in_err-write_processor.ensures.1
    (λ large x b.
    let told = c.in_ok-tell_imports.ensures.cost x b in
    let nodes = c.in_ok-encoder.ensures.cost c.args.options refl in
    let size = size-total c.args.reader.now.types c.in_ok-encoder.encoder.state c.in_ok-encoder.ensures.root in
    let begins = ap items_size c.finish-component.ensures.items in
    inl (omega (arith, told, nodes, size, begins, c.in_ok-write_exports.ensures.cost, c.in_ok-write_names.ensures.cost, c.in_err-write_processor.ensures.cost large)))

pub returns-in_err-into_bytes-clause-too_large : goal.returns-in_err-into_bytes-clause-too_large
returns-in_err-into_bytes-clause-too_large c = memory-fault-exit _ (c.in_err-into_bytes.field-0).0 c.from_residual-in_err-into_bytes.result c.from_residual-in_err-into_bytes.ensures.1 c.in_err-into_bytes.ensures.memory
