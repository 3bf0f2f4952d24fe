use Rattle.std.proofs.Common.{◌≡◌, ◌∙◌, ◌+◌, ◌*◌, ◌^◌, ◌≤◌, ◌⊎◌, inl, inr, true, List, IfSome, ap, arith, length, refl, sym, subst}
use Rattle.wac_binary.specs.Bytes.{bytes_of}
use Rattle.wac_binary.specs.Fits.{Fits}
use Rattle.wac_binary.specs.Format.{AreInFormat}
use Rattle.wac_binary.specs.Items.{Item}
use Rattle.wac_graph_model.specs.causes.Cause.{AnswersFor, CauseKind, Occurs, Stands, cause_of, kind_of_cause}
use Rattle.wac_graph_model.specs.private.causes.Search.{IsRefused}
use Rattle.wac_graph_model.specs.private.weight.Written.{order_cost}
use Rattle.wac_graph_model.specs.weight.GraphWeight.{bound}
use Rattle.wac_graph_model.specs.declared.causes.errors.EncodeError.{EncodeError}
use Rattle.wac_graph_model.specs.declared.causes.errors.EncodeError.TheVariants.{TooLarge}
use Rattle.wac_merge_classes.specs.entries.Classes.{by_names}
use Rattle.wac_graph_model.specs.nodes.OuterImports.{outer_bindings, outer_entries}
use Rattle.wac_merge_classes.specs.terms.Faults.{HasNoCircle}
use Rattle.wac_edges.specs.Order.{Writes, IsAcyclic}
use Rattle.wac_edges.specs.declared.node.NodeId.{NodeId}
use Rattle.wac_graph_model.specs.meaning.Means.{Means, is_written}
use Rattle.wac_graph_model.specs.nodes.Graph.{Graph}
use Rattle.wac_graph_reader.specs.private.reading.Seen.{open_numbers}
use Rattle.wac_graph_encode.specs.private.places.Places.{ArePlaced}
use Rattle.wac_graph_reader.proofs.lemmas.writing.CauseLemmas.{names_cause, refused_for, none_occurs, nameless_answers, exit_cause, exit_refused}
use Rattle.wac_graph_encode.proofs.lemmas.places.OuterNameLemmas.{items_valid, names_valid, fault_stands, fault_answers}
use Rattle.wac_merge_classes.specs.entries.Agreement.{AllMembersAgree}
use Rattle.wac_merge_imports.specs.unions.MergedScope.{BindsAsClasses}
use Rattle.wac_encode_imports.specs.private.Told.{entries_items}
use Rattle.wac_encode_imports.specs.private.ToldGraph.{HasNoUnbound}
use Rattle.wac_encode_scopes.specs.private.Paid.{total}
use Rattle.wac_graph_encode.specs.private.encoding.Root.{IsFaultlessNode}
use Rattle.wac_graph.proofs.BeginLemmas.{faultless_node, no_unbound, nodes_there}
use Rattle.wac_graph.proofs.WantedAskedLemmas.{IsDefinition}
use Rattle.wac_graph.proofs.WithinLemmas.{imports_large, names_never_large, never_large, written_within}
use Rattle.wac_graph.proofs.graph.CompositionGraph.encode.Goals as goal

pub returns-in_err-ordered-clause-cause : goal.returns-in_err-ordered-clause-cause
returns-in_err-ordered-clause-cause c = exit_cause (λ e. IfSome (cause_of e) (Stands c.args.self.now c.args.options)) c.from_residual.result (c.in_err-ordered.field-0).0 c.from_residual.ensures.1
    (names_cause c.args.self.now c.args.options (c.in_err-ordered.field-0).0 (subst (λ g. IsRefused g c.args.options (c.in_err-ordered.field-0).0) c.reader-reader.ensures (c.in_err-ordered.ensures.refused c.args.options)))

pub returns-in_err-ordered-clause-refused : goal.returns-in_err-ordered-clause-refused
returns-in_err-ordered-clause-refused c = λ cause stands. exit_refused (AnswersFor cause) c.from_residual.result (c.in_err-ordered.field-0).0 c.from_residual.ensures.1
    (refused_for c.args.self.now c.law.ensures c.fault_law.ensures c.args.options (c.in_err-ordered.field-0).0 (subst (λ g. IsRefused g c.args.options (c.in_err-ordered.field-0).0) c.reader-reader.ensures (c.in_err-ordered.ensures.refused c.args.options)) cause stands)

pub returns-in_err-check_conflicts-clause-cause : goal.returns-in_err-check_conflicts-clause-cause
returns-in_err-check_conflicts-clause-cause c = exit_cause (λ e. IfSome (cause_of e) (Stands c.args.self.now c.args.options)) c.from_residual-in_err-check_conflicts.result (c.in_err-check_conflicts.field-0).0 c.from_residual-in_err-check_conflicts.ensures.1
    (names_cause c.args.self.now c.args.options (c.in_err-check_conflicts.field-0).0 (c.in_err-check_conflicts.ensures.refused c.args.options))

pub returns-in_err-check_conflicts-clause-refused : goal.returns-in_err-check_conflicts-clause-refused
returns-in_err-check_conflicts-clause-refused c = λ cause stands. exit_refused (AnswersFor cause) c.from_residual-in_err-check_conflicts.result (c.in_err-check_conflicts.field-0).0 c.from_residual-in_err-check_conflicts.ensures.1
    (refused_for c.args.self.now c.law.ensures c.fault_law.ensures c.args.options (c.in_err-check_conflicts.field-0).0 (c.in_err-check_conflicts.ensures.refused c.args.options) cause stands)

pub returns-in_err-merge-clause-cause : goal.returns-in_err-merge-clause-cause
returns-in_err-merge-clause-cause c = exit_cause (λ e. IfSome (cause_of e) (Stands c.args.self.now c.args.options)) c.from_residual-in_err-merge.result (c.in_err-merge.field-0).0 c.from_residual-in_err-merge.ensures.1
    (names_cause c.args.self.now c.args.options (c.in_err-merge.field-0).0 (c.in_err-merge.ensures.refused c.args.options))

pub returns-in_err-merge-clause-refused : goal.returns-in_err-merge-clause-refused
returns-in_err-merge-clause-refused c = λ cause stands. exit_refused (AnswersFor cause) c.from_residual-in_err-merge.result (c.in_err-merge.field-0).0 c.from_residual-in_err-merge.ensures.1
    (refused_for c.args.self.now c.law.ensures c.fault_law.ensures c.args.options (c.in_err-merge.field-0).0 (c.in_err-merge.ensures.refused c.args.options) cause stands)

pub returns-in_err-check_types-clause-cause : goal.returns-in_err-check_types-clause-cause
returns-in_err-check_types-clause-cause c = exit_cause (λ e. IfSome (cause_of e) (Stands c.args.self.now c.args.options)) c.from_residual-in_err-check_types.result (c.in_err-check_types.field-0).0 c.from_residual-in_err-check_types.ensures.1
    (names_cause c.args.self.now c.args.options (c.in_err-check_types.field-0).0 (c.in_err-check_types.ensures.refused c.args.options refl))

pub returns-in_err-check_types-clause-refused : goal.returns-in_err-check_types-clause-refused
returns-in_err-check_types-clause-refused c = λ cause stands. exit_refused (AnswersFor cause) c.from_residual-in_err-check_types.result (c.in_err-check_types.field-0).0 c.from_residual-in_err-check_types.ensures.1
    (refused_for c.args.self.now c.law.ensures c.fault_law.ensures c.args.options (c.in_err-check_types.field-0).0 (c.in_err-check_types.ensures.refused c.args.options refl) cause stands)

pub returns-in_err-bytes-clause-refused : goal.returns-in_err-bytes-clause-refused
returns-in_err-bytes-clause-refused c = λ cause stands. exit_refused (AnswersFor cause) c.from_residual-in_err-bytes.result (c.in_err-bytes.field-0).0 c.from_residual-in_err-bytes.ensures.1
    (nameless_answers c.args.self.now c.args.options ((subst (λ g. IsAcyclic g.edges) c.reader-reader.ensures c.in_ok-ordered.ensures.acyclic), c.in_ok-check_conflicts.ensures.none, c.in_ok-merge.ensures.merges, c.in_ok-check_types.ensures.none) (c.in_err-bytes.field-0).0 c.in_err-bytes.ensures.fault cause stands)

pub returns-in_err-check_names-clause-cause : goal.returns-in_err-check_names-clause-cause
returns-in_err-check_names-clause-cause c = exit_cause (λ e. IfSome (cause_of e) (Stands c.args.self.now c.args.options)) c.from_residual-in_err-check_names.result (c.in_err-check_names.field-0).0 c.from_residual-in_err-check_names.ensures.1
    (fault_stands c.args.self.now c.law.ensures c.args.options c.class_laws.ensures (λ t es order w. (c.order_law.ensures t es order w).each) c.in_ok-state.imports.merge c.in_ok-state.ensures.placed.merged c.deref-2.result.now (subst (λ ns. Writes c.args.self.now.edges (is_written c.args.self.now) ns) (sym c.deref-2.ensures.value) (subst (λ g. Writes g.edges (is_written g) c.in_ok-ordered.ordered.order.items) c.reader-reader.ensures c.in_ok-ordered.ensures.whole)) ((subst (λ g. IsAcyclic g.edges) c.reader-reader.ensures c.in_ok-ordered.ensures.acyclic), c.in_ok-check_conflicts.ensures.none, c.in_ok-merge.ensures.merges, c.in_ok-check_types.ensures.none)
    (c.in_err-check_names.field-0).0 c.in_err-check_names.ensures.fault.0 c.in_err-check_names.ensures.fault.1)

pub returns-in_err-check_names-clause-refused : goal.returns-in_err-check_names-clause-refused
returns-in_err-check_names-clause-refused c = λ cause stands. exit_refused (AnswersFor cause) c.from_residual-in_err-check_names.result (c.in_err-check_names.field-0).0 c.from_residual-in_err-check_names.ensures.1
    (fault_answers c.args.self.now c.law.ensures c.args.options c.class_laws.ensures (λ t es order w. (c.order_law.ensures t es order w).each) c.in_ok-state.imports.merge c.in_ok-state.ensures.placed.merged c.deref-2.result.now (subst (λ ns. Writes c.args.self.now.edges (is_written c.args.self.now) ns) (sym c.deref-2.ensures.value) (subst (λ g. Writes g.edges (is_written g) c.in_ok-ordered.ordered.order.items) c.reader-reader.ensures c.in_ok-ordered.ensures.whole)) ((subst (λ g. IsAcyclic g.edges) c.reader-reader.ensures c.in_ok-ordered.ensures.acyclic), c.in_ok-check_conflicts.ensures.none, c.in_ok-merge.ensures.merges, c.in_ok-check_types.ensures.none)
    (c.in_err-check_names.field-0).0 c.in_err-check_names.ensures.fault.1 cause stands)

pub returns-clause-none : goal.returns-clause-none
returns-clause-none c = none_occurs c.args.self.now c.args.options ((subst (λ g. IsAcyclic g.edges) c.reader-reader.ensures c.in_ok-ordered.ensures.acyclic), c.in_ok-check_conflicts.ensures.none, c.in_ok-merge.ensures.merges, c.in_ok-check_types.ensures.none)
    (names_valid c.args.self.now c.law.ensures c.args.options c.class_laws.ensures (λ t es order w. (c.order_law.ensures t es order w).each) c.in_ok-state.imports.merge c.in_ok-state.ensures.placed.merged c.deref-2.result.now (subst (λ ns. Writes c.args.self.now.edges (is_written c.args.self.now) ns) (sym c.deref-2.ensures.value) (subst (λ g. Writes g.edges (is_written g) c.in_ok-ordered.ordered.order.items) c.reader-reader.ensures c.in_ok-ordered.ensures.whole)) c.in_ok-check_names.ensures.none)

pub returns-clause-refused : goal.returns-clause-refused
returns-clause-refused c =
    let none : (kind : CauseKind) → Occurs c.args.self.now c.args.options kind → ⊥ = returns-clause-none c in
    λ cause stands. absurd (none (kind_of_cause cause) stands.0.0)

pub check_conflicts-requires : goal.check_conflicts-requires
check_conflicts-requires c = subst (λ g. IsAcyclic g.edges) c.reader-reader.ensures c.in_ok-ordered.ensures.acyclic

pub merged-requires-clause-acyclic : goal.merged-requires-clause-acyclic
merged-requires-clause-acyclic c = subst (λ g. IsAcyclic g.edges) c.reader-reader.ensures c.in_ok-ordered.ensures.acyclic

pub merged-requires-clause-instantiations : goal.merged-requires-clause-instantiations
merged-requires-clause-instantiations c = c.as_slice.ensures.value ∙ c.in_ok-ordered.ensures.open ∙ ap open_numbers c.reader-reader.ensures

pub check_types-requires-clause-acyclic : goal.check_types-requires-clause-acyclic
check_types-requires-clause-acyclic c = subst (λ g. IsAcyclic g.edges) c.reader-reader.ensures c.in_ok-ordered.ensures.acyclic

pub write-requires-clause-whole : goal.write-requires-clause-whole
write-requires-clause-whole c = subst (λ ns. Writes c.reader-reader.result.edges (is_written c.reader-reader.result) ns) (sym c.deref.ensures.value) c.in_ok-ordered.ensures.whole

pub returns-clause-means : goal.returns-clause-means
returns-clause-means c = subst (λ g. (items : List Item) × (c.in_ok-bytes.bytes.items ≡ bytes_of items) × Fits items × AreInFormat items × Means items g c.args.options) c.reader-reader.ensures c.in_ok-bytes.ensures.means

pub returns-clause-valid : goal.returns-clause-valid
returns-clause-valid c = λ asked.
    let (items, written, _, _, means) = returns-clause-means c in
    (items, written, items_valid c.args.self.now c.law.ensures c.args.options c.class_laws.ensures (λ t es order w. (c.order_law.ensures t es order w).each) c.in_ok-state.imports.merge c.in_ok-state.ensures.placed.merged c.deref-2.result.now (subst (λ ns. Writes c.args.self.now.edges (is_written c.args.self.now) ns) (sym c.deref-2.ensures.value) (subst (λ g. Writes g.edges (is_written g) c.in_ok-ordered.ordered.order.items) c.reader-reader.ensures c.in_ok-ordered.ensures.whole)) asked c.in_ok-check_names.ensures.valid items means)

pub returns-in_err-state-clause-refused : goal.returns-in_err-state-clause-refused
returns-in_err-state-clause-refused c = λ cause stands. exit_refused (AnswersFor cause) c.from_residual-in_err-state.result (c.in_err-state.field-0).0 c.from_residual-in_err-state.ensures.1
    (nameless_answers c.args.self.now c.args.options ((subst (λ g. IsAcyclic g.edges) c.reader-reader.ensures c.in_ok-ordered.ensures.acyclic), c.in_ok-check_conflicts.ensures.none, c.in_ok-merge.ensures.merges, c.in_ok-check_types.ensures.none) (c.in_err-state.field-0).0 c.in_err-state.ensures.fault cause stands)

pub check_types-requires-clause-definitions : goal.check_types-requires-clause-definitions
check_types-requires-clause-definitions c = λ none. subst (λ (g : Graph). (n : NodeId) → IsDefinition g n → ⊥) c.reader-reader.ensures (c.in_ok-ordered.ensures.defined none)

pub begin-requires-clause-writable : goal.begin-requires-clause-writable
begin-requires-clause-writable c = (c.args.options.define_components, c.in_ok-check_types.ensures.none)

pub write-requires-clause-placed : goal.write-requires-clause-placed
write-requires-clause-placed c = subst (λ g. ArePlaced g c.in_ok-state.imports) (sym c.reader-reader.ensures) c.in_ok-state.ensures.placed

pub write-requires-clause-ordered : goal.write-requires-clause-ordered
write-requires-clause-ordered c = subst (λ g. HasNoCircle by_names g.types (outer_entries g)) (sym c.reader-reader.ensures) c.in_ok-merge.ensures.merges.1

pub write-requires-clause-agreed : goal.write-requires-clause-agreed
write-requires-clause-agreed c = subst (λ g. AllMembersAgree by_names g.types (outer_entries g)) (sym c.reader-reader.ensures) c.in_ok-merge.ensures.agreed

pub write-requires-clause-binds : goal.write-requires-clause-binds
write-requires-clause-binds c = subst (λ g. BindsAsClasses by_names g.types (outer_entries g) c.in_ok-state.imports.merge.merge) (sym c.reader-reader.ensures) c.in_ok-state.ensures.kept.binds

pub write-requires-clause-bound : goal.write-requires-clause-bound
write-requires-clause-bound c = λ outer is.
    subst (λ g. HasNoUnbound g.types (outer_entries g) outer) (sym c.reader-reader.ensures) (no_unbound c.args.self.now c.law.ensures c.args.options.define_components c.in_ok-check_types.ensures.none outer)

pub write-requires-clause-faultless : goal.write-requires-clause-faultless
write-requires-clause-faultless c = λ outer is n within.
    subst (λ g. IsFaultlessNode g c.args.options.define_components (outer_bindings g outer) n) (sym c.reader-reader.ensures) (faultless_node c.args.self.now c.law.ensures c.args.options.define_components c.in_ok-check_types.ensures.none outer n)

pub check_names-requires-clause-nodes : goal.check_names-requires-clause-nodes
check_names-requires-clause-nodes c =
    nodes_there c.args.self.now c.deref-2.result.now (subst (λ ns. Writes c.args.self.now.edges (is_written c.args.self.now) ns) (sym c.deref-2.ensures.value) (subst (λ g. Writes g.edges (is_written g) c.in_ok-ordered.ordered.order.items) c.reader-reader.ensures c.in_ok-ordered.ensures.whole))

-- ---- the bound
pub returns-clause-short : goal.returns-clause-short
returns-clause-short c =
    let g = c.args.self.now in
    let o = c.args.options in
    let m = c.in_ok-merge.merge.merge in
    let order = c.deref.result.now in
    let writes : Writes g.edges (is_written g) order = subst (λ ns. Writes g.edges (is_written g) ns) (sym c.deref.ensures.value) (subst (λ (x : Graph). Writes x.edges (is_written x) c.in_ok-ordered.ordered.order.items) c.reader-reader.ensures c.in_ok-ordered.ensures.whole) in
    let most = written_within c.order_law-2.ensures.fits g o order m (total m.types true c.in_ok-state.state) c.in_ok-merge.ensures.merged.whole.ordered c.law.ensures writes c.in_ok-merge.ensures.lighter c.in_ok-state.ensures.small in
    let written = subst (λ (x : Graph). length c.in_ok-bytes.bytes.items ≤ 8 + total m.types true c.in_ok-state.state + 4 * entries_items x.types (outer_entries x) + order_cost x o order) c.reader-reader.ensures (c.in_ok-bytes.ensures.short m.types true) in
    omega (arith, most, written)

pub returns-in_err-ordered-clause-too_large : goal.returns-in_err-ordered-clause-too_large
returns-in_err-ordered-clause-too_large c = exit_cause (λ (e : EncodeError). e ≡ TooLarge → 2 ^ 32 ≤ bound c.args.self.now c.args.options) c.from_residual.result (c.in_err-ordered.field-0).0 c.from_residual.ensures.1
    (never_large c.reader-reader.result c.args.options (c.in_err-ordered.field-0).0 (c.in_err-ordered.ensures.refused c.args.options))

pub returns-in_err-check_conflicts-clause-too_large : goal.returns-in_err-check_conflicts-clause-too_large
returns-in_err-check_conflicts-clause-too_large c = exit_cause (λ (e : EncodeError). e ≡ TooLarge → 2 ^ 32 ≤ bound c.args.self.now c.args.options) c.from_residual-in_err-check_conflicts.result (c.in_err-check_conflicts.field-0).0 c.from_residual-in_err-check_conflicts.ensures.1
    (never_large c.args.self.now c.args.options (c.in_err-check_conflicts.field-0).0 (c.in_err-check_conflicts.ensures.refused c.args.options))

pub returns-in_err-merge-clause-too_large : goal.returns-in_err-merge-clause-too_large
returns-in_err-merge-clause-too_large c = exit_cause (λ (e : EncodeError). e ≡ TooLarge → 2 ^ 32 ≤ bound c.args.self.now c.args.options) c.from_residual-in_err-merge.result (c.in_err-merge.field-0).0 c.from_residual-in_err-merge.ensures.1
    (never_large c.args.self.now c.args.options (c.in_err-merge.field-0).0 (c.in_err-merge.ensures.refused c.args.options))

pub returns-in_err-check_types-clause-too_large : goal.returns-in_err-check_types-clause-too_large
returns-in_err-check_types-clause-too_large c = exit_cause (λ (e : EncodeError). e ≡ TooLarge → 2 ^ 32 ≤ bound c.args.self.now c.args.options) c.from_residual-in_err-check_types.result (c.in_err-check_types.field-0).0 c.from_residual-in_err-check_types.ensures.1
    (never_large c.args.self.now c.args.options (c.in_err-check_types.field-0).0 (c.in_err-check_types.ensures.refused c.args.options refl))

pub returns-in_err-check_names-clause-too_large : goal.returns-in_err-check_names-clause-too_large
returns-in_err-check_names-clause-too_large c = exit_cause (λ (e : EncodeError). e ≡ TooLarge → 2 ^ 32 ≤ bound c.args.self.now c.args.options) c.from_residual-in_err-check_names.result (c.in_err-check_names.field-0).0 c.from_residual-in_err-check_names.ensures.1
    (names_never_large _ (c.in_err-check_names.field-0).0 c.in_err-check_names.ensures.fault.1)

pub returns-in_err-state-clause-too_large : goal.returns-in_err-state-clause-too_large
returns-in_err-state-clause-too_large c =
    let g = c.args.self.now in
    let order = c.in_ok-ordered.ordered.order.items in
    let writes : Writes g.edges (is_written g) order = subst (λ (x : Graph). Writes x.edges (is_written x) order) c.reader-reader.ensures c.in_ok-ordered.ensures.whole in
    exit_cause (λ (e : EncodeError). e ≡ TooLarge → 2 ^ 32 ≤ bound c.args.self.now c.args.options) c.from_residual-in_err-state.result (c.in_err-state.field-0).0 c.from_residual-in_err-state.ensures.1
    (λ large. imports_large c.order_law-2.ensures.fits g c.args.options order c.in_ok-merge.merge.merge c.in_ok-merge.ensures.merged.whole.ordered c.law.ensures writes c.in_ok-merge.ensures.lighter (c.in_err-state.ensures.too_large large))

pub returns-in_err-bytes-clause-too_large : goal.returns-in_err-bytes-clause-too_large
returns-in_err-bytes-clause-too_large c =
    let g = c.args.self.now in
    let o = c.args.options in
    let m = c.in_ok-merge.merge.merge in
    let order = c.deref.result.now in
    let writes : Writes g.edges (is_written g) order = subst (λ ns. Writes g.edges (is_written g) ns) (sym c.deref.ensures.value) (subst (λ (x : Graph). Writes x.edges (is_written x) c.in_ok-ordered.ordered.order.items) c.reader-reader.ensures c.in_ok-ordered.ensures.whole) in
    let most = written_within c.order_law-2.ensures.fits g o order m (total m.types true c.in_ok-state.state) c.in_ok-merge.ensures.merged.whole.ordered c.law.ensures writes c.in_ok-merge.ensures.lighter c.in_ok-state.ensures.small in
    exit_cause (λ (e : EncodeError). e ≡ TooLarge → 2 ^ 32 ≤ bound c.args.self.now c.args.options) c.from_residual-in_err-bytes.result (c.in_err-bytes.field-0).0 c.from_residual-in_err-bytes.ensures.1
    (λ large.
    let many = subst (λ (x : Graph). (2 ^ 32 ≤ 8 + total m.types true c.in_ok-state.state + 4 * entries_items x.types (outer_entries x) + order_cost x o order) ⊎ (2 ^ 32 ≤ bound x o)) c.reader-reader.ensures (c.in_err-bytes.ensures.too_large large m.types true) in
    elim many [ inl more ↦ omega (arith, most, more) | inr heavy ↦ heavy ])
