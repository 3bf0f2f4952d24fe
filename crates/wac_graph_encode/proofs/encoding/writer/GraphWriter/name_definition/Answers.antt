use Rattle.std.proofs.Common.{ap, sym, subst, ◌∙◌, false}
use Rattle.wac_types_shapes.specs.declared.shapes.component.ValueType.{ValueType}
use Rattle.wac_types_shapes.specs.declared.shapes.component.«Type».{«Type» as AnyType}
use Rattle.wac_types_shapes.specs.declared.shapes.component.«Type».TheVariants as ty
use Rattle.wac_types_collection.specs.collection.Aliases.{value_resolved}
use Rattle.wac_types_collection.specs.collection.Collection.{Collection, IsWellFormed}
use Rattle.wac_encode_scopes.specs.States.{IsTypeAt}
use Rattle.wac_graph_encode.specs.private.encoding.Root.{RecordsName}
use Rattle.wac_graph_encode.proofs.lemmas.encoding.NodeLemmas.{on-both}
use Rattle.wac_graph_encode.proofs.lemmas.encoding.ExportLemmas.{records-none, records-name}
use Rattle.std.proofs.Common.{[], ◌≡◌}
use Rattle.wac_encode_stacks.specs.Scopes.{listed, defined}
use Rattle.wac_encode_scopes.proofs.Paying.{pays-nothing}
use Rattle.wac_encode_imports.proofs.Costing.{single-priced}
use Rattle.wac_graph_encode.proofs.encoding.writer.GraphWriter.name_definition.Goals as goal

pub returns-in_default-clause-records : goal.returns-in_default-clause-records
returns-in_default-clause-records c = records-none c.still_law.ensures c.args.self.now.reader.now c.args.ty c.args.index c.args.state.now

pub returns-then-is_listed-clause-records : goal.returns-then-is_listed-clause-records
returns-then-is_listed-clause-records c = records-none c.still_law.ensures c.args.self.now.reader.now c.args.ty c.args.index c.args.state.now

pub returns-clause-records : goal.returns-clause-records
returns-clause-records c =
    let g = c.args.self.now.reader.now in
    let s = c.args.state.now in
    let wf = subst IsWellFormed c.types.ensures c.law.ensures in
    let end = c.resolve_value_type.ensures.end ∙ ap (λ (t : Collection). value_resolved t c.in-Value.value) c.types-2.ensures in
    on-both c.record.result (λ goes records. subst (λ (a : AnyType). RecordsName g a c.args.index s c.record.new.self) (sym c.in-Value.is)
    (records-name g wf c.in-Value.value c.args.index s c.record.new.self records.content
    (λ at. goes g.types (subst (λ (v : ValueType). IsTypeAt g.types false s (ty.Value v) c.args.index) (sym end) at))))
    c.record.ensures.goes c.record.ensures.records

pub returns-in_default-clause-paid : goal.returns-in_default-clause-paid
returns-in_default-clause-paid c = λ none. pays-nothing c.args.self.now.reader.now.types false [] c.args.state.now

pub returns-then-is_listed-clause-paid : goal.returns-then-is_listed-clause-paid
returns-then-is_listed-clause-paid c = λ none. pays-nothing c.args.self.now.reader.now.types false [] c.args.state.now

pub returns-clause-paid : goal.returns-clause-paid
returns-clause-paid c = λ none. c.record.ensures.paid c.args.self.now.reader.now.types (λ same. absurd (apart same)) (single-priced false c.args.state.now none)
  where
    apart : listed ≡ defined → ⊥
    apart h = cc
