use Rattle.std.proofs.Common.{[], ◌∷◌, ◌∙◌}
use Rattle.std.proofs.lemmas.Bool.{eq-eqb, ne_eqb}
use Rattle.wac_encode.specs.Imported.{AppendsImport, HasImportedFault}
use Rattle.wac_encode.proofs.Results.{err-encoded, if-encoded, if-ok, names-encoded, ok-encoded}
use Rattle.wac_encode.proofs.Roots.{keeps-all-old, keeps-old-types}
use Rattle.wac_encode.proofs.Importing.{alias-fault, bound-scopes, imports-end, no-fault-bound, no-fault-end}
use Rattle.wac_encode.proofs.encoder.TypeEncoder.import_resource.Goals as goal

pub import_bound-requires-clause-root : goal.import_bound-requires-clause-root
import_bound-requires-clause-root c = c.requires.state.1.root

pub import_bound-requires-clause-bound : goal.import_bound-requires-clause-bound
import_bound-requires-clause-bound c = (c.requires.state.0, c.requires.state.1, bound-scopes c.args.self.now.types.now c.args.self.now.merged c.requires.state.0 c.args.state.now c.resolve_resource-end.result c.requires.state.1 (c.is_bound.ensures.bound c.if-is_bound.true))

pub returns-then-is_bound-clause-imports : goal.returns-then-is_bound-clause-imports
returns-then-is_bound-clause-imports c = if-encoded _ c.import_bound.result c.encode_result.result c.encode_result.ensures (if-ok _ _ c.import_bound.result (λ k h m s. imports-end c.args.self.now.types.now c.args.self.now.merged c.args.name.now c.args.resource c.resolve_resource-end.result m c.args.state.now c.import_bound.new.state k c.resolve_resource-end.ensures.end (h m s)) c.import_bound.ensures.imports)

pub returns-then-is_bound-clause-appends : goal.returns-then-is_bound-clause-appends
returns-then-is_bound-clause-appends c = ok-encoded (AppendsImport c.args.self.now.merged c.args.name.now c.args.state.now c.import_bound.new.state) c.import_bound.result c.encode_result.result c.encode_result.ensures c.import_bound.ensures.appends

pub returns-then-is_bound-clause-fault : goal.returns-then-is_bound-clause-fault
returns-then-is_bound-clause-fault c = λ m h. names-encoded (HasImportedFault c.args.self.now.types.now m c.args.resource) c.import_bound.result c.encode_result.result c.encode_result.ensures (no-fault-bound c.args.self.now.types.now c.args.self.now.merged c.args.state.now c.args.resource c.resolve_resource-end.result c.resolve_resource-end.ensures.end (c.is_bound.ensures.bound c.if-is_bound.true) m h)

pub returns-then-is_bound-clause-refused : goal.returns-then-is_bound-clause-refused
returns-then-is_bound-clause-refused c = err-encoded c.import_bound.result c.encode_result.result c.encode_result.ensures (keeps-old-types c.args.self.now.types.now c.args.self.now.merged c.requires.state.0 c.args.state.now c.import_bound.new.state c.requires.state.1) c.import_bound.ensures.refused

pub returns-then-end-resource-clause-fault : goal.returns-then-end-resource-clause-fault
returns-then-end-resource-clause-fault c = λ m h. alias-fault c.args.self.now.types.now c.args.self.now.merged c.args.state.now c.args.resource c.resolve_resource-end.result c.resolve_resource-end.ensures.end (ne_eqb c.resolve_resource-end.result.0 c.args.resource.0 c.if-end-resource.true) (c.is_bound.ensures.unbound c.if-is_bound.false) m h

pub returns-then-end-resource-clause-refused : goal.returns-then-end-resource-clause-refused
returns-then-end-resource-clause-refused c = keeps-all-old c.args.self.now.types.now c.args.self.now.merged c.requires.state.0 c.args.state.now c.requires.state.1

pub import_fresh-requires-clause-held : goal.import_fresh-requires-clause-held
import_fresh-requires-clause-held c = c.resolve_resource-end.ensures.held ∙ c.requires.held

pub import_fresh-requires-clause-unbound : goal.import_fresh-requires-clause-unbound
import_fresh-requires-clause-unbound c = (c.requires.state.0, c.requires.state.1, c.is_bound.ensures.unbound c.if-is_bound.false c.args.self.now.types.now (c.requires.state.0 ∷ []) c.requires.state.1.good)

pub returns-clause-imports : goal.returns-clause-imports
returns-clause-imports c = if-encoded _ c.import_fresh.result c.encode_result-2.result c.encode_result-2.ensures (if-ok _ _ c.import_fresh.result (λ k h m s. imports-end c.args.self.now.types.now c.args.self.now.merged c.args.name.now c.args.resource c.resolve_resource-end.result m c.args.state.now c.import_fresh.new.state k c.resolve_resource-end.ensures.end (h m s)) c.import_fresh.ensures.imports)

pub returns-clause-appends : goal.returns-clause-appends
returns-clause-appends c = ok-encoded (AppendsImport c.args.self.now.merged c.args.name.now c.args.state.now c.import_fresh.new.state) c.import_fresh.result c.encode_result-2.result c.encode_result-2.ensures c.import_fresh.ensures.appends

pub returns-clause-fault : goal.returns-clause-fault
returns-clause-fault c = λ m h. names-encoded (HasImportedFault c.args.self.now.types.now m c.args.resource) c.import_fresh.result c.encode_result-2.result c.encode_result-2.ensures (no-fault-end c.args.self.now.types.now m c.args.resource c.resolve_resource-end.result c.resolve_resource-end.ensures.end (eq-eqb c.resolve_resource-end.result.0 c.args.resource.0 c.if-end-resource.false))

pub returns-clause-refused : goal.returns-clause-refused
returns-clause-refused c = err-encoded c.import_fresh.result c.encode_result-2.result c.encode_result-2.ensures (keeps-old-types c.args.self.now.types.now c.args.self.now.merged c.requires.state.0 c.args.state.now c.import_fresh.new.state c.requires.state.1) c.import_fresh.ensures.refused
