use Rattle.std.proofs.Common.{[], refl, subst, sym}
use Rattle.wac_script.specs.lines.Words.{spelled, WordByWord}
use Rattle.wac_script.specs.labels.Things.{things_of, cores_of}
use Rattle.wac_script.specs.labels.Cores.{AddsExport, AddImports}
use Rattle.wac_script.proofs.ListLemmas.{walk-begin, walk-step, walk-end}
use Rattle.wac_script.proofs.ReadLemmas.{exit, left-begin, left-step, left-stuck}
use Rattle.wac_script.proofs.CoreLemmas.{export-once, imports-once}
use Rattle.wac_script.proofs.labels.things.Things.module.Goals as goal

pub loop-word-init : goal.loop-word-init
loop-word-init c = record {
  reached = walk-begin (AddsExport (things_of c.args.self.now) (cores_of c.args.self.now)) c.args.exports.now c.add_imports.new.ty c.add_imports.new.ty refl;
  left = left-begin (AddsExport (things_of c.args.self.now) (cores_of c.args.self.now)) c.args.exports.now c.add_imports.new.ty c.add_imports.new.ty refl;
}

pub loop-word-preserved : goal.loop-word-preserved
loop-word-preserved c = record {
  reached = walk-step (AddsExport (things_of c.args.self.now) (cores_of c.args.self.now)) c.args.exports.now c.loop-word.word-index _ c.add_imports.new.ty c.loop-word.ty c.add_export.new.ty c.loop-word-test.true c.in_ok-add_export.ensures c.loop-word.invariant.reached;
  left = left-step (AddsExport (things_of c.args.self.now) (cores_of c.args.self.now)) c.args.exports.now c.loop-word.word-index _ c.add_imports.new.ty c.loop-word.ty c.add_export.new.ty (export-once (things_of c.args.self.now) (cores_of c.args.self.now)) c.loop-word-test.true c.in_ok-add_export.ensures c.loop-word.invariant.left;
}

pub returns : goal.returns
returns c = (
  c.add_imports.new.ty,
  subst (λ m. AddImports (things_of c.args.self.now) (cores_of c.args.self.now) (spelled c.args.imports.now) m c.add_imports.new.ty) c.new-ty.ensures c.in_ok-add_imports.ensures,
  walk-end (AddsExport (things_of c.args.self.now) (cores_of c.args.self.now)) c.args.exports.now c.loop-word.word-index c.add_imports.new.ty c.loop-word.ty c.loop-word-test.false c.loop-word.invariant.reached,
)

pub returns-in_err-add_imports : goal.returns-in_err-add_imports
returns-in_err-add_imports c = exit _ _ c.from_residual.result (c.in_err-add_imports.field-0).0 c.from_residual.ensures.1 c.in_err-add_imports.ensures (λ none m h. none h.0 (subst (λ x. AddImports (things_of c.args.self.now) (cores_of c.args.self.now) (spelled c.args.imports.now) x h.0) (sym c.new-ty.ensures) h.1))

pub returns-in_err-add_export : goal.returns-in_err-add_export
returns-in_err-add_export c = exit _ _ c.from_residual-in_err-add_export.result (c.in_err-add_export.field-0).0 c.from_residual-in_err-add_export.ensures.1 c.in_err-add_export.ensures (λ none m h.
    left-stuck (AddsExport (things_of c.args.self.now) (cores_of c.args.self.now)) c.args.exports.now c.loop-word.word-index _ c.add_imports.new.ty c.loop-word.ty c.loop-word-test.true none c.loop-word.invariant.left m
    (subst (λ x. WordByWord (AddsExport (things_of c.args.self.now) (cores_of c.args.self.now)) (spelled c.args.exports.now) x m) (imports-once (things_of c.args.self.now) (cores_of c.args.self.now) (spelled c.args.imports.now) (record { imports = []; exports = [] }) h.0 c.add_imports.new.ty h.1
    (subst (λ x. AddImports (things_of c.args.self.now) (cores_of c.args.self.now) (spelled c.args.imports.now) x c.add_imports.new.ty) c.new-ty.ensures c.in_ok-add_imports.ensures)) h.2))
