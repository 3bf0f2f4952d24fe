-- Each name before is exportable.
use Rattle.std.proofs.Common.{arith, string_bytes, ◌∙◌}
use Rattle.std.proofs.lemmas.Bool.{both_ways}
use Rattle.wac_names.specs.Views.{kind_view}
use Rattle.wac_names.proofs.lemmas.validation.NamingFacts.{exportable-all, exportable-more, unexportable-first}
use Rattle.wac_names.proofs.validation.naming.exportable.Goals as goal

pub loop-name-init : goal.loop-name-init
loop-name-init c = λ k h. absurd (omega arith)

pub returns-then-not-is_exportable : goal.returns-then-not-is_exportable
returns-then-not-is_exportable c =
    unexportable-first c.one_answer.ensures c.args.names.now c.loop-name.name-index c.name-item.result (kind_view c.kind.result) (string_bytes c.in_ok-name.name) (omega arith) c.name-item.is
    (c.in_ok-name.ensures.ok ∙ c.as_str.ensures.value) c.loop-name.invariant c.kind.ensures.kind (λ h. both_ways c.is_exportable.result c.if-not-is_exportable.true (c.is_exportable.ensures.1 h))

pub loop-name-preserved : goal.loop-name-preserved
loop-name-preserved c =
    exportable-more c.args.names.now c.loop-name.name-index c.name-item.result (kind_view c.kind.result) (omega arith) c.name-item.is
    c.loop-name.invariant c.kind.ensures.kind (c.is_exportable.ensures.0 c.if-not-is_exportable.false)

pub returns : goal.returns
returns c = exportable-all c.args.names.now (λ j h. c.loop-name.invariant j (omega arith))
