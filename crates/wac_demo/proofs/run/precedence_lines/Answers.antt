use Rattle.std.proofs.Common.{◌++◌, ◌∙◌, ap}
use Rattle.wac_demo.specs.Printed.{hex_line}
use Rattle.wac_demo.proofs.run.precedence_lines.Goals as goal

pub returns : goal.returns
returns c = (
  c.in_ok-bytes.bytes.items,
  c.in_ok-bytes.ensures.composed,
  c.in_ok-push_str.ensures.bytes ∙ ap (λ b. b ++ c.as_str.result.now) c.in_ok-lines.ensures ∙ ap (λ b. hex_line c.in_ok-bytes.bytes.items ++ b) (c.as_str.ensures.value ∙ c.in_ok-bytes.ensures.passed),
)
