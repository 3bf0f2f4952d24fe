use Rattle.std.proofs.Common.{List, ℕ, codes, string_bytes, inl, inr}
use Rattle.wac_graph_model.specs.nodes.Steps.{IsEmpty}
use Rattle.wac_demo.specs.Composed.{AreDefault, Compose, IsFunction, IsReadme, IsPlugged, IsResourceImport, IsUserDefinition, NameProcessor, of_empty, of_processor, of_function, of_readme, of_plug, of_resource, of_dependency}
use Rattle.wac_demo.proofs.Weakening.{one-line, no-line, two-lines}
use Rattle.wac_demo.proofs.run.compose.Goals as goal

pub returns-in-empty : goal.returns-in-empty
returns-in-empty c = (
  inl c.in-empty.is,
  one-line (λ v. v.items) string_bytes c.args.word.now (λ (bs : List ℕ). Compose bs AreDefault IsEmpty) (λ bs h. of_empty c.in-empty.is h) c.empty.result c.empty.ensures c.line.result c.line.ensures,
)

pub returns-in-processor : goal.returns-in-processor
returns-in-processor c = (
  inr (inl c.in-processor.is),
  one-line (λ v. v.items) string_bytes c.args.word.now (λ (bs : List ℕ). Compose bs (NameProcessor (codes "x") (codes "1")) IsEmpty) (λ bs h. of_processor c.in-processor.is h) c.processor.result c.processor.ensures c.line-in-processor.result c.line-in-processor.ensures,
)

pub returns-in-function : goal.returns-in-function
returns-in-function c = (
  inr (inr (inl c.in-function.is)),
  one-line (λ v. v.items) string_bytes c.args.word.now (λ (bs : List ℕ). Compose bs AreDefault IsFunction) (λ bs h. of_function c.in-function.is h) c.passed.result c.passed.ensures c.line-in-function.result c.line-in-function.ensures,
)

pub returns-in-readme : goal.returns-in-readme
returns-in-readme c = (
  inr (inr (inr (inl c.in-readme.is))),
  one-line (λ v. v.items) string_bytes c.args.word.now (λ (bs : List ℕ). Compose bs AreDefault IsReadme) (λ bs h. of_readme c.in-readme.is h) c.readme.result c.readme.ensures c.line-in-readme.result c.line-in-readme.ensures,
)

pub returns-in-cycle : goal.returns-in-cycle
returns-in-cycle c = (
  inr (inr (inr (inr (inl c.in-cycle.is)))),
  no-line (λ v. v.items) string_bytes c.args.word.now c.cycle.result c.cycle.ensures c.line-in-cycle.result c.line-in-cycle.ensures,
)

pub returns-in-plug : goal.returns-in-plug
returns-in-plug c = (
  inr (inr (inr (inr (inr (inl c.in-plug.is))))),
  one-line (λ v. v.items) string_bytes c.args.word.now (λ (bs : List ℕ). Compose bs AreDefault IsPlugged) (λ bs h. of_plug c.in-plug.is h) c.plugged.result c.plugged.ensures c.line-in-plug.result c.line-in-plug.ensures,
)

pub returns-in-resource : goal.returns-in-resource
returns-in-resource c = (
  inr (inr (inr (inr (inr (inr (inl c.in-resource.is)))))),
  one-line (λ v. v.items) string_bytes c.args.word.now (λ (bs : List ℕ). Compose bs AreDefault IsResourceImport) (λ bs h. of_resource c.in-resource.is h) c.resource.result c.resource.ensures c.line-in-resource.result c.line-in-resource.ensures,
)

pub returns-in-dependency : goal.returns-in-dependency
returns-in-dependency c = (
  inr (inr (inr (inr (inr (inr (inr (inl c.in-dependency.is))))))),
  one-line (λ v. v.items) string_bytes c.args.word.now (λ (bs : List ℕ). Compose bs AreDefault IsUserDefinition) (λ bs h. of_dependency c.in-dependency.is h) c.dependency.result c.dependency.ensures c.line-in-dependency.result c.line-in-dependency.ensures,
)

pub returns-in-precedence : goal.returns-in-precedence
returns-in-precedence c = (
  inr (inr (inr (inr (inr (inr (inr (inr c.in-precedence.is))))))),
  two-lines string_bytes c.args.word.now c.in-precedence.is c.precedence_lines.result c.precedence_lines.ensures,
)
