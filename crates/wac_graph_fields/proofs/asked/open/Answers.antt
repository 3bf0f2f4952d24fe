use Rattle.std.proofs.Common.{ap, ◌∙◌, [], ◌∷◌, ◌++◌, List, append_assoc}
use Rattle.wac_graph_fields.specs.declared.asked.Task.{Task}
use Rattle.wac_graph_fields.specs.declared.asked.Task.TheVariants.{Visit, Close}
use Rattle.wac_graph_fields.proofs.asked.open.Goals as goal

pub returns : goal.returns
returns c = c.in_ok-push-2.ensures.items ∙ ap (λ (ts : List Task). ts ++ Visit c.args.id ∷ []) c.in_ok-push.ensures.items ∙ append_assoc c.args.tasks.now.items (Close c.args.id ∷ []) (Visit c.args.id ∷ [])
