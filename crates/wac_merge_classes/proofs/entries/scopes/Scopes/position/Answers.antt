use Rattle.std.proofs.Common.{sym, ◌∙◌}
use Rattle.wac_merge_classes.proofs.lemmas.entries.ScopeKeys.{scope-found}
use Rattle.wac_merge_classes.proofs.entries.scopes.Scopes.position.Goals as goal

pub returns : goal.returns
returns c = scope-found c.args.scope c.self.inside.scopes.keys c.args.self.now c.unwrap.result c.self.view_is (sym c.get_index_of.ensures.index ∙ c.unwrap.ensures)
