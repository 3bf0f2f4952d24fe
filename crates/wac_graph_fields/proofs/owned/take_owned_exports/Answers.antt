use Rattle.std.proofs.Common.{rules, ◌≡◌, ◌∙◌, ap, not, filter}
use Rattle.indexmap.proofs.CallerLemmas.{filter-RetainsPairs}
use Rattle.wac_graph_model.specs.nodes.Nodes.{names_of}
use Rattle.wac_graph_fields.specs.private.Owned.{is_of_at}
use Rattle.wac_graph_fields.proofs.OwnedLemmas.{names_kept}
use Rattle.wac_graph_fields.proofs.owned.take_owned_exports.Goals as goal

pub returns : goal.returns
returns c =
    let kept : c.retain.new.self.entries ≡ filter (λ e. not (is_of_at c.args.id c.args.nodes.now (e.1).0)) c.args.exports.now.entries = filter-RetainsPairs _ _ _ (λ k v b w g call. search rules) _ _ c.retain.ensures.filtered in
    ap names_of kept ∙ names_kept (λ n. not (is_of_at c.args.id c.args.nodes.now n.0)) c.args.exports.now.entries
