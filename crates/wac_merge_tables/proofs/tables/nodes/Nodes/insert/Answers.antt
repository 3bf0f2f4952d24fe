use Rattle.std.proofs.Common.{◌<◌, length, map, slice_get, ap, sym, ◌∙◌, subst}
use Rattle.std.specs.List.{AllByRecursion}
use Rattle.wac_merge_tables.specs.private.tables.Nodes.{mentions, Added}
use Rattle.wac_merge_tables.specs.private.tables.NodeViews.{node_view}
use Rattle.wac_merge_tables.specs.contracts.tables.nodes.NodePartialEq.TheImpl as NodeEq
use Rattle.wac_merge_tables.proofs.lemmas.tables.NodeKeys.{same_node, node_itself}
use Rattle.wac_merge_tables.proofs.lemmas.tables.NodeAdding.{inserted_noted, inserted_added}
use Rattle.wac_merge_tables.proofs.tables.nodes.Nodes.insert.Goals as goal

pub invariant_of-self-2 : goal.invariant_of-self-2
invariant_of-self-2 c =
    let (x, is, one) = c.in-Ok.ensures.stored in
    inserted_noted node_view (NodeEq.ghosts).eq same_node node_itself c.self.inside.nodes.keys c.args.node c.in-Ok.index x c.insert_full.new.self.keys c.in-Ok.ensures.keys is one c.self.inside.lists c.self.inside.options c.self.invariant c.requires.sorted
    (subst (λ ns. AllByRecursion (λ m. m < length ns) (mentions (node_view c.args.node))) (sym c.self.view_is) c.requires.lower)

pub returns-clause-added : goal.returns-clause-added
returns-clause-added c =
    let (x, is, one) = c.in-Ok.ensures.stored in
    let keys = c.in-Ok.ensures.keys in
    let added = inserted_added node_view (NodeEq.ghosts).eq same_node node_itself c.self.inside.nodes.keys c.args.node c.in-Ok.index x (ap (λ ks. slice_get ks c.in-Ok.index) (sym keys) ∙ is) one in
    subst (λ ns. Added ns (node_view c.args.node) (map node_view c.insert_full.new.self.keys) c.in-Ok.index) c.self.view_is
    (subst (λ ks. Added (map node_view c.self.inside.nodes.keys) (node_view c.args.node) (map node_view ks) c.in-Ok.index) (sym keys) added)
