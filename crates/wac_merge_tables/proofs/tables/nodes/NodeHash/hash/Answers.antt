use Rattle.std.proofs.Common.{fold, ap, sym, ◌∙◌}
use Rattle.std.specs.Hash as fed
use Rattle.std.specs.Hash.{fed_then}
use Rattle.wac_merge_tables.specs.private.tables.NodeHash.{entry_writes, node_writes, number_writes}
use Rattle.wac_merge_tables.proofs.tables.nodes.NodeHash.hash.Goals as goal

pub returns-in-Func : goal.returns-in-Func
returns-in-Func g c =
    fed_then g.H.Hasher.write c.args.state.now c.hash-in-Func.new.state c.hash_number-in-Func.new.state (fed.slice (entry_writes fed.usize) c.in-Func.params.items) (number_writes c.in-Func.result) c.hash-in-Func.ensures c.hash_number-in-Func.ensures
    ∙ ap (λ n. fold g.H.Hasher.write c.args.state.now (node_writes n)) (sym c.in-Func.is)
