use Rattle.std.proofs.Common.{◌≡◌, [], ap, sym, ◌∙◌, subst}
use Rattle.wac_types_collection.specs.collection.Collection.{Collection, IsWellFormed}
use Rattle.wac_merge.specs.Aggregate.{Aggregate}
use Rattle.wac_types_collection.specs.collection.Names.{ExportsOnce}
use Rattle.wac_graph_model.specs.nodes.Entries.{to_merge}
use Rattle.wac_graph_model.specs.nodes.Graph.{Graph}
use Rattle.wac_graph.proofs.NothingLemmas.{has_merge, keeps_nothing, lists_nothing, merges_nothing, nothing_agrees, nothing_lighter}
use Rattle.wac_graph.proofs.graph.CompositionGraph.merged_nothing.Goals as goal

pub returns-in-Ok-clause-merged : goal.returns-in-Ok-clause-merged
returns-in-Ok-clause-merged c =
    let g = c.args.self.now in
    let types : c.self.inside.types ≡ g.types = ap (λ (h : Graph). h.types) c.self.view_is in
    let entries : c.new.result.entries ≡ [] = ap (λ (a : Aggregate). a.entries) c.new.ensures in record {
      finished = c.in-Ok.ensures.finished.1;
      entries = c.in-Ok.ensures.finished.0 ∙ entries ∙ sym (ap to_merge c.requires);
      whole = record {
        merge = merges_nothing g c.new-types.result c.new.result.entries c.in-Ok.merge.merge c.requires entries c.in-Ok.ensures.merged;
        ordered = subst (λ (t : Collection). IsWellFormed t) types c.law.ensures;
        merged_ordered = subst (λ (t : Collection). IsWellFormed t) c.types-in-Ok.ensures c.law-in-Ok.ensures;
        once = subst (λ (t : Collection). ExportsOnce t) types c.names_law.ensures.interfaces;
        merged_once = subst (λ (t : Collection). ExportsOnce t) c.types.ensures c.names_law-in-Ok.ensures.interfaces;
        held = c.in-Ok.ensures.held;
      };
      listed = lists_nothing g c.new-types.result c.new.result.entries c.in-Ok.merge.merge c.requires entries (c.listed_law.ensures c.new-types.result c.new.result.entries c.in-Ok.merge.merge c.in-Ok.ensures.merged c.in-Ok.ensures.once);
    }

pub returns-in-Ok-clause-merges : goal.returns-in-Ok-clause-merges
returns-in-Ok-clause-merges c = has_merge c.args.self.now c.requires

pub returns-in-Ok-clause-kept : goal.returns-in-Ok-clause-kept
returns-in-Ok-clause-kept c =
    let entries : c.new.result.entries ≡ [] = ap (λ (a : Aggregate). a.entries) c.new.ensures in
    keeps_nothing c.args.self.now c.new-types.result c.new.result.entries c.in-Ok.merge c.requires entries c.in-Ok.ensures.before c.in-Ok.ensures.faults

pub returns-in-Ok-clause-agreed : goal.returns-in-Ok-clause-agreed
returns-in-Ok-clause-agreed c = nothing_agrees c.args.self.now c.requires

pub returns-in-Ok-clause-lighter : goal.returns-in-Ok-clause-lighter
returns-in-Ok-clause-lighter c =
    let entries : c.new.result.entries ≡ [] = ap (λ (a : Aggregate). a.entries) c.new.ensures in
    nothing_lighter c.args.self.now c.new-types.result c.new.result.entries c.in-Ok.merge.merge c.requires entries c.in-Ok.ensures.lighter
