use Rattle.std.proofs.Common.{length, refl, sym, subst, ◌∙◌, List, ℕ, Some}
use Rattle.std.proofs.lemmas.Option.{slice_get_read}
use Rattle.std.proofs.lemmas.Result.{on_ok_weaker}
use Rattle.std.proofs.Math.ListN.{length-set}
use Rattle.wac_edges.specs.private.cycles.Numbers.{AreBelow}
use Rattle.wac_edges.proofs.lemmas.cycles.CycleSearch.{within_set, below_pushed, below_joined}
use Rattle.wac_edges.proofs.cycles.ranks.Search.begin.Goals as goal

pub returns : goal.returns
returns c =
    let targets = c.args.targets.now in
    let among = c.requires.among in
    let set = within_set targets c.args.n c.index-targets-n.result c.requires.within (slice_get_read targets (length targets) c.args.n c.index-targets-n.result refl c.requires.low c.index-targets-n.is) in
    on_ok_weaker c.add_all.result (λ added. record {
      placed = length-set c.args.self.now.places.items c.args.n (Some c.len-first.result) ∙ among.placed;
      ranked = among.ranked;
      members = subst (λ (ns : List ℕ). AreBelow (length targets) ns) (sym c.in_ok-push-2.ensures.items) (below_pushed (length targets) c.args.n c.args.self.now.members.items among.members c.requires.low);
      pending = subst (λ (ns : List ℕ). AreBelow (length targets) ns) (sym added) (below_joined (length targets) c.args.self.now.pending.items c.index-targets-n.result.keys among.pending set);
    }) c.add_all.ensures
