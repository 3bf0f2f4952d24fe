use Rattle.std.proofs.Common.{ℕ, List, map, refl, ap, ◌∙◌}
use Rattle.slab.specs.Slab.{get}
use Rattle.wac_edges.specs.declared.edges.Edge.{Edge}
use Rattle.wac_edges.specs.declared.edges.End.TheVariants.{Outgoing}
use Rattle.wac_edges.specs.declared.records.Firsts.{Firsts}
use Rattle.wac_edges.specs.private.Records.{list_at, first_at}
use Rattle.wac_edges.proofs.AliasLemmas.{noted_some, noted_node, noted_with_same, crowded_more}
use Rattle.wac_edges.proofs.edges.Edges.crowd.Goals as goal

pub invariant_of-self : goal.invariant_of-self
invariant_of-self c =
    let s = c.self.inside in (
      c.self.invariant.0,
      noted_some s.records s.firsts.items c.self.invariant.0 s.crowded.items s.aliases c.note_all.new.aliases c.self.invariant.1 c.args.node c.new.result.left
          (c.new.ensures.left ∙ ap (map (λ (x : ℕ × Edge). x.1)) (c.records_at-records.ensures.list ∙ ap (λ (f : List Firsts). list_at s.records Outgoing (first_at Outgoing f c.args.node.0)) c.deref-2.ensures.value))
          c.in_err-note_all.ensures.more c.in_err-note_all.ensures.kept,
      c.self.invariant.2,
    )

pub invariant_of-self-in_err-mark : goal.invariant_of-self-in_err-mark
invariant_of-self-in_err-mark c =
    let s = c.self.inside in (
      c.self.invariant.0,
      noted_with_same s.crowded.items c.mark.new.crowded.items c.note_all.new.aliases c.note_all.new.aliases (get s.records) c.in_err-mark.ensures.kept
          (noted_some s.records s.firsts.items c.self.invariant.0 s.crowded.items s.aliases c.note_all.new.aliases c.self.invariant.1 c.args.node c.new.result.left
          (c.new.ensures.left ∙ ap (map (λ (x : ℕ × Edge). x.1)) (c.records_at-records.ensures.list ∙ ap (λ (f : List Firsts). list_at s.records Outgoing (first_at Outgoing f c.args.node.0)) c.deref-2.ensures.value))
          c.in_ok-note_all.ensures.more c.in_ok-note_all.ensures.kept)
          (λ source target i. refl),
      c.self.invariant.2,
    )

pub invariant_of-self-2 : goal.invariant_of-self-2
invariant_of-self-2 c =
    let s = c.self.inside in (
      c.self.invariant.0,
      noted_node s.records s.firsts.items c.self.invariant.0 s.crowded.items s.aliases c.note_all.new.aliases c.self.invariant.1 c.args.node c.new.result.left
          (c.new.ensures.left ∙ ap (map (λ (x : ℕ × Edge). x.1)) (c.records_at-records.ensures.list ∙ ap (λ (f : List Firsts). list_at s.records Outgoing (first_at Outgoing f c.args.node.0)) c.deref-2.ensures.value))
          c.in_ok-note_all.ensures.more c.in_ok-note_all.ensures.kept c.in_ok-note_all.ensures.all c.mark.new.crowded.items
          (crowded_more s.crowded.items c.mark.new.crowded.items c.args.node c.in_ok-mark.ensures.others),
      c.self.invariant.2,
    )
