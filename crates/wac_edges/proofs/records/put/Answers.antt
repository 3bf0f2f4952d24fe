use Rattle.std.proofs.Common.{◌≡◌, ◌≢◌, ◌==◌, ℕ, Option, Some, None, option_map, if◌then◌else◌, refl, ap, ◌∙◌}
use Rattle.slab.specs.Slab.{get}
use Rattle.wac_edges.specs.declared.edges.End.TheVariants.{Outgoing, Incoming}
use Rattle.wac_edges.specs.declared.edges.Edge.{Edge}
use Rattle.wac_edges.specs.declared.records.Record.{Record}
use Rattle.wac_edges.specs.private.Records.{Place, AreLinked, places, first_at, edge_at, updated}
use Rattle.wac_edges.proofs.TableLemmas.{relinked, places_without, once_more}
use Rattle.wac_edges.proofs.records.put.Goals as goal

pub link-requires-clause-others : goal.link-requires-clause-others
link-requires-clause-others c =
    let t0 = get c.args.records.now in
    let t1 = get c.insert_reserved-key.new.self in
    relinked (places Outgoing t0) (updated (places Outgoing t1) c.insert_reserved-key.result None) (first_at Outgoing c.args.firsts.now) (first_at Outgoing c.args.firsts.now)
    (places_without t0 t1 c.insert_reserved-key.result c.insert_reserved-key.ensures.was_vacant c.insert_reserved-key.ensures.updates.others Outgoing) (λ n. refl) (c.requires.listed.linked Outgoing)

pub link-requires-2-clause-others : goal.link-requires-2-clause-others
link-requires-2-clause-others c =
    let t0 = get c.args.records.now in
    let t1 = get c.insert_reserved-key.new.self in
    let key = c.insert_reserved-key.result in
    relinked (places Incoming t0) (updated (places Incoming (get c.link.new.records)) key None) (first_at Incoming c.args.firsts.now) (first_at Incoming c.link.new.firsts)
    (λ q. ap (λ (v : Option Place). if q == key then None else v) (c.link.ensures.opposite q) ∙ places_without t0 t1 key c.insert_reserved-key.ensures.was_vacant c.insert_reserved-key.ensures.updates.others Incoming q) c.link.ensures.firsts (c.requires.listed.linked Incoming)

pub returns-clause-listed : goal.returns-clause-listed
returns-clause-listed c =
    let t0 = get c.args.records.now in
    let t2 = get c.link.new.records in
    let t3 = get c.link-2.new.records in
    let key = c.insert_reserved-key.result in
    let others : (q : ℕ) → q ≢ key → edge_at t3 q ≡ edge_at t0 q = λ q other. c.link-2.ensures.edges q ∙ c.link.ensures.edges q ∙ ap (option_map (λ (r : Record). r.edge)) (c.insert_reserved-key.ensures.updates.others q other) in
    let some : edge_at t3 key ≡ Some c.args.edge = c.link-2.ensures.edges key ∙ c.link.ensures.edges key ∙ ap (option_map (λ (r : Record). r.edge)) c.insert_reserved-key.ensures.updates.changed ∙ ap (λ (e : Edge). Some e) c.new.ensures in
    record {
      linked = λ end. elim end as (λ e. AreLinked (places e t3) (first_at e c.link-2.new.firsts)) [
        | Outgoing ↦ relinked (places Outgoing t2) (places Outgoing t3) (first_at Outgoing c.link.new.firsts) (first_at Outgoing c.link-2.new.firsts) c.link-2.ensures.opposite c.link-2.ensures.firsts c.link.ensures.linked
        | Incoming ↦ c.link-2.ensures.linked
      ];
      once = once_more (edge_at t0) (edge_at t3) key c.requires.listed.once others c.args.edge (ap (option_map (λ (r : Record). r.edge)) c.insert_reserved-key.ensures.was_vacant) some c.requires.absent;
    }
