use Rattle.std.proofs.Common.{◌≡◌, ◌≢◌, ◌==◌, ℕ, Option, None, option_map, if◌then◌else◌, refl, ap, ◌∙◌}
use Rattle.slab.specs.Slab.{get}
use Rattle.wac_edges.specs.declared.edges.End.TheVariants.{Outgoing, Incoming}
use Rattle.wac_edges.specs.declared.records.Record.{Record}
use Rattle.wac_edges.specs.private.Records.{Place, AreLinked, places, first_at, edge_at, updated}
use Rattle.wac_edges.proofs.TableLemmas.{relinked, places_less, once_less, edges_less}
use Rattle.wac_edges.proofs.records.take.Goals as goal

pub unlink-requires-2-clause-linked : goal.unlink-requires-2-clause-linked
unlink-requires-2-clause-linked c =
    relinked (places Incoming (get c.args.records.now)) (places Incoming (get c.unlink.new.records)) (first_at Incoming c.args.firsts.now) (first_at Incoming c.unlink.new.firsts)
    c.unlink.ensures.opposite c.unlink.ensures.firsts (c.requires.listed.linked Incoming)

pub returns-clause-listed : goal.returns-clause-listed
returns-clause-listed c =
    let t0 = get c.args.records.now in
    let t1 = get c.unlink.new.records in
    let t2 = get c.unlink-2.new.records in
    let t3 = get c.remove.new.self in
    let key = c.args.key in
    let gone : edge_at t3 key ≡ None = ap (option_map (λ (r : Record). r.edge)) c.remove.ensures.updates.changed in
    let others : (q : ℕ) → q ≢ key → edge_at t3 q ≡ edge_at t0 q = λ q other. ap (option_map (λ (r : Record). r.edge)) (c.remove.ensures.updates.others q other) ∙ c.unlink-2.ensures.edges q ∙ c.unlink.ensures.edges q in
    record {
      linked = λ end. elim end as (λ e. AreLinked (places e t3) (first_at e c.unlink-2.new.firsts)) [
        | Outgoing ↦ relinked (updated (places Outgoing t1) key None) (places Outgoing t3) (first_at Outgoing c.unlink.new.firsts) (first_at Outgoing c.unlink-2.new.firsts)
            (λ q. places_less t2 t3 key c.remove.ensures.updates.changed c.remove.ensures.updates.others Outgoing q ∙ ap (λ (v : Option Place). if q == key then None else v) (c.unlink-2.ensures.opposite q)) c.unlink-2.ensures.firsts c.unlink.ensures.others
        | Incoming ↦ relinked (updated (places Incoming t2) key None) (places Incoming t3) (first_at Incoming c.unlink-2.new.firsts) (first_at Incoming c.unlink-2.new.firsts)
            (places_less t2 t3 key c.remove.ensures.updates.changed c.remove.ensures.updates.others Incoming) (λ n. refl) c.unlink-2.ensures.others
      ];
      once = once_less (edge_at t0) (edge_at t3) key c.requires.listed.once others gone;
    }

pub returns-clause-edges : goal.returns-clause-edges
returns-clause-edges c =
    let t0 = get c.args.records.now in
    let t3 = get c.remove.new.self in
    let gone : edge_at t3 c.args.key ≡ None = ap (option_map (λ (r : Record). r.edge)) c.remove.ensures.updates.changed in
    let others : (q : ℕ) → q ≢ c.args.key → edge_at t3 q ≡ edge_at t0 q = λ q other. ap (option_map (λ (r : Record). r.edge)) (c.remove.ensures.updates.others q other) ∙ c.unlink-2.ensures.edges q ∙ c.unlink.ensures.edges q in
    edges_less (edge_at t0) (edge_at t3) c.args.key c.requires.listed.once others gone
