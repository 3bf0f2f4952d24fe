use Rattle.std.proofs.Common.{◌≡◌, List, Some, true, false, sym, ap, ◌∙◌, subst}
use Rattle.std.specs.FinSet as set
use Rattle.slab.specs.Slab.{Slab, get}
use Rattle.wac_edges.specs.declared.records.Record.{Record}
use Rattle.wac_edges.specs.declared.records.Firsts.{Firsts}
use Rattle.wac_edges.specs.Order.{Edges}
use Rattle.wac_edges.specs.private.Records.{AreListed, RiseUnless, edge_at}
use Rattle.wac_edges.specs.private.Aliases.{AreNoted}
use Rattle.wac_edges.proofs.AliasLemmas.{noted_as, noted_with, listed_back}
use Rattle.wac_edges.proofs.FallLemmas.{rise_with}
use Rattle.wac_edges.proofs.TableLemmas.{listed_same}
use Rattle.wac_edges.proofs.SetLemmas.{the_set, of_table, value_with}
use Rattle.wac_edges.proofs.edges.Edges.add_new.Goals as goal

pub invariant_of-self : goal.invariant_of-self
invariant_of-self c = (listed_same (get c.self.inside.records) c.self.inside.firsts.items c.make_firsts.new.firsts.items c.make_firsts.ensures.same c.self.invariant.0, c.self.invariant.1, c.self.invariant.2)

pub invariant_of-self-in_err-make_firsts-2 : goal.invariant_of-self-in_err-make_firsts-2
invariant_of-self-in_err-make_firsts-2 c = (
  listed_same (get c.self.inside.records) c.self.inside.firsts.items c.make_firsts-2.new.firsts.items (λ end n. c.make_firsts-2.ensures.same end n ∙ c.make_firsts.ensures.same end n) c.self.invariant.0,
  c.self.invariant.1,
  c.self.invariant.2,
)

pub invariant_of-self-in_err-reserve : goal.invariant_of-self-in_err-reserve
invariant_of-self-in_err-reserve c =
    subst (λ (s : Slab Record). AreListed (get s) c.make_firsts-2.new.firsts.items × AreNoted c.self.inside.crowded.items c.self.inside.aliases (get s) × RiseUnless c.self.inside.falls (get s)) (sym c.reserve.ensures.rest_kept)
    (listed_same (get c.self.inside.records) c.self.inside.firsts.items c.make_firsts-2.new.firsts.items (λ end n. c.make_firsts-2.ensures.same end n ∙ c.make_firsts.ensures.same end n) c.self.invariant.0, c.self.invariant.1, c.self.invariant.2)

pub invariant_of-self-then-vacant_key-ge-MOST : goal.invariant_of-self-then-vacant_key-ge-MOST
invariant_of-self-then-vacant_key-ge-MOST c =
    subst (λ (s : Slab Record). AreListed (get s) c.make_firsts-2.new.firsts.items × AreNoted c.self.inside.crowded.items c.self.inside.aliases (get s) × RiseUnless c.self.inside.falls (get s)) (sym c.reserve.ensures.rest_kept)
    (listed_same (get c.self.inside.records) c.self.inside.firsts.items c.make_firsts-2.new.firsts.items (λ end n. c.make_firsts-2.ensures.same end n ∙ c.make_firsts.ensures.same end n) c.self.invariant.0, c.self.invariant.1, c.self.invariant.2)

pub invariant_of-self-in_err-note : goal.invariant_of-self-in_err-note
invariant_of-self-in_err-note c =
    subst (λ (s : Slab Record). AreListed (get s) c.make_firsts-2.new.firsts.items × AreNoted c.self.inside.crowded.items c.note.new.aliases (get s) × RiseUnless c.self.inside.falls (get s)) (sym c.reserve.ensures.rest_kept) (
      listed_same (get c.self.inside.records) c.self.inside.firsts.items c.make_firsts-2.new.firsts.items (λ end n. c.make_firsts-2.ensures.same end n ∙ c.make_firsts.ensures.same end n) c.self.invariant.0,
      noted_as c.self.inside.crowded.items c.self.inside.aliases c.note.new.aliases (get c.self.inside.records) c.self.invariant.1 c.in_err-note.ensures.err,
      c.self.invariant.2,
    )

pub put-requires-clause-listed : goal.put-requires-clause-listed
put-requires-clause-listed c =
    subst (λ (f : List Firsts). AreListed (get c.reserve.new.self) f) (sym c.deref_mut.ensures.value)
    (subst (λ (s : Slab Record). AreListed (get s) c.make_firsts-2.new.firsts.items) (sym c.reserve.ensures.rest_kept)
    (listed_same (get c.self.inside.records) c.self.inside.firsts.items c.make_firsts-2.new.firsts.items (λ end n. c.make_firsts-2.ensures.same end n ∙ c.make_firsts.ensures.same end n) c.self.invariant.0))

pub put-requires-clause-absent : goal.put-requires-clause-absent
put-requires-clause-absent c =
    λ k at.
    let there : edge_at (get c.self.inside.records) k ≡ Some c.args.edge = sym (ap (λ (s : Slab Record). edge_at (get s) k) c.reserve.ensures.rest_kept) ∙ at in
    let wrong : false ≡ true = sym c.requires ∙ ap (λ (s : Edges). set.contains s c.args.edge) (sym c.in_ok-crowd.ensures ∙ sym c.self.view_is) ∙ of_table c.self.inside.records c.args.edge (k, there) in
    cc

pub returns-clause-ok : goal.returns-clause-ok
returns-clause-ok c =
    value_with c.reserve.new.self c.put.new.records c.args.edge c.put.ensures.edges
    ∙ ap (λ (s : Edges). set.insert s c.args.edge) (ap (λ (s : Slab Record). the_set s) c.reserve.ensures.rest_kept ∙ c.self.view_is ∙ c.in_ok-crowd.ensures)

pub invariant_of-self-2 : goal.invariant_of-self-2
invariant_of-self-2 c = (
  listed_back (get c.put.new.records) c.put.new.firsts c.make_firsts-2.new.firsts.items c.make_firsts-2.new.firsts.len (c.put.auto.firsts ∙ c.deref_mut.ensures.len) c.put.ensures.listed,
  noted_with c.self.inside.crowded.items c.deref.result.now c.deref.ensures.value c.self.inside.aliases c.note.new.aliases (get c.reserve.new.self) (get c.put.new.records) c.args.edge
      (subst (λ (s : Slab Record). AreNoted c.self.inside.crowded.items c.self.inside.aliases (get s)) (sym c.reserve.ensures.rest_kept) c.self.invariant.1) c.in_ok-note.ensures.ok c.put.ensures.edges,
  rise_with c.self.inside.falls (get c.reserve.new.self) (get c.put.new.records) c.args.edge
      (subst (λ (s : Slab Record). RiseUnless c.self.inside.falls (get s)) (sym c.reserve.ensures.rest_kept) c.self.invariant.2) c.put.ensures.edges,
)
