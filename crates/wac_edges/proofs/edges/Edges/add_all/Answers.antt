use Rattle.std.proofs.Common.{◌≡◌, List, Some, sym, ap, ◌∙◌, subst}
use Rattle.std.specs.FinSet as set
use Rattle.slab.specs.Slab.{Slab, get}
use Rattle.wac_edges.specs.declared.records.Record.{Record}
use Rattle.wac_edges.specs.declared.records.Firsts.{Firsts}
use Rattle.wac_edges.specs.Order.{Edges}
use Rattle.wac_edges.specs.private.Records.{AreListed, RiseUnless, edge_at}
use Rattle.wac_edges.specs.private.Aliases.{AreNoted}
use Rattle.wac_edges.proofs.AddingLemmas.{noted_with_all, rise_with_all, value_with_all}
use Rattle.wac_edges.proofs.AliasLemmas.{listed_back}
use Rattle.wac_edges.proofs.TableLemmas.{listed_same}
use Rattle.wac_edges.proofs.SetLemmas.{the_set, of_table}
use Rattle.wac_edges.proofs.edges.Edges.add_all.Goals as goal

pub invariant_of-self : goal.invariant_of-self
invariant_of-self c = (listed_same (get c.self.inside.records) c.self.inside.firsts.items c.make_all_firsts.new.firsts.items c.make_all_firsts.ensures.same c.self.invariant.0, c.self.invariant.1, c.self.invariant.2)

pub invariant_of-self-in_err-reserve : goal.invariant_of-self-in_err-reserve
invariant_of-self-in_err-reserve c =
    subst (λ (s : Slab Record). AreListed (get s) c.make_all_firsts.new.firsts.items × AreNoted c.self.inside.crowded.items c.self.inside.aliases (get s) × RiseUnless c.self.inside.falls (get s)) (sym c.reserve.ensures.rest_kept)
    (listed_same (get c.self.inside.records) c.self.inside.firsts.items c.make_all_firsts.new.firsts.items c.make_all_firsts.ensures.same c.self.invariant.0, c.self.invariant.1, c.self.invariant.2)

pub invariant_of-self-then-capacity-gt-MOST : goal.invariant_of-self-then-capacity-gt-MOST
invariant_of-self-then-capacity-gt-MOST c =
    subst (λ (s : Slab Record). AreListed (get s) c.make_all_firsts.new.firsts.items × AreNoted c.self.inside.crowded.items c.self.inside.aliases (get s) × RiseUnless c.self.inside.falls (get s)) (sym c.reserve.ensures.rest_kept)
    (listed_same (get c.self.inside.records) c.self.inside.firsts.items c.make_all_firsts.new.firsts.items c.make_all_firsts.ensures.same c.self.invariant.0, c.self.invariant.1, c.self.invariant.2)

pub put_all-requires-clause-listed : goal.put_all-requires-clause-listed
put_all-requires-clause-listed c =
    subst (λ (f : List Firsts). AreListed (get c.reserve.new.self) f) (sym c.deref_mut.ensures.value)
    (subst (λ (s : Slab Record). AreListed (get s) c.make_all_firsts.new.firsts.items) (sym c.reserve.ensures.rest_kept)
    (listed_same (get c.self.inside.records) c.self.inside.firsts.items c.make_all_firsts.new.firsts.items c.make_all_firsts.ensures.same c.self.invariant.0))

pub put_all-requires-clause-absent : goal.put_all-requires-clause-absent
put_all-requires-clause-absent c =
    λ e within (k, at).
    let there : edge_at (get c.self.inside.records) k ≡ Some e = sym (ap (λ (s : Slab Record). edge_at (get s) k) c.reserve.ensures.rest_kept) ∙ at in
    c.requires.absent e within (sym (ap (λ (s : Edges). set.contains s e) (c.self.view_is ∙ c.in_ok-crowd_all.ensures)) ∙ of_table c.self.inside.records e (k, there))

pub returns-clause-ok : goal.returns-clause-ok
returns-clause-ok c =
    value_with_all c.reserve.new.self c.put_all.new.records c.args.edges.now c.args.self.now
    (ap (λ (s : Slab Record). the_set s) c.reserve.ensures.rest_kept ∙ c.self.view_is ∙ c.in_ok-crowd_all.ensures) c.put_all.ensures.edges

pub invariant_of-self-2 : goal.invariant_of-self-2
invariant_of-self-2 c = (
  listed_back (get c.put_all.new.records) c.put_all.new.firsts c.make_all_firsts.new.firsts.items c.make_all_firsts.new.firsts.len (c.put_all.auto.firsts ∙ c.deref_mut.ensures.len) c.put_all.ensures.listed,
  noted_with_all c.self.inside.crowded.items c.self.inside.aliases (get c.reserve.new.self) (get c.put_all.new.records) c.args.edges.now
      (subst (λ (s : Slab Record). AreNoted c.self.inside.crowded.items c.self.inside.aliases (get s)) (sym c.reserve.ensures.rest_kept) c.self.invariant.1) c.requires.no_alias c.put_all.ensures.edges,
  rise_with_all c.self.inside.falls c.any_falls.result (get c.reserve.new.self) (get c.put_all.new.records) c.args.edges.now
      (subst (λ (s : Slab Record). RiseUnless c.self.inside.falls (get s)) (sym c.reserve.ensures.rest_kept) c.self.invariant.2) c.put_all.ensures.edges c.any_falls.ensures,
)
