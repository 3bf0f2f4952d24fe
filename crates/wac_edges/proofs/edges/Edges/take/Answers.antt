use Rattle.std.proofs.Common.{List, ap, sym, subst, ◌∙◌}
use Rattle.slab.specs.Slab.{get}
use Rattle.wac_edges.specs.declared.records.Firsts.{Firsts}
use Rattle.wac_edges.specs.private.Records.{AreListed}
use Rattle.wac_edges.proofs.AliasLemmas.{noted_without, listed_back}
use Rattle.wac_edges.proofs.FallLemmas.{rise_without}
use Rattle.std.proofs.lemmas.Bool.{false_from_ne_true}
use Rattle.std.specs.FinSet as set
use Rattle.wac_edges.specs.Order.{Edges}
use Rattle.wac_edges.proofs.SetLemmas.{in_table, of_table, value_taken, removed_same}
use Rattle.wac_edges.proofs.edges.Edges.take.Goals as goal

pub returns-clause-taken : goal.returns-clause-taken
returns-clause-taken c =
    value_taken c.self.inside.records c.take.new.records c.args.edge c.in-Some.key c.in-Some.ensures.some c.take.ensures.edges
    ∙ ap (λ (s : Edges). set.remove s c.args.edge) c.self.view_is

pub returns-clause-was : goal.returns-clause-was
returns-clause-was c =
    sym (of_table c.self.inside.records c.args.edge (c.in-Some.key, c.in-Some.ensures.some)) ∙ ap (λ (s : Edges). set.contains s c.args.edge) c.self.view_is

pub returns-in_default-clause-taken : goal.returns-in_default-clause-taken
returns-in_default-clause-taken c =
    removed_same c.args.self.now c.args.edge
    (λ h. let (k, at) = in_table c.self.inside.records c.args.edge (ap (λ (s : Edges). set.contains s c.args.edge) c.self.view_is ∙ h) in c.in_default.ensures.none k at)

pub returns-in_default-clause-was : goal.returns-in_default-clause-was
returns-in_default-clause-was c =
    sym (false_from_ne_true (set.contains c.args.self.now c.args.edge)
    (λ h. let (k, at) = in_table c.self.inside.records c.args.edge (ap (λ (s : Edges). set.contains s c.args.edge) c.self.view_is ∙ h) in c.in_default.ensures.none k at))

pub find-requires : goal.find-requires
find-requires c = subst (λ (f : List Firsts). AreListed (get c.self.inside.records) f) (sym c.deref.ensures.value) c.self.invariant.0

pub take-requires-clause-listed : goal.take-requires-clause-listed
take-requires-clause-listed c = subst (λ (f : List Firsts). AreListed (get c.self.inside.records) f) (sym c.deref_mut.ensures.value) c.self.invariant.0

pub invariant_of-self : goal.invariant_of-self
invariant_of-self c = (
  listed_back (get c.take.new.records) c.take.new.firsts c.self.inside.firsts.items c.self.inside.firsts.len (c.take.auto.firsts ∙ c.deref_mut.ensures.len) c.take.ensures.listed,
  noted_without c.self.inside.crowded.items c.self.inside.aliases c.forget_alias.new.aliases (get c.self.inside.records) (get c.take.new.records) c.args.edge c.in-Some.key c.in-Some.ensures.some c.self.invariant.1 c.forget_alias.ensures c.take.ensures.edges,
  rise_without c.self.inside.falls (get c.self.inside.records) (get c.take.new.records) c.in-Some.key c.self.invariant.2 c.take.ensures.edges,
)
