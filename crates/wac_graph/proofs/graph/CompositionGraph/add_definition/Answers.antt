use Rattle.std.proofs.Common.{◌≡◌, ap, refl, subst, ◌∙◌, arith, string_bytes}
use Rattle.std.specs.String.{string_eq}
use Rattle.indexmap.specs.IndexMap.{insert_entry}
use Rattle.wac_graph_fields.proofs.GraphLemmas.{with_brought}
use Rattle.wac_graph_fields.specs.private.Fields.{graph_of}
use Rattle.wac_graph_fields.proofs.AliasLemmas.{before_reserve, vacant_before}
use Rattle.wac_graph_fields.proofs.DefinitionLemmas.{defines, invariant_defined}
use Rattle.wac_graph.specs.private.Inside.{fields_of}
use Rattle.wac_graph.proofs.DefiningLemmas.{of_ok, same_nodes, roomy_held, roomy_bare, roomy_invariant}
use Rattle.wac_graph.proofs.graph.CompositionGraph.add_definition.Goals as goal

pub invariant_of-self-in_err-prepare : goal.invariant_of-self-in_err-prepare
invariant_of-self-in_err-prepare c =
    roomy_invariant (fields_of c.self.inside) c.self.invariant c.reserve.new.self c.in_ok-reserve.ensures.rest_kept c.reserve-2.new.self c.prepare.new.self c.self.inside.edges c.in_ok-reserve-2.ensures.entries c.prepare.ensures.kept refl

pub add_dependencies-requires-clause-defined : goal.add_dependencies-requires-clause-defined
add_dependencies-requires-clause-defined c = roomy_held (fields_of c.self.inside) c.self.invariant c.reserve.new.self c.in_ok-reserve.ensures.rest_kept

pub add_dependencies-requires-clause-bare : goal.add_dependencies-requires-clause-bare
add_dependencies-requires-clause-bare c = roomy_bare (fields_of c.self.inside) c.self.invariant c.reserve.new.self c.in_ok-reserve.ensures.rest_kept c.vacant_key.result c.vacant_key.ensures.vacant

pub invariant_of-self-in_err-add_dependencies : goal.invariant_of-self-in_err-add_dependencies
invariant_of-self-in_err-add_dependencies c =
    roomy_invariant (fields_of c.self.inside) c.self.invariant c.reserve.new.self c.in_ok-reserve.ensures.rest_kept c.reserve-2.new.self c.prepare.new.self c.add_dependencies.new.edges c.in_ok-reserve-2.ensures.entries c.prepare.ensures.kept c.in_err-add_dependencies.ensures.err

pub invariant_of-self-2 : goal.invariant_of-self-2
invariant_of-self-2 c =
    invariant_defined (fields_of c.self.inside) c.self.invariant (string_bytes c.args.name) c.args.ty c.args.node c.requires.node (rw (← c.self.view_is) at c.requires.definable) c.args.name refl
    c.vacant_key.result c.insert_reserved.new.self c.add_dependencies.new.edges c.insert.new.self c.prepare.new.self (c.vacant_key.ensures.value ∙ ap (λ s. s.vacant_key) c.in_ok-reserve.ensures.rest_kept)
    (vacant_before (fields_of c.self.inside) c.reserve.new.self c.vacant_key.result c.in_ok-reserve.ensures.rest_kept c.vacant_key.ensures.vacant)
    (before_reserve (fields_of c.self.inside) c.reserve.new.self c.insert_reserved.new.self c.vacant_key.result c.insert_reserved.result _ c.in_ok-reserve.ensures.rest_kept c.vacant_key.ensures.value c.insert_reserved.ensures.key c.insert_reserved.ensures.updates)
    (with_brought (graph_of (fields_of c.self.inside)) c.reserve.new.self (same_nodes (fields_of c.self.inside) c.self.invariant c.reserve.new.self c.in_ok-reserve.ensures.rest_kept) c.args.ty (record { 0 = c.vacant_key.result }) c.add_dependencies.new.edges c.in_ok-add_dependencies.ensures.ok)
    (subst (λ es. c.insert.new.self.entries ≡ insert_entry string_eq es c.args.name (record { 0 = c.vacant_key.result })) c.in_ok-reserve-2.ensures.entries
    (of_ok c.insert.result (c.insert.ensures.succeeds (let room = c.in_ok-reserve-2.ensures.ok in omega (arith, room))) c.insert.ensures.entries))
    (rw (← c.self.view_is) at c.requires.held) c.prepare.ensures.kept

pub returns-clause-defined : goal.returns-clause-defined
returns-clause-defined c =
    rw (← c.self.view_is)
    (defines (fields_of c.self.inside) c.self.invariant (string_bytes c.args.name) c.args.ty c.args.node c.requires.node (rw (← c.self.view_is) at c.requires.definable) c.args.name refl
    c.vacant_key.result c.insert_reserved.new.self c.add_dependencies.new.edges c.insert.new.self c.prepare.new.self (c.vacant_key.ensures.value ∙ ap (λ s. s.vacant_key) c.in_ok-reserve.ensures.rest_kept)
    (vacant_before (fields_of c.self.inside) c.reserve.new.self c.vacant_key.result c.in_ok-reserve.ensures.rest_kept c.vacant_key.ensures.vacant)
    (before_reserve (fields_of c.self.inside) c.reserve.new.self c.insert_reserved.new.self c.vacant_key.result c.insert_reserved.result _ c.in_ok-reserve.ensures.rest_kept c.vacant_key.ensures.value c.insert_reserved.ensures.key c.insert_reserved.ensures.updates)
    (with_brought (graph_of (fields_of c.self.inside)) c.reserve.new.self (same_nodes (fields_of c.self.inside) c.self.invariant c.reserve.new.self c.in_ok-reserve.ensures.rest_kept) c.args.ty (record { 0 = c.vacant_key.result }) c.add_dependencies.new.edges c.in_ok-add_dependencies.ensures.ok)
    (subst (λ es. c.insert.new.self.entries ≡ insert_entry string_eq es c.args.name (record { 0 = c.vacant_key.result })) c.in_ok-reserve-2.ensures.entries
    (of_ok c.insert.result (c.insert.ensures.succeeds (let room = c.in_ok-reserve-2.ensures.ok in omega (arith, room))) c.insert.ensures.entries)))
