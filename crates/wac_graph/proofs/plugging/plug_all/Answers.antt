use Rattle.std.proofs.Common.{◌∙◌, List, Ok, Err, refl, sym, subst, inl, inr}
use Rattle.wac_types_shapes.specs.primitives.Name.{Name}
use Rattle.wac_types_shapes.specs.shapes.Named.{names_of}
use Rattle.wac_graph.specs.plugs.Matching.{exports_of_package}
use Rattle.wac_graph.specs.plugs.Plugging.{Answer, InOrder, PassesOn, PlugsAndExports}
use Rattle.wac_graph.specs.private.plugs.Ready.{plugs_at}
use Rattle.wac_graph.proofs.lemmas.plugs.Order.{exit-is}
use Rattle.wac_graph.proofs.lemmas.plugs.Each.{ends-none, ends-some, plugs-some, listed-names}
use Rattle.wac_graph.proofs.lemmas.plugs.Fitting.{node-there}
use Rattle.wac_graph.proofs.plugging.plug_all.Goals as goal

pub returns-in_err-plug_each : goal.returns-in_err-plug_each
returns-in_err-plug_each c =
    let old = c.args.graph.now in
    let names : List Name = names_of (exports_of_package old c.args.socket) in
    let e = (c.in_err-plug_each.field-0).0 in
    subst (λ (r : Answer). PlugsAndExports c.args.node names old (plugs_at old c.args.socket c.args.wired.now) r c.plug_each.new.graph) (sym (exit-is c.from_residual.result e c.from_residual.ensures.1)) (inl (refl, c.in_err-plug_each.ensures.step))

pub returns-then-is_empty : goal.returns-then-is_empty
returns-then-is_empty c =
    let old = c.args.graph.now in
    let names : List Name = names_of (exports_of_package old c.args.socket) in
    inr (
      c.plug_each.new.graph,
      c.in_ok-plug_each.ensures.step,
      ends-none c.args.node names c.plug_each.new.graph old c.args.socket c.args.wired.now (sym c.is_empty.ensures ∙ c.if-is_empty.true),
    )

pub pass_on_all-requires-clause-socket : goal.pass_on_all-requires-clause-socket
pass_on_all-requires-clause-socket c = c.in_ok-plug_each.ensures.kept.nodes c.args.node (node-there c.args.graph.now c.args.node c.args.socket c.requires.node)

pub returns : goal.returns
returns c =
    let old = c.args.graph.now in
    let names : List Name = names_of (exports_of_package old c.args.socket) in
    inr (
      c.plug_each.new.graph,
      c.in_ok-plug_each.ensures.step,
      ends-some c.args.node names c.plug_each.new.graph c.pass_on_all.new.graph (plugs_at old c.args.socket c.args.wired.now) c.pass_on_all.result (plugs-some old c.args.socket c.args.wired.now (sym c.is_empty.ensures ∙ c.if-is_empty.false))
          (subst (λ l. InOrder (PassesOn c.args.node) c.plug_each.new.graph l c.pass_on_all.result c.pass_on_all.new.graph)
          (listed-names old c.plug_each.new.graph c.args.socket c.index.result.now c.ty-world.result c.index.ensures c.ty-world.ensures c.in_ok-plug_each.ensures.kept.types)
          c.pass_on_all.ensures),
    )
