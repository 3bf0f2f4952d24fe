use Rattle.std.proofs.Common.{◌≡◌, List, Some, Err, ap, sym, ◌∙◌, subst, slice_get}
use Rattle.wac_types_shapes.specs.primitives.Name.{Name}
use Rattle.wac_types_shapes.specs.shapes.Named.{names_of}
use Rattle.wac_types_collection.specs.collection.Collection.{world_exports}
use Rattle.wac_graph.specs.declared.plugs.errors.PlugError.TheVariants.{OutOfMemory}
use Rattle.wac_graph.specs.plugs.Plugging.{Answer, InOrder, PassesOn}
use Rattle.wac_graph.proofs.lemmas.plugs.Order.{one-more, refused-at, exit-is}
use Rattle.wac_graph.proofs.lemmas.plugs.Made.{passes-none}
use Rattle.wac_graph.proofs.lemmas.plugs.Steps.{keeps-trans}
use Rattle.wac_graph.proofs.lemmas.plugs.Each.{export-named}
use Rattle.wac_graph.proofs.wiring.pass_on_all.Goals as goal

pub returns-in_err-name : goal.returns-in_err-name
returns-in_err-name c =
    let names : List Name = names_of (world_exports c.args.graph.now.types c.args.world) in
    let at : slice_get names c.loop-i.i ≡ Some c.name_at.result.now =
    export-named c.args.graph.now.types c.types-in-loop-i.result.now c.args.world c.index-in-loop-i.result.now c.loop-i.i c.name_at.result.now (c.types-in-loop-i.ensures ∙ c.loop-i.invariant.kept.types) c.index-in-loop-i.ensures c.name_at.ensures in
    subst (λ (r : Answer). InOrder (PassesOn c.args.socket) c.args.graph.now names r c.loop-i.graph) (sym (exit-is c.from_residual.result OutOfMemory c.from_residual.ensures.1))
    (c.loop-i.invariant.passed (Err OutOfMemory) c.loop-i.graph
    (refused-at (PassesOn c.args.socket) names c.loop-i.i c.name_at.result.now c.loop-i.graph at OutOfMemory c.loop-i.graph (passes-none c.args.socket c.loop-i.graph c.name_at.result.now (c.loop-i.invariant.kept.nodes c.args.socket c.requires.socket))))

pub returns-in_err-pass_on : goal.returns-in_err-pass_on
returns-in_err-pass_on c =
    let names : List Name = names_of (world_exports c.args.graph.now.types c.args.world) in
    let at : slice_get names c.loop-i.i ≡ Some c.as_str.result.now =
    export-named c.args.graph.now.types c.types-in-loop-i.result.now c.args.world c.index-in-loop-i.result.now c.loop-i.i c.name_at.result.now (c.types-in-loop-i.ensures ∙ c.loop-i.invariant.kept.types) c.index-in-loop-i.ensures c.name_at.ensures
    ∙ ap (λ (n : Name). Some n) (sym (c.as_str.ensures.value ∙ c.in_ok-name.ensures.ok)) in
    let e = (c.in_err-pass_on.field-0).0 in
    subst (λ (r : Answer). InOrder (PassesOn c.args.socket) c.args.graph.now names r c.pass_on.new.graph) (sym (exit-is c.from_residual-in_err-pass_on.result e c.from_residual-in_err-pass_on.ensures.1))
    (c.loop-i.invariant.passed (Err e) c.pass_on.new.graph
    (refused-at (PassesOn c.args.socket) names c.loop-i.i c.as_str.result.now c.loop-i.graph at e c.pass_on.new.graph c.in_err-pass_on.ensures.step))

pub loop-i-preserved : goal.loop-i-preserved
loop-i-preserved c =
    let names : List Name = names_of (world_exports c.args.graph.now.types c.args.world) in
    let at : slice_get names c.loop-i.i ≡ Some c.as_str.result.now =
    export-named c.args.graph.now.types c.types-in-loop-i.result.now c.args.world c.index-in-loop-i.result.now c.loop-i.i c.name_at.result.now (c.types-in-loop-i.ensures ∙ c.loop-i.invariant.kept.types) c.index-in-loop-i.ensures c.name_at.ensures
    ∙ ap (λ (n : Name). Some n) (sym (c.as_str.ensures.value ∙ c.in_ok-name.ensures.ok)) in
    record {
      kept = keeps-trans c.args.graph.now c.loop-i.graph c.pass_on.new.graph c.loop-i.invariant.kept c.in_ok-pass_on.ensures.kept;
      passed = λ answer new h. c.loop-i.invariant.passed answer new (one-more (PassesOn c.args.socket) names c.loop-i.i c.as_str.result.now c.loop-i.graph at c.pass_on.new.graph c.in_ok-pass_on.ensures.step answer new h);
    }
