use Rattle.std.proofs.Common.{Err, refl, subst, sym}
use Rattle.wac_graph_model.specs.nodes.Graph.{Graph}
use Rattle.wac_graph.specs.declared.plugs.errors.PlugError.TheVariants.{OutOfMemory}
use Rattle.wac_graph.specs.plugs.Plugging.{Answer, Wires}
use Rattle.wac_graph.proofs.lemmas.plugs.Order.{exit-is}
use Rattle.wac_graph.proofs.lemmas.plugs.Made.{aliased-keeps, wires-made, wires-none, wires-refused, wires-keeps}
use Rattle.wac_graph.proofs.lemmas.plugs.Fitting.{fits-import, named-kept}
use Rattle.wac_graph.proofs.wiring.wire.Goals as goal

pub alias_export_at-requires-clause-export : goal.alias_export_at-requires-clause-export
alias_export_at-requires-clause-export c = let (m, p) = c.requires.pair in (m.export, p.given, p.exported)

pub returns-in_err-alias-clause-step : goal.returns-in_err-alias-clause-step
returns-in_err-alias-clause-step c =
    λ m p. subst (λ (r : Answer). Wires c.args.plug c.args.socket c.args.graph.now m r c.alias_export_at.new.graph) (sym (exit-is c.from_residual.result OutOfMemory c.from_residual.ensures.1))
    (subst (λ (g : Graph). Wires c.args.plug c.args.socket c.args.graph.now m (Err OutOfMemory) g) (sym c.in_err-alias.ensures.kept) (wires-none c.args.plug c.args.socket c.args.graph.now m c.requires.plug))

pub set_argument_at-requires-clause-instantiation : goal.set_argument_at-requires-clause-instantiation
set_argument_at-requires-clause-instantiation c =
    let (m, p) = c.requires.pair in
    let aliased = c.in_ok-alias.ensures.step m.export p.given p.exported in
    (aliased-keeps c.args.plug c.args.socket c.args.graph.now c.alias_export_at.new.graph c.alias_export_at.new.graph m c.in_ok-alias.alias m.export m.import refl refl c.requires.plug aliased).nodes c.args.socket c.requires.socket

pub set_argument_at-requires-clause-import : goal.set_argument_at-requires-clause-import
set_argument_at-requires-clause-import c =
    let (m, p) = c.requires.pair in
    let old = c.args.graph.now in
    let mid = c.alias_export_at.new.graph in
    let aliased = c.in_ok-alias.ensures.step m.export p.given p.exported in
    let kept = aliased-keeps c.args.plug c.args.socket old mid mid m c.in_ok-alias.alias m.export m.import refl refl c.requires.plug aliased in (
      m.import,
      p.taken,
      named-kept old mid c.args.socket m.import c.args.pair.import p.taken c.requires.socket kept p.imported,
      fits-import old mid c.args.plug c.args.socket c.in_ok-alias.alias m m.export m.import refl refl c.requires.plug c.requires.socket c.in_ok-alias.ensures.there aliased kept c.law.ensures p.fits,
    )

pub returns-in_err-set_argument_at-clause-step : goal.returns-in_err-set_argument_at-clause-step
returns-in_err-set_argument_at-clause-step c =
    λ m p.
    let old = c.args.graph.now in
    let mid = c.alias_export_at.new.graph in
    let aliased = c.in_ok-alias.ensures.step m.export p.given p.exported in
    let kept = aliased-keeps c.args.plug c.args.socket old mid mid m c.in_ok-alias.alias m.export m.import refl refl c.requires.plug aliased in
    wires-refused c.args.plug c.args.socket old mid c.set_argument_at.new.graph m c.in_ok-alias.alias m.export m.import refl refl c.requires.plug aliased (c.in_err-set_argument_at.field-0).0 c.from_residual-in_err-set_argument_at.result
    (c.in_err-set_argument_at.ensures m.import p.taken (named-kept old mid c.args.socket m.import c.args.pair.import p.taken c.requires.socket kept p.imported)) c.from_residual-in_err-set_argument_at.ensures.1

pub returns-clause-step : goal.returns-clause-step
returns-clause-step c =
    λ m p.
    let old = c.args.graph.now in
    let mid = c.alias_export_at.new.graph in
    let aliased = c.in_ok-alias.ensures.step m.export p.given p.exported in
    let kept = aliased-keeps c.args.plug c.args.socket old mid mid m c.in_ok-alias.alias m.export m.import refl refl c.requires.plug aliased in
    wires-made c.args.plug c.args.socket old mid c.set_argument_at.new.graph m c.in_ok-alias.alias m.export m.import refl refl c.requires.plug aliased
    (c.in_ok-set_argument_at.ensures m.import p.taken (named-kept old mid c.args.socket m.import c.args.pair.import p.taken c.requires.socket kept p.imported))

pub returns-clause-kept : goal.returns-clause-kept
returns-clause-kept c =
    let (m, p) = c.requires.pair in
    let old = c.args.graph.now in
    let mid = c.alias_export_at.new.graph in
    let aliased = c.in_ok-alias.ensures.step m.export p.given p.exported in
    let kept = aliased-keeps c.args.plug c.args.socket old mid mid m c.in_ok-alias.alias m.export m.import refl refl c.requires.plug aliased in
    wires-keeps c.args.plug c.args.socket old mid c.set_argument_at.new.graph m c.in_ok-alias.alias m.export m.import refl refl c.requires.plug aliased c.requires.socket c.in_ok-alias.ensures.there
    (c.in_ok-set_argument_at.ensures m.import p.taken (named-kept old mid c.args.socket m.import c.args.pair.import p.taken c.requires.socket kept p.imported))
