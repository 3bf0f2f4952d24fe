use Rattle.std.proofs.Common.{◌+◌, refl, sym, ◌∙◌}
use Rattle.wac_encode_imports.proofs.Telling.{binds-all, binds-first, binds-next, still-imports}
use Rattle.wac_encode_imports.proofs.ToldCosts.{names-same, names-then}
use Rattle.wac_encode_imports.proofs.told.Teller.bind_resources.Goals as goal

pub loop-i-init : goal.loop-i-init
loop-i-init c = (binds-first c.args.self.now c.args.state.now, names-same c.args.self.now c.args.state.now)

pub bind-requires-clause-imports : goal.bind-requires-clause-imports
bind-requires-clause-imports c = still-imports c.args.self.now c.args.state.now c.loop-i.state c.loop-i.invariant.0.changes c.requires.imports

pub loop-i-preserved : goal.loop-i-preserved
loop-i-preserved c = (
  binds-next c.args.self.now c.loop-i.i (c.loop-i.i + 1) c.args.state.now c.loop-i.state c.bind.new.state refl c.loop-i.invariant.0 c.in_ok-bind.ensures.binds,
  names-then c.args.self.now c.args.state.now c.loop-i.state c.bind.new.state c.loop-i.invariant.1 c.in_ok-bind.ensures.names,
)

pub returns-then-not-contains-clause-binds : goal.returns-then-not-contains-clause-binds
returns-then-not-contains-clause-binds c = binds-all c.args.self.now c.loop-i.i c.args.state.now c.loop-i.state (sym c.contains.ensures ∙ c.if-not-contains.true) c.loop-i.invariant.0

pub returns-then-not-contains-clause-names : goal.returns-then-not-contains-clause-names
returns-then-not-contains-clause-names c = c.loop-i.invariant.1
