use Rattle.wac_binary.specs.Items.{value_def}
use Rattle.wac_binary.specs.Views.{defined_of}
use Rattle.wac_types_shapes.specs.declared.shapes.component.ValueType.TheVariants as val
use Rattle.wac_types_shapes.specs.declared.shapes.component.«Type».TheVariants as ty
use Rattle.wac_encode_stacks.specs.Scopes.{with_def, defined}
use Rattle.wac_encode_scopes.proofs.Stepped.{on-ok, both-ok, all-here, goes-defined, recorded-here, goes-none, all-none}
use Rattle.wac_encode_scopes.proofs.Calls.{define-here}
use Rattle.wac_encode_scopes.proofs.Paying.{pays-nothing}
use Rattle.wac_encode_scopes.proofs.state.State.define.Goals as goal

pub returns-in-None-clause-goes : goal.returns-in-None-clause-goes
returns-in-None-clause-goes c = on-ok c.define.result (λ h d x wf at says. goes-defined c.step_law.ensures.defines_value d wf c.args.merged c.args.self.now c.define.new.self c.args.id x (defined_of c.args.definition.now) at says h c.define.ensures.types) c.define.ensures.step

pub returns-in-None-clause-recorded : goal.returns-in-None-clause-recorded
returns-in-None-clause-recorded c = both-ok c.define.result (λ i is h. (defined, recorded-here c.args.merged (ty.Value (val.Defined c.args.id)) i c.args.self.now.here c.define.new.self (with_def (value_def (defined_of c.args.definition.now))) is h)) c.define.ensures.index c.define.ensures.step

pub returns-in-None-clause-types : goal.returns-in-None-clause-types
returns-in-None-clause-types c = all-here c.args.self.now c.define.new.self c.define.ensures.types

pub returns-in-Some-clause-goes : goal.returns-in-Some-clause-goes
returns-in-Some-clause-goes c d x wf at says = goes-none c.still_law.ensures c.args.merged c.args.self.now d

pub returns-in-Some-clause-recorded : goal.returns-in-Some-clause-recorded
returns-in-Some-clause-recorded c = c.in-Some.ensures.some

pub returns-in-Some-clause-types : goal.returns-in-Some-clause-types
returns-in-Some-clause-types c = all-none c.args.self.now

pub returns-in-Some-clause-paid : goal.returns-in-Some-clause-paid
returns-in-Some-clause-paid c d x at sized ts covers priced = pays-nothing d c.args.merged ts c.args.self.now

pub returns-in-None-clause-paid : goal.returns-in-None-clause-paid
returns-in-None-clause-paid c d x at sized ts covers priced =
    define-here c.size_law.ensures.fits d c.args.merged ts c.args.self.now c.define.new.self c.args.id x (defined_of c.args.definition.now) c.define.result at sized (c.index.ensures.none c.in-None.is) covers c.define.ensures.step c.define.ensures.too_large
