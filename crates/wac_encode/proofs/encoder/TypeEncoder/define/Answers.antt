use Rattle.std.proofs.Common.{List, Contains, sym, subst}
use Rattle.wac_types_shapes.specs.declared.shapes.component.«Type».{«Type» as AnyType}
use Rattle.wac_encode_interfaces.specs.private.Worlds.{written_in}
use Rattle.wac_encode_interfaces.proofs.Refused.{keeps-none}
use Rattle.wac_encode.proofs.Results.{err-of}
use Rattle.wac_encode.proofs.encoder.TypeEncoder.define.Goals as goal

pub returns-in_err-closed-clause-refused : goal.returns-in_err-closed-clause-refused
returns-in_err-closed-clause-refused c = err-of c.from_residual.result (keeps-none c.args.state.now.scopes)

pub returns-in_err-roots-clause-refused : goal.returns-in_err-roots-clause-refused
returns-in_err-roots-clause-refused c = err-of c.from_residual-in_err-roots.result (keeps-none c.args.state.now.scopes)

pub world_types-requires-clause-held : goal.world_types-requires-clause-held
world_types-requires-clause-held c = λ a there. c.in_ok-roots.ensures.roots.held a (subst (λ (xs : List AnyType). Contains xs a) c.as_slice.ensures.value there)

pub world_types-requires-clause-clean : goal.world_types-requires-clause-clean
world_types-requires-clause-clean c = λ a there. c.in_ok-roots.ensures.roots.clean c.requires.bindings c.requires.clean a (subst (λ (xs : List AnyType). Contains xs a) c.as_slice.ensures.value there)

pub returns-in_err-worlds-clause-refused : goal.returns-in_err-worlds-clause-refused
returns-in_err-worlds-clause-refused c = err-of c.from_residual-in_err-worlds.result (keeps-none c.args.state.now.scopes)

pub define_after-requires-clause-there : goal.define_after-requires-clause-there
define_after-requires-clause-there c = c.in_ok-roots.ensures.roots.enough (written_in c.in_ok-worlds.worlds) (λ a there. c.in_ok-worlds.ensures.there a (subst (λ (xs : List AnyType). Contains xs a) (sym c.as_slice.ensures.value) there))
