use Rattle.std.proofs.Common.{sym, subst}
use Rattle.std.proofs.lemmas.Result.{IfOk-weaker}
use Rattle.wac_encode_interfaces.specs.private.Given.{sides_of}
use Rattle.wac_encode_interfaces.specs.private.Defined.{AreSideRoots}
use Rattle.wac_encode_interfaces.proofs.DefinedSides.{are-roots}
use Rattle.wac_encode_interfaces.proofs.roots.component_roots.Goals as goal

pub side_roots-requires : goal.side_roots-requires
side_roots-requires c = c.requires.held.additional

pub returns-clause-roots : goal.returns-clause-roots
returns-clause-roots c =
    IfOk-weaker c.side_roots.result _ _
    (λ v is. subst (AreSideRoots c.args.types.now (sides_of c.args.types.now c.args.sides.now)) (sym is) (are-roots c.args.types.now c.law.ensures c.args.sides.now c.requires.held c.requires.named)) c.side_roots.ensures
