use Rattle.std.proofs.Common.{◌∙◌}
use Rattle.wac_binary.proofs.lemmas.declarations.DeclLaws.{scope_around}
use Rattle.wac_binary.proofs.declarations.declarations.Declarations.behind.Goals as goal

pub returns : goal.returns
returns c =
    let b = scope_around c.args.scope c.args.before.now c.self.inside.written in
    c.in_ok-wrap.ensures.written ∙ (rw c.self.view_is at b)
