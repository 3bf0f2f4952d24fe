use Rattle.std.proofs.lemmas.Bool.{iff_false}
use Rattle.wac_types.proofs.lemmas.comparison.CoreItems.{names_offered, imports_offered}
use Rattle.wac_types.proofs.comparison.core_modules.is_module_subtype.Goals as goal

pub returns-then-offers_modules : goal.returns-then-offers_modules
returns-then-offers_modules c =
    let imports = imports_offered c.args.n.now.imports c.args.m.now.imports c.law.ensures in
    let exports = names_offered c.args.m.now.exports c.args.n.now.exports c.law-2.ensures in
    (λ h. (imports.0 (c.offers_modules.ensures.0 c.if-offers_modules.true), exports.0 (c.offers_core.ensures.0 h)), λ o. c.offers_core.ensures.1 (exports.1 o.1))

pub returns-else-offers_modules : goal.returns-else-offers_modules
returns-else-offers_modules c =
    let imports = imports_offered c.args.n.now.imports c.args.m.now.imports c.law.ensures in
    (λ h. cc, λ o. absurd (iff_false c.offers_modules.ensures c.if-offers_modules.false (imports.1 o.0)))
