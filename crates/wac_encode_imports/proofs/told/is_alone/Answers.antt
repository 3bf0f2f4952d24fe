use Rattle.std.proofs.Common.{ap, ◌∙◌, arith}
use Rattle.std.specs.Str.{bytes_eq}
use Rattle.wac_merge_imports.proofs.lemmas.unions.BoundNames.{alone-one, alone-other}
use Rattle.wac_encode_imports.proofs.told.is_alone.Goals as goal

pub returns-in-len1 : goal.returns-in-len1
returns-in-len1 c =
    alone-one c.args.path.now c.only-item.result c.args.name.now c.eq.result c.in-len1.len_at_least c.in-len1.len_below c.only-item.is
    (c.eq.ensures ∙ ap (λ text. bytes_eq text c.args.name.now) c.as_str.ensures.value)

pub returns-in_default-2 : goal.returns-in_default-2
returns-in_default-2 c = alone-other c.args.path.now c.args.name.now (λ one. omega (arith, one, c.in_default.len_at_least))
