use Rattle.std.proofs.lemmas.List.Elements.{same_from_all_zip}
use Rattle.wac_edges.specs.declared.aliases.Aliases.{Aliases}
use Rattle.wac_edges.proofs.AliasLemmas.{first_clone, same_option, noted_kept}
use Rattle.wac_edges.proofs.aliases.AliasesClone.clone.Goals as goal

pub returns : goal.returns
returns c =
    let a = c.args.self.now in
    let firsts = first_clone _ _ (λ x y r. r) (λ v w r. same_from_all_zip _ _ _ r.0 (same_option _ (λ y s. s) (λ x s. s) (λ x y s. s))) a.firsts c.in_ok-firsts.firsts c.in_ok-firsts.ensures.cases in
    let others = same_from_all_zip _ _ _ c.in_ok-others.ensures.cases (λ x y r. λ i. (r.0 i, r.1 i, r.2 i)) in
    let copy : Aliases = record a { firsts = c.in_ok-firsts.firsts; others = c.in_ok-others.others } in
    record { cases = λ source target i. noted_kept a copy source target i (firsts source.0 i) others }
