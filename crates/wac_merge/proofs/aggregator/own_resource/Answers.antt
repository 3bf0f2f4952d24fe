use Rattle.std.proofs.Common.{sym, ap, ◌∙◌, not, nat_eq}
use Rattle.std.specs.Cmp.Lexicographic.{pointwise}
use Rattle.wac_merge_classes.specs.terms.Merge.{own_resource}
use Rattle.wac_merge_classes.proofs.lemmas.terms.OwnResources.{own-other, own-nowhere, own-there, told-other, told-same}
use Rattle.wac_merge.proofs.aggregator.own_resource.Goals as goal

pub returns-then-ne : goal.returns-then-ne
returns-then-ne c =
    let t = c.args.types.now in
    let id = c.args.id.now in
    let n = c.args.name.now in
    let text = c.in-Some.text in
    let tells = c.ne.ensures ∙ ap (λ a. not (pointwise nat_eq a id)) c.as_str.ensures in
    sym (ap (own_resource t id n) c.in-Instance.is ∙ own-other t id n c.in-Instance.interface c.index-interface.result.now c.index-interface.ensures text c.in-Some.is (told-other c.ne.result text id tells c.if-ne.true))

pub returns-in_err-get : goal.returns-in_err-get
returns-in_err-get c =
    let t = c.args.types.now in
    let id = c.args.id.now in
    let n = c.args.name.now in
    let text = c.in-Some.text in
    let tells = c.ne.ensures ∙ ap (λ a. not (pointwise nat_eq a id)) c.as_str.ensures in
    c.from_residual.ensures ∙ sym (ap (own_resource t id n) c.in-Instance.is ∙ own-nowhere t id n c.in-Instance.interface c.index-interface.result.now c.index-interface.ensures text c.in-Some.is c.get.result (told-same c.ne.result text id tells c.if-ne.false) c.get.ensures c.in_err-get.was)

pub returns : goal.returns
returns c =
    let t = c.args.types.now in
    let id = c.args.id.now in
    let n = c.args.name.now in
    let text = c.in-Some.text in
    let tells = c.ne.ensures ∙ ap (λ a. not (pointwise nat_eq a id)) c.as_str.ensures in
    c.listed_resource.ensures ∙ sym (ap (own_resource t id n) c.in-Instance.is ∙ own-there t id n c.in-Instance.interface c.index-interface.result.now c.index-interface.ensures text c.in-Some.is c.get.result c.in_ok-get.field-0 (told-same c.ne.result text id tells c.if-ne.false) c.get.ensures c.in_ok-get.was)
