use Rattle.std.proofs.Common.{◌≡◌, ◌≢◌, ℕ, Some, None, ap, sym, ◌∙◌}
use Rattle.wac_edges.specs.private.Aliases.{place, first}
use Rattle.wac_edges.proofs.AliasLemmas.{Lists, read, both, is_there, put_here, put_elsewhere}
use Rattle.wac_edges.proofs.aliases.empty_first.Goals as goal

pub returns : goal.returns
returns c =
    let old = c.args.firsts.now in
    let list = c.empty_place.new.places in
    let new : Lists = c.get_mut.follows.lender list in
    let puts = ((c.get_mut.follows.holds list).3 (is_there c.in-Some.ensures.value)).0 in
    let was : (i : ℕ) → place c.in-Some.places.now.items i ≡ first old c.args.source i = λ i. ap (λ o. read o i) c.in-Some.ensures.value in
    let now : (i : ℕ) → place list.items i ≡ first new c.args.source i = λ i. sym (put_here old new c.args.source list puts i) in
    record {
      gone = both (λ o n. o ≡ Some c.args.target → n ≡ None) (was c.args.position) (now c.args.position) c.empty_place.ensures.gone;
      other = both (λ o n. o ≢ Some c.args.target → n ≡ o) (was c.args.position) (now c.args.position) c.empty_place.ensures.other;
      others = put_elsewhere old new c.args.source list puts c.args.position (λ i away. c.empty_place.ensures.others i away ∙ was i);
    }
