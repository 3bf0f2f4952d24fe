use Rattle.std.proofs.Common.{◌≡◌, None, true, map, ap, ◌∙◌, arith}
use Rattle.wac_types_collection.specs.collection.Collection.{holds_type}
use Rattle.wac_merge_classes.specs.entries.Scopes.{opened_by, inside}
use Rattle.wac_merge_classes.specs.entries.Opening.{with_opened}
use Rattle.wac_merge_classes.proofs.lemmas.entries.Opening.{roots-apart, opened-by-all, first-opened, opened-after, all-opened, all-nested, fewer}
use Rattle.wac_merge_classes.proofs.entries.scopes.Scopes.new.Goals as goal

pub loop-position-init : goal.loop-position-init
loop-position-init c =
    let t = c.args.types.now in
    let k = c.args.kind in
    let is : c.push_item.new.scopes.keys ≡ map (inside None) (opened_by k) = c.in_ok-push_item.ensures ∙ (ap (λ ss. with_opened ss None (opened_by k)) c.new-scopes.ensures.empty ∙ roots-apart k) in
    first-opened t c.law.ensures c.args.known.now (opened_by k) c.push_item.new.scopes.keys is (opened-by-all (λ x. holds_type t x ≡ true) k c.requires)

pub loop-position-smaller : goal.loop-position-smaller
loop-position-smaller c =
    let n = c.loop-position.position in
    let ss = c.loop-position.scopes.keys in
    fewer c.args.types.now c.law.ensures c.args.known.now n ss c.open.new.scopes.keys (omega (arith, c.len.ensures.len, c.loop-position-test.true)) (c.loop-position.invariant.held n) c.in_ok-open.ensures

pub loop-position-preserved : goal.loop-position-preserved
loop-position-preserved c =
    let n = c.loop-position.position in
    let ss = c.loop-position.scopes.keys in
    opened-after c.args.types.now c.law.ensures c.args.known.now (opened_by c.args.kind) n ss c.open.new.scopes.keys (omega (arith, c.len.ensures.len, c.loop-position-test.true)) c.loop-position.invariant c.in_ok-open.ensures

pub returns-clause-nested : goal.returns-clause-nested
returns-clause-nested c =
    all-nested c.args.types.now c.law.ensures c.args.known.now (opened_by c.args.kind) c.loop-position.position c.loop-position.scopes.keys (omega (arith, c.len.ensures.len, c.loop-position-test.false)) c.loop-position.invariant

pub returns-clause-scopes : goal.returns-clause-scopes
returns-clause-scopes c =
    all-opened c.args.types.now c.law.ensures c.args.known.now (opened_by c.args.kind) c.loop-position.position c.loop-position.scopes.keys (omega (arith, c.len.ensures.len, c.loop-position-test.false)) c.len.ensures.unique c.loop-position.invariant
