use Rattle.std.proofs.Common.{◌≡◌, ◌≤◌, ◌+◌, suc, List, ◌∙◌, ap, sym, subst, true, length, arith}
use Rattle.std.proofs.lemmas.List.{take_all}
use Rattle.wac_types_shapes.specs.primitives.Name.{Name}
use Rattle.wac_types_shapes.specs.declared.shapes.component.ItemKind.{ItemKind}
use Rattle.wac_encode_stacks.specs.Scopes.{opening}
use Rattle.wac_encode_stacks.specs.private.Beside.{written_as}
use Rattle.wac_encode_scopes.specs.declared.encodable.Encodable.{Encodable}
use Rattle.wac_encode_scopes.specs.declared.encodable.Encodable.TheVariants.{Instance}
use Rattle.wac_encode_scopes.specs.Contents.{content_of, IsInstanceType}
use Rattle.wac_encode_scopes.specs.Books.{opened}
use Rattle.wac_encode_scopes.specs.private.Interfaces.{own_items, fresh_exports}
use Rattle.wac_encode_scopes.specs.private.Steps.{with_own}
use Rattle.wac_encode_scopes.proofs.Owned.{opened-step, content-step}
use Rattle.wac_encode_scopes.proofs.Begun.{next-large}
use Rattle.wac_encode_scopes.proofs.Limits.{exit-large}
use Rattle.wac_encode_scopes.proofs.scope.Scope.interface.Goals as goal

pub list_own-requires : goal.list_own-requires
list_own-requires c = subst IsInstanceType (sym c.loop-i.invariant.content) tt

pub loop-i-init : goal.loop-i-init
loop-i-init c = record {
  is = c.instance-scope.ensures.opened;
  content = c.instance-scope.ensures.content;
  beside = c.instance-scope.ensures.beside ∙ ap (λ (x : Encodable). record (opening true) { content = content_of x }) (sym c.instance-scope.ensures.content);
}

pub loop-i-preserved : goal.loop-i-preserved
loop-i-preserved c =
    let it = c.args.interface.now in
    let x : Name × ItemKind = (c.entry_at.result.0.now, c.entry_at.result.1.now) in
    let one : c.loop-i.i + 1 ≡ suc c.loop-i.i = omega arith in
    record {
      is = opened-step c.args.types.now it.uses it.exports c.loop-i.i (c.loop-i.i + 1) x (opening c.args.passes) (opened c.args.merged c.list_own.new.self) (opened c.args.merged c.loop-i.scope) one c.entry_at.ensures c.loop-i.invariant.is c.in_ok-list_own.ensures.opened;
      content = content-step c.args.types.now it.uses it.exports c.loop-i.i (c.loop-i.i + 1) x c.loop-i.scope.content c.list_own.new.self.content one c.entry_at.ensures c.loop-i.invariant.content c.in_ok-list_own.ensures.content;
      beside = c.in_ok-list_own.ensures.beside ∙ ap (written_as (opened c.args.merged c.list_own.new.self)) c.loop-i.invariant.beside;
    }

pub returns-clause-opened : goal.returns-clause-opened
returns-clause-opened c =
    let it = c.args.interface.now in
    let past : length it.exports ≤ c.loop-i.i = (let f = c.loop-i-test.false in let n = c.len-i-end.ensures in omega (arith, f, n)) in
    subst (λ (l : List (Name × ItemKind)). opened c.args.merged c.loop-i.scope ≡ with_own c.args.types.now it.uses l (opening c.args.passes)) (take_all c.loop-i.i it.exports past) c.loop-i.invariant.is

pub returns-clause-content : goal.returns-clause-content
returns-clause-content c =
    let it = c.args.interface.now in
    let past : length it.exports ≤ c.loop-i.i = (let f = c.loop-i-test.false in let n = c.len-i-end.ensures in omega (arith, f, n)) in
    subst (λ (l : List (Name × ItemKind)). c.loop-i.scope.content ≡ Instance (fresh_exports (own_items c.args.types.now it.uses l))) (take_all c.loop-i.i it.exports past) c.loop-i.invariant.content

pub returns-in_err-list_own-clause-too_large : goal.returns-in_err-list_own-clause-too_large
returns-in_err-list_own-clause-too_large c l =
    let it = c.args.interface.now in
    let x : Name × ItemKind = (c.entry_at.result.0.now, c.entry_at.result.1.now) in
    let one : c.loop-i.i + 1 ≡ suc c.loop-i.i = omega arith in
    next-large c.size_law.ensures.fits c.args.types.now it.uses it.exports c.loop-i.i (c.loop-i.i + 1) x c.loop-i.scope.content one c.entry_at.ensures c.loop-i.invariant.content
    (c.in_err-list_own.ensures.too_large (exit-large _ c.from_residual.result c.from_residual.ensures.1 l))
