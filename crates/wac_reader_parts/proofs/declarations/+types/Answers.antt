use Rattle.std.proofs.Common.{◌≡◌, ◌-◌, ◌++◌, ◌∷◌, [], map, ap, sym, ◌∙◌, Ok, arith}
use Rattle.std.proofs.lemmas.Result.{err_from_is_err_and}
use Rattle.std.proofs.lemmas.List.{map_push}
use Rattle.wac_binary.specs.Items.{TypeDef}
use Rattle.wac_component.specs.Types.{type_at}
use Rattle.wac_component.specs.Numbers.{vector_at}
use Rattle.wac_component.specs.Views.{type_of, decl_of}
use Rattle.wac_reader_parts.specs.private.Tables.{decl_at}
use Rattle.wac_reader_parts.proofs.Loop.{goes_on, ends, is_done}
use Rattle.wac_reader_parts.proofs.Fronts.{starts}
use Rattle.wac_reader_parts.proofs.Views.{component_is, instance_is}
use Rattle.wac_reader_parts.proofs.Rows.{decl_core, inner_resource, inner_other, component_fails, instance_fails, component_read, instance_read}
use Rattle.wac_reader_parts.proofs.declarations.+types.Goals as goal

pub decls-loop-init : goal.decls-loop-init
decls-loop-init t c = starts (decl_at c.args.in_component (type_at c.args.depth)) (map (decl_of type_of) c.in_ok-decls.decls.items) c.in_ok-count.count c.args.bytes.now c.in_ok-count.start.now (ap (map (decl_of type_of)) c.in_ok-decls.ensures) c.in_ok-count.ensures

pub decls-returns-in_err-item : goal.decls-returns-in_err-item
decls-returns-in_err-item t c =
    let p = err_from_is_err_and c.from_residual-in_err-item.result c.from_residual-in_err-item.ensures.1 in
    rw (p.1, p.2) (ends (decl_at c.args.in_component (type_at c.args.depth)) c.in_err-item.field-0.0 (map (decl_of type_of) c.loop.decls.items) c.in_ok-count.count c.loop.counter c.loop.rest.now (vector_at (decl_at c.args.in_component (type_at c.args.depth)) c.args.bytes.now) c.loop-test.true c.in_err-item.ensures c.loop.invariant)

pub decls-loop-preserved : goal.decls-loop-preserved
decls-loop-preserved t c =
    let n = c.in_ok-item.item in
    let e : map (decl_of type_of) c.push.new.self.items ≡ map (decl_of type_of) c.loop.decls.items ++ decl_of type_of n ∷ [] = rw c.in_ok-push.ensures.items (map_push _ c.loop.decls.items n) in
    rw e (goes_on (decl_at c.args.in_component (type_at c.args.depth)) (map (decl_of type_of) c.loop.decls.items) c.in_ok-count.count c.loop.counter c.loop.rest.now (decl_of type_of n) c.in_ok-item.after.now (vector_at (decl_at c.args.in_component (type_at c.args.depth)) c.args.bytes.now) c.loop-test.true c.in_ok-item.ensures c.loop.invariant)

pub decls-returns : goal.decls-returns
decls-returns t c = is_done (decl_at c.args.in_component (type_at c.args.depth)) (map (decl_of type_of) c.loop.decls.items) c.in_ok-count.count c.loop.counter c.loop.rest.now (vector_at (decl_at c.args.in_component (type_at c.args.depth)) c.args.bytes.now) c.loop-test.false c.loop.invariant

pub decl-returns-in-0 : goal.decl-returns-in-0
decl-returns-in-0 t c =
    rw (decl_core c.args.in_component (type_at c.args.depth) c.args.bytes.now c.in_ok-b.rest.now c.in_ok-b.b c.in-0.is c.in_ok-b.ensures) c.core_type.ensures

pub inner_type-returns-then-is_resource : goal.inner_type-returns-then-is_resource
inner_type-returns-then-is_resource t c =
    rw c.text_fault-then-is_resource.ensures (inner_resource c.args.depth (c.args.depth - 1) c.args.bytes.now c.in_ok-b.rest.now c.in_ok-b.b (omega (arith, c.if-depth-eq0.false)) c.in_ok-b.ensures (sym c.is_resource.ensures ∙ c.if-is_resource.true))

pub inner_type-returns : goal.inner_type-returns
inner_type-returns t c =
    rw (inner_other c.args.depth (c.args.depth - 1) c.args.bytes.now c.in_ok-b.rest.now c.in_ok-b.b (omega (arith, c.if-depth-eq0.false)) c.in_ok-b.ensures (sym c.is_resource.ensures ∙ c.if-is_resource.false)) c.type_def.ensures

pub type_def-returns-in_err-decls-in-65 : goal.type_def-returns-in_err-decls-in-65
type_def-returns-in_err-decls-in-65 t c =
    let p = err_from_is_err_and c.from_residual.result c.from_residual.ensures.1 in
    rw (p.1, p.2) (component_fails c.in_err-decls-in-65.field-0.0 (type_at c.args.depth) c.args.b c.args.bytes.now c.in-65.is c.in_err-decls-in-65.ensures)

pub type_def-returns-in_err-decls-in-66 : goal.type_def-returns-in_err-decls-in-66
type_def-returns-in_err-decls-in-66 t c =
    let p = err_from_is_err_and c.from_residual-in_err-decls-in-66.result c.from_residual-in_err-decls-in-66.ensures.1 in
    rw (p.1, p.2) (instance_fails c.in_err-decls-in-66.field-0.0 (type_at c.args.depth) c.args.b c.args.bytes.now c.in-66.is c.in_err-decls-in-66.ensures)

pub type_def-returns-in_ok-decls-in-65 : goal.type_def-returns-in_ok-decls-in-65
type_def-returns-in_ok-decls-in-65 t c =
    component_read (type_at c.args.depth) c.args.b c.args.bytes.now (map (decl_of type_of) c.in_ok-decls-in-65.decls.items) c.in_ok-decls-in-65.rest.now c.in-65.is c.in_ok-decls-in-65.ensures
    ∙ ap (λ (x : TypeDef). Ok (x, c.in_ok-decls-in-65.rest.now)) (sym (component_is c.in_ok-decls-in-65.decls))

pub type_def-returns-in_ok-decls-in-66 : goal.type_def-returns-in_ok-decls-in-66
type_def-returns-in_ok-decls-in-66 t c =
    instance_read (type_at c.args.depth) c.args.b c.args.bytes.now (map (decl_of type_of) c.in_ok-decls-in-66.decls.items) c.in_ok-decls-in-66.rest.now c.in-66.is c.in_ok-decls-in-66.ensures
    ∙ ap (λ (x : TypeDef). Ok (x, c.in_ok-decls-in-66.rest.now)) (sym (instance_is c.in_ok-decls-in-66.decls))
