use Rattle.std.proofs.Common.{Some, None, Ok, Err, ap, inl, inr, refl, subst, sym, ◌∙◌}
use Rattle.wac_script.specs.labels.Things.{things_of, cores_of}
use Rattle.wac_types_shapes.specs.declared.shapes.core_types.CoreExtern.TheVariants as core_extern
use Rattle.wac_script.specs.labels.Cores.{IsCoreItem}
use Rattle.wac_script.specs.private.Unread.{Reads}
use Rattle.wac_script.proofs.ReadLemmas.{exit}
use Rattle.wac_script.proofs.labels.things.Things.core_item.Goals as goal

pub returns-in_ok-core_func-in-Func : goal.returns-in_ok-core_func-in-Func
returns-in_ok-core_func-in-Func c = subst (λ s. IsCoreItem s (core_extern.Func c.in_ok-core_func-in-Func.field-0)) (sym c.in-Func.is) (c.in_ok-core_func-in-Func.field-0, c.in_ok-core_func-in-Func.ensures, refl)

pub returns-in_err-core_func-in-Func : goal.returns-in_err-core_func-in-Func
returns-in_err-core_func-in-Func c = subst (λ s. Reads (IsCoreItem s) c.from_residual.result) (sym c.in-Func.is) (exit _ _ c.from_residual.result (c.in_err-core_func-in-Func.field-0).0 c.from_residual.ensures.1 c.in_err-core_func-in-Func.ensures (λ none x h. none h.0 h.1))

pub returns-in_ok-core_func-in-Tag : goal.returns-in_ok-core_func-in-Tag
returns-in_ok-core_func-in-Tag c = subst (λ s. IsCoreItem s (core_extern.Tag c.in_ok-core_func-in-Tag.field-0)) (sym c.in-Tag.is) (c.in_ok-core_func-in-Tag.field-0, c.in_ok-core_func-in-Tag.ensures, refl)

pub returns-in_err-core_func-in-Tag : goal.returns-in_err-core_func-in-Tag
returns-in_err-core_func-in-Tag c = subst (λ s. Reads (IsCoreItem s) c.from_residual-in_err-core_func-in-Tag.result) (sym c.in-Tag.is) (exit _ _ c.from_residual-in_err-core_func-in-Tag.result (c.in_err-core_func-in-Tag.field-0).0 c.from_residual-in_err-core_func-in-Tag.ensures.1 c.in_err-core_func-in-Tag.ensures (λ none x h. none h.0 h.1))

pub returns-in-Table : goal.returns-in-Table
returns-in-Table c = subst (λ s. Reads (IsCoreItem s) c.table.result) (sym c.in-Table.is) c.table.ensures

pub returns-in-Memory : goal.returns-in-Memory
returns-in-Memory c = subst (λ s. Reads (IsCoreItem s) c.memory.result) (sym c.in-Memory.is) c.memory.ensures

pub returns-in-Global : goal.returns-in-Global
returns-in-Global c = subst (λ s. Reads (IsCoreItem s) c.global.result) (sym c.in-Global.is) c.global.ensures
