use Rattle.std.proofs.Common.{◌≤◌, ◌≡◌, ◌∙◌, ◌++◌, ◌+◌, ◌*◌, List, [], length, ap, sym, subst, arith, rules}
use Rattle.std.proofs.lemmas.List.{append-nil}
use Rattle.wac_types_weight.specs.Weight.{module_parts}
use Rattle.wac_binary.specs.Items.{ModuleDecl}
use Rattle.wac_binary.specs.Bytes.{module_bytes}
use Rattle.wac_binary.specs.Indexes.{function_types}
use Rattle.wac_binary.specs.Fits.{ModuleFits}
use Rattle.wac_modules.specs.private.Declarations.{import_of, export_of, in_order, declarations_of, MeansModule}
use Rattle.wac_modules.proofs.Declared.{none_yet, one_more, one_large, all_are, none_fit, fault_is}
use Rattle.wac_modules.proofs.Limited.{limits-first, limits-next, limits-all}
use Rattle.wac_modules.proofs.Meant.{means_module}
use Rattle.wac_modules.proofs.Small.{modules-are-small, heavy-imports, heavy-exports}
use Rattle.wac_modules.proofs.writer.module_type.Goals as goal

pub loop-i-init : goal.loop-i-init
loop-i-init c = (search rules, limits-first c.args.held.now.imports)

pub loop-i-preserved : goal.loop-i-preserved
loop-i-preserved c = (
  one_more import_of [] c.args.held.now.imports c.loop-i.i _ c.entry_at.ensures c.loop-i.written c.declare_import.new.written c.loop-i.invariant.0 c.in_ok-declare_import.ensures.declared,
  limits-next c.args.held.now.imports c.loop-i.i _ c.entry_at.ensures c.loop-i.invariant.1 c.in_ok-declare_import.ensures.limits,
)

pub returns-in_err-declare_import-clause-too_large : goal.returns-in_err-declare_import-clause-too_large
returns-in_err-declare_import-clause-too_large c h fits =
    let before : List ModuleDecl = in_order import_of 0 c.args.held.now.imports in
    none_fit import_of [] c.args.held.now.imports c.loop-i.i _ c.entry_at.ensures c.loop-i.written c.loop-i.invariant.0
    (c.in_err-declare_import.ensures.too_large (fault_is c.from_residual.result (c.in_err-declare_import.field-0).0 c.from_residual.ensures.1 h)) (in_order export_of (function_types before) c.args.held.now.exports) fits

pub returns-in_err-declare_import-clause-heavy : goal.returns-in_err-declare_import-clause-heavy
returns-in_err-declare_import-clause-heavy c h =
    heavy-imports c.args.held.now (c.loop-i.i + 1) (limits-next c.args.held.now.imports c.loop-i.i _ c.entry_at.ensures c.loop-i.invariant.1 c.in_err-declare_import.ensures.limits)
    (one_large import_of [] c.args.held.now.imports c.loop-i.i _ c.entry_at.ensures c.loop-i.written c.loop-i.invariant.0
    (c.in_err-declare_import.ensures.too_large (fault_is c.from_residual.result (c.in_err-declare_import.field-0).0 c.from_residual.ensures.1 h)))

pub loop-j-init : goal.loop-j-init
loop-j-init c =
    let imports = c.args.held.now.imports in
    let before : List ModuleDecl = in_order import_of 0 imports in
    let past : length imports ≤ c.loop-i.i = let f = c.loop-i-test.false in let counted = c.len-i-end.ensures in omega (arith, f, counted) in
    let done : c.loop-i.written ≡ before = all_are import_of [] imports c.loop-i.i c.loop-i.written past c.loop-i.invariant.0 in (
      done ∙ sym (append-nil before) ∙ ap (λ (ds : List ModuleDecl). before ++ ds) (none_yet export_of (function_types before) c.args.held.now.exports),
      limits-all imports c.loop-i.i past c.loop-i.invariant.1,
      limits-first c.args.held.now.exports,
    )

pub loop-j-preserved : goal.loop-j-preserved
loop-j-preserved c = (
  one_more export_of (in_order import_of 0 c.args.held.now.imports) c.args.held.now.exports c.loop-j.j _ c.entry_at-in-loop-j.ensures c.loop-j.written c.declare_export.new.written c.loop-j.invariant.0 c.in_ok-declare_export.ensures.declared,
  c.loop-j.invariant.1,
  limits-next c.args.held.now.exports c.loop-j.j _ c.entry_at-in-loop-j.ensures c.loop-j.invariant.2 c.in_ok-declare_export.ensures.limits,
)

pub returns-in_err-declare_export-clause-too_large : goal.returns-in_err-declare_export-clause-too_large
returns-in_err-declare_export-clause-too_large c h fits =
    none_fit export_of (in_order import_of 0 c.args.held.now.imports) c.args.held.now.exports c.loop-j.j _ c.entry_at-in-loop-j.ensures c.loop-j.written c.loop-j.invariant.0
    (c.in_err-declare_export.ensures.too_large (fault_is c.from_residual-in_err-declare_export.result (c.in_err-declare_export.field-0).0 c.from_residual-in_err-declare_export.ensures.1 h))
    [] (subst ModuleFits (sym (append-nil (declarations_of c.args.held.now))) fits)

pub returns-in_err-declare_export-clause-heavy : goal.returns-in_err-declare_export-clause-heavy
returns-in_err-declare_export-clause-heavy c h =
    heavy-exports c.args.held.now (c.loop-j.j + 1) c.loop-j.invariant.1 (limits-next c.args.held.now.exports c.loop-j.j _ c.entry_at-in-loop-j.ensures c.loop-j.invariant.2 c.in_err-declare_export.ensures.limits)
    (one_large export_of (in_order import_of 0 c.args.held.now.imports) c.args.held.now.exports c.loop-j.j _ c.entry_at-in-loop-j.ensures c.loop-j.written c.loop-j.invariant.0
    (c.in_err-declare_export.ensures.too_large (fault_is c.from_residual-in_err-declare_export.result (c.in_err-declare_export.field-0).0 c.from_residual-in_err-declare_export.ensures.1 h)))

pub returns-clause-means : goal.returns-clause-means
returns-clause-means c =
    let past : length c.args.held.now.exports ≤ c.loop-j.j = let f = c.loop-j-test.false in let counted = c.len-j-end.ensures in omega (arith, f, counted) in
    subst (MeansModule c.args.held.now) (sym (all_are export_of (in_order import_of 0 c.args.held.now.imports) c.args.held.now.exports c.loop-j.j c.loop-j.written past c.loop-j.invariant.0))
    (means_module c.args.held.now c.law.ensures c.law-2.ensures)

pub returns-clause-small : goal.returns-clause-small
returns-clause-small c =
    let m = c.args.held.now in
    let past : length m.exports ≤ c.loop-j.j = let f = c.loop-j-test.false in let counted = c.len-j-end.ensures in omega (arith, f, counted) in
    let is : c.loop-j.written ≡ declarations_of m = all_are export_of (in_order import_of 0 m.imports) m.exports c.loop-j.j c.loop-j.written past c.loop-j.invariant.0 in
    subst (λ (ds : List ModuleDecl). length (module_bytes ds) ≤ 6 + 30 * module_parts m) (sym is)
    (modules-are-small m (record { imports = c.loop-j.invariant.1; exports = limits-all m.exports c.loop-j.j past c.loop-j.invariant.2 }) (subst ModuleFits is c.fit_law.ensures))
