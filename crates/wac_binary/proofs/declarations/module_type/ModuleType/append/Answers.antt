use Rattle.std.proofs.Common.{[], ◌∷◌, ◌++◌, ◌∙◌, arith, ◌+◌}
use Rattle.wac_binary.specs.private.declarations.ModuleView.{module_decl_of}
use Rattle.wac_binary.specs.Indexes.{function_types}
use Rattle.wac_binary.specs.private.declarations.WrittenModule.{ModuleState}
use Rattle.wac_binary.proofs.lemmas.declarations.AnswerLaws.{on_err, out_of_memory, refuted}
use Rattle.wac_binary.proofs.lemmas.declarations.ModuleLaws.{written_module, module_listed, module_kept, module_more, module_room, module_same, types_below, one_type}
use Rattle.wac_binary.proofs.declarations.module_type.ModuleType.append.Goals as goal
use Rattle.wac_binary.proofs.declarations.module_type.ModuleType.append.Goals.{In_ok-append_module_decl}

pub returns-then-not-fits-clause-too_large : goal.returns-then-not-fits-clause-too_large
returns-then-not-fits-clause-too_large c =
    refuted c.fits.result c.fits.ensures c.if-not-fits.true
    (λ f. module_room c.self.invariant (module_decl_of c.args.d.now) c.module_decl_size.result c.len.result c.module_decl_size.ensures.is (omega arith) (rw c.self.view_is f))

pub invariant_of-self : goal.invariant_of-self
invariant_of-self c = module_kept (module_same c.self.invariant c.in_err-append_module_decl.ensures.refused) _

pub returns-in_err-append_module_decl-clause-refused :
    goal.returns-in_err-append_module_decl-clause-refused
returns-in_err-append_module_decl-clause-refused c = on_err _ (module_listed (module_same c.self.invariant c.in_err-append_module_decl.ensures.refused) _ ∙ c.self.view_is)

pub returns-in_err-append_module_decl-clause-too_large : goal.returns-in_err-append_module_decl-clause-too_large
returns-in_err-append_module_decl-clause-too_large c =
    out_of_memory c.from_residual.result _ c.from_residual.ensures.1
    (rw (← c.self.view_is) (module_more c.self.invariant (module_decl_of c.args.d.now) c.module_decl_size.result c.len.result c.module_decl_size.ensures.is (omega arith) (c.fits.ensures.0 c.if-not-fits.false) c.module_decl_size.ensures.in_format).fits)

pub overflow_cast-result : goal.overflow_cast-result
overflow_cast-result c = let t = types_below c.self.invariant in omega arith

pub overflow_add-self-2 : goal.overflow_add-self-2
overflow_add-self-2 c = let t = types_below c.self.invariant in omega (arith, c.types_in.ensures, one_type (module_decl_of c.args.d.now))

-- what is kept, with one declaration more
snoc : (c : In_ok-append_module_decl) → ModuleState (c.args.self.now ++ module_decl_of c.args.d.now ∷ []) c.append_module_decl.new.out.items (c.self.inside.count + 1) (c.self.inside.types + function_types (module_decl_of c.args.d.now ∷ []))
snoc c =
    rw (← c.self.view_is, c.in_ok-append_module_decl.ensures.written)
    (module_more c.self.invariant (module_decl_of c.args.d.now) c.module_decl_size.result c.len.result c.module_decl_size.ensures.is (omega arith) (c.fits.ensures.0 c.if-not-fits.false) c.module_decl_size.ensures.in_format)

pub invariant_of-self-inside-2 : goal.invariant_of-self-inside-2
invariant_of-self-inside-2 c = (written_module (snoc c.before), tt)

pub invariant_of-self-2 : goal.invariant_of-self-2
invariant_of-self-2 c = rw (c.types_in.ensures) (module_kept (snoc c.before.before.before) _)

pub returns-clause-appended : goal.returns-clause-appended
returns-clause-appended c = module_listed (snoc c.before.before.before) _

pub returns-clause-fits : goal.returns-clause-fits
returns-clause-fits c = rw (module_listed (snoc c.before.before.before) _) (snoc c.before.before.before).fits

pub returns-clause-too_large : goal.returns-clause-too_large
returns-clause-too_large c = (snoc c.before.before.before).fits
