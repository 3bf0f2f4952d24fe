use Rattle.std.proofs.Common.{ℕ, ◌≡◌, ◌<◌, List, length, Contains, refl, ap, sym, ◌∙◌, subst, Some, IfSome, ◌⊎◌, inr}
use Rattle.std.specs.Prelude.{◌↔◌}
use Rattle.wac_merge_classes.specs.entries.Agreement.{AllMembersAgree}
use Rattle.wac_merge_classes.specs.entries.Bindings.{AreHeld}
use Rattle.wac_merge.specs.Aggregate.{Aggregate, AreKnown, IsFault}
use Rattle.wac_merge_classes.specs.entries.Classes.{Entry, by_names, class_names}
use Rattle.wac_merge_classes.specs.terms.Faults.{HasFault, HasNoCircle, fault_of}
use Rattle.wac_merge_classes.specs.terms.NoDisagreement.{HasNoDisagreement}
use Rattle.wac_merge_classes.specs.declared.terms.fault.MergeFault.{MergeFault}
use Rattle.wac_merge_classes.specs.declared.terms.fault.MergeFault.TheVariants.{OutOfMemory}
use Rattle.wac_merge_unions.specs.uses.KeptUses.{KeepsUses}
use Rattle.wac_merge_imports.specs.private.unions.BoundNames.{AreBoundNames}
use Rattle.wac_merge_imports.proofs.lemmas.unions.BoundNames.{names-kept}
use Rattle.wac_merge_imports.specs.unions.EntryFaults.{HasFaultsOfEntries}
use Rattle.wac_merge_imports.specs.unions.Lighter.{IsLighter}
use Rattle.wac_merge.proofs.BoundLookups.{bindings-kept}
use Rattle.wac_merge.proofs.FaultLemmas.{exit_cause, exit_refused, names_fault, no_fault, refused_for}
use Rattle.wac_merge.proofs.MergedMentions.{imports_mention}
use Rattle.wac_merge.proofs.RootPlaces.{each-imported}
use Rattle.wac_merge.proofs.aggregator.TypeAggregator.finish.Goals as goal

pub returns-clause-agree : goal.returns-clause-agree
returns-clause-agree c =
    let same : c.as_slice-asked.result.now ≡ c.args.self.entries = c.as_slice-asked.ensures.value ∙ ap (λ (a : Aggregate). a.entries) c.self.view_is in
    subst (λ (es : List Entry). HasNoDisagreement by_names c.args.types.now es) same c.in_ok-order.ensures.agree

pub returns-clause-agreed : goal.returns-clause-agreed
returns-clause-agreed c =
    let same : c.as_slice-asked.result.now ≡ c.args.self.entries = c.as_slice-asked.ensures.value ∙ ap (λ (a : Aggregate). a.entries) c.self.view_is in
    subst (λ (es : List Entry). AllMembersAgree by_names c.args.types.now es) same c.in_ok-order.ensures.agreed

pub returns-clause-refused : goal.returns-clause-refused
returns-clause-refused c = λ fault has.
    let t = c.args.types.now in
    let same : c.as_slice-asked.result.now ≡ c.args.self.entries = c.as_slice-asked.ensures.value ∙ ap (λ (a : Aggregate). a.entries) c.self.view_is in
    let agree = subst (λ (es : List Entry). HasNoDisagreement by_names t es) same c.in_ok-order.ensures.agree in
    let ordered = subst (λ (es : List Entry). HasNoCircle by_names t es) same c.in_ok-order.ensures.ordered in
    no_fault t c.args.self.entries agree ordered fault has

pub check-requires-clause-held : goal.check-requires-clause-held
check-requires-clause-held c =
    let same : c.as_slice-asked.result.now ≡ c.args.self.entries = c.as_slice-asked.ensures.value ∙ ap (λ (a : Aggregate). a.entries) c.self.view_is in
    subst (λ (es : List Entry). AreHeld c.args.types.now es) (sym same) c.requires

pub new-requires-2-clause-held : goal.new-requires-2-clause-held
new-requires-2-clause-held c =
    let same : c.as_slice-asked.result.now ≡ c.args.self.entries = c.as_slice-asked.ensures.value ∙ ap (λ (a : Aggregate). a.entries) c.self.view_is in
    subst (λ (es : List Entry). AreHeld c.args.types.now es) (sym same) c.requires

pub new-requires-3-clause-held : goal.new-requires-3-clause-held
new-requires-3-clause-held c =
    let same : c.as_slice-asked.result.now ≡ c.args.self.entries = c.as_slice-asked.ensures.value ∙ ap (λ (a : Aggregate). a.entries) c.self.view_is in
    subst (λ (es : List Entry). AreHeld c.args.types.now es) (sym same) c.requires

pub new-requires-4-clause-held : goal.new-requires-4-clause-held
new-requires-4-clause-held c =
    let same : c.as_slice-asked.result.now ≡ c.args.self.entries = c.as_slice-asked.ensures.value ∙ ap (λ (a : Aggregate). a.entries) c.self.view_is in
    subst (λ (es : List Entry). AreHeld c.args.types.now es) (sym same) c.requires

pub new-requires-3-clause-each : goal.new-requires-3-clause-each
new-requires-3-clause-each c =
    subst (λ (o : List ℕ). (k : ℕ) → (Contains o k ↔ k < length (class_names by_names c.as_slice-asked.result.now))) (sym c.as_slice.ensures.value) c.in_ok-order.ensures.each

pub returns-in_err-order-clause-fault : goal.returns-in_err-order-clause-fault
returns-in_err-order-clause-fault c =
    let t = c.args.types.now in
    let same : c.as_slice-asked.result.now ≡ c.args.self.entries = c.as_slice-asked.ensures.value ∙ ap (λ (a : Aggregate). a.entries) c.self.view_is in
    let f : MergeFault = (c.in_err-order.field-0).0 in
    exit_cause (λ e. IfSome (fault_of e) (HasFault by_names t c.args.self.entries)) c.from_residual-in_err-order.result f c.from_residual-in_err-order.ensures.1
    (names_fault t c.args.self.entries f (subst (λ (es : List Entry). IsFault t es f) same c.in_err-order.ensures.fault))

pub returns-in_err-order-clause-refused : goal.returns-in_err-order-clause-refused
returns-in_err-order-clause-refused c = λ fault has.
    let t = c.args.types.now in
    let same : c.as_slice-asked.result.now ≡ c.args.self.entries = c.as_slice-asked.ensures.value ∙ ap (λ (a : Aggregate). a.entries) c.self.view_is in
    let f : MergeFault = (c.in_err-order.field-0).0 in
    exit_refused (λ e. (fault_of e ≡ Some fault) ⊎ (e ≡ OutOfMemory)) c.from_residual-in_err-order.result f c.from_residual-in_err-order.ensures.1
    (refused_for t c.args.self.entries f (subst (λ (es : List Entry). IsFault t es f) same c.in_err-order.ensures.fault) fault has)

pub returns-in_err-merged-clause-fault : goal.returns-in_err-merged-clause-fault
returns-in_err-merged-clause-fault c =
    exit_cause (λ e. IfSome (fault_of e) (HasFault by_names c.args.types.now c.args.self.entries)) c.from_residual-in_err-merged.result OutOfMemory c.from_residual-in_err-merged.ensures.1 tt

pub returns-in_err-merged-clause-refused : goal.returns-in_err-merged-clause-refused
returns-in_err-merged-clause-refused c = λ fault has.
    exit_refused (λ e. (fault_of e ≡ Some fault) ⊎ (e ≡ OutOfMemory)) c.from_residual-in_err-merged.result OutOfMemory c.from_residual-in_err-merged.ensures.1 (inr refl)

pub returns-in_err-names-clause-fault : goal.returns-in_err-names-clause-fault
returns-in_err-names-clause-fault c =
    exit_cause (λ e. IfSome (fault_of e) (HasFault by_names c.args.types.now c.args.self.entries)) c.from_residual-in_err-names.result OutOfMemory c.from_residual-in_err-names.ensures.1 tt

pub returns-in_err-names-clause-refused : goal.returns-in_err-names-clause-refused
returns-in_err-names-clause-refused c = λ fault has.
    exit_refused (λ e. (fault_of e ≡ Some fault) ⊎ (e ≡ OutOfMemory)) c.from_residual-in_err-names.result OutOfMemory c.from_residual-in_err-names.ensures.1 (inr refl)

pub returns-clause-uses : goal.returns-clause-uses
returns-clause-uses c =
    let same : c.as_slice-asked.result.now ≡ c.args.self.entries = c.as_slice-asked.ensures.value ∙ ap (λ (a : Aggregate). a.entries) c.self.view_is in
    subst (λ (es : List Entry). KeepsUses by_names c.args.types.now es c.in_ok-merged.merged) same c.in_ok-merged.ensures.uses

pub returns-clause-faults : goal.returns-clause-faults
returns-clause-faults c =
    let same : c.as_slice-asked.result.now ≡ c.args.self.entries = c.as_slice-asked.ensures.value ∙ ap (λ (a : Aggregate). a.entries) c.self.view_is in
    subst (λ (es : List Entry). HasFaultsOfEntries by_names c.args.types.now es c.in_ok-merged.merged) same c.in_ok-merged.ensures.faults

pub returns-clause-lighter : goal.returns-clause-lighter
returns-clause-lighter c =
    let same : c.as_slice-asked.result.now ≡ c.args.self.entries = c.as_slice-asked.ensures.value ∙ ap (λ (a : Aggregate). a.entries) c.self.view_is in
    subst (λ (es : List Entry). IsLighter c.args.types.now es c.in_ok-merged.merged) same c.in_ok-merged.ensures.lighter

pub returns-clause-before : goal.returns-clause-before
returns-clause-before c =
    imports_mention c.args.types.now c.as_slice-asked.result.now c.in_ok-merged.merged c.in_ok-order.ensures.agree c.in_ok-order.ensures.ordered c.in_ok-merged.ensures.merged

pub returns-clause-kept : goal.returns-clause-kept
returns-clause-kept c = c.in_ok-merged.ensures.begins.kept

pub returns-clause-meant : goal.returns-clause-meant
returns-clause-meant c = c.in_ok-merged.ensures.begins.trees

pub returns-clause-held : goal.returns-clause-held
returns-clause-held c = c.in_ok-merged.ensures.holds

pub invariant_of-result : goal.invariant_of-result
invariant_of-result c =
    let m = c.in_ok-merged.merged in
    let k = c.in_ok-classes.classes in
    let b = c.in_ok-bindings.bindings in
    let names = c.in_ok-names.names in (
      subst (λ (xs : List Entry). AreKnown m xs k.numbers.items k.positions.items k.names b) c.as_slice-asked.ensures.value (record {
        held = c.in_ok-merged.ensures.asked;
        classes = c.in_ok-classes.ensures;
        bindings = bindings-kept c.args.types.now m.types c.as_slice-asked.result.now c.in_ok-merged.ensures.bound.same b c.in_ok-bindings.ensures;
        imported = each-imported c.args.types.now c.as_slice-asked.result.now m c.in_ok-merged.ensures.merged;
      }),
      subst (λ (xs : List Entry). AreBoundNames m.types xs names) c.as_slice-asked.ensures.value
          (names-kept c.args.types.now m.types c.as_slice-asked.result.now names c.in_ok-merged.ensures.bound.same c.in_ok-names.ensures),
    )
