-- Which texts may be imported or exported.
use Rattle.std.proofs.Common.{◌≡◌, ◌≢◌, ◌↔◌, ◌⊎◌, inl, inr, Bool, true, false, IsTrue, ◌∙◌, sym, subst, refl}
use Rattle.wac_types_shapes.specs.primitives.Name.{Name}
use Rattle.wac_names.specs.Kind as kinds
use Rattle.wac_names.specs.Kind.{Kind, IsExportable}
use Rattle.wac_names.specs.Name.{IsDecided}
use Rattle.wac_names.specs.Grammar.{HasKind}
use Rattle.wac_names.specs.Faults.{HasFault}
use Rattle.wac_names.specs.declared.fault.NameFault.{NameFault}
use Rattle.wac_names.specs.declared.fault.NameFault.TheVariants.{NotExportable, OutOfMemory}
use Rattle.wac_graph_model.specs.nodes.ExternName.{IsExportName, HasExportFault, IsExportDecided, unnamed, unexportable}

-- a fault that is not want of memory is that of the text
pub real_fault : (text : Name) (f g : NameFault) → (f ≡ OutOfMemory) ⊎ HasFault text f → g ≡ f → g ≢ OutOfMemory → HasFault text g
real_fault text f g (inl out) same real = absurd (real (same ∙ out))
real_fault text f g (inr fault) same real = subst (HasFault text) (sym same) fault

pub not_exportable : (text : Name) (k j : Kind) (b : Bool) → HasKind text j → k ≡ j → IsTrue b ↔ IsExportable k → b ≡ false → HasExportFault text NotExportable
not_exportable text k j b kind same both is = unexportable k (subst (HasKind text) (sym same) kind) (λ may. apart b (both.1 may) is) refl where
  apart : (x : Bool) → x ≡ true → x ≡ false → ⊥
  apart true _ h = cc
  apart false h _ = cc

-- a name of a kind may be exported or not
exportable : (k : Kind) → IsExportable k ⊎ (IsExportable k → ⊥)
exportable (kinds.label l) = inl tt
exportable (kinds.constructor r) = inl tt
exportable (kinds.method r n) = inl tt
exportable (kinds.static r n) = inl tt
exportable (kinds.interface p i v) = inl tt
exportable (kinds.unlocked p r) = inr (λ h. h)
exportable (kinds.locked p v h) = inr (λ x. x)
exportable (kinds.url u h) = inr (λ x. x)
exportable (kinds.hash h) = inr (λ x. x)

-- each text has exactly one answer
module _ (text : Name) (d : IsDecided text) where
  some : ((k : Kind) × HasKind text k) ⊎ ((f : NameFault) × HasFault text f) → IsExportName text ⊎ ((f : NameFault) × HasExportFault text f)
  some (inl (k, h)) = by_kind (exportable k) where
    by_kind : IsExportable k ⊎ (IsExportable k → ⊥) → IsExportName text ⊎ ((f : NameFault) × HasExportFault text f)
    by_kind (inl may) = inl (k, h, may)
    by_kind (inr not) = inr (NotExportable, unexportable k h not refl)
  some (inr (f, h)) = inr (f, unnamed h)

  one_fault : (f g : NameFault) → HasExportFault text f → HasExportFault text g → f ≡ g
  one_fault f g (unnamed p) (unnamed q) = d.one_fault f g p q
  one_fault f g (unnamed p) (unexportable k h _ _) = absurd (d.apart k f h p)
  one_fault f g (unexportable k h _ _) (unnamed q) = absurd (d.apart k g h q)
  one_fault f g (unexportable _ _ _ p) (unexportable _ _ _ q) = p ∙ sym q

  apart : (f : NameFault) → IsExportName text → HasExportFault text f → ⊥
  apart f (k, h, may) (unnamed p) = d.apart k f h p
  apart f (k, h, may) (unexportable j other not _) = not (subst IsExportable (d.one_kind k j h other) may)

  own : (f : NameFault) → HasExportFault text f → f ≢ OutOfMemory
  own f (unnamed p) = (d.own f p).0
  own f (unexportable _ _ _ is) = λ out. let e : NotExportable ≡ OutOfMemory = sym is ∙ out in cc

  pub export_decided : IsExportDecided text
  export_decided = record { some = some d.some; one_fault = one_fault; apart = apart; own = own }
