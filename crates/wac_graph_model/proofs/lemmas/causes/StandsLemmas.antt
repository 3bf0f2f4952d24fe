-- A cause stands exactly where it is the one that is named and none of a lower kind is there, said for each kind.
use Rattle.std.proofs.Common.{◌≡◌, ◌↔◌, ℕ, zero, suc, ◌<◌, nat_lt, IsTrue, true, false, refl, ap, sym, ◌∙◌, arith}
use Rattle.std.proofs.lemmas.Bool.Decides.{nat_tests}
use Rattle.wac_types_shapes.specs.primitives.Name.{Name}
use Rattle.wac_types_shapes.specs.keys.Key.{Key}
use Rattle.wac_merge_classes.specs.entries.Classes.{by_names}
use Rattle.wac_merge_classes.specs.terms.Faults.{HasNoCircle}
use Rattle.wac_merge_classes.specs.terms.NoDisagreement.{HasNoDisagreement}
use Rattle.wac_graph_model.specs.declared.nodes.options.EncodeOptions.{EncodeOptions}
use Rattle.wac_encode_faults.specs.declared.fault.WriteFault.{WriteFault}
use Rattle.wac_edges.specs.declared.node.NodeId.{NodeId}
use Rattle.wac_graph_model.specs.nodes.Graph.{Graph}
use Rattle.wac_edges.specs.Order.{IsAcyclic, IsLowestOnCycle}
use Rattle.wac_graph_model.specs.nodes.Entries.{asked_entries, to_merge}
use Rattle.wac_graph_model.specs.causes.TypeFaults.{IsTypeFault, HasNoTypeFault}
use Rattle.wac_graph_model.specs.causes.OuterNames.{IsOuterFault}
use Rattle.wac_names.specs.validation.FirstFault.{Fault}
use Rattle.wac_graph_model.specs.causes.Cause.{IsFirstConflict, HasNoConflict, HasMerge, IsImplicitMerge, IsExplicitMerge, IsImportCircle, Cause, cycle, conflict, implicit_merge, explicit_merge, import_circle, unwritable, invalid, CauseKind, a_cycle, a_conflict, a_disagreement, a_circle, a_type_fault, an_invalid_name, rank, Occurs, IsFirstKind, Stands}

-- no kind is above the last
last_kind : (k : CauseKind) → 5 < rank k → ⊥
last_kind a_cycle h = omega (arith, h)
last_kind a_conflict h = omega (arith, h)
last_kind a_disagreement h = omega (arith, h)
last_kind a_circle h = omega (arith, h)
last_kind a_type_fault h = omega (arith, h)
last_kind an_invalid_name h = omega (arith, h)

module _ (g : Graph) (o : EncodeOptions) where
  abbrev AllAgree : Type 0
  AllAgree = HasNoDisagreement by_names g.types (to_merge (asked_entries g))

  abbrev NoCircle : Type 0
  NoCircle = HasNoCircle by_names g.types (to_merge (asked_entries g))

  -- nothing below a kind is there
  none_below : (k : CauseKind) → (0 < rank k → IsAcyclic g.edges) → (1 < rank k → HasNoConflict g) → (2 < rank k → AllAgree) → (3 < rank k → NoCircle) → (4 < rank k → HasNoTypeFault g o.define_components) → (below : CauseKind) → rank below < rank k → Occurs g o below → ⊥
  none_below k acyclic apart agree circles types a_cycle less h = acyclic less h.0 h.1
  none_below k acyclic apart agree circles types a_conflict less h = apart less h.0 h.1 h.2 h.3 h.4
  none_below k acyclic apart agree circles types a_disagreement less h = agree less h.0 h.1 h.2
  none_below k acyclic apart agree circles types a_circle less h = circles less h.0 h.1
  none_below k acyclic apart agree circles types a_type_fault less h = types less h.0 h.1 h.2 h.3 h.4
  none_below k acyclic apart agree circles types an_invalid_name less h = last_kind k less

  pub stands_cycle : (node : NodeId) → IsLowestOnCycle g.edges node → Stands g o (cycle node)
  stands_cycle node lowest = (((node, lowest.here), none_below a_cycle (λ h. absurd (omega (arith, h))) (λ h. absurd (omega (arith, h))) (λ h. absurd (omega (arith, h))) (λ h. absurd (omega (arith, h))) (λ h. absurd (omega (arith, h)))), lowest)

  pub stands_conflict : (import instantiation : NodeId) (key : Key) (name : Name) → IsAcyclic g.edges → IsFirstConflict g import instantiation key name → Stands g o (conflict import instantiation key name)
  stands_conflict import instantiation key name acyclic first =
      (((import, instantiation, first.position, name, first.conflict), none_below a_conflict (λ _. acyclic) (λ h. absurd (omega (arith, h))) (λ h. absurd (omega (arith, h))) (λ h. absurd (omega (arith, h))) (λ h. absurd (omega (arith, h)))), first)

  pub stands_implicit : (import : Name) (first second : NodeId) (p q : ℕ) (export : Name) → IsAcyclic g.edges → HasNoConflict g → IsImplicitMerge g import first second p q export → Stands g o (implicit_merge import first second p q export)
  stands_implicit import first second p q export acyclic apart merge =
      (((p, q, (merge.conflict).disagree.is_first.disagree), none_below a_disagreement (λ _. acyclic) (λ _. apart) (λ h. absurd (omega (arith, h))) (λ h. absurd (omega (arith, h))) (λ h. absurd (omega (arith, h)))), merge)

  pub stands_explicit : (import : Name) (node other : NodeId) → IsAcyclic g.edges → HasNoConflict g → IsExplicitMerge g import node other → Stands g o (explicit_merge import node other)
  stands_explicit import node other acyclic apart merge =
      (((merge.first, merge.second, (merge.conflict).disagree.is_first.disagree), none_below a_disagreement (λ _. acyclic) (λ _. apart) (λ h. absurd (omega (arith, h))) (λ h. absurd (omega (arith, h))) (λ h. absurd (omega (arith, h)))), merge)

  pub stands_circle : (import : Name) → IsAcyclic g.edges → HasNoConflict g → AllAgree → IsImportCircle g import → Stands g o (import_circle import)
  stands_circle import acyclic apart agree circle = (((circle.number, circle.is_first.on), none_below a_circle (λ _. acyclic) (λ _. apart) (λ _. agree) (λ h. absurd (omega (arith, h))) (λ h. absurd (omega (arith, h)))), circle)

  pub stands_unwritable : (node : NodeId) (fault : WriteFault) → IsAcyclic g.edges → HasNoConflict g → HasMerge g → IsTypeFault g o.define_components node fault → Stands g o (unwritable node fault)
  stands_unwritable node fault acyclic apart merges here =
      (((here.position, here.entry, fault, here.there, here.lowest.0), none_below a_type_fault (λ _. acyclic) (λ _. apart) (λ _. merges.0) (λ _. merges.1) (λ h. absurd (omega (arith, h)))), here)

  pub stands_invalid : (fault : Fault) → IsAcyclic g.edges → HasNoConflict g → HasMerge g → HasNoTypeFault g o.define_components → IsTrue o.validate → IsOuterFault g o fault → Stands g o (invalid fault)
  stands_invalid fault acyclic apart merges types asked here =
      (((asked, (fault, here)), none_below an_invalid_name (λ _. acyclic) (λ _. apart) (λ _. merges.0) (λ _. merges.1) (λ _. types)), here)

  -- the same, in a line for each cause
  abbrev StandsAlone : Cause → Type 0
  StandsAlone (cycle node) = IsLowestOnCycle g.edges node
  StandsAlone (conflict import instantiation key name) = IsAcyclic g.edges × IsFirstConflict g import instantiation key name
  StandsAlone (implicit_merge import first second p q export) = IsAcyclic g.edges × HasNoConflict g × IsImplicitMerge g import first second p q export
  StandsAlone (explicit_merge import node other) = IsAcyclic g.edges × HasNoConflict g × IsExplicitMerge g import node other
  StandsAlone (import_circle import) = IsAcyclic g.edges × HasNoConflict g × AllAgree × IsImportCircle g import
  StandsAlone (unwritable node fault) = IsAcyclic g.edges × HasNoConflict g × HasMerge g × IsTypeFault g o.define_components node fault
  StandsAlone (invalid fault) = IsAcyclic g.edges × HasNoConflict g × HasMerge g × HasNoTypeFault g o.define_components × IsTrue o.validate × IsOuterFault g o fault

  acyclic_below : (k : CauseKind) → IsFirstKind g o k → 0 < rank k → IsAcyclic g.edges
  acyclic_below k first less n h = first.1 a_cycle less (n, h)

  apart_below : (k : CauseKind) → IsFirstKind g o k → 1 < rank k → HasNoConflict g
  apart_below k first less i n p t h = first.1 a_conflict less (i, n, p, t, h)

  agree_below : (k : CauseKind) → IsFirstKind g o k → 2 < rank k → AllAgree
  agree_below k first less i j h = first.1 a_disagreement less (i, j, h)

  circles_below : (k : CauseKind) → IsFirstKind g o k → 3 < rank k → NoCircle
  circles_below k first less n h = first.1 a_circle less (n, h)

  types_below : (k : CauseKind) → IsFirstKind g o k → 4 < rank k → HasNoTypeFault g o.define_components
  types_below k first less i e f at h = first.1 a_type_fault less (i, e, f, at, h)

  alone : (cause : Cause) → Stands g o cause → StandsAlone cause
  alone (cycle node) s = s.1
  alone (conflict import instantiation key name) s = (acyclic_below a_conflict s.0 (omega arith), s.1)
  alone (implicit_merge import first second p q export) s = (acyclic_below a_disagreement s.0 (omega arith), apart_below a_disagreement s.0 (omega arith), s.1)
  alone (explicit_merge import node other) s = (acyclic_below a_disagreement s.0 (omega arith), apart_below a_disagreement s.0 (omega arith), s.1)
  alone (import_circle import) s = (acyclic_below a_circle s.0 (omega arith), apart_below a_circle s.0 (omega arith), agree_below a_circle s.0 (omega arith), s.1)
  alone (unwritable node fault) s = (acyclic_below a_type_fault s.0 (omega arith), apart_below a_type_fault s.0 (omega arith), (agree_below a_type_fault s.0 (omega arith), circles_below a_type_fault s.0 (omega arith)), s.1)
  alone (invalid fault) s = (
    acyclic_below an_invalid_name s.0 (omega arith),
    apart_below an_invalid_name s.0 (omega arith),
    (agree_below an_invalid_name s.0 (omega arith), circles_below an_invalid_name s.0 (omega arith)),
    types_below an_invalid_name s.0 (omega arith),
    s.0.0.0,
    s.1,
  )

  together : (cause : Cause) → StandsAlone cause → Stands g o cause
  together (cycle node) s = stands_cycle node s
  together (conflict import instantiation key name) s = stands_conflict import instantiation key name s.0 s.1
  together (implicit_merge import first second p q export) s = stands_implicit import first second p q export s.0 s.1 s.2
  together (explicit_merge import node other) s = stands_explicit import node other s.0 s.1 s.2
  together (import_circle import) s = stands_circle import s.0 s.1 s.2 s.3
  together (unwritable node fault) s = stands_unwritable node fault s.0 s.1 s.2 s.3
  together (invalid fault) s = stands_invalid fault s.0 s.1 s.2 s.3 s.4 s.5

  pub stands_as : (cause : Cause) → Stands g o cause ↔ StandsAlone cause
  stands_as cause = (alone cause, together cause)

  -- one kind is the first
  abbrev by_rank : ℕ → CauseKind
  by_rank zero = a_cycle
  by_rank (suc zero) = a_conflict
  by_rank (suc (suc zero)) = a_disagreement
  by_rank (suc (suc (suc zero))) = a_circle
  by_rank (suc (suc (suc (suc zero)))) = a_type_fault
  by_rank (suc (suc (suc (suc (suc n))))) = an_invalid_name

  of_rank : (k : CauseKind) → by_rank (rank k) ≡ k
  of_rank a_cycle = refl
  of_rank a_conflict = refl
  of_rank a_disagreement = refl
  of_rank a_circle = refl
  of_rank a_type_fault = refl
  of_rank an_invalid_name = refl

  by_order : {P : Type 0} (m n : ℕ) → (m < n → P) → (n < m → P) → (m ≡ n → P) → P
  by_order {P} m n less more same = elim (nat_lt m n) as (λ b. nat_lt m n ≡ b → P) [
    | true ↦ λ e. less (grind (arith, nat_tests))
    | false ↦ λ e. elim (nat_lt n m) as (λ b. nat_lt n m ≡ b → P) [ true ↦ λ f. more (grind (arith, nat_tests)) | false ↦ λ f. same (grind (arith, nat_tests)) ] refl
  ] refl

  pub same_kind : (a b : CauseKind) → IsFirstKind g o a → IsFirstKind g o b → a ≡ b
  same_kind a b p q = by_order (rank a) (rank b) (λ less. absurd (q.1 a less p.0)) (λ more. absurd (p.1 b more q.0)) (λ same. sym (of_rank a) ∙ ap by_rank same ∙ of_rank b)

  -- no cause stands where none is there
  pub none_there : IsAcyclic g.edges → HasNoConflict g → HasMerge g → HasNoTypeFault g o.define_components → (IsTrue o.validate → (fault : Fault) → IsOuterFault g o fault → ⊥) → (k : CauseKind) → Occurs g o k → ⊥
  none_there acyclic apart merges types valid a_cycle h = acyclic h.0 h.1
  none_there acyclic apart merges types valid a_conflict h = apart h.0 h.1 h.2 h.3 h.4
  none_there acyclic apart merges types valid a_disagreement h = merges.0 h.0 h.1 h.2
  none_there acyclic apart merges types valid a_circle h = merges.1 h.0 h.1
  none_there acyclic apart merges types valid a_type_fault h = types h.0 h.1 h.2 h.3 h.4
  none_there acyclic apart merges types valid an_invalid_name h = valid h.0 h.1.0 h.1.1

  -- where names alone may be at fault, that is what stands
  pub invalid_alone : IsAcyclic g.edges → HasNoConflict g → HasMerge g → HasNoTypeFault g o.define_components → (k : CauseKind) → Occurs g o k → k ≡ an_invalid_name
  invalid_alone acyclic apart merges types a_cycle h = absurd (acyclic h.0 h.1)
  invalid_alone acyclic apart merges types a_conflict h = absurd (apart h.0 h.1 h.2 h.3 h.4)
  invalid_alone acyclic apart merges types a_disagreement h = absurd (merges.0 h.0 h.1 h.2)
  invalid_alone acyclic apart merges types a_circle h = absurd (merges.1 h.0 h.1)
  invalid_alone acyclic apart merges types a_type_fault h = absurd (types h.0 h.1 h.2 h.3 h.4)
  invalid_alone acyclic apart merges types an_invalid_name h = refl
