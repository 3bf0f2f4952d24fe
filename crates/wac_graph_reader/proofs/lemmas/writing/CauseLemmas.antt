-- One cause stands at most; from what a call refuses to what `encode` does.
use Rattle.std.proofs.Common.{lit<, ◌<◌, IsTrue, Ok, Err, Result, IfErr, ◌≡◌, ℕ, ◌≤◌, refl, ap, ◌∙◌, sym, subst, arith, Option, Some, None, IfSome, IsSomeAnd, Bool, ◌⊎◌, inl, inr}
use Rattle.std.specs.Prelude.{slice_get}
use Rattle.std.specs.Result.{IsErrAnd}
use Rattle.wac_types_shapes.specs.primitives.Name.{Name, option_case}
use Rattle.wac_types_collection.specs.collection.Package.{PackageParts}
use Rattle.wac_types_shapes.specs.keys.Key.{Key}
use Rattle.wac_types_shapes.specs.declared.shapes.component.ItemKind.{ItemKind}
use Rattle.wac_graph_model.specs.declared.nodes.options.EncodeOptions.{EncodeOptions}
use Rattle.wac_binary.specs.declared.fault.BinaryFault.{BinaryFault}
use Rattle.wac_binary.specs.declared.fault.BinaryFault.TheVariants as binary
use Rattle.wac_graph_model.specs.private.causes.Faults.{encode_error}
use Rattle.wac_graph_model.specs.declared.causes.errors.EncodeError.{EncodeError}
use Rattle.wac_graph_model.specs.declared.causes.errors.EncodeError.TheVariants as error
use Rattle.wac_edges.specs.declared.node.NodeId.{NodeId}
use Rattle.wac_graph_model.specs.nodes.Graph as graph
use Rattle.wac_graph_model.specs.nodes.Graph.{Graph, GraphNode, node_at, imports_of, package_of, IsImportOf}
use Rattle.wac_graph_model.specs.nodes.Sound.{IsSound}
use Rattle.wac_edges.specs.Order.{IsAcyclic, IsLowestOnCycle}
use Rattle.wac_merge_classes.specs.terms.Faults.{OneFault, Fault, disagree, use_each_other}
use Rattle.wac_merge_classes.specs.entries.Classes.{by_names}
use Rattle.wac_merge_classes.specs.terms.NoDisagreement.{HasNoDisagreement}
use Rattle.wac_graph_model.specs.nodes.Asked.{Entry}
use Rattle.wac_graph_model.specs.nodes.Entries.{asked_entries, to_merge}
use Rattle.wac_graph_model.specs.causes.Cause.{IsFirstConflict, HasNoConflict, HasMerge, IsMergeConflict, IsImplicitMerge, IsExplicitMerge, IsImportCircle, Cause, cycle, conflict, implicit_merge, explicit_merge, import_circle, unwritable, invalid, CauseKind, a_disagreement, an_invalid_name, rank, kind_of_cause, Occurs, Stands, cause_of, AnswersFor}
use Rattle.wac_graph_model.specs.causes.TypeFaults.{wanted_entries, IsEntryFault, IsTypeFault, HasNoTypeFault}
use Rattle.wac_graph_model.specs.private.causes.Search.{IsRefused}
use Rattle.wac_encode_faults.specs.declared.fault.WriteFault.{WriteFault}
use Rattle.wac_encode_faults.specs.Faults.{IsLowest}
use Rattle.wac_encode_faults.proofs.Lowest.{one_lowest}
use Rattle.wac_graph_model.proofs.lemmas.causes.StandsLemmas.{stands_cycle, stands_unwritable, same_kind, none_there, invalid_alone}
use Rattle.wac_graph_model.specs.causes.OuterNames.{IsOuterFault}
use Rattle.wac_names.specs.validation.FirstFault as names
use Rattle.wac_merge_classes.specs.declared.terms.fault.MergeFault.TheVariants as merge

same_id : (n m : NodeId) → n.0 ≤ m.0 → m.0 ≤ n.0 → n ≡ m
same_id n m up down = let e : n.0 ≡ m.0 = omega arith in λ i. record { 0 = e i }

one_key : (o : Option PackageParts) (k l : Key) → IsSomeAnd o (λ p. (p.name, p.version) ≡ k) → IsSomeAnd o (λ p. (p.name, p.version) ≡ l) → k ≡ l
one_key None k l a b = absurd a
one_key (Some p) k l a b = sym a ∙ b

-- an instantiation has one first conflict
same_first : (g : Graph) → IsSound g → (i j n : NodeId) (k l : Key) (s t : Name) → IsFirstConflict g i n k s → IsFirstConflict g j n l t → (i ≡ j) × (k ≡ l) × (s ≡ t)
same_first g sound i j n k l s t a b =
    let at : a.position ≡ b.position = (let up = a.first j b.position t b.conflict in let down = b.first i a.position s a.conflict in omega (arith, up, down)) in
    let node : (a.conflict).node ≡ (b.conflict).node = one_node (node_at g n) (a.conflict).node (b.conflict).node (a.conflict).there (b.conflict).there in
    let text : s ≡ t = first_of_pair (slice_get (imports_of g (b.conflict).node) b.position) s t (a.conflict).kind (b.conflict).kind
    (ap (λ x. slice_get (imports_of g x) b.position) (sym node) ∙ ap (slice_get (imports_of g (a.conflict).node)) (sym at) ∙ (a.conflict).asked) (b.conflict).asked in (
      sound.one_import t i j (subst (λ x. IsImportOf g x i) text (a.conflict).imported) (b.conflict).imported,
      one_key (package_of g (b.conflict).node) k l (subst (λ x. IsSomeAnd (package_of g x) (λ p. (p.name, p.version) ≡ k)) node a.owned) b.owned,
      text,
    ) where
      one_node : (o : Option GraphNode) (x y : GraphNode) → o ≡ Some x → o ≡ Some y → x ≡ y
      one_node o x y p q = let e : Some x ≡ Some y = sym p ∙ q in cc

      first_of_pair : (o : Option (Name × ItemKind)) (x y : Name) (p q : ItemKind) → o ≡ Some (x, p) → o ≡ Some (y, q) → x ≡ y
      first_of_pair o x y p q f h = ap (λ z. option_case z x (λ e. e.0)) (sym f ∙ h)

one_conflict : (g : Graph) → IsSound g → (i j n m : NodeId) (k l : Key) (s t : Name) → IsFirstConflict g i n k s → IsFirstConflict g j m l t → conflict i n k s ≡ conflict j m l t
one_conflict g sound i j n m k l s t a b =
    let here : n ≡ m = same_id n m (a.lowest j m b.position t b.conflict) (b.lowest i n a.position s a.conflict) in
    let (import, key, text) = same_first g sound i j n k l s t a (subst (λ x. IsFirstConflict g j x l t) (sym here) b) in
    λ d. conflict (import d) (here d) (key d) (text d)

-- ---- causes of merging
same_some : {A : Type 0} (o : Option A) (x y : A) → o ≡ Some x → o ≡ Some y → x ≡ y
same_some o x y p q = let e : Some x ≡ Some y = sym p ∙ q in cc

module _ (g : Graph) (law : OneFault) where
  abbrev first_in : Fault → ℕ
  first_in (disagree p q x) = p
  first_in (use_each_other x) = 0

  abbrev second_in : Fault → ℕ
  second_in (disagree p q x) = q
  second_in (use_each_other x) = 0

  abbrev text_in : Fault → Name
  text_in (disagree p q x) = x
  text_in (use_each_other x) = x

  record SamePair (p q r s : ℕ) (x y : Name) (a : IsMergeConflict g p q x) (b : IsMergeConflict g r s y) : Type 0 where
    first : p ≡ r
    second : q ≡ s
    text : x ≡ y
    earlier : a.earlier ≡ b.earlier
    later : a.later ≡ b.later

  same_pair : (p q r s : ℕ) (x y : Name) (a : IsMergeConflict g p q x) (b : IsMergeConflict g r s y) → SamePair p q r s x y a b
  same_pair p q r s x y a b =
      let same : disagree p q x ≡ disagree r s y = law g.types (to_merge (asked_entries g)) (disagree p q x) (disagree r s y) a.disagree b.disagree in
      let first : p ≡ r = ap first_in same in
      let second : q ≡ s = ap second_in same in
      record {
        first = first;
        second = second;
        text = ap text_in same;
        earlier = same_some (slice_get (asked_entries g) p) a.earlier b.earlier a.at_first (ap (slice_get (asked_entries g)) first ∙ b.at_first);
        later = same_some (slice_get (asked_entries g) q) a.later b.later a.at_second (ap (slice_get (asked_entries g)) second ∙ b.at_second);
      }

  same_node : (n m : NodeId) → n.0 ≡ m.0 → n ≡ m
  same_node n m e = λ d. record { 0 = e d }

  one_implicit : (i j : Name) (f s t u : NodeId) (p q r v : ℕ) (x y : Name) → IsImplicitMerge g i f s p q x → IsImplicitMerge g j t u r v y → implicit_merge i f s p q x ≡ implicit_merge j t u r v y
  one_implicit i j f s t u p q r v x y a b =
      let same = same_pair p q r v x y a.conflict b.conflict in
      let name : i ≡ j = a.name ∙ (ap (λ (e : Entry). e.name) same.later ∙ sym b.name) in
      let firsts : f ≡ t = same_node f t (a.by_first ∙ (ap (λ (e : Entry). e.node) same.earlier ∙ sym b.by_first)) in
      let seconds : s ≡ u = same_node s u (a.by_second ∙ (ap (λ (e : Entry). e.node) same.later ∙ sym b.by_second)) in
      let at : p ≡ r = same.first in
      let behind : q ≡ v = same.second in
      let text : x ≡ y = same.text in
      λ d. implicit_merge (name d) (firsts d) (seconds d) (at d) (behind d) (text d)

  one_explicit : (i j : Name) (n o m k : NodeId) → IsExplicitMerge g i n o → IsExplicitMerge g j m k → explicit_merge i n o ≡ explicit_merge j m k
  one_explicit i j n o m k a b =
      let same = same_pair a.first a.second b.first b.second a.export b.export a.conflict b.conflict in
      let name : i ≡ j = a.name ∙ (ap (λ (e : Entry). e.name) same.later ∙ sym b.name) in
      let nodes : n ≡ m = same_node n m (a.by_node ∙ (ap (λ (e : Entry). e.node) same.later ∙ sym b.by_node)) in
      let others : o ≡ k = same_node o k (a.by_other ∙ (ap (λ (e : Entry). e.node) same.earlier ∙ sym b.by_other)) in
      λ d. explicit_merge (name d) (nodes d) (others d)

  not_both : (i j : Name) (f s n o : NodeId) (p q : ℕ) (x : Name) → IsImplicitMerge g i f s p q x → IsExplicitMerge g j n o → ⊥
  not_both i j f s n o p q x a b =
      let same = same_pair p q b.first b.second x b.export a.conflict b.conflict in
      let one : s ≡ n = same_node s n (a.by_second ∙ (ap (λ (e : Entry). e.node) same.later ∙ sym b.by_node)) in
      let node : (a.asked).node ≡ (b.asked).node = same_some (node_at g s) (a.asked).node (b.asked).node (a.asked).there (ap (node_at g) one ∙ (b.asked).there) in
      let kind : graph.instantiation ≡ graph.import (b.asked).name = sym (a.asked).instantiated ∙ (ap (λ (x : GraphNode). x.kind) node ∙ (b.asked).imported) in
      cc

  one_circle : (i j : Name) → HasNoDisagreement by_names g.types (to_merge (asked_entries g)) → IsImportCircle g i → IsImportCircle g j → import_circle i ≡ import_circle j
  one_circle i j agree a b = ap import_circle (ap text_in (law g.types (to_merge (asked_entries g)) (use_each_other i) (use_each_other j) (agree, a) (agree, b)))

-- of what cannot be written one fault is the first
one_type_fault : (g : Graph) (d : Bool) (n m : NodeId) (f h : WriteFault) → IsTypeFault g d n f → IsTypeFault g d m h → unwritable n f ≡ unwritable m h
one_type_fault g d n m f h a b =
    let up = a.first b.position b.entry h b.there b.lowest.0 in
    let down = b.first a.position a.entry f a.there a.lowest.0 in
    let at : a.position ≡ b.position = omega (arith, up, down) in
    let entry : a.entry ≡ b.entry = same_some (slice_get (wanted_entries g d) a.position) a.entry b.entry a.there (ap (slice_get (wanted_entries g d)) at ∙ b.there) in
    let number : n.0 ≡ m.0 = a.by_node ∙ (ap (λ (e : Entry). e.node) entry ∙ sym b.by_node) in
    let node : n ≡ m = λ k. record { 0 = number k } in
    let fault : f ≡ h = one_lowest (IsEntryFault g b.entry) f h (subst (λ (e : Entry). IsLowest (IsEntryFault g e) (Some f)) entry a.lowest) b.lowest in
    λ k. unwritable (node k) (fault k)

-- of one kind no two causes are named
one_named : (g : Graph) → IsSound g → OneFault → (o : EncodeOptions) (a b : Cause) → rank (kind_of_cause a) < rank an_invalid_name → kind_of_cause a ≡ kind_of_cause b → Stands g o a → Stands g o b → a ≡ b
one_named g sound law o (cycle n) (cycle m) before e a b = ap cycle (same_id n m (a.1.lowest m b.1.here) (b.1.lowest n a.1.here))
one_named g sound law o (cycle n) (conflict j m l t) before e a b = cc
one_named g sound law o (cycle n) (implicit_merge i f s p q x) before e a b = cc
one_named g sound law o (cycle n) (explicit_merge i m k) before e a b = cc
one_named g sound law o (cycle n) (import_circle i) before e a b = cc
one_named g sound law o (cycle n) (unwritable m h) before e a b = cc
one_named g sound law o (cycle n) (invalid f') before e a b = cc
one_named g sound law o (conflict i n k s) (cycle m) before e a b = cc
one_named g sound law o (conflict i n k s) (conflict j m l t) before e a b = one_conflict g sound i j n m k l s t a.1 b.1
one_named g sound law o (conflict i n k s) (implicit_merge j f t p q x) before e a b = cc
one_named g sound law o (conflict i n k s) (explicit_merge j m t) before e a b = cc
one_named g sound law o (conflict i n k s) (import_circle j) before e a b = cc
one_named g sound law o (conflict i n k s) (unwritable m h) before e a b = cc
one_named g sound law o (conflict i n k s) (invalid f') before e a b = cc
one_named g sound law o (implicit_merge i f s p q x) (cycle m) before e a b = cc
one_named g sound law o (implicit_merge i f s p q x) (conflict j m l t) before e a b = cc
one_named g sound law o (implicit_merge i f s p q x) (implicit_merge j t u r v y) before e a b = one_implicit g law i j f s t u p q r v x y a.1 b.1
one_named g sound law o (implicit_merge i f s p q x) (explicit_merge j n k) before e a b = absurd (not_both g law i j f s n k p q x a.1 b.1)
one_named g sound law o (implicit_merge i f s p q x) (import_circle j) before e a b = cc
one_named g sound law o (implicit_merge i f s p q x) (unwritable m h) before e a b = cc
one_named g sound law o (implicit_merge i f s p q x) (invalid f') before e a b = cc
one_named g sound law o (explicit_merge i n k) (cycle m) before e a b = cc
one_named g sound law o (explicit_merge i n k) (conflict j m l t) before e a b = cc
one_named g sound law o (explicit_merge i n k) (implicit_merge j t u r v y) before e a b = absurd (not_both g law j i t u n k r v y b.1 a.1)
one_named g sound law o (explicit_merge i n k) (explicit_merge j m l) before e a b = one_explicit g law i j n k m l a.1 b.1
one_named g sound law o (explicit_merge i n k) (import_circle j) before e a b = cc
one_named g sound law o (explicit_merge i n k) (unwritable m h) before e a b = cc
one_named g sound law o (explicit_merge i n k) (invalid f') before e a b = cc
one_named g sound law o (import_circle i) (cycle m) before e a b = cc
one_named g sound law o (import_circle i) (conflict j m l t) before e a b = cc
one_named g sound law o (import_circle i) (implicit_merge j t u r v y) before e a b = cc
one_named g sound law o (import_circle i) (explicit_merge j m l) before e a b = cc
one_named g sound law o (import_circle i) (import_circle j) before e a b = one_circle g law i j (λ p q h. a.0.1 a_disagreement (omega arith) (p, q, h)) a.1 b.1
one_named g sound law o (import_circle i) (unwritable m h) before e a b = cc
one_named g sound law o (import_circle i) (invalid f') before e a b = cc
one_named g sound law o (unwritable n f) (cycle m) before e a b = cc
one_named g sound law o (unwritable n f) (conflict j m l t) before e a b = cc
one_named g sound law o (unwritable n f) (implicit_merge j t u r v y) before e a b = cc
one_named g sound law o (unwritable n f) (explicit_merge j m l) before e a b = cc
one_named g sound law o (unwritable n f) (import_circle j) before e a b = cc
one_named g sound law o (unwritable n f) (unwritable m h) before e a b = one_type_fault g o.define_components n m f h a.1 b.1
one_named g sound law o (unwritable n f) (invalid f') before e a b = cc
one_named g sound law o (invalid f') b' before e a b = absurd (omega (arith, before))

-- no two causes stand
one_cause : (g : Graph) → IsSound g → OneFault → (o : EncodeOptions) (a b : Cause) → rank (kind_of_cause a) < rank an_invalid_name → Stands g o a → Stands g o b → a ≡ b
one_cause g sound law o a b before p q = one_named g sound law o a b before (same_kind g o (kind_of_cause a) (kind_of_cause b) p.0 q.0) p q

-- the cause that a refusal names stands
pub names_cause : (g : Graph) (o : EncodeOptions) (e : EncodeError) → IsRefused g o e → IfSome (cause_of e) (Stands g o)
names_cause g o e (inl is) = subst (λ x. IfSome (cause_of x) (Stands g o)) (sym is) tt
names_cause g o e (inr (cause, names, before, stands)) = subst (λ x. IfSome x (Stands g o)) (sym names) stands

-- the cause that stands is the one that a refusal names
pub refused_for : (g : Graph) → IsSound g → OneFault → (o : EncodeOptions) (e : EncodeError) → IsRefused g o e → (cause : Cause) → Stands g o cause → AnswersFor cause e
refused_for g sound law o e (inl is) cause stands = inr (inl is)
refused_for g sound law o e (inr (named, names, before, there)) cause stands = inl (names ∙ ap Some (one_cause g sound law o named cause before there stands))

-- where none of the other causes is there names alone may be at fault
abbrev pub IsChecked : Graph → EncodeOptions → Type 0
IsChecked g o = IsAcyclic g.edges × HasNoConflict g × HasMerge g × HasNoTypeFault g o.define_components

-- where the names are valid, or none asks whether they are, no cause of any kind occurs
pub none_occurs : (g : Graph) → (o : EncodeOptions) → IsChecked g o → (IsTrue o.validate → (fault : names.Fault) → IsOuterFault g o fault → ⊥) → (kind : CauseKind) → Occurs g o kind → ⊥
none_occurs g o h valid = none_there g o h.0 h.1 h.2 h.3 valid

-- where a size does not fit names alone may be at fault as well
pub too_large : (g : Graph) → (o : EncodeOptions) → IsChecked g o → (cause : Cause) → Stands g o cause → AnswersFor cause error.TooLarge
too_large g o h cause s = inr (inr (invalid_alone g o h.0 h.1 h.2 h.3 (kind_of_cause cause) s.0.0, refl))

pub at_type_fault : (g : Graph) (o : EncodeOptions) (n : NodeId) (f : WriteFault) → IsAcyclic g.edges → HasNoConflict g → HasMerge g → IsTypeFault g o.define_components n f → IsRefused g o (error.TypeNotWritable n f)
at_type_fault g o n f acyclic apart merges here = inr (unwritable n f, refl, lit< tt, stands_unwritable g o n f acyclic apart merges here)

pub at_cycle : (g : Graph) (n : NodeId) → IsLowestOnCycle g.edges n → (o : EncodeOptions) → IsRefused g o (error.GraphContainsCycle n)
at_cycle g n lowest o = inr (cycle n, refl, lit< tt, stands_cycle g o n lowest)

-- a refusal that names no cause is for want of memory or of room
nameless : (e : EncodeError) → cause_of e ≡ None → (e ≡ error.OutOfMemory) ⊎ (e ≡ error.TooLarge)
nameless (error.GraphContainsCycle node) h = cc
nameless (error.ImplicitImportConflict import instantiation key name) h = cc
nameless (error.ImportTypeMergeConflict import first second (merge.Disagree p q x)) h = cc
nameless (error.ImportTypeMergeConflict import first second (merge.UseEachOther x)) h = cc
nameless (error.ImportTypeMergeConflict import first second merge.OutOfMemory) h = cc
nameless (error.ExplicitImportMergeConflict import node other) h = cc
nameless (error.ImportsUseEachOther import) h = cc
nameless (error.TypeNotWritable node fault) h = cc
nameless error.TooLarge h = inr refl
nameless error.OutOfMemory h = inl refl
nameless (error.ValidationFailure fault) h = cc

pub nameless_answers : (g : Graph) → (o : EncodeOptions) → IsChecked g o → (e : EncodeError) → cause_of e ≡ None → (cause : Cause) → Stands g o cause → AnswersFor cause e
nameless_answers g o h e none cause s = by_error (nameless e none) where
  by_error : (e ≡ error.OutOfMemory) ⊎ (e ≡ error.TooLarge) → AnswersFor cause e
  by_error (inl is) = inr (inl is)
  by_error (inr is) = subst (λ x. AnswersFor cause x) (sym is) (too_large g o h cause s)

-- what the builder refuses names no cause
pub binary_nameless : (e : BinaryFault) → cause_of (encode_error e) ≡ None
binary_nameless binary.TooLarge = refl
binary_nameless binary.OutOfMemory = refl

-- what a `?` hands on
pub exit_cause : {A E : Type 0} (P : E → Type 0) (r : Result A E) (e : E) → IsErrAnd r (λ y. y ≡ e) → P e → IfErr r P
exit_cause P (Ok x) e h p = absurd h
exit_cause P (Err y) e h p = subst P (sym h) p

pub exit_refused : {A : Type 0} (P : EncodeError → Type 0) (r : Result A EncodeError) (e : EncodeError) → IsErrAnd r (λ y. y ≡ e) → P e → IsErrAnd r P
exit_refused P (Ok x) e h p = absurd h
exit_refused P (Err y) e h p = subst P (sym h) p
