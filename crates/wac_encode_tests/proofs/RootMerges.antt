-- Merges whose imports the root has.
use Rattle.std.specs.Prelude.{ℕ, suc, ◌≡◌, ◌<◌, ◌≤◌, ◌↔◌, Bool, true, false, if◌then◌else◌, List, [], ◌∷◌, ◌++◌, length, Option, Some, None, Result, Ok, IfOk, OnOk, IsSome, Contains, slice_get}
use Rattle.std.proofs.Common.{refl, ap, ◌∙◌, sym, subst, arith, nat_lt, ◌+◌, inl, inr}
use Rattle.std.proofs.lemmas.Bool.{false≢true}
use Rattle.std.proofs.lemmas.Bool.Decides.{nat_tests}
use Rattle.std.proofs.lemmas.Option.{slice_get_within}
use Rattle.indexmap.specs.IndexSet.{insert_key}
use Rattle.wac_types_shapes.specs.primitives.Name.{Name, option_case}
use Rattle.wac_types_shapes.specs.primitives.Tree.{Leaf, Place, imported, position}
use Rattle.wac_types_shapes.specs.contracts.shapes.component.ResourceIdPartialEq.TheImpl as IdEq
use Rattle.wac_types_shapes.specs.declared.shapes.component.ItemKind.{ItemKind}
use Rattle.wac_types_shapes.specs.declared.shapes.component.ResourceId.{ResourceId}
use Rattle.wac_types_shapes.specs.shapes.Kinds.{kind_type}
use Rattle.wac_types_collection.specs.collection.Collection.{Collection, holds_type}
use Rattle.wac_types_collection.specs.collection.Bound.{Bindings}
use Rattle.wac_types_collection.proofs.lemmas.wide.Members.{in_at, in_none}
use Rattle.wac_merge_classes.specs.entries.Agreement.{AllMembersAgree}
use Rattle.wac_merge_classes.specs.entries.Binding.{binding_class, binding_from, class_binds, root_bindings}
use Rattle.wac_merge_classes.specs.entries.Bindings.{AreHeld}
use Rattle.wac_merge_classes.specs.entries.Classes.{Entry, by_names, class_names, members, same_class}
use Rattle.wac_merge_classes.specs.terms.Faults.{HasNoCircle}
use Rattle.wac_merge_classes.specs.terms.Merge.{IsMerge, Merged, position_in}
use Rattle.wac_merge_classes.proofs.lemmas.entries.Lists.{push-cases}
use Rattle.wac_merge_imports.specs.unions.EntryFaults.{HasFaultsOfEntries}
use Rattle.wac_merge_imports.specs.unions.MergedScope.{BindsAsClasses}
use Rattle.wac_merge_imports.proofs.lemmas.fitting.MergedBindingsClasses.{filter-at}
use Rattle.wac_merge.specs.Aggregate.{Aggregate}
use Rattle.wac_merge.specs.ImportFaults.{ImportFaultLaw}
use Rattle.wac_merge.specs.MergedPlaces.{MentionsBefore}
use Rattle.wac_encode_faults.specs.declared.fault.WriteFault.{WriteFault}
use Rattle.wac_encode_faults.specs.declared.fault.WriteFault.TheVariants as fault
use Rattle.wac_encode_faults.specs.declared.faults.Role.TheVariants as role
use Rattle.wac_encode_faults.specs.Faults.{IsLowest, HasFault, IsImportFault, own, unbound, inside}
use Rattle.wac_encode_faults.proofs.FreeParts.{inserted_law}
use Rattle.wac_encode_scopes.specs.declared.state.State.{State}
use Rattle.wac_encode_scopes.specs.Roots.{IsRoot}
use Rattle.wac_encode_scopes.specs.private.Telling.{is_one_of}
use Rattle.wac_binary.specs.declared.sorts.Sort.{Sort}
use Rattle.wac_encode_imports.specs.private.Imports.{AreImported, HasNoImportFault}
use Rattle.wac_encode_imports.specs.private.ToldGraph.{HasNoUnbound, IsTold, entry_bindings}
use Rattle.wac_encode_tests.specs.private.Merged.{AreClassResources, HasNoEntryFault, HasNoFaultIn, IsMergeOf}
use Rattle.wac_encode_tests.specs.private.Opened.{IsRootOf}
use Rattle.wac_encode_tests.proofs.RootItems.{bindings-of, if-ok-is, in-bindings, no-scopes, on-ok-is, one-in, some-leaf}

-- a merge of entries

pub merge-is : {E : Type 0} (c : Collection) (es : List Entry) (res : Result Aggregate E) (a : Aggregate) → res ≡ Ok a → AreHeld c es
    → IfOk res (λ (x : Aggregate). (x.entries ≡ es) × (x.is_finished ≡ true)) → IfOk res (λ (x : Aggregate). IsMerge by_names c es x.merge)
    → IfOk res (λ (x : Aggregate). BindsAsClasses by_names c es x.merge) → IfOk res (λ (x : Aggregate). MentionsBefore by_names x.merge)
    → IfOk res (λ (x : Aggregate). HasFaultsOfEntries by_names c es x.merge) → IfOk res (λ (x : Aggregate). AreHeld (x.merge).types (x.merge).imports)
    → OnOk res (AllMembersAgree by_names c es) → OnOk res (HasNoCircle by_names c es) → IsMergeOf c a
merge-is {E} c es res a is held kept merged bound before faults imports agreed ordered =
    let same = if-ok-is (λ (x : Aggregate). (x.entries ≡ es) × (x.is_finished ≡ true)) res a is kept in
    let back = sym same.0 in
    record {
      finished = same.1;
      entries = subst (AreHeld c) back held;
      imports = if-ok-is (λ (x : Aggregate). AreHeld (x.merge).types (x.merge).imports) res a is imports;
      merged = subst (λ (xs : List Entry). IsMerge by_names c xs a.merge) back (if-ok-is (λ (x : Aggregate). IsMerge by_names c es x.merge) res a is merged);
      bound = subst (λ (xs : List Entry). BindsAsClasses by_names c xs a.merge) back (if-ok-is (λ (x : Aggregate). BindsAsClasses by_names c es x.merge) res a is bound);
      before = if-ok-is (λ (x : Aggregate). MentionsBefore by_names x.merge) res a is before;
      faults = subst (λ (xs : List Entry). HasFaultsOfEntries by_names c xs a.merge) back (if-ok-is (λ (x : Aggregate). HasFaultsOfEntries by_names c es x.merge) res a is faults);
      agreed = subst (AllMembersAgree by_names c) back (on-ok-is res a is agreed);
      ordered = subst (HasNoCircle by_names c) back (on-ok-is res a is ordered);
    }

pub held-more : (c : Collection) (es now : List Entry) (e : Entry) → now ≡ es ++ e ∷ [] → holds_type c (kind_type e.kind) ≡ true → AreHeld c es → AreHeld c now
held-more c es now e is held h i x at = elim (push-cases es e i x (sym (ap (λ (xs : List Entry). slice_get xs i) is) ∙ at)) [
  | inl w ↦ h i x w
  | inr w ↦ subst (λ (y : Entry). holds_type c (kind_type y.kind) ≡ true) (sym w.1) held
]

-- resources that classes bind

pub class-none : (a : Aggregate) (rs : List ResourceId) → rs ≡ [] → AreClassResources a rs
class-none a rs is r there = absurd (in_none r (subst (λ (xs : List ResourceId). Contains xs r) is there))

pub class-more : (a : Aggregate) (old new : List ResourceId) (q : ResourceId) → new ≡ insert_key (IdEq.ghosts).eq old q → IsSome (binding_class by_names (a.merge).types a.entries q) → AreClassResources a old → AreClassResources a new
class-more a old new q is here h r there = elim ((inserted_law old new q is r).0 there) [
  | inl w ↦ h r w
  | inr w ↦ subst (λ (x : ResourceId). IsSome (binding_class by_names (a.merge).types a.entries x)) (sym w) here
]

-- over the merged types the classes bind the same
binding-alike : (c m : Collection) (es : List Entry) → ((class : Name) (r : ResourceId) → class_binds by_names m es class r ≡ class_binds by_names c es class r) → (r : ResourceId) → binding_class by_names m es r ≡ binding_class by_names c es r
binding-alike c m es same r = from 0 (class_names by_names es)
  where
    from : (k : ℕ) (classes : List Name) → binding_from by_names m es k classes r ≡ binding_from by_names c es k classes r
    from k [] = refl
    from k (class ∷ rest) =
        let here = same class r in
        let more = from (suc k) rest in
        λ i. option_case (here i) (more i) (λ path. Some (k, path))

abbrev leaf-at : (ℕ → ℕ) → ℕ × List Place → Leaf
leaf-at at b = record { out = 0; side = imported; path = position (at b.0) ∷ b.1 }

is-rooted : (at : ℕ → ℕ) (o : Option (ℕ × List Place)) → IsSome o → option_case o None (λ b. Some (leaf-at at b)) ≡ None → ⊥
is-rooted at None some is = false≢true some
is-rooted at (Some b) some is = let wrong : Some (leaf-at at b) ≡ None = is in cc

bound-alike : (f h : ℕ → ℕ) (o : Option (ℕ × List Place)) → option_case o None (λ b. Some (leaf-at f b)) ≡ None → option_case o None (λ b. Some (leaf-at h b)) ≡ None
bound-alike f h None is = refl
bound-alike f h (Some b) is = absurd (let wrong : Some (leaf-at f b) ≡ None = is in cc)

-- an entry without a fault

-- The lowest fault of the item as an import of a root that binds these resources.
abbrev IsFaultOfImport : Collection → List ResourceId → ItemKind → Option WriteFault → Type 0
IsFaultOfImport c rs k o = (root : Bindings) → ((r : ResourceId) → Contains rs r ↔ IsSome (root r)) → IsLowest (HasFault c root role.Imported k) o

pub no-fault : {E : Type 0} → (c : Collection) (a : Aggregate) (k : ItemKind) (rs : List ResourceId) → IsMergeOf c a → AreClassResources a rs → (res : Result (Option WriteFault) E) (x : Option WriteFault) → res ≡ Ok x
    → IfOk res (IsFaultOfImport c rs k) → x ≡ None → HasNoFaultIn c a.entries k
no-fault {E} c a k rs is bound res x ok all none f h = low f (fewer f h)
  where
    low : IsLowest (HasFault c (bindings-of rs) role.Imported k) None
    low = subst (λ (o : Option WriteFault). IsFaultOfImport c rs k o) none (if-ok-is (IsFaultOfImport c rs k) res x ok all) (bindings-of rs) (in-bindings rs)

    by : (r : ResourceId) → root_bindings by_names c a.entries (λ i. i) r ≡ None → (y : Bool) → is_one_of rs r ≡ y → bindings-of rs r ≡ None
    by r free true hit =
        let some = subst IsSome (binding-alike c (a.merge).types a.entries (is.bound).same r) (bound r (one-in rs r hit)) in
        absurd (is-rooted (λ i. i) (binding_class by_names c a.entries r) some free)
    by r free false miss = ap (λ (y : Bool). if y then Some some-leaf else None) miss

    less : (r : ResourceId) → root_bindings by_names c a.entries (λ i. i) r ≡ None → bindings-of rs r ≡ None
    less r free = by r free (is_one_of rs r) refl

    fewer : (f : WriteFault) → IsImportFault c (root_bindings by_names c a.entries (λ i. i)) k f → IsImportFault c (bindings-of rs) k f
    fewer _ (own f e) = own f e
    fewer _ (unbound u) = unbound (u.0, u.1, less u.0 u.2)
    fewer _ (inside f i) = inside f i

-- entry by entry

abbrev pub HasNoFaultBefore : Collection → List Entry → ℕ → Type 0
HasNoFaultBefore c es n = (i : ℕ) (e : Entry) → i < n → slice_get es i ≡ Some e → HasNoFaultIn c es e.kind

pub no-fault-first : (c : Collection) (es : List Entry) → HasNoFaultBefore c es 0
no-fault-first c es i e low at = absurd (omega (arith, low))

one-some : (a b : Entry) → Some a ≡ Some b → a ≡ b
one-some a b e = cc

pub no-fault-next : (c : Collection) (es : List Entry) (n : ℕ) (x : Entry) (k : ItemKind) → slice_get es n ≡ Some x → k ≡ x.kind → HasNoFaultIn c es k → HasNoFaultBefore c es n → HasNoFaultBefore c es (n + 1)
no-fault-next c es n x k there kind none before i e low at = elim (nat_lt i n) as (λ b. nat_lt i n ≡ b → HasNoFaultIn c es e.kind) [
  | true ↦ λ less. before i e (grind (arith, nat_tests)) at
  | false ↦ λ not_less.
      let up : n ≤ i = grind (arith, nat_tests) in
      let same : i ≡ n = omega (arith, up, low) in
      let one : x ≡ e = one-some x e (sym there ∙ ap (slice_get es) (sym same) ∙ at) in
      subst (HasNoFaultIn c es) (kind ∙ ap (λ (y : Entry). y.kind) one) none
] refl

pub no-fault-last : (c : Collection) (es : List Entry) (n : ℕ) → length es ≤ n → HasNoFaultBefore c es n → HasNoEntryFault c es
no-fault-last c es n past before i e at = let low = slice_get_within es i e at in before i e (omega (arith, low, past)) at

-- what the writers need

pub no-import-fault : ImportFaultLaw → (c : Collection) (a : Aggregate) → IsMergeOf c a → HasNoEntryFault c a.entries → HasNoImportFault a.merge
no-import-fault law c a is none p e f at h =
    let es = a.entries in
    let w = law by_names c es a.merge is.faults p e f at h in
    let m = in_at (members by_names es e.name) w.0 w.1 in
    let q = filter-at (λ (x : Entry). same_class by_names es e.name x.name) es m.0 w.0 m.2 in
    none q.1 w.0 q.2 f w.2

pub no-unbound : (c : Collection) (es : List Entry) → HasNoEntryFault c es → (order : List ℕ) → HasNoUnbound c es order
no-unbound c es none order e within u =
    let m = in_at es e within in
    none m.0 e m.2 fault.UnboundResource (unbound (u.0, u.1, bound-alike (position_in order) (λ i. i) (binding_class by_names c es u.0) u.2))

-- the root after a merge

pub told-root : (c : Collection) (es : List Entry) (order : List ℕ) (m : Merged) (places : List (Sort × ℕ)) (s t : State) → AreImported m places s → IsTold c es order s t → IsRootOf c false t
told-root c es order m places s t written told = record {
  bindings = entry_bindings c es order ∷ [];
  good = told.good;
  root = subst IsRoot (sym (told.records).content) written.root;
  bottom = no-scopes c false t.around.items (told.good).1;
}
