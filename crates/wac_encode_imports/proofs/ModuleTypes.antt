-- The core module types that are written in the root.
use Rattle.std.proofs.Common.{ℕ, ◌≡◌, Bool, true, false, Option, Some, None, Result, Ok, Err, IfOk, IfSome, OnOk, refl, ap, sym, ◌∙◌, subst}
use Rattle.std.specs.Prelude.{cond}
use Rattle.std.proofs.lemmas.Bool.{eqb-true}
use Rattle.wac_types_shapes.specs.contracts.shapes.component.ModuleTypeIdPartialEq.TheImpl as IdEq
use Rattle.wac_types_shapes.specs.primitives.Name.{Name}
use Rattle.wac_types_shapes.specs.declared.shapes.component.ItemKind.{ItemKind}
use Rattle.wac_types_shapes.specs.declared.shapes.component.ItemKind.TheVariants as kind
use Rattle.wac_types_shapes.specs.declared.shapes.component.ModuleTypeId.{ModuleTypeId}
use Rattle.wac_types_collection.specs.collection.Collection.{Collection}
use Rattle.wac_encode_stacks.specs.Good.{Keeps, innermost}
use Rattle.wac_encode_scopes.specs.declared.state.State.{State}
use Rattle.wac_encode_scopes.specs.States.{stack}
use Rattle.wac_encode_interfaces.specs.private.Imports.{IsModuleAt, module_type_of}
use Rattle.wac_encode_imports.specs.declared.import.ImportWriter.{ImportWriter}
use Rattle.wac_encode_imports.specs.private.Modules.{AreModulesAt}
use Rattle.wac_encode_imports.specs.private.Written.{MayWrite, WritesImport}
use Rattle.wac_encode_imports.proofs.Bound.{no-some, one-some}

pub module-is : (k : ItemKind) (m : ModuleTypeId) → module_type_of k ≡ Some m → k ≡ kind.Module m
module-is (kind.Module x) m h = ap kind.Module (one-some x m h)
module-is (kind.TypeItem t) m h = no-some m h
module-is (kind.Func f) m h = no-some m h
module-is (kind.Instance i) m h = no-some m h
module-is (kind.Component w) m h = no-some m h
module-is (kind.Value v) m h = no-some m h

-- The core type index keeps its meaning where the scopes have only grown.
kept : (c : Collection) (b : Bool) (old new : State) (k : ModuleTypeId) (i : ℕ) → Keeps (innermost (stack b old)) (innermost (stack b new)) → IsModuleAt c b old k i → IsModuleAt c b new k i
kept c b old new k i keeps h = (h.0, h.1, h.2, keeps.core_types i h.0 h.3)

-- none yet

pub none-known : (x : ImportWriter) (s : State) (indexes : ModuleTypeId → Option ℕ) → ((k : ModuleTypeId) → indexes k ≡ None) → AreModulesAt x s indexes
none-known x s indexes none k i at = no-some i (sym (none k) ∙ at)

-- one of them

pub known-at : (x : ImportWriter) (s : State) (indexes : ModuleTypeId → Option ℕ) (k : ModuleTypeId) (o : Option ℕ) → o ≡ indexes k → AreModulesAt x s indexes → IfSome o (IsModuleAt x.writer.types.now x.writer.merged s k)
known-at x s indexes k None is are = tt
known-at x s indexes k (Some i) is are = are k i (sym is)

-- after an import

pub known-still : (x : ImportWriter) (p : ℕ) (n : Name) (k : ItemKind) (old new : State) (indexes : ModuleTypeId → Option ℕ) (i : ℕ) → MayWrite x p n k old → WritesImport x p n k old new i → AreModulesAt x old indexes → AreModulesAt x new indexes
known-still x p n k old new indexes i may writes are key j at =
    let h = may.2 in
    let c = x.writer.types.now in
    let brings = writes may.0 h may.1 may.3 in
    let keeps : Keeps (innermost (stack true old)) (innermost (stack true new)) = (brings.onward).1.0.keeps in
    let was : IsModuleAt c true old key j = subst (λ (b : Bool). IsModuleAt c b old key j) h.merged (are key j at) in
    subst (λ (b : Bool). IsModuleAt c b new key j) (sym h.merged) (kept c true old new key j keeps was)

pub still-known : {E : Type 0} (x : ImportWriter) (p : ℕ) (n : Name) (k : ItemKind) (old new : State) (indexes : ModuleTypeId → Option ℕ) (r : Result ℕ E) → MayWrite x p n k old → IfOk r (WritesImport x p n k old new) → AreModulesAt x old indexes
    → OnOk r (AreModulesAt x new indexes)
still-known x p n k old new indexes (Ok i) may writes are = known-still x p n k old new indexes i may writes are
still-known x p n k old new indexes (Err e) may writes are = tt

-- one more

same-module : (k j : ModuleTypeId) → (IdEq.ghosts).eq k j ≡ true → k ≡ j
same-module k j e = ap (λ n. record { 0 = n }) (eqb-true k.0 j.0 e)

pub known-more : (x : ImportWriter) (s : State) (old new : ModuleTypeId → Option ℕ) (k : ModuleTypeId) (i : ℕ) → ((j : ModuleTypeId) → new j ≡ cond ((IdEq.ghosts).eq k j) (Some i) (old j)) → IsModuleAt x.writer.types.now x.writer.merged s k i
    → AreModulesAt x s old → AreModulesAt x s new
known-more x s old new k i put is are j n at = by ((IdEq.ghosts).eq k j) refl
  where
    here : (b : Bool) → (IdEq.ghosts).eq k j ≡ b → cond b (Some i) (old j) ≡ Some n
    here b e = sym (put j ∙ ap (λ b. cond b (Some i) (old j)) e) ∙ at

    by : (b : Bool) → (IdEq.ghosts).eq k j ≡ b → IsModuleAt x.writer.types.now x.writer.merged s j n
    by true e =
        subst (λ (z : ModuleTypeId). IsModuleAt x.writer.types.now x.writer.merged s z n) (same-module k j e)
        (subst (λ (l : ℕ). IsModuleAt x.writer.types.now x.writer.merged s k l) (one-some i n (here true e)) is)
    by false e = are j n (here false e)
