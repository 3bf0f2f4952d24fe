-- What the writer of all imports is given.
use Rattle.std.proofs.Common.{ℕ, zero, suc, ◌≡◌, ◌+◌, inl, inr, ◌⊎◌, true, List, [], ◌∷◌, ◌++◌, map, take, Contains, Some, slice_get, refl, ap, sym, ◌∙◌, subst}
use Rattle.std.proofs.lemmas.List.{map-append}
use Rattle.wac_types_shapes.specs.primitives.Name.{Name}
use Rattle.wac_types_shapes.proofs.lemmas.shapes.Names.{taken}
use Rattle.wac_types_shapes.specs.shapes.Kinds.{kind_type}
use Rattle.wac_types_shapes.specs.declared.shapes.component.ItemKind.{ItemKind}
use Rattle.wac_types_shapes.specs.declared.shapes.component.«Type».{«Type» as AnyType}
use Rattle.wac_types_collection.specs.collection.Collection.{Collection, holds_type}
use Rattle.wac_types_collection.proofs.lemmas.wide.Members.{at_in, in_none, in_parts}
use Rattle.wac_merge_classes.specs.entries.Bindings.{AreHeld}
use Rattle.wac_merge_classes.specs.entries.Classes.{Entry}
use Rattle.wac_merge_classes.specs.terms.Merge.{Merged, import_entries}
use Rattle.wac_merge_classes.proofs.lemmas.terms.Found.{get_map}
use Rattle.wac_encode_faults.specs.Faults as faults
use Rattle.wac_encode_interfaces.specs.private.Ready.{IsClean}
use Rattle.wac_encode_interfaces.specs.private.Worlds.{Worlds, HaveWorlds}
use Rattle.wac_encode_imports.specs.private.Imports.{HasNoImportFault}
use Rattle.wac_encode_imports.specs.private.Written.{AreCleanImports, HaveImportWorlds}
use Rattle.wac_encode_imports.proofs.Bound.{no-some, one-some}
use Rattle.wac_encode_imports.proofs.Steps.{entry-there}

-- The imports as entries, and their types, one by one.

mapped-more : {A B : Type 0} (f : A → B) (es : List A) (i : ℕ) (x : A) (y : B) (old new : List B) → slice_get es i ≡ Some x → y ≡ f x → new ≡ old ++ y ∷ [] → old ≡ map f (take i es) → new ≡ map f (take (i + 1) es)
mapped-more f es i x y old new at is added before =
    added
    ∙ (λ j. before j ++ is j ∷ [])
    ∙ sym (map-append f (take i es) (x ∷ []))
    ∙ ap (map f) (taken es i x at)

pub entries-more : (es : List (Name × ItemKind)) (i : ℕ) (x : Name × ItemKind) (y : Entry) (old new : List Entry) → slice_get es i ≡ Some x → y ≡ record { name = x.0; kind = x.1 } → new ≡ old ++ y ∷ [] → old ≡ import_entries (take i es) → new ≡ import_entries (take (i + 1) es)
entries-more es i x y old new at is added before = mapped-more (λ (e : Name × ItemKind). let z : Entry = record { name = e.0; kind = e.1 } in z) es i x y old new at is added before

pub types-more : (es : List (Name × ItemKind)) (i : ℕ) (x : Name × ItemKind) (y : AnyType) (old new : List AnyType) → slice_get es i ≡ Some x → y ≡ kind_type x.1 → new ≡ old ++ y ∷ [] → old ≡ map (λ e. kind_type e.1) (take i es) → new ≡ map (λ e. kind_type e.1) (take (i + 1) es)
types-more es i x y old new at is added before = mapped-more (λ (e : Name × ItemKind). kind_type e.1) es i x y old new at is added before

-- A type of the imports is that of one of them.
type-of : (es : List (Name × ItemKind)) (t : AnyType) → Contains (map (λ e. kind_type e.1) es) t → (i : ℕ) × (e : Name × ItemKind) × (slice_get es i ≡ Some e) × (t ≡ kind_type e.1)
type-of [] t h = absurd (in_none t h)
type-of (e ∷ es) t h = elim (in_parts (kind_type e.1) t (map (λ e. kind_type e.1) es) h) [
  | inl same ↦ (0, e, refl, same)
  | inr more ↦ let w = type-of es t more in (suc w.0, w.1, w.2, w.3)
]

-- Each type of an import is among the types.
type-in : (es : List (Name × ItemKind)) (i : ℕ) (e : Name × ItemKind) → slice_get es i ≡ Some e → Contains (map (λ e. kind_type e.1) es) (kind_type e.1)
type-in es i e at = at_in (map (λ e. kind_type e.1) es) i (kind_type e.1) (get_map (λ (e : Name × ItemKind). kind_type e.1) es i e at)

entry-of : (es : List (Name × ItemKind)) (i : ℕ) (x : Entry) → slice_get (import_entries es) i ≡ Some x → (e : Name × ItemKind) × (slice_get es i ≡ Some e) × (record { name = e.0; kind = e.1 } ≡ x)
entry-of [] i x at = no-some x at
entry-of (e ∷ es) zero x at = (e, refl, one-some (record { name = e.0; kind = e.1 }) x at)
entry-of (e ∷ es) (suc i) x at = entry-of es i x at

module _ (c : Collection) (es : List (Name × ItemKind)) (ts : List AnyType) (is : ts ≡ map (λ e. kind_type e.1) es) where
  pub held-types : AreHeld c (import_entries es) → (t : AnyType) → Contains ts t → holds_type c t ≡ true
  held-types held t h =
      let w = type-of es t (subst (λ xs. Contains xs t) is h) in
      ap (holds_type c) w.3 ∙ held w.0 (record { name = w.1.0; kind = w.1.1 }) (entry-there es w.0 w.1 w.2)

  pub clean-types : AreCleanImports c (import_entries es) → (t : AnyType) → Contains ts t → IsClean c t
  clean-types clean t h =
      let w = type-of es t (subst (λ xs. Contains xs t) is h) in
      subst (IsClean c) (sym w.3) (clean w.0 (record { name = w.1.0; kind = w.1.1 }) (entry-there es w.0 w.1 w.2))

  -- each import's worlds are there
  pub worlds-of : (ws : Worlds) → ((t : AnyType) → Contains ts t → HaveWorlds c ws t) → HaveImportWorlds c ws (import_entries es)
  worlds-of ws have p e at =
      let w = entry-of es p e at in
      subst (HaveWorlds c ws) (ap (λ (x : Entry). kind_type x.kind) w.2) (have (kind_type w.0.1) (subst (λ xs. Contains xs (kind_type w.0.1)) (sym is) (type-in es p w.0 w.1)))

pub clean-imports : (m : Merged) → HasNoImportFault m → AreCleanImports m.types m.imports
clean-imports m clean p e at f inner = clean p e f at (faults.inside f inner)
