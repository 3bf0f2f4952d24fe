-- A union exports each name once.
use Rattle.std.proofs.Common.{◌≡◌, ℕ, zero, suc, Bool, true, false, if◌then◌else◌, List, [], ◌∷◌, ◌++◌, map, slice_get, Some, refl, sym, ap, ◌∙◌, subst}
use Rattle.std.specs.List.{list_any}
use Rattle.std.proofs.lemmas.Bool.{or_from, or_parts}
use Rattle.wac_types_shapes.specs.primitives.Name.{Name, find_name, same_name}
use Rattle.wac_types_shapes.specs.declared.shapes.component.InterfaceId.{InterfaceId}
use Rattle.wac_types_shapes.specs.declared.shapes.component.ItemKind.{ItemKind}
use Rattle.wac_types_shapes.proofs.lemmas.shapes.Names.{same_name-refl, same_name-sym}
use Rattle.wac_types_collection.specs.collection.Collection.{Collection}
use Rattle.wac_merge_classes.specs.declared.terms.parts.Export.{Export}
use Rattle.wac_merge_classes.specs.declared.terms.parts.Part.{Part}
use Rattle.wac_merge_classes.specs.declared.terms.parts.Union.{Union}
use Rattle.wac_merge_classes.specs.terms.Merge.{names_behind, with_names}
use Rattle.wac_merge_classes.specs.terms.Unions.{AreUnions, part_lists}
use Rattle.wac_merge_classes.proofs.lemmas.entries.Lists.{none-at}
use Rattle.wac_merge_classes.proofs.lemmas.terms.Found.{get_map, no_some, some_same}

-- no name stands twice
abbrev pub AreOnce : List Name → Type 0
AreOnce [] = Unit {0}
AreOnce (n ∷ ns) = (list_any (same_name n) ns ≡ false) × AreOnce ns

none_pushed : (n e : Name) (ns : List Name) → list_any (same_name n) ns ≡ false → same_name n e ≡ false → list_any (same_name n) (ns ++ e ∷ []) ≡ false
none_pushed n e [] none apart = or_from (same_name n e) false apart refl
none_pushed n e (x ∷ ns) none apart =
    let p = or_parts (same_name n x) (list_any (same_name n) ns) none in
    or_from (same_name n x) (list_any (same_name n) (ns ++ e ∷ [])) p.0 (none_pushed n e ns p.1 apart)

once_pushed : (ns : List Name) (e : Name) → AreOnce ns → list_any (same_name e) ns ≡ false → AreOnce (ns ++ e ∷ [])
once_pushed [] e once none = (refl, tt)
once_pushed (n ∷ ns) e once none =
    let p = or_parts (same_name e n) (list_any (same_name e) ns) none in
    (none_pushed n e ns once.0 (same_name-sym e n p.0), once_pushed ns e once.1 p.1)

once_with : (ns : List Name) (es : List (Name × ItemKind)) → AreOnce ns → AreOnce (with_names ns es)
once_with ns [] once = once
once_with ns (e ∷ es) once = once_with (if list_any (same_name e.0) ns then ns else ns ++ e.0 ∷ []) es (by (list_any (same_name e.0) ns) refl) where
  by : (b : Bool) → list_any (same_name e.0) ns ≡ b → AreOnce (if b then ns else ns ++ e.0 ∷ [])
  by true there = once
  by false none = once_pushed ns e.0 once none

pub once_behind : (ns : List Name) (ls : List (List (Name × ItemKind))) → AreOnce ns → AreOnce (names_behind ns ls)
once_behind ns [] once = once
once_behind ns (es ∷ rest) once = once_behind (with_names ns es) rest (once_with ns es once)

found : {A : Type 0} (es : List (Name × A)) (i : ℕ) (n : Name) (x : A) → AreOnce (map (λ e. e.0) es) → slice_get es i ≡ Some (n, x) → find_name es n ≡ Some x
found [] i n x once at = absurd (no_some (n, x) at)
found (y ∷ es) zero n x once at =
    let same : y ≡ (n, x) = some_same y (n, x) at in
    ap (λ (z : Name × _). find_name (z ∷ es) n) same ∙ ap (λ b. if b then Some x else find_name es n) (same_name-refl n)
found (y ∷ es) (suc i) n x once at =
    let apart = none-at (same_name y.0) (map (λ e. e.0) es) i n once.0 (get_map (λ e. e.0) es i (n, x) at) in
    ap (λ b. if b then Some y.1 else find_name es n) (same_name-sym y.0 n apart) ∙ found es i n x once.1 at

-- what stands among the exports is found under its name
pub export_found : (c : Collection) (roots : List (List InterfaceId)) (us : List Union) (ps : List Part) → AreUnions c roots us ps → (u : ℕ) (x : Union) → slice_get us u ≡ Some x
    → (i : ℕ) (n : Name) (e : Export) → slice_get x.exports i ≡ Some (n, e) → find_name x.exports n ≡ Some e
export_found c roots us ps are u x at i n e there = found x.exports i n e (subst AreOnce (sym (are.ordered u x at)) (once_behind [] (map (part_lists c ps) x.parts.items) tt)) there
