-- A worked example: what the imports of a merge use, and what they may not.
use Rattle.std.proofs.Common.{◌≡◌, ◌<◌, ℕ, zero, suc, Bool, not, true, false, List, [], ◌∷◌, take, slice_get, Option, Some, None, codes, refl, sym, ap, ◌∙◌, subst, arith}
use Rattle.std.specs.List.{list_all}
use Rattle.std.proofs.lemmas.Bool.{and_parts, false≢true}
use Rattle.semver.specs.Parse.{digits_from, scan}
use Rattle.wac_names.specs.Text.{after, before, has}
use Rattle.wac_names.specs.Track.{parts_piece, series}
use Rattle.wac_names.specs.Reading.{is_interface_name, is_label, is_lower_label, is_package, read_track, read_version, version_piece}
use Rattle.wac_types_shapes.specs.primitives.Name.{Name, find_name, option_case, same_name}
use Rattle.wac_types_shapes.specs.declared.shapes.component.Interface.{Interface}
use Rattle.wac_types_shapes.specs.declared.shapes.component.InterfaceId.{InterfaceId}
use Rattle.wac_types_shapes.specs.declared.shapes.component.ItemKind.{ItemKind}
use Rattle.wac_types_shapes.specs.declared.shapes.component.ItemKind.TheVariants as kind
use Rattle.wac_types_shapes.specs.declared.primitives.component.PrimitiveType.TheVariants as primitive
use Rattle.wac_types_shapes.specs.declared.shapes.component.UsedType.{UsedType}
use Rattle.wac_types_shapes.specs.declared.shapes.component.ValueType.TheVariants as val
use Rattle.wac_types_shapes.specs.declared.shapes.component.«Type».TheVariants as ty
use Rattle.wac_types_collection.specs.collection.Collection.{Collection, item_at}
use Rattle.wac_types_collection.specs.declared.collection.collection.Held.{Held}
use Rattle.wac_merge_classes.specs.entries.Classes.{Entry, by_names, is_instance, members}
use Rattle.wac_merge_classes.specs.terms.Merge.{Merged}
use Rattle.wac_merge_classes.proofs.lemmas.terms.Found.{find_at, no_some, some_same}
use Rattle.wac_merge_unions.specs.uses.KeptUses.{AreKept, IsFirstKept, KeepsUses, as_import, inside, instances, uses_of}
use Rattle.wac_merge_unions.specs.uses.Using.{kept_uses}
use Rattle.wac_merge_unions.proofs.lemmas.uses.FirstKept.{kept-first}

-- a type item, a byte
abbrev byte_type : Name → Name × ItemKind
byte_type n = (n, kind.TypeItem (ty.Value (val.Primitive primitive.U8)))

-- a type of an interface, by its name there
abbrev used : ℕ → Option Name → UsedType
used i there = record { interface = record { 0 = i }; name = there }

abbrev interface_of : Name → List (Name × UsedType) → List (Name × ItemKind) → ℕ → Held Interface
interface_of id uses exports before = record { item = record { id = Some id; uses = uses; exports = exports }; before = before }

abbrev t_and_u : List (Name × ItemKind)
t_and_u = byte_type (codes "t") ∷ byte_type (codes "u") ∷ []

-- the first interface lists the type `t`
abbrev first_interface : ℕ → Held Interface
first_interface = interface_of (codes "a:b/a") [] (byte_type (codes "t") ∷ [])

-- the second uses types, which it lists as `t` and `u`
abbrev second_interface : List (Name × UsedType) → ℕ → Held Interface
second_interface uses = interface_of (codes "a:b/b") uses t_and_u

-- the type `t` of the interface with a number, under its name and as `u`
abbrev both : ℕ → List (Name × UsedType)
both i = (codes "t", used i None) ∷ (codes "u", used i (Some (codes "t"))) ∷ []

abbrev asked_of : List (Held Interface) → Collection
asked_of is = record { resources = []; funcs = []; defined = []; modules = []; interfaces = is; worlds = [] }

-- the second uses both of the first
abbrev types : Collection
types = asked_of (first_interface 0 ∷ second_interface (both 0) 1 ∷ [])

abbrev instance : Name → ℕ → Entry
instance n i = record { name = n; kind = kind.Instance (record { 0 = i }) }

-- instances of both are asked for
abbrev asked : List Entry
asked = instance (codes "a:b/a") 0 ∷ instance (codes "a:b/b") 1 ∷ []

-- they are imported as two more interfaces, the second of which uses these
abbrev merge_using : List (Name × UsedType) → Merged
merge_using uses = record {
  types = asked_of (first_interface 0 ∷ second_interface (both 0) 1 ∷ first_interface 2 ∷ second_interface uses 3 ∷ []);
  imports = instance (codes "a:b/a") 2 ∷ instance (codes "a:b/b") 3 ∷ [];
}

-- an import uses what is kept one after another
abbrev UsesKept : ℕ → Entry → Interface → Type 0
UsesKept p e it = it.uses ≡ kept_uses by_names types asked (merge_using (both 2)).types (take p (merge_using (both 2)).imports) it.exports (uses_of types (instances (members by_names asked e.name)))

first_uses : UsesKept 0 (instance (codes "a:b/a") 2) (first_interface 2).item
unfolding read_track read_version is_interface_name parts_piece version_piece series has before after is_label is_lower_label is_package digits_from scan
first_uses = refl

second_uses : UsesKept 1 (instance (codes "a:b/b") 3) (second_interface (both 2) 3).item
unfolding read_track read_version is_interface_name parts_piece version_piece series has before after is_label is_lower_label is_package digits_from scan
second_uses = refl

-- no interface lists an instance
no_instance : (i : ℕ) (it : Interface) (n : Name) (v : InterfaceId) → item_at (merge_using (both 2)).types.interfaces i ≡ Some it → find_name it.exports n ≡ Some (kind.Instance v) → ⊥
no_instance i it n v at found = of_item i it at found where
  in_list : (es : List (Name × ItemKind)) → list_all (λ e. not (is_instance e.1)) es ≡ true → find_name es n ≡ Some (kind.Instance v) → ⊥
  in_list es plain found =
      let w = find_at es n (kind.Instance v) found in
      false≢true (all_pass es w.0 (n, kind.Instance v) plain w.1)
    where
      all_pass : (es : List (Name × ItemKind)) (j : ℕ) (e : Name × ItemKind) → list_all (λ e. not (is_instance e.1)) es ≡ true → slice_get es j ≡ Some e → not (is_instance e.1) ≡ true
      all_pass [] j e all at = absurd (no_some e at)
      all_pass (x ∷ es) zero e all at = subst (λ (y : Name × ItemKind). not (is_instance y.1) ≡ true) (some_same x e at) (and_parts (not (is_instance x.1)) (list_all (λ e. not (is_instance e.1)) es) all).0
      all_pass (x ∷ es) (suc j) e all at = all_pass es j e (and_parts (not (is_instance x.1)) (list_all (λ e. not (is_instance e.1)) es) all).1 at

  listed : (here it : Interface) → list_all (λ e. not (is_instance e.1)) here.exports ≡ true → Some here ≡ Some it → find_name it.exports n ≡ Some (kind.Instance v) → ⊥
  listed here it plain same found = in_list here.exports plain (ap (λ (x : Interface). find_name x.exports n) (some_same here it same) ∙ found)

  of_item : (i : ℕ) (it : Interface) → item_at (merge_using (both 2)).types.interfaces i ≡ Some it → find_name it.exports n ≡ Some (kind.Instance v) → ⊥
  of_item zero it at found = listed (first_interface 0).item it refl at found
  of_item (suc zero) it at found = listed (second_interface (both 0) 1).item it refl at found
  of_item (suc (suc zero)) it at found = listed (first_interface 2).item it refl at found
  of_item (suc (suc (suc zero))) it at found = listed (second_interface (both 2) 3).item it refl at found
  of_item (suc (suc (suc (suc i)))) it at found = no_some it at

import_kept : (p : ℕ) (e : Entry) (i : InterfaceId) (it : Interface) → slice_get (merge_using (both 2)).imports p ≡ Some e → e.kind ≡ kind.Instance i → item_at (merge_using (both 2)).types.interfaces i.0 ≡ Some it
    → AreKept by_names types asked (merge_using (both 2)).types (take p (merge_using (both 2)).imports) it.exports (uses_of types (instances (members by_names asked e.name))) it.uses
import_kept p e i it at is there =
    let m = merge_using (both 2) in
    let us = uses_of types (instances (members by_names asked e.name)) in
    subst (AreKept by_names types asked m.types (take p m.imports) it.exports us) (sym (same p at)) (kept-first by_names types asked m.types (take p m.imports) it.exports us) where
      interface_id : ItemKind → InterfaceId
      interface_id (kind.Instance i) = i
      interface_id k = record { 0 = 0 }

      that : (p : ℕ) (at_p : Entry) (here : Interface) → at_p ≡ e → item_at (merge_using (both 2)).types.interfaces (interface_id at_p.kind).0 ≡ Some here → UsesKept p at_p here → UsesKept p e it
      that p at_p here entry held same =
          let id : interface_id at_p.kind ≡ i = ap (λ (x : Entry). interface_id x.kind) entry ∙ ap interface_id is in
          let found : here ≡ it = some_same here it (sym held ∙ (ap (λ (x : InterfaceId). item_at (merge_using (both 2)).types.interfaces x.0) id ∙ there)) in
          subst (λ (x : Entry). UsesKept p x it) entry (subst (UsesKept p at_p) found same)

      same : (p : ℕ) → slice_get (merge_using (both 2)).imports p ≡ Some e → UsesKept p e it
      same zero at = that 0 (instance (codes "a:b/a") 2) (first_interface 2).item (some_same (instance (codes "a:b/a") 2) e at) refl first_uses
      same (suc zero) at = that 1 (instance (codes "a:b/b") 3) (second_interface (both 2) 3).item (some_same (instance (codes "a:b/b") 3) e at) refl second_uses
      same (suc (suc p)) at = absurd (no_some e at)

-- both uses are kept, of what the first interface is imported as
pub are_kept : KeepsUses by_names types asked (merge_using (both 2))
are_kept p w is it (as_import e _ at is_kind) there = import_kept p e w it at is_kind there
are_kept p w is it (inside v _ js around n stands at found) there = absurd (no_instance v.0 around n w at found)

-- a use under this name
abbrev has_name : Name → Option (Name × UsedType) → Bool
has_name n o = option_case o false (λ e. same_name e.0 n)

module _ (uses : List (Name × UsedType)) (keeps : KeepsUses by_names types asked (merge_using uses)) where
  abbrev IsFirst : ℕ → Name → UsedType → Type 0
  IsFirst = IsFirstKept by_names types asked (merge_using uses).types (take 1 (merge_using uses).imports) t_and_u (both 0)

  second : AreKept by_names types asked (merge_using uses).types (take 1 (merge_using uses).imports) t_and_u (both 0) uses
  unfolding read_track read_version is_interface_name parts_piece version_piece series has before after is_label is_lower_label is_package digits_from scan
  second = keeps 1 (record { 0 = 3 }) _ (second_interface uses 3).item (as_import (instance (codes "a:b/b") 3) (record { 0 = 3 }) refl refl) refl

  t_is : IsFirst 0 (codes "t") (used 2 None)
  unfolding read_track read_version is_interface_name parts_piece version_piece series has before after is_label is_lower_label is_package digits_from scan
  t_is = record {
    use_there = used 0 None;
    at = refl;
    kept = record { before = refl; named = refl; own = refl; identified = refl; there = refl; alike = refl };
    first = λ j u less at. absurd (omega (arith, less));
  }

  u_is : IsFirst 1 (codes "u") (used 2 (Some (codes "t")))
  unfolding read_track read_version is_interface_name parts_piece version_piece series has before after is_label is_lower_label is_package digits_from scan
  u_is = record {
    use_there = used 0 (Some (codes "t"));
    at = refl;
    kept = record { before = refl; named = refl; own = refl; identified = refl; there = refl; alike = refl };
    first = λ j u less at. absurd (other j u less at);
  } where
    other : (j : ℕ) (u : UsedType) → j < 1 → slice_get (both 0) j ≡ Some (codes "u", u) → ⊥
    other zero u less at = false≢true (ap (has_name (codes "u")) at)
    other (suc j) u less at = omega (arith, less)

  t_stands : (p : ℕ) × (slice_get uses p ≡ Some (codes "t", used 2 None))
  t_stands = (second.each (codes "t") (used 2 None)).1 (0, t_is)

  u_stands : (p : ℕ) × (slice_get uses p ≡ Some (codes "u", used 2 (Some (codes "t"))))
  u_stands = (second.each (codes "u") (used 2 (Some (codes "t")))).1 (1, u_is)

-- the first use alone
abbrev only_t : List (Name × UsedType)
only_t = (codes "t", used 2 None) ∷ []

-- no use may be dropped
pub no_dropped_use : KeepsUses by_names types asked (merge_using only_t) → ⊥
no_dropped_use keeps = let at = u_stands only_t keeps in by at.0 at.1 where
  by : (p : ℕ) → slice_get only_t p ≡ Some (codes "u", used 2 (Some (codes "t"))) → ⊥
  by zero is = false≢true (ap (has_name (codes "u")) is)
  by (suc p) is = no_some (codes "u", used 2 (Some (codes "t"))) is

-- nor all
pub no_uses_dropped : KeepsUses by_names types asked (merge_using []) → ⊥
no_uses_dropped keeps = no_some (codes "t", used 2 None) (t_stands [] keeps).1

-- no use may stay one of the interface that was asked for
pub no_use_as_asked : KeepsUses by_names types asked (merge_using (both 0)) → ⊥
no_use_as_asked keeps = let at = t_stands (both 0) keeps in by at.0 at.1 where
  number : Option (Name × UsedType) → ℕ
  number o = option_case o 0 (λ e. (e.1).interface.0)

  two : (i : ℕ) → i ≡ 0 → i ≡ 2 → ⊥
  two i one other = omega (arith, one, other)

  by : (p : ℕ) → slice_get (both 0) p ≡ Some (codes "t", used 2 None) → ⊥
  by zero is = two 0 refl (ap number is)
  by (suc zero) is = false≢true (ap (has_name (codes "t")) is)
  by (suc (suc p)) is = no_some (codes "t", used 2 None) is

-- both, the second first
abbrev turned : List (Name × UsedType)
turned = (codes "u", used 2 (Some (codes "t"))) ∷ (codes "t", used 2 None) ∷ []

-- nor may they change places
pub no_other_order : KeepsUses by_names types asked (merge_using turned) → ⊥
no_other_order keeps =
    let less : 1 < 0 = (second turned keeps).ordered 0 1 1 0 (codes "u") (codes "t") (used 2 (Some (codes "t"))) (used 2 None) refl refl (u_is turned keeps) (t_is turned keeps) (omega arith) in
    omega (arith, less)
