-- Imports of one interface alone share an id where it is plain, and need not where it lists a resource.
use Rattle.std.proofs.Common.{◌≡◌, ℕ, zero, suc, Bool, true, false, if◌then◌else◌, List, [], ◌∷◌, Some, None, refl, ap, sym, ◌∙◌, subst, codes}
use Rattle.std.specs.Prelude.{slice_get}
use Rattle.semver.specs.Parse.{digits_from, scan}
use Rattle.wac_names.specs.Text.{after, before, has}
use Rattle.wac_names.specs.Track.{parts_piece, series}
use Rattle.wac_names.specs.Reading.{is_interface_name, is_label, is_lower_label, is_package, read_track, read_version, version_piece}
use Rattle.wac_types_shapes.specs.primitives.Name.{Name, find_name, same_name}
use Rattle.wac_types_shapes.specs.declared.shapes.component.FuncType.{FuncType}
use Rattle.wac_types_shapes.specs.declared.shapes.component.Interface.{Interface}
use Rattle.wac_types_shapes.specs.declared.shapes.component.InterfaceId.{InterfaceId}
use Rattle.wac_types_shapes.specs.declared.shapes.component.ItemKind.{ItemKind}
use Rattle.wac_types_shapes.specs.declared.shapes.component.ItemKind.TheVariants as kind
use Rattle.wac_types_shapes.specs.declared.shapes.component.ValueType.{ValueType}
use Rattle.wac_types_shapes.specs.declared.shapes.component.«Type».TheVariants as ty
use Rattle.wac_types_collection.specs.collection.Collection.{Collection, func_values, item_at}
use Rattle.wac_merge_classes.specs.entries.Classes.{Entry, by_names, class_names}
use Rattle.wac_merge_classes.specs.terms.Merge.{Merged}
use Rattle.wac_merge_imports.specs.unions.OneInterface.{HasNoHandle, IsPlainItem, IsPlain, IsAlone, AreOfOneInterface}
use Rattle.wac_merge_tests.proofs.lemmas.examples.Apart.{no_entry, one_entry, two_numbers}

-- ---- an interface that lists the function `f`, and one that lists the resource `r`

abbrev pub interface_id : ℕ → InterfaceId
interface_id i = record { 0 = i }

abbrev pub no_parameters : FuncType
no_parameters = record { params = []; result = None; is_async = false }

abbrev pub interface_of : List (Name × ItemKind) → Interface
interface_of items = record { id = Some (codes "n:p/i"); uses = []; exports = items }

abbrev pub of_interface : Interface → Collection
of_interface it = record {
  resources = record { item = record { name = codes "r"; alias = None }; before = 0 } ∷ [];
  funcs = record { item = no_parameters; before = 1 } ∷ [];
  defined = [];
  interfaces = record { item = it; before = 2 } ∷ [];
  worlds = [];
  modules = [];
}

abbrev pub a_function : Name × ItemKind
a_function = (codes "f", kind.Func (record { 0 = 0 }))

abbrev pub a_resource : Name × ItemKind
a_resource = (codes "r", kind.TypeItem (ty.Resource (record { 0 = 0 })))

abbrev pub plain : Collection
plain = of_interface (interface_of (a_function ∷ []))

abbrev pub not_plain : Collection
not_plain = of_interface (interface_of (a_resource ∷ []))

-- instances of it are imported as `a` and as `b`
abbrev pub instance : Name → ℕ → Entry
instance n i = record { name = n; kind = kind.Instance (interface_id i) }

abbrev pub asked : List Entry
asked = instance (codes "a") 0 ∷ instance (codes "b") 0 ∷ []

-- the merge imports both, as interfaces with these numbers
abbrev pub merge_of : Collection → ℕ → ℕ → Merged
merge_of c i j = record { types = c; imports = instance (codes "a") i ∷ instance (codes "b") j ∷ [] }

-- ---- the classes, of which each is that interface alone

pub first_class : slice_get (class_names by_names asked) 0 ≡ Some (codes "a")
unfolding read_track read_version is_interface_name parts_piece version_piece series has before after is_label is_lower_label is_package digits_from scan
first_class = refl

pub second_class : slice_get (class_names by_names asked) 1 ≡ Some (codes "b")
unfolding read_track read_version is_interface_name parts_piece version_piece series has before after is_label is_lower_label is_package digits_from scan
second_class = refl

pub first_alone : IsAlone plain asked (codes "a") (interface_id 0)
unfolding read_track read_version is_interface_name parts_piece version_piece series has before after is_label is_lower_label is_package digits_from scan
first_alone = record { member = instance (codes "a") 0; only = refl; instance = refl; own = refl }

pub second_alone : IsAlone plain asked (codes "b") (interface_id 0)
unfolding read_track read_version is_interface_name parts_piece version_piece series has before after is_label is_lower_label is_package digits_from scan
second_alone = record { member = instance (codes "b") 0; only = refl; instance = refl; own = refl }

-- a function without parameters is plain, a resource is not
pub function_is_plain : IsPlain plain (interface_id 0)
function_is_plain = record { interface = interface_of (a_function ∷ []); there = refl; unused = refl; items = items } where
  no_values : (x : FuncType) → Some no_parameters ≡ Some x → (i : ℕ) (v : ValueType) → slice_get (func_values x) i ≡ Some v → HasNoHandle plain v
  no_values x at i v value = absurd (no_entry v (ap (λ (y : FuncType). slice_get (func_values y) i) (one_entry no_parameters x at) ∙ value))

  by_name : (b : Bool) (k : ItemKind) → (if b then Some (kind.Func (record { 0 = 0 })) else None) ≡ Some k → IsPlainItem plain k
  by_name true k is = subst (IsPlainItem plain) (one_entry (kind.Func (record { 0 = 0 })) k is) no_values
  by_name false k is = absurd (no_entry k is)

  items : (n : Name) (k : ItemKind) → find_name (a_function ∷ []) n ≡ Some k → IsPlainItem plain k
  items n k is = by_name (same_name n (codes "f")) k is

pub resource_is_not_plain : (i : InterfaceId) → IsPlain not_plain i → ⊥
resource_is_not_plain i h = by_number i.0 h.there where
  by_number : (n : ℕ) → item_at not_plain.interfaces n ≡ Some h.interface → ⊥
  by_number zero at = h.items (codes "r") a_resource.1 (ap (λ (it : Interface). find_name it.exports (codes "r")) (sym (one_entry (interface_of (a_resource ∷ [])) h.interface at)))
  by_number (suc n) at = no_entry h.interface at

-- ---- one id

abbrev pub in_order : List ℕ
in_order = 0 ∷ 1 ∷ []

-- both imports are one interface
pub one_id : AreOfOneInterface plain asked in_order (merge_of plain 1 1)
one_id p q k l a b x y i at_p class_p import_p at_q class_q import_q is_plain alone_a alone_b = kind_is p x import_p ∙ sym (kind_is q y import_q) where
  kind_is : (p : ℕ) (x : Entry) → slice_get (merge_of plain 1 1).imports p ≡ Some x → x.kind ≡ kind.Instance (interface_id 1)
  kind_is zero x at = ap (λ (e : Entry). e.kind) (sym (one_entry (instance (codes "a") 1) x at))
  kind_is (suc zero) x at = ap (λ (e : Entry). e.kind) (sym (one_entry (instance (codes "b") 1) x at))
  kind_is (suc (suc p)) x at = absurd (no_entry x at)

abbrev pub number_of : ItemKind → ℕ
number_of (kind.Instance i) = i.0
number_of k = 0

-- they are not two
pub not_two_ids : AreOfOneInterface plain asked in_order (merge_of plain 1 2) → ⊥
not_two_ids h = two_numbers 1 2 refl (ap number_of (h 0 1 0 1 (codes "a") (codes "b") (instance (codes "a") 1) (instance (codes "b") 2) (interface_id 0) refl first_class refl refl second_class refl function_is_plain first_alone second_alone))

-- of one with a resource they are, since each instance has a resource of its own
pub two_ids_of_resources : AreOfOneInterface not_plain asked in_order (merge_of not_plain 1 2)
two_ids_of_resources p q k l a b x y i at_p class_p import_p at_q class_q import_q is_plain alone_a alone_b = absurd (resource_is_not_plain i is_plain)
