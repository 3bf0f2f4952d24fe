-- A merge gives one id to what two imports of one function type became, and one to two imports of a plain interface alone.
use Rattle.std.proofs.Common.{◌≡◌, ◌<◌, ℕ, zero, suc, List, [], ◌∷◌, length, Some, refl, ap, sym, ◌∙◌, subst, arith, codes}
use Rattle.std.specs.Prelude.{Contains, slice_get}
use Rattle.semver.specs.Parse.{digits_from, scan}
use Rattle.wac_names.specs.Text.{after, before, has}
use Rattle.wac_names.specs.Track.{parts_piece, series}
use Rattle.wac_names.specs.Reading.{is_interface_name, is_label, is_lower_label, is_package, read_track, read_version, version_piece}
use Rattle.wac_types_shapes.specs.primitives.Name.{Name}
use Rattle.wac_types_shapes.specs.declared.shapes.component.FuncType.{FuncType}
use Rattle.wac_types_shapes.specs.declared.shapes.component.FuncTypeId.{FuncTypeId}
use Rattle.wac_types_shapes.specs.declared.shapes.component.InterfaceId.{InterfaceId}
use Rattle.wac_types_shapes.specs.declared.shapes.component.ItemKind.{ItemKind}
use Rattle.wac_types_shapes.specs.declared.shapes.component.ItemKind.TheVariants as kind
use Rattle.wac_types_shapes.specs.declared.shapes.component.UsedType.{UsedType}
use Rattle.wac_types_collection.specs.declared.collection.collection.Held.{Held}
use Rattle.wac_types_collection.specs.collection.Collection.{Collection}
use Rattle.wac_merge_classes.specs.entries.Classes.{Entry, by_names, class_names}
use Rattle.wac_merge_classes.specs.terms.Merge.{Merged}
use Rattle.wac_merge_unions.specs.uses.Using.{IsKindUsing}
use Rattle.wac_merge_imports.specs.unions.OneId.{FuncBecame, under_name, of_entry, func_of, HasOneIdEach}
use Rattle.wac_merge_imports.specs.unions.OneInterface.{IsAlone}
use Rattle.wac_merge_agreement.proofs.lemmas.agreement.OrderLaws.{order_each}
use Rattle.wac_merge_tests.proofs.lemmas.examples.Apart.{no_entry, one_entry, two_numbers}
use Rattle.wac_merge_tests.proofs.lemmas.examples.PlainInterfaces.{no_parameters, plain, asked, interface_id, instance, merge_of, in_order, first_class, second_class, first_alone, second_alone, function_is_plain, number_of}

-- ---- two of two

two_long : {A : Type 0} (xs : List A) → length xs ≡ 2 → (x : A) × (y : A) × (xs ≡ x ∷ y ∷ [])
two_long [] long = absurd (two_numbers 0 2 refl long)
two_long (x ∷ []) long = absurd (two_numbers 1 2 refl long)
two_long (x ∷ y ∷ []) long = (x, y, refl)
two_long (x ∷ y ∷ z ∷ xs) long = absurd (omega (arith, long))

-- ---- the function type `f()` is asked for as `a` and as `b`

abbrev pub func_id : ℕ → FuncTypeId
func_id f = record { 0 = f }

abbrev pub function : Name → ℕ → Entry
function n f = record { name = n; kind = kind.Func (func_id f) }

abbrev pub functions : List (Held FuncType) → Collection
functions fs = record { resources = []; funcs = fs; defined = []; interfaces = []; worlds = []; modules = [] }

abbrev pub held_function : ℕ → Held FuncType
held_function n = record { item = no_parameters; before = n }

abbrev pub asked_functions : List Entry
asked_functions = function (codes "a") 0 ∷ function (codes "b") 0 ∷ []

abbrev pub one_function : Collection
one_function = functions (held_function 0 ∷ [])

-- the merge has function types behind it, of which imports are these
abbrev pub function_merge : ℕ → ℕ → Merged
function_merge f g = record { types = functions (held_function 0 ∷ held_function 1 ∷ held_function 2 ∷ []); imports = function (codes "a") f ∷ function (codes "b") g ∷ [] }

-- ---- one id

-- two imports of one id: whatever the function type became has that
pub one_id_of_function : (f g h : FuncTypeId) → FuncBecame one_function (function_merge 1 1).types asked_functions (function_merge 1 1).imports [] [] in_order in_order f g
    → FuncBecame one_function (function_merge 1 1).types asked_functions (function_merge 1 1).imports [] [] in_order in_order f h → g ≡ h
one_id_of_function f g h a b = is_one f g a ∙ sym (is_one f h b) where
  of_import : (p : ℕ) (x : Entry) → slice_get (function_merge 1 1).imports p ≡ Some x → func_of x.kind ≡ Some (func_id 1)
  of_import zero x at = ap (λ (e : Entry). func_of e.kind) (sym (one_entry (function (codes "a") 1) x at))
  of_import (suc zero) x at = ap (λ (e : Entry). func_of e.kind) (sym (one_entry (function (codes "b") 1) x at))
  of_import (suc (suc p)) x at = absurd (no_entry x at)

  is_one : (f g : FuncTypeId) → FuncBecame one_function (function_merge 1 1).types asked_functions (function_merge 1 1).imports [] [] in_order in_order f g → g ≡ func_id 1
  is_one f g (under_name _ _ u i x y it e k at rest there found item is now) = absurd (no_entry x at)
  is_one f g (of_entry _ _ p k q e x at placed there imported is now) = one_entry g (func_id 1) (sym now ∙ of_import p x imported)

-- ---- two ids

pub two_classes : length (class_names by_names asked_functions) ≡ 2
unfolding read_track read_version is_interface_name parts_piece version_piece series has before after is_label is_lower_label is_package digits_from scan
two_classes = refl

first_of_two : slice_get (class_names by_names asked_functions) 0 ≡ Some (codes "a")
unfolding read_track read_version is_interface_name parts_piece version_piece series has before after is_label is_lower_label is_package digits_from scan
first_of_two = refl

second_of_two : slice_get (class_names by_names asked_functions) 1 ≡ Some (codes "b")
unfolding read_track read_version is_interface_name parts_piece version_piece series has before after is_label is_lower_label is_package digits_from scan
second_of_two = refl

-- each entry is the function
asked_is : (q : ℕ) (e : Entry) → slice_get asked_functions q ≡ Some e → func_of e.kind ≡ Some (func_id 0)
asked_is zero e at = ap (λ (x : Entry). func_of x.kind) (sym (one_entry (function (codes "a") 0) e at))
asked_is (suc zero) e at = ap (λ (x : Entry). func_of x.kind) (sym (one_entry (function (codes "b") 0) e at))
asked_is (suc (suc q)) e at = absurd (no_entry e at)

-- an import that is a function was it before uses were added
was_function : (c m : Collection) (uses : List InterfaceId → List (Name × ItemKind) → List (Name × UsedType)) (is : List InterfaceId) (k : ItemKind) (g : FuncTypeId) → IsKindUsing c m uses is k (kind.Func g) → func_of k ≡ Some g
was_function c m uses is (kind.Func f) g h = ap func_of (sym h)
was_function c m uses is (kind.Instance i) g h = let never : kind.Func g ≡ kind.Instance i = h in cc
was_function c m uses is (kind.TypeItem t) g h = ap func_of (sym h)
was_function c m uses is (kind.Component w) g h = ap func_of (sym h)
was_function c m uses is (kind.Module w) g h = ap func_of (sym h)
was_function c m uses is (kind.Value w) g h = ap func_of (sym h)

module _ (h : HasOneIdEach one_function asked_functions (function_merge 1 2)) where
  bare_long : length h.bare ≡ 2
  bare_long = sym h.using.counted

  order_is : (k : ℕ) × (l : ℕ) × (h.order ≡ k ∷ l ∷ [])
  order_is = two_long h.order (sym h.written.imported.counted ∙ bare_long)

  positions_are : (p : ℕ) × (q : ℕ) × (h.positions ≡ p ∷ q ∷ [])
  positions_are = two_long h.positions (h.classes.positioned ∙ two_classes)

  bare_is : (x : Entry) × (y : Entry) × (h.bare ≡ x ∷ y ∷ [])
  bare_is = two_long h.bare bare_long

  -- an entry stands at the position of each class
  at_class : (k : ℕ) → k < 2 → (q : ℕ) × (e : Entry) × (slice_get h.positions k ≡ Some q) × (slice_get asked_functions q ≡ Some e)
  at_class zero less =
      let there : slice_get h.positions 0 ≡ Some positions_are.0 = ap (λ (ps : List ℕ). slice_get ps 0) positions_are.2 in
      let e = h.classes.greatest 0 positions_are.0 (codes "a") first_of_two there in
      (positions_are.0, e.0, there, e.1)
  at_class (suc zero) less =
      let there : slice_get h.positions 1 ≡ Some positions_are.1 = ap (λ (ps : List ℕ). slice_get ps 1) positions_are.2 in
      let e = h.classes.greatest 1 positions_are.1 (codes "b") second_of_two there in
      (positions_are.1, e.0, there, e.1)
  at_class (suc (suc k)) less = absurd (omega (arith, less))

  became : (p k g : ℕ) (x : Entry) → slice_get h.order p ≡ Some k → Contains h.order k → slice_get h.bare p ≡ Some x → func_of x.kind ≡ Some (func_id g)
      → FuncBecame one_function (function_merge 1 2).types asked_functions h.bare h.us h.written.ws h.positions h.order (func_id 0) (func_id g)
  became p k g x at has there is =
      let less : k < 2 = subst (λ (n : ℕ). k < n) two_classes ((order_each by_names asked_functions one_function h.order h.ordered k).0 has) in
      let e = at_class k less in
      of_entry (func_id 0) (func_id g) p k e.0 e.1 x at e.2 e.3 there (asked_is e.0 e.1 e.3) is

  -- the imports of one function type are not two
  pub not_two_ids_of_function : ⊥
  not_two_ids_of_function =
      let first_at : slice_get h.order 0 ≡ Some order_is.0 = ap (λ (ks : List ℕ). slice_get ks 0) order_is.2 in
      let second_at : slice_get h.order 1 ≡ Some order_is.1 = ap (λ (ks : List ℕ). slice_get ks 1) order_is.2 in
      let first_bare : slice_get h.bare 0 ≡ Some bare_is.0 = ap (λ (xs : List Entry). slice_get xs 0) bare_is.2 in
      let second_bare : slice_get h.bare 1 ≡ Some bare_is.1 = ap (λ (xs : List Entry). slice_get xs 1) bare_is.2 in
      let first = became 0 order_is.0 1 bare_is.0 first_at (subst (λ (ks : List ℕ). Contains ks order_is.0) (sym order_is.2) (0, omega arith, refl)) first_bare (was_function _ _ _ _ _ _ (h.using.kinds 0 bare_is.0 (function (codes "a") 1) first_bare refl)) in
      let second = became 1 order_is.1 2 bare_is.1 second_at (subst (λ (ks : List ℕ). Contains ks order_is.1) (sym order_is.2) (1, omega arith, refl)) second_bare (was_function _ _ _ _ _ _ (h.using.kinds 1 bare_is.1 (function (codes "b") 2) second_bare refl)) in
      two_numbers 1 2 refl (ap (λ (f : FuncTypeId). f.0) (h.one_func (func_id 0) (func_id 1) (func_id 2) no_parameters first second refl refl))

-- ---- and of a plain interface

two_interface_classes : length (class_names by_names asked) ≡ 2
unfolding read_track read_version is_interface_name parts_piece version_piece series has before after is_label is_lower_label is_package digits_from scan
two_interface_classes = refl

-- each class is that interface alone
alone_at : (k : ℕ) → k < 2 → (a : Name) × (slice_get (class_names by_names asked) k ≡ Some a) × IsAlone plain asked a (interface_id 0)
alone_at zero less = (codes "a", first_class, first_alone)
alone_at (suc zero) less = (codes "b", second_class, second_alone)
alone_at (suc (suc k)) less = absurd (omega (arith, less))

module _ (h : HasOneIdEach plain asked (merge_of plain 1 2)) where
  interface_order : (k : ℕ) × (l : ℕ) × (h.order ≡ k ∷ l ∷ [])
  interface_order = two_long h.order (sym h.written.imported.counted ∙ sym h.using.counted)

  -- one import of it is not another than the other
  pub not_two_ids_of_interface : ⊥
  not_two_ids_of_interface =
      let first_at : slice_get h.order 0 ≡ Some interface_order.0 = ap (λ (ks : List ℕ). slice_get ks 0) interface_order.2 in
      let second_at : slice_get h.order 1 ≡ Some interface_order.1 = ap (λ (ks : List ℕ). slice_get ks 1) interface_order.2 in
      let first = alone_at interface_order.0 (subst (λ (n : ℕ). interface_order.0 < n) two_interface_classes ((order_each by_names asked plain h.order h.ordered interface_order.0).0 (subst (λ (ks : List ℕ). Contains ks interface_order.0) (sym interface_order.2) (0, omega arith, refl)))) in
      let second = alone_at interface_order.1 (subst (λ (n : ℕ). interface_order.1 < n) two_interface_classes ((order_each by_names asked plain h.order h.ordered interface_order.1).0 (subst (λ (ks : List ℕ). Contains ks interface_order.1) (sym interface_order.2) (1, omega arith, refl)))) in
      two_numbers 1 2 refl (ap number_of (h.one_interface 0 1 interface_order.0 interface_order.1 first.0 second.0 (instance (codes "a") 1) (instance (codes "b") 2) (interface_id 0) first_at first.1 refl second_at second.1 refl function_is_plain first.2 second.2))
