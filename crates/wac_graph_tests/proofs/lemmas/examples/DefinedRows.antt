-- Worked examples: what a definition may refer to.
use Rattle.std.proofs.Common.{◌≡◌, ℕ, false, List, [], ◌∷◌, ◌++◌, Option, Some, None, codes, refl, ap, sym, ◌∙◌, arith, append_assoc}
use Rattle.std.specs.Prelude.{slice_get}
use Rattle.std.proofs.lemmas.List.{append-nil}
use Rattle.wac_names.specs.Track.{whole}
use Rattle.wac_types_shapes.specs.primitives.Name.{Name}
use Rattle.wac_types_shapes.specs.primitives.Tree.{imported, Place, position, named, Tree, own, list_of, enum_of, type_equal}
use Rattle.wac_types_shapes.specs.declared.shapes.component.DefinedType.TheVariants as def
use Rattle.wac_types_shapes.specs.declared.shapes.component.DefinedTypeId.{DefinedTypeId}
use Rattle.wac_types_shapes.specs.declared.shapes.component.InterfaceId.{InterfaceId}
use Rattle.wac_types_shapes.specs.declared.shapes.component.ItemKind.TheVariants as kind
use Rattle.wac_types_shapes.specs.declared.shapes.component.ResourceId.{ResourceId}
use Rattle.wac_types_shapes.specs.declared.shapes.component.«Type».TheVariants as ty
use Rattle.wac_types_shapes.specs.declared.shapes.component.ValueType.TheVariants as val
use Rattle.wac_types_collection.specs.collection.Bound.{Bindings, held_tree, held_item}
use Rattle.wac_types_collection.specs.collection.Collection.{Collection}
use Rattle.wac_merge_classes.specs.entries.Binding.{root_bindings}
use Rattle.wac_merge_classes.specs.entries.Classes.{Entry, NameRules}
use Rattle.wac_binary.specs.Meaning.{Thing, import_at, projection}
use Rattle.wac_encode_faults.specs.Trees.{definition_tree}
use Rattle.wac_graph_model.specs.meaning.Defined.{along, item_along, IsDefined, as_new, as_listed}

-- where a thing begins, and its path
abbrev path_of : Thing → List Name
path_of (projection x n) = path_of x ++ n ∷ []
path_of x = []

abbrev import_of : Thing → Option ℕ
import_of (projection x n) = import_of x
import_of (import_at p) = Some p
import_of x = None

path_along : (x : Thing) (names : List Name) → path_of (along x names) ≡ path_of x ++ names
path_along x [] = sym (append-nil (path_of x))
path_along x (n ∷ names) = path_along (projection x n) names ∙ append_assoc (path_of x) (n ∷ []) names

import_along : (x : Thing) (names : List Name) → import_of (along x names) ≡ import_of x
import_along x [] = refl
import_along x (n ∷ names) = import_along (projection x n) names

one_number : (p q : ℕ) → Some p ≡ Some q → p ≡ q
one_number p q e = cc

one_entry : (x y : Name × Tree) → Some x ≡ Some y → x ≡ y
one_entry x y e = cc

-- ---- an interface with a resource `r` and the type `t = list<own r>`, imported as `primary` and under its id
abbrev the_resource : ResourceId
the_resource = record { 0 = 0 }

abbrev handles : DefinedTypeId
handles = record { 0 = 0 }

abbrev the_interface : InterfaceId
the_interface = record { 0 = 0 }

abbrev types : Collection
types = record {
  resources = record { item = record { name = codes "r"; alias = None }; before = 0 } ∷ [];
  funcs = [];
  defined = record { item = def.List (val.Own the_resource); before = 1 } ∷ [];
  interfaces = record {
    item = record {
      id = Some (codes "n:p/i");
      uses = [];
      exports = (codes "r", kind.TypeItem (ty.Resource the_resource)) ∷ (codes "t", kind.TypeItem (ty.Value (val.Defined handles))) ∷ [];
    };
    before = 2;
  } ∷ [];
  worlds = [];
  modules = [];
}

abbrev entries : List Entry
entries = record { name = codes "primary"; kind = kind.Instance the_interface } ∷ record { name = codes "n:p/i"; kind = kind.Instance the_interface } ∷ []

-- neither name has a version
abbrev rules : NameRules
rules = record { track = λ n. whole n; is_newer = λ a b. false }

abbrev bindings : Bindings
bindings = root_bindings rules types entries (λ k. k)

abbrev instance_at_place : ℕ → Tree
instance_at_place p = held_item types bindings imported (position p ∷ []) (kind.Instance the_interface)

abbrev first : Name × Tree
first = (codes "primary", instance_at_place 0)

abbrev second : Name × Tree
second = (codes "n:p/i", instance_at_place 1)

abbrev imports : List (Name × Tree)
imports = first ∷ second ∷ []

abbrev tree : Tree
tree = definition_tree types bindings (ty.Value (val.Defined handles))

-- the list of a resource of the import at a position
abbrev list_at : ℕ → Tree
list_at p = list_of (own (record { out = 0; side = imported; path = position p ∷ named (codes "r") ∷ [] }))

-- the import under the interface's id binds the resource
pub tree_is : tree ≡ list_at 1
unfolding definition_tree held_tree
tree_is = refl

item_of_first : item_along (position 0 ∷ []) (codes "t" ∷ []) (instance_at_place 0) ≡ type_equal (list_at 0)
unfolding held_tree
item_of_first = refl

item_of_second : item_along (position 1 ∷ []) (codes "t" ∷ []) (instance_at_place 1) ≡ type_equal (list_at 1)
unfolding held_tree
item_of_second = refl

-- so the definition is the second one's type
pub by_second : IsDefined imports tree (projection (import_at 1) (codes "t"))
by_second = as_listed 1 (codes "t" ∷ []) second refl (item_of_second ∙ ap type_equal (sym tree_is)) refl

-- and not the first one's, whose resource is another
abbrev place_on : List Place → ℕ
place_on (position p ∷ rest) = p
place_on path = 0

abbrev place_in : Tree → ℕ
place_in (type_equal (list_of (own l))) = place_on l.path
place_in t = 0

pub not_by_first : IsDefined imports tree (projection (import_at 0) (codes "t")) → ⊥
not_by_first (as_new is) = cc
not_by_first (as_listed p names e at item is) =
    let names_are : names ≡ codes "t" ∷ [] = sym (path_along (import_at p) names) ∙ ap path_of (sym is) in
    let place_is : p ≡ 0 = one_number p 0 (sym (import_along (import_at p) names) ∙ ap import_of (sym is)) in
    let entry_is : first ≡ e = one_entry first e (ap (slice_get imports) (sym place_is) ∙ at) in
    let here : item_along (position 0 ∷ []) (codes "t" ∷ []) (instance_at_place 0) ≡ type_equal tree =
    (λ i. item_along (position (sym place_is i) ∷ []) (sym names_are i) (entry_is i).1) ∙ item in
    let wrong : 0 ≡ 1 = ap place_in (sym item_of_first ∙ here ∙ ap type_equal tree_is) in
    absurd (omega (arith, wrong))

-- ---- the enum with the case `x`, imported as the type item `t`
abbrev enum_x : Tree
enum_x = enum_of (codes "x" ∷ [])

-- a definition of it is the import itself
pub by_itself : IsDefined ((codes "t", type_equal enum_x) ∷ []) enum_x (import_at 0)
by_itself = as_listed 0 [] (codes "t", type_equal enum_x) refl refl refl

-- one of the enum with the case `y` is not
abbrev first_code : List Name → ℕ
first_code ((c ∷ rest) ∷ names) = c
first_code names = 0

abbrev code_in : Tree → ℕ
code_in (type_equal (enum_of names)) = first_code names
code_in t = 0

pub not_of_another : IsDefined ((codes "t", type_equal enum_x) ∷ []) (enum_of (codes "y" ∷ [])) (import_at 0) → ⊥
not_of_another (as_new is) = cc
not_of_another (as_listed p names e at item is) =
    let names_are : names ≡ [] = sym (path_along (import_at p) names) ∙ ap path_of (sym is) in
    let place_is : p ≡ 0 = one_number p 0 (sym (import_along (import_at p) names) ∙ ap import_of (sym is)) in
    let entry_is : (codes "t", type_equal enum_x) ≡ e = one_entry (codes "t", type_equal enum_x) e (ap (slice_get ((codes "t", type_equal enum_x) ∷ [])) (sym place_is) ∙ at) in
    let here : type_equal enum_x ≡ type_equal (enum_of (codes "y" ∷ [])) = (λ i. item_along (position (sym place_is i) ∷ []) (sym names_are i) (entry_is i).1) ∙ item in
    let wrong : 120 ≡ 121 = ap code_in here in
    absurd (omega (arith, wrong))
