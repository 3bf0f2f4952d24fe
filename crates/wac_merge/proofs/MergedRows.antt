-- Worked examples of merging, each decided by computing.
use Rattle.std.specs.Prelude.{ℕ, zero, suc, ◌≡◌, ◌≢◌, Bool, true, false, if◌then◌else◌, nat_lt, List, [], ◌∷◌, Option, Some, None, refl, slice_get}
use Rattle.std.specs.List.{AllByRecursion}
use Rattle.std.proofs.Common.{ap, sym, ◌∙◌, subst, arith}
use Rattle.wac_names.specs.Track.{Track, whole, major}
use Rattle.wac_types_shapes.specs.primitives.Name.{Name, same_name}
use Rattle.wac_types_shapes.specs.primitives.Tree.{Tree, TypeTree, imported, exported, position, named, own, absent, fresh, function, function_item, type_equal, resource, instance, instance_item, items_in, type_in}
use Rattle.wac_types_collection.specs.collection.Held.{part_at}
use Rattle.wac_types_collection.specs.collection.Bound.{held_tree, held_item}
use Rattle.wac_types_collection.specs.collection.Collection.{Collection}
use Rattle.wac_types_collection.specs.declared.collection.collection.Held.{Held}
use Rattle.wac_types_shapes.specs.declared.shapes.component.Resource.{Resource}
use Rattle.wac_types_shapes.specs.declared.shapes.component.FuncType.{FuncType}
use Rattle.wac_types_shapes.specs.declared.shapes.component.Interface.{Interface}
use Rattle.wac_types_shapes.specs.declared.shapes.component.UsedType.{UsedType}
use Rattle.wac_types_shapes.specs.declared.shapes.component.ItemKind.{ItemKind}
use Rattle.wac_types_shapes.specs.declared.shapes.component.ItemKind.TheVariants as kind
use Rattle.wac_types_shapes.specs.declared.shapes.component.ValueType.{ValueType}
use Rattle.wac_types_shapes.specs.declared.shapes.component.ValueType.TheVariants as val
use Rattle.wac_types_shapes.specs.declared.shapes.component.«Type».TheVariants as ty
use Rattle.wac_types_collection.specs.subtyping.Called.{Called, of_class}
use Rattle.wac_types_collection.specs.subtyping.Subtype.{Sub, same, instances, instance_items, IsSubtype, type_tree, kind_tree}
use Rattle.wac_merge_classes.specs.entries.Classes.{Entry, NameRules, is_instance, class_names, canonical, members}
use Rattle.wac_merge_classes.specs.entries.Binding.{binding_class, class_binds, root_bindings}
use Rattle.wac_merge_classes.specs.terms.Union.{union, merged}
use Rattle.wac_merge_classes.specs.entries.Agreement.{IsDisagreement, compared}
use Rattle.wac_merge_classes.specs.terms.ClassOrder.{grouped, RestsOn, by_use, by_resource, IsWrittenOrder}
use Rattle.wac_edges.specs.Arranged.{done, new, leaves, none}
use Rattle.wac_merge_classes.specs.terms.Merge.{Merged, IsMerge, IsListed, class_id, position_in, bound_resource}

-- names of one number are labels; of two, an interface and its version on one track
abbrev simple_track : Name → Track
simple_track (i ∷ v ∷ []) = major (i ∷ []) 1
simple_track n = whole n

abbrev simple_newer : Name → Name → Bool
simple_newer (i ∷ v ∷ []) (j ∷ w ∷ []) = nat_lt w v
simple_newer a b = false

abbrev simple : NameRules
simple = record { track = simple_track; is_newer = simple_newer }

abbrev function_of : List (Name × ValueType) → Held FuncType
function_of params = record { item = record { params = params; result = None; is_async = false }; before = 0 }

abbrev interface_of : Option Name → List (Name × UsedType) → List (Name × ItemKind) → Held Interface
interface_of id uses exports = record { item = record { id = id; uses = uses; exports = exports }; before = 0 }

abbrev resource_called : Name → Held Resource
resource_called n = record { item = record { name = n; alias = None }; before = 0 }

abbrev of_interface : ℕ → ItemKind
of_interface i = kind.Instance (record { 0 = i })

abbrev of_function : ℕ → ItemKind
of_function f = kind.Func (record { 0 = f })

abbrev of_resource : ℕ → ItemKind
of_resource r = kind.TypeItem (ty.Resource (record { 0 = r }))

abbrev f : Name
f = 102 ∷ []

abbrev g : Name
g = 103 ∷ []

abbrev r : Name
r = 114 ∷ []

abbrev own_parameter : ℕ → Held FuncType
own_parameter n = function_of ((120 ∷ [], val.Own (record { 0 = n })) ∷ [])

abbrev no_function : Tree
no_function = function_item (function false [] (part_at []) absent)

-- two versions on one track, with `f` and with `g`: one import of the greater version with both
abbrev two_versions : Collection
two_versions = record {
  resources = [];
  funcs = function_of [] ∷ [];
  defined = [];
  interfaces = interface_of (Some (1 ∷ 0 ∷ [])) [] ((f, of_function 0) ∷ []) ∷ interface_of (Some (1 ∷ 3 ∷ [])) [] ((g, of_function 0) ∷ []) ∷ [];
  worlds = [];
  modules = [];
}

abbrev two_asked : List Entry
two_asked = record { name = 1 ∷ 0 ∷ []; kind = of_interface 0 } ∷ record { name = 1 ∷ 3 ∷ []; kind = of_interface 1 } ∷ []

pub two_versions_are_one : class_names simple two_asked ≡ (1 ∷ 0 ∷ []) ∷ []
two_versions_are_one = refl

pub two_versions_name : canonical simple two_asked (1 ∷ 0 ∷ []) ≡ 1 ∷ 3 ∷ []
two_versions_name = refl

abbrev two_merged : Tree
two_merged = merged simple two_versions two_asked (root_bindings simple two_versions two_asked (λ k. k)) 0 (1 ∷ 0 ∷ [])

pub two_versions_have_f : items_in (type_in two_merged) f ≡ no_function
unfolding held_tree
two_versions_have_f = refl

pub two_versions_have_g : items_in (type_in two_merged) g ≡ no_function
unfolding held_tree
two_versions_have_g = refl

-- an interface with a resource under two labels: two imports, and neither binds the resource at the root
abbrev one_interface : Collection
one_interface = record {
  resources = resource_called r ∷ [];
  funcs = own_parameter 0 ∷ [];
  defined = [];
  interfaces = interface_of (Some (1 ∷ 0 ∷ [])) [] ((r, of_resource 0) ∷ (f, of_function 0) ∷ []) ∷ [];
  worlds = [];
  modules = [];
}

abbrev two_labels : List Entry
two_labels = record { name = 5 ∷ []; kind = of_interface 0 } ∷ record { name = 6 ∷ []; kind = of_interface 0 } ∷ []

pub two_labels_are_two : class_names simple two_labels ≡ (5 ∷ []) ∷ (6 ∷ []) ∷ []
two_labels_are_two = refl

pub labels_bind_nothing : binding_class simple one_interface two_labels (record { 0 = 0 }) ≡ None
labels_bind_nothing = refl

-- with a third import under its id, that one binds it
abbrev three_imports : List Entry
three_imports = record { name = 5 ∷ []; kind = of_interface 0 } ∷ record { name = 6 ∷ []; kind = of_interface 0 } ∷ record { name = 1 ∷ 0 ∷ []; kind = of_interface 0 } ∷ []

pub id_binds : binding_class simple one_interface three_imports (record { 0 = 0 }) ≡ Some (2, named r ∷ [])
id_binds = refl

-- the function inside means the interface's own resource
pub label_has_own : items_in (type_in (merged simple one_interface two_labels (root_bindings simple one_interface two_labels (λ k. k)) 0 (5 ∷ []))) f
    ≡ function_item (function false ((120 ∷ []) ∷ []) (part_at (own (record { out = 0; side = exported; path = named r ∷ [] }) ∷ [])) absent)
unfolding held_tree
label_has_own = refl

-- two versions on one track, each with an own resource `r`, and a function that means the later one's: it means the one import's
abbrev two_resources : Collection
two_resources = record {
  resources = resource_called r ∷ resource_called r ∷ [];
  funcs = own_parameter 0 ∷ own_parameter 1 ∷ [];
  defined = [];
  interfaces = interface_of (Some (1 ∷ 0 ∷ [])) [] ((r, of_resource 0) ∷ (f, of_function 0) ∷ []) ∷ interface_of (Some (1 ∷ 3 ∷ [])) [] ((r, of_resource 1) ∷ (f, of_function 1) ∷ []) ∷ [];
  worlds = [];
  modules = [];
}

abbrev with_function : List Entry
with_function = record { name = 7 ∷ []; kind = of_function 1 } ∷ record { name = 1 ∷ 0 ∷ []; kind = of_interface 0 } ∷ record { name = 1 ∷ 3 ∷ []; kind = of_interface 1 } ∷ []

pub other_version_binds : binding_class simple two_resources with_function (record { 0 = 1 }) ≡ Some (1, named r ∷ [])
other_version_binds = refl

-- instances come first, though the function is asked first
pub instances_first : grouped simple with_function ≡ 1 ∷ 0 ∷ []
instances_first = refl

pub function_means_import : merged simple two_resources with_function (root_bindings simple two_resources with_function (λ k. 0)) 1 (7 ∷ [])
    ≡ function_item (function false ((120 ∷ []) ∷ []) (part_at (own (record { out = 0; side = imported; path = position 0 ∷ named r ∷ [] }) ∷ [])) absent)
unfolding held_tree
function_means_import = refl

-- both versions are compared as equal
pub versions_agree : compared simple two_resources with_function (1 ∷ 0 ∷ []) (of_interface 0) ≡ compared simple two_resources with_function (1 ∷ 0 ∷ []) (of_interface 1)
versions_agree = refl

-- under one label two interfaces without id, each with an own `r`, are compared as equal
abbrev without_ids : Collection
without_ids = record two_resources {
  interfaces = interface_of None [] ((r, of_resource 0) ∷ (f, of_function 0) ∷ []) ∷ interface_of None [] ((r, of_resource 1) ∷ (f, of_function 1) ∷ []) ∷ [];
}

abbrev one_label : List Entry
one_label = record { name = 5 ∷ []; kind = of_interface 0 } ∷ record { name = 5 ∷ []; kind = of_interface 1 } ∷ []

pub own_resources_agree : compared simple without_ids one_label (5 ∷ []) (of_interface 0) ≡ compared simple without_ids one_label (5 ∷ []) (of_interface 1)
own_resources_agree = refl

-- an interface and its own resource as a type item: the one that is asked first binds it at the root, the other is equal to it
abbrev item_after : List Entry
item_after = record { name = 1 ∷ 0 ∷ []; kind = of_interface 0 } ∷ record { name = r; kind = of_resource 0 } ∷ []

pub item_is_equal : merged simple one_interface item_after (root_bindings simple one_interface item_after (λ k. k)) 1 r
    ≡ type_equal (resource (record { out = 0; side = imported; path = position 0 ∷ named r ∷ [] }))
unfolding held_tree
item_is_equal = refl

abbrev item_before : List Entry
item_before = record { name = r; kind = of_resource 0 } ∷ record { name = 1 ∷ 0 ∷ []; kind = of_interface 0 } ∷ []

pub item_is_fresh : merged simple one_interface item_before (root_bindings simple one_interface item_before (λ k. k)) 0 r ≡ fresh
unfolding held_tree
item_is_fresh = refl

-- one name for a resource that an interface asked before binds, and for one that nothing else binds: they disagree
abbrev number_of : TypeTree Called → ℕ
number_of (type_equal (resource (of_class k path n))) = k
number_of t = 0

first_and_second : (t u : TypeTree Called) → number_of t ≡ 0 → number_of u ≡ 1 → t ≡ u → ⊥
first_and_second t u first second is = let one : 0 ≡ 1 = sym first ∙ ap number_of is ∙ second in cc

abbrev bound_and_new : List Entry
bound_and_new = record { name = 1 ∷ 0 ∷ []; kind = of_interface 0 } ∷ record { name = r; kind = of_resource 0 } ∷ record { name = r; kind = of_resource 1 } ∷ []

pub bound_is_compared : compared simple two_resources bound_and_new r (of_resource 0) ≡ type_equal (resource (of_class 0 (named r ∷ []) r))
bound_is_compared = refl

pub new_is_compared : compared simple two_resources bound_and_new r (of_resource 1) ≡ type_equal (resource (of_class 1 [] r))
new_is_compared = refl

pub bound_and_new_disagree : IsDisagreement simple two_resources bound_and_new 1 2
bound_and_new_disagree = record {
  earlier = record { name = r; kind = of_resource 0 };
  later = record { name = r; kind = of_resource 1 };
  at_first = refl;
  at_second = refl;
  before = omega arith;
  one_class = refl;
  apart = first_and_second _ _ refl refl;
}

-- both are bound by the interface of their names' track: equal to its resource
abbrev both_bound : List Entry
both_bound = record { name = 1 ∷ 0 ∷ []; kind = of_interface 0 } ∷ record { name = 1 ∷ 3 ∷ []; kind = of_interface 1 } ∷ record { name = r; kind = of_resource 0 } ∷ record { name = r; kind = of_resource 1 } ∷ []

pub both_are_equal : merged simple two_resources both_bound (root_bindings simple two_resources both_bound (λ k. k)) 1 r
    ≡ type_equal (resource (record { out = 0; side = imported; path = position 0 ∷ named r ∷ [] }))
unfolding held_tree
both_are_equal = refl

pub both_agree : compared simple two_resources both_bound r (of_resource 0) ≡ compared simple two_resources both_bound r (of_resource 1)
both_agree = refl

-- the id of an import: the canonical name on the track of a member's id, else the id of the first member, if it has one
pub id_on_track : class_id simple two_versions two_asked (1 ∷ 0 ∷ []) ≡ Some (1 ∷ 3 ∷ [])
id_on_track = refl

pub id_under_label : class_id simple one_interface two_labels (5 ∷ []) ≡ Some (1 ∷ 0 ∷ [])
id_under_label = refl

pub no_id : class_id simple without_ids one_label (5 ∷ []) ≡ None
no_id = refl

-- of a finished merge: the import of an id lists its own resources under their names, and nothing else
abbrev finished : Merged
finished = record {
  types = record {
    resources = resource_called r ∷ record { item = record { name = r; alias = Some (record { owner = None; source = record { 0 = 0 } }) }; before = 1 } ∷ [];
    funcs = own_parameter 0 ∷ [];
    defined = [];
    interfaces = interface_of (Some (1 ∷ 3 ∷ [])) [] ((r, of_resource 0) ∷ (f, of_function 0) ∷ (g, of_resource 1) ∷ []) ∷ [];
    worlds = [];
    modules = [];
  };
  imports = record { name = 1 ∷ 3 ∷ []; kind = of_interface 0 } ∷ record { name = 5 ∷ []; kind = of_interface 0 } ∷ [];
}

pub own_is_bound : bound_resource finished (1 ∷ 3 ∷ []) r ≡ Some (record { 0 = 0 })
own_is_bound = refl

-- what both versions bind under one name is answered as one
pub first_binds_own : class_binds simple two_resources both_bound (1 ∷ 0 ∷ []) (record { 0 = 0 }) ≡ Some (named r ∷ [])
first_binds_own = refl

pub other_binds_own : class_binds simple two_resources both_bound (1 ∷ 0 ∷ []) (record { 0 = 1 }) ≡ Some (named r ∷ [])
other_binds_own = refl

pub both_are_answered : bound_resource finished (canonical simple both_bound (1 ∷ 0 ∷ [])) r ≡ Some (record { 0 = 0 })
both_are_answered = refl

pub alias_is_not_bound : bound_resource finished (1 ∷ 3 ∷ []) g ≡ None
alias_is_not_bound = refl

pub function_is_not_bound : bound_resource finished (1 ∷ 3 ∷ []) f ≡ None
function_is_not_bound = refl

pub other_id_binds_nothing : bound_resource finished (1 ∷ 0 ∷ []) r ≡ None
other_id_binds_nothing = refl

pub label_binds_nothing : bound_resource finished (5 ∷ []) r ≡ None
label_binds_nothing = refl

-- a second member without an id adds an own resource to the import, which the class does not bind
abbrev with_addition : Collection
with_addition = record {
  resources = resource_called r ∷ resource_called g ∷ [];
  funcs = [];
  defined = [];
  interfaces = interface_of (Some (1 ∷ 0 ∷ [])) [] ((r, of_resource 0) ∷ []) ∷ interface_of None [] ((g, of_resource 1) ∷ []) ∷ [];
  worlds = [];
  modules = [];
}

abbrev addition_asked : List Entry
addition_asked = record { name = 1 ∷ 0 ∷ []; kind = of_interface 0 } ∷ record { name = 1 ∷ 0 ∷ []; kind = of_interface 1 } ∷ []

abbrev addition_finished : Merged
addition_finished = record {
  types = record with_addition { interfaces = interface_of (Some (1 ∷ 0 ∷ [])) [] ((r, of_resource 0) ∷ (g, of_resource 1) ∷ []) ∷ [] };
  imports = record { name = 1 ∷ 0 ∷ []; kind = of_interface 0 } ∷ [];
}

pub addition_is_listed : bound_resource addition_finished (1 ∷ 0 ∷ []) g ≡ Some (record { 0 = 1 })
addition_is_listed = refl

pub addition_is_not_bound : class_binds simple with_addition addition_asked (1 ∷ 0 ∷ []) (record { 0 = 1 }) ≡ None
addition_is_not_bound = refl

pub first_own_is_bound : class_binds simple with_addition addition_asked (1 ∷ 0 ∷ []) (record { 0 = 0 }) ≡ Some (named r ∷ [])
first_own_is_bound = refl

-- a whole merge: the two versions are one import, of an interface with both functions
abbrev two_finished : Merged
two_finished = record {
  types = record two_versions { interfaces = interface_of (Some (1 ∷ 3 ∷ [])) [] ((f, of_function 0) ∷ (g, of_function 0) ∷ []) ∷ [] };
  imports = record { name = 1 ∷ 3 ∷ []; kind = of_interface 0 } ∷ [];
}

same_some : {A : Type 0} (x y : A) → Some x ≡ Some y → x ≡ y
same_some x y h = cc

no_some : {A : Type 0} (a : A) → None ≡ Some a → ⊥
no_some a h = cc

-- what holds of the only element of a list holds of each
of_one : {A : Type 0} (P : ℕ → A → Type 0) (x : A) → P 0 x → (p : ℕ) (y : A) → slice_get (x ∷ []) p ≡ Some y → P p y
of_one P x h zero y there = subst (P 0) (same_some x y there) h
of_one P x h (suc p) y there = absurd (no_some y there)

-- so of the import and its class
of_import : (P : ℕ → ℕ → Name → Entry → Type 0) → P 0 0 (1 ∷ 0 ∷ []) (record { name = 1 ∷ 3 ∷ []; kind = of_interface 0 })
    → (p k : ℕ) (class : Name) (e : Entry) → slice_get (0 ∷ []) p ≡ Some k → slice_get (class_names simple two_asked) k ≡ Some class → slice_get two_finished.imports p ≡ Some e
    → P p k class e
of_import P h p k class e is_class is_name is_import =
    of_one (λ p k. (class : Name) (e : Entry) → slice_get (class_names simple two_asked) k ≡ Some class → slice_get two_finished.imports p ≡ Some e → P p k class e) 0
    (λ class e is_name is_import.
    of_one (λ k class. k ≡ 0 → P 0 0 class e) (1 ∷ 0 ∷ [])
    (λ _. of_one (λ p e. p ≡ 0 → P 0 0 (1 ∷ 0 ∷ []) e) (record { name = 1 ∷ 3 ∷ []; kind = of_interface 0 }) (λ _. h) 0 e is_import refl)
    0 class is_name refl)
    p k is_class class e is_name is_import

-- no class rests on itself
rests_apart : (a b : ℕ) → RestsOn simple two_versions two_asked a b → a ≢ b
rests_apart a b (by_use _ _ class name_of id e i j used other is_class is_other member is widely is_used has_id one) = other
rests_apart a b (by_resource _ _ class e other is_class member h) = other

two_written : IsWrittenOrder simple two_versions two_asked (0 ∷ [])
two_written = new [] [] [] (0 ∷ []) 0 [] (λ h. omega (arith, h.1)) (leaves 0 [] [] (λ r. rests_apart 0 0 r refl) none) (done []) (done (0 ∷ []))

-- an item of both listings is the union of the two
joined : (b d : Bool) → (if b then no_function else if d then no_function else absent) ≡ union (if b then no_function else absent) (if d then no_function else absent)
joined true true = refl
joined true false = refl
joined false d = refl

-- and a subtype of each of the two
abbrev no_function_by_name : TypeTree Name
no_function_by_name = function_item (function false [] (part_at []) absent)

fits_first : (b d : Bool) → (if b then no_function_by_name else absent) ≢ absent
    → Sub (if b then no_function_by_name else if d then no_function_by_name else absent) (if b then no_function_by_name else absent)
fits_first true d there = same no_function_by_name tt
fits_first false d there = absurd (there refl)

fits_second : (b d : Bool) → (if d then no_function_by_name else absent) ≢ absent
    → Sub (if b then no_function_by_name else if d then no_function_by_name else absent) (if d then no_function_by_name else absent)
fits_second true true there = same no_function_by_name tt
fits_second false true there = same no_function_by_name tt
fits_second b false there = absurd (there refl)

two_items : held_item two_finished.types (root_bindings simple two_finished.types two_finished.imports (λ i. i)) imported (position 0 ∷ []) (of_interface 0)
    ≡ merged simple two_versions two_asked (root_bindings simple two_versions two_asked (position_in (0 ∷ []))) 0 (1 ∷ 0 ∷ [])
unfolding held_tree
two_items = λ d. instance_item (instance (λ n. joined (same_name n f) (same_name n g) d))

two_subtypes : AllByRecursion (λ member. IsSubtype two_finished.types (of_interface 0) two_versions member.kind) (members simple two_asked (1 ∷ 0 ∷ []))
unfolding type_tree
two_subtypes =
    let first = instance_items _ _ (instances _ _ (λ n. fits_first (same_name n f) (same_name n g))) in
    let second = instance_items _ _ (instances _ _ (λ n. fits_second (same_name n f) (same_name n g))) in
    (first, (second, tt))

pub two_are_merged : IsMerge simple two_versions two_asked two_finished
two_are_merged = record {
  order = 0 ∷ [];
  written = two_written;
  count = refl;
  names = of_import (λ p k class e. e.name ≡ canonical simple two_asked class) refl;
  items = of_import (λ p k class e. held_item two_finished.types (root_bindings simple two_finished.types two_finished.imports (λ i. i)) imported (position p ∷ []) e.kind
      ≡ merged simple two_versions two_asked (root_bindings simple two_versions two_asked (position_in (0 ∷ []))) p class) two_items;
  listed = of_import (λ p k class e. IsListed simple two_versions two_asked class two_finished.types e.kind) (refl, (_, refl, refl));
  subtypes = of_import (λ p k class e. AllByRecursion (λ member. IsSubtype two_finished.types e.kind two_versions member.kind) (members simple two_asked class)) two_subtypes;
  equal = of_import (λ p k class e. is_instance e.kind ≡ false → AllByRecursion (λ member. kind_tree two_finished.types e.kind ≡ kind_tree two_versions member.kind) (members simple two_asked class)) (λ apart. let both : true ≡ false = apart in cc);
}

-- two interfaces with a resource `r` each, and one that uses them as `r` and `s`: three imports, and each mention means its own
abbrev s : Name
s = 115 ∷ []

abbrev alias_of : ℕ → Held Resource
alias_of n = record { item = record { name = r; alias = Some (record { owner = Some (record { 0 = n }); source = record { 0 = n } }) }; before = 4 }

abbrev used_from : ℕ → UsedType
used_from n = record { interface = record { 0 = n }; name = Some r }

abbrev used_resources : Collection
used_resources = record {
  resources = resource_called r ∷ resource_called r ∷ alias_of 0 ∷ alias_of 1 ∷ [];
  funcs = record { item = record { params = (120 ∷ [], val.Own (record { 0 = 2 })) ∷ (121 ∷ [], val.Own (record { 0 = 3 })) ∷ []; result = None; is_async = false }; before = 6 } ∷ [];
  defined = [];
  interfaces = interface_of (Some (1 ∷ 0 ∷ [])) [] ((r, of_resource 0) ∷ []) ∷ interface_of (Some (2 ∷ 0 ∷ [])) [] ((r, of_resource 1) ∷ [])
      ∷ record { item = record { id = Some (3 ∷ 0 ∷ []); uses = (r, used_from 0) ∷ (s, used_from 1) ∷ []; exports = (r, of_resource 2) ∷ (s, of_resource 3) ∷ (f, of_function 0) ∷ [] }; before = 7 } ∷ [];
  worlds = [];
  modules = [];
}

abbrev three_interfaces : List Entry
three_interfaces = record { name = 1 ∷ 0 ∷ []; kind = of_interface 0 } ∷ record { name = 2 ∷ 0 ∷ []; kind = of_interface 1 } ∷ record { name = 3 ∷ 0 ∷ []; kind = of_interface 2 } ∷ []

pub three_classes : class_names simple three_interfaces ≡ (1 ∷ 0 ∷ []) ∷ (2 ∷ 0 ∷ []) ∷ (3 ∷ 0 ∷ []) ∷ []
three_classes = refl

pub first_binds_its_own : binding_class simple used_resources three_interfaces (record { 0 = 0 }) ≡ Some (0, named r ∷ [])
first_binds_its_own = refl

pub second_binds_its_own : binding_class simple used_resources three_interfaces (record { 0 = 1 }) ≡ Some (1, named r ∷ [])
second_binds_its_own = refl

-- type items of one name that are the resources of the first two interfaces: neither is bound by their own class first, and they disagree
abbrev two_owners : List Entry
two_owners = record { name = 1 ∷ 0 ∷ []; kind = of_interface 0 } ∷ record { name = 2 ∷ 0 ∷ []; kind = of_interface 1 } ∷ record { name = r; kind = of_resource 0 } ∷ record { name = r; kind = of_resource 1 } ∷ []

pub own_class_binds_both : class_binds simple used_resources two_owners r (record { 0 = 0 }) ≡ class_binds simple used_resources two_owners r (record { 0 = 1 })
own_class_binds_both = refl

pub owners_disagree : IsDisagreement simple used_resources two_owners 2 3
owners_disagree = record {
  earlier = record { name = r; kind = of_resource 0 };
  later = record { name = r; kind = of_resource 1 };
  at_first = refl;
  at_second = refl;
  before = omega arith;
  one_class = refl;
  apart = first_and_second _ _ refl refl;
}

abbrev using : Tree
using = merged simple used_resources three_interfaces (root_bindings simple used_resources three_interfaces (λ k. k)) 2 (3 ∷ 0 ∷ [])

pub function_means_both : items_in (type_in using) f ≡ function_item (function false ((120 ∷ []) ∷ (121 ∷ []) ∷ []) (part_at
    (own (record { out = 1; side = imported; path = position 0 ∷ named r ∷ [] })
    ∷ own (record { out = 1; side = imported; path = position 1 ∷ named r ∷ [] })
    ∷ [])) absent)
unfolding held_tree
function_means_both = refl

pub listed_is_the_second : items_in (type_in using) s ≡ type_equal (resource (record { out = 1; side = imported; path = position 1 ∷ named r ∷ [] }))
unfolding held_tree
listed_is_the_second = refl
