-- When two entries of a class agree, and where they disagree.
use Rattle.std.specs.Prelude.{ℕ, ◌≡◌, ◌<◌, ◌≤◌, true, false, List, [], ◌∷◌, ◌++◌, map, Some, None, slice_get, ◌⊎◌}
use Rattle.std.specs.List.{AllByRecursion}
use Rattle.wac_types_shapes.specs.primitives.Name.{Name, option_case, first_some}
use Rattle.wac_types_shapes.specs.primitives.Tree.{exported, TypeTree, absent, instance, instance_item}
use Rattle.wac_types_collection.specs.collection.Collection.{Collection, item_at, interface_exports}
use Rattle.wac_types_collection.specs.collection.Held.{Names, unfolded, item_tree, items_under}
use Rattle.wac_types_collection.specs.subtyping.Called.{Called, of_class, itself, resource_name, called_at, own_leaf, by_binding}
use Rattle.wac_types_shapes.specs.declared.shapes.component.Interface.{Interface}
use Rattle.wac_types_shapes.specs.declared.shapes.component.InterfaceId.{InterfaceId}
use Rattle.wac_types_shapes.specs.declared.shapes.component.ItemKind.{ItemKind}
use Rattle.wac_types_shapes.specs.declared.shapes.component.ItemKind.TheVariants as kind
use Rattle.wac_merge_classes.specs.entries.Classes.{Entry, NameRules, same_class}
use Rattle.wac_merge_classes.specs.entries.Binding.{class_binds, binding_class}

-- Outside an entry a resource is named by the first class that binds it, else by itself.
abbrev pub called_outside : NameRules → Collection → List Entry → Names Called
called_outside rules c es r = Some (option_case (binding_class rules c es r) (itself r (resource_name c r)) (λ b. of_class b.0 b.1 (resource_name c r)))

-- Inside an instance of the class its own resources come first, then what the class binds, then what is outside.
abbrev pub called_inside : NameRules → Collection → List Entry → Name → Interface → Names Called
called_inside rules c es class it r =
    first_some
    (option_case (own_leaf c it r) None (λ l. Some (called_at c r l)))
    (first_some
    (option_case (class_binds rules c es class r) None (λ path. Some (called_at c r (record { out = 0; side = exported; path = path }))))
    (called_outside rules c es r))

-- The tree by which an entry of a class is compared.
abbrev pub compared : NameRules → Collection → List Entry → Name → ItemKind → TypeTree Called
compared rules c es class (kind.Instance i) =
    option_case (item_at c.interfaces i.0) absent (λ it.
    instance_item (instance (items_under (map (λ e. (e.0, item_tree (unfolded (by_binding c) c (called_inside rules c es class it)) false e.1)) it.exports))))
compared rules c es class k = item_tree (unfolded (by_binding c) c (called_outside rules c es)) false k

-- Two items agree if they are equal, or if both are instances and each export that both have agrees.
abbrev pub Agree : TypeTree Called → TypeTree Called → Type 0
Agree (instance f) (instance g) = (n : Name) → (f n ≡ absent) ⊎ ((g n ≡ absent) ⊎ Agree (f n) (g n))
Agree (instance_item t) (instance_item u) = Agree t u
Agree t u = t ≡ u

-- Any two entries of one class agree.
abbrev pub AllMembersAgree : NameRules → Collection → List Entry → Type 0
AllMembersAgree rules c es = (class : Name) (i j : ℕ) (e f : Entry) → slice_get es i ≡ Some e → slice_get es j ≡ Some f → same_class rules es class e.name ≡ true → same_class rules es class f.name ≡ true
    → Agree (compared rules c es class e.kind) (compared rules c es class f.kind)

-- An entry disagrees with a later entry of its class.
pub record IsDisagreement (rules : NameRules) (c : Collection) (es : List Entry) (first second : ℕ) : Type 0 where
  pub earlier : Entry
  pub later : Entry
  pub at_first : slice_get es first ≡ Some earlier
  pub at_second : slice_get es second ≡ Some later
  pub before : first < second
  pub one_class : same_class rules es earlier.name later.name ≡ true
  pub apart : Agree (compared rules c es earlier.name earlier.kind) (compared rules c es earlier.name later.kind) → ⊥

-- The earliest entry that disagrees with an earlier one, and the earliest entry that it disagrees with.
pub record IsFirstDisagreement (rules : NameRules) (c : Collection) (es : List Entry) (first second : ℕ) : Type 0 where
  pub disagree : IsDisagreement rules c es first second
  pub earliest : (i j : ℕ) → IsDisagreement rules c es i j → second ≤ j
  pub with_earliest : (i : ℕ) → IsDisagreement rules c es i second → first ≤ i

-- The first instance lacks the export, or the exports of both agree.
abbrev pub AgreesAt : (Name → TypeTree Called) → (Name → TypeTree Called) → Name × ItemKind → Type 0
AgreesAt f g e = (f e.0 ≡ absent) ⊎ Agree (f e.0) (g e.0)

abbrev pub AreInstances : TypeTree Called → TypeTree Called → Type 0
AreInstances (instance_item t) (instance_item u) = Unit {0}
AreInstances t u = ⊥

-- The export names that lead to the first disagreement, in the order of the later item. The kind is that of the later
-- item.
pub data LeadsApart (c : Collection) : TypeTree Called → TypeTree Called → ItemKind → List Name → Type 0 where
  here : (t u : TypeTree Called) (k : ItemKind) → (AreInstances t u → ⊥) → (Agree t u → ⊥) → LeadsApart c t u k []
  below : (f g : Name → TypeTree Called) (i : InterfaceId) (before after : List (Name × ItemKind)) (e : Name × ItemKind) (names : List Name)
      → interface_exports c i ≡ before ++ e ∷ after → AllByRecursion (AgreesAt f g) before → (AgreesAt f g e → ⊥) → LeadsApart c (f e.0) (g e.0) e.1 names
      → LeadsApart c (instance_item (instance f)) (instance_item (instance g)) (kind.Instance i) (e.0 ∷ names)

-- Names joined by `/`.
abbrev pub joined : List Name → Name
joined [] = []
joined (n ∷ []) = n
joined (n ∷ names) = n ++ 47 ∷ joined names
