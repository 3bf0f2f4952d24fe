-- What the item of an entry is compared as, by what resources are called around it.
use Rattle.std.proofs.Common.{Global, ◌≡◌, ℕ, ◌<◌, true, false, List, [], ◌∷◌, ◌++◌, length, map, Option, Some, None, refl, ap, sym, ◌∙◌, subst, inl, inr, ◌⊎◌, arith}
use Rattle.std.specs.Prelude.{slice_get, Vec}
use Rattle.std.proofs.Math.Path.{fun_ext}
use Rattle.std.proofs.lemmas.List.{map-append}
use Rattle.std.proofs.lemmas.Option.{slice_get_within}
use Rattle.wac_types_shapes.specs.primitives.Name.{Name, option_case}
use Rattle.wac_types_shapes.specs.primitives.Tree.{TypeTree, absent, type_equal, function_item, instance, instance_item, component_item, module_item, value_item}
use Rattle.wac_types_collection.specs.subtyping.Called.{Called, by_binding}
use Rattle.wac_types_collection.specs.collection.Collection.{Collection, item_at, item_of, holds_type, interface_exports}
use Rattle.wac_types_shapes.specs.shapes.Kinds.{kind_type}
use Rattle.wac_types_collection.specs.collection.Held as held
use Rattle.wac_types_collection.specs.collection.Held.{unfolded}
use Rattle.wac_types_shapes.specs.declared.shapes.component.Interface.{Interface}
use Rattle.wac_types_shapes.specs.declared.shapes.component.InterfaceId.{InterfaceId}
use Rattle.wac_types_shapes.specs.declared.shapes.component.DefinedTypeId.{DefinedTypeId}
use Rattle.wac_types_shapes.specs.declared.shapes.component.FuncTypeId.{FuncTypeId}
use Rattle.wac_types_shapes.specs.declared.shapes.component.«Type».{«Type» as AnyType}
use Rattle.wac_types_shapes.specs.declared.shapes.component.ItemKind.{ItemKind}
use Rattle.wac_types_shapes.specs.declared.shapes.component.ItemKind.TheVariants as kind
use Rattle.wac_merge_trees.specs.declared.coding.calls.Calls.{Calls}
use Rattle.wac_merge_trees.specs.declared.coding.memo.Memo.{Memo}
use Rattle.wac_merge_tables.specs.declared.tables.nodes.Item.{Item as AnItem}
use Rattle.wac_merge_classes.specs.declared.entries.scopes.Opener.{Opener}
use Rattle.wac_merge_classes.specs.declared.entries.scopes.Opener.TheVariants as opener
use Rattle.wac_merge_classes.specs.entries.Agreement.{called_inside, called_outside, compared}
use Rattle.wac_merge_trees.specs.private.coding.CallsView.{AreNamed, names_in, names_of}
use Rattle.wac_merge_classes.specs.entries.Classes.{Entry, by_names, class_names, is_instance, AreClasses}
use Rattle.wac_merge_trees.specs.private.coding.Coding.{tree_in, defined_number, func_number, HasTree, IsGrown, IsRight}
use Rattle.wac_merge_agreement.specs.private.agreement.Compared.{AreCompared, IsItemOf}
use Rattle.wac_merge_trees.specs.private.coding.ItemCoding.{AreItems, HasItem, listing_under}
use Rattle.wac_merge_trees.specs.private.coding.Listings.{at_scope, AreInnerListings, AreListings, AreOpen, IsAround, IsAroundIn}
use Rattle.wac_merge_tables.specs.private.tables.NodeViews.{item_view}
use Rattle.wac_merge_tables.specs.private.tables.Nodes.{Node, Item, a_type, a_func, an_instance, a_component, a_module, a_value, type_of, item_tree, tree_at}
use Rattle.wac_merge_classes.specs.entries.Scopes.{called_in, called_in_root, inside, listed_in, opened_by, scope_tree}
use Rattle.wac_merge_classes.proofs.lemmas.terms.Alike.{compared_alike}
use Rattle.wac_merge_trees.proofs.lemmas.coding.CodingGrowth.{longer}
use Rattle.wac_merge_classes.proofs.lemmas.terms.Found.{no_some, one_some}
use Rattle.wac_merge_classes.proofs.lemmas.entries.Inserting.{at-of, of-at}
use Rattle.wac_merge_classes.proofs.lemmas.entries.Lists.{push-cases, some-at}
use Rattle.wac_merge_classes.proofs.lemmas.terms.Found.{mapped_length}
use Rattle.wac_merge_classes.proofs.lemmas.entries.Opening.{below}
use Rattle.wac_merge_classes.proofs.lemmas.entries.ScopeLaws.{called-rooted}

-- a memo of no number
pub right_new : (t : AnyType → TypeTree Called) (memo : Memo) (ns : List Node) → ((d : DefinedTypeId) → defined_number memo d ≡ None) → ((f : FuncTypeId) → func_number memo f ≡ None) → IsRight t memo ns
right_new t memo ns no_definition no_func = record {
  defined = λ d n is. absurd (no_some n (sym (no_definition d) ∙ is));
  funcs = λ f n is. absurd (no_some n (sym (no_func f) ∙ is));
}

pub not_instance : (k : ItemKind) → ((i : InterfaceId) → k ≡ kind.Instance i → ⊥) → is_instance k ≡ false
not_instance (kind.Instance i) never = absurd (never i refl)
not_instance (kind.TypeItem t) never = refl
not_instance (kind.Func f) never = refl
not_instance (kind.Component w) never = refl
not_instance (kind.Module m) never = refl
not_instance (kind.Value v) never = refl

-- what is no instance is compared as what is called around it says
plain_kind : (c : Collection) (es : List Entry) (class : Name) (k : ItemKind) → is_instance k ≡ false → held.item_tree (unfolded (by_binding c) c (called_outside by_names c es)) false k ≡ compared by_names c es class k
plain_kind c es class (kind.Instance i) e = cc
plain_kind c es class (kind.TypeItem t) e = refl
plain_kind c es class (kind.Func f) e = refl
plain_kind c es class (kind.Component w) e = refl
plain_kind c es class (kind.Module m) e = refl
plain_kind c es class (kind.Value v) e = refl

module _ (c : Collection) (s : Calls) (named : AreNamed c s) where
  -- the scopes that the item itself opens
  pub opens : s.scope ≡ None → AreOpen s (opened_by s.kind)
  opens none o among unknown =
      let j = at-of (opened_by s.kind) o among in
      let w = named.scopes.rooted j.0 o j.1 in
      let here : w.0 ≡ inside s.scope o = (λ i. record { opener = w.2 i; parent = (w.3 ∙ sym none) i }) in
      of-at s.scopes.now j.0 (inside s.scope o) (w.1 ∙ ap (λ x. Some x) here)

  -- what each scope lists, each in the item itself
  pub inner : (ns : List Node) (ls : List (Vec AnItem Global)) → AreListings ns c s 0 ls → AreInnerListings ns c s ls
  inner ns ls are i t xs outer at there = are i t xs (omega arith) at there

  pub around : is_instance s.kind ≡ false → s.scope ≡ None → IsAround s
  around plain none = subst (λ (o : Option ℕ). IsAroundIn s.kind o) (sym none) plain

  first_opened : (i : InterfaceId) → s.kind ≡ kind.Instance i → slice_get (opened_by s.kind) 0 ≡ Some (opener.Interface i)
  first_opened i is = ap (λ k. slice_get (opened_by k) 0) is

  pub root_within : (i : InterfaceId) → s.kind ≡ kind.Instance i → 0 < length s.scopes.now
  root_within i is = let w = named.scopes.rooted 0 (opener.Interface i) (first_opened i is) in slice_get_within s.scopes.now 0 w.0 w.1

  -- what an instance lists
  pub root_items : (ns : List Node) (ls : List (Vec AnItem Global)) (i : InterfaceId) (xs : Vec AnItem Global) → s.kind ≡ kind.Instance i → AreListings ns c s 0 ls → slice_get ls 0 ≡ Some xs
      → AreItems ns (tree_in c (names_in c (at_scope s 0))) (interface_exports c i) xs.items
  root_items ns ls i xs is are at =
      let w = named.scopes.rooted 0 (opener.Interface i) (first_opened i is) in
      subst (λ (o : Opener). AreItems ns (tree_in c (names_in c (at_scope s 0))) (listed_in c o) xs.items) w.2 (are 0 w.0 xs (omega arith) w.1 at)

  module _ (name : Name) (class : slice_get (class_names by_names s.entries.now) s.class ≡ Some name) where
    outside_is : s.scope ≡ None → names_in c s ≡ called_outside by_names c s.entries.now
    outside_is none = fun_ext (λ r.
        ap (λ o. option_case o None (λ n. names_of c s.entries.now n s.kind s.scopes.now s.scope r)) class ∙ ap (λ o. names_of c s.entries.now name s.kind s.scopes.now o r) none)

    root_is : (i : InterfaceId) (it : Interface) → s.kind ≡ kind.Instance i → item_at c.interfaces i.0 ≡ Some it → names_in c (at_scope s 0) ≡ called_inside by_names c s.entries.now name it
    root_is i it is found = fun_ext (λ r.
        ap (λ o. option_case o None (λ n. called_in c (called_in_root by_names c s.entries.now n s.kind) s.scopes.now 0 r)) class
        ∙ (called-rooted c (opened_by s.kind) s.scopes.now named.scopes (called_in_root by_names c s.entries.now name s.kind) 0 (opener.Interface i) r (first_opened i is)
        ∙ (ap (λ k. called_in_root by_names c s.entries.now name k (opener.Interface i) r) is ∙ ap (λ o. option_case o None (λ x. called_inside by_names c s.entries.now name x r)) found)))

    instance_is : (i : InterfaceId) → s.kind ≡ kind.Instance i → holds_type c (kind_type s.kind) ≡ true → instance_item (scope_tree c (names_in c (at_scope s 0)) (opener.Interface i)) ≡ compared by_names c s.entries.now name s.kind
    instance_is i is holds =
        let es = s.entries.now in
        let (h, at) = some-at c.interfaces i.0 (below i.0 (length c.interfaces) (sym (ap (λ k. holds_type c (kind_type k)) is) ∙ holds)) in
        let found : item_at c.interfaces i.0 ≡ Some h.item = ap item_of at in
        ap (λ m. instance_item (scope_tree c m (opener.Interface i))) (root_is i h.item is found)
        ∙ (ap (λ o. instance_item (instance (listing_under (unfolded (by_binding c) c (called_inside by_names c es name h.item)) (option_case o [] (λ x. x.exports))))) found
        ∙ (sym (ap (λ o. option_case o absent (λ x. instance_item (instance (listing_under (unfolded (by_binding c) c (called_inside by_names c es name x)) x.exports)))) found)
        ∙ ap (λ k. compared by_names c es name k) (sym is)))

    plain_is : is_instance s.kind ≡ false → s.scope ≡ None → held.item_tree (tree_in c (names_in c s)) false s.kind ≡ compared by_names c s.entries.now name s.kind
    unfolding tree_in
    plain_is plain none = ap (λ m. held.item_tree (unfolded (by_binding c) c m) false s.kind) (outside_is none) ∙ plain_kind c s.entries.now name s.kind plain

    -- the instance of an entry
    pub of_instance : (ns : List Node) (i : InterfaceId) (n : ℕ) → s.kind ≡ kind.Instance i → holds_type c (kind_type s.kind) ≡ true → HasTree ns (scope_tree c (names_in c (at_scope s 0)) (opener.Interface i)) n
        → IsItemOf ns c s.entries.now name s.kind (an_instance n)
    of_instance ns i n is holds h = record { there = h.there; is = ap instance_item h.is ∙ instance_is i is holds }

    -- what is no instance
    pub of_plain : (ns : List Node) (x : Item) → is_instance s.kind ≡ false → s.scope ≡ None → HasItem ns (tree_in c (names_in c s)) s.kind x → IsItemOf ns c s.entries.now name s.kind x
    of_plain ns x plain none h = record { there = h.there; is = h.is ∙ plain_is plain none }

-- the same, where the same is written otherwise
pub items_with : (ns : List Node) (c d : Collection) (s t : Calls) (i : InterfaceId) (xs ys : List AnItem) → d ≡ c → t ≡ s → ys ≡ xs → AreItems ns (tree_in c (names_in c s)) (interface_exports c i) xs → AreItems ns (tree_in d (names_in d t)) (interface_exports d i) ys
items_with ns c d s t i xs ys types calls items h =
    subst (λ (l : List AnItem). AreItems ns (tree_in d (names_in d t)) (interface_exports d i) l) (sym items)
    (subst (λ (u : Calls). AreItems ns (tree_in d (names_in d u)) (interface_exports d i) xs) (sym calls) (subst (λ (b : Collection). AreItems ns (tree_in b (names_in b s)) (interface_exports b i) xs) (sym types) h))

pub tree_with : (ns : List Node) (c d : Collection) (s t : Calls) (o : Opener) (n : ℕ) → d ≡ c → t ≡ s → HasTree ns (scope_tree d (names_in d t) o) n → HasTree ns (scope_tree c (names_in c s) o) n
tree_with ns c d s t o n types calls h = subst (λ (u : Calls). HasTree ns (scope_tree c (names_in c u) o) n) calls (subst (λ (b : Collection). HasTree ns (scope_tree b (names_in b t) o) n) types h)

-- ---- one more item

item_kept : (old new : List Node) (x : Item) → IsGrown old new → type_of x < length old → item_tree (tree_at new) x ≡ item_tree (tree_at old) x
item_kept old new (a_type n) g low = ap type_equal (g.trees n low)
item_kept old new (a_func n) g low = ap function_item (g.trees n low)
item_kept old new (an_instance n) g low = ap instance_item (g.trees n low)
item_kept old new (a_component n) g low = ap component_item (g.trees n low)
item_kept old new (a_module n) g low = ap module_item (g.trees n low)
item_kept old new (a_value n) g low = ap value_item (g.trees n low)

module _ (c : Collection) (es : List Entry) where
  still_is : (old new : List Node) (class : Name) (k : ItemKind) (x : Item) → IsGrown old new → IsItemOf old c es class k x → IsItemOf new c es class k x
  still_is old new class k x g h = let l = longer old new g in let low = h.there in record { there = omega (arith, l, low); is = item_kept old new x g h.there ∙ h.is }

  -- the number of an entry's class is that of one of the classes
  pub class_within : (numbers positions : List ℕ) (names : List (Name × ℕ)) → AreClasses by_names es numbers positions names → (i k : ℕ) (e : Entry) → slice_get es i ≡ Some e → slice_get numbers i ≡ Some k → k < length (class_names by_names es)
  class_within numbers positions names classes i k e at number = let w = classes.numbered i k e at number in slice_get_within (class_names by_names es) k w.0 w.1

  -- an item that is compared under the name of the class is compared under that of the entry
  pub under_own_name : (numbers positions : List ℕ) (names : List (Name × ℕ)) → AreClasses by_names es numbers positions names → (ns : List Node) (i k : ℕ) (e : Entry) (l : ItemKind) (x : Item) → slice_get es i ≡ Some e → slice_get numbers i ≡ Some k → l ≡ e.kind
      → ((name : Name) → slice_get (class_names by_names es) k ≡ Some name → IsItemOf ns c es name l x) → IsItemOf ns c es e.name e.kind x
  under_own_name numbers positions names classes ns i k e l x at number same of =
      let w = classes.numbered i k e at number in
      let h = of w.0 w.1 in
      record { there = h.there; is = h.is ∙ (compared_alike c es w.0 e.name w.2 l ∙ ap (λ m. compared by_names c es e.name m) same) }

  -- one more entry has its item
  pub compared_next : (old new : List Node) (xs : List AnItem) (i : ℕ) (e : Entry) (x : AnItem) → IsGrown old new → length xs ≡ i → slice_get es i ≡ Some e → AreCompared old c es (map item_view xs) → IsItemOf new c es e.name e.kind (item_view x)
      → AreCompared new c es (map item_view (xs ++ x ∷ []))
  compared_next old new xs i e x g count at are is j f y there found = split (push-cases (map item_view xs) (item_view x) j y (subst (λ l. slice_get l j ≡ Some y) (map-append item_view xs (x ∷ [])) found)) where
    split : (slice_get (map item_view xs) j ≡ Some y) ⊎ ((j ≡ length (map item_view xs)) × (y ≡ item_view x)) → IsItemOf new c es f.name f.kind y
    split (inl before) = still_is old new f.name f.kind y g (are j f y there before)
    split (inr (last, same)) =
        let here : i ≡ j = sym (last ∙ (mapped_length item_view xs ∙ count)) in
        let one : e ≡ f = one_some (slice_get es j) e f (subst (λ (n : ℕ). slice_get es n ≡ Some e) here at) there in
        subst (λ z. IsItemOf new c es f.name f.kind z) (sym same) (subst (λ (z : Entry). IsItemOf new c es z.name z.kind (item_view x)) one is)
