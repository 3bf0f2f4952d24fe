-- What the answer to a question rests on, by the sort of its types.
use Rattle.std.proofs.Common.{Bool, true, List, ◌≡◌, ◌↔◌, refl, ap, sym, ◌∙◌, Some}
use Rattle.wac_types_shapes.specs.primitives.Name.{Name, option_case}
use Rattle.wac_types.specs.declared.comparison.questions.Asked.{Asked}
use Rattle.wac_types_shapes.specs.declared.shapes.component.ResourceId.{ResourceId}
use Rattle.wac_types_shapes.specs.declared.shapes.component.FuncTypeId.{FuncTypeId}
use Rattle.wac_types_shapes.specs.declared.shapes.component.FuncType.{FuncType}
use Rattle.wac_types_shapes.specs.declared.shapes.component.InterfaceId.{InterfaceId}
use Rattle.wac_types_shapes.specs.declared.shapes.component.Interface.{Interface}
use Rattle.wac_types_shapes.specs.declared.shapes.component.WorldId.{WorldId}
use Rattle.wac_types_shapes.specs.declared.shapes.component.World.{World}
use Rattle.wac_types_shapes.specs.declared.shapes.component.ModuleTypeId.{ModuleTypeId}
use Rattle.wac_types_shapes.specs.declared.shapes.core_types.ModuleType.{ModuleType}
use Rattle.wac_types_shapes.specs.declared.shapes.component.ValueType.{ValueType}
use Rattle.wac_types_shapes.specs.declared.shapes.component.«Type».{«Type» as AnyType}
use Rattle.wac_types_shapes.specs.declared.shapes.component.«Type».TheVariants as ty
use Rattle.wac_types_collection.specs.collection.Collection.{Collection, IsWellFormed, func_mentions, kind_types, world_mentions, holds_type, item_at}
use Rattle.wac_types_shapes.specs.primitives.Tree.{TypeTree, absent, resource}
use Rattle.wac_types_collection.specs.collection.Held.{resolved}
use Rattle.wac_types_collection.specs.subtyping.Subtype.{Sub, IsPlain, resource_names, type_tree, listed_in}
use Rattle.wac_types.specs.private.comparison.Compare.{func_in, world_in, Offers, OffersCore, OffersModules}
use Rattle.wac_types.specs.private.comparison.Settling.{Asks, RestsOn}
use Rattle.wac_types.proofs.lemmas.comparison.Opens.{Opens, in_case, opens_func, opens_interface, opens_world, opens_module}
use Rattle.wac_types.proofs.lemmas.comparison.Lighter.{lowers, lowers_func, resource_in}
use Rattle.wac_types.proofs.lemmas.comparison.Asking.{rests_on}
use Rattle.wac_types_collection.proofs.lemmas.subtyping.Relation.{plain_sub, plain_same}
use Rattle.wac_types.proofs.lemmas.comparison.Values.{sub_to}
use Rattle.wac_types.proofs.lemmas.comparison.Sorts.{type_sort, sorts_differ}
use Rattle.wac_types.proofs.lemmas.comparison.Subtyping.{of_instances}
use Rattle.wac_types.proofs.lemmas.comparison.CoreItems.{modules_from, modules_back}
use Rattle.wac_types.proofs.lemmas.comparison.Answering.{named_inj}

pub resource_plain : (c : Collection) (r : ResourceId) → IsPlain (type_tree c (ty.Resource r))
unfolding type_tree
resource_plain c r = in_case IsPlain (resource_names c (resolved c r)) absent resource tt (λ n. tt)

module _ (x y : Collection) where
  pub resources_are : (r s : ResourceId) → (resource_names x (resolved x r) ≡ resource_names y (resolved y s)) ↔ Sub (type_tree x (ty.Resource r)) (type_tree y (ty.Resource s))
  resources_are r s = (
    λ e. plain_same _ _ (resource_plain x r) (resource_in x r ∙ ap (λ o. option_case o absent resource) e ∙ sym (resource_in y s)),
    λ h. named_inj resource (λ m n e. cc) (λ m e. cc) _ _ (sym (resource_in x r) ∙ plain_sub _ _ (resource_plain x r) h ∙ resource_in y s),
  )

  -- subtyping of two types is that of their trees
  opened : {E : Type 0} (a b : AnyType) (ps qs : List AnyType) (u v : TypeTree Name) → Opens x a ps u → Opens y b qs v → (E ↔ Sub u v) → (E ↔ Sub (type_tree x a) (type_tree y b))
  opened a b ps qs u v oa ob iff = (λ e. sub_to _ _ u v oa.is ob.is (iff.0 e), λ s. iff.1 (sub_to u v _ _ (sym oa.is) (sym ob.is) s))

  module _ (wx : IsWellFormed x) (wy : IsWellFormed y) where
    funcs_are : (f g : FuncTypeId) (F G : FuncType) → item_at x.funcs f.0 ≡ Some F → item_at y.funcs g.0 ≡ Some G → (func_in x F ≡ func_in y G) ↔ Sub (type_tree x (ty.Func f)) (type_tree y (ty.Func g))
    funcs_are f g F G i j = opened _ _ _ _ _ _ (opens_func x wx f F i) (opens_func y wy g G j) (plain_same (func_in x F) (func_in y G) tt, plain_sub (func_in x F) (func_in y G) tt)

    pub interfaces_are : (f g : InterfaceId) (F G : Interface) → item_at x.interfaces f.0 ≡ Some F → item_at y.interfaces g.0 ≡ Some G → Offers x F.exports y G.exports ↔ Sub (type_tree x (ty.Interface f)) (type_tree y (ty.Interface g))
    interfaces_are f g F G i j = opened _ _ _ _ _ _ (opens_interface x wx f F i) (opens_interface y wy g G j) (Sub.instances (listed_in x F.exports) (listed_in y G.exports), of_instances (listed_in x F.exports) (listed_in y G.exports))

    pub worlds_are : (f g : WorldId) (F G : World) → item_at x.worlds f.0 ≡ Some F → item_at y.worlds g.0 ≡ Some G → Sub (world_in x F) (world_in y G) ↔ Sub (type_tree x (ty.World f)) (type_tree y (ty.World g))
    worlds_are f g F G i j = opened _ _ _ _ _ _ (opens_world x wx f F i) (opens_world y wy g G j) (λ s. s, λ s. s)

    pub modules_are : (f g : ModuleTypeId) (F G : ModuleType) → item_at x.modules f.0 ≡ Some F → item_at y.modules g.0 ≡ Some G
        → (OffersModules G.imports F.imports × OffersCore F.exports G.exports) ↔ Sub (type_tree x (ty.Module f)) (type_tree y (ty.Module g))
    modules_are f g F G i j = opened _ _ _ _ _ _ (opens_module x wx f F i) (opens_module y wy g G j) (modules_from F G, modules_back F G)

    module _ (t : Bool) (o k : Asked) where
      pub answer_funcs : (f g : FuncTypeId) (F G : FuncType) → item_at x.funcs f.0 ≡ Some F → item_at y.funcs g.0 ≡ Some G → Asks t x y (func_mentions F) (func_mentions G) o k (func_in x F ≡ func_in y G)
          → RestsOn t x y (ty.Func f) (ty.Func g) o k (Sub (type_tree x (ty.Func f)) (type_tree y (ty.Func g)))
      answer_funcs f g F G i j = let iff = funcs_are f g F G i j in rests_on t x y _ _ _ _ _ _ o k (lowers_func x wx f F i) (lowers_func y wy g G j) iff.0 iff.1

      pub answer_interfaces : (f g : InterfaceId) (F G : Interface) → item_at x.interfaces f.0 ≡ Some F → item_at y.interfaces g.0 ≡ Some G → Asks t x y (kind_types F.exports) (kind_types G.exports) o k (Offers x F.exports y G.exports)
          → RestsOn t x y (ty.Interface f) (ty.Interface g) o k (Sub (type_tree x (ty.Interface f)) (type_tree y (ty.Interface g)))
      answer_interfaces f g F G i j =
          let iff = interfaces_are f g F G i j in
          rests_on t x y _ _ _ _ _ _ o k (lowers x (ty.Interface f) _ _ refl (opens_interface x wx f F i)) (lowers y (ty.Interface g) _ _ refl (opens_interface y wy g G j)) iff.0 iff.1

      pub answer_worlds : (f g : WorldId) (F G : World) → item_at x.worlds f.0 ≡ Some F → item_at y.worlds g.0 ≡ Some G → Asks t x y (world_mentions F) (world_mentions G) o k (Sub (world_in x F) (world_in y G))
          → RestsOn t x y (ty.World f) (ty.World g) o k (Sub (type_tree x (ty.World f)) (type_tree y (ty.World g)))
      answer_worlds f g F G i j =
          let iff = worlds_are f g F G i j in
          rests_on t x y _ _ _ _ _ _ o k (lowers x (ty.World f) _ _ refl (opens_world x wx f F i)) (lowers y (ty.World g) _ _ refl (opens_world y wy g G j)) iff.0 iff.1

    pub funcs_refuse : (f g : FuncTypeId) (F G : FuncType) → item_at x.funcs f.0 ≡ Some F → item_at y.funcs g.0 ≡ Some G → (func_in x F ≡ func_in y G → ⊥) → Sub (type_tree x (ty.Func f)) (type_tree y (ty.Func g)) → ⊥
    funcs_refuse f g F G i j n h = n ((funcs_are f g F G i j).1 h)

    -- of two types of which only the first is of a sort, it is no subtype
    pub other_sort : (a b A : AnyType) → holds_type x a ≡ true → holds_type y b ≡ true → a ≡ A → (type_sort A ≡ type_sort b → ⊥) → Sub (type_tree x a) (type_tree y b) → ⊥
    other_sort a b A ha hb p n = sorts_differ x y wx wy a b ha hb (λ e. n (sym (ap type_sort p) ∙ e))

pub no_resource : (b : AnyType) → ((q : ResourceId) → b ≡ ty.Resource q → ⊥) → 1 ≡ type_sort b → ⊥
no_resource (ty.Resource q) n h = n q refl
no_resource _ n h = cc

pub no_func : (b : AnyType) → ((q : FuncTypeId) → b ≡ ty.Func q → ⊥) → 2 ≡ type_sort b → ⊥
no_func (ty.Func q) n h = n q refl
no_func _ n h = cc

pub no_value : (b : AnyType) → ((q : ValueType) → b ≡ ty.Value q → ⊥) → 3 ≡ type_sort b → ⊥
no_value (ty.Value q) n h = n q refl
no_value _ n h = cc

pub no_interface : (b : AnyType) → ((q : InterfaceId) → b ≡ ty.Interface q → ⊥) → 4 ≡ type_sort b → ⊥
no_interface (ty.Interface q) n h = n q refl
no_interface _ n h = cc

pub no_world : (b : AnyType) → ((q : WorldId) → b ≡ ty.World q → ⊥) → 5 ≡ type_sort b → ⊥
no_world (ty.World q) n h = n q refl
no_world _ n h = cc

pub no_module : (b : AnyType) → ((q : ModuleTypeId) → b ≡ ty.Module q → ⊥) → 6 ≡ type_sort b → ⊥
no_module (ty.Module q) n h = n q refl
no_module _ n h = cc
