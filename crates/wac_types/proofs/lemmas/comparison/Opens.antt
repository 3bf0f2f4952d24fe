-- What the types that a comparison opens are made of.
use Rattle.std.proofs.Common.{ℕ, suc, true, List, [], ◌≡◌, length, refl, ap, ◌∙◌, subst, Option, Some, None, nat_lt, slice_get}
use Rattle.wac_types_shapes.specs.primitives.Name.{Name, option_case}
use Rattle.wac_types_collection.specs.declared.collection.collection.Held.{Held}
use Rattle.wac_types_shapes.specs.declared.primitives.component.PrimitiveType.{PrimitiveType}
use Rattle.wac_types_shapes.specs.declared.shapes.component.FuncType.{FuncType}
use Rattle.wac_types_shapes.specs.declared.shapes.component.FuncTypeId.{FuncTypeId}
use Rattle.wac_types_shapes.specs.declared.shapes.component.DefinedType.{DefinedType}
use Rattle.wac_types_shapes.specs.declared.shapes.component.DefinedTypeId.{DefinedTypeId}
use Rattle.wac_types_shapes.specs.declared.shapes.component.Interface.{Interface}
use Rattle.wac_types_shapes.specs.declared.shapes.component.InterfaceId.{InterfaceId}
use Rattle.wac_types_shapes.specs.declared.shapes.component.World.{World}
use Rattle.wac_types_shapes.specs.declared.shapes.component.WorldId.{WorldId}
use Rattle.wac_types_shapes.specs.declared.shapes.component.ModuleTypeId.{ModuleTypeId}
use Rattle.wac_types_shapes.specs.declared.shapes.core_types.ModuleType.{ModuleType}
use Rattle.wac_types_shapes.specs.declared.shapes.component.ValueType.TheVariants as val
use Rattle.wac_types_shapes.specs.declared.shapes.component.«Type».{«Type» as AnyType}
use Rattle.wac_types_shapes.specs.declared.shapes.component.«Type».TheVariants as ty
use Rattle.wac_types_collection.specs.collection.Collection.{Collection, func_mentions, defined_mentions, world_mentions, used_types, kind_types, IsWellFormed, IsBefore, AreBefore, holds_type, item_at}
use Rattle.wac_types_shapes.specs.primitives.Tree.{TypeTree, primitive, instance}
use Rattle.wac_types_collection.specs.collection.Held.{module_tree, of_held}
use Rattle.wac_types_collection.specs.subtyping.Subtype.{type_tree, listed_in}
use Rattle.wac_types.specs.private.comparison.Compare.{value_in, func_in, defined_in, world_in}
use Rattle.wac_types_collection.specs.subtyping.Ranks.{rank_of_held, type_rank}
use Rattle.wac_types.specs.private.comparison.Questions.{AreHeld}
use Rattle.wac_types_collection.proofs.lemmas.collection.Growth.{map_all, type_within}
use Rattle.wac_types_collection.proofs.lemmas.collection.Steady.{all_right}
use Rattle.wac_types_collection.proofs.lemmas.subtyping.Unfolding.{held_item, within, type_step}

-- what holds of the one and of each of the others
pub in_case : {A B : Type 0} (P : B → Type 0) (o : Option A) (b : B) (f : A → B) → P b → ((a : A) → P (f a)) → P (option_case o b f)
in_case P None b f h g = h
in_case P (Some a) b f h g = g a

pub primitive_in : (c : Collection) (p : PrimitiveType) → value_in c (val.Primitive p) ≡ primitive p
unfolding type_tree
primitive_in c p = refl

-- a type of which something is held: its rank, and its tree from its parts, which are of lower rank
pub record Opens (c : Collection) (a : AnyType) (parts : List AnyType) (tree : TypeTree Name) : Type 0 where
  pub before : ℕ
  pub rank : type_rank c a ≡ suc before
  pub held : AreBefore c before parts
  pub is : type_tree c a ≡ tree

module _ {A : Type 0} (c : Collection) (a : AnyType) (mentions : A → List AnyType) (tree : A → TypeTree Name) where
  opens : (xs : List (Held A)) (i : ℕ) → ((h : Held A) → slice_get xs i ≡ Some h → AreBefore c h.before (mentions h.item)) → type_rank c a ≡ rank_of_held (slice_get xs i)
      → (nat_lt i (length xs) ≡ true → type_tree c a ≡ of_held tree (slice_get xs i)) → (x : A) → item_at xs i ≡ Some x → Opens c a (mentions x) (tree x)
  opens xs i before rank step x at =
      let h = held_item _ x at in
      let P : A → Type 0 = λ y. AreBefore c h.0.before (mentions y) in
      record {
        before = h.0.before;
        rank = rank ∙ ap rank_of_held h.1;
        held = subst P h.2 (before h.0 h.1);
        is = step (within xs i h.0 h.1) ∙ ap (of_held tree) h.1 ∙ ap tree h.2;
      }

pub opens_func : (c : Collection) → IsWellFormed c → (f : FuncTypeId) (x : FuncType) → item_at c.funcs f.0 ≡ Some x → Opens c (ty.Func f) (func_mentions x) (func_in c x)
unfolding type_tree
opens_func c wf f = opens c (ty.Func f) func_mentions (func_in c) c.funcs f.0 (λ h e. (wf.funcs f.0 h e).1) refl (type_step c wf (ty.Func f))

pub opens_defined : (c : Collection) → IsWellFormed c → (f : DefinedTypeId) (x : DefinedType) → item_at c.defined f.0 ≡ Some x → Opens c (ty.Value (val.Defined f)) (defined_mentions x) (defined_in c x)
unfolding type_tree
opens_defined c wf f = opens c (ty.Value (val.Defined f)) defined_mentions (defined_in c) c.defined f.0 (λ h e. (wf.defined f.0 h e).1) refl (type_step c wf (ty.Value (val.Defined f)))

pub opens_interface : (c : Collection) → IsWellFormed c → (i : InterfaceId) (x : Interface) → item_at c.interfaces i.0 ≡ Some x → Opens c (ty.Interface i) (kind_types x.exports) (instance (listed_in c x.exports))
unfolding type_tree
opens_interface c wf i = opens c (ty.Interface i) (λ x. kind_types x.exports) (λ x. instance (listed_in c x.exports)) c.interfaces i.0
    (λ h e. all_right (IsBefore c h.before) (used_types h.item.uses) (kind_types h.item.exports) (wf.interfaces i.0 h e).1) refl (type_step c wf (ty.Interface i))

pub opens_world : (c : Collection) → IsWellFormed c → (i : WorldId) (x : World) → item_at c.worlds i.0 ≡ Some x → Opens c (ty.World i) (world_mentions x) (world_in c x)
unfolding type_tree
opens_world c wf i = opens c (ty.World i) world_mentions (world_in c) c.worlds i.0 (λ h e. (wf.worlds i.0 h e).1) refl (type_step c wf (ty.World i))

pub opens_module : (c : Collection) → IsWellFormed c → (i : ModuleTypeId) (x : ModuleType) → item_at c.modules i.0 ≡ Some x → Opens c (ty.Module i) [] (module_tree x)
unfolding type_tree
opens_module c wf i = opens c (ty.Module i) (λ x. []) module_tree c.modules i.0 (λ h e. tt) refl (type_step c wf (ty.Module i))

-- what held types mention is held
module _ (c : Collection) (wf : IsWellFormed c) where
  held_of : (n : ℕ) (ts : List AnyType) → AreBefore c n ts → AreHeld c ts
  held_of n ts h = map_all (IsBefore c n) (λ t. holds_type c t ≡ true) (type_within c n) ts h

  pub func_held : (f : FuncTypeId) (x : FuncType) → item_at c.funcs f.0 ≡ Some x → AreHeld c (func_mentions x)
  func_held f x at = held_of _ (func_mentions x) (opens_func c wf f x at).held

  pub defined_held : (f : DefinedTypeId) (x : DefinedType) → item_at c.defined f.0 ≡ Some x → AreHeld c (defined_mentions x)
  defined_held f x at = held_of _ (defined_mentions x) (opens_defined c wf f x at).held

  pub interface_held : (i : InterfaceId) (x : Interface) → item_at c.interfaces i.0 ≡ Some x → AreHeld c (kind_types x.exports)
  interface_held i x at = held_of _ (kind_types x.exports) (opens_interface c wf i x at).held

  pub world_held : (i : WorldId) (x : World) → item_at c.worlds i.0 ≡ Some x → AreHeld c (world_mentions x)
  world_held i x at = held_of _ (world_mentions x) (opens_world c wf i x at).held
