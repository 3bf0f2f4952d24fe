-- The trees of types by their free resources.
use Rattle.std.specs.List.{AllByRecursion}
use Rattle.std.proofs.Common.{◌≡◌, true, false, inl, inr, List, [], ◌∷◌, Option, Some, None, Contains, refl, ap, sym, ◌∙◌, subst}
use Rattle.wac_types_shapes.specs.primitives.Name.{Name, same_name, option_case}
use Rattle.wac_types_shapes.specs.primitives.Tree.{exported, named, Leaf, resource}
use Rattle.wac_types_shapes.specs.shapes.Kinds.{kind_type}
use Rattle.wac_types_shapes.specs.shapes.Named.{NoNameTwice}
use Rattle.wac_types_shapes.specs.declared.shapes.component.DefinedType.{DefinedType}
use Rattle.wac_types_shapes.specs.declared.shapes.component.FuncType.{FuncType}
use Rattle.wac_types_shapes.specs.declared.shapes.component.Interface.{Interface}
use Rattle.wac_types_shapes.specs.declared.shapes.component.InterfaceId.{InterfaceId}
use Rattle.wac_types_shapes.specs.declared.shapes.component.ItemKind.{ItemKind}
use Rattle.wac_types_shapes.specs.declared.shapes.component.ItemKind.TheVariants as kind
use Rattle.wac_types_shapes.specs.declared.shapes.component.ResourceId.{ResourceId}
use Rattle.wac_types_shapes.specs.declared.shapes.component.ValueType.{ValueType}
use Rattle.wac_types_shapes.specs.declared.shapes.component.ValueType.TheVariants as val
use Rattle.wac_types_shapes.specs.declared.shapes.component.«Type».{«Type» as AnyType}
use Rattle.wac_types_shapes.specs.declared.shapes.component.«Type».TheVariants as ty
use Rattle.wac_types_collection.specs.collection.Collection.{Collection, IsWellFormed, item_at, value_types, func_values, func_mentions, defined_values, defined_mentions}
use Rattle.wac_types_collection.specs.collection.Held.{resolved}
use Rattle.wac_types_collection.specs.collection.Bound.{Bindings, own_name, inside_interface, binds_here}
use Rattle.wac_types_collection.proofs.lemmas.wide.Members.{in_none, in_one, in_parts}
use Rattle.wac_encode_stacks.specs.Good.{Holds, seen_inside}
use Rattle.wac_encode_stacks.proofs.HeldParts.{handles-are-bound, resource-is-bound, holds-parts, holds-func-parts, holds-items}
use Rattle.wac_encode_stacks.proofs.Instances.{fresh-in-interface}
use Rattle.wac_encode_stacks.proofs.Moved.{own_leaf}
use Rattle.wac_encode_stacks.proofs.Values.{resource-held}
use Rattle.wac_encode_faults.specs.Free as free
use Rattle.wac_encode_faults.specs.Free.{parts, IsFree}
use Rattle.wac_encode_interfaces.specs.private.FreeTrees.{TreesByFree}
use Rattle.wac_encode_scopes.proofs.FreeAgreeing.{held-agree, held-free}
use Rattle.wac_encode_interfaces.proofs.Bound.{found-in}
use Rattle.wac_encode_interfaces.proofs.TypesTree.{part-held}

-- what a type mentions is held if the type is

all-held : (c : Collection) (m : Bindings) (vs : List ValueType) (u : AnyType) → AllByRecursion (λ v. Holds c m (ty.Value v)) vs → Contains (value_types vs) u → Holds c m u
all-held c m [] u all h = absurd (in_none u h)
all-held c m (v ∷ vs) u all h = elim (in_parts (ty.Value v) u (value_types vs) h) [
  | inl same ↦ subst (Holds c m) (sym same) all.0
  | inr w ↦ all-held c m vs u all.1 w
]

handle-held : (c : Collection) (m : Bindings) (r : ResourceId) (u : AnyType) → Contains (ty.Resource r ∷ []) u → (l : Leaf) × (m (resolved c r) ≡ Some l) → Holds c m u
handle-held c m r u there at = subst (Holds c m) (sym (in_one (ty.Resource r) u there)) (resource at.0, resource-held c m r at.0 at.1)

part-holds : (c : Collection) → IsWellFormed c → (m : Bindings) (t u : AnyType) → Contains (parts c t) u → Holds c m t → Holds c m u
part-holds c wf m (ty.Func f) u there h = by (item_at c.funcs f.0) refl there
  where
    by : (o : Option FuncType) → item_at c.funcs f.0 ≡ o → Contains (option_case o [] func_mentions) u → Holds c m u
    by None at k = absurd (in_none u k)
    by (Some x) at k = all-held c m (func_values x) u (holds-func-parts c wf m f x at h) k
part-holds c wf m (ty.Value (val.Primitive p)) u there h = absurd (in_none u there)
part-holds c wf m (ty.Value (val.Own r)) u there h = handle-held c m r u there ((handles-are-bound c m r).0 h)
part-holds c wf m (ty.Value (val.Borrow r)) u there h = handle-held c m r u there ((handles-are-bound c m r).1 h)
part-holds c wf m (ty.Value (val.Defined d)) u there h = by (item_at c.defined d.0) refl there
  where
    by : (o : Option DefinedType) → item_at c.defined d.0 ≡ o → Contains (option_case o [] defined_mentions) u → Holds c m u
    by None at k = absurd (in_none u k)
    by (Some x) at k = all-held c m (defined_values x) u (holds-parts c wf m d x at h) k
part-holds c wf m (ty.Resource r) u there h = absurd (in_none u there)
part-holds c wf m (ty.Interface i) u there h = absurd (in_none u there)
part-holds c wf m (ty.World w) u there h = absurd (in_none u there)
part-holds c wf m (ty.Module k) u there h = absurd (in_none u there)

-- an export in which a resource is free that is not the interface's own is not fresh

resource-free : (c : Collection) (t : AnyType) (r : ResourceId) → IsFree c t r → (q : ResourceId) → t ≡ ty.Resource q → r ≡ resolved c q
resource-free c _ _ (free.itself p) q is = ap (resolved c) (one p q is)
  where
    one : (p q : ResourceId) → ty.Resource p ≡ ty.Resource q → p ≡ q
    one p q is = cc
resource-free c t r (free.in_part _ u _ there more) q is = absurd (in_none u (subst (λ (z : AnyType). Contains (parts c z) u) is there))
resource-free c _ r (free.in_export i it n k _ at listed not_own more) q is = cc

not-fresh : (c : Collection) (it : Interface) (m : Bindings) (n : Name) (k : ItemKind) (r : ResourceId) → IsFree c (kind_type k) r → own_name c it.uses it.exports r ≡ None
    → binds_here c (inside_interface c it m) exported (named n ∷ []) k ≡ false
not-fresh c it m n (kind.TypeItem (ty.Resource q)) r is_free own =
    fresh-in-interface c it m n q
    ∙ ap (λ (o : Option Name). option_case o false (λ z. same_name z n)) (subst (λ (x : ResourceId). own_name c it.uses it.exports x ≡ None) (resource-free c (ty.Resource q) r is_free q refl) own)
not-fresh c it m n (kind.TypeItem (ty.Func f)) r is_free own = refl
not-fresh c it m n (kind.TypeItem (ty.Value v)) r is_free own = refl
not-fresh c it m n (kind.TypeItem (ty.Interface i)) r is_free own = refl
not-fresh c it m n (kind.TypeItem (ty.World w)) r is_free own = refl
not-fresh c it m n (kind.TypeItem (ty.Module x)) r is_free own = refl
not-fresh c it m n (kind.Func f) r is_free own = refl
not-fresh c it m n (kind.Instance i) r is_free own = refl
not-fresh c it m n (kind.Component w) r is_free own = refl
not-fresh c it m n (kind.Module x) r is_free own = refl
not-fresh c it m n (kind.Value v) r is_free own = refl

bound-outside : (o : Option Name) (b : Option Leaf) (l : Leaf) → o ≡ None → option_case o (seen_inside b) (λ q. Some (own_leaf q)) ≡ Some l → (x : Leaf) × (b ≡ Some x)
bound-outside None (Some x) l g h = (x, refl)
bound-outside None None l g h = let no : None ≡ Some l = h in cc
bound-outside (Some q) b l g h = let no : Some q ≡ None = g in cc

-- A type that has a tree has its free resources bound.
module _ (c : Collection) (wf : IsWellFormed c) (once : (i : InterfaceId) (it : Interface) → item_at c.interfaces i.0 ≡ Some it → NoNameTwice it.exports) where
  bound-free : (a : AnyType) (r : ResourceId) → IsFree c a r → (m : Bindings) → Holds c m a → (l : Leaf) × (m r ≡ Some l)
  bound-free _ _ (free.itself q) m h = resource-is-bound c m q h
  bound-free t r (free.in_part _ u _ there more) m h = bound-free u r more m (part-holds c wf m t u there h)
  bound-free _ r (free.in_export i it n k _ at listed not_own more) m h =
      let item = part-held holds-items c wf i it false m h.0 n k at (found-in it.exports n k (once i it at) listed) (λ no. absurd (different no)) (λ n'. not-fresh c it n' n k r more not_own) h.1 in
      let inner = bound-free (kind_type k) r more (inside_interface c it m) item in
      bound-outside (own_name c it.uses it.exports r) (m r) inner.0 not_own inner.1
    where
      different : false ≡ true → ⊥
      different e = cc

pub trees_by_free : TreesByFree
trees_by_free = record {
  held = held-free;
  agree = λ c m n a same. held-agree c m n a same;
  bound = λ c wf once m a t held r is_free. bound-free c wf once a r is_free m (t, held);
}
