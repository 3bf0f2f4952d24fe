-- Aliases of value types are what they end at.
use Rattle.std.specs.Prelude.{ℕ, zero, suc, ◌≡◌, Option, Some, None}
use Rattle.std.proofs.Common.{refl}
use Rattle.wac_types_shapes.specs.primitives.Name.{option_case}
use Rattle.wac_types_shapes.specs.declared.shapes.component.DefinedType.{DefinedType}
use Rattle.wac_types_shapes.specs.declared.shapes.component.DefinedType.TheVariants as def
use Rattle.wac_types_shapes.specs.declared.shapes.component.ValueType.{ValueType}
use Rattle.wac_types_shapes.specs.declared.shapes.component.ValueType.TheVariants as val
use Rattle.wac_types_shapes.specs.declared.shapes.component.«Type».TheVariants as ty
use Rattle.wac_types_shapes.specs.primitives.Tree.{Tree}
use Rattle.wac_types_collection.specs.collection.Collection.{Collection, IsWellFormed, size, item_at}
use Rattle.wac_types_collection.specs.collection.Aliases.{aliased, value_resolved, value_resolved_in}
use Rattle.wac_types_collection.specs.collection.Bound.{Bindings}
use Rattle.wac_encode_stacks.specs.Good.{IsHeld}
use Rattle.wac_encode_stacks.specs.private.Laws.{IsItsEnd}
use Rattle.wac_encode_stacks.proofs.Values.{alias-held, alias-end}

ends-held : (n : ℕ) (c : Collection) → IsWellFormed c → (m : Bindings) (v : ValueType) (t : Tree) → IsHeld c m (ty.Value (value_resolved_in n c v)) t → IsHeld c m (ty.Value v) t
ends-held zero c wf m v t h = h
ends-held (suc n) c wf m (val.Primitive p) t h = h
ends-held (suc n) c wf m (val.Own r) t h = h
ends-held (suc n) c wf m (val.Borrow r) t h = h
ends-held (suc n) c wf m (val.Defined d) t h = by_item (λ w k. ends-held n c wf m w t k) (item_at c.defined d.0) refl h
  where
    by_item : ((w : ValueType) → IsHeld c m (ty.Value (value_resolved_in n c w)) t → IsHeld c m (ty.Value w) t) → (o : Option DefinedType) → item_at c.defined d.0 ≡ o → IsHeld c m (ty.Value (option_case (option_case o None aliased) (val.Defined d) (λ target. value_resolved_in n c target))) t → IsHeld c m (ty.Value (val.Defined d)) t
    by_item below None e k = k
    by_item below (Some (def.Alias w)) e k = alias-held c wf m d w t e (below w k)
    by_item below (Some x) e k = k

pub is-its-end : IsItsEnd
is-its-end c wf m v t h = ends-held (size c) c wf m v t h

ended-held : (n : ℕ) (c : Collection) → IsWellFormed c → (m : Bindings) (v : ValueType) (t : Tree) → IsHeld c m (ty.Value v) t → IsHeld c m (ty.Value (value_resolved_in n c v)) t
ended-held zero c wf m v t h = h
ended-held (suc n) c wf m (val.Primitive p) t h = h
ended-held (suc n) c wf m (val.Own r) t h = h
ended-held (suc n) c wf m (val.Borrow r) t h = h
ended-held (suc n) c wf m (val.Defined d) t h = by_item (λ w k. ended-held n c wf m w t k) (item_at c.defined d.0) refl h
  where
    by_item : ((w : ValueType) → IsHeld c m (ty.Value w) t → IsHeld c m (ty.Value (value_resolved_in n c w)) t) → (o : Option DefinedType) → item_at c.defined d.0 ≡ o → IsHeld c m (ty.Value (val.Defined d)) t → IsHeld c m (ty.Value (option_case (option_case o None aliased) (val.Defined d) (λ target. value_resolved_in n c target))) t
    by_item below None e k = k
    by_item below (Some (def.Alias w)) e k = below w (alias-end c wf m d w t e k)
    by_item below (Some x) e k = k

-- and what they end at is what each of them is
pub end-held : (c : Collection) → IsWellFormed c → (m : Bindings) (v : ValueType) (t : Tree) → IsHeld c m (ty.Value v) t → IsHeld c m (ty.Value (value_resolved c v)) t
end-held c wf m v t h = ended-held (size c) c wf m v t h
