-- What imports of the root cost.
use Rattle.std.specs.Prelude.{ℕ, ◌≡◌, ◌≤◌, ◌+◌, ◌*◌, ◌^◌, Bool, List, [], ◌∷◌, length, Option, Some, None, Result, Err}
use Rattle.std.proofs.Common.{ap, sym, subst, arith}
use Rattle.wac_types_shapes.specs.primitives.Name.{Name, option_case}
use Rattle.wac_types_shapes.specs.declared.shapes.component.ModuleTypeId.{ModuleTypeId}
use Rattle.wac_types_shapes.specs.declared.shapes.core_types.ModuleType.{ModuleType}
use Rattle.wac_types_shapes.specs.declared.shapes.component.«Type».{«Type» as AnyType}
use Rattle.wac_types_shapes.specs.declared.shapes.component.«Type».TheVariants as ty
use Rattle.wac_types_collection.specs.collection.Collection.{Collection, item_at}
use Rattle.wac_types_weight.specs.Weight.{module_parts, own}
use Rattle.wac_binary.specs.Items.{ModuleDecl}
use Rattle.wac_binary.specs.Bytes.{module_bytes}
use Rattle.wac_binary.specs.declared.fault.BinaryFault.{BinaryFault}
use Rattle.wac_binary.specs.declared.fault.BinaryFault.TheVariants.{TooLarge}
use Rattle.wac_binary.specs.declared.sorts.Description.{Description}
use Rattle.wac_encode_scopes.specs.declared.encodable.Encodable.{Encodable}
use Rattle.wac_encode_scopes.specs.declared.encodable.Encodable.TheVariants.{Builder, Instance, Component}
use Rattle.wac_encode_scopes.specs.declared.scope.Scope.{Scope}
use Rattle.wac_encode_scopes.specs.declared.state.State.{State}
use Rattle.wac_encode_scopes.specs.Contents.{content_of}
use Rattle.wac_encode_scopes.specs.Roots.{IsRoot, and_import}
use Rattle.wac_encode_stacks.specs.Scopes.{Content, declarations, root}
use Rattle.wac_encode_scopes.specs.private.Paid.{ArePriced, IsAnswerPaid, IsOpenType, IsPaid, IsPriced, primitive_cost, type_cost}
use Rattle.wac_encode_scopes.proofs.Paying.{pays-with-more, then-answer}
use Rattle.wac_encode_interfaces.specs.private.Paid.{import_type_cost, inside_cost, module_cost}
use Rattle.wac_encode_interfaces.proofs.Answered.{up-to-answer}
use Rattle.wac_encode_interfaces.proofs.Besides.{same-items}

-- ---- core modules

own-is : (c : Collection) (i : ModuleTypeId) (m : ModuleType) → item_at c.modules i.0 ≡ Some m → own c (ty.Module i) ≡ 1 + module_parts m
own-is c i m at = ap (λ (o : Option ModuleType). option_case o 0 (λ x. 1 + module_parts x)) at

-- The type of a core module, with the head of a section, costs no more than its weight.
pub module-bytes : (c : Collection) (i : ModuleTypeId) (m : ModuleType) (t : List ModuleDecl) → item_at c.modules i.0 ≡ Some m → length (module_bytes t) ≤ 6 + 30 * module_parts m → 11 + length (module_bytes t) ≤ 34 * own c (ty.Module i)
module-bytes c i m t at few = small (length (module_bytes t)) (module_parts m) (own c (ty.Module i)) few (own-is c i m at)
  where
    small : (t p o : ℕ) → t ≤ 6 + 30 * p → o ≡ 1 + p → 11 + t ≤ 34 * o
    small t p o f g = omega (arith, f, g)

-- The answer of the writer of core module types, if it is refused.
abbrev pub refused : BinaryFault → Result (List ModuleDecl) BinaryFault
refused e = Err e

-- The type of a core module that does not fit is heavy.
pub module-room : (c : Collection) (i : ModuleTypeId) (m : ModuleType) → item_at c.modules i.0 ≡ Some m → (e : BinaryFault) → e ≡ TooLarge → (refused e ≡ refused TooLarge → 2 ^ 32 ≤ 30 * module_parts m) → 2 ^ 32 ≤ 34 * own c (ty.Module i)
module-room c i m at e is heavy = all-heavy (2 ^ 32) (module_parts m) (own c (ty.Module i)) (heavy (ap refused is)) (own-is c i m at)
  where
    all-heavy : (l p o : ℕ) → l ≤ 30 * p → o ≡ 1 + p → l ≤ 34 * o
    all-heavy l p o f g = omega (arith, f, g)

-- ---- other imports

primitive-less : (x : Content) → primitive_cost x ≤ 12
primitive-less (declarations ds) = omega arith
primitive-less (root items) = omega arith

import-less : (c : Collection) (x : Content) (t : AnyType) → inside_cost c t + type_cost c x t ≤ import_type_cost c t
import-less c x (ty.Value v) = let less = primitive-less x in omega (arith, less)
import-less c x (ty.Interface i) = plus (inside_cost c (ty.Interface i))
  where
    plus : (n : ℕ) → n + 0 ≤ n
    plus n = omega arith
import-less c x (ty.World w) = same (type_cost c x (ty.World w))
  where
    same : (n : ℕ) → 0 + n ≤ n
    same n = omega arith
import-less c x (ty.Resource r) = omega arith
import-less c x (ty.Func f) = omega arith
import-less c x (ty.Module m) = omega arith

pub inside-import : (c : Collection) (t : AnyType) → inside_cost c t ≤ import_type_cost c t
inside-import c t = less (inside_cost c t) (type_cost c (declarations []) t) (import_type_cost c t) (import-less c (declarations []) t)
  where
    less : (x y z : ℕ) → x + y ≤ z → x ≤ z
    less x y z h = omega (arith, h)

pub described-import-paid : {T : Type 0} (c : Collection) (b : Bool) (ts : List AnyType) (t : AnyType) (s m u : State) (r : Result T BinaryFault) → IsPaid c b [] (inside_cost c t) s m → IsAnswerPaid c b ts (type_cost c (content_of m.here.content) t) m u r → IsAnswerPaid c b ts (import_type_cost c t) s u r
described-import-paid c b ts t s m u r g h =
    up-to-answer c b ts (inside_cost c t + type_cost c (content_of m.here.content) t) (import_type_cost c t) s u r (import-less c (content_of m.here.content) t)
    (then-answer c b ts (inside_cost c t) (type_cost c (content_of m.here.content) t) s m u r (pays-with-more c b ts (inside_cost c t) s m g) h)

-- An import keeps which scopes may be the root.
pub priced-import : (b : Bool) (n : Name) (d : Description) (s t : State) → IsRoot s.here.content → t.around ≡ s.around → t.here.content ≡ and_import n d s.here.content → IsPriced b s → IsPriced b t
priced-import b n d s t is_root around content p =
    subst (λ (x : Encodable). ArePriced b t.around.items x) (sym content)
    (subst (λ (ss : List Scope). ArePriced b ss (and_import n d s.here.content)) (sym (same-items t s around)) (by_around s.around.items p))
  where
    not-open : (x : Encodable) → IsRoot x → IsOpenType x → ⊥
    not-open (Builder items) r o = o
    not-open (Instance ds) r o = r
    not-open (Component ds) r o = r

    by_around : (ss : List Scope) → ArePriced b ss s.here.content → ArePriced b ss (and_import n d s.here.content)
    by_around [] q = tt
    by_around (y ∷ ys) q = absurd (not-open s.here.content is_root q.2)

pub unknown-cost : (c : Collection) (i : ModuleTypeId) (known : Option ℕ) → known ≡ None → module_cost c i known ≡ 34 * own c (ty.Module i)
unknown-cost c i known none = ap (λ (o : Option ℕ). module_cost c i o) none
