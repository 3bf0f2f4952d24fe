-- Nothing is free in a type of a collection without resources.
use Rattle.std.proofs.Common.{◌<◌, ◌==◌, true, List, length, Contains, ◌≡◌, ◌⊎◌, ◌↔◌, inl, inr, subst, arith}
use Rattle.std.proofs.lemmas.Bool.{eqb-true}
use Rattle.wac_types_shapes.specs.primitives.Name.{Name}
use Rattle.wac_types_shapes.specs.shapes.Kinds.{kind_type}
use Rattle.wac_types_shapes.specs.declared.shapes.component.ItemKind.{ItemKind}
use Rattle.wac_types_shapes.specs.declared.shapes.component.ResourceId.{ResourceId}
use Rattle.wac_types_shapes.specs.declared.shapes.component.«Type».{«Type» as AnyType}
use Rattle.wac_types_shapes.specs.declared.shapes.component.«Type».TheVariants as ty
use Rattle.wac_types_collection.specs.collection.Collection.{Collection, IsWellFormed, holds_type}
use Rattle.wac_types_collection.specs.reach.Reach.{mentions}
use Rattle.wac_types_collection.proofs.lemmas.collection.Steady.{within}
use Rattle.wac_types_collection.proofs.lemmas.reach.Reaching.{mentioned_held}
use Rattle.wac_types_collection.proofs.lemmas.wide.Members.{in_none}
use Rattle.wac_encode_faults.specs.Free.{parts, IsFree}
use Rattle.wac_encode_faults.specs.Free as free
use Rattle.wac_encode_faults.specs.private.Binding.{IsFreeInItems}
use Rattle.wac_encode_faults.specs.private.Search.{AreHeld}
use Rattle.wac_encode_faults.proofs.FreeParts.{contained_is}
use Rattle.wac_encode_faults.proofs.FreeSets.{own_held}

part_held : (c : Collection) → IsWellFormed c → (t u : AnyType) → holds_type c t ≡ true → Contains (parts c t) u → holds_type c u ≡ true
part_held c wf (ty.Func f) u held h = mentioned_held c wf (ty.Func f) u held (contained_is (mentions c (ty.Func f)) u h)
part_held c wf (ty.Value v) u held h = mentioned_held c wf (ty.Value v) u held (contained_is (mentions c (ty.Value v)) u h)
part_held c wf (ty.Resource r) u held h = absurd (in_none u h)
part_held c wf (ty.Interface i) u held h = absurd (in_none u h)
part_held c wf (ty.World w) u held h = absurd (in_none u h)
part_held c wf (ty.Module m) u held h = absurd (in_none u h)

none_held : (c : Collection) (q : ResourceId) → length c.resources ≡ 0 → holds_type c (ty.Resource q) ≡ true → ⊥
none_held c q none held =
    let l : q.0 < 0 = subst (λ n. q.0 < n) none (within q.0 (length c.resources) held) in
    absurd (omega (arith, l))

pub none_free : (c : Collection) → IsWellFormed c → length c.resources ≡ 0 → (t : AnyType) (r : ResourceId) → holds_type c t ≡ true → IsFree c t r → ⊥
none_free c wf none _ _ held (free.itself q) = none_held c q none held
none_free c wf none t r held (free.in_part _ u _ h f) = none_free c wf none u r (part_held c wf t u held h) f
none_free c wf none _ r held (free.in_export i it n k _ at h own f) =
    none_free c wf none (kind_type k) r (own_held c wf i it (within i.0 (length c.interfaces) held) at (n, k) h) f

-- so nothing is added
pub nothing_free : (c : Collection) → IsWellFormed c → (length c.resources == 0) ≡ true → (t : AnyType) → holds_type c t ≡ true → (old : List ResourceId) (r : ResourceId)
    → Contains old r ↔ (Contains old r ⊎ IsFree c t r)
nothing_free c wf none t held old r = (λ h. inl h, λ h. elim h [ inl w ↦ w | inr f ↦ absurd (none_free c wf (eqb-true (length c.resources) 0 none) t r held f) ])

pub nothing_free_in_items : (c : Collection) → IsWellFormed c → (length c.resources == 0) ≡ true → (items : List (Name × ItemKind)) → AreHeld c items → (old : List ResourceId) (r : ResourceId)
    → Contains old r ↔ (Contains old r ⊎ IsFreeInItems c items r)
nothing_free_in_items c wf none items held old r = (
  λ h. inl h,
  λ h. elim h [ inl w ↦ w | inr k ↦ let (e, there, f) = k in absurd (none_free c wf (eqb-true (length c.resources) 0 none) (kind_type e.1) r (held e there) f) ],
)
