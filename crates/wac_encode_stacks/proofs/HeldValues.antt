-- What is held as a value type is a value type.
use Rattle.std.specs.Prelude.{ℕ, zero, suc, ◌≡◌, ◌≤◌, [], Option, Some, None, slice_get}
use Rattle.std.proofs.Common.{refl, ap, ◌∙◌, sym, subst, arith}
use Rattle.wac_types_shapes.specs.primitives.Name.{option_case}
use Rattle.wac_types_shapes.specs.declared.shapes.component.ResourceId.{ResourceId}
use Rattle.wac_types_shapes.specs.declared.shapes.component.DefinedTypeId.{DefinedTypeId}
use Rattle.wac_types_shapes.specs.declared.shapes.component.DefinedType.{DefinedType}
use Rattle.wac_types_shapes.specs.declared.shapes.component.DefinedType.TheVariants as def
use Rattle.wac_types_shapes.specs.declared.shapes.component.ValueType.{ValueType}
use Rattle.wac_types_shapes.specs.declared.shapes.component.ValueType.TheVariants as val
use Rattle.wac_types_shapes.specs.declared.shapes.component.«Type».TheVariants as ty
use Rattle.wac_types_collection.specs.declared.collection.collection.Held.{Held}
use Rattle.wac_types_shapes.specs.primitives.Tree.{imported, Leaf, Tree, absent, own, borrow, moved}
use Rattle.wac_types_collection.specs.collection.Collection.{Collection, IsWellFormed, IsValueBefore, AreBefore, AddedBefore, defined_mentions, item_of, item_at}
use Rattle.wac_types_collection.specs.collection.Held.{resolved}
use Rattle.wac_types_collection.specs.collection.Bound.{Bindings, held_tree}
use Rattle.wac_binary.specs.HasMeaning.{IsValue}
use Rattle.wac_encode_stacks.specs.Good.{IsHeld, Carries}
use Rattle.wac_encode_stacks.specs.private.HeldParts.{HoldsValue}
use Rattle.wac_encode_stacks.proofs.Unfolded.{type_before, value_more}
use Rattle.wac_encode_stacks.proofs.Values.{primitive-held, defined-step}

pub value-moved : (f : Leaf → Leaf) (t : Tree) → IsValue (moved f t) → IsValue t
value-moved f absent h = absurd h
value-moved f t h = h

-- bindings that call what m does not call somehow
abbrev pub called_somehow : Bindings → Bindings
called_somehow m r = option_case (m r) (Some (record { out = 0; side = imported; path = [] })) (λ l. Some l)

pub still-called : (m : Bindings) → Carries (λ l. l) m (called_somehow m)
still-called m r l e = ap (λ (o : Option Leaf). option_case o (Some (record { out = 0; side = imported; path = [] })) (λ k. Some k)) e

own-somehow : (o : Option Leaf) → IsValue (option_case (option_case o (Some (record { out = 0; side = imported; path = [] })) (λ l. Some l)) absent own)
own-somehow None = tt
own-somehow (Some l) = tt

borrow-somehow : (o : Option Leaf) → IsValue (option_case (option_case o (Some (record { out = 0; side = imported; path = [] })) (λ l. Some l)) absent borrow)
borrow-somehow None = tt
borrow-somehow (Some l) = tt

pub own-value : (c : Collection) (m : Bindings) (r : ResourceId) → IsValue (held_tree c (called_somehow m) (ty.Value (val.Own r)))
unfolding held_tree
own-value c m r = own-somehow (m (resolved c r))

pub borrow-value : (c : Collection) (m : Bindings) (r : ResourceId) → IsValue (held_tree c (called_somehow m) (ty.Value (val.Borrow r)))
unfolding held_tree
borrow-value c m r = borrow-somehow (m (resolved c r))

by-definition : (c : Collection) → IsWellFormed c → (n k : ℕ) (m : Bindings) (d : DefinedTypeId) (t : Tree) → ((w : ValueType) → IsValueBefore c n w → IsHeld c m (ty.Value w) t → IsValue t) → k ≤ n → (y : DefinedType) → item_at c.defined d.0 ≡ Some y → AreBefore c k (defined_mentions y) → IsHeld c m (ty.Value (val.Defined d)) t → IsValue t
by-definition c wf n k m d t below le (def.Alias w) at b h = below w (value_more c k n w le b.0) (λ f m' q. sym (defined-step c wf d (def.Alias w) at m') ∙ h f m' q)
by-definition c wf n k m d t below le y at b h = value-moved (λ l. l) t (subst IsValue (sym (defined-step c wf d y at m) ∙ h (λ l. l) m (λ r l e. e)) tt)

defined-below : (c : Collection) → IsWellFormed c → (n : ℕ) (m : Bindings) (d : DefinedTypeId) (t : Tree) → ((w : ValueType) → IsValueBefore c n w → IsHeld c m (ty.Value w) t → IsValue t) → AddedBefore (suc n) (slice_get c.defined d.0) → IsHeld c m (ty.Value (val.Defined d)) t → IsValue t
defined-below c wf n m d t below b h = by_item (slice_get c.defined d.0) refl b
  where
    by_item : (o : Option (Held DefinedType)) → slice_get c.defined d.0 ≡ o → AddedBefore (suc n) o → IsValue t
    by_item None e a = absurd a
    by_item (Some x) e a = by-definition c wf n x.before m d t below (omega (arith, a)) x.item (ap item_of e) (wf.defined d.0 x e).1 h

none-below : (o : Option (Held DefinedType)) → AddedBefore zero o → ⊥
none-below None a = a
none-below (Some x) a = absurd (omega (arith, a))

held-below : (c : Collection) → IsWellFormed c → (n : ℕ) (m : Bindings) (v : ValueType) (t : Tree) → IsValueBefore c n v → IsHeld c m (ty.Value v) t → IsValue t
held-below c wf n m (val.Primitive p) t b h = value-moved (λ l. l) t (subst IsValue (sym (primitive-held c m p (λ l. l) m (λ r l e. e)) ∙ h (λ l. l) m (λ r l e. e)) tt)
held-below c wf n m (val.Own r) t b h = value-moved (λ l. l) t (subst IsValue (h (λ l. l) (called_somehow m) (still-called m)) (own-value c m r))
held-below c wf n m (val.Borrow r) t b h = value-moved (λ l. l) t (subst IsValue (h (λ l. l) (called_somehow m) (still-called m)) (borrow-value c m r))
held-below c wf zero m (val.Defined d) t b h = absurd (none-below (slice_get c.defined d.0) b)
held-below c wf (suc n) m (val.Defined d) t b h = defined-below c wf n m d t (λ w b' h'. held-below c wf n m w t b' h') b h

pub holds-value : HoldsValue
holds-value c wf m v t held h = held-below c wf _ m v t (type_before c wf (ty.Value v) held) h
