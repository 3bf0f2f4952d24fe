-- What a held world lists is held.
use Rattle.std.proofs.Common.{◌≡◌, ℕ, zero, suc, ◌&&◌, true, false, Bool, List, [], ◌∷◌, ◌++◌, refl, ap, ◌∙◌, sym, subst, Option, Some, None, ◌<◌, length, arith}
use Rattle.std.specs.Prelude.{slice_get, nat_lt}
use Rattle.std.proofs.lemmas.Bool.Decides.{nat_tests}
use Rattle.wac_types_shapes.specs.primitives.Name.{Name}
use Rattle.wac_types_shapes.specs.shapes.Kinds.{kind_type}
use Rattle.wac_types_shapes.specs.declared.shapes.component.ItemKind.{ItemKind}
use Rattle.wac_types_shapes.specs.declared.shapes.component.World.{World}
use Rattle.wac_types_collection.specs.collection.Collection.{Collection, IsWellFormed, holds_type, holds_all, kind_types, used_types, world_mentions, item_of, item_at}
use Rattle.wac_types_collection.specs.declared.collection.collection.Held.{Held}
use Rattle.wac_types_shapes.specs.declared.shapes.component.WorldId.{WorldId}
use Rattle.wac_types_shapes.specs.declared.shapes.component.InterfaceId.{InterfaceId}
use Rattle.wac_types_collection.specs.collection.Package.{PackageParts}
use Rattle.wac_graph_model.specs.declared.nodes.packages.PackageId.{PackageId}
use Rattle.wac_graph_model.specs.nodes.Graph.{Graph, package_at}
use Rattle.wac_graph_model.specs.nodes.Sound.{IsSound}
use Rattle.wac_types_collection.proofs.lemmas.collection.Growth.{all_within}
use Rattle.wac_types_collection.proofs.lemmas.collection.Mentioned.{all_append}

both : (a b : Bool) → (a && b) ≡ true → (a ≡ true) × (b ≡ true)
both true b h = (refl, h)
both false b h = cc

the-held : {A : Type 0} (xs : List (Held A)) (i : ℕ) (x : A) → item_at xs i ≡ Some x → (h : Held A) × (slice_get xs i ≡ Some h) × (h.item ≡ x)
the-held {A} xs i x at = split (slice_get xs i) refl at where
  split : (o : Option (Held A)) → slice_get xs i ≡ o → item_of o ≡ Some x → (h : Held A) × (slice_get xs i ≡ Some h) × (h.item ≡ x)
  split None _ wrong = cc
  split (Some h) is same = (h, is, cc)

-- the items of a held world
pub listed-held : (c : Collection) → IsWellFormed c → (i : ℕ) (w : World) → item_at c.worlds i ≡ Some w → (holds_all c (kind_types w.imports) ≡ true) × (holds_all c (kind_types w.exports) ≡ true)
listed-held c formed i w at =
    let (h, here, same) = the-held c.worlds i w at in
    let all : holds_all c (world_mentions h.item) ≡ true = all_within c h.before (world_mentions h.item) (formed.worlds i h here).1 in
    let items = both _ _ (sym (all_append (holds_type c) (used_types h.item.uses) (kind_types h.item.imports ++ kind_types h.item.exports)) ∙ all) in
    let r = both _ _ (sym (all_append (holds_type c) (kind_types h.item.imports) (kind_types h.item.exports)) ∙ items.1) in
    subst (λ (x : World). (holds_all c (kind_types x.imports) ≡ true) × (holds_all c (kind_types x.exports) ≡ true)) same r

-- one of held items
pub one-held : (c : Collection) (es : List (Name × ItemKind)) (i : ℕ) (e : Name × ItemKind) → holds_all c (kind_types es) ≡ true → slice_get es i ≡ Some e → holds_type c (kind_type e.1) ≡ true
one-held c [] i e all at = cc
one-held c (x ∷ es) zero e all at = let same : x ≡ e = cc in ap (λ (y : Name × ItemKind). holds_type c (kind_type y.1)) (sym same) ∙ (both _ _ all).0
one-held c (x ∷ es) (suc i) e all at = one-held c es i e (both _ _ all).1 at

within : (m n : ℕ) → nat_lt m n ≡ true → m < n
within m n h = grind (arith, nat_tests)

-- the world of a registered package is held
pub world-within : (g : Graph) (id : PackageId) (p : PackageParts) (w : WorldId) (t : Collection) → IsSound g → package_at g id ≡ Some p → w ≡ p.world → t ≡ g.types → w.0 < length t.worlds
world-within g id p w t sound at is same =
    within w.0 (length t.worlds) (ap (λ (x : WorldId). nat_lt x.0 (length t.worlds)) is ∙ ap (λ (k : Collection). nat_lt p.world.0 (length k.worlds)) same ∙ (sound.packages id p at).0)

-- and so is the interface of its instances
pub interface-within : (g : Graph) (id : PackageId) (p : PackageParts) (i : InterfaceId) (t : Collection) → IsSound g → package_at g id ≡ Some p → i ≡ p.instance_type → t ≡ g.types → i.0 < length t.interfaces
interface-within g id p i t sound at is same =
    within i.0 (length t.interfaces) (ap (λ (x : InterfaceId). nat_lt x.0 (length t.interfaces)) is ∙ ap (λ (k : Collection). nat_lt p.instance_type.0 (length k.interfaces)) same ∙ (sound.packages id p at).1)
