-- Two types of one component: each fits the other.
use Rattle.std.proofs.Common.{◌≡◌, ◌≢◌, refl, false}
use Rattle.wac_component.proofs.component_types.Cases.{split3}
use Rattle.wac_component.proofs.component_types.Terms.{eqr, a, b, i, r, path, path2, all1}
use Rattle.wac_component.proofs.component_types.Resources.{two_tree, two_tree_inner}
use Rattle.wac_types_shapes.specs.primitives.Name.{Name, same_name}
use Rattle.wac_types_shapes.specs.primitives.Tree.{exported, Tree, absent, component_item}
use Rattle.wac_component.specs.ItemSubtype.{IsItemSubtype, same, instances, components}

when0 : (zs xs ys : Name → Tree) → ((n : Name) → zs n ≡ absent) → (n : Name) → zs n ≢ absent → IsItemSubtype (xs n) (ys n)
when0 zs xs ys none_is n ne = absurd (ne (none_is n))

when3 : (zs xs ys : Name → Tree) (c d e : Name) → IsItemSubtype (xs c) (ys c) → IsItemSubtype (xs d) (ys d) → IsItemSubtype (xs e) (ys e) → ((n : Name) → same_name n c ≡ false → same_name n d ≡ false → same_name n e ≡ false → zs n ≡ absent) → (n : Name) → zs n ≢ absent → IsItemSubtype (xs n) (ys n)
when3 zs xs ys c d e p q s none_is = split3 (λ n. zs n ≢ absent → IsItemSubtype (xs n) (ys n)) c d e (λ ne. p) (λ ne. q) (λ ne. s) (λ n h k l ne. absurd (ne (none_is n h k l)))

pub outer_fits : IsItemSubtype (component_item two_tree) (component_item two_tree_inner)
outer_fits = components _ _ _ _ (when0 _ _ _ (λ n. refl))
    (when3 _ _ _ a b i (same (eqr exported 0 (path a))) (same (eqr exported 0 (path a)))
    (instances _ _ (all1 _ r (same (eqr exported 1 (path a))) (λ n h. rw h refl)))
    (λ n h k l. rw (h, k, l) refl))

pub inner_fits : IsItemSubtype (component_item two_tree_inner) (component_item two_tree)
inner_fits = components _ _ _ _ (when0 _ _ _ (λ n. refl))
    (when3 _ _ _ a b i (same (eqr exported 0 (path2 i r))) (same (eqr exported 0 (path2 i r)))
    (instances _ _ (all1 _ r (same (eqr exported 1 (path2 i r))) (λ n h. rw h refl)))
    (λ n h k l. rw (h, k, l) refl))
