-- What lists the items of an interface or a world is its held tree.
use Rattle.std.specs.Prelude.{◌≡◌, ◌&&◌, Bool, true, false, List, [], ◌∷◌, map, Option, Some, None, slice_get, if◌then◌else◌}
use Rattle.std.proofs.Common.{refl, ap, ◌∙◌, sym}
use Rattle.std.proofs.Math.Path.{fun_ext}
use Rattle.std.proofs.Math.Dec.{eqb-suc-zero}
use Rattle.wac_types_shapes.specs.primitives.Name.{Name, same_name, find_name, option_case}
use Rattle.wac_types_shapes.proofs.lemmas.shapes.Names.{same_name-true}
use Rattle.wac_types_shapes.specs.declared.shapes.component.InterfaceId.{InterfaceId}
use Rattle.wac_types_shapes.specs.declared.shapes.component.WorldId.{WorldId}
use Rattle.wac_types_shapes.specs.declared.shapes.component.Interface.{Interface}
use Rattle.wac_types_shapes.specs.declared.shapes.component.World.{World}
use Rattle.wac_types_shapes.specs.declared.shapes.component.«Type».TheVariants as ty
use Rattle.wac_types_shapes.specs.declared.shapes.component.ItemKind.{ItemKind}
use Rattle.wac_types_shapes.specs.declared.shapes.component.ItemKind.TheVariants as kind
use Rattle.wac_types_shapes.specs.primitives.Tree.{Side, imported, exported, Place, named, Leaf, Tree, absent, instance, component, fresh, type_equal, function_item, instance_item, component_item, module_item, value_item, inside, moved}
use Rattle.wac_types_collection.specs.collection.Collection.{Collection, IsWellFormed, item_at}
use Rattle.wac_types_collection.specs.collection.Held.{resolved, items_under, item_tree, of_held, listed_tree, interface_tree, world_tree}
use Rattle.wac_types_collection.specs.collection.Bound.{Bindings, own_name, inside_interface, bound_by_imports, bound_in_world, same_side, same_path, is_here, binds_here, by_place, held_tree}
use Rattle.wac_encode_stacks.proofs.Unfolded.{unfolded_step, held_item, within}
use Rattle.wac_encode_stacks.specs.Good.{Carries, seen_inside}
use Rattle.wac_encode_stacks.specs.Listed.{IsItem, IsUnder, AreListed, HoldsInterface, HoldsWorld}
use Rattle.wac_encode_stacks.proofs.Moved.{ap2, on, changed, own_leaf, carries-inside, imports-kept, world-kept}

pub items-found : (g : Name × ItemKind → Tree) (es : List (Name × ItemKind)) (n : Name) → items_under (map (λ e. (e.0, g e)) es) n ≡ option_case (find_name es n) absent (λ k. g (n, k))
items-found g [] n = refl
items-found g (e ∷ es) n = by_case (same_name n e.0) refl (items-found g es n)
  where
    by_case : (b : Bool) → same_name n e.0 ≡ b → items_under (map (λ x. (x.0, g x)) es) n ≡ option_case (find_name es n) absent (λ k. g (n, k)) → (if b then g e else items_under (map (λ x. (x.0, g x)) es) n) ≡ option_case (if b then Some e.1 else find_name es n) absent (λ k. g (n, k))
    by_case true s i = ap (λ x. g (x, e.1)) (sym (same_name-true n e.0 s))
    by_case false s i = i

-- an item that is held is the item of the changed bindings, changed
item-held : (c : Collection) (m m' : Bindings) (f : Leaf → Leaf) → Carries f m m' → (side : Side) (n : Name) (k : ItemKind) (t : Tree) → binds_here c m' side (named n ∷ []) k ≡ binds_here c m side (named n ∷ []) k → IsItem c m side n k t → item_tree (held_tree c m') (binds_here c m' side (named n ∷ []) k) k ≡ moved f t
item-held c m m' f x side n (kind.TypeItem a) fresh same h = ap (λ b. if b then fresh else type_equal (held_tree c m' a)) (same ∙ h)
item-held c m m' f x side n (kind.TypeItem a) (type_equal t) same h = ap (λ b. if b then fresh else type_equal (held_tree c m' a)) (same ∙ h.0) ∙ ap type_equal (h.1 f m' x)
item-held c m m' f x side n (kind.Func g) (function_item t) same h = ap function_item (h f m' x)
item-held c m m' f x side n (kind.Instance i) (instance_item t) same h = ap instance_item (h f m' x)
item-held c m m' f x side n (kind.Component w) (component_item t) same h = ap component_item (h f m' x)
item-held c m m' f x side n (kind.Module k) (module_item t) same h = ap module_item (h f m' x)
item-held c m m' f x side n (kind.Value v) (value_item t) same h = ap value_item (h f m' x)
item-held c m m' f x side n k t same h = absurd h

listed-held : (c : Collection) (m m' : Bindings) (f : Leaf → Leaf) → Carries f m m' → (side : Side) (es : List (Name × ItemKind)) (items : Name → Tree) → ((n : Name) (k : ItemKind) → binds_here c m' side (named n ∷ []) k ≡ binds_here c m side (named n ∷ []) k) → AreListed c m side es items → (n : Name) → listed_tree (by_place c) c (held_tree c) m' side es n ≡ moved f (items n)
listed-held c m m' f x side es items same h n = items-found (λ e. item_tree (held_tree c m') (binds_here c m' side (named e.0 ∷ []) e.1) e.1) es n ∙ by_case (find_name es n) (items n) (h n)
  where
    by_case : (o : Option ItemKind) (t : Tree) → IsUnder c m side n o t → option_case o absent (λ k. item_tree (held_tree c m') (binds_here c m' side (named n ∷ []) k) k) ≡ moved f t
    by_case None t u = sym (ap (moved f) u)
    by_case (Some k) t u = item-held c m m' f x side n k t (same n k) u

-- nothing from around is bound here
pub not-here : (side : Side) (path : List Place) (o : Option Leaf) → is_here side path (seen_inside o) ≡ false
not-here side path None = refl
not-here side path (Some l) = ap (λ b. b && (same_side l.side side && same_path l.path path)) (eqb-suc-zero l.out)

pub here-inside : (c : Collection) (it : Interface) (m m' : Bindings) (path : List Place) (k : ItemKind) → binds_here c (inside_interface c it m') exported path k ≡ binds_here c (inside_interface c it m) exported path k
here-inside c it m m' path (kind.TypeItem (ty.Resource r)) = by_case (own_name c it.uses it.exports (resolved c r))
  where
    by_case : (o : Option Name) → is_here exported path (option_case o (seen_inside (m' (resolved c r))) (λ n. Some (own_leaf n))) ≡ is_here exported path (option_case o (seen_inside (m (resolved c r))) (λ n. Some (own_leaf n)))
    by_case (Some n) = refl
    by_case None = not-here exported path (m' (resolved c r)) ∙ sym (not-here exported path (m (resolved c r)))
here-inside c it m m' path k = refl

pub interface-step : (c : Collection) → IsWellFormed c → (i : InterfaceId) (it : Interface) → item_at c.interfaces i.0 ≡ Some it → (m : Bindings) → held_tree c m (ty.Interface i) ≡ interface_tree (by_place c) c (held_tree c) m it
unfolding held_tree
interface-step c wf i it at m =
    let h = held_item (slice_get c.interfaces i.0) it at in
    unfolded_step (by_place c) c wf m (ty.Interface i) (within c.interfaces i.0 h.0 h.1) ∙ ap (of_held (interface_tree (by_place c) c (held_tree c) m)) h.1 ∙ ap (interface_tree (by_place c) c (held_tree c) m) h.2

pub world-step : (c : Collection) → IsWellFormed c → (i : WorldId) (w : World) → item_at c.worlds i.0 ≡ Some w → (m : Bindings) → held_tree c m (ty.World i) ≡ world_tree (by_place c) c (held_tree c) m w
unfolding held_tree
world-step c wf i w at m =
    let h = held_item (slice_get c.worlds i.0) w at in
    unfolded_step (by_place c) c wf m (ty.World i) (within c.worlds i.0 h.0 h.1) ∙ ap (of_held (world_tree (by_place c) c (held_tree c) m)) h.1 ∙ ap (world_tree (by_place c) c (held_tree c) m) h.2

pub holds-interface : HoldsInterface
holds-interface c wf m i it items at listed f m' x = interface-step c wf i it at m' ∙ ap instance (fun_ext (λ n. listed-held c (inside_interface c it m) (inside_interface c it m') (inside f) (carries-inside c it f m m' x) exported it.exports items (λ q k. here-inside c it m m' (named q ∷ []) k) listed n))

kept-carries : (f : Leaf → Leaf) (m : Bindings) → changed f m ≡ m → Carries f m m
kept-carries f m kept r l e = sym (ap (λ (b : Bindings). b r) kept) ∙ ap (on f) e

pub holds-world : HoldsWorld
holds-world c wf m i w imports exports at ins outs f m' x = world-step c wf i w at m' ∙ ap2 component
    (fun_ext (λ n. listed-held c (bound_by_imports c w) (bound_by_imports c w) (inside f) (kept-carries (inside f) (bound_by_imports c w) (imports-kept c w f)) imported w.imports imports (λ q k. refl) ins n))
    (fun_ext (λ n. listed-held c (bound_in_world c w) (bound_in_world c w) (inside f) (kept-carries (inside f) (bound_in_world c w) (world-kept c w f)) exported w.exports exports (λ q k. refl) outs n))
