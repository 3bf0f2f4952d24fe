-- What is asked for, as far as a loop has come.
use Rattle.std.proofs.Common.{◌≡◌, ℕ, zero, suc, List, [], ◌∷◌, ◌++◌, length, drop, Some, refl, ap, sym, ◌∙◌, append_assoc, append-nil}
use Rattle.std.specs.Prelude.{slice_get}
use Rattle.std.specs.Option.{option_map}
use Rattle.wac_types_shapes.specs.primitives.Name.{Name}
use Rattle.wac_types_shapes.specs.declared.shapes.component.InterfaceId.{InterfaceId}
use Rattle.wac_types_shapes.specs.declared.shapes.component.ItemKind.{ItemKind}
use Rattle.wac_types_shapes.specs.declared.shapes.component.UsedType.{UsedType}
use Rattle.wac_types_collection.specs.wide.Wide.{instance_of, instances_of}
use Rattle.wac_graph_fields.specs.declared.asked.Task.{Task}
use Rattle.wac_graph_fields.specs.declared.asked.Task.TheVariants.{Visit, Open}
use Rattle.wac_graph_fields.specs.private.EntriesLeft.{openings, visits}

-- ---- openings, from the last on
next_opening : (us : List (Name × UsedType)) (j : ℕ) (w : UsedType) → option_map (λ e. e.1) (slice_get us j) ≡ Some w → openings (drop j us) ≡ openings (drop (suc j) us) ++ Open w.interface ∷ []
next_opening [] j w h = cc
next_opening (u ∷ us) zero w h = let same : u.1 ≡ w = cc in ap (λ (x : UsedType). openings us ++ Open x.interface ∷ []) same
next_opening (u ∷ us) (suc j) w h = next_opening us j w h

pub opened_more : (us : List (Name × UsedType)) (i j : ℕ) (w : UsedType) (old now new : List Task) → suc j ≡ i → option_map (λ e. e.1) (slice_get us j) ≡ Some w → now ≡ old ++ openings (drop i us) → new ≡ now ++ Open w.interface ∷ [] → new ≡ old ++ openings (drop j us)
opened_more us i j w old now new next at h is =
    is
    ∙ ap (λ ts. ts ++ Open w.interface ∷ []) h
    ∙ append_assoc old (openings (drop i us)) (Open w.interface ∷ [])
    ∙ ap (λ k. old ++ (openings (drop k us) ++ Open w.interface ∷ [])) (sym next)
    ∙ ap (λ ts. old ++ ts) (sym (next_opening us j w at))

pub none_opened : (us : List (Name × UsedType)) (i : ℕ) (old : List Task) → i ≡ length us → old ≡ old ++ openings (drop i us)
none_opened us i old is = sym (ap (λ k. old ++ openings (drop k us)) is ∙ ap (λ es. old ++ openings es) (all_dropped us) ∙ append-nil old) where
  all_dropped : (xs : List (Name × UsedType)) → drop (length xs) xs ≡ []
  all_dropped [] = refl
  all_dropped (x ∷ xs) = all_dropped xs

-- ---- visits, from the last on
visits_joined : (is js : List InterfaceId) → visits (is ++ js) ≡ visits js ++ visits is
visits_joined [] js = sym (append-nil (visits js))
visits_joined (i ∷ is) js = ap (λ ts. ts ++ Visit i ∷ []) (visits_joined is js) ∙ append_assoc (visits js) (visits is) (Visit i ∷ [])

next_visit : (es : List (Name × ItemKind)) (j : ℕ) (k : ItemKind) → option_map (λ e. e.1) (slice_get es j) ≡ Some k → visits (instances_of (drop j es)) ≡ visits (instances_of (drop (suc j) es)) ++ visits (instance_of k)
next_visit [] j k h = cc
next_visit (e ∷ es) zero k h =
    let same : e.1 ≡ k = cc in
    visits_joined (instance_of e.1) (instances_of es) ∙ ap (λ (x : ItemKind). visits (instances_of es) ++ visits (instance_of x)) same
next_visit (e ∷ es) (suc j) k h = next_visit es j k h

pub visited_more : (es : List (Name × ItemKind)) (i j : ℕ) (k : ItemKind) (old now new : List Task) → suc j ≡ i → option_map (λ e. e.1) (slice_get es j) ≡ Some k → now ≡ old ++ visits (instances_of (drop i es)) → new ≡ now ++ visits (instance_of k) → new ≡ old ++ visits (instances_of (drop j es))
visited_more es i j k old now new next at h is =
    is
    ∙ ap (λ ts. ts ++ visits (instance_of k)) h
    ∙ append_assoc old (visits (instances_of (drop i es))) (visits (instance_of k))
    ∙ ap (λ n. old ++ (visits (instances_of (drop n es)) ++ visits (instance_of k))) (sym next)
    ∙ ap (λ ts. old ++ ts) (sym (next_visit es j k at))

pub none_visited : (es : List (Name × ItemKind)) (i : ℕ) (old : List Task) → i ≡ length es → old ≡ old ++ visits (instances_of (drop i es))
none_visited es i old is = sym (ap (λ k. old ++ visits (instances_of (drop k es))) is ∙ ap (λ xs. old ++ visits (instances_of xs)) (all_dropped es) ∙ append-nil old) where
  all_dropped : (xs : List (Name × ItemKind)) → drop (length xs) xs ≡ []
  all_dropped [] = refl
  all_dropped (x ∷ xs) = all_dropped xs
