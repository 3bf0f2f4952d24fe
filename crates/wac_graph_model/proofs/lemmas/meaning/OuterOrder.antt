-- There is one order in which the classes of what a graph asks for are written.
use Rattle.std.proofs.Common.{◌≡◌, ℕ, List, [], ◌∷◌, ◌++◌, refl, ap, sym, subst}
use Rattle.wac_merge_classes.specs.entries.Classes.{by_names}
use Rattle.wac_merge_classes.specs.terms.ClassOrder.{RestsOn, grouped}
use Rattle.wac_edges.specs.Arranged.{Selects, none, takes, leaves, Arranges, done, there, new}
use Rattle.wac_graph_model.specs.nodes.Graph.{Graph}
use Rattle.wac_graph_model.specs.nodes.OuterImports.{outer_entries, IsOuterOrder}

-- what of a list has P is one list
one_selection : (P : ℕ → Type 0) (ns xs ys : List ℕ) → Selects P ns xs → Selects P ns ys → xs ≡ ys
one_selection P ns xs ys none none = refl
one_selection P ns xs ys (takes n rest taken is a) (takes _ _ other _ b) = ap (λ zs. n ∷ zs) (one_selection P rest taken other a b)
one_selection P ns xs ys (takes n rest taken is a) (leaves _ _ other not b) = absurd (not is)
one_selection P ns xs ys (leaves n rest taken not a) (takes _ _ other is b) = absurd (not is)
one_selection P ns xs ys (leaves n rest taken not a) (leaves _ _ other _ b) = one_selection P rest taken other a b

-- what numbers are arranged to is one list
one_arrangement : (rests : ℕ → ℕ → Type 0) (all placed ns xs ys : List ℕ) → Arranges rests all placed ns xs → Arranges rests all placed ns ys → xs ≡ ys
one_arrangement rests all placed ns xs ys (done _) (done _) = refl
one_arrangement rests all placed ns xs ys (there _ after n more held a) (there _ other _ _ _ b) = one_arrangement rests all placed more after other a b
one_arrangement rests all placed ns xs ys (there _ after n more held a) (new _ under before other _ _ absent selects first b) = absurd (absent held)
one_arrangement rests all placed ns xs ys (new _ under before after n more absent selects first a) (there _ other _ _ held b) = absurd (absent held)
one_arrangement rests all placed ns xs ys (new _ under before after n more absent selects first a) (new _ unders befores other _ _ _ selected firsts b) =
    let same_under : unders ≡ under = one_selection (rests n) all unders under selected selects in
    let same_before : befores ≡ before = sym (one_arrangement rests all placed under before befores first (subst (λ us. Arranges rests all placed us befores) same_under firsts)) in
    one_arrangement rests all (before ++ n ∷ []) more after other a (subst (λ bs. Arranges rests all (bs ++ n ∷ []) more other) same_before b)

-- so the imports of a graph and the places of its names stand in one order
pub one_order : (g : Graph) (xs ys : List ℕ) → IsOuterOrder g xs → IsOuterOrder g ys → xs ≡ ys
one_order g xs ys a b = one_arrangement (RestsOn by_names g.types (outer_entries g)) (grouped by_names (outer_entries g)) [] (grouped by_names (outer_entries g)) xs ys a b
