-- The items to compare at each spot. Only contracts inside the merge cite this file.
use Rattle.std.specs.Prelude.{ℕ, suc, ◌≡◌, ◌⊎◌, List, [], ◌∷◌, ◌++◌, map, Vec}
use Rattle.std.specs.List.{AllByRecursion}
use Rattle.wac_types_shapes.specs.primitives.Name.{Name, option_case}
use Rattle.wac_merge_tables.specs.private.tables.Nodes.{Item, Node}
use Rattle.wac_merge_tables.specs.private.tables.NodeViews.{item_view}
use Rattle.wac_merge_tables.specs.declared.tables.nodes.Item.{Item as AnItem}
use Rattle.wac_merge_agreement.specs.private.agreeing.Fitting.{exports_of}
use Rattle.wac_merge_agreement.specs.declared.agreeing.rows.Spot.{Spot as ASpot}
use Rattle.wac_merge_agreement.specs.declared.agreeing.rows.Spot.TheVariants as spot

-- The entries of a class, or the exports of instances under a name.
pub data Spot : Type 0 where
  of_class : ℕ → Spot
  export : Name → Spot

-- An entry and its item at a spot.
abbrev pub Row : Type 0
Row = ℕ × Item

-- For each spot, the entries that have an item there, in order.
abbrev pub Table : Type 0
Table = List (Spot × List Row)

abbrev pub spot_view : ASpot → Spot
spot_view (spot.Class k) = of_class k
spot_view (spot.Export n) = export n.now

abbrev pub row_view : ℕ × AnItem → Row
row_view r = (r.0, item_view r.1)

abbrev pub table_view : {A : Type 0} → List (ASpot × Vec (ℕ × AnItem) A) → Table
table_view es = map (λ e. (spot_view e.0, map row_view e.1.items)) es

abbrev pub groups_view : {A : Type 0} → List (Vec (ℕ × AnItem) A) → List (List Row)
groups_view gs = map (λ g. map row_view g.items) gs

-- No entry has an item at the spot.
abbrev pub IsFree : Table → Spot → Type 0
IsFree t s = AllByRecursion (λ g. g.0 ≡ s → ⊥) t

-- One more entry is appended to those of the spot.
pub data IsLonger (s : Spot) (r : Row) : Table → Table → Type 0 where
  here : (rows : List Row) (t : Table) → IsLonger s r ((s, rows) ∷ t) ((s, rows ++ r ∷ []) ∷ t)
  there : (g : Spot × List Row) (t u : Table) → IsLonger s r t u → IsLonger s r (g ∷ t) (g ∷ u)

-- One more entry has an item at the spot, as the last or as the first one.
abbrev pub IsPut : Table → Spot → Row → Table → Type 0
IsPut old s r new = IsLonger s r old new ⊎ (IsFree old s × (new ≡ old ++ (s, r ∷ []) ∷ []))

-- These were appended in turn.
abbrev pub ArePut : Table → List (Spot × Row) → Table → Type 0
ArePut old [] new = new ≡ old
ArePut old (p ∷ ps) new = (mid : Table) × IsPut old p.0 p.1 mid × ArePut mid ps new

-- The entries of their classes, from entry i on.
abbrev pub members_put : ℕ → List Item → List ℕ → List (Spot × Row)
members_put i [] cs = []
members_put i (x ∷ xs) [] = []
members_put i (x ∷ xs) (c ∷ cs) = (of_class c, (i, x)) ∷ members_put (suc i) xs cs

-- The exports of an entry's instance.
abbrev pub exports_put : ℕ → List (Name × Item) → List (Spot × Row)
exports_put e es = map (λ x. (export x.0, (e, x.1))) es

-- The exports of the instances of several entries.
abbrev pub all_put : List Node → List Row → List (Spot × Row)
all_put ns [] = []
all_put ns (r ∷ rs) = option_case (exports_of ns r.1) [] (exports_put r.0) ++ all_put ns rs
