-- Classes rest on classes only, and the lowest number on a circle is that of the first class on one.
use Rattle.std.proofs.Common.{◌≡◌, ℕ, suc, ◌+◌, ◌<◌, List, [], ◌∷◌, length, map, Option, Some, None, refl, ap, arith}
use Rattle.std.specs.Prelude.{◌↔◌}
use Rattle.std.specs.BTreeSet.{BTreeSet}
use Rattle.std.specs.Option.{MatchOption}
use Rattle.std.specs.Ordering.{nat_cmp}
use Rattle.std.specs.declared.cmp.Ordering.{Ordering}
use Rattle.std.specs.declared.cmp.Ordering.TheVariants.{Less, Equal, Greater}
use Rattle.std.proofs.lemmas.Cmp.{ranked}
use Rattle.std.proofs.lemmas.Option.{slice_get_within}
use Rattle.wac_types_shapes.specs.primitives.Name.{Name, option_case}
use Rattle.wac_types_shapes.specs.primitives.Tree.{imported, exported, Place, position, named, Leaf, absent, instance, instance_item}
use Rattle.wac_types_collection.specs.collection.Collection.{Collection, size, item_at}
use Rattle.wac_types_collection.specs.collection.Held.{unfolded, items_under}
use Rattle.wac_types_collection.specs.collection.Bound.{by_place, binds_here, held_item, held_tree, own_name}
use Rattle.wac_types_shapes.specs.declared.shapes.component.Interface.{Interface}
use Rattle.wac_types_shapes.specs.declared.shapes.component.ResourceId.{ResourceId}
use Rattle.wac_types_shapes.specs.declared.shapes.component.ItemKind.{ItemKind}
use Rattle.wac_types_shapes.specs.declared.shapes.component.ItemKind.TheVariants as kind
use Rattle.wac_merge_classes.specs.entries.Binding.{binding_class, binding_from, class_binds, root_bindings}
use Rattle.wac_edges.specs.cycles.Cycles.{AreWithin, HasLowestOnCycle, IsStep}
use Rattle.wac_edges.specs.cycles.Cycles as cycles
use Rattle.wac_merge_classes.specs.entries.Classes.{Entry, by_names, class_names}
use Rattle.wac_merge_classes.specs.terms.ClassOrder.{IsFirstOnCircle, RestsOn, by_resource, by_use}
use Rattle.wac_merge_classes.specs.terms.Faults.{HasNoCircle}
use Rattle.wac_merge_classes.specs.terms.Union.{inside_member, member_tree}
use Rattle.wac_edges.proofs.lemmas.cycles.CycleSearch.{along}
use Rattle.wac_merge_agreement.proofs.lemmas.agreement.Resting.{No, Nothing, Quiet, free_class, held, no_first, no_none, no_outer, no_some, quiet_item, quiet_items, quiet_to, Free}

module _ (c : Collection) (es : List Entry) where
  abbrev number_in : Option (ℕ × List Place) → ℕ
  number_in o = option_case o 0 (λ x. x.0)

  pub number_low : (ns : List Name) (k : ℕ) (r : ResourceId) (b : ℕ) (p : List Place) → binding_from by_names c es k ns r ≡ Some (b, p) → b < k + length ns
  number_low [] k r b p is = cc
  number_low (n ∷ ns) k r b p is = split (class_binds by_names c es n r) (λ h. number_low ns (suc k) r b p h) is where
    split : (o : Option (List Place)) → (binding_from by_names c es (suc k) ns r ≡ Some (b, p) → b < suc k + length ns)
        → option_case o (binding_from by_names c es (suc k) ns r) (λ path. Some (k, path)) ≡ Some (b, p) → b < k + length (n ∷ ns)
    split None more h = let low : b < suc k + length ns = more h in omega arith
    split (Some path) more h = let same : k ≡ b = ap number_in h in omega (arith, same)

  -- where no class stands at the position b, nothing is bound there
  root_nothing : (place : ℕ → ℕ) (b : ℕ) → ((k : ℕ) → k < length (class_names by_names es) → place k ≡ b → ⊥) → Nothing b (root_bindings by_names c es place)
  root_nothing place b past r = split (binding_class by_names c es r) (λ j p is. number_low (class_names by_names es) 0 r j p is) where
    split : (o : Option (ℕ × List Place)) → ((j : ℕ) (p : List Place) → o ≡ Some (j, p) → j < 0 + length (class_names by_names es))
        → No b (option_case o None (λ x. Some (record { out = 0; side = imported; path = position (place x.0) ∷ x.1 })))
    split None low = no_none b
    split (Some (j, p)) low = no_some b (record { out = 0; side = imported; path = position (place j) ∷ p }) (λ h. let less : j < 0 + length (class_names by_names es) = low j p refl in past j (omega (arith, less)) h)

  -- where nothing is bound there, no entry mentions it
  module _ (place : ℕ → ℕ) (b : ℕ) (nothing : Nothing b (root_bindings by_names c es place)) where
    abbrev root : ResourceId → Option Leaf
    root = root_bindings by_names c es place

    own_nothing : (o : Option Name) → No b (option_case o None (λ n. Some (record { out = 0; side = exported; path = named n ∷ [] })))
    own_nothing None = no_none b
    own_nothing (Some n) = no_some b (record { out = 0; side = exported; path = named n ∷ [] }) (λ h. h)

    class_nothing : (o : Option (List Place)) → Free b o → No b (option_case o None (λ path. Some (record { out = 0; side = exported; path = path })))
    class_nothing None free = no_none b
    class_nothing (Some p) free = no_some b (record { out = 0; side = exported; path = p }) (free p refl)

    inside_nothing : (class : Name) (it : Interface) → Nothing b (inside_member by_names c es class it root)
    inside_nothing class it r =
        no_first b (option_case (own_name c it.uses it.exports r) None (λ n. Some (record { out = 0; side = exported; path = named n ∷ [] }))) _
        (own_nothing (own_name c it.uses it.exports r))
        (no_first b (option_case (class_binds by_names c es class r) None (λ path. Some (record { out = 0; side = exported; path = path }))) _
        (class_nothing (class_binds by_names c es class r) (free_class b by_names c es class r)) (no_outer b (root r) (nothing r)))

    pub quiet_member : (class : Name) (a : ℕ) (k : ItemKind) → Quiet b (member_tree by_names c es class a root k)
    unfolding held_tree
    quiet_member class a (kind.Instance i) = at (item_at c.interfaces i.0) where
      at : (o : Option Interface)
          → Quiet b (option_case o absent (λ it. instance_item (instance (items_under (map (λ e. (e.0, held_item c (inside_member by_names c es class it root) exported (named e.0 ∷ []) e.1)) it.exports)))))
      at None h = held b absent h
      at (Some it) h =
          let m = inside_member by_names c es class it root in
          let exports = items_under (map (λ e. (e.0, held_item c m exported (named e.0 ∷ []) e.1)) it.exports) in
          let (n, g) = held b (instance exports) (held b (instance_item (instance exports)) h) in
          quiet_items b (λ e. held_item c m exported (named e.0 ∷ []) e.1)
          (λ e. quiet_item b (unfolded (by_place c) c m) (λ t. quiet_to b c (suc (size c)) m (inside_nothing class it) t) (binds_here c m exported (named e.0 ∷ []) e.1) e.1) it.exports n g
    quiet_member class a (kind.TypeItem t) = quiet_item b (unfolded (by_place c) c root) (λ x. quiet_to b c (suc (size c)) root nothing x) (binds_here c root imported (position a ∷ []) (kind.TypeItem t)) (kind.TypeItem t)
    quiet_member class a (kind.Func f) = quiet_item b (unfolded (by_place c) c root) (λ x. quiet_to b c (suc (size c)) root nothing x) (binds_here c root imported (position a ∷ []) (kind.Func f)) (kind.Func f)
    quiet_member class a (kind.Component w) = quiet_item b (unfolded (by_place c) c root) (λ x. quiet_to b c (suc (size c)) root nothing x) (binds_here c root imported (position a ∷ []) (kind.Component w)) (kind.Component w)
    quiet_member class a (kind.Module m) = quiet_item b (unfolded (by_place c) c root) (λ x. quiet_to b c (suc (size c)) root nothing x) (binds_here c root imported (position a ∷ []) (kind.Module m)) (kind.Module m)
    quiet_member class a (kind.Value v) = quiet_item b (unfolded (by_place c) c root) (λ x. quiet_to b c (suc (size c)) root nothing x) (binds_here c root imported (position a ∷ []) (kind.Value v)) (kind.Value v)

  pub member_quiet : (place : ℕ → ℕ) (b : ℕ) → ((k : ℕ) → k < length (class_names by_names es) → place k ≡ b → ⊥) → (class : Name) (a : ℕ) (k : ItemKind) → Quiet b (member_tree by_names c es class a (root_bindings by_names c es place) k)
  member_quiet place b past = quiet_member place b (root_nothing place b past)

  -- what a class rests on is a class
  pub rests_low : (a b : ℕ) → RestsOn by_names c es a b → b < length (class_names by_names es)
  rests_low a b (by_use _ _ class name_of id e i j used other is_class is_other member is widely is_used has_id one) = slice_get_within (class_names by_names es) b name_of is_other
  rests_low a b (by_resource _ _ class e other is_class member h) = split (nat_cmp b (length (class_names by_names es))) refl where
    split : (o : Ordering) → o ≡ nat_cmp b (length (class_names by_names es)) → b < length (class_names by_names es)
    split Less is = ranked b (length (class_names by_names es)) Less is
    split Equal is = let same : b ≡ length (class_names by_names es) = ranked b (length (class_names by_names es)) Equal is in absurd (member_quiet (λ k. k) b (λ k low at. omega (arith, same, low, at)) class a e.kind h)
    split Greater is = let more : length (class_names by_names es) < b = ranked b (length (class_names by_names es)) Greater is in absurd (member_quiet (λ k. k) b (λ k low at. omega (arith, more, low, at)) class a e.kind h)

  module _ (sets : List (BTreeSet ℕ)) (counted : length sets ≡ length (class_names by_names es)) (rests : (a b : ℕ) → IsStep sets a b ↔ RestsOn by_names c es a b) where
    pub are_within : AreWithin sets
    are_within a b h = let low : b < length (class_names by_names es) = rests_low a b ((rests a b).0 h) in omega (arith, counted, low)

    pub first_of : (o : Option ℕ) → MatchOption o (cycles.HasNoCycle sets) (λ n. HasLowestOnCycle sets n) → MatchOption o (HasNoCircle by_names c es) (λ n. IsFirstOnCircle by_names c es n)
    first_of None none = λ a on. none a (along (RestsOn by_names c es) (IsStep sets) (λ x y h. (rests x y).1 h) a a on)
    first_of (Some n) lowest = record {
      on = along (IsStep sets) (RestsOn by_names c es) (λ x y h. (rests x y).0 h) n n lowest.on;
      first = λ b on. lowest.lowest b (along (RestsOn by_names c es) (IsStep sets) (λ x y h. (rests x y).1 h) b b on);
    }
