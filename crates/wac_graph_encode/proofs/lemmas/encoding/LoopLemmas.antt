-- The nodes of a graph, one after the other.
use Rattle.std.proofs.Common.{◌≡◌, ℕ, zero, suc, ◌+◌, ◌≤◌, Bool, false, List, [], ◌∷◌, ◌++◌, length, take, drop, refl, ap, ◌∙◌, sym, subst, arith, Some, None}
use Rattle.std.specs.Prelude.{slice_get, Contains}
use Rattle.std.proofs.lemmas.Option.{slice_get_within, slice_get-get_or, get_or_from_slice_get}
use Rattle.wac_types_shapes.specs.primitives.Name.{Name}
use Rattle.wac_types_shapes.specs.primitives.Tree.{Tree}
use Rattle.wac_types_shapes.proofs.lemmas.shapes.Names.{taken}
use Rattle.wac_types_collection.specs.collection.Bound.{Bindings}
use Rattle.wac_merge_classes.specs.entries.Classes.{ClassLaws}
use Rattle.wac_edges.specs.declared.node.NodeId.{NodeId}
use Rattle.wac_edges.specs.Order.{Writes}
use Rattle.wac_encode_scopes.specs.declared.state.State.{State}
use Rattle.wac_encode_scopes.specs.Roots.{items_of}
use Rattle.wac_encode_interfaces.specs.private.Worlds.{Worlds}
use Rattle.wac_graph_model.specs.declared.nodes.options.EncodeOptions.{EncodeOptions}
use Rattle.wac_graph_model.specs.nodes.Graph.{Graph}
use Rattle.wac_graph_model.specs.nodes.OuterImports.{IsOuterOrder, outer_bindings}
use Rattle.wac_graph_model.specs.nodes.Sound.{IsSound}
use Rattle.wac_graph_model.specs.meaning.Means.{is_written}
use Rattle.wac_graph_model.specs.private.meaning.Beginning.{Places}
use Rattle.wac_graph_model.specs.private.meaning.Encoding.{HasRoom}
use Rattle.wac_graph_model.specs.private.meaning.MergedImports.{merged_imports}
use Rattle.wac_graph_model.specs.private.meaning.WrittenSoFar.{IsWrittenSoFar}
use Rattle.wac_graph_model.proofs.lemmas.meaning.EncodeLemmas.{written_meant, written_next}
use Rattle.wac_graph_model.proofs.lemmas.meaning.MergeLemmas.{OrderHasClasses, merged_begins}
use Rattle.wac_graph_model.proofs.lemmas.meaning.OuterOrder.{one_order}
use Rattle.wac_graph_model.proofs.lemmas.meaning.MeaningLemmas.{Laws}
use Rattle.wac_graph_reader.specs.declared.reading.encoder.Encoder.{Encoder}
use Rattle.wac_graph_reader.specs.private.reading.EncoderView.{progress}
use Rattle.wac_graph_encode.specs.declared.encoding.writer.GraphWriter.{GraphWriter}
use Rattle.wac_graph_encode.specs.private.encoding.Root.{IsOpenRoot, KeepsRoot, IsFaultlessNode, IsNodeReady, HasNodeWorlds, WroteOne, BeginsRoot, BeginsNodes, EndsNodes}
use Rattle.wac_graph_encode.specs.private.places.Places.{AreFound, ArePlaced}
use Rattle.wac_graph_encode.proofs.lemmas.encoding.RootLemmas.{open-means}

-- The first nodes of the order are written, and the root is open.
pub record AreWrittenFirst (g : Graph) (o : EncodeOptions) (classes : List (Name × Tree)) (m : Bindings) (places : Places) (order done : List NodeId) (e : Encoder) : Type 0 where
  pub open_root : IsOpenRoot g m e.state
  pub so_far : IsWrittenSoFar g o classes m places order done (progress e)

-- One more node: all items then have a meaning, so the root stays open.
pub written-more : Laws → (g : Graph) → IsSound g → (o : EncodeOptions) (define_components : Bool) → o.define_components ≡ define_components → (classes : List (Name × Tree)) (m : Bindings) (places : Places) (order done rest : List NodeId) (n : NodeId) (old new : Encoder)
    → order ≡ done ++ n ∷ rest → AreWrittenFirst g o classes m places order done old → WroteOne g define_components places n old new → KeepsRoot g old.state new.state → AreWrittenFirst g o classes m places order (done ++ n ∷ []) new
written-more laws g sound o define_components same classes m places order done rest n old new split was wrote keeps =
    let so_far = written_next g o classes m places order done rest n (progress old) (progress new) split was.so_far (wrote o same m was.open_root) in
    record {
      open_root = keeps m was.open_root (written_meant laws g sound o classes m places order (done ++ n ∷ []) (progress new) so_far);
      so_far = so_far;
    }

-- ---- the order up to a position

parted : {A : Type 0} (xs : List A) (i : ℕ) (x : A) → slice_get xs i ≡ Some x → xs ≡ take i xs ++ x ∷ drop (suc i) xs
parted [] i x h = cc
parted (y ∷ xs) zero x h = let e : y ≡ x = cc in ap (λ z. z ∷ xs) e
parted (y ∷ xs) (suc i) x h = ap (λ zs. y ∷ zs) (parted xs i x h)

take-none : {A : Type 0} (xs : List A) → take 0 xs ≡ []
take-none [] = refl
take-none (x ∷ xs) = refl

take-whole : {A : Type 0} (xs : List A) (i : ℕ) → length xs ≤ i → take i xs ≡ xs
take-whole [] zero h = refl
take-whole [] (suc i) h = refl
take-whole (x ∷ xs) zero h = absurd (omega (arith, h))
take-whole (x ∷ xs) (suc i) h = ap (λ ys. x ∷ ys) (take-whole xs i (omega (arith, h)))

pub within-order : (order : List NodeId) (i : ℕ) (n : NodeId) → slice_get order i ≡ Some n → Contains order n
within-order order i n at = (i, slice_get_within order i n at, get_or_from_slice_get order i n n at)

pub order-at : (order : List NodeId) (n : NodeId) → (within : Contains order n) → slice_get order within.0 ≡ Some n
order-at order n (i, small, is) = slice_get-get_or order i n small ∙ ap Some is

-- ---- the loop

-- The nodes of the order up to a position are written, whatever the other options are.
abbrev pub AreWritten : GraphWriter → Encoder → List NodeId → ℕ → Type 0
AreWritten w e order i = (o : EncodeOptions) → o.define_components ≡ w.define_components → (outer : List ℕ) → IsOuterOrder w.reader.now outer
    → AreWrittenFirst w.reader.now o (merged_imports ((w.imports.now).merge.merge)) (outer_bindings w.reader.now outer) (w.imports.now).places.items order (take i order) e

pub written-starts : (w : GraphWriter) (e : Encoder) (order : List NodeId) → BeginsNodes w e order → AreWritten w e order 0
written-starts w e order b o same outer is_order =
    subst (λ done. AreWrittenFirst w.reader.now o (merged_imports ((w.imports.now).merge.merge)) (outer_bindings w.reader.now outer) (w.imports.now).places.items order done e) (sym (take-none order))
    (subst (λ xs. AreWrittenFirst w.reader.now o (merged_imports ((w.imports.now).merge.merge)) (outer_bindings w.reader.now xs) (w.imports.now).places.items order [] e) (one_order w.reader.now b.outer outer b.is_order is_order)
    (record { open_root = b.open_root; so_far = b.first o same }))

pub written-further : Laws → (w : GraphWriter) → IsSound w.reader.now → (e e' : Encoder) (order : List NodeId) (i : ℕ) (n : NodeId) → slice_get order i ≡ Some n → AreWritten w e order i
    → WroteOne w.reader.now w.define_components (w.imports.now).places.items n e e' → KeepsRoot w.reader.now e.state e'.state → AreWritten w e' order (i + 1)
written-further laws w sound e e' order i n at was wrote keeps o same outer is_order =
    subst (λ done. AreWrittenFirst w.reader.now o (merged_imports ((w.imports.now).merge.merge)) (outer_bindings w.reader.now outer) (w.imports.now).places.items order done e') (taken order i n at)
    (written-more laws w.reader.now sound o w.define_components same (merged_imports ((w.imports.now).merge.merge)) (outer_bindings w.reader.now outer) (w.imports.now).places.items order (take i order) (drop (suc i) order) n e e' (parted order i n at) (was o same outer is_order) wrote keeps)

pub written-ends : (w : GraphWriter) (e : Encoder) (order : List NodeId) (i : ℕ) → length order ≤ i → AreWritten w e order i → EndsNodes w e order
written-ends w e order i long was o same outer is_order =
    let first = was o same outer is_order in (
      first.open_root,
      subst (λ done. IsWrittenSoFar w.reader.now o (merged_imports ((w.imports.now).merge.merge)) (outer_bindings w.reader.now outer) (w.imports.now).places.items order done (progress e)) (take-whole order i long) first.so_far,
    )

-- The next node can be written.
pub node-ready : (w : GraphWriter) (old e : Encoder) (order : List NodeId) (i : ℕ) (n : NodeId) (ws : Worlds) → slice_get order i ≡ Some n → BeginsNodes w old order → AreWritten w e order i → HasNodeWorlds w.reader.now w.define_components ws n
    → IsNodeReady w.reader.now w.define_components ws n e.state
node-ready w old e order i n ws at b was worlds =
    let first = was (record { define_components = w.define_components; validate = false; processor = None }) refl b.outer b.is_order in
    record {
      bindings = outer_bindings w.reader.now b.outer;
      open_root = first.open_root;
      meant = open-means w.reader.now (outer_bindings w.reader.now b.outer) e.state first.open_root;
      faultless = b.faultless n (within-order order i n at);
      worlds = worlds;
    }

-- ---- the start

-- After the imports no node is written.
pub nodes-begin : ClassLaws → OrderHasClasses → (w : GraphWriter) → ArePlaced w.reader.now w.imports.now → IsSound w.reader.now → (e : Encoder) (order : List NodeId) (s : State) (indexes : List ℕ) → Writes (w.reader.now).edges (is_written w.reader.now) order
    → ((outer : List ℕ) → IsOuterOrder w.reader.now outer → (n : NodeId) → Contains order n → IsFaultlessNode w.reader.now w.define_components (outer_bindings w.reader.now outer) n)
    → BeginsRoot w.reader.now w.imports.now s → HasRoom w.reader.now indexes → AreFound w.reader.now w.imports.now indexes → e.state ≡ s → e.components ≡ [] → e.indexes.items ≡ indexes → BeginsNodes w e order
nodes-begin class_laws has_classes w placed sound e order s indexes writes faultless b room found state_is components_are indexes_are =
    let whole = (placed.merged).whole in
    let here : progress e ≡ record { items = items_of s.here.content; components = []; indexes = indexes } =
    λ i. record { items = items_of (state_is i).here.content; components = components_are i; indexes = indexes_are i } in
    record {
      outer = b.outer;
      is_order = b.is_order;
      open_root = subst (IsOpenRoot w.reader.now (outer_bindings w.reader.now b.outer)) (sym state_is) b.open_root;
      faultless = faultless b.outer b.is_order;
      room = subst (HasRoom w.reader.now) (sym indexes_are) room;
      first = λ o same.
          subst (λ xs. IsWrittenSoFar w.reader.now o (merged_imports ((w.imports.now).merge.merge)) (outer_bindings w.reader.now xs) (w.imports.now).places.items order [] (progress e)) (one_order w.reader.now (whole.merge).order b.outer (whole.merge).written b.is_order)
          (subst (IsWrittenSoFar w.reader.now o (merged_imports ((w.imports.now).merge.merge)) (outer_bindings w.reader.now (whole.merge).order) (w.imports.now).places.items order []) (sym here)
          (merged_begins class_laws has_classes w.reader.now sound ((w.imports.now).merge.merge) whole o (w.imports.now).places.items order (items_of s.here.content) indexes writes b.begins room found));
    }
