-- The root after the imports: what the graph's own types are there.
use Rattle.std.proofs.Common.{◌≡◌, ℕ, false, List, [], ◌∷◌, sym, subst}
use Rattle.wac_types_collection.specs.collection.Collection.{Collection}
use Rattle.wac_merge_classes.specs.entries.Agreement.{AllMembersAgree}
use Rattle.wac_merge_classes.specs.entries.Bindings.{AreHeld}
use Rattle.wac_merge_classes.specs.entries.Classes.{Entry, by_names}
use Rattle.wac_merge_classes.specs.terms.ClassOrder.{IsWrittenOrder}
use Rattle.wac_merge_classes.specs.terms.Faults.{HasNoCircle}
use Rattle.wac_merge_classes.specs.terms.Merge.{IsMerge}
use Rattle.wac_merge_imports.specs.unions.MergedScope.{BindsAsClasses}
use Rattle.wac_encode_stacks.specs.Good.{Good}
use Rattle.wac_encode_scopes.specs.declared.encodable.Encodable.{Encodable}
use Rattle.wac_encode_scopes.specs.declared.state.State.{State}
use Rattle.wac_encode_scopes.specs.Roots.{IsRoot, items_of}
use Rattle.wac_encode_scopes.specs.States.{stack}
use Rattle.wac_encode_imports.specs.private.Imports.{AreImported}
use Rattle.wac_encode_imports.specs.private.ToldGraph.{entry_bindings, HasNoUnbound, IsTold}
use Rattle.wac_graph_model.specs.nodes.Entries.{asked_entries}
use Rattle.wac_graph_model.specs.nodes.Graph.{Graph}
use Rattle.wac_graph_model.specs.nodes.OuterImports.{outer_entries, IsOuterOrder}
use Rattle.wac_graph_model.specs.nodes.Sound.{IsSound}
use Rattle.wac_graph_model.specs.private.meaning.Beginning.{Begins}
use Rattle.wac_graph_model.specs.private.meaning.MergedImports.{merged_imports}
use Rattle.wac_graph_model.proofs.lemmas.meaning.MeaningLemmas.{Laws}
use Rattle.wac_graph_reader.proofs.lemmas.writing.AskedHeld.{held_entries}
use Rattle.wac_graph_encode.specs.declared.places.places.ImportPlaces.{ImportPlaces}
use Rattle.wac_graph_encode.specs.private.encoding.Root.{BeginsRoot}
use Rattle.wac_graph_encode.specs.private.places.Places.{ArePlaced}
use Rattle.wac_graph_encode.proofs.lemmas.places.BeginLemmas.{imported-begins}
use Rattle.wac_graph_encode.proofs.lemmas.places.MergeLemmas.{merge_held}

-- c are the graph's types as they are read
module _ (g : Graph) (p : ImportPlaces) (placed : ArePlaced g p) (c : Collection) (same : c ≡ g.types) where
  abbrev es : List Entry
  es = (p.merge).entries

  -- what holds of the graph's types and imports holds of those that are read, and the other way
  read_as : (P : Collection → List Entry → Type 0) → P g.types (outer_entries g) → P c es
  read_as P h = subst (λ x. P x es) (sym same) (subst (P g.types) (sym (placed.merged).entries) h)

  are_read : (P : Collection → List Entry → Type 0) → P c es → P g.types (outer_entries g)
  are_read P h = subst (λ x. P x (outer_entries g)) same (subst (P c) (placed.merged).entries h)

  pub tell-held : IsSound g → AreHeld c es
  tell-held sound = read_as AreHeld (merge_held g.types (asked_entries g) (held_entries g sound ((placed.merged).whole).ordered))

  pub tell-merged : IsMerge by_names c es (p.merge).merge
  tell-merged = read_as (λ x ys. IsMerge by_names x ys (p.merge).merge) ((placed.merged).whole).merge

  pub tell-ordered : HasNoCircle by_names g.types (outer_entries g) → HasNoCircle by_names c es
  tell-ordered h = read_as (HasNoCircle by_names) h

  pub tell-bound : BindsAsClasses by_names g.types (outer_entries g) (p.merge).merge → BindsAsClasses by_names c es (p.merge).merge
  tell-bound h = read_as (λ x ys. BindsAsClasses by_names x ys (p.merge).merge) h

  pub tell-agreed : AllMembersAgree by_names g.types (outer_entries g) → AllMembersAgree by_names c es
  tell-agreed h = read_as (AllMembersAgree by_names) h

  order-is : (order : List ℕ) → IsWrittenOrder by_names c es order → IsOuterOrder g order
  order-is order h = are_read (λ x ys. IsWrittenOrder by_names x ys order) h

  pub tell-clean : ((outer : List ℕ) → IsOuterOrder g outer → HasNoUnbound g.types (outer_entries g) outer) → (merged : IsMerge by_names c es (p.merge).merge) → HasNoUnbound c es merged.order
  tell-clean h merged = read_as (λ x ys. HasNoUnbound x ys merged.order) (h merged.order (order-is merged.order merged.written))

  -- The root after the imports are told.
  pub begins-root : Laws → (old new : State) → AreImported (p.merge).merge p.places.items old → ((merged : IsMerge by_names c es (p.merge).merge) → IsTold c es merged.order old new) → BeginsRoot g p new
  begins-root laws old new imported told =
      let merged : IsMerge by_names c es (p.merge).merge = tell-merged in
      let is_told = told merged in
      record {
        begins = subst (λ (x : Encodable). Begins (merged_imports (p.merge).merge) p.places.items (items_of x)) (sym is_told.records.content) (imported-begins laws (p.merge).merge p.places.items old imported);
        outer = merged.order;
        is_order = order-is merged.order merged.written;
        open_root = record {
          root = subst (λ (x : Encodable). IsRoot x) (sym is_told.records.content) imported.root;
          good = are_read (λ x ys. Good x (entry_bindings x ys merged.order ∷ []) (stack false new)) is_told.good;
        };
      }
