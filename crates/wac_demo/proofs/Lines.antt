-- The lines for matches that are passed over, one after another.
use Rattle.std.proofs.Common.{◌≡◌, ◌≤◌, ◌+◌, ℕ, suc, List, [], ◌∷◌, ◌++◌, length, drop, slice_get, map, refl, ap, ◌∙◌, sym, Some, append_assoc, append-nil, arith}
use Rattle.std.proofs.lemmas.List.{drop_all}
use Rattle.wac_types_shapes.specs.primitives.Name.{option_case}
use Rattle.wac_types_shapes.proofs.lemmas.shapes.Loops.{drop_at}
use Rattle.wac_types_collection.specs.collection.Package.{PackageParts}
use Rattle.wac_graph_model.specs.nodes.Graph.{Graph, package_at}
use Rattle.wac_graph.specs.declared.plugs.precedence.PassedOver.{PassedOver}
use Rattle.wac_graph.specs.plugs.Precedence.{named_by}
use Rattle.wac_demo.specs.private.Lines.{match_line, lines_of}

module _ (g : Graph) (passed : List PassedOver) (i : ℕ) where
  pub one-more-line : (over : PassedOver) (p : PackageParts) (lines line new total : List ℕ) → slice_get passed i ≡ Some over → package_at g over.plug ≡ Some p → line ≡ match_line p.name (named_by over).match → new ≡ lines ++ line
      → lines ++ lines_of g (map named_by (drop i passed)) ≡ total → new ++ lines_of g (map named_by (drop (i + 1) passed)) ≡ total
  one-more-line over p lines line new total at there line_is new_is h =
      let place : suc i ≡ i + 1 = omega arith in
      let rest : List ℕ = lines_of g (map named_by (drop (i + 1) passed)) in
      let first : lines_of g (map named_by (drop i passed)) ≡ line ++ rest =
      ap (λ l. lines_of g (map named_by l)) (drop_at passed i over at ∙ ap (λ k. over ∷ drop k passed) place)
      ∙ ap (λ o. match_line (option_case o [] (λ (q : PackageParts). q.name)) (named_by over).match ++ rest) there ∙ ap (λ l. l ++ rest) (sym line_is) in
      ap (λ l. l ++ rest) new_is ∙ append_assoc lines line rest ∙ ap (λ l. lines ++ l) (sym first) ∙ h

  pub all-lines : (lines total : List ℕ) → length passed ≤ i → lines ++ lines_of g (map named_by (drop i passed)) ≡ total → lines ≡ total
  all-lines lines total past h = sym (ap (λ l. lines ++ lines_of g (map named_by l)) (drop_all i passed past) ∙ append-nil lines) ∙ h
