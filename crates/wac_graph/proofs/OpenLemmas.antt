-- Asking the instantiations that have an import which no argument satisfies is asking all: the others ask for nothing.
use Rattle.std.proofs.Common.{◌≡◌, ℕ, ◌+◌, ◌<◌, List, [], ◌∷◌, ◌++◌, get_or, length, refl, ap, ◌∙◌, sym, subst, append_assoc, take}
use Rattle.std.specs.List.{flat_map}
use Rattle.std.specs.FinMap as finite
use Rattle.std.proofs.lemmas.List.{append-nil, take_more}
use Rattle.std.proofs.lemmas.List.Concat.{flat_map-append}
use Rattle.wac_types_collection.specs.collection.Collection.{Collection}
use Rattle.wac_graph_model.specs.nodes.Asked.{Entry}
use Rattle.wac_graph_model.specs.nodes.Entries.{with_used}
use Rattle.wac_graph_model.specs.nodes.Graph.{Graph}
use Rattle.wac_graph_fields.specs.private.EntriesLeft.{AsksAlike, all_with_used, all_asked_by, asked_at}
use Rattle.wac_graph_fields.proofs.EntryLists.{stands_through, stands_more}
use Rattle.wac_graph_reader.specs.private.reading.Seen.{number_where_any, open_at, open_numbers}

module _ (g : Graph) where
  -- what a node asks for, where it is asked only if there is any
  asked_if_any : (n : ℕ) (es : List Entry) → asked_at g n ≡ es → flat_map (asked_at g) (number_where_any n es) ≡ asked_at g n
  asked_if_any n [] none = sym none
  asked_if_any n (e ∷ es) some = append-nil (asked_at g n)

  asked_of : (ns : List ℕ) → flat_map (asked_at g) (flat_map (open_at g) ns) ≡ flat_map (asked_at g) ns
  asked_of [] = refl
  asked_of (n ∷ ns) =
      flat_map-append (asked_at g) (open_at g n) (flat_map (open_at g) ns)
      ∙ ap (λ es. es ++ flat_map (asked_at g) (flat_map (open_at g) ns)) (asked_if_any n (asked_at g n) refl)
      ∙ ap (λ es. asked_at g n ++ es) (asked_of ns)

  pub open_asked : flat_map (asked_at g) (open_numbers g) ≡ all_asked_by g
  open_asked = asked_of (finite.keys g.nodes)

-- one more of the numbers in a list is asked
pub listed_asked : (c : Collection) (F : ℕ → List Entry) (first old new : List Entry) (ns : List ℕ) (i : ℕ) → i < length ns → AsksAlike c (first ++ all_with_used c (flat_map F (take i ns))) old
    → AsksAlike c (old ++ all_with_used c (F (get_or ns i 0))) new → AsksAlike c (first ++ all_with_used c (flat_map F (take (i + 1) ns))) new
listed_asked c F first old new ns i low f h =
    let n = get_or ns i 0 in
    let before = flat_map F (take i ns) in
    let A = all_with_used c before in
    let all : flat_map F (take (i + 1) ns) ≡ before ++ F n = ap (flat_map F) (take_more ns i 0 low) ∙ flat_map-append F (take i ns) (n ∷ []) ∙ ap (λ es. before ++ es) (append-nil (F n)) in
    let parts : first ++ all_with_used c (flat_map F (take (i + 1) ns)) ≡ (first ++ A) ++ all_with_used c (F n) =
    ap (λ es. first ++ all_with_used c es) all ∙ ap (λ es. first ++ es) (flat_map-append (with_used c) before (F n)) ∙ sym (append_assoc first A (all_with_used c (F n))) in
    subst (λ es. AsksAlike c es new) (sym parts)
    (stands_through c ((first ++ A) ++ all_with_used c (F n)) (old ++ all_with_used c (F n)) new (stands_more c (first ++ A) old (all_with_used c (F n)) f) h)
