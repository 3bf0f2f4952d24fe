use Rattle.std.proofs.Common.{◌≡◌, ◌∙◌, List, Option, Some, None, ap}
use Rattle.std.specs.List.{AllZip}
use Rattle.std.specs.FinSet as set
use Rattle.std.proofs.lemmas.List.Elements.{same_from_all_zip}
use Rattle.slab.specs.Slab.{IsSlotClone, get}
use Rattle.wac_edges.specs.Edge.{edge_cmp}
use Rattle.wac_edges.specs.private.Aliases.{is_crowded}
use Rattle.wac_edges.specs.private.Records.{all_edges}
use Rattle.wac_edges.proofs.AliasLemmas.{noted_with_same}
use Rattle.wac_edges.proofs.edges.EdgesClone.clone.Goals as goal

-- a slot whose value is the same is the same
same_slot : {T : Type 0} (a b : Option T) → IsSlotClone (λ x y. y ≡ x) a b → b ≡ a
same_slot None b h = h
same_slot (Some x) None h = absurd h
same_slot (Some x) (Some y) h = ap Some h

same_slots : {T : Type 0} (xs ys : List (Option T)) → AllZip (IsSlotClone (λ x y. y ≡ x)) xs ys → ys ≡ xs
same_slots xs ys h = same_from_all_zip (IsSlotClone (λ x y. y ≡ x)) xs ys h same_slot

pub invariant_of-result : goal.invariant_of-result
invariant_of-result c =
    let records = same_slots _ _ c.in_ok-records.ensures.cases.slots in
    let firsts = same_from_all_zip (λ a b. b ≡ a) _ _ c.in_ok-firsts.ensures.cases.0 (λ x y r. r) in
    let marks = same_from_all_zip (λ a b. b ≡ a) _ _ c.in_ok-crowded.ensures.cases.0 (λ x y r. r) in
    rw (records, firsts) (
      c.self.invariant.0,
      noted_with_same c.self.inside.crowded.items c.in_ok-crowded.crowded.items c.self.inside.aliases c.in_ok-aliases.aliases (get c.self.inside.records) (λ n. ap (λ l. is_crowded l n) marks) c.self.invariant.1 c.in_ok-aliases.ensures.cases,
      c.self.invariant.2,
    )

pub returns : goal.returns
returns c =
    let records = same_slots _ _ c.in_ok-records.ensures.cases.slots in
    record { cases = ap (λ slots. set.from_list {R = edge_cmp} (all_edges slots)) records ∙ c.self.view_is }
