use Rattle.std.proofs.Common.{◌≡◌, ℕ, ◌+◌, ◌<◌, List, Vec, Global, Some, slice_get, get_or, take, length, refl, sym, ap, ◌∙◌, subst, arith}
use Rattle.std.proofs.Math.ListN.{set, length-set}
use Rattle.std.proofs.lemmas.Option.{slice_get_read, slice_get_within, slice_get-get_or}
use Rattle.wac_merge_classes.specs.entries.Classes.{Entry, by_names, class_names}
use Rattle.wac_merge_classes.specs.private.entries.Numbering.{AreNewest}
use Rattle.wac_merge_classes.proofs.lemmas.entries.Newest.{newer, not-newer}
use Rattle.wac_merge_classes.proofs.entries.classes.newest_positions.Goals as goal
use Rattle.wac_merge_classes.proofs.entries.classes.newest_positions.Goals.{then-branch, else-branch}

pub loop-i-preserved : goal.loop-i-preserved
loop-i-preserved c =
    let es = c.args.entries.now in
    let i : ℕ = c.loop-i.i in
    let k : ℕ = get_or c.args.numbers.now i 0 in
    let p : ℕ = c.index.result.now in
    let e : Entry = c.index-entries-i.result in
    let a : Entry = c.index-entries-index.result in
    let positions : List ℕ = c.loop-i.positions.items in
    let at : slice_get es i ≡ Some e = slice_get_read es (length es) i e refl c.loop-i-test.true c.index-entries-i.is in
    let number : slice_get c.args.numbers.now i ≡ Some k = slice_get-get_or c.args.numbers.now i 0 (omega arith) in
    let w = c.requires.numbered i k e at number in
    let within : k < length positions = let h = slice_get_within (class_names by_names es) k w.0 w.1 in omega (arith, h, c.loop-i.invariant.positioned) in
    let there : slice_get positions k ≡ Some p = slice_get_read positions (length positions) k p refl within c.index.ensures in
    let old = c.loop-i.invariant.newest k p w.0 w.1 there in
    let other : slice_get es p ≡ Some a = slice_get_read es (length es) p a refl (slice_get_within es p old.0 old.1) c.index-entries-index.is in
    let tested : c.in_ok-is_newer.field-0 ≡ by_names.is_newer e.name a.name = c.in_ok-is_newer.ensures ∙ (λ j. by_names.is_newer (c.name-name.ensures j) (c.name.ensures j)) in
    elim c.if-branch.branch [
      | then-branch x ↦
          let is : c.if-branch.positions.items ≡ set positions k i = ap (λ (v : Vec ℕ Global). v.items) x.positions-is in
          record {
            positioned = ap length is ∙ (length-set positions k i ∙ c.loop-i.invariant.positioned);
            newest = subst (λ (l : List ℕ). AreNewest es (take (i + 1) es) l) (sym is)
                (newer es i k p e a positions at other there w (sym tested ∙ x.if-branch.true) c.loop-i.invariant.newest);
          }
      | else-branch x ↦
          let is : c.if-branch.positions.items ≡ positions = ap (λ (v : Vec ℕ Global). v.items) x.positions-is in
          record {
            positioned = ap length is ∙ c.loop-i.invariant.positioned;
            newest = subst (λ (l : List ℕ). AreNewest es (take (i + 1) es) l) (sym is)
                (not-newer es i k p e a positions at other there w (sym tested ∙ x.if-branch.false) c.loop-i.invariant.newest);
          }
    ]
