use Rattle.std.proofs.Common.{◌≡◌, ℕ, ◌+◌, List, [], ◌∷◌, ◌++◌, take, length, sym, ap, ◌∙◌, subst, arith}
use Rattle.std.proofs.lemmas.List.{length-append}
use Rattle.wac_merge_classes.specs.private.entries.Numbering.{AreFound, AreKeyed, HaveNumbers, class_names_to}
use Rattle.wac_merge_classes.proofs.lemmas.entries.Newest.{numbers-push, numbered-all, begins-all, are-classes}
use Rattle.wac_merge_classes.proofs.entries.classes.Classes.new.Goals as goal

pub loop-i-preserved : goal.loop-i-preserved
loop-i-preserved c =
    let es = c.args.entries.now in
    let i : ℕ = c.loop-i.i in
    let numbers : List ℕ = c.loop-i.numbers.items in
    let k : ℕ = c.in_ok-number.number in
    let v = c.loop-i.invariant in
    let items : c.push.new.self.items ≡ numbers ++ k ∷ [] = c.in_ok-push.ensures.items in
    record {
      keyed = c.in_ok-number.ensures.keyed;
      found = c.in_ok-number.ensures.found;
      counted = ap length items ∙ (length-append numbers (k ∷ []) ∙ ap (λ n. n + 1) v.counted);
      numbered = subst (λ (l : List ℕ). HaveNumbers es (class_names_to es (i + 1)) l) (sym items)
          (numbers-push es i k numbers v.counted v.numbered c.in_ok-number.ensures.number c.loop-i-test.true);
    }

pub newest_positions-requires-clause-numbered : goal.newest_positions-requires-clause-numbered
newest_positions-requires-clause-numbered c =
    let es = c.args.entries.now in
    let last : c.loop-i.i ≡ length es = omega arith in
    let all : HaveNumbers es (class_names_to es (length es)) c.loop-i.numbers.items = subst (λ (i : ℕ). HaveNumbers es (class_names_to es i) c.loop-i.numbers.items) last c.loop-i.invariant.numbered in
    rw c.as_slice.ensures.value (numbered-all es c.loop-i.numbers.items all)

pub newest_positions-requires-clause-begins : goal.newest_positions-requires-clause-begins
newest_positions-requires-clause-begins c =
    let es = c.args.entries.now in
    let last : c.loop-i.i ≡ length es = omega arith in
    let numbering = c.loop-i.numbering in
    begins-all es numbering.keys numbering.firsts.items
    (subst (λ (i : ℕ). AreKeyed es (class_names_to es i) numbering.keys numbering.firsts.items) last c.loop-i.invariant.keyed)

pub returns : goal.returns
returns c =
    let es = c.args.entries.now in
    let last : c.loop-i.i ≡ length es = omega arith in
    let v = c.loop-i.invariant in
    let numbers : List ℕ = c.loop-i.numbers.items in
    let names = c.loop-i.numbering.names in
    let all : HaveNumbers es (class_names_to es (length es)) numbers = subst (λ (i : ℕ). HaveNumbers es (class_names_to es i) numbers) last v.numbered in
    let found : AreFound es (class_names_to es (length es)) (take (length es) es) names = subst (λ (i : ℕ). AreFound es (class_names_to es i) (take i es) names) last v.found in
    are-classes es numbers c.in_ok-positions.positions.items names (v.counted ∙ last) (numbered-all es numbers all) found
    c.in_ok-positions.ensures.positioned c.in_ok-positions.ensures.newest
