use Rattle.std.proofs.Common.{◌+◌, [], ◌∷◌, length, arith, ap, ◌∙◌, subst, sym}
use Rattle.std.proofs.lemmas.List.{length-append}
use Rattle.wac_graph_encode.proofs.lemmas.places.FoundLemmas.{AreFoundBelow, found_next, found_all, none_found}
use Rattle.wac_graph_encode.proofs.places.indexes.import_indexes.Goals as goal

pub loop-n-preserved : goal.loop-n-preserved
loop-n-preserved c = (
  ap length c.in_ok-push.ensures.items ∙ length-append c.loop-n.indexes.items (c.import_index.result ∷ []) ∙ ap (λ k. k + 1) c.loop-n.invariant.0,
  subst (λ xs. AreFoundBelow c.args.reader.now c.args.imports.now (c.loop-n.n + 1) xs) (sym c.in_ok-push.ensures.items)
      (found_next c.args.reader.now c.args.imports.now c.loop-n.n c.loop-n.indexes.items c.import_index.result c.loop-n.invariant.0 c.loop-n.invariant.1 c.import_index.ensures),
)

pub returns-clause-room : goal.returns-clause-room
returns-clause-room c = λ n h. let small = c.capacity-count.ensures n h in omega (arith, small, c.loop-n-test.false, c.loop-n.invariant.0)

pub returns-clause-found : goal.returns-clause-found
returns-clause-found c = found_all c.args.reader.now c.args.imports.now c.loop-n.n c.loop-n.indexes.items c.loop-n.invariant.1
    (λ n h. let small = c.capacity-count.ensures n h in omega (arith, small, c.loop-n-test.false))

pub returns-then-imports_nothing-clause-room : goal.returns-then-imports_nothing-clause-room
returns-then-imports_nothing-clause-room c = λ n h. let small = c.capacity-count.ensures n h in omega (arith, small, c.in_ok-zeros.ensures.len)

pub returns-then-imports_nothing-clause-found : goal.returns-then-imports_nothing-clause-found
returns-then-imports_nothing-clause-found c = none_found c.args.reader.now (c.imports_nothing.ensures.0 c.if-imports_nothing.true) c.args.imports.now c.in_ok-zeros.zeros.items
