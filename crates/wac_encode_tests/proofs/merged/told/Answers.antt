use Rattle.std.proofs.Common.{sym, subst}
use Rattle.wac_encode_imports.specs.private.Imports.{AreImported}
use Rattle.wac_encode_tests.proofs.RootItems.{on-ok-is}
use Rattle.wac_encode_tests.proofs.RootMerges.{no-unbound, told-root}
use Rattle.wac_encode_tests.proofs.merged.told.Goals as goal

pub tell_graph-told-requires-clause-finished : goal.tell_graph-told-requires-clause-finished
tell_graph-told-requires-clause-finished g c = c.requires.merge.finished

pub tell_graph-told-requires-clause-held : goal.tell_graph-told-requires-clause-held
tell_graph-told-requires-clause-held g c = c.requires.merge.entries

pub tell_graph-told-requires-clause-merged : goal.tell_graph-told-requires-clause-merged
tell_graph-told-requires-clause-merged g c = c.requires.merge.merged

pub tell_graph-told-requires-clause-ordered : goal.tell_graph-told-requires-clause-ordered
tell_graph-told-requires-clause-ordered g c = c.requires.merge.ordered

pub tell_graph-told-requires-clause-bound : goal.tell_graph-told-requires-clause-bound
tell_graph-told-requires-clause-bound g c = c.requires.merge.bound

pub tell_graph-told-requires-clause-agreed : goal.tell_graph-told-requires-clause-agreed
tell_graph-told-requires-clause-agreed g c = c.requires.merge.agreed

pub tell_graph-told-requires-clause-clean : goal.tell_graph-told-requires-clause-clean
tell_graph-told-requires-clause-clean g c = λ merged. no-unbound c.args.types.now (c.args.merge.now).entries c.requires.faultless merged.order

pub tell_graph-told-requires-clause-imported : goal.tell_graph-told-requires-clause-imported
tell_graph-told-requires-clause-imported g c = subst (λ ps. AreImported (c.args.merge.now).merge ps c.args.written.state) (sym c.as_slice.ensures.value) c.requires.imported

pub returns : goal.returns
returns g c =
    let merged = c.requires.merge.merged in
    let told = on-ok-is c.tell_graph-told.result c.expect.result c.expect.ensures c.tell_graph-told.ensures.told in
    told-root c.args.types.now (c.args.merge.now).entries merged.order (c.args.merge.now).merge c.args.written.places.items c.args.written.state c.tell_graph-told.new.state c.requires.imported (told merged)
