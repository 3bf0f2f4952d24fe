use Rattle.std.proofs.Common.{◌≡◌, ap, subst}
use Rattle.wac_types_collection.specs.collection.Collection.{IsWellFormed}
use Rattle.wac_merge_classes.specs.terms.Merge.{import_entries}
use Rattle.wac_merge_imports.proofs.lemmas.unions.Assembled.{AreDeep}
use Rattle.wac_merge_imports.proofs.lemmas.unions.AssembledBound.{bound-is}
use Rattle.wac_merge_imports.proofs.lemmas.unions.AssembledHeld.{imports-held}
use Rattle.wac_merge_imports.proofs.lemmas.unions.BareImports.{first-assembled, imports-asked, imports-bare, still-assembled, still-once, using-binds}
use Rattle.wac_merge_imports.proofs.lemmas.unions.AssembledMerge.{agreed-pairs, merge-is}
use Rattle.wac_types_shapes.specs.shapes.Kinds.{kind_type}
use Rattle.wac_merge_tables.proofs.lemmas.made.Extending.{extended_twice, still_holds}
use Rattle.wac_merge_imports.proofs.lemmas.unions.MadeAlike.{one-func}
use Rattle.wac_merge_imports.proofs.lemmas.unions.OneIds.{apart-named, one-id}
use Rattle.wac_merge_imports.proofs.lemmas.unions.OneInterface.{one-interface}
use Rattle.wac_merge_unions.proofs.lemmas.uses.AlikeMerges.{using-held-all, using-keeps, using-merge, using-roots}
use Rattle.wac_merge_imports.proofs.lemmas.faults.EntryFaults.{entry_faults}
use Rattle.wac_merge_imports.proofs.lemmas.weight.MergedWeights.{lighter}
use Rattle.wac_merge_imports.proofs.unions.merged.Merged.new.Goals as goal

pub write_imports-requires-clause-each : goal.write_imports-requires-clause-each
write_imports-requires-clause-each c k is = (c.requires.each k).0 is

pub using-requires-clause-held : goal.using-requires-clause-held
using-requires-clause-held c =
    let t = c.args.types.now in
    let es = c.args.entries.now in
    let bs = c.args.bindings.now in
    let us = c.in_ok-basis.basis.unions.unions.items in
    let ps = c.in_ok-basis.basis.unions.parts.items in
    let f = c.in_ok-basis.basis.fresh in
    let basis = c.in_ok-basis.ensures.basis in
    let started = c.of.new.merged in
    let m = c.write_imports.new.merged in
    let bare = import_entries c.in_ok-bare.bare in
    let u = basis.unions in
    let w = c.in_ok-bare.ensures.imports in
    let first = first-assembled t started m es us ps bs f c.args.order.now bare u w c.laws.ensures.well_formed c.law.ensures c.law-2.ensures c.laws.ensures.sound basis.extended c.write_imports.ensures.extended
    basis.listed c.requires.bindings basis.fresh c.requires.held (agreed-pairs t es c.requires.agreed) c.requires.written c.requires.each c.requires.once in
    imports-held t m es u.roots us ps bs f w.ids w.ws c.args.order.now bare first

pub using-requires-clause-named : goal.using-requires-clause-named
using-requires-clause-named c =
    let t = c.args.types.now in
    let es = c.args.entries.now in
    let bs = c.args.bindings.now in
    let us = c.in_ok-basis.basis.unions.unions.items in
    let ps = c.in_ok-basis.basis.unions.parts.items in
    let f = c.in_ok-basis.basis.fresh in
    let basis = c.in_ok-basis.ensures.basis in
    let started = c.of.new.merged in
    let m = c.write_imports.new.merged in
    let bare = import_entries c.in_ok-bare.bare in
    let u = basis.unions in
    let w = c.in_ok-bare.ensures.imports in
    let first = first-assembled t started m es us ps bs f c.args.order.now bare u w c.laws.ensures.well_formed c.law.ensures c.law-2.ensures c.laws.ensures.sound basis.extended c.write_imports.ensures.extended
    basis.listed c.requires.bindings basis.fresh c.requires.held (agreed-pairs t es c.requires.agreed) c.requires.written c.requires.each c.requires.once in
    imports-asked t m es u.roots us ps bs f w.ids w.ws c.args.order.now bare first

pub using-requires-clause-bare : goal.using-requires-clause-bare
using-requires-clause-bare c =
    let t = c.args.types.now in
    let es = c.args.entries.now in
    let bs = c.args.bindings.now in
    let us = c.in_ok-basis.basis.unions.unions.items in
    let ps = c.in_ok-basis.basis.unions.parts.items in
    let f = c.in_ok-basis.basis.fresh in
    let basis = c.in_ok-basis.ensures.basis in
    let started = c.of.new.merged in
    let m = c.write_imports.new.merged in
    let bare = import_entries c.in_ok-bare.bare in
    let u = basis.unions in
    let w = c.in_ok-bare.ensures.imports in
    let first = first-assembled t started m es us ps bs f c.args.order.now bare u w c.laws.ensures.well_formed c.law.ensures c.law-2.ensures c.laws.ensures.sound basis.extended c.write_imports.ensures.extended
    basis.listed c.requires.bindings basis.fresh c.requires.held (agreed-pairs t es c.requires.agreed) c.requires.written c.requires.each c.requires.once in
    imports-bare t m es u.roots us ps bs f w.ids w.ws c.args.order.now bare first

pub returns : goal.returns
returns c =
    let t = c.args.types.now in
    let es = c.args.entries.now in
    let bs = c.args.bindings.now in
    let us = c.in_ok-basis.basis.unions.unions.items in
    let ps = c.in_ok-basis.basis.unions.parts.items in
    let f = c.in_ok-basis.basis.fresh in
    let basis = c.in_ok-basis.ensures.basis in
    let started = c.of.new.merged in
    let m = c.write_imports.new.merged in
    let bare = import_entries c.in_ok-bare.bare in
    let u = basis.unions in
    let w = c.in_ok-bare.ensures.imports in
    let first = first-assembled t started m es us ps bs f c.args.order.now bare u w c.laws.ensures.well_formed c.law.ensures c.law-2.ensures c.laws.ensures.sound basis.extended c.write_imports.ensures.extended
    basis.listed c.requires.bindings basis.fresh c.requires.held (agreed-pairs t es c.requires.agreed) c.requires.written c.requires.each c.requires.once in
    let more = c.in_ok-merge.merge.types in
    let same : c.merge.inside.types ≡ more = ap (λ x. x.types) c.merge.view_is in
    let well = subst IsWellFormed same c.laws-2.ensures.well_formed in
    let grown = c.in_ok-merge.ensures.extended in
    let imports = c.in_ok-merge.merge.imports in
    let all = still-assembled t m more grown c.law-2.ensures well es us ps bs f c.args.order.now bare u.roots w.ids w.ws first in
    let named = c.in_ok-basis.basis.named in
    let positions = c.args.classes.now.positions.items in
    let o = still-once t m more grown c.law-2.ensures well es us ps bs f c.args.order.now bare named positions c.in_ok-bare.ensures.once in
    let using = c.in_ok-merge.ensures.using in
    let assembled = first-assembled t started more es us ps bs f c.args.order.now bare u o.written c.laws.ensures.well_formed c.law.ensures well c.laws.ensures.sound basis.extended (extended_twice started m more c.write_imports.ensures.extended grown)
    basis.listed c.requires.bindings basis.fresh c.requires.held (agreed-pairs t es c.requires.agreed) c.requires.written c.requires.each c.requires.once in
    let whole : AreDeep t c.merge.inside.types = record {
      placed = c.laws.ensures.placed;
      merged_placed = c.laws-2.ensures.placed;
      bound = c.laws.ensures.bound;
      named = c.laws.ensures.named;
      merged_named = c.laws-2.ensures.named;
    } in
    let deep = subst (AreDeep t) same whole in
    record {
      merged = using-merge t es more bare imports using (merge-is t more es u.roots us ps bs f w.ids w.ws c.args.order.now bare all deep c.requires.agreed);
      bound = using-binds t es more bare imports using (bound-is t more es u.roots us ps bs f w.ids w.ws c.args.order.now bare all);
      once = record {
        us = us;
        ps = ps;
        bs = bs;
        f = f;
        numbers = c.args.classes.now.numbers.items;
        positions = positions;
        names = c.args.classes.now.names;
        order = c.args.order.now;
        t = named;
        classes = c.requires.classes;
        ordered = c.requires.written;
        bindings = c.requires.bindings;
        unions = u;
        fresh = all.merged.fresh;
        bare = bare;
        written = o.written;
        using = using;
        united = basis.united;
        classed = basis.classed;
        named = basis.named;
        one = one-id t more es us ps bs f named positions c.args.order.now bare o;
        apart = apart-named t more es us ps bs f named positions c.args.order.now bare o;
        one_func = one-func t more es us ps bs f named positions c.args.order.now bare o;
        one_interface = one-interface t more es u.roots us ps bs f named positions c.args.order.now bare o assembled imports using;
      };
      uses = using-keeps t es more bare imports using;
      faults = entry_faults t more es u.roots us ps bs f w.ids w.ws c.args.order.now bare imports all using (using-roots t es more bare imports using (λ i. i));
      lighter = lighter t more es u.roots us ps bs f named c.args.classes.now.numbers.items positions c.args.order.now c.args.classes.now.names bare imports c.requires.classes o assembled using;
      begins = all.extended;
      asked = λ i e at. still_holds t more all.extended (kind_type e.kind) (c.requires.held i e at);
      holds = using-held-all t es more bare imports using (imports-held t more es u.roots us ps bs f w.ids w.ws c.args.order.now bare all);
    }
