use Rattle.std.proofs.Common.{◌≡◌, Some, Result, Ok, Err, OnOk, slice_get, sym, subst}
use Rattle.wac_types_collection.specs.collection.Collection.{interface_exports}
use Rattle.wac_merge_classes.specs.declared.terms.parts.Part.{Part}
use Rattle.wac_merge_classes.specs.declared.terms.parts.Union.{Union}
use Rattle.wac_merge_resources.specs.values.NamedTypes.{IsListedBy, IsListedIn, no_join}
use Rattle.wac_merge_resources.proofs.lemmas.values.Links.{joins-for}
use Rattle.wac_merge_resources.proofs.lemmas.values.Joining.{read-is, read-past, read-there}
use Rattle.wac_merge_resources.proofs.values.named.join_in_union.Goals as goal

on_ok : {A E P Q : Type 0} (r : Result A E) → (P → Q) → OnOk r P → OnOk r Q
on_ok (Ok x) f h = f h
on_ok (Err e) f h = h

pub returns-in-Some-clause-one : goal.returns-in-Some-clause-one
returns-in-Some-clause-one c =
    let t = c.args.types.now in
    let x : Part = c.args.part.now in
    on_ok c.join_part.result
    (λ lists a b (u, at, p). lists a b
    (subst (λ (w : Union). IsListedIn t w.exports (interface_exports t x.interface) a b)
    (sym (read-there c.args.unions.now x.union c.in-Some.union.now u c.in-Some.ensures.lookup.3.0 c.in-Some.ensures.lookup.1 at)) p)) c.join_part.ensures.one

pub returns-in-None-clause-one : goal.returns-in-None-clause-one
returns-in-None-clause-one c a b (u, at, p) = read-past _ c.args.unions.now c.args.part.now.union u c.in-None.ensures.lookup.3 at

pub returns-in-Some-clause-along : goal.returns-in-Some-clause-along
returns-in-Some-clause-along c =
    let t = c.args.types.now in
    let x : Part = c.args.part.now in
    let u : Union = c.in-Some.union.now in
    let at : slice_get c.args.unions.now x.union ≡ Some u = read-is c.args.unions.now x.union u c.in-Some.ensures.lookup.3.0 c.in-Some.ensures.lookup.1 in
    on_ok c.join_part.result
    (λ along. joins-for (IsListedIn t u.exports (interface_exports t x.interface)) (IsListedBy t c.args.unions.now x) c.args.named.now c.join_part.new.named (λ a b p. (u, at, p)) along)
    c.join_part.ensures.along

pub returns-in-None-clause-along : goal.returns-in-None-clause-along
returns-in-None-clause-along c = no_join
