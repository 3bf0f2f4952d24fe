use Rattle.std.proofs.Common.{◌++◌, ◌∷◌, [], ℕ, List, Err, take, sym, ap, ◌∙◌, subst, add-one}
use Rattle.std.proofs.lemmas.Option.{slice_get_within}
use Rattle.wac_types_shapes.specs.primitives.Name.{Name, find_name}
use Rattle.wac_types_shapes.specs.declared.shapes.component.ItemKind.{ItemKind}
use Rattle.wac_types_shapes.proofs.lemmas.shapes.Names.{none_before, take_at}
use Rattle.wac_types_shapes.proofs.lemmas.shapes.Under.{not_some}
use Rattle.wac_merge_classes.specs.declared.terms.parts.Export.{Export}
use Rattle.wac_merge_unions.specs.private.uniting.UnionSteps.{AreOpen, IsHeldGroup}
use Rattle.wac_merge_classes.proofs.lemmas.entries.Lists.{some-at}
use Rattle.wac_merge_unions.proofs.lemmas.uniting.SameNames.{none_alike}
use Rattle.wac_merge_unions.proofs.lemmas.uniting.UnionLists.{all_at, all_take}
use Rattle.wac_merge_unions.proofs.lemmas.uniting.UnionJoins.{listing_still, names_zip, open_next}
use Rattle.wac_merge_unions.proofs.uniting.unions.Unions.exports.Goals as goal

pub export-requires-clause-some : goal.export-requires-clause-some
export-requires-clause-some c = (all_at (IsHeldGroup c.args.types.now c.args.self.now.parts.items) c.args.grouped.now c.loop-index.index (c.entry_at.result.0.now, c.entry_at.result.1.now) c.requires.held c.entry_at.ensures).0

pub export-requires-clause-within : goal.export-requires-clause-within
export-requires-clause-within c =
    let x = some-at c.args.self.now.unions.items c.args.position c.requires.within in
    slice_get_within c.loop-index.self.unions.items c.args.position x.0 (c.loop-index.invariant.0.unions c.args.position x.0 x.1)

pub export-requires-clause-held : goal.export-requires-clause-held
export-requires-clause-held c =
    let t = c.args.types.now in
    let ps = c.args.self.now.parts.items in
    let g : Name × List (ℕ × ItemKind) = (c.entry_at.result.0.now, c.entry_at.result.1.now) in
    listing_still t ps c.loop-index.self.parts.items c.loop-index.invariant.0.parts g.1 (all_at (IsHeldGroup t ps) c.args.grouped.now c.loop-index.index g c.requires.held c.entry_at.ensures).1

pub unreachable-requires : goal.unreachable-requires
unreachable-requires c =
    let gs = c.args.grouped.now in
    let i = c.loop-index.index in
    let es = c.loop-index.exports in
    let n : Name = c.entry_at.result.0.now in
    let names = names_zip c.args.types.now c.loop-index.self.unions.items c.loop-index.self.parts.items c.args.position (take i gs) es c.loop-index.invariant.0.exports in
    not_some (find_name es n) (none_alike (take i gs) es n (sym names) (none_before gs i n c.entry_at.result.1.now c.law.ensures c.entry_at.ensures))
    (c.insert.ensures.name_twice.0 (c.in-Err-NameTwice.is ∙ ap Err c.in-Err-NameTwice.field-0-is))

pub loop-index-preserved : goal.loop-index-preserved
loop-index-preserved c =
    let t = c.args.types.now in
    let us = c.args.self.now.unions.items in
    let ps = c.args.self.now.parts.items in
    let vs = c.loop-index.self.unions.items in
    let qs = c.loop-index.self.parts.items in
    let ws = c.export.new.self.unions.items in
    let rs = c.export.new.self.parts.items in
    let u = c.args.position in
    let gs = c.args.grouped.now in
    let i = c.loop-index.index in
    let g : Name × List (ℕ × ItemKind) = (c.entry_at.result.0.now, c.entry_at.result.1.now) in
    let e : Export = c.in_ok-export.export in
    let held = all_at (IsHeldGroup t ps) gs i g c.requires.held c.entry_at.ensures in
    rw (add-one, take_at gs i g c.entry_at.ensures) (
      subst (λ (es : List (Name × Export)). AreOpen t us ps u (take i gs ++ g ∷ []) ws rs es) (sym c.in-Ok.ensures.inserted)
          (open_next t c.requires.formed us vs ws ps qs rs u (take i gs) c.loop-index.exports g e c.requires.within (all_take (IsHeldGroup t ps) i gs c.requires.held) held.1 c.loop-index.invariant.0 c.in_ok-export.ensures.united c.in_ok-export.ensures.export),
      c.in_ok-export.ensures.known,
    )
