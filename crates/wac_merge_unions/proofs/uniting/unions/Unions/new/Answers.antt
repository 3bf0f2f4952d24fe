use Rattle.std.proofs.Common.{◌≡◌, List, Vec, Some, map, length, slice_get, take, refl, sym, subst, arith, add-one}
use Rattle.std.specs.Global.{Global}
use Rattle.std.specs.List.{AllByRecursion}
use Rattle.std.proofs.lemmas.List.{take_all}
use Rattle.std.proofs.lemmas.Option.{slice_get_read}
use Rattle.wac_types_collection.specs.collection.Collection.{HasInterface}
use Rattle.wac_types_shapes.specs.declared.shapes.component.InterfaceId.{InterfaceId}
use Rattle.wac_types_shapes.proofs.lemmas.shapes.Names.{take_at}
use Rattle.wac_merge_unions.specs.private.uniting.UnionSteps.{root_part, IsPushed, AreRoots}
use Rattle.wac_merge_unions.proofs.lemmas.uniting.UnionLists.{all_at, map_push}
use Rattle.wac_merge_unions.proofs.lemmas.uniting.UnionPlaces.{roots_next}
use Rattle.wac_merge_unions.proofs.lemmas.uniting.UnionJoins.{joined_first, joined_next, all_joined}
use Rattle.wac_merge_unions.proofs.uniting.unions.Unions.new.Goals as goal

abbrev ids : List (Vec InterfaceId Global) → List (List InterfaceId)
ids rs = map (λ is. is.items) rs

pub loop-index-preserved : goal.loop-index-preserved
loop-index-preserved c =
    let t = c.args.types.now in
    let roots = c.args.roots.now in
    let us = c.loop-index.unions.unions.items in
    let ps = c.loop-index.unions.parts.items in
    let vs = c.push_root.new.self.unions.items in
    let qs = c.push_root.new.self.parts.items in
    let i = c.loop-index.index in
    let is : Vec InterfaceId Global = c.index-roots-index.result in
    let at : slice_get roots i ≡ Some is = slice_get_read roots (length roots) i is refl c.loop-index-test.true c.index-roots-index.is in
    let held = all_at (λ (l : Vec InterfaceId Global). AllByRecursion (HasInterface t) l.items) roots i is c.requires at in
    let pushed : IsPushed us ps (map (root_part (length us)) is.items) vs qs =
    subst (λ (l : List InterfaceId). IsPushed us ps (map (root_part (length us)) l) vs qs) c.as_slice.ensures.value c.in_ok-push_root.ensures in
    rw (add-one, take_at roots i is at)
    (subst (λ (l : List (List InterfaceId)). AreRoots t l vs qs) (sym (map_push (λ (l : Vec InterfaceId Global). l.items) (take i roots) is))
    (roots_next t (ids (take i roots)) us ps is.items held vs qs pushed c.loop-index.invariant))

pub loop-position-init : goal.loop-position-init
loop-position-init c =
    let t = c.args.types.now in
    let roots = c.args.roots.now in
    let us = c.loop-index.unions.unions.items in
    let ps = c.loop-index.unions.parts.items in
    let all : take c.loop-index.index roots ≡ roots = take_all c.loop-index.index roots (omega (arith, c.loop-index-test.false)) in
    joined_first t (ids roots) us ps (subst (λ (l : List (Vec InterfaceId Global)). AreRoots t (ids l) us ps) all c.loop-index.invariant)

pub loop-position-preserved : goal.loop-position-preserved
loop-position-preserved c =
    let us = c.loop-position.unions.unions.items in
    rw add-one
    (joined_next c.args.types.now (ids c.args.roots.now) c.loop-position.position us c.join.new.self.unions.items c.loop-position.unions.parts.items c.join.new.self.parts.items
    (omega (arith, c.len.ensures, c.loop-position.unions.unions.ok.0, c.loop-position-test.true)) c.loop-position.invariant c.in_ok-join.ensures)

pub returns : goal.returns
returns c =
    all_joined c.args.types.now (ids c.args.roots.now) c.loop-position.position c.loop-position.unions.unions.items c.loop-position.unions.parts.items
    (omega (arith, c.len.ensures, c.loop-position.unions.unions.ok.0, c.loop-position-test.false)) c.loop-position.invariant
