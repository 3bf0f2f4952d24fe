use Rattle.std.proofs.Common.{◌≡◌, ◌∙◌, [], ℕ, List, Some, length, slice_get, refl, sym, ap, subst, arith}
use Rattle.std.specs.List.{AllByRecursion}
use Rattle.std.proofs.lemmas.Option.{slice_get_read, slice_get_within}
use Rattle.wac_types_shapes.specs.primitives.Name.{Name}
use Rattle.wac_types_shapes.specs.shapes.Named.{NoNameTwice}
use Rattle.wac_types_shapes.specs.declared.shapes.component.ItemKind.{ItemKind}
use Rattle.wac_merge_classes.specs.declared.terms.parts.Part.{Part}
use Rattle.wac_merge_classes.specs.declared.terms.parts.Union.{Union}
use Rattle.wac_merge_classes.specs.terms.Unions.{part_lists}
use Rattle.wac_merge_unions.specs.private.uniting.UnionSteps.{grouped, IsHeldPart, IsHeldGroup, AreOpen}
use Rattle.wac_merge_unions.proofs.lemmas.uniting.UnionLists.{some-same}
use Rattle.wac_merge_unions.proofs.lemmas.uniting.UnionPlaces.{members_held}
use Rattle.wac_merge_unions.proofs.lemmas.uniting.UnionJoins.{groups_held, join_done}
use Rattle.wac_merge_unions.proofs.uniting.unions.Unions.join.Goals as goal

pub group-requires : goal.group-requires
group-requires c =
    let t = c.args.types.now in
    let us = c.args.self.now.unions.items in
    let ps = c.args.self.now.parts.items in
    let x : Union = c.index.result.now in
    let at : slice_get us c.args.position ≡ Some x = slice_get_read us (length us) c.args.position x refl c.requires.within c.index.ensures in
    subst (λ (qs : List Part). AllByRecursion (IsHeldPart t qs) c.as_slice-members.result.now) (sym c.as_slice.ensures.value)
    (subst (λ (l : List ℕ). AllByRecursion (IsHeldPart t ps) l) (sym c.as_slice-members.ensures.value) (members_held t us ps c.args.position x c.requires.seated at))

pub exports-requires-clause-held : goal.exports-requires-clause-held
exports-requires-clause-held c =
    let t = c.args.types.now in
    let us = c.args.self.now.unions.items in
    let ps = c.args.self.now.parts.items in
    let x : Union = c.index.result.now in
    let at : slice_get us c.args.position ≡ Some x = slice_get_read us (length us) c.args.position x refl c.requires.within c.index.ensures in
    let is : c.group.new.self ≡ grouped t ps [] x.parts.items = c.in_ok-group.ensures.grouped ∙ (λ i. grouped t (c.as_slice.ensures.value i) [] (c.as_slice-members.ensures.value i)) in
    subst (λ (gs : List (Name × List (ℕ × ItemKind))). AllByRecursion (IsHeldGroup t ps) gs) (sym is) (groups_held t c.requires.formed us ps c.args.position x at c.requires.seated)

pub index_mut-requires : goal.index_mut-requires
index_mut-requires c =
    let us = c.args.self.now.unions.items in
    let vs = c.exports.new.self.unions.items in
    let x : Union = c.index.result.now in
    let at : slice_get us c.args.position ≡ Some x = slice_get_read us (length us) c.args.position x refl c.requires.within c.index.ensures in
    let lt = slice_get_within vs c.args.position x (c.in_ok-exports.ensures.unions c.args.position x at) in
    omega (arith, lt, c.exports.new.self.unions.ok.0)

pub returns : goal.returns
returns c =
    let t = c.args.types.now in
    let us = c.args.self.now.unions.items in
    let ps = c.args.self.now.parts.items in
    let vs = c.exports.new.self.unions.items in
    let qs = c.exports.new.self.parts.items in
    let n = c.args.position in
    let x : Union = c.index.result.now in
    let y : Union = c.index_mut.result.now in
    let es = c.in_ok-exports.exports in
    let z : Union = record { parts = y.parts; exports = es } in
    let at : slice_get us n ≡ Some x = slice_get_read us (length us) n x refl c.requires.within c.index.ensures in
    let is : c.group.new.self ≡ grouped t ps [] x.parts.items = c.in_ok-group.ensures.grouped ∙ (λ i. grouped t (c.as_slice.ensures.value i) [] (c.as_slice-members.ensures.value i)) in
    let once : AllByRecursion (λ p. NoNameTwice (part_lists t ps p)) x.parts.items =
    subst (λ (qs : List Part). AllByRecursion (λ p. NoNameTwice (part_lists t qs p)) x.parts.items) c.as_slice.ensures.value
    (subst (λ (l : List ℕ). AllByRecursion (λ p. NoNameTwice (part_lists t c.as_slice.result.now p)) l) c.as_slice-members.ensures.value c.in_ok-group.ensures.names) in
    let opened : AreOpen t us ps n (grouped t ps [] x.parts.items) vs qs es = subst (λ (gs : List (Name × List (ℕ × ItemKind))). AreOpen t us ps n gs vs qs es) is c.in_ok-exports.ensures in
    let there : slice_get vs n ≡ Some x = opened.unions n x at in
    let now : slice_get vs n ≡ Some y = slice_get_read vs (length vs) n y refl (slice_get_within vs n x there) c.index_mut.ensures.value in
    let same : y.parts.items ≡ x.parts.items = ap (λ (w : Union). w.parts.items) (some-same y x (sym now ∙ there)) in
    join_done t c.requires.formed us ps n x at c.requires.seated once vs qs es z same refl opened
