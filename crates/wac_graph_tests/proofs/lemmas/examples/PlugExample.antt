-- Worked examples: which exports of a plug match which imports of a socket, and which matches win.
use Rattle.std.proofs.Common.{◌≡◌, false, ℕ, inl, inr, List, [], ◌∷◌, Option, Some, None, Ok, Err, codes, refl, ap, sym, subst}
use Rattle.std.proofs.lemmas.Bool.{false≢true}
use Rattle.semver.specs.Parse.{digits_from, scan}
use Rattle.wac_names.specs.Text.{after, before, has}
use Rattle.wac_names.specs.Track.{OneTrack, parts_piece, series}
use Rattle.wac_names.specs.Reading.{is_interface_name, is_label, is_lower_label, is_package, read_track, read_version, version_piece}
use Rattle.wac_names.proofs.TrackFacts.{read-one_track, one_track-read}
use Rattle.wac_types_shapes.specs.primitives.Name.{Name, same_name}
use Rattle.wac_types_shapes.specs.declared.shapes.component.FuncType.{FuncType}
use Rattle.wac_types_shapes.specs.declared.shapes.component.ItemKind.{ItemKind}
use Rattle.wac_types_shapes.specs.declared.shapes.component.ItemKind.TheVariants as kind
use Rattle.wac_types_shapes.specs.declared.primitives.component.PrimitiveType.TheVariants as prim
use Rattle.wac_types_shapes.specs.declared.shapes.component.ValueType.{ValueType}
use Rattle.wac_types_shapes.specs.declared.shapes.component.ValueType.TheVariants as val
use Rattle.wac_types_shapes.specs.primitives.Tree.{TypeTree, absent, function, function_item, primitive}
use Rattle.wac_types_collection.specs.collection.Collection.{Collection}
use Rattle.wac_types_collection.specs.declared.collection.collection.Held.{Held}
use Rattle.wac_types_collection.specs.subtyping.Subtype.{IsSubtype, kind_tree, type_tree}
use Rattle.wac_types_collection.proofs.lemmas.subtyping.Relation.{sub_refl, plain_sub}
use Rattle.wac_edges.specs.declared.node.NodeId.{NodeId}
use Rattle.wac_graph_model.specs.declared.nodes.packages.PackageId.{PackageId}
use Rattle.wac_graph_model.specs.nodes.Graph.{Graph}
use Rattle.wac_graph.specs.declared.plugs.errors.PlugError.TheVariants.{NoPlugHappened}
use Rattle.wac_graph.specs.plugs.Matching.{Match, PlugMatches, IsMatch, HasNoMatch, AreMatches, IsTarget}
use Rattle.wac_graph.specs.plugs.Precedence.{PlugMatch, wired, passed_over}
use Rattle.wac_graph.specs.plugs.Plugging.{Ends}

-- ---- a function without a result, and one that gives a bool
abbrev function_of : Option ValueType → ℕ → Held FuncType
function_of result before = record { item = record { params = []; result = result; is_async = false }; before = before }

abbrev types : Collection
types = record {
  resources = [];
  funcs = function_of None 0 ∷ function_of (Some (val.Primitive prim.Bool)) 1 ∷ [];
  defined = [];
  modules = [];
  interfaces = [];
  worlds = [];
}

abbrev plain : ItemKind
plain = kind.Func (record { 0 = 0 })

abbrev telling : ItemKind
telling = kind.Func (record { 0 = 1 })

-- the one is a subtype of itself
fits : IsSubtype types plain types plain
fits = sub_refl (kind_tree types plain)

-- and not of the other
results_differ : (names : List Name) (parts : ℕ → TypeTree Name) → function_item (function false names parts absent) ≡ function_item (function false names parts (primitive prim.Bool)) → ⊥
results_differ names parts same = cc

differs : IsSubtype types plain types telling → ⊥
unfolding type_tree
differs h = results_differ _ _ (plain_sub _ _ tt h)

-- ---- three versions of an interface on one track
abbrev c0 : Name
c0 = codes "a:b/c@1.0.0"

abbrev c1 : Name
c1 = codes "a:b/c@1.1.0"

abbrev c2 : Name
c2 = codes "a:b/c@1.2.0"

on_track_1 : OneTrack c0 c1
unfolding read_track read_version is_interface_name parts_piece version_piece series has before after is_label is_lower_label is_package digits_from scan
on_track_1 = read-one_track c0 c1 refl

on_track_2 : OneTrack c0 c2
unfolding read_track read_version is_interface_name parts_piece version_piece series has before after is_label is_lower_label is_package digits_from scan
on_track_2 = read-one_track c0 c2 refl

apart : c1 ≡ c2 → ⊥
apart e = false≢true (ap (λ n. same_name n c2) e)

abbrev match : Name → Name → Match
match export import = record { export = export; import = import }

-- ---- the import of the export's name is of another type, and one on its track is of the same
abbrev other_type : List (Name × ItemKind)
other_type = (c0, telling) ∷ (c1, plain) ∷ []

-- the export matches nothing
pub another_type_of_its_name : HasNoMatch types other_type (c0, plain)
another_type_of_its_name m is =
    let target : (m.import, is.1.0) ≡ (c0, telling) = is.1.1 in
    differs (subst (λ k. IsSubtype types plain types k) (ap (λ t. t.1) target) is.1.2)

-- in particular not the import on its track
pub no_second_choice : IsMatch types other_type (c0, plain) (match c0 c1) → ⊥
no_second_choice = another_type_of_its_name (match c0 c1)

-- ---- no import has the export's name, and two are on its track, the later version first
abbrev later_first : List (Name × ItemKind)
later_first = (c2, plain) ∷ (c1, plain) ∷ []

-- the export matches the first
pub first_of_the_world : IsMatch types later_first (c0, plain) (match c0 c2)
first_of_the_world = (refl, (plain, inl (on_track_2, refl), fits))

-- and not the other, whose version is nearer
target_is_first : (kind : ItemKind) → IsTarget later_first c0 (c1, kind) → ⊥
target_is_first kind (inl h) = apart (ap (λ t. t.0) h.1)
target_is_first kind (inr h) = h.0 on_track_2

pub not_the_nearest_version : IsMatch types later_first (c0, plain) (match c0 c1) → ⊥
not_the_nearest_version is = target_is_first is.1.0 is.1.1

-- ---- the same, the earlier version first
abbrev earlier_first : List (Name × ItemKind)
earlier_first = (c1, plain) ∷ (c2, plain) ∷ []

-- the export matches the first here too, so not always the highest version
pub first_of_the_other_world : IsMatch types earlier_first (c0, plain) (match c0 c1)
first_of_the_other_world = (refl, (plain, inl (on_track_1, refl), fits))

other_target_is_first : (kind : ItemKind) → IsTarget earlier_first c0 (c2, kind) → ⊥
other_target_is_first kind (inl h) = apart (sym (ap (λ t. t.0) h.1))
other_target_is_first kind (inr h) = h.0 on_track_1

pub not_the_highest_version : IsMatch types earlier_first (c0, plain) (match c0 c2) → ⊥
not_the_highest_version is = other_target_is_first is.1.0 is.1.1

-- ---- matches of two exports, of which one has none
abbrev label : Name
label = codes "a"

off_track_1 : OneTrack label c1 → ⊥
unfolding read_track read_version is_interface_name parts_piece version_piece series has before after is_label is_lower_label is_package digits_from scan
off_track_1 w = let e = one_track-read label c1 w in cc

off_track_2 : OneTrack label c2 → ⊥
unfolding read_track read_version is_interface_name parts_piece version_piece series has before after is_label is_lower_label is_package digits_from scan
off_track_2 w = let e = one_track-read label c2 w in cc

no_target : (import : Name) (kind : ItemKind) → IsTarget later_first label (import, kind) → ⊥
no_target import kind (inl h) = off_track_2 h.0
no_target import kind (inr (off, inl h)) = off_track_1 h.0
no_target import kind (inr (off, inr h)) = h.1

unmatched : HasNoMatch types later_first (label, plain)
unmatched m is = no_target m.import is.1.0 is.1.1

-- the one without is passed over
pub matches_are : AreMatches types later_first ((label, plain) ∷ (c0, plain) ∷ []) (match c0 c2 ∷ [])
matches_are = inl (unmatched, inr (match c0 c2, [], refl, first_of_the_world, refl))

-- ---- the first match of an import wins, and the others are passed over in order
abbrev plug : ℕ → PackageId
plug slot = record { slot = slot; generation = 0 }

abbrev of_plug : ℕ → List Match → PlugMatches
of_plug slot ms = record { plug = plug slot; matches = ms }

abbrev over : ℕ → Match → PlugMatch
over slot m = record { plug = plug slot; match = m }

-- two plugs with one export: the earlier is wired, and the later is left out
abbrev two_plugs : List PlugMatches
two_plugs = of_plug 0 (match label label ∷ []) ∷ of_plug 1 (match label label ∷ []) ∷ []

pub earlier_plug_wins : wired [] two_plugs ≡ of_plug 0 (match label label ∷ []) ∷ []
earlier_plug_wins = refl

pub later_plug_is_passed_over : passed_over [] two_plugs ≡ over 1 (match label label) ∷ []
later_plug_is_passed_over = refl

-- two exports of one plug on the track of one import
abbrev one_track : List PlugMatches
one_track = of_plug 0 (match c0 c2 ∷ match c1 c2 ∷ []) ∷ []

pub earlier_export_wins : wired [] one_track ≡ of_plug 0 (match c0 c2 ∷ []) ∷ []
earlier_export_wins = refl

pub later_export_is_passed_over : passed_over [] one_track ≡ over 0 (match c1 c2) ∷ []
later_export_is_passed_over = refl

-- one plug twice in the list: the second time all is passed over
abbrev twice : List PlugMatches
twice = of_plug 0 (match c0 c0 ∷ match c1 c1 ∷ []) ∷ of_plug 0 (match c0 c0 ∷ match c1 c1 ∷ []) ∷ []

pub first_time_wins : wired [] twice ≡ of_plug 0 (match c0 c0 ∷ match c1 c1 ∷ []) ∷ []
first_time_wins = refl

pub in_order_of_exports : passed_over [] twice ≡ over 0 (match c0 c0) ∷ over 0 (match c1 c1) ∷ []
in_order_of_exports = refl

-- two imports of one export name are both wired
pub two_imports : wired [] (of_plug 0 (match c0 c2 ∷ []) ∷ of_plug 1 (match c0 c1 ∷ []) ∷ []) ≡ of_plug 0 (match c0 c2 ∷ []) ∷ of_plug 1 (match c0 c1 ∷ []) ∷ []
two_imports = refl

-- ---- without a plug that is plugged in the result is that nothing matches, whatever the socket exports
pub nothing_happened : (g : Graph) (socket : NodeId) (exports : List Name) → Ends socket exports g [] (Err NoPlugHappened) g
nothing_happened g socket exports = (refl, refl)

pub no_success : (g h : Graph) (socket : NodeId) (exports : List Name) → Ends socket exports g [] (Ok tt) h → ⊥
no_success g h socket exports ends = let e : Ok tt ≡ Err NoPlugHappened = ends.0 in cc
