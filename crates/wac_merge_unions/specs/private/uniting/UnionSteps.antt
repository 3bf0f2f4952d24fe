-- Unions while they are computed. Only contracts inside the merge cite this file.
use Rattle.std.specs.Prelude.{ℕ, zero, suc, ◌+◌, ◌≡◌, ◌≢◌, ◌<◌, ◌≤◌, true, if◌then◌else◌, List, [], ◌∷◌, ◌++◌, map, length, Some, None, slice_get, Contains, ◌⊎◌, Vec}
use Rattle.std.specs.Global.{Global}
use Rattle.std.specs.List.{AllByRecursion, AllZip}
use Rattle.std.specs.Option.{MatchOption}
use Rattle.wac_types_shapes.specs.primitives.Name.{Name, same_name, find_name}
use Rattle.wac_types_collection.specs.collection.Collection.{Collection, HasInterface, holds_type}
use Rattle.wac_types_shapes.specs.shapes.Kinds.{kind_type}
use Rattle.wac_types_shapes.specs.declared.shapes.component.InterfaceId.{InterfaceId}
use Rattle.wac_types_shapes.specs.declared.shapes.component.ItemKind.{ItemKind}
use Rattle.wac_merge_classes.specs.entries.Scopes.{opened, opened_by}
use Rattle.wac_merge_classes.specs.entries.Opening.{total, count_in}
use Rattle.wac_merge_classes.specs.declared.terms.parts.Part.{Part}
use Rattle.wac_merge_classes.specs.declared.terms.parts.Export.{Export}
use Rattle.wac_merge_classes.specs.declared.terms.parts.Union.{Union}
use Rattle.wac_merge_classes.specs.terms.Merge.{names_behind}
use Rattle.wac_merge_classes.specs.terms.Unions.{part, part_lists, listed_under, IsInner, IsExport, AreAround}

-- ---- exports by name

-- The grouping with one more export of a part, after those under its name.
abbrev pub with_listed : List (Name × List (ℕ × ItemKind)) → Name → ℕ × ItemKind → List (Name × List (ℕ × ItemKind))
with_listed [] n l = (n, l ∷ []) ∷ []
with_listed (g ∷ gs) n l = if same_name n g.0 then (g.0, g.1 ++ l ∷ []) ∷ gs else g ∷ with_listed gs n l

-- The grouping with all exports of a part.
abbrev pub with_all_listed : List (Name × List (ℕ × ItemKind)) → ℕ → List (Name × ItemKind) → List (Name × List (ℕ × ItemKind))
with_all_listed gs p [] = gs
with_all_listed gs p (e ∷ es) = with_all_listed (with_listed gs e.0 (p, e.1)) p es

-- The grouping with all exports of these parts.
abbrev pub grouped : Collection → List Part → List (Name × List (ℕ × ItemKind)) → List ℕ → List (Name × List (ℕ × ItemKind))
grouped c ps gs [] = gs
grouped c ps gs (p ∷ rest) = grouped c ps (with_all_listed gs p (part_lists c ps p)) rest

-- There is a part at the position, and its interface is of the collection.
abbrev pub IsHeldPart : Collection → List Part → ℕ → Type 0
IsHeldPart c ps p = (x : Part) × (slice_get ps p ≡ Some x) × HasInterface c x.interface

-- An export of a part is of a type of the collection.
abbrev pub IsHeldListing : Collection → List Part → ℕ × ItemKind → Type 0
IsHeldListing c ps l = IsHeldPart c ps l.0 × (holds_type c (kind_type l.1) ≡ true)

-- A name has at least one export, and each is of a type of the collection.
abbrev pub IsHeldGroup : Collection → List Part → Name × List (ℕ × ItemKind) → Type 0
IsHeldGroup c ps g = (g.1 ≢ []) × AllByRecursion (IsHeldListing c ps) g.1

-- ---- one more union

-- The positions of the items of a list, counted from n.
abbrev pub numbered : {A : Type 0} → ℕ → List A → List ℕ
numbered n [] = []
numbered n (x ∷ xs) = n ∷ numbered (suc n) xs

-- A union with these new parts was appended.
abbrev pub IsPushed : List Union → List Part → List Part → List Union → List Part → Type 0
IsPushed us ps more vs qs = (x : Union) × (vs ≡ us ++ x ∷ []) × (x.parts.items ≡ numbered (length ps) more) × (qs ≡ ps ++ more)

-- A part of the union at a position, exported by an enclosing part.
abbrev pub inside_part : ℕ → ℕ × InterfaceId → Part
inside_part u i = part i.1 (Some i.0) u

-- A part of the union of a class.
abbrev pub root_part : ℕ → InterfaceId → Part
root_part u i = part i None u

-- Either the union of these interfaces existed, or it was appended.
abbrev pub IsUnited : List Union → List Part → List (ℕ × InterfaceId) → List Union → List Part → Type 0
IsUnited us ps is vs qs = ((vs ≡ us) × (qs ≡ ps)) ⊎ ((is ≢ []) × IsPushed us ps (map (inside_part (length us)) is) vs qs)

-- Each known union unites the interfaces of its key, and is nested in the union at the position.
abbrev pub AreKnown : List Union → List Part → ℕ → List (Vec (ℕ × InterfaceId) Global × ℕ) → Type 0
AreKnown us ps u known = AllByRecursion (λ e. IsInner us ps u e.0.items (Some e.1)) known

-- ---- the unions so far

-- A list keeps its items and their positions.
abbrev pub Extends : {A : Type 0} → List A → List A → Type 0
Extends xs ys = (i : ℕ) (x : _) → slice_get xs i ≡ Some x → slice_get ys i ≡ Some x

-- Unions keep their positions and their parts.
abbrev pub KeepsParts : List Union → List Union → Type 0
KeepsParts us vs = (u : ℕ) (x : Union) → slice_get us u ≡ Some x → (y : Union) × (slice_get vs u ≡ Some y) × (y.parts.items ≡ x.parts.items)

-- Each part is of an interface of the collection, and belongs to the union that lists it.
pub record AreSeated (c : Collection) (us : List Union) (ps : List Part) : Type 0 where
  pub held : (p : ℕ) (x : Part) → slice_get ps p ≡ Some x → HasInterface c x.interface
  pub within : (p : ℕ) (x : Part) → slice_get ps p ≡ Some x → (u : Union) × (slice_get us x.union ≡ Some u) × Contains u.parts.items p
  pub placed : (u p : ℕ) (x : Union) → slice_get us u ≡ Some x → Contains x.parts.items p → (y : Part) × (slice_get ps p ≡ Some y) × (y.union ≡ u)

-- Each part has an earlier enclosing part of an earlier union, or it belongs to one of the first `count` unions.
pub record ArePlaced (c : Collection) (count : ℕ) (us : List Union) (ps : List Part) : Type 0 where
  pub counted : count ≤ length us
  pub around : AreAround ps
  pub outermost : (p : ℕ) (x : Part) → slice_get ps p ≡ Some x → x.outer ≡ None → x.union < count
  pub inner : (p o : ℕ) (x y : Part) → slice_get ps p ≡ Some x → x.outer ≡ Some o → slice_get ps o ≡ Some y → (count ≤ x.union) × (y.union < x.union)

-- The first unions are those of the classes.
abbrev pub AreRooted : List (List InterfaceId) → List Union → List Part → Type 0
AreRooted roots us ps = (k : ℕ) (is : List InterfaceId) → slice_get roots k ≡ Some is → (u : Union) × (slice_get us k ≡ Some u) × AllZip (λ i q. slice_get ps q ≡ Some (part i None k)) is u.parts.items

-- There are only the unions of the classes.
pub record AreRoots (c : Collection) (roots : List (List InterfaceId)) (us : List Union) (ps : List Part) : Type 0 where
  pub counted : length us ≡ length roots
  pub rooted : AreRooted roots us ps
  pub seated : AreSeated c us ps
  pub flat : (p : ℕ) (x : Part) → slice_get ps p ≡ Some x → x.outer ≡ None

-- The union at a position has these exports.
pub record AreExports (c : Collection) (us : List Union) (ps : List Part) (u : ℕ) (members : List ℕ) (es : List (Name × Export)) : Type 0 where
  pub found : (n : Name) → MatchOption (find_name es n) (listed_under c ps members n ≡ []) (λ e. IsExport c us ps u n (listed_under c ps members n) e)
  pub names : map (λ e. e.0) es ≡ names_behind [] (map (part_lists c ps) members)

-- The first n unions have their exports.
pub record AreJoined (c : Collection) (roots : List (List InterfaceId)) (n : ℕ) (us : List Union) (ps : List Part) : Type 0 where
  pub rooted : AreRooted roots us ps
  pub seated : AreSeated c us ps
  pub placed : ArePlaced c (length roots) us ps
  pub exported : (u : ℕ) (x : Union) → u < n → slice_get us u ≡ Some x → AreExports c us ps u x.parts.items x.exports

-- ---- why the computation ends

-- Twice the number of scopes in these exports.
abbrev pub listed_weight : Collection → List (Name × ItemKind) → ℕ
listed_weight c es = total (count_in c) (opened es) + total (count_in c) (opened es)

-- Twice the number of scopes in the exports of these parts.
abbrev pub parts_weight : Collection → List Part → List ℕ → ℕ
parts_weight c ps [] = 0
parts_weight c ps (p ∷ rest) = listed_weight c (part_lists c ps p) + parts_weight c ps rest

-- Twice the number of scopes in an item.
abbrev pub kind_weight : Collection → ItemKind → ℕ
kind_weight c k = total (count_in c) (opened_by k) + total (count_in c) (opened_by k)

-- Twice the number of scopes in the exports under one name.
abbrev pub group_weight : Collection → List (ℕ × ItemKind) → ℕ
group_weight c [] = 0
group_weight c (l ∷ ls) = kind_weight c l.1 + group_weight c ls

-- Twice the number of scopes in the exports under these names.
abbrev pub groups_weight : Collection → List (Name × List (ℕ × ItemKind)) → ℕ
groups_weight c [] = 0
groups_weight c (g ∷ gs) = group_weight c g.1 + groups_weight c gs

-- The measure of the loop: the unions from position n on, with twice the number of scopes in their parts.
unfoldable pub left_over : Collection → List Union → List Part → ℕ → ℕ
left_over c [] ps n = 0
left_over c (x ∷ us) ps zero = suc (parts_weight c ps x.parts.items) + left_over c us ps zero
left_over c (x ∷ us) ps (suc n) = left_over c us ps n

-- ---- one step

-- An export of a union, for a name with these exports of its parts.
abbrev pub IsExportOf : Collection → List Union → List Part → ℕ → Name × List (ℕ × ItemKind) → Name × Export → Type 0
IsExportOf c us ps u g e = (e.0 ≡ g.0) × IsExport c us ps u g.0 g.1 e.1

-- The nested unions for these names were appended.
pub record AreOpen (c : Collection) (us : List Union) (ps : List Part) (u : ℕ) (gs : List (Name × List (ℕ × ItemKind))) (vs : List Union) (qs : List Part) (es : List (Name × Export)) : Type 0 where
  pub unions : Extends us vs
  pub parts : Extends ps qs
  pub seated : AreSeated c vs qs
  pub placed : (count : ℕ) → ArePlaced c count us ps → ArePlaced c count vs qs
  pub exports : AllZip (IsExportOf c vs qs u) gs es
  pub lighter : left_over c vs qs (suc u) ≤ left_over c us ps (suc u) + groups_weight c gs

-- The union at a position has its exports, and its nested unions were appended.
pub record IsJoined (c : Collection) (us : List Union) (ps : List Part) (u : ℕ) (vs : List Union) (qs : List Part) : Type 0 where
  pub kept : KeepsParts us vs
  pub others : (i : ℕ) (x : Union) → i ≢ u → slice_get us i ≡ Some x → slice_get vs i ≡ Some x
  pub parts : Extends ps qs
  pub seated : AreSeated c vs qs
  pub placed : (count : ℕ) → ArePlaced c count us ps → ArePlaced c count vs qs
  pub exported : (x : Union) → slice_get vs u ≡ Some x → AreExports c vs qs u x.parts.items x.exports
  pub lighter : left_over c vs qs (suc u) < left_over c us ps u
