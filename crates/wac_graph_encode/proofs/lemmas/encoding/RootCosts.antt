-- What the root is charged where items are appended and types written.
use Rattle.std.proofs.Common.{ℕ, suc, ◌+◌, ◌*◌, ◌^◌, ◌<◌, ◌≤◌, Bool, true, false, if◌then◌else◌, List, [], ◌∷◌, ◌++◌, length, Option, Some, None, ◌≡◌, inl, inr, refl, ap, sym, ◌∙◌, subst, arith, length-append, mul-zero}
use Rattle.std.specs.Borrow.{Bor}
use Rattle.std.specs.Prelude.{Result, Ok, Err, OnOk, IfErr, IsErrAnd, IsSomeAnd, IfSome, codes}
use Rattle.std.specs.List.{list_any, sum_by}
use Rattle.std.specs.Option.{option_and_then}
use Rattle.std.proofs.lemmas.List.Sums.{sum_by-cons}
use Rattle.semver.specs.Identifiers.{parts_text}
use Rattle.wac_types_shapes.specs.primitives.Name.{Name, option_case}
use Rattle.wac_types_shapes.specs.declared.shapes.component.ItemKind.{ItemKind}
use Rattle.wac_types_shapes.specs.declared.shapes.component.ItemKind.TheVariants.{TypeItem}
use Rattle.wac_types_shapes.specs.declared.shapes.component.WorldId.{WorldId}
use Rattle.wac_types_shapes.specs.declared.shapes.component.«Type».{«Type» as AnyType}
use Rattle.wac_types_shapes.specs.declared.shapes.component.«Type».TheVariants as ty
use Rattle.wac_types_collection.specs.collection.Bound.{Bindings}
use Rattle.wac_types_collection.specs.collection.Collection.{Collection, IsWellFormed, holds_type}
use Rattle.wac_types_collection.specs.collection.Package.{PackageParts}
use Rattle.wac_types_collection.specs.reach.Reach.{IsIn}
use Rattle.wac_types_weight.specs.Weight.{is_scope, near_all, weight, item_weight}
use Rattle.wac_types_weight.specs.Text.{own_texts}
use Rattle.wac_types_weight.specs.private.Laws.{Covers}
use Rattle.wac_types_weight.proofs.Near.{near-is-closed}
use Rattle.wac_binary.specs.declared.sorts.Sort.{Sort}
use Rattle.wac_binary.specs.declared.fault.BinaryFault.{BinaryFault}
use Rattle.wac_binary.specs.declared.fault.BinaryFault.TheVariants as fault
use Rattle.wac_binary.specs.Items.{Item, nested, instantiate}
use Rattle.wac_binary.specs.Fits.{Fits}
use Rattle.wac_binary.specs.Views.{arguments_of}
use Rattle.wac_merge_classes.specs.entries.Classes.{by_names}
use Rattle.wac_merge_classes.specs.terms.Merge.{IsMerge}
use Rattle.wac_edges.specs.declared.node.NodeId.{NodeId}
use Rattle.wac_encode_stacks.specs.Scopes.{root}
use Rattle.wac_encode_stacks.specs.private.Sizes.{item_size, size_of, SmallFits}
use Rattle.wac_encode_scopes.specs.declared.encodable.Encodable.{Encodable}
use Rattle.wac_encode_scopes.specs.declared.encodable.Encodable.TheVariants.{Builder, Instance, Component}
use Rattle.wac_encode_scopes.specs.declared.scope.Scope.{Scope}
use Rattle.wac_encode_scopes.specs.declared.state.State.{State}
use Rattle.wac_encode_scopes.specs.Books.{book_of, binds_in, exports_in, opened}
use Rattle.wac_encode_scopes.specs.Contents.{content_of}
use Rattle.wac_encode_scopes.specs.Lending.{with_items}
use Rattle.wac_encode_scopes.specs.Roots.{IsRoot, items_of}
use Rattle.wac_encode_scopes.specs.States.{outward}
use Rattle.wac_encode_scopes.specs.private.Paid.{sum_below, rate, alias_cost, pending, charge, total, all_paid, IsPaid, HasNoRoom, too_large, too_deep, IsFaultPaid, IsLarge, world_cost}
use Rattle.wac_encode_scopes.proofs.Paying.{total-is, adds-at-most}
use Rattle.wac_encode_interfaces.specs.private.Paid.{definition_cost, IsHeavy}
use Rattle.wac_encode_imports.proofs.Costing.{single-around}
use Rattle.wac_encode_imports.specs.private.Imports.{AreImported, merged_bindings}
use Rattle.wac_encode_imports.specs.private.Told.{entries_items}
use Rattle.wac_encode_imports.specs.private.ToldGraph.{IsTold}
use Rattle.wac_graph_model.specs.declared.causes.errors.EncodeError.{EncodeError}
use Rattle.wac_graph_model.specs.declared.causes.errors.EncodeError.TheVariants as error
use Rattle.wac_graph_model.specs.declared.nodes.options.EncodeOptions.{EncodeOptions}
use Rattle.wac_graph_model.specs.declared.nodes.packages.PackageId.{PackageId}
use Rattle.wac_graph_model.specs.meaning.Means.{dependency_name, same_package}
use Rattle.wac_graph_model.specs.nodes.Graph.{Graph, GraphNode, node_at, package_at, package_of, imports_of, definition, instantiation, alias}
use Rattle.wac_graph_model.specs.private.causes.Faults.{encode_error}
use Rattle.wac_graph_model.specs.private.meaning.Beginning.{Places}
use Rattle.wac_graph_model.specs.private.meaning.Writing.{IsArgumentItem, of_node, of_import, AreArgumentItems, WritesNode, writes_instantiation, writes_alias, writes_definition}
use Rattle.wac_graph_model.specs.private.meaning.Encoding.{index_in}
use Rattle.wac_graph_model.specs.nodes.OuterImports.{outer_entries}
use Rattle.wac_graph_model.specs.weight.GraphWeight.{kind_weight, bound}
use Rattle.wac_graph_model.specs.private.weight.Costs.{component_cost, node_cost, package_cost}
use Rattle.wac_graph_model.specs.private.weight.Written.{first_cost, item_cost, components_cost, slots_cost, ComponentsArePart, ComponentIsPaid}
use Rattle.wac_graph_model.proofs.lemmas.weight.AskedPaid.{item_less, nothing_near}
use Rattle.wac_graph_reader.specs.declared.reading.encoder.Encoder.{Encoder}
use Rattle.wac_graph_reader.specs.private.reading.Appended.{AppendsItems}
use Rattle.wac_graph_reader.specs.private.writing.Sizes.{items_size, AddsWithin, FaultUnless}
use Rattle.wac_graph_reader.proofs.lemmas.writing.ItemSizes.{added_size, no_room, nested_size, instantiate_size}
use Rattle.wac_graph_encode.specs.private.encoding.Costs.{CostsWithin, CostsWithPackages, world_part, AreShortArguments}
use Rattle.wac_graph_encode.specs.private.encoding.Root.{IsOpenRoot, WritesOne}
use Rattle.wac_graph_encode.specs.declared.places.places.ImportPlaces.{ImportPlaces}
use Rattle.wac_graph_encode.specs.private.places.Places.{ArePlaced}
use Rattle.wac_graph_encode.proofs.lemmas.encoding.NeededLemmas.{RootsSoFar}
use Rattle.wac_graph_encode.proofs.lemmas.encoding.TellLemmas.{tell-merged}

-- ---- the root and its items
pub open-alone : (g : Graph) (m : Bindings) (s : State) → IsOpenRoot g m s → s.around.items ≡ []
open-alone g m s open_root = single-around g.types false s m open_root.good

-- what aliases of recorded exports cost, at this price besides their names
aliases : Collection → Scope → ℕ → ℕ
aliases c h k = sum_below (λ n. alias_cost k (binds_in (book_of false h) (record { 0 = n }))) (length c.resources) + sum_below (λ n. alias_cost k (exports_in (book_of false h) (record { 0 = n }))) (length c.defined)

charge-is : (c : Collection) (h : Scope) → IsRoot h.content → charge c false (opened false h) ≡ items_size (items_of h.content) + aliases c h 0
unfolding aliases
charge-is c h is = by h.content is
  where
    by : (x : Encodable) → IsRoot x → charge c false (opened false (record h { content = x })) ≡ items_size (items_of x) + (sum_below (λ n. alias_cost 0 (binds_in (book_of false h) (record { 0 = n }))) (length c.resources) + sum_below (λ n. alias_cost 0 (exports_in (book_of false h) (record { 0 = n }))) (length c.defined))
    by (Builder items) is = refl
    by (Instance ds) is = absurd is
    by (Component ds) is = absurd is

around-of : Collection → State → ℕ
around-of c s = sum_by (charge c false) (outward false s.around.items)

root-total : (c : Collection) (s : State) → IsRoot s.here.content → total c false s ≡ items_size (items_of s.here.content) + aliases c s.here 0 + around-of c s
unfolding around-of
root-total c s is = let whole = total-is c false s in let here = charge-is c s.here is in omega (arith, whole, here)

pub size-total : (c : Collection) (s : State) → IsRoot s.here.content → items_size (items_of s.here.content) ≤ total c false s
size-total c s is = let whole = root-total c s is in omega (arith, whole)

pub items-total : (c : Collection) (s : State) (items : List Item) → IsRoot s.here.content → total c false (with_items s items) + items_size (items_of s.here.content) ≡ total c false s + items_size items
unfolding aliases around-of
items-total c s items is = let old = root-total c s is in let new = root-total c (with_items s items) tt in omega (arith, old, new)

-- items are appended within n bytes
pub items-within : {T : Type 0} (c : Collection) (n : ℕ) (s : State) (items : List Item) (r : Result T EncodeError) → IsRoot s.here.content → AddsWithin n (items_of s.here.content) items r → CostsWithin c n s (with_items s items) r
items-within c n s items (Ok x) is adds = let same = items-total c s items is in omega (arith, same, adds)
items-within c n s items (Err e) is adds = λ large. let size = size-total c s is in let more = adds large in omega (arith, size, more)

-- one item is appended
pub item-within : (c : Collection) (n : ℕ) (s : State) (items : List Item) (x : Item) → IsRoot s.here.content → items ≡ items_of s.here.content ++ x ∷ [] → item_size x ≤ n → total c false (with_items s items) ≤ total c false s + n
item-within c n s items x is added small = let same = items-total c s items is in let more = added_size (items_of s.here.content) items x n added small in omega (arith, same, more)

pub item-refused : SmallFits → (c : Collection) (n : ℕ) (s : State) (built : List Item) (x : Item) → IsRoot s.here.content → built ≡ items_of s.here.content → item_size x ≤ n → (Fits (built ++ x ∷ []) → ⊥) → 2 ^ 32 ≤ total c false s + n
item-refused fits c n s built x is was small none =
    let many = no_room fits (items_of s.here.content) x n small (subst (λ xs. Fits (xs ++ x ∷ []) → ⊥) was none) in
    let size = size-total c s is in
    omega (arith, many, size)

-- ---- what types pay
root-rate : (s : State) → IsRoot s.here.content → rate false (opened false s.here).content ≡ 54
root-rate s is = by s.here.content is
  where
    by : (x : Encodable) → IsRoot x → rate false (content_of x) ≡ 54
    by (Builder items) is = refl
    by (Instance ds) is = absurd is
    by (Component ds) is = absurd is

pub paid-total : (c : Collection) (ts : List AnyType) (n : ℕ) (s t : State) → IsRoot s.here.content → IsPaid c false ts n s t → total c false t ≤ total c false s + (54 * own_texts c ts + n)
paid-total c ts n s t is paid =
    let most = adds-at-most c false ts n s t paid in
    let rated = ap (λ k. k * own_texts c ts) (root-rate s is) in
    omega (arith, most, rated)

pub room-total : (c : Collection) (ts : List AnyType) (n : ℕ) (s : State) → IsRoot s.here.content → s.around.items ≡ [] → HasNoRoom c false ts n s → 2 ^ 32 ≤ total c false s + (54 * own_texts c ts + n)
room-total c ts n s is none (too_large large) = let rated = ap (λ k. k * own_texts c ts) (root-rate s is) in omega (arith, large, rated)
room-total c ts n s is none (too_deep deep) = let no = ap length none in omega (arith, deep, no)

-- what a call below answers, as an error of encoding
pub exit-costs : {U : Type 0} (c : Collection) (ts : List AnyType) (n k : ℕ) (s t u : State) (f : BinaryFault) (r : Result U EncodeError) → IsErrAnd r (λ y. y ≡ encode_error f) → IsRoot s.here.content → s.around.items ≡ [] → 54 * own_texts c ts + n ≤ k
    → IsFaultPaid c false ts n s f → CostsWithin c k s u r
exit-costs c ts n k s t u f (Ok x) h is none less paid = absurd h
exit-costs c ts n k s t u fault.OutOfMemory (Err e) h is none less paid = λ large. absurd (apart (sym h ∙ large))
  where
    apart : error.OutOfMemory ≡ error.TooLarge → ⊥
    apart h = cc
exit-costs c ts n k s t u fault.TooLarge (Err e) h is none less paid = λ large. let more = room-total c ts n s is none paid in omega (arith, more, less)

pub memory-costs : {U : Type 0} (c : Collection) (k : ℕ) (s u : State) (r : Result U EncodeError) → IsErrAnd r (λ y. y ≡ error.OutOfMemory) → CostsWithin c k s u r
memory-costs c k s u (Ok x) h = absurd h
memory-costs c k s u (Err e) h = λ large. absurd (apart (sym h ∙ large))
  where
    apart : error.OutOfMemory ≡ error.TooLarge → ⊥
    apart h = cc

pub exit-large : {U : Type 0} (c : Collection) (k : ℕ) (s u : State) (f : BinaryFault) (r : Result U EncodeError) → IsErrAnd r (λ y. y ≡ encode_error f) → (f ≡ fault.TooLarge → 2 ^ 32 ≤ total c false s + k) → CostsWithin c k s u r
exit-large c k s u f (Ok x) h large = absurd h
exit-large c k s u fault.OutOfMemory (Err e) h large = λ is. absurd (apart (sym h ∙ is))
  where
    apart : error.OutOfMemory ≡ error.TooLarge → ⊥
    apart h = cc
exit-large c k s u fault.TooLarge (Err e) h large = λ is. large refl

-- ---- definitions
pub definition-covers : (c : Collection) → IsWellFormed c → (t : AnyType) → Covers c (near_all c (t ∷ [])) t
definition-covers c wf t = near-is-closed c (t ∷ []) wf t (inl refl)

definition-weighs-scope : (c : Collection) → IsWellFormed c → (t : AnyType) → is_scope t ≡ true → own_texts c (near_all c (t ∷ [])) ≤ 0
definition-weighs-scope c wf t is = nothing_near c wf (t ∷ []) (λ u h. scope u h)
  where
    scope : (u : AnyType) → IsIn u (t ∷ []) → is_scope u ≡ true
    scope u (inl e) = ap is_scope e ∙ is
    scope u (inr n) = absurd n

pub definition-weighs : (c : Collection) → IsWellFormed c → (t : AnyType) (items : List Item) → holds_type c t ≡ true → 54 * own_texts c (near_all c (t ∷ [])) + definition_cost c (root items) t ≤ 12 + 64 * weight c t
definition-weighs c wf (ty.Interface i) items held = let none = definition-weighs-scope c wf (ty.Interface i) refl in omega (arith, none)
definition-weighs c wf (ty.World w) items held = let none = definition-weighs-scope c wf (ty.World w) refl in omega (arith, none)
definition-weighs c wf (ty.Value v) items held = let less = item_less c wf (ty.Value v) held in omega (arith, less)
definition-weighs c wf (ty.Func f) items held = let less = item_less c wf (ty.Func f) held in omega (arith, less)
definition-weighs c wf (ty.Resource r) items held = let less = item_less c wf (ty.Resource r) held in omega (arith, less)
definition-weighs c wf (ty.Module m) items held = let less = item_less c wf (ty.Module m) held in omega (arith, less)

-- the root's content as a content of the scopes
pub root-content : (s : State) → IsRoot s.here.content → content_of s.here.content ≡ root (items_of s.here.content)
root-content s is = by s.here.content is
  where
    by : (x : Encodable) → IsRoot x → content_of x ≡ root (items_of x)
    by (Builder items) is = refl
    by (Instance ds) is = absurd is
    by (Component ds) is = absurd is

-- what a definition node costs
pub definition-item : (g : Graph) (o : EncodeOptions) (n : NodeId) (t : AnyType) (name : Name) → IsSomeAnd (node_at g n) (λ node. node.kind ≡ definition) → IfSome (node_at g n) (λ node. (node.item_kind ≡ TypeItem t) × (node.first_name ≡ Some name))
    → item_cost g o n ≡ (12 + 64 * weight g.types t) + (21 + 2 * length name)
definition-item g o n t name kind typed = by (node_at g n) kind typed
  where
    by : (x : Option GraphNode) → IsSomeAnd x (λ node. node.kind ≡ definition) → IfSome x (λ node. (node.item_kind ≡ TypeItem t) × (node.first_name ≡ Some name))
        → option_case x 0 (λ node. node_cost g o n.0 node node.kind + first_cost node) ≡ (12 + 64 * weight g.types t) + (21 + 2 * length name)
    by None is there = absurd is
    by (Some node) is there =
        let cost : node_cost g o n.0 node node.kind ≡ 12 + 64 * item_weight g.types node.item_kind = ap (node_cost g o n.0 node) is in
        let weighs : item_weight g.types node.item_kind ≡ weight g.types t = ap (item_weight g.types) there.0 in
        let first : first_cost node ≡ 21 + 2 * length name = ap (λ x. option_case x 0 (λ (z : Name). 21 + 2 * length z)) there.1 in
        omega (arith, cost, weighs, first)

-- ---- packages
dependency-long : (p : PackageParts) → length (dependency_name (p.name, p.version)) ≤ 20 + (length p.name + option_case p.version 0 (λ v. length (parts_text v)))
dependency-long p = by p.version
  where
    by : (v : _) → length (dependency_name (p.name, v)) ≤ 20 + (length p.name + option_case v 0 (λ x. length (parts_text x)))
    by None = omega (arith, length-append (codes "unlocked-dep=<" ++ p.name) (codes ">"), length-append (codes "unlocked-dep=<") p.name)
    by (Some v) =
        omega (arith, length-append (codes "unlocked-dep=<" ++ p.name ++ codes "@{>=" ++ parts_text v) (codes "}>"), length-append (codes "unlocked-dep=<" ++ p.name ++ codes "@{>=") (parts_text v), length-append (codes "unlocked-dep=<" ++ p.name) (codes "@{>="), length-append (codes "unlocked-dep=<") p.name)

pub world-covered : (c : Collection) (w : WorldId) → Covers c [] (ty.World w)
world-covered c w = record { closed = λ t u h. absurd h; there = λ is. let no : true ≡ false = is in cc }

pub import-cost : (g : Graph) (o : EncodeOptions) (p : PackageParts) (name : Name) → o.define_components ≡ false → name ≡ dependency_name (p.name, p.version) → 54 * own_texts g.types [] + (20 + 2 * length name + world_cost g.types p.world) ≤ package_cost o.define_components p + world_part g o p
import-cost g o p name not_defined is =
    let long = dependency-long p in
    let same = ap length is in
    let cost : package_cost o.define_components p ≡ 60 + 2 * (length p.name + option_case p.version 0 (λ v. length (parts_text v))) = ap (λ b. package_cost b p) not_defined in
    let part : world_part g o p ≡ component_cost g.types p.world = ap (λ b. if b then 0 else component_cost g.types p.world) not_defined in
    omega (arith, long, same, cost, part)

pub nested-cost : (g : Graph) (o : EncodeOptions) (p : PackageParts) → o.define_components ≡ true → item_size (nested p.bytes) ≤ package_cost o.define_components p + world_part g o p
nested-cost g o p defines = let size = nested_size p.bytes in let cost : package_cost o.define_components p ≡ 11 + length p.bytes = ap (λ b. package_cost b p) defines in omega (arith, size, cost)

-- a package whose component is written
pub component-written : ComponentIsPaid → (g : Graph) (o : EncodeOptions) (old new : Encoder) (id : PackageId) (c : ℕ) (p : PackageParts) → package_at g id ≡ Some p → list_any (λ e. same_package id e.0) old.components ≡ false → new.components ≡ old.components ++ (id, c) ∷ []
    → total g.types false new.state ≤ total g.types false old.state + (package_cost o.define_components p + world_part g o p) → total g.types false new.state + components_cost g o old.components ≤ total g.types false old.state + world_part g o p + components_cost g o new.components
component-written law g o old new id c p there absent pushed costs =
    let paid = law g o old.components id c p there absent in
    let same = ap (components_cost g o) pushed in
    omega (arith, paid, same, costs)

pub component-refused : ComponentIsPaid → ComponentsArePart → {U : Type 0} (g : Graph) (o : EncodeOptions) (old new : Encoder) (mid : State) (id : PackageId) (p : PackageParts) (e : EncodeError) (r : Result U EncodeError) → IsErrAnd r (λ y. y ≡ e) → package_at g id ≡ Some p → list_any (λ e. same_package id e.0) old.components ≡ false
    → (e ≡ error.TooLarge → 2 ^ 32 ≤ total g.types false old.state + (package_cost o.define_components p + world_part g o p)) → CostsWithPackages g o (world_part g o p) old new r
component-refused law part g o old new mid id p e (Ok x) h there absent costs = absurd h
component-refused law part g o old new mid id p e (Err y) h there absent costs = λ large.
    let paid = law g o old.components id 0 p there absent in
    let less = part g o (old.components ++ (id, 0) ∷ []) in
    let more = costs (sym h ∙ large) in
    omega (arith, paid, less, more)

pub packages-memory : {U : Type 0} (g : Graph) (o : EncodeOptions) (n : ℕ) (old new : Encoder) (r : Result U EncodeError) → IsErrAnd r (λ y. y ≡ error.OutOfMemory) → CostsWithPackages g o n old new r
packages-memory g o n old new (Ok x) h = absurd h
packages-memory g o n old new (Err e) h = λ large. absurd (apart (sym h ∙ large))
  where
    apart : error.OutOfMemory ≡ error.TooLarge → ⊥
    apart h = cc

-- an answer that is handed on
pub packages-exit : {U : Type 0} (g : Graph) (o : EncodeOptions) (n k : ℕ) (old mid new : Encoder) (e : EncodeError) (r : Result U EncodeError) → IsErrAnd r (λ y. y ≡ e) → n ≤ k → (e ≡ error.TooLarge → 2 ^ 32 + components_cost g o old.components ≤ total g.types false old.state + n + slots_cost g o) → CostsWithPackages g o k old new r
packages-exit g o n k old mid new e (Ok x) h less costs = absurd h
packages-exit g o n k old mid new e (Err y) h less costs = λ large. let more = costs (sym h ∙ large) in omega (arith, more, less)

-- a call that writes no package
pub packages-none : {T : Type 0} (g : Graph) (o : EncodeOptions) (n : ℕ) (old new : Encoder) (r : Result T EncodeError) → ComponentsArePart → OnOk r (new.components ≡ old.components) → CostsWithin g.types n old.state new.state r → CostsWithPackages g o n old new r
packages-none g o n old new (Ok x) part same costs = let kept = ap (components_cost g o) same in omega (arith, kept, costs)
packages-none g o n old new (Err e) part same costs = λ large. let more = costs large in let less = part g o old.components in omega (arith, more, less)

-- ---- instantiations
pub arguments-sum : (g : Graph) (places : Places) (index : NodeId → ℕ) (n : NodeId) (i : ℕ) (es : List (Name × ItemKind)) (given : List (Name × Sort × ℕ)) → AreArgumentItems g places index n i es given → sum_by (λ a. 9 + 2 * length a.0) given ≡ sum_by (λ e. 9 + 2 * length e.0) es
arguments-sum g places index n i [] [] are = refl
arguments-sum g places index n i (e ∷ es) (a ∷ given) are =
    let rest = arguments-sum g places index n (suc i) es given are.1 in
    let name = ap length (name-of are.0) in
    omega (arith, rest, name, sum_by-cons (λ (x : Name × Sort × ℕ). 9 + 2 * length x.0) a given, sum_by-cons (λ (x : Name × ItemKind). 9 + 2 * length x.0) e es)
  where
    name-of : IsArgumentItem g places index n i e a → a.0 ≡ e.0
    name-of (of_node source node named given there sorted placed) = named
    name-of (of_import named none sorted placed) = named
arguments-sum g places index n i [] (a ∷ given) are = absurd are
arguments-sum g places index n i (e ∷ es) [] are = absurd are

pub instantiation-item : (g : Graph) (o : EncodeOptions) (n : NodeId) (node : GraphNode) (id : PackageId) (p : PackageParts) → node_at g n ≡ Some node → node.kind ≡ instantiation → node.owner ≡ Some id → package_at g id ≡ Some p
    → world_part g o p + (18 + sum_by (λ e. 9 + 2 * length e.0) (imports_of g node)) ≤ item_cost g o n
instantiation-item g o n node id p there kind owned registered =
    let whole : item_cost g o n ≡ node_cost g o n.0 node node.kind + first_cost node = ap (λ x. option_case x 0 (λ z. node_cost g o n.0 z z.kind + first_cost z)) there in
    let cost : node_cost g o n.0 node node.kind ≡ 18 + sum_by (λ e. 9 + 2 * length e.0) (imports_of g node) + (if o.define_components then 0 else option_case (package_of g node) 0 (λ q. component_cost g.types q.world)) = ap (node_cost g o n.0 node) kind in
    let parts : package_of g node ≡ Some p = ap (option_and_then (package_at g)) owned ∙ registered in
    let part : (if o.define_components then 0 else option_case (package_of g node) 0 (λ q. component_cost g.types q.world)) ≡ world_part g o p = ap (λ x. if o.define_components then 0 else option_case x 0 (λ (q : PackageParts). component_cost g.types q.world)) parts in
    omega (arith, whole, cost, part)

pub alias-item : (g : Graph) (o : EncodeOptions) (n : NodeId) (node : GraphNode) (k : ℕ) → node_at g n ≡ Some node → node.kind ≡ alias → k ≡ node_cost g o n.0 node alias → k ≤ item_cost g o n
alias-item g o n node k there kind is =
    let whole : item_cost g o n ≡ node_cost g o n.0 node node.kind + first_cost node = ap (λ x. option_case x 0 (λ z. node_cost g o n.0 z z.kind + first_cost z)) there in
    let cost = ap (node_cost g o n.0 node) kind in
    omega (arith, whole, cost, is)

-- ---- answers that are handed on
pub memory-exit : {T : Type 0} (P : Type 0) (r : Result T EncodeError) → IsErrAnd r (λ y. y ≡ error.OutOfMemory) → IfErr r (λ e. e ≡ error.TooLarge → P)
memory-exit P (Ok x) h = tt
memory-exit P (Err e) h = λ large. absurd (apart (sym h ∙ large))
  where
    apart : error.OutOfMemory ≡ error.TooLarge → ⊥
    apart h = cc

pub memory-fault-exit : {T : Type 0} (P : Type 0) (f : BinaryFault) (r : Result T EncodeError) → IsErrAnd r (λ y. y ≡ encode_error f) → f ≡ fault.OutOfMemory → IfErr r (λ e. e ≡ error.TooLarge → P)
memory-fault-exit P f r h memory = memory-exit P r (subst (λ g. IsErrAnd r (λ y. y ≡ encode_error g)) memory h)

pub heavy-exit : {T : Type 0} {P : Type 0} (f : BinaryFault) (r : Result T EncodeError) → IsErrAnd r (λ y. y ≡ encode_error f) → (IsLarge f → P) → IfErr r (λ e. e ≡ error.TooLarge → P)
heavy-exit f (Ok x) h heavy = tt
heavy-exit fault.TooLarge (Err e) h heavy = λ large. heavy tt
heavy-exit fault.OutOfMemory (Err e) h heavy = λ large. absurd (apart (sym h ∙ large))
  where
    apart : error.OutOfMemory ≡ error.TooLarge → ⊥
    apart h = cc

pub heavy-roots : (g : Graph) (define : Bool) (order : List NodeId) (i : ℕ) (found : List AnyType) → RootsSoFar g define order i found → IsHeavy g.types found → (o : EncodeOptions) → 2 ^ 32 ≤ bound g o
heavy-roots g define order i found so heavy o =
    let (t, among, large) = heavy in
    let light = so.light o t among in
    omega (arith, large, light)

pub loop-exit : {U : Type 0} (g : Graph) (o : EncodeOptions) (n before all : ℕ) (first mid new : Encoder) (e : EncodeError) (r : Result U EncodeError) → IsErrAnd r (λ y. y ≡ e) → before + n ≤ all
    → total g.types false mid.state + components_cost g o first.components ≤ total g.types false first.state + before + components_cost g o mid.components
    → (e ≡ error.TooLarge → 2 ^ 32 + components_cost g o mid.components ≤ total g.types false mid.state + n + slots_cost g o) → CostsWithPackages g o all first new r
loop-exit g o n before all first mid new e (Ok x) h less so costs = absurd h
loop-exit g o n before all first mid new e (Err y) h less so costs = λ large. let more = costs (sym h ∙ large) in omega (arith, less, so, more)

-- ---- nodes
pub packages-same : {T : Type 0} (g : Graph) (o : EncodeOptions) (n : ℕ) (old mid new : Encoder) → new ≡ mid → (x : T) → (let ok : Result T EncodeError = Ok x in CostsWithPackages g o n old mid ok) → total g.types false new.state + components_cost g o old.components ≤ total g.types false old.state + n + components_cost g o new.components
packages-same g o n old mid new is x costs = subst (λ (e : Encoder). total g.types false e.state + components_cost g o old.components ≤ total g.types false old.state + n + components_cost g o e.components) (sym is) costs

at-node : (P : GraphNode → Type 0) (x : Option GraphNode) (node : GraphNode) → x ≡ Some node → IfSome x P → P node
at-node P x node is all = subst (λ o. IfSome o P) is all

is-node : (g : Graph) (n : NodeId) (P : GraphNode → Type 0) → IsSomeAnd (node_at g n) P → (node : GraphNode) × (node_at g n ≡ Some node) × P node
is-node g n P is = by (node_at g n) refl is
  where
    by : (x : Option GraphNode) → node_at g n ≡ x → IsSomeAnd x P → (node : GraphNode) × (node_at g n ≡ Some node) × P node
    by None at h = absurd h
    by (Some node) at h = (node, at, h)

-- an alias writes no package
alias-components : (g : Graph) (o : EncodeOptions) (m : Bindings) (places : Places) (n : NodeId) (node : GraphNode) (index : NodeId → ℕ) (a b : List (PackageId × ℕ)) (items items' : List Item) (i : ℕ) → node.kind ≡ alias → WritesNode g o m places n node index a b items items' i → b ≡ a
alias-components g o m places n node index a b items items' i kind (writes_alias instance source k name is aliased there exported same added counted) = same
alias-components g o m places n node index a b items items' i kind (writes_instantiation id c mid arguments is owned has given added counted) = let wrong : alias ≡ instantiation = sym kind ∙ is in cc
alias-components g o m places n node index a b items items' i kind (writes_definition t name k mid is typed first same writes added counted) = let wrong : alias ≡ definition = sym kind ∙ is in cc

definition-components : (g : Graph) (o : EncodeOptions) (m : Bindings) (places : Places) (n : NodeId) (node : GraphNode) (index : NodeId → ℕ) (a b : List (PackageId × ℕ)) (items items' : List Item) (i : ℕ) → node.kind ≡ definition → WritesNode g o m places n node index a b items items' i → b ≡ a
definition-components g o m places n node index a b items items' i kind (writes_definition t name k mid is typed first same writes added counted) = same
definition-components g o m places n node index a b items items' i kind (writes_instantiation id c mid arguments is owned has given added counted) = let wrong : definition ≡ instantiation = sym kind ∙ is in cc
definition-components g o m places n node index a b items items' i kind (writes_alias instance source k name is aliased there exported same added counted) = let wrong : definition ≡ alias = sym kind ∙ is in cc

alias-cost : (g : Graph) (o : EncodeOptions) (n : NodeId) (node : GraphNode) → node_at g n ≡ Some node → node.kind ≡ alias → 20 + 2 * kind_weight g n.0 node alias ≤ item_cost g o n
alias-cost g o n node there kind = alias-item g o n node (20 + 2 * kind_weight g n.0 node alias) there kind refl

-- the root after an alias is written
pub alias-packages : (g : Graph) (o : EncodeOptions) (n : NodeId) (old new : Encoder) → ComponentsArePart → IsRoot old.state.here.content → IsSomeAnd (node_at g n) (λ node. node.kind ≡ alias)
    → (i : ℕ) → ((x : EncodeOptions) (m : Bindings) (places : Places) → IfSome (node_at g n) (λ node. WritesNode g x m places n node (index_in old.indexes.items) old.components new.components (items_of old.state.here.content) (items_of new.state.here.content) i))
    → AppendsItems old.state new.state → IfSome (node_at g n) (λ node. items_size (items_of new.state.here.content) ≤ items_size (items_of old.state.here.content) + (20 + 2 * kind_weight g n.0 node alias))
    → total g.types false new.state + components_cost g o old.components ≤ total g.types false old.state + item_cost g o n + components_cost g o new.components
alias-packages g o n old new part is kinds i written appended cost =
    let (node, there, kind) = is-node g n (λ x. x.kind ≡ alias) kinds in
    let less = alias-cost g o n node there kind in
    let adds = at-node _ (node_at g n) node there cost in
    let writes = at-node _ (node_at g n) node there (written o (λ r. None) []) in
    let same = alias-components g o (λ r. None) [] n node (index_in old.indexes.items) old.components new.components (items_of old.state.here.content) (items_of new.state.here.content) i kind writes in
    let kept = ap (components_cost g o) same in
    let grown = items-total g.types old.state (items_of old.state.here.content ++ appended.0) is in
    let now = ap (total g.types false) appended.1 in
    let items = ap (λ (s : State). items_size (items_of s.here.content)) appended.1 in
    omega (arith, less, adds, kept, grown, now, items)

pub alias-refused : {U : Type 0} (g : Graph) (o : EncodeOptions) (n : NodeId) (old new : Encoder) (e : EncodeError) (r : Result U EncodeError) → IsErrAnd r (λ y. y ≡ e) → ComponentsArePart → IsRoot old.state.here.content → IsSomeAnd (node_at g n) (λ node. node.kind ≡ alias)
    → IfSome (node_at g n) (λ node. e ≡ error.TooLarge → 2 ^ 32 ≤ items_size (items_of old.state.here.content) + (20 + 2 * kind_weight g n.0 node alias)) → CostsWithPackages g o (item_cost g o n) old new r
alias-refused g o n old new e (Ok x) h part is kinds cost = absurd h
alias-refused g o n old new e (Err y) h part is kinds cost = λ large.
    let (node, there, kind) = is-node g n (λ x. x.kind ≡ alias) kinds in
    let less = alias-cost g o n node there kind in
    let adds = at-node _ (node_at g n) node there cost in
    let more = adds (sym h ∙ large) in
    let size = size-total g.types old.state is in
    let all = part g o old.components in
    omega (arith, less, more, size, all)

pub definition-packages : (g : Graph) (o : EncodeOptions) (define : Bool) (places : Places) (n : NodeId) (old new : Encoder) → ComponentsArePart → (m : Bindings) → IsOpenRoot g m old.state → o.define_components ≡ define → IsSomeAnd (node_at g n) (λ node. node.kind ≡ definition)
    → (i : ℕ) → WritesOne g define places n old new i → total g.types false new.state ≤ total g.types false old.state + item_cost g o n
    → total g.types false new.state + components_cost g o old.components ≤ total g.types false old.state + item_cost g o n + components_cost g o new.components
definition-packages g o define places n old new part m open_root same_options kinds i written costs =
    let (node, there, kind) = is-node g n (λ x. x.kind ≡ definition) kinds in
    let writes = at-node _ (node_at g n) node there (written o same_options m open_root) in
    let same = definition-components g o m places n node (index_in old.indexes.items) old.components new.components (items_of old.state.here.content) (items_of new.state.here.content) i kind writes in
    let kept = ap (components_cost g o) same in
    omega (arith, costs, kept)

pub definition-refused : {U : Type 0} (g : Graph) (o : EncodeOptions) (n : NodeId) (old new : Encoder) (e : EncodeError) (r : Result U EncodeError) → IsErrAnd r (λ y. y ≡ e) → ComponentsArePart
    → (e ≡ error.TooLarge → 2 ^ 32 ≤ total g.types false old.state + item_cost g o n) → CostsWithPackages g o (item_cost g o n) old new r
definition-refused g o n old new e (Ok x) h part costs = absurd h
definition-refused g o n old new e (Err y) h part costs = λ large. let more = costs (sym h ∙ large) in let all = part g o old.components in omega (arith, more, all)

-- ---- what the imports are for the graph's own types
pub told-total : (g : Graph) (p : ImportPlaces) → ArePlaced g p → (c : Collection) → c ≡ g.types → (old new : State) → AreImported (p.merge).merge p.places.items old
    → ((merged : IsMerge by_names c (p.merge).entries (p.merge).merge) → IsTold c (p.merge).entries merged.order old new) → pending c false (opened false new.here) ≤ 4 * entries_items c (p.merge).entries
    → (d : Collection) (b : Bool) → total g.types false new ≤ total d b old + 4 * entries_items g.types (outer_entries g)
told-total g p placed c is old new imported told cost = λ d b.
    let merged = tell-merged g p placed c is in
    let records = (told merged).records in
    let around = ap (λ ss. sum_by (charge g.types false) (outward false ss)) (ap (λ v. v.items) records.around) in
    let none = ap (λ ss. sum_by (charge g.types false) (outward false ss)) (single-around (p.merge).merge.types true old (merged_bindings (p.merge).merge) imported.good) in
    let whole = total-is g.types false new in
    let before = total-is d b old in
    let size = ap (λ (x : Encodable). size_of (content_of x)) records.content in
    let items = ap (λ x. pending x false (opened false new.here)) is in
    let entries = ap (λ x. entries_items x (p.merge).entries) is ∙ ap (entries_items g.types) placed.merged.entries in
    omega (arith, around, none, whole, before, size, items, entries, cost)

-- ---- arguments
pub short-push : (given : List (Bor (List ℕ) × Sort × ℕ)) (n : Bor (List ℕ)) (t : Sort) (i : ℕ) → AreShortArguments (arguments_of given) → i < 2 ^ 32 → AreShortArguments (arguments_of (given ++ (n, t, i) ∷ []))
short-push [] n t i all small = (small, tt)
short-push (a ∷ given) n t i all small = (all.0, short-push given n t i all.1 small)

-- ---- refusals of the builder
pub nested-refused : SmallFits → {U : Type 0} (c : Collection) (n : ℕ) (s u : State) (built : List Item) (x : Item) (f : BinaryFault) (r : Result U EncodeError) → IsErrAnd r (λ y. y ≡ encode_error f) → IsRoot s.here.content → built ≡ items_of s.here.content → item_size x ≤ n
    → FaultUnless f (Fits (built ++ x ∷ [])) → CostsWithin c n s u r
nested-refused fits c n s u built x fault.TooLarge r h is was small none = exit-large c n s u fault.TooLarge r h (λ large. item-refused fits c n s built x is was small none)
nested-refused fits c n s u built x fault.OutOfMemory r h is was small none = memory-costs c n s u r h

pub export-refused : SmallFits → {U : Type 0} (c : Collection) (k : ℕ) (s mid u : State) (built : List Item) (x : Item) (n : ℕ) (f : BinaryFault) (r : Result U EncodeError) → IsErrAnd r (λ y. y ≡ encode_error f) → IsRoot mid.here.content → built ≡ items_of mid.here.content → item_size x ≤ n
    → total c false mid + n ≤ total c false s + k → FaultUnless f (Fits (built ++ x ∷ [])) → CostsWithin c k s u r
export-refused fits c k s mid u built x n fault.TooLarge r h is was small less none = exit-large c k s u fault.TooLarge r h (λ large. let many = item-refused fits c n mid built x is was small none in omega (arith, many, less))
export-refused fits c k s mid u built x n fault.OutOfMemory r h is was small less none = memory-costs c k s u r h

pub name-refused : {U : Type 0} (c : Collection) (k : ℕ) (s out u : State) (f : BinaryFault) (r : Result U EncodeError) → IsErrAnd r (λ y. y ≡ encode_error f) → out.around.items ≡ [] → total c false out ≤ total c false s + k
    → IsFaultPaid c false [] 0 out f → CostsWithin c k s u r
name-refused c k s out u fault.OutOfMemory r h alone less paid = memory-costs c k s u r h
name-refused c k s out u fault.TooLarge r h alone less paid = exit-large c k s u fault.TooLarge r h (λ large. room paid)
  where
    nothing-near : (x p : ℕ) → 2 ^ 32 + p ≤ total c false out + x * 0 + 0 → total c false out ≤ total c false s + k → 2 ^ 32 ≤ total c false s + k
    nothing-near x p many less = let zero_times = mul-zero x in omega (arith, many, less, zero_times)

    room : HasNoRoom c false [] 0 out → 2 ^ 32 ≤ total c false s + k
    room (too_large many) = nothing-near (rate false (opened false out.here).content) (all_paid c false (opened false out.here) []) many less
    room (too_deep deep) = let none = ap length alone in omega (arith, deep, none)

-- ---- an instantiation
pub instantiation-part : (g : Graph) (o : EncodeOptions) (n : NodeId) (id : PackageId) (p : PackageParts) → IsSomeAnd (node_at g n) (λ node. node.kind ≡ instantiation) → IfSome (node_at g n) (λ node. node.owner ≡ Some id) → package_at g id ≡ Some p → world_part g o p ≤ item_cost g o n
instantiation-part g o n id p kinds owned registered =
    let (node, there, kind) = is-node g n (λ x. x.kind ≡ instantiation) kinds in
    let whole = instantiation-item g o n node id p there kind (at-node _ (node_at g n) node there owned) registered in
    omega (arith, whole)

module _ (g : Graph) (o : EncodeOptions) (places : Places) (indexes : List ℕ) (n : NodeId) (old mid : Encoder) (id : PackageId) (p : PackageParts) (component : ℕ) (arguments : List (Bor (List ℕ) × Sort × ℕ)) (kinds : IsSomeAnd (node_at g n) (λ node. node.kind ≡ instantiation))
    (owned : IfSome (node_at g n) (λ node. node.owner ≡ Some id)) (registered : package_at g id ≡ Some p) (bottom : IsRoot mid.state.here.content) (short : component < 2 ^ 32)
    (all : AreShortArguments (arguments_of arguments)) (costs : total g.types false mid.state + components_cost g o old.components ≤ total g.types false old.state + world_part g o p + components_cost g o mid.components) where
  -- the arguments and the component type are paid by the node
  args-cost : (known : List ℕ) → IfSome (node_at g n) (λ node. AreArgumentItems g places (index_in known) n 0 (imports_of g node) (arguments_of arguments)) → world_part g o p + item_size (instantiate component (arguments_of arguments)) ≤ item_cost g o n
  args-cost known items =
      let (node, there, kind) = is-node g n (λ x. x.kind ≡ instantiation) kinds in
      let whole = instantiation-item g o n node id p there kind (at-node _ (node_at g n) node there owned) registered in
      let size = instantiate_size component (arguments_of arguments) short all in
      let sum = arguments-sum g places (index_in known) n 0 (imports_of g node) (arguments_of arguments) (at-node _ (node_at g n) node there items) in
      omega (arith, whole, size, sum)

pub instantiation-cost : (g : Graph) (o : EncodeOptions) (places : Places) (indexes : List ℕ) (n : NodeId) (old mid : Encoder) (new : State) (id : PackageId) (p : PackageParts) (component : ℕ) (arguments : List (Bor (List ℕ) × Sort × ℕ)) → IsSomeAnd (node_at g n) (λ node. node.kind ≡ instantiation)
    → IfSome (node_at g n) (λ node. node.owner ≡ Some id) → package_at g id ≡ Some p → IsRoot mid.state.here.content → component < 2 ^ 32 → {known : List ℕ} → IfSome (node_at g n) (λ node. AreArgumentItems g places (index_in known) n 0 (imports_of g node) (arguments_of arguments))
    → AreShortArguments (arguments_of arguments) → known ≡ indexes → total g.types false mid.state + components_cost g o old.components ≤ total g.types false old.state + world_part g o p + components_cost g o mid.components
    → (items : List Item) → new ≡ with_items mid.state items → {given : List (Bor (List ℕ) × Sort × ℕ)} → items ≡ items_of mid.state.here.content ++ instantiate component (arguments_of given) ∷ [] → (view : List (Bor (List ℕ) × Sort × ℕ)) → given ≡ arguments
    → total g.types false new + components_cost g o old.components ≤ total g.types false old.state + item_cost g o n + components_cost g o mid.components
instantiation-cost g o places indexes n old mid new id p component arguments kinds owned registered bottom short {known} items all same costs appended is {given} added view viewed =
    let cost = args-cost g o places indexes n old mid id p component arguments kinds owned registered bottom short all costs known items in
    let x = instantiate component (arguments_of arguments) in
    let grown = item-within g.types (item_size x) mid.state appended x bottom (subst (λ v. appended ≡ items_of mid.state.here.content ++ instantiate component (arguments_of v) ∷ []) viewed added) (omega arith) in
    let now = ap (total g.types false) is in
    omega (arith, cost, grown, now, costs)

pub instantiation-refused : SmallFits → ComponentsArePart → {U : Type 0} (g : Graph) (o : EncodeOptions) (places : Places) (indexes : List ℕ) (n : NodeId) (old mid : Encoder) (id : PackageId) (p : PackageParts) (component : ℕ) (arguments : List (Bor (List ℕ) × Sort × ℕ)) → IsSomeAnd (node_at g n) (λ node. node.kind ≡ instantiation)
    → IfSome (node_at g n) (λ node. node.owner ≡ Some id) → package_at g id ≡ Some p → IsRoot mid.state.here.content → component < 2 ^ 32 → {known : List ℕ} → IfSome (node_at g n) (λ node. AreArgumentItems g places (index_in known) n 0 (imports_of g node) (arguments_of arguments))
    → AreShortArguments (arguments_of arguments) → known ≡ indexes → total g.types false mid.state + components_cost g o old.components ≤ total g.types false old.state + world_part g o p + components_cost g o mid.components
    → (f : BinaryFault) (r : Result U EncodeError) → IsErrAnd r (λ y. y ≡ encode_error f) → (built : List Item) → built ≡ items_of mid.state.here.content → (view : List (Bor (List ℕ) × Sort × ℕ)) → view ≡ arguments
    → FaultUnless f (Fits (built ++ instantiate component (arguments_of view) ∷ [])) → (new : Encoder) → CostsWithPackages g o (item_cost g o n) old new r
instantiation-refused fits part g o places indexes n old mid id p component arguments kinds owned registered bottom short {known} items all same costs f (Ok x) h built was view viewed none new = absurd h
instantiation-refused fits part g o places indexes n old mid id p component arguments kinds owned registered bottom short {known} items all same costs fault.OutOfMemory (Err e) h built was view viewed none new = λ large. absurd (apart (sym h ∙ large))
  where
    apart : error.OutOfMemory ≡ error.TooLarge → ⊥
    apart h = cc
instantiation-refused fits part g o places indexes n old mid id p component arguments kinds owned registered bottom short {known} items all same costs fault.TooLarge (Err e) h built was view viewed none new = λ large.
    let x = instantiate component (arguments_of arguments) in
    let cost = args-cost g o places indexes n old mid id p component arguments kinds owned registered bottom short all costs known items in
    let many = item-refused fits g.types (item_size x) mid.state built x bottom was (omega arith) (subst (λ v. Fits (built ++ instantiate component (arguments_of v) ∷ []) → ⊥) viewed none) in
    let less = part g o mid.components in
    omega (arith, cost, many, less, costs)
