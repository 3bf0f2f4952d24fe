-- What plugging one package into another leaves in the graph.
use Rattle.std.proofs.Common.{map as list_map, ◌≡◌, ℕ, Bool, cond, true, false, List, [], ◌∷◌, ◌++◌, zero, suc, slice_get, refl, ap, ◌∙◌, sym, subst, Option, Some, None, Result, Ok, Err, IfSome, IsSome, is_some, IsErr, ◌⊎◌, inl, inr}
use Rattle.std.specs.Prelude.{IsSomeAnd, MatchOption}
use Rattle.std.specs.FinMap as map
use Rattle.std.specs.FinSet as set
use Rattle.std.specs.Option.{option_map}
use Rattle.std.proofs.lemmas.Bool.{false≢true}
use Rattle.std.proofs.lemmas.Option.{slice_get-map}
use Rattle.wac_types_shapes.specs.primitives.Name.{Name, find_name, same_name, option_case}
use Rattle.wac_types_shapes.specs.shapes.Named.{names_of}
use Rattle.wac_types_shapes.proofs.lemmas.shapes.Names.{same_name-refl}
use Rattle.wac_types_shapes.specs.declared.shapes.component.ItemKind.{ItemKind}
use Rattle.wac_types_shapes.specs.declared.shapes.component.World.{World}
use Rattle.wac_types_collection.specs.collection.Collection.{Collection, item_at, world_imports, world_exports}
use Rattle.wac_types_collection.specs.collection.Package.{PackageParts}
use Rattle.wac_binary.specs.Bytes.{preamble}
use Rattle.wac_edges.specs.declared.edges.Edge.{Edge}
use Rattle.wac_edges.specs.Edge.{alias_edge, argument_edge}
use Rattle.wac_graph_model.specs.declared.nodes.errors.ExportError.{ExportError}
use Rattle.wac_graph_model.specs.declared.nodes.errors.InstantiationArgumentError.{InstantiationArgumentError}
use Rattle.wac_edges.specs.declared.node.NodeId.{NodeId}
use Rattle.wac_graph_model.specs.declared.nodes.packages.PackageId.{PackageId}
use Rattle.wac_graph_model.specs.nodes.Graph as graph
use Rattle.wac_graph_model.specs.nodes.Graph.{Graph, GraphNode, node_at, package_at, export_at, IsAliasOf}
use Rattle.wac_graph_model.specs.nodes.Sound.{IsSound}
use Rattle.wac_graph_model.specs.nodes.Stays.{Stays, IsAliasBy, IsArgumentBy}
use Rattle.wac_graph_model.specs.nodes.Steps.{AddsNode, Instantiates, instance_node, Aliases, AliasesOf, GivesAlias, export_named, import_named, SetsArgument, Exports}
use Rattle.wac_graph_model.proofs.lemmas.nodes.Added.{by_eq, insert_same, insert_other}
use Rattle.wac_graph_model.proofs.lemmas.nodes.StaysLemmas.{stays-trans, node-stays, alias-stays, argument-stays}
use Rattle.wac_graph.specs.plugs.Matching.{Match, PlugMatches, IsFirstOnTrack, IsMatch, HasNoMatch, AreMatches, AreMatchesOf, AreAllMatches, imports_of_package, exports_of_package}
use Rattle.wac_graph.specs.plugs.Precedence.{PlugMatch, is_taken, with_any, wired, each_of, passed_over, named_by}
use Rattle.wac_graph.specs.declared.plugs.precedence.PassedOver.{PassedOver}
use Rattle.wac_graph.specs.plugs.Plugging.{Answer, answered, InOrder, Wires, PassesOn, PlugsIn, Plugs, Ends, PlugsAll}
use Rattle.wac_graph.specs.plugs.Refusals.{of_alias, of_argument, of_export}
use Rattle.wac_graph.specs.declared.plugs.errors.PlugError.{PlugError}
use Rattle.wac_graph.specs.declared.plugs.errors.PlugError.TheVariants.{NoPlugHappened, OutOfMemory}
use Rattle.wac_demo.specs.Composed.{IsEmptyPackage, IsPluggedInto}
use Rattle.wac_demo.specs.private.Lines.{package_name, match_line, lines_of}
use Rattle.wac_demo.proofs.Following.{alias-later, some-of, there-is, parts-of}

abbrev done : Answer
done = Ok tt

-- what was made was not refused
not-refused : (e : PlugError) → done ≡ Err e → ⊥
not-refused e h = cc

some-same : (o : Option GraphNode) (x y : GraphNode) → o ≡ Some x → o ≡ Some y → x ≡ y
some-same o x y e f = cc

-- what a package of this name lists
listed-of : (g : Graph) (id : PackageId) (name : Name) (imports exports : List (Name × ItemKind)) → IsEmptyPackage g id name imports exports → (imports_of_package g id ≡ imports) × (exports_of_package g id ≡ exports)
listed-of g id name imports exports h = at (package_at g id) refl h where
  at : (o : Option PackageParts) → package_at g id ≡ o → IsSomeAnd o (λ p. (p.name ≡ name) × (p.version ≡ None) × (p.bytes ≡ preamble) × (world_imports g.types p.world ≡ imports) × (world_exports g.types p.world ≡ exports))
      → (imports_of_package g id ≡ imports) × (exports_of_package g id ≡ exports)
  at None is h = absurd h
  at (Some p) is h = (
    ap (λ o. option_case o [] (λ (p : PackageParts). world_imports g.types p.world)) is ∙ h.3,
    ap (λ o. option_case o [] (λ (p : PackageParts). world_exports g.types p.world)) is ∙ h.4,
  )

-- a world that exports something is there, and stays
exports-stay : (o q : Option World) → ((x : World) → o ≡ Some x → q ≡ Some x) → (e : Name × ItemKind) (es : List (Name × ItemKind)) → option_case o [] (λ x. x.exports) ≡ e ∷ es → option_case q [] (λ x. x.exports) ≡ e ∷ es
exports-stay None q f e es h = cc
exports-stay (Some x) q f e es h = rw (f x refl) h

exports-later : (old new : Graph) (id : PackageId) (name : Name) (imports : List (Name × ItemKind)) (e : Name × ItemKind) (es : List (Name × ItemKind)) → Stays old new → IsEmptyPackage old id name imports (e ∷ es)
    → exports_of_package new id ≡ e ∷ es
exports-later old new id name imports e es kept h = at (package_at old id) refl h where
  at : (o : Option PackageParts) → package_at old id ≡ o → IsSomeAnd o (λ p. (p.name ≡ name) × (p.version ≡ None) × (p.bytes ≡ preamble) × (world_imports old.types p.world ≡ imports) × (world_exports old.types p.world ≡ e ∷ es))
      → exports_of_package new id ≡ e ∷ es
  at None is h = absurd h
  at (Some p) is h =
      ap (λ o. option_case o [] (λ (p : PackageParts). world_exports new.types p.world)) (kept.packages id p is)
      ∙ exports-stay (item_at old.types.worlds (p.world).0) (item_at new.types.worlds (p.world).0) (kept.worlds (p.world).0) e es h.4

-- the one item of a list
only-one : {A : Type 0} (xs : List A) (x : A) (i : ℕ) (y : A) → xs ≡ x ∷ [] → slice_get xs i ≡ Some y → y ≡ x
only-one xs x i y is at = place i (ap (λ l. slice_get l i) (sym is) ∙ at) where
  place : (i : ℕ) → slice_get (x ∷ []) i ≡ Some y → y ≡ x
  place zero h = cc
  place (suc i) h = cc

-- the import under one name that an export goes to
target-of : (o : Option ItemKind) (a : Name) (f : ItemKind) (t : Name × ItemKind) → MatchOption o (IsFirstOnTrack ((a, f) ∷ []) a t) (λ kind. t ≡ (a, kind)) → t.0 ≡ a
target-of (Some k) a f t h = ap (λ (t : Name × ItemKind). t.0) h
target-of None a f t (inl h) = ap (λ (t : Name × ItemKind). t.0) h.1
target-of None a f t (inr h) = absurd h.1

-- the matches of one export with one import of its name
abbrev IsOneMatch : Collection → Name → ItemKind → List Match → Type 0
IsOneMatch types a f ms = (m : Match) × (ms ≡ m ∷ []) × IsMatch types ((a, f) ∷ []) (a, f) m × (m.export ≡ a) × (m.import ≡ a)

one-match : (types : Collection) (a : Name) (f : ItemKind) (ms : List Match) → AreMatches types ((a, f) ∷ []) ((a, f) ∷ []) ms
    → (HasNoMatch types ((a, f) ∷ []) (a, f) × (ms ≡ [])) ⊎ IsOneMatch types a f ms
one-match types a f ms (inl h) = inl (h.0, h.1)
one-match types a f ms (inr h) = inr (
  h.0,
  h.2 ∙ ap (λ rest. h.0 ∷ rest) h.4,
  h.3,
  h.3.0,
  target-of (find_name ((a, f) ∷ []) a) a f ((h.0).import, h.3.1.0) h.3.1.1,
)

-- a step that was made for the one item of a list
one-step : {A : Type 0} (Step : Graph → A → Answer → Graph → Type 0) (old new : Graph) (x : A) → InOrder Step old (x ∷ []) (Ok tt) new → Step old x (Ok tt) new
one-step Step old new x (inl h) = absurd (false≢true h.0)
one-step Step old new x (inr h) = subst (λ g. Step old x (Ok tt) g) (sym h.2.1) h.1

-- a match that was wired
abbrev IsWired : NodeId → NodeId → Graph → Match → Graph → Type 0
IsWired plug socket old m new = (alias : NodeId) × (mid : Graph) × Aliases old plug m.export (Ok alias) mid × SetsArgument mid socket m.import alias (Ok tt) new

wired_by : (plug socket : NodeId) (old new : Graph) (m : Match) → Wires plug socket old m (Ok tt) new → IsWired plug socket old m new
wired_by plug socket old new m (inl h) = absurd (not-refused (of_alias h.0) h.2)
wired_by plug socket old new m (inr h) = (h.0, h.1, h.2, by h.3.0 h.3.1 h.3.2) where
  by : (r : Result (Unit {0}) InstantiationArgumentError) → SetsArgument h.1 socket m.import h.0 r new → Ok tt ≡ answered of_argument r → SetsArgument h.1 socket m.import h.0 (Ok tt) new
  by (Ok made) set is = set
  by (Err e) set is = absurd (not-refused (of_argument e) is)

-- an export that was passed on
abbrev IsPassedOn : NodeId → Graph → Name → Graph → Type 0
IsPassedOn socket old name new = (alias : NodeId) × (mid : Graph) × Aliases old socket name (Ok alias) mid × Exports mid alias name (Ok tt) new × IsSome (node_at mid alias)

passed : (socket : NodeId) (old new : Graph) (name : Name) → PassesOn socket old name (Ok tt) new → IsPassedOn socket old name new
passed socket old new name (inl h) = absurd (not-refused (of_alias h.0) h.2)
passed socket old new name (inr h) = (h.0, h.1, h.2, by h.3.0 h.3.1 h.3.2, h.3.3) where
  by : (r : Result (Unit {0}) ExportError) → Exports h.1 h.0 name r new → Ok tt ≡ answered of_export r → Exports h.1 h.0 name (Ok tt) new
  by (Ok made) set is = set
  by (Err e) set is = absurd (not-refused (of_export e) is)

-- all that was made
record Made (old new : Graph) (plug socket : PackageId) (a run : Name) : Type 0 where
  node : NodeId
  made : Graph
  instance : Instantiates old socket (Ok node) made
  plugged : NodeId
  there : Graph
  plug_instance : Instantiates made plug (Ok plugged) there
  found : Match
  export_is : found.export ≡ a
  import_is : found.import ≡ a
  mid : Graph
  wiring : IsWired plugged node there found mid
  passing : IsPassedOn node mid run new

module _ (old new : Graph) (plug socket : PackageId) (q : PackageParts) (a run : Name) (f : ItemKind) (is : package_at old socket ≡ Some q)
    (imports : imports_of_package old socket ≡ (a, f) ∷ []) (exports : exports_of_package old plug ≡ (a, f) ∷ []) (passes : exports_of_package old socket ≡ (run, f) ∷ []) where
  abbrev HasOneOrNone : List Match → Type 0
  HasOneOrNone ms = (HasNoMatch old.types ((a, f) ∷ []) (a, f) × (ms ≡ [])) ⊎ IsOneMatch old.types a f ms

  matches-of : (id : PackageId) → exports_of_package old id ≡ (a, f) ∷ [] → (ms : List Match) → AreMatchesOf old socket id ms → HasOneOrNone ms
  matches-of id listed ms h = one-match old.types a f ms (subst (λ es. AreMatches old.types ((a, f) ∷ []) es ms) listed (subst (λ is. AreMatches old.types is (exports_of_package old id) ms) imports h))

  -- something is plugged in
  nothing : Plugs old socket [] (Ok tt) new → ⊥
  nothing (inl w) = not-refused OutOfMemory w.0
  nothing (inr w) = by w.3 where
    by : (IsErr done × InOrder (PlugsIn w.0) w.1 [] (Ok tt) new) ⊎ ((mid : Graph) × InOrder (PlugsIn w.0) w.1 [] (Ok tt) mid × Ends w.0 (names_of (exports_of_package old socket)) mid [] (Ok tt) new) → ⊥
    by (inl v) = false≢true v.0
    by (inr v) = not-refused NoPlugHappened v.2.0

  abbrev of_plug : Match → PlugMatches
  of_plug m = record { plug = plug; matches = m ∷ [] }

  -- the plug is plugged in with its match
  something : (m : Match) → m.export ≡ a → m.import ≡ a → Plugs old socket (of_plug m ∷ []) (Ok tt) new → Made old new plug socket a run
  something m export_is import_is (inl w) = absurd (not-refused OutOfMemory w.0)
  something m export_is import_is (inr w) = by w.3 where
    in_it : (mid : Graph) → IsPassedOn w.0 mid run new → PlugsIn w.0 w.1 (of_plug m) (Ok tt) mid → Made old new plug socket a run
    in_it mid passing (inl u) = absurd (not-refused OutOfMemory u.0)
    in_it mid passing (inr u) = record {
      node = w.0;
      made = w.1;
      instance = w.2;
      plugged = u.0;
      there = u.1;
      plug_instance = u.2;
      found = m;
      export_is = export_is;
      import_is = import_is;
      mid = mid;
      wiring = wired_by u.0 w.0 u.1 mid m (one-step (Wires u.0 w.0) u.1 mid m u.3);
      passing = passing;
    }

    by : (IsErr done × InOrder (PlugsIn w.0) w.1 (of_plug m ∷ []) (Ok tt) new)
        ⊎ ((mid : Graph) × InOrder (PlugsIn w.0) w.1 (of_plug m ∷ []) (Ok tt) mid × Ends w.0 (names_of (exports_of_package old socket)) mid (of_plug m ∷ []) (Ok tt) new)
        → Made old new plug socket a run
    by (inl v) = absurd (false≢true v.0)
    by (inr v) = in_it v.0 (passed w.0 v.0 new run (one-step (PassesOn w.0) v.0 new run (subst (λ es. InOrder (PassesOn w.0) v.0 (names_of es) (Ok tt) new) passes v.2))) (one-step (PlugsIn w.0) w.1 v.0 (of_plug m) v.1)

  made-all : PlugsAll old (plug ∷ []) socket (Ok tt) new → Made old new plug socket a run
  made-all (inl h) = absurd (not-refused OutOfMemory h.0)
  made-all (inr h) = own_is (matches-of plug exports h.1.0 h.1.3) where
    all_is : (ms : List Match) → h.1.0 ≡ ms → h.0 ≡ record { plug = plug; matches = ms } ∷ []
    all_is ms is = h.1.2 ∙ (λ i. record { plug = plug; matches = is i } ∷ h.1.4 i)

    step : (ms : List Match) → h.1.0 ≡ ms → Plugs old socket (wired [] (record { plug = plug; matches = ms } ∷ [])) (Ok tt) new
    step ms is = subst (λ all. Plugs old socket (wired [] all) (Ok tt) new) (all_is ms is) h.2

    own_is : HasOneOrNone h.1.0 → Made old new plug socket a run
    own_is (inl none) = absurd (nothing (step [] none.1))
    own_is (inr one) = something one.0 one.3 one.4 (step (one.0 ∷ []) one.1)

  -- the plug is the first of two that export the same
  module _ (second : PackageId) (listed : exports_of_package old second ≡ (a, f) ∷ []) where
    abbrev of_both : List Match → List Match → List PlugMatches
    of_both ms ns = record { plug = plug; matches = ms } ∷ record { plug = second; matches = ns } ∷ []

    module _ (m n : Match) (import_is : m.import ≡ a) (same_is : n.import ≡ a) where
      taken : is_taken (m.import ∷ []) n.import ≡ true
      taken = ap (λ b. cond b true false) (ap (λ x. same_name x n.import) import_is ∙ ap (same_name a) same_is ∙ same_name-refl a)

      first-wins : wired [] (of_both (m ∷ []) (n ∷ [])) ≡ of_plug m ∷ []
      first-wins = ap (λ b. with_any plug (m ∷ []) (with_any second (cond b [] (n ∷ [])) [])) taken

      second-loses : passed_over [] (of_both (m ∷ []) (n ∷ [])) ≡ record { plug = second; match = n } ∷ []
      second-loses = ap (λ b. each_of second (cond b (n ∷ []) []) ++ []) taken

    -- what both match, and what that makes
    record Both (all : List PlugMatches) : Type 0 where
      of_first : Match
      of_second : Match
      all_are : all ≡ of_both (of_first ∷ []) (of_second ∷ [])
      export_is : of_first.export ≡ a
      import_is : of_first.import ≡ a
      same_export : of_second.export ≡ a
      same_import : of_second.import ≡ a

    both-match : (all : List PlugMatches) → AreAllMatches old socket (plug ∷ second ∷ []) all → Plugs old socket (wired [] all) (Ok tt) new → Both all
    both-match all are step = by are.0 are.1 are.2 are.3 are.4 where
      by : (ms : List Match) (rest : List PlugMatches) → all ≡ record { plug = plug; matches = ms } ∷ rest → AreMatchesOf old socket plug ms → AreAllMatches old socket (second ∷ []) rest → Both all
      by ms rest is own more = in_both (matches-of plug exports ms own) (matches-of second listed more.0 more.3) where
        all_is : (xs ys : List Match) → ms ≡ xs → more.0 ≡ ys → all ≡ of_both xs ys
        all_is xs ys same same_2 =
            let behind : rest ≡ record { plug = second; matches = ys } ∷ [] = more.2 ∙ (λ i. record { plug = second; matches = same_2 i } ∷ more.4 i) in
            is ∙ (λ i. record { plug = plug; matches = same i } ∷ behind i)

        in_both : HasOneOrNone ms → HasOneOrNone more.0 → Both all
        in_both (inl none) (inl none_2) = absurd (nothing (subst (λ l. Plugs old socket (wired [] l) (Ok tt) new) (all_is [] [] none.1 none_2.1) step))
        in_both (inl none) (inr one_2) = absurd (none.0 one_2.0 one_2.2)
        in_both (inr one) (inl none_2) = absurd (none_2.0 one.0 one.2)
        in_both (inr one) (inr one_2) = record {
          of_first = one.0;
          of_second = one_2.0;
          all_are = all_is (one.0 ∷ []) (one_2.0 ∷ []) one.1 one_2.1;
          export_is = one.3;
          import_is = one.4;
          same_export = one_2.3;
          same_import = one_2.4;
        }

    made-first : PlugsAll old (plug ∷ second ∷ []) socket (Ok tt) new → Made old new plug socket a run
    made-first (inl h) = absurd (not-refused OutOfMemory h.0)
    made-first (inr h) =
        let both = both-match h.0 h.1 h.2 in
        something both.of_first both.export_is both.import_is
        (subst (λ ps. Plugs old socket ps (Ok tt) new) (ap (wired []) both.all_are ∙ first-wins both.of_first both.of_second both.import_is both.same_import) h.2)

    passed-second : (over : List PlugMatch) → ((all : List PlugMatches) → AreAllMatches old socket (plug ∷ second ∷ []) all → over ≡ passed_over [] all) → PlugsAll old (plug ∷ second ∷ []) socket (Ok tt) new
        → over ≡ record { plug = second; match = record { export = a; import = a } } ∷ []
    passed-second over are (inl h) = absurd (not-refused OutOfMemory h.0)
    passed-second over are (inr h) =
        let both = both-match h.0 h.1 h.2 in
        are h.0 h.1 ∙ ap (passed_over []) both.all_are ∙ second-loses both.of_first both.of_second both.import_is both.same_import
        ∙ (λ i. record { plug = second; match = record { export = both.same_export i; import = both.same_import i } } ∷ [])

-- an alias of a new instance is there
alias-there : (old mid new : Graph) (instance : NodeId) (n : GraphNode) (name : Name) (alias : NodeId) → ((e : Edge) → set.contains old.edges e ≡ true → IsSome (node_at old e.source))
    → AddsNode old instance n mid → node_at mid instance ≡ Some n → Aliases mid instance name (Ok alias) new → IsSome (node_at new alias)
alias-there old mid new instance n name alias ends added there step = at (export_named mid n name) (subst (λ o. IfSome o (λ n. AliasesOf mid instance n name (Ok alias) new)) there step).1 where
  at : (o : Option (ℕ × ItemKind)) → IsSomeAnd o (λ e. GivesAlias mid instance n e.0 e.1 alias new) → IsSome (node_at new alias)
  at None h = absurd h
  at (Some e) (inl h) =
      let before : IsAliasOf old instance e.0 alias = ap (λ (g : Graph). set.contains g.edges (alias_edge instance alias e.0)) (sym added.2) ∙ h.0 in
      let was : IsSome (node_at old instance) = ends (alias_edge instance alias e.0) before in
      absurd (false≢true (sym (ap is_some added.1) ∙ was))
  at (Some e) (inr h) = ap (λ (g : Graph). is_some (node_at g alias)) h.3 ∙ ap is_some (insert_same mid.nodes alias.0 _)

-- an alias leaves what instantiations import
alias-imports : (old new : Graph) (instance : NodeId) (source : GraphNode) (name : Name) (alias : NodeId) (n : GraphNode) (import : Name) → node_at old instance ≡ Some source → Aliases old instance name (Ok alias) new
    → import_named new n import ≡ import_named old n import
alias-imports old new instance source name alias n import there step = at (export_named old source name) (subst (λ o. IfSome o (λ n. AliasesOf old instance n name (Ok alias) new)) there step).1 where
  at : (o : Option (ℕ × ItemKind)) → IsSomeAnd o (λ e. GivesAlias old instance source e.0 e.1 alias new) → import_named new n import ≡ import_named old n import
  at None h = absurd h
  at (Some e) (inl h) = ap (λ (g : Graph). import_named g n import) h.1
  at (Some e) (inr h) = ap (λ (g : Graph). import_named g n import) h.3

-- what stands last under a name that was free
find-last : (es : List (Name × NodeId)) (name : Name) (n : NodeId) → find_name es name ≡ None → find_name (es ++ (name, n) ∷ []) name ≡ Some n
find-last [] name n h = ap (λ b. cond b (Some n) None) (same_name-refl name)
find-last (e ∷ es) name n h = by (same_name name e.0) (find-last es name n) h where
  by : (b : Bool) → (find_name es name ≡ None → find_name (es ++ (name, n) ∷ []) name ≡ Some n) → cond b (Some e.1) (find_name es name) ≡ None → cond b (Some e.1) (find_name (es ++ (name, n) ∷ []) name) ≡ Some n
  by true later h = cc
  by false later h = later h

-- an export of an alias leaves all but the alias as it was
module _ (old new : Graph) (alias : NodeId) (name : Name) (x : GraphNode) (there : node_at old alias ≡ Some x) (step : Exports old alias name (Ok tt) new) where
  exported-is : new ≡ record old { nodes = map.insert old.nodes alias.0 (record x { export_name = Some name }); exports = old.exports ++ (name, alias) ∷ [] }
  exported-is = subst (λ o. IfSome o (λ n. new ≡ record old { nodes = map.insert old.nodes alias.0 (record n { export_name = Some name }); exports = old.exports ++ (name, alias) ∷ [] })) there step.2

  now-exported : export_at new name ≡ Some alias
  now-exported = ap (λ (g : Graph). find_name g.exports name) exported-is ∙ find-last old.exports name alias step.0

  module _ (sound : IsSound new) (instance : NodeId) (position : ℕ) (aliased : IsAliasOf old instance position alias) where
    is-alias : x.kind ≡ graph.alias
    is-alias =
        let edge : IsAliasOf new instance position alias = ap (λ (g : Graph). set.contains g.edges (alias_edge instance alias position)) exported-is ∙ aliased in
        let source = some-of (node_at new instance) (sound.ends (alias_edge instance alias position) edge).0 in
        let target : node_at new alias ≡ Some (record x { export_name = Some name }) = ap (λ (g : Graph). node_at g alias) exported-is ∙ insert_same old.nodes alias.0 (record x { export_name = Some name }) in
        (sound.joins (alias_edge instance alias position) source.0 (record x { export_name = Some name }) edge source.1 target).0

    still-there : (n : NodeId) (y : GraphNode) → y.kind ≡ graph.instantiation → node_at old n ≡ Some y → node_at new n ≡ Some y
    still-there n y kind was = ap (λ (g : Graph). node_at g n) exported-is ∙ by_eq n.0 alias.0
        (λ same. absurd (differ (ap (λ (k : GraphNode). k.kind) (some-same (node_at old n) y x was (ap (map.get old.nodes) same ∙ there)))))
        (λ other. insert_other old.nodes alias.0 n.0 (record x { export_name = Some name }) other ∙ was)
      where
        differ : y.kind ≡ x.kind → ⊥
        differ h = let wrong : graph.instantiation ≡ graph.alias = sym kind ∙ h ∙ is-alias in cc

    alias-after : (giver given : NodeId) (node : GraphNode) (export : Name) → node.kind ≡ graph.instantiation → node_at old giver ≡ Some node → IsAliasBy old giver export given → IsAliasBy new giver export given
    alias-after giver given node export kind is h =
        let same : h.0 ≡ node = some-same (node_at old giver) h.0 node h.2 is in (
          node,
          h.1,
          still-there giver node kind is,
          ap (λ (g : Graph). export_named g node export) exported-is ∙ subst (λ n. export_named old n export ≡ Some h.1) same h.3,
          ap (λ (g : Graph). set.contains g.edges (alias_edge giver given h.1.0)) exported-is ∙ h.4,
        )

-- what was made gives the plug's export to the socket, and exports the socket's
module _ (old new : Graph) (plug socket : PackageId) (a run : Name) (p q : PackageParts) (sound : IsSound old) (sound_new : IsSound new) (is_plug : package_at old plug ≡ Some p) (is_socket : package_at old socket ≡ Some q)
    (m : Made old new plug socket a run) where
  abbrev plug_node : GraphNode
  plug_node = instance_node plug p

  abbrev socket_node : GraphNode
  socket_node = instance_node socket q

  first : AddsNode old m.node socket_node m.made
  first = subst (λ o. IfSome o (λ q. AddsNode old m.node (instance_node socket q) m.made)) is_socket m.instance

  first_stays : (node_at m.made m.node ≡ Some socket_node) × Stays old m.made
  first_stays = node-stays old m.made m.node socket_node first

  second : AddsNode m.made m.plugged plug_node m.there
  second = subst (λ o. IfSome o (λ p. AddsNode m.made m.plugged (instance_node plug p) m.there)) (first_stays.1.packages plug p is_plug) m.plug_instance

  second_stays : (node_at m.there m.plugged ≡ Some plug_node) × Stays m.made m.there
  second_stays = node-stays m.made m.there m.plugged plug_node second

  ends : (e : Edge) → set.contains (m.made).edges e ≡ true → IsSome (node_at m.made e.source)
  ends e h =
      let was = some-of (node_at old e.source) (sound.ends e (ap (λ (g : Graph). set.contains g.edges e) (sym first.2) ∙ h)).0 in
      there-is (node_at m.made e.source) was.0 (first_stays.1.nodes e.source was.0 was.1)

  abbrev given : NodeId
  given = m.wiring.0

  abbrev aliased : Graph
  aliased = m.wiring.1

  alias_step : Aliases m.there m.plugged a (Ok given) aliased
  alias_step = subst (λ n. Aliases m.there m.plugged n (Ok given) aliased) m.export_is m.wiring.2

  argument_step : SetsArgument aliased m.node a given (Ok tt) m.mid
  argument_step = subst (λ n. SetsArgument aliased m.node n given (Ok tt) m.mid) m.import_is m.wiring.3

  given_there : (x : GraphNode) × (node_at aliased given ≡ Some x)
  given_there = some-of (node_at aliased given) (alias-there m.made m.there aliased m.plugged plug_node a given ends second second_stays.0 alias_step)

  alias_is : IsAliasBy aliased m.plugged a given × Stays m.there aliased
  alias_is = alias-stays m.there aliased m.plugged plug_node a given second_stays.0 alias_step

  plug_aliased : node_at aliased m.plugged ≡ Some plug_node
  plug_aliased = alias_is.1.nodes m.plugged plug_node second_stays.0

  socket_aliased : node_at aliased m.node ≡ Some socket_node
  socket_aliased = alias_is.1.nodes m.node socket_node (second_stays.1.nodes m.node socket_node first_stays.0)

  argument_is : IsArgumentBy m.mid m.node a given × Stays aliased m.mid
  argument_is = argument-stays aliased m.mid m.node socket_node a given given_there.0 socket_aliased given_there.1 argument_step

  socket_mid : node_at m.mid m.node ≡ Some socket_node
  socket_mid = argument_is.1.nodes m.node socket_node socket_aliased

  abbrev passed_on : NodeId
  passed_on = m.passing.0

  abbrev end : Graph
  end = m.passing.1

  passed_is : IsAliasBy end m.node run passed_on × Stays m.mid end
  passed_is = alias-stays m.mid end m.node socket_node run passed_on socket_mid m.passing.2

  passed_there : (x : GraphNode) × (node_at end passed_on ≡ Some x)
  passed_there = some-of (node_at end passed_on) m.passing.4

  from_aliased : Stays aliased end
  from_aliased = stays-trans aliased m.mid end argument_is.1 passed_is.1

  from_old : Stays old end
  from_old = stays-trans old m.made end first_stays.1 (stays-trans m.made m.there end second_stays.1 (stays-trans m.there aliased end alias_is.1 from_aliased))

  plug_end : node_at end m.plugged ≡ Some plug_node
  plug_end = from_aliased.nodes m.plugged plug_node plug_aliased

  socket_end : node_at end m.node ≡ Some socket_node
  socket_end = from_aliased.nodes m.node socket_node socket_aliased

  changed : new ≡ record end { nodes = map.insert end.nodes passed_on.0 (record (passed_there.0) { export_name = Some run }); exports = end.exports ++ (run, passed_on) ∷ [] }
  changed = exported-is end new passed_on run passed_there.0 passed_there.1 m.passing.3

  still : (n : NodeId) (y : GraphNode) → y.kind ≡ graph.instantiation → node_at end n ≡ Some y → node_at new n ≡ Some y
  still = still-there end new passed_on run passed_there.0 passed_there.1 m.passing.3 sound_new m.node passed_is.0.1.0 passed_is.0.4

  after : (giver given : NodeId) (node : GraphNode) (export : Name) → node.kind ≡ graph.instantiation → node_at end giver ≡ Some node → IsAliasBy end giver export given → IsAliasBy new giver export given
  after = alias-after end new passed_on run passed_there.0 passed_there.1 m.passing.3 sound_new m.node passed_is.0.1.0 passed_is.0.4

  argument_new : IsArgumentBy new m.node a given
  argument_new =
      let h = argument_is.0 in
      let same : h.0 ≡ socket_node = some-same (node_at m.mid m.node) h.0 socket_node h.2 socket_mid in (
        socket_node,
        h.1,
        still m.node socket_node refl socket_end,
        ap (λ (g : Graph). import_named g socket_node a) changed ∙ alias-imports m.mid end m.node socket_node run passed_on socket_node a socket_mid m.passing.2 ∙ subst (λ n. import_named m.mid n a ≡ Some h.1) same h.3,
        ap (λ (g : Graph). set.contains g.edges (argument_edge given m.node h.1.0)) changed ∙ passed_is.1.edges (argument_edge given m.node h.1.0) h.4,
      )

  package_new : (id : PackageId) (x : PackageParts) → package_at old id ≡ Some x → package_at new id ≡ Some x
  package_new id x was = ap (λ (g : Graph). package_at g id) changed ∙ from_old.packages id x was

  plugged-into : (one two : Name) → p.name ≡ one → q.name ≡ two → IsPluggedInto new one a two run
  plugged-into one two is_one is_two = (
    m.plugged,
    given,
    m.node,
    passed_on,
    (plug, p, still m.plugged plug_node refl plug_end, package_new plug p is_plug, is_one),
    after m.plugged given plug_node a refl plug_end (alias-later aliased end m.plugged plug p a given from_aliased plug_aliased alias_is.0),
    (socket, q, still m.node socket_node refl socket_end, package_new socket q is_socket, is_two),
    argument_new,
    after m.node passed_on socket_node run refl socket_end passed_is.0,
    now-exported end new passed_on run passed_there.0 passed_there.1 m.passing.3,
  )

-- the call of a composition that plugs one package into another, each of one function
module _ (g2 g3 : Graph) (plug socket : PackageId) (plugs : List PackageId) (one a two run : Name) (f : ItemKind)
    (registered_plug : IsEmptyPackage g2 plug one [] ((a, f) ∷ [])) (between : Stays g2 g3) (registered_socket : IsEmptyPackage g3 socket two ((a, f) ∷ []) ((run, f) ∷ [])) (plugs_are : plugs ≡ plug ∷ []) where
  plug_parts : (p : PackageParts) × (package_at g2 plug ≡ Some p) × (p.name ≡ one)
  plug_parts = parts-of g2 plug one [] ((a, f) ∷ []) registered_plug

  socket_parts : (q : PackageParts) × (package_at g3 socket ≡ Some q) × (q.name ≡ two)
  socket_parts = parts-of g3 socket two ((a, f) ∷ []) ((run, f) ∷ []) registered_socket

  pub socket-there : IsSome (package_at g3 socket)
  socket-there = there-is (package_at g3 socket) socket_parts.0 socket_parts.1

  plug_there : package_at g3 plug ≡ Some plug_parts.0
  plug_there = between.packages plug plug_parts.0 plug_parts.1

  pub plugs-there : (i : ℕ) (id : PackageId) → slice_get plugs i ≡ Some id → IsSome (package_at g3 id)
  plugs-there i id at = subst (λ k. IsSome (package_at g3 k)) (sym (only-one plugs plug i id plugs_are at)) (there-is (package_at g3 plug) plug_parts.0 plug_there)

  pub plugs-it : (g4 : Graph) → IsSound g3 → IsSound g4 → PlugsAll g3 plugs socket (Ok tt) g4 → IsPluggedInto g4 one a two run
  plugs-it g4 sound sound_new step =
      let listed = listed-of g3 socket two ((a, f) ∷ []) ((run, f) ∷ []) registered_socket in
      plugged-into g3 g4 plug socket a run plug_parts.0 socket_parts.0 sound sound_new plug_there socket_parts.1
      (made-all g3 g4 plug socket socket_parts.0 a run f socket_parts.1 listed.0 (exports-later g2 g3 plug one [] (a, f) [] between registered_plug) listed.1 (subst (λ l. PlugsAll g3 l socket (Ok tt) g4) plugs_are step))
      one two plug_parts.2 socket_parts.2

-- the call of a composition that plugs the first of two packages into another, each of one function
module _ (g2 g3 g4 : Graph) (plug second socket : PackageId) (plugs : List PackageId) (one two three run : Name) (a : Name) (f : ItemKind) (registered_plug : IsEmptyPackage g2 plug one [] ((a, f) ∷ [])) (between : Stays g2 g3)
    (registered_second : IsEmptyPackage g3 second two [] ((a, f) ∷ [])) (behind : Stays g3 g4) (registered_socket : IsEmptyPackage g4 socket three ((a, f) ∷ []) ((run, f) ∷ [])) (plugs_are : plugs ≡ plug ∷ second ∷ []) where
  first_parts : (p : PackageParts) × (package_at g2 plug ≡ Some p) × (p.name ≡ one)
  first_parts = parts-of g2 plug one [] ((a, f) ∷ []) registered_plug

  second_parts : (p : PackageParts) × (package_at g3 second ≡ Some p) × (p.name ≡ two)
  second_parts = parts-of g3 second two [] ((a, f) ∷ []) registered_second

  taker_parts : (q : PackageParts) × (package_at g4 socket ≡ Some q) × (q.name ≡ three)
  taker_parts = parts-of g4 socket three ((a, f) ∷ []) ((run, f) ∷ []) registered_socket

  pub taker-there : IsSome (package_at g4 socket)
  taker-there = there-is (package_at g4 socket) taker_parts.0 taker_parts.1

  until : Stays g2 g4
  until = stays-trans g2 g3 g4 between behind

  first_there : package_at g4 plug ≡ Some first_parts.0
  first_there = until.packages plug first_parts.0 first_parts.1

  second_there : package_at g4 second ≡ Some second_parts.0
  second_there = behind.packages second second_parts.0 second_parts.1

  pub both-there : (i : ℕ) (id : PackageId) → slice_get plugs i ≡ Some id → IsSome (package_at g4 id)
  both-there i id at = place i (ap (λ l. slice_get l i) (sym plugs_are) ∙ at) where
    place : (i : ℕ) → slice_get (plug ∷ second ∷ []) i ≡ Some id → IsSome (package_at g4 id)
    place zero h = let same : plug ≡ id = cc in subst (λ k. IsSome (package_at g4 k)) same (there-is (package_at g4 plug) first_parts.0 first_there)
    place (suc zero) h = let same : second ≡ id = cc in subst (λ k. IsSome (package_at g4 k)) same (there-is (package_at g4 second) second_parts.0 second_there)
    place (suc (suc i)) h = cc

  module _ (g5 : Graph) (step : PlugsAll g4 plugs socket (Ok tt) g5) where
    listed : (imports_of_package g4 socket ≡ (a, f) ∷ []) × (exports_of_package g4 socket ≡ (run, f) ∷ [])
    listed = listed-of g4 socket three ((a, f) ∷ []) ((run, f) ∷ []) registered_socket

    stepped : PlugsAll g4 (plug ∷ second ∷ []) socket (Ok tt) g5
    stepped = subst (λ l. PlugsAll g4 l socket (Ok tt) g5) plugs_are step

    made : Made g4 g5 plug socket a run
    made = made-first g4 g5 plug socket taker_parts.0 a run f taker_parts.1 listed.0 (exports-later g2 g4 plug one [] (a, f) [] until registered_plug) listed.1 second (exports-later g3 g4 second two [] (a, f) [] behind registered_second) stepped

    pub plugs-first : IsSound g4 → IsSound g5 → IsPluggedInto g5 one a three run
    plugs-first sound sound_new = plugged-into g4 g5 plug socket a run first_parts.0 taker_parts.0 sound sound_new first_there taker_parts.1 made one three first_parts.2 taker_parts.2

    second_later : IsSound g4 → IsSound g5 → package_at g5 second ≡ Some second_parts.0
    second_later sound sound_new = package_new g4 g5 plug socket a run first_parts.0 taker_parts.0 sound sound_new first_there taker_parts.1 made second second_parts.0 second_there

    module _ (passed : List PassedOver) (are : (all : List PlugMatches) → AreAllMatches g4 socket plugs all → list_map named_by passed ≡ passed_over [] all) where
      match_is : list_map named_by passed ≡ record { plug = second; match = record { export = a; import = a } } ∷ []
      match_is = passed-second g4 g5 plug socket taker_parts.0 a run f taker_parts.1 listed.0 (exports-later g2 g4 plug one [] (a, f) [] until registered_plug) listed.1 second
          (exports-later g3 g4 second two [] (a, f) [] behind registered_second) (list_map named_by passed) (λ all h. are all (subst (λ l. AreAllMatches g4 socket l all) (sym plugs_are) h)) stepped

      pub passed-there : IsSound g4 → IsSound g5 → (i : ℕ) (over : PassedOver) → slice_get passed i ≡ Some over → IsSome (package_at g5 over.plug)
      passed-there sound sound_new i over at =
          let same : over.plug ≡ second = ap (λ (p : PlugMatch). p.plug) (only-one (list_map named_by passed) (record { plug = second; match = record { export = a; import = a } }) i (named_by over) match_is (slice_get-map named_by passed i ∙ ap (option_map named_by) at)) in
          subst (λ k. IsSome (package_at g5 k)) (sym same) (there-is (package_at g5 second) second_parts.0 (second_later sound sound_new))

      pub lines-are : IsSound g4 → IsSound g5 → lines_of g5 (list_map named_by passed) ≡ match_line two (record { export = a; import = a }) ++ []
      lines-are sound sound_new =
          let named : package_name g5 second ≡ two = ap (λ o. option_case o [] (λ (p : PackageParts). p.name)) (second_later sound sound_new) ∙ second_parts.2 in
          ap (lines_of g5) match_is ∙ ap (λ n. match_line n (record { export = a; import = a }) ++ []) named
