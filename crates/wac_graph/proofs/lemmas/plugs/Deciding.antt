-- What the wiring of matches answers, where none has an import that is taken.
use Rattle.std.proofs.Common.{◌≡◌, ◌≢◌, ℕ, suc, ◌+◌, Bool, true, false, cond, List, [], ◌∷◌, slice_get, refl, ap, ◌∙◌, sym, subst, Some, Ok, Err, IsErr, ◌⊎◌, inl, inr, arith}
use Rattle.std.specs.List.{AllByRecursion}
use Rattle.std.proofs.lemmas.Bool.{cases_Bool, false≢true}
use Rattle.wac_types_shapes.specs.primitives.Name.{Name, same_name}
use Rattle.wac_types_shapes.specs.shapes.Named.{named_at}
use Rattle.wac_types_shapes.proofs.lemmas.shapes.Names.{same_name-true, same_name-from}
use Rattle.wac_types_shapes.specs.declared.shapes.component.ItemKind.{ItemKind}
use Rattle.wac_types_collection.specs.collection.Collection.{Collection, interface_exports, world_imports}
use Rattle.wac_types_collection.specs.collection.Package.{PackageParts}
use Rattle.wac_types_collection.specs.subtyping.Subtype.{IsSubtype}
use Rattle.wac_edges.specs.declared.node.NodeId.{NodeId}
use Rattle.wac_graph_model.specs.declared.nodes.packages.PackageId.{PackageId}
use Rattle.wac_graph_model.specs.nodes.Graph.{Graph, node_at, package_at, IsAliasOf, IsSatisfied}
use Rattle.wac_graph_model.specs.nodes.Steps.{instance_node, import_named}
use Rattle.wac_graph.specs.declared.plugs.errors.PlugError.TheVariants.{OutOfMemory}
use Rattle.wac_graph.specs.plugs.Matching.{Match}
use Rattle.wac_graph.specs.plugs.Plugging.{Answer, InOrder, Wires}
use Rattle.wac_graph.specs.plugs.Precedence.{is_taken}
use Rattle.wac_graph.proofs.lemmas.plugs.Wired.{SourcesThere, Wired, wire-answer}
use Rattle.wac_graph.proofs.lemmas.plugs.Winning.{AreFresh, given_then}

some-is : {A : Type 0} (a b : A) → Some a ≡ Some b → a ≡ b
some-is a b h = cc

pair-is : {A : Type 0} (i : ℕ) (a : A) (x : ℕ × A) → Some (i, a) ≡ Some x → (i, a) ≡ x
pair-is i a x h = cc

-- what stands under a name stands at its position
pub named-entry : {A : Type 0} (es : List (Name × A)) (i : ℕ) (n : Name) (x : ℕ × A) → named_at i n es ≡ Some x → (j : ℕ) × (x.0 ≡ i + j) × (slice_get es j ≡ Some (n, x.1))
named-entry [] i n x h = cc
named-entry (e ∷ es) i n x h = elim (cases_Bool (same_name n e.0)) [
  | inl t ↦
      let some : Some (i, e.1) ≡ Some x = sym (ap (λ b. cond b (Some (i, e.1)) (named_at (suc i) n es)) t) ∙ h in
      let is = pair-is i e.1 x some in
      let name : n ≡ e.0 = same_name-true n e.0 t in
      let place : i ≡ x.0 = ap (λ p. p.0) is in
      (0, omega (arith, place), (λ k. Some (sym name k, (ap (λ p. p.1) is) k)))
  | inr f ↦
      let r = named-entry es (suc i) n x (sym (ap (λ b. cond b (Some (i, e.1)) (named_at (suc i) n es)) f) ∙ h) in
      (suc r.0, omega (arith, r.1), r.2)
]

first-is : {A : Type 0} (p r : Name × A) → Some p ≡ Some r → p.0 ≡ r.0
first-is {A} p r h = ap (λ (e : Name × A). e.0) (some-is p r h)

one-name : {A : Type 0} (es : List (Name × A)) (a b : Name) (x y : ℕ × A) → named_at 0 a es ≡ Some x → named_at 0 b es ≡ Some y → x.0 ≡ y.0 → a ≡ b
one-name {A} es a b x y at_a at_b same =
    let p = named-entry es 0 a x at_a in
    let q = named-entry es 0 b y at_b in
    let place : p.0 ≡ q.0 = omega (arith, p.1, q.1, same) in
    let l : Name × A = (a, x.1) in
    let r : Name × A = (b, y.1) in
    let both : Some l ≡ Some r = sym p.2 ∙ ap (slice_get es) place ∙ q.2 in
    first-is l r both

ok-is-no-error : {A E : Type 0} {a : A} {e : E} → Ok a ≡ Err e → ⊥
ok-is-no-error h = cc

ok-is-no-refusal : (r : Answer) → r ≡ Ok tt → IsErr r → ⊥
ok-is-no-refusal (Ok a) is err = false≢true err
ok-is-no-refusal (Err e) is err = cc

-- an import of an instance of a registered package
imported-at : (g : Graph) (socket : PackageId) (q : PackageParts) (name : Name) → package_at g socket ≡ Some q → import_named g (instance_node socket q) name ≡ named_at 0 name (world_imports g.types q.world)
imported-at g socket q name h = rw h refl

-- the export and the import of a match are there, and fit
pub record IsWirable (types : Collection) (exports imports : List (Name × ItemKind)) (m : Match) : Type 0 where
  pub given : ℕ × ItemKind
  pub taken : ℕ × ItemKind
  pub exported : named_at 0 m.export exports ≡ Some given
  pub imported : named_at 0 m.import imports ≡ Some taken
  pub fits : IsSubtype types given.1 types taken.1

-- of matches, and no export matches twice
abbrev pub AreWirable : Collection → List (Name × ItemKind) → List (Name × ItemKind) → List Match → Type 0
AreWirable types exports imports [] = Unit {0}
AreWirable types exports imports (m ∷ ms) = IsWirable types exports imports m × AllByRecursion (λ o. o.export ≢ m.export) ms × AreWirable types exports imports ms

-- no export of this name is aliased from a node
abbrev pub IsUnaliased : Graph → NodeId → List (Name × ItemKind) → Name → Type 0
IsUnaliased g n exports name = (x : ℕ × ItemKind) (a : NodeId) → named_at 0 name exports ≡ Some x → IsAliasOf g n x.0 a → ⊥

abbrev pub AreUnaliased : Graph → NodeId → List (Name × ItemKind) → List Match → Type 0
AreUnaliased g n exports ms = AllByRecursion (λ m. IsUnaliased g n exports m.export) ms

-- only imports that are taken have an argument at the socket's node
pub record IsWiring (g : Graph) (s : NodeId) (socket : PackageId) (q : PackageParts) (given : List Name) : Type 0 where
  pub sources : SourcesThere g
  pub there : node_at g s ≡ Some (instance_node socket q)
  pub registered : package_at g socket ≡ Some q
  pub only : (name : Name) (y : ℕ × ItemKind) → named_at 0 name (world_imports g.types q.world) ≡ Some y → IsSatisfied g s y.0 → is_taken given name ≡ true

-- an import that is the first, or one of the others
taken-more : (b x : Bool) → x ≡ true → cond b true x ≡ true
taken-more true x h = refl
taken-more false x h = h

module _ (s : NodeId) (socket : PackageId) (q : PackageParts) where
  wiring-next : (g new : Graph) (n : NodeId) (i : ℕ) (m : Match) (y : ℕ × ItemKind) (given : List Name) → named_at 0 m.import (world_imports g.types q.world) ≡ Some y → IsWiring g s socket q given → Wired g n s i y.0 new → IsWiring new s socket q (m.import ∷ given)
  wiring-next g new n i m y given imported w h = record {
    sources = h.sources;
    there = h.nodes s (instance_node socket q) w.there;
    registered = ap (λ l. package_at (record g { slots = l }) socket) h.slots ∙ w.registered;
    only = λ name z at sat.
        let before : named_at 0 name (world_imports g.types q.world) ≡ Some z = sym (ap (λ c. named_at 0 name (world_imports c q.world)) h.types) ∙ at in
        elim (h.only z.0 sat) [
          | inl is ↦ ap (λ b. cond b true (is_taken given name)) (same_name-from m.import name (one-name (world_imports g.types q.world) m.import name y z imported before (sym is)))
          | inr was ↦ taken-more (same_name m.import name) (is_taken given name) (w.only name z before was)
        ];
  }

  unaliased-next : (g new : Graph) (n : NodeId) (exports : List (Name × ItemKind)) (m : Match) (x : ℕ × ItemKind) (j : ℕ) (ms : List Match) → named_at 0 m.export exports ≡ Some x → Wired g n s x.0 j new
      → AllByRecursion (λ o. o.export ≢ m.export) ms → AreUnaliased g n exports ms → AreUnaliased new n exports ms
  unaliased-next g new n exports m x j [] at h others none = tt
  unaliased-next g new n exports m x j (o ∷ ms) at h others none = (
    (λ z a there aliased. elim (h.aliases n z.0 a aliased) [
      | inl is ↦ others.0 (one-name exports o.export m.export z x there at is.1)
      | inr was ↦ none.0 z a there was
    ]),
    unaliased-next g new n exports m x j ms at h others.1 none.1,
  )

  -- what follows from matches that were wired
  pub record AreGiven (g : Graph) (n : NodeId) (given : List Name) (ms : List Match) (new : Graph) : Type 0 where
    pub wiring : IsWiring new s socket q (given_then given ms)
    pub types : new.types ≡ g.types
    pub slots : new.slots ≡ g.slots
    pub exports : new.exports ≡ g.exports

  -- what matches that are wired from a plug's node answer
  abbrev pub Decides : PackageId → PackageParts → NodeId → List Match → Graph → List Name → Answer → Graph → Type 0
  Decides plug p n ms g given answer new =
      AreWirable g.types (interface_exports g.types p.instance_type) (world_imports g.types q.world) ms → AreFresh given ms → AreUnaliased g n (interface_exports g.types p.instance_type) ms
      → node_at g n ≡ Some (instance_node plug p) → IsWiring g s socket q given → InOrder (Wires n s) g ms answer new
      → (answer ≡ Err OutOfMemory) ⊎ ((answer ≡ Ok tt) × AreGiven g n given ms new)

  pub wires-decide : (plug : PackageId) (p : PackageParts) (n : NodeId) (ms : List Match) (g : Graph) (given : List Name) (answer : Answer) (new : Graph) → Decides plug p n ms g given answer new
  wires-decide plug p n [] g given answer new wirable fresh unaliased there w h = inr (
    h.0,
    record {
      wiring = subst (λ (k : Graph). IsWiring k s socket q given) (sym h.1) w;
      types = ap (λ (k : Graph). k.types) h.1;
      slots = ap (λ (k : Graph). k.slots) h.1;
      exports = ap (λ (k : Graph). k.exports) h.1;
    },
  )
  wires-decide plug p n (m ∷ ms) g given answer new wirable fresh unaliased there w h = by (λ mid. wires-decide plug p n ms mid (m.import ∷ given) answer new) h where
    x : ℕ × ItemKind
    x = wirable.0.given

    y : ℕ × ItemKind
    y = wirable.0.taken

    free : IsSatisfied g s y.0 → ⊥
    free sat = false≢true (sym fresh.0 ∙ w.only m.import y wirable.0.imported sat)

    step : (r : Answer) (k : Graph) → Wires n s g m r k → (r ≡ Err OutOfMemory) ⊎ ((r ≡ Ok tt) × Wired g n s x.0 y.0 k)
    step r k one = wire-answer g n s (instance_node plug p) (instance_node socket q) m x y w.sources there w.there refl refl wirable.0.exported (imported-at g socket q m.import w.registered ∙ wirable.0.imported) wirable.0.fits
        (λ a al. unaliased.0 x a wirable.0.exported al) free r k one

    onward : ((mid : Graph) → Decides plug p n ms mid (m.import ∷ given) answer new) → (mid : Graph) → Wired g n s x.0 y.0 mid → InOrder (Wires n s) mid ms answer new → (answer ≡ Err OutOfMemory) ⊎ ((answer ≡ Ok tt) × AreGiven g n given (m ∷ ms) new)
    onward later mid wired rest =
        elim (later mid
        (subst (λ (c : Collection). AreWirable c (interface_exports c p.instance_type) (world_imports c q.world) ms) (sym wired.types) wirable.2)
        fresh.1
        (subst (λ (c : Collection). AreUnaliased mid n (interface_exports c p.instance_type) ms) (sym wired.types) (unaliased-next g mid n (interface_exports g.types p.instance_type) m x y.0 ms wirable.0.exported wired wirable.1 unaliased.1))
        (wired.nodes n (instance_node plug p) there)
        (wiring-next g mid n x.0 m y given wirable.0.imported w wired)
        rest) [
          | inl memory ↦ inl memory
          | inr done ↦ inr (
            done.0,
            record { wiring = done.1.wiring; types = done.1.types ∙ wired.types; slots = done.1.slots ∙ wired.slots; exports = done.1.exports ∙ wired.exports },
          )
        ]

    by : ((mid : Graph) → Decides plug p n ms mid (m.import ∷ given) answer new) → (IsErr answer × Wires n s g m answer new) ⊎ ((mid : Graph) × Wires n s g m (Ok tt) mid × InOrder (Wires n s) mid ms answer new)
        → (answer ≡ Err OutOfMemory) ⊎ ((answer ≡ Ok tt) × AreGiven g n given (m ∷ ms) new)
    by later (inl refused) = elim (step answer new refused.1) [
      | inl memory ↦ inl memory
      | inr done ↦ absurd (ok-is-no-refusal answer done.0 refused.0)
    ]
    by later (inr made) = elim (step (Ok tt) made.0 made.1) [
      | inl memory ↦ absurd (ok-is-no-error memory)
      | inr done ↦ onward later made.0 done.1 made.2
    ]
