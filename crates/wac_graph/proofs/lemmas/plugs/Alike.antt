-- Lists that have the same item under each name, as the exports of a package's world and of its instances.
use Rattle.std.proofs.Common.{◌≡◌, ◌≢◌, ℕ, List, [], ◌∷◌, slice_get, refl, ap, ◌∙◌, sym, subst, Option, Some, None, IfSome}
use Rattle.std.specs.List.{AllByRecursion}
use Rattle.std.specs.Option.{option_map}
use Rattle.std.proofs.lemmas.Option.{same_Some}
use Rattle.wac_types_shapes.specs.primitives.Name.{Name, find_name}
use Rattle.wac_types_shapes.specs.shapes.Named.{named_at, NoNameTwice}
use Rattle.wac_types_shapes.specs.declared.shapes.component.ItemKind.{ItemKind}
use Rattle.wac_types_shapes.proofs.lemmas.shapes.Names.{find_name-at, named_at-none}
use Rattle.wac_types_shapes.proofs.lemmas.shapes.Parts.{found_named}
use Rattle.wac_types_shapes.proofs.lemmas.shapes.Under.{nothing_under}
use Rattle.wac_types_collection.specs.collection.Collection.{Collection, interface_exports}
use Rattle.wac_types_collection.specs.collection.Package.{PackageParts}
use Rattle.wac_types_collection.specs.subtyping.Subtype.{IsSubtype}
use Rattle.wac_graph_model.specs.declared.nodes.packages.PackageId.{PackageId}
use Rattle.wac_graph_model.specs.nodes.Graph.{Graph, package_at}
use Rattle.wac_graph_model.specs.nodes.Sound.{IsSound}
use Rattle.wac_graph.specs.plugs.Matching.{Match, exports_of_package}
use Rattle.wac_graph.specs.private.plugs.Fitting.{Fits}
use Rattle.wac_graph.specs.private.plugs.Positions.{instance_exports}
use Rattle.wac_graph.proofs.lemmas.plugs.Deciding.{IsWirable, AreWirable}
use Rattle.wac_graph.proofs.lemmas.plugs.Each.{exports-of}

-- the same item under each name
abbrev pub AreAlike : List (Name × ItemKind) → List (Name × ItemKind) → Type 0
AreAlike xs ys = (n : Name) → find_name xs n ≡ find_name ys n

-- where there is an item there is a position
positioned : (o : Option (ℕ × ItemKind)) (k : ItemKind) → option_map (λ e. e.1) o ≡ Some k → (j : ℕ) × (o ≡ Some (j, k))
positioned None k h = cc
positioned (Some x) k h =
    let same : x.1 ≡ k = same_Some x.1 k h in
    (x.0, λ i. Some (x.0, same i))

-- what the first list has at a position has one in the second
pub position-alike : (xs ys : List (Name × ItemKind)) → NoNameTwice xs → AreAlike xs ys → (i : ℕ) (e : Name × ItemKind) → slice_get xs i ≡ Some e → (j : ℕ) × (named_at 0 e.0 ys ≡ Some (j, e.1))
position-alike xs ys once alike i e at = positioned (named_at 0 e.0 ys) e.1 (sym (found_named ys e.0) ∙ sym (alike e.0) ∙ find_name-at xs i e.0 e.1 once at)

-- what fits by the first list fits by the second
same-fit : (o p : Option (ℕ × ItemKind)) (P : ItemKind → Type 0) → option_map (λ e. e.1) o ≡ option_map (λ e. e.1) p → IfSome o (λ e. P e.1) → IfSome p (λ e. P e.1)
same-fit None None P same h = h
same-fit None (Some y) P same h = cc
same-fit (Some x) None P same h = tt
same-fit (Some x) (Some y) P same h = subst P (same_Some x.1 y.1 same) h

pub fits-alike : (types : Collection) (xs ys imports : List (Name × ItemKind)) (m : Match) → AreAlike xs ys → Fits types xs imports m → Fits types ys imports m
fits-alike types xs ys imports m alike h =
    same-fit (named_at 0 m.export xs) (named_at 0 m.export ys) (λ k. IfSome (named_at 0 m.import imports) (λ i. IsSubtype types k types i.1)) (sym (found_named xs m.export) ∙ alike m.export ∙ found_named ys m.export) h

wirable-one : (types : Collection) (xs ys imports : List (Name × ItemKind)) (m : Match) → AreAlike xs ys → IsWirable types xs imports m → IsWirable types ys imports m
wirable-one types xs ys imports m alike w =
    let found = positioned (named_at 0 m.export ys) (w.given).1 (sym (found_named ys m.export) ∙ sym (alike m.export) ∙ found_named xs m.export ∙ ap (option_map (λ e. e.1)) w.exported) in
    record {
      given = (found.0, (w.given).1);
      taken = w.taken;
      exported = found.1;
      imported = w.imported;
      fits = w.fits;
    }

pub wirable-alike : (types : Collection) (xs ys imports : List (Name × ItemKind)) (ms : List Match) → AreAlike xs ys → AreWirable types xs imports ms → AreWirable types ys imports ms
wirable-alike types xs ys imports [] alike can = tt
wirable-alike types xs ys imports (m ∷ ms) alike can = (wirable-one types xs ys imports m alike can.0, can.1, wirable-alike types xs ys imports ms alike can.2)

-- names that the first list has are in the second
pub names-alike : (xs ys : List (Name × ItemKind)) (names : List Name) → AreAlike xs ys → AllByRecursion (λ name. named_at 0 name xs ≡ None → ⊥) names → AllByRecursion (λ name. named_at 0 name ys ≡ None → ⊥) names
names-alike xs ys [] alike h = tt
names-alike xs ys (n ∷ names) alike h = ((λ none. h.0 (named_at-none xs 0 n (alike n ∙ nothing_under ys 0 n none))), names-alike xs ys names alike h.1)

-- the world of a registered package and its instances export alike
pub exports-alike : (g : Graph) (id : PackageId) (p : PackageParts) → IsSound g → package_at g id ≡ Some p → AreAlike (exports_of_package g id) (interface_exports g.types p.instance_type)
exports-alike g id p sound at n = ap (λ (es : List (Name × ItemKind)). find_name es n) (exports-of g id p at) ∙ sym ((sound.packages id p at).2 n)

pub instance-exports : (g : Graph) (id : PackageId) (p : PackageParts) → package_at g id ≡ Some p → instance_exports g id ≡ interface_exports g.types p.instance_type
instance-exports g id p h = rw h refl
