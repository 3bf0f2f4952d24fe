-- Where a package's instances list what its world exports.
use Rattle.std.proofs.Common.{◌≡◌, ◌<◌, ℕ, List, [], length, slice_get, refl, ap, ◌∙◌, sym, subst, Option, Some}
use Rattle.std.specs.Prelude.{IsSomeAnd}
use Rattle.std.specs.Option.{option_map}
use Rattle.wac_types_shapes.specs.primitives.Name.{Name, option_case}
use Rattle.wac_types_shapes.specs.shapes.Named.{named_at, NoNameTwice}
use Rattle.wac_types_shapes.specs.declared.shapes.component.Interface.{Interface}
use Rattle.wac_types_shapes.specs.declared.shapes.component.InterfaceId.{InterfaceId}
use Rattle.wac_types_shapes.specs.declared.shapes.component.ItemKind.{ItemKind}
use Rattle.wac_types_shapes.specs.declared.shapes.component.World.{World}
use Rattle.wac_types_collection.specs.collection.Collection.{Collection, item_at, interface_exports}
use Rattle.wac_types_collection.specs.collection.Package.{PackageParts}
use Rattle.wac_graph_model.specs.declared.nodes.packages.PackageId.{PackageId}
use Rattle.wac_graph_model.specs.nodes.Graph.{Graph, package_at}
use Rattle.wac_graph_model.specs.nodes.Sound.{IsSound}
use Rattle.wac_graph.specs.plugs.Matching.{exports_of_package}
use Rattle.wac_graph.specs.private.plugs.Positions.{IsInstancePosition, instance_exports}
use Rattle.wac_graph.proofs.lemmas.plugs.Pairs.{entry-there}
use Rattle.wac_graph.proofs.lemmas.plugs.Alike.{AreAlike, position-alike, exports-alike, instance-exports}

one-entry : (e f : Name × ItemKind) → Some e ≡ Some f → e ≡ f
one-entry e f h = cc

one-name : (n m : Name) → Some n ≡ Some m → n ≡ m
one-name n m h = cc

-- what the interface of its instances lists, as it is read
pub listed-instance : (g : Graph) (id : PackageId) (p : PackageParts) (i : InterfaceId) (t : Collection) (y : Interface) → package_at g id ≡ Some p → i ≡ p.instance_type → t ≡ g.types → item_at t.interfaces i.0 ≡ Some y → instance_exports g id ≡ y.exports
listed-instance g id p i t y at is same there =
    instance-exports g id p at ∙ ap (interface_exports g.types) (sym is) ∙ ap (λ c. interface_exports c i) (sym same) ∙ ap (λ (o : Option Interface). option_case o [] (λ z. z.exports)) there

-- an export of the world is found by its name among those of the instances
pub placed : (g : Graph) (id : PackageId) (p : PackageParts) (x : World) (y : Interface) (export : ℕ) (name : Name) (o : Option (ℕ × ItemKind)) → IsSound g → package_at g id ≡ Some p → exports_of_package g id ≡ x.exports
    → instance_exports g id ≡ y.exports → NoNameTwice x.exports → export < length (exports_of_package g id) → option_map (λ e. e.0) (slice_get x.exports export) ≡ Some name → o ≡ named_at 0 name y.exports → IsSomeAnd o (λ f. IsInstancePosition g id export f.0)
placed g id p x y export name o sound at world instance once within is found =
    let alike : AreAlike x.exports y.exports = subst (λ l. AreAlike l y.exports) world (subst (AreAlike (exports_of_package g id)) (sym (instance-exports g id p at) ∙ instance) (exports-alike g id p sound at)) in
    let e = entry-there x.exports export (subst (λ (l : List (Name × ItemKind)). export < length l) world within) in
    let named : e.0.0 ≡ name = one-name e.0.0 name (sym (ap (option_map (λ (f : Name × ItemKind). f.0)) e.1) ∙ is) in
    let place = position-alike x.exports y.exports once alike export e.0 e.1 in
    let here : o ≡ Some (place.0, e.0.1) = found ∙ ap (λ n. named_at 0 n y.exports) (sym named) ∙ place.1 in
    let stands : IsInstancePosition g id export place.0 = (λ f listed.
    let same : e.0 ≡ f = one-entry e.0 f (sym e.1 ∙ ap (λ l. slice_get l export) (sym world) ∙ listed) in
    subst (λ (k : Name × ItemKind). named_at 0 k.0 (instance_exports g id) ≡ Some (place.0, k.1)) same (ap (named_at 0 e.0.0) instance ∙ place.1)) in
    subst (λ (q : Option (ℕ × ItemKind)). IsSomeAnd q (λ f. IsInstancePosition g id export f.0)) (sym here) stands
