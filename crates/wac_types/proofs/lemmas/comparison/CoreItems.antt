-- What is offered of core items, name by name.
use Rattle.std.proofs.Common.{ℕ, All, IsSomeAnd, List, ◌≡◌, ◌≢◌, ◌↔◌, ◌<◌, length, get_or, sym, subst, arith, Option, Some, None, slice_get}
use Rattle.std.proofs.lemmas.List.Elements.{All-get_or}
use Rattle.std.proofs.lemmas.Option.{get_or_from_slice_get, slice_get-get_or}
use Rattle.wac_types_shapes.specs.primitives.Name.{Name, find_name, option_case}
use Rattle.wac_types_shapes.specs.shapes.Imports.{Pair, find_import, NoImportTwice}
use Rattle.wac_types_shapes.specs.shapes.Named.{NoNameTwice}
use Rattle.wac_types_shapes.specs.primitives.Core.{CoreItem, no_item}
use Rattle.wac_types_shapes.specs.declared.shapes.core_types.CoreExtern.{CoreExtern}
use Rattle.wac_types_shapes.specs.declared.shapes.core_types.CoreExtern.TheVariants as core
use Rattle.wac_types_shapes.specs.declared.shapes.core_types.ModuleType.{ModuleType}
use Rattle.wac_types_shapes.proofs.lemmas.shapes.Names.{find_name-at, find_position}
use Rattle.wac_types_shapes.proofs.lemmas.shapes.Pairs.{import_at, import_position}
use Rattle.wac_types_shapes.specs.primitives.Tree.{TypeTree, module_of}
use Rattle.wac_types_collection.specs.collection.Held.{core_item, module_tree}
use Rattle.wac_types_collection.specs.subtyping.Subtype.{Sub, IsCoreSubtype}
use Rattle.wac_types.specs.private.comparison.Compare.{OffersCore, OffersModules}
use Rattle.wac_types.proofs.lemmas.comparison.Offers.{OffersUnder, ends, offered_at}

core_there : (e : CoreExtern) → core_item e ≢ no_item
core_there (core.Func f) e = cc
core_there _ e = cc

some_under : (o : Option CoreExtern) (t : CoreItem) → IsSomeAnd o (λ x. IsCoreSubtype (core_item x) t) → IsCoreSubtype (option_case o no_item core_item) t
some_under None t h = absurd h
some_under (Some x) t h = h

under_some : (o : Option CoreExtern) (y : CoreExtern) → IsCoreSubtype (option_case o no_item core_item) (core_item y) → IsSomeAnd o (λ x. IsCoreSubtype (core_item x) (core_item y))
under_some None y s = absurd (core_there y (sym s))
under_some (Some x) y s = s

-- core items under keys: all are offered where each entry is
module _ {K : Type 0} (find : List (K × CoreExtern) → K → Option CoreExtern) (xs ys : List (K × CoreExtern)) (once : (j : ℕ) (k : K) (y : CoreExtern) → slice_get ys j ≡ Some (k, y) → find ys k ≡ Some y)
    (position : (k : K) (y : CoreExtern) → find ys k ≡ Some y → (j : ℕ) × (j < length ys) × (slice_get ys j ≡ Some (k, y))) where
  abbrev IsOffered : K × CoreExtern → Type 0
  IsOffered e = IsSomeAnd (find xs e.0) (λ x. IsCoreSubtype (core_item x) (core_item e.1))

  core_offers : All IsOffered ys ↔ OffersUnder find no_item core_item core_item IsCoreSubtype xs ys
  core_offers = (
    λ h. ends find no_item core_item core_item IsCoreSubtype xs ys position (length ys) (omega arith) (λ j lt e at. some_under (find xs e.0) (core_item e.1) (subst IsOffered (get_or_from_slice_get ys j e e at) (All-get_or IsOffered ys j e lt h))),
    λ o k d lt. let e = get_or ys k d in under_some (find xs e.0) e.1 (offered_at find no_item core_item core_item IsCoreSubtype xs ys once core_there o k e.0 e.1 (slice_get-get_or ys k d lt)),
  )

pub names_offered : (xs ys : List (Name × CoreExtern)) → NoNameTwice ys → All (λ e. IsSomeAnd (find_name xs e.0) (λ x. IsCoreSubtype (core_item x) (core_item e.1))) ys ↔ OffersCore xs ys
names_offered xs ys once = core_offers find_name xs ys (λ j n y. find_name-at ys j n y once) (find_position ys)

-- by module and name
pub imports_offered : (xs ys : List (Pair × CoreExtern)) → NoImportTwice ys → All (λ e. IsSomeAnd (find_import xs e.0.0 e.0.1) (λ x. IsCoreSubtype (core_item x) (core_item e.1))) ys ↔ OffersModules xs ys
imports_offered xs ys once =
    let iff = core_offers (λ es p. find_import es p.0 p.1) xs ys (λ j p y. import_at ys j p y once) (import_position ys) in
    (λ h m n. iff.0 h (m, n), λ o. iff.1 (λ p. o p.0 p.1))

module _ {L : Type 0} where
  of_modules : (xi yi : Name → Name → CoreItem) (xe ye : Name → CoreItem) → Sub (let tree : TypeTree L = module_of xi xe in tree) (module_of yi ye)
      → ((m n : Name) → xi m n ≢ no_item → IsCoreSubtype (yi m n) (xi m n)) × ((n : Name) → ye n ≢ no_item → IsCoreSubtype (xe n) (ye n))
  of_modules xi yi xe ye (Sub.same _ p) = absurd p
  of_modules xi yi xe ye (Sub.modules _ _ _ _ f g) = (f, g)

  pub modules_from : (m n : ModuleType) → OffersModules n.imports m.imports × OffersCore m.exports n.exports → Sub (let tree : TypeTree L = module_tree m in tree) (module_tree n)
  modules_from m n h = Sub.modules _ _ _ _ h.0 h.1

  pub modules_back : (m n : ModuleType) → Sub (let tree : TypeTree L = module_tree m in tree) (module_tree n) → OffersModules n.imports m.imports × OffersCore m.exports n.exports
  modules_back m n s = of_modules _ _ _ _ s
