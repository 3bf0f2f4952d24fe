-- What an import and the instances inside use is kept of what the interfaces that they are made of use.
use Rattle.std.proofs.Common.{◌≡◌, ℕ, List, take, Some, slice_get, sym, ap, ◌∙◌, subst}
use Rattle.wac_types_shapes.specs.primitives.Name.{Name}
use Rattle.wac_types_shapes.specs.declared.shapes.component.Interface.{Interface}
use Rattle.wac_types_shapes.specs.declared.shapes.component.InterfaceId.{InterfaceId}
use Rattle.wac_types_shapes.specs.declared.shapes.component.UsedType.{UsedType}
use Rattle.wac_types_shapes.specs.declared.shapes.component.ItemKind.{ItemKind}
use Rattle.wac_types_shapes.specs.declared.shapes.component.ItemKind.TheVariants as kind
use Rattle.wac_types_collection.specs.collection.Collection.{Collection, item_at}
use Rattle.wac_merge_classes.specs.entries.Classes.{Entry, NameRules, members}
use Rattle.wac_merge_classes.specs.terms.Merge.{Merged}
use Rattle.wac_merge_classes.proofs.lemmas.terms.Found.{one_some}
use Rattle.wac_merge_unions.specs.uses.KeptUses.{AreKept, KeepsUses, StandsIn, as_import, inside, instances, uses_of}
use Rattle.wac_merge_unions.specs.uses.United.{instances_of, listed_by}
use Rattle.wac_merge_unions.specs.uses.Using.{IsUsing, uses_among, with}
use Rattle.wac_merge_unions.proofs.lemmas.uses.FirstKept.{kept-first}
use Rattle.wac_merge_unions.proofs.lemmas.uses.NestedBinds.{found-using, using-instance}

module _ (rules : NameRules) (c : Collection) (es : List Entry) (m : Merged) where
  -- what is used at a position
  abbrev pub uses-at : ℕ → List InterfaceId → List (Name × ItemKind) → List (Name × UsedType)
  uses-at p = uses_among rules c es m.types (take p m.imports)

  -- each import that is an instance became so, made of the interfaces of its class's members
  abbrev pub EachUses : Type 0
  EachUses = (p : ℕ) (e : Entry) (w : InterfaceId) → slice_get m.imports p ≡ Some e → e.kind ≡ kind.Instance w → (i : InterfaceId) × IsUsing c m.types (uses-at p) i w (instances (members rules es e.name))

  stands-using : EachUses → (p : ℕ) (w : InterfaceId) (is : List InterfaceId) → StandsIn rules c es m p w is → (i : InterfaceId) × IsUsing c m.types (uses-at p) i w is
  stands-using are p w is (as_import e x at is-kind) = are p e w at is-kind
  stands-using are p w is (inside x v js it n around at found) =
      let u = stands-using are p x js around in
      let f = found-using c m.types (uses-at p) u.0 x js it n (kind.Instance w) u.1 at found in
      let k = using-instance c m.types (uses-at p) (instances_of (listed_by c js n)) f.1 w f.4 in
      (k.0, k.2)

  uses-are : (p : ℕ) (i w : InterfaceId) (is : List InterfaceId) (it : Interface) → IsUsing c m.types (uses-at p) i w is → item_at m.types.interfaces w.0 ≡ Some it → it.uses ≡ uses-at p is it.exports
  uses-are p i w is it (with _ _ _ was exports at there own counted others alike inner) it-at =
      let using : Interface = record { id = was.id; uses = uses-at p is exports; exports = exports } in
      let one : using ≡ it = one_some (item_at m.types.interfaces w.0) using it there it-at in
      ap (λ (x : Interface). x.uses) (sym one) ∙ ap (λ (x : Interface). uses-at p is x.exports) one

  pub each-keeps : EachUses → KeepsUses rules c es m
  each-keeps are p w is it stands at =
      let u = stands-using are p w is stands in
      subst (AreKept rules c es m.types (take p m.imports) it.exports (uses_of c is)) (sym (uses-are p u.0 w is it u.1 at)) (kept-first rules c es m.types (take p m.imports) it.exports (uses_of c is))
