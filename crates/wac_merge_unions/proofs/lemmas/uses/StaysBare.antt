-- An interface that uses nothing and lists no instance stays what it is.
use Rattle.std.proofs.Common.{◌≡◌, ℕ, zero, suc, Bool, true, false, ◌||◌, List, [], ◌∷◌, ◌++◌, slice_get, Some, refl, sym, ap, ◌∙◌}
use Rattle.std.specs.List.{list_any}
use Rattle.std.proofs.lemmas.Bool.{false≢true}
use Rattle.wac_types_shapes.specs.primitives.Name.{Name, option_case}
use Rattle.wac_types_shapes.specs.declared.shapes.component.Interface.{Interface}
use Rattle.wac_types_shapes.specs.declared.shapes.component.InterfaceId.{InterfaceId}
use Rattle.wac_types_shapes.specs.declared.shapes.component.UsedType.{UsedType}
use Rattle.wac_types_shapes.specs.declared.shapes.component.ItemKind.{ItemKind}
use Rattle.wac_types_shapes.specs.declared.shapes.component.ItemKind.TheVariants as kind
use Rattle.wac_types_collection.specs.collection.Bound.{own_name}
use Rattle.wac_types_collection.specs.collection.Collection.{Collection, item_at}
use Rattle.wac_merge_classes.specs.entries.Classes.{is_instance}
use Rattle.wac_merge_classes.proofs.lemmas.terms.Found.{no_some, some_same}
use Rattle.wac_merge_unions.specs.uses.KeptUses.{uses_of}
use Rattle.wac_merge_unions.specs.uses.Using.{IsUsing, with}

-- where none passes a test, none at a position does
pub none-at : {A : Type 0} (p : A → Bool) (xs : List A) (j : ℕ) (x : A) → list_any p xs ≡ false → slice_get xs j ≡ Some x → p x ≡ false
none-at p [] j x none at = absurd (no_some x at)
none-at p (y ∷ xs) zero x none at = ap p (sym (some_same y x at)) ∙ first (p y) (list_any p xs) none where
  first : (a b : Bool) → (a || b) ≡ false → a ≡ false
  first true b h = absurd (false≢true (sym h))
  first false b h = refl
none-at p (y ∷ xs) (suc j) x none at = none-at p xs j x (rest (p y) (list_any p xs) none) at where
  rest : (a b : Bool) → (a || b) ≡ false → b ≡ false
  rest true b h = absurd (false≢true (sym h))
  rest false b h = h

-- where interfaces use nothing, none of them does
none-first : {A : Type 0} (xs ys : List A) → xs ++ ys ≡ [] → (xs ≡ []) × (ys ≡ [])
none-first [] ys h = (refl, h)
none-first (x ∷ xs) ys h = cc h

pub uses-none : (c : Collection) (is : List InterfaceId) (j : ℕ) (i : InterfaceId) (it : Interface) → uses_of c is ≡ [] → slice_get is j ≡ Some i → item_at c.interfaces i.0 ≡ Some it → it.uses ≡ []
uses-none c [] j i it none at there = absurd (no_some i at)
uses-none c (k ∷ is) zero i it none at there =
    let here = (none-first (option_case (item_at c.interfaces k.0) [] (λ (x : Interface). x.uses)) (uses_of c is) none).0 in
    sym (ap (λ o. option_case o [] (λ (x : Interface). x.uses)) (ap (λ (y : InterfaceId). item_at c.interfaces y.0) (some_same k i at) ∙ there)) ∙ here
uses-none c (k ∷ is) (suc j) i it none at there = uses-none c is j i it (none-first (option_case (item_at c.interfaces k.0) [] (λ (x : Interface). x.uses)) (uses_of c is) none).1 at there

-- it is itself with what is used
pub bare-using : (c m : Collection) (f : List InterfaceId → List (Name × ItemKind) → List (Name × UsedType)) (i : InterfaceId) (is : List InterfaceId) (it : Interface)
    → item_at m.interfaces i.0 ≡ Some it → it.uses ≡ [] → f is it.exports ≡ [] → list_any (λ e. is_instance e.1) it.exports ≡ false → IsUsing c m f i i is
bare-using c m f i is it at unused none plain =
    let same : it.uses ≡ f is it.exports = unused ∙ sym none in
    with i i is it it.exports at (at ∙ (λ j. Some (record { id = it.id; uses = same j; exports = it.exports }))) (λ r. ap (λ us. own_name m us it.exports r) (sym same)) refl
    (λ j a b here there no. some_same b a (sym there ∙ here))
    (λ j a b here there yes. absurd (false≢true (sym (none-at (λ (e : Name × ItemKind). is_instance e.1) it.exports j a plain here) ∙ yes)))
    (λ j n k l here there. absurd (false≢true (sym (none-at (λ (e : Name × ItemKind). is_instance e.1) it.exports j (n, kind.Instance k) plain here))))
