use Rattle.std.proofs.Common.{◌≡◌, Bool, true, false, ◌||◌, List, [], ◌∷◌, ◌++◌, Some, slice_get, take, refl, sym, ap, ◌∙◌, inl, inr, add-one}
use Rattle.std.specs.List.{list_any}
use Rattle.std.proofs.lemmas.Bool.{cases_Bool, false≢true}
use Rattle.wac_types_shapes.specs.primitives.Name.{Name}
use Rattle.wac_types_shapes.specs.declared.shapes.component.InterfaceId.{InterfaceId}
use Rattle.wac_types_shapes.specs.declared.shapes.component.ItemKind.{ItemKind}
use Rattle.wac_types_shapes.specs.declared.shapes.component.ItemKind.TheVariants as kind
use Rattle.wac_types_shapes.proofs.lemmas.shapes.Names.{take_at}
use Rattle.wac_merge_classes.specs.entries.Classes.{is_instance}
use Rattle.wac_merge_unions.proofs.lemmas.uses.StaysBare.{none-at}
use Rattle.wac_merge_unions.proofs.uses.imports.lists_instance.Goals as goal

abbrev lists : Name × ItemKind → Bool
lists e = is_instance e.1

any-push : (xs : List (Name × ItemKind)) (x : Name × ItemKind) → list_any lists xs ≡ false → lists x ≡ false → list_any lists (xs ++ x ∷ []) ≡ false
any-push [] x h g = ap (λ b. b || false) g
any-push (y ∷ xs) x h g = by (lists y) h (λ rest. any-push xs x rest g) where
  by : (b : Bool) → (b || list_any lists xs) ≡ false → (list_any lists xs ≡ false → list_any lists (xs ++ x ∷ []) ≡ false) → (b || list_any lists (xs ++ x ∷ [])) ≡ false
  by true h more = absurd (false≢true (sym h))
  by false h more = more h

plain-kind : (k : ItemKind) → ((i : InterfaceId) → k ≡ kind.Instance i → ⊥) → is_instance k ≡ false
plain-kind (kind.Instance i) none = absurd (none i refl)
plain-kind (kind.TypeItem t) none = refl
plain-kind (kind.Func f) none = refl
plain-kind (kind.Component w) none = refl
plain-kind (kind.Module y) none = refl
plain-kind (kind.Value v) none = refl

pub loop-i-preserved : goal.loop-i-preserved
loop-i-preserved c =
    let listed : List (Name × ItemKind) = c.args.listed.now in
    let e : Name × ItemKind = (c.entry_at.result.0.now, c.entry_at.result.1.now) in
    let at : slice_get listed c.loop-i.i ≡ Some e = c.entry_at.ensures in
    rw add-one (ap (list_any lists) (take_at listed c.loop-i.i e at) ∙ any-push (take c.loop-i.i listed) e c.loop-i.invariant (plain-kind e.1 c.in_default.not-Instance))

pub returns-in-Instance : goal.returns-in-Instance
returns-in-Instance c =
    let listed : List (Name × ItemKind) = c.args.listed.now in
    let e : Name × ItemKind = (c.entry_at.result.0.now, c.entry_at.result.1.now) in
    let at : slice_get listed c.loop-i.i ≡ Some e = c.entry_at.ensures in
    elim (cases_Bool (list_any lists listed)) [
      | inl some ↦ sym some
      | inr none ↦ absurd (false≢true (sym (none-at lists listed c.loop-i.i e none at) ∙ ap is_instance c.in-Instance.is))
    ]
