-- Words that say no value, no item and no core item.
use Rattle.std.proofs.Common.{◌≡◌, ◌≢◌, ◌⊎◌, ◌++◌, ◌∷◌, [], ◌∙◌, refl, ap, sym, subst, inl, inr, arith, ℕ, length, ◌<◌, ◌≤◌, get_or, List, Option, Some, None, codes}
use Rattle.std.specs.Borrow.{Bor}
use Rattle.std.proofs.lemmas.List.{append_cancel_left}
use Rattle.wac_types_shapes.specs.primitives.Name.{Name}
use Rattle.wac_types_shapes.specs.declared.shapes.component.ValueType.{ValueType}
use Rattle.wac_types_shapes.specs.declared.shapes.component.ItemKind.{ItemKind}
use Rattle.wac_types_shapes.specs.declared.shapes.component.InterfaceId.{InterfaceId}
use Rattle.wac_types_shapes.specs.declared.shapes.component.UsedType.{UsedType}
use Rattle.wac_script.specs.declared.labels.things.Thing.{Thing}
use Rattle.wac_script.specs.declared.labels.things.Thing.TheVariants as thing
use Rattle.wac_script.specs.lines.Words.{Word, spelled, IsPair, HasNoPair, IsDotted, HasNoDot, HasNoPrefix}
use Rattle.wac_script.specs.labels.Things.{Labelling, IsThing, SayNone}
use Rattle.wac_script.specs.labels.Values.{primitive_word, IsNoPrimitive, IsValue, primitive, own, borrow, labelled, IsPayload, IsField, IsCase}
use Rattle.wac_script.specs.labels.Shapes.{IsReturned}
use Rattle.wac_script.specs.labels.Items as items
use Rattle.wac_script.specs.labels.Items.{item_of, IsLabelledItem, IsItem, IsSource, IsUse, Found, AddsListed}
use Rattle.wac_script.proofs.LabelLemmas.{one-thing}
use Rattle.wac_script.proofs.ReadLemmas.{split-once, no-split, same-first}

-- No word begins with two prefixes that differ.
own-borrow : (a b : Word) → codes "own:" ++ a ≡ codes "borrow:" ++ b → ⊥
own-borrow a b e = let first : 111 ≡ 98 = same-first 111 98 (119 ∷ 110 ∷ 58 ∷ a) (111 ∷ 114 ∷ 114 ∷ 111 ∷ 119 ∷ 58 ∷ b) e in omega (arith, first)

value-type : (a b : Word) → codes "value:" ++ a ≡ codes "type:" ++ b → ⊥
value-type a b e = let first : 118 ≡ 116 = same-first 118 116 (97 ∷ 108 ∷ 117 ∷ 101 ∷ 58 ∷ a) (121 ∷ 112 ∷ 101 ∷ 58 ∷ b) e in omega (arith, first)

-- A handle to what is no resource is no value.
pub no-own : (labels : Labelling) (word label : Word) → IsNoPrimitive word → word ≡ codes "own:" ++ label → SayNone (λ r. IsThing labels label (thing.Resource r)) → SayNone (IsValue labels word)
no-own labels word label plain is none v (primitive p e _) = plain p e
no-own labels word label plain is none v (own other r _ e h _) = none r (subst (λ l. IsThing labels l (thing.Resource r)) (append_cancel_left (codes "own:") other label (sym e ∙ is)) h)
no-own labels word label plain is none v (borrow other r _ e h _) = own-borrow label other (sym is ∙ e)
no-own labels word label plain is none v (labelled _ without _ h) = without label is

pub no-borrow : (labels : Labelling) (word label : Word) → IsNoPrimitive word → word ≡ codes "borrow:" ++ label → SayNone (λ r. IsThing labels label (thing.Resource r)) → SayNone (IsValue labels word)
no-borrow labels word label plain is none v (primitive p e _) = plain p e
no-borrow labels word label plain is none v (own other r _ e h _) = own-borrow other label (sym e ∙ is)
no-borrow labels word label plain is none v (borrow other r _ e h _) = none r (subst (λ l. IsThing labels l (thing.Resource r)) (append_cancel_left (codes "borrow:") other label (sym e ∙ is)) h)
no-borrow labels word label plain is none v (labelled _ _ without h) = without label is

-- A word that is the label of no value is none.
pub no-value : (labels : Labelling) (word : Word) → IsNoPrimitive word → HasNoPrefix (codes "own:") word → HasNoPrefix (codes "borrow:") word → SayNone (λ v. IsThing labels word (thing.Value v)) → SayNone (IsValue labels word)
no-value labels word plain not_own not_borrow none v (primitive p e _) = plain p e
no-value labels word plain not_own not_borrow none v (own other r _ e h _) = not_own other e
no-value labels word plain not_own not_borrow none v (borrow other r _ e h _) = not_borrow other e
no-value labels word plain not_own not_borrow none v (labelled _ _ _ h) = none v h

-- A pair whose second word is no value.
pub no-field : (labels : Labelling) (word name ty : Word) → IsPair word name ty → SayNone (IsValue labels ty) → (other : Name) → SayNone (IsField labels word other)
no-field labels word name ty is none other v h = none v (subst (λ t. IsValue labels t v) (split-once 61 word other h.0 name ty h.1 is).1 h.2)

-- A word that is no pair.
pub no-pair : (labels : Labelling) (word : Word) → HasNoPair word → (other : Name) → SayNone (IsField labels word other)
no-pair labels word lacks other v h = no-split 61 word other h.0 lacks h.1

-- A pair whose second word is no value is no case.
pub no-case : (labels : Labelling) (word name ty : Word) → IsPair word name ty → SayNone (IsValue labels ty) → (other : Name) → SayNone (IsCase labels word other)
no-case labels word name ty is none other None h = no-split 61 word name ty h.0 is
no-case labels word name ty is none other (Some v) h = no-field labels word name ty is none other v h

-- A thing that is no item.
pub no-item-of : (labels : Labelling) (label : Word) (t : Thing) → IsThing labels label t → item_of t ≡ None → SayNone (IsLabelledItem labels label)
no-item-of labels label t is none item h =
    let e : None ≡ Some item = sym none ∙ ap item_of (one-thing labels label t h.0 is h.1) ∙ h.2 in cc

pub no-thing-item : (labels : Labelling) (label : Word) → SayNone (IsThing labels label) → SayNone (IsLabelledItem labels label)
no-thing-item labels label none item h = none h.0 h.1

-- What is no value after `value:` is no item.
pub no-value-item : (labels : Labelling) (word rest : Word) → IsNoPrimitive word → word ≡ codes "value:" ++ rest → SayNone (IsValue labels rest) → SayNone (IsItem labels word)
no-value-item labels word rest plain is none item (items.primitive p e _) = plain p e
no-value-item labels word rest plain is none item (items.value other v _ e h _) = none v (subst (λ l. IsValue labels l v) (append_cancel_left (codes "value:") other rest (sym e ∙ is)) h)
no-value-item labels word rest plain is none item (items.type_of other k _ e h _) = value-type rest other (sym is ∙ e)
no-value-item labels word rest plain is none item (items.labelled _ without _ h) = without rest is

pub no-type-item : (labels : Labelling) (word rest : Word) → IsNoPrimitive word → word ≡ codes "type:" ++ rest → SayNone (IsLabelledItem labels rest) → SayNone (IsItem labels word)
no-type-item labels word rest plain is none item (items.primitive p e _) = plain p e
no-type-item labels word rest plain is none item (items.value other v _ e h _) = value-type other rest (sym e ∙ is)
no-type-item labels word rest plain is none item (items.type_of other k _ e h _) = none k (subst (λ l. IsLabelledItem labels l k) (append_cancel_left (codes "type:") other rest (sym e ∙ is)) h)
no-type-item labels word rest plain is none item (items.labelled _ _ without h) = without rest is

pub no-label-item : (labels : Labelling) (word : Word) → IsNoPrimitive word → HasNoPrefix (codes "value:") word → HasNoPrefix (codes "type:") word → SayNone (IsLabelledItem labels word) → SayNone (IsItem labels word)
no-label-item labels word plain not_value not_type none item (items.primitive p e _) = plain p e
no-label-item labels word plain not_value not_type none item (items.value other v _ e h _) = not_value other e
no-label-item labels word plain not_value not_type none item (items.type_of other k _ e h _) = not_type other e
no-label-item labels word plain not_value not_type none item (items.labelled _ _ _ h) = none item h

-- A source whose label is no interface.
pub no-dotted-source : (labels : Labelling) (source label name : Word) → IsDotted source label name → SayNone (λ i. IsThing labels label (thing.Interface i))
    → (i : InterfaceId) (o : Option Name) → IsSource labels source i o → ⊥
no-dotted-source labels source label name is none i None h = no-split 46 source label name h.0 is
no-dotted-source labels source label name is none i (Some n) h = none i (subst (λ l. IsThing labels l (thing.Interface i)) (split-once 46 source h.0 n label name h.1 is).0 h.2)

pub no-plain-source : (labels : Labelling) (source : Word) → HasNoDot source → SayNone (λ i. IsThing labels source (thing.Interface i))
    → (i : InterfaceId) (o : Option Name) → IsSource labels source i o → ⊥
no-plain-source labels source plain none i None h = none i h.1
no-plain-source labels source plain none i (Some n) h = no-split 46 source h.0 n plain h.1

-- A pair whose second word is no source.
pub no-use : (labels : Labelling) (word name source : Word) → IsPair word name source → ((i : InterfaceId) (o : Option Name) → IsSource labels source i o → ⊥)
    → (local : Name) → SayNone (IsUse labels word local)
no-use labels word name source is none local u h = none u.interface u.name (subst (λ s. IsSource labels s u.interface u.name) (split-once 61 word local h.0 name source h.1 is).1 h.2)

pub no-use-pair : (labels : Labelling) (word : Word) → HasNoPair word → (local : Name) → SayNone (IsUse labels word local)
no-use-pair labels word lacks local u h = no-split 61 word local h.0 lacks h.1

-- Words that add nothing.
pub no-used : (labels : Labelling) (word rest : Word) → word ≡ codes "use:" ++ rest → ((local : Name) → SayNone (IsUse labels rest local)) → (old : Found) → SayNone (AddsListed labels word old)
no-used labels word rest is none old new (items.used other local u e h _) = none local u (subst (λ l. IsUse labels l local u) (append_cancel_left (codes "use:") other rest (sym e ∙ is)) h)
no-used labels word rest is none old new (items.item name text k without _ _ _) = without rest is

pub no-listed-pair : (labels : Labelling) (word : Word) → HasNoPrefix (codes "use:") word → HasNoPair word → (old : Found) → SayNone (AddsListed labels word old)
no-listed-pair labels word plain lacks old new (items.used other local u e h _) = plain other e
no-listed-pair labels word plain lacks old new (items.item name text k _ is _ _) = no-split 61 word name text lacks is

pub no-listed-item : (labels : Labelling) (word name text : Word) → HasNoPrefix (codes "use:") word → IsPair word name text → SayNone (IsItem labels text) → (old : Found) → SayNone (AddsListed labels word old)
no-listed-item labels word name text plain is none old new (items.used other local u e h _) = plain other e
no-listed-item labels word name text plain is none old new (items.item n t k _ h i _) = none k (subst (λ l. IsItem labels l k) (split-once 61 word n t name text h is).1 i)

-- A payload that is no value.
pub no-payload : (labels : Labelling) (word w : Word) → w ≡ word → word ≢ codes "_" → SayNone (IsValue labels w) → SayNone (IsPayload labels word)
no-payload labels word w same plain none None h = plain h
no-payload labels word w same plain none (Some v) h = none v (subst (λ x. IsValue labels x v) (sym same) h.1)

-- What is no value is no result.
pub no-returned : (labels : Labelling) (words : List (Bor (List ℕ))) (d : Bor (List ℕ)) → 1 ≤ length words → length words < 2 → SayNone (IsValue labels ((get_or words 0 d).now))
    → SayNone (IsReturned labels (spelled words))
no-returned labels [] d some one none v h = absurd (few some)
  where
    few : 1 ≤ 0 → ⊥
    few l = omega arith
no-returned labels (w ∷ []) d some one none None h = h
no-returned labels (w ∷ []) d some one none (Some v) h = none v h
no-returned labels (w ∷ x ∷ words) d some one none v h = h
