-- Facts about items and interfaces.
use Rattle.std.proofs.Common.{◌≡◌, ◌≢◌, ◌<◌, ◌+◌, ◌∙◌, ◌++◌, ◌∷◌, [], refl, ap, sym, subst, arith, ℕ, List, Option, Some, None, Result, Ok, Err, inl, inr, codes, length, length-append}
use Rattle.std.specs.Prelude.{MatchOption}
use Rattle.std.specs.Borrow.{Bor}
use Rattle.std.specs.Option.{option_copied}
use Rattle.std.proofs.lemmas.List.{map_push}
use Rattle.wac_types_shapes.specs.shapes.Named.{named_pairs, used_pairs}
use Rattle.wac_types_shapes.specs.declared.shapes.component.InterfaceId.{InterfaceId}
use Rattle.wac_types_shapes.specs.declared.shapes.component.ItemKind.{ItemKind}
use Rattle.wac_types_shapes.specs.declared.shapes.component.Interface.{Interface}
use Rattle.wac_types_shapes.specs.declared.shapes.component.World.{World}
use Rattle.wac_script.specs.lines.Words.{Word, spelled, HasNoPrefix, WordByWord}
use Rattle.wac_script.specs.labels.Things.{Labelling}
use Rattle.wac_script.specs.labels.Values.{IsNoPrimitive}
use Rattle.wac_types_shapes.specs.primitives.Name.{Name}
use Rattle.wac_types_shapes.specs.declared.shapes.component.UsedType.{UsedType}
use Rattle.wac_script.specs.labels.Items as items
use Rattle.wac_script.specs.labels.Items.{IsItem, IsLabelledItem, labelled, Found, AddsListed, AreListed, IsId, IsInterface, IsWorldId, IsWorld}
use Rattle.wac_script.proofs.ReadLemmas.{same-first, same-rest}
use Rattle.wac_script.proofs.NameLemmas.{no-label-item}
use Rattle.wac_script.specs.private.Unread.{Reads}
use Rattle.wac_script.specs.declared.labels.faults.WordError.{WordError}
use Rattle.wac_script.specs.declared.labels.items.Listed.{Listed}

-- The item of a label.
pub labelled-items : (labels : Labelling) (word : Word) (r : Result ItemKind WordError) → IsNoPrimitive word → HasNoPrefix (codes "value:") word → HasNoPrefix (codes "type:") word
    → Reads (IsLabelledItem labels word) r → Reads (IsItem labels word) r
labelled-items labels word (Ok item) plain no_value no_type h = labelled plain no_value no_type h
labelled-items labels word (Err e) plain no_value no_type h = elim h [ inl m ↦ inl m | inr none ↦ inr (no-label-item labels word plain no_value no_type none) ]

-- One more used type.
pub uses-push : (out more : List (Bor (List ℕ) × InterfaceId × Option (Bor (List ℕ)))) (u : Bor (List ℕ) × InterfaceId × Option (Bor (List ℕ)))
    → more ≡ out ++ u ∷ [] → used_pairs more ≡ used_pairs out ++ (u.0.now, record { interface = u.1; name = option_copied u.2 }) ∷ []
uses-push out more u e = ap used_pairs e ∙ map_push (λ x. (x.0.now, record { interface = x.1; name = option_copied x.2 })) out u

-- The id of a word.
id-said : (word : Word) (o : Option (Bor (List ℕ))) → MatchOption o (word ≡ codes "_") (λ w. (w.now ≡ word) × (word ≢ codes "_")) → IsId word (option_copied o)
id-said word None h = h
id-said word (Some w) h = (h.1, h.0)

-- An interface of words.
pub interface-said : (labels : Labelling) (id : Word) (words : List (Bor (List ℕ))) (l : Listed) (o : Option (Bor (List ℕ))) (i : Interface)
    → MatchOption o (id ≡ codes "_") (λ w. (w.now ≡ id) × (id ≢ codes "_"))
    → AreListed labels (spelled words) (used_pairs l.uses.items) (named_pairs l.items.items)
    → (i.id ≡ option_copied o) × (i.uses ≡ used_pairs l.uses.items) × (i.exports ≡ named_pairs l.items.items) → IsInterface labels id (spelled words) i
interface-said labels id words l o i named listed built = record {
  named = subst (λ x. IsId id x) (sym built.0) (id-said id o named);
  listed = subst (λ us. AreListed labels (spelled words) us i.exports) (sym built.1) (subst (λ es. AreListed labels (spelled words) (used_pairs l.uses.items) es) (sym built.2) listed);
}

-- The words after the id are the same.
pub one-rest : (words : List Word) (a b : Option Name) (x y : List Word) → IsWorldId words a x → IsWorldId words b y → x ≡ y
one-rest words (Some a) (Some b) x y h k = same-rest _ _ x y (sym h ∙ k)
one-rest [] (Some a) None x y h k = cc
one-rest (w ∷ words) (Some a) None x y h k = absurd (k.0 a (same-first w (codes "id:" ++ a) words x h))
one-rest [] None (Some b) x y h k = cc
one-rest (w ∷ words) None (Some b) x y h k = absurd (h.0 b (same-first w (codes "id:" ++ b) words y k))
one-rest words None None x y h k = sym h.1 ∙ k.1

-- Words add as many used types to one as to another.
same-step : (labels : Labelling) (word : Word) (a b c d : Found) → length a.uses ≡ length b.uses → AddsListed labels word a c → AddsListed labels word b d → length c.uses ≡ length d.uses
same-step labels word a b c d same (items.used _ l u _ _ e) (items.used _ m v _ _ f) =
    ap (λ x. length x.uses) e ∙ length-append a.uses ((l, u) ∷ []) ∙ ap (λ n. n + 1) same ∙ sym (length-append b.uses ((m, v) ∷ [])) ∙ sym (ap (λ x. length x.uses) f)
same-step labels word a b c d same (items.used rest _ _ is _ _) (items.item _ _ _ without _ _ _) = absurd (without rest is)
same-step labels word a b c d same (items.item _ _ _ without _ _ _) (items.used rest _ _ is _ _) = absurd (without rest is)
same-step labels word a b c d same (items.item _ _ _ _ _ _ e) (items.item _ _ _ _ _ _ f) = ap (λ x. length x.uses) e ∙ same ∙ sym (ap (λ x. length x.uses) f)

same-uses : (labels : Labelling) (words : List Word) (a b c d : Found) → length a.uses ≡ length b.uses → WordByWord (AddsListed labels) words a c → WordByWord (AddsListed labels) words b d
    → length c.uses ≡ length d.uses
same-uses labels [] a b c d same h k = ap (λ x. length x.uses) h ∙ same ∙ sym (ap (λ x. length x.uses) k)
same-uses labels (word ∷ words) a b c d same h k = same-uses labels words h.0 k.0 c d (same-step labels word a b h.0 k.0 same h.1 k.1) h.2 k.2

-- Words that list a used type list none without.
pub uses-listed : (labels : Labelling) (words : List Word) (uses : List (Name × UsedType)) (items : List (Name × ItemKind)) → AreListed labels words uses items → 0 < length uses
    → (others : List (Name × ItemKind)) → AreListed labels words [] others → ⊥
uses-listed labels words uses items listed some others h =
    let same = same-uses labels words (record { uses = []; items = [] }) (record { uses = []; items = [] }) (record { uses = uses; items = items }) (record { uses = []; items = others }) refl listed h in
    omega (arith, same, some)

-- A list that is not empty has used types.
pub used-some : (uses : List (Bor (List ℕ) × InterfaceId × Option (Bor (List ℕ)))) → 0 < length uses → 0 < length (used_pairs uses)
used-some [] some = some
used-some (u ∷ uses) some = omega arith

-- A world of words.
pub world-said : (labels : Labelling) (imports exports rest : List Word) (o : Option Name) (l m : Listed) (w : World) → IsWorldId imports o rest
    → AreListed labels rest (used_pairs l.uses.items) (named_pairs l.items.items) → AreListed labels exports (used_pairs m.uses.items) (named_pairs m.items.items) → m.uses.items ≡ []
    → (w.id ≡ o) × (w.uses ≡ used_pairs l.uses.items) × (w.imports ≡ named_pairs l.items.items) × (w.exports ≡ named_pairs m.items.items) → IsWorld labels imports exports w
world-said labels imports exports rest o l m w id listed passed none built = (
  rest,
  subst (λ x. IsWorldId imports x rest) (sym built.0) id,
  subst (λ us. AreListed labels rest us w.imports) (sym built.1) (subst (λ es. AreListed labels rest (used_pairs l.uses.items) es) (sym built.2) listed),
  subst (λ es. AreListed labels exports [] es) (sym built.3) (subst (λ us. AreListed labels exports (used_pairs us) (named_pairs m.items.items)) none passed),
)
