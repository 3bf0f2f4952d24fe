-- Members of a class agree, where each two entries of it do.
use Rattle.std.proofs.Common.{◌≡◌, ℕ, ◌<◌, true, List, ◌⊎◌, inl, inr, length, Some, slice_get, sym, ap, ◌∙◌, subst, arith}
use Rattle.std.proofs.lemmas.Bool.{cases_order}
use Rattle.std.proofs.lemmas.Option.{slice_get_within}
use Rattle.wac_types_shapes.specs.primitives.Name.{Name}
use Rattle.wac_types_shapes.specs.primitives.Tree.{TypeTree, absent, instance, instance_item}
use Rattle.wac_types_collection.specs.collection.Collection.{Collection}
use Rattle.wac_types_collection.specs.subtyping.Called.{Called}
use Rattle.wac_merge_classes.specs.entries.Agreement.{Agree, compared}
use Rattle.wac_merge_agreement.specs.private.agreeing.Apart.{AllAgree}
use Rattle.wac_merge_classes.specs.entries.Classes.{AreClasses, Entry, by_names, same_class}
use Rattle.wac_merge_agreement.specs.private.agreement.Compared.{AreCompared}
use Rattle.wac_merge_tables.specs.private.tables.Nodes.{Item, Node, tree_at}
use Rattle.wac_merge_tables.specs.private.tables.Nodes as nodes
use Rattle.wac_merge_classes.proofs.lemmas.entries.ClassFacts.{class-sym, class-trans}
use Rattle.wac_merge_classes.proofs.lemmas.terms.Alike.{agree_at, agree_itself, compared_alike}
use Rattle.wac_merge_classes.proofs.lemmas.entries.Lists.{some-at}

-- agreement goes both ways
pub agree_turned : (t u : TypeTree Called) → Agree t u → Agree u t
agree_turned (instance f) (instance g) h = λ n. turned (f n) (g n) (λ k. agree_turned (f n) (g n) k) (h n) where
  turned : (a b : TypeTree Called) → (Agree a b → Agree b a) → (a ≡ absent) ⊎ ((b ≡ absent) ⊎ Agree a b) → (b ≡ absent) ⊎ ((a ≡ absent) ⊎ Agree b a)
  turned a b turn (inl none) = inr (inl none)
  turned a b turn (inr (inl none)) = inl none
  turned a b turn (inr (inr k)) = inr (inr (turn k))
agree_turned (instance f) u h = subst (λ z. Agree z (instance f)) h (agree_itself (instance f))
agree_turned (instance_item t) (instance_item u) h = agree_turned t u h
agree_turned (instance_item t) u h = subst (λ z. Agree z (instance_item t)) h (agree_itself (instance_item t))
agree_turned t u h = subst (λ z. Agree z t) h (agree_itself t)

-- the later of two entries of one class agrees with the earlier, where all items of one class do
module _ (ns : List Node) (c : Collection) (es : List Entry) (items : List Item) (numbers positions : List ℕ) (names : List (Name × ℕ)) (classes : AreClasses by_names es numbers positions names)
    (counted : length items ≡ length es) (are : AreCompared ns c es items) (all : AllAgree ns items numbers) where
  later_agrees : (i j : ℕ) (e f : Entry) → i < j → slice_get es i ≡ Some e → slice_get es j ≡ Some f → same_class by_names es e.name f.name ≡ true → Agree (compared by_names c es e.name e.kind) (compared by_names c es f.name f.kind)
  later_agrees i j e f less at there one =
      let low : i < length es = slice_get_within es i e at in
      let below : j < length es = slice_get_within es j f there in
      let x = some-at items i (omega (arith, low, counted)) in
      let y = some-at items j (omega (arith, below, counted)) in
      let k = some-at numbers i (omega (arith, low, classes.counted)) in
      let l = some-at numbers j (omega (arith, below, classes.counted)) in
      let same : k.0 ≡ l.0 = (classes.told_apart i j k.0 l.0 e f at there k.1 l.1).1 one in
      agree_at (compared by_names c es e.name e.kind) (compared by_names c es f.name f.kind) (nodes.item_tree (tree_at ns) x.0) (nodes.item_tree (tree_at ns) y.0)
      (sym (are i e x.0 at x.1).is) (sym (are j f y.0 there y.1).is) (all i j k.0 x.0 y.0 less (slice_get_within items j y.0 y.1) x.1 y.1 k.1 (l.1 ∙ ap Some (sym same)))

  -- so any two members of a class agree
  pub members_agree : (class : Name) (i j : ℕ) (e f : Entry) → slice_get es i ≡ Some e → slice_get es j ≡ Some f → same_class by_names es class e.name ≡ true → same_class by_names es class f.name ≡ true
      → Agree (compared by_names c es class e.kind) (compared by_names c es class f.kind)
  members_agree class i j e f at there first second = elim (cases_order i j) [
    | inr (inl less) ↦ around (later_agrees i j e f less at there one)
    | inr (inr more) ↦ around (agree_turned (compared by_names c es f.name f.kind) (compared by_names c es e.name e.kind) (later_agrees j i f e more there at (class-sym by_names es e.name f.name one)))
    | inl same ↦
        let equal : e ≡ f = some_same e f (sym at ∙ ap (slice_get es) same ∙ there) in
        subst (λ (z : Entry). Agree (compared by_names c es class e.kind) (compared by_names c es class z.kind)) equal (agree_itself (compared by_names c es class e.kind))
  ] where
    one : same_class by_names es e.name f.name ≡ true
    one = class-trans by_names es e.name class f.name (class-sym by_names es class e.name first) second

    around : Agree (compared by_names c es e.name e.kind) (compared by_names c es f.name f.kind) → Agree (compared by_names c es class e.kind) (compared by_names c es class f.kind)
    around h = agree_at (compared by_names c es class e.kind) (compared by_names c es class f.kind) (compared by_names c es e.name e.kind) (compared by_names c es f.name f.kind)
        (compared_alike c es class e.name first e.kind) (compared_alike c es class f.name second f.kind) h

    some_same : (a b : Entry) → Some a ≡ Some b → a ≡ b
    some_same a b same = cc
