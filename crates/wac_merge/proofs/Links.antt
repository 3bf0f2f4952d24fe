-- Links generate the classes.
use Rattle.std.proofs.Common.{◌≡◌, ℕ, true, ◌&&◌, List, slice_get, Some, sym, ap, ◌∙◌, subst, inl, inr}
use Rattle.std.proofs.lemmas.Bool.{and_from, and_parts}
use Rattle.wac_types_shapes.specs.primitives.Name.{Name, same_name}
use Rattle.wac_types_shapes.proofs.lemmas.shapes.Names.{same_name-true, same_name-refl}
use Rattle.wac_merge_classes.specs.entries.Classes.{Entry, NameRules, by_names, is_instance, names_instance, same_class, IsLink, one_name, one_track, IsLinked, link, chain, ClassLaws}
use Rattle.wac_merge_classes.proofs.lemmas.entries.Canonical.{canonical-alike}
use Rattle.wac_merge_classes.proofs.lemmas.entries.Lists.{any-at, any-found}
use Rattle.wac_merge_classes.proofs.lemmas.entries.ClassFacts.{class-parts, class-from, class-refl, class-of_same, class-sym, class-trans}

module _ (rules : NameRules) (es : List Entry) where
  -- an instance's name names an instance
  instance-at : (i : ℕ) (a : Entry) → slice_get es i ≡ Some a → is_instance a.kind ≡ true → names_instance es a.name ≡ true
  instance-at i a at t = any-at (λ e. same_name e.name a.name && is_instance e.kind) es i a at (and_from (same_name a.name a.name) (is_instance a.kind) (same_name-refl a.name) t)

  -- there are entries at both positions, of one class
  record AreOne (i j : ℕ) : Type 0 where
    pub first : Entry
    pub second : Entry
    pub first_at : slice_get es i ≡ Some first
    pub second_at : slice_get es j ≡ Some second
    pub one : same_class rules es first.name second.name ≡ true

  of-link : (i j : ℕ) (a b : Entry) → slice_get es i ≡ Some a → slice_get es j ≡ Some b → IsLink rules a b → same_class rules es a.name b.name ≡ true
  of-link i j a b at bt (one_name e) = class-of_same rules es a.name b.name e
  of-link i j a b at bt (one_track s t e) = class-from rules es a.name b.name (record { track = e; first = instance-at i a at s; second = instance-at j b bt t })

  of-linked : (i j : ℕ) → IsLinked rules es i j → AreOne i j
  of-linked _ _ (link i j a b at bt l) = record { first = a; second = b; first_at = at; second_at = bt; one = of-link i j a b at bt l }
  of-linked _ _ (chain i j k l m) =
      let p = of-linked i j l in
      let q = of-linked j k m in
      let some : Some p.second ≡ Some q.first = sym p.second_at ∙ q.first_at in
      let same : p.second ≡ q.first = cc in
      record {
        first = p.first;
        second = q.second;
        first_at = p.first_at;
        second_at = q.second_at;
        one = class-trans rules es p.first.name q.first.name q.second.name (subst (λ (e : Entry). same_class rules es p.first.name e.name ≡ true) same p.one) q.one;
      }

  -- an entry that is linked to an instance of its name
  record HasInstance (i : ℕ) (n : Name) : Type 0 where
    pub at : ℕ
    pub entry : Entry
    pub there : slice_get es at ≡ Some entry
    pub named : entry.name ≡ n
    pub instance : is_instance entry.kind ≡ true

  instance-of : (i : ℕ) (n : Name) → names_instance es n ≡ true → HasInstance i n
  instance-of i n t =
      let w = any-found (λ e. same_name e.name n && is_instance e.kind) es t in
      let p = and_parts (same_name w.1.name n) (is_instance w.1.kind) w.3 in
      record { at = w.0; entry = w.1; there = w.2; named = same_name-true w.1.name n p.0; instance = p.1 }

  linked-of : (i j : ℕ) (a b : Entry) → slice_get es i ≡ Some a → slice_get es j ≡ Some b → same_class rules es a.name b.name ≡ true → IsLinked rules es i j
  linked-of i j a b at bt t = elim (class-parts rules es a.name b.name t) [
    | inl e ↦ link i j a b at bt (one_name e)
    | inr o ↦
        let p = instance-of i a.name o.first in
        let q = instance-of j b.name o.second in
        let track : rules.track p.entry.name ≡ rules.track q.entry.name = ap rules.track p.named ∙ o.track ∙ sym (ap rules.track q.named) in
        chain i p.at j (link i p.at a p.entry at p.there (one_name (sym p.named)))
        (chain p.at q.at j (link p.at q.at p.entry q.entry p.there q.there (one_track p.instance q.instance track)) (link q.at j q.entry b q.there bt (one_name q.named)))
  ]

  -- the class of two entries, by those that are there
  class-of_linked : (i j : ℕ) (a b : Entry) → slice_get es i ≡ Some a → slice_get es j ≡ Some b → IsLinked rules es i j → same_class rules es a.name b.name ≡ true
  class-of_linked i j a b at bt l =
      let p = of-linked i j l in
      let some : Some p.first ≡ Some a = sym p.first_at ∙ at in
      let other : Some p.second ≡ Some b = sym p.second_at ∙ bt in
      let x : p.first ≡ a = cc in
      let y : p.second ≡ b = cc in
      sym (λ k. same_class rules es (x k).name (y k).name) ∙ p.one

pub laws : ClassLaws
laws = record {
  reflexive = class-refl by_names;
  symmetric = class-sym by_names;
  transitive = class-trans by_names;
  linked = λ es i j a b at bt. (class-of_linked by_names es i j a b at bt, linked-of by_names es i j a b at bt);
  canonical_alike = λ es a b h g t. canonical-alike es a b t h g;
}
