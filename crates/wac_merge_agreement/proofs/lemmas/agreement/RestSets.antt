-- The sets of numbers to which entries lead, as they grow.
use Rattle.std.proofs.Common.{◌≡◌, ◌≢◌, ℕ, zero, suc, ◌<◌, true, Contains, List, [], ◌∷◌, drop, length, Option, Some, None, slice_get, refl, ap, sym, ◌∙◌, subst, inl, inr, ◌⊎◌, arith}
use Rattle.std.specs.Prelude.{◌↔◌, nat_lt}
use Rattle.std.specs.Ordering.{nat_cmp}
use Rattle.std.specs.BTreeSet.{BTreeSet, insert_key}
use Rattle.std.proofs.Math.ListN.{set}
use Rattle.std.proofs.lemmas.Bool.{and_parts, lt-ltb}
use Rattle.std.proofs.lemmas.Bool.Decides.{eqb_tells, nat_tests}
use Rattle.wac_types_shapes.specs.primitives.Name.{Name, option_case}
use Rattle.wac_types_collection.specs.collection.Collection.{Collection, IsWellFormed, HasInterface, item_at, holds_type, holds_all, used_types}
use Rattle.wac_types_collection.specs.wide.Wide.{AreThere, UsesWidely, by_itself, by_instance, each_once, wide_uses}
use Rattle.wac_types_collection.proofs.lemmas.wide.Members.{in_none, in_parts, at_in}
use Rattle.wac_types_collection.proofs.lemmas.wide.Once.{each_only}
use Rattle.wac_types_collection.proofs.lemmas.wide.Wide.{wide_law}
use Rattle.wac_types_shapes.specs.declared.shapes.component.Interface.{Interface}
use Rattle.wac_types_shapes.specs.declared.shapes.component.InterfaceId.{InterfaceId}
use Rattle.wac_types_shapes.specs.declared.shapes.component.UsedType.{UsedType}
use Rattle.wac_types_shapes.specs.declared.shapes.component.«Type».TheVariants as ty
use Rattle.wac_merge_classes.specs.entries.Bindings.{ClassBindings}
use Rattle.wac_edges.specs.cycles.Cycles.{IsStep}
use Rattle.wac_merge_classes.specs.entries.Classes.{Entry}
use Rattle.wac_merge_tables.specs.private.tables.Nodes.{Node, Item, and_optional}
use Rattle.wac_edges.specs.private.cycles.Numbers.{Has}
use Rattle.wac_edges.specs.private.Arranging.{with_all}
use Rattle.wac_merge_agreement.specs.private.agreement.Resting.{EntryLeads, Gains, ItemLeads, classes_used, interface_class, used_classes}
use Rattle.wac_edges.proofs.KeySets.{has_in, in_has, has_all, all_old, all_new}
use Rattle.wac_edges.proofs.lemmas.cycles.Numbers.{has_head, has_tail, has_split, has_insert, has_old, has_new}
use Rattle.wac_merge_classes.proofs.lemmas.entries.Lists.{set-cases}
use Rattle.wac_merge_classes.proofs.lemmas.entries.Places.{uses_held}

-- ---- numbers of lists
-- ---- used interfaces
module _ (c : Collection) where
  pub there_if_held : (i : InterfaceId) → holds_type c (ty.Interface i) ≡ true → HasInterface c i
  there_if_held i h = under h where
    under : nat_lt i.0 (length c.interfaces) ≡ true → i.0 < length c.interfaces
    under h = grind (arith, nat_tests)

  used_held : (us : List (Name × UsedType)) → holds_all c (used_types us) ≡ true → (e : Name × UsedType) → Contains us e → HasInterface c e.1.interface
  used_held [] h e w = absurd (in_none e w)
  used_held (x ∷ us) h e w =
      let p = and_parts (holds_type c (ty.Interface x.1.interface)) (holds_all c (used_types us)) h in
      elim (in_parts x e us w) [
        | inl same ↦ subst (λ (y : Name × UsedType). HasInterface c y.1.interface) (sym same) (there_if_held x.1.interface p.0)
        | inr r ↦ used_held us p.1 e r
      ]

  wide_there : IsWellFormed c → (i k : InterfaceId) → UsesWidely c i k → HasInterface c k
  wide_there wf i _ (by_itself _ n u there) = split (item_at c.interfaces i.0) refl there where
    split : (o : Option Interface) → item_at c.interfaces i.0 ≡ o → Contains (option_case o [] (λ it. it.uses)) (n, u) → HasInterface c u.interface
    split None _ w = absurd (in_none (n, u) w)
    split (Some it) at w = used_held it.uses (uses_held c wf i it at) (n, u) w
  wide_there wf i k (by_instance _ j _ n there further) = wide_there wf j k further

  pub used_widely : IsWellFormed c → (i k : InterfaceId) → Contains (each_once (wide_uses c i)) k → UsesWidely c i k
  used_widely wf i k h = elim (each_only [] (wide_uses c i) k h) [ inl none ↦ absurd (in_none k none) | inr w ↦ (wide_law c wf i k).1 w ]

  pub once_there : IsWellFormed c → (i : InterfaceId) → AreThere c (each_once (wide_uses c i))
  once_there wf i k h = wide_there wf i k (used_widely wf i k h)

  pub used_at : (is : List InterfaceId) → AreThere c is → (i : ℕ) (j : InterfaceId) → slice_get is i ≡ Some j → holds_type c (ty.Interface j) ≡ true
  used_at is there i j at = lt-ltb j.0 (length c.interfaces) (there j (at_in is i j at))

  with_and : (ks ms : List ℕ) (o : Option ℕ) → with_all ks (and_optional o ms) ≡ with_all (with_all ks (and_optional o [])) ms
  with_and ks ms None = refl
  with_and ks ms (Some n) = refl

  pub used_next : (names : List (Name × ℕ)) (is : List InterfaceId) (i : ℕ) (j : InterfaceId) (ks : List ℕ) → slice_get is i ≡ Some j
      → with_all ks (used_classes c names (drop i is)) ≡ with_all (with_all ks (and_optional (interface_class c names j) [])) (used_classes c names (drop (suc i) is))
  used_next names [] i j ks at = cc
  used_next names (e ∷ is) zero j ks at =
      let same : e ≡ j = cc in
      ap (λ (y : InterfaceId). with_all ks (and_optional (interface_class c names y) (used_classes c names is))) same
      ∙ with_and ks (used_classes c names is) (interface_class c names j)
  used_next names (e ∷ is) (suc i) j ks at = used_next names is i j ks at

  -- what an instance leads to
  pub instance_has : (names : List (Name × ℕ)) (i : InterfaceId) (used : List InterfaceId) (R : ℕ → Type 0) (old new : List ℕ) → used ≡ each_once (wide_uses c i)
      → ((b : ℕ) → Has old b ↔ R b) → new ≡ with_all old (used_classes c names used) → (b : ℕ) → Has new b ↔ (R b ⊎ Has (classes_used c names i) b)
  instance_has names i used R old new all reached is b =
      subst (λ (us : List ℕ). Has new b ↔ (R b ⊎ Has us b)) known (subst (λ (ks : List ℕ). Has ks b ↔ (R b ⊎ Has uses b)) (sym is) (to, back)) where
        uses : List ℕ
        uses = used_classes c names used

        known : used_classes c names used ≡ classes_used c names i
        known = ap (used_classes c names) all

        to : Has (with_all old uses) b → R b ⊎ Has uses b
        to h = elim (has_all uses old b h) [ inl o ↦ inl ((reached b).0 o) | inr m ↦ inr (in_has uses b m) ]

        back : R b ⊎ Has uses b → Has (with_all old uses) b
        back (inl r) = all_old uses old b ((reached b).1 r)
        back (inr m) = all_new uses old b (has_in uses b m)

-- ---- a set gains what is another than its own number
pub record IsGaining (own : ℕ) (more old new rest : List ℕ) : Type 0 where
  pub sound : (b : ℕ) → Has new b → Has old b ⊎ ((own ≢ b) × Has more b)
  pub kept : (b : ℕ) → Has old b → Has new b
  pub gained : (b : ℕ) → own ≢ b → Has more b → Has new b ⊎ Has rest b
  pub left : (b : ℕ) → Has rest b → Has more b

pub gain_first : (own : ℕ) (more old rest : List ℕ) → rest ≡ more → IsGaining own more old old rest
gain_first own more old rest is = record { sound = λ b h. inl h; kept = λ b h. h; gained = λ b n h. inr (subst (λ (l : List ℕ). Has l b) (sym is) h); left = λ b h. subst (λ (l : List ℕ). Has l b) is h }

module _ (own : ℕ) (more old new all rest : List ℕ) (k : ℕ) (steps : all ≡ k ∷ rest) (g : IsGaining own more old new all) where
  split : (b : ℕ) → Has all b → (b ≡ k) ⊎ Has rest b
  split b h = has_split b k rest (subst (λ (l : List ℕ). Has l b) steps h)

  behind : (b : ℕ) → Has rest b → Has more b
  behind b h = g.left b (subst (λ (l : List ℕ). Has l b) (sym steps) (has_tail b k rest h))

  here : Has more k
  here = g.left k (subst (λ (l : List ℕ). Has l k) (sym steps) (has_head k k rest refl))

  pub gain_next : (k ≡ own → ⊥) → (newer : List ℕ) → newer ≡ insert_key nat_cmp new k → IsGaining own more old newer rest
  gain_next other newer is = subst (λ (l : List ℕ). IsGaining own more old l rest) (sym is) (record { sound = sound; kept = λ b h. has_old new k b (g.kept b h); gained = gained; left = behind }) where
    sound : (b : ℕ) → Has (insert_key nat_cmp new k) b → Has old b ⊎ ((own ≢ b) × Has more b)
    sound b h = elim (has_insert new k b h) [
      | inl e ↦ inr ((λ s. other (sym e ∙ sym s)), subst (λ (x : ℕ). Has more x) (sym e) here)
      | inr r ↦ g.sound b r
    ]

    gained : (b : ℕ) → own ≢ b → Has more b → Has (insert_key nat_cmp new k) b ⊎ Has rest b
    gained b n h = elim (g.gained b n h) [
      | inl r ↦ inl (has_old new k b r)
      | inr r ↦ elim (split b r) [
        | inl e ↦ inl (subst (λ (x : ℕ). Has (insert_key nat_cmp new k) x) (sym e) (has_new new k))
        | inr s ↦ inr s
      ]
    ]

  pub gain_skip : k ≡ own → IsGaining own more old new rest
  gain_skip same = record { sound = g.sound; kept = g.kept; gained = gained; left = behind } where
    gained : (b : ℕ) → own ≢ b → Has more b → Has new b ⊎ Has rest b
    gained b n h = elim (g.gained b n h) [
      | inl r ↦ inl r
      | inr r ↦ elim (split b r) [
        | inl e ↦ absurd (n (sym same ∙ sym e))
        | inr s ↦ inr s
      ]
    ]

pub gain_all : (own : ℕ) (more old new rest : List ℕ) → rest ≡ [] → IsGaining own more old new rest → Gains own more old new
gain_all own more old new rest none g b = (g.sound b, g.kept b, λ n h. done n h) where
  done : own ≢ b → Has more b → Has new b
  done n h = elim (g.gained b n h) [
    | inl r ↦ r
    | inr r ↦ absurd (has_in [] b (subst (λ (l : List ℕ). Has l b) none r))
  ]

-- ---- one set for each class
set-same : {X : Type 0} (xs : List X) (k : ℕ) (x y : X) → slice_get xs k ≡ Some x → slice_get (set xs k y) k ≡ Some y
set-same [] k x y at = cc
set-same (z ∷ xs) zero x y at = refl
set-same (z ∷ xs) (suc k) x y at = set-same xs k x y at

set-other : {X : Type 0} (xs : List X) (k l : ℕ) (x y : X) → l ≢ k → slice_get xs l ≡ Some x → slice_get (set xs k y) l ≡ Some x
set-other [] k l x y n at = cc
set-other (z ∷ xs) zero zero x y n at = absurd (n refl)
set-other (z ∷ xs) zero (suc l) x y n at = at
set-other (z ∷ xs) (suc k) zero x y n at = at
set-other (z ∷ xs) (suc k) (suc l) x y n at = set-other xs k l x y (λ e. n (ap suc e)) at

module _ (ns : List Node) (c : Collection) (es : List Entry) (xs : List Item) (numbers : List ℕ) (names : List (Name × ℕ)) (bs : ClassBindings) where
  abbrev pub Entries : ℕ → ℕ → ℕ → Type 0
  Entries = EntryLeads ns c es xs numbers names bs

  pub none_leads : (sets : List (BTreeSet ℕ)) → ((a b : ℕ) → IsStep sets a b → ⊥) → (a b : ℕ) → IsStep sets a b ↔ Entries 0 a b
  none_leads sets h a b = (λ l. absurd (h a b l), λ l. let low : l.at < 0 = l.below in absurd (omega (arith, low)))

  module _ (i k : ℕ) (e : Entry) (x : Item) (sets : List (BTreeSet ℕ)) (m new : BTreeSet ℕ) (more : List ℕ)
      (e_at : slice_get es i ≡ Some e) (x_at : slice_get xs i ≡ Some x) (k_at : slice_get numbers i ≡ Some k) (m_at : slice_get sets k ≡ Some m)
      (leads : (b : ℕ) → Has more b ↔ ItemLeads ns c names bs e.kind x b) (gains : Gains k more m.keys new.keys) (before : (a b : ℕ) → IsStep sets a b ↔ Entries i a b) where
    wider : (a b : ℕ) → Entries i a b → Entries (suc i) a b
    wider a b l = record {
      at = l.at;
      entry = l.entry;
      item = l.item;
      below = let low : l.at < i = l.below in omega arith;
      is_entry = l.is_entry;
      is_item = l.is_item;
      is_class = l.is_class;
      other = l.other;
      leads = l.leads;
    }

    to_new : (b : ℕ) → Has new.keys b → Entries (suc i) k b
    to_new b h = elim ((gains b).0 h) [
      | inl old ↦ wider k b ((before k b).0 (m, m_at, old))
      | inr g ↦ record { at = i; entry = e; item = x; below = omega arith; is_entry = e_at; is_item = x_at; is_class = k_at; other = g.0; leads = (leads b).0 g.1 }
    ]

    to : (a b : ℕ) → IsStep (set sets k new) a b → Entries (suc i) a b
    to a b (s, at, h) = elim (set-cases sets k new a s at) [
      | inl (same, is) ↦ subst (λ (y : ℕ). Entries (suc i) y b) (sym same) (to_new b (subst (λ (y : BTreeSet ℕ). Has y.keys b) is h))
      | inr (other, old) ↦ wider a b ((before a b).0 (s, old, h))
    ]

    in_new : (a b : ℕ) → a ≡ k → Has new.keys b → IsStep (set sets k new) a b
    in_new a b same h = (new, ap (slice_get (set sets k new)) same ∙ set-same sets k m new m_at, h)

    of_old : (a b : ℕ) → IsStep sets a b → IsStep (set sets k new) a b
    of_old a b (s, at, h) = elim (eqb_tells a k) [
      | inl (t, same) ↦
          let some : Some s ≡ Some m = sym at ∙ (ap (slice_get sets) same ∙ m_at) in
          let is : s ≡ m = cc in
          in_new a b same ((gains b).1 (subst (λ (y : BTreeSet ℕ). Has y.keys b) is h))
      | inr (t, other) ↦ (s, set-other sets k a s new other at, h)
    ]

    of_this : (a b : ℕ) → (l : Entries (suc i) a b) → l.at ≡ i → IsStep (set sets k new) a b
    of_this a b l is =
        let some_e : Some l.entry ≡ Some e = sym l.is_entry ∙ (ap (slice_get es) is ∙ e_at) in
        let some_x : Some l.item ≡ Some x = sym l.is_item ∙ (ap (slice_get xs) is ∙ x_at) in
        let some_k : Some a ≡ Some k = sym l.is_class ∙ (ap (slice_get numbers) is ∙ k_at) in
        let same_e : l.entry ≡ e = cc in
        let same_x : l.item ≡ x = cc in
        let same_k : a ≡ k = cc in
        let led : ItemLeads ns c names bs e.kind x b =
        subst (λ (y : Item). ItemLeads ns c names bs e.kind y b) same_x (subst (λ (y : Entry). ItemLeads ns c names bs y.kind l.item b) same_e l.leads) in
        in_new a b same_k ((gains b).2 (λ s. l.other (same_k ∙ s)) ((leads b).1 led))

    back : (a b : ℕ) → Entries (suc i) a b → IsStep (set sets k new) a b
    back a b l = elim (eqb_tells l.at i) [
      | inl (t, same) ↦ of_this a b l same
      | inr (t, other) ↦
          let low : l.at < suc i = l.below in
          of_old a b ((before a b).1 (record {
            at = l.at;
            entry = l.entry;
            item = l.item;
            below = omega (arith, other);
            is_entry = l.is_entry;
            is_item = l.is_item;
            is_class = l.is_class;
            other = l.other;
            leads = l.leads;
          }))
    ]

    -- one more entry leads on
    pub leads_next : (a b : ℕ) → IsStep (set sets k new) a b ↔ Entries (suc i) a b
    leads_next a b = (to a b, back a b)
