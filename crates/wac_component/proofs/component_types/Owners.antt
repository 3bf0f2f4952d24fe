-- One resource under several exports: which of them names it.
use Rattle.std.proofs.Common.{◌≡◌, ◌≢◌, List, [], ◌∷◌, None, codes, refl, ap, sym, ◌∙◌, true, false, Bool, T, ◌⊎◌, inl, inr, ⊎_elim, subst, ◌==◌, ◌||◌, if◌then◌else◌}
use Rattle.std.specs.List.{AllByRecursion}
use Rattle.wac_component.proofs.component_types.Cases.{names1, names2, split, split2}
use Rattle.wac_component.proofs.component_types.Terms.{no_module_type, context_after, component_eq, instance_eq, of_type, none, inst, eqr, item_in, export_of, r, x, path, path2, alias_of, maker, defined}
use Rattle.wac_component.proofs.component_types.Wrong.{fresh_if, seen_inside_true}
use Rattle.wac_types_shapes.specs.primitives.Name.{Name, same_name}
use Rattle.wac_types_shapes.specs.primitives.Tree.{exported, Place, position, named, Leaf, Tree, absent, resource, instance, component, fresh, type_equal, instance_item}
use Rattle.wac_component.specs.Parts.{Part, parts, component_part, instantiate_part, exports_part, import_part, export_part}
use Rattle.wac_component.specs.Context.{items_named}
use Rattle.wac_component.specs.Open.{nowhere, inward, bound_here, resource_at}
use Rattle.wac_component.specs.ResourceNames.{component_type, is_made, is_export_at, named_first, resource_in, seen_inside}
use Rattle.wac_component.specs.Owners.{IsOwner, IsTypeByOwners, exported_resource, listings_of, leads, LeadsNowhere, comes_first, first_name}
use Rattle.wac_binary.specs.declared.sorts.Sort.TheVariants as s
use Rattle.wac_binary.specs.declared.sorts.Description.TheVariants as e

-- The interface names of the samples are those with a colon.
abbrev pub has_colon : Name → Bool
has_colon [] = false
has_colon (c ∷ n) = (c == 58) || has_colon n

abbrev pub Owner : List Part → List Place → Type 0
Owner ps = IsOwner no_module_type has_colon (parts ps)

abbrev pub OwnersType : List Part → Tree → Type 0
OwnersType ps = IsTypeByOwners no_module_type has_colon (parts ps)

-- The resource at a path of the exports.
abbrev res : List Part → List Place → Leaf
res ps = exported_resource no_module_type (parts ps)

false_true : {A : Type 0} → false ≡ true → A
false_true h = cc h

not_made : {A : Type 0} (l : Leaf) → is_made l ≡ true → nowhere ≡ l → A
not_made l m h = false_true (ap is_made h ∙ m)

-- Each path to a resource goes through the names that there are.
in_exports : (items : Name → Tree) (P : List Place → Type 0) → ((n : Name) (p : List Place) → resource_at (items n) p ≢ nowhere → P (named n ∷ p)) → (p : List Place) → resource_in items p ≢ nowhere → P p
in_exports items P each [] ne = absurd (ne refl)
in_exports items P each (position k ∷ p) ne = absurd (ne refl)
in_exports items P each (named n ∷ p) ne = each n p ne

in_instance : (items : Name → Tree) (P : List Place → Type 0) → ((n : Name) (p : List Place) → resource_at (items n) p ≢ nowhere → P (named n ∷ p)) → (p : List Place) → resource_at (instance_item (instance items)) p ≢ nowhere → P p
in_instance items P each [] ne = absurd (ne refl)
in_instance items P each (position k ∷ p) ne = absurd (ne refl)
in_instance items P each (named n ∷ p) ne = each n p (λ h. ne (ap inward h))

in_type : (l : Leaf) (P : List Place → Type 0) → P [] → (p : List Place) → resource_at (type_equal (resource l)) p ≢ nowhere → P p
in_type l P here [] ne = here
in_type l P here (q ∷ p) ne = absurd (ne refl)

in_nothing : (t : Tree) (P : List Place → Type 0) → t ≡ absent → (p : List Place) → resource_at t p ≢ nowhere → P p
in_nothing t P none_is p ne = absurd (ne (ap (λ u. resource_at u p) none_is))

-- What holds of each name's paths, for the items of names.
abbrev Each : (Name → Tree) → (List Place → Type 0) → Name → Type 0
Each items P c = (p : List Place) → resource_at (items c) p ≢ nowhere → P (named c ∷ p)

one_listing : (ex : Name → Tree) (P : List Place → Type 0) (c d : Name) (zs : Name → Tree) (j : Leaf) → ex c ≡ instance_item (instance zs) → zs d ≡ type_equal (resource j) →
    ((o : Name) → same_name o d ≡ false → zs o ≡ absent) → P (path2 c d) → Each ex P c
one_listing ex P c d zs j ec ed others pd p ne = in_instance zs (λ q. P (named c ∷ q)) (split (Each zs (λ q. P (named c ∷ q))) d
    (λ q he. in_type j (λ w. P (named c ∷ named d ∷ w)) pd q (subst (λ t. resource_at t q ≢ nowhere) ed he))
    (λ o h q. in_nothing (zs o) (λ w. P (named c ∷ named o ∷ w)) (others o h) q)) p (subst (λ t. resource_at t p ≢ nowhere) ec ne)

-- Of exports { a: { m }, b: { n } }, where m and n are resources.
two_listings : (ex : Name → Tree) (P : List Place → Type 0) (a b m n : Name) (xs ys : Name → Tree) (k l : Leaf) →
    ex a ≡ instance_item (instance xs) → ex b ≡ instance_item (instance ys) → xs m ≡ type_equal (resource k) → ys n ≡ type_equal (resource l) →
    ((c : Name) → same_name c a ≡ false → same_name c b ≡ false → ex c ≡ absent) → ((c : Name) → same_name c m ≡ false → xs c ≡ absent) → ((c : Name) → same_name c n ≡ false → ys c ≡ absent) →
    P (path2 a m) → P (path2 b n) → (p : List Place) → resource_in ex p ≢ nowhere → P p
two_listings ex P a b m n xs ys k l ea eb em en others xs_others ys_others pm pn = in_exports ex P (split2 (Each ex P) a b
    (one_listing ex P a m xs k ea em xs_others pm) (one_listing ex P b n ys l eb en ys_others pn)
    (λ c h g p. in_nothing (ex c) (λ q. P (named c ∷ q)) (others c h g) p))

-- Of exports { a, b: { n } }, where a and n are resources.
type_and_listing : (ex : Name → Tree) (P : List Place → Type 0) (a b n : Name) (ys : Name → Tree) (k l : Leaf) →
    ex a ≡ type_equal (resource k) → ex b ≡ instance_item (instance ys) → ys n ≡ type_equal (resource l) →
    ((c : Name) → same_name c a ≡ false → same_name c b ≡ false → ex c ≡ absent) → ((c : Name) → same_name c n ≡ false → ys c ≡ absent) →
    P (path a) → P (path2 b n) → (p : List Place) → resource_in ex p ≢ nowhere → P p
type_and_listing ex P a b n ys k l ea eb en others ys_others pa pn = in_exports ex P (split2 (Each ex P) a b
    (λ p ne. in_type k (λ w. P (named a ∷ w)) pa p (subst (λ t. resource_at t p ≢ nowhere) ea ne)) (one_listing ex P b n ys l eb en ys_others pn)
    (λ c h g p. in_nothing (ex c) (λ q. P (named c ∷ q)) (others c h g) p))

-- The paths to the resources of these parts.
abbrev PathsAre : List Part → List Place → List Place → Type 1
PathsAre ps a b = (P : List Place → Type 0) → P a → P b → (q : List Place) → res ps q ≢ nowhere → P q

abbrev Lead : List Part → List Place → List Place → Bool
Lead ps = leads (listings_of no_module_type (parts ps))

abbrev Nowhere : List Part → List Place → Type 0
Nowhere ps = LeadsNowhere no_module_type (parts ps)

abbrev First : List Part → List Place → List Place → Type 0
First ps p q = T (comes_first has_colon (listings_of no_module_type (parts ps)).context.exports (first_name p) (first_name q))

owner : (ps : List Part) (a b p : List Place) → PathsAre ps a b → is_made (res ps p) ≡ true →
    Lead ps p a ≡ false → Lead ps p b ≡ false → (Nowhere ps a → First ps p a) → (Nowhere ps b → First ps p b) → Owner ps p
owner ps a b p all made la lb fa fb m = (
  λ q h. all (λ w. Lead ps p w ≡ false) la lb q (λ e. not_made (res ps p) made (sym e ∙ h)),
  λ q h. all (λ w. Nowhere ps w → First ps p w) fa fb q (λ e. not_made (res ps p) made (sym e ∙ h)),
)

-- A path that names a resource is an owner.
named_by : (ps : List Part) (paths : List (List Place)) → AllByRecursion (Owner ps) paths → (ex : Name → Tree) (l : Leaf) (p : List Place) → named_first nowhere paths ex l ≡ bound_here exported p → (nowhere ≡ bound_here exported p) ⊎ Owner ps p
named_by ps [] all ex l p h = inl h
named_by ps (q ∷ qs) all ex l p h = by_test (named_by ps qs all.1 ex l p) (is_export_at (resource_in ex q) l.path) h
  where
    by_test : (named_first nowhere qs ex l ≡ bound_here exported p → (nowhere ≡ bound_here exported p) ⊎ Owner ps p) → (t : Bool) → (if t then bound_here exported q else named_first nowhere qs ex l) ≡ bound_here exported p → (nowhere ≡ bound_here exported p) ⊎ Owner ps p
    by_test again true k = inr (subst (Owner ps) (ap (λ z. z.path) k) all.0)
    by_test again false k = again k

no_path : {A : Type 0} (n : Place) (p : List Place) → nowhere ≡ bound_here exported (n ∷ p) → A
no_path n p h = false_true (ap (λ l. is_long l.path) h)
  where
    is_long : List Place → Bool
    is_long [] = false
    is_long (q ∷ qs) = true

-- The resource at a path is fresh in the instance of this name only if that is its owner.
fresh_owner : (ps : List Part) (im ex : Name → Tree) (a m : Name) (l : Leaf) → item_in (ex a) m ≡ fresh →
    ((paths : List (List Place)) → export_of (component_type nowhere paths (context_after ps)) a (m ∷ []) ≡ (if is_export_at (seen_inside a (named_first nowhere paths (items_named (context_after ps).exports) l)) (path m) then fresh else type_equal (resource (seen_inside a (named_first nowhere paths (items_named (context_after ps).exports) l))))) →
    OwnersType ps (component im ex) → Owner ps (path2 a m)
fresh_owner ps im ex a m l e shown (paths, all, is) = ⊎_elim (no_path (named a) (path m)) (λ o. o) (named_by ps paths all (items_named (context_after ps).exports) l (path2 a m) (seen_inside_true a m name (fresh_if (is_export_at (seen_inside a name) (path m)) (seen_inside a name) (sym e ∙ ap (λ t. export_of t a (m ∷ [])) (is nowhere) ∙ shown paths))))
  where
    name : Leaf
    name = named_first nowhere paths (items_named (context_after ps).exports) l

-- 12. An instance that is exported under a label, and then under an interface name: the interface names the resource.
abbrev kv : Name
kv = codes "n:p/kv"

abbrev pub label_first : List Part
label_first = maker ∷ instantiate_part 0 [] ∷ export_part x s.Instance 0 None ∷ export_part kv s.Instance 0 None ∷ []

label_first_paths : PathsAre label_first (path2 x r) (path2 kv r)
label_first_paths P px pk = two_listings _ P x kv r r _ _ _ _ refl refl refl refl (λ n h k. rw (h, k) refl) (λ n h. rw h refl) (λ n h. rw h refl) px pk

pub label_first_owner : Owner label_first (path2 kv r)
label_first_owner = owner label_first (path2 x r) (path2 kv r) (path2 kv r) label_first_paths refl refl refl (λ h. tt) (λ h. tt)

pub label_first_label : Owner label_first (path2 x r) → ⊥
label_first_label h = (h tt).1 (path2 kv r) refl (λ q e. label_first_paths (λ w. Lead label_first (path2 kv r) w ≡ false) refl refl q (λ o. not_made (res label_first (path2 kv r)) refl (sym o ∙ e)))

abbrev pub label_first_tree : Tree
label_first_tree = component none (items_named ((x, inst ((r, eqr exported 1 (path2 kv r)) ∷ [])) ∷ (kv, inst ((r, fresh) ∷ [])) ∷ []))

label_first_typed : (z : Leaf) → component_type z (path2 kv r ∷ []) (context_after label_first) ≡ label_first_tree
label_first_typed z = component_eq refl (names2 x kv (instance_eq (names1 r refl (λ n h. rw h refl))) (instance_eq (names1 r refl (λ n h. rw h refl))) (λ n h k. rw (h, k) refl))

pub label_first_is : OwnersType label_first label_first_tree
label_first_is = (path2 kv r ∷ [], (label_first_owner, tt), λ z. sym (label_first_typed z))

-- .. and not the label.
pub label_first_wrong : (im ex : Name → Tree) → item_in (ex x) r ≡ fresh → OwnersType label_first (component im ex) → ⊥
label_first_wrong im ex e h = label_first_label (fresh_owner label_first im ex x r (bound_here exported (position 1 ∷ position 0 ∷ [])) e (λ paths. refl) h)

-- 13. An instance whose export was taken from another instance, which is exported after it: the other names the resource.
abbrev nb : Name
nb = codes "n:p/b"

abbrev t : Name
t = codes "t"

-- A component that exports the resource that it imports under this name.
abbrev passer : Name → Part
passer n = component_part (parts (import_part r e.Fresh ∷ export_part n of_type 0 None ∷ []))

abbrev pub used_first : List Part
used_first = defined ∷ passer r ∷ passer t ∷ instantiate_part 0 ((r, of_type, 0) ∷ []) ∷ alias_of of_type 0 r ∷ instantiate_part 1 ((r, of_type, 1) ∷ []) ∷ export_part nb s.Instance 1 None ∷ export_part kv s.Instance 0 None ∷ []

used_first_paths : PathsAre used_first (path2 nb t) (path2 kv r)
used_first_paths P pb pk = two_listings _ P nb kv t r _ _ _ _ refl refl refl refl (λ n h k. rw (h, k) refl) (λ n h. rw h refl) (λ n h. rw h refl) pb pk

pub used_first_owner : Owner used_first (path2 kv r)
used_first_owner = owner used_first (path2 nb t) (path2 kv r) (path2 kv r) used_first_paths refl refl refl (λ h. false_true (sym (h (path2 kv r) refl))) (λ h. tt)

pub used_first_user : Owner used_first (path2 nb t) → ⊥
used_first_user h = false_true (sym ((h tt).0 (path2 kv r) refl))

abbrev pub used_first_tree : Tree
used_first_tree = component none (items_named ((nb, inst ((t, eqr exported 1 (path2 kv r)) ∷ [])) ∷ (kv, inst ((r, fresh) ∷ [])) ∷ []))

used_first_typed : (z : Leaf) → component_type z (path2 kv r ∷ []) (context_after used_first) ≡ used_first_tree
used_first_typed z = component_eq refl (names2 nb kv (instance_eq (names1 t refl (λ n h. rw h refl))) (instance_eq (names1 r refl (λ n h. rw h refl))) (λ n h k. rw (h, k) refl))

pub used_first_is : OwnersType used_first used_first_tree
used_first_is = (path2 kv r ∷ [], (used_first_owner, tt), λ z. sym (used_first_typed z))

pub used_first_wrong : (im ex : Name → Tree) → item_in (ex nb) t ≡ fresh → OwnersType used_first (component im ex) → ⊥
used_first_wrong im ex e h = used_first_user (fresh_owner used_first im ex nb t (bound_here exported (position 0 ∷ [])) e (λ paths. refl) h)

-- .. and if both were taken from the component's own index, the first names it.
abbrev pub both_own : List Part
both_own = defined ∷ passer r ∷ passer t ∷ instantiate_part 0 ((r, of_type, 0) ∷ []) ∷ instantiate_part 1 ((r, of_type, 0) ∷ []) ∷ export_part nb s.Instance 1 None ∷ export_part kv s.Instance 0 None ∷ []

both_own_paths : PathsAre both_own (path2 nb t) (path2 kv r)
both_own_paths P pb pk = two_listings _ P nb kv t r _ _ _ _ refl refl refl refl (λ n h k. rw (h, k) refl) (λ n h. rw h refl) (λ n h. rw h refl) pb pk

pub both_own_owner : Owner both_own (path2 nb t)
both_own_owner = owner both_own (path2 nb t) (path2 kv r) (path2 nb t) both_own_paths refl refl refl (λ h. tt) (λ h. tt)

pub both_own_later : Owner both_own (path2 kv r) → ⊥
both_own_later h = (h tt).1 (path2 nb t) refl (λ q e. both_own_paths (λ w. Lead both_own (path2 nb t) w ≡ false) refl refl q (λ o. not_made (res both_own (path2 nb t)) refl (sym o ∙ e)))

-- 14. A type that is exported under a label, from which an instance's export was taken: the label names the resource.
abbrev pub type_first : List Part
type_first = defined ∷ passer r ∷ export_part x of_type 0 None ∷ instantiate_part 0 ((r, of_type, 1) ∷ []) ∷ export_part kv s.Instance 0 None ∷ []

type_first_paths : PathsAre type_first (path x) (path2 kv r)
type_first_paths P px pk = type_and_listing _ P x kv r _ _ _ refl refl refl (λ n h k. rw (h, k) refl) (λ n h. rw h refl) px pk

pub type_first_owner : Owner type_first (path x)
type_first_owner = owner type_first (path x) (path2 kv r) (path x) type_first_paths refl refl refl (λ h. tt) (λ h. false_true (sym (h (path x) refl)))

pub type_first_later : Owner type_first (path2 kv r) → ⊥
type_first_later h = false_true (sym ((h tt).0 (path x) refl))

-- .. and if it was taken from the index that is exported, the interface names it.
abbrev pub type_apart : List Part
type_apart = defined ∷ passer r ∷ export_part x of_type 0 None ∷ instantiate_part 0 ((r, of_type, 0) ∷ []) ∷ export_part kv s.Instance 0 None ∷ []

type_apart_paths : PathsAre type_apart (path x) (path2 kv r)
type_apart_paths P px pk = type_and_listing _ P x kv r _ _ _ refl refl refl (λ n h k. rw (h, k) refl) (λ n h. rw h refl) px pk

pub type_apart_owner : Owner type_apart (path2 kv r)
type_apart_owner = owner type_apart (path x) (path2 kv r) (path2 kv r) type_apart_paths refl refl refl (λ h. tt) (λ h. tt)

pub type_apart_label : Owner type_apart (path x) → ⊥
type_apart_label h = (h tt).1 (path2 kv r) refl (λ q e. type_apart_paths (λ w. Lead type_apart (path2 kv r) w ≡ false) refl refl q (λ o. not_made (res type_apart (path2 kv r)) refl (sym o ∙ e)))

-- .. and an instance of exports that lists that type.
abbrev pub type_listed : List Part
type_listed = defined ∷ export_part x of_type 0 None ∷ exports_part ((r, of_type, 1) ∷ []) ∷ export_part kv s.Instance 0 None ∷ []

type_listed_paths : PathsAre type_listed (path x) (path2 kv r)
type_listed_paths P px pk = type_and_listing _ P x kv r _ _ _ refl refl refl (λ n h k. rw (h, k) refl) (λ n h. rw h refl) px pk

pub type_listed_owner : Owner type_listed (path x)
type_listed_owner = owner type_listed (path x) (path2 kv r) (path x) type_listed_paths refl refl refl (λ h. tt) (λ h. false_true (sym (h (path x) refl)))

-- 13, with an instance between the two that is not exported.
abbrev pub used_twice : List Part
used_twice = defined ∷ passer r ∷ passer t ∷ instantiate_part 0 ((r, of_type, 0) ∷ []) ∷ alias_of of_type 0 r ∷ instantiate_part 1 ((r, of_type, 1) ∷ []) ∷ alias_of of_type 1 t ∷ instantiate_part 1 ((r, of_type, 2) ∷ []) ∷ export_part nb s.Instance 2 None ∷ export_part kv s.Instance 0 None ∷ []

used_twice_paths : PathsAre used_twice (path2 nb t) (path2 kv r)
used_twice_paths P pb pk = two_listings _ P nb kv t r _ _ _ _ refl refl refl refl (λ n h k. rw (h, k) refl) (λ n h. rw h refl) (λ n h. rw h refl) pb pk

pub used_twice_owner : Owner used_twice (path2 kv r)
used_twice_owner = owner used_twice (path2 nb t) (path2 kv r) (path2 kv r) used_twice_paths refl refl refl (λ h. false_true (sym (h (path2 kv r) refl))) (λ h. tt)
