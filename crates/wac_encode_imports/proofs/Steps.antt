-- The imports that are written so far, and one more.
use Rattle.std.proofs.Common.{ℕ, zero, suc, ◌≡◌, ◌+◌, ◌<◌, ◌≤◌, ◌⊎◌, inl, inr, Bool, true, false, List, [], ◌∷◌, ◌++◌, length, Option, Some, None, slice_get, append_assoc, refl, ap, sym, ◌∙◌, subst, arith}
use Rattle.std.specs.List.{AllByRecursion}
use Rattle.std.proofs.lemmas.List.{length-append}
use Rattle.std.proofs.lemmas.Option.{slice_get_within}
use Rattle.wac_types_shapes.specs.primitives.Name.{Name}
use Rattle.wac_types_shapes.specs.primitives.Tree.{imported, Place, position, Tree}
use Rattle.wac_types_shapes.specs.declared.shapes.component.ItemKind.{ItemKind}
use Rattle.wac_types_shapes.specs.declared.shapes.component.ItemKind.TheVariants as kind
use Rattle.wac_types_shapes.specs.declared.shapes.component.«Type».TheVariants as ty
use Rattle.wac_types_collection.specs.collection.Collection.{Collection}
use Rattle.wac_types_collection.specs.collection.Bound.{Bindings}
use Rattle.wac_merge_classes.specs.entries.Classes.{Entry}
use Rattle.wac_merge_classes.specs.terms.Merge.{Merged, import_entries}
use Rattle.wac_binary.specs.declared.sorts.Description.{Description}
use Rattle.wac_binary.specs.declared.sorts.Sort.{Sort}
use Rattle.wac_binary.specs.Indexes.{space, described_sort, indexes}
use Rattle.wac_binary.specs.Items.{Item, import_item}
use Rattle.wac_binary.specs.Meaning.{meaning}
use Rattle.wac_binary.specs.Unfold.{Scope}
use Rattle.wac_encode_stacks.specs.private.Beside.{GoesOnBeside, all_written_as}
use Rattle.wac_encode_stacks.specs.Good.{At, Good, Extends, Keeps, Onward, innermost, nothing_bound}
use Rattle.wac_encode_stacks.specs.private.HeldParts.{HeldUnderMore}
use Rattle.wac_encode_stacks.specs.Instances.{ListsImport}
use Rattle.wac_encode_scopes.specs.declared.encodable.Encodable.{Encodable}
use Rattle.wac_encode_scopes.specs.declared.encodable.Encodable.TheVariants.{Builder, Instance, Component}
use Rattle.wac_encode_scopes.specs.declared.state.State.{State}
use Rattle.wac_encode_scopes.specs.Contents.{AddsTypes, IsTypeItem, count_of}
use Rattle.wac_encode_scopes.specs.Roots.{IsRoot, items_of, and_import}
use Rattle.wac_encode_scopes.specs.States.{stack}
use Rattle.wac_encode_scopes.proofs.Stepped.{same-stack}
use Rattle.wac_encode_interfaces.specs.private.Imports.{RefersToImport, import_sort, next_place}
use Rattle.wac_encode_imports.specs.private.Imports.{merged_bindings, import_tree, HasDistinctClasses, AreImported, ImportsFirst, IsImportedAt, IsImportOrType}
use Rattle.wac_encode_imports.specs.private.Written.{bound_before, AreWritten, Brings}
use Rattle.wac_encode_imports.proofs.Binders.{binder-low}
use Rattle.wac_encode_imports.proofs.Bound.{no-some, one-some, none-bound, bound-more, all-bound}

-- lists

at-front : {A : Type 0} (xs ys : List A) (i : ℕ) (x : A) → slice_get xs i ≡ Some x → slice_get (xs ++ ys) i ≡ Some x
at-front [] ys i x h = no-some x h
at-front (z ∷ xs) ys zero x h = h
at-front (z ∷ xs) ys (suc i) x h = at-front xs ys i x h

at-end : {A : Type 0} (xs : List A) (x : A) (i : ℕ) → i ≡ length xs → slice_get (xs ++ x ∷ []) i ≡ Some x
at-end {A} xs x i is = ap (slice_get (xs ++ x ∷ [])) is ∙ last xs
  where
    last : (ys : List A) → slice_get (ys ++ x ∷ []) (length ys) ≡ Some x
    last [] = refl
    last (y ∷ ys) = last ys

at-pushed : {A : Type 0} (xs : List A) (x : A) (i : ℕ) (y : A) → slice_get (xs ++ x ∷ []) i ≡ Some y → (slice_get xs i ≡ Some y) ⊎ ((i ≡ length xs) × (y ≡ x))
at-pushed [] x zero y h = inr (refl, sym (one-some x y h))
at-pushed [] x (suc i) y h = no-some y h
at-pushed (z ∷ xs) x zero y h = inl h
at-pushed (z ∷ xs) x (suc i) y h = further (at-pushed xs x i y h)
  where
    further : (slice_get xs i ≡ Some y) ⊎ ((i ≡ length xs) × (y ≡ x)) → (slice_get xs i ≡ Some y) ⊎ ((suc i ≡ suc (length xs)) × (y ≡ x))
    further (inl a) = inl a
    further (inr (a, b)) = inr (ap suc a, b)

all-both : {A : Type 0} (P : A → Type 0) (xs ys : List A) → AllByRecursion P xs → AllByRecursion P ys → AllByRecursion P (xs ++ ys)
all-both P [] ys hx hy = hy
all-both P (x ∷ xs) ys hx hy = (hx.0, all-both P xs ys hx.1 hy)

-- none yet

pub begun : (m : Merged) (s : State) → s.here.content ≡ Builder [] → ((c : Collection) (b : Bool) → Good c (nothing_bound ∷ []) (stack b s)) → AreWritten m 0 [] s
begun m s is good = record {
  root = subst IsRoot (sym is) tt;
  imports = subst (λ (x : Encodable). ImportsFirst m 0 [] (items_of x)) (sym is) nothing;
  good = subst (λ (n : Bindings). Good m.types (n ∷ []) (stack true s)) (sym (none-bound m)) (good m.types true);
  refers = λ p e place at wrong. no-some place wrong;
  beside = λ c. good c false;
}
  where
    nothing : ImportsFirst m 0 [] []
    nothing = record {
      only = tt;
      count = refl;
      trees = λ p e low at. absurd (omega (arith, low));
      placed = refl;
      sorts = λ p e place at wrong. no-some place wrong;
      at = λ p place wrong. no-some place wrong;
    }

-- the entry of an import

pub entry-there : (es : List (Name × ItemKind)) (i : ℕ) (x : Name × ItemKind) → slice_get es i ≡ Some x → slice_get (import_entries es) i ≡ Some (record { name = x.0; kind = x.1 })
entry-there [] i x at = no-some x at
entry-there (y ∷ es) zero x at = ap (λ (z : Name × ItemKind). Some (record { name = z.0; kind = z.1 })) (one-some y x at)
entry-there (y ∷ es) (suc i) x at = entry-there es i x at

-- The next import is at this position.
pub place-is : (m : Merged) (p : ℕ) (places : List (Sort × ℕ)) (s : State) → AreWritten m p places s → next_place s ≡ position p
place-is m p places s w = ap position w.imports.count

-- one more

type-too : (x : Item) → IsTypeItem x → IsImportOrType x
type-too (import_item n d) h = tt
type-too x h = h

types-too : (xs : List Item) → AllByRecursion IsTypeItem xs → AllByRecursion IsImportOrType xs
types-too [] h = tt
types-too (x ∷ xs) h = (type-too x h.0, types-too xs h.1)

-- The content after the step.
record Content (old new : Encodable) (n : Name) (d : Description) (k i : ℕ) : Type 0 where
  more : List Item
  types : AllByRecursion IsTypeItem more
  is : new ≡ Builder ((items_of old ++ more) ++ import_item n d ∷ [])
  index : i ≡ indexes k (items_of old ++ more)

content-after : (old between new : Encodable) (n : Name) (d : Description) (k i : ℕ) → IsRoot old → AddsTypes old between → new ≡ and_import n d between → i ≡ count_of k between → Content old new n d k i
content-after (Builder xs) (Builder ys) new n d k i is adds content index = record {
  more = adds.0;
  types = adds.2;
  is = content ∙ ap (λ (zs : List Item). Builder (zs ++ import_item n d ∷ [])) adds.1;
  index = index ∙ ap (indexes k) adds.1;
}
content-after (Builder xs) (Instance ds) new n d k i is adds content index = absurd adds
content-after (Builder xs) (Component ds) new n d k i is adds content index = absurd adds
content-after (Instance ds) between new n d k i is adds content index = absurd is
content-after (Component ds) between new n d k i is adds content index = absurd is

-- An import item stays where it is.
still-at : (items more : List Item) (p : ℕ) (place : Sort × ℕ) → IsImportedAt items p place → IsImportedAt (items ++ more) p place
still-at items more p place h = record {
  name = h.name;
  description = h.description;
  before = h.before;
  after = h.after ++ more;
  split = ap (λ (xs : List Item). xs ++ more) h.split ∙ append_assoc h.before (import_item h.name h.description ∷ h.after) more;
  number = h.number;
  sorted = h.sorted;
  index = h.index;
}

module _ (m : Merged) (p : ℕ) (e : Entry) (there : slice_get m.imports p ≡ Some e) (places : List (Sort × ℕ)) (items more : List Item) (d : Description) (i : ℕ) where
  abbrev added : List Item
  added = (items ++ more) ++ import_item e.name d ∷ []

  abbrev place : Sort × ℕ
  place = (import_sort e.kind, i)

  module _ (before : ImportsFirst m p places items) (types : AllByRecursion IsTypeItem more) (sorted : described_sort d ≡ import_sort e.kind) (index : i ≡ indexes (space (described_sort d)) (items ++ more))
      (lists : ListsImport) (listed : (meaning added).imports ≡ (meaning items).imports ++ (e.name, import_tree m p e.kind) ∷ []) where
    next-count : length (meaning added).imports ≡ suc p
    next-count =
        let counted = ap length listed ∙ length-append (meaning items).imports ((e.name, import_tree m p e.kind) ∷ []) in
        let count = before.count in
        omega (arith, counted, count)

    -- Types before the import add none.
    next-number : length (meaning (items ++ more)).imports ≡ p
    next-number =
        let counted = sym next-count ∙ ap length (lists (items ++ more) e.name d).0 ∙ length-append (meaning (items ++ more)).imports (_ ∷ []) in
        omega (arith, counted)

    here-at : IsImportedAt added p place
    here-at = record {
      name = e.name;
      description = d;
      before = items ++ more;
      after = [];
      split = refl;
      number = next-number;
      sorted = sorted;
      index = index ∙ ap (λ (s : Sort). indexes (space s) (items ++ more)) sorted;
    }

    next-trees : (q : ℕ) (x : Entry) → q < suc p → slice_get m.imports q ≡ Some x → slice_get (meaning added).imports q ≡ Some (x.name, import_tree m q x.kind)
    next-trees q x low at = ap (λ (xs : List (Name × Tree)). slice_get xs q) listed ∙ by (q-or q p low)
      where
        q-or : (q p : ℕ) → q < suc p → (q < p) ⊎ (q ≡ p)
        q-or zero zero low = inr refl
        q-or zero (suc p) low = inl (omega arith)
        q-or (suc q) zero low = absurd (omega (arith, low))
        q-or (suc q) (suc p) low = next (q-or q p (omega (arith, low)))
          where
            next : (q < p) ⊎ (q ≡ p) → (suc q < suc p) ⊎ (suc q ≡ suc p)
            next (inl a) = inl (omega (arith, a))
            next (inr a) = inr (ap suc a)

        by : (q < p) ⊎ (q ≡ p) → slice_get ((meaning items).imports ++ (e.name, import_tree m p e.kind) ∷ []) q ≡ Some (x.name, import_tree m q x.kind)
        by (inl less) = at-front (meaning items).imports ((e.name, import_tree m p e.kind) ∷ []) q (x.name, import_tree m q x.kind) (before.trees q x less at)
        by (inr same) =
            let entry : e ≡ x = one-some e x (sym there ∙ ap (slice_get m.imports) (sym same) ∙ at) in
            at-end (meaning items).imports (e.name, import_tree m p e.kind) q (same ∙ sym before.count)
            ∙ (λ j. Some ((entry j).name, import_tree m (sym same j) (entry j).kind))

    -- The place of the last import, or of one before it.
    abbrev IsEarlier : ℕ → Sort × ℕ → Type 0
    IsEarlier q z = (slice_get places q ≡ Some z) ⊎ ((q ≡ length places) × (z ≡ place))

    pub last-entry : (q : ℕ) (x : Entry) → slice_get m.imports q ≡ Some x → q ≡ length places → x ≡ e
    last-entry q x at last = one-some x e (sym at ∙ ap (slice_get m.imports) (last ∙ before.placed) ∙ there)

    next-sorts : (q : ℕ) (x : Entry) (z : Sort × ℕ) → slice_get m.imports q ≡ Some x → IsEarlier q z → z.0 ≡ import_sort x.kind
    next-sorts q x z at (inl earlier) = before.sorts q x z at earlier
    next-sorts q x z at (inr (last, is)) = ap (λ (t : Sort × ℕ). t.0) is ∙ ap (λ (t : Entry). import_sort t.kind) (sym (last-entry q x at last))

    next-at : (q : ℕ) (z : Sort × ℕ) → IsEarlier q z → IsImportedAt added q z
    next-at q z (inl earlier) = still-at (items ++ more) (import_item e.name d ∷ []) q z (still-at items more q z (before.at q z earlier))
    next-at q z (inr (last, is)) =
        subst (λ (t : Sort × ℕ). IsImportedAt added q t) (sym is)
        (subst (λ (k : ℕ). IsImportedAt added k place) (sym (last ∙ before.placed)) here-at)

    pub imports-next : ImportsFirst m (suc p) (places ++ place ∷ []) added
    imports-next = record {
      only = all-both IsImportOrType (items ++ more) (import_item e.name d ∷ []) (all-both IsImportOrType items more before.only (types-too more types)) (tt, tt);
      count = next-count;
      trees = next-trees;
      placed = let counted = length-append places (place ∷ []) in let placed = before.placed in omega (arith, counted, placed);
      sorts = λ q x z at stands. next-sorts q x z at (at-pushed places place q z stands);
      at = λ q z stands. next-at q z (at-pushed places place q z stands);
    }

keeps-referring : HeldUnderMore → (c : Collection) (m n : Bindings) (w f : Scope) (p : Place) (k : ItemKind) (i : ℕ) → Extends m n → Keeps w f → RefersToImport c m w p k i → RefersToImport c n f p k i
keeps-referring more c m n w f p (kind.TypeItem a) i grows keeps h = (h.0, more c m n a h.0 grows h.1, keeps.types i h.0 h.2)
keeps-referring more c m n w f p (kind.Instance j) i grows keeps h = (h.0, more c m n (ty.Interface j) h.0 grows h.1, keeps.instances i (record { type = h.0; side = imported; path = p ∷ [] }) h.2)
keeps-referring more c m n w f p (kind.Func g) i grows keeps h = tt
keeps-referring more c m n w f p (kind.Component v) i grows keeps h = tt
keeps-referring more c m n w f p (kind.Module x) i grows keeps h = tt
keeps-referring more c m n w f p (kind.Value v) i grows keeps h = tt

pub written-next : ListsImport → HeldUnderMore → GoesOnBeside → (m : Merged) (p : ℕ) (e : Entry) → slice_get m.imports p ≡ Some e → (places : List (Sort × ℕ)) (old new : State) (i : ℕ) → AreWritten m p places old → Brings m p e i old new
    → AreWritten m (suc p) (places ++ (import_sort e.kind, i) ∷ []) new
written-next lists more on_beside m p e there places old new i w x =
    let d : Description = x.beside.description in
    let items : List Item = items_of old.here.content in
    let b = content-after old.here.content x.beside.between new.here.content e.name d (space (described_sort d)) i w.root x.beside.types x.beside.content x.beside.index in
    let listed : (meaning ((items ++ b.more) ++ import_item e.name d ∷ [])).imports ≡ (meaning items).imports ++ (e.name, import_tree m p e.kind) ∷ [] =
    ap (λ (c : Encodable). (meaning (items_of c)).imports) (sym b.is) ∙ x.imports in
    let next = imports-next m p e there places items b.more d i w.imports b.types x.beside.sorted b.index lists listed in
    record {
      root = subst IsRoot (sym b.is) tt;
      imports = subst (λ (c : Encodable). ImportsFirst m (suc p) (places ++ (import_sort e.kind, i) ∷ []) (items_of c)) (sym b.is) next;
      good = x.onward.0;
      refers = λ q y z at stands. referring q y z at (at-pushed places (import_sort e.kind, i) q z stands);
      beside = λ c. subst (Good c (nothing_bound ∷ [])) (sym x.beside.other) (on_beside m.types c (bound_before m (suc p) ∷ []) (nothing_bound ∷ []) (stack true old) (stack true new) (stack false old) (same-stack true false old) x.onward (w.beside c)).0.0;
    }
  where
    referring : (q : ℕ) (y : Entry) (z : Sort × ℕ) → slice_get m.imports q ≡ Some y → (slice_get places q ≡ Some z) ⊎ ((q ≡ length places) × (z ≡ (import_sort e.kind, i)))
        → RefersToImport m.types (bound_before m (suc p)) (innermost (stack true new)) (position q) y.kind z.1
    referring q y z at (inl before) = keeps-referring more m.types (bound_before m p) (bound_before m (suc p)) (innermost (stack true old)) (innermost (stack true new)) (position q) y.kind z.1 (bound-more m p) x.onward.1.0.keeps (w.refers q y z at before)
    referring q y z at (inr (last, is)) =
        let at_p : q ≡ p = last ∙ w.imports.placed in
        let entry : y ≡ e = one-some y e (sym at ∙ ap (slice_get m.imports) at_p ∙ there) in
        subst (λ (t : Sort × ℕ). RefersToImport m.types (bound_before m (suc p)) (innermost (stack true new)) (position q) y.kind t.1) (sym is)
        (subst (λ (t : Entry). RefersToImport m.types (bound_before m (suc p)) (innermost (stack true new)) (position q) t.kind i) (sym entry)
        (subst (λ r. RefersToImport m.types (bound_before m (suc p)) (innermost (stack true new)) (position r) e.kind i) (sym at_p) x.refers))

-- all

pub all-written : (m : Merged) → HasDistinctClasses m → (n : ℕ) (places : List (Sort × ℕ)) (s : State) → n ≡ length m.imports → AreWritten m n places s → AreImported m places s
all-written m distinct n places s is w =
    let bound : bound_before m n ≡ merged_bindings m = all-bound m n (λ r l h. binder-low m distinct n (omega (arith, is)) r l h) in
    record {
      root = w.root;
      imports = subst (λ (k : ℕ). ImportsFirst m k places (items_of s.here.content)) is w.imports;
      good = subst (λ (b : Bindings). Good m.types (b ∷ []) (stack true s)) bound w.good;
      refers = λ p e place at stands. subst (λ (b : Bindings). RefersToImport m.types b (innermost (stack true s)) (position p) e.kind place.1) bound (w.refers p e place at stands);
      beside = w.beside;
    }
