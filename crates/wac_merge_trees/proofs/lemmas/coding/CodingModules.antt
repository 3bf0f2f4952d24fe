-- Core items in the order of their names.
use Rattle.std.proofs.Common.{Global, ◌≡◌, ◌≢◌, ℕ, suc, ◌-◌, ◌++◌, append_assoc, ◌<◌, Bool, true, false, if◌then◌else◌, List, [], ◌∷◌, map, drop, Vec, Option, Some, None, Result, Ok, Err, IfOk, eqb, eq-eqb, refl, ap, sym, ◌∙◌, subst, arith}
use Rattle.std.specs.Prelude.{slice_get, string_bytes}
use Rattle.std.specs.List.{AllByRecursion}
use Rattle.std.specs.List.Sorted.{IsStrictlySortedBy}
use Rattle.std.specs.Ordering.{nat_cmp, is_eq, match_ordering, ordering_reverse}
use Rattle.std.specs.declared.cmp.Ordering.{Ordering}
use Rattle.std.specs.declared.cmp.Ordering.TheVariants.{Less, Equal, Greater}
use Rattle.std.specs.Cmp.Lexicographic.{slice_cmp, nat_list_cmp_total}
use Rattle.std.specs.FinMap.{nat_cmp-IsAntisymmetric, slice_cmp-IsAntisymmetric}
use Rattle.std.specs.String.{string_cmp}
use Rattle.std.specs.BTreeMap.{BTreeMap, insert_entry, is_at}
use Rattle.std.specs.Map.{keys_of, lookup, remove_entry}
use Rattle.std.specs.Option.{option_map}
use Rattle.std.specs.declared.string.String.{String}
use Rattle.std.specs.declared.alloc.AllocError.{AllocError}
use Rattle.std.proofs.lemmas.Bool.{eqb-true}
use Rattle.std.proofs.lemmas.List.{map-append}
use Rattle.wac_types_shapes.proofs.lemmas.shapes.Loops.{entry_at, drop_at}
use Rattle.wac_types_shapes.specs.primitives.Name.{Name, same_name, find_name, option_case}
use Rattle.wac_types_shapes.specs.shapes.Imports.{Pair, same_pair, find_import}
use Rattle.wac_types_shapes.specs.primitives.Core.{CoreItem, no_item}
use Rattle.wac_types_shapes.specs.primitives.Tree.{module_of}
use Rattle.wac_types_collection.specs.collection.Held.{core_item, core_imports, module_tree}
use Rattle.wac_types_collection.specs.collection.Held as held
use Rattle.wac_types_shapes.specs.declared.shapes.core_types.CoreExtern.{CoreExtern}
use Rattle.wac_types_shapes.specs.declared.shapes.core_types.ModuleType.{ModuleType}
use Rattle.wac_merge_tables.specs.declared.tables.nodes.Core.{Core}
use Rattle.wac_merge_tables.specs.declared.tables.nodes.Core.TheVariants as core
use Rattle.wac_merge_tables.specs.private.tables.Nodes.{Node, of_module, core_under, core_under_both, Sorted, AreCoreItems}
use Rattle.wac_merge_tables.specs.private.tables.NodeViews.{core_view, core_items, core_modules}
use Rattle.wac_merge_trees.specs.private.coding.Coding.{Fits}
use Rattle.wac_merge_trees.specs.private.coding.ModuleCoding.{AreCores, AreImports, Maps, look, in_maps, maps_items, PutsUnder, AreFull}

abbrev pub Text : Type 0
Text = String Global

-- ---- names
pub name_itself : (n : Name) → same_name n n ≡ true
name_itself [] = refl
name_itself (x ∷ xs) = ap (λ t. if t then same_name xs xs else false) (eq-eqb x x refl) ∙ name_itself xs

pub same_is : (a b : Name) → same_name a b ≡ true → a ≡ b
same_is [] [] e = refl
same_is [] (y ∷ ys) e = cc
same_is (x ∷ xs) [] e = cc
same_is (x ∷ xs) (y ∷ ys) e = elim (eqb x y) as (λ t. eqb x y ≡ t → (if t then same_name xs ys else false) ≡ true → x ∷ xs ≡ y ∷ ys) [
  | true ↦ λ one rest. rw (eqb-true x y one, same_is xs ys rest) refl
  | false ↦ λ _ wrong. cc
] refl e

never_greater : (a : Name) → slice_cmp nat_cmp a a ≡ Greater → ⊥
never_greater a e = split (slice_cmp nat_cmp a a) (nat_list_cmp_total.antisymm a a) e where
  split : (r : Ordering) → r ≡ ordering_reverse r → r ≡ Greater → ⊥
  split Less s e = cc
  split Equal s e = cc
  split Greater s _ = cc

one_some : {A : Type 0} (a b : A) → Some a ≡ Some b → a ≡ b
one_some a b e = cc

-- ---- what stands under a name, while entries are put in their order
module _ {V T : Type 0} (none : T) (view : V → T) where
  both : (a b : Bool) → (a ≡ true → b ≡ true → ⊥) → (x y z : T) → (if a then x else (if b then y else z)) ≡ (if b then y else (if a then x else z))
  both true true apart x y z = absurd (apart refl refl)
  both true false apart x y z = refl
  both false true apart x y z = refl
  both false false apart x y z = refl

  twice : (a : Bool) (x y z : T) → (if a then x else z) ≡ (if a then x else (if a then y else z))
  twice true x y z = refl
  twice false x y z = refl

  pub look_insert : (es : List (Text × V)) (k : Text) (v : V) (n : Name) → look none view (insert_entry string_cmp es k v) n ≡ (if same_name n (string_bytes k) then view v else look none view es n)
  look_insert [] k v n = refl
  look_insert (e ∷ es) k v n = by (string_cmp k e.0) refl (look_insert es k v n) where
    by : (o : Ordering) → string_cmp k e.0 ≡ o → look none view (insert_entry string_cmp es k v) n ≡ (if same_name n (string_bytes k) then view v else look none view es n)
        → look none view (match_ordering o ((k, v) ∷ e ∷ es) ((e.0, v) ∷ es) (e ∷ insert_entry string_cmp es k v)) n ≡ (if same_name n (string_bytes k) then view v else look none view (e ∷ es) n)
    by Less is ih = refl
    by Equal is ih =
        let same : string_bytes k ≡ string_bytes e.0 = slice_cmp-IsAntisymmetric nat_cmp-IsAntisymmetric (string_bytes k) (string_bytes e.0) is in
        subst (λ (m : Name). (if same_name n m then view v else look none view es n) ≡ (if same_name n (string_bytes k) then view v else (if same_name n m then view e.1 else look none view es n))) same
        (twice (same_name n (string_bytes k)) (view v) (view e.1) (look none view es n))
    by Greater is ih =
        ap (λ t. if same_name n (string_bytes e.0) then view e.1 else t) ih
        ∙ both (same_name n (string_bytes e.0)) (same_name n (string_bytes k))
        (λ a b. let one : string_bytes e.0 ≡ string_bytes k = sym (same_is n (string_bytes e.0) a) ∙ same_is n (string_bytes k) b in
        never_greater (string_bytes k) (subst (λ (m : Name). slice_cmp nat_cmp (string_bytes k) m ≡ Greater) one is))
        (view e.1) (view v) (look none view es n)

pub all_insert : {V : Type 0} (P : V → Type 0) (es : List (Text × V)) (k : Text) (v : V) → P v → AllByRecursion (λ e. P e.1) es → AllByRecursion (λ e. P e.1) (insert_entry string_cmp es k v)
all_insert P [] k v p h = (p, tt)
all_insert P (e ∷ es) k v p h = by (string_cmp k e.0) (all_insert P es k v p h.1) where
  by : (o : Ordering) → AllByRecursion (λ e. P e.1) (insert_entry string_cmp es k v) → AllByRecursion (λ e. P e.1) (match_ordering o ((k, v) ∷ e ∷ es) ((e.0, v) ∷ es) (e ∷ insert_entry string_cmp es k v))
  by Less r = (p, h)
  by Equal r = (p, h.1)
  by Greater r = (h.0, r)

-- ---- keys that ascend are names that do
names_after : {V T : Type 0} (view : V → T) (k : Text) (es : List (Text × V)) → AllByRecursion (λ y. string_cmp k y ≡ Less) (keys_of es)
    → AllByRecursion (λ (x : Name × T). slice_cmp nat_cmp (string_bytes k) x.0 ≡ Less) (map (λ e. (string_bytes e.0, view e.1)) es)
names_after view k [] h = tt
names_after view k (e ∷ es) h = (h.0, names_after view k es h.1)

pub sorted_names : {V T : Type 0} (view : V → T) (es : List (Text × V)) → IsStrictlySortedBy string_cmp (keys_of es) → Sorted {V = T} (map (λ e. (string_bytes e.0, view e.1)) es)
unfolding IsStrictlySortedBy
sorted_names view [] h = tt
sorted_names view (e ∷ es) h = (names_after view e.0 es h.0, sorted_names view es h.1)

-- ---- core items
there : (x : Core) → core_view x ≡ no_item → ⊥
there (core.Func p r) e = cc
there (core.Table a b c d e) is = cc
there (core.Memory a b c d e) is = cc
there (core.Global a b c) is = cc
there (core.Tag p r) e = cc

all_there : (es : List (Text × Core)) → AllByRecursion (λ e. e.1 ≢ no_item) (core_items es)
all_there [] = tt
all_there (e ∷ es) = (there e.1, all_there es)

found_case : {A B : Type 0} (b : Bool) (x : A) (o : Option A) (none : B) (f : A → B) → option_case (if b then Some x else o) none f ≡ (if b then f x else option_case o none f)
found_case true x o none f = refl
found_case false x o none f = refl

core_look : (es : List (Text × Core)) (n : Name) → core_under (core_items es) n ≡ look no_item core_view es n
core_look [] n = refl
core_look (e ∷ es) n =
    found_case (same_name n (string_bytes e.0)) (core_view e.1) (find_name (core_items es) n) no_item (λ x. x)
    ∙ ap (λ t. if same_name n (string_bytes e.0) then core_view e.1 else t) (core_look es n)

-- the entry at a position and those behind it
pub left_from : {A : Type 0} (es : List (Name × A)) (i : ℕ) (n : Name) (v : A) → 0 < i → option_map (λ e. e.0) (slice_get es (i - 1)) ≡ Some n → option_map (λ e. e.1) (slice_get es (i - 1)) ≡ Some v
    → drop (i - 1) es ≡ (n, v) ∷ drop i es
left_from es i n v some named is =
    let e : suc (i - 1) ≡ i = omega arith in
    drop_at es (i - 1) (n, v) (entry_at es (i - 1) n v named is) ∙ ap (λ k. (n, v) ∷ drop k es) e

pub cores_next : (items : List (Name × CoreExtern)) (i : ℕ) (nm : Name) (v : CoreExtern) (s : Text) (x : Core) (es more : List (Text × Core)) → 0 < i → option_map (λ e. e.0) (slice_get items (i - 1)) ≡ Some nm → option_map (λ e. e.1) (slice_get items (i - 1)) ≡ Some v
    → string_bytes s ≡ nm → core_view x ≡ core_item v → more ≡ insert_entry string_cmp es s x → ((n : Name) → look no_item core_view es n ≡ held.core_under (drop i items) n) → (n : Name) → look no_item core_view more n ≡ held.core_under (drop (i - 1) items) n
cores_next items i nm v s x es more some named is text seen put under n =
    ap (λ l. look no_item core_view l n) put
    ∙ (look_insert no_item core_view es s x n
    ∙ ((λ j. if same_name n (text j) then seen j else under n j)
    ∙ (sym (found_case (same_name n nm) v (find_name (drop i items) n) no_item core_item)
    ∙ ap (λ l. held.core_under l n) (sym (left_from items i nm v some named is)))))

cores_are : (items : List (Name × CoreExtern)) (es : List (Text × Core)) → IsStrictlySortedBy string_cmp (keys_of es) → ((n : Name) → look no_item core_view es n ≡ held.core_under items n) → AreCores items (core_items es)
cores_are items es sorted under = record { sorted = (sorted_names core_view es sorted, all_there es); under = λ n. core_look es n ∙ under n }

pub cores_listed : (items : List (Name × CoreExtern)) (es : List (Text × Core)) (r : Result (Vec (Text × Core) Global) AllocError) → IfOk r (λ v. v.items ≡ es) → IsStrictlySortedBy string_cmp (keys_of es)
    → ((n : Name) → look no_item core_view es n ≡ held.core_under items n) → IfOk r (λ v. AreCores items (core_items v.items))
cores_listed items es (Ok v) is sorted under = subst (λ l. AreCores items (core_items l)) (sym is) (cores_are items es sorted under)
cores_listed items es (Err e) is sorted under = is

-- ---- imports
abbrev Items : Type 0
Items = BTreeMap Text Core

abbrev nothing_under : Name → CoreItem
nothing_under n = no_item

abbrev items_under : Items → Name → CoreItem
items_under items = look no_item core_view items.entries

under_if : (b : Bool) (f g : Name → CoreItem) (n : Name) → (if b then f else g) n ≡ (if b then f n else g n)
under_if true f g n = refl
under_if false f g n = refl

-- a text that compares as a name does to itself
abbrev pub is_text : Name → Text → Bool
is_text m = is_at (λ k. slice_cmp nat_cmp m (string_bytes k))

eq_is : (o : Ordering) → is_eq o ≡ true → o ≡ Equal
eq_is Less h = cc
eq_is Equal h = refl
eq_is Greater h = cc

text_is : (m : Name) (k : Text) → is_text m k ≡ true → m ≡ string_bytes k
text_is m k h = slice_cmp-IsAntisymmetric nat_cmp-IsAntisymmetric m (string_bytes k) (eq_is (slice_cmp nat_cmp m (string_bytes k)) h)

compares_itself : (a : Name) → is_eq (slice_cmp nat_cmp a a) ≡ true
compares_itself a = split (slice_cmp nat_cmp a a) (nat_list_cmp_total.antisymm a a) where
  split : (r : Ordering) → r ≡ ordering_reverse r → is_eq r ≡ true
  split Less s = cc
  split Equal s = refl
  split Greater s = cc

is_text-same : (m : Name) (k : Text) → is_text m k ≡ same_name m (string_bytes k)
is_text-same m k = by (is_text m k) (same_name m (string_bytes k)) refl refl where
  by : (a b : Bool) → is_text m k ≡ a → same_name m (string_bytes k) ≡ b → a ≡ b
  by true true e f = refl
  by false false e f = refl
  by true false e f =
      let yes = subst (λ (x : Name). same_name m x ≡ true) (text_is m k e) (name_itself m) in
      sym yes ∙ f
  by false true e f =
      let yes = subst (λ (x : Name). is_eq (slice_cmp nat_cmp m x) ≡ true) (same_is m (string_bytes k) f) (compares_itself m) in
      sym e ∙ yes

module _ {V T : Type 0} (none : T) (view : V → T) where
  -- what a look-up finds is what is seen under the name
  found_look : (es : List (Text × V)) (m : Name) (v : V) → lookup (is_text m) es ≡ Some v → look none view es m ≡ view v
  found_look [] m v h = cc
  found_look (e ∷ es) m v h = by (is_text m e.0) refl h (found_look es m v) where
    by : (b : Bool) → is_text m e.0 ≡ b → (if b then Some e.1 else lookup (is_text m) es) ≡ Some v → (lookup (is_text m) es ≡ Some v → look none view es m ≡ view v) → look none view (e ∷ es) m ≡ view v
    by true is h rest = ap (λ c. if c then view e.1 else look none view es m) (sym (is_text-same m e.0) ∙ is) ∙ ap view (one_some e.1 v h)
    by false is h rest = ap (λ c. if c then view e.1 else look none view es m) (sym (is_text-same m e.0) ∙ is) ∙ rest h

  missed_look : (es : List (Text × V)) (m : Name) → lookup (is_text m) es ≡ None → look none view es m ≡ none
  missed_look [] m h = refl
  missed_look (e ∷ es) m h = by (is_text m e.0) refl h (missed_look es m) where
    by : (b : Bool) → is_text m e.0 ≡ b → (if b then Some e.1 else lookup (is_text m) es) ≡ None → (lookup (is_text m) es ≡ None → look none view es m ≡ none) → look none view (e ∷ es) m ≡ none
    by true is h rest = cc
    by false is h rest = ap (λ c. if c then view e.1 else look none view es m) (sym (is_text-same m e.0) ∙ is) ∙ rest h

  -- a removal leaves what is under other names
  look_without : (es : List (Text × V)) (m n : Name) → same_name n m ≡ false → look none view (remove_entry (is_text m) es) n ≡ look none view es n
  look_without [] m n other = refl
  look_without (e ∷ es) m n other = by (is_text m e.0) refl (look_without es m n other) where
    by : (b : Bool) → is_text m e.0 ≡ b → look none view (remove_entry (is_text m) es) n ≡ look none view es n → look none view (if b then es else (e ∷ remove_entry (is_text m) es)) n ≡ look none view (e ∷ es) n
    by true is rest =
        let no : same_name n (string_bytes e.0) ≡ false = subst (λ (x : Name). same_name n x ≡ false) (text_is m e.0 is) other in
        sym (ap (λ c. if c then view e.1 else look none view es n) no)
    by false is rest = ap (λ t. if same_name n (string_bytes e.0) then view e.1 else t) rest

all_without : {V : Type 0} (P : V → Type 0) (es : List (Text × V)) (test : Text → Bool) → AllByRecursion (λ e. P e.1) es → AllByRecursion (λ e. P e.1) (remove_entry test es)
all_without P [] test h = tt
all_without P (e ∷ es) test h = by (test e.0) (all_without P es test h.1) where
  by : (b : Bool) → AllByRecursion (λ e. P e.1) (remove_entry test es) → AllByRecursion (λ e. P e.1) (if b then es else (e ∷ remove_entry test es))
  by true rest = h.1
  by false rest = (h.0, rest)

-- the items under a module, before one is put there
pub record AreItems (old : Maps) (m : Name) (items : Items) : Type 0 where
  pub under : (n : Name) → items_under items n ≡ in_maps old m n

pub items_found : (old : Maps) (m : Name) (items : Items) → lookup (is_text m) old ≡ Some items → AreItems old m items
items_found old m items h = record { under = λ n. ap (λ (f : Name → CoreItem). f n) (sym (found_look nothing_under items_under old m items h)) }

pub items_new : (old : Maps) (m : Name) (items : Items) → lookup (is_text m) old ≡ None → items.entries ≡ [] → AreItems old m items
items_new old m items h none = record { under = λ n. ap (λ es. look no_item core_view es n) none ∙ ap (λ (f : Name → CoreItem). f n) (sym (missed_look nothing_under items_under old m h)) }

pub puts_under : (old new : Maps) (s t : Text) (x : Core) (items more : Items) → AreItems old (string_bytes s) items → more.entries ≡ insert_entry string_cmp items.entries t x
    → new ≡ insert_entry string_cmp (remove_entry (is_text (string_bytes s)) old) s more → PutsUnder old new (string_bytes s) (string_bytes t) (core_view x)
puts_under old new s t x items more h put is a b =
    let left = remove_entry (is_text (string_bytes s)) old in
    ap (λ l. in_maps l a b) is
    ∙ ap (λ (f : Name → CoreItem). f b) (look_insert nothing_under items_under left s more a)
    ∙ under_if (same_name a (string_bytes s)) (items_under more) (in_maps left a) b
    ∙ by (same_name a (string_bytes s)) refl
  where
    by : (c : Bool) → same_name a (string_bytes s) ≡ c → (if c then items_under more b else in_maps (remove_entry (is_text (string_bytes s)) old) a b) ≡ (if (if c then same_name b (string_bytes t) else false) then core_view x else in_maps old a b)
    by true one =
        ap (λ es. look no_item core_view es b) put
        ∙ look_insert no_item core_view items.entries t x b
        ∙ ap (λ z. if same_name b (string_bytes t) then core_view x else z) (h.under b ∙ ap (λ (m : Name). in_maps old m b) (sym (same_is a (string_bytes s) one)))
    by false other = ap (λ (f : Name → CoreItem). f b) (look_without nothing_under items_under old (string_bytes s) a other)

inserted_some : {V : Type 0} (es : List (Text × V)) (k : Text) (v : V) → insert_entry string_cmp es k v ≢ []
inserted_some [] k v e = cc
inserted_some {V} (x ∷ es) k v e = by (string_cmp k x.0) e where
  by : (o : Ordering) → match_ordering o ((k, v) ∷ x ∷ es) ((x.0, v) ∷ es) (x ∷ insert_entry string_cmp es k v) ≡ [] → ⊥
  by Less e = cc
  by Equal e = cc
  by Greater e = cc

pub full_under : (old new : Maps) (s t : Text) (x : Core) (es : List (Text × Core)) (more : Items) → more.entries ≡ insert_entry string_cmp es t x → new ≡ insert_entry string_cmp (remove_entry (is_text (string_bytes s)) old) s more → AreFull old → AreFull new
full_under old new s t x es more put is h =
    subst AreFull (sym is) (all_insert (λ (v : Items). v.entries ≢ []) (remove_entry (is_text (string_bytes s)) old) s more (λ e. inserted_some es t x (sym put ∙ e)) (all_without (λ (v : Items). v.entries ≢ []) old (is_text (string_bytes s)) h))

pub imports_next : (imports : List (Pair × CoreExtern)) (i : ℕ) (p : Pair) (v : CoreExtern) (s t : Text) (x : Core) (old new : Maps) → 0 < i → slice_get imports (i - 1) ≡ Some (p, v) → string_bytes s ≡ p.0 → string_bytes t ≡ p.1 → core_view x ≡ core_item v
    → PutsUnder old new (string_bytes s) (string_bytes t) (core_view x) → ((m n : Name) → in_maps old m n ≡ core_imports (drop i imports) m n) → (m n : Name) → in_maps new m n ≡ core_imports (drop (i - 1) imports) m n
imports_next imports i p v s t x old new some is source name seen put under m n =
    let so = under m n in
    let e : suc (i - 1) ≡ i = omega arith in
    let left : drop (i - 1) imports ≡ (p, v) ∷ drop i imports = drop_at imports (i - 1) (p, v) is ∙ ap (λ k. (p, v) ∷ drop k imports) e in
    put m n
    ∙ ((λ j. if same_pair m n (source j, name j) then seen j else so j)
    ∙ (sym (found_case (same_pair m n p) v (find_import (drop i imports) m n) no_item core_item)
    ∙ ap (λ l. core_imports l m n) (sym left)))

pub grouped_next : (listed more : List (Text × Vec (Text × Core) Global)) (s : Text) (v : Vec (Text × Core) Global) (items : Items) (old new : Maps) (all : List (Name × List (Name × CoreItem))) → more ≡ listed ++ (s, v) ∷ [] → v.items ≡ items.entries → old ≡ (s, items) ∷ new
    → core_modules listed ++ maps_items old ≡ all → core_modules more ++ maps_items new ≡ all
grouped_next listed more s v items old new all push same pop h =
    ap (λ l. core_modules l ++ maps_items new) push
    ∙ ap (λ l. l ++ maps_items new) (map-append (λ (e : Text × Vec (Text × Core) Global). (string_bytes e.0, core_items e.1.items)) listed ((s, v) ∷ []))
    ∙ append_assoc (core_modules listed) ((string_bytes s, core_items v.items) ∷ []) (maps_items new)
    ∙ ap (λ es. core_modules listed ++ (string_bytes s, core_items es) ∷ maps_items new) same
    ∙ ap (λ l. core_modules listed ++ maps_items l) (sym pop)
    ∙ h

pub each_next : (listed more : List (Text × Vec (Text × Core) Global)) (s : Text) (v : Vec (Text × Core) Global) (es : List (Text × Core)) → more ≡ listed ++ (s, v) ∷ [] → v.items ≡ es → IsStrictlySortedBy string_cmp (keys_of es)
    → AllByRecursion (λ e. AreCoreItems e.1) (core_modules listed) → AllByRecursion (λ e. AreCoreItems e.1) (core_modules more)
each_next listed more s v es push same sorted h =
    let one : AreCoreItems (core_items v.items) = subst (λ l. AreCoreItems (core_items l)) (sym same) (sorted_names core_view es sorted, all_there es) in
    subst (λ l. AllByRecursion (λ e. AreCoreItems e.1) (core_modules l)) (sym push) (behind listed one h)
  where
    behind : (l : List (Text × Vec (Text × Core) Global)) → AreCoreItems (core_items v.items) → AllByRecursion (λ e. AreCoreItems e.1) (core_modules l) → AllByRecursion (λ e. AreCoreItems e.1) (core_modules (l ++ (s, v) ∷ []))
    behind [] one h = (one, tt)
    behind (x ∷ l) one h = (h.0, behind l one h.1)

maps_look : (es : Maps) (m n : Name) → core_under_both (maps_items es) m n ≡ in_maps es m n
maps_look [] m n = refl
maps_look (e ∷ es) m n =
    let c = same_name m (string_bytes e.0) in
    let inner = core_look e.1.entries n in
    let rest = maps_look es m n in
    ap (λ (f : Name → CoreItem). f n) (found_case c (core_items e.1.entries) (find_name (maps_items es) m) nothing_under core_under)
    ∙ under_if c (core_under (core_items e.1.entries)) (core_under_both (maps_items es) m) n
    ∙ ((λ j. if c then inner j else rest j)
    ∙ sym (under_if c (items_under e.1) (in_maps es m) n))

each_full : (es : Maps) → AreFull es → AllByRecursion (λ e. AreCoreItems e.1) (maps_items es) → AllByRecursion (λ e. AreCoreItems e.1 × (e.1 ≢ [])) (maps_items es)
each_full [] f h = tt
each_full (e ∷ es) f h = ((h.0, λ none. f.0 (nothing e.1.entries none)), each_full es f.1 h.1) where
  nothing : (l : List (Text × Core)) → core_items l ≡ [] → l ≡ []
  nothing [] e = refl
  nothing (x ∷ l) e = cc

pub imports_listed : (imports : List (Pair × CoreExtern)) (es : Maps) (r : Result (Vec (Text × Vec (Text × Core) Global) Global) AllocError) → IfOk r (λ v. core_modules v.items ≡ maps_items es) → IfOk r (λ v. AllByRecursion (λ e. AreCoreItems e.1) (core_modules v.items))
    → IsStrictlySortedBy string_cmp (keys_of es) → AreFull es → ((m n : Name) → in_maps es m n ≡ core_imports imports m n) → IfOk r (λ v. AreImports imports (core_modules v.items))
imports_listed imports es (Ok v) is each sorted full under = record {
  sorted = subst (λ l. Sorted l) (sym is) (sorted_names (λ (items : Items). core_items items.entries) es sorted);
  each = subst (λ l. AllByRecursion (λ e. AreCoreItems e.1 × (e.1 ≢ [])) l) (sym is) (each_full es full (subst (λ l. AllByRecursion (λ e. AreCoreItems e.1) l) is each));
  under = λ m n. ap (λ l. core_under_both l m n) is ∙ maps_look es m n ∙ under m n;
}
imports_listed imports es (Err e) is each sorted full under = is

-- ---- the node of a core module
pub fits_module : (ns : List Node) (x : ModuleType) (is : List (Name × List (Name × CoreItem))) (es : List (Name × CoreItem)) → AreImports x.imports is → AreCores x.exports es → Fits ns (module_tree x) (of_module is es)
fits_module ns x is es i e =
    let f = i.under in
    let g = e.under in
    record { lower = tt; sorted = ((i.sorted, i.each), e.sorted); is = λ j. module_of (λ m n. f m n j) (λ n. g n j) }
