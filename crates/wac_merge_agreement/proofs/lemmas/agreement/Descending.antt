-- Levels of instances that are looked at on the way to where two items disagree.
use Rattle.std.proofs.Common.{◌≡◌, ℕ, zero, suc, ◌+◌, ◌-◌, ◌<◌, ◌≤◌, List, [], ◌∷◌, ◌++◌, length, map, take, drop, get_or, Option, Some, None, refl, ap, sym, ◌∙◌, subst, arith, add-one, string_bytes, Global}
use Rattle.std.specs.Prelude.{slice_get}
use Rattle.std.specs.List.{AllByRecursion}
use Rattle.std.specs.Option.{option_map}
use Rattle.std.specs.declared.string.String.{String}
use Rattle.std.proofs.lemmas.List.{map-append}
use Rattle.std.proofs.lemmas.Option.{slice_get-get_or, slice_get_within}
use Rattle.wac_types_shapes.specs.shapes.Kinds.{kind_type}
use Rattle.wac_types_shapes.specs.primitives.Name.{Name, find_name, option_case}
use Rattle.wac_types_shapes.specs.declared.shapes.component.Interface.{Interface}
use Rattle.wac_types_shapes.specs.declared.shapes.component.InterfaceId.{InterfaceId}
use Rattle.wac_types_shapes.specs.declared.shapes.component.ItemKind.{ItemKind}
use Rattle.wac_types_shapes.specs.declared.shapes.component.ItemKind.TheVariants as kind
use Rattle.wac_types_shapes.proofs.lemmas.shapes.Loops.{drop_at}
use Rattle.wac_types_shapes.proofs.lemmas.shapes.Names.{take_at}
use Rattle.wac_types_shapes.specs.primitives.Tree.{instance, instance_item}
use Rattle.wac_types_collection.specs.collection.Collection.{Collection, HasInterface, IsBefore, IsWellFormed, interface_exports, item_at, kind_types}
use Rattle.wac_types_collection.specs.subtyping.Ranks.{type_rank}
use Rattle.wac_types_collection.proofs.lemmas.subtyping.Unfolding.{before_rank}
use Rattle.wac_merge_classes.specs.entries.Agreement.{AreInstances, LeadsApart, here}
use Rattle.wac_merge_tables.specs.private.tables.Nodes.{IsTable, Item, Node, item_tree, listed_tree, tree_at, type_of}
use Rattle.wac_merge_tables.specs.declared.tables.nodes.Item.{Item as AnItem}
use Rattle.wac_merge_tables.specs.private.tables.NodeViews.{item_view}
use Rattle.wac_merge_classes.specs.declared.entries.scopes.Opener.TheVariants as opener
use Rattle.wac_merge_classes.proofs.lemmas.entries.Opening.{lists}
use Rattle.wac_merge_agreement.specs.private.agreeing.Apart.{ItemsAgree}
use Rattle.wac_merge_agreement.specs.private.agreement.Levels.{AreLevels, HasPassed, IsAbove, IsApartBelow, IsFurther, IsLevel, at_root, left_at, left_in, looks_by, looks_of, looks_to, name_of, under}
use Rattle.wac_merge_agreement.specs.private.agreement.Shapes.{AgreeUnder, IsNextListed}
use Rattle.wac_merge_agreement.specs.private.agreeing.Fitting.{IsOpen}
use Rattle.wac_merge_agreement.specs.declared.agreement.apart.Level.{Level}
use Rattle.wac_merge_classes.proofs.lemmas.terms.Found.{no_some, some_same}
use Rattle.wac_merge_agreement.proofs.lemmas.agreeing.Comparing.{agree_closed, open_agree, open_tree}
use Rattle.wac_merge_agreement.proofs.lemmas.agreement.Leading.{all_agree, all_before, leads_on, map_pushed, split_at, is_none}
use Rattle.wac_merge_agreement.proofs.lemmas.agreeing.Tables.{taken}

-- ---- lists
never_nil : {A : Type 0} (xs : List A) (x : A) → [] ≡ xs ++ x ∷ [] → ⊥
never_nil [] x e = cc e
never_nil (y ∷ xs) x e = cc e

last_same : {A : Type 0} (xs ys : List A) (x y : A) → xs ++ x ∷ [] ≡ ys ++ y ∷ [] → (xs ≡ ys) × (x ≡ y)
last_same [] [] x y e = (refl, cc e)
last_same [] (b ∷ ys) x y e = let rest : [] ≡ ys ++ y ∷ [] = cc e in absurd (never_nil ys y rest)
last_same (a ∷ xs) [] x y e = let rest : [] ≡ xs ++ x ∷ [] = cc e in absurd (never_nil xs x rest)
last_same (a ∷ xs) (b ∷ ys) x y e =
    let first : a ≡ b = cc e in
    let rest : xs ++ x ∷ [] ≡ ys ++ y ∷ [] = cc e in
    let (p, q) = last_same xs ys x y rest in
    ((λ i. first i ∷ p i), q)

all_pushed : {A : Type 0} (P : A → Type 0) (xs : List A) (x : A) → AllByRecursion P xs → P x → AllByRecursion P (xs ++ x ∷ [])
all_pushed P [] x h last = (last, tt)
all_pushed P (y ∷ xs) x h last = (h.0, all_pushed P xs x h.1 last)

-- what was found under a name, or was not
module _ (r : Option (List (Name × Item))) (es : List (Name × Item)) (n : Name) (o : Option AnItem) (opened : r ≡ Some es) (found : option_map item_view o ≡ option_case r None (λ l. find_name l n)) where
  as_found : option_map item_view o ≡ find_name es n
  as_found = found ∙ ap (λ q. option_case q None (λ l. find_name l n)) opened

  pub found_in : (x : AnItem) → o ≡ Some x → find_name es n ≡ Some (item_view x)
  found_in x is = sym as_found ∙ ap (option_map item_view) is

  pub none_in : ((x : AnItem) → o ≡ Some x → ⊥) → (x : Item) → find_name es n ≡ Some x → ⊥
  none_in never x is = no_some x (sym (ap (option_map item_view) (is_none o never)) ∙ as_found ∙ is)

-- ---- one level
module _ (c : Collection) (ns : List Node) (table : IsTable ns) where
  abbrev listed : Level → List (Name × ItemKind)
  listed l = interface_exports c l.interface

  -- one more was looked at, and what both export there agrees
  pub further : (l m : Level) (n : Name) (k : ItemKind) (at : IsLevel c ns l) → slice_get (listed l) l.passed ≡ Some (n, k) → AgreeUnder ns at.es at.fs n → m ≡ record { first = l.first; second = l.second; interface = l.interface; passed = l.passed + 1 } → IsFurther c l m × IsLevel c ns m
  further l m n k at there agree is =
      let low = slice_get_within (listed l) l.passed (n, k) there in (
        record { within = low; is = is },
        subst (λ (z : Level). IsLevel c ns z) (sym is) (record {
          es = at.es;
          fs = at.fs;
          opened = record { first = at.opened.first; second = at.opened.second; first_low = at.opened.first_low; second_low = at.opened.second_low; shaped = at.opened.shaped; of_kind = at.opened.of_kind; held = at.opened.held };
          within = omega (arith, low);
          agree = all_before (λ e. AgreeUnder ns at.es at.fs e.0) (listed l) l.passed (n, k) there at.agree agree;
        }),
      )

  -- one more was looked at, where both export something
  pub above : (l m : Level) (n : Name) (k : ItemKind) (x y : Item) (at : IsLevel c ns l) → slice_get (listed l) l.passed ≡ Some (n, k) → find_name at.es n ≡ Some x → find_name at.fs n ≡ Some y
      → m ≡ record { first = l.first; second = l.second; interface = l.interface; passed = l.passed + 1 } → IsAbove c ns m x y k
  above l m n k x y at there p q is = subst (λ (z : Level). IsAbove c ns z x y k) (sym is) (record {
    es = at.es;
    fs = at.fs;
    before = l.passed;
    name = n;
    opened = record { first = at.opened.first; second = at.opened.second; first_low = at.opened.first_low; second_low = at.opened.second_low; shaped = at.opened.shaped; of_kind = at.opened.of_kind; held = at.opened.held };
    last = refl;
    at = there;
    agree = at.agree;
    in_first = p;
    in_second = q;
  })

  open_instances : (x y : Item) → IsOpen ns x → IsOpen ns y → AreInstances (item_tree (tree_at ns) x) (item_tree (tree_at ns) y)
  open_instances x y (es, ex) (fs, ey) =
      subst (λ t. AreInstances t (item_tree (tree_at ns) y)) (sym (open_tree ns table x es ex))
      (subst (λ u. AreInstances (instance_item (instance (listed_tree (tree_at ns) es))) u) (sym (open_tree ns table y fs ey)) tt)

  -- items that are not one, and not two instances, do not agree
  pub apart_closed : (x y : Item) → type_of x < length ns → type_of y < length ns → (x ≡ y → ⊥) → (AreInstances (item_tree (tree_at ns) x) (item_tree (tree_at ns) y) → ⊥) → ItemsAgree ns x y → ⊥
  apart_closed x y p q other closed agree = other (agree_closed ns table x y p q (λ a b. closed (open_instances x y a b)) agree)

  -- all was looked at
  pub all_looked_at : (l : Level) → IsLevel c ns l → length (listed l) ≤ l.passed → ItemsAgree ns (item_view l.first) (item_view l.second)
  all_looked_at l at all =
      all_agree c ns table (item_view l.first) (item_view l.second) at.es at.fs l.interface at.opened.first at.opened.second at.opened.of_kind (subst (λ (zs : List (Name × ItemKind)). AllByRecursion (λ e. AgreeUnder ns at.es at.fs e.0) zs) (taken (listed l) l.passed all) at.agree)

  module _ (l : Level) (x y : Item) (k : ItemKind) (a : IsAbove c ns l x y k) where
    -- where the items agree, so do those before and with them
    pub back_at : ItemsAgree ns x y → IsLevel c ns l
    back_at agree =
        let low = slice_get_within (listed l) a.before (a.name, k) a.at in
        record {
          es = a.es;
          fs = a.fs;
          opened = a.opened;
          within = omega (arith, low, a.last);
          agree = subst (λ (p : ℕ). AllByRecursion (λ e. AgreeUnder ns a.es a.fs e.0) (take p (listed l))) (sym a.last) (all_before (λ e. AgreeUnder ns a.es a.fs e.0) (listed l) a.before (a.name, k) a.at a.agree both);
        } where
          both : AgreeUnder ns a.es a.fs a.name
          both u v p q = subst (λ (z : Item). ItemsAgree ns z v) (some_same x u (sym a.in_first ∙ p)) (subst (λ (z : Item). ItemsAgree ns x z) (some_same y v (sym a.in_second ∙ q)) agree)

    has_passed : HasPassed c l
    has_passed = let low = slice_get_within (listed l) a.before (a.name, k) a.at in record { held = a.opened.held; some = omega (arith, a.last); within = omega (arith, low, a.last) }

    name_is : name_of c l ≡ a.name
    name_is = let last : l.passed - 1 ≡ a.before = omega (arith, a.last) in ap (λ p. option_case (slice_get (listed l) p) [] (λ e. e.0)) last ∙ ap (λ o. option_case o [] (λ e. e.0)) a.at

    module _ (apart : ItemsAgree ns x y → ⊥) where
      next_is : IsNextListed ns a.es a.fs (listed l) a.name x y k
      next_is =
          let (after, is) = split_at (listed l) a.before (a.name, k) a.at in
          record { before = take a.before (listed l); after = after; order = is; agree = a.agree; under = record { in_first = a.in_first; in_second = a.in_second; apart = apart } }

      apart_above : ItemsAgree ns (item_view l.first) (item_view l.second) → ⊥
      apart_above agree = apart (open_agree ns table (item_view l.first) (item_view l.second) x y a.es a.fs a.name a.opened.first a.opened.second agree a.in_first a.in_second)

      leads_above : (names : List Name) → LeadsApart c (item_tree (tree_at ns) x) (item_tree (tree_at ns) y) k names → LeadsApart c (item_tree (tree_at ns) (item_view l.first)) (item_tree (tree_at ns) (item_view l.second)) (kind.Instance l.interface) (a.name ∷ names)
      leads_above = leads_on c ns table (item_view l.first) (item_view l.second) a.es a.fs l.interface a.opened.first a.opened.second a.opened.of_kind a.name x y k next_is

  -- ---- all levels
  module _ (first second : Item) (sort : ItemKind) where
    abbrev Levels : List Level → Item → Item → ItemKind → Type 0
    Levels = AreLevels c ns first second sort

    pub last_level : (all ls : List Level) (l : Level) (x y : Item) (k : ItemKind) → Levels all x y k → all ≡ ls ++ l ∷ [] → Levels ls (item_view l.first) (item_view l.second) (kind.Instance l.interface) × IsAbove c ns l x y k
    last_level _ ls l _ _ _ at_root e = absurd (never_nil ls l e)
    last_level _ ls l _ _ _ (under all ms m x y k is rest over) e =
        let (p, q) = last_same ms ls m l (sym is ∙ e) in (
          subst (λ (z : Level). Levels ls (item_view z.first) (item_view z.second) (kind.Instance z.interface)) q (subst (λ (zs : List Level). Levels zs (item_view m.first) (item_view m.second) (kind.Instance m.interface)) p rest),
          subst (λ (z : Level). IsAbove c ns z x y k) q over,
        )

    pub no_level : (all : List Level) (x y : Item) (k : ItemKind) → Levels all x y k → all ≡ [] → (x ≡ first) × (y ≡ second)
    no_level _ _ _ _ at_root e = (refl, refl)
    no_level _ _ _ _ (under all ms m x y k is rest over) e = absurd (never_nil ms m (sym e ∙ is))

    pub all_passed : (all : List Level) (x y : Item) (k : ItemKind) → Levels all x y k → AllByRecursion (HasPassed c) all
    all_passed _ _ _ _ at_root = tt
    all_passed _ _ _ _ (under all ls l x y k is rest over) =
        subst (λ (zs : List Level). AllByRecursion (HasPassed c) zs) (sym is) (all_pushed (HasPassed c) ls l (all_passed ls (item_view l.first) (item_view l.second) (kind.Instance l.interface) rest) (has_passed l x y k over))

    -- the way leads through the exports that were looked at last
    way : (all : List Level) (x y : Item) (k : ItemKind) → Levels all x y k → (ItemsAgree ns x y → ⊥) → (names : List Name) → LeadsApart c (item_tree (tree_at ns) x) (item_tree (tree_at ns) y) k names
        → LeadsApart c (item_tree (tree_at ns) first) (item_tree (tree_at ns) second) sort (map (name_of c) all ++ names)
    way _ _ _ _ at_root apart names leads = leads
    way _ _ _ _ (under all ls l x y k is rest over) apart names leads =
        let up = way ls (item_view l.first) (item_view l.second) (kind.Instance l.interface) rest (apart_above l x y k over apart) (over.name ∷ names) (leads_above l x y k over apart names leads) in
        let same = ap (λ zs. map (name_of c) zs ++ names) is ∙ map_pushed (name_of c) ls l names ∙ ap (λ n. map (name_of c) ls ++ n ∷ names) (name_is l x y k over) in
        subst (λ (zs : List Name). LeadsApart c (item_tree (tree_at ns) first) (item_tree (tree_at ns) second) sort zs) (sym same) up

    -- a way ends where the items of the last export do not agree and are not two instances
    pub way_found : (all ls : List Level) (l : Level) → all ≡ ls ++ l ∷ [] → Levels ls (item_view l.first) (item_view l.second) (kind.Instance l.interface) → (a : IsApartBelow c ns l)
        → AllByRecursion (HasPassed c) all × LeadsApart c (item_tree (tree_at ns) first) (item_tree (tree_at ns) second) sort (map (name_of c) all ++ [])
    way_found all ls l is rest a =
        let whole = under all ls l a.x a.y a.k is rest a.above in
        (all_passed all a.x a.y a.k whole, way all a.x a.y a.k whole a.apart [] (here (item_tree (tree_at ns) a.x) (item_tree (tree_at ns) a.y) a.k a.closed a.apart))

-- ---- how many looks are left
looks_some : (n : ℕ) (c : Collection) (k : ItemKind) → 0 < looks_to n c k
looks_some zero c k = omega arith
looks_some (suc n) c (kind.TypeItem _) = omega arith
looks_some (suc n) c (kind.Func _) = omega arith
looks_some (suc n) c (kind.Instance _) = omega arith
looks_some (suc n) c (kind.Component _) = omega arith
looks_some (suc n) c (kind.Module _) = omega arith
looks_some (suc n) c (kind.Value _) = omega arith

by_more : (f g : ItemKind → ℕ) (es : List (Name × ItemKind)) → ((k : ItemKind) → f k ≤ g k) → looks_by f es ≤ looks_by g es
by_more f g [] h = omega arith
by_more f g (e ∷ es) h = let one = h e.1 in let rest = by_more f g es h in omega (arith, one, rest)

looks_more : (j n : ℕ) (c : Collection) (k : ItemKind) → j ≤ n → looks_to j c k ≤ looks_to n c k
looks_more zero n c k low = looks_some n c k
looks_more (suc j) zero c k low = absurd (omega (arith, low))
looks_more (suc j) (suc n) c (kind.Instance i) low = let all = by_more (looks_to j c) (looks_to n c) (interface_exports c i) (λ k. looks_more j n c k (omega (arith, low))) in omega (arith, all)
looks_more (suc j) (suc n) c (kind.TypeItem _) low = omega arith
looks_more (suc j) (suc n) c (kind.Func _) low = omega arith
looks_more (suc j) (suc n) c (kind.Component _) low = omega arith
looks_more (suc j) (suc n) c (kind.Module _) low = omega arith
looks_more (suc j) (suc n) c (kind.Value _) low = omega arith

module _ (c : Collection) where
  some_looks : (k : ItemKind) → 0 < looks_of c k
  unfolding looks_of
  some_looks k = looks_some (type_rank c (kind_type k)) c k

  all_before_looks : (n : ℕ) (es : List (Name × ItemKind)) → AllByRecursion (IsBefore c n) (kind_types es) → looks_by (looks_of c) es ≤ looks_by (looks_to n c) es
  unfolding looks_of
  all_before_looks n [] h = omega arith
  all_before_looks n (e ∷ es) h =
      let rank = before_rank c n (kind_type e.1) h.0 in
      let one : looks_of c e.1 ≤ looks_to n c e.1 = looks_more (type_rank c (kind_type e.1)) n c e.1 rank in
      let rest = all_before_looks n es h.1 in
      omega (arith, one, rest)

  -- an instance takes two more than all that it exports
  inside_less : IsWellFormed c → (i : InterfaceId) → HasInterface c i → suc (looks_by (looks_of c) (interface_exports c i)) < looks_of c (kind.Instance i)
  unfolding looks_of
  inside_less wf i held =
      let l = lists c wf (opener.Interface i) (grind arith) in
      let all = all_before_looks l.before (interface_exports c i) l.listed in
      let is : looks_of c (kind.Instance i) ≡ suc (suc (looks_by (looks_to l.before c) (interface_exports c i))) = ap (λ n. looks_to n c (kind.Instance i)) l.rank in
      omega (arith, all, is)

  pushed_left : (ls : List Level) (l : Level) → left_in c (ls ++ l ∷ []) ≡ left_in c ls + left_at c l
  unfolding left_in
  pushed_left [] l = omega arith
  pushed_left (m ∷ ls) l = let rest = pushed_left ls l in omega (arith, rest)

  -- one look less
  one_less : (l m : Level) (e : Name × ItemKind) → slice_get (interface_exports c l.interface) l.passed ≡ Some e → m ≡ record { first = l.first; second = l.second; interface = l.interface; passed = l.passed + 1 } → left_at c l ≡ looks_of c e.1 + left_at c m
  one_less l m e at is =
      let next : left_at c m ≡ suc (looks_by (looks_of c) (drop (suc l.passed) (interface_exports c l.interface))) = ap (left_at c) is ∙ ap (λ n. suc (looks_by (looks_of c) (drop n (interface_exports c l.interface)))) (add-one l.passed) in
      let now : left_at c l ≡ suc (looks_of c e.1 + looks_by (looks_of c) (drop (suc l.passed) (interface_exports c l.interface))) = ap (λ es. suc (looks_by (looks_of c) es)) (drop_at (interface_exports c l.interface) l.passed e at) in
      omega (arith, next, now)

  pub less_agree : (ls : List Level) (l m : Level) → IsFurther c l m → left_in c ls + left_at c m < left_in c ls + left_at c l
  less_agree ls l m f = let (e, at) = there (interface_exports c l.interface) l.passed f.within in let one = one_less l m e at f.is in let some = some_looks e.1 in omega (arith, one, some) where
    there : {A : Type 0} (xs : List A) (i : ℕ) → i < length xs → (x : A) × (slice_get xs i ≡ Some x)
    there [] i low = absurd (omega (arith, low))
    there (x ∷ xs) zero low = (x, refl)
    there (x ∷ xs) (suc i) low = there xs i (omega (arith, low))

  pub less_inside : IsWellFormed c → (ns : List Node) (ls all : List Level) (l m k : Level) → IsFurther c l m → IsAbove c ns m (item_view k.first) (item_view k.second) (kind.Instance k.interface) → HasInterface c k.interface → k.passed ≡ 0 → all ≡ ls ++ m ∷ []
      → left_in c all + left_at c k < left_in c ls + left_at c l
  less_inside wf ns ls all l m k f a held none is =
      let same : a.before ≡ l.passed = let p = a.last in let q = ap (λ (z : Level). z.passed) f.is in omega (arith, p, q) in
      let at : slice_get (interface_exports c l.interface) l.passed ≡ Some (a.name, kind.Instance k.interface) = ap (λ n. slice_get (interface_exports c l.interface) n) (sym same) ∙ ap (λ (z : Level). slice_get (interface_exports c z.interface) a.before) (sym f.is) ∙ a.at in
      let one = one_less l m (a.name, kind.Instance k.interface) at f.is in
      let inside = inside_less wf k.interface held in
      let start : left_at c k ≡ suc (looks_by (looks_of c) (interface_exports c k.interface)) = ap (λ n. suc (looks_by (looks_of c) (drop n (interface_exports c k.interface)))) none in
      let pushed = ap (left_in c) is ∙ pushed_left ls m in
      omega (arith, one, inside, start, pushed)

  pub less_done : (ls all : List Level) (l m : Level) → all ≡ ls ++ l ∷ [] → left_in c ls + left_at c l < left_in c all + left_at c m
  less_done ls all l m is = let pushed = ap (left_in c) is ∙ pushed_left ls l in omega (arith, pushed)

-- ---- names
name_read : (o : Option (Name × ItemKind)) (n : Name) → option_map (λ e. e.0) o ≡ Some n → option_case o [] (λ e. e.0) ≡ n
name_read None n e = cc e
name_read (Some e) n h = some_same e.0 n h

-- one name more was read
pub names_further : (c : Collection) (ls : List Level) (i : ℕ) (d : Level) (x : Interface) (n : Name) (t : String Global) (ns ms : List (String Global)) → i < length ls → item_at c.interfaces (get_or ls i d).interface.0 ≡ Some x
    → option_map (λ e. e.0) (slice_get x.exports ((get_or ls i d).passed - 1)) ≡ Some n → ms ≡ ns ++ t ∷ [] → string_bytes t ≡ n → map string_bytes ns ≡ map (name_of c) (take i ls) → map string_bytes ms ≡ map (name_of c) (take (i + 1) ls)
names_further c ls i d x n t ns ms low held read more is so =
    let l = get_or ls i d in
    let at : slice_get ls i ≡ Some l = slice_get-get_or ls i d low in
    let order : interface_exports c l.interface ≡ x.exports = ap (λ o. option_case o [] (λ z. z.exports)) held in
    let named : name_of c l ≡ n = ap (λ es. option_case (slice_get es (l.passed - 1)) [] (λ e. e.0)) order ∙ name_read (slice_get x.exports (l.passed - 1)) n read in
    let far : take (i + 1) ls ≡ take i ls ++ l ∷ [] = rw add-one (take_at ls i l at) in
    ap (map string_bytes) more ∙ map-append string_bytes ns (t ∷ []) ∙ ap (λ z. map string_bytes ns ++ z ∷ []) (is ∙ sym named) ∙ ap (λ xs. xs ++ name_of c l ∷ []) so ∙ sym (map-append (name_of c) (take i ls) (l ∷ [])) ∙ ap (map (name_of c)) (sym far)
