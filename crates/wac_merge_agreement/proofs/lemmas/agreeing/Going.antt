-- From the members of classes to the answer, group by group.
use Rattle.std.proofs.Common.{◌≡◌, ℕ, zero, suc, ◌+◌, ◌<◌, ◌≤◌, List, [], ◌∷◌, ◌++◌, ◌⊎◌, inl, inr, length, Option, Some, None, refl, ap, sym, ◌∙◌, subst, arith}
use Rattle.std.specs.Prelude.{slice_get}
use Rattle.std.specs.List.{AllByRecursion}
use Rattle.std.specs.Option.{MatchOption}
use Rattle.std.proofs.lemmas.Option.{slice_get_within}
use Rattle.wac_types_shapes.specs.primitives.Name.{Name, find_name, option_case}
use Rattle.wac_merge_tables.specs.private.tables.Nodes.{Item, Node, type_of, IsTable}
use Rattle.wac_merge_classes.proofs.lemmas.entries.Lists.{some-at}
use Rattle.wac_merge_classes.proofs.lemmas.terms.Found.{no_some, some_same, one_some, find_at, less_cases}
use Rattle.wac_merge_agreement.specs.private.agreeing.Fitting.{exports_of, IsOpen}
use Rattle.wac_merge_agreement.specs.private.agreeing.Apart.{AllAgree, AreApart, IsFirstApart, ItemsAgree}
use Rattle.wac_merge_agreement.specs.private.agreeing.Rows.{Row, Spot, of_class, export, Table, ArePut, members_put, exports_put, all_put, groups_view}
use Rattle.wac_merge_agreement.specs.private.agreeing.Groups.{AreOrdered, AreRows, AreTogether, ComparesAll, HasBy, IsFull, IsGoing, IsKnown, IsLooked, IsNoLater}
use Rattle.wac_merge_agreement.specs.declared.agreeing.agreement.Walk.{Walk}
use Rattle.wac_merge_agreement.proofs.lemmas.agreeing.Comparing.{agree_open, agree_same, all_at, all_from, all_of, at_find, child_lower, open_agree, open_sorted}
use Rattle.wac_merge_agreement.proofs.lemmas.agreeing.Tables.{all_put_from, AreSome, both_there, members_from, puts_all, puts_ordered, puts_some}
use Rattle.wac_merge_agreement.proofs.lemmas.agreeing.Looking.{compared_all, HandledIn, handled_more, HaveCompared}

-- ---- what is put
at_first : {A : Type 0} (xs ys : List A) (k : ℕ) (x : A) → slice_get xs k ≡ Some x → slice_get (xs ++ ys) k ≡ Some x
at_first [] ys k x at = absurd (no_some x at)
at_first (z ∷ xs) ys zero x at = at
at_first (z ∷ xs) ys (suc k) x at = at_first xs ys k x at

at_second : {A : Type 0} (xs ys : List A) (k : ℕ) (x : A) → slice_get ys k ≡ Some x → (m : ℕ) × (slice_get (xs ++ ys) m ≡ Some x)
at_second [] ys k x at = (k, at)
at_second (z ∷ xs) ys k x at = let (m, is) = at_second xs ys k x at in (suc m, is)

all_on : {A : Type 0} (P : A → Type 0) (xs ys : List A) → AllByRecursion P xs → AllByRecursion P ys → AllByRecursion P (xs ++ ys)
all_on P [] ys h k = k
all_on P (x ∷ xs) ys h k = (h.0, all_on P xs ys h.1 k)

-- an instance of the group lists the row's item under the spot's name
pub record IsListed (ns : List Node) (g : List Row) (s : Spot) (r : Row) : Type 0 where
  pub name : Name
  pub position : ℕ
  pub item : Item
  pub es : List (Name × Item)
  pub spot : s ≡ export name
  pub at : slice_get g position ≡ Some (r.0, item)
  pub exports : exports_of ns item ≡ Some es
  pub found : find_name es name ≡ Some r.1

-- the row is a member of the spot's class
pub record IsMember (items : List Item) (classes : List ℕ) (s : Spot) (r : Row) : Type 0 where
  pub class : ℕ
  pub spot : s ≡ of_class class
  pub class_at : slice_get classes r.0 ≡ Some class
  pub at : slice_get items r.0 ≡ Some r.1

class_same : (c d : ℕ) → of_class c ≡ of_class d → c ≡ d
class_same c d e = cc

name_same : (n m : Name) → export n ≡ export m → n ≡ m
name_same n m e = cc

none_more : (i : ℕ) → 0 + i ≡ i
none_more i = omega arith

module _ (items : List Item) (classes : List ℕ) where
  members_are : (i : ℕ) (xs : List Item) (cs : List ℕ) → ((k : ℕ) (x : Item) → slice_get xs k ≡ Some x → slice_get items (k + i) ≡ Some x) → ((k c : ℕ) → slice_get cs k ≡ Some c → slice_get classes (k + i) ≡ Some c)
      → AllByRecursion (λ p. IsMember items classes p.0 p.1) (members_put i xs cs)
  members_are i [] cs h k = tt
  members_are i (x ∷ xs) [] h k = tt
  members_are i (x ∷ xs) (c ∷ cs) h k = (
    record { class = c; spot = refl; class_at = subst (λ (n : ℕ). slice_get classes n ≡ Some c) (none_more i) (k 0 c refl); at = subst (λ (n : ℕ). slice_get items n ≡ Some x) (none_more i) (h 0 x refl) },
    members_are (suc i) xs cs (λ j y at. let e : suc j + i ≡ j + suc i = omega arith in subst (λ (n : ℕ). slice_get items n ≡ Some y) e (h (suc j) y at))
        (λ j d at. let e : suc j + i ≡ j + suc i = omega arith in subst (λ (n : ℕ). slice_get classes n ≡ Some d) e (k (suc j) d at)),
  )

  pub all_members : AllByRecursion (λ p. IsMember items classes p.0 p.1) (members_put 0 items classes)
  all_members = members_are 0 items classes (λ j y at. let e : j ≡ j + 0 = omega arith in subst (λ (n : ℕ). slice_get items n ≡ Some y) e at) (λ j d at. let e : j ≡ j + 0 = omega arith in subst (λ (n : ℕ). slice_get classes n ≡ Some d) e at)

members_at : (i : ℕ) (xs : List Item) (cs : List ℕ) (k c : ℕ) (x : Item) → slice_get xs k ≡ Some x → slice_get cs k ≡ Some c → slice_get (members_put i xs cs) k ≡ Some (of_class c, (k + i, x))
members_at i [] cs k c x at class_at = absurd (no_some x at)
members_at i (y ∷ xs) [] k c x at class_at = absurd (no_some c class_at)
members_at i (y ∷ xs) (d ∷ cs) zero c x at class_at =
    let same : y ≡ x = some_same y x at in
    let one : d ≡ c = some_same d c class_at in
    let e : i ≡ 0 + i = sym (none_more i) in
    (λ t. Some (of_class (one t), (e t, same t)))
members_at i (y ∷ xs) (d ∷ cs) (suc k) c x at class_at =
    let e : k + suc i ≡ suc k + i = omega arith in
    subst (λ (n : ℕ). slice_get (members_put (suc i) xs cs) k ≡ Some (of_class c, (n, x))) e (members_at (suc i) xs cs k c x at class_at)

pub members_from_first : (xs : List Item) (cs : List ℕ) (k c : ℕ) (x : Item) → slice_get xs k ≡ Some x → slice_get cs k ≡ Some c → slice_get (members_put 0 xs cs) k ≡ Some (of_class c, (k, x))
members_from_first xs cs k c x at class_at = let e : k + 0 ≡ k = omega arith in subst (λ (n : ℕ). slice_get (members_put 0 xs cs) k ≡ Some (of_class c, (n, x))) e (members_at 0 xs cs k c x at class_at)

pub members_length : (i : ℕ) (xs : List Item) (cs : List ℕ) → length (members_put i xs cs) ≤ length xs
members_length i [] cs = omega arith
members_length i (x ∷ xs) [] = omega arith
members_length i (x ∷ xs) (c ∷ cs) = let rest = members_length (suc i) xs cs in omega (arith, rest)

module _ (ns : List Node) (table : IsTable ns) where
  listed_by : (g : List Row) (r : Row) (m : ℕ) → slice_get g m ≡ Some r → (all : List (Name × Item)) → exports_of ns r.1 ≡ Some all → (es : List (Name × Item)) → ((k : ℕ) (e : Name × Item) → slice_get es k ≡ Some e → find_name all e.0 ≡ Some e.1)
      → AllByRecursion (λ p. IsListed ns g p.0 p.1) (exports_put r.0 es)
  listed_by g r m at all ex [] h = tt
  listed_by g r m at all ex (e ∷ es) h =
      (record { name = e.0; position = m; item = r.1; es = all; spot = refl; at = at; exports = ex; found = h 0 e refl }, listed_by g r m at all ex es (λ k f also. h (suc k) f also))

  listed_one : (g : List Row) (r : Row) (m : ℕ) (o : Option (List (Name × Item))) → slice_get g m ≡ Some r → exports_of ns r.1 ≡ o → AllByRecursion (λ p. IsListed ns g p.0 p.1) (option_case o [] (exports_put r.0))
  listed_one g r m None at ex = tt
  listed_one g r m (Some es) at ex = listed_by g r m at es ex es (λ k e also. at_find es k e.0 e.1 (open_sorted ns table r.1 es ex) also)

  listed_all : (g rs : List Row) → ((k : ℕ) (r : Row) → slice_get rs k ≡ Some r → (m : ℕ) × (slice_get g m ≡ Some r)) → AllByRecursion (λ p. IsListed ns g p.0 p.1) (all_put ns rs)
  listed_all g [] h = tt
  listed_all g (r ∷ rs) h =
      let (m, at) = h 0 r refl in
      all_on (λ p. IsListed ns g p.0 p.1) (option_case (exports_of ns r.1) [] (exports_put r.0)) (all_put ns rs) (listed_one g r m (exports_of ns r.1) at refl) (listed_all g rs (λ k q also. h (suc k) q also))

  exports_at : (e : ℕ) (es : List (Name × Item)) (p : ℕ) (n : Name) (a : Item) → slice_get es p ≡ Some (n, a) → slice_get (exports_put e es) p ≡ Some (export n, (e, a))
  exports_at e [] p n a at = absurd (no_some (n, a) at)
  exports_at e (x ∷ es) zero n a at = ap (λ (z : Name × Item). Some (export z.0, (e, z.1))) (some_same x (n, a) at)
  exports_at e (x ∷ es) (suc p) n a at = exports_at e es p n a at

  all_put_at : (g : List Row) (k e : ℕ) (x : Item) (es : List (Name × Item)) (p : ℕ) (n : Name) (a : Item) → slice_get g k ≡ Some (e, x) → exports_of ns x ≡ Some es → slice_get es p ≡ Some (n, a)
      → (m : ℕ) × (slice_get (all_put ns g) m ≡ Some (export n, (e, a)))
  all_put_at [] k e x es p n a at ex there = absurd (no_some (e, x) at)
  all_put_at (r ∷ g) zero e x es p n a at ex there =
      let same : r ≡ (e, x) = some_same r (e, x) at in (
        p,
        subst (λ (z : Row). slice_get (option_case (exports_of ns z.1) [] (exports_put z.0) ++ all_put ns g) p ≡ Some (export n, (e, a))) (sym same)
            (subst (λ o. slice_get (option_case o [] (exports_put e) ++ all_put ns g) p ≡ Some (export n, (e, a))) (sym ex) (at_first (exports_put e es) (all_put ns g) p (export n, (e, a)) (exports_at e es p n a there))),
      )
  all_put_at (r ∷ g) (suc k) e x es p n a at ex there =
      let (m, is) = all_put_at g k e x es p n a at ex there in at_second (option_case (exports_of ns r.1) [] (exports_put r.0)) (all_put ns g) m (export n, (e, a)) is

  module _ (items : List Item) (classes : List ℕ) (low : (j : ℕ) (x : Item) → slice_get items j ≡ Some x → type_of x < length ns) where
    -- members of one class
    members_rows : (u : Table) → ArePut [] (members_put 0 items classes) u → AllByRecursion (λ g. AreRows ns items classes g.1) u
    members_rows u are = all_from (λ (g : Spot × List Row). AreRows ns items classes g.1) u (λ k g at. record {
      full = (all_at (λ (g : Spot × List Row). 0 < length g.1) u k g some at, all_from (λ (r : Row). type_of r.1 < length ns) g.1 (λ l r is. low r.0 r.1 (member k g at l r is).at));
      ordered = all_at (λ (z : Spot × List Row). AreOrdered z.1) u k g in_order at;
      together = λ l m r q is also. joined g.0 r q (member k g at l r is) (member k g at m q also);
    }) where
      some : AreSome u
      some = puts_some (members_put 0 items classes) [] u are tt

      in_order : AllByRecursion (λ (z : Spot × List Row). AreOrdered z.1) u
      in_order = puts_ordered 0 (members_put 0 items classes) [] u are (members_from 0 items classes) tt tt

      member : (k : ℕ) (g : Spot × List Row) → slice_get u k ≡ Some g → (l : ℕ) (r : Row) → slice_get g.1 l ≡ Some r → IsMember items classes g.0 r
      member k g at l r is =
          all_at (IsMember items classes g.0) g.1 l r (all_at (λ (h : Spot × List Row). AllByRecursion (IsMember items classes h.0) h.1) u k g (puts_all (IsMember items classes) (members_put 0 items classes) [] u are (all_members items classes) tt) at) is

      joined : (s : Spot) (r q : Row) → IsMember items classes s r → IsMember items classes s q → AreTogether ns items classes r q
      joined s r q a b = record {
        class = a.class;
        first = r.1;
        second = q.1;
        at_first = a.at;
        at_second = b.at;
        class_of_first = a.class_at;
        class_of_second = b.class_at ∙ ap Some (class_same b.class a.class (sym b.spot ∙ a.spot));
        agree = λ h. h;
      }

    -- what the instances of a group export
    listed_rows : (g : List Row) (u : Table) → AreRows ns items classes g → ArePut [] (all_put ns g) u → AllByRecursion (λ g. AreRows ns items classes g.1) u
    listed_rows g u rows are = all_from (λ (z : Spot × List Row). AreRows ns items classes z.1) u (λ k z at. record {
      full = (all_at (λ (z : Spot × List Row). 0 < length z.1) u k z some at, all_from (λ (r : Row). type_of r.1 < length ns) z.1 (λ l r is. lower z.0 r (member k z at l r is)));
      ordered = all_at (λ (z : Spot × List Row). AreOrdered z.1) u k z in_order at;
      together = λ l m r q is also. joined z.0 r q (member k z at l r is) (member k z at m q also);
    }) where
      some : AreSome u
      some = puts_some (all_put ns g) [] u are tt

      in_order : AllByRecursion (λ (z : Spot × List Row). AreOrdered z.1) u
      in_order = puts_ordered 0 (all_put ns g) [] u are (all_put_from ns 0 g rows.ordered (all_of (λ (r : Row) (h : type_of r.1 < length ns). omega arith) g rows.full.1)) tt tt

      member : (k : ℕ) (z : Spot × List Row) → slice_get u k ≡ Some z → (l : ℕ) (r : Row) → slice_get z.1 l ≡ Some r → IsListed ns g z.0 r
      member k z at l r is =
          all_at (IsListed ns g z.0) z.1 l r (all_at (λ (h : Spot × List Row). AllByRecursion (IsListed ns g h.0) h.1) u k z (puts_all (IsListed ns g) (all_put ns g) [] u are (listed_all g g (λ m q so. (m, so))) tt) at) is

      lower : (s : Spot) (r : Row) → IsListed ns g s r → type_of r.1 < length ns
      lower s r a =
          let above = all_at (λ (q : Row). type_of q.1 < length ns) g a.position (r.0, a.item) rows.full.1 a.at in
          let under = child_lower ns table a.item r.1 a.es a.name a.exports a.found in omega (arith, above, under)

      joined : (s : Spot) (r q : Row) → IsListed ns g s r → IsListed ns g s q → AreTogether ns items classes r q
      joined s r q a b =
          let t = rows.together a.position b.position (r.0, a.item) (q.0, b.item) a.at b.at in
          let name : b.name ≡ a.name = name_same b.name a.name (sym b.spot ∙ a.spot) in
          record {
            class = t.class;
            first = t.first;
            second = t.second;
            at_first = t.at_first;
            at_second = t.at_second;
            class_of_first = t.class_of_first;
            class_of_second = t.class_of_second;
            agree = λ h. open_agree ns table a.item b.item r.1 q.1 a.es b.es a.name a.exports b.exports (t.agree h) a.found (ap (find_name b.es) (sym name) ∙ b.found);
          }

    -- they may be compared
    pub members_full : (u : Table) → ArePut [] (members_put 0 items classes) u → AllByRecursion (λ g. IsFull ns g.1) u
    members_full u are = all_of (λ (g : Spot × List Row) (h : AreRows ns items classes g.1). h.full) u (members_rows u are)

    pub listed_full : (w : Walk) (k : ℕ) (g : List Row) (u : Table) → IsGoing ns items classes w k → slice_get (groups_view w.groups.keys) k ≡ Some g → ArePut [] (all_put ns g) u → AllByRecursion (λ z. IsFull ns z.1) u
    listed_full w k g u going at are = all_of (λ (z : Spot × List Row) (h : AreRows ns items classes z.1). h.full) u (listed_rows g u (going.known.groups k g at).0 are)

    -- ---- at the start
    pub going_first : (w v : Walk) (u : Table) → groups_view w.groups.keys ≡ [] → w.first ≡ None → ArePut [] (members_put 0 items classes) u → ComparesAll ns w u v → IsGoing ns items classes v 0
    going_first w v u empty first are all = record {
      known = h.known;
      roots = λ i j c x y less at also class_at class_also. root i j c x y less at also class_at class_also;
      looked = λ l g less at. absurd (omega (arith, less));
    } where
      known : IsKnown ns items classes w
      known = record {
        groups = λ k g at. absurd (no_some g (subst (λ (l : List (List Row)). slice_get l k ≡ Some g) empty at));
        first = λ b is. absurd (no_some b (sym first ∙ is));
      }

      h : HaveCompared ns items classes u w v
      h = compared_all ns table items classes w v u known (members_rows u are) all

      root : (i j c : ℕ) (x y : Item) → i < j → slice_get items i ≡ Some x → slice_get items j ≡ Some y → slice_get classes i ≡ Some c → slice_get classes j ≡ Some c → HandledIn v (i, j) x y
      root i j c x y less at also class_at class_also =
          let (k, rows, l, m, there, first, second) = both_there (members_put 0 items classes) u i j (of_class c) (i, x) (j, y) are (members_from_first items classes i c x at class_at) (members_from_first items classes j c y also class_also) in
          h.handled k (of_class c) rows i j x y there less (record { position = l; earliest = i; at = first; before = omega arith }) (record { position = m; earliest = j; at = second; before = omega arith })

    -- ---- one group more
    pub going_next : (w v : Walk) (k : ℕ) (g : List Row) (u : Table) → IsGoing ns items classes w k → slice_get (groups_view w.groups.keys) k ≡ Some g → ArePut [] (all_put ns g) u → ComparesAll ns w u v → IsGoing ns items classes v (k + 1)
    going_next w v k g u going at are all = record {
      known = h.known;
      roots = λ i j c x y less one also class_at class_also. handled_more w v (i, j) x y h.grown (going.roots i j c x y less one also class_at class_also);
      looked = λ l z less also. look l z (less_cases l k less) also;
    } where
      h : HaveCompared ns items classes u w v
      h = compared_all ns table items classes w v u going.known (listed_rows g u (going.known.groups k g at).0 are) all

      now : IsLooked ns (groups_view v.groups.keys) v.first g
      now i j x y n es fs a b less p q ex fx found also =
          let (m, first) = find_at es n a found in
          let (o, second) = find_at fs n b also in
          let (c, put_first) = all_put_at g p.position p.earliest x es m n a p.at ex first in
          let (d, put_second) = all_put_at g q.position q.earliest y fs o n b q.at fx second in
          let (l, rows, e, f, there, is, so) = both_there (all_put ns g) u c d (export n) (p.earliest, a) (q.earliest, b) are put_first put_second in
          h.handled l (export n) rows i j a b there less (record { position = e; earliest = p.earliest; at = is; before = p.before }) (record { position = f; earliest = q.earliest; at = so; before = q.before })

      look : (l : ℕ) (z : List Row) → (l < k) ⊎ (l ≡ k) → slice_get (groups_view v.groups.keys) l ≡ Some z → IsLooked ns (groups_view v.groups.keys) v.first z
      look l z (inl less) also =
          let within = slice_get_within (groups_view w.groups.keys) k g at in
          let (e, was) = some-at (groups_view w.groups.keys) l (omega (arith, less, within)) in
          let same : e ≡ z = one_some (slice_get (groups_view v.groups.keys) l) e z (h.grown.groups l e was) also in
          λ i j x y n es fs a b before p q ex fx found too. handled_more w v (i, j) a b h.grown (going.looked l z less (was ∙ ap Some same) i j x y n es fs a b before p q ex fx found too)
      look l z (inr last) also =
          let same : g ≡ z = one_some (slice_get (groups_view v.groups.keys) k) g z (h.grown.groups k g at) (ap (slice_get (groups_view v.groups.keys)) (sym last) ∙ also) in
          subst (λ (y : List Row). IsLooked ns (groups_view v.groups.keys) v.first y) same now

    -- ---- at the end
    module _ (w : Walk) (k : ℕ) (going : IsGoing ns items classes w k) (all_met : length (groups_view w.groups.keys) ≤ k) where
      abbrev Clear : ℕ → ℕ → Type 0
      Clear i j = (b : ℕ × ℕ) → w.first ≡ Some b → IsNoLater b (i, j) → ⊥

      agree_group : (fuel l : ℕ) (g : List Row) (i j : ℕ) (x y : Item) → type_of x < fuel → slice_get (groups_view w.groups.keys) l ≡ Some g → i < j → Clear i j → HasBy g i x → HasBy g j y → ItemsAgree ns x y
      agree_group zero l g i j x y low at less clear p q = absurd (omega (arith, low))
      agree_group (suc fuel) l g i j x y low at less clear p q =
          let (es, ex) = all_at (λ (r : Row). IsOpen ns r.1) g p.position (p.earliest, x) (going.known.groups l g at).1 p.at in
          let (fs, fx) = all_at (λ (r : Row). IsOpen ns r.1) g q.position (q.earliest, y) (going.known.groups l g at).1 q.at in
          let within = slice_get_within (groups_view w.groups.keys) l g at in
          agree_open ns table x y es fs ex fx (λ n a b found also.
          by a b (child_lower ns table x a es n ex found) (λ m z smaller there c d. agree_group fuel m z i j a b smaller there less clear c d)
          (going.looked l g (omega (arith, within, all_met)) at i j x y n es fs a b less p q ex fx found also)) where
            by : (a b : Item) → type_of a < type_of x → ((m : ℕ) (z : List Row) → type_of a < fuel → slice_get (groups_view w.groups.keys) m ≡ Some z → HasBy z i a → HasBy z j b → ItemsAgree ns a b) → HandledIn w (i, j) a b → ItemsAgree ns a b
            by a b under next (inl same) = agree_same ns table a b same
            by a b under next (inr (inl (c, is, no_later))) = absurd (clear c is no_later)
            by a b under next (inr (inr (m, z, there, c, d))) = next m z (omega (arith, under, low)) there c d

      agree_clear : (i j c : ℕ) (x y : Item) → i < j → Clear i j → slice_get items i ≡ Some x → slice_get items j ≡ Some y → slice_get classes i ≡ Some c → slice_get classes j ≡ Some c → ItemsAgree ns x y
      agree_clear i j c x y less clear at also class_at class_also = by (going.roots i j c x y less at also class_at class_also) where
        by : HandledIn w (i, j) x y → ItemsAgree ns x y
        by (inl same) = agree_same ns table x y same
        by (inr (inl (b, is, no_later))) = absurd (clear b is no_later)
        by (inr (inr (m, z, there, p, q))) = agree_group (suc (type_of x)) m z i j x y (omega arith) there less clear p q

      never_apart : (i j : ℕ) → Clear i j → AreApart ns items classes i j → ⊥
      never_apart i j clear h = h.apart (agree_clear i j h.class h.earlier h.later h.before clear h.at_first h.at_second h.class_of_first h.class_of_second)

      least_or : (a b : ℕ) → (a ≤ b) ⊎ (b < a)
      least_or zero b = inl (omega arith)
      least_or (suc a) zero = inr (omega arith)
      least_or (suc a) (suc b) = step (least_or a b) where
        step : (a ≤ b) ⊎ (b < a) → (suc a ≤ suc b) ⊎ (suc b < suc a)
        step (inl h) = inl (omega (arith, h))
        step (inr h) = inr (omega (arith, h))

      not_before : (p : ℕ × ℕ) (i j : ℕ) → j < p.1 → IsNoLater p (i, j) → ⊥
      not_before p i j less (inl h) = absurd (omega (arith, less, h))
      not_before p i j less (inr (e, _)) = absurd (omega (arith, less, e))

      not_with : (p : ℕ × ℕ) (i : ℕ) → i < p.0 → IsNoLater p (i, p.1) → ⊥
      not_with p i less (inl h) = absurd (omega (arith, h))
      not_with p i less (inr (_, l)) = absurd (omega (arith, less, l))

      first_of : (p : ℕ × ℕ) → w.first ≡ Some p → IsFirstApart ns items classes p.0 p.1
      first_of p is = record {
        apart = going.known.first p is;
        earliest = λ i j h. early i j h (least_or p.1 j);
        with_earliest = λ i h. no_less i h (least_or p.0 i);
      } where
        early : (i j : ℕ) → AreApart ns items classes i j → (p.1 ≤ j) ⊎ (j < p.1) → p.1 ≤ j
        early i j h (inl low) = low
        early i j h (inr less) = absurd (never_apart i j (λ b so no_later. not_before p i j less (subst (λ (c : ℕ × ℕ). IsNoLater c (i, j)) (one_some w.first b p so is) no_later)) h)

        no_less : (i : ℕ) → AreApart ns items classes i p.1 → (p.0 ≤ i) ⊎ (i < p.0) → p.0 ≤ i
        no_less i h (inl low) = low
        no_less i h (inr less) = absurd (never_apart i p.1 (λ b so no_later. not_with p i less (subst (λ (c : ℕ × ℕ). IsNoLater c (i, p.1)) (one_some w.first b p so is) no_later)) h)

      pub told : MatchOption w.first (AllAgree ns items classes) (λ p. IsFirstApart ns items classes p.0 p.1)
      told = go w.first refl where
        go : (o : Option (ℕ × ℕ)) → w.first ≡ o → MatchOption o (AllAgree ns items classes) (λ p. IsFirstApart ns items classes p.0 p.1)
        go None is = λ i j c x y less within at also class_at class_also. agree_clear i j c x y less (λ b so no_later. no_some b (sym is ∙ so)) at also class_at class_also
        go (Some p) is = first_of p is
