-- Tasks: what is asked for with what is left to do stands for what was wanted, and there is less to do each time.
use Rattle.std.proofs.Common.{◌≡◌, ℕ, suc, ◌+◌, ◌<◌, ◌≤◌, ◌⊎◌, inl, inr, Contains, true, List, [], ◌∷◌, ◌++◌, length, map, Result, Ok, Err, OnOk, refl, ap, sym, ◌∙◌, subst, append_assoc, append-nil, arith}
use Rattle.std.specs.Prelude.{nat_lt}
use Rattle.std.specs.List.{AllByRecursion, flat_map}
use Rattle.std.specs.declared.alloc.AllocError.{AllocError}
use Rattle.std.proofs.lemmas.Bool.Decides.{nat_tests}
use Rattle.std.proofs.lemmas.List.{map-append}
use Rattle.wac_types_shapes.specs.primitives.Name.{Name}
use Rattle.wac_types_collection.specs.collection.Collection.{Collection, IsWellFormed, HasInterface, holds_type, interface_exports}
use Rattle.wac_types_shapes.specs.shapes.Kinds.{kind_type}
use Rattle.wac_types_shapes.specs.declared.shapes.component.InterfaceId.{InterfaceId}
use Rattle.wac_types_shapes.specs.declared.shapes.component.ItemKind.{ItemKind}
use Rattle.wac_types_shapes.specs.declared.shapes.component.ItemKind.TheVariants as kind
use Rattle.wac_types_shapes.specs.declared.shapes.component.UsedType.{UsedType}
use Rattle.wac_types_collection.specs.wide.Wide.{interface_uses, instances_of, with_each}
use Rattle.wac_types_collection.proofs.lemmas.wide.Members.{in_none, in_one}
use Rattle.wac_types_collection.proofs.lemmas.wide.Once.{among_in, each_known, each_only}
use Rattle.wac_graph_fields.specs.declared.asked.Asking.{Asking}
use Rattle.wac_graph_fields.specs.declared.asked.Task.{Task}
use Rattle.wac_graph_fields.specs.declared.asked.Task.TheVariants.{Visit, Open, Close}
use Rattle.wac_graph_model.specs.nodes.Asked.{Entry}
use Rattle.wac_graph_model.specs.nodes.Entries.{under_id, used_by, with_used}
use Rattle.wac_graph_fields.specs.private.EntriesLeft.{by_node, instance_under, has, HasAll, added, AreSettled, AsksAlike, IsSettled, entries_of, openings, visits, inner_tasks, task_id, task_items, tasks_items, tasks_entries, total, weight_to, task_weight, tasks_weight, rank, IsHeldTask, IsHeldKind, Did, divided, met, entered, closed, passed, IsOpen, IsUnderWay}
use Rattle.wac_graph_fields.proofs.EntryLists.{all_each, all_front, all_last, all_joined, has_by, has_behind, has_added, has_added_too, has_without, all_moved, all_renumbered, settled_joined, settled_has, stands_itself, stands_through, stands_more, stands_without, stands_added}
use Rattle.wac_graph_fields.proofs.UsedEntries.{IsUsed, own_below, inner_below, step_items, used_parts, used_settled, used_there, inner_weighs}

total_joined : {A : Type 0} (f : A → ℕ) (xs ys : List A) → total f (xs ++ ys) ≡ total f xs + total f ys
total_joined f [] ys = omega arith
total_joined f (x ∷ xs) ys = let e = total_joined f xs ys in omega (arith, e)

head_is : {A : Type 0} (a b : A) (xs ys : List A) → a ∷ xs ≡ b ∷ ys → a ≡ b
head_is a b xs ys e = cc

tail_is : {A : Type 0} (a b : A) (xs ys : List A) → a ∷ xs ≡ b ∷ ys → xs ≡ ys
tail_is a b xs ys e = cc

pub stands_settled : (c : Collection) (a b : List Entry) → AsksAlike c a b → AreSettled c [] a → AreSettled c [] b
stands_settled c a b f h = subst (λ t. AreSettled c [] t) (append-nil b) (f.settled [] (subst (λ t. AreSettled c [] t) (sym (append-nil a)) h))

pub on_ok : {A B : Type 0} (r : Result (Unit {0}) AllocError) → (A → B) → OnOk r A → OnOk r B
on_ok (Ok _) f h = f h
on_ok (Err _) f h = h

pub on_both : {A B D : Type 0} (r : Result (Unit {0}) AllocError) → (A → B → D) → OnOk r A → OnOk r B → OnOk r D
on_both (Ok _) f a b = f a b
on_both (Err _) f a b = a

pub held_instance : (c : Collection) (k : ItemKind) (i : InterfaceId) → k ≡ kind.Instance i → IsHeldKind c k → HasInterface c i
held_instance c k i is h = under (ap (λ (l : ItemKind). holds_type c (kind_type l)) (sym is) ∙ h) where
  under : nat_lt i.0 (length c.interfaces) ≡ true → i.0 < length c.interfaces
  under h = grind (arith, nat_tests)

module _ (c : Collection) where
  -- ---- what tasks come to
  tasks_joined : (xs ys : List Task) → tasks_items c (xs ++ ys) ≡ tasks_items c ys ++ tasks_items c xs
  tasks_joined [] ys = sym (append-nil (tasks_items c ys))
  tasks_joined (x ∷ xs) ys = ap (λ es. es ++ task_items c x) (tasks_joined xs ys) ∙ append_assoc (tasks_items c ys) (tasks_items c xs) (task_items c x)

  openings_items : (us : List (Name × UsedType)) → tasks_items c (openings us) ≡ flat_map (λ u. step_items c (u.1.interface)) us
  openings_items [] = refl
  openings_items (u ∷ us) = tasks_joined (openings us) (Open (u.1.interface) ∷ []) ∙ ap (λ es. task_items c (Open (u.1.interface)) ++ es) (openings_items us)

  visits_items : (is : List InterfaceId) → tasks_items c (visits is) ≡ flat_map (λ i. used_by c (kind.Instance i)) is
  visits_items [] = refl
  visits_items (i ∷ is) = tasks_joined (visits is) (Visit i ∷ []) ∙ ap (λ es. used_by c (kind.Instance i) ++ es) (visits_items is)

  joined_entries : (n : ℕ) (left more : List Task) → tasks_entries c n (left ++ more) ≡ tasks_entries c n more ++ tasks_entries c n left
  joined_entries n left more = ap (map (by_node n)) (tasks_joined left more) ∙ map-append (by_node n) (tasks_items c more) (tasks_items c left)

  last_entries : (n : ℕ) (left : List Task) (t : Task) → tasks_entries c n (left ++ t ∷ []) ≡ map (by_node n) (task_items c t) ++ tasks_entries c n left
  last_entries n left t = ap (map (by_node n)) (tasks_joined left (t ∷ [])) ∙ map-append (by_node n) (task_items c t) (tasks_items c left)

  module _ (wf : IsWellFormed c) where
    -- the tasks of a visit come to what the interface uses widely
    inner_items : (i : InterfaceId) → tasks_items c (inner_tasks c i) ≡ used_by c (kind.Instance i)
    inner_items i =
        let js = instances_of (interface_exports c i) in
        let us = interface_uses c i in
        tasks_joined (visits js) (openings us)
        ∙ ap (λ l. l ++ tasks_items c (visits js)) (openings_items us)
        ∙ ap (λ l. flat_map (λ (u : Name × UsedType). step_items c (u.1.interface)) us ++ l) (visits_items js)
        ∙ sym (used_parts c wf i)

    -- they are of interfaces of the collection, below the visited one
    abbrev IsInner : InterfaceId → Task → Type 0
    IsInner i t = IsUsed c wf i (task_id t)

    openings_inner : (i : InterfaceId) (us : List (Name × UsedType)) → AllByRecursion (λ u. IsUsed c wf i (u.1.interface)) us → AllByRecursion (IsInner i) (openings us)
    openings_inner i [] h = tt
    openings_inner i (u ∷ us) h = all_joined (IsInner i) (openings us) (Open (u.1.interface) ∷ []) (openings_inner i us h.1) (h.0, tt)

    visits_inner : (i : InterfaceId) (js : List InterfaceId) → AllByRecursion (IsUsed c wf i) js → AllByRecursion (IsInner i) (visits js)
    visits_inner i [] h = tt
    visits_inner i (j ∷ js) h = all_joined (IsInner i) (visits js) (Visit j ∷ []) (visits_inner i js h.1) (h.0, tt)

    inner_are : (i : InterfaceId) → AllByRecursion (IsInner i) (inner_tasks c i)
    inner_are i =
        all_joined (IsInner i) (visits (instances_of (interface_exports c i))) (openings (interface_uses c i))
        (visits_inner i (instances_of (interface_exports c i)) (inner_below c wf i)) (openings_inner i (interface_uses c i) (own_below c wf i))

    -- ---- what is done leaves less to do
    openings_weigh : (us : List (Name × UsedType)) → tasks_weight c (openings us) ≡ total (λ u. suc (suc (weight_to (suc (length c.interfaces)) c (u.1.interface)))) us
    openings_weigh [] = refl
    openings_weigh (u ∷ us) =
        let all = total_joined (task_weight c) (openings us) (Open (u.1.interface) ∷ []) in
        let rest = openings_weigh us in
        omega (arith, all, rest)

    visits_weigh : (is : List InterfaceId) → tasks_weight c (visits is) ≡ total (weight_to (suc (length c.interfaces)) c) is
    visits_weigh [] = refl
    visits_weigh (i ∷ is) =
        let all = total_joined (task_weight c) (visits is) (Visit i ∷ []) in
        let rest = visits_weigh is in
        omega (arith, all, rest)

    some_weight : (t : Task) → 0 < task_weight c t
    some_weight (Visit i) = omega arith
    some_weight (Open i) = omega arith
    some_weight (Close i) = omega arith

    less_if_left : (t : Task) (left now : List Task) → now ≡ left → tasks_weight c now < tasks_weight c (left ++ t ∷ [])
    less_if_left t left now is =
        let all = total_joined (task_weight c) left (t ∷ []) in
        let some = some_weight t in
        let same = ap (tasks_weight c) is in
        omega (arith, all, some, same)

    -- a task in whose place lighter ones stand
    less_if_lighter : (t : Task) (left more now : List Task) → now ≡ left ++ more → tasks_weight c more < task_weight c t → tasks_weight c now < tasks_weight c (left ++ t ∷ [])
    less_if_lighter t left more now is lighter =
        let all = total_joined (task_weight c) left (t ∷ []) in
        let others = total_joined (task_weight c) left more in
        let same = ap (tasks_weight c) is in
        omega (arith, all, others, same, lighter)

    inner_lighter : (i : InterfaceId) → tasks_weight c (inner_tasks c i) < task_weight c (Visit i)
    inner_lighter i =
        let all = total_joined (task_weight c) (visits (instances_of (interface_exports c i))) (openings (interface_uses c i)) in
        let own = openings_weigh (interface_uses c i) in
        let inner = visits_weigh (instances_of (interface_exports c i)) in
        let deeper = inner_weighs c wf i in
        omega (arith, all, own, inner, deeper)

    pub less_to_do : (n : ℕ) (t : Task) (old new : List Entry) (seen after : List InterfaceId) (left now : List Task) → Did c n t old new seen after left now → tasks_weight c now < tasks_weight c (left ++ t ∷ [])
    less_to_do n t old new seen after left now (met i _ _ _ _ is) = less_if_left t left now is
    less_to_do n t old new seen after left now (closed i name _ _ _ _ is) = less_if_left t left now is
    less_to_do n t old new seen after left now (passed i _ _ _ _ is) = less_if_left t left now is
    less_to_do n t old new seen after left now (divided i is _ _ made) =
        let heavy = ap (task_weight c) is in
        less_if_lighter t left (Close i ∷ Visit i ∷ []) now made (omega (arith, heavy))
    less_to_do n t old new seen after left now (entered i is _ _ made) =
        let heavy = ap (task_weight c) is in
        let light = inner_lighter i in
        less_if_lighter t left (inner_tasks c i) now made (omega (arith, heavy, light))

    -- ---- after each task the same is wanted
    -- the last task is among the last ones, if there are any
    last_of : (left rest last : List Task) (t : Task) → left ++ t ∷ [] ≡ rest ++ last → (last ≡ []) ⊎ ((before : List Task) × (last ≡ before ++ t ∷ []) × (left ≡ rest ++ before))
    last_of left [] last t parts = inr (left, sym parts, refl)
    last_of [] (r ∷ rest) last t parts = inl (none rest (tail_is t r [] (rest ++ last) parts)) where
      none : (xs : List Task) → [] ≡ xs ++ last → last ≡ []
      none [] e = sym e
      none (x ∷ xs) e = cc
    last_of (l ∷ left) (r ∷ rest) last t parts = elim (last_of left rest last t (tail_is l r (left ++ t ∷ []) (rest ++ last) parts)) [
      | inl none ↦ inl none
      | inr w ↦ inr (w.0, w.1, ap (λ x. x ∷ left) (head_is l r (left ++ t ∷ []) (rest ++ last) parts) ∙ ap (λ xs. r ∷ xs) w.2)
    ]

    module _ (n : ℕ) (wanted : List Entry) where
      module _ (t : Task) (old new : List Entry) (seen : List InterfaceId) (left more : List Task) (grown : (e : Entry) → has old e ≡ true → has new e ≡ true)
          (kept : (e : Entry) → has (old ++ map (by_node n) (task_items c t)) e ≡ true → has (new ++ tasks_entries c n more) e ≡ true)
          (low : AllByRecursion (λ x. rank c (task_id x) ≤ rank c (task_id t)) more) where
        abbrev T : List Entry
        T = map (by_node n) (task_items c t)

        still_open : (v : InterfaceId) → IsOpen c n old (left ++ t ∷ []) v → IsOpen c n new (left ++ more) v
        still_open v o = elim (last_of left o.rest o.last t o.parts) [
          | inl none ↦ record {
            rest = left ++ more;
            last = [];
            parts = sym (append-nil (left ++ more));
            lower = tt;
            found =
                let F = map (by_node n) (used_by c (kind.Instance v)) in
                let before : HasAll old F = subst (λ es. HasAll es F) (append-nil old) (subst (λ ts. HasAll (old ++ tasks_entries c n ts) F) none o.found) in
                subst (λ es. HasAll es F) (sym (append-nil new)) (all_moved old new grown F before);
          }
          | inr w ↦
              let before = w.0 in
              let F = map (by_node n) (used_by c (kind.Instance v)) in
              let R = tasks_entries c n before in
              let lower = subst (AllByRecursion (λ x. rank c (task_id x) < rank c v)) w.1 o.lower in
              let top : rank c (task_id t) < rank c v = all_last (λ x. rank c (task_id x) < rank c v) before t lower in
              let was : HasAll ((old ++ T) ++ R) F =
              subst (λ es. HasAll es F) (ap (λ es. old ++ es) (last_entries n before t) ∙ sym (append_assoc old T R)) (subst (λ ts. HasAll (old ++ tasks_entries c n ts) F) w.1 o.found) in
              record {
                rest = o.rest;
                last = before ++ more;
                parts = ap (λ ts. ts ++ more) w.2 ∙ append_assoc o.rest before more;
                lower = all_joined (λ x. rank c (task_id x) < rank c v) before more (all_front (λ x. rank c (task_id x) < rank c v) before (t ∷ []) lower)
                    (all_each (λ x. rank c (task_id x) ≤ rank c (task_id t)) (λ x. rank c (task_id x) < rank c v) (λ x le. omega (arith, le, top)) more low);
                found = subst (λ es. HasAll es F) (append_assoc new (tasks_entries c n more) R ∙ ap (λ es. new ++ es) (sym (joined_entries n before more)))
                    (all_moved ((old ++ T) ++ R) ((new ++ tasks_entries c n more) ++ R) (has_behind (old ++ T) (new ++ tasks_entries c n more) R kept) F was);
              }
        ]

        replaced : IsUnderWay c n wanted old seen (left ++ t ∷ []) → AsksAlike c (old ++ map (by_node n) (task_items c t)) (new ++ tasks_entries c n more) → AllByRecursion (IsHeldTask c) more → IsUnderWay c n wanted new seen (left ++ more)
        replaced u f held =
            let R = tasks_entries c n left in
            let is : old ++ tasks_entries c n (left ++ t ∷ []) ≡ (old ++ T) ++ R = ap (λ es. old ++ es) (last_entries n left t) ∙ sym (append_assoc old T R) in
            let now : (new ++ tasks_entries c n more) ++ R ≡ new ++ tasks_entries c n (left ++ more) = append_assoc new (tasks_entries c n more) R ∙ ap (λ es. new ++ es) (sym (joined_entries n left more)) in
            let g : AsksAlike c (old ++ tasks_entries c n (left ++ t ∷ [])) (new ++ tasks_entries c n (left ++ more)) =
            subst (λ es. AsksAlike c es (new ++ tasks_entries c n (left ++ more))) (sym is) (subst (AsksAlike c ((old ++ T) ++ R)) now (stands_more c (old ++ T) (new ++ tasks_entries c n more) R f)) in
            record {
              stands = stands_through c wanted (old ++ tasks_entries c n (left ++ t ∷ [])) (new ++ tasks_entries c n (left ++ more)) u.stands g;
              settled = stands_settled c (old ++ tasks_entries c n (left ++ t ∷ [])) (new ++ tasks_entries c n (left ++ more)) g u.settled;
              held = all_joined (IsHeldTask c) left more (all_front (IsHeldTask c) left (t ∷ []) u.held) held;
              unfinished = λ v h. still_open v (u.unfinished v h);
            }

      -- a task that is done
      done : (t : Task) (old new : List Entry) (seen : List InterfaceId) (left : List Task) → IsUnderWay c n wanted old seen (left ++ t ∷ []) → AsksAlike c (old ++ map (by_node n) (task_items c t)) new
          → ((e : Entry) → has old e ≡ true → has new e ≡ true) → ((e : Entry) → has (old ++ map (by_node n) (task_items c t)) e ≡ true → has new e ≡ true) → IsUnderWay c n wanted new seen left
      done t old new seen left u f grown kept =
          subst (IsUnderWay c n wanted new seen) (append-nil left)
          (replaced t old new seen left [] grown (λ e h. subst (λ es. has es e ≡ true) (sym (append-nil new)) (kept e h)) tt u (subst (AsksAlike c (old ++ map (by_node n) (task_items c t))) (sym (append-nil new)) f) tt)

      now_opened : (i : InterfaceId) (old : List Entry) (seen : List InterfaceId) (left : List Task) → IsUnderWay c n wanted old seen (left ++ Open i ∷ []) → IsUnderWay c n wanted old seen (left ++ Close i ∷ Visit i ∷ [])
      now_opened i old seen left u =
          let held = all_last (IsHeldTask c) left (Open i) u.held in
          replaced (Open i) old old seen left (Close i ∷ Visit i ∷ []) (λ e h. h) (λ e h. h) (omega arith, (omega arith, tt)) u (stands_itself c (old ++ map (by_node n) (task_items c (Open i)))) (held, (held, tt))

      -- what a visited interface uses is listed when its visit is next
      all_there : (i : InterfaceId) (old : List Entry) (seen : List InterfaceId) (left : List Task) → IsUnderWay c n wanted old seen (left ++ Visit i ∷ []) → Contains seen i → HasAll old (map (by_node n) (used_by c (kind.Instance i)))
      all_there i old seen left u there =
          let o = u.unfinished i there in
          let F = map (by_node n) (used_by c (kind.Instance i)) in
          elim (last_of left o.rest o.last (Visit i) o.parts) [
            | inl none ↦ subst (λ es. HasAll es F) (append-nil old) (subst (λ ts. HasAll (old ++ tasks_entries c n ts) F) none o.found)
            | inr w ↦
                let lower = subst (AllByRecursion (λ x. rank c (task_id x) < rank c i)) w.1 o.lower in
                let top : rank c i < rank c i = all_last (λ x. rank c (task_id x) < rank c i) w.0 (Visit i) lower in
                absurd (omega (arith, top))
          ]

      now_known : (i : InterfaceId) (old : List Entry) (seen : List InterfaceId) (left : List Task) → IsUnderWay c n wanted old seen (left ++ Visit i ∷ []) → Contains seen i → IsUnderWay c n wanted old seen left
      now_known i old seen left u there =
          let F = map (by_node n) (used_by c (kind.Instance i)) in
          let all = all_there i old seen left u there in
          done (Visit i) old old seen left u (stands_without c old F all) (λ e h. h) (λ e h. has_without old F e all h)

      now_visited : (i : InterfaceId) (old : List Entry) (seen : List InterfaceId) (left : List Task) → IsUnderWay c n wanted old seen (left ++ Visit i ∷ []) → IsUnderWay c n wanted old (with_each seen (i ∷ [])) (left ++ inner_tasks c i)
      now_visited i old seen left u =
          let F = map (by_node n) (used_by c (kind.Instance i)) in
          let M = inner_tasks c i in
          let same : F ≡ tasks_entries c n M = ap (map (by_node n)) (sym (inner_items i)) in
          let low = all_each (IsInner i) (λ x. rank c (task_id x) ≤ rank c i) (λ x b. let l = b.0 in omega (arith, l)) M (inner_are i) in
          let held = all_each (IsInner i) (IsHeldTask c) (λ x b. b.1) M (inner_are i) in
          let below = all_each (IsInner i) (λ x. rank c (task_id x) < rank c i) (λ x b. b.0) M (inner_are i) in
          let u2 = replaced (Visit i) old old seen left M (λ e h. h) (λ e h. subst (λ es. has (old ++ es) e ≡ true) same h) low u (subst (λ es. AsksAlike c (old ++ F) (old ++ es)) same (stands_itself c (old ++ F))) held in
          let own : IsOpen c n old (left ++ M) i = record { rest = left; last = M; parts = refl; lower = below; found = subst (λ es. HasAll (old ++ es) F) same (used_there c wf n i old) } in
          record {
            stands = u2.stands;
            settled = u2.settled;
            held = u2.held;
            unfinished = λ v h. elim (each_only seen (i ∷ []) v h) [ inl w ↦ u2.unfinished v w | inr w ↦ subst (IsOpen c n old (left ++ M)) (sym (in_one i v w)) own ];
          }

      pub still_under_way : (t : Task) (old new : List Entry) (seen after : List InterfaceId) (left now : List Task) → IsUnderWay c n wanted old seen (left ++ t ∷ []) → Did c n t old new seen after left now → IsUnderWay c n wanted new after now
      still_under_way t old new seen after left now u (divided i is same marked made) =
          let v = subst (λ x. IsUnderWay c n wanted old seen (left ++ x ∷ [])) is u in
          rw (same, marked, made) (now_opened i old seen left v)
      still_under_way t old new seen after left now u (met i is there same marked made) =
          let v = subst (λ x. IsUnderWay c n wanted old seen (left ++ x ∷ [])) is u in
          let old_one = among_in seen i there in
          let unmarked : after ≡ seen = marked ∙ each_known seen (i ∷ []) (λ k h. subst (Contains seen) (sym (in_one i k h)) old_one) in
          rw (same, unmarked, made) (now_known i old seen left v old_one)
      still_under_way t old new seen after left now u (entered i is same marked made) =
          let v = subst (λ x. IsUnderWay c n wanted old seen (left ++ x ∷ [])) is u in
          rw (same, marked, made) (now_visited i old seen left v)
      still_under_way t old new seen after left now u (closed i name is under same marked made) =
          let v = subst (λ x. IsUnderWay c n wanted old seen (left ++ x ∷ [])) is u in
          let e = by_node n (name, kind.Instance i) in
          let one : map (by_node n) (under_id c i) ≡ e ∷ [] = ap (map (by_node n)) under in
          rw (same, marked, made)
          (done (Close i) old (added old e) seen left v (subst (λ es. AsksAlike c (old ++ es) (added old e)) (sym one) (stands_added c old e)) (has_added old e)
          (λ x h. has_added_too old e x (subst (λ es. has (old ++ es) x ≡ true) one h)))
      still_under_way t old new seen after left now u (passed i is under same marked made) =
          let v = subst (λ x. IsUnderWay c n wanted old seen (left ++ x ∷ [])) is u in
          let none : old ++ map (by_node n) (under_id c i) ≡ old = ap (λ us. old ++ map (by_node n) us) under ∙ append-nil old in
          rw (same, marked, made)
          (done (Close i) old old seen left v (subst (λ es. AsksAlike c es old) (sym none) (stands_itself c old)) (λ x h. h) (λ x h. subst (λ es. has es x ≡ true) none h))

    -- at first all is left to do, at last nothing is
    pub under_way : (n : ℕ) (i : InterfaceId) (a : Asking) → HasInterface c i → IsSettled c a → IsUnderWay c n (entries_of a ++ map (by_node n) (used_by c (kind.Instance i))) (entries_of a) a.visited.keys (Visit i ∷ [])
    under_way n i a held s = record {
      stands = stands_itself c (entries_of a ++ map (by_node n) (used_by c (kind.Instance i)));
      settled = settled_joined c [] (entries_of a) (map (by_node n) (used_by c (kind.Instance i))) s.listed (used_settled c wf n i held (entries_of a));
      held = (held, tt);
      unfinished = λ v h. record {
        rest = Visit i ∷ [];
        last = [];
        parts = refl;
        lower = tt;
        found = subst (λ es. HasAll es (map (by_node n) (used_by c (kind.Instance v)))) (sym (append-nil (entries_of a))) (all_renumbered (entries_of a) 0 n (used_by c (kind.Instance v)) (s.visited v h));
      };
    }

  pub all_done : (n : ℕ) (wanted now : List Entry) (seen : List InterfaceId) → IsUnderWay c n wanted now seen [] → AsksAlike c wanted now
  all_done n wanted now seen u = subst (AsksAlike c wanted) (append-nil now) u.stands

  no_last : (rest last : List Task) → [] ≡ rest ++ last → last ≡ []
  no_last [] last e = sym e
  no_last (x ∷ rest) last e = cc

  pub all_settled : (n : ℕ) (wanted : List Entry) (a : Asking) → IsUnderWay c n wanted (entries_of a) a.visited.keys [] → IsSettled c a
  all_settled n wanted a u = record {
    listed = subst (AreSettled c []) (append-nil (entries_of a)) u.settled;
    visited = λ v h.
        let o = u.unfinished v h in
        let F = map (by_node n) (used_by c (kind.Instance v)) in
        all_renumbered (entries_of a) n 0 (used_by c (kind.Instance v))
        (subst (λ es. HasAll es F) (append-nil (entries_of a)) (subst (λ ts. HasAll (entries_of a ++ tasks_entries c n ts) F) (no_last o.rest o.last o.parts) o.found));
  }

  -- an empty list is settled, and so is one to which an import is added
  pub nothing_settled : (a : Asking) → entries_of a ≡ [] → a.visited.keys ≡ [] → IsSettled c a
  nothing_settled a none unvisited = record { listed = subst (AreSettled c []) (sym none) tt; visited = λ v h. absurd (in_none v (subst (λ is. Contains is v) unvisited h)) }

  pub added_settled : (old new : Asking) (e : Entry) → IsSettled c old → AreSettled c [] (entries_of new) → entries_of new ≡ added (entries_of old) e → new.visited.keys ≡ old.visited.keys → IsSettled c new
  added_settled old new e s listed is same = record {
    listed = listed;
    visited = λ v h.
        let before = s.visited v (subst (λ is. Contains is v) same h) in
        subst (λ es. HasAll es (map (by_node 0) (used_by c (kind.Instance v)))) (sym is) (all_moved (entries_of old) (added (entries_of old) e) (has_added (entries_of old) e) (map (by_node 0) (used_by c (kind.Instance v))) before);
  }

  -- ---- an import with what it uses
  module _ (e : Entry) (i : InterfaceId) (typed : e.kind ≡ kind.Instance i) where
    used_of : map (by_node e.node) (used_by c e.kind) ≡ map (by_node e.node) (used_by c (kind.Instance i))
    used_of = ap (λ k. map (by_node e.node) (used_by c k)) typed

    -- one that is asked for under its name comes with what it uses
    pub asked_there : (old : List Entry) → AreSettled c [] old → has old (instance_under e.name i) ≡ true → AsksAlike c (old ++ with_used c e) old
    asked_there old settled there =
        let own : has old e ≡ true = has_by old e (instance_under e.name i) refl typed ∙ there in
        stands_without c old (with_used c e) (all_joined (λ y. has old y ≡ true) (map (by_node e.node) (used_by c e.kind)) (e ∷ []) (settled_has c [] old e settled own) (own, tt))

    pub asked_new : (old mid new : List Entry) → AsksAlike c (old ++ map (by_node e.node) (used_by c (kind.Instance i))) mid → new ≡ added mid e → AsksAlike c (old ++ with_used c e) new
    asked_new old mid new f is =
        let U = map (by_node e.node) (used_by c (kind.Instance i)) in
        let parts : (old ++ U) ++ e ∷ [] ≡ old ++ with_used c e = append_assoc old U (e ∷ []) ∙ ap (λ us. old ++ (us ++ e ∷ [])) (sym used_of) in
        subst (λ es. AsksAlike c es new) parts
        (stands_through c ((old ++ U) ++ e ∷ []) (mid ++ e ∷ []) new (stands_more c (old ++ U) mid (e ∷ []) f) (subst (AsksAlike c (mid ++ e ∷ [])) (sym is) (stands_added c mid e)))

    pub with_settled : IsWellFormed c → (old : List Entry) → HasInterface c i → AreSettled c [] old → AreSettled c [] (old ++ with_used c e)
    with_settled wf old held settled =
        let U = map (by_node e.node) (used_by c (kind.Instance i)) in
        subst (λ us. AreSettled c [] (old ++ (us ++ e ∷ []))) (sym used_of)
        (settled_joined c [] old (U ++ e ∷ []) settled (settled_joined c old U (e ∷ []) (used_settled c wf e.node i held old)
        (subst (λ us. HasAll (old ++ U) us) (sym used_of) (used_there c wf e.node i old), tt)))

  -- what is no instance uses nothing
  module _ (e : Entry) (none : (i : InterfaceId) → e.kind ≡ kind.Instance i → ⊥) where
    nothing_used : (k : ItemKind) → ((i : InterfaceId) → k ≡ kind.Instance i → ⊥) → used_by c k ≡ []
    nothing_used (kind.Instance i) other = absurd (other i refl)
    nothing_used (kind.TypeItem x) other = refl
    nothing_used (kind.Func x) other = refl
    nothing_used (kind.Component x) other = refl
    nothing_used (kind.Module x) other = refl
    nothing_used (kind.Value x) other = refl

    alone : with_used c e ≡ e ∷ []
    alone = ap (λ us. map (by_node e.node) us ++ e ∷ []) (nothing_used e.kind none)

    pub other_asked : (old new : List Entry) → new ≡ added old e → AsksAlike c (old ++ with_used c e) new
    other_asked old new is = subst (λ es. AsksAlike c (old ++ es) new) (sym alone) (subst (AsksAlike c (old ++ e ∷ [])) (sym is) (stands_added c old e))

    pub other_settled : (old : List Entry) → AreSettled c [] old → AreSettled c [] (old ++ with_used c e)
    other_settled old settled = settled_joined c [] old (with_used c e) settled (subst (λ es. AreSettled c old es) (sym alone) (subst (λ us. HasAll old (map (by_node e.node) us)) (sym (nothing_used e.kind none)) tt, tt))
