-- Tasks of renaming: what is wanted is awaited until it is done, and there is less to do each time.
use Rattle.std.proofs.Common.{◌≡◌, ◌<◌, List, [], ◌∷◌, ◌++◌, Result, Ok, Err, OnOk, ◌⊎◌, inl, inr, refl, ap, sym, ◌∙◌, subst, append_assoc, arith}
use Rattle.std.specs.Prelude.{IsSome, Some}
use Rattle.std.specs.List.{AllByRecursion}
use Rattle.std.specs.declared.alloc.AllocError.{AllocError}
use Rattle.wac_types_shapes.specs.primitives.Name.{option_case}
use Rattle.wac_types_collection.specs.collection.Collection.{Collection, IsWellFormed, defined_values, item_at}
use Rattle.wac_types_shapes.specs.declared.shapes.component.DefinedType.{DefinedType}
use Rattle.wac_types_shapes.specs.declared.shapes.component.DefinedTypeId.{DefinedTypeId}
use Rattle.wac_types_shapes.specs.declared.shapes.component.ValueType.{ValueType}
use Rattle.wac_types_shapes.specs.declared.shapes.component.ValueType.TheVariants as val
use Rattle.wac_merge_tables.specs.made.Made.{StayMade}
use Rattle.wac_merge_resources.specs.private.renaming.RenamedTypes.{AreRenamed, defined_in}
use Rattle.wac_types_collection.specs.private.subtyping.Extended.{IsExtended}
use Rattle.wac_merge_resources.specs.private.renaming.RenamingSteps.{AreCovered, AreReady, Did, IsAwaited, IsDone, IsMore, IsReady, IsUnderWay, MayBeDone, put_off, renamed}
use Rattle.wac_merge_tables.specs.private.tables.Tasks.{task_id, opening, openings, parts_of, task_weight, tasks_weight, IsHeldTask, IsOpening, HasTask}
use Rattle.wac_merge_resources.specs.declared.renaming.renamer.Renamed.{Renamed}
use Rattle.wac_merge_resources.specs.declared.renaming.renamer.Renaming.{Renaming}
use Rattle.wac_merge_tables.specs.declared.tables.tasks.Task.{Task}
use Rattle.wac_merge_tables.specs.declared.tables.tasks.Task.TheVariants.{Open, Close}
use Rattle.wac_merge_tables.proofs.lemmas.tables.TaskLemmas.{all_each, all_front, all_joined, all_last, all_openings, has_behind, has_front, has_parted, openings_held, openings_weigh, parts_below, some_weight, total_joined}
use Rattle.wac_merge_tables.proofs.lemmas.made.Extending.{extended_none, extended_twice}

module _ (c : Collection) (wf : IsWellFormed c) where
  -- what is done leaves less to do
  pub less_to_do : (t : Task) (old new : Renamed) (left now : List Task) → Did c t old new left now → tasks_weight c now < tasks_weight c (left ++ t ∷ [])
  less_to_do t old new left now (renamed more done is) =
      let all = total_joined (task_weight c) left (t ∷ []) in
      let some = some_weight c wf t in
      let same = ap (tasks_weight c) is in
      omega (arith, all, some, same)
  less_to_do t old new left now (put_off d is _ made) =
      let all = total_joined (task_weight c) left (t ∷ []) in
      let others = total_joined (task_weight c) left (Close d ∷ openings (parts_of c d)) in
      let same = ap (tasks_weight c) made in
      let heavy = ap (task_weight c) is in
      let parts = openings_weigh c wf d.0 (parts_of c d) (parts_below c wf d) in
      omega (arith, all, others, same, heavy, parts)

-- ---- what waits
awaited_by : (memo : Renamed) (xs ys : List Task) → ((d : DefinedTypeId) → HasTask d xs → HasTask d ys) → (v : ValueType) → IsAwaited memo xs v → IsAwaited memo ys v
awaited_by memo xs ys f (val.Primitive p) h = tt
awaited_by memo xs ys f (val.Own p) h = tt
awaited_by memo xs ys f (val.Borrow p) h = tt
awaited_by memo xs ys f (val.Defined d) (inl h) = inl h
awaited_by memo xs ys f (val.Defined d) (inr h) = inr (f d h)

opening_awaited : (memo : Renamed) (v : ValueType) (ts : List Task) → IsAwaited memo (opening v ++ ts) v
opening_awaited memo (val.Primitive p) ts = tt
opening_awaited memo (val.Own p) ts = tt
opening_awaited memo (val.Borrow p) ts = tt
opening_awaited memo (val.Defined d) ts = inr (inl refl)

openings_awaited : (memo : Renamed) (vs : List ValueType) → AllByRecursion (IsAwaited memo (openings vs)) vs
openings_awaited memo [] = tt
openings_awaited memo (v ∷ vs) = (
  opening_awaited memo v (openings vs),
  all_each (IsAwaited memo (openings vs)) (IsAwaited memo (opening v ++ openings vs)) (awaited_by memo (openings vs) (opening v ++ openings vs) (λ d. has_behind d (opening v) (openings vs))) vs (openings_awaited memo vs),
)

ready_none : (memo : Renamed) (v : ValueType) → IsAwaited memo [] v → IsReady memo v
ready_none memo (val.Primitive p) h = tt
ready_none memo (val.Own p) h = tt
ready_none memo (val.Borrow p) h = tt
ready_none memo (val.Defined d) (inl h) = h
ready_none memo (val.Defined d) (inr h) = absurd h

module _ (c : Collection) where
  -- what is on top may be done
  pub may_be_done : (memo : Renamed) (left : List Task) (t : Task) → AreCovered c memo (left ++ t ∷ []) → MayBeDone c memo t
  may_be_done memo [] (Open d) h = tt
  may_be_done memo [] (Close d) h = all_each (IsAwaited memo []) (IsReady memo) (ready_none memo) (parts_of c d) h.0
  may_be_done memo (Open x ∷ left) t h = may_be_done memo left t h
  may_be_done memo (Close x ∷ left) t h = may_be_done memo left t h.1

  covered_openings : (memo : Renamed) (ts : List Task) → AllByRecursion IsOpening ts → AreCovered c memo ts
  covered_openings memo [] h = tt
  covered_openings memo (Open d ∷ ts) h = covered_openings memo ts h.1
  covered_openings memo (Close d ∷ ts) h = absurd h.0

  -- ---- a task is done
  module _ (old new : Renamed) (more : IsMore old new) (t : Task) (done : IsDone new t) where
    awaited_done : (left : List Task) (v : ValueType) → IsAwaited old (left ++ t ∷ []) v → IsAwaited new left v
    awaited_done left (val.Primitive p) h = tt
    awaited_done left (val.Own p) h = tt
    awaited_done left (val.Borrow p) h = tt
    awaited_done left (val.Defined d) (inl h) = inl (more.defined d h)
    awaited_done left (val.Defined d) (inr h) = on (has_parted d left (t ∷ []) h) where
      on : HasTask d left ⊎ HasTask d (t ∷ []) → IsSome (defined_in new d) ⊎ HasTask d left
      on (inl a) = inr a
      on (inr (inl e)) = inl (subst (λ x. IsSome (defined_in new x)) e done)
      on (inr (inr b)) = absurd b

    covered_done : (left : List Task) → AreCovered c old (left ++ t ∷ []) → AreCovered c new left
    covered_done [] h = tt
    covered_done (Open x ∷ left) h = covered_done left h
    covered_done (Close x ∷ left) h = (all_each (IsAwaited old (left ++ t ∷ [])) (IsAwaited new left) (awaited_done left) (parts_of c x) h.0, covered_done left h.1)

  -- ---- a task is put off
  module _ (memo : Renamed) (d : DefinedTypeId) (more : List Task) where
    has_off : (left : List Task) (k : DefinedTypeId) → HasTask k (left ++ Open d ∷ []) → HasTask k (left ++ Close d ∷ more)
    has_off left k h = on (has_parted k left (Open d ∷ []) h) where
      on : HasTask k left ⊎ HasTask k (Open d ∷ []) → HasTask k (left ++ Close d ∷ more)
      on (inl a) = has_front k left (Close d ∷ more) a
      on (inr (inl e)) = has_behind k left (Close d ∷ more) (inl e)
      on (inr (inr b)) = absurd b

    covered_off : (left : List Task) → AllByRecursion (IsAwaited memo more) (parts_of c d) → AreCovered c memo more → AreCovered c memo (left ++ Open d ∷ []) → AreCovered c memo (left ++ Close d ∷ more)
    covered_off [] p q h = (p, q)
    covered_off (Open x ∷ left) p q h = covered_off left p q h
    covered_off (Close x ∷ left) p q h =
        (all_each (IsAwaited memo (left ++ Open d ∷ [])) (IsAwaited memo (left ++ Close d ∷ more)) (awaited_by memo (left ++ Open d ∷ []) (left ++ Close d ∷ more) (has_off left)) (parts_of c x) h.0, covered_off left p q h.1)

module _ (s : Renaming) (wf : IsWellFormed s.types.now) (first : Collection) (wanted : List Task) where
  done_now : (t : Task) (m more : Collection) (old new : Renamed) (left : List Task) → IsUnderWay s first wanted m old (left ++ t ∷ []) → IsExtended m more → AreRenamed more s new → IsMore old new → IsDone new t → IsUnderWay s first wanted more new left
  done_now t m more old new left u g r longer done = record {
    extended = extended_twice first m more u.extended g;
    right = r;
    held = all_front (IsHeldTask s.types.now) left (t ∷ []) u.held;
    covered = covered_done s.types.now old new longer t done left u.covered;
    awaited = all_each (λ w. IsAwaited old (left ++ t ∷ []) (val.Defined (task_id w))) (λ w. IsAwaited new left (val.Defined (task_id w))) (λ w. awaited_done s.types.now old new longer t done left (val.Defined (task_id w))) wanted u.awaited;
  }

  off_now : (d : DefinedTypeId) (m more : Collection) (memo : Renamed) (left : List Task) → IsUnderWay s first wanted m memo (left ++ Open d ∷ []) → IsExtended m more → AreRenamed more s memo → IsUnderWay s first wanted more memo (left ++ Close d ∷ openings (parts_of s.types.now d))
  off_now d m more memo left u g r =
      let c = s.types.now in
      let next = openings (parts_of c d) in
      let low = all_last (IsHeldTask c) left (Open d) u.held in
      record {
        extended = extended_twice first m more u.extended g;
        right = r;
        held = all_joined (IsHeldTask c) left (Close d ∷ next) (all_front (IsHeldTask c) left (Open d ∷ []) u.held) (low, openings_held c wf d.0 (parts_of c d) low (parts_below c wf d));
        covered = covered_off c memo d next left (openings_awaited memo (parts_of c d)) (covered_openings c memo next (all_openings c (parts_of c d))) u.covered;
        awaited = all_each (λ w. IsAwaited memo (left ++ Open d ∷ []) (val.Defined (task_id w))) (λ w. IsAwaited memo (left ++ Close d ∷ next) (val.Defined (task_id w)))
            (λ w. awaited_by memo (left ++ Open d ∷ []) (left ++ Close d ∷ next) (has_off c memo d next left) (val.Defined (task_id w))) wanted u.awaited;
      }

  -- after each task the same is wanted, and it waits or is done
  pub still_under_way : (t : Task) (m more : Collection) (old new : Renamed) (left now : List Task) → IsUnderWay s first wanted m old (left ++ t ∷ []) → IsExtended m more → AreRenamed more s new → Did s.types.now t old new left now → IsUnderWay s first wanted more new now
  still_under_way t m more old new left now u g r (renamed longer done is) = subst (IsUnderWay s first wanted more new) (sym is) (done_now t m more old new left u g r longer done)
  still_under_way t m more old new left now u g r (put_off d is same made) =
      subst (λ (k : Renamed). IsUnderWay s first wanted more k now) (sym same)
      (subst (IsUnderWay s first wanted more old) (sym made)
      (off_now d m more old left (subst (λ x. IsUnderWay s first wanted m old (left ++ x ∷ [])) is u) g (subst (λ (k : Renamed). AreRenamed more s k) same r)))

own_wanted : (memo : Renamed) (ts : List Task) → AllByRecursion (λ w. IsAwaited memo ts (val.Defined (task_id w))) ts
own_wanted memo [] = tt
own_wanted memo (t ∷ ts) =
    (inr (inl refl), all_each (λ w. IsAwaited memo ts (val.Defined (task_id w))) (λ w. IsAwaited memo (t ∷ ts) (val.Defined (task_id w))) (λ w. awaited_by memo ts (t ∷ ts) (λ d h. inr h) (val.Defined (task_id w))) ts (own_wanted memo ts))

-- at first what is wanted waits
pub under_way : (s : Renaming) (m : Collection) (memo : Renamed) (ts : List Task) → AreRenamed m s memo → AllByRecursion (IsHeldTask s.types.now) ts → AllByRecursion IsOpening ts → IsUnderWay s m ts m memo ts
under_way s m memo ts r held opened = record { extended = extended_none m; right = r; held = held; covered = covered_openings s.types.now memo ts opened; awaited = own_wanted memo ts }

-- at last it is done
done_all : (memo : Renamed) (wanted : List Task) → AllByRecursion (λ w. IsAwaited memo [] (val.Defined (task_id w))) wanted → AllByRecursion (IsDone memo) wanted
done_all memo [] h = tt
done_all memo (w ∷ ws) h = (ready_none memo (val.Defined (task_id w)) h.0, done_all memo ws h.1)

pub all_done : (s : Renaming) (first m : Collection) (wanted : List Task) (memo : Renamed) → IsUnderWay s first wanted m memo [] → AllByRecursion (IsDone memo) wanted
all_done s first m wanted memo u = done_all memo wanted u.awaited

-- what was made still is after a task
pub did_stay : (c : Collection) (t : Task) (old new : Renamed) (left now : List Task) → Did c t old new left now → StayMade old.made new.made
did_stay c t old new left now (renamed more done is) = more.made
did_stay c t old new left now (put_off d is same made) = subst (λ (k : Renamed). StayMade old.made k.made) (sym same) (λ f e h. h)

-- values whose openings are done are ready
pub ready_values : (memo : Renamed) (vs : List ValueType) → AllByRecursion (IsDone memo) (openings vs) → AreReady memo vs
ready_values memo [] h = tt
ready_values memo (val.Primitive p ∷ vs) h = (tt, ready_values memo vs h)
ready_values memo (val.Own p ∷ vs) h = (tt, ready_values memo vs h)
ready_values memo (val.Borrow p ∷ vs) h = (tt, ready_values memo vs h)
ready_values memo (val.Defined d ∷ vs) h = (h.0, ready_values memo vs h.1)

-- so they are where what was opened was done
pub ready_after : (memo : Renamed) (vs : List ValueType) (ts : List Task) (r : Result (Unit {0}) AllocError) → ts ≡ openings vs → OnOk r (AllByRecursion (IsDone memo) ts) → OnOk r (AreReady memo vs)
ready_after memo vs ts (Ok _) is done = ready_values memo vs (subst (λ (l : List Task). AllByRecursion (IsDone memo) l) is done)
ready_after memo vs ts (Err _) is done = done

-- what follows where a call went well
pub on_ok : {A B : Type 0} (r : Result (Unit {0}) AllocError) → (A → B) → OnOk r A → OnOk r B
on_ok (Ok _) f h = f h
on_ok (Err _) f h = h

-- a definition is put off behind its parts
pub did_put_off : (c : Collection) (t : Task) (d : DefinedTypeId) (x : DefinedType) (memo : Renamed) (left mid now : List Task) (r : Result (Unit {0}) AllocError) → t ≡ Open d → item_at c.defined d.0 ≡ Some x → mid ≡ left ++ Close d ∷ []
    → OnOk r (now ≡ mid ++ openings (defined_values x)) → OnOk r (Did c t memo memo left now)
did_put_off c t d x memo left mid now (Ok _) is at first made =
    put_off d is refl
    (made ∙ ap (λ ts. ts ++ openings (defined_values x)) first ∙ append_assoc left (Close d ∷ []) (openings (defined_values x))
    ∙ ap (λ o. left ++ Close d ∷ openings (option_case o [] defined_values)) (sym at))
did_put_off c t d x memo left mid now (Err _) is at first made = made
