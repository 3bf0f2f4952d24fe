-- Tasks: what is wanted is awaited until it is done, and there is less to do each time.
use Rattle.std.proofs.Common.{◌≡◌, ◌<◌, List, [], ◌∷◌, ◌++◌, Some, Result, Ok, Err, OnOk, ◌⊎◌, inl, inr, refl, ap, sym, ◌∙◌, subst, append_assoc, arith}
use Rattle.std.specs.Prelude.{IsSome}
use Rattle.std.specs.List.{AllByRecursion}
use Rattle.wac_types_shapes.specs.primitives.Name.{option_case}
use Rattle.std.specs.declared.alloc.AllocError.{AllocError}
use Rattle.wac_types_shapes.specs.primitives.Tree.{TypeTree}
use Rattle.wac_types_collection.specs.subtyping.Called.{Called}
use Rattle.wac_types_collection.specs.collection.Collection.{Collection, item_at, defined_values, IsWellFormed}
use Rattle.wac_types_shapes.specs.declared.shapes.component.DefinedType.{DefinedType}
use Rattle.wac_types_shapes.specs.declared.shapes.component.DefinedType.TheVariants as def
use Rattle.wac_types_shapes.specs.declared.shapes.component.DefinedTypeId.{DefinedTypeId}
use Rattle.wac_types_shapes.specs.declared.shapes.component.ValueType.{ValueType}
use Rattle.wac_types_shapes.specs.declared.shapes.component.ValueType.TheVariants as val
use Rattle.wac_types_shapes.specs.declared.shapes.component.«Type».{«Type» as AnyType}
use Rattle.wac_merge_trees.specs.declared.coding.memo.Memo.{Memo}
use Rattle.wac_merge_tables.specs.declared.tables.tasks.Task.{Task}
use Rattle.wac_merge_tables.specs.declared.tables.tasks.Task.TheVariants.{Open, Close}
use Rattle.wac_merge_tables.specs.private.tables.Nodes.{Node}
use Rattle.wac_merge_tables.specs.private.tables.Tasks.{task_id, opening, openings, parts_of, task_weight, tasks_weight, HasTask, IsHeldTask, IsOpening}
use Rattle.wac_merge_trees.specs.private.coding.Coding.{only_part, IsGrown, IsRight, IsMore, IsReady, AreReady, IsDone, MayBeDone, Did, numbered, put_off, IsAwaited, AreCovered, IsUnderWay, defined_number}
use Rattle.wac_merge_trees.proofs.lemmas.coding.CodingGrowth.{grown_twice, grown_not}
use Rattle.wac_merge_tables.proofs.lemmas.tables.TaskLemmas.{all_each, all_front, all_last, all_joined, parts_below, total_joined, openings_weigh, some_weight, openings_held, has_behind, has_front, has_parted, all_openings}

module _ (c : Collection) (wf : IsWellFormed c) where
  -- what is done leaves less to do
  pub less_to_do : (t : Task) (old new : Memo) (left now : List Task) → Did c t old new left now → tasks_weight c now < tasks_weight c (left ++ t ∷ [])
  less_to_do t old new left now (numbered more done is) =
      let all = total_joined (task_weight c) left (t ∷ []) in
      let some = some_weight c wf t in
      let same = ap (tasks_weight c) is in
      omega (arith, all, some, same)
  less_to_do t old new left now (put_off d is _ made) =
      let all = total_joined (task_weight c) left (t ∷ []) in
      let others = total_joined (task_weight c) left (Close d ∷ openings (parts_of c d)) in
      let same = ap (tasks_weight c) made in
      let heavy = ap (task_weight c) is in
      let parts = openings_weigh c wf d.0 (parts_of c d) (parts_below c wf d) in
      omega (arith, all, others, same, heavy, parts)

awaited_by : (memo : Memo) (xs ys : List Task) → ((d : DefinedTypeId) → HasTask d xs → HasTask d ys) → (v : ValueType) → IsAwaited memo xs v → IsAwaited memo ys v
awaited_by memo xs ys f (val.Primitive p) h = tt
awaited_by memo xs ys f (val.Own p) h = tt
awaited_by memo xs ys f (val.Borrow p) h = tt
awaited_by memo xs ys f (val.Defined d) (inl h) = inl h
awaited_by memo xs ys f (val.Defined d) (inr h) = inr (f d h)

opening_awaited : (memo : Memo) (v : ValueType) (ts : List Task) → IsAwaited memo (opening v ++ ts) v
opening_awaited memo (val.Primitive p) ts = tt
opening_awaited memo (val.Own p) ts = tt
opening_awaited memo (val.Borrow p) ts = tt
opening_awaited memo (val.Defined d) ts = inr (inl refl)

openings_awaited : (memo : Memo) (vs : List ValueType) → AllByRecursion (IsAwaited memo (openings vs)) vs
openings_awaited memo [] = tt
openings_awaited memo (v ∷ vs) = (
  opening_awaited memo v (openings vs),
  all_each (IsAwaited memo (openings vs)) (IsAwaited memo (opening v ++ openings vs)) (awaited_by memo (openings vs) (opening v ++ openings vs) (λ d. has_behind d (opening v) (openings vs))) vs (openings_awaited memo vs),
)

ready_none : (memo : Memo) (v : ValueType) → IsAwaited memo [] v → IsReady memo v
ready_none memo (val.Primitive p) h = tt
ready_none memo (val.Own p) h = tt
ready_none memo (val.Borrow p) h = tt
ready_none memo (val.Defined d) (inl h) = h
ready_none memo (val.Defined d) (inr h) = absurd h

module _ (c : Collection) where
  -- what is on top may be done
  pub may_be_done : (memo : Memo) (left : List Task) (t : Task) → AreCovered c memo (left ++ t ∷ []) → MayBeDone c memo t
  may_be_done memo [] (Open d) h = tt
  may_be_done memo [] (Close d) h = all_each (IsAwaited memo []) (IsReady memo) (ready_none memo) (parts_of c d) h.0
  may_be_done memo (Open x ∷ left) t h = may_be_done memo left t h
  may_be_done memo (Close x ∷ left) t h = may_be_done memo left t h.1

  covered_openings : (memo : Memo) (ts : List Task) → AllByRecursion IsOpening ts → AreCovered c memo ts
  covered_openings memo [] h = tt
  covered_openings memo (Open d ∷ ts) h = covered_openings memo ts h.1
  covered_openings memo (Close d ∷ ts) h = absurd h.0

  -- ---- a task is done
  module _ (old new : Memo) (more : IsMore old new) (t : Task) (done : IsDone new t) where
    awaited_done : (left : List Task) (v : ValueType) → IsAwaited old (left ++ t ∷ []) v → IsAwaited new left v
    awaited_done left (val.Primitive p) h = tt
    awaited_done left (val.Own p) h = tt
    awaited_done left (val.Borrow p) h = tt
    awaited_done left (val.Defined d) (inl h) = inl (more.defined d h)
    awaited_done left (val.Defined d) (inr h) = on (has_parted d left (t ∷ []) h) where
      on : HasTask d left ⊎ HasTask d (t ∷ []) → IsSome (defined_number new d) ⊎ HasTask d left
      on (inl a) = inr a
      on (inr (inl e)) = inl (subst (λ x. IsSome (defined_number new x)) e done)
      on (inr (inr b)) = absurd b

    covered_done : (left : List Task) → AreCovered c old (left ++ t ∷ []) → AreCovered c new left
    covered_done [] h = tt
    covered_done (Open x ∷ left) h = covered_done left h
    covered_done (Close x ∷ left) h = (all_each (IsAwaited old (left ++ t ∷ [])) (IsAwaited new left) (awaited_done left) (parts_of c x) h.0, covered_done left h.1)

  -- ---- a task is put off
  module _ (memo : Memo) (d : DefinedTypeId) (more : List Task) where
    has_off : (left : List Task) (k : DefinedTypeId) → HasTask k (left ++ Open d ∷ []) → HasTask k (left ++ Close d ∷ more)
    has_off left k h = on (has_parted k left (Open d ∷ []) h) where
      on : HasTask k left ⊎ HasTask k (Open d ∷ []) → HasTask k (left ++ Close d ∷ more)
      on (inl a) = has_front k left (Close d ∷ more) a
      on (inr (inl e)) = has_behind k left (Close d ∷ more) (inl e)
      on (inr (inr b)) = absurd b

    covered_off : (left : List Task) → AllByRecursion (IsAwaited memo more) (parts_of c d) → AreCovered c memo more → AreCovered c memo (left ++ Open d ∷ []) → AreCovered c memo (left ++ Close d ∷ more)
    covered_off [] p q h = (p, q)
    covered_off (Open x ∷ left) p q h = covered_off left p q h
    covered_off (Close x ∷ left) p q h =
        (all_each (IsAwaited memo (left ++ Open d ∷ [])) (IsAwaited memo (left ++ Close d ∷ more)) (awaited_by memo (left ++ Open d ∷ []) (left ++ Close d ∷ more) (has_off left)) (parts_of c x) h.0, covered_off left p q h.1)

  module _ (wf : IsWellFormed c) (tree : AnyType → TypeTree Called) (first : List Node) (wanted : List Task) where
    done_now : (t : Task) (ns ms : List Node) (old new : Memo) (left : List Task) → IsUnderWay c tree first wanted ns old (left ++ t ∷ []) → IsGrown ns ms → IsRight tree new ms → IsMore old new → IsDone new t
        → IsUnderWay c tree first wanted ms new left
    done_now t ns ms old new left u g r more done = record {
      grown = grown_twice first ns ms u.grown g;
      right = r;
      held = all_front (IsHeldTask c) left (t ∷ []) u.held;
      covered = covered_done old new more t done left u.covered;
      awaited = all_each (λ w. IsAwaited old (left ++ t ∷ []) (val.Defined (task_id w))) (λ w. IsAwaited new left (val.Defined (task_id w))) (λ w. awaited_done old new more t done left (val.Defined (task_id w))) wanted u.awaited;
    }

    off_now : (d : DefinedTypeId) (ns ms : List Node) (memo : Memo) (left : List Task) → IsUnderWay c tree first wanted ns memo (left ++ Open d ∷ []) → IsGrown ns ms → IsRight tree memo ms
        → IsUnderWay c tree first wanted ms memo (left ++ Close d ∷ openings (parts_of c d))
    off_now d ns ms memo left u g r =
        let more = openings (parts_of c d) in
        let low = all_last (IsHeldTask c) left (Open d) u.held in
        record {
          grown = grown_twice first ns ms u.grown g;
          right = r;
          held = all_joined (IsHeldTask c) left (Close d ∷ more) (all_front (IsHeldTask c) left (Open d ∷ []) u.held) (low, openings_held c wf d.0 (parts_of c d) low (parts_below c wf d));
          covered = covered_off memo d more left (openings_awaited memo (parts_of c d)) (covered_openings memo more (all_openings c (parts_of c d))) u.covered;
          awaited = all_each (λ w. IsAwaited memo (left ++ Open d ∷ []) (val.Defined (task_id w))) (λ w. IsAwaited memo (left ++ Close d ∷ more) (val.Defined (task_id w)))
              (λ w. awaited_by memo (left ++ Open d ∷ []) (left ++ Close d ∷ more) (has_off memo d more left) (val.Defined (task_id w))) wanted u.awaited;
        }

    -- after each task the same is wanted, and it waits or is done
    pub still_under_way : (t : Task) (ns ms : List Node) (old new : Memo) (left now : List Task) → IsUnderWay c tree first wanted ns old (left ++ t ∷ []) → IsGrown ns ms → IsRight tree new ms → Did c t old new left now
        → IsUnderWay c tree first wanted ms new now
    still_under_way t ns ms old new left now u g r (numbered more done is) = subst (IsUnderWay c tree first wanted ms new) (sym is) (done_now t ns ms old new left u g r more done)
    still_under_way t ns ms old new left now u g r (put_off d is same made) =
        subst (λ m. IsUnderWay c tree first wanted ms m now) (sym same)
        (subst (IsUnderWay c tree first wanted ms old) (sym made)
        (off_now d ns ms old left (subst (λ x. IsUnderWay c tree first wanted ns old (left ++ x ∷ [])) is u) g (subst (λ m. IsRight tree m ms) same r)))

  own_wanted : (memo : Memo) (ts : List Task) → AllByRecursion (λ w. IsAwaited memo ts (val.Defined (task_id w))) ts
  own_wanted memo [] = tt
  own_wanted memo (t ∷ ts) =
      (inr (inl refl), all_each (λ w. IsAwaited memo ts (val.Defined (task_id w))) (λ w. IsAwaited memo (t ∷ ts) (val.Defined (task_id w))) (λ w. awaited_by memo ts (t ∷ ts) (λ d h. inr h) (val.Defined (task_id w))) ts (own_wanted memo ts))

  -- at first what is wanted waits
  pub under_way : (tree : AnyType → TypeTree Called) (ns : List Node) (memo : Memo) (ts : List Task) → IsRight tree memo ns → AllByRecursion (IsHeldTask c) ts → AllByRecursion IsOpening ts
      → IsUnderWay c tree ns ts ns memo ts
  under_way tree ns memo ts r held opened = record { grown = grown_not ns; right = r; held = held; covered = covered_openings memo ts opened; awaited = own_wanted memo ts }

-- at last it is done
done_all : (memo : Memo) (wanted : List Task) → AllByRecursion (λ w. IsAwaited memo [] (val.Defined (task_id w))) wanted → AllByRecursion (IsDone memo) wanted
done_all memo [] h = tt
done_all memo (w ∷ ws) h = (ready_none memo (val.Defined (task_id w)) h.0, done_all memo ws h.1)

pub all_done : (c : Collection) (tree : AnyType → TypeTree Called) (first ns : List Node) (wanted : List Task) (memo : Memo) → IsUnderWay c tree first wanted ns memo [] → AllByRecursion (IsDone memo) wanted
all_done c tree first ns wanted memo u = done_all memo wanted u.awaited

-- values whose openings are done are ready
pub ready_values : (memo : Memo) (vs : List ValueType) → AllByRecursion (IsDone memo) (openings vs) → AreReady memo vs
ready_values memo [] h = tt
ready_values memo (val.Primitive p ∷ vs) h = (tt, ready_values memo vs h)
ready_values memo (val.Own p ∷ vs) h = (tt, ready_values memo vs h)
ready_values memo (val.Borrow p ∷ vs) h = (tt, ready_values memo vs h)
ready_values memo (val.Defined d ∷ vs) h = (h.0, ready_values memo vs h.1)

-- a definition is put off behind its parts
pub did_put_off : (c : Collection) (t : Task) (d : DefinedTypeId) (x : DefinedType) (memo : Memo) (left mid now : List Task) (r : Result (Unit {0}) AllocError) → t ≡ Open d → item_at c.defined d.0 ≡ Some x → mid ≡ left ++ Close d ∷ []
    → OnOk r (now ≡ mid ++ openings (defined_values x)) → OnOk r (Did c t memo memo left now)
did_put_off c t d x memo left mid now (Ok _) is at first made =
    put_off d is refl
    (made ∙ ap (λ ts. ts ++ openings (defined_values x)) first ∙ append_assoc left (Close d ∷ []) (openings (defined_values x))
    ∙ ap (λ o. left ++ Close d ∷ openings (option_case o [] defined_values)) (sym at))
did_put_off c t d x memo left mid now (Err _) is at first made = made

only_values : (x : DefinedType) (v : ValueType) → only_part x ≡ Some v → defined_values x ≡ v ∷ []
only_values (def.Tuple vs) v e = cc
only_values (def.List w) v e = let same : w ≡ v = cc in ap (λ y. y ∷ []) same
only_values (def.FixedSizeList w n) v e = let same : w ≡ v = cc in ap (λ y. y ∷ []) same
only_values (def.Option w) v e = let same : w ≡ v = cc in ap (λ y. y ∷ []) same
only_values (def.Result ok err) v e = cc
only_values (def.Variant w) v e = cc
only_values (def.Record r) v e = cc
only_values (def.Flags names) v e = cc
only_values (def.Enum names) v e = cc
only_values (def.Alias w) v e = let same : w ≡ v = cc in ap (λ y. y ∷ []) same
only_values (def.Stream w) v e = cc
only_values (def.Future w) v e = cc

-- a definition whose only part is ready may be closed
pub only_ready : (c : Collection) (memo : Memo) (d : DefinedTypeId) (x : DefinedType) (v : ValueType) → item_at c.defined d.0 ≡ Some x → only_part x ≡ Some v → IsReady memo v → AreReady memo (parts_of c d)
only_ready c memo d x v at only ready =
    subst (AreReady memo) (sym (ap (λ o. option_case o [] defined_values) at ∙ only_values x v only)) (ready, tt)
