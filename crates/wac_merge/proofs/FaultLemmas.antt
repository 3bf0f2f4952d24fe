-- One fault stands at most; from what was looked for to what `finish` answers.
use Rattle.std.proofs.Common.{Ok, Err, Result, ◌≡◌, ℕ, ◌≤◌, List, [], ◌∷◌, ◌++◌, refl, ap, ◌∙◌, sym, subst, arith, Option, Some, None, IfSome, ◌⊎◌, inl, inr}
use Rattle.std.specs.Prelude.{slice_get, IfErr}
use Rattle.std.specs.List.{AllByRecursion}
use Rattle.std.specs.Option.{MatchOption}
use Rattle.std.specs.Result.{IsErrAnd}
use Rattle.wac_types_shapes.specs.primitives.Name.{Name}
use Rattle.wac_types_shapes.specs.primitives.Tree.{TypeTree, absent, instance, instance_item}
use Rattle.wac_types_collection.specs.subtyping.Called.{Called}
use Rattle.wac_types_collection.specs.collection.Collection.{Collection, interface_exports}
use Rattle.wac_types_shapes.specs.declared.shapes.component.ItemKind.{ItemKind}
use Rattle.wac_types_shapes.specs.declared.shapes.component.ItemKind.TheVariants as kind
use Rattle.wac_types_shapes.specs.declared.shapes.component.InterfaceId.{InterfaceId}
use Rattle.wac_merge_classes.specs.declared.terms.fault.MergeFault.{MergeFault}
use Rattle.wac_merge_classes.specs.declared.terms.fault.MergeFault.TheVariants as merge
use Rattle.wac_merge_classes.specs.entries.Classes.{Entry, by_names, class_names, canonical}
use Rattle.wac_merge_classes.specs.entries.Agreement.{compared, AreInstances, AgreesAt, IsDisagreement, LeadsApart, here, below, joined}
use Rattle.wac_merge_classes.specs.terms.ClassOrder.{IsOnCircle, RestsOn, by_use, by_resource}
use Rattle.wac_edges.specs.cycles.Cycles.{Path, step, further}
use Rattle.wac_merge_classes.specs.terms.NoDisagreement.{HasNoDisagreement}
use Rattle.wac_merge_classes.specs.terms.Faults.{HasNoCircle, Disagrees, UseEachOther, Fault, disagree, use_each_other, HasFault, fault_of}
use Rattle.wac_merge.specs.Aggregate.{IsFault}

pub same_some : {A : Type 0} (o : Option A) (x y : A) → o ≡ Some x → o ≡ Some y → x ≡ y
same_some o x y p q = let e : Some x ≡ Some y = sym p ∙ q in cc

at_most : (n m : ℕ) → n ≤ m → m ≤ n → n ≡ m
at_most n m up down = omega arith

-- ---- the way to a disagreement is one
module _ (c : Collection) where
  -- the first step of a way
  record Step (t u : TypeTree Called) (k : ItemKind) (n : Name) (names : List Name) : Type 0 where
    f : Name → TypeTree Called
    g : Name → TypeTree Called
    i : InterfaceId
    before : List (Name × ItemKind)
    after : List (Name × ItemKind)
    e : Name × ItemKind
    first_is : t ≡ instance_item (instance f)
    second_is : u ≡ instance_item (instance g)
    kind_is : k ≡ kind.Instance i
    order : interface_exports c i ≡ before ++ e ∷ after
    agree : AllByRecursion (AgreesAt f g) before
    apart : AgreesAt f g e → ⊥
    name_is : n ≡ e.0
    rest : LeadsApart c (f e.0) (g e.0) e.1 names

  abbrev Way : TypeTree Called → TypeTree Called → ItemKind → List Name → Type 0
  Way t u k [] = AreInstances t u → ⊥
  Way t u k (n ∷ names) = Step t u k n names

  way : (t u : TypeTree Called) (k : ItemKind) (names : List Name) → LeadsApart c t u k names → Way t u k names
  way t u k names (here t' u' k' never unlike) = never
  way t u k names (below f g i before after e rest order agree apart leads) = record {
    f = f;
    g = g;
    i = i;
    before = before;
    after = after;
    e = e;
    first_is = refl;
    second_is = refl;
    kind_is = refl;
    order = order;
    agree = agree;
    apart = apart;
    name_is = refl;
    rest = leads;
  }

  abbrev exports_in : TypeTree Called → Name → TypeTree Called
  exports_in (instance_item (instance f)) = f
  exports_in t = λ n. absent

  abbrev interface_in : InterfaceId → ItemKind → InterfaceId
  interface_in i (kind.Instance j) = j
  interface_in i k = i

  -- what comes first of which P does not hold
  one_split : {A : Type 0} (P : A → Type 0) (xs ys : List A) (x y : A) (us vs : List A) → xs ++ x ∷ us ≡ ys ++ y ∷ vs → AllByRecursion P xs → AllByRecursion P ys → (P x → ⊥) → (P y → ⊥) → x ≡ y
  one_split P [] [] x y us vs e all more not_x not_y = cc
  one_split P [] (z ∷ ys) x y us vs e all more not_x not_y = let same : x ≡ z = cc in absurd (not_x (subst P (sym same) more.0))
  one_split P (z ∷ xs) [] x y us vs e all more not_x not_y = let same : z ≡ y = cc in absurd (not_y (subst P same all.0))
  one_split P (z ∷ xs) (w ∷ ys) x y us vs e all more not_x not_y = let rest : xs ++ x ∷ us ≡ ys ++ y ∷ vs = cc in one_split P xs ys x y us vs rest all.1 more.1 not_x not_y

  one_step : (t u : TypeTree Called) (k : ItemKind) (n m : Name) (ns ms : List Name) (a : Step t u k n ns) (b : Step t u k m ms) → a.e ≡ b.e
  one_step t u k n m ns ms a b =
      let same_f : a.f ≡ b.f = ap exports_in (sym a.first_is ∙ b.first_is) in
      let same_g : a.g ≡ b.g = ap exports_in (sym a.second_is ∙ b.second_is) in
      let same_i : a.i ≡ b.i = ap (interface_in a.i) (sym a.kind_is ∙ b.kind_is) in
      let agree : AllByRecursion (AgreesAt a.f a.g) b.before = subst (λ f. AllByRecursion (AgreesAt f a.g) b.before) (sym same_f) (subst (λ g. AllByRecursion (AgreesAt b.f g) b.before) (sym same_g) b.agree) in
      let apart : AgreesAt a.f a.g b.e → ⊥ = subst (λ f. AgreesAt f a.g b.e → ⊥) (sym same_f) (subst (λ g. AgreesAt b.f g b.e → ⊥) (sym same_g) b.apart) in
      one_split (AgreesAt a.f a.g) a.before b.before a.e b.e a.after b.after (sym a.order ∙ (ap (interface_exports c) same_i ∙ b.order)) a.agree agree a.apart apart

  one_way : (t u : TypeTree Called) (k : ItemKind) (ns ms : List Name) → LeadsApart c t u k ns → LeadsApart c t u k ms → ns ≡ ms
  one_way t u k [] [] a b = refl
  one_way t u k [] (m ∷ ms) a b =
      let s = way t u k (m ∷ ms) b in
      absurd (subst (λ x. AreInstances x u → ⊥) s.first_is (way t u k [] a) (subst (λ x. AreInstances (instance_item (instance s.f)) x) (sym s.second_is) tt))
  one_way t u k (n ∷ ns) [] a b =
      let s = way t u k (n ∷ ns) a in
      absurd (subst (λ x. AreInstances x u → ⊥) s.first_is (way t u k [] b) (subst (λ x. AreInstances (instance_item (instance s.f)) x) (sym s.second_is) tt))
  one_way t u k (n ∷ ns) (m ∷ ms) a b =
      let x = way t u k (n ∷ ns) a in
      let y = way t u k (m ∷ ms) b in
      let same : x.e ≡ y.e = one_step t u k n m ns ms x y in
      let same_f : x.f ≡ y.f = ap exports_in (sym x.first_is ∙ y.first_is) in
      let same_g : x.g ≡ y.g = ap exports_in (sym x.second_is ∙ y.second_is) in
      let rest : LeadsApart c (x.f (x.e).0) (x.g (x.e).0) (x.e).1 ms = subst (λ (f : Name → TypeTree Called). LeadsApart c (f (x.e).0) (x.g (x.e).0) (x.e).1 ms) (sym same_f)
      (subst (λ (g : Name → TypeTree Called). LeadsApart c (y.f (x.e).0) (g (x.e).0) (x.e).1 ms) (sym same_g)
      (subst (λ (e : Name × ItemKind). LeadsApart c (y.f e.0) (y.g e.0) e.1 ms) (sym same) y.rest)) in
      let names : ns ≡ ms = one_way (x.f (x.e).0) (x.g (x.e).0) (x.e).1 ns ms x.rest rest in
      let name : n ≡ m = x.name_is ∙ (ap (λ e. e.0) same ∙ sym y.name_is) in
      λ d. name d ∷ names d

-- ---- one fault
module _ (c : Collection) (es : List Entry) where
  one_pair : (i j k l : ℕ) (x y : Name) → Disagrees by_names c es i j x → Disagrees by_names c es k l y → disagree i j x ≡ disagree k l y
  one_pair i j k l x y a b =
      let seconds : j ≡ l = at_most j l (a.is_first.earliest k l b.is_first.disagree) (b.is_first.earliest i j a.is_first.disagree) in
      let firsts : i ≡ k = at_most i k
      (a.is_first.with_earliest k (subst (λ z. IsDisagreement by_names c es k z) (sym seconds) b.is_first.disagree))
      (b.is_first.with_earliest i (subst (λ z. IsDisagreement by_names c es i z) seconds a.is_first.disagree)) in
      let p = a.is_first.disagree in
      let q = b.is_first.disagree in
      let earlier : p.earlier ≡ q.earlier = same_some (slice_get es i) p.earlier q.earlier p.at_first (ap (slice_get es) firsts ∙ q.at_first) in
      let later : p.later ≡ q.later = same_some (slice_get es j) p.later q.later p.at_second (ap (slice_get es) seconds ∙ q.at_second) in
      let leads : LeadsApart c (compared by_names c es p.earlier.name p.earlier.kind) (compared by_names c es p.earlier.name p.later.kind) p.later.kind b.names =
      subst (λ (e : Entry). LeadsApart c (compared by_names c es e.name e.kind) (compared by_names c es e.name p.later.kind) p.later.kind b.names) (sym earlier)
      (subst (λ (e : Entry). LeadsApart c (compared by_names c es q.earlier.name q.earlier.kind) (compared by_names c es q.earlier.name e.kind) e.kind b.names) (sym later) b.leads) in
      let names = one_way c (compared by_names c es p.earlier.name p.earlier.kind) (compared by_names c es p.earlier.name p.later.kind) p.later.kind a.names b.names a.leads leads in
      let text : x ≡ y = a.path ∙ (ap joined names ∙ sym b.path) in
      λ d. disagree (firsts d) (seconds d) (text d)

  one_circle : (x y : Name) → UseEachOther by_names c es x → UseEachOther by_names c es y → use_each_other x ≡ use_each_other y
  one_circle x y a b =
      let same : a.number ≡ b.number = at_most a.number b.number (a.is_first.first b.number b.is_first.on) (b.is_first.first a.number a.is_first.on) in
      let class : a.class ≡ b.class = same_some (slice_get (class_names by_names es) a.number) a.class b.class a.numbered (ap (slice_get (class_names by_names es)) same ∙ b.numbered) in
      ap use_each_other (a.named ∙ (ap (canonical by_names es) class ∙ sym b.named))

  pub one_fault : (a b : Fault) → HasFault by_names c es a → HasFault by_names c es b → a ≡ b
  one_fault (disagree i j x) (disagree k l y) a b = one_pair i j k l x y a b
  one_fault (disagree i j x) (use_each_other y) a b = absurd (b.0 i j a.is_first.disagree)
  one_fault (use_each_other x) (disagree k l y) a b = absurd (a.0 k l b.is_first.disagree)
  one_fault (use_each_other x) (use_each_other y) a b = one_circle x y a.1 b.1

  pub names_fault : (e : MergeFault) → IsFault c es e → IfSome (fault_of e) (HasFault by_names c es)
  names_fault e (inl is) = subst (λ x. IfSome (fault_of x) (HasFault by_names c es)) (sym is) tt
  names_fault e (inr (fault, names, has)) = subst (λ x. IfSome x (HasFault by_names c es)) (sym names) has

  pub refused_for : (e : MergeFault) → IsFault c es e → (fault : Fault) → HasFault by_names c es fault → (fault_of e ≡ Some fault) ⊎ (e ≡ merge.OutOfMemory)
  refused_for e (inl is) fault has = inr is
  refused_for e (inr (named, names, there)) fault has = inl (names ∙ ap Some (one_fault named fault there has))

  pub no_fault : HasNoDisagreement by_names c es → HasNoCircle by_names c es → (fault : Fault) → HasFault by_names c es fault → ⊥
  no_fault agree ordered (disagree i j x) h = agree i j h.is_first.disagree
  no_fault agree ordered (use_each_other x) h = let u = h.1 in ordered u.number u.is_first.on

  resting : (a b : ℕ) → RestsOn by_names c es a b → (class : Name) × (slice_get (class_names by_names es) a ≡ Some class)
  resting a b (by_use a' b' class other id e i j used apart numbered rest of is widely held named one) = (class, numbered)
  resting a b (by_resource a' b' class e apart numbered of mentions) = (class, numbered)

  -- what is on a circle has a number
  from : (a b : ℕ) → Path (RestsOn by_names c es) a b → (class : Name) × (slice_get (class_names by_names es) a ≡ Some class)
  from a b (step a' b' r) = resting a' b' r
  from a b (further a' d b' r more) = resting a' d r

  pub circle_class : (a : ℕ) → IsOnCircle by_names c es a → (class : Name) × (slice_get (class_names by_names es) a ≡ Some class)
  circle_class a on = from a a on

-- what a look-up of faults answers
pub pair_of : {A : Type 0} (P : A → Type 0) (Q : Type 0) (o : Option A) (x : A) → MatchOption o Q P → o ≡ Some x → P x
pair_of P Q None x h is = cc
pair_of P Q (Some y) x h is = let same : y ≡ x = cc in subst P same h

pub none_of : {A : Type 0} (P : A → Type 0) (Q : Type 0) (o : Option A) → MatchOption o Q P → o ≡ None → Q
none_of P Q None h is = h
none_of P Q (Some y) h is = cc

-- what a `?` hands on
pub exit_refused : {A : Type 0} (P : MergeFault → Type 0) (r : Result A MergeFault) (e : MergeFault) → IsErrAnd r (λ y. y ≡ e) → P e → IsErrAnd r P
exit_refused P (Ok x) e h p = absurd h
exit_refused P (Err y) e h p = subst P (sym h) p

pub exit_cause : {A : Type 0} (P : MergeFault → Type 0) (r : Result A MergeFault) (e : MergeFault) → IsErrAnd r (λ y. y ≡ e) → P e → IfErr r P
exit_cause P (Ok x) e h p = absurd h
exit_cause P (Err y) e h p = subst P (sym h) p
