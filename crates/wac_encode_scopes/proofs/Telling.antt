-- A scope stays good as an instance's own resources are bound and its value types recorded.
use Rattle.std.specs.Prelude.{ℕ, zero, suc, ◌≡◌, ◌≤◌, ◌&&◌, Bool, true, false, not, List, [], ◌∷◌, ◌++◌, length, take, slice_get, Option, Some, None, is_some, if◌then◌else◌}
use Rattle.std.specs.List.{list_all}
use Rattle.std.proofs.Common.{refl, ap, ◌∙◌, sym, subst, arith}
use Rattle.std.proofs.Math.Path.{fun_ext}
use Rattle.std.proofs.lemmas.List.{take_all}
use Rattle.wac_types_shapes.specs.primitives.Name.{Name, find_name, option_case, first_some}
use Rattle.wac_types_shapes.specs.primitives.Tree.{named, Leaf, resource, further_out, exported, items_in}
use Rattle.wac_types_shapes.specs.shapes.Named.{NoNameTwice}
use Rattle.wac_types_shapes.proofs.lemmas.shapes.Names.{find_name-at, take_at}
use Rattle.wac_types_shapes.specs.declared.shapes.component.ResourceId.{ResourceId}
use Rattle.wac_types_shapes.specs.declared.shapes.component.DefinedTypeId.{DefinedTypeId}
use Rattle.wac_types_shapes.specs.declared.shapes.component.InterfaceId.{InterfaceId}
use Rattle.wac_types_shapes.specs.declared.shapes.component.Interface.{Interface}
use Rattle.wac_types_shapes.specs.declared.shapes.component.UsedType.{UsedType}
use Rattle.wac_types_shapes.specs.declared.shapes.component.«Type».TheVariants as ty
use Rattle.wac_types_shapes.specs.declared.shapes.component.ItemKind.{ItemKind}
use Rattle.wac_types_shapes.specs.declared.shapes.component.ItemKind.TheVariants as kind
use Rattle.wac_types_collection.specs.declared.collection.collection.Held.{Held}
use Rattle.wac_types_collection.specs.declared.collection.collection.AddTypeError.{AddTypeError}
use Rattle.wac_types_collection.specs.declared.collection.collection.AddTypeError.TheVariants as fault
use Rattle.wac_types_collection.specs.collection.Collection.{Collection, IsWellFormed, item_at, item_of, holds_type, holds_all, used_types, kind_types, interface_mentions}
use Rattle.wac_types_collection.specs.collection.Bound.{Bindings, own_name, inside_interface}
use Rattle.wac_types_collection.specs.collection.Uses.{IsSound, named_right, unless, mention_fault, uses_fault}
use Rattle.wac_types_collection.proofs.lemmas.wide.Members.{at_in}
use Rattle.wac_binary.specs.Unfold.{Bound}
use Rattle.wac_encode_stacks.specs.Scopes.{Where, at_export, Open, Stack, env, envs, bind_at, export_at}
use Rattle.wac_encode_stacks.specs.Good.{At, Stands, Good, Onward}
use Rattle.wac_encode_stacks.specs.private.Beside.{written_as}
use Rattle.wac_encode_stacks.specs.private.Laws.{StaysOnward}
use Rattle.wac_encode_stacks.specs.Listed.{calling, BindsMore, IsItem}
use Rattle.wac_encode_stacks.specs.Instances.{BindsBut, Shows, taken_leaf, HasOwn, HasExported}
use Rattle.wac_encode_scopes.specs.declared.scope.Scope.{Scope}
use Rattle.wac_encode_scopes.specs.declared.state.State.{State}
use Rattle.wac_encode_scopes.specs.Books.{opened}
use Rattle.wac_encode_scopes.specs.States.{outward, stack, named_in}
use Rattle.wac_encode_scopes.specs.private.Closed.{AreApartItems, SaysApart}
use Rattle.wac_encode_scopes.specs.private.Interfaces.{own_in}
use Rattle.wac_encode_scopes.specs.private.Telling.{with_own_names, is_other, definition_in, binding_own, exporting_values, telling, MayBind, TellsInstance}
use Rattle.wac_encode_scopes.specs.private.Steps.{ScopeChanges, that_passes, bound_to, told_to}
use Rattle.wac_encode_scopes.proofs.ApartBits.{does-not-depend}
use Rattle.wac_encode_scopes.proofs.ItemDefinitions.{definition-holds, definition-some}
use Rattle.wac_encode_scopes.proofs.Owned.{own-some, own-at, own-before, at-below}
use Rattle.wac_encode_scopes.proofs.Told.{none-more, other-more, mine-more, none-told, binding-none, binding-more, exporting-more, exporting-none}

-- one resource more is bound in a bottom scope
binds-bottom : BindsMore → (c : Collection) (m : Bindings) (o : Open) (r : ResourceId) (l : Leaf) (w : Where) (ms : List Bindings) (os : Stack) → ms ≡ [] → Good c (m ∷ ms) (o ∷ os) → m r ≡ None → Stands (env o (envs os)) (resource l) w → Good c (calling r l m ∷ ms) (bind_at r w o ∷ os)
binds-bottom law c m o r l w [] [] none g u at = (law c m o r l w g u at).0
binds-bottom law c m o r l w [] (p ∷ os) none g u at = absurd g.1
binds-bottom law c m o r l w (k ∷ ms) os none g u at = let no : k ∷ ms ≡ [] = none in cc

good-as : (c : Collection) (m n : Bindings) (ms : List Bindings) (o p : Open) (os : Stack) → n ≡ m → p ≡ o → Good c (m ∷ ms) (o ∷ os) → Good c (n ∷ ms) (p ∷ os)
good-as c m n ms o p os same is g = subst (λ (k : Bindings). Good c (k ∷ ms) (p ∷ os)) (sym same) (subst (λ (q : Open). Good c (m ∷ ms) (q ∷ os)) (sym is) g)

-- own resources

module _ (binds_law : BindsMore) (own_law : HasOwn) (c : Collection) (it : Interface) (right : named_right c it.uses it.exports ≡ true) (once : NoNameTwice it.exports) (test : ResourceId → Bool) (j : ℕ) (x : Bound) (m : Bindings) (ms : List Bindings) (o : Open) (os : Stack)
    (at_j : At ((env o (envs os)).instances) j x) (shows : Shows c m it x) (may : MayBind c it test m ms) where
  abbrev bindings : List (Name × ItemKind) → Bindings
  bindings es = with_own_names c it.uses es test (taken_leaf x) m

  abbrev bound : List (Name × ItemKind) → Open
  bound es = binding_own c it.uses es test j o

  abbrev IsGoodSo : List (Name × ItemKind) → Type 0
  IsGoodSo es = Good c (bindings es ∷ ms) (bound es ∷ os)

  bind-step : (i : ℕ) (y : Name × ItemKind) → slice_get it.exports i ≡ Some y → IsGoodSo (take i it.exports) → IsGoodSo (take i it.exports ++ y ∷ [])
  bind-step i y at g = by_own (own_in c it.uses y) refl
    where
      by_test : (r : ResourceId) → own_in c it.uses y ≡ Some r → (b : Bool) → test r ≡ b → IsGoodSo (take i it.exports ++ y ∷ [])
      by_test r is false fails = good-as c (bindings (take i it.exports)) (bindings (take i it.exports ++ y ∷ [])) ms (bound (take i it.exports)) (bound (take i it.exports ++ y ∷ [])) os (other-more c it.uses test (taken_leaf x) m (take i it.exports) y r is fails) (ap (λ (h : ResourceId → Option Where). record o { binds = h }) (other-more c it.uses test (at_export j) o.binds (take i it.exports) y r is fails)) g
      by_test r is true passes =
          let whole = own-at c it.uses it.exports i y r right at is in
          let none = own-before c it.uses it.exports i y r right once at is in
          let free = may r y.0 passes whole in
          let found : find_name it.exports y.0 ≡ Some (kind.TypeItem (ty.Resource r)) = find_name-at it.exports i y.0 y.1 once at ∙ ap Some (own-some c it.uses y.0 y.1 r is).0 in
          let unbound : bindings (take i it.exports) r ≡ None = ap (λ b. if b then option_case (own_name c it.uses (take i it.exports) r) (m r) (λ n. Some (taken_leaf x n)) else m r) passes ∙ ap (λ (a : Option Name). option_case a (m r) (λ n. Some (taken_leaf x n))) none ∙ free.0 in
          good-as c (calling r (taken_leaf x y.0) (bindings (take i it.exports))) (bindings (take i it.exports ++ y ∷ [])) ms (bind_at r (at_export j y.0) (bound (take i it.exports))) (bound (take i it.exports ++ y ∷ [])) os
          (mine-more c it.uses test (taken_leaf x) m (take i it.exports) y r is passes none)
          (ap (λ (h : ResourceId → Option Where). record o { binds = h }) (mine-more c it.uses test (at_export j) o.binds (take i it.exports) y r is passes none))
          (binds-bottom binds_law c (bindings (take i it.exports)) (bound (take i it.exports)) r (taken_leaf x y.0) (at_export j y.0) ms os free.1 g unbound (own_law c m o os it j x r y.0 at_j shows found whole))

      by_own : (a : Option ResourceId) → own_in c it.uses y ≡ a → IsGoodSo (take i it.exports ++ y ∷ [])
      by_own None is = good-as c (bindings (take i it.exports)) (bindings (take i it.exports ++ y ∷ [])) ms (bound (take i it.exports)) (bound (take i it.exports ++ y ∷ [])) os (none-more c it.uses test (taken_leaf x) m (take i it.exports) y is) (ap (λ (h : ResourceId → Option Where). record o { binds = h }) (none-more c it.uses test (at_export j) o.binds (take i it.exports) y is)) g
      by_own (Some r) is = by_test r is (test r) refl

  bind-at : Good c (m ∷ ms) (o ∷ os) → (i : ℕ) → i ≤ length it.exports → IsGoodSo (take i it.exports)
  bind-at good zero le = good-as c m (bindings []) ms o (bound []) os (none-told c it.uses test (taken_leaf x) m) (binding-none c it.uses test j o) good
  bind-at good (suc i) le =
      let y = at-below it.exports i (omega (arith, le)) in
      subst IsGoodSo (sym (take_at it.exports i y.0 y.1)) (bind-step i y.0 y.1 (bind-at good i (omega (arith, le))))

  pub bind-all : Good c (m ∷ ms) (o ∷ os) → IsGoodSo it.exports
  bind-all good = let le : length it.exports ≤ length it.exports = omega arith in subst IsGoodSo (take_all (length it.exports) it.exports le) (bind-at good (length it.exports) le)

-- the trees inside the interface are as before
inside-told : (c : Collection) (it : Interface) (test : ResourceId → Bool) (x : Bound) (m : Bindings) → inside_interface c it (with_own_names c it.uses it.exports test (taken_leaf x) m) ≡ inside_interface c it m
inside-told c it test x m = fun_ext (λ r. by_own r (own_name c it.uses it.exports r) (test r))
  where
    by_own : (r : ResourceId) (a : Option Name) (b : Bool) → option_case a (option_case (if b then option_case a (m r) (λ n. Some (taken_leaf x n)) else m r) None (λ l. Some (further_out l))) (λ n. Some (record { out = 0; side = exported; path = named n ∷ [] })) ≡ option_case a (option_case (m r) None (λ l. Some (further_out l))) (λ n. Some (record { out = 0; side = exported; path = named n ∷ [] }))
    by_own r None true = refl
    by_own r None false = refl
    by_own r (Some n) b = refl

pub shows-told : (c : Collection) (it : Interface) (test : ResourceId → Bool) (x : Bound) (m : Bindings) → Shows c m it x → Shows c (with_own_names c it.uses it.exports test (taken_leaf x) m) it x
shows-told c it test x m shows n a found = subst (λ (k : Bindings). IsItem c k exported n (kind.TypeItem a) (items_in x.type n)) (sym (inside-told c it test x m)) (shows n a found)

-- The own resources that do not belong elsewhere are bound to the instance.
pub binds-but : (c : Collection) (it : Interface) (own : ResourceId → Bool) (x : Bound) (m : Bindings) → BindsBut c it (is_other c it own) x.side x.path (with_own_names c it.uses it.exports own (taken_leaf x) m)
binds-but c it own x m r n is other =
    ap (λ (b : Bool). if b then option_case (own_name c it.uses it.exports r) (m r) (λ k. Some (taken_leaf x k)) else m r) (mine (own r) (sym (ap (λ (a : Option Name). is_some a && not (own r)) is) ∙ other))
    ∙ ap (λ (a : Option Name). option_case a (m r) (λ k. Some (taken_leaf x k))) is
  where
    mine : (b : Bool) → (true && not b) ≡ false → b ≡ true
    mine true h = refl
    mine false h = let both : true ≡ false = h in cc

-- value types of the items are held

all-second : {A : Type 0} (p : A → Bool) (xs ys : List A) → list_all p (xs ++ ys) ≡ true → list_all p ys ≡ true
all-second p [] ys h = h
all-second p (x ∷ xs) ys h = all-second p xs ys (second (p x) (list_all p (xs ++ ys)) h)
  where
    second : (a b : Bool) → (a && b) ≡ true → b ≡ true
    second true b e = e
    second false b e = let both : false ≡ true = e in cc

pub sound-held : (c : Collection) → IsSound c → (id : InterfaceId) (it : Interface) → item_at c.interfaces id.0 ≡ Some it → list_all (holds_type c) (kind_types it.exports) ≡ true
sound-held c sound id it at = by_held (slice_get c.interfaces id.0) refl at
  where
    passed : (b : Bool) (e : AddTypeError) → unless b e ≡ None → b ≡ true
    passed true e h = refl
    passed false e h = let both : Some e ≡ None = h in cc

    first : (o p : Option AddTypeError) → first_some o p ≡ None → o ≡ None
    first None p h = refl
    first (Some e) p h = let both : Some e ≡ None = h in cc

    by_held : (o : Option (Held Interface)) → slice_get c.interfaces id.0 ≡ o → item_of o ≡ Some it → list_all (holds_type c) (kind_types it.exports) ≡ true
    by_held None is e = let no : None ≡ Some it = e in cc
    by_held (Some h) is e =
        let some : Some h.item ≡ Some it = e in
        let same : h.item ≡ it = cc in
        let none = first (mention_fault c (interface_mentions h.item)) (first_some (uses_fault c h.item.uses h.item.exports) (unless (named_right c h.item.uses h.item.exports) fault.ResourceMisnamed)) (sound.interfaces id.0 h is) in
        subst (λ (k : Interface). list_all (holds_type c) (kind_types k.exports) ≡ true) same (all-second (holds_type c) (used_types h.item.uses) (kind_types h.item.exports) (passed (holds_all c (interface_mentions h.item)) fault.NotHeld none))

-- value types

module _ (exported_law : HasExported) (c : Collection) (wf : IsWellFormed c) (it : Interface) (once : NoNameTwice it.exports) (held : list_all (holds_type c) (kind_types it.exports) ≡ true) (others : ResourceId → Bool) (test : DefinedTypeId → Bool) (apart : AreApartItems c it.exports others test) (j : ℕ) (x : Bound) (m : Bindings) (ms : List Bindings) (o : Open) (os : Stack)
    (at_j : At ((env o (envs os)).instances) j x) (shows : Shows c m it x) (binds : BindsBut c it others x.side x.path m) where
  abbrev told_so : List (Name × ItemKind) → Open
  told_so es = exporting_values c es test j o

  abbrev IsGoodWith : Open → Type 0
  IsGoodWith p = Good c (m ∷ ms) (p ∷ os)

  value-step : (i : ℕ) (y : Name × ItemKind) → slice_get it.exports i ≡ Some y → (d : DefinedTypeId) → definition_in c y ≡ Some d → test d ≡ true → IsGoodWith (told_so (take i it.exports)) → IsGoodWith (export_at d (at_export j y.0) (told_so (take i it.exports)))
  value-step i y at d is passes g =
      let v = definition-some c y.0 y.1 d is in
      let found : find_name it.exports y.0 ≡ Some (kind.TypeItem (ty.Value v.0)) = find_name-at it.exports i y.0 y.1 once at ∙ ap Some v.1 in
      let holds = definition-holds c wf it.exports held i y d at is in
      let says : SaysApart c others d true = subst (SaysApart c others d) passes (apart y d (at_in it.exports i y at) is) in
      (exported_law c wf m ms (told_so (take i it.exports)) os it j x v.0 d y.0 others g at_j shows found v.2 holds binds (does-not-depend c others d says)).0

  tell-step : (i : ℕ) (y : Name × ItemKind) → slice_get it.exports i ≡ Some y → IsGoodWith (told_so (take i it.exports)) → IsGoodWith (told_so (take i it.exports ++ y ∷ []))
  tell-step i y at g = subst IsGoodWith (sym (exporting-more c test j (take i it.exports) y o)) (by_item (definition_in c y) refl)
    where
      by_named : (d : DefinedTypeId) → definition_in c y ≡ Some d → test d ≡ true → (a : Option Where) → IsGoodWith (option_case a (export_at d (at_export j y.0) (told_so (take i it.exports))) (λ w. told_so (take i it.exports)))
      by_named d is passes None = value-step i y at d is passes g
      by_named d is passes (Some w) = g

      by_test : (d : DefinedTypeId) → definition_in c y ≡ Some d → (b : Bool) → test d ≡ b → IsGoodWith (told_to (if b then Some d else None) j y.0 (told_so (take i it.exports)))
      by_test d is true passes = by_named d is passes (named_in d (told_so (take i it.exports)))
      by_test d is false fails = g

      by_item : (a : Option DefinedTypeId) → definition_in c y ≡ a → IsGoodWith (told_to (that_passes test a) j y.0 (told_so (take i it.exports)))
      by_item None is = g
      by_item (Some d) is = by_test d is (test d) refl

  tell-at : IsGoodWith o → (i : ℕ) → i ≤ length it.exports → IsGoodWith (told_so (take i it.exports))
  tell-at good zero le = subst IsGoodWith (sym (exporting-none c test j o)) good
  tell-at good (suc i) le =
      let y = at-below it.exports i (omega (arith, le)) in
      subst (λ (l : List (Name × ItemKind)). IsGoodWith (told_so l)) (sym (take_at it.exports i y.0 y.1)) (tell-step i y.0 y.1 (tell-at good i (omega (arith, le))))

  pub tell-all : IsGoodWith o → IsGoodWith (told_so it.exports)
  tell-all good = let le : length it.exports ≤ length it.exports = omega arith in subst (λ (l : List (Name × ItemKind)). IsGoodWith (told_so l)) (take_all (length it.exports) it.exports le) (tell-at good (length it.exports) le)

-- both

pub scope-both : (b : Bool) (f g : Open → Open) (s t u : Scope) → ScopeChanges b f s t → ScopeChanges b g t u → ScopeChanges b (λ o. g (f o)) s u
scope-both b f g s t u one two = (two.0 ∙ ap g one.0, two.1 ∙ ap (written_as (opened b u)) one.1)

pub tells-instance : BindsMore → HasOwn → HasExported → StaysOnward → (c : Collection) → IsWellFormed c → (b : Bool) (it : Interface) → named_right c it.uses it.exports ≡ true → NoNameTwice it.exports → list_all (holds_type c) (kind_types it.exports) ≡ true → (own : ResourceId → Bool) (test : DefinedTypeId → Bool) → AreApartItems c it.exports (is_other c it own) test → (j : ℕ) (st : State) (here : Scope)
    → opened b here ≡ telling c it own test j (opened b st.here) → TellsInstance c b it own j st (record st { here = here })
tells-instance binds_law own_law exported_law stays c wf b it right once held own test apart j st here step m ms x good at_j shows may =
    subst (λ (p : Open). Onward c (with_own_names c it.uses it.exports own (taken_leaf x) m ∷ ms) (stack b st) (p ∷ outward b st.around.items)) (sym step) (
      tell-all exported_law c wf it once held (is_other c it own) test apart j x (with_own_names c it.uses it.exports own (taken_leaf x) m) ms (binding_own c it.uses it.exports own j (opened b st.here)) (outward b st.around.items) at_j (shows-told c it own x m shows)
          (binds-but c it own x m)
          (bind-all binds_law own_law c it right once own j x m ms (opened b st.here) (outward b st.around.items) at_j shows may good),
      (stays c (m ∷ ms) (stack b st) good).1,
    )

-- loops over the items

pub changes-none : (b : Bool) (f : Open → Open) (s : Scope) → ((o : Open) → f o ≡ o) → ScopeChanges b f s s
changes-none b f s h = (sym (h (opened b s)), refl)

pub changes-as : (b : Bool) (f g : Open → Open) (s t : Scope) → ((o : Open) → f o ≡ g o) → ScopeChanges b f s t → ScopeChanges b g s t
changes-as b f g s t h step = (step.0 ∙ h (opened b s), step.1)

pub binding-next : (c : Collection) (uses : List (Name × UsedType)) (test : ResourceId → Bool) (j : ℕ) (es : List (Name × ItemKind)) (i k : ℕ) (y : Name × ItemKind) (a : Option ResourceId) (b : Bool) (s t u : Scope) → named_right c uses es ≡ true → NoNameTwice es → k ≡ suc i → slice_get es i ≡ Some y → a ≡ that_passes test (own_in c uses y) → ScopeChanges b (binding_own c uses (take i es) test j) s t → ScopeChanges b (bound_to a j y.0) t u → ScopeChanges b (binding_own c uses (take k es) test j) s u
binding-next c uses test j es i k y a b s t u right once one at is step last =
    changes-as b (λ o. bound_to a j y.0 (binding_own c uses (take i es) test j o)) (binding_own c uses (take k es) test j) s u
    (λ o. ap (λ (z : Option ResourceId). bound_to z j y.0 (binding_own c uses (take i es) test j o)) is ∙ sym (binding-more c uses test j es i y o right once at) ∙ ap (λ (l : List (Name × ItemKind)). binding_own c uses l test j o) (sym (ap (λ n. take n es) one ∙ take_at es i y at)))
    (scope-both b (binding_own c uses (take i es) test j) (bound_to a j y.0) s t u step last)

pub exporting-next : (c : Collection) (test : DefinedTypeId → Bool) (j : ℕ) (es : List (Name × ItemKind)) (i k : ℕ) (y : Name × ItemKind) (a : Option DefinedTypeId) (b : Bool) (s t u : Scope) → k ≡ suc i → slice_get es i ≡ Some y → a ≡ that_passes test (definition_in c y) → ScopeChanges b (exporting_values c (take i es) test j) s t → ScopeChanges b (told_to a j y.0) t u → ScopeChanges b (exporting_values c (take k es) test j) s u
exporting-next c test j es i k y a b s t u one at is step last =
    changes-as b (λ o. told_to a j y.0 (exporting_values c (take i es) test j o)) (exporting_values c (take k es) test j) s u
    (λ o. ap (λ (z : Option DefinedTypeId). told_to z j y.0 (exporting_values c (take i es) test j o)) is ∙ sym (exporting-more c test j (take i es) y o) ∙ ap (λ (l : List (Name × ItemKind)). exporting_values c l test j o) (sym (ap (λ n. take n es) one ∙ take_at es i y at)))
    (scope-both b (exporting_values c (take i es) test j) (told_to a j y.0) s t u step last)

pub telling-changes : (c : Collection) (it : Interface) (own : ResourceId → Bool) (test : DefinedTypeId → Bool) (j : ℕ) (b : Bool) (s t u : Scope) → ScopeChanges b (binding_own c it.uses it.exports own j) s t → ScopeChanges b (exporting_values c it.exports test j) t u → ScopeChanges b (telling c it own test j) s u
telling-changes c it own test j b s t u step last = scope-both b (binding_own c it.uses it.exports own j) (exporting_values c it.exports test j) s t u step last
