-- Own resources of interfaces, and instance types that begin with them.
use Rattle.std.specs.Prelude.{ℕ, zero, suc, ◌≡◌, ◌≤◌, ◌<◌, ◌==◌, ◌&&◌, ◌||◌, Bool, true, false, not, List, [], ◌∷◌, ◌++◌, length, take, slice_get, Option, Some, None, is_some, is_none, if◌then◌else◌}
use Rattle.std.specs.List.{list_all}
use Rattle.std.proofs.Common.{refl, ap, ◌∙◌, sym, subst, arith}
use Rattle.std.proofs.lemmas.Bool.{eq-eqb, eqb-true}
use Rattle.std.proofs.lemmas.List.{append-nil, take_all}
use Rattle.std.proofs.lemmas.Grind.{flat_map-append}
use Rattle.wac_types_shapes.specs.primitives.Name.{Name, same_name, find_name, option_case}
use Rattle.wac_types_shapes.specs.primitives.Tree.{exported, Tree, fresh, absent}
use Rattle.wac_types_shapes.specs.shapes.Named.{NoNameTwice}
use Rattle.wac_types_shapes.proofs.lemmas.shapes.Names.{same_name-true, same_name-refl, none_behind, found_at, none_before, take_at}
use Rattle.wac_types_shapes.specs.declared.shapes.component.Resource.{Resource}
use Rattle.wac_types_shapes.specs.declared.shapes.component.ResourceId.{ResourceId}
use Rattle.wac_types_shapes.specs.declared.shapes.component.InterfaceId.{InterfaceId}
use Rattle.wac_types_shapes.specs.declared.shapes.component.Interface.{Interface}
use Rattle.wac_types_shapes.specs.declared.shapes.component.UsedType.{UsedType}
use Rattle.wac_types_shapes.specs.declared.shapes.component.«Type».TheVariants as ty
use Rattle.wac_types_shapes.specs.declared.shapes.component.ItemKind.{ItemKind}
use Rattle.wac_types_shapes.specs.declared.shapes.component.ItemKind.TheVariants as kind
use Rattle.wac_types_collection.specs.declared.collection.collection.Held.{Held}
use Rattle.wac_types_collection.specs.declared.collection.collection.AddTypeError.{AddTypeError}
use Rattle.wac_types_collection.specs.declared.collection.collection.AddTypeError.TheVariants as fault
use Rattle.wac_types_collection.specs.collection.Collection.{Collection, item_at, item_of, interface_mentions}
use Rattle.wac_types_collection.specs.collection.Bound.{Bindings, is_alias, lists_own, own_name, inside_interface}
use Rattle.wac_types_collection.specs.collection.Uses.{IsSound, has_name, is_named_right, named_right, unless, mention_fault, uses_fault}
use Rattle.wac_types_shapes.specs.primitives.Name.{first_some}
use Rattle.wac_binary.specs.declared.sorts.Description.TheVariants as d
use Rattle.wac_binary.specs.Items.{Decl, export_decl}
use Rattle.wac_binary.specs.HasMeaning.{IsFree}
use Rattle.wac_binary.specs.Unfold.{with_item}
use Rattle.wac_encode_stacks.specs.Scopes.{declarations, at_type, Open, Stack, env, envs, next_type, opening}
use Rattle.wac_encode_stacks.specs.Good.{Good, top, innermost}
use Rattle.wac_encode_stacks.specs.private.Beside.{written_as}
use Rattle.wac_encode_scopes.specs.declared.encodable.Encodable.{Encodable}
use Rattle.wac_encode_scopes.specs.declared.encodable.Encodable.TheVariants.{Instance}
use Rattle.wac_encode_scopes.specs.declared.scope.Scope.{Scope}
use Rattle.wac_encode_scopes.specs.declared.state.State.{State}
use Rattle.wac_encode_scopes.specs.Books.{opened}
use Rattle.wac_encode_scopes.specs.States.{stack}
use Rattle.wac_encode_scopes.proofs.Opened.{one-more}
use Rattle.wac_encode_stacks.specs.Listed.{AreListed, IsUnder, IsNewName, declaring, Lists, calling, listed_leaf, RecordsNoType, ListsOwn, ListsOneMore, called_inside, OpensInterface, CallsOneMore, CallsNoMore, CallsAll, FreshInInterface, CallsOwn}
use Rattle.wac_encode_scopes.specs.private.Interfaces.{own_in, own_item, own_items, fresh_exports, BindsNone, BindsOne, RecordsOwn, BeginsInterface}
use Rattle.wac_encode_scopes.specs.private.Steps.{and_fresh, with_fresh, with_own_in, with_own, exporting, OwnIsBound}

and-parts : (a b : Bool) → (a && b) ≡ true → (a ≡ true) × (b ≡ true)
and-parts true b h = (refl, h)
and-parts false b h = let both : false ≡ true = h in cc

and-second : (a : Bool) → (a && true) ≡ a
and-second true = refl
and-second false = refl

and-false : (a : Bool) → (a && false) ≡ false
and-false true = refl
and-false false = refl

-- the collection is sound, so resources are named right

pub sound-named : (c : Collection) → IsSound c → (i : InterfaceId) (it : Interface) → item_at c.interfaces i.0 ≡ Some it → named_right c it.uses it.exports ≡ true
sound-named c sound i it at = by_held (slice_get c.interfaces i.0) refl at
  where
    passed : (b : Bool) (e : AddTypeError) → unless b e ≡ None → b ≡ true
    passed true e h = refl
    passed false e h = let both : Some e ≡ None = h in cc

    later : (o p : Option AddTypeError) → first_some o p ≡ None → p ≡ None
    later None p h = h
    later (Some e) p h = let both : Some e ≡ None = h in cc

    by_held : (o : Option (Held Interface)) → slice_get c.interfaces i.0 ≡ o → item_of o ≡ Some it → named_right c it.uses it.exports ≡ true
    by_held None is e = let no : None ≡ Some it = e in cc
    by_held (Some h) is e =
        let some : Some h.item ≡ Some it = e in
        let same : h.item ≡ it = cc in
        let none = sound.interfaces i.0 h is in
        let rest = later (mention_fault c (interface_mentions h.item)) (first_some (uses_fault c h.item.uses h.item.exports) (unless (named_right c h.item.uses h.item.exports) fault.ResourceMisnamed)) none in
        let last = later (uses_fault c h.item.uses h.item.exports) (unless (named_right c h.item.uses h.item.exports) fault.ResourceMisnamed) rest in
        subst (λ (x : Interface). named_right c x.uses x.exports ≡ true) same (passed (named_right c h.item.uses h.item.exports) fault.ResourceMisnamed last)

named-once : (o : Option Resource) (a b : Name) → option_case o false (λ q. same_name q.name a) ≡ true → option_case o false (λ q. same_name q.name b) ≡ true → a ≡ b
named-once None a b h g = let both : false ≡ true = h in cc
named-once (Some q) a b h g = sym (same_name-true q.name a h) ∙ same_name-true q.name b g

module _ (c : Collection) (uses : List (Name × UsedType)) where
  -- the own resource of an item
  pub own-some : (n : Name) (k : ItemKind) (q : ResourceId) → own_in c uses (n, k) ≡ Some q → (k ≡ kind.TypeItem (ty.Resource q)) × ((not (is_alias c q) && is_none (find_name uses n)) ≡ true)
  own-some n (kind.TypeItem (ty.Resource r)) q h = by_case (not (is_alias c r) && is_none (find_name uses n)) refl h
    where
      by_case : (b : Bool) → (not (is_alias c r) && is_none (find_name uses n)) ≡ b → (if b then Some r else None) ≡ Some q → (kind.TypeItem (ty.Resource r) ≡ kind.TypeItem (ty.Resource q)) × ((not (is_alias c q) && is_none (find_name uses n)) ≡ true)
      by_case true s e =
          let some : Some r ≡ Some q = e in
          let same : r ≡ q = cc in
          (ap (λ (x : ResourceId). kind.TypeItem (ty.Resource x)) same, ap (λ (x : ResourceId). not (is_alias c x) && is_none (find_name uses n)) (sym same) ∙ s)
      by_case false s e = let no : None ≡ Some q = e in cc
  own-some n k q h = let no : None ≡ Some q = h in cc

  pub own-lists : (n : Name) (k : ItemKind) (q : ResourceId) → own_in c uses (n, k) ≡ Some q → (r : ResourceId) → lists_own c uses r (n, k) ≡ (q.0 == r.0)
  own-lists n k q h r =
      let is = own-some n k q h in
      ap (λ (x : ItemKind). lists_own c uses r (n, x)) is.0 ∙ ap (λ b. (q.0 == r.0) && b) is.1 ∙ and-second (q.0 == r.0)

  pub own-none : (n : Name) (k : ItemKind) → own_in c uses (n, k) ≡ None → (r : ResourceId) → lists_own c uses r (n, k) ≡ false
  own-none n (kind.TypeItem (ty.Resource q)) h r = by_case (not (is_alias c q) && is_none (find_name uses n)) h
    where
      by_case : (b : Bool) → (if b then Some q else None) ≡ None → ((q.0 == r.0) && b) ≡ false
      by_case true e = let no : Some q ≡ None = e in cc
      by_case false e = and-false (q.0 == r.0)
  own-none n k h r = refl

  pub same-id : (q r : ResourceId) → (q.0 == r.0) ≡ true → q ≡ r
  same-id q r h = ap (λ i. record { 0 = i }) (eqb-true q.0 r.0 h)

  -- an item that lists a resource as own has it
  pub own-listed : (n : Name) (k : ItemKind) (r : ResourceId) → lists_own c uses r (n, k) ≡ true → own_in c uses (n, k) ≡ Some r
  own-listed n (kind.TypeItem (ty.Resource q)) r h =
      let both = and-parts (q.0 == r.0) (not (is_alias c q) && is_none (find_name uses n)) h in
      ap (λ b. if b then Some q else None) both.1 ∙ ap Some (same-id q r both.0)
  own-listed n k r h = let both : false ≡ true = h in cc

  pub own-append : (es : List (Name × ItemKind)) (x : Name × ItemKind) (r : ResourceId) → own_name c uses (es ++ x ∷ []) r ≡ option_case (own_name c uses es r) (if lists_own c uses r x then Some x.0 else None) (λ n. Some n)
  own-append [] x r = refl
  own-append (y ∷ es) x r = by_case (lists_own c uses r y) (own-append es x r)
    where
      by_case : (b : Bool) → own_name c uses (es ++ x ∷ []) r ≡ option_case (own_name c uses es r) (if lists_own c uses r x then Some x.0 else None) (λ n. Some n) → (if b then Some y.0 else own_name c uses (es ++ x ∷ []) r) ≡ option_case (if b then Some y.0 else own_name c uses es r) (if lists_own c uses r x then Some x.0 else None) (λ n. Some n)
      by_case true i = refl
      by_case false i = i

  -- where the name of an own resource comes from
  pub own-found : (es : List (Name × ItemKind)) (r : ResourceId) (n : Name) → own_name c uses es r ≡ Some n → (i : ℕ) × (x : Name × ItemKind) × (slice_get es i ≡ Some x) × (lists_own c uses r x ≡ true) × (x.0 ≡ n)
  own-found [] r n h = let no : None ≡ Some n = h in cc
  own-found (y ∷ es) r n h = by_case (own-found es r n) (lists_own c uses r y) refl h
    where
      by_case : (own_name c uses es r ≡ Some n → (i : ℕ) × (x : Name × ItemKind) × (slice_get es i ≡ Some x) × (lists_own c uses r x ≡ true) × (x.0 ≡ n)) → (b : Bool) → lists_own c uses r y ≡ b → (if b then Some y.0 else own_name c uses es r) ≡ Some n → (i : ℕ) × (x : Name × ItemKind) × (slice_get (y ∷ es) i ≡ Some x) × (lists_own c uses r x ≡ true) × (x.0 ≡ n)
      by_case rest true s e = let some : Some y.0 ≡ Some n = e in let same : y.0 ≡ n = cc in (zero, y, refl, s, same)
      by_case rest false s e = let f = rest e in (suc f.0, f.1, f.2, f.3, f.4)

  pub own-there : (es : List (Name × ItemKind)) (i : ℕ) (x : Name × ItemKind) (r : ResourceId) → slice_get es i ≡ Some x → lists_own c uses r x ≡ true → (n : Name) × (own_name c uses es r ≡ Some n)
  own-there [] i x r at h = let no : None ≡ Some x = at in cc
  own-there (y ∷ es) zero x r at h =
      let some : Some y ≡ Some x = at in
      let same : y ≡ x = cc in
      (y.0, ap (λ b. if b then Some y.0 else own_name c uses es r) (ap (lists_own c uses r) same ∙ h))
  own-there (y ∷ es) (suc i) x r at h = by_case (lists_own c uses r y) (own-there es i x r at h)
    where
      by_case : (b : Bool) → (n : Name) × (own_name c uses es r ≡ Some n) → (n : Name) × ((if b then Some y.0 else own_name c uses es r) ≡ Some n)
      by_case true f = (y.0, refl)
      by_case false f = f

  own-part : (i : ℕ) (es : List (Name × ItemKind)) (r : ResourceId) (n : Name) → own_name c uses (take i es) r ≡ Some n → own_name c uses es r ≡ Some n
  own-part zero es r n h = let no : None ≡ Some n = h in cc
  own-part (suc i) [] r n h = let no : None ≡ Some n = h in cc
  own-part (suc i) (y ∷ es) r n h = by_case (own-part i es r n) (lists_own c uses r y) h
    where
      by_case : (own_name c uses (take i es) r ≡ Some n → own_name c uses es r ≡ Some n) → (b : Bool) → (if b then Some y.0 else own_name c uses (take i es) r) ≡ Some n → (if b then Some y.0 else own_name c uses es r) ≡ Some n
      by_case rest true e = e
      by_case rest false e = rest e

  -- names that are right

  right-name : (n : Name) (k : ItemKind) (r : ResourceId) → is_named_right c uses (n, k) ≡ true → own_in c uses (n, k) ≡ Some r → has_name c r.0 n ≡ true
  right-name n k r right own =
      let is = own-some n k r own in
      by_case (is_alias c r) (find_name uses n) is.1 (sym (ap (λ (x : ItemKind). is_named_right c uses (n, x)) is.0) ∙ right)
    where
      by_case : (b : Bool) (o : Option UsedType) → (not b && is_none o) ≡ true → (b || (is_some o || has_name c r.0 n)) ≡ true → has_name c r.0 n ≡ true
      by_case true o h g = let both : false ≡ true = h in cc
      by_case false None h g = g
      by_case false (Some u) h g = let both : false ≡ true = h in cc

  right-at : (es : List (Name × ItemKind)) (i : ℕ) (x : Name × ItemKind) → named_right c uses es ≡ true → slice_get es i ≡ Some x → is_named_right c uses x ≡ true
  right-at [] i x right at = let no : None ≡ Some x = at in cc
  right-at (y ∷ es) zero x right at =
      let some : Some y ≡ Some x = at in
      let same : y ≡ x = cc in
      ap (is_named_right c uses) (sym same) ∙ (and-parts (is_named_right c uses y) (list_all (is_named_right c uses) es) right).0
  right-at (y ∷ es) (suc i) x right at = right-at es i x (and-parts (is_named_right c uses y) (list_all (is_named_right c uses) es) right).1 at

  -- each own resource has the name of its item
  pub own-at : (es : List (Name × ItemKind)) (i : ℕ) (x : Name × ItemKind) (r : ResourceId) → named_right c uses es ≡ true → slice_get es i ≡ Some x → own_in c uses x ≡ Some r → own_name c uses es r ≡ Some x.0
  own-at es i x r right at own =
      let lists : lists_own c uses r x ≡ true = own-lists x.0 x.1 r own r ∙ eq-eqb r.0 r.0 refl in
      let there = own-there es i x r at lists in
      let from = own-found es r there.0 there.1 in
      let its = right-name from.1.0 from.1.1 r (right-at es from.0 from.1 right from.2) (own-listed from.1.0 from.1.1 r from.3) in
      let mine = right-name x.0 x.1 r (right-at es i x right at) own in
      there.1 ∙ ap Some (sym from.4 ∙ named-once (item_at c.resources r.0) from.1.0 x.0 its mine)

  -- and is not listed before
  pub own-before : (es : List (Name × ItemKind)) (i : ℕ) (x : Name × ItemKind) (r : ResourceId) → named_right c uses es ≡ true → NoNameTwice es → slice_get es i ≡ Some x → own_in c uses x ≡ Some r → own_name c uses (take i es) r ≡ None
  own-before es i x r right once at own = by_case (own_name c uses (take i es) r) refl
    where
      by_case : (o : Option Name) → own_name c uses (take i es) r ≡ o → o ≡ None
      by_case None h = refl
      by_case (Some n) h =
          let some : Some n ≡ Some x.0 = sym (own-part i es r n h) ∙ own-at es i x r right at own in
          let same : n ≡ x.0 = cc in
          let from = own-found (take i es) r n h in
          absurd (found_at (take i es) from.0 from.1.0 from.1.1 from.2 (ap (find_name (take i es)) (from.4 ∙ same) ∙ none_before es i x.0 x.1 once at))

  -- items with an own resource

  pub items-append : (es : List (Name × ItemKind)) (x : Name × ItemKind) → own_items c uses (es ++ x ∷ []) ≡ own_items c uses es ++ own_item c uses x
  items-append es x = flat_map-append (own_item c uses) es (x ∷ []) ∙ ap (λ (ys : List (Name × ItemKind)). own_items c uses es ++ ys) (append-nil (own_item c uses x))

  items-fewer : (es : List (Name × ItemKind)) (n : Name) → find_name es n ≡ None → find_name (own_items c uses es) n ≡ None
  items-fewer [] n h = refl
  items-fewer (x ∷ es) n h = let two = none_behind x es n h in by_case two.0 (items-fewer es n two.1) (own_in c uses x)
    where
      by_case : same_name n x.0 ≡ false → find_name (own_items c uses es) n ≡ None → (o : Option ResourceId) → find_name (option_case o [] (λ r. x ∷ []) ++ own_items c uses es) n ≡ None
      by_case apart rest None = rest
      by_case apart rest (Some r) = ap (λ b. if b then Some x.1 else find_name (own_items c uses es) n) apart ∙ rest

  -- scopes in which own resources are listed one by one

  pub with-own-append : (es : List (Name × ItemKind)) (x : Name × ItemKind) (o : Open) → with_own c uses (es ++ x ∷ []) o ≡ with_own_in (own_in c uses x) x.0 (with_own c uses es o)
  with-own-append [] x o = refl
  with-own-append (y ∷ es) x o = with-own-append es x (with_own_in (own_in c uses y) y.0 o)

  bound-one : (a : Option ResourceId) (x : Name × ItemKind) → own_in c uses x ≡ a → (r : ResourceId) (o : Open) → lists_own c uses r x ≡ false → (with_own_in a x.0 o).binds r ≡ o.binds r
  bound-one None x is r o h = refl
  bound-one (Some q) x is r o h = ap (λ b. if b then Some (at_type (next_type o)) else o.binds r) (other (r.0 == q.0) refl)
    where
      other : (b : Bool) → (r.0 == q.0) ≡ b → b ≡ false
      other false e = refl
      other true e = let both : false ≡ true = sym h ∙ own-lists x.0 x.1 q is r ∙ eq-eqb q.0 r.0 (sym (eqb-true r.0 q.0 e)) in cc

  bound-mine : (a : Option ResourceId) (x : Name × ItemKind) → own_in c uses x ≡ a → (r : ResourceId) (o : Open) → lists_own c uses r x ≡ true → (i : ℕ) × ((with_own_in a x.0 o).binds r ≡ Some (at_type i))
  bound-mine None x is r o h = let both : false ≡ true = sym (own-none x.0 x.1 is r) ∙ h in cc
  bound-mine (Some q) x is r o h =
      let same = eqb-true q.0 r.0 (sym (own-lists x.0 x.1 q is r) ∙ h) in
      (next_type o, ap (λ b. if b then Some (at_type (next_type o)) else o.binds r) (eq-eqb r.0 q.0 (sym same)))

  still-bound : (a : Option ResourceId) (n : Name) (r : ResourceId) (o : Open) (i : ℕ) → o.binds r ≡ Some (at_type i) → (j : ℕ) × ((with_own_in a n o).binds r ≡ Some (at_type j))
  still-bound None n r o i h = (i, h)
  still-bound (Some q) n r o i h = by_case (r.0 == q.0)
    where
      by_case : (b : Bool) → (j : ℕ) × ((if b then Some (at_type (next_type o)) else o.binds r) ≡ Some (at_type j))
      by_case true = (next_type o, refl)
      by_case false = (i, h)

  all-bound : (es : List (Name × ItemKind)) (r : ResourceId) (o : Open) (i : ℕ) → o.binds r ≡ Some (at_type i) → (j : ℕ) × ((with_own c uses es o).binds r ≡ Some (at_type j))
  all-bound [] r o i h = (i, h)
  all-bound (x ∷ es) r o i h = let one = still-bound (own_in c uses x) x.0 r o i h in all-bound es r (with_own_in (own_in c uses x) x.0 o) one.0 one.1

  pub own-bound : (es : List (Name × ItemKind)) (r : ResourceId) (n : Name) (o : Open) → own_name c uses es r ≡ Some n → (i : ℕ) × ((with_own c uses es o).binds r ≡ Some (at_type i))
  own-bound [] r n o h = let no : None ≡ Some n = h in cc
  own-bound (x ∷ es) r n o h = by_case (own-bound es r n (with_own_in (own_in c uses x) x.0 o)) (lists_own c uses r x) refl h
    where
      by_case : (own_name c uses es r ≡ Some n → (i : ℕ) × ((with_own c uses es (with_own_in (own_in c uses x) x.0 o)).binds r ≡ Some (at_type i))) → (b : Bool) → lists_own c uses r x ≡ b → (if b then Some x.0 else own_name c uses es r) ≡ Some n → (i : ℕ) × ((with_own c uses es (with_own_in (own_in c uses x) x.0 o)).binds r ≡ Some (at_type i))
      by_case rest true s e = let one = bound-mine (own_in c uses x) x refl r o s in all-bound es r (with_own_in (own_in c uses x) x.0 o) one.0 one.1
      by_case rest false s e = rest e

  pub not-own : (es : List (Name × ItemKind)) (r : ResourceId) (o : Open) → own_name c uses es r ≡ None → (with_own c uses es o).binds r ≡ o.binds r
  not-own [] r o h = refl
  not-own (x ∷ es) r o h = by_case (not-own es r (with_own_in (own_in c uses x) x.0 o)) (lists_own c uses r x) refl h
    where
      by_case : (own_name c uses es r ≡ None → (with_own c uses es (with_own_in (own_in c uses x) x.0 o)).binds r ≡ (with_own_in (own_in c uses x) x.0 o).binds r) → (b : Bool) → lists_own c uses r x ≡ b → (if b then Some x.0 else own_name c uses es r) ≡ None → (with_own c uses es (with_own_in (own_in c uses x) x.0 o)).binds r ≡ o.binds r
      by_case rest true s e = let no : Some x.0 ≡ None = e in cc
      by_case rest false s e = rest e ∙ bound-one (own_in c uses x) x refl r o s

-- the item at a position
pub at-below : (xs : List (Name × ItemKind)) (j : ℕ) → j < length xs → (x : Name × ItemKind) × (slice_get xs j ≡ Some x)
at-below [] j lt = absurd (omega (arith, lt))
at-below (x ∷ xs) zero lt = (x, refl)
at-below (x ∷ xs) (suc j) lt = at-below xs j (omega (arith, lt))

-- an own resource is listed

own-step : ListsOwn → (c : Collection) (m : Bindings) (ms : List Bindings) (ds : List Decl) (o : Open) (os : Stack) (n : Name) (r : ResourceId) → o.content ≡ declarations ds → Good c (m ∷ ms) (o ∷ os) → IsNewName o os exported n → RecordsNoType o → (o.passes ≡ true → top ms r ≡ None) → Lists c (calling r (listed_leaf exported n) m) ms o (with_fresh exported n r o) os exported n fresh
own-step law c m ms ds o os n r is g new none apart =
    subst (λ (p : Open). Lists c (calling r (listed_leaf exported n) m) ms p (with_fresh exported n r p) os exported n fresh) (sym same)
    (law c m ms ds o os n r (subst (λ (p : Open). Good c (m ∷ ms) (p ∷ os)) same g) (subst (λ (p : Open). IsNewName p os exported n) same new) (record { types = none.types; exports = none.exports }) apart)
  where
    same : o ≡ declaring ds o
    same = λ i. record o { content = is i }

-- the instance type as far as its items are done

module _ (own_law : ListsOwn) (one_law : CallsOneMore) (no_law : CallsNoMore) (items_law : ListsOneMore) (fresh_law : FreshInInterface) (calls_law : CallsOwn) (opens_law : OpensInterface)
    (c : Collection) (it : Interface) (right : named_right c it.uses it.exports ≡ true) (once : NoNameTwice it.exports) (ms : List Bindings) (st : Stack) (good : Good c ms st) (passes : Bool)
    (apart : passes ≡ true → (r : ResourceId) (n : Name) → own_name c it.uses it.exports r ≡ Some n → top ms r ≡ None) where
  abbrev inner : Bindings
  inner = inside_interface c it (top ms)

  record Begun (done : List (Name × ItemKind)) (o : Open) : Type 0 where
    good_so_far : Good c (called_inside c it.uses done (top ms) ∷ ms) (o ∷ st)
    listed : AreListed c inner exported (own_items c it.uses done) ((env o (envs st)).exports)
    none : RecordsNoType o
    content : (ds : List Decl) × (o.content ≡ declarations ds)
    passing : o.passes ≡ passes

  begun-none : Begun [] (opening passes)
  begun-none = let first = opens_law c ms st it passes good in record {
    good_so_far = first.0;
    listed = first.1;
    none = record { types = λ a. refl; exports = λ k. refl };
    content = ([], refl);
    passing = refl;
  }

  module _ (i : ℕ) (x : Name × ItemKind) (at : slice_get it.exports i ≡ Some x) (o : Open) (b : Begun (take i it.exports) o) where
    abbrev done : List (Name × ItemKind)
    done = take i it.exports

    begun-other : own_in c it.uses x ≡ None → Begun (done ++ x ∷ []) o
    begun-other is = record {
      good_so_far = subst (λ (m : Bindings). Good c (m ∷ ms) (o ∷ st)) (sym (no_law c it.uses done x (top ms) (λ r h. own-none c it.uses x.0 x.1 is r))) b.good_so_far;
      listed = subst (λ (l : List (Name × ItemKind)). AreListed c inner exported l ((env o (envs st)).exports)) (sym (items-append c it.uses done x ∙ ap (λ (a : Option ResourceId). own_items c it.uses done ++ option_case a [] (λ r. x ∷ [])) is ∙ append-nil (own_items c it.uses done))) b.listed;
      none = b.none;
      content = b.content;
      passing = b.passing;
    }

    begun-own : (r : ResourceId) → own_in c it.uses x ≡ Some r → Begun (done ++ x ∷ []) (with_fresh exported x.0 r o)
    begun-own r is =
        let whole = own-at c it.uses it.exports i x r right at is in
        let before = own-before c it.uses it.exports i x r right once at is in
        let some = own-some c it.uses x.0 x.1 r is in
        let x_is : x ≡ (x.0, kind.TypeItem (ty.Resource r)) = λ j. (x.0, some.0 j) in
        let missing = items-fewer c it.uses done x.0 (none_before it.exports i x.0 x.1 once at) in
        let under : (env o (envs st)).exports x.0 ≡ absent = subst (λ (f : Option ItemKind). IsUnder c inner exported x.0 f ((env o (envs st)).exports x.0)) missing (b.listed x.0) in
        let l = own-step own_law c (called_inside c it.uses done (top ms)) ms b.content.0 o st x.0 r b.content.1 b.good_so_far (subst IsFree (sym under) tt) b.none (λ p. apart (sym b.passing ∙ p) r x.0 whole) in
        let lists : lists_own c it.uses r (x.0, kind.TypeItem (ty.Resource r)) ≡ true = ap (λ z. z && (not (is_alias c r) && is_none (find_name it.uses x.0))) (eq-eqb r.0 r.0 refl) ∙ some.1 in
        let calls = ap (λ (y : Name × ItemKind). called_inside c it.uses (done ++ y ∷ []) (top ms)) x_is ∙ one_law c it.uses done x.0 r (top ms) before lists in
        let item = fresh_law c it (top ms) x.0 r ∙ ap (λ (q : ResourceId). option_case (own_name c it.uses it.exports q) false (λ q. same_name q x.0)) (calls_law c it (top ms) r x.0 whole).0 ∙ ap (λ (a : Option Name). option_case a false (λ q. same_name q x.0)) whole ∙ same_name-refl x.0 in
        let more = items_law c inner exported (own_items c it.uses done) ((env o (envs st)).exports) x.0 (kind.TypeItem (ty.Resource r)) fresh b.listed missing item in
        record {
          good_so_far = subst (λ (m : Bindings). Good c (m ∷ ms) (with_fresh exported x.0 r o ∷ st)) (sym calls) l.good;
          listed =
              subst (λ (items : Name → Tree). AreListed c inner exported (own_items c it.uses (done ++ x ∷ [])) items) (sym l.this)
              (subst (λ (es : List (Name × ItemKind)). AreListed c inner exported es (with_item ((env o (envs st)).exports) x.0 fresh)) (sym (items-append c it.uses done x ∙ ap (λ (a : Option ResourceId). own_items c it.uses done ++ option_case a [] (λ r. x ∷ [])) is ∙ ap (λ (y : Name × ItemKind). own_items c it.uses done ++ y ∷ []) x_is)) more);
          none = record { types = b.none.types; exports = b.none.exports };
          content = (b.content.0 ++ export_decl x.0 d.Fresh ∷ [], ap (and_fresh exported x.0) b.content.1);
          passing = b.passing;
        }

    begun-more : Begun (done ++ x ∷ []) (with_own_in (own_in c it.uses x) x.0 o)
    begun-more = by_own (own_in c it.uses x) refl
      where
        by_own : (a : Option ResourceId) → own_in c it.uses x ≡ a → Begun (done ++ x ∷ []) (with_own_in a x.0 o)
        by_own None is = begun-other is
        by_own (Some r) is = begun-own r is

  begun-at : (i : ℕ) → i ≤ length it.exports → Begun (take i it.exports) (with_own c it.uses (take i it.exports) (opening passes))
  begun-at zero le = begun-none
  begun-at (suc i) le =
      let x = at-below it.exports i (omega (arith, le)) in
      let more = begun-more i x.0 x.1 (with_own c it.uses (take i it.exports) (opening passes)) (begun-at i (omega (arith, le))) in
      subst (λ (l : List (Name × ItemKind)). Begun l (with_own c it.uses l (opening passes))) (sym (take_at it.exports i x.0 x.1)) (subst (Begun (take i it.exports ++ x.0 ∷ [])) (sym (with-own-append c it.uses (take i it.exports) x.0 (opening passes))) more)

  begun-all : Begun it.exports (with_own c it.uses it.exports (opening passes))
  begun-all = let le : length it.exports ≤ length it.exports = omega arith in subst (λ (l : List (Name × ItemKind)). Begun l (with_own c it.uses l (opening passes))) (take_all (length it.exports) it.exports le) (begun-at (length it.exports) le)

  pub begun-good : CallsAll → Good c (inner ∷ ms) (with_own c it.uses it.exports (opening passes) ∷ st)
  begun-good all_law = subst (λ (m : Bindings). Good c (m ∷ ms) (with_own c it.uses it.exports (opening passes) ∷ st)) (all_law c it (top ms)) begun-all.good_so_far

  pub begun-listed : AreListed c inner exported (own_items c it.uses it.exports) ((env (with_own c it.uses it.exports (opening passes)) (envs st)).exports)
  begun-listed = begun-all.listed

-- what is recorded, and whether it passes

none-one : (a : Option ResourceId) (n : Name) (o : Open) → RecordsNoType o → RecordsNoType (with_own_in a n o)
none-one None n o h = h
none-one (Some r) n o h = record { types = h.types; exports = h.exports }

pub none-all : (c : Collection) (uses : List (Name × UsedType)) (es : List (Name × ItemKind)) (o : Open) → RecordsNoType o → RecordsNoType (with_own c uses es o)
none-all c uses [] o h = h
none-all c uses (x ∷ es) o h = none-all c uses es (with_own_in (own_in c uses x) x.0 o) (none-one (own_in c uses x) x.0 o h)

passes-one : (a : Option ResourceId) (n : Name) (o : Open) → (with_own_in a n o).passes ≡ o.passes
passes-one None n o = refl
passes-one (Some r) n o = refl

pub passes-all : (c : Collection) (uses : List (Name × UsedType)) (es : List (Name × ItemKind)) (o : Open) → (with_own c uses es o).passes ≡ o.passes
passes-all c uses [] o = refl
passes-all c uses (x ∷ es) o = passes-all c uses es (with_own_in (own_in c uses x) x.0 o) ∙ passes-one (own_in c uses x) x.0 o

-- a loop over the items

pub opened-step : (c : Collection) (uses : List (Name × UsedType)) (es : List (Name × ItemKind)) (i j : ℕ) (x : Name × ItemKind) (o p q : Open) → j ≡ suc i → slice_get es i ≡ Some x → q ≡ with_own c uses (take i es) o → p ≡ with_own_in (own_in c uses x) x.0 q → p ≡ with_own c uses (take j es) o
opened-step c uses es i j x o p q one at so step =
    step ∙ ap (with_own_in (own_in c uses x) x.0) so ∙ sym (with-own-append c uses (take i es) x o)
    ∙ ap (λ (l : List (Name × ItemKind)). with_own c uses l o) (sym (ap (λ k. take k es) one ∙ take_at es i x at))

map-one : (es : List (Name × ItemKind)) (x : Name × ItemKind) → fresh_exports (es ++ x ∷ []) ≡ fresh_exports es ++ export_decl x.0 d.Fresh ∷ []
map-one [] x = refl
map-one (y ∷ es) x = ap (λ (ds : List Decl). export_decl y.0 d.Fresh ∷ ds) (map-one es x)

pub content-step : (c : Collection) (uses : List (Name × UsedType)) (es : List (Name × ItemKind)) (i j : ℕ) (x : Name × ItemKind) (y z : Encodable) → j ≡ suc i → slice_get es i ≡ Some x → y ≡ Instance (fresh_exports (own_items c uses (take i es))) → z ≡ exporting (own_in c uses x) x.0 y → z ≡ Instance (fresh_exports (own_items c uses (take j es)))
content-step c uses es i j x y z one at so step =
    step ∙ ap (exporting (own_in c uses x) x.0) so ∙ by_own (own_in c uses x)
    ∙ ap (λ (l : List (Name × ItemKind)). Instance (fresh_exports l)) (sym (items-append c uses (take i es) x) ∙ ap (own_items c uses) (sym (ap (λ k. take k es) one ∙ take_at es i x at)))
  where
    by_own : (a : Option ResourceId) → exporting a x.0 (Instance (fresh_exports (own_items c uses (take i es)))) ≡ Instance (fresh_exports (own_items c uses (take i es) ++ option_case a [] (λ r. x ∷ [])))
    by_own None = ap (λ (l : List (Name × ItemKind)). Instance (fresh_exports l)) (sym (append-nil (own_items c uses (take i es))))
    by_own (Some r) = ap Instance (sym (map-one (own_items c uses (take i es)) x))

-- own resources that are bound

abbrev pub NoneOf : Collection → Bool → State → List (Name × UsedType) → List (Name × ItemKind) → Type 0
NoneOf c b st uses es = (r : ResourceId) (n : Name) → own_name c uses es r ≡ Some n → (ms : List Bindings) → Good c ms (stack b st) → top ms r ≡ None

pub none-step : (c : Collection) (b : Bool) (st : State) (uses : List (Name × UsedType)) (es : List (Name × ItemKind)) (i j : ℕ) (x : Name × ItemKind) → j ≡ suc i → slice_get es i ≡ Some x → OwnIsBound c b st (own_in c uses x) false → NoneOf c b st uses (take i es) → NoneOf c b st uses (take j es)
none-step c b st uses es i j x one at own so r n h ms g =
    by_before (own_name c uses (take i es) r) refl (sym (ap (λ (l : List (Name × ItemKind)). own_name c uses l r) (ap (λ k. take k es) one ∙ take_at es i x at) ∙ own-append c uses (take i es) x r) ∙ h)
  where
    by_own : (a : Option ResourceId) → own_in c uses x ≡ a → OwnIsBound c b st a false → lists_own c uses r x ≡ true → top ms r ≡ None
    by_own a is bound lists = mine (sym is ∙ own-listed c uses x.0 x.1 r lists) bound
      where
        mine : a ≡ Some r → OwnIsBound c b st a false → top ms r ≡ None
        mine same k = (subst (λ (o : Option ResourceId). OwnIsBound c b st o false) same k) ms g

    by_lists : (l : Bool) → lists_own c uses r x ≡ l → (if l then Some x.0 else None) ≡ Some n → top ms r ≡ None
    by_lists true lists e = by_own (own_in c uses x) refl own lists
    by_lists false lists e = let no : None ≡ Some n = e in cc

    by_before : (o : Option Name) → own_name c uses (take i es) r ≡ o → option_case o (if lists_own c uses r x then Some x.0 else None) (λ k. Some k) ≡ Some n → top ms r ≡ None
    by_before (Some k) is e = so r k is ms g
    by_before None is e = by_lists (lists_own c uses r x) refl e

pub binds-one : (c : Collection) (b : Bool) (st : State) (it : Interface) (i : ℕ) (x : Name × ItemKind) → slice_get it.exports i ≡ Some x → OwnIsBound c b st (own_in c it.uses x) true → BindsOne c b it st
binds-one c b st it i x at own = by_own (own_in c it.uses x) refl own
  where
    by_own : (a : Option ResourceId) → own_in c it.uses x ≡ a → OwnIsBound c b st a true → BindsOne c b it st
    by_own None is h = let both : true ≡ false = h in cc
    by_own (Some r) is h = let there = own-there c it.uses it.exports i x r at (own-lists c it.uses x.0 x.1 r is r ∙ eq-eqb r.0 r.0 refl) in (r, there.0, there.1, h)

-- all together

pub begins-interface : ListsOwn → CallsOneMore → CallsNoMore → ListsOneMore → FreshInInterface → CallsOwn → OpensInterface → CallsAll → (c : Collection) (b : Bool) (it : Interface) → named_right c it.uses it.exports ≡ true → NoNameTwice it.exports → (st t : State) (scope : Scope) (passes : Bool)
    → opened b scope ≡ with_own c it.uses it.exports (opening passes) → scope.content ≡ Instance (fresh_exports (own_items c it.uses it.exports)) → opened (not b) scope ≡ written_as (opened b scope) (opening true)
    → (passes ≡ true → BindsNone c b it st) → (passes ≡ false → BindsOne c b it st) → t.here ≡ scope → t.around.items ≡ st.around.items ++ st.here ∷ [] → BeginsInterface c b it st t
begins-interface own_law one_law no_law items_law fresh_law calls_law opens_law all_law c b it right once st t scope passes is content beside none one here around = record {
  around = around;
  content = ap (λ (s : Scope). s.content) here ∙ content;
  good = λ ms g. subst (Good c (inside_interface c it (top ms) ∷ ms)) (sym pushed) (begun-good own_law one_law no_law items_law fresh_law calls_law opens_law c it right once ms (stack b st) g passes (λ p r n own. none p r n own ms g) all_law);
  exports = λ ms g. subst (λ (zs : Stack). AreListed c (inside_interface c it (top ms)) exported (own_items c it.uses it.exports) ((innermost zs).exports)) (sym pushed) (begun-listed own_law one_law no_law items_law fresh_law calls_law opens_law c it right once ms (stack b st) g passes (λ p r n own. none p r n own ms g));
  recorded = subst (RecordsOwn c it) (sym there) (record {
    none = none-all c it.uses it.exports (opening passes) (record { types = λ a. refl; exports = λ k. refl });
    own = λ r n own. own-bound c it.uses it.exports r n (opening passes) own;
    others = λ r own. not-own c it.uses it.exports r (opening passes) own;
  });
  passes = λ p. none (sym passing ∙ p);
  stays = λ p. one (sym passing ∙ p);
  beside = ap (opened (not b)) here ∙ beside ∙ ap (λ (s : Scope). written_as (opened b s) (opening true)) (sym here);
}
  where
    there : opened b t.here ≡ with_own c it.uses it.exports (opening passes)
    there = ap (opened b) here ∙ is

    passing : (opened b t.here).passes ≡ passes
    passing = ap (λ (o : Open). o.passes) there ∙ passes-all c it.uses it.exports (opening passes)

    pushed : stack b t ≡ with_own c it.uses it.exports (opening passes) ∷ stack b st
    pushed = one-more b (with_own c it.uses it.exports (opening passes)) t.here st.here scope st.around.items t.around.items here around is
