-- What stands against an item stays as the collection grows.
use Rattle.std.proofs.Common.{ℕ, zero, suc, Bool, true, false, List, [], ◌∷◌, ◌++◌, ◌≡◌, ◌<◌, ◌&&◌, ◌||◌, length, refl, ap, sym, ◌∙◌, subst, Option, Some, None, arith, nat_lt, slice_get, is_some, cond, inl, inr}
use Rattle.std.specs.List.{AllByRecursion, list_all}
use Rattle.std.proofs.lemmas.Bool.{cases_Bool}
use Rattle.wac_types_shapes.specs.primitives.Name.{Name, same_name, find_name, option_case, first_some}
use Rattle.wac_types_collection.specs.declared.collection.collection.Held.{Held}
use Rattle.wac_types_collection.specs.declared.collection.collection.AddTypeError.TheVariants as fault
use Rattle.wac_types_shapes.specs.declared.shapes.component.ResourceId.{ResourceId}
use Rattle.wac_types_shapes.specs.declared.shapes.component.UsedType.{UsedType}
use Rattle.wac_types_shapes.specs.declared.shapes.component.Interface.{Interface}
use Rattle.wac_types_shapes.specs.declared.shapes.component.InterfaceId.{InterfaceId}
use Rattle.wac_types_shapes.specs.declared.shapes.component.World.{World}
use Rattle.wac_types_shapes.specs.declared.shapes.component.ValueType.{ValueType}
use Rattle.wac_types_shapes.specs.declared.shapes.component.ValueType.TheVariants as val
use Rattle.wac_types_shapes.specs.declared.shapes.component.«Type».{«Type» as AnyType}
use Rattle.wac_types_shapes.specs.declared.shapes.component.«Type».TheVariants as ty
use Rattle.wac_types_shapes.specs.declared.shapes.component.ItemKind.{ItemKind}
use Rattle.wac_types_shapes.specs.declared.shapes.component.ItemKind.TheVariants as kind
use Rattle.wac_types_collection.specs.collection.Collection.{Collection, size, IsWellFormed, IsKeptBy, IsBefore, IsValueBefore, AddedBefore, AreBefore, holds_value, holds_type, kind_types, used_types, interface_mentions, world_mentions, interface_exports, item_of}
use Rattle.wac_types_shapes.specs.shapes.Kinds.{kind_type}
use Rattle.wac_types_collection.specs.collection.Held.{resolved_in, resolved, source_of}
use Rattle.wac_types_collection.specs.collection.Aliases.{aliased, target_of, value_resolved_in, value_resolved, handle_resolved, type_resolved}
use Rattle.wac_types_collection.specs.collection.Uses.{used_item, is_used_by_id, is_type_item, is_there, same_type, same_type_item, is_listed_as_used, is_named_right, named_right, unless, mention_fault, uses_fault, interface_fault, world_fault, name_there}
use Rattle.wac_types_collection.proofs.lemmas.collection.Growth.{all_kept, all_within, kept_size, no_longer, type_within, value_more, value_before}
use Rattle.wac_types_collection.proofs.lemmas.collection.Chains.{case_same, value_ends, leads, no_target, end_held, source_below}

-- what holds of two lists holds of each
pub all_left : {A : Type 0} (P : A → Type 0) (xs ys : List A) → AllByRecursion P (xs ++ ys) → AllByRecursion P xs
all_left P [] ys h = tt
all_left P (x ∷ xs) ys h = (h.0, all_left P xs ys h.1)

pub all_right : {A : Type 0} (P : A → Type 0) (xs ys : List A) → AllByRecursion P (xs ++ ys) → AllByRecursion P ys
all_right P [] ys h = h
all_right P (x ∷ xs) ys h = all_right P xs ys h.1

-- what is found under a name was added before what lists it
pub found_before : (c : Collection) (n : ℕ) (es : List (Name × ItemKind)) (m : Name) (k : ItemKind) → AreBefore c n (kind_types es) → find_name es m ≡ Some k → IsBefore c n (kind_type k)
found_before c n [] m k b h = cc
found_before c n (e ∷ es) m k b h = elim (cases_Bool (same_name m e.0)) [
  | inl t ↦
      let some : Some e.1 ≡ Some k = sym (ap (λ x. cond x (Some e.1) (find_name es m)) t) ∙ h in
      let same : e.1 ≡ k = cc in
      let P : ItemKind → Type 0 = λ x. IsBefore c n (kind_type x) in
      subst P same b.0
  | inr f ↦ found_before c n es m k b.1 (sym (ap (λ x. cond x (Some e.1) (find_name es m)) f) ∙ h)
]

at_lower : {A : Type 0} (xs : List A) (i : ℕ) (o : Option A) → slice_get xs i ≡ o → i < length xs → (x : A) × (o ≡ Some x)
at_lower [] i o e lt = absurd (omega (arith, lt))
at_lower (x ∷ xs) zero o e lt = (x, sym e)
at_lower (x ∷ xs) (suc i) o e lt = at_lower xs i o e (omega (arith, lt))

pub within : (i n : ℕ) → nat_lt i n ≡ true → i < n
within i n h = grind arith

-- what stood at a position stands there still
same_at : {A : Type 0} (n : ℕ) (o p : Option (Held A)) → ((h : Held A) → o ≡ Some h → p ≡ Some h) → AddedBefore n o → p ≡ o
same_at n None p f b = absurd b
same_at n (Some h) p f b = f h refl

module _ (c d : Collection) (wf : IsWellFormed c) (g : IsKeptBy c d) where
  -- ends of aliases of resources
  pub resource_same_in : (i j : ℕ) (r : ResourceId) → r.0 < i → r.0 < j → r.0 < length c.resources → resolved_in i d r ≡ resolved_in j c r
  resource_same_in zero j r li lj lt = absurd (omega (arith, li))
  resource_same_in (suc i) zero r li lj lt = absurd (omega (arith, lj))
  resource_same_in (suc i) (suc j) r li lj lt =
      let at = at_lower c.resources r.0 _ refl lt in
      ap (λ o. option_case (source_of o) r (resolved_in i d)) (g.resources r.0 at.0 at.1 ∙ sym at.1)
      ∙ case_same (source_of (slice_get c.resources r.0)) r (resolved_in i d) (resolved_in j c)
      (λ q e. let below = source_below c wf r q _ refl e in resource_same_in i j q (omega (arith, li, below)) (omega (arith, lj, below)) (omega (arith, lt, below)))

  pub resource_same : (r : ResourceId) → nat_lt r.0 (length c.resources) ≡ true → resolved d r ≡ resolved c r
  resource_same r held =
      let lt = within _ _ held in
      let more = no_longer c.resources d.resources g.resources in
      resource_same_in (length d.resources) (length c.resources) r (omega (arith, lt, more)) lt lt

  -- ends of aliases of value types
  pub target_same : (n : ℕ) (v : ValueType) → IsValueBefore c n v → target_of d v ≡ target_of c v
  target_same n (val.Defined e) b = ap (λ o. option_case (item_of o) None aliased) (same_at n _ _ (g.defined e.0) b)
  target_same n _ b = refl

  pub value_same_in : (i j : ℕ) (v : ValueType) → IsValueBefore c i v → IsValueBefore c j v → value_resolved_in i d v ≡ value_resolved_in j c v
  value_same_in zero j v bi bj = sym (value_ends j c v (no_target c wf v (λ h. bi) _ refl))
  value_same_in (suc i) zero v bi bj = value_ends (suc i) d v (target_same zero v bj ∙ no_target c wf v (λ h. bj) _ refl)
  value_same_in (suc i) (suc j) v bi bj =
      ap (λ o. option_case o v (value_resolved_in i d)) (target_same (suc i) v bi)
      ∙ case_same (target_of c v) v (value_resolved_in i d) (value_resolved_in j c) (λ t e. let l = leads c wf v t e in value_same_in i j t (l.earlier i bi) (l.earlier j bj))

  pub value_same : (v : ValueType) → holds_value c v ≡ true → value_resolved d v ≡ value_resolved c v
  value_same v held =
      let b = value_before c wf v held in
      value_same_in (size d) (size c) v (value_more c (size c) (size d) v (kept_size c d g) b) b

  handle_same : (v : ValueType) → holds_value c v ≡ true → handle_resolved d v ≡ handle_resolved c v
  handle_same (val.Own r) held = ap val.Own (resource_same r held)
  handle_same (val.Borrow r) held = ap val.Borrow (resource_same r held)
  handle_same _ held = refl

  pub type_same : (t : AnyType) → holds_type c t ≡ true → type_resolved d t ≡ type_resolved c t
  type_same (ty.Resource r) held = ap ty.Resource (resource_same r held)
  type_same (ty.Value v) held = ap ty.Value (ap (handle_resolved d) (value_same v held) ∙ handle_same (value_resolved c v) (end_held c wf (size c) v held))
  type_same _ held = refl

  pub item_same : (a b : ItemKind) → holds_type c (kind_type a) ≡ true → holds_type c (kind_type b) ≡ true → same_type_item d a b ≡ same_type_item c a b
  item_same (kind.TypeItem s) (kind.TypeItem t) hs ht = ap (λ x. same_type x (type_resolved d t)) (type_same s hs) ∙ ap (same_type (type_resolved c s)) (type_same t ht)
  item_same _ _ hs ht = refl

  -- what is used
  exports_same : (n : ℕ) (i : InterfaceId) → IsBefore c n (ty.Interface i) → interface_exports d i ≡ interface_exports c i
  exports_same n i b = ap (λ o. option_case (item_of o) [] (λ x. x.exports)) (same_at n _ _ (g.interfaces i.0) b)

  used_same : (n : ℕ) (m : Name) (u : UsedType) → IsBefore c n (ty.Interface u.interface) → used_item d m u ≡ used_item c m u
  used_same n m u b = ap (λ es. find_name es (name_there m u)) (exports_same n u.interface b)

  used_by : (n : ℕ) (i : InterfaceId) (m : Name) (o : Option (Held Interface)) (used : ItemKind) → slice_get c.interfaces i.0 ≡ o → find_name (option_case (item_of o) [] (λ x. x.exports)) m ≡ Some used → holds_type c (kind_type used) ≡ true
  used_by n i m None used at found = cc
  used_by n i m (Some h) used at found =
      let before = all_right (IsBefore c h.before) (used_types h.item.uses) (kind_types h.item.exports) (wf.interfaces i.0 h at).1 in
      type_within c h.before (kind_type used) (found_before c h.before h.item.exports m used before found)

  used_held : (n : ℕ) (m : Name) (u : UsedType) (used : ItemKind) → used_item c m u ≡ Some used → holds_type c (kind_type used) ≡ true
  used_held n m u used found = used_by n u.interface (name_there m u) _ used refl found

  by_id_same : (n : ℕ) (u : UsedType) → IsBefore c n (ty.Interface u.interface) → is_used_by_id d u ≡ is_used_by_id c u
  by_id_same n u b = ap (λ o. option_case (item_of o) false (λ i. is_some i.id)) (same_at n _ _ (g.interfaces u.interface.0) b)

  there_same : (n : ℕ) (e : Name × UsedType) → IsBefore c n (ty.Interface e.1.interface) → is_there d e ≡ is_there c e
  there_same n e b = ap (λ o. option_case o false is_type_item) (used_same n e.0 e.1 b)

  listed_same : (n : ℕ) (listed : List (Name × ItemKind)) → AreBefore c n (kind_types listed) → (e : Name × UsedType) → IsBefore c n (ty.Interface e.1.interface) → is_listed_as_used d listed e ≡ is_listed_as_used c listed e
  listed_same n listed items e b = case_same (find_name listed e.0) true _ _
      (λ k found. let held = type_within c n (kind_type k) (found_before c n listed e.0 k items found) in
      ap (λ o. option_case o false (same_type_item d k)) (used_same n e.0 e.1 b)
      ∙ case_same (used_item c e.0 e.1) false (same_type_item d k) (same_type_item c k) (λ used is. item_same k used held (used_held n e.0 e.1 used is)))

  named_same : (n : ℕ) (uses : List (Name × UsedType)) (e : Name × ItemKind) → IsBefore c n (kind_type e.1) → is_named_right d uses e ≡ is_named_right c uses e
  named_same n uses (m, kind.TypeItem (ty.Resource r)) b =
      ap (λ o. is_some (source_of o) || (is_some (find_name uses m) || option_case (item_of o) false (λ q. same_name q.name m))) (same_at n _ _ (g.resources r.0) b)
  named_same n uses _ b = refl

  -- a test of all that is used, and of all that is listed
  over_uses : (n : ℕ) (p q : Name × UsedType → Bool) → ((e : Name × UsedType) → IsBefore c n (ty.Interface e.1.interface) → p e ≡ q e) → (uses : List (Name × UsedType)) → AreBefore c n (used_types uses) → list_all p uses ≡ list_all q uses
  over_uses n p q same [] b = refl
  over_uses n p q same (e ∷ uses) b = ap (λ x. x && list_all p uses) (same e b.0) ∙ ap (λ x. q e && x) (over_uses n p q same uses b.1)

  over_items : (n : ℕ) (p q : Name × ItemKind → Bool) → ((e : Name × ItemKind) → IsBefore c n (kind_type e.1) → p e ≡ q e) → (es : List (Name × ItemKind)) → AreBefore c n (kind_types es) → list_all p es ≡ list_all q es
  over_items n p q same [] b = refl
  over_items n p q same (e ∷ es) b = ap (λ x. x && list_all p es) (same e b.0) ∙ ap (λ x. q e && x) (over_items n p q same es b.1)

  uses_same : (n : ℕ) (uses : List (Name × UsedType)) (listed : List (Name × ItemKind)) → AreBefore c n (used_types uses) → AreBefore c n (kind_types listed) → uses_fault d uses listed ≡ uses_fault c uses listed
  uses_same n uses listed b items =
      let one = over_uses n (λ e. is_used_by_id d e.1) (λ e. is_used_by_id c e.1) (λ e be. by_id_same n e.1 be) uses b in
      let two = over_uses n (is_there d) (is_there c) (λ e be. there_same n e be) uses b in
      let three = over_uses n (is_listed_as_used d listed) (is_listed_as_used c listed) (λ e be. listed_same n listed items e be) uses b in
      (λ i. first_some (unless (one i) fault.UsedInterfaceUnnamed) (first_some (unless (two i) fault.UsedTypeMissing) (unless (three i) fault.UsedTypeDiffers)))

  names_same : (n : ℕ) (uses : List (Name × UsedType)) (listed : List (Name × ItemKind)) → AreBefore c n (kind_types listed) → named_right d uses listed ≡ named_right c uses listed
  names_same n uses listed items = over_items n (is_named_right d uses) (is_named_right c uses) (λ e be. named_same n uses e be) listed items

  mentions_same : (n : ℕ) (ts : List AnyType) → AreBefore c n ts → mention_fault d ts ≡ mention_fault c ts
  mentions_same n ts b = ap (λ x. unless x fault.NotHeld) (all_within d n ts (all_kept c d g n ts b) ∙ sym (all_within c n ts b))

  pub interface_same : (n : ℕ) (i : Interface) → AreBefore c n (interface_mentions i) → interface_fault d i ≡ interface_fault c i
  interface_same n i b =
      let used = all_left (IsBefore c n) (used_types i.uses) (kind_types i.exports) b in
      let listed = all_right (IsBefore c n) (used_types i.uses) (kind_types i.exports) b in
      let one = mentions_same n (interface_mentions i) b in
      let two = uses_same n i.uses i.exports used listed in
      let three = names_same n i.uses i.exports listed in
      (λ j. first_some (one j) (first_some (two j) (unless (three j) fault.ResourceMisnamed)))

  pub world_same : (n : ℕ) (w : World) → AreBefore c n (world_mentions w) → world_fault d w ≡ world_fault c w
  world_same n w b =
      let used = all_left (IsBefore c n) (used_types w.uses) (kind_types w.imports ++ kind_types w.exports) b in
      let listed = all_right (IsBefore c n) (used_types w.uses) (kind_types w.imports ++ kind_types w.exports) b in
      let imports = all_left (IsBefore c n) (kind_types w.imports) (kind_types w.exports) listed in
      let exports = all_right (IsBefore c n) (kind_types w.imports) (kind_types w.exports) listed in
      let one = mentions_same n (world_mentions w) b in
      let two = uses_same n w.uses w.imports used imports in
      let three = names_same n w.uses w.imports imports in
      let four = names_same n w.uses w.exports exports in
      (λ j. first_some (one j) (first_some (two j) (unless (three j && four j) fault.ResourceMisnamed)))
