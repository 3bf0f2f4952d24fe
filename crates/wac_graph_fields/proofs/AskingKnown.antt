-- The instances that are known, with one more import.
use Rattle.std.proofs.Common.{◌≡◌, ℕ, Bool, true, false, not, cond, nat_eq, ◌&&◌, ◌||◌, List, [], ◌∷◌, ◌++◌, map, Some, None, Result, Ok, Err, OnOk, refl, ap, sym, ◌∙◌, subst, append_assoc}
use Rattle.std.specs.Borrow.{Bor}
use Rattle.std.specs.HashSet.{HashSet, contains}
use Rattle.std.specs.Str.{bytes_eq}
use Rattle.std.specs.declared.alloc.AllocError.{AllocError}
use Rattle.std.proofs.lemmas.List.{map-append}
use Rattle.wac_types_shapes.specs.primitives.Name.{Name, same_name, option_case}
use Rattle.wac_types_collection.specs.collection.Collection.{Collection, item_at}
use Rattle.wac_types_shapes.specs.declared.shapes.component.Interface.{Interface}
use Rattle.wac_types_shapes.specs.declared.shapes.component.InterfaceId.{InterfaceId}
use Rattle.wac_types_shapes.specs.declared.shapes.component.ItemKind.{ItemKind}
use Rattle.wac_types_shapes.specs.declared.shapes.component.ItemKind.TheVariants as kind
use Rattle.wac_types_shapes.proofs.lemmas.shapes.Names.{same_name-bytes_eq}
use Rattle.wac_graph_fields.specs.declared.asked.AskedEntry.{AskedEntry}
use Rattle.wac_graph_fields.specs.declared.asked.Asking.{Asking}
use Rattle.wac_graph_fields.specs.declared.asked.Task.{Task}
use Rattle.wac_types_collection.specs.wide.Wide.{instances_of, is_among, with_each}
use Rattle.wac_graph_fields.specs.declared.asked.Task.TheVariants.{Visit, Open, Close}
use Rattle.wac_graph_model.specs.nodes.Asked.{Entry}
use Rattle.wac_graph_model.specs.nodes.Entries.{under_id, same_instance, asks_again}
use Rattle.wac_graph_fields.specs.private.EntriesLeft.{entry_view, by_node, instance_under, has, added, AreApart, entries_of, knows, IsRight, openings, visits, Did, divided, met, entered, closed, passed}
use Rattle.wac_graph_fields.proofs.EntryLists.{has_by, has_joined, apart_pushed}

abbrev pub Key : Type 0
Key = Bor (List ℕ) × InterfaceId

abbrev pub key_eq : Key → Key → Bool
key_eq a b = bytes_eq a.0.now b.0.now && nat_eq a.1.0 b.1.0

-- what is known and asked for before an import is put behind the others
pub record IsNoted (old : Asking) (e : Entry) (mid : Asking) : Type 0 where
  pub entries : mid.entries ≡ old.entries
  pub new : has (entries_of old) e ≡ false
  pub known : (name : Name) (i : InterfaceId) → knows mid.known name i ≡ has (entries_of old ++ e ∷ []) (instance_under name i)

or_last : (a b : Bool) → cond b true a ≡ (a || (b || false))
or_last true true = refl
or_last true false = refl
or_last false true = refl
or_last false false = refl

or_none : (a : Bool) → a ≡ (a || false)
or_none true = refl
or_none false = refl

and_none : (a b : Bool) → b ≡ false → (a && b) ≡ false
and_none true b h = h
and_none false b h = refl

known_more : {S : Type 0} (old new : HashSet Key S) (key : Key) (xs : List Entry) (e : Entry) → e.name ≡ key.0.now → e.kind ≡ kind.Instance key.1 → ((q : Key) → contains key_eq new q ≡ cond (key_eq key q) true (contains key_eq old q))
    → ((name : Name) (i : InterfaceId) → knows old name i ≡ has xs (instance_under name i)) → (name : Name) (i : InterfaceId) → knows new name i ≡ has (xs ++ e ∷ []) (instance_under name i)
known_more old new key xs e named typed put known name i =
    let x = instance_under name i in
    let here : asks_again e x ≡ (bytes_eq key.0.now name && nat_eq key.1.0 i.0) =
    ap (λ n. same_name n name && same_instance e.kind (kind.Instance i)) named ∙ ap (λ k. same_name key.0.now name && same_instance k (kind.Instance i)) typed ∙ ap (λ b. b && nat_eq key.1.0 i.0) (sym (same_name-bytes_eq key.0.now name)) in
    put (record { ref_ptr = (0, 0); now = name }, i)
    ∙ ap (cond (bytes_eq key.0.now name && nat_eq key.1.0 i.0) true) (known name i)
    ∙ or_last (has xs x) (bytes_eq key.0.now name && nat_eq key.1.0 i.0)
    ∙ ap (λ b. has xs x || (b || false)) (sym here)
    ∙ sym (has_joined xs (e ∷ []) x)

was_new : (b : Bool) → true ≡ not b → b ≡ false
was_new true h = cc
was_new false h = refl

pub was_there : (b : Bool) → false ≡ not b → b ≡ true
was_there true h = refl
was_there false h = cc

-- an instance is known only where it is asked for
pub has_known : (a : Asking) → IsRight a → (key : Key) (e : Entry) → e.name ≡ key.0.now → e.kind ≡ kind.Instance key.1 → has (entries_of a) e ≡ contains key_eq a.known key
has_known a r key e named typed = has_by (entries_of a) e (instance_under key.0.now key.1) named typed ∙ sym (r.known key.0.now key.1)

pub there_already : (a : Asking) → IsRight a → (key : Key) (e : Entry) → e.name ≡ key.0.now → e.kind ≡ kind.Instance key.1 → false ≡ not (contains key_eq a.known key) → entries_of a ≡ added (entries_of a) e
there_already a r key e named typed known = sym (ap (λ b. cond b (entries_of a) (entries_of a ++ e ∷ [])) (has_known a r key e named typed ∙ was_there (contains key_eq a.known key) known))

pub instance_noted : (old mid : Asking) → IsRight old → (key : Key) (e : Entry) → e.name ≡ key.0.now → e.kind ≡ kind.Instance key.1 → mid.entries ≡ old.entries → true ≡ not (contains key_eq old.known key)
    → ((q : Key) → contains key_eq mid.known q ≡ cond (key_eq key q) true (contains key_eq old.known q)) → IsNoted old e mid
instance_noted old mid r key e named typed kept fresh put = record {
  entries = kept;
  new = has_known old r key e named typed ∙ was_new (contains key_eq old.known key) fresh;
  known = known_more old.known mid.known key (entries_of old) e named typed put r.known;
}

-- ---- what is no instance
no_instance : (k l : ItemKind) → ((i : InterfaceId) → k ≡ kind.Instance i → ⊥) → same_instance k l ≡ false
no_instance (kind.Instance i) l none = absurd (none i refl)
no_instance (kind.TypeItem x) l none = refl
no_instance (kind.Func x) l none = refl
no_instance (kind.Component x) l none = refl
no_instance (kind.Module x) l none = refl
no_instance (kind.Value x) l none = refl

nor_instance : (k l : ItemKind) → ((i : InterfaceId) → l ≡ kind.Instance i → ⊥) → same_instance k l ≡ false
nor_instance (kind.Instance j) (kind.Instance i) none = absurd (none i refl)
nor_instance (kind.Instance j) (kind.TypeItem x) none = refl
nor_instance (kind.Instance j) (kind.Func x) none = refl
nor_instance (kind.Instance j) (kind.Component x) none = refl
nor_instance (kind.Instance j) (kind.Module x) none = refl
nor_instance (kind.Instance j) (kind.Value x) none = refl
nor_instance (kind.TypeItem x) l none = refl
nor_instance (kind.Func x) l none = refl
nor_instance (kind.Component x) l none = refl
nor_instance (kind.Module x) l none = refl
nor_instance (kind.Value x) l none = refl

never_has : (xs : List Entry) (e : Entry) → ((i : InterfaceId) → e.kind ≡ kind.Instance i → ⊥) → has xs e ≡ false
never_has [] e none = refl
never_has (x ∷ xs) e none = ap (λ b. b || has xs e) (and_none (same_name x.name e.name) (same_instance x.kind e.kind) (nor_instance x.kind e.kind none)) ∙ never_has xs e none

pub other_noted : (old : Asking) → IsRight old → (e : Entry) → ((i : InterfaceId) → e.kind ≡ kind.Instance i → ⊥) → IsNoted old e old
other_noted old r e none = record {
  entries = refl;
  new = never_has (entries_of old) e none;
  known = λ name i.
      let x = instance_under name i in
      r.known name i ∙ or_none (has (entries_of old) x) ∙ ap (λ b. has (entries_of old) x || (b || false)) (sym (and_none (same_name e.name name) (same_instance e.kind (kind.Instance i)) (no_instance e.kind (kind.Instance i) none)))
      ∙ sym (has_joined (entries_of old) (e ∷ []) x);
}

-- ---- the import is put behind the others
module _ (old mid new : Asking) (asked : AskedEntry) (noted : IsNoted old (entry_view asked) mid) (pushed : new.entries.items ≡ mid.entries.items ++ asked ∷ []) where
  pub entries_pushed : entries_of new ≡ entries_of old ++ entry_view asked ∷ []
  entries_pushed = ap (map entry_view) pushed ∙ map-append entry_view mid.entries.items (asked ∷ []) ∙ ap (λ es. map entry_view es.items ++ entry_view asked ∷ []) noted.entries

  pub entries_added : entries_of new ≡ added (entries_of old) (entry_view asked)
  entries_added = entries_pushed ∙ sym (ap (λ b. cond b (entries_of old) (entries_of old ++ entry_view asked ∷ [])) noted.new)

  pub right_pushed : IsRight old → new.known ≡ mid.known → IsRight new
  right_pushed r same = record {
    apart = subst AreApart (sym entries_pushed) (apart_pushed (entries_of old) (entry_view asked) r.apart noted.new);
    known = λ name i. ap (λ s. knows s name i) same ∙ noted.known name i ∙ ap (λ es. has es (instance_under name i)) (sym entries_pushed);
  }

-- ---- tasks
pub did_divide : (c : Collection) (i : InterfaceId) (n : ℕ) (old : List Entry) (seen : List InterfaceId) (left now : List Task) (r : Result (Unit {0}) AllocError)
    → OnOk r (now ≡ left ++ Close i ∷ Visit i ∷ []) → OnOk r (Did c n (Open i) old old seen seen left now)
did_divide c i n old seen left now (Ok _) made = divided i refl refl refl made
did_divide c i n old seen left now (Err _) made = made

pub did_meet : (c : Collection) (i : InterfaceId) (n : ℕ) (old : List Entry) (seen after : List InterfaceId) (left : List Task) → is_among seen i ≡ true → after ≡ with_each seen (i ∷ []) → Did c n (Visit i) old old seen after left left
did_meet c i n old seen after left there marked = met i refl there refl marked refl

module _ (c : Collection) (i : InterfaceId) (it : Interface) (at : item_at c.interfaces i.0 ≡ Some it) where
  named_under : (name : Name) → it.id ≡ Some name → under_id c i ≡ (name, kind.Instance i) ∷ []
  named_under name is = ap (λ o. option_case o [] (λ it. option_case it.id [] (λ id. (id, kind.Instance i) ∷ []))) at ∙ ap (λ o. option_case o [] (λ id. (id, kind.Instance i) ∷ [])) is

  unnamed_under : it.id ≡ None → under_id c i ≡ []
  unnamed_under is = ap (λ o. option_case o [] (λ it. option_case it.id [] (λ id. (id, kind.Instance i) ∷ []))) at ∙ ap (λ o. option_case o [] (λ id. (id, kind.Instance i) ∷ [])) is

  pub did_enter : (n : ℕ) (old : List Entry) (seen after : List InterfaceId) (left mid now : List Task) (r : Result (Unit {0}) AllocError)
      → after ≡ with_each seen (i ∷ []) → mid ≡ left ++ visits (instances_of it.exports) → OnOk r (now ≡ mid ++ openings it.uses) → OnOk r (Did c n (Visit i) old old seen after left now)
  did_enter n old seen after left mid now (Ok _) marked first made =
      entered i refl refl marked
      (made ∙ ap (λ ts. ts ++ openings it.uses) first ∙ append_assoc left (visits (instances_of it.exports)) (openings it.uses)
      ∙ ap (λ o. left ++ (visits (instances_of (option_case o [] (λ x. x.exports))) ++ openings (option_case o [] (λ x. x.uses)))) (sym at))
  did_enter n old seen after left mid now (Err _) marked first made = made

  pub did_close : (n : ℕ) (name : Name) (old new : List Entry) (seen after : List InterfaceId) (left : List Task) (r : Result (Unit {0}) AllocError) → it.id ≡ Some name → OnOk r (new ≡ added old (by_node n (name, kind.Instance i))) → OnOk r (after ≡ seen)
      → OnOk r (Did c n (Close i) old new seen after left left)
  did_close n name old new seen after left (Ok _) is made same = closed i name refl (named_under name is) made same refl
  did_close n name old new seen after left (Err _) is made same = made

  pub did_pass : (n : ℕ) (old : List Entry) (seen : List InterfaceId) (left : List Task) → it.id ≡ None → Did c n (Close i) old old seen seen left left
  did_pass n old seen left is = passed i refl (unnamed_under is) refl refl refl
