-- Imports of the root, and items that a caller appends to it.
use Rattle.std.specs.Prelude.{ℕ, ◌≡◌, Bool, true, false, List, [], ◌∷◌, ◌++◌, None}
use Rattle.std.proofs.Common.{refl, ap, ◌∙◌, sym, subst}
use Rattle.wac_types_shapes.specs.primitives.Name.{Name}
use Rattle.wac_types_shapes.specs.primitives.Tree.{Tree, type_equal, function_item, instance_item, component_item, module_item, resource}
use Rattle.wac_types_shapes.specs.declared.shapes.component.ResourceId.{ResourceId}
use Rattle.wac_types_collection.specs.collection.Collection.{Collection}
use Rattle.wac_types_collection.specs.collection.Bound.{Bindings}
use Rattle.wac_binary.specs.declared.sorts.Description.{Description}
use Rattle.wac_binary.specs.declared.sorts.Description.TheVariants as e
use Rattle.wac_binary.specs.declared.sorts.Sort.TheVariants as sort
use Rattle.wac_binary.specs.Items.{Item, import_item}
use Rattle.wac_binary.specs.Indexes.{space, described_sort, indexes}
use Rattle.wac_binary.specs.HasMeaning.{HasMeaning}
use Rattle.wac_encode_scopes.specs.declared.book.Book.{Book}
use Rattle.wac_encode_scopes.specs.declared.encodable.Encodable.{Encodable}
use Rattle.wac_encode_scopes.specs.declared.encodable.Encodable.TheVariants.{Builder, Instance, Component}
use Rattle.wac_encode_scopes.specs.declared.scope.Scope.{Scope}
use Rattle.wac_encode_scopes.specs.declared.state.State.{State}
use Rattle.wac_encode_scopes.specs.Contents.{content_of, count_of}
use Rattle.wac_encode_scopes.specs.Books.{recorded, book_of, opened}
use Rattle.wac_encode_scopes.specs.States.{outward, stack}
use Rattle.wac_encode_scopes.specs.private.Listing.{Describes}
use Rattle.wac_encode_scopes.specs.Roots.{IsRoot, items_of, and_import, ImportRefersTo, ImportsItem, ImportsResource}
use Rattle.wac_encode_scopes.specs.Lending.{GoesOnLent}
use Rattle.wac_encode_scopes.specs.private.Steps.{ScopeChanges, and_fresh_import, with_fresh_import}
use Rattle.wac_encode_stacks.specs.Scopes.{root, at_type, Open, Stack, env, envs, next_type, type_count, bind_at, Content}
use Rattle.wac_encode_stacks.specs.Good.{Good, Onward}
use Rattle.wac_encode_stacks.specs.private.Laws.{Adds}
use Rattle.wac_encode_stacks.specs.Listed.{calling}
use Rattle.wac_encode_stacks.specs.Instances.{position_of, import_leaf, ImportsInstance, ImportsType, ImportsFresh, ImportsFunc, ImportsModule, ImportsComponent}
use Rattle.wac_encode_stacks.specs.private.Inside.{RootGoesOn}
use Rattle.wac_encode_scopes.proofs.Opened.{book-kept}

module _ (type_law : ImportsType) (func : ImportsFunc) (inst : ImportsInstance) (comp : ImportsComponent) (mod_ : ImportsModule) where
  import-one : (c : Collection) (m : Bindings) (book : Book) (items : List Item) (n : Name) (d : Description) (t : Tree) → Good c (m ∷ []) (recorded book (root items) ∷ []) → Describes (env (recorded book (root items)) []) d t
      → Onward c (m ∷ []) (recorded book (root items) ∷ []) (recorded book (root (items ++ import_item n d ∷ [])) ∷ []) × ImportRefersTo (env (recorded book (root (items ++ import_item n d ∷ []))) []) (position_of items) d (indexes (space (described_sort d)) items) t
  import-one c m book items n (e.Equal i) (type_equal t) g h = type_law c m items (recorded book (root items)) n i t g h.0 h.1
  import-one c m book items n (e.Func i) (function_item t) g h = (func c m items (recorded book (root items)) n i t g h.0 h.1, tt)
  import-one c m book items n (e.Instance i) (instance_item t) g h = inst c m items (recorded book (root items)) n i t g h.0 h.1
  import-one c m book items n (e.Component i) (component_item t) g h = (comp c m items (recorded book (root items)) n i t g h.0 h.1, tt)
  import-one c m book items n (e.CoreModule i) (module_item t) g h = (mod_ c m items (recorded book (root items)) n i t g h.0 h.1, tt)
  import-one c m book items n d t g h = absurd h

  -- the root has no enclosing scope
  import-root : (c : Collection) (m : Bindings) (ms : List Bindings) (book : Book) (items : List Item) (os : Stack) (n : Name) (d : Description) (t : Tree) → Good c (m ∷ ms) (recorded book (root items) ∷ os) → Describes (env (recorded book (root items)) (envs os)) d t
      → Onward c (m ∷ ms) (recorded book (root items) ∷ os) (recorded book (root (items ++ import_item n d ∷ [])) ∷ os) × ImportRefersTo (env (recorded book (root (items ++ import_item n d ∷ []))) (envs os)) (position_of items) d (indexes (space (described_sort d)) items) t
  import-root c m [] book items [] n d t g h = import-one c m book items n d t g h
  import-root c m (k ∷ ms) book items [] n d t g h = absurd g.1
  import-root c m ms book items (o ∷ os) n d t g h = let no : false ≡ true = g.0.bottom items refl in cc

  import-content : (c : Collection) (m : Bindings) (ms : List Bindings) (book : Book) (x : Encodable) (os : Stack) (n : Name) (d : Description) (t : Tree) → IsRoot x → Good c (m ∷ ms) (recorded book (content_of x) ∷ os) → Describes (env (recorded book (content_of x)) (envs os)) d t
      → Onward c (m ∷ ms) (recorded book (content_of x) ∷ os) (recorded book (content_of (and_import n d x)) ∷ os) × ImportRefersTo (env (recorded book (content_of (and_import n d x))) (envs os)) (position_of (items_of x)) d (count_of (space (described_sort d)) x) t
  import-content c m ms book (Builder items) os n d t is g h = import-root c m ms book items os n d t g h
  import-content c m ms book (Instance ds) os n d t is g h = absurd is
  import-content c m ms book (Component ds) os n d t is g h = absurd is

  pub imports-state : (n : Name) (d : Description) (st : State) (here : Scope) (k : ℕ) → IsRoot st.here.content → k ≡ count_of (space (described_sort d)) st.here.content → here ≡ record st.here { content = and_import n d st.here.content } → ImportsItem d st (record st { here = here }) k
  imports-state n d st here k is_root index is c b m ms t g h =
      let os = outward b st.around.items in
      let x = and_import n d st.here.content in
      let p = position_of (items_of st.here.content) in
      subst (λ (s : Scope). Onward c (m ∷ ms) (stack b st) (opened b s ∷ os) × ImportRefersTo (env (opened b s) (envs os)) p d k t) (sym is)
      (subst (λ (a : Book). Onward c (m ∷ ms) (stack b st) (recorded a (content_of x) ∷ os) × ImportRefersTo (env (recorded a (content_of x)) (envs os)) p d k t) (sym (book-kept b st.here x))
      (subst (λ (j : ℕ). Onward c (m ∷ ms) (stack b st) (recorded (book_of b st.here) (content_of x) ∷ os) × ImportRefersTo (env (recorded (book_of b st.here) (content_of x)) (envs os)) p d j t) (sym index)
      (import-content c m ms (book_of b st.here) st.here.content os n d t is_root g h)))

-- a fresh resource

module _ (law : ImportsFresh) (c : Collection) (n : Name) (r : ResourceId) where
  fresh-root : (m : Bindings) (ms : List Bindings) (book : Book) (items : List Item) (os : Stack) → Good c (m ∷ ms) (recorded book (root items) ∷ os) → m r ≡ None
      → Adds c (calling r (import_leaf items) m ∷ ms) (recorded book (root items) ∷ os) (with_fresh_import n r (recorded book (root items)) ∷ os) (next_type (recorded book (root items))) (resource (import_leaf items))
  fresh-root m [] book items [] g none = law c m items (recorded book (root items)) n r g none
  fresh-root m (k ∷ ms) book items [] g none = absurd g.1
  fresh-root m ms book items (o ∷ os) g none = let no : false ≡ true = g.0.bottom items refl in cc

  fresh-content : (m : Bindings) (ms : List Bindings) (book : Book) (x : Encodable) (os : Stack) → IsRoot x → Good c (m ∷ ms) (recorded book (content_of x) ∷ os) → m r ≡ None
      → Adds c (calling r (import_leaf (items_of x)) m ∷ ms) (recorded book (content_of x) ∷ os) (with_fresh_import n r (recorded book (content_of x)) ∷ os) (next_type (recorded book (content_of x))) (resource (import_leaf (items_of x)))
  fresh-content m ms book (Builder items) os is g none = fresh-root m ms book items os g none
  fresh-content m ms book (Instance ds) os is g none = absurd is
  fresh-content m ms book (Component ds) os is g none = absurd is

pub imports-resource : ImportsFresh → (b : Bool) (n : Name) (r : ResourceId) (st : State) (here : Scope) (k : ℕ) → IsRoot st.here.content → k ≡ next_type (opened b st.here) → ScopeChanges b (with_fresh_import n r) st.here here → ImportsResource b r st (record st { here = here }) k
imports-resource law b n r st here k is_root index step = record {
  around = refl;
  recorded =
      step.0
      ∙ ap (λ (j : ℕ). bind_at r (at_type j) (record (opened b st.here) { content = and_fresh_import n (content_of st.here.content) })) (sym index)
      ∙ ap (λ (y : Content). bind_at r (at_type k) (record (opened b st.here) { content = y })) (sym (ap (λ (o : Open). o.content) step.0));
  other = step.1;
  adds = λ c m ms g none.
      let os = outward b st.around.items in
      let l = import_leaf (items_of st.here.content) in
      subst (λ (o : Open). Adds c (calling r l m ∷ ms) (stack b st) (o ∷ os) k (resource l)) (sym step.0)
      (subst (λ (j : ℕ). Adds c (calling r l m ∷ ms) (stack b st) (with_fresh_import n r (opened b st.here) ∷ os) j (resource l)) (sym index)
      (fresh-content law c n r m ms (book_of b st.here) st.here.content os is_root g none));
}

-- what a caller appends

lend-root : RootGoesOn → (c : Collection) (m : Bindings) (ms : List Bindings) (book : Book) (items more : List Item) (os : Stack) → Good c (m ∷ ms) (recorded book (root items) ∷ os) → HasMeaning (items ++ more) → Onward c (m ∷ ms) (recorded book (root items) ∷ os) (recorded book (root (items ++ more)) ∷ os)
lend-root law c m [] book items more [] g means = law c m items more (recorded book (root items)) g means
lend-root law c m (k ∷ ms) book items more [] g means = absurd g.1
lend-root law c m ms book items more (o ∷ os) g means = let no : false ≡ true = g.0.bottom items refl in cc

pub goes-on-lent : RootGoesOn → GoesOnLent
goes-on-lent law st items more is means c b m ms g =
    let os = outward b st.around.items in
    let a = book_of b st.here in
    subst (λ (k : Book). Onward c (m ∷ ms) (stack b st) (recorded k (root (items ++ more)) ∷ os)) (sym (book-kept b st.here (Builder (items ++ more))))
    (subst (λ (x : Encodable). Onward c (m ∷ ms) (recorded a (content_of x) ∷ os) (recorded a (root (items ++ more)) ∷ os)) (sym is)
    (lend-root law c m ms a items more os (subst (λ (x : Encodable). Good c (m ∷ ms) (recorded a (content_of x) ∷ os)) is g) means))

-- the next type index of a content
pub count-type : (x : Encodable) → type_count (content_of x) ≡ count_of (space sort.«Type») x
count-type (Builder items) = refl
count-type (Instance ds) = refl
count-type (Component ds) = refl
