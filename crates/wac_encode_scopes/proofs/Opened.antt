-- Scopes that are begun, opened and closed, and what is listed in them.
use Rattle.std.specs.Prelude.{ℕ, ◌≡◌, Bool, true, false, not, List, [], ◌∷◌, ◌++◌, None, Some}
use Rattle.std.proofs.Common.{refl, ap, ◌∙◌, sym, subst}
use Rattle.wac_types_shapes.specs.primitives.Name.{Name}
use Rattle.wac_types_shapes.specs.primitives.Tree.{Side, imported, exported, Tree, type_equal, function_item, instance_item, component_item, module_item, instance, resource, fresh}
use Rattle.wac_types_collection.specs.collection.Collection.{Collection}
use Rattle.wac_types_collection.specs.collection.Bound.{Bindings}
use Rattle.wac_binary.specs.declared.sorts.Description.{Description}
use Rattle.wac_binary.specs.declared.sorts.Description.TheVariants as e
use Rattle.wac_binary.specs.Items.{TypeDef, Decl, Item, decls, instance_def}
use Rattle.wac_binary.specs.HasMeaning.{ImportNothing}
use Rattle.wac_encode_scopes.specs.declared.book.Book.{Book}
use Rattle.wac_encode_scopes.specs.declared.encodable.Encodable.{Encodable}
use Rattle.wac_encode_scopes.specs.declared.encodable.Encodable.TheVariants.{Builder, Instance, Component}
use Rattle.wac_encode_scopes.specs.declared.scope.Scope.{Scope}
use Rattle.wac_encode_scopes.specs.declared.state.State.{State}
use Rattle.wac_encode_scopes.specs.Contents.{content_of, and_type, and_item, HasSide, IsInstanceType, declarations_of, count_of}
use Rattle.wac_binary.specs.Indexes.{space, described_sort, declared}
use Rattle.wac_encode_scopes.specs.Books.{binds_in, types_in, exports_in, recorded, book_of, opened}
use Rattle.wac_encode_scopes.specs.States.{outward, stack, KeepsRecords}
use Rattle.wac_encode_scopes.specs.private.Listing.{Describes, RefersTo, ListsItem, ListsResource, BindsExport, BindsType, Opens, ClosesInto}
use Rattle.wac_encode_scopes.specs.private.Steps.{empty_scope, either, ScopeChanges, and_fresh, with_fresh}
use Rattle.wac_encode_stacks.specs.Scopes.{Content, declarations, root, Open, Stack, env, envs, next_type, type_count, and_def, with_def, opening, at_type, at_export, bind_at}
use Rattle.wac_encode_stacks.specs.Good.{At, Good, nothing_bound, innermost, Stands, Onward, top}
use Rattle.wac_encode_stacks.specs.private.Laws.{Adds}
use Rattle.wac_encode_stacks.specs.Listed.{side_decl, IsNewName, Lists, ListsEqual, ListsFunc, ListsInstance, ListsComponent, ListsModule, ClosesInstance, OpensWorld, calling, listed_leaf, RecordsNoType, ListsFresh, ListsOwn, BindsMore}
use Rattle.wac_encode_stacks.specs.private.Inside.{StartsRoot}
use Rattle.wac_encode_scopes.proofs.Outward.{outward-append}
use Rattle.wac_types_shapes.specs.declared.shapes.component.ResourceId.{ResourceId}
use Rattle.wac_encode_scopes.proofs.Stepped.{bound-there}

-- a book in which nothing is recorded
pub new-book : (book : Book) (passes : Bool) (x : Content) → book.passes ≡ passes → ((a : _) → types_in book a ≡ None) → ((d : _) → exports_in book d ≡ None) → ((r : _) → binds_in book r ≡ None) → recorded book x ≡ empty_scope x passes
new-book book passes x p t d r = λ i. record { content = x; passes = p i; binds = λ q. r q i; types = λ a. t a i; exports = λ k. d k i }

both-true : (b : Bool) → either b true true ≡ true
both-true true = refl
both-true false = refl

-- a bottom scope without content
good-bottom : (c : Collection) (b : Bool) (o p : Open) (ss : List Scope) → Good c (nothing_bound ∷ []) (p ∷ []) → ss ≡ [] → o ≡ p → Good c (nothing_bound ∷ []) (o ∷ outward b ss)
good-bottom c b o p ss good none is = subst (λ (zs : List Scope). Good c (nothing_bound ∷ []) (o ∷ outward b zs)) (sym none) (subst (λ (q : Open). Good c (nothing_bound ∷ []) (q ∷ [])) (sym is) good)

pub good-root : StartsRoot → (c : Collection) (b : Bool) (o : Open) (ss : List Scope) (xs : List Item) → ss ≡ [] → xs ≡ [] → o ≡ empty_scope (root xs) (either b true true) → Good c (nothing_bound ∷ []) (o ∷ outward b ss)
good-root law c b o ss xs none items is = good-bottom c b o (empty_scope (root []) true) ss (law c true) none (is ∙ ap (λ (ys : List Item). empty_scope (root ys) (either b true true)) items ∙ ap (empty_scope (root [])) (both-true b))

pub good-component : OpensWorld → (c : Collection) (b : Bool) (o : Open) (ss : List Scope) (ds : List Decl) → ss ≡ [] → ds ≡ [] → o ≡ empty_scope (declarations ds) (either b true true) → Good c (nothing_bound ∷ []) (o ∷ outward b ss)
good-component law c b o ss ds none items is = good-bottom c b o (opening true) ss (law c true).0 none (is ∙ ap (λ (ys : List Decl). empty_scope (declarations ys) (either b true true)) items ∙ ap (empty_scope (declarations [])) (both-true b))

-- an instance type without declarations
pub instance-one : (b : Bool) (passes other_passes : Bool) (s : Scope) → b ≡ true → ((d : Bool) → opened d s ≡ empty_scope (declarations []) (either d passes other_passes)) → (opened b s ≡ opening passes) × (opened (not b) s ≡ opening other_passes)
instance-one true passes other_passes s is h = (h true, h false)
instance-one false passes other_passes s is h = let both : false ≡ true = is in cc

pub instance-two : (b : Bool) (passes other_passes : Bool) (s : Scope) → b ≡ false → ((d : Bool) → opened d s ≡ empty_scope (declarations []) (either d other_passes passes)) → (opened b s ≡ opening passes) × (opened (not b) s ≡ opening other_passes)
instance-two false passes other_passes s is h = (h false, h true)
instance-two true passes other_passes s is h = let both : true ≡ false = is in cc

-- the stack with one scope more
pub one-more : (b : Bool) (p : Open) (here old scope : Scope) (ss ts : List Scope) → here ≡ scope → ts ≡ ss ++ old ∷ [] → opened b scope ≡ p → opened b here ∷ outward b ts ≡ p ∷ opened b old ∷ outward b ss
one-more b p here old scope ss ts is items open_ =
    ap (λ (s : Scope). opened b s ∷ outward b ts) is
    ∙ ap (λ (zs : List Scope). opened b scope ∷ outward b zs) items
    ∙ ap (λ (zs : Stack). opened b scope ∷ zs) (outward-append b ss (old ∷ []))
    ∙ ap (λ (o : Open). o ∷ opened b old ∷ outward b ss) open_

pub opens-state : (b passes : Bool) (st t : State) (scope : Scope) → scope.content ≡ Instance [] → opened b scope ≡ opening passes → opened (not b) scope ≡ opening true → t.here ≡ scope → t.around.items ≡ st.around.items ++ st.here ∷ [] → Opens b passes st t
opens-state b passes st t scope empty this other here around = record {
  content = ap (λ (s : Scope). s.content) here ∙ empty;
  around = around;
  opened = one-more b (opening passes) t.here st.here scope st.around.items t.around.items here around this;
  beside = one-more (not b) (opening true) t.here st.here scope st.around.items t.around.items here around other;
}

-- with other content, the books are as they were
pub book-kept : (b : Bool) (s : Scope) (x : Encodable) → book_of b (record s { content = x }) ≡ book_of b s
book-kept true s x = refl
book-kept false s x = refl

pub content-def : (t : TypeDef) (x : Encodable) → content_of (and_type t x) ≡ and_def t (content_of x)
content-def t (Builder items) = refl
content-def t (Instance ds) = refl
content-def t (Component ds) = refl

pub opened-def : (b : Bool) (t : TypeDef) (s : Scope) → opened b (record s { content = and_type t s.content }) ≡ with_def t (opened b s)
opened-def b t s = ap (λ (k : Book). recorded k (content_of (and_type t s.content))) (book-kept b s (and_type t s.content)) ∙ ap (recorded (book_of b s)) (content-def t s.content)

-- an item is listed

module _ (equal : ListsEqual) (func : ListsFunc) (inst : ListsInstance) (comp : ListsComponent) (mod_ : ListsModule) where
  lists-item : (c : Collection) (m : Bindings) (ms : List Bindings) (book : Book) (ds : List Decl) (os : Stack) (side : Side) (n : Name) (d : Description) (t : Tree) → Good c (m ∷ ms) (recorded book (declarations ds) ∷ os) → IsNewName (recorded book (declarations ds)) os side n → Describes (env (recorded book (declarations ds)) (envs os)) d t
      → Lists c m ms (recorded book (declarations ds)) (recorded book (declarations (ds ++ side_decl side n d ∷ []))) os side n t × RefersTo (env (recorded book (declarations (ds ++ side_decl side n d ∷ []))) (envs os)) side n d (declared (space (described_sort d)) ds) t
  lists-item c m ms book ds os side n (e.Equal i) (type_equal t) g new h = equal c m ms ds (recorded book (declarations ds)) os side n i t g new h.0 h.1
  lists-item c m ms book ds os side n (e.Func i) (function_item t) g new h = (func c m ms ds (recorded book (declarations ds)) os side n i t g new h.0 h.1, tt)
  lists-item c m ms book ds os side n (e.Instance i) (instance_item t) g new h = inst c m ms ds (recorded book (declarations ds)) os side n i t g new h.0 h.1
  lists-item c m ms book ds os side n (e.Component i) (component_item t) g new h = (comp c m ms ds (recorded book (declarations ds)) os side n i t g new h.0 h.1, tt)
  lists-item c m ms book ds os side n (e.CoreModule i) (module_item t) g new h = (mod_ c m ms ds (recorded book (declarations ds)) os side n i t g new h.0 h.1, tt)
  lists-item c m ms book ds os side n d t g new h = absurd h

  lists-content : (c : Collection) (m : Bindings) (ms : List Bindings) (book : Book) (x : Encodable) (os : Stack) (side : Side) (n : Name) (d : Description) (t : Tree) → HasSide side x → Good c (m ∷ ms) (recorded book (content_of x) ∷ os) → IsNewName (recorded book (content_of x)) os side n → Describes (env (recorded book (content_of x)) (envs os)) d t
      → Lists c m ms (recorded book (content_of x)) (recorded book (content_of (and_item side n d x))) os side n t × RefersTo (env (recorded book (content_of (and_item side n d x))) (envs os)) side n d (count_of (space (described_sort d)) x) t
  lists-content c m ms book (Component ds) os side n d t has g new h = lists-item c m ms book ds os side n d t g new h
  lists-content c m ms book (Instance ds) os side n d t has g new h = lists-item c m ms book ds os side n d t g new h
  lists-content c m ms book (Builder items) os side n d t has g new h = absurd (no-root side has)
    where
      no-root : (side : Side) → HasSide side (Builder items) → ⊥
      no-root imported h = h
      no-root exported h = h

  pub lists-state : (side : Side) (n : Name) (d : Description) (st : State) (here : Scope) (k : ℕ) → HasSide side st.here.content → k ≡ count_of (space (described_sort d)) st.here.content → here ≡ record st.here { content = and_item side n d st.here.content } → ListsItem side n d st (record st { here = here }) k
  lists-state side n d st here k has index is c b m ms t g new h =
      let os = outward b st.around.items in
      let x = and_item side n d st.here.content in
      subst (λ (s : Scope). Lists c m ms (opened b st.here) (opened b s) os side n t × RefersTo (env (opened b s) (envs os)) side n d k t) (sym is)
      (subst (λ (a : Book). Lists c m ms (opened b st.here) (recorded a (content_of x)) os side n t × RefersTo (env (recorded a (content_of x)) (envs os)) side n d k t) (sym (book-kept b st.here x))
      (subst (λ (j : ℕ). Lists c m ms (opened b st.here) (recorded (book_of b st.here) (content_of x)) os side n t × RefersTo (env (recorded (book_of b st.here) (content_of x)) (envs os)) side n d j t) (sym index)
      (lists-content c m ms (book_of b st.here) st.here.content os side n d t has g new h)))

pub keeps-records : (st : State) (here : Scope) (x : Encodable) → here ≡ record st.here { content = x } → KeepsRecords st (record st { here = here })
keeps-records st here x is = (refl, λ b. ap (book_of b) is ∙ book-kept b st.here x)

-- a scope is closed

pub closes-into : (st t : State) (outer dest scope : Scope) → st.around.items ≡ t.around.items ++ outer ∷ [] → scope ≡ st.here → dest ≡ outer → t.here ≡ record dest { content = and_type (instance_def (decls (declarations_of scope.content))) dest.content } → ClosesInto st t
closes-into st t outer dest scope items same_here same_outer is = (
  outer,
  items,
  is
      ∙ ap (λ (s : Scope). record s { content = and_type (instance_def (decls (declarations_of scope.content))) s.content }) same_outer
      ∙ ap (λ (s : Scope). record outer { content = and_type (instance_def (decls (declarations_of s.content))) outer.content }) same_here,
)

closes-content : ClosesInstance → (c : Collection) (inner m : Bindings) (ms : List Bindings) (book : Book) (x : Encodable) (o : Open) (os : Stack) → IsInstanceType x → ImportNothing (decls (declarations_of x)) → Good c (inner ∷ m ∷ ms) (recorded book (content_of x) ∷ o ∷ os) → Adds c (m ∷ ms) (o ∷ os) (with_def (instance_def (decls (declarations_of x))) o ∷ os) (next_type o) (instance ((env (recorded book (content_of x)) (env o (envs os) ∷ envs os)).exports))
closes-content law c inner m ms book (Instance ds) o os is none g = law c inner m ms ds (recorded book (declarations ds)) o os g none
closes-content law c inner m ms book (Builder items) o os is none g = absurd is
closes-content law c inner m ms book (Component ds) o os is none g = absurd is

pub closes-state : ClosesInstance → (st : State) (ss : List Scope) (outer dest scope new : Scope) (k : ℕ) → st.around.items ≡ ss ++ outer ∷ [] → scope ≡ st.here → dest ≡ outer → IsInstanceType st.here.content → ImportNothing (decls (declarations_of st.here.content)) → k ≡ type_count (content_of dest.content) → new ≡ record dest { content = and_type (instance_def (decls (declarations_of scope.content))) dest.content }
    → (c : Collection) (b : Bool) (inner m : Bindings) (ms : List Bindings) → Good c (inner ∷ m ∷ ms) (stack b st) → Adds c (m ∷ ms) (outward b st.around.items) (opened b new ∷ outward b ss) k (instance ((innermost (stack b st)).exports))
closes-state law st ss outer dest scope new k items same_here same_outer is none index is_new c b inner m ms g =
    subst (λ (zs : Stack). Adds c (m ∷ ms) zs (opened b new ∷ outward b ss) k (instance ((env (opened b st.here) (envs zs)).exports))) (sym split)
    (subst (λ (o : Open). Adds c (m ∷ ms) (opened b outer ∷ outward b ss) (o ∷ outward b ss) k (instance ((env (opened b st.here) (envs (opened b outer ∷ outward b ss))).exports))) (sym opened_new)
    (subst (λ (j : ℕ). Adds c (m ∷ ms) (opened b outer ∷ outward b ss) (with_def (instance_def (decls (declarations_of st.here.content))) (opened b outer) ∷ outward b ss) j (instance ((env (opened b st.here) (envs (opened b outer ∷ outward b ss))).exports))) (sym (index ∙ ap (λ (s : Scope). type_count (content_of s.content)) same_outer)) closed))
  where
    split : outward b st.around.items ≡ opened b outer ∷ outward b ss
    split = ap (outward b) items ∙ outward-append b ss (outer ∷ [])

    opened_new : opened b new ≡ with_def (instance_def (decls (declarations_of st.here.content))) (opened b outer)
    opened_new =
        ap (opened b) is_new
        ∙ ap (λ (s : Scope). opened b (record s { content = and_type (instance_def (decls (declarations_of scope.content))) s.content })) same_outer
        ∙ ap (λ (s : Scope). opened b (record outer { content = and_type (instance_def (decls (declarations_of s.content))) outer.content })) same_here
        ∙ opened-def b (instance_def (decls (declarations_of st.here.content))) outer

    closed : Adds c (m ∷ ms) (opened b outer ∷ outward b ss) (with_def (instance_def (decls (declarations_of st.here.content))) (opened b outer) ∷ outward b ss) (next_type (opened b outer)) (instance ((env (opened b st.here) (envs (opened b outer ∷ outward b ss))).exports))
    closed = closes-content law c inner m ms (book_of b st.here) st.here.content (opened b outer) (outward b ss) is none (subst (λ (zs : Stack). Good c (inner ∷ m ∷ ms) (opened b st.here ∷ zs)) split g)

-- a fresh resource is listed

fresh-content : ListsFresh → (c : Collection) (m : Bindings) (ms : List Bindings) (book : Book) (x : Encodable) (os : Stack) (side : Side) (n : Name) (r : ResourceId) → HasSide side x → Good c (m ∷ ms) (recorded book (content_of x) ∷ os) → IsNewName (recorded book (content_of x)) os side n → m r ≡ None → Lists c (calling r (listed_leaf side n) m) ms (recorded book (content_of x)) (with_fresh side n r (recorded book (content_of x))) os side n fresh
fresh-content law c m ms book (Component ds) os side n r has g new none = law c m ms ds (recorded book (declarations ds)) os side n r g new none
fresh-content law c m ms book (Instance ds) os side n r has g new none = law c m ms ds (recorded book (declarations ds)) os side n r g new none
fresh-content law c m ms book (Builder items) os imported n r has g new none = absurd has
fresh-content law c m ms book (Builder items) os exported n r has g new none = absurd has

own-content : ListsOwn → (c : Collection) (m : Bindings) (ms : List Bindings) (book : Book) (x : Encodable) (os : Stack) (n : Name) (r : ResourceId) → HasSide exported x → Good c (m ∷ ms) (recorded book (content_of x) ∷ os) → IsNewName (recorded book (content_of x)) os exported n → RecordsNoType (recorded book (content_of x)) → (book.passes ≡ true → top ms r ≡ None) → Lists c (calling r (listed_leaf exported n) m) ms (recorded book (content_of x)) (with_fresh exported n r (recorded book (content_of x))) os exported n fresh
own-content law c m ms book (Component ds) os n r has g new none apart = law c m ms ds (recorded book (declarations ds)) os n r g new none apart
own-content law c m ms book (Instance ds) os n r has g new none apart = law c m ms ds (recorded book (declarations ds)) os n r g new none apart
own-content law c m ms book (Builder items) os n r has g new none apart = absurd has

pub lists-resource : ListsFresh → ListsOwn → (b : Bool) (side : Side) (n : Name) (r : ResourceId) (st : State) (here : Scope) (i : ℕ) → HasSide side st.here.content → i ≡ next_type (opened b st.here) → ScopeChanges b (with_fresh side n r) st.here here → ListsResource b side n r st (record st { here = here }) i
lists-resource fresh_law own_law b side n r st here i has is step = record {
  around = refl;
  index = ap (λ (o : Open). o.binds r) step.0 ∙ bound-there r (at_type (next_type (opened b st.here))) (record (opened b st.here) { content = and_fresh side n (content_of st.here.content) }) ∙ ap (λ (k : ℕ). Some (at_type k)) (sym is);
  recorded =
      step.0
      ∙ ap (λ (j : ℕ). bind_at r (at_type j) (record (opened b st.here) { content = and_fresh side n (content_of st.here.content) })) (sym is)
      ∙ ap (λ (y : Content). bind_at r (at_type i) (record (opened b st.here) { content = y })) (sym (ap (λ (o : Open). o.content) step.0));
  other = step.1;
  unbound = λ c m ms g new none. subst (λ (o : Open). Lists c (calling r (listed_leaf side n) m) ms (opened b st.here) o (outward b st.around.items) side n fresh) (sym step.0) (fresh-content fresh_law c m ms (book_of b st.here) st.here.content (outward b st.around.items) side n r has g new none);
  own = by_side side has step;
}
  where
    by_side : (z : Side) → HasSide z st.here.content → ScopeChanges b (with_fresh z n r) st.here here → z ≡ exported → (c : Collection) (m : Bindings) (ms : List Bindings) → Good c (m ∷ ms) (stack b st) → IsNewName (opened b st.here) (outward b st.around.items) exported n → RecordsNoType (opened b st.here) → ((opened b st.here).passes ≡ true → top ms r ≡ None) → Lists c (calling r (listed_leaf exported n) m) ms (opened b st.here) (opened b here) (outward b st.around.items) exported n fresh
    by_side imported h change e c m ms g new none apart = let no : imported ≡ exported = e in cc
    by_side exported h change e c m ms g new none apart = subst (λ (o : Open). Lists c (calling r (listed_leaf exported n) m) ms (opened b st.here) o (outward b st.around.items) exported n fresh) (sym change.0) (own-content own_law c m ms (book_of b st.here) st.here.content (outward b st.around.items) n r h g new none apart)

-- a bottom scope binds what one of its instances has
pub binds-state : BindsMore → (b : Bool) (st : State) (here : Scope) (r : ResourceId) (j : ℕ) (n : Name) → ScopeChanges b (bind_at r (at_export j n)) st.here here → BindsExport b r j n st (record st { here = here })
binds-state law b st here r j n step c m l none good unbound at =
    subst (λ (o : Open). Onward c (calling r l m ∷ []) (stack b st) (o ∷ outward b st.around.items)) (sym step.0)
    (subst (λ (ss : List Scope). Onward c (calling r l m ∷ []) (opened b st.here ∷ outward b ss) (bind_at r (at_export j n) (opened b st.here) ∷ outward b ss)) (sym none)
    (law c m (opened b st.here) r l (at_export j n) (subst (λ (ss : List Scope). Good c (m ∷ []) (opened b st.here ∷ outward b ss)) none good) unbound (subst (λ (ss : List Scope). Stands (env (opened b st.here) (envs (outward b ss))) (resource l) (at_export j n)) none at)))

-- or what a type index refers to
pub binds-type : BindsMore → (b : Bool) (st : State) (here : Scope) (r : ResourceId) (i : ℕ) → ScopeChanges b (bind_at r (at_type i)) st.here here → BindsType b r i st (record st { here = here })
binds-type law b st here r i step c m l none good unbound at =
    subst (λ (o : Open). Onward c (calling r l m ∷ []) (stack b st) (o ∷ outward b st.around.items)) (sym step.0)
    (subst (λ (ss : List Scope). Onward c (calling r l m ∷ []) (opened b st.here ∷ outward b ss) (bind_at r (at_type i) (opened b st.here) ∷ outward b ss)) (sym none)
    (law c m (opened b st.here) r l (at_type i) (subst (λ (ss : List Scope). Good c (m ∷ []) (opened b st.here ∷ outward b ss)) none good) unbound (subst (λ (ss : List Scope). At (env (opened b st.here) (envs (outward b ss))).types i (resource l)) none at)))
