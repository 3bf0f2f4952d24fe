-- Component types and core module types that are added to the innermost scope.
use Rattle.std.specs.Prelude.{ℕ, ◌≡◌, Bool, true, not, List, [], ◌∷◌, Option, Some, None}
use Rattle.std.proofs.Common.{refl, ap, ◌∙◌, sym, subst}
use Rattle.wac_types_shapes.specs.declared.shapes.component.WorldId.{WorldId}
use Rattle.wac_types_shapes.specs.declared.shapes.component.«Type».TheVariants as ty
use Rattle.wac_types_collection.specs.collection.Collection.{Collection}
use Rattle.wac_types_collection.specs.collection.Bound.{Bindings}
use Rattle.wac_binary.specs.Items.{Decl, decls, value_def, primitive_def, component_def, core_type, core_type_decl, ModuleDecl}
use Rattle.wac_binary.specs.Unfold.{module_tree}
use Rattle.wac_encode_scopes.specs.declared.book.Book.{Book}
use Rattle.wac_encode_scopes.specs.declared.encodable.Encodable.{Encodable}
use Rattle.wac_encode_scopes.specs.declared.encodable.Encodable.TheVariants.{Builder, Instance, Component}
use Rattle.wac_encode_scopes.specs.declared.scope.Scope.{Scope}
use Rattle.wac_encode_scopes.specs.declared.state.State.{State}
use Rattle.wac_encode_scopes.specs.Contents.{content_of, and_type, AddsTypes}
use Rattle.wac_encode_scopes.specs.Books.{recorded, book_of, opened}
use Rattle.wac_encode_scopes.specs.States.{outward}
use Rattle.wac_encode_scopes.specs.private.Components.{ComponentHasMeaning, component_tree, DefinesComponent, DefinesModuleType, DefinesPrimitiveType}
use Rattle.wac_encode_scopes.specs.private.Steps.{ScopeChanges, and_core_type}
use Rattle.wac_encode_stacks.specs.Scopes.{Open, Stack, env, envs, next_type, type_count, with_def, defined, index_at, opening}
use Rattle.wac_encode_stacks.specs.Good.{At, Good, IsHeld, nothing_bound, Onward}
use Rattle.wac_encode_stacks.specs.private.Laws.{Adds, RecordsType, Follows, DefinesPrimitive}
use Rattle.wac_types_shapes.specs.primitives.Tree.{primitive}
use Rattle.wac_types_shapes.specs.declared.primitives.component.PrimitiveType.{PrimitiveType}
use Rattle.wac_encode_stacks.specs.Listed.{declaring, ClosesComponent}
use Rattle.wac_encode_stacks.specs.private.Modules.{and_module, module_count, with_module, DefinesModule}
use Rattle.wac_encode_scopes.proofs.Added.{adds-def}
use Rattle.wac_encode_scopes.proofs.Opened.{book-kept, opened-def}
use Rattle.wac_encode_scopes.proofs.Stepped.{Added, goes-here}

-- content alone changes
pub scope-written : (b : Bool) (f : Open → Open) (s here : Scope) (x : Encodable) → here ≡ record s { content = x } → ((d : Bool) → opened d (record s { content = x }) ≡ f (opened d s)) → ScopeChanges b f s here
scope-written b f s here x is h = (ap (opened b) is ∙ h b, ap (λ (k : Book). recorded k (content_of here.content)) (ap (book_of (not b)) is ∙ book-kept (not b) s x))

pub added-content : (s here : Scope) (x : Encodable) → here ≡ record s { content = x } → AddsTypes s.content x → Added s here
added-content s here x is h = subst (AddsTypes s.content) (sym (ap (λ (t : Scope). t.content) is)) h

content-module : (t : List ModuleDecl) (x : Encodable) → content_of (and_core_type t x) ≡ and_module t (content_of x)
content-module t (Builder items) = refl
content-module t (Instance ds) = refl
content-module t (Component ds) = refl

opened-module : (t : List ModuleDecl) (s : Scope) (b : Bool) → opened b (record s { content = and_core_type t s.content }) ≡ with_module t (opened b s)
opened-module t s b = ap (λ (k : Book). recorded k (content_of (and_core_type t s.content))) (book-kept b s (and_core_type t s.content)) ∙ ap (recorded (book_of b s)) (content-module t s.content)

pub adds-module : (t : List ModuleDecl) (x : Encodable) → AddsTypes x (and_core_type t x)
adds-module t (Builder xs) = (core_type t ∷ [], refl, (tt, tt))
adds-module t (Instance xs) = (core_type_decl t ∷ [], refl, (tt, tt))
adds-module t (Component xs) = (core_type_decl t ∷ [], refl, (tt, tt))

pub goes-module : DefinesModule → (t : List ModuleDecl) (st : State) (here : Scope) (k : ℕ) → k ≡ module_count (content_of st.here.content) → here ≡ record st.here { content = and_core_type t st.here.content } → DefinesModuleType t st (record st { here = here }) k
goes-module law t st here k index is means c b = (
  goes-here c b (with_module t) st here step (added-content st.here here (and_core_type t st.here.content) is (adds-module t st.here.content)) (λ m ms good. (law c m ms (opened b st.here) (outward b st.around.items) t good means).0),
  λ m ms good.
      subst (λ (o : Open). At ((env o (envs (outward b st.around.items))).core_types) k (module_tree t)) (sym step.0)
      (subst (λ (j : ℕ). At ((env (with_module t (opened b st.here)) (envs (outward b st.around.items))).core_types) j (module_tree t)) (sym index) (law c m ms (opened b st.here) (outward b st.around.items) t good means).1),
)
  where
    step : ScopeChanges b (with_module t) st.here here
    step = scope-written b (with_module t) st.here here (and_core_type t st.here.content) is (opened-module t st.here)

-- declarations that have a meaning with no enclosing scope are those of a good bottom scope
closed-good : (c : Collection) (ds : List Decl) → ComponentHasMeaning ds → Good c (nothing_bound ∷ []) (declaring ds (opening true) ∷ [])
closed-good c ds means = (
  record {
    meaning = means;
    bottom = λ items e. refl;
    binds = λ r w f. let no : None ≡ Some w = f in cc;
    unbound = λ r f. refl;
    passing = λ p r l e. let no : None ≡ Some l = e in cc;
    types = λ a x f. let no : None ≡ Some x = f in cc;
    exports = λ d w f. let no : None ≡ Some w = f in cc;
  },
  tt,
)

module _ (law : ClosesComponent) (c : Collection) (ds : List Decl) (means : ComponentHasMeaning ds) where
  adds-component : (m : Bindings) (ms : List Bindings) (o : Open) (os : Stack) → Good c (m ∷ ms) (o ∷ os) → Adds c (m ∷ ms) (o ∷ os) (with_def (component_def (decls ds)) o ∷ os) (next_type o) (component_tree ds)
  adds-component m ms o os good = law c nothing_bound m ms ds (opening true) o os (closed-good c ds means) good

  adds-world : RecordsType → Follows → (w : WorldId) → ((m : Bindings) → IsHeld c m (ty.World w) (component_tree ds)) → (m : Bindings) (ms : List Bindings) (o : Open) (os : Stack) → Good c (m ∷ ms) (o ∷ os) → Onward c (m ∷ ms) (o ∷ os) (index_at (ty.World w) defined (next_type o) (with_def (component_def (decls ds)) o) ∷ os)
  adds-world records follows w held m ms o os good =
      let a = adds-component m ms o os good in
      let p = with_def (component_def (decls ds)) o in
      follows c (m ∷ ms) (o ∷ os) (p ∷ os) (index_at (ty.World w) defined (next_type o) p ∷ os) a.0 (records c m ms p os (ty.World w) defined (next_type o) (component_tree ds) a.0.0 (held m) tt a.1)

pub goes-component : ClosesComponent → (b : Bool) (world : Option WorldId) (ds : List Decl) (st : State) (here : Scope) (k : ℕ) → k ≡ type_count (content_of st.here.content) → here ≡ record st.here { content = and_type (component_def (decls ds)) st.here.content } → DefinesComponent b world ds st (record st { here = here }) k
goes-component law b world ds st here k index is c means held = (
  goes-here c b (with_def (component_def (decls ds))) st here step (added-content st.here here (and_type (component_def (decls ds)) st.here.content) is (adds-def (component_def (decls ds)) st.here.content)) (λ m ms good. (adds-component law c ds means m ms (opened b st.here) (outward b st.around.items) good).0),
  λ m ms good.
      subst (λ (o : Open). At ((env o (envs (outward b st.around.items))).types) k (component_tree ds)) (sym step.0)
      (subst (λ (j : ℕ). At ((env (with_def (component_def (decls ds)) (opened b st.here)) (envs (outward b st.around.items))).types) j (component_tree ds)) (sym index) (adds-component law c ds means m ms (opened b st.here) (outward b st.around.items) good).1),
)
  where
    step : ScopeChanges b (with_def (component_def (decls ds))) st.here here
    step = scope-written b (with_def (component_def (decls ds))) st.here here (and_type (component_def (decls ds)) st.here.content) is (λ d. opened-def d (component_def (decls ds)) st.here)

abbrev pub and_world_of : WorldId → List Decl → Open → Open
and_world_of w ds o = index_at (ty.World w) defined (next_type o) (with_def (component_def (decls ds)) o)

pub goes-world : ClosesComponent → RecordsType → Follows → (b : Bool) (world : Option WorldId) (w : WorldId) (ds : List Decl) (st : State) (here : Scope) (k : ℕ) → world ≡ Some w → Added st.here here → k ≡ next_type (opened b st.here) → ScopeChanges b (and_world_of w ds) st.here here → DefinesComponent b world ds st (record st { here = here }) k
goes-world law records follows b world w ds st here k is_world added index step c means held = (
  goes-here c b (and_world_of w ds) st here step added (λ m ms good. adds-world law c ds means records follows w (held w is_world) m ms (opened b st.here) (outward b st.around.items) good),
  λ m ms good.
      subst (λ (o : Open). At ((env o (envs (outward b st.around.items))).types) k (component_tree ds)) (sym step.0)
      (subst (λ (j : ℕ). At ((env (and_world_of w ds (opened b st.here)) (envs (outward b st.around.items))).types) j (component_tree ds)) (sym index) (adds-component law c ds means m ms (opened b st.here) (outward b st.around.items) good).1),
)

pub goes-primitive : DefinesPrimitive → (p : PrimitiveType) (st : State) (here : Scope) (k : ℕ) → k ≡ type_count (content_of st.here.content) → here ≡ record st.here { content = and_type (value_def (primitive_def p)) st.here.content } → DefinesPrimitiveType p st (record st { here = here }) k
goes-primitive law p st here k index is c b = (
  goes-here c b (with_def (value_def (primitive_def p))) st here step (added-content st.here here (and_type (value_def (primitive_def p)) st.here.content) is (adds-def (value_def (primitive_def p)) st.here.content)) (λ m ms good. (law c m ms (opened b st.here) (outward b st.around.items) p good).0),
  λ m ms good.
      subst (λ (o : Open). At ((env o (envs (outward b st.around.items))).types) k (primitive p)) (sym step.0)
      (subst (λ (j : ℕ). At ((env (with_def (value_def (primitive_def p)) (opened b st.here)) (envs (outward b st.around.items))).types) j (primitive p)) (sym index) (law c m ms (opened b st.here) (outward b st.around.items) p good).1),
)
  where
    step : ScopeChanges b (with_def (value_def (primitive_def p))) st.here here
    step = scope-written b (with_def (value_def (primitive_def p))) st.here here (and_type (value_def (primitive_def p)) st.here.content) is (λ d. opened-def d (value_def (primitive_def p)) st.here)
