-- Resources that the component imports.
use Rattle.std.proofs.Common.{ℕ, ◌≡◌, Bool, true, false, not, if◌then◌else◌, List, [], ◌∷◌, ◌++◌, Option, Some, None, refl, ap, sym, ◌∙◌, subst, arith}
use Rattle.std.specs.Prelude.{◌==◌, ◌≤◌}
use Rattle.std.proofs.lemmas.List.{append-nil}
use Rattle.wac_types_shapes.specs.primitives.Name.{Name}
use Rattle.wac_types_shapes.specs.primitives.Tree.{Leaf, Tree, type_equal, resource}
use Rattle.wac_types_shapes.specs.declared.shapes.component.ResourceId.{ResourceId}
use Rattle.wac_types_shapes.specs.declared.shapes.component.«Type».TheVariants as ty
use Rattle.wac_types_collection.specs.collection.Collection.{Collection, holds_type}
use Rattle.wac_types_collection.specs.collection.Held.{resolved}
use Rattle.wac_types_collection.specs.collection.Bound.{Bindings}
use Rattle.wac_binary.specs.declared.sorts.Description.{Description}
use Rattle.wac_binary.specs.declared.sorts.Description.TheVariants as e
use Rattle.wac_binary.specs.Items.{Item, import_item}
use Rattle.wac_binary.specs.Meaning.{meaning}
use Rattle.wac_binary.specs.Unfold.{Scope}
use Rattle.wac_encode_faults.specs.declared.fault.WriteFault.{WriteFault}
use Rattle.wac_encode_faults.specs.declared.fault.WriteFault.TheVariants as fault
use Rattle.wac_encode_faults.specs.Faults.{IsLowest, fault_rank}
use Rattle.wac_encode_stacks.specs.private.Beside.{GoesOnBeside, all_written_as, written_as}
use Rattle.wac_encode_stacks.specs.Good.{At, Good, Keeps, Onward, innermost, top}
use Rattle.wac_encode_stacks.specs.Instances.{ListsImport, import_leaf}
use Rattle.wac_encode_stacks.specs.private.Laws.{Follows}
use Rattle.wac_encode_stacks.specs.Listed.{calling}
use Rattle.wac_encode_stacks.specs.Scopes.{Open}
use Rattle.wac_encode_stacks.proofs.Grow.{at-type_at}
use Rattle.wac_encode_scopes.specs.declared.encodable.Encodable.{Encodable}
use Rattle.wac_encode_scopes.specs.declared.scope.Scope.{Scope as OpenScope}
use Rattle.wac_encode_scopes.specs.Books.{opened}
use Rattle.wac_encode_scopes.specs.Roots.{IsRoot, items_of, and_import, ImportsItem, ImportsResource}
use Rattle.wac_encode_scopes.specs.States.{outward, stack, GoesForAll, IsBound, IsResourceAt}
use Rattle.wac_encode_scopes.proofs.Stepped.{same-stack}
use Rattle.wac_encode_interfaces.proofs.Besides.{same-items}
use Rattle.wac_encode_interfaces.proofs.Importing.{types-import}
use Rattle.wac_encode.specs.declared.state.State.{State}
use Rattle.wac_encode.specs.Imported.{AppendsImport, HasImportedFault, ImportsBound}
use Rattle.wac_encode.specs.Root.{written_items, component_scope, IsStateFor, KeepsOther}
use Rattle.wac_encode.proofs.Roots.{alone, innermost-is, keeps-on, other-on, state-on, types-added}
use Rattle.wac_encode.proofs.HeldItems.{id-is}

no-some : {A : Type 0} → (x : A) → None ≡ Some x → ⊥
no-some x is = cc

import-root : (n : Name) (d : Description) (x y : Encodable) → y ≡ and_import n d x → IsRoot y
import-root n d x y is = subst IsRoot (sym is) tt

-- ---- an import that is equal to what the resource is bound to

module _ (beside : GoesOnBeside) (follows : Follows) (lists : ListsImport) (c : Collection) (b : Bool) (name : Name) (r : ResourceId) (old mid new : State) (j k : ℕ)
    (goes : GoesForAll b old.scopes mid.scopes) (is : IsResourceAt b mid.scopes r j) (imports : ImportsItem (e.Equal j) mid.scopes new.scopes k) (content : new.scopes.here.content ≡ and_import name (e.Equal j) mid.scopes.here.content) where
  module _ (m : Bindings) (h : IsStateFor c b m old) where
    then_state : IsStateFor c b m mid
    then_state = state-on c b m old mid (goes c) h

    abbrev there : (l : Leaf) × (m r ≡ Some l) × At ((innermost (stack b mid.scopes)).types) j (resource l)
    there = is c (m ∷ []) then_state.good

    step : Onward c (m ∷ []) (stack b mid.scopes) (stack b new.scopes) × At ((innermost (stack b new.scopes)).types) k (resource there.0)
    step = imports c b m [] (type_equal (resource there.0)) then_state.good (tt, there.2)

    on : Onward c (m ∷ []) (stack b old.scopes) (stack b new.scopes)
    on = follows c (m ∷ []) (stack b old.scopes) (stack b mid.scopes) (stack b new.scopes) ((goes c).onward (m ∷ []) h.good) step.0

    listed : (meaning (written_items new)).imports ≡ (meaning (written_items old)).imports ++ (name, type_equal (resource there.0)) ∷ []
    listed =
        ap (λ (x : Encodable). (meaning (items_of x)).imports) content
        ∙ (lists (written_items mid) name (e.Equal j)).0
        ∙ ap (λ (t : Tree). (meaning (written_items mid)).imports ++ (name, type_equal t) ∷ [])
        (at-type_at (component_scope mid).types j (resource there.0) (subst (λ (w : Scope). At w.types j (resource there.0)) (innermost-is b mid.scopes then_state.root) there.2))
        ∙ ap (λ (xs : List (Name × Tree)). xs ++ (name, type_equal (resource there.0)) ∷ []) (types-import old.scopes.here.content mid.scopes.here.content h.root (goes c).types.0)

    pub imports-equal : ImportsBound c b name r m (m r) old new k
    imports-equal =
        subst (λ (o : Option Leaf). ImportsBound c b name r m o old new k) (sym there.1)
        (record {
          state = record { root = import-root name (e.Equal j) mid.scopes.here.content new.scopes.here.content content; good = step.0.0; held = h.held };
          imports = listed;
          index = subst (λ (w : Scope). At w.types k (resource there.0)) (innermost-is b new.scopes (import-root name (e.Equal j) mid.scopes.here.content new.scopes.here.content content)) step.1;
        })

    -- The other collection's types are written beside.
    other-equal : KeepsOther b old new
    other-equal d n at =
        let then_other = other-on beside c b m old mid h (goes c) d n at in
        let near = subst (λ (w : Scope). At w.types j (resource there.0)) (innermost-is b mid.scopes then_state.root ∙ sym (innermost-is (not b) mid.scopes then_state.root)) there.2 in
        let next = imports d (not b) n [] (type_equal (resource there.0)) then_other.good (tt, near) in
        record { root = import-root name (e.Equal j) mid.scopes.here.content new.scopes.here.content content; good = next.0.0; held = at.held }

    pub appends-equal : AppendsImport b name old new
    appends-equal =
        let more = types-added old.scopes.here.content mid.scopes.here.content h.root (goes c).types.0 in
        record {
          between = more.0;
          types = more.2;
          description = e.Equal j;
          added = ap items_of content ∙ ap (λ (xs : List Item). xs ++ import_item name (e.Equal j) ∷ []) more.1;
          keeps = keeps-on b c m old new h.root (import-root name (e.Equal j) mid.scopes.here.content new.scopes.here.content content) on;
          other = other-equal;
        }

-- ---- a fresh import

module _ (beside : GoesOnBeside) (lists : ListsImport) (c : Collection) (b : Bool) (name : Name) (r : ResourceId) (old new : State) (k : ℕ)
    (imports : ImportsResource b r old.scopes new.scopes k) (content : new.scopes.here.content ≡ and_import name e.Fresh old.scopes.here.content) (holds : holds_type c (ty.Resource r) ≡ true) where
  abbrev leaf : Leaf
  leaf = import_leaf (written_items old)

  root : IsRoot new.scopes.here.content
  root = import-root name e.Fresh old.scopes.here.content new.scopes.here.content content

  module _ (m : Bindings) (h : IsStateFor c b m old) (none : m r ≡ None) where
    fresh-step : Onward c (calling r leaf m ∷ []) (stack b old.scopes) (stack b new.scopes) × At ((innermost (stack b new.scopes)).types) k (resource leaf)
    fresh-step = imports.adds c m [] h.good none

    held-then : (q : ResourceId) (l : Leaf) → calling r leaf m q ≡ Some l → holds_type c (ty.Resource q) ≡ true
    held-then q l is = by (q.0 == r.0) refl is
      where
        by : (y : Bool) → (q.0 == r.0) ≡ y → (if y then Some leaf else m q) ≡ Some l → holds_type c (ty.Resource q) ≡ true
        by true same e = subst (λ (z : ResourceId). holds_type c (ty.Resource z) ≡ true) (sym (id-is q r same)) holds
        by false same e = h.held q l e

    pub imports-new : ImportsBound c b name r m (m r) old new k
    imports-new =
        subst (λ (o : Option Leaf). ImportsBound c b name r m o old new k) (sym none)
        (record {
          state = record { root = root; good = fresh-step.0.0; held = held-then };
          imports = ap (λ (x : Encodable). (meaning (items_of x)).imports) content ∙ (lists (written_items old) name e.Fresh).0;
          index = subst (λ (w : Scope). At w.types k (resource leaf)) (innermost-is b new.scopes root) fresh-step.1;
        })

    other-new : KeepsOther b old new
    other-new d n at =
        let alone_old = alone c b m old h in
        let alone_new : new.scopes.around.items ≡ [] = same-items new.scopes old.scopes imports.around ∙ alone_old in
        let same : stack (not b) new.scopes ≡ all_written_as (stack b new.scopes) (stack (not b) old.scopes) =
        ap (λ (ss : List OpenScope). opened (not b) new.scopes.here ∷ outward (not b) ss) alone_new
        ∙ ap (λ (o : Open). o ∷ []) imports.other
        ∙ sym (ap (λ (ss : List OpenScope). written_as (opened b new.scopes.here) (opened (not b) old.scopes.here) ∷ all_written_as (outward b ss) (outward (not b) old.scopes.around.items)) alone_new) in
        record {
          root = root;
          good =
              subst (Good d (n ∷ [])) (sym same)
              (beside c d (calling r leaf m ∷ []) (n ∷ []) (stack b old.scopes) (stack b new.scopes) (stack (not b) old.scopes) (same-stack b (not b) old.scopes) fresh-step.0 at.good).0.0;
          held = at.held;
        }

    pub appends-new : AppendsImport b name old new
    appends-new = record {
      between = [];
      types = tt;
      description = e.Fresh;
      added = ap items_of content ∙ ap (λ (xs : List Item). xs ++ import_item name e.Fresh ∷ []) (sym (append-nil (written_items old)));
      keeps =
          subst (λ (w : Scope). Keeps w (component_scope new)) (innermost-is b old.scopes h.root)
          (subst (λ (w : Scope). Keeps (innermost (stack b old.scopes)) w) (innermost-is b new.scopes root) fresh-step.0.1.0.keeps);
      other = other-new;
    }

-- ---- which error comes

bound-fault : (c : Collection) (m : Bindings) (r : ResourceId) (l : Leaf) → m (resolved c r) ≡ Some l → IsLowest (HasImportedFault c m r) None
bound-fault c m r l is f (named, none, alias) = no-some l (sym none ∙ is)

pub no-fault-bound : (c : Collection) (b : Bool) (s : State) (r end : ResourceId) → end ≡ resolved c r → ((d : Collection) (ms : List Bindings) → Good d ms (stack b s.scopes) → (l : Leaf) × (top ms end ≡ Some l))
    → (m : Bindings) → IsStateFor c b m s → IsLowest (HasImportedFault c m r) None
no-fault-bound c b s r end is bound m h = let at = bound c (m ∷ []) h.good in bound-fault c m r at.0 (ap m (sym is) ∙ at.1)

pub no-fault-end : (c : Collection) (m : Bindings) (r end : ResourceId) → end ≡ resolved c r → (end.0 == r.0) ≡ true → IsLowest (HasImportedFault c m r) None
no-fault-end c m r end is same f (named, none, alias) = alias (sym is ∙ id-is end r same)

apart : (end r : ResourceId) → (end.0 == r.0) ≡ false → end ≡ r → ⊥
apart end r other same = let is : (end.0 == r.0) ≡ true = ap (λ (q : ResourceId). q.0 == r.0) same ∙ (let e : (r.0 == r.0) ≡ true = grind arith in e) in let wrong : true ≡ false = sym is ∙ other in cc

pub alias-fault : (c : Collection) (b : Bool) (s : State) (r end : ResourceId) → end ≡ resolved c r → (end.0 == r.0) ≡ false → ((d : Collection) (ms : List Bindings) → Good d ms (stack b s.scopes) → top ms end ≡ None)
    → (m : Bindings) → IsStateFor c b m s → IsLowest (HasImportedFault c m r) (Some fault.UnboundResource)
alias-fault c b s r end is other unbound m h = (
  (refl, ap m (sym is) ∙ unbound c (m ∷ []) h.good, λ same. apart end r other (is ∙ same)),
  λ f has. subst (λ (g : WriteFault). fault_rank fault.UnboundResource ≤ fault_rank g) (sym has.0) (omega arith),
)

-- ---- the end of a resource's aliases

pub imports-end : (c : Collection) (b : Bool) (name : Name) (r end : ResourceId) (m : Bindings) (old new : State) (k : ℕ) → end ≡ resolved c r → ImportsBound c b name end m (m end) old new k → ImportsBound c b name (resolved c r) m (m (resolved c r)) old new k
imports-end c b name r end m old new k is h = subst (λ (q : ResourceId). ImportsBound c b name q m (m q) old new k) is h

pub bound-scopes : (c : Collection) (b : Bool) (m : Bindings) (s : State) (r : ResourceId) → IsStateFor c b m s → ((d : Collection) (ms : List Bindings) → Good d ms (stack b s.scopes) → (l : Leaf) × (top ms r ≡ Some l)) → IsBound b s.scopes r
bound-scopes c b m s r h bound = let at = bound c (m ∷ []) h.good in (c, m ∷ [], at.0, h.good, at.1)
