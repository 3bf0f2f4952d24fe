-- The resources that a written interface binds: those of its union alone, each under its name.
use Rattle.std.proofs.Common.{◌≡◌, ℕ, suc, Bool, true, false, not, cond, ◌&&◌, ◌==◌, List, [], ◌∷◌, Option, Some, None, is_some, slice_get, refl, sym, ap, ◌∙◌, subst, arith}
use Rattle.std.proofs.lemmas.Bool.{false≢true, and_from, and_left, eq-eqb}
use Rattle.std.specs.List.{AllZip}
use Rattle.wac_types_shapes.specs.primitives.Name.{Name, same_name, find_name, option_case}
use Rattle.wac_types_shapes.specs.primitives.Tree.{Leaf, exported, further_out, named}
use Rattle.wac_types_collection.specs.collection.Collection.{Collection, IsWellFormed}
use Rattle.wac_types_collection.specs.collection.Bound.{Bindings, inside_interface, is_alias, is_here, lists_own, own_name, same_path, same_side}
use Rattle.wac_types_collection.specs.collection.Held.{resolved}
use Rattle.wac_types_shapes.specs.declared.shapes.component.Interface.{Interface}
use Rattle.wac_types_shapes.specs.declared.shapes.component.InterfaceId.{InterfaceId}
use Rattle.wac_types_shapes.specs.declared.shapes.component.ResourceId.{ResourceId}
use Rattle.wac_types_shapes.specs.declared.shapes.component.«Type».TheVariants as ty
use Rattle.wac_types_shapes.specs.declared.shapes.component.ItemKind.{ItemKind}
use Rattle.wac_types_shapes.specs.declared.shapes.component.ItemKind.TheVariants as kind
use Rattle.wac_types_shapes.proofs.lemmas.shapes.Names.{same_name-true, same_name-refl}
use Rattle.wac_merge_classes.specs.entries.Bindings.{ClassBindings}
use Rattle.wac_merge_classes.specs.terms.Became.{AreFresh, became, own_in}
use Rattle.wac_merge_classes.specs.terms.Writing.{IsAliasOf, IsWrittenAs, IsWrittenExport, written_at}
use Rattle.wac_merge_classes.specs.declared.terms.fresh.Fresh.{Fresh}
use Rattle.wac_merge_classes.specs.declared.terms.parts.Export.{Export}
use Rattle.wac_merge_classes.specs.declared.terms.parts.Part.{Part}
use Rattle.wac_merge_classes.specs.declared.terms.parts.Union.{Union}
use Rattle.wac_merge_trees.proofs.lemmas.trees.UnionTreesOwn.{alias_source, end_alias, own_each, own_exists, own_listed, zip_at, zip_some}

-- ---- leaves

-- where an interface binds what it lists under a name
abbrev pub own_place : Name → Leaf
own_place n = record { out = 0; side = exported; path = named n ∷ [] }

pub here_named : (n : Name) → is_here exported (named n ∷ []) (Some (own_place n)) ≡ true
here_named n = ap (λ b. cond b true false) (same_name-refl n)

pub here_other : (n o : Name) → is_here exported (named n ∷ []) (Some (own_place o)) ≡ true → o ≡ n
here_other n o h = same_name-true o n (by (same_name o n) h) where
  by : (b : Bool) → cond b true false ≡ true → b ≡ true
  by true e = refl
  by false e = e

not_none : (i : ℕ) → (suc i == 0) ≡ false
not_none i = grind arith

pub here_further : (n : Name) (l : Leaf) → is_here exported (named n ∷ []) (Some (further_out l)) ≡ false
here_further n l = and_left (suc l.out == 0) (same_side l.side exported && same_path l.path (named n ∷ [])) (not_none l.out)

-- ---- what was written

some_same : {A : Type 0} (x y : A) → Some x ≡ Some y → x ≡ y
some_same x y e = cc

is_aliased : (m : Collection) (n : Name) (s a : ResourceId) → IsAliasOf m n s a → is_alias m a ≡ true
is_aliased m n s a h = ap is_some (alias_source (slice_get m.resources a.0) _ s h.is refl)

resource_alias : (c m : Collection) (g : ResourceId → ResourceId) (inner : Option InterfaceId) (n : Name) (k : ItemKind) (a : ResourceId) → IsWrittenAs c m g inner n k (kind.TypeItem (ty.Resource a)) → (s : ResourceId) × IsAliasOf m n s a
resource_alias c m g inner n (kind.TypeItem (ty.Resource r)) a w = (g (resolved c r), w)
resource_alias c m g inner n k a w = absurd w

module _ (c m : Collection) (us : List Union) (ps : List Part) (bs : ClassBindings) (f : Fresh) (ws : List InterfaceId) (u : ℕ) where
  abbrev Written : Name × Export → Name × ItemKind → Type 0
  Written = IsWrittenExport c m ps bs f ws u

  pub written_name : (x : Name × Export) (y : Name × ItemKind) → Written x y → x.0 ≡ y.0
  written_name x y w = w.0

  -- what was written, were it an own resource or not
  abbrev WrittenIf : Name → Name → Export → ItemKind → Bool → Type 0
  WrittenIf n o e k b = IsWrittenExport c m ps bs f ws u (n, record { kind = e.kind; part = e.part; is_own = b; inner = e.inner }) (o, k)

  -- an own resource
  pub written_own : (n o : Name) (e : Export) (k : ItemKind) → Written (n, e) (o, k) → e.is_own ≡ true → (q : ResourceId) × (own_in f u n ≡ Some q) × (k ≡ kind.TypeItem (ty.Resource q))
  written_own n o e k w own = (subst (WrittenIf n o e k) own w).1

  -- and any other item
  pub written_other : (n o : Name) (e : Export) (k : ItemKind) → Written (n, e) (o, k) → e.is_own ≡ false → IsWrittenAs c m (became c ps bs f (Some e.part)) (written_at ws e.inner) n e.kind k
  written_other n o e k w own = (subst (WrittenIf n o e k) own w).1

  module _ (xs : List (Name × Export)) (es : List (Name × ItemKind)) (zip : AllZip (IsWrittenExport c m ps bs f ws u) xs es) where
    own_one : (x : Name × Export) (e : Name × ItemKind) (q : ResourceId) → Written x e → lists_own m [] q e ≡ true → own_in f u e.0 ≡ Some q
    own_one x e q w lists = by x.1.is_own refl where
      by : (b : Bool) → x.1.is_own ≡ b → own_in f u e.0 ≡ Some q
      by true is =
          let own = written_own x.0 e.0 x.1 e.1 w is in
          let same : kind.TypeItem (ty.Resource own.0) ≡ kind.TypeItem (ty.Resource q) = sym own.2 ∙ (own_listed m [] q e.0 e.1 lists).item in
          let one : own.0 ≡ q = cc in
          ap (own_in f u) (sym w.0) ∙ (own.1 ∙ ap Some one)
      by false is =
          let listed = own_listed m [] q e.0 e.1 lists in
          let other = written_other x.0 e.0 x.1 e.1 w is in
          let P : ItemKind → Type 0 = λ k. IsWrittenAs c m (became c ps bs f (Some x.1.part)) (written_at ws x.1.inner) x.0 x.1.kind k in
          let alias = resource_alias c m (became c ps bs f (Some x.1.part)) (written_at ws x.1.inner) x.0 x.1.kind q (subst P listed.item other) in
          absurd (false≢true (sym listed.no_alias ∙ is_aliased m x.0 alias.0 q alias.1))

    -- what is listed as own is the union's own under that name
    pub own_of_union : (q : ResourceId) (o : Name) → own_name m [] es q ≡ Some o → own_in f u o ≡ Some q
    own_of_union q o at = own_each m [] q (λ n. own_in f u n ≡ Some q) es o (λ i e is lists. let x = zip_at (IsWrittenExport c m ps bs f ws u) xs es zip i e is in own_one x.0 e q x.2 lists) at

    -- and the union's own is listed so
    pub union_own : AreFresh c us bs f m → IsWellFormed m → (n : Name) (x : Export) (q : ResourceId) → find_name xs n ≡ Some x → x.is_own ≡ true → own_in f u n ≡ Some q → own_name m [] es q ≡ Some n
    union_own fresh wf n x q at own is =
        let new = fresh.own u n q is in
        let to = zip_some (IsWrittenExport c m ps bs f ws u) written_name xs es zip n x at in
        let w = written_own n n x to.0 to.2 own in
        let one : w.0 ≡ q = some_same w.0 q (sym w.1 ∙ is) in
        let same : to.0 ≡ kind.TypeItem (ty.Resource q) = w.2 ∙ ap (λ y. kind.TypeItem (ty.Resource y)) one in
        let unaliased = end_alias m wf q new.there new.itself in
        let lists : lists_own m [] q (n, kind.TypeItem (ty.Resource q)) ≡ true = and_from (q.0 == q.0) (not (is_alias m q) && true) (eq-eqb q.0 q.0 refl) (ap (λ b. not b && true) unaliased) in
        let there = own_exists m [] q es n to.0 to.1 (ap (λ k. lists_own m [] q (n, k)) same ∙ lists) in
        let its = own_of_union q there.0 there.1 in
        there.1 ∙ ap Some (fresh.once u u there.0 n q its is).1

-- ---- what is bound inside

module _ (m : Collection) (it : Interface) (around : Bindings) (used : it.uses ≡ []) where
  in_words : (q : ResourceId) (o : Option Name) → own_name m [] it.exports q ≡ o
      → inside_interface m it around q ≡ option_case o (option_case (around q) None (λ l. Some (further_out l))) (λ n. Some (own_place n))
  in_words q o is = ap (λ x. option_case x (option_case (around q) None (λ l. Some (further_out l))) (λ n. Some (own_place n))) (ap (λ l. own_name m l it.exports q) used ∙ is)

  -- an own resource under its name
  pub inside_own : (q : ResourceId) (n : Name) → own_name m [] it.exports q ≡ Some n → inside_interface m it around q ≡ Some (own_place n)
  inside_own q n is = in_words q (Some n) is

  -- nothing else under that name
  pub inside_other : (P : Name → Type 0) (q : ResourceId) (n : Name) → ((o : Name) → own_name m [] it.exports q ≡ Some o → P o) → (P n → ⊥) → is_here exported (named n ∷ []) (inside_interface m it around q) ≡ false
  inside_other P q n own none = by (own_name m [] it.exports q) refl where
    away : (o : Option Leaf) → is_here exported (named n ∷ []) (option_case o None (λ l. Some (further_out l))) ≡ false
    away None = refl
    away (Some l) = here_further n l

    apart : (o : Name) → P o → (b : Bool) → is_here exported (named n ∷ []) (Some (own_place o)) ≡ b → b ≡ false
    apart o p true is = absurd (none (subst P (here_other n o is) p))
    apart o p false is = refl

    by : (o : Option Name) → own_name m [] it.exports q ≡ o → is_here exported (named n ∷ []) (inside_interface m it around q) ≡ false
    by None is = ap (is_here exported (named n ∷ [])) (in_words q None is) ∙ away (around q)
    by (Some o) is = ap (is_here exported (named n ∷ [])) (in_words q (Some o) is) ∙ apart o (own o is) (is_here exported (named n ∷ []) (Some (own_place o))) refl
