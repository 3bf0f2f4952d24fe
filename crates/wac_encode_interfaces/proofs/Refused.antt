-- What a call that fails leaves of the open scopes, from step to step.
use Rattle.std.specs.Prelude.{OnErr}
use Rattle.std.specs.List.{AllZip}
use Rattle.std.proofs.Common.{ℕ, ◌≡◌, ◌<◌, Bool, List, [], ◌∷◌, ◌++◌, length, zero, suc, Some, Result, Ok, Err, refl, ap, sym, ◌∙◌, subst, arith}
use Rattle.std.proofs.lemmas.List.{append_assoc}
use Rattle.wac_types_shapes.specs.primitives.Name.{Name}
use Rattle.wac_types_shapes.specs.primitives.Tree.{Side}
use Rattle.wac_types_shapes.specs.declared.shapes.component.Interface.{Interface}
use Rattle.wac_types_shapes.specs.declared.shapes.component.InterfaceId.{InterfaceId}
use Rattle.wac_types_collection.specs.declared.collection.collection.Held.{Held}
use Rattle.wac_types_collection.specs.collection.Collection.{Collection, HasInterface, item_at}
use Rattle.wac_binary.specs.declared.sorts.Description.{Description}
use Rattle.wac_binary.specs.Items.{import_item, instance_def, decls}
use Rattle.wac_encode_stacks.specs.Listed.{side_decl}
use Rattle.wac_encode_scopes.specs.declared.encodable.Encodable.{Encodable}
use Rattle.wac_encode_scopes.specs.declared.encodable.Encodable.TheVariants.{Builder, Instance, Component}
use Rattle.wac_encode_scopes.specs.declared.scope.Scope.{Scope}
use Rattle.wac_encode_scopes.specs.declared.state.State.{State}
use Rattle.wac_encode_scopes.specs.Contents.{AddsTypes, and_item, and_type, declarations_of}
use Rattle.wac_encode_scopes.specs.private.Interfaces.{BeginsInterface}
use Rattle.wac_encode_scopes.specs.private.Listing.{ClosesInto, IsSame}
use Rattle.wac_encode_scopes.specs.Roots.{IsRoot, and_import}
use Rattle.wac_encode_scopes.specs.States.{AllAddTypes}
use Rattle.wac_encode_scopes.proofs.Added.{adds-def}
use Rattle.wac_encode_interfaces.specs.private.Refused.{BeginsWith, open_scopes, AreStillOpen, KeepsScopes}
use Rattle.wac_encode_interfaces.specs.private.Levels.{AreLevels}
use Rattle.wac_encode_interfaces.proofs.Besides.{same-items}

-- contents

append-none : {A : Type 0} (zs : List A) → zs ≡ zs ++ []
append-none [] = refl
append-none (z ∷ zs) = ap (λ ws. z ∷ ws) (append-none zs)

begins-none : (x : Encodable) → BeginsWith x x
begins-none (Builder xs) = ([], append-none xs)
begins-none (Instance ds) = ([], append-none ds)
begins-none (Component ds) = ([], append-none ds)

more-both : {A : Type 0} (xs ys zs : List A) → (more : List A) × (ys ≡ xs ++ more) → (more : List A) × (zs ≡ ys ++ more) → (more : List A) × (zs ≡ xs ++ more)
more-both xs ys zs g h = (g.0 ++ h.0, h.1 ∙ ap (λ ws. ws ++ h.0) g.1 ∙ append_assoc xs g.0 h.0)

begins-both : (x y z : Encodable) → BeginsWith x y → BeginsWith y z → BeginsWith x z
begins-both (Builder xs) (Builder ys) (Builder zs) g h = more-both xs ys zs g h
begins-both (Instance xs) (Instance ys) (Instance zs) g h = more-both xs ys zs g h
begins-both (Component xs) (Component ys) (Component zs) g h = more-both xs ys zs g h
begins-both (Builder xs) (Instance ys) z g h = absurd g
begins-both (Builder xs) (Component ys) z g h = absurd g
begins-both (Instance xs) (Builder ys) z g h = absurd g
begins-both (Instance xs) (Component ys) z g h = absurd g
begins-both (Component xs) (Builder ys) z g h = absurd g
begins-both (Component xs) (Instance ys) z g h = absurd g
begins-both x (Builder ys) (Instance zs) g h = absurd h
begins-both x (Builder ys) (Component zs) g h = absurd h
begins-both x (Instance ys) (Builder zs) g h = absurd h
begins-both x (Instance ys) (Component zs) g h = absurd h
begins-both x (Component ys) (Builder zs) g h = absurd h
begins-both x (Component ys) (Instance zs) g h = absurd h

begins-types : (x y : Encodable) → AddsTypes x y → BeginsWith x y
begins-types (Builder xs) (Builder ys) h = (h.0, h.1)
begins-types (Instance xs) (Instance ys) h = (h.0, h.1)
begins-types (Component xs) (Component ys) h = (h.0, h.1)
begins-types (Builder xs) (Instance ys) h = absurd h
begins-types (Builder xs) (Component ys) h = absurd h
begins-types (Instance xs) (Builder ys) h = absurd h
begins-types (Instance xs) (Component ys) h = absurd h
begins-types (Component xs) (Builder ys) h = absurd h
begins-types (Component xs) (Instance ys) h = absurd h

begins-item : (side : Side) (n : Name) (d : Description) (x : Encodable) → BeginsWith x (and_item side n d x)
begins-item side n d (Builder xs) = ([], append-none xs)
begins-item side n d (Instance ds) = (side_decl side n d ∷ [], refl)
begins-item side n d (Component ds) = (side_decl side n d ∷ [], refl)

begins-import : (n : Name) (d : Description) (x : Encodable) → IsRoot x → BeginsWith x (and_import n d x)
begins-import n d (Builder xs) h = (import_item n d ∷ [], refl)
begins-import n d (Instance ds) h = absurd h
begins-import n d (Component ds) h = absurd h

-- lists of scopes

abbrev Begins : Scope → Scope → Type 0
Begins s t = BeginsWith s.content t.content

zip-none : (ss : List Scope) → AllZip Begins ss ss
zip-none [] = tt
zip-none (s ∷ ss) = (begins-none s.content, zip-none ss)

zip-both : (ss ts us : List Scope) → AllZip Begins ss ts → AllZip Begins ts us → AllZip Begins ss us
zip-both [] [] [] g h = tt
zip-both (s ∷ ss) (t ∷ ts) (u ∷ us) g h = (begins-both s.content t.content u.content g.0 h.0, zip-both ss ts us g.1 h.1)
zip-both [] (t ∷ ts) us g h = absurd g
zip-both (s ∷ ss) [] us g h = absurd g
zip-both [] [] (u ∷ us) g h = absurd h
zip-both (s ∷ ss) (t ∷ ts) [] g h = absurd h

zip-types : (ss ts : List Scope) → AllZip (λ s t. AddsTypes s.content t.content) ss ts → AllZip Begins ss ts
zip-types [] [] h = tt
zip-types (s ∷ ss) (t ∷ ts) h = (begins-types s.content t.content h.0, zip-types ss ts h.1)
zip-types [] (t ∷ ts) h = absurd h
zip-types (s ∷ ss) [] h = absurd h

zip-snoc : (ss ts : List Scope) (s t : Scope) → AllZip Begins ss ts → Begins s t → AllZip Begins (ss ++ s ∷ []) (ts ++ t ∷ [])
zip-snoc [] [] s t g h = (h, tt)
zip-snoc (x ∷ ss) (y ∷ ts) s t g h = (g.0, zip-snoc ss ts s t g.1 h)
zip-snoc [] (y ∷ ts) s t g h = absurd g
zip-snoc (x ∷ ss) [] s t g h = absurd g

record Split (xs ys zs : List Scope) : Type 0 where
  pub front : List Scope
  pub rest : List Scope
  pub is : zs ≡ front ++ rest
  pub first : AllZip Begins xs front

zip-split : (xs ys zs : List Scope) → AllZip Begins (xs ++ ys) zs → Split xs ys zs
zip-split [] ys zs h = record { front = []; rest = zs; is = refl; first = tt }
zip-split (x ∷ xs) ys (z ∷ zs) h =
    let r = zip-split xs ys zs h.1 in
    record { front = z ∷ r.front; rest = r.rest; is = ap (λ (ws : List Scope). z ∷ ws) r.is; first = (h.0, r.first) }
zip-split (x ∷ xs) ys [] h = absurd h

-- scopes that are still open

-- The first of some scopes are still open if all are.
first-open : (ss xs ys : List Scope) (t : State) → AllZip Begins ss xs → AreStillOpen (xs ++ ys) t → AreStillOpen ss t
first-open ss xs ys t g h =
    let r = zip-split xs ys h.kept h.contents in
    record {
      kept = r.front;
      inner = r.rest ++ h.inner;
      scopes = h.scopes ∙ ap (λ (zs : List Scope). zs ++ h.inner) r.is ∙ append_assoc r.front r.rest h.inner;
      contents = zip-both ss xs r.front g r.first;
    }

open-both : (ss : List Scope) (s t : State) → AreStillOpen ss s → KeepsScopes s t → AreStillOpen ss t
open-both ss s t g h = first-open ss g.kept g.inner t g.contents (subst (λ (xs : List Scope). AreStillOpen xs t) g.scopes h)

pub keeps-both : (s t u : State) → KeepsScopes s t → KeepsScopes t u → KeepsScopes s u
keeps-both s t u g h = open-both (open_scopes s) t u g h

-- all scopes of a state, one for one
keeps-all : (ss : List Scope) (t : State) → AllZip Begins ss (open_scopes t) → AreStillOpen ss t
keeps-all ss t h = record { kept = open_scopes t; inner = []; scopes = append-none (open_scopes t); contents = h }

keeps-here : (s t : State) → t.around.items ≡ s.around.items → Begins s.here t.here → KeepsScopes s t
keeps-here s t around h =
    keeps-all (open_scopes s) t (zip-snoc s.around.items t.around.items s.here t.here (subst (λ (zs : List Scope). AllZip Begins s.around.items zs) (sym around) (zip-none s.around.items)) h)

pub keeps-none : (s : State) → KeepsScopes s s
keeps-none s = keeps-here s s refl (begins-none s.here.content)

pub keeps-same : (s t : State) → IsSame s t → KeepsScopes s t
keeps-same s t h = keeps-here s t h.1 (subst (λ (x : Scope). Begins s.here x) (sym h.0) (begins-none s.here.content))

-- A call that appends types alone keeps the scopes.
pub keeps-types : (s t : State) → AllAddTypes s t → KeepsScopes s t
keeps-types s t h = keeps-all (open_scopes s) t (zip-snoc s.around.items t.around.items s.here t.here (zip-types s.around.items t.around.items h.1) (begins-types s.here.content t.here.content h.0))

-- So does one that then changes nothing.
pub keeps-unchanged : (s t u : State) → AllAddTypes s t → u ≡ t → KeepsScopes s u
keeps-unchanged s t u h is = subst (KeepsScopes s) (sym is) (keeps-types s t h)

pub keeps-item : (side : Side) (n : Name) (d : Description) (s t : State) → t.around ≡ s.around → t.here.content ≡ and_item side n d s.here.content → KeepsScopes s t
keeps-item side n d s t around content = keeps-here s t (same-items t s around) (subst (BeginsWith s.here.content) (sym content) (begins-item side n d s.here.content))

pub keeps-import : (n : Name) (d : Description) (s t : State) → IsRoot s.here.content → t.around ≡ s.around → t.here.content ≡ and_import n d s.here.content → KeepsScopes s t
keeps-import n d s t root around content = keeps-here s t (same-items t s around) (subst (BeginsWith s.here.content) (sym content) (begins-import n d s.here.content root))

-- An item or an import is added between types.
pub keeps-three : (s t u v : State) → AllAddTypes s t → KeepsScopes t u → AllAddTypes u v → KeepsScopes s v
keeps-three s t u v g k h = keeps-both s t v (keeps-types s t g) (keeps-both t u v k (keeps-types u v h))

-- instance types that are opened and closed

pub keeps-opened : (c : Collection) (b : Bool) (it : Interface) (s t : State) → BeginsInterface c b it s t → KeepsScopes s t
keeps-opened c b it s t h = record {
  kept = open_scopes s;
  inner = t.here ∷ [];
  scopes = ap (λ (zs : List Scope). zs ++ t.here ∷ []) h.around;
  contents = zip-none (open_scopes s);
}

there-at : (xs : List (Held Interface)) (i : ℕ) → i < length xs → (it : Interface) × (item_at xs i ≡ Some it)
there-at [] i h = absurd (omega (arith, h))
there-at (x ∷ xs) zero h = (x.item, refl)
there-at (x ∷ xs) (suc i) h = there-at xs i (omega (arith, h))

pub keeps-begun : (c : Collection) (b : Bool) (i : InterfaceId) (s t : State) → HasInterface c i → ((it : Interface) → item_at c.interfaces i.0 ≡ Some it → BeginsInterface c b it s t) → KeepsScopes s t
keeps-begun c b i s t held begins = let it = there-at c.interfaces i.0 held in keeps-opened c b it.0 s t (begins it.0 it.1)

-- The innermost scope is dropped.
pub dropped-open : (s t : State) → s.around.items ≡ t.around.items ++ t.here ∷ [] → AreStillOpen s.around.items t
dropped-open s t h = keeps-all s.around.items t (subst (AllZip Begins s.around.items) h (zip-none s.around.items))

-- The innermost scope is closed, and then types alone are appended.
pub closed-open : (s t u : State) → ClosesInto s t → AllAddTypes t u → AreStillOpen s.around.items u
closed-open s t u g h =
    let begins : Begins g.0 t.here = subst (λ (x : Scope). Begins g.0 x) (sym g.2) (begins-types g.0.content (and_type (instance_def (decls (declarations_of s.here.content))) g.0.content) (adds-def (instance_def (decls (declarations_of s.here.content))) g.0.content)) in
    let closed = keeps-all s.around.items t (subst (λ (zs : List Scope). AllZip Begins zs (open_scopes t)) (sym g.1) (zip-snoc t.around.items t.around.items g.0 t.here (zip-none t.around.items) begins)) in
    open-both s.around.items t u closed (keeps-types t u h)

-- open levels

pub keeps-levels : (b : Bool) (n : ℕ) (old s : State) → AreLevels b n old s → KeepsScopes old s
keeps-levels b n old s h = record {
  kept = h.base;
  inner = h.levels ++ s.here ∷ [];
  scopes = ap (λ (zs : List Scope). zs ++ s.here ∷ []) h.around ∙ append_assoc h.base h.levels (s.here ∷ []);
  contents = zip-types (open_scopes old) h.base h.types;
}

-- After a step inside the levels.
pub levels-keep : (b : Bool) (n : ℕ) (old s t : State) → AreLevels b n old s → KeepsScopes s t → KeepsScopes old t
levels-keep b n old s t h g = keeps-both old s t (keeps-levels b n old s h) g

-- The innermost level is gone.
pub levels-less : (b : Bool) (n : ℕ) (old s t : State) → AreLevels b n old s → AreStillOpen s.around.items t → KeepsScopes old t
levels-less b n old s t h g = first-open (open_scopes old) h.base h.levels t (zip-types (open_scopes old) h.base h.types) (subst (λ (zs : List Scope). AreStillOpen zs t) h.around g)

-- results of calls

pub on-err : {A E P Q : Type 0} → (r : Result A E) → (P → Q) → OnErr r P → OnErr r Q
on-err (Ok x) f h = tt
on-err (Err e) f h = f h

pub err-of : {A E P : Type 0} → (r : Result A E) → P → OnErr r P
err-of (Ok x) h = tt
err-of (Err e) h = h
