-- One more entry of a book, as it is recorded in an open scope.
use Rattle.std.specs.Prelude.{ℕ, ◌≡◌, ◌==◌, Bool, true, false, cond, nat_eq, if◌then◌else◌, Option, Some, None}
use Rattle.std.proofs.Common.{refl, ap, ◌∙◌, sym}
use Rattle.std.proofs.Math.Path.{fun_ext}
use Rattle.wac_types_shapes.specs.declared.shapes.component.ResourceId.{ResourceId}
use Rattle.wac_types_shapes.specs.declared.shapes.component.DefinedTypeId.{DefinedTypeId}
use Rattle.wac_types_shapes.specs.declared.shapes.component.«Type».{«Type» as AnyType}
use Rattle.wac_types_collection.specs.collection.Uses.{same_type}
use Rattle.wac_encode_scopes.specs.declared.book.Place.{Place}
use Rattle.wac_encode_scopes.specs.declared.book.Entry.{Entry}
use Rattle.wac_encode_scopes.specs.Books.{where_of, how_of, indexed, maybe_where, maybe_indexed}
use Rattle.wac_encode_scopes.specs.private.Steps.{is_listed}
use Rattle.wac_encode_stacks.specs.Scopes.{Where, Indexed, How, defined, brought, listed}
use Rattle.wac_encode_scopes.proofs.Types.{eqb-swap, type_eq, type-same}

place-case : (b : Bool) (p : Place) (o : Option Place) → maybe_where (cond b (Some p) o) ≡ (if b then Some (where_of p) else maybe_where o)
place-case true p o = refl
place-case false p o = refl

pub resource-more : (old new : ResourceId → Option Place) (r : ResourceId) (p : Place) → ((q : ResourceId) → new q ≡ cond (nat_eq r.0 q.0) (Some p) (old q)) → ◌≡◌ {A = ResourceId → Option Where} (λ q. maybe_where (new q)) (λ q. if q.0 == r.0 then Some (where_of p) else maybe_where (old q))
resource-more old new r p h = fun_ext (λ q. ap maybe_where (h q) ∙ place-case (nat_eq r.0 q.0) p (old q) ∙ ap (λ b. if b then Some (where_of p) else maybe_where (old q)) (eqb-swap r.0 q.0))

pub export-more : (old new : DefinedTypeId → Option Place) (d : DefinedTypeId) (p : Place) → ((q : DefinedTypeId) → new q ≡ cond (nat_eq d.0 q.0) (Some p) (old q)) → ◌≡◌ {A = DefinedTypeId → Option Where} (λ q. maybe_where (new q)) (λ q. if q.0 == d.0 then Some (where_of p) else maybe_where (old q))
export-more old new d p h = fun_ext (λ q. ap maybe_where (h q) ∙ place-case (nat_eq d.0 q.0) p (old q) ∙ ap (λ b. if b then Some (where_of p) else maybe_where (old q)) (eqb-swap d.0 q.0))

entry-case : (b : Bool) (e : Entry) (o : Option Entry) → maybe_indexed (cond b (Some e) o) ≡ (if b then Some (indexed e) else maybe_indexed o)
entry-case true e o = refl
entry-case false e o = refl

pub type-more : (old new : AnyType → Option Entry) (a : AnyType) (e : Entry) → ((q : AnyType) → new q ≡ cond (type_eq a q) (Some e) (old q)) → ◌≡◌ {A = AnyType → Option Indexed} (λ q. maybe_indexed (new q)) (λ q. if same_type q a then Some (indexed e) else maybe_indexed (old q))
type-more old new a e h = fun_ext (λ q. ap maybe_indexed (h q) ∙ entry-case (type_eq a q) e (old q) ∙ ap (λ b. if b then Some (indexed e) else maybe_indexed (old q)) (type-same a q))

-- what gave a recorded index
listed-how : (h : How) → is_listed h ≡ true → h ≡ listed
listed-how defined e = let both : false ≡ true = e in cc
listed-how brought e = let both : false ≡ true = e in cc
listed-how listed e = refl

pub is-listed : (o : Option Entry) (e : Entry) (x : Option Indexed) → o ≡ Some e → maybe_indexed o ≡ x → is_listed (how_of e.how) ≡ true → (i : ℕ) × (x ≡ Some (record { index = i; how = listed }))
is-listed o e x is same h = (e.index, sym same ∙ ap maybe_indexed is ∙ ap (λ (k : How). Some (record { index = e.index; how = k })) (listed-how (how_of e.how) h))

pub not-listed : (o : Option Entry) (e : Entry) (x : Option Indexed) → o ≡ Some e → maybe_indexed o ≡ x → is_listed (how_of e.how) ≡ false → (i : ℕ) → x ≡ Some (record { index = i; how = listed }) → ⊥
not-listed o e x is same h i at =
    let some : Some (indexed e) ≡ Some (record { index = i; how = listed }) = sym (ap maybe_indexed is) ∙ same ∙ at in
    let both : false ≡ true = sym h ∙ ap how_listed some in
    cc
  where
    how_listed : Option Indexed → Bool
    how_listed None = false
    how_listed (Some y) = is_listed y.how
