-- What an added item leaves as it was.
use Rattle.std.specs.Prelude.{not}
use Rattle.std.specs.List.{AllZip}
use Rattle.std.proofs.Common.{◌≡◌, Bool, List, [], ◌∷◌, ◌++◌, refl, ap, sym, ◌∙◌, subst}
use Rattle.wac_types_shapes.specs.primitives.Name.{Name}
use Rattle.wac_types_shapes.specs.primitives.Tree.{Side}
use Rattle.wac_types_collection.specs.collection.Collection.{Collection}
use Rattle.wac_binary.specs.declared.sorts.Description.{Description}
use Rattle.wac_encode_stacks.specs.Scopes.{Open, Stack}
use Rattle.wac_encode_stacks.specs.private.Beside.{written_as, all_written_as}
use Rattle.wac_encode_scopes.specs.declared.book.Book.{Book}
use Rattle.wac_encode_scopes.specs.declared.encodable.Encodable.{Encodable}
use Rattle.wac_encode_scopes.specs.declared.scope.Scope.{Scope}
use Rattle.wac_encode_scopes.specs.declared.state.State.{State}
use Rattle.wac_encode_scopes.specs.Contents.{AddsTypes, content_of, and_item}
use Rattle.wac_encode_scopes.specs.Books.{opened, recorded, book_of}
use Rattle.wac_encode_scopes.specs.States.{outward, stack, Goes, KeepsRecords, RecordsHere}
use Rattle.wac_encode_scopes.proofs.Stepped.{same-as, same-stack}
use Rattle.wac_encode_interfaces.specs.private.Items.{AddsBeside}

abbrev Added : Scope → Scope → Type 0
Added s t = AddsTypes s.content t.content

-- stacks of one length

abbrev pub Long : Stack → Stack → Type 0
Long [] [] = Unit {0}
Long (o ∷ os) (p ∷ ps) = Long os ps
Long _ _ = ⊥

pub as-twice : (ps qs os : Stack) → Long ps qs → Long ps os → all_written_as qs (all_written_as ps os) ≡ all_written_as qs os
as-twice [] [] [] h g = refl
as-twice (p ∷ ps) (q ∷ qs) (o ∷ os) h g = ap (λ (zs : Stack). written_as q o ∷ zs) (as-twice ps qs os h g)
as-twice [] (q ∷ qs) os h g = absurd h
as-twice (p ∷ ps) [] os h g = absurd h
as-twice [] [] (o ∷ os) h g = absurd g
as-twice (p ∷ ps) (q ∷ qs) [] h g = absurd g

long-append : (ps os : Stack) (p o : Open) → Long ps os → Long (ps ++ p ∷ []) (os ++ o ∷ [])
long-append [] [] p o h = tt
long-append (x ∷ ps) (y ∷ os) p o h = long-append ps os p o h
long-append [] (y ∷ os) p o h = absurd h
long-append (x ∷ ps) [] p o h = absurd h

pub long-outward : (b d : Bool) (ss ts : List Scope) → AllZip Added ss ts → Long (outward b ts) (outward d ss)
long-outward b d [] [] h = tt
long-outward b d (s ∷ ss) (t ∷ ts) h = long-append (outward b ts) (outward d ss) (opened b t) (opened d s) (long-outward b d ss ts h.1)
long-outward b d [] (t ∷ ts) h = absurd h
long-outward b d (s ∷ ss) [] h = absurd h

pub long-same : (ps : Stack) → Long ps ps
long-same [] = tt
long-same (p ∷ ps) = long-same ps

pub same-items : (s t : State) → s.around ≡ t.around → s.around.items ≡ t.around.items
same-items s t h = cc

-- an item, and records of the innermost scope

pub listed-other : (b : Bool) (f : Open → Open) (s t u : State) → KeepsRecords s t → RecordsHere b f t u → stack (not b) u ≡ all_written_as (stack b u) (stack (not b) s)
listed-other b f s t u keeps records =
    let around : u.around.items ≡ s.around.items = same-items u t records.around ∙ same-items t s keeps.0 in
    let book : book_of (not b) t.here ≡ book_of (not b) s.here = keeps.1 (not b) in
    let here : opened (not b) u.here ≡ written_as (opened b u.here) (opened (not b) s.here) =
    records.other ∙ ap (λ (x : Book). recorded x (content_of t.here.content)) book ∙ ap (λ (x : Encodable). recorded (book_of (not b) s.here) (content_of x)) (sym records.content) in
    ap (λ (o : Open). o ∷ outward (not b) u.around.items) here
    ∙ ap (λ (zs : Stack). written_as (opened b u.here) (opened (not b) s.here) ∷ zs) (sym (same-as (outward b u.around.items) (outward (not b) u.around.items) (same-stack b (not b) u).1))
    ∙ ap (λ (ss : List Scope). written_as (opened b u.here) (opened (not b) s.here) ∷ all_written_as (outward b u.around.items) (outward (not b) ss)) around

pub added-beside : (c : Collection) (b : Bool) (f : Open → Open) (side : Side) (n : Name) (d : Description) (old described listed new : State) → Goes c b old described → KeepsRecords described listed → listed.here.content ≡ and_item side n d described.here.content → RecordsHere b f listed new → AddsBeside b side n old new
added-beside c b f side n d old described listed new goes keeps content records =
    let around : new.around.items ≡ described.around.items = same-items new listed records.around ∙ same-items listed described keeps.0 in
    record {
      other =
          listed-other b f described listed new keeps records
          ∙ ap (all_written_as (stack b new)) goes.other
          ∙ as-twice (stack b described) (stack b new) (stack (not b) old)
          (subst (λ (ss : List Scope). Long (outward b described.around.items) (outward b ss)) (sym around) (long-same (outward b described.around.items)))
          (long-outward b (not b) old.around.items described.around.items goes.types.1);
      around = subst (AllZip Added old.around.items) (sym around) goes.types.1;
      between = described.here.content;
      types = goes.types.0;
      description = d;
      content = records.content ∙ content;
    }
