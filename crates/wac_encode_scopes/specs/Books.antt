-- What the code records in an open scope, as the records of a scope in a stack.
use Rattle.std.specs.Prelude.{Bool, true, false, nat_eq, Option, Some, None}
use Rattle.std.specs.HashMap.{get}
use Rattle.wac_types_shapes.specs.declared.shapes.component.ResourceId.{ResourceId}
use Rattle.wac_types_shapes.specs.declared.shapes.component.DefinedTypeId.{DefinedTypeId}
use Rattle.wac_types_shapes.specs.declared.shapes.component.«Type».{«Type» as AnyType}
use Rattle.wac_types_shapes.specs.contracts.shapes.component.TypePartialEq.TheImpl as TypeEq
use Rattle.wac_encode_scopes.specs.declared.book.Place.{Place}
use Rattle.wac_encode_scopes.specs.declared.book.Place.TheVariants.{Index, Export}
use Rattle.wac_encode_scopes.specs.declared.book.How.{How as TheHow}
use Rattle.wac_encode_scopes.specs.declared.book.How.TheVariants as h
use Rattle.wac_encode_scopes.specs.declared.book.Entry.{Entry}
use Rattle.wac_encode_scopes.specs.declared.book.Book.{Book}
use Rattle.wac_encode_scopes.specs.declared.scope.Scope.{Scope}
use Rattle.wac_encode_scopes.specs.Contents.{content_of}
use Rattle.wac_encode_stacks.specs.Scopes.{Content, Where, at_type, at_export, How, defined, brought, listed, Indexed, Open}

abbrev pub where_of : Place → Where
where_of (Index i) = at_type i
where_of (Export j n) = at_export j n

abbrev pub how_of : TheHow → How
how_of h.Defined = defined
how_of h.Brought = brought
how_of h.Listed = listed

abbrev pub indexed : Entry → Indexed
indexed e = record { index = e.index; how = how_of e.how }

abbrev pub maybe_where : Option Place → Option Where
maybe_where None = None
maybe_where (Some p) = Some (where_of p)

abbrev pub maybe_indexed : Option Entry → Option Indexed
maybe_indexed None = None
maybe_indexed (Some e) = Some (indexed e)

abbrev pub binds_in : Book → ResourceId → Option Where
binds_in b r = maybe_where (get (λ x y. nat_eq x.0 y.0) b.resources r)

abbrev pub types_in : Book → AnyType → Option Indexed
types_in b a = maybe_indexed (get (TypeEq.ghosts).eq b.types a)

abbrev pub exports_in : Book → DefinedTypeId → Option Where
exports_in b d = maybe_where (get (λ x y. nat_eq x.0 y.0) b.exports d)

-- The open scope with this content and the records of this book.
abbrev pub recorded : Book → Content → Open
recorded b x = record { content = x; passes = b.passes; binds = binds_in b; types = types_in b; exports = exports_in b }

-- The book of the merged collection, or of the graph's own.
abbrev pub book_of : Bool → Scope → Book
book_of true s = s.merged
book_of false s = s.graph

abbrev pub opened : Bool → Scope → Open
opened b s = recorded (book_of b s) (content_of s.content)
