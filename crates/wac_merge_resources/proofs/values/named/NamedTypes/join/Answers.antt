use Rattle.std.proofs.Common.{◌≡◌, ◌∙◌}
use Rattle.wac_types_shapes.specs.declared.shapes.component.DefinedTypeId.{DefinedTypeId}
use Rattle.wac_merge_resources.specs.values.NamedTypes.{IsTouched, at_one, at_other, earlier_of, first_of, first_of_one, first_of_other, stood}
use Rattle.wac_merge_resources.specs.declared.values.named.NamedTypes.{NamedTypes}
use Rattle.wac_merge_resources.proofs.lemmas.values.Joins.{FourPut, four-put, joins, p0, p1, p2, p3, p4}
use Rattle.wac_merge_resources.proofs.values.named.NamedTypes.join.Goals as goal

pub returns-clause-joined : goal.returns-clause-joined
returns-clause-joined c =
    (joins (earlier_of c.args.self.now) (earlier_of c.put.new.self) (earlier_of c.put-2.new.self) (earlier_of c.put-3.new.self) (earlier_of c.put-4.new.self)
    c.args.one c.args.other c.first-first_of_one.result c.first-first_of_other.result c.lower-first.result c.first-first_of_one.ensures c.first-first_of_other.ensures c.lower-first.ensures
    c.in_ok-put.ensures c.in_ok-put-2.ensures c.in_ok-put-3.ensures c.in_ok-put-4.ensures).joined

pub returns-clause-one : goal.returns-clause-one
returns-clause-one c =
    (joins (earlier_of c.args.self.now) (earlier_of c.put.new.self) (earlier_of c.put-2.new.self) (earlier_of c.put-3.new.self) (earlier_of c.put-4.new.self)
    c.args.one c.args.other c.first-first_of_one.result c.first-first_of_other.result c.lower-first.result c.first-first_of_one.ensures c.first-first_of_other.ensures c.lower-first.ensures
    c.in_ok-put.ensures c.in_ok-put-2.ensures c.in_ok-put-3.ensures c.in_ok-put-4.ensures).one

pub returns-clause-stay : goal.returns-clause-stay
returns-clause-stay c =
    (joins (earlier_of c.args.self.now) (earlier_of c.put.new.self) (earlier_of c.put-2.new.self) (earlier_of c.put-3.new.self) (earlier_of c.put-4.new.self)
    c.args.one c.args.other c.first-first_of_one.result c.first-first_of_other.result c.lower-first.result c.first-first_of_one.ensures c.first-first_of_other.ensures c.lower-first.ensures
    c.in_ok-put.ensures c.in_ok-put-2.ensures c.in_ok-put-3.ensures c.in_ok-put-4.ensures).stay

touched : (t : NamedTypes) (a b x y d : DefinedTypeId) → x ≡ first_of t a → y ≡ first_of t b → FourPut (earlier_of t) x y a b d → IsTouched t a b d
touched t a b x y d ex ey (p1 e) = first_of_one (e ∙ ex)
touched t a b x y d ex ey (p2 e) = first_of_other (e ∙ ey)
touched t a b x y d ex ey (p3 e) = at_one e
touched t a b x y d ex ey (p4 e) = at_other e
touched t a b x y d ex ey (p0 s) = stood s

pub returns-clause-only : goal.returns-clause-only
returns-clause-only c d s =
    touched c.args.self.now c.args.one c.args.other c.first-first_of_one.result c.first-first_of_other.result d c.first-first_of_one.ensures c.first-first_of_other.ensures
    (four-put (earlier_of c.args.self.now) (earlier_of c.put.new.self) (earlier_of c.put-2.new.self) (earlier_of c.put-3.new.self) (earlier_of c.put-4.new.self)
    c.first-first_of_one.result c.first-first_of_other.result c.args.one c.args.other c.lower-first.result c.in_ok-put.ensures c.in_ok-put-2.ensures c.in_ok-put-3.ensures c.in_ok-put-4.ensures d s)
