use Rattle.std.proofs.Common.{rules, ◌≡◌, Ok, None, ap, sym, ◌∙◌, arith}
use Rattle.wac_component.specs.declared.types.ValueDef.TheVariants.{Primitive}
use Rattle.wac_binary.specs.Items.{ValueDef, value_def, TypeDef}
use Rattle.wac_component.specs.Reader.{after, done}
use Rattle.wac_reader_parts.specs.private.Tables.{primitive_of}
use Rattle.wac_reader_parts.proofs.Rows.{value_type_primitive, value_type_defined}
use Rattle.wac_reader_parts.proofs.Views.{value_is}
use Rattle.wac_reader_parts.proofs.types.value_type.Goals as goal

pub returns-in-Some : goal.returns-in-Some
returns-in-Some c = value_type_primitive c.args.b c.args.bytes.now c.in-Some.t c.in-Some.ensures ∙ ap (λ (x : TypeDef). Ok (x, c.args.bytes.now)) (sym (value_is (Primitive c.in-Some.t)))

pub returns : goal.returns
returns c =
    let none : None ≡ primitive_of c.args.b = first_of (cc, search rules, grind arith) in
    value_type_defined c.args.b c.args.bytes.now none ∙ ap (after (λ (x : ValueDef). done (value_def x))) c.in_ok-definition.ensures ∙ ap (λ (x : TypeDef). Ok (x, c.in_ok-definition.rest.now)) (sym (value_is c.in_ok-definition.definition))
