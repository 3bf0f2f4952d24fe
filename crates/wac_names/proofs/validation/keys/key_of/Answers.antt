-- Each kind of name has its key.
use Rattle.wac_names.specs.NameView.{text_of}
use Rattle.wac_names.proofs.lemmas.validation.PlainFacts.{key-label, key-constructor, key-method, key-static, key-other}
use Rattle.wac_names.proofs.validation.keys.key_of.Goals as goal

pub returns-in-Label : goal.returns-in-Label
returns-in-Label c = key-label (text_of c.args.name.now) c.kind.result c.in-Label.label c.plain_key.result c.kind.ensures.kind c.in-Label.is c.plain_key.ensures

pub returns-in-Constructor : goal.returns-in-Constructor
returns-in-Constructor c =
    key-constructor (text_of c.args.name.now) c.kind.result c.in-Constructor.resource c.plain_key-in-Constructor.result c.kind.ensures.kind c.in-Constructor.is c.plain_key-in-Constructor.ensures

pub returns-in-Method : goal.returns-in-Method
returns-in-Method c =
    key-method (text_of c.args.name.now) c.kind.result c.in-Method.resource c.in-Method.name c.function_key.result c.kind.ensures.kind c.in-Method.is c.function_key.ensures

pub returns-in-Static : goal.returns-in-Static
returns-in-Static c =
    key-static (text_of c.args.name.now) c.kind.result c.in-Static.resource c.in-Static.name c.function_key-in-Static.result c.kind.ensures.kind c.in-Static.is c.function_key-in-Static.ensures

pub returns-in_default : goal.returns-in_default
returns-in_default c =
    key-other (text_of c.args.name.now) c.as_str.result.now c.kind.result c.text_key.result c.kind.ensures.kind
    c.in_default.not-Label c.in_default.not-Constructor c.in_default.not-Method c.in_default.not-Static c.as_str.ensures.value c.text_key.ensures
