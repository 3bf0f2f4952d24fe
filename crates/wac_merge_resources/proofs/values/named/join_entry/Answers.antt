use Rattle.std.proofs.Common.{◌≡◌, ◌⊎◌, Option, Some, None, sym, ap, ◌∙◌, inl, inr}
use Rattle.std.specs.Option.{unwrap_or}
use Rattle.wac_types_shapes.specs.declared.shapes.component.DefinedTypeId.{DefinedTypeId}
use Rattle.wac_merge_resources.specs.values.NamedTypes.{no_join, one_join}
use Rattle.wac_merge_resources.proofs.lemmas.values.Joining.{asked-one, none-asked}
use Rattle.wac_merge_resources.proofs.values.named.join_entry.Goals as goal

either : (class : Option DefinedTypeId) (value a : DefinedTypeId) → a ≡ unwrap_or class value → (a ≡ value) ⊎ (class ≡ Some a)
either None value a e = inl e
either (Some x) value a e = let same : x ≡ a = sym e in inr (ap Some same)

pub returns-in_default-clause-one : goal.returns-in_default-clause-one
returns-in_default-clause-one c = none-asked c.args.types.now c.args.kind c.args.class c.args.named.now (λ d is. c.in_default.not-Some d (c.listed_value.ensures ∙ is))

pub returns-in_default-clause-along : goal.returns-in_default-clause-along
returns-in_default-clause-along c = no_join

pub returns-clause-one : goal.returns-clause-one
returns-clause-one c =
    asked-one c.args.types.now c.args.kind c.args.class c.join.new.self c.unwrap_or-first.result c.in-Some.value (sym c.listed_value.ensures ∙ c.in-Some.is) c.unwrap_or-first.ensures c.in_ok-join.ensures.one

pub returns-clause-along : goal.returns-clause-along
returns-clause-along c =
    one_join c.args.named.now c.join.new.self c.unwrap_or-first.result c.in-Some.value no_join (sym c.listed_value.ensures ∙ c.in-Some.is, either c.args.class c.in-Some.value c.unwrap_or-first.result c.unwrap_or-first.ensures) c.in_ok-join.ensures.joined c.in_ok-join.ensures.only
