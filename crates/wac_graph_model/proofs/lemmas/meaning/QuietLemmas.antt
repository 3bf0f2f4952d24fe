-- Types and aliases: what they leave of what items mean.
use Rattle.std.proofs.Common.{◌≡◌, List, [], ◌∷◌, ◌++◌, ap, ◌∙◌}
use Rattle.std.specs.List.{AllByRecursion}
use Rattle.wac_binary.specs.Items.{Item, core_type, alias_item, export_alias, outer_alias, type_item}
use Rattle.wac_binary.specs.Meaning.{Root, read, read_all, meaning}
use Rattle.wac_binary.specs.HasMeaning.{AllHaveMeaning}
use Rattle.wac_graph_model.specs.private.meaning.Encoding.{IsTypeAlone}
use Rattle.wac_graph_model.proofs.lemmas.meaning.MeaningLemmas.{rest, meaning-push, rest-with_thing, alias_rest}

-- a type, a core type or an alias
abbrev pub IsQuiet : Item → Type 0
IsQuiet (core_type m) = Unit {0}
IsQuiet (alias_item a) = Unit {0}
IsQuiet (type_item t) = Unit {0}
IsQuiet _ = ⊥

pub quiet_rest : (items : List Item) (x : Item) → IsQuiet x → rest (meaning (items ++ x ∷ [])) ≡ rest (meaning items)
quiet_rest items (core_type m) q = ap rest (meaning-push items (core_type m))
quiet_rest items (type_item t) q = ap rest (meaning-push items (type_item t))
quiet_rest items (alias_item (export_alias t i n)) q = alias_rest items t i n
quiet_rest items (alias_item (outer_alias t k i)) q = ap rest (meaning-push items (alias_item (outer_alias t k i))) ∙ rest-with_thing _ t _
quiet_rest items x q = absurd q

-- types alone are quiet
pub quiet_types : (types : List Item) → AllByRecursion IsTypeAlone types → AllByRecursion IsQuiet types
quiet_types [] h = tt
quiet_types (x ∷ types) h = (quiet x h.0, quiet_types types h.1) where
  quiet : (x : Item) → IsTypeAlone x → IsQuiet x
  quiet (core_type m) h = tt
  quiet (type_item t) h = tt
  quiet (alias_item a) h = tt
  quiet x h = absurd h

-- items have a meaning behind those before them
pub all_behind : (r : Root) (items more : List Item) → AllHaveMeaning r (items ++ more) → AllHaveMeaning (read_all r items) more
all_behind r [] more h = h
all_behind r (x ∷ items) more h = all_behind (read r x) items more h.1

-- and so those before others
pub first_all : (r : Root) (xs ys : List Item) → AllHaveMeaning r (xs ++ ys) → AllHaveMeaning r xs
first_all r [] ys h = tt
first_all r (x ∷ xs) ys h = (h.0, first_all (read r x) xs ys h.1)
