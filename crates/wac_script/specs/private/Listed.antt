-- What is found of words so far.
use Rattle.std.specs.Prelude.{List}
use Rattle.wac_types_shapes.specs.primitives.Name.{Name}
use Rattle.wac_types_shapes.specs.shapes.Named.{named_pairs, used_pairs}
use Rattle.wac_types_shapes.specs.declared.shapes.component.ItemKind.{ItemKind}
use Rattle.wac_types_shapes.specs.declared.shapes.component.UsedType.{UsedType}
use Rattle.wac_script.specs.declared.labels.items.Listed.{Listed}
use Rattle.wac_script.specs.lines.Words.{Word}
use Rattle.wac_script.specs.labels.Things.{Labelling}
use Rattle.wac_script.specs.labels.Items.{Found, AreListed}
use Rattle.wac_types_shapes.specs.declared.shapes.core_types.ModuleType.{ModuleType}
use Rattle.wac_script.specs.declared.labels.cores.Source.{Source}
use Rattle.wac_script.specs.labels.Cores.{Importing}

-- The used types and the items.
abbrev pub found_by : Listed → Found
found_by l = record { uses = used_pairs l.uses.items; items = named_pairs l.items.items }

-- The module so far, and from where the next imports are.
abbrev pub importing : Source → ModuleType → Importing
importing s ty = record { name = s.name.now; is_next = s.is_next; ty = ty }

-- The words list no used types and items.
abbrev pub ListNothing : Labelling → List Word → Type 0
ListNothing labels words = (uses : List (Name × UsedType)) (items : List (Name × ItemKind)) → AreListed labels words uses items → ⊥
