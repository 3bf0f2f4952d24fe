-- The items, interfaces and worlds that words say.
use Rattle.std.specs.Prelude.{◌≡◌, ◌≢◌, ◌++◌, List, [], ◌∷◌, Option, Some, None, codes}
use Rattle.wac_types_shapes.specs.primitives.Name.{Name}
use Rattle.wac_types_shapes.specs.shapes.Kinds.{kind_type}
use Rattle.wac_types_shapes.specs.shapes.Named.{NoNameTwice}
use Rattle.wac_types_shapes.specs.declared.primitives.PrimitiveType.{PrimitiveType}
use Rattle.wac_types_shapes.specs.declared.shapes.component.ValueType.{ValueType}
use Rattle.wac_types_shapes.specs.declared.shapes.component.ValueType.TheVariants as val
use Rattle.wac_types_shapes.specs.declared.shapes.component.«Type».TheVariants as ty
use Rattle.wac_types_shapes.specs.declared.shapes.component.ItemKind.{ItemKind}
use Rattle.wac_types_shapes.specs.declared.shapes.component.ItemKind.TheVariants as kind
use Rattle.wac_types_shapes.specs.declared.shapes.component.InterfaceId.{InterfaceId}
use Rattle.wac_types_shapes.specs.declared.shapes.component.UsedType.{UsedType}
use Rattle.wac_types_shapes.specs.declared.shapes.component.Interface.{Interface}
use Rattle.wac_types_shapes.specs.declared.shapes.component.World.{World}
use Rattle.wac_script.specs.lines.Words.{Word, IsPair, IsDotted, HasNoDot, HasNoPrefix, WordByWord}
use Rattle.wac_script.specs.declared.labels.things.Thing.{Thing}
use Rattle.wac_script.specs.declared.labels.things.Thing.TheVariants as thing
use Rattle.wac_script.specs.labels.Things.{Labelling, IsThing}
use Rattle.wac_script.specs.labels.Values.{primitive_word, IsNoPrimitive, IsValue}

-- The item that a thing is: of a value type or a resource the type, of another type what has it, of others none.
abbrev pub item_of : Thing → Option ItemKind
item_of (thing.Resource r) = Some (kind.TypeItem (ty.Resource r))
item_of (thing.Value v) = Some (kind.TypeItem (ty.Value v))
item_of (thing.Func f) = Some (kind.Func f)
item_of (thing.Interface i) = Some (kind.Instance i)
item_of (thing.World w) = Some (kind.Component w)
item_of (thing.Module m) = Some (kind.Module m)
item_of _ = None

-- The label stands for this item.
abbrev pub IsLabelledItem : Labelling → Word → ItemKind → Type 0
IsLabelledItem labels label item = (t : Thing) × IsThing labels label t × (item_of t ≡ Some item)

-- The word is this item.
pub data IsItem (labels : Labelling) (word : Word) (item : ItemKind) : Type 0 where
  primitive : (p : PrimitiveType) → word ≡ primitive_word p → item ≡ kind.TypeItem (ty.Value (val.Primitive p)) → IsItem labels word item
  value : (rest : Word) (v : ValueType) → IsNoPrimitive word → word ≡ codes "value:" ++ rest → IsValue labels rest v → item ≡ kind.Value v → IsItem labels word item
  type_of : (rest : Word) (k : ItemKind) → IsNoPrimitive word → word ≡ codes "type:" ++ rest → IsLabelledItem labels rest k → item ≡ kind.TypeItem (kind_type k) → IsItem labels word item
  labelled : IsNoPrimitive word → HasNoPrefix (codes "value:") word → HasNoPrefix (codes "type:") word → IsLabelledItem labels word item → IsItem labels word item

-- The word is `INTERFACE` or `INTERFACE.NAME`: the interface of a label, and the name of a type in it.
abbrev pub IsSource : Labelling → Word → InterfaceId → Option Name → Type 0
IsSource labels source i None = HasNoDot source × IsThing labels source (thing.Interface i)
IsSource labels source i (Some name) = (label : Word) × IsDotted source label name × IsThing labels label (thing.Interface i)

-- The word after `use:` is `LOCAL=INTERFACE` or `LOCAL=INTERFACE.NAME`.
abbrev pub IsUse : Labelling → Word → Name → UsedType → Type 0
IsUse labels word local used = (source : Word) × IsPair word local source × IsSource labels source used.interface used.name

-- Used types, and items.
pub record Found : Type 0 where
  pub uses : List (Name × UsedType)
  pub items : List (Name × ItemKind)

-- The word adds a used type or an item, at the end.
pub data AddsListed (labels : Labelling) (word : Word) (old new : Found) : Type 0 where
  used : (rest : Word) (local : Name) (u : UsedType) → word ≡ codes "use:" ++ rest → IsUse labels rest local u
      → new ≡ record old { uses = old.uses ++ (local, u) ∷ [] } → AddsListed labels word old new
  item : (name : Name) (text : Word) (k : ItemKind) → HasNoPrefix (codes "use:") word → IsPair word name text → IsItem labels text k
      → new ≡ record old { items = old.items ++ (name, k) ∷ [] } → AddsListed labels word old new

-- The words are these used types and items, in order.
abbrev pub AreListed : Labelling → List Word → List (Name × UsedType) → List (Name × ItemKind) → Type 0
AreListed labels words uses items = WordByWord (AddsListed labels) words (record { uses = []; items = [] }) (record { uses = uses; items = items })

-- The id that a word is; `_` is none.
abbrev pub IsId : Word → Option Name → Type 0
IsId word None = word ≡ codes "_"
IsId word (Some id) = (word ≢ codes "_") × (id ≡ word)

-- The words are those of this interface.
pub record IsInterface (labels : Labelling) (word : Word) (words : List Word) (i : Interface) : Type 0 where
  pub named : IsId word i.id
  pub listed : AreListed labels words i.uses i.exports

-- No name occurs twice among the used types, and none among the exports.
abbrev pub HasExportsOnce : Interface → Type 0
HasExportsOnce i = NoNameTwice i.uses × NoNameTwice i.exports

-- The first word, if there is one, does not begin with `id:`.
abbrev pub HasNoWorldId : List Word → Type 0
HasNoWorldId [] = Unit {0}
HasNoWorldId (first ∷ rest) = HasNoPrefix (codes "id:") first

-- The first word is `id:` and this id, if there is one, and the rest are the other words.
abbrev pub IsWorldId : List Word → Option Name → List Word → Type 0
IsWorldId words (Some id) rest = words ≡ (codes "id:" ++ id) ∷ rest
IsWorldId words None rest = HasNoWorldId words × (words ≡ rest)

-- The words are those of this world: of its imports, after its id if there is one, and of its exports.
abbrev pub IsWorld : Labelling → List Word → List Word → World → Type 0
IsWorld labels imports exports w =
    (rest : List Word) × IsWorldId imports w.id rest × AreListed labels rest w.uses w.imports × AreListed labels exports [] w.exports

-- No name occurs twice among the used types, none among the imports, and none among the exports.
abbrev pub HasItemsOnce : World → Type 0
HasItemsOnce w = NoNameTwice w.uses × NoNameTwice w.imports × NoNameTwice w.exports
