-- The input of a node's hash. Only contracts inside the merge cite this file.
use Rattle.std.proofs.Common.{◌≡◌, ◌++◌, ◌&&◌, Bool, true, ℕ, List, [], Option, Some, None, nat_eq, ap, refl, eq-eqb, rules}
use Rattle.std.proofs.lemmas.Bool.{eqb-true}
use Rattle.std.specs.Borrow.{Bor}
use Rattle.std.specs.Global.{Global}
use Rattle.std.specs.Prelude.{string_bytes}
use Rattle.std.specs.declared.string.String.{String}
use Rattle.std.specs.Bool.{beq}
use Rattle.std.specs.Option.{option_eq}
use Rattle.std.specs.Cmp.Lexicographic.{pointwise, bytes_decides}
use Rattle.std.specs.Cmp.Rules.{hashing}
use Rattle.std.specs.Hash as fed
use Rattle.std.specs.Cmp.{first_so, second_so}
use Rattle.std.specs.Hash.{HashWrites, Alike, same_Alike, on_Alike, and-Alike, items_Alike}
use Rattle.wac_types_shapes.specs.contracts.primitives.component.PrimitiveTypeHash.TheImpl as PrimitiveHash
use Rattle.wac_types_collection.specs.contracts.subtyping.called.CalledHash.TheImpl as CalledHash
use Rattle.wac_types_collection.specs.contracts.subtyping.called.CalledHash.TheImpl.Laws as called
use Rattle.wac_merge_tables.specs.contracts.tables.nodes.CoreHash.TheImpl.Laws as cores
use Rattle.wac_merge_tables.specs.contracts.tables.nodes.CoreHash.TheImpl as CoreHash
use Rattle.wac_merge_tables.specs.contracts.tables.nodes.NodePartialEq.TheImpl as NodeEq
use Rattle.wac_types_collection.specs.contracts.subtyping.called.CalledPartialEq.TheImpl as CalledEq
use Rattle.wac_merge_tables.specs.contracts.tables.nodes.CorePartialEq.TheImpl as CoreEq
use Rattle.wac_merge_tables.specs.contracts.tables.nodes.ItemPartialEq.TheImpl as ItemEq
use Rattle.wac_types_shapes.specs.contracts.primitives.component.PrimitiveTypePartialEq.TheImpl as PrimitiveEq
use Rattle.wac_merge_tables.specs.declared.tables.nodes.Core.{Core}
use Rattle.wac_merge_tables.specs.declared.tables.nodes.Item.{Item}
use Rattle.wac_merge_tables.specs.declared.tables.nodes.Node.{Node}
use Rattle.wac_merge_tables.specs.declared.tables.nodes.Node.TheVariants as node
use Rattle.wac_merge_tables.specs.private.tables.ItemHash.{item_writes, item_alike}

-- A name and what it names.
abbrev pub entry_writes : {V : Type 0} → (V → HashWrites) → Bor (List ℕ) × V → HashWrites
entry_writes w e = fed.str e.0.now ++ w e.1

-- A number, if there is one.
abbrev pub number_writes : Option ℕ → HashWrites
number_writes None = []
number_writes (Some n) = fed.usize n

-- An import or export of a core module.
abbrev pub core_writes : String Global × Core → HashWrites
core_writes e = fed.str (string_bytes e.0) ++ (CoreHash.ghosts).hash_input e.1

-- The parts of a node, without its variant. Few variants have parts that are equal.
abbrev pub node_writes : Node → HashWrites
node_writes (node.Resource r) = (CalledHash.ghosts).hash_input r
node_writes (node.Primitive p) = (PrimitiveHash.ghosts).hash_input p
node_writes (node.Own r) = (CalledHash.ghosts).hash_input r
node_writes (node.Borrow r) = (CalledHash.ghosts).hash_input r
node_writes (node.Record fields) = fed.slice (entry_writes fed.usize) fields.items
node_writes (node.Variant cases) = fed.slice (entry_writes (fed.option fed.usize)) cases.items
node_writes (node.List n) = fed.usize n
node_writes (node.FixedSizeList n k) = fed.usize n
node_writes (node.Tuple ns) = fed.slice fed.usize ns.items
node_writes (node.Flags names) = fed.slice (λ n. fed.str n.now) names.items
node_writes (node.Enum names) = fed.slice (λ n. fed.str n.now) names.items
node_writes (node.Option n) = fed.usize n
node_writes (node.Result ok err) = fed.option fed.usize ok ++ fed.option fed.usize err
node_writes (node.Stream n) = number_writes n
node_writes (node.Future n) = number_writes n
node_writes (node.Func is_async params result) = fed.slice (entry_writes fed.usize) params.items ++ number_writes result
node_writes (node.Instance exports) = fed.slice (entry_writes item_writes) exports.items
node_writes (node.Component imports exports) = fed.slice (entry_writes item_writes) imports.items ++ fed.slice (entry_writes item_writes) exports.items
node_writes (node.Module imports exports) = fed.slice core_writes exports.items

-- ---- Equal nodes have the same input.
numbers_alike : Alike nat_eq fed.usize
numbers_alike = same_Alike fed.usize (λ x y. (eqb-true x y, eq-eqb x y))

texts_alike : Alike (pointwise nat_eq) fed.str
texts_alike = same_Alike fed.str bytes_decides

called_alike : Alike (CalledEq.ghosts).eq (CalledHash.ghosts).hash_input
called_alike = record { fed = λ x y e. called.respects_eq-law x y e }

primitives_alike : Alike (PrimitiveEq.ghosts).eq (PrimitiveHash.ghosts).hash_input
primitives_alike = search (hashing, rules)

items_alike : Alike (ItemEq.ghosts).eq item_writes
items_alike = record { fed = λ x y e. item_alike x y e }

cores_alike : Alike (CoreEq.ghosts).eq (CoreHash.ghosts).hash_input
cores_alike = record { fed = λ x y e. cores.respects_eq-law x y e }

options_alike : Alike (option_eq nat_eq) (fed.option fed.usize)
options_alike = search (hashing, rules)

number_alike : Alike (option_eq nat_eq) number_writes
number_alike = record { fed = number } where
  number : (x y : Option ℕ) → option_eq nat_eq x y ≡ true → number_writes x ≡ number_writes y
  number None None e = refl
  number None (Some b) e = cc e
  number (Some a) None e = cc e
  number (Some a) (Some b) e = ap fed.usize (eqb-true a b e)

entry_alike : {V : Type 0} {E : V → V → Bool} {w : V → HashWrites} → Alike E w → Alike (λ (x y : Bor (List ℕ) × V). pointwise nat_eq x.0.now y.0.now && E x.1 y.1) (entry_writes w)
entry_alike {V} {E} {w} a = and-Alike {F = λ (e : Bor (List ℕ) × V). fed.str e.0.now} (on_Alike (λ (e : Bor (List ℕ) × V). e.0.now) texts_alike) (on_Alike (λ (e : Bor (List ℕ) × V). e.1) a)

core_alike : Alike (λ (x y : String Global × Core). pointwise nat_eq (string_bytes x.0) (string_bytes y.0) && (CoreEq.ghosts).eq x.1 y.1) core_writes
core_alike = and-Alike {F = λ (e : String Global × Core). fed.str (string_bytes e.0)} (on_Alike (λ (e : String Global × Core). string_bytes e.0) texts_alike) (on_Alike (λ (e : String Global × Core). e.1) cores_alike)

names_alike : Alike (λ (x y : Bor (List ℕ)). pointwise nat_eq x.now y.now) (λ n. fed.str n.now)
names_alike = on_Alike (λ (n : Bor (List ℕ)). n.now) texts_alike

pub node_alike : (a b : Node) → (NodeEq.ghosts).eq a b ≡ true → node_writes a ≡ node_writes b
node_alike (node.Resource a) (node.Resource b) e = called_alike.fed a b e
node_alike (node.Primitive a) (node.Primitive b) e = primitives_alike.fed a b e
node_alike (node.Own a) (node.Own b) e = called_alike.fed a b e
node_alike (node.Borrow a) (node.Borrow b) e = called_alike.fed a b e
node_alike (node.Record a) (node.Record b) e = (items_Alike (entry_alike numbers_alike)).fed a.items b.items e
node_alike (node.Variant a) (node.Variant b) e = (items_Alike (entry_alike options_alike)).fed a.items b.items e
node_alike (node.List a) (node.List b) e = numbers_alike.fed a b e
node_alike (node.FixedSizeList a x) (node.FixedSizeList b y) e = numbers_alike.fed a b (first_so (nat_eq a b) (nat_eq x y) e)
node_alike (node.Tuple a) (node.Tuple b) e = (items_Alike numbers_alike).fed a.items b.items e
node_alike (node.Flags a) (node.Flags b) e = (items_Alike names_alike).fed a.items b.items e
node_alike (node.Enum a) (node.Enum b) e = (items_Alike names_alike).fed a.items b.items e
node_alike (node.Option a) (node.Option b) e = numbers_alike.fed a b e
node_alike (node.Result a x) (node.Result b y) e =
    let p = options_alike.fed a b (first_so (option_eq nat_eq a b) (option_eq nat_eq x y) e) in
    let q = options_alike.fed x y (second_so (option_eq nat_eq a b) (option_eq nat_eq x y) e) in
    λ i. p i ++ q i
node_alike (node.Stream a) (node.Stream b) e = number_alike.fed a b e
node_alike (node.Future a) (node.Future b) e = number_alike.fed a b e
node_alike (node.Func i a x) (node.Func j b y) e =
    let E : List (Bor (List ℕ) × ℕ) → List (Bor (List ℕ) × ℕ) → Bool = pointwise (λ (x y : Bor (List ℕ) × ℕ). pointwise nat_eq x.0.now y.0.now && nat_eq x.1 y.1) in
    let rest = second_so (beq i j) (E a.items b.items && option_eq nat_eq x y) e in
    let p = (items_Alike (entry_alike numbers_alike)).fed a.items b.items (first_so (E a.items b.items) (option_eq nat_eq x y) rest) in
    let q = number_alike.fed x y (second_so (E a.items b.items) (option_eq nat_eq x y) rest) in
    λ k. p k ++ q k
node_alike (node.Instance a) (node.Instance b) e = (items_Alike (entry_alike items_alike)).fed a.items b.items e
node_alike (node.Component i a) (node.Component j b) e =
    let E : List (Bor (List ℕ) × Item) → List (Bor (List ℕ) × Item) → Bool = pointwise (λ (x y : Bor (List ℕ) × Item). pointwise nat_eq x.0.now y.0.now && (ItemEq.ghosts).eq x.1 y.1) in
    let p = (items_Alike (entry_alike items_alike)).fed i.items j.items (first_so (E i.items j.items) (E a.items b.items) e) in
    let q = (items_Alike (entry_alike items_alike)).fed a.items b.items (second_so (E i.items j.items) (E a.items b.items) e) in
    λ k. p k ++ q k
node_alike (node.Module i a) (node.Module j b) e = (items_Alike core_alike).fed a.items b.items (second_so _ (pointwise _ a.items b.items) e)
node_alike _ _ e = cc e
