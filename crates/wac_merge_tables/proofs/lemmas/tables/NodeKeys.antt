-- `==` tells nodes apart by what they stand for.
use Rattle.std.proofs.Common.{subst, Global, Vec, ◌≡◌, ℕ, Bool, true, false, ◌&&◌, nat_eq, List, map, Option, Some, None, refl, ap, eq-eqb, rules}
use Rattle.std.proofs.lemmas.Bool.{eqb-true, and_parts as both}
use Rattle.std.specs.Cmp.Lexicographic.{pointwise, pointwise_decides, bytes_decides}
use Rattle.std.specs.Bool.{beq}
use Rattle.std.specs.Option.{option_eq}
use Rattle.std.specs.Prelude.{string_bytes}
use denote.Enum.Bare.{same_true, true_same}
use Rattle.wac_types_shapes.specs.primitives.Name.{Name}
use Rattle.wac_types_shapes.specs.contracts.primitives.component.PrimitiveType.{the_type}
use Rattle.wac_merge_tables.specs.contracts.tables.nodes.CorePartialEq.TheImpl as CoreEq
use Rattle.wac_types_shapes.specs.contracts.primitives.core_types.CoreTypePartialEq.TheImpl as CoreTypeEq
use Rattle.wac_types_shapes.specs.contracts.primitives.core_types.CoreRefTypePartialEq.TheImpl as CoreRefEq
use Rattle.wac_types_shapes.specs.declared.primitives.core_types.CoreType.{CoreType}
use Rattle.wac_types_shapes.specs.declared.primitives.core_types.CoreType.TheVariants as core_type
use Rattle.wac_types_shapes.specs.declared.primitives.core_types.CoreRefType.{CoreRefType}
use Rattle.wac_types_shapes.specs.declared.primitives.core_types.CoreRefType.TheVariants.{FuncRef, ExternRef}
use Rattle.wac_types_shapes.specs.primitives.Core.{CoreItem, core_function, core_table, core_memory, core_global, core_tag}
use Rattle.wac_merge_tables.specs.declared.tables.nodes.Core.{Core}
use Rattle.wac_merge_tables.specs.declared.tables.nodes.Core.TheVariants as core
use Rattle.wac_merge_tables.specs.contracts.tables.nodes.ItemPartialEq.TheImpl as ItemEq
use Rattle.wac_merge_tables.specs.contracts.tables.nodes.NodePartialEq.TheImpl as NodeEq
use Rattle.wac_merge_tables.specs.declared.tables.nodes.Item.{Item}
use Rattle.wac_merge_tables.specs.declared.tables.nodes.Item.TheVariants as item
use Rattle.wac_merge_tables.specs.private.tables.Nodes.{type_of}
use Rattle.wac_merge_tables.specs.declared.tables.nodes.Node.{Node}
use Rattle.wac_merge_tables.specs.declared.tables.nodes.Node.TheVariants as node
use Rattle.wac_types_collection.specs.subtyping.CalledViews.{called_view}
use Rattle.wac_merge_tables.specs.private.tables.NodeViews.{named, item_view, listed, core_view, core_items, core_modules, node_view}
use Rattle.wac_merge_tables.specs.private.tables.Nodes as table
use Rattle.wac_types_collection.proofs.lemmas.subtyping.Telling.{Tells, and_true, list_same, list_itself, Text, text_eq, text_tells, Borrowed, bytes, borrowed_eq, borrowed_tells}
use Rattle.wac_merge_tables.proofs.lemmas.tables.CalledKeys.{called_tells}

number_tells : (x y : ℕ) → (nat_eq x y ≡ true → x ≡ y) × (x ≡ y → nat_eq x y ≡ true)
number_tells x y = (eqb-true x y, eq-eqb x y)

optional_tells : (x y : Option ℕ) → (option_eq nat_eq x y ≡ true → x ≡ y) × (x ≡ y → option_eq nat_eq x y ≡ true)
optional_tells None None = (λ _. refl, λ _. refl)
optional_tells None (Some b) = (λ e. cc e, λ e. cc e)
optional_tells (Some a) None = (λ e. cc e, λ e. cc e)
optional_tells (Some a) (Some b) = (λ e. ap Some (eqb-true a b e), λ e. eq-eqb a b (inner e)) where
  inner : Some a ≡ Some b → a ≡ b
  inner e = cc

-- entries are told apart by what tells their names and their values apart
abbrev entry_eq : {N V : Type 0} → (N → N → Bool) → (V → V → Bool) → N × V → N × V → Bool
entry_eq D E x y = D x.0 y.0 && E x.1 y.1

abbrev pair_view : {N V W : Type 0} → (N → Name) → (V → W) → N × V → Name × W
pair_view n v e = (n e.0, v e.1)

module _ {N V W : Type 0} (n : N → Name) (D : N → N → Bool) (s : Tells n D) (v : V → W) (E : V → V → Bool) (t : Tells v E) where
  pair_there : (x y : N × V) → entry_eq D E x y ≡ true → pair_view n v x ≡ pair_view n v y
  pair_there x y e = let (p, q) = both (D x.0 y.0) (E x.1 y.1) e in rw ((s x.0 y.0).0 p, (t x.1 y.1).0 q) refl

  pair_back : (x y : N × V) → pair_view n v x ≡ pair_view n v y → entry_eq D E x y ≡ true
  pair_back x y e = and_true (D x.0 y.0) (E x.1 y.1) ((s x.0 y.0).1 (ap (λ p. p.0) e)) ((t x.1 y.1).1 (ap (λ p. p.1) e))

  pair_tells : Tells (pair_view n v) (entry_eq D E)
  pair_tells x y = (pair_there x y, pair_back x y)

-- entries under names of their own
abbrev own_eq : {V : Type 0} → (V → V → Bool) → Text × V → Text × V → Bool
own_eq E = entry_eq text_eq E

abbrev own_view : {V W : Type 0} → (V → W) → Text × V → Name × W
own_view v = pair_view string_bytes v

own_tells : {V W : Type 0} (v : V → W) (E : V → V → Bool) → Tells v E → Tells (own_view v) (own_eq E)
own_tells v E t = pair_tells string_bytes text_eq text_tells v E t

-- entries under names that stand elsewhere
abbrev field_eq : {V : Type 0} → (V → V → Bool) → Borrowed × V → Borrowed × V → Bool
field_eq E = entry_eq borrowed_eq E

abbrev field_view : {V W : Type 0} → (V → W) → Borrowed × V → Name × W
field_view v = pair_view bytes v

field_tells : {V W : Type 0} (v : V → W) (E : V → V → Bool) → Tells v E → Tells (field_view v) (field_eq E)
field_tells v E t = pair_tells bytes borrowed_eq borrowed_tells v E t

entry_tells : {V : Type 0} (E : V → V → Bool) → ((x y : V) → (E x y ≡ true → x ≡ y) × (x ≡ y → E x y ≡ true)) → Tells (field_view (λ (v : V). v)) (field_eq E)
entry_tells E t = field_tells (λ v. v) E t

item_tells : Tells item_view (ItemEq.ghosts).eq
item_tells x y = (there x y, back x y) where
  there : (x y : Item) → (ItemEq.ghosts).eq x y ≡ true → item_view x ≡ item_view y
  there (item.«Type» a) (item.«Type» b) e = ap table.a_type (eqb-true a b e)
  there (item.Func a) (item.Func b) e = ap table.a_func (eqb-true a b e)
  there (item.Instance a) (item.Instance b) e = ap table.an_instance (eqb-true a b e)
  there (item.Component a) (item.Component b) e = ap table.a_component (eqb-true a b e)
  there (item.Module a) (item.Module b) e = ap table.a_module (eqb-true a b e)
  there (item.Value a) (item.Value b) e = ap table.a_value (eqb-true a b e)
  there _ _ e = cc e

  back : (x y : Item) → item_view x ≡ item_view y → (ItemEq.ghosts).eq x y ≡ true
  back (item.«Type» a) (item.«Type» b) e = eq-eqb a b (ap type_of e)
  back (item.Func a) (item.Func b) e = eq-eqb a b (ap type_of e)
  back (item.Instance a) (item.Instance b) e = eq-eqb a b (ap type_of e)
  back (item.Component a) (item.Component b) e = eq-eqb a b (ap type_of e)
  back (item.Module a) (item.Module b) e = eq-eqb a b (ap type_of e)
  back (item.Value a) (item.Value b) e = eq-eqb a b (ap type_of e)
  back _ _ e = cc e

listed_tells : Tells (field_view item_view) (field_eq (ItemEq.ghosts).eq)
listed_tells = field_tells item_view (ItemEq.ghosts).eq item_tells

core_type_same : (a b : CoreType) → (CoreTypeEq.ghosts).eq a b ≡ true → a ≡ b
core_type_same core_type.I32 core_type.I32 e = refl
core_type_same core_type.I64 core_type.I64 e = refl
core_type_same core_type.F32 core_type.F32 e = refl
core_type_same core_type.F64 core_type.F64 e = refl
core_type_same core_type.V128 core_type.V128 e = refl
core_type_same (core_type.Ref FuncRef) (core_type.Ref FuncRef) e = refl
core_type_same (core_type.Ref ExternRef) (core_type.Ref ExternRef) e = refl
core_type_same _ _ e = cc e

core_type_itself : (a : CoreType) → (CoreTypeEq.ghosts).eq a a ≡ true
core_type_itself core_type.I32 = refl
core_type_itself core_type.I64 = refl
core_type_itself core_type.F32 = refl
core_type_itself core_type.F64 = refl
core_type_itself core_type.V128 = refl
core_type_itself (core_type.Ref FuncRef) = refl
core_type_itself (core_type.Ref ExternRef) = refl

core_type_tells : (a b : CoreType) → ((CoreTypeEq.ghosts).eq a b ≡ true → a ≡ b) × (a ≡ b → (CoreTypeEq.ghosts).eq a b ≡ true)
core_type_tells a b = (core_type_same a b, λ e. subst (λ z. (CoreTypeEq.ghosts).eq a z ≡ true) e (core_type_itself a))

core_lists : (xs ys : List CoreType) → (pointwise (CoreTypeEq.ghosts).eq xs ys ≡ true → xs ≡ ys) × (xs ≡ ys → pointwise (CoreTypeEq.ghosts).eq xs ys ≡ true)
core_lists = pointwise_decides core_type_tells

reference_tells : (a b : CoreRefType) → ((CoreRefEq.ghosts).eq a b ≡ true → a ≡ b) × (a ≡ b → (CoreRefEq.ghosts).eq a b ≡ true)
reference_tells FuncRef FuncRef = (λ e. refl, λ e. refl)
reference_tells ExternRef ExternRef = (λ e. refl, λ e. refl)
reference_tells FuncRef ExternRef = (λ e. cc e, λ e. cc e)
reference_tells ExternRef FuncRef = (λ e. cc e, λ e. cc e)

same_flag : (a b : Bool) → beq a b ≡ true → a ≡ b
same_flag true true e = refl
same_flag true false e = cc e
same_flag false true e = cc e
same_flag false false e = refl

flag_itself : (a : Bool) → beq a a ≡ true
flag_itself true = refl
flag_itself false = refl

flag_tells : (a b : Bool) → (beq a b ≡ true → a ≡ b) × (a ≡ b → beq a b ≡ true)
flag_tells a b = (same_flag a b, λ e. subst (λ z. beq a z ≡ true) e (flag_itself a))

core_there : (x y : Core) → (CoreEq.ghosts).eq x y ≡ true → core_view x ≡ core_view y
core_there (core.Func a b) (core.Func c d) e = let (p, q) = both (pointwise (CoreTypeEq.ghosts).eq a.items c.items) _ e in rw ((core_lists a.items c.items).0 p, (core_lists b.items d.items).0 q) refl
core_there (core.Tag a b) (core.Tag c d) e = let (p, q) = both (pointwise (CoreTypeEq.ghosts).eq a.items c.items) _ e in rw ((core_lists a.items c.items).0 p, (core_lists b.items d.items).0 q) refl
core_there (core.Global a b c) (core.Global x y z) e =
    let (p, r) = both ((CoreTypeEq.ghosts).eq a x) _ e in let (q, s) = both (beq b y) _ r in
    rw ((core_type_tells a x).0 p, same_flag b y q, same_flag c z s) refl
core_there (core.Table a b c l m) (core.Table x y z n o) e =
    let (p, r) = both ((CoreRefEq.ghosts).eq a x) _ e in let (q, s) = both (beq b y) _ r in let (u, v) = both (beq c z) _ s in let (w, h) = both (nat_eq l n) _ v in
    rw ((reference_tells a x).0 p, same_flag b y q, same_flag c z u, eqb-true l n w, (optional_tells m o).0 h) refl
core_there (core.Memory b c l m k) (core.Memory y z n o j) e =
    let (q, s) = both (beq b y) _ e in let (u, v) = both (beq c z) _ s in let (w, h) = both (nat_eq l n) _ v in let (f, g) = both (option_eq nat_eq m o) _ h in
    rw (same_flag b y q, same_flag c z u, eqb-true l n w, (optional_tells m o).0 f, (optional_tells k j).0 g) refl
core_there _ _ e = cc e

core_back : (x y : Core) → core_view x ≡ core_view y → (CoreEq.ghosts).eq x y ≡ true
core_back (core.Func a b) (core.Func c d) e = and_true _ _ ((core_lists a.items c.items).1 (first e)) ((core_lists b.items d.items).1 (second e)) where
  first : core_function a.items b.items ≡ core_function c.items d.items → a.items ≡ c.items
  first e = cc

  second : core_function a.items b.items ≡ core_function c.items d.items → b.items ≡ d.items
  second e = cc
core_back (core.Tag a b) (core.Tag c d) e = and_true _ _ ((core_lists a.items c.items).1 (first e)) ((core_lists b.items d.items).1 (second e)) where
  first : core_tag a.items b.items ≡ core_tag c.items d.items → a.items ≡ c.items
  first e = cc

  second : core_tag a.items b.items ≡ core_tag c.items d.items → b.items ≡ d.items
  second e = cc
core_back (core.Global a b c) (core.Global x y z) e = and_true _ _ ((core_type_tells a x).1 (first e)) (and_true _ _ ((flag_tells b y).1 (second e)) ((flag_tells c z).1 (third e))) where
  first : core_global a b c ≡ core_global x y z → a ≡ x
  first e = cc

  second : core_global a b c ≡ core_global x y z → b ≡ y
  second e = cc

  third : core_global a b c ≡ core_global x y z → c ≡ z
  third e = cc
core_back (core.Table a b c l m) (core.Table x y z n o) e =
    and_true _ _ ((reference_tells a x).1 (first e)) (and_true _ _ ((flag_tells b y).1 (second e)) (and_true _ _ ((flag_tells c z).1 (third e)) (and_true _ _ (eq-eqb l n (fourth e)) ((optional_tells m o).1 (fifth e))))) where
      first : core_table a b c l m ≡ core_table x y z n o → a ≡ x
      first e = cc

      second : core_table a b c l m ≡ core_table x y z n o → b ≡ y
      second e = cc

      third : core_table a b c l m ≡ core_table x y z n o → c ≡ z
      third e = cc

      fourth : core_table a b c l m ≡ core_table x y z n o → l ≡ n
      fourth e = cc

      fifth : core_table a b c l m ≡ core_table x y z n o → m ≡ o
      fifth e = cc
core_back (core.Memory b c l m k) (core.Memory y z n o j) e =
    and_true _ _ ((flag_tells b y).1 (second e)) (and_true _ _ ((flag_tells c z).1 (third e)) (and_true _ _ (eq-eqb l n (fourth e)) (and_true _ _ ((optional_tells m o).1 (fifth e)) ((optional_tells k j).1 (sixth e))))) where
      second : core_memory b c l m k ≡ core_memory y z n o j → b ≡ y
      second e = cc

      third : core_memory b c l m k ≡ core_memory y z n o j → c ≡ z
      third e = cc

      fourth : core_memory b c l m k ≡ core_memory y z n o j → l ≡ n
      fourth e = cc

      fifth : core_memory b c l m k ≡ core_memory y z n o j → m ≡ o
      fifth e = cc

      sixth : core_memory b c l m k ≡ core_memory y z n o j → k ≡ j
      sixth e = cc
core_back _ _ e = cc e

core_tells : Tells core_view (CoreEq.ghosts).eq
core_tells x y = (core_there x y, core_back x y)

abbrev cores_eq : Vec (Text × Core) Global → Vec (Text × Core) Global → Bool
cores_eq x y = pointwise (own_eq (CoreEq.ghosts).eq) x.items y.items

cores_tell : Tells (λ (x : Vec (Text × Core) Global). core_items x.items) cores_eq
cores_tell x y = (list_same (own_view core_view) (own_eq (CoreEq.ghosts).eq) (own_tells core_view (CoreEq.ghosts).eq core_tells) x.items y.items, list_itself (own_view core_view) (own_eq (CoreEq.ghosts).eq) (own_tells core_view (CoreEq.ghosts).eq core_tells) x.items y.items)

abbrev module_entry : Text × Vec (Text × Core) Global → Name × List (Name × CoreItem)
module_entry e = (string_bytes e.0, core_items e.1.items)

modules_tell : Tells module_entry (own_eq cores_eq)
modules_tell = own_tells (λ (x : Vec (Text × Core) Global). core_items x.items) cores_eq cores_tell

pub same_node : (a b : Node) → (NodeEq.ghosts).eq a b ≡ true → node_view a ≡ node_view b
same_node (node.Resource a) (node.Resource b) e = ap table.of_resource ((called_tells a b).0 e)
same_node (node.Primitive a) (node.Primitive b) e = ap table.of_primitive (same_true the_type (search rules) a b e)
same_node (node.Own a) (node.Own b) e = ap table.of_own ((called_tells a b).0 e)
same_node (node.Borrow a) (node.Borrow b) e = ap table.of_borrow ((called_tells a b).0 e)
same_node (node.Record a) (node.Record b) e = ap table.of_record (list_same (field_view (λ v. v)) (field_eq nat_eq) (entry_tells nat_eq number_tells) a.items b.items e)
same_node (node.Variant a) (node.Variant b) e = ap table.of_variant (list_same (field_view (λ v. v)) (field_eq (option_eq nat_eq)) (entry_tells (option_eq nat_eq) optional_tells) a.items b.items e)
same_node (node.List a) (node.List b) e = ap table.of_list (eqb-true a b e)
same_node (node.FixedSizeList a x) (node.FixedSizeList b y) e = let (p, q) = both (nat_eq a b) (nat_eq x y) e in rw (eqb-true a b p, eqb-true x y q) refl
same_node (node.Tuple a) (node.Tuple b) e = ap table.of_tuple ((bytes_decides a.items b.items).0 e)
same_node (node.Flags a) (node.Flags b) e = ap table.of_flags (list_same bytes borrowed_eq borrowed_tells a.items b.items e)
same_node (node.Enum a) (node.Enum b) e = ap table.of_enum (list_same bytes borrowed_eq borrowed_tells a.items b.items e)
same_node (node.Option a) (node.Option b) e = ap table.of_option (eqb-true a b e)
same_node (node.Result a x) (node.Result b y) e = let (p, q) = both (option_eq nat_eq a b) (option_eq nat_eq x y) e in rw ((optional_tells a b).0 p, (optional_tells x y).0 q) refl
same_node (node.Stream a) (node.Stream b) e = ap table.of_stream ((optional_tells a b).0 e)
same_node (node.Future a) (node.Future b) e = ap table.of_future ((optional_tells a b).0 e)
same_node (node.Func i a x) (node.Func j b y) e =
    let (p, rest) = both (beq i j) _ e in
    let (q, r) = both (pointwise (field_eq nat_eq) a.items b.items) (option_eq nat_eq x y) rest in
    rw (same_flag i j p, list_same (field_view (λ v. v)) (field_eq nat_eq) (entry_tells nat_eq number_tells) a.items b.items q, (optional_tells x y).0 r) refl
same_node (node.Instance a) (node.Instance b) e = ap table.of_instance (list_same (field_view item_view) (field_eq (ItemEq.ghosts).eq) listed_tells a.items b.items e)
same_node (node.Component i a) (node.Component j b) e =
    let (p, q) = both (pointwise (field_eq (ItemEq.ghosts).eq) i.items j.items) (pointwise (field_eq (ItemEq.ghosts).eq) a.items b.items) e in
    rw (list_same (field_view item_view) (field_eq (ItemEq.ghosts).eq) listed_tells i.items j.items p, list_same (field_view item_view) (field_eq (ItemEq.ghosts).eq) listed_tells a.items b.items q) refl
same_node (node.Module i a) (node.Module j b) e =
    let (p, q) = both (pointwise (own_eq cores_eq) i.items j.items) _ e in
    rw (list_same module_entry (own_eq cores_eq) modules_tell i.items j.items p, (cores_tell a b).0 q) refl
same_node _ _ e = cc e

pub node_itself : (a b : Node) → node_view a ≡ node_view b → (NodeEq.ghosts).eq a b ≡ true
node_itself (node.Resource a) (node.Resource b) e = (called_tells a b).1 (inner e) where
  inner : table.of_resource (called_view a) ≡ table.of_resource (called_view b) → called_view a ≡ called_view b
  inner e = cc
node_itself (node.Primitive a) (node.Primitive b) e = true_same the_type a b (inner e) where
  inner : table.of_primitive a ≡ table.of_primitive b → a ≡ b
  inner e = cc
node_itself (node.Own a) (node.Own b) e = (called_tells a b).1 (inner e) where
  inner : table.of_own (called_view a) ≡ table.of_own (called_view b) → called_view a ≡ called_view b
  inner e = cc
node_itself (node.Borrow a) (node.Borrow b) e = (called_tells a b).1 (inner e) where
  inner : table.of_borrow (called_view a) ≡ table.of_borrow (called_view b) → called_view a ≡ called_view b
  inner e = cc
node_itself (node.Record a) (node.Record b) e = list_itself (field_view (λ v. v)) (field_eq nat_eq) (entry_tells nat_eq number_tells) a.items b.items (inner e) where
  inner : table.of_record (named a.items) ≡ table.of_record (named b.items) → named a.items ≡ named b.items
  inner e = cc
node_itself (node.Variant a) (node.Variant b) e = list_itself (field_view (λ v. v)) (field_eq (option_eq nat_eq)) (entry_tells (option_eq nat_eq) optional_tells) a.items b.items (inner e) where
  inner : table.of_variant (named a.items) ≡ table.of_variant (named b.items) → named a.items ≡ named b.items
  inner e = cc
node_itself (node.List a) (node.List b) e = eq-eqb a b (inner e) where
  inner : table.of_list a ≡ table.of_list b → a ≡ b
  inner e = cc
node_itself (node.FixedSizeList a x) (node.FixedSizeList b y) e = and_true (nat_eq a b) (nat_eq x y) (eq-eqb a b (inner e)) (eq-eqb x y (count e)) where
  inner : table.of_fixed_list x a ≡ table.of_fixed_list y b → a ≡ b
  inner e = cc

  count : table.of_fixed_list x a ≡ table.of_fixed_list y b → x ≡ y
  count e = cc
node_itself (node.Tuple a) (node.Tuple b) e = (bytes_decides a.items b.items).1 (inner e) where
  inner : table.of_tuple a.items ≡ table.of_tuple b.items → a.items ≡ b.items
  inner e = cc
node_itself (node.Flags a) (node.Flags b) e = list_itself bytes borrowed_eq borrowed_tells a.items b.items (inner e) where
  inner : table.of_flags (map bytes a.items) ≡ table.of_flags (map bytes b.items) → map bytes a.items ≡ map bytes b.items
  inner e = cc
node_itself (node.Enum a) (node.Enum b) e = list_itself bytes borrowed_eq borrowed_tells a.items b.items (inner e) where
  inner : table.of_enum (map bytes a.items) ≡ table.of_enum (map bytes b.items) → map bytes a.items ≡ map bytes b.items
  inner e = cc
node_itself (node.Option a) (node.Option b) e = eq-eqb a b (inner e) where
  inner : table.of_option a ≡ table.of_option b → a ≡ b
  inner e = cc
node_itself (node.Result a x) (node.Result b y) e = and_true (option_eq nat_eq a b) (option_eq nat_eq x y) ((optional_tells a b).1 (oks e)) ((optional_tells x y).1 (errs e)) where
  oks : table.of_result a x ≡ table.of_result b y → a ≡ b
  oks e = cc

  errs : table.of_result a x ≡ table.of_result b y → x ≡ y
  errs e = cc
node_itself (node.Stream a) (node.Stream b) e = (optional_tells a b).1 (inner e) where
  inner : table.of_stream a ≡ table.of_stream b → a ≡ b
  inner e = cc
node_itself (node.Future a) (node.Future b) e = (optional_tells a b).1 (inner e) where
  inner : table.of_future a ≡ table.of_future b → a ≡ b
  inner e = cc
node_itself (node.Func i a x) (node.Func j b y) e =
    and_true (beq i j) _ (flags i j (sorts e)) (and_true (pointwise (field_eq nat_eq) a.items b.items) (option_eq nat_eq x y)
    (list_itself (field_view (λ v. v)) (field_eq nat_eq) (entry_tells nat_eq number_tells) a.items b.items (names e)) ((optional_tells x y).1 (results e))) where
      sorts : table.of_function i (named a.items) x ≡ table.of_function j (named b.items) y → i ≡ j
      sorts e = cc

      names : table.of_function i (named a.items) x ≡ table.of_function j (named b.items) y → named a.items ≡ named b.items
      names e = cc

      results : table.of_function i (named a.items) x ≡ table.of_function j (named b.items) y → x ≡ y
      results e = cc

      flags : (i j : Bool) → i ≡ j → beq i j ≡ true
      flags true true e = refl
      flags true false e = cc
      flags false true e = cc
      flags false false e = refl
node_itself (node.Instance a) (node.Instance b) e = list_itself (field_view item_view) (field_eq (ItemEq.ghosts).eq) listed_tells a.items b.items (inner e) where
  inner : table.of_instance (listed a.items) ≡ table.of_instance (listed b.items) → listed a.items ≡ listed b.items
  inner e = cc
node_itself (node.Component i a) (node.Component j b) e =
    and_true (pointwise (field_eq (ItemEq.ghosts).eq) i.items j.items) (pointwise (field_eq (ItemEq.ghosts).eq) a.items b.items)
    (list_itself (field_view item_view) (field_eq (ItemEq.ghosts).eq) listed_tells i.items j.items (first e)) (list_itself (field_view item_view) (field_eq (ItemEq.ghosts).eq) listed_tells a.items b.items (second e)) where
      first : table.of_component (listed i.items) (listed a.items) ≡ table.of_component (listed j.items) (listed b.items) → listed i.items ≡ listed j.items
      first e = cc

      second : table.of_component (listed i.items) (listed a.items) ≡ table.of_component (listed j.items) (listed b.items) → listed a.items ≡ listed b.items
      second e = cc
node_itself (node.Module i a) (node.Module j b) e =
    and_true (pointwise (own_eq cores_eq) i.items j.items) (cores_eq a b) (list_itself module_entry (own_eq cores_eq) modules_tell i.items j.items (first e)) ((cores_tell a b).1 (second e)) where
      first : table.of_module (core_modules i.items) (core_items a.items) ≡ table.of_module (core_modules j.items) (core_items b.items) → core_modules i.items ≡ core_modules j.items
      first e = cc

      second : table.of_module (core_modules i.items) (core_items a.items) ≡ table.of_module (core_modules j.items) (core_items b.items) → core_items a.items ≡ core_items b.items
      second e = cc
node_itself _ _ e = cc e
