-- Codes of items and declarations: trees of numbers by which proofs compare them.
use Rattle.std.specs.Prelude.{◌≡◌, ℕ, List, Option}
use Rattle.std.proofs.Common.{ap, refl}
use Rattle.std.specs.Coded.{Coded, coded_ℕ, coded_bool, coded_list, coded_option, coded×, code_by}
use base.Stored.{Gv, gnil, gnum, gcons}
use Rattle.wac_types_shapes.specs.contracts.primitives.component.PrimitiveType as primitive_type
use Rattle.wac_types_shapes.specs.contracts.primitives.core_types.CoreType as core_value_type
use Rattle.wac_types_shapes.specs.declared.primitives.core_types.CoreType.{CoreType}
use Rattle.wac_types_shapes.specs.primitives.Name.{Name}
use Rattle.wac_binary.specs.contracts.core_types.EntityType as entity_type
use Rattle.wac_binary.specs.declared.sorts.Sort.{Sort}
use Rattle.wac_binary.specs.declared.types.ComponentValType.{ComponentValType}
use Rattle.wac_binary.specs.contracts.types.ComponentValType as value_type
use Rattle.wac_binary.specs.contracts.sorts.Sort as sort_form
use Rattle.wac_binary.specs.contracts.sorts.Description as description
use Rattle.wac_binary.specs.Items.{ValueDef, primitive_def, record_def, variant_def, list_def, fixed_list_def, tuple_def, flags_def, enum_def, option_def, result_def, own_def, borrow_def, stream_def, future_def, Alias, export_alias, outer_alias, TypeDef, value_def, func_def, component_def, instance_def, ModuleDecl, module_import, module_func, module_export, Decls, end, next, Decl, core_type_decl, type_decl, alias_decl, import_decl, export_decl, Item, custom, core_type, nested, instantiate, alias_item, type_item, import_item, export_item}

abbrev text_code : Coded (List ℕ)
text_code = coded_list coded_ℕ

abbrev texts_code : Coded (List Name)
texts_code = coded_list text_code

abbrev val_code : Coded ComponentValType
val_code = value_type.the_row.coded

abbrev vals_code : Coded (List ComponentValType)
vals_code = coded_list val_code

abbrev option_code : Coded (Option ComponentValType)
option_code = coded_option val_code

abbrev fields_code : Coded (List (Name × ComponentValType))
fields_code = coded_list (coded× text_code val_code)

abbrev cases_code : Coded (List (Name × Option ComponentValType))
cases_code = coded_list (coded× text_code option_code)

-- A triple is coded as nested pairs.
abbrev arguments_code : Coded (List (Name × Sort × ℕ))
arguments_code = coded_list (code_by (List ℕ × (Sort × ℕ)) (coded× text_code (coded× sort_form.the_row.coded coded_ℕ)) (λ x. (x.0, (x.1, x.2))) (λ x. (x.0, x.1.0, x.1.1)) (λ _. refl))

abbrev fst : Gv → Gv
fst gnil = gnil
fst (gnum n) = gnil
fst (gcons a b) = a

abbrev snd : Gv → Gv
snd gnil = gnil
snd (gnum n) = gnil
snd (gcons a b) = b

abbrev value_code : ValueDef → Gv
value_code (primitive_def t) = gcons (gnum 0) (primitive_type.the_row.coded.code t)
value_code (record_def fs) = gcons (gnum 1) (fields_code.code fs)
value_code (variant_def cs) = gcons (gnum 2) (cases_code.code cs)
value_code (list_def t) = gcons (gnum 3) (val_code.code t)
value_code (fixed_list_def t n) = gcons (gnum 4) (gcons (val_code.code t) (gnum n))
value_code (tuple_def ts) = gcons (gnum 5) (vals_code.code ts)
value_code (flags_def ns) = gcons (gnum 6) (texts_code.code ns)
value_code (enum_def ns) = gcons (gnum 7) (texts_code.code ns)
value_code (option_def t) = gcons (gnum 8) (val_code.code t)
value_code (result_def ok err) = gcons (gnum 9) (gcons (option_code.code ok) (option_code.code err))
value_code (own_def i) = gcons (gnum 10) (gnum i)
value_code (borrow_def i) = gcons (gnum 11) (gnum i)
value_code (stream_def t) = gcons (gnum 12) (option_code.code t)
value_code (future_def t) = gcons (gnum 13) (option_code.code t)

pub value_inj : (x y : ValueDef) → value_code x ≡ value_code y → x ≡ y
value_inj (primitive_def t) (primitive_def u) p = ap primitive_def (primitive_type.the_row.coded.inj t u (ap snd p))
value_inj (record_def t) (record_def u) p = ap record_def (fields_code.inj t u (ap snd p))
value_inj (variant_def t) (variant_def u) p = ap variant_def (cases_code.inj t u (ap snd p))
value_inj (list_def t) (list_def u) p = ap list_def (val_code.inj t u (ap snd p))
value_inj (fixed_list_def t n) (fixed_list_def u m) p = λ i. fixed_list_def (val_code.inj t u (ap (λ g. fst (snd g)) p) i) (coded_ℕ.inj n m (ap (λ g. snd (snd g)) p) i)
value_inj (tuple_def t) (tuple_def u) p = ap tuple_def (vals_code.inj t u (ap snd p))
value_inj (flags_def t) (flags_def u) p = ap flags_def (texts_code.inj t u (ap snd p))
value_inj (enum_def t) (enum_def u) p = ap enum_def (texts_code.inj t u (ap snd p))
value_inj (option_def t) (option_def u) p = ap option_def (val_code.inj t u (ap snd p))
value_inj (result_def t n) (result_def u m) p = λ i. result_def (option_code.inj t u (ap (λ g. fst (snd g)) p) i) (option_code.inj n m (ap (λ g. snd (snd g)) p) i)
value_inj (own_def t) (own_def u) p = ap own_def (coded_ℕ.inj t u (ap snd p))
value_inj (borrow_def t) (borrow_def u) p = ap borrow_def (coded_ℕ.inj t u (ap snd p))
value_inj (stream_def t) (stream_def u) p = ap stream_def (option_code.inj t u (ap snd p))
value_inj (future_def t) (future_def u) p = ap future_def (option_code.inj t u (ap snd p))
value_inj _ _ p = cc

abbrev alias_code : Alias → Gv
alias_code (export_alias t i n) = gcons (gnum 0) (gcons (sort_form.the_row.coded.code t) (gcons (gnum i) (text_code.code n)))
alias_code (outer_alias t k i) = gcons (gnum 1) (gcons (sort_form.the_row.coded.code t) (gcons (gnum k) (gnum i)))

pub alias_inj : (x y : Alias) → alias_code x ≡ alias_code y → x ≡ y
alias_inj (export_alias t i n) (export_alias u j m) p = λ k. export_alias (sort_form.the_row.coded.inj t u (ap (λ g. fst (snd g)) p) k) (coded_ℕ.inj i j (ap (λ g. fst (snd (snd g))) p) k) (text_code.inj n m (ap (λ g. snd (snd (snd g))) p) k)
alias_inj (outer_alias t i n) (outer_alias u j m) p = λ k. outer_alias (sort_form.the_row.coded.inj t u (ap (λ g. fst (snd g)) p) k) (coded_ℕ.inj i j (ap (λ g. fst (snd (snd g))) p) k) (coded_ℕ.inj n m (ap (λ g. snd (snd (snd g))) p) k)
alias_inj _ _ p = cc

abbrev core_vals_code : Coded (List CoreType)
core_vals_code = coded_list core_value_type.the_row.coded

abbrev module_decl_code : ModuleDecl → Gv
module_decl_code (module_import m n x) = gcons (gnum 0) (gcons (text_code.code m) (gcons (text_code.code n) (entity_type.the_row.coded.code x)))
module_decl_code (module_func ps rs) = gcons (gnum 1) (gcons (core_vals_code.code ps) (core_vals_code.code rs))
module_decl_code (module_export n x) = gcons (gnum 2) (gcons (text_code.code n) (entity_type.the_row.coded.code x))

pub module_decl_inj : (x y : ModuleDecl) → module_decl_code x ≡ module_decl_code y → x ≡ y
module_decl_inj (module_import m n x) (module_import o q y) p = λ i. module_import (text_code.inj m o (ap (λ g. fst (snd g)) p) i) (text_code.inj n q (ap (λ g. fst (snd (snd g))) p) i) (entity_type.the_row.coded.inj x y (ap (λ g. snd (snd (snd g))) p) i)
module_decl_inj (module_func m n) (module_func o q) p = λ i. module_func (core_vals_code.inj m o (ap (λ g. fst (snd g)) p) i) (core_vals_code.inj n q (ap (λ g. snd (snd g)) p) i)
module_decl_inj (module_export n x) (module_export q y) p = λ i. module_export (text_code.inj n q (ap (λ g. fst (snd g)) p) i) (entity_type.the_row.coded.inj x y (ap (λ g. snd (snd g)) p) i)
module_decl_inj _ _ p = cc

abbrev pub coded_module_decl : Coded ModuleDecl
coded_module_decl = record { code = module_decl_code; inj = module_decl_inj }

abbrev module_code : Coded (List ModuleDecl)
module_code = coded_list coded_module_decl

abbrev mutual
  type_code : TypeDef → Gv
  type_code (value_def t) = gcons (gnum 0) (value_code t)
  type_code (func_def a ps r) = gcons (gnum 1) (gcons (coded_bool.code a) (gcons (fields_code.code ps) (option_code.code r)))
  type_code (component_def ds) = gcons (gnum 2) (decls_code ds)
  type_code (instance_def ds) = gcons (gnum 3) (decls_code ds)

  decl_code : Decl → Gv
  decl_code (core_type_decl m) = gcons (gnum 4) (module_code.code m)
  decl_code (type_decl t) = gcons (gnum 0) (type_code t)
  decl_code (alias_decl a) = gcons (gnum 1) (alias_code a)
  decl_code (import_decl n d) = gcons (gnum 2) (gcons (text_code.code n) (description.the_row.coded.code d))
  decl_code (export_decl n d) = gcons (gnum 3) (gcons (text_code.code n) (description.the_row.coded.code d))

  decls_code : Decls → Gv
  decls_code end = gnil
  decls_code (next d ds) = gcons (decl_code d) (decls_code ds)

mutual
  pub type_inj : (x y : TypeDef) → type_code x ≡ type_code y → x ≡ y
  type_inj (value_def t) (value_def u) p = ap value_def (value_inj t u (ap snd p))
  type_inj (func_def a t n) (func_def b u m) p = λ i. func_def (coded_bool.inj a b (ap (λ g. fst (snd g)) p) i) (fields_code.inj t u (ap (λ g. fst (snd (snd g))) p) i) (option_code.inj n m (ap (λ g. snd (snd (snd g))) p) i)
  type_inj (component_def t) (component_def u) p = ap component_def (decls_inj t u (ap snd p))
  type_inj (instance_def t) (instance_def u) p = ap instance_def (decls_inj t u (ap snd p))
  type_inj _ _ p = cc

  pub decl_inj : (x y : Decl) → decl_code x ≡ decl_code y → x ≡ y
  decl_inj (core_type_decl t) (core_type_decl u) p = ap core_type_decl (module_code.inj t u (ap snd p))
  decl_inj (type_decl t) (type_decl u) p = ap type_decl (type_inj t u (ap snd p))
  decl_inj (alias_decl t) (alias_decl u) p = ap alias_decl (alias_inj t u (ap snd p))
  decl_inj (import_decl n t) (import_decl m u) p = λ i. import_decl (text_code.inj n m (ap (λ g. fst (snd g)) p) i) (description.the_row.coded.inj t u (ap (λ g. snd (snd g)) p) i)
  decl_inj (export_decl n t) (export_decl m u) p = λ i. export_decl (text_code.inj n m (ap (λ g. fst (snd g)) p) i) (description.the_row.coded.inj t u (ap (λ g. snd (snd g)) p) i)
  decl_inj _ _ p = cc

  pub decls_inj : (x y : Decls) → decls_code x ≡ decls_code y → x ≡ y
  decls_inj end end p = λ i. end
  decls_inj (next d ds) (next e es) p = λ i. next (decl_inj d e (ap fst p) i) (decls_inj ds es (ap snd p) i)
  decls_inj _ _ p = cc

abbrev pub coded_decl : Coded Decl
coded_decl = record { code = decl_code; inj = decl_inj }

abbrev item_code : Item → Gv
item_code (custom name bytes) = gcons (gnum 0) (gcons (text_code.code name) (text_code.code bytes))
item_code (core_type m) = gcons (gnum 7) (module_code.code m)
item_code (nested bytes) = gcons (gnum 1) (text_code.code bytes)
item_code (instantiate c args) = gcons (gnum 2) (gcons (gnum c) (arguments_code.code args))
item_code (alias_item x) = gcons (gnum 3) (alias_code x)
item_code (type_item t) = gcons (gnum 4) (type_code t)
item_code (import_item name d) = gcons (gnum 5) (gcons (text_code.code name) (description.the_row.coded.code d))
item_code (export_item name t i) = gcons (gnum 6) (gcons (text_code.code name) (gcons (sort_form.the_row.coded.code t) (gnum i)))

pub item_inj : (x y : Item) → item_code x ≡ item_code y → x ≡ y
item_inj (custom n b) (custom m c) p = λ i. custom (text_code.inj n m (ap (λ g. fst (snd g)) p) i) (text_code.inj b c (ap (λ g. snd (snd g)) p) i)
item_inj (core_type m) (core_type n) p = ap core_type (module_code.inj m n (ap snd p))
item_inj (nested m) (nested n) p = ap nested (text_code.inj m n (ap snd p))
item_inj (instantiate c x) (instantiate d y) p = λ i. instantiate (coded_ℕ.inj c d (ap (λ g. fst (snd g)) p) i) (arguments_code.inj x y (ap (λ g. snd (snd g)) p) i)
item_inj (alias_item m) (alias_item n) p = ap alias_item (alias_inj m n (ap snd p))
item_inj (type_item m) (type_item n) p = ap type_item (type_inj m n (ap snd p))
item_inj (import_item n d) (import_item m c) p = λ i. import_item (text_code.inj n m (ap (λ g. fst (snd g)) p) i) (description.the_row.coded.inj d c (ap (λ g. snd (snd g)) p) i)
item_inj (export_item n t j) (export_item m u k) p = λ i. export_item (text_code.inj n m (ap (λ g. fst (snd g)) p) i) (sort_form.the_row.coded.inj t u (ap (λ g. fst (snd (snd g))) p) i) (coded_ℕ.inj j k (ap (λ g. snd (snd (snd g))) p) i)
item_inj _ _ p = cc

abbrev pub coded_item : Coded Item
coded_item = record { code = item_code; inj = item_inj }
