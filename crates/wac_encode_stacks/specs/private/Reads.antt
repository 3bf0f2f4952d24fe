-- How content is read: what an appended item or declaration adds, and that growth of enclosing scopes changes nothing.
use Rattle.std.specs.Prelude.{◌≡◌, List, [], ◌∷◌, ◌++◌, length, Some}
use Rattle.wac_binary.specs.declared.sorts.Sort.{Sort}
use Rattle.wac_binary.specs.declared.sorts.Sort.TheVariants as s
use Rattle.wac_binary.specs.Items.{Decl, Decls, decls, Item}
use Rattle.wac_binary.specs.Indexes.{space, core_types, sort_added, indexes, declared}
use Rattle.wac_binary.specs.Unfold.{Scope, empty, after, with_decl}
use Rattle.wac_binary.specs.Meaning.{things, stands_for, thing_added, read, meaning}
use Rattle.wac_binary.specs.Added.{imports_added}
use Rattle.wac_binary.specs.Growth.{Grows, AllGrow, Reach}
use Rattle.wac_binary.specs.HasMeaning.{HasMeaning, ItemHasMeaning, DeclsHaveMeaning, DeclHasMeaning}

-- The laws of items and declarations that proofs about scopes use.
pub record Reads : Type 0 where
  -- An appended item, and an appended declaration.
  pub item_after : (items : List Item) (x : Item) → meaning (items ++ x ∷ []) ≡ read (meaning items) x
  pub item_meant : (items : List Item) (x : Item) → HasMeaning items → ItemHasMeaning (meaning items) x → HasMeaning (items ++ x ∷ [])
  pub decl_after : (ds : List Decl) (d : Decl) (out : List Scope) → after (decls (ds ++ d ∷ [])) empty out ≡ with_decl d (after (decls ds) empty out) out
  pub decl_meant : (ds : List Decl) (d : Decl) (out : List Scope) → DeclsHaveMeaning (decls ds) empty out → DeclHasMeaning d (after (decls ds) empty out) out → DeclsHaveMeaning (decls (ds ++ d ∷ [])) empty out
  -- Enclosing scopes that only grew.
  pub reach : (ds : Decls) (out : List Scope) → DeclsHaveMeaning ds empty out → Reach ds empty out
  pub around : (ds : Decls) (out new : List Scope) → AllGrow out new → Reach ds empty out → after ds empty new ≡ after ds empty out
  pub still_meant : (ds : Decls) (out new : List Scope) → AllGrow out new → DeclsHaveMeaning ds empty out → DeclsHaveMeaning ds empty new
  -- Items that are appended to the root.
  pub root_grows : (items more : List Item) → Grows (meaning items).scope (meaning (items ++ more)).scope
  pub root_imports : (items more : List Item) → (meaning (items ++ more)).scope.imports ≡ (meaning items).scope.imports
  pub root_exports : (items more : List Item) → (meaning (items ++ more)).scope.exports ≡ (meaning items).scope.exports
  -- The imports after an appended item, and what the index that it adds refers to.
  pub imports_after : (items : List Item) (x : Item) → (meaning (items ++ x ∷ [])).imports ≡ (meaning items).imports ++ imports_added (meaning items) x
  pub thing_new : (items : List Item) (x : Item) (t : Sort) → sort_added x ≡ Some t → stands_for (meaning (items ++ x ∷ [])) t (indexes (space t) items) ≡ thing_added (meaning items) x
  -- Each index refers to something: the lists are as long as their index spaces.
  pub things_counted : (items : List Item) (t : Sort) → length (things (meaning items) t) ≡ indexes (space t) items
  pub types_counted : (items : List Item) → length (meaning items).scope.types ≡ indexes (space s.Type) items
  pub instances_counted : (items : List Item) → length (meaning items).scope.instances ≡ indexes (space s.Instance) items
  pub core_types_counted : (items : List Item) → length (meaning items).scope.core_types ≡ indexes core_types items
  pub types_declared : (ds : List Decl) (out : List Scope) → length (after (decls ds) empty out).types ≡ declared (space s.Type) ds
  pub instances_declared : (ds : List Decl) (out : List Scope) → length (after (decls ds) empty out).instances ≡ declared (space s.Instance) ds
  pub core_types_declared : (ds : List Decl) (out : List Scope) → length (after (decls ds) empty out).core_types ≡ declared core_types ds
