-- What one more item adds to what items mean.
use Rattle.std.proofs.Common.{◌≡◌, ℕ, zero, suc, ◌+◌, ◌<◌, Bool, true, false, cond, T, if◌then◌else◌, List, [], ◌∷◌, ◌++◌, length, map, refl, ap, ◌∙◌, sym, arith, Some}
use Rattle.wac_types_shapes.specs.primitives.Name.{Name}
use Rattle.wac_types_shapes.specs.primitives.Tree.{Tree}
use Rattle.wac_binary.specs.declared.sorts.Sort.{Sort}
use Rattle.wac_binary.specs.declared.sorts.Sort.TheVariants as sort
use Rattle.wac_binary.specs.Items.{Item, custom, nested, instantiate, alias_item, export_alias, export_item}
use Rattle.wac_binary.specs.Indexes.{space, indexes, is_in, adds}
use Rattle.wac_binary.specs.Unfold.{Scope, Bound, unbound, aliased_instance, with_alias, bound_at, type_at}
use Rattle.wac_binary.specs.Meaning.{Thing, nothing, instance_at, component_at, projected, may_export, aliased_thing, Root, Instantiation, Export, start, things, thing_at, stands_for, with_thing, read, read_all, meaning}
use Rattle.wac_binary.specs.HasMeaning.{HasExport}
use Rattle.std.proofs.lemmas.List.{map-append}
use Rattle.wac_edges.proofs.WrittenOrder.{eqb_same}
use Rattle.wac_graph_model.specs.meaning.Means.{shown}

read_all-append : (r : Root) (items : List Item) (x : Item) → read_all r (items ++ x ∷ []) ≡ read (read_all r items) x
read_all-append r [] x = refl
read_all-append r (y ∷ items) x = read_all-append (read r y) items x

-- the laws of items, as they are passed
pub record Laws : Type 0 where
  pub counted : (items : List Item) (t : Sort) → length (things (meaning items) t) ≡ indexes (space t) items
  pub earlier : (items more : List Item) (t : Sort) (i : ℕ) → i < indexes (space t) items → stands_for (meaning (items ++ more)) t i ≡ stands_for (meaning items) t i
  pub bounds_counted : (items : List Item) → length (meaning items).scope.instances ≡ indexes (space sort.Instance) items
  pub bounds_earlier : (items more : List Item) (i : ℕ) → i < indexes (space sort.Instance) items → bound_at (meaning (items ++ more)).scope.instances i ≡ bound_at (meaning items).scope.instances i
  pub types_counted : (items : List Item) → length (meaning items).scope.types ≡ indexes (space sort.«Type») items
  pub types_earlier : (items more : List Item) (i : ℕ) → i < indexes (space sort.«Type») items → type_at (meaning (items ++ more)).scope.types i ≡ type_at (meaning items).scope.types i

-- one more item
pub meaning-push : (items : List Item) (x : Item) → meaning (items ++ x ∷ []) ≡ read (meaning items) x
meaning-push items x = read_all-append start items x

-- all but what indexes stand for
pub record Rest : Type 0 where
  pub imports : List (Name × Tree)
  pub nested_bytes : List (List ℕ)
  pub instantiations : List Instantiation
  pub exports : List Export
  pub customs : List (Name × List ℕ)

abbrev pub rest : Root → Rest
rest r = record { imports = r.imports; nested_bytes = r.nested_bytes; instantiations = r.instantiations; exports = r.exports; customs = r.customs }

pub rest-with_thing : (r : Root) (t : Sort) (x : Thing) → rest (with_thing r t x) ≡ rest r
rest-with_thing r sort.CoreModule x = refl
rest-with_thing r sort.Func x = refl
rest-with_thing r sort.Value x = refl
rest-with_thing r sort.«Type» x = refl
rest-with_thing r sort.Component x = refl
rest-with_thing r sort.Instance x = refl

pub things-with_thing : (r : Root) (t : Sort) (x : Thing) → things (with_thing r t x) t ≡ things r t ++ x ∷ []
things-with_thing r sort.CoreModule x = refl
things-with_thing r sort.Func x = refl
things-with_thing r sort.Value x = refl
things-with_thing r sort.«Type» x = refl
things-with_thing r sort.Component x = refl
things-with_thing r sort.Instance x = refl

pub things-scope : (r : Root) (c : Scope) (t : Sort) → things (record r { scope = c }) t ≡ things r t
things-scope r c sort.CoreModule = refl
things-scope r c sort.Func = refl
things-scope r c sort.Value = refl
things-scope r c sort.«Type» = refl
things-scope r c sort.Component = refl
things-scope r c sort.Instance = refl

pub thing_at-last : (ts : List Thing) (t : Thing) → thing_at (ts ++ t ∷ []) (length ts) ≡ t
thing_at-last [] t = refl
thing_at-last (s ∷ ts) t = thing_at-last ts t

pub thing_at-before : (ts : List Thing) (t : Thing) (i : ℕ) → i < length ts → thing_at (ts ++ t ∷ []) i ≡ thing_at ts i
thing_at-before [] t i h = absurd (omega arith)
thing_at-before (s ∷ ts) t zero h = refl
thing_at-before (s ∷ ts) t (suc i) h = thing_at-before ts t i (omega arith)

-- an alias of an export that the instance may have stands for it
pub aliased_is : (b : Bound) (t : Sort) (x : Thing) (name : Name) → HasExport t b.type name → aliased_thing b t x name ≡ projected x name
aliased_is b t x name has = passed (may_export t b.type name) has where
  passed : (may : Bool) → T may → (if may then projected x name else nothing) ≡ projected x name
  passed true h = refl
  passed false h = absurd h

-- the index that an alias adds stands for the export
pub alias_stands : (items : List Item) (t : Sort) (c : ℕ) (name : Name) (i : ℕ) → i ≡ length (things (meaning items) t) → HasExport t (bound_at (meaning items).scope.instances c).type name
    → stands_for (meaning (items ++ alias_item (export_alias t c name) ∷ [])) t i ≡ projected (stands_for (meaning items) sort.Instance c) name
alias_stands items t c name i is has =
    let b : Bound = bound_at (meaning items).scope.instances c in
    let x : Thing = aliased_thing b t (stands_for (meaning items) sort.Instance c) name in
    ap (λ r. stands_for r t i) (meaning-push items (alias_item (export_alias t c name)))
    ∙ ap (λ ts. thing_at ts i) (things-with_thing _ t x ∙ ap (λ ts. ts ++ x ∷ []) (things-scope (meaning items) (with_alias (meaning items).scope t b name) t))
    ∙ ap (thing_at (things (meaning items) t ++ x ∷ [])) is
    ∙ thing_at-last (things (meaning items) t) x
    ∙ aliased_is b t (stands_for (meaning items) sort.Instance c) name has

-- an alias adds to nothing else
pub alias_rest : (items : List Item) (t : Sort) (c : ℕ) (name : Name) → rest (meaning (items ++ alias_item (export_alias t c name) ∷ [])) ≡ rest (meaning items)
alias_rest items t c name = ap rest (meaning-push items (alias_item (export_alias t c name))) ∙ rest-with_thing _ t _

-- what an export adds
pub export_shown : (items : List Item) (t : Sort) (i : ℕ) (name : Name) → map shown (meaning (items ++ export_item name t i ∷ [])).exports ≡ map shown (meaning items).exports ++ (name, t, stands_for (meaning items) t i) ∷ []
export_shown items t i name =
    ap (λ r. map shown r.exports) (meaning-push items (export_item name t i))
    ∙ ap (λ r. map shown r.exports) (rest-with_thing _ t (stands_for (meaning items) t i))
    ∙ map-append shown (meaning items).exports _

-- the index that a type's export adds stands for the type
pub type_export_stands : (items : List Item) (k : ℕ) (name : Name) (i : ℕ) → i ≡ length (things (meaning items) sort.«Type»)
    → stands_for (meaning (items ++ export_item name sort.«Type» k ∷ [])) sort.«Type» i ≡ stands_for (meaning items) sort.«Type» k
type_export_stands items k name i is =
    ap (λ r. stands_for r sort.«Type» i) (meaning-push items (export_item name sort.«Type» k))
    ∙ ap (thing_at ((meaning items).types ++ stands_for (meaning items) sort.«Type» k ∷ [])) is
    ∙ thing_at-last (meaning items).types _

-- and to nothing else
pub export_others : (items : List Item) (t : Sort) (i : ℕ) (name : Name)
    → ((meaning (items ++ export_item name t i ∷ [])).imports ≡ (meaning items).imports)
    × ((meaning (items ++ export_item name t i ∷ [])).nested_bytes ≡ (meaning items).nested_bytes)
    × ((meaning (items ++ export_item name t i ∷ [])).instantiations ≡ (meaning items).instantiations)
    × ((meaning (items ++ export_item name t i ∷ [])).customs ≡ (meaning items).customs)
export_others items t i name =
    let e = ap rest (meaning-push items (export_item name t i)) ∙ rest-with_thing _ t (stands_for (meaning items) t i) in
    (ap (λ r. r.imports) e, ap (λ r. r.nested_bytes) e, ap (λ r. r.instantiations) e, ap (λ r. r.customs) e)

-- what a custom section adds
pub custom_rest : (items : List Item) (name : Name) (bytes : List ℕ) → rest (meaning (items ++ custom name bytes ∷ [])) ≡ record (rest (meaning items)) { customs = (meaning items).customs ++ (name, bytes) ∷ [] }
custom_rest items name bytes = ap rest (meaning-push items (custom name bytes))

-- what a component adds
pub nested_bytes_more : (items : List Item) (bytes : List ℕ) → rest (meaning (items ++ nested bytes ∷ [])) ≡ record (rest (meaning items)) { nested_bytes = (meaning items).nested_bytes ++ bytes ∷ [] }
nested_bytes_more items bytes = ap rest (meaning-push items (nested bytes))

pub nested_stands : (items : List Item) (bytes : List ℕ) (i : ℕ) → i ≡ length (things (meaning items) sort.Component) → stands_for (meaning (items ++ nested bytes ∷ [])) sort.Component i ≡ component_at (length (meaning items).nested_bytes)
nested_stands items bytes i is =
    ap (λ r. stands_for r sort.Component i) (meaning-push items (nested bytes))
    ∙ ap (thing_at ((meaning items).components ++ component_at (length (meaning items).nested_bytes) ∷ [])) is
    ∙ thing_at-last (meaning items).components _

-- what an instantiation of these items is
abbrev pub made_of : Root → ℕ → List (Name × Sort × ℕ) → Instantiation
made_of r c arguments = record { component = stands_for r sort.Component c; arguments = map (λ a. (a.0, a.1, stands_for r a.1 a.2)) arguments }

pub instantiations_more : (items : List Item) (c : ℕ) (arguments : List (Name × Sort × ℕ))
    → rest (meaning (items ++ instantiate c arguments ∷ [])) ≡ record (rest (meaning items)) { instantiations = (meaning items).instantiations ++ made_of (meaning items) c arguments ∷ [] }
instantiations_more items c arguments = ap rest (meaning-push items (instantiate c arguments))

pub instance_stands : (items : List Item) (c : ℕ) (arguments : List (Name × Sort × ℕ)) (i : ℕ) → i ≡ length (things (meaning items) sort.Instance)
    → stands_for (meaning (items ++ instantiate c arguments ∷ [])) sort.Instance i ≡ instance_at (length (meaning items).instantiations)
instance_stands items c arguments i is =
    ap (λ r. stands_for r sort.Instance i) (meaning-push items (instantiate c arguments))
    ∙ ap (thing_at ((meaning items).instances ++ instance_at (length (meaning items).instantiations) ∷ [])) is
    ∙ thing_at-last (meaning items).instances _

pub bound_at-last : (bs : List Bound) (b : Bound) (i : ℕ) → i ≡ length bs → bound_at (bs ++ b ∷ []) i ≡ b
bound_at-last [] b zero is = refl
bound_at-last [] b (suc i) is = absurd (omega arith)
bound_at-last (x ∷ bs) b zero is = absurd (omega arith)
bound_at-last (x ∷ bs) b (suc i) is = bound_at-last bs b i (omega arith)

-- nothing is known of what an instantiation exports
pub instance_bound : Laws → (items : List Item) (c : ℕ) (arguments : List (Name × Sort × ℕ)) → bound_at (meaning (items ++ instantiate c arguments ∷ [])).scope.instances (indexes (space sort.Instance) items) ≡ unbound
instance_bound laws items c arguments =
    ap (λ r. bound_at r.scope.instances (indexes (space sort.Instance) items)) (meaning-push items (instantiate c arguments))
    ∙ bound_at-last (meaning items).scope.instances unbound (indexes (space sort.Instance) items) (sym (laws.bounds_counted items))

-- an instance's export is bound where the instance is
pub alias_bound : Laws → (items : List Item) (c : ℕ) (name : Name)
    → bound_at (meaning (items ++ alias_item (export_alias sort.Instance c name) ∷ [])).scope.instances (indexes (space sort.Instance) items) ≡ aliased_instance (bound_at (meaning items).scope.instances c) name
alias_bound laws items c name =
    let b : Bound = aliased_instance (bound_at (meaning items).scope.instances c) name in
    ap (λ r. bound_at r.scope.instances (indexes (space sort.Instance) items)) (meaning-push items (alias_item (export_alias sort.Instance c name)))
    ∙ bound_at-last (meaning items).scope.instances b (indexes (space sort.Instance) items) (sym (laws.bounds_counted items))

pub indexes-push : (k : ℕ) (items : List Item) (x : Item) → indexes k (items ++ x ∷ []) ≡ indexes k items + is_in k (adds x)
indexes-push k [] x = omega arith
indexes-push k (y ∷ items) x = omega (arith, indexes-push k items x)

-- an item that adds an index of a sort
pub counted_up : (t : Sort) (items : List Item) (x : Item) → adds x ≡ Some (space t) → indexes (space t) items < indexes (space t) (items ++ x ∷ [])
counted_up t items x is =
    let one : is_in (space t) (adds x) ≡ 1 = ap (is_in (space t)) is ∙ ap (λ b. cond b 1 0) (eqb_same (space t)) in
    omega (arith, indexes-push (space t) items x)
