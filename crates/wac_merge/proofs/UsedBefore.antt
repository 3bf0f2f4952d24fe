-- The class of an interface that another class uses is imported before it.
use Rattle.std.proofs.Common.{◌≡◌, ◌<◌, ◌≢◌, ◌&&◌, inl, inr, ℕ, zero, suc, Bool, true, false, cond, List, [], ◌∷◌, length, filter, take, slice_get, Contains, is_some, Option, Some, None, refl, sym, ap, ◌∙◌, subst, arith}
use Rattle.std.specs.List.{AllByRecursion, list_any}
use Rattle.std.proofs.lemmas.Bool.{and_parts, false≢true, or_left, or_right}
use Rattle.std.proofs.lemmas.List.{take_all}
use Rattle.std.proofs.lemmas.Option.{slice_get_within}
use Rattle.wac_types_shapes.specs.primitives.Name.{Name, find_name, option_case, same_name}
use Rattle.wac_types_shapes.proofs.lemmas.shapes.Names.{same_name-refl, same_name-true}
use Rattle.wac_types_shapes.specs.declared.shapes.component.Interface.{Interface}
use Rattle.wac_types_shapes.specs.declared.shapes.component.InterfaceId.{InterfaceId}
use Rattle.wac_types_shapes.specs.declared.shapes.component.UsedType.{UsedType}
use Rattle.wac_types_shapes.specs.declared.shapes.component.ItemKind.{ItemKind}
use Rattle.wac_types_shapes.specs.declared.shapes.component.ItemKind.TheVariants as kind
use Rattle.wac_types_shapes.specs.declared.shapes.component.«Type».{«Type» as AnyType}
use Rattle.wac_types_collection.specs.collection.Collection.{Collection, item_at}
use Rattle.wac_types_collection.specs.wide.Wide.{UsesWidely, by_itself}
use Rattle.wac_types_collection.specs.collection.Uses.{is_there, is_type_item, is_used_by_id, name_there}
use Rattle.wac_types_shapes.specs.primitives.Tree.{TypeTree, instance_item}
use Rattle.wac_types_collection.specs.subtyping.Subtype.{IsSubtype, Sub, by_name, kind_tree}
use Rattle.wac_types_collection.specs.subtyping.TreeLaws.{IsDeepEnough}
use Rattle.wac_merge_classes.specs.entries.Classes.{Entry, by_names, canonical, class_names, imported_as, is_asked, is_instance, members, names_instance, names_of_classes, same_class, same_track}
use Rattle.wac_merge_classes.proofs.lemmas.entries.Canonical.{canonical-alike, class_name-asked, members-alike}
use Rattle.wac_merge_classes.proofs.lemmas.entries.ClassFacts.{class-parts, class-refl, class-sym, class-trans, same_track-from}
use Rattle.wac_merge_classes.proofs.lemmas.entries.ClassPaths.{newest-class}
use Rattle.wac_merge_classes.proofs.lemmas.entries.Lists.{any-at, any-found, some-at}
use Rattle.wac_merge_classes.proofs.lemmas.entries.Numbers.{has_prior}
use Rattle.wac_merge_classes.specs.terms.ClassOrder.{by_use}
use Rattle.wac_merge_classes.specs.terms.Merge.{IsListed, IsMerge, Merged, first_entry_id, import_under, is_on_track}
use Rattle.wac_merge_classes.proofs.lemmas.terms.Found.{one_some}
use Rattle.wac_merge_unions.specs.uses.KeptUses.{imported_interface, instance_of, of_interface}
use Rattle.wac_merge_imports.proofs.lemmas.unions.AssembledKinds.{the-instance}
use Rattle.wac_merge_imports.proofs.lemmas.unions.ListedTypes.{listed-type}
use Rattle.wac_edges.proofs.ArrangedLaws.{at_in, in_contains}
use Rattle.wac_merge_agreement.proofs.lemmas.agreement.OrderLaws.{order_each}
use Rattle.wac_merge.proofs.OrderOnce.{order_rests}

-- what is found by a name among imports: one that stands at a position
record IsUnder (es : List Entry) (p : ℕ) (n : Name) : Type 0 where
  at : ℕ
  entry : Entry
  there : slice_get es at ≡ Some entry
  less : at < p
  named : entry.name ≡ n
  found : import_under (take p es) n ≡ Some entry.kind

-- what stands before a position is found by its name there
under-there : (es : List Entry) (p j : ℕ) (x : Entry) (n : Name) → j < p → slice_get es j ≡ Some x → x.name ≡ n → IsUnder es p n
under-there [] p j x n less at name = cc
under-there (e ∷ es) zero j x n less at name = absurd (omega (arith, less))
under-there (e ∷ es) (suc p) zero x n less at name =
    let same : e ≡ x = cc in
    let here = ap (λ (y : Entry). y.name) same ∙ name in
    record { at = 0; entry = e; there = refl; less = omega arith; named = here; found = ap (λ b. cond b (Some e.kind) (import_under (take p es) n)) (ap (same_name n) here ∙ same_name-refl n) }
under-there (e ∷ es) (suc p) (suc j) x n less at name = by (same_name n e.name) refl (under-there es p j x n (omega (arith, less)) at name) where
  by : (b : Bool) → same_name n e.name ≡ b → IsUnder es p n → IsUnder (e ∷ es) (suc p) n
  by true is rest = record { at = 0; entry = e; there = refl; less = omega arith; named = sym (same_name-true n e.name is); found = ap (λ b. cond b (Some e.kind) (import_under (take p es) n)) is }
  by false is rest =
      let low = rest.less in
      record { at = suc rest.at; entry = rest.entry; there = rest.there; less = omega (arith, low); named = rest.named; found = ap (λ b. cond b (Some e.kind) (import_under (take p es) n)) is ∙ rest.found }

-- ---- a subtype of an instance is one, and of nothing else
abbrev is_instance_tree : TypeTree Name → Bool
is_instance_tree (instance_item t) = true
is_instance_tree t = false

sub-alike : (a b : TypeTree Name) → Sub a b → is_instance_tree a ≡ is_instance_tree b
sub-alike a b (Sub.same _ q) = refl
sub-alike a b (Sub.instances _ _ f) = refl
sub-alike a b (Sub.components _ _ _ _ f g) = refl
sub-alike a b (Sub.modules _ _ _ _ f g) = refl
sub-alike a b (Sub.type_items _ _ s t) = refl
sub-alike a b (Sub.instance_items _ _ s) = refl
sub-alike a b (Sub.component_items _ _ s) = refl
sub-alike a b (Sub.module_items _ _ s) = refl

tree-of-instance : (c : Collection) (k : ItemKind) → is_instance_tree (kind_tree c k) ≡ is_instance k
tree-of-instance c (kind.Instance i) = refl
tree-of-instance c (kind.TypeItem t) = refl
tree-of-instance c (kind.Func f) = refl
tree-of-instance c (kind.Component w) = refl
tree-of-instance c (kind.Module x) = refl
tree-of-instance c (kind.Value v) = refl

pub instances-alike : (m c : Collection) (k l : ItemKind) → IsSubtype m k c l → is_instance l ≡ is_instance k
instances-alike m c k l sub = sym (tree-of-instance c l) ∙ (sym (sub-alike (kind_tree m k) (kind_tree c l) sub) ∙ tree-of-instance m k)

-- what holds of all that pass a test holds of each that does
of-filtered : (P : Entry → Type 0) (f : Entry → Bool) (es : List Entry) (i : ℕ) (x : Entry) → AllByRecursion P (filter f es) → slice_get es i ≡ Some x → f x ≡ true → P x
of-filtered P f [] i x all at t = cc
of-filtered P f (e ∷ es) zero x all at t =
    let same : e ≡ x = cc in
    let one : AllByRecursion P (e ∷ filter f es) = subst (λ b. AllByRecursion P (cond b (e ∷ filter f es) (filter f es))) (ap f same ∙ t) all in
    subst P same one.0
of-filtered P f (e ∷ es) (suc i) x all at t = of-filtered P f es i x (rest (f e) all) at t where
  rest : (b : Bool) → AllByRecursion P (cond b (e ∷ filter f es) (filter f es)) → AllByRecursion P (filter f es)
  rest true h = h.1
  rest false h = h

-- one that passes both tests is among those that pass the first
any-filtered : (p f : Entry → Bool) (es : List Entry) (i : ℕ) (x : Entry) → slice_get es i ≡ Some x → f x ≡ true → p x ≡ true → list_any p (filter f es) ≡ true
any-filtered p f [] i x at t h = cc
any-filtered p f (e ∷ es) zero x at t h =
    let same : e ≡ x = cc in
    ap (λ b. list_any p (cond b (e ∷ filter f es) (filter f es))) (ap f same ∙ t) ∙ or_left (p e) _ (ap p same ∙ h)
any-filtered p f (e ∷ es) (suc i) x at t h = rest (f e) (any-filtered p f es i x at t h) where
  rest : (b : Bool) → list_any p (filter f es) ≡ true → list_any p (cond b (e ∷ filter f es) (filter f es)) ≡ true
  rest true is = or_right (p e) _ is
  rest false is = is

module _ (es : List Entry) where
  -- the class of a name that is asked for
  class-there : (n : Name) → is_asked es n ≡ true → (k : ℕ) × (class : Name) × (slice_get (class_names by_names es) k ≡ Some class) × (same_class by_names es class n ≡ true)
  class-there n asked =
      let w = any-found (λ e. same_name e.name n) es asked in
      let low = slice_get_within es w.0 w.1 w.2 in
      let has = has_prior es (length es) w.0 w.1 low (omega arith) w.2 in
      let all : take (length es) es ≡ es = take_all (length es) es (omega arith) in
      let found = any-found (λ m. same_class by_names es m (w.1).name) (class_names by_names es) (subst (λ xs. list_any (λ m. same_class by_names es m (w.1).name) (names_of_classes by_names es xs) ≡ true) all has) in
      (found.0, found.1, found.2, subst (λ x. same_class by_names es found.1 x ≡ true) (same_name-true (w.1).name n w.3) found.3)

  -- the name of a class is asked for, and of one class with its canonical name
  class-asked : (k : ℕ) (class : Name) → slice_get (class_names by_names es) k ≡ Some class → is_asked es class ≡ true
  class-asked k class at = class_name-asked es es class (any-at (λ n. same_name n class) (class_names by_names es) k class at (same_name-refl class))

  pub canonical-class : (class : Name) → same_class by_names es class (canonical by_names es class) ≡ true
  canonical-class class = newest-class es class class es (class-refl by_names es class)

module _ (c : Collection) (es : List Entry) (m : Merged) (g : IsMerge by_names c es m) where
  -- the class of an import that has the canonical name of an id
  record ClassAt (id : Name) (q : ℕ) (y : Entry) : Type 0 where
    number : ℕ
    class : Name
    placed : slice_get g.order q ≡ Some number
    there : slice_get (class_names by_names es) number ≡ Some class
    one : same_class by_names es class id ≡ true

  class-at : (id : Name) (q : ℕ) (y : Entry) → slice_get m.imports q ≡ Some y → y.name ≡ canonical by_names es id → ClassAt id q y
  class-at id q y y-at y-name =
      let within = slice_get_within m.imports q y y-at in
      let count = g.count in
      let k = some-at g.order q (omega (arith, within, count)) in
      let low : k.0 < length (class_names by_names es) = (order_each by_names es c g.order g.written k.0).0 (in_contains g.order k.0 (at_in g.order q k.0 k.1)) in
      let class = some-at (class_names by_names es) k.0 low in
      let name : y.name ≡ canonical by_names es class.0 = g.names q k.0 class.0 y k.1 class.1 y-at in
      let to : same_class by_names es class.0 (canonical by_names es id) ≡ true = subst (λ x. same_class by_names es class.0 x ≡ true) (sym name ∙ y-name) (canonical-class es class.0) in
      let back = class-sym by_names es id (canonical by_names es id) (canonical-class es id) in
      record { number = k.0; class = class.0; placed = k.1; there = class.1; one = class-trans by_names es class.0 (canonical by_names es id) id to back }

  -- what is imported under the canonical name of an instance that is asked for is one
  is-instance : (id : Name) (i : ℕ) (w : Entry) → slice_get es i ≡ Some w → w.name ≡ id → is_instance w.kind ≡ true → (q : ℕ) (y : Entry) → slice_get m.imports q ≡ Some y → y.name ≡ canonical by_names es id
      → (j : InterfaceId) × (y.kind ≡ kind.Instance j)
  is-instance id i w w-at w-name w-is q y y-at y-name =
      let a = class-at id q y y-at y-name in
      let one : same_class by_names es a.class w.name ≡ true = subst (λ x. same_class by_names es a.class x ≡ true) (sym w-name) a.one in
      let sub = of-filtered (λ x. IsSubtype m.types y.kind c x.kind) (λ x. same_class by_names es a.class x.name) es i w (g.subtypes q a.number a.class y a.placed a.there y-at) w-at one in
      the-instance y.kind (sym (instances-alike m.types c y.kind w.kind sub) ∙ w-is)

  -- an interface with the id is on the track of its class
  on-track : (id class : Name) → same_class by_names es class id ≡ true → (x : InterfaceId) (own : Interface) (k : ItemKind) → k ≡ kind.Instance x → item_at c.interfaces x.0 ≡ Some own → own.id ≡ Some id
      → is_on_track by_names c class k ≡ true
  on-track id class one x own k is at id-is =
      ap (is_on_track by_names c class) is
      ∙ (ap (λ o. option_case o false (λ (it : Interface). option_case it.id false (λ t. same_track (by_names.track t) (by_names.track class)))) at
      ∙ (ap (λ o. option_case o false (λ t. same_track (by_names.track t) (by_names.track class))) id-is
      ∙ same_track-from (by_names.track id) (by_names.track class) (elim (class-parts by_names es class id one) [
        | inl same ↦ ap by_names.track (sym same)
        | inr o ↦ sym o.track
      ])))

  -- what is imported under the canonical name of an id that an interface has which is asked for under it has an id
  is-identified : (id : Name) (i : ℕ) (w : Entry) (x : InterfaceId) (own : Interface) → slice_get es i ≡ Some w → w.name ≡ id → w.kind ≡ kind.Instance x → item_at c.interfaces x.0 ≡ Some own → own.id ≡ Some id
      → (q : ℕ) (y : Entry) (j : InterfaceId) (n : Option Name) → slice_get m.imports q ≡ Some y → y.name ≡ canonical by_names es id → y.kind ≡ kind.Instance j → is_used_by_id m.types (record { interface = j; name = n }) ≡ true
  is-identified id i w x own w-at w-name w-is own-at own-id q y j n y-at y-name y-is =
      let a = class-at id q y y-at y-name in
      let one : same_class by_names es a.class w.name ≡ true = subst (λ z. same_class by_names es a.class z ≡ true) (sym w-name) a.one in
      let on = on-track id a.class a.one x own w.kind w-is own-at own-id in
      let any = any-filtered (λ z. is_on_track by_names c a.class z.kind) (λ z. same_class by_names es a.class z.name) es i w w-at one on in
      let listed = subst (IsListed by_names c es a.class m.types) y-is (g.listed q a.number a.class y a.placed a.there y-at) in
      let it = listed.1 in
      ap (λ o. option_case o false (λ (z : Interface). is_some z.id)) it.1
      ∙ ap is_some (it.2 ∙ ap (λ b. cond b (Some (canonical by_names es a.class)) (first_entry_id c (members by_names es a.class))) any)

  -- and it lists a type under each name under which that interface does
  is-listed : (id : Name) (i : ℕ) (w : Entry) (x : InterfaceId) (own : Interface) → slice_get es i ≡ Some w → w.name ≡ id → w.kind ≡ kind.Instance x → item_at c.interfaces x.0 ≡ Some own
      → (q : ℕ) (y : Entry) (j : InterfaceId) (n : Name) (u : UsedType) → slice_get m.imports q ≡ Some y → y.name ≡ canonical by_names es id → y.kind ≡ kind.Instance j
      → IsDeepEnough by_name c → IsDeepEnough by_name m.types → (t : AnyType) → find_name own.exports (name_there n u) ≡ Some (kind.TypeItem t) → is_there m.types (n, of_interface j u) ≡ true
  is-listed id i w x own w-at w-name w-is own-at q y j n u y-at y-name y-is deep merged_deep t found =
      let a = class-at id q y y-at y-name in
      let one : same_class by_names es a.class w.name ≡ true = subst (λ z. same_class by_names es a.class z ≡ true) (sym w-name) a.one in
      let sub = of-filtered (λ z. IsSubtype m.types y.kind c z.kind) (λ z. same_class by_names es a.class z.name) es i w (g.subtypes q a.number a.class y a.placed a.there y-at) w-at one in
      let right = subst (λ k. Sub (kind_tree m.types y.kind) (kind_tree c k)) w-is sub in
      let both = subst (λ k. Sub (kind_tree m.types k) (kind_tree c (kind.Instance x))) y-is right in
      let listed = subst (IsListed by_names c es a.class m.types) y-is (g.listed q a.number a.class y a.placed a.there y-at) in
      let it = listed.1 in
      let there = listed-type c m.types deep merged_deep x j own it.0 own-at it.1 (name_there n u) t both found in
      ap (λ o. option_case (find_name (option_case o [] (λ (z : Interface). z.exports)) (name_there n u)) false is_type_item) it.1 ∙ ap (λ o. option_case o false is_type_item) there.1

  -- what stands under the name that an id is imported as is what the interface with the id is imported as
  interface-is : (p : ℕ) (u : UsedType) (used : Interface) (id : Name) (k : ItemKind) (j : InterfaceId) → item_at c.interfaces (u.interface).0 ≡ Some used → used.id ≡ Some id
      → import_under (take p m.imports) (imported_as by_names es id) ≡ Some k → k ≡ kind.Instance j → imported_interface by_names c es (take p m.imports) u.interface ≡ Some j
  interface-is p u used id k j used-at id-is found is =
      ap (λ o. option_case o None (λ (y : Interface). option_case y.id None (λ name. instance_of (import_under (take p m.imports) (imported_as by_names es name))))) used-at
      ∙ (ap (λ o. option_case o None (λ name. instance_of (import_under (take p m.imports) (imported_as by_names es name)))) id-is
      ∙ (ap instance_of found ∙ ap (λ x. instance_of (Some x)) is))

  pub used_before : (p : ℕ) (e member : Entry) (i : InterfaceId) (it used : Interface) (n id : Name) (u : UsedType)
      → slice_get m.imports p ≡ Some e → Contains (members by_names es e.name) member → member.kind ≡ kind.Instance i → item_at c.interfaces i.0 ≡ Some it
      → Contains it.uses (n, u) → item_at c.interfaces (u.interface).0 ≡ Some used → used.id ≡ Some id
      → names_instance es id ≡ true → same_class by_names es id e.name ≡ false
      → (j : InterfaceId) × (imported_interface by_names c es (take p m.imports) u.interface ≡ Some j)
      × ((o : ℕ) (w : Entry) (x : InterfaceId) (own : Interface) → slice_get es o ≡ Some w → w.name ≡ id → w.kind ≡ kind.Instance x → item_at c.interfaces x.0 ≡ Some own → own.id ≡ Some id
      → (is_used_by_id m.types (of_interface j u) ≡ true)
      × (IsDeepEnough by_name c → IsDeepEnough by_name m.types → (t : AnyType) → find_name own.exports (name_there n u) ≡ Some (kind.TypeItem t) → is_there m.types (n, of_interface j u) ≡ true))
  used_before p e member i it used n id u at inside is held uses used-at id-is names apart =
      let asked-at = any-found (λ x. same_name x.name id && is_instance x.kind) es names in
      let both = and_parts (same_name (asked-at.1).name id) (is_instance (asked-at.1).kind) asked-at.3 in
      let asked : is_asked es id ≡ true = any-at (λ x. same_name x.name id) es asked-at.0 asked-at.1 asked-at.2 both.0 in
      let within = slice_get_within m.imports p e at in
      let count = g.count in
      let a = some-at g.order p (omega (arith, within, count)) in
      let a-low : a.0 < length (class_names by_names es) = (order_each by_names es c g.order g.written a.0).0 (in_contains g.order a.0 (at_in g.order p a.0 a.1)) in
      let class = some-at (class_names by_names es) a.0 a-low in
      let name : e.name ≡ canonical by_names es class.0 = g.names p a.0 class.0 e a.1 class.1 at in
      let one : same_class by_names es class.0 e.name ≡ true = subst (λ x. same_class by_names es class.0 x ≡ true) (sym name) (canonical-class es class.0) in
      let among = subst (λ xs. Contains xs member) (sym (members-alike es class.0 e.name es one)) inside in
      let b = class-there es id asked in
      let widely : UsesWidely c i u.interface = by_itself i n u (subst (λ (o : Option Interface). Contains (option_case o [] (λ (x : Interface). x.uses)) (n, u)) (sym held) uses) in
      let rests = by_use a.0 b.0 class.0 b.1 id member i u.interface used (other a.0 b.0 class.0 b.1 class.1 b.2 b.3 one) class.1 b.2 among is widely used-at id-is (class-sym by_names es b.1 id b.3) in
      let before = order_rests c es g.order g.written p a.0 b.0 rests (slice_get_within (class_names by_names es) b.0 b.1 b.2) a.1 in
      let less : before.0 < p = before.1 in
      let x = some-at m.imports before.0 (omega (arith, less, within)) in
      let named : (x.0).name ≡ canonical by_names es b.1 = g.names before.0 b.0 b.1 x.0 before.2 b.2 x.1 in
      let canonical-is = canonical-alike es b.1 id b.3 (class-asked es b.0 b.1 b.2) asked in
      let imported : canonical by_names es id ≡ imported_as by_names es id = sym (ap (λ t. cond t (canonical by_names es id) id) asked) in
      let same-name : canonical by_names es b.1 ≡ imported_as by_names es id = canonical-is ∙ imported in
      let under = under-there m.imports p before.0 x.0 (imported_as by_names es id) less x.1 (named ∙ same-name) in
      let instance = is-instance id asked-at.0 asked-at.1 asked-at.2 (same_name-true (asked-at.1).name id both.0) both.1 under.at under.entry under.there (under.named ∙ sym imported) in (
        instance.0,
        interface-is p u used id under.entry.kind instance.0 used-at id-is under.found instance.1,
        λ o w x own w-at w-name w-is own-at own-id. (
          is-identified id o w x own w-at w-name w-is own-at own-id under.at under.entry instance.0 u.name under.there (under.named ∙ sym imported) instance.1,
          is-listed id o w x own w-at w-name w-is own-at under.at under.entry instance.0 n u under.there (under.named ∙ sym imported) instance.1,
        ),
      ) where
        other : (a b : ℕ) (class of : Name) → slice_get (class_names by_names es) a ≡ Some class → slice_get (class_names by_names es) b ≡ Some of → same_class by_names es of id ≡ true → same_class by_names es class e.name ≡ true → a ≢ b
        other a b class of a-at b-at of-id class-e same =
            let one : of ≡ class = one_some (slice_get (class_names by_names es) a) of class (ap (slice_get (class_names by_names es)) same ∙ b-at) a-at in
            let id-of = class-sym by_names es of id of-id in
            let all = class-trans by_names es id class e.name (subst (λ x. same_class by_names es id x ≡ true) one id-of) class-e in
            false≢true (sym apart ∙ all)
