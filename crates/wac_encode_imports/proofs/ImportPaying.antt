-- Each import is paid by what near types pay, and by its cost.
use Rattle.std.proofs.Common.{ℕ, ◌+◌, ◌*◌, ◌≤◌, Bool, true, false, cond, List, [], ◌∷◌, length, map, Option, Some, None, ◌≡◌, refl, ap, sym, ◌∙◌, subst, arith}
use Rattle.std.specs.Prelude.{Result, Ok, Err, IsErrAnd}
use Rattle.std.specs.List.{list_any}
use Rattle.std.proofs.lemmas.Bool.{eq-eqb}
use mathlib.Core.List.{map-map}
use Rattle.wac_types_shapes.specs.primitives.Name.{Name, option_case}
use Rattle.wac_types_shapes.specs.primitives.Tree.{Leaf}
use Rattle.wac_types_shapes.specs.shapes.Kinds.{kind_type}
use Rattle.wac_types_shapes.specs.contracts.shapes.component.ModuleTypeIdPartialEq.TheImpl as IdEq
use Rattle.wac_types_shapes.specs.declared.shapes.component.Interface.{Interface}
use Rattle.wac_types_shapes.specs.declared.shapes.component.InterfaceId.{InterfaceId}
use Rattle.wac_types_shapes.specs.declared.shapes.component.ItemKind.{ItemKind}
use Rattle.wac_types_shapes.specs.declared.shapes.component.ItemKind.TheVariants as kind
use Rattle.wac_types_shapes.specs.declared.shapes.component.ModuleTypeId.{ModuleTypeId}
use Rattle.wac_types_shapes.specs.declared.shapes.component.ResourceId.{ResourceId}
use Rattle.wac_types_shapes.specs.declared.shapes.component.«Type».{«Type» as AnyType}
use Rattle.wac_types_shapes.specs.declared.shapes.component.«Type».TheVariants as ty
use Rattle.wac_types_collection.specs.collection.Collection.{Collection, IsWellFormed, item_at}
use Rattle.wac_types_weight.specs.Weight.{own}
use Rattle.wac_types_weight.proofs.Near.{from_contains}
use Rattle.wac_merge_classes.specs.entries.Bindings.{first_in, AreHeld}
use Rattle.wac_merge_classes.specs.entries.Classes.{Entry}
use Rattle.wac_merge_classes.specs.terms.Merge.{Merged, import_entries}
use Rattle.wac_merge_imports.specs.unions.Lighter.{types_of}
use Rattle.wac_binary.specs.declared.sorts.Sort.{Sort}
use Rattle.wac_binary.specs.declared.fault.BinaryFault.{BinaryFault}
use Rattle.wac_binary.specs.declared.fault.BinaryFault.TheVariants.{TooLarge, OutOfMemory}
use Rattle.wac_encode_faults.specs.declared.fault.WriteFault.TheVariants as fault
use Rattle.wac_encode_faults.specs.Faults as faults
use Rattle.wac_encode_stacks.specs.Good.{Good}
use Rattle.wac_encode_stacks.specs.Scopes.{Where}
use Rattle.wac_encode_scopes.specs.declared.encodable.Encodable.{Encodable}
use Rattle.wac_encode_scopes.specs.declared.state.State.{State}
use Rattle.wac_encode_scopes.specs.Books.{opened}
use Rattle.wac_encode_scopes.specs.Contents.{content_of}
use Rattle.wac_encode_scopes.specs.States.{stack}
use Rattle.wac_encode_scopes.specs.private.Limits.{IsLarge, IsTooLarge}
use Rattle.wac_encode_scopes.specs.private.Paid.{total, IsAnswerPaid, PaidBy, PaidFor, IsPriced, AreUnrecorded, telling_cost, interface_cost}
use Rattle.wac_encode_scopes.specs.private.Telling.{is_one_of}
use Rattle.wac_encode_scopes.proofs.Paying.{then-answer, exit-answer, memory-answer}
use Rattle.wac_encode_interfaces.specs.private.Imports.{ImportsOf, module_type_of}
use Rattle.wac_encode_interfaces.specs.private.Paid.{import_type_cost, MayHold, IsHeavy}
use Rattle.wac_encode_imports.specs.declared.import.ImportWriter.{ImportWriter}
use Rattle.wac_encode_imports.specs.declared.imports.WrittenImports.{WrittenImports}
use Rattle.wac_encode_imports.specs.private.Classes.{interface_of, is_class, is_first_of}
use Rattle.wac_encode_imports.specs.private.Written.{bound_before, IsImportWriter, MayFollow}
use Rattle.wac_encode_imports.specs.private.Small.{one_cost, is_module, plain_imports, modules_weight, all_modules, ImportsWithin, IsImportPaid, IsImportPaidWith, AreFirstWithin}
use Rattle.wac_encode_imports.proofs.Bound.{no-some, unbound-yet}
use Rattle.wac_encode_imports.proofs.Looked.{first-is, found-binds}
use Rattle.wac_encode_imports.proofs.Writing.{imports-as, interface-there}
use Rattle.wac_encode_imports.proofs.Costing.{single-around, single-priced, root-rate, covers-import, module-in, modules-all, module-more, up-to, with-more, other-cost, instance-cost, fresh-cost, module-cost, after-least, within-next, within-refused, heavy-import}

-- ---- the collection and the book of the writer are the merge's
-- what the import of an item pays, where the root may enclose others
abbrev pub ItemPaid : {T : Type 0} → ImportWriter → Name → ItemKind → State → State → Result T BinaryFault → Type 0
ItemPaid x n k s t r = MayHold x.writer.merged s.here.content (kind_type k) → PaidFor x.writer.types.now x.writer.merged (kind_type k) (20 + 2 * length n + import_type_cost x.writer.types.now (kind_type k)) s t r

holds-always : (e : Encodable) (t : AnyType) → MayHold true e t
holds-always e (ty.Interface i) = tt
holds-always e (ty.World w) = tt
holds-always e (ty.Resource r) = tt
holds-always e (ty.Func f) = tt
holds-always e (ty.Value v) = tt
holds-always e (ty.Module k) = tt

module _ {T : Type 0} (x : ImportWriter) (m : Merged) (h : IsImportWriter x m) (s t : State) (r : Result T BinaryFault) where
  paid-for : (n : Name) (k : ItemKind) → ItemPaid x n k s t r → PaidFor m.types true (kind_type k) (20 + 2 * length n + import_type_cost m.types (kind_type k)) s t r
  paid-for n k paid =
      subst (λ (b : Bool). PaidFor m.types b (kind_type k) (20 + 2 * length n + import_type_cost m.types (kind_type k)) s t r) h.merged
      (subst (λ (c : Collection). PaidFor c x.writer.merged (kind_type k) (20 + 2 * length n + import_type_cost c (kind_type k)) s t r) h.of_types (paid (subst (λ b. MayHold b s.here.content (kind_type k)) (sym h.merged) (holds-always s.here.content (kind_type k)))))

  paid-module : (n : Name) (k : ModuleTypeId) (known : Option ℕ) → PaidBy x.writer.types.now x.writer.merged [] (20 + 2 * length n + option_case known (34 * own x.writer.types.now (ty.Module k)) (λ i. 0)) s t r
      → PaidBy m.types true [] (20 + 2 * length n + option_case known (34 * own m.types (ty.Module k)) (λ i. 0)) s t r
  paid-module n k known paid =
      subst (λ (b : Bool). PaidBy m.types b [] (20 + 2 * length n + option_case known (34 * own m.types (ty.Module k)) (λ i. 0)) s t r) h.merged
      (subst (λ (c : Collection). PaidBy c x.writer.merged [] (20 + 2 * length n + option_case known (34 * own c (ty.Module k)) (λ i. 0)) s t r) h.of_types paid)

-- the root is the only scope
single : (m : Merged) (p : ℕ) (n : Name) (k : ItemKind) (places : List (Sort × ℕ)) (s : State) → MayFollow m p n k places s → IsPriced true s
single m p n k places s may = single-priced true s (single-around m.types true s (bound_before m p) may.written.good)

-- an item that can be imported and is no core module has no module's type
no-module : (x : ImportWriter) (m : Merged) (h : IsImportWriter x m) (p : ℕ) (n : Name) (k : ItemKind) (places : List (Sort × ℕ)) (s : State) → MayFollow m p n k places s → module_type_of k ≡ None → is_module (kind_type k) ≡ false
no-module x m h p n (kind.TypeItem (ty.Module j)) places s may is = absurd (h.writable.clean p (record { name = n; kind = kind.TypeItem (ty.Module j) }) fault.ModuleAsType may.there (faults.own fault.ModuleAsType refl))
no-module x m h p n (kind.TypeItem (ty.Resource r)) places s may is = refl
no-module x m h p n (kind.TypeItem (ty.Func f)) places s may is = refl
no-module x m h p n (kind.TypeItem (ty.Value v)) places s may is = refl
no-module x m h p n (kind.TypeItem (ty.Interface i)) places s may is = refl
no-module x m h p n (kind.TypeItem (ty.World w)) places s may is = refl
no-module x m h p n (kind.Module j) places s may is = no-some j (sym is)
no-module x m h p n (kind.Func f) places s may is = refl
no-module x m h p n (kind.Instance i) places s may is = refl
no-module x m h p n (kind.Component w) places s may is = refl
no-module x m h p n (kind.Value v) places s may is = refl

module _ {T : Type 0} (x : ImportWriter) (p : ℕ) (n : Name) (s t : State) (r : Result T BinaryFault) where
  pub other-paid : (k : ItemKind) → interface_of k ≡ None → module_type_of k ≡ None → ItemPaid x n k s t r → IsImportPaid x p n k s t r
  other-paid k bare other paid = λ m h places may.
      let e : Entry = record { name = n; kind = k } in
      let covers = covers-import m h.writable.ordered p e may.there (no-module x m h p n k places s may other) in
      let answer = paid-for x m h s t r n k paid (plain_imports m) covers (single m p n k places s may) in
      up-to m.types true (plain_imports m) (20 + 2 * length n + import_type_cost m.types (kind_type k)) (one_cost m.types e) s t r (other-cost m.types n k bare) answer

  pub fresh-paid : (q end : ResourceId) → ((c : Collection) → PaidBy c true [] (20 + 2 * length n) s t r) → IsImportPaid x p n (kind.TypeItem (ty.Resource q)) s t r
  fresh-paid q end paid = λ m h places may.
      let e : Entry = record { name = n; kind = kind.TypeItem (ty.Resource q) } in
      let answer = with-more m.types true (plain_imports m) (20 + 2 * length n) s t r (paid m.types (single m p n (kind.TypeItem (ty.Resource q)) places s may)) in
      up-to m.types true (plain_imports m) (20 + 2 * length n) (one_cost m.types e) s t r (fresh-cost m.types n q) answer

  -- the instance itself, before it is told
  pub instance-first : (i : InterfaceId) → ItemPaid x n (kind.Instance i) s t r
      → (m : Merged) (h : IsImportWriter x m) (places : List (Sort × ℕ)) (may : MayFollow m p n (kind.Instance i) places s) → IsAnswerPaid m.types true (plain_imports m) (20 + 2 * length n + interface_cost m.types i) s t r
  instance-first i paid m h places may =
      paid-for x m h s t r n (kind.Instance i) paid (plain_imports m) (covers-import m h.writable.ordered p (record { name = n; kind = kind.Instance i }) may.there refl) (single m p n (kind.Instance i) places s may)

-- ---- an instance that is told
-- what the import is the first to bind is not recorded yet
pub own-unrecorded : (x : ImportWriter) (m : Merged) (h : IsImportWriter x m) (p : ℕ) (s : State) (keys : List ResourceId) (es : List (Name × ItemKind)) → Good m.types (bound_before m p ∷ []) (stack true s)
    → ((r : ResourceId) → is_one_of keys r ≡ list_any (is_first_of x.bindings.now p r) es) → AreUnrecorded true s keys
own-unrecorded x m h p s keys es good is = λ r among. by r (firsts es r (sym (is r) ∙ among)) ((opened true s.here).binds r) refl
  where
    clash : (l : Leaf) → None ≡ Some l → ⊥
    clash l e = cc

    firsts : (es : List (Name × ItemKind)) (r : ResourceId) → list_any (is_first_of x.bindings.now p r) es ≡ true → is_class p (first_in x.bindings.now r) ≡ true
    firsts es r any = found-binds x.bindings.now p es r any

    by : (r : ResourceId) → is_class p (first_in x.bindings.now r) ≡ true → (o : Option Where) → (opened true s.here).binds r ≡ o → (opened true s.here).binds r ≡ None
    by r first None at = at
    by r first (Some w) at =
        let (l, bound, stands) = good.0.binds r w at in
        let none = unbound-yet m p r (sym (first-is m x.bindings.now h.bindings p r) ∙ first) in
        absurd (clash l (sym none ∙ bound))

-- ---- an instance, step by step
module _ (x : ImportWriter) (p : ℕ) (n : Name) (i : InterfaceId) where
  cost-first : (m : Merged) (h : IsImportWriter x m) (places : List (Sort × ℕ)) (s : State) → MayFollow m p n (kind.Instance i) places s → 20 + 2 * length n + interface_cost m.types i ≤ one_cost m.types (record { name = n; kind = kind.Instance i })
  cost-first m h places s may =
      let it = interface-there m.types i (h.writable.held p (record { name = n; kind = kind.Instance i }) may.there) in
      let whole = instance-cost m.types n i it.0 s (root-rate s may.written.root) it.1 in
      omega (arith, whole)

  pub instance-refused : {U : Type 0} (s mid : State) (e : BinaryFault) (r : Result U BinaryFault) → IsErrAnd r (λ y. y ≡ e)
      → (let refused : Result ℕ BinaryFault = Err e in ItemPaid x n (kind.Instance i) s mid refused) → IsImportPaid x p n (kind.Instance i) s mid r
  instance-refused s mid e r h paid = λ m w places may.
      let refused : Result ℕ BinaryFault = Err e in
      let first = instance-first x p n s mid refused i paid m w places may in
      up-to m.types true (plain_imports m) (20 + 2 * length n + interface_cost m.types i) (one_cost m.types (record { name = n; kind = kind.Instance i })) s mid r (cost-first m w places s may)
      (exit-answer m.types true (plain_imports m) (20 + 2 * length n + interface_cost m.types i) s mid e r h first)

  pub instance-unpaid : {U : Type 0} (s t : State) (r : Result U BinaryFault) → IsErrAnd r (λ y. y ≡ OutOfMemory) → IsImportPaid x p n (kind.Instance i) s t r
  instance-unpaid s t r h = λ m w places may. memory-answer m.types true (plain_imports m) (one_cost m.types (record { name = n; kind = kind.Instance i })) s t OutOfMemory r h refl

  pub instance-told : {V : Type 0} (s mid t : State) (index : ℕ) (keys : List ResourceId) (r : Result V BinaryFault)
      → (let ok : Result ℕ BinaryFault = Ok index in ItemPaid x n (kind.Instance i) s mid ok)
      → ImportsOf x.writer.types.now x.writer.merged n (kind.Instance i) s mid index
      → ((it : Interface) → item_at x.types.now.interfaces i.0 ≡ Some it → (q : ResourceId) → is_one_of keys q ≡ list_any (is_first_of x.bindings.now p q) it.exports)
      → ((it : Interface) → item_at x.types.now.interfaces i.0 ≡ Some it → AreUnrecorded true mid keys → IsPriced true mid → IsAnswerPaid x.types.now true [] (telling_cost true (content_of mid.here.content) it.exports) mid t r)
      → IsImportPaid x p n (kind.Instance i) s t r
  instance-told s mid t index keys r paid imports firsts tells = λ m h places may.
      let ok : Result ℕ BinaryFault = Ok index in
      let it = interface-there m.types i (h.writable.held p (record { name = n; kind = kind.Instance i }) may.there) in
      let at : item_at x.types.now.interfaces i.0 ≡ Some it.0 = ap (λ (c : Collection). item_at c.interfaces i.0) h.types ∙ it.1 in
      let good = (imports-as x m h n (kind.Instance i) s mid index imports (bound_before m p) may.written.good refl).onward.0 in
      let none = own-unrecorded x m h p mid keys it.0.exports good (firsts it.0 at) in
      let priced = single-priced true mid (single-around m.types true mid (bound_before m p) good) in
      let told = subst (λ (c : Collection). IsAnswerPaid c true [] (telling_cost true (content_of mid.here.content) it.0.exports) mid t r) h.types (tells it.0 at none priced) in
      let first = instance-first x p n s mid ok i paid m h places may in
      let both = then-answer m.types true (plain_imports m) (20 + 2 * length n + interface_cost m.types i) (telling_cost true (content_of mid.here.content) it.0.exports) s mid t r first (with-more m.types true (plain_imports m) (telling_cost true (content_of mid.here.content) it.0.exports) mid t r told) in
      up-to m.types true (plain_imports m) ((20 + 2 * length n + interface_cost m.types i) + telling_cost true (content_of mid.here.content) it.0.exports) (one_cost m.types (record { name = n; kind = kind.Instance i })) s t r
      (instance-cost m.types n i it.0 mid (first.rated ∙ root-rate s may.written.root) it.1) both

-- ---- a core module
module _ (x : ImportWriter) (p : ℕ) (n : Name) (k : ModuleTypeId) (f g : ModuleTypeId → Option ℕ) (s t : State) where
  module-cost-after : (m : Merged) (h : IsImportWriter x m) (places : List (Sort × ℕ)) (may : MayFollow m p n (kind.Module k) places s) (g : ModuleTypeId → Option ℕ) (i : ℕ) → ((j : ModuleTypeId) (v : ℕ) → f j ≡ Some v → (y : ℕ) × (g j ≡ Some y)) → g k ≡ Some i
      → (20 + 2 * length n + option_case (f k) (34 * own m.types (ty.Module k)) (λ j. 0)) + 34 * modules_weight m f ≤ one_cost m.types (record { name = n; kind = kind.Module k }) + 34 * modules_weight m g
  module-cost-after m h places may g i more there =
      let among = module-in m h.writable.ordered p (record { name = n; kind = kind.Module k }) k may.there refl in
      let gain = module-more m f g k i among more there in
      let cost = module-cost m.types n k in
      let scaled = times (f k) (own m.types (ty.Module k)) in
      omega (arith, gain, cost, scaled)
    where
      times : (o : Option ℕ) (w : ℕ) → option_case o (34 * w) (λ j. 0) ≡ 34 * option_case o w (λ j. 0)
      times None w = refl
      times (Some j) w = refl

  pub module-paid : (known : Option ℕ) (index : ℕ) → known ≡ f k → ((j : ModuleTypeId) → g j ≡ cond ((IdEq.ghosts).eq k j) (Some index) (f j))
      → (let ok : Result ℕ BinaryFault = Ok index in PaidBy x.writer.types.now x.writer.merged [] (20 + 2 * length n + option_case known (34 * own x.writer.types.now (ty.Module k)) (λ i. 0)) s t ok)
      → (let ok : Result ℕ BinaryFault = Ok index in IsImportPaidWith x p n (kind.Module k) f g s t ok)
  module-paid known index is inserted paid = λ m h places may.
      let ok : Result ℕ BinaryFault = Ok index in
      let cost = 20 + 2 * length n + option_case known (34 * own m.types (ty.Module k)) (λ i. 0) in
      let answer = paid-module x m h s t ok n k known paid (single m p n (kind.Module k) places s may) in
      let less = module-cost-after m h places may g index (grown m) (inserted k ∙ ap (λ c. cond c (Some index) (f k)) (eq-eqb k.0 k.0 refl)) in
      (cost, with-more m.types true (plain_imports m) cost s t ok answer, subst (λ o. (20 + 2 * length n + option_case o (34 * own m.types (ty.Module k)) (λ i. 0)) + 34 * modules_weight m f ≤ one_cost m.types (record { name = n; kind = kind.Module k }) + 34 * modules_weight m g) (sym is) less)
    where
      grown : (m : Merged) (j : ModuleTypeId) (v : ℕ) → f j ≡ Some v → (y : ℕ) × (g j ≡ Some y)
      grown m j v at = by ((IdEq.ghosts).eq k j) refl
        where
          by : (c : Bool) → (IdEq.ghosts).eq k j ≡ c → (y : ℕ) × (g j ≡ Some y)
          by true same = (index, inserted j ∙ ap (λ c. cond c (Some index) (f j)) same)
          by false other = (v, inserted j ∙ ap (λ c. cond c (Some index) (f j)) other ∙ at)

  -- the import is refused
  pub module-refused : {U : Type 0} (known : Option ℕ) (e : BinaryFault) (u : Result U BinaryFault) → known ≡ f k → IsErrAnd u (λ y. y ≡ e)
      → (let refused : Result ℕ BinaryFault = Err e in PaidBy x.writer.types.now x.writer.merged [] (20 + 2 * length n + option_case known (34 * own x.writer.types.now (ty.Module k)) (λ i. 0)) s t refused) → IsImportPaidWith x p n (kind.Module k) f g s t u
  module-refused {U = U} known e (Ok b) is h paid = absurd h
  module-refused {U = U} known e (Err y) is h paid = λ m w places may.
      let refused : Result ℕ BinaryFault = Err e in
      let cost = 20 + 2 * length n + option_case known (34 * own m.types (ty.Module k)) (λ i. 0) in
      let answer = paid-module x m w s t refused n k known paid (single m p n (kind.Module k) places s may) in
      let less = module-cost-after m w places may (λ j. Some 0) 0 (λ j v at. (0, refl)) refl in
      (cost, exit-answer {U = U} m.types true (plain_imports m) cost s t e (Err y) h (with-more m.types true (plain_imports m) cost s t refused answer), subst (λ o. (20 + 2 * length n + option_case o (34 * own m.types (ty.Module k)) (λ i. 0)) + 34 * modules_weight m f ≤ one_cost m.types (record { name = n; kind = kind.Module k }) + 34 * all_modules m) (sym is) less)

-- a step that is refused memory
pub module-memory : {U : Type 0} (x : ImportWriter) (p : ℕ) (n : Name) (k : ItemKind) (f g : ModuleTypeId → Option ℕ) (s t : State) (e : BinaryFault) (u : Result U BinaryFault) → IsErrAnd u (λ y. y ≡ e) → e ≡ OutOfMemory → IsImportPaidWith x p n k f g s t u
module-memory {U = U} x p n k f g s t e (Ok b) h memory = absurd h
module-memory {U = U} x p n k f g s t e (Err y) h memory = λ m w places may.
    (0, memory-answer {U = U} m.types true (plain_imports m) 0 s t e (Err y) h memory, let all = modules-all m f in omega (arith, all))

-- an import before which no module's type is written
pub plain-with : {T : Type 0} (x : ImportWriter) (p : ℕ) (n : Name) (k : ItemKind) (f : ModuleTypeId → Option ℕ) (s t : State) (r : Result T BinaryFault) → IsImportPaid x p n k s t r → IsImportPaidWith x p n k f f s t r
plain-with x p n k f s t r paid = λ m h places may. (one_cost m.types (record { name = n; kind = k }), paid m h places may, let least = after-least m f r in omega (arith, least))

-- ---- the loop over all imports
pub within-begun : (m : Merged) (f : ModuleTypeId → Option ℕ) (s : State) → total m.types true s ≡ 0 → AreFirstWithin m 0 f s
within-begun m f s none = omega (arith, none)

pub within-further : (m : Merged) (x : ImportWriter) (h : IsImportWriter x m) (p : ℕ) (e : Entry) (places : List (Sort × ℕ)) (f g : ModuleTypeId → Option ℕ) (s t : State) (index : ℕ) → MayFollow m p e.name e.kind places s → AreFirstWithin m p f s
    → (let ok : Result ℕ BinaryFault = Ok index in IsImportPaidWith x p e.name e.kind f g s t ok) → AreFirstWithin m (p + 1) g t
within-further m x h p e places f g s t index may within paid =
    let (cost, answer, less) = paid m h places may in
    within-next m p e cost f g s t may.there within answer less

pub imports-refused : (m : Merged) (x : ImportWriter) (h : IsImportWriter x m) (p : ℕ) (e : Entry) (places : List (Sort × ℕ)) (f g : ModuleTypeId → Option ℕ) (s t : State) (y : BinaryFault) (r : Result WrittenImports BinaryFault) → IsErrAnd r (λ z. z ≡ y) → MayFollow m p e.name e.kind places s → AreFirstWithin m p f s
    → (let refused : Result ℕ BinaryFault = Err y in IsImportPaidWith x p e.name e.kind f g s t refused) → ImportsWithin m r
imports-refused m x h p e places f g s t y (Ok w) is may within paid = absurd is
imports-refused m x h p e places f g s t y (Err OutOfMemory) is may within paid = tt
imports-refused m x h p e places f g s t OutOfMemory (Err TooLarge) is may within paid = let no : TooLarge ≡ OutOfMemory = is in cc
imports-refused m x h p e places f g s t TooLarge (Err TooLarge) is may within paid =
    let (cost, none, less) = paid m h places may in
    within-refused m p e cost f s may.written.root (single-around m.types true s (bound_before m p) may.written.good) may.there within none less

pub imports-memory : (m : Merged) (r : Result WrittenImports BinaryFault) → IsErrAnd r (λ z. z ≡ OutOfMemory) → ImportsWithin m r
imports-memory m (Ok w) is = absurd is
imports-memory m (Err OutOfMemory) is = tt
imports-memory m (Err TooLarge) is = let no : TooLarge ≡ OutOfMemory = is in cc

pub worlds-heavy : (m : Merged) → IsWellFormed m.types → AreHeld m.types m.imports → (y : BinaryFault) (r : Result WrittenImports BinaryFault) → IsErrAnd r (λ z. z ≡ y)
    → (IsLarge y → IsHeavy m.types (types_of m.imports)) → ImportsWithin m r
worlds-heavy m wf held y (Ok w) is heavy = absurd is
worlds-heavy m wf held y (Err OutOfMemory) is heavy = tt
worlds-heavy m wf held OutOfMemory (Err TooLarge) is heavy = let no : TooLarge ≡ OutOfMemory = is in cc
worlds-heavy m wf held TooLarge (Err TooLarge) is heavy = let (t, among, large) = heavy tt in heavy-import m wf held t (from_contains t (types_of m.imports) among) large

pub no-large : {T : Type 0} (r : Result T BinaryFault) → IsErrAnd r (λ z. z ≡ OutOfMemory) → IsTooLarge r → ⊥
no-large (Ok w) is large = absurd is
no-large (Err OutOfMemory) is large = large
no-large (Err TooLarge) is large = let no : TooLarge ≡ OutOfMemory = is in cc

-- the types of imports are those of their entries
pub entries-heavy : (c : Collection) (es : List (Name × ItemKind)) → IsHeavy c (map (λ e. kind_type e.1) es) → IsHeavy c (types_of (import_entries es))
entries-heavy c es heavy = subst (IsHeavy c) (sym (map-map (λ (e : Entry). kind_type e.kind) (λ (e : Name × ItemKind). record { name = e.0; kind = e.1 }) es)) heavy
