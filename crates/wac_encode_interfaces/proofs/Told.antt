-- An exported instance, whose value types are recorded.
use Rattle.std.specs.Prelude.{⊤}
use Rattle.std.proofs.Common.{ℕ, zero, suc, ◌<◌, ◌≡◌, nat_lt, length, arith, Result, Ok, Err, OnOk, Bool, true, false, List, [], ◌∷◌, Some, refl, ap, sym, ◌∙◌, subst}
use Rattle.std.proofs.Math.Path.{fun_ext}
use Rattle.wac_types_shapes.specs.primitives.Name.{Name}
use Rattle.wac_types_shapes.specs.primitives.Tree.{exported, named, Tree, instance_item}
use Rattle.wac_types_shapes.specs.shapes.Kinds.{kind_type}
use Rattle.wac_types_shapes.specs.declared.shapes.component.InterfaceId.{InterfaceId}
use Rattle.wac_types_shapes.specs.declared.shapes.component.Interface.{Interface}
use Rattle.wac_types_shapes.specs.declared.shapes.component.ResourceId.{ResourceId}
use Rattle.wac_types_shapes.specs.declared.shapes.component.ItemKind.{ItemKind}
use Rattle.wac_types_shapes.specs.declared.shapes.component.ItemKind.TheVariants as kind
use Rattle.wac_types_shapes.specs.declared.shapes.component.«Type».TheVariants as ty
use Rattle.wac_types_collection.specs.collection.Collection.{Collection, IsWellFormed, HasInterface, holds_type, item_at}
use Rattle.wac_types_collection.specs.declared.collection.collection.Held.{Held}
use Rattle.wac_types_collection.proofs.lemmas.collection.Steady.{within}
use Rattle.wac_types_collection.specs.collection.Bound.{Bindings}
use Rattle.wac_binary.specs.Unfold.{Bound, Scope}
use Rattle.wac_encode_stacks.specs.Scopes.{Open}
use Rattle.wac_encode_stacks.specs.Good.{At, Good, IsHeld, Onward, innermost, top}
use Rattle.wac_encode_stacks.specs.Listed.{FreshInInterface, IsItem}
use Rattle.wac_encode_stacks.specs.Instances.{ShowsWhole, taken_leaf}
use Rattle.wac_encode_stacks.specs.private.Brought.{GoodOnce}
use Rattle.wac_encode_scopes.specs.declared.state.State.{State}
use Rattle.wac_encode_scopes.specs.States.{stack, AllAddTypes, Goes, RecordsHere}
use Rattle.wac_encode_scopes.specs.private.Told.{TellsItems}
use Rattle.wac_encode_scopes.specs.private.Telling.{is_one_of, with_own_names, TellsInstance, telling}
use Rattle.wac_encode_interfaces.specs.private.Items.{AddsItem, RefersToItem}
use Rattle.wac_encode_interfaces.specs.private.Worlds.{Worlds}
use Rattle.wac_encode_interfaces.specs.declared.level.Level.{Level}
use Rattle.wac_encode_interfaces.specs.private.Names.{HasInstance}
use Rattle.wac_encode_interfaces.specs.private.Nests.{IsLevel, IsNextItem, IsNest, IsUnderWay}
use Rattle.wac_encode_interfaces.proofs.Besides.{listed-other}
use Rattle.wac_encode_interfaces.proofs.Nests.{added-next}
use Rattle.wac_encode_interfaces.proofs.Parts.{nest-inside, nest-listed}
use Rattle.wac_encode_interfaces.proofs.Shown.{unlisted, unbound}

-- ---- a step that records what an instance exports

no-own : (c : Collection) (it : Interface) (x : Bound) (m : Bindings) (rs : List ResourceId) → rs ≡ [] → with_own_names c it.uses it.exports (is_one_of rs) (taken_leaf x) m ≡ m
no-own c it x m rs is = ap (λ (qs : List ResourceId). with_own_names c it.uses it.exports (is_one_of qs) (taken_leaf x) m) is ∙ fun_ext (λ (r : ResourceId). refl)

none-own : (rs : List ResourceId) (r : ResourceId) → rs ≡ [] → is_one_of rs r ≡ true → ⊥
none-own rs r is h = let no : false ≡ true = sym (ap (λ (qs : List ResourceId). is_one_of qs r) is) ∙ h in cc

pub told : ShowsWhole → (c : Collection) → IsWellFormed c → (b : Bool) (f : Open → Open) (s t : State) (k : ItemKind) (i : InterfaceId) (j : ℕ) (it : Interface) (rs : List ResourceId) → k ≡ kind.Instance i → item_at c.interfaces i.0 ≡ Some it → rs ≡ [] → HasInstance c b s k j
    → RecordsHere b f s t → TellsInstance c b it (is_one_of rs) j s t → AllAddTypes s t → Goes c b s t
told law c wf b f s t k i j it rs is at none has records tells types = record {
  onward = onward;
  other = listed-other b f s s t (refl, λ d. refl) records;
  types = types;
}
  where
    onward : (ms : List Bindings) → Good c ms (stack b s) → Onward c ms (stack b s) (stack b t)
    onward [] good = absurd good
    onward (m ∷ ms) good =
        let x = subst (λ (d : ItemKind). HasInstance c b s d j) is has (m ∷ ms) good in
        subst (λ (n : Bindings). Onward c (n ∷ ms) (stack b s) (stack b t)) (no-own c it x.0 m rs none)
        (tells m ms x.0 good x.2 (law c wf m i it x.0 at x.1) (λ r n own name. absurd (none-own rs r none own)))

-- ---- the instance that was added

item-instance : (c : Collection) (m : Bindings) (e : Scope) (n : Name) (i : InterfaceId) (j : ℕ) (t : Tree) → IsItem c m exported n (kind.Instance i) t → RefersToItem e exported n (kind.Instance i) j t → (x : Bound) × IsHeld c m (ty.Interface i) x.type × At e.instances j x
item-instance c m e n i j (instance_item t) item refers = (record { type = t; side = exported; path = named n ∷ [] }, item, refers)
item-instance c m e n i j t item refers = absurd item

instance-added : GoodOnce → FreshInInterface → (c : Collection) (b : Bool) (ws : Worlds) (s t : State) (l : Level) (ks : List Level) → IsUnderWay c b ws s l ks → (n : Name) (i : InterfaceId) (j : ℕ) → IsNextItem c l n (kind.Instance i) → AddsItem c b exported n (kind.Instance i) s t j → HasInstance c b t (kind.Instance i) j
instance-added once fresh c b ws s t l ks u n i j x adds ns there =
    let at = u.3.1 u.4.bindings u.4.good in
    by at.0 at.1 at.2
  where
    by : (ms : List Bindings) → Good c ms (stack b s) → IsNest c u.0 u.1 u.4.bindings (stack b u.2) l ks ms (stack b s) → (y : Bound) × IsHeld c (top ns) (ty.Interface i) y.type × At ((innermost (stack b t)).instances) j y
    by [] good nest = absurd good
    by (m ∷ ms) good nest =
        let h : IsLevel c l = u.3.2.0 in
        let inside = nest-inside c u.0 u.1 u.4.bindings (stack b u.2) l ks m ms (stack b s) nest in
        let listed = nest-listed c u.0 u.1 u.4.bindings (stack b u.2) l ks m ms (stack b s) nest in
        let step = added-next c b n (kind.Instance i) j s t l x m ms (unlisted c l h n (kind.Instance i) x) (unbound c l h n (kind.Instance i) x fresh) adds good inside listed in
        let same = once c (m ∷ ms) ns (stack b t) step.2.good there in
        let y = item-instance c m (innermost (stack b t)) n i j step.0 step.1 step.2.refers in
        (y.0, subst (λ (zs : List Bindings). IsHeld c (top zs) (ty.Interface i) y.0.type) same y.1, y.2)

pub has-instance : GoodOnce → FreshInInterface → (c : Collection) (b : Bool) (ws : Worlds) (s t : State) (l : Level) (ks : List Level) → IsUnderWay c b ws s l ks → (n : Name) (k : ItemKind) (j : ℕ) → IsNextItem c l n k → AddsItem c b exported n k s t j → HasInstance c b t k j
has-instance once fresh c b ws s t l ks u n (kind.Instance i) j x adds = instance-added once fresh c b ws s t l ks u n i j x adds
has-instance once fresh c b ws s t l ks u n (kind.TypeItem a) j x adds = tt
has-instance once fresh c b ws s t l ks u n (kind.Func f) j x adds = tt
has-instance once fresh c b ws s t l ks u n (kind.Component w) j x adds = tt
has-instance once fresh c b ws s t l ks u n (kind.Module m) j x adds = tt
has-instance once fresh c b ws s t l ks u n (kind.Value v) j x adds = tt

-- ---- what the call says

some-of : {A E P Q R S : Type 0} → (r : Result A E) → (P → Q → R → S) → OnOk r P → OnOk r Q → R → OnOk r S
some-of (Ok x) f p q r = f p q r
some-of (Err e) f p q r = tt

pub empty-keys : {A : Type 0} (rs : List A) → length rs ≡ 0 → rs ≡ []
empty-keys [] h = refl
empty-keys (r ∷ rs) h = let long : suc (length rs) ≡ zero = h in absurd (omega (arith, long))

pub instance-held : (c : Collection) (k : ItemKind) (i : InterfaceId) → k ≡ kind.Instance i → holds_type c (kind_type k) ≡ true → HasInterface c i
instance-held c k i is held =
    let here : nat_lt i.0 (length c.interfaces) ≡ true = subst (λ (d : ItemKind). holds_type c (kind_type d) ≡ true) is held in
    within i.0 (length c.interfaces) here

there-is : {A : Type 0} (xs : List (Held A)) (i : ℕ) → i < length xs → (x : A) × (item_at xs i ≡ Some x)
there-is [] i low = absurd (omega (arith, low))
there-is (x ∷ xs) zero low = (x.item, refl)
there-is (x ∷ xs) (suc i) low = there-is xs i (omega (arith, low))

pub told-ok : {E : Type 0} → ShowsWhole → (c : Collection) → IsWellFormed c → (b : Bool) (s t : State) (k : ItemKind) (i : InterfaceId) (j : ℕ) (rs : List ResourceId) → rs ≡ [] → k ≡ kind.Instance i → HasInterface c i → HasInstance c b s k j → (r : Result ⊤ E)
    → OnOk r ((it : Interface) → item_at c.interfaces i.0 ≡ Some it → TellsItems c b it (is_one_of rs) j s t) → OnOk r ((it : Interface) → item_at c.interfaces i.0 ≡ Some it → TellsInstance c b it (is_one_of rs) j s t) → AllAddTypes s t → OnOk r (Goes c b s t)
told-ok law c wf b s t k i j rs none is held has r records tells types =
    let it = there-is c.interfaces i.0 held in
    some-of r (λ p q types. let told-items = p it.0 it.1 in told law c wf b (telling c it.0 (is_one_of rs) told-items.told j) s t k i j it.0 rs is it.1 none has told-items.records (q it.0 it.1) types) records tells types
