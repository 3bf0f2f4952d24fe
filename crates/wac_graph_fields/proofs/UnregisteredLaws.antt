-- An id whose package was unregistered is never valid again.
use Rattle.std.proofs.Common.{◌≡◌, ◌≢◌, ℕ, zero, suc, ◌+◌, Bool, true, false, cond, List, [], ◌∷◌, ◌++◌, refl, ap, ◌∙◌, sym, subst, arith, ◌==◌, Option, Some, None, IsSome, Result, Ok, Err, inl, inr}
use Rattle.std.specs.Prelude.{slice_get, slice_set, IsSomeAnd}
use Rattle.std.proofs.lemmas.Bool.{eqb-true}
use Rattle.std.proofs.lemmas.Option.{slice_get_within}
use Rattle.wac_types_collection.specs.collection.Package.{PackageParts}
use Rattle.wac_graph_model.specs.declared.nodes.errors.RegisterPackageError.{RegisterPackageError}
use Rattle.wac_graph_model.specs.declared.nodes.errors.RegisterPackageError.TheVariants as register
use Rattle.wac_graph_model.specs.declared.nodes.packages.PackageId.{PackageId}
use Rattle.wac_graph_model.specs.declared.nodes.packages.Slot.{Slot}
use Rattle.wac_graph_model.specs.nodes.Graph.{Graph, package_at, package_in}
use Rattle.wac_graph_model.specs.nodes.Sound.{IsSound}
use Rattle.wac_graph_model.specs.nodes.Steps as steps
use Rattle.wac_graph_model.specs.nodes.Steps.{Registers, TakesSlot}
use Rattle.wac_graph_model.proofs.lemmas.nodes.Added.{by_eq}
use Rattle.wac_graph_fields.specs.Unregistering.{FreesSlot, freed, spent, IsOver, IsSpent}
use Rattle.wac_graph_fields.proofs.SlotLemmas.{set_here, set_other, last_other, held_slot, no_package}

the_slot : {x y : Slot} → Some x ≡ Some y → x ≡ y
the_slot h = cc

-- a slot of an id that is spent
over_some : (g : Graph) (id : PackageId) → IsSpent g id → (x : Slot) × (slice_get g.slots id.slot ≡ Some x) × IsOver id g.vacant x
over_some g id h = by_slot (slice_get g.slots id.slot) refl h where
  by_slot : (o : Option Slot) → slice_get g.slots id.slot ≡ o → IsSomeAnd o (IsOver id g.vacant) → (x : Slot) × (slice_get g.slots id.slot ≡ Some x) × IsOver id g.vacant x
  by_slot None at k = absurd k
  by_slot (Some x) at k = (x, at, k)

over_at : (g : Graph) (id : PackageId) (x : Slot) → slice_get g.slots id.slot ≡ Some x → IsOver id g.vacant x → IsSpent g id
over_at g id x at over = subst (λ o. IsSomeAnd o (IsOver id g.vacant)) (sym at) over

pub spent_invalid : (g : Graph) (id : PackageId) → IsSpent g id → package_at g id ≡ None
spent_invalid g id h = let (x, at, over) = over_some g id h in ap (λ o. package_in o id) at ∙ none x over where
  none : (x : Slot) → IsOver id g.vacant x → package_in (Some x) id ≡ None
  none x (inl later) = split (x.generation == id.generation) refl where
    split : (b : Bool) → (x.generation == id.generation) ≡ b → cond b x.«package» None ≡ None
    split false _ = refl
    split true is = let same = eqb-true x.generation id.generation is in absurd (omega (arith, later, same))
  none x (inr (same, empty, unused)) = ap (λ o. cond (x.generation == id.generation) o None) empty ∙ both (x.generation == id.generation) None refl where
    both : (b : Bool) (o : Option PackageParts) → o ≡ None → cond b o None ≡ None
    both true o is = is
    both false o is = refl

-- where slots and vacancy are the same
pub spent_same : (old new : Graph) (id : PackageId) → IsSpent old id → new.slots ≡ old.slots → new.vacant ≡ old.vacant → IsSpent new id
spent_same old new id h slots vacant = subst (λ vs. IsSomeAnd (slice_get new.slots id.slot) (IsOver id vs)) (sym vacant) (subst (λ xs. IsSomeAnd (slice_get xs id.slot) (IsOver id old.vacant)) (sym slots) h)

-- fewer slots may be used again
less_over : (id : PackageId) (x : Slot) (vacant less : List ℕ) → ((i : ℕ) → slice_get less i ≡ Some id.slot → (j : ℕ) × (slice_get vacant j ≡ Some id.slot)) → IsOver id vacant x → IsOver id less x
less_over id x vacant less part (inl later) = inl later
less_over id x vacant less part (inr (same, empty, unused)) = inr (same, empty, λ i at. let (j, was) = part i at in unused j was)

-- ---- a package is registered
pub spent_takes : (old new : Graph) (id other : PackageId) (p : PackageParts) → IsSpent old id → TakesSlot old p other new → IsSpent new id
spent_takes old new id other p h (steps.freed number generation rest listed at is new_is) =
    let (x, there, over) = over_some old id h in
    subst (λ g. IsSpent g id) (sym new_is) (by_eq id.slot number (λ same. here x there over same) (λ differ. elsewhere x there over differ)) where
      full : Slot
      full = record { generation = generation; «package» = Some p }

      next : Graph
      next = record old { slots = slice_set old.slots number (record { generation = generation; «package» = Some p }); vacant = rest }

      part : (i : ℕ) → slice_get rest i ≡ Some id.slot → (j : ℕ) × (slice_get old.vacant j ≡ Some id.slot)
      part i k = (suc i, ap (λ xs. slice_get xs (suc i)) listed ∙ k)

      elsewhere : (x : Slot) → slice_get old.slots id.slot ≡ Some x → IsOver id old.vacant x → id.slot ≢ number → IsSpent (record old { slots = slice_set old.slots number (record { generation = generation; «package» = Some p }); vacant = rest }) id
      elsewhere x there over differ = over_at (record old { slots = slice_set old.slots number (record { generation = generation; «package» = Some p }); vacant = rest }) id x (set_other old.slots number id.slot (record { generation = generation; «package» = Some p }) differ ∙ there) (less_over id x old.vacant rest part over)

      here : (x : Slot) → slice_get old.slots id.slot ≡ Some x → IsOver id old.vacant x → id.slot ≡ number → IsSpent (record old { slots = slice_set old.slots number (record { generation = generation; «package» = Some p }); vacant = rest }) id
      here x there (inr (same, empty, unused)) is_here = absurd (unused 0 (ap (λ xs. slice_get xs 0) listed ∙ ap Some (sym is_here)))
      here x there (inl later) is_here =
          let alike : x.generation ≡ generation = ap (λ (y : Slot). y.generation) (the_slot (sym there ∙ ap (slice_get old.slots) is_here ∙ at)) in
          over_at (record old { slots = slice_set old.slots number (record { generation = generation; «package» = Some p }); vacant = rest }) id (record { generation = generation; «package» = Some p })
          (ap (slice_get (slice_set old.slots number (record { generation = generation; «package» = Some p }))) is_here ∙ set_here old.slots number (record { generation = generation; «package» = None }) (record { generation = generation; «package» = Some p }) at)
          (inl (omega (arith, later, alike)))
spent_takes old new id other p h (steps.added none is new_is) =
    let (x, there, over) = over_some old id h in
    let small = slice_get_within old.slots id.slot x there in
    subst (λ g. IsSpent g id) (sym new_is)
    (over_at (record old { slots = old.slots ++ record { generation = 0; «package» = Some p } ∷ [] }) id x (last_other old.slots (record { generation = 0; «package» = Some p }) id.slot (λ same. absurd (omega (arith, small, same))) ∙ there) over)

pub spent_registers : (old new : Graph) (id : PackageId) (p : PackageParts) (result : Result PackageId RegisterPackageError) → IsSpent old id → Registers old p result new → IsSpent new id
spent_registers old new id p (Ok other) h step = spent_takes old new id other p h step.1
spent_registers old new id p (Err (register.PackageAlreadyRegistered key)) h step = subst (λ g. IsSpent g id) (sym step.0) h
spent_registers old new id p (Err register.OutOfMemory) h step = subst (λ g. IsSpent g id) (sym step) h

-- ---- a package is unregistered
module _ (old new : Graph) (s : IsSound old) where
  pub spent_frees : (id : PackageId) → IsSome (package_at old id) → FreesSlot old.slots old.vacant id new.slots new.vacant → IsSpent new id
  spent_frees id there (freed small is noted) =
      let held = held_slot old.slots id there in
      over_at new id (record { generation = id.generation + 1; «package» = None }) (ap (λ xs. slice_get xs id.slot) is ∙ set_here old.slots id.slot held.0 (record { generation = id.generation + 1; «package» = None }) held.1) (inl (omega arith))
  spent_frees id there (spent none is noted) =
      let held = held_slot old.slots id there in
      over_at new id (record { generation = id.generation; «package» = None }) (ap (λ xs. slice_get xs id.slot) is ∙ set_here old.slots id.slot held.0 (record { generation = id.generation; «package» = None }) held.1)
      (inr (
        refl,
        refl,
        λ i at. let was : slice_get old.vacant i ≡ Some id.slot = ap (λ xs. slice_get xs i) (sym noted) ∙ at in
            no_package old.slots old.vacant id new.slots new.vacant there (spent none is noted) id.slot (s.vacant i id.slot was) refl,
      ))

  pub spent_still : (id other : PackageId) → IsSome (package_at old other) → IsSpent old id → FreesSlot old.slots old.vacant other new.slots new.vacant → IsSpent new id
  spent_still id other there h f =
      let (x, at, over) = over_some old id h in
      let held = held_slot old.slots other there in
      by_eq id.slot other.slot (λ same. here x at over held.0 held.1 held.2 held.3 same f) (λ differ. elsewhere x at over differ f) where
        wrong : (o : Option PackageParts) → IsSome o → o ≡ None → ⊥
        wrong None k is = cc
        wrong (Some p) k is = cc

        here : (x : Slot) → slice_get old.slots id.slot ≡ Some x → IsOver id old.vacant x → (y : Slot) → slice_get old.slots other.slot ≡ Some y → y.generation ≡ other.generation → package_in (slice_get old.slots other.slot) other ≡ y.«package» → id.slot ≡ other.slot → FreesSlot old.slots old.vacant other new.slots new.vacant → IsSpent new id
        here x at (inr (same, empty, unused)) y has of parts is_here f =
            let alike : x ≡ y = the_slot (sym at ∙ ap (slice_get old.slots) is_here ∙ has) in
            absurd (wrong (package_in (slice_get old.slots other.slot) other) there (parts ∙ ap (λ (z : Slot). z.«package») (sym alike) ∙ empty))
        here x at (inl later) y has of parts is_here (freed small is noted) =
            let alike : x.generation ≡ other.generation = ap (λ (z : Slot). z.generation) (the_slot (sym at ∙ ap (slice_get old.slots) is_here ∙ has)) ∙ of in
            over_at new id (record { generation = other.generation + 1; «package» = None }) (ap (slice_get new.slots) is_here ∙ ap (λ xs. slice_get xs other.slot) is ∙ set_here old.slots other.slot y (record { generation = other.generation + 1; «package» = None }) has)
            (inl (omega (arith, later, alike)))
        here x at (inl later) y has of parts is_here (spent none is noted) =
            let alike : x.generation ≡ other.generation = ap (λ (z : Slot). z.generation) (the_slot (sym at ∙ ap (slice_get old.slots) is_here ∙ has)) ∙ of in
            over_at new id (record { generation = other.generation; «package» = None }) (ap (slice_get new.slots) is_here ∙ ap (λ xs. slice_get xs other.slot) is ∙ set_here old.slots other.slot y (record { generation = other.generation; «package» = None }) has)
            (inl (omega (arith, later, alike)))

        elsewhere : (x : Slot) → slice_get old.slots id.slot ≡ Some x → IsOver id old.vacant x → id.slot ≢ other.slot → FreesSlot old.slots old.vacant other new.slots new.vacant → IsSpent new id
        elsewhere x at over differ (freed small is noted) =
            over_at new id x (ap (λ xs. slice_get xs id.slot) is ∙ set_other old.slots other.slot id.slot (record { generation = other.generation + 1; «package» = None }) differ ∙ at)
            (less_over id x old.vacant new.vacant (λ i k. part i (ap (λ xs. slice_get xs i) (sym noted) ∙ k)) over) where
              part : (i : ℕ) → slice_get (other.slot ∷ old.vacant) i ≡ Some id.slot → (j : ℕ) × (slice_get old.vacant j ≡ Some id.slot)
              part zero k = let same : other.slot ≡ id.slot = cc in absurd (differ (sym same))
              part (suc i) k = (i, k)
        elsewhere x at over differ (spent none is noted) =
            over_at new id x (ap (λ xs. slice_get xs id.slot) is ∙ set_other old.slots other.slot id.slot (record { generation = other.generation; «package» = None }) differ ∙ at)
            (less_over id x old.vacant new.vacant (λ i k. (i, ap (λ xs. slice_get xs i) (sym noted) ∙ k)) over)
