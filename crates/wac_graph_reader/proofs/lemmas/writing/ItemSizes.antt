-- How many bytes the items of a graph have in the root.
use Rattle.std.proofs.Common.{ℕ, ◌+◌, ◌*◌, ◌<◌, ◌≤◌, ◌^◌, Bool, List, [], ◌∷◌, ◌++◌, length, take, filter, ap, sym, ◌∙◌, subst, arith, ◌≡◌, inl, inr, length-append, Option, Some, None}
use Rattle.std.specs.Prelude.{Result, Ok, Err, IsErrAnd, IfSome, if◌then◌else◌}
use Rattle.std.specs.List.{AllByRecursion, flat_map, sum_by}
use Rattle.std.proofs.lemmas.Bool.{cases_lt}
use Rattle.std.proofs.lemmas.List.Sums.{sum_by-cons, sum_by-append, sum_by_push, sum_by-take-le}
use Rattle.wac_types_shapes.specs.primitives.Name.{Name}
use Rattle.wac_types_weight.proofs.Sums.{sum_filter}
use Rattle.wac_binary.specs.Leb.{unsigned}
use Rattle.wac_binary.specs.private.LebLaws.{leb_length}
use Rattle.wac_binary.specs.declared.sorts.Sort.{Sort}
use Rattle.wac_binary.specs.declared.sorts.Sort.TheVariants as s
use Rattle.wac_binary.specs.declared.fault.BinaryFault.{BinaryFault}
use Rattle.wac_binary.specs.declared.fault.BinaryFault.TheVariants as fault
use Rattle.wac_binary.specs.Items.{Item, nested, instantiate, alias_item, export_alias, export_item}
use Rattle.wac_binary.specs.Bytes.{text, sort, argument, vector}
use Rattle.wac_binary.specs.Fits.{Fits}
use Rattle.wac_edges.specs.declared.node.NodeId.{NodeId}
use Rattle.wac_encode_stacks.specs.Scopes.{root}
use Rattle.wac_encode_stacks.specs.private.Sizes.{item_size, SmallFits}
use Rattle.wac_encode_stacks.proofs.Sizes.{unsigned_short, text_short}
use Rattle.wac_graph_model.specs.declared.causes.errors.EncodeError.{EncodeError}
use Rattle.wac_graph_model.specs.declared.causes.errors.EncodeError.TheVariants as error
use Rattle.wac_graph_model.specs.nodes.Graph.{Graph}
use Rattle.wac_graph_model.specs.meaning.Means.{is_further, further_exports}
use Rattle.wac_graph_model.specs.private.causes.Faults.{encode_error}
use Rattle.wac_graph_model.specs.private.weight.Costs.{export_cost}
use Rattle.wac_graph_reader.specs.private.writing.Further.{further_of, further_at}
use Rattle.wac_graph_reader.specs.private.writing.Sizes.{items_size, AddsWithin, FaultUnless}

-- ---- the size of an item
pub sort_short : (t : Sort) → length (sort t) ≤ 2
sort_short s.CoreModule = omega arith
sort_short s.Func = omega arith
sort_short s.Value = omega arith
sort_short s.«Type» = omega arith
sort_short s.Component = omega arith
sort_short s.Instance = omega arith

pub alias_size : (t : Sort) (i : ℕ) (n : Name) → i < 2 ^ 32 → item_size (alias_item (export_alias t i n)) ≤ 20 + 2 * length n
alias_size t i n short = omega (arith, length-append (sort t) (0 ∷ (unsigned i ++ text n)), sort_short t, length-append (unsigned i) (text n), unsigned_short i short, text_short n)

pub export_size : (n : Name) (t : Sort) (i : ℕ) → i < 2 ^ 32 → item_size (export_item n t i) ≤ 21 + 2 * length n
export_size n t i short =
    omega (arith, length-append (text n ++ sort t ++ unsigned i) (0 ∷ []), length-append (text n ++ sort t) (unsigned i), length-append (text n) (sort t), sort_short t, unsigned_short i short, text_short n)

argument_size : (a : Name × Sort × ℕ) → a.2 < 2 ^ 32 → length (argument a) ≤ 8 + 2 * length a.0
argument_size a short = omega (arith, length-append (text a.0 ++ sort a.1) (unsigned a.2), length-append (text a.0) (sort a.1), sort_short a.1, unsigned_short a.2 short, text_short a.0)

arguments_size : (given : List (Name × Sort × ℕ)) → AllByRecursion (λ a. a.2 < 2 ^ 32) given → length given + length (flat_map argument given) ≤ sum_by (λ a. 9 + 2 * length a.0) given
arguments_size [] short = omega arith
arguments_size (a ∷ given) short =
    let first = argument_size a short.0 in
    let rest = arguments_size given short.1 in
    let both = length-append (argument a) (flat_map argument given) in
    omega (arith, first, rest, both, sum_by-cons (λ b. 9 + 2 * length b.0) a given)

pub instantiate_size : (c : ℕ) (given : List (Name × Sort × ℕ)) → c < 2 ^ 32 → AllByRecursion (λ a. a.2 < 2 ^ 32) given → item_size (instantiate c given) ≤ 18 + sum_by (λ a. 9 + 2 * length a.0) given
instantiate_size c given short all =
    let whole = length-append (unsigned c) (vector argument given) in
    let listed = length-append (unsigned (length given)) (flat_map argument given) in
    omega (arith, whole, listed, unsigned_short c short, leb_length 128 (length given), arguments_size given all)

pub nested_size : (bytes : List ℕ) → item_size (nested bytes) ≤ 11 + length bytes
nested_size bytes = omega arith

-- ---- what is added
pub added_size : (old new : List Item) (x : Item) (n : ℕ) → new ≡ old ++ x ∷ [] → item_size x ≤ n → items_size new ≤ items_size old + n
added_size old new x n is small = let same = ap items_size is in let push = sum_by_push item_size old x in omega (arith, same, push, small)

-- items that do not fit are many
pub no_room : SmallFits → (old : List Item) (x : Item) (n : ℕ) → item_size x ≤ n → (Fits (old ++ x ∷ []) → ⊥) → 2 ^ 32 ≤ items_size old + n
no_room fits old x n small none = elim (cases_lt (items_size (old ++ x ∷ [])) (2 ^ 32)) [
  | inl few ↦ absurd (none (fits (root (old ++ x ∷ [])) few))
  | inr many ↦ let push = sum_by_push item_size old x in omega (arith, many, push, small)
]

-- ---- what a `?` hands on
pub exit_within : {T : Type 0} (n : ℕ) (old new : List Item) (r : Result T EncodeError) (e : EncodeError) → IsErrAnd r (λ y. y ≡ e) → (e ≡ error.TooLarge → 2 ^ 32 ≤ items_size old + n) → AddsWithin n old new r
exit_within n old new (Ok x) e h p = absurd h
exit_within n old new (Err y) e h p = λ large. p (sym h ∙ large)

pub exit_memory : {T : Type 0} (n : ℕ) (old new : List Item) (r : Result T EncodeError) → IsErrAnd r (λ y. y ≡ error.OutOfMemory) → AddsWithin n old new r
exit_memory n old new r h = exit_within n old new r error.OutOfMemory h (λ large. absurd (apart large))
  where
    apart : error.OutOfMemory ≡ error.TooLarge → ⊥
    apart h = cc

pub exit_fault : {T : Type 0} (n : ℕ) (old new : List Item) (r : Result T EncodeError) (f : BinaryFault) → IsErrAnd r (λ y. y ≡ encode_error f) → f ≡ fault.OutOfMemory → AddsWithin n old new r
exit_fault n old new r f h memory = exit_memory n old new r (subst (λ g. IsErrAnd r (λ y. y ≡ encode_error g)) memory h)

pub exit_added : SmallFits → {U : Type 0} (built old new : List Item) (x : Item) (n : ℕ) (f : BinaryFault) (r : Result U EncodeError) → IsErrAnd r (λ y. y ≡ encode_error f) → built ≡ old → item_size x ≤ n
    → FaultUnless f (Fits (built ++ x ∷ [])) → AddsWithin n old new r
exit_added fits built old new x n fault.TooLarge r h was small none = exit_within n old new r error.TooLarge h (λ large. no_room fits old x n small (subst (λ xs. Fits (xs ++ x ∷ []) → ⊥) was none))
exit_added fits built old new x n fault.OutOfMemory r h was small none = exit_memory n old new r h

-- what holds of a node, if there is one
pub if_each : {A : Type 0} (P : A → Type 0) (o : Option A) → ((x : A) → P x) → IfSome o P
if_each P None all = tt
if_each P (Some x) all = all x

-- ---- further exports
pub further_cost : (g : Graph) (i : ℕ) (n : Name) (id : NodeId) → further_at g i ≡ (n, id) ∷ [] → sum_by export_cost (further_at g i) ≡ 21 + 2 * length n
further_cost g i n id is = let same = ap (sum_by export_cost) is in omega (arith, same, sum_by-cons export_cost (n, id) [])

kept_less : (p : Name × NodeId → Bool) (f : Name × NodeId → ℕ) (k : ℕ) (xs : List (Name × NodeId)) → sum_by f (filter p (take k xs)) ≤ sum_by f (filter p xs)
kept_less p f k xs =
    let short = sum_filter p f (take k xs) in
    let long = sum_filter p f xs in
    let less = sum_by-take-le (λ x. if p x then f x else 0) xs k in
    omega (arith, short, long, less)

pub further_less : (g : Graph) (k : ℕ) → sum_by export_cost (further_of g (take k g.exports)) ≤ sum_by export_cost (further_exports g)
further_less g k = kept_less (is_further g) export_cost k g.exports

pub further_sum : (g : Graph) (k : ℕ) → further_of g (take (k + 1) g.exports) ≡ further_of g (take k g.exports) ++ further_at g k
    → sum_by export_cost (further_of g (take (k + 1) g.exports)) ≡ sum_by export_cost (further_of g (take k g.exports)) + sum_by export_cost (further_at g k)
further_sum g k more = let same = ap (sum_by export_cost) more in let both = sum_by-append export_cost (further_of g (take k g.exports)) (further_at g k) in omega (arith, same, both)
