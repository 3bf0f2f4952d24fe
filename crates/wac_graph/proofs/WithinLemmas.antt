-- From what is written to the bound that the weight of a graph gives.
use Rattle.std.proofs.Common.{ℕ, ◌+◌, ◌*◌, ◌^◌, ◌≤◌, ◌≡◌, List, [], ◌∷◌, None, Some, inl, inr, sym, ap, ◌∙◌, refl, arith}
use Rattle.std.specs.Prelude.{Result, Ok, Err, IfErr, IsErrAnd}
use Rattle.std.specs.List.{sum_by}
use Rattle.std.proofs.lemmas.List.Sums.{sum_by-cons}
use Rattle.wac_types_shapes.specs.shapes.Kinds.{kind_type}
use Rattle.wac_types_collection.specs.collection.Collection.{Collection, IsWellFormed}
use Rattle.wac_types_weight.specs.Weight.{near_all}
use Rattle.wac_types_weight.specs.Text.{own_texts, entry_weight, bare_weight}
use Rattle.wac_merge_classes.specs.entries.Classes.{Entry}
use Rattle.wac_merge_classes.specs.terms.Merge.{Merged}
use Rattle.wac_merge_imports.specs.unions.Lighter.{IsLighter, name_weight, types_of}
use Rattle.wac_binary.specs.declared.fault.BinaryFault.{BinaryFault}
use Rattle.wac_binary.specs.declared.fault.BinaryFault.TheVariants as fault
use Rattle.wac_encode_imports.specs.private.Small.{imports_cost, IsFaultWithin}
use Rattle.wac_encode_imports.specs.private.Told.{entries_items}
use Rattle.wac_edges.specs.Order.{Writes}
use Rattle.wac_edges.specs.declared.node.NodeId.{NodeId}
use Rattle.wac_graph_model.specs.causes.Cause.{Cause, cause_of}
use Rattle.wac_graph_model.specs.declared.causes.errors.EncodeError.{EncodeError}
use Rattle.wac_graph_model.specs.declared.causes.errors.EncodeError.TheVariants as error
use Rattle.wac_graph_model.specs.declared.nodes.options.EncodeOptions.{EncodeOptions}
use Rattle.wac_graph_model.specs.meaning.Means.{is_written}
use Rattle.wac_graph_model.specs.nodes.Graph.{Graph}
use Rattle.wac_graph_model.specs.nodes.OuterImports.{outer_entries}
use Rattle.wac_graph_model.specs.nodes.Sound.{IsSound}
use Rattle.wac_graph_model.specs.private.causes.Faults.{encode_error}
use Rattle.wac_graph_model.specs.private.causes.Search.{IsRefused, NamesFault}
use Rattle.wac_graph_model.specs.private.weight.AskedWeight.{entries_weight}
use Rattle.wac_graph_model.specs.private.weight.Written.{OrderFits, order_cost}
use Rattle.wac_graph_model.specs.weight.GraphWeight.{bound}
use Rattle.wac_names.specs.validation.FirstFault.{Fault}

-- ---- imports
items_same : (c : Collection) (es : List Entry) → entries_items c es ≡ sum_by (entry_weight c) (types_of es)
items_same c [] = refl
items_same c (e ∷ es) = sum_by-cons (λ (x : Entry). entry_weight c (kind_type x.kind)) e es ∙ ap (λ n. entry_weight c (kind_type e.kind) + n) (items_same c es) ∙ sym (sum_by-cons (entry_weight c) (kind_type e.kind) (types_of es))

sums : (n e b o names items inside near told : ℕ) → names ≤ n → items ≤ e → inside ≤ b → near ≤ o → told ≡ e → (33 * names + 32 * items + 37 * inside + 34 * near) + 4 * told ≤ 37 * (n + e + b + o)
sums n e b o names items inside near told a1 a2 a3 a4 a5 = omega (arith, a1, a2, a3, a4, a5)

pub imports_within : (g : Graph) (m : Merged) → IsLighter g.types (outer_entries g) m → imports_cost m + 4 * entries_items g.types (outer_entries g) ≤ 37 * entries_weight g.types (outer_entries g)
imports_within g m lighter =
    let es = outer_entries g in
    sums (sum_by name_weight es) (sum_by (entry_weight g.types) (types_of es)) (sum_by (bare_weight g.types) (types_of es)) (own_texts g.types (near_all g.types (types_of es)))
    (sum_by name_weight m.imports) (sum_by (entry_weight m.types) (types_of m.imports)) (sum_by (bare_weight m.types) (types_of m.imports)) (own_texts m.types (near_all m.types (types_of m.imports)))
    (entries_items g.types es) lighter.names lighter.items lighter.inside lighter.near (items_same g.types es)

-- ---- the bound
pub written_within : OrderFits → (g : Graph) (o : EncodeOptions) (order : List NodeId) (m : Merged) (imports : ℕ) → IsWellFormed g.types → IsSound g → Writes g.edges (is_written g) order → IsLighter g.types (outer_entries g) m → imports ≤ imports_cost m
    → 8 + imports + 4 * entries_items g.types (outer_entries g) + order_cost g o order ≤ bound g o
written_within fits g o order m imports wf sound writes lighter cost =
    let all = imports_within g m lighter in
    let whole = fits g o order wf sound writes in
    omega (arith, all, whole, cost)

pub imports_large : OrderFits → (g : Graph) (o : EncodeOptions) (order : List NodeId) (m : Merged) → IsWellFormed g.types → IsSound g → Writes g.edges (is_written g) order → IsLighter g.types (outer_entries g) m → 2 ^ 32 ≤ imports_cost m → 2 ^ 32 ≤ bound g o
imports_large fits g o order m wf sound writes lighter large =
    let most = written_within fits g o order m (imports_cost m) wf sound writes lighter (omega arith) in
    omega (arith, most, large)

-- ---- errors
apart : error.OutOfMemory ≡ error.TooLarge → ⊥
apart h = cc

pub imports_exit : {T : Type 0} (m : Merged) (f : BinaryFault) (r : Result T EncodeError) → IsErrAnd r (λ y. y ≡ encode_error f) → IsFaultWithin m f → IfErr r (λ e. e ≡ error.TooLarge → 2 ^ 32 ≤ imports_cost m)
imports_exit m f (Ok x) h within = absurd h
imports_exit m fault.OutOfMemory (Err e) h within = λ large. absurd (apart (sym h ∙ large))
imports_exit m fault.TooLarge (Err e) h within = λ large. within

-- a reported cause is no size
none_some : (c : Cause) → None ≡ Some c → ⊥
none_some c h = cc

pub never_large : {A : Type 0} (g : Graph) (o : EncodeOptions) (e : EncodeError) → IsRefused g o e → e ≡ error.TooLarge → A
never_large g o e (inl out) large = absurd (apart (sym out ∙ large))
never_large g o e (inr (cause, is, low, stands)) large = absurd (none_some cause (sym (ap cause_of large) ∙ is))

pub names_never_large : {A : Type 0} (P : Fault → Type 0) (e : EncodeError) → NamesFault P e → e ≡ error.TooLarge → A
names_never_large P e (inl out) large = absurd (apart (sym out ∙ large))
names_never_large P e (inr (f, is, holds, only)) large = absurd (none_some _ (sym (ap cause_of large) ∙ is))
