-- From what a composition answers to what the program prints.
use Rattle.std.proofs.Common.{◌≡◌, ℕ, false, refl, nat_eq, slice_index_or, List, ap, sym, ◌∙◌, subst, arith, Option, Result, Ok, Err, IfOk, IsOkAnd, IsErr, ◌++◌, inl, inr}
use Rattle.std.proofs.lemmas.Bool.{false≢true}
use Rattle.std.specs.Io.KnownBytes.{Appends}
use Rattle.wac_binary.specs.Items.{Item}
use Rattle.wac_binary.specs.Bytes.{bytes_of}
use Rattle.wac_graph_model.specs.declared.nodes.options.EncodeOptions.{EncodeOptions}
use Rattle.wac_graph_model.specs.nodes.Graph.{Graph}
use Rattle.wac_graph_model.specs.meaning.Means.{Means}
use Rattle.wac_demo.specs.Composed.{AreDefault, Compose, IsComposed, IsPrecedence, of_empty, of_processor, of_function, of_readme, of_plug, of_resource, of_dependency, cycle_word, precedence_word}
use Rattle.wac_demo.specs.Printed.{hex_line, passed_line, IsPrinted, one_line, of_precedence, Prints}

-- items that mean such a graph with such options compose it
pub composes : {O : EncodeOptions → Type 0} {P : Graph → Type 0} {bytes : List ℕ} (items : List Item) (options : EncodeOptions) (graph : Graph) → bytes ≡ bytes_of items → Means items graph options → O options → P graph → Compose bytes O P
composes items options graph is means asked composed = (items, options, graph, is, asked, means, composed)

-- what is printed of a composition with one line
pub one-line : {V S E F : Type 0} (items : V → List ℕ) (text : S → List ℕ) (word : List ℕ) (P : List ℕ → Type 0) → ((b : List ℕ) → P b → IsComposed word b) → (r : Result V E) → IfOk r (λ v. P (items v)) → (l : Result S F)
    → IfOk l (λ s. IsOkAnd r (λ v. text s ≡ hex_line (items v))) → IfOk l (λ s. IsPrinted word (text s))
one-line items text word P f r made (Err e) h = tt
one-line items text word P f (Ok v) made (Ok s) h = one_line (items v) (f (items v) made) h
one-line items text word P f (Err e) made (Ok s) h = absurd h

-- a composition that fails has no line
pub no-line : {V S E F : Type 0} (items : V → List ℕ) (text : S → List ℕ) (word : List ℕ) (r : Result V E) → IsErr r → (l : Result S F) → IfOk l (λ s. IsOkAnd r (λ v. text s ≡ hex_line (items v))) → IfOk l (λ s. IsPrinted word (text s))
no-line items text word r failed (Err e) h = tt
no-line items text word (Ok v) failed (Ok s) h = absurd (false≢true failed)
no-line items text word (Err e) failed (Ok s) h = absurd h

-- and what is printed of `precedence`
pub two-lines : {S F : Type 0} (text : S → List ℕ) (word : List ℕ) → word ≡ precedence_word → (l : Result S F) → IfOk l (λ s. (bytes : List ℕ) × Compose bytes AreDefault IsPrecedence × (text s ≡ hex_line bytes ++ passed_line))
    → IfOk l (λ s. IsPrinted word (text s))
two-lines text word is (Err e) h = tt
two-lines text word is (Ok s) h = of_precedence h.0 is h.1 h.2

other_word : (word other : List ℕ) → word ≡ other → nat_eq (slice_index_or other 0 0) 99 ≡ false → word ≡ cycle_word → ⊥
other_word word other is first e = false≢true (sym first ∙ ap (λ w. nat_eq (slice_index_or w 0 0) 99) (sym is ∙ e))

-- the composition of `cycle` has no bytes
cycle_none : (word bytes : List ℕ) → IsComposed word bytes → word ≡ cycle_word → ⊥
cycle_none word bytes (of_empty is _) e = other_word word _ is refl e
cycle_none word bytes (of_processor is _) e = other_word word _ is refl e
cycle_none word bytes (of_function is _) e = other_word word _ is refl e
cycle_none word bytes (of_readme is _) e = other_word word _ is refl e
cycle_none word bytes (of_plug is _) e = other_word word _ is refl e
cycle_none word bytes (of_resource is _) e = other_word word _ is refl e
cycle_none word bytes (of_dependency is _) e = other_word word _ is refl e

pub cycle_unprinted : (word text : List ℕ) → IsPrinted word text → word ≡ cycle_word → ⊥
cycle_unprinted word text (one_line bytes composed _) e = cycle_none word bytes composed e
cycle_unprinted word text (of_precedence bytes is _ _) e = other_word word _ is refl e

pub printed : (word text shown : List ℕ) (status : ℕ) (old new : Option (List ℕ)) → IsPrinted word text → shown ≡ text → Prints shown 0 status old new → status ≡ 0 → (t : List ℕ) × IsPrinted word t × Appends old new t
printed word text shown status old new h e (inl three) zero = absurd (omega arith)
printed word text shown status old new h e (inr prints) zero = (text, h, subst (Appends old new) e prints.1)
