-- What lines do.
use Rattle.std.proofs.Common.{◌≡◌, ◌⊎◌, ◌+◌, ◌<◌, ◌≤◌, arith, codes, get_or, ◌++◌, ◌∷◌, ◌∙◌, refl, ap, sym, subst, inl, inr, ℕ, zero, suc, add-one, length, take, drop, slice_get, take-append-drop, List, [], Bool, false, Option, Some, None, Result, Ok, Err}
use Rattle.std.specs.Prelude.{IsTrue, IsSome, IsErr, ◌↔◌}
use Rattle.std.specs.declared.alloc.AllocError.{AllocError}
use Rattle.std.specs.Option.{option_copied}
use Rattle.std.proofs.lemmas.List.{take_all}
use Rattle.std.proofs.lemmas.Bool.{false≢true}
use Rattle.wac_types_shapes.specs.primitives.Name.{Name, find_name}
use Rattle.wac_script.specs.declared.labels.things.Labelled.{Labelled}
use Rattle.wac_script.specs.declared.labels.things.Thing.{Thing}
use Rattle.wac_script.specs.declared.labels.things.Thing.TheVariants as thing
use Rattle.wac_edges.specs.declared.node.NodeId.{NodeId}
use Rattle.std.specs.Result.{IsErrAnd}
use Rattle.std.specs.Borrow.{Bor}
use Rattle.wac_graph_model.specs.nodes.Graph.{Graph}
use Rattle.wac_types_shapes.specs.declared.shapes.core_types.CoreExtern.{CoreExtern}
use Rattle.wac_script.specs.lines.Words.{Word, spelled, HasNoPrefix, AreWords}
use Rattle.wac_script.specs.lines.Says.{SaysNoLine}
use Rattle.wac_script.specs.declared.labels.faults.WordError.{WordError}
use Rattle.wac_script.specs.declared.labels.faults.WordError.TheVariants as word_error
use Rattle.wac_script.specs.declared.lines.calls.Call.{Call}
use Rattle.wac_script.specs.declared.lines.calls.Call.TheVariants as said
use Rattle.wac_script.specs.declared.lines.calls.Change.{Change}
use Rattle.wac_script.specs.declared.lines.calls.Line.{Line}
use Rattle.wac_script.specs.declared.lines.calls.Line.TheVariants as line
use Rattle.wac_script.specs.declared.lines.shapes.CoreItem.{CoreItem}
use Rattle.wac_script.specs.labels.Things.{Labelling, SayNone}
use Rattle.wac_script.specs.labels.Cores.{IsCoreItem}
use Rattle.wac_script.specs.private.Unread.{IsUnread}
use Rattle.wac_script.specs.private.Misread.{IsMisread}
use Rattle.wac_script.specs.declared.refusal.LineError.{LineError}
use Rattle.wac_script.specs.declared.refusal.LineError.TheVariants as error
use Rattle.wac_script.specs.declared.refusal.Refusal.{Refusal}
use Rattle.wac_script.specs.declared.refusal.Refusal.TheVariants as refusal
use Rattle.wac_script.specs.Refusals.{refused_by, RefusesCall, Changes}
use Rattle.wac_script.specs.Naming.{NamesThing, AreNamed, AreSomeNamed}
use Rattle.wac_script.specs.Files.{SayFile, NamesFile}
use Rattle.wac_script.specs.Runs.{State, Refuses, RefusesCore, Runs, RunsWords, RunsLine, RanOut, KeepsLabels, NamesNodes}

-- Memory may run out for any call.
pub call-memory : (labels : Labelling) (cores : List CoreExtern) (of_file : List ℕ) (old new : Graph) (call : Call) → new ≡ old → RefusesCall labels cores of_file old call refusal.OutOfMemory new
call-memory labels cores of_file old new (said.Shape _) same = same
call-memory labels cores of_file old new (said.Resource _) same = same
call-memory labels cores of_file old new (said.ResourceAlias _ _) same = same
call-memory labels cores of_file old new (said.OwnedAlias _ _ _) same = same
call-memory labels cores of_file old new (said.Func _ _) same = same
call-memory labels cores of_file old new (said.AsyncFunc _ _) same = same
call-memory labels cores of_file old new (said.Interface _ _) same = same
call-memory labels cores of_file old new (said.World _ _) same = same
call-memory labels cores of_file old new (said.Module _ _) same = same
call-memory labels cores of_file old new (said.Package _) same = same
call-memory labels cores of_file old new (said.New _) same = same
call-memory labels cores of_file old new (said.Alias _ _) same = same
call-memory labels cores of_file old new (said.Import _ _) same = same
call-memory labels cores of_file old new (said.Define _ _) same = same

-- A label that is taken refuses the line.
pub label-refused : (number : ℕ) (label : Bor (List ℕ)) (call : Call) (of_file : List ℕ) (s : State) (r : Result (Unit {0}) Refusal) (e : WordError)
    → IsErrAnd r (λ x. x ≡ refused_by e) → IsUnread (IsSome (find_name s.labels label.now)) e → Runs number (line.Make label call) of_file s r s
label-refused number label call of_file s (Ok t) e h reason = absurd h
label-refused number label call of_file s (Err x) word_error.OutOfMemory h reason =
    subst (λ y. Refuses (line.Make label call) of_file s y s) (sym h) (inr (inl (call-memory s.labels s.cores of_file s.graph s.graph call refl), (refl, refl)))
label-refused number label call of_file s (Err x) (word_error.Word fault word) h reason =
    subst (λ y. Refuses (line.Make label call) of_file s y s) (sym h) (elim reason [ inl m ↦ absurd m | inr taken ↦ inl (taken, refl) ])
label-refused number label call of_file s (Err x) (word_error.Shape source) h reason =
    subst (λ y. Refuses (line.Make label call) of_file s y s) (sym h) (elim reason [ inl m ↦ absurd m | inr taken ↦ inl (taken, refl) ])

-- A call that is refused refuses the line.
pub call-refused : (number : ℕ) (label : Bor (List ℕ)) (call : Call) (of_file : List ℕ) (old new : State) (e : Refusal) (r : Result (Unit {0}) Refusal)
    → IsErrAnd r (λ x. x ≡ e) → RefusesCall old.labels old.cores of_file old.graph call e new.graph → new.labels ≡ old.labels → new.cores ≡ old.cores
    → Runs number (line.Make label call) of_file old r new
call-refused number label call of_file old new e (Ok t) h refuses labels cores = absurd h
call-refused number label call of_file old new e (Err x) h refuses labels cores =
    subst (λ y. Refuses (line.Make label call) of_file old y new) (sym h) (inr (inl refuses, (labels, cores)))

-- Words refuse a core item.
pub core-refused : (number : ℕ) (label : Bor (List ℕ)) (item : CoreItem) (s : State) {N : Type 0} (r : Result (Unit {0}) Refusal) (e : WordError)
    → IsErrAnd r (λ x. x ≡ refused_by e) → IsUnread N e → (N → IsSome (find_name s.labels label.now) ⊎ SayNone (IsCoreItem item)) → Runs number (line.Core label item) [] s r s
core-refused number label item s (Ok t) e h reason f = absurd h
core-refused number label item s (Err x) word_error.OutOfMemory h reason f = subst (λ y. RefusesCore label.now item s y s) (sym h) refl
core-refused number label item s (Err x) (word_error.Word fault word) h reason f =
    subst (λ y. RefusesCore label.now item s y s) (sym h) (elim reason [ inl m ↦ absurd m | inr n ↦ (f n, refl) ])
core-refused number label item s (Err x) (word_error.Shape source) h reason f =
    subst (λ y. RefusesCore label.now item s y s) (sym h) (elim reason [ inl m ↦ absurd m | inr n ↦ (f n, refl) ])

pub core-memory : (number : ℕ) (label : Bor (List ℕ)) (item : CoreItem) (old new : State) (r : Result (Unit {0}) Refusal)
    → IsErrAnd r (λ x. x ≡ refusal.OutOfMemory) → new ≡ old → Runs number (line.Core label item) [] old r new
core-memory number label item old new (Ok t) h same = absurd h
core-memory number label item old new (Err x) h same = subst (λ y. RefusesCore label.now item old y new) (sym h) same

-- The state of these parts.
abbrev state : Graph → Labelling → List CoreExtern → State
state g l c = record { graph = g; labels = l; cores = c }

-- States with the same labels and core items.
pub same-state : (g : Graph) (l m : Labelling) (c d : List CoreExtern) → l ≡ m → c ≡ d → state g l c ≡ state g m d
same-state g l m c d labels cores = ap (λ x. state g x c) labels ∙ ap (λ x. state g m x) cores

-- Words are misread, or there is no memory to say so.
pub words-misread : (number : ℕ) (words : List Word) (of_file : List ℕ) (s : State) (e : LineError)
    → SaysNoLine words → IsMisread words e → RanOut s (Err e) s ⊎ RunsWords number words of_file s (Err e) s
words-misread number words of_file s (error.UnknownCall name) none h = inr (none, h.0, h.1, refl)
words-misread number words of_file s (error.OtherWords call) none h = inr (none, h.0, h.1, refl)
words-misread number words of_file s (error.Call refusal.OutOfMemory) none h = inl (refl, refl)
words-misread number words of_file s (error.Call (refusal.Words _)) none h = absurd h
words-misread number words of_file s (error.Call (refusal.Type _)) none h = absurd h
words-misread number words of_file s (error.Call (refusal.Register _)) none h = absurd h
words-misread number words of_file s (error.Call (refusal.Import _)) none h = absurd h
words-misread number words of_file s (error.Call (refusal.Define _)) none h = absurd h
words-misread number words of_file s (error.Call (refusal.Alias _)) none h = absurd h
words-misread number words of_file s (error.Call (refusal.Argument _)) none h = absurd h
words-misread number words of_file s (error.Call (refusal.Export _)) none h = absurd h
words-misread number words of_file s (error.Call (refusal.Plug _)) none h = absurd h

-- Words that say nothing are some words.
pub some-words : (words : List Word) → SaysNoLine words → words ≡ [] → ⊥
some-words words none is = none line.Nothing is

-- The file of a line is read by packages alone.
pub core-alone : (number : ℕ) (label : Bor (List ℕ)) (item : CoreItem) (of_file : List ℕ) (old new : State) (r : Result (Unit {0}) Refusal)
    → Runs number (line.Core label item) [] old r new → Runs number (line.Core label item) of_file old r new
core-alone number label item of_file old new (Ok t) h = h
core-alone number label item of_file old new (Err e) h = h

-- A call without a label leaves the labels.
pub change-runs : (number : ℕ) (c : Change) (of_file : List ℕ) (labels : Labelling) (cores : List CoreExtern) (g g' : Graph) (r : Result (Unit {0}) Refusal)
    → Changes labels g c r g' → Runs number (line.Change c) of_file (record { graph = g; labels = labels; cores = cores }) r (record { graph = g'; labels = labels; cores = cores })
change-runs number c of_file labels cores g g' (Ok t) h = (h, refl, refl)
change-runs number c of_file labels cores g g' (Err e) h = (h, (refl, refl))

-- The words of a text are what the line runs.
pub text-runs : (number : ℕ) (text : List ℕ) (words : List Word) (of_file : List ℕ) (old new : State) (r : Result (Unit {0}) LineError)
    → AreWords text words → RanOut old r new ⊎ RunsWords number words of_file old r new → RunsLine number text of_file old r new
text-runs number text words of_file old new r are h = elim h [ inl out ↦ inl out | inr runs ↦ inr (words, are, runs) ]

-- One item more.
take-at : {A : Type 0} (xs : List A) (i : ℕ) (x : A) → slice_get xs i ≡ Some x → take (suc i) xs ≡ take i xs ++ x ∷ []
take-at [] i x at = cc
take-at (y ∷ xs) zero x at = cc
take-at (y ∷ xs) (suc i) x at = ap (λ l. y ∷ l) (take-at xs i x at)

-- One node more is named.
named-push : (labels : Labelling) (l : Name × Labelled) (start now next : Graph) → AreNamed labels start now → NamesThing l.0 l.1.thing now next → AreNamed (labels ++ l ∷ []) start next
named-push [] l start now next h here = (next, subst (λ g. NamesThing l.0 l.1.thing g next) h here, refl)
named-push (m ∷ labels) l start now next h here = (h.0, h.1, named-push labels l h.0 now next h.2 here)

pub named-step : (labels : Labelling) (i : ℕ) (l : Name × Labelled) (start now next : Graph)
    → slice_get labels i ≡ Some l → NamesThing l.0 l.1.thing now next → AreNamed (take i labels) start now → AreNamed (take (i + 1) labels) start next
named-step labels i l start now next at here so_far =
    subst (λ n. AreNamed (take n labels) start next) (sym (add-one i))
    (subst (λ ls. AreNamed ls start next) (sym (take-at labels i l at)) (named-push (take i labels) l start now next so_far here))

pub named-end : (labels : Labelling) (i : ℕ) (start now : Graph) → length labels ≤ i → AreNamed (take i labels) start now → AreNamed labels start now
named-end labels i start now past so_far = subst (λ ls. AreNamed ls start now) (take_all i labels past) so_far

-- Memory runs out while nodes are named.
pub names-failed : (old new : State) (r : Result (Unit {0}) AllocError) → IsErr r → AreSomeNamed old.labels old.graph new.graph → KeepsLabels old new → NamesNodes old r new
names-failed old new (Ok t) h some keeps = absurd (false≢true h)
names-failed old new (Err e) h some keeps = (some, keeps)

-- What a label stands for, with its line.
abbrev pub labelled_at : Thing → ℕ → Labelled
labelled_at t number = record { thing = t; line = number }

-- A node of which the test says that it is not there.
pub not-there : {A : Type 0} (o : Option A) (b : Bool) → (IsTrue b ↔ IsSome o) → b ≡ false → o ≡ None
not-there None b told false_is = refl
not-there (Some x) b told false_is = absurd (false≢true (sym false_is ∙ told.1 refl))

-- What is no node is not named.
pub not-a-node : (label : Name) (t : Thing) (g : Graph) → ((n : NodeId) → t ≡ thing.Node n → ⊥) → NamesThing label t g g
not-a-node label (thing.Node n) g other = absurd (other n refl)
not-a-node label (thing.Resource _) g other = refl
not-a-node label (thing.Value _) g other = refl
not-a-node label (thing.Func _) g other = refl
not-a-node label (thing.Interface _) g other = refl
not-a-node label (thing.World _) g other = refl
not-a-node label (thing.Core _) g other = refl
not-a-node label (thing.Module _) g other = refl
not-a-node label (thing.Package _) g other = refl

differ : (m n : ℕ) → m ≡ n → m < n → ⊥
differ m n same less = omega arith

-- The words of a package say its file.
pub package-said : (words : List (Bor (List ℕ))) (d : Bor (List ℕ)) → length words ≡ 7 → (get_or words 1 d).now ≡ codes "=" → (get_or words 2 d).now ≡ codes "package"
    → HasNoPrefix (codes "hex:") ((get_or words 5 d).now) → SayFile (spelled words) (Some ((get_or words 5 d).now))
package-said [] d long is call lacks = absurd (differ 0 7 long (omega arith))
package-said (a ∷ []) d long is call lacks = absurd (differ 1 7 long (omega arith))
package-said (a ∷ b ∷ []) d long is call lacks = absurd (differ 2 7 long (omega arith))
package-said (a ∷ b ∷ c ∷ []) d long is call lacks = absurd (differ 3 7 long (omega arith))
package-said (a ∷ b ∷ c ∷ e ∷ []) d long is call lacks = absurd (differ 4 7 long (omega arith))
package-said (a ∷ b ∷ c ∷ e ∷ f ∷ []) d long is call lacks = absurd (differ 5 7 long (omega arith))
package-said (a ∷ b ∷ c ∷ e ∷ f ∷ g ∷ []) d long is call lacks = absurd (differ 6 7 long (omega arith))
package-said (a ∷ b ∷ c ∷ e ∷ f ∷ g ∷ h ∷ []) d long is call lacks = (
  line.Make a (said.Package (record { name = e; version = f; file = g; world = h })),
  (
    c.now ∷ e.now ∷ f.now ∷ g.now ∷ h.now ∷ [],
    ap (λ x. a.now ∷ x ∷ c.now ∷ e.now ∷ f.now ∷ g.now ∷ h.now ∷ []) is,
    ap (λ x. x ∷ e.now ∷ f.now ∷ g.now ∷ h.now ∷ []) call,
  ),
  (refl, lacks),
)
package-said (a ∷ b ∷ c ∷ e ∷ f ∷ g ∷ h ∷ i ∷ rest) d long is call lacks = absurd (differ 7 (length (a ∷ b ∷ c ∷ e ∷ f ∷ g ∷ h ∷ i ∷ rest)) (sym long) (omega arith))
