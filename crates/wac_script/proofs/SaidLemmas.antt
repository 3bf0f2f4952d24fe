-- Facts about what words say.
use Rattle.std.proofs.Common.{◌≡◌, ◌≢◌, ◌∷◌, [], ◌∙◌, ap, subst, sym, refl, ℕ, List, Option, Some, None, codes}
use Rattle.std.specs.Prelude.{MatchOption}
use Rattle.wac_script.specs.lines.Words.{Word, spelled}
use Rattle.wac_script.specs.lines.Says.{SaysCall, SaysCoreItem, SaysMade, SaysLine, GivesLabel, SaysNoLine}
use Rattle.wac_script.specs.private.Unsaid.{SaysNoShape, IsTypeCall, SaysNoTypeCall, IsNodeCall, SaysNoNodeCall, SaysNoCall, SaysNoChange, SaysNothingMade}
use Rattle.wac_script.specs.declared.lines.calls.Call.{Call}
use Rattle.wac_script.specs.declared.lines.calls.Call.TheVariants as call
use Rattle.wac_script.specs.declared.lines.calls.Line.{Line}
use Rattle.wac_script.specs.declared.lines.calls.Line.TheVariants as line

-- Lists with the same first word.
first-same : (a b : Word) (xs ys : List Word) → a ∷ xs ≡ b ∷ ys → a ≡ b
first-same a b xs ys e = cc

-- Lists with the same words after the first.
rest-same : (a b : Word) (xs ys : List Word) → a ∷ xs ≡ b ∷ ys → xs ≡ ys
rest-same a b xs ys e = cc

-- A word that is no name of a call for types.
pub no-type-call : (name : Word) (words : List Word) → name ≢ codes "resource" → name ≢ codes "func" → name ≢ codes "async"
    → name ≢ codes "interface" → name ≢ codes "world" → name ≢ codes "module" → SaysNoTypeCall (name ∷ words)
no-type-call name words resource func async_word interface world module_word (call.Shape s) is says = is
no-type-call name words resource func async_word interface world module_word (call.Resource n) is says = resource (first-same _ _ _ _ says)
no-type-call name words resource func async_word interface world module_word (call.ResourceAlias n s) is says = resource (first-same _ _ _ _ says)
no-type-call name words resource func async_word interface world module_word (call.OwnedAlias n s o) is says = resource (first-same _ _ _ _ says)
no-type-call name words resource func async_word interface world module_word (call.Func p r) is says = func says.0
no-type-call name words resource func async_word interface world module_word (call.AsyncFunc p r) is says = async_word says.0
no-type-call name words resource func async_word interface world module_word (call.Interface i items) is says = interface (first-same _ _ _ _ says)
no-type-call name words resource func async_word interface world module_word (call.World i e) is says = world says.0
no-type-call name words resource func async_word interface world module_word (call.Module i e) is says = module_word says.0
no-type-call name words resource func async_word interface world module_word (call.Package p) is says = is
no-type-call name words resource func async_word interface world module_word (call.New label) is says = is
no-type-call name words resource func async_word interface world module_word (call.Alias n e) is says = is
no-type-call name words resource func async_word interface world module_word (call.Import n i) is says = is
no-type-call name words resource func async_word interface world module_word (call.Define n i) is says = is

-- A word that is no name of a call for a package or a node.
pub no-node-call : (name : Word) (words : List Word) → name ≢ codes "package" → name ≢ codes "new" → name ≢ codes "alias"
    → name ≢ codes "import" → name ≢ codes "define" → SaysNoNodeCall (name ∷ words)
no-node-call name words pack new alias import define (call.Shape s) is says = is
no-node-call name words pack new alias import define (call.Resource n) is says = is
no-node-call name words pack new alias import define (call.ResourceAlias n s) is says = is
no-node-call name words pack new alias import define (call.OwnedAlias n s o) is says = is
no-node-call name words pack new alias import define (call.Func p r) is says = is
no-node-call name words pack new alias import define (call.AsyncFunc p r) is says = is
no-node-call name words pack new alias import define (call.Interface i items) is says = is
no-node-call name words pack new alias import define (call.World i e) is says = is
no-node-call name words pack new alias import define (call.Module i e) is says = is
no-node-call name words pack new alias import define (call.Package p) is says = pack (first-same _ _ _ _ says)
no-node-call name words pack new alias import define (call.New label) is says = new (first-same _ _ _ _ says)
no-node-call name words pack new alias import define (call.Alias n e) is says = alias (first-same _ _ _ _ says)
no-node-call name words pack new alias import define (call.Import n i) is says = import (first-same _ _ _ _ says)
no-node-call name words pack new alias import define (call.Define n i) is says = define (first-same _ _ _ _ says)

-- Each call makes a value type, another type, or a package or a node.
none-of-all : (words : List Word) → SaysNoShape words → SaysNoTypeCall words → SaysNoNodeCall words → SaysNoCall words
none-of-all words shapes types nodes (call.Shape s) says = shapes s says
none-of-all words shapes types nodes (call.Resource n) says = types (call.Resource n) tt says
none-of-all words shapes types nodes (call.ResourceAlias n s) says = types (call.ResourceAlias n s) tt says
none-of-all words shapes types nodes (call.OwnedAlias n s o) says = types (call.OwnedAlias n s o) tt says
none-of-all words shapes types nodes (call.Func p r) says = types (call.Func p r) tt says
none-of-all words shapes types nodes (call.AsyncFunc p r) says = types (call.AsyncFunc p r) tt says
none-of-all words shapes types nodes (call.Interface i items) says = types (call.Interface i items) tt says
none-of-all words shapes types nodes (call.World i e) says = types (call.World i e) tt says
none-of-all words shapes types nodes (call.Module i e) says = types (call.Module i e) tt says
none-of-all words shapes types nodes (call.Package p) says = nodes (call.Package p) tt says
none-of-all words shapes types nodes (call.New label) says = nodes (call.New label) tt says
none-of-all words shapes types nodes (call.Alias n e) says = nodes (call.Alias n e) tt says
none-of-all words shapes types nodes (call.Import n i) says = nodes (call.Import n i) tt says
none-of-all words shapes types nodes (call.Define n i) says = nodes (call.Define n i) tt says

pub node-call-last : (words : List Word) (o : Option Call) → SaysNoShape words → SaysNoTypeCall words
    → MatchOption o (SaysNoNodeCall words) (λ c. SaysCall words c) → MatchOption o (SaysNoCall words) (λ c. SaysCall words c)
node-call-last words None shapes types h = none-of-all words shapes types h
node-call-last words (Some c) shapes types h = h

-- What is made is said by the whole line.
made-said : (label : Word) (words : List Word) (said : Line) → SaysMade label words said → SaysLine (label ∷ codes "=" ∷ words) said
made-said label words line.Nothing says = absurd says
made-said label words (line.Make name c) says = (words, ap (λ n. n ∷ codes "=" ∷ words) (sym says.0), says.1)
made-said label [] (line.Core name item) says = absurd says
made-said label (first ∷ words) (line.Core name item) says =
    (words, ap (λ n. n ∷ codes "=" ∷ first ∷ words) (sym says.0) ∙ ap (λ w. name.now ∷ codes "=" ∷ w ∷ words) says.1, says.2)
made-said label words (line.Change change) says = absurd says

-- A line that gives a label says nothing, if the words after `=` say nothing.
made-unsaid : (label : Word) (words : List Word) → SaysNothingMade label words → SaysNoLine (label ∷ codes "=" ∷ words)
made-unsaid label words none line.Nothing says = cc
made-unsaid label words none (line.Make name c) says =
    let after : codes "=" ∷ words ≡ codes "=" ∷ says.0 = rest-same _ _ _ _ says.1 in
    none (line.Make name c) (sym (first-same _ _ _ _ says.1), subst (λ ws. SaysCall ws c) (sym (rest-same _ _ _ _ after)) says.2)
made-unsaid label [] none (line.Core name item) says =
    let after : codes "=" ∷ [] ≡ codes "=" ∷ codes "core" ∷ says.0 = rest-same _ _ _ _ says.1 in
    let last : [] ≡ codes "core" ∷ says.0 = rest-same _ _ _ _ after in cc
made-unsaid label (first ∷ words) none (line.Core name item) says =
    let after : codes "=" ∷ first ∷ words ≡ codes "=" ∷ codes "core" ∷ says.0 = rest-same _ _ _ _ says.1 in
    let last : first ∷ words ≡ codes "core" ∷ says.0 = rest-same _ _ _ _ after in
    none (line.Core name item) (sym (first-same _ _ _ _ says.1), first-same _ _ _ _ last, subst (λ ws. SaysCoreItem ws item) (sym (rest-same _ _ _ _ last)) says.2)
made-unsaid label words none (line.Change change) says = says.0 (label, words, refl)

-- A line that gives a label.
pub labelled-line : (label : Word) (rest words : List Word) (o : Option Line) → rest ≡ codes "=" ∷ words
    → MatchOption o (SaysNothingMade label words) (λ said. SaysMade label words said) → MatchOption o (SaysNoLine (label ∷ rest)) (λ said. SaysLine (label ∷ rest) said)
labelled-line label rest words None e h = subst (λ ws. SaysNoLine (label ∷ ws)) (sym e) (made-unsaid label words h)
labelled-line label rest words (Some said) e h = subst (λ ws. SaysLine (label ∷ ws) said) (sym e) (made-said label words said h)

-- Words whose second is not `=` give no label.
pub gives-none : (first : Word) (rest : List Word) → ((ws : List Word) → rest ≢ codes "=" ∷ ws) → GivesLabel (first ∷ rest) → ⊥
gives-none first rest plain gives = plain gives.1 (rest-same _ _ _ _ gives.2)

-- Words that give no label and are no change say nothing.
pub plain-unsaid : (first : Word) (rest : List Word) → ((ws : List Word) → rest ≢ codes "=" ∷ ws) → SaysNoChange (first ∷ rest) → SaysNoLine (first ∷ rest)
plain-unsaid first rest plain none line.Nothing says = cc
plain-unsaid first rest plain none (line.Make name c) says = plain says.0 (rest-same _ _ _ _ says.1)
plain-unsaid first rest plain none (line.Core name item) says = plain (codes "core" ∷ says.0) (rest-same _ _ _ _ says.1)
plain-unsaid first rest plain none (line.Change change) says = none change says.1
