-- The names so far end with the first of those that are appended.
use Rattle.std.proofs.Common.{◌≡◌, ◌++◌, ◌+◌, ℕ, suc, List, [], ◌∷◌, length, map, take, Some, String, Global, string_bytes, refl, ap, sym, ◌∙◌, append_assoc, arith}
use Rattle.std.specs.Borrow.{Bor}
use Rattle.std.specs.Prelude.{slice_get}
use Rattle.std.proofs.lemmas.List.{append-nil, map-append, take_all}
use Rattle.std.proofs.lemmas.Option.{slice_get_read}
use Rattle.wac_types_shapes.specs.primitives.Name.{Name}
use Rattle.wac_names.specs.private.validation.Views.{texts}
use Rattle.wac_graph_reader.proofs.lemmas.writing.WriteAliasLemmas.{take_at}
use Rattle.wac_graph.proofs.validating.push_names.Goals as goal

-- one name more
next_name : (before : List Name) (more : List (String Global)) (i : ℕ) (text : String Global) (name : Bor Name) (old now : List (Bor Name)) → slice_get more i ≡ Some text → name.now ≡ string_bytes text
    → texts old ≡ before ++ map string_bytes (take i more) → now ≡ old ++ name ∷ [] → texts now ≡ before ++ map string_bytes (take (i + 1) more)
next_name before more i text name old now at value was pushed =
    let next : i + 1 ≡ suc i = omega arith in
    ap texts pushed ∙ map-append (λ (t : Bor Name). t.now) old (name ∷ []) ∙ (λ j. was j ++ value j ∷ []) ∙ append_assoc before (map string_bytes (take i more)) (string_bytes text ∷ [])
    ∙ ap (λ xs. before ++ xs) (sym (ap (λ k. map string_bytes (take k more)) next ∙ ap (map string_bytes) (take_at more i text at) ∙ map-append string_bytes (take i more) (text ∷ [])))

pub loop-i-init : goal.loop-i-init
loop-i-init c = sym (append-nil (texts c.args.names.now.items))

pub loop-i-preserved : goal.loop-i-preserved
loop-i-preserved c =
    let more = c.args.more.now in
    let text = c.index-more-i.result in
    let at = slice_get_read more (length more) c.loop-i.i text refl c.loop-i-test.true c.index-more-i.is in
    next_name (texts c.args.names.now.items) more c.loop-i.i text c.as_str-name.result c.loop-i.names.items c.push.new.self.items at c.as_str-name.ensures.value c.loop-i.invariant c.in_ok-push.ensures.items

pub returns : goal.returns
returns c = c.loop-i.invariant ∙ ap (λ ts. texts c.args.names.now.items ++ map string_bytes ts) (take_all c.loop-i.i c.args.more.now (omega (arith, c.loop-i-test.false)))
