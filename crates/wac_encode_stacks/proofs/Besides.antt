-- Two collections whose types are written into the same scopes.
use Rattle.std.specs.Prelude.{◌≡◌, true, List, [], ◌∷◌}
use Rattle.std.proofs.Common.{refl, ap, ◌∙◌, sym, subst}
use Rattle.wac_types_shapes.specs.primitives.Tree.{resource}
use Rattle.wac_types_collection.specs.collection.Collection.{Collection}
use Rattle.wac_types_collection.specs.collection.Bound.{Bindings}
use Rattle.wac_binary.specs.Items.{Item}
use Rattle.wac_binary.specs.Unfold.{Scope}
use Rattle.wac_encode_stacks.specs.Scopes.{Content, root, ContentHasMeaning, Open, Stack, env, envs, scope_of}
use Rattle.wac_encode_stacks.specs.Good.{Keeps, Grown, is_bottom, GoodScope, Good, top}
use Rattle.wac_encode_stacks.specs.private.Beside.{SameWritten, written_as, all_written_as, GoesOnBeside}
use Rattle.wac_encode_stacks.proofs.Grow.{stands-keeps}
use Rattle.wac_encode_stacks.proofs.Moved.{ap2}

same-envs : (ps os : Stack) → SameWritten ps os → envs os ≡ envs ps
same-envs [] [] h = refl
same-envs (p ∷ ps) (o ∷ os) h = ap2 (λ (x : Content) (es : List Scope). scope_of x es ∷ es) h.0 (same-envs ps os h.1)
same-envs [] (o ∷ os) h = absurd h
same-envs (p ∷ ps) [] h = absurd h

same-after : (ps qs os : Stack) → SameWritten ps os → Grown (envs ps) (envs qs) → SameWritten qs (all_written_as qs os)
same-after [] [] os h g = tt
same-after (p ∷ ps) (q ∷ qs) (o ∷ os) h g = (refl, same-after ps qs os h.1 g.1)
same-after [] (q ∷ qs) os h g = absurd g
same-after (p ∷ ps) [] os h g = absurd g
same-after (p ∷ ps) (q ∷ qs) [] h g = absurd h

-- what is recorded stays right where what is written keeps what its indexes stand for
scope-beside : (d : Collection) (n mo : Bindings) (o q : Open) (out out' : List Scope) → GoodScope d n mo o out → ContentHasMeaning q.content out' → ((items : List Item) → q.content ≡ root items → is_bottom out' ≡ true) → Keeps (env o out) (env q out') → GoodScope d n mo (written_as q o) out'
scope-beside d n mo o q out out' h says bot keeps = record {
  meaning = says;
  bottom = bot;
  binds = λ r p f. let b = h.binds r p f in (b.0, b.1, stands-keeps (env o out) (env q out') (resource b.0) p keeps b.2);
  unbound = h.unbound;
  passing = h.passing;
  types = λ a x f. let t = h.types a x f in (t.0, t.1, t.2, keeps.types x.index t.0 t.3);
  exports = λ e p f. let t = h.exports e p f in (t.0, t.1, t.2, stands-keeps (env o out) (env q out') t.0 p keeps t.3);
}

good-beside : (c d : Collection) (ms ns : List Bindings) (ps qs os : Stack) → SameWritten ps os → Good c ms qs → Grown (envs ps) (envs qs) → Good d ns os → Good d ns (all_written_as qs os)
good-beside c d [] [] [] [] [] h g gr go = tt
good-beside c d (m ∷ ms) (n ∷ ns) (p ∷ ps) (q ∷ qs) (o ∷ os) h g gr go =
    let before : envs os ≡ envs ps = same-envs ps os h.1 in
    let behind : envs (all_written_as qs os) ≡ envs qs = same-envs qs (all_written_as qs os) (same-after ps qs os h.1 gr.1) in
    let was : env p (envs ps) ≡ env o (envs os) = ap2 (λ (x : Content) (es : List Scope). scope_of x es) (sym h.0) (sym before) in
    let is : env q (envs qs) ≡ env q (envs (all_written_as qs os)) = ap (env q) (sym behind) in (
      scope-beside d n (top ns) o q (envs os) (envs (all_written_as qs os)) go.0
          (subst (ContentHasMeaning q.content) (sym behind) g.0.meaning)
          (λ items e. ap is_bottom behind ∙ g.0.bottom items e)
          (subst (λ (x : Scope). Keeps x (env q (envs (all_written_as qs os)))) was (subst (Keeps (env p (envs ps))) is gr.0.keeps)),
      good-beside c d ms ns ps qs os h.1 g.1 gr.1 go.1,
    )
good-beside c d ms [] ps qs (o ∷ os) h g gr go = absurd go
good-beside c d ms (n ∷ ns) ps qs [] h g gr go = absurd go
good-beside c d [] ns ps (q ∷ qs) os h g gr go = absurd g
good-beside c d (m ∷ ms) ns ps [] os h g gr go = absurd g
good-beside c d ms ns [] (q ∷ qs) os h g gr go = absurd gr
good-beside c d ms ns (p ∷ ps) [] os h g gr go = absurd gr
good-beside c d ms ns [] qs (o ∷ os) h g gr go = absurd h
good-beside c d ms ns (p ∷ ps) qs [] h g gr go = absurd h

pub goes-on-beside : GoesOnBeside
goes-on-beside c d ms ns ps qs os h on go =
    let after = same-after ps qs os h on.1 in (
      (good-beside c d ms ns ps qs os h on.0 on.1 go, subst (λ (es : List Scope). Grown es (envs (all_written_as qs os))) (sym (same-envs ps os h)) (subst (Grown (envs ps)) (sym (same-envs qs (all_written_as qs os) after)) on.1)),
      after,
    )
