-- Work inside an open scope, resources through all scopes, and the root.
use Rattle.std.specs.Prelude.{zero, suc, ◌≡◌, [], ◌∷◌, ◌++◌, Some, None, if◌then◌else◌}
use Rattle.std.proofs.Common.{refl, ap}
use Rattle.std.proofs.lemmas.Bool.{eq-eqb}
use Rattle.wac_types_shapes.specs.declared.shapes.component.ResourceId.{ResourceId}
use Rattle.wac_types_shapes.specs.primitives.Tree.{out_by}
use Rattle.wac_binary.specs.declared.sorts.Sort.TheVariants as s
use Rattle.wac_binary.specs.Items.{export_alias}
use Rattle.wac_binary.specs.Meaning.{meaning}
use Rattle.wac_encode_stacks.specs.private.Reads.{Reads}
use Rattle.wac_encode_stacks.specs.Scopes.{Where, at_type, at_export, Open, env, envs, root, next_type, with_alias_of, bind_at}
use Rattle.wac_encode_stacks.specs.Good.{Keeps, top}
use Rattle.wac_encode_stacks.specs.Instances.{holding}
use Rattle.wac_encode_stacks.specs.private.Inside.{ByStep, ByItem, ByBoth, KeepsIs, changed_at, aliased_there, SettlesThere, HasIndexHere, HasIndexAround, StartsRoot, RootGoesOn}
use Rattle.wac_encode_stacks.proofs.Grow.{grows-keeps, grown-refl, grown-trans, keeps-trans, good-pushed}
use Rattle.wac_encode_stacks.proofs.Steps.{outer-onward}
use Rattle.wac_encode_stacks.proofs.Values.{is-keeps}
use Rattle.wac_encode_stacks.proofs.StepLaws.{reaches, settles-resource, brings-resource}

pub by-step : ByStep
by-step c m ms o o' os os' n = (record { good = n.0; keeps = n.1.0.keeps; around = n.1.1 }, n.1.0.imports, n.1.0.exports)

pub by-item : ByItem
by-item c m ms o o' os side n t l = record { good = l.good; keeps = l.keeps; around = grown-refl (envs os) }

pub by-both : ByBoth
by-both c m ms o p q os ps qs a b = record { good = b.good; keeps = keeps-trans (env o (envs os)) (env p (envs ps)) (env q (envs qs)) a.keeps b.keeps; around = grown-trans (envs os) (envs ps) (envs qs) a.around b.around }

pub keeps-is : KeepsIs
keeps-is c m ms o o' os os' a x i h = is-keeps c m (env o (envs os)) (env o' (envs os')) a x i.keeps h

pub bound-there : (r : ResourceId) (w : Where) (o : Open) → (bind_at r w o).binds r ≡ Some w
bound-there r w o = ap (λ b. if b then Some w else o.binds r) (eq-eqb r.0 r.0 refl)

pub settles-there : Reads → SettlesThere
settles-there reads c [] [] r k j n g h = absurd h
settles-there reads c [] (o ∷ os) r k j n g h = absurd g
settles-there reads c (m ∷ ms) [] r k j n g h = absurd g
settles-there reads c (m ∷ ms) (o ∷ os) r zero j n g h =
    let b = g.0.binds r (at_export j n) h in
    (((settles-resource reads) c m ms o os r j n b.0 g b.1 b.2).0, bound-there r (at_type (next_type o)) (with_alias_of (export_alias s.Type j n) o))
settles-there reads c (m ∷ ms) (o ∷ os) r (suc k) j n g h =
    let b = (settles-there reads) c ms os r k j n g.1 h.1 in
    ((outer-onward reads) c m ms o os (changed_at k (aliased_there r j n) os) g b.0, (h.0, b.1))

pub has-index-here : HasIndexHere
has-index-here c m ms o os r i g h = g.0.binds r (at_type i) h

pub has-index-around : Reads → HasIndexAround
has-index-around reads c m ms o os r k i g h =
    let b = reaches c (m ∷ ms) (o ∷ os) r (suc k) (at_type i) g h in
    (out_by (suc k) b.0, b.1, (brings-resource reads) c m ms o os r k i b.0 g b.1 b.2)

pub starts-root : StartsRoot
starts-root c passes = (
  record {
    meaning = tt;
    bottom = λ items e. refl;
    binds = λ r w f. let no_some : None ≡ Some w = f in cc;
    unbound = λ r f. refl;
    passing = λ p r l e. let no_some : None ≡ Some l = e in cc;
    types = λ a x f. let no_some : None ≡ Some x = f in cc;
    exports = λ d w f. let no_some : None ≡ Some w = f in cc;
  },
  tt,
)

pub root-goes-on : Reads → RootGoesOn
root-goes-on reads c m items more o g says =
    let keeps : Keeps (meaning items).scope (meaning (items ++ more)).scope = grows-keeps (meaning items).scope (meaning (items ++ more)).scope (reads.root_grows items more) in (
      (good-pushed c m (top []) (holding items o) [] (root (items ++ more)) (meaning (items ++ more)).scope g.0 (λ xs q. refl) says (λ out' u. refl) keeps, tt),
      (record { keeps = keeps; imports = reads.root_imports items more; exports = reads.root_exports items more }, tt),
    )
