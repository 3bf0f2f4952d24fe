use Rattle.std.proofs.Common.{◌≡◌, ℕ, Some, true, false, ap, sym, ◌∙◌, subst, refl, List}
use Rattle.slab.specs.Slab.{get}
use Rattle.wac_edges.specs.declared.edges.End.TheVariants.{Outgoing, Incoming}
use Rattle.wac_edges.specs.declared.edges.Edge.{Edge}
use Rattle.wac_edges.proofs.EdgeLemmas.{edge_exact, edge_tied}
use Rattle.wac_edges.proofs.ListLemmas.{sound_list, pair_in_list}
use Rattle.wac_edges.proofs.FindLemmas.{AreLeft, left_head, left_tail}
use Rattle.wac_edges.proofs.records.find.Goals as goal

pub loop-one-init : goal.loop-one-init
loop-one-init c =
    let s = c.args.records.now in
    let f = c.args.firsts.now in
    let e = c.args.edge in
    let out : AreLeft (get s) e c.records_at-out.result = subst (λ (l : List (ℕ × Edge)). AreLeft (get s) e l) (sym c.records_at-out.ensures.list) (record { sound = sound_list s f c.requires e.source.0 Outgoing; rest = λ k at. pair_in_list s f c.requires e.source.0 Outgoing k e at refl }) in
    let into : AreLeft (get s) e c.records_at-into.result = subst (λ (l : List (ℕ × Edge)). AreLeft (get s) e l) (sym c.records_at-into.ensures.list) (record { sound = sound_list s f c.requires e.target.0 Incoming; rest = λ k at. pair_in_list s f c.requires e.target.0 Incoming k e at refl }) in
    (tt, tt, out, into)

pub returns-then-eq-2-clause-some : goal.returns-then-eq-2-clause-some
returns-then-eq-2-clause-some c =
    left_head (get c.args.records.now) c.args.edge c.in-Some-Some.other c.next-in-loop-one.new.self c.loop-one.into c.in-Some-Some.ensures'.steps c.loop-one.invariant.3
    ∙ ap (λ (e : Edge). Some e) (edge_exact c.in-Some-Some.other.1 c.args.edge (sym c.eq-in-Some-Some.ensures ∙ c.if-eq-2.true))

pub loop-one-preserved : goal.loop-one-preserved
loop-one-preserved c =
    let t = get c.args.records.now in
    let e = c.args.edge in (
      tt,
      tt,
      left_tail t e c.in-Some-Some.one c.next.new.self c.loop-one.out c.in-Some-Some.ensures.steps (λ same. let wrong : false ≡ true = sym c.if-eq.false ∙ c.eq.ensures ∙ edge_tied c.in-Some-Some.one.1 e same in cc) c.loop-one.invariant.2,
      left_tail t e c.in-Some-Some.other c.next-in-loop-one.new.self c.loop-one.into c.in-Some-Some.ensures'.steps (λ same. let wrong : false ≡ true = sym c.if-eq-2.false ∙ c.eq-in-Some-Some.ensures ∙ edge_tied c.in-Some-Some.other.1 e same in cc) c.loop-one.invariant.3,
    )
