use Rattle.std.proofs.Common.{suc, Bool, [], ◌∷◌, take, Some, sym, subst, ◌∙◌, add-one}
use Rattle.wac_types_shapes.specs.primitives.Tree.{named}
use Rattle.wac_merge_resources.specs.private.values.Listings.{Takes, exported, found, has_value, only}
use Rattle.wac_merge_resources.proofs.lemmas.values.Listings.{exported-stays, exported-step}
use Rattle.wac_merge_resources.proofs.values.bindings.put_exports.Goals as goal
use Rattle.wac_merge_resources.proofs.values.bindings.put_exports.Goals.{in-Some+in_ok-put, in_default}

pub loop-i-preserved : goal.loop-i-preserved
loop-i-preserved c =
    let types = c.args.types.now in
    let es = c.args.exports.now in
    let uses = has_value c.args.used.now.keys in
    let i = c.loop-i.i in
    let n = c.entry_at.result.0.now in
    let k = c.entry_at.result.1.now in
    rw add-one (elim c.match-listed_value.branch [
      | in-Some+in_ok-put w ↦
          let q = w.in-Some.value in
          subst (Takes c.args.table.now (exported types uses c.args.class (take (suc i) es))) (sym w.table-is)
          (exported-step types uses c.args.class es i n k c.args.table.now c.loop-i.table w.put.new.self (Some q) c.entry_at.ensures (sym c.listed_value.ensures ∙ w.in-Some.is) c.loop-i.invariant
          (subst (λ (b : Bool). Takes c.loop-i.table (only q (found b c.args.class (named n ∷ []))) w.put.new.self) w.contains-is_used.ensures w.in_ok-put.ensures))
      | in_default w ↦
          exported-stays types uses c.args.class es i n k c.args.table.now c.loop-i.table c.match-listed_value.table c.listed_value.result c.entry_at.ensures
          (sym c.listed_value.ensures) w.in_default.not-Some c.loop-i.invariant w.table-is
    ])
