use Rattle.std.proofs.Common.{◌≡◌, ℕ, List, [], Option, Some, sym, ap, ◌∙◌}
use Rattle.wac_types_shapes.specs.declared.shapes.component.DefinedTypeId.{DefinedTypeId}
use Rattle.wac_types_shapes.specs.declared.shapes.component.FuncTypeId.{FuncTypeId}
use Rattle.wac_merge_resources.specs.values.NamedTypes.{named_type}
use Rattle.wac_merge_resources.specs.private.renaming.RenamedTypes.{defined_at, func_at}
use Rattle.wac_merge_resources.proofs.renaming.renamer.Renamed.new.Goals as goal

none_defined : (ns : List (Option ℕ)) (d e : DefinedTypeId) → ns ≡ [] → defined_at ns d ≡ Some e → ⊥
none_defined ns d e none is = cc (sym (ap (λ l. defined_at l d) none) ∙ is)

no_func : (ns : List (Option ℕ)) (f g : FuncTypeId) → ns ≡ [] → func_at ns f ≡ Some g → ⊥
no_func ns f g none is = cc (sym (ap (λ l. func_at l f) none) ∙ is)

pub returns-clause-right : goal.returns-clause-right
returns-clause-right c m s = record {
  defined = λ d e is. absurd (none_defined c.new.result d e c.new.ensures is);
  funcs = λ f g is. absurd (no_func c.new-2.result f g c.new-2.ensures is);
  made = record { there = c.new-3.ensures.there m; apart = c.new-3.ensures.apart s.types.now (named_type s.became.now.named.now) };
  once = λ d e is. absurd (none_defined c.new.result d e c.new.ensures is);
  once_funcs = λ f g is. absurd (no_func c.new-2.result f g c.new-2.ensures is);
}

pub returns-clause-made : goal.returns-clause-made
returns-clause-made c first m t = record { there = c.new-3.ensures.there m; apart = c.new-3.ensures.apart first (named_type t) }
