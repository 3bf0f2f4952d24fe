use Rattle.std.proofs.Common.{sym, subst}
use Rattle.wac_encode_scopes.specs.Roots.{IsRoot}
use Rattle.wac_encode_tests.proofs.RootItems.{root-types}
use Rattle.wac_encode_tests.proofs.component_types.written.Goals as goal

pub into_builder-requires : goal.into_builder-requires
into_builder-requires g c =
    root-types c.root-state.result.here.content c.define_component-index.new.self.here.content c.define_component-index.ensures.types.0 (subst IsRoot (sym c.root-state.ensures.content) tt)
