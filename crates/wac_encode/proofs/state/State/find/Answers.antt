use Rattle.wac_types_collection.specs.collection.Bound.{Bindings}
use Rattle.wac_types_collection.specs.collection.Collection.{Collection}
use Rattle.wac_encode.specs.Root.{IsResourcePlace, IsStateFor}
use Rattle.wac_encode.proofs.Results.{if-some}
use Rattle.wac_encode.proofs.Finding.{found-place, not-found, one-scope, place-none, place-some}
use Rattle.wac_encode.proofs.state.State.find.Goals as goal

pub returns-clause-found : goal.returns-clause-found
returns-clause-found c =
    place-some (λ p. (types : Collection) (m : Bindings) → IsStateFor types c.args.merged m c.args.self.now → IsResourcePlace m c.args.self.now c.args.resource p) c.find-found.result.0 c.place_of.result c.place_of.ensures
    (if-some _ _ c.find-found.result.0 (λ f h types m is. found-place c.step_law.ensures.reaches types c.args.merged m c.args.self.now c.args.resource f.0 f.1 f.2 is h) c.find-found.ensures.found)

pub returns-clause-none : goal.returns-clause-none
returns-clause-none c = λ is types m h. not-found c.bringing_law.ensures.finds_or_unbound types c.args.merged m c.args.self.now c.args.resource (c.find-found.ensures.none (place-none c.find-found.result.0 c.place_of.result c.place_of.ensures is)) h

pub returns-clause-probes : goal.returns-clause-probes
returns-clause-probes c = λ types m h. one-scope types c.args.merged m c.args.self.now c.find-found.result.1 h c.find-found.ensures.probes
