use Rattle.std.proofs.Common.{◌≡◌, ◌∙◌, ap, map, string_bytes, subst, sym}
use Rattle.std.specs.Prelude.{IfOk}
use Rattle.wac_graph_reader.specs.private.reading.PackageNames.{package_names, packages_names}
use Rattle.wac_graph_reader.proofs.reading.reader.GraphReader.package_names.Goals as goal

pub returns-then-define_components : goal.returns-then-define_components
returns-then-define_components c =
    let g = c.args.self.now in
    ap (map string_bytes) c.new.ensures.items ∙ sym (ap (λ b. package_names g b c.args.order.now) c.if-define_components.true)

pub returns : goal.returns
returns c =
    let g = c.args.self.now in
    let same = ap (packages_names g) (c.as_slice.ensures.keys ∙ c.in_ok-used.ensures) ∙ sym (ap (λ b. package_names g b c.args.order.now) c.if-define_components.false) in
    subst (λ us. IfOk c.names_of.result (λ names. map string_bytes names.items ≡ us)) same c.names_of.ensures
