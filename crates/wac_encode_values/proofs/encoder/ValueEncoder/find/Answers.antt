use Rattle.std.specs.Prelude.{ℕ, Option, IfSome}
use Rattle.std.proofs.Common.{sym, subst, ◌∙◌, ◌≡◌, true, ap}
use Rattle.wac_types_shapes.specs.declared.shapes.component.ValueType.TheVariants as val
use Rattle.wac_binary.specs.declared.types.ComponentValType.TheVariants.{Primitive, Index}
use Rattle.wac_encode_scopes.proofs.Stepped.{goes-none, all-none}
use Rattle.wac_encode_values.specs.private.Values.{IsWrittenAs}
use Rattle.wac_encode_values.proofs.Ready.{ready-end, written-end, primitive-written, primitive-by-name}
use Rattle.wac_encode_scopes.proofs.Paying.{pays-nothing, exit-answer}
use Rattle.wac_encode_values.proofs.Covered.{end-covers}
use Rattle.wac_types_collection.specs.collection.Collection.{holds_value}
use Rattle.wac_encode_values.proofs.encoder.ValueEncoder.find.Goals as goal

pub returns-in-Primitive-clause-goes : goal.returns-in-Primitive-clause-goes
returns-in-Primitive-clause-goes c = goes-none c.still_law.ensures c.args.self.now.merged c.args.state.now c.args.self.now.types.now

pub returns-in-Primitive-clause-found : goal.returns-in-Primitive-clause-found
returns-in-Primitive-clause-found c =
    let t = c.args.self.now.types.now in
    written-end c.alias_law.ensures t c.law.ensures c.args.self.now.merged c.args.state.now c.args.value (val.Primitive c.in-Primitive.primitive) (Primitive c.in-Primitive.primitive) (sym c.in-Primitive.is ∙ c.resolve_value_type-end.ensures.end) (primitive-written t c.args.self.now.merged c.args.state.now c.in-Primitive.primitive)

pub returns-in-Primitive-clause-named : goal.returns-in-Primitive-clause-named
returns-in-Primitive-clause-named c = primitive-by-name c.args.self.now.types.now c.args.self.now.closed.now c.args.self.now.merged c.args.state.now c.args.state.now c.args.value c.in-Primitive.primitive (Primitive c.in-Primitive.primitive) (sym c.in-Primitive.is ∙ c.resolve_value_type-end.ensures.end)

pub returns-in-Primitive-clause-types : goal.returns-in-Primitive-clause-types
returns-in-Primitive-clause-types c = all-none c.args.state.now

pub own-requires : goal.own-requires
own-requires c = ready-end c.args.self.now.types.now c.law.ensures c.args.self.now.merged c.args.state.now c.args.value (val.Own c.in-Own.resource) (sym c.in-Own.is ∙ c.resolve_value_type-end.ensures.end) c.requires.ready

pub returns-in_ok-index-in-Own-clause-found : goal.returns-in_ok-index-in-Own-clause-found
returns-in_ok-index-in-Own-clause-found c = written-end c.alias_law.ensures c.args.self.now.types.now c.law.ensures c.args.self.now.merged c.own.new.state c.args.value (val.Own c.in-Own.resource) (Index c.in_ok-index-in-Own.index) (sym c.in-Own.is ∙ c.resolve_value_type-end.ensures.end) c.in_ok-index-in-Own.ensures.written

pub borrow-requires : goal.borrow-requires
borrow-requires c = ready-end c.args.self.now.types.now c.law.ensures c.args.self.now.merged c.args.state.now c.args.value (val.Borrow c.in-Borrow.resource) (sym c.in-Borrow.is ∙ c.resolve_value_type-end.ensures.end) c.requires.ready

pub returns-in_ok-index-in-Borrow-clause-found : goal.returns-in_ok-index-in-Borrow-clause-found
returns-in_ok-index-in-Borrow-clause-found c = written-end c.alias_law.ensures c.args.self.now.types.now c.law.ensures c.args.self.now.merged c.borrow.new.state c.args.value (val.Borrow c.in-Borrow.resource) (Index c.in_ok-index-in-Borrow.index) (sym c.in-Borrow.is ∙ c.resolve_value_type-end.ensures.end) c.in_ok-index-in-Borrow.ensures.written

pub returns-in-Some-clause-found : goal.returns-in-Some-clause-found
returns-in-Some-clause-found c =
    let t = c.args.self.now.types.now in
    let b = c.args.self.now.merged in
    written-end c.alias_law.ensures t c.law.ensures b c.find_definition.new.state c.args.value (val.Defined c.in-Defined.id) (Index c.in-Some.index) (sym c.in-Defined.is ∙ c.resolve_value_type-end.ensures.end)
    (subst (λ (o : Option ℕ). IfSome o (λ i. IsWrittenAs t b c.find_definition.new.state (val.Defined c.in-Defined.id) (Index i))) c.in-Some.is c.in_ok-index-in-Defined.ensures.written)

pub returns-in-Primitive-clause-paid : goal.returns-in-Primitive-clause-paid
returns-in-Primitive-clause-paid c ts covers priced = pays-nothing c.args.self.now.types.now c.args.self.now.merged ts c.args.state.now

pub returns-in_err-index-in-Own-clause-paid : goal.returns-in_err-index-in-Own-clause-paid
returns-in_err-index-in-Own-clause-paid c ts covers priced =
    let t = c.args.self.now.types.now in
    let held : holds_value t (val.Own c.in-Own.resource) ≡ true = ap (holds_value t) (sym c.in-Own.is) ∙ c.resolve_value_type-end.ensures.held ∙ c.requires.held in
    exit-answer c.args.self.now.types.now c.args.self.now.merged ts 0 c.args.state.now _ _ c.from_residual.result c.from_residual.ensures.1 (c.in_err-index-in-Own.ensures.paid held ts (end-covers c.weight_law.ensures.covers_end t ts c.args.value (val.Own c.in-Own.resource) (sym c.resolve_value_type-end.ensures.end ∙ c.in-Own.is) covers) priced)

pub returns-in_ok-index-in-Own-clause-paid : goal.returns-in_ok-index-in-Own-clause-paid
returns-in_ok-index-in-Own-clause-paid c ts covers priced =
    let t = c.args.self.now.types.now in
    let held : holds_value t (val.Own c.in-Own.resource) ≡ true = ap (holds_value t) (sym c.in-Own.is) ∙ c.resolve_value_type-end.ensures.held ∙ c.requires.held in
    c.in_ok-index-in-Own.ensures.paid held ts (end-covers c.weight_law.ensures.covers_end t ts c.args.value (val.Own c.in-Own.resource) (sym c.resolve_value_type-end.ensures.end ∙ c.in-Own.is) covers) priced

pub returns-in_err-index-in-Borrow-clause-paid : goal.returns-in_err-index-in-Borrow-clause-paid
returns-in_err-index-in-Borrow-clause-paid c ts covers priced =
    let t = c.args.self.now.types.now in
    let held : holds_value t (val.Borrow c.in-Borrow.resource) ≡ true = ap (holds_value t) (sym c.in-Borrow.is) ∙ c.resolve_value_type-end.ensures.held ∙ c.requires.held in
    exit-answer c.args.self.now.types.now c.args.self.now.merged ts 0 c.args.state.now _ _ c.from_residual-in_err-index-in-Borrow.result c.from_residual-in_err-index-in-Borrow.ensures.1 (c.in_err-index-in-Borrow.ensures.paid held ts (end-covers c.weight_law.ensures.covers_end t ts c.args.value (val.Borrow c.in-Borrow.resource) (sym c.resolve_value_type-end.ensures.end ∙ c.in-Borrow.is) covers) priced)

pub returns-in_ok-index-in-Borrow-clause-paid : goal.returns-in_ok-index-in-Borrow-clause-paid
returns-in_ok-index-in-Borrow-clause-paid c ts covers priced =
    let t = c.args.self.now.types.now in
    let held : holds_value t (val.Borrow c.in-Borrow.resource) ≡ true = ap (holds_value t) (sym c.in-Borrow.is) ∙ c.resolve_value_type-end.ensures.held ∙ c.requires.held in
    c.in_ok-index-in-Borrow.ensures.paid held ts (end-covers c.weight_law.ensures.covers_end t ts c.args.value (val.Borrow c.in-Borrow.resource) (sym c.resolve_value_type-end.ensures.end ∙ c.in-Borrow.is) covers) priced

pub returns-in_err-index-in-Defined-clause-paid : goal.returns-in_err-index-in-Defined-clause-paid
returns-in_err-index-in-Defined-clause-paid c ts covers priced =
    exit-answer c.args.self.now.types.now c.args.self.now.merged ts 0 c.args.state.now _ _ c.from_residual-in_err-index-in-Defined.result c.from_residual-in_err-index-in-Defined.ensures.1 (c.in_err-index-in-Defined.ensures.paid ts (end-covers c.weight_law.ensures.covers_end c.args.self.now.types.now ts c.args.value (val.Defined c.in-Defined.id) (sym c.resolve_value_type-end.ensures.end ∙ c.in-Defined.is) covers) priced)

pub returns-in-Some-clause-paid : goal.returns-in-Some-clause-paid
returns-in-Some-clause-paid c ts covers priced = c.in_ok-index-in-Defined.ensures.paid ts (end-covers c.weight_law.ensures.covers_end c.args.self.now.types.now ts c.args.value (val.Defined c.in-Defined.id) (sym c.resolve_value_type-end.ensures.end ∙ c.in-Defined.is) covers) priced

pub returns-in-None-clause-paid : goal.returns-in-None-clause-paid
returns-in-None-clause-paid c ts covers priced = c.in_ok-index-in-Defined.ensures.paid ts (end-covers c.weight_law.ensures.covers_end c.args.self.now.types.now ts c.args.value (val.Defined c.in-Defined.id) (sym c.resolve_value_type-end.ensures.end ∙ c.in-Defined.is) covers) priced
