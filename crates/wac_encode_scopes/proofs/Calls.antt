-- What each call on the open scopes is paid by.
use Rattle.std.specs.Prelude.{ℕ, zero, suc, ◌≡◌, ◌≤◌, ◌<◌, ◌+◌, ◌*◌, ◌^◌, ◌⊎◌, Bool, true, false, not, List, [], ◌∷◌, ◌++◌, length, Option, Some, None, Result, Ok, Err, OkIff, OnOk, IfErr, slice_get}
use Rattle.std.specs.List.{flat_map, sum_by}
use Rattle.std.proofs.Common.{refl, ap, ◌∙◌, sym, subst, arith, le_refl, ⊎_elim, inl, inr, ltb}
use Rattle.std.proofs.Math.ListN.{set}
use Rattle.std.proofs.lemmas.Bool.{ltb-true, ltb-false}
use Rattle.std.proofs.lemmas.List.Sums.{sum_by_push}
use Rattle.wac_types_shapes.specs.primitives.Name.{Name}
use Rattle.wac_types_shapes.specs.primitives.Tree.{Side}
use Rattle.wac_types_shapes.specs.declared.shapes.component.ResourceId.{ResourceId}
use Rattle.wac_types_shapes.specs.declared.shapes.component.DefinedTypeId.{DefinedTypeId}
use Rattle.wac_types_shapes.specs.declared.shapes.component.FuncTypeId.{FuncTypeId}
use Rattle.wac_types_shapes.specs.declared.shapes.component.FuncType.{FuncType}
use Rattle.wac_types_shapes.specs.declared.shapes.component.DefinedType.{DefinedType}
use Rattle.wac_types_shapes.specs.declared.shapes.component.WorldId.{WorldId}
use Rattle.wac_types_shapes.specs.declared.shapes.component.ValueType.TheVariants as val
use Rattle.wac_types_shapes.specs.declared.shapes.component.«Type».{«Type» as AnyType}
use Rattle.wac_types_shapes.specs.declared.shapes.component.«Type».TheVariants as ty
use Rattle.wac_types_collection.specs.collection.Collection.{Collection, item_at, HasDefined}
use Rattle.wac_types_weight.specs.Weight.{is_scope}
use Rattle.wac_types_weight.specs.private.Laws.{Covers}
use Rattle.wac_binary.specs.Fits.{TooLargeUnless}
use Rattle.wac_binary.specs.declared.sorts.Sort.TheVariants as s
use Rattle.wac_binary.specs.declared.sorts.Description.{Description}
use Rattle.wac_binary.specs.declared.sorts.Description.TheVariants as e
use Rattle.wac_binary.specs.Items.{ValueDef, own_def, borrow_def, value_def, primitive_def, TypeDef, component_def, instance_def, Decl, decls, ModuleDecl, core_type, core_type_decl, export_alias, outer_alias}
use Rattle.wac_binary.specs.Bytes.{described, decl_bytes, module_bytes}
use Rattle.wac_binary.specs.declared.fault.BinaryFault.{BinaryFault}
use Rattle.wac_binary.specs.declared.fault.BinaryFault.TheVariants.{TooLarge, OutOfMemory}
use Rattle.wac_types_shapes.specs.declared.primitives.component.PrimitiveType.{PrimitiveType}
use Rattle.wac_encode_scopes.specs.declared.encodable.Encodable.{Encodable}
use Rattle.wac_encode_scopes.specs.declared.encodable.Encodable.TheVariants.{Builder, Instance, Component}
use Rattle.wac_encode_scopes.specs.declared.scope.Scope.{Scope}
use Rattle.wac_encode_scopes.specs.declared.state.State.{State}
use Rattle.wac_encode_scopes.specs.Contents.{content_of, and_type, and_alias_of, and_item, IsInstanceType, declarations_of}
use Rattle.wac_encode_scopes.specs.Books.{opened}
use Rattle.wac_encode_scopes.specs.Roots.{IsRoot, and_import}
use Rattle.wac_encode_scopes.specs.States.{outward, stack, IsNamedAt, named_in}
use Rattle.wac_encode_scopes.specs.private.Paid.{Prices, prices, rate, if_index, charge, total, PayMore, PayMoreIn, HasNoRoom, too_large, too_deep, IsPriced, IsAnswerPaid, IsOwnResource, KeepsTypes, IsSizedAs, IsFuncSizedAs, ClosesPaid, primitive_cost}
use Rattle.wac_encode_scopes.specs.private.Limits.{IsShortPlace, IsTooLarge}
use Rattle.wac_encode_scopes.specs.private.Steps.{ScopeChanges, StateChanges, settled, settled_from, settled_value, settled_value_from, aliased_from, and_fresh, with_fresh, and_fresh_import, with_fresh_import, and_core_type}
use Rattle.wac_encode_scopes.proofs.Limits.{small-or, unless-none}
use Rattle.wac_encode_scopes.proofs.Opened.{content-def, opened-def}
use Rattle.wac_encode_scopes.proofs.Outward.{reached-within}
use Rattle.wac_encode_scopes.proofs.Looked.{found-within, named-found}
use Rattle.wac_encode_scopes.proofs.Brought.{brought_with}
use Rattle.wac_encode_scopes.proofs.Stepped.{on-ok, bring_with, and_value, and_func}
use Rattle.wac_encode_scopes.proofs.Charges.{SameKind, same-kind, index_paid, recorded-most, if-some-most, index-more, paid-more-at, Pays, pays-free}
use Rattle.wac_encode_scopes.proofs.Changes.{who-pays, kind-def, pays-grown, pays-bound, pays-indexed, pays-outer, pays-own, pays-borrow, pays-defined, pays-func, pays-brought, pays-settled, pays-settled-user, pays-settled-value, pays-settled-value-user}
use Rattle.wac_encode_scopes.proofs.Paying.{paid-here, paid-around, no-room-here, no-room-around, total-is, around-is, around-pays, priced-open, open-declared, answer, records-answer, here-answer, content-alias, opened-written, resource-weighs, defined-weighs}
use Rattle.wac_encode_stacks.specs.Scopes.{Content, declarations, root, Where, at_type, at_export, How, defined, brought, listed, Indexed, Open, Stack, next_type, and_def, with_def, index_at}
use Rattle.wac_encode_stacks.specs.private.Parts.{IsReached}
use Rattle.wac_encode_stacks.specs.private.Inside.{changed_at, aliased_there}
use Rattle.wac_encode_stacks.specs.private.Brought.{aliased_value}
use Rattle.wac_encode_stacks.specs.private.Sizes.{size_of, ContentFits, SmallFits}
use Rattle.wac_encode_stacks.specs.private.Beside.{written_as}
use Rattle.wac_encode_stacks.proofs.Sizes.{head_of, size_decl, size_item, size_listed, size_def, size_import, def_small, component_short, component_long, instance_short, instance_long, decls_few}

-- a resource or a value type is aliased where it is recorded as an instance's export

settle-pays : (c : Collection) (b : Bool) (ts : List AnyType) (o : Open) (r : ResourceId) (j : ℕ) (n : Name) → IsOwnResource c r → Covers c ts (ty.Resource r) → o.binds r ≡ Some (at_export j n) → j < 2 ^ 32 → Pays c b ts 0 o (aliased_there r j n o)
settle-pays c b ts o r j n own covers at small =
    ⊎_elim (λ entry. pays-settled c b ts o r j n own.0 at small entry) (λ user. pays-settled-user c b ts o r j n own.0 at small user.0 user.1 (resource-weighs c r own) (covers.there refl)) (who-pays b o.content)

settle-value-pays : (c : Collection) (b : Bool) (ts : List AnyType) (o : Open) (d : DefinedTypeId) (j : ℕ) (n : Name) → HasDefined c d → Covers c ts (ty.Value (val.Defined d)) → o.exports d ≡ Some (at_export j n) → j < 2 ^ 32 → Pays c b ts 0 o (aliased_value d j n o)
settle-value-pays c b ts o d j n held covers at small =
    ⊎_elim (λ entry. pays-settled-value c b ts o d j n held at small entry) (λ user. pays-settled-value-user c b ts o d j n held at small user.0 user.1 (defined-weighs c d held) (covers.there refl)) (who-pays b o.content)

alias-none : {T : Type 0} (x : Encodable) (j : ℕ) (n : Name) (w : Option Where) (res : Result T BinaryFault) → w ≡ Some (at_export j n) → TooLargeUnless res (ContentFits (content_of (aliased_from w x))) → IsTooLarge res → ContentFits (content_of (and_alias_of (export_alias s.Type j n) x)) → ⊥
alias-none x j n w res at fit = unless-none res (ContentFits (content_of (and_alias_of (export_alias s.Type j n) x))) (subst (λ (z : Option Where). TooLargeUnless res (ContentFits (content_of (aliased_from z x)))) at fit)

pub settle-here : SmallFits → {T : Type 0} (c : Collection) (b : Bool) (ts : List AnyType) (st : State) (here : Scope) (r : ResourceId) (j : ℕ) (n : Name) (res : Result T BinaryFault) → IsOwnResource c r → Covers c ts (ty.Resource r) → (opened b st.here).binds r ≡ Some (at_export j n) → IsShortPlace ((opened b st.here).binds r)
    → OnOk res (ScopeChanges b (settled r) st.here here) → TooLargeUnless res (ContentFits (content_of (aliased_from ((opened b st.here).binds r) st.here.content))) → IsAnswerPaid c b ts 0 st (record st { here = here }) res
settle-here fits c b ts st here r j n res own covers at short step fit =
    let o = opened b st.here in
    here-answer fits c b ts 0 st here (aliased_there r j n o) res
    (on-ok res (λ h. h.0 ∙ ap (λ (w : Option Where). settled_from r w o) at) step)
    (subst (λ (x : Content). IsTooLarge res → ContentFits x → ⊥) (content-alias (export_alias s.Type j n) st.here.content) (alias-none st.here.content j n (o.binds r) res at fit))
    (settle-pays c b ts o r j n own covers at (subst IsShortPlace at short))

pub settle-around : SmallFits → {T : Type 0} (c : Collection) (b : Bool) (ts : List AnyType) (st t : State) (i : ℕ) (x y : Scope) (r : ResourceId) (j : ℕ) (n : Name) (res : Result T BinaryFault) → IsOwnResource c r → IsPriced b st → i < length st.around.items → t.here ≡ st.here → slice_get st.around.items i ≡ Some x → t.around.items ≡ set st.around.items i y
    → (opened b x).binds r ≡ Some (at_export j n) → IsShortPlace ((opened b x).binds r) → OnOk res (ScopeChanges b (settled r) x y) → TooLargeUnless res (ContentFits (content_of (aliased_from ((opened b x).binds r) x.content))) → IsAnswerPaid c b ts 0 st t res
settle-around fits c b ts st t i x y r j n res own priced lt same there items at short step fit =
    let o = opened b x in
    let p = aliased_there r j n o in
    let pays = pays-settled c b [] o r j n own.0 at (subst IsShortPlace at short) (around-pays b st i x there priced) in
    answer c b ts 0 st t res
    (on-ok res (λ h. paid-around c b ts 0 st t i x y lt same there items (subst (λ (q : Open). Pays c b [] 0 o q) (sym (h.0 ∙ ap (λ (w : Option Where). settled_from r w o) at)) pays)) step)
    (λ large. no-room-around fits c b ts 0 st i x p there pays (subst (λ (z : Content). IsTooLarge res → ContentFits z → ⊥) (content-alias (export_alias s.Type j n) x.content) (alias-none x.content j n (o.binds r) res at fit) large))

pub settle-value-here : SmallFits → {T : Type 0} (c : Collection) (b : Bool) (ts : List AnyType) (st : State) (here : Scope) (d : DefinedTypeId) (j : ℕ) (n : Name) (res : Result T BinaryFault) → HasDefined c d → Covers c ts (ty.Value (val.Defined d)) → (opened b st.here).exports d ≡ Some (at_export j n) → IsShortPlace ((opened b st.here).exports d)
    → OnOk res (ScopeChanges b (settled_value d) st.here here) → TooLargeUnless res (ContentFits (content_of (aliased_from ((opened b st.here).exports d) st.here.content))) → IsAnswerPaid c b ts 0 st (record st { here = here }) res
settle-value-here fits c b ts st here d j n res held covers at short step fit =
    let o = opened b st.here in
    here-answer fits c b ts 0 st here (aliased_value d j n o) res
    (on-ok res (λ h. h.0 ∙ ap (λ (w : Option Where). settled_value_from d w o) at) step)
    (subst (λ (x : Content). IsTooLarge res → ContentFits x → ⊥) (content-alias (export_alias s.Type j n) st.here.content) (alias-none st.here.content j n (o.exports d) res at fit))
    (settle-value-pays c b ts o d j n held covers at (subst IsShortPlace at short))

pub settle-value-around : SmallFits → {T : Type 0} (c : Collection) (b : Bool) (ts : List AnyType) (st t : State) (i : ℕ) (x y : Scope) (d : DefinedTypeId) (j : ℕ) (n : Name) (res : Result T BinaryFault) → HasDefined c d → IsPriced b st → i < length st.around.items → t.here ≡ st.here → slice_get st.around.items i ≡ Some x → t.around.items ≡ set st.around.items i y
    → (opened b x).exports d ≡ Some (at_export j n) → IsShortPlace ((opened b x).exports d) → OnOk res (ScopeChanges b (settled_value d) x y) → TooLargeUnless res (ContentFits (content_of (aliased_from ((opened b x).exports d) x.content))) → IsAnswerPaid c b ts 0 st t res
settle-value-around fits c b ts st t i x y d j n res held priced lt same there items at short step fit =
    let o = opened b x in
    let p = aliased_value d j n o in
    let pays = pays-settled-value c b [] o d j n held at (subst IsShortPlace at short) (around-pays b st i x there priced) in
    answer c b ts 0 st t res
    (on-ok res (λ h. paid-around c b ts 0 st t i x y lt same there items (subst (λ (q : Open). Pays c b [] 0 o q) (sym (h.0 ∙ ap (λ (w : Option Where). settled_value_from d w o) at)) pays)) step)
    (λ large. no-room-around fits c b ts 0 st i x p there pays (subst (λ (z : Content). IsTooLarge res → ContentFits z → ⊥) (content-alias (export_alias s.Type j n) x.content) (alias-none x.content j n (o.exports d) res at fit) large))

-- types of the innermost scope are kept

settled-types : (r : ResourceId) (w : Option Where) (o : Open) → (settled_from r w o).types ≡ o.types
settled-types r None o = refl
settled-types r (Some (at_type i)) o = refl
settled-types r (Some (at_export j n)) o = refl

abbrev types-of : Stack → AnyType → Option Indexed
types-of [] a = None
types-of (o ∷ os) a = o.types a

changed-types : (k : ℕ) (r : ResourceId) (o : Open) (os : Stack) (a : AnyType) → types-of (changed_at k (settled r) (o ∷ os)) a ≡ o.types a
changed-types zero r o os a = ap (λ (f : AnyType → Option Indexed). f a) (settled-types r (o.binds r) o)
changed-types (suc k) r o os a = refl

pub kept-settled : (b : Bool) (st t : State) (r : ResourceId) (k : ℕ) → StateChanges b k (settled r) st t → KeepsTypes b st t
kept-settled b st t r k step a = ap (λ (zs : Stack). types-of zs a) step.0 ∙ changed-types k r (opened b st.here) (outward b st.around.items) a

-- what is further out is brought in

reached-out : (r : ResourceId) (o : Open) (os : Stack) (out : ℕ) (w : Where) → zero < out → IsReached (o ∷ os) r out w → o.binds r ≡ None
reached-out r o os zero w lt h = absurd (omega (arith, lt))
reached-out r o os (suc k) w lt h = h.0

named-out : (d : DefinedTypeId) (o : Open) (os : Stack) (out : ℕ) (w : Where) → zero < out → IsNamedAt (o ∷ os) d out w → named_in d o ≡ None
named-out d o os zero w lt h = absurd (omega (arith, lt))
named-out d o os (suc k) w lt h = h.0

tried-small : {E : Type 0} (res : Result ℕ E) (n out : ℕ) → res ≡ Ok n → OkIff res (out < 2 ^ 32) out → n < 2 ^ 32
tried-small res n out is h = let both : (out < 2 ^ 32) × (n ≡ out) = subst (λ r. OkIff r (out < 2 ^ 32) out) is h in subst (λ (k : ℕ). k < 2 ^ 32) (sym both.1) both.0

tried-large : {E : Type 0} (res : Result ℕ E) (out : ℕ) → ((x : ℕ) → res ≡ Ok x → ⊥) → OkIff res (out < 2 ^ 32) out → 2 ^ 32 ≤ out
tried-large (Ok x) out none h = absurd (none x refl)
tried-large (Err x) out none h = let small : out < 2 ^ 32 → ⊥ = h in omega (arith, small)

pub too-far : {E : Type 0} (c : Collection) (b : Bool) (ts : List AnyType) (st : State) (r : ResourceId) (w : Where) (out : ℕ) (res : Result ℕ E) → IsReached (stack b st) r out w → ((x : ℕ) → res ≡ Ok x → ⊥) → OkIff res (out < 2 ^ 32) out → HasNoRoom c b ts 0 st
too-far c b ts st r w out res at none h =
    let within = reached-within b (opened b st.here) st.around.items r out w at in
    let large = tried-large res out none h in
    too_deep (omega (arith, within, large))

pub too-far-named : {E : Type 0} (c : Collection) (b : Bool) (ts : List AnyType) (st : State) (d : DefinedTypeId) (w : Where) (out : ℕ) (res : Result ℕ E) → IsNamedAt (stack b st) d out w → ((x : ℕ) → res ≡ Ok x → ⊥) → OkIff res (out < 2 ^ 32) out → HasNoRoom c b ts 0 st
too-far-named c b ts st d w out res at none h =
    let within = found-within b (opened b st.here) st.around.items (named_in d) out w (named-found d (stack b st) out w at) in
    let large = tried-large res out none h in
    too_deep (omega (arith, within, large))

pub bring-here : SmallFits → {T E : Type 0} (c : Collection) (b : Bool) (ts : List AnyType) (st : State) (here : Scope) (r : ResourceId) (w : Where) (out count index : ℕ) (tried : Result ℕ E) (res : Result T BinaryFault) → IsOwnResource c r → Covers c ts (ty.Resource r) → IsPriced b st → zero < out → IsReached (stack b st) r out w → tried ≡ Ok count → OkIff tried (out < 2 ^ 32) out → index < 2 ^ 32
    → OnOk res (ScopeChanges b (bring_with r count index) st.here here) → TooLargeUnless res (ContentFits (content_of (and_alias_of (outer_alias s.Type count index) st.here.content))) → IsAnswerPaid c b ts 0 st (record st { here = here }) res
bring-here fits c b ts st here r w out count index tried res own covers priced lt at is says near step fit =
    let o = opened b st.here in
    let within = reached-within b o st.around.items r out w at in
    here-answer fits c b ts 0 st here (bring_with r count index o) res (on-ok res (λ h. h.0) step)
    (subst (λ (x : Content). IsTooLarge res → ContentFits x → ⊥) (content-alias (outer_alias s.Type count index) st.here.content) (unless-none res (ContentFits (content_of (and_alias_of (outer_alias s.Type count index) st.here.content))) fit))
    (pays-outer c b ts o r count index (open-declared st.here.content (priced-open b st.around.items st.here.content (omega (arith, lt, within)) priced)) (tried-small tried count out is says) near (reached-out r o (outward b st.around.items) out w lt at) (resource-weighs c r own) (covers.there refl))

pub bring-named-here : SmallFits → {T E : Type 0} (c : Collection) (b : Bool) (ts : List AnyType) (st : State) (here : Scope) (d : DefinedTypeId) (w : Where) (out count index : ℕ) (tried : Result ℕ E) (res : Result T BinaryFault) → HasDefined c d → Covers c ts (ty.Value (val.Defined d)) → IsPriced b st → zero < out → IsNamedAt (stack b st) d out w → tried ≡ Ok count → OkIff tried (out < 2 ^ 32) out → index < 2 ^ 32
    → OnOk res (ScopeChanges b (brought_with d count index) st.here here) → TooLargeUnless res (ContentFits (content_of (and_alias_of (outer_alias s.Type count index) st.here.content))) → IsAnswerPaid c b ts 0 st (record st { here = here }) res
bring-named-here fits c b ts st here d w out count index tried res held covers priced lt at is says near step fit =
    let o = opened b st.here in
    let within = found-within b o st.around.items (named_in d) out w (named-found d (stack b st) out w at) in
    here-answer fits c b ts 0 st here (brought_with d count index o) res (on-ok res (λ h. h.0) step)
    (subst (λ (x : Content). IsTooLarge res → ContentFits x → ⊥) (content-alias (outer_alias s.Type count index) st.here.content) (unless-none res (ContentFits (content_of (and_alias_of (outer_alias s.Type count index) st.here.content))) fit))
    (pays-brought c b ts o d count index (open-declared st.here.content (priced-open b st.around.items st.here.content (omega (arith, lt, within)) priced)) (tried-small tried count out is says) near (named-out d o (outward b st.around.items) out w lt at) (defined-weighs c d held) (covers.there refl))

-- definitions

def-none : {T : Type 0} (t : TypeDef) (x : Encodable) (res : Result T BinaryFault) → TooLargeUnless res (ContentFits (content_of (and_type t x))) → IsTooLarge res → ContentFits (and_def t (content_of x)) → ⊥
def-none t x res fit = subst (λ (z : Content). IsTooLarge res → ContentFits z → ⊥) (content-def t x) (unless-none res (ContentFits (content_of (and_type t x))) fit)

pub define-here : SmallFits → {T : Type 0} (c : Collection) (b : Bool) (ts : List AnyType) (st : State) (here : Scope) (d : DefinedTypeId) (x : DefinedType) (y : ValueDef) (res : Result T BinaryFault) → item_at c.defined d.0 ≡ Some x → IsSizedAs x y → (opened b st.here).types (ty.Value (val.Defined d)) ≡ None → Covers c ts (ty.Value (val.Defined d))
    → OnOk res (ScopeChanges b (and_value (val.Defined d) y) st.here here) → TooLargeUnless res (ContentFits (content_of (and_type (value_def y) st.here.content))) → IsAnswerPaid c b ts 0 st (record st { here = here }) res
define-here fits c b ts st here d x y res at sized none covers step fit =
    here-answer fits c b ts 0 st here (and_value (val.Defined d) y (opened b st.here)) res (on-ok res (λ h. h.0) step) (def-none (value_def y) st.here.content res fit) (pays-defined c b ts (opened b st.here) d x y at sized none (covers.there refl))

pub define-func-here : SmallFits → {T : Type 0} (c : Collection) (b : Bool) (ts : List AnyType) (st : State) (here : Scope) (f : FuncTypeId) (x : FuncType) (t : TypeDef) (res : Result T BinaryFault) → item_at c.funcs f.0 ≡ Some x → IsFuncSizedAs x t → (opened b st.here).types (ty.Func f) ≡ None → Covers c ts (ty.Func f)
    → OnOk res (ScopeChanges b (and_func f t) st.here here) → TooLargeUnless res (ContentFits (content_of (and_type t st.here.content))) → IsAnswerPaid c b ts 0 st (record st { here = here }) res
define-func-here fits c b ts st here f x t res at sized none covers step fit =
    here-answer fits c b ts 0 st here (and_func f t (opened b st.here)) res (on-ok res (λ h. h.0) step) (def-none t st.here.content res fit) (pays-func c b ts (opened b st.here) f x t at sized none (covers.there refl))

pub own-here : SmallFits → {T : Type 0} (c : Collection) (b : Bool) (ts : List AnyType) (st : State) (here : Scope) (r : ResourceId) (i : ℕ) (res : Result T BinaryFault) → i < 2 ^ 32 → IsOwnResource c r → Covers c ts (ty.Resource r) → (opened b st.here).types (ty.Value (val.Own r)) ≡ None
    → OnOk res (ScopeChanges b (and_value (val.Own r) (own_def i)) st.here here) → TooLargeUnless res (ContentFits (content_of (and_type (value_def (own_def i)) st.here.content))) → IsAnswerPaid c b ts 0 st (record st { here = here }) res
own-here fits c b ts st here r i res near own covers none step fit =
    here-answer fits c b ts 0 st here (and_value (val.Own r) (own_def i) (opened b st.here)) res (on-ok res (λ h. h.0) step) (def-none (value_def (own_def i)) st.here.content res fit) (pays-own c b ts (opened b st.here) r i near (resource-weighs c r own) (covers.there refl) none)

pub borrow-here : SmallFits → {T : Type 0} (c : Collection) (b : Bool) (ts : List AnyType) (st : State) (here : Scope) (r : ResourceId) (i : ℕ) (res : Result T BinaryFault) → i < 2 ^ 32 → IsOwnResource c r → Covers c ts (ty.Resource r) → (opened b st.here).types (ty.Value (val.Borrow r)) ≡ None
    → OnOk res (ScopeChanges b (and_value (val.Borrow r) (borrow_def i)) st.here here) → TooLargeUnless res (ContentFits (content_of (and_type (value_def (borrow_def i)) st.here.content))) → IsAnswerPaid c b ts 0 st (record st { here = here }) res
borrow-here fits c b ts st here r i res near own covers none step fit =
    here-answer fits c b ts 0 st here (and_value (val.Borrow r) (borrow_def i) (opened b st.here)) res (on-ok res (λ h. h.0) step) (def-none (value_def (borrow_def i)) st.here.content res fit) (pays-borrow c b ts (opened b st.here) r i near (resource-weighs c r own) (covers.there refl) none)

-- content alone

pub written-here : SmallFits → {T : Type 0} (c : Collection) (b : Bool) (n : ℕ) (st : State) (here : Scope) (x : Encodable) (res : Result T BinaryFault) → SameKind (content_of st.here.content) (content_of x) → size_of (content_of x) ≤ size_of (content_of st.here.content) + n
    → OnOk res (here ≡ record st.here { content = x }) → TooLargeUnless res (ContentFits (content_of x)) → IsAnswerPaid c b [] n st (record st { here = here }) res
written-here fits c b n st here x res kind less is fit =
    here-answer fits c b [] n st here (record (opened b st.here) { content = content_of x }) res (on-ok res (λ h. ap (opened b) h ∙ opened-written b st.here x) is) (unless-none res (ContentFits (content_of x)) fit) (pays-grown c b [] n (opened b st.here) (content_of x) kind less)

listed-kind : (side : Side) (n : Name) (d : Description) (x : Encodable) → SameKind (content_of x) (content_of (and_item side n d x))
listed-kind side n d (Builder items) = tt
listed-kind side n d (Instance ds) = tt
listed-kind side n d (Component ds) = tt

listed-size : (side : Side) (n : Name) (d : Description) (x : Encodable) → length (described d) ≤ 7 → size_of (content_of (and_item side n d x)) ≤ size_of (content_of x) + (10 + 2 * length n)
listed-size side n d (Builder items) short = omega arith
listed-size side n d (Instance ds) short = size_listed side n d ds short
listed-size side n d (Component ds) short = size_listed side n d ds short

pub list-here : SmallFits → {T : Type 0} (c : Collection) (b : Bool) (st : State) (here : Scope) (side : Side) (n : Name) (d : Description) (res : Result T BinaryFault) → length (described d) ≤ 7
    → OnOk res (here ≡ record st.here { content = and_item side n d st.here.content }) → TooLargeUnless res (ContentFits (content_of (and_item side n d st.here.content))) → IsAnswerPaid c b [] (10 + 2 * length n) st (record st { here = here }) res
list-here fits c b st here side n d res short is fit = written-here fits c b (10 + 2 * length n) st here (and_item side n d st.here.content) res (listed-kind side n d st.here.content) (listed-size side n d st.here.content short) is fit

fresh-is : (side : Side) (n : Name) (x : Encodable) → content_of (and_item side n e.Fresh x) ≡ and_fresh side n (content_of x)
fresh-is side n (Builder items) = refl
fresh-is side n (Instance ds) = refl
fresh-is side n (Component ds) = refl

pub list-fresh-here : SmallFits → {T : Type 0} (c : Collection) (b : Bool) (st : State) (here : Scope) (side : Side) (n : Name) (r : ResourceId) (res : Result T BinaryFault)
    → OnOk res (ScopeChanges b (with_fresh side n r) st.here here) → (IsTooLarge res → ContentFits (content_of (and_item side n e.Fresh st.here.content)) → ⊥) → IsAnswerPaid c b [] (10 + 2 * length n) st (record st { here = here }) res
list-fresh-here fits c b st here side n r res step none =
    let o = opened b st.here in
    let same = fresh-is side n st.here.content in
    here-answer fits c b [] (10 + 2 * length n) st here (with_fresh side n r o) res (on-ok res (λ h. h.0) step) (subst (λ (x : Content). IsTooLarge res → ContentFits x → ⊥) same none)
    (pays-bound c b [] (10 + 2 * length n) (next_type o) r o (and_fresh side n o.content)
    (subst (λ (x : Content). SameKind (content_of st.here.content) x) same (listed-kind side n e.Fresh st.here.content))
    (subst (λ (x : Content). size_of x ≤ size_of (content_of st.here.content) + (10 + 2 * length n)) same (listed-size side n e.Fresh st.here.content (omega arith))))

-- imports of the root

import-kind : (n : Name) (d : Description) (x : Encodable) → IsRoot x → SameKind (content_of x) (content_of (and_import n d x))
import-kind n d (Builder items) is = tt
import-kind n d (Instance ds) is = absurd is
import-kind n d (Component ds) is = absurd is

import-size : (n : Name) (d : Description) (x : Encodable) → IsRoot x → length (described d) ≤ 7 → size_of (content_of (and_import n d x)) ≤ size_of (content_of x) + (20 + 2 * length n)
import-size n d (Builder items) is short = size_import n d items short
import-size n d (Instance ds) is short = absurd is
import-size n d (Component ds) is short = absurd is

pub import-here : SmallFits → {T : Type 0} (c : Collection) (b : Bool) (st : State) (here : Scope) (n : Name) (d : Description) (res : Result T BinaryFault) → IsRoot st.here.content → length (described d) ≤ 7
    → OnOk res (here ≡ record st.here { content = and_import n d st.here.content }) → TooLargeUnless res (ContentFits (content_of (and_import n d st.here.content))) → IsAnswerPaid c b [] (20 + 2 * length n) st (record st { here = here }) res
import-here fits c b st here n d res root_is short is fit = written-here fits c b (20 + 2 * length n) st here (and_import n d st.here.content) res (import-kind n d st.here.content root_is) (import-size n d st.here.content root_is short) is fit

fresh-import-is : (n : Name) (x : Encodable) → IsRoot x → content_of (and_import n e.Fresh x) ≡ and_fresh_import n (content_of x)
fresh-import-is n (Builder items) is = refl
fresh-import-is n (Instance ds) is = absurd is
fresh-import-is n (Component ds) is = absurd is

pub import-fresh-here : SmallFits → {T : Type 0} (c : Collection) (b : Bool) (st : State) (here : Scope) (n : Name) (r : ResourceId) (res : Result T BinaryFault) → IsRoot st.here.content
    → OnOk res (ScopeChanges b (with_fresh_import n r) st.here here) → (IsTooLarge res → ContentFits (content_of (and_import n e.Fresh st.here.content)) → ⊥) → IsAnswerPaid c b [] (20 + 2 * length n) st (record st { here = here }) res
import-fresh-here fits c b st here n r res root_is step none =
    let o = opened b st.here in
    let same = fresh-import-is n st.here.content root_is in
    here-answer fits c b [] (20 + 2 * length n) st here (with_fresh_import n r o) res (on-ok res (λ h. h.0) step) (subst (λ (x : Content). IsTooLarge res → ContentFits x → ⊥) same none)
    (pays-bound c b [] (20 + 2 * length n) (next_type o) r o (and_fresh_import n o.content)
    (subst (λ (x : Content). SameKind (content_of st.here.content) x) same (import-kind n e.Fresh st.here.content root_is))
    (subst (λ (x : Content). size_of x ≤ size_of (content_of st.here.content) + (20 + 2 * length n)) same (import-size n e.Fresh st.here.content root_is (omega arith))))

-- primitive types and core module types

primitive-size : (p : PrimitiveType) (x : Content) → size_of (and_def (value_def (primitive_def p)) x) ≤ size_of x + primitive_cost x
primitive-size p (declarations ds) = let size = size_def (value_def (primitive_def p)) (declarations ds) in omega (arith, size)
primitive-size p (root items) = let size = size_def (value_def (primitive_def p)) (root items) in omega (arith, size)

pub primitive-here : SmallFits → {T : Type 0} (c : Collection) (b : Bool) (st : State) (here : Scope) (p : PrimitiveType) (res : Result T BinaryFault)
    → OnOk res (here ≡ record st.here { content = and_type (value_def (primitive_def p)) st.here.content }) → TooLargeUnless res (ContentFits (content_of (and_type (value_def (primitive_def p)) st.here.content))) → IsAnswerPaid c b [] (primitive_cost (content_of st.here.content)) st (record st { here = here }) res
primitive-here fits c b st here p res is fit =
    let t = value_def (primitive_def p) in
    let same = sym (content-def t st.here.content) in
    written-here fits c b (primitive_cost (content_of st.here.content)) st here (and_type t st.here.content) res
    (subst (λ (x : Content). SameKind (content_of st.here.content) x) same (kind-def t (content_of st.here.content)))
    (subst (λ (x : Content). size_of x ≤ size_of (content_of st.here.content) + primitive_cost (content_of st.here.content)) same (primitive-size p (content_of st.here.content))) is fit

module-kind : (t : List ModuleDecl) (x : Encodable) → SameKind (content_of x) (content_of (and_core_type t x))
module-kind t (Builder items) = tt
module-kind t (Instance ds) = tt
module-kind t (Component ds) = tt

module-size : (t : List ModuleDecl) (x : Encodable) → size_of (content_of (and_core_type t x)) ≤ size_of (content_of x) + (11 + length (module_bytes t))
module-size t (Builder items) = let size = size_item items (core_type t) in omega (arith, size)
module-size t (Instance ds) = let size = size_decl ds (core_type_decl t) in omega (arith, size)
module-size t (Component ds) = let size = size_decl ds (core_type_decl t) in omega (arith, size)

pub module-here : SmallFits → {T : Type 0} (c : Collection) (b : Bool) (st : State) (here : Scope) (t : List ModuleDecl) (res : Result T BinaryFault)
    → OnOk res (here ≡ record st.here { content = and_core_type t st.here.content }) → TooLargeUnless res (ContentFits (content_of (and_core_type t st.here.content))) → IsAnswerPaid c b [] (11 + length (module_bytes t)) st (record st { here = here }) res
module-here fits c b st here t res is fit = written-here fits c b (11 + length (module_bytes t)) st here (and_core_type t st.here.content) res (module-kind t st.here.content) (module-size t st.here.content) is fit

-- a type is recorded

no-value : {P : Type 0} → false ≡ true → P
no-value h = cc

recorded-more : (q : Prices) (a : AnyType) (x : Option Indexed) (how : How) (i : ℕ) → (how ≡ defined → is_scope a ≡ true) → index_paid q a x ≤ index_paid q a (Some (record { index = i; how = how }))
recorded-more q (ty.Value (val.Own r)) x how i h = if-some-most x q.handle
recorded-more q (ty.Value (val.Borrow r)) x how i h = if-some-most x q.handle
recorded-more q (ty.Func f) x how i h = if-some-most x q.definition
recorded-more q (ty.Value (val.Defined d)) x defined i h = no-value (h refl)
recorded-more q (ty.Value (val.Defined d)) x brought i h = recorded-most q x
recorded-more q (ty.Value (val.Defined d)) x listed i h = recorded-most q x
recorded-more q _ x how i h = omega arith

pays-recorded : (c : Collection) (b : Bool) (o : Open) (a : AnyType) (how : How) (i : ℕ) → (how ≡ defined → is_scope a ≡ true) → Pays c b [] 0 o (index_at a how i o)
pays-recorded c b o a how i h =
    let q = prices b o.content in
    pays-free c b [] 0 o (index_at a how i o) (same-kind o.content) (omega arith)
    (paid-more-at q o (index_at a how i o) (λ z. le_refl (if_index (o.binds z) q.place)) (index-more q a how i o (recorded-more q a (o.types a) how i h)) (λ d. le_refl (if_index (o.exports d) q.settled)))

pub record-here : {T : Type 0} (c : Collection) (b : Bool) (st : State) (here : Scope) (a : AnyType) (how : How) (i : ℕ) (res : Result T BinaryFault) → (how ≡ defined → is_scope a ≡ true) → OnOk res (ScopeChanges b (index_at a how i) st.here here) → IfErr res (λ y. y ≡ OutOfMemory) → IsAnswerPaid c b [] 0 st (record st { here = here }) res
record-here c b st here a how i res h step memory =
    records-answer c b [] 0 st (record st { here = here }) res
    (on-ok res (λ g. paid-here c b [] 0 st (record st { here = here }) refl (subst (λ (p : Open). Pays c b [] 0 (opened b st.here) p) (sym g.0) (pays-recorded c b (opened b st.here) a how i h))) step) memory

-- types with declarations: their number is no more than their bytes

few-or : (n : ℕ) → (n < 2 ^ 32) ⊎ (2 ^ 32 ≤ n)
few-or n = elim (ltb n (2 ^ 32)) as (λ t. ltb n (2 ^ 32) ≡ t → (n < 2 ^ 32) ⊎ (2 ^ 32 ≤ n)) [ true ↦ λ h. inl (ltb-true n (2 ^ 32) h) | false ↦ λ h. inr (ltb-false n (2 ^ 32) h) ] refl

head-most : (x : Content) → head_of x ≤ 11
head-most (declarations ds) = omega arith
head-most (root items) = omega arith

component-size : (ds : List Decl) (x : Content) → length ds < 2 ^ 32 → size_of (and_def (component_def (decls ds)) x) ≤ size_of x + (17 + length (flat_map decl_bytes ds))
component-size ds x few = let size = size_def (component_def (decls ds)) x in let head = head-most x in let short = component_short ds few in omega (arith, size, head, short)

abbrev component-cost : List Decl → ℕ
component-cost ds = 17 + length (flat_map decl_bytes ds)

-- the scope p has the component type in its content, and maybe records a world
component-answer : SmallFits → {T : Type 0} (c : Collection) (b : Bool) (ds : List Decl) (st : State) (here : Scope) (p : Open) (res : Result T BinaryFault) → p.content ≡ and_def (component_def (decls ds)) (content_of st.here.content) → OnOk res (opened b here ≡ p) → TooLargeUnless res (ContentFits p.content)
    → (length ds < 2 ^ 32 → Pays c b [] (component-cost ds) (opened b st.here) p) → IsAnswerPaid c b [] (component-cost ds) st (record st { here = here }) res
component-answer fits c b ds st here p (Ok x) content is fit pays =
    let bytes = def_small (component_def (decls ds)) (content_of st.here.content) (subst ContentFits content fit) in
    let long = component_long ds in
    let some = decls_few ds in
    here-answer fits c b [] (component-cost ds) st here p (Ok x) is (λ large. absurd large) (pays (omega (arith, bytes, long, some)))
component-answer fits c b ds st here p (Err TooLarge) content is fit pays =
    ⊎_elim (λ few. no-room-here fits c b [] (component-cost ds) st p (pays few) fit)
    (λ many. let some = decls_few ds in let bytes : 2 ^ 32 ≤ length (flat_map decl_bytes ds) = omega (arith, many, some) in too_large (all-large (2 ^ 32) (total c b st) (rate b (opened b st.here).content * 0) (length (flat_map decl_bytes ds)) bytes))
    (few-or (length ds))
  where
    all-large : (m t r l : ℕ) → m ≤ l → m + 0 ≤ t + r + (17 + l)
    all-large m t r l h = omega (arith, h)
component-answer fits c b ds st here p (Err OutOfMemory) content is fit pays = tt

pub component-here : SmallFits → {T : Type 0} (c : Collection) (b : Bool) (ds : List Decl) (st : State) (here : Scope) (res : Result T BinaryFault)
    → OnOk res (here ≡ record st.here { content = and_type (component_def (decls ds)) st.here.content }) → TooLargeUnless res (ContentFits (content_of (and_type (component_def (decls ds)) st.here.content))) → IsAnswerPaid c b [] (component-cost ds) st (record st { here = here }) res
component-here fits c b ds st here res is fit =
    let t = component_def (decls ds) in
    let o = opened b st.here in
    component-answer fits c b ds st here (with_def t o) res refl (on-ok res (λ h. ap (opened b) h ∙ opened-def b t st.here) is) (subst (λ (x : Content). TooLargeUnless res (ContentFits x)) (content-def t st.here.content) fit)
    (λ few. pays-grown c b [] (component-cost ds) o (and_def t o.content) (kind-def t o.content) (component-size ds o.content few))

pub world-here : SmallFits → {T : Type 0} (c : Collection) (b : Bool) (w : WorldId) (ds : List Decl) (st : State) (here : Scope) (res : Result T BinaryFault)
    → OnOk res (ScopeChanges b (λ o. index_at (ty.World w) defined (next_type o) (with_def (component_def (decls ds)) o)) st.here here) → TooLargeUnless res (ContentFits (content_of (and_type (component_def (decls ds)) st.here.content))) → IsAnswerPaid c b [] (component-cost ds) st (record st { here = here }) res
world-here fits c b w ds st here res step fit =
    let t = component_def (decls ds) in
    let o = opened b st.here in
    component-answer fits c b ds st here (index_at (ty.World w) defined (next_type o) (with_def t o)) res refl (on-ok res (λ h. h.0) step) (subst (λ (x : Content). TooLargeUnless res (ContentFits x)) (content-def t st.here.content) fit)
    (λ few. pays-indexed c b [] (component-cost ds) (next_type o) (ty.World w) defined o (and_def t o.content) (kind-def t o.content) (component-size ds o.content few) (omega arith))

-- for the other collection only the content grows
pub world-beside : SmallFits → {T : Type 0} (c : Collection) (b : Bool) (w : WorldId) (ds : List Decl) (st : State) (here : Scope) (res : Result T BinaryFault)
    → OnOk res (ScopeChanges b (λ o. index_at (ty.World w) defined (next_type o) (with_def (component_def (decls ds)) o)) st.here here) → TooLargeUnless res (ContentFits (content_of (and_type (component_def (decls ds)) st.here.content))) → IsAnswerPaid c (not b) [] (component-cost ds) st (record st { here = here }) res
world-beside fits c b w ds st here res step fit =
    let t = component_def (decls ds) in
    let o = opened (not b) st.here in
    component-answer fits c (not b) ds st here (with_def t o) res refl (on-ok res (λ h. h.1 ∙ ap (λ (p : Open). written_as p o) h.0) step) (subst (λ (x : Content). TooLargeUnless res (ContentFits x)) (content-def t st.here.content) fit)
    (λ few. pays-grown c (not b) [] (component-cost ds) o (and_def t o.content) (kind-def t o.content) (component-size ds o.content few))

pub world-both : {T : Type 0} (c : Collection) (b d : Bool) (n : ℕ) (s t : State) (res : Result T BinaryFault) → IsAnswerPaid c b [] n s t res → IsAnswerPaid c (not b) [] n s t res → IsAnswerPaid c d [] n s t res
world-both c true true n s t res h g = h
world-both c true false n s t res h g = g
world-both c false true n s t res h g = g
world-both c false false n s t res h g = h

-- the innermost scope, an instance type, is closed

instance-size : (ds : List Decl) (x : Content) → length ds < 2 ^ 32 → size_of (and_def (instance_def (decls ds)) x) ≤ size_of x + 17 + size_of (declarations ds)
instance-size ds x few = let size = size_def (instance_def (decls ds)) x in let head = head-most x in let short = instance_short ds few in omega (arith, size, head, short)

-- the two ways to take off the last scope are one
no-last : (ys : List Scope) (y : Scope) → [] ≡ ys ++ y ∷ [] → ⊥
no-last [] y h = let none : [] ≡ y ∷ [] = h in cc
no-last (z ∷ zs) y h = let none : [] ≡ z ∷ (zs ++ y ∷ []) = h in cc

head-same : (x y : Scope) (xs ys : List Scope) → x ∷ xs ≡ y ∷ ys → (x ≡ y) × (xs ≡ ys)
head-same x y xs ys h = (cc, cc)

last-same : (xs ys : List Scope) (x y : Scope) → xs ++ x ∷ [] ≡ ys ++ y ∷ [] → (xs ≡ ys) × (x ≡ y)
last-same [] [] x y h = (refl, (head-same x y [] [] h).0)
last-same [] (z ∷ zs) x y h = absurd (no-last zs y (head-same x z [] (zs ++ y ∷ []) h).1)
last-same (u ∷ us) [] x y h = absurd (no-last us x (sym (head-same u y (us ++ x ∷ []) [] h).1))
last-same (u ∷ us) (z ∷ zs) x y h =
    let first = head-same u z (us ++ x ∷ []) (zs ++ y ∷ []) h in
    let rest = last-same us zs x y first.1 in
    (ap (λ (w : Scope). w ∷ us) first.0 ∙ ap (λ (ws : List Scope). z ∷ ws) rest.0, rest.1)

close-sum : (new old p i o z x : ℕ) → new ≡ p + z → old ≡ i + (z + o) → p + 0 ≤ o + 0 + (17 + x) → x ≤ i → new ≤ old + 17
close-sum new old p i o z x e f g h = omega (arith, e, f, g, h)

close-room : (m old p k i o z x : ℕ) → m ≤ k → k ≤ p → old ≡ i + (z + o) → p + 0 ≤ o + 0 + (17 + x) → x ≤ i → m ≤ old + 17
close-room m old p k i o z x d e f g h = omega (arith, d, e, f, g, h)

close-many : (m n x i old z o : ℕ) → m ≤ n → n ≤ x → x ≤ i → old ≡ i + (z + o) → m ≤ old + 17
close-many m n x i old z o d e f g = omega (arith, d, e, f, g)

charge-more : (c : Collection) (b : Bool) (o : Open) → size_of o.content ≤ charge c b o
charge-more c b o = omega arith

instance-content : (x : Encodable) → IsInstanceType x → content_of x ≡ declarations (declarations_of x)
instance-content (Instance ds) h = refl
instance-content (Builder items) h = absurd h
instance-content (Component ds) h = absurd h

module _ (fits : SmallFits) (c : Collection) (b : Bool) (st t : State) (outer : Scope) (is_instance : IsInstanceType st.here.content) (items : st.around.items ≡ t.around.items ++ outer ∷ []) where
  abbrev closed_decls : List Decl
  closed_decls = declarations_of st.here.content

  abbrev closed_type : TypeDef
  closed_type = instance_def (decls closed_decls)

  abbrev closed_open : Open
  closed_open = with_def closed_type (opened b outer)

  inner-size : size_of (declarations closed_decls) ≤ charge c b (opened b st.here)
  inner-size = subst (λ (x : Content). size_of x ≤ charge c b (opened b st.here)) (instance-content st.here.content is_instance) (charge-more c b (opened b st.here))

  old-sum : total c b st ≡ charge c b (opened b st.here) + (sum_by (λ (z : Scope). charge c b (opened b z)) t.around.items + charge c b (opened b outer))
  old-sum =
      total-is c b st
      ∙ ap (λ (z : ℕ). charge c b (opened b st.here) + z)
      (around-is c b st.around.items ∙ ap (λ (ss : List Scope). sum_by (λ (z : Scope). charge c b (opened b z)) ss) items ∙ sum_by_push (λ (z : Scope). charge c b (opened b z)) t.around.items outer)

  close-pays : length closed_decls < 2 ^ 32 → Pays c b [] (17 + size_of (declarations closed_decls)) (opened b outer) closed_open
  close-pays few =
      let size = instance-size closed_decls (content_of outer.content) few in
      pays-grown c b [] (17 + size_of (declarations closed_decls)) (opened b outer) (and_def closed_type (content_of outer.content)) (kind-def closed_type (content_of outer.content)) (omega (arith, size))

  pub close-ok : t.here ≡ record outer { content = and_type closed_type outer.content } → ContentFits (content_of (and_type closed_type outer.content))
      → (total c b t ≤ total c b st + 17) × ((last : Scope) (rest : List Scope) → st.around.items ≡ rest ++ last ∷ [] → PayMoreIn c b last t.here × (t.around.items ≡ rest))
  close-ok is fit =
      let bytes = def_small closed_type (content_of outer.content) (subst ContentFits (content-def closed_type outer.content) fit) in
      let long = instance_long closed_decls in
      let some = decls_few closed_decls in
      let pays = close-pays (omega (arith, bytes, long, some)) in
      let here : opened b t.here ≡ closed_open = ap (opened b) is ∙ opened-def b closed_type outer in (
        close-sum (total c b t) (total c b st) (charge c b closed_open) (charge c b (opened b st.here)) (charge c b (opened b outer)) (sum_by (λ (z : Scope). charge c b (opened b z)) t.around.items) (size_of (declarations closed_decls))
            (total-is c b t ∙ ap (λ (o : Open). charge c b o + sum_by (charge c b) (outward b t.around.items)) here ∙ ap (λ (z : ℕ). charge c b closed_open + z) (around-is c b t.around.items)) old-sum pays.pays inner-size,
        λ last rest other.
            let same = last-same t.around.items rest outer last (sym items ∙ other) in
            (subst (λ (z : Scope). PayMoreIn c b z t.here) same.1 (subst (λ (o : Open). PayMore c b (opened b outer) o) (sym here) pays.more), same.0),
      )

  pub close-large : (ContentFits (content_of (and_type closed_type outer.content)) → ⊥) → 2 ^ 32 ≤ total c b st + 17
  close-large none =
      let some = decls_few closed_decls in
      ⊎_elim
      (λ few.
      close-room (2 ^ 32) (total c b st) (charge c b closed_open) (size_of closed_open.content) (charge c b (opened b st.here)) (charge c b (opened b outer)) (sum_by (λ (z : Scope). charge c b (opened b z)) t.around.items) (size_of (declarations closed_decls))
      (small-or (size_of closed_open.content) (ContentFits closed_open.content) (fits closed_open.content) (subst (λ (x : Content). ContentFits x → ⊥) (content-def closed_type outer.content) none))
      (charge-more c b closed_open) old-sum (close-pays few).pays inner-size)
      (λ many. close-many (2 ^ 32) (length closed_decls) (size_of (declarations closed_decls)) (charge c b (opened b st.here)) (total c b st) (sum_by (λ (z : Scope). charge c b (opened b z)) t.around.items) (charge c b (opened b outer)) many some inner-size old-sum)
      (few-or (length closed_decls))

pub close-answer : SmallFits → {T : Type 0} (c : Collection) (b : Bool) (st t : State) (outer : Scope) (res : Result T BinaryFault) → IsInstanceType st.here.content → st.around.items ≡ t.around.items ++ outer ∷ []
    → OnOk res (t.here ≡ record outer { content = and_type (instance_def (decls (declarations_of st.here.content))) outer.content }) → TooLargeUnless res (ContentFits (content_of (and_type (instance_def (decls (declarations_of st.here.content))) outer.content))) → ClosesPaid c b st t res
close-answer fits c b st t outer (Ok x) is_instance items is fit = close-ok fits c b st t outer is_instance items is fit
close-answer fits c b st t outer (Err TooLarge) is_instance items is fit = close-large fits c b st t outer is_instance items fit
close-answer fits c b st t outer (Err OutOfMemory) is_instance items is fit = tt
