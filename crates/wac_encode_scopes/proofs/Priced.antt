-- Which scopes may be the root when a scope is opened or closed.
use Rattle.std.specs.Prelude.{Bool, List, [], ◌∷◌, ◌++◌}
use Rattle.std.specs.List.{AllByRecursion}
use Rattle.std.proofs.Common.{ap, sym, subst}
use Rattle.wac_binary.specs.Items.{TypeDef, instance_def, decls}
use Rattle.wac_encode_scopes.specs.declared.encodable.Encodable.{Encodable}
use Rattle.wac_encode_scopes.specs.declared.encodable.Encodable.TheVariants.{Builder, Instance, Component}
use Rattle.wac_encode_scopes.specs.declared.scope.Scope.{Scope}
use Rattle.wac_encode_scopes.specs.Contents.{and_type, declarations_of}
use Rattle.wac_encode_scopes.specs.private.Paid.{IsOpenType, MayEnclose, ArePriced}
use Rattle.wac_encode_scopes.specs.private.PaidLaws.{OpensPriced, ClosesPriced}

abbrev AreOpen : List Scope → Type 0
AreOpen ss = AllByRecursion (λ (t : Scope). IsOpenType t.content) ss

open-more : (ss : List Scope) (s : Scope) → AreOpen ss → IsOpenType s.content → AreOpen (ss ++ s ∷ [])
open-more [] s h o = (o, tt)
open-more (x ∷ ss) s h o = (h.0, open-more ss s h.1 o)

open-less : (ss : List Scope) (s : Scope) → AreOpen (ss ++ s ∷ []) → AreOpen ss × IsOpenType s.content
open-less [] s h = (tt, h.0)
open-less (x ∷ ss) s h = let rest = open-less ss s h.1 in ((h.0, rest.0), rest.1)

opens-list : (b : Bool) (ss : List Scope) (s : Scope) (x : Encodable) → IsOpenType x → MayEnclose b s.content → ArePriced b ss s.content → ArePriced b (ss ++ s ∷ []) x
opens-list b [] s x o may h = (may, tt, o)
opens-list b (bottom ∷ ss) s x o may h = (h.0, open-more ss s h.1 h.2, o)

pub opens-priced : OpensPriced
opens-priced b s t around o may h = subst (λ (ss : List Scope). ArePriced b ss t.here.content) (sym around) (opens-list b s.around.items s.here t.here.content o may h)

def-open : (t : TypeDef) (x : Encodable) → IsOpenType x → IsOpenType (and_type t x)
def-open t (Builder items) h = absurd h
def-open t (Instance ds) h = tt
def-open t (Component ds) h = tt

closes-list : (b : Bool) (ss : List Scope) (outer : Scope) (x : Encodable) (t : TypeDef) → ArePriced b (ss ++ outer ∷ []) x → ArePriced b ss (and_type t outer.content)
closes-list b [] outer x t h = tt
closes-list b (bottom ∷ ss) outer x t h = let split = open-less ss outer h.1 in (h.0, split.0, def-open t outer.content split.1)

pub closes-priced : ClosesPriced
closes-priced b s t into h =
    let d = instance_def (decls (declarations_of s.here.content)) in
    subst (λ (x : Encodable). ArePriced b t.around.items x) (sym (ap (λ (z : Scope). z.content) into.2)) (closes-list b t.around.items into.0 s.here.content d (subst (λ (ss : List Scope). ArePriced b ss s.here.content) into.1 h))
