-- Contents to which types alone were added.
use Rattle.std.specs.Prelude.{◌≡◌, List, [], ◌∷◌, ◌++◌, Option, Some, None}
use Rattle.std.specs.List.{AllByRecursion}
use Rattle.std.proofs.Common.{refl, ap, ◌∙◌}
use Rattle.std.proofs.lemmas.List.{append_assoc}
use Rattle.wac_binary.specs.declared.sorts.Sort.TheVariants as s
use Rattle.wac_binary.specs.Items.{TypeDef, Alias, type_decl, type_item, alias_decl, alias_item, export_alias}
use Rattle.wac_encode_scopes.specs.declared.encodable.Encodable.{Encodable}
use Rattle.wac_encode_scopes.specs.declared.encodable.Encodable.TheVariants.{Builder, Instance, Component}
use Rattle.wac_encode_scopes.specs.Contents.{and_type, and_alias_of, IsTypeAlias, IsTypeDecl, IsTypeItem, AddsTypes}
use Rattle.wac_encode_stacks.specs.Scopes.{Where, at_type, at_export}
use Rattle.wac_encode_scopes.specs.private.Steps.{aliased_from}

append-none : {A : Type 0} (zs : List A) → zs ≡ zs ++ []
append-none [] = refl
append-none (z ∷ zs) = ap (λ ws. z ∷ ws) (append-none zs)

all-both : {A : Type 0} (P : A → Type 0) (xs ys : List A) → AllByRecursion P xs → AllByRecursion P ys → AllByRecursion P (xs ++ ys)
all-both P [] ys h k = k
all-both P (x ∷ xs) ys h k = (h.0, all-both P xs ys h.1 k)

pub adds-none : (e : Encodable) → AddsTypes e e
adds-none (Builder xs) = ([], append-none xs, tt)
adds-none (Instance xs) = ([], append-none xs, tt)
adds-none (Component xs) = ([], append-none xs, tt)

pub adds-def : (t : TypeDef) (e : Encodable) → AddsTypes e (and_type t e)
adds-def t (Builder xs) = (type_item t ∷ [], refl, (tt, tt))
adds-def t (Instance xs) = (type_decl t ∷ [], refl, (tt, tt))
adds-def t (Component xs) = (type_decl t ∷ [], refl, (tt, tt))

pub adds-alias : (a : Alias) → IsTypeAlias a → (e : Encodable) → AddsTypes e (and_alias_of a e)
adds-alias a h (Builder xs) = (alias_item a ∷ [], refl, (h, tt))
adds-alias a h (Instance xs) = (alias_decl a ∷ [], refl, (h, tt))
adds-alias a h (Component xs) = (alias_decl a ∷ [], refl, (h, tt))

more-both : {A : Type 0} (P : A → Type 0) (xs ys zs : List A) → (more : List A) × (ys ≡ xs ++ more) × AllByRecursion P more → (more : List A) × (zs ≡ ys ++ more) × AllByRecursion P more → (more : List A) × (zs ≡ xs ++ more) × AllByRecursion P more
more-both P xs ys zs g h = (g.0 ++ h.0, h.1 ∙ ap (λ ws. ws ++ h.0) g.1 ∙ append_assoc xs g.0 h.0, all-both P g.0 h.0 g.2 h.2)

pub adds-both : (e f g : Encodable) → AddsTypes e f → AddsTypes f g → AddsTypes e g
adds-both (Builder xs) (Builder ys) (Builder zs) g h = more-both IsTypeItem xs ys zs g h
adds-both (Instance xs) (Instance ys) (Instance zs) g h = more-both IsTypeDecl xs ys zs g h
adds-both (Component xs) (Component ys) (Component zs) g h = more-both IsTypeDecl xs ys zs g h
adds-both (Builder xs) (Instance ys) z g h = absurd g
adds-both (Builder xs) (Component ys) z g h = absurd g
adds-both (Instance xs) (Builder ys) z g h = absurd g
adds-both (Instance xs) (Component ys) z g h = absurd g
adds-both (Component xs) (Builder ys) z g h = absurd g
adds-both (Component xs) (Instance ys) z g h = absurd g
adds-both x (Builder ys) (Instance zs) g h = absurd h
adds-both x (Builder ys) (Component zs) g h = absurd h
adds-both x (Instance ys) (Builder zs) g h = absurd h
adds-both x (Instance ys) (Component zs) g h = absurd h
adds-both x (Component ys) (Builder zs) g h = absurd h
adds-both x (Component ys) (Instance zs) g h = absurd h

pub adds-aliased : (w : Option Where) (e : Encodable) → AddsTypes e (aliased_from w e)
adds-aliased None e = adds-none e
adds-aliased (Some (at_type i)) e = adds-none e
adds-aliased (Some (at_export j n)) e = adds-alias (export_alias s.Type j n) tt e
