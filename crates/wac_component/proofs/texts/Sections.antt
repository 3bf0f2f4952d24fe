-- The sections of a list of items are read as the parts of the items.
use Rattle.std.proofs.Common.{◌≡◌, ℕ, zero, suc, ◌+◌, ◌^◌, ◌<◌, ◌≤◌, true, false, eqb, List, [], ◌∷◌, ◌++◌, map, length, Ok, Err, refl, ap, sym, subst, ◌∙◌, arith, add-one, append_assoc, append-nil, length-append}
use Rattle.std.specs.Prelude.{Bool, None, Result, if◌then◌else◌}
use Rattle.std.specs.List.{AllByRecursion, flat_map}
use Rattle.std.proofs.lemmas.Bool.{and_parts, eqb-true}
use Rattle.wac_types_shapes.specs.primitives.Name.{Name}
use Rattle.wac_binary.specs.declared.sorts.Sort.{Sort}
use Rattle.wac_binary.specs.declared.sorts.Description.{Description}
use Rattle.wac_component.specs.declared.fault.TextFault.{TextFault}
use Rattle.wac_component.specs.declared.fault.TextFault.TheVariants.{UnknownByte}
use Rattle.wac_binary.specs.Items.{Item, custom, core_type, nested, instantiate, alias_item, type_item, import_item, export_item}
use Rattle.wac_binary.specs.Leb.{unsigned}
use Rattle.wac_binary.specs.Bytes.{text, sort, argument, item_bytes, section_id, is_shared, Section, alone, joins, joined, sections_from, contents, section_bytes}
use Rattle.wac_binary.specs.Fits.{SectionFits}
use Rattle.wac_binary.specs.Format.{ArgumentIsInFormat, ItemIsInFormat, AreInFormat}
use Rattle.wac_component.specs.Parts.{Part, custom_part, core_type_part, component_part, instantiate_part, alias_part, type_part, import_part, export_part, Parts, module_type, module_decl, component_alias}
use Rattle.wac_component.specs.Reader.{Reader, done, fails, after, made, made3, chosen, used_up, whole, within, all_at, elements}
use Rattle.wac_component.specs.Numbers.{number_at, name_at, vector_at, optional_at}
use Rattle.wac_component.specs.CoreTypes.{core_type_at}
use Rattle.wac_component.specs.Types.{sort_at, alias_at, description_at}
use Rattle.wac_component.specs.Reading.{sorted, instance_at, defined_at, import_at, export_at, sections, section_at, parts_at}
use Rattle.wac_component.specs.Written.{IsReadAs, ReadsWithin}
use Rattle.wac_component.proofs.Laws.{number_again}
use Rattle.wac_component.proofs.Ends.{both}
use Rattle.wac_component.proofs.texts.Reads.{Reads, reads_as, reads_moved, reads_then, reads_made, reads_made2, reads_made3, reads_byte, reads_number, reads_name, name_again, sized_again, reads_extern, reads_list, reads_none, reads_more, some_text}
use Rattle.wac_component.proofs.texts.Sorts.{reads_sort, reads_description, reads_alias}
use Rattle.wac_component.proofs.texts.Cores.{reads_core_type}
use Rattle.wac_component.proofs.texts.Types.{reads_defined}

-- The reader of a section's contents, and that of one of its elements.

abbrev pub contents_at : (depth id : ℕ) → Reader (List Part)
contents_at depth id = chosen (fails UnknownByte) (sections depth (parts_at depth)) id

abbrev pub element_at : (depth id : ℕ) → Reader Part
element_at depth id = chosen (fails UnknownByte) ((3, made core_type_part core_type_at) ∷ (5, instance_at) ∷ (6, made alias_part alias_at) ∷ (7, defined_at depth) ∷ (10, import_at) ∷ (11, export_at) ∷ []) id

vectors : (depth : ℕ) (i : Item) → is_shared (section_id i) ≡ true → contents_at depth (section_id i) ≡ vector_at (element_at depth (section_id i))
vectors depth (custom name bytes) h = absurd cc
vectors depth (core_type m) h = refl
vectors depth (nested bytes) h = absurd cc
vectors depth (instantiate c args) h = refl
vectors depth (alias_item a) h = refl
vectors depth (type_item t) h = refl
vectors depth (import_item n d) h = refl
vectors depth (export_item n t i) h = refl

-- Items that share a section.

reads_argument : (a : Name × Sort × ℕ) → ArgumentIsInFormat a → Reads (sorted name_at) (argument a) a
reads_argument a h = reads_made3 (λ name t i. (name, t, i)) (reads_name a.0 h.0) (reads_sort a.1) (reads_number a.2 h.1)

some_argument : (a : Name × Sort × ℕ) → 0 < length (argument a)
some_argument a = omega (arith, some_text a.0, length-append (text a.0 ++ sort a.1) (unsigned a.2), length-append (text a.0) (sort a.1))

reads_instance : (c : ℕ) (args : List (Name × Sort × ℕ)) → ItemIsInFormat (instantiate c args) → Reads instance_at (item_bytes (instantiate c args)) (instantiate_part c args)
unfolding instance_at
reads_instance c args h = reads_byte 0 (reads_made2 instantiate_part (reads_number c h.0) (reads_list (sorted name_at) argument ArgumentIsInFormat some_argument reads_argument args h.1)) (λ bytes. refl)

reads_import : (n : Name) (d : Description) → ItemIsInFormat (import_item n d) → Reads import_at (item_bytes (import_item n d)) (import_part n d)
unfolding import_at
reads_import n d h = reads_made2 import_part (reads_extern n h.0) (reads_description d h.1)

reads_export : (n : Name) (t : Sort) (i : ℕ) → ItemIsInFormat (export_item n t i) → Reads export_at (item_bytes (export_item n t i)) (export_part n t i None)
unfolding export_at optional_at
reads_export n t i h =
    let none : Reads (optional_at description_at) (0 ∷ []) None = record { again = λ short rest. refl } in
    let name : List ℕ = 0 ∷ text n in
    let last = reads_made3 (export_part n) (reads_sort t) (reads_number i h.1) none in
    let all = reads_then (λ m. made3 (export_part m) sort_at number_at (optional_at description_at)) (reads_extern n h.0) last in
    let front = append_assoc (name ++ sort t) (unsigned i) (0 ∷ []) ∙ append_assoc name (sort t) (unsigned i ++ 0 ∷ []) ∙ ap (λ (l : List ℕ). name ++ l) (sym (append_assoc (sort t) (unsigned i) (0 ∷ []))) in
    reads_moved (name ++ (sort t ++ unsigned i ++ 0 ∷ [])) (item_bytes (export_item n t i)) all front

item_again : (depth : ℕ) (i : Item) (p : Part) → ItemIsInFormat i → IsReadAs depth i p → is_shared (section_id i) ≡ true → Reads (element_at depth (section_id i)) (item_bytes i) p
item_again depth (custom name bytes) p h r e = absurd cc
item_again depth (core_type m) p h r e = reads_as (core_type_part (module_type (map module_decl m))) p (reads_made core_type_part (reads_core_type m h)) r
item_again depth (nested bytes) p h r e = absurd cc
item_again depth (instantiate c args) p h r e = reads_as (instantiate_part c args) p (reads_instance c args h) r
item_again depth (alias_item a) p h r e = reads_as (alias_part (component_alias a)) p (reads_made alias_part (reads_alias a h)) r
item_again depth (type_item t) p h r e = reads_as (type_part t) p (reads_defined t depth h r.0) r.1
item_again depth (import_item n d) p h r e = reads_as (import_part n d) p (reads_import n d h) r
item_again depth (export_item n t i) p h r e = reads_as (export_part n t i None) p (reads_export n t i h) r

-- One element more, at the front and at the end.

more_at : {A : Type 0} (r : Reader A) (n : ℕ) (bytes : List ℕ) (x : A) (more : List ℕ) (xs : List A) (rest : List ℕ) → r bytes ≡ Ok (x, more) → all_at r n more ≡ Ok (xs, rest) → all_at r (suc n) bytes ≡ Ok (x ∷ xs, rest)
unfolding all_at
more_at r n bytes x more xs rest e f = rw (e, f) refl

last_at : {A : Type 0} (r : Reader A) (n : ℕ) (bytes : List ℕ) (y : List A × List ℕ) (x : A) (rest : List ℕ) → all_at r n bytes ≡ Ok y → r y.1 ≡ Ok (x, rest) → all_at r (suc n) bytes ≡ Ok (y.0 ++ x ∷ [], rest)
unfolding all_at
last_at {A = A} r zero bytes y x rest e f =
    let none : [] ≡ y.0 = cc in
    let same : bytes ≡ y.1 = cc in
    subst (λ (ys : List A). all_at r 1 bytes ≡ Ok (ys ++ x ∷ [], rest)) none (rw (ap r same ∙ f) refl)
last_at {A = A} r (suc n) bytes y x rest e f =
    let p = both (r bytes) (λ z. made (λ zs. z ∷ zs) (all_at r n)) y e in
    let q = both (all_at r n p.0.1) (λ zs. done (p.0.0 ∷ zs)) y p.2 in
    let same : q.0.1 ≡ y.1 = cc in
    let front : p.0.0 ∷ q.0.0 ≡ y.0 = cc in
    let tail = last_at r n p.0.1 q.0 x rest q.1 (ap r same ∙ f) in
    subst (λ (ys : List A). all_at r (suc (suc n)) bytes ≡ Ok (ys ++ x ∷ [], rest)) front (more_at r (suc n) bytes p.0.0 p.0.1 (q.0.0 ++ x ∷ []) rest p.1 tail)

reads_last : {A : Type 0} (r : Reader A) (n : ℕ) {t u : List ℕ} (xs : List A) {x : A} → Reads (all_at r n) t xs → Reads r u x → Reads (all_at r (n + 1)) (t ++ u) (xs ++ x ∷ [])
reads_last r n {t = t} {u = u} xs {x = x} h g = record {
  again = λ short rest.
      let first = h.again (omega (arith, length-append t u)) (u ++ rest) in
      let second = g.again (omega (arith, length-append t u)) rest in
      rw (add-one, append_assoc t u rest) (last_at r n (t ++ (u ++ rest)) (xs, u ++ rest) x rest first second);
}

-- The contents of a section are read as these parts.
abbrev pub IsWhole : (depth : ℕ) → Section → List Part → Type 0
IsWhole depth s ps = whole (contents_at depth s.id) (contents s) ≡ Ok ps

-- The elements of a section that further items may join are read as these parts.
pub record IsOpen (depth : ℕ) (s : Section) (ps : List Part) : Type 0 where
  pub vector : contents_at depth s.id ≡ vector_at (element_at depth s.id)
  pub read : Reads (all_at (element_at depth s.id) s.count) s.things ps

pub record Holds (depth : ℕ) (s : Section) (ps : List Part) : Type 0 where
  pub closed : SectionFits s → IsWhole depth s ps
  pub joinable : is_shared s.id ≡ true → IsOpen depth s ps

vector_whole : {A : Type 0} (r : Reader A) (n : ℕ) (t : List ℕ) (xs : List A) → n < 2 ^ 32 → length t < 2 ^ 32 → Reads (all_at r n) t xs → vector_at r (unsigned n ++ t) ≡ Ok (xs, [])
unfolding vector_at
vector_whole r n t xs few short h =
    let all : all_at r n t ≡ Ok (xs, []) = rw append-nil at (h.again short []) in
    rw (number_again n t few, all) refl

open_whole : (depth : ℕ) (s : Section) (ps : List Part) → is_shared s.id ≡ true → IsOpen depth s ps → SectionFits s → IsWhole depth s ps
open_whole depth s ps e o f =
    let inside : contents s ≡ unsigned s.count ++ s.things = ap (λ (b : Bool). (if b then unsigned s.count else []) ++ s.things) e in
    let short : length s.things < 2 ^ 32 = omega (arith, f.size, ap length inside, length-append (unsigned s.count) s.things) in
    let all = vector_whole (element_at depth s.id) s.count s.things ps f.count short o.read in
    rw (o.vector, inside, all) refl

holds_open : (depth : ℕ) (s : Section) (ps : List Part) → is_shared s.id ≡ true → IsOpen depth s ps → Holds depth s ps
holds_open depth s ps e o = record { closed = λ f. open_whole depth s ps e o f; joinable = λ _. o }

open_alone : (depth : ℕ) (i : Item) (p : Part) → ItemIsInFormat i → IsReadAs depth i p → is_shared (section_id i) ≡ true → IsOpen depth (alone i) (p ∷ [])
open_alone depth i p h r e = record {
  vector = vectors depth i e;
  read = one (item_again depth i p h r e);
}
  where
    one : Reads (element_at depth (section_id i)) (item_bytes i) p → Reads (all_at (element_at depth (section_id i)) 1) (item_bytes i) (p ∷ [])
    one g = rw append-nil at (reads_more zero g (reads_none (element_at depth (section_id i))))

custom_whole : (depth : ℕ) (name bytes : List ℕ) → ItemIsInFormat (custom name bytes) → SectionFits (alone (custom name bytes)) → IsWhole depth (alone (custom name bytes)) (custom_part name bytes ∷ [])
custom_whole depth name bytes h f =
    let short : length name < 2 ^ 32 = omega (arith, f.size, length-append (text name) bytes, length-append (unsigned (length name)) name) in
    rw (name_again name bytes short h.0) refl

nested_whole : (depth : ℕ) (bytes : List ℕ) (inner : Parts) → parts_at depth bytes ≡ Ok inner → IsWhole depth (alone (nested bytes)) (component_part inner ∷ [])
nested_whole depth bytes inner e = ap (λ (w : Result Parts TextFault). used_up (after (λ q. done (q ∷ [])) (after (λ q. done (component_part q)) (elim w as (λ v. Result (Parts × List ℕ) TextFault) [ Ok ps ↦ Ok (ps, []) | Err d ↦ Err d ])))) e

pub holds_alone : (depth : ℕ) (i : Item) (p : Part) → ItemIsInFormat i → IsReadAs depth i p → Holds depth (alone i) (p ∷ [])
holds_alone depth (custom name bytes) p h r = record { closed = λ f. subst (λ (q : Part). IsWhole depth (alone (custom name bytes)) (q ∷ [])) (sym r) (custom_whole depth name bytes h f); joinable = λ e. absurd cc }
holds_alone depth (core_type m) p h r = holds_open depth (alone (core_type m)) (p ∷ []) refl (open_alone depth (core_type m) p h r refl)
holds_alone depth (nested bytes) p h r = record { closed = λ f. subst (λ (q : Part). IsWhole depth (alone (nested bytes)) (q ∷ [])) (sym r.2) (nested_whole depth bytes r.0 r.1); joinable = λ e. absurd cc }
holds_alone depth (instantiate c args) p h r = holds_open depth (alone (instantiate c args)) (p ∷ []) refl (open_alone depth (instantiate c args) p h r refl)
holds_alone depth (alias_item a) p h r = holds_open depth (alone (alias_item a)) (p ∷ []) refl (open_alone depth (alias_item a) p h r refl)
holds_alone depth (type_item t) p h r = holds_open depth (alone (type_item t)) (p ∷ []) refl (open_alone depth (type_item t) p h r refl)
holds_alone depth (import_item n d) p h r = holds_open depth (alone (import_item n d)) (p ∷ []) refl (open_alone depth (import_item n d) p h r refl)
holds_alone depth (export_item n t i) p h r = holds_open depth (alone (export_item n t i)) (p ∷ []) refl (open_alone depth (export_item n t i) p h r refl)

holds_joined : (depth : ℕ) (s : Section) (ps : List Part) (i : Item) (p : Part) → Holds depth s ps → joins s i ≡ true → ItemIsInFormat i → IsReadAs depth i p → Holds depth (joined s i) (ps ++ p ∷ [])
holds_joined depth s ps i p held j h r =
    let tests = and_parts (is_shared s.id) (eqb s.id (section_id i)) j in
    let same : s.id ≡ section_id i = eqb-true s.id (section_id i) tests.1 in
    let o = held.joinable tests.0 in
    let shared : is_shared (section_id i) ≡ true = ap is_shared (sym same) ∙ tests.0 in
    let element : Reads (element_at depth s.id) (item_bytes i) p = subst (λ (id : ℕ). Reads (element_at depth id) (item_bytes i) p) (sym same) (item_again depth i p h r shared) in
    holds_open depth (joined s i) (ps ++ p ∷ []) tests.0 (record { vector = o.vector; read = reads_last (element_at depth s.id) s.count ps o.read element })

within_whole : {A : Type 0} (r : Reader A) (inside bytes : List ℕ) (x : A) → whole r inside ≡ Ok x → within r inside bytes ≡ Ok (x, bytes)
within_whole {A = A} r inside bytes x e = ap (λ (w : Result A TextFault). elim w as (λ v. Result (A × List ℕ) TextFault) [ Ok y ↦ Ok (y, bytes) | Err d ↦ Err d ]) e

-- A section is read as the parts in it.
section_again : (depth : ℕ) (s : Section) (ps : List Part) (rest : List ℕ) → IsWhole depth s ps → SectionFits s → section_at (sections depth (parts_at depth)) (section_bytes s ++ rest) ≡ Ok (ps, rest)
unfolding section_at
section_again depth s ps rest w f = rw (sized_again (contents s) rest f.size) (within_whole (contents_at depth s.id) (contents s) rest ps w)

-- Sections one after the other are read as the parts in them.
pub record AllRead (depth : ℕ) (ss : List Section) (ps : List Part) : Type 0 where
  pub found : List (List Part)
  pub all : flat_map (λ qs. qs) found ≡ ps
  pub read : (n : ℕ) → length (flat_map section_bytes ss) ≤ n → elements (section_at (sections depth (parts_at depth))) n (flat_map section_bytes ss) ≡ Ok (found, [])

pub read_none : (depth : ℕ) → AllRead depth [] []
unfolding elements
read_none depth = record { found = []; all = refl; read = λ n h. refl }

element_step : {A : Type 0} (r : Reader A) (n b : ℕ) (bytes : List ℕ) (x : A) (more : List ℕ) (xs : List A) (rest : List ℕ) → r (b ∷ bytes) ≡ Ok (x, more) → elements r n more ≡ Ok (xs, rest) → elements r (suc n) (b ∷ bytes) ≡ Ok (x ∷ xs, rest)
unfolding elements
element_step r n b bytes x more xs rest e f = rw (e, f) refl

read_more : (depth : ℕ) (s : Section) (qs : List Part) (ss : List Section) (ps : List Part) → IsWhole depth s qs → SectionFits s → AllRead depth ss ps → AllRead depth (s ∷ ss) (qs ++ ps)
read_more depth s qs ss ps w f a = record { found = qs ∷ a.found; all = ap (λ (l : List Part). qs ++ l) a.all; read = reads }
  where
    reads : (n : ℕ) → length (flat_map section_bytes (s ∷ ss)) ≤ n → elements (section_at (sections depth (parts_at depth))) n (flat_map section_bytes (s ∷ ss)) ≡ Ok (qs ∷ a.found, [])
    reads zero h = absurd (omega arith)
    reads (suc n) h =
        let rest = flat_map section_bytes ss in
        let fits : length rest ≤ n = omega (arith, length-append (text (contents s)) rest) in
        element_step (section_at (sections depth (parts_at depth))) n s.id (text (contents s) ++ rest) qs rest a.found [] (section_again depth s qs rest w f) (a.read n fits)

pub sections_again : (depth : ℕ) (s : Section) (qs : List Part) (items : List Item) (ps : List Part) → Holds depth s qs → AreInFormat items → ReadsWithin depth items ps → AllByRecursion SectionFits (sections_from s items) → AllRead depth (sections_from s items) (qs ++ ps)
sections_again depth s qs [] [] held h w fits = read_more depth s qs [] [] (held.closed fits.0) fits.0 (read_none depth)
sections_again depth s qs [] (p ∷ ps) held h w fits = absurd w
sections_again depth s qs (i ∷ items) [] held h w fits = absurd w
sections_again depth s qs (i ∷ items) (p ∷ ps) held h w fits =
    elim (joins s i) as (λ b. joins s i ≡ b → AllByRecursion SectionFits (if b then sections_from (joined s i) items else s ∷ sections_from (alone i) items) → AllRead depth (if b then sections_from (joined s i) items else s ∷ sections_from (alone i) items) (qs ++ p ∷ ps)) [
      | true ↦ λ j g.
          let more = sections_again depth (joined s i) (qs ++ p ∷ []) items ps (holds_joined depth s qs i p held j h.0 w.0) h.1 w.1 g in
          subst (λ (l : List Part). AllRead depth (sections_from (joined s i) items) l) (append_assoc qs (p ∷ []) ps) more
      | false ↦ λ j g. read_more depth s qs (sections_from (alone i) items) (p ∷ ps) (held.closed g.0) g.0 (sections_again depth (alone i) (p ∷ []) items ps (holds_alone depth i p h.0 w.0) h.1 w.1 g.1)
    ] refl fits
