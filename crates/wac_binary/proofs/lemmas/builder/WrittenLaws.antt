-- What a builder has written, after one more item.
use Rattle.std.proofs.Common.{◌≡◌, ℕ, ◌+◌, ◌<◌, ◌^◌, List, [], ◌∷◌, ◌++◌, length, refl, ap, sym, ◌∙◌, arith, append_assoc, append-nil, true}
use Rattle.std.specs.Prelude.{IfSome, slice_index, slice_set, Option, Some, None, false}
use Rattle.std.specs.List.{flat_map}
use Rattle.std.proofs.lemmas.Grind.{common_steps}
use Rattle.wac_binary.specs.Items.{Item}
use Rattle.wac_binary.specs.Bytes.{Section, alone, section_bytes, section_id, preamble, bytes_of, is_shared}
use Rattle.wac_binary.specs.Indexes.{adds, indexes, is_in}
use Rattle.wac_binary.specs.Fits.{SectionFits, Fits}
use Rattle.wac_binary.specs.Format.{ItemIsInFormat, AreInFormat}
use Rattle.wac_binary.specs.private.LastSection.{one, before, next_section, closed, open_section}
use Rattle.wac_binary.specs.private.sections.OpenSection.{section, section_of, begun}
use Rattle.wac_binary.specs.private.builder.Written.{whole, Written, items, items_are, State}
use Rattle.wac_binary.specs.declared.sections.section.Open.{Open}
use Rattle.wac_binary.proofs.SectionLaws.{indexes_snoc, open_fits, sections_are, closed_shared, open_shared, closed_alone, open_alone, fits_more, fits_next, next_is_alone}
use Rattle.wac_binary.proofs.Counts.{grown, bounded, here}
use Rattle.wac_binary.proofs.lemmas.declarations.FormatLaws.{all-snoc}

-- the preamble stands once
pub begun_once : (b : List ℕ) → begun (begun b) ≡ begun b
begun_once [] = refl
begun_once (x ∷ xs) = refl

begun_more : (b more : List ℕ) → begun (begun b ++ more) ≡ begun b ++ more
begun_more [] more = refl
begun_more (x ∷ xs) more = refl

texts : (ss ts : List Section) → flat_map section_bytes (ss ++ ts) ≡ flat_map section_bytes ss ++ flat_map section_bytes ts
texts [] ts = refl
texts (s ∷ ss) ts = ap (λ t. section_bytes s ++ t) (texts ss ts) ∙ sym (append_assoc (section_bytes s) (flat_map section_bytes ss) (flat_map section_bytes ts))

-- the bytes are what is written and the open section
text_whole : (xs : List Item) (bytes things : List ℕ) (o : Option Open) → begun bytes ≡ preamble ++ flat_map section_bytes (closed xs) → section_of o things ≡ open_section xs → bytes_of xs ≡ whole bytes o things
unfolding bytes_of
text_whole xs bytes things o p q =
    ap (λ ss. preamble ++ flat_map section_bytes ss) (sections_are xs) ∙ ap (λ t. preamble ++ t) (texts (closed xs) (one (open_section xs)))
    ∙ sym (append_assoc preamble (flat_map section_bytes (closed xs)) (flat_map section_bytes (one (open_section xs))))
    ∙ (λ i. sym p i ++ flat_map section_bytes (one (sym q i)))

more_closed : (xs : List Item) (b : List ℕ) (ss : List Section) (more : List ℕ) → begun b ≡ preamble ++ flat_map section_bytes (closed xs) → more ≡ flat_map section_bytes ss → begun (begun b ++ more) ≡ preamble ++ flat_map section_bytes (closed xs ++ ss)
more_closed xs b ss more p q =
    begun_more b more ∙ (λ i. p i ++ q i) ∙ append_assoc preamble (flat_map section_bytes (closed xs)) (flat_map section_bytes ss) ∙ ap (λ t. preamble ++ t) (sym (texts (closed xs) ss))

module _ {xs : List Item} {bytes things counts : List ℕ} {o : Option Open} (s : State xs bytes things counts o) where
  pub written_of : Written bytes o things
  written_of = record { list = xs; text = text_whole xs bytes things o s.bytes_are s.open_is }

  pub items_kept : (w : Written bytes o things) → items w ≡ xs
  items_kept w = items_are w xs (text_whole xs bytes things o s.bytes_are s.open_is)

  pub state_kept : (w : Written bytes o things) → State (items w) bytes things counts o
  state_kept w = rw (items_kept w) s

  pub room : IfSome (section_of o things) SectionFits
  room = rw s.open_is (open_fits xs s.fits.sections_fit)

  -- the preamble is written first
  pub state_begun : State xs (begun bytes) things counts o
  state_begun = record { bytes_are = begun_once bytes ∙ s.bytes_are; open_is = s.open_is; counted = s.counted; fits = s.fits; in_format = s.in_format }

  -- the same bytes in other buffers
  pub state_same : (more others : List ℕ) → more ≡ bytes → others ≡ things → State xs more others counts o
  state_same more others p q = rw (p, q) s

  module _ (x : Item) where
    -- what fits with one more item
    pub next_room : Fits (xs ++ x ∷ []) → SectionFits (next_section (section_of o things) x)
    next_room f = rw s.open_is (fits_next xs x f.sections_fit)

    pub alone_room : is_shared (section_id x) ≡ false → Fits (xs ++ x ∷ []) → SectionFits (alone x)
    alone_room h f = rw (← next_is_alone (section_of o things) x h) (next_room f)

    alone_bytes : is_shared (section_id x) ≡ false → begun (begun bytes ++ (flat_map section_bytes (one (section_of o things)) ++ section_bytes (alone x))) ≡ preamble ++ flat_map section_bytes (closed (xs ++ x ∷ []))
    alone_bytes h =
        more_closed xs bytes (one (open_section xs) ++ alone x ∷ []) _ s.bytes_are
        (ap (λ t. flat_map section_bytes (one t) ++ section_bytes (alone x)) s.open_is ∙ ap (λ t. flat_map section_bytes (one (open_section xs)) ++ t) (sym (append-nil (section_bytes (alone x)))) ∙ sym (texts (one (open_section xs)) (alone x ∷ [])))
        ∙ ap (λ ss. preamble ++ flat_map section_bytes ss) (sym (closed_alone xs x h))

    more_in_format : ItemIsInFormat x → AreInFormat (xs ++ x ∷ [])
    more_in_format valid = all-snoc ItemIsInFormat xs x s.in_format valid

    none_added : adds x ≡ None → (j : ℕ) → indexes j (xs ++ x ∷ []) ≡ indexes j xs
    none_added p j = rw (indexes_snoc j xs x, p) (omega arith)

    pub more_custom_fits : adds x ≡ None → is_shared (section_id x) ≡ false → SectionFits (alone x) → Fits (xs ++ x ∷ [])
    more_custom_fits p h r = record {
      sections_fit = fits_more xs x s.fits.sections_fit (rw (next_is_alone (open_section xs) x h) r);
      indexes_fit = λ j. rw (none_added p j) (s.fits.indexes_fit j);
    }

    -- with an item in a section of its own that adds no index
    pub state_custom : adds x ≡ None → is_shared (section_id x) ≡ false → SectionFits (alone x) → ItemIsInFormat x → State (xs ++ x ∷ []) (begun bytes ++ (flat_map section_bytes (one (section_of o things)) ++ section_bytes (alone x))) things counts None
    state_custom p h r valid = record {
      bytes_are = alone_bytes h;
      open_is = sym (open_alone xs x h);
      counted = λ j l. s.counted j l ∙ sym (none_added p j);
      fits = more_custom_fits p h r;
      in_format = more_in_format valid;
    }

    module _ (k : ℕ) (p : adds x ≡ Some k) (q : k < 7) where
      added : (j : ℕ) → indexes j (xs ++ x ∷ []) ≡ indexes j xs + is_in j (Some k)
      added j = rw (indexes_snoc j xs x, p) refl

      pub index_room : Fits (xs ++ x ∷ []) → slice_index counts k < 2 ^ 32
      index_room f = omega (arith, f.indexes_fit k, added k, here k, s.counted k q)

      pub more_fits : slice_index counts k < 2 ^ 32 → SectionFits (next_section (section_of o things) x) → Fits (xs ++ x ∷ [])
      more_fits g r = record {
        sections_fit = fits_more xs x s.fits.sections_fit (rw (← s.open_is) r);
        indexes_fit = λ j. rw (added j) (bounded k j (indexes j xs) (2 ^ 32) (s.fits.indexes_fit j) (λ e. rw (← e, ← s.counted k q) g));
      }

      -- with one more item that fits there was room for it
      pub room_after : Fits (xs ++ x ∷ []) → (slice_index counts k < 2 ^ 32) × SectionFits (next_section (section_of o things) x)
      room_after f = (index_room f, next_room f)

      more_counted : length counts ≡ 7 → (j : ℕ) → j < 7 → slice_index (slice_set counts k (slice_index counts k + 1)) j ≡ indexes j (xs ++ x ∷ [])
      more_counted l j r = grown k j (indexes j xs) (indexes j (xs ++ x ∷ [])) counts (s.counted j r) (omega arith) (added j)

      -- with an item in the open section
      pub state_shared : length counts ≡ 7 → slice_index counts k < 2 ^ 32 → is_shared (section_id x) ≡ true → (n : Open) (new : List ℕ) → section n new ≡ next_section (section_of o things) x
          → SectionFits (next_section (section_of o things) x) → ItemIsInFormat x
          → State (xs ++ x ∷ []) (begun bytes ++ flat_map section_bytes (before (section_of o things) x)) new (slice_set counts k (slice_index counts k + 1)) (Some n)
      state_shared l g h n new e r valid = record {
        bytes_are = more_closed xs bytes (before (open_section xs) x) _ s.bytes_are (ap (λ t. flat_map section_bytes (before t x)) s.open_is) ∙ ap (λ ss. preamble ++ flat_map section_bytes ss) (sym (closed_shared xs x h));
        open_is = ap Some (e ∙ ap (λ t. next_section t x) s.open_is) ∙ sym (open_shared xs x h);
        counted = more_counted l;
        fits = more_fits g r;
        in_format = more_in_format valid;
      }

      -- with an item in a section of its own
      pub state_alone : length counts ≡ 7 → slice_index counts k < 2 ^ 32 → is_shared (section_id x) ≡ false → SectionFits (alone x) → ItemIsInFormat x
          → State (xs ++ x ∷ []) (begun bytes ++ (flat_map section_bytes (one (section_of o things)) ++ section_bytes (alone x))) things (slice_set counts k (slice_index counts k + 1)) None
      state_alone l g h r valid = record {
        bytes_are = alone_bytes h;
        open_is = sym (open_alone xs x h);
        counted = more_counted l;
        fits = more_fits g (rw (next_is_alone (section_of o things) x h) r);
        in_format = more_in_format valid;
      }

-- the state with one more item in a section of its own, from what was written
module _ {xs : List Item} {bytes things counts : List ℕ} {o : Option Open} (s : State xs bytes things counts o) (x : Item) (old : List Item) (start new open_things : List ℕ)
    (old_is : xs ≡ old) (start_is : start ≡ begun bytes) (things_are : open_things ≡ things)
    (new_is : new ≡ start ++ (flat_map section_bytes (one (section_of o open_things)) ++ section_bytes (alone x))) (fits : SectionFits (alone x)) (valid : ItemIsInFormat x) where
  pub with_component : (k : ℕ) → adds x ≡ Some k → k < 7 → is_shared (section_id x) ≡ false → length counts ≡ 7 → slice_index counts k < 2 ^ 32 → State (old ++ x ∷ []) new things (slice_set counts k (slice_index counts k + 1)) None
  with_component k p q h l g = rw (new_is, start_is, things_are, ← old_is) (state_alone s x k p q l g h fits valid)

  pub with_custom : adds x ≡ None → is_shared (section_id x) ≡ false → State (old ++ x ∷ []) new things counts None
  with_custom p h = rw (new_is, start_is, things_are, ← old_is) (state_custom s x p h fits valid)

-- items that fit, with one more item in a section of its own
module _ {xs : List Item} {bytes things counts : List ℕ} {o : Option Open} (s : State xs bytes things counts o) (x : Item) where
  pub component_fits : (k : ℕ) → adds x ≡ Some k → k < 7 → is_shared (section_id x) ≡ false → slice_index counts k < 2 ^ 32 → SectionFits (alone x) → Fits (xs ++ x ∷ [])
  component_fits k p q h g r = more_fits s x k p q g (rw (next_is_alone (section_of o things) x h) r)

  pub custom_fits : adds x ≡ None → is_shared (section_id x) ≡ false → SectionFits (alone x) → Fits (xs ++ x ∷ [])
  custom_fits p h r = more_custom_fits s x p h r

no_counts : (k : ℕ) → k < 7 → slice_index (0 ∷ 0 ∷ 0 ∷ 0 ∷ 0 ∷ 0 ∷ 0 ∷ []) k ≡ 0
no_counts k p = grind (arith, common_steps)

pub state_none : State [] [] [] (0 ∷ 0 ∷ 0 ∷ 0 ∷ 0 ∷ 0 ∷ 0 ∷ []) None
state_none = record { bytes_are = refl; open_is = refl; counted = no_counts; fits = record { sections_fit = tt; indexes_fit = λ k. omega arith }; in_format = tt }
