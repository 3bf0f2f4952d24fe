-- The entries of a map, by what is seen of their keys.
use Rattle.std.proofs.Common.{ℕ, ◌≡◌, ◌∙◌, refl, sym, ap, Bool, false, cond, List, [], ◌∷◌, ◌++◌, map, slice_get, Some, None, string_bytes, zero-add}
use Rattle.std.proofs.lemmas.Bool.{cond-false}
use Rattle.std.proofs.lemmas.List.{map_push}
use Rattle.std.proofs.lemmas.Option.{slice_get-map}
use Rattle.std.specs.declared.string.String.{String}
use Rattle.std.specs.List.{AllZip, AllByRecursion, IsDistinct}
use Rattle.std.specs.Map.{lookup, lookup_key, keys_of}
use Rattle.std.specs.Option.{option_map}
use Rattle.std.specs.Str.{bytes_eq}
use Rattle.std.specs.String.{string_eq}
use Rattle.indexmap.specs.IndexMap.{IndexMap, get, insert_entry}
use Rattle.indexmap.proofs.CallerLemmas.{insert_entry-new}
use Rattle.wac_types_shapes.specs.primitives.Name.{Name, same_name, find_name}
use Rattle.wac_types_shapes.specs.shapes.Named.{by_bytes, named_at, NoNameTwice}
use Rattle.wac_types_shapes.proofs.lemmas.shapes.Names.{same_name-bytes_eq, same_name-true, found_by_name, key_passes, named_at-at}

module _ {K N V : Type 0} (f : K → N) where
  -- each entry, by its key's
  abbrev pub seen : List (K × V) → List (N × V)
  seen es = map (λ e. (f e.0, e.1)) es

  -- a look-up of a key is one of what is seen of it
  pub lookup_seen : (t : K → Bool) (s : N → Bool) → ((k : K) → t k ≡ s (f k)) → (es : List (K × V)) → lookup t es ≡ lookup s (seen es)
  lookup_seen t s same [] = refl
  lookup_seen t s same (e ∷ es) = (λ i. cond (same e.0 i) (Some e.1) (lookup_seen t s same es i))

  -- which finds nothing where no key passes
  pub nothing_seen : (t : K → Bool) (s : N → Bool) → ((k : K) → t k ≡ s (f k)) → (es : List (K × V)) → AllByRecursion (λ k. t k ≡ false) (keys_of es) → lookup s (seen es) ≡ None
  nothing_seen t s same [] h = refl
  nothing_seen t s same (e ∷ es) h = cond-false _ _ _ (sym (same e.0) ∙ h.0) ∙ nothing_seen t s same es h.1

  -- a new key goes behind the others
  pub insert_seen : {S : Type 0} (eq : K → K → Bool) (m : IndexMap K V S) (k : K) (v : V) → get eq m k ≡ None → seen (insert_entry eq m.entries k v) ≡ seen m.entries ++ (f k, v) ∷ []
  insert_seen eq m k v none = ap seen (insert_entry-new eq m k v none) ∙ map_push (λ (e : K × V). (f e.0, e.1)) m.entries (k, v)

  -- clones of keys are seen alike
  pub clones_seen : (C : K → K → Type 0) (D : V → V → Type 0) → ((k l : K) → C k l → f l ≡ f k) → (es gs : List (K × V)) → AllZip (λ p q. C p.0 q.0 × D p.1 q.1) es gs
      → AllZip (λ p q. (q.0 ≡ p.0) × D p.1 q.1) (seen es) (seen gs)
  clones_seen C D same [] [] h = tt
  clones_seen C D same (e ∷ es) (g ∷ gs) h = ((same e.0 g.0 h.0.0, h.0.1), clones_seen C D same es gs h.1)
  clones_seen C D same _ _ h = absurd h

module _ {A V : Type 0} where
  -- a look-up by the bytes is one among the entries by bytes
  pub found_by_bytes : (n : Name) (es : List (String A × V)) → lookup (λ s. bytes_eq n (string_bytes s)) es ≡ find_name (by_bytes es) n
  found_by_bytes n es = lookup_seen string_bytes _ (same_name n) (λ k. same_name-bytes_eq n (string_bytes k)) es ∙ found_by_name (by_bytes es) n

  -- where no key stands twice, no name does
  pub once_by_bytes : (es : List (String A × V)) → IsDistinct string_eq (keys_of es) → NoNameTwice (by_bytes es)
  unfolding IsDistinct
  once_by_bytes [] d = tt
  once_by_bytes (e ∷ es) d =
      let n = string_bytes e.0 in
      (sym (found_by_name (by_bytes es) n) ∙ nothing_seen string_bytes (string_eq e.0) (same_name n) (λ k. same_name-bytes_eq n (string_bytes k)) es d.0, once_by_bytes es d.1)

  -- an entry by the bytes of its name
  pub at_by_bytes : (es : List (String A × V)) (j : ℕ) (k : String A) (v : V) → slice_get es j ≡ Some (k, v) → slice_get (by_bytes es) j ≡ Some (string_bytes k, v)
  at_by_bytes es j k v at = slice_get-map (λ (e : String A × V). (string_bytes e.0, e.1)) es j ∙ ap (option_map (λ (e : String A × V). (string_bytes e.0, e.1))) at

  -- the position and value of a name, as a map finds them
  pub found_in_full : (es : List (String A × V)) (n : Name) (j : ℕ) (k : String A) (v : V) → IsDistinct string_eq (keys_of es) → slice_get es j ≡ Some (k, v)
      → lookup_key (λ s. bytes_eq n (string_bytes s)) es ≡ Some k → named_at 0 n (by_bytes es) ≡ Some (j, v)
  found_in_full es n j k v distinct at key =
      let name : n ≡ string_bytes k = same_name-true n (string_bytes k) (sym (same_name-bytes_eq n (string_bytes k)) ∙ key_passes (λ s. bytes_eq n (string_bytes s)) es k key) in
      ap (λ m. named_at 0 m (by_bytes es)) name ∙ named_at-at (by_bytes es) 0 j (string_bytes k) v (once_by_bytes es distinct) (at_by_bytes es j k v at) ∙ ap (λ i. Some (i, v)) (zero-add j)
