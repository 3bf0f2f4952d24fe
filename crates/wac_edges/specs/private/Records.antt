-- Edges as records of a table, in lists by their ends. No public contract cites this.
use Rattle.std.specs.Prelude.{ℕ, zero, suc, ◌≡◌, ◌<◌, ◌≤◌, ◌^◌, ◌⊎◌, ◌==◌, if◌then◌else◌, Bool, false, List, [], ◌∷◌, Contains, length, Option, Some, None, slice_get}
use Rattle.std.specs.Option.{option_map}
use Rattle.slab.specs.Slab.{Slab, get, slab_len}
use Rattle.wac_edges.specs.declared.edges.End.{End}
use Rattle.wac_edges.specs.declared.edges.End.TheVariants.{Outgoing, Incoming}
use Rattle.wac_edges.specs.declared.edges.Edge.{Edge}
use Rattle.wac_edges.specs.declared.records.Links.{Links}
use Rattle.wac_edges.specs.declared.records.Record.{Record}
use Rattle.wac_edges.specs.declared.records.Firsts.{Firsts}
use Rattle.wac_edges.specs.Ends.{at_end}

-- The records by key.
abbrev pub Table : Type 0
Table = ℕ → Option Record

-- The function with another value at one number.
abbrev pub updated : {A : Type 0} → (ℕ → A) → ℕ → A → ℕ → A
updated f k v q = if q == k then v else f q

-- The function with its value at one number changed, if there is a number.
abbrev pub changed : {A : Type 0} → (A → A) → Option ℕ → (ℕ → Option A) → ℕ → Option A
changed g None t = t
changed g (Some k) t = updated t k (option_map g (t k))

-- The first records after a change: if no record comes before it, the next record is the first of the node.
abbrev pub begun_by : (ℕ → Option ℕ) → ℕ → Option ℕ → Option ℕ → ℕ → Option ℕ
begun_by first node None next = updated first node next
begun_by first node (Some k) next = first

-- The other end.
abbrev pub opposite : End → End
opposite Outgoing = Incoming
opposite Incoming = Outgoing

-- The number of the node at this end of an edge.
abbrev pub number_at : End → Edge → ℕ
number_at end e = (at_end end e).0

-- The links of a record in the list at this end.
abbrev pub links_at : End → Record → Links
links_at Outgoing r = r.out
links_at Incoming r = r.into

-- The record with other links in the list at this end.
abbrev pub with_links : End → Links → Record → Record
with_links Outgoing l r = record r { out = l }
with_links Incoming l r = record r { into = l }

-- The record with another record after it in the list at this end.
abbrev pub with_next : End → Option ℕ → Record → Record
with_next end next r = with_links end (record (links_at end r) { next = next }) r

-- The record with another record before it in the list at this end.
abbrev pub with_previous : End → Option ℕ → Record → Record
with_previous end previous r = with_links end (record (links_at end r) { previous = previous }) r

-- The first record of a node at this end.
abbrev pub first_of : End → Firsts → Option ℕ
first_of Outgoing f = f.out
first_of Incoming f = f.into

-- The first record of the list at this end of a node.
abbrev pub first_at : End → List Firsts → ℕ → Option ℕ
first_at end firsts n = elim (slice_get firsts n) as (λ _. Option ℕ) [ None ↦ None | Some f ↦ first_of end f ]

-- The place of a record: the node whose list it is in, and the records before and after it.
pub record Place : Type 0 where
  pub node : ℕ
  pub previous : Option ℕ
  pub next : Option ℕ

-- The place of a record in the list at this end.
abbrev pub place : End → Record → Place
place end r = record { node = number_at end r.edge; previous = (links_at end r).previous; next = (links_at end r).next }

-- The places of all records in the lists at this end.
abbrev pub places : End → Table → ℕ → Option Place
places end t k = option_map (place end) (t k)

-- The edge of a record.
abbrev pub edge_at : Table → ℕ → Option Edge
edge_at t k = option_map (λ (r : Record). r.edge) (t k)

-- A record has this edge.
abbrev pub HasEdge : Table → Edge → Type 0
HasEdge t e = (k : ℕ) × (edge_at t k ≡ Some e)

-- The records form lists. Links in both directions agree, each list begins with its node's first record, and the record
-- after one is of the same node and older, so that no list is a cycle.
pub record AreLinked (at : ℕ → Option Place) (first : ℕ → Option ℕ) : Type 0 where
  pub age : ℕ → ℕ
  pub bound : ℕ
  pub aged : (k : ℕ) (x : Place) → at k ≡ Some x → age k < bound
  pub begins : (n k : ℕ) → first n ≡ Some k → (x : Place) × (at k ≡ Some x) × (x.node ≡ n) × (x.previous ≡ None)
  pub begun : (k : ℕ) (x : Place) → at k ≡ Some x → x.previous ≡ None → first x.node ≡ Some k
  pub forth : (k j : ℕ) (x : Place) → at k ≡ Some x → x.next ≡ Some j → (y : Place) × (at j ≡ Some y) × (y.node ≡ x.node) × (y.previous ≡ Some k) × (age j < age k)
  pub back : (k j : ℕ) (x : Place) → at k ≡ Some x → x.previous ≡ Some j → (y : Place) × (at j ≡ Some y) × (y.node ≡ x.node) × (y.next ≡ Some k)

-- Each record is in the lists at both ends, and no two records have the same edge.
pub record AreListed (t : Table) (firsts : List Firsts) : Type 0 where
  pub linked : (end : End) → AreLinked (places end t) (first_at end firsts)
  pub once : (j k : ℕ) (e : Edge) → edge_at t j ≡ Some e → edge_at t k ≡ Some e → j ≡ k

-- Unless an edge may fall, each edge leads to a node with a higher number.
pub record RiseUnless (falls : Bool) (t : Table) : Type 0 where
  pub up : falls ≡ false → (e : Edge) → HasEdge t e → e.source.0 < e.target.0

-- Each edge leads from one of the first n nodes to one of them.
abbrev pub HaveFirsts : ℕ → List Edge → Type 0
HaveFirsts n es = (e : Edge) → Contains es e → (e.source.0 < n) × (e.target.0 < n)

-- The next key fits in a u32: by itself, or since the table has room for no more records.
abbrev pub HasShortKey : Slab Record → Type 0
HasShortKey s = (s.vacant_key < 2 ^ 32) ⊎ (s.capacity ≤ 2 ^ 32)

-- The table has as many records as before, and as much room.
abbrev pub KeepsRoom : Slab Record → Slab Record → Type 0
KeepsRoom old new = (slab_len new ≡ slab_len old) × (new.capacity ≡ old.capacity)

-- The edges of all records.
abbrev pub all_edges : List (Option Record) → List Edge
all_edges [] = []
all_edges (None ∷ slots) = all_edges slots
all_edges (Some r ∷ slots) = r.edge ∷ all_edges slots

-- From this key on, the list at this end has these keys and edges.
abbrev pub IsList : Table → End → Option ℕ → List (ℕ × Edge) → Type 0
IsList t end here [] = here ≡ None
IsList t end here (x ∷ xs) = (here ≡ Some x.0) × (r : Record) × (t x.0 ≡ Some r) × (r.edge ≡ x.1) × IsList t end (links_at end r).next xs

-- At most n records of the list from this key on, with their edges.
abbrev pub list_from : Table → End → Option ℕ → ℕ → List (ℕ × Edge)
list_from t end here zero = []
list_from t end here (suc n) = elim here as (λ _. List (ℕ × Edge)) [ None ↦ [] | Some k ↦ elim (t k) as (λ _. List (ℕ × Edge)) [ None ↦ [] | Some r ↦ (k, r.edge) ∷ list_from t end (links_at end r).next n ] ]

-- The list from this key on. No list has more records than the table has slots.
abbrev pub list_at : Slab Record → End → Option ℕ → List (ℕ × Edge)
list_at s end here = list_from (get s) end here (length s.slots)
