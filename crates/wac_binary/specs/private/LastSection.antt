-- The last section of a list of items, and the sections before it.
use Rattle.std.specs.Prelude.{List, [], ◌∷◌, ◌++◌, Option, Some, None, if◌then◌else◌}
use Rattle.wac_binary.specs.Items.{Item}
use Rattle.wac_binary.specs.Bytes.{Section, alone, joined, joins, is_shared}

abbrev pub one : Option Section → List Section
one None = []
one (Some s) = s ∷ []

-- The section that contains a new item, after this last section.
abbrev pub next_section : Option Section → Item → Section
next_section None x = alone x
next_section (Some s) x = if joins s x then joined s x else alone x

-- The last section, if a new item is not added to it.
abbrev pub before : Option Section → Item → List Section
before None x = []
before (Some s) x = if joins s x then [] else s ∷ []

-- The last section after further items.
abbrev pub last_after : Option Section → List Item → Option Section
last_after s [] = s
last_after s (x ∷ xs) = last_after (Some (next_section s x)) xs

-- The last section of a list of items.
abbrev pub last_section : List Item → Option Section
last_section items = last_after None items

-- The sections before the last one.
abbrev pub finished_from : Section → List Item → List Section
finished_from s [] = []
finished_from s (x ∷ xs) = if joins s x then finished_from (joined s x) xs else s ∷ finished_from (alone x) xs

abbrev pub finished : List Item → List Section
finished [] = []
finished (x ∷ xs) = finished_from (alone x) xs

-- The last section, if further items can be added to it.
abbrev pub open_of : Option Section → Option Section
open_of None = None
open_of (Some s) = if is_shared s.id then Some s else None

-- The last section, if no further item can be added to it.
abbrev pub closed_of : Option Section → List Section
closed_of None = []
closed_of (Some s) = if is_shared s.id then [] else s ∷ []

-- The sections that no further item can be added to.
abbrev pub closed : List Item → List Section
closed items = finished items ++ closed_of (last_section items)

-- The section that a further item can be added to.
abbrev pub open_section : List Item → Option Section
open_section items = open_of (last_section items)
