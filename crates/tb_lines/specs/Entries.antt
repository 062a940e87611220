-- A paragraph's list, and where its lines may end.
use Rattle.std.specs.Prelude.{ℕ, ℤ, pos, negsuc, suc, zero, Bool, true, false, List, [], ◌∷◌, ◌++◌, map, Option, Some, None, slice_get, min, take, drop, int_lt, ◌+◌, if◌then◌else◌}
use Rattle.std.specs.Ordering.{int_eq}
use Rattle.tb_lines.specs.declared.text.Item.{Item}
use Rattle.tb_lines.specs.declared.text.Item.TheVariants.{Word as word, Space as space, Penalty as penalty}
use Rattle.tb_lines.specs.declared.entries.Entry.{Entry}
use Rattle.tb_lines.specs.declared.entries.Entry.TheVariants.{Item as item, Fill as fill}

-- the items, then a penalty that forbids a break, the glue that fills the last line, and a penalty that forces a break
abbrev pub list_of : List Item → List Entry
list_of items = map item items ++ item (penalty (pos 10000)) ∷ fill ∷ item (penalty (negsuc 9999)) ∷ []

-- the item is a word
abbrev pub is_word_item : Item → Bool
is_word_item (word w h d) = true
is_word_item (space w st sh) = false
is_word_item (penalty p) = false

-- the entry is a word
abbrev pub is_word : Entry → Bool
is_word (item i) = is_word_item i
is_word fill = false

-- an entry is there, and passes a test
abbrev pub passes : (Entry → Bool) → Option Entry → Bool
passes test None = false
passes test (Some e) = test e

-- the entry before this place is a word
abbrev pub after_word : List Entry → ℕ → Bool
after_word es zero = false
after_word es (suc k) = passes is_word (slice_get es k)

-- an item is a legal break: a space after a word, or a penalty below 10000
abbrev pub is_legal_item : Bool → Item → Bool
is_legal_item behind (word w h d) = false
is_legal_item behind (space w st sh) = behind
is_legal_item behind (penalty p) = int_lt p (pos 10000)

-- a line may end at the entry, by whether a word is before it
abbrev pub is_legal_entry : Bool → Entry → Bool
is_legal_entry behind (item i) = is_legal_item behind i
is_legal_entry behind fill = false

-- a line may end at this place
abbrev pub is_legal : List Entry → ℕ → Bool
is_legal es k = passes (is_legal_entry (after_word es k)) (slice_get es k)

-- the penalty of a break: a space has 0
abbrev pub item_penalty : Item → ℤ
item_penalty (word w h d) = pos 0
item_penalty (space w st sh) = pos 0
item_penalty (penalty p) = p

-- the penalty of a break at the entry
abbrev pub entry_penalty : Entry → ℤ
entry_penalty (item i) = item_penalty i
entry_penalty fill = pos 0

-- the same, 0 if there is none
abbrev pub penalty_in : Option Entry → ℤ
penalty_in None = pos 0
penalty_in (Some e) = entry_penalty e

-- the penalty of a break at this place of a list
abbrev pub penalty_at : List Entry → ℕ → ℤ
penalty_at es k = penalty_in (slice_get es k)

-- a line must end at this place
abbrev pub is_forced : List Entry → ℕ → Bool
is_forced es k = int_eq (penalty_at es k) (negsuc 9999)

-- without what is before the first word; without a word nothing is left
abbrev pub from_word : List Entry → List Entry
from_word [] = []
from_word (e ∷ es) = if is_word e then e ∷ es else from_word es

-- the line from one break to the next; the first line begins with the first item and leaves out nothing
abbrev pub line_between : List Entry → Option ℕ → ℕ → List Entry
line_between es None j = take j es
line_between es (Some i) j = from_word (drop (i + 1) (take j es))

-- the place of the first word from place k on, or the list's end
abbrev pub first_word : List Entry → ℕ → ℕ
first_word [] k = 0
first_word (e ∷ es) zero = if is_word e then 0 else first_word es zero + 1
first_word (e ∷ es) (suc k) = first_word es k + 1

-- where a line's sums begin: at the start, or at the first word after the break before it
abbrev pub line_start : List Entry → Option ℕ → ℕ → ℕ
line_start es None j = 0
line_start es (Some i) j = min (first_word es (i + 1)) j
