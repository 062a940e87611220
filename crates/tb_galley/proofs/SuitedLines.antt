-- What a line says suits its word and its place, and is in its ranges.
use Rattle.std.proofs.Common.{◌==◌, ◌≡◌, ℕ, ◌+◌, Bool, true, false, nat_lt, nat_abs, length, List, [], ◌∷◌, Option, Some, None, Result, Ok, Err, IfOk, if◌then◌else◌, refl, ap, ◌∙◌, sym, subst, ◌⊎◌, inl, inr, pos, negsuc}
use Rattle.std.specs.List.{list_all}
use Rattle.tb_node.specs.Names.{is_name}
use Rattle.tb_text.specs.Lines.{fields_of, is_skipped}
use Rattle.tb_param.specs.declared.params.Params.{Params}
use Rattle.tb_param.specs.declared.fields.Field.{Field}
use Rattle.tb_param.specs.declared.Value.{Value}
use Rattle.tb_param.specs.Ranges.{are_params}
use Rattle.tb_param.specs.Fields.{with_value}
use Rattle.tb_param.specs.Table.{Row, row_of, row_known, row_for, is_known_in, is_within, is_dimen, is_glue}
use Rattle.tb_param.specs.declared.changes.SetPlace.{SetPlace}
use Rattle.tb_param.specs.declared.changes.SetPlace.TheVariants as places
use Rattle.tb_param.specs.Changes.{row_of_field, is_in_range}
use Rattle.tb_param.proofs.RangeLemmas.{fits, stays_in_range}
use Rattle.tb_galley.specs.declared.Cause.TheVariants as causes
use Rattle.tb_galley.specs.declared.contents.Content.{Content}
use Rattle.tb_galley.specs.declared.contents.Content.TheVariants as contents
use Rattle.tb_galley.specs.declared.ItemKind.{ItemKind}
use Rattle.tb_galley.specs.declared.ItemKind.TheVariants as items
use Rattle.tb_galley.specs.declared.LeafKind.{LeafKind}
use Rattle.tb_galley.specs.declared.LeafKind.TheVariants as leaves
use Rattle.tb_galley.specs.declared.fields.At.{At}
use Rattle.tb_galley.specs.Words.{LineWord, header, setting, class_line, hbox, rule, skip, kern, penalty, mark, note, foot, endfoot, float, margin, newpage, clearpage, pagebreak, nopagebreak, onecolumn, twocolumn, suppressfloats, page_number, title, enlarge, end, Phase, Line, line_at, content_at, is_leaf_word, Behind, behind_two, behind_word, Known, word_here}
use Rattle.tb_galley.specs.Faults.{is_printable, row_place, asked_place, place_causes, item_causes, missing_cause}
use Rattle.tb_galley.specs.FieldReader.{Left, ◌>>=◌, printed, at_fault, settled, next_by, name_left, dimension_left, range_left, sized_left, glue_left, float_left, margin_left, head_left, enlarge_left, area_left, value_left, set_by, set_left, class_left, foot_left, mapped, end_left, finished, content_left, version_left}
use Rattle.tb_galley.specs.Line.{first_of, Said, said, worded_left, content_line, content_lines, line_left}
use Rattle.tb_galley.specs.Valid.{is_leaf, is_item, weight_of, lines_of_item, is_class, may_stand, has_known_class, fits_kind, fits_word, is_version, behind_after, may_head, may_come}
use Rattle.tb_galley.specs.Fields.{is_class_among}
use Rattle.tb_galley.proofs.SameStep.{here_cases}
use Rattle.tb_galley.proofs.SetRows.{row_own}
use Rattle.tb_galley.proofs.BehindItems.{field_place}
use Rattle.tb_galley.proofs.InRange.{bind_has, then_has, mapped_has, has_more, settled_has, always, is_sized, sized_has, name_has, dimension_has, range_has, glue_has, float_has, IsFloatOf, margin_has, IsMarginOf, is_head_at, head_has, enlarge_has, value_has, degree_at_most, page_at_most, class_has, IsClassIn, foot_has, version_has}

-- ---- what a line may say by its word

-- an item that takes one line and is outside feet alone
abbrev pub is_single_word : LineWord → Bool
is_single_word mark = true
is_single_word note = true
is_single_word float = true
is_single_word margin = true
is_single_word newpage = true
is_single_word clearpage = true
is_single_word pagebreak = true
is_single_word nopagebreak = true
is_single_word onecolumn = true
is_single_word twocolumn = true
is_single_word suppressfloats = true
is_single_word page_number = true
is_single_word title = true
is_single_word enlarge = true
is_single_word _ = false

-- the word of a title
abbrev pub is_title_word : LineWord → Bool
is_title_word title = true
is_title_word _ = false

pub record LeafSaid (w : LineWord) (k : LeafKind) : Type 0 where
  pub word : is_leaf_word w ≡ true
  pub range : is_leaf k ≡ true

pub record ItemSaid (version n : ℕ) (w : LineWord) (k : ItemKind) : Type 0 where
  pub word : is_single_word w ≡ true
  pub range : is_item n k ≡ true
  pub weight : weight_of k ≡ 1
  pub lines : (lines_of_item n k ≡ []) ⊎ (lines_of_item n k ≡ n ∷ [])
  pub known : (ks : List ℕ) → has_known_class ks k ≡ true
  pub kinds : fits_kind version k ≡ true
  pub fits : (q : Known) → word_here q (Some w) ≡ Some w → fits_word q.version k ≡ true
  pub behind : (b : Behind) → behind_after b k ≡ behind_word b w
  pub stands : (b : Behind) → (is_title_word w ≡ true → b ≡ behind_two) → may_come b k ≡ true

-- setting the parameter keeps all in their ranges
abbrev pub SetsInRange : Field → Value → Type 0
SetsInRange field value = (p : Params) → are_params p ≡ true → are_params (with_value field value p) ≡ true

-- a parameter that is set: its place is where it may be set, and its value is in its range
pub record SetSaid (k : Known) (a : Option SetPlace) (w : LineWord) (field : Field) (value : Value) : Type 0 where
  pub word : w ≡ setting
  pub kept : SetsInRange field value
  pub known : is_known_in k.version field ≡ true
  pub place : a ≡ field_place k.version field
  pub range : is_in_range (record { field = field; value = value }) ≡ true

-- what the word of a line, the place that its fields ask for and what is known before it let the line say
abbrev pub Suits : Known → Option SetPlace → ℕ → LineWord → Content → Type 0
Suits k a n w (contents.Header version) = (w ≡ header) × (is_version version ≡ true)
Suits k a n w (contents.Set field value) = SetSaid k a w field value
Suits k a n w (contents.Class c) = (w ≡ class_line) × (is_class c ≡ true) × (may_stand k.version c.below ≡ true)
Suits k a n w (contents.Plain l) = LeafSaid w l
Suits k a n w (contents.Item i) = ItemSaid k.version n w i
Suits k a n w (contents.Foot class) = (w ≡ foot) × (is_class_among k.classes class ≡ true)
Suits k a n w contents.Endfoot = w ≡ endfoot
Suits k a n w contents.End = w ≡ end

known_if : (version : ℕ) (q r : Row) (t : Bool) → is_known_in version q.field ≡ t → (if t then Some q else None) ≡ Some r → (Some q ≡ Some r) × (is_known_in version r.field ≡ true)
known_if version q r true e h = let same : q ≡ r = cc in (h, subst (λ (x : Row). is_known_in version x.field ≡ true) same e)
known_if version q r false e h = cc

-- a row that a galley of the version has is a row, and its parameter is known
known_row : (version : ℕ) (o : Option Row) (r : Row) → row_known version o ≡ Some r → (o ≡ Some r) × (is_known_in version r.field ≡ true)
known_row version None r h = cc
known_row version (Some q) r h = known_if version q r (is_known_in version q.field) refl h

-- the value of a row's parameter is in the range of the parameter
in_own_range : (r : Row) (v : Value) → row_of_field r.field ≡ r → fits r.form v ≡ true → is_in_range (record { field = r.field; value = v }) ≡ true
in_own_range r v own good = ap (λ (q : Row). fits q.form v) own ∙ good

set_suits : (k : Known) (n m : ℕ) (l : Left) (name : List ℕ) (o : Option Row) → row_for k.version name ≡ o → IfOk (set_by m l o) (λ x. Suits k (if k.version == 3 then row_place o else Some places.Nowhere) n setting x.0)
set_suits k n m l name None found = tt
set_suits k n m l name (Some r) found =
    let row : (row_of name ≡ Some r) × (is_known_in k.version r.field ≡ true) = known_row k.version (row_of name) r found in
    mapped_has (λ c. Suits k (field_place k.version r.field) n setting c) (λ v. contents.Set r.field v) (value_left r.form l)
    (has_more (λ x. fits r.form x.0 ≡ true) (λ x. Suits k (field_place k.version r.field) n setting (contents.Set r.field x.0)) (value_left r.form l)
    (λ x good. record { word = refl; kept = λ p h. stays_in_range name r x.0 p row.0 good h; known = row.1; place = refl; range = in_own_range r x.0 (row_own name r row.0) good }) (value_has r.form l))

-- the name and the value of a line of `set`
named_suits : (k : Known) (n : ℕ) (l : Left) (fs : List (List ℕ)) → IfOk (next_by l fs >>= λ x. set_by l.number x.1 (row_for k.version x.0)) (λ x. Suits k (asked_place k.version fs) n setting x.0)
named_suits k n l [] = tt
named_suits k n l (f ∷ fs) = by_bytes (list_all is_printable f)
  where
    by_bytes : (t : Bool) → IfOk (printed t l.number f (record l { number = l.number + 1; fields = fs }) >>= λ x. set_by l.number x.1 (row_for k.version x.0)) (λ x. Suits k (asked_place k.version (f ∷ fs)) n setting x.0)
    by_bytes true = set_suits k n l.number (record l { number = l.number + 1; fields = fs }) f (row_for k.version f) refl
    by_bytes false = tt

-- where a word of version 3 alone is a word the galley is of version 3
third_version : (q : Known) (w : LineWord) → (if q.version == 3 then Some w else None) ≡ Some w → (q.version == 3) ≡ true
third_version q w h = by_test (q.version == 3) h
  where
    by_test : (t : Bool) → (if t then Some w else None) ≡ Some w → t ≡ true
    by_test true h = refl
    by_test false h = cc

-- content that is made of what is read, if it suits whenever the reading is in its range
made_has : {X : Type 0} (k : Known) (a : Option SetPlace) (n : ℕ) (w : LineWord) (P : X → Type 0) (f : X → Content) (r : Result (X × Left) At) → IfOk r (λ x. P x.0) → ((x : X) → P x → Suits k a n w (f x))
    → IfOk (mapped f r) (λ x. Suits k a n w x.0)
made_has k a n w P f r h good = mapped_has (λ c. Suits k a n w c) f r (has_more (λ x. P x.0) (λ x. Suits k a n w (f x.0)) r (λ x in_x. good x.0 in_x) h)

content_suits : (k : Known) (n : ℕ) (w : LineWord) (l : Left) → IfOk (content_left k n w l) (λ x. Suits k (asked_place k.version l.fields) n w x.0)
unfolding content_left set_left
content_suits k n header l = made_has k (asked_place k.version l.fields) n header (λ v. is_version v ≡ true) (λ v. contents.Header v) (version_left l) (version_has l) (λ v h. (refl, h))
content_suits k n setting l = named_suits k n l l.fields
content_suits k n class_line l = made_has k (asked_place k.version l.fields) n class_line (λ c. IsClassIn k.version c) (λ c. contents.Class c) (class_left k.version n l) (class_has k.version n l) (λ c h. (refl, h.0, h.1))
content_suits k n hbox l = made_has k (asked_place k.version l.fields) n hbox (λ s. is_sized s ≡ true) (λ s. contents.Plain (leaves.Hbox s.0 s.1 s.2)) (sized_left l) (sized_has l) (λ s h. record { word = refl; range = h })
content_suits k n rule l = made_has k (asked_place k.version l.fields) n rule (λ s. is_sized s ≡ true) (λ s. contents.Plain (leaves.Rule s.0 s.1 s.2)) (sized_left l) (sized_has l) (λ s h. record { word = refl; range = h })
content_suits k n skip l = made_has k (asked_place k.version l.fields) n skip (λ g. is_glue g ≡ true) (λ g. contents.Plain (leaves.Skip g)) (glue_left causes.UnknownWord l) (glue_has causes.UnknownWord l) (λ g h. record { word = refl; range = h })
content_suits k n kern l = made_has k (asked_place k.version l.fields) n kern (λ v. is_dimen v ≡ true) (λ v. contents.Plain (leaves.Kern v)) (dimension_left l) (dimension_has l) (λ v h. record { word = refl; range = h })
content_suits k n penalty l = made_has k (asked_place k.version l.fields) n penalty (λ v. is_within (negsuc 9999) (pos 10000) v ≡ true) (λ v. contents.Plain (leaves.Penalty v)) (range_left (negsuc 9999) (pos 10000) causes.Penalty l) (range_has (negsuc 9999) (pos 10000) causes.Penalty l) (λ v h. record { word = refl; range = h })
content_suits k n mark l = made_has k (asked_place k.version l.fields) n mark (λ m. is_name m ≡ true) (λ m. contents.Item (items.Mark m)) (name_left l) (name_has l) (λ m h. record { word = refl; range = h; weight = refl; lines = inl refl; known = λ ks. refl; kinds = refl; fits = λ q here. refl; behind = λ b. refl; stands = λ b h. refl })
content_suits k n note l = made_has k (asked_place k.version l.fields) n note (λ m. is_name m ≡ true) (λ m. contents.Item (items.Note m)) (name_left l) (name_has l) (λ m h. record { word = refl; range = h; weight = refl; lines = inl refl; known = λ ks. refl; kinds = refl; fits = λ q here. refl; behind = λ b. refl; stands = λ b h. refl })
content_suits k n foot l = made_has k (asked_place k.version l.fields) n foot (λ c. is_class_among k.classes c ≡ true) (λ c. contents.Foot c) (foot_left k l) (foot_has k l) (λ c h. (refl, h))
content_suits k n endfoot l = refl
content_suits k n float l = made_has k (asked_place k.version l.fields) n float (λ f. IsFloatOf k.version n f) (λ f. contents.Item (items.Float f.0 f.1)) (float_left k.version n l) (float_has k.version n l) (λ f h. record { word = refl; range = h.0; weight = refl; lines = inr refl; known = λ ks. refl; kinds = h.1; fits = λ q here. refl; behind = λ b. refl; stands = λ b h. refl })
content_suits k n margin l = made_has k (asked_place k.version l.fields) n margin (λ m. IsMarginOf k.version n m) (λ m. contents.Item (items.Margin m.0 m.1)) (margin_left k.version n l) (margin_has k.version n l) (λ m h. record { word = refl; range = h.0; weight = refl; lines = inr refl; known = λ ks. refl; kinds = h.1; fits = λ q here. refl; behind = λ b. refl; stands = λ b h. refl })
content_suits k n newpage l = record { word = refl; range = refl; weight = refl; lines = inl refl; known = λ ks. refl; kinds = refl; fits = λ q here. refl; behind = λ b. refl; stands = λ b h. refl }
content_suits k n clearpage l = record { word = refl; range = refl; weight = refl; lines = inl refl; known = λ ks. refl; kinds = refl; fits = λ q here. refl; behind = λ b. refl; stands = λ b h. refl }
content_suits k n pagebreak l = made_has k (asked_place k.version l.fields) n pagebreak (λ v. is_within (pos 0) (pos 4) v ≡ true) (λ v. contents.Item (items.PageBreak (nat_abs v))) (range_left (pos 0) (pos 4) causes.Penalty l) (range_has (pos 0) (pos 4) causes.Penalty l) (λ v h. record { word = refl; range = degree_at_most v h; weight = refl; lines = inl refl; known = λ ks. refl; kinds = refl; fits = λ q here. refl; behind = λ b. refl; stands = λ b h. refl })
content_suits k n nopagebreak l = made_has k (asked_place k.version l.fields) n nopagebreak (λ v. is_within (pos 0) (pos 4) v ≡ true) (λ v. contents.Item (items.NoPageBreak (nat_abs v))) (range_left (pos 0) (pos 4) causes.Penalty l) (range_has (pos 0) (pos 4) causes.Penalty l) (λ v h. record { word = refl; range = degree_at_most v h; weight = refl; lines = inl refl; known = λ ks. refl; kinds = refl; fits = λ q here. refl; behind = λ b. refl; stands = λ b h. refl })
content_suits k n onecolumn l = record { word = refl; range = refl; weight = refl; lines = inl refl; known = λ ks. refl; kinds = refl; fits = λ q here. refl; behind = λ b. refl; stands = λ b h. refl }
content_suits k n twocolumn l = record { word = refl; range = refl; weight = refl; lines = inl refl; known = λ ks. refl; kinds = refl; fits = λ q here. refl; behind = λ b. refl; stands = λ b h. refl }
content_suits k n suppressfloats l = mapped_has (λ c. Suits k (asked_place k.version l.fields) n suppressfloats c) (λ a. contents.Item (items.Suppress a)) (area_left l) (always (λ x. record { word = refl; range = refl; weight = refl; lines = inl refl; known = λ ks. refl; kinds = refl; fits = λ q here. refl; behind = λ b. refl; stands = λ b h. refl }) (area_left l))
content_suits k n page_number l = made_has k (asked_place k.version l.fields) n page_number (λ v. is_within (pos 0) (pos 1000000) v ≡ true) (λ v. contents.Item (items.Page (nat_abs v))) (range_left (pos 0) (pos 1000000) causes.Parameter l) (range_has (pos 0) (pos 1000000) causes.Parameter l)
    (λ v h. record { word = refl; range = page_at_most v h; weight = refl; lines = inl refl; known = λ ks. refl; kinds = refl; fits = λ q here. third_version q page_number here; behind = λ b. refl; stands = λ b h. refl })
content_suits k n title l = made_has k (asked_place k.version l.fields) n title (λ f. is_head_at n f ≡ true) (λ f. contents.Item (items.Head f)) (head_left n l) (head_has n l)
    (λ f h. record { word = refl; range = h; weight = refl; lines = inr refl; known = λ ks. refl; kinds = refl; fits = λ q here. third_version q title here; behind = λ b. refl; stands = λ b t. ap may_head (t refl) })
content_suits k n enlarge l = made_has k (asked_place k.version l.fields) n enlarge (λ e. is_dimen e.0 ≡ true) (λ e. contents.Item (items.Enlarge e.0 e.1)) (enlarge_left l) (enlarge_has l)
    (λ e h. record { word = refl; range = h; weight = refl; lines = inl refl; known = λ ks. refl; kinds = refl; fits = λ q here. third_version q enlarge here; behind = λ b. refl; stands = λ b t. refl })
content_suits k n end l = refl

-- ---- a whole line

-- a line that is read in this phase after this many lines of items
pub record SaidSuits (p : Phase) (k : Known) (count n : ℕ) (w : Said) : Type 0 where
  pub asked : Option SetPlace
  pub place : first_of (place_causes p asked (Some w.0)) ≡ None
  pub items : first_of (item_causes count (Some w.0)) ≡ None
  pub suits : Suits k asked n w.0 w.1
  pub here : word_here k (Some w.0) ≡ Some w.0

abbrev pub IfSaid : (Said → Type 0) → Option Said → Type 0
IfSaid P None = Unit {0}
IfSaid P (Some w) = P w

finished_has : {X : Type 0} (P : X → Type 0) (r : Result (X × Left) At) → IfOk r (λ x. P x.0) → IfOk (finished r) P
finished_has P (Ok x) h = bind_has P (end_left x.1) (λ y. Ok x.0) (λ y. h)
finished_has P (Err e) h = tt

said_has : (P : Said → Type 0) (w : LineWord) (r : Result Content At) → IfOk r (λ c. P (w, c)) → IfOk (said w r) (IfSaid P)
said_has P w (Ok c) h = h
said_has P w (Err e) h = tt

worded_suits : (p : Phase) (k : Known) (count : ℕ) (l : Line) (w : LineWord) → first_of (place_causes p (asked_place k.version l.fields) (Some w)) ≡ None → first_of (item_causes count (Some w)) ≡ None
    → word_here k (Some w) ≡ Some w → IfOk (worded_left k l (Some w)) (IfSaid (SaidSuits p k count l.number))
worded_suits p k count l w place fits here =
    said_has (SaidSuits p k count l.number) w (finished (content_left k l.number w (record { number = 2; missing = missing_cause w; fields = l.fields })))
    (has_more (λ c. Suits k (asked_place k.version l.fields) l.number w c) (λ c. SaidSuits p k count l.number (w, c)) (finished (content_left k l.number w (record { number = 2; missing = missing_cause w; fields = l.fields })))
    (λ c h. record { asked = asked_place k.version l.fields; place = place; items = fits; suits = h; here = here })
    (finished_has (λ c. Suits k (asked_place k.version l.fields) l.number w c) (content_left k l.number w (record { number = 2; missing = missing_cause w; fields = l.fields })) (content_suits k l.number w (record { number = 2; missing = missing_cause w; fields = l.fields }))))

here_suits : (p : Phase) (k : Known) (count : ℕ) (l : Line) (w : LineWord) → first_of (place_causes p (asked_place k.version l.fields) (word_here k (Some w))) ≡ None → first_of (item_causes count (Some w)) ≡ None
    → (word_here k (Some w) ≡ None) ⊎ (word_here k (Some w) ≡ Some w) → IfOk (worded_left k l (word_here k (Some w))) (IfSaid (SaidSuits p k count l.number))
here_suits p k count l w place fits (inl e) = subst (λ o. IfOk (worded_left k l o) (IfSaid (SaidSuits p k count l.number))) (sym e) tt
here_suits p k count l w place fits (inr e) =
    subst (λ o. IfOk (worded_left k l o) (IfSaid (SaidSuits p k count l.number))) (sym e) (worded_suits p k count l w (subst (λ o. first_of (place_causes p (asked_place k.version l.fields) o) ≡ None) e place) fits e)

word_suits : (p : Phase) (k : Known) (count : ℕ) (l : Line) (o : Option LineWord) → first_of (place_causes p (asked_place k.version l.fields) (word_here k o)) ≡ None → first_of (item_causes count o) ≡ None
    → IfOk (worded_left k l (word_here k o)) (IfSaid (SaidSuits p k count l.number))
word_suits p k count l None place fits = tt
word_suits p k count l (Some w) place fits = here_suits p k count l w place fits (here_cases k w)

content_line_suits : (p : Phase) (k : Known) (count : ℕ) (l : Line) → IfOk (content_line p k count l) (IfSaid (SaidSuits p k count l.number))
unfolding content_line
content_line_suits p k count l =
    bind_has (IfSaid (SaidSuits p k count l.number)) (if list_all is_printable l.head then Ok (tt {0}) else at_fault 1 causes.NotAscii) _
    (λ a. then_has (λ x. first_of (place_causes p (asked_place k.version l.fields) (word_here k l.word)) ≡ None) (IfSaid (SaidSuits p k count l.number)) (settled 1 (first_of (place_causes p (asked_place k.version l.fields) (word_here k l.word))) (tt {0})) _
    (settled_has (λ x. first_of (place_causes p (asked_place k.version l.fields) (word_here k l.word)) ≡ None) 1 (first_of (place_causes p (asked_place k.version l.fields) (word_here k l.word))) (tt {0}) (λ e. e))
    (λ x place. then_has (λ y. first_of (item_causes count l.word) ≡ None) (IfSaid (SaidSuits p k count l.number)) (settled 1 (first_of (item_causes count l.word)) (tt {0})) _
    (settled_has (λ y. first_of (item_causes count l.word) ≡ None) 1 (first_of (item_causes count l.word)) (tt {0}) (λ e. e))
    (λ y fits. word_suits p k count l l.word place fits)))

lines_suit : (p : Phase) (k : Known) (count n : ℕ) (fs : List (List ℕ)) (t : Bool) → IfOk (content_lines p k count (if t then [] else line_at n fs ∷ [])) (IfSaid (SaidSuits p k count n))
lines_suit p k count n fs true = tt
lines_suit p k count n fs false = content_line_suits p k count (line_at n fs)

long_suits : (p : Phase) (k : Known) (count n : ℕ) (ls : List Line) (t : Bool) → IfOk (content_lines p k count ls) (IfSaid (SaidSuits p k count n)) → IfOk (if t then at_fault 0 causes.LineLength else content_lines p k count ls) (IfSaid (SaidSuits p k count n))
long_suits p k count n ls true h = tt
long_suits p k count n ls false h = h

pub line_suits : (p : Phase) (k : Known) (count n : ℕ) (bytes : List ℕ) → IfOk (line_left p k count n bytes) (IfSaid (SaidSuits p k count n))
unfolding line_left
line_suits p k count n bytes = long_suits p k count n (content_at n bytes) (nat_lt 255 (length bytes)) (lines_suit p k count n (fields_of bytes) (is_skipped (fields_of bytes)))
