-- Lines of the most frequent kinds, by their first bytes: a word and a space, or one word alone.
use Rattle.std.proofs.Common.{◌≡◌, ◌≤◌, ℕ, ℤ, ◌+◌, Bool, true, false, not, ◌&&◌, nat_lt, nat_le, ◌==◌, pos, negsuc, codes, List, [], ◌∷◌, ◌++◌, length, Option, Some, None, Result, Ok, Err, refl, ap, sym, subst, ◌∙◌, arith, if◌then◌else◌}
use Rattle.std.specs.Prelude.{is_some}
use Rattle.std.proofs.lemmas.Bool.{eqb-true}
use Rattle.std.proofs.lemmas.Bool.Decides.{nat_tests}
use Rattle.tb_text.specs.Lines.{begins_with, fields_of}
use Rattle.std.proofs.Math.Bool.{or-true, and-false}
use Rattle.tb_scaled.specs.declared.Glue.{Glue}
use Rattle.tb_param.specs.declared.changes.SetPlace.{SetPlace}
use Rattle.tb_galley.specs.declared.Cause.{Cause}
use Rattle.tb_galley.specs.declared.Cause.TheVariants as causes
use Rattle.tb_galley.specs.declared.Fault.{Fault}
use Rattle.tb_galley.specs.declared.fields.At.{At}
use Rattle.tb_node.specs.declared.Area.TheVariants as areas
use Rattle.tb_node.specs.declared.Float.{Float}
use Rattle.tb_node.specs.declared.Margin.{Margin}
use Rattle.tb_param.specs.declared.fields.Field.{Field}
use Rattle.tb_param.specs.declared.Value.{Value}
use Rattle.tb_galley.specs.declared.ItemKind.{ItemKind}
use Rattle.tb_galley.specs.declared.ItemKind.TheVariants as items
use Rattle.tb_galley.specs.declared.LeafKind.{LeafKind}
use Rattle.tb_galley.specs.declared.LeafKind.TheVariants as leaves
use Rattle.tb_galley.specs.declared.contents.Content.{Content}
use Rattle.tb_galley.specs.declared.contents.Content.TheVariants as contents
use Rattle.tb_galley.specs.Words.{LineWord, hbox, skip, kern, penalty, setting, foot, endfoot, float, margin, newpage, clearpage, onecolumn, twocolumn, suppressfloats, Phase, at_start, among_sets, among_items, after_clear, after_two, in_foot, ended, word_of, is_leaf_word, Known}
use Rattle.tb_galley.specs.Faults.{asked_place, place_causes, cause_if}
use Rattle.tb_galley.specs.FieldReader.{Left, ◌>>=◌, mapped, finished, end_left, settled, at_fault, dimension_left, range_left, sized_left, glue_left, float_left, margin_left, set_left, area_left, foot_left, named_class, content_left}
use Rattle.tb_galley.specs.Line.{Said, said, first_of, content_line, line_left}
use Rattle.tb_galley.specs.GalleyReader.{State, known_in, phase_past, item_phase, clear_phase, two_phase, foot_phase, endfoot_phase, takes_leaf, takes_item, takes_setting, past_word, IsBoxLine, IsLineOf, IsBareItem, with_leaf, with_item_line, with_setting, with_foot_begun, with_foot_ended, past_said, said_first, said_unless, take_said}

-- ---- what is read to the end, as something else

ended_as : {X Y : Type 0} (f : X → Y) (y x : X) (e : Result (Unit {0} × Left) At) → (e >>= λ u. Ok y) ≡ Ok x → (e >>= λ u. Ok (f y)) ≡ Ok (f x)
ended_as f y x (Ok u) h = let same : y ≡ x = cc in ap (λ z. Ok (f z)) same
ended_as f y x (Err e) h = cc

finished_as : {X Y : Type 0} (f : X → Y) (r : Result (X × Left) At) (x : X) → finished r ≡ Ok x → finished (mapped f r) ≡ Ok (f x)
finished_as f (Ok y) x h = ended_as f y.0 x (end_left y.1) h
finished_as f (Err e) x h = cc

-- ---- the place of what may be in a footnote

many : (count : ℕ) → nat_lt count 100000 ≡ true → nat_le 100000 count ≡ false
many count h = grind (arith, nat_tests)

items_left : (p : Phase) (count : ℕ) → takes_leaf p count ≡ true → first_of (cause_if (nat_le 100000 count) causes.Items) ≡ None
items_left at_start count h = cc
items_left among_sets count h = cc
items_left among_items count h = ap (λ t. first_of (cause_if t causes.Items)) (many count h)
items_left after_clear count h = cc
items_left after_two count h = cc
items_left in_foot count h = ap (λ t. first_of (cause_if t causes.Items)) (many count h)
items_left ended count h = cc

same_phase : (p : Phase) (count : ℕ) → takes_leaf p count ≡ true → item_phase p ≡ p
same_phase at_start count h = cc
same_phase among_sets count h = cc
same_phase among_items count h = refl
same_phase after_clear count h = cc
same_phase after_two count h = cc
same_phase in_foot count h = refl
same_phase ended count h = cc

leaf_placed : (p : Phase) (a : Option SetPlace) (w : LineWord) (count : ℕ) → is_leaf_word w ≡ true → takes_leaf p count ≡ true → first_of (place_causes p a (Some w)) ≡ None
leaf_placed among_items a hbox count leaf free = refl
leaf_placed among_items a w count leaf free = cc
leaf_placed in_foot a hbox count leaf free = refl
leaf_placed in_foot a w count leaf free = cc
leaf_placed p a w count leaf free = cc

-- ---- the line

abbrev placed : Option Cause → Option Cause → Result (Option Said) At → Result (Option Said) At
placed place items read = do
  _ ← settled 1 place (tt {0})
  _ ← settled 1 items (tt {0})
  read

pub short : (bytes : List ℕ) → length bytes ≤ 255 → nat_lt 255 (length bytes) ≡ false
short bytes h = grind (arith, nat_tests)

module _ (p : Phase) (k : Known) (count n : ℕ) (rest : List ℕ) (free : takes_leaf p count ≡ true) where
  abbrev asked : Option SetPlace
  asked = asked_place k.version (fields_of rest)

  worded : (w : LineWord) (c : Content) → first_of (place_causes p asked (Some w)) ≡ None → finished (content_left k n w (past_word rest)) ≡ Ok c
      → placed (first_of (place_causes p asked (Some w))) (first_of (cause_if (nat_le 100000 count) causes.Items)) (said w (finished (content_left k n w (past_word rest)))) ≡ Ok (Some (w, c))
  worded w c place read =
      ap (λ o. placed o (first_of (cause_if (nat_le 100000 count) causes.Items)) (said w (finished (content_left k n w (past_word rest))))) place
      ∙ ap (λ o. placed None o (said w (finished (content_left k n w (past_word rest))))) (items_left p count free)
      ∙ ap (said w) read

  box_left : length (98 ∷ 111 ∷ 120 ∷ 32 ∷ rest) ≤ 255 → (b : List ℕ × ℤ × ℤ) → finished (sized_left (past_word rest)) ≡ Ok b
      → line_left p k count n (98 ∷ 111 ∷ 120 ∷ 32 ∷ rest) ≡ Ok (Some (hbox, contents.Plain (leaves.Hbox b.0 b.1 b.2)))
  unfolding line_left content_line content_left word_of
  box_left few b read =
      ap (λ t. if t then at_fault 0 causes.LineLength else placed (first_of (place_causes p asked (Some hbox))) (first_of (cause_if (nat_le 100000 count) causes.Items)) (said hbox (finished (content_left k n hbox (past_word rest))))) (short (98 ∷ 111 ∷ 120 ∷ 32 ∷ rest) few)
      ∙ worded hbox (contents.Plain (leaves.Hbox b.0 b.1 b.2)) (leaf_placed p asked hbox count refl free)
      (finished_as (λ s. contents.Plain (leaves.Hbox s.0 s.1 s.2)) (sized_left (past_word rest)) b read)

  skip_left : length (103 ∷ 108 ∷ 117 ∷ 101 ∷ 32 ∷ rest) ≤ 255 → (g : Glue) → finished (glue_left causes.UnknownWord (past_word rest)) ≡ Ok g
      → line_left p k count n (103 ∷ 108 ∷ 117 ∷ 101 ∷ 32 ∷ rest) ≡ Ok (Some (skip, contents.Plain (leaves.Skip g)))
  unfolding line_left content_line content_left word_of
  skip_left few g read =
      ap (λ t. if t then at_fault 0 causes.LineLength else placed (first_of (place_causes p asked (Some skip))) (first_of (cause_if (nat_le 100000 count) causes.Items)) (said skip (finished (content_left k n skip (past_word rest))))) (short (103 ∷ 108 ∷ 117 ∷ 101 ∷ 32 ∷ rest) few)
      ∙ worded skip (contents.Plain (leaves.Skip g)) (leaf_placed p asked skip count refl free)
      (finished_as (λ g. contents.Plain (leaves.Skip g)) (glue_left causes.UnknownWord (past_word rest)) g read)

  kern_left : length (107 ∷ 101 ∷ 114 ∷ 110 ∷ 32 ∷ rest) ≤ 255 → (v : ℤ) → finished (dimension_left (past_word rest)) ≡ Ok v
      → line_left p k count n (107 ∷ 101 ∷ 114 ∷ 110 ∷ 32 ∷ rest) ≡ Ok (Some (kern, contents.Plain (leaves.Kern v)))
  unfolding line_left content_line content_left word_of
  kern_left few v read =
      ap (λ t. if t then at_fault 0 causes.LineLength else placed (first_of (place_causes p asked (Some kern))) (first_of (cause_if (nat_le 100000 count) causes.Items)) (said kern (finished (content_left k n kern (past_word rest))))) (short (107 ∷ 101 ∷ 114 ∷ 110 ∷ 32 ∷ rest) few)
      ∙ worded kern (contents.Plain (leaves.Kern v)) (leaf_placed p asked kern count refl free)
      (finished_as (λ w. contents.Plain (leaves.Kern w)) (dimension_left (past_word rest)) v read)

  penalty_left : length (112 ∷ 101 ∷ 110 ∷ 97 ∷ 108 ∷ 116 ∷ 121 ∷ 32 ∷ rest) ≤ 255 → (v : ℤ) → finished (range_left (negsuc 9999) (pos 10000) causes.Penalty (past_word rest)) ≡ Ok v
      → line_left p k count n (112 ∷ 101 ∷ 110 ∷ 97 ∷ 108 ∷ 116 ∷ 121 ∷ 32 ∷ rest) ≡ Ok (Some (penalty, contents.Plain (leaves.Penalty v)))
  unfolding line_left content_line content_left word_of
  penalty_left few v read =
      ap (λ t. if t then at_fault 0 causes.LineLength else placed (first_of (place_causes p asked (Some penalty))) (first_of (cause_if (nat_le 100000 count) causes.Items)) (said penalty (finished (content_left k n penalty (past_word rest))))) (short (112 ∷ 101 ∷ 110 ∷ 97 ∷ 108 ∷ 116 ∷ 121 ∷ 32 ∷ rest) few)
      ∙ worded penalty (contents.Plain (leaves.Penalty v)) (leaf_placed p asked penalty count refl free)
      (finished_as (λ q. contents.Plain (leaves.Penalty q)) (range_left (negsuc 9999) (pos 10000) causes.Penalty (past_word rest)) v read)

-- a line of `set` is none too many
none_too_many : (count : ℕ) (t : Bool) → nat_lt count 100000 ≡ true → first_of (cause_if (t && nat_le 100000 count) causes.Items) ≡ None
none_too_many count t h = ap (λ u. first_of (cause_if (t && u) causes.Items)) (many count h) ∙ ap (λ u. first_of (cause_if u causes.Items)) (and-false t)

set_line_left : (k : Known) (count n : ℕ) (rest : List ℕ) → nat_lt count 100000 ≡ true → length (115 ∷ 101 ∷ 116 ∷ 32 ∷ rest) ≤ 255 → (c : Content) → finished (set_left k.version (past_word rest)) ≡ Ok c
    → line_left among_sets k count n (115 ∷ 101 ∷ 116 ∷ 32 ∷ rest) ≡ Ok (Some (setting, c))
unfolding line_left content_line content_left word_of
set_line_left k count n rest less few c read =
    ap (λ t. if t then at_fault 0 causes.LineLength else placed None (first_of (cause_if (not (count == 0) && nat_le 100000 count) causes.Items)) (said setting (finished (content_left k n setting (past_word rest))))) (short (115 ∷ 101 ∷ 116 ∷ 32 ∷ rest) few)
    ∙ ap (λ o. placed None o (said setting (finished (content_left k n setting (past_word rest))))) (none_too_many count (not (count == 0)) less)
    ∙ ap (said setting) read

-- ---- the state after it

-- a line that begins with this word and a space
record Spaced {X : Type 0} (word : List ℕ) (read_left : Left → Result (X × Left) At) (line : List ℕ) (x : X) : Type 0 where
  rest : List ℕ
  begins : line ≡ word ++ 32 ∷ rest
  few : length (word ++ 32 ∷ rest) ≤ 255
  read : finished (read_left (past_word rest)) ≡ Ok x

spaced : {X : Type 0} (word : List ℕ) (read_left : Left → Result (X × Left) At) (line : List ℕ) → length line ≤ 255 → (x : X) → IsLineOf word read_left line x → Spaced word read_left line x
spaced word read_left line few x h = by h.rest h.begins h.space h.read
  where
    by : (rest : List ℕ) → line ≡ word ++ rest → begins_with 32 rest ≡ true → finished (read_left (past_word rest)) ≡ Ok x → Spaced word read_left line x
    by [] e space read = cc
    by (b ∷ bs) e space read =
        let blank : b ≡ 32 = eqb-true b 32 space in
        let whole : line ≡ word ++ 32 ∷ bs = e ∙ ap (λ c. word ++ c ∷ bs) blank in
        record {
          rest = bs;
          begins = whole;
          few = subst (λ xs. length xs ≤ 255) whole few;
          read = subst (λ c. finished (read_left (past_word (c ∷ bs))) ≡ Ok x) blank read;
        }

pub no_first : (s : State) → is_some s.first ≡ false → s.first ≡ None
no_first s h = by s.first h
  where
    by : (f : Option Fault) → is_some f ≡ false → f ≡ None
    by None h = refl
    by (Some f) h = cc

module _ (s : State) (first : s.first ≡ None) (free : takes_leaf s.phase s.count ≡ true) where
  stepped : (bytes : List ℕ) (w : LineWord) (kind : LeafKind) → line_left s.phase (known_in s.draft) s.count (s.lines + 1) bytes ≡ Ok (Some (w, contents.Plain kind))
      → past_said s (Some (w, contents.Plain kind)) ≡ with_leaf s kind → with_leaf s kind ≡ take_said s bytes
  stepped bytes w kind read past = sym (ap (said_first s bytes) first ∙ ap (said_unless s) read ∙ past)

  pub box_step : (line : List ℕ) → length line ≤ 255 → (b : List ℕ × ℤ × ℤ) → IsBoxLine line b → with_leaf s (leaves.Hbox b.0 b.1 b.2) ≡ take_said s line
  box_step line few b h =
      let e : line ≡ 98 ∷ 111 ∷ 120 ∷ 32 ∷ h.rest = h.begins in
      let short : length (98 ∷ 111 ∷ 120 ∷ 32 ∷ h.rest) ≤ 255 = subst (λ xs. length xs ≤ 255) e few in
      stepped (98 ∷ 111 ∷ 120 ∷ 32 ∷ h.rest) hbox (leaves.Hbox b.0 b.1 b.2) (box_left s.phase (known_in s.draft) s.count (s.lines + 1) h.rest free short b h.read)
      (ap (λ q. record (with_leaf s (leaves.Hbox b.0 b.1 b.2)) { phase = q }) (same_phase s.phase s.count free)) ∙ ap (take_said s) (sym e)

  pub glue_step : (line : List ℕ) → length line ≤ 255 → (g : Glue) → IsLineOf (codes "glue") (glue_left causes.UnknownWord) line g → with_leaf s (leaves.Skip g) ≡ take_said s line
  glue_step line few g h =
      let l = spaced (codes "glue") (glue_left causes.UnknownWord) line few g h in
      stepped (103 ∷ 108 ∷ 117 ∷ 101 ∷ 32 ∷ l.rest) skip (leaves.Skip g) (skip_left s.phase (known_in s.draft) s.count (s.lines + 1) l.rest free l.few g l.read)
      (ap (λ q. record (with_leaf s (leaves.Skip g)) { phase = q }) (same_phase s.phase s.count free)) ∙ ap (take_said s) (sym l.begins)

  pub kern_step : (line : List ℕ) → length line ≤ 255 → (v : ℤ) → IsLineOf (codes "kern") dimension_left line v → with_leaf s (leaves.Kern v) ≡ take_said s line
  kern_step line few v h =
      let l = spaced (codes "kern") dimension_left line few v h in
      stepped (107 ∷ 101 ∷ 114 ∷ 110 ∷ 32 ∷ l.rest) kern (leaves.Kern v) (kern_left s.phase (known_in s.draft) s.count (s.lines + 1) l.rest free l.few v l.read)
      (ap (λ q. record (with_leaf s (leaves.Kern v)) { phase = q }) (same_phase s.phase s.count free)) ∙ ap (take_said s) (sym l.begins)

  pub penalty_step : (line : List ℕ) → length line ≤ 255 → (v : ℤ) → IsLineOf (codes "penalty") (range_left (negsuc 9999) (pos 10000) causes.Penalty) line v → with_leaf s (leaves.Penalty v) ≡ take_said s line
  penalty_step line few v h =
      let l = spaced (codes "penalty") (range_left (negsuc 9999) (pos 10000) causes.Penalty) line few v h in
      stepped (112 ∷ 101 ∷ 110 ∷ 97 ∷ 108 ∷ 116 ∷ 121 ∷ 32 ∷ l.rest) penalty (leaves.Penalty v) (penalty_left s.phase (known_in s.draft) s.count (s.lines + 1) l.rest free l.few v l.read)
      (ap (λ q. record (with_leaf s (leaves.Penalty v)) { phase = q }) (same_phase s.phase s.count free)) ∙ ap (take_said s) (sym l.begins)

setting_place : (p : Phase) (count : ℕ) → takes_setting p count ≡ true → (p ≡ among_sets) × (nat_lt count 100000 ≡ true)
setting_place among_sets count h = (refl, h)
setting_place p count h = cc

pub set_step : (s : State) → s.first ≡ None → takes_setting s.phase s.count ≡ true → (line : List ℕ) → length line ≤ 255 → (f : Field) (v : Value)
    → IsLineOf (codes "set") (set_left s.draft.version) line (contents.Set f v) → with_setting s f v ≡ take_said s line
set_step s first free line few f v h =
    let place = setting_place s.phase s.count free in
    let phase : s.phase ≡ among_sets = place.0 in
    let l = spaced (codes "set") (set_left s.draft.version) line few (contents.Set f v) h in
    ap (λ p. record (with_setting s f v) { phase = p }) (phase ∙ ap phase_past (sym phase))
    ∙ sym (ap (take_said s) l.begins ∙ ap (said_first s (115 ∷ 101 ∷ 116 ∷ 32 ∷ l.rest)) first
    ∙ ap (λ q. said_unless s (line_left q (known_in s.draft) s.count (s.lines + 1) (115 ∷ 101 ∷ 116 ∷ 32 ∷ l.rest))) phase
    ∙ ap (said_unless s) (set_line_left (known_in s.draft) s.count (s.lines + 1) l.rest place.1 l.few (contents.Set f v) l.read))

-- ---- a float

one_more : (p : Phase) (count : ℕ) → takes_item p count ≡ true → first_of (cause_if (nat_le 100000 count) causes.Items) ≡ None
one_more among_items count h = ap (λ t. first_of (cause_if t causes.Items)) (many count h)
one_more after_clear count h = ap (λ t. first_of (cause_if t causes.Items)) (many count h)
one_more after_two count h = ap (λ t. first_of (cause_if t causes.Items)) (many count h)
one_more p count h = cc

float_placed : (p : Phase) (a : Option SetPlace) (count : ℕ) → takes_item p count ≡ true → first_of (place_causes p a (Some float)) ≡ None
float_placed among_items a count h = refl
float_placed after_clear a count h = refl
float_placed after_two a count h = refl
float_placed p a count h = cc

phase_behind_item : (p : Phase) (count : ℕ) → takes_item p count ≡ true → item_phase p ≡ among_items
phase_behind_item among_items count h = refl
phase_behind_item after_clear count h = refl
phase_behind_item after_two count h = refl
phase_behind_item p count h = cc

float_line_left : (p : Phase) (k : Known) (count n : ℕ) (rest : List ℕ) → takes_item p count ≡ true → length (102 ∷ 108 ∷ 111 ∷ 97 ∷ 116 ∷ 32 ∷ rest) ≤ 255 → (f : Float × Bool)
    → finished (float_left k.version n (past_word rest)) ≡ Ok f → line_left p k count n (102 ∷ 108 ∷ 111 ∷ 97 ∷ 116 ∷ 32 ∷ rest) ≡ Ok (Some (float, contents.Item (items.Float f.0 f.1)))
unfolding line_left content_line content_left word_of
float_line_left p k count n rest free few f read =
    let asked : Option SetPlace = asked_place k.version (fields_of rest) in
    ap (λ t. if t then at_fault 0 causes.LineLength else placed (first_of (place_causes p asked (Some float))) (first_of (cause_if (nat_le 100000 count) causes.Items)) (said float (finished (content_left k n float (past_word rest))))) (short (102 ∷ 108 ∷ 111 ∷ 97 ∷ 116 ∷ 32 ∷ rest) few)
    ∙ ap (λ o. placed o (first_of (cause_if (nat_le 100000 count) causes.Items)) (said float (finished (content_left k n float (past_word rest))))) (float_placed p asked count free)
    ∙ ap (λ o. placed None o (said float (finished (content_left k n float (past_word rest))))) (one_more p count free)
    ∙ ap (said float) (finished_as (λ f. contents.Item (items.Float f.0 f.1)) (float_left k.version n (past_word rest)) f read)

pub float_step : (s : State) → s.first ≡ None → takes_item s.phase s.count ≡ true → (line : List ℕ) → length line ≤ 255 → (f : Float × Bool)
    → IsLineOf (codes "float") (float_left s.draft.version (s.lines + 1)) line f → with_item_line s (items.Float f.0 f.1) ≡ take_said s line
float_step s first free line few f h =
    let l = spaced (codes "float") (float_left s.draft.version (s.lines + 1)) line few f h in
    ap (λ p. record (with_item_line s (items.Float f.0 f.1)) { phase = p }) (sym (phase_behind_item s.phase s.count free))
    ∙ sym (ap (take_said s) l.begins ∙ ap (said_first s (102 ∷ 108 ∷ 111 ∷ 97 ∷ 116 ∷ 32 ∷ l.rest)) first
    ∙ ap (said_unless s) (float_line_left s.phase (known_in s.draft) s.count (s.lines + 1) l.rest free l.few f l.read))

-- ---- a marginal note

margin_placed : (p : Phase) (a : Option SetPlace) (count : ℕ) → takes_item p count ≡ true → first_of (place_causes p a (Some margin)) ≡ None
margin_placed among_items a count h = refl
margin_placed after_clear a count h = refl
margin_placed after_two a count h = refl
margin_placed p a count h = cc

margin_line_left : (p : Phase) (k : Known) (count n : ℕ) (rest : List ℕ) → takes_item p count ≡ true → length (109 ∷ 97 ∷ 114 ∷ 103 ∷ 105 ∷ 110 ∷ 32 ∷ rest) ≤ 255 → (f : Margin × Bool)
    → finished (margin_left k.version n (past_word rest)) ≡ Ok f → line_left p k count n (109 ∷ 97 ∷ 114 ∷ 103 ∷ 105 ∷ 110 ∷ 32 ∷ rest) ≡ Ok (Some (margin, contents.Item (items.Margin f.0 f.1)))
unfolding line_left content_line content_left word_of
margin_line_left p k count n rest free few f read =
    let asked : Option SetPlace = asked_place k.version (fields_of rest) in
    ap (λ t. if t then at_fault 0 causes.LineLength else placed (first_of (place_causes p asked (Some margin))) (first_of (cause_if (nat_le 100000 count) causes.Items)) (said margin (finished (content_left k n margin (past_word rest))))) (short (109 ∷ 97 ∷ 114 ∷ 103 ∷ 105 ∷ 110 ∷ 32 ∷ rest) few)
    ∙ ap (λ o. placed o (first_of (cause_if (nat_le 100000 count) causes.Items)) (said margin (finished (content_left k n margin (past_word rest))))) (margin_placed p asked count free)
    ∙ ap (λ o. placed None o (said margin (finished (content_left k n margin (past_word rest))))) (one_more p count free)
    ∙ ap (said margin) (finished_as (λ f. contents.Item (items.Margin f.0 f.1)) (margin_left k.version n (past_word rest)) f read)

pub margin_step : (s : State) → s.first ≡ None → takes_item s.phase s.count ≡ true → (line : List ℕ) → length line ≤ 255 → (f : Margin × Bool)
    → IsLineOf (codes "margin") (margin_left s.draft.version (s.lines + 1)) line f → with_item_line s (items.Margin f.0 f.1) ≡ take_said s line
margin_step s first free line few f h =
    let l = spaced (codes "margin") (margin_left s.draft.version (s.lines + 1)) line few f h in
    ap (λ p. record (with_item_line s (items.Margin f.0 f.1)) { phase = p }) (sym (phase_behind_item s.phase s.count free))
    ∙ sym (ap (take_said s) l.begins ∙ ap (said_first s (109 ∷ 97 ∷ 114 ∷ 103 ∷ 105 ∷ 110 ∷ 32 ∷ l.rest)) first
    ∙ ap (said_unless s) (margin_line_left s.phase (known_in s.draft) s.count (s.lines + 1) l.rest free l.few f l.read))

-- ---- a footnote of a class

foot_placed : (p : Phase) (a : Option SetPlace) (count : ℕ) → takes_item p count ≡ true → first_of (place_causes p a (Some foot)) ≡ None
foot_placed among_items a count h = refl
foot_placed after_clear a count h = refl
foot_placed after_two a count h = refl
foot_placed p a count h = cc

phase_in_foot : (p : Phase) (count : ℕ) → takes_item p count ≡ true → foot_phase p ≡ in_foot
phase_in_foot among_items count h = refl
phase_in_foot after_clear count h = refl
phase_in_foot after_two count h = refl
phase_in_foot p count h = cc

foot_line_left : (p : Phase) (k : Known) (count n : ℕ) (rest : List ℕ) → takes_item p count ≡ true → length (102 ∷ 111 ∷ 111 ∷ 116 ∷ 32 ∷ rest) ≤ 255 → (c : ℕ)
    → finished (foot_left k (past_word rest)) ≡ Ok c → line_left p k count n (102 ∷ 111 ∷ 111 ∷ 116 ∷ 32 ∷ rest) ≡ Ok (Some (foot, contents.Foot c))
unfolding line_left content_line content_left word_of
foot_line_left p k count n rest free few c read =
    let asked : Option SetPlace = asked_place k.version (fields_of rest) in
    ap (λ t. if t then at_fault 0 causes.LineLength else placed (first_of (place_causes p asked (Some foot))) (first_of (cause_if (nat_le 100000 count) causes.Items)) (said foot (finished (content_left k n foot (past_word rest))))) (short (102 ∷ 111 ∷ 111 ∷ 116 ∷ 32 ∷ rest) few)
    ∙ ap (λ o. placed o (first_of (cause_if (nat_le 100000 count) causes.Items)) (said foot (finished (content_left k n foot (past_word rest))))) (foot_placed p asked count free)
    ∙ ap (λ o. placed None o (said foot (finished (content_left k n foot (past_word rest))))) (one_more p count free)
    ∙ ap (said foot) (finished_as (λ q. contents.Foot q) (foot_left k (past_word rest)) c read)

pub class_foot_step : (s : State) → s.first ≡ None → takes_item s.phase s.count ≡ true → (line : List ℕ) → length line ≤ 255 → (c : ℕ)
    → IsLineOf (codes "foot") (foot_left (known_in s.draft)) line c → with_foot_begun s c ≡ take_said s line
class_foot_step s first free line few c h =
    let l = spaced (codes "foot") (foot_left (known_in s.draft)) line few c h in
    ap (λ p. record (with_foot_begun s c) { phase = p }) (sym (phase_in_foot s.phase s.count free))
    ∙ sym (ap (take_said s) l.begins ∙ ap (said_first s (102 ∷ 111 ∷ 111 ∷ 116 ∷ 32 ∷ l.rest)) first
    ∙ ap (said_unless s) (foot_line_left s.phase (known_in s.draft) s.count (s.lines + 1) l.rest free l.few c l.read))

-- ---- one word alone

foot_left_alone : (k : Known) (n count : ℕ) → takes_leaf among_items count ≡ true → line_left among_items k count n (codes "foot") ≡ Ok (Some (foot, contents.Foot 254))
unfolding line_left content_line content_left foot_left word_of
foot_left_alone k n count free =
    ap (λ o. placed None o (said foot (finished (content_left k n foot (past_word []))))) (items_left among_items count free)
    ∙ ap (λ t. said foot (finished (mapped (λ c. contents.Foot c) (named_class k.classes (past_word []) t)))) (or-true (k.version == 1))

endfoot_left_alone : (k : Known) (n count : ℕ) → takes_leaf in_foot count ≡ true → line_left in_foot k count n (codes "endfoot") ≡ Ok (Some (endfoot, contents.Endfoot))
unfolding line_left content_line content_left word_of
endfoot_left_alone k n count free =
    ap (λ o. placed None o (said endfoot (finished (content_left k n endfoot (past_word []))))) (items_left in_foot count free)

newpage_left_alone : (k : Known) (n count : ℕ) → takes_leaf among_items count ≡ true → line_left among_items k count n (codes "newpage") ≡ Ok (Some (newpage, contents.Item items.NewPage))
unfolding line_left content_line content_left word_of
newpage_left_alone k n count free =
    ap (λ o. placed None o (said newpage (finished (content_left k n newpage (past_word []))))) (items_left among_items count free)

clearpage_left_alone : (k : Known) (n count : ℕ) → takes_leaf among_items count ≡ true → line_left among_items k count n (codes "clearpage") ≡ Ok (Some (clearpage, contents.Item items.ClearPage))
unfolding line_left content_line content_left word_of
clearpage_left_alone k n count free =
    ap (λ o. placed None o (said clearpage (finished (content_left k n clearpage (past_word []))))) (items_left among_items count free)

onecolumn_left_alone : (k : Known) (n count : ℕ) → takes_leaf among_items count ≡ true → line_left among_items k count n (codes "onecolumn") ≡ Ok (Some (onecolumn, contents.Item items.OneColumn))
unfolding line_left content_line content_left word_of
onecolumn_left_alone k n count free =
    ap (λ o. placed None o (said onecolumn (finished (content_left k n onecolumn (past_word []))))) (items_left among_items count free)

twocolumn_left_alone : (k : Known) (n count : ℕ) → takes_leaf among_items count ≡ true → line_left among_items k count n (codes "twocolumn") ≡ Ok (Some (twocolumn, contents.Item items.TwoColumn))
unfolding line_left content_line content_left word_of
twocolumn_left_alone k n count free =
    ap (λ o. placed None o (said twocolumn (finished (content_left k n twocolumn (past_word []))))) (items_left among_items count free)

suppressfloats_left_alone : (k : Known) (n count : ℕ) → takes_leaf among_items count ≡ true → line_left among_items k count n (codes "suppressfloats") ≡ Ok (Some (suppressfloats, contents.Item (items.Suppress areas.All)))
unfolding line_left content_line content_left word_of area_left
suppressfloats_left_alone k n count free =
    ap (λ o. placed None o (said suppressfloats (finished (content_left k n suppressfloats (past_word []))))) (items_left among_items count free)

module _ (s : State) (first : s.first ≡ None) (free : takes_leaf s.phase s.count ≡ true) where
  said_by : (bytes line : List ℕ) (p : Phase) (w : LineWord) (c : Content) → s.phase ≡ p → line ≡ bytes
      → line_left p (known_in s.draft) s.count (s.lines + 1) bytes ≡ Ok (Some (w, c)) → past_said s (Some (w, c)) ≡ take_said s line
  said_by bytes line p w c phase e read =
      sym (ap (take_said s) e ∙ ap (said_first s bytes) first
      ∙ ap (λ q. said_unless s (line_left q (known_in s.draft) s.count (s.lines + 1) bytes)) phase ∙ ap (said_unless s) read)

  pub foot_step : (line : List ℕ) → s.phase ≡ among_items → line ≡ codes "foot" → with_foot_begun s 254 ≡ take_said s line
  foot_step line phase e =
      ap (λ p. record (with_foot_begun s 254) { phase = foot_phase p }) (sym phase)
      ∙ said_by (codes "foot") line among_items foot (contents.Foot 254) phase e
      (foot_left_alone (known_in s.draft) (s.lines + 1) s.count (subst (λ p. takes_leaf p s.count ≡ true) phase free))

  pub endfoot_step : (line : List ℕ) → s.phase ≡ in_foot → line ≡ codes "endfoot" → with_foot_ended s ≡ take_said s line
  endfoot_step line phase e =
      ap (λ p. record (with_foot_ended s) { phase = endfoot_phase p }) (sym phase)
      ∙ said_by (codes "endfoot") line in_foot endfoot contents.Endfoot phase e
      (endfoot_left_alone (known_in s.draft) (s.lines + 1) s.count (subst (λ p. takes_leaf p s.count ≡ true) phase free))

  bare : (bytes line : List ℕ) (w : LineWord) (kind : ItemKind) → s.phase ≡ among_items → line ≡ bytes
      → line_left among_items (known_in s.draft) s.count (s.lines + 1) bytes ≡ Ok (Some (w, contents.Item kind))
      → with_item_line s kind ≡ past_said s (Some (w, contents.Item kind)) → with_item_line s kind ≡ take_said s line
  bare bytes line w kind phase e read past = past ∙ said_by bytes line among_items w (contents.Item kind) phase e read

  pub bare_step : (line : List ℕ) (kind : ItemKind) → s.phase ≡ among_items → IsBareItem line kind → with_item_line s kind ≡ take_said s line
  bare_step line items.NewPage phase e =
      bare (codes "newpage") line newpage items.NewPage phase e (newpage_left_alone (known_in s.draft) (s.lines + 1) s.count (subst (λ p. takes_leaf p s.count ≡ true) phase free))
      (ap (λ p. record (with_item_line s items.NewPage) { phase = item_phase p }) (sym phase))
  bare_step line items.ClearPage phase e =
      bare (codes "clearpage") line clearpage items.ClearPage phase e (clearpage_left_alone (known_in s.draft) (s.lines + 1) s.count (subst (λ p. takes_leaf p s.count ≡ true) phase free))
      (ap (λ p. record (with_item_line s items.ClearPage) { phase = clear_phase p }) (sym phase))
  bare_step line items.OneColumn phase e =
      bare (codes "onecolumn") line onecolumn items.OneColumn phase e (onecolumn_left_alone (known_in s.draft) (s.lines + 1) s.count (subst (λ p. takes_leaf p s.count ≡ true) phase free))
      (ap (λ p. record (with_item_line s items.OneColumn) { phase = clear_phase p }) (sym phase))
  bare_step line items.TwoColumn phase e =
      bare (codes "twocolumn") line twocolumn items.TwoColumn phase e (twocolumn_left_alone (known_in s.draft) (s.lines + 1) s.count (subst (λ p. takes_leaf p s.count ≡ true) phase free))
      (ap (λ p. record (with_item_line s items.TwoColumn) { phase = two_phase p }) (sym phase))
  bare_step line (items.Suppress areas.All) phase e =
      bare (codes "suppressfloats") line suppressfloats (items.Suppress areas.All) phase e (suppressfloats_left_alone (known_in s.draft) (s.lines + 1) s.count (subst (λ p. takes_leaf p s.count ≡ true) phase free))
      (ap (λ p. record (with_item_line s (items.Suppress areas.All)) { phase = item_phase p }) (sym phase))
  bare_step line _ phase e = absurd e
