-- The reader's galley stays valid, line by line.
use Rattle.std.proofs.Common.{◌≡◌, ℕ, ◌+◌, ◌≤◌, Bool, true, false, ◌||◌, ◌==◌, nat_le, List, [], ◌∷◌, Option, Some, None, Result, Ok, Err, IfOk, refl, sym, subst, ◌⊎◌, inl, inr, arith, if◌then◌else◌, append-nil}
use Rattle.std.specs.Cmp.{first_so, second_so}
use Rattle.std.proofs.lemmas.Bool.{and_from}
use Rattle.std.specs.List.{list_all, fold}
use Rattle.std.proofs.lemmas.Bool.Decides.{nat_tests}
use Rattle.tb_param.specs.declared.params.Params.{Params}
use Rattle.tb_param.specs.Defaults.{default_params}
use Rattle.tb_param.specs.declared.changes.SetPlace.{SetPlace}
use Rattle.tb_param.proofs.RangeLemmas.{defaults_are_in_range}
use Rattle.tb_galley.specs.declared.contents.Content.{Content}
use Rattle.tb_galley.specs.declared.contents.Content.TheVariants as contents
use Rattle.tb_galley.specs.declared.Fault.{Fault}
use Rattle.tb_galley.specs.declared.Galley.{Galley}
use Rattle.tb_galley.specs.declared.Item.{Item}
use Rattle.tb_galley.specs.declared.ItemKind.{ItemKind}
use Rattle.tb_galley.specs.declared.ItemKind.TheVariants as items
use Rattle.tb_galley.specs.declared.classes.ClassLine.{ClassLine}
use Rattle.tb_galley.specs.Fields.{is_class_among}
use Rattle.tb_galley.specs.declared.LeafKind.{LeafKind}
use Rattle.tb_galley.specs.declared.LeafKind.TheVariants as leaves
use Rattle.tb_galley.specs.declared.fields.At.{At}
use Rattle.tb_galley.specs.Words.{LineWord, header, setting, class_line, foot, endfoot, title, end, Phase, at_start, among_sets, among_items, after_clear, after_two, in_foot, ended, Behind, behind_nothing, behind_two, behind_other, behind_word, counts_word, count_with, is_leaf_word, Known, word_here}
use Rattle.tb_galley.specs.Faults.{place_causes, item_causes, end_causes}
use Rattle.tb_galley.specs.Grammar.{OpenFoot, Draft, item_kind, with_item, with_plain, with_foot, with_set, with_content, with_class, galley_of}
use Rattle.tb_galley.specs.Line.{first_of, Said, line_left}
use Rattle.tb_galley.specs.GalleyReader.{State, next_phase, known_in, start, past_said, said_unless, said_first, take_said, end_by, verdict_by, verdict}
use Rattle.tb_galley.specs.Valid.{is_leaf, is_item, weight_of, weight, lines_of_item, named_lines, is_class, do_classes_rise, may_stand, has_known_class, fits_kind, fits_version, IsValid, fits_word, behind_after, may_come}
use Rattle.tb_galley.proofs.SuitedLines.{is_single_word, is_title_word, LeafSaid, ItemSaid, Suits, SaidSuits, IfSaid, line_suits}
use Rattle.tb_galley.proofs.WithClass.{rise-with, all-with, among-with}
use Rattle.tb_galley.proofs.BehindItems.{behind_items, StandsAt, takes_items, goes_on}
use Rattle.tb_galley.proofs.SoundLines.{Rises, numbers, Sound, drafted, past_line, fits_later, header_line, items_left, outside_line, leaf_line, foot_line, endfoot_line, end_line}
use Rattle.tb_galley.proofs.SoundSets.{few_left, counted, set_line}

-- ---- each content, in each phase

leaf_item_range : (n : ℕ) (k : LeafKind) → is_leaf k ≡ true → is_item n (item_kind k) ≡ true
leaf_item_range n (leaves.Hbox name h d) good = good
leaf_item_range n k good = good

leaf_item_weight : (k : LeafKind) → weight_of (item_kind k) ≡ 1
leaf_item_weight (leaves.Hbox name h d) = refl
leaf_item_weight k = refl

leaf_item_lines : (n : ℕ) (k : LeafKind) → (lines_of_item n (item_kind k) ≡ []) ⊎ (lines_of_item n (item_kind k) ≡ n ∷ [])
leaf_item_lines n (leaves.Hbox name h d) = inr refl
leaf_item_lines n (leaves.Rule name h d) = inr refl
leaf_item_lines n k = inl refl

leaf_item_fits : (v : ℕ) (k : LeafKind) → fits_word v (item_kind k) ≡ true
leaf_item_fits v (leaves.Hbox name h d) = refl
leaf_item_fits v k = refl

leaf_item_stands : (b : Behind) (k : LeafKind) → may_come b (item_kind k) ≡ true
leaf_item_stands b (leaves.Hbox name h d) = refl
leaf_item_stands b k = refl

other_behind : (w : LineWord) (b : Behind) → is_leaf_word w ≡ true → behind_other ≡ behind_word b w
other_behind header b leaf = cc
other_behind w b leaf = cc

leaf_item_behind : (w : LineWord) (b : Behind) (k : LeafKind) → is_leaf_word w ≡ true → behind_after b (item_kind k) ≡ behind_word b w
leaf_item_behind w b (leaves.Hbox name h d) leaf = other_behind w b leaf
leaf_item_behind w b k leaf = other_behind w b leaf

leaf_item_class : (ks : List ℕ) (k : LeafKind) → has_known_class ks (item_kind k) ≡ true
leaf_item_class ks (leaves.Hbox name h d) = refl
leaf_item_class ks k = refl

leaf_item_kind : (version : ℕ) (k : LeafKind) → fits_kind version (item_kind k) ≡ true
leaf_item_kind version (leaves.Hbox name h d) = refl
leaf_item_kind version k = refl

-- whether a box may come in the phase
abbrev takes_leaves : Phase → Bool
takes_leaves at_start = false
takes_leaves ended = false
takes_leaves _ = true

-- ---- words

leaf_goes : (w : LineWord) → is_leaf_word w ≡ true → goes_on w ≡ true
leaf_goes header h = cc
leaf_goes w h = cc

leaf_counts : (c : ℕ) (w : LineWord) → is_leaf_word w ≡ true → counts_word c w ≡ true
leaf_counts c header h = cc
leaf_counts c w h = cc

leaf_inside : (w : LineWord) → is_leaf_word w ≡ true → in_foot ≡ next_phase in_foot (Some w)
leaf_inside header h = cc
leaf_inside w h = cc

single_goes : (w : LineWord) → is_single_word w ≡ true → goes_on w ≡ true
single_goes header h = cc
single_goes w h = cc

single_counts : (c : ℕ) (w : LineWord) → is_single_word w ≡ true → counts_word c w ≡ true
single_counts c header h = cc
single_counts c w h = cc

leaf_takes : (p : Phase) (a : Option SetPlace) (w : LineWord) → is_leaf_word w ≡ true → first_of (place_causes p a (Some w)) ≡ None → takes_leaves p ≡ true
leaf_takes at_start a header h k = cc
leaf_takes at_start a w h k = cc
leaf_takes ended a w h k = cc
leaf_takes p a w h k = refl

single_takes : (p : Phase) (a : Option SetPlace) (w : LineWord) → is_single_word w ≡ true → first_of (place_causes p a (Some w)) ≡ None → takes_items p ≡ true
single_takes at_start a header h k = cc
single_takes at_start a w h k = cc
single_takes in_foot a header h k = cc
single_takes in_foot a w h k = cc
single_takes ended a w h k = cc
single_takes p a w h k = refl

-- a title comes only directly after a change to two columns
title_after : (p : Phase) (a : Option SetPlace) (w : LineWord) (b : Behind) → first_of (place_causes p a (Some w)) ≡ None → StandsAt p b → is_title_word w ≡ true → b ≡ behind_two
title_after after_two a title b place at t = at
title_after p a title b place at t = cc
title_after p a w b place at t = cc

-- ---- items of one line

leaf_outside : (n c : ℕ) (ps : Params) (v : ℕ) (cs : List ClassLine) (is : List Item) (e : ℕ) (w : LineWord) (k : LeafKind) → c + 1 ≤ 100000 → is_leaf k ≡ true → is_leaf_word w ≡ true
    → (p : Phase) → takes_items p ≡ true → Sound n p c (drafted ps v cs is None e) → Sound (n + 1) (next_phase p (Some w)) (c + 1) (with_item (drafted ps v cs is None e) (n + 1) (item_kind k))
leaf_outside n c ps v cs is e w k fits good leaf p takes s =
    outside_line n c ps v cs is e w (item_kind k) fits (leaf_item_range (n + 1) k good) (leaf_item_weight k) (leaf_item_class (numbers cs) k) (leaf_item_kind v k) (leaf_item_fits v k)
    (leaf_item_stands (behind_items behind_nothing is) k) (leaf_item_lines (n + 1) k) (leaf_goes w leaf) (λ b. leaf_item_behind w b k leaf) p takes s

plain_line : (n c : ℕ) (ps : Params) (v : ℕ) (cs : List ClassLine) (is : List Item) (e : ℕ) (w : LineWord) (k : LeafKind) → c + 1 ≤ 100000 → is_leaf k ≡ true → is_leaf_word w ≡ true
    → (p : Phase) (ft : Option OpenFoot) → takes_leaves p ≡ true → Sound n p c (drafted ps v cs is ft e)
    → Sound (n + 1) (next_phase p (Some w)) (c + 1) (with_plain (drafted ps v cs is ft e) (n + 1) k ft)
plain_line n c ps v cs is e w k fits good leaf in_foot (Some o) takes s =
    subst (λ q. Sound (n + 1) q (c + 1) (with_plain (drafted ps v cs is (Some o) e) (n + 1) k (Some o))) (leaf_inside w leaf) (leaf_line n c ps v cs is o e k fits good s)
plain_line n c ps v cs is e w k fits good leaf in_foot None takes s = cc
plain_line n c ps v cs is e w k fits good leaf at_start ft takes s = cc
plain_line n c ps v cs is e w k fits good leaf ended ft takes s = cc
plain_line n c ps v cs is e w k fits good leaf p (Some o) takes s = cc
plain_line n c ps v cs is e w k fits good leaf p None takes s = leaf_outside n c ps v cs is e w k fits good leaf p takes s

single_line : (n c : ℕ) (ps : Params) (v : ℕ) (cs : List ClassLine) (is : List Item) (e : ℕ) (w : LineWord) (k : ItemKind) → c + 1 ≤ 100000 → ItemSaid v (n + 1) w k → fits_word v k ≡ true → may_come (behind_items behind_nothing is) k ≡ true
    → (p : Phase) (ft : Option OpenFoot) → takes_items p ≡ true → Sound n p c (drafted ps v cs is ft e)
    → Sound (n + 1) (next_phase p (Some w)) (c + 1) (with_item (drafted ps v cs is ft e) (n + 1) k)
single_line n c ps v cs is e w k fits good fit stands p None takes s =
    outside_line n c ps v cs is e w k fits good.range good.weight (good.known (numbers cs)) good.kinds fit stands good.lines (single_goes w good.word) good.behind p takes s
single_line n c ps v cs is e w k fits good fit stands at_start (Some o) takes s = cc
single_line n c ps v cs is e w k fits good fit stands p (Some o) takes s = cc

abbrev Steps : ℕ → Phase → ℕ → LineWord → Draft → Type 0
Steps n p c w d = Sound (n + 1) (next_phase p (Some w)) (count_with c (Some w)) d

leaf_steps : (n : ℕ) (p : Phase) (a : Option SetPlace) (c : ℕ) (d : Draft) (w : LineWord) (k : LeafKind) → first_of (place_causes p a (Some w)) ≡ None → first_of (item_causes c (Some w)) ≡ None → LeafSaid w k
    → Sound n p c d → Steps n p c w (with_plain d (n + 1) k d.foot)
leaf_steps n p a c d w k place fits good s =
    let counts : counts_word c w ≡ true = leaf_counts c w good.word in
    subst (λ m. Sound (n + 1) (next_phase p (Some w)) m (with_plain d (n + 1) k d.foot)) (sym (counted c w counts))
    (plain_line n c d.params d.version d.classes d.items d.end_line w k (few_left c w counts fits) good.range good.word p d.foot (leaf_takes p a w good.word place) s)

single_steps : (n : ℕ) (p : Phase) (a : Option SetPlace) (c : ℕ) (d : Draft) (w : LineWord) (k : ItemKind) → first_of (place_causes p a (Some w)) ≡ None → first_of (item_causes c (Some w)) ≡ None → ItemSaid d.version (n + 1) w k
    → fits_word d.version k ≡ true → Sound n p c d → Steps n p c w (with_item d (n + 1) k)
single_steps n p a c d w k place fits good fit s =
    let counts : counts_word c w ≡ true = single_counts c w good.word in
    let b : Behind = behind_items behind_nothing d.items in
    subst (λ m. Sound (n + 1) (next_phase p (Some w)) m (with_item d (n + 1) k)) (sym (counted c w counts))
    (single_line n c d.params d.version d.classes d.items d.end_line w k (few_left c w counts fits) good fit (good.stands b (title_after p a w b place s.classed.behind)) p d.foot (single_takes p a w good.word place) s)

foot_steps : (n c : ℕ) (ps : Params) (v : ℕ) (cs : List ClassLine) (is : List Item) (e : ℕ) → (class : ℕ) → c + 1 ≤ 100000 → is_class_among (numbers cs) class ≡ true → (p : Phase) (a : Option SetPlace) (ft : Option OpenFoot) → first_of (place_causes p a (Some foot)) ≡ None
    → Sound n p c (drafted ps v cs is ft e) → Steps n p c foot (with_content (drafted ps v cs is ft e) (n + 1) (contents.Foot class))
foot_steps n c ps v cs is e class fits known among_sets a None place s = foot_line n c ps v cs is e class fits known among_sets refl s
foot_steps n c ps v cs is e class fits known among_items a None place s = foot_line n c ps v cs is e class fits known among_items refl s
foot_steps n c ps v cs is e class fits known after_clear a None place s = foot_line n c ps v cs is e class fits known after_clear refl s
foot_steps n c ps v cs is e class fits known after_two a None place s = foot_line n c ps v cs is e class fits known after_two refl s
foot_steps n c ps v cs is e class fits known p a ft place s = cc

endfoot_steps : (n c : ℕ) (ps : Params) (v : ℕ) (cs : List ClassLine) (is : List Item) (e : ℕ) → c + 1 ≤ 100000 → (p : Phase) (a : Option SetPlace) (ft : Option OpenFoot) → first_of (place_causes p a (Some endfoot)) ≡ None
    → Sound n p c (drafted ps v cs is ft e) → Steps n p c endfoot (with_foot (drafted ps v cs is ft e) ft)
endfoot_steps n c ps v cs is e fits in_foot a (Some o) place s = endfoot_line n c ps v cs is o e fits s
endfoot_steps n c ps v cs is e fits p a ft place s = cc

end_steps : (n c : ℕ) (ps : Params) (v : ℕ) (cs : List ClassLine) (is : List Item) (e : ℕ) (p : Phase) (a : Option SetPlace) (ft : Option OpenFoot) → first_of (place_causes p a (Some end)) ≡ None
    → Sound n p c (drafted ps v cs is ft e) → Steps n p c end (drafted ps v cs is ft (n + 1))
end_steps n c ps v cs is e among_sets a None place s = end_line n c ps v cs is e among_sets refl s
end_steps n c ps v cs is e among_items a None place s = end_line n c ps v cs is e among_items refl s
end_steps n c ps v cs is e after_clear a None place s = end_line n c ps v cs is e after_clear refl s
end_steps n c ps v cs is e after_two a None place s = end_line n c ps v cs is e after_two refl s
end_steps n c ps v cs is e p a ft place s = cc

-- the version of a galley in which `class` is a word
later_version : (v : ℕ) (cs : List ClassLine) → (v == 1) ≡ false → fits_version v cs ≡ true → ((v == 2) || (v == 3)) ≡ true
later_version v [] other h = by_test (v == 1) (v == 2) (v == 3) other h
  where
    by_test : (one two three : Bool) → one ≡ false → (one || two || three) ≡ true → (two || three) ≡ true
    by_test true two three e h = cc
    by_test false two three e h = h
later_version v (c ∷ cs) other h = h

class_version : (k : Known) → word_here k (Some class_line) ≡ Some class_line → (k.version == 1) ≡ false
class_version k h = by_test (k.version == 1) h
  where
    by_test : (t : Bool) → (if t then None else Some class_line) ≡ Some class_line → t ≡ false
    by_test true h = cc
    by_test false h = refl

-- the class of each footnote is known if one more is declared
still_known : (line : ClassLine) (cs : List ClassLine) (k : ItemKind) → has_known_class (numbers cs) k ≡ true → has_known_class (numbers (with_class line cs)) k ≡ true
still_known line cs (items.Foot class ls) h = among-with line cs class h
still_known line cs k h = refl

all_known : (line : ClassLine) (cs : List ClassLine) (is : List Item) → list_all (λ (i : Item). has_known_class (numbers cs) i.kind) is ≡ true → list_all (λ (i : Item). has_known_class (numbers (with_class line cs)) i.kind) is ≡ true
all_known line cs [] h = refl
all_known line cs (i ∷ is) h =
    and_from (has_known_class (numbers (with_class line cs)) i.kind) (list_all (λ (j : Item). has_known_class (numbers (with_class line cs)) j.kind) is)
    (still_known line cs i.kind (first_so (has_known_class (numbers cs) i.kind) (list_all (λ (j : Item). has_known_class (numbers cs) j.kind) is) h))
    (all_known line cs is (second_so (has_known_class (numbers cs) i.kind) (list_all (λ (j : Item). has_known_class (numbers cs) j.kind) is) h))

class_steps : (n c : ℕ) (ps : Params) (v : ℕ) (cs : List ClassLine) (is : List Item) (e : ℕ) (line : ClassLine) → (v == 1) ≡ false → is_class line ≡ true → may_stand v line.below ≡ true → (p : Phase) (a : Option SetPlace) (ft : Option OpenFoot)
    → first_of (place_causes p a (Some class_line)) ≡ None → Sound n p c (drafted ps v cs is ft e) → Steps n p c class_line (drafted ps v (with_class line cs) is ft e)
class_steps n c ps v cs is e line later good stands among_sets a None place s =
    let next : Sound (n + 1) among_sets c (drafted ps v cs is None e) = past_line n among_sets c (drafted ps v cs is None e) s in
    record {
      params = next.params;
      items = next.items;
      leaves = next.leaves;
      classed = record {
        version = fits_later v (with_class line cs) (later_version v cs later s.classed.version);
        words = s.classed.words;
        others = s.classed.others;
        fresh = s.classed.fresh;
        kinds = s.classed.kinds;
        classes =
            and_from (list_all is_class (with_class line cs)) (do_classes_rise (with_class line cs)) (all-with is_class line cs good (first_so (list_all is_class cs) (do_classes_rise cs) s.classed.classes))
            (rise-with line cs (second_so (list_all is_class cs) (do_classes_rise cs) s.classed.classes));
        standing = all-with (λ k. may_stand v k.below) line cs stands s.classed.standing;
        feet = all_known line cs is s.classed.feet;
        foot = refl;
        order = s.classed.order;
        behind = s.classed.behind;
      };
      weight = next.weight;
      count = next.count;
      phase = next.phase;
      lines = next.lines;
    }
class_steps n c ps v cs is e line later good stands p a ft place s = cc

-- a step with a word that the content fixes
fixed_word : (p : Phase) (a : Option SetPlace) (k : Known) (c : ℕ) (v w : LineWord) (P : LineWord → Type 0) → w ≡ v → first_of (place_causes p a (Some w)) ≡ None → first_of (item_causes c (Some w)) ≡ None → word_here k (Some w) ≡ Some w
    → (first_of (place_causes p a (Some v)) ≡ None → first_of (item_causes c (Some v)) ≡ None → word_here k (Some v) ≡ Some v → P v) → P w
fixed_word p a k c v w P same place fits here f =
    subst P (sym same)
    (f (subst (λ x. first_of (place_causes p a (Some x)) ≡ None) same place) (subst (λ x. first_of (item_causes c (Some x)) ≡ None) same fits) (subst (λ x. word_here k (Some x) ≡ Some x) same here))

content_steps : (n : ℕ) (p : Phase) (a : Option SetPlace) (c : ℕ) (d : Draft) (w : LineWord) (k : Content) → first_of (place_causes p a (Some w)) ≡ None → first_of (item_causes c (Some w)) ≡ None → word_here (known_in d) (Some w) ≡ Some w → Suits (known_in d) a (n + 1) w k
    → Sound n p c d → Steps n p c w (with_content d (n + 1) k)
content_steps n p a c d w (contents.Header version) place fits here good s =
    fixed_word p a (known_in d) c header w (λ v. Steps n p c v (record d { version = version })) good.0 place fits here (λ pl fi he. header_line n p a c d version good.1 pl s)
content_steps n p a c d w (contents.Set field value) place fits here good s =
    fixed_word p a (known_in d) c setting w (λ v. Steps n p c v (with_set d (n + 1) field value d.items)) good.word place fits here
    (λ pl fi he. set_line n c d.params d.version d.classes d.end_line field value fi good.kept good.known good.range p d.items d.foot (subst (λ x. first_of (place_causes p x (Some setting)) ≡ None) good.place pl) s)
content_steps n p a c d w (contents.Class line) place fits here good s =
    fixed_word p a (known_in d) c class_line w (λ v. Steps n p c v (record d { classes = with_class line d.classes })) good.0 place fits here (λ pl fi he. class_steps n c d.params d.version d.classes d.items d.end_line line (class_version (known_in d) he) good.1 good.2 p a d.foot pl s)
content_steps n p a c d w (contents.Plain k) place fits here good s = leaf_steps n p a c d w k place fits good s
content_steps n p a c d w (contents.Item k) place fits here good s = single_steps n p a c d w k place fits good (good.fits (known_in d) here) s
content_steps n p a c d w (contents.Foot class) place fits here good s =
    fixed_word p a (known_in d) c foot w (λ v. Steps n p c v (with_content d (n + 1) (contents.Foot class))) good.0 place fits here
    (λ pl fi he. foot_steps n c d.params d.version d.classes d.items d.end_line class (items_left c (nat_le 100000 c) refl fi) good.1 p a d.foot pl s)
content_steps n p a c d w contents.Endfoot place fits here good s =
    fixed_word p a (known_in d) c endfoot w (λ v. Steps n p c v (with_foot d d.foot)) good place fits here
    (λ pl fi he. endfoot_steps n c d.params d.version d.classes d.items d.end_line (items_left c (nat_le 100000 c) refl fi) p a d.foot pl s)
content_steps n p a c d w contents.End place fits here good s =
    fixed_word p a (known_in d) c end w (λ v. Steps n p c v (record d { end_line = n + 1 })) good place fits here (λ pl fi he. end_steps n c d.params d.version d.classes d.items d.end_line p a d.foot pl s)

-- ---- the whole

-- a reader that has found no fault is sound
abbrev SoundBy : Option Fault → State → Type 0
SoundBy (Some f) s = Unit {0}
SoundBy None s = Sound s.lines s.phase s.count s.draft

abbrev pub IsSoundReader : State → Type 0
IsSoundReader s = SoundBy s.first s

said_sound : (s : State) (r : Result (Option Said) At) → s.first ≡ None → Sound s.lines s.phase s.count s.draft → IfOk r (IfSaid (SaidSuits s.phase (known_in s.draft) s.count (s.lines + 1))) → IsSoundReader (said_unless s r)
said_sound s (Ok None) none sound said =
    subst (λ o. SoundBy o (record s { lines = s.lines + 1 })) (sym none) (past_line s.lines s.phase s.count s.draft sound)
said_sound s (Ok (Some w)) none sound said =
    subst (λ o. SoundBy o (past_said s (Some w))) (sym none)
    (content_steps s.lines s.phase said.asked s.count s.draft w.0 w.1 said.place said.items said.here said.suits sound)
said_sound s (Err e) none sound said = tt

first_sound : (s : State) (bytes : List ℕ) (o : Option Fault) → s.first ≡ o → SoundBy o s → IsSoundReader (said_first s bytes o)
first_sound s bytes (Some f) first sound = subst (λ o. SoundBy o s) (sym first) tt
first_sound s bytes None first sound = said_sound s (line_left s.phase (known_in s.draft) s.count (s.lines + 1) bytes) first sound (line_suits s.phase (known_in s.draft) s.count (s.lines + 1) bytes)

lines_sound : (s : State) (lines : List (List ℕ)) → IsSoundReader s → IsSoundReader (fold take_said s lines)
lines_sound s [] sound = sound
lines_sound s (bytes ∷ lines) sound = lines_sound (take_said s bytes) lines (first_sound s bytes s.first refl sound)

start_sound : IsSoundReader start
unfolding default_params
start_sound = record {
  params = defaults_are_in_range;
  items = refl;
  leaves = refl;
  classed = record { version = refl; words = refl; others = λ field lacks. refl; fresh = refl; kinds = refl; classes = refl; standing = refl; feet = refl; foot = refl; order = refl; behind = refl };
  weight = omega arith;
  count = omega arith;
  phase = refl;
  lines = refl;
}

ended_galley : (n c : ℕ) (ps : Params) (v : ℕ) (cs : List ClassLine) (is : List Item) (ft : Option OpenFoot) (e : ℕ) → Sound n ended c (drafted ps v cs is ft e) → IsValid (galley_of (drafted ps v cs is ft e))
ended_galley n c ps v cs is None e s =
    let light : weight is + 0 ≤ c = s.weight in
    let few : nat_le (weight is) 100000 ≡ true = grind (arith, nat_tests, s.count) in
    record {
      params = s.params;
      version = s.classed.version;
      words = s.classed.words;
      others = s.classed.others;
      classes = s.classed.classes;
      standing = s.classed.standing;
      items = s.items;
      feet = s.classed.feet;
      kinds = s.classed.kinds;
      order = s.classed.order;
      count = few;
      lines = subst (λ ns. Rises ns e) (append-nil (named_lines is)) s.lines;
    }
ended_galley n c ps v cs is (Some o) e s = cc

end_valid : (s : State) (p : Phase) → Sound s.lines p s.count s.draft → IfOk (end_by s (end_causes p)) IsValid
end_valid s at_start sound = tt
end_valid s among_sets sound = tt
end_valid s among_items sound = tt
end_valid s after_clear sound = tt
end_valid s after_two sound = tt
end_valid s in_foot sound = tt
end_valid s ended sound = ended_galley s.lines s.count s.draft.params s.draft.version s.draft.classes s.draft.items s.draft.foot s.draft.end_line sound

verdict_valid : (s : State) (o : Option Fault) → SoundBy o s → IfOk (verdict_by s o) IsValid
verdict_valid s (Some f) sound = tt
verdict_valid s None sound = end_valid s s.phase sound

-- what the lines of an input spell is valid
pub read_valid : (lines : List (List ℕ)) → IfOk (verdict (fold take_said start lines)) IsValid
read_valid lines = verdict_valid (fold take_said start lines) (fold take_said start lines).first (lines_sound start lines start_sound)

pub valid_galley : (lines : List (List ℕ)) (r : State) (g : Galley) → r ≡ fold take_said start lines → Ok g ≡ verdict r → IsValid g
valid_galley lines r g read answer = subst (λ a. IfOk a IsValid) (sym answer) (subst (λ s. IfOk (verdict s) IsValid) (sym read) (read_valid lines))
