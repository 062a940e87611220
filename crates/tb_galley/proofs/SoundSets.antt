-- A line of `set` keeps a reader sound.
use Rattle.std.proofs.Common.{◌≡◌, ℕ, ◌+◌, ◌≤◌, Bool, true, false, not, ◌&&◌, ◌==◌, nat_le, List, [], ◌∷◌, Option, Some, None, if◌then◌else◌, refl, ap, sym, subst, ◌∙◌, inl, arith}
use Rattle.std.proofs.lemmas.Bool.Decides.{nat_tests}
use Rattle.tb_param.specs.declared.params.Params.{Params}
use Rattle.tb_param.specs.declared.fields.Field.{Field}
use Rattle.tb_param.specs.declared.fields.Field.TheVariants as fields
use Rattle.tb_param.specs.declared.Value.{Value}
use Rattle.tb_param.specs.Changes.{is_in_range, set_place}
use Rattle.tb_param.specs.Fields.{with_value, value_of}
use Rattle.tb_param.specs.Table.{is_known_in, first_version}
use Rattle.tb_galley.specs.declared.Cause.TheVariants as causes
use Rattle.tb_galley.specs.declared.Item.{Item}
use Rattle.tb_galley.specs.declared.ItemKind.{ItemKind}
use Rattle.tb_galley.specs.declared.ItemKind.TheVariants as items
use Rattle.tb_galley.specs.declared.classes.ClassLine.{ClassLine}
use Rattle.tb_galley.specs.Words.{LineWord, setting, Phase, among_sets, among_items, after_clear, after_two, in_foot, Behind, behind_nothing, behind_clear, behind_two, behind_other, counts_word, count_with}
use Rattle.tb_galley.specs.Faults.{place_causes, item_causes, cause_if, may_be_set}
use Rattle.tb_galley.specs.Grammar.{OpenFoot, with_item, with_set}
use Rattle.tb_galley.specs.Line.{first_of}
use Rattle.tb_galley.specs.GalleyReader.{next_phase}
use Rattle.tb_galley.specs.Valid.{weight_of, weight, OthersDefault}
use Rattle.tb_galley.proofs.BehindItems.{behind_items, takes_items, field_place, set_there, stands_set}
use Rattle.tb_galley.proofs.SoundLines.{Sound, drafted, past_line, items_left, outside_line}
use Rattle.tb_galley.proofs.SuitedLines.{SetsInRange}

-- ---- parameters that the version does not have

-- a version with some parameter has all those of version 1
has-version : (field : Field) → nat_le 1 (first_version field) ≡ true
has-version fields.Release = refl
has-version field = refl

none-lacks : (v : ℕ) (field : Field) → is_known_in v field ≡ true → nat_le 1 v ≡ false → ⊥
none-lacks v field known lacks = apart (first_version field) (has-version field) known
  where
    apart : (k : ℕ) → nat_le 1 k ≡ true → nat_le k v ≡ true → ⊥
    apart k some few = grind (arith, nat_tests)

-- a parameter that the version does not have stays if one that it has is set
other-stays : (v : ℕ) (other field : Field) (value : Value) (ps : Params) → is_known_in v field ≡ true → is_known_in v other ≡ false → value_of other (with_value field value ps) ≡ value_of other ps
other-stays v fields.Release fields.Release value ps known lacks = cc
other-stays v fields.Release field value ps known lacks = refl
other-stays v fields.Texttop fields.Texttop value ps known lacks = cc
other-stays v fields.Texttop field value ps known lacks = refl
other-stays v fields.Textbottom fields.Textbottom value ps known lacks = cc
other-stays v fields.Textbottom field value ps known lacks = refl
other-stays v fields.Footrule fields.Footrule value ps known lacks = cc
other-stays v fields.Footrule field value ps known lacks = refl
other-stays v fields.Toprule fields.Toprule value ps known lacks = cc
other-stays v fields.Toprule field value ps known lacks = refl
other-stays v fields.Bottomrule fields.Bottomrule value ps known lacks = cc
other-stays v fields.Bottomrule field value ps known lacks = refl
other-stays v fields.Dblrule fields.Dblrule value ps known lacks = cc
other-stays v fields.Dblrule field value ps known lacks = refl
other-stays v fields.Footdepth fields.Footdepth value ps known lacks = cc
other-stays v fields.Footdepth field value ps known lacks = refl
other-stays v fields.Footfill fields.Footfill value ps known lacks = cc
other-stays v fields.Footfill field value ps known lacks = refl
other-stays v fields.Footplace fields.Footplace value ps known lacks = cc
other-stays v fields.Footplace field value ps known lacks = refl
other-stays v other field value ps known lacks = absurd (none-lacks v field known lacks)

set_others : (v : ℕ) (field : Field) (value : Value) (ps : Params) → is_known_in v field ≡ true → OthersDefault v ps → OthersDefault v (with_value field value ps)
set_others v field value ps known others other lacks = other-stays v other field value ps known lacks ∙ others other lacks

-- ---- the lines of items that a line counts as

-- a word that counts as a line of an item has room for one
pub few_left : (c : ℕ) (w : LineWord) → counts_word c w ≡ true → first_of (item_causes c (Some w)) ≡ None → c + 1 ≤ 100000
few_left c w counts fits = items_left c (nat_le 100000 c) refl (subst (λ t. first_of (cause_if (t && nat_le 100000 c) causes.Items) ≡ None) counts fits)

pub counted : (c : ℕ) (w : LineWord) → counts_word c w ≡ true → count_with c (Some w) ≡ c + 1
counted c w counts = ap (λ t. if t then c + 1 else c) counts

still_few : (c : ℕ) → c ≤ 100000 → first_of (item_causes c (Some setting)) ≡ None → count_with c (Some setting) ≤ 100000
still_few c small fits = by_test (not (c == 0)) (few_left c setting) fits
  where
    by_test : (t : Bool) → (t ≡ true → first_of (cause_if (t && nat_le 100000 c) causes.Items) ≡ None → c + 1 ≤ 100000) → first_of (cause_if (t && nat_le 100000 c) causes.Items) ≡ None → (if t then c + 1 else c) ≤ 100000
    by_test true few fits = few refl fits
    by_test false few fits = small

pub some_weight : (k : ItemKind) → 1 ≤ weight_of k
some_weight (items.Foot class ls) = omega arith
some_weight k = omega arith

pub some_count : (c : ℕ) → 1 ≤ c → counts_word c setting ≡ true
some_count c h = grind (arith, nat_tests)

-- ---- the line

set_first : (n c : ℕ) (ps : Params) (v : ℕ) (cs : List ClassLine) (e : ℕ) (field : Field) (value : Value) → first_of (item_causes c (Some setting)) ≡ None → SetsInRange field value → is_known_in v field ≡ true
    → Sound n among_sets c (drafted ps v cs [] None e) → Sound (n + 1) among_sets (count_with c (Some setting)) (drafted (with_value field value ps) v cs [] None e)
set_first n c ps v cs e field value fits good known s =
    let next : Sound (n + 1) among_sets c (drafted ps v cs [] None e) = past_line n among_sets c (drafted ps v cs [] None e) s in
    record {
      params = good ps s.params;
      items = next.items;
      leaves = next.leaves;
      classed = record {
        version = s.classed.version;
        words = s.classed.words;
        others = set_others v field value ps known s.classed.others;
        fresh = refl;
        kinds = s.classed.kinds;
        classes = s.classed.classes;
        standing = s.classed.standing;
        feet = s.classed.feet;
        foot = s.classed.foot;
        order = s.classed.order;
        behind = s.classed.behind;
      };
      weight = omega arith;
      count = still_few c s.count fits;
      phase = next.phase;
      lines = next.lines;
    }

set_item : (n c : ℕ) (ps : Params) (v : ℕ) (cs : List ClassLine) (i : Item) (is : List Item) (e : ℕ) (field : Field) (value : Value) → first_of (item_causes c (Some setting)) ≡ None → is_in_range (record { field = field; value = value }) ≡ true
    → (p : Phase) → takes_items p ≡ true → ((v == 3) ≡ true) × (may_be_set p (set_place field) ≡ true) → Sound n p c (drafted ps v cs (i ∷ is) None e)
    → Sound (n + 1) (next_phase p (Some setting)) (count_with c (Some setting)) (with_set (drafted ps v cs (i ∷ is) None e) (n + 1) field value (i ∷ is))
set_item n c ps v cs i is e field value fits good p takes there s =
    let b : Behind = behind_items behind_nothing (i ∷ is) in
    let k : ItemKind = items.Set (record { field = field; value = value }) in
    let some : 1 ≤ weight_of i.kind = some_weight i.kind in
    let light : (weight_of i.kind + weight is) + 0 ≤ c = s.weight in
    let counts : counts_word c setting ≡ true = some_count c (omega arith) in
    subst (λ m. Sound (n + 1) (next_phase p (Some setting)) m (with_item (drafted ps v cs (i ∷ is) None e) (n + 1) k)) (sym (counted c setting counts))
    (outside_line n c ps v cs (i ∷ is) e setting k (few_left c setting counts fits) good refl refl refl there.0 (stands_set p b (set_place field) takes s.classed.behind there.1) (inl refl) refl (λ x. refl) p takes s)

pub set_line : (n c : ℕ) (ps : Params) (v : ℕ) (cs : List ClassLine) (e : ℕ) (field : Field) (value : Value) → first_of (item_causes c (Some setting)) ≡ None → SetsInRange field value → is_known_in v field ≡ true → is_in_range (record { field = field; value = value }) ≡ true
    → (p : Phase) (is : List Item) (ft : Option OpenFoot) → first_of (place_causes p (field_place v field) (Some setting)) ≡ None → Sound n p c (drafted ps v cs is ft e)
    → Sound (n + 1) (next_phase p (Some setting)) (count_with c (Some setting)) (with_set (drafted ps v cs is ft e) (n + 1) field value is)
set_line n c ps v cs e field value fits good known in_range among_sets [] None place s = set_first n c ps v cs e field value fits good known s
set_line n c ps v cs e field value fits good known in_range among_sets [] (Some o) place s = cc
set_line n c ps v cs e field value fits good known in_range among_sets (i ∷ is) ft place s = let fresh : false ≡ true = s.classed.fresh in cc
set_line n c ps v cs e field value fits good known in_range among_items [] ft place s = let at : behind_nothing ≡ behind_other = s.classed.behind in cc
set_line n c ps v cs e field value fits good known in_range among_items (i ∷ is) None place s = set_item n c ps v cs i is e field value fits in_range among_items refl (set_there among_items v field place) s
set_line n c ps v cs e field value fits good known in_range among_items (i ∷ is) (Some o) place s = cc
set_line n c ps v cs e field value fits good known in_range after_clear [] ft place s = let at : behind_nothing ≡ behind_clear = s.classed.behind in cc
set_line n c ps v cs e field value fits good known in_range after_clear (i ∷ is) None place s = set_item n c ps v cs i is e field value fits in_range after_clear refl (set_there after_clear v field place) s
set_line n c ps v cs e field value fits good known in_range after_clear (i ∷ is) (Some o) place s = cc
set_line n c ps v cs e field value fits good known in_range after_two [] ft place s = let at : behind_nothing ≡ behind_two = s.classed.behind in cc
set_line n c ps v cs e field value fits good known in_range after_two (i ∷ is) None place s = set_item n c ps v cs i is e field value fits in_range after_two refl (set_there after_two v field place) s
set_line n c ps v cs e field value fits good known in_range after_two (i ∷ is) (Some o) place s = cc
set_line n c ps v cs e field value fits good known in_range in_foot is ft place s = let there = set_there in_foot v field place in let no : false ≡ true = there.1 in cc
set_line n c ps v cs e field value fits good known in_range p is ft place s = cc
