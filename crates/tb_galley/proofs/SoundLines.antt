-- A reader is sound: what it has drafted so far is in its ranges; each line of a known content keeps it so.
use Rattle.std.proofs.Common.{◌≡◌, ℕ, zero, suc, ◌+◌, ◌≤◌, ◌<◌, Bool, true, false, ◌&&◌, ◌||◌, ◌==◌, nat_lt, nat_le, length, map, List, [], ◌∷◌, ◌++◌, Option, Some, None, refl, ap, sym, subst, ◌∙◌, ◌⊎◌, inl, inr, arith, append_assoc, length-append, append-nil}
use Rattle.std.specs.Prelude.{is_some, is_none}
use Rattle.std.proofs.lemmas.Bool.{eqb-true}
use Rattle.std.specs.List.{list_all}
use Rattle.std.proofs.lemmas.Bool.Decides.{nat_tests}
use Rattle.std.proofs.lemmas.List.Folds.{list_all-append}
use Rattle.tb_param.specs.declared.params.Params.{Params}
use Rattle.tb_param.specs.declared.changes.SetPlace.{SetPlace}
use Rattle.tb_param.specs.Ranges.{are_params}
use Rattle.tb_param.specs.Table.{first_version}
use Rattle.tb_galley.specs.declared.Cause.TheVariants as causes
use Rattle.tb_galley.specs.declared.contents.Content.TheVariants as contents
use Rattle.tb_galley.specs.declared.Item.{Item}
use Rattle.tb_galley.specs.declared.ItemKind.{ItemKind}
use Rattle.tb_galley.specs.declared.ItemKind.TheVariants as items
use Rattle.tb_galley.specs.declared.classes.ClassLine.{ClassLine}
use Rattle.tb_galley.specs.Fields.{is_class_among}
use Rattle.tb_galley.specs.declared.Leaf.{Leaf}
use Rattle.tb_galley.specs.declared.LeafKind.{LeafKind}
use Rattle.tb_galley.specs.Words.{LineWord, header, Phase, at_start, among_sets, among_items, after_clear, after_two, in_foot, ended, Behind, behind_nothing, behind_word, phase_behind}
use Rattle.tb_galley.specs.Faults.{place_causes, cause_if}
use Rattle.tb_galley.specs.Grammar.{OpenFoot, Draft, with_item, with_plain, with_foot, with_content}
use Rattle.tb_galley.specs.Line.{first_of}
use Rattle.tb_galley.specs.GalleyReader.{next_phase}
use Rattle.tb_galley.specs.Valid.{is_leaf, is_item, weight_of, weight, leaf_lines, lines_of_item, named_lines, rise_from, is_class, do_classes_rise, do_all_stand, has_known_class, fits_kind, fits_version, fits_word, OthersDefault, is_version, behind_after, may_come, do_items_stand}
use Rattle.tb_galley.proofs.BehindItems.{behind_items, behind-append, order-append, is_nothing, comes-after, StandsAt, stands_at, takes_items, goes_on, next-there}

-- ---- lists that rise

-- the list rises, and its last number is below this one
abbrev pub Rises : List ℕ → ℕ → Type 0
Rises xs a = rise_from 0 (xs ++ a ∷ []) ≡ true

below_and : (a b c : ℕ) (more less : Bool) → (nat_lt a b && more) ≡ true → b ≤ c → (more ≡ true → less ≡ true) → (nat_lt a c && less) ≡ true
below_and a b c more less h k f = grind (arith, nat_tests)

rises_later_from : (m : ℕ) (xs : List ℕ) (a b : ℕ) → rise_from m (xs ++ a ∷ []) ≡ true → a ≤ b → rise_from m (xs ++ b ∷ []) ≡ true
rises_later_from m [] a b h k = below_and m a b true true h k (λ e. e)
rises_later_from m (x ∷ xs) a b h k = below_and m x x (rise_from x (xs ++ a ∷ [])) (rise_from x (xs ++ b ∷ [])) h (omega arith) (λ e. rises_later_from x xs a b e k)

rises_more_from : (m : ℕ) (xs : List ℕ) (a b : ℕ) → rise_from m (xs ++ a ∷ []) ≡ true → a < b → rise_from m ((xs ++ a ∷ []) ++ b ∷ []) ≡ true
rises_more_from m [] a b h k = let below : nat_lt a b ≡ true = grind (arith, nat_tests) in below_and m a a true (nat_lt a b && true) h (omega arith) (λ e. ap (λ t. t && true) below)
rises_more_from m (x ∷ xs) a b h k = below_and m x x (rise_from x (xs ++ a ∷ [])) (rise_from x ((xs ++ a ∷ []) ++ b ∷ [])) h (omega arith) (λ e. rises_more_from x xs a b e k)

-- ---- one item more

weight-append : (is : List Item) (i : Item) → weight (is ++ i ∷ []) ≡ weight is + weight_of i.kind
weight-append [] i = omega arith
weight-append (j ∷ is) i = let more : weight (is ++ i ∷ []) ≡ weight is + weight_of i.kind = weight-append is i in omega arith

named-append : (is : List Item) (i : Item) → named_lines (is ++ i ∷ []) ≡ named_lines is ++ lines_of_item i.line i.kind
named-append [] i = append-nil (lines_of_item i.line i.kind)
named-append (j ∷ is) i = ap (λ ls. lines_of_item j.line j.kind ++ ls) (named-append is i) ∙ sym (append_assoc (lines_of_item j.line j.kind) (named_lines is) (lines_of_item i.line i.kind))

leaf_lines-append : (ls : List Leaf) (l : Leaf) → leaf_lines (ls ++ l ∷ []) ≡ leaf_lines ls ++ l.line ∷ []
leaf_lines-append [] l = refl
leaf_lines-append (m ∷ ls) l = ap (λ ns. m.line ∷ ns) (leaf_lines-append ls l)

all_more : {X : Type 0} (p : X → Bool) (xs : List X) (x : X) → list_all p xs ≡ true → p x ≡ true → list_all p (xs ++ x ∷ []) ≡ true
all_more p xs x h k = list_all-append p xs (x ∷ []) ∙ hold (list_all p xs) (p x) h k
  where
    hold : (a b : Bool) → a ≡ true → b ≡ true → (a && (b && true)) ≡ true
    hold true true h k = refl
    hold true false h k = k
    hold false b h k = h

-- ---- a sound state

abbrev open_leaves : Option OpenFoot → List Leaf
open_leaves None = []
open_leaves (Some o) = o.leaves

-- how many lines of items the open foot has so far
abbrev open_weight : Option OpenFoot → ℕ
open_weight None = 0
open_weight (Some o) = length o.leaves + 1

-- a foot is open exactly in its phase
abbrev pub foot_fits : Phase → Option OpenFoot → Bool
foot_fits at_start o = is_none o
foot_fits among_sets o = is_none o
foot_fits among_items o = is_none o
foot_fits after_clear o = is_none o
foot_fits after_two o = is_none o
foot_fits in_foot o = is_some o
foot_fits ended o = is_none o

-- the line that comes next; after the end that of the end
abbrev pub last_line : Phase → ℕ → ℕ → ℕ
last_line at_start n e = n + 1
last_line among_sets n e = n + 1
last_line among_items n e = n + 1
last_line after_clear n e = n + 1
last_line after_two n e = n + 1
last_line in_foot n e = n + 1
last_line ended n e = e

-- the lines so far that must rise
abbrev lines_so_far : Draft → List ℕ
lines_so_far d = named_lines d.items ++ leaf_lines (open_leaves d.foot)

-- the classes that were declared
abbrev pub numbers : List ClassLine → List ℕ
numbers cs = map (λ (c : ClassLine). c.number) cs

-- the class of the open foot is one of these
abbrev is_known_foot : List ℕ → Option OpenFoot → Bool
is_known_foot ks None = true
is_known_foot ks (Some o) = is_class_among ks o.class

-- before the header the version counts as 1; until the first item there are no items
abbrev is_fresh : Phase → ℕ → List Item → Bool
is_fresh at_start v [] = v == 1
is_fresh at_start v (i ∷ is) = false
is_fresh among_sets v [] = true
is_fresh among_sets v (i ∷ is) = false
is_fresh _ v is = true

-- the version knows what the draft has, and the classes of feet were declared
pub record Classed (p : Phase) (d : Draft) : Type 0 where
  pub version : fits_version d.version d.classes ≡ true
  pub words : list_all (λ (i : Item). fits_word d.version i.kind) d.items ≡ true
  pub others : OthersDefault d.version d.params
  pub fresh : is_fresh p d.version d.items ≡ true
  pub kinds : list_all (λ (i : Item). fits_kind d.version i.kind) d.items ≡ true
  pub classes : (list_all is_class d.classes && do_classes_rise d.classes) ≡ true
  pub standing : do_all_stand d.version d.classes ≡ true
  pub feet : list_all (λ (i : Item). has_known_class (numbers d.classes) i.kind) d.items ≡ true
  pub foot : is_known_foot (numbers d.classes) d.foot ≡ true
  pub order : do_items_stand behind_nothing d.items ≡ true
  pub behind : StandsAt p (behind_items behind_nothing d.items)

pub record Sound (n : ℕ) (p : Phase) (c : ℕ) (d : Draft) : Type 0 where
  pub params : are_params d.params ≡ true
  pub items : list_all (λ (i : Item). is_item i.line i.kind) d.items ≡ true
  pub leaves : list_all (λ (l : Leaf). is_leaf l.kind) (open_leaves d.foot) ≡ true
  pub classed : Classed p d
  pub weight : weight d.items + open_weight d.foot ≤ c
  pub count : c ≤ 100000
  pub phase : foot_fits p d.foot ≡ true
  pub lines : Rises (lines_so_far d) (last_line p n d.end_line)

abbrev pub drafted : Params → ℕ → List ClassLine → List Item → Option OpenFoot → ℕ → Draft
drafted ps v cs is ft e = record { params = ps; version = v; classes = cs; items = is; foot = ft; end_line = e }

-- ---- a line without content

later_line : (p : Phase) (n e : ℕ) → last_line p n e ≤ last_line p (n + 1) e
later_line at_start n e = omega arith
later_line among_sets n e = omega arith
later_line among_items n e = omega arith
later_line after_clear n e = omega arith
later_line after_two n e = omega arith
later_line in_foot n e = omega arith
later_line ended n e = omega arith

pub past_line : (n : ℕ) (p : Phase) (c : ℕ) (d : Draft) → Sound n p c d → Sound (n + 1) p c d
past_line n p c d s = record {
  params = s.params;
  items = s.items;
  leaves = s.leaves;
  classed = s.classed;
  weight = s.weight;
  count = s.count;
  phase = s.phase;
  lines = rises_later_from 0 (lines_so_far d) (last_line p n d.end_line) (last_line p (n + 1) d.end_line) s.lines (later_line p n d.end_line);
}

-- ---- the header and the sets

-- in a version after the first, classes may be declared
pub fits_later : (v : ℕ) (cs : List ClassLine) → ((v == 2) || (v == 3)) ≡ true → fits_version v cs ≡ true
fits_later v [] h = by_first (v == 1) (v == 2) (v == 3) h
  where
    by_first : (one two three : Bool) → (two || three) ≡ true → (one || two || three) ≡ true
    by_first true true three h = refl
    by_first true false three h = refl
    by_first false two three h = h
fits_later v (c ∷ cs) h = h

-- classes that fit version 1 fit each version
fits_each : (v : ℕ) (cs : List ClassLine) → is_version v ≡ true → fits_version 1 cs ≡ true → fits_version v cs ≡ true
fits_each v [] some h = some
fits_each v (c ∷ cs) some h = cc

header_fits : (u v : ℕ) (cs : List ClassLine) → (u == 1) ≡ true → is_version v ≡ true → fits_version u cs ≡ true → fits_version v cs ≡ true
header_fits u v cs one some h = fits_each v cs some (subst (λ n. fits_version n cs ≡ true) (eqb-true u 1 one) h)

-- classes that fit version 1 are none, and so stand where they may
first_standing : (v : ℕ) (cs : List ClassLine) → fits_version 1 cs ≡ true → do_all_stand v cs ≡ true
first_standing v [] h = refl
first_standing v (c ∷ cs) h = cc

header_standing : (u v : ℕ) (cs : List ClassLine) → (u == 1) ≡ true → fits_version u cs ≡ true → do_all_stand v cs ≡ true
header_standing u v cs one h = first_standing v cs (subst (λ n. fits_version n cs ≡ true) (eqb-true u 1 one) h)

-- what some version does not have, version 1 does not have
lacks-first : (v k : ℕ) → is_version v ≡ true → nat_le k v ≡ false → nat_le k 1 ≡ false
lacks-first v k some h = below (at_least v some)
  where
    at_least : (v : ℕ) → is_version v ≡ true → nat_le 1 v ≡ true
    at_least zero some = cc
    at_least (suc v) some = grind (arith, nat_tests)

    below : nat_le 1 v ≡ true → nat_le k 1 ≡ false
    below least = grind (arith, nat_tests)

header_others : (u v : ℕ) (ps : Params) → (u == 1) ≡ true → is_version v ≡ true → OthersDefault u ps → OthersDefault v ps
header_others u v ps one some others field h = subst (λ n. OthersDefault n ps) (eqb-true u 1 one) others field (lacks-first v (first_version field) some h)

fresh_version : (v : ℕ) (is : List Item) → is_fresh at_start v is ≡ true → (v == 1) ≡ true
fresh_version v [] h = h
fresh_version v (i ∷ is) h = cc

-- before the header there are no items, so all of them are as they must be
fresh_items : (u : ℕ) (is : List Item) (good : Item → Bool) → is_fresh at_start u is ≡ true → list_all good is ≡ true
fresh_items u [] good h = refl
fresh_items u (i ∷ is) good h = cc

fresh_sets : (u v : ℕ) (is : List Item) → is_fresh at_start u is ≡ true → is_fresh among_sets v is ≡ true
fresh_sets u v [] h = refl
fresh_sets u v (i ∷ is) h = h

pub header_line : (n : ℕ) (p : Phase) (a : Option SetPlace) (c : ℕ) (d : Draft) (v : ℕ) → is_version v ≡ true → first_of (place_causes p a (Some header)) ≡ None → Sound n p c d
    → Sound (n + 1) (next_phase p (Some header)) c (record d { version = v })
header_line n at_start a c d v some place s =
    let next : Sound (n + 1) at_start c d = past_line n at_start c d s in
    record {
      params = next.params;
      items = next.items;
      leaves = next.leaves;
      classed = record {
        version = header_fits d.version v d.classes (fresh_version d.version d.items s.classed.fresh) some s.classed.version;
        others = header_others d.version v d.params (fresh_version d.version d.items s.classed.fresh) some s.classed.others;
        words = fresh_items d.version d.items (λ i. fits_word v i.kind) s.classed.fresh;
        fresh = fresh_sets d.version v d.items s.classed.fresh;
        kinds = fresh_items d.version d.items (λ i. fits_kind v i.kind) s.classed.fresh;
        classes = s.classed.classes;
        standing = header_standing d.version v d.classes (fresh_version d.version d.items s.classed.fresh) s.classed.version;
        feet = s.classed.feet;
        foot = s.classed.foot;
        order = s.classed.order;
        behind = s.classed.behind;
      };
      weight = next.weight;
      count = next.count;
      phase = next.phase;
      lines = next.lines;
    }
header_line n among_sets a c d v some place s = cc
header_line n among_items a c d v some place s = cc
header_line n after_clear a c d v some place s = cc
header_line n after_two a c d v some place s = cc
header_line n in_foot a c d v some place s = cc
header_line n ended a c d v some place s = cc

-- ---- items

pub items_left : (c : ℕ) (t : Bool) → t ≡ nat_le 100000 c → first_of (cause_if t causes.Items) ≡ None → c + 1 ≤ 100000
items_left c true e h = cc
items_left c false e h = grind (arith, nat_tests)

more_lines : (xs named : List ℕ) (m n : ℕ) → (named ≡ []) ⊎ (named ≡ m ∷ []) → m < n → Rises xs m → Rises (xs ++ named) n
more_lines xs named m n (inl e) k h =
    subst (λ ns. Rises (xs ++ ns) n) (sym e) (subst (λ ns. Rises ns n) (sym (append-nil xs)) (rises_later_from 0 xs m n h (omega arith)))
more_lines xs named m n (inr e) k h = subst (λ ns. Rises (xs ++ ns) n) (sym e) (rises_more_from 0 xs m n h k)

-- ---- the phase behind an item

free-behind : (b : Behind) → foot_fits (phase_behind b) None ≡ true
free-behind behind_nothing = refl
free-behind b = refl

last-behind : (b : Behind) (n e : ℕ) → last_line (phase_behind b) n e ≡ n + 1
last-behind behind_nothing n e = refl
last-behind b n e = refl

fresh-behind : (b : Behind) (v : ℕ) (is : List Item) → is_nothing b ≡ false → is_fresh (phase_behind b) v is ≡ true
fresh-behind behind_nothing v is h = cc
fresh-behind b v is h = refl

next-line : (p : Phase) (n e : ℕ) → takes_items p ≡ true → last_line p n e ≡ n + 1
next-line ended n e takes = cc
next-line p n e takes = refl

-- an item of one line, with no foot open
item_line : (n c : ℕ) (ps : Params) (v : ℕ) (cs : List ClassLine) (is : List Item) (e : ℕ) (k : ItemKind) → c + 1 ≤ 100000 → is_item (n + 1) k ≡ true → weight_of k ≡ 1 → has_known_class (numbers cs) k ≡ true → fits_kind v k ≡ true → fits_word v k ≡ true → may_come (behind_items behind_nothing is) k ≡ true
    → (lines_of_item (n + 1) k ≡ []) ⊎ (lines_of_item (n + 1) k ≡ (n + 1) ∷ [])
    → (p : Phase) → last_line p n e ≡ n + 1 → Sound n p c (drafted ps v cs is None e) → Sound (n + 1) (phase_behind (behind_after (behind_items behind_nothing is) k)) (c + 1) (with_item (drafted ps v cs is None e) (n + 1) k)
item_line n c ps v cs is e k fits good one known kind fit stands named p next s =
    let i : Item = record { line = n + 1; kind = k } in
    let b : Behind = behind_after (behind_items behind_nothing is) k in
    let heavier : weight (is ++ i ∷ []) ≡ weight is + weight_of k = weight-append is i in
    let before : Rises (named_lines is) (n + 1) = subst (λ a. Rises (named_lines is) a) next (subst (λ ns. Rises ns (last_line p n e)) (append-nil (named_lines is)) s.lines) in
    let light : weight is + 0 ≤ c = s.weight in
    record {
      params = s.params;
      items = all_more (λ (j : Item). is_item j.line j.kind) is i s.items good;
      leaves = refl;
      classed = record {
        version = s.classed.version;
        words = all_more (λ (j : Item). fits_word v j.kind) is i s.classed.words fit;
        others = s.classed.others;
        fresh = fresh-behind b v (is ++ i ∷ []) (comes-after (behind_items behind_nothing is) k stands);
        kinds = all_more (λ (j : Item). fits_kind v j.kind) is i s.classed.kinds kind;
        classes = s.classed.classes;
        standing = s.classed.standing;
        feet = all_more (λ (j : Item). has_known_class (numbers cs) j.kind) is i s.classed.feet known;
        foot = refl;
        order = order-append behind_nothing is i s.classed.order stands;
        behind = subst (λ x. StandsAt (phase_behind b) x) (sym (behind-append behind_nothing is i)) (stands_at b);
      };
      weight = omega arith;
      count = fits;
      phase = free-behind b;
      lines =
          subst (λ ns. Rises ns (last_line (phase_behind b) (n + 1) e)) (sym (append-nil (named_lines (is ++ i ∷ [])) ∙ named-append is i))
          (subst (λ a. Rises (named_lines is ++ lines_of_item (n + 1) k) a) (sym (last-behind b (n + 1) e))
          (more_lines (named_lines is) (lines_of_item (n + 1) k) (n + 1) (n + 1 + 1) named (omega arith) before));
    }

-- the same by the word of the line
pub outside_line : (n c : ℕ) (ps : Params) (v : ℕ) (cs : List ClassLine) (is : List Item) (e : ℕ) (w : LineWord) (k : ItemKind) → c + 1 ≤ 100000 → is_item (n + 1) k ≡ true → weight_of k ≡ 1 → has_known_class (numbers cs) k ≡ true → fits_kind v k ≡ true → fits_word v k ≡ true
    → may_come (behind_items behind_nothing is) k ≡ true → (lines_of_item (n + 1) k ≡ []) ⊎ (lines_of_item (n + 1) k ≡ (n + 1) ∷ []) → goes_on w ≡ true → ((b : Behind) → behind_after b k ≡ behind_word b w)
    → (p : Phase) → takes_items p ≡ true → Sound n p c (drafted ps v cs is None e) → Sound (n + 1) (next_phase p (Some w)) (c + 1) (with_item (drafted ps v cs is None e) (n + 1) k)
outside_line n c ps v cs is e w k fits good one known kind fit stands named goes same p takes s =
    let b : Behind = behind_items behind_nothing is in
    subst (λ q. Sound (n + 1) q (c + 1) (with_item (drafted ps v cs is None e) (n + 1) k)) (ap phase_behind (same b) ∙ next-there p b w takes s.classed.behind goes)
    (item_line n c ps v cs is e k fits good one known kind fit stands named p (next-line p n e takes) s)

-- a line of an open foot
pub leaf_line : (n c : ℕ) (ps : Params) (v : ℕ) (cs : List ClassLine) (is : List Item) (o : OpenFoot) (e : ℕ) (k : LeafKind) → c + 1 ≤ 100000 → is_leaf k ≡ true → Sound n in_foot c (drafted ps v cs is (Some o) e)
    → Sound (n + 1) in_foot (c + 1) (with_plain (drafted ps v cs is (Some o) e) (n + 1) k (Some o))
leaf_line n c ps v cs is o e k fits good s =
    let l : Leaf = record { line = n + 1; kind = k } in
    let longer : length (o.leaves ++ l ∷ []) ≡ length o.leaves + 1 = length-append o.leaves (l ∷ []) in
    let light : weight is + (length o.leaves + 1) ≤ c = s.weight in
    record {
      params = s.params;
      items = s.items;
      leaves = all_more (λ (m : Leaf). is_leaf m.kind) o.leaves l s.leaves good;
      classed = record { version = s.classed.version; words = s.classed.words; others = s.classed.others; fresh = refl; kinds = s.classed.kinds; classes = s.classed.classes; standing = s.classed.standing; feet = s.classed.feet; foot = s.classed.foot; order = s.classed.order; behind = tt };
      weight = omega arith;
      count = fits;
      phase = refl;
      lines =
          subst (λ ns. Rises ns (n + 1 + 1)) (append_assoc (named_lines is) (leaf_lines o.leaves) ((n + 1) ∷ []) ∙ ap (λ ns. named_lines is ++ ns) (sym (leaf_lines-append o.leaves l)))
          (rises_more_from 0 (named_lines is ++ leaf_lines o.leaves) (n + 1) (n + 1 + 1) s.lines (omega arith));
    }

pub foot_line : (n c : ℕ) (ps : Params) (v : ℕ) (cs : List ClassLine) (is : List Item) (e : ℕ) → (class : ℕ) → c + 1 ≤ 100000 → is_class_among (numbers cs) class ≡ true → (p : Phase) → last_line p n e ≡ n + 1 → Sound n p c (drafted ps v cs is None e)
    → Sound (n + 1) in_foot (c + 1) (with_content (drafted ps v cs is None e) (n + 1) (contents.Foot class))
foot_line n c ps v cs is e class fits known p next s =
    let light : weight is + 0 ≤ c = s.weight in
    record {
      params = s.params;
      items = s.items;
      leaves = refl;
      classed = record { version = s.classed.version; words = s.classed.words; others = s.classed.others; fresh = refl; kinds = s.classed.kinds; classes = s.classed.classes; standing = s.classed.standing; feet = s.classed.feet; foot = known; order = s.classed.order; behind = tt };
      weight = omega arith;
      count = fits;
      phase = refl;
      lines = rises_later_from 0 (named_lines is ++ []) (last_line p n e) (n + 1 + 1) s.lines (omega arith);
    }

pub endfoot_line : (n c : ℕ) (ps : Params) (v : ℕ) (cs : List ClassLine) (is : List Item) (o : OpenFoot) (e : ℕ) → c + 1 ≤ 100000 → Sound n in_foot c (drafted ps v cs is (Some o) e)
    → Sound (n + 1) among_items (c + 1) (with_foot (drafted ps v cs is (Some o) e) (Some o))
endfoot_line n c ps v cs is o e fits s =
    let i : Item = record { line = o.line; kind = items.Foot o.class o.leaves } in
    let heavier : weight (is ++ i ∷ []) ≡ weight is + (length o.leaves + 2) = weight-append is i in
    let light : weight is + (length o.leaves + 1) ≤ c = s.weight in
    record {
      params = s.params;
      items = all_more (λ (j : Item). is_item j.line j.kind) is i s.items s.leaves;
      leaves = refl;
      classed = record {
        version = s.classed.version;
        words = all_more (λ (j : Item). fits_word v j.kind) is i s.classed.words refl;
        others = s.classed.others;
        fresh = refl;
        kinds = all_more (λ (j : Item). fits_kind v j.kind) is i s.classed.kinds refl;
        classes = s.classed.classes;
        standing = s.classed.standing;
        feet = all_more (λ (j : Item). has_known_class (numbers cs) j.kind) is i s.classed.feet s.classed.foot;
        foot = refl;
        order = order-append behind_nothing is i s.classed.order refl;
        behind = behind-append behind_nothing is i;
      };
      weight = omega arith;
      count = fits;
      phase = refl;
      lines =
          subst (λ ns. Rises ns (n + 1 + 1)) (sym (append-nil (named_lines (is ++ i ∷ [])) ∙ named-append is i))
          (rises_later_from 0 (named_lines is ++ leaf_lines o.leaves) (n + 1) (n + 1 + 1) s.lines (omega arith));
    }

pub end_line : (n c : ℕ) (ps : Params) (v : ℕ) (cs : List ClassLine) (is : List Item) (e : ℕ) (p : Phase) → last_line p n e ≡ n + 1 → Sound n p c (drafted ps v cs is None e)
    → Sound (n + 1) ended c (drafted ps v cs is None (n + 1))
end_line n c ps v cs is e p next s = record {
  params = s.params;
  items = s.items;
  leaves = s.leaves;
  classed = record { version = s.classed.version; words = s.classed.words; others = s.classed.others; fresh = refl; kinds = s.classed.kinds; classes = s.classed.classes; standing = s.classed.standing; feet = s.classed.feet; foot = s.classed.foot; order = s.classed.order; behind = tt };
  weight = s.weight;
  count = s.count;
  phase = refl;
  lines = subst (λ a. Rises (named_lines is ++ []) a) next s.lines;
}
