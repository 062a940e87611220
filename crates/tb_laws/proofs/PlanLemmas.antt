-- Galleys with page breaks put in: each is valid, and its run ships the boxes, floats and notes of the galley without them.
use Rattle.std.proofs.Common.{◌≡◌, refl, sym, ◌∙◌, ap, subst, ℕ, suc, ◌+◌, ℤ, pos, Bool, true, false, List, [], ◌∷◌, ◌++◌, map, length}
use Rattle.std.specs.Prelude.{neg_ℤ, ◌==◌, ◌&&◌, not, IsTrue, IsPermutation, filter, if◌then◌else◌}
use Rattle.std.specs.List.{list_all}
use Rattle.tb_galley.specs.declared.Item.{Item}
use Rattle.tb_galley.specs.declared.ItemKind.{ItemKind}
use Rattle.tb_galley.specs.declared.ItemKind.TheVariants as items
use Rattle.tb_galley.specs.declared.Galley.{Galley}
use Rattle.tb_galley.specs.GalleyNodes.{two_after}
use Rattle.tb_galley.specs.Valid.{IsValid, is_item, has_known_class, fits_kind, lines_of_item, named_lines, rise_from, fits_word}
use Rattle.tb_report.specs.declared.Totals.{Totals}
use Rattle.tb_steps.specs.Run.{Run, run_of}
use Rattle.tb_plans.specs.Plans.{break_before, broken, with_breaks}
use Rattle.tb_laws.specs.Laws.{lines_by, foot_line, text_line, note_line, float_of, galley_floats, as_taken, taken_floats, float_lines, is_in, shipped_boxes, shipped_floats, shipped_nodes, node_lines, note_lines_of, ShipsOnce, HasTotals, KeepsClassOrder, EachShipsOnce, TotalsAreKept, ClassesKeepOrder, LimitsHold}
use Rattle.tb_laws.specs.PlanLaws.{TakesBreaks, BreaksKeepValid, BreaksShipOnce, BreaksKeepTotals, BreaksKeepOrder, BreaksKeepLimits}

-- ---- what is gathered of items does not see the breaks

lines-broken : (lines : ℕ → ItemKind → List ℕ) → ((m : ℕ) (p : ℤ) → lines m (items.Penalty p) ≡ []) → (k : ℕ) (ns : List Item) (bs : List ℕ) → lines_by lines (broken k ns bs) ≡ lines_by lines ns
lines-broken lines none k [] bs = refl
lines-broken lines none k (n ∷ ns) [] = refl
lines-broken lines none k (n ∷ ns) (b ∷ bs) = by (lines-broken lines none (suc k) ns bs) (lines-broken lines none (suc k) ns (b ∷ bs)) (b == k)
  where
    by : lines_by lines (broken (suc k) ns bs) ≡ lines_by lines ns → lines_by lines (broken (suc k) ns (b ∷ bs)) ≡ lines_by lines ns → (t : Bool) → lines_by lines (if t then break_before n ∷ n ∷ broken (suc k) ns bs else n ∷ broken (suc k) ns (b ∷ bs)) ≡ lines n.line n.kind ++ lines_by lines ns
    by here later true = ap (λ l. l ++ (lines n.line n.kind ++ lines_by lines (broken (suc k) ns bs))) (none n.line (neg_ℤ (pos 10000))) ∙ ap (λ l. lines n.line n.kind ++ l) here
    by here later false = ap (λ l. lines n.line n.kind ++ l) later

floats-broken : (k : ℕ) (ns : List Item) (bs : List ℕ) → galley_floats (broken k ns bs) ≡ galley_floats ns
floats-broken k [] bs = refl
floats-broken k (n ∷ ns) [] = refl
floats-broken k (n ∷ ns) (b ∷ bs) = by (floats-broken (suc k) ns bs) (floats-broken (suc k) ns (b ∷ bs)) (b == k)
  where
    by : galley_floats (broken (suc k) ns bs) ≡ galley_floats ns → galley_floats (broken (suc k) ns (b ∷ bs)) ≡ galley_floats ns → (t : Bool) → galley_floats (if t then break_before n ∷ n ∷ broken (suc k) ns bs else n ∷ broken (suc k) ns (b ∷ bs)) ≡ float_of n.kind ++ galley_floats ns
    by here later true = ap (λ l. float_of n.kind ++ l) here
    by here later false = ap (λ l. float_of n.kind ++ l) later

taken-broken : (two : Bool) (k : ℕ) (ns : List Item) (bs : List ℕ) → taken_floats two (broken k ns bs) ≡ taken_floats two ns
taken-broken two k [] bs = refl
taken-broken two k (n ∷ ns) [] = refl
taken-broken two k (n ∷ ns) (b ∷ bs) = by (taken-broken (two_after two n.kind) (suc k) ns bs) (taken-broken (two_after two n.kind) (suc k) ns (b ∷ bs)) (b == k)
  where
    by : taken_floats (two_after two n.kind) (broken (suc k) ns bs) ≡ taken_floats (two_after two n.kind) ns → taken_floats (two_after two n.kind) (broken (suc k) ns (b ∷ bs)) ≡ taken_floats (two_after two n.kind) ns → (t : Bool) → taken_floats two (if t then break_before n ∷ n ∷ broken (suc k) ns bs else n ∷ broken (suc k) ns (b ∷ bs)) ≡ map (as_taken two) (float_of n.kind) ++ taken_floats (two_after two n.kind) ns
    by here later true = ap (λ l. map (as_taken two) (float_of n.kind) ++ l) here
    by here later false = ap (λ l. map (as_taken two) (float_of n.kind) ++ l) later

named-broken : (k : ℕ) (ns : List Item) (bs : List ℕ) → named_lines (broken k ns bs) ≡ named_lines ns
named-broken k [] bs = refl
named-broken k (n ∷ ns) [] = refl
named-broken k (n ∷ ns) (b ∷ bs) = by (named-broken (suc k) ns bs) (named-broken (suc k) ns (b ∷ bs)) (b == k)
  where
    by : named_lines (broken (suc k) ns bs) ≡ named_lines ns → named_lines (broken (suc k) ns (b ∷ bs)) ≡ named_lines ns → (t : Bool) → named_lines (if t then break_before n ∷ n ∷ broken (suc k) ns bs else n ∷ broken (suc k) ns (b ∷ bs)) ≡ lines_of_item n.line n.kind ++ named_lines ns
    by here later true = ap (λ l. lines_of_item n.line n.kind ++ l) here
    by here later false = ap (λ l. lines_of_item n.line n.kind ++ l) later

all-broken : (f : Item → Bool) → ((n : Item) → f (break_before n) ≡ true) → (k : ℕ) (ns : List Item) (bs : List ℕ) → list_all f (broken k ns bs) ≡ list_all f ns
all-broken f holds k [] bs = refl
all-broken f holds k (n ∷ ns) [] = refl
all-broken f holds k (n ∷ ns) (b ∷ bs) = by (all-broken f holds (suc k) ns bs) (all-broken f holds (suc k) ns (b ∷ bs)) (b == k)
  where
    by : list_all f (broken (suc k) ns bs) ≡ list_all f ns → list_all f (broken (suc k) ns (b ∷ bs)) ≡ list_all f ns → (t : Bool) → list_all f (if t then break_before n ∷ n ∷ broken (suc k) ns bs else n ∷ broken (suc k) ns (b ∷ bs)) ≡ (f n && list_all f ns)
    by here later true = ap (λ t. t && (f n && list_all f (broken (suc k) ns bs))) (holds n) ∙ ap (λ t. f n && t) here
    by here later false = ap (λ t. f n && t) later

-- ---- a galley with breaks is valid, if its items are not too many and stand where they may

plans-are-valid : (g : Galley) (plan : List ℕ) → IsValid g → TakesBreaks g plan → IsValid (with_breaks g plan)
plans-are-valid g plan v takes = record {
  params = v.params;
  others = v.others;
  version = v.version;
  words = subst IsTrue (sym (all-broken (λ n. fits_word g.version n.kind) (λ n. refl) 0 g.items plan)) v.words;
  classes = v.classes;
  standing = v.standing;
  items = subst IsTrue (sym (all-broken (λ n. is_item n.line n.kind) (λ n. refl) 0 g.items plan)) v.items;
  feet = subst IsTrue (sym (all-broken (λ n. has_known_class (map (λ c. c.number) g.classes) n.kind) (λ n. refl) 0 g.items plan)) v.feet;
  kinds = subst IsTrue (sym (all-broken (λ n. fits_kind g.version n.kind) (λ n. refl) 0 g.items plan)) v.kinds;
  order = takes.1;
  count = takes.0;
  lines = subst (λ l. IsTrue (rise_from 0 (l ++ g.end_line ∷ []))) (sym (named-broken 0 g.items plan)) v.lines;
}

-- ---- the laws of the run with breaks, said of the galley without them

ships-same : (g : Galley) (plan : List ℕ) (r : Run) → ShipsOnce (with_breaks g plan) r → ShipsOnce g r
ships-same g plan r h = record {
  text = subst (λ x. filter (λ n. not (is_in x n)) (shipped_boxes r) ≡ lines_by text_line (broken 0 g.items plan)) feet h.text ∙ lines-broken text_line (λ m p. refl) 0 g.items plan;
  feet = subst (λ x. IsPermutation (filter (is_in x) (shipped_boxes r)) x) feet h.feet;
  floats = subst (λ x. IsPermutation (shipped_floats r) (float_lines x)) (floats-broken 0 g.items plan) h.floats;
  notes = subst (λ x. IsPermutation (node_lines note_lines_of (shipped_nodes r.events)) x) (lines-broken note_line (λ m p. refl) 0 g.items plan) h.notes;
}
  where
    feet : lines_by foot_line (broken 0 g.items plan) ≡ lines_by foot_line g.items
    feet = lines-broken foot_line (λ m p. refl) 0 g.items plan

totals-same : (g : Galley) (plan : List ℕ) (t : Totals) → HasTotals (with_breaks g plan) t → HasTotals g t
totals-same g plan t h = record {
  boxes = h.boxes ∙ (λ i. length (lines-broken text_line (λ m p. refl) 0 g.items plan i) + length (lines-broken foot_line (λ m p. refl) 0 g.items plan i));
  floats = h.floats ∙ ap length (floats-broken 0 g.items plan);
}

-- ---- the laws

pub breaks-keep-valid : BreaksKeepValid
breaks-keep-valid = plans-are-valid

pub breaks-ship-once : EachShipsOnce → BreaksShipOnce
breaks-ship-once law g plan valid takes done = ships-same g plan (run_of (with_breaks g plan)) (law (with_breaks g plan) (plans-are-valid g plan valid takes) done)

pub breaks-keep-totals : TotalsAreKept → BreaksKeepTotals
breaks-keep-totals law g plan valid takes done = totals-same g plan _ (law (with_breaks g plan) (plans-are-valid g plan valid takes) done)

pub breaks-keep-order : ClassesKeepOrder → BreaksKeepOrder
breaks-keep-order law g plan valid takes done =
    subst (λ x. KeepsClassOrder g.params (run_of (with_breaks g plan)) x) (taken-broken false 0 g.items plan) (law (with_breaks g plan) (plans-are-valid g plan valid takes) done)

pub breaks-keep-limits : LimitsHold → BreaksKeepLimits
breaks-keep-limits law g plan = law (with_breaks g plan)
