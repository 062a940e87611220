-- What the parts of `settle` add up to.
use Rattle.std.proofs.Common.{◌≡◌, refl, sym, subst, ◌∙◌, ap, ℕ, ℤ, pos, ◌+ℤ◌, ◌-ℤ◌, Bool, true, false, Option, None, Some, arith}
use Rattle.std.specs.Prelude.{◌*ℤ◌, int_div, ◌||◌, if◌then◌else◌, slice_index_or}
use Rattle.std.proofs.lemmas.Int.{ints}
use Rattle.tb_scaled.specs.Scaled.{is_zero}
use Rattle.tb_node.specs.declared.Sums.{Sums}
use Rattle.tb_pool.specs.Lists.{Lists, list_at}
use Rattle.tb_node.specs.declared.Node.{Node}
use Rattle.tb_node.specs.declared.Insertion.{Insertion}
use Rattle.tb_node.specs.SmallAmounts.{IsAmount}
use Rattle.tb_node.specs.PlainNodes.{Inserted, inserted_of}
use Rattle.tb_break.specs.Scan.{Scanned}
use Rattle.tb_insert.specs.declared.Class.{Class}
use Rattle.tb_insert.specs.declared.Entry.{Entry}
use Rattle.tb_insert.specs.declared.Account.{Account}
use Rattle.tb_insert.specs.Account.{Label, late, scaled_by, taken_by, penalty_of, is_split}
use Rattle.tb_insert.specs.AccountEntries.{blank_entry, entry_of, met_goal, met_scan, met_height, label_by, is_let_in, or_else, cut_there, split_before_end}
use Rattle.tb_insert.specs.Arrival.{label_here, goal_here, height_here, penalties_here, Arrived, ArriveFits, IsCutOff, LateFits, late_entry}

-- what is known once the label of the insertion is found
pub record FindsLabel (a : Account) (s t : Scanned) (e : Entry) (i : Inserted) (class : Class) (size goal height : ℤ) (sums : Sums) (l : Label) : Type 0 where
  pub goal_is : goal ≡ met_goal e.met a.goal class size
  pub height_is : height ≡ met_height e.met e.height size
  pub scan_is : t ≡ met_scan e.met s class
  pub sums_is : sums ≡ t.sums
  pub label_is : l ≡ label_by e.split class goal height sums i

module _ {a : Account} {s t : Scanned} {e : Entry} {i : Inserted} {class : Class} {size goal height : ℤ} {sums : Sums} {l : Label} (f : FindsLabel a s t e i class size goal height sums l) where
  pub label_found : l ≡ label_here a s e i class size
  label_found = f.label_is ∙ (λ j. label_by e.split class (f.goal_is j) (f.height_is j) ((f.sums_is ∙ ap (λ (x : Scanned). x.sums) f.scan_is) j) i)

  pub goal_found : (takes charge : ℤ) → takes ≡ taken_by l i → charge ≡ scaled_by class.factor takes → goal -ℤ charge ≡ goal_here a s e i class size
  goal_found takes charge t c = (λ j. f.goal_is j -ℤ (c ∙ ap (scaled_by class.factor) (t ∙ ap (λ x. taken_by x i) label_found)) j)

  pub height_found : (takes : ℤ) → takes ≡ taken_by l i → height +ℤ takes ≡ height_here a s e i class size
  height_found takes t = (λ j. f.height_is j +ℤ (t ∙ ap (λ x. taken_by x i) label_found) j)

  pub penalties_found : (more : ℤ) → more ≡ penalty_of l i → a.penalties +ℤ more ≡ penalties_here a s e i class size
  penalties_found more p = (λ j. a.penalties +ℤ (p ∙ ap (λ x. penalty_of x i) label_found) j)

-- ---- a late insertion

nothing_scaled : (factor : ℤ) → scaled_by factor (pos 0) ≡ pos 0
nothing_scaled factor = by_test (is_zero (factor -ℤ pos 1000))
  where
    by_test : (t : Bool) → (if t then pos 0 else int_div (pos 0) (pos 1000) *ℤ factor) ≡ pos 0
    by_test true = refl
    by_test false = omega (arith, ints)

none_else : {X : Type 0} (o : Option X) → or_else o None ≡ o
none_else None = refl
none_else (Some x) = refl

-- if one of its class was split, an insertion takes nothing
module _ (a b : Account) (s : Scanned) (e : Entry) (i : Inserted) (index : ℕ) (class : Class) (size : ℤ) (met : e.met ≡ true) (split : e.split ≡ true) where
  late_is : label_here a s e i class size ≡ late
  late_is = ap (λ t. label_by t class (met_goal e.met a.goal class size) (met_height e.met e.height size) (met_scan e.met s class).sums i) split

  pub late_penalties : penalties_here a s e i class size ≡ a.penalties +ℤ i.floating
  late_penalties = ap (λ l. a.penalties +ℤ penalty_of l i) late_is

  pub late_arrives : b.goal ≡ a.goal → b.penalties ≡ a.penalties +ℤ i.floating → Arrived a b s s e (late_entry a e) i index class size
  late_arrives goal penalties = record {
    goal = goal ∙ sym goal_is;
    penalties = penalties ∙ sym late_penalties;
    scan = sym (ap (λ m. met_scan m s class) met);
    met = met;
    split = split ∙ sym (ap (λ t. t || is_split (label_here a s e i class size)) split);
    height = sym height_is;
    last = sym (ap (λ l. if is_let_in l then Some index else e.last) late_is);
    marked = refl;
    cut = sym (ap (λ l. or_else e.cut (cut_there index (split_before_end l i))) late_is ∙ none_else e.cut);
  }
    where
      whole : (x : ℤ) → x -ℤ pos 0 ≡ x
      whole x = omega (arith, ints)

      same : (x : ℤ) → x +ℤ pos 0 ≡ x
      same x = omega (arith, ints)

      goal_is : goal_here a s e i class size ≡ a.goal
      goal_is = (λ j. met_goal (met j) a.goal class size -ℤ scaled_by class.factor (taken_by (late_is j) i)) ∙ ap (λ x. a.goal -ℤ x) (nothing_scaled class.factor) ∙ whole a.goal

      height_is : height_here a s e i class size ≡ e.height
      height_is = (λ j. met_height (met j) e.height size +ℤ taken_by (late_is j) i) ∙ same e.height

-- the penalties fit after a late insertion that would fit as any other
pub late_fits : (store : Lists Node) (a : Account) (s : Scanned) (i : Insertion) (class : Class) (size : ℤ) → IsCutOff a i.class → ArriveFits store a s i class size → LateFits a i
late_fits store a s i class size cut fits =
    subst IsAmount (late_penalties a a s (entry_of a i.class) (inserted_of (list_at store) i) 0 class size (ap (λ (x : Entry). x.met) here ∙ cut.met) (ap (λ (x : Entry). x.split) here ∙ cut.split)) fits.penalties
  where
    here : entry_of a i.class ≡ slice_index_or a.entries i.class blank_entry
    here = ap (λ b. if b then slice_index_or a.entries i.class blank_entry else blank_entry) cut.here
