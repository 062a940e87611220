-- The item at a break, and the name of the last box or rule before it.
use Rattle.std.proofs.Common.{◌≡◌, refl, sym, ◌∙◌, ap, subst, ℕ, zero, suc, ◌+◌, ◌<◌, List, [], ◌∷◌, ◌++◌, length, codes, drop, drop-cons, get_or, append_assoc, Some, None, arith}
use Rattle.std.specs.Cmp.{first_so, second_so}
use Rattle.std.specs.Prelude.{nat_lt}
use Rattle.std.specs.List.{list_all}
use Rattle.std.proofs.lemmas.Bool.Decides.{nat_tests}
use Rattle.tb_galley.specs.declared.Item.{Item}
use Rattle.tb_galley.specs.declared.ItemKind.{ItemKind}
use Rattle.tb_galley.specs.declared.ItemKind.TheVariants as items
use Rattle.tb_best.specs.BestLines.{BrokenColumn, item_line, name_or, name_before, page_at, break_line, break_lines}
use Rattle.tb_top.specs.BestText.{name_of, break_text, AreNumbersOf}

-- an item that is no box or rule leaves the name
pub no-name : (name : List ℕ) (k : ItemKind) → name_of k ≡ None → name_or name k ≡ name
no-name name (items.Hbox own h d) is = cc
no-name name (items.Rule own h d) is = cc
no-name name k is = refl

-- the name of a box or rule
pub own-name : (name own : List ℕ) (k : ItemKind) → name_of k ≡ Some own → name_or name k ≡ own
own-name name own (items.Hbox n h d) is = cc
own-name name own (items.Rule n h d) is = cc
own-name name own k is = cc

-- one item further
pub name-next : (name : List ℕ) (i : ℕ) (ns : List Item) (d : Item) → i < length ns → name_before name (suc i) ns ≡ name_or (name_before name i ns) (get_or ns i d).kind
name-next name i [] d within = absurd (omega (arith, within))
name-next name zero (m ∷ ns) d within = refl
name-next name (suc i) (m ∷ ns) d within = name-next (name_or name m.kind) i ns d (omega (arith, within))

-- the line of an item
pub line-of : (k : ℕ) (ns : List Item) (d : Item) → k < length ns → item_line k ns ≡ (get_or ns k d).line
line-of k [] d within = absurd (omega (arith, within))
line-of zero (m ∷ ns) d within = refl
line-of (suc k) (m ∷ ns) d within = line-of k ns d (omega (arith, within))

-- ---- the lines of the breaks

module _ (ns : List Item) (breaks : List ℕ) (j : ℕ) (within : j < length breaks) where
  -- the break that comes next
  abbrev next : ℕ
  next = get_or breaks j 0

  next-is : drop j breaks ≡ next ∷ drop (j + 1) breaks
  next-is = let one : suc j ≡ j + 1 = omega arith in drop-cons breaks j 0 within ∙ ap (λ m. next ∷ drop m breaks) one

  numbers-here : AreNumbersOf ns (drop j breaks) → AreNumbersOf ns (next ∷ drop (j + 1) breaks)
  numbers-here h = subst (AreNumbersOf ns) next-is h

  pub next-within : AreNumbersOf ns (drop j breaks) → next < length ns
  next-within h = let t = first_so (nat_lt next (length ns)) (list_all (λ k. nat_lt k (length ns)) (drop (j + 1) breaks)) (numbers-here h) in grind (arith, nat_tests, t)

  pub numbers-next : AreNumbersOf ns (drop j breaks) → AreNumbersOf ns (drop (j + 1) breaks)
  numbers-next h = second_so (nat_lt next (length ns)) (list_all (λ k. nat_lt k (length ns)) (drop (j + 1) breaks)) (numbers-here h)

-- one break further
pub lines-next : (ns : List Item) (columns : List BrokenColumn) (breaks : List ℕ) (j : ℕ) (d : Item) (now more whole : List ℕ) → j < length breaks → AreNumbersOf ns (drop j breaks)
    → more ≡ now ++ break_text (get_or ns (get_or breaks j 0) d).line (page_at columns (get_or ns (get_or breaks j 0) d).line) (name_before (codes "-") (get_or breaks j 0) ns)
    → now ++ break_lines ns columns (drop j breaks) ≡ whole → more ++ break_lines ns columns (drop (j + 1) breaks) ≡ whole
lines-next ns columns breaks j d now more whole within numbers put h =
    let b = get_or breaks j 0 in
    let left = break_lines ns columns (drop (j + 1) breaks) in
    let at = line-of b ns d (next-within ns breaks j within numbers) in
    ap (λ l. l ++ left) (put ∙ ap (λ x. now ++ break_text x (page_at columns x) (name_before (codes "-") b ns)) (sym at))
    ∙ append_assoc now (break_line ns columns b) left
    ∙ ap (λ ks. now ++ break_lines ns columns ks) (sym (next-is ns breaks j within))
    ∙ h
