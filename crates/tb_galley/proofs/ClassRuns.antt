-- The class lines of the canonical text take the reader to the classes of the galley.
use Rattle.std.proofs.Common.{◌≡◌, ℕ, ◌+◌, Bool, true, false, ◌&&◌, ◌==◌, nat_lt, List, [], ◌∷◌, ◌++◌, length, map, Some, None, if◌then◌else◌, refl, ap, sym, ◌∙◌, arith, append_assoc}
use Rattle.std.specs.Cmp.{first_so, second_so}
use Rattle.std.proofs.lemmas.Bool.{and_from}
use Rattle.std.specs.List.{list_all}
use Rattle.std.proofs.lemmas.Bool.Decides.{nat_tests}
use Rattle.std.proofs.lemmas.List.Folds.{list_all-append}
use Rattle.tb_param.specs.declared.params.Params.{Params}
use Rattle.tb_galley.specs.declared.contents.Content.TheVariants as contents
use Rattle.tb_galley.specs.declared.classes.ClassLine.{ClassLine}
use Rattle.tb_galley.specs.Words.{class_line, word_here, among_sets}
use Rattle.tb_galley.specs.Grammar.{with_class}
use Rattle.tb_galley.specs.GalleyReader.{State}
use Rattle.tb_galley.specs.Valid.{is_class, may_stand, do_all_stand, do_classes_rise}
use Rattle.tb_galley.specs.ReadBack.{unnumbered_class}
use Rattle.tb_galley.proofs.SoundLines.{drafted}
use Rattle.tb_galley.proofs.FieldTexts.{tail_text, state}
use Rattle.tb_galley.proofs.SlotTexts.{spelling}
use Rattle.tb_galley.proofs.ClassTexts.{numbers_of, known_by, line_fields, class_back}
use Rattle.tb_galley.proofs.PrintRuns.{Runs, no_lines, then_lines, to_state, word_runs}
use Rattle.tb_galley.proofs.WithClass.{rise-rest}

-- the classes with the numbers of their lines in the canonical text
abbrev pub numbered_classes : ℕ → List ClassLine → List ClassLine
numbered_classes n [] = []
numbered_classes n (c ∷ cs) = record c { line = n } ∷ numbered_classes (n + 1) cs

abbrev pub class_texts : List ClassLine → List (List ℕ)
class_texts cs = map (λ (c : ClassLine). spelling class_line ++ tail_text (line_fields c)) cs

pub same_numbers : (n : ℕ) (cs : List ClassLine) → numbers_of (numbered_classes n cs) ≡ numbers_of cs
same_numbers n [] = refl
same_numbers n (c ∷ cs) = ap (λ ks. c.number ∷ ks) (same_numbers (n + 1) cs)

pub same_classes : (n : ℕ) (cs : List ClassLine) → map unnumbered_class (numbered_classes n cs) ≡ map unnumbered_class cs
same_classes n [] = refl
same_classes n (c ∷ cs) = ap (λ ds. unnumbered_class c ∷ ds) (same_classes (n + 1) cs)

pub still_classes : (n : ℕ) (cs : List ClassLine) → list_all is_class cs ≡ true → list_all is_class (numbered_classes n cs) ≡ true
still_classes n [] h = refl
still_classes n (c ∷ cs) h =
    and_from (is_class c) (list_all is_class (numbered_classes (n + 1) cs)) (first_so (is_class c) (list_all is_class cs) h)
    (still_classes (n + 1) cs (second_so (is_class c) (list_all is_class cs) h))

-- all numbers are below this one
abbrev are_under : ℕ → List ClassLine → Bool
are_under n cs = list_all (λ (d : ClassLine). nat_lt d.number n) cs

-- all those before have smaller numbers than the first
abbrev are_over : List ClassLine → List ClassLine → Bool
are_over before [] = true
are_over before (c ∷ cs) = are_under c.number before

-- a class of a greater number than all others goes to the end
with-last : (c : ClassLine) (cs : List ClassLine) → are_under c.number cs ≡ true → with_class c cs ≡ cs ++ c ∷ []
with-last c [] h = refl
with-last c (d ∷ ds) h =
    let below : nat_lt d.number c.number ≡ true = first_so (nat_lt d.number c.number) (are_under c.number ds) h in
    ap (λ t. if t then c ∷ ds else (if nat_lt c.number d.number then c ∷ d ∷ ds else d ∷ with_class c ds)) (unlike c.number d.number below)
    ∙ ap (λ t. if t then c ∷ d ∷ ds else d ∷ with_class c ds) (not_less c.number d.number below)
    ∙ ap (λ es. d ∷ es) (with-last c ds (second_so (nat_lt d.number c.number) (are_under c.number ds) h))
  where
    unlike : (a b : ℕ) → nat_lt b a ≡ true → (a == b) ≡ false
    unlike a b h = grind (arith, nat_tests)

    not_less : (a b : ℕ) → nat_lt b a ≡ true → nat_lt a b ≡ false
    not_less a b h = grind (arith, nat_tests)

under-more : (m n : ℕ) (cs : List ClassLine) → nat_lt m n ≡ true → are_under m cs ≡ true → are_under n cs ≡ true
under-more m n [] h k = refl
under-more m n (c ∷ cs) h k =
    and_from (nat_lt c.number n) (are_under n cs) (later c.number m n (first_so (nat_lt c.number m) (are_under m cs) k) h) (under-more m n cs h (second_so (nat_lt c.number m) (are_under m cs) k))
  where
    later : (a m n : ℕ) → nat_lt a m ≡ true → nat_lt m n ≡ true → nat_lt a n ≡ true
    later a m n h k = grind (arith, nat_tests)

over-next : (before : List ClassLine) (c : ClassLine) (cs : List ClassLine) (n : ℕ) → do_classes_rise (c ∷ cs) ≡ true → are_under c.number before ≡ true → are_over (before ++ record c { line = n } ∷ []) cs ≡ true
over-next before c [] n rise under = refl
over-next before c (d ∷ ds) n rise under =
    let less : nat_lt c.number d.number ≡ true = first_so (nat_lt c.number d.number) (do_classes_rise (d ∷ ds)) rise in
    list_all-append (λ (e : ClassLine). nat_lt e.number d.number) before (record c { line = n } ∷ [])
    ∙ and_from (are_under d.number before) (nat_lt c.number d.number && true) (under-more c.number d.number before less under) (and_from (nat_lt c.number d.number) true less refl)

abbrev class_state : ℕ → Params → ℕ → List ClassLine → State
class_state n ps v cs = state n among_sets 0 (drafted ps v cs [] None 0)

here_in : (v : ℕ) (ks : List ℕ) → (v == 1) ≡ false → word_here (record { version = v; classes = ks }) (Some class_line) ≡ Some class_line
here_in v ks later = ap (λ t. if t then None else Some class_line) later

class_run : (ps : Params) (v n : ℕ) (before : List ClassLine) (c : ClassLine) → (v == 1) ≡ false → is_class c ≡ true → may_stand v c.below ≡ true → are_under c.number before ≡ true
    → Runs (class_state n ps v before) ((spelling class_line ++ tail_text (line_fields c)) ∷ []) (class_state (n + 1) ps v (before ++ record c { line = n + 1 } ∷ []))
class_run ps v n before c later good may under =
    to_state (class_state n ps v before) (class_state (n + 1) ps v (with_class (record c { line = n + 1 }) before)) (class_state (n + 1) ps v (before ++ record c { line = n + 1 } ∷ [])) ((spelling class_line ++ tail_text (line_fields c)) ∷ [])
    (ap (λ cs. class_state (n + 1) ps v cs) (with-last (record c { line = n + 1 }) before under))
    (word_runs n among_sets 0 (drafted ps v before [] None 0) class_line (line_fields c) (λ m. contents.Class (record c { line = m })) (here_in v (numbers_of before) later) (class_back (known_by v before) c good may) refl refl)

no_more : (cs : List ClassLine) → cs ++ [] ≡ cs
no_more [] = refl
no_more (c ∷ cs) = ap (λ ds. c ∷ ds) (no_more cs)

classes_from : (ps : Params) (v n : ℕ) (before cs : List ClassLine) → (v == 1) ≡ false → list_all is_class cs ≡ true → do_all_stand v cs ≡ true → do_classes_rise cs ≡ true → are_over before cs ≡ true
    → Runs (class_state n ps v before) (class_texts cs) (class_state (n + length cs) ps v (before ++ numbered_classes (n + 1) cs))
classes_from ps v n before [] later good may rise over =
    to_state (class_state n ps v before) (class_state n ps v before) (class_state (n + 0) ps v (before ++ [])) []
    (λ i. class_state (same i) ps v (sym (no_more before) i))
    (no_lines (class_state n ps v before))
  where
    same : n ≡ n + 0
    same = omega arith
classes_from ps v n before (c ∷ cs) later good may rise over =
    let first : ClassLine = record c { line = n + 1 } in
    then_lines (class_state n ps v before) (class_state (n + 1) ps v (before ++ first ∷ [])) (class_state (n + length (c ∷ cs)) ps v (before ++ first ∷ numbered_classes (n + 1 + 1) cs))
    ((spelling class_line ++ tail_text (line_fields c)) ∷ []) (class_texts cs)
    (class_run ps v n before c later (first_so (is_class c) (list_all is_class cs) good) (first_so (may_stand v c.below) (do_all_stand v cs) may) over)
    (to_state (class_state (n + 1) ps v (before ++ first ∷ [])) (class_state (n + 1 + length cs) ps v ((before ++ first ∷ []) ++ numbered_classes (n + 1 + 1) cs))
    (class_state (n + length (c ∷ cs)) ps v (before ++ first ∷ numbered_classes (n + 1 + 1) cs)) (class_texts cs)
    (λ i. class_state (counted i) ps v (append_assoc before (first ∷ []) (numbered_classes (n + 1 + 1) cs) i))
    (classes_from ps v (n + 1) (before ++ first ∷ []) cs later (second_so (is_class c) (list_all is_class cs) good) (second_so (may_stand v c.below) (do_all_stand v cs) may) (rise-rest c cs rise) (over-next before c cs (n + 1) rise over)))
  where
    counted : n + 1 + length cs ≡ n + length (c ∷ cs)
    counted = omega arith

-- version 1 has no classes
pub classes_run : (ps : Params) (v n : ℕ) (cs : List ClassLine) → ((v == 1) ≡ true → cs ≡ []) → list_all is_class cs ≡ true → do_all_stand v cs ≡ true → do_classes_rise cs ≡ true
    → Runs (class_state n ps v []) (class_texts cs) (class_state (n + length cs) ps v (numbered_classes (n + 1) cs))
classes_run ps v n [] none good may rise =
    to_state (class_state n ps v []) (class_state n ps v []) (class_state (n + 0) ps v []) [] (λ i. class_state (same i) ps v []) (no_lines (class_state n ps v []))
  where
    same : n ≡ n + 0
    same = omega arith
classes_run ps v n (c ∷ cs) none good may rise = classes_from ps v n [] (c ∷ cs) (later (v == 1) none) good may rise refl
  where
    later : (t : Bool) → (t ≡ true → (c ∷ cs) ≡ []) → t ≡ false
    later true f = let e : (c ∷ cs) ≡ [] = f refl in cc
    later false f = refl
