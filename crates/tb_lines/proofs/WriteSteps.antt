-- Steps of the loops that write lines.
use Rattle.std.proofs.Common.{◌≡◌, refl, sym, ◌∙◌, ap, subst, ℕ, zero, suc, ◌<◌, ◌≤◌, ◌+◌, ◌-◌, Bool, true, false, List, [], ◌∷◌, ◌++◌, length, take, drop, get_or, Option, None, Some, arith, append_assoc, append-nil}
use Rattle.std.specs.Prelude.{slice_range, reverse, if◌then◌else◌}
use Rattle.std.specs.List.{AllByRecursion}
use Rattle.std.proofs.lemmas.List.{at_drop_more, at_drop_all, drop-take, reverse-reverse}
use mathlib.Core.List.{reverse_aux}
use Rattle.tb_lines.specs.declared.text.Item.{Item}
use Rattle.tb_lines.specs.declared.text.Item.TheVariants.{Word as word, Space as space, Penalty as penalty}
use Rattle.tb_lines.specs.declared.text.LineParams.{LineParams}
use Rattle.tb_lines.specs.declared.text.Paragraph.{Paragraph}
use Rattle.tb_lines.specs.declared.entries.Entry.{Entry}
use Rattle.tb_lines.specs.declared.entries.Entry.TheVariants.{Item as item, Fill as fill}
use Rattle.tb_lines.specs.Solution.{SolutionView}
use Rattle.tb_lines.specs.Entries.{list_of, is_legal, is_word, from_word, line_between}
use Rattle.tb_lines.specs.LeastSolution.{first_of, IsFalling, IsLeastOf}
use Rattle.tb_lines.specs.LineText.{Size, no_size, entry_size, joined_size, size_of, line_sizes, AreWithin, one_line, lines_text, depth_after, paragraph_text, paragraph_depth, paragraphs_text, AreLeast}
use Rattle.tb_lines.proofs.ActiveBreaks.{legal_inside}

-- ---- the size of a line

same_size : (a b : Size) → a.height ≡ b.height → a.depth ≡ b.depth → a ≡ b
same_size a b h d = ap (λ x. let s : Size = record { height = x; depth = a.depth } in s) h ∙ ap (λ x. let s : Size = record { height = b.height; depth = x } in s) d

none_joined : (s : Size) → joined_size no_size s ≡ s
none_joined s = same_size (joined_size no_size s) s (omega arith) (omega arith)

joined_none : (s : Size) → joined_size s no_size ≡ s
joined_none s = same_size (joined_size s no_size) s (omega arith) (omega arith)

joined_assoc : (a b c : Size) → joined_size (joined_size a b) c ≡ joined_size a (joined_size b c)
joined_assoc a b c = same_size (joined_size (joined_size a b) c) (joined_size a (joined_size b c)) (omega arith) (omega arith)

-- the size so far, and that of what is left
pub size_start : (es : List Entry) → joined_size no_size (size_of es) ≡ size_of es
size_start es = none_joined (size_of es)

pub size_more : (es : List Entry) (k : ℕ) (d : Entry) (s new : Size) → k < length es → joined_size s (size_of (drop k es)) ≡ size_of es → new ≡ joined_size s (entry_size (get_or es k d))
    → joined_size new (size_of (drop (k + 1) es)) ≡ size_of es
size_more es k d s new lt h e =
    ap (λ x. joined_size x (size_of (drop (k + 1) es))) e
    ∙ joined_assoc s (entry_size (get_or es k d)) (size_of (drop (k + 1) es))
    ∙ ap (joined_size s) (sym (at_drop_more size_of es k d lt)) ∙ h

pub size_done : (es : List Entry) (k : ℕ) (s : Size) → length es ≤ k → joined_size s (size_of (drop k es)) ≡ size_of es → s ≡ size_of es
size_done es k s le h = sym (joined_none s) ∙ ap (joined_size s) (sym (at_drop_all size_of es k le)) ∙ h

-- what is before the first word has no size
no_word_size : (e : Entry) → is_word e ≡ false → entry_size e ≡ no_size
no_word_size (item (word w h d)) e = absurd (cc)
no_word_size (item (space w st sh)) e = refl
no_word_size (item (penalty p)) e = refl
no_word_size fill e = refl

size_from_word : (es : List Entry) → size_of (from_word es) ≡ size_of es
size_from_word [] = refl
size_from_word (e ∷ es) = tested (size_from_word es) (is_word e) refl
  where
    tested : size_of (from_word es) ≡ size_of es → (t : Bool) → is_word e ≡ t → size_of (if t then e ∷ es else from_word es) ≡ joined_size (entry_size e) (size_of es)
    tested rest true h = refl
    tested rest false h = rest ∙ sym (none_joined (size_of es)) ∙ ap (λ s. joined_size s (size_of es)) (sym (no_word_size e h))

-- the place at which what comes after a break begins
abbrev pub place_after : Option ℕ → ℕ
place_after None = 0
place_after (Some i) = i + 1

part_from : (es : List Entry) (a j : ℕ) → a ≤ j → take (j - a) (drop a es) ≡ drop a (take j es)
part_from es a j le = sym (drop-take a (j - a) es) ∙ ap (λ n. drop a (take n es)) (let e : a + (j - a) ≡ j = omega arith in e)

pub line_size : (es : List Entry) (q : Option ℕ) (start j : ℕ) → start ≡ place_after q → start ≤ j → size_of (slice_range es start j) ≡ size_of (line_between es q j)
line_size es None start j e le = ap size_of (part_from es start j le) ∙ ap (λ n. size_of (drop n (take j es))) e
line_size es (Some i) start j e le =
    ap size_of (part_from es start j le) ∙ ap (λ n. size_of (drop n (take j es))) e ∙ sym (size_from_word (drop (i + 1) (take j es)))

-- ---- the sizes of a paragraph's lines

-- the sizes so far, and those of the lines that are left
pub record SizesTo (es : List Entry) (breaks : List ℕ) (k start : ℕ) (sizes : List Size) : Type 0 where
  pub before : Option ℕ
  pub begins : start ≡ place_after before
  pub whole : sizes ++ line_sizes es before (drop k breaks) ≡ line_sizes es None breaks
  pub within : AreWithin start (length es) (drop k breaks)

pub sizes_start : (es : List Entry) (breaks : List ℕ) (sizes : List Size) → sizes ≡ [] → AreWithin 0 (length es) breaks → SizesTo es breaks 0 0 sizes
sizes_start es breaks sizes e w = record { before = None; begins = refl; whole = ap (λ xs. xs ++ line_sizes es None breaks) e; within = w }

-- the next break is within the list
pub sizes_within : (es : List Entry) (breaks : List ℕ) (k start d : ℕ) (sizes : List Size) → k < length breaks → SizesTo es breaks k start sizes
    → (start ≤ get_or breaks k d) × (get_or breaks k d < length es) × AreWithin (get_or breaks k d + 1) (length es) (drop (k + 1) breaks)
sizes_within es breaks k start d sizes lt s = next breaks k start lt s.within
  where
    next : (js : List ℕ) (k start : ℕ) → k < length js → AreWithin start (length es) (drop k js) → (start ≤ get_or js k d) × (get_or js k d < length es) × AreWithin (get_or js k d + 1) (length es) (drop (k + 1) js)
    next js k start lt w = subst (λ xs. AreWithin start (length es) xs) (at_drop_more (λ xs. xs) js k d lt) w

pub sizes_more : (es : List Entry) (breaks : List ℕ) (k start d place : ℕ) (sizes new : List Size) (size : Size) → k < length breaks → SizesTo es breaks k start sizes
    → place ≡ get_or breaks k d → size ≡ size_of (slice_range es start place) → new ≡ sizes ++ size ∷ [] → SizesTo es breaks (k + 1) (place + 1) new
sizes_more es breaks k start d place sizes new size lt s e z n =
    let w = sizes_within es breaks k start d sizes lt s in
    let le : start ≤ place = subst (λ j. start ≤ j) (sym e) w.0 in
    record {
      before = Some place;
      begins = refl;
      whole = ap (λ xs. xs ++ line_sizes es (Some place) (drop (k + 1) breaks)) (n ∙ ap (λ x. sizes ++ x ∷ []) (z ∙ line_size es s.before start place s.begins le))
          ∙ append_assoc sizes (size_of (line_between es s.before place) ∷ []) (line_sizes es (Some place) (drop (k + 1) breaks))
          ∙ ap (λ j. sizes ++ size_of (line_between es s.before j) ∷ line_sizes es (Some j) (drop (k + 1) breaks)) e
          ∙ ap (λ xs. sizes ++ xs) (sym (at_drop_more (line_sizes es s.before) breaks k d lt)) ∙ s.whole;
      within = subst (λ j. AreWithin (j + 1) (length es) (drop (k + 1) breaks)) (sym e) w.2;
    }

nothing_more : (xs : List Size) → xs ++ [] ≡ xs
nothing_more [] = refl
nothing_more (x ∷ xs) = ap (λ ys. x ∷ ys) (nothing_more xs)

pub sizes_done : (es : List Entry) (breaks : List ℕ) (k start : ℕ) (sizes : List Size) → length breaks ≤ k → SizesTo es breaks k start sizes → sizes ≡ line_sizes es None breaks
sizes_done es breaks k start sizes le s =
    sym (nothing_more sizes) ∙ ap (λ xs. sizes ++ xs) (sym (at_drop_all (line_sizes es s.before) breaks k le)) ∙ s.whole

-- falling breaks, read the other way round, rise
rising_onto : (es : List Entry) (fs rs : List ℕ) → IsFalling fs → AllByRecursion (λ j. is_legal es j ≡ true) fs → AreWithin (place_after (first_of fs)) (length es) rs → AreWithin 0 (length es) (reverse_aux fs rs)
rising_onto es [] rs f l w = w
rising_onto es (j ∷ []) rs f l w = (omega arith, legal_inside es j l.0, w)
rising_onto es (j ∷ i ∷ is) rs f l w = rising_onto es (i ∷ is) (j ∷ rs) f.1 l.1 (let lt : i < j = f.0 in omega arith, legal_inside es j l.0, w)

pub least_within : (ps : LineParams) (items : List Item) (s : SolutionView) → IsLeastOf ps items s → AreWithin 0 (length (list_of items)) s.breaks
least_within ps items s h =
    subst (λ js. AreWithin 0 (length (list_of items)) js) (reverse-reverse s.breaks)
    (rising_onto (list_of items) (reverse s.breaks) [] h.solution.falling h.solution.legal tt)

-- ---- the text of a paragraph's lines

-- what is written so far, and what is left
pub record LinesTo (ps : LineParams) (name : List ℕ) (sizes : List Size) (above : Option ℕ) (before : List ℕ) (k : ℕ) (below : Option ℕ) (out : List ℕ) : Type 0 where
  pub text : out ++ lines_text ps name (length sizes) (k + 1) below (drop k sizes) ≡ before ++ lines_text ps name (length sizes) 1 above sizes
  pub depth : depth_after below (drop k sizes) ≡ depth_after above sizes

pub lines_start : (ps : LineParams) (name : List ℕ) (sizes : List Size) (above : Option ℕ) (before : List ℕ) → LinesTo ps name sizes above before 0 above before
lines_start ps name sizes above before = record { text = refl; depth = refl }

pub lines_more : (ps : LineParams) (name : List ℕ) (sizes : List Size) (above : Option ℕ) (before : List ℕ) (k : ℕ) (d s : Size) (below : Option ℕ) (out new : List ℕ) → k < length sizes → s ≡ get_or sizes k d
    → LinesTo ps name sizes above before k below out → new ≡ out ++ one_line ps name (length sizes) (k + 1) below s → LinesTo ps name sizes above before (k + 1) (Some s.depth) new
lines_more ps name sizes above before k d s below out new lt e h n = record {
  text = ap (λ xs. xs ++ lines_text ps name (length sizes) (k + 1 + 1) (Some s.depth) (drop (k + 1) sizes)) n
      ∙ append_assoc out (one_line ps name (length sizes) (k + 1) below s) (lines_text ps name (length sizes) (k + 1 + 1) (Some s.depth) (drop (k + 1) sizes))
      ∙ ap (λ x. out ++ lines_text ps name (length sizes) (k + 1) below (x ∷ drop (k + 1) sizes)) e
      ∙ ap (λ xs. out ++ xs) (sym (at_drop_more (lines_text ps name (length sizes) (k + 1) below) sizes k d lt)) ∙ h.text;
  depth = ap (λ x. depth_after below (x ∷ drop (k + 1) sizes)) e ∙ sym (at_drop_more (depth_after below) sizes k d lt) ∙ h.depth;
}

pub lines_done : (ps : LineParams) (name : List ℕ) (sizes : List Size) (above : Option ℕ) (before : List ℕ) (k : ℕ) (below : Option ℕ) (out : List ℕ) → length sizes ≤ k
    → LinesTo ps name sizes above before k below out → (out ≡ before ++ lines_text ps name (length sizes) 1 above sizes) × (below ≡ depth_after above sizes)
lines_done ps name sizes above before k below out le h = (
  sym (append-nil out) ∙ ap (λ xs. out ++ xs) (sym (at_drop_all (lines_text ps name (length sizes) (k + 1) below) sizes k le)) ∙ h.text,
  sym (at_drop_all (depth_after below) sizes k le) ∙ h.depth,
)

-- ---- paragraphs

least_at : (ps : LineParams) (pars : List Paragraph) (ss : List SolutionView) (n : ℕ) (d : Paragraph) (e : SolutionView) → n < length pars → AreLeast ps (drop n pars) (drop n ss)
    → (n < length ss) × IsLeastOf ps (get_or pars n d).items (get_or ss n e) × AreLeast ps (drop (suc n) pars) (drop (suc n) ss)
least_at ps [] ss n d e lt h = absurd (omega arith)
least_at ps (p ∷ pars) [] zero d e lt h = absurd h
least_at ps (p ∷ pars) (s ∷ ss) zero d e lt h = (omega arith, h.0, h.1)
least_at ps (p ∷ pars) [] (suc n) d e lt h = absurd (none_left pars n (omega arith) h)
  where
    none_left : (pars : List Paragraph) (n : ℕ) → n < length pars → AreLeast ps (drop n pars) [] → ⊥
    none_left [] n lt h = omega arith
    none_left (p ∷ pars) zero lt h = h
    none_left (p ∷ pars) (suc n) lt h = none_left pars n (omega arith) h
least_at ps (p ∷ pars) (s ∷ ss) (suc n) d e lt h =
    let r = least_at ps pars ss n d e (omega arith) h in
    (let l : n < length ss = r.0 in omega arith, r.1, r.2)

-- the next paragraph has its least solution
pub least_next : (ps : LineParams) (pars : List Paragraph) (ss : List SolutionView) (n : ℕ) (d : Paragraph) (e : SolutionView) → n < length pars → AreLeast ps (drop n pars) (drop n ss)
    → (n < length ss) × IsLeastOf ps (get_or pars n d).items (get_or ss n e) × AreLeast ps (drop (n + 1) pars) (drop (n + 1) ss)
least_next ps pars ss n d e lt h =
    let r = least_at ps pars ss n d e lt h in
    (r.0, r.1, subst (λ k. AreLeast ps (drop k pars) (drop k ss)) (let one : suc n ≡ n + 1 = omega arith in one) r.2)

text_at : (ps : LineParams) (above : Option ℕ) (pars : List Paragraph) (ss : List SolutionView) (n : ℕ) (d : Paragraph) (e : SolutionView) → n < length pars → n < length ss
    → paragraphs_text ps above (drop n pars) (drop n ss) ≡ paragraph_text ps above (get_or pars n d) (get_or ss n e) ++ paragraphs_text ps (paragraph_depth above (get_or pars n d) (get_or ss n e)) (drop (suc n) pars) (drop (suc n) ss)
text_at ps above [] ss n d e lt lt' = absurd (omega arith)
text_at ps above (p ∷ pars) [] n d e lt lt' = absurd (omega arith)
text_at ps above (p ∷ pars) (s ∷ ss) zero d e lt lt' = refl
text_at ps above (p ∷ pars) (s ∷ ss) (suc n) d e lt lt' = text_at ps above pars ss n d e (omega arith) (omega arith)

-- what is written so far, and what is left
pub record ParagraphsTo (ps : LineParams) (pars : List Paragraph) (ss : List SolutionView) (before : List ℕ) (n : ℕ) (above : Option ℕ) (out : List ℕ) : Type 0 where
  pub text : out ++ paragraphs_text ps above (drop n pars) (drop n ss) ≡ before ++ paragraphs_text ps None pars ss
  pub least : AreLeast ps (drop n pars) (drop n ss)

pub paragraphs_more : (ps : LineParams) (pars : List Paragraph) (ss : List SolutionView) (before : List ℕ) (n : ℕ) (d p : Paragraph) (e s : SolutionView) (above below : Option ℕ) (out new : List ℕ) → n < length pars
    → p ≡ get_or pars n d → s ≡ get_or ss n e → ParagraphsTo ps pars ss before n above out → new ≡ out ++ paragraph_text ps above p s → below ≡ paragraph_depth above p s → ParagraphsTo ps pars ss before (n + 1) below new
paragraphs_more ps pars ss before n d p e s above below out new lt is_p is_s h w b =
    let next = least_next ps pars ss n d e lt h.least in
    let one : suc n ≡ n + 1 = omega arith in
    let is_text : paragraph_text ps above p s ≡ paragraph_text ps above (get_or pars n d) (get_or ss n e) = ap (λ x. paragraph_text ps above x s) is_p ∙ ap (paragraph_text ps above (get_or pars n d)) is_s in
    let is_depth : below ≡ paragraph_depth above (get_or pars n d) (get_or ss n e) = b ∙ ap (λ x. paragraph_depth above x s) is_p ∙ ap (paragraph_depth above (get_or pars n d)) is_s in
    record {
      text = ap (λ xs. xs ++ paragraphs_text ps below (drop (n + 1) pars) (drop (n + 1) ss)) (w ∙ ap (λ xs. out ++ xs) is_text)
          ∙ ap (λ x. (out ++ paragraph_text ps above (get_or pars n d) (get_or ss n e)) ++ paragraphs_text ps x (drop (n + 1) pars) (drop (n + 1) ss)) is_depth
          ∙ append_assoc out (paragraph_text ps above (get_or pars n d) (get_or ss n e)) (paragraphs_text ps (paragraph_depth above (get_or pars n d) (get_or ss n e)) (drop (n + 1) pars) (drop (n + 1) ss))
          ∙ ap (λ k. out ++ (paragraph_text ps above (get_or pars n d) (get_or ss n e) ++ paragraphs_text ps (paragraph_depth above (get_or pars n d) (get_or ss n e)) (drop k pars) (drop k ss))) (sym one)
          ∙ ap (λ xs. out ++ xs) (sym (text_at ps above pars ss n d e lt next.0)) ∙ h.text;
      least = next.2;
    }

pub paragraphs_done : (ps : LineParams) (pars : List Paragraph) (ss : List SolutionView) (before : List ℕ) (n : ℕ) (above : Option ℕ) (out : List ℕ) → length pars ≤ n
    → ParagraphsTo ps pars ss before n above out → out ≡ before ++ paragraphs_text ps None pars ss
paragraphs_done ps pars ss before n above out le h =
    sym (append-nil out) ∙ ap (λ xs. out ++ xs) (sym (at_drop_all (λ xs. paragraphs_text ps above xs (drop n ss)) pars n le)) ∙ h.text
