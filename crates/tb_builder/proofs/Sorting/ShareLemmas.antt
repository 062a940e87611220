-- What the account of a page says of an insertion is what its label gives.
use Rattle.std.proofs.Common.{◌≡◌, ◌⊎◌, inl, inr, refl, sym, subst, ◌∙◌, ap, ℕ, ◌+◌, ◌<◌, ◌≤◌, Bool, true, false, List, [], ◌∷◌, ◌++◌, length, take, drop, map, Option, Some, None, append_assoc, append-nil, length-append, arith}
use Rattle.std.specs.Prelude.{ℤ, pos, ◌+ℤ◌, ◌-ℤ◌, int_le, ◌==◌, ◌||◌, ◌&&◌, nat_lt, nat_le, if◌then◌else◌}
use Rattle.std.proofs.lemmas.Bool.{eq-eqb}
use Rattle.std.proofs.lemmas.Bool.Decides.{nat_tests}
use Rattle.std.proofs.lemmas.Grind.{common_steps}
use Rattle.tb_builder.proofs.LegalPlaces.WithoutLemmas.{from_append}
use Rattle.tb_insert.proofs.ArriveLemmas.{last-append, cut-append, or_else-none, or_else-assoc}
use Rattle.tb_break.specs.declared.Found.{Found}
use Rattle.tb_node.specs.declared.Sums.{Sums}
use Rattle.tb_node.specs.PlainNodes.{Leaf, leaf_shape, Inserted, PlainKind, plain, ins, act, PlainNode, node_shape, on_line}
use Rattle.tb_node.specs.Sums.{sums_of, list_shrink}
use Rattle.tb_break.specs.Split.{split_of}
use Rattle.tb_break.specs.PageTop.{pruned_leaves}
use Rattle.tb_scaled.specs.Scaled.{min_ℤ}
use Rattle.tb_insert.specs.Account.{ClassBox, class_box, insertions, goal_after, class_height, skip_shapes, met_classes, scaled_by, clamped, unscaled_room, label_where, Frozen, Label, whole, split, late, Labelled, label_of, labelled_with, labelled_from, labelled, has_split, is_split}
use Rattle.tb_insert.specs.AccountEntries.{is_let_in, split_before_end, last_from, last_let_in, or_else, cut_there, cut_of_one, cut_in}
use Rattle.tb_insert.proofs.AccountLemmas.{split-append}
use Rattle.tb_builder.specs.declared.Share.TheVariants.{All, Front, Nothing}
use Rattle.tb_builder.specs.FiredPages.{Boxed, content_of, given_by, given_to, gives, is_given, box_after, held_of, held_insertions, unless_empty}
use Rattle.tb_builder.specs.Firing.{share_of, share_up_to, share_told, share_given, share_gives, share_held, box_shared}

-- ---- the places of the insertions

abbrev AllBelow : ℕ → List Labelled → Type 0
AllBelow n [] = Unit {0}
AllBelow n (l ∷ ls) = (l.index < n) × AllBelow n ls

abbrev IsBelow : ℕ → Option ℕ → Type 0
IsBelow n None = Unit {0}
IsBelow n (Some j) = j < n

abbrev IsCutBelow : ℕ → Option (ℕ × ℕ) → Type 0
IsCutBelow n None = Unit {0}
IsCutBelow n (Some c) = c.0 < n

abbrev IsCutFrom : ℕ → Option (ℕ × ℕ) → Type 0
IsCutFrom n None = Unit {0}
IsCutFrom n (Some c) = n ≤ c.0

below-more : (n : ℕ) (ls : List Labelled) → AllBelow n ls → AllBelow (n + 1) ls
below-more n [] h = tt
below-more n (l ∷ ls) h = (omega (arith, h.0), below-more n ls h.1)

below-push : (n : ℕ) (ls : List Labelled) (l : Labelled) → AllBelow n ls → l.index < n → AllBelow n (ls ++ l ∷ [])
below-push n [] l h lt = (lt, tt)
below-push n (x ∷ xs) l h lt = (h.0, below-push n xs l h.1 lt)

below-with : (z : Frozen) (ls : List Labelled) (before : List PlainNode) (line : ℕ) (k : PlainKind) → AllBelow (length before) ls → AllBelow (length before + 1) (labelled_with z ls before line k)
below-with z ls before line (plain m) h = below-more (length before) ls h
below-with z ls before line (ins i) h = below-push (length before + 1) ls (record { index = length before; line = line; inserted = i; label = label_of z ls before i }) (below-more (length before) ls h) (omega arith)
below-with z ls before line (act a) h = below-more (length before) ls h

longer : (before : List PlainNode) (n : PlainNode) → length (before ++ n ∷ []) ≡ length before + 1
longer before n = length-append before (n ∷ [])

below-from : (z : Frozen) (ls : List Labelled) (before xs : List PlainNode) → AllBelow (length before) ls → AllBelow (length (before ++ xs)) (labelled_from z ls before xs)
below-from z ls before [] h = subst (λ b. AllBelow (length b) ls) (sym (append-nil before)) h
below-from z ls before (x ∷ xs) h =
    subst (λ b. AllBelow (length b) (labelled_from z ls before (x ∷ xs))) (append_assoc before (x ∷ []) xs)
    (below-from z (labelled_with z ls before x.line x.kind) (before ++ x ∷ []) xs (subst (λ n. AllBelow n (labelled_with z ls before x.line x.kind)) (sym (longer before x)) (below-with z ls before x.line x.kind h)))

below-labelled : (z : Frozen) (xs : List PlainNode) → AllBelow (length xs) (labelled z xs)
below-labelled z xs = below-from z [] [] xs tt

last-below : (n k : ℕ) (o : Option ℕ) (ls : List Labelled) → IsBelow n o → AllBelow n ls → IsBelow n (last_from o ls k)
last-below n k o [] b h = b
last-below n k o (l ∷ ls) b h = last-below n k (if (l.inserted.class == k) && is_let_in l.label then Some l.index else o) ls (by_test ((l.inserted.class == k) && is_let_in l.label)) h.1
  where
    by_test : (t : Bool) → IsBelow n (if t then Some l.index else o)
    by_test true = h.0
    by_test false = b

there-below : (n index : ℕ) (o : Option ℕ) → index < n → IsCutBelow n (cut_there index o)
there-below n index None lt = tt
there-below n index (Some p) lt = lt

one-below : (n k : ℕ) (l : Labelled) → l.index < n → IsCutBelow n (cut_of_one l k)
one-below n k l lt = by_test (l.inserted.class == k)
  where
    by_test : (t : Bool) → IsCutBelow n (if t then cut_there l.index (split_before_end l.label l.inserted) else None)
    by_test true = there-below n l.index (split_before_end l.label l.inserted) lt
    by_test false = tt

or_else-below : (n : ℕ) (a b : Option (ℕ × ℕ)) → IsCutBelow n a → IsCutBelow n b → IsCutBelow n (or_else a b)
or_else-below n None b p q = q
or_else-below n (Some c) b p q = p

cut-below : (n k : ℕ) (ls : List Labelled) → AllBelow n ls → IsCutBelow n (cut_in ls k)
cut-below n k [] h = tt
cut-below n k (l ∷ ls) h = or_else-below n (cut_of_one l k) (cut_in ls k) (one-below n k l h.0) (cut-below n k ls h.1)

-- ---- what comes later on the page

-- the later one: as before, or from this place on
abbrev LaterOne : ℕ → Option ℕ → Option ℕ → Type 0
LaterOne n o p = (p ≡ o) ⊎ ((j : ℕ) × (p ≡ Some j) × (n ≤ j))

-- the cut, if there was none before, is from this place on
abbrev LaterCut : ℕ → Option (ℕ × ℕ) → Option (ℕ × ℕ) → Type 0
LaterCut n a c = (o : Option (ℕ × ℕ)) × (c ≡ or_else a o) × IsCutFrom n o

module _ (z : Frozen) (k : ℕ) where
  later_fewer : (n : ℕ) (o p : Option ℕ) → LaterOne (n + 1) o p → LaterOne n o p
  later_fewer n o p (inl e) = inl e
  later_fewer n o p (inr h) = inr (h.0, h.1, omega (arith, h.2))

  last-with : (ls : List Labelled) (before : List PlainNode) (line : ℕ) (i : Inserted) (p : Option ℕ)
      → LaterOne (length before + 1) (last_let_in (labelled_with z ls before line (ins i)) k) p → LaterOne (length before) (last_let_in ls k) p
  last-with ls before line i p h = by_test ((i.class == k) && is_let_in (label_of z ls before i)) (subst (λ o. LaterOne (length before + 1) o p) (last-append None ls (record { index = length before; line = line; inserted = i; label = label_of z ls before i }) k) h)
    where
      by_test : (t : Bool) → LaterOne (length before + 1) (if t then Some (length before) else last_let_in ls k) p → LaterOne (length before) (last_let_in ls k) p
      by_test true (inl e) = inr (length before, e, omega arith)
      by_test true (inr h) = inr (h.0, h.1, omega (arith, h.2))
      by_test false h = later_fewer (length before) (last_let_in ls k) p h

  last-later : (ls : List Labelled) (before xs : List PlainNode) → LaterOne (length before) (last_let_in ls k) (last_let_in (labelled_from z ls before xs) k)
  last-later ls before [] = inl refl
  last-later ls before (x ∷ xs) = by_kind x.kind (λ l. subst (λ n. LaterOne n (last_let_in l k) (last_let_in (labelled_from z l (before ++ x ∷ []) xs) k)) (longer before x) (last-later l (before ++ x ∷ []) xs))
    where
      by_kind : (y : PlainKind) → ((l : List Labelled) → LaterOne (length before + 1) (last_let_in l k) (last_let_in (labelled_from z l (before ++ x ∷ []) xs) k))
          → LaterOne (length before) (last_let_in ls k) (last_let_in (labelled_from z (labelled_with z ls before x.line y) (before ++ x ∷ []) xs) k)
      by_kind (plain m) h = later_fewer (length before) (last_let_in ls k) (last_let_in (labelled_from z ls (before ++ x ∷ []) xs) k) (h ls)
      by_kind (ins i) h = last-with ls before x.line i (last_let_in (labelled_from z (labelled_with z ls before x.line (ins i)) (before ++ x ∷ []) xs) k) (h (labelled_with z ls before x.line (ins i)))
      by_kind (act a) h = later_fewer (length before) (last_let_in ls k) (last_let_in (labelled_from z ls (before ++ x ∷ []) xs) k) (h ls)

  cut_fewer : (n : ℕ) (a c : Option (ℕ × ℕ)) → LaterCut (n + 1) a c → LaterCut n a c
  cut_fewer n a c (None, e, h) = (None, e, tt)
  cut_fewer n a c (Some d, e, h) = (Some d, e, omega (arith, h))

  cut-with : (ls : List Labelled) (before : List PlainNode) (line : ℕ) (i : Inserted) (c : Option (ℕ × ℕ))
      → LaterCut (length before + 1) (cut_in (labelled_with z ls before line (ins i)) k) c → LaterCut (length before) (cut_in ls k) c
  cut-with ls before line i c (o, e, h) = (
    or_else (cut_of_one l k) o,
    e ∙ ap (λ a. or_else a o) (cut-append ls l k) ∙ sym (or_else-assoc (cut_in ls k) (cut_of_one l k) o),
    by_test (i.class == k),
  )
    where
      l : Labelled
      l = record { index = length before; line = line; inserted = i; label = label_of z ls before i }

      weaker : (o : Option (ℕ × ℕ)) → IsCutFrom (length before + 1) o → IsCutFrom (length before) o
      weaker None h = tt
      weaker (Some d) h = omega (arith, h)

      by_split : (s : Option ℕ) → IsCutFrom (length before) (or_else (cut_there (length before) s) o)
      by_split None = weaker o h
      by_split (Some p) = omega arith

      by_test : (t : Bool) → IsCutFrom (length before) (or_else (if t then cut_there (length before) (split_before_end (label_of z ls before i) i) else None) o)
      by_test true = by_split (split_before_end (label_of z ls before i) i)
      by_test false = weaker o h

  cut-later : (ls : List Labelled) (before xs : List PlainNode) → LaterCut (length before) (cut_in ls k) (cut_in (labelled_from z ls before xs) k)
  cut-later ls before [] = (None, sym (or_else-none (cut_in ls k)), tt)
  cut-later ls before (x ∷ xs) = by_kind x.kind (λ l. subst (λ n. LaterCut n (cut_in l k) (cut_in (labelled_from z l (before ++ x ∷ []) xs) k)) (longer before x) (cut-later l (before ++ x ∷ []) xs))
    where
      by_kind : (y : PlainKind) → ((l : List Labelled) → LaterCut (length before + 1) (cut_in l k) (cut_in (labelled_from z l (before ++ x ∷ []) xs) k))
          → LaterCut (length before) (cut_in ls k) (cut_in (labelled_from z (labelled_with z ls before x.line y) (before ++ x ∷ []) xs) k)
      by_kind (plain m) h = cut_fewer (length before) (cut_in ls k) (cut_in (labelled_from z ls (before ++ x ∷ []) xs) k) (h ls)
      by_kind (ins i) h = cut-with ls before x.line i (cut_in (labelled_from z (labelled_with z ls before x.line (ins i)) (before ++ x ∷ []) xs) k) (h (labelled_with z ls before x.line (ins i)))
      by_kind (act a) h = cut_fewer (length before) (cut_in ls k) (cut_in (labelled_from z ls (before ++ x ∷ []) xs) k) (h ls)

  -- after a split insertion, none of the class is let in
  late_label : (ls : List Labelled) (before : List PlainNode) (i : Inserted) → has_split ls i.class ≡ true → label_of z ls before i ≡ late
  late_label ls before i e = grind (arith, e)

  split-stays : (ls : List Labelled) (before : List PlainNode) (line : ℕ) (y : PlainKind) → has_split ls k ≡ true → has_split (labelled_with z ls before line y) k ≡ true
  split-stays ls before line (plain m) e = e
  split-stays ls before line (ins i) e =
      let l : Labelled = record { index = length before; line = line; inserted = i; label = label_of z ls before i } in
      split-append ls l k ∙ ap (λ b. b || ((i.class == k) && is_split l.label)) e
  split-stays ls before line (act a) e = e

  last-stays-one : (ls : List Labelled) (before : List PlainNode) (line : ℕ) (y : PlainKind) → has_split ls k ≡ true → last_let_in (labelled_with z ls before line y) k ≡ last_let_in ls k
  last-stays-one ls before line (plain m) e = refl
  last-stays-one ls before line (ins i) e = last-append None ls l k ∙ by_class (i.class == k) refl
    where
      l : Labelled
      l = record { index = length before; line = line; inserted = i; label = label_of z ls before i }

      by_class : (t : Bool) → (i.class == k) ≡ t → (if t && is_let_in (label_of z ls before i) then Some (length before) else last_let_in ls k) ≡ last_let_in ls k
      by_class true t =
          let same : i.class ≡ k = grind (arith, t, nat_tests) in
          ap (λ b. if is_let_in b then Some (length before) else last_let_in ls k) (late_label ls before i (ap (has_split ls) same ∙ e))
      by_class false t = refl
  last-stays-one ls before line (act a) e = refl

  last-stays : (ls : List Labelled) (before xs : List PlainNode) → has_split ls k ≡ true → last_let_in (labelled_from z ls before xs) k ≡ last_let_in ls k
  last-stays ls before [] e = refl
  last-stays ls before (x ∷ xs) e = last-stays (labelled_with z ls before x.line x.kind) (before ++ x ∷ []) xs (split-stays ls before x.line x.kind e) ∙ last-stays-one ls before x.line x.kind e

  -- if none is split, none is cut
  cut-none : (ls : List Labelled) → has_split ls k ≡ false → cut_in ls k ≡ None
  cut-none [] e = refl
  cut-none (l ∷ ls) e = by_class (l.inserted.class == k) l.label (λ h. cut-none ls h) e
    where
      by_class : (t : Bool) (b : Label) → (has_split ls k ≡ false → cut_in ls k ≡ None) → ((t && is_split b) || has_split ls k) ≡ false
          → or_else (if t then cut_there l.index (split_before_end b l.inserted) else None) (cut_in ls k) ≡ None
      by_class true whole h e = h e
      by_class true (split f) h e = let bad : true ≡ false = e in cc
      by_class true late h e = h e
      by_class false b h e = h e

-- ---- what the account says

up_to-below : (n : ℕ) (o : Option ℕ) → IsBelow n o → share_up_to o n ≡ Nothing
up_to-below n None h = refl
up_to-below n (Some j) h = by_test (nat_le n j) refl
  where
    by_test : (t : Bool) → nat_le n j ≡ t → (if t then All else Nothing) ≡ Nothing
    by_test true e = absurd (grind (arith, nat_tests, h, e))
    by_test false e = refl

up_to-within : (n j : ℕ) → n ≤ j → share_up_to (Some j) n ≡ All
up_to-within n j h = by_test (nat_le n j) refl
  where
    by_test : (t : Bool) → nat_le n j ≡ t → (if t then All else Nothing) ≡ All
    by_test true e = refl
    by_test false e = absurd (grind (arith, nat_tests, h, e))

told-elsewhere : (n : ℕ) (c : ℕ × ℕ) (last : Option ℕ) → (c.0 ≡ n → ⊥) → share_told (Some c) last n ≡ share_up_to last n
told-elsewhere n c last ne = by_test (c.0 == n) refl
  where
    by_test : (t : Bool) → (c.0 == n) ≡ t → (if t then Front c.1 else share_up_to last n) ≡ share_up_to last n
    by_test true e = absurd (grind (arith, nat_tests, ne, e))
    by_test false e = refl

told-here : (n p : ℕ) (last : Option ℕ) → share_told (Some (n, p)) last n ≡ Front p
told-here n p last = ap (λ t. if t then Front p else share_up_to last n) (eq-eqb n n refl)

-- a cut before or after this place says nothing of it
told-beside : (n : ℕ) (a o : Option (ℕ × ℕ)) (last : Option ℕ) → IsCutBelow n a → IsCutFrom (n + 1) o → share_told (or_else a o) last n ≡ share_up_to last n
told-beside n None None last p q = refl
told-beside n None (Some d) last p q = told-elsewhere n d last (λ e. omega (arith, q))
told-beside n (Some d) o last p q = told-elsewhere n d last (λ e. omega (arith, p))

-- an insertion is let in if none of its class was split before
abbrev InLabel : Label → Type 0
InLabel whole = Unit {0}
InLabel (split f) = Unit {0}
InLabel late = ⊥

in_label-choice : (t : Bool) (f : Found) → InLabel (if t then whole else split f)
in_label-choice true f = tt
in_label-choice false f = tt

label_in : (z : Frozen) (ls : List Labelled) (before : List PlainNode) (i : Inserted) → has_split ls i.class ≡ false → InLabel (label_of z ls before i)
label_in z ls before i e =
    let c : ClassBox = class_box z.classes i.class in
    let goal : ℤ = goal_after z ls (i ∷ insertions ls) in
    let height : ℤ = class_height z.classes ls i.class in
    let s : Sums = sums_of z.limit (map node_shape before) in
    let shrink : ℤ = s.shrink +ℤ list_shrink (skip_shapes (met_classes z.classes (i ∷ insertions ls))) in
    let scaled : ℤ = scaled_by c.class.factor i.height in
    let room : ℤ = goal -ℤ s.total -ℤ s.depth in
    subst InLabel (sym (ap (λ t. if t then late else label_where c goal height s shrink i) e))
    (in_label-choice ((int_le scaled (pos 0) || int_le scaled (room +ℤ shrink)) && int_le (height +ℤ i.height) c.class.limit) (split_of (clamped (min_ℤ (unscaled_room c.class.factor room) (c.class.limit -ℤ height))) i.split_depth (map leaf_shape i.inner)))

module _ (z : Frozen) (before rest : List PlainNode) (line : ℕ) (i : Inserted) where
  abbrev labels_before : List Labelled
  labels_before = labelled z before

  abbrev this_one : Labelled
  this_one = record { index = length before; line = line; inserted = i; label = label_of z labels_before before i }

  abbrev all_labels : List Labelled
  all_labels = labelled z (before ++ record { line = line; kind = ins i } ∷ rest)

  all_are : all_labels ≡ labelled_from z (labels_before ++ this_one ∷ []) (before ++ record { line = line; kind = ins i } ∷ []) rest
  all_are = from_append z [] [] before (record { line = line; kind = ins i } ∷ rest)

  own_class : (i.class == i.class) ≡ true
  own_class = eq-eqb i.class i.class refl

  cut_here : cut_of_one this_one i.class ≡ cut_there (length before) (split_before_end (label_of z labels_before before i) i)
  cut_here = ap (λ t. if t then cut_there (length before) (split_before_end (label_of z labels_before before i) i) else None) own_class

  -- the cut that the account has, by what is cut before, here and later
  cuts : LaterCut (length before + 1) (or_else (cut_in labels_before i.class) (cut_there (length before) (split_before_end (label_of z labels_before before i) i))) (cut_in all_labels i.class)
  cuts =
      let h = cut-later z i.class (labels_before ++ this_one ∷ []) (before ++ record { line = line; kind = ins i } ∷ []) rest in (
        h.0,
        ap (λ ls. cut_in ls i.class) all_are ∙ h.1 ∙ ap (λ c. or_else c h.0) (cut-append labels_before this_one i.class ∙ ap (or_else (cut_in labels_before i.class)) cut_here),
        subst (λ n. IsCutFrom n h.0) (longer before (record { line = line; kind = ins i })) h.2,
      )

  lasts : LaterOne (length before + 1) (last_let_in (labels_before ++ this_one ∷ []) i.class) (last_let_in all_labels i.class)
  lasts =
      subst (λ ls. LaterOne (length before + 1) (last_let_in (labels_before ++ this_one ∷ []) i.class) (last_let_in ls i.class)) (sym all_are)
      (subst (λ n. LaterOne n (last_let_in (labels_before ++ this_one ∷ []) i.class) (last_let_in (labelled_from z (labels_before ++ this_one ∷ []) (before ++ record { line = line; kind = ins i } ∷ []) rest) i.class)) (longer before (record { line = line; kind = ins i }))
      (last-later z i.class (labels_before ++ this_one ∷ []) (before ++ record { line = line; kind = ins i } ∷ []) rest))

  told_late : has_split labels_before i.class ≡ true → share_told (cut_in all_labels i.class) (last_let_in all_labels i.class) (length before) ≡ Nothing
  told_late e =
      let l = late_label z i.class labels_before before i e in
      let last : last_let_in all_labels i.class ≡ last_let_in labels_before i.class =
      ap (λ ls. last_let_in ls i.class) all_are
      ∙ last-stays z i.class (labels_before ++ this_one ∷ []) (before ++ record { line = line; kind = ins i } ∷ []) rest (split-stays z i.class labels_before before line (ins i) e)
      ∙ last-stays-one z i.class labels_before before line (ins i) e in
      let cut : cut_in all_labels i.class ≡ or_else (cut_in labels_before i.class) cuts.0 =
      cuts.1 ∙ ap (λ b. or_else (or_else (cut_in labels_before i.class) (cut_there (length before) (split_before_end b i))) cuts.0) l ∙ ap (λ c. or_else c cuts.0) (or_else-none (cut_in labels_before i.class)) in
      (λ j. share_told (cut j) (last j) (length before))
      ∙ told-beside (length before) (cut_in labels_before i.class) cuts.0 (last_let_in labels_before i.class) (cut-below (length before) i.class labels_before (below-labelled z before)) cuts.2
      ∙ up_to-below (length before) (last_let_in labels_before i.class) (last-below (length before) i.class None labels_before tt (below-labelled z before))

  -- the last one let in is this one, or a later one
  up_to_here : is_let_in (label_of z labels_before before i) ≡ true → share_up_to (last_let_in all_labels i.class) (length before) ≡ All
  up_to_here e = by_later lasts
    where
      here : last_let_in (labels_before ++ this_one ∷ []) i.class ≡ Some (length before)
      here = last-append None labels_before this_one i.class ∙ ap (λ t. if t && is_let_in (label_of z labels_before before i) then Some (length before) else last_let_in labels_before i.class) own_class ∙ ap (λ t. if t then Some (length before) else last_let_in labels_before i.class) e

      by_later : LaterOne (length before + 1) (last_let_in (labels_before ++ this_one ∷ []) i.class) (last_let_in all_labels i.class) → share_up_to (last_let_in all_labels i.class) (length before) ≡ All
      by_later (inl same) = ap (λ o. share_up_to o (length before)) (same ∙ here) ∙ up_to-within (length before) (length before) (omega arith)
      by_later (inr h) = ap (λ o. share_up_to o (length before)) h.1 ∙ up_to-within (length before) h.0 (omega (arith, h.2))

  told_in : has_split labels_before i.class ≡ false → share_told (cut_in all_labels i.class) (last_let_in all_labels i.class) (length before) ≡ share_of (label_of z labels_before before i) i
  told_in e = by_label (label_of z labels_before before i) refl (label_in z labels_before before i e)
    where
      none : cut_in labels_before i.class ≡ None
      none = cut-none z i.class labels_before e

      cut_is : (s : Option ℕ) → split_before_end (label_of z labels_before before i) i ≡ s → cut_in all_labels i.class ≡ or_else (cut_there (length before) s) cuts.0
      cut_is s p = cuts.1 ∙ ap (λ c. or_else (or_else c (cut_there (length before) (split_before_end (label_of z labels_before before i) i))) cuts.0) none ∙ ap (λ x. or_else (cut_there (length before) x) cuts.0) p

      whole_here : is_let_in (label_of z labels_before before i) ≡ true → split_before_end (label_of z labels_before before i) i ≡ None → share_told (cut_in all_labels i.class) (last_let_in all_labels i.class) (length before) ≡ All
      whole_here b p =
          ap (λ c. share_told c (last_let_in all_labels i.class) (length before)) (cut_is None p)
          ∙ told-beside (length before) None cuts.0 (last_let_in all_labels i.class) tt cuts.2
          ∙ up_to_here b

      by_end : (f : Found) (t : Bool) → label_of z labels_before before i ≡ split f → nat_lt f.index (length i.inner) ≡ t
          → share_told (cut_in all_labels i.class) (last_let_in all_labels i.class) (length before) ≡ (if t then Front f.index else All)
      by_end f true l p =
          ap (λ c. share_told c (last_let_in all_labels i.class) (length before)) (cut_is (Some f.index) (ap (λ b. split_before_end b i) l ∙ ap (λ x. if x then Some f.index else None) p))
          ∙ told-here (length before) f.index (last_let_in all_labels i.class)
      by_end f false l p = whole_here (ap is_let_in l) (ap (λ b. split_before_end b i) l ∙ ap (λ x. if x then Some f.index else None) p)

      by_label : (b : Label) → label_of z labels_before before i ≡ b → InLabel b → share_told (cut_in all_labels i.class) (last_let_in all_labels i.class) (length before) ≡ share_of b i
      by_label whole l h = whole_here (ap is_let_in l) (ap (λ b. split_before_end b i) l)
      by_label (split f) l h = by_end f (nat_lt f.index (length i.inner)) l refl
      by_label late l h = absurd h

  -- what the account of the whole page says of an insertion is what its label gives
  pub told_label : share_told (cut_in all_labels i.class) (last_let_in all_labels i.class) (length before) ≡ share_of (label_of z labels_before before i) i
  told_label = by_split (has_split labels_before i.class) refl
    where
      by_split : (t : Bool) → has_split labels_before i.class ≡ t → share_told (cut_in all_labels i.class) (last_let_in all_labels i.class) (length before) ≡ share_of (label_of z labels_before before i) i
      by_split true e = told_late e ∙ sym (ap (λ b. share_of b i) (late_label z i.class labels_before before i e))
      by_split false e = told_in e

-- ---- what a share gives is what the label gives

take_past : {X : Type 0} (n : ℕ) (xs : List X) → length xs ≤ n → take n xs ≡ xs
take_past n xs h = grind (arith, common_steps)

drop_past : {X : Type 0} (n : ℕ) (xs : List X) → length xs ≤ n → drop n xs ≡ []
drop_past n xs h = grind (arith, common_steps)

past_end : (n k : ℕ) → nat_lt k n ≡ false → n ≤ k
past_end n k e = grind (arith, nat_tests, e)

pub given_share : (b : Label) (i : Inserted) → given_by b i ≡ share_given (share_of b i) i
given_share whole i = refl
given_share (split f) i = by_end (nat_lt f.index (length i.inner)) refl
  where
    by_end : (t : Bool) → nat_lt f.index (length i.inner) ≡ t → take f.index i.inner ≡ share_given (if t then Front f.index else All) i
    by_end true e = refl
    by_end false e = take_past f.index i.inner (past_end (length i.inner) f.index e)
given_share late i = refl

pub gives_share : (b : Label) (i : Inserted) → gives b ≡ share_gives (share_of b i)
gives_share whole i = refl
gives_share (split f) i = by_end (nat_lt f.index (length i.inner))
  where
    by_end : (t : Bool) → true ≡ share_gives (if t then Front f.index else All)
    by_end true = refl
    by_end false = refl
gives_share late i = refl

pub held_share : (b : Label) (i : Inserted) → held_of b i ≡ share_held (share_of b i) i
held_share whole i = refl
held_share (split f) i = by_end (nat_lt f.index (length i.inner)) refl
  where
    by_end : (t : Bool) → nat_lt f.index (length i.inner) ≡ t → unless_empty i (pruned_leaves i.split_top (drop f.index i.inner)) ≡ share_held (if t then Front f.index else All) i
    by_end true e = refl
    by_end false e = ap (λ ns. unless_empty i (pruned_leaves i.split_top ns)) (drop_past f.index i.inner (past_end (length i.inner) f.index e))
held_share late i = refl

-- ---- one more insertion

held-append : (ls ms : List Labelled) → held_insertions (ls ++ ms) ≡ held_insertions ls ++ held_insertions ms
held-append [] ms = refl
held-append (l ∷ ls) ms = ap (λ ns. on_line l.line (held_of l.label l.inserted) ++ ns) (held-append ls ms) ∙ sym (append_assoc (on_line l.line (held_of l.label l.inserted)) (held_insertions ls) (held_insertions ms))

given-append : (k : ℕ) (ls ms : List Labelled) → given_to k (ls ++ ms) ≡ given_to k ls ++ given_to k ms
given-append k [] ms = refl
given-append k (l ∷ ls) ms = by_class (l.inserted.class == k) (given-append k ls ms)
  where
    by_class : (t : Bool) → given_to k (ls ++ ms) ≡ given_to k ls ++ given_to k ms
        → (if t then given_by l.label l.inserted ++ given_to k (ls ++ ms) else given_to k (ls ++ ms)) ≡ (if t then given_by l.label l.inserted ++ given_to k ls else given_to k ls) ++ given_to k ms
    by_class true h = ap (λ ns. given_by l.label l.inserted ++ ns) h ∙ sym (append_assoc (given_by l.label l.inserted) (given_to k ls) (given_to k ms))
    by_class false h = h

is_given-append : (k : ℕ) (ls ms : List Labelled) → is_given k (ls ++ ms) ≡ (is_given k ls || is_given k ms)
is_given-append k [] ms = refl
is_given-append k (l ∷ ls) ms = by_test (if l.inserted.class == k then gives l.label else false) (is_given-append k ls ms)
  where
    by_test : (t : Bool) → is_given k (ls ++ ms) ≡ (is_given k ls || is_given k ms) → (t || is_given k (ls ++ ms)) ≡ ((t || is_given k ls) || is_given k ms)
    by_test true h = refl
    by_test false h = h

-- what is given of one insertion
given_one : (k : ℕ) (l : Labelled) → given_to k (l ∷ []) ≡ (if l.inserted.class == k then given_by l.label l.inserted else [])
given_one k l = by_class (l.inserted.class == k)
  where
    by_class : (t : Bool) → (if t then given_by l.label l.inserted ++ [] else []) ≡ (if t then given_by l.label l.inserted else [])
    by_class true = append-nil (given_by l.label l.inserted)
    by_class false = refl

late-gives : (b : Label) (i : Inserted) → gives b ≡ false → given_by b i ≡ []
late-gives whole i e = cc
late-gives (split f) i e = cc
late-gives late i e = refl

not-given : (k : ℕ) (ls : List Labelled) → is_given k ls ≡ false → given_to k ls ≡ []
not-given k [] e = refl
not-given k (l ∷ ls) e = by_class (l.inserted.class == k) (gives l.label) refl (λ h. not-given k ls h) e
  where
    by_class : (t g : Bool) → gives l.label ≡ g → (is_given k ls ≡ false → given_to k ls ≡ []) → ((if t then g else false) || is_given k ls) ≡ false → (if t then given_by l.label l.inserted ++ given_to k ls else given_to k ls) ≡ []
    by_class true true g h e = let bad : true ≡ false = e in cc
    by_class true false g h e = (λ j. late-gives l.label l.inserted g j ++ h e j)
    by_class false b g h e = h e

-- a box after the insertions, and after one more
box_case : (b : Boxed) (g t a : Bool) (before more : List Leaf) → (g ≡ false → before ≡ []) → (a ≡ false → more ≡ [])
    → (let after : Boxed = if g then record b { content = Some (content_of b.content ++ before) } else b in
    (if g || ((if t then a else false) || false) then record b { content = Some (content_of b.content ++ (before ++ (if t then more else []))) } else b)
    ≡ (if a then (if t then record after { content = Some (content_of after.content ++ more) } else after) else after))
box_case b true true true before more p q = ap (λ ns. record b { content = Some ns }) (sym (append_assoc (content_of b.content) before more))
box_case b true true false before more p q = ap (λ ns. record b { content = Some (content_of b.content ++ ns) }) (ap (λ ns. before ++ ns) (q refl) ∙ append-nil before)
box_case b true false true before more p q = ap (λ ns. record b { content = Some (content_of b.content ++ ns) }) (append-nil before)
box_case b true false false before more p q = ap (λ ns. record b { content = Some (content_of b.content ++ ns) }) (append-nil before)
box_case b false true true before more p q = ap (λ ns. record b { content = Some (content_of b.content ++ (ns ++ more)) }) (p refl)
box_case b false true false before more p q = refl
box_case b false false true before more p q = refl
box_case b false false false before more p q = refl

same_number : (b : Boxed) (g : Bool) (k : ℕ) (before : List Leaf) → (let after : Boxed = if g then record b { content = Some (content_of b.content ++ before) } else b in (after.number == k) ≡ (k == b.number))
same_number b true k before = grind (arith, nat_tests)
same_number b false k before = grind (arith, nat_tests)

pub box_one : (ls : List Labelled) (l : Labelled) (b : Boxed) → box_after (ls ++ l ∷ []) b ≡ box_shared (share_of l.label l.inserted) l.inserted (box_after ls b)
box_one ls l b =
    let k = b.number in
    let i = l.inserted in
    let after = box_after ls b in
    (λ j. if is_given-append k ls (l ∷ []) j then record b { content = Some (content_of b.content ++ (given-append k ls (l ∷ []) ∙ ap (λ ns. given_to k ls ++ ns) (given_one k l)) j) } else b)
    ∙ box_case b (is_given k ls) (i.class == k) (gives l.label) (given_to k ls) (given_by l.label i) (not-given k ls) (late-gives l.label i)
    ∙ (λ j. if gives_share l.label i j then (if sym (same_number b (is_given k ls) i.class (given_to k ls)) j then record after { content = Some (content_of after.content ++ given_share l.label i j) } else after) else after)

-- the boxes after one more insertion
pub boxes_one : (ls : List Labelled) (l : Labelled) (bs : List Boxed) → map (box_after (ls ++ l ∷ [])) bs ≡ map (box_shared (share_of l.label l.inserted) l.inserted) (map (box_after ls) bs)
boxes_one ls l [] = refl
boxes_one ls l (b ∷ bs) = λ j. box_one ls l b j ∷ boxes_one ls l bs j

-- what is held after one more insertion
pub held_one : (ls : List Labelled) (l : Labelled) → held_insertions (ls ++ l ∷ []) ≡ held_insertions ls ++ on_line l.line (share_held (share_of l.label l.inserted) l.inserted)
held_one ls l = held-append ls (l ∷ []) ∙ ap (λ ns. held_insertions ls ++ ns) (append-nil (on_line l.line (held_of l.label l.inserted)) ∙ ap (on_line l.line) (held_share l.label l.inserted))
