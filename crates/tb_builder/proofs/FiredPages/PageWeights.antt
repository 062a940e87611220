-- The page builder loses nothing: what fires, what is held and what is left weigh as much as what was there.
use Rattle.std.proofs.Common.{◌≡◌, refl, ◌∙◌, ap, ℕ, suc, ◌+◌, ℤ, Bool, true, false, List, [], ◌∷◌, ◌++◌, length, map, take, drop, Option, Some, None, arith}
use Rattle.std.specs.Prelude.{◌==◌, ◌||◌, if◌then◌else◌}
use Rattle.std.specs.List.{AllByRecursion}
use Rattle.tb_node.specs.PlainNodes.{Matter, hbox, Leaf, Inserted, PlainKind, plain, ins, act, PlainNode, without_acts, without_insertions, on_line}
use Rattle.tb_node.proofs.Weights.{Weight, matter_weight, leaves_weight, act_weight, kind_weight, nodes_weight, kind_inserted, inserted_weight, weight-append, leaves-append, leaves-split, weight-split, insertions-apart}
use Rattle.tb_break.specs.Best.{Breakpoint, is_stop}
use Rattle.tb_break.specs.PageTop.{pruned_leaves, pruned_nodes}
use Rattle.tb_insert.specs.Terms.{Terms}
use Rattle.tb_insert.specs.Account.{Frozen, Labelled, Label, whole, split, late, label_of, labelled_with, labelled_from, labelled}
use Rattle.tb_builder.specs.Reach.{Reached, acted, tried, Reach, also_reached, holds_box, laid_out, page_place, stopped_at, reach_at_place, reach_at, reach_node, reach_from}
use Rattle.tb_builder.specs.FiredPages.{Boxed, Fired, page_break, from_break, spent_kind, with_spent_break, given_by, given_to, gives, is_given, content_of, box_after, unless_empty, held_of, held_insertions, fired_by}

-- ---- the top of a page

leaf-pruned : (v : Weight) (t : ℤ) (ls : List Leaf) → leaves_weight v (pruned_leaves t ls) ≡ leaves_weight v ls → (n : ℕ) (m : Matter) → leaves_weight v (pruned_leaves t (record { line = n; matter = m } ∷ ls)) ≡ matter_weight v n m + leaves_weight v ls
leaf-pruned v t ls h n (hbox w a d) = omega arith
leaf-pruned v t ls h n m = omega arith

pub pruned_leaves-weight : (v : Weight) (t : ℤ) (ls : List Leaf) → leaves_weight v (pruned_leaves t ls) ≡ leaves_weight v ls
pruned_leaves-weight v t [] = refl
pruned_leaves-weight v t (l ∷ ls) = leaf-pruned v t ls (pruned_leaves-weight v t ls) l.line l.matter

node-pruned : (v : Weight) (t : ℤ) (ns : List PlainNode) → nodes_weight v (pruned_nodes t ns) ≡ nodes_weight v ns → (n : ℕ) (k : PlainKind) → nodes_weight v (pruned_nodes t (record { line = n; kind = k } ∷ ns)) ≡ kind_weight v n k + nodes_weight v ns
node-pruned v t ns h n (plain (hbox w a d)) = omega arith
node-pruned v t ns h n k = omega arith

pub pruned_nodes-weight : (v : Weight) (t : ℤ) (ns : List PlainNode) → nodes_weight v (pruned_nodes t ns) ≡ nodes_weight v ns
pruned_nodes-weight v t [] = refl
pruned_nodes-weight v t (n ∷ ns) = node-pruned v t ns (pruned_nodes-weight v t ns) n.line n.kind

pub laid_out-weight : (v : Weight) (t : ℤ) (page waiting : List PlainNode) → nodes_weight v (laid_out t page waiting) ≡ nodes_weight v page + nodes_weight v waiting
laid_out-weight v t page waiting = by_box (holds_box page)
  where
    by_box : (b : Bool) → nodes_weight v (page ++ (if b then waiting else pruned_nodes t waiting)) ≡ nodes_weight v page + nodes_weight v waiting
    by_box true = weight-append v page waiting
    by_box false = weight-append v page (pruned_nodes t waiting) ∙ ap (λ n. nodes_weight v page + n) (pruned_nodes-weight v t waiting)

-- ---- what is reached

abbrev pub acted_weight : Weight → List Reached → ℕ
acted_weight v [] = 0
acted_weight v (acted a ∷ rs) = act_weight v a + acted_weight v rs
acted_weight v (tried line b ∷ rs) = acted_weight v rs

abbrev pub reach_weight : Weight → Reach → ℕ
reach_weight v w = nodes_weight v w.passed + acted_weight v w.reached + nodes_weight v w.beyond

module _ (v : Weight) (limit : ℤ) (terms : List PlainNode → Terms) where
  place-weight : (before : List PlainNode) (n : PlainNode) (rest : List PlainNode) (later : Reach) (b : Breakpoint) → reach_weight v later ≡ nodes_weight v before + nodes_weight v (n ∷ rest) → reach_weight v (reach_at_place before n rest later b) ≡ nodes_weight v before + nodes_weight v (n ∷ rest)
  place-weight before n rest later b h = by_stop (is_stop b)
    where
      by_stop : (t : Bool) → reach_weight v (if t then stopped_at before n rest b else also_reached (tried n.line b) later) ≡ nodes_weight v before + nodes_weight v (n ∷ rest)
      by_stop true = omega arith
      by_stop false = h

  at-weight : (before : List PlainNode) (n : PlainNode) (rest : List PlainNode) (later : Reach) (o : Option ℤ) → reach_weight v later ≡ nodes_weight v before + nodes_weight v (n ∷ rest) → reach_weight v (reach_at limit terms before n rest later o) ≡ nodes_weight v before + nodes_weight v (n ∷ rest)
  at-weight before n rest later None h = h
  at-weight before n rest later (Some p) h = place-weight before n rest later (page_place limit terms before p) h

  node-weight : (before : List PlainNode) (l : ℕ) (k : PlainKind) (rest : List PlainNode) (later : Reach) → reach_weight v later ≡ nodes_weight v (before ++ without_acts (record { line = l; kind = k } ∷ [])) + nodes_weight v rest → reach_weight v (reach_node limit terms before (record { line = l; kind = k }) rest later k) ≡ nodes_weight v before + (kind_weight v l k + nodes_weight v rest)
  node-weight before l (plain m) rest later h =
      let e : nodes_weight v (before ++ record { line = l; kind = plain m } ∷ []) ≡ nodes_weight v before + nodes_weight v (record { line = l; kind = plain m } ∷ []) = weight-append v before (record { line = l; kind = plain m } ∷ []) in
      at-weight before (record { line = l; kind = plain m }) rest later _ (omega arith)
  node-weight before l (ins i) rest later h =
      let e : nodes_weight v (before ++ record { line = l; kind = ins i } ∷ []) ≡ nodes_weight v before + nodes_weight v (record { line = l; kind = ins i } ∷ []) = weight-append v before (record { line = l; kind = ins i } ∷ []) in
      omega arith
  node-weight before l (act a) rest later h =
      let e : nodes_weight v (before ++ []) ≡ nodes_weight v before + 0 = weight-append v before [] in
      omega arith

  -- the acts reached, the nodes passed and the list from the stop on
  pub reach-weight : (before rest : List PlainNode) → reach_weight v (reach_from limit terms before rest) ≡ nodes_weight v before + nodes_weight v rest
  reach-weight before [] = omega arith
  reach-weight before (n ∷ rest) = node-weight before n.line n.kind rest (reach_from limit terms (before ++ without_acts (n ∷ [])) rest) (reach-weight (before ++ without_acts (n ∷ [])) rest)

-- ---- the insertions of a page

abbrev pub labels_weight : Weight → List Labelled → ℕ
labels_weight v [] = 0
labels_weight v (l ∷ ls) = leaves_weight v l.inserted.inner + labels_weight v ls

labels-append : (v : Weight) (xs ys : List Labelled) → labels_weight v (xs ++ ys) ≡ labels_weight v xs + labels_weight v ys
labels-append v [] ys = omega arith
labels-append v (x ∷ xs) ys = let h : labels_weight v (xs ++ ys) ≡ labels_weight v xs + labels_weight v ys = labels-append v xs ys in omega arith

with-weight : (v : Weight) (z : Frozen) (ls : List Labelled) (before : List PlainNode) (line : ℕ) (k : PlainKind) → labels_weight v (labelled_with z ls before line k) ≡ labels_weight v ls + kind_inserted v k
with-weight v z ls before line (plain m) = omega arith
with-weight v z ls before line (ins i) =
    let e : labels_weight v (ls ++ record { index = length before; line = line; inserted = i; label = label_of z ls before i } ∷ []) ≡ labels_weight v ls + labels_weight v (record { index = length before; line = line; inserted = i; label = label_of z ls before i } ∷ []) = labels-append v ls (record { index = length before; line = line; inserted = i; label = label_of z ls before i } ∷ []) in
    omega arith
with-weight v z ls before line (act a) = omega arith

labelled-weight : (v : Weight) (z : Frozen) (ls : List Labelled) (before ns : List PlainNode) → labels_weight v (labelled_from z ls before ns) ≡ labels_weight v ls + inserted_weight v ns
labelled-weight v z ls before [] = omega arith
labelled-weight v z ls before (n ∷ ns) =
    let e : labels_weight v (labelled_with z ls before n.line n.kind) ≡ labels_weight v ls + kind_inserted v n.kind = with-weight v z ls before n.line n.kind in
    let h : labels_weight v (labelled_from z (labelled_with z ls before n.line n.kind) (before ++ n ∷ []) ns) ≡ labels_weight v (labelled_with z ls before n.line n.kind) + inserted_weight v ns = labelled-weight v z (labelled_with z ls before n.line n.kind) (before ++ n ∷ []) ns in
    omega arith

abbrev pub given_weight : Weight → List Labelled → ℕ
given_weight v [] = 0
given_weight v (l ∷ ls) = leaves_weight v (given_by l.label l.inserted) + given_weight v ls

unless_empty-weight : (v : Weight) (line : ℕ) (i : Inserted) (ls : List Leaf) → nodes_weight v (on_line line (unless_empty i ls)) ≡ leaves_weight v ls
unless_empty-weight v line i [] = refl
unless_empty-weight v line i (l ∷ ls) = omega arith

-- what an insertion gives and what is held of it
label-weight : (v : Weight) (line : ℕ) (t : Label) (i : Inserted) → leaves_weight v (given_by t i) + nodes_weight v (on_line line (held_of t i)) ≡ leaves_weight v i.inner
label-weight v line whole i = omega arith
label-weight v line (split f) i =
    let a : nodes_weight v (on_line line (unless_empty i (pruned_leaves i.split_top (drop f.index i.inner)))) ≡ leaves_weight v (pruned_leaves i.split_top (drop f.index i.inner)) = unless_empty-weight v line i _ in
    let b : leaves_weight v (pruned_leaves i.split_top (drop f.index i.inner)) ≡ leaves_weight v (drop f.index i.inner) = pruned_leaves-weight v i.split_top _ in
    let c : leaves_weight v (take f.index i.inner) + leaves_weight v (drop f.index i.inner) ≡ leaves_weight v i.inner = leaves-split v f.index i.inner in
    omega arith
label-weight v line late i = omega arith

held-weight : (v : Weight) (ls : List Labelled) → given_weight v ls + nodes_weight v (held_insertions ls) ≡ labels_weight v ls
held-weight v [] = refl
held-weight v (l ∷ ls) =
    let a : leaves_weight v (given_by l.label l.inserted) + nodes_weight v (on_line l.line (held_of l.label l.inserted)) ≡ leaves_weight v l.inserted.inner = label-weight v l.line l.label l.inserted in
    let b : nodes_weight v (on_line l.line (held_of l.label l.inserted) ++ held_insertions ls) ≡ nodes_weight v (on_line l.line (held_of l.label l.inserted)) + nodes_weight v (held_insertions ls) = weight-append v (on_line l.line (held_of l.label l.inserted)) (held_insertions ls) in
    let h : given_weight v ls + nodes_weight v (held_insertions ls) ≡ labels_weight v ls = held-weight v ls in
    omega arith

-- ---- the page that fires

-- how often a number is among others
abbrev pub hits : ℕ → List ℕ → ℕ
hits k [] = 0
hits k (n ∷ ns) = if k == n then suc (hits k ns) else hits k ns

-- the number is among them once
abbrev pub IsOnce : List ℕ → ℕ → Type 0
IsOnce ns k = hits k ns ≡ 1

-- the class of each insertion is one of these numbers
abbrev pub OfClass : List ℕ → PlainKind → Type 0
OfClass k (plain m) = Unit {0}
OfClass k (ins i) = IsOnce k i.class
OfClass k (act a) = Unit {0}

abbrev pub AllOfClass : List ℕ → List PlainNode → Type 0
AllOfClass k = AllByRecursion (λ n. OfClass k n.kind)

abbrev pub LabelsOfClass : List ℕ → List Labelled → Type 0
LabelsOfClass k = AllByRecursion (λ l. IsOnce k l.inserted.class)

pub labels-joined : (k : List ℕ) (xs ys : List Labelled) → LabelsOfClass k xs → LabelsOfClass k ys → LabelsOfClass k (xs ++ ys)
labels-joined k [] ys a b = b
labels-joined k (x ∷ xs) ys a b = (a.0, labels-joined k xs ys a.1 b)

with-class : (k : List ℕ) (z : Frozen) (ls : List Labelled) (before : List PlainNode) (line : ℕ) (n : PlainKind) → LabelsOfClass k ls → OfClass k n → LabelsOfClass k (labelled_with z ls before line n)
with-class k z ls before line (plain m) h c = h
with-class k z ls before line (ins i) h c = labels-joined k ls (record { index = length before; line = line; inserted = i; label = label_of z ls before i } ∷ []) h (c, tt)
with-class k z ls before line (act a) h c = h

pub labelled-class : (k : List ℕ) (z : Frozen) (ls : List Labelled) (before ns : List PlainNode) → LabelsOfClass k ls → AllOfClass k ns → LabelsOfClass k (labelled_from z ls before ns)
labelled-class k z ls before [] h c = h
labelled-class k z ls before (n ∷ ns) h c = labelled-class k z (labelled_with z ls before n.line n.kind) (before ++ n ∷ []) ns (with-class k z ls before n.line n.kind h c.0) c.1

-- what is given to the box of one class
abbrev pub class_given : Weight → ℕ → List Labelled → ℕ
class_given v k [] = 0
class_given v k (l ∷ ls) = (if l.inserted.class == k then leaves_weight v (given_by l.label l.inserted) else 0) + class_given v k ls

given_to-weight : (v : Weight) (k : ℕ) (ls : List Labelled) → leaves_weight v (given_to k ls) ≡ class_given v k ls
given_to-weight v k [] = refl
given_to-weight v k (l ∷ ls) = by_class (given_to-weight v k ls) (l.inserted.class == k)
  where
    by_class : leaves_weight v (given_to k ls) ≡ class_given v k ls → (t : Bool) → leaves_weight v (if t then given_by l.label l.inserted ++ given_to k ls else given_to k ls) ≡ (if t then leaves_weight v (given_by l.label l.inserted) else 0) + class_given v k ls
    by_class a true = leaves-append v (given_by l.label l.inserted) (given_to k ls) ∙ ap (λ n. leaves_weight v (given_by l.label l.inserted) + n) a
    by_class a false = omega (arith, a)

gives-nothing : (v : Weight) (t : Label) (i : Inserted) → gives t ≡ false → leaves_weight v (given_by t i) ≡ 0
gives-nothing v whole i e = grind (arith, e)
gives-nothing v (split f) i e = grind (arith, e)
gives-nothing v late i e = refl

-- if nothing is given, what is given weighs nothing
not-given : (v : Weight) (k : ℕ) (ls : List Labelled) → is_given k ls ≡ false → class_given v k ls ≡ 0
not-given v k [] e = refl
not-given v k (l ∷ ls) e = by_class (l.inserted.class == k) (gives l.label) refl (λ h. not-given v k ls h) e
  where
    by_class : (t g : Bool) → gives l.label ≡ g → (is_given k ls ≡ false → class_given v k ls ≡ 0) → ((if t then g else false) || is_given k ls) ≡ false → (if t then leaves_weight v (given_by l.label l.inserted) else 0) + class_given v k ls ≡ 0
    by_class true true q h e = grind (arith, e)
    by_class true false q h e =
        let x : leaves_weight v (given_by l.label l.inserted) ≡ 0 = gives-nothing v l.label l.inserted q in
        let y : class_given v k ls ≡ 0 = h e in
        omega arith
    by_class false g q h e = let y : class_given v k ls ≡ 0 = h e in omega arith

-- what the box of the class holds
abbrev pub box_weight : Weight → Boxed → ℕ
box_weight v b = leaves_weight v (content_of b.content)

box_after-weight : (v : Weight) (ls : List Labelled) (b : Boxed) → box_weight v (box_after ls b) ≡ box_weight v b + class_given v b.number ls
box_after-weight v ls b = by_given (is_given b.number ls) refl
  where
    by_given : (t : Bool) → is_given b.number ls ≡ t → box_weight v (if t then record b { content = Some (content_of b.content ++ given_to b.number ls) } else b) ≡ box_weight v b + class_given v b.number ls
    by_given true e = leaves-append v (content_of b.content) (given_to b.number ls) ∙ ap (λ n. leaves_weight v (content_of b.content) + n) (given_to-weight v b.number ls)
    by_given false e = let a : class_given v b.number ls ≡ 0 = not-given v b.number ls e in omega arith

abbrev pub boxes_weight : Weight → List Boxed → ℕ
boxes_weight v [] = 0
boxes_weight v (b ∷ bs) = box_weight v b + boxes_weight v bs

-- the numbers of boxes
abbrev pub numbers : List Boxed → List ℕ
numbers bs = map (λ (b : Boxed). b.number) bs

-- what is given to the boxes of these numbers
abbrev pub all_given : Weight → List ℕ → List Labelled → ℕ
all_given v [] ls = 0
all_given v (n ∷ ns) ls = class_given v n ls + all_given v ns ls

boxes_after-weight : (v : Weight) (ls : List Labelled) (bs : List Boxed) → boxes_weight v (map (box_after ls) bs) ≡ boxes_weight v bs + all_given v (numbers bs) ls
boxes_after-weight v ls [] = refl
boxes_after-weight v ls (b ∷ bs) =
    let a : box_weight v (box_after ls b) ≡ box_weight v b + class_given v b.number ls = box_after-weight v ls b in
    let h : boxes_weight v (map (box_after ls) bs) ≡ boxes_weight v bs + all_given v (numbers bs) ls = boxes_after-weight v ls bs in
    omega arith

-- this weight for each of the numbers that is the class
abbrev share : ℕ → ℕ → List ℕ → ℕ
share k w [] = 0
share k w (n ∷ ns) = (if k == n then w else 0) + share k w ns

share-none : (k w : ℕ) (ns : List ℕ) → hits k ns ≡ 0 → share k w ns ≡ 0
share-none k w [] h = refl
share-none k w (n ∷ ns) h = by_number (share-none k w ns) (k == n) h
  where
    by_number : (hits k ns ≡ 0 → share k w ns ≡ 0) → (t : Bool) → (if t then suc (hits k ns) else hits k ns) ≡ 0 → (if t then w else 0) + share k w ns ≡ 0
    by_number again true e = absurd (omega (arith, e))
    by_number again false e = let x : share k w ns ≡ 0 = again e in omega arith

share-once : (k w : ℕ) (ns : List ℕ) → IsOnce ns k → share k w ns ≡ w
share-once k w [] h = absurd (omega (arith, h))
share-once k w (n ∷ ns) h = by_number (share-once k w ns) (k == n) h
  where
    by_number : (IsOnce ns k → share k w ns ≡ w) → (t : Bool) → (if t then suc (hits k ns) else hits k ns) ≡ 1 → (if t then w else 0) + share k w ns ≡ w
    by_number again true e = let x : share k w ns ≡ 0 = share-none k w ns (omega (arith, e)) in omega arith
    by_number again false e = let x : share k w ns ≡ w = again e in omega arith

all_given-none : (v : Weight) (ns : List ℕ) → all_given v ns [] ≡ 0
all_given-none v [] = refl
all_given-none v (n ∷ ns) = let x : all_given v ns [] ≡ 0 = all_given-none v ns in omega arith

all_given-more : (v : Weight) (ns : List ℕ) (l : Labelled) (ls : List Labelled) → all_given v ns (l ∷ ls) ≡ share l.inserted.class (leaves_weight v (given_by l.label l.inserted)) ns + all_given v ns ls
all_given-more v [] l ls = refl
all_given-more v (n ∷ ns) l ls = sums (if l.inserted.class == n then leaves_weight v (given_by l.label l.inserted) else 0) (class_given v n ls) (all_given v ns (l ∷ ls)) (share l.inserted.class (leaves_weight v (given_by l.label l.inserted)) ns) (all_given v ns ls) (all_given-more v ns l ls)
  where
    sums : (a b c d e : ℕ) → c ≡ d + e → a + b + c ≡ a + d + (b + e)
    sums a b c d e h = omega arith

-- each insertion gives to one of the boxes
given-once : (v : Weight) (ns : List ℕ) (ls : List Labelled) → LabelsOfClass ns ls → all_given v ns ls ≡ given_weight v ls
given-once v ns [] h = all_given-none v ns
given-once v ns (l ∷ ls) h =
    let a : all_given v ns (l ∷ ls) ≡ share l.inserted.class (leaves_weight v (given_by l.label l.inserted)) ns + all_given v ns ls = all_given-more v ns l ls in
    let b : share l.inserted.class (leaves_weight v (given_by l.label l.inserted)) ns ≡ leaves_weight v (given_by l.label l.inserted) = share-once l.inserted.class (leaves_weight v (given_by l.label l.inserted)) ns h.0 in
    let c : all_given v ns ls ≡ given_weight v ls = given-once v ns ls h.1 in
    omega arith

spent-weight : (v : Weight) (ns : List PlainNode) → nodes_weight v (with_spent_break ns) ≡ nodes_weight v ns
spent-weight v [] = refl
spent-weight v (n ∷ ns) = by_kind n.line n.kind
  where
    by_kind : (l : ℕ) (k : PlainKind) → kind_weight v l (spent_kind k) + nodes_weight v ns ≡ kind_weight v l k + nodes_weight v ns
    by_kind l (plain (hbox w a d)) = refl
    by_kind l k = refl

abbrev pub fired_weight : Weight → Fired → ℕ
fired_weight v f = nodes_weight v f.body + boxes_weight v f.boxes + nodes_weight v f.held + nodes_weight v f.rest

-- the page that fires: its body, its boxes, what is held and the rest weigh as much as the boxes and the list did
pub fired-weight : (v : Weight) (z : Frozen) (bs : List Boxed) (w : Reach) → AllOfClass (numbers bs) (take (page_break w).place w.passed) → fired_weight v (fired_by (labelled z (take (page_break w).place w.passed)) bs w) ≡ boxes_weight v bs + (nodes_weight v w.passed + nodes_weight v w.beyond)
fired-weight v z bs w all =
    let before = take (page_break w).place w.passed in
    let ls = labelled z before in
    let apart : nodes_weight v (without_insertions before) + inserted_weight v before ≡ nodes_weight v before = insertions-apart v before in
    let labels : labels_weight v ls ≡ 0 + inserted_weight v before = labelled-weight v z [] [] before in
    let held : given_weight v ls + nodes_weight v (held_insertions ls) ≡ labels_weight v ls = held-weight v ls in
    let box : boxes_weight v (map (box_after ls) bs) ≡ boxes_weight v bs + all_given v (numbers bs) ls = boxes_after-weight v ls bs in
    let once : all_given v (numbers bs) ls ≡ given_weight v ls = given-once v (numbers bs) ls (labelled-class (numbers bs) z [] [] before tt all) in
    let spent : nodes_weight v (with_spent_break (from_break w)) ≡ nodes_weight v (from_break w) = spent-weight v (from_break w) in
    let rest : nodes_weight v (from_break w) ≡ nodes_weight v (drop (page_break w).place w.passed) + nodes_weight v w.beyond = weight-append v (drop (page_break w).place w.passed) w.beyond in
    let parts : nodes_weight v before + nodes_weight v (drop (page_break w).place w.passed) ≡ nodes_weight v w.passed = weight-split v (page_break w).place w.passed in
    omega arith
