-- The sizes of lists that may be on a page, and of the insertions of a page.
use Rattle.std.proofs.Common.{◌≡◌, refl, Bool, sym, subst, ◌∙◌, ap, ℕ, ℤ, pos, ◌+◌, ◌*◌, ◌≤◌, ◌+ℤ◌, ◌-ℤ◌, ◌≤ℤ◌, ◌==◌, true, false, Some, List, [], ◌∷◌, map, length, w64, to_z, of_z, arith}
use Rattle.std.specs.Prelude.{All, neg_ℤ, ◌||◌, if◌then◌else◌}
use Rattle.std.specs.List.{list_any}
use Rattle.std.proofs.lemmas.Bool.{eqb-true}
use Rattle.std.proofs.lemmas.Bool.Decides.{nat_tests}
use Rattle.tb_node.specs.Shape.{is_box}
use Rattle.std.proofs.lemmas.Int.{ints}
use Rattle.std.proofs.lemmas.List.{length-map}
use Rattle.tb_insert.proofs.AccountLemmas.{leaf_shapes}
use Rattle.tb_scaled.specs.Amount.{IsAmount}
use Rattle.tb_pool.specs.Lists.{Lists, list_at}
use Rattle.tb_node.specs.declared.Node.{Node}
use Rattle.tb_node.specs.PlainNodes.{Leaf, leaf_of, leaf_shape, shape_of}
use Rattle.tb_node.specs.Fit.{IsDimension, IsExtent, IsSizedNode}
use Rattle.tb_node.specs.Sums.{size_of, last_depth}
use Rattle.tb_node.proofs.FitLemmas as fits
use Rattle.tb_float.specs.Ranges.{IsWithin}
use Rattle.tb_column.specs.declared.NoteBox.{NoteBox}
use Rattle.tb_column.specs.Notes.{IsNote, note_shown, notes_shown, note_count}
use Rattle.tb_builder.specs.FiredPages.{box_size}
use Rattle.tb_column.specs.Column.{has_box}
use Rattle.tb_output.specs.Text.{enlarging_room, note_room, notes_height}
use Rattle.tb_node.proofs.FitLemmas.{dimension_small}

-- ---- one list

-- what a list with this room and this depth is known to take
pub record IsTaken (ns : List Node) (room depth : ℤ) : Type 0 where
  pub small : IsAmount room
  pub within : IsWithin (2147483646 * length ns) room
  pub extent : IsExtent depth
  pub height : IsAmount (room -ℤ depth)

within-length : (ns : List Node) → fits.IsWithin (2147483646 * length (map shape_of ns)) (size_of (map shape_of ns)) → IsWithin (2147483646 * length ns) (size_of (map shape_of ns))
within-length ns h =
    let n : length (map shape_of ns) ≡ length ns = length-map ns shape_of in
    record { low = subst (λ k. neg_ℤ (pos (2147483646 * k)) ≤ℤ size_of (map shape_of ns)) n h.low; high = subst (λ k. size_of (map shape_of ns) ≤ℤ pos (2147483646 * k)) n h.high }

-- an amount, if its bound is one
pub within-amount : (most : ℕ) (z : ℤ) → most ≤ 36029896531181568 → IsWithin most z → IsAmount z
within-amount most z few h = record { low = omega (arith, ints, few, h.low); high = omega (arith, ints, few, h.high) }

pub taken : (ns : List Node) (room depth : ℤ) → All IsSizedNode ns → length ns ≤ 8388608 → room ≡ size_of (map shape_of ns) → depth ≡ last_depth (map shape_of ns) → IsTaken ns room depth
taken ns room depth sized few r d =
    let can = fits.summable ns sized few in
    let within : IsWithin (2147483646 * length ns) room = subst (IsWithin (2147483646 * length ns)) (sym r) (within-length ns (fits.size_within (map shape_of ns) can.sized)) in
    let extent : IsExtent depth = subst IsExtent (sym d) (fits.last_depth_extent (map shape_of ns) can.sized) in
    record {
      small = within-amount (2147483646 * length ns) room (omega (arith, few)) within;
      within = within;
      extent = extent;
      height = fits.total_small (length ns) room depth few (record { low = within.low; high = within.high }) extent;
    }

-- ---- numbers that are passed on

-- an amount is the same after it was passed on
pub amount-cast : (z : ℤ) → IsAmount z → to_z w64 (of_z w64 z) ≡ z
amount-cast z h = omega (arith, ints, h.low, h.high)

pub amount-passed : (z : ℤ) → IsAmount z → IsAmount (to_z w64 (of_z w64 z))
amount-passed z h = subst IsAmount (sym (amount-cast z h)) h

-- ---- the insertions of a page

-- the height of the insertions of the first k classes, with these left of all
pub record IsHeightSoFar (store : Lists Node) (all left : List NoteBox) (k : ℕ) (height : ℤ) : Type 0 where
  pub value : height +ℤ notes_height (notes_shown store left) ≡ notes_height (notes_shown store all)
  pub most : ℕ
  pub few : most + 2147483646 * note_count store left ≤ 18014398492704768 + 1073741823 * k
  pub classes : k ≤ 256
  pub within : IsWithin most height

pub height-begun : (store : Lists Node) (all : List NoteBox) → note_count store all ≤ 8388608 → IsHeightSoFar store all all 0 (pos 0)
height-begun store all few = record { value = omega (arith, ints); most = 0; few = omega (arith, few); classes = omega arith; within = record { low = omega (arith, ints); high = omega (arith, ints) } }

height-sum : (height room rest whole : ℤ) → height +ℤ (room +ℤ rest) ≡ whole → height +ℤ room +ℤ rest ≡ whole
height-sum height room rest whole h = omega (arith, ints, h)

height-within : (most count : ℕ) (height room : ℤ) → IsWithin most height → IsWithin (2147483646 * count + 1073741823) room → IsWithin (most + 2147483646 * count + 1073741823) (height +ℤ room)
height-within most count height room h s = record { low = omega (arith, ints, h.low, s.low); high = omega (arith, ints, h.high, s.high) }

height-few : (most count rest k : ℕ) → most + 2147483646 * (count + rest) ≤ 18014398492704768 + 1073741823 * k → most + 2147483646 * count + 1073741823 + 2147483646 * rest ≤ 18014398492704768 + 1073741823 * (k + 1)
height-few most count rest k h = omega (arith, h)

both-within : (count : ℕ) (size width : ℤ) → IsWithin (2147483646 * count) size → IsDimension width → IsWithin (2147483646 * count + 1073741823) (size +ℤ width)
both-within count size width s w = record { low = omega (arith, ints, s.low, w.low); high = omega (arith, ints, s.high, w.high) }

wider : (most : ℕ) (z : ℤ) → IsWithin most z → IsWithin (most + 1073741823) z
wider most z h = record { low = omega (arith, ints, h.low); high = omega (arith, ints, h.high) }

pub nothing-within : (most : ℕ) → IsWithin most (pos 0)
nothing-within most = record { low = omega (arith, ints); high = omega (arith, ints) }

height-more : (store : Lists Node) (all left : List NoteBox) (k : ℕ) (n : NoteBox) (height room : ℤ) → k + 1 ≤ 256 → room ≡ note_room (note_shown store n) → IsWithin (2147483646 * length (list_at store n.list) + 1073741823) room
    → IsHeightSoFar store all (n ∷ left) k height → IsHeightSoFar store all left (k + 1) (height +ℤ room)
height-more store all left k n height room classes is within so = record {
  value = height-sum height room (notes_height (notes_shown store left)) (notes_height (notes_shown store all))
      (subst (λ z. height +ℤ (z +ℤ notes_height (notes_shown store left)) ≡ notes_height (notes_shown store all)) (sym is) so.value);
  most = so.most + 2147483646 * length (list_at store n.list) + 1073741823;
  few = height-few so.most (length (list_at store n.list)) (note_count store left) k so.few;
  classes = classes;
  within = height-within so.most (length (list_at store n.list)) height room so.within within;
}

-- all of them
pub height-all : (store : Lists Node) (all : List NoteBox) (k : ℕ) (height : ℤ) → IsHeightSoFar store all [] k height → (height ≡ notes_height (notes_shown store all)) × IsWithin 18014948265590784 height
height-all store all k height so = (
  omega (arith, ints, so.value),
  record { low = omega (arith, ints, so.within.low, so.few, so.classes); high = omega (arith, ints, so.within.high, so.few, so.classes) },
)

-- it is an amount
pub so-far-amount : (store : Lists Node) (all left : List NoteBox) (k : ℕ) (height : ℤ) → IsHeightSoFar store all left k height → IsAmount height
so-far-amount store all left k height so = within-amount so.most height (omega (arith, so.few, so.classes)) so.within

-- ---- what the insertions of a class take

-- the size of its list is that of its leaves
same-size : (store : Lists Node) (n : NoteBox) (size : ℤ) → size ≡ size_of (map shape_of (list_at store n.list)) → size ≡ box_size (Some (map leaf_of (list_at store n.list)))
same-size store n size is = is ∙ sym (ap size_of (leaf_shapes (list_at store n.list)))

any-shapes : (ls : List Leaf) → has_box ls ≡ list_any is_box (map leaf_shape ls)
any-shapes [] = refl
any-shapes (l ∷ ls) = ap (λ b. is_box (leaf_shape l) || b) (any-shapes ls)

-- whether a box is in a list
pub has_box-is : (ns : List Node) → list_any is_box (map shape_of ns) ≡ has_box (map leaf_of ns)
has_box-is ns = sym (any-shapes (map leaf_of ns) ∙ ap (list_any is_box) (leaf_shapes ns))

-- the number of a class against that of what makes a page higher
pub alike : (n : ℕ) → n ≡ 255 → (n == 255) ≡ true
alike n h = grind (arith, nat_tests, h)

pub unlike : (n : ℕ) → (n ≡ 255 → ⊥) → (n == 255) ≡ false
unlike n h = by_test (n == 255) refl
  where
    by_test : (b : Bool) → (n == 255) ≡ b → b ≡ false
    by_test true e = absurd (h (eqb-true n 255 e))
    by_test false e = refl

-- a class that stands on a page, with the glue above it
pub standing-room : (store : Lists Node) (n : NoteBox) (size sum : ℤ) → IsNote store n → (n.class == 255) ≡ false → size ≡ size_of (map shape_of (list_at store n.list)) → IsWithin (2147483646 * length (list_at store n.list)) size
    → sum ≡ to_z w64 (of_z w64 size) +ℤ to_z w64 (of_z w64 n.skip.width) → (sum ≡ note_room (note_shown store n)) × IsWithin (2147483646 * length (list_at store n.list) + 1073741823) sum
standing-room store n size sum note stands is within e =
    let small : IsAmount size = within-amount (2147483646 * length (list_at store n.list)) size (omega (arith, note.list.few)) within in
    let added : sum ≡ size +ℤ n.skip.width = e ∙ (λ i. amount-cast size small i +ℤ amount-cast n.skip.width (dimension_small n.skip.width note.skip.width) i) in (
      added ∙ ap (λ z. z +ℤ n.skip.width) (same-size store n size is)
          ∙ ap (λ t. if t then enlarging_room (map leaf_of (list_at store n.list)) else box_size (Some (map leaf_of (list_at store n.list))) +ℤ n.skip.width) (sym stands),
      subst (IsWithin (2147483646 * length (list_at store n.list) + 1073741823)) (sym added) (both-within (length (list_at store n.list)) size n.skip.width within note.skip.width),
    )

-- what makes a page higher, with a box among it or without
pub enlarging-none : (store : Lists Node) (n : NoteBox) → (n.class == 255) ≡ true → has_box (map leaf_of (list_at store n.list)) ≡ true → pos 0 ≡ note_room (note_shown store n)
enlarging-none store n class some =
    ap (λ t. if t then pos 0 else box_size (Some (map leaf_of (list_at store n.list)))) (sym some)
    ∙ ap (λ t. if t then enlarging_room (map leaf_of (list_at store n.list)) else box_size (Some (map leaf_of (list_at store n.list))) +ℤ n.skip.width) (sym class)

pub enlarging-size : (store : Lists Node) (n : NoteBox) (size : ℤ) → (n.class == 255) ≡ true → has_box (map leaf_of (list_at store n.list)) ≡ false → size ≡ size_of (map shape_of (list_at store n.list)) → size ≡ note_room (note_shown store n)
enlarging-size store n size class none is =
    same-size store n size is
    ∙ ap (λ t. if t then pos 0 else box_size (Some (map leaf_of (list_at store n.list)))) (sym none)
    ∙ ap (λ t. if t then enlarging_room (map leaf_of (list_at store n.list)) else box_size (Some (map leaf_of (list_at store n.list))) +ℤ n.skip.width) (sym class)

pub list-room : (store : Lists Node) (n : NoteBox) (size : ℤ) → IsWithin (2147483646 * length (list_at store n.list)) size → IsWithin (2147483646 * length (list_at store n.list) + 1073741823) size
list-room store n size within = wider (2147483646 * length (list_at store n.list)) size within

-- it is an amount
pub room-amount : (store : Lists Node) (n : NoteBox) (room : ℤ) → IsNote store n → IsWithin (2147483646 * length (list_at store n.list) + 1073741823) room → IsAmount room
room-amount store n room note within = within-amount (2147483646 * length (list_at store n.list) + 1073741823) room (omega (arith, note.list.few)) within

-- one more
pub height-next : (store : Lists Node) (all left : List NoteBox) (k : ℕ) (n : NoteBox) (height room now : ℤ) → k + 1 ≤ 256 → IsNote store n → room ≡ note_room (note_shown store n) → IsWithin (2147483646 * length (list_at store n.list) + 1073741823) room
    → IsHeightSoFar store all (n ∷ left) k height → now ≡ height +ℤ to_z w64 (of_z w64 room) → IsHeightSoFar store all left (k + 1) (to_z w64 (of_z w64 now))
height-next store all left k n height room now classes note is within so by_now =
    let more = height-more store all left k n height room classes is within so in
    let now_is : now ≡ height +ℤ room = by_now ∙ ap (λ z. height +ℤ z) (amount-cast room (room-amount store n room note within)) in
    let kept : to_z w64 (of_z w64 now) ≡ height +ℤ room = ap (λ z. to_z w64 (of_z w64 z)) now_is ∙ amount-cast (height +ℤ room) (so-far-amount store all left (k + 1) (height +ℤ room) more) in
    subst (IsHeightSoFar store all left (k + 1)) (sym kept) more

-- ---- the size of a page

-- what a text and its insertions take together
pub page-sum : (ns : List Node) (text notes page : ℤ) → length ns ≤ 8388608 → IsAmount text → IsWithin (2147483646 * length ns) text → IsWithin 18014948265590784 notes → page ≡ to_z w64 (of_z w64 text) +ℤ to_z w64 (of_z w64 notes) → (page ≡ text +ℤ notes) × IsAmount page
page-sum ns text notes page few small within high e =
    let is : page ≡ text +ℤ notes = e ∙ (λ i. amount-cast text small i +ℤ amount-cast notes (within-amount 18014948265590784 notes (omega arith) high) i) in
    (is, subst IsAmount (sym is) (two-within (2147483646 * length ns) text notes (omega (arith, few)) within high))
  where
    two-within : (most : ℕ) (x y : ℤ) → most ≤ 18014948265590784 → IsWithin most x → IsWithin 18014948265590784 y → IsAmount (x +ℤ y)
    two-within most x y few h k = record { low = omega (arith, ints, few, h.low, k.low); high = omega (arith, ints, few, h.high, k.high) }
