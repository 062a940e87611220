-- What is read of a page before it is served: the size of its text, and what the insertions in the builder's boxes take.
use Rattle.std.proofs.Common.{◌≡◌, refl, sym, subst, ◌∙◌, ap, ℕ, zero, suc, ◌+◌, ◌-◌, ◌*◌, ◌<◌, ◌≤◌, ℤ, pos, ◌+ℤ◌, ◌-ℤ◌, List, [], ◌∷◌, ◌++◌, map, take, length, length-take, length-append, Bool, true, false, Option, Some, None, is_none, w64, to_z, of_z, rules, arith}
use Rattle.std.specs.Prelude.{◌==◌, ◌||◌, not, All, FitsSigned, if◌then◌else◌}
use Rattle.std.proofs.lemmas.Int.{ints}
use Rattle.std.proofs.lemmas.Bool.{true≢false}
use Rattle.std.proofs.lemmas.List.{length-map, map-append, take-map}
use Rattle.std.proofs.lemmas.List.Elements.{All-append, All-take, All-head, All-map}
use Rattle.tb_scaled.specs.Amount.{IsAmount}
use Rattle.tb_scaled.specs.declared.Order.TheVariants as orders
use Rattle.tb_pool.specs.Lists.{Lists, list_at}
use Rattle.tb_node.specs.declared.Node.{Node}
use Rattle.tb_node.specs.PlainNodes.{Leaf, leaf_shape, PlainNode, node_shape, shape_of, plain_of, plain_list}
use Rattle.tb_node.specs.Shape.{Shape, box, glue, kern, penalty, other}
use Rattle.tb_node.specs.SmallAmounts.{IsSmallShape}
use Rattle.tb_node.specs.Fit.{IsSized, IsSizedNode, IsSizedLeaf, IsSummable}
use Rattle.tb_node.specs.Sums.{room_of, size_of, depth_after, depth_from, last_depth}
use Rattle.tb_node.proofs.FitLemmas as fits
use Rattle.tb_node.proofs.FitLemmas.{dimension_small}
use Rattle.tb_node.proofs.ExtentLemmas.{Extending, extent-small, extent-goes_on}
use Rattle.tb_insert.specs.declared.Class.{Class}
use Rattle.tb_builder.specs.FiredPages.{Boxed, content_of, box_content, box_size}
use Rattle.tb_builder.specs.Contents.{box_count}
use Rattle.tb_builder.specs.SizedContents.{AreBoxesOf}
use Rattle.tb_builder.specs.PageEvents.{SizesFit}
use Rattle.tb_builder.proofs.Ranges.PageableLemmas.{sizes_fit}
use Rattle.tb_float.specs.Ranges.{IsWithin}
use Rattle.tb_column.specs.Column.{Notes, has_box, standing_notes}
use Rattle.tb_column.specs.Page.{IsPageList}
use Rattle.tb_column.specs.Ranges.{IsSizedGlue}
use Rattle.tb_column.proofs.ShownLemmas.{shapes-held}
use Rattle.tb_output.specs.declared.reading.Reading.{Reading}
use Rattle.tb_output.specs.State.{with_notes, notes_in}
use Rattle.tb_output.specs.Text.{without_firing_box, notes_height}
use Rattle.tb_output.specs.Machine.{AreClassesFrom}
use Rattle.tb_output.specs.Firing.{AreSizedBoxes}
use Rattle.tb_output.specs.Reading.{any_notes, IsReading}
use Rattle.tb_output.proofs.ColumnPages.SizeLemmas.{taken, IsTaken, within-amount, amount-cast}
use Rattle.tb_output.proofs.InText.ExtentLemmas.{room-both}
use Rattle.tb_output.proofs.Firings.ClassesTaken.{inner_count, sized-content, count-in}

-- ---- the text

depth-both : (d : ℤ) (xs ys : List Node) → depth_from (depth_from d (map shape_of xs)) (map shape_of ys) ≡ depth_from d (map shape_of (xs ++ ys))
depth-both d [] ys = refl
depth-both d (x ∷ xs) ys = depth-both (depth_after d (shape_of x)) xs ys

-- the room of a node of a small shape
pub small-room : (n : Shape) → IsSmallShape n → IsAmount (room_of n)
small-room (box h d) s = s.2
small-room (glue g) s = s.0
small-room (kern w) s = s
small-room (penalty p) s = record { low = omega (arith, ints); high = omega (arith, ints) }
small-room other s = record { low = omega (arith, ints); high = omega (arith, ints) }

module _ (store : Lists Node) (held body : ℕ) where
  -- the page without its last two nodes
  abbrev cut : List Node
  cut = take (length (list_at store body) - 2) (list_at store body)

  -- the nodes of the text
  abbrev pub text : List Node
  text = list_at store held ++ cut

  -- they are those of the definition
  pub text-shapes : map shape_of text ≡ map node_shape (plain_list store held ++ without_firing_box (plain_list store body))
  text-shapes =
      sym (shapes-held (list_at store) text)
      ∙ ap (map node_shape)
      (map-append (plain_of (list_at store)) (list_at store held) cut
      ∙ ap (λ (xs : List PlainNode). plain_list store held ++ xs)
      (sym (take-map (plain_of (list_at store)) (length (list_at store body) - 2) (list_at store body))
      ∙ ap (λ n. take (n - 2) (plain_list store body)) (sym (length-map (list_at store body) (plain_of (list_at store))))))

  module _ (first : IsPageList store held) (page : IsPageList store body) where
    pub text-sized : All IsSizedNode text
    text-sized = All-append IsSizedNode (list_at store held) cut first.sized (All-take IsSizedNode (length (list_at store body) - 2) (list_at store body) page.sized)

    module _ (few : length (list_at store body) + length (list_at store held) ≤ 8388608) where
      pub text-few : length text ≤ 8388608
      text-few =
          let least = length-take (length (list_at store body) - 2) (list_at store body) in
          let all = length-append (list_at store held) cut in
          omega (arith, few, least, all)

      pub text-summable : IsSummable (map shape_of text)
      text-summable = fits.summable text text-sized text-few

      -- ---- the walk

      pub text-begins : (room depth : ℤ) (left : ℕ) → room ≡ size_of (map shape_of (list_at store held)) → depth ≡ last_depth (map shape_of (list_at store held)) → left ≡ length (list_at store body) - 2
          → Extending (map shape_of text) room depth (map shape_of (take left (list_at store body)))
      text-begins room depth left r d is =
          subst (λ k. Extending (map shape_of text) room depth (map shape_of (take k (list_at store body)))) (sym is) (record {
            size = ap (λ z. z +ℤ size_of (map shape_of cut)) r ∙ room-both (list_at store held) cut;
            deep = ap (λ z. depth_from z (map shape_of cut)) d ∙ depth-both (pos 0) (list_at store held) cut;
            left = fits.summable cut (All-take IsSizedNode (length (list_at store body) - 2) (list_at store body) page.sized)
                (let least = length-take (length (list_at store body) - 2) (list_at store body) in omega (arith, few, least));
          })

      module _ (room depth : ℤ) where
        pub text-amount : (left : ℕ) (rest : List Node) → Extending (map shape_of text) room depth (map shape_of (take left rest)) → IsAmount room
        text-amount left rest h = extent-small (map shape_of text) room depth (map shape_of (take left rest)) text-summable h

        -- one node more
        pub text-node : (left : ℕ) (n : Node) (rest : List Node) → (left ≡ 0 → ⊥) → Extending (map shape_of text) room depth (map shape_of (take left (n ∷ rest))) → IsSmallShape (shape_of n)
        text-node zero n rest some h = absurd (some refl)
        text-node (suc left) n rest some h = fits.sized-fits (shape_of n) (All-head IsSized (shape_of n) (map shape_of (take left rest)) h.left.sized)

        pub text-goes_on : (left : ℕ) (n : Node) (rest : List Node) (room' depth' : ℤ) → (left ≡ 0 → ⊥) → room' ≡ room +ℤ room_of (shape_of n) → depth' ≡ depth_after depth (shape_of n)
            → Extending (map shape_of text) room depth (map shape_of (take left (n ∷ rest))) → Extending (map shape_of text) room' depth' (map shape_of (take (left - 1) rest))
        text-goes_on zero n rest room' depth' some r d h = absurd (some refl)
        text-goes_on (suc left) n rest room' depth' some r d h =
            let less : left ≡ suc left - 1 = omega arith in
            subst (λ k. Extending (map shape_of text) room' depth' (map shape_of (take k rest))) less
            (extent-goes_on (map shape_of text) room depth (shape_of n) (map shape_of (take left rest)) room' depth' r d h)

        -- no node is left of it
        pub text-stops : (left : ℕ) (rest : List Node) → left ≡ 0 → Extending (map shape_of text) room depth (map shape_of (take left rest)) → Extending (map shape_of text) room depth []
        text-stops left rest none h = subst (λ k. Extending (map shape_of text) room depth (map shape_of (take k rest))) none h

        pub text-ends : (left : ℕ) (rest : List Node) → rest ≡ [] → Extending (map shape_of text) room depth (map shape_of (take left rest)) → Extending (map shape_of text) room depth []
        text-ends left rest none h = by_left left (subst (λ (ns : List Node). Extending (map shape_of text) room depth (map shape_of (take left ns))) none h)
          where
            by_left : (k : ℕ) → Extending (map shape_of text) room depth (map shape_of (take k [])) → Extending (map shape_of text) room depth []
            by_left zero h = h
            by_left (suc k) h = h

-- ---- the box of a class

count-at : (bs : List Boxed) (k : ℕ) → length (content_of (box_content bs k)) ≤ box_count bs
count-at [] k = omega arith
count-at (b ∷ bs) k = by_number (b.number == k) (count-at bs k)
  where
    by_number : (t : Bool) → length (content_of (box_content bs k)) ≤ box_count bs → length (content_of (if t then b.content else box_content bs k)) ≤ length (content_of b.content) + box_count bs
    by_number true h = omega arith
    by_number false h = omega (arith, h)

shapes-sized : (o : Option (List Leaf)) → All IsSizedLeaf (content_of o) → All IsSized (map leaf_shape (content_of o))
shapes-sized o h = All-map IsSized leaf_shape (content_of o) h

-- what it holds takes no more than this
content-within : (o : Option (List Leaf)) → All IsSizedLeaf (content_of o) → IsWithin (2147483646 * length (content_of o)) (box_size o)
content-within o h =
    let n : length (map leaf_shape (content_of o)) ≡ length (content_of o) = length-map (content_of o) leaf_shape in
    let w = subst (λ k. fits.IsWithin (2147483646 * k) (box_size o)) n (fits.size_within (map leaf_shape (content_of o)) (shapes-sized o h)) in
    record { low = w.low; high = w.high }

-- what the insertions of a class take with the glue above them, or what makes a page higher takes
abbrev room_by : Bool → Bool → Class → List Leaf → ℤ
room_by higher some c inner = if higher then (if some then pos 0 else box_size (Some inner)) else box_size (Some inner) +ℤ c.skip.width

height-of : (c : Class) (inner : List Leaf) → notes_height (with_notes c (Some inner) []) ≡ room_by (c.number == 255) (has_box inner) c inner
height-of c inner = plain (room_by (c.number == 255) (has_box inner) c inner)
  where
    plain : (z : ℤ) → z +ℤ pos 0 ≡ z
    plain z = omega (arith, ints)

-- by the tests
by-room : (higher some : Bool) (c : Class) (o : Option (List Leaf)) → is_none o ≡ false → (c.number == 255) ≡ higher → has_box (content_of o) ≡ some → notes_height (with_notes c o []) ≡ room_by higher some c (content_of o)
by-room higher some c None h e f = absurd (true≢false h)
by-room higher some c (Some inner) h e f = height-of c inner ∙ (λ i. room_by (e i) (f i) c inner)

no-height : (c : Class) (o : Option (List Leaf)) → is_none o ≡ true → pos 0 ≡ notes_height (with_notes c o [])
no-height c None h = refl
no-height c (Some inner) h = absurd (true≢false (sym h))

module _ (c : Class) (bs : List Boxed) (sized : AreSizedBoxes bs) (few : box_count bs ≤ 8388608) where
  abbrev own : Option (List Leaf)
  own = box_content bs c.number

  -- it can be measured
  pub box-fits : SizesFit (map leaf_shape (content_of own))
  box-fits =
      sizes_fit (map leaf_shape (content_of own)) (shapes-sized own (sized-content bs c.number sized))
      (let n = length-map {B = Shape} (content_of own) leaf_shape in let less = count-at bs c.number in omega (arith, n, less, few))

  pub box-amount : IsAmount (box_size own)
  box-amount = within-amount (2147483646 * length (content_of own)) (box_size own) (let less = count-at bs c.number in omega (arith, less, few)) (content-within own (sized-content bs c.number sized))

  tests-within : (higher some : Bool) (inner : List Leaf) → IsWithin (2147483646 * length inner) (box_size (Some inner)) → IsSizedGlue c.skip → IsWithin (2147483646 * length inner + 1073741823) (room_by higher some c inner)
  tests-within true true inner i skip = record { low = omega (arith, ints); high = omega (arith, ints) }
  tests-within true false inner i skip = record { low = omega (arith, ints, i.low); high = omega (arith, ints, i.high) }
  tests-within false some inner i skip = record { low = omega (arith, ints, i.low, skip.width.low); high = omega (arith, ints, i.high, skip.width.high) }

  room-within : (o : Option (List Leaf)) → All IsSizedLeaf (content_of o) → IsSizedGlue c.skip → IsWithin (2147483646 * length (content_of o) + 1073741823) (notes_height (with_notes c o []))
  room-within None h skip = record { low = omega (arith, ints); high = omega (arith, ints) }
  room-within (Some inner) h skip =
      subst (IsWithin (2147483646 * length inner + 1073741823)) (sym (height-of c inner)) (tests-within (c.number == 255) (has_box inner) inner (content-within (Some inner) h) skip)

  -- with the glue above it
  pub room-amount : IsSizedGlue c.skip → (room : ℤ) → room ≡ notes_height (notes_in (c ∷ []) bs) → IsAmount room
  room-amount skip room is =
      subst IsAmount (sym is)
      (within-amount (2147483646 * length (content_of own) + 1073741823) (notes_height (with_notes c own [])) (let less = count-at bs c.number in omega (arith, less, few)) (room-within own (sized-content bs c.number sized) skip))

  pub box-sum : IsSizedGlue c.skip → (size : ℤ) → size ≡ box_size own → to_z w64 (of_z w64 size) +ℤ to_z w64 (of_z w64 c.skip.width) ≡ size +ℤ c.skip.width
  box-sum skip size is = λ i. amount-cast size (subst IsAmount (sym is) box-amount) i +ℤ amount-cast c.skip.width (dimension_small c.skip.width skip.width) i

  pub box-void : is_none own ≡ true → pos 0 ≡ notes_height (notes_in (c ∷ []) bs)
  box-void h = no-height c own h

  pub box-full : (size height : ℤ) → is_none own ≡ false → (c.number == 255) ≡ false → size ≡ box_size own → height ≡ size +ℤ c.skip.width → height ≡ notes_height (notes_in (c ∷ []) bs)
  box-full size height h stands s e = e ∙ ap (λ z. z +ℤ c.skip.width) (s ∙ full-size own h) ∙ sym (by-room false (has_box (content_of own)) c own h stands refl)
    where
      full-size : (o : Option (List Leaf)) → is_none o ≡ false → box_size o ≡ box_size (Some (content_of o))
      full-size None h = absurd (true≢false h)
      full-size (Some inner) h = refl

  -- of what makes a page higher
  pub box-none : is_none own ≡ false → (c.number == 255) ≡ true → has_box (content_of own) ≡ true → pos 0 ≡ notes_height (notes_in (c ∷ []) bs)
  box-none h class some = sym (by-room true true c own h class some)

  pub box-size : (size : ℤ) → is_none own ≡ false → (c.number == 255) ≡ true → has_box (content_of own) ≡ false → size ≡ box_size own → size ≡ notes_height (notes_in (c ∷ []) bs)
  box-size size h class none s = s ∙ full-size own h ∙ sym (by-room true false c own h class none)
    where
      full-size : (o : Option (List Leaf)) → is_none o ≡ false → box_size o ≡ box_size (Some (content_of o))
      full-size None h = absurd (true≢false h)
      full-size (Some inner) h = refl

-- what the box of a class held
abbrev note_in : Class → List Leaf → Notes
note_in c inner = record { class = c.number; below = c.below; skip = c.skip; inner = inner }

-- ---- the boxes of several classes

-- what comes past the end of a list of classes
abbrev pub past : Class
past = record { number = 0; factor = pos 0; limit = pos 0; below = None; skip = record { width = pos 0; stretch = pos 0; order = orders.Normal; shrink = pos 0 } }

-- the insertions of the classes before these take this height
pub record IsReadSoFar (all left : List Class) (bs : List Boxed) (k : ℕ) (height : ℤ) : Type 0 where
  pub value : height +ℤ notes_height (notes_in left bs) ≡ notes_height (notes_in all bs)
  pub most : ℕ
  pub few : most + 2147483646 * inner_count (notes_in left bs) ≤ 18014398492704768 + 1073741823 * k
  pub within : IsWithin most height
  pub least : ℕ
  pub rising : AreClassesFrom least left
  pub passed : k ≤ least
  pub top : k ≤ 256

pub read-begun : (cs : List Class) (bs : List Boxed) → AreClassesFrom 0 cs → AreBoxesOf cs bs → box_count bs ≤ 8388608 → IsReadSoFar cs cs bs 0 (pos 0)
read-begun cs bs rising boxes few = record {
  value = omega (arith, ints);
  most = 0;
  few = let less = count-in 0 cs bs rising boxes in omega (arith, less, few);
  within = record { low = omega (arith, ints); high = omega (arith, ints) };
  least = 0;
  rising = rising;
  passed = omega arith;
  top = omega arith;
}

-- the sum with one more class
record IsMore (ns : List Notes) (k : ℕ) (height whole : ℤ) : Type 0 where
  pub value : height +ℤ notes_height ns ≡ whole
  pub most : ℕ
  pub few : most + 2147483646 * inner_count ns ≤ 18014398492704768 + 1073741823 * k
  pub within : IsWithin most height

more : (c : Class) (o : Option (List Leaf)) (ns : List Notes) (most k : ℕ) (height room whole : ℤ) → IsSizedGlue c.skip → All IsSizedLeaf (content_of o) → room ≡ notes_height (with_notes c o [])
    → height +ℤ notes_height (with_notes c o ns) ≡ whole → most + 2147483646 * inner_count (with_notes c o ns) ≤ 18014398492704768 + 1073741823 * k → IsWithin most height → IsMore ns (k + 1) (height +ℤ room) whole
more c None ns most k height room whole skip sized r e few w = record {
  value = omega (arith, ints, r, e);
  most = most;
  few = omega (arith, few);
  within = record { low = omega (arith, ints, r, w.low); high = omega (arith, ints, r, w.high) };
}
more c (Some inner) ns most k height room whole skip sized r e few w =
    let i = class-within (c.number == 255) (has_box inner) in
    let is : room ≡ room_by (c.number == 255) (has_box inner) c inner = r ∙ height-of c inner in record {
      value = summed (room_by (c.number == 255) (has_box inner) c inner) is e;
      most = most + 2147483646 * length inner + 1073741823;
      few = omega (arith, few);
      within = added (room_by (c.number == 255) (has_box inner) c inner) is i;
    }
  where
    class-within : (higher some : Bool) → IsWithin (2147483646 * length inner + 1073741823) (room_by higher some c inner)
    class-within true true = record { low = omega (arith, ints); high = omega (arith, ints) }
    class-within true false = let i = content-within (Some inner) sized in record { low = omega (arith, ints, i.low); high = omega (arith, ints, i.high) }
    class-within false some = let i = content-within (Some inner) sized in record { low = omega (arith, ints, i.low, skip.width.low); high = omega (arith, ints, i.high, skip.width.high) }

    summed : (z : ℤ) → room ≡ z → height +ℤ (z +ℤ notes_height ns) ≡ whole → (height +ℤ room) +ℤ notes_height ns ≡ whole
    summed z is h = omega (arith, ints, is, h)

    added : (z : ℤ) → room ≡ z → IsWithin (2147483646 * length inner + 1073741823) z → IsWithin (most + 2147483646 * length inner + 1073741823) (height +ℤ room)
    added z is h = record { low = omega (arith, ints, is, h.low, w.low); high = omega (arith, ints, is, h.high, w.high) }

pub read-amount : (all left : List Class) (bs : List Boxed) (k : ℕ) (height : ℤ) → IsReadSoFar all left bs k height → IsAmount height
read-amount all left bs k height h = within-amount h.most height (omega (arith, h.few, h.top)) h.within

pub read-next : (all rest : List Class) (bs : List Boxed) (k : ℕ) (c : Class) (height room : ℤ) → AreSizedBoxes bs → c.number < 256 → room ≡ notes_height (notes_in (c ∷ []) bs) → IsReadSoFar all (c ∷ rest) bs k height → IsReadSoFar all rest bs (k + 1) (height +ℤ room)
read-next all rest bs k c height room sized byte r h =
    let next = more c (box_content bs c.number) (notes_in rest bs) h.most k height room (notes_height (notes_in all bs)) h.rising.1 (sized-content bs c.number sized) r h.value h.few h.within in
    record {
      value = next.value;
      most = next.most;
      few = next.few;
      within = next.within;
      least = suc c.number;
      rising = h.rising.2;
      passed = omega (arith, h.passed, h.rising.0);
      top = omega (arith, h.passed, h.rising.0, byte);
    }

pub read-all : (all : List Class) (bs : List Boxed) (k : ℕ) (height : ℤ) → IsReadSoFar all [] bs k height → (height ≡ notes_height (notes_in all bs)) × IsWithin 18014948265590784 height
read-all all bs k height h = (
  omega (arith, ints, h.value),
  record { low = omega (arith, ints, h.within.low, h.few, h.top); high = omega (arith, ints, h.within.high, h.few, h.top) },
)

-- ---- whether there are any

-- those of the first class, or those of the others
any-of : (c : Class) (o : Option (List Leaf)) (ns : List Notes) → any_notes (standing_notes (with_notes c o ns)) ≡ (any_notes (standing_notes (with_notes c o [])) || any_notes (standing_notes ns))
any-of c None ns = refl
any-of c (Some inner) ns = by_test (not (c.number == 255))
  where
    by_test : (b : Bool) → any_notes (if b then note_in c inner ∷ standing_notes ns else standing_notes ns) ≡ (any_notes (if b then note_in c inner ∷ [] else []) || any_notes (standing_notes ns))
    by_test true = refl
    by_test false = refl

pub any-split : (c : Class) (cs : List Class) (bs : List Boxed) → any_notes (standing_notes (notes_in (c ∷ cs) bs)) ≡ (any_notes (standing_notes (notes_in (c ∷ []) bs)) || any_notes (standing_notes (notes_in cs bs)))
any-split c cs bs = any-of c (box_content bs c.number) (notes_in cs bs)

-- what makes a page higher stands nowhere
pub none-stands : (c : Class) (bs : List Boxed) → (c.number == 255) ≡ true → false ≡ any_notes (standing_notes (notes_in (c ∷ []) bs))
none-stands c bs e = by_content (box_content bs c.number)
  where
    by_content : (o : Option (List Leaf)) → false ≡ any_notes (standing_notes (with_notes c o []))
    by_content None = refl
    by_content (Some inner) = ap (λ t. any_notes (if not t then note_in c inner ∷ [] else [])) (sym e)

-- another class stands if its box is not void
pub one-stands : (c : Class) (bs : List Boxed) → (c.number == 255) ≡ false → not (is_none (box_content bs c.number)) ≡ any_notes (standing_notes (notes_in (c ∷ []) bs))
one-stands c bs e = by_content (box_content bs c.number)
  where
    by_content : (o : Option (List Leaf)) → not (is_none o) ≡ any_notes (standing_notes (with_notes c o []))
    by_content None = refl
    by_content (Some inner) = ap (λ t. any_notes (if not t then note_in c inner ∷ [] else [])) (sym e)

-- ---- the whole

-- an amount fits 64 bits
pub fits-amount : (z : ℤ) → IsAmount z → FitsSigned w64 z
fits-amount z h = search (rules, ints, h.low, h.high)

-- the text is short enough to be summed
pub short : (store : Lists Node) (held body count : ℕ) → length (list_at store body) + length (list_at store held) + count ≤ 8355839 → length (list_at store body) + length (list_at store held) ≤ 8388608
short store held body count few = omega (arith, few)

module _ (store : Lists Node) (held body : ℕ) (first : IsPageList store held) (page : IsPageList store body) (few : length (list_at store body) + length (list_at store held) ≤ 8388608) (room depth : ℤ) (r : room ≡ size_of (map shape_of (text store held body))) (d : depth ≡ last_depth (map shape_of (text store held body))) where
  pub text-taken : IsTaken (text store held body) room depth
  text-taken = taken (text store held body) room depth (text-sized store held body first page) (text-few store held body first page few) r d

  both-within : (k : ℕ) (x y : ℤ) → k ≤ 18014948265590784 → IsWithin k x → IsWithin 18014948265590784 y → IsAmount (x +ℤ y)
  both-within k x y most h e = record { low = omega (arith, ints, most, h.low, e.low); high = omega (arith, ints, most, h.high, e.high) }

  pub page-amount : (notes : ℤ) → IsWithin 18014948265590784 notes → IsAmount (room +ℤ notes)
  page-amount notes within =
      both-within (2147483646 * length (text store held body)) room notes (let n = text-few store held body first page few in omega (arith, n)) text-taken.within within

  pub reading-is : (notes : List Notes) (z : Reading) (high : ℤ) → high ≡ notes_height notes → IsWithin 18014948265590784 high → z.height ≡ room -ℤ depth → z.page_height ≡ room +ℤ high → z.has_notes ≡ any_notes (standing_notes notes)
      → IsReading z (plain_list store held ++ without_firing_box (plain_list store body)) notes
  reading-is notes z high is within h p n =
      let same = text-shapes store held body in
      record {
        height = h ∙ (λ i. (r ∙ ap size_of same) i -ℤ (d ∙ ap last_depth same) i);
        page_height = p ∙ (λ i. (r ∙ ap size_of same) i +ℤ is i);
        has_notes = n;
        small_height = subst IsAmount (sym h) text-taken.height;
        small_page = subst IsAmount (sym p) (page-amount high within);
      }
