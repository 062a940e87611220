-- A page that fires becomes a column, and what goes back after it.
use Rattle.std.proofs.Common.{◌≡◌, ◌≢◌, refl, sym, ap, subst, ◌∙◌, ℕ, ◌≤◌, ◌+◌, ℤ, pos, negsuc, neg_ℤ, ◌≤ℤ◌, Bool, true, false, List, [], ◌∷◌, ◌++◌, map, length, length-append, Option, None, Some, unwrap_or, is_some, arith}
use Rattle.std.specs.Prelude.{All, ◌&&◌, nat_lt, int_le, int_lt, if◌then◌else◌}
use Rattle.std.specs.FinMap.{get}
use Rattle.std.proofs.lemmas.Int.{ints}
use Rattle.std.proofs.lemmas.Bool.Decides.{nat_tests}
use Rattle.std.proofs.lemmas.List.{length-map}
use Rattle.std.proofs.lemmas.List.Elements.{All-nil, All-cons, All-head, All-tail, All-append, All-map}
use Rattle.tb_scaled.specs.Scaled.{min_ℤ}
use Rattle.tb_scaled.specs.Glue.{filling_glue}
use Rattle.tb_pool.specs.Lists.{Lists, list_at, with_list}
use Rattle.tb_pool.proofs.CallerLemmas.{list_same, live_same, get_other}
use Rattle.tb_node.specs.declared.RuleOf.TheVariants.{Footnotes}
use Rattle.tb_node.specs.declared.Node.{Node}
use Rattle.tb_node.specs.declared.Kind.TheVariants as node_kinds
use Rattle.tb_node.specs.PlainNodes.{rule, skip, kerned, Leaf, leaf_node, PlainNode, plain_of, node_shape, shape_of, made, plain_list}
use Rattle.tb_node.specs.Sums.{last_depth, limited_depth}
use Rattle.tb_node.specs.Fit.{IsDimension, IsExtent, IsSized, IsSizedNode, IsSizedPlain, IsSizedLeaf, shapes}
use Rattle.tb_node.proofs.FitLemmas.{last_depth_extent, limited_extent}
use Rattle.tb_param.specs.declared.Params.{Params}
use Rattle.tb_pack.specs.declared.Set.{Set}
use Rattle.tb_pack.specs.Pack.{packed}
use Rattle.tb_builder.specs.declared.Builder.{Builder}
use Rattle.tb_builder.specs.declared.Page.{Page}
use Rattle.tb_builder.specs.FiredPages.{Boxed, Fired, box_content, content_of}
use Rattle.tb_builder.specs.Contents.{Contents, contents_of, box_count}
use Rattle.tb_builder.specs.Ownership.{Lacks, has_class, ids_of, owned, AllPlain}
use Rattle.tb_builder.specs.Pageable.{IsSizedBox}
use Rattle.tb_builder.specs.Courses.{IsSound}
use Rattle.tb_builder.specs.Contributions.{ListJoins, NoPage, with_void}
use Rattle.tb_builder.proofs.Ownership.OwnedLemmas.{AllSame}
use Rattle.tb_builder.proofs.Ownership.FrameLemmas.{opened_same, frame_owned, frame_contents, frame_sound, fresh_apart}
use Rattle.tb_builder.proofs.Ownership.NewLemmas.{fresh_lacks}
use Rattle.tb_builder.proofs.Ranges.PageableLemmas.{content_sized}
use Rattle.tb_builder.proofs.WorkedPages.WorkedLemmas.{list_joins}
use Rattle.tb_column.specs.declared.Column.{Column}
use Rattle.tb_column.specs.declared.ColumnKind.TheVariants as kinds
use Rattle.tb_column.specs.Column.{is_ragged}
use Rattle.tb_column.specs.StoredColumns.{column_shown}
use Rattle.tb_column.specs.Page.{AreLeaves, IsPageList, IsPageColumn}
use Rattle.tb_column.specs.FloatColumns.{made_node}
use Rattle.tb_column.specs.Ranges.{IsSizedGlue}
use Rattle.tb_column.proofs.ClosingLemmas.{kept_width}
use Rattle.tb_column.proofs.ShownLemmas.{shapes-held}
use Rattle.tb_plain.specs.declared.Plain.{Plain}
use Rattle.tb_plain.specs.declared.PlainPage.{PlainPage}
use Rattle.tb_plain.specs.GalleyNodes.{clearing_penalty}
use Rattle.tb_plain.specs.Firing.{ragged_end, feet_below, makeup_column_nodes, makeup_column, holds_any, page_for_held, put_back_after}
use Rattle.tb_plain.specs.StoredLists.{end_list, held_list, back_list, Grows}
use Rattle.tb_plain.specs.MakeupCalls.{AreMakeupParams, CanFire, fired_with, HasFired}
use Rattle.tb_plain.proofs.GrowLemmas.{grows-then, grows-among, put-grows, put-sound, put-contents, put-owned, other-box, two-counts, shown-anywhere}

-- ---- the end of the column

-- the kern and the glue at a ragged bottom
abbrev pub ragged_list : ℤ → List Node
ragged_list depth = made_node (node_kinds.Kern (neg_ℤ depth)) ∷ made_node (node_kinds.Skip filling_glue) ∷ []

pub end-none : (p : Params) (depth : ℤ) → is_ragged p.bottom ≡ false → end_list p depth ≡ []
end-none p depth e = ap (λ x. if x then ragged_list depth else []) e

pub end-both : (p : Params) (depth : ℤ) → is_ragged p.bottom ≡ true → end_list p depth ≡ ragged_list depth
end-both p depth e = ap (λ x. if x then ragged_list depth else []) e

end-leaves : (p : Params) (depth : ℤ) → AreLeaves (end_list p depth)
end-leaves p depth = by_test (is_ragged p.bottom)
  where
    by_test : (x : Bool) → AreLeaves (if x then ragged_list depth else [])
    by_test true = (tt, (tt, tt))
    by_test false = tt

end-shown : (p : Params) (s : Lists Node) (body : ℕ) (depth : ℤ) (held : ℕ → List Node) → depth ≡ limited_depth p.maxdepth (shapes s body)
    → map (plain_of held) (end_list p depth) ≡ (if is_ragged p.bottom then ragged_end p (plain_list s body) else [])
end-shown p s body depth held e = by_test (is_ragged p.bottom)
  where
    same : depth ≡ min_ℤ (last_depth (map node_shape (plain_list s body))) p.maxdepth
    same = e ∙ ap (limited_depth p.maxdepth) (sym (shapes-held (list_at s) (list_at s body)))

    by_test : (x : Bool) → map (plain_of held) (if x then ragged_list depth else []) ≡ (if x then ragged_end p (plain_list s body) else [])
    by_test true = ap (λ d. map (plain_of held) (ragged_list d)) same
    by_test false = refl

-- the depth of a text, limited as that of a page
pub body-extent : (p : Params) (ns : List Node) → IsExtent p.maxdepth → All IsSizedNode ns → IsExtent (limited_depth p.maxdepth (map shape_of ns))
body-extent p ns limit sized = limited_extent p.maxdepth (last_depth (map shape_of ns)) limit.low (last_depth_extent (map shape_of ns) (All-map IsSized shape_of ns sized))

-- ---- all that the column holds, step by step

module _ (p : Params) (b c d : Builder) (s r t u : Lists Node) (page : Page) (l : ℕ) (can : CanFire b s page) (free : Lacks l (owned (ids_of b) s)) (apart : l ≢ page.body)
    (text : Grows l (l ∷ page.body ∷ []) (map leaf_node (content_of (box_content (contents_of b s).boxes 253)) ++ plain_list s page.body) (with_void 253 (contents_of b s).boxes) b s c r)
    (feet : Grows l (l ∷ []) (feet_below p (box_content (contents_of c r).boxes 254)) (with_void 254 (contents_of c r).boxes) c r d t) where
  abbrev boxes : List Boxed
  boxes = (contents_of b s).boxes

  abbrev text_nodes : List PlainNode
  text_nodes = map leaf_node (content_of (box_content boxes 253)) ++ plain_list s page.body

  boxes-are : (contents_of c r).boxes ≡ with_void 253 boxes
  boxes-are = ap (λ (x : Contents). x.boxes) text.contents

  feet-are : Grows l (l ∷ []) (feet_below p (box_content boxes 254)) (with_void 254 (with_void 253 boxes)) c r d t
  feet-are =
      subst (λ (o : Option (List Leaf)). Grows l (l ∷ []) (feet_below p o) (with_void 254 (with_void 253 boxes)) c r d t) (other-box 253 254 (λ e. omega (arith, e)) boxes)
      (subst (λ (bs : List Boxed). Grows l (l ∷ []) (feet_below p (box_content bs 254)) (with_void 254 bs) c r d t) boxes-are feet)

  among : (q : ℕ) → Lacks q (l ∷ page.body ∷ []) → Lacks q (l ∷ [])
  among q h = (h.0, tt)

  two-grow : Grows l (l ∷ page.body ∷ []) (text_nodes ++ feet_below p (box_content boxes 254)) (with_void 254 (with_void 253 boxes)) b s d t
  two-grow =
      grows-then l (l ∷ page.body ∷ []) text_nodes (feet_below p (box_content boxes 254)) (with_void 253 boxes) (with_void 254 (with_void 253 boxes)) b c d s r t text
      (grows-among l (l ∷ []) (l ∷ page.body ∷ []) (feet_below p (box_content boxes 254)) (with_void 254 (with_void 253 boxes)) c d r t among feet-are)

  body-free : Lacks page.body (owned (ids_of c) r)
  body-free = text.keeps page.body can.free

  pub end-free : Lacks l (owned (ids_of d) t)
  end-free = two-grow.keeps l free

  module _ (depth : ℤ) (is : depth ≡ limited_depth p.maxdepth (shapes s page.body)) (put : u.lists ≡ with_list t l (list_at t l ++ end_list p depth)) where
    end-grows : Grows l (l ∷ []) (if is_ragged p.bottom then ragged_end p (plain_list s page.body) else []) (with_void 254 (with_void 253 boxes)) d t d u
    end-grows =
        subst (λ (bs : List Boxed). Grows l (l ∷ []) (if is_ragged p.bottom then ragged_end p (plain_list s page.body) else []) bs d t d u) (ap (λ (x : Contents). x.boxes) two-grow.contents)
        (put-grows d t u l two-grow.sound end-free (end_list p depth) put (if is_ragged p.bottom then ragged_end p (plain_list s page.body) else []) (end-leaves p depth) (λ held. end-shown p s page.body depth held is))

    pub all-grow : Grows l (l ∷ page.body ∷ []) (makeup_column_nodes p (fired_with b s page)) (with_void 254 (with_void 253 boxes)) b s d u
    all-grow =
        grows-then l (l ∷ page.body ∷ []) (text_nodes ++ feet_below p (box_content boxes 254)) (if is_ragged p.bottom then ragged_end p (plain_list s page.body) else [])
        (with_void 254 (with_void 253 boxes)) (with_void 254 (with_void 253 boxes)) b d d s t u two-grow
        (grows-among l (l ∷ []) (l ∷ page.body ∷ []) (if is_ragged p.bottom then ragged_end p (plain_list s page.body) else []) (with_void 254 (with_void 253 boxes)) d d t u among end-grows)

    pub still-emptied : get r.lists page.body ≡ Some [] → get u.lists page.body ≡ Some []
    still-emptied e = get_other t u l (list_at t l ++ end_list p depth) page.body (λ x. apart (sym x)) put ∙ feet.others page.body ((λ x. apart (sym x)), tt) body-free ∙ e

-- ---- the nodes are sized, and not too many

unmap : {X Y : Type 0} (P : X → Type 0) (f : Y → X) (ys : List Y) → All P (map f ys) → All (λ y. P (f y)) ys
unmap P f [] h = All-nil (λ y. P (f y))
unmap P f (y ∷ ys) h = All-cons (λ z. P (f z)) y ys (All-head P (f y) (map f ys) h) (unmap P f ys (All-tail P (f y) (map f ys) h))

abbrev AreSized : List PlainNode → Type 0
AreSized ns = All IsSizedPlain ns

leaves-sized : (ls : List Leaf) → All IsSizedLeaf ls → AreSized (map leaf_node ls)
leaves-sized ls h = All-map IsSizedPlain leaf_node ls h

shown-sized : (s : Lists Node) (l : ℕ) → All IsSizedNode (list_at s l) → AreSized (plain_list s l)
shown-sized s l h = unmap IsSized node_shape (plain_list s l) (subst (All IsSized) (sym (shapes-held (list_at s) (list_at s l))) (All-map IsSized shape_of (list_at s l) h))

number : (z : ℤ) → neg_ℤ (pos 1073741823) ≤ℤ z → z ≤ℤ pos 1073741823 → IsDimension z
number z low high = record { low = low; high = high }

extent : (z : ℤ) → pos 0 ≤ℤ z → z ≤ℤ pos 1073741823 → IsExtent z
extent z low high = record { low = low; high = high }

feet-sized : (p : Params) (o : Option (List Leaf)) → IsSizedGlue p.skipfootins → All IsSizedLeaf (content_of o) → AreSized (feet_below p o)
feet-sized p None foot h = All-nil IsSizedPlain
feet-sized p (Some ls) foot h =
    All-cons IsSizedPlain (made (skip p.skipfootins)) (made (kerned (negsuc 196607)) ∷ made (rule Footnotes (pos 26214) (pos 0)) ∷ made (kerned (pos 170394)) ∷ map leaf_node ls) (foot.width, foot.stretch, foot.shrink)
    (All-cons IsSizedPlain (made (kerned (negsuc 196607))) (made (rule Footnotes (pos 26214) (pos 0)) ∷ made (kerned (pos 170394)) ∷ map leaf_node ls) (number (negsuc 196607) (omega (arith, ints)) (omega (arith, ints)))
    (All-cons IsSizedPlain (made (rule Footnotes (pos 26214) (pos 0))) (made (kerned (pos 170394)) ∷ map leaf_node ls) (extent (pos 26214) (omega (arith, ints)) (omega (arith, ints)), extent (pos 0) (omega (arith, ints)) (omega (arith, ints)))
    (All-cons IsSizedPlain (made (kerned (pos 170394))) (map leaf_node ls) (number (pos 170394) (omega (arith, ints)) (omega (arith, ints))) (leaves-sized ls h))))

end-sized : (p : Params) (ns : List PlainNode) → IsExtent p.maxdepth → AreSized ns → AreSized (if is_ragged p.bottom then ragged_end p ns else [])
end-sized p ns limit sized = by_test (is_ragged p.bottom)
  where
    by_test : (x : Bool) → AreSized (if x then ragged_end p ns else [])
    by_test true =
        All-cons IsSizedPlain (made (kerned (neg_ℤ (min_ℤ (last_depth (map node_shape ns)) p.maxdepth)))) (made (skip filling_glue) ∷ []) (kept_width p.maxdepth (last_depth (map node_shape ns)) limit.low (last_depth_extent (map node_shape ns) (All-map IsSized node_shape ns sized)))
        (All-cons IsSizedPlain (made (skip filling_glue)) [] (number (pos 0) (omega (arith, ints)) (omega (arith, ints)), number (pos 65536) (omega (arith, ints)) (omega (arith, ints)), number (pos 0) (omega (arith, ints)) (omega (arith, ints))) (All-nil IsSizedPlain))
    by_test false = All-nil IsSizedPlain

feet-few : (p : Params) (o : Option (List Leaf)) → length (feet_below p o) ≤ length (content_of o) + 4
feet-few p None = omega arith
feet-few p (Some ls) = omega (arith, length-map ls leaf_node)

end-few : (p : Params) (ns : List PlainNode) → length (if is_ragged p.bottom then ragged_end p ns else []) ≤ 2
end-few p ns = by_test (is_ragged p.bottom)
  where
    by_test : (x : Bool) → length (if x then ragged_end p ns else []) ≤ 2
    by_test true = omega arith
    by_test false = omega arith

module _ (p : Params) (params : AreMakeupParams p) (b : Builder) (s : Lists Node) (page : Page) (can : CanFire b s page) where
  abbrev f : Fired
  f = fired_with b s page

  abbrev tops : List Leaf
  tops = content_of (box_content f.boxes 253)

  abbrev foot : Option (List Leaf)
  foot = box_content f.boxes 254

  column-sized : AreSized (makeup_column_nodes p f)
  column-sized =
      All-append IsSizedPlain (map leaf_node tops ++ f.body ++ feet_below p foot) (if is_ragged p.bottom then ragged_end p f.body else [])
      (All-append IsSizedPlain (map leaf_node tops ++ f.body) (feet_below p foot)
      (All-append IsSizedPlain (map leaf_node tops) f.body (leaves-sized tops (content_sized f.boxes 253 can.boxes)) (shown-sized s page.body can.body.sized))
      (feet-sized p foot params.skipfootins (content_sized f.boxes 254 can.boxes)))
      (end-sized p f.body params.maxdepth (shown-sized s page.body can.body.sized))

  column-few : length (makeup_column_nodes p f) ≤ 8388608
  column-few =
      omega (
        arith,
        can.few,
        length-append (map leaf_node tops ++ f.body ++ feet_below p foot) (if is_ragged p.bottom then ragged_end p f.body else []),
        length-append (map leaf_node tops ++ f.body) (feet_below p foot),
        length-append (map leaf_node tops) f.body,
        length-map tops leaf_node,
        length-map (list_at s page.body) (plain_of (list_at s)),
        feet-few p foot,
        end-few p f.body,
        two-counts 253 254 (λ e. omega (arith, e)) f.boxes,
      )

-- ---- the column

-- a list that was empty and grew by these nodes
module _ (l : ℕ) (mine : List ℕ) (ns : List PlainNode) (bs : List Boxed) (b d : Builder) (s t : Lists Node) (empty : list_at s l ≡ []) (g : Grows l mine ns bs b s d t) where
  grown-is : list_at t l ≡ g.nodes
  grown-is = g.joined ∙ ap (λ xs. xs ++ g.nodes) empty

  grown-shown : plain_list t l ≡ ns
  grown-shown = ap (map (plain_of (list_at t))) grown-is ∙ g.shown (list_at t)

  grown-shapes : shapes t l ≡ map node_shape ns
  grown-shapes = sym (shapes-held (list_at t) (list_at t l)) ∙ ap (map node_shape) grown-shown

  grown-page : AreSized ns → length ns ≤ 8388608 → IsPageList t l
  grown-page sized few = record {
    live = g.live;
    leaves = subst AreLeaves (sym grown-is) g.leaves;
    sized = unmap IsSized shape_of (list_at t l) (subst (All IsSized) (sym grown-shapes) (All-map IsSized node_shape ns sized));
    few = omega (arith, few, ap length grown-shown, length-map (list_at t l) (plain_of (list_at t)));
  }

  pub grown-column : (height limit : ℤ) (x : Set) → x ≡ packed height limit (shapes t l) → column_shown t (record { kind = kinds.Text; list = l; set = x }) ≡ record { kind = kinds.Text; nodes = ns; set = packed height limit (map node_shape ns) }
  grown-column height limit x e = λ i. record { kind = kinds.Text; nodes = grown-shown i; set = (e ∙ ap (packed height limit) grown-shapes) i }

-- the list of the column that is made of a page
pub made-page : (p : Params) (b d : Builder) (s t : Lists Node) (page : Page) (l : ℕ) (mine : List ℕ) (bs : List Boxed) → AreMakeupParams p → CanFire b s page → list_at s l ≡ []
    → Grows l mine (makeup_column_nodes p (fired_with b s page)) bs b s d t → IsPageList t l
made-page p b d s t page l mine bs params can empty g =
    grown-page l mine (makeup_column_nodes p (fired_with b s page)) bs b d s t empty g (column-sized p params b s page can) (column-few p params b s page can)

-- another list changed
module _ (t u : Lists Node) (c : Column) (same : get u.lists c.list ≡ get t.lists c.list) where
  abbrev list-still : list_at u c.list ≡ list_at t c.list
  list-still = ap (λ (o : Option (List Node)). unwrap_or o []) same

  pub column-still : AreLeaves (list_at t c.list) → column_shown u c ≡ column_shown t c
  column-still leaves =
      let nodes : plain_list u c.list ≡ plain_list t c.list = ap (map (plain_of (list_at u))) list-still ∙ shown-anywhere t c.list (list_at u) leaves in
      λ i. record { kind = c.kind; nodes = nodes i; set = c.set }

  pub page-still : IsPageColumn t c → IsPageColumn u c
  page-still h = record {
    list = record {
      live = ap (λ (o : Option (List Node)). is_some o) same ∙ h.list.live;
      leaves = subst AreLeaves (sym list-still) h.list.leaves;
      sized = subst (All IsSizedNode) (sym list-still) h.list.sized;
      few = subst (λ (ns : List Node). length ns ≤ 8388608) (sym list-still) h.list.few;
    };
    share = h.share;
  }

-- ---- what goes back

held-any : {X : Type 0} (n : ℕ) (xs : List X) → n ≡ length xs → nat_lt 0 n ≡ nat_lt 0 (length xs)
held-any n xs e = ap (nat_lt 0) e

any-counts : (ns : List PlainNode) → nat_lt 0 (length ns) ≡ holds_any ns
any-counts [] = refl
any-counts (n ∷ ns) = grind (arith, nat_tests)

back-plain : (p : Params) (penalty : ℤ) (held : ℕ) → AllPlain (back_list p penalty held)
back-plain p penalty held = by_test (int_le penalty clearing_penalty && nat_lt 0 held)
  where
    by_test : (x : Bool) → AllPlain (if x then held_list p else [])
    by_test true = (refl, (refl, (refl, (refl, (refl, tt)))))
    by_test false = tt

pub back-none : (p : Params) (penalty : ℤ) (held : ℕ) → (int_le penalty clearing_penalty && nat_lt 0 held) ≡ false → back_list p penalty held ≡ []
back-none p penalty held e = ap (λ x. if x then held_list p else []) e

pub back-all : (p : Params) (penalty : ℤ) (held : ℕ) → (int_le penalty clearing_penalty && nat_lt 0 held) ≡ true → back_list p penalty held ≡ held_list p
back-all p penalty held e = ap (λ x. if x then held_list p else []) e

back-shown : (p : Params) (f : Fired) (held : ℕ) (lists : ℕ → List Node) → held ≡ length f.held → map (plain_of lists) (back_list p f.penalty held) ≡ put_back_after p f
back-shown p f held lists e =
    ap (λ x. map (plain_of lists) (if int_le f.penalty clearing_penalty && x then held_list p else [])) (held-any held f.held e ∙ any-counts f.held)
    ∙ by_test (int_le f.penalty clearing_penalty && holds_any f.held)
  where
    by_test : (x : Bool) → map (plain_of lists) (if x then held_list p else []) ≡ (if x then page_for_held p else [])
    by_test true = refl
    by_test false = refl

-- ---- the number of the page

-- a number that is not less than another
pub not-below : (a b : ℤ) → int_lt a b ≡ false → b ≤ℤ a
not-below a b h = grind (arith, ints, h)

-- ---- a list is opened for the column

module _ (b : Builder) (s o : Lists Node) (page : Page) (l : ℕ) (can : CanFire b s page) (fresh : get s.lists l ≡ None) (opened : o.lists ≡ with_list s l []) where
  open-same : AllSame s o (owned (ids_of b) s)
  open-same = opened_same b s o l can.sound fresh opened

  open-contents : contents_of b o ≡ contents_of b s
  open-contents = frame_contents b s o can.sound open-same

  open-owned : owned (ids_of b) o ≡ owned (ids_of b) s
  open-owned = frame_owned b s o can.sound open-same

  pub open-apart : l ≢ page.body
  open-apart e = (fresh_lacks s l (page.body ∷ []) fresh (can.body.live, tt)).0 e

  body-same : get o.lists page.body ≡ get s.lists page.body
  body-same = get_other s o l [] page.body (λ e. open-apart (sym e)) opened

  abbrev body-list : list_at o page.body ≡ list_at s page.body
  body-list = ap (λ (x : Option (List Node)). unwrap_or x []) body-same

  body-page : IsPageList o page.body
  body-page = record {
    live = ap (λ (x : Option (List Node)). is_some x) body-same ∙ can.body.live;
    leaves = subst AreLeaves (sym body-list) can.body.leaves;
    sized = subst (All IsSizedNode) (sym body-list) can.body.sized;
    few = subst (λ (ns : List Node). length ns ≤ 8388608) (sym body-list) can.body.few;
  }

  pub open-free : Lacks l (owned (ids_of b) o)
  open-free = subst (Lacks l) (sym open-owned) (fresh_apart (ids_of b) s l can.sound.own fresh)

  pub open-can : CanFire b o page
  open-can = record {
    sound = frame_sound b s o can.sound open-same;
    awaits = subst NoPage (sym open-contents) can.awaits;
    top = ap (λ (c : Contents). has_class c.classes 253) open-contents ∙ can.top;
    foot = ap (λ (c : Contents). has_class c.classes 254) open-contents ∙ can.foot;
    held = can.held ∙ ap (λ (c : Contents). length c.held) (sym open-contents);
    body = body-page;
    free = subst (Lacks page.body) (sym open-owned) can.free;
    boxes = subst (λ (c : Contents). All IsSizedBox c.boxes) (sym open-contents) can.boxes;
    few = subst (λ (c : Contents). length (list_at o page.body) + box_count c.boxes ≤ 8388602) (sym open-contents) (subst (λ (ns : List Node). length ns + box_count (contents_of b s).boxes ≤ 8388602) (sym body-list) can.few);
  }

  open-shown : plain_list o page.body ≡ plain_list s page.body
  open-shown = ap (map (plain_of (list_at o))) body-list ∙ shown-anywhere s page.body (list_at o) can.body.leaves

  pub open-fired : fired_with b o page ≡ fired_with b s page
  open-fired = λ i. record {
    body = open-shown i;
    boxes = (open-contents i).boxes;
    held = (open-contents i).held;
    rest = (open-contents i).waiting;
    penalty = page.penalty;
    cost = page.cost;
    size = page.size;
    shrink = page.shrink;
    line = page.line;
  }

  -- the column is made, and what goes back is put into the list of the body
  module _ (m now : Plain) (d : Builder) (t u : Lists Node) (c : Column) (r : PlainPage)
      (grows : Grows l (l ∷ page.body ∷ []) (makeup_column_nodes m.params (fired_with b o page)) (with_void 254 (with_void 253 (contents_of b o).boxes)) b o d t)
      (column : column_shown t c ≡ makeup_column m.params (fired_with b o page)) (sized : IsPageColumn t c) (list : c.list ≡ l) (emptied : get t.lists page.body ≡ Some [])
      (put : u.lists ≡ with_list t page.body (list_at t page.body ++ back_list m.params page.penalty page.held))
      (within : pos m.page ≤ℤ m.params.maxpages) (is : r ≡ record { page = m.page; column = c; put_back = page.body }) (next : now ≡ record m { page = m.page + 1 }) where
    abbrev back : List Node
    back = list_at t page.body ++ back_list m.params page.penalty page.held

    body-free-now : Lacks page.body (owned (ids_of d) t)
    body-free-now = grows.keeps page.body open-can.free

    column-same : get u.lists c.list ≡ get t.lists c.list
    column-same = get_other t u page.body back c.list (λ e. open-apart (sym list ∙ e)) put

    back-is : list_at u page.body ≡ back_list m.params page.penalty page.held
    back-is = list_same t u page.body back put ∙ ap (λ x. unwrap_or x [] ++ back_list m.params page.penalty page.held) emptied

    end-sound : IsSound d u
    end-sound = put-sound d t u page.body grows.sound body-free-now (back_list m.params page.penalty page.held) put

    end-contents : contents_of d u ≡ record (contents_of b s) { boxes = with_void 254 (with_void 253 (contents_of b s).boxes) }
    end-contents =
        put-contents d t u page.body grows.sound body-free-now (back_list m.params page.penalty page.held) put
        ∙ grows.contents
        ∙ ap (λ (x : Contents). record x { boxes = with_void 254 (with_void 253 x.boxes) }) open-contents

    end-owned : owned (ids_of d) u ≡ owned (ids_of d) t
    end-owned = put-owned d t u page.body grows.sound body-free-now (back_list m.params page.penalty page.held) put

    end-keeps : (q : ℕ) → Lacks q (owned (ids_of b) s) → Lacks q (owned (ids_of d) u)
    end-keeps q h = subst (Lacks q) (sym end-owned) (grows.keeps q (subst (Lacks q) (sym open-owned) h))

    end-joins : ListJoins (ids_of d) u page.body
    end-joins = list_joins (ids_of d) u page.body end-sound.own (live_same t u page.body back put) (end-keeps page.body can.free) (subst AllPlain (sym back-is) (back-plain m.params page.penalty page.held))

    made-fired : HasFired (record { page = m.page; column = c; put_back = page.body }) m now b s d u page
    made-fired = record {
      within = within;
      number = refl;
      next = next;
      column = column-still t u c column-same sized.list.leaves ∙ column ∙ ap (makeup_column m.params) open-fired;
      put_back = ap (map (plain_of (list_at u))) back-is ∙ back-shown m.params (fired_with b s page) page.held (list_at u) can.held;
      contents = end-contents;
      sound = end-sound;
      joins = end-joins;
      body = refl;
      sized = page-still t u c column-same sized;
      fresh = ap (get s.lists) list ∙ fresh;
      free = subst (λ q. Lacks q (owned (ids_of d) u)) (sym list) (end-keeps l (fresh_apart (ids_of b) s l can.sound.own fresh));
      others = λ q n k h. get_other t u page.body back q k put ∙ grows.others q ((λ e. n (e ∙ sym list)), (k, tt)) (subst (Lacks q) (sym open-owned) h) ∙ get_other s o l [] q (λ e. n (e ∙ sym list)) opened;
      apart = end-keeps;
    }

    pub has-fired : HasFired r m now b s d u page
    has-fired = subst (λ (x : PlainPage). HasFired x m now b s d u page) (sym is) made-fired
