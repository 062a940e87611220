-- A page ships, and what is put back waits.
use Rattle.std.proofs.Common.{◌≡◌, ◌≢◌, refl, sym, subst, ◌∙◌, ap, ℕ, ◌+◌, ◌≤◌, ℤ, pos, Bool, true, false, List, [], ◌∷◌, ◌++◌, Option, Some, None, append_assoc, arith}
use Rattle.std.specs.Prelude.{min, int_lt, IfNone, ◌≤ℤ◌, if◌then◌else◌}
use Rattle.std.specs.FinMap.{get}
use Rattle.std.proofs.lemmas.Int.{ints}
use Rattle.tb_break.proofs.EachLemmas.{all-join}
use Rattle.tb_builder.proofs.Events.NextLemmas.{fresh_apart}
use Rattle.tb_pool.specs.Lists.{Lists, list_at}
use Rattle.tb_node.specs.declared.Node.{Node}
use Rattle.tb_node.specs.PlainNodes.{PlainNode, plain_list}
use Rattle.tb_builder.specs.declared.Builder.{Builder}
use Rattle.tb_builder.specs.declared.Page.{Page}
use Rattle.tb_builder.specs.FiredPages.{Fired}
use Rattle.tb_builder.specs.Contents.{Contents, contents_of, contents_count, node_count, box_count}
use Rattle.tb_builder.specs.Ownership.{Lacks, inner_ids, ids_of, owned}
use Rattle.tb_builder.specs.Courses.{IsSound}
use Rattle.tb_builder.specs.Contributions.{NoPage, with_void}
use Rattle.tb_builder.proofs.Ranges.PageableLemmas.{count-append}
use Rattle.tb_builder.proofs.Ownership.FrameLemmas.{frame_sound, live_all_same}
use Rattle.tb_builder.proofs.Ownership.OwnedLemmas.{lacks-append}
use Rattle.tb_sheet.specs.declared.Sent.TheVariants as sents
use Rattle.tb_sheet.specs.declared.Sheet.TheVariants as sheets
use Rattle.tb_sheet.specs.Sheet.{shipped, one}
use Rattle.tb_column.specs.Notes.{AreDistinct}
use Rattle.tb_builder.specs.BuilderLists.{builder_lists}
use Rattle.tb_sheet.specs.ApartLists.{AreNoneOf}
use Rattle.tb_builder.proofs.Ownership.LackLemmas.{lacks-none}
use Rattle.tb_sheet.proofs.StandLemmas.{column-stands, column-shows}
use Rattle.tb_items.specs.declared.happenings.Happening.{Happening}
use Rattle.tb_items.specs.declared.happenings.Happening.TheVariants as happenings
use Rattle.tb_items.specs.RunEvents.{sent}
use Rattle.tb_items.specs.ItemsLeft.{with_more}
use Rattle.tb_items.specs.Happenings.{events_of, happened_lists, IsPage, ArePages}
use Rattle.tb_items.proofs.HappenedLemmas.{lists-append, events-append}
use Rattle.tb_plain.specs.declared.Plain.{Plain}
use Rattle.tb_plain.specs.declared.PlainPage.{PlainPage}
use Rattle.tb_plain.specs.Firing.{put_back_after}
use Rattle.tb_plain.specs.MakeupCalls.{CanFire, HasFired}
use Rattle.tb_plain.specs.Run.{waiting_after}
use Rattle.tb_makeup.specs.declared.makeup.Makeup.{Makeup}
use Rattle.tb_makeup.specs.declared.makeup.MakeupEnding.{MakeupEnding}
use Rattle.tb_makeup.specs.declared.makeup.MakeupEnding.TheVariants as endings
use Rattle.tb_makeup.specs.MakeupLeft.{nodes_left}
use Rattle.tb_makeup.specs.Makeup.{built_in, held_in, state_of, over_limit, IsBounded}
use Rattle.tb_makeup.specs.MakeupPages.{fired_whole, AreTries, IsBoundedPage, HasShipped, Ships}
use Rattle.tb_makeup.proofs.Filled.TriedLemmas.{tries-lists, tries-pages}
use Rattle.tb_makeup.proofs.Shipping.BackLemmas.{back-inner}

-- ---- the nodes that wait, against the limit on them

-- where the boxes are void, the nodes that are counted are those that wait
counted : (w b n : ℕ) → w ≤ 8388608 → b ≡ 0 → n ≡ min (w + b) 18446744073709551615 → n ≡ w
counted w b n few void e = grind (arith, few, void, e)

module _ (r : Makeup) (few : node_count (held_in r).waiting ≤ 8388608) where
  both : node_count (held_in r).waiting ≡ node_count (built_in r).waiting + node_count (nodes_left r.left)
  both = count-append (built_in r).waiting (nodes_left r.left)

  -- the nodes of the items that are left are not too many
  pub left-few : node_count (nodes_left r.left) ≤ 8388608
  left-few = let e = both in omega (arith, e, few)

  module _ (nodes : ℕ) (void : box_count (held_in r).boxes ≡ 0) (e : nodes ≡ contents_count (built_in r)) where
    built-counted : nodes ≡ node_count (built_in r).waiting
    built-counted = counted (node_count (built_in r).waiting) (box_count (built_in r).boxes) nodes (let k = both in omega (arith, k, few)) void e

    pub nodes-few : nodes ≤ 8388608
    nodes-few = let k = both in let n = built-counted in omega (arith, k, n, few)

    -- with them all that wait are counted
    pub all-counted : (left : ℕ) → left ≡ node_count (nodes_left r.left) → nodes + left ≡ node_count (held_in r).waiting
    all-counted left l = let k = both in let n = built-counted in omega (arith, k, n, l)

pub some-over : (limit : ℤ) (n w : ℕ) → n ≡ w → int_lt limit (pos n) ≡ true → Some (endings.NodeLimit n) ≡ over_limit limit w
some-over limit n w same e = subst (λ x. Some (endings.NodeLimit n) ≡ over_limit limit x) same (sym (ap (λ t. if t then Some (endings.NodeLimit n) else None) e))

-- no more nodes wait than the limit
pub within-limit : (limit : ℤ) (w m : ℕ) → limit ≤ℤ pos m → None ≡ over_limit limit w → w ≤ m
within-limit limit w m few e = by_test (int_lt limit (pos w)) refl e
  where
    by_test : (t : Bool) → int_lt limit (pos w) ≡ t → None ≡ (if t then Some (endings.NodeLimit w) else None) → w ≤ m
    by_test true is e = cc
    by_test false is e = grind (arith, ints, few, is)

pub none-over : (limit : ℤ) (n w : ℕ) → n ≡ w → int_lt limit (pos n) ≡ false → None ≡ over_limit limit w
none-over limit n w same e = subst (λ x. None ≡ over_limit limit x) same (sym (ap (λ t. if t then Some (endings.NodeLimit n) else None) e))

not-done : (n : ℕ) (t : Bool) → Some endings.Done ≡ (if t then Some (endings.NodeLimit n) else None) → ⊥
not-done n true e = cc
not-done n false e = cc

not-pages : (k n : ℕ) (t : Bool) → Some (endings.PageLimit k) ≡ (if t then Some (endings.NodeLimit n) else None) → ⊥
not-pages k n true e = cc
not-pages k n false e = cc

-- ---- the page fired

module _ (r : Makeup) (page : Page) (made : PlainPage) (now : Plain) (d : Builder) (t : Lists Node) (can : CanFire r.builder r.store page) (fired : HasFired made r.plain now r.builder r.store d t page) where
  abbrev f : Fired
  f = fired_whole r page

  pub still-awaits : NoPage (contents_of d t)
  still-awaits = record { page = ap (λ (c : Contents). c.page) fired.contents ∙ can.awaits.page; frozen = ap (λ (c : Contents). c.frozen) fired.contents ∙ can.awaits.frozen }

  abbrev back : Contents → List PlainNode → Contents
  back c ns = record c { waiting = c.held ++ (ns ++ c.waiting); held = [] }

  column-free : Lacks made.column.list (owned (ids_of d) t ++ inner_ids (list_at t made.put_back))
  column-free =
      lacks-append made.column.list (owned (ids_of d) t) (inner_ids (list_at t made.put_back)) fired.free
      (subst (Lacks made.column.list) (sym (back-inner r.plain.params f (list_at t) (list_at t made.put_back) fired.put_back)) tt)

  column-apart : made.column.list ≢ made.put_back
  column-apart = λ e. fresh_apart r.store made.column.list page.body fired.fresh can.body.live (sym (e ∙ fired.body))

  module _ (q : Makeup) (sound : IsSound q.builder q.store) (contents : built_in q ≡ back (contents_of d t) (plain_list t made.put_back))
      (others : (l : ℕ) → l ≢ made.put_back → Lacks l (owned (ids_of d) t) → get q.store.lists l ≡ get t.lists l)
      (keeps : (l : ℕ) → Lacks l (owned (ids_of d) t ++ inner_ids (list_at t made.put_back)) → Lacks l (owned (ids_of q.builder) q.store))
      (plain : q.plain ≡ now) (ask : q.ask ≡ r.ask) (limit : q.limit ≡ r.limit) (left : q.left ≡ r.left) where
    -- what goes back
    abbrev put : List PlainNode
    put = put_back_after r.plain.params f

    built-now : built_in q ≡ record (built_in r) { boxes = with_void 254 (with_void 253 (built_in r).boxes); waiting = (built_in r).held ++ (put ++ (built_in r).waiting); held = [] }
    built-now = contents ∙ (λ i. back (fired.contents i) (fired.put_back i))

    waits-now : (built_in q).waiting ≡ ((built_in r).held ++ put) ++ (built_in r).waiting
    waits-now = ap (λ (c : Contents). c.waiting) built-now ∙ sym (append_assoc (built_in r).held put (built_in r).waiting)

    pub contents-now : held_in q ≡ record (held_in r) { boxes = with_void 254 (with_void 253 (held_in r).boxes); waiting = waiting_after r.plain.params f; held = [] }
    contents-now =
        (λ i. with_more (nodes_left (left i)) (built-now i))
        ∙ ap (λ ns. record (built_in r) { boxes = with_void 254 (with_void 253 (built_in r).boxes); waiting = ns; held = [] })
        (append_assoc (built_in r).held (put ++ (built_in r).waiting) (nodes_left r.left) ∙ ap (λ ns. (built_in r).held ++ ns) (append_assoc put (built_in r).waiting (nodes_left r.left)))

    -- the nodes that wait now
    pub waiting-now : (held_in q).waiting ≡ waiting_after r.plain.params f
    waiting-now = ap (λ (c : Contents). c.waiting) contents-now

    pub waiting-few : node_count (waiting_after r.plain.params f) ≤ 8388608 → node_count (held_in q).waiting ≤ 8388608
    waiting-few few = subst (λ ns. node_count ns ≤ 8388608) (sym waiting-now) few

    pub boxes-void : box_count (with_void 254 (with_void 253 (held_in r).boxes)) ≡ 0 → box_count (held_in q).boxes ≡ 0
    boxes-void void = ap (λ (c : Contents). box_count c.boxes) contents-now ∙ void

    pub page-none : (held_in q).page ≡ []
    page-none = ap (λ (c : Contents). c.page) contents-now ∙ can.awaits.page

    pub still-bounded : q.bound ≡ r.bound → IsBoundedPage page r → IsBounded 10 (state_of q) q.bound
    still-bounded same h =
        subst (IsBounded 10 (state_of q)) (sym same)
        (subst (λ s. IsBounded 10 s r.bound) (λ i. record { page = sym page-none i; waiting = sym waiting-now i; number = ap (λ (x : Plain). x.page) (sym (plain ∙ fired.next)) i }) h)

    column-same : get q.store.lists made.column.list ≡ get t.lists made.column.list
    column-same = others made.column.list column-apart fired.free

    module _ (before hs : List Happening) (tries : AreTries before) (noted : hs ≡ before ++ happenings.Sent (sents.Ship made.page (sheets.One made.column)) ∷ []) where
      abbrev now_sent : List Happening
      now_sent = happenings.Sent (sents.Ship made.page (sheets.One made.column)) ∷ []

      one-list : happened_lists hs ≡ made.column.list ∷ []
      one-list = ap happened_lists noted ∙ lists-append before now_sent ∙ ap (λ ls. ls ++ made.column.list ∷ []) (tries-lists before tries)

      has-shipped : HasShipped page r q before hs
      has-shipped = record {
        within = fired.within;
        number = plain ∙ fired.next;
        sound = sound;
        contents = contents-now;
        events = ap (events_of q.store) noted ∙ events-append q.store before now_sent ∙ (λ i. events_of q.store before ++ sent (shipped (fired.number i) (one ((column-shows t q.store made.column column-same fired.sized ∙ fired.column) i))) ∷ []);
        happened = record {
          pages = subst (ArePages q.store) (sym noted) (all-join (IsPage q.store) before now_sent (tries-pages q.store before tries) (column-stands t q.store made.column column-same fired.sized, tt));
          distinct = subst AreDistinct (sym one-list) (tt, tt);
          builder = subst (λ ls. AreNoneOf ls (builder_lists q.builder q.store)) (sym one-list) (lacks-none made.column.list (builder_lists q.builder q.store) (keeps made.column.list column-free), tt);
        };
        ask = ask;
        limit = limit;
        left = left;
        front = (built_in r).held ++ put;
        waits = waits-now;
      }

      ships-by : (o : Option MakeupEnding) → IfNone o (IsBounded 0 (state_of q) q.bound) → o ≡ over_limit r.limit (node_count (waiting_after r.plain.params f)) → Ships page r o q before hs
      ships-by None b e = (has-shipped, sym e, b)
      ships-by (Some endings.Done) b e = absurd (not-done (node_count (waiting_after r.plain.params f)) (int_lt r.limit (pos (node_count (waiting_after r.plain.params f)))) e)
      ships-by (Some (endings.PageLimit k)) b e = absurd (not-pages k (node_count (waiting_after r.plain.params f)) (int_lt r.limit (pos (node_count (waiting_after r.plain.params f)))) e)
      ships-by (Some (endings.NodeLimit k)) b e = (has-shipped, sym e)

      -- what the page comes to, by the nodes that wait now
      pub ships : (o : Option MakeupEnding) → IfNone o (IsBounded 0 (state_of q) q.bound) → o ≡ over_limit q.limit (node_count (held_in q).waiting) → Ships page r o q before hs
      ships o b e = ships-by o b (e ∙ (λ i. over_limit (limit i) (node_count (waiting-now i))))

-- ---- no page ships

-- all lists are as before
pub same-sound : (b d : Builder) (s t : Lists Node) → IsSound b s → d ≡ b → t.lists ≡ s.lists → IsSound d t
same-sound b d s t sound same lists = subst (λ x. IsSound x t) (sym same) (frame_sound b s t sound (live_all_same s t (owned (ids_of b) s) (λ q live. ap (λ m. get m q) lists) sound.own.live))
