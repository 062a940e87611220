-- The goal of a page is frozen, and nodes come to a page without a box.
use Rattle.std.proofs.Common.{◌≡◌, refl, sym, subst, ◌∙◌, ap, ℕ, ◌<◌, ℤ, Bool, true, false, List, [], ◌∷◌, ◌++◌, length, map, Option, None, Some, IsSome, append_assoc}
use Rattle.std.specs.Prelude.{All, ◌==◌, ◌||◌, not, option_to_list, if◌then◌else◌}
use Rattle.std.proofs.lemmas.List.{map-append, length-map}
use Rattle.std.proofs.lemmas.List.Elements.{All-head, All-tail}
use Rattle.std.proofs.lemmas.Bool.{true≢false}
use Rattle.tb_pool.specs.Lists.{Lists, IsLive, list_at}
use Rattle.tb_node.specs.declared.Node.{Node}
use Rattle.tb_node.specs.declared.Insertion.{Insertion}
use Rattle.tb_node.specs.declared.Kind.{Kind}
use Rattle.tb_node.specs.declared.Kind.TheVariants as kinds
use Rattle.tb_node.specs.Fit.{shapes, NodesFit, SumsFit}
use Rattle.tb_node.specs.Shape.{other, is_box, is_discardable}
use Rattle.tb_node.specs.Sums.{size_of}
use Rattle.tb_node.specs.PlainNodes.{skip, shape_of_kind, Inserted, inserted_of, plain, ins, PlainNode, plain_of, plain_kind, node_shape, shape_of, is_act_kind, is_insertion_kind, plain_list}
use Rattle.tb_node.specs.Roles.{act_of_kind, insertion_of_kind}
use Rattle.tb_break.specs.Places.{ends_lasting}
use Rattle.tb_break.specs.Best.{Breakpoint, best_or}
use Rattle.tb_break.specs.Scan.{Scanned, Offered}
use Rattle.tb_break.specs.PageTop.{pruned_nodes, pruned_at}
use Rattle.tb_break.proofs.FindLemmas.{ends_with}
use Rattle.tb_insert.specs.declared.Class.{Class}
use Rattle.tb_insert.specs.Account.{ClassBox, Frozen, class_box, terms_after}
use Rattle.tb_insert.specs.AccountEntries.{Differ, numbered, IsAccountOf, IsScanOfPage, ComesTo}
use Rattle.tb_insert.specs.Arrival.{InnerFits, ClassFits, ArriveFits, PageFits}
use Rattle.tb_insert.proofs.AccountLemmas.{leaf_shapes}
use Rattle.tb_insert.proofs.StandsLemmas.{stands-plain}
use Rattle.tb_insert.proofs.TermLemmas.{arrive_fits}
use Rattle.tb_builder.proofs.Amounts.ScanLemmas.{scan_loose}
use Rattle.tb_builder.specs.declared.Ask.{Ask}
use Rattle.tb_builder.specs.declared.Course.{Course}
use Rattle.tb_builder.specs.declared.ClassList.{ClassList}
use Rattle.tb_builder.specs.Reach.{holds_box}
use Rattle.tb_builder.specs.FiredPages.{box_size, box_content, class_for, class_boxes, frozen_for}
use Rattle.tb_builder.specs.LegalPlaces.{page_shapes, glue_first, page_places, NoStop}
use Rattle.tb_builder.specs.Contents.{boxed_of, Contents, frozen_with, frozen_or, frozen_of, ahead_of}
use Rattle.tb_builder.specs.Ownership.{AllLive, inner_of, inner_ids, Ids, nodes_of, box_ids, has_class, is_known, AllKnown, ClassesFit, IsClassList, IsOwned}
use Rattle.tb_builder.specs.Courses.{ChampionIs, IsCourseOf, Underway, places_by, is_loose, AllLoose, IsPageSoFar}
use Rattle.tb_builder.specs.PageEvents.{NextFits, InsertedFits}
use Rattle.tb_builder.proofs.Ownership.OwnedLemmas.{live-right, known-right, inner-append}
use Rattle.tb_builder.proofs.LegalPlaces.ClassLemmas.{class_known, number_is, box_is, differ_found, numbered_found}
use Rattle.tb_builder.proofs.LegalPlaces.CourseLemmas.{champion_grows, acts-append, loose_shape, loose_act, loose_plain, no_act}
use Rattle.tb_builder.proofs.LegalPlaces.PageLemmas.{places_pass}
use Rattle.tb_builder.proofs.Turns.TurnLemmas.{ahead_open, ahead_closed, lasting_penalty, lasting_places, all_lasting}

-- the course of the page, once its goal is frozen
pub frozen_course : (c : Contents) (k l : Course) (ask : Ask) (o : Option Ask) → c.frozen ≡ o → IsPageSoFar o false k c → ClassesFit c.classes
    → (o ≡ None → (z : Frozen) (page : List PlainNode) → z.goal ≡ ask.goal → z.limit ≡ ask.max_depth → Differ z.classes → AllLoose page → k.lasting ≡ ends_lasting (page_shapes page) → IsCourseOf z l page [])
    → (IsSome o → l ≡ k) → Underway (frozen_of c ask) l c.page c.waiting
frozen_course c k l ask None e st fit first again = record {
  course = subst (IsCourseOf (frozen_of c ask) l c.page) (sym none) (first refl (frozen_of c ask) c.page (ap (λ f. (frozen_or f ask c.classes c.boxes).goal) e) (ap (λ f. (frozen_or f ask c.classes c.boxes).limit) e) differ st.loose st.lasting_is);
  quiet = subst NoStop (sym none) tt;
}
  where
    none : places_by (frozen_of c ask) c.page c.waiting ≡ []
    none = lasting_places (frozen_of c ask).limit (terms_after (frozen_of c ask)) [] c.page (glue_first c.waiting) (all_lasting c.page st.loose)

    differ : Differ (frozen_of c ask).classes
    differ = subst (λ f. Differ (frozen_or f ask c.classes c.boxes).classes) (sym e) (differ_found (λ x. record { class = class_for ask x; size = box_size (box_content c.boxes x.number) }) (λ x. refl) c.classes fit)
frozen_course c k l ask (Some f) e st fit first again =
    subst (λ o. Underway (frozen_or o ask c.classes c.boxes) l c.page c.waiting) (sym e) (subst (λ x. Underway (frozen_for f c.classes c.boxes) x c.page c.waiting) (sym (again refl)) st)

-- ---- waiting nodes

-- the list of the first waiting insertion is live, and its class is one of the classes
pub first_inner : (b : Ids) (s : Lists Node) (n : Node) (ns : List Node) (i : Insertion) → IsOwned b s → list_at s b.waiting ≡ n ∷ ns → insertion_of_kind n.kind ≡ Some i → IsLive s i.list
first_inner b s n ns i own first e =
    let all : AllLive s (inner_ids (list_at s b.page ++ list_at s b.waiting)) = live-right s (inner_ids (list_at s b.held)) (inner_ids (list_at s b.page ++ list_at s b.waiting)) (subst (AllLive s) (inner-append (list_at s b.held) (list_at s b.page ++ list_at s b.waiting)) (live-right s (box_ids b.boxes) (inner_ids (nodes_of b s)) own.live.1.1.1.1)) in
    let wait : AllLive s (inner_ids (n ∷ ns)) = subst (λ ms. AllLive s (inner_ids ms)) first (live-right s (inner_ids (list_at s b.page)) (inner_ids (list_at s b.waiting)) (subst (AllLive s) (inner-append (list_at s b.page) (list_at s b.waiting)) all)) in
    by_kind n.kind e wait
  where
    by_kind : (k : Kind) → insertion_of_kind k ≡ Some i → AllLive s (option_to_list (inner_of k) ++ inner_ids ns) → IsLive s i.list
    by_kind (kinds.Ins j) e l = let same : j ≡ i = cc in subst (λ (x : Insertion). IsLive s x.list) same l.0
    by_kind k e l = cc

pub first_known : (b : Ids) (s : Lists Node) (cs : List Class) (n : Node) (ns : List Node) (i : Insertion) → AllKnown cs (nodes_of b s) → list_at s b.waiting ≡ n ∷ ns → insertion_of_kind n.kind ≡ Some i → has_class cs i.class ≡ true
first_known b s cs n ns i known first e =
    by_kind n.kind e (subst (AllKnown cs) first (known-right cs (list_at s b.page) (list_at s b.waiting) (known-right cs (list_at s b.held) (list_at s b.page ++ list_at s b.waiting) known))).0
  where
    by_kind : (k : Kind) → insertion_of_kind k ≡ Some i → is_known cs k ≡ true → has_class cs i.class ≡ true
    by_kind (kinds.Ins j) e l = let same : j ≡ i = cc in subst (λ (x : Insertion). has_class cs x.class ≡ true) same l
    by_kind k e l = cc

-- the insertion as the definitions see it
pub plain_insertion : (held : ℕ → List Node) (n : Node) (i : Insertion) → insertion_of_kind n.kind ≡ Some i → (let m : PlainNode = record { line = n.line; kind = ins (inserted_of held i) } in plain_of held n ≡ m)
plain_insertion held n i e = by_kind n.kind e
  where
    by_kind : (k : Kind) → insertion_of_kind k ≡ Some i → (let x : Node = record { line = n.line; kind = k } in (let m : PlainNode = record { line = n.line; kind = ins (inserted_of held i) } in plain_of held x ≡ m))
    by_kind (kinds.Ins j) e = let same : j ≡ i = cc in ap (λ x. with_insertion n.line x) same
      where
        with_insertion : ℕ → Insertion → PlainNode
        with_insertion line x = record { line = line; kind = ins (inserted_of held x) }
    by_kind k e = cc

-- what is ahead begins with a node that lasts and is no box
pub ahead_first : (c : Contents) (ask : Ask) (n : PlainNode) (ns : List PlainNode) → c.waiting ≡ n ∷ ns → node_shape n ≡ other → (rest : List PlainNode) × (ahead_of c ask ≡ n ∷ rest)
ahead_first c ask n ns first shape = by_box (holds_box c.page) refl
  where
    by_box : (b : Bool) → holds_box c.page ≡ b → (rest : List PlainNode) × (ahead_of c ask ≡ n ∷ rest)
    by_box true e = (ns, ahead_open c ask e ∙ first)
    by_box false e = (
      pruned_nodes ask.top_skip ns,
      ahead_closed c ask e ∙ ap (pruned_nodes ask.top_skip) first ∙ ap (λ s. pruned_at (λ m g. record { line = m.line; kind = plain (skip g) }) ask.top_skip s n ns (pruned_nodes ask.top_skip ns)) shape,
    )

-- what is laid out fits, and so does an insertion at the page's end
module _ (c : Contents) (ask : Ask) (fits : NextFits c ask) (i : Inserted) (line : ℕ) (ns : List PlainNode) (first : c.waiting ≡ record { line = line; kind = ins i } ∷ ns) where
  ahead_is : (rest : List PlainNode) × (ahead_of c ask ≡ record { line = line; kind = ins i } ∷ rest)
  ahead_is = ahead_first c ask (record { line = line; kind = ins i }) ns first refl

  pub page_with_fits : PageFits (frozen_of c ask) (c.page ++ record { line = line; kind = ins i } ∷ [])
  page_with_fits = fits.laid_fits.pages (c.page ++ record { line = line; kind = ins i } ∷ []) ahead_is.0 (append_assoc c.page (record { line = line; kind = ins i } ∷ []) ahead_is.0 ∙ ap (λ w. c.page ++ w) (sym ahead_is.1))

  pub inserted_fits : InsertedFits i
  inserted_fits = (fits.laid_fits.nodes c.page (record { line = line; kind = ins i }) ahead_is.0 (ap (λ w. c.page ++ w) (sym ahead_is.1))).kind_fits

pub inner_fits : (s : Lists Node) (i : Insertion) → IsLive s i.list → InsertedFits (inserted_of (list_at s) i) → InnerFits s i
inner_fits s i live f = record {
  live = live;
  nodes = subst NodesFit (leaf_shapes (list_at s i.list)) f.nodes;
  sums = subst (SumsFit i.split_depth) (leaf_shapes (list_at s i.list)) f.sums;
  depth = f.depth;
  depth_low = f.depth_low;
}

-- ---- an insertion comes

-- the class that has a number fits, if all do
numbered_fits : (cs : List ClassBox) (k : ℕ) → numbered cs k ≡ true → All (λ (c : ClassBox). ClassFits c.class) cs → ClassFits (class_box cs k).class
numbered_fits [] k known fits = absurd (true≢false (sym known))
numbered_fits (c ∷ cs) k known fits = by_test (c.class.number == k) known (λ later. numbered_fits cs k later (All-tail (λ (b : ClassBox). ClassFits b.class) c cs fits))
  where
    by_test : (t : Bool) → (t || numbered cs k) ≡ true → (numbered cs k ≡ true → ClassFits (class_box cs k).class) → ClassFits (if t then c else class_box cs k).class
    by_test true here later = All-head (λ (b : ClassBox). ClassFits b.class) c cs fits
    by_test false here later = later here

module _ (b : Ids) (s : Lists Node) (c : Contents) (ask : Ask) (k : Course) (n : Node) (ns : List Node) (i : Insertion) (e : ClassList)
    (own : IsOwned b s) (classes : c.classes ≡ map (λ x. x.class) b.boxes) (boxes : c.boxes ≡ map (boxed_of s) b.boxes) (waiting : c.waiting ≡ plain_list s b.waiting)
    (page : c.page ≡ plain_list s b.page) (fits : NextFits c ask) (first : list_at s b.waiting ≡ n ∷ ns) (is : insertion_of_kind n.kind ≡ Some i) (h : IsClassList b.boxes i.class e)
    (u : Underway (frozen_of c ask) k c.page c.waiting) where
  pub waiting_first : c.waiting ≡ record { line = n.line; kind = ins (inserted_of (list_at s) i) } ∷ map (plain_of (list_at s)) ns
  waiting_first = waiting ∙ ap (map (plain_of (list_at s))) first ∙ ap (λ m. m ∷ map (plain_of (list_at s)) ns) (plain_insertion (list_at s) n i is)

  -- what the page is made for
  abbrev made : Ask
  made = frozen_with c.frozen ask

  pub comes_to : ComesTo (frozen_of c ask) c.page k.scan (class_for made e.class) (size_of (shapes s e.list)) (length (list_at s b.page))
  comes_to = record {
    numbered_so = numbered_found (λ x. record { class = class_for made x; size = box_size (box_content c.boxes x.number) }) (λ x. refl) c.classes e.class.number
        ∙ (λ j. has_class (classes j) (number_is s b.boxes i.class e h j)) ∙ first_known b s (map (λ x. x.class) b.boxes) n ns i own.known first is;
    own = (λ j. class_box (class_boxes made (classes j) (boxes j)) e.class.number) ∙ ap (class_box (class_boxes made (map (λ x. x.class) b.boxes) (map (boxed_of s) b.boxes))) (number_is s b.boxes i.class e h) ∙ box_is s b.boxes i.class e h made own.void_empty;
    place = sym (ap length page ∙ length-map (list_at s b.page) (plain_of (list_at s)));
    scan = u.course.scan;
  }

  pub class_is : e.class.number < 256
  class_is = (class_known s b.boxes i.class e h own.classes).0

  class_fits : ClassFits (class_for made e.class)
  class_fits = subst (λ (x : ClassBox). ClassFits x.class) comes_to.own (numbered_fits (frozen_of c ask).classes e.class.number comes_to.numbered_so fits.laid_fits.classes)

  pub meets_fits : ArriveFits s k.account k.scan i (class_for made e.class) (size_of (shapes s e.list))
  meets_fits = arrive_fits s k.account k.scan i n.line (class_for made e.class) (size_of (shapes s e.list)) (length (list_at s b.page)) (frozen_of c ask) c.page u.course.marked (number_is s b.boxes i.class e h)
      (subst (λ m. m < 256) (number_is s b.boxes i.class e h) class_is) u.course.account comes_to
      (inner_fits s i (first_inner b s n ns i own first is) (inserted_fits c ask fits (inserted_of (list_at s) i) n.line (map (plain_of (list_at s)) ns) waiting_first)) class_fits
      (page_with_fits c ask fits (inserted_of (list_at s) i) n.line (map (plain_of (list_at s)) ns) waiting_first)

-- ---- the course, when a node without room goes on the page

-- the places of the page stay
pub places_stay : (z : Frozen) (c d : Contents) (n : PlainNode) → c.waiting ≡ n ∷ d.waiting → d.page ≡ c.page ++ n ∷ [] → node_shape n ≡ other → is_act_kind n.kind ≡ false → places_by z d.page d.waiting ≡ places_by z c.page c.waiting
places_stay z c d n first page shape no_act =
    ap (λ p. page_places z.limit (terms_after z) [] p (glue_first d.waiting)) page
    ∙ places_pass z.limit (terms_after z) (ends_lasting (page_shapes c.page)) c.page d.waiting n refl no_act (lasting_penalty (ends_lasting (page_shapes c.page)) (glue_first d.waiting) n (ap is_discardable shape))
    ∙ ap (λ w. page_places z.limit (terms_after z) [] c.page (glue_first w)) (sym first)

pub underway_stays : (z : Frozen) (k l : Course) (c d : Contents) (n : PlainNode) → c.waiting ≡ n ∷ d.waiting → d.page ≡ c.page ++ n ∷ [] → node_shape n ≡ other → is_act_kind n.kind ≡ false
    → Underway z k c.page c.waiting → IsCourseOf z l (c.page ++ n ∷ []) (places_by z c.page c.waiting) → Underway z l d.page d.waiting
underway_stays z k l c d n first page shape no_act u h = record {
  course = subst (IsCourseOf z l d.page) (sym (places_stay z c d n first page shape no_act)) (subst (λ p. IsCourseOf z l p (places_by z c.page c.waiting)) (sym page) h);
  quiet = subst NoStop (sym (places_stay z c d n first page shape no_act)) u.quiet;
}

-- a mark, a note or a whatsit goes on the page, and the sums stay
pub course_loose : (z : Frozen) (k l : Course) (page : List PlainNode) (bs : List Breakpoint) (n : PlainNode) → IsCourseOf z k page bs → is_loose n.kind ≡ true → l.scan ≡ k.scan → l.account ≡ k.account → l.best_goal ≡ k.best_goal → l.lasting ≡ true
    → IsCourseOf z l (page ++ n ∷ []) bs
course_loose z k l page bs n h loose scan account goal lasting = record {
  scan = subst (λ s. IsScanOfPage s z (page ++ n ∷ [])) (sym scan) (scan_loose z page k.scan n (loose_plain n.kind loose) (loose_shape n.line n.kind loose) h.scan);
  marked = h.marked;
  account = subst (λ a. IsAccountOf a z (page ++ n ∷ []) h.marked) (sym account) (stands-plain k.account z page h.marked n (loose_plain n.kind loose) h.account);
  offered = subst (λ (s : Scanned). Offered s.best bs) (sym scan) h.offered;
  champion = λ d some. subst (λ (s : Scanned). ChampionIs s.best l.best_goal h.marked (page ++ n ∷ []) (best_or d bs)) (sym scan)
      (subst (λ g. ChampionIs k.scan.best g h.marked (page ++ n ∷ []) (best_or d bs)) (sym goal) (champion_grows k.scan.best k.best_goal h.marked page (n ∷ []) (best_or d bs) (h.champion d some)));
  lasting_is = lasting ∙ sym (lasts_now page n (loose_shape n.line n.kind loose));
  no_acts = acts-append page n h.no_acts (loose_act n.kind loose);
}
  where
    lasts_now : (page : List PlainNode) (n : PlainNode) → node_shape n ≡ other → ends_lasting (page_shapes (page ++ n ∷ [])) ≡ true
    lasts_now page n e = ap ends_lasting (map-append node_shape page (n ∷ [])) ∙ ends_with (page_shapes page) (node_shape n) ∙ ap (λ s. not (is_discardable s)) e

pub lasts_loose : (page : List PlainNode) (n : PlainNode) → node_shape n ≡ other → ends_lasting (page_shapes (page ++ n ∷ [])) ≡ true
lasts_loose page n e = ap ends_lasting (map-append node_shape page (n ∷ [])) ∙ ends_with (page_shapes page) (node_shape n) ∙ ap (λ s. not (is_discardable s)) e

-- a node of the store that is no act, insertion or box, and lasts
pub loose_node : (held : ℕ → List Node) (k : Kind) → act_of_kind k ≡ None → insertion_of_kind k ≡ None → is_box (shape_of_kind k) ≡ false → not (is_discardable (shape_of_kind k)) ≡ true → is_loose (plain_kind held k) ≡ true
loose_node held (kinds.Hbox what h d) a i b l = absurd (true≢false b)
loose_node held (kinds.Rule name h d) a i b l = absurd (true≢false b)
loose_node held (kinds.Mark name) a i b l = refl
loose_node held (kinds.Note name) a i b l = refl
loose_node held kinds.Whatsit a i b l = refl
loose_node held (kinds.Ins j) a i b l = cc
loose_node held (kinds.Act x) a i b l = cc
loose_node held k a i b l = absurd (true≢false (sym l))

pub no_inner : (k : Kind) → insertion_of_kind k ≡ None → inner_of k ≡ None
no_inner (kinds.Ins i) e = cc
no_inner k e = refl

-- glue, a kern or a penalty vanishes before the first box
pub gone_at : (held : ℕ → List Node) (t : ℤ) (line : ℕ) (k : Kind) (ns : List PlainNode) → not (is_discardable (shape_of_kind k)) ≡ false
    → (let x : Node = record { line = line; kind = k } in pruned_nodes t (plain_of held x ∷ ns) ≡ pruned_nodes t ns)
gone_at held t line (kinds.Skip g) ns e = refl
gone_at held t line (kinds.Kern w) ns e = refl
gone_at held t line (kinds.Pen p) ns e = refl
gone_at held t line k ns e = absurd (true≢false e)

-- an insertion takes no room and is no act
pub insertion_shape : (n : Node) (i : Insertion) → insertion_of_kind n.kind ≡ Some i → shape_of n ≡ other
insertion_shape n i e = by_kind n.kind e
  where
    by_kind : (k : Kind) → insertion_of_kind k ≡ Some i → shape_of_kind k ≡ other
    by_kind (kinds.Ins j) e = refl
    by_kind k e = cc

pub insertion_plain : (held : ℕ → List Node) (n : Node) (i : Insertion) → insertion_of_kind n.kind ≡ Some i → is_insertion_kind (plain_of held n).kind ≡ true
insertion_plain held n i e = ap (λ (m : PlainNode). is_insertion_kind m.kind) (plain_insertion held n i e)

pub insertion_act : (n : Node) (i : Insertion) → insertion_of_kind n.kind ≡ Some i → act_of_kind n.kind ≡ None
insertion_act n i e = by_kind n.kind e
  where
    by_kind : (k : Kind) → insertion_of_kind k ≡ Some i → act_of_kind k ≡ None
    by_kind (kinds.Ins j) e = refl
    by_kind k e = cc

-- a node that lasts and is no box takes no room
pub loose_kind_shape : (k : Kind) → is_box (shape_of_kind k) ≡ false → not (is_discardable (shape_of_kind k)) ≡ true → shape_of_kind k ≡ other
loose_kind_shape (kinds.Hbox what h d) b l = absurd (true≢false b)
loose_kind_shape (kinds.Rule name h d) b l = absurd (true≢false b)
loose_kind_shape (kinds.Skip g) b l = absurd (true≢false (sym l))
loose_kind_shape (kinds.Kern w) b l = absurd (true≢false (sym l))
loose_kind_shape (kinds.Pen p) b l = absurd (true≢false (sym l))
loose_kind_shape k b l = refl
