-- The course of a page: a place is tried, a node goes on the page, an insertion comes.
use Rattle.std.proofs.Common.{◌≡◌, refl, sym, subst, ◌∙◌, ap, ℕ, ◌≤◌, ℤ, pos, Bool, true, false, List, [], ◌∷◌, ◌++◌, length, Option, None, Some, append_assoc, append-nil, length-append, arith}
use Rattle.std.specs.Prelude.{int_le, ◌+ℤ◌, not, ◌<ℤ◌, ◌≤ℤ◌, if◌then◌else◌, map}
use Rattle.std.proofs.lemmas.List.{map-append, take-append-le, take_all}
use Rattle.std.proofs.lemmas.Bool.{true≢false}
use Rattle.std.proofs.lemmas.Int.{ints}
use Rattle.tb_scaled.specs.Scaled.{awful_bad}
use Rattle.tb_node.specs.declared.Node.{Node}
use Rattle.tb_node.specs.declared.Sums.{Sums}
use Rattle.tb_node.specs.declared.Kind.{Kind}
use Rattle.tb_node.specs.declared.Kind.TheVariants as kinds
use Rattle.tb_node.specs.Shape.{Shape, box, glue, kern, penalty, other, is_discardable}
use Rattle.tb_node.specs.PlainNodes.{mark, note, whatsit, Inserted, PlainKind, plain, ins, act, PlainNode, plain_of, plain_kind, node_shape, shape_of, is_act_kind, is_insertion_kind}
use Rattle.tb_node.specs.NodeSums.{added_node}
use Rattle.tb_node.specs.Roles.{act_of_kind, insertion_of_kind}
use Rattle.tb_node.specs.Sums.{size_of}
use Rattle.tb_break.specs.declared.Best.{Best}
use Rattle.tb_break.specs.declared.Offer.{Offer}
use Rattle.tb_break.specs.Places.{ends_lasting}
use Rattle.tb_break.specs.Best.{Breakpoint, best_or, least_cost}
use Rattle.tb_break.specs.Split.{breakpoint_at}
use Rattle.tb_break.specs.Scan.{Scanned, Offered, empty_scan, better_best, best_of, least_so_far, offer_of}
use Rattle.tb_break.proofs.FindLemmas.{ends_with}
use Rattle.tb_break.proofs.BestLemmas.{champion-taken, champion-kept}
use Rattle.tb_break.proofs.ScanLemmas.{best-offer, cost_at_most}
use Rattle.tb_insert.specs.declared.Account.{Account}
use Rattle.tb_insert.specs.declared.Class.{Class}
use Rattle.tb_insert.specs.Account.{Frozen, class_box, labelled, insertions, is_met, terms_after}
use Rattle.tb_insert.specs.AccountEntries.{numbered, boxed, IsAccountOf, IsScanOfPage, ComesTo, met_scan}
use Rattle.tb_insert.proofs.StandsLemmas.{stands-plain}
use Rattle.tb_insert.proofs.TermLemmas.{scan_plain}
use Rattle.tb_builder.proofs.Amounts.ScanLemmas.{scan_meets, scan_loose, scan_flat, scan_new}
use Rattle.tb_builder.specs.declared.Course.{Course}
use Rattle.tb_builder.specs.declared.Try.{Try}
use Rattle.tb_builder.specs.Reach.{try_of}
use Rattle.tb_break.specs.SplitPlace.{penalty_by}
use Rattle.tb_builder.specs.LegalPlaces.{page_shapes, glue_first, node_penalty, NoActs}
use Rattle.tb_builder.specs.Courses.{ChampionIs, IsCourseOf, IsFlat, is_loose, AllLoose, nodes_glue_first}
use Rattle.tb_builder.specs.CourseOffers.{MarksBest, place_here}

-- ---- a node by its kind

pub shape_is : (held : ℕ → List Node) (n : Node) → node_shape (plain_of held n) ≡ shape_of n
shape_is held n = by_kind n.kind
  where
    by_kind : (k : Kind) → (let x : Node = record { line = n.line; kind = k } in node_shape (plain_of held x) ≡ shape_of x)
    by_kind (kinds.Hbox what h d) = refl
    by_kind k = refl

pub no_act : (held : ℕ → List Node) (k : Kind) → act_of_kind k ≡ None → is_act_kind (plain_kind held k) ≡ false
no_act held (kinds.Act a) e = cc
no_act held k e = refl

pub no_insertion : (held : ℕ → List Node) (k : Kind) → insertion_of_kind k ≡ None → is_insertion_kind (plain_kind held k) ≡ false
no_insertion held (kinds.Ins i) e = cc
no_insertion held k e = refl

pub penalty_is : (held : ℕ → List Node) (lasting g : Bool) (n : Node) → act_of_kind n.kind ≡ None → node_penalty lasting g (plain_of held n) ≡ penalty_by lasting g (shape_of n)
penalty_is held lasting g n e = by_kind n.kind e
  where
    by_kind : (k : Kind) → act_of_kind k ≡ None → (let x : Node = record { line = n.line; kind = k } in node_penalty lasting g (plain_of held x) ≡ penalty_by lasting g (shape_of x))
    by_kind (kinds.Act a) e = cc
    by_kind k e = refl

pub first_glue_is : (held : ℕ → List Node) (ns : List Node) → nodes_glue_first ns ≡ glue_first (map (plain_of held) ns)
first_glue_is held [] = refl
first_glue_is held (n ∷ ns) = by_kind n.kind (first_glue_is held ns)
  where
    by_kind : (k : Kind) → nodes_glue_first ns ≡ glue_first (map (plain_of held) ns) → (let x : Node = record { line = n.line; kind = k } in nodes_glue_first (x ∷ ns) ≡ glue_first (plain_of held x ∷ map (plain_of held) ns))
    by_kind (kinds.Act a) ih = ih
    by_kind k ih = refl

-- ---- acts on a page

pub acts-append : (page : List PlainNode) (n : PlainNode) → NoActs page → is_act_kind n.kind ≡ false → NoActs (page ++ n ∷ [])
acts-append [] n h e = (e, tt)
acts-append (m ∷ ms) n h e = (h.0, acts-append ms n h.1 e)

pub loose_act : (k : PlainKind) → is_loose k ≡ true → is_act_kind k ≡ false
loose_act (plain m) e = refl
loose_act (ins i) e = refl
loose_act (act a) e = absurd (true≢false (sym e))

pub loose_acts : (page : List PlainNode) → AllLoose page → NoActs page
loose_acts [] h = tt
loose_acts (n ∷ ns) h = (loose_act n.kind h.0, loose_acts ns h.1)

-- ---- the best place

-- the page grows, and the best place stays
pub champion_grows : (o : Option Best) (goal : ℤ) (marked page more : List PlainNode) (b : Breakpoint) → ChampionIs o goal marked page b → ChampionIs o goal marked (page ++ more) b
champion_grows o goal marked page more b h = record {
  best = h.best;
  goal_is = h.goal_is;
  marked_is = h.marked_is ∙ sym (take-append-le b.place page more h.within);
  within = let w : b.place ≤ length page = h.within in omega (arith, length-append page more);
  room = h.room ∙ ap (λ ns. size_of (page_shapes ns)) (sym (take-append-le b.place page more h.within));
}

-- the room of a page is the sum of its total and its depth, whatever the depth limit
room-here : (z : Frozen) (page : List PlainNode) (p : ℤ) → (place_here z page p).sums.total +ℤ (place_here z page p).sums.depth ≡ size_of (page_shapes page)
room-here z page p = omega (arith, ints)

none-offered : (z : Frozen) (page : List PlainNode) (p : ℤ) (bs : List Breakpoint) → p <ℤ pos 10000 → int_le (place_here z page p).cost (least_cost bs) ≡ false → bs ≡ [] → ⊥
none-offered z page p bs lt e none =
    refuse (place_here z page p).cost (cost_at_most (place_here z page p).badness p (terms_after z page).penalties lt) (ap (λ xs. int_le (place_here z page p).cost (least_cost xs)) (sym none) ∙ e)
  where
    refuse : (c : ℤ) → c ≤ℤ awful_bad → int_le c awful_bad ≡ false → ⊥
    refuse c le e = grind (arith, ints, le, e)

module _ (z : Frozen) (k l : Course) (page : List PlainNode) (bs : List Breakpoint) (p goal pens : ℤ) (index : ℕ) (t : Bool)
    (h : IsCourseOf z k page bs) (legal : p <ℤ pos 10000) (index_is : index ≡ length page) (goal_is : goal ≡ (terms_after z page).goal) (pens_is : pens ≡ (terms_after z page).penalties)
    (test : t ≡ int_le (breakpoint_at index k.scan.sums goal p pens).cost (least_so_far k.scan.best))
    (scan : l.scan ≡ record k.scan { best = better_best k.scan.best (breakpoint_at index k.scan.sums goal p pens) }) (marks : MarksBest z k l page t goal) (lasting : l.lasting ≡ k.lasting) where
  pub place_same : breakpoint_at index k.scan.sums goal p pens ≡ place_here z page p
  place_same = (λ i. breakpoint_at (index_is i) (h.scan.sums i) (goal_is i) p (pens_is i))

  least_same : least_so_far k.scan.best ≡ least_cost bs
  least_same = h.offered.least

  best_is : l.scan.best ≡ better_best k.scan.best (place_here z page p)
  best_is = ap (λ (x : Scanned). x.best) scan ∙ ap (better_best k.scan.best) place_same

  test_is : t ≡ int_le (place_here z page p).cost (least_cost bs)
  test_is = test ∙ (λ i. int_le (place_same i).cost (least_same i))

  by_champion : (c : Bool) → t ≡ c → IsCourseOf z l page (bs ++ place_here z page p ∷ [])
  by_champion true e = record {
    scan = record { under = ap (λ (x : Scanned). x.max_depth) scan ∙ h.scan.under; sums = ap (λ (x : Scanned). x.sums) scan ∙ h.scan.sums };
    marked = page;
    account = marks.taken e h.marked h.account;
    offered = subst (λ o. Offered o (bs ++ place_here z page p ∷ [])) (sym best_is) (best-offer k.scan.best bs (place_here z page p) (cost_at_most (place_here z page p).badness p (terms_after z page).penalties legal) h.offered);
    champion = λ d some. subst (ChampionIs l.scan.best l.best_goal page page) (sym (champion-taken d bs (place_here z page p) (sym test_is ∙ e))) (record {
      best = best_is ∙ ap (λ b. if b then Some (best_of (place_here z page p)) else k.scan.best) (ap (int_le (place_here z page p).cost) least_same ∙ sym test_is ∙ e);
      goal_is = marks.goal_is e ∙ goal_is;
      marked_is = sym (take_all (length page) page (omega arith));
      within = omega arith;
      room = room-here z page p ∙ ap (λ ns. size_of (page_shapes ns)) (sym (take_all (length page) page (omega arith)));
    });
    lasting_is = lasting ∙ h.lasting_is;
    no_acts = h.no_acts;
  }
  by_champion false e = record {
    scan = record { under = ap (λ (x : Scanned). x.max_depth) scan ∙ h.scan.under; sums = ap (λ (x : Scanned). x.sums) scan ∙ h.scan.sums };
    marked = h.marked;
    account = subst (λ a. IsAccountOf a z page h.marked) (sym (marks.kept e)) h.account;
    offered = subst (λ o. Offered o (bs ++ place_here z page p ∷ [])) (sym best_is) (best-offer k.scan.best bs (place_here z page p) (cost_at_most (place_here z page p).badness p (terms_after z page).penalties legal) h.offered);
    champion = λ d some. subst (ChampionIs l.scan.best l.best_goal h.marked page) (sym (champion-kept d bs (place_here z page p) (sym test_is ∙ e)))
        (subst (λ o. ChampionIs o l.best_goal h.marked page (best_or d bs)) (sym stays) (subst (λ g. ChampionIs k.scan.best g h.marked page (best_or d bs)) (sym (marks.goal_kept e)) (h.champion d (none-offered z page p bs legal (sym test_is ∙ e)))));
    lasting_is = lasting ∙ h.lasting_is;
    no_acts = h.no_acts;
  }
    where
      stays : l.scan.best ≡ k.scan.best
      stays = best_is ∙ ap (λ b. if b then Some (best_of (place_here z page p)) else k.scan.best) (ap (int_le (place_here z page p).cost) least_same ∙ sym test_is ∙ e)

  pub course_offered : IsCourseOf z l page (bs ++ place_here z page p ∷ [])
  course_offered = by_champion t refl

  -- the try of the place
  pub made_is : (made : Try) (line : ℕ) (o : Offer) (sums : Sums) → sums ≡ k.scan.sums → o ≡ offer_of k.scan.best (breakpoint_at index k.scan.sums goal p pens)
      → made ≡ record { line = line; sums = sums; goal = goal; badness = o.badness; penalty = p; cost = o.cost; champion = o.champion }
      → made ≡ try_of line (place_here z page p) (least_cost bs)
  made_is made line o sums s e m = m ∙ (λ i. made_of (s i) (e i)) ∙ (λ i. try_of line (place_same i) (least_same i))
    where
      made_of : Sums → Offer → Try
      made_of x y = record { line = line; sums = x; goal = goal; badness = y.badness; penalty = p; cost = y.cost; champion = y.champion }

-- ---- a node goes on the page

-- a node that is no insertion
pub course_put : (z : Frozen) (k l : Course) (page : List PlainNode) (bs : List Breakpoint) (n : PlainNode) → IsCourseOf z k page bs → is_act_kind n.kind ≡ false → is_insertion_kind n.kind ≡ false
    → l.scan ≡ record k.scan { sums = added_node k.scan.max_depth k.scan.sums (node_shape n) } → l.account ≡ k.account → l.best_goal ≡ k.best_goal → l.lasting ≡ not (is_discardable (node_shape n))
    → IsCourseOf z l (page ++ n ∷ []) bs
course_put z k l page bs n h no_act no_ins scan account goal lasting = record {
  scan = scan_plain z page k.scan l.scan n no_ins h.scan scan;
  marked = h.marked;
  account = subst (λ a. IsAccountOf a z (page ++ n ∷ []) h.marked) (sym account) (stands-plain k.account z page h.marked n no_ins h.account);
  offered = subst (λ o. Offered o bs) (sym best) h.offered;
  champion = λ d some. subst (λ o. ChampionIs o l.best_goal h.marked (page ++ n ∷ []) (best_or d bs)) (sym best) (subst (λ g. ChampionIs k.scan.best g h.marked (page ++ n ∷ []) (best_or d bs)) (sym goal) (champion_grows k.scan.best k.best_goal h.marked page (n ∷ []) (best_or d bs) (h.champion d some)));
  lasting_is = lasting ∙ sym (ap ends_lasting (map-append node_shape page (n ∷ [])) ∙ ends_with (page_shapes page) (node_shape n));
  no_acts = acts-append page n h.no_acts no_act;
}
  where
    best : l.scan.best ≡ k.scan.best
    best = ap (λ (x : Scanned). x.best) scan

-- an insertion
pub course_joined : (z : Frozen) (k l : Course) (page : List PlainNode) (bs : List Breakpoint) (line : ℕ) (i : Inserted) (class : Class) (size : ℤ) (index : ℕ) → IsCourseOf z k page bs → ComesTo z page k.scan class size index → class.number ≡ i.class
    → ((marked : List PlainNode) → IsAccountOf k.account z page marked → IsAccountOf l.account z (page ++ record { line = line; kind = ins i } ∷ []) marked)
    → ((marked : List PlainNode) → IsAccountOf k.account z page marked → l.scan ≡ met_scan (is_met (insertions (labelled z page)) i.class) k.scan class)
    → l.best_goal ≡ k.best_goal → l.lasting ≡ true
    → IsCourseOf z l (page ++ record { line = line; kind = ins i } ∷ []) bs
course_joined z k l page bs line i class size index h co number stands scan goal lasting = record {
  scan = subst (λ s. IsScanOfPage s z (page ++ record { line = line; kind = ins i } ∷ [])) (sym scan_is)
      (scan_meets z page k.scan line i (is_met (insertions (labelled z page)) i.class) class size h.account.differ
      (subst (λ n. numbered z.classes n ≡ true) number co.numbered_so) (subst (λ n. class_box z.classes n ≡ boxed class size) number co.own) refl h.scan);
  marked = h.marked;
  account = stands h.marked h.account;
  offered = subst (λ o. Offered o bs) (sym best) h.offered;
  champion = λ d some. subst (λ o. ChampionIs o l.best_goal h.marked (page ++ record { line = line; kind = ins i } ∷ []) (best_or d bs)) (sym best)
      (subst (λ g. ChampionIs k.scan.best g h.marked (page ++ record { line = line; kind = ins i } ∷ []) (best_or d bs)) (sym goal) (champion_grows k.scan.best k.best_goal h.marked page (record { line = line; kind = ins i } ∷ []) (best_or d bs) (h.champion d some)));
  lasting_is = lasting ∙ sym (ap ends_lasting (map-append node_shape page (record { line = line; kind = ins i } ∷ [])) ∙ ends_with (page_shapes page) other);
  no_acts = acts-append page (record { line = line; kind = ins i }) h.no_acts refl;
}
  where
    scan_is : l.scan ≡ met_scan (is_met (insertions (labelled z page)) i.class) k.scan class
    scan_is = scan h.marked h.account

    met_best : (m : Bool) → (met_scan m k.scan class).best ≡ k.scan.best
    met_best true = refl
    met_best false = refl

    best : l.scan.best ≡ k.scan.best
    best = ap (λ (x : Scanned). x.best) scan_is ∙ met_best (is_met (insertions (labelled z page)) i.class)

-- ---- a page of marks, notes and whatsits

pub loose_plain : (k : PlainKind) → is_loose k ≡ true → is_insertion_kind k ≡ false
loose_plain (plain m) e = refl
loose_plain (ins i) e = absurd (true≢false (sym e))
loose_plain (act a) e = absurd (true≢false (sym e))

pub loose_shape : (line : ℕ) (k : PlainKind) → is_loose k ≡ true → (let n : PlainNode = record { line = line; kind = k } in node_shape n ≡ other)
loose_shape line (plain (mark m)) e = refl
loose_shape line (plain (note m)) e = refl
loose_shape line (plain whatsit) e = refl
loose_shape line (ins i) e = refl
loose_shape line (act a) e = refl
loose_shape line k e = absurd (true≢false (sym e))

loose_scan : (z : Frozen) (s : Scanned) (before page : List PlainNode) → AllLoose page → IsScanOfPage s z before → IsScanOfPage s z (before ++ page)
loose_scan z s before [] h scan = subst (IsScanOfPage s z) (sym (append-nil before)) scan
loose_scan z s before (n ∷ ns) h scan =
    subst (IsScanOfPage s z) (append_assoc before (n ∷ []) ns) (loose_scan z s (before ++ n ∷ []) ns h.1 (scan_loose z before s n (loose_plain n.kind h.0) (loose_shape n.line n.kind h.0) scan))

loose_account : (z : Frozen) (a : Account) (before page : List PlainNode) → AllLoose page → IsAccountOf a z before [] → IsAccountOf a z (before ++ page) []
loose_account z a before [] h stands = subst (λ p. IsAccountOf a z p []) (sym (append-nil before)) stands
loose_account z a before (n ∷ ns) h stands =
    subst (λ p. IsAccountOf a z p []) (append_assoc before (n ∷ []) ns) (loose_account z a (before ++ n ∷ []) ns h.1 (stands-plain a z before [] n (loose_plain n.kind h.0) stands))

pub course_started : (z : Frozen) (k : Course) (limit : ℤ) (page : List PlainNode) → k.scan ≡ empty_scan limit → z.limit ≡ limit → Offered k.scan.best [] → IsAccountOf k.account z [] [] → k.lasting ≡ ends_lasting (page_shapes page) → AllLoose page
    → IsCourseOf z k page []
course_started z k limit page scan limit_is offered account lasting loose = record {
  scan = loose_scan z k.scan [] page loose (scan_new z limit k.scan scan limit_is);
  marked = [];
  account = loose_account z k.account [] page loose account;
  offered = offered;
  champion = λ d some. absurd (some refl);
  lasting_is = lasting;
  no_acts = loose_acts page loose;
}

-- ---- what the code does

pub course_put_node : (z : Frozen) (k l : Course) (page : List PlainNode) (bs : List Breakpoint) (held : ℕ → List Node) (n : Node) → IsCourseOf z k page bs → act_of_kind n.kind ≡ None → insertion_of_kind n.kind ≡ None
    → l.scan ≡ record k.scan { sums = added_node k.scan.max_depth k.scan.sums (shape_of n) } → l.account ≡ k.account → l.best_goal ≡ k.best_goal → l.lasting ≡ not (is_discardable (shape_of n))
    → IsCourseOf z l (page ++ plain_of held n ∷ []) bs
course_put_node z k l page bs held n h a i scan account goal lasting =
    course_put z k l page bs (plain_of held n) h (no_act held n.kind a) (no_insertion held n.kind i)
    (scan ∙ ap (λ x. with_sums k.scan (added_node k.scan.max_depth k.scan.sums x)) (sym (shape_is held n))) account goal (lasting ∙ ap (λ x. not (is_discardable x)) (sym (shape_is held n)))
  where
    with_sums : Scanned → Sums → Scanned
    with_sums s x = record s { sums = x }

-- the same of a node of this shape
pub course_put_shape : (z : Frozen) (k l : Course) (page : List PlainNode) (bs : List Breakpoint) (held : ℕ → List Node) (n : Node) (x : Shape) → shape_of n ≡ x → IsCourseOf z k page bs → act_of_kind n.kind ≡ None → insertion_of_kind n.kind ≡ None
    → l.scan ≡ record k.scan { sums = added_node k.scan.max_depth k.scan.sums x } → l.account ≡ k.account → l.best_goal ≡ k.best_goal → l.lasting ≡ not (is_discardable x)
    → IsCourseOf z l (page ++ plain_of held n ∷ []) bs
course_put_shape z k l page bs held n x shape h a i scan account goal lasting =
    course_put_node z k l page bs held n h a i (scan ∙ ap (λ y. with_sums k.scan (added_node k.scan.max_depth k.scan.sums y)) (sym shape)) account goal (lasting ∙ ap (λ y. not (is_discardable y)) (sym shape))
  where
    with_sums : Scanned → Sums → Scanned
    with_sums s y = record s { sums = y }

flat_lasting : (lasting : Bool) (x : Shape) → IsFlat lasting x → lasting ≡ not (is_discardable x)
flat_lasting lasting (box h d) flat = absurd flat
flat_lasting lasting (glue g) flat = absurd flat
flat_lasting lasting (kern w) flat = absurd flat
flat_lasting lasting (penalty p) flat = flat
flat_lasting lasting other flat = flat

-- the same of one that takes no room: the sums stay
pub course_put_flat : (z : Frozen) (k l : Course) (page : List PlainNode) (bs : List Breakpoint) (held : ℕ → List Node) (n : Node) (lasting : Bool) → IsFlat lasting (shape_of n) → IsCourseOf z k page bs → act_of_kind n.kind ≡ None → insertion_of_kind n.kind ≡ None
    → l.scan ≡ k.scan → l.account ≡ k.account → l.best_goal ≡ k.best_goal → l.lasting ≡ lasting
    → IsCourseOf z l (page ++ plain_of held n ∷ []) bs
course_put_flat z k l page bs held n lasting flat h a i scan account goal last =
    course_put_node z k l page bs held n h a i (scan ∙ ap (with_sums k.scan) (sym (scan_flat z page k.scan lasting (shape_of n) flat h.scan))) account goal (last ∙ flat_lasting lasting (shape_of n) flat)
  where
    with_sums : Scanned → Sums → Scanned
    with_sums s y = record s { sums = y }
