-- The page that fires is sorted from its front: what holds after some of its nodes.
use Rattle.std.proofs.Common.{◌≡◌, refl, sym, subst, ◌∙◌, ap, ℕ, zero, suc, ◌+◌, ◌<◌, ◌≤◌, List, [], ◌∷◌, ◌++◌, map, length, take, drop, append_assoc, append-nil, true, false, Option, Some, None, arith}
use Rattle.std.specs.FinMap.{insert}
use Rattle.std.proofs.lemmas.Bool.Decides.{nat_tests}
use Rattle.std.proofs.lemmas.List.{map-id, length-map, nil_from_length, length-take-le, length-drop}
use Rattle.std.proofs.Math.Seq.{take-length}
use Rattle.tb_pool.specs.Lists.{Lists, IsLive, list_at, with_list}
use Rattle.tb_pool.proofs.MapLemmas.{insert_twice_from_get}
use Rattle.tb_node.specs.declared.Node.{Node}
use Rattle.tb_node.specs.PlainNodes.{PlainNode, plain_of, plain_list}
use Rattle.tb_insert.specs.Account.{Frozen, labelled}
use Rattle.tb_insert.specs.AccountEntries.{IsAccountOf, last_place, reaches}
use Rattle.tb_builder.specs.declared.Builder.{Builder}
use Rattle.tb_builder.specs.Ownership.{Lacks, inner_ids, ids_of, owned, IsOwned}
use Rattle.tb_builder.specs.FiredPages.{Boxed}
use Rattle.tb_builder.specs.Contents.{contents_of}
use Rattle.tb_builder.specs.Firing.{SortsTo, Sorted, IsMarkedAt, EachFits, NoInsertions, has_insertion, InsertionAt, IsBody}
use Rattle.tb_builder.proofs.Ownership.StoreMoves.{Got, got_two}
use Rattle.tb_builder.proofs.Sorting.PlaceLemmas.{place_within}
use Rattle.tb_builder.proofs.Sorting.SortLemmas.{run_sorts, run_left, run_sorted}
use Rattle.tb_builder.proofs.Sorting.LastLemmas.{none_behind, some_ahead}

-- this many nodes were sorted, since the builder was b in the store s
pub record Sorting (b : Builder) (s : Lists Node) (d : Builder) (t : Lists Node) (body : ℕ) : Type 0 where
  pub index : ℕ
  pub sorts : SortsTo b s d t body
  pub left : length (list_at t b.page) + index ≡ length (list_at s b.page)
  pub room : 0 < t.spare
  pub sorted : (z : Frozen) (page : List PlainNode) → IsAccountOf b.course.account z page (contents_of b s).page
      → Sorted z (contents_of b s).boxes (contents_of b s).page (contents_of d t) (plain_list t body) (take index (contents_of b s).page)

pub sorting_begins : (b : Builder) (s : Lists Node) (body : ℕ) → IsOwned (ids_of b) s → IsLive s body → list_at s body ≡ [] → list_at s b.held ≡ [] → 0 < s.spare → Sorting b s b s body
sorting_begins b s body own live empty none room = record {
  index = 0;
  sorts = record { own = own; others = λ q ne h. refl; keeps = λ q h. h; builder = refl; classes = refl; waiting = refl; body_live = live; body_plain = ap inner_ids empty };
  left = omega arith;
  room = room;
  sorted = λ z page a. record {
    whole = refl;
    body_is = ap (map (plain_of (list_at s))) empty;
    boxes_are = sym (map-id (contents_of b s).boxes);
    held_are = ap (map (plain_of (list_at s))) none;
  };
}

-- one step after others
pub sorts_on : (b d e : Builder) (s t u : Lists Node) (body : ℕ) → SortsTo b s d t body → SortsTo d t e u body → SortsTo b s e u body
sorts_on b d e s t u body g h = record {
  own = h.own;
  others = λ q ne l. h.others q ne (g.keeps q l) ∙ g.others q ne l;
  keeps = λ q l. h.keeps q (g.keeps q l);
  builder = h.builder ∙ ap (λ (x : Builder). record x { boxes = e.boxes }) g.builder;
  classes = h.classes ∙ g.classes;
  waiting = h.waiting ∙ g.waiting;
  body_live = h.body_live;
  body_plain = h.body_plain;
}

take_more : (n k : ℕ) (xs ys : List PlainNode) → take n xs ++ ys ≡ xs → take n xs ++ take k ys ≡ take (n + k) xs
take_more zero k xs ys e = let same : k ≡ 0 + k = omega arith in ap (take k) e ∙ ap (λ m. take m xs) same
take_more (suc n) k [] ys e = let same : suc (n + k) ≡ suc n + k = omega arith in nothing k ys e ∙ ap (λ m. take m []) same
  where
    nothing : (k : ℕ) (ys : List PlainNode) → ys ≡ [] → take k ys ≡ []
    nothing zero ys e = refl
    nothing (suc k) [] e = refl
    nothing (suc k) (y ∷ ys) e = cc
take_more (suc n) k (x ∷ xs) ys e =
    let same : suc (n + k) ≡ suc n + k = omega arith in
    let rest : take n xs ++ ys ≡ xs = cc in
    ap (λ zs. x ∷ zs) (take_more n k xs ys rest) ∙ ap (λ m. take m (x ∷ xs)) same

module _ (b d : Builder) (s t : Lists Node) (body : ℕ) (h : Sorting b s d t body) where
  abbrev page_all : List PlainNode
  page_all = (contents_of b s).page

  pub page_id : d.page ≡ b.page
  page_id = ap (λ (x : Builder). x.page) h.sorts.builder

  pub page_left : length (list_at t d.page) + h.index ≡ length (list_at s b.page)
  page_left = ap (λ x. length (list_at t x) + h.index) page_id ∙ h.left

  -- so many nodes went, if they and those of the page are all
  pub index_by : (done count : ℕ) → count ≡ length (list_at s b.page) → length (list_at t d.page) + done ≡ count → done ≡ h.index
  index_by done count all e = omega (arith, all, e, page_left)

  length_all : length page_all ≡ length (list_at s b.page)
  length_all = length-map (list_at s b.page) (plain_of (list_at s))

  index_taken : h.index ≡ length (take h.index page_all)
  index_taken = sym (length-take-le h.index page_all (omega (arith, h.left, length_all)))

  -- the body is still not the builder's
  pub still_body : Lacks body (owned (ids_of b) s) → IsBody d t body
  still_body apart = record { live = h.sorts.body_live; apart = h.sorts.keeps body apart; plain = h.sorts.body_plain }

  module _ (marked : IsMarkedAt b.course.account 0 page_all) where
    stands : IsAccountOf b.course.account marked.z marked.page page_all
    stands = subst (λ ps. IsAccountOf b.course.account marked.z marked.page (ps ++ page_all)) (nil_from_length marked.before (sym marked.index_is)) marked.stands

    whole : take h.index page_all ++ (contents_of d t).page ≡ page_all
    whole = (h.sorted marked.z marked.page stands).whole

    pub still_marked : IsMarkedAt d.course.account h.index (contents_of d t).page
    still_marked = record {
      z = marked.z;
      page = marked.page;
      before = take h.index page_all;
      stands = subst (λ (x : Builder). IsAccountOf x.course.account marked.z marked.page (take h.index page_all ++ (contents_of d t).page)) (sym same) (subst (IsAccountOf b.course.account marked.z marked.page) (sym whole) stands);
      index_is = index_taken;
    }
      where
        same : d ≡ record b { boxes = d.boxes }
        same = h.sorts.builder

    pub still_fits : EachFits page_all → EachFits (contents_of d t).page
    still_fits fit before n rest e = fit (take h.index page_all ++ before) n rest (append_assoc (take h.index page_all) before (n ∷ rest) ∙ ap (λ ps. take h.index page_all ++ ps) e ∙ whole)

    -- the place of the account's last insertion, and how many nodes went, tell whether one is left
    module _ (o : Option ℕ) (told : (z : Frozen) (page marked : List PlainNode) → IsAccountOf b.course.account z page marked → o ≡ last_place (labelled z marked)) where
      reaches_is : (done : ℕ) → done ≡ h.index → reaches o done ≡ reaches (last_place (labelled marked.z (take h.index page_all ++ (contents_of d t).page))) (length (take h.index page_all))
      reaches_is done so = λ j. reaches ((told marked.z marked.page page_all stands ∙ ap (λ ps. last_place (labelled marked.z ps)) (sym whole)) j) ((so ∙ index_taken) j)

      none_later : (done : ℕ) → done ≡ h.index → reaches o done ≡ false → NoInsertions (list_at t d.page)
      none_later done so over = none_behind marked.z (list_at t) (take h.index page_all) (list_at t d.page) (sym (reaches_is done so) ∙ over)

      pub no_insertion_there : o ≡ None → NoInsertions (list_at t d.page)
      no_insertion_there e = none_later h.index refl (ap (λ x. reaches x h.index) e)

      pub none_remains : (last done : ℕ) → o ≡ Some last → done ≡ h.index → last < done → NoInsertions (list_at t d.page)
      none_remains last done e so over = none_later done so (ap (λ x. reaches x done) e ∙ not_up_to)
        where
          not_up_to : reaches (Some last) done ≡ false
          not_up_to = grind (arith, nat_tests)

      pub some_remains : (last done : ℕ) → o ≡ Some last → done ≡ h.index → done ≤ last → has_insertion (list_at t d.page) ≡ true
      some_remains last done e so within = some_ahead marked.z (list_at t) (take h.index page_all) (list_at t d.page) (sym (reaches_is done so) ∙ ap (λ x. reaches x done) e ∙ up_to)
        where
          up_to : reaches (Some last) done ≡ true
          up_to = grind (arith, nat_tests)

  -- this many more nodes were sorted
  module _ (e : Builder) (u : Lists Node) (more : ℕ) (step : SortsTo d t e u body) (left : length (list_at u d.page) + more ≡ length (list_at t d.page)) (spare : t.spare ≤ u.spare)
      (sorted : (z : Frozen) (page marked before : List PlainNode) (boxes : List Boxed) → IsAccountOf d.course.account z page marked → h.index ≡ length before
      → Sorted z boxes marked (contents_of d t) (plain_list t body) before → Sorted z boxes marked (contents_of e u) (plain_list u body) (before ++ take more (contents_of d t).page)) where
    pub sorting_next : Sorting b s e u body
    sorting_next = record {
      index = h.index + more;
      sorts = sorts_on b d e s t u body h.sorts step;
      left = let l : length (list_at u b.page) + more ≡ length (list_at t b.page) = subst (λ x. length (list_at u x) + more ≡ length (list_at t x)) page_id left in omega (arith, l, h.left);
      room = omega (arith, h.room, spare);
      sorted = λ z page a.
          let was = h.sorted z page a in
          let account = subst (λ (x : Builder). IsAccountOf x.course.account z page page_all) (sym h.sorts.builder) a in
          subst (Sorted z (contents_of b s).boxes page_all (contents_of e u) (plain_list u body)) (take_more h.index more page_all (contents_of d t).page was.whole)
          (sorted z page page_all (take h.index page_all) (contents_of b s).boxes account index_taken was);
    }

  -- all nodes were sorted
  module _ (empty : list_at t d.page ≡ []) where
    pub none_left : list_at t b.page ≡ []
    none_left = ap (list_at t) (sym page_id) ∙ empty

    pub all_sorted : (z : Frozen) (page : List PlainNode) → IsAccountOf b.course.account z page page_all → Sorted z (contents_of b s).boxes page_all (contents_of d t) (plain_list t body) page_all
    all_sorted z page a = subst (Sorted z (contents_of b s).boxes page_all (contents_of d t) (plain_list t body)) (ap (λ n. take n page_all) same ∙ take-length page_all) (h.sorted z page a)
      where
        same : h.index ≡ length page_all
        same = omega (arith, h.left, ap length none_left, length_all)

-- `done` nodes were sorted before; now the insertion after the first `passed` nodes is, too
pub record InsertionWent (b d : Builder) (s t : Lists Node) (body : ℕ) (e : Builder) (v : Lists Node) (passed done : ℕ) : Type 0 where
  pub sorting : Sorting b s e v body
  pub counted : (count : ℕ) → length (list_at t d.page) + done ≡ count → length (list_at v e.page) + (passed + 1) ≡ count
  pub fewer : length (list_at v e.page) < length (list_at t d.page)

-- the nodes before the first insertion went to the body, and then the insertion goes
module _ (b d : Builder) (s t u : Lists Node) (body place done : ℕ) (h : Sorting b s d t body) (so : done ≡ h.index) (at : InsertionAt (list_at t d.page) place) (sorts : SortsTo d t d u body)
    (sorted : (z : Frozen) (marked before : List PlainNode) (boxes : List Boxed) → Sorted z boxes marked (contents_of d t) (plain_list t body) before → Sorted z boxes marked (contents_of d u) (plain_list u body) (before ++ take place (contents_of d t).page))
    (page : list_at u d.page ≡ drop place (list_at t d.page)) (spare : u.spare ≡ t.spare) where
  fewer : length (list_at u d.page) + place ≡ length (list_at t d.page)
  fewer = omega (arith, ap length page, length-drop place (list_at t d.page), place_within (list_at t d.page) place at)

  run : Sorting b s d u body
  run = sorting_next b d s t body h d u place sorts fewer (omega (arith, spare)) (λ z page marked before boxes a at was. sorted z marked before boxes was)

  index_is : done + place ≡ run.index
  index_is = omega (arith, so, fewer, page_left b d s t body h, page_left b d s u body run)

  pub run_marked : IsMarkedAt b.course.account 0 (plain_list s b.page) → IsMarkedAt d.course.account (done + place) (plain_list u d.page)
  run_marked marked = subst (λ k. IsMarkedAt d.course.account k (plain_list u d.page)) (sym index_is) (still_marked b d s u body run marked)

  pub run_fits : IsMarkedAt b.course.account 0 (plain_list s b.page) → EachFits (plain_list s b.page) → EachFits (plain_list u d.page)
  run_fits marked fits = still_fits b d s u body run marked fits

  module _ (apart : Lacks body (owned (ids_of b) s)) (e : Builder) (v : Lists Node) (went : (x : ℕ) → IsBody d u x → SortsTo d u e v x) (shorter : length (list_at v d.page) + 1 ≡ length (list_at u d.page)) (no_less : u.spare ≤ v.spare)
      (goes : (x : ℕ) → IsBody d u x → (z : Frozen) (page marked before : List PlainNode) (boxes : List Boxed) → IsAccountOf d.course.account z page marked → done + place ≡ length before
      → Sorted z boxes marked (contents_of d u) (plain_list u x) before → Sorted z boxes marked (contents_of e v) (plain_list v x) (before ++ take 1 (contents_of d u).page)) where
    run_body : IsBody d u body
    run_body = still_body b d s u body run apart

    pub insertion_went : InsertionWent b d s t body e v (done + place) done
    insertion_went =
        let same : e.page ≡ d.page = ap (λ (x : Builder). x.page) (went body run_body).builder in
        record {
          sorting = sorting_next b d s u body run e v 1 (went body run_body) shorter no_less (λ z page marked before boxes a i was. goes body run_body z page marked before boxes a (index_is ∙ i) was);
          counted = λ count all. omega (arith, all, ap (λ x. length (list_at v x)) same, shorter, fewer);
          fewer = omega (arith, ap (λ x. length (list_at v x)) same, shorter, fewer);
        }

-- no insertion is left on the page, and the rest goes to the body
module _ (b d : Builder) (s t u : Lists Node) (body : ℕ) (h : Sorting b s d t body) (none : NoInsertions (list_at t d.page)) (apart : Lacks body (owned (ids_of b) s)) (spare : u.spare ≡ t.spare)
    (e : u.lists ≡ insert (with_list t body (list_at t body ++ list_at t d.page)) d.page []) where
  free : IsBody d t body
  free = still_body b d s t body h apart

  moved : u.lists ≡ insert (with_list t d.page []) body (list_at t body ++ list_at t d.page)
  moved =
      let g : Got t u body d.page (list_at t body ++ list_at t d.page) [] = got_two t u body d.page (list_at t body ++ list_at t d.page) [] free.apart.0 e in
      insert_twice_from_get t.lists u.lists d.page body [] (list_at t body ++ list_at t d.page) (λ x. free.apart.0 (sym x)) g.second g.first (λ q np nb. g.others q nb np)

  rest_is : list_at t d.page ≡ list_at t d.page ++ []
  rest_is = sym (append-nil (list_at t d.page))

  empty : list_at u d.page ≡ []
  empty = run_left d t u (list_at t d.page) [] body h.sorts.own rest_is none free moved

  ended : Sorting b s d u body
  ended = sorting_next b d s t body h d u (length (list_at t d.page)) (run_sorts d t u (list_at t d.page) [] body h.sorts.own rest_is none free moved) (omega (arith, ap length empty)) (omega (arith, spare))
      (λ z page marked before boxes a at was. subst (λ ps. Sorted z boxes marked (contents_of d u) (plain_list u body) (before ++ ps)) (sym whole_taken)
      (run_sorted d t u (list_at t d.page) [] body h.sorts.own rest_is none free moved z boxes marked before was))
    where
      whole_taken : take (length (list_at t d.page)) (plain_list t d.page) ≡ plain_list t d.page
      whole_taken = ap (λ n. take n (plain_list t d.page)) (sym (length-map (list_at t d.page) (plain_of (list_at t)))) ∙ take-length (plain_list t d.page)

  pub rest_sorts : SortsTo b s d u body
  rest_sorts = ended.sorts

  pub rest_sorted : (z : Frozen) (page : List PlainNode) → IsAccountOf b.course.account z page (contents_of b s).page
      → Sorted z (contents_of b s).boxes (contents_of b s).page (contents_of d u) (plain_list u body) (contents_of b s).page
  rest_sorted = all_sorted b d s u body ended empty

  pub rest_empty : list_at u b.page ≡ []
  rest_empty = none_left b d s u body ended empty
