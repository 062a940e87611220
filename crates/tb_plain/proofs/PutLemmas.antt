-- A list is put before all that waits at a builder.
use Rattle.std.proofs.Common.{◌≡◌, ◌≢◌, inl, inr, refl, sym, ap, subst, ◌∙◌, ℕ, ℤ, pos, Bool, true, false, List, [], ◌∷◌, ◌++◌, map, None, unwrap_or, arith}
use Rattle.std.specs.Prelude.{◌+ℤ◌, ◌||◌, int_lt, if◌then◌else◌}
use Rattle.std.specs.FinMap.{FinMap, get, insert, remove}
use Rattle.std.specs.Ordering.{nat_cmp}
use Rattle.std.proofs.lemmas.Int.{ints}
use Rattle.std.proofs.lemmas.Bool.{cases_eq}
use Rattle.tb_scaled.specs.Scaled.{max_dimen}
use Rattle.tb_pool.specs.Lists.{Lists, IsLive, list_at, with_list}
use Rattle.tb_pool.proofs.MapLemmas.{get-insert_same, get-insert_other, get-remove_same, get-remove_other, same_from_get}
use Rattle.tb_pool.proofs.CallerLemmas.{list_same, live_same, get_other, list_other, live_other}
use Rattle.tb_node.specs.declared.Node.{Node}
use Rattle.tb_node.specs.declared.Act.{Act}
use Rattle.tb_node.specs.declared.Act.TheVariants as acts
use Rattle.tb_node.specs.declared.Float.{Float}
use Rattle.tb_node.specs.PlainNodes.{Leaf, leaf_of, leaf_shape, ins, PlainNode, plain_of, plain_list}
use Rattle.tb_node.specs.Sums.{size_of}
use Rattle.tb_param.specs.declared.Params.{Params}
use Rattle.tb_builder.specs.declared.Builder.{Builder}
use Rattle.tb_builder.specs.declared.PageSums.{PageSums}
use Rattle.tb_builder.specs.Contents.{Contents, contents_of}
use Rattle.tb_builder.specs.Ownership.{Lacks, has_class, inner_ids, ids_of, owned, AllPlain}
use Rattle.tb_builder.specs.Courses.{IsSound}
use Rattle.tb_builder.specs.Contributions.{NodesJoin, ListJoins, ends_in_kern}
use Rattle.tb_builder.proofs.Ownership.OwnedLemmas.{AllSame, lacks-append, lacks-right}
use Rattle.tb_builder.proofs.Ownership.NewLemmas.{fresh_lacks}
use Rattle.tb_builder.proofs.Ownership.FrameLemmas.{frame_owned, frame_contents, frame_sound, insertion_joins, fresh_apart}
use Rattle.tb_builder.proofs.WorkedPages.WorkedLemmas.{plain_ids, list_joins}
use Rattle.tb_column.proofs.StoreLemmas.{helper-apart}
use Rattle.tb_plain.specs.declared.taken_floats.Place.{Place}
use Rattle.tb_plain.specs.declared.taken_floats.Place.TheVariants as ways
use Rattle.tb_plain.specs.TakenFloats.{here_nodes, top_leaves, page_leaves, top_insertion, taken_nodes, act_nodes, with_float}
use Rattle.tb_plain.specs.StoredLists.{place_of, nodes_at, here_list, top_list, page_list, top_node, AreOpened, IsPutFirst}
use Rattle.tb_plain.specs.MakeupCalls.{CanAct, HasPut}
use Rattle.tb_plain.proofs.BesideLemmas.{same-one, same-two}

-- ---- the list is put first and closed

module _ (b d : Builder) (s m t : Lists Node) (l : ℕ) (joins : ListJoins (ids_of b) s l) (sound : IsSound d m)
    (contents : contents_of d m ≡ record (contents_of b s) { waiting = plain_list s l ++ (contents_of b s).waiting })
    (others : (q : ℕ) → q ≢ l → Lacks q (owned (ids_of b) s) → get m.lists q ≡ get s.lists q)
    (keeps : (q : ℕ) → Lacks q (owned (ids_of b) s ++ inner_ids (list_at s l)) → Lacks q (owned (ids_of d) m))
    (owns : (q : ℕ) → Lacks q (owned (ids_of d) m) → Lacks q (owned (ids_of b) s ++ inner_ids (list_at s l)))
    (closed : t.lists ≡ remove m.lists l) where
  rest : (q : ℕ) → q ≢ l → get t.lists q ≡ get m.lists q
  rest q ne = ap (λ x. get x q) closed ∙ get-remove_other m.lists l q ne

  beside : AllSame m t (owned (ids_of d) m)
  beside = same-one m t l rest (owned (ids_of d) m) (keeps l joins.apart)

  pub put-first : IsPutFirst l b s d t
  put-first = record {
    sound = frame_sound d m t sound beside;
    contents = frame_contents d m t sound beside ∙ contents;
    closed = ap (λ x. get x l) closed ∙ get-remove_same m.lists l;
    others = λ q ne h. rest q ne ∙ others q ne h;
    keeps = λ q h. subst (Lacks q) (sym (frame_owned d m t sound beside)) (keeps q h);
    owns = λ q h. owns q (subst (Lacks q) (frame_owned d m t sound beside) h);
  }

-- ---- a list that was opened, and filled

module _ (b : Builder) (s t : Lists Node) (l : ℕ) (can : CanAct b s) (fresh : get s.lists l ≡ None) (same : AllSame s t (owned (ids_of b) s)) where
  pub still-sound : IsSound b t
  still-sound = frame_sound b s t can.sound same

  contents-same : contents_of b t ≡ contents_of b s
  contents-same = frame_contents b s t can.sound same

  owned-same : owned (ids_of b) t ≡ owned (ids_of b) s
  owned-same = frame_owned b s t can.sound same

  pub still-can : CanAct b t
  still-can = record {
    sound = still-sound;
    going = ap (λ (c : Contents). c.stopped) contents-same ∙ can.going;
    no_kern = ap (λ (c : Contents). ends_in_kern c.page) contents-same ∙ can.no_kern;
    known = ap (λ (c : Contents). has_class c.classes 253) contents-same ∙ can.known;
  }

  pub still-apart : Lacks l (owned (ids_of b) t)
  still-apart = subst (Lacks l) (sym owned-same) (fresh_apart (ids_of b) s l can.sound.own fresh)

  -- only it and the lists of its insertions changed, and these are new
  module _ (beside : (q : ℕ) → q ≢ l → Lacks q (inner_ids (list_at t l)) → get t.lists q ≡ get s.lists q) (new : (q : ℕ) → IsLive s q → Lacks q (inner_ids (list_at t l)))
      (ns : List PlainNode) (shown : plain_list t l ≡ ns) (d : Builder) (u : Lists Node) (w : IsPutFirst l b t d u) where
    others-same : (q : ℕ) → Lacks q (owned (ids_of b) s) → Lacks q (owned (ids_of d) u) → get u.lists q ≡ get s.lists q
    others-same q h k = elim (cases_eq q l) [
      | inl e ↦ ap (get u.lists) e ∙ w.closed ∙ sym (ap (get s.lists) e ∙ fresh)
      | inr ne ↦ w.others q ne (subst (Lacks q) (sym owned-same) h) ∙ beside q ne (lacks-right q (owned (ids_of b) t) (inner_ids (list_at t l)) (w.owns q k))
    ]

    pub has-put : HasPut ns b s d u
    has-put = record {
      sound = w.sound;
      contents = w.contents ∙ (λ i. record (contents-same i) { waiting = shown i ++ (contents-same i).waiting });
      others = others-same;
      apart = λ q live h. w.keeps q (lacks-append q (owned (ids_of b) t) (inner_ids (list_at t l)) (subst (Lacks q) (sym owned-same) h) (new q live));
    }

-- ---- a float in the text

module _ (b : Builder) (s t : Lists Node) (l : ℕ) (p : Params) (f : Float) (can : CanAct b s) (fresh : get s.lists l ≡ None) (filled : t.lists ≡ with_list s l (here_list p f)) where
  here-same : AllSame s t (owned (ids_of b) s)
  here-same = same-one s t l (λ q ne. get_other s t l (here_list p f) q ne filled) (owned (ids_of b) s) (fresh_apart (ids_of b) s l can.sound.own fresh)

  here-is : list_at t l ≡ here_list p f
  here-is = list_same s t l (here_list p f) filled

  here-plain : AllPlain (list_at t l)
  here-plain = subst AllPlain (sym here-is) (refl, (refl, (refl, (refl, tt))))

  pub here-can : CanAct b t
  here-can = still-can b s t l can fresh here-same

  pub here-joins : ListJoins (ids_of b) t l
  here-joins = list_joins (ids_of b) t l (still-sound b s t l can fresh here-same).own (live_same s t l (here_list p f) filled) (still-apart b s t l can fresh here-same) here-plain

  pub here-put : (d : Builder) (u : Lists Node) → IsPutFirst l b t d u → HasPut (here_nodes p f) b s d u
  here-put d u w =
      has-put b s t l can fresh here-same (λ q ne h. get_other s t l (here_list p f) q ne filled) (λ q live. subst (Lacks q) (sym (plain_ids (list_at t l) here-plain)) tt)
      (here_nodes p f) (ap (map (plain_of (list_at t))) here-is) d u w

-- ---- two lists are opened

-- a list that was opened and closed
pub opened-closed : (m : FinMap nat_cmp (List Node)) (l : ℕ) → get m l ≡ None → remove (insert m l []) l ≡ m
opened-closed m l fresh = same_from_get (remove (insert m l []) l) m (λ q. elim (cases_eq q l) [
  | inl e ↦ ap (get (remove (insert m l []) l)) e ∙ get-remove_same (insert m l []) l ∙ sym (ap (get m) e ∙ fresh)
  | inr ne ↦ get-remove_other (insert m l []) l q ne ∙ get-insert_other m l [] q ne
])

pub two-opened : (s o m t : Lists Node) (l inner : ℕ) → o.lists ≡ s.lists → get o.lists l ≡ None → m.lists ≡ with_list o l [] → get m.lists inner ≡ None → t.lists ≡ with_list m inner [] → AreOpened l inner s t
two-opened s o m t l inner found fresh first fresh_inner second =
    let other : inner ≢ l = helper-apart m inner l fresh_inner (live_same o m l [] first) in
    let apart : l ≢ inner = λ e. other (sym e) in
    record {
      fresh = ap (λ x. get x l) (sym found) ∙ fresh;
      fresh_inner = ap (λ x. get x inner) (sym found) ∙ sym (get_other o m l [] inner other first) ∙ fresh_inner;
      apart = apart;
      list = get_other m t inner [] l apart second ∙ ap (λ x. get x l) first ∙ get-insert_same o.lists l [];
      inner_list = ap (λ x. get x inner) second ∙ get-insert_same m.lists inner [];
      others = λ q n k. get_other m t inner [] q k second ∙ get_other o m l [] q n first ∙ ap (λ x. get x q) found;
    }

-- ---- a float in an insertion

module _ (b : Builder) (s o m t : Lists Node) (l inner : ℕ) (xs : List Node) (height : ℤ) (can : CanAct b s) (opened : AreOpened l inner s o)
    (filled : m.lists ≡ with_list o inner (list_at o inner ++ xs)) (put : t.lists ≡ with_list m l (list_at m l ++ top_node inner height ∷ [])) where
  abbrev all : List Node
  all = list_at o inner ++ xs

  abbrev one : List Node
  one = list_at m l ++ top_node inner height ∷ []

  top-beside : (q : ℕ) → q ≢ l → q ≢ inner → get t.lists q ≡ get s.lists q
  top-beside q n k = get_other m t l one q n put ∙ get_other o m inner all q k filled ∙ opened.others q n k

  top-is : list_at t l ≡ top_node inner height ∷ []
  top-is = list_same m t l one put ∙ ap (λ (ns : List Node). ns ++ top_node inner height ∷ []) (list_other o m inner all l opened.apart filled ∙ ap (λ x. unwrap_or x []) opened.list)

  inner-is : list_at t inner ≡ xs
  inner-is = list_other m t l one inner (λ e. opened.apart (sym e)) put ∙ list_same o m inner all filled ∙ ap (λ x. unwrap_or x [] ++ xs) opened.inner_list

  inner-live : IsLive t inner
  inner-live = live_other m t l one inner (λ e. opened.apart (sym e)) put (live_same o m inner all filled)

  top-same : AllSame s t (owned (ids_of b) s)
  top-same = same-two s t l inner top-beside (owned (ids_of b) s) (fresh_apart (ids_of b) s l can.sound.own opened.fresh) (fresh_apart (ids_of b) s inner can.sound.own opened.fresh_inner)

  pub top-can : CanAct b t
  top-can = still-can b s t l can opened.fresh top-same

  pub top-joins : AllPlain xs → ListJoins (ids_of b) t l
  top-joins plain = record {
    live = live_same m t l one put;
    apart = subst (λ ns. Lacks l (owned (ids_of b) t ++ inner_ids ns)) (sym top-is) (lacks-append l (owned (ids_of b) t) (inner ∷ []) (still-apart b s t l can opened.fresh top-same) (opened.apart, tt));
    nodes = subst (NodesJoin (ids_of b) t) (sym top-is) (insertion_joins (ids_of b) t (top_node inner height) inner (still-sound b s t l can opened.fresh top-same).own refl inner-live (still-apart b s t inner can opened.fresh_inner top-same) (subst AllPlain (sym inner-is) plain) can.known);
  }

  pub top-put : (ls : List Leaf) → map leaf_of xs ≡ ls → height ≡ size_of (map leaf_shape ls) → (d : Builder) (u : Lists Node) → IsPutFirst l b t d u → HasPut (top_insertion ls ∷ []) b s d u
  top-put ls leaves high d u w =
      let inside : map leaf_of (list_at t inner) ≡ ls = ap (map leaf_of) inner-is ∙ leaves in
      let shown : plain_list t l ≡ top_insertion ls ∷ [] =
      ap (map (plain_of (list_at t))) top-is
      ∙ (λ j. record { line = 0; kind = ins (record { class = 253; inner = inside j; height = high j; split_depth = max_dimen; split_top = pos 0; floating = pos 0 }) } ∷ []) in
      has-put b s t l can opened.fresh top-same (λ q ne h. top-beside q ne (subst (λ ns. Lacks q (inner_ids ns)) top-is h).0)
      (λ q live. subst (λ ns. Lacks q (inner_ids ns)) (sym top-is) ((λ e. (fresh_lacks s inner (q ∷ []) opened.fresh_inner (live, tt)).0 (sym e)), tt))
      (top_insertion ls ∷ []) shown d u w

-- the nodes of the list take this height
pub top-height : (p : Params) (f : Float) → f.height +ℤ p.intextsep.width ≡ size_of (map leaf_shape (top_leaves p f))
top-height p f = omega (arith, ints)

pub page-height : (p : Params) (f : Float) → p.textheight ≡ size_of (map leaf_shape (page_leaves p f))
page-height p f = omega (arith, ints)

pub top-plain : (p : Params) (f : Float) → AllPlain (top_list p f)
top-plain p f = (refl, (refl, (refl, (refl, tt))))

pub page-plain : (p : Params) (f : Float) → AllPlain (page_list p f)
page-plain p f = (refl, (refl, tt))

-- ---- the place of a float

pub placed-nodes : (p : Params) (s : PageSums) (f : Float) → nodes_at (place_of p s f) p f ≡ taken_nodes p s f
placed-nodes p s f = by_tests f.places.h (int_lt s.goal (with_float p s f)) (f.places.t || f.places.b)
  where
    by_tests : (here more other : Bool) → nodes_at (if here then (if more then ways.Top else ways.Here) else (if other then ways.Top else ways.Page)) p f
        ≡ (if here then (if more then top_insertion (top_leaves p f) ∷ [] else here_nodes p f) else (if other then top_insertion (top_leaves p f) ∷ [] else top_insertion (page_leaves p f) ∷ []))
    by_tests true true other = refl
    by_tests true false other = refl
    by_tests false more true = refl
    by_tests false more false = refl

-- the act is that of a float with this place
pub acted-nodes : (p : Params) (s : PageSums) (a : Act) (f : Float) (w : Place) → a ≡ acts.Take f → w ≡ place_of p s f → act_nodes p s a ≡ nodes_at w p f
acted-nodes p s a f w is e = ap (act_nodes p s) is ∙ sym (placed-nodes p s f) ∙ sym (ap (λ x. nodes_at x p f) e)
