-- A list grows by nodes that are neither insertions nor acts, while the builder's boxes are emptied into it.
use Rattle.std.proofs.Common.{◌≡◌, ◌≢◌, refl, sym, ap, subst, ◌∙◌, ℕ, ◌≤◌, ◌+◌, Bool, true, false, List, [], ◌∷◌, ◌++◌, map, length, Option, None, Some, unwrap_or, is_some, is_none, append_assoc, append-nil, arith}
use Rattle.std.specs.Prelude.{◌==◌, if◌then◌else◌}
use Rattle.std.specs.FinMap.{get, insert}
use Rattle.std.proofs.lemmas.Bool.Decides.{nat_tests}
use Rattle.std.proofs.lemmas.List.{map-append}
use Rattle.tb_pool.specs.Lists.{Lists, IsLive, list_at, with_list}
use Rattle.tb_pool.proofs.MapLemmas.{get-insert_same, get-insert_other}
use Rattle.tb_pool.proofs.CallerLemmas.{list_same, live_same, get_other, with_list-same}
use Rattle.tb_node.specs.declared.Node.{Node}
use Rattle.tb_node.specs.PlainNodes.{Leaf, leaf_node, PlainNode, plain_of, plain_list}
use Rattle.tb_param.specs.declared.Params.{Params}
use Rattle.tb_builder.specs.declared.Builder.{Builder}
use Rattle.tb_builder.specs.FiredPages.{Boxed, box_content, content_of}
use Rattle.tb_builder.specs.Contents.{Contents, contents_of, box_count}
use Rattle.tb_builder.specs.Ownership.{Lacks, ids_of, owned}
use Rattle.tb_builder.specs.Courses.{IsSound}
use Rattle.tb_builder.specs.Contributions.{with_void, Taken}
use Rattle.tb_builder.proofs.Ownership.OwnedLemmas.{AllSame}
use Rattle.tb_builder.proofs.Ownership.FrameLemmas.{frame_owned, frame_contents, frame_sound}
use Rattle.tb_column.specs.Page.{AreLeaves}
use Rattle.tb_column.proofs.FloatLemmas.{leaves-append}
use Rattle.tb_column.proofs.ShownLemmas.{leaves-held}
use Rattle.tb_plain.specs.Firing.{feet_below}
use Rattle.tb_plain.specs.StoredLists.{above_feet, Grows}
use Rattle.tb_plain.proofs.BesideLemmas.{same-one, same-two, plain-leaves}

-- ---- one step after another

module _ (l : ℕ) (mine : List ℕ) (ns ms : List PlainNode) (bs cs : List Boxed) (b d e : Builder) (s t u : Lists Node) (x : Grows l mine ns bs b s d t) (y : Grows l mine ms cs d t e u) where
  pub grows-then : Grows l mine (ns ++ ms) cs b s e u
  grows-then = record {
    nodes = x.nodes ++ y.nodes;
    live = y.live;
    joined = y.joined ∙ ap (λ zs. zs ++ y.nodes) x.joined ∙ append_assoc (list_at s l) x.nodes y.nodes;
    leaves = leaves-append x.nodes y.nodes x.leaves y.leaves;
    shown = λ held. map-append (plain_of held) x.nodes y.nodes ∙ (λ i. x.shown held i ++ y.shown held i);
    sound = y.sound;
    contents = y.contents ∙ ap (λ (c : Contents). record c { boxes = cs }) x.contents;
    others = λ q m h. y.others q m (x.keeps q h) ∙ x.others q m h;
    keeps = λ q h. y.keeps q (x.keeps q h);
  }

-- more lists are named
pub grows-among : (l : ℕ) (mine more : List ℕ) (ns : List PlainNode) (bs : List Boxed) (b d : Builder) (s t : Lists Node) → ((q : ℕ) → Lacks q more → Lacks q mine) → Grows l mine ns bs b s d t → Grows l more ns bs b s d t
grows-among l mine more ns bs b d s t inside x = record {
  nodes = x.nodes;
  live = x.live;
  joined = x.joined;
  leaves = x.leaves;
  shown = x.shown;
  sound = x.sound;
  contents = x.contents;
  others = λ q m h. x.others q (inside q m) h;
  keeps = x.keeps;
}

-- ---- nodes are put at the end of the list

module _ (b : Builder) (s t : Lists Node) (l : ℕ) (sound : IsSound b s) (free : Lacks l (owned (ids_of b) s)) where
  module _ (xs : List Node) (put : t.lists ≡ with_list s l (list_at s l ++ xs)) where
    put-same : AllSame s t (owned (ids_of b) s)
    put-same = same-one s t l (λ q ne. get_other s t l (list_at s l ++ xs) q ne put) (owned (ids_of b) s) free

    pub put-sound : IsSound b t
    put-sound = frame_sound b s t sound put-same

    pub put-contents : contents_of b t ≡ contents_of b s
    put-contents = frame_contents b s t sound put-same

    pub put-owned : owned (ids_of b) t ≡ owned (ids_of b) s
    put-owned = frame_owned b s t sound put-same

    pub put-grows : (ns : List PlainNode) → AreLeaves xs → ((held : ℕ → List Node) → map (plain_of held) xs ≡ ns) → Grows l (l ∷ []) ns (contents_of b s).boxes b s b t
    put-grows ns leaves shown = record {
      nodes = xs;
      live = live_same s t l (list_at s l ++ xs) put;
      joined = list_same s t l (list_at s l ++ xs) put;
      leaves = leaves;
      shown = shown;
      sound = put-sound;
      contents = put-contents;
      others = λ q m h. get_other s t l (list_at s l ++ xs) q m.0 put;
      keeps = λ q h. subst (Lacks q) (sym put-owned) h;
    }

-- ---- a box is emptied into it

module _ (b d : Builder) (s t : Lists Node) (l k : ℕ) (sound : IsSound d t) (contents : contents_of d t ≡ record (contents_of b s) { boxes = with_void k (contents_of b s).boxes })
    (taken : Taken s t l (box_content (contents_of b s).boxes k))
    (others : (q : ℕ) → q ≢ l → Lacks q (owned (ids_of b) s) → get t.lists q ≡ get s.lists q) (keeps : (q : ℕ) → Lacks q (owned (ids_of b) s) → Lacks q (owned (ids_of d) t)) where
  pub box-grows : Grows l (l ∷ []) (map leaf_node (content_of (box_content (contents_of b s).boxes k))) (with_void k (contents_of b s).boxes) b s d t
  box-grows = record {
    nodes = taken.nodes;
    live = taken.live;
    joined = taken.joined;
    leaves = plain-leaves taken.nodes taken.plain_nodes;
    shown = λ held. leaves-held held taken.nodes (plain-leaves taken.nodes taken.plain_nodes) ∙ ap (map leaf_node) taken.leaves;
    sound = sound;
    contents = contents;
    others = λ q m h. others q m.0 h;
    keeps = keeps;
  }

-- ---- another list is emptied into it

module _ (b : Builder) (s t : Lists Node) (l m : ℕ) (sound : IsSound b s) (free : Lacks l (owned (ids_of b) s)) (free_other : Lacks m (owned (ids_of b) s)) (apart : l ≢ m)
    (joined : t.lists ≡ insert (with_list s l (list_at s l ++ list_at s m)) m []) where
  join-get : get t.lists l ≡ Some (list_at s l ++ list_at s m)
  join-get = ap (λ x. get x l) joined ∙ get-insert_other (with_list s l (list_at s l ++ list_at s m)) m [] l apart ∙ get-insert_same s.lists l (list_at s l ++ list_at s m)

  pub join-emptied : get t.lists m ≡ Some []
  join-emptied = ap (λ x. get x m) joined ∙ get-insert_same (with_list s l (list_at s l ++ list_at s m)) m []

  join-others : (q : ℕ) → q ≢ l → q ≢ m → get t.lists q ≡ get s.lists q
  join-others q n k = ap (λ x. get x q) joined ∙ get-insert_other (with_list s l (list_at s l ++ list_at s m)) m [] q k ∙ get-insert_other s.lists l (list_at s l ++ list_at s m) q n

  join-same : AllSame s t (owned (ids_of b) s)
  join-same = same-two s t l m join-others (owned (ids_of b) s) free free_other

  pub join-grows : (ns : List PlainNode) → AreLeaves (list_at s m) → ((held : ℕ → List Node) → map (plain_of held) (list_at s m) ≡ ns) → Grows l (l ∷ m ∷ []) ns (contents_of b s).boxes b s b t
  join-grows ns leaves shown = record {
    nodes = list_at s m;
    live = ap is_some join-get;
    joined = ap (λ x. unwrap_or x []) join-get;
    leaves = leaves;
    shown = shown;
    sound = frame_sound b s t sound join-same;
    contents = frame_contents b s t sound join-same;
    others = λ q h k. join-others q h.0 h.1.0;
    keeps = λ q h. subst (Lacks q) (sym (frame_owned b s t sound join-same)) h;
  }

-- nothing was put at its end
pub none-put : (s : Lists Node) (l : ℕ) (xs : List Node) → IsLive s l → xs ≡ [] → s.lists ≡ with_list s l (list_at s l ++ xs)
none-put s l xs live e = with_list-same s s l live refl ∙ ap (with_list s l) (sym (append-nil (list_at s l)) ∙ ap (λ ys. list_at s l ++ ys) (sym e))

-- what neither insertions nor acts show in one store they show in each
pub shown-anywhere : (s : Lists Node) (l : ℕ) (held : ℕ → List Node) → AreLeaves (list_at s l) → map (plain_of held) (list_at s l) ≡ plain_list s l
shown-anywhere s l held leaves = leaves-held held (list_at s l) leaves ∙ sym (leaves-held (list_at s) (list_at s l) leaves)

-- ---- the text

-- a box was emptied into the list, and then the text
module _ (b d : Builder) (s r t : Lists Node) (l body : ℕ) (ns : List PlainNode) (bs : List Boxed) (free : Lacks l (owned (ids_of b) s)) (body_free : Lacks body (owned (ids_of b) s)) (apart : l ≢ body)
    (leaves : AreLeaves (list_at s body)) (top : Grows l (l ∷ []) ns bs b s d r) (joined : t.lists ≡ insert (with_list r l (list_at r l ++ list_at r body)) body []) where
  body-is : list_at r body ≡ list_at s body
  body-is = ap (λ x. unwrap_or x []) (top.others body ((λ e. apart (sym e)), tt) body_free)

  pub text-emptied : get t.lists body ≡ Some []
  text-emptied = join-emptied d r t l body top.sound (top.keeps l free) (top.keeps body body_free) apart joined

  body-grows : Grows l (l ∷ body ∷ []) (plain_list s body) bs d r d t
  body-grows =
      subst (λ (cs : List Boxed). Grows l (l ∷ body ∷ []) (plain_list s body) cs d r d t) (ap (λ (c : Contents). c.boxes) top.contents)
      (join-grows d r t l body top.sound (top.keeps l free) (top.keeps body body_free) apart joined (plain_list s body) (subst AreLeaves (sym body-is) leaves)
      (λ held. ap (map (plain_of held)) body-is ∙ shown-anywhere s body held leaves))

  pub text-grows : Grows l (l ∷ body ∷ []) (ns ++ plain_list s body) bs b s d t
  text-grows = grows-then l (l ∷ body ∷ []) ns (plain_list s body) bs bs b d d s r t (grows-among l (l ∷ []) (l ∷ body ∷ []) ns bs b d s r (λ q h. (h.0, tt)) top) body-grows

-- ---- footnotes

above-leaves : (p : Params) (void : Bool) → AreLeaves (above_feet p void)
above-leaves p true = tt
above-leaves p false = (tt, (tt, (tt, (tt, tt))))

-- what comes above them, and they
feet-shown : (p : Params) (o : Option (List Leaf)) (held : ℕ → List Node) → map (plain_of held) (above_feet p (is_none o)) ++ map leaf_node (content_of o) ≡ feet_below p o
feet-shown p None held = refl
feet-shown p (Some ls) held = refl

module _ (p : Params) (b d : Builder) (s m t : Lists Node) (l : ℕ) (void : Bool) (sound : IsSound b s) (free : Lacks l (owned (ids_of b) s)) (put : m.lists ≡ with_list s l (list_at s l ++ above_feet p void))
    (is : void ≡ is_none (box_content (contents_of b s).boxes 254)) where
  pub feet-grow : Grows l (l ∷ []) (map leaf_node (content_of (box_content (contents_of b m).boxes 254))) (with_void 254 (contents_of b m).boxes) b m d t
      → Grows l (l ∷ []) (feet_below p (box_content (contents_of b s).boxes 254)) (with_void 254 (contents_of b s).boxes) b s d t
  feet-grow y =
      let same = ap (λ (c : Contents). c.boxes) (put-contents b s m l sound free (above_feet p void) put) in
      let z : Grows l (l ∷ []) (map leaf_node (content_of (box_content (contents_of b s).boxes 254))) (with_void 254 (contents_of b s).boxes) b m d t =
      subst (λ (bs : List Boxed). Grows l (l ∷ []) (map leaf_node (content_of (box_content bs 254))) (with_void 254 bs) b m d t) same y in
      let whole = (λ (held : ℕ → List Node). ap (λ v. map (plain_of held) (above_feet p v) ++ map leaf_node (content_of (box_content (contents_of b s).boxes 254))) is ∙ feet-shown p (box_content (contents_of b s).boxes 254) held) in
      let first = put-grows b s m l sound free (above_feet p void) put (map (plain_of (λ q. [])) (above_feet p void)) (above-leaves p void) (λ held. above-shown p void held) in
      subst (λ (ns : List PlainNode). Grows l (l ∷ []) ns (with_void 254 (contents_of b s).boxes) b s d t) (whole (λ q. []))
      (grows-then l (l ∷ []) (map (plain_of (λ q. [])) (above_feet p void)) (map leaf_node (content_of (box_content (contents_of b s).boxes 254))) (contents_of b s).boxes (with_void 254 (contents_of b s).boxes) b b d s m t first z)
    where
      above-shown : (p : Params) (void : Bool) (held : ℕ → List Node) → map (plain_of held) (above_feet p void) ≡ map (plain_of (λ q. [])) (above_feet p void)
      above-shown p true held = refl
      above-shown p false held = refl

-- ---- boxes

-- one box is void, and another as it was
pub other-box : (k n : ℕ) → n ≢ k → (bs : List Boxed) → box_content (with_void k bs) n ≡ box_content bs n
other-box k n ne [] = refl
other-box k n ne (b ∷ bs) = by_tests (b.number == k) (b.number == n) refl refl (other-box k n ne bs)
  where
    by_tests : (x y : Bool) → (b.number == k) ≡ x → (b.number == n) ≡ y → box_content (with_void k bs) n ≡ box_content bs n
        → box_content ((if x then record b { content = None } else b) ∷ with_void k bs) n ≡ (if y then b.content else box_content bs n)
    by_tests true true e f later = absurd (ne (grind (arith, nat_tests, e, f)))
    by_tests true false e f later = ap (λ z. if z then None else box_content (with_void k bs) n) f ∙ later
    by_tests false true e f later = ap (λ z. if z then b.content else box_content (with_void k bs) n) f
    by_tests false false e f later = ap (λ z. if z then b.content else box_content (with_void k bs) n) f ∙ later

-- one box holds no more than all
one-count : (k : ℕ) (bs : List Boxed) → length (content_of (box_content bs k)) ≤ box_count bs
one-count k [] = omega arith
one-count k (b ∷ bs) = by_test (b.number == k) (one-count k bs)
  where
    by_test : (x : Bool) → length (content_of (box_content bs k)) ≤ box_count bs → length (content_of (if x then b.content else box_content bs k)) ≤ length (content_of b.content) + box_count bs
    by_test true later = omega arith
    by_test false later = omega (arith, later)

-- nor do two
pub two-counts : (k n : ℕ) → n ≢ k → (bs : List Boxed) → length (content_of (box_content bs k)) + length (content_of (box_content bs n)) ≤ box_count bs
two-counts k n ne [] = omega arith
two-counts k n ne (b ∷ bs) = by_tests (b.number == k) (b.number == n) refl refl (one-count k bs) (one-count n bs) (two-counts k n ne bs)
  where
    by_tests : (x y : Bool) → (b.number == k) ≡ x → (b.number == n) ≡ y → length (content_of (box_content bs k)) ≤ box_count bs → length (content_of (box_content bs n)) ≤ box_count bs
        → length (content_of (box_content bs k)) + length (content_of (box_content bs n)) ≤ box_count bs
        → length (content_of (if x then b.content else box_content bs k)) + length (content_of (if y then b.content else box_content bs n)) ≤ length (content_of b.content) + box_count bs
    by_tests true true e f one other both = absurd (ne (grind (arith, nat_tests, e, f)))
    by_tests true false e f one other both = omega (arith, other)
    by_tests false true e f one other both = omega (arith, one)
    by_tests false false e f one other both = omega (arith, both)
