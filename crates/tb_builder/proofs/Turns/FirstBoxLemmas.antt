-- The first box or rule of a page comes after the top glue.
use Rattle.std.proofs.Common.{◌≡◌, refl, sym, subst, ◌∙◌, ap, ℕ, ℤ, Bool, true, false, List, [], ◌∷◌, ◌++◌, map, Option, None, Some, append_assoc}
use Rattle.std.specs.Prelude.{◌||◌}
use Rattle.std.proofs.lemmas.Bool.{true≢false}
use Rattle.tb_pool.specs.Lists.{Lists, list_at, with_list}
use Rattle.tb_node.specs.declared.Node.{Node}
use Rattle.tb_node.specs.declared.Kind.{Kind}
use Rattle.tb_node.specs.declared.Kind.TheVariants as kinds
use Rattle.tb_node.specs.Shape.{Shape, is_box, height_of}
use Rattle.tb_node.specs.SmallAmounts.{IsSmallShape}
use Rattle.tb_node.specs.PlainNodes.{PlainNode, plain_of, shape_of, shape_of_kind}
use Rattle.tb_node.specs.Roles.{act_of_kind, insertion_of_kind}
use Rattle.tb_break.specs.PageTop.{glue_before, pruned_nodes, top_glue}
use Rattle.tb_insert.specs.Account.{Frozen, terms_after}
use Rattle.tb_builder.specs.declared.Ask.{Ask}
use Rattle.tb_builder.specs.declared.Builder.{Builder}
use Rattle.tb_builder.specs.declared.Course.{Course}
use Rattle.tb_builder.specs.Reach.{holds_box}
use Rattle.tb_builder.specs.LegalPlaces.{NoStop}
use Rattle.tb_builder.specs.Contents.{Contents, contents_of, frozen_or, frozen_of, ahead_of, laid, frozen_with}
use Rattle.tb_builder.specs.Ownership.{Ids, ids_of, inner_of, is_known, classes_of}
use Rattle.tb_builder.specs.Courses.{IsCourseOf, Underway, places_by, kept_frozen, frozen_at, AllLoose, AllLasting, IsPageSoFar, IsSound}
use Rattle.tb_builder.specs.PageEvents.{NextFits, LaidFits}
use Rattle.tb_builder.specs.PageTurns.{ChangesPage, StepFits}
use Rattle.tb_builder.proofs.Turns.MoveLemmas.{Written, written_front}
use Rattle.tb_builder.proofs.Turns.FillLemmas.{moves_from, page_from, waiting_from}
use Rattle.tb_builder.proofs.LegalPlaces.CourseLemmas.{shape_is, loose_shape}
use Rattle.tb_builder.proofs.Turns.TurnLemmas.{Lays, lays_closed, ahead_closed, lasting_places, frozen_as}

-- ---- the top glue

-- if a box or rule waits first, pruning puts the top glue before it
pub top_at : (held : ℕ → List Node) (t : ℤ) (n : Node) (ns : List PlainNode) → is_box (shape_of n) ≡ true
    → pruned_nodes t (plain_of held n ∷ ns) ≡ plain_of held (glue_before n (top_glue t (height_of (shape_of n)))) ∷ plain_of held n ∷ ns
top_at held t n ns e = by_kind n.kind e
  where
    by_kind : (k : Kind) → is_box (shape_of_kind k) ≡ true
        → (let x : Node = record { line = n.line; kind = k } in pruned_nodes t (plain_of held x ∷ ns) ≡ plain_of held (glue_before x (top_glue t (height_of (shape_of x)))) ∷ plain_of held x ∷ ns)
    by_kind (kinds.Hbox what h d) e = refl
    by_kind (kinds.Rule name h d) e = refl
    by_kind k e = absurd (true≢false (sym e))

-- ---- what is laid out fits

-- the parts of what is laid out, if it goes on with this node
pub step_fits : (z : Frozen) (page all : List PlainNode) (held : ℕ → List Node) (n : Node) (rest : List PlainNode) → LaidFits z all → page ++ plain_of held n ∷ rest ≡ all → act_of_kind n.kind ≡ None → insertion_of_kind n.kind ≡ None → StepFits z page held n
step_fits z page all held n rest fits e a i = record {
  small = subst IsSmallShape (shape_is held n) (fits.nodes page (plain_of held n) rest e).small;
  here = fits.pages page (plain_of held n ∷ rest) e;
  there = fits.pages (page ++ plain_of held n ∷ []) rest (append_assoc page (plain_of held n ∷ []) rest ∙ e);
  no_act = a;
  no_insertion = i;
}

-- ---- the goal is frozen

-- marks, notes and whatsits are no boxes
loose_closed : (page : List PlainNode) → AllLoose page → holds_box page ≡ false
loose_closed [] h = refl
loose_closed (n ∷ ns) h = ap (λ s. is_box_or s ns) (loose_shape n.line n.kind h.0) ∙ loose_closed ns h.1
  where
    is_box_or : Shape → List PlainNode → Bool
    is_box_or s ns = is_box s || holds_box ns

-- a page with a box has a frozen goal
pub opened_frozen : (o : Option Ask) (k : Course) (c : Contents) (ask : Ask) → IsPageSoFar o false k c → holds_box c.page ≡ true → o ≡ Some (frozen_with o ask)
opened_frozen None k c ask st e = absurd (true≢false (sym e ∙ loose_closed c.page st.loose))
opened_frozen (Some f) k c ask st e = refl

pub kept_is_frozen : (c : Contents) (o : Option Ask) (ask : Ask) → c.frozen ≡ Some (frozen_with o ask) → kept_frozen c ≡ frozen_or o ask c.classes c.boxes
kept_is_frozen c o ask e = ap (λ x. frozen_at x c.classes c.boxes) e ∙ frozen_as o ask c.classes c.boxes

pub underway_of : (o : Option Ask) (f : Ask) (k : Course) (c : Contents) → o ≡ Some f → c.frozen ≡ o → IsPageSoFar o false k c → Underway (kept_frozen c) k c.page c.waiting
underway_of o f k c e g st =
    subst (λ x. Underway (frozen_at x c.classes c.boxes) k c.page c.waiting) (sym (g ∙ e)) (subst (λ x. IsPageSoFar x false k c) e st)

-- the first box fits
pub box_small : (b : Builder) (s : Lists Node) (ask : Ask) (n : Node) (ns : List Node) → IsSound b s → b.opened ≡ false → NextFits (contents_of b s) ask → is_box (shape_of n) ≡ true → list_at s b.waiting ≡ n ∷ ns → IsSmallShape (shape_of n)
box_small b s ask n ns sound closed fits boxed first =
    let c : Contents = contents_of b s in
    let held = list_at s in
    let g : PlainNode = plain_of held (glue_before n (top_glue ask.top_skip (height_of (shape_of n)))) in
    let ahead : ahead_of c ask ≡ g ∷ plain_of held n ∷ map (plain_of held) ns = ahead_closed c ask (sym sound.opened ∙ closed) ∙ ap (λ xs. pruned_nodes ask.top_skip (map (plain_of held) xs)) first ∙ top_at held ask.top_skip n (map (plain_of held) ns) boxed in
    subst IsSmallShape (shape_is held n)
    (fits.laid_fits.nodes (c.page ++ g ∷ []) (plain_of held n) (map (plain_of held) ns) (append_assoc c.page (g ∷ []) (plain_of held n ∷ map (plain_of held) ns) ∙ ap (λ w. c.page ++ w) (sym ahead))).small

-- ---- the first box comes

-- the goal is frozen, and the top glue g waits before the box n
pub record Topped (b d : Builder) (s t : Lists Node) (ask : Ask) (n g : Node) (ns : List Node) : Type 0 where
  pub moves : ChangesPage b s d t
  pub page : (contents_of d t).page ≡ (contents_of b s).page
  pub list_is : list_at t d.waiting ≡ g ∷ n ∷ ns
  pub lays : Lays (frozen_of (contents_of b s) ask) ask (contents_of b s) (contents_of d t)
  pub kept_is : kept_frozen (contents_of d t) ≡ frozen_of (contents_of b s) ask
  pub lasting : AllLasting (contents_of d t).page
  pub closed : holds_box (contents_of d t).page ≡ false
  pub pruned : pruned_nodes ask.top_skip (contents_of d t).waiting ≡ (contents_of d t).waiting
  pub frozen : d.frozen ≡ Some (frozen_with b.frozen ask)
  pub underway : Underway (kept_frozen (contents_of d t)) d.course (contents_of d t).page (contents_of d t).waiting
  pub step : StepFits (kept_frozen (contents_of d t)) (contents_of d t).page (list_at t) g

module _ (b d : Builder) (s t : Lists Node) (ask : Ask) (n g : Node) (ns : List Node) (sound : IsSound b s) (on : b.stopped ≡ false) (closed : b.opened ≡ false) (fits : NextFits (contents_of b s) ask)
    (boxed : is_box (shape_of n) ≡ true) (first : list_at s b.waiting ≡ n ∷ ns) (same : ids_of d ≡ ids_of b) (frozen : d.frozen ≡ Some (frozen_with b.frozen ask)) (glue_is : g ≡ glue_before n (top_glue ask.top_skip (height_of (shape_of n))))
    (pushed : t.lists ≡ with_list s d.waiting (g ∷ list_at s d.waiting)) (u : Underway (frozen_of (contents_of b s) ask) d.course (contents_of b s).page (contents_of b s).waiting) where
  abbrev before : Contents
  before = contents_of b s

  abbrev now : Contents
  now = contents_of d t

  abbrev z : Frozen
  z = frozen_of before ask

  waits : Written (ids_of b) s t (list_at s b.page) (g ∷ n ∷ ns)
  waits = written_front (ids_of b) s t n ns sound.own first g (ap (λ (x : Node). inner_of x.kind) glue_is) (ap (λ (x : Node). is_known (classes_of (ids_of b)) x.kind) glue_is)
      (pushed ∙ (λ i. with_list s (same i).waiting (g ∷ list_at s (same i).waiting)) ∙ ap (λ xs. with_list s b.waiting (g ∷ xs)) first)

  pub topped_moves : ChangesPage b s d t
  topped_moves = moves_from b d s t (list_at s b.page) (g ∷ n ∷ ns) same sound.own waits

  pub topped_page : now.page ≡ before.page
  topped_page = page_from b d s t (list_at s b.page) (g ∷ n ∷ ns) same sound.own waits

  pub topped_list : list_at t d.waiting ≡ g ∷ n ∷ ns
  topped_list = ap (λ (x : Ids). list_at t x.waiting) same ∙ waits.waiting_is

  topped_waiting : now.waiting ≡ plain_of (list_at s) g ∷ plain_of (list_at s) n ∷ map (plain_of (list_at s)) ns
  topped_waiting = waiting_from b d s t (list_at s b.page) (g ∷ n ∷ ns) same sound.own waits

  first_waits : before.waiting ≡ plain_of (list_at s) n ∷ map (plain_of (list_at s)) ns
  first_waits = ap (map (plain_of (list_at s))) first

  pruned : pruned_nodes ask.top_skip before.waiting ≡ plain_of (list_at s) g ∷ plain_of (list_at s) n ∷ map (plain_of (list_at s)) ns
  pruned = ap (pruned_nodes ask.top_skip) first_waits ∙ top_at (list_at s) ask.top_skip n (map (plain_of (list_at s)) ns) boxed
      ∙ ap (λ x. plain_of (list_at s) x ∷ plain_of (list_at s) n ∷ map (plain_of (list_at s)) ns) (sym glue_is)

  no_box : holds_box before.page ≡ false
  no_box = sym sound.opened ∙ closed

  pub topped_lays : Lays z ask before now
  topped_lays = lays_closed z ask before now refl no_box (sound.closed closed) topped_page (topped_waiting ∙ sym pruned)

  pub topped_kept : kept_frozen now ≡ z
  topped_kept = kept_is_frozen now b.frozen ask frozen ∙ (λ i. frozen_or b.frozen ask (topped_moves.classes i) (topped_moves.boxes i))

  pub topped_lasting : AllLasting now.page
  topped_lasting = subst AllLasting (sym topped_page) (sound.closed closed)

  topped_course : IsCourseOf z d.course now.page (places_by z now.page now.waiting)
  topped_course =
      let none : places_by z before.page before.waiting ≡ [] = lasting_places z.limit (terms_after z) [] before.page _ (sound.closed closed) in
      let none' : places_by z now.page now.waiting ≡ [] = lasting_places z.limit (terms_after z) [] now.page _ topped_lasting in
      subst (IsCourseOf z d.course now.page) (sym none') (subst (λ p. IsCourseOf z d.course p []) (sym topped_page) (subst (IsCourseOf z d.course before.page) none u.course))

  pub topped_underway : Underway (kept_frozen now) d.course now.page now.waiting
  topped_underway =
      let none' : places_by z now.page now.waiting ≡ [] = lasting_places z.limit (terms_after z) [] now.page _ topped_lasting in
      subst (λ x. Underway x d.course now.page now.waiting) (sym topped_kept) (record { course = topped_course; quiet = subst NoStop (sym none') tt })

  pub laid_is : laid before ask ≡ now.page ++ now.waiting
  laid_is = topped_lays.laid_is

  -- the glue is the same node, as the store then shows it
  glue_same : plain_of (list_at t) g ≡ plain_of (list_at s) g
  glue_same = ap (λ (x : Node). plain_of (list_at t) x) glue_is ∙ ap (λ (x : Node). plain_of (list_at s) x) (sym glue_is)

  glue_act : act_of_kind g.kind ≡ None
  glue_act = ap (λ (x : Node). act_of_kind x.kind) glue_is

  glue_insertion : insertion_of_kind g.kind ≡ None
  glue_insertion = ap (λ (x : Node). insertion_of_kind x.kind) glue_is

  pub topped_fits : StepFits (kept_frozen now) now.page (list_at t) g
  topped_fits = step_fits (kept_frozen now) now.page (laid before ask) (list_at t) g (plain_of (list_at s) n ∷ map (plain_of (list_at s)) ns) (subst (λ x. LaidFits x (laid before ask)) (sym topped_kept) fits.laid_fits)
      (ap (λ m. now.page ++ m ∷ plain_of (list_at s) n ∷ map (plain_of (list_at s)) ns) glue_same ∙ ap (λ w. now.page ++ w) (sym topped_waiting) ∙ sym laid_is) glue_act glue_insertion

  -- the glue vanishes, and comes again
  again : pruned_nodes ask.top_skip now.waiting ≡ now.waiting
  again =
      ap (pruned_nodes ask.top_skip) topped_waiting
      ∙ ap (λ (x : Node). pruned_nodes ask.top_skip (plain_of (list_at s) x ∷ plain_of (list_at s) n ∷ map (plain_of (list_at s)) ns)) glue_is
      ∙ ap (pruned_nodes ask.top_skip) (sym first_waits) ∙ pruned ∙ sym topped_waiting

  pub topped : Topped b d s t ask n g ns
  topped = record {
    moves = topped_moves;
    page = topped_page;
    list_is = topped_list;
    lays = topped_lays;
    kept_is = topped_kept;
    lasting = topped_lasting;
    closed = ap holds_box topped_page ∙ no_box;
    pruned = again;
    frozen = frozen;
    underway = topped_underway;
    step = topped_fits;
  }
