-- A turn on a page: an insertion comes, or a node passes before the first box.
use Rattle.std.proofs.Common.{◌≡◌, ◌⊎◌, inl, inr, refl, sym, subst, ◌∙◌, ap, ◌<◌, ◌≤◌, Bool, true, false, List, [], ◌∷◌, ◌++◌, length, map, Option, None, Some, IsSome, arith}
use Rattle.std.specs.Prelude.{not}
use Rattle.std.proofs.lemmas.List.{map-append}
use Rattle.tb_pool.specs.Lists.{Lists, list_at}
use Rattle.tb_node.specs.declared.Node.{Node}
use Rattle.tb_node.specs.Shape.{other, is_box, is_discardable}
use Rattle.tb_node.specs.PlainNodes.{PlainNode, plain_of, node_shape, shape_of, is_act_kind, is_insertion_kind}
use Rattle.tb_node.specs.Roles.{act_of_kind}
use Rattle.tb_break.specs.Places.{ends_lasting}
use Rattle.tb_insert.specs.Account.{Frozen, terms_after}
use Rattle.tb_builder.specs.declared.Ask.{Ask}
use Rattle.tb_builder.specs.declared.Course.{Course}
use Rattle.tb_builder.specs.declared.Builder.{Builder}
use Rattle.tb_builder.specs.Reach.{holds_box}
use Rattle.tb_builder.specs.LegalPlaces.{page_shapes, NoStop}
use Rattle.tb_builder.specs.Contents.{Contents, contents_of, frozen_or, frozen_of, frozen_with}
use Rattle.tb_builder.specs.Ownership.{ids_of}
use Rattle.tb_builder.specs.Courses.{IsCourseOf, Underway, places_by, is_loose, AllLoose, AllLasting, IsPageSoFar, freezes, IsSound}
use Rattle.tb_builder.specs.PageEvents.{KeepsBoxes}
use Rattle.tb_builder.specs.PageTurns.{ChangesPage, TurnIs}
use Rattle.tb_builder.proofs.Turns.MoveLemmas.{Written}
use Rattle.tb_builder.proofs.Turns.FillLemmas.{moves_from, page_from, waiting_from}
use Rattle.tb_builder.proofs.LegalPlaces.CourseLemmas.{shape_is, no_act}
use Rattle.tb_builder.proofs.Turns.TurnLemmas.{Same, same_made, same_keeps, keeps-frozen, lasts_turn, drops_turn, lasting-append, loose-append, holds_same, lasting_places}
use Rattle.tb_builder.proofs.Turns.FreezingNodes.{freezes-more, insertion-freezes}
use Rattle.tb_builder.proofs.Turns.PastLemmas.{past-lasting, past-vanished, gone_act}
use Rattle.tb_builder.proofs.Turns.FreezeLemmas.{underway_stays, course_loose, lasts_loose, gone_at}
use Rattle.tb_builder.specs.FiredPages.{frozen_for}

-- a page that is underway, with the goal that is frozen
pub stands_some : (o : Option Ask) (f : Ask) (st : Bool) (k : Course) (c : Contents) (ask : Ask) → o ≡ Some f → c.frozen ≡ Some f → st ≡ false → Underway (frozen_of c ask) k c.page c.waiting → IsPageSoFar o st k c
stands_some o f st k c ask e g on u =
    subst (λ x. IsPageSoFar x st k c) (sym e) (subst (λ b. IsPageSoFar (Some f) b k c) (sym on) (subst (λ x. Underway (frozen_or x ask c.classes c.boxes) k c.page c.waiting) g u))

-- what stays, from the moves of the lists
pub stays_from : (b d : Builder) (s t : Lists Node) (ask : Ask) → ChangesPage b s d t → (d.frozen ≡ b.frozen ⊎ (d.frozen ≡ Some (frozen_with b.frozen ask))) → KeepsBoxes (contents_of b s) (contents_of d t) ask
stays_from b d s t ask m f =
    let same : Same (contents_of b s) (contents_of d t) ask = record { classes = m.classes; boxes = m.boxes; frozen = f } in
    record { classes = m.classes; boxes = m.boxes; held = m.held; made = same_made (contents_of b s) (contents_of d t) ask same; keeps = same_keeps (contents_of b s) (contents_of d t) ask same }

-- the list after the first node is shorter
pub shorter_by : {n : PlainNode} {xs ys : List PlainNode} → xs ≡ n ∷ ys → length ys < length xs
shorter_by {n} {xs} {ys} e = let l : length xs ≡ length (n ∷ ys) = ap length e in omega arith

-- ---- a node that takes no room goes on the page

-- the turn, if the course is that of the page with the node
module _ (b d : Builder) (s t : Lists Node) (ask : Ask) (n : Node) (ns : List Node)
    (sound : IsSound b s) (on : d.stopped ≡ false) (same : ids_of d ≡ ids_of b) (first : list_at s b.waiting ≡ n ∷ ns)
    (w : Written (ids_of b) s t (list_at s b.page ++ n ∷ []) ns) (room : s.spare ≤ t.spare) (opened : d.opened ≡ b.opened) (shape : shape_of n ≡ other) (none : act_of_kind n.kind ≡ None) where
  moves : ChangesPage b s d t
  moves = moves_from b d s t (list_at s b.page ++ n ∷ []) ns same sound.own w

  plain_shape : node_shape (plain_of (list_at s) n) ≡ other
  plain_shape = shape_is (list_at s) n ∙ shape

  plain_act : is_act_kind (plain_of (list_at s) n).kind ≡ false
  plain_act = no_act (list_at s) n.kind none

  waits : (contents_of b s).waiting ≡ plain_of (list_at s) n ∷ (contents_of d t).waiting
  waits = ap (map (plain_of (list_at s))) first ∙ ap (λ ms. plain_of (list_at s) n ∷ ms) (sym (waiting_from b d s t (list_at s b.page ++ n ∷ []) ns same sound.own w))

  paged : (contents_of d t).page ≡ (contents_of b s).page ++ plain_of (list_at s) n ∷ []
  paged = page_from b d s t (list_at s b.page ++ n ∷ []) ns same sound.own w ∙ map-append (plain_of (list_at s)) (list_at s b.page) (n ∷ [])

  pub lasts_in : (d.frozen ≡ b.frozen ⊎ (d.frozen ≡ Some (frozen_with b.frozen ask))) → (IsSome d.frozen → freezes ((contents_of b s).page ++ plain_of (list_at s) n ∷ []) ≡ true) → IsPageSoFar d.frozen d.stopped d.course (contents_of d t) → TurnIs b s ask None d t
  lasts_in f meets page = record {
    sound = record {
      own = moves.own;
      opened = opened ∙ sound.opened ∙ sym (ap holds_box paged ∙ holds_same (contents_of b s).page (plain_of (list_at s) n) (ap is_box plain_shape));
      closed = λ e. subst AllLasting (sym paged) (lasting-append (contents_of b s).page (plain_of (list_at s) n) (sound.closed (sym opened ∙ e)) (ap is_discardable plain_shape));
      page = page;
      met = λ some go. ap freezes paged ∙ meets some;
    };
    frame = moves.frame;
    room = λ e o. (sym opened ∙ o, room);
    shorter = λ e. shorter_by waits;
    stays = stays_from b d s t ask moves f;
    turned = lasts_turn (contents_of b s) (contents_of d t) ask (plain_of (list_at s) n) waits paged (keeps-frozen (stays_from b d s t ask moves f)) on plain_shape plain_act;
    past = past-lasting (plain_of (list_at s) n) (contents_of b s) (contents_of d t) ask waits paged plain_shape plain_act;
  }

  -- an insertion came
  pub met : (k : Course) (f : Ask) → is_insertion_kind (plain_of (list_at s) n).kind ≡ true → d.frozen ≡ Some f → f ≡ frozen_with b.frozen ask → Underway (frozen_of (contents_of b s) ask) k (contents_of b s).page (contents_of b s).waiting
      → IsCourseOf (frozen_of (contents_of b s) ask) d.course ((contents_of b s).page ++ plain_of (list_at s) n ∷ []) (places_by (frozen_of (contents_of b s) ask) (contents_of b s).page (contents_of b s).waiting)
      → TurnIs b s ask None d t
  met k f ins is e u h =
      let frozen = is ∙ ap Some e in
      let st = stays_from b d s t ask moves (inr frozen) in
      lasts_in (inr frozen) (λ some. insertion-freezes (contents_of b s).page (plain_of (list_at s) n) ins) (stands_some d.frozen f d.stopped d.course (contents_of d t) ask is is on
      (subst (λ z. Underway z d.course (contents_of d t).page (contents_of d t).waiting) (sym (keeps-frozen st))
      (underway_stays (frozen_of (contents_of b s) ask) k d.course (contents_of b s) (contents_of d t) (plain_of (list_at s) n) waits paged plain_shape plain_act u h)))

  -- a mark, a note or a whatsit went on the page
  loose_by : (o : Option Ask) → b.frozen ≡ o → d.frozen ≡ o → b.stopped ≡ false → is_loose (plain_of (list_at s) n).kind ≡ true → d.course.scan ≡ b.course.scan → d.course.account ≡ b.course.account → d.course.best_goal ≡ b.course.best_goal → d.course.lasting ≡ true
      → IsPageSoFar o false b.course (contents_of b s) → IsPageSoFar d.frozen d.stopped d.course (contents_of d t)
  loose_by None e g on' loose scan account goal lasting st =
      subst (λ x. IsPageSoFar x d.stopped d.course (contents_of d t)) (sym g) (subst (λ x. IsPageSoFar None x d.course (contents_of d t)) (sym on) (record {
        loose = subst AllLoose (sym paged) (loose-append (contents_of b s).page (plain_of (list_at s) n) st.loose loose);
        lasting_is = lasting ∙ sym (ap (λ p. ends_lasting (page_shapes p)) paged ∙ lasts_loose (contents_of b s).page (plain_of (list_at s) n) plain_shape);
      }))
  loose_by (Some f) e g on' loose scan account goal lasting st =
      stands_some d.frozen f d.stopped d.course (contents_of d t) ask g g on
      (subst (λ z. Underway z d.course (contents_of d t).page (contents_of d t).waiting) (sym (keeps-frozen (stays_from b d s t ask moves (inl (g ∙ sym e))) ∙ ap (λ x. frozen_or x ask (contents_of b s).classes (contents_of b s).boxes) e))
      (underway_stays (frozen_for f (contents_of b s).classes (contents_of b s).boxes) b.course d.course (contents_of b s) (contents_of d t) (plain_of (list_at s) n) waits paged plain_shape plain_act st
      (course_loose (frozen_for f (contents_of b s).classes (contents_of b s).boxes) b.course d.course (contents_of b s).page _ (plain_of (list_at s) n) st.course loose scan account goal lasting)))

  pub passed_loose : d.frozen ≡ b.frozen → b.stopped ≡ false → is_loose (plain_of (list_at s) n).kind ≡ true → d.course.scan ≡ b.course.scan → d.course.account ≡ b.course.account → d.course.best_goal ≡ b.course.best_goal → d.course.lasting ≡ true → TurnIs b s ask None d t
  passed_loose same_frozen on' loose scan account goal lasting =
      lasts_in (inl same_frozen) (λ some. freezes-more (contents_of b s).page (plain_of (list_at s) n ∷ []) (sound.met (subst IsSome same_frozen some) on')) (loose_by b.frozen refl same_frozen on' loose scan account goal lasting (subst (λ x. IsPageSoFar b.frozen x b.course (contents_of b s)) on' sound.page))

-- ---- glue, a kern or a penalty vanishes before the first box

module _ (b d : Builder) (s t : Lists Node) (ask : Ask) (n : Node) (ns : List Node)
    (sound : IsSound b s) (same : ids_of d ≡ ids_of b) (first : list_at s b.waiting ≡ n ∷ ns) (frozen : d.frozen ≡ b.frozen) (stopped : d.stopped ≡ b.stopped) (on : b.stopped ≡ false) (course : d.course ≡ b.course)
    (opened : d.opened ≡ b.opened) (closed : b.opened ≡ false) (w : Written (ids_of b) s t (list_at s b.page) ns) (room : s.spare ≤ t.spare) where
  dropped_moves : ChangesPage b s d t
  dropped_moves = moves_from b d s t (list_at s b.page) ns same sound.own w

  dropped_waits : (contents_of b s).waiting ≡ plain_of (list_at s) n ∷ (contents_of d t).waiting
  dropped_waits = ap (map (plain_of (list_at s))) first ∙ ap (λ ms. plain_of (list_at s) n ∷ ms) (sym (waiting_from b d s t (list_at s b.page) ns same sound.own w))

  dropped_page : (contents_of d t).page ≡ (contents_of b s).page
  dropped_page = page_from b d s t (list_at s b.page) ns same sound.own w

  still_lasting : AllLasting (contents_of d t).page
  still_lasting = subst AllLasting (sym dropped_page) (sound.closed closed)

  stands_by : (o : Option Ask) → b.frozen ≡ o → IsPageSoFar o false b.course (contents_of b s) → IsPageSoFar o false b.course (contents_of d t)
  stands_by None e st = record { loose = subst AllLoose (sym dropped_page) st.loose; lasting_is = st.lasting_is ∙ sym (ap (λ p. ends_lasting (page_shapes p)) dropped_page) }
  stands_by (Some f) e st =
      let z : Frozen = frozen_for f (contents_of b s).classes (contents_of b s).boxes in
      let none : places_by z (contents_of b s).page (contents_of b s).waiting ≡ [] = lasting_places z.limit (terms_after z) [] (contents_of b s).page _ (sound.closed closed) in
      let none' : places_by z (contents_of d t).page (contents_of d t).waiting ≡ [] = lasting_places z.limit (terms_after z) [] (contents_of d t).page _ still_lasting in
      subst (λ x. Underway x b.course (contents_of d t).page (contents_of d t).waiting) (λ i. frozen_for f (sym dropped_moves.classes i) (sym dropped_moves.boxes i)) (record {
        course = subst (IsCourseOf z b.course (contents_of d t).page) (sym none') (subst (λ p. IsCourseOf z b.course p []) (sym dropped_page) (subst (IsCourseOf z b.course (contents_of b s).page) none st.course));
        quiet = subst NoStop (sym none') tt;
      })

  pub passed_gone : not (is_discardable (shape_of n)) ≡ false → TurnIs b s ask None d t
  passed_gone gone = record {
    sound = record {
      own = dropped_moves.own;
      opened = opened ∙ sound.opened ∙ sym (ap holds_box dropped_page);
      closed = λ e. still_lasting;
      page = subst (λ x. IsPageSoFar x d.stopped d.course (contents_of d t)) (sym frozen) (subst (λ x. IsPageSoFar b.frozen x d.course (contents_of d t)) (sym (stopped ∙ on)) (subst (λ k. IsPageSoFar b.frozen false k (contents_of d t)) (sym course)
          (stands_by b.frozen refl (subst (λ x. IsPageSoFar b.frozen x b.course (contents_of b s)) on sound.page))));
      met = λ some go. ap freezes dropped_page ∙ sound.met (subst IsSome frozen some) on;
    };
    frame = dropped_moves.frame;
    room = λ e o. (sym opened ∙ o, room);
    shorter = λ e. shorter_by dropped_waits;
    stays = stays_from b d s t ask dropped_moves (inl frozen);
    turned = drops_turn (contents_of b s) (contents_of d t) ask (plain_of (list_at s) n) dropped_waits dropped_page (keeps-frozen (stays_from b d s t ask dropped_moves (inl frozen))) (stopped ∙ on) (sym sound.opened ∙ closed) (sound.closed closed)
        (gone_at (list_at s) ask.top_skip n.line n.kind (contents_of d t).waiting gone);
    past = past-vanished (plain_of (list_at s) n) (contents_of b s) (contents_of d t) ask dropped_waits dropped_page (sym sound.opened ∙ closed) (gone_at (list_at s) ask.top_skip n.line n.kind [] gone) (gone_act (list_at s) n.line n.kind gone);
  }
