-- A call of the builder with what is asked now is one with what the page is made for: once a page is begun both are one, and else the
-- acts before its first box are still to come.
use Rattle.std.proofs.Common.{◌≡◌, refl, sym, subst, ◌∙◌, ap, ℕ, ℤ, Bool, true, false, List, [], ◌∷◌, ◌++◌, Option, None, Some, append_assoc, append-nil, inl, inr, ◌⊎◌}
use Rattle.std.specs.Prelude.{◌||◌, if◌then◌else◌, IsSome}
use Rattle.std.proofs.lemmas.Bool.{true≢false}
use Rattle.tb_pool.specs.Lists.{Lists}
use Rattle.tb_node.specs.declared.Act.{Act}
use Rattle.tb_node.specs.declared.Node.{Node}
use Rattle.tb_node.specs.PlainNodes.{act, PlainNode}
use Rattle.tb_break.specs.Best.{Breakpoint, is_stop}
use Rattle.tb_break.specs.PageTop.{pruned_nodes}
use Rattle.tb_insert.specs.Account.{Frozen, terms_after}
use Rattle.tb_builder.specs.declared.Ask.{Ask}
use Rattle.tb_builder.specs.declared.Builder.{Builder}
use Rattle.tb_builder.specs.declared.Event.{Event}
use Rattle.tb_builder.specs.declared.Event.TheVariants as events
use Rattle.tb_builder.specs.declared.Try.{Try}
use Rattle.tb_builder.specs.Reach.{acted, Reach, also_reached, reach_from, laid_out}
use Rattle.tb_builder.specs.LegalPlaces.{NoActs, glue_first}
use Rattle.tb_builder.specs.Contents.{Contents, contents_of, frozen_of, frozen_or, laid, reach_ahead, places_of, frozen_with}
use Rattle.tb_builder.specs.Courses.{freezes, IsSound}
use Rattle.tb_builder.specs.PageEvents.{KeepsBoxes, NextIs}
use Rattle.tb_builder.specs.SizedContents.{IsSizedAsk}
use Rattle.tb_builder.specs.PageCalls.{IsNext, PassedOver, ComesBy}
use Rattle.tb_builder.specs.PassedNodes.{ComesPast, EventPast}
use Rattle.tb_builder.proofs.Events.PagingLemmas.{paging_next}
use Rattle.tb_output.specs.State.{State, ask_of}
use Rattle.tb_output.specs.Act.{act_on}
use Rattle.tb_steps.specs.Run.{led_by, led_through}
use Rattle.tb_steps.proofs.LedLemmas.{led-still, led-quiet, led-tried}
use Rattle.tb_run.proofs.Filling.AskLemmas.{freezes-both, pruned-freezes, pruned-quiet, pruned-behind, loose-begins, loose-holds, loose-places, reach-quiet, reach-act, unbegun-going, unbegun-loose, stopped-begun}

-- what is asked in a state
abbrev pub asks : State → Ask
asks t = ask_of t.params t

-- ---- a page that is not begun

-- no act comes before the first box, rule or insertion of the nodes that wait, and the page is begun behind the call
pub record IsBegun (c : Contents) (d : Builder) : Type 0 where
  pub led : (more : List PlainNode) (s : State) → led_through (c.waiting ++ more) s ≡ s
  pub begun : d.frozen ≡ None → ⊥

-- the page went past nodes that begin none, up to these
pub record QuietBefore (top_skip : ℤ) (after : List PlainNode) (c d : Contents) : Type 0 where
  pub before : List PlainNode
  pub waiting : c.waiting ≡ before ++ after
  pub page : d.page ≡ laid_out top_skip c.page before
  pub acts : NoActs before
  pub begins : freezes before ≡ false

-- up to an act, or to the end of what waits
abbrev pub QuietBy : ℤ → Event → Contents → Contents → Type 0
QuietBy top_skip (events.Try x) c d = ⊥
QuietBy top_skip (events.Act a) c d = (line : ℕ) × QuietBefore top_skip (record { line = line; kind = act a } ∷ d.waiting) c d
QuietBy top_skip (events.Fired x) c d = ⊥
QuietBy top_skip events.Empty c d = QuietBefore top_skip [] c d

module _ (asked : Ask) (b d : Builder) (s r : Lists Node) (e : Event) (n : IsNext b s asked e d r) (sound : IsSound b s) (none : b.frozen ≡ None) where
  abbrev c : Contents
  c = contents_of b s

  abbrev after : Contents
  after = contents_of d r

  first : NextIs false e c asked after r
  first = subst (λ x. NextIs x e c asked after r) (unbegun-going b s sound none) n.event

  -- the page so far has no box
  laid-open : (x : Ask) → laid c x ≡ c.page ++ pruned_nodes x.top_skip c.waiting
  laid-open x = ap (λ t. c.page ++ (if t then c.waiting else pruned_nodes x.top_skip c.waiting)) (loose-holds c.page (unbegun-loose b s sound none))

  opened : (x : Ask) → reach_ahead c x ≡ reach_from (frozen_of c x).limit (terms_after (frozen_of c x)) c.page (pruned_nodes x.top_skip c.waiting)
  opened x = ap (λ t. reach_from (frozen_of c x).limit (terms_after (frozen_of c x)) c.page (if t then c.waiting else pruned_nodes x.top_skip c.waiting)) (loose-holds c.page (unbegun-loose b s sound none))

  -- what is on the page behind the call, by what it went past
  page-behind : (before : List PlainNode) → after.page ≡ laid_out asked.top_skip c.page before → after.page ≡ c.page ++ pruned_nodes asked.top_skip before
  page-behind before e = e ∙ ap (λ x. c.page ++ (if x then before else pruned_nodes asked.top_skip before)) (loose-holds c.page (unbegun-loose b s sound none))

  behind-begins : (before : List PlainNode) → after.page ≡ laid_out asked.top_skip c.page before → freezes after.page ≡ freezes before
  behind-begins before e =
      ap freezes (page-behind before e) ∙ freezes-both c.page (pruned_nodes asked.top_skip before)
      ∙ (λ i. loose-begins c.page (unbegun-loose b s sound none) i || pruned-freezes asked.top_skip before i)

  by-begins : (rest : List PlainNode) (h : ComesPast rest c after asked) (x : Bool) → freezes h.before ≡ x → IsBegun c d ⊎ QuietBefore asked.top_skip rest c after
  by-begins rest h true g = inl (record {
    led = λ more v. ap (λ ns. led_through (ns ++ more) v) h.is.waiting ∙ ap (λ ns. led_through ns v) (append_assoc h.before rest more) ∙ led-still h.before (rest ++ more) v h.is.no_acts g;
    begun = λ bare. true≢false (sym (behind-begins h.before h.is.page ∙ g) ∙ loose-begins after.page (unbegun-loose d r n.sound bare));
  })
  by-begins rest h false g = inr (record { before = h.before; waiting = h.is.waiting; page = h.is.page; acts = h.is.no_acts; begins = g })

  by-event : (v : Event) → NextIs false v c asked after r → EventPast v c after asked → IsBegun c d ⊎ QuietBy asked.top_skip v c after
  by-event (events.Try x) f h = inl (record { led = λ more v. tried-so more v (is_stop f.0.place) refl; begun = λ bare. tried-begun bare (is_stop f.0.place) refl })
    where
      tried-so : (more : List PlainNode) (v : State) (y : Bool) → is_stop f.0.place ≡ y → led_through (c.waiting ++ more) v ≡ v
      tried-so more v true k =
          led-tried (frozen_of c asked).limit (terms_after (frozen_of c asked)) asked.top_skip f.0.line f.0.place [] c.page c.waiting more v (ap (λ (w : Reach). w.reached) (sym (opened asked) ∙ (f.0.stops k).reach))
      tried-so more v false k =
          led-tried (frozen_of c asked).limit (terms_after (frozen_of c asked)) asked.top_skip f.0.line f.0.place (reach_ahead after asked).reached c.page c.waiting more v (ap (λ (w : Reach). w.reached) (sym (opened asked) ∙ (f.0.goes k).reach))

      no-back : (bs : List Breakpoint) (x : Breakpoint) → [] ≡ bs ++ x ∷ [] → ⊥
      no-back [] x e = cc
      no-back (y ∷ bs) x e = cc

      tried-begun : d.frozen ≡ None → (y : Bool) → is_stop f.0.place ≡ y → ⊥
      tried-begun bare true k = stopped-begun d r n.sound (f.0.stops k).stopped bare
      tried-begun bare false k =
          no-back (places_of c asked) f.0.place (
          sym (loose-places (frozen_of after asked).limit (terms_after (frozen_of after asked)) [] after.page (glue_first after.waiting) (unbegun-loose d r n.sound bare))
          ∙ (f.0.goes k).places
          )
  by-event (events.Act a) f h = with-line (by-begins (record { line = h.line; kind = act a } ∷ after.waiting) h.comes (freezes h.comes.before) refl)
    where
      with-line : IsBegun c d ⊎ QuietBefore asked.top_skip (record { line = h.line; kind = act a } ∷ after.waiting) c after → IsBegun c d ⊎ QuietBy asked.top_skip (events.Act a) c after
      with-line (inl k) = inl k
      with-line (inr k) = inr (h.line, k)
  by-event (events.Fired x) f h = absurd f.0
  by-event events.Empty f h = let k : ComesPast [] c after asked = subst (λ ns. ComesPast ns c after asked) f.0.waiting h in by-begins [] k (freezes k.before) refl

  -- the page is begun in the call, or it went past nodes that begin none
  pub ahead-by : IsBegun c d ⊎ QuietBy asked.top_skip e c after
  ahead-by = by-event e first (n.past (unbegun-going b s sound none))

  -- ---- past nodes that begin no page

  module _ (rest : List PlainNode) (q : QuietBefore asked.top_skip rest c after) (going : after.stopped ≡ false) where
    -- nothing is frozen yet
    pub quiet-none : d.frozen ≡ None
    quiet-none = by_frozen d.frozen (λ k. n.sound.met k going)
      where
        by_frozen : (o : Option Ask) → (IsSome o → freezes after.page ≡ true) → o ≡ None
        by_frozen None k = refl
        by_frozen (Some f) k = absurd (true≢false (sym (k refl) ∙ behind-begins q.before q.page ∙ q.begins))

    module _ (made : Ask) (k : KeepsBoxes c after asked) where
      abbrev z : Frozen
      z = frozen_of c made

      abbrev passed : List PlainNode
      passed = c.page ++ pruned_nodes made.top_skip q.before

      page-is : after.page ≡ passed
      page-is = page-behind q.before q.page ∙ ap (λ ns. c.page ++ ns) (pruned-quiet asked.top_skip made.top_skip q.before q.begins)

      page-past : after.page ≡ laid_out made.top_skip c.page q.before
      page-past = page-is ∙ sym (ap (λ x. c.page ++ (if x then q.before else pruned_nodes made.top_skip q.before)) (loose-holds c.page (unbegun-loose b s sound none)))

      same-frozen : frozen_of after made ≡ z
      same-frozen = λ i. frozen_or ((quiet-none ∙ sym none) i) made (k.classes i) (k.boxes i)

      keeps-so : KeepsBoxes c after made
      keeps-so = record { classes = k.classes; boxes = k.boxes; held = k.held; made = (λ i. frozen_with ((quiet-none ∙ sym none) i) made); keeps = k.keeps }

      -- the rest of the page
      rest-ahead : reach_from z.limit (terms_after z) passed (pruned_nodes made.top_skip after.waiting) ≡ reach_ahead after made
      rest-ahead =
          (λ i. reach_from (sym same-frozen i).limit (terms_after (sym same-frozen i)) (sym page-is i) (pruned_nodes made.top_skip after.waiting))
          ∙ sym (ap (λ x. reach_from (frozen_of after made).limit (terms_after (frozen_of after made)) after.page (if x then after.waiting else pruned_nodes made.top_skip after.waiting)) (loose-holds after.page (unbegun-loose d r n.sound quiet-none)))

      -- all that is reached
      all-ahead : reach_ahead c made ≡ reach_from z.limit (terms_after z) passed (pruned_nodes made.top_skip rest)
      all-ahead =
          opened made ∙ ap (λ ns. reach_from z.limit (terms_after z) c.page (pruned_nodes made.top_skip ns)) q.waiting
          ∙ reach-quiet z.limit (terms_after z) made.top_skip q.before rest c.page q.acts q.begins

      same-places : places_of after made ≡ places_of c made
      same-places =
          loose-places (frozen_of after made).limit (terms_after (frozen_of after made)) [] after.page (glue_first after.waiting) (unbegun-loose d r n.sound quiet-none)
          ∙ sym (loose-places z.limit (terms_after z) [] c.page (glue_first c.waiting) (unbegun-loose b s sound none))

      -- the page so far and what follows it
      laid-all : laid c made ≡ passed ++ pruned_nodes made.top_skip rest
      laid-all =
          laid-open made ∙ ap (λ ns. c.page ++ pruned_nodes made.top_skip ns) q.waiting
          ∙ ap (λ ns. c.page ++ ns) (pruned-behind made.top_skip q.before rest q.begins)
          ∙ sym (append_assoc c.page (pruned_nodes made.top_skip q.before) (pruned_nodes made.top_skip rest))

      laid-rest : laid after made ≡ passed ++ pruned_nodes made.top_skip after.waiting
      laid-rest =
          ap (λ x. after.page ++ (if x then after.waiting else pruned_nodes made.top_skip after.waiting)) (loose-holds after.page (unbegun-loose d r n.sound quiet-none))
          ∙ ap (λ ns. ns ++ pruned_nodes made.top_skip after.waiting) page-is

  -- the event is the same whatever the page is made for
  quiet-event : (made : Ask) (v : Event) → NextIs false v c asked after r → QuietBy asked.top_skip v c after → NextIs false v c made after r
  quiet-event made (events.Try x) f h = absurd h
  quiet-event made (events.Act a) f h =
      let z = frozen_of c made in
      let rest = record { line = h.0; kind = act a } ∷ after.waiting in
      let going = f.0.stopped in (
        record {
          reach =
              all-ahead rest h.1 going made f.1
              ∙ reach-act z.limit (terms_after z) made.top_skip a h.0 after.waiting (c.page ++ pruned_nodes made.top_skip h.1.before)
              ∙ ap (also_reached (acted a)) (rest-ahead rest h.1 going made f.1);
          places = same-places rest h.1 going made f.1;
          whole = record {
            before = c.page ++ pruned_nodes made.top_skip h.1.before;
            line = h.0;
            after = pruned_nodes made.top_skip after.waiting;
            was = laid-all rest h.1 going made f.1;
            left = laid-rest rest h.1 going made f.1;
          };
          stopped = f.0.stopped;
        },
        keeps-so rest h.1 going made f.1,
      )
  quiet-event made (events.Fired x) f h = absurd h
  quiet-event made events.Empty f h =
      let z = frozen_of c made in
      let going = f.0.stopped in (
        record {
          reach = all-ahead [] h going made f.1 ∙ ap (λ ns. reach_from z.limit (terms_after z) ns []) (sym (page-is [] h going made f.1));
          waiting = f.0.waiting;
          places = same-places [] h going made f.1;
          whole = page-is [] h going made f.1 ∙ sym (append-nil (c.page ++ pruned_nodes made.top_skip h.before)) ∙ sym (laid-all [] h going made f.1);
          stopped = f.0.stopped;
        },
        keeps-so [] h going made f.1,
      )

  -- and so are the nodes that were passed
  quiet-past : (made : Ask) (v : Event) → NextIs false v c asked after r → QuietBy asked.top_skip v c after → EventPast v c after made
  quiet-past made (events.Try x) f h = absurd h
  quiet-past made (events.Act a) f h = record {
    line = h.0;
    comes = record { before = h.1.before; is = record { waiting = h.1.waiting; page = page-past (record { line = h.0; kind = act a } ∷ after.waiting) h.1 f.0.stopped made f.1; no_acts = h.1.acts } };
  }
  quiet-past made (events.Fired x) f h = absurd h
  quiet-past made events.Empty f h = record {
    before = h.before;
    is = record { waiting = h.waiting ∙ ap (λ ns. h.before ++ ns) (sym f.0.waiting); page = page-past [] h f.0.stopped made f.1; no_acts = h.acts };
  }

  pub quiet-unbegun : QuietBy asked.top_skip e c after → d.frozen ≡ None
  quiet-unbegun h = by_kind e first h
    where
      by_kind : (v : Event) → NextIs false v c asked after r → QuietBy asked.top_skip v c after → d.frozen ≡ None
      by_kind (events.Try x) f q = absurd q
      by_kind (events.Act a) f q = quiet-none (record { line = q.0; kind = act a } ∷ after.waiting) q.1 f.0.stopped
      by_kind (events.Fired x) f q = absurd q
      by_kind events.Empty f q = quiet-none [] q f.0.stopped

  -- a call that begins no page is one for every ask
  pub next-unbegun : (made : Ask) → QuietBy asked.top_skip e c after → IsNext b s made e d r
  next-unbegun made h =
      let is : NextIs b.stopped e c made after r = subst (λ x. NextIs x e c made after r) (sym (unbegun-going b s sound none)) (quiet-event made e first h) in
      record {
        page = paging_next e c after made r is;
        event = is;
        past = λ on. quiet-past made e first h;
        sound = n.sound;
        keeps = n.keeps;
        body = n.body;
        room = n.room;
      }

-- ---- any call

module _ (t : State) (now made : Ask) (more : List PlainNode) where
  -- Once a page is begun, what is asked is what it is made for. Before, it is asked in the state now, and the page is made
  -- for what is asked once the acts before its first box are done.
  pub record Agrees (b : Builder) (s : Lists Node) : Type 0 where
    pub begun : (f : Ask) → b.frozen ≡ Some f → now ≡ made
    pub asked : b.frozen ≡ None → now ≡ asks t
    pub later : b.frozen ≡ None → made ≡ asks (led_through ((contents_of b s).waiting ++ more) t)

  module _ (b : Builder) (s : Lists Node) (agrees : Agrees b s) where
    -- a page that is begun in a call was made for what was asked
    as-asked : (d : Builder) → b.frozen ≡ None → IsBegun (contents_of b s) d → made ≡ asks t
    as-asked d none h = agrees.later none ∙ ap asks (h.led more t)

    one-ask : (d : Builder) → b.frozen ≡ None → IsBegun (contents_of b s) d → now ≡ made
    one-ask d none h = agrees.asked none ∙ sym (as-asked d none h)

    module _ (d : Builder) (r : Lists Node) (e : Event) (sound : IsSound b s) where
      pub next-for : IsNext b s now e d r → IsNext b s made e d r
      next-for n = by_frozen b.frozen refl
        where
          by_ahead : (none : b.frozen ≡ None) → IsBegun (contents_of b s) d ⊎ QuietBy now.top_skip e (contents_of b s) (contents_of d r) → IsNext b s made e d r
          by_ahead none (inl h) = subst (λ a. IsNext b s a e d r) (one-ask d none h) n
          by_ahead none (inr h) = next-unbegun now b d s r e n sound none made h

          by_frozen : (o : Option Ask) → b.frozen ≡ o → IsNext b s made e d r
          by_frozen None none = by_ahead none (ahead-by now b d s r e n sound none)
          by_frozen (Some f) k = subst (λ a. IsNext b s a e d r) (agrees.begun f k) n

      -- calls one after the other: the first of them that tries a place begins the page
      pub comes-for : (ps : List PassedOver) → ComesBy ps b s now e d r → ComesBy ps b s made e d r
      comes-for [] h = next-for h
      comes-for (x ∷ xs) h = by_frozen b.frozen refl
        where
          by_ahead : (none : b.frozen ≡ None) → IsBegun (contents_of b s) x.builder ⊎ QuietBy now.top_skip (events.Try x.place) (contents_of b s) (contents_of x.builder x.store) → ComesBy (x ∷ xs) b s made e d r
          by_ahead none (inl k) = subst (λ a. ComesBy (x ∷ xs) b s a e d r) (one-ask x.builder none k) h
          by_ahead none (inr k) = absurd k

          by_frozen : (o : Option Ask) → b.frozen ≡ o → ComesBy (x ∷ xs) b s made e d r
          by_frozen None none = by_ahead none (ahead-by now b x.builder s x.store (events.Try x.place) h.0 sound none)
          by_frozen (Some f) k = subst (λ a. ComesBy (x ∷ xs) b s a e d r) (agrees.begun f k) h

      -- ---- what is known of what the page is made for, behind a call

      module _ (n : IsNext b s made e d r) where
        -- a page that is begun behind it is made for what is asked
        pub begun-behind : (f : Ask) → d.frozen ≡ Some f → now ≡ made
        begun-behind f k = by_frozen b.frozen refl
          where
            by_ahead : (none : b.frozen ≡ None) → IsBegun (contents_of b s) d ⊎ QuietBy made.top_skip e (contents_of b s) (contents_of d r) → now ≡ made
            by_ahead none (inl h) = one-ask d none h
            by_ahead none (inr h) = let bad : Some f ≡ None = sym k ∙ quiet-unbegun made b d s r e n sound none h in cc

            by_frozen : (o : Option Ask) → b.frozen ≡ o → now ≡ made
            by_frozen None none = by_ahead none (ahead-by made b d s r e n sound none)
            by_frozen (Some g) h = agrees.begun g h

        -- its amounts are in their ranges, if those of what is asked now are
        pub sized-behind : IsSizedAsk (asks t) → ((f : Ask) → b.frozen ≡ Some f → IsSizedAsk made) → (f : Ask) → d.frozen ≡ Some f → IsSizedAsk made
        sized-behind sized before f k = by_frozen b.frozen refl
          where
            by_ahead : (none : b.frozen ≡ None) → IsBegun (contents_of b s) d ⊎ QuietBy made.top_skip e (contents_of b s) (contents_of d r) → IsSizedAsk made
            by_ahead none (inl h) = subst IsSizedAsk (sym (as-asked d none h)) sized
            by_ahead none (inr h) = let bad : Some f ≡ None = sym k ∙ quiet-unbegun made b d s r e n sound none h in cc

            by_frozen : (o : Option Ask) → b.frozen ≡ o → IsSizedAsk made
            by_frozen None none = by_ahead none (ahead-by made b d s r e n sound none)
            by_frozen (Some g) h = before g h

        -- if the page is not begun behind it, it was not begun before
        unbegun-before : b.stopped ≡ false → d.frozen ≡ None → b.frozen ≡ None
        unbegun-before on bare = by_frozen b.frozen refl
          where
            by_frozen : (o : Option Ask) → b.frozen ≡ o → o ≡ None
            by_frozen None k = refl
            by_frozen (Some f) k =
                let still : d.frozen ≡ Some f = (subst (λ x. NextIs x e (contents_of b s) made (contents_of d r) r) on n.event).1.keeps f k in
                let bad : Some f ≡ None = sym still ∙ bare in
                cc

        pub asked-behind : b.stopped ≡ false → d.frozen ≡ None → now ≡ asks t
        asked-behind on bare = agrees.asked (unbegun-before on bare)

        -- an act comes first of those that are still to come
        pub act-agrees : b.stopped ≡ false → (a : Act) → e ≡ events.Act a → d.frozen ≡ None → made ≡ asks (led_by (λ v. led_through ((contents_of d r).waiting ++ more) v) t (act_on t.params t a))
        act-agrees on a is bare = agrees.later none ∙ ap asks (by_ahead (ahead-by made b d s r e n sound none))
          where
            none : b.frozen ≡ None
            none = unbegun-before on bare

            by_quiet : QuietBy made.top_skip (events.Act a) (contents_of b s) (contents_of d r) → led_through ((contents_of b s).waiting ++ more) t ≡ led_by (λ v. led_through ((contents_of d r).waiting ++ more) v) t (act_on t.params t a)
            by_quiet q =
                ap (λ ns. led_through (ns ++ more) t) q.1.waiting
                ∙ ap (λ ns. led_through ns t) (append_assoc q.1.before (record { line = q.0; kind = act a } ∷ (contents_of d r).waiting) more)
                ∙ led-quiet q.1.before (record { line = q.0; kind = act a } ∷ (contents_of d r).waiting ++ more) t q.1.acts q.1.begins

            by_ahead : IsBegun (contents_of b s) d ⊎ QuietBy made.top_skip e (contents_of b s) (contents_of d r)
                → led_through ((contents_of b s).waiting ++ more) t ≡ led_by (λ v. led_through ((contents_of d r).waiting ++ more) v) t (act_on t.params t a)
            by_ahead (inl h) = absurd (h.begun bare)
            by_ahead (inr q) = by_quiet (subst (λ v. QuietBy made.top_skip v (contents_of b s) (contents_of d r)) is q)

        -- at the end of what waits they are those of the nodes that are left
        pub end-agrees : b.stopped ≡ false → e ≡ events.Empty → d.frozen ≡ None → made ≡ asks (led_through more t)
        end-agrees on is bare = agrees.later none ∙ ap asks (by_ahead (ahead-by made b d s r e n sound none))
          where
            none : b.frozen ≡ None
            none = unbegun-before on bare

            by_quiet : QuietBefore made.top_skip [] (contents_of b s) (contents_of d r) → led_through ((contents_of b s).waiting ++ more) t ≡ led_through more t
            by_quiet q =
                ap (λ ns. led_through (ns ++ more) t) q.waiting
                ∙ ap (λ ns. led_through ns t) (append_assoc q.before [] more)
                ∙ led-quiet q.before more t q.acts q.begins

            by_ahead : IsBegun (contents_of b s) d ⊎ QuietBy made.top_skip e (contents_of b s) (contents_of d r) → led_through ((contents_of b s).waiting ++ more) t ≡ led_through more t
            by_ahead (inl h) = absurd (h.begun bare)
            by_ahead (inr q) = by_quiet (subst (λ v. QuietBy made.top_skip v (contents_of b s) (contents_of d r)) is q)

        -- a page on which a place was tried is begun
        pub tried-agrees : b.stopped ≡ false → (x : Try) → e ≡ events.Try x → d.frozen ≡ None → ⊥
        tried-agrees on x is bare = by_ahead (ahead-by made b d s r e n sound none)
          where
            none : b.frozen ≡ None
            none = unbegun-before on bare

            by_ahead : IsBegun (contents_of b s) d ⊎ QuietBy made.top_skip e (contents_of b s) (contents_of d r) → ⊥
            by_ahead (inl h) = h.begun bare
            by_ahead (inr q) = subst (λ v. QuietBy made.top_skip v (contents_of b s) (contents_of d r)) is q
