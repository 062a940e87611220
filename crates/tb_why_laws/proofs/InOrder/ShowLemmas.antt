-- What is shown of a part of a firing is in order: tales, and the pages that are sent among them.
use Rattle.std.proofs.Common.{◌≡◌, refl, sym, ◌∙◌, ap, subst, pos, ◌+◌, Bool, true, false, List, [], ◌∷◌, ◌++◌, if◌then◌else◌, append_assoc, append-nil}
use Rattle.std.specs.Prelude.{int_lt}
use Rattle.tb_param.specs.declared.Params.{Params}
use Rattle.tb_sheet.specs.Sheet.{PlainSheet, PlainSent, shipped}
use Rattle.tb_output.specs.State.{Work}
use Rattle.tb_output.specs.Pages.{ship, ship_now}
use Rattle.tb_told.specs.declared.Tale.{Tale}
use Rattle.tb_told.specs.declared.Piece.{Piece}
use Rattle.tb_told.specs.declared.Piece.TheVariants.{NextSent}
use Rattle.tb_told.specs.Tales.{tales}
use Rattle.tb_story.specs.Summary.{SummaryView, after_tale, after_page}
use Rattle.tb_why.specs.Firing.{unless_over, ship_pieces, woven}
use Rattle.tb_why.specs.WhyRun.{Shown, all_shown}
use Rattle.tb_why.specs.SummaryLaws.{IsOrderly, IsSentInOrder}
use Rattle.tb_why_laws.proofs.InOrder.DecisionLemmas.{AreInOrder, after_tales, Tells}

-- ---- a part of a firing

-- from one work to the next these pieces are told, in order from a summary on, with what was sent among them; and this is so of
-- the summary after them
pub record Shows (a b : Work) (ps : List Piece) (m : SummaryView) (After : SummaryView → Type 0) : Type 0 where
  pub now : SummaryView
  pub sent : List PlainSent
  pub whole : b.sent ≡ a.sent ++ sent
  pub after : After now
  pub order : (qs : List Piece) (es : List PlainSent) (later : List Shown) → IsOrderly (all_shown (woven qs es) ++ later) now → IsOrderly (all_shown (woven (ps ++ qs) (sent ++ es)) ++ later) m

-- one part after another
pub shows-then : (a b c : Work) (ps qs : List Piece) (m : SummaryView) (P Q : SummaryView → Type 0) → Shows a b ps m P → ((n : SummaryView) → P n → Shows b c qs n Q) → Shows a c (ps ++ qs) m Q
shows-then a b c ps qs m P Q x f =
    let y = f x.now x.after in
    record {
      now = y.now;
      sent = x.sent ++ y.sent;
      whole = y.whole ∙ ap (λ es. es ++ y.sent) x.whole ∙ append_assoc a.sent x.sent y.sent;
      after = y.after;
      order = λ rs es later h.
          subst (λ us. IsOrderly (all_shown (woven us ((x.sent ++ y.sent) ++ es)) ++ later) m) (sym (append_assoc ps qs rs))
          (subst (λ vs. IsOrderly (all_shown (woven (ps ++ (qs ++ rs)) vs) ++ later) m) (sym (append_assoc x.sent y.sent es))
          (x.order (qs ++ rs) (y.sent ++ es) later (y.order rs es later h)));
    }

-- nothing is told, and nothing sent
pub shows-none : (a b : Work) (m : SummaryView) (P : SummaryView → Type 0) → b.sent ≡ a.sent → P m → Shows a b [] m P
shows-none a b m P e h = record { now = m; sent = []; whole = e ∙ sym (append-nil a.sent); after = h; order = λ qs es later k. k }

-- a move before, of which nothing is told
pub shows-behind : (a b c : Work) (ps : List Piece) (m : SummaryView) (P : SummaryView → Type 0) → b.sent ≡ a.sent → Shows b c ps m P → Shows a c ps m P
shows-behind a b c ps m P e x = record { now = x.now; sent = x.sent; whole = x.whole ∙ ap (λ es. es ++ x.sent) e; after = x.after; order = x.order }

-- a move after, of which nothing is told
pub shows-before : (a b c : Work) (ps : List Piece) (m : SummaryView) (P Q : SummaryView → Type 0) → c.sent ≡ b.sent → ((n : SummaryView) → P n → Q n) → Shows a b ps m P → Shows a c ps m Q
shows-before a b c ps m P Q e h x = record { now = x.now; sent = x.sent; whole = e ∙ x.whole; after = h x.now x.after; order = x.order }

-- ---- tales

-- what follows tales is in order
pub then-order : (ts : List Tale) (m : SummaryView) → AreInOrder ts m → (qs : List Piece) (es : List PlainSent) (later : List Shown) → IsOrderly (all_shown (woven qs es) ++ later) (after_tales ts m) → IsOrderly (all_shown (woven (tales ts ++ qs) es) ++ later) m
then-order [] m o qs es later h = h
then-order (t ∷ ts) m o qs es later h = (o.0, then-order ts (after_tale t m) o.1 qs es later h)

-- tales are told, unless the page limit was met
pub shows-tales : (w : Work) (ts : List Tale) (m : SummaryView) (P : SummaryView → Type 0) → (w.refused ≡ true → P m) → (w.refused ≡ false → Tells ts m P) → Shows w w (unless_over w (tales ts)) m P
shows-tales w ts m P h k = by_refused w.refused refl
  where
    by_refused : (b : Bool) → w.refused ≡ b → Shows w w (if b then [] else tales ts) m P
    by_refused true e = shows-none w w m P refl (h e)
    by_refused false e =
        let x = k e in
        record { now = after_tales ts m; sent = []; whole = sym (append-nil w.sent); after = x.after; order = λ qs es later o. then-order ts m x.order qs es later o }

-- ---- a page

-- a page is shipped, unless the page limit was met or is met now
pub shows-page : (p : Params) (sheet : PlainSheet) (w : Work) (m : SummaryView) (P : SummaryView → Type 0) → ((ship p sheet w).refused ≡ true → P m)
    → (w.refused ≡ false → (ship p sheet w).refused ≡ false → (ship p sheet w).sent ≡ w.sent ++ shipped w.state.number sheet ∷ [] → IsSentInOrder (shipped w.state.number sheet) m × P (after_page w.state.number sheet m))
    → Shows w (ship p sheet w) (ship_pieces p w) m P
shows-page p sheet w m P h k = by_refused w.refused refl h k
  where
    by_refused : (b : Bool) → w.refused ≡ b → ((if b then w else (if int_lt p.maxpages (pos w.state.page) then record w { refused = true } else ship_now sheet w)).refused ≡ true → P m)
        → (w.refused ≡ false → (if b then w else (if int_lt p.maxpages (pos w.state.page) then record w { refused = true } else ship_now sheet w)).refused ≡ false → (if b then w else (if int_lt p.maxpages (pos w.state.page) then record w { refused = true } else ship_now sheet w)).sent ≡ w.sent ++ shipped w.state.number sheet ∷ [] → IsSentInOrder (shipped w.state.number sheet) m × P (after_page w.state.number sheet m))
        → Shows w (if b then w else (if int_lt p.maxpages (pos w.state.page) then record w { refused = true } else ship_now sheet w)) (if b then [] else (if int_lt p.maxpages (pos w.state.page) then [] else NextSent ∷ [])) m P
    by_refused true e h k = shows-none w w m P refl (h e)
    by_refused false e h k = by_limit (int_lt p.maxpages (pos w.state.page)) h k
      where
        -- the page is sent
        sends-it : (c : Bool) → c ≡ false → (if c then record w { state = record w.state { page = w.state.page + 1; number = w.state.number + 1; dead_cycles = 0 } } else record w { state = record w.state { page = w.state.page + 1; number = w.state.number + 1; dead_cycles = 0 }; sent = w.sent ++ shipped w.state.number sheet ∷ [] }).sent ≡ w.sent ++ shipped w.state.number sheet ∷ []
        sends-it true i = cc
        sends-it false i = refl

        goes-on : (c : Bool) → c ≡ false → w.refused ≡ false → (if c then record w { state = record w.state { page = w.state.page + 1; number = w.state.number + 1; dead_cycles = 0 } } else record w { state = record w.state { page = w.state.page + 1; number = w.state.number + 1; dead_cycles = 0 }; sent = w.sent ++ shipped w.state.number sheet ∷ [] }).refused ≡ false
        goes-on true i e = cc
        goes-on false i e = e

        by_limit : (b : Bool) → ((if b then record w { refused = true } else ship_now sheet w).refused ≡ true → P m)
            → (w.refused ≡ false → (if b then record w { refused = true } else ship_now sheet w).refused ≡ false → (if b then record w { refused = true } else ship_now sheet w).sent ≡ w.sent ++ shipped w.state.number sheet ∷ [] → IsSentInOrder (shipped w.state.number sheet) m × P (after_page w.state.number sheet m))
            → Shows w (if b then record w { refused = true } else ship_now sheet w) (if b then [] else NextSent ∷ []) m P
        by_limit true h k = shows-none w (record w { refused = true }) m P refl (h refl)
        by_limit false h k =
            let sent = sends-it w.refused e in
            let x = k e (goes-on w.refused e e) sent in
            record { now = after_page w.state.number sheet m; sent = shipped w.state.number sheet ∷ []; whole = sent; after = x.1; order = λ qs es later o. (x.0, o) }
