-- What is shown of a part of a firing in one column comes in time: a page holds floats that were placed since the sheet before it,
-- and its number is that of the sheets.
use Rattle.std.proofs.Common.{◌≡◌, refl, sym, ◌∙◌, ap, subst, ℕ, pos, ◌+◌, Bool, true, false, List, [], ◌∷◌, ◌++◌, if◌then◌else◌, append_assoc, append-nil}
use Rattle.std.specs.Prelude.{⊤, int_lt}
use Rattle.std.specs.List.{AllByRecursion}
use Rattle.tb_node.specs.declared.Where.{Where}
use Rattle.tb_param.specs.declared.Params.{Params}
use Rattle.tb_sheet.specs.Sheet.{PlainSheet, PlainSent, warned, shipped}
use Rattle.tb_items.specs.RunEvents.{offered, sent}
use Rattle.tb_output.specs.State.{Work}
use Rattle.tb_output.specs.Pages.{ship, ship_now}
use Rattle.tb_told.specs.declared.Tale.{Tale}
use Rattle.tb_told.specs.declared.Tale.TheVariants.{PutOut}
use Rattle.tb_told.specs.declared.Piece.{Piece}
use Rattle.tb_told.specs.declared.Piece.TheVariants.{Says, NextSent}
use Rattle.tb_told.specs.Tales.{tales}
use Rattle.tb_story.specs.Story.{StoryView, is_open}
use Rattle.tb_story.specs.Summary.{SummaryView, after_tale, after_page}
use Rattle.tb_why.specs.Firing.{unless_over, ship_pieces, woven}
use Rattle.tb_why.specs.WhyRun.{Shown, happens, tells, all_shown}
use Rattle.tb_why.specs.Summary.{after_shown}
use Rattle.tb_why.specs.SummaryLaws.{HoldsFloat}
use Rattle.tb_why_laws.proofs.InOrder.DecisionLemmas.{after_tales}
use Rattle.tb_why_laws.proofs.InTime.DueStories.{AllDue, DueIn, missed-due, IsTaleTimely, AreTalesTimely, TellsTimely}

-- ---- in time

-- if the float is on the page and was not shipped, it was placed since the sheet before
abbrev pub IsPlacedFor : ℕ → PlainSheet → StoryView → Type 0
IsPlacedFor page sheet s = is_open s ≡ true → (place : Where) → HoldsFloat s.float.line place sheet → s.put + 1 ≡ page

abbrev pub IsSentTimely : PlainSent → SummaryView → Type 0
IsSentTimely (warned w) m = ⊤
IsSentTimely (shipped page sheet) m = AllByRecursion (IsPlacedFor page sheet) m.stories

abbrev pub IsShownTimely : Shown → SummaryView → Type 0
IsShownTimely (tells t) m = IsTaleTimely t m
IsShownTimely (happens (offered t)) m = ⊤
IsShownTimely (happens (sent e)) m = IsSentTimely e m

-- all that is shown, from this summary on
abbrev pub AreTimely : List Shown → SummaryView → Type 0
AreTimely [] m = ⊤
AreTimely (x ∷ xs) m = IsShownTimely x m × AreTimely xs (after_shown x m)

-- unless the page limit was met, the page that is made has the number of the next sheet, and the floats of these lines were placed
-- since the last sheet
abbrev pub Punctual : (ℕ → Type 0) → Work → SummaryView → Type 0
Punctual N w m = w.refused ≡ false → (w.state.number ≡ m.sheets + 1) × DueIn N m

-- a column was put out, and its page is not sent yet
pub record Leaves (N : ℕ → Type 0) (w : Work) (m : SummaryView) : Type 0 where
  pub before : ℕ
  pub sheets : m.sheets ≡ before + 1
  pub page : w.state.number ≡ before + 1
  pub due : AllDue N before m.stories

abbrev pub Leaving : (ℕ → Type 0) → Work → SummaryView → Type 0
Leaving N w m = w.refused ≡ false → Leaves N w m

pub stopped : (b : Bool) → b ≡ true → b ≡ false → ⊥
stopped b e d = cc

-- ---- a part of a firing

-- from one work to the next these pieces are told, in order from a summary on, with what was sent among them; and this is so of
-- the summary after them
pub record Times (a b : Work) (ps : List Piece) (m : SummaryView) (After : SummaryView → Type 0) : Type 0 where
  pub now : SummaryView
  pub sent : List PlainSent
  pub whole : b.sent ≡ a.sent ++ sent
  pub after : After now
  pub order : (qs : List Piece) (es : List PlainSent) (later : List Shown) → AreTimely (all_shown (woven qs es) ++ later) now → AreTimely (all_shown (woven (ps ++ qs) (sent ++ es)) ++ later) m

-- one part after another
pub times-then : (a b c : Work) (ps qs : List Piece) (m : SummaryView) (P Q : SummaryView → Type 0) → Times a b ps m P → ((n : SummaryView) → P n → Times b c qs n Q) → Times a c (ps ++ qs) m Q
times-then a b c ps qs m P Q x f =
    let y = f x.now x.after in
    record {
      now = y.now;
      sent = x.sent ++ y.sent;
      whole = y.whole ∙ ap (λ es. es ++ y.sent) x.whole ∙ append_assoc a.sent x.sent y.sent;
      after = y.after;
      order = λ rs es later h.
          subst (λ us. AreTimely (all_shown (woven us ((x.sent ++ y.sent) ++ es)) ++ later) m) (sym (append_assoc ps qs rs))
          (subst (λ vs. AreTimely (all_shown (woven (ps ++ (qs ++ rs)) vs) ++ later) m) (sym (append_assoc x.sent y.sent es))
          (x.order (qs ++ rs) (y.sent ++ es) later (y.order rs es later h)));
    }

-- nothing is told, and nothing sent
pub times-none : (a b : Work) (m : SummaryView) (P : SummaryView → Type 0) → b.sent ≡ a.sent → P m → Times a b [] m P
times-none a b m P e h = record { now = m; sent = []; whole = e ∙ sym (append-nil a.sent); after = h; order = λ qs es later k. k }

-- a move before, of which nothing is told
pub times-behind : (a b c : Work) (ps : List Piece) (m : SummaryView) (P : SummaryView → Type 0) → b.sent ≡ a.sent → Times b c ps m P → Times a c ps m P
times-behind a b c ps m P e x = record { now = x.now; sent = x.sent; whole = x.whole ∙ ap (λ es. es ++ x.sent) e; after = x.after; order = x.order }

-- a move after, of which nothing is told
pub times-before : (a b c : Work) (ps : List Piece) (m : SummaryView) (P Q : SummaryView → Type 0) → c.sent ≡ b.sent → ((n : SummaryView) → P n → Q n) → Times a b ps m P → Times a c ps m Q
times-before a b c ps m P Q e h x = record { now = x.now; sent = x.sent; whole = e ∙ x.whole; after = h x.now x.after; order = x.order }

-- ---- tales

-- what follows tales is told in time
pub then-timely : (ts : List Tale) (m : SummaryView) → AreTalesTimely ts m → (qs : List Piece) (es : List PlainSent) (later : List Shown) → AreTimely (all_shown (woven qs es) ++ later) (after_tales ts m) → AreTimely (all_shown (woven (tales ts ++ qs) es) ++ later) m
then-timely [] m o qs es later h = h
then-timely (t ∷ ts) m o qs es later h = (o.0, then-timely ts (after_tale t m) o.1 qs es later h)

-- tales are told, unless the page limit was met
pub times-tales : (w : Work) (ts : List Tale) (m : SummaryView) (N M : ℕ → Type 0) → Punctual N w m → (w.refused ≡ false → DueIn N m → TellsTimely ts m M) → Times w w (unless_over w (tales ts)) m (Punctual M w)
times-tales w ts m N M h k = by_refused w.refused refl
  where
    by_refused : (b : Bool) → w.refused ≡ b → Times w w (if b then [] else tales ts) m (Punctual M w)
    by_refused true e = times-none w w m (Punctual M w) refl (λ r. absurd (stopped w.refused e r))
    by_refused false e =
        let a = h e in
        let x = k e a.1 in
        record { now = after_tales ts m; sent = []; whole = sym (append-nil w.sent); after = λ r. (a.0 ∙ ap (λ n. n + 1) (sym x.sheets), x.due); order = λ qs es later o. then-timely ts m x.order qs es later o }

-- a column is put out
pub times-output : (w : Work) (m : SummaryView) (N : ℕ → Type 0) → Punctual N w m → Times w w (unless_over w (Says PutOut ∷ [])) m (Leaving N w)
times-output w m N h = by_refused w.refused refl
  where
    by_refused : (b : Bool) → w.refused ≡ b → Times w w (if b then [] else Says PutOut ∷ []) m (Leaving N w)
    by_refused true e = times-none w w m (Leaving N w) refl (λ r. absurd (stopped w.refused e r))
    by_refused false e =
        let a = h e in
        record { now = after_tale PutOut m; sent = []; whole = sym (append-nil w.sent); after = λ r. record { before = m.sheets; sheets = refl; page = a.0; due = missed-due N m.sheets m.stories a.1 }; order = λ qs es later o. (tt, o) }

-- ---- a page

-- a page is shipped, unless the page limit was met or is met now
pub times-page : (p : Params) (sheet : PlainSheet) (w : Work) (m : SummaryView) (P : SummaryView → Type 0) → ((ship p sheet w).refused ≡ true → P m)
    → (w.refused ≡ false → (ship p sheet w).refused ≡ false → (ship p sheet w).sent ≡ w.sent ++ shipped w.state.number sheet ∷ [] → IsSentTimely (shipped w.state.number sheet) m × P (after_page w.state.number sheet m))
    → Times w (ship p sheet w) (ship_pieces p w) m P
times-page p sheet w m P h k = by_refused w.refused refl h k
  where
    by_refused : (b : Bool) → w.refused ≡ b → ((if b then w else (if int_lt p.maxpages (pos w.state.page) then record w { refused = true } else ship_now sheet w)).refused ≡ true → P m)
        → (w.refused ≡ false → (if b then w else (if int_lt p.maxpages (pos w.state.page) then record w { refused = true } else ship_now sheet w)).refused ≡ false → (if b then w else (if int_lt p.maxpages (pos w.state.page) then record w { refused = true } else ship_now sheet w)).sent ≡ w.sent ++ shipped w.state.number sheet ∷ [] → IsSentTimely (shipped w.state.number sheet) m × P (after_page w.state.number sheet m))
        → Times w (if b then w else (if int_lt p.maxpages (pos w.state.page) then record w { refused = true } else ship_now sheet w)) (if b then [] else (if int_lt p.maxpages (pos w.state.page) then [] else NextSent ∷ [])) m P
    by_refused true e h k = times-none w w m P refl (h e)
    by_refused false e h k = by_limit (int_lt p.maxpages (pos w.state.page)) h k
      where
        -- the page is sent
        sends-it : (c : Bool) → c ≡ false → (if c then record w { state = record w.state { page = w.state.page + 1; number = w.state.number + 1; dead_cycles = 0 } } else record w { state = record w.state { page = w.state.page + 1; number = w.state.number + 1; dead_cycles = 0 }; sent = w.sent ++ shipped w.state.number sheet ∷ [] }).sent ≡ w.sent ++ shipped w.state.number sheet ∷ []
        sends-it true i = cc
        sends-it false i = refl

        goes-on : (c : Bool) → c ≡ false → w.refused ≡ false → (if c then record w { state = record w.state { page = w.state.page + 1; number = w.state.number + 1; dead_cycles = 0 } } else record w { state = record w.state { page = w.state.page + 1; number = w.state.number + 1; dead_cycles = 0 }; sent = w.sent ++ shipped w.state.number sheet ∷ [] }).refused ≡ false
        goes-on true i e = cc
        goes-on false i e = e

        by_limit : (b : Bool) → ((if b then record w { refused = true } else ship_now sheet w).refused ≡ true → P m)
            → (w.refused ≡ false → (if b then record w { refused = true } else ship_now sheet w).refused ≡ false → (if b then record w { refused = true } else ship_now sheet w).sent ≡ w.sent ++ shipped w.state.number sheet ∷ [] → IsSentTimely (shipped w.state.number sheet) m × P (after_page w.state.number sheet m))
            → Times w (if b then record w { refused = true } else ship_now sheet w) (if b then [] else NextSent ∷ []) m P
        by_limit true h k = times-none w (record w { refused = true }) m P refl (h refl)
        by_limit false h k =
            let sent = sends-it w.refused e in
            let x = k e (goes-on w.refused e e) sent in
            record { now = after_page w.state.number sheet m; sent = shipped w.state.number sheet ∷ []; whole = sent; after = x.1; order = λ qs es later o. (x.0, o) }
