-- Pages of a DVI file, one after another.
use Rattle.std.proofs.Common.{◌≡◌, refl, sym, subst, ◌∙◌, ap, ℕ, suc, ◌+◌, ◌<◌, ◌≤◌, length, take, drop, get_or, drop-cons, arith, Bool, true, false, List, [], ◌∷◌, ◌++◌, Option, append_assoc, append-nil}
use Rattle.std.proofs.lemmas.List.{drop_all}
use Rattle.std.proofs.Math.Seq.{take-append_seam}
use Rattle.tb_text.specs.Fronts.{PutsFront}
use Rattle.tb_pool.specs.Lists.{Lists}
use Rattle.tb_node.specs.declared.Node.{Node}
use Rattle.std.specs.Io.KnownBytes.{Appends, append_known}
use Rattle.tb_io.specs.Sink.{AppendsPrefix}
use Rattle.std.proofs.KnownBytes.{Appends-trans}
use Rattle.tb_io.proofs.Appended.{prefix_whole, prefix_longer}
use Rattle.tb_sheet.specs.Sheet.{PlainSent, warned, shipped}
use Rattle.tb_dvi.specs.declared.progress.Progress.{Progress}
use Rattle.tb_dvi.specs.File.{Page, page_bytes, file_front, is_too_far, first_too_far}
use Rattle.tb_dvi.specs.Progress.{with_page, sent_pages, run_bytes}
use Rattle.tb_dvi.specs.declared.page.DviFault.{DviFault}
use Rattle.tb_dvi.specs.declared.page.DviFault.TheVariants as unwritten
use Rattle.tb_dvi.specs.Page.{MissesPage}
use Rattle.tb_dvi.proofs.ProgressLemmas.{written-more, front-more, first_there, cut_bytes}
use Rattle.tb_dvi.proofs.FrontLemmas.{run_begins}
use Rattle.tb_items.specs.RunEvents.{RunEvent}
use Rattle.tb_items.specs.declared.happenings.Happening.{Happening}
use Rattle.tb_items.specs.Happenings.{noted, event_of, events_of, IsPage, ArePages}
use Rattle.tb_laws.specs.DviPages.{sent_among, event_pages}
use Rattle.tb_top.specs.declared.dvi_pages.DviRunFault.{DviRunFault}
use Rattle.tb_top.specs.declared.dvi_pages.DviRunFault.TheVariants as refused
use Rattle.tb_top.specs.DviWritten.{HoldsPages, StopsFar, StopsShort, FailsAmong, IsWriteFailure, page_failure}
use Rattle.tb_top.specs.Kept.{Grows}
use Rattle.tb_top.proofs.Written.EventCounts.{among-append}
use Rattle.tb_top.proofs.Written.KeptLemmas.{all-written, front-written}
use Rattle.tb_top.proofs.Written.TallyLemmas.{noted-among}

-- ---- the pages of events

sent-append : (xs ys : List PlainSent) → sent_pages (xs ++ ys) ≡ sent_pages xs ++ sent_pages ys
sent-append [] ys = refl
sent-append (warned w ∷ xs) ys = sent-append xs ys
sent-append (shipped number sheet ∷ xs) ys = ap (λ ps. (sent_pages (shipped number sheet ∷ [])) ++ ps) (sent-append xs ys)

pub events-append : (xs ys : List RunEvent) → event_pages (xs ++ ys) ≡ event_pages xs ++ event_pages ys
events-append xs ys = ap sent_pages (among-append xs ys) ∙ sent-append (sent_among xs) (sent_among ys)

pub noted-pages : (wanted : Bool) (es : List RunEvent) → event_pages (noted wanted es) ≡ event_pages es
noted-pages wanted es = ap sent_pages (noted-among wanted es)

-- the next that happened, and the rest
next-here : (hs : List Happening) (k : ℕ) (h : Happening) → k < length hs → h ≡ get_or hs k h → drop k hs ≡ h ∷ drop (k + 1) hs
next-here hs k h lt is =
    let one : suc k ≡ k + 1 = omega arith in
    drop-cons hs k h lt ∙ (λ i. sym is i ∷ drop (one i) hs)

next-pages : (store : Lists Node) (hs : List Happening) (k : ℕ) (h : Happening) → k < length hs → h ≡ get_or hs k h
    → event_pages (events_of store (drop k hs)) ≡ event_pages (event_of store h ∷ []) ++ event_pages (events_of store (drop (k + 1) hs))
next-pages store hs k h lt is =
    ap (λ xs. event_pages (events_of store xs)) (next-here hs k h lt is) ∙ events-append (event_of store h ∷ []) (events_of store (drop (k + 1) hs))

pub next-page : (store : Lists Node) (hs : List Happening) (k : ℕ) (h : Happening) → k < length hs → h ≡ get_or hs k h → ArePages store (drop k hs) → IsPage store h × ArePages store (drop (k + 1) hs)
next-page store hs k h lt is pages = subst (ArePages store) (next-here hs k h lt is) pages

pub no-pages : (store : Lists Node) (hs : List Happening) (k : ℕ) → length hs ≤ k → event_pages (events_of store (drop k hs)) ≡ []
no-pages store hs k h = ap (λ xs. event_pages (events_of store xs)) (drop_all k hs h)

-- ---- so far

module _ (start now : Option (List ℕ)) (w : Progress) (ps : List Page) (h : HoldsPages start now w ps) where
  -- all that is written so far is a prefix of the file
  pub holds-short : StopsShort start now ps
  holds-short textheight rest well =
      let r = run_begins ps rest h.progress.in_range textheight well in
      subst (AppendsPrefix start now) (sym r.1) (prefix_longer start now (file_front ps) r.0 (prefix_whole start now (file_front ps) h.held))

  pub holds-same : (qs : List Page) → qs ≡ ps → HoldsPages start now w qs
  holds-same qs is = subst (HoldsPages start now w) (sym is) h

  module _ (p : Page) where
    -- a page in range is written
    pub holds-more : is_too_far w.place p ≡ false → (new : Option (List ℕ)) → Appends now new (page_bytes w.last p) → HoldsPages start new (with_page p w) (ps ++ p ∷ [])
    holds-more near new b = record {
      progress = written-more w ps p h.progress near;
      held = subst (Appends start new) (sym (front-more w ps p h.progress)) (Appends-trans start now new (file_front ps) (page_bytes w.last p) h.held b);
    }

    -- a page out of range ends the file
    pub far-more : is_too_far w.place p ≡ true → StopsFar start now p.number (ps ++ p ∷ [])
    far-more far textheight rest well =
        let same : (ps ++ p ∷ []) ++ rest ≡ ps ++ p ∷ rest = append_assoc ps (p ∷ []) rest in (
          ap (first_too_far 27) same ∙ first_there w ps p h.progress far rest,
          subst (Appends start now) (sym (ap (λ l. run_bytes textheight l well) same ∙ cut_bytes w ps p h.progress far rest textheight well)) h.held,
        )

    -- nothing is written of a page
    pub short-before : StopsShort start now (ps ++ p ∷ [])
    short-before textheight rest well =
        subst (λ l. AppendsPrefix start now (run_bytes textheight l well)) (sym (append_assoc ps (p ∷ []) rest)) (holds-short textheight (p ∷ rest) well)

    -- it has no bytes
    pub misses-page : (e : DviFault) → MissesPage e w.place p → FailsAmong (page_failure e) start now (ps ++ p ∷ [])
    misses-page (unwritten.TooFar page) m = subst (λ n. StopsFar start now n (ps ++ p ∷ [])) (sym m.0) (far-more m.1)
    misses-page unwritten.Memory m = short-before

-- what is kept is written, or a front of it
module _ (start held new : Option (List ℕ)) (kept : List ℕ) (ps : List Page) where
  pub holds-written : (w : Progress) → HoldsPages start (append_known held kept) w ps → Appends held new kept → HoldsPages start new w ps
  holds-written w h a = record { progress = h.progress; held = all-written start held new kept (file_front ps) h.held a }

  pub short-written : Grows start held → AppendsPrefix held new kept → StopsShort start (append_known held kept) ps → StopsShort start new ps
  short-written g a h textheight rest well = front-written start held new kept (run_bytes textheight (ps ++ rest) well) g a (h textheight rest well)

-- what was kept before a page that has no bytes
pub as-before : (old whole all kept : List ℕ) (n : ℕ) → PutsFront old whole all → n ≡ length old → kept ≡ take n all → kept ≡ old
as-before old whole all kept n f is k = k ∙ ap (take n) f.appended ∙ ap (λ m. take m (old ++ f.put)) is ∙ take-append_seam old f.put

-- more pages were to come
pub fails-more : (e : DviRunFault) (start now : Option (List ℕ)) (ps qs : List Page) → FailsAmong e start now ps → FailsAmong e start now (ps ++ qs)
fails-more (refused.TooFar page) start now ps qs h = λ textheight rest well.
    let same : (ps ++ qs) ++ rest ≡ ps ++ (qs ++ rest) = append_assoc ps qs rest in
    let k = h textheight (qs ++ rest) well in
    (ap (first_too_far 27) same ∙ k.0, subst (λ l. Appends start now (run_bytes textheight l well)) (sym same) k.1)
fails-more (refused.Pages f) start now ps qs h = λ textheight rest well.
    subst (λ l. AppendsPrefix start now (run_bytes textheight l well)) (sym (append_assoc ps qs rest)) (h textheight (qs ++ rest) well)

-- some of these pages are written, and these are left
pub record Sending (start now : Option (List ℕ)) (w : Progress) (ps all left : List Page) : Type 0 where
  pub done : List Page
  pub split : all ≡ done ++ left
  pub holds : HoldsPages start now w (ps ++ done)

pub sends-none : (start now : Option (List ℕ)) (w : Progress) (ps all : List Page) → HoldsPages start now w ps → Sending start now w ps all all
sends-none start now w ps all h = record { done = []; split = refl; holds = holds-same start now w ps h (ps ++ []) (append-nil ps) }

-- those of the next that happened are the first of them
pub sending-here : (start now : Option (List ℕ)) (w : Progress) (ps all : List Page) (store : Lists Node) (hs : List Happening) (k : ℕ) (h : Happening) → k < length hs → h ≡ get_or hs k h
    → Sending start now w ps all (event_pages (events_of store (drop k hs))) → Sending start now w ps all (event_pages (event_of store h ∷ []) ++ event_pages (events_of store (drop (k + 1) hs)))
sending-here start now w ps all store hs k h lt is s = subst (Sending start now w ps all) (next-pages store hs k h lt is) s

module _ (start now new : Option (List ℕ)) (w u : Progress) (ps all next left : List Page) (s : Sending start now w ps all (next ++ left)) where
  together : (ps ++ s.done) ++ next ≡ ps ++ (s.done ++ next)
  together = append_assoc ps s.done next

  pub sends-next : HoldsPages start new u ((ps ++ s.done) ++ next) → Sending start new u ps all left
  sends-next h = record {
    done = s.done ++ next;
    split = s.split ∙ sym (append_assoc s.done next left);
    holds = holds-same start new u ((ps ++ s.done) ++ next) h (ps ++ (s.done ++ next)) (sym together);
  }

  pub sends-fails : (e : DviRunFault) → FailsAmong e start new ((ps ++ s.done) ++ next) → FailsAmong e start new (ps ++ all)
  sends-fails e h =
      let same : ((ps ++ s.done) ++ next) ++ left ≡ ps ++ all = ap (λ t. t ++ left) together ∙ append_assoc ps (s.done ++ next) left ∙ ap (λ t. ps ++ t) (append_assoc s.done next left ∙ sym s.split) in
      subst (FailsAmong e start new) same (fails-more e start new ((ps ++ s.done) ++ next) left h)

pub sends-all : (start now : Option (List ℕ)) (w : Progress) (ps all : List Page) → Sending start now w ps all [] → HoldsPages start now w (ps ++ all)
sends-all start now w ps all s = holds-same start now w (ps ++ s.done) s.holds (ps ++ all) (ap (λ t. ps ++ t) (s.split ∙ append-nil s.done))

-- ---- why writing failed

pub failure-later : (e : DviRunFault) (a b c : ℕ) → a ≤ b → IsWriteFailure b c e → IsWriteFailure a c e
failure-later (refused.TooFar page) a b c le h = tt
failure-later (refused.Pages f) a b c le h = (h.0, h.1, λ is. let rose = h.2 is in omega (arith, le, rose))
