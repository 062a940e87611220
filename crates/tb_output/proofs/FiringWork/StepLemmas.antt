-- Calls of a firing one after another: what they do to the work, and what they keep.
use Rattle.std.proofs.Common.{◌≡◌, refl, sym, subst, ◌∙◌, ℕ, false, List, [], ◌++◌, map}
use Rattle.tb_pool.specs.Lists.{Lists, list_at}
use Rattle.tb_node.specs.declared.Node.{Node}
use Rattle.tb_node.specs.PlainNodes.{PlainNode, plain_of}
use Rattle.tb_float.specs.Lists.{FloatLists}
use Rattle.tb_sheet.specs.Sheet.{PlainSent, warned}
use Rattle.tb_sheet.specs.declared.Warn.{Warn}
use Rattle.tb_sheet.specs.declared.Sent.TheVariants as events
use Rattle.tb_output.specs.declared.RunFault.{RunFault}
use Rattle.tb_output.specs.declared.RunFault.TheVariants as faults
use Rattle.tb_output.specs.State.{Work, puts, sends}
use Rattle.tb_output.specs.Machine.{MachineView, state_shown, events_shown, IsMachine}
use Rattle.tb_output.specs.PageChanges.{with_warning}
use Rattle.tb_output.specs.FiringWork.{ShowsWork, ShowsBack, shows_back, IsCutShort, Does, Continues}
use Rattle.tb_output.specs.MachineFrame.{HasFloats, HasGrown, IsBack, back_lists, KeepsBack}
use Rattle.tb_sheet.proofs.ListsApart.{apart-none}
use Rattle.tb_output.proofs.FiringWork.BesideLemmas.{machine-with}
use Rattle.tb_output.proofs.FiringWork.StandLemmas.{IsShownBy, lists-shown}
use Rattle.tb_output.proofs.FiringWork.KeepLemmas.{MayGoBack, grown-machine, grown-shows, grown-keeps, keeps-back_then, keeps-back_alone, keeps-back_same}
use Rattle.tb_output.proofs.Acts.WarnLemmas.{shown-joined, warned-back}
use Rattle.tb_output.proofs.FiringWork.WorkingLemmas.{does-then, does-same, cut-then, does-shown_with, no-memory_given}

-- a call did the step
pub record Done (l : ℕ) (m now : MachineView) (store new : Lists Node) (step : Work → Work) : Type 0 where
  pub does : Does (shows_back l m store) (shows_back l now new) step
  pub keeps : KeepsBack l [] m now store new

-- a call was refused in the step
pub record Cut (e : RunFault) (l : ℕ) (m now : MachineView) (store new : Lists Node) (step : Work → Work) : Type 0 where
  pub does : Does (shows_back l m store) (IsCutShort e now new) step
  pub keeps : KeepsBack l [] m now store new

module _ (l : ℕ) where
  pub keeps-on : (m mid now : MachineView) (store middle new : Lists Node) → KeepsBack l [] m mid store middle → KeepsBack l [] mid now middle new → KeepsBack l [] m now store new
  keeps-on m mid now store middle new x y = keeps-back_then l [] [] m mid now store middle new x y (λ q live none. tt)

  pub done-then : (m mid now : MachineView) (store middle new : Lists Node) (f g : Work → Work) → Done l m mid store middle f → Done l mid now middle new g → Done l m now store new (λ w. g (f w))
  done-then m mid now store middle new f g x y = record {
    does = does-then (shows_back l m store) (shows_back l mid middle) (shows_back l now new) f g x.does y.does;
    keeps = keeps-on m mid now store middle new x.keeps y.keeps;
  }

  -- a call was refused after another
  pub then-cut : (e : RunFault) (m mid now : MachineView) (store middle new : Lists Node) (f g : Work → Work) → Done l m mid store middle f → Cut e l mid now middle new g → Cut e l m now store new (λ w. g (f w))
  then-cut e m mid now store middle new f g x y = record {
    does = does-then (shows_back l m store) (shows_back l mid middle) (IsCutShort e now new) f g x.does y.does;
    keeps = keeps-on m mid now store middle new x.keeps y.keeps;
  }

  -- what comes after a call that was refused
  pub cut-short : (e : RunFault) (m now : MachineView) (store new : Lists Node) (f g : Work → Work) → Cut e l m now store new f → ((w : Work) → Continues w (g w)) → Cut e l m now store new (λ w. g (f w))
  cut-short e m now store new f g x goes = record { does = cut-then (shows_back l m store) e now new f g x.does goes; keeps = x.keeps }

  -- a step that is the same for the works that are shown
  pub done-same : (m now : MachineView) (store new : Lists Node) (f g : Work → Work) → ((before : List PlainSent) (w : Work) → shows_back l m store before w → f w ≡ g w) → Done l m now store new f → Done l m now store new g
  done-same m now store new f g same x = record { does = does-same (shows_back l m store) (shows_back l now new) f g same x.does; keeps = x.keeps }

  pub cut-same : (e : RunFault) (m now : MachineView) (store new : Lists Node) (f g : Work → Work) → ((before : List PlainSent) (w : Work) → shows_back l m store before w → f w ≡ g w) → Cut e l m now store new f → Cut e l m now store new g
  cut-same e m now store new f g same x = record { does = does-same (shows_back l m store) (IsCutShort e now new) f g same x.does; keeps = x.keeps }

  -- there was no memory, and nothing changed
  pub no-room : (m now : MachineView) (store new : Lists Node) (f : Work → Work) → IsMachine m store → IsBack l m store → now ≡ m → new.lists ≡ store.lists → ((w : Work) → Continues w (f w)) → Cut faults.Memory l m now store new f
  no-room m now store new f is back unchanged same goes = subst (λ x. Cut faults.Memory l m x store new f) (sym unchanged) (record {
    does = no-memory_given (shows_back l m store) m m store new f (λ b w h. h.0) (lists-shown m store new is same).events goes;
    keeps = keeps-back_same l [] m store new is back same (apart-none (back_lists store l));
  })

  -- nodes were put at the end of the list that goes back
  module _ (ns : List Node) (m : MachineView) (store new : Lists Node) (is : IsMachine m store) (back : IsBack l m store) (grown : HasGrown l ns [] store new) (may : MayGoBack ns) where
    shown : IsShownBy m store new
    shown = grown-machine l ns [] m store new is back grown (apart-none _)

    pub done-puts : (pn : List PlainNode) → map (plain_of (list_at store)) ns ≡ pn → Done l m m store new (puts pn)
    done-puts pn same = record {
      does = λ before w h. does-shown_with (ShowsBack l store) (shows_back l m new) m store (puts pn)
          (λ b v sent at. (
            record { served = refl; sent = shown.events ∙ sent; state = shown.state v.state.boxes v.state.waiting },
            grown-shows l ns [] m store new is back grown (apart-none _) may.leaves ∙ (λ i. at i ++ same i),
          ))
          before w h.0 h.1;
      keeps = grown-keeps l ns [] m store new is back grown (apart-none _) may;
    }

  -- floats moved
  module _ (fl : FloatLists) (m now : MachineView) (store : Lists Node) (is : IsMachine m store) (back : IsBack l m store) (h : HasFloats fl m now) where
    moved-machine : IsMachine (record m { pool = now.pool }) store
    moved-machine = machine-with m store is is.goal h.size (h.unmarked is.unmarked) is.events is.apart

    pub moved-keeps : KeepsBack l [] m now store store
    moved-keeps = subst (λ x. KeepsBack l [] m x store store) (sym h.rest)
        (keeps-back_alone l m (record m { pool = now.pool }) store moved-machine (record { params = refl; classes = refl; fault = refl }) refl back)

    -- the work with these floats is shown
    pub moved-shows : (before : List PlainSent) (v : Work) → events_shown store m.events ≡ before ++ v.sent → v.refused ≡ false → record (state_shown store v.state.boxes v.state.waiting m) { floats = fl } ≡ v.state → ShowsWork before now store v
    moved-shows before v sent served state = subst (λ x. ShowsWork before x store v) (sym h.rest) (record {
      served = served;
      sent = sent;
      state = (λ i. record (state_shown store v.state.boxes v.state.waiting m) { floats = h.lists i }) ∙ state;
    })

  -- a warning was sent
  pub done-warned : (w : Warn) (m now : MachineView) (store : Lists Node) → IsMachine m store → IsBack l m store → now ≡ with_warning w m → Done l m now store store (sends (warned w))
  done-warned w m now store is back e = subst (λ x. Done l m x store store (sends (warned w))) (sym e) (record {
    does = λ before v h. does-shown_with (ShowsBack l store) (shows_back l (with_warning w m) store) m store (sends (warned w))
        (λ b x sent at. (record { served = refl; sent = shown-joined store m.events (events.Warn w) b x.sent sent; state = refl }, at)) before v h.0 h.1;
    keeps = warned-back w m l store is back;
  })
