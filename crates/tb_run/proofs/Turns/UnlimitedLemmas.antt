-- A page that was served whatever `maxnodes` is: the next one can be made.
use Rattle.std.proofs.Common.{◌≡◌, refl, sym, subst, ◌∙◌, ap, false, List, [], ◌++◌, Option, None, Some}
use Rattle.std.specs.Prelude.{is_some, IfNone}
use Rattle.tb_builder.specs.declared.Page.{Page}
use Rattle.tb_output.specs.Output.{out}
use Rattle.tb_output.specs.Machine.{events_shown}
use Rattle.tb_items.specs.declared.happenings.Happening.{Happening}
use Rattle.tb_items.specs.Happenings.{happened_lists}
use Rattle.tb_run.specs.declared.routine.Routine.{Routine}
use Rattle.tb_run.specs.declared.routine.Ending.{Ending}
use Rattle.tb_steps.specs.Runnable.{AreRunnable, AreRunClasses}
use Rattle.tb_run.specs.Routine.{state_of, with_events, IsConsistent, IsBounded, IsReady, AreHappened}
use Rattle.tb_run.specs.FilledPages.{sent_happenings, fired_whole, CanServe}
use Rattle.tb_run.specs.RoutinePages.{ServesAll}
use Rattle.tb_run.specs.UnlimitedPages.{HasSent}
use Rattle.tb_run.proofs.Filling.FillingLemmas.{taken-whole}
use Rattle.tb_run.proofs.Turns.TurnLemmas.{happened-on}

-- the run did not end
pub none-ended : (o : Option Ending) → is_some o ≡ false → o ≡ None
none-ended None e = refl
none-ended (Some x) e = cc

module _ (q d : Routine) (page : Page) (o : Option Ending) (can : CanServe page q) (k : ServesAll page q o d) (on : o ≡ None) where
  abbrev goes : ServesAll page q None d
  goes = subst (λ x. ServesAll page q x d) on k

  pub all-whole : IsConsistent (with_events [] d)
  all-whole = taken-whole d goes.served.0.whole

  pub all-params : AreRunnable d.machine.params
  all-params = subst AreRunnable (sym k.params) can.params

  module _ (m : Routine) (same : m ≡ record (with_events [] d) { most = m.most }) where
    pub all-ready : IsBounded 4194304 m → IsReady m
    all-ready few = subst IsReady (sym same) (record {
      settled = record {
        whole = record { builder = all-whole.builder; machine = all-whole.machine; fault = all-whole.fault; apart = all-whole.apart; items = all-whole.items };
        params = all-params;
        classes = subst AreRunClasses (sym k.classes) can.classes;
        between = goes.served.0.between;
        served = goes.served.0.served;
        bounded = subst (IsBounded 4194304) same few;
        ends = goes.served.0.ends;
      };
      events = refl;
    })

    pub all-lists : (hs new : List Happening) → happened_lists hs ≡ [] → new ≡ hs ++ sent_happenings d.machine.events → AreHappened m new
    all-lists hs new quiet handed =
        let h = happened-on d hs new quiet handed k.ended goes.served.0.whole in
        subst (λ (x : Routine). AreHappened x new) (sym same) (record { pages = h.pages; distinct = h.distinct; machine = h.machine; builder = h.builder })

    -- what the firing sent
    pub all-sent : (hs new : List Happening) → new ≡ hs ++ sent_happenings d.machine.events → HasSent page q m hs new
    all-sent hs new handed = record {
      sent = d.machine.events;
      grown = handed;
      shown =
          ap (λ (x : Routine). events_shown x.store d.machine.events) same
          ∙ goes.served.0.sent
          ∙ ap (λ es. events_shown q.store es ++ (out q.machine.params (state_of q) (fired_whole q page)).sent) can.taken;
    }

-- for each way to go on
pub none-with : (o : Option Ending) (P Q : Type 0) → IfNone o P → (P → Q) → IfNone o Q
none-with None P Q h f = f h
none-with (Some x) P Q h f = tt

pub none-so : (o : Option Ending) (Q : Type 0) → Q → IfNone o Q
none-so None Q q = q
none-so (Some x) Q q = tt
