-- How what a step does to a work goes on from step to step.
use Rattle.std.proofs.Common.{◌≡◌, refl, sym, subst, ◌∙◌, ap, ℕ, zero, suc, List, [], ◌∷◌, ◌++◌, length, take}
use Rattle.std.specs.Prelude.{false}
use Rattle.std.proofs.Math.Seq.{take-length}
use Rattle.tb_pool.specs.Lists.{Lists}
use Rattle.tb_node.specs.declared.Node.{Node}
use Rattle.tb_sheet.specs.Sheet.{PlainSent}
use Rattle.tb_output.specs.declared.RunFault.{RunFault}
use Rattle.tb_output.specs.declared.RunFault.TheVariants as faults
use Rattle.tb_output.specs.State.{Work}
use Rattle.tb_output.specs.Machine.{MachineView, state_shown, events_shown}
use Rattle.tb_output.specs.FiringWork.{ShowsWork, shows, WithoutMemory, IsCutShort, Does, Leads, Continues}

-- a fact of the events that were there before and of a work
abbrev pub Fact : Type 1
Fact = List PlainSent → Work → Type 0

-- ---- one step after another

pub does-then : (from between to : Fact) (f g : Work → Work) → Does from between f → Does between to g → Does from to (λ w. g (f w))
does-then from between to f g one two before w h = two before (f w) (one before w h)

-- works that are given by less
pub does-given : (more from to : Fact) (f : Work → Work) → ((before : List PlainSent) (w : Work) → more before w → from before w) → Does from to f → Does more to f
does-given more from to f given does before w h = does before w (given before w h)

-- a step that is the same for the works that are given
pub does-same : (from to : Fact) (f g : Work → Work) → ((before : List PlainSent) (w : Work) → from before w → f w ≡ g w) → Does from to f → Does from to g
does-same from to f g same does before w h = subst (λ v. to before v) (same before w h) (does before w h)

-- what is left of a step is done, or nothing is left
pub leads-does : (from to next : Fact) (f rest : Work → Work) → Leads from to f rest → Does to next rest → Does from next f
leads-does from to next f rest leads does before w h =
    let l = leads before w h in
    subst (λ v. next before v) (sym l.2) (does before l.0 l.1)

-- a part of what is left is done
pub leads-on : (from to next : Fact) (f rest one left : Work → Work) → Leads from to f rest → Does to next one → ((before : List PlainSent) (w : Work) → to before w → rest w ≡ left (one w)) → Leads from next f left
leads-on from to next f rest one left leads does split before w h =
    let l = leads before w h in
    (one l.0, does before l.0 l.1, l.2 ∙ split before l.0 l.1)

-- ---- a work that was cut short goes no further

-- the first so many of a list are the first so many of a longer one
first-of : (X : Type 0) (n : ℕ) (xs more : List X) → (k : ℕ) × (take n xs ≡ take k (xs ++ more))
first-of X n [] more = (0, take-none n)
  where
    take-none : (i : ℕ) → take {A = X} i [] ≡ []
    take-none zero = refl
    take-none (suc i) = refl
first-of X zero (x ∷ xs) more = (0, refl)
first-of X (suc n) (x ∷ xs) more = let later = first-of X n xs more in (suc later.0, ap (λ ys. x ∷ ys) later.1)

pub memory-on : (before : List PlainSent) (m : MachineView) (store : Lists Node) (w next : Work) → WithoutMemory before m store w → Continues w next → WithoutMemory before m store next
memory-on before m store w next h goes =
    let first = first-of PlainSent h.count w.sent goes.more in
    record { count = first.0; sent = h.sent ∙ ap (λ l. before ++ l) (first.1 ∙ ap (take first.0) (sym goes.sent)) }

pub cut-on : (e : RunFault) (before : List PlainSent) (m : MachineView) (store : Lists Node) (w next : Work) → IsCutShort e m store before w → Continues w next → IsCutShort e m store before next
cut-on (faults.DeadCycles n) before m store w next h goes = absurd h
cut-on (faults.PageLimit n) before m store w next h goes =
    let stays = goes.refused h.refused in
    record { refused = stays.0; pages = h.pages ∙ sym stays.2; sent = h.sent ∙ ap (λ l. before ++ l) (sym stays.1) }
cut-on faults.Memory before m store w next h goes = memory-on before m store w next h goes

-- steps that come after it
pub cut-then : (from : Fact) (e : RunFault) (m : MachineView) (store : Lists Node) (f g : Work → Work) → Does from (IsCutShort e m store) f → ((w : Work) → Continues w (g w)) → Does from (IsCutShort e m store) (λ w. g (f w))
cut-then from e m store f g does goes before w h = cut-on e before m store (f w) (g (f w)) (does before w h) (goes (f w))

-- there was no memory before a step: what the work sent is what was sent
pub no-memory : (m now : MachineView) (store new : Lists Node) (f : Work → Work) → events_shown new now.events ≡ events_shown store m.events → ((w : Work) → Continues w (f w)) → Does (shows m store) (IsCutShort faults.Memory now new) f
no-memory m now store new f same goes before w h =
    memory-on before now new w (f w) (record { count = length w.sent; sent = same ∙ h.sent ∙ ap (λ l. before ++ l) (sym (take-length w.sent)) }) (goes w)

-- the same with more that is given
pub no-memory_given : (from : Fact) (m now : MachineView) (store new : Lists Node) (f : Work → Work) → ((before : List PlainSent) (w : Work) → from before w → ShowsWork before m store w) → events_shown new now.events ≡ events_shown store m.events → ((w : Work) → Continues w (f w)) → Does from (IsCutShort faults.Memory now new) f
no-memory_given from m now store new f given same goes before w h = no-memory m now store new f same goes before w (given before w h)

-- ---- the work in terms of the machine

-- the work whose state is the machine's, but for the boxes and what waits
abbrev pub shown_work : MachineView → Lists Node → Work → Work
shown_work m store w = record w { state = state_shown store w.state.boxes w.state.waiting m; refused = false }

pub shown-is : (before : List PlainSent) (m : MachineView) (store : Lists Node) (w : Work) → ShowsWork before m store w → shown_work m store w ≡ w
shown-is before m store w h = λ i. record w { state = h.state i; refused = sym h.served i }

-- a step does of each work that is shown what it does of those in terms of the machine
pub does-shown : (to : Fact) (m : MachineView) (store : Lists Node) (f : Work → Work) → ((before : List PlainSent) (w : Work) → events_shown store m.events ≡ before ++ w.sent → to before (f (shown_work m store w))) → Does (shows m store) to f
does-shown to m store f k before w h = subst (λ v. to before (f v)) (shown-is before m store w h) (k before w h.sent)

-- the same for a fact of the work besides
pub does-shown_with : (given : Work → Type 0) (to : Fact) (m : MachineView) (store : Lists Node) (f : Work → Work) → ((before : List PlainSent) (w : Work) → events_shown store m.events ≡ before ++ w.sent → given (shown_work m store w) → to before (f (shown_work m store w)))
    → (before : List PlainSent) (w : Work) → ShowsWork before m store w → given w → to before (f w)
does-shown_with given to m store f k before w h g =
    let e = shown-is before m store w h in
    subst (λ v. to before (f v)) e (k before w h.sent (subst given (sym e) g))

-- the machine shows the same of another store
pub shows-moved : (m now : MachineView) (store new : Lists Node) (before : List PlainSent) (w : Work) → events_shown new now.events ≡ events_shown store m.events → state_shown new w.state.boxes w.state.waiting now ≡ state_shown store w.state.boxes w.state.waiting m → ShowsWork before m store w → ShowsWork before now new w
shows-moved m now store new before w events state h = record { served = h.served; sent = events ∙ h.sent; state = state ∙ h.state }
