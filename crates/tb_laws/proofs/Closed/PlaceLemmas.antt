-- After a firing what waits is well formed again.
use Rattle.std.proofs.Common.{◌≡◌, refl, sym, ◌∙◌, ap, subst, ℕ, zero, suc, ℤ, Bool, true, false, List, [], ◌∷◌, ◌++◌, map, take, length, arith, append_assoc}
use Rattle.std.specs.Prelude.{int_le, ◌||◌, ◌-◌, pos, if◌then◌else◌}
use Rattle.std.specs.List.{AllByRecursion}
use Rattle.tb_scaled.specs.Scaled.{eject_penalty}
use Rattle.tb_node.specs.PlainNodes.{PlainKind, plain, ins, act, PlainNode, node_shape, without_insertions}
use Rattle.tb_break.specs.Split.{split_of}
use Rattle.tb_param.specs.declared.Params.{Params}
use Rattle.tb_builder.specs.FiredPages.{Fired}
use Rattle.tb_builder.proofs.Cutting.CutLemmas.{Calm, AllCalm, ActFree, AllFree, IsIns, AllIns, inserted-class}
use Rattle.tb_column.specs.Column.{standing_notes}
use Rattle.tb_output.specs.State.{State, Work, begun, footnotes}
use Rattle.tb_output.specs.Columns
use Rattle.tb_output.specs.Text
use Rattle.tb_output.specs.Clear
use Rattle.tb_output.specs.Output
use Rattle.tb_sheet.specs.Asked
use Rattle.tb_laws.proofs.Closed.BareFeet.{HoldBare, BoxesBare, AllPlaced, all-placed, placed-both, placed-take}
use Rattle.tb_laws.proofs.StepLaws.BreakSorts.{at-ordinary, at-clear, at-serve, at-hold}
use Rattle.tb_laws.proofs.Closed.SortLemmas.{Sort, Seen, none, many, Stands, Steady, BreakStands, pen_sort, kind_sort, sorts, sorts-append, kind-steady, fewer}
use Rattle.tb_laws.proofs.NothingLost.StateWeights.{class_numbers}
use Rattle.tb_laws.proofs.Closed.PutLemmas.{AreAmong, Opens, Puts, Begins, ordinary-puts, clear_by-puts, serve-puts, goal-puts, steady-extends}

abbrev pub AllSteady : List PlainNode → Type 0
AllSteady ns = AllByRecursion Steady (sorts ns)

-- what waits is well formed, the held page forces no break, and all insertions are of the classes that have boxes
pub record WellPlaced (s : State) : Type 0 where
  pub held : Bool
  pub stands : Stands none held (sorts s.waiting)
  pub free : held ≡ false → s.held_page ≡ []
  pub steady : AllSteady s.held_page
  pub feet : AllPlaced (class_numbers s.classes) s.waiting
  pub held_feet : AllPlaced (class_numbers s.classes) s.held_page

-- ---- the page's list

body-more : (l : ℕ) (k : PlainKind) (ns : List PlainNode) → Calm k → ActFree k → AllSteady (without_insertions ns) → AllSteady (without_insertions (record { line = l; kind = k } ∷ ns))
body-more l (plain m) ns c f h = (kind-steady (plain m) c f, h)
body-more l (ins i) ns c f h = h
body-more l (act a) ns c f h = absurd f

pub body-steady : (ns : List PlainNode) → AllCalm ns → AllFree ns → AllSteady (without_insertions ns)
body-steady [] c f = tt
body-steady (n ∷ ns) c f = body-more n.line n.kind ns c.0 f.0 (body-steady ns c.1 f.1)

pub take-steady : (k : ℕ) (ns : List PlainNode) → AllSteady ns → AllSteady (take k ns)
take-steady zero ns h = tt
take-steady (suc k) [] h = tt
take-steady (suc k) (n ∷ ns) h = (h.0, take-steady k ns h.1)

none-more : (ks : List ℕ) (l : ℕ) (k : PlainKind) (ns : List PlainNode) → AllPlaced ks (without_insertions ns) → AllPlaced ks (without_insertions (record { line = l; kind = k } ∷ ns))
none-more ks l (plain m) ns h = (tt, h)
none-more ks l (ins i) ns h = h
none-more ks l (act a) ns h = (tt, h)

pub body-class : (ks : List ℕ) (ns : List PlainNode) → AllPlaced ks (without_insertions ns)
body-class ks [] = tt
body-class ks (n ∷ ns) = none-more ks n.line n.kind ns (body-class ks ns)

-- ---- the rest, by the penalty

ordinary-rest : (b : Bool) (s : Seen) (rest : List PlainNode) (q : ℤ) → int_le eject_penalty q ≡ true → BreakStands b s rest (pen_sort q) → Stands none b (sorts rest)
ordinary-rest b s rest q h r = at-ordinary (Stands none b (sorts rest)) (BreakStands b s rest) q h (λ r. r) (λ r. r) r

clear-rest : (b : Bool) (s : Seen) (rest : List PlainNode) (q : ℤ) → int_le eject_penalty q ≡ false → Output.is_int q Asked.clear_penalty ≡ true → BreakStands b s rest (pen_sort q) → (b ≡ false) × Stands many false (sorts rest)
clear-rest b s rest q h k r = at-clear ((b ≡ false) × Stands many false (sorts rest)) (BreakStands b s rest) q h k (λ r. (r.1, r.2)) r

serve-rest : (b : Bool) (s : Seen) (rest : List PlainNode) (q : ℤ) → int_le eject_penalty q ≡ false → Output.is_int q Asked.clear_penalty ≡ false → (Output.is_int q Asked.par_penalty || Output.is_int q Asked.vert_penalty) ≡ true → BreakStands b s rest (pen_sort q) → Stands many false (sorts rest)
serve-rest b s rest q h k l r = at-serve (Stands many false (sorts rest)) (BreakStands b s rest) q h k l (λ r. r.1) r

hold-rest : (b : Bool) (s : Seen) (rest : List PlainNode) (q : ℤ) → int_le eject_penalty q ≡ false → Output.is_int q Asked.clear_penalty ≡ false → (Output.is_int q Asked.par_penalty || Output.is_int q Asked.vert_penalty) ≡ false → BreakStands b s rest (pen_sort q) → Stands none true (sorts rest)
hold-rest b s rest q h k l r = at-hold (Stands none true (sorts rest)) (BreakStands b s rest) q h k l (λ r. r.1) (λ r. absurd r) r

-- ---- a firing

-- what is put back opens for the rest
pub record Ready (ks : List ℕ) (w : Work) (rest : List PlainNode) : Type 0 where
  pub held : Bool
  pub seen : Seen
  pub begins : Begins seen
  pub opens : Opens ks seen held w.put_back
  pub stands : Stands seen held (sorts rest)
  pub free : held ≡ false → w.state.held_page ≡ []
  pub steady : AllSteady w.state.held_page
  pub held_feet : AllPlaced ks w.state.held_page
  pub classes : class_numbers w.state.classes ≡ ks

module _ (ks : List ℕ) (p : Params) (calm : int_le p.interlinepenalty eject_penalty ≡ false) (f : Fired) (b : Bool) (s : Seen) (body : AllSteady f.body) (rest : BreakStands b s f.rest (pen_sort f.penalty)) (w : Work) (begun : w.put_back ≡ []) (free : b ≡ false → w.state.held_page ≡ []) (steady : AllSteady w.state.held_page) (body_feet : AllPlaced ks f.body) (held_feet : AllPlaced ks w.state.held_page) (numbers : class_numbers w.state.classes ≡ ks) (among : AreAmong ks w.state.classes) (bare : BoxesBare w.state.boxes) where
  opens : (t : Seen) (c : Bool) → ((ys : List Sort) → Stands t c ys → Stands none c ys) → Opens ks t c w.put_back
  opens t c h = record { by = λ ys k. subst (λ l. Stands none c (sorts l ++ ys)) (sym begun) (h ys k); feet = subst (AllPlaced ks) (sym begun) tt }

  at_ordinary : int_le eject_penalty f.penalty ≡ true → Ready ks (Columns.ordinary p f.body w) f.rest
  at_ordinary h =
      let x : Puts ks none b w (Columns.ordinary p f.body w) = ordinary-puts ks none b p f.body w in
      record {
        held = b;
        seen = none;
        begins = tt;
        opens = x.opens (opens none b (λ ys k. k));
        stands = ordinary-rest b s f.rest f.penalty h rest;
        free = λ k. x.held ∙ free k;
        steady = subst AllSteady (sym x.held) steady;
        held_feet = subst (AllPlaced ks) (sym x.held) held_feet;
        classes = ap class_numbers x.classes ∙ numbers;
      }

  at_clear : int_le eject_penalty f.penalty ≡ false → Output.is_int f.penalty Asked.clear_penalty ≡ true → Ready ks (Clear.clear p f.body w) f.rest
  at_clear h k =
      let r : (b ≡ false) × Stands many false (sorts f.rest) = clear-rest b s f.rest f.penalty h k rest in
      let x : Puts ks many false w (Clear.clear p f.body w) = clear_by-puts ks p f.body w (standing_notes (footnotes w.state)) (steady-extends ks (Clear.cleared_front p f.body) (take-steady (split_of (pos 0) p.splitmaxdepth (map node_shape f.body)).index f.body body) (placed-take ks (split_of (pos 0) p.splitmaxdepth (map node_shape f.body)).index f.body body_feet)) in
      record {
        held = false;
        seen = many;
        begins = tt;
        opens = x.opens (opens many false (λ ys k. fewer none false ys k));
        stands = r.1;
        free = λ k. x.held ∙ free r.0;
        steady = subst AllSteady (sym x.held) steady;
        held_feet = subst (AllPlaced ks) (sym x.held) held_feet;
        classes = ap class_numbers x.classes ∙ numbers;
      }

  at_serve : (vert : Bool) → int_le eject_penalty f.penalty ≡ false → Output.is_int f.penalty Asked.clear_penalty ≡ false → (Output.is_int f.penalty Asked.par_penalty || Output.is_int f.penalty Asked.vert_penalty) ≡ true → Ready ks (Text.float_or_note p vert f.body w) f.rest
  at_serve vert h k l =
      let x = serve-puts ks p calm vert f.body w among bare (steady-extends ks w.state.held_page steady held_feet) (steady-extends ks (Text.without_firing_box f.body) (take-steady (length f.body - 2) f.body body) (placed-take ks (length f.body - 2) f.body body_feet)) (opens many false (λ ys k. fewer none false ys k)) in
      record {
        held = false;
        seen = many;
        begins = tt;
        opens = x.0;
        stands = serve-rest b s f.rest f.penalty h k l rest;
        free = λ k. x.1;
        steady = subst AllSteady (sym x.1) tt;
        held_feet = subst (AllPlaced ks) (sym x.1) tt;
        classes = ap class_numbers x.2 ∙ numbers;
      }

  at_hold : int_le eject_penalty f.penalty ≡ false → Output.is_int f.penalty Asked.clear_penalty ≡ false → (Output.is_int f.penalty Asked.par_penalty || Output.is_int f.penalty Asked.vert_penalty) ≡ false → Ready ks (Output.hold f.body w) f.rest
  at_hold h k l =
      record {
        held = true;
        seen = none;
        begins = tt;
        opens = opens none true (λ ys k. k);
        stands = hold-rest b s f.rest f.penalty h k l rest;
        free = λ k. let no : ⊥ = grind (arith, k) in absurd no;
        steady = body;
        held_feet = body_feet;
        classes = numbers;
      }

  output-ready : Ready ks (Output.output_by p f w) f.rest
  output-ready = by_penalty (int_le eject_penalty f.penalty) (Output.is_int f.penalty Asked.clear_penalty) (Output.is_int f.penalty Asked.par_penalty) (Output.is_int f.penalty Asked.vert_penalty) at_ordinary at_clear (at_serve false) (at_serve true) at_hold
    where
      by_penalty : (t c x y : Bool) → (t ≡ true → Ready ks (Columns.ordinary p f.body w) f.rest) → (t ≡ false → c ≡ true → Ready ks (Clear.clear p f.body w) f.rest) → (t ≡ false → c ≡ false → (x || y) ≡ true → Ready ks (Text.float_or_note p false f.body w) f.rest) → (t ≡ false → c ≡ false → (x || y) ≡ true → Ready ks (Text.float_or_note p true f.body w) f.rest) → (t ≡ false → c ≡ false → (x || y) ≡ false → Ready ks (Output.hold f.body w) f.rest) → Ready ks (if t then Columns.ordinary p f.body w else (if c then Clear.clear p f.body w else (if x then Text.float_or_note p false f.body w else (if y then Text.float_or_note p true f.body w else Output.hold f.body w)))) f.rest
      by_penalty true c x y h i j k l = h refl
      by_penalty false true x y h i j k l = i refl refl
      by_penalty false false true y h i j k l = j refl refl refl
      by_penalty false false false true h i j k l = k refl refl refl
      by_penalty false false false false h i j k l = l refl refl refl

ins-more : (ks : List ℕ) (l : ℕ) (k : PlainKind) (ns : List PlainNode) (ys : List Sort) (b : Bool) → IsIns ks k → Stands none b (sorts ns ++ ys) → Stands none b (kind_sort k ∷ sorts ns ++ ys)
ins-more ks l (plain m) ns ys b i h = absurd i
ins-more ks l (ins x) ns ys b i h = (tt, h)
ins-more ks l (act a) ns ys b i h = absurd i

ins-stands : (ks : List ℕ) (ns : List PlainNode) (ys : List Sort) (b : Bool) → AllIns ks ns → Stands none b ys → Stands none b (sorts ns ++ ys)
ins-stands ks [] ys b i h = h
ins-stands ks (n ∷ ns) ys b i h = ins-more ks n.line n.kind ns ys b i.0 (ins-stands ks ns ys b i.1 h)

ready-placed : (ks : List ℕ) (p : Params) (f : Fired) (w : Work) → AllIns ks f.held → HoldBare f.held → AllPlaced ks f.rest → Ready ks w f.rest → WellPlaced (Output.waiting_again f (Output.next_goal p f.penalty w)).state
ready-placed ks p f w i j g r = all (Output.next_goal p f.penalty w) (goal-puts ks r.seen r.held r.begins p f.penalty w)
  where
    all : (c : Work) → Puts ks r.seen r.held w c → WellPlaced (Output.waiting_again f c).state
    all c x =
        let same : ks ≡ class_numbers c.state.classes = sym (ap class_numbers x.classes ∙ r.classes) in
        let o : Opens ks r.seen r.held c.put_back = x.opens r.opens in
        record {
          held = r.held;
          stands = subst (Stands none r.held) (sym (parts c)) (ins-stands ks f.held (sorts c.put_back ++ sorts f.rest) r.held i (o.by (sorts f.rest) r.stands));
          free = λ k. x.held ∙ r.free k;
          steady = subst AllSteady (sym x.held) r.steady;
          feet = subst (λ ms. AllPlaced ms (f.held ++ c.put_back ++ f.rest)) same (placed-both ks (f.held ++ c.put_back) f.rest (placed-both ks f.held c.put_back (all-placed ks f.held (inserted-class ks f.held i) j) o.feet) g);
          held_feet = subst (λ ms. AllPlaced ms c.state.held_page) same (subst (AllPlaced ks) (sym x.held) r.held_feet);
        }
      where
        parts : (c : Work) → sorts (f.held ++ c.put_back ++ f.rest) ≡ sorts f.held ++ (sorts c.put_back ++ sorts f.rest)
        parts c = sorts-append (f.held ++ c.put_back) f.rest ∙ ap (λ l. l ++ sorts f.rest) (sorts-append f.held c.put_back) ∙ append_assoc (sorts f.held) (sorts c.put_back) (sorts f.rest)

-- after a firing what waits is well formed again, if the interline penalty forces no break
pub out-placed : (ks : List ℕ) (p : Params) → int_le p.interlinepenalty eject_penalty ≡ false → (st : State) (f : Fired) (b : Bool) (s : Seen) → (b ≡ false → st.held_page ≡ []) → AllSteady st.held_page → AllPlaced ks st.held_page → AllSteady f.body → AllPlaced ks f.body → AllIns ks f.held → HoldBare f.held → AllPlaced ks f.rest → BreakStands b s f.rest (pen_sort f.penalty) → class_numbers st.classes ≡ ks → AreAmong ks st.classes → BoxesBare f.boxes → WellPlaced (Output.out p st f).state
unfolding Output.out
out-placed ks p calm st f b s free steady held_feet body body_feet i j g rest numbers among bare =
    ready-placed ks p f (Output.output_by p f (begun (Output.after_page st f))) i j g (output-ready ks p calm f b s body rest (begun (Output.after_page st f)) refl free steady body_feet held_feet numbers among bare)
