-- The firing for a float or note takes the first of the current list, and puts back steady nodes.
use Rattle.std.proofs.Common.{◌≡◌, refl, sym, ◌∙◌, ap, subst, ℕ, suc, ◌≤◌, ◌⊎◌, inl, inr, Bool, true, false, List, [], ◌∷◌, ◌++◌, arith, append-nil, append_assoc}
use Rattle.std.specs.Prelude.{ℤ, int_le, if◌then◌else◌}
use Rattle.std.specs.List.{AllByRecursion}
use Rattle.tb_break.proofs.EachLemmas.{all-join}
use Rattle.tb_scaled.specs.Scaled.{eject_penalty}
use Rattle.tb_node.specs.declared.Float.{Float}
use Rattle.tb_node.specs.declared.Margin.{Margin}
use Rattle.tb_node.specs.declared.Where.{Where}
use Rattle.tb_node.specs.declared.Where.TheVariants as places
use Rattle.tb_node.specs.PlainNodes.{PlainNode}
use Rattle.tb_param.specs.declared.Params.{Params}
use Rattle.tb_float.specs.declared.Entry.{Entry}
use Rattle.tb_float.specs.declared.Entry.TheVariants as entries
use Rattle.tb_float.specs.Lists.{FloatLists}
use Rattle.tb_margin.specs.declared.Placed.{Placed}
use Rattle.tb_sheet.specs.Sheet.{PlainSent, warned}
use Rattle.tb_sheet.specs.declared.Warn.TheVariants as warnings
use Rattle.tb_output.specs.State.{Work, puts, sends, with_floats, footnotes}
use Rattle.tb_output.specs.FloatMoves
use Rattle.tb_output.specs.Text
use Rattle.tb_laws.proofs.NothingLost.StateWeights.{Paired}
use Rattle.tb_laws.proofs.Closed.SortLemmas.{Steady, sorts, sorts-append}
use Rattle.tb_laws.proofs.Closed.PlaceLemmas.{AllSteady}
use Rattle.tb_laws.proofs.Closed.PutLemmas.{between-steady, here-steady, notes-steady}
use Rattle.tb_laws.proofs.DeadCycles.BoxesFirst.{HasReal, real-left, real-right}
use Rattle.tb_laws.proofs.Closed.SparedLists.{Single, moved}

-- how many floats and notes wait to be served
abbrev pub entry_items : List Entry → ℕ
entry_items [] = 0
entry_items (entries.Float f ∷ es) = suc (entry_items es)
entry_items (entries.Left m ∷ es) = suc (entry_items es)
entry_items (entries.Right m ∷ es) = entry_items es

pub no-items : (es : List Entry) → Paired es → entry_items es ≤ 0 → es ≡ []
no-items [] q h = refl
no-items (entries.Float f ∷ es) q h = let no : ⊥ = omega arith in absurd no
no-items (entries.Left m ∷ es) q h = let no : ⊥ = omega arith in absurd no
no-items (entries.Right m ∷ es) q h = absurd q

pub steady-both : (xs ys : List PlainNode) → AllSteady xs → AllSteady ys → AllSteady (xs ++ ys)
steady-both xs ys a b = subst (AllByRecursion Steady) (sym (sorts-append xs ys)) (all-join Steady (sorts xs) (sorts ys) a b)

-- ---- nodes that are put back

-- steady nodes are put back, and the lists stay
record Writes (a c : Work) : Type 0 where
  ns : List PlainNode
  back : c.put_back ≡ a.put_back ++ ns
  steady : AllSteady ns
  floats : c.state.floats ≡ a.state.floats
  columns : c.state.two_columns ≡ a.state.two_columns

written : (a c d : Work) → Writes a c → Writes c d → Writes a d
written a c d x y = record { ns = x.ns ++ y.ns; back = y.back ∙ ap (λ l. l ++ y.ns) x.back ∙ append_assoc a.put_back x.ns y.ns; steady = steady-both x.ns y.ns x.steady y.steady; floats = y.floats ∙ x.floats; columns = y.columns ∙ x.columns }

nothing : (a c : Work) → c.put_back ≡ a.put_back → c.state.floats ≡ a.state.floats → c.state.two_columns ≡ a.state.two_columns → Writes a c
nothing a c b f t = record { ns = []; back = b ∙ sym (append-nil a.put_back); steady = tt; floats = f; columns = t }

writes_if : (a : Work) (t : Bool) (c d : Work) → Writes a c → Writes a d → Writes a (if t then c else d)
writes_if a true c d x y = x
writes_if a false c d x y = y

sends-writes : (e : PlainSent) (w : Work) → Writes w (sends e w)
sends-writes e w = writes_if w w.refused w (record w { sent = w.sent ++ e ∷ [] }) (nothing w w refl refl refl) (nothing w _ refl refl refl)

puts-writes : (ns : List PlainNode) (w : Work) → AllSteady ns → Writes w (puts ns w)
puts-writes ns w s = record { ns = ns; back = refl; steady = s; floats = refl; columns = refl }

-- ---- the first of the current list

-- these are left of the current list, steady nodes are put back, and if the here list has grown a box of the galley is among them
pub record Served (es : List Entry) (w c : Work) : Type 0 where
  pub columns : c.state.two_columns ≡ w.state.two_columns
  pub current : c.state.floats.current ≡ es
  pub single : Single w.state → Single c.state
  pub ns : List PlainNode
  pub back : c.put_back ≡ w.put_back ++ ns
  pub steady : AllSteady ns
  pub here : (c.state.floats.here ≡ w.state.floats.here) ⊎ HasReal (sorts ns)

-- the same when more was put back since
then_writes : (es : List Entry) (w c d : Work) → Served es w c → Writes c d → Served es w d
then_writes es w c d x y = record {
  columns = y.columns ∙ x.columns;
  current = ap (λ l. l.current) y.floats ∙ x.current;
  single = λ h. λ e. ap (λ l. l.double) y.floats ∙ x.single h (sym y.columns ∙ e);
  ns = x.ns ++ y.ns;
  back = y.back ∙ ap (λ l. l ++ y.ns) x.back ∙ append_assoc w.put_back x.ns y.ns;
  steady = steady-both x.ns y.ns x.steady y.steady;
  here = by_here x.here;
}
  where
    by_here : (c.state.floats.here ≡ w.state.floats.here) ⊎ HasReal (sorts x.ns) → (d.state.floats.here ≡ w.state.floats.here) ⊎ HasReal (sorts (x.ns ++ y.ns))
    by_here (inl e) = inl (ap (λ l. l.here) y.floats ∙ e)
    by_here (inr r) = inr (subst HasReal (sym (sorts-append x.ns y.ns)) (real-left (sorts x.ns) (sorts y.ns) r))

-- what is left without the first
abbrev left_of : List Entry → Work → FloatLists
left_of es w = record w.state.floats { current = es }

top-serves : (p : Params) (f : Float) (es : List Entry) (w : Work) (t : Bool) → Served es w (moved p places.Top f (left_of es w) w t)
top-serves p f es w true = record { columns = refl; current = refl; single = λ h. h; ns = []; back = sym (append-nil w.put_back); steady = tt; here = inl refl }
top-serves p f es w false = record { columns = refl; current = refl; single = λ h. h; ns = []; back = sym (append-nil w.put_back); steady = tt; here = inl refl }

bottom-serves : (p : Params) (f : Float) (es : List Entry) (w : Work) (t : Bool) → Served es w (moved p places.Bottom f (left_of es w) w t)
bottom-serves p f es w true = record { columns = refl; current = refl; single = λ h. h; ns = []; back = sym (append-nil w.put_back); steady = tt; here = inl refl }
bottom-serves p f es w false = record { columns = refl; current = refl; single = λ h. h; ns = []; back = sym (append-nil w.put_back); steady = tt; here = inl refl }

deferred-serves : (p : Params) (f : Float) (es : List Entry) (w : Work) → Served es w (FloatMoves.place_float p places.Deferred f (left_of es w) w)
deferred-serves p f es w = record { columns = refl; current = refl; single = λ h. h; ns = []; back = sym (append-nil w.put_back); steady = tt; here = inl refl }

defer-serves : (p : Params) (f : Float) (es : List Entry) (w : Work) → Served es w (Text.defer p f (left_of es w) w)
defer-serves p f es w = by_places (Text.only_here f)
  where
    by_places : (t : Bool) → Served es w (if t then sends (warned (warnings.Ht f.name)) (FloatMoves.place_float p places.Deferred (Text.with_top f) (left_of es w) w) else FloatMoves.place_float p places.Deferred f (left_of es w) w)
    by_places true = then_writes es w _ _ (deferred-serves p (Text.with_top f) es w) (sends-writes (warned (warnings.Ht f.name)) _)
    by_places false = deferred-serves p f es w

module _ (p : Params) (calm : int_le p.interlinepenalty eject_penalty ≡ false) where
  interline-writes : (nobreak : Bool) (w : Work) → Writes w (Text.puts_interline p nobreak w)
  interline-writes nobreak w = puts-writes (Text.penalty_between p.interlinepenalty nobreak w.put_back) w (between-steady [] p calm nobreak w.put_back)

  after-steady : (nobreak : Bool) (w : Work) → AllSteady (Text.penalty_between p.interlinepenalty nobreak w.put_back)
  after-steady nobreak w = between-steady [] p calm nobreak w.put_back

  -- a float that goes into the text
  here-now : (vert : Bool) (f : Float) (es : List Entry) (w : Work) (t : Bool) → Served es w (puts (Text.here_nodes p vert f) (Text.puts_interline p f.nobreak (moved p places.Here f (left_of es w) w t)))
  here-now vert f es w true =
      let ms = Text.penalty_between p.interlinepenalty f.nobreak w.put_back in
      record { columns = refl; current = refl; single = λ h. h; ns = ms ++ Text.here_nodes p vert f; back = append_assoc w.put_back ms (Text.here_nodes p vert f); steady = steady-both ms (Text.here_nodes p vert f) (after-steady f.nobreak w) (here-steady [] p calm vert f); here = inr (subst HasReal (sym (sorts-append ms (Text.here_nodes p vert f))) (real-right (sorts ms) (sorts (Text.here_nodes p vert f)) tt)) }
  here-now vert f es w false =
      let ms = Text.penalty_between p.interlinepenalty f.nobreak w.put_back in
      record { columns = refl; current = refl; single = λ h. h; ns = ms ++ Text.here_nodes p vert f; back = append_assoc w.put_back ms (Text.here_nodes p vert f); steady = steady-both ms (Text.here_nodes p vert f) (after-steady f.nobreak w) (here-steady [] p calm vert f); here = inr (subst HasReal (sym (sorts-append ms (Text.here_nodes p vert f))) (real-right (sorts ms) (sorts (Text.here_nodes p vert f)) tt)) }

  then_interline : (nobreak : Bool) (es : List Entry) (w c : Work) → Served es w c → Served es w (Text.puts_interline p nobreak c)
  then_interline nobreak es w c x = then_writes es w c (Text.puts_interline p nobreak c) x (interline-writes nobreak c)

  goes-serves : (vert : Bool) (f : Float) (es : List Entry) (w : Work) (place : Where) → Served es w (Text.float_goes p vert f (left_of es w) w place)
  goes-serves vert f es w places.Here = here-now vert f es w w.refused
  goes-serves vert f es w places.Top = then_interline f.nobreak es w _ (top-serves p f es w w.refused)
  goes-serves vert f es w places.Bottom = then_interline f.nobreak es w _ (bottom-serves p f es w w.refused)
  goes-serves vert f es w place = then_interline f.nobreak es w _ (defer-serves p f es w)

  -- a note goes into the text
  note-serves : (depth : ℤ) (m : Margin) (es : List Entry) (w : Work) (at : Placed) → Served es w (Text.note_goes p depth m (left_of es w) w at)
  note-serves depth m es w at =
      let a = Text.with_note_bottom at.bottom (with_floats (left_of es w) w) in
      let b = Text.moved_warning m at a in
      let c = puts (Text.note_nodes depth m at) b in
      let x : Served es w a = record { columns = refl; current = refl; single = λ h. h; ns = []; back = sym (append-nil w.put_back); steady = tt; here = inl refl } in
      let y : Writes a b = writes_if a at.moved (sends (warned (warnings.Moved m.name at.shift)) a) a (sends-writes _ a) (nothing a a refl refl refl) in
      then_interline m.nobreak es w c (then_writes es w b c (then_writes es w a b x y) (puts-writes (Text.note_nodes depth m at) b (tt, (tt, (tt, tt)))))

  -- the first of the current list is served
  pub record FirstServed (w c : Work) : Type 0 where
    pub columns : c.state.two_columns ≡ w.state.two_columns
    pub items : (j : ℕ) → entry_items w.state.floats.current ≤ suc j → entry_items c.state.floats.current ≤ j
    pub single : Single w.state → Single c.state
    pub ns : List PlainNode
    pub back : c.put_back ≡ w.put_back ++ ns
    pub steady : AllSteady ns
    pub here : (c.state.floats.here ≡ w.state.floats.here) ⊎ HasReal (sorts ns)

  fewer : (es : List Entry) (w c : Work) → Served es w c → ((j : ℕ) → entry_items w.state.floats.current ≤ suc j → entry_items es ≤ j) → FirstServed w c
  fewer es w c x h = record { columns = x.columns; items = λ j l. subst (λ z. entry_items z ≤ j) (sym x.current) (h j l); single = x.single; ns = x.ns; back = x.back; steady = x.steady; here = x.here }

  kept-fewer : (w c : Work) → Writes w c → w.state.floats.current ≡ [] → FirstServed w c
  kept-fewer w c x e = record { columns = x.columns; items = λ j l. subst (λ z. entry_items z ≤ j) (sym (ap (λ l. l.current) x.floats ∙ e)) (omega arith); single = λ h. λ t. ap (λ l. l.double) x.floats ∙ h (sym x.columns ∙ t); ns = x.ns; back = x.back; steady = x.steady; here = inl (ap (λ l. l.here) x.floats) }

  first-serves : (vert : Bool) (height depth page_height : ℤ) (es : List Entry) (w : Work) → Paired es → w.state.floats.current ≡ es → FirstServed w (Text.first_goes p vert height depth page_height es w)
  first-serves vert height depth page_height (entries.Float f ∷ es) w q e =
      let n : entry_items w.state.floats.current ≡ suc (entry_items es) = ap entry_items e in
      fewer es w _ (goes-serves vert f es w _) (λ j l. omega arith)
  first-serves vert height depth page_height (entries.Left m ∷ []) w q e = absurd q
  first-serves vert height depth page_height (entries.Left m ∷ x ∷ es) w q e =
      let n : entry_items w.state.floats.current ≡ suc (entry_items (x ∷ es)) = ap entry_items e in
      fewer es w _ (note-serves depth m es w _) (λ j l. let k : entry_items es ≤ entry_items (x ∷ es) = no-more x es in omega arith)
    where
      no-more : (x : Entry) (es : List Entry) → entry_items es ≤ entry_items (x ∷ es)
      no-more (entries.Float f) es = omega arith
      no-more x es = omega arith
  first-serves vert height depth page_height (entries.Right m ∷ es) w q e = absurd q
  first-serves vert height depth page_height [] w q e = kept-fewer w _ (interline-writes false w) e

  -- the firing for a float or note: its page's list, with the held page before it, goes back
  pub record Serves (w c : Work) (before : List PlainNode) : Type 0 where
    pub columns : c.state.two_columns ≡ w.state.two_columns
    pub items : (j : ℕ) → entry_items w.state.floats.current ≤ suc j → entry_items c.state.floats.current ≤ j
    pub single : Single w.state → Single c.state
    pub ns : List PlainNode
    pub back : c.put_back ≡ w.put_back ++ (before ++ ns)
    pub steady : AllSteady ns
    pub here : (c.state.floats.here ≡ w.state.floats.here) ⊎ HasReal (sorts ns)

  pub float_or_note-serves : (vert : Bool) (body : List PlainNode) (w : Work) → Paired w.state.floats.current → Serves w (Text.float_or_note p vert body w) (w.state.held_page ++ Text.without_firing_box body)
  float_or_note-serves vert body w q =
      let ns = w.state.held_page ++ Text.without_firing_box body in
      let a = Text.list_back p ns w in
      let notes = Text.notes_nodes p (footnotes w.state) in
      let x : FirstServed a (Text.float_or_note p vert body w) = first-serves vert _ _ _ w.state.floats.current a q refl in
      record {
        columns = x.columns;
        items = x.items;
        single = x.single;
        ns = notes ++ x.ns;
        back = x.back ∙ append_assoc w.put_back (ns ++ notes) x.ns ∙ ap (λ l. w.put_back ++ l) (append_assoc ns notes x.ns);
        steady = steady-both notes x.ns (notes-steady [] p calm (footnotes w.state)) x.steady;
        here = by_here notes x.ns x.here;
      }
    where
      by_here : {c d : List Float} (ms ns : List PlainNode) → (c ≡ d) ⊎ HasReal (sorts ns) → (c ≡ d) ⊎ HasReal (sorts (ms ++ ns))
      by_here ms ns (inl e) = inl e
      by_here ms ns (inr r) = inr (subst HasReal (sym (sorts-append ms ns)) (real-right (sorts ms) (sorts ns) r))
