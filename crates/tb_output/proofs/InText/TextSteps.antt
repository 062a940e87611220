-- The first float or marginal note gets its place: the steps of the work.
use Rattle.std.proofs.Common.{◌≡◌, refl, sym, subst, ◌∙◌, ap, ℕ, suc, ℤ, Bool, true, false, List, [], ◌∷◌, ◌++◌, map, drop, length, length-append, Option, Some, None, pos, arith}
use Rattle.std.specs.Prelude.{if◌then◌else◌, OnSome, IfNone}
use Rattle.std.specs.List.{slice_get, slice_set}
use Rattle.std.proofs.lemmas.Int.{ints}
use Rattle.std.proofs.lemmas.List.{length-set}
use Rattle.std.proofs.lemmas.List.Elements.{All-from_recursion}
use Rattle.tb_scaled.specs.declared.Glue.{Glue}
use Rattle.tb_pool.specs.declared.ListId.{ListId}
use Rattle.tb_pool.specs.Lists.{Lists, list_at}
use Rattle.tb_node.specs.declared.Float.{Float}
use Rattle.tb_node.specs.declared.Margin.{Margin}
use Rattle.tb_node.specs.declared.Kind.{Kind}
use Rattle.tb_node.specs.declared.Kind.TheVariants as kinds
use Rattle.tb_node.specs.declared.Node.{Node}
use Rattle.tb_node.specs.declared.Where.{Where}
use Rattle.tb_node.specs.declared.Where.TheVariants as places
use Rattle.tb_node.specs.PlainNodes.{PlainKind, plain, pen, PlainNode, plain_kind, plain_of, plain_list}
use Rattle.tb_node.specs.Fit.{IsExtent, IsPenalty, IsSizedNode}
use Rattle.tb_param.specs.declared.Params.{Params}
use Rattle.tb_break.specs.Places.{last_or}
use Rattle.tb_float.specs.declared.Entry.{Entry}
use Rattle.tb_float.specs.declared.Entry.TheVariants as entries
use Rattle.tb_float.specs.declared.Part.{Part}
use Rattle.tb_float.specs.declared.Part.TheVariants as parts
use Rattle.tb_float.specs.Lists.{FloatLists, without_place, live_count, HasFloatAt}
use Rattle.tb_float.specs.Pool.{FloatPool, HasNoMarks, moved_float, with_float_at, without_entry}
use Rattle.tb_margin.specs.declared.Placed.{Placed}
use Rattle.tb_margin.specs.Margin.{placed_note}
use Rattle.tb_sheet.specs.declared.Warn.{Warn}
use Rattle.tb_sheet.specs.declared.Warn.TheVariants as warnings
use Rattle.tb_sheet.specs.declared.Sent.TheVariants as events
use Rattle.tb_sheet.specs.Sheet.{PlainSent, warned}
use Rattle.tb_column.specs.Ranges.{IsSizedGlue}
use Rattle.tb_column.specs.Column.{float_depth}
use Rattle.tb_column.specs.FloatColumns.{made_node}
use Rattle.tb_column.proofs.FloatLemmas.{negated_dimension}
use Rattle.tb_output.specs.declared.texts.TextSize.{TextSize}
use Rattle.tb_output.specs.State.{Work, puts, sends, with_floats}
use Rattle.tb_output.specs.FloatMoves.{joined_to, place_float}
use Rattle.tb_output.specs.Text.{glue_at_end, penalty_nodes, penalty_after, penalty_between, puts_interline, here_nodes, note_nodes, only_here, with_top, defer, moved_warning, with_note_bottom, note_goes}
use Rattle.tb_output.specs.BackList.{glue_of_kind, last_glue, interline_by, interline_list, between_list, here_list, note_list}
use Rattle.tb_output.specs.Machine.{MachineView, IsMachine, AreOutputParams}
use Rattle.tb_output.specs.Events.{HasRoomFor}
use Rattle.tb_output.specs.PageChanges.{with_warning}
use Rattle.tb_output.specs.FiringParts.{IsColumnPart, IsAreaPart, place_of, without_first, without_note, HasDeferred, float_placed, note_placed}
use Rattle.tb_output.specs.declared.RunFault.{RunFault}
use Rattle.tb_output.specs.declared.RunFault.TheVariants as faults
use Rattle.tb_output.specs.FiringWork.{ShowsBack, shows_back, IsCutShort, Does, Continues}
use Rattle.tb_output.specs.MachineFrame.{HasFloats, HasGrown, IsBack, back_lists, KeepsBack}
use Rattle.tb_sheet.proofs.ListsApart.{apart-none}
use Rattle.tb_output.proofs.FiringWork.KeepLemmas.{MayGoBack, keeps-back_alone, keeps-back_same}
use Rattle.tb_output.proofs.InText.PushLemmas.{last-sized}
use Rattle.tb_output.proofs.FiringWork.BesideLemmas.{machine-beside}
use Rattle.tb_output.proofs.FiringWork.WorkingLemmas.{does-then, does-shown_with}
use Rattle.tb_output.proofs.Acts.WarnLemmas.{shown-joined}
use Rattle.tb_output.proofs.StepLaws.WorkSteps.{continues-same, continues-puts, continues-float_goes, continues-note_goes}
use Rattle.tb_output.proofs.FiringWork.StepLemmas.{Done, Cut, keeps-on, done-then, then-cut, cut-short, no-room, done-same, done-puts, done-warned, moved-keeps, moved-shows}

-- ---- the interline penalty

module _ (held : ListId → List Node) where
  glue-kind : (k : Kind) → glue_at_end (plain_kind held k) ≡ glue_of_kind k
  glue-kind (kinds.Hbox what h d) = refl
  glue-kind k = refl

  glue-after : (d : PlainKind) (o : Option Glue) (ns : List Node) → glue_at_end d ≡ o → glue_at_end (last_or d (map (λ (m : PlainNode). m.kind) (map (plain_of held) ns))) ≡ last_or o (map (λ (n : Node). glue_of_kind n.kind) ns)
  glue-after d o [] e = e
  glue-after d o (n ∷ ns) e = glue-after (plain_kind held n.kind) (glue_of_kind n.kind) ns (glue-kind n.kind)

  penalty-shown : (n : ℤ) (o : Option Glue) → map (plain_of held) (interline_by n o) ≡ penalty_nodes n o
  penalty-shown n None = refl
  penalty-shown n (Some g) = refl

  interline-shown : (n : ℤ) (ns : List Node) → map (plain_of held) (interline_list n ns) ≡ penalty_after n (map (plain_of held) ns)
  interline-shown n ns = penalty-shown n (last_glue ns) ∙ ap (penalty_nodes n) (sym (glue-after (plain (pen n)) None ns refl))

interline-may : (n : ℤ) (o : Option Glue) → IsPenalty n → ((g : Glue) → o ≡ Some g → IsSizedGlue g) → MayGoBack (interline_by n o)
interline-may n None small glue = record {
  leaves = (tt, tt);
  sized = All-from_recursion IsSizedNode (interline_by n None) (small, tt);
}
interline-may n (Some g) small glue =
    let h = glue g refl in
    record {
      leaves = (tt, (tt, (tt, tt)));
      sized = All-from_recursion IsSizedNode (interline_by n (Some g))
          ((negated_dimension g.width h.width, negated_dimension g.stretch h.stretch, negated_dimension g.shrink h.shrink), (small, ((h.width, h.stretch, h.shrink), tt)));
    }

-- a penalty of 10000 may go back
nobreak-may : MayGoBack (made_node (kinds.Pen (pos 10000)) ∷ [])
nobreak-may = record {
  leaves = (tt, tt);
  sized = All-from_recursion IsSizedNode (made_node (kinds.Pen (pos 10000)) ∷ []) (record { low = omega (arith, ints); high = omega (arith, ints) }, tt);
}

between-may : (n : ℤ) (nobreak : Bool) (ns : List Node) → MayGoBack (interline_list n ns) → MayGoBack (between_list n nobreak ns)
between-may n true ns h = nobreak-may
between-may n false ns h = h

between-shown : (held : ListId → List Node) (n : ℤ) (nobreak : Bool) (ns : List Node) → map (plain_of held) (between_list n nobreak ns) ≡ penalty_between n nobreak (map (plain_of held) ns)
between-shown held n true ns = refl
between-shown held n false ns = interline-shown held n ns

pub interline-done : (l : ℕ) (m : MachineView) (store new : Lists Node) (nobreak : Bool) → IsMachine m store → IsBack l m store → HasGrown l (between_list m.params.interlinepenalty nobreak (list_at store l)) [] store new → Done l m m store new (puts_interline m.params nobreak)
interline-done l m store new nobreak is back grown =
    let n = m.params.interlinepenalty in
    let may = between-may n nobreak (list_at store l) (interline-may n (last_glue (list_at store l)) is.params.interlinepenalty (λ g e. last-sized (list_at store l) g back.sized e)) in
    let pn = penalty_between n nobreak (plain_list store l) in
    done-same l m m store new (puts pn) (puts_interline m.params nobreak)
    (λ before w h. ap (λ ns. puts (penalty_between n nobreak ns) w) h.1)
    (done-puts l (between_list n nobreak (list_at store l)) m store new is back grown may pn (between-shown (list_at store) n nobreak (list_at store l)))

-- ---- a float in the text, and a marginal note

float-extent : (f : Float) → IsExtent (float_depth f)
float-extent f = by_depth f.deep
  where
    by_depth : (deep : Bool) → IsExtent (if deep then pos 1 else pos 0)
    by_depth true = record { low = omega (arith, ints); high = omega (arith, ints) }
    by_depth false = record { low = omega (arith, ints); high = omega (arith, ints) }

here-may : (p : Params) (vert : Bool) (f : Float) → AreOutputParams p → IsExtent f.height → MayGoBack (here_list p vert f)
here-may p true f h extent = record {
  leaves = (tt, (tt, (tt, (tt, (tt, tt)))));
  sized = All-from_recursion IsSizedNode (here_list p true f) (
    (h.intextsep.width, h.intextsep.stretch, h.intextsep.shrink),
    (
      (extent, float-extent f),
      (
        h.interlinepenalty,
        (
          (h.intextsep.width, h.intextsep.stretch, h.intextsep.shrink),
          ((negated_dimension p.parskip.width h.parskip.width, negated_dimension p.parskip.stretch h.parskip.stretch, negated_dimension p.parskip.shrink h.parskip.shrink), tt),
        ),
      ),
    ),
  );
}
here-may p false f h extent = record {
  leaves = (tt, (tt, (tt, (tt, tt))));
  sized = All-from_recursion IsSizedNode (here_list p false f)
      ((h.intextsep.width, h.intextsep.stretch, h.intextsep.shrink), ((extent, float-extent f), (h.interlinepenalty, ((h.intextsep.width, h.intextsep.stretch, h.intextsep.shrink), tt))));
}

here-shown : (held : ListId → List Node) (p : Params) (vert : Bool) (f : Float) → map (plain_of held) (here_list p vert f) ≡ here_nodes p vert f
here-shown held p true f = refl
here-shown held p false f = refl

pub here-done : (l : ℕ) (m : MachineView) (store new : Lists Node) (vert : Bool) (f : Float) → IsMachine m store → IsBack l m store → IsExtent f.height → HasGrown l (here_list m.params vert f) [] store new → Done l m m store new (puts (here_nodes m.params vert f))
here-done l m store new vert f is back extent grown =
    done-puts l (here_list m.params vert f) m store new is back grown (here-may m.params vert f is.params extent) (here_nodes m.params vert f) (here-shown (list_at store) m.params vert f)

note-may : (depth : ℤ) (m : Margin) (at : Placed) → IsExtent depth → MayGoBack (note_list depth m at)
note-may depth m at h = record {
  leaves = (tt, (tt, (tt, tt)));
  sized = All-from_recursion IsSizedNode (note_list depth m at) (
    record { low = omega (arith, ints, h.high); high = omega (arith, ints, h.low) },
    (
      (record { low = omega (arith, ints); high = omega (arith, ints) }, record { low = omega (arith, ints); high = omega (arith, ints) }),
      ((record { low = omega (arith, ints); high = omega (arith, ints) }, h), tt),
    ),
  );
}

pub note-done : (l : ℕ) (m : MachineView) (store new : Lists Node) (depth : ℤ) (note : Margin) (at : Placed) → IsMachine m store → IsBack l m store → IsExtent depth → HasGrown l (note_list depth note at) [] store new → Done l m m store new (puts (note_nodes depth note at))
note-done l m store new depth note at is back extent grown =
    done-puts l (note_list depth note at) m store new is back grown (note-may depth note at extent) (note_nodes depth note at) refl

-- ---- floats that moved

module _ (l : ℕ) (m now : MachineView) (store : Lists Node) (is : IsMachine m store) (back : IsBack l m store) where
  -- the first float is in a column
  pub area-done : (to : Part) (f : Float) → IsColumnPart to → HasFloats (joined_to (place_of to) f (without_first m.pool.lists)) m now → Done l m now store store (λ w. place_float m.params (place_of to) f (without_first w.state.floats) w)
  area-done parts.Current f c h = absurd c
  area-done parts.Here f c h = record {
    does = λ before w s. does-shown_with (ShowsBack l store) (shows_back l now store) m store (λ v. place_float m.params places.Here f (without_first v.state.floats) v)
        (λ b v sent at. (moved-shows l _ m now store is back h b _ sent refl refl, at)) before w s.0 s.1;
    keeps = moved-keeps l _ m now store is back h;
  }
  area-done parts.Top f c h = record {
    does = λ before w s. does-shown_with (ShowsBack l store) (shows_back l now store) m store (λ v. place_float m.params places.Top f (without_first v.state.floats) v)
        (λ b v sent at. (moved-shows l _ m now store is back h b _ sent refl refl, at)) before w s.0 s.1;
    keeps = moved-keeps l _ m now store is back h;
  }
  area-done parts.Bottom f c h = record {
    does = λ before w s. does-shown_with (ShowsBack l store) (shows_back l now store) m store (λ v. place_float m.params places.Bottom f (without_first v.state.floats) v)
        (λ b v sent at. (moved-shows l _ m now store is back h b _ sent refl refl, at)) before w s.0 s.1;
    keeps = moved-keeps l _ m now store is back h;
  }
  area-done parts.Deferred f c h = record {
    does = λ before w s. does-shown_with (ShowsBack l store) (shows_back l now store) m store (λ v. place_float m.params places.Deferred f (without_first v.state.floats) v)
        (λ b v sent at. (moved-shows l _ m now store is back h b _ sent refl refl, at)) before w s.0 s.1;
    keeps = moved-keeps l _ m now store is back h;
  }
  area-done parts.Double f c h = absurd c
  area-done parts.Second f c h = absurd c

  -- the two boxes of a note left the pool
  pub retired-done : HasFloats (without_note m.pool.lists) m now → Done l m now store store (λ w. with_floats (without_note w.state.floats) w)
  retired-done h = record {
    does = λ before w s. does-shown_with (ShowsBack l store) (shows_back l now store) m store (λ v. with_floats (without_note v.state.floats) v)
        (λ b v sent at. (moved-shows l _ m now store is back h b _ sent refl refl, at)) before w s.0 s.1;
    keeps = moved-keeps l _ m now store is back h;
  }

-- ---- what moves of floats leave of the pool

without-first_place : (es : List Entry) → without_place 0 es ≡ drop 1 es
without-first_place [] = refl
without-first_place (e ∷ es) = refl

without-two : (es : List Entry) → drop 1 (drop 1 es) ≡ drop 2 es
without-two [] = refl
without-two (e ∷ []) = refl
without-two (e ∷ d ∷ es) = refl

first-length : (es : List Entry) (e : Entry) → slice_get es 0 ≡ Some e → length es ≡ suc (length (drop 1 es))
first-length [] e h = let none : None ≡ Some e = h in cc
first-length (d ∷ es) e h = refl

-- how the lists are after it
moved-lists : (to : Part) (f : Float) (v : FloatPool) → IsColumnPart to → (moved_float parts.Current 0 to f v).lists ≡ joined_to (place_of to) f (without_first v.lists)
moved-lists parts.Here f v c = λ i. record v.lists { current = without-first_place v.lists.current i; here = v.lists.here ++ f ∷ [] }
moved-lists parts.Top f v c = λ i. record v.lists { current = without-first_place v.lists.current i; top = v.lists.top ++ f ∷ [] }
moved-lists parts.Bottom f v c = λ i. record v.lists { current = without-first_place v.lists.current i; bottom = v.lists.bottom ++ f ∷ [] }
moved-lists parts.Deferred f v c = λ i. record v.lists { current = without-first_place v.lists.current i; deferred = v.lists.deferred ++ f ∷ [] }
moved-lists to f v c = absurd c

moved-size : (to : Part) (f : Float) (v : FloatPool) → IsColumnPart to → (moved_float parts.Current 0 to f v).size ≡ v.size
moved-size parts.Current f v c = absurd c
moved-size parts.Double f v c = absurd c
moved-size parts.Second f v c = absurd c
moved-size to f v c = refl

-- as many boxes are live
joined-count : (to : Part) (f : Float) (l : FloatLists) (e : Entry) → IsColumnPart to → slice_get l.current 0 ≡ Some e → live_count (joined_to (place_of to) f (without_first l)) ≡ live_count l
joined-count parts.Here f l e c h = omega (arith, first-length l.current e h, length-append l.here (f ∷ []))
joined-count parts.Top f l e c h = omega (arith, first-length l.current e h, length-append l.top (f ∷ []))
joined-count parts.Bottom f l e c h = omega (arith, first-length l.current e h, length-append l.bottom (f ∷ []))
joined-count parts.Deferred f l e c h = omega (arith, first-length l.current e h, length-append l.deferred (f ∷ []))
joined-count to f l e c h = absurd c

pub moved-has : (to : Part) (f : Float) (m : MachineView) (v : FloatPool) → IsColumnPart to → v ≡ moved_float parts.Current 0 to f m.pool → (HasNoMarks m.pool → HasNoMarks v) → HasFloats (joined_to (place_of to) f (without_first m.pool.lists)) m (record m { pool = v })
moved-has to f m v c e unmarked = record {
  lists = ap (λ (x : FloatPool). x.lists) e ∙ moved-lists to f m.pool c;
  size = ap (λ (x : FloatPool). x.size) e ∙ moved-size to f m.pool c;
  unmarked = unmarked;
  rest = refl;
}

pub moved-room : (to : Part) (f : Float) (v now : FloatPool) (room : ℕ) → IsColumnPart to → slice_get v.lists.current 0 ≡ Some (entries.Float f) → now ≡ moved_float parts.Current 0 to f v → HasRoomFor v room → HasRoomFor now room
moved-room to f v now room c there e h =
    let lists : now.lists ≡ joined_to (place_of to) f (without_first v.lists) = ap (λ (x : FloatPool). x.lists) e ∙ moved-lists to f v c in
    let size : now.size ≡ v.size = ap (λ (x : FloatPool). x.size) e ∙ moved-size to f v c in
    let count : live_count now.lists ≡ live_count v.lists = ap live_count lists ∙ joined-count to f v.lists (entries.Float f) c there in
    omega (arith, size, count, h)

-- one of them may go elsewhere from now on
pub set-room : (g : Float) (v now : FloatPool) (room : ℕ) → now ≡ with_float_at parts.Current 0 g v → HasRoomFor v room → HasRoomFor now room
set-room g v now room e h =
    let lists : live_count now.lists ≡ live_count (record v.lists { current = slice_set v.lists.current 0 (entries.Float g) }) = ap (λ (x : FloatPool). live_count x.lists) e in
    let size : now.size ≡ v.size = ap (λ (x : FloatPool). x.size) e in
    omega (arith, size, lists, length-set v.lists.current 0 (entries.Float g), h)

-- ---- a note leaves it

-- the first entry left, or there was none
none-left : (v : FloatPool) (es : List Entry) → v.lists.current ≡ es → None ≡ slice_get es 0 → v ≡ record v { lists = record v.lists { current = drop 1 v.lists.current } }
none-left v [] e h =
    let same : v.lists.current ≡ drop 1 v.lists.current = e ∙ sym (ap (drop 1) e) in
    λ i. record v { lists = record v.lists { current = same i } }
none-left v (x ∷ es) e h = let some : None ≡ Some x = h in absurd cc

pub retired-is : (o : Option Entry) (v now : FloatPool) → o ≡ slice_get v.lists.current 0 → OnSome o (now ≡ without_entry parts.Current 0 v) → IfNone o (now ≡ v) → now ≡ record v { lists = record v.lists { current = drop 1 v.lists.current } }
retired-is None v now first some none = none ∙ none-left v v.lists.current refl first
retired-is (Some e) v now first some none = some ∙ (λ i. record v { lists = record v.lists { current = without-first_place v.lists.current i } })

-- both boxes of a note left
pub retired-has : (m : MachineView) (v w : FloatPool) → v ≡ record m.pool { lists = record m.pool.lists { current = drop 1 m.pool.lists.current } } → w ≡ record v { lists = record v.lists { current = drop 1 v.lists.current } } → (HasNoMarks m.pool → HasNoMarks v) → (HasNoMarks v → HasNoMarks w) → HasFloats (without_note m.pool.lists) m (record m { pool = w })
retired-has m v w one two first second = record {
  lists = ap (λ (x : FloatPool). x.lists) two ∙ ap (λ (x : FloatPool). record x.lists { current = drop 1 x.lists.current }) one ∙ (λ i. record m.pool.lists { current = without-two m.pool.lists.current i });
  size = ap (λ (x : FloatPool). x.size) two ∙ ap (λ (x : FloatPool). x.size) one;
  unmarked = λ h. second (first h);
  rest = refl;
}

-- ---- the float waits

pub column-apart : (to : Part) → IsColumnPart to → parts.Current ≡ to → ⊥
column-apart parts.Current c e = absurd c
column-apart parts.Double c e = absurd c
column-apart parts.Second c e = absurd c
column-apart to c e = cc

pub area-column : (to : Part) → IsAreaPart to → IsColumnPart to
area-column parts.Top c = tt
area-column parts.Bottom c = tt
area-column to c = absurd c

-- the float goes to its area, and the penalty comes after it
pub area-places : (to : Part) (p : Params) (vert : Bool) (f : Float) (w : Work) → IsAreaPart to → puts_interline p f.nobreak (place_float p (place_of to) f (without_first w.state.floats) w) ≡ float_placed p vert f (place_of to) w
area-places parts.Top p vert f w c = refl
area-places parts.Bottom p vert f w c = refl
area-places to p vert f w c = absurd c

set-first : (es : List Entry) (e d : Entry) → slice_get es 0 ≡ Some d → (slice_get (slice_set es 0 e) 0 ≡ Some e) × (drop 1 (slice_set es 0 e) ≡ drop 1 es)
set-first [] e d h = let none : None ≡ Some d = h in absurd cc
set-first (x ∷ es) e d h = (refl, refl)

-- the first float may go to the top from now on, and waits
pub warned-first : (m mid : MachineView) (f : Float) (w : Warn) → slice_get m.pool.lists.current 0 ≡ Some (entries.Float f) → mid ≡ with_warning w m → slice_get mid.pool.lists.current 0 ≡ Some (entries.Float f)
warned-first m mid f w there e = ap (λ (x : MachineView). slice_get x.pool.lists.current 0) e ∙ there

pub set-there : (m mid : MachineView) (f : Float) → slice_get m.pool.lists.current 0 ≡ Some (entries.Float f) → mid ≡ record m { pool = with_float_at parts.Current 0 (with_top f) m.pool } → HasFloatAt mid.pool.lists.current 0
set-there m mid f there e = (with_top f, ap (λ (x : MachineView). slice_get x.pool.lists.current 0) e ∙ (set-first m.pool.lists.current (entries.Float (with_top f)) (entries.Float f) there).0)

pub deferred-with_top : (m now warns mid : MachineView) (f : Float) → slice_get m.pool.lists.current 0 ≡ Some (entries.Float f) → warns ≡ with_warning (warnings.Ht f.name) m → mid ≡ record warns { pool = with_float_at parts.Current 0 (with_top f) warns.pool }
    → ((g : Float) → slice_get mid.pool.lists.current 0 ≡ Some (entries.Float g) → HasFloats (joined_to places.Deferred g (without_first mid.pool.lists)) mid now) → HasDeferred true f m now
deferred-with_top m now warns mid f there warned_is set_is has =
    let e : mid ≡ record (with_warning (warnings.Ht f.name) m) { pool = with_float_at parts.Current 0 (with_top f) m.pool } = set_is ∙ ap (λ (x : MachineView). record x { pool = with_float_at parts.Current 0 (with_top f) x.pool }) warned_is in
    let set = set-first m.pool.lists.current (entries.Float (with_top f)) (entries.Float f) there in
    let first : slice_get mid.pool.lists.current 0 ≡ Some (entries.Float (with_top f)) = ap (λ (x : MachineView). slice_get x.pool.lists.current 0) e ∙ set.0 in
    let h = has (with_top f) first in
    record {
      lists = h.lists ∙ ap (λ (x : MachineView). joined_to places.Deferred (with_top f) (without_first x.pool.lists)) e ∙ (λ i. record m.pool.lists { current = set.1 i; deferred = m.pool.lists.deferred ++ with_top f ∷ [] });
      size = h.size ∙ ap (λ (x : MachineView). x.pool.size) e;
      unmarked = λ k. h.unmarked (subst (λ (x : MachineView). HasNoMarks x.pool) (sym e) (record { deferred = k.deferred; second = k.second }));
      rest = h.rest ∙ ap (λ (x : MachineView). record x { pool = now.pool }) e;
    }

pub deferred-done : (l : ℕ) (m now : MachineView) (store : Lists Node) → IsMachine m store → IsBack l m store → (top : Bool) (f : Float) → HasDeferred top f m now → top ≡ only_here f → Done l m now store store (λ w. defer m.params f (without_first w.state.floats) w)
deferred-done l m now store is back top f h e = by_top top h e
  where
    by_top : (t : Bool) → HasDeferred t f m now → t ≡ only_here f → Done l m now store store (λ w. defer m.params f (without_first w.state.floats) w)
    by_top true k same =
        let wm = with_warning (warnings.Ht f.name) m in
        let warn = done-warned l (warnings.Ht f.name) m wm store is back refl in
        let step = λ (w : Work). sends (warned (warnings.Ht f.name)) (place_float m.params places.Deferred (with_top f) (without_first w.state.floats) w) in
        done-same l m now store store step (λ w. defer m.params f (without_first w.state.floats) w)
        (λ b w s. ap (λ t. if t then sends (warned (warnings.Ht f.name)) (place_float m.params places.Deferred (with_top f) (without_first w.state.floats) w) else place_float m.params places.Deferred f (without_first w.state.floats) w) same)
        (record {
          does = λ before w s. does-shown_with (ShowsBack l store) (shows_back l now store) m store step
              (λ b v sent at. (moved-shows l _ wm now store warn.keeps.machine warn.keeps.back k b _ (shown-joined store m.events (events.Warn (warnings.Ht f.name)) b v.sent sent) refl refl, at)) before w s.0 s.1;
          keeps = keeps-on l m wm now store store store warn.keeps (moved-keeps l _ wm now store warn.keeps.machine warn.keeps.back k);
        })
    by_top false k same =
        done-same l m now store store (λ w. place_float m.params places.Deferred f (without_first w.state.floats) w) (λ w. defer m.params f (without_first w.state.floats) w)
        (λ b w s. ap (λ t. if t then sends (warned (warnings.Ht f.name)) (place_float m.params places.Deferred (with_top f) (without_first w.state.floats) w) else place_float m.params places.Deferred f (without_first w.state.floats) w) same)
        (area-done l m now store is back parts.Deferred f tt k)

-- ---- a marginal note

-- the notes of the column reach down to here
pub bottom-done : (l : ℕ) (m now : MachineView) (store : Lists Node) (z : ℤ) → IsMachine m store → IsBack l m store → now ≡ record m { note_bottom = z } → Done l m now store store (with_note_bottom z)
bottom-done l m now store z is back e = subst (λ x. Done l m x store store (with_note_bottom z)) (sym e) (record {
  does = λ before w s. does-shown_with (ShowsBack l store) (shows_back l (record m { note_bottom = z }) store) m store (with_note_bottom z)
      (λ b v sent at. (record { served = refl; sent = sent; state = refl }, at)) before w s.0 s.1;
  keeps = keeps-back_alone l m (record m { note_bottom = z }) store (machine-beside m store is m.goal is.goal m.dead_cycles z m.fault) (record { params = refl; classes = refl; fault = refl }) refl back;
})

-- a note that was moved is warned of
pub warned-moved : (l : ℕ) (m now : MachineView) (store : Lists Node) (note : Margin) (at : Placed) → IsMachine m store → IsBack l m store → now ≡ (if at.moved then with_warning (warnings.Moved note.name at.shift) m else m) → Done l m now store store (moved_warning note at)
warned-moved l m now store note at is back e = by_moved at.moved e
  where
    by_moved : (t : Bool) → now ≡ (if t then with_warning (warnings.Moved note.name at.shift) m else m) → Done l m now store store (λ w. if t then sends (warned (warnings.Moved note.name at.shift)) w else w)
    by_moved true h = done-warned l (warnings.Moved note.name at.shift) m now store is back h
    by_moved false h = subst (λ x. Done l m x store store (λ w. w)) (sym h) (record {
      does = λ before w s. s;
      keeps = keeps-back_same l [] m store store is back refl (apart-none (back_lists store l));
    })

-- the place of the note is the machine's
pub note-same : (l : ℕ) (m : MachineView) (store : Lists Node) (z : TextSize) (note : Margin) (at : Placed) → at ≡ placed_note m.params m.number m.two_columns m.first_column z.height m.note_bottom note
    → (before : List PlainSent) (w : Work) → shows_back l m store before w
    → puts_interline m.params note.nobreak (puts (note_nodes z.depth note at) (moved_warning note at (with_note_bottom at.bottom (with_floats (without_note w.state.floats) w)))) ≡ note_placed m.params z note w
note-same l m store z note at e before w h =
    ap (note_goes m.params z.depth note (without_note w.state.floats) w) (e ∙ (λ i. placed_note m.params (h.0.state i).number (h.0.state i).two_columns (h.0.state i).first_column z.height (h.0.state i).note_bottom note))

-- ---- the interline penalty comes after a step

module _ (l : ℕ) (m mid now : MachineView) (store middle new : Lists Node) (f : Work → Work) (x : Done l m mid store middle f) where
  pub then-interline : (nobreak : Bool) → Does (shows_back l mid middle) (shows_back l now new) (puts_interline mid.params nobreak) → Does (shows_back l m store) (shows_back l now new) (λ w. puts_interline m.params nobreak (f w))
  then-interline nobreak y =
      does-then (shows_back l m store) (shows_back l mid middle) (shows_back l now new) f (puts_interline m.params nobreak) x.does
      (subst (λ (p : Params). Does (shows_back l mid middle) (shows_back l now new) (puts_interline p nobreak)) x.keeps.fields.params y)

  pub then-interline_cut : (nobreak : Bool) (e : RunFault) → Does (shows_back l mid middle) (IsCutShort e now new) (puts_interline mid.params nobreak) → Does (shows_back l m store) (IsCutShort e now new) (λ w. puts_interline m.params nobreak (f w))
  then-interline_cut nobreak e y =
      does-then (shows_back l m store) (shows_back l mid middle) (IsCutShort e now new) f (puts_interline m.params nobreak) x.does
      (subst (λ (p : Params). Does (shows_back l mid middle) (IsCutShort e now new) (puts_interline p nobreak)) x.keeps.fields.params y)

-- ---- a float in the text

module _ (l : ℕ) (m mid : MachineView) (store middle : Lists Node) (vert : Bool) (f : Float) (x : Done l m mid store store (λ w. place_float m.params places.Here f (without_first w.state.floats) w)) (k : KeepsBack l [] mid mid store middle) where
  pub here-cut : (e : RunFault) → Does (shows_back l mid store) (IsCutShort e mid middle) (puts_interline mid.params f.nobreak) → Cut e l m mid store middle (float_placed m.params vert f places.Here)
  here-cut e y = cut-short l e m mid store middle (λ w. puts_interline m.params f.nobreak (place_float m.params places.Here f (without_first w.state.floats) w)) (puts (here_nodes m.params vert f))
      (record { does = then-interline_cut l m mid mid store store middle (λ w. place_float m.params places.Here f (without_first w.state.floats) w) x f.nobreak e y; keeps = keeps-on l m mid mid store store middle x.keeps k })
      (continues-puts (here_nodes m.params vert f))

  module _ (y : Does (shows_back l mid store) (shows_back l mid middle) (puts_interline mid.params f.nobreak)) where
    here-first : Done l m mid store middle (λ w. puts_interline m.params f.nobreak (place_float m.params places.Here f (without_first w.state.floats) w))
    here-first = record { does = then-interline l m mid mid store store middle (λ w. place_float m.params places.Here f (without_first w.state.floats) w) x f.nobreak y; keeps = keeps-on l m mid mid store store middle x.keeps k }

    pub here-whole : (new : Lists Node) → IsExtent f.height → HasGrown l (here_list mid.params vert f) [] middle new → Done l m mid store new (float_placed m.params vert f places.Here)
    here-whole new extent grown = done-then l m mid mid store middle new (λ w. puts_interline m.params f.nobreak (place_float m.params places.Here f (without_first w.state.floats) w)) (puts (here_nodes m.params vert f)) here-first
        (subst (λ (p : Params). Done l mid mid middle new (puts (here_nodes p vert f))) x.keeps.fields.params (here-done l mid middle new vert f k.machine k.back extent grown))

    pub here-memory : (new : Lists Node) → new.lists ≡ middle.lists → Cut faults.Memory l m mid store new (float_placed m.params vert f places.Here)
    here-memory new same = then-cut l faults.Memory m mid mid store middle new (λ w. puts_interline m.params f.nobreak (place_float m.params places.Here f (without_first w.state.floats) w)) (puts (here_nodes m.params vert f)) here-first
        (no-room l mid mid middle new (puts (here_nodes m.params vert f)) k.machine k.back refl same (continues-puts (here_nodes m.params vert f)))

-- ---- each step continues the work

pub continues-none : (w : Work) → Continues w w
continues-none w = continues-same refl refl refl refl refl refl

pub continues-float_placed : (p : Params) (vert : Bool) (f : Float) (place : Where) (w : Work) → Continues w (float_placed p vert f place w)
continues-float_placed p vert f place w = continues-float_goes p vert f (without_first w.state.floats) w place

pub continues-note_placed : (p : Params) (z : TextSize) (m : Margin) (w : Work) → Continues w (note_placed p z m w)
continues-note_placed p z m w = continues-note_goes p z.depth m (without_note w.state.floats) w (placed_note p w.state.number w.state.two_columns w.state.first_column z.height w.state.note_bottom m)
