-- No name in what is shown of the run of a valid galley has a line feed: each is that of an item of the galley.
use Rattle.std.proofs.Common.{◌≡◌, refl, ℕ, ℤ, Bool, true, false, List, [], ◌∷◌, ◌++◌, map, length, drop, arith}
use Rattle.std.specs.Prelude.{not, ◌-ℤ◌, ◌&&◌, ◌||◌, ◌==◌, nat_le, int_lt, IsTrue, if◌then◌else◌}
use Rattle.std.specs.List.{AllByRecursion, list_all}
use Rattle.std.proofs.lemmas.Bool.{and_parts}
use Rattle.tb_break.proofs.EachLemmas.{all-join, all-drop}
use Rattle.tb_node.specs.declared.Act.{Act}
use Rattle.tb_node.specs.declared.Act.TheVariants as acts
use Rattle.tb_node.specs.declared.Float.{Float}
use Rattle.tb_node.specs.declared.Margin.{Margin}
use Rattle.tb_node.specs.Names.{is_name, is_alphanumeric, is_name_byte, is_between}
use Rattle.tb_node.specs.PlainNodes.{on_line, clearpage_kinds}
use Rattle.tb_param.specs.declared.Params.{Params}
use Rattle.tb_param.specs.Release.{has_second}
use Rattle.tb_galley.specs.declared.Leaf.{Leaf}
use Rattle.tb_galley.specs.declared.LeafKind.{LeafKind}
use Rattle.tb_galley.specs.declared.LeafKind.TheVariants as leaves
use Rattle.tb_galley.specs.declared.Item.{Item}
use Rattle.tb_galley.specs.declared.ItemKind.{ItemKind}
use Rattle.tb_galley.specs.declared.ItemKind.TheVariants as items
use Rattle.tb_galley.specs.declared.Galley.{Galley}
use Rattle.tb_galley.specs.GalleyNodes.{plain_leaf, with_firings, item_kinds, two_after, params_after, item_nodes, expanded}
use Rattle.tb_galley.specs.Valid.{is_size, is_leaf, is_float, is_margin, is_item, IsValid, is_head, is_top_alone}
use Rattle.tb_insert.specs.declared.Class.{Class}
use Rattle.tb_insert.specs.Account.{terms_after}
use Rattle.tb_break.specs.PageTop.{pruned_nodes}
use Rattle.tb_builder.specs.FiredPages.{frozen_for}
use Rattle.tb_float.specs.declared.Entry.TheVariants as entries
use Rattle.tb_float.specs.Lists.{FloatLists}
use Rattle.tb_sheet.specs.declared.Warn.{Warn}
use Rattle.tb_sheet.specs.Sheet.{PlainSent, warned}
use Rattle.tb_output.specs.State.{State, Recorded, first_state, void_boxes}
use Rattle.tb_output.specs.Act.{taken_float, lists_with_taken, large_warning, taken_head}
use Rattle.tb_steps.specs.Run.{Step, Run, End, done, run_of, ask_for}
use Rattle.tb_steps.proofs.RunTree.{ActMove, page_of, fired_at, served_at, such-step, RunIs, galley-is, takes_float, takes_note, changes_columns, takes_title, is_done, ends_so, goes_on_so}
use Rattle.tb_steps.proofs.RunFolds.{each_event, RunLaw, filled-holds, step-holds}
use Rattle.tb_items.specs.RunEvents.{RunEvent, sent}
use Rattle.tb_items.specs.Classes.{classes_of}
use Rattle.tb_why.proofs.PlainRuns.CleanNodes.{CleanLeaves, CleanNote, CleanKind, CleanAct, CleanNodes, nodes-join, nodes-pruned, CleanReached, CleanReach, reached-clean, CleanBoxes, CleanFired, fired-clean}
use Rattle.tb_why.proofs.PlainRuns.CleanWorks.{CleanLists, CleanState, CleanSent, out-clean}
use Rattle.tb_why.proofs.PlainRuns.CleanTales.{CleanPieces, told-clean}
use Rattle.tb_why.proofs.ShownTree.{page_filled, page_served, shown_with, served_shown, StepShows, shows_going, shows_ending, shows_page, RunShows, shows_none, shows_last, shows_more, galley-shows}
use Rattle.tb_why.specs.PlainNames.{IsPlainFloat, ArePlainNodes, IsPlainWarning, IsPlainSent, IsPlainEvent, IsPlainShown, ArePlainNames, IsPlainEnd}
use Rattle.tb_why.specs.Firing.{all_sent, woven, spot_of, firing_pieces}
use Rattle.tb_why.specs.WhyRun.{Shown, tells, all_happen, all_shown, wait_tales, shown_run}
use Rattle.tb_told.specs.declared.Piece.{Piece}
use Rattle.tb_told.specs.declared.Piece.TheVariants.{Says, NextSent}
use Rattle.tb_told.specs.declared.Tale.TheVariants.{Waits}
use Rattle.tb_text.specs.Lines.{is_feed, IsUnended}
use Rattle.tb_node.specs.PlainNodes.{PlainKind, plain, ins, act, PlainNode}
use Rattle.tb_sheet.specs.Sheet.{one, wide, two, shipped}
use Rattle.tb_sheet.specs.declared.Warn.TheVariants as warnings
use Rattle.std.proofs.lemmas.Bool.Decides.{nat_tests}
use Rattle.std.specs.Cmp.{first_so, second_so}
use Rattle.std.proofs.lemmas.Bool.{and_from}

-- ---- acts

-- what is left on the page by a run that ends well
abbrev CleanEnd : End → Type 0
CleanEnd (done left) = CleanNodes left
CleanEnd e = Unit {0}

-- ---- what is shown

names-join : (xs ys : List Shown) → ArePlainNames xs → ArePlainNames ys → ArePlainNames (xs ++ ys)
names-join xs ys h k = all-join IsPlainShown xs ys h k

-- the nodes of a page that have lines
nodes-plain : (ns : List PlainNode) → CleanNodes ns → ArePlainNodes ns
nodes-plain [] h = tt
nodes-plain (n ∷ ns) h = (kind-plain n.kind h.0, nodes-plain ns h.1)
  where
    kind-plain : (k : PlainKind) → CleanKind k → Rattle.tb_why.specs.PlainNames.IsPlainKind k
    kind-plain (plain m) g = g
    kind-plain (ins i) g = tt
    kind-plain (act a) g = tt

happen-plain : (es : List RunEvent) → AllByRecursion IsPlainEvent es → ArePlainNames (all_happen es)
happen-plain [] h = tt
happen-plain (e ∷ es) h = (h.0, happen-plain es h.1)

waits-plain : (s : State) (fs : List Float) → AllByRecursion IsPlainFloat fs → ArePlainNames (map (λ f. tells (Waits (spot_of s) f)) fs)
waits-plain s [] h = tt
waits-plain s (f ∷ fs) h = (h.0, waits-plain s fs h.1)

-- what happens while a page is filled, what waits from then on, and more
page-plain : (s now : State) (es : List RunEvent) (xs : List Shown) → AllByRecursion IsPlainEvent es → CleanState now → ArePlainNames xs → ArePlainNames (all_happen es ++ (wait_tales s now ++ xs))
page-plain s now es xs h k l =
    names-join (all_happen es) (wait_tales s now ++ xs) (happen-plain es h)
    (names-join (wait_tales s now) xs (waits-plain now (drop (length s.floats.second) now.floats.second) (all-drop IsPlainFloat (length s.floats.second) now.floats.second k.3.5)) l)

module _ (p : Params) where
  sent-plain : (e : PlainSent) → CleanSent p e → IsPlainSent e
  sent-plain (warned w) h = h
  sent-plain (shipped number (one c)) h = nodes-plain c.nodes h
  sent-plain (shipped number (wide c)) h = nodes-plain c.nodes h
  sent-plain (shipped number (two tops at left right)) h = (nodes-plain tops h.0, nodes-plain left.nodes h.1, nodes-plain right.nodes h.2)

  rest-plain : (es : List PlainSent) → AllByRecursion (CleanSent p) es → ArePlainNames (all_shown (all_sent es))
  rest-plain [] h = tt
  rest-plain (e ∷ es) h = (sent-plain e h.0, rest-plain es h.1)

  woven-plain : (ps : List Piece) (es : List PlainSent) → CleanPieces ps → AllByRecursion (CleanSent p) es → ArePlainNames (all_shown (woven ps es))
  woven-plain [] es h k = rest-plain es k
  woven-plain (Says t ∷ ps) es h k = (h.0, woven-plain ps es h.1 k)
  woven-plain (NextSent ∷ ps) [] h k = woven-plain ps [] h.1 k
  woven-plain (NextSent ∷ ps) (e ∷ es) h k = (sent-plain e k.0, woven-plain ps es h.1 k.1)

  -- ---- acts

  taken : (f : Float) (l : FloatLists) → IsPlainFloat f → CleanLists l → CleanLists (lists_with_taken p f l)
  taken f l h k = by_list (has_second p && f.wide)
    where
      by_list : (t : Bool) → CleanLists (if t then record l { second = l.second ++ f ∷ [] } else record l { current = l.current ++ entries.Float f ∷ [] })
      by_list true = (k.0, k.1, k.2, k.3, k.4, all-join IsPlainFloat l.second (f ∷ []) k.5 (h, tt), k.6)
      by_list false = (all-join _ l.current (entries.Float f ∷ []) k.0 (h, tt), k.1, k.2, k.3, k.4, k.5, k.6)

  large : (f : Float) → IsPlainFloat f → AllByRecursion IsPlainWarning (large_warning p f)
  large f h = by_test (int_lt p.textheight f.height)
    where
      by_test : (t : Bool) → AllByRecursion IsPlainWarning (if t then warnings.Large f.name (f.height -ℤ p.textheight) ∷ [] else [])
      by_test true = (h, tt)
      by_test false = tt

  acts-on : {s u : State} {a : Act} {ws : List Warn} {rs : List Recorded} → ActMove p s a u ws rs → CleanState s → CleanAct a → CleanState u × AllByRecursion IsPlainWarning ws
  acts-on (takes_float {s = s} f r) h g = ((h.0, h.1, h.2, taken (taken_float p s f) s.floats g h.3, h.4), large f g)
  acts-on (takes_note {s = s} m r) h g = ((h.0, h.1, h.2, (all-join _ s.floats.current (entries.Left m ∷ entries.Right m ∷ []) h.3.0 (g, (tt, tt)), h.3.1, h.3.2, h.3.3, h.3.4, h.3.5, h.3.6), h.4), tt)
  acts-on (takes_title {s = s} f r) h g = ((h.0, h.1, h.2, (h.3.0, h.3.1, h.3.2, h.3.3, all-join IsPlainFloat s.floats.double (taken_head p f ∷ []) h.3.4 (g, tt), h.3.5, h.3.6), h.4), tt)
  acts-on (changes_columns pair) h g = ((h.0, h.1, h.2, h.3, tt), tt)
  acts-on m h g = (h, tt)

  events-plain : (es : List PlainSent) → AllByRecursion (CleanSent p) es → AllByRecursion IsPlainEvent (map sent es)
  events-plain [] h = tt
  events-plain (e ∷ es) h = (sent-plain e h.0, events-plain es h.1)

-- ---- one page and the firing after it

warnings-plain : (ws : List Warn) → AllByRecursion IsPlainWarning ws → AllByRecursion IsPlainEvent (map (λ w. sent (warned w)) ws)
warnings-plain [] h = tt
warnings-plain (w ∷ ws) h = (h.0, warnings-plain ws h.1)

page-reached : (s : State) → CleanState s → CleanReach (page_of s)
page-reached s h = reached-clean (ask_for s).max_depth (terms_after (frozen_for (ask_for s) s.classes s.boxes)) [] (pruned_nodes (ask_for s).top_skip s.waiting) tt (nodes-pruned (ask_for s).top_skip s.waiting h.0)

fired-at : (o s : State) → CleanReach (page_of o) → CleanState s → CleanFired (fired_at o s)
fired-at o s h k = fired-clean (frozen_for (ask_for o) s.classes s.boxes) s.boxes (page_of o) k.1 h

abbrev cleaning : RunLaw
cleaning = record {
  shows = each_event IsPlainEvent;
  between = CleanState;
  within = λ o rs s. AllByRecursion CleanReached rs × CleanState s × CleanReach (page_of o);
  begins = λ s h. let x = page-reached s h in (x.reached, h, x);
  tries = λ o line b least rs s h. ((tt, tt), (h.0.1, h.1, h.2));
  acts = λ o s t a ws records rs m h. let x = acts-on s.params m h.1 h.0.0 in (warnings-plain ws x.1, (h.0.1, x.0, h.2));
  fires = λ o s h. let x = out-clean s.params s (fired_at o s) h.1 (fired-at o s h.2 h.1) in (events-plain s.params (served_at o s).sent x.2, x.0);
  stops = λ o s h. tt;
}

fired-plain : (s : State) → CleanState s → ArePlainNames (shown_with s (served_shown s))
fired-plain s h =
    let k = filled-holds cleaning {o = s} h in
    let t = (page_filled s).state in
    let c = fired-at s t k.1.1.2 k.1.1.1 in
    page-plain s t (page_filled s).events (served_shown s) k.0 k.1.1.1
    (woven-plain t.params (firing_pieces t.params t (fired_at s t)) (page_served s).sent (told-clean t.params t (fired_at s t) k.1.1.1 c) (out-clean t.params t (fired_at s t) k.1.1.1 c).2)

-- what is shown of a step
step-plain : {s : State} {x : Step} {xs : List Shown} → StepShows s x xs → CleanState s → ArePlainNames xs
step-plain {s = s} (shows_going e f r rs) h = fired-plain s h
step-plain {s = s} (shows_ending e f rs d) h = fired-plain s h
step-plain {s = s} (shows_page rs d) h = let k = filled-holds cleaning {o = s} h in page-plain s (page_filled s).state (page_filled s).events [] k.0 k.1.1.1 tt

-- ---- a run

shown-plain : {s : State} {r : Run} {xs : List Shown} → RunShows s r xs → CleanState s → ArePlainNames xs
shown-plain (shows_none s e) h = tt
shown-plain (shows_last {xs = xs} x) h = names-join xs [] (step-plain x h) tt
shown-plain (shows_more {xs = xs} {ys = ys} x y z) h = names-join xs ys (step-plain x h) (shown-plain z (step-holds cleaning (such-step _ y) h).1)

ended : {s : State} {r : Run} → RunIs s r → CleanState s → CleanEnd r.end
ended (ends_so {s = s} (is_done x u)) h = (page-reached s h).passed
ended (goes_on_so x y) h = ended y (step-holds cleaning x h).1
ended x h = tt

-- ---- the nodes of a valid galley

byte-plain : (b : ℕ) → is_name_byte b ≡ true → not (is_feed b) ≡ true
byte-plain b h = grind (arith, nat_tests)

first-plain : (b : ℕ) → is_alphanumeric b ≡ true → not (is_feed b) ≡ true
first-plain b h = grind (arith, nat_tests)

bytes-plain : (bs : List ℕ) → list_all is_name_byte bs ≡ true → IsUnended bs
bytes-plain [] h = refl
bytes-plain (b ∷ bs) h =
    and_from (not (is_feed b)) (list_all (λ b. not (is_feed b)) bs) (byte-plain b (first_so (is_name_byte b) (list_all is_name_byte bs) h)) (bytes-plain bs (second_so (is_name_byte b) (list_all is_name_byte bs) h))

-- a name has no line feed
name-plain : (name : List ℕ) → is_name name ≡ true → IsUnended name
name-plain [] h = cc
name-plain (b ∷ bs) h =
    let front = first_so (is_alphanumeric b && list_all is_name_byte bs) (nat_le (length bs) 62) h in
    and_from (not (is_feed b)) (list_all (λ b. not (is_feed b)) bs) (first-plain b (first_so (is_alphanumeric b) (list_all is_name_byte bs) front)) (bytes-plain bs (second_so (is_alphanumeric b) (list_all is_name_byte bs) front))

-- a name, before the sizes of a box
sized : (name : List ℕ) (h d : ℤ) → IsTrue (is_name name && is_size h && is_size d) → IsUnended name
sized name h d v = name-plain name (and_parts (is_name name) (is_size h) (and_parts (is_name name && is_size h) (is_size d) v).0).0

leaf-kinds : (k : LeafKind) (n : ℕ) → IsTrue (is_leaf k) → CleanLeaves (plain_leaf (record { line = n; kind = k }) ∷ [])
leaf-kinds (leaves.Hbox name h d) n v = (sized name h d v, tt)
leaf-kinds (leaves.Rule name h d) n v = (sized name h d v, tt)
leaf-kinds k n v = (tt, tt)

all-leaves : (ls : List Leaf) → IsTrue (list_all (λ l. is_leaf l.kind) ls) → CleanLeaves (map plain_leaf ls)
all-leaves [] v = tt
all-leaves (l ∷ ls) v = let parts = and_parts (is_leaf l.kind) (list_all (λ l. is_leaf l.kind) ls) v in ((leaf-kinds l.kind l.line parts.0).0, all-leaves ls parts.1)

float-clean : (f : Float) → IsTrue (is_float f) → IsPlainFloat f
float-clean f v =
    let a = and_parts (is_name f.name && is_between 1 26 f.class && (f.places.h || f.places.t || f.places.b || f.places.p)) (is_size f.height) v in
    let b = and_parts (is_name f.name && is_between 1 26 f.class) (f.places.h || f.places.t || f.places.b || f.places.p) a.0 in
    name-plain f.name (and_parts (is_name f.name) (is_between 1 26 f.class) b.0).0

head-clean : (f : Float) → IsTrue (is_head f) → IsPlainFloat f
head-clean f v =
    let a = and_parts (is_name f.name && is_size f.height) ((f.class == 0) && f.wide && is_top_alone f.places && f.bang && not (f.deep || f.nobreak)) v in
    name-plain f.name (and_parts (is_name f.name) (is_size f.height) a.0).0

note-clean : (m : Margin) → IsTrue (is_margin m) → CleanNote m
note-clean m v =
    let a = and_parts (is_name m.name && is_size m.left_height && is_size m.left_depth && is_size m.right_height) (is_size m.right_depth) v in
    let b = and_parts (is_name m.name && is_size m.left_height && is_size m.left_depth) (is_size m.right_height) a.0 in
    let c = and_parts (is_name m.name && is_size m.left_height) (is_size m.left_depth) b.0 in
    name-plain m.name (and_parts (is_name m.name) (is_size m.left_height) c.0).0

item-clean : (p : Params) (pair : Bool) (n : ℕ) (k : ItemKind) → IsTrue (is_item n k) → CleanNodes (on_line n (item_kinds p pair k))
item-clean p pair n (items.Hbox name h d) v = (sized name h d v, tt)
item-clean p pair n (items.Rule name h d) v = (sized name h d v, tt)
item-clean p pair n (items.Skip g) v = (tt, tt)
item-clean p pair n (items.Kern w) v = (tt, tt)
item-clean p pair n (items.Penalty q) v = (tt, tt)
item-clean p pair n (items.Mark name) v = (name-plain name v, tt)
item-clean p pair n (items.Note name) v = (name-plain name v, tt)
item-clean p pair n (items.Foot class ls) v = (all-leaves ls v, tt)
item-clean p pair n (items.Float f vert) v = by_taking (has_second p && pair && f.wide)
  where
    float : IsPlainFloat f
    float = float-clean f (and_parts (f.line == n) (is_float f) v).1

    by_taking : (t : Bool) → CleanNodes (on_line n (if t then act (acts.Take f) ∷ [] else with_firings (acts.Take f) vert))
    by_taking true = (float, tt)
    by_taking false = (float, (tt, (tt, (tt, tt))))
item-clean p pair n (items.Margin m vert) v = (note-clean m (and_parts (m.line == n) (is_margin m) v).1, (tt, (tt, (tt, tt))))
item-clean p pair n items.NewPage v = (tt, (tt, tt))
item-clean p pair n items.ClearPage v = (tt, (tt, (tt, (tt, (tt, tt)))))
item-clean p pair n (items.PageBreak q) v = (tt, tt)
item-clean p pair n (items.NoPageBreak q) v = (tt, tt)
item-clean p pair n items.OneColumn v = (tt, (tt, (tt, (tt, (tt, (tt, tt))))))
item-clean p pair n items.TwoColumn v = (tt, (tt, (tt, (tt, (tt, (tt, tt))))))
item-clean p pair n (items.Suppress area) v = (tt, tt)
item-clean p pair n (items.Page k) v = (tt, tt)
item-clean p pair n (items.Set c) v = (tt, tt)
item-clean p pair n (items.Head f) v = (head-clean f (and_parts (f.line == n) (is_head f) v).1, tt)
item-clean p pair n (items.Enlarge by true) v = ((tt, (tt, tt)), tt)
item-clean p pair n (items.Enlarge by false) v = ((tt, tt), tt)

items-clean : (p : Params) (pair : Bool) (ns : List Item) → IsTrue (list_all (λ n. is_item n.line n.kind) ns) → CleanNodes (item_nodes p pair ns)
items-clean p pair [] v = tt
items-clean p pair (n ∷ ns) v =
    let parts = and_parts (is_item n.line n.kind) (list_all (λ n. is_item n.line n.kind) ns) v in
    nodes-join (on_line n.line (item_kinds p pair n.kind)) (item_nodes (params_after p n.kind) (two_after pair n.kind) ns) (item-clean p pair n.line n.kind parts.0) (items-clean (params_after p n.kind) (two_after pair n.kind) ns parts.1)

expanded-clean : (g : Galley) → IsValid g → CleanNodes (expanded g)
unfolding expanded
expanded-clean g v = nodes-join (item_nodes g.params false g.items) (on_line g.end_line clearpage_kinds) (items-clean g.params false g.items v.items) (tt, (tt, (tt, (tt, (tt, tt)))))

void : (cs : List Class) → CleanBoxes (void_boxes cs)
void [] = tt
void (c ∷ cs) = (tt, void cs)

-- a run begins with the nodes of the galley
begins : (g : Galley) → IsValid g → CleanState (first_state g.params (classes_of g) (expanded g))
begins g v = (expanded-clean g v, void (classes_of g), tt, (tt, tt, tt, tt, tt, tt, tt), tt)

-- no name in what is shown of the run of a valid galley has a line feed
pub run-plain : (g : Galley) → IsValid g → ArePlainNames (shown_run g)
run-plain g v = shown-plain (galley-shows g) (begins g v)

-- nor one in what is left by it, if it ends well
pub end-plain : (g : Galley) → IsValid g → IsPlainEnd (run_of g).end
end-plain g v = end-left (run_of g).end (ended (galley-is g) (begins g v))
  where
    end-left : (e : End) → CleanEnd e → IsPlainEnd e
    end-left (done left) h = nodes-plain left h
    end-left e h = tt
