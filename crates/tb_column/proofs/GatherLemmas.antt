-- Floats and insertions gather about a text: what the store holds after each step.
use Rattle.std.proofs.Common.{◌≡◌, ◌≢◌, refl, sym, ap, subst, ◌∙◌, ℕ, ℤ, Bool, true, false, List, [], ◌∷◌, ◌++◌, length, map, Option, Some, None}
use Rattle.std.specs.Prelude.{All, ◌≤◌, if◌then◌else◌}
use Rattle.std.specs.List.{AllByRecursion}
use Rattle.std.specs.FinMap.{get}
use Rattle.tb_pool.specs.Lists.{Lists, IsLive, list_at, with_list}
use Rattle.tb_pool.specs.Frame.{IsNoneOf, OnlyChanged}
use Rattle.tb_pool.proofs.CallerLemmas.{list_same, get_other, with_list-twice}
use Rattle.tb_node.specs.declared.Node.{Node}
use Rattle.tb_node.specs.Fit.{IsSizedNode}
use Rattle.tb_node.specs.PlainNodes.{shape_of}
use Rattle.tb_param.specs.declared.Params.{Params}
use Rattle.tb_float.specs.Lists.{FloatLists}
use Rattle.tb_column.specs.declared.NoteBox.{NoteBox}
use Rattle.tb_column.specs.Page.{AreLeaves, IsPageList}
use Rattle.tb_column.specs.Notes.{note_lists, boxes_among, IsNote, AreNotes, AreApart}
use Rattle.tb_column.specs.Column.{is_below, foot_kern}
use Rattle.tb_column.specs.ColumnChanges.{AreJoined}
use Rattle.tb_column.specs.FloatColumns.{glue_list}
use Rattle.tb_column.specs.TextColumns.{class_above, notes_list, top_list, bottom_list, front_list, footed_list, below_list, text_list, ended_list, column_list}
use Rattle.tb_column.proofs.StoreLemmas.{list-get, live-get}
use Rattle.tb_column.proofs.NoteLemmas.{all-among, distinct-among, footnotes-same, both-joined}

-- ---- lists that are as they were

-- a list of a page stays one
pub page-get : (old now : Lists Node) (q : ℕ) → get now.lists q ≡ get old.lists q → IsPageList old q → IsPageList now q
page-get old now q e page =
    let is = sym (list-get old now q e) in
    record {
      live = live-get old now q e page.live;
      leaves = subst AreLeaves is page.leaves;
      sized = subst (λ ns. All IsSizedNode ns) is page.sized;
      few = subst (λ (ns : List Node). length ns ≤ 8388608) is page.few;
    }

-- these lists hold what they held
pub notes-same : (old now : Lists Node) (p : Params) (kern : Option ℤ) (ns : List NoteBox) → AllByRecursion (λ n. get now.lists n.list ≡ get old.lists n.list) ns → notes_list p kern now ns ≡ notes_list p kern old ns
notes-same old now p kern [] h = refl
notes-same old now p kern (n ∷ ns) h = λ i. (class_above p kern n ++ list-get old now n.list h.0 i) ++ notes-same old now p kern ns h.1 i

pub lists-live : (old now : Lists Node) (ns : List NoteBox) → AllByRecursion (λ n. get now.lists n.list ≡ get old.lists n.list) ns → AllByRecursion (λ n. IsLive old n.list) ns → AllByRecursion (λ n. IsLive now n.list) ns
lists-live old now [] h live = tt
lists-live old now (n ∷ ns) h live = (live-get old now n.list h.0 live.0, lists-live old now ns h.1 live.1)

pub notes-live : (store : Lists Node) (ns : List NoteBox) → AllByRecursion (IsNote store) ns → AllByRecursion (λ n. IsLive store n.list) ns
notes-live store [] h = tt
notes-live store (n ∷ ns) h = (h.0.list.live, notes-live store ns h.1)

-- the text's list alone changed
module _ (old now : Lists Node) (body : ℕ) (same : (q : ℕ) → q ≢ body → get now.lists q ≡ get old.lists q) where
  pub none-changed : (ns : List NoteBox) → IsNoneOf body (note_lists ns) → AllByRecursion (λ n. get now.lists n.list ≡ get old.lists n.list) ns
  none-changed [] none = tt
  none-changed (n ∷ ns) none = (same n.list none.0, none-changed ns none.1)

  emptied-kept : (ns : List NoteBox) → IsNoneOf body (note_lists ns) → AllByRecursion (λ n. get old.lists n.list ≡ Some []) ns → AllByRecursion (λ n. get now.lists n.list ≡ Some []) ns
  emptied-kept [] none h = tt
  emptied-kept (n ∷ ns) none h = (same n.list none.0 ∙ h.0, emptied-kept ns none.1 h.1)

  -- the boxes may still join it
  pub apart-kept : (ns : List NoteBox) → AreApart old body ns → AreApart now body ns
  apart-kept ns can = record { apart = can.apart; live = lists-live old now ns (none-changed ns can.apart.0) can.live }

-- the text's list alone changed before the notes joined it, and after
pub joined-between : (a b c d : Lists Node) (body : ℕ) (ns : List NoteBox) → IsNoneOf body (note_lists ns) → ((q : ℕ) → q ≢ body → get b.lists q ≡ get a.lists q) → AreJoined body ns b c
    → ((q : ℕ) → q ≢ body → get d.lists q ≡ get c.lists q) → AreJoined body ns a d
joined-between a b c d body ns apart before join after = record {
  emptied = emptied-kept c d body after ns apart join.emptied;
  others = λ q none. after q (λ e. none.0 (sym e)) ∙ join.others q none ∙ before q (λ e. none.0 (sym e));
}

-- these lists and no others changed
pub joined-frame : (body : ℕ) (ns : List NoteBox) (store new : Lists Node) → AreJoined body ns store new → OnlyChanged (body ∷ note_lists ns) (body ∷ note_lists ns) store new
joined-frame body ns store new join = λ q live none. (join.others q none, none)

-- ---- the steps

module _ (old above glued : Lists Node) (p : Params) (l : FloatLists) (body : ℕ)
    (put : above.lists ≡ with_list old body (top_list p l ++ list_at old body)) (top : glued.lists ≡ with_list above body (glue_list p.texttop ++ list_at above body)) where
  -- the glue and the floats are above the text
  glued_lists : glued.lists ≡ with_list old body (glue_list p.texttop ++ (top_list p l ++ list_at old body))
  glued_lists =
      with_list-twice old above glued body (top_list p l ++ list_at old body) (glue_list p.texttop ++ list_at above body) put top
      ∙ ap (λ (xs : List Node). with_list old body (glue_list p.texttop ++ xs)) (list_same old above body (top_list p l ++ list_at old body) put)

  glued_others : (q : ℕ) → q ≢ body → get glued.lists q ≡ get old.lists q
  glued_others q ne = get_other old glued body (glue_list p.texttop ++ (top_list p l ++ list_at old body)) q ne glued_lists

  module _ (ns : List NoteBox) (can : AreNotes old body ns) where
    pub front_apart : AreApart glued body (boxes_among false ns)
    front_apart =
        apart-kept old glued body glued_others (boxes_among false ns)
        (record { apart = distinct-among body false ns can.apart; live = all-among (λ n. IsLive old n.list) false ns (notes-live old ns can.each) })

    front-none : IsNoneOf body (note_lists (boxes_among false ns))
    front-none = (distinct-among body false ns can.apart).0

    module _ (joined : Lists Node) where
      pub front_text : list_at joined body ≡ list_at glued body ++ notes_list p None glued (boxes_among false ns) → list_at joined body ≡ front_list p l old body ns
      front_text text =
          text
          ∙ (λ i. list_same old glued body (glue_list p.texttop ++ (top_list p l ++ list_at old body)) glued_lists i ++ notes-same old glued p None (boxes_among false ns) (none-changed old glued body glued_others (boxes_among false ns) front-none) i)

      pub front_joined : AreJoined body (boxes_among false ns) glued joined → AreJoined body (boxes_among false ns) old joined
      front_joined join = joined-between old glued joined joined body (boxes_among false ns) front-none glued_others join (λ q ne. refl)

-- footnotes and bottom floats, in either order
module _ (old mid new : Lists Node) (p : Params) (l : FloatLists) (body bottoms : ℕ) (ns : List NoteBox) (can : AreApart old body (boxes_among true ns)) (count : bottoms ≡ length l.bottom) where
  -- the floats first
  module _ (low : mid.lists ≡ with_list old body (list_at old body ++ bottom_list p l)) where
    low_others : (q : ℕ) → q ≢ body → get mid.lists q ≡ get old.lists q
    low_others q ne = get_other old mid body (list_at old body ++ bottom_list p l) q ne low

    pub low_apart : AreApart mid body (boxes_among true ns)
    low_apart = apart-kept old mid body low_others (boxes_among true ns) can

    pub low_list : list_at mid body ≡ list_at old body ++ bottom_list p l
    low_list = list_same old mid body (list_at old body ++ bottom_list p l) low

    pub low_text : is_below p.footplace ≡ true → list_at new body ≡ footed_list p bottoms mid ns (list_at mid body) → list_at new body ≡ below_list p l old ns (list_at old body)
    low_text e text =
        text
        ∙ (λ i. footed_list p (count i) mid ns (low_list i))
        ∙ ap (λ (xs : List Node). list_at old body ++ bottom_list p l ++ xs) (
        notes-same old mid p (foot_kern p (length l.bottom) (map shape_of (list_at old body ++ bottom_list p l))) (boxes_among true ns) (none-changed old mid body low_others (boxes_among true ns) can.apart.0))
        ∙ ap (λ b. if b then footed_list p (length l.bottom) old ns (list_at old body ++ bottom_list p l) else footed_list p (length l.bottom) old ns (list_at old body) ++ bottom_list p l) (sym e)

    pub low_joined : AreJoined body (boxes_among true ns) mid new → AreJoined body (boxes_among true ns) old new
    low_joined join = joined-between old mid new new body (boxes_among true ns) can.apart.0 low_others join (λ q ne. refl)

  -- footnotes first
  module _ (text : list_at mid body ≡ footed_list p bottoms old ns (list_at old body)) (high : new.lists ≡ with_list mid body (list_at mid body ++ bottom_list p l)) where
    pub high_text : is_below p.footplace ≡ false → list_at new body ≡ below_list p l old ns (list_at old body)
    high_text e =
        list_same mid new body (list_at mid body ++ bottom_list p l) high
        ∙ ap (λ (xs : List Node). xs ++ bottom_list p l) text
        ∙ ap (λ n. footed_list p n old ns (list_at old body) ++ bottom_list p l) count
        ∙ ap (λ b. if b then footed_list p (length l.bottom) old ns (list_at old body ++ bottom_list p l) else footed_list p (length l.bottom) old ns (list_at old body) ++ bottom_list p l) (sym e)

    pub high_joined : AreJoined body (boxes_among true ns) old mid → AreJoined body (boxes_among true ns) old new
    high_joined join = joined-between old old mid new body (boxes_among true ns) can.apart.0 (λ q ne. refl) join (λ q ne. get_other mid new body (list_at mid body ++ bottom_list p l) q ne high)

-- the text and all that is about it
module _ (old ready front new : Lists Node) (p : Params) (l : FloatLists) (body : ℕ) (ns : List NoteBox) (found : ready.lists ≡ old.lists) (can : AreNotes old body ns) where
  found-get : (q : ℕ) → get ready.lists q ≡ get old.lists q
  found-get q = ap (λ m. get m q) found

  all-found : (ks : List NoteBox) → AllByRecursion (λ n. get ready.lists n.list ≡ get old.lists n.list) ks
  all-found [] = tt
  all-found (k ∷ ks) = (found-get k.list, all-found ks)

  notes-found : (ks : List NoteBox) → AllByRecursion (IsNote old) ks → AllByRecursion (IsNote ready) ks
  notes-found [] h = tt
  notes-found (k ∷ ks) h = (record { list = page-get old ready k.list (found-get k.list) h.0.list; rule = h.0.rule; skip = h.0.skip }, notes-found ks h.1)

  pub ready_notes : AreNotes ready body ns
  ready_notes = record { rising = can.rising; apart = can.apart; each = notes-found ns can.each }

  pub ready_live : IsLive old body → IsLive ready body
  ready_live live = live-get old ready body (found-get body) live

  pub ready_front : list_at front body ≡ front_list p l ready body ns → list_at front body ≡ front_list p l old body ns
  ready_front text =
      text
      ∙ (λ i. (glue_list p.texttop ++ (top_list p l ++ list-get old ready body (found-get body) i)) ++ notes-same old ready p None (boxes_among false ns) (all-found (boxes_among false ns)) i)

  module _ (join : AreJoined body (boxes_among false ns) ready front) where
    foot-lists : AllByRecursion (λ n. get front.lists n.list ≡ get ready.lists n.list) (boxes_among true ns)
    foot-lists = footnotes-same body ns ready front new can.apart join

    pub ready_apart : AreApart front body (boxes_among true ns)
    ready_apart = record {
      apart = distinct-among body true ns can.apart;
      live = lists-live ready front (boxes_among true ns) foot-lists (all-among (λ n. IsLive ready n.list) true ns (notes-live ready ns ready_notes.each));
    }

    -- the footnotes are those of the beginning
    feet-same : (kern : Option ℤ) → notes_list p kern front (boxes_among true ns) ≡ notes_list p kern old (boxes_among true ns)
    feet-same kern = notes-same ready front p kern (boxes_among true ns) foot-lists ∙ notes-same old ready p kern (boxes_among true ns) (all-found (boxes_among true ns))

    below-same : (xs : List Node) → below_list p l front ns xs ≡ below_list p l old ns xs
    below-same xs = by_place (is_below p.footplace)
      where
        by_place : (b : Bool) → (if b then footed_list p (length l.bottom) front ns (xs ++ bottom_list p l) else footed_list p (length l.bottom) front ns xs ++ bottom_list p l)
            ≡ (if b then footed_list p (length l.bottom) old ns (xs ++ bottom_list p l) else footed_list p (length l.bottom) old ns xs ++ bottom_list p l)
        by_place true = ap (λ (ys : List Node). xs ++ bottom_list p l ++ ys) (feet-same (foot_kern p (length l.bottom) (map shape_of (xs ++ bottom_list p l))))
        by_place false = ap (λ (ys : List Node). xs ++ ys ++ bottom_list p l) (feet-same (foot_kern p (length l.bottom) (map shape_of xs)))

    pub gathered_text : list_at front body ≡ front_list p l ready body ns → list_at new body ≡ below_list p l front ns (list_at front body) → list_at new body ≡ text_list p l old body ns
    gathered_text text rest = rest ∙ below-same (list_at front body) ∙ ap (below_list p l old ns) (ready_front text)

    pub gathered_joined : AreJoined body (boxes_among true ns) front new → AreJoined body ns old new
    gathered_joined rest = joined-between old ready new new body ns can.apart.0 (λ q ne. found-get q) (both-joined body ns ready front new can.apart join rest) (λ q ne. refl)

-- ---- the whole

-- the text is closed
pub column_list-made : (old mid new : Lists Node) (p : Params) (l : FloatLists) (body : ℕ) (ns : List NoteBox) → list_at mid body ≡ text_list p l old body ns
    → new.lists ≡ with_list mid body (ended_list p (list_at mid body)) → list_at new body ≡ column_list p l old body ns
column_list-made old mid new p l body ns text close = list_same mid new body (ended_list p (list_at mid body)) close ∙ ap (ended_list p) text

pub column-joined : (old mid new : Lists Node) (body : ℕ) (ns : List NoteBox) (xs : List Node) → AreNotes old body ns → AreJoined body ns old mid → new.lists ≡ with_list mid body xs → AreJoined body ns old new
column-joined old mid new body ns xs can join close = joined-between old old mid new body ns can.apart.0 (λ q ne. refl) join (λ q ne. get_other mid new body xs q ne close)
