-- Floats that go one by one from a pool to the end of a list.
use Rattle.std.proofs.Common.{◌≡◌, ◌≢◌, refl, sym, ap, ◌∙◌, ℕ, suc, ◌+◌, ◌*◌, ◌<◌, List, [], ◌∷◌, ◌++◌, length, append_assoc, append-nil, Option, Some, slice_get, Bool, true, arith}
use Rattle.std.specs.Prelude.{if◌then◌else◌}
use Rattle.std.proofs.lemmas.List.{nil_from_length}
use Rattle.tb_pool.specs.Lists.{Lists, IsLive, list_at, with_list}
use Rattle.tb_pool.proofs.CallerLemmas.{list_same, with_list-twice, with_list-same}
use Rattle.tb_scaled.specs.declared.Glue.{Glue}
use Rattle.tb_scaled.specs.Glue.{negated_glue}
use Rattle.tb_node.specs.declared.Node.{Node}
use Rattle.tb_node.specs.declared.Kind.TheVariants as kinds
use Rattle.tb_node.specs.declared.Where.{Where}
use Rattle.tb_node.specs.declared.Where.TheVariants as places
use Rattle.tb_node.specs.declared.Float.{Float}
use Rattle.tb_node.specs.declared.RuleOf.TheVariants.{Floats}
use Rattle.tb_param.specs.declared.Rule.{Rule}
use Rattle.tb_float.specs.declared.Entry.{Entry}
use Rattle.tb_float.specs.declared.Entry.TheVariants as entries
use Rattle.tb_float.specs.declared.Part.{Part}
use Rattle.tb_float.specs.declared.Part.TheVariants as parts
use Rattle.tb_float.specs.Lists.{IsWaiting, entries_of, floats_of, float_entries, entry_count, without_place}
use Rattle.tb_float.specs.Pool.{FloatPool, without_entry, without_entries, marks_of, marked_floats, unmarked_floats, first_marked}
use Rattle.tb_float.specs.MarkedFloats.{without_marked}
use Rattle.tb_float.specs.Rooms.{IsArea}
use Rattle.tb_float.specs.Shelves.{is_float}
use Rattle.tb_float.proofs.ListLemmas.{length-without_place}
use Rattle.tb_float.proofs.MarkLemmas.{first_marked-le, none-marked}
use Rattle.tb_float.proofs.RetireLemmas.{one-left, all-left}
use Rattle.tb_column.specs.declared.float_columns.PageGlue.{PageGlue}
use Rattle.tb_column.specs.Column.{is_no_glue}
use Rattle.tb_column.specs.FloatColumns.{made_node, float_box, boxes_with, boxes_above, boxes_below, boxes_after, glue_list, rule_list, page_list}
use Rattle.tb_column.proofs.StoreLemmas.{with_list-added}

-- two nodes were put at the end of a list that was changed before, and what is to come after them
module _ (s0 s s1 s2 : Lists Node) (l : ℕ) (a b : Node) (changed : s.lists ≡ with_list s0 l (list_at s l)) (one : s1.lists ≡ with_list s l (list_at s l ++ a ∷ [])) (two : s2.lists ≡ with_list s1 l (list_at s1 l ++ b ∷ [])) where
  pair-added : s2.lists ≡ with_list s l (list_at s l ++ a ∷ b ∷ [])
  pair-added = with_list-added s s1 s2 l (a ∷ []) (b ∷ []) one two

  pair-changed : s2.lists ≡ with_list s0 l (list_at s2 l)
  pair-changed = with_list-twice s0 s s2 l (list_at s l) (list_at s l ++ a ∷ b ∷ []) changed pair-added ∙ ap (with_list s0 l) (sym (list_same s s2 l (list_at s l ++ a ∷ b ∷ []) pair-added))

  pair-then : (ns : List Node) → list_at s2 l ++ ns ≡ list_at s l ++ a ∷ b ∷ ns
  pair-then ns = ap (λ (ms : List Node). ms ++ ns) (list_same s s2 l (list_at s l ++ a ∷ b ∷ []) pair-added) ∙ append_assoc (list_at s l) (a ∷ b ∷ []) ns

-- ---- the marked floats

-- some marked floats are in the list, each after glue; the others are still to come
pub record MarkedSoFar (from : Part) (sep : Glue) (l : ℕ) (s0 : Lists Node) (v0 : FloatPool) (s : Lists Node) (v : FloatPool) : Type 0 where
  pub lists : s.lists ≡ with_list s0 l (list_at s l)
  pub nodes : list_at s l ++ boxes_after sep (marked_floats from v) ≡ list_at s0 l ++ boxes_after sep (marked_floats from v0)
  pub pool : without_marked from v ≡ without_marked from v0
  pub marks : length (marks_of from v) ≡ length (floats_of from v.lists)
  pub spare : s.spare + 2 * length (marked_floats from v0) ≡ s0.spare + 2 * length (marked_floats from v)

-- the marks and the floats of a list in which floats wait, once one has left
marks-left : (from : Part) (k : ℕ) (v : FloatPool) → IsWaiting from → marks_of from (without_entry from k v) ≡ without_place k (marks_of from v)
marks-left parts.Deferred k v waits = refl
marks-left parts.Second k v waits = refl
marks-left from k v waits = absurd waits

floats-left : (from : Part) (k : ℕ) (v : FloatPool) → IsWaiting from → floats_of from (without_entry from k v).lists ≡ without_place k (floats_of from v.lists)
floats-left parts.Deferred k v waits = refl
floats-left parts.Second k v waits = refl
floats-left from k v waits = absurd waits

-- a marked float was the first one that has a mark, so each float that waits still has one
mark_for_each : (from : Part) (v w : FloatPool) (f : Float) → IsWaiting from → length (marks_of from v) ≡ length (floats_of from v.lists) → marked_floats from v ≡ f ∷ marked_floats from w
    → w ≡ without_entry from (first_marked (marks_of from v)) v → length (marks_of from w) ≡ length (floats_of from w.lists)
mark_for_each from v w f waits many first is =
    let ms = marks_of from v in
    let k = first_marked ms in
    let some : k ≢ length ms = λ e. (let none = (none-marked ms (floats_of from v.lists) many e).0 in cc) in
    let within : k < length ms = omega (arith, first_marked-le ms, some) in
    let there : k < length (floats_of from v.lists) = omega (arith, within, many) in
    omega (
      arith,
      many,
      length-without_place k ms within,
      length-without_place k (floats_of from v.lists) there,
      ap (λ (u : FloatPool). length (marks_of from u)) is,
      ap (λ (u : FloatPool). length (floats_of from u.lists)) is,
      ap length (marks-left from k v waits),
      ap length (floats-left from k v waits),
    )

module _ (from : Part) (waits : IsWaiting from) (sep : Glue) (l : ℕ) (s0 : Lists Node) (v0 : FloatPool) where
  pub marked_begin : IsLive s0 l → length (marks_of from v0) ≡ length (floats_of from v0.lists) → MarkedSoFar from sep l s0 v0 s0 v0
  marked_begin live many = record { lists = with_list-same s0 s0 l live refl; nodes = refl; pool = refl; marks = many; spare = refl }

  -- one more was put there
  pub marked_go : (s s1 s2 : Lists Node) (v w : FloatPool) (f : Float) → MarkedSoFar from sep l s0 v0 s v
      → marked_floats from v ≡ f ∷ marked_floats from w → unmarked_floats from w ≡ unmarked_floats from v → w ≡ without_entry from (first_marked (marks_of from v)) v
      → s1.lists ≡ with_list s l (list_at s l ++ made_node (kinds.Skip sep) ∷ []) → s1.spare + 1 ≡ s.spare
      → s2.lists ≡ with_list s1 l (list_at s1 l ++ float_box places.Page f ∷ []) → s2.spare + 1 ≡ s1.spare → MarkedSoFar from sep l s0 v0 s2 w
  marked_go s s1 s2 v w f so first same is e1 n1 e2 n2 = record {
    lists = pair-changed s0 s s1 s2 l (made_node (kinds.Skip sep)) (float_box places.Page f) so.lists e1 e2;
    nodes =
        pair-then s0 s s1 s2 l (made_node (kinds.Skip sep)) (float_box places.Page f) so.lists e1 e2 (boxes_after sep (marked_floats from w))
        ∙ ap (λ (fs : List Float). list_at s l ++ boxes_after sep fs) (sym first)
        ∙ so.nodes;
    pool = one-left from v w (first_marked (marks_of from v)) waits is same ∙ so.pool;
    marks = mark_for_each from v w f waits so.marks first is;
    spare = omega (arith, n1, n2, so.spare, ap (λ (fs : List Float). length fs) first);
  }

  -- none is left
  module _ (s : Lists Node) (v : FloatPool) (so : MarkedSoFar from sep l s0 v0 s v) (none : marked_floats from v ≡ []) where
    pub marked_left : unmarked_floats from v ≡ floats_of from v.lists → v ≡ without_marked from v0
    marked_left same = sym (all-left from v waits so.marks none same) ∙ so.pool

-- ---- the floats of an area

-- the first entry of a list of floats is its first float
record FirstFloat (fs rest : List Float) (e : Entry) : Type 0 where
  pub float : Float
  pub is : e ≡ entries.Float float
  pub first : fs ≡ float ∷ rest

first_float : (fs : List Float) (e : Entry) → Some e ≡ slice_get (float_entries fs) 0 → FirstFloat fs (without_place 0 fs) e
first_float [] e h = cc
first_float (f ∷ fs) e h = record { float = f; is = cc; first = refl }

-- the first of the floats in the text, and how many are behind it
pub here_more : (v w : FloatPool) (e : Entry) → Some e ≡ slice_get (float_entries v.lists.here) 0 → w ≡ without_entry parts.Here 0 v → length v.lists.here ≡ suc (length w.lists.here)
here_more v w e h is = ap (λ (fs : List Float). length fs) (first_float v.lists.here e h).first ∙ ap (λ (u : FloatPool). suc (length u.lists.here)) (sym is)

area_first : (a : Part) → IsArea a → (v : FloatPool) (e : Entry) → Some e ≡ slice_get (entries_of a v.lists) 0 → FirstFloat (floats_of a v.lists) (floats_of a (without_entry a 0 v).lists) e
area_first parts.Top area v e h = first_float v.lists.top e h
area_first parts.Bottom area v e h = first_float v.lists.bottom e h
area_first parts.Double area v e h = first_float v.lists.double e h
area_first a area v e h = absurd area

area_rest : (a : Part) → IsArea a → (v : FloatPool) → without_entries a (without_entry a 0 v) ≡ without_entries a v
area_rest parts.Top area v = refl
area_rest parts.Bottom area v = refl
area_rest parts.Double area v = refl
area_rest a area v = absurd area

pub area_none : (a : Part) → IsArea a → (v : FloatPool) → entry_count a v.lists ≡ 0 → floats_of a v.lists ≡ []
area_none parts.Top area v e = nil_from_length v.lists.top e
area_none parts.Bottom area v e = nil_from_length v.lists.bottom e
area_none parts.Double area v e = nil_from_length v.lists.double e
area_none a area v e = absurd area

-- the entry is a float
pub area_float : (a : Part) → IsArea a → (v : FloatPool) (e : Entry) → Some e ≡ slice_get (entries_of a v.lists) 0 → is_float e ≡ true
area_float a area v e h = ap is_float (area_first a area v e h).is

-- some floats of the area are in the list, each followed by glue; the others are still to come
pub record AreaSoFar (a : Part) (place : Where) (sep : Glue) (l : ℕ) (s0 : Lists Node) (v0 : FloatPool) (s : Lists Node) (v : FloatPool) : Type 0 where
  pub lists : s.lists ≡ with_list s0 l (list_at s l)
  pub nodes : list_at s l ++ boxes_with place sep (floats_of a v.lists) ≡ list_at s0 l ++ boxes_with place sep (floats_of a v0.lists)
  pub pool : without_entries a v ≡ without_entries a v0
  pub spare : s.spare + 2 * length (floats_of a v0.lists) ≡ s0.spare + 2 * length (floats_of a v.lists)

module _ (a : Part) (area : IsArea a) (place : Where) (sep : Glue) (l : ℕ) (s0 : Lists Node) (v0 : FloatPool) where
  pub area_begin : IsLive s0 l → AreaSoFar a place sep l s0 v0 s0 v0
  area_begin live = record { lists = with_list-same s0 s0 l live refl; nodes = refl; pool = refl; spare = refl }

  -- the first float of the area, and how many are behind it
  pub area_more : (v w : FloatPool) (e : Entry) → Some e ≡ slice_get (entries_of a v.lists) 0 → w ≡ without_entry a 0 v → length (floats_of a v.lists) ≡ suc (length (floats_of a w.lists))
  area_more v w e h is = ap (λ (fs : List Float). length fs) (area_first a area v e h).first ∙ ap (λ (u : FloatPool). suc (length (floats_of a u.lists))) (sym is)

  -- one more was put there
  pub area_go : (s s1 s2 : Lists Node) (v w : FloatPool) (e : Entry) (f : Float) → AreaSoFar a place sep l s0 v0 s v → Some e ≡ slice_get (entries_of a v.lists) 0 → w ≡ without_entry a 0 v → e ≡ entries.Float f
      → s1.lists ≡ with_list s l (list_at s l ++ float_box place f ∷ []) → s1.spare + 1 ≡ s.spare
      → s2.lists ≡ with_list s1 l (list_at s1 l ++ made_node (kinds.Skip sep) ∷ []) → s2.spare + 1 ≡ s1.spare → AreaSoFar a place sep l s0 v0 s2 w
  area_go s s1 s2 v w e f so h is float e1 n1 e2 n2 =
      let head = area_first a area v e h in
      let same : head.float ≡ f = let both = sym head.is ∙ float in cc in
      let first : floats_of a v.lists ≡ f ∷ floats_of a w.lists = head.first ∙ (λ i. same i ∷ floats_of a (sym is i).lists) in
      record {
        lists = pair-changed s0 s s1 s2 l (float_box place f) (made_node (kinds.Skip sep)) so.lists e1 e2;
        nodes =
            pair-then s0 s s1 s2 l (float_box place f) (made_node (kinds.Skip sep)) so.lists e1 e2 (boxes_with place sep (floats_of a w.lists))
            ∙ ap (λ (fs : List Float). list_at s l ++ boxes_with place sep fs) (sym first)
            ∙ so.nodes;
        pool = ap (without_entries a) is ∙ area_rest a area v ∙ so.pool;
        spare = omega (arith, n1, n2, so.spare, ap (λ (fs : List Float). length fs) first);
      }

-- ---- the floats with the glue round them

-- how many they are
pub area_count : (a : Part) → IsArea a → (v : FloatPool) → length (floats_of a v.lists) ≡ entry_count a v.lists
area_count parts.Top area v = refl
area_count parts.Bottom area v = refl
area_count parts.Double area v = refl
area_count a area v = absurd area

above-full : (place : Where) (sep : Glue) (across : Option Rule) (last : Glue) (fs : List Float) → length fs ≢ 0
    → boxes_with place sep fs ++ (made_node (kinds.Skip (negated_glue sep)) ∷ rule_list Floats across) ++ made_node (kinds.Skip last) ∷ [] ≡ boxes_above place sep across last fs
above-full place sep across last [] some = absurd (some refl)
above-full place sep across last (f ∷ fs) some = refl

below-full : (place : Where) (sep : Glue) (across : Option Rule) (first : Glue) (fs : List Float) → length fs ≢ 0
    → (made_node (kinds.Skip first) ∷ rule_list Floats across) ++ boxes_with place sep fs ++ made_node (kinds.Skip (negated_glue sep)) ∷ [] ≡ boxes_below place sep across first fs
below-full place sep across first [] some = absurd (some refl)
below-full place sep across first (f ∷ fs) some = refl

module _ (s : Lists Node) (l : ℕ) (live : IsLive s l) (place : Where) (sep : Glue) (across : Option Rule) (g : Glue) (fs : List Float) (none : fs ≡ []) where
  -- if there are no floats, nothing is put there
  pub above-none : s.lists ≡ with_list s l (list_at s l ++ boxes_above place sep across g fs)
  above-none = with_list-same s s l live refl ∙ ap (with_list s l) (sym (append-nil (list_at s l)) ∙ ap (λ (hs : List Float). list_at s l ++ boxes_above place sep across g hs) (sym none))

  pub before-none : s.lists ≡ with_list s l (boxes_above place sep across g fs ++ list_at s l)
  before-none = with_list-same s s l live refl ∙ ap (λ (hs : List Float). with_list s l (boxes_above place sep across g hs ++ list_at s l)) (sym none)

  pub below-none : s.lists ≡ with_list s l (list_at s l ++ boxes_below place sep across g fs)
  below-none = with_list-same s s l live refl ∙ ap (with_list s l) (sym (append-nil (list_at s l)) ∙ ap (λ (hs : List Float). list_at s l ++ boxes_below place sep across g hs) (sym none))

module _ (s0 s1 s2 s3 s4 : Lists Node) (l : ℕ) (place : Where) (sep : Glue) (across : Option Rule) (g : Glue) (fs : List Float) (some : length fs ≢ 0) where
  -- the floats, glue, a rule, and glue
  pub above-put : s1.lists ≡ with_list s0 l (list_at s0 l ++ boxes_with place sep fs) → s2.lists ≡ with_list s1 l (list_at s1 l ++ made_node (kinds.Skip (negated_glue sep)) ∷ [])
      → s3.lists ≡ with_list s2 l (list_at s2 l ++ rule_list Floats across) → s4.lists ≡ with_list s3 l (list_at s3 l ++ made_node (kinds.Skip g) ∷ [])
      → s4.lists ≡ with_list s0 l (list_at s0 l ++ boxes_above place sep across g fs)
  above-put e1 e2 e3 e4 =
      let gap = with_list-added s1 s2 s3 l (made_node (kinds.Skip (negated_glue sep)) ∷ []) (rule_list Floats across) e2 e3 in
      let front = with_list-added s0 s1 s3 l (boxes_with place sep fs) (made_node (kinds.Skip (negated_glue sep)) ∷ rule_list Floats across) e1 gap in
      with_list-added s0 s3 s4 l (boxes_with place sep fs ++ (made_node (kinds.Skip (negated_glue sep)) ∷ rule_list Floats across)) (made_node (kinds.Skip g) ∷ []) front e4
      ∙ ap (λ (ns : List Node). with_list s0 l (list_at s0 l ++ ns)) (above-full place sep across g fs some)

  -- glue, a rule, the floats, and glue
  pub below-put : s1.lists ≡ with_list s0 l (list_at s0 l ++ made_node (kinds.Skip g) ∷ []) → s2.lists ≡ with_list s1 l (list_at s1 l ++ rule_list Floats across)
      → s3.lists ≡ with_list s2 l (list_at s2 l ++ boxes_with place sep fs) → s4.lists ≡ with_list s3 l (list_at s3 l ++ made_node (kinds.Skip (negated_glue sep)) ∷ [])
      → s4.lists ≡ with_list s0 l (list_at s0 l ++ boxes_below place sep across g fs)
  below-put e1 e2 e3 e4 =
      let gap = with_list-added s0 s1 s2 l (made_node (kinds.Skip g) ∷ []) (rule_list Floats across) e1 e2 in
      let front = with_list-added s0 s2 s3 l (made_node (kinds.Skip g) ∷ rule_list Floats across) (boxes_with place sep fs) gap e3 in
      with_list-added s0 s3 s4 l ((made_node (kinds.Skip g) ∷ rule_list Floats across) ++ boxes_with place sep fs) (made_node (kinds.Skip (negated_glue sep)) ∷ []) front e4
      ∙ ap (λ (ns : List Node). with_list s0 l (list_at s0 l ++ ns)) (below-full place sep across g fs some)

-- glue, glue, the floats, and glue
pub page-put : (s0 s1 s2 s3 s4 : Lists Node) (l : ℕ) (g : PageGlue) (fs : List Float) → s1.lists ≡ with_list s0 l (list_at s0 l ++ made_node (kinds.Skip g.above) ∷ [])
    → s2.lists ≡ with_list s1 l (list_at s1 l ++ made_node (kinds.Skip (negated_glue g.between)) ∷ []) → s3.lists ≡ with_list s2 l (list_at s2 l ++ boxes_after g.between fs)
    → s4.lists ≡ with_list s3 l (list_at s3 l ++ made_node (kinds.Skip g.below) ∷ []) → s4.lists ≡ with_list s0 l (list_at s0 l ++ page_list g fs)
page-put s0 s1 s2 s3 s4 l g fs e1 e2 e3 e4 =
    let two = with_list-added s0 s1 s2 l (made_node (kinds.Skip g.above) ∷ []) (made_node (kinds.Skip (negated_glue g.between)) ∷ []) e1 e2 in
    let three = with_list-added s0 s2 s3 l (made_node (kinds.Skip g.above) ∷ made_node (kinds.Skip (negated_glue g.between)) ∷ []) (boxes_after g.between fs) two e3 in
    with_list-added s0 s3 s4 l (made_node (kinds.Skip g.above) ∷ made_node (kinds.Skip (negated_glue g.between)) ∷ boxes_after g.between fs) (made_node (kinds.Skip g.below) ∷ []) three e4

-- ---- glue, a rule and a kern that may be none

-- nothing was put there
pub nothing-added : (s : Lists Node) (l : ℕ) (xs : List Node) → IsLive s l → xs ≡ [] → s.lists ≡ with_list s l (list_at s l ++ xs)
nothing-added s l xs live none = with_list-same s s l live refl ∙ ap (with_list s l) (sym (append-nil (list_at s l)) ∙ ap (λ ys. list_at s l ++ ys) (sym none))

pub nothing-before : (s : Lists Node) (l : ℕ) (xs : List Node) → IsLive s l → xs ≡ [] → s.lists ≡ with_list s l (xs ++ list_at s l)
nothing-before s l xs live none = with_list-same s s l live refl ∙ ap (λ ys. with_list s l (ys ++ list_at s l)) (sym none)

pub glue-is : (g : Glue) (t : Bool) → is_no_glue g ≡ t → glue_list g ≡ (if t then [] else made_node (kinds.Skip g) ∷ [])
glue-is g t e = ap (λ b. if b then [] else made_node (kinds.Skip g) ∷ []) e
