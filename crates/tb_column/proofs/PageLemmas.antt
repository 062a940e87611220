-- Floats in a new list are the column of floats of the definitions, or the floats above a pair.
use Rattle.std.proofs.Common.{◌≡◌, ◌≢◌, refl, sym, ap, subst, ◌∙◌, ℕ, ◌≤◌, ℤ, pos, Bool, true, false, List, [], ◌∷◌, ◌++◌, length, map, Option, None, is_some, arith}
use Rattle.std.specs.Prelude.{All, if◌then◌else◌}
use Rattle.std.proofs.lemmas.Bool.{true≢false}
use Rattle.std.specs.FinMap.{get, insert}
use Rattle.tb_pool.specs.Lists.{Lists, IsLive, list_at, with_list}
use Rattle.tb_pool.specs.Frame.{OnlyChanged}
use Rattle.tb_pool.proofs.CallerLemmas.{list_same, live_same, get_other, with_list-twice}
use Rattle.tb_scaled.specs.Glue.{negated_glue}
use Rattle.tb_node.specs.declared.Node.{Node}
use Rattle.tb_node.specs.declared.Float.{Float}
use Rattle.tb_node.specs.declared.Where.TheVariants as places
use Rattle.tb_node.specs.Fit.{IsSizedNode}
use Rattle.tb_node.specs.PlainNodes.{plain_of, node_shape, shape_of, made, skip, plain_list}
use Rattle.tb_param.specs.declared.Params.{Params}
use Rattle.tb_pack.specs.declared.Set.{Set}
use Rattle.tb_pack.specs.Pack.{packed}
use Rattle.tb_float.specs.declared.Part.{Part}
use Rattle.tb_float.specs.declared.Part.TheVariants as parts
use Rattle.tb_float.specs.Lists.{FloatLists, IsWaiting, floats_of, entry_count, has_class}
use Rattle.tb_float.specs.Pool.{FloatPool, marked_floats, unmarked_floats}
use Rattle.tb_float.specs.MarkedFloats.{without_marked}
use Rattle.tb_float.proofs.MarkLemmas.{marked-false}
use Rattle.tb_float.specs.Ranges.{IsSizedFloat}
use Rattle.tb_column.specs.declared.ColumnKind.TheVariants as column_kinds
use Rattle.tb_column.specs.declared.float_columns.PageGlue.{PageGlue}
use Rattle.tb_column.specs.Column.{floats_after, floats_column, float_column_of, pair_rule, pair_floats}
use Rattle.tb_column.specs.StoredColumns.{column_shown}
use Rattle.tb_column.specs.Page.{AreLeaves, IsPageList}
use Rattle.tb_column.specs.Ranges.{IsSizedRule, AreColumnParams}
use Rattle.tb_column.specs.ColumnChanges.{IsOpened}
use Rattle.tb_column.specs.FloatColumns.{boxes_above, page_list, page_glue}
use Rattle.tb_column.proofs.ShownLemmas.{shapes-held}
use Rattle.tb_column.proofs.FloatLemmas.{page_glue-sized, page_list-held, page_list-leaves, page_list-sized, page_list-length, boxes_above-held, boxes_above-leaves, boxes_above-sized, boxes_above-length}

-- ---- a list that was opened

-- a list was opened, and then filled
pub list-opened : (old ready opened new : Lists Node) (l : ℕ) (xs : List Node) → ready.lists ≡ old.lists → opened.lists ≡ with_list ready l [] → new.lists ≡ with_list opened l (list_at opened l ++ xs) → new.lists ≡ with_list old l xs
list-opened old ready opened new l xs found opening put =
    with_list-twice ready opened new l [] (list_at opened l ++ xs) opening put
    ∙ ap (λ (ms : List Node). with_list ready l (ms ++ xs)) (list_same ready opened l [] opening)
    ∙ ap (λ m. insert m l xs) found

pub fresh-before : (old ready : Lists Node) (l : ℕ) → ready.lists ≡ old.lists → get ready.lists l ≡ None → get old.lists l ≡ None
fresh-before old ready l found fresh = ap (λ m. get m l) (sym found) ∙ fresh

module _ (old new : Lists Node) (l : ℕ) (xs : List Node) (fresh : get old.lists l ≡ None) (made_lists : new.lists ≡ with_list old l xs) where
  -- it is new, and all others are as they were
  pub is-opened : IsOpened l old new
  is-opened = record { fresh = fresh; others = λ q ne. get_other old new l xs q ne made_lists }

  fresh-apart : (q : ℕ) → IsLive old q → q ≢ l
  fresh-apart q live same = true≢false (sym live ∙ ap (λ (k : ℕ). is_some (get old.lists k)) same ∙ ap (λ (o : Option (List Node)). is_some o) fresh)

  pub opened-frame : OnlyChanged [] (l ∷ []) old new
  opened-frame = λ q live none. (get_other old new l xs q (fresh-apart q live) made_lists, ((λ e. fresh-apart q live (sym e)), tt))

  -- it may be on a page if its nodes may
  pub opened-page : AreLeaves xs → All IsSizedNode xs → length xs ≤ 8388608 → IsPageList new l
  opened-page leaves sized few =
      let is = sym (list_same old new l xs made_lists) in
      record {
        live = live_same old new l xs made_lists;
        leaves = subst AreLeaves is leaves;
        sized = subst (All IsSizedNode) is sized;
        few = subst (λ (ns : List Node). length ns ≤ 8388608) is few;
      }

-- ---- floats that wait

-- how many they are
pub waiting-count : (from : Part) (l : FloatLists) → IsWaiting from → length (floats_of from l) ≡ entry_count from l
waiting-count parts.Deferred l waits = refl
waiting-count parts.Second l waits = refl
waiting-count from l waits = absurd waits

-- none is left of a list whose marked floats have gone
pub none-marked : (from : Part) (v : FloatPool) → IsWaiting from → marked_floats from (without_marked from v) ≡ []
none-marked parts.Deferred v waits = marked-false (length (unmarked_floats parts.Deferred v)) (unmarked_floats parts.Deferred v)
none-marked parts.Second v waits = marked-false (length (unmarked_floats parts.Second v)) (unmarked_floats parts.Second v)
none-marked from v waits = absurd waits

-- ---- a column of floats

-- its glue is that of wide or of single floats
glue_of_width : (is_wide : Bool) (p : Params) (height : ℤ) (fs : List Float)
    → floats_column height (page_glue is_wide p).above (page_glue is_wide p).between (page_glue is_wide p).below fs ≡ float_column_of is_wide p height fs
glue_of_width true p height fs = refl
glue_of_width false p height fs = refl

module _ (old new : Lists Node) (l : ℕ) (is_wide : Bool) (p : Params) (fs : List Float) (made_lists : new.lists ≡ with_list old l (page_list (page_glue is_wide p) fs)) where
  abbrev g : PageGlue
  g = page_glue is_wide p

  page-shown : plain_list new l ≡ made (skip g.above) ∷ made (skip (negated_glue g.between)) ∷ floats_after g.between fs ++ made (skip g.below) ∷ []
  page-shown = ap (map (plain_of (list_at new))) (list_same old new l (page_list g fs) made_lists) ∙ page_list-held (list_at new) g fs

  pub page-column : (height : ℤ) (s : Set) → s ≡ packed height (pos 0) (map shape_of (list_at new l))
      → column_shown new (record { kind = column_kinds.Floats; list = l; set = s }) ≡ float_column_of is_wide p height fs
  page-column height s e =
      let sized : map shape_of (list_at new l) ≡ map node_shape (made (skip g.above) ∷ made (skip (negated_glue g.between)) ∷ floats_after g.between fs ++ made (skip g.below) ∷ []) =
      sym (shapes-held (list_at new) (list_at new l)) ∙ ap (map node_shape) page-shown in
      let set : s ≡ packed height (pos 0) (map node_shape (made (skip g.above) ∷ made (skip (negated_glue g.between)) ∷ floats_after g.between fs ++ made (skip g.below) ∷ [])) =
      e ∙ ap (packed height (pos 0)) sized in
      let column : column_shown new (record { kind = column_kinds.Floats; list = l; set = s }) ≡ floats_column height g.above g.between g.below fs =
      λ i. record { kind = column_kinds.Floats; nodes = page-shown i; set = set i } in
      column ∙ glue_of_width is_wide p height fs

  pub page-list : get old.lists l ≡ None → AreColumnParams p → All IsSizedFloat fs → length fs ≤ 4096 → IsPageList new l
  page-list fresh ranges sized few =
      opened-page old new l (page_list g fs) fresh made_lists (page_list-leaves g fs) (page_list-sized g fs (page_glue-sized is_wide p ranges) sized) (omega (arith, few, page_list-length g fs))

-- ---- the floats above a pair

pub pair_rule-sized : (p : Params) (l : FloatLists) → IsSizedRule p.dblrule → IsSizedRule (pair_rule p l)
pair_rule-sized p l h = by_head (has_class 0 l.double)
  where
    by_head : (b : Bool) → IsSizedRule (if b then None else p.dblrule)
    by_head true = tt
    by_head false = h

module _ (old new : Lists Node) (l : ℕ) (p : Params) (fs : FloatLists) (made_lists : new.lists ≡ with_list old l (boxes_above places.Double p.dblfloatsep (pair_rule p fs) p.dbltextfloatsep fs.double)) where
  pub pair-shown : plain_list new l ≡ pair_floats p fs
  pair-shown =
      ap (map (plain_of (list_at new))) (list_same old new l (boxes_above places.Double p.dblfloatsep (pair_rule p fs) p.dbltextfloatsep fs.double) made_lists)
      ∙ boxes_above-held (list_at new) places.Double p.dblfloatsep (pair_rule p fs) p.dbltextfloatsep fs.double

  pub pair-list : get old.lists l ≡ None → AreColumnParams p → All IsSizedFloat fs.double → length fs.double ≤ 4096 → IsPageList new l
  pair-list fresh ranges sized few =
      opened-page old new l (boxes_above places.Double p.dblfloatsep (pair_rule p fs) p.dbltextfloatsep fs.double) fresh made_lists (boxes_above-leaves places.Double p.dblfloatsep (pair_rule p fs) p.dbltextfloatsep fs.double)
      (boxes_above-sized places.Double p.dblfloatsep (pair_rule p fs) p.dbltextfloatsep fs.double ranges.dblfloatsep (pair_rule-sized p fs ranges.dblrule) ranges.dbltextfloatsep sized)
      (omega (arith, few, boxes_above-length places.Double p.dblfloatsep (pair_rule p fs) p.dbltextfloatsep fs.double))
