-- No decision of the output routine looks at the limit on nodes.
use Rattle.std.proofs.Common.{◌≡◌, refl, ap, ℤ, Bool, true, false, List, [], ◌∷◌, ◌++◌, map, length, Option, None, ◌∙◌}
use Rattle.std.specs.Prelude.{◌+ℤ◌, ◌&&◌, if◌then◌else◌}
use Rattle.tb_scaled.specs.Scaled.{max_ℤ}
use Rattle.tb_node.specs.PlainNodes.{PlainNode, node_shape}
use Rattle.tb_node.specs.declared.Float.{Float}
use Rattle.tb_node.specs.declared.Where.TheVariants as places
use Rattle.tb_param.specs.declared.Params.{Params}
use Rattle.tb_param.specs.declared.Value.{Value}
use Rattle.tb_param.specs.declared.Field.{Field}
use Rattle.tb_param.specs.declared.Field.TheVariants as fields
use Rattle.tb_param.specs.declared.Change.{Change}
use Rattle.tb_param.specs.Fields.{with_value}
use Rattle.tb_param.specs.Changes.{is_in_range, with_whole, changed}
use Rattle.tb_float.specs.declared.Suppress.{Suppress}
use Rattle.tb_float.specs.Lists.{FloatLists, has_class}
use Rattle.tb_float.specs.Rooms.{column_height_of}
use Rattle.tb_area.specs.Area.{at_top, at_bottom, deferred, where_of, tries_top, tries_bottom, fits_column, fits_above, fits_below, next_separator, text_minimum, may_enter, bottom_or_deferred, top_or_bottom, here_or_area, by_class, current_place, next_place}
use Rattle.tb_pack.specs.Pack.{packed}
use Rattle.tb_column.specs.declared.Enlarged.{Enlarged}
use Rattle.tb_column.specs.Column.{Notes, PlainColumn, glue_if_any, is_below, foot_kern, class_below, notes_below, notes_among, text_above_feet, with_feet, with_bottoms, with_below, text_nodes, closed_nodes, packed_nodes, higher_by, floats_above, text_column}
use Rattle.tb_column.specs.declared.ColumnKind.TheVariants as column_kinds
use Rattle.tb_output.specs.Text.{notes_again, notes_nodes}

-- the same parameters with another limit
abbrev pub lim : Params → ℤ → Params
lim p m = record p { maxnodes = m }

module _ (p : Params) (m : ℤ) where
  -- ---- a parameter that is set

  put-lim : (f : Field) (v : Value) → with_whole (lim p m) (with_value f v (lim p m)) ≡ lim (with_whole p (with_value f v p)) m
  put-lim fields.Textheight v = refl
  put-lim f v = refl

  -- with another limit a parameter is set alike
  pub changed-lim : (c : Change) → changed (lim p m) c ≡ lim (changed p c) m
  changed-lim c = by_test (is_in_range c)
    where
      by_test : (t : Bool) → with_whole (lim p m) (if t then with_value c.field c.value (lim p m) else lim p m) ≡ lim (with_whole p (if t then with_value c.field c.value p else p)) m
      by_test true = put-lim c.field c.value
      by_test false = refl

  -- ---- where floats go

  separator-lim : (fs : List Float) → next_separator (lim p m) fs ≡ next_separator p fs
  separator-lim [] = refl
  separator-lim (f ∷ fs) = refl

  bottom-lim : (l : FloatLists) (s : Suppress) (required : ℤ) (f : Float) → bottom_or_deferred (lim p m) l s required f ≡ bottom_or_deferred p l s required f
  bottom-lim l s required f = λ i. if tries_bottom p l s f && fits_below p l (required +ℤ separator-lim l.bottom i) f then at_bottom else deferred

  area-lim : (l : FloatLists) (s : Suppress) (required : ℤ) (f : Float) → top_or_bottom (lim p m) l s required f ≡ top_or_bottom p l s required f
  area-lim l s required f = λ i.
      if tries_top p l s f then (if fits_above p l (required +ℤ separator-lim l.top i) f then at_top else bottom-lim l s (required +ℤ separator-lim l.top i) f i)
      else bottom-lim l s required f i

  here-lim : (l : FloatLists) (s : Suppress) (required : ℤ) (f : Float) → here_or_area (lim p m) l s required f ≡ here_or_area p l s required f
  here-lim l s required f = λ i.
      if f.places.h then (if fits_column p l (required +ℤ p.intextsep.width) then places.Here else where_of (area-lim l s (required +ℤ p.intextsep.width) f i))
      else where_of (area-lim l s required f i)

  class-lim : (l : FloatLists) (s : Suppress) (required : ℤ) (f : Float) → by_class (lim p m) l s required f ≡ by_class p l s required f
  class-lim l s required f = λ i. if has_class f.class l.bottom then where_of (bottom-lim l s required f i) else here-lim l s required f i

  pub current-lim : (l : FloatLists) (s : Suppress) (high : ℤ) (f : Float) → current_place (lim p m) l s high f ≡ current_place p l s high f
  current-lim l s high f = λ i.
      if may_enter p l s l.deferred (max_ℤ high (text_minimum p l f) +ℤ f.height) f then class-lim l s (max_ℤ high (text_minimum p l f) +ℤ f.height) f i else places.Deferred

  pub next-place-lim : (l : FloatLists) (s : Suppress) (before : List Float) (f : Float) → next_place (lim p m) l s before f ≡ next_place p l s before f
  next-place-lim l s before f = λ i.
      where_of (if may_enter p l s before (f.height +ℤ text_minimum p l f) f then area-lim l s (f.height +ℤ text_minimum p l f) f i else deferred)

  -- ---- text columns

  notes-lim : (kern : Option ℤ) (ns : List Notes) → notes_below (lim p m) kern ns ≡ notes_below p kern ns
  notes-lim kern [] = refl
  notes-lim kern (n ∷ ns) = ap (λ l. class_below p kern n ++ l) (notes-lim kern ns)

  with-feet-lim : (l : FloatLists) (notes : List Notes) (ns : List PlainNode) → with_feet (lim p m) l notes ns ≡ with_feet p l notes ns
  with-feet-lim l notes ns = ap (λ ms. ns ++ ms) (notes-lim (foot_kern p (length l.bottom) (map node_shape ns)) (notes_among true notes))

  below-lim : (l : FloatLists) (notes : List Notes) (ns : List PlainNode) → with_below (lim p m) l notes ns ≡ with_below p l notes ns
  below-lim l notes ns = λ i. if is_below p.footplace then with-feet-lim l notes (with_bottoms p l ns) i else with_bottoms p l (with-feet-lim l notes ns i)

  text-nodes-lim : (l : FloatLists) (body : List PlainNode) (notes : List Notes) → text_nodes (lim p m) l body notes ≡ text_nodes p l body notes
  text-nodes-lim l body notes =
      below-lim l notes (text_above_feet (lim p m) l body notes)
      ∙ ap (λ ms. with_below p l notes ((glue_if_any p.texttop ++ (floats_above places.Top p.floatsep p.toprule p.textfloatsep l.top ++ body)) ++ ms)) (notes-lim None (notes_among false notes))

  -- a text column with these nodes
  abbrev text_with : FloatLists → Enlarged → List PlainNode → PlainColumn
  text_with l e ns = record { kind = column_kinds.Text; nodes = closed_nodes p ns; set = packed (column_height_of p l +ℤ higher_by e) p.maxdepth (map node_shape (packed_nodes p (column_height_of p l) e ns)) }

  pub text-column-lim : (l : FloatLists) (body : List PlainNode) (notes : List Notes) (e : Enlarged) → text_column (lim p m) l body notes e ≡ text_column p l body notes e
  text-column-lim l body notes e = ap (text_with l e) (text-nodes-lim l body notes)

  -- ---- insertions that go back

  pub notes-nodes-lim : (ns : List Notes) → notes_nodes (lim p m) ns ≡ notes_nodes p ns
  notes-nodes-lim [] = refl
  notes-nodes-lim (n ∷ ns) = ap (λ l. record { line = 0; kind = notes_again p n } ∷ l) (notes-nodes-lim ns)
