-- The nodes of a galley.
use Rattle.std.specs.Prelude.{ℕ, suc, zero, ℤ, pos, neg_ℤ, Bool, ◌&&◌, List, [], ◌∷◌, ◌++◌, map, if◌then◌else◌}
use Rattle.tb_scaled.specs.declared.Order.TheVariants.{Normal}
use Rattle.tb_scaled.specs.declared.Glue.{Glue}
use Rattle.tb_node.specs.PlainNodes.{Matter, hbox, rule, skip, kerned, pen, mark, note, Leaf as PlainLeaf, leaf_shape, PlainKind, plain, ins, act, PlainNode, blank_box, on_line, newpage_kinds, clearpage_kinds}
use Rattle.tb_node.specs.Sums.{size_of}
use Rattle.tb_node.specs.declared.What.TheVariants.{Text}
use Rattle.tb_node.specs.declared.RuleOf.TheVariants as rules
use Rattle.tb_node.specs.declared.Float.{Float}
use Rattle.tb_node.specs.declared.Act.{Act}
use Rattle.tb_node.specs.declared.Act.TheVariants as acts
use Rattle.tb_param.specs.declared.Params.{Params}
use Rattle.tb_param.specs.Release.{has_second}
use Rattle.tb_param.specs.Changes.{changed}
use Rattle.tb_galley.specs.declared.Leaf.{Leaf}
use Rattle.tb_galley.specs.declared.LeafKind.{LeafKind}
use Rattle.tb_galley.specs.declared.LeafKind.TheVariants as leaves
use Rattle.tb_galley.specs.declared.Item.{Item}
use Rattle.tb_galley.specs.declared.ItemKind.{ItemKind}
use Rattle.tb_galley.specs.declared.ItemKind.TheVariants as items
use Rattle.tb_galley.specs.declared.Galley.{Galley}

-- the node that a box, rule, glue, kern or penalty is
abbrev pub leaf_matter : LeafKind → Matter
leaf_matter (leaves.Hbox name h d) = hbox (Text name) h d
leaf_matter (leaves.Rule name h d) = rule (rules.Item name) h d
leaf_matter (leaves.Skip g) = skip g
leaf_matter (leaves.Kern w) = kerned w
leaf_matter (leaves.Penalty p) = pen p

-- a node of a footnote, with its line
abbrev pub plain_leaf : Leaf → PlainLeaf
plain_leaf n = record { line = n.line; matter = leaf_matter n.kind }

-- a footnote as one insertion of its class, with the height and depth of its list for its height
abbrev pub foot_insertion : Params → ℕ → List PlainLeaf → PlainKind
foot_insertion p class inner = ins (record {
  class = class;
  inner = inner;
  height = size_of (map leaf_shape inner);
  split_depth = p.footsplitdepth;
  split_top = p.footsplittop;
  floating = p.footfloating;
})

-- a node of a list that no line of the galley holds
abbrev pub made_leaf : Matter → PlainLeaf
made_leaf m = record { line = 0; matter = m }

-- glue of minus this width
abbrev pub back_glue : ℤ → Glue
back_glue by = record { width = neg_ℤ by; stretch = pos 0; order = Normal; shrink = pos 0 }

-- the list of a page that is made higher: glue of minus the amount, and before it a blank box if the contents are to be shrunk
abbrev pub enlarge_list : ℤ → Bool → List PlainLeaf
enlarge_list by star = (if star then made_leaf blank_box ∷ [] else []) ++ made_leaf (skip (back_glue by)) ∷ []

-- a page that is made higher by this, as one insertion of class 255 whose height is minus the amount
abbrev pub enlarge_insertion : Params → ℤ → Bool → PlainKind
enlarge_insertion p by star = ins (record {
  class = 255;
  inner = enlarge_list by star;
  height = neg_ℤ by;
  split_depth = p.splitmaxdepth;
  split_top = p.splittopskip;
  floating = p.floatingpenalty;
})

-- an act, and two firings of the output routine round a blank box; the second says whether the item was between paragraphs
abbrev pub with_firings : Act → Bool → List PlainKind
with_firings a vert =
    act a ∷ plain (pen (neg_ℤ (pos 10004))) ∷ plain blank_box ∷ plain (pen (neg_ℤ (pos (if vert then 10003 else 10002)))) ∷ []

-- a float; in release 2014 a wide one in two columns is taken without a firing, since it goes to a list of its own at once
abbrev pub float_kinds : Params → Bool → Float → Bool → List PlainKind
float_kinds p two f vert = if has_second p && two && f.wide then act (acts.Take f) ∷ [] else with_firings (acts.Take f) vert

-- the amount of the penalty for a break of this degree
abbrev pub break_strength : ℕ → ℤ
break_strength zero = pos 0
break_strength (suc zero) = pos 51
break_strength (suc (suc zero)) = pos 151
break_strength (suc (suc (suc zero))) = pos 301
break_strength (suc (suc (suc (suc n)))) = pos 10000

-- the nodes of an item in order, by whether the last change of columns before it was to two columns
abbrev pub item_kinds : Params → Bool → ItemKind → List PlainKind
item_kinds p two (items.Hbox name h d) = plain (hbox (Text name) h d) ∷ []
item_kinds p two (items.Rule name h d) = plain (rule (rules.Item name) h d) ∷ []
item_kinds p two (items.Skip g) = plain (skip g) ∷ []
item_kinds p two (items.Kern w) = plain (kerned w) ∷ []
item_kinds p two (items.Penalty n) = plain (pen n) ∷ []
item_kinds p two (items.Mark name) = plain (mark name) ∷ []
item_kinds p two (items.Note name) = plain (note name) ∷ []
item_kinds p two (items.Foot class foot) = foot_insertion p class (map plain_leaf foot) ∷ []
item_kinds p two (items.Float f vert) = float_kinds p two f vert
item_kinds p two (items.Margin m vert) = with_firings (acts.TakeMargin m) vert
item_kinds p two items.NewPage = newpage_kinds
item_kinds p two items.ClearPage = clearpage_kinds
item_kinds p two (items.PageBreak n) = plain (pen (neg_ℤ (break_strength n))) ∷ []
item_kinds p two (items.NoPageBreak n) = plain (pen (break_strength n)) ∷ []
item_kinds p two items.OneColumn = clearpage_kinds ++ act (acts.Columns (Bool.false)) ∷ []
item_kinds p two items.TwoColumn = clearpage_kinds ++ act (acts.Columns (Bool.true)) ∷ []
item_kinds p two (items.Suppress area) = act (acts.Suppress area) ∷ []
item_kinds p two (items.Page n) = act (acts.Page n) ∷ []
item_kinds p two (items.Head f) = act (acts.Head f) ∷ []
item_kinds p two (items.Enlarge by star) = enlarge_insertion p by star ∷ []
item_kinds p two (items.Set c) = act (acts.Set c) ∷ []

-- whether there are two columns after an item
abbrev pub two_after : Bool → ItemKind → Bool
two_after two items.OneColumn = Bool.false
two_after two items.TwoColumn = Bool.true
two_after two _ = two

-- and after some items
abbrev pub two_past : Bool → List Item → Bool
two_past two [] = two
two_past two (n ∷ ns) = two_past (two_after two n.kind) ns

-- the parameters that hold after an item
abbrev pub params_after : Params → ItemKind → Params
params_after p (items.Set c) = changed p c
params_after p _ = p

-- and after some items
abbrev pub params_past : Params → List Item → Params
params_past p [] = p
params_past p (n ∷ ns) = params_past (params_after p n.kind) ns

-- the nodes of the items in order, from the parameters that hold before them
abbrev pub item_nodes : Params → Bool → List Item → List PlainNode
item_nodes p two [] = []
item_nodes p two (n ∷ ns) = on_line n.line (item_kinds p two n.kind) ++ item_nodes (params_after p n.kind) (two_after two n.kind) ns

-- the nodes of a galley, which begins in one column: those of its items, and those of a clear
unfoldable pub expanded : Galley → List PlainNode
expanded g = item_nodes g.params (Bool.false) g.items ++ on_line g.end_line clearpage_kinds
