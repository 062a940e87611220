-- Galleys whose values are in their ranges.
use Rattle.std.specs.Prelude.{◌≡◌, ℕ, ◌+◌, ℤ, pos, neg_ℤ, Bool, true, false, not, ◌&&◌, ◌||◌, ◌==◌, nat_le, nat_lt, IsTrue, List, [], ◌∷◌, ◌++◌, length, map, Option, Some, None}
use Rattle.std.specs.List.{list_all}
use Rattle.tb_scaled.specs.Scaled.{max_dimen}
use Rattle.tb_node.specs.Names.{is_name, is_between}
use Rattle.tb_node.specs.declared.Float.{Float}
use Rattle.tb_node.specs.declared.Margin.{Margin}
use Rattle.tb_node.specs.declared.Places.{Places}
unfoldable pub use Rattle.tb_param.specs.Ranges.{are_params}
use Rattle.tb_param.specs.Changes.{is_in_range, set_place}
use Rattle.tb_param.specs.Defaults.{default_params}
use Rattle.tb_param.specs.Fields.{value_of}
use Rattle.tb_param.specs.Table.{is_within, is_dimen, is_glue, is_rule, is_known_in}
use Rattle.tb_param.specs.declared.changes.SetPlace.{SetPlace}
use Rattle.tb_param.specs.declared.changes.SetPlace.TheVariants as places
use Rattle.tb_param.specs.declared.fields.Field.{Field}
use Rattle.tb_param.specs.declared.Params.{Params}
use Rattle.tb_param.specs.declared.Rule.{Rule}
pub use Rattle.tb_galley.specs.Classes.{do_classes_rise}
use Rattle.tb_galley.specs.Fields.{is_class_among}
pub use Rattle.tb_galley.specs.Words.{Behind, behind_nothing, behind_clear, behind_two, behind_other}
use Rattle.tb_galley.specs.declared.classes.ClassLine.{ClassLine}
use Rattle.tb_galley.specs.declared.Leaf.{Leaf}
use Rattle.tb_galley.specs.declared.LeafKind.{LeafKind}
use Rattle.tb_galley.specs.declared.LeafKind.TheVariants as leaves
use Rattle.tb_galley.specs.declared.Item.{Item}
use Rattle.tb_galley.specs.declared.ItemKind.{ItemKind}
use Rattle.tb_galley.specs.declared.ItemKind.TheVariants as items
use Rattle.tb_galley.specs.declared.Galley.{Galley}

-- a height or depth: from 0 to the greatest dimension
abbrev pub is_size : ℤ → Bool
is_size v = is_within (pos 0) max_dimen v

-- what is in a footnote has its amounts in their ranges
abbrev pub is_leaf : LeafKind → Bool
is_leaf (leaves.Hbox name h d) = is_name name && is_size h && is_size d
is_leaf (leaves.Rule name h d) = is_name name && is_size h && is_size d
is_leaf (leaves.Skip g) = is_glue g
is_leaf (leaves.Kern w) = is_dimen w
is_leaf (leaves.Penalty p) = is_within (neg_ℤ (pos 10000)) (pos 10000) p

-- a float has a name, a class from 1 to 26, a place that is not `!` alone, and a height
abbrev pub is_float : Float → Bool
is_float f = is_name f.name && is_between 1 26 f.class && (f.places.h || f.places.t || f.places.b || f.places.p) && is_size f.height

-- a marginal note has a name and the sizes of two boxes
abbrev pub is_margin : Margin → Bool
is_margin m = is_name m.name && is_size m.left_height && is_size m.left_depth && is_size m.right_height && is_size m.right_depth

-- the top is the one place
abbrev pub is_top_alone : Places → Bool
is_top_alone at = at.t && not (at.h || at.b || at.p)

-- a title over both columns: a name and a height, class 0, and the top of both columns, past all limits
abbrev pub is_head : Float → Bool
is_head f = is_name f.name && is_size f.height && ((f.class == 0) && f.wide && is_top_alone f.places && f.bang && not (f.deep || f.nobreak))

-- an item on its line; a float, a title and a note have the line of their item
abbrev pub is_item : ℕ → ItemKind → Bool
is_item n (items.Hbox name h d) = is_name name && is_size h && is_size d
is_item n (items.Rule name h d) = is_name name && is_size h && is_size d
is_item n (items.Skip g) = is_glue g
is_item n (items.Kern w) = is_dimen w
is_item n (items.Penalty p) = is_within (neg_ℤ (pos 10000)) (pos 10000) p
is_item n (items.Mark name) = is_name name
is_item n (items.Note name) = is_name name
is_item n (items.Foot class ls) = list_all (λ l. is_leaf l.kind) ls
is_item n (items.Float f vert) = (f.line == n) && is_float f
is_item n (items.Margin m vert) = (m.line == n) && is_margin m
is_item n items.NewPage = true
is_item n items.ClearPage = true
is_item n (items.PageBreak k) = nat_le k 4
is_item n (items.NoPageBreak k) = nat_le k 4
is_item n items.OneColumn = true
is_item n items.TwoColumn = true
is_item n (items.Suppress area) = true
is_item n (items.Page k) = nat_le k 1000000
is_item n (items.Head f) = (f.line == n) && is_head f
is_item n (items.Enlarge by star) = is_dimen by
is_item n (items.Set c) = is_in_range c

-- how many lines of items an item counts for
abbrev pub weight_of : ItemKind → ℕ
weight_of (items.Foot class ls) = length ls + 2
weight_of _ = 1

-- how many lines of items all count for
abbrev pub weight : List Item → ℕ
weight [] = 0
weight (n ∷ ns) = weight_of n.kind + weight ns

-- the lines that must rise: those of boxes, rules, floats, titles and notes, and of what is in feet
abbrev pub leaf_lines : List Leaf → List ℕ
leaf_lines [] = []
leaf_lines (l ∷ ls) = l.line ∷ leaf_lines ls

-- the lines of an item that must rise
abbrev pub lines_of_item : ℕ → ItemKind → List ℕ
lines_of_item n (items.Hbox name h d) = n ∷ []
lines_of_item n (items.Rule name h d) = n ∷ []
lines_of_item n (items.Foot class ls) = leaf_lines ls
lines_of_item n (items.Float f vert) = n ∷ []
lines_of_item n (items.Margin m vert) = n ∷ []
lines_of_item n (items.Head f) = n ∷ []
lines_of_item n _ = []

-- the same of all items in order
abbrev pub named_lines : List Item → List ℕ
named_lines [] = []
named_lines (n ∷ ns) = lines_of_item n.line n.kind ++ named_lines ns

-- each number is greater than the one before it
abbrev pub rise_from : ℕ → List ℕ → Bool
rise_from n [] = true
rise_from n (m ∷ ms) = nat_lt n m && rise_from m ms

-- ---- versions and classes

-- a class in its ranges
abbrev pub is_class : ClassLine → Bool
is_class c = nat_le c.number 253 && is_within (pos 0) (pos 10000) c.factor && is_size c.limit && is_glue c.skip

-- a class may stand below footnotes from version 3 on, with a rule in its range
abbrev pub may_stand : ℕ → Option (Option Rule) → Bool
may_stand version None = true
may_stand version (Some r) = nat_le 3 version && is_rule r

-- each class may stand where it does
abbrev pub do_all_stand : ℕ → List ClassLine → Bool
do_all_stand version cs = list_all (λ c. may_stand version c.below) cs

-- the class of a footnote is 254 or one of these; other items have none
abbrev pub has_known_class : List ℕ → ItemKind → Bool
has_known_class ks (items.Foot class ls) = is_class_among ks class
has_known_class ks _ = true

-- both hold or neither does
abbrev pub is_both : Bool → Bool → Bool
is_both true b = b
is_both false b = not b

-- `nobreak` is there from version 3 on, and a double float has a depth from then on
abbrev pub fits_kind : ℕ → ItemKind → Bool
fits_kind version (items.Float f vert) = is_both f.deep (f.wide && (version == 3)) && (not f.nobreak || (version == 3))
fits_kind version (items.Margin m vert) = not m.nobreak || (version == 3)
fits_kind version _ = true

-- a version of the galley
abbrev pub is_version : ℕ → Bool
is_version version = (version == 1) || (version == 2) || (version == 3)

-- a galley of version 1 declares no class
abbrev pub fits_version : ℕ → List ClassLine → Bool
fits_version version [] = is_version version
fits_version version (c ∷ cs) = (version == 2) || (version == 3)

-- a galley of version 3 alone sets the page number and other parameters among its items, and has titles and pages that are made higher
abbrev pub fits_word : ℕ → ItemKind → Bool
fits_word version (items.Page k) = version == 3
fits_word version (items.Head f) = version == 3
fits_word version (items.Enlarge by star) = version == 3
fits_word version (items.Set c) = version == 3
fits_word version _ = true

-- what stands directly before the item after this one; a parameter that is set changes nothing
abbrev pub behind_after : Behind → ItemKind → Behind
behind_after b items.ClearPage = behind_clear
behind_after b items.OneColumn = behind_clear
behind_after b items.TwoColumn = behind_two
behind_after b (items.Set c) = b
behind_after b _ = behind_other

-- a title may come directly after a change to two columns
abbrev pub may_head : Behind → Bool
may_head behind_two = true
may_head _ = false

-- a parameter may be set among the items, not before them; a measure only where no float waits; one that holds for the whole galley nowhere
abbrev pub may_set : Behind → SetPlace → Bool
may_set behind_nothing _ = false
may_set behind_other places.Anywhere = true
may_set behind_other _ = false
may_set _ places.Nowhere = false
may_set _ _ = true

-- a title, and a parameter that is set, may come here; all other items may come anywhere
abbrev pub may_come : Behind → ItemKind → Bool
may_come b (items.Head f) = may_head b
may_come b (items.Set c) = may_set b (set_place c.field)
may_come b _ = true

-- each title and each parameter that is set stands where it may
abbrev pub do_items_stand : Behind → List Item → Bool
do_items_stand b [] = true
do_items_stand b (n ∷ ns) = may_come b n.kind && do_items_stand (behind_after b n.kind) ns

-- each parameter that a galley of the version does not have has its default
abbrev pub OthersDefault : ℕ → Params → Type 0
OthersDefault version p = (field : Field) → is_known_in version field ≡ false → value_of field p ≡ value_of field default_params

-- all values are in their ranges, the version has what the galley has, the parameters that it does not have have their defaults, classes stand where they may, each footnote's class is declared, floats and notes are as the version has them, titles and parameters that are set among the items stand where they may, the items are not too many, and the lines rise
pub record IsValid (g : Galley) : Type 0 where
  pub params : IsTrue (are_params g.params)
  pub others : OthersDefault g.version g.params
  pub version : IsTrue (fits_version g.version g.classes)
  pub words : IsTrue (list_all (λ n. fits_word g.version n.kind) g.items)
  pub classes : IsTrue (list_all is_class g.classes && do_classes_rise g.classes)
  pub standing : IsTrue (do_all_stand g.version g.classes)
  pub items : IsTrue (list_all (λ n. is_item n.line n.kind) g.items)
  pub feet : IsTrue (list_all (λ n. has_known_class (map (λ c. c.number) g.classes) n.kind) g.items)
  pub kinds : IsTrue (list_all (λ n. fits_kind g.version n.kind) g.items)
  pub order : IsTrue (do_items_stand behind_nothing g.items)
  pub count : IsTrue (nat_le (weight g.items) 100000)
  pub lines : IsTrue (rise_from 0 (named_lines g.items ++ g.end_line ∷ []))
