-- The places of a galley: the items before which a page break may be put in.
use Rattle.std.specs.Prelude.{ℕ, suc, ℤ, Bool, true, false, ◌&&◌, nat_lt, int_lt, List, [], ◌∷◌, ◌++◌, if◌then◌else◌}
use Rattle.tb_scaled.specs.Scaled.{inf_penalty, eject_penalty}
use Rattle.tb_param.specs.declared.Params.{Params}
use Rattle.tb_param.specs.Release.{has_second}
use Rattle.tb_galley.specs.declared.Item.{Item}
use Rattle.tb_galley.specs.declared.ItemKind.{ItemKind}
use Rattle.tb_galley.specs.declared.ItemKind.TheVariants as items
use Rattle.tb_galley.specs.declared.Galley.{Galley}
use Rattle.tb_galley.specs.GalleyNodes.{two_after}
use Rattle.tb_plans.specs.declared.walk.Before.{Before}
use Rattle.tb_plans.specs.declared.walk.Before.TheVariants as befores

-- an item that gives acts alone is looked past: a suppressed area, the page number, a title over both columns, a parameter that is set, and in release 2014 a wide float in two columns
abbrev pub is_looked_past : Params → Bool → ItemKind → Bool
is_looked_past p two (items.Float f vert) = has_second p && two && f.wide
is_looked_past p two (items.Suppress area) = true
is_looked_past p two (items.Page n) = true
is_looked_past p two (items.Head f) = true
is_looked_past p two (items.Set c) = true
is_looked_past p two _ = false

-- what an item is to the place after it: nondiscardable, as also the insertion of a page that is made higher, so that glue after it is a legal breakpoint; a call of a float or of a marginal note; or neither
abbrev pub before_by : ItemKind → Before
before_by (items.Hbox name h d) = befores.Nondiscardable
before_by (items.Rule name h d) = befores.Nondiscardable
before_by (items.Mark name) = befores.Nondiscardable
before_by (items.Note name) = befores.Nondiscardable
before_by (items.Foot class ls) = befores.Nondiscardable
before_by (items.Enlarge by star) = befores.Nondiscardable
before_by (items.Float f vert) = befores.Call
before_by (items.Margin m vert) = befores.Call
before_by _ = befores.Other

-- what is before an item that comes after one that is looked past
abbrev pub past : Before → Before
past befores.Nothing = befores.Other
past b = b

-- the same after an item, which may be looked past
abbrev pub before_after : Params → Bool → Before → ItemKind → Before
before_after p two b k = if is_looked_past p two k then past b else before_by k

-- a call of a float or of a marginal note is before
abbrev pub is_call : Before → Bool
is_call befores.Call = true
is_call _ = false

-- glue is a legal breakpoint after it, or stands between two lines
abbrev pub lets_glue_break : Before → Bool
lets_glue_break befores.Nondiscardable = true
lets_glue_break befores.Call = true
lets_glue_break _ = false

-- something is before
abbrev pub is_later : Before → Bool
is_later befores.Nothing = false
is_later _ = true

abbrev pub is_glue : ItemKind → Bool
is_glue (items.Skip g) = true
is_glue _ = false

-- the next item that is not looked past is glue
abbrev pub is_glue_next : Params → Bool → List Item → Bool
is_glue_next p two [] = false
is_glue_next p two (n ∷ ns) = if is_looked_past p two n.kind then is_glue_next p two ns else is_glue n.kind

-- the penalty neither forces a break nor forbids one
abbrev pub allows_break : ℤ → Bool
allows_break v = int_lt eject_penalty v && int_lt v inf_penalty

-- a break may be put in before an item that is not the first: before glue after what is nondiscardable, before a kern that glue follows, before a penalty that neither forces nor forbids a break, and before what a text is made of right after a call, since the call stood between two lines
abbrev pub lets_break : Bool → Before → ItemKind → Bool
lets_break glue_next b (items.Hbox name h d) = is_call b
lets_break glue_next b (items.Rule name h d) = is_call b
lets_break glue_next b (items.Skip g) = lets_glue_break b
lets_break glue_next b (items.Kern w) = if glue_next then true else is_call b
lets_break glue_next b (items.Penalty v) = allows_break v
lets_break glue_next b (items.Mark name) = is_call b
lets_break glue_next b (items.Note name) = is_call b
lets_break glue_next b (items.Foot class ls) = is_call b
lets_break glue_next b (items.PageBreak n) = nat_lt n 4
lets_break glue_next b (items.NoPageBreak n) = nat_lt n 4
lets_break glue_next b _ = false

-- an item is a place
abbrev pub is_place : Bool → Before → ItemKind → Bool
is_place glue_next b k = is_later b && lets_break glue_next b k

-- the number, if it is of a place
abbrev pub if_place : ℕ → Bool → List ℕ
if_place k here = if here then k ∷ [] else []

-- the numbers of the places among items, the first of which has the number k
abbrev pub places_from : Params → Bool → Before → ℕ → List Item → List ℕ
places_from p two b k [] = []
places_from p two b k (n ∷ ns) =
    if_place k (is_place (is_glue_next p two ns) b n.kind) ++ places_from p (two_after two n.kind) (before_after p two b n.kind) (suc k) ns

-- the places of a galley: the numbers of its items, counted from 0, before which a page break may be put in; it begins in one column
unfoldable pub places_of : Galley → List ℕ
places_of g = places_from g.params false befores.Nothing 0 g.items
