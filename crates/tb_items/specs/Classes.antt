-- The classes of insertions of a galley.
use Rattle.std.specs.Prelude.{pos, List, [], ◌∷◌, ◌++◌, map, None}
use Rattle.tb_scaled.specs.Scaled.{max_dimen}
use Rattle.tb_scaled.specs.Glue.{fixed_glue}
use Rattle.tb_param.specs.declared.Params.{Params}
use Rattle.tb_insert.specs.declared.Class.{Class}
use Rattle.tb_galley.specs.declared.ClassLine.{ClassLine}
use Rattle.tb_galley.specs.declared.Galley.{Galley}

-- the class of footnotes: number 254, factor 1000, with `footlimit` and `skipfootins`
abbrev pub foot_class : Params → Class
foot_class p = record { number = 254; factor = pos 1000; limit = p.footlimit; below = None; skip = p.skipfootins }

-- a class that a galley declares
abbrev pub class_of : ClassLine → Class
class_of c = record { number = c.number; factor = c.factor; limit = c.limit; below = c.below; skip = c.skip }

-- the class of what makes a page higher: number 255, factor 1000, no limit and no skip (LaTeX, \@kludgeins)
abbrev pub enlarging_class : Class
enlarging_class = record { number = 255; factor = pos 1000; limit = max_dimen; below = None; skip = fixed_glue (pos 0) }

-- the classes of a galley in rising number, that of the footnotes and that of what makes a page higher last
abbrev pub classes_of : Galley → List Class
classes_of g = map class_of g.classes ++ foot_class g.params ∷ enlarging_class ∷ []
