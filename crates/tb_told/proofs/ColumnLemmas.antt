-- The floats that are told to be taken are those of the company, and each test that is told is one of the definition.
use Rattle.std.proofs.Common.{◌≡◌, Bool, true, false, List, [], ◌∷◌, ◌++◌, map, Some, refl, sym, ap, ◌∙◌, append_assoc}
use Rattle.std.specs.Prelude.{◌&&◌, ◌||◌, not, Option, int_le, if◌then◌else◌}
use Rattle.std.specs.Bool.{beq}
use Rattle.tb_node.specs.declared.Float.{Float}
use Rattle.tb_float.specs.Lists.{has_class}
use Rattle.tb_told.specs.Tested.{all_hold}
use Rattle.tb_fpage.specs.declared.Wanted.{Wanted}
use Rattle.tb_fpage.specs.Company.{Choice, passed_over, all_chosen, joins, company_of_head, is_head, is_made, company_from, company, chosen_floats}
use Rattle.tb_told.specs.declared.ToldColumn.{ToldColumn}
use Rattle.tb_told.specs.declared.ToldColumn.TheVariants.{Companied, Takes, Joins}
use Rattle.tb_told.specs.ColumnTold.{alone_tests, joins_tests, sum_with, joins_told, if_of_width, made_told, told_joins, told_made, told_head, told_float, told_from, told_column, floats_told, taken_floats}

-- ---- the tests are those of the definition

alone_and : (a b c : Bool) → (a && (b && (c && true))) ≡ ((a && true && b) && c)
alone_and false b c = refl
alone_and true false c = refl
alone_and true true false = refl
alone_and true true true = refl

-- a float of the column's width heads a company exactly if all its tests hold
pub heads_if : (z : Wanted) (before : List Float) (f : Float) → beq f.wide z.wide ≡ true → all_hold (alone_tests z before f) ≡ is_head z before f
heads_if z before f wide =
    alone_and (f.places.p || z.clearing) (int_le f.height z.height) (not (has_class f.class before))
    ∙ ap (λ b. ((f.places.p || z.clearing) && b && int_le f.height z.height) && not (has_class f.class before)) (sym wide)

joins_and : (a b c d : Bool) → (a && (b && (c && (d && true)))) ≡ ((a && true && b) && c && d)
joins_and false b c d = refl
joins_and true false c d = refl
joins_and true true false d = refl
joins_and true true true false = refl
joins_and true true true true = refl

-- it joins exactly if all its tests hold
pub joins_if : (z : Wanted) (before : List Choice) (f : Float) → beq f.wide z.wide ≡ true → all_hold (joins_tests z before f) ≡ joins z before f
joins_if z before f wide =
    joins_and (f.places.p || z.clearing) (int_le f.height z.height) (all_chosen f.class before) (int_le (sum_with z before f) z.height)
    ∙ ap (λ b. ((f.places.p || z.clearing) && b && int_le f.height z.height) && all_chosen f.class before && int_le (sum_with z before f) z.height) (sym wide)

-- ---- the floats that are taken

width_by : (b : Bool) (f : Float) (before : List Choice) (z : Wanted) (ts : List ToldColumn) → floats_told ((if b then Joins f (joins_told z before f) ∷ [] else []) ++ ts) ≡ floats_told ts
width_by true f before z ts = refl
width_by false f before z ts = refl

-- what is told of the floats that join says nothing of floats that are taken
after_joins : (z : Wanted) (before : List Choice) (fs : List Float) (ts : List ToldColumn) → floats_told (told_joins z before fs ++ ts) ≡ floats_told ts
after_joins z before [] ts = refl
after_joins z before (f ∷ fs) ts =
    let later = told_joins z (before ++ record { float = f; chosen = joins z before f } ∷ []) fs in
    ap floats_told (append_assoc (if_of_width z f (Joins f (joins_told z before f))) later ts)
    ∙ width_by (beq f.wide z.wide) f before z (later ++ ts)
    ∙ after_joins z (before ++ record { float = f; chosen = joins z before f } ∷ []) fs ts

all_taken : (fs : List Float) → floats_told (map (λ g. Takes g) fs) ≡ fs
all_taken [] = refl
all_taken (f ∷ fs) = ap (λ gs. f ∷ gs) (all_taken fs)

made_takes : (z : Wanted) (before : List Float) (f : Float) (fs : List Float) → floats_told (told_made z before f fs) ≡ chosen_floats (company_of_head z before f fs)
made_takes z before f fs =
    let cs = company_of_head z before f fs in
    after_joins z (passed_over before ++ record { float = f; chosen = true } ∷ []) fs (Companied f (made_told z cs) ∷ map (λ g. Takes g) (chosen_floats cs))
    ∙ all_taken (chosen_floats cs)

head_by : (made : Bool) (t : ToldColumn) (x later : List ToldColumn) (cs : List Choice) (found : Option (List Choice)) → floats_told (t ∷ []) ≡ [] →
    floats_told (t ∷ later) ≡ floats_told later → floats_told x ≡ chosen_floats cs → floats_told later ≡ taken_floats found →
    floats_told (if made then x else t ∷ later) ≡ taken_floats (if made then Some cs else found)
head_by true t x later cs found none skip e d = e
head_by false t x later cs found none skip e d = skip ∙ d

float_by : (hold head made : Bool) (x later : List ToldColumn) (cs : List Choice) (found : Option (List Choice)) → hold ≡ head →
    floats_told x ≡ taken_floats (if made then Some cs else found) → floats_told later ≡ taken_floats found →
    floats_told (if hold then x else later) ≡ taken_floats (if head && made then Some cs else found)
float_by true true made x later cs found is e d = e
float_by false false made x later cs found is e d = d
float_by true false made x later cs found is e d = cc
float_by false true made x later cs found is e d = cc

-- a float of the other width heads no company
other_by : (a wide b c made : Bool) (cs : List Choice) (found : Option (List Choice)) → wide ≡ false → taken_floats found ≡ taken_floats (if ((a && wide && b) && c) && made then Some cs else found)
other_by false wide b c made cs found e = refl
other_by true false b c made cs found e = refl
other_by true true b c made cs found e = cc

wide_by : (w : Bool) (x later : List ToldColumn) (found : List Float) → (w ≡ true → floats_told x ≡ found) → (w ≡ false → floats_told later ≡ found) → floats_told (if w then x else later) ≡ found
wide_by true x later found e d = e refl
wide_by false x later found e d = d refl

from_takes : (z : Wanted) (before fs : List Float) → floats_told (told_from z before fs) ≡ taken_floats (company_from z before fs)
from_takes z before [] = refl
from_takes z before (f ∷ fs) =
    let cs = company_of_head z before f fs in
    let later = told_from z (before ++ f ∷ []) fs in
    let found = company_from z (before ++ f ∷ []) fs in
    let rest = from_takes z (before ++ f ∷ []) fs in
    wide_by (beq f.wide z.wide) (told_float z before f fs later) later (taken_floats (if is_head z before f && is_made z cs then Some cs else found))
    (λ wide. float_by (all_hold (alone_tests z before f)) (is_head z before f) (is_made z cs) (told_head z before f fs later) later cs found (heads_if z before f wide)
    (head_by (is_made z cs) (Companied f (made_told z cs)) (told_made z before f fs) later cs found refl refl (made_takes z before f fs) rest) rest)
    (λ narrow. rest ∙ other_by (f.places.p || z.clearing) (beq f.wide z.wide) (int_le f.height z.height) (not (has_class f.class before)) (is_made z cs) cs found narrow)

-- the floats that are told to be taken are those of the company that makes the column
pub column_takes : (z : Wanted) (fs : List Float) → floats_told (told_column z fs) ≡ taken_floats (company z fs)
column_takes z fs = from_takes z [] fs
