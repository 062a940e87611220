-- Moving floats between the lists loses nothing.
use Rattle.std.proofs.Common.{◌≡◌, refl, sym, ◌∙◌, ap, subst, ℕ, ◌+◌, Bool, true, false, List, [], ◌∷◌, ◌++◌, arith}
use Rattle.std.specs.Prelude.{if◌then◌else◌}
use Rattle.tb_node.specs.declared.Float.{Float}
use Rattle.tb_node.specs.declared.Where.{Where}
use Rattle.tb_node.specs.declared.Where.TheVariants as places
use Rattle.tb_node.proofs.Weights.{Weight, nodes_weight}
use Rattle.tb_param.specs.declared.Params.{Params}
use Rattle.tb_builder.proofs.FiredPages.PageWeights.{boxes_weight}
use Rattle.tb_float.specs.declared.Part.{Part}
use Rattle.tb_float.specs.declared.Part.TheVariants as parts
use Rattle.tb_float.specs.Lists.{FloatLists, floats_of, with_floats_of, IsWaiting, wide_part}
use Rattle.tb_float.proofs.WaitingLemmas.{wide-waits}
use Rattle.tb_float.specs.Rooms.{column_height_of}
use Rattle.tb_area.specs.Area.{AreaPlace, at_top, at_bottom, deferred, where_of}
use Rattle.tb_output.specs.State.{Work, Recorded, placed, records_also, with_floats}
use Rattle.tb_output.specs.FloatMoves
use Rattle.tb_output.proofs.StepLaws.FollowLemmas.{records-state, joined-current, part-current}
use Rattle.tb_laws.proofs.NothingLost.StateWeights.{floats_weight, lists_weight, left_weight, sent_weight, floats-append, Paired, Adds, then_kept, records-adds}

-- ---- moving floats

pub lists-adds : (v : Weight) (l : FloatLists) (w : Work) → (Paired w.state.floats.current → Paired l.current) → lists_weight v l ≡ lists_weight v w.state.floats → Adds v 0 w (with_floats l w)
lists-adds v l w h e = record { waits = refl; classes = refl; goes = λ k. k; by = λ k s. (record { box = s.box; bare = s.bare; columns = s.columns; entries = h s.entries }, sums (nodes_weight v w.state.waiting + boxes_weight v w.state.boxes + nodes_weight v w.state.held_page) (lists_weight v w.state.floats) (lists_weight v l) (left_weight v w.state.left_column) (nodes_weight v w.put_back) (sent_weight v w.sent) e) }
  where
    sums : (a b c d x y : ℕ) → c ≡ b → a + c + d + x + y ≡ a + b + d + x + y + 0
    sums a b c d x y e = omega arith

one-more : (v : Weight) (fs : List Float) (f : Float) → floats_weight v (fs ++ f ∷ []) ≡ floats_weight v fs + v.float f.line
one-more v fs f = let e : floats_weight v (fs ++ f ∷ []) ≡ floats_weight v fs + (v.float f.line + 0) = floats-append v fs (f ∷ []) in omega arith

-- the float joins a list that weighs
abbrev pub Joins : Where → Type 0
Joins places.Here = ⊥
Joins places.Top = Unit {0}
Joins places.Bottom = Unit {0}
Joins places.Page = ⊥
Joins places.Double = Unit {0}
Joins places.Deferred = Unit {0}

joined-weight : (v : Weight) (place : Where) (f : Float) (l : FloatLists) → Joins place → lists_weight v (FloatMoves.joined_to place f l) ≡ lists_weight v l + v.float f.line
joined-weight v places.Here f l j = absurd j
joined-weight v places.Top f l j = let e : floats_weight v (l.top ++ f ∷ []) ≡ floats_weight v l.top + v.float f.line = one-more v l.top f in omega arith
joined-weight v places.Bottom f l j = let e : floats_weight v (l.bottom ++ f ∷ []) ≡ floats_weight v l.bottom + v.float f.line = one-more v l.bottom f in omega arith
joined-weight v places.Page f l j = absurd j
joined-weight v places.Double f l j = let e : floats_weight v (l.double ++ f ∷ []) ≡ floats_weight v l.double + v.float f.line = one-more v l.double f in omega arith
joined-weight v places.Deferred f l j = let e : floats_weight v (l.deferred ++ f ∷ []) ≡ floats_weight v l.deferred + v.float f.line = one-more v l.deferred f in omega arith

-- a float that the lists had goes to a list
pub placed-adds : (v : Weight) (p : Params) (place : Where) (f : Float) (left : FloatLists) (w : Work) → Joins place → (Paired w.state.floats.current → Paired left.current) → lists_weight v w.state.floats ≡ lists_weight v left + v.float f.line → Adds v 0 w (FloatMoves.place_float p place f left w)
placed-adds v p place f left w j h e = by_record (FloatMoves.is_placed place)
  where
    r : Recorded
    r = placed p f place w.state.floats (column_height_of p w.state.floats)

    l : FloatLists
    l = FloatMoves.joined_to place f left

    paired : Paired w.state.floats.current → Paired l.current
    paired x = subst Paired (sym (joined-current place f left)) (h x)

    here : (a : Work) → a.state ≡ w.state → Adds v 0 a (with_floats l a)
    here a q = lists-adds v l a (λ x. paired (subst (λ s. Paired s.floats.current) q x)) (joined-weight v place f left j ∙ sym e ∙ sym (ap (λ s. lists_weight v s.floats) q))

    by_record : (t : Bool) → Adds v 0 w (with_floats l (if t then records_also r w else w))
    by_record true = then_kept v 0 w (records_also r w) (with_floats l (records_also r w)) (records-adds v r w) (here (records_also r w) (records-state r w))
    by_record false = here w refl

-- ---- the lists in which floats wait

-- the two boxes of a note stay side by side when another list changes
pub paired-with : (from : Part) → IsWaiting from → (fs : List Float) (l : FloatLists) → Paired l.current → Paired (with_floats_of from fs l).current
paired-with from h fs l x = subst Paired (sym (part-current from h fs l)) x

-- the lists with other floats in one of them
pub lists-with : (v : Weight) (from : Part) → IsWaiting from → (fs : List Float) (l : FloatLists) → lists_weight v (with_floats_of from fs l) + floats_weight v (floats_of from l) ≡ lists_weight v l + floats_weight v fs
lists-with v parts.Deferred h fs l = omega arith
lists-with v parts.Second h fs l = omega arith
lists-with v from h fs l = absurd h

-- a float leaves the list in which it waited
lighter : (v : Weight) (from : Part) → IsWaiting from → (f : Float) (before rest : List Float) (l : FloatLists) → floats_of from l ≡ before ++ f ∷ rest → lists_weight v l ≡ lists_weight v (with_floats_of from (before ++ rest) l) + v.float f.line
lighter v from q f before rest l e =
    sums (lists_weight v (with_floats_of from (before ++ rest) l)) (floats_weight v (floats_of from l)) (lists_weight v l) (floats_weight v (before ++ rest)) (floats_weight v before) (floats_weight v rest) (v.float f.line)
    (lists-with v from q (before ++ rest) l) (ap (floats_weight v) e ∙ floats-append v before (f ∷ rest)) (floats-append v before rest)
  where
    sums : (a b c d x y z : ℕ) → a + b ≡ c + d → b ≡ x + (z + y) → d ≡ x + y → c ≡ a + z
    sums a b c d x y z e g i = omega arith

area-joins : (a : AreaPlace) → Joins (where_of a)
area-joins at_top = tt
area-joins at_bottom = tt
area-joins deferred = tt

pub next-adds : (v : Weight) (p : Params) (a : AreaPlace) (f : Float) (before rest : List Float) (w : Work) → w.state.floats.deferred ≡ before ++ f ∷ rest → Adds v 0 w (FloatMoves.place_float p (where_of a) f (record w.state.floats { deferred = before ++ rest }) w)
next-adds v p a f before rest w e = placed-adds v p (where_of a) f (record w.state.floats { deferred = before ++ rest }) w (area-joins a) (λ x. x) (lighter v parts.Deferred tt f before rest w.state.floats e)

pub double-adds : (v : Weight) (p : Params) (f : Float) (before rest : List Float) (w : Work) → floats_of (wide_part p) w.state.floats ≡ before ++ f ∷ rest → Adds v 0 w (FloatMoves.place_float p places.Double f (with_floats_of (wide_part p) (before ++ rest) w.state.floats) w)
double-adds v p f before rest w e =
    let from = wide_part p in
    placed-adds v p places.Double f (with_floats_of from (before ++ rest) w.state.floats) w tt (λ x. paired-with from (wide-waits p) (before ++ rest) w.state.floats x) (lighter v from (wide-waits p) f before rest w.state.floats e)
