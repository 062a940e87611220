-- A walk over the floats that wait: its start, a float that stays, one that goes, and its end.
use Rattle.std.proofs.Common.{◌≡◌, ◌≢◌, ℕ, zero, suc, ◌+◌, ◌<◌, ◌≤◌, Bool, true, false, List, [], ◌∷◌, ◌++◌, length, take, drop, Some, slice_get, refl, sym, ap, subst, ◌∙◌, arith}
use Rattle.std.specs.Prelude.{if◌then◌else◌, All}
use Rattle.std.proofs.Math.ListN.{drop_of_length-le}
use Rattle.std.proofs.Math.Seq.{take-length}
use Rattle.std.proofs.lemmas.List.{length-append, length-take-le}
use Rattle.std.proofs.lemmas.Option.{same_Some, slice_get_within, get_or_from_slice_get}
use Rattle.tb_node.specs.declared.Float.{Float}
use Rattle.tb_node.specs.declared.Where.{Where}
use Rattle.tb_node.specs.declared.Where.TheVariants.{Top, Bottom, Double, Deferred}
use Rattle.tb_param.specs.declared.params.Params.{Params}
use Rattle.tb_float.specs.declared.Entry.{Entry}
use Rattle.tb_float.specs.declared.Part.{Part}
use Rattle.tb_float.specs.declared.Part.TheVariants as parts
use Rattle.tb_float.specs.declared.Suppress.{Suppress}
use Rattle.tb_float.specs.Classes.{AreClassesOf, AreOfClasses, HasLeft}
use Rattle.tb_float.specs.Lists.{FloatLists, float_entries, floats_of, has_class, without_place, IsWaiting}
use Rattle.tb_float.specs.Pool.{FloatPool, HasNoMarks, moved_float}
use Rattle.tb_float.specs.Ranges.{IsSizedFloat, IsExtent}
use Rattle.tb_float.proofs.ListLemmas.{slice_get-drop, without_place-parts, length-without_place, take-at, whole-at, take-front, drop-front}
use Rattle.tb_area.specs.declared.deferred.Kept.{Kept}
use Rattle.tb_area.specs.Area.{AreaPlace, at_top, at_bottom, deferred, where_of, next_area_place, next_place, goes_double, double_place}
use Rattle.tb_area.specs.Deferred.{gone_to, still_before, filled, gone_double, still_single, doubled}
use Rattle.tb_area.specs.DeferredWalk.{IsOnWay, GoesOn, FindsNext}
use Rattle.tb_area.proofs.OrderLemmas.{gone-deferred, gone_double-waiting}
use Rattle.tb_float.proofs.HasLemmas.{has-there}
use Rattle.tb_area.proofs.FullLemmas.{Walk, Stays, left-without, all-classes, walk-passed, entry-closed, double-closed}

-- ---- start and end

pub way-start : (from : Part) (walk : Walk) (w : Kept) (l : FloatLists) → w.count ≡ 0 → AreClassesOf w.classes [] → HasLeft w.classes (floats_of from l) → IsOnWay from walk w l (walk [] (floats_of from l) l)
way-start from walk w l none classes left = record {
  within = omega (arith, none);
  classes = subst (λ n. AreClassesOf w.classes (take n (floats_of from l))) (sym none) classes;
  left = left;
  ends = ap (λ n. walk (take n (floats_of from l)) (drop n (floats_of from l)) l) none;
}

-- if none is left, the lists are those with which the walk ends
pub way-over : (from : Part) (walk : Walk) (w : Kept) (l end : FloatLists) → ((before : List Float) (m : FloatLists) → walk before [] m ≡ m) → length (floats_of from l) ≤ w.count → IsOnWay from walk w l end → l ≡ end
way-over from walk w l end stops over way =
    let fs = floats_of from l in
    sym (stops (take w.count fs) l) ∙ ap (λ left. walk (take w.count fs) left l) (sym (drop_of_length-le fs over)) ∙ way.ends

-- the next entry is that of the float at this place, and the others come behind it
abbrev pub IsNextEntry : List Float → ℕ → Float → List Entry → Type 0
IsNextEntry fs k f es = (slice_get fs k ≡ Some f) × (es ≡ float_entries (drop (suc k) fs))

-- ---- what it finds

-- the float where it has come has a place
pub finds-place : (from : Part) (walk : Walk) (place_of : List Float → Float → Where) (l : FloatLists) (u w : Kept) (f : Float) (found : Where) → GoesOn from walk l u w → slice_get (floats_of from l) w.count ≡ Some f → found ≢ Deferred → ((before : List Float) → AreClassesOf w.classes before → found ≡ place_of before f) → FindsNext from walk place_of l u w found
finds-place from walk place_of l u w f found way there goes is =
    let before = take w.count (floats_of from l) in
    record {
      way = way;
      within = λ ne. slice_get_within (floats_of from l) w.count f there;
      place = λ end g h got. is before (way end h).classes ∙ ap (place_of before) (same_Some f g (sym there ∙ got));
      over = λ e. absurd (goes e);
    }

-- none is left
pub finds-none : (from : Part) (walk : Walk) (place_of : List Float → Float → Where) (l : FloatLists) (u w : Kept) → GoesOn from walk l u w → length (floats_of from l) ≤ w.count → FindsNext from walk place_of l u w Deferred
finds-none from walk place_of l u w way past = record {
  way = way;
  within = λ ne. absurd (ne refl);
  place = λ end f h got. absurd (omega (arith, past, slice_get_within (floats_of from l) w.count f got));
  over = λ e. past;
}

-- ---- the next float stays

pub way-stays : (from : Part) (walk : Walk) (w v : Kept) (l : FloatLists) (f : Float) → v.count ≡ w.count + 1 → slice_get (floats_of from l) w.count ≡ Some f → ((before : List Float) → AreClassesOf w.classes before → AreClassesOf v.classes (before ++ f ∷ [])) → ((all : List Float) → has_class f.class all ≡ true → HasLeft w.classes all → HasLeft v.classes all) → ((before rest : List Float) → AreClassesOf w.classes before → walk before (f ∷ rest) l ≡ walk (before ++ f ∷ []) rest l) → GoesOn from walk l w v
way-stays from walk w v l f more there classes left stays end way =
    let fs = floats_of from l in
    let k = w.count in
    let at : v.count ≡ suc k = omega (arith, more) in
    record {
      within = omega (arith, more, slice_get_within fs k f there);
      classes = subst (AreClassesOf v.classes) (sym (ap (λ n. take n fs) at ∙ take-at fs k f there)) (classes (take k fs) way.classes);
      left = left fs (has-there fs k f there) way.left;
      ends =
          ap (λ n. walk (take n fs) (drop n fs) l) at ∙ ap (λ b. walk b (drop (suc k) fs) l) (take-at fs k f there) ∙ sym (stays (take k fs) (drop (suc k) fs) way.classes)
          ∙ ap (λ left. walk (take k fs) left l) (sym (slice_get-drop k fs f there)) ∙ way.ends;
    }

-- ---- those of classes that stay

-- if one of a class that stays always stays, those up to a later place stay where no other class is between
pub way-passed : (from : Part) (walk : Walk) (w v : Kept) (l : FloatLists) → Stays walk l → w.count ≤ v.count → v.count ≤ length (floats_of from l) → v.classes ≡ w.classes → AreOfClasses (take w.count (floats_of from l)) (take v.count (floats_of from l)) → GoesOn from walk l w v
way-passed from walk w v l stays later within same passed end way =
    let fs = floats_of from l in
    record {
      within = within;
      classes = subst (λ s. AreClassesOf s (take v.count fs)) (sym same) (all-classes w.classes w.count v.count fs later way.classes passed);
      left = subst (λ s. HasLeft s fs) (sym same) way.left;
      ends = sym (walk-passed walk l w.count v.count fs later stays passed) ∙ way.ends;
    }

-- if each float is of such a class, none is left
pub finds-full : (from : Part) (walk : Walk) (place_of : List Float → Float → Where) (l : FloatLists) (u w : Kept) (n : ℕ) → Stays walk l → n ≡ length (floats_of from l) → GoesOn from walk l u w → ((end : FloatLists) → IsOnWay from walk w l end → AreOfClasses (take w.count (floats_of from l)) (floats_of from l)) → FindsNext from walk place_of l u (record w { count = n }) Deferred
finds-full from walk place_of l u w n stays all way full =
    let fs = floats_of from l in
    let v : Kept = record w { count = n } in
    let taken : take n fs ≡ fs = ap (λ k. take k fs) all ∙ take-length fs in
    let to_end : GoesOn from walk l w v = λ end h. way-passed from walk w v l stays (omega (arith, all, h.within)) (omega (arith, all)) refl (subst (AreOfClasses (take w.count fs)) (sym taken) (full end h)) end h in
    finds-none from walk place_of l u v (λ end h. to_end end (way end h)) (omega (arith, all))

-- ---- the next float goes

way-goes : (from : Part) (walk : Walk) (w : Kept) (l m end : FloatLists) (f : Float) → slice_get (floats_of from l) w.count ≡ Some f → floats_of from m ≡ take w.count (floats_of from l) ++ drop (suc w.count) (floats_of from l) → walk (take w.count (floats_of from l)) (f ∷ drop (suc w.count) (floats_of from l)) l ≡ walk (take w.count (floats_of from l)) (drop (suc w.count) (floats_of from l)) m → IsOnWay from walk w l end → IsOnWay from walk w m end
way-goes from walk w l m end f there are goes way =
    let fs = floats_of from l in
    let k = w.count in
    let rest = drop (suc k) fs in
    let front : take k (floats_of from m) ≡ take k fs = ap (take k) are ∙ take-front k fs rest way.within in
    let back : drop k (floats_of from m) ≡ rest = ap (drop k) are ∙ drop-front k fs rest way.within in
    record {
      within = omega (arith, ap length are, length-append (take k fs) rest, length-take-le k fs way.within);
      classes = subst (AreClassesOf w.classes) (sym front) way.classes;
      left = subst (HasLeft w.classes) (sym are) (left-without w.classes k fs way.left);
      ends = ap (λ b. walk b (drop k (floats_of from m)) m) front ∙ ap (λ left. walk (take k fs) left m) back ∙ sym goes ∙ ap (λ left. walk (take k fs) left l) (sym (slice_get-drop k fs f there)) ∙ way.ends;
    }

-- the height of a float of a list is in range
pub sized-at : (fs : List Float) (k : ℕ) (f : Float) → All IsSizedFloat fs → slice_get fs k ≡ Some f → IsExtent f.height
sized-at fs k f sized there = subst (λ g. IsSizedFloat g) (get_or_from_slice_get fs k f f there) (sized k f (slice_get_within fs k f there))

-- ---- the next column

pub is_top : (a : AreaPlace) → Top ≡ where_of a → a ≡ at_top
is_top at_top e = refl
is_top at_bottom e = absurd (cc)
is_top deferred e = absurd (cc)

pub is_bottom : (a : AreaPlace) → Bottom ≡ where_of a → a ≡ at_bottom
is_bottom at_top e = absurd (cc)
is_bottom at_bottom e = refl
is_bottom deferred e = absurd (cc)

is_deferred : (a : AreaPlace) → Deferred ≡ where_of a → a ≡ deferred
is_deferred at_top e = absurd (cc)
is_deferred at_bottom e = absurd (cc)
is_deferred deferred e = refl

-- a float that has no place stays
pub area-stays : (p : Params) (s : Suppress) (l : FloatLists) (f : Float) (before rest : List Float) → Deferred ≡ next_place p l s before f → filled p s before (f ∷ rest) l ≡ filled p s (before ++ f ∷ []) rest l
area-stays p s l f before rest e = ap (λ a. filled p s (still_before a f before) rest (gone_to a f before rest l)) (is_deferred (next_area_place p l s before f) e)

-- one of a class that stays always stays
pub area-closed : (p : Params) (s : Suppress) (l : FloatLists) → Stays (filled p s) l
area-closed p s l before rest f has = area-stays p s l f before rest (entry-closed p s l f before has)

pub area-kept : (p : Params) (s : Suppress) (w v : Kept) (l : FloatLists) (f : Float) → v.count ≡ w.count + 1 → slice_get l.deferred w.count ≡ Some f → ((before : List Float) → AreClassesOf w.classes before → AreClassesOf v.classes (before ++ f ∷ [])) → ((all : List Float) → has_class f.class all ≡ true → HasLeft w.classes all → HasLeft v.classes all) → ((before : List Float) → AreClassesOf w.classes before → Deferred ≡ next_place p l s before f) → GoesOn parts.Deferred (filled p s) l w v
area-kept p s w v l f more there classes left stays =
    way-stays parts.Deferred (filled p s) w v l f more there classes left (λ before rest are. area-stays p s l f before rest (stays before are))

pub area-goes : (p : Params) (s : Suppress) (w : Kept) (l m end : FloatLists) (f : Float) (a : AreaPlace) → ((before : List Float) → still_before a f before ≡ before) → slice_get l.deferred w.count ≡ Some f → next_area_place p l s (take w.count l.deferred) f ≡ a → m ≡ gone_to a f (take w.count l.deferred) (drop (suc w.count) l.deferred) l → IsOnWay parts.Deferred (filled p s) w l end → IsOnWay parts.Deferred (filled p s) w m end
area-goes p s w l m end f a still there decided moved way =
    let before = take w.count l.deferred in
    let rest = drop (suc w.count) l.deferred in
    let gone = gone_to a f before rest l in
    subst (λ (n : FloatLists). IsOnWay parts.Deferred (filled p s) w n end) (sym moved)
    (way-goes parts.Deferred (filled p s) w l gone end f there
    (gone-deferred a f before rest l (whole-at l.deferred w.count f there) ∙ ap (λ b. b ++ rest) (still before))
    (ap (λ c. filled p s (still_before c f before) rest (gone_to c f before rest l)) decided ∙ ap (λ b. filled p s b rest gone) (still before)) way)

-- if the float at a place goes neither to the top nor to the bottom, and none is left if it stays, none is left
pub area-over : (fs : List Float) (k : ℕ) (r : Where) (a : Float → AreaPlace) → ((f : Float) → slice_get fs k ≡ Some f → r ≡ where_of (a f)) → r ≢ Top → r ≢ Bottom → (r ≡ Deferred → length fs ≤ k) → length fs ≤ k
area-over [] k r a goes top bottom stays = omega arith
area-over (f ∷ fs) zero r a goes top bottom stays = by_place (a f) (goes f refl)
  where
    by_place : (b : AreaPlace) → r ≡ where_of b → length (f ∷ fs) ≤ 0
    by_place at_top e = absurd (top e)
    by_place at_bottom e = absurd (bottom e)
    by_place deferred e = stays e
area-over (f ∷ fs) (suc k) r a goes top bottom stays =
    omega (arith, area-over fs k r a goes top bottom (λ e. omega (arith, stays e)))

-- the lists after the float at a place went to the top or the bottom
pub gone-top : (k : ℕ) (f : Float) (v : FloatPool) → (moved_float parts.Deferred k parts.Top f v).lists ≡ gone_to at_top f (take k v.lists.deferred) (drop (suc k) v.lists.deferred) v.lists
gone-top k f v = ap (λ (fs : List Float). record v.lists { top = v.lists.top ++ f ∷ []; deferred = fs }) (without_place-parts k v.lists.deferred)

pub gone-bottom : (k : ℕ) (f : Float) (v : FloatPool) → (moved_float parts.Deferred k parts.Bottom f v).lists ≡ gone_to at_bottom f (take k v.lists.deferred) (drop (suc k) v.lists.deferred) v.lists
gone-bottom k f v = ap (λ (fs : List Float). record v.lists { bottom = v.lists.bottom ++ f ∷ []; deferred = fs }) (without_place-parts k v.lists.deferred)

-- the float at a place went to an area
pub record IsMoved (p : Params) (s : Suppress) (k : ℕ) (f : Float) (a : AreaPlace) (v u : FloatPool) : Type 0 where
  pub there : slice_get v.lists.deferred k ≡ Some f
  pub decided : next_area_place p v.lists s (take k v.lists.deferred) f ≡ a
  pub still : (before : List Float) → still_before a f before ≡ before
  pub lists : u.lists ≡ gone_to a f (take k v.lists.deferred) (drop (suc k) v.lists.deferred) v.lists
  pub fewer : u.lists.deferred ≡ without_place k v.lists.deferred
  pub size : u.size ≡ v.size
  pub unmarked : HasNoMarks v → HasNoMarks u

moved-to : (p : Params) (s : Suppress) (k : ℕ) (f : Float) (a : AreaPlace) (v u m : FloatPool) → slice_get v.lists.deferred k ≡ Some f → next_area_place p v.lists s (take k v.lists.deferred) f ≡ a → ((before : List Float) → still_before a f before ≡ before) → m.lists ≡ gone_to a f (take k v.lists.deferred) (drop (suc k) v.lists.deferred) v.lists → m.lists.deferred ≡ without_place k v.lists.deferred → m.size ≡ v.size → u ≡ m → (HasNoMarks v → HasNoMarks u) → IsMoved p s k f a v u
moved-to p s k f a v u m there decided still lists fewer size is unmarked = record {
  there = there;
  decided = decided;
  still = still;
  lists = ap (λ (t : FloatPool). t.lists) is ∙ lists;
  fewer = ap (λ (t : FloatPool). t.lists.deferred) is ∙ fewer;
  size = ap (λ (t : FloatPool). t.size) is ∙ size;
  unmarked = unmarked;
}

pub moved-top : (p : Params) (s : Suppress) (k : ℕ) (f : Float) (v u : FloatPool) → slice_get v.lists.deferred k ≡ Some f → Top ≡ next_place p v.lists s (take k v.lists.deferred) f → u ≡ moved_float parts.Deferred k parts.Top f v → (HasNoMarks v → HasNoMarks u) → IsMoved p s k f at_top v u
moved-top p s k f v u there goes is unmarked =
    moved-to p s k f at_top v u _ there (is_top _ goes) (λ before. refl) (gone-top k f v) refl refl is unmarked

pub moved-bottom : (p : Params) (s : Suppress) (k : ℕ) (f : Float) (v u : FloatPool) → slice_get v.lists.deferred k ≡ Some f → Bottom ≡ next_place p v.lists s (take k v.lists.deferred) f → u ≡ moved_float parts.Deferred k parts.Bottom f v → (HasNoMarks v → HasNoMarks u) → IsMoved p s k f at_bottom v u
moved-bottom p s k f v u there goes is unmarked =
    moved-to p s k f at_bottom v u _ there (is_bottom _ goes) (λ before. refl) (gone-bottom k f v) refl refl is unmarked

-- ---- above both columns

pub is_double : (b : Bool) → Double ≡ (if b then Double else Deferred) → b ≡ true
is_double true e = refl
is_double false e = absurd (cc)

is_single : (b : Bool) → Deferred ≡ (if b then Double else Deferred) → b ≡ false
is_single true e = absurd (cc)
is_single false e = refl

pub double-stays : (from : Part) (p : Params) (s : Suppress) (l : FloatLists) (f : Float) (before rest : List Float) → Deferred ≡ double_place p l s before f → doubled from p s before (f ∷ rest) l ≡ doubled from p s (before ++ f ∷ []) rest l
double-stays from p s l f before rest e = ap (λ b. doubled from p s (still_single b f before) rest (gone_double from b f before rest l)) (is_single (goes_double p l s before f) e)

pub double-closes : (from : Part) (p : Params) (s : Suppress) (l : FloatLists) → Stays (doubled from p s) l
double-closes from p s l before rest f has = double-stays from p s l f before rest (double-closed p s l f before has)

pub double-kept : (from : Part) (p : Params) (s : Suppress) (w v : Kept) (l : FloatLists) (f : Float) → v.count ≡ w.count + 1 → slice_get (floats_of from l) w.count ≡ Some f → ((before : List Float) → AreClassesOf w.classes before → AreClassesOf v.classes (before ++ f ∷ [])) → ((all : List Float) → has_class f.class all ≡ true → HasLeft w.classes all → HasLeft v.classes all) → ((before : List Float) → AreClassesOf w.classes before → Deferred ≡ double_place p l s before f) → GoesOn from (doubled from p s) l w v
double-kept from p s w v l f more there classes left stays =
    way-stays from (doubled from p s) w v l f more there classes left (λ before rest are. double-stays from p s l f before rest (stays before are))

pub double-goes : (from : Part) → IsWaiting from → (p : Params) (s : Suppress) (w : Kept) (l m end : FloatLists) (f : Float) → slice_get (floats_of from l) w.count ≡ Some f → goes_double p l s (take w.count (floats_of from l)) f ≡ true → m ≡ gone_double from true f (take w.count (floats_of from l)) (drop (suc w.count) (floats_of from l)) l → IsOnWay from (doubled from p s) w l end → IsOnWay from (doubled from p s) w m end
double-goes from waits p s w l m end f there decided moved way =
    let fs = floats_of from l in
    let before = take w.count fs in
    let rest = drop (suc w.count) fs in
    subst (λ (n : FloatLists). IsOnWay from (doubled from p s) w n end) (sym moved)
    (way-goes from (doubled from p s) w l (gone_double from true f before rest l) end f there
    (gone_double-waiting from waits true f before rest l (whole-at fs w.count f there))
    (ap (λ b. doubled from p s (still_single b f before) rest (gone_double from b f before rest l)) decided) way)

-- if the float at a place does not go above both columns, and none is left if it stays, none is left
pub double-over : (fs : List Float) (k : ℕ) (r : Where) (a : Float → Bool) → ((f : Float) → slice_get fs k ≡ Some f → r ≡ (if a f then Double else Deferred)) → r ≢ Double → (r ≡ Deferred → length fs ≤ k) → length fs ≤ k
double-over [] k r a goes above stays = omega arith
double-over (f ∷ fs) zero r a goes above stays = by_place (a f) (goes f refl)
  where
    by_place : (b : Bool) → r ≡ (if b then Double else Deferred) → length (f ∷ fs) ≤ 0
    by_place true e = absurd (above e)
    by_place false e = stays e
double-over (f ∷ fs) (suc k) r a goes above stays =
    omega (arith, double-over fs k r a goes above (λ e. omega (arith, stays e)))

pub gone-double : (from : Part) → IsWaiting from → (k : ℕ) (f : Float) (v : FloatPool) → (moved_float from k parts.Double f v).lists ≡ gone_double from true f (take k (floats_of from v.lists)) (drop (suc k) (floats_of from v.lists)) v.lists
gone-double parts.Deferred waits k f v = ap (λ (fs : List Float). record v.lists { double = v.lists.double ++ f ∷ []; deferred = fs }) (without_place-parts k v.lists.deferred)
gone-double parts.Second waits k f v = ap (λ (fs : List Float). record v.lists { double = v.lists.double ++ f ∷ []; second = fs }) (without_place-parts k v.lists.second)
gone-double from waits k f v = absurd waits

-- the list has one float less then
pub double-parts : (from : Part) → IsWaiting from → (k : ℕ) (f : Float) (v : FloatPool) → floats_of from (moved_float from k parts.Double f v).lists ≡ without_place k (floats_of from v.lists)
double-parts parts.Deferred waits k f v = refl
double-parts parts.Second waits k f v = refl
double-parts from waits k f v = absurd waits

pub size-double : (from : Part) → IsWaiting from → (k : ℕ) (f : Float) (v : FloatPool) → (moved_float from k parts.Double f v).size ≡ v.size
size-double parts.Deferred waits k f v = refl
size-double parts.Second waits k f v = refl
size-double from waits k f v = absurd waits

-- ---- one float fewer is left

pub fewer-left : (fs gs : List Float) (k turn n : ℕ) → gs ≡ without_place k fs → k < length fs → turn + length fs ≤ n → (turn + 1) + length gs ≤ n
fewer-left fs gs k turn n is lt le = omega (arith, ap length is, length-without_place k fs lt)
