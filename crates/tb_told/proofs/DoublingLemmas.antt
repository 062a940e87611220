-- One float is told of and goes above both columns, or stays: what is left of the walk, and of its pieces.
use Rattle.std.proofs.Common.{◌≡◌, ◌≢◌, ℕ, suc, ◌<◌, ◌≤◌, Bool, true, false, List, [], ◌∷◌, ◌++◌, length, take, drop, Some, slice_get, refl, sym, ap, ◌∙◌, arith}
use Rattle.std.specs.Prelude.{if◌then◌else◌}
use Rattle.std.proofs.Math.ListN.{drop_of_length-le}
use Rattle.std.proofs.lemmas.List.{length-append}
use Rattle.std.proofs.lemmas.Option.{slice_get_within}
use Rattle.tb_node.specs.declared.Float.{Float}
use Rattle.tb_node.specs.declared.Where.{Where}
use Rattle.tb_node.specs.declared.Where.TheVariants.{Double, Deferred}
use Rattle.tb_param.specs.declared.Params.{Params}
use Rattle.tb_float.specs.declared.Part.{Part}
use Rattle.tb_float.specs.Lists.{FloatLists, floats_of, IsWaiting}
use Rattle.tb_float.proofs.ListLemmas.{slice_get-drop, take-at, whole-at, take-front, drop-front}
use Rattle.tb_area.specs.Area.{goes_double}
use Rattle.tb_area.specs.Deferred.{gone_double, still_single, doubled}
use Rattle.tb_area.proofs.OrderLemmas.{gone_double-waiting}
use Rattle.tb_told.specs.declared.Piece.{Piece}
use Rattle.tb_told.specs.AreaTold.{told_wide}
use Rattle.tb_told.specs.Tales.{tales, decisions}
use Rattle.tb_told.specs.Filled.{doubled_pieces, none_suppressed, IsDoubleTurn}
use Rattle.tb_told.proofs.FillingLemmas.{told-next}

-- a float that does not go above both columns stays
pub is-single : (w : Where) (b : Bool) → w ≡ (if b then Double else Deferred) → w ≢ Double → b ≡ false
is-single w true e not = absurd (not e)
is-single w false e not = refl

-- the float went above both columns
pub double-moved : (from : Part) → IsWaiting from → (p : Params) (k : ℕ) (f : Float) (l m : FloatLists) (old new : List Piece) → slice_get (floats_of from l) k ≡ Some f →
    goes_double p l none_suppressed (take k (floats_of from l)) f ≡ true → m ≡ gone_double from true f (take k (floats_of from l)) (drop (suc k) (floats_of from l)) l →
    new ≡ old ++ tales (decisions f (told_wide p l none_suppressed (take k (floats_of from l)) f)) → IsDoubleTurn from p k k l m old new
double-moved from waits p k f l m old new there goes moved appended =
    let d = floats_of from l in
    let before = take k d in
    let rest = drop (suc k) d in
    let gone = gone_double from true f before rest l in
    let told = tales (decisions f (told_wide p l none_suppressed before f)) in
    let within : k < length d = slice_get_within d k f there in
    let few : k ≤ length d = omega arith in
    let whole = whole-at d k f there in
    let are : floats_of from m ≡ before ++ rest = ap (floats_of from) moved ∙ gone_double-waiting from waits true f before rest l whole in
    let front : take k (floats_of from m) ≡ before = ap (take k) are ∙ take-front k d rest few in
    let back : drop k (floats_of from m) ≡ rest = ap (drop k) are ∙ drop-front k d rest few in
    let next = slice_get-drop k d f there in
    record {
      lists = ap (λ left. doubled from p none_suppressed before left l) next
          ∙ ap (λ b. doubled from p none_suppressed (still_single b f before) rest (gone_double from b f before rest l)) goes
          ∙ ap (λ n. doubled from p none_suppressed before rest n) (sym moved)
          ∙ ap (λ b. doubled from p none_suppressed b rest m) (sym front)
          ∙ ap (λ left. doubled from p none_suppressed (take k (floats_of from m)) left m) (sym back);
      pieces = told-next old new told (doubled_pieces from p (take k (floats_of from m)) (drop k (floats_of from m)) m) (doubled_pieces from p before (drop k d) l) appended
          (ap (λ left. doubled_pieces from p before left l) next
          ∙ ap (λ b. told ++ doubled_pieces from p (still_single b f before) rest (gone_double from b f before rest l)) goes
          ∙ ap (λ n. told ++ doubled_pieces from p before rest n) (sym moved)
          ∙ ap (λ b. told ++ doubled_pieces from p b rest m) (sym front)
          ∙ ap (λ left. told ++ doubled_pieces from p (take k (floats_of from m)) left m) (sym back));
      left = omega (arith, ap length are, length-append before rest, ap length whole, length-append before (f ∷ rest));
    }

-- the float stays
pub double-stayed : (from : Part) (p : Params) (k : ℕ) (f : Float) (l : FloatLists) (old new : List Piece) → slice_get (floats_of from l) k ≡ Some f →
    goes_double p l none_suppressed (take k (floats_of from l)) f ≡ false → new ≡ old ++ tales (decisions f (told_wide p l none_suppressed (take k (floats_of from l)) f)) →
    IsDoubleTurn from p k (suc k) l l old new
double-stayed from p k f l old new there stays appended =
    let d = floats_of from l in
    let before = take k d in
    let rest = drop (suc k) d in
    let told = tales (decisions f (told_wide p l none_suppressed before f)) in
    let next = slice_get-drop k d f there in
    let front : take (suc k) d ≡ before ++ f ∷ [] = take-at d k f there in
    record {
      lists = ap (λ left. doubled from p none_suppressed before left l) next
          ∙ ap (λ b. doubled from p none_suppressed (still_single b f before) rest (gone_double from b f before rest l)) stays
          ∙ ap (λ b. doubled from p none_suppressed b rest l) (sym front);
      pieces = told-next old new told (doubled_pieces from p (take (suc k) d) rest l) (doubled_pieces from p before (drop k d) l) appended
          (ap (λ left. doubled_pieces from p before left l) next
          ∙ ap (λ b. told ++ doubled_pieces from p (still_single b f before) rest (gone_double from b f before rest l)) stays
          ∙ ap (λ b. told ++ doubled_pieces from p b rest l) (sym front));
      left = omega arith;
    }

-- at the end no float is left to try
pub doubled-over : (from : Part) (p : Params) (k : ℕ) (l : FloatLists) → length (floats_of from l) ≤ k → doubled_pieces from p (take k (floats_of from l)) (drop k (floats_of from l)) l ≡ []
doubled-over from p k l over = ap (λ left. doubled_pieces from p (take k (floats_of from l)) left l) (drop_of_length-le (floats_of from l) over)
