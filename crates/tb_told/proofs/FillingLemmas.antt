-- One float of a start is told of and goes to its place: what is left of the walk, and of its pieces.
use Rattle.std.proofs.Common.{◌≡◌, ◌≢◌, ℕ, suc, ◌<◌, ◌≤◌, List, [], ◌∷◌, ◌++◌, append_assoc, append-nil, length, take, drop, Some, slice_get, refl, sym, ap, ◌∙◌, arith}
use Rattle.std.proofs.Math.ListN.{drop_of_length-le}
use Rattle.std.proofs.lemmas.List.{length-append}
use Rattle.std.proofs.lemmas.Option.{slice_get_within}
use Rattle.tb_node.specs.declared.Float.{Float}
use Rattle.tb_node.specs.declared.Where.{Where}
use Rattle.tb_node.specs.declared.Where.TheVariants.{Top, Bottom}
use Rattle.tb_param.specs.declared.Params.{Params}
use Rattle.tb_float.specs.declared.Suppress.{Suppress}
use Rattle.tb_float.specs.Lists.{FloatLists}
use Rattle.tb_float.specs.Pool.{FloatPool}
use Rattle.tb_float.proofs.ListLemmas.{slice_get-drop, take-at, whole-at, take-front, drop-front}
use Rattle.tb_area.specs.Area.{AreaPlace, at_top, at_bottom, deferred, where_of, next_area_place}
use Rattle.tb_area.specs.Deferred.{gone_to, still_before, filled}
use Rattle.tb_area.proofs.OrderLemmas.{gone-deferred}
use Rattle.tb_area.proofs.DeferredWalks.{IsMoved}
use Rattle.tb_told.specs.declared.Piece.{Piece}
use Rattle.tb_told.specs.AreaTold.{told_next}
use Rattle.tb_told.specs.Tales.{tales, decisions}
use Rattle.tb_told.specs.Filled.{filled_pieces, IsTurn}

-- a float that goes neither to the top nor to the bottom stays
pub is-kept : (w : Where) (a : AreaPlace) → w ≡ where_of a → w ≢ Top → w ≢ Bottom → a ≡ deferred
is-kept w at_top e top bottom = absurd (top e)
is-kept w at_bottom e top bottom = absurd (bottom e)
is-kept w deferred e top bottom = refl

-- these pieces are appended, and what follows is the rest
pub told-next : (old new told rest all : List Piece) → new ≡ old ++ told → all ≡ told ++ rest → new ++ rest ≡ old ++ all
told-next old new told rest all appended is = ap (λ z. z ++ rest) appended ∙ append_assoc old told rest ∙ ap (λ z. old ++ z) (sym is)

-- nothing is left to tell
pub told-last : (old new rest all : List Piece) → rest ≡ [] → new ++ rest ≡ old ++ all → new ≡ old ++ all
told-last old new rest all over is = sym (append-nil new) ∙ ap (λ z. new ++ z) (sym over) ∙ is

-- the float went to an area
pub turn-moved : (p : Params) (s : Suppress) (k : ℕ) (f : Float) (a : AreaPlace) (v u : FloatPool) (old new : List Piece) → IsMoved p s k f a v u →
    new ≡ old ++ tales (decisions f (told_next p v.lists s (take k v.lists.deferred) f)) → IsTurn p s k k v.lists u.lists old new
turn-moved p s k f a v u old new m appended =
    let l = v.lists in
    let d = l.deferred in
    let before = take k d in
    let rest = drop (suc k) d in
    let gone = gone_to a f before rest l in
    let told = tales (decisions f (told_next p l s before f)) in
    let within : k < length d = slice_get_within d k f m.there in
    let few : k ≤ length d = omega arith in
    let whole = whole-at d k f m.there in
    let are : u.lists.deferred ≡ before ++ rest = ap (λ n. n.deferred) m.lists ∙ gone-deferred a f before rest l whole ∙ ap (λ b. b ++ rest) (m.still before) in
    let front : take k u.lists.deferred ≡ before = ap (take k) are ∙ take-front k d rest few in
    let back : drop k u.lists.deferred ≡ rest = ap (drop k) are ∙ drop-front k d rest few in
    let next = slice_get-drop k d f m.there in
    record {
      lists = ap (λ left. filled p s before left l) next
          ∙ ap (λ c. filled p s (still_before c f before) rest (gone_to c f before rest l)) m.decided
          ∙ ap (λ b. filled p s b rest gone) (m.still before)
          ∙ ap (λ n. filled p s before rest n) (sym m.lists)
          ∙ ap (λ b. filled p s b rest u.lists) (sym front)
          ∙ ap (λ left. filled p s (take k u.lists.deferred) left u.lists) (sym back);
      pieces = told-next old new told (filled_pieces p s (take k u.lists.deferred) (drop k u.lists.deferred) u.lists) (filled_pieces p s before (drop k d) l) appended
          (ap (λ left. filled_pieces p s before left l) next
          ∙ ap (λ c. told ++ filled_pieces p s (still_before c f before) rest (gone_to c f before rest l)) m.decided
          ∙ ap (λ b. told ++ filled_pieces p s b rest gone) (m.still before)
          ∙ ap (λ n. told ++ filled_pieces p s before rest n) (sym m.lists)
          ∙ ap (λ b. told ++ filled_pieces p s b rest u.lists) (sym front)
          ∙ ap (λ left. told ++ filled_pieces p s (take k u.lists.deferred) left u.lists) (sym back));
      left = omega (arith, ap length are, length-append before rest, ap length whole, length-append before (f ∷ rest));
    }

-- the float stays
pub turn-kept : (p : Params) (s : Suppress) (k : ℕ) (f : Float) (l : FloatLists) (old new : List Piece) → slice_get l.deferred k ≡ Some f →
    next_area_place p l s (take k l.deferred) f ≡ deferred → new ≡ old ++ tales (decisions f (told_next p l s (take k l.deferred) f)) → IsTurn p s k (suc k) l l old new
turn-kept p s k f l old new there stays appended =
    let d = l.deferred in
    let before = take k d in
    let rest = drop (suc k) d in
    let told = tales (decisions f (told_next p l s before f)) in
    let next = slice_get-drop k d f there in
    let front : take (suc k) d ≡ before ++ f ∷ [] = take-at d k f there in
    record {
      lists = ap (λ left. filled p s before left l) next
          ∙ ap (λ c. filled p s (still_before c f before) rest (gone_to c f before rest l)) stays
          ∙ ap (λ b. filled p s b rest l) (sym front);
      pieces = told-next old new told (filled_pieces p s (take (suc k) d) rest l) (filled_pieces p s before (drop k d) l) appended
          (ap (λ left. filled_pieces p s before left l) next
          ∙ ap (λ c. told ++ filled_pieces p s (still_before c f before) rest (gone_to c f before rest l)) stays
          ∙ ap (λ b. told ++ filled_pieces p s b rest l) (sym front));
      left = omega arith;
    }

-- at the end no float is left to try
pub pieces-over : (p : Params) (s : Suppress) (k : ℕ) (l : FloatLists) → length l.deferred ≤ k → filled_pieces p s (take k l.deferred) (drop k l.deferred) l ≡ []
pieces-over p s k l over = ap (λ left. filled_pieces p s (take k l.deferred) left l) (drop_of_length-le l.deferred over)
