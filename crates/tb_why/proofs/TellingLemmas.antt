-- The walks of a firing as they are seen: what is left of a walk over wide pages, or over columns of floats, after some turns.
use Rattle.std.proofs.Common.{◌≡◌, ℕ, zero, suc, Bool, true, false, List, ◌++◌, length, append-nil, append_assoc, sym, ap, ◌∙◌, Result, Ok, Err, OnOk}
use Rattle.tb_param.specs.declared.Params.{Params}
use Rattle.tb_float.specs.declared.Part.TheVariants as parts
use Rattle.tb_float.specs.Lists.{wide_waiting}
use Rattle.tb_output.specs.Columns.{single_wanted}
use Rattle.tb_told.specs.declared.Piece.{Piece}
use Rattle.tb_why.specs.Seen.{Seen, wide_told, wide_seen, all_wide_told, all_wide_seen, float_told, float_seen, all_float_told, all_float_seen, column_looked_told, put_out_told, put_out_seen, float_told_by, float_seen_by}
use Rattle.tb_why.specs.SeenSteps.{TakesCompany, IsWideTurn, IsFloatTurn}

-- what was told, with what so many more turns tell, is this; and they lead here
pub record WidesLeft (p : Params) (clearing : Bool) (n : ℕ) (v : Seen) (now all : List Piece) (end : Seen) : Type 0 where
  pub told : now ++ wide_told p clearing n v ≡ all
  pub seen : wide_seen p clearing n v ≡ end

-- the same of columns of floats
pub record FloatsLeft (p : Params) (clearing : Bool) (n : ℕ) (v : Seen) (now all : List Piece) (end : Seen) : Type 0 where
  pub told : now ++ float_told p clearing n v ≡ all
  pub seen : float_seen p clearing n v ≡ end

-- it is all that is told, and it leads here
pub record IsTold (v end : Seen) (now all : List Piece) : Type 0 where
  pub told : now ≡ all
  pub seen : v ≡ end

-- ---- wide pages

-- at the beginning there are as many turns as floats
pub wide-begin : (p : Params) (clearing : Bool) (n : ℕ) (v : Seen) (now : List Piece) → n ≡ length (wide_waiting p v.floats) →
    WidesLeft p clearing n v now (now ++ all_wide_told p clearing v) (all_wide_seen p clearing v)
wide-begin p clearing n v now e = record { told = ap (λ k. now ++ wide_told p clearing k v) e; seen = ap (λ k. wide_seen p clearing k v) e }

-- a page was put out
pub wide-next : (p : Params) (clearing more : Bool) (n m : ℕ) (v u : Seen) (now new all : List Piece) (end : Seen) → n ≡ suc m → more ≡ true →
    IsWideTurn p clearing more v u now new → WidesLeft p clearing n v now all end → WidesLeft p clearing m u new all end
wide-next p clearing true n m v u now new all end one is t h = record {
  told = t.told m ∙ ap (λ k. now ++ wide_told p clearing k v) (sym one) ∙ h.told;
  seen = t.seen m ∙ ap (λ k. wide_seen p clearing k v) (sym one) ∙ h.seen;
}
wide-next p clearing false n m v u now new all end one is t h = cc

-- there was none
pub wide-stop : (p : Params) (clearing more : Bool) (n m : ℕ) (v u : Seen) (now new all : List Piece) (end : Seen) → n ≡ suc m → more ≡ false →
    IsWideTurn p clearing more v u now new → WidesLeft p clearing n v now all end → IsTold u end new all
wide-stop p clearing true n m v u now new all end one is t h = cc
wide-stop p clearing false n m v u now new all end one is t h = record {
  told = sym (append-nil new) ∙ t.told m ∙ ap (λ k. now ++ wide_told p clearing k v) (sym one) ∙ h.told;
  seen = t.seen m ∙ ap (λ k. wide_seen p clearing k v) (sym one) ∙ h.seen;
}

-- as many were put out as there were floats
pub wide-over : (p : Params) (clearing : Bool) (n : ℕ) (v : Seen) (now all : List Piece) (end : Seen) → n ≡ 0 → WidesLeft p clearing n v now all end → IsTold v end now all
wide-over p clearing zero v now all end over h = record { told = sym (append-nil now) ∙ h.told; seen = h.seen }
wide-over p clearing (suc n) v now all end over h = cc

-- ---- columns of floats

-- at the beginning there are as many turns as floats
pub float-begin : (p : Params) (clearing : Bool) (n : ℕ) (v : Seen) (now : List Piece) → n ≡ length v.floats.deferred →
    FloatsLeft p clearing n v now (now ++ all_float_told p clearing v) (all_float_seen p clearing v)
float-begin p clearing n v now e = record { told = ap (λ k. now ++ float_told p clearing k v) e; seen = ap (λ k. float_seen p clearing k v) e }

-- a column was put out
pub float-next : (p : Params) (clearing more : Bool) (n m : ℕ) (v u : Seen) (now new all : List Piece) (end : Seen) → n ≡ suc m → more ≡ true →
    IsFloatTurn p clearing more v u now new → FloatsLeft p clearing n v now all end → FloatsLeft p clearing m u new all end
float-next p clearing true n m v u now new all end one is t h = record {
  told = t.told m ∙ ap (λ k. now ++ float_told p clearing k v) (sym one) ∙ h.told;
  seen = t.seen m ∙ ap (λ k. float_seen p clearing k v) (sym one) ∙ h.seen;
}
float-next p clearing false n m v u now new all end one is t h = cc

-- there was none
pub float-stop : (p : Params) (clearing more : Bool) (n m : ℕ) (v u : Seen) (now new all : List Piece) (end : Seen) → n ≡ suc m → more ≡ false →
    IsFloatTurn p clearing more v u now new → FloatsLeft p clearing n v now all end → IsTold u end new all
float-stop p clearing true n m v u now new all end one is t h = cc
float-stop p clearing false n m v u now new all end one is t h = record {
  told = sym (append-nil new) ∙ t.told m ∙ ap (λ k. now ++ float_told p clearing k v) (sym one) ∙ h.told;
  seen = t.seen m ∙ ap (λ k. float_seen p clearing k v) (sym one) ∙ h.seen;
}

-- as many were put out as there were floats
pub float-over : (p : Params) (clearing : Bool) (n : ℕ) (v : Seen) (now all : List Piece) (end : Seen) → n ≡ 0 → FloatsLeft p clearing n v now all end → IsTold v end now all
float-over p clearing zero v now all end over h = record { told = sym (append-nil now) ∙ h.told; seen = h.seen }
float-over p clearing (suc n) v now all end over h = cc

-- a column of floats was looked for, and put out
pub float-put : (p : Params) (clearing : Bool) (v u w : Seen) (old mid new : List Piece) → TakesCompany (single_wanted p v.floats clearing) parts.Deferred v u →
    mid ≡ old ++ column_looked_told p clearing v → new ≡ mid ++ put_out_told p u → w ≡ put_out_seen p u → IsFloatTurn p clearing true v w old new
float-put p clearing v u w old mid new t first second led =
    let looked = column_looked_told p clearing v in
    record {
      told = λ n.
          ap (λ x. x ++ float_told p clearing n w) (second ∙ ap (λ m. m ++ put_out_told p u) first)
          ∙ append_assoc (old ++ looked) (put_out_told p u) (float_told p clearing n w)
          ∙ append_assoc old looked (put_out_told p u ++ float_told p clearing n w)
          ∙ ap (λ (x : Seen). old ++ (looked ++ (put_out_told p u ++ float_told p clearing n x))) led
          ∙ ap (λ (x : Seen). old ++ (looked ++ (put_out_told p x ++ float_told p clearing n (put_out_seen p x)))) t.seen
          ∙ ap (λ c. old ++ (looked ++ float_told_by (λ x. float_told p clearing n x) p v c)) (sym t.found);
      seen = λ n.
          ap (λ (x : Seen). float_seen p clearing n x) led ∙ ap (λ (x : Seen). float_seen p clearing n (put_out_seen p x)) t.seen
          ∙ ap (λ c. float_seen_by (λ x. float_seen p clearing n x) p v c) (sym t.found);
    }

-- ---- steps in turn

-- one thing is told after another, unless memory runs out
pub told-after : {T E : Type 0} (r : Result T E) (old mid new a b : List Piece) → mid ≡ old ++ a → OnOk r (new ≡ mid ++ b) → OnOk r (new ≡ old ++ (a ++ b))
told-after (Ok x) old mid new a b first h = h ∙ ap (λ m. m ++ b) first ∙ append_assoc old a b
told-after (Err e) old mid new a b first h = tt
