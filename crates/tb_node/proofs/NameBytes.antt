-- The table of the bytes that may be in a name, and bytes tested one after the other.
use Rattle.std.proofs.Common.{◌≡◌, ℕ, zero, suc, ◌<◌, Bool, true, false, ◌&&◌, List, [], ◌∷◌, slice_index_or, refl, ◌∙◌, arith, ⊎_elim}
use Rattle.std.specs.Cmp.{first_so, second_so}
use Rattle.std.specs.List.{fold, list_all}
use Rattle.std.proofs.Math.Nat.{eq-or-lt_of_le}
use Rattle.tb_node.specs.declared.names.TheConstants.{NAME_BYTES}
use Rattle.tb_node.specs.Names.{is_name_byte, with_name_byte}

abbrev same : Bool → Bool → Bool
same true b = b
same false true = false
same false false = true

-- the table and the test agree below n
agrees : ℕ → Bool
agrees zero = true
agrees (suc n) = same (slice_index_or NAME_BYTES n false) (is_name_byte n) && agrees n

agree_all : agrees 256 ≡ true
unfolding agrees
agree_all = refl

are_same : (a b : Bool) → same a b ≡ true → a ≡ b
are_same true true h = refl
are_same true false h = cc
are_same false true h = cc
are_same false false h = refl

agrees_at : (n b : ℕ) → agrees n ≡ true → b < n → slice_index_or NAME_BYTES b false ≡ is_name_byte b
unfolding agrees
agrees_at zero b h lt = absurd (omega arith)
agrees_at (suc n) b h lt =
    let here : same (slice_index_or NAME_BYTES n false) (is_name_byte n) ≡ true = first_so (same (slice_index_or NAME_BYTES n false) (is_name_byte n)) (agrees n) h in
    let below : agrees n ≡ true = second_so (same (slice_index_or NAME_BYTES n false) (is_name_byte n)) (agrees n) h in
    ⊎_elim (λ (e : b ≡ n). rw e (are_same (slice_index_or NAME_BYTES n false) (is_name_byte n) here)) (λ (m : b < n). agrees_at n b below m) (eq-or-lt_of_le (omega (arith, lt)))

pub table_is : (b : ℕ) → b < 256 → slice_index_or NAME_BYTES b false ≡ is_name_byte b
table_is b lt = agrees_at 256 b agree_all lt

and_all : (a b c : Bool) → ((a && b) && c) ≡ (a && (b && c))
and_all true b c = refl
and_all false b c = refl

folded_from : (t : Bool) (bs : List ℕ) → fold with_name_byte t bs ≡ (t && list_all is_name_byte bs)
folded_from true [] = refl
folded_from false [] = refl
folded_from t (b ∷ bs) = folded_from (t && is_name_byte b) bs ∙ and_all t (is_name_byte b) (list_all is_name_byte bs)

-- bytes tested one after the other
pub folded_bytes : (bs : List ℕ) → fold with_name_byte true bs ≡ list_all is_name_byte bs
folded_bytes bs = folded_from true bs
