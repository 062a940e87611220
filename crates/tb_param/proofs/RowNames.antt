-- Each parameter is found by its name.
use Rattle.std.proofs.Common.{◌≡◌, ◌∙◌, ◌<◌, ◌∷◌, ℕ, zero, suc, List, [], Some, refl, ap, subst, map, length, slice_get, slice_index_or}
use Rattle.std.specs.Borrow.{Bor}
use Rattle.std.specs.Option.{option_map}
use Rattle.std.proofs.lemmas.Option.{slice_get-map, slice_get-get_or}
use Rattle.tb_param.specs.declared.fields.Field.{Field}
use Rattle.tb_param.specs.declared.table.Form.{Form}
use Rattle.tb_param.specs.Table.{Row, rows, row_of}
use Rattle.tb_param.specs.TableRows.{row_seen}
use Rattle.tb_param.proofs.RangeLemmas.{AllRows}

pub rows_found : AllRows (λ (r : Row). row_of r.name ≡ Some r) rows
unfolding row_of
rows_found = (refl, (refl, (refl, (refl, (refl, (refl, (refl, (refl, (refl, (refl, (refl, (refl, (refl, (refl, (refl, (refl, (refl, (refl, (refl, (refl, (refl, (refl, (refl, (refl, (refl, (refl, (refl, (refl, (refl, (refl, (refl, (refl, (refl, (refl, (refl, (refl, (refl, (refl, (refl, (refl, (refl, (refl, (refl, (refl, (refl, (refl, (refl, (refl, (refl, (refl, (refl, (refl, (refl, tt)))))))))))))))))))))))))))))))))))))))))))))))))))))

-- what holds of all rows holds of the one in a place
in-place : (P : Row → Type 0) (rs : List Row) (k : ℕ) (r : Row) → AllRows P rs → slice_get rs k ≡ Some r → P r
in-place P [] k r all e = cc
in-place P (q ∷ qs) zero r all e = let same : q ≡ r = cc in subst P same all.0
in-place P (q ∷ qs) (suc k) r all e = in-place P qs k r all.1 e

-- the row in a place is the row of its name
pub found-in-place : (k : ℕ) (r : Row) (name : List ℕ) → slice_get rows k ≡ Some r → r.name ≡ name → row_of name ≡ Some r
found-in-place k r name e same = subst (λ n. row_of n ≡ Some r) same (in-place (λ (q : Row). row_of q.name ≡ Some q) rows k r rows_found e)

-- a row that the code reads in a place is the row there
pub row-read : (live : List (Bor (List ℕ) × Field × Form)) (k : ℕ) (d : Bor (List ℕ) × Field × Form)
    → k < length live → slice_get (map row_seen live) k ≡ Some (row_seen (slice_index_or live k d))
row-read live k d h = slice_get-map row_seen live k ∙ ap (λ o. option_map row_seen o) (slice_get-get_or live k d h)
