-- Going back through the table.
use Rattle.std.proofs.Common.{◌≡◌, refl, sym, ◌∙◌, ap, subst, ℕ, ◌<◌, ◌+◌, List, [], ◌∷◌, ◌++◌, Option, None, Some, append_assoc, arith, append-nil}
use Rattle.tb_lines.specs.declared.table.Best.{Best}
use Rattle.tb_lines.specs.Table.{row_at, from_in, Follows, AreLinked}

-- the breaks so far, and what is left to go back
pub record IsBack (rows : List (Option Best)) (last : ℕ) (from : Option ℕ) (items : List ℕ) (at : Option ℕ) : Type 0 where
  pub tail : List ℕ
  pub all : items ≡ last ∷ tail
  pub run : (js : List ℕ) → Follows (row_at rows) at js → Follows (row_at rows) from (tail ++ js)
  pub inside : (i : ℕ) → at ≡ Some i → (c : Best) × (row_at rows i ≡ Some c)

-- how far the place is from the start
abbrev pub place_height : Option ℕ → ℕ
place_height None = 0
place_height (Some k) = k + 1

pub back_more : (rows : List (Option Best)) (last : ℕ) (from : Option ℕ) (items : List ℕ) (at : Option ℕ) (place : ℕ) (new : List ℕ) (next : Option ℕ) → AreLinked rows
    → IsBack rows last from items at → at ≡ Some place → new ≡ items ++ place ∷ [] → next ≡ from_in (row_at rows place) → IsBack rows last from new next
back_more rows last from items at place new next linked b is n e =
    let c = b.inside place is in
    let e' : next ≡ c.0.from = e ∙ ap from_in c.1 in
    record {
      tail = b.tail ++ place ∷ [];
      all = n ∙ ap (λ xs. xs ++ place ∷ []) b.all;
      run = λ js f.
          let f' : Follows (row_at rows) c.0.from js = let P : Option ℕ → Type 0 = λ q. Follows (row_at rows) q js in subst P e' f in
          let here : Follows (row_at rows) at (place ∷ js) = let P : Option ℕ → Type 0 = λ q. Follows (row_at rows) q (place ∷ js) in subst P (sym is) (refl, (c.0, c.1, f')) in
          let P : List ℕ → Type 0 = λ xs. Follows (row_at rows) from xs in
          subst P (sym (append_assoc b.tail (place ∷ []) js)) (b.run (place ∷ js) here);
      inside = λ i at'. (linked place c.0 i c.1 (sym e' ∙ at')).1;
    }

pub back_falls : (rows : List (Option Best)) (last : ℕ) (from : Option ℕ) (items : List ℕ) (at : Option ℕ) (place : ℕ) (next : Option ℕ) → AreLinked rows
    → IsBack rows last from items at → at ≡ Some place → next ≡ from_in (row_at rows place) → place_height next < place_height at
back_falls rows last from items at place next linked b is e =
    let c = b.inside place is in
    let e' : next ≡ c.0.from = e ∙ ap from_in c.1 in
    let P : Option ℕ → Type 0 = λ q. place_height next < place_height q in
    subst P (sym is) (below next (λ i n. (linked place c.0 i c.1 (sym e' ∙ n)).0))
  where
    below : (q : Option ℕ) → ((i : ℕ) → q ≡ Some i → i < place) → place_height q < place + 1
    below None h = omega arith
    below (Some i) h = let lt : i < place = h i refl in omega arith

pub back_done : (rows : List (Option Best)) (last : ℕ) (from : Option ℕ) (items : List ℕ) (at : Option ℕ) → IsBack rows last from items at → at ≡ None
    → (js : List ℕ) × Follows (row_at rows) from js × (items ≡ last ∷ js)
back_done rows last from items at b is =
    let P : Option ℕ → Type 0 = λ q. Follows (row_at rows) q [] in
    (b.tail ++ [], b.run [] (subst P (sym is) tt), b.all ∙ ap (λ xs. last ∷ xs) (sym (append-nil b.tail)))
