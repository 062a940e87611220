-- A field that is a line's word has printable bytes only.
use Rattle.std.proofs.Common.{Some, ◌≡◌, subst, ℕ, Bool, true, false, List, [], ◌∷◌, refl, bytes_eq, is_some, if◌then◌else◌}
use Rattle.std.specs.List.{list_all}
use Rattle.std.proofs.lemmas.Slice.Eq.{bytes_eq-Decides}
use Rattle.std.proofs.lemmas.Bool.{and_parts}
use Rattle.tb_galley.specs.Faults.{is_printable}
use Rattle.tb_galley.specs.Spelling.{Spelled, spelled_value}

abbrev are_visible : List ℕ → Bool
are_visible bs = list_all is_printable bs

-- by the words of a table, which have no others
pub word_visible : {W : Type 0} (ws : List (Spelled W)) → list_all (λ (s : Spelled W). are_visible s.text) ws ≡ true → (text : List ℕ) → is_some (spelled_value ws text) ≡ true → are_visible text ≡ true
word_visible [] v text h = absurd (cc)
word_visible {W} (s ∷ ws) v text h =
    let parts : (are_visible s.text ≡ true) × (list_all (λ (r : Spelled W). are_visible r.text) ws ≡ true) = and_parts (are_visible s.text) (list_all (λ (r : Spelled W). are_visible r.text) ws) v in
    by_test (λ g. word_visible ws parts.1 text g) parts.0 (bytes_eq s.text text) refl h
  where
    by_test : (is_some (spelled_value ws text) ≡ true → are_visible text ≡ true) → are_visible s.text ≡ true → (t : Bool) → bytes_eq s.text text ≡ t → is_some (if t then Some s.value else spelled_value ws text) ≡ true → are_visible text ≡ true
    by_test rest here true e h = let same : s.text ≡ text = (bytes_eq-Decides s.text text).0 e in subst (λ xs. are_visible xs ≡ true) same here
    by_test rest here false e h = rest h
