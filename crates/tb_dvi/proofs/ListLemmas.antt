-- The lister from command to command.
use Rattle.std.proofs.Common.{◌≡◌, refl, ◌∙◌, ap, sym, ℕ, zero, suc, ◌+◌, ◌-◌, ◌<◌, ◌≤◌, List, [], ◌∷◌, ◌++◌, length, drop, take, get_or, flat_map, append_assoc, append-nil, Ok, Err, arith, drop-cons, length-drop, zero-add, not-suc-le-zero}
use Rattle.std.proofs.lemmas.List.{drop_all}
use Rattle.std.proofs.lemmas.List.Concat.{flat_map-append}
use Rattle.std.specs.Prelude.{codes}
use Rattle.tb_text.specs.Fields.{line}
use Rattle.tb_dvi.specs.declared.lister.Lister.{Lister}
use Rattle.tb_dvi.specs.declared.lister.ListFault.{ListFault}
use Rattle.tb_dvi.specs.declared.lister.ListFault.TheVariants as faults
use Rattle.tb_dvi.specs.declared.DviCause.{DviCause}
use Rattle.tb_dvi.specs.Machine.{Item, ended, State, Step, op_of, op_step, before, followed, run, pre_length, at_start, listed_after, listed}
use Rattle.tb_dvi.specs.Listing.{item_line, listing}
use Rattle.tb_dvi.specs.Refusal.{Misses}
use Rattle.tb_dvi.specs.Reading.{HasBegun, IsReading}
use Rattle.tb_dvi.specs.Lister.{state_of, CommandStops, Ends, CommandPasses}
use Rattle.tb_dvi.proofs.LawLemmas.{before-before, before-none}
use Rattle.tb_dvi.proofs.BoundLemmas.{more}

-- bytes that a command took are passed
run-past : (size place : ℕ) (s : State) (bytes : List ℕ) → size ≤ length bytes → run size place s bytes ≡ run 0 (place + size) s (drop size bytes)
run-past zero place s bytes h = ap (λ p. run 0 p s bytes) (omega arith)
run-past (suc k) place s [] h = absurd (omega (arith, h))
run-past (suc k) place s (b ∷ bs) h = run-past k (suc place) s bs (omega (arith, h)) ∙ ap (λ p. run 0 p s (drop k bs)) (omega arith)

drop-more : (i k : ℕ) (xs : List ℕ) → drop k (drop i xs) ≡ drop (i + k) xs
drop-more zero k xs = ap (λ n. drop n xs) (omega arith)
drop-more (suc i) k [] = drop_all k [] (omega arith) ∙ sym (drop_all (suc i + k) [] (omega arith))
drop-more (suc i) k (x ∷ xs) =
    let e : suc (i + k) ≡ suc i + k = omega arith in
    drop-more i k xs ∙ ap (λ n. drop n (x ∷ xs)) e

take-all : (xs : List ℕ) → take (length xs) xs ≡ xs
take-all [] = refl
take-all (x ∷ xs) = ap (λ t. x ∷ t) (take-all xs)

-- a slice from here to the end
pub rest_of : (n : ℕ) (xs : List ℕ) → take (length xs - n) (drop n xs) ≡ drop n xs
rest_of n xs = ap (λ k. take k (drop n xs)) (sym (length-drop n xs)) ∙ take-all (drop n xs)

-- what an index gives does not depend on the value for nothing
pub same-at : (xs : List ℕ) (i a b : ℕ) → i < length xs → get_or xs i a ≡ get_or xs i b
same-at [] i a b h = absurd (not-suc-le-zero h)
same-at (x ∷ xs) zero a b h = refl
same-at (x ∷ xs) (suc i) a b h = same-at xs i a b (omega (arith, h))

module _ (bytes : List ℕ) (place : ℕ) (l : Lister) (now : IsReading bytes place l) where
  module _ (b : ℕ) (here : place < length bytes) (is : b ≡ get_or bytes place b) where
    -- the command at this place
    its_step : Step
    its_step = op_step place (op_of b) (drop (place + 1) bytes) (state_of l)

    command_here : run 0 place (state_of l) (drop place bytes) ≡ followed place l.pages (op_step place (op_of b) (drop (place + 1) bytes) (state_of l)) (λ skip s. run skip (suc place) s (drop (place + 1) bytes))
    command_here =
        let one : suc place ≡ place + 1 = omega arith in
        ap (run 0 place (state_of l)) (drop-cons bytes place b here)
        ∙ (λ i. run 0 place (state_of l) (sym is i ∷ drop (one i) bytes))

    -- it fails
    pub fails_here : (e : ListFault) → CommandStops e place (op_step place (op_of b) (drop (place + 1) bytes) (state_of l)) → Misses e (listed bytes)
    fails_here (faults.At byte cause) stops =
        now.goes_on ∙ ap (before now.items) (command_here ∙ ap (λ t. followed place l.pages t (λ skip s. run skip (suc place) s (drop (place + 1) bytes))) stops.1)
        ∙ ap (λ p. Err (record { byte = p; cause = cause })) (sym stops.0)
    fails_here faults.Memory stops = tt

    -- it ends the file
    pub ends_here : (new : Lister) → Ends l new (op_step place (op_of b) (drop (place + 1) bytes) (state_of l))
        → (items : List Item) × (listed bytes ≡ Ok items) × (new.out.items ≡ listing items)
    ends_here new e = (
      now.items ++ ended l.pages ∷ [],
      now.goes_on ∙ ap (before now.items) (command_here ∙ ap (λ t. followed place l.pages t (λ skip s. run skip (suc place) s (drop (place + 1) bytes))) e.does),
      e.listed ∙ ap (λ t. t ++ item_line (ended l.pages)) now.text
          ∙ append_assoc (line (codes "dvi 1")) (flat_map item_line now.items) (item_line (ended l.pages))
          ∙ ap (λ t. line (codes "dvi 1") ++ t) (ap (λ t. flat_map item_line now.items ++ t) (sym (append-nil (item_line (ended l.pages)))) ∙ sym (flat_map-append item_line now.items (ended l.pages ∷ []))),
    )

    -- the file goes on
    pub goes_here : (next : ℕ) (new : Lister) → CommandPasses place next (length (drop (place + 1) bytes)) l new (op_step place (op_of b) (drop (place + 1) bytes) (state_of l)) → IsReading bytes next new
    goes_here next new p = record {
      items = now.items ++ p.takes.items;
      goes_on =
          let after : suc place + p.size ≡ next = omega (arith, p.after) in
          let rest : drop p.size (drop (place + 1) bytes) ≡ drop next bytes = drop-more (place + 1) p.size bytes ∙ ap (λ n. drop n bytes) (sym p.after) in
          now.goes_on ∙ ap (before now.items) (command_here ∙ ap (λ t. followed place l.pages t (λ skip s. run skip (suc place) s (drop (place + 1) bytes))) p.takes.does
          ∙ ap (before p.takes.items) (run-past p.size (suc place) (state_of new) (drop (place + 1) bytes) p.enough ∙ (λ i. run 0 (after i) (state_of new) (rest i))))
          ∙ before-before now.items p.takes.items (run 0 next (state_of new) (drop next bytes));
      text =
          p.takes.listed ∙ ap (λ t. t ++ flat_map item_line p.takes.items) now.text
          ∙ append_assoc (line (codes "dvi 1")) (flat_map item_line now.items) (flat_map item_line p.takes.items)
          ∙ ap (λ t. line (codes "dvi 1") ++ t) (sym (flat_map-append item_line now.items p.takes.items));
      within = omega (arith, p.after, p.enough, length-drop (place + 1) bytes, here);
      bounds = p.bounds;
    }

-- after the preamble
pub begins : (bytes : List ℕ) (n : ℕ) (l : Lister) → pre_length bytes ≡ Ok n → n ≤ length bytes → HasBegun l → IsReading bytes n l
begins bytes n l pre within begun = record {
  items = [];
  goes_on =
      ap (λ r. listed_after r bytes) pre ∙ run-past n 0 at_start bytes within
      ∙ (λ i. run 0 (zero-add n i) (sym begun.state i) (drop n bytes))
      ∙ sym (before-none (run 0 n (state_of l) (drop n bytes)));
  text = begun.text;
  within = within;
  bounds = more 0 n l (omega arith) begun.bounds;
}

-- a preamble that is refused
pub refused : (bytes : List ℕ) (cause : DviCause) → pre_length bytes ≡ Err cause → listed bytes ≡ Err (record { byte = 0; cause = cause })
refused bytes cause pre = ap (λ r. listed_after r bytes) pre
