-- The place of the last insertion tells whether one comes from a node of the page on.
use Rattle.std.proofs.Common.{◌≡◌, refl, sym, ◌∙◌, ap, ℕ, ◌+◌, ◌≤◌, ◌<◌, Bool, true, false, List, [], ◌∷◌, ◌++◌, map, length, Option, Some, None, is_some, append_assoc, append-nil, length-append, arith}
use Rattle.std.proofs.lemmas.Bool.{true≢false}
use Rattle.std.proofs.lemmas.Bool.Decides.{nat_tests}
use Rattle.tb_node.specs.declared.Node.{Node}
use Rattle.tb_node.specs.declared.Insertion.{Insertion}
use Rattle.tb_node.specs.PlainNodes.{Inserted, inserted_of, PlainKind, plain, ins, act, PlainNode, plain_of}
use Rattle.tb_node.specs.Roles.{insertion_of_kind}
use Rattle.tb_insert.specs.Account.{Frozen, Labelled, label_of, labelled, labelled_from, labelled_with}
use Rattle.tb_insert.specs.AccountEntries.{last_place, reaches}
use Rattle.tb_insert.proofs.StandsLemmas.{last_one}
use Rattle.tb_builder.specs.Firing.{has_insertion, NoInsertions}
use Rattle.tb_builder.proofs.LegalPlaces.CourseLemmas.{no_insertion}
use Rattle.tb_builder.proofs.LegalPlaces.WithoutLemmas.{from_append}
use Rattle.tb_builder.proofs.Turns.FreezeLemmas.{plain_insertion}
use Rattle.tb_builder.proofs.Sorting.PlaceLemmas.{none_has}
use Rattle.tb_builder.proofs.Sorting.SortLemmas.{plain_labels, labels-none}

abbrev label_at : Frozen → List Labelled → List PlainNode → ℕ → Inserted → Labelled
label_at z ls before line i = record { index = length before; line = line; inserted = i; label = label_of z ls before i }

reached_here : (k : ℕ) (z : Frozen) (ls : List Labelled) (before : List PlainNode) (line : ℕ) (i : Inserted) → k ≤ length before → reaches (last_place (ls ++ label_at z ls before line i ∷ [])) k ≡ true
reached_here k z ls before line i le = ap (λ o. reaches o k) (last_one ls (label_at z ls before line i)) ∙ at_most k (length before) le
  where
    at_most : (a b : ℕ) → a ≤ b → reaches (Some b) a ≡ true
    at_most a b le = grind (arith, nat_tests)

longer : (k : ℕ) (before : List PlainNode) (n : PlainNode) → k ≤ length before → k ≤ length (before ++ n ∷ [])
longer k before n le = omega (arith, length-append before (n ∷ []))

-- a place that the last insertion reaches is still reached once more nodes have come
reached_still : (k : ℕ) (z : Frozen) (ls : List Labelled) (before ns : List PlainNode) → k ≤ length before → reaches (last_place ls) k ≡ true → reaches (last_place (labelled_from z ls before ns)) k ≡ true
reached_still k z ls before [] le h = h
reached_still k z ls before (n ∷ ns) le h = by_kind n.kind (λ ms r. reached_still k z ms (before ++ n ∷ []) ns (longer k before n le) r)
  where
    by_kind : (m : PlainKind) → ((ms : List Labelled) → reaches (last_place ms) k ≡ true → reaches (last_place (labelled_from z ms (before ++ n ∷ []) ns)) k ≡ true) → reaches (last_place (labelled_from z (labelled_with z ls before n.line m) (before ++ n ∷ []) ns)) k ≡ true
    by_kind (plain m) later = later ls h
    by_kind (ins i) later = later (ls ++ label_at z ls before n.line i ∷ []) (reached_here k z ls before n.line i le)
    by_kind (act a) later = later ls h

-- only places of the page are reached
reached_within : (k : ℕ) (z : Frozen) (ls : List Labelled) (before ns : List PlainNode) → (reaches (last_place ls) k ≡ true → k < length before) → reaches (last_place (labelled_from z ls before ns)) k ≡ true → k < length (before ++ ns)
reached_within k z ls before [] h r = let lt : k < length before = h r in omega (arith, ap length (append-nil before))
reached_within k z ls before (n ∷ ns) h r =
    let lt : k < length ((before ++ n ∷ []) ++ ns) = by_kind n.kind (λ ms g. reached_within k z ms (before ++ n ∷ []) ns g) r in
    omega (arith, ap length (append_assoc before (n ∷ []) ns))
  where
    more : k < length before → k < length (before ++ n ∷ [])
    more lt = omega (arith, length-append before (n ∷ []))

    here : (line : ℕ) (i : Inserted) → reaches (last_place (ls ++ label_at z ls before line i ∷ [])) k ≡ true → k < length (before ++ n ∷ [])
    here line i g = up_to (length before) (sym (ap (λ o. reaches o k) (last_one ls (label_at z ls before line i))) ∙ g) (length-append before (n ∷ []))
      where
        up_to : (m : ℕ) → reaches (Some m) k ≡ true → length (before ++ n ∷ []) ≡ m + 1 → k < length (before ++ n ∷ [])
        up_to m g e = grind (arith, nat_tests, g, e)

    by_kind : (m : PlainKind) → ((ms : List Labelled) → (reaches (last_place ms) k ≡ true → k < length (before ++ n ∷ [])) → reaches (last_place (labelled_from z ms (before ++ n ∷ []) ns)) k ≡ true → k < length ((before ++ n ∷ []) ++ ns))
        → reaches (last_place (labelled_from z (labelled_with z ls before n.line m) (before ++ n ∷ []) ns)) k ≡ true → k < length ((before ++ n ∷ []) ++ ns)
    by_kind (plain m) later q = later ls (λ g. more (h g)) q
    by_kind (ins i) later q = later (ls ++ label_at z ls before n.line i ∷ []) (λ g. here n.line i g) q
    by_kind (act a) later q = later ls (λ g. more (h g)) q

-- if the last insertion does not reach a place, no node from there on is an insertion
none_from : (k : ℕ) (z : Frozen) (held : ℕ → List Node) (ls : List Labelled) (before : List PlainNode) (ns : List Node) → k ≤ length before
    → reaches (last_place (labelled_from z ls before (map (plain_of held) ns))) k ≡ false → NoInsertions ns
none_from k z held ls before [] le h = tt
none_from k z held ls before (n ∷ ns) le h = by_insertion (insertion_of_kind n.kind) refl (λ r. none_from k z held ls (before ++ plain_of held n ∷ []) ns (longer k before (plain_of held n) le) r)
  where
    by_insertion : (o : Option Insertion) → insertion_of_kind n.kind ≡ o → (reaches (last_place (labelled_from z ls (before ++ plain_of held n ∷ []) (map (plain_of held) ns))) k ≡ false → NoInsertions ns) → NoInsertions (n ∷ ns)
    by_insertion None e later =
        (ap is_some e, later (ap (λ ms. reaches (last_place (labelled_from z ms (before ++ plain_of held n ∷ []) (map (plain_of held) ns))) k) (sym (plain_labels z ls before n.line (plain_of held n).kind (no_insertion held n.kind e))) ∙ h))
    by_insertion (Some i) e later =
        absurd (true≢false (sym (reached_still k z (ls ++ label_at z ls before n.line (inserted_of held i) ∷ []) (before ++ plain_of held n ∷ []) (map (plain_of held) ns) (longer k before (plain_of held n) le) (reached_here k z ls before n.line (inserted_of held i) le))
        ∙ ap (λ (p : PlainNode). reaches (last_place (labelled_from z (labelled_with z ls before n.line p.kind) (before ++ plain_of held n ∷ []) (map (plain_of held) ns))) k) (sym (plain_insertion held n i e)) ∙ h))

-- the nodes of a page from a place on
module _ (z : Frozen) (held : ℕ → List Node) (before : List PlainNode) (ns : List Node) where
  abbrev last_there : Option ℕ
  last_there = last_place (labelled z (before ++ map (plain_of held) ns))

  pub none_behind : reaches last_there (length before) ≡ false → NoInsertions ns
  none_behind h = none_from (length before) z held (labelled z before) before ns (omega arith) (ap (λ ls. reaches (last_place ls) (length before)) (sym (from_append z [] [] before (map (plain_of held) ns))) ∙ h)

  pub some_ahead : reaches last_there (length before) ≡ true → has_insertion ns ≡ true
  some_ahead h = by_test (has_insertion ns) refl
    where
      by_test : (t : Bool) → has_insertion ns ≡ t → has_insertion ns ≡ true
      by_test true e = e
      by_test false e =
          let lt : length before < length before = reached_within (length before) z [] [] before (λ r. absurd (true≢false (sym r))) (ap (λ ls. reaches (last_place ls) (length before)) (sym (labels-none z held before ns (none_has ns e))) ∙ h) in
          absurd (omega arith)
