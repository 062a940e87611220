-- The rest of an insertion that is split: its nodes, and the room that it takes once it is pruned.
use Rattle.std.proofs.Common.{◌≡◌, refl, sym, subst, ◌∙◌, ap, ℕ, zero, suc, ℤ, pos, ◌+ℤ◌, Bool, true, false, List, [], ◌∷◌, ◌++◌, take, drop, map, length, ◌≤◌, Some, None, append_assoc, arith}
use Rattle.std.specs.Prelude.{◌-ℤ◌, int_le, nat_le, if◌then◌else◌}
use Rattle.std.proofs.lemmas.List.{map-append, take-append-drop, drop-map}
use Rattle.std.proofs.lemmas.Int.{ints}
use Rattle.tb_scaled.specs.declared.Glue.{Glue}
use Rattle.tb_scaled.specs.Scaled.{max_ℤ}
use Rattle.tb_node.specs.declared.Node.{Node}
use Rattle.tb_node.specs.Shape.{Shape, box, glue, kern, penalty, other, is_discardable}
use Rattle.tb_node.specs.PlainNodes.{shape_of}
use Rattle.tb_node.specs.SmallAmounts.{IsAmount, IsSmallShape}
use Rattle.tb_node.specs.Fit.{NodesFit}
use Rattle.tb_node.specs.Sums.{room_of, size_of}
use Rattle.tb_break.specs.PageTop.{pruned_at, pruned_list, glue_before, top_glue}
use Rattle.tb_builder.specs.PageEvents.{SizesFit, IsRoom}
use Rattle.tb_builder.specs.Ownership.{AllPlain, is_plain}
use Rattle.tb_builder.specs.Sizes.{IsWide, RoomFits}
use Rattle.tb_builder.specs.Firing.{BeginsVanishing}
use Rattle.tb_break.specs.Places.{split_penalty, legal_at}
use Rattle.tb_break.specs.Split.{split_of}
use Rattle.tb_break.proofs.LastLemmas.{split-last_least}
use Rattle.tb_break.proofs.PageTopLemmas.{length-pruned_list}
use Rattle.std.proofs.lemmas.Bool.{true≢false}

-- ---- the room

size-both : (ms ns : List Shape) → size_of (ms ++ ns) ≡ size_of ms +ℤ size_of ns
size-both [] ns = omega (arith, ints)
size-both (m ∷ ms) ns = let h : size_of (ms ++ ns) ≡ size_of ms +ℤ size_of ns = size-both ms ns in omega (arith, ints)

-- the room of each part of a list fits
abbrev pub PartsFit : List Shape → Type 0
PartsFit ns = (before part rest : List Shape) → before ++ (part ++ rest) ≡ ns → IsRoom (size_of part)

between : (a b r : ℤ) → IsAmount a → IsAmount b → b ≡ a +ℤ r → IsRoom r
between a b r p q e = record { low = omega (arith, ints); high = omega (arith, ints) }

pub parts_fit : (ns : List Shape) → SizesFit ns → PartsFit ns
parts_fit ns fit before part rest e =
    between (size_of before) (size_of (before ++ part)) (size_of part)
    (fit before (part ++ rest) e)
    (fit (before ++ part) rest (append_assoc before part rest ∙ e))
    (size-both before part)

pub parts-behind : (ms ns : List Shape) → PartsFit (ms ++ ns) → PartsFit ns
parts-behind ms ns fit before part rest e = fit (ms ++ before) part rest (append_assoc ms before (part ++ rest) ∙ ap (λ xs. ms ++ xs) e)

pub nodes-behind : (ms ns : List Shape) → NodesFit (ms ++ ns) → NodesFit ns
nodes-behind ms ns fit before n rest e = fit (ms ++ before) n rest (append_assoc ms before (n ∷ rest) ∙ ap (λ xs. ms ++ xs) e)

zero_wide : IsWide (pos 0)
zero_wide = record { low = omega (arith, ints); high = omega (arith, ints) }

more_wide : (z : ℤ) → IsWide z → IsWide (pos 0 +ℤ z)
more_wide z h = record { low = omega (arith, ints, h.low); high = omega (arith, ints, h.high) }

-- the width of the top glue
width_room : (t h : ℤ) → IsAmount t → IsAmount h → IsRoom (max_ℤ (t -ℤ h) (pos 0))
width_room t h p q = by_test (int_le (t -ℤ h) (pos 0))
  where
    by_test : (b : Bool) → IsRoom (if b then pos 0 else t -ℤ h)
    by_test true = record { low = omega (arith, ints); high = omega (arith, ints) }
    by_test false = record { low = omega (arith, ints); high = omega (arith, ints) }

both_wide : (a b : ℤ) → IsRoom a → IsRoom b → IsWide (a +ℤ b)
both_wide a b p q = record { low = omega (arith, ints); high = omega (arith, ints) }

-- the room of a list that begins with a node of no room
room-lasting : (ns : List Shape) → RoomFits ns → RoomFits (other ∷ ns)
room-lasting ns h = record { each = each; prefixes = prefixes }
  where
    each : (before : List Shape) (n : Shape) (rest : List Shape) → before ++ n ∷ rest ≡ other ∷ ns → IsRoom (room_of n)
    each [] n rest e = let same : n ≡ other = cc in subst (λ x. IsRoom (room_of x)) (sym same) (record { low = omega (arith, ints); high = omega (arith, ints) })
    each (m ∷ before) n rest e = let same : before ++ n ∷ rest ≡ ns = cc in h.each before n rest same

    prefixes : (before rest : List Shape) → before ++ rest ≡ other ∷ ns → IsWide (size_of before)
    prefixes [] rest e = zero_wide
    prefixes (m ∷ before) rest e =
        let same : before ++ rest ≡ ns = cc in
        let first : m ≡ other = cc in
        subst (λ x. IsWide (room_of x +ℤ size_of before)) (sym first) (more_wide (size_of before) (h.prefixes before rest same))

-- glue whose room fits, before a list each part of which fits
room-topped : (g : Glue) (ns : List Shape) → IsRoom g.width → PartsFit ns → ((before : List Shape) (n : Shape) (rest : List Shape) → before ++ n ∷ rest ≡ ns → IsRoom (room_of n)) → RoomFits (glue g ∷ ns)
room-topped g ns w parts nodes = record { each = each; prefixes = prefixes }
  where
    each : (before : List Shape) (n : Shape) (rest : List Shape) → before ++ n ∷ rest ≡ glue g ∷ ns → IsRoom (room_of n)
    each [] n rest e = let same : n ≡ glue g = cc in subst (λ x. IsRoom (room_of x)) (sym same) w
    each (m ∷ before) n rest e = let same : before ++ n ∷ rest ≡ ns = cc in nodes before n rest same

    prefixes : (before rest : List Shape) → before ++ rest ≡ glue g ∷ ns → IsWide (size_of before)
    prefixes [] rest e = zero_wide
    prefixes (m ∷ before) rest e =
        let same : before ++ rest ≡ ns = cc in
        let first : m ≡ glue g = cc in
        subst (λ x. IsWide (room_of x +ℤ size_of before)) (sym first) (both_wide g.width (size_of before) w (parts [] before rest same))

-- the room of one node, as a part
room-one : (z : ℤ) → IsRoom (z +ℤ pos 0) → IsRoom z
room-one z h = record { low = omega (arith, ints, h.low); high = omega (arith, ints, h.high) }

nodes_room : (ns : List Shape) → PartsFit ns → (before : List Shape) (n : Shape) (rest : List Shape) → before ++ n ∷ rest ≡ ns → IsRoom (room_of n)
nodes_room ns fit before n rest e = room-one (room_of n) (fit before (n ∷ []) rest e)

room-pruned_at : (t : ℤ) (s : Shape) (n : Node) (ns : List Node) → shape_of n ≡ s → IsAmount t → PartsFit (map shape_of (n ∷ ns)) → IsSmallShape s → RoomFits (map shape_of (pruned_list t ns))
    → RoomFits (map shape_of (pruned_at glue_before t s n ns (pruned_list t ns)))
room-pruned_at t (box h d) n ns e p parts small later = room-topped (top_glue t h) (map shape_of (n ∷ ns)) (width_room t h p small.0) parts (nodes_room (map shape_of (n ∷ ns)) parts)
room-pruned_at t other n ns e p parts small later = subst (λ s. RoomFits (s ∷ map shape_of (pruned_list t ns))) (sym e) (room-lasting (map shape_of (pruned_list t ns)) later)
room-pruned_at t s n ns e p parts small later = later

-- the room of a pruned list
pub room-pruned : (t : ℤ) (ns : List Node) → IsAmount t → PartsFit (map shape_of ns) → NodesFit (map shape_of ns) → RoomFits (map shape_of (pruned_list t ns))
room-pruned t [] p parts nodes = record { each = each; prefixes = prefixes }
  where
    each : (before : List Shape) (n : Shape) (rest : List Shape) → before ++ n ∷ rest ≡ [] → IsRoom (room_of n)
    each [] n rest e = cc
    each (m ∷ before) n rest e = cc

    prefixes : (before rest : List Shape) → before ++ rest ≡ [] → IsWide (size_of before)
    prefixes [] rest e = zero_wide
    prefixes (m ∷ before) rest e = cc
room-pruned t (n ∷ ns) p parts nodes =
    room-pruned_at t (shape_of n) n ns refl p parts (nodes [] (shape_of n) (map shape_of ns) refl)
    (room-pruned t ns p (parts-behind (shape_of n ∷ []) (map shape_of ns) parts) (nodes-behind (shape_of n ∷ []) (map shape_of ns) nodes))

-- ---- what is plain

pub plain-take : (k : ℕ) (ns : List Node) → AllPlain ns → AllPlain (take k ns)
plain-take zero ns h = tt
plain-take (suc k) [] h = tt
plain-take (suc k) (n ∷ ns) h = (h.0, plain-take k ns h.1)

pub plain-drop : (k : ℕ) (ns : List Node) → AllPlain ns → AllPlain (drop k ns)
plain-drop zero ns h = h
plain-drop (suc k) [] h = tt
plain-drop (suc k) (n ∷ ns) h = plain-drop k ns h.1

plain-pruned_at : (t : ℤ) (s : Shape) (n : Node) (ns : List Node) → is_plain n.kind ≡ true → AllPlain ns → AllPlain (pruned_list t ns) → AllPlain (pruned_at glue_before t s n ns (pruned_list t ns))
plain-pruned_at t (box h d) n ns p a later = (refl, (p, a))
plain-pruned_at t other n ns p a later = (p, later)
plain-pruned_at t s n ns p a later = later

pub plain-pruned : (t : ℤ) (ns : List Node) → AllPlain ns → AllPlain (pruned_list t ns)
plain-pruned t [] h = tt
plain-pruned t (n ∷ ns) h = plain-pruned_at t (shape_of n) n ns h.0 h.1 (plain-pruned t ns h.1)

pub plain-both : (ms ns : List Node) → AllPlain ms → AllPlain ns → AllPlain (ms ++ ns)
plain-both [] ns a b = b
plain-both (m ∷ ms) ns a b = (a.0, plain-both ms ns a.1 b)

-- ---- after a place

shapes_apart : (k : ℕ) (ns : List Node) → map shape_of (take k ns) ++ map shape_of (drop k ns) ≡ map shape_of ns
shapes_apart k ns = sym (map-append shape_of (take k ns) (drop k ns)) ∙ ap (map shape_of) (take-append-drop k ns)

pub nodes-dropped : (k : ℕ) (ns : List Node) → NodesFit (map shape_of ns) → NodesFit (map shape_of (drop k ns))
nodes-dropped k ns fit = nodes-behind (map shape_of (take k ns)) (map shape_of (drop k ns)) (subst NodesFit (sym (shapes_apart k ns)) fit)

-- the room of the rest of a list after a place, pruned
pub room-rest : (t : ℤ) (k : ℕ) (ns : List Node) → IsAmount t → NodesFit (map shape_of ns) → SizesFit (map shape_of ns) → RoomFits (map shape_of (pruned_list t (drop k ns)))
room-rest t k ns p nodes sizes =
    room-pruned t (drop k ns) p
    (parts-behind (map shape_of (take k ns)) (map shape_of (drop k ns)) (subst PartsFit (sym (shapes_apart k ns)) (parts_fit (map shape_of ns) sizes)))
    (nodes-dropped k ns nodes)

-- ---- a list whose first node vanishes is no longer once it is pruned

pruned_at-fewer : (t : ℤ) (s : Shape) (n : Node) (ns : List Node) → is_discardable s ≡ true → length (pruned_at glue_before t s n ns (pruned_list t ns)) ≤ suc (length ns)
pruned_at-fewer t (box h d) n ns e = absurd (true≢false (sym e))
pruned_at-fewer t other n ns e = absurd (true≢false (sym e))
pruned_at-fewer t s n ns e = omega (arith, length-pruned_list t ns)

pub pruned-fewer : (t : ℤ) (ns : List Node) → BeginsVanishing (map shape_of ns) → length (pruned_list t ns) ≤ length ns
pruned-fewer t [] e = omega arith
pruned-fewer t (n ∷ ns) e = pruned_at-fewer t (shape_of n) n ns e

pub rest-fewer : (t : ℤ) (k : ℕ) (ns : List Node) → BeginsVanishing (drop k (map shape_of ns)) → length (pruned_list t (drop k ns)) ≤ length (drop k ns)
rest-fewer t k ns e = pruned-fewer t (drop k ns) (subst BeginsVanishing (drop-map shape_of k ns) e)

-- ---- a list that is split breaks at a node that vanishes

legal-vanishes : (before ns : List Shape) (p : ℤ) → split_penalty before ns ≡ Some p → BeginsVanishing ns
legal-vanishes before [] p e = tt
legal-vanishes before (box h d ∷ ns) p e = cc
legal-vanishes before (glue g ∷ ns) p e = refl
legal-vanishes before (kern w ∷ ns) p e = refl
legal-vanishes before (penalty q ∷ ns) p e = refl
legal-vanishes before (other ∷ ns) p e = cc

pub split-vanishes : (h d : ℤ) (ns : List Shape) → BeginsVanishing (drop (split_of h d ns).index ns)
split-vanishes h d ns = by_place (split_of h d ns).index (split_of h d ns).penalty (split-last_least h d ns).legal
  where
    by_place : (k : ℕ) (p : ℤ) → legal_at ns k ≡ Some p → BeginsVanishing (drop k ns)
    by_place k p e = by_test (nat_le k (length ns)) e
      where
        by_test : (t : Bool) → (if t then split_penalty (take k ns) (drop k ns) else None) ≡ Some p → BeginsVanishing (drop k ns)
        by_test true e = legal-vanishes (take k ns) (drop k ns) p e
        by_test false e = cc
