-- The sums of a page with the terms of its insertions, when a node goes on it.
use Rattle.std.proofs.Common.{◌≡◌, refl, sym, subst, ◌∙◌, ap, ℕ, ◌<◌, ℤ, pos, Bool, true, false, List, [], ◌∷◌, ◌++◌, length, arith}
use Rattle.std.specs.Prelude.{if◌then◌else◌, ◌+ℤ◌, ◌-ℤ◌, map}
use Rattle.std.proofs.lemmas.List.{map-append}
use Rattle.std.proofs.lemmas.Int.{ints}
use Rattle.tb_scaled.specs.Scaled.{min_ℤ}
use Rattle.tb_scaled.specs.declared.Glue.{Glue}
use Rattle.tb_scaled.specs.declared.Order.{Order}
use Rattle.tb_scaled.specs.declared.Order.TheVariants.{Normal, Fil, Fill, Filll}
use Rattle.tb_pool.specs.Lists.{Lists, list_at}
use Rattle.tb_node.specs.declared.Node.{Node}
use Rattle.tb_node.specs.declared.Insertion.{Insertion}
use Rattle.tb_node.specs.declared.Sums.{Sums}
use Rattle.tb_node.specs.SmallAmounts.{IsAmount, IsSmall}
use Rattle.tb_node.specs.Shape.{Shape, glue, other}
use Rattle.tb_node.specs.PlainNodes.{ins, PlainNode, node_shape, inserted_of, Inserted, is_insertion_kind}
use Rattle.tb_node.specs.Sums.{sums_of, size_of, list_stretch, stretch_of, list_shrink}
use Rattle.tb_node.specs.NodeSums.{added_node, stretched_sums, more_at, order_index, stretch_with, shrink_with}
use Rattle.tb_node.proofs.AddLemmas.{sums-append, added_stretches, size-append, depth-append, stretch-append, shrink-append, four}
use Rattle.tb_break.specs.Scan.{Scanned}
use Rattle.tb_insert.specs.declared.Class.{Class}
use Rattle.tb_insert.specs.declared.Account.{Account}
use Rattle.tb_insert.specs.Terms.{Terms, sums_with, added_amounts}
use Rattle.tb_insert.specs.Account.{Frozen, Labelled, labelled, label_of, terms_after, terms_of_labels, is_met, insertions, class_box}
use Rattle.tb_insert.specs.AccountEntries.{Differ, numbered, boxed, IsAccountOf, EntryStands, IsScanOfPage, ComesTo, entry_of, met_scan}
use Rattle.tb_insert.specs.Arrival.{InnerFits, ClassFits, ArriveFits, PageFits}
use Rattle.tb_insert.proofs.AccountLemmas.{TermsNext, terms_next, labelled-append, new_skip, labelled-plain}
use Rattle.tb_insert.proofs.StandsLemmas.{goal_next, height_next, penalties_next}

swap : (x v t : ℤ) → (x +ℤ v) +ℤ t ≡ (x +ℤ t) +ℤ v
swap x v t = omega (arith, ints)

amounts_commute : (o : Order) (v p q r s a b c d : ℤ)
    → added_amounts (more_at (order_index o) v (p ∷ q ∷ r ∷ s ∷ [])) (a ∷ b ∷ c ∷ d ∷ []) ≡ more_at (order_index o) v (added_amounts (p ∷ q ∷ r ∷ s ∷ []) (a ∷ b ∷ c ∷ d ∷ []))
amounts_commute Normal v p q r s a b c d = ap (λ x. x ∷ (q +ℤ b) ∷ (r +ℤ c) ∷ (s +ℤ d) ∷ []) (swap p v a)
amounts_commute Fil v p q r s a b c d = ap (λ x. (p +ℤ a) ∷ x ∷ (r +ℤ c) ∷ (s +ℤ d) ∷ []) (swap q v b)
amounts_commute Fill v p q r s a b c d = ap (λ x. (p +ℤ a) ∷ (q +ℤ b) ∷ x ∷ (s +ℤ d) ∷ []) (swap r v c)
amounts_commute Filll v p q r s a b c d = ap (λ x. (p +ℤ a) ∷ (q +ℤ b) ∷ (r +ℤ c) ∷ x ∷ []) (swap s v d)

stretch_commutes : (n : Shape) (p q r s a b c d : ℤ)
    → added_amounts (stretch_with n (p ∷ q ∷ r ∷ s ∷ [])) (a ∷ b ∷ c ∷ d ∷ []) ≡ stretch_with n (added_amounts (p ∷ q ∷ r ∷ s ∷ []) (a ∷ b ∷ c ∷ d ∷ []))
stretch_commutes (glue g) p q r s a b c d = amounts_commute g.order g.stretch p q r s a b c d
stretch_commutes n p q r s a b c d = refl

shrink_commutes : (n : Shape) (z t : ℤ) → shrink_with n z +ℤ t ≡ shrink_with n (z +ℤ t)
shrink_commutes (glue g) z t = swap z g.shrink t
shrink_commutes n z t = refl

pub with_terms : (limit : ℤ) (ns : List Shape) (n : Shape) (t : Terms) (a b c d : ℤ) → t.stretch ≡ a ∷ b ∷ c ∷ d ∷ []
    → sums_with (sums_of limit (ns ++ n ∷ [])) t ≡ added_node limit (sums_with (sums_of limit ns) t) n
with_terms limit ns n t a b c d e =
    ap (λ s. sums_with s t) (sums-append limit ns n)
    ∙ (λ i. record {
      total = (added_node limit (sums_of limit ns) n).total;
      depth = (added_node limit (sums_of limit ns) n).depth;
      stretch = stretches i;
      shrink = shrink_commutes n (sums_of limit ns).shrink t.shrink i;
    })
  where
    stretches : added_amounts (stretch_with n (sums_of limit ns).stretch) t.stretch ≡ stretch_with n (added_amounts (sums_of limit ns).stretch t.stretch)
    stretches = ap (added_amounts (stretch_with n (sums_of limit ns).stretch)) e ∙ stretch_commutes n _ _ _ _ a b c d ∙ sym (ap (λ x. stretch_with n (added_amounts (sums_of limit ns).stretch x)) e)

-- ---- the skip of a class

assoc : (p a v : ℤ) → p +ℤ (a +ℤ v) ≡ (p +ℤ a) +ℤ v
assoc p a v = omega (arith, ints)

nothing : (a : ℤ) → a +ℤ pos 0 ≡ a
nothing a = omega (arith, ints)

amounts_more : (o : Order) (v p q r s a b c d : ℤ)
    → added_amounts (p ∷ q ∷ r ∷ s ∷ []) (more_at (order_index o) v (a ∷ b ∷ c ∷ d ∷ [])) ≡ more_at (order_index o) v (added_amounts (p ∷ q ∷ r ∷ s ∷ []) (a ∷ b ∷ c ∷ d ∷ []))
amounts_more Normal v p q r s a b c d = ap (λ x. x ∷ (q +ℤ b) ∷ (r +ℤ c) ∷ (s +ℤ d) ∷ []) (assoc p a v)
amounts_more Fil v p q r s a b c d = ap (λ x. (p +ℤ a) ∷ x ∷ (r +ℤ c) ∷ (s +ℤ d) ∷ []) (assoc q b v)
amounts_more Fill v p q r s a b c d = ap (λ x. (p +ℤ a) ∷ (q +ℤ b) ∷ x ∷ (s +ℤ d) ∷ []) (assoc r c v)
amounts_more Filll v p q r s a b c d = ap (λ x. (p +ℤ a) ∷ (q +ℤ b) ∷ (r +ℤ c) ∷ x ∷ []) (assoc s d v)

-- the sums with the skip of a class, if that is new
abbrev pub with_skip : Bool → Glue → Sums → Sums
with_skip m g s = if m then s else stretched_sums s g

-- the sums of a list with the terms of one more label
skip_sums : (limit : ℤ) (ns : List Shape) (t u : Terms) (g : Glue) (m : Bool) (a b c d a' b' c' d' : ℤ)
    → t.stretch ≡ a ∷ b ∷ c ∷ d ∷ [] → u.stretch ≡ a' ∷ b' ∷ c' ∷ d' ∷ []
    → a' ≡ a +ℤ new_skip m (stretch_of Normal (glue g)) → b' ≡ b +ℤ new_skip m (stretch_of Fil (glue g)) → c' ≡ c +ℤ new_skip m (stretch_of Fill (glue g)) → d' ≡ d +ℤ new_skip m (stretch_of Filll (glue g))
    → u.shrink ≡ t.shrink +ℤ new_skip m g.shrink
    → sums_with (sums_of limit ns) u ≡ with_skip m g (sums_with (sums_of limit ns) t)
skip_sums limit ns t u g true a b c d a' b' c' d' et eu ea eb ec ed es = λ i. record {
  total = (sums_of limit ns).total;
  depth = (sums_of limit ns).depth;
  stretch = added_amounts (sums_of limit ns).stretch (same i);
  shrink = (sums_of limit ns).shrink +ℤ (es ∙ nothing t.shrink) i;
}
  where
    same : u.stretch ≡ t.stretch
    same = eu ∙ four (ea ∙ nothing a) (eb ∙ nothing b) (ec ∙ nothing c) (ed ∙ nothing d) ∙ sym et
skip_sums limit ns t u g false a b c d a' b' c' d' et eu ea eb ec ed es = λ i. record {
  total = (sums_of limit ns).total;
  depth = (sums_of limit ns).depth;
  stretch = more i;
  shrink = (ap (λ z. (sums_of limit ns).shrink +ℤ z) es ∙ assoc (sums_of limit ns).shrink t.shrink g.shrink) i;
}
  where
    more : added_amounts (sums_of limit ns).stretch u.stretch ≡ more_at (order_index g.order) g.stretch (added_amounts (sums_of limit ns).stretch t.stretch)
    more = ap (added_amounts (sums_of limit ns).stretch) (eu ∙ four ea eb ec ed ∙ added_stretches (glue g) a b c d)
        ∙ amounts_more g.order g.stretch _ _ _ _ a b c d
        ∙ sym (ap (λ x. more_at (order_index g.order) g.stretch (added_amounts (sums_of limit ns).stretch x)) et)

-- a node that takes no room changes no sum
pub sums-other : (limit : ℤ) (ns : List Shape) → sums_of limit (ns ++ other ∷ []) ≡ sums_of limit ns
sums-other limit ns = λ i. record {
  total = ((size-append ns other ∙ nothing (size_of ns)) i) -ℤ min_ℤ (depth-append (pos 0) ns other i) limit;
  depth = min_ℤ (depth-append (pos 0) ns other i) limit;
  stretch = four (by_order Normal) (by_order Fil) (by_order Fill) (by_order Filll) i;
  shrink = (shrink-append ns other ∙ nothing (list_shrink ns)) i;
}
  where
    by_order : (o : Order) → list_stretch o (ns ++ other ∷ []) ≡ list_stretch o ns
    by_order o = stretch-append o ns other ∙ nothing (list_stretch o ns)

-- ---- the scan and the page

met_sums : (m : Bool) (s : Scanned) (class : Class) → (met_scan m s class).sums ≡ with_skip m class.skip s.sums
met_sums true s class = refl
met_sums false s class = refl

pub met_depth : (m : Bool) (s : Scanned) (class : Class) → (met_scan m s class).max_depth ≡ s.max_depth
met_depth true s class = refl
met_depth false s class = refl

module _ (z : Frozen) (page : List PlainNode) (s : Scanned) (line : ℕ) (i : Inserted) (m : Bool) (class : Class) (size : ℤ)
    (differ : Differ z.classes) (known : numbered z.classes i.class ≡ true) (own : class_box z.classes i.class ≡ boxed class size) (met : m ≡ is_met (insertions (labelled z page)) i.class) (scan : IsScanOfPage s z page) where
  n : PlainNode
  n = record { line = line; kind = ins i }

  abbrev l : Labelled
  l = record { index = length page; line = line; inserted = i; label = label_of z (labelled z page) page i }

  next : TermsNext z (labelled z page) l m
  next = terms_next z (labelled z page) l m differ known (sym met)

  -- the sums with the skip of the insertion's class are those of the page with the terms after the insertion
  pub skipped : (met_scan m s class).sums ≡ sums_with (sums_of z.limit (map node_shape page)) (terms_after z (page ++ record { line = line; kind = ins i } ∷ []))
  skipped =
      met_sums m s class ∙ ap (with_skip m class.skip) scan.sums
      ∙ sym (ap (λ c. with_skip m c.class.skip (sums_with (sums_of z.limit (map node_shape page)) (terms_after z page))) own)
      ∙ sym (skip_sums z.limit (map node_shape page) (terms_after z page) (terms_of_labels z (labelled z page ++ l ∷ [])) (class_box z.classes i.class).class.skip m _ _ _ _ _ _ _ _ refl refl (next.stretch Normal) (next.stretch Fil) (next.stretch Fill) (next.stretch Filll) next.shrink)
      ∙ sym (ap (λ ls. sums_with (sums_of z.limit (map node_shape page)) (terms_of_labels z ls)) (labelled-append z page (record { line = line; kind = ins i })))

-- a node that is no insertion goes on the page
pub scan_plain : (z : Frozen) (page : List PlainNode) (s t : Scanned) (n : PlainNode) → is_insertion_kind n.kind ≡ false → IsScanOfPage s z page → t ≡ record s { sums = added_node s.max_depth s.sums (node_shape n) } → IsScanOfPage t z (page ++ n ∷ [])
scan_plain z page s t n h scan add = record {
  under = ap (λ (x : Scanned). x.max_depth) add ∙ scan.under;
  sums = ap (λ (x : Scanned). x.sums) add ∙ (λ j. added_node (scan.under j) (scan.sums j) (node_shape n)) ∙ sym whole;
}
  where
    whole : sums_with (sums_of z.limit (map node_shape (page ++ n ∷ []))) (terms_after z (page ++ n ∷ [])) ≡ added_node z.limit (sums_with (sums_of z.limit (map node_shape page)) (terms_after z page)) (node_shape n)
    whole = ap (λ ls. sums_with (sums_of z.limit (map node_shape (page ++ n ∷ []))) (terms_of_labels z ls)) (labelled-plain z page n h)
        ∙ ap (λ ss. sums_with (sums_of z.limit ss) (terms_after z page)) (map-append node_shape page (n ∷ []))
        ∙ with_terms z.limit (map node_shape page) (node_shape n) (terms_after z page) _ _ _ _ refl

-- ---- what is added up fits

-- if the amounts after the insertion fit, it may arrive
pub arrive_fits : (store : Lists Node) (a : Account) (s : Scanned) (i : Insertion) (line : ℕ) (class : Class) (size : ℤ) (index : ℕ) (z : Frozen) (page marked : List PlainNode)
    → class.number ≡ i.class → i.class < 256 → IsAccountOf a z page marked → ComesTo z page s class size index → InnerFits store i → ClassFits class
    → PageFits z (page ++ record { line = line; kind = ins (inserted_of (list_at store) i) } ∷ [])
    → ArriveFits store a s i class size
arrive_fits store a s i line class size index z page marked number most stands co inner fits after = record {
  inner = inner;
  own = fits;
  met_sums = subst IsSmall (sym (skipped z page s line (inserted_of (list_at store) i) (entry_of a i.class).met class size stands.differ known own entry.met co.scan)) (subst (λ x. IsSmall (sums_with x (terms_after z (page ++ n ∷ [])))) (ap (sums_of z.limit) (map-append node_shape page (n ∷ [])) ∙ sums-other z.limit (map node_shape page)) after.sums);
  goal = subst IsAmount (sym (goal_next z page marked a s (entry_of a i.class) (inserted_of (list_at store) i) class size stands own known co.scan entry line)) after.goal;
  height = subst IsAmount (sym (height_next z page marked a s (entry_of a i.class) (inserted_of (list_at store) i) class size stands own known co.scan entry line)) (after.heights i.class known);
  penalties = subst IsAmount (sym (penalties_next z page marked a s (entry_of a i.class) (inserted_of (list_at store) i) class size stands own known co.scan entry line)) after.penalties;
}
  where
    n : PlainNode
    n = record { line = line; kind = ins (inserted_of (list_at store) i) }

    own : class_box z.classes i.class ≡ boxed class size
    own = subst (λ k. class_box z.classes k ≡ boxed class size) number co.own

    known : numbered z.classes i.class ≡ true
    known = subst (λ k. numbered z.classes k ≡ true) number co.numbered_so

    entry : EntryStands (entry_of a i.class) z a.newest a.mark (labelled z page) (labelled z marked) i.class
    entry = stands.entries i.class most
