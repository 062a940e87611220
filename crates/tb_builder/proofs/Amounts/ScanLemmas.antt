-- The scan of a page, when a node without room goes on it.
use Rattle.std.proofs.Common.{◌≡◌, sym, ◌∙◌, ap, ℕ, ℤ, pos, Bool, true, false, List, [], ◌∷◌, ◌++◌, arith}
use Rattle.std.specs.Prelude.{map, ◌+ℤ◌, ◌≤ℤ◌}
use Rattle.std.proofs.lemmas.Int.{ints}
use Rattle.std.proofs.lemmas.List.{map-append}
use Rattle.tb_scaled.specs.Scaled.{min_ℤ}
use Rattle.tb_node.specs.declared.Sums.{Sums}
use Rattle.tb_node.specs.Shape.{Shape, box, glue, kern, penalty, other}
use Rattle.tb_node.specs.PlainNodes.{ins, PlainNode, node_shape, Inserted, is_insertion_kind}
use Rattle.tb_node.specs.Sums.{sums_of, last_depth, list_shrink, stretches}
use Rattle.tb_node.specs.NodeSums.{added_node, limited, limited_to}
use Rattle.tb_break.specs.Scan.{Scanned, empty_scan}
use Rattle.tb_insert.specs.declared.Class.{Class}
use Rattle.tb_insert.specs.Terms.{Terms, sums_with}
use Rattle.tb_insert.specs.Account.{ClassBox, Frozen, labelled, terms_after, terms_of_labels, is_met, insertions, class_box, skip_shapes}
use Rattle.tb_insert.specs.AccountEntries.{Differ, numbered, boxed, IsScanOfPage, met_scan}
use Rattle.tb_builder.specs.Courses.{IsFlat}
use Rattle.tb_insert.proofs.TermLemmas.{skipped, sums-other, met_depth}
use Rattle.tb_insert.proofs.AccountLemmas.{labelled-plain}
use Rattle.tb_insert.proofs.StandsLemmas.{none_met}

same_depth : (d limit : ℤ) → d ≤ℤ limit → limited_to limit d ≡ d
same_depth d limit le = grind (arith, ints, le)

same_total : (total d limit : ℤ) → d ≤ℤ limit → limited limit (total +ℤ d +ℤ pos 0) d ≡ total
same_total total d limit le = grind (arith, ints, le)

-- a node that takes no room and is no insertion goes on the page
pub scan_loose : (z : Frozen) (page : List PlainNode) (s : Scanned) (n : PlainNode) → is_insertion_kind n.kind ≡ false → node_shape n ≡ other → IsScanOfPage s z page → IsScanOfPage s z (page ++ n ∷ [])
scan_loose z page s n h e scan = record {
  under = scan.under;
  sums = scan.sums ∙ sym (ap (λ ls. sums_with (sums_of z.limit (map node_shape (page ++ n ∷ []))) (terms_of_labels z ls)) (labelled-plain z page n h)
      ∙ ap (λ x. sums_with x (terms_after z page)) (ap (sums_of z.limit) (map-append node_shape page (n ∷ []) ∙ ap (λ x. map node_shape page ++ x ∷ []) e) ∙ sums-other z.limit (map node_shape page)));
}

-- the sums with a node that takes no room, if the depth is within its limit
flat_sums : (limit : ℤ) (s : Sums) (lasting : Bool) (x : Shape) → IsFlat lasting x → s.depth ≤ℤ limit → added_node limit s x ≡ s
flat_sums limit s lasting (box h d) flat le = absurd flat
flat_sums limit s lasting (glue g) flat le = absurd flat
flat_sums limit s lasting (kern w) flat le = absurd flat
flat_sums limit s lasting (penalty p) flat le = λ i. record { total = same_total s.total s.depth limit le i; depth = same_depth s.depth limit le i; stretch = s.stretch; shrink = s.shrink }
flat_sums limit s lasting other flat le = λ i. record { total = same_total s.total s.depth limit le i; depth = same_depth s.depth limit le i; stretch = s.stretch; shrink = s.shrink }

-- the sums of a page are the same with such a node
pub scan_flat : (z : Frozen) (page : List PlainNode) (s : Scanned) (lasting : Bool) (x : Shape) → IsFlat lasting x → IsScanOfPage s z page → added_node s.max_depth s.sums x ≡ s.sums
scan_flat z page s lasting x flat scan =
    flat_sums s.max_depth s.sums lasting x flat (within s.sums.depth s.max_depth z.limit (last_depth (map node_shape page)) (ap (λ (t : Sums). t.depth) scan.sums) scan.under)
  where
    within : (d limit most last : ℤ) → d ≡ min_ℤ last most → limit ≡ most → d ≤ℤ limit
    within d limit most last is same = grind (arith, ints, is, same)

-- an insertion of a class goes on the page, and the skip of the class joins the sums if it is the first of it
pub scan_meets : (z : Frozen) (page : List PlainNode) (s : Scanned) (line : ℕ) (i : Inserted) (m : Bool) (class : Class) (size : ℤ) → Differ z.classes → numbered z.classes i.class ≡ true → class_box z.classes i.class ≡ boxed class size → m ≡ is_met (insertions (labelled z page)) i.class → IsScanOfPage s z page
    → IsScanOfPage (met_scan m s class) z (page ++ record { line = line; kind = ins i } ∷ [])
scan_meets z page s line i m class size differ known own met scan = record {
  under = met_depth m s class ∙ scan.under;
  sums = skipped z page s line i m class size differ known own met scan
      ∙ sym (ap (λ x. sums_with x (terms_after z (page ++ record { line = line; kind = ins i } ∷ []))) (ap (sums_of z.limit) (map-append node_shape page (record { line = line; kind = ins i } ∷ [])) ∙ sums-other z.limit (map node_shape page)));
}

-- a new scan has the sums of the empty page
pub scan_new : (z : Frozen) (limit : ℤ) (s : Scanned) → s ≡ empty_scan limit → z.limit ≡ limit → IsScanOfPage s z []
scan_new z limit s e l = record {
  under = ap (λ (x : Scanned). x.max_depth) e ∙ sym l;
  sums = ap (λ (x : Scanned). x.sums) e ∙ ap (λ x. sums_of x []) (sym l) ∙ sym (ap (λ cs. sums_with (sums_of z.limit []) (skip_terms cs)) (none_met z.classes));
}
  where
    skip_terms : List ClassBox → Terms
    skip_terms cs = record { goal = (terms_after z []).goal; penalties = pos 0; stretch = stretches (skip_shapes cs); shrink = list_shrink (skip_shapes cs) }
