-- A walk of a list that prints each node at its top.
use Rattle.std.proofs.Common.{◌≡◌, refl, ◌∙◌, ap, sym, subst, ℕ, ℤ, pos, ◌≢◌, FitsSigned, w64, List, [], ◌∷◌, ◌++◌, map, append_assoc, append-nil}
use Rattle.std.proofs.lemmas.List.{map-append}
use Rattle.tb_node.specs.declared.Node.{Node}
use Rattle.tb_node.specs.declared.Kind.{Kind}
use Rattle.tb_node.specs.declared.Kind.TheVariants as kinds
use Rattle.tb_node.specs.Shape.{Shape}
use Rattle.tb_node.specs.SmallAmounts.{IsSmallShape}
use Rattle.tb_node.specs.Fit.{NodesFit, SumsFit}
use Rattle.tb_node.specs.PlainNodes.{plain_kind, node_shape, shape_of, plain_of, plain, matter_of}
use Rattle.tb_pack.specs.declared.Set.{Set}
use Rattle.tb_pack.specs.Pack.{top_after}
use Rattle.tb_pack.specs.Position.{Walked, walked_past, HasPassed}
use Rattle.tb_pack.proofs.WalkLemmas.{next_natural_fits, next_glue_fits}
use Rattle.tb_column.proofs.ShownLemmas.{shapes-held}
use Rattle.tb_text.specs.Fronts.{PutsFront}
use Rattle.tb_text.proofs.FrontLemmas.{PutSoFar, put-begins, put-more, put-stops, put-ends}
use Rattle.tb_report.specs.Lines.{matter_line, node_line, item_lines, left_line, left_lines}

module _ (held : ℕ → List Node) where
  -- a node's line and its shape do not depend on the lists of insertions
  node_line-held : (k : Kind) (top : ℤ) → node_line (plain_kind held k) top ≡ matter_line (matter_of k) top
  node_line-held (kinds.Ins i) top = refl
  node_line-held k top = refl

  -- the nodes before are printed, and these are left
  pub record Printing (s : Set) (ns : List Node) (w : Walked) (old now : List ℕ) (rest : List Node) : Type 0 where
    pub before : List Node
    pub whole : before ++ rest ≡ ns
    pub passed : HasPassed w s (map shape_of before)
    pub text : PutSoFar old (item_lines s [] (map (plain_of held) ns)) now (item_lines s (map (plain_of held) before) (map (plain_of held) rest))

  pub begins : (s : Set) (ns : List Node) (w : Walked) (old : List ℕ) → HasPassed w s [] → Printing s ns w old old ns
  begins s ns w old p = record { before = []; whole = refl; passed = p; text = put-begins old (item_lines s [] (map (plain_of held) ns)) }

  -- the share of the walk's glue has a value
  pub shares : (s : Set) (ns : List Node) (w : Walked) (old now : List ℕ) (rest : List Node) → Printing s ns w old now rest → s.den ≢ pos 0 → w.set.den ≢ pos 0
  shares s ns w old now rest p h e = h (sym (ap (λ t. t.den) p.passed.same_set) ∙ e)

  module _ (s : Set) (ns : List Node) (w : Walked) (old now : List ℕ) (n : Node) (rest : List Node) (p : Printing s ns w old now (n ∷ rest)) where
    shapes_whole : map shape_of p.before ++ shape_of n ∷ map shape_of rest ≡ map shape_of ns
    shapes_whole = sym (map-append shape_of p.before (n ∷ rest)) ∙ ap (map shape_of) p.whole

    pub node_fits : NodesFit (map shape_of ns) → IsSmallShape (shape_of n)
    node_fits fits = fits (map shape_of p.before) (shape_of n) (map shape_of rest) shapes_whole

    pub natural_fits : (limit : ℤ) → SumsFit limit (map shape_of ns) → FitsSigned w64 (walked_past w (shape_of n)).natural
    natural_fits limit fits = next_natural_fits limit (map shape_of ns) w s (map shape_of p.before) (shape_of n) (map shape_of rest) fits shapes_whole p.passed

    pub glue_fits : (limit : ℤ) → SumsFit limit (map shape_of ns) → FitsSigned w64 (walked_past w (shape_of n)).glue
    glue_fits limit fits = next_glue_fits limit (map shape_of ns) w s (map shape_of p.before) (shape_of n) (map shape_of rest) fits shapes_whole p.passed

    its_line : (top : ℤ) → top ≡ top_after s (map shape_of p.before) → node_line (plain_kind held n.kind) top ≡ matter_line (matter_of n.kind) (top_after s (map shape_of p.before))
    its_line top e = node_line-held n.kind top ∙ ap (matter_line (matter_of n.kind)) e

    -- the line of the next node, and what is left after it
    next_text : PutSoFar old (item_lines s [] (map (plain_of held) ns)) now
        (matter_line (matter_of n.kind) (top_after s (map shape_of p.before)) ++ item_lines s (map (plain_of held) p.before ++ plain_of held n ∷ []) (map (plain_of held) rest))
    next_text =
        let line = its_line (top_after s (map node_shape (map (plain_of held) p.before))) (ap (top_after s) (shapes-held held p.before)) in
        subst (λ t. PutSoFar old (item_lines s [] (map (plain_of held) ns)) now (t ++ item_lines s (map (plain_of held) p.before ++ plain_of held n ∷ []) (map (plain_of held) rest))) line p.text

    -- memory runs out in the next line
    pub stops : (after : List ℕ) → ((set : Set) (passed : List Shape) → HasPassed w set passed → PutsFront now (matter_line (matter_of n.kind) (top_after set passed)) after)
        → PutsFront old (item_lines s [] (map (plain_of held) ns)) after
    stops after cut = put-stops _ _ next_text (cut s (map shape_of p.before) p.passed)

    pub goes_on : (w' : Walked) (now' : List ℕ)
        → ((set : Set) (passed : List Shape) → HasPassed w set passed → now' ≡ now ++ matter_line (matter_of n.kind) (top_after set passed))
        → ((set : Set) (passed : List Shape) → HasPassed w set passed → HasPassed w' set (passed ++ shape_of n ∷ []))
        → Printing s ns w' old now' rest
    goes_on w' now' written passes =
        let text = put-more now' _ _ next_text (written s (map shape_of p.before) p.passed) in
        record {
          before = p.before ++ n ∷ [];
          whole = append_assoc p.before (n ∷ []) rest ∙ p.whole;
          passed = subst (HasPassed w' s) (sym (map-append shape_of p.before (n ∷ []))) (passes s (map shape_of p.before) p.passed);
          text =
              subst (λ ms. PutSoFar old (item_lines s [] (map (plain_of held) ns)) now' (item_lines s ms (map (plain_of held) rest))) (sym (map-append (plain_of held) p.before (n ∷ []))) text;
        }

  pub ends : (s : Set) (ns : List Node) (w : Walked) (old now : List ℕ) → Printing s ns w old now [] → now ≡ old ++ item_lines s [] (map (plain_of held) ns)
  ends s ns w old now p = put-ends p.text

  -- the lines of what is left at the end are written, but for those of these nodes
  pub record Leaving (old all now : List ℕ) (rest : List Node) : Type 0 where
    pub text : PutSoFar old all now (left_lines (map (plain_of held) rest))

  -- a node's line does not depend on the lists of insertions
  left_line-held : (k : Kind) → left_line (plain_kind held k) ≡ left_line (plain (matter_of k))
  left_line-held (kinds.Ins i) = refl
  left_line-held k = refl

  module _ (old all now : List ℕ) (n : Node) (rest : List Node) (p : Leaving old all now (n ∷ rest)) where
    next_left : PutSoFar old all now (left_line (plain (matter_of n.kind)) ++ left_lines (map (plain_of held) rest))
    next_left = subst (λ t. PutSoFar old all now (t ++ left_lines (map (plain_of held) rest))) (left_line-held n.kind) p.text

    pub leaves_cut : (after : List ℕ) → PutsFront now (left_line (plain (matter_of n.kind))) after → PutsFront old all after
    leaves_cut after cut = put-stops _ _ next_left cut

    pub leaves_on : (next : List ℕ) → next ≡ now ++ left_line (plain (matter_of n.kind)) → Leaving old all next rest
    leaves_on next e = record { text = put-more next _ _ next_left e }
