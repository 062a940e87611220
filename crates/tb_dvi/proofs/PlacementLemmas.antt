-- A walk of a list that writes each node at its top.
use Rattle.std.proofs.Common.{◌≡◌, refl, ◌∙◌, ap, sym, subst, ℕ, suc, ◌+◌, ◌<◌, ◌≤◌, length, drop, get_or, drop-cons, arith, ℤ, pos, ◌≢◌, ◌+ℤ◌, true, false, ◌||◌, FitsSigned, w32, w64, List, [], ◌∷◌, ◌++◌, map, flat_map, Ok, Err, append_assoc, append-nil}
use Rattle.std.proofs.lemmas.List.{drop_all, map-append}
use Rattle.std.proofs.lemmas.List.Concat.{flat_map-append}
use Rattle.std.proofs.lemmas.List.Folds.{list_any-append}
use Rattle.tb_pool.specs.Lists.{Lists}
use Rattle.tb_node.specs.declared.Node.{Node}
use Rattle.tb_node.specs.declared.Kind.{Kind}
use Rattle.tb_node.specs.declared.Kind.TheVariants as kinds
use Rattle.tb_node.specs.Shape.{Shape}
use Rattle.tb_node.specs.SmallAmounts.{IsSmallShape}
use Rattle.tb_node.specs.Fit.{NodesFit, SumsFit}
use Rattle.tb_node.specs.PlainNodes.{plain_kind, node_shape, shape_of, plain_of, matter_of}
use Rattle.tb_pack.specs.declared.Set.{Set}
use Rattle.tb_pack.specs.Pack.{top_after}
use Rattle.tb_pack.specs.Position.{Walked, walked_past, HasPassed}
use Rattle.tb_pack.proofs.WalkLemmas.{next_natural_fits, next_glue_fits}
use Rattle.tb_column.proofs.ShownLemmas.{shapes-held}
use Rattle.tb_column.specs.declared.Column.{Column}
use Rattle.tb_report.specs.Printable.{IsPrintable}
use Rattle.tb_text.proofs.FrontLemmas.{PutSoFar, put-begins, put-more, put-stops, put-ends}
use Rattle.tb_dvi.specs.declared.page.Part.{Part}
use Rattle.tb_dvi.specs.declared.placement.PlaceFault.{PlaceFault}
use Rattle.tb_dvi.specs.declared.placement.PlaceFault.TheVariants as faults
use Rattle.tb_dvi.specs.Placement.{Placement, kind_spot, matter_spot, spot_placed, placed_after, part_placed, parts_placed}
use Rattle.tb_dvi.specs.File.{placement_bytes, is_far_down, has_far}
use Rattle.tb_dvi.specs.Page.{part_shown, parts_shown, IsShowable, Writes}

-- ---- placements one after another

-- the bytes of placements
abbrev pub bytes_of : List Placement → List ℕ
bytes_of ps = flat_map placement_bytes ps

pub bytes-append : (ps qs : List Placement) → bytes_of (ps ++ qs) ≡ bytes_of ps ++ bytes_of qs
bytes-append ps qs = flat_map-append placement_bytes ps qs

pub far-append : (ps qs : List Placement) → has_far (ps ++ qs) ≡ (has_far ps || has_far qs)
far-append ps qs = list_any-append (λ x. is_far_down x.v) ps qs

pub near-first : (ps qs : List Placement) → has_far ps ≡ false → has_far (ps ++ qs) ≡ has_far qs
near-first ps qs e = far-append ps qs ∙ ap (λ b. b || has_far qs) e

pub far-first : (ps qs : List Placement) → has_far ps ≡ true → has_far (ps ++ qs) ≡ true
far-first ps qs e = far-append ps qs ∙ ap (λ b. b || has_far qs) e

-- these are written, and those are left
pub record Left (all : List Placement) (old now : List ℕ) (rest : List Placement) : Type 0 where
  pub text : PutSoFar old (bytes_of all) now (bytes_of rest)
  pub near : has_far all ≡ has_far rest

pub all_left : (all : List Placement) (old : List ℕ) → Left all old old all
all_left all old = record { text = put-begins old (bytes_of all); near = refl }

-- what is left, as bytes
parts_left : (all : List Placement) (old now : List ℕ) (first rest : List Placement) → Left all old now (first ++ rest) → PutSoFar old (bytes_of all) now (bytes_of first ++ bytes_of rest)
parts_left all old now first rest left = subst (PutSoFar old (bytes_of all) now) (bytes-append first rest) left.text

-- some more are written
pub fewer_left : (all : List Placement) (old now new : List ℕ) (first rest : List Placement) → Left all old now (first ++ rest) → new ≡ now ++ bytes_of first → has_far first ≡ false → Left all old new rest
fewer_left all old now new first rest left wrote near = record {
  text = put-more new (bytes_of first) (bytes_of rest) (parts_left all old now first rest left) wrote;
  near = left.near ∙ near-first first rest near;
}

-- a fault at the next
pub fault_left : (e : PlaceFault) (all : List Placement) (old now new : List ℕ) (first rest : List Placement) → Left all old now (first ++ rest) → Writes (Err e) now new first → Writes (Err e) old new all
fault_left faults.Far all old now new first rest left far =
    (left.near ∙ far-first first rest far.0, put-stops (bytes_of first) (bytes_of rest) (parts_left all old now first rest left) far.1)
fault_left faults.Memory all old now new first rest left far = put-stops (bytes_of first) (bytes_of rest) (parts_left all old now first rest left) far

-- all is written
pub none_left : (all : List Placement) (old now : List ℕ) → Left all old now [] → Writes (Ok tt) old now all
none_left all old now left = (put-ends left.text, left.near)

-- ---- the nodes of a list

module _ (held : ℕ → List Node) (h at : ℤ) (s : Set) where
  -- what is shown of a node does not depend on the lists of insertions
  kind_spot-held : (k : Kind) → kind_spot (plain_kind held k) ≡ matter_spot (matter_of k)
  kind_spot-held (kinds.Ins i) = refl
  kind_spot-held k = refl

  -- the placements of the rest of a list, after the nodes before
  abbrev pub placed : List Node → List Node → List Placement
  placed before rest = placed_after h at s (map (plain_of held) before) (map (plain_of held) rest)

  -- the nodes before are written, and these are left
  pub record Placing (ns : List Node) (w : Walked) (old now : List ℕ) (rest : List Node) : Type 0 where
    pub before : List Node
    pub whole : before ++ rest ≡ ns
    pub passed : HasPassed w s (map shape_of before)
    pub left : Left (placed [] ns) old now (placed before rest)

  pub begins : (ns : List Node) (w : Walked) (old : List ℕ) → HasPassed w s [] → Placing ns w old old ns
  begins ns w old p = record { before = []; whole = refl; passed = p; left = all_left (placed [] ns) old }

  module _ (ns : List Node) (w : Walked) (old now : List ℕ) where
    -- the share of the walk's glue has a value
    pub shares : (rest : List Node) → Placing ns w old now rest → s.den ≢ pos 0 → w.set.den ≢ pos 0
    shares rest p x e = x (sym (ap (λ t. t.den) p.passed.same_set) ∙ e)

    pub ends : Placing ns w old now [] → Writes (Ok tt) old now (placed [] ns)
    ends p = none_left (placed [] ns) old now p.left

    module _ (n : Node) (rest : List Node) (p : Placing ns w old now (n ∷ rest)) where
      shapes_whole : map shape_of p.before ++ shape_of n ∷ map shape_of rest ≡ map shape_of ns
      shapes_whole = sym (map-append shape_of p.before (n ∷ rest)) ∙ ap (map shape_of) p.whole

      pub node_fits : NodesFit (map shape_of ns) → IsSmallShape (shape_of n)
      node_fits fits = fits (map shape_of p.before) (shape_of n) (map shape_of rest) shapes_whole

      pub natural_fits : (limit : ℤ) → SumsFit limit (map shape_of ns) → FitsSigned w64 (walked_past w (shape_of n)).natural
      natural_fits limit fits = next_natural_fits limit (map shape_of ns) w s (map shape_of p.before) (shape_of n) (map shape_of rest) fits shapes_whole p.passed

      pub glue_fits : (limit : ℤ) → SumsFit limit (map shape_of ns) → FitsSigned w64 (walked_past w (shape_of n)).glue
      glue_fits limit fits = next_glue_fits limit (map shape_of ns) w s (map shape_of p.before) (shape_of n) (map shape_of rest) fits shapes_whole p.passed

      module _ (top : ℤ) (at_top : (set : Set) (passed : List Shape) → HasPassed w set passed → top ≡ top_after set passed) where
        -- the placements of the node
        abbrev its : List Placement
        its = spot_placed h (at +ℤ top) (matter_spot (matter_of n.kind))

        its_place : spot_placed h (at +ℤ top_after s (map node_shape (map (plain_of held) p.before))) (kind_spot (plain_kind held n.kind)) ≡ its
        its_place =
            ap (λ k. spot_placed h (at +ℤ top_after s (map node_shape (map (plain_of held) p.before))) k) (kind_spot-held n.kind)
            ∙ ap (λ x. spot_placed h (at +ℤ x) (matter_spot (matter_of n.kind))) (ap (top_after s) (shapes-held held p.before) ∙ sym (at_top s (map shape_of p.before) p.passed))

        its_first : placed p.before (n ∷ rest) ≡ its ++ placed (p.before ++ n ∷ []) rest
        its_first = λ i. its_place i ++ placed_after h at s (sym (map-append (plain_of held) p.before (n ∷ [])) i) (map (plain_of held) rest)

        left_now : Left (placed [] ns) old now (its ++ placed (p.before ++ n ∷ []) rest)
        left_now = subst (Left (placed [] ns) old now) its_first p.left

        pub stops : (e : PlaceFault) (new : List ℕ) → Writes (Err e) now new its → Writes (Err e) old new (placed [] ns)
        stops e new wrote = fault_left e (placed [] ns) old now new its (placed (p.before ++ n ∷ []) rest) left_now wrote

        pub goes_on : (w' : Walked) (new : List ℕ) → Writes (Ok tt) now new its
            → ((set : Set) (passed : List Shape) → HasPassed w set passed → HasPassed w' set (passed ++ shape_of n ∷ []))
            → Placing ns w' old new rest
        goes_on w' new wrote passes = record {
          before = p.before ++ n ∷ [];
          whole = append_assoc p.before (n ∷ []) rest ∙ p.whole;
          passed = subst (HasPassed w' s) (sym (map-append shape_of p.before (n ∷ []))) (passes s (map shape_of p.before) p.passed);
          left = fewer_left (placed [] ns) old now new its (placed (p.before ++ n ∷ []) rest) left_now wrote.0 wrote.1;
        }

-- ---- the parts of a page

-- the placements of the parts from one on: its own, and those after it
pub parts-step : (store : Lists Node) (parts : List Part) (i : ℕ) (part : Part) → i < length parts → part ≡ get_or parts i part
    → parts_placed (parts_shown store (drop i parts)) ≡ part_placed (part_shown store part) ++ parts_placed (parts_shown store (drop (i + 1) parts))
parts-step store parts i part h e =
    let one : suc i ≡ i + 1 = omega arith in
    ap (λ ps. parts_placed (parts_shown store ps)) (drop-cons parts i part h)
    ∙ (λ j. part_placed (part_shown store (sym e j)) ++ parts_placed (parts_shown store (drop (one j) parts)))

pub parts-end : (store : Lists Node) (parts : List Part) (i : ℕ) → length parts ≤ i → parts_placed (parts_shown store (drop i parts)) ≡ []
parts-end store parts i h = ap (λ ps. parts_placed (parts_shown store ps)) (drop_all i parts h)

-- a column that can be printed is a part that can be shown
pub column-showable : (store : Lists Node) (c : Column) (h at : ℤ) → FitsSigned w32 h → IsPrintable store c → IsShowable store (record { h = h; at = at; list = c.list; set = c.set })
column-showable store c h at right p = record { list = p.list; share = p.share; right = right }
