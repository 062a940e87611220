-- The places of a galley as flags, and how many items it has.
use Rattle.std.proofs.Common.{◌≡◌, refl, sym, ap, ◌∙◌, ℕ, suc, ◌+◌, ◌≤◌, Bool, true, false, List, [], ◌∷◌, ◌++◌, map, length, append_assoc, length-append, add-one, arith}
use Rattle.std.specs.Prelude.{replicate, nat_le, IsTrue}
use Rattle.std.proofs.lemmas.Bool.Decides.{nat_tests}
use Rattle.std.proofs.Math.Seq.{set-append_seam}
use Rattle.tb_param.specs.declared.Params.{Params}
use Rattle.tb_galley.specs.declared.Item.{Item}
use Rattle.tb_galley.specs.declared.ItemKind.{ItemKind}
use Rattle.tb_galley.specs.declared.ItemKind.TheVariants as items
use Rattle.tb_galley.specs.Valid.{IsValid, weight, weight_of}
use Rattle.tb_galley.specs.declared.Galley.{Galley}
use Rattle.tb_galley.specs.GalleyNodes.{two_after, params_after}
use Rattle.tb_plans.specs.declared.walk.Before.{Before}
use Rattle.tb_plans.specs.declared.walk.Before.TheVariants as befores
use Rattle.tb_plans.specs.Places.{is_glue_next, is_place, before_after, if_place, places_from, places_of}
use Rattle.tb_best.specs.ItemsAhead.{Ahead, last_ahead, ahead_from, all_ahead}
use Rattle.tb_search.specs.Ways.{marked}

-- whether a break may be put in before an item ahead
abbrev place_at : Ahead → Bool
place_at c = c.is_place

-- the flag at the end of those before is set if the item is a place
one-more : (pre fs : List Bool) (here : Bool) (ns : List ℕ) → marked (pre ++ false ∷ fs) (if_place (length pre) here ++ ns) ≡ marked ((pre ++ here ∷ []) ++ fs) ns
one-more pre fs true ns = ap (λ gs. marked gs ns) (set-append_seam pre false fs true ∙ sym (append_assoc pre (true ∷ []) fs))
one-more pre fs false ns = ap (λ gs. marked gs ns) (sym (append_assoc pre (false ∷ []) fs))

module _ (p : Params) (last : Ahead) (clear : last.is_place ≡ false) where
  flags-from : (q : Params) (pre : List Bool) (two : Bool) (b : Before) (k : ℕ) (ns : List Item) → k ≡ length pre
      → marked (pre ++ replicate (suc (length ns)) false) (places_from p two b k ns) ≡ pre ++ map place_at (ahead_from p q last two b k ns)
  flags-from q pre two b k [] e = ap (λ (f : Bool). pre ++ f ∷ []) (sym clear)
  flags-from q pre two b k (n ∷ ns) e =
      let here : Bool = is_place (is_glue_next p two ns) b n.kind in
      let more : suc k ≡ length (pre ++ here ∷ []) = let l = length-append pre (here ∷ []) in omega (arith, l, e) in
      ap (λ j. marked (pre ++ false ∷ replicate (suc (length ns)) false) (if_place j here ++ places_from p (two_after two n.kind) (before_after p two b n.kind) (suc k) ns)) e
      ∙ one-more pre (replicate (suc (length ns)) false) here (places_from p (two_after two n.kind) (before_after p two b n.kind) (suc k) ns)
      ∙ flags-from (params_after q n.kind) (pre ++ here ∷ []) (two_after two n.kind) (before_after p two b n.kind) (suc k) ns more
      ∙ append_assoc pre (here ∷ []) (map place_at (ahead_from p (params_after q n.kind) last (two_after two n.kind) (before_after p two b n.kind) (suc k) ns))

-- the places of a galley, marked among as many flags as it has items ahead
pub flags-are : (g : Galley) → marked (replicate (length g.items + 1) false) (places_of g) ≡ map (λ (c : Ahead). c.is_place) (all_ahead g)
unfolding places_of all_ahead
flags-are g = ap (λ n. marked (replicate n false) (places_from g.params false befores.Nothing 0 g.items)) (add-one (length g.items)) ∙ flags-from g.params (last_ahead g) refl g.params [] false befores.Nothing 0 g.items refl

-- ---- how many items a galley has

items-weigh : (ns : List Item) → length ns ≤ weight ns
items-weigh [] = omega arith
items-weigh (n ∷ ns) = let more : length ns ≤ weight ns = items-weigh ns in let one : 1 ≤ weight_of n.kind = heavy n.kind in omega arith
  where
    heavy : (k : ItemKind) → 1 ≤ weight_of k
    heavy (items.Foot class ls) = omega arith
    heavy k = omega arith

-- a valid galley has at most 100000
pub few-items : (g : Galley) → IsValid g → length g.items ≤ 100000
few-items g v = let most : weight g.items ≤ 100000 = below (weight g.items) v.count in let all : length g.items ≤ weight g.items = items-weigh g.items in omega arith
  where
    below : (n : ℕ) → IsTrue (nat_le n 100000) → n ≤ 100000
    below n h = grind (arith, nat_tests, h)
