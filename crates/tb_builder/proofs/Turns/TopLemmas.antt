-- The top glue goes to the end of the page: it is as if it had waited first.
use Rattle.std.proofs.Common.{◌≡◌, ◌≢◌, sym, ◌∙◌, ap, ℕ, List, [], ◌∷◌, ◌++◌, Some, unwrap_or}
use Rattle.std.specs.Prelude.{slice_get}
use Rattle.std.specs.FinMap.{get, insert}
use Rattle.tb_pool.specs.Lists.{Lists, list_at, with_list}
use Rattle.tb_pool.proofs.MapLemmas.{get-insert_same, get-insert_other, insert_twice_from_get}
use Rattle.tb_node.specs.declared.Node.{Node}
use Rattle.tb_builder.specs.declared.Builder.{Builder}
use Rattle.tb_builder.specs.Ownership.{ids_of, IsOwned}
use Rattle.tb_builder.specs.PageTurns.{with_top}
use Rattle.tb_builder.proofs.Ownership.StoreMoves.{live_has}
use Rattle.tb_builder.proofs.Turns.FillLemmas.{Went, went_from}

-- the list with the node in front
pub top_list : (s : Lists Node) (l : ℕ) (g : Node) → list_at (with_top s l g) l ≡ g ∷ list_at s l
top_list s l g = ap (λ o. unwrap_or o []) (get-insert_same s.lists l (g ∷ list_at s l))

-- the page is as it was
pub top_page : (b : Builder) (s : Lists Node) (g : Node) → IsOwned (ids_of b) s → list_at (with_top s b.waiting g) b.page ≡ list_at s b.page
top_page b s g own = ap (λ o. unwrap_or o []) (get-insert_other s.lists b.waiting (g ∷ list_at s b.waiting) b.page own.differ.0.0)

same_tail : (g m : Node) (xs ys ns : List Node) → xs ≡ g ∷ ys → xs ≡ m ∷ ns → ys ≡ ns
same_tail g m xs ys ns e h = let k : (g ∷ ys) ≡ (m ∷ ns) = sym e ∙ h in cc

same_head : (g m : Node) (xs ys ns : List Node) → xs ≡ g ∷ ys → xs ≡ m ∷ ns → g ≡ m
same_head g m xs ys ns e h = let k : (g ∷ ys) ≡ (m ∷ ns) = sym e ∙ h in cc

module _ (b d : Builder) (s y : Lists Node) (g : Node) (ids : ids_of d ≡ ids_of b) (frozen : d.frozen ≡ b.frozen) (stopped : d.stopped ≡ b.stopped) (own : IsOwned (ids_of b) s) (own_top : IsOwned (ids_of b) (with_top s b.waiting g))
    (pushed : y.lists ≡ with_list s b.page (list_at s b.page ++ g ∷ [])) where
  abbrev t : Lists Node
  t = with_top s b.waiting g

  apart : b.page ≢ b.waiting
  apart = own.differ.0.0

  other : (q : ℕ) → q ≢ b.page → get y.lists q ≡ get s.lists q
  other q np = ap (λ m. get m q) pushed ∙ get-insert_other s.lists b.page (list_at s b.page ++ g ∷ []) q np

  page_same : list_at t b.page ≡ list_at s b.page
  page_same = top_page b s g own

  moved : (m : Node) (ns : List Node) → list_at t b.waiting ≡ m ∷ ns → y.lists ≡ insert (with_list t b.waiting ns) b.page (list_at t b.page ++ m ∷ [])
  moved m ns e =
      let head = same_head g m _ _ ns (top_list s b.waiting g) e in
      let tail = same_tail g m _ _ ns (top_list s b.waiting g) e in
      insert_twice_from_get t.lists y.lists b.waiting b.page ns (list_at t b.page ++ m ∷ []) (λ x. apart (sym x))
      (other b.waiting (λ x. apart (sym x)) ∙ live_has s b.waiting own.live.1.0 ∙ ap Some tail)
      (ap (λ n. get n b.page) pushed ∙ get-insert_same s.lists b.page (list_at s b.page ++ g ∷ []) ∙ (λ i. Some (sym page_same i ++ head i ∷ [])))
      (λ q nw np. other q np ∙ sym (get-insert_other s.lists b.waiting (g ∷ list_at s b.waiting) q nw))

  pub top_went : Went b d t y g
  top_went = went_from b d t y g ids frozen stopped own_top (ap (λ xs. slice_get xs 0) (top_list s b.waiting g)) moved
