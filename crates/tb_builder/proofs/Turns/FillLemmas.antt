-- What the builder holds, after its lists were written.
use Rattle.std.proofs.Common.{◌≡◌, refl, sym, subst, ◌∙◌, ap, true, List, [], ◌∷◌, ◌++◌, ◌||◌, map, Some, None}
use Rattle.std.specs.Prelude.{slice_get}
use Rattle.std.proofs.lemmas.List.{map-append}
use Rattle.std.specs.FinMap.{insert}
use Rattle.tb_pool.specs.Lists.{Lists, list_at, with_list}
use Rattle.tb_node.specs.Roles.{insertion_of_role}
use Rattle.tb_node.specs.declared.Role.TheVariants as roles
use Rattle.tb_node.specs.declared.Role.{Role}
use Rattle.tb_node.specs.declared.Insertion.{Insertion}
use Rattle.tb_node.specs.declared.Node.{Node}
use Rattle.tb_node.specs.PlainNodes.{plain_of, plain_list}
use Rattle.tb_break.proofs.StoreLemmas.{some_first}
use Rattle.tb_builder.specs.declared.Builder.{Builder}
use Rattle.tb_builder.specs.Ownership.{Lacks, Ids, ids_of, owned, IsOwned}
use Rattle.tb_builder.specs.Contents.{contents_of, boxed_of}
use Rattle.tb_builder.specs.Reach.{holds_box}
use Rattle.tb_builder.specs.PageTurns.{ChangesPage, Shifted}
use Rattle.tb_builder.proofs.Turns.MoveLemmas.{Written, written_shift, written_own, written_others, written_keeps, written_held, written_page, written_waiting, written_boxes}
use Rattle.tb_builder.proofs.Turns.PastLemmas.{holds-both}

-- the first node, and what comes after it
pub first_is : (ns : List Node) (n : Node) → slice_get ns 0 ≡ Some n → (ms : List Node) × (ns ≡ n ∷ ms)
first_is ns n e = some_first ns n (sym e)

-- a list has one first node
pub same_first : (xs : List Node) (n m : Node) → slice_get xs 0 ≡ Some n → slice_get xs 0 ≡ Some m → n ≡ m
same_first xs n m e h = let s : Some n ≡ Some m = sym e ∙ h in cc

module _ (b d : Builder) (s t : Lists Node) (xs ys : List Node) (same : ids_of d ≡ ids_of b) (own : IsOwned (ids_of b) s) (w : Written (ids_of b) s t xs ys) where
  pub moves_from : ChangesPage b s d t
  moves_from = record {
    own = subst (λ i. IsOwned i t) (sym same) (written_own (ids_of b) s t xs ys own w);
    frame = record {
      others = λ q h. written_others (ids_of b) s t xs ys own w q h;
      apart = λ q h. subst (λ i. Lacks q (owned i t)) (sym same) (written_keeps (ids_of b) s t xs ys own w q h);
    };
    classes = ap (λ (i : Ids). map (λ e. e.class) i.boxes) same;
    boxes = ap (λ (i : Ids). map (boxed_of t) i.boxes) same ∙ written_boxes (ids_of b) s t xs ys own w;
    held = ap (λ (i : Ids). plain_list t i.held) same ∙ written_held (ids_of b) s t xs ys own w;
  }

  pub page_from : (contents_of d t).page ≡ map (plain_of (list_at s)) xs
  page_from = ap (λ (i : Ids). plain_list t i.page) same ∙ written_page (ids_of b) s t xs ys own w

  pub waiting_from : (contents_of d t).waiting ≡ map (plain_of (list_at s)) ys
  waiting_from = ap (λ (i : Ids). plain_list t i.waiting) same ∙ written_waiting (ids_of b) s t xs ys own w

-- the first waiting node went on the page
pub shifted_from : (b d : Builder) (s t : Lists Node) (n : Node) (ns : List Node) → ids_of d ≡ ids_of b → IsOwned (ids_of b) s → list_at s b.waiting ≡ n ∷ ns → Written (ids_of b) s t (list_at s b.page ++ n ∷ []) ns
    → d.frozen ≡ b.frozen → d.stopped ≡ b.stopped → Shifted (plain_of (list_at s) n) (contents_of b s) (contents_of d t)
shifted_from b d s t n ns same own first w frozen stopped = record {
  waiting = ap (map (plain_of (list_at s))) first ∙ ap (λ ms. plain_of (list_at s) n ∷ ms) (sym (waiting_from b d s t (list_at s b.page ++ n ∷ []) ns same own w));
  page = page_from b d s t (list_at s b.page ++ n ∷ []) ns same own w ∙ map-append (plain_of (list_at s)) (list_at s b.page) (n ∷ []);
  frozen = frozen;
  stopped = stopped;
}

-- a role that is not that of an insertion has none
pub no_insertion_role : (r : Role) → ((i : Insertion) → r ≡ roles.Insertion i → ⊥) → insertion_of_role r ≡ None
no_insertion_role roles.Matter h = refl
no_insertion_role (roles.Insertion i) h = absurd (h i refl)
no_insertion_role (roles.Act a) h = refl

-- the tail of a list that begins with this node
pub behind_is : (xs ys zs : List Node) (n : Node) → xs ≡ n ∷ ys → xs ≡ n ∷ zs → ys ≡ zs
behind_is xs ys zs n e f = let g : (n ∷ ys) ≡ (n ∷ zs) = sym e ∙ f in cc

-- the first waiting node went on the page: what the builder holds then
pub record Went (b d : Builder) (s t : Lists Node) (n : Node) : Type 0 where
  pub moves : ChangesPage b s d t
  pub shifted : Shifted (plain_of (list_at s) n) (contents_of b s) (contents_of d t)
  pub behind : (m : Node) (ns : List Node) → list_at s b.waiting ≡ m ∷ ns → list_at t b.waiting ≡ ns
  pub boxed : holds_box (contents_of b s).page ≡ true → holds_box (contents_of d t).page ≡ true

-- the store moved the node, and the builder kept its lists, its frozen goal and whether it stopped
pub went_from : (b d : Builder) (s t : Lists Node) (n : Node) → ids_of d ≡ ids_of b → d.frozen ≡ b.frozen → d.stopped ≡ b.stopped → IsOwned (ids_of b) s → slice_get (list_at s b.waiting) 0 ≡ Some n
    → ((m : Node) (ns : List Node) → list_at s b.waiting ≡ m ∷ ns → t.lists ≡ insert (with_list s b.waiting ns) b.page (list_at s b.page ++ m ∷ [])) → Went b d s t n
went_from b d s t n same frozen stopped own first moved =
    let f = first_is (list_at s b.waiting) n first in
    let w = written_shift (ids_of b) s t n f.0 own f.1 (moved n f.0 f.1) in
    let shifted = shifted_from b d s t n f.0 same own f.1 w frozen stopped in
    record {
      moves = moves_from b d s t _ _ same own w;
      shifted = shifted;
      behind = λ m ns e.
          let whole : (n ∷ f.0) ≡ (m ∷ ns) = sym f.1 ∙ e in
          w.waiting_is ∙ cc;
      boxed = λ holds. ap holds_box shifted.page ∙ holds-both (contents_of b s).page (plain_of (list_at s) n ∷ []) ∙ ap (λ x. x || holds_box (plain_of (list_at s) n ∷ [])) holds;
    }
