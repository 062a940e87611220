-- The room and the depth of a text: what was told of the held page, and what its last nodes say.
use Rattle.std.proofs.Common.{◌≡◌, ◌≢◌, refl, sym, subst, ◌∙◌, ap, ℕ, suc, ◌+◌, ◌≤◌, ℤ, pos, ◌+ℤ◌, List, [], ◌∷◌, ◌++◌, map, take, length, length-take, Bool, true, false, not, Option, Some, None, is_some, unwrap_or, arith}
use Rattle.std.specs.Prelude.{All, IfSome, IfNone}
use Rattle.std.specs.FinMap.{get}
use Rattle.std.specs.List.{slice_get}
use Rattle.std.proofs.lemmas.Int.{ints}
use Rattle.std.proofs.lemmas.List.{take_all}
use Rattle.std.proofs.lemmas.List.Elements.{All-take}
use Rattle.tb_pool.specs.Lists.{Lists, list_at, with_list}
use Rattle.tb_pool.proofs.CallerLemmas.{list_same, live_same, get_other}
use Rattle.tb_node.specs.declared.Kind.{Kind}
use Rattle.tb_node.specs.declared.Kind.TheVariants as kinds
use Rattle.tb_node.specs.declared.Node.{Node}
use Rattle.tb_node.specs.PlainNodes.{shape_of, shape_of_kind}
use Rattle.tb_node.specs.Fit.{IsSizedNode}
use Rattle.tb_node.specs.Sums.{size_of, depth_after, depth_from, last_depth}
use Rattle.tb_scaled.specs.Amount.{IsAmount}
use Rattle.tb_float.proofs.ListLemmas.{take-at, some-at}
use Rattle.tb_column.specs.Page.{AreLeaves, IsPageList}
use Rattle.tb_output.specs.Extents.{kind_depth, depth_there}
use Rattle.tb_output.specs.Machine.{IsRoomOf}
use Rattle.tb_output.proofs.ColumnPages.SizeLemmas.{taken}
use Rattle.tb_output.proofs.Clears.ClearSteps.{leaves-take}
use Rattle.tb_sheet.proofs.StandLemmas.{list-same, list-stands}

-- ---- the room of the held page

-- it is known if there are nodes
pub room-there : (ns : List Node) (room : ℤ) → IsRoomOf ns room → (length ns ≡ 0 → ⊥) → room ≡ size_of (map shape_of ns)
room-there [] room h some = absurd (some refl)
room-there (n ∷ ns) room h some = h

pub no-room : (ns : List Node) → length ns ≡ 0 → pos 0 ≡ size_of (map shape_of ns)
no-room [] none = refl
no-room (n ∷ ns) none = cc

-- the room of a page's list is an amount
pub page-amount : (store : Lists Node) (l : ℕ) → IsPageList store l → IsAmount (size_of (map shape_of (list_at store l)))
page-amount store l page = (taken (list_at store l) (size_of (map shape_of (list_at store l))) (last_depth (map shape_of (list_at store l))) page.sized page.few refl refl).small

-- two lists take the sum of their rooms
pub room-both : (xs ys : List Node) → size_of (map shape_of xs) +ℤ size_of (map shape_of ys) ≡ size_of (map shape_of (xs ++ ys))
room-both [] ys = omega (arith, ints)
room-both (x ∷ xs) ys = let h : size_of (map shape_of xs) +ℤ size_of (map shape_of ys) ≡ size_of (map shape_of (xs ++ ys)) = room-both xs ys in omega (arith, ints, h)

-- ---- the page loses its last nodes

module _ (a b : Lists Node) (l k : ℕ) (cut : b.lists ≡ with_list a l (take k (list_at a l))) where
  -- it is a page's list still
  pub page-cut : IsPageList a l → IsPageList b l
  page-cut page =
      let same : list_at b l ≡ take k (list_at a l) = list_same a b l (take k (list_at a l)) cut in
      record {
        live = live_same a b l (take k (list_at a l)) cut;
        leaves = subst AreLeaves (sym same) (leaves-take k (list_at a l) page.leaves);
        sized = subst (All IsSizedNode) (sym same) (All-take IsSizedNode k (list_at a l) page.sized);
        few = let least = length-take k (list_at a l) in let most = page.few in let n = ap length same in omega (arith, least, most, n);
      }

  -- and so is another list, of the same room
  pub held-cut : (q : ℕ) → q ≢ l → IsPageList a q → IsPageList b q
  held-cut q ne page = list-stands a b q (get_other a b l (take k (list_at a l)) q ne cut) page

  pub room-cut : (q : ℕ) (room : ℤ) → q ≢ l → IsRoomOf (list_at a q) room → IsRoomOf (list_at b q) room
  room-cut q room ne h = subst (λ (ns : List Node). IsRoomOf ns room) (sym (list-same a b q (get_other a b l (take k (list_at a l)) q ne cut))) h

  -- what goes back takes the room of both
  pub room-back : (new : Lists Node) (q back : ℕ) (room : ℤ) → q ≢ l → room ≡ size_of (map shape_of (list_at b q)) +ℤ size_of (map shape_of (list_at b l)) → list_at a back ≡ [] → get new.lists back ≡ Some (list_at a back ++ (list_at a q ++ take k (list_at a l))) → room ≡ size_of (map shape_of (list_at new back))
  room-back new q back room ne is empty there =
      let body : list_at b l ≡ take k (list_at a l) = list_same a b l (take k (list_at a l)) cut in
      let held : list_at b q ≡ list_at a q = list-same a b q (get_other a b l (take k (list_at a l)) q ne cut) in
      let now : list_at new back ≡ list_at a back ++ (list_at a q ++ take k (list_at a l)) = ap (λ (o : Option (List Node)). unwrap_or o []) there in
      is
      ∙ (λ i. size_of (map shape_of (held i)) +ℤ size_of (map shape_of (body i)))
      ∙ room-both (list_at a q) (take k (list_at a l))
      ∙ ap (λ (ns : List Node). size_of (map shape_of (ns ++ (list_at a q ++ take k (list_at a l))))) (sym empty)
      ∙ ap (λ (ns : List Node). size_of (map shape_of ns)) (sym now)

  -- and it has the depth of what was behind the held page, if none is held
  pub depth-back : (new : Lists Node) (q back : ℕ) (depth : ℤ) → q ≢ l → depth ≡ last_depth (map shape_of (list_at b l)) → list_at b q ≡ [] → list_at a back ≡ [] → get new.lists back ≡ Some (list_at a back ++ (list_at a q ++ take k (list_at a l))) → depth ≡ last_depth (map shape_of (list_at new back))
  depth-back new q back depth ne is none empty there =
      let body : list_at b l ≡ take k (list_at a l) = list_same a b l (take k (list_at a l)) cut in
      let held : list_at b q ≡ list_at a q = list-same a b q (get_other a b l (take k (list_at a l)) q ne cut) in
      let now : list_at new back ≡ list_at a back ++ (list_at a q ++ take k (list_at a l)) = ap (λ (o : Option (List Node)). unwrap_or o []) there in
      is
      ∙ ap (λ (ns : List Node). last_depth (map shape_of ns)) body
      ∙ (λ i. last_depth (map shape_of (sym empty i ++ ((sym none ∙ held) i ++ take k (list_at a l)))))
      ∙ ap (λ (ns : List Node). last_depth (map shape_of ns)) (sym now)

-- ---- the depth at the end

told-after : (d e : ℤ) (k : Kind) → kind_depth k ≡ Some e → depth_after d (shape_of_kind k) ≡ e
told-after d e (kinds.Hbox what h x) is = cc
told-after d e k is = cc

untold-after : (d : ℤ) (k : Kind) → kind_depth k ≡ None → depth_after d (shape_of_kind k) ≡ d
untold-after d (kinds.Hbox what h x) is = cc
untold-after d (kinds.Rule name h x) is = cc
untold-after d (kinds.Skip g) is = cc
untold-after d (kinds.Kern w) is = cc
untold-after d k is = refl

depth-then : (d : ℤ) (ns : List Node) (n : Node) → depth_from d (map shape_of (ns ++ n ∷ [])) ≡ depth_after (depth_from d (map shape_of ns)) (shape_of n)
depth-then d [] n = refl
depth-then d (m ∷ ns) n = depth-then (depth_after d (shape_of m)) ns n

-- no depth was found yet
pub none-there : (o : Option ℤ) (b : Bool) → is_some o ≡ not b → b ≡ true → o ≡ None
none-there None b e t = refl
none-there (Some d) b e t = let no : true ≡ false = e ∙ ap not t in cc

-- the depth was found, or it is that of the nodes that are left
pub record IsLooked (ns : List Node) (left : ℕ) (o : Option ℤ) : Type 0 where
  pub within : left ≤ length ns
  pub found : IfSome o (λ d. d ≡ last_depth (map shape_of ns))
  pub still : IfNone o (last_depth (map shape_of (take left ns)) ≡ last_depth (map shape_of ns))

pub look-begun : (ns : List Node) (left : ℕ) → left ≡ length ns → IsLooked ns left None
look-begun ns left is = record { within = omega (arith, is); found = tt; still = ap (λ (xs : List Node). last_depth (map shape_of xs)) (take_all left ns (omega (arith, is))) }

looked-at : (ns : List Node) (k : ℕ) (n : Node) (o : Option ℤ) → k ≤ length ns → last_depth (map shape_of (take k ns ++ n ∷ [])) ≡ last_depth (map shape_of ns) → kind_depth n.kind ≡ o → IsLooked ns k o
looked-at ns k n None within same is = record {
  within = within;
  found = tt;
  still = sym (untold-after (last_depth (map shape_of (take k ns))) n.kind is) ∙ sym (depth-then (pos 0) (take k ns) n) ∙ same;
}
looked-at ns k n (Some d) within same is = record {
  within = within;
  found = sym (told-after (last_depth (map shape_of (take k ns))) d n.kind is) ∙ sym (depth-then (pos 0) (take k ns) n) ∙ same;
  still = tt;
}

-- one more node is looked at
pub look-on : (ns : List Node) (left k : ℕ) (o next : Option ℤ) → IsLooked ns left o → o ≡ None → left ≡ k + 1 → next ≡ depth_there (slice_get ns k) → IsLooked ns k next
look-on ns left k o next h none is e =
    let within : left ≤ length ns = h.within in
    let there = some-at ns k (omega (arith, is, within)) in
    let left_is : left ≡ suc k = omega (arith, is) in
    let still : last_depth (map shape_of (take left ns)) ≡ last_depth (map shape_of ns) = subst (λ (x : Option ℤ). IfNone x (last_depth (map shape_of (take left ns)) ≡ last_depth (map shape_of ns))) none h.still in
    looked-at ns k there.0 next (omega (arith, is, within))
    (ap (λ (xs : List Node). last_depth (map shape_of xs)) (sym (ap (λ i. take i ns) left_is ∙ take-at ns k there.0 there.1)) ∙ still)
    (sym (e ∙ ap depth_there there.1))
