-- The list of a footnote.
use Rattle.std.proofs.Common.{◌≡◌, ◌≢◌, refl, sym, subst, ◌∙◌, ap, ℕ, ℤ, neg_ℤ, ◌+◌, ◌<◌, Bool, true, false, List, [], ◌∷◌, ◌++◌, length, map, take, get_or, None, Some, append-nil}
use Rattle.std.specs.FinMap.{get}
use Rattle.std.proofs.lemmas.Bool.{true≢false}
use Rattle.std.proofs.lemmas.List.{map-append, take_more}
use Rattle.tb_pool.specs.Lists.{Lists, IsLive, list_at, with_list}
use Rattle.tb_pool.proofs.CallerLemmas.{list_same, live_same, get_other, with_list-same}
use Rattle.tb_column.proofs.StoreLemmas.{with_list-added}
use Rattle.tb_node.specs.declared.Node.{Node}
use Rattle.tb_node.specs.declared.Insertion.{Insertion}
use Rattle.tb_node.specs.declared.Kind.TheVariants as kinds
use Rattle.tb_node.specs.PlainNodes.{matter_shape, matter_of, leaf_of, leaf_shape, shape_of, shape_of_kind, PlainKind, ins, plain_of, on_line}
use Rattle.tb_node.specs.Sums.{size_of}
use Rattle.tb_node.specs.Shape.{Shape}
use Rattle.tb_node.specs.SmallAmounts.{IsAmount}
use Rattle.tb_node.specs.Fit.{IsSummable}
use Rattle.tb_node.proofs.FitLemmas.{size_within}
use Rattle.tb_param.specs.declared.Params.{Params}
use Rattle.tb_builder.specs.declared.Builder.{Builder}
use Rattle.tb_builder.specs.Contents.{Contents, contents_of}
use Rattle.tb_builder.specs.Ownership.{Lacks, has_class, inner_ids, ids_of, owned, is_plain, AllPlain, classes_of}
use Rattle.tb_builder.specs.Courses.{IsSound}
use Rattle.tb_builder.specs.Contributions.{NodesJoin, MayWait, ends_in_kern}
use Rattle.tb_builder.proofs.Ownership.FrameLemmas.{live_all_same, frame_owned, frame_contents, frame_sound, insertion_joins, fresh_apart}
use Rattle.tb_builder.proofs.Ownership.OwnedLemmas.{AllSame, lacks-append}
use Rattle.tb_builder.proofs.Ownership.NewLemmas.{fresh_lacks}
use Rattle.tb_builder.proofs.Ranges.PageableLemmas.{size_amount}
use Rattle.tb_galley.specs.declared.Leaf.{Leaf}
use Rattle.tb_galley.specs.declared.LeafKind.{LeafKind}
use Rattle.tb_galley.specs.declared.LeafKind.TheVariants as leaves
use Rattle.tb_galley.specs.GalleyNodes.{leaf_matter, plain_leaf, foot_insertion, enlarge_list, enlarge_insertion}
use Rattle.tb_items.specs.WaitingNodes.{CanTake, Waits, leaf_kind, leaf_list, enlarging_list}

-- one leaf further
pub leaf-added : (s t u : Lists Node) (l : ℕ) (ls : List Leaf) (i : ℕ) (x : Leaf) → i < length ls → x ≡ get_or ls i x → t.lists ≡ with_list s l (list_at s l ++ leaf_list (take i ls)) → u.lists ≡ with_list t l (list_at t l ++ record { line = x.line; kind = leaf_kind x.kind } ∷ [])
    → u.lists ≡ with_list s l (list_at s l ++ leaf_list (take (i + 1) ls))
leaf-added s t u l ls i x within is so_far put =
    with_list-added s t u l (leaf_list (take i ls)) (leaf_list (x ∷ [])) so_far put
    ∙ ap (λ xs. with_list s l (list_at s l ++ xs)) (sym (ap leaf_list (take_more ls i x within) ∙ ap (λ y. leaf_list (take i ls ++ y ∷ [])) (sym is) ∙ map-append (λ (y : Leaf). record { line = y.line; kind = leaf_kind y.kind }) (take i ls) (x ∷ [])))

pub no-leaf : (s : Lists Node) (l : ℕ) → IsLive s l → s.lists ≡ with_list s l (list_at s l ++ [])
no-leaf s l live = with_list-same s s l live refl ∙ ap (with_list s l) (sym (append-nil (list_at s l)))

-- the room of a list that can be summed is an amount
pub room-small : (ns : List Shape) → IsSummable ns → IsAmount (size_of ns)
room-small ns can = size_amount (length ns) (size_of ns) can.few (size_within ns can.sized)

-- ---- the nodes of the list

kind-plain : (k : LeafKind) → is_plain (leaf_kind k) ≡ true
kind-plain (leaves.Hbox name h d) = refl
kind-plain k = refl

kind-matter : (k : LeafKind) → matter_of (leaf_kind k) ≡ leaf_matter k
kind-matter (leaves.Hbox name h d) = refl
kind-matter k = refl

kind-shape : (k : LeafKind) → shape_of_kind (leaf_kind k) ≡ matter_shape (leaf_matter k)
kind-shape (leaves.Hbox name h d) = refl
kind-shape k = refl

list-plain : (ls : List Leaf) → AllPlain (leaf_list ls)
list-plain [] = tt
list-plain (l ∷ ls) = (kind-plain l.kind, list-plain ls)

list-leaves : (ls : List Leaf) → map leaf_of (leaf_list ls) ≡ map plain_leaf ls
list-leaves [] = refl
list-leaves (l ∷ ls) = λ i. record { line = l.line; matter = kind-matter l.kind i } ∷ list-leaves ls i

list-shapes : (ls : List Leaf) → map shape_of (leaf_list ls) ≡ map leaf_shape (map plain_leaf ls)
list-shapes [] = refl
list-shapes (l ∷ ls) = λ i. kind-shape l.kind i ∷ list-shapes ls i

-- ---- an insertion with a list of its own is handed over

module _ (b : Builder) (s e t : Lists Node) (l : ℕ) (xs : List Node) (can : CanTake b s) (fresh : get s.lists l ≡ None) (opened : e.lists ≡ with_list s l []) (put : t.lists ≡ with_list e l (list_at e l ++ xs)) where
  pub own-list : list_at t l ≡ xs
  own-list = list_same e t l (list_at e l ++ xs) put ∙ ap (λ ns. ns ++ xs) (list_same s e l [] opened)

  pub own-live : IsLive t l
  own-live = live_same e t l (list_at e l ++ xs) put

  not-new : (q : ℕ) → IsLive s q → q ≢ l
  not-new q live x = (fresh_lacks s l (q ∷ []) fresh (live, tt)).0 (sym x)

  others-own : (q : ℕ) → IsLive s q → get t.lists q ≡ get s.lists q
  others-own q live = get_other e t l (list_at e l ++ xs) q (not-new q live) put ∙ get_other s e l [] q (not-new q live) opened

  same-own : AllSame s t (owned (ids_of b) s)
  same-own = live_all_same s t (owned (ids_of b) s) others-own can.sound.own.live

  pub own-sound : IsSound b t
  own-sound = frame_sound b s t can.sound same-own

  own-contents : contents_of b t ≡ contents_of b s
  own-contents = frame_contents b s t can.sound same-own

  own-owned : owned (ids_of b) t ≡ owned (ids_of b) s
  own-owned = frame_owned b s t can.sound same-own

  own-apart : Lacks l (owned (ids_of b) t)
  own-apart = subst (Lacks l) (sym own-owned) (fresh_apart (ids_of b) s l can.sound.own fresh)

  module _ (line class : ℕ) (i : Insertion) (class-is : i.class ≡ class) (list : i.list ≡ l) (known : has_class (contents_of b s).classes class ≡ true) where
    abbrev n : Node
    n = record { line = line; kind = kinds.Ins i }

    pub own-joins : AllPlain xs → NodesJoin (ids_of b) t (n ∷ [])
    own-joins plain =
        insertion_joins (ids_of b) t n l own-sound.own (ap (λ x. Some x) list) own-live own-apart (subst AllPlain (sym own-list) plain)
        (ap (has_class (classes_of (ids_of b))) class-is ∙ known)

    pub own-may : MayWait (contents_of b t) (plain_of (list_at t) n)
    own-may = λ kern acts. absurd (true≢false (sym kern ∙ ap (λ (c : Contents). ends_in_kern c.page) own-contents ∙ can.no_kern))

    pub own-waits : (k : PlainKind) → plain_of (list_at t) n ≡ record { line = line; kind = k } → (d : Builder) (u : Lists Node) → IsSound d u
        → contents_of d u ≡ record (contents_of b t) { waiting = (contents_of b t).waiting ++ plain_of (list_at t) n ∷ [] }
        → ((q : ℕ) → Lacks q (owned (ids_of b) t) → get u.lists q ≡ get t.lists q) → ((q : ℕ) → Lacks q (owned (ids_of b) t ++ inner_ids (n ∷ [])) → Lacks q (owned (ids_of d) u))
        → Waits (on_line line (k ∷ [])) b s d u
    own-waits k is d u sound contents others keeps = record {
      sound = sound;
      contents = contents ∙ (λ j. record (own-contents j) { waiting = (own-contents j).waiting ++ is j ∷ [] });
      others = λ q live apart. others q (subst (Lacks q) (sym own-owned) apart) ∙ others-own q live;
      apart = λ q live apart.
          keeps q (lacks-append q (owned (ids_of b) t) (inner_ids (n ∷ [])) (subst (Lacks q) (sym own-owned) apart) ((λ x. not-new q live (x ∙ list)), tt));
    }

-- ---- a footnote is handed over

module _ (b : Builder) (s e t : Lists Node) (l : ℕ) (ls : List Leaf) (can : CanTake b s) (fresh : get s.lists l ≡ None) (opened : e.lists ≡ with_list s l []) (put : t.lists ≡ with_list e l (list_at e l ++ leaf_list ls)) where
  pub foot-list : list_at t l ≡ leaf_list ls
  foot-list = own-list b s e t l (leaf_list ls) can fresh opened put

  pub foot-live : IsLive t l
  foot-live = own-live b s e t l (leaf_list ls) can fresh opened put

  pub foot-sound : IsSound b t
  foot-sound = own-sound b s e t l (leaf_list ls) can fresh opened put

  module _ (line class : ℕ) (i : Insertion) (class-is : i.class ≡ class) (list : i.list ≡ l) (known : has_class (contents_of b s).classes class ≡ true) where
    abbrev m : Node
    m = record { line = line; kind = kinds.Ins i }

    pub foot-joins : NodesJoin (ids_of b) t (m ∷ [])
    foot-joins = own-joins b s e t l (leaf_list ls) can fresh opened put line class i class-is list known (list-plain ls)

    pub foot-may : MayWait (contents_of b t) (plain_of (list_at t) m)
    foot-may = own-may b s e t l (leaf_list ls) can fresh opened put line class i class-is list known

    module _ (p : Params) (height : i.height ≡ size_of (map shape_of (list_at t l))) (depth : i.split_depth ≡ p.footsplitdepth) (top : i.split_top ≡ p.footsplittop) (floating : i.floating ≡ p.footfloating) where
      inner-is : map leaf_of (list_at t i.list) ≡ map plain_leaf ls
      inner-is = ap (λ x. map leaf_of (list_at t x)) list ∙ ap (map leaf_of) foot-list ∙ list-leaves ls

      height-is : i.height ≡ size_of (map leaf_shape (map plain_leaf ls))
      height-is = height ∙ ap (λ ns. size_of (map shape_of ns)) foot-list ∙ ap size_of (list-shapes ls)

      foot-is : plain_of (list_at t) m ≡ record { line = line; kind = foot_insertion p class (map plain_leaf ls) }
      foot-is = λ j. record {
        line = line;
        kind = ins (record { class = class-is j; inner = inner-is j; height = height-is j; split_depth = depth j; split_top = top j; floating = floating j });
      }

      pub foot-waits : (d : Builder) (u : Lists Node) → IsSound d u → contents_of d u ≡ record (contents_of b t) { waiting = (contents_of b t).waiting ++ plain_of (list_at t) m ∷ [] }
          → ((q : ℕ) → Lacks q (owned (ids_of b) t) → get u.lists q ≡ get t.lists q) → ((q : ℕ) → Lacks q (owned (ids_of b) t ++ inner_ids (m ∷ [])) → Lacks q (owned (ids_of d) u))
          → Waits (on_line line (foot_insertion p class (map plain_leaf ls) ∷ [])) b s d u
      foot-waits d u sound contents others keeps =
          own-waits b s e t l (leaf_list ls) can fresh opened put line class i class-is list known (foot_insertion p class (map plain_leaf ls)) foot-is d u sound contents others keeps

-- ---- a page that is made higher is handed over

enlarging-plain : (by : ℤ) (star : Bool) → AllPlain (enlarging_list by star)
enlarging-plain by true = (refl, (refl, tt))
enlarging-plain by false = (refl, tt)

enlarging-leaves : (by : ℤ) (star : Bool) → map leaf_of (enlarging_list by star) ≡ enlarge_list by star
enlarging-leaves by true = refl
enlarging-leaves by false = refl

module _ (b : Builder) (s e t : Lists Node) (l : ℕ) (by : ℤ) (star : Bool) (can : CanTake b s) (fresh : get s.lists l ≡ None) (opened : e.lists ≡ with_list s l []) (put : t.lists ≡ with_list e l (list_at e l ++ enlarging_list by star)) where
  pub enlarging-sound : IsSound b t
  enlarging-sound = own-sound b s e t l (enlarging_list by star) can fresh opened put

  module _ (line : ℕ) (i : Insertion) (class-is : i.class ≡ 255) (list : i.list ≡ l) (known : has_class (contents_of b s).classes 255 ≡ true) where
    abbrev higher : Node
    higher = record { line = line; kind = kinds.Ins i }

    pub enlarging-joins : NodesJoin (ids_of b) t (higher ∷ [])
    enlarging-joins = own-joins b s e t l (enlarging_list by star) can fresh opened put line 255 i class-is list known (enlarging-plain by star)

    pub enlarging-may : MayWait (contents_of b t) (plain_of (list_at t) higher)
    enlarging-may = own-may b s e t l (enlarging_list by star) can fresh opened put line 255 i class-is list known

    module _ (p : Params) (height : i.height ≡ neg_ℤ by) (depth : i.split_depth ≡ p.splitmaxdepth) (top : i.split_top ≡ p.splittopskip) (floating : i.floating ≡ p.floatingpenalty) where
      held-is : map leaf_of (list_at t i.list) ≡ enlarge_list by star
      held-is = ap (λ x. map leaf_of (list_at t x)) list ∙ ap (map leaf_of) (own-list b s e t l (enlarging_list by star) can fresh opened put) ∙ enlarging-leaves by star

      enlarging-is : plain_of (list_at t) higher ≡ record { line = line; kind = enlarge_insertion p by star }
      enlarging-is = λ j. record {
        line = line;
        kind = ins (record { class = class-is j; inner = held-is j; height = height j; split_depth = depth j; split_top = top j; floating = floating j });
      }

      pub enlarging-waits : (d : Builder) (u : Lists Node) → IsSound d u → contents_of d u ≡ record (contents_of b t) { waiting = (contents_of b t).waiting ++ plain_of (list_at t) higher ∷ [] }
          → ((q : ℕ) → Lacks q (owned (ids_of b) t) → get u.lists q ≡ get t.lists q) → ((q : ℕ) → Lacks q (owned (ids_of b) t ++ inner_ids (higher ∷ [])) → Lacks q (owned (ids_of d) u))
          → Waits (on_line line (enlarge_insertion p by star ∷ [])) b s d u
      enlarging-waits d u sound contents others keeps =
          own-waits b s e t l (enlarging_list by star) can fresh opened put line 255 i class-is list known (enlarge_insertion p by star) enlarging-is d u sound contents others keeps
